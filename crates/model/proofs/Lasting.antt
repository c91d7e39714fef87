-- What has ended never lives again. Assumes nothing.
use Rattle.std.proofs.Common.{◌≡◌, ℕ, ◌<◌, Bool, true, false, cond, eqb, [], ◌∷◌, ◌++◌, Some, None, Option, refl, ap, ◌∙◌, arith}
use Rattle.std.proofs.lemmas.Bool.{ne_eqb}
use Rattle.operations.specs.declared.code.Code.{Code}
use Rattle.operations.specs.declared.code.Code.TheVariants.{Call, Ret, Grab, Release}
use Rattle.heaps.specs.Rule.{Block}
use Rattle.model.specs.Grants.{Outline, is_frame, over}
use Rattle.model.specs.Sights.{Seen, seen, restarted}
use Rattle.model.specs.Lives.{Lives, with_birth, without, youngest_frame, block_born, ended_by, changed, lives, Later, NeverAgain}

later_same : (l : Lives) → Later l l
later_same l = record { more = omega arith; kind = λ g h. refl; start = λ g h. refl; asked = λ g h. refl; held = λ g h. refl; ended = λ g h e. e }

later_more : (a b c : Lives) → Later a b → Later b c → Later a c
later_more a b c x y =
    let m = x.more in
    let n = y.more in
    record {
      more = omega arith;
      kind = λ g h. y.kind g (omega arith) ∙ x.kind g h;
      start = λ g h. y.start g (omega arith) ∙ x.start g h;
      asked = λ g h. y.asked g (omega arith) ∙ x.asked g h;
      held = λ g h. y.held g (omega arith) ∙ x.held g h;
      ended = λ g h e. y.ended g (omega arith) (x.ended g h e);
    }

-- some of them end
module _ (l : Lives) (test : ℕ → Bool) where
  later_over : Later l (without l test)
  later_over = record {
    more = omega arith;
    kind = λ g h. (each (test g) (l.of g)).0;
    start = λ g h. (each (test g) (l.of g)).1;
    asked = λ g h. (each (test g) (l.of g)).2;
    held = λ g h. (each (test g) (l.of g)).3;
    ended = λ g h e. stays (test g) (l.of g) e;
  }
    where
      each : (b : Bool) (o : Outline) → ((cond b (over o) o).kind ≡ o.kind) × ((cond b (over o) o).start ≡ o.start) × ((cond b (over o) o).asked ≡ o.asked) × ((cond b (over o) o).held ≡ o.held)
      each true o = (refl, refl, refl, refl)
      each false o = (refl, refl, refl, refl)

      stays : (b : Bool) (o : Outline) → o.living ≡ false → (cond b (over o) o).living ≡ false
      stays true o e = refl
      stays false o e = e

later_birth : (l : Lives) (o : Outline) → Later l (with_birth l o)
later_birth l o = record {
  more = omega arith;
  kind = λ g h. ap (λ (x : Outline). x.kind) (old g h);
  start = λ g h. ap (λ (x : Outline). x.start) (old g h);
  asked = λ g h. ap (λ (x : Outline). x.asked) (old g h);
  held = λ g h. ap (λ (x : Outline). x.held) (old g h);
  ended = λ g h e. ap (λ (x : Outline). x.living) (old g h) ∙ e;
}
  where
    old : (g : ℕ) → g < l.many → (with_birth l o).of g ≡ l.of g
    old g h = rw (ne_eqb g l.many (omega arith))

later_if : (b : Bool) (l l' : Lives) → Later l l' → Later l (cond b l' l)
later_if true l l' h = h
later_if false l l' h = later_same l

later_block : (a : Option Block) (n : ℕ) (l : Lives) → Later l (block_born a n l)
later_block None n l = later_same l
later_block (Some b) n l = later_birth l _

later_ended : (t : Option ℕ) (l : Lives) → Later l (ended_by t l)
later_ended None l = later_same l
later_ended (Some g) l = later_over l (λ h. eqb h g)

later_step : (c : Code) (e : Seen) (l : Lives) → Later l (changed c e l)
later_step Call e l = later_if e.passed l _ (later_birth l _)
later_step Ret e l = later_if e.passed l _ (later_over l (λ h. eqb h (youngest_frame l)))
later_step Grab e l = later_if e.keyed l _ (later_block e.answer e.asked l)
later_step Release e l = later_if e.passed l _ (later_ended e.from l)
later_step _ e l = later_same l

pub never_again : NeverAgain
never_again old [] = later_same (lives old)
never_again old (seen e ∷ new) = later_more (lives old) (lives (new ++ old)) _ (never_again old new) (later_step e.code e (lives (new ++ old)))
never_again old (restarted ∷ new) = later_more (lives old) (lives (new ++ old)) _ (never_again old new) (later_over (lives (new ++ old)) (λ g. is_frame ((lives (new ++ old)).of g).kind))
