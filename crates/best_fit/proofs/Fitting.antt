-- Every block that the best-fit heap grants is the best fit. Assumes nothing.
use Rattle.std.proofs.Common.{◌≡◌, ℕ, ◌*◌, ◌<◌, ◌≤◌, false, List, Some, None, sym, refl, subst, ⊎_elim, arith}
use Rattle.std.proofs.lemmas.Bool.Decides.{nat_tests}
use Rattle.std.proofs.lemmas.Bool.{cases_lt}
use Rattle.heaps.specs.Rule.{Taken, Block}
use Rattle.heaps.proofs.Keeping.{reached_sound}
use Rattle.heaps.proofs.Laying.{some_none}
use Rattle.best_fit.specs.Rule.{before, cells_for, best_fit_held, best_fit_rule}
use Rattle.best_fit.specs.Fits.{IsGap, rounded, BestFit, AlwaysBest}
use Rattle.best_fit.specs.declared.gap.Gap.{Gap}
use Rattle.best_fit.specs.Choosing.{Yields}
use Rattle.best_fit.specs.Keeping.{Cells, chosen, usable, all_covered, finds, Took, no, yes, took, kept}

-- a gap that suffices is no smaller than the one chosen, and where it is as large lies no lower
record After (g : Gap) (a k : ℕ) : Type 0 where
  smaller : 8 * g.size ≤ k
  lower : 8 * g.size ≡ k → 8 * g.start ≤ a

after_chosen : (s : List ℕ) (need : ℕ) (g : Gap) (a k : ℕ) → Cells s → 1 ≤ need → chosen s need ≡ Some g → IsGap (best_fit_held s) a k → 8 * need ≤ k → After g a k
after_chosen s need g a k h p e i q =
    let c = all_covered s need a k h p i.free q i.inside in
    let w = c.whole in
    let same = i.whole (8 * c.around.start) (8 * c.around.size) w.inside w.free c.low c.high in
    placed c.around g a k same.0 same.1 (subst (Yields c.around) e c.first)
  where
    placed : (r g : Gap) (a k : ℕ) → 8 * r.start ≡ a → 8 * r.size ≡ k → before r g ≡ false → After g a k
    placed r g a k d e f =
        let le : g.size ≤ r.size = grind (arith, nat_tests) in
        record { smaller = omega arith; lower = λ z. let eq : g.size ≡ r.size = omega arith in let lo : g.start ≤ r.start = grind (arith, nat_tests) in omega arith }

grants : (s : List ℕ) (n : ℕ) (t : Taken (List ℕ)) (b : Block) → Took s n t → Cells s → t.answer ≡ Some b → BestFit (best_fit_held s) n b
grants s n t b (no f) h e = some_none (sym e)
grants s n t b (yes g p q f) h e =
    let u = usable s (cells_for n) g h (omega arith) f in
    let same : record { start = 8 * g.start; held = 8 * cells_for n } ≡ b = cc in
    subst (BestFit (best_fit_held s) n) same (record {
      held = omega arith;
      size = 8 * g.size;
      gap = u.whole;
      suffices = let z = u.enough in omega arith;
      smallest = λ a k i r. (after_chosen s (cells_for n) g a k h (omega arith) f i (omega arith)).smaller;
      lowest = λ a i. (after_chosen s (cells_for n) g a (8 * g.size) h (omega arith) f i (let z = u.enough in omega arith)).lower refl;
    })

refuses : (s : List ℕ) (n : ℕ) (t : Taken (List ℕ)) → Took s n t → Cells s → 1 ≤ n → n ≤ 4096 → t.answer ≡ None → (a k : ℕ) → IsGap (best_fit_held s) a k → k < rounded n
refuses s n t (yes g p q f) h l m e a k i = some_none e
refuses s n t (no f) h l m e a k i =
    ⊎_elim (λ z. z) (λ z. finds _ s (cells_for n) a k h (omega arith) i.free (omega arith) i.inside (f l m)) (cases_lt k (rounded n))

pub always_best : AlwaysBest
always_best s r n =
    let h = reached_sound best_fit_rule Cells kept s r in
    record { grants = λ b. grants s n _ b (took s n) h; refuses = refuses s n _ (took s n) h }
