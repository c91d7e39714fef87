-- The best-fit heap keeps the points of a heap. Assumes nothing.
use Rattle.std.specs.Prelude.{◌≡◌, ℕ, ◌+◌, ◌*◌, ◌/◌, ◌%◌, ◌<◌, ◌≤◌, Bool, true, false, cond, ◌&&◌, ltb, ◌⊎◌, List, length, is_some, Some, None, Option, IfSome, ◌==◌, nat_le, nat_lt, slice_index_or, slice_set, refl}
use Rattle.std.proofs.Common.{sym, subst, ◌∙◌, inl, inr, ⊎_elim, arith, length-set, get_or-set_same, get_or-set_other}
use Rattle.std.proofs.lemmas.Bool.Decides.{nat_tests}
use Rattle.std.proofs.lemmas.Bool.{cases_lt}
use Rattle.std.proofs.lemmas.List.{get_or_past}
use Rattle.heaps.specs.Rule.{Taken, Block}
use Rattle.heaps.specs.Points.{Points, Laid, Fit, Free, Grants, Takes, plus, minus}
use Rattle.heaps.proofs.Keeping.{Kept, points_by}
use Rattle.heaps.proofs.Laying.{some_none, laid_empty, laid_plus, laid_minus, vacant}
use Rattle.best_fit.specs.Rule.{best_of, cells_for, starts, best_fit_held, refused, placed, best_fit_take, given, best_fit_give, cleared, best_fit_rule}
use Rattle.best_fit.specs.declared.gap.Gap.{Gap}
use Rattle.best_fit.specs.Walk.{get_or_zeros}
use Rattle.best_fit.specs.Seen.{Seen}
use Rattle.best_fit.specs.Choosing.{Yields, Usable, Covered, found, covered}

-- what every call keeps
pub record Cells (s : List ℕ) : Type 0 where
  pub long : length s ≡ 512
  pub laid : Laid (best_fit_held s)

-- the gap that a search for so many cells ends with
abbrev pub chosen : List ℕ → ℕ → Option Gap
chosen s need = best_of need None 0 0 0 s

seen_start : (s : List ℕ) → Cells s → Seen (best_fit_held s) 0 0 s
seen_start s h = record {
  end = omega (arith, h.long);
  ahead = λ k. let z : (8 * (0 + k)) % 8 ≡ 0 = omega arith in let d : (8 * (0 + k)) / 8 ≡ k = omega arith in rw (z, d);
  past = λ x k p. inr (omega arith);
  edge = inl refl;
}

pub usable : (s : List ℕ) (need : ℕ) (g : Gap) → Cells s → 1 ≤ need → chosen s need ≡ Some g → Usable (best_fit_held s) need g
usable s need g h p e = subst (λ (o : Option Gap). IfSome o (Usable (best_fit_held s) need)) e (found (best_fit_held s) h.laid need p None 0 0 0 s (seen_start s h) (λ q. absurd (omega arith)) tt)

pub all_covered : (s : List ℕ) (need a n : ℕ) → Cells s → 1 ≤ need → Free (best_fit_held s) a n → 8 * need ≤ n → a + n ≤ 4096 → Covered (best_fit_held s) (chosen s need) a n
all_covered s need a n h p f q r = covered (best_fit_held s) h.laid need p None 0 0 0 s a n (seen_start s h) (λ z. absurd (omega arith)) f q (omega arith) r

-- where bytes enough are free, a gap is found
pub finds : (P : Type 0) (s : List ℕ) (need a n : ℕ) → Cells s → 1 ≤ need → Free (best_fit_held s) a n → 8 * need ≤ n → a + n ≤ 4096 → chosen s need ≡ None → P
finds P s need a n h p f q r e =
    let c = all_covered s need a n h p f q r in
    absurd (subst (Yields c.around) e c.first)

-- the ways of a take
pub data Took (s : List ℕ) (n : ℕ) : Taken (List ℕ) → Type 0 where
  no : (1 ≤ n → n ≤ 4096 → chosen s (cells_for n) ≡ None) → Took s n (refused s)
  yes : (g : Gap) → 1 ≤ n → n ≤ 4096 → chosen s (cells_for n) ≡ Some g → Took s n (placed s (cells_for n) (Some g))

pub took : (s : List ℕ) (n : ℕ) → Took s n (best_fit_take s n)
took s n = go (nat_le 1 n && nat_le n 4096) refl (chosen s (cells_for n)) refl
  where
    go : (a : Bool) → (nat_le 1 n && nat_le n 4096) ≡ a → (o : Option Gap) → chosen s (cells_for n) ≡ o → Took s n (cond a (placed s (cells_for n) o) (refused s))
    go true t (Some g) e = yes g (grind (arith, nat_tests)) (grind (arith, nat_tests)) e
    go true t None e = no (λ _ _. e)
    go false t o e = no (λ p q. let z : (nat_le 1 n && nat_le n 4096) ≡ true = grind (arith, nat_tests) in absurd (let w : ◌≡◌ {A = ℕ} 0 1 = cc in omega arith))

-- a cell set, as the starts see it
set_held : (s : List ℕ) (i x c : ℕ) → i < length s → best_fit_held (slice_set s i c) x ≡ cond (x == 8 * i) (cond (nat_lt 0 c) (Some (8 * c)) None) (best_fit_held s x)
set_held s i x c lt = grind (arith, nat_tests, get_or-set_same s i c 0, get_or-set_other s i (x / 8) c 0)

-- the block that a take places
record Placed (s : List ℕ) (n : ℕ) (b : Block) (t : List ℕ) : Type 0 where
  fits : Fit b.start b.held
  free : Free (best_fit_held s) b.start b.held
  adds : (x : ℕ) → best_fit_held t x ≡ plus (best_fit_held s) b x

placed_well : (s : List ℕ) (n : ℕ) (g : Gap) → Cells s → 1 ≤ n → n ≤ 4096 → chosen s (cells_for n) ≡ Some g → Placed s n (record { start = 8 * g.start; held = 8 * cells_for n }) (slice_set s g.start (cells_for n))
placed_well s n g h p q e =
    let u = usable s (cells_for n) g h (omega arith) e in
    let w = u.whole in
    let k = u.enough in
    let i = w.inside in
    record {
      fits = record { even_start = omega arith; even_held = omega arith; some = omega arith; inside = omega arith };
      free = λ x k r. let o = w.free x k r in grind arith;
      adds = λ x.
          let lt : g.start < length s = omega (arith, h.long) in
          let r = set_held s g.start x (cells_for n) lt in
          let t : ltb 0 (cells_for n) ≡ true = grind (arith, nat_tests) in
          rw t at r;
    }

grants : (s : List ℕ) (n : ℕ) (t : Taken (List ℕ)) (b : Block) → Took s n t → Cells s → t.answer ≡ Some b → Grants (best_fit_held s) n b (best_fit_held t.after)
grants s n t b (no f) h e = some_none (sym e)
grants s n t b (yes g p q f) h e =
    let u = placed_well s n g h p q f in
    let same : record { start = 8 * g.start; held = 8 * cells_for n } ≡ b = cc in
    let G : Block → Type 0 = λ c. Grants (best_fit_held s) n c (best_fit_held (slice_set s g.start (cells_for n))) in
    subst G same (record { new = vacant (best_fit_held s) _ (8 * cells_for n) h.laid (omega arith) u.free; adds = u.adds; enough = omega arith; not_more = omega arith })

keeps : (s : List ℕ) (n : ℕ) (t : Taken (List ℕ)) → Took s n t → t.answer ≡ None → (x : ℕ) → best_fit_held t.after x ≡ best_fit_held s x
keeps s n t (no f) e x = refl
keeps s n t (yes g p q f) e x = some_none e

refuses : (s : List ℕ) (n : ℕ) (t : Taken (List ℕ)) → Took s n t → (n ≡ 0) ⊎ (4096 < n) → t.answer ≡ None
refuses s n t (no f) o = refl
refuses s n t (yes g p q f) o = absurd (grind arith)

must : (s : List ℕ) (n a : ℕ) (t : Taken (List ℕ)) → Took s n t → Cells s → 1 ≤ n → n ≤ 256 → a + 512 ≤ 4096 → Free (best_fit_held s) a 512 → is_some t.answer ≡ true
must s n a t (yes g p q f) h l m r free = refl
must s n a t (no f) h l m r free = finds _ s (cells_for n) a 512 h (omega arith) free (omega arith) r (f l (omega arith))

takes : (s : List ℕ) (n : ℕ) (t : Taken (List ℕ)) → Took s n t → Cells s → Takes (best_fit_held s) n t.answer (best_fit_held t.after)
takes s n t w h = record {
  grants = λ b. grants s n t b w h;
  keeps = keeps s n t w;
  none = λ z. refuses s n t w (inl z);
  large = λ l. refuses s n t w (inr l);
  must = λ p q a. must s n a t w h p q;
}

take_sound : (s : List ℕ) (n : ℕ) (t : Taken (List ℕ)) → Took s n t → Cells s → Cells t.after
take_sound s n t (no f) h = h
take_sound s n t (yes g p q e) h =
    let u = placed_well s n g h p q e in
    record {
      long = length-set s g.start (cells_for n) ∙ h.long;
      laid = laid_plus (best_fit_held s) _ (record { start = 8 * g.start; held = 8 * cells_for n }) h.laid u.fits u.free u.adds;
    }

removes : (s : List ℕ) (x y : ℕ) → best_fit_held (best_fit_give s x).after y ≡ minus (best_fit_held s) x y
removes s x y = go (starts s x) refl
  where
    go : (b : Bool) → starts s x ≡ b → best_fit_held (given s x b).after y ≡ minus (best_fit_held s) x y
    go true e =
        let pos : 0 < slice_index_or s (x / 8) 0 = grind (arith, nat_tests) in
        let lt : x / 8 < length s = ⊎_elim (λ z. z) (λ z. absurd (omega (arith, get_or_past s (x / 8) 0 z))) (cases_lt (x / 8) (length s)) in
        let r = set_held s (x / 8) y 0 lt in
        let b : 8 * (x / 8) ≡ x = grind (arith, nat_tests) in
        rw b at r
    go false e = grind (arith, nat_tests)

give_sound : (s : List ℕ) (x : ℕ) → Cells s → Cells (best_fit_give s x).after
give_sound s x h = record {
  long = elim (starts s x) as (λ b. length (given s x b).after ≡ 512) [ true ↦ length-set s (x / 8) 0 ∙ h.long | false ↦ h.long ];
  laid = laid_minus (best_fit_held s) _ x h.laid (removes s x);
}

empties : (x : ℕ) → best_fit_held cleared x ≡ None
empties x = let e = get_or_zeros 512 (x / 8) in grind (arith, nat_tests)

pub kept : Kept best_fit_rule Cells
kept = record {
  clear_sound = λ _. record { long = refl; laid = laid_empty (best_fit_held cleared) empties };
  take_sound = λ s n. take_sound s n _ (took s n);
  give_sound = give_sound;
}

pub best_fit_points : Points best_fit_rule
best_fit_points = points_by best_fit_rule Cells kept (λ _ x. empties x) (λ s h. record {
  laid = h.laid;
  takes = λ n. takes s n _ (took s n) h;
  gives = λ x. record { answers = grind (arith, nat_tests); removes = removes s x };
})
