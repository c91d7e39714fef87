-- The steps of a loop over digits. Assumes nothing.
use Rattle.std.proofs.Common.{◌≡◌, ℕ, ◌+◌, ◌-◌, ◌*◌, ◌<◌, ◌≤◌, List, [], ◌∷◌, length, get_or, drop, true, false, Some, None, ◌∙◌, arith}
use Rattle.std.specs.Char.{is_ascii_digit}
use Rattle.std.specs.Str.{all_ascii_digits}
use Rattle.std.proofs.lemmas.List.{at_drop_more}
use Rattle.std.proofs.lemmas.Bool.{le-leb, lt-leb, and_right, cond-false}
use Rattle.numerals.specs.Numerals.{written, bounded}

pub written_ge : (v : ℕ) (ds : List ℕ) → v ≤ written v ds
written_ge v [] = omega arith
written_ge v (c ∷ cs) = omega (arith, written_ge (v * 10 + (c - 48)) cs)

pub too_big : (most v : ℕ) (ds : List ℕ) → most < v → bounded most v ds ≡ None
too_big most v ds h =
    cond-false _ _ _ (and_right (all_ascii_digits ds) _ (lt-leb (written v ds) most (omega (arith, written_ge v ds))))

pub digit : (most v c : ℕ) (cs : List ℕ) → is_ascii_digit c ≡ true → bounded most v (c ∷ cs) ≡ bounded most (v * 10 + (c - 48)) cs
digit most v c cs is = rw is

pub other : (most v c : ℕ) (cs : List ℕ) → is_ascii_digit c ≡ false → bounded most v (c ∷ cs) ≡ None
other most v c cs is = rw is

pub ended : (most v : ℕ) → v ≤ most → bounded most v [] ≡ Some v
ended most v h = rw (le-leb v most h)

module _ (most v : ℕ) (ds : List ℕ) (i : ℕ) (h : i < length ds) where
  pub one_more : is_ascii_digit (get_or ds i 0) ≡ true → bounded most v (drop i ds) ≡ bounded most (v * 10 + (get_or ds i 0 - 48)) (drop (i + 1) ds)
  one_more is = at_drop_more (bounded most v) ds i 0 h ∙ digit most v (get_or ds i 0) (drop (i + 1) ds) is

  pub one_other : is_ascii_digit (get_or ds i 0) ≡ false → bounded most v (drop i ds) ≡ None
  one_other is = at_drop_more (bounded most v) ds i 0 h ∙ other most v (get_or ds i 0) (drop (i + 1) ds) is
