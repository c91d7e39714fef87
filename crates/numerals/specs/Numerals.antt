-- Plain numbers: no leading zero, no plus, no -0. Assumes nothing.
use Rattle.std.specs.Prelude.{◌≡◌, ℕ, ◌+◌, ◌-◌, ◌*◌, ◌^◌, ◌<◌, Bool, true, false, cond, not, ◌&&◌, List, [], ◌∷◌, drop, ℤ, pos, neg_ℤ, Some, None, decimal, Option, ◌==◌, nat_le, slice_index}
use Rattle.std.specs.Int.Signed.{mag}
use Rattle.std.specs.Fmt.{signed_decimal}
use Rattle.std.specs.Str.{all_ascii_digits}

-- the number that digits write after those of v
abbrev pub written : ℕ → List ℕ → ℕ
written v [] = v
written v (c ∷ cs) = written (v * 10 + (c - 48)) cs

-- the number that digits write after those of v, where it is at most `most`
abbrev pub bounded : ℕ → ℕ → List ℕ → Option ℕ
bounded most v ds = cond (all_ascii_digits ds && nat_le (written v ds) most) (Some (written v ds)) None

-- one digit, or more of which the first is no zero
abbrev pub trim : List ℕ → Bool
trim [] = false
trim (c ∷ []) = true
trim (c ∷ d ∷ ds) = not (c == 48)

-- the number that a plain numeral writes, where it is at most `most`
abbrev pub natural : ℕ → List ℕ → Option ℕ
natural most ds = cond (trim ds) (bounded most 0 ds) None

abbrev pub above : Option ℕ → Option ℤ
above (Some v) = Some (pos v)
above None = None

-- after a minus: any numeral but 0
abbrev pub below : Option ℕ → Option ℤ
below (Some v) = cond (v == 0) None (Some (neg_ℤ (pos v)))
below None = None

-- the 64-bit number that bytes write: what follows a minus has one more at its end
abbrev pub number_in : List ℕ → Option ℤ
number_in bs = cond (slice_index bs 0 == 45) (below (natural (2 ^ 63) (drop 1 bs))) (above (natural (2 ^ 63 - 1) bs))

-- the law: bytes are read as a number exactly where they are its decimal writing, and it has 64 bits
pub record Writes (bs : List ℕ) (r : Option ℤ) : Type 0 where
  pub told : (z : ℤ) → r ≡ Some z → (bs ≡ signed_decimal z) × (mag z < 2 ^ 63)
  pub tells : (z : ℤ) → bs ≡ signed_decimal z → mag z < 2 ^ 63 → r ≡ Some z

-- the 64-bit number without a sign that bytes write
abbrev pub natural_in : List ℕ → Option ℕ
natural_in bs = natural (2 ^ 64 - 1) bs

-- the law: bytes are read as a number without a sign exactly where they are its decimal writing, and it has 64 bits
pub record WritesNatural (bs : List ℕ) (r : Option ℕ) : Type 0 where
  pub told : (n : ℕ) → r ≡ Some n → (bs ≡ decimal n) × (n < 2 ^ 64)
  pub tells : (n : ℕ) → bs ≡ decimal n → n < 2 ^ 64 → r ≡ Some n

-- the noun that stands after a count
abbrev pub noun : ℕ → List ℕ → List ℕ → List ℕ
noun count one more = cond (count == 1) one more
