-- Plain numbers: what is read as a number is its decimal writing, and the other way round. Assumes nothing.
use Rattle.std.proofs.Common.{◌≡◌, ℕ, zero, suc, ◌-◌, ◌^◌, ◌<◌, ◌≤◌, true, false, cond, ◌&&◌, eqb, leb, List, [], ◌∷◌, length, get_or, drop, ℤ, pos, negsuc, neg_ℤ, Some, None, decimal, Option, sym, refl, ap, ◌∙◌, subst, ⊎_elim, arith, rules}
use lib.Signed.{mag}
use Rattle.std.specs.Fmt.{signed_decimal}
use Rattle.std.specs.Str.{all_ascii_digits}
use Rattle.std.proofs.lemmas.Fmt.{digits_decimal, digits_value-decimal, decimal-digits_value, decimal_nonempty, decimal_digit, first_decimal}
use Rattle.std.proofs.lemmas.Str.Parse.{IsNumeralModel, numerals_by_fold, tells_all_ascii_digits}
use Rattle.std.proofs.lemmas.Bool.{and_parts, and_from, cond-true, cond-false, cases_Bool, cases_lt, leb-true, le-leb, eqb-true, eqb-false, ne_eqb, not-true, not_from_false, both_ways}
use Rattle.numerals.specs.Numerals.{Writes, WritesNatural, written, bounded, trim, natural, above, below, number_in, natural_in}

own : IsNumeralModel (λ ds. all_ascii_digits ds ≡ true) (written 0)
own = numerals_by_fold _ tells_all_ascii_digits written (search rules)

trim_told : (ds : List ℕ) → trim ds ≡ true → (0 < length ds) × (get_or ds 0 0 ≡ 48 → length ds ≡ 1)
trim_told [] h = absurd (both_ways false refl h)
trim_told (c ∷ []) h = (omega arith, λ e. refl)
trim_told (c ∷ d ∷ ds) h = (omega arith, λ e. absurd (eqb-false c 48 (not-true _ h) e))

trim_tells : (ds : List ℕ) → 0 < length ds → (get_or ds 0 0 ≡ 48 → length ds ≡ 1) → trim ds ≡ true
trim_tells [] some one = absurd (omega arith)
trim_tells (c ∷ []) some one = refl
trim_tells (c ∷ d ∷ ds) some one = not_from_false _ (ne_eqb c 48 (λ e. omega (arith, one e)))

-- what a plain numeral is
pub record Natural (most : ℕ) (ds : List ℕ) (v : ℕ) : Type 0 where
  pub is : ds ≡ decimal v
  pub fits : v ≤ most

natural_told : (most : ℕ) (ds : List ℕ) (v : ℕ) → most < 2 ^ 64 → natural most ds ≡ Some v → Natural most ds v
natural_told most ds v big h =
    ⊎_elim
    (λ (t : trim ds ≡ true).
    let first = cond-true _ (bounded most 0 ds) None t in
    ⊎_elim
    (λ (b : (all_ascii_digits ds && leb (written 0 ds) most) ≡ true).
    let second = cond-true _ (Some (written 0 ds)) None b in
    let same : written 0 ds ≡ v = cc in
    let parts = and_parts (all_ascii_digits ds) _ b in
    let fits = leb-true (written 0 ds) most parts.1 in
    let shape = trim_told ds t in
    record { is = sym (decimal-digits_value own ds parts.0 shape.0 shape.1 (omega arith)) ∙ ap decimal same; fits = omega arith })
    (λ (b : (all_ascii_digits ds && leb (written 0 ds) most) ≡ false).
    let second = cond-false _ (Some (written 0 ds)) None b in
    let z : ◌≡◌ {A = ℕ} 0 1 = cc in absurd (omega arith))
    (cases_Bool (all_ascii_digits ds && leb (written 0 ds) most)))
    (λ (t : trim ds ≡ false). let none = cond-false _ (bounded most 0 ds) None t in let z : ◌≡◌ {A = ℕ} 0 1 = cc in absurd (omega arith))
    (cases_Bool (trim ds))

decimal_shape : (v : ℕ) → v < 2 ^ 64 → get_or (decimal v) 0 0 ≡ 48 → length (decimal v) ≡ 1
decimal_shape v h e =
    ⊎_elim
    (λ (small : v < 10). ap length (decimal_digit v small))
    (λ (large : 10 ≤ v). absurd (omega (arith, first_decimal v (omega arith) h, e)))
    (cases_lt v 10)

natural_tells : (most v : ℕ) → most < 2 ^ 64 → v ≤ most → natural most (decimal v) ≡ Some v
natural_tells most v big fits =
    let small : v < 2 ^ 64 = omega arith in
    let value = digits_value-decimal own v small in
    cond-true _ (bounded most 0 (decimal v)) None (trim_tells (decimal v) (decimal_nonempty v small) (decimal_shape v small))
    ∙ cond-true _ (Some (written 0 (decimal v))) None (and_from _ _ (digits_decimal own v small) (le-leb (written 0 (decimal v)) most (omega arith)))
    ∙ ap Some value

above_told : (o : Option ℕ) (z : ℤ) → above o ≡ Some z → (v : ℕ) × (o ≡ Some v) × (z ≡ pos v)
above_told None z h = let e : ◌≡◌ {A = ℕ} 0 1 = cc in absurd (omega arith)
above_told (Some v) z h = (v, refl, cc)

below_by : (v : ℕ) (z : ℤ) → cond (eqb v 0) None (Some (neg_ℤ (pos v))) ≡ Some z → (m : ℕ) × (v ≡ suc m) × (z ≡ negsuc m)
below_by zero z h = let e : ◌≡◌ {A = ℕ} 0 1 = cc in absurd (omega arith)
below_by (suc m) z h =
    let some = cond-false _ None (Some (negsuc m)) (ne_eqb (suc m) 0 (λ e. omega arith)) in
    (m, refl, cc)

below_told : (o : Option ℕ) (z : ℤ) → below o ≡ Some z → (m : ℕ) × (o ≡ Some (suc m)) × (z ≡ negsuc m)
below_told None z h = let e : ◌≡◌ {A = ℕ} 0 1 = cc in absurd (omega arith)
below_told (Some v) z h = let p = below_by v z h in (p.0, ap Some p.1, p.2)

minus_first : (bs : List ℕ) → get_or bs 0 0 ≡ 45 → bs ≡ 45 ∷ drop 1 bs
minus_first [] e = absurd (omega arith)
minus_first (b ∷ bs) e = ap (λ x. x ∷ bs) e

-- bytes that are read as a number are its decimal writing
pub number_told : (bs : List ℕ) (z : ℤ) → number_in bs ≡ Some z → (bs ≡ signed_decimal z) × (mag z < 2 ^ 63)
number_told bs z h =
    ⊎_elim
    (λ (minus : eqb (get_or bs 0 0) 45 ≡ true).
    let p = below_told (natural (2 ^ 63) (drop 1 bs)) z (sym (cond-true _ _ (above (natural (2 ^ 63 - 1) bs)) minus) ∙ h) in
    let n = natural_told (2 ^ 63) (drop 1 bs) (suc p.0) (omega arith) p.1 in (
      minus_first bs (eqb-true _ _ minus) ∙ ap (λ ds. 45 ∷ ds) n.is ∙ sym (ap signed_decimal p.2),
      subst (λ x. mag x < 2 ^ 63) (sym p.2) (omega (arith, n.fits)),
    ))
    (λ (plain : eqb (get_or bs 0 0) 45 ≡ false).
    let p = above_told (natural (2 ^ 63 - 1) bs) z (sym (cond-false _ (below (natural (2 ^ 63) (drop 1 bs))) _ plain) ∙ h) in
    let n = natural_told (2 ^ 63 - 1) bs p.0 (omega arith) p.1 in
    (n.is ∙ sym (ap signed_decimal p.2), subst (λ x. mag x < 2 ^ 63) (sym p.2) (omega (arith, n.fits))))
    (cases_Bool (eqb (get_or bs 0 0) 45))

no_minus : (v : ℕ) → v < 2 ^ 64 → get_or (decimal v) 0 0 ≡ 45 → ⊥
no_minus v h e =
    ⊎_elim
    (λ (small : v < 10). omega (arith, sym e ∙ ap (λ ds. get_or ds 0 0) (decimal_digit v small)))
    (λ (large : 10 ≤ v). omega (arith, first_decimal v (omega arith) h, e))
    (cases_lt v 10)

-- a number's decimal writing is read as the number
pub number_tells : (z : ℤ) → mag z < 2 ^ 63 → number_in (signed_decimal z) ≡ Some z
number_tells (pos v) h =
    cond-false _ _ (above (natural (2 ^ 63 - 1) (decimal v))) (ne_eqb _ 45 (no_minus v (omega arith)))
    ∙ ap above (natural_tells (2 ^ 63 - 1) v (omega arith) (omega arith))
number_tells (negsuc m) h =
    ap below (natural_tells (2 ^ 63) (suc m) (omega arith) (omega arith))
    ∙ cond-false _ None (Some (negsuc m)) (ne_eqb (suc m) 0 (λ e. omega arith))

-- the law of reading a number
pub writes : (bs : List ℕ) (r : Option ℤ) → r ≡ number_in bs → Writes bs r
writes bs r e = record {
  told = λ z h. number_told bs z (sym e ∙ h);
  tells = λ z is fits. e ∙ ap number_in is ∙ number_tells z fits;
}

-- the law of reading a number without a sign
pub writes_natural : (bs : List ℕ) (r : Option ℕ) → r ≡ natural_in bs → WritesNatural bs r
writes_natural bs r e = record {
  told = λ n h. let t = natural_told (2 ^ 64 - 1) bs n (omega arith) (sym e ∙ h) in (t.is, omega (arith, t.fits));
  tells = λ n is fits. e ∙ ap natural_in is ∙ natural_tells (2 ^ 64 - 1) n (omega arith) (omega arith);
}
