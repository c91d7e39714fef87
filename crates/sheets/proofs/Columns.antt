-- A number in a column of five is padded on its left. Assumes nothing.
use Rattle.std.proofs.Common.{◌≡◌, ℕ, ◌-◌, ◌^◌, ◌<◌, ◌≤◌, false, List, [], ◌++◌, length, codes, decimal, ap, sym, refl, ◌∙◌, ⊎_elim, append-nil, arith}
use Rattle.std.specs.Fmt.{char_count, format_spec, fill_text, before_digits, fill_after_digits, padded_integral, styled_decimal}
use Rattle.std.proofs.lemmas.Bool.{lt-ltb, le-ltb, cases_lt}
use Rattle.std.proofs.lemmas.Fmt.{length-decimal-le, decimal_nonempty, digits_decimal, digits_value-decimal}
use Rattle.std.proofs.lemmas.Str.Parse.{numerals_by_value, tells_digits, digits_value_short, IsNumeralModel}
use Rattle.std.specs.Str.Parse.{AllDigits, digits_value}
use Rattle.sheets.specs.Rows.{padding, in_column}

own : IsNumeralModel (AllDigits 10) (digits_value 10)
own = numerals_by_value (AllDigits 10) tells_digits

-- a number that is not below 10 ^ k has over k digits
longer : (n k : ℕ) → n < 2 ^ 16 → 10 ^ k ≤ n → k < length (decimal n)
longer n k h low =
    ⊎_elim
    (λ (e : k < length (decimal n)). e)
    (λ (e : length (decimal n) ≤ k).
    let small = digits_value_short own (decimal n) k (digits_decimal own n (omega arith)) e in
    let is = digits_value-decimal own n (omega arith) in
    absurd (omega arith))
    (cases_lt k (length (decimal n)))

by_length : (digits : List ℕ) → padded_integral (format_spec 32 3 0 5 (2 ^ 64 - 1)) false [] digits ≡ before_digits (format_spec 32 3 0 5 (2 ^ 64 - 1)) false [] (length digits) ++ (digits ++ fill_text (format_spec 32 3 0 5 (2 ^ 64 - 1)) (fill_after_digits (format_spec 32 3 0 5 (2 ^ 64 - 1)) false [] (length digits)))
unfolding padded_integral
by_length digits = refl

module _ (n l : ℕ) (front : List ℕ) (len : length (decimal n) ≡ l) where
  padded_by : before_digits (format_spec 32 3 0 5 (2 ^ 64 - 1)) false [] l ≡ front → fill_text (format_spec 32 3 0 5 (2 ^ 64 - 1)) (fill_after_digits (format_spec 32 3 0 5 (2 ^ 64 - 1)) false [] l) ≡ [] → padding n ≡ front → padded_integral (format_spec 32 3 0 5 (2 ^ 64 - 1)) false [] (decimal n) ≡ in_column n
  padded_by b f pad =
      by_length (decimal n)
      ∙ ap (λ k. before_digits (format_spec 32 3 0 5 (2 ^ 64 - 1)) false [] k ++ (decimal n ++ fill_text (format_spec 32 3 0 5 (2 ^ 64 - 1)) (fill_after_digits (format_spec 32 3 0 5 (2 ^ 64 - 1)) false [] k))) len
      ∙ ap (λ x. x ++ (decimal n ++ fill_text (format_spec 32 3 0 5 (2 ^ 64 - 1)) (fill_after_digits (format_spec 32 3 0 5 (2 ^ 64 - 1)) false [] l))) b
      ∙ ap (λ x. front ++ (decimal n ++ x)) f
      ∙ ap (λ x. front ++ x) (append-nil (decimal n))
      ∙ ap (λ x. x ++ decimal n) (sym pad)

column_by : (n : ℕ) → n < 2 ^ 16 → padded_integral (format_spec 32 3 0 5 (2 ^ 64 - 1)) false [] (decimal n) ≡ in_column n
unfolding char_count lib.Utf8.encode
column_by n h =
    ⊎_elim
    (λ (e : n < 10). padded_by n 1 (codes "    ") (let s = length-decimal-le 1 n (omega arith) e (omega arith) in let t = decimal_nonempty n (omega arith) in omega arith) refl refl (rw (lt-ltb n 10 e) refl))
    (λ (l1 : 10 ≤ n). ⊎_elim
    (λ (e : n < 100). padded_by n 2 (codes "   ") (let s = length-decimal-le 2 n (omega arith) e (omega arith) in let t = longer n 1 h l1 in omega arith) refl refl (rw (le-ltb n 10 l1, lt-ltb n 100 e) refl))
    (λ (l2 : 100 ≤ n). ⊎_elim
    (λ (e : n < 1000). padded_by n 3 (codes "  ") (let s = length-decimal-le 3 n (omega arith) e (omega arith) in let t = longer n 2 h l2 in omega arith) refl refl (rw (le-ltb n 10 l1, le-ltb n 100 l2, lt-ltb n 1000 e) refl))
    (λ (l3 : 1000 ≤ n). ⊎_elim
    (λ (e : n < 10000). padded_by n 4 (codes " ") (let s = length-decimal-le 4 n (omega arith) e (omega arith) in let t = longer n 3 h l3 in omega arith) refl refl (rw (le-ltb n 10 l1, le-ltb n 100 l2, le-ltb n 1000 l3, lt-ltb n 10000 e) refl))
    (λ (l4 : 10000 ≤ n). padded_by n 5 (codes "") (let s = length-decimal-le 5 n (omega arith) (omega arith) (omega arith) in let t = longer n 4 h l4 in omega arith) refl refl (rw (le-ltb n 10 l1, le-ltb n 100 l2, le-ltb n 1000 l3, le-ltb n 10000 l4) refl))
    (cases_lt n 10000))
    (cases_lt n 1000))
    (cases_lt n 100))
    (cases_lt n 10)

pub styled_by : (n : ℕ) → n < 2 ^ 16 → in_column n ≡ styled_decimal (format_spec 32 3 0 5 (2 ^ 64 - 1)) n
styled_by n h = sym (column_by n h)
