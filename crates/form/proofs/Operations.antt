-- The operation that five values say, column by column. Assumes nothing.
use Rattle.std.proofs.Common.{◌≡◌, ℕ, List, [], get_or, ℤ, Ok, Result}
use Rattle.faults.specs.declared.cause.Cause.{Cause}
use Rattle.operations.specs.declared.code.Code.{Code}
use Rattle.operations.specs.Table.{row, number_of}
use Rattle.form.specs.declared.order.Order.{Order}
use Rattle.form.specs.Reading.{register_of, offset_of, operator_of, operation, made}
use Rattle.form.specs.Values.{says}

module _ (o : Order) (line : ℕ) (vs : List (List ℕ)) (c : Code) (known : operator_of (says (get_or vs o.op [])) ≡ Ok c) where
  abbrev at_d : Result ℕ Cause
  at_d = register_of (row c).uses.d (says (get_or vs o.d []))

  abbrev at_a : Result ℕ Cause
  at_a = register_of (row c).uses.a (says (get_or vs o.a []))

  abbrev at_b : Result ℕ Cause
  at_b = register_of (row c).uses.b (says (get_or vs o.b []))

  abbrev at_n : Result ℤ Cause
  at_n = offset_of (row c).uses.n (says (get_or vs o.n []))

  pub said : (d a b : ℕ) (n : ℤ) → at_d ≡ Ok d → at_a ≡ Ok a → at_b ≡ Ok b → at_n ≡ Ok n → operation o line vs ≡ Ok (made (number_of c) d a b n line)
  said d a b n p q r e = rw (known, p, q, r, e)
