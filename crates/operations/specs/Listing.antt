-- A step as it is listed: its word, and the fields that it uses. Assumes nothing.
use Rattle.std.specs.Prelude.{ℕ, List, [], ◌++◌, ℤ, pos, Some, None, Option, codes}
use Rattle.std.specs.Bool.{then_some}
use Rattle.std.proofs.Math.Utf8.{encode}
use Rattle.std.specs.Fmt.{signed_decimal}
use Rattle.operations.specs.declared.step.Step.{Step}
use Rattle.operations.specs.Table.{row}

-- a field by its column, if it is used
abbrev pub field_shown : ℕ → Option ℤ → List ℕ
field_shown column None = []
field_shown column (Some value) = codes " " ++ (encode column ++ (codes "=" ++ signed_decimal value))

-- the columns d, a, b and n, by their letters
abbrev pub listed : Step → List ℕ
listed s =
    (row s.code).word
    ++ (field_shown 100 (then_some (row s.code).uses.d (pos s.d))
    ++ (field_shown 97 (then_some (row s.code).uses.a (pos s.a))
    ++ (field_shown 98 (then_some (row s.code).uses.b (pos s.b))
    ++ field_shown 110 (then_some (row s.code).uses.n s.n))))
