-- A stretch of the heap's bytes as a row of the placement sheet. Assumes nothing.
use Rattle.std.specs.Prelude.{ℕ, cond, List, ◌++◌, codes, decimal, nat_lt}
use Rattle.sheets.specs.declared.stretch.Kind.{Kind}
use Rattle.sheets.specs.declared.stretch.Kind.TheVariants.{Block, Gap}
use Rattle.sheets.specs.declared.stretch.Stretch.{Stretch}

-- what stands in front of a number of five digits at most, so that it ends in the fifth column
abbrev pub padding : ℕ → List ℕ
padding n =
    cond (nat_lt n 10) (codes "    ")
    (cond (nat_lt n 100) (codes "   ")
    (cond (nat_lt n 1000) (codes "  ")
    (cond (nat_lt n 10000) (codes " ")
    (codes ""))))

abbrev pub shown_kind : Kind → List ℕ
shown_kind Block = codes "block"
shown_kind Gap = codes "gap  "

abbrev pub in_column : ℕ → List ℕ
in_column n = padding n ++ decimal n

abbrev pub shown_stretch : Stretch → List ℕ
shown_stretch s =
    codes "  | "
    ++ (in_column s.start
    ++ (codes " | "
    ++ (in_column s.size
    ++ (codes " | "
    ++ (shown_kind s.kind ++ codes " |")))))
