-- The lines of the placement sheet, as bytes. Assumes nothing.
use Rattle.std.specs.Prelude.{ℕ, zero, suc, ◌+◌, Bool, cond, not, ◌&&◌, List, [], ◌++◌, codes, decimal, ◌==◌, nat_lt}
use Rattle.std.specs.List.{list_any}
use Rattle.sheets.specs.declared.stretch.Kind.{Kind}
use Rattle.sheets.specs.declared.stretch.Kind.TheVariants.{Block, Gap}
use Rattle.sheets.specs.declared.stretch.Stretch.{Stretch}
use Rattle.sheets.specs.Sheets.{is_block}

-- what so many blocks are called
abbrev pub unit_of : ℕ → List ℕ
unit_of count = cond (count == 1) (codes "block") (codes "blocks")

abbrev pub heading_of : ℕ → ℕ → ℕ → List ℕ
heading_of blocks held free =
    codes "sheet: " ++ (decimal blocks ++ (codes " " ++ (unit_of blocks ++ (codes ", " ++ (decimal held ++ (codes " bytes held, " ++ (decimal free ++ codes " bytes free")))))))

-- a kind is the one asked for
abbrev pub is_kind : Kind → Kind → Bool
is_kind Block kind = is_block kind
is_kind Gap kind = not (is_block kind)

-- a stretch is a block or a gap, as asked, and has a byte among the 64 from an address on
abbrev pub touches : Kind → ℕ → Stretch → Bool
touches kind a s = is_kind kind s.kind && (nat_lt s.start (a + 64) && nat_lt a (s.start + s.size))

-- some stretch does
abbrev pub some_touch : Kind → ℕ → List Stretch → Bool
some_touch kind a ss = list_any (touches kind a) ss

-- the mark of the 64 bytes from an address on: all free, partly held, or all held
abbrev pub mark_at : List Stretch → ℕ → List ℕ
mark_at ss a = cond (some_touch Block a ss) (cond (some_touch Gap a ss) (codes "+") (codes "#")) (codes ".")

-- k marks from an address on
unfoldable pub marks_from : List Stretch → ℕ → ℕ → List ℕ
marks_from ss zero a = []
marks_from ss (suc k) a = mark_at ss a ++ marks_from ss k (a + 64)

-- 64 marks of 64 bytes
abbrev pub bar_of : List Stretch → List ℕ
bar_of ss = codes "  [" ++ (marks_from ss 64 0 ++ codes "]")
