-- A script's text by lines. Assumes nothing.
use Rattle.std.specs.Prelude.{ℕ, cond, List, [], ◌∷◌, ◌==◌}
use Rattle.std.specs.List.{onto_first}
use Rattle.scripts.specs.declared.lines.Lines.{Lines}

-- a line is the bytes before its line end, or before the text's end where any are left
unfoldable pub lines_of : List ℕ → List (List ℕ)
lines_of [] = []
lines_of (b ∷ bs) = cond (b == 10) ([] ∷ lines_of bs) (onto_first b (lines_of bs))

-- the lines that are still to come
abbrev pub lines_left : Lines → List (List ℕ)
lines_left l = lines_of l.rest.now
