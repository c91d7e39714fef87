-- Racks that keep the places that are back in a row, and draw the first of it. Assumes nothing.
-- They differ in where a place that comes back joins the row.
use Rattle.std.specs.Prelude.{ℕ, zero, suc, ◌-◌, Bool, true, false, List, [], ◌∷◌, ◌++◌, replicate, Some, None, slice_index_or, slice_set}
use Rattle.racks.specs.Rule.{RackRule, Drawn, Put}

-- the places that are back, the next to be drawn first; and of each number, whether that place is out
pub record Row : Type 0 where
  pub back : List ℕ
  pub out : List Bool

abbrev pub row_of : List ℕ → List Bool → Row
row_of back out = record { back = back; out = out }

abbrev pub row_out : Row → ℕ → Bool
row_out s p = slice_index_or s.out p false

abbrev pub draw_from : List ℕ → List Bool → Drawn Row
draw_from [] o = record { answer = None; after = record { back = []; out = o } }
draw_from (p ∷ rest) o = record { answer = Some p; after = record { back = rest; out = slice_set o p true } }

-- the last k places in their order
unfoldable pub last_places : ℕ → List ℕ
last_places zero = []
last_places (suc k) = (255 - k) ∷ last_places k

-- the row after a clear: all places are back, 1 in front
abbrev pub fresh_row : Row
fresh_row = record { back = last_places 255; out = replicate 256 false }

module _ (join : ℕ → List ℕ → List ℕ) where
  abbrev pub row_put : Row → ℕ → Bool → Put Row
  row_put s p true = record { answer = true; after = record { back = join p s.back; out = slice_set s.out p false } }
  row_put s p false = record { answer = false; after = s }

  abbrev pub row_rule : RackRule
  row_rule = record {
    State = Row;
    out = row_out;
    draw = λ s. draw_from s.back s.out;
    put = λ s p. row_put s p (row_out s p);
    clear = λ _. fresh_row;
  }

-- the stack rack: a place that comes back is the next to be drawn
abbrev pub in_front : ℕ → List ℕ → List ℕ
in_front p row = p ∷ row

abbrev pub stack_rule : RackRule
stack_rule = row_rule in_front

-- the ring rack: a place that comes back is drawn after all the others
abbrev pub at_end : ℕ → List ℕ → List ℕ
at_end p row = row ++ (p ∷ [])

abbrev pub ring_rule : RackRule
ring_rule = row_rule at_end
