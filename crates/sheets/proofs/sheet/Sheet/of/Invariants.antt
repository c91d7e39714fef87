use Rattle.std.proofs.Common.{vec_items}
use Rattle.sheets.proofs.Walking.{Walked}
use Rattle.sheets.proofs.sheet.Sheet.of.Given as goal

abbrev pub invariant-loop-start : goal.invariant-loop-start
invariant-loop-start g l = Walked (g.H.Heap.rule.held (g.H.Heap.state l.heap)) (vec_items l.list) l.start l.from l.blocks l.held
