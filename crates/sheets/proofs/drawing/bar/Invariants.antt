use Rattle.std.proofs.Common.{string_bytes}
use Rattle.sheets.proofs.Marking.{Marked}
use Rattle.sheets.proofs.drawing.bar.Given as goal

abbrev pub invariant-loop-mark : goal.invariant-loop-mark
invariant-loop-mark l = Marked l.stretches (string_bytes l.text) l.mark
