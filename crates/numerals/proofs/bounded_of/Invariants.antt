use Rattle.std.proofs.Common.{◌≡◌, ◌≤◌, drop}
use Rattle.numerals.specs.Numerals.{bounded}
use Rattle.numerals.proofs.bounded_of.Given as goal

-- what is left of the digits still gives the answer
abbrev pub invariant-loop-d : goal.invariant-loop-d
invariant-loop-d l = (l.v ≤ l.most) × (bounded l.most l.v (drop l.d-index l.digits) ≡ bounded l.most 0 l.digits)
