use Rattle.std.proofs.Common.{arith}
use Rattle.best_fit.specs.Walk.{get_or_zeros}
use Rattle.best_fit.proofs.heap.BestFit.new.Goals as goal

pub invariant_of-result : goal.invariant_of-result
invariant_of-result c = record { searched = record { within = omega arith; above = λ k h. get_or_zeros 512 k } }
