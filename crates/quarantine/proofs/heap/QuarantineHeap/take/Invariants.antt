use Rattle.std.proofs.Common.{◌≡◌, length}
use Rattle.quarantine.specs.Rule.{retried}
use Rattle.quarantine.specs.Waiting.{waiting_of}
use Rattle.quarantine.proofs.heap.QuarantineHeap.take.Given as goal

abbrev pub invariant-loop-block : goal.invariant-loop-block
invariant-loop-block g l =
    let m = g.H.Heap in
    retried m.rule l.n (waiting_of l.self.waiting) (m.state l.self.below) ≡ retried m.rule l.n (waiting_of l.initial.self.waiting) (m.state l.initial.self.below)

abbrev pub decreases-loop-block : goal.decreases-loop-block
decreases-loop-block g l = length (waiting_of l.self.waiting)
