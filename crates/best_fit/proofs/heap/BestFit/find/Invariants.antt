use Rattle.std.proofs.Common.{◌≡◌, ◌-◌, ◌^◌, ◌<◌, None, drop}
use Rattle.best_fit.specs.Rule.{best_of}
use Rattle.best_fit.proofs.heap.BestFit.find.Given as goal

abbrev pub invariant-loop-at : goal.invariant-loop-at
invariant-loop-at l =
    (l.at < 2 ^ 17)
    × (best_of l.need l.best l.low l.at 0 (drop l.at l.self.cells) ≡ best_of l.need None 0 0 0 l.self.cells)

abbrev pub decreases-loop-at : goal.decreases-loop-at
decreases-loop-at l = l.self.top - l.at
