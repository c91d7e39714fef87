use Rattle.heaps.proofs.Histories.{every_history}
use Rattle.heaps.proofs.laws.every_history_keeps_the_points.Goals as goal

pub returns : goal.returns
returns g c = every_history g.H.Heap.rule g.met.H.Heap.points
