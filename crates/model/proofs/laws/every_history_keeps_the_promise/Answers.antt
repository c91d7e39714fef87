use Rattle.model.proofs.Keeping.{promised}
use Rattle.model.proofs.laws.every_history_keeps_the_promise.Goals as goal

pub returns : goal.returns
returns g c = promised g.H.Heap.rule g.R.Rack.rule g.met.H.Heap.points g.met.R.Rack.points
