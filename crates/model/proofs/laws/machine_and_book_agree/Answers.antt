use Rattle.model.proofs.Whole.{agrees}
use Rattle.model.proofs.laws.machine_and_book_agree.Goals as goal

pub returns : goal.returns
returns g c = agrees g.H.Heap.rule g.R.Rack.rule g.met.H.Heap.points g.met.R.Rack.points
