use Rattle.racks.proofs.Histories.{every_history}
use Rattle.racks.proofs.laws.every_history_keeps_the_points.Goals as goal

pub returns : goal.returns
returns g c = every_history g.R.Rack.rule g.met.R.Rack.points
