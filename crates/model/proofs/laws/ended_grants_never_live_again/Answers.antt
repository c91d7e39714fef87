use Rattle.model.proofs.Lasting.{never_again}
use Rattle.model.proofs.laws.ended_grants_never_live_again.Goals as goal

pub returns : goal.returns
returns c = never_again
