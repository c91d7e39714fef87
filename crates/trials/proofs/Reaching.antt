use Rattle.std.proofs.Common.{refl}
use Rattle.racks.specs.Row.{last_places}
use Rattle.best_fit.specs.Rule.{best_of}
use Rattle.model.specs.Grants.{count}
use Rattle.trials.specs.Rows.{Every}
use Rattle.trials.specs.Reaching.{reaching}

pub reaching_holds : Every reaching
unfolding best_of last_places count
reaching_holds = assumption (refl)
