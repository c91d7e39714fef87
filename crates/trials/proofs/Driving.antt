use Rattle.std.proofs.Common.{refl}
use Rattle.trials.specs.Rows.{Every}
use Rattle.trials.specs.Driving.{driving}

pub driving_holds : Every driving
driving_holds = assumption (refl)
