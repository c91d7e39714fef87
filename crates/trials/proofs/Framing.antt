use Rattle.std.proofs.Common.{refl}
use Rattle.trials.specs.Rows.{Every}
use Rattle.trials.specs.Framing.{framing}

pub framing_holds : Every framing
framing_holds = assumption (refl)
