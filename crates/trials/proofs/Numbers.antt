use Rattle.std.proofs.Common.{refl}
use Rattle.trials.specs.Rows.{Every}
use Rattle.trials.specs.Numbers.{counting}

pub counting_holds : Every counting
counting_holds = assumption (refl)
