use Rattle.trials.proofs.Granting.{granting_holds}
use Rattle.trials.proofs.Reaching.{reaching_holds}
use Rattle.trials.proofs.Framing.{framing_holds}
use Rattle.trials.proofs.Driving.{driving_holds}
use Rattle.trials.proofs.Numbers.{counting_holds}
use Rattle.trials.proofs.worked_trials_hold.Goals as goal

pub returns : goal.returns
returns c = assumption (granting_holds, reaching_holds, framing_holds, driving_holds, counting_holds)
