use Rattle.std.proofs.Common.{refl}
use Rattle.racks.specs.Row.{last_places}
use Rattle.best_fit.specs.Rule.{best_of}
use Rattle.slots.specs.Rule.{first_free}
use Rattle.quarantine.specs.Rule.{retried}
use Rattle.model.specs.Grants.{count}
use Rattle.trials.specs.Rows.{Holds, Every}
use Rattle.trials.proofs.EveryPlace.{every_place_holds}
use Rattle.trials.specs.Granting.{granting, waits_first}

waits_first_holds : Holds waits_first
unfolding best_of retried last_places count
waits_first_holds = assumption (refl)

pub granting_holds : Every granting
unfolding best_of first_free last_places count
granting_holds = assumption (every_place_holds, waits_first_holds, refl)
