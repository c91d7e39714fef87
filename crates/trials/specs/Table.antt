-- The table of the worked trials. Assumes nothing.
use Rattle.std.specs.Prelude.{List, ◌++◌}
use Rattle.trials.specs.Rows.{Row}
use Rattle.trials.specs.Granting.{granting}
use Rattle.trials.specs.Reaching.{reaching}
use Rattle.trials.specs.Framing.{framing}
use Rattle.trials.specs.Driving.{driving}
use Rattle.trials.specs.Numbers.{counting}

abbrev pub table : List Row
table = granting ++ (reaching ++ (framing ++ (driving ++ counting)))
