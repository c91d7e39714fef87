use Rattle.racks.proofs.Turns.{stack_turns}
use Rattle.racks.proofs.laws.stack_gives_the_last_back.Goals as goal

pub returns : goal.returns
returns c = record { rule = stack_turns; rack = stack_turns }
