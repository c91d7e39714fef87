use Rattle.slots.proofs.Turns.{always_in_turn}
use Rattle.slots.proofs.laws.slots_are_granted_in_turn.Goals as goal

pub returns : goal.returns
returns c = always_in_turn
