use Rattle.racks.proofs.Turns.{ring_turns}
use Rattle.racks.proofs.laws.ring_gives_the_longest_back.Goals as goal

pub returns : goal.returns
returns c = record { rule = ring_turns; rack = ring_turns }
