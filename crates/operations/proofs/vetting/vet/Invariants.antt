use Rattle.std.proofs.Common.{All, ◌≡◌, [], length, drop}
use Rattle.operations.specs.Sound.{SoundStep}
use Rattle.operations.specs.Vetting.{vet_on}
use Rattle.operations.proofs.vetting.vet.Given as goal

-- the records left, after the steps made, give the answer; a sound step was made of each record so far
abbrev pub invariant-loop-operation : goal.invariant-loop-operation
invariant-loop-operation l = record {
  count : length l.steps.items ≡ l.operation-index;
  value : vet_on l.count l.steps.items (drop l.operation-index l.operations) ≡ vet_on l.count [] l.operations;
  sound : All (SoundStep l.count) l.steps.items;
}
