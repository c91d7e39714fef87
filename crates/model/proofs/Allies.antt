-- The two players, and when they agree. Assumes nothing.
use Rattle.heaps.specs.Rule.{HeapRule}
use Rattle.racks.specs.Rule.{RackRule}
use Rattle.model.specs.Machine.{OfMachine, machine}
use Rattle.model.specs.History.{OfBook, book}
use Rattle.model.proofs.Sheeting.{Agrees}
use Rattle.model.proofs.Relation.{World, Alike, Rel}

abbrev pub Ally : (H : HeapRule) (R : RackRule) → OfMachine H R → OfBook H → Type 0
Ally H R = Agrees (machine H R) (book H) World Alike (Rel H R)
