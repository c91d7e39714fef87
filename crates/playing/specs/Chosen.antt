-- The heap or rack that a name stands for, as new. Assumes nothing.
use Rattle.std.specs.Prelude.{◌≡◌, []}
use Rattle.best_fit.specs.declared.heap.BestFit.{BestFit}
use Rattle.best_fit.specs.Rule as best_fit
use Rattle.slots.specs.declared.heap.Slots.{Slots}
use Rattle.slots.specs.Rule as slots
use Rattle.quarantine.specs.declared.heap.Quarantine.{Quarantine}
use Rattle.quarantine.specs.Waiting.{waiting_of}
use Rattle.racks.specs.declared.place_rack.PlaceRack.{PlaceRack}
use Rattle.racks.specs.declared.stack.InFront.{InFront}
use Rattle.racks.specs.declared.ring.AtEnd.{AtEnd}
use Rattle.racks.specs.States.{rack_state}
use Rattle.racks.specs.Row.{fresh_row}
use Rattle.choices.specs.declared.choice.Choice.{Choice}
use Rattle.choices.specs.declared.choice.Choice.TheVariants.{First, Second}
use Rattle.scripts.specs.declared.names.DirectName.{DirectName}
use Rattle.scripts.specs.declared.names.DirectName.TheVariants.{BestFit as NamedBestFit, Slots as NamedSlots}
use Rattle.scripts.specs.declared.names.HeapName.{HeapName}
use Rattle.scripts.specs.declared.names.HeapName.TheVariants.{Alone, Quarantined, TwiceQuarantined}
use Rattle.scripts.specs.declared.names.RackName.{RackName}
use Rattle.scripts.specs.declared.names.RackName.TheVariants.{Stack, Ring}

abbrev Direct : Type 0
Direct = Choice BestFit Slots

-- a direct heap of the name, without a block
abbrev pub NewDirect : DirectName → Direct → Type 0
NewDirect NamedBestFit (First b) = b.cells ≡ best_fit.cleared
NewDirect NamedBestFit (Second s) = ⊥
NewDirect NamedSlots (First b) = ⊥
NewDirect NamedSlots (Second s) = slots.slotted s.taken s.next ≡ slots.cleared

-- a heap of the name: below as many quarantines as it says, in which nothing waits
abbrev pub NewHeap : HeapName → Choice Direct (Choice (Quarantine Direct) (Quarantine (Quarantine Direct))) → Type 0
NewHeap (Alone d) (First h) = NewDirect d h
NewHeap (Alone d) (Second h) = ⊥
NewHeap (Quarantined d) (First h) = ⊥
NewHeap (Quarantined d) (Second (First q)) = NewDirect d q.below × (waiting_of q.waiting ≡ [])
NewHeap (Quarantined d) (Second (Second q)) = ⊥
NewHeap (TwiceQuarantined d) (First h) = ⊥
NewHeap (TwiceQuarantined d) (Second (First q)) = ⊥
NewHeap (TwiceQuarantined d) (Second (Second q)) = NewDirect d q.below.below × (waiting_of q.below.waiting ≡ []) × (waiting_of q.waiting ≡ [])

-- a rack of the name, without a place out
abbrev pub NewRack : RackName → Choice (PlaceRack InFront) (PlaceRack AtEnd) → Type 0
NewRack Stack (First r) = rack_state r ≡ fresh_row
NewRack Stack (Second r) = ⊥
NewRack Ring (First r) = ⊥
NewRack Ring (Second r) = rack_state r ≡ fresh_row
