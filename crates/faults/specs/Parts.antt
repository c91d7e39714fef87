-- The printed name of each part of the product. Assumes nothing.
use Rattle.std.specs.Prelude.{ℕ, List, codes}
use Rattle.faults.specs.declared.part.Part.{Part}
use Rattle.faults.specs.declared.part.Part.TheVariants.{Text, Heap, Rack, Machine}

abbrev pub name_of : Part → List ℕ
name_of Text = codes "text"
name_of Heap = codes "heap"
name_of Rack = codes "rack"
name_of Machine = codes "machine"
