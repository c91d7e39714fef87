-- The heaps and racks that a script can name: how they are written, and read. Assumes nothing.
use Rattle.std.specs.Prelude.{ℕ, cond, List, ◌++◌, Some, None, codes, Option, Result}
use Rattle.std.specs.Option.{ok_or, option_map}
use Rattle.std.specs.Str.{bytes_eq}
use Rattle.scripts.specs.declared.names.DirectName.{DirectName}
use Rattle.scripts.specs.declared.names.DirectName.TheVariants.{BestFit, Slots}
use Rattle.scripts.specs.declared.names.HeapName.{HeapName}
use Rattle.scripts.specs.declared.names.HeapName.TheVariants.{Alone, Quarantined, TwiceQuarantined}
use Rattle.scripts.specs.declared.names.RackName.{RackName}
use Rattle.scripts.specs.declared.names.RackName.TheVariants.{Stack, Ring}
use Rattle.scripts.specs.declared.names.UnknownName.{UnknownName}
use Rattle.scripts.specs.Words.{after, past}

abbrev pub direct_written : DirectName → List ℕ
direct_written BestFit = codes "best-fit"
direct_written Slots = codes "slots"

abbrev pub heap_written : HeapName → List ℕ
heap_written (Alone d) = direct_written d
heap_written (Quarantined d) = codes "quarantine " ++ direct_written d
heap_written (TwiceQuarantined d) = codes "quarantine " ++ (codes "quarantine " ++ direct_written d)

abbrev pub rack_written : RackName → List ℕ
rack_written Stack = codes "stack"
rack_written Ring = codes "ring"

abbrev pub direct_of : List ℕ → Option DirectName
direct_of w = cond (bytes_eq w (codes "best-fit")) (Some BestFit) (cond (bytes_eq w (codes "slots")) (Some Slots) None)

abbrev pub rack_of : List ℕ → Option RackName
rack_of w = cond (bytes_eq w (codes "stack")) (Some Stack) (cond (bytes_eq w (codes "ring")) (Some Ring) None)

-- after `quarantine ` may come a second one
abbrev pub below_one : List ℕ → Option HeapName
below_one w = past (after (codes "quarantine ") w) (λ below. option_map TwiceQuarantined (direct_of below)) (option_map Quarantined (direct_of w))

abbrev pub heap_of : List ℕ → Option HeapName
heap_of w = past (after (codes "quarantine ") w) below_one (option_map Alone (direct_of w))

-- what reading gives: the name, or that the words are none
abbrev pub read_as : {T : Type 0} → Option T → Result T UnknownName
read_as name = ok_or name (record {})
