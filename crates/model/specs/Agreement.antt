-- What it is that the machine and the history book agree in, after every history of calls. Assumes nothing.
use Rattle.std.specs.Prelude.{◌≡◌, ℕ, ◌-◌, List, None, Option, option_map, slice_index, slice_index_or}
use Rattle.heaps.specs.Rule.{HeapRule}
use Rattle.racks.specs.Rule.{RackRule}
use Rattle.model.specs.Sheet.{player}
use Rattle.model.specs.declared.sidecar.Sidecar.{Sidecar}
use Rattle.model.specs.Machine.{machine, made, OfMachine}
use Rattle.model.specs.History.{book, opened, OfBook}
use Rattle.model.specs.Driving.{HostCall, Driven, answers, leads_to}
use Rattle.model.specs.declared.phase.Phase.TheVariants.{Idle}

abbrev pub idle : {M : Type 0} → M → Driven M
idle m = record { counter = 0; phase = Idle; player = m }

abbrev pub descent : Option Sidecar → Option ℕ
descent = option_map (λ s. s.key - 1)

module _ (H : HeapRule) (R : RackRule) (top : ℕ) (s : H.State) (r : R.State) where
  abbrev pub book_after : List HostCall → Driven (OfBook H)
  book_after qs = leads_to (player (book H)) qs (idle (opened H top s))

  abbrev pub machine_after : List HostCall → Driven (OfMachine H R)
  machine_after qs = leads_to (player (machine H R)) qs (idle (made H R top s r))

  pub record Agree (qs : List HostCall) : Type 0 where
    pub answers : answers (player (machine H R)) qs (idle (made H R top s r)) ≡ answers (player (book H)) qs (idle (opened H top s))
    pub words : (i : ℕ) → slice_index (machine_after qs).player.common.words i ≡ slice_index (book_after qs).player.common.words i
    pub descents : (i : ℕ) → descent (slice_index_or (machine_after qs).player.tags i None) ≡ slice_index_or (book_after qs).player.tags i None

-- of a heap and a rack, every ceiling and every history
abbrev pub AlwaysAgree : HeapRule → RackRule → Type 0
AlwaysAgree H R = (top : ℕ) (s : H.State) (r : R.State) (qs : List HostCall) → Agree H R top s r qs
