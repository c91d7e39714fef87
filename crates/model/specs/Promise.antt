-- What every history keeps, in the subject's words: over the trail of the machine, entry by entry. Assumes nothing.
-- What lives, and what was stored, is told from the trail before an entry, and from nothing else.
use Rattle.std.specs.Prelude.{◌≡◌, ◌↔◌, ℕ, zero, suc, ◌+◌, ◌%◌, ◌<◌, ◌≤◌, true, false, List, [], ◌∷◌, ◌++◌, length, reverse, take, slice_get, Some, Ok, is_ok, slice_set}
use Rattle.std.specs.Option.{option_or}
use Rattle.operations.specs.declared.code.Code.{Code}
use Rattle.operations.specs.declared.code.Code.TheVariants.{Add, Load, Store, Loadb, Storeb, Grab, Release}
use Rattle.operations.specs.declared.step.Step.{Step}
use Rattle.model.specs.declared.sidecar.Sidecar.{Sidecar}
use Rattle.model.specs.declared.way.Way.TheVariants.{Next}
use Rattle.heaps.specs.Rule.{HeapRule}
use Rattle.heaps.specs.Points.{Apart}
use Rattle.racks.specs.Rule.{RackRule}
use Rattle.model.specs.Sheet.{word, tag, player}
use Rattle.model.specs.Parts.{value}
use Rattle.model.specs.Machine.{OfMachine, machine, made}
use Rattle.model.specs.Grants.{block, Outline, living_block, living_frame, count}
use Rattle.model.specs.Driving.{HostCall, start}
use Rattle.model.specs.Agreement.{idle, descent, Agree, machine_after}
use Rattle.model.specs.Trail.{Met, Entry, acted, entries_of, trail, target}
use Rattle.model.specs.Sights.{Sight, Wrote, log, newest, sights}
use Rattle.model.specs.Lives.{Lives, lives}
use Rattle.model.specs.Runs.{Drives}
use Rattle.model.specs.Refusals.{Refuses}

-- how many bytes an access touches
pub data Access : Code → ℕ → Type 0 where
  load : Access Load 8
  store : Access Store 8
  loadb : Access Loadb 1
  storeb : Access Storeb 1

-- a grant is living and holds all n bytes from x on; a word starts at a multiple of eight
pub record Reaches (o : Outline) (x n : ℕ) : Type 0 where
  pub living : o.living ≡ true
  pub low : o.start ≤ x
  pub high : x + n ≤ o.start + o.asked
  pub even : n ≡ 8 → x % 8 ≡ 0

-- a grant is living and the heap's
pub record Endable (o : Outline) : Type 0 where
  pub living : o.living ≡ true
  pub heaps : o.kind ≡ block

-- the 512 bytes from y on are the heap's, and held by no living grant of it
pub record Clear (l : Lives) (y : ℕ) : Type 0 where
  pub low : 1024 ≤ y
  pub high : y + 512 ≤ 5120
  pub clear : (g : ℕ) → Endable (l.of g) → Apart (l.of g).start (l.of g).held y 512

abbrev pub living_blocks : Lives → ℕ
living_blocks l = count (λ g. living_block (l.of g)) l.many

-- k bytes from address x on of what was last stored through g, lowest first
abbrev pub last_stored : List Wrote → ℕ → ℕ → ℕ → List ℕ
last_stored l g zero x = []
last_stored l g (suc k) x = newest l g x ∷ last_stored l g k (suc x)

module _ (H : HeapRule) (R : RackRule) where
  -- an entry e of the machine's trail, and what is seen of the trail before it, the newest first
  module _ (e : Met (OfMachine H R)) (past : List Sight) where
    abbrev pub o : Step
    o = e.step

    abbrev pub Passes : Type 0
    Passes = is_ok e.did.way ≡ true

    -- the address in register a descends from g
    abbrev pub Descends : ℕ → Type 0
    Descends g = descent (tag e.before o.a) ≡ Some g

    abbrev pub life : ℕ → Outline
    life = (lives past).of

    -- a block was granted: its address and its sidecar are in register d, and it is numbered by birth
    pub record Granted : Type 0 where
      pub sidecar : Sidecar
      pub number : descent (Some sidecar) ≡ Some (lives past).many
      pub way : e.did.way ≡ Ok Next
      pub size : sidecar.bound ≡ sidecar.base + word e.before o.a
      pub words : e.did.after.common.words ≡ slice_set e.before.common.words o.d sidecar.base
      pub sidecars : e.did.after.tags ≡ slice_set e.before.tags o.d (Some sidecar)

    pub record Keeps : Type 0 where
      -- a load or store passes exactly when the grant that its address descends from is living and holds every byte touched
      pub accesses : (n : ℕ) → Access o.code n → Passes ↔ ((g : ℕ) × Descends g × Reaches (life g) (target e.before o) n)
      -- a release passes exactly when its grant is living and the heap's
      pub releases : o.code ≡ Release → Passes ↔ ((g : ℕ) × Descends g × Endable (life g))
      -- each byte that a load brings is the one last stored at that address through the same grant, or zero if none was
      pub loads : o.code ≡ Load → Passes → (g : ℕ) → Descends g →
          e.did.after.common.words ≡ slice_set e.before.common.words o.d (value (last_stored (log past) g 8 (target e.before o)))
      pub byte_loads : o.code ≡ Loadb → Passes → (g : ℕ) → Descends g →
          e.did.after.common.words ≡ slice_set e.before.common.words o.d (newest (log past) g (target e.before o))
      -- with a key left, a grab of 1 to 256 bytes gets a grant while fewer than 255 blocks live and 512 neighbouring bytes are clear
      pub grabs : o.code ≡ Grab → e.before.store.issued < e.before.store.ceiling → 1 ≤ word e.before o.a → word e.before o.a ≤ 256 →
          living_blocks (lives past) < 255 → (y : ℕ) → Clear (lives past) y → Granted
      -- a sum carries a's sidecar if a has one, whether its grant lives or not, and else b's
      pub sums : o.code ≡ Add → e.did.after.tags ≡ slice_set e.before.tags o.d (option_or (tag e.before o.a) (tag e.before o.b))
      -- a fault leaves all as it was
      pub faults : is_ok e.did.way ≡ false → e.did.after ≡ e.before

  module _ (top : ℕ) (s : H.State) (r : R.State) (qs : List HostCall) where
    abbrev pub machine_trail : List (Entry (OfMachine H R))
    machine_trail = trail (player (machine H R)) qs (idle (made H R top s r))

    -- the whole trail with one call more, the newest entry first
    abbrev pub trail_after : HostCall → List (Entry (OfMachine H R))
    trail_after q = reverse (trail (player (machine H R)) (qs ++ (q ∷ [])) (idle (made H R top s r)))

    pub record Promise : Type 0 where
      -- all answers, faults and counts, and each register's word and descent, are those of the history book
      pub agree : Agree H R top s r qs
      pub places : (i : ℕ) (e : Met (OfMachine H R)) → slice_get machine_trail i ≡ Some (acted e) → Keeps e (sights H R (reverse (take i machine_trail)))
      -- a call more adds its own entries to the trail
      pub grows : (q : HostCall) → trail (player (machine H R)) (qs ++ (q ∷ [])) (idle (made H R top s r)) ≡ machine_trail ++ entries_of (player (machine H R)) q (machine_after H R top s r qs)
      -- after a start that follows, no frame is living
      pub starts : (os : List Step) (x : ℕ) → x < length os → (g : ℕ) → living_frame ((lives (sights H R (trail_after (start os x)))).of g) ≡ false
      -- and the machine has none open
      pub closes : (os : List Step) (x : ℕ) → x < length os → (machine_after H R top s r (qs ++ (start os x ∷ []))).player.common.returns ≡ []
      -- a run that follows, with any program
      pub drives : (os : List Step) → Drives (player (machine H R)) (machine_after H R top s r qs) os
      -- a call that follows and is refused
      pub refuses : Refuses (player (machine H R)) (machine_after H R top s r qs)

-- of a heap and a rack, every ceiling and every history
abbrev pub AlwaysKeeps : HeapRule → RackRule → Type 0
AlwaysKeeps H R = (top : ℕ) (s : H.State) (r : R.State) (qs : List HostCall) → Promise H R top s r qs
