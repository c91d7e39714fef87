-- The slot heap's rule in plain words: slots are granted in turn. Assumes nothing.
use Rattle.std.specs.Prelude.{◌≡◌, ℕ, ◌+◌, ◌*◌, ◌/◌, ◌%◌, ◌<◌, ◌≤◌, List, [], ◌∷◌, Some, None, Option}
use Rattle.heaps.specs.Rule.{Block}
use Rattle.heaps.specs.Histories.{Call, Event, taken, given, cleared, after, events}
use Rattle.slots.specs.Rule.{Slotted, slots_held, slots_take, slots_rule}

-- which slot is first in turn, by the answers alone: the one after that last granted, and 0 from a clear on
abbrev pub first_in_turn : ℕ → List Event → ℕ
first_in_turn i [] = i
first_in_turn i (taken n (Some b) ∷ rest) = first_in_turn ((b.start / 256 + 1) % 16) rest
first_in_turn i (taken n None ∷ rest) = first_in_turn i rest
first_in_turn i (given x done ∷ rest) = first_in_turn i rest
first_in_turn i (cleared ∷ rest) = first_in_turn 0 rest

-- the slot that is k turns after the slot i, by its start
abbrev pub slot_after : ℕ → ℕ → ℕ
slot_after i k = 256 * ((i + k) % 16)

-- the block b is the first free slot in turn from i on
pub record NextFree (m : ℕ → Option ℕ) (i : ℕ) (b : Block) : Type 0 where
  pub turns : ℕ
  pub few : turns < 16
  pub start : b.start ≡ slot_after i turns
  pub whole : b.held ≡ 256
  pub free : m b.start ≡ None
  -- every slot before it in turn is taken
  pub passed : (k : ℕ) → k < turns → m (slot_after i k) ≡ Some 256

-- a take of n bytes, where m is living and the slot i is first in turn
pub record InTurn (m : ℕ → Option ℕ) (i n : ℕ) (answer : Option Block) : Type 0 where
  pub grants : (b : Block) → answer ≡ Some b → NextFree m i b
  pub refuses : 1 ≤ n → n ≤ 256 → answer ≡ None → (k : ℕ) → k < 16 → m (256 * k) ≡ Some 256
  pub large : 256 < n → answer ≡ None

abbrev pub AlwaysInTurn : Type 0
AlwaysInTurn = (s : Slotted) (calls : List Call) (n : ℕ) →
    let t : Slotted = after slots_rule (slots_rule.clear s) calls in
    InTurn (slots_held t) (first_in_turn 0 (events slots_rule (slots_rule.clear s) calls)) n (slots_take t n).answer
