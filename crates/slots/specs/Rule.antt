-- The rule of the slot heap: sixteen slots of 256 bytes, held whole, tried in turn. Assumes nothing.
use Rattle.std.specs.Prelude.{ℕ, zero, suc, ◌+◌, ◌*◌, ◌/◌, ◌%◌, Bool, true, false, cond, ◌&&◌, List, replicate, Some, None, Option, ◌==◌, nat_le, slice_index_or, slice_set}
use Rattle.heaps.specs.Rule.{HeapRule, Taken, Given}

-- of each slot whether it is taken, and the slot that is tried first
pub record Slotted : Type 0 where
  pub taken : List Bool
  pub next : ℕ

abbrev pub slotted : List Bool → ℕ → Slotted
slotted t i = record { taken = t; next = i }

-- the first free slot of k that are tried in turn from i on
unfoldable pub first_free : List Bool → ℕ → ℕ → Option ℕ
first_free t zero i = None
first_free t (suc k) i = cond (slice_index_or t i false) (first_free t k ((i + 1) % 16)) (Some i)

-- whether a living block starts at x
abbrev pub begins : List Bool → ℕ → Bool
begins t x = x % 256 == 0 && slice_index_or t (x / 256) false

-- the slot of the living block that starts at x
abbrev pub slot_at : List Bool → ℕ → Option ℕ
slot_at t x = cond (begins t x) (Some (x / 256)) None

abbrev pub slots_held : Slotted → ℕ → Option ℕ
slots_held s x = cond (begins s.taken x) (Some 256) None

-- the slot found is granted, and the one after it is tried next; a refusal leaves the state
abbrev pub granted : Slotted → Option ℕ → Taken Slotted
granted s (Some i) = record { answer = Some (record { start = 256 * i; held = 256 }); after = slotted (slice_set s.taken i true) ((i + 1) % 16) }
granted s None = record { answer = None; after = s }

abbrev pub slots_take : Slotted → ℕ → Taken Slotted
slots_take s n = cond (nat_le 1 n && nat_le n 256) (granted s (first_free s.taken 16 s.next)) (record { answer = None; after = s })

abbrev pub given : Slotted → ℕ → Bool → Given Slotted
given s x true = record { answer = true; after = slotted (slice_set s.taken (x / 256) false) s.next }
given s x false = record { answer = false; after = s }

abbrev pub slots_give : Slotted → ℕ → Given Slotted
slots_give s x = given s x (begins s.taken x)

abbrev pub cleared : Slotted
cleared = slotted (replicate 16 false) 0

abbrev pub slots_rule : HeapRule
slots_rule = record {
  State = Slotted;
  held = slots_held;
  take = slots_take;
  give = slots_give;
  clear = λ _. cleared;
}
