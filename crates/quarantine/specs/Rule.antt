-- The rule of a quarantine over any heap: a block that is given waits before it goes below. Assumes nothing.
use Rattle.std.specs.Prelude.{ℕ, Bool, true, false, cond, ◌&&◌, List, [], ◌∷◌, ◌++◌, length, is_some, None, Option, nat_le}
use Rattle.heaps.specs.Rule.{HeapRule, Taken, Given}
use Rattle.quarantine.specs.Lists.{is_in}

-- the state of the heap below, and the starts of the blocks that wait, the longest waiting first
pub record Quarantined (S : Type 0) : Type 0 where
  pub below : S
  pub waiting : List ℕ

abbrev pub quarantined : {S : Type 0} → S → List ℕ → Quarantined S
quarantined s w = record { below = s; waiting = w }

-- takes of 1 to 4,096 bytes are tried again when they are refused below
abbrev pub retriable : ℕ → Bool
retriable n = nat_le 1 n && nat_le n 4096

module _ (R : HeapRule) where
  abbrev pub held_of : Quarantined R.State → ℕ → Option ℕ
  held_of s x = cond (is_in x s.waiting) None (R.held s.below x)

  -- one take below
  abbrev pub once : ℕ → Quarantined R.State → Taken (Quarantined R.State)
  once n s = record { answer = (R.take s.below n).answer; after = quarantined (R.take s.below n).after s.waiting }

  -- x goes below after a take of n bytes
  abbrev pub gone_below : ℕ → ℕ → R.State → R.State
  gone_below n x s = (R.give (R.take s n).after x).after

  -- takes below, after each refusal one that waits goes there; until one is granted or none waits
  unfoldable pub retried : ℕ → List ℕ → R.State → Taken (Quarantined R.State)
  retried n [] s = once n (quarantined s [])
  retried n (x ∷ w) s = cond (is_some (R.take s n).answer) (once n (quarantined s (x ∷ w))) (retried n w (gone_below n x s))

  abbrev pub take_of : Quarantined R.State → ℕ → Taken (Quarantined R.State)
  take_of s n = cond (retriable n) (retried n s.waiting s.below) (once n s)

  -- x joins those that wait; when sixteen wait already, the first of them goes below
  abbrev pub joined : ℕ → List ℕ → R.State → Quarantined R.State
  joined x [] s = quarantined s (x ∷ [])
  joined x (y ∷ w) s = cond (nat_le 16 (length (y ∷ w))) (quarantined (R.give s y).after (w ++ (x ∷ []))) (quarantined s ((y ∷ w) ++ (x ∷ [])))

  abbrev pub given_of : Quarantined R.State → ℕ → Bool → Given (Quarantined R.State)
  given_of s x true = record { answer = true; after = joined x s.waiting s.below }
  given_of s x false = record { answer = false; after = s }

  abbrev pub give_of : Quarantined R.State → ℕ → Given (Quarantined R.State)
  give_of s x = given_of s x (is_some (held_of s x))

  abbrev pub quarantine_rule : HeapRule
  quarantine_rule = record {
    State = Quarantined R.State;
    held = held_of;
    take = take_of;
    give = give_of;
    clear = λ s. quarantined (R.clear s.below) [];
  }
