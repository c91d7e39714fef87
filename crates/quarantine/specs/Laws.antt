-- What a quarantine does, in words above its rule: who waits, who goes below and when. Assumes nothing.
use Rattle.std.specs.Prelude.{◌≡◌, ℕ, ◌<◌, ◌≤◌, true, false, List, [], ◌∷◌, ◌++◌, length, take, drop, is_some, Some, None}
use Rattle.heaps.specs.Rule.{HeapRule, Taken, Given, Block}
use Rattle.heaps.specs.Points.{Reached, Apart, minus}
use Rattle.quarantine.specs.Lists.{is_in, Once}
use Rattle.quarantine.specs.Rule.{Quarantined, gone_below, quarantine_rule}

module _ (R : HeapRule) where
  -- at most sixteen wait, none twice, and each waiting start is that of a block living below
  pub record Waits (s : Quarantined R.State) : Type 0 where
    pub few : length s.waiting ≤ 16
    pub once : Once s.waiting
    pub lives : (x : ℕ) → is_in x s.waiting ≡ true → is_some (R.held s.below x) ≡ true

  -- living here are the blocks that live below and do not wait, and no others
  pub record Lives (s : Quarantined R.State) : Type 0 where
    pub below : (x h : ℕ) → (quarantine_rule R).held s x ≡ Some h → R.held s.below x ≡ Some h
    pub free : (x h : ℕ) → (quarantine_rule R).held s x ≡ Some h → is_in x s.waiting ≡ false
    pub here : (x h : ℕ) → R.held s.below x ≡ Some h → is_in x s.waiting ≡ false → (quarantine_rule R).held s x ≡ Some h

  -- the heap below once these have gone there one by one, each after a take of n bytes
  abbrev pub sent_below : ℕ → List ℕ → R.State → R.State
  sent_below n [] s = s
  sent_below n (x ∷ w) s = sent_below n w (gone_below R n x s)

  -- the same with the first k of those that wait
  abbrev pub after_sent : ℕ → ℕ → Quarantined R.State → R.State
  after_sent n k s = sent_below n (take k s.waiting) s.below

  -- a take of n bytes that is tried again: so many are sent below, in their order, and each of them after a refusal
  pub record Retries (n : ℕ) (s : Quarantined R.State) (t : Taken (Quarantined R.State)) : Type 0 where
    pub sent : ℕ
    pub some : sent ≤ length s.waiting
    pub waits : t.after.waiting ≡ drop sent s.waiting
    pub refused : (k : ℕ) → k < sent → (R.take (after_sent n k s) n).answer ≡ None
    pub answer : t.answer ≡ (R.take (after_sent n sent s) n).answer
    pub below : t.after.below ≡ (R.take (after_sent n sent s) n).after
    -- the whole is refused only when none is left to send
    pub all : t.answer ≡ None → sent ≡ length s.waiting

  -- a take of 0 or of more than 4,096 bytes: one take below, and who waits stays
  pub record Passes (n : ℕ) (s : Quarantined R.State) (t : Taken (Quarantined R.State)) : Type 0 where
    pub waits : t.after.waiting ≡ s.waiting
    pub answer : t.answer ≡ (R.take s.below n).answer
    pub below : t.after.below ≡ (R.take s.below n).after

  -- a granted block shares no byte with a block that still waits
  abbrev pub OffWaiting : Taken (Quarantined R.State) → Type 0
  OffWaiting t = (b : Block) → t.answer ≡ Some b → (x h : ℕ) → is_in x t.after.waiting ≡ true → R.held t.after.below x ≡ Some h → Apart x h b.start b.held

  -- the first of those that wait has gone below, and it alone
  pub record FirstGoes (y : ℕ) (s : R.State) (after : R.State) : Type 0 where
    pub goes : after ≡ (R.give s y).after
    pub alone : (z : ℕ) → R.held after z ≡ minus (R.held s) y z

  -- a give of the block that starts at x
  pub record Joins (x : ℕ) (s : Quarantined R.State) (g : Given (Quarantined R.State)) : Type 0 where
    pub refused : g.answer ≡ false → g.after ≡ s
    pub waits : g.answer ≡ true → length s.waiting < 16 → g.after.waiting ≡ s.waiting ++ (x ∷ [])
    pub below : g.answer ≡ true → length s.waiting < 16 → g.after.below ≡ s.below
    pub full_waits : g.answer ≡ true → (y : ℕ) (w : List ℕ) → s.waiting ≡ y ∷ w → length s.waiting ≡ 16 → g.after.waiting ≡ w ++ (x ∷ [])
    pub full_below : g.answer ≡ true → (y : ℕ) (w : List ℕ) → s.waiting ≡ y ∷ w → length s.waiting ≡ 16 → FirstGoes y s.below g.after.below

  -- a clear clears below, and nobody waits after it
  pub record Clears (s t : Quarantined R.State) : Type 0 where
    pub below : t.below ≡ R.clear s.below
    pub waits : t.waiting ≡ []

  pub record KeepsRules (s : Quarantined R.State) : Type 0 where
    pub waits : Waits s
    pub lives : Lives s
    pub retries : (n : ℕ) → 1 ≤ n → n ≤ 4096 → Retries n s ((quarantine_rule R).take s n)
    pub none : Passes 0 s ((quarantine_rule R).take s 0)
    pub large : (n : ℕ) → 4096 < n → Passes n s ((quarantine_rule R).take s n)
    pub off_waiting : (n : ℕ) → OffWaiting ((quarantine_rule R).take s n)
    pub joins : (x : ℕ) → Joins x s ((quarantine_rule R).give s x)
    pub clears : Clears s ((quarantine_rule R).clear s)

  -- from the first clear on
  abbrev pub QuarantineRules : Type 0
  QuarantineRules = (s : Quarantined R.State) → Reached (quarantine_rule R) s → KeepsRules s
