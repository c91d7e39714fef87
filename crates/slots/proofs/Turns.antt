-- Over every history the slot heap grants slots in turn. Assumes nothing.
use Rattle.std.proofs.Common.{◌≡◌, ℕ, ◌+◌, ◌*◌, ◌/◌, ◌%◌, ◌<◌, ◌≤◌, Bool, true, false, List, [], ◌∷◌, Some, None, sym, refl, ap, ◌∙◌, subst, inr, arith}
use Rattle.heaps.specs.Rule.{Taken, Block}
use Rattle.heaps.specs.Histories.{Call, take, give, clear, Event, taken, step, event, after, events}
use Rattle.heaps.proofs.Histories.{reached}
use Rattle.heaps.specs.Points.{cleared as first-clear}
use Rattle.heaps.proofs.Keeping.{reached_sound}
use Rattle.heaps.proofs.Laying.{some_none}
use Rattle.slots.specs.Rule.{Slotted, first_free, slots_held, granted, slots_take, begins, slots_rule}
use Rattle.slots.specs.Rule as rule
use Rattle.slots.specs.Turns.{first_in_turn, NextFree, InTurn, AlwaysInTurn}
use Rattle.slots.specs.Search.{found, all_taken}
use Rattle.slots.specs.Keeping.{Sixteen, Took, no, yes, took, slot_held, slot_free, refuses, kept}

-- the slot tried first is the one first in turn, by the events
one : (s : Slotted) (c : Call) (rest : List Event) → first_in_turn (step slots_rule s c).next rest ≡ first_in_turn s.next (event slots_rule s c ∷ rest)
one s (take n) rest = go (slots_take s n) (took s n)
  where
    go : (t : Taken Slotted) → Took s n t → first_in_turn t.after.next rest ≡ first_in_turn s.next (taken n t.answer ∷ rest)
    go t (no f) = refl
    go t (yes i l m e) = let at : (256 * i) / 256 ≡ i = omega arith in ap (λ (j : ℕ). first_in_turn ((j + 1) % 16) rest) (sym at)
one s (give x) rest = go (begins s.taken x)
  where
    go : (b : Bool) → first_in_turn (rule.given s x b).after.next rest ≡ first_in_turn s.next rest
    go true = refl
    go false = refl
one s clear rest = refl

next_in_turn : (s : Slotted) (calls : List Call) → (after slots_rule s calls).next ≡ first_in_turn s.next (events slots_rule s calls)
next_in_turn s [] = refl
next_in_turn s (c ∷ rest) = next_in_turn (step slots_rule s c) rest ∙ one s c (events slots_rule (step slots_rule s c) rest)

grants : (s : Slotted) (n : ℕ) (t : Taken Slotted) (b : Block) → Took s n t → Sixteen s → t.answer ≡ Some b → NextFree (slots_held s) s.next b
grants s n t b (no f) h e = some_none (sym e)
grants s n t b (yes i l m f) h e =
    let w = found s.taken 16 s.next i h.within f in
    let same : record { start = 256 * i; held = 256 } ≡ b = cc in
    subst (NextFree (slots_held s) s.next) same (record {
      turns = w.turns;
      few = w.few;
      start = ap (λ (j : ℕ). 256 * j) w.is;
      whole = refl;
      free = slot_free s i w.free;
      passed = λ k lt. slot_held s _ (w.passed k lt);
    })

refused : (s : Slotted) (n : ℕ) (t : Taken Slotted) → Took s n t → Sixteen s → 1 ≤ n → n ≤ 256 → t.answer ≡ None → (k : ℕ) → k < 16 → slots_held s (256 * k) ≡ Some 256
refused s n t (no f) h p q e k lt = slot_held s k (all_taken s.taken s.next k h.within lt (f p q))
refused s n t (yes i l m f) h p q e k lt = some_none e

in_turn : (s : Slotted) (n : ℕ) (t : Taken Slotted) → Took s n t → Sixteen s → InTurn (slots_held s) s.next n t.answer
in_turn s n t w h = record { grants = λ b. grants s n t b w h; refuses = refused s n t w h; large = λ l. refuses s n t w (inr l) }

pub always_in_turn : AlwaysInTurn
always_in_turn s calls n =
    let t = after slots_rule (slots_rule.clear s) calls in
    let h : Sixteen t = reached_sound slots_rule Sixteen kept t (reached slots_rule (slots_rule.clear s) calls (first-clear s)) in
    subst (λ (i : ℕ). InTurn (slots_held t) i n (slots_take t n).answer) (next_in_turn (slots_rule.clear s) calls) (in_turn t n (slots_take t n) (took t n) h)
