-- The first byte of a kind from a place of the text on: where the line ends, and where the value does. Assumes nothing.
use Rattle.std.proofs.Common.{◌≡◌, ◌≢◌, ℕ, ◌+◌, ◌-◌, ◌<◌, ◌≤◌, ◌⊎◌, List, length, get_or, drop, Some, None, Option, MatchOption, ap, ◌∙◌, subst, arith}
use Rattle.std.specs.List.{AllWithin, HoldsAt}
use Rattle.std.proofs.lemmas.List.{get_or-drop, length-drop}
use Rattle.text.specs.Lines.{Ended, Endless, Run}

-- the search from a place on: nothing, or the first byte with Yes, and No before it
abbrev pub First : (Yes No : ℕ → Type 0) → List ℕ → Option ℕ → Type 0
First Yes No xs r = MatchOption r (AllWithin No xs 0 (length xs)) (λ i. (i < length xs) × HoldsAt Yes xs i × AllWithin No xs 0 i)

module _ (text : List ℕ) (from : ℕ) (inside : from ≤ length text) where
  none_before : (P : ℕ → Type 0) (n : ℕ) → AllWithin P (drop from text) 0 n → (k : ℕ) → from ≤ k → k < from + n → P (get_or text k 0)
  none_before P n all k low high =
      subst P (get_or-drop from text (k - from) 0 ∙ ap (λ j. get_or text j 0) (omega arith)) (all (k - from) 0 (omega arith) (omega arith))

  there : (P : ℕ → Type 0) (i : ℕ) → HoldsAt P (drop from text) i → P (get_or text (from + i) 0)
  there P i h = subst P (get_or-drop from text i 0) (h 0)

  pub line_end : (r : Option ℕ) → First (λ b. b ≡ 10) (λ b. b ≢ 10) (drop from text) r → MatchOption r (Endless text from) (λ n. Ended text from (from + n))
  line_end None h =
      let long = length-drop from text in
      λ k low high. none_before (λ b. b ≢ 10) (length (drop from text)) h k low (omega arith)
  line_end (Some n) h =
      let long = length-drop from text in
      record {
        low = omega arith;
        high = omega (arith, h.0);
        is = there (λ b. b ≡ 10) n h.1;
        first = none_before (λ b. b ≢ 10) n h.2;
      }

  pub value_end : (r : Option ℕ) → First (λ b. (b ≡ 44) ⊎ (b ≡ 10)) (λ b. (b ≢ 44) × (b ≢ 10)) (drop from text) r → MatchOption r (Run text from (length text)) (λ n. Run text from (from + n))
  value_end None h =
      let long = length-drop from text in
      let none = none_before (λ b. (b ≢ 44) × (b ≢ 10)) (length (drop from text)) h in
      record {
        low = inside;
        high = omega arith;
        commas = λ k low high. (none k low (omega arith)).0;
        ends = λ k low high. (none k low (omega arith)).1;
      }
  value_end (Some n) h =
      let long = length-drop from text in
      let none = none_before (λ b. (b ≢ 44) × (b ≢ 10)) n h.2 in
      record {
        low = omega arith;
        high = omega (arith, h.0);
        commas = λ k low high. (none k low high).0;
        ends = λ k low high. (none k low high).1;
      }
