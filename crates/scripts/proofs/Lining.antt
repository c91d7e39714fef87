-- The lines of a text, and what one of them says. Assumes nothing.
use Rattle.std.proofs.Common.{◌≡◌, ℕ, suc, ◌+◌, ◌<◌, ◌≤◌, Bool, true, false, eqb, List, [], ◌∷◌, length, get_or, take, drop, Some, None, Ok, Err, Option, Result, MatchResult, IsOkAnd, refl, ap, sym, ◌∙◌, arith}
use Rattle.std.specs.Option.{ok_or, option_map}
use Rattle.std.specs.List.{onto_first, before_first, after_first}
use Rattle.std.proofs.lemmas.Bool.{cond-false, ne_eqb}
use Rattle.scripts.specs.declared.command.Command.{Command}
use Rattle.scripts.specs.declared.command.NotUnderstood.{NotUnderstood}
use Rattle.scripts.specs.Commands.{command_of}
use Rattle.scripts.specs.Entries.{entry_of}
use Rattle.scripts.specs.Lines.{lines_of}

-- a line that is neither blank nor a comment says what is read of it
pub said : (line : List ℕ) (r : Result Command NotUnderstood) (q : Result (Option Command) NotUnderstood) → 0 < length line → (get_or line 0 0 ≡ 35 → ⊥) → r ≡ ok_or (command_of line) (record {}) → MatchResult r (λ c. IsOkAnd q (λ x. x ≡ Some c)) (λ e. q ≡ Err e) → q ≡ entry_of line
said [] r q h ne is m = absurd (omega arith)
said (b ∷ bs) r q h ne is m = go (command_of (b ∷ bs)) r q is m ∙ sym (cond-false _ (Ok None) _ (ne_eqb b 35 ne))
  where
    go : (o : Option Command) (r : Result Command NotUnderstood) (q : Result (Option Command) NotUnderstood) → r ≡ ok_or o (record {}) → MatchResult r (λ c. IsOkAnd q (λ x. x ≡ Some c)) (λ e. q ≡ Err e) → q ≡ ok_or (option_map Some o) (record {})
    go (Some x) (Ok y) (Ok z) e k = cc
    go (Some x) (Ok y) (Err z) e k = absurd k
    go (Some x) (Err y) q e k = cc
    go None (Ok y) q e k = cc
    go None (Err y) q e k = cc

-- a byte in front of a first line
longer : (b n : ℕ) (text : List ℕ) (lines : List (List ℕ)) → lines ≡ take n text ∷ lines_of (drop (n + 1) text) → onto_first b lines ≡ take (1 + n) (b ∷ text) ∷ lines_of (drop (1 + n + 1) (b ∷ text))
longer b n text lines h = let e : 1 + n ≡ suc n = omega arith in let f : suc n + 1 ≡ suc (n + 1) = omega arith in rw (e, f) (ap (onto_first b) h)

-- the first line, and the others
abbrev FirstLine : List ℕ → Type 0
FirstLine text = lines_of text ≡ before_first (λ b. eqb b 10) text ∷ lines_of (after_first (λ b. eqb b 10) text)

pub first_line : (text : List ℕ) → 0 < length text → FirstLine text
unfolding lines_of
first_line [] h = absurd (omega arith)
first_line (b ∷ []) h = go (eqb b 10) refl
  where
    go : (t : Bool) → eqb b 10 ≡ t → FirstLine (b ∷ [])
    go true e = rw e refl
    go false e = rw e refl
first_line (b ∷ c ∷ cs) h = go (first_line (c ∷ cs) (omega arith)) (eqb b 10) refl
  where
    go : FirstLine (c ∷ cs) → (t : Bool) → eqb b 10 ≡ t → FirstLine (b ∷ c ∷ cs)
    go ih true e = rw e refl
    go ih false e = rw e (longer b _ (c ∷ cs) _ ih)

pub no_lines : (text : List ℕ) → length text ≡ 0 → lines_of text ≡ []
unfolding lines_of
no_lines [] h = refl
no_lines (b ∷ bs) h = absurd (omega arith)

-- fewer lines are left then
pub fewer_left : (text : List ℕ) → 0 < length text → length (lines_of (after_first (λ b. eqb b 10) text)) < length (lines_of text)
fewer_left text h = omega (arith, ap length (first_line text h))

-- there are no more lines than bytes
pub lines_few : (text : List ℕ) → length (lines_of text) ≤ length text
unfolding lines_of
lines_few [] = omega arith
lines_few (b ∷ bs) = go (lines_few bs) (eqb b 10) refl
  where
    one_more : (lines : List (List ℕ)) → length lines ≤ length bs → length (onto_first b lines) ≤ suc (length bs)
    one_more [] h = omega arith
    one_more (line ∷ lines) h = omega arith

    go : length (lines_of bs) ≤ length bs → (t : Bool) → eqb b 10 ≡ t → length (lines_of (b ∷ bs)) ≤ length (b ∷ bs)
    go ih true e = rw e (omega (arith, ih))
    go ih false e = rw e (one_more (lines_of bs) ih)
