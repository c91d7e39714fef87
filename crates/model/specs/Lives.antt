-- The lives of grants, as a trail shows them. Assumes nothing.
-- Grants are numbered by birth. The globals live from the beginning, a block from the grab and a frame from the call that made it;
-- a release ends its grant, a ret the youngest living frame, a start every living frame; and what has ended never lives again.
use Rattle.std.specs.Prelude.{◌≡◌, ℕ, ◌+◌, ◌*◌, ◌<◌, ◌≤◌, Bool, false, cond, List, [], ◌∷◌, ◌++◌, Some, None, Option, ◌==◌}
use Rattle.operations.specs.declared.code.Code.{Code}
use Rattle.operations.specs.declared.code.Code.TheVariants.{Call, Ret, Grab, Release}
use Rattle.heaps.specs.Rule.{Block}
use Rattle.model.specs.Grants.{globals, block, frame, is_frame, Outline, alive, over, blank, living_frame, latest, count}
use Rattle.model.specs.Sights.{Seen, Sight, seen, restarted}

-- how many grants were born, and what is told of each
pub record Lives : Type 0 where
  pub many : ℕ
  pub of : ℕ → Outline

-- one grant more; all that pass ended; one ended; all frames ended
abbrev pub with_birth : Lives → Outline → Lives
with_birth l o = record { many = l.many + 1; of = λ g. cond (g == l.many) o (l.of g) }

abbrev pub without : Lives → (ℕ → Bool) → Lives
without l f = record l { of = λ g. cond (f g) (over (l.of g)) (l.of g) }

abbrev pub with_end : Lives → ℕ → Lives
with_end l e = without l (λ g. g == e)

abbrev pub without_frames : Lives → Lives
without_frames l = without l (λ g. is_frame (l.of g).kind)

abbrev pub open_frames : Lives → ℕ
open_frames l = count (λ g. living_frame (l.of g)) l.many

abbrev pub youngest_frame : Lives → ℕ
youngest_frame l = latest (λ g. living_frame (l.of g)) l.many

-- a block that the heap answered, for so many bytes
abbrev pub block_born : Option Block → ℕ → Lives → Lives
block_born None n l = l
block_born (Some b) n l = with_birth l (alive block (1024 + b.start) n b.held)

abbrev pub ended_by : Option ℕ → Lives → Lives
ended_by None l = l
ended_by (Some g) l = with_end l g

-- what a step does to lives
abbrev pub changed : Code → Seen → Lives → Lives
changed Call e l = cond e.passed (with_birth l (alive frame (5120 + 48 * open_frames l) 48 48)) l
changed Ret e l = cond e.passed (with_end l (youngest_frame l)) l
changed Grab e l = cond e.keyed (block_born e.answer e.asked l) l
changed Release e l = cond e.passed (ended_by e.from l) l
changed _ e l = l

-- after a trail, of which the newest stands first
abbrev pub lives : List Sight → Lives
lives [] = record { many = 1; of = λ g. cond (g == 0) (alive globals 0 1024 1024) blank }
lives (seen e ∷ es) = changed e.code e (lives es)
lives (restarted ∷ es) = without_frames (lives es)

-- later lives: numbers, kinds and sizes stay, and what has ended stays ended
pub record Later (l l' : Lives) : Type 0 where
  pub more : l.many ≤ l'.many
  pub kind : (g : ℕ) → g < l.many → (l'.of g).kind ≡ (l.of g).kind
  pub start : (g : ℕ) → g < l.many → (l'.of g).start ≡ (l.of g).start
  pub asked : (g : ℕ) → g < l.many → (l'.of g).asked ≡ (l.of g).asked
  pub held : (g : ℕ) → g < l.many → (l'.of g).held ≡ (l.of g).held
  pub ended : (g : ℕ) → g < l.many → (l.of g).living ≡ false → (l'.of g).living ≡ false

-- whatever is seen after a trail
abbrev pub NeverAgain : Type 0
NeverAgain = (old new : List Sight) → Later (lives old) (lives (new ++ old))
