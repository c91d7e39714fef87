-- What ties the machine to the book. Assumes nothing.
use Rattle.std.proofs.Common.{◌≡◌, ℕ, ◌+◌, ◌-◌, ◌*◌, ◌/◌, ◌%◌, ◌<◌, ◌≤◌, true, eqb, List, length, get_or, Some, None, Option}
use Rattle.heaps.specs.Rule.{HeapRule}
use Rattle.heaps.specs.Points.{Apart, Reached}
use Rattle.racks.specs.Rule.{RackRule}
use Rattle.racks.specs.Points.{Reached as RackReached}
use Rattle.model.specs.declared.sidecar.Sidecar.{Sidecar}
use Rattle.model.specs.Machine.{Core, side}
use Rattle.model.specs.Grants.{Outline, Kind, globals, block, frame, count, living_block, living_frame}
use Rattle.model.specs.History.{Book, Grant, nth, outline}
use Rattle.model.proofs.Sheeting.{Both}
use Rattle.model.proofs.Views.{Window}

-- the ghost: how many grants there are, and which sidecar the machine has for each
pub record World : Type 0 where
  pub many : ℕ
  pub of : ℕ → Sidecar

abbrev pub Alike : World → Sidecar → ℕ → Type 0
Alike w s g = (g < w.many) × (s ≡ w.of g)

-- where a grant of a kind lies: its place, start, asked and held bytes
abbrev pub Zone : Kind → ℕ → ℕ → ℕ → ℕ → Type 0
Zone globals p x n h = (p ≡ 0) × (x + h ≤ 1024)
Zone block p x n h = (1 ≤ p) × (p ≤ 255) × (1024 ≤ x) × (x + h ≤ 5120)
Zone frame p x n h = (256 ≤ p) × (p < 320) × (x ≡ 5120 + 48 * (p - 256)) × (n ≡ 48) × (h ≡ 48)

pub record Fits (g : ℕ) (s : Sidecar) (o : Outline) : Type 0 where
  pub key : s.key ≡ g + 1
  pub base : s.base ≡ o.start
  pub bound : s.bound ≡ o.start + o.asked
  pub even : o.start % 8 ≡ 0
  pub whole : o.held % 8 ≡ 0
  pub roomy : o.asked ≤ o.held
  pub inside : o.start + o.held ≤ 8192
  pub zone : Zone o.kind s.place o.start o.asked o.held

-- a grant's own bytes and descents are what memory and shadow have in its place
pub record Kept (w : World) (g : Grant) (memory : List ℕ) (shadow : List (Option Sidecar)) : Type 0 where
  pub size : length g.bytes ≡ g.outline.asked
  pub marks : length g.descents ≡ g.outline.asked / 8
  pub bytes : Window ◌≡◌ 0 0 memory g.outline.start g.bytes g.outline.asked
  pub tags : Window (Both (Alike w)) None None shadow (g.outline.start / 8) g.descents (g.outline.asked / 8)

pub record Stored (w : World) (G : ℕ → Grant) (memory : List ℕ) (shadow : List (Option Sidecar)) : Type 0 where
  pub room : length memory ≡ 8192
  pub words : length shadow ≡ 1024
  pub kept : (g : ℕ) → g < w.many → (G g).outline.living ≡ true → Kept w (G g) memory shadow

abbrev pub Live : World → (ℕ → Outline) → ℕ → Type 0
Live w O g = (g < w.many) × ((O g).living ≡ true)

module _ (H : HeapRule) (R : RackRule) where
  pub record Ties (w : World) (k : ℕ) (O : ℕ → Outline) (locks : List ℕ) (s : H.State) (r : R.State) : Type 0 where
    pub places : length locks ≡ 320
    pub first : (0 < w.many) × (w.of 0 ≡ side 0 1024 1 0)
    pub fits : (g : ℕ) → g < w.many → Fits g (w.of g) (O g)
    pub locked : (g : ℕ) → g < w.many → eqb (get_or locks (w.of g).place 0) (g + 1) ≡ (O g).living
    pub apart : (g h : ℕ) → Live w O g → Live w O h → (g ≡ h → ⊥) → Apart (O g).start (O g).held (O h).start (O h).held
    pub blocks : (g : ℕ) → g < w.many → living_block (O g) ≡ true → (H.held s ((O g).start - 1024) ≡ Some (O g).held) × (R.out r (w.of g).place ≡ true)
    pub counted : count (R.out r) 256 ≡ count (λ g. living_block (O g)) w.many
    pub deep : k ≤ 64
    pub frames : (g : ℕ) → g < w.many → living_frame (O g) ≡ true → (w.of g).place < 256 + k
    pub ranks : (g h : ℕ) → g < h → h < w.many → living_frame (O g) ≡ true → living_frame (O h) ≡ true → (w.of g).place < (w.of h).place
    pub opens : (j : ℕ) → j < k → (g : ℕ) × (g < w.many) × (living_frame (O g) ≡ true) × ((w.of g).place ≡ 256 + j)
    pub heap_sound : Reached H s
    pub rack_sound : RackReached R r

  pub record Rel (w : World) (k : ℕ) (c : Core H.State R.State) (b : Book H.State) : Type 0 where
    pub many : w.many ≡ length b.grants
    pub issued : c.issued ≡ length b.grants
    pub ceiling : c.ceiling ≡ b.ceiling
    pub heap : c.heap ≡ b.heap
    pub ties : Ties w k (λ g. outline b g) c.locks c.heap c.rack
    pub stored : Stored w (λ g. nth b g) c.memory c.shadow
