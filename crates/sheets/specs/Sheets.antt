-- The placement sheet: blocks and gaps by address, from which blocks are living. Assumes nothing.
use Rattle.std.specs.Prelude.{◌≡◌, ℕ, zero, suc, ◌+◌, ◌-◌, min, Bool, true, false, cond, ◌&&◌, List, [], ◌∷◌, ◌++◌, Some, None, Option, ◌==◌, nat_lt}
use Rattle.heaps.specs.Points.{Laid}
use Rattle.sheets.specs.declared.stretch.Kind.{Kind}
use Rattle.sheets.specs.declared.stretch.Kind.TheVariants.{Block, Gap}
use Rattle.sheets.specs.declared.stretch.Stretch.{Stretch}

abbrev pub is_block : Kind → Bool
is_block Block = true
is_block Gap = false

-- the block that starts at an address, if one does and what was found before does not reach so far
abbrev pub starts_at : (ℕ → Option ℕ) → ℕ → ℕ → Option ℕ
starts_at m a from = cond (nat_lt a from) None (m a)

-- the gap from one address to another, if there is one
abbrev pub gap_to : ℕ → ℕ → List Stretch
gap_to from to = cond (nat_lt from to) (record { start = from; size = to - from; kind = Gap } ∷ []) []

-- the bytes of a block, up to the end of the heap
abbrev pub size_at : ℕ → ℕ → ℕ
size_at a h = min h (4096 - a)

-- what is found at an address where everything before `from` is found: the gap and the block; and how far it then reaches
abbrev pub found_at : Option ℕ → ℕ → ℕ → List Stretch
found_at (Some h) a from = gap_to from a ++ (record { start = a; size = size_at a h; kind = Block } ∷ [])
found_at None a from = []

abbrev pub end_after : Option ℕ → ℕ → ℕ → ℕ
end_after (Some h) a from = a + size_at a h
end_after None a from = from

-- the stretches from `from` on: k addresses are still to be looked at, each eight after the one before, and then comes the last gap
unfoldable pub stretches_from : (ℕ → Option ℕ) → ℕ → ℕ → ℕ → List Stretch
stretches_from m zero a from = gap_to from 4096
stretches_from m (suc k) a from = found_at (starts_at m a from) a from ++ stretches_from m k (a + 8) (end_after (starts_at m a from) a from)

abbrev pub stretches_of : (ℕ → Option ℕ) → List Stretch
stretches_of m = stretches_from m 512 0 0

-- each stretch starts where the one before it ends, from an address on, up to 4,096
abbrev pub Tiles : ℕ → List Stretch → Type 0
Tiles a [] = a ≡ 4096
Tiles a (s ∷ ss) = (s.start ≡ a) × Tiles (a + s.size) ss

-- the size of the block that is listed at an address, if one is
abbrev pub block_at : List Stretch → ℕ → Option ℕ
block_at [] x = None
block_at (s ∷ ss) x = cond (is_block s.kind && s.start == x) (Some s.size) (block_at ss x)

-- the law: the stretches lie one after another and are the whole heap; and where living blocks fit and lie apart,
-- as they do in every heap, the blocks that are listed are the living ones
pub record Shows (m : ℕ → Option ℕ) (ss : List Stretch) : Type 0 where
  pub tiles : Tiles 0 ss
  pub blocks : Laid m → (x : ℕ) → block_at ss x ≡ m x

-- how many stretches are blocks, and how many bytes those hold
abbrev pub blocks_in : List Stretch → ℕ
blocks_in [] = 0
blocks_in (s ∷ ss) = cond (is_block s.kind) 1 0 + blocks_in ss

abbrev pub held_in : List Stretch → ℕ
held_in [] = 0
held_in (s ∷ ss) = cond (is_block s.kind) s.size 0 + held_in ss
