-- The operation sheet: what each of the 22 operations does. Assumes nothing.
-- It is said once for the machine and for the history book. T is what a register carries beside its word (a sidecar, or the
-- number of a grant), H is what lies behind the registers, and a Backing has the steps on it that the sheet asks for.
use Rattle.std.specs.Prelude.{ℕ, zero, suc, ◌+◌, ◌-◌, ◌*◌, ◌/◌, ◌%◌, ◌^◌, Bool, true, false, cond, List, [], ◌∷◌, length, Some, None, Option, Ok, Err, Result, ◌==◌, nat_lt, slice_index, slice_index_or, slice_set}
use Rattle.std.specs.Option.{option_or}
use Rattle.faults.specs.declared.cause.Cause.{Cause}
use Rattle.faults.specs.declared.cause.Cause.TheVariants.{NoSidecar, NoKey, FrameLimit, NoFrame, ZeroDivisor}
use Rattle.operations.specs.declared.code.Code.{Code}
use Rattle.operations.specs.declared.code.Code.TheVariants.{Stop, Set, Copy, Add, Sub, Addi, Mul, Div, Less, Load, Store, Loadb, Storeb, Jump, Jzero, Call, Ret, Frame, Global, Grab, Release, Out}
use Rattle.operations.specs.declared.step.Step.{Step}
use Rattle.model.specs.declared.way.Way.{Way}
use Rattle.model.specs.declared.way.Way.TheVariants.{Next, Jumped, Stopped, Answered}
use Rattle.std.proofs.Common.{of_z}
use Rattle.std.specs.Int.{w64}

-- the way that an operation went, or the cause of its fault, and what it left; a fault leaves what was there
pub record Did (M : Type 0) : Type 0 where
  pub way : Result Way Cause
  pub after : M

-- who plays: what comes of a step at a position, and how all frames are closed
pub record Player (M : Type 0) : Type 0 where
  pub act : ℕ → Step → M → Did M
  pub close : M → M

-- what both sides have alike: the words of the registers and the return positions
pub record Common : Type 0 where
  pub words : List ℕ
  pub returns : List ℕ

-- the registers, the open frames' return positions (the youngest first), and what lies behind
pub record State (T H : Type 0) : Type 0 where
  pub common : Common
  pub tags : List (Option T)
  pub store : H

-- a granted block: its address, and what a register carries beside it
pub record Named (T : Type 0) : Type 0 where
  pub start : ℕ
  pub tag : T

-- what a grab comes to: a block, unless heap or rack refuse; the key was looked for before
pub record Grabbed (T H : Type 0) : Type 0 where
  pub block : Option (Named T)
  pub after : H

-- the steps of the sheet on what lies behind
pub record Backing (T H : Type 0) : Type 0 where
  -- the checks of an access of n bytes at an address: the cause is that of the first that fails
  pub check : H → T → ℕ → ℕ → Result Unit Cause
  -- the word at an address, what stands beside it, and the byte at an address
  pub load : H → T → ℕ → ℕ
  pub tag_at : H → T → ℕ → Option T
  pub loadb : H → T → ℕ → ℕ
  -- a word with what stands beside it, or the low byte of a word, written at an address
  pub store : H → T → ℕ → ℕ → Option T → H
  pub storeb : H → T → ℕ → ℕ → H
  -- whether a key is left
  pub keys : H → Bool
  pub grab : H → ℕ → Grabbed T H
  -- by what the register carries and its word, of which any serves: what is left, or the cause of the first check that fails
  pub release : H → T → ℕ → Result H Cause
  -- a frame opens, or closes, at a depth
  pub enter : H → ℕ → H
  pub leave : H → ℕ → H
  -- what an address of the frame at a depth carries, and one of the globals
  pub frame : H → ℕ → T
  pub global : T

-- words have 64 bits: sums, differences and products wrap
abbrev pub wrap : ℕ → ℕ
wrap x = x % 2 ^ 64

module _ {T H : Type 0} where
  abbrev pub did : Way → State T H → Did (State T H)
  did w m = record { way = Ok w; after = m }

  -- a check failed, and nothing was done
  abbrev pub faulted : Cause → State T H → Did (State T H)
  faulted f m = record { way = Err f; after = m }

  abbrev pub word : State T H → ℕ → ℕ
  word m i = slice_index m.common.words i

  abbrev pub tag : State T H → ℕ → Option T
  tag m i = slice_index_or m.tags i None

  -- the address that register a and a number make
  abbrev pub address : State T H → ℕ → ℕ → ℕ
  address m a n = wrap (word m a + n)

  abbrev pub depth : State T H → ℕ
  depth m = length m.common.returns

  -- register d gets a word and a tag
  abbrev pub name : State T H → ℕ → ℕ → Option T → State T H
  name m d v t = record m { common = record m.common { words = slice_set m.common.words d v }; tags = slice_set m.tags d t }

  abbrev pub keep : State T H → H → State T H
  keep m h = record m { store = h }

  abbrev pub frames : State T H → List ℕ → H → State T H
  frames m rs h = record m { common = record m.common { returns = rs }; store = h }

  abbrev pub unless : Result Unit Cause → State T H → State T H → Did (State T H)
  unless (Err f) m m' = faulted f m
  unless (Ok u) m m' = did Next m'

  -- an access of k bytes at an address, under a tag
  abbrev pub access : Backing T H → State T H → Option T → ℕ → ℕ → (T → State T H) → Did (State T H)
  access K m None x k f = faulted NoSidecar m
  access K m (Some t) x k f = unless (K.check m.store t x k) m (f t)

  abbrev pub got : Option (Named T) → State T H → ℕ → H → Did (State T H)
  got None m d h = did Next (name (keep m h) d 0 None)
  got (Some x) m d h = did Next (name (keep m h) d x.start (Some x.tag))

  abbrev pub kept : State T H → Result H Cause → Did (State T H)
  kept m (Ok h) = did Next (keep m h)
  kept m (Err f) = faulted f m

  abbrev pub released : Backing T H → State T H → Option T → ℕ → Did (State T H)
  released K m None x = faulted NoSidecar m
  released K m (Some t) x = kept m (K.release m.store t x)

  abbrev pub returned : Backing T H → State T H → List ℕ → Did (State T H)
  returned K m [] = faulted NoFrame m
  returned K m (r ∷ rs) = did (Jumped r) (frames m rs (K.leave m.store (length rs)))

  abbrev pub framed : Backing T H → State T H → List ℕ → ℕ → ℕ → Did (State T H)
  framed K m [] d n = faulted NoFrame m
  framed K m (r ∷ rs) d n = did Next (name m d (wrap (5120 + 48 * length rs + n)) (Some (K.frame m.store (length rs))))

  abbrev pub called : Backing T H → State T H → Bool → Bool → ℕ → ℕ → Did (State T H)
  called K m false left c n = faulted FrameLimit m
  called K m true false c n = faulted NoKey m
  called K m true true c n = did (Jumped n) (frames m ((c + 1) ∷ m.common.returns) (K.enter m.store (depth m)))

  abbrev pub divided : State T H → ℕ → ℕ → Bool → ℕ → Did (State T H)
  divided m x y true d = faulted ZeroDivisor m
  divided m x y false d = did Next (name m d (x / y) None)

  abbrev pub grabbed : Backing T H → State T H → Bool → ℕ → ℕ → Did (State T H)
  grabbed K m false d n = faulted NoKey m
  grabbed K m true d n = got (K.grab m.store n).block m d (K.grab m.store n).after

  -- the sheet: the code, the counter, d, a, b, n
  abbrev pub sheet : Backing T H → Code → ℕ → ℕ → ℕ → ℕ → ℕ → State T H → Did (State T H)
  sheet K Stop c d a b n m = did Stopped m
  sheet K Set c d a b n m = did Next (name m d n None)
  sheet K Copy c d a b n m = did Next (name m d (word m a) (tag m a))
  sheet K Add c d a b n m = did Next (name m d (wrap (word m a + word m b)) (option_or (tag m a) (tag m b)))
  sheet K Sub c d a b n m = did Next (name m d (wrap (word m a + 2 ^ 64 - word m b)) (tag m a))
  sheet K Addi c d a b n m = did Next (name m d (wrap (word m a + n)) (tag m a))
  sheet K Mul c d a b n m = did Next (name m d (wrap (word m a * word m b)) None)
  sheet K Div c d a b n m = divided m (word m a) (word m b) (word m b == 0) d
  sheet K Less c d a b n m = did Next (name m d (cond (nat_lt (word m a) (word m b)) 1 0) None)
  sheet K Load c d a b n m = access K m (tag m a) (address m a n) 8 (λ t. name m d (K.load m.store t (address m a n)) (K.tag_at m.store t (address m a n)))
  sheet K Store c d a b n m = access K m (tag m a) (address m a n) 8 (λ t. keep m (K.store m.store t (address m a n) (word m b) (tag m b)))
  sheet K Loadb c d a b n m = access K m (tag m a) (address m a n) 1 (λ t. name m d (K.loadb m.store t (address m a n)) None)
  sheet K Storeb c d a b n m = access K m (tag m a) (address m a n) 1 (λ t. keep m (K.storeb m.store t (address m a n) (word m b)))
  sheet K Jump c d a b n m = did (Jumped n) m
  sheet K Jzero c d a b n m = did (cond (word m a == 0) (Jumped n) Next) m
  sheet K Call c d a b n m = called K m (nat_lt (depth m) 64) (K.keys m.store) c n
  sheet K Ret c d a b n m = returned K m m.common.returns
  sheet K Frame c d a b n m = framed K m m.common.returns d n
  sheet K Global c d a b n m = did Next (name m d n (Some K.global))
  sheet K Grab c d a b n m = grabbed K m (K.keys m.store) d (word m a)
  sheet K Release c d a b n m = released K m (tag m a) (word m a)
  sheet K Out c d a b n m = did (Answered (word m a)) m

  abbrev pub act : Backing T H → ℕ → Step → State T H → Did (State T H)
  act K c o m = sheet K o.code c o.d o.a o.b (of_z w64 o.n) m

  -- the frames at depths below k, the youngest first, are left
  abbrev pub leaves : Backing T H → ℕ → H → H
  leaves K zero h = h
  leaves K (suc k) h = leaves K k (K.leave h k)

  abbrev pub close : Backing T H → State T H → State T H
  close K m = frames m [] (leaves K (depth m) m.store)

  abbrev pub player : Backing T H → Player (State T H)
  player K = record { act = act K; close = close K }
