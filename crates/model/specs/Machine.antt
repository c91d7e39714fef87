-- The machine behind its registers: memory, shadow memory, lock places, keys, a heap and a rack. Assumes nothing.
-- Memory is 8,192 bytes: the globals from 0, the heap from 1,024, the frames from 5,120, 48 bytes each. Shadow memory has a sidecar for each word.
-- Lock place 0 is the globals', 1 to 255 are the rack's, and 256 + k is that of the frame at depth k.
use Rattle.std.specs.Prelude.{ℕ, ◌+◌, ◌-◌, ◌*◌, ◌/◌, ◌%◌, Bool, true, false, ◌&&◌, List, [], ◌∷◌, replicate, Some, None, Option, Ok, Err, Result, ◌==◌, nat_le, nat_lt, slice_index, slice_index_or, slice_set}
use Rattle.std.specs.Result.{result_and}
use Rattle.faults.specs.declared.cause.Cause.{Cause}
use Rattle.faults.specs.declared.cause.Cause.TheVariants.{Ended, OutOfBounds, Uneven, NotFromHeap}
use Rattle.model.specs.Sheet.{Backing, Grabbed, State}
use Rattle.model.specs.Parts.{put, part, value, bytes}
use Rattle.heaps.specs.Rule.{Block, HeapRule}
use Rattle.racks.specs.Rule.{RackRule}
use Rattle.model.specs.declared.sidecar.Sidecar.{Sidecar}

-- what lies behind the machine's registers
pub record Core (S R : Type 0) : Type 0 where
  pub memory : List ℕ
  pub shadow : List (Option Sidecar)
  pub locks : List ℕ
  pub issued : ℕ
  pub ceiling : ℕ
  pub heap : S
  pub rack : R

-- the checks of an access, in their order: is the grant living, are the bytes inside, is the address even enough
abbrev pub faults : Bool → Bool → Bool → Result Unit Cause
faults false i e = Err Ended
faults true false e = Err OutOfBounds
faults true true false = Err Uneven
faults true true true = Ok tt

-- the checks of a release: is the grant living, is it the heap's
abbrev pub refuses : Bool → Bool → Result Unit Cause
refuses false i = Err Ended
refuses true false = Err NotFromHeap
refuses true true = Ok tt

-- whether n bytes from x on lie from lo up to hi
abbrev pub within : ℕ → ℕ → ℕ → ℕ → Bool
within lo hi x n = nat_le lo x && nat_le (x + n) hi

-- the words that cover n bytes
abbrev pub covers : ℕ → ℕ
covers n = (n + 7) / 8

module _ {S R : Type 0} where
  abbrev pub write : Core S R → ℕ → List ℕ → List (Option Sidecar) → Core S R
  write c x bs ts = record c { memory = put c.memory x bs; shadow = put c.shadow (x / 8) ts }

  abbrev pub lock : Core S R → ℕ → ℕ → Core S R
  lock c p v = record c { locks = slice_set c.locks p v }

  abbrev pub issue : Core S R → Core S R
  issue c = record c { issued = c.issued + 1 }

  abbrev pub serve : Core S R → S → R → Core S R
  serve c s r = record c { heap = s; rack = r }

  -- a key is issued and written to place p, and the words that cover n bytes from x on become zero, without sidecars
  abbrev pub grant : Core S R → ℕ → ℕ → ℕ → Core S R
  grant c p x n = issue (lock (write c x (replicate (8 * covers n) 0) (replicate (covers n) None)) p (c.issued + 1))

  abbrev pub holds : Core S R → Sidecar → Bool
  holds c s = slice_index c.locks s.place == s.key

-- the sidecar of n bytes from x on, under a key at a place
abbrev pub side : ℕ → ℕ → ℕ → ℕ → Sidecar
side x n k p = record { base = x; bound = x + n; key = k; place = p }

module _ (H : HeapRule) (R : RackRule) where
  abbrev pub drawn : Core H.State R.State → ℕ → Block → H.State → Option ℕ → R.State → Grabbed Sidecar (Core H.State R.State)
  drawn c n b s None r = record { block = None; after = serve c (H.give s b.start).after r }
  drawn c n b s (Some p) r =
      record { block = Some (record { start = 1024 + b.start; tag = side (1024 + b.start) n (c.issued + 1) p }); after = grant (serve c s r) p (1024 + b.start) n }

  abbrev pub taken : Core H.State R.State → ℕ → Option Block → H.State → Grabbed Sidecar (Core H.State R.State)
  taken c n None s = record { block = None; after = serve c s c.rack }
  taken c n (Some b) s = drawn c n b s (R.draw c.rack).answer (R.draw c.rack).after

  -- a block of the heap ends
  abbrev pub ends : Core H.State R.State → Sidecar → Core H.State R.State
  ends c s = serve (lock c s.place 0) (H.give c.heap (s.base - 1024)).after (R.put c.rack s.place).after

  abbrev pub machine : Backing Sidecar (Core H.State R.State)
  machine = record {
    check = λ c s x n. faults (holds c s) (within s.base s.bound x n) (x % n == 0);
    load = λ c s x. value (part 0 8 c.memory x);
    tag_at = λ c s x. slice_index_or c.shadow (x / 8) None;
    loadb = λ c s x. slice_index c.memory x;
    store = λ c s x v u. write c x (bytes 8 v) (u ∷ []);
    storeb = λ c s x v. write c x ((v % 256) ∷ []) [];
    keys = λ c. nat_lt c.issued c.ceiling;
    grab = λ c n. taken c n (H.take c.heap n).answer (H.take c.heap n).after;
    release = λ c s x. result_and (refuses (holds c s) (nat_le 1 s.place && nat_le s.place 255)) (Ok (ends c s));
    enter = λ c k. grant c (256 + k) (5120 + 48 * k) 48;
    leave = λ c k. lock c (256 + k) 0;
    frame = λ c k. side (5120 + 48 * k) 48 (slice_index c.locks (256 + k)) (256 + k);
    global = side 0 1024 1 0;
  }

  abbrev pub OfMachine : Type 0
  OfMachine = State Sidecar (Core H.State R.State)

  -- at making
  abbrev pub made : ℕ → H.State → R.State → OfMachine
  made top s r = record {
    common = record { words = replicate 16 0; returns = [] };
    tags = replicate 16 None;
    store = record { memory = replicate 8192 0; shadow = replicate 1024 None; locks = 1 ∷ replicate 319 0; issued = 1; ceiling = top; heap = H.clear s; rack = R.clear r };
  }
