-- The history book: grants by birth, each with bytes and descents of its own. Assumes nothing.
-- It has no keys, lock places, shadow memory or common memory. A descent is the number of the grant that an address came from.
use Rattle.std.specs.Prelude.{ℕ, ◌+◌, ◌-◌, ◌*◌, ◌/◌, ◌%◌, Bool, true, false, List, [], ◌∷◌, ◌++◌, length, replicate, Some, None, Option, Ok, ◌==◌, nat_lt, slice_index, slice_index_or, slice_set}
use Rattle.std.specs.Result.{result_and}
use Rattle.model.specs.Grants.{Kind, globals, block, frame, is_block, Outline, alive, over, living_block, living_frame, latest, count}
use Rattle.model.specs.Sheet.{Backing, Grabbed, State}
use Rattle.model.specs.Parts.{put, part, value, bytes}
use Rattle.heaps.specs.Rule.{Block, HeapRule}
use Rattle.model.specs.Machine.{faults, refuses, within}

pub record Grant : Type 0 where
  pub outline : Outline
  pub bytes : List ℕ
  pub descents : List (Option ℕ)

pub record Book (S : Type 0) : Type 0 where
  pub grants : List Grant
  pub ceiling : ℕ
  pub heap : S

abbrev pub born : Kind → ℕ → ℕ → ℕ → Grant
born k x n h = record { outline = alive k x n h; bytes = replicate n 0; descents = replicate (n / 8) None }

abbrev pub ended : Grant → Grant
ended g = record g { outline = over g.outline }

-- what a number names that no grant has
abbrev pub none : Grant
none = ended (born globals 0 0 0)

module _ {S : Type 0} where
  abbrev pub nth : Book S → ℕ → Grant
  nth b g = slice_index_or b.grants g none

  abbrev pub outline : Book S → ℕ → Outline
  outline b g = (nth b g).outline

  abbrev pub change : Book S → ℕ → Grant → Book S
  change b g x = record b { grants = slice_set b.grants g x }

  abbrev pub write : Book S → ℕ → ℕ → List ℕ → List (Option ℕ) → Book S
  write b g x bs ds = change b g (record (nth b g) {
    bytes = put (nth b g).bytes (x - (outline b g).start) bs;
    descents = put (nth b g).descents ((x - (outline b g).start) / 8) ds;
  })

  abbrev pub serve : Book S → S → Book S
  serve b s = record b { heap = s }

  abbrev pub enters : Book S → Grant → Book S
  enters b g = record b { grants = b.grants ++ (g ∷ []) }

  abbrev pub blocks : Book S → ℕ
  blocks b = count (λ g. living_block (outline b g)) (length b.grants)

  abbrev pub youngest : Book S → ℕ
  youngest b = latest (λ g. living_frame (outline b g)) (length b.grants)

module _ (H : HeapRule) where
  abbrev pub room : Book H.State → ℕ → Block → H.State → Bool → Grabbed ℕ (Book H.State)
  room b n x s false = record { block = None; after = serve b (H.give s x.start).after }
  room b n x s true = record {
    block = Some (record { start = 1024 + x.start; tag = length b.grants });
    after = enters (serve b s) (born block (1024 + x.start) n x.held);
  }

  abbrev pub taken : Book H.State → ℕ → Option Block → H.State → Grabbed ℕ (Book H.State)
  taken b n None s = record { block = None; after = serve b s }
  taken b n (Some x) s = room b n x s (nat_lt (blocks b) 255)

  -- a block of the heap ends
  abbrev pub ends : Book H.State → ℕ → Book H.State
  ends b g = serve (change b g (ended (nth b g))) (H.give b.heap ((outline b g).start - 1024)).after

  abbrev pub book : Backing ℕ (Book H.State)
  book = record {
    check = λ b g x n. faults (outline b g).living (within (outline b g).start ((outline b g).start + (outline b g).asked) x n) (x % n == 0);
    load = λ b g x. value (part 0 8 (nth b g).bytes (x - (outline b g).start));
    tag_at = λ b g x. slice_index_or (nth b g).descents ((x - (outline b g).start) / 8) None;
    loadb = λ b g x. slice_index (nth b g).bytes (x - (outline b g).start);
    store = λ b g x v u. write b g x (bytes 8 v) (u ∷ []);
    storeb = λ b g x v. write b g x ((v % 256) ∷ []) [];
    keys = λ b. nat_lt (length b.grants) b.ceiling;
    grab = λ b n. taken b n (H.take b.heap n).answer (H.take b.heap n).after;
    release = λ b g x. result_and (refuses (outline b g).living (is_block (outline b g).kind)) (Ok (ends b g));
    enter = λ b k. enters b (born frame (5120 + 48 * k) 48 48);
    leave = λ b k. change b (youngest b) (ended (nth b (youngest b)));
    frame = λ b k. youngest b;
    global = 0;
  }

  abbrev pub OfBook : Type 0
  OfBook = State ℕ (Book H.State)

  abbrev pub opened : ℕ → H.State → OfBook
  opened top s = record {
    common = record { words = replicate 16 0; returns = [] };
    tags = replicate 16 None;
    store = record { grants = born globals 0 1024 1024 ∷ []; ceiling = top; heap = H.clear s };
  }
