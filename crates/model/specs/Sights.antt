-- What is seen of a trail, and what is told from that alone: what was stored last. Assumes nothing.
use Rattle.std.specs.Prelude.{ℕ, suc, Bool, true, false, cond, ◌&&◌, List, [], ◌∷◌, map, Some, None, Option, is_ok, ◌==◌, nat_lt}
use Rattle.operations.specs.declared.code.Code.{Code}
use Rattle.operations.specs.declared.code.Code.TheVariants.{Store, Storeb}
use Rattle.heaps.specs.Rule.{HeapRule, Block}
use Rattle.racks.specs.Rule.{RackRule}
use Rattle.model.specs.Agreement.{descent}
use Rattle.model.specs.Machine.{OfMachine}
use Rattle.model.specs.Parts.{bytes}
use Rattle.model.specs.Sheet.{State, word, tag}
use Rattle.model.specs.Trail.{Entry, acted, began, target}

-- what is seen of a step: whether it passed, the descent and the word of register a before it, the address that it goes to,
-- the bytes that it is to store there, whether a key was issued, and the heap's answer to a take of so many bytes then
pub record Seen : Type 0 where
  pub code : Code
  pub passed : Bool
  pub from : Option ℕ
  pub asked : ℕ
  pub address : ℕ
  pub stored : List ℕ
  pub keyed : Bool
  pub answer : Option Block

pub data Sight : Type 0 where
  seen : Seen → Sight
  restarted : Sight

-- a byte stored through a grant at an address
pub record Wrote : Type 0 where
  pub grant : ℕ
  pub address : ℕ
  pub byte : ℕ

-- the byte last stored at an address through a grant, or zero if none was; the newest stands first
abbrev pub newest : List Wrote → ℕ → ℕ → ℕ
newest [] g x = 0
newest (w ∷ l) g x = cond (g == w.grant && x == w.address) w.byte (newest l g x)

-- how many bytes an operation stores
abbrev pub stores : Code → ℕ
stores Store = 8
stores Storeb = 1
stores _ = 0

-- bytes stored from an address on
abbrev pub adds : ℕ → ℕ → List ℕ → List Wrote → List Wrote
adds g x [] l = l
adds g x (v ∷ vs) l = adds g (suc x) vs (record { grant = g; address = x; byte = v } ∷ l)

-- bytes that an operation stores, if it passes, through the grant that its address descends from
abbrev pub logs : List ℕ → Bool → Option ℕ → ℕ → List Wrote → List Wrote
logs [] ok t x l = l
logs (v ∷ vs) false t x l = l
logs (v ∷ vs) true None x l = l
logs (v ∷ vs) true (Some g) x l = adds g x (v ∷ vs) l

-- what a trail stored, of which the newest stands first, as does the newest byte
abbrev pub log : List Sight → List Wrote
log [] = []
log (seen e ∷ es) = logs e.stored e.passed e.from e.address (log es)
log (restarted ∷ es) = log es

-- an entry of a trail, by a way to read descents, keys and the heap
module _ {T B : Type 0} (read : Option T → Option ℕ) (keys : B → ℕ) (take : B → ℕ → Option Block) where
  abbrev pub sight_by : Entry (State T B) → Sight
  sight_by (acted e) = seen (record {
    code = e.step.code;
    passed = is_ok e.did.way;
    from = read (tag e.before e.step.a);
    asked = word e.before e.step.a;
    address = target e.before e.step;
    stored = bytes (stores e.step.code) (word e.before e.step.b);
    keyed = nat_lt (keys e.before.store) (keys e.did.after.store);
    answer = take e.before.store (word e.before e.step.a);
  })
  sight_by began = restarted

-- the machine's: descents by the sidecars, keys issued, and the heap that it has
module _ (H : HeapRule) (R : RackRule) where
  abbrev pub sight : Entry (OfMachine H R) → Sight
  sight = sight_by descent (λ c. c.issued) (λ c n. (H.take c.heap n).answer)

  abbrev pub sights : List (Entry (OfMachine H R)) → List Sight
  sights t = map sight t
