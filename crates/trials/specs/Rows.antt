-- What a worked trial is, and what it says of the machine and of the history book. Assumes nothing.
use Rattle.std.specs.Prelude.{◌≡◌, ℕ, List, [], ◌∷◌, map, Option}
use Rattle.heaps.specs.Rule.{HeapRule}
use Rattle.racks.specs.Rule.{RackRule}
use Rattle.model.specs.declared.sidecar.Sidecar.{Sidecar}
use Rattle.model.specs.Sheet.{State, word, tag, player}
use Rattle.model.specs.Machine.{machine, made}
use Rattle.model.specs.History.{book, opened}
use Rattle.model.specs.Driving.{HostCall, Reply, answers}
use Rattle.model.specs.Agreement.{idle, descent, book_after, machine_after}

-- a call, and what it is answered
pub record Exchange : Type 0 where
  pub call : HostCall
  pub answer : Reply

abbrev pub calls : List Exchange → List HostCall
calls xs = map (λ x. x.call) xs

-- a register's number, its word, and what travels beside it: a sidecar, or the number of a grant
pub record Register (T : Type 0) : Type 0 where
  pub number : ℕ
  pub word : ℕ
  pub beside : Option T

abbrev pub reading : {T H : Type 0} → State T H → ℕ → Register T
reading m i = record { number = i; word = word m i; beside = tag m i }

-- the registers of these numbers
abbrev pub readings : {T H : Type 0} → State T H → List (Register Sidecar) → List (Register T)
readings m rs = map (λ r. reading m r.number) rs

-- a register as the history book has it
abbrev pub traced : Register Sidecar → Register ℕ
traced r = record { number = r.number; word = r.word; beside = descent r.beside }

-- a heap and a rack, each in some state before making, and a ceiling of the keys;
-- then calls of a host with their answers, and what some of the registers hold in the end
pub record Row : Type 1 where
  pub heap : HeapRule
  pub rack : RackRule
  pub heap_before : heap.State
  pub rack_before : rack.State
  pub ceiling : ℕ
  pub exchanges : List Exchange
  pub registers : List (Register Sidecar)

module _ (x : Row) where
  -- what machine and book answer, and where the calls lead them
  abbrev pub machine_says : List Reply
  machine_says = answers (player (machine x.heap x.rack)) (calls x.exchanges) (idle (made x.heap x.rack x.ceiling x.heap_before x.rack_before))

  abbrev pub book_says : List Reply
  book_says = answers (player (book x.heap)) (calls x.exchanges) (idle (opened x.heap x.ceiling x.heap_before))

  abbrev pub machine_registers : List (Register Sidecar)
  machine_registers = readings (machine_after x.heap x.rack x.ceiling x.heap_before x.rack_before (calls x.exchanges)).player x.registers

  abbrev pub book_registers : List (Register ℕ)
  book_registers = readings (book_after x.heap x.rack x.ceiling x.heap_before x.rack_before (calls x.exchanges)).player x.registers

  -- both give the answers, and leave the words with these sidecars, or with the descents that they stand for
  pub record Holds : Type 0 where
    pub machine_answers : machine_says ≡ map (λ q. q.answer) x.exchanges
    pub book_answers : book_says ≡ map (λ q. q.answer) x.exchanges
    pub sidecars : machine_registers ≡ x.registers
    pub descents : book_registers ≡ map traced x.registers

abbrev pub Every : List Row → Type 0
Every [] = Unit {0}
Every (x ∷ xs) = Holds x × Every xs
