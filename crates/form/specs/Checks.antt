-- The checks of a text, in the order in which they are made, and the refusal that the first failing one gives. Assumes nothing.
use Rattle.std.specs.Prelude.{◌≡◌, ℕ, ◌+◌, ◌<◌, ◌≤◌, min, Bool, true, false, cond, not, ◌&&◌, ◌||◌, ◌⊎◌, List, [], ◌∷◌, length, is_some, Some, None, codes, Option, ◌==◌, nat_le, nat_lt, slice_index_or}
use Rattle.std.specs.Str.{bytes_eq}
use Rattle.faults.specs.declared.cause.Cause.{Cause}
use Rattle.faults.specs.declared.cause.Cause.TheVariants.{TextSize, LineEnd, ColumnNames, ValueCount, UnknownWord, BadNumber, WrongBlank, NoRoom}
use Rattle.faults.specs.declared.fault.Fault.{Fault}
use Rattle.faults.specs.Faults.{fault_at, whole_fault}
use Rattle.operations.specs.declared.code.Code.{Code}
use Rattle.operations.specs.declared.uses.Uses.{Uses}
use Rattle.operations.specs.Table.{row, code_of, uses_none}
use Rattle.form.specs.declared.order.Order.{Order}
use Rattle.form.specs.Columns.{then_in}
use Rattle.form.specs.Form.{Heads}
use Rattle.numerals.specs.Numerals.{number_in}
use Rattle.form.specs.Pieces.{pieces}
use Rattle.form.specs.Reading.{in_registers}

-- checks with what each finds, true where it fails: the first that fails
abbrev pub first : List (Cause × Bool) → Option Cause
first [] = None
first (c ∷ cs) = cond c.1 (Some c.0) (first cs)

abbrev pub is_blank : List ℕ → Bool
is_blank [] = true
is_blank (b ∷ bs) = false

-- a column that is used and blank, or not used and filled
abbrev pub wrong_blank : Bool → List ℕ → Bool
wrong_blank used v = cond used (is_blank v) (not (is_blank v))

-- a column in use that holds no plain 64-bit number
abbrev pub bad_number : Bool → List ℕ → Bool
bad_number used v = used && not (is_some (number_in v))

-- a register's column in use that holds no plain number from 0 to 15
abbrev pub bad_register : Bool → List ℕ → Bool
bad_register used v = used && not (is_some (then_in (number_in v) in_registers))

-- the columns that an operation uses, if there is one
abbrev pub uses_if : Option Code → Uses
uses_if None = uses_none
uses_if (Some c) = (row c).uses

-- the checks of four columns by their values
abbrev pub column_checks : Uses → List ℕ → List ℕ → List ℕ → List ℕ → List (Cause × Bool)
column_checks u d a b n =
    (WrongBlank, wrong_blank u.d d) ∷ (BadNumber, bad_register u.d d)
    ∷ (WrongBlank, wrong_blank u.a a) ∷ (BadNumber, bad_register u.a a)
    ∷ (WrongBlank, wrong_blank u.b b) ∷ (BadNumber, bad_register u.b b)
    ∷ (WrongBlank, wrong_blank u.n n) ∷ (BadNumber, bad_number u.n n)
    ∷ []

-- the checks of the values of a line
abbrev pub value_checks : Order → List (List ℕ) → List (Cause × Bool)
value_checks o vs =
    (UnknownWord, not (is_some (code_of (slice_index_or vs o.op []))))
    ∷ column_checks (uses_if (code_of (slice_index_or vs o.op []))) (slice_index_or vs o.d []) (slice_index_or vs o.a []) (slice_index_or vs o.b []) (slice_index_or vs o.n [])

-- the checks of a later line that has its end, after k operations
abbrev pub checks : Order → ℕ → ℕ → List ℕ → List (Cause × Bool)
checks o room k l =
    (LineEnd, nat_lt 80 (length l))
    ∷ (NoRoom, nat_le (min 512 room) k)
    ∷ (ValueCount, not (length (pieces 44 l) == 5))
    ∷ value_checks o (pieces 44 l)

-- w is among the values
abbrev pub has : List ℕ → List (List ℕ) → Bool
has w [] = false
has w (v ∷ vs) = bytes_eq w v || has w vs

-- the five names, and nothing else
abbrev pub named : List (List ℕ) → Bool
named vs = length vs == 5 && (has (codes "op") vs && (has (codes "d") vs && (has (codes "a") vs && (has (codes "b") vs && has (codes "n") vs))))

-- the checks of the first line
abbrev pub head_checks : List ℕ → List (Cause × Bool)
head_checks l = (LineEnd, nat_lt 80 (length l)) ∷ (ColumnNames, not (named (pieces 44 l))) ∷ []

-- the lines of a text by their index; what follows the last line end is the last of them, and has none
abbrev pub line_at : List ℕ → ℕ → List ℕ
line_at text i = slice_index_or (pieces 10 text) i []

abbrev pub HasEnd : List ℕ → ℕ → Type 0
HasEnd text i = i + 1 < length (pieces 10 text)

abbrev pub Sized : List ℕ → Type 0
Sized text = (0 < length text) × (length text ≤ 60000)

-- the first line is refused
pub record AtHead (text : List ℕ) (f : Fault) : Type 0 where
  pub sized : Sized text
  pub fails :
      ((HasEnd text 0 → ⊥) × (f ≡ fault_at LineEnd 1))
      ⊎ ((c : Cause) × HasEnd text 0 × (first (head_checks (line_at text 0)) ≡ Some c) × (f ≡ fault_at c 1))

-- a later line is refused, after `before` lines that fail no check
pub record AtLine (text : List ℕ) (room : ℕ) (f : Fault) : Type 0 where
  pub sized : Sized text
  pub order : Order
  pub headed : HasEnd text 0 × (first (head_checks (line_at text 0)) ≡ None) × Heads order (pieces 44 (line_at text 0))
  pub before : ℕ
  pub earlier : (i : ℕ) → i < before → HasEnd text (i + 1) × (first (checks order room i (line_at text (i + 1))) ≡ None)
  pub fails :
      ((HasEnd text (before + 1) → ⊥) × (0 < length (line_at text (before + 1))) × (f ≡ fault_at LineEnd (before + 2)))
      ⊎ ((c : Cause) × HasEnd text (before + 1) × (first (checks order room before (line_at text (before + 1))) ≡ Some c) × (f ≡ fault_at c (before + 2)))

-- the refusal of a text: its size, or the first check that fails on the first line that fails one
abbrev pub Refused : List ℕ → ℕ → Fault → Type 0
Refused text room f =
    (((length text ≡ 0) ⊎ (60000 < length text)) × (f ≡ whole_fault TextSize))
    ⊎ (AtHead text f ⊎ AtLine text room f)
