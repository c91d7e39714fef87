-- The form of a module's text: when a text spells a list of operations. Assumes nothing.
use Rattle.std.specs.Prelude.{◌≡◌, ℕ, ◌+◌, ◌^◌, ◌<◌, ◌≤◌, Bool, true, false, List, [], ◌∷◌, ◌++◌, map, length, ℤ, pos, codes, ◌≢◌, slice_index_or}
use Rattle.std.specs.Int.Signed.{mag}
use Rattle.std.specs.Fmt.{signed_decimal}
use Rattle.std.specs.List.{AllByRecursion}
use Rattle.operations.specs.declared.code.Code.{Code}
use Rattle.operations.specs.declared.operation.Operation.{Operation}
use Rattle.operations.specs.Table.{row, number_of}
use Rattle.form.specs.declared.order.Order.{Order}

-- values with `sep` between one and the next
abbrev pub parted_by : ℕ → List ℕ → List (List ℕ) → List ℕ
parted_by sep v [] = v
parted_by sep v (w ∷ ws) = v ++ sep ∷ parted_by sep w ws

-- the values of a line, parted by commas
abbrev pub parted : List (List ℕ) → List ℕ
parted [] = []
parted (v ∷ vs) = parted_by 44 v vs

-- lines, each ended by byte 10
abbrev pub ended : List (List ℕ) → List ℕ
ended [] = []
ended (l ∷ ls) = l ++ 10 ∷ ended ls

-- bytes of which none is b
abbrev pub Lacks : ℕ → List ℕ → Type 0
Lacks b bs = AllByRecursion (λ x. x ≢ b) bs

-- a value holds neither a comma nor a line end
abbrev pub Clean : List ℕ → Type 0
Clean v = Lacks 44 v × Lacks 10 v

-- w is the value in place k, and in no other
abbrev pub Once : List (List ℕ) → List ℕ → ℕ → Type 0
Once vs w k = (slice_index_or vs k [] ≡ w) × ((i : ℕ) → slice_index_or vs i [] ≡ w → i ≡ k)

-- the values of the first line: the names of the columns, each once
pub record Heads (o : Order) (vs : List (List ℕ)) : Type 0 where
  pub five : length vs ≡ 5
  pub clean : AllByRecursion Clean vs
  pub op : Once vs (codes "op") o.op
  pub d : Once vs (codes "d") o.d
  pub a : Once vs (codes "a") o.a
  pub b : Once vs (codes "b") o.b
  pub n : Once vs (codes "n") o.n

-- the value of the column n: the number in decimal digits, after a minus where it is negative; blank where it is not used
abbrev pub Number : Bool → List ℕ → ℤ → Type 0
Number true v z = (v ≡ signed_decimal z) × (mag z < 2 ^ 63)
Number false v z = (v ≡ []) × (z ≡ pos 0)

-- the value of a register's column: the same with 0 to 15
abbrev pub Register : Bool → List ℕ → ℕ → Type 0
Register true v r = (v ≡ signed_decimal (pos r)) × (r ≤ 15)
Register false v r = (v ≡ []) × (r ≡ 0)

-- the values of a later line: an operation's word, and in each other column what the operation uses there
pub record Row (o : Order) (line : ℕ) (vs : List (List ℕ)) (op : Operation) : Type 0 where
  pub five : length vs ≡ 5
  pub clean : AllByRecursion Clean vs
  pub code : Code
  pub number : op.code ≡ number_of code
  pub word : slice_index_or vs o.op [] ≡ (row code).word
  pub d : Register (row code).uses.d (slice_index_or vs o.d []) op.d
  pub a : Register (row code).uses.a (slice_index_or vs o.a []) op.a
  pub b : Register (row code).uses.b (slice_index_or vs o.b []) op.b
  pub n : Number (row code).uses.n (slice_index_or vs o.n []) op.n
  pub at : op.line ≡ line

-- line after line, an operation each
abbrev pub Rows : Order → ℕ → List (List (List ℕ)) → List Operation → Type 0
Rows o line [] [] = Unit {0}
Rows o line [] (op ∷ ops) = ⊥
Rows o line (vs ∷ rows) [] = ⊥
Rows o line (vs ∷ rows) (op ∷ ops) = Row o line vs op × Rows o (line + 1) rows ops

abbrev pub Short : List ℕ → Type 0
Short l = length l ≤ 80

-- the text spells the operations: a line of names and a line for each operation, within the limits
pub record Spells (text : List ℕ) (ops : List Operation) : Type 0 where
  pub order : Order
  pub names : List (List ℕ)
  pub rows : List (List (List ℕ))
  pub text_is : text ≡ ended (parted names ∷ map parted rows)
  pub heads : Heads order names
  pub says : Rows order 2 rows ops
  pub short : AllByRecursion Short (parted names ∷ map parted rows)
  pub size : length text ≤ 60000
  pub few : length ops ≤ 512
