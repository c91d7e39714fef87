-- Where a line ends, and where its five values stand. Assumes nothing.
use Rattle.std.specs.Prelude.{◌≡◌, ℕ, ◌+◌, ◌-◌, ◌<◌, ◌≤◌, ◌⊎◌, List, [], length, Ok, Err, Result, ◌≢◌, slice_index, slice_index_or}
use Rattle.std.specs.List.{between}
use Rattle.faults.specs.declared.cause.Cause.{Cause}
use Rattle.faults.specs.declared.cause.Cause.TheVariants.{LineEnd}
use Rattle.form.specs.Pieces.{pieces}

-- no byte from `from` up to m is b
abbrev pub Free : ℕ → List ℕ → ℕ → ℕ → Type 0
Free b text from m = (k : ℕ) → from ≤ k → k < m → slice_index text k ≢ b

-- the line that goes on at `from` ends at m
pub record Ended (text : List ℕ) (from m : ℕ) : Type 0 where
  pub low : from ≤ m
  pub high : m < length text
  pub is : slice_index text m ≡ 10
  pub first : Free 10 text from m

-- it has no end
abbrev pub Endless : List ℕ → ℕ → Type 0
Endless text from = Free 10 text from (length text)

-- the value that begins at `from` ends at m
pub record Run (text : List ℕ) (from m : ℕ) : Type 0 where
  pub low : from ≤ m
  pub high : m ≤ length text
  pub commas : Free 44 text from m
  pub ends : Free 10 text from m

-- a value that ends at m, before the byte b
pub record Stops (text : List ℕ) (b from m : ℕ) : Type 0 where
  pub run : Run text from m
  pub high : m < length text
  pub is : slice_index text m ≡ b

-- the same, and `next` follows the byte b
pub record Past (text : List ℕ) (b from next : ℕ) : Type 0 where
  pub stops : Stops text b from (next - 1)
  pub follows : next ≡ (next - 1) + 1

-- a value that does not end before b: another comma or line end comes first, or the text ends
pub record Astray (text : List ℕ) (b from : ℕ) : Type 0 where
  pub to : ℕ
  pub run : Run text from to
  pub why : (to ≡ length text) ⊎ ((to < length text) × ((slice_index text to ≡ 10) ⊎ (slice_index text to ≡ 44)) × (slice_index text to ≢ b))

-- where a line that is cut into five begins and ends, and the line itself
abbrev pub line_of : List ℕ → List ℕ → List ℕ
line_of text starts = between (slice_index starts 0) (slice_index starts 5 - 1) text

-- a line with five values: the i-th from starts[i] up to the byte before starts[i + 1], and the next line begins at starts[5]
pub record Five (text starts : List ℕ) : Type 0 where
  pub line : Ended text (slice_index starts 0) (slice_index starts 5 - 1)
  pub next : slice_index starts 5 ≡ (slice_index starts 5 - 1) + 1
  pub count : length (pieces 44 (line_of text starts)) ≡ 5
  pub low : (i : ℕ) → i < 5 → slice_index starts i ≤ slice_index starts (i + 1) - 1
  pub some : (i : ℕ) → i < 5 → 0 < slice_index starts (i + 1)
  pub high : (i : ℕ) → i < 5 → slice_index starts (i + 1) ≤ length text
  pub value : (i : ℕ) → i < 5 → slice_index_or (pieces 44 (line_of text starts)) i [] ≡ between (slice_index starts i) (slice_index starts (i + 1) - 1) text

-- the line from `from` on has no end, or not five values
abbrev pub Other : List ℕ → ℕ → Type 0
Other text from = (m : ℕ) → Ended text from m → length (pieces 44 (between from m text)) ≢ 5

-- the line from `from` on has no end, or over 80 bytes, or not five values
abbrev pub Misfit : List ℕ → ℕ → Type 0
Misfit text from = (m : ℕ) → Ended text from m → m - from ≤ 80 → length (pieces 44 (between from m text)) ≢ 5

-- the line from `from` on has no end or over 80 bytes, and r says so; else r is the other cause
abbrev pub Blamed : List ℕ → ℕ → Cause → Cause → Type 0
Blamed text from other r =
    (Endless text from × (r ≡ LineEnd))
    ⊎ (((m : ℕ) × Ended text from m × (80 < m - from) × (r ≡ LineEnd))
    ⊎ ((m : ℕ) × Ended text from m × (m - from ≤ 80) × (r ≡ other)))

-- the line from `from` on ends, what judges it answers x, and the next line begins at `next`
pub record Passes {A : Type 0} (judge : List ℕ → Result A Cause) (text : List ℕ) (from : ℕ) (x : A) (next : ℕ) : Type 0 where
  pub end : ℕ
  pub line : Ended text from end
  pub goes : next ≡ end + 1
  pub is : judge (between from end text) ≡ Ok x

-- the line from `from` on is refused for c: by what judges it, or since it has no end
abbrev pub Fails : {A : Type 0} → (List ℕ → Result A Cause) → List ℕ → ℕ → Cause → Type 0
Fails judge text from c = ((m : ℕ) × Ended text from m × (judge (between from m text) ≡ Err c)) ⊎ (Endless text from × (c ≡ LineEnd))
