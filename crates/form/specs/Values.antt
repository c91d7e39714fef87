-- A value of a line by its bytes: a word, a plain number, or blank. Assumes nothing.
use Rattle.std.specs.Prelude.{ℕ, List, [], ◌∷◌, ℤ, Some, None, Option}
use Rattle.numerals.specs.Numerals.{number_in}

-- what a value says
pub data Says : Type 0 where
  word : List ℕ → Says
  number : ℤ → Says
  blank : Says

abbrev pub number_or : List ℕ → Option ℤ → Says
number_or bs (Some z) = number z
number_or bs None = word bs

-- bytes as a value: blank, a plain number, or else a word
abbrev pub says : List ℕ → Says
says [] = blank
says (b ∷ bs) = number_or (b ∷ bs) (number_in (b ∷ bs))
