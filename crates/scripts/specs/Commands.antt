-- What a line of a script says: how each command is written, and read. Assumes nothing.
use Rattle.std.specs.Prelude.{◌≡◌, ℕ, ◌^◌, ◌<◌, cond, List, ◌++◌, Some, None, codes, decimal, Option, Result}
use Rattle.std.specs.Option.{ok_or, option_map, option_or}
use Rattle.std.specs.Result.{result_ok}
use Rattle.std.specs.Str.{bytes_eq}
use Rattle.numerals.specs.Numerals.{natural_in}
use Rattle.scripts.specs.declared.command.Command.{Command}
use Rattle.scripts.specs.declared.command.Command.TheVariants.{Heap, Rack, Take, Give, Holds, Draw, Put, Clear, Sheet}
use Rattle.scripts.specs.declared.command.NotUnderstood.{NotUnderstood}
use Rattle.scripts.specs.Words.{after, past}
use Rattle.scripts.specs.Names.{heap_written, rack_written, heap_of, rack_of}

-- how a command is written
abbrev pub written : Command → List ℕ
written (Heap name) = codes "heap " ++ heap_written name
written (Rack name) = codes "rack " ++ rack_written name
written (Take n) = codes "take " ++ decimal n
written (Give start) = codes "give " ++ decimal start
written (Holds start) = codes "holds " ++ decimal start
written Draw = codes "draw"
written (Put place) = codes "put " ++ decimal place
written Clear = codes "clear"
written Sheet = codes "sheet"

-- its number has 64 bits, if it has one
abbrev pub Short : Command → Type 0
Short (Heap name) = Unit {0}
Short (Rack name) = Unit {0}
Short (Take n) = n < 2 ^ 64
Short (Give start) = start < 2 ^ 64
Short (Holds start) = start < 2 ^ 64
Short Draw = Unit {0}
Short (Put place) = place < 2 ^ 64
Short Clear = Unit {0}
Short Sheet = Unit {0}

-- reading: words alone
abbrev pub plain_of : List ℕ → Option Command
plain_of line =
    cond (bytes_eq line (codes "draw")) (Some Draw)
    (cond (bytes_eq line (codes "clear")) (Some Clear)
    (cond (bytes_eq line (codes "sheet")) (Some Sheet)
    None))

-- words with a number
abbrev pub number_after : List ℕ → List ℕ → Option ℕ
number_after words line = past (after words line) natural_in None

abbrev pub counted_of : List ℕ → Option Command
counted_of line =
    option_or (option_map Take (number_after (codes "take ") line))
    (option_or (option_map Give (number_after (codes "give ") line))
    (option_or (option_map Holds (number_after (codes "holds ") line))
    (option_map Put (number_after (codes "put ") line))))

-- words with a name
abbrev pub named_of : List ℕ → Option Command
named_of line =
    past (after (codes "heap ") line) (λ w. option_map Heap (heap_of w))
    (past (after (codes "rack ") line) (λ w. option_map Rack (rack_of w))
    None)

abbrev pub command_of : List ℕ → Option Command
command_of line = option_or (named_of line) (option_or (counted_of line) (plain_of line))

-- the law: a line is read as a command exactly where it is the command's writing; so it writes one at most
pub record Says (line : List ℕ) (r : Option Command) : Type 0 where
  pub told : (c : Command) → r ≡ Some c → (line ≡ written c) × Short c
  pub tells : (c : Command) → line ≡ written c → Short c → r ≡ Some c

-- what reading gives: the command, or that the line is none
abbrev pub Reads : List ℕ → Result Command NotUnderstood → Type 0
Reads line r = (r ≡ ok_or (command_of line) (record {})) × Says line (result_ok r)
