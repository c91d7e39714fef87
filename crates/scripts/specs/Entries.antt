-- What each line of a script is. Assumes nothing.
use Rattle.std.specs.Prelude.{ℕ, cond, List, [], ◌∷◌, Some, None, Ok, Option, Result, ◌==◌}
use Rattle.std.specs.Option.{ok_or, option_map}
use Rattle.scripts.specs.declared.command.Command.{Command}
use Rattle.scripts.specs.declared.command.NotUnderstood.{NotUnderstood}
use Rattle.scripts.specs.Commands.{command_of}

-- a line without a byte, or that begins with #, is passed over; any other says a command, or is not understood
abbrev pub entry_of : List ℕ → Result (Option Command) NotUnderstood
entry_of [] = Ok None
entry_of (b ∷ bs) = cond (b == 35) (Ok None) (ok_or (option_map Some (command_of (b ∷ bs))) (record {}))
