-- What the calls of a heap return, from the answers of its rule. Assumes nothing.
use Rattle.std.specs.Prelude.{ℕ, ◌+◌, Bool, true, false, cond, ◌&&◌, Some, None, Ok, Err, Option, Result, nat_le}
use Rattle.faults.specs.declared.cause.Cause.TheVariants.{TakeRefused, GiveRefused}
use Rattle.faults.specs.declared.fault.Fault.{Fault}
use Rattle.faults.specs.Faults.{whole_fault}
use Rattle.heaps.specs.Rule.{Block}
use Rattle.heaps.specs.declared.block.Bare.{Bare}

-- a bare block's numbers, as the rule has them
abbrev pub block_of : Bare → Block
block_of b = record { start = b.start; held = b.held }

-- a take's result, its block as plain numbers
abbrev pub plain : Result Bare Fault → Result Block Fault
plain (Ok b) = Ok (block_of b)
plain (Err e) = Err e

abbrev pub taken : Option Block → Result Block Fault
taken (Some b) = Ok b
taken None = Err (whole_fault TakeRefused)

abbrev pub given : Bool → Result Unit Fault
given true = Ok tt
given false = Err (whole_fault GiveRefused)

-- a block of so many bytes for those asked for, where it has them and lies inside the heap
abbrev pub within : ℕ → ℕ → ℕ → Bool
within start asked held = nat_le asked held && nat_le (start + held) 4096

abbrev pub bare_block : ℕ → ℕ → ℕ → Result Block Fault
bare_block start asked held = cond (within start asked held) (Ok (record { start = start; held = held })) (Err (whole_fault TakeRefused))
