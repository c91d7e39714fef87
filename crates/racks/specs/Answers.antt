-- What the calls of a rack return, from the answers of its rule. Assumes nothing.
use Rattle.std.specs.Prelude.{ℕ, Bool, true, false, Some, None, Ok, Err, Option, Result}
use Rattle.faults.specs.declared.cause.Cause.TheVariants.{DrawRefused, PutRefused}
use Rattle.faults.specs.declared.fault.Fault.{Fault}
use Rattle.faults.specs.Faults.{whole_fault}

abbrev pub drawn : Option ℕ → Result ℕ Fault
drawn (Some p) = Ok p
drawn None = Err (whole_fault DrawRefused)

abbrev pub returned : Bool → Result Unit Fault
returned true = Ok tt
returned false = Err (whole_fault PutRefused)
