-- A record of an operation against the table: the check of its code and fields. Assumes nothing.
use Rattle.std.specs.Prelude.{ℕ, ◌<◌, Bool, false, cond, ◌&&◌, ◌||◌, ℤ, pos, negsuc, Some, None, Option, ◌==◌, nat_lt}
use Rattle.operations.specs.declared.code.Code.{Code}
use Rattle.operations.specs.declared.operation.Operation.{Operation}
use Rattle.operations.specs.declared.step.Step.{Step}
use Rattle.operations.specs.declared.uses.Uses.{Uses}
use Rattle.operations.specs.Table.{row, number_of, code_at}

-- a register field: 0 to 15 where it is used, else 0
abbrev pub field_fits : Bool → ℕ → Bool
field_fits used r = cond used (nat_lt r 16) (r == 0)

abbrev pub is_zero : ℤ → Bool
is_zero (pos v) = v == 0
is_zero (negsuc v) = false

-- the number n: any where it is used, else 0
abbrev pub number_fits : Bool → ℤ → Bool
number_fits used n = used || is_zero n

abbrev pub record_fits : Uses → ℕ → ℕ → ℕ → ℤ → Bool
record_fits u d a b n = field_fits u.d d && (field_fits u.a a && (field_fits u.b b && number_fits u.n n))

abbrev pub step : Code → Operation → Step
step c o = record { code = c; d = o.d; a = o.a; b = o.b; n = o.n; line = o.line }

abbrev pub step_if : Option Code → Operation → Option Step
step_if None o = None
step_if (Some c) o = cond (record_fits (row c).uses o.d o.a o.b o.n) (Some (step c o)) None

-- the record as a step, where its code is known and its fields fit
abbrev pub step_of : Operation → Option Step
step_of o = step_if (code_at o.code) o

-- a step as the record that it came from
abbrev pub plain : Step → Operation
plain s = record { code = number_of s.code; d = s.d; a = s.a; b = s.b; n = s.n; line = s.line }

-- each register field names a register
pub record Registers (s : Step) : Type 0 where
  pub d : s.d < 16
  pub a : s.a < 16
  pub b : s.b < 16
