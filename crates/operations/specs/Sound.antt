-- What vetting asks of a step of a program. Assumes nothing.
use Rattle.std.specs.Prelude.{◌≡◌, ℕ, ◌<◌, ◌≤◌, List, length, All, Bool, true, false, cond, ◌&&◌, ℤ, pos, negsuc, nat_le, nat_lt}
use Rattle.operations.specs.declared.code.Code.{Code}
use Rattle.operations.specs.declared.code.Code.TheVariants.{Stop}
use Rattle.operations.specs.declared.step.Step.{Step}
use Rattle.operations.specs.Records.{record_fits, Registers}
use Rattle.operations.specs.Table.{row, number_of}

-- the step that is told where a program has none
abbrev pub stop : Step
stop = record { code = Stop; d = 0; a = 0; b = 0; n = pos 0; line = 0 }

-- jump, jzero and call, which are 13 to 15, go to the position n
abbrev pub leads : Code → Bool
leads c = nat_le 13 (number_of c) && nat_le (number_of c) 15

-- n is a position of a program of so many steps
abbrev pub inside : ℤ → ℕ → Bool
inside (pos v) count = nat_lt v count
inside (negsuc v) count = false

abbrev pub target_fits : ℕ → Code → ℤ → Bool
target_fits count c n = cond (leads c) (inside n count) true

-- a step of a program of so many: registers below 16, the fields as the table wants them, the target inside
pub record SoundStep (count : ℕ) (s : Step) : Type 0 where
  pub registers : Registers s
  pub fits : record_fits (row s.code).uses s.d s.a s.b s.n ≡ true
  pub target : target_fits count s.code s.n ≡ true

-- the steps of a program: 1 to 512 of them, each sound
pub record Runnable (steps : List Step) : Type 0 where
  pub some : 0 < length steps
  pub few : length steps ≤ 512
  pub each : All (SoundStep (length steps)) steps
