-- Steps and programs, written as one would say them. Assumes nothing.
use Rattle.std.specs.Prelude.{ℕ, zero, suc, List, [], ◌∷◌, ℤ, pos, negsuc}
use Rattle.operations.specs.declared.code.Code.{Code}
use Rattle.operations.specs.declared.code.Code.TheVariants.{Stop, Set, Copy, Add, Sub, Addi, Mul, Div, Less, Load, Store, Loadb, Storeb, Jump, Jzero, Call, Ret, Frame, Global, Grab, Release, Out}
use Rattle.operations.specs.declared.step.Step.{Step}

abbrev pub step_with : Code → ℕ → ℕ → ℕ → ℕ → Step
step_with c d a b n = record { code = c; d = d; a = a; b = b; n = pos n; line = 0 }

-- the 22 operations with the columns that they use, in the order d, a, b, n; set is put here, since lists have a set
abbrev pub stop : Step
stop = step_with Stop 0 0 0 0

abbrev pub put : ℕ → ℕ → Step
put d n = step_with Set d 0 0 n

abbrev pub copy : ℕ → ℕ → Step
copy d a = step_with Copy d a 0 0

abbrev pub add : ℕ → ℕ → ℕ → Step
add d a b = step_with Add d a b 0

abbrev pub sub : ℕ → ℕ → ℕ → Step
sub d a b = step_with Sub d a b 0

abbrev pub addi : ℕ → ℕ → ℕ → Step
addi d a n = step_with Addi d a 0 n

abbrev pub mul : ℕ → ℕ → ℕ → Step
mul d a b = step_with Mul d a b 0

abbrev pub div : ℕ → ℕ → ℕ → Step
div d a b = step_with Div d a b 0

abbrev pub less : ℕ → ℕ → ℕ → Step
less d a b = step_with Less d a b 0

abbrev pub load : ℕ → ℕ → ℕ → Step
load d a n = step_with Load d a 0 n

abbrev pub store : ℕ → ℕ → ℕ → Step
store a b n = step_with Store 0 a b n

abbrev pub loadb : ℕ → ℕ → ℕ → Step
loadb d a n = step_with Loadb d a 0 n

abbrev pub storeb : ℕ → ℕ → ℕ → Step
storeb a b n = step_with Storeb 0 a b n

abbrev pub jump : ℕ → Step
jump n = step_with Jump 0 0 0 n

abbrev pub jzero : ℕ → ℕ → Step
jzero a n = step_with Jzero 0 a 0 n

abbrev pub call : ℕ → Step
call n = step_with Call 0 0 0 n

abbrev pub ret : Step
ret = step_with Ret 0 0 0 0

abbrev pub frame : ℕ → ℕ → Step
frame d n = step_with Frame d 0 0 n

abbrev pub global : ℕ → ℕ → Step
global d n = step_with Global d 0 0 n

abbrev pub grab : ℕ → ℕ → Step
grab d a = step_with Grab d a 0 0

abbrev pub release : ℕ → Step
release a = step_with Release 0 a 0 0

abbrev pub out : ℕ → Step
out a = step_with Out 0 a 0 0

abbrev pub minus : ℤ → ℤ
minus (pos zero) = pos zero
minus (pos (suc n)) = negsuc n
minus (negsuc n) = pos (suc n)

-- a step with its n turned about, and a step of a line
abbrev pub negative : Step → Step
negative s = record s { n = minus s.n }

abbrev pub line : ℕ → Step → Step
line k s = record s { line = k }

abbrev pub numbered : ℕ → List Step → List Step
numbered k [] = []
numbered k (s ∷ ss) = line k s ∷ numbered (suc k) ss

-- a program as a text has it: its first step is on line 2
abbrev pub program : List Step → List Step
program ss = numbered 2 ss
