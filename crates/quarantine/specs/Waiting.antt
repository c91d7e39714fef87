-- Which starts a line has, the longest waiting first. Assumes nothing.
use Rattle.std.specs.Prelude.{ℕ, List}
use Rattle.rings.specs.declared.ring.Ring.{Ring}

abbrev pub waiting_of : Ring ℕ 16 → List ℕ
waiting_of line = line
