use Rattle.std.proofs.Common.{◌≤◌, length, ◌∙◌, arith}
use Rattle.rings.proofs.Windows.{two_runs}
use Rattle.rings.proofs.ring.Ring.as_slices.Goals as goal

pub returns-else-self-from_first : goal.returns-else-self-from_first
returns-else-self-from_first g c =
    let r = c.self.inside in
    let fits : length c.split_at.result.1.now ≤ r.count = omega arith in
    rw (c.split_at.ensures.front, c.split_at.ensures.back) (two_runs r.first r.count r.cells (rw c.split_at.ensures.back at fits) ∙ c.self.view_is)
