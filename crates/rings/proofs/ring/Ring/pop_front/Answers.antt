use Rattle.std.proofs.Common.{◌<◌, sym, ◌∙◌, arith, rules}
use Rattle.rings.proofs.Windows.{window_first, some_items}
use Rattle.rings.proofs.ring.Ring.pop_front.Goals as goal

pub returns : goal.returns
returns g c =
    let r = c.self.inside in
    let some = some_items r.first r.count r.cells c.args.self.now c.self.view_is (sym c.is_empty.ensures ∙ c.if-is_empty.false) in
    let start : r.first < g.row.N = omega arith in
    let split = window_first g.row.N r.first r.count r.cells start c.self.invariant.1 (search rules) c.index-self-self.result some in
    rw c.next-self-inside.ensures (sym c.self.view_is ∙ split)
