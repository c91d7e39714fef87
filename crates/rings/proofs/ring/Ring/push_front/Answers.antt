use Rattle.std.proofs.Common.{◌≡◌, ◌∷◌, List, length, sym, ap, ◌∙◌, arith, rules}
use Rattle.rings.proofs.Windows.{room_left, window_after_push_front}
use Rattle.rings.proofs.ring.Ring.push_front.Goals as goal

pub returns-clause-joins : goal.returns-clause-joins
returns-clause-joins g c =
    let r = c.self.inside in
    let long : length r.cells ≡ g.row.N = search rules in
    let room = room_left g.row.N r.first r.count r.cells c.args.self.now c.self.invariant.0 c.self.invariant.1 long c.self.view_is (sym c.is_full.ensures.full ∙ c.if-is_full.false) in
    rw c.before-first.ensures (window_after_push_front g.row.N r.first r.count r.cells (omega arith) c.self.invariant.1 long c.args.item room
    ∙ ap (λ (xs : List g.row.T.Denot). c.args.item ∷ xs) c.self.view_is)
