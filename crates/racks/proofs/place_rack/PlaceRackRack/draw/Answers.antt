use Rattle.std.proofs.Common.{◌≡◌, ℕ, ◌∷◌, List, Some, subst, rules}
use Rattle.racks.specs.Row.{row_of}
use Rattle.racks.specs.Accounted.{Accounted}
use Rattle.racks.specs.Rows.{draw_accounted}
use Rattle.racks.proofs.place_rack.PlaceRackRack.draw.Goals as goal

pub invariant_of-self-2 : goal.invariant_of-self-2
invariant_of-self-2 g c =
    let r = c.args.self.now in
    let p = c.in_ok-place.place in
    let some : c.pop_front.result ≡ Some p = search rules in
    let split = rw some at c.pop_front.ensures in
    record { sound = rw c.from.ensures (draw_accounted (p ∷ c.pop_front.new.self) r.out (subst (λ (b : List ℕ). Accounted (row_of b r.out)) split r.sound)) }
