use Rattle.std.proofs.Common.{◌≡◌, true, rules}
use Rattle.racks.specs.Row.{row_of, row_out}
use Rattle.racks.specs.Rows.{room, outcome}
use Rattle.racks.proofs.place_rack.PlaceRackRack.put.Goals as goal

pub invariant_of-self : goal.invariant_of-self
invariant_of-self g c =
    let r = c.args.self.now in
    let s = row_of r.back r.out in
    let p = c.args.place in
    let away : row_out s p ≡ true = search rules in
    let free = room s p r.sound away in
    let is : c.join.new.back ≡ g.J.Joins.joined p r.back = search rules in
    let q = (outcome g.J.Joins.joined g.met.J.Joins.once s p r.sound).accounted in
    record { sound = rw (is, c.from-2.ensures) (rw away at q) }
