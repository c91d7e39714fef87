use Rattle.std.proofs.Common.{ℕ, false, List, replicate, sym, ap, ◌∙◌, subst}
use Rattle.racks.specs.Row.{row_of}
use Rattle.racks.specs.Accounted.{Accounted}
use Rattle.racks.specs.Fresh.{fresh_accounted}
use Rattle.racks.proofs.place_rack.PlaceRack.new.Goals as goal

pub invariant_of-result : goal.invariant_of-result
invariant_of-result g c = record { sound = subst (λ (b : List ℕ). Accounted (row_of b (replicate 256 false))) (sym (c.from-back.ensures ∙ c.fresh_places.ensures)) fresh_accounted }

pub returns : goal.returns
returns g c = ap (λ (b : List ℕ). row_of b (replicate 256 false)) (c.from-back.ensures ∙ c.fresh_places.ensures)
