use Rattle.std.proofs.Common.{rules}
use Rattle.racks.specs.Fresh.{is_fresh}
use Rattle.racks.proofs.places.fresh_places.Goals as goal

pub returns : goal.returns
returns c = let h = c.from_fn.ensures.items in is_fresh c.from_fn.result h.long (λ k lt. let at = (h.at k 0 lt).2 in search rules)
