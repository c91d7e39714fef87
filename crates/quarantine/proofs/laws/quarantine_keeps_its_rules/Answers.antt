use Rattle.quarantine.proofs.Rules.{quarantine_rules}
use Rattle.quarantine.proofs.laws.quarantine_keeps_its_rules.Goals as goal

pub returns : goal.returns
returns g c = quarantine_rules g.H.Heap.rule g.met.H.Heap.points
