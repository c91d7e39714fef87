use Rattle.numerals.proofs.Plain.{writes_natural}
use Rattle.numerals.proofs.natural_in.Goals as goal

pub returns : goal.returns
returns c = record { value = c.natural_of.ensures; law = writes_natural _ _ c.natural_of.ensures }
