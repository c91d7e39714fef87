use Rattle.std.proofs.Common.{refl}
use Rattle.best_fit.specs.Rule.{best_of}
use Rattle.best_fit.proofs.laws.best_fit_examples.Goals as goal

pub returns : goal.returns
unfolding best_of
returns c = record { all = refl; too_large = refl; none = refl; full = refl; equal_gaps = refl; larger = refl }
