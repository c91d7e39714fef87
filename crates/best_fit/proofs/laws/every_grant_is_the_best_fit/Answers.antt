use Rattle.best_fit.proofs.Fitting.{always_best}
use Rattle.best_fit.proofs.laws.every_grant_is_the_best_fit.Goals as goal

pub returns : goal.returns
returns c = always_best
