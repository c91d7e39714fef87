use Rattle.std.proofs.lemmas.Slice.Eq.{strip_prefix_is}
use Rattle.std.proofs.lemmas.Bool.Decides.{Decides-eqb}
use Rattle.scripts.proofs.Reading.{after_by}
use Rattle.scripts.proofs.words.after.Goals as goal

pub returns : goal.returns
returns c = after_by c.args.words.now c.args.line.now _ (strip_prefix_is Decides-eqb c.args.line.now c.args.words.now _ c.strip_prefix.ensures.cases)
