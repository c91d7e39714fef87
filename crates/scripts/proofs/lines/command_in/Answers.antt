use Rattle.std.proofs.Common.{rules}
use Rattle.scripts.proofs.Lining.{said}
use Rattle.scripts.proofs.lines.command_in.Goals as goal

pub returns-in_default : goal.returns-in_default
returns-in_default c = said c.args.line.now _ _ (search rules) (search rules) c.try_from.ensures.0 (search rules)
