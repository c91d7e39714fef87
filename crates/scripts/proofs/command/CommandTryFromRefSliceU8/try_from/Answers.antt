use Rattle.scripts.proofs.Saying.{reads}
use Rattle.scripts.proofs.command.CommandTryFromRefSliceU8.try_from.Goals as goal

pub returns : goal.returns
returns c = reads _ _ _ c.read.ensures c.ok_or.ensures.value
