use Rattle.std.proofs.Common.{rules, codes, refl}
use Rattle.std.proofs.lemmas.Slice.Eq.{text_from_reads}
use Rattle.scripts.proofs.names.DirectNameTryFromRefSliceU8.try_from.Goals as goal

pub returns-in-98 : goal.returns-in-98
returns-in-98 c = rw (text_from_reads c.args.words.now (codes "best-fit") (search rules) (search rules)) refl
