use Rattle.std.proofs.Common.{ap, sym, ◌∙◌}
use Rattle.std.specs.Option.{option_map, option_copied}
use Rattle.std.specs.Result.{result_ok}
use Rattle.scripts.specs.declared.command.Command.TheVariants.{Heap}
use Rattle.scripts.proofs.Reading.{mapped_by, ok_of}
use Rattle.scripts.proofs.command.named.Goals as goal

pub returns-in-Some : goal.returns-in-Some
returns-in-Some c =
    let e = sym c.after.ensures ∙ ap option_copied c.in-Some.is in
    rw e (mapped_by Heap _ _ c.map.ensures.cases ∙ ap (option_map Heap) (c.ok.ensures.value ∙ ap result_ok c.try_from.ensures ∙ ok_of _ _))
