use Rattle.std.proofs.Common.{◌∙◌}
use Rattle.std.proofs.lemmas.Result.{IfOk-weaker}
use Rattle.sheets.proofs.Marking.{heading_by}
use Rattle.sheets.proofs.drawing.heading.Goals as goal

pub returns : goal.returns
returns c = IfOk-weaker c.format.result _ _ (λ s e. e ∙ heading_by c.args.sheet.now.blocks c.args.sheet.now.held c.args.sheet.now.free c.noun-unit.result.now c.noun-unit.ensures) c.format.ensures.ok
