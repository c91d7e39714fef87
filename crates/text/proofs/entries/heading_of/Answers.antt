use Rattle.std.proofs.Common.{Err, sym, ap, ◌∙◌}
use Rattle.std.proofs.lemmas.Result.{err_from_is_err_and}
use Rattle.faults.specs.declared.cause.Cause.TheVariants.{ColumnNames}
use Rattle.form.specs.Reading.{heading}
use Rattle.text.proofs.Judging.{passes, fails, is_short, heading_made, answered}
use Rattle.text.proofs.entries.heading_of.Goals as goal

pub returns-in_err-columns : goal.returns-in_err-columns
returns-in_err-columns c =
    let l = c.in_ok-line.line in
    let cut = c.in_ok-line.ensures in
    let p = err_from_is_err_and c.from_residual-in_err-columns.result c.from_residual-in_err-columns.ensures.1 in
    let a = answered (λ x. x.order) c.named_in.result _ ColumnNames c.ok_or.result c.named_in.ensures c.ok_or.ensures.value in
    rw p.1
    (fails _ l.text.now l.starts _ l.five cut.0 cut.1 heading _
    (heading_made _ (is_short _ l.text.now l.starts _ l.five cut.0 cut.1 cut.2) l.five.count ∙ (rw c.in_err-columns.was at a) ∙ ap Err (sym p.2)))

pub returns : goal.returns
returns c =
    let l = c.in_ok-line.line in
    let cut = c.in_ok-line.ensures in
    let a = answered (λ x. x.order) c.named_in.result _ ColumnNames c.ok_or.result c.named_in.ensures c.ok_or.ensures.value in (
      c.after.ensures.text ∙ cut.0,
      passes _ l.text.now l.starts _ l.five cut.0 cut.1 heading _ _ c.after.ensures.at
          (heading_made _ (is_short _ l.text.now l.starts _ l.five cut.0 cut.1 cut.2) l.five.count ∙ (rw c.in_ok-columns.was at a)),
    )
