use Rattle.std.proofs.Common.{Err, sym, ap, ◌∙◌, arith}
use Rattle.std.proofs.lemmas.Result.{err_from_is_err_and}
use Rattle.form.specs.Reading.{entry}
use Rattle.form.proofs.Steps.{entry_made}
use Rattle.text.proofs.Judging.{passes, fails, is_short}
use Rattle.text.proofs.entries.entry_of.Goals as goal

pub returns-in_err-operation : goal.returns-in_err-operation
returns-in_err-operation c =
    let l = c.in_ok-line.line in
    let cut = c.in_ok-line.ensures in
    let p = err_from_is_err_and c.from_residual-in_err-operation.result c.from_residual-in_err-operation.ensures.1 in
    rw p.1
    (fails _ l.text.now l.starts _ l.five cut.0 cut.1 (entry c.args.columns.order 512 c.args.count) _
    (entry_made c.args.columns.order 512 c.args.count _ (is_short _ l.text.now l.starts _ l.five cut.0 cut.1 cut.2) (omega arith) l.five.count
    ∙ (rw c.line_number.ensures at (sym c.in_err-operation.ensures)) ∙ ap Err (sym p.2)))

pub returns : goal.returns
returns c =
    let l = c.in_ok-line.line in
    let cut = c.in_ok-line.ensures in (
      c.after.ensures.text ∙ cut.0,
      passes _ l.text.now l.starts _ l.five cut.0 cut.1 (entry c.args.columns.order 512 c.args.count) _ _ c.after.ensures.at
          (entry_made c.args.columns.order 512 c.args.count _ (is_short _ l.text.now l.starts _ l.five cut.0 cut.1 cut.2) (omega arith) l.five.count
          ∙ (rw c.line_number.ensures at (sym c.in_ok-operation.ensures))),
    )
