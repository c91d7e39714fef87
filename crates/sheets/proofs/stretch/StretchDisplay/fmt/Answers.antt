use Rattle.std.proofs.Common.{rules, ap, sym, ◌∙◌}
use Rattle.std.specs.Fmt.{styled_decimal}
use Rattle.sheets.proofs.Columns.{styled_by}
use Rattle.sheets.proofs.stretch.StretchDisplay.fmt.Goals as goal

pub returns-clause-writes : goal.returns-clause-writes
returns-clause-writes g c =
    let a = styled_by c.args.self.now.start (search rules) ∙ ap (λ s. styled_decimal s c.args.self.now.start) (sym c.laid_out.ensures) in
    let b = styled_by c.args.self.now.size (search rules) ∙ ap (λ s. styled_decimal s c.args.self.now.size) (sym c.laid_out-2.ensures) in
    λ p q. rw (a, b) (c.write.ensures.writes p q)
