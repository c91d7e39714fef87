use Rattle.std.proofs.Common.{◌≡◌, ◌<◌, [], length, drop, sym, ap, ◌∙◌, arith, false-eqb, subst, rules}
use Rattle.std.proofs.lemmas.Result.{err_from_is_err_and, MatchResult-at_ok, MatchResult-at_err}
use Rattle.faults.specs.Faults.{fault_at}
use Rattle.form.specs.Pieces.{pieces}
use Rattle.form.specs.Reading.{answer, list_after, heading, onward}
use Rattle.text.specs.Lines.{Passes, Fails}
use Rattle.form.proofs.Promised.{formed}
use Rattle.text.proofs.Judging.{as_fault}
use Rattle.text.proofs.Turns.{reading_on, reading_fails, refused_first}
use Rattle.text.proofs.reader.read.Goals as goal

pub returns-in_err-columns : goal.returns-in_err-columns
returns-in_err-columns c =
    let some : 0 < length c.args.text.now = omega (arith, false-eqb _ 0 c.if-is_empty.ensures) in
    let p = err_from_is_err_and c.from_residual.result c.from_residual.ensures.1 in
    let m = MatchResult-at_err _ _ _ c.in_err-columns.was (as_fault _ _ _ c.heading_of.result c.map_err.result c.heading_of.ensures c.map_err.ensures.cases) in
    let is : c.in_err-columns.field-0.0 ≡ fault_at m.0 1 = search rules in
    let fails : Fails heading c.args.text.now 0 m.0 =
    subst (λ t. Fails heading t 0 m.0) c.of.ensures.text (subst (λ a. Fails heading c.of.result.text.now a m.0) c.of.ensures.at m.1) in
    let q = refused_first _ c.args.list.now m.0 p.0 1
    (reading_fails (length c.args.list.now) c.args.text.now some (omega arith) m.0 fails)
    (p.2 ∙ is) in
    let value = p.1 ∙ q.0 in
    record { value = value; after = q.1; form = formed c.args.text.now c.args.list.now _ _ value q.1 }

pub returns : goal.returns
returns c =
    let some : 0 < length c.args.text.now = omega (arith, false-eqb _ 0 c.if-is_empty.ensures) in
    let m = MatchResult-at_ok _ _ _ c.in_ok-columns.was (as_fault _ _ _ c.heading_of.result c.map_err.result c.heading_of.ensures c.map_err.ensures.cases) in
    let order = c.in_ok-columns.columns.order in
    let rest = c.in_ok-columns.rest in
    let room = length c.args.list.now in
    let pass : Passes heading c.args.text.now 0 order rest.at =
    subst (λ t. Passes heading t 0 order rest.at) c.of.ensures.text (subst (λ a. Passes heading c.of.result.text.now a order rest.at) c.of.ensures.at m.1) in
    let e =
    reading_on room c.args.text.now some (omega arith) order rest.at pass
    ∙ ap (λ t. onward order room [] (pieces 10 (drop rest.at t))) (sym (m.0 ∙ c.of.ensures.text)) in
    let value = c.read_lines.ensures.value ∙ sym (ap answer e) in
    let after = c.read_lines.ensures.after ∙ sym (ap (λ r. list_after r c.args.list.now) e) in
    record { value = value; after = after; form = formed c.args.text.now c.args.list.now _ _ value after }
