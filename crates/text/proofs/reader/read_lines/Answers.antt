use Rattle.std.proofs.Common.{◌≡◌, Ok, ◌+◌, ◌<◌, min, length, take, drop, set, sym, ap, ◌∙◌, arith, false-eqb, eqb-true, rules}
use Rattle.std.specs.List.{between}
use Rattle.std.proofs.lemmas.Result.{err_from_is_err_and, MatchResult-at_ok, MatchResult-at_err}
use Rattle.std.proofs.lemmas.List.{length-set, set-get_or, drop-set-lt, drop-drop}
use Rattle.faults.specs.Faults.{fault_at}
use Rattle.form.specs.Pieces.{pieces}
use Rattle.form.specs.Reading.{onward}
use Rattle.form.proofs.Steps.{entry_fits}
use Rattle.text.proofs.Judging.{blamed_full, as_fault}
use Rattle.text.proofs.Turns.{ends, stops, passes_below, fails_below, turn}
use Rattle.text.proofs.reader.read_lines.Goals as goal

pub returns-then-is_empty : goal.returns-then-is_empty
returns-then-is_empty c =
    let inv = c.loop-count.invariant in
    let left = c.loop-count.left in
    let p = ends c.args.columns.order (length c.args.list.now) left.text.now c.loop-count.list c.args.list.now left.at c.loop-count.count _ (omega arith) inv.same inv.on (omega (arith, eqb-true _ _ (sym c.if-is_empty.ensures))) in
    record { value = p.0; after = set-get_or c.loop-count.list c.loop-count.count _ ∙ p.1 }

pub returns-in_err-entry : goal.returns-in_err-entry
returns-in_err-entry c =
    let inv = c.loop-count.invariant in
    let left = c.loop-count.left in
    let order = c.args.columns.order in
    let room = length c.args.list.now in
    let p = err_from_is_err_and c.from_residual.result c.from_residual.ensures.1 in
    let m = MatchResult-at_err _ _ _ c.in_err-entry.was (as_fault _ _ _ c.entry_of.result c.map_err.result c.entry_of.ensures c.map_err.ensures.cases) in
    let is : c.in_err-entry.field-0.0 ≡ fault_at m.0 c.line_number-line.result = search rules in
    let q = stops order room left.text.now c.loop-count.list c.args.list.now left.at c.loop-count.count _ (omega arith) inv.same inv.on m.0 p.0
    (omega (arith, left.inside, false-eqb _ _ c.if-is_empty.ensures))
    (fails_below order room c.loop-count.count (omega arith) left.text.now left.at _ m.1)
    (p.2 ∙ is ∙ ap (fault_at m.0) c.line_number-line.ensures) in
    record { value = p.1 ∙ q.0; after = set-get_or c.loop-count.list c.loop-count.count _ ∙ q.1 }

pub loop-count-preserved : goal.loop-count-preserved
loop-count-preserved c =
    let inv = c.loop-count.invariant in
    let order = c.args.columns.order in
    let left = c.loop-count.left in
    let room = length c.args.list.now in
    let k = c.loop-count.count in
    let list = c.loop-count.list in
    let op = c.in_ok-entry.entry in
    let next = c.in_ok-entry.next in
    let m = MatchResult-at_ok _ _ _ c.in_ok-entry.was (as_fault _ _ _ c.entry_of.result c.map_err.result c.entry_of.ensures c.map_err.ensures.cases) in
    let pass = passes_below order room k (omega arith) left.text.now left.at op next.at m.1 in
    let fits : k < min 512 room = entry_fits order room k (between left.at pass.end left.text.now) op pass.is in
    let len = length-set list k op in
    record {
      few = omega arith;
      on =
          ap (λ t. onward order room (take (k + 1) (set list k op)) (pieces 10 (drop next.at t))) m.0
          ∙ turn order room left.text.now list left.at k op next.at (omega arith) pass ∙ inv.on;
      same = drop-set-lt (k + 1) list k op (omega arith) ∙ sym (drop-drop 1 k list) ∙ ap (drop 1) inv.same ∙ drop-drop 1 k c.args.list.now;
    }

pub returns-then-is_empty-2 : goal.returns-then-is_empty-2
returns-then-is_empty-2 c =
    let inv = c.loop-count.invariant in
    let left = c.loop-count.left in
    let full : length c.loop-count.list ≡ c.loop-count.count = omega arith in
    let p = ends c.args.columns.order (length c.args.list.now) left.text.now c.loop-count.list c.args.list.now left.at c.loop-count.count _ (omega arith) inv.same inv.on (omega (arith, eqb-true _ _ (sym c.if-is_empty-2.ensures))) in
    record { value = ap Ok full ∙ p.0; after = p.1 }

pub returns-else-is_empty-2 : goal.returns-else-is_empty-2
returns-else-is_empty-2 c =
    let inv = c.loop-count.invariant in
    let left = c.loop-count.left in
    let order = c.args.columns.order in
    let room = length c.args.list.now in
    let full : length c.loop-count.list ≡ c.loop-count.count = omega arith in
    let p = stops order room left.text.now c.loop-count.list c.args.list.now left.at c.loop-count.count _ (omega arith) inv.same inv.on c.blame.result _
    (omega (arith, left.inside, false-eqb _ _ c.if-is_empty-2.ensures))
    (blamed_full order room c.loop-count.count left.text.now left.at c.blame.result (omega arith) c.blame.ensures)
    (c.at.ensures ∙ ap (fault_at c.blame.result) (c.line_number.ensures ∙ ap (λ j. j + 2) full)) in
    record { value = p.0; after = p.1 }
