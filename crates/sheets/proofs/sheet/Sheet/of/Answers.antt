use Rattle.std.proofs.Common.{arith}
use Rattle.sheets.proofs.Walking.{walk_past, walk_adds, walk_ends}
use Rattle.sheets.proofs.Showing.{stretches_show}
use Rattle.sheets.proofs.sheet.Sheet.of.Goals as goal
use Rattle.sheets.proofs.sheet.Sheet.of.Goals.{in-Some+in_ok-end, in_default}

pub loop-start-preserved : goal.loop-start-preserved
loop-start-preserved g c =
    elim c.match-starts_at.branch [
      | in-Some+in_ok-end w ↦ let e = w.in_ok-end.ensures in simp (w.list-is, w.from-is, w.blocks-is, w.held-is, w.from-held.ensures) (walk_adds _ _ _ _ _ _ c.loop-start.invariant (omega arith) w.in-Some.bytes _ _ w.in-Some.ensures e.0 e.1)
      | in_default w ↦ simp (w.list-is, w.from-is, w.blocks-is, w.held-is) (walk_past _ _ _ _ _ _ c.loop-start.invariant (omega arith) w.in_default.ensures)
    ]

pub returns-clause-stretches : goal.returns-clause-stretches
returns-clause-stretches g c = (walk_ends _ _ _ _ _ _ c.loop-start.invariant (omega arith) _ c.in_ok-push_gap.ensures).0

pub returns-clause-blocks : goal.returns-clause-blocks
returns-clause-blocks g c = (walk_ends _ _ _ _ _ _ c.loop-start.invariant (omega arith) _ c.in_ok-push_gap.ensures).1

pub returns-clause-held : goal.returns-clause-held
returns-clause-held g c = (walk_ends _ _ _ _ _ _ c.loop-start.invariant (omega arith) _ c.in_ok-push_gap.ensures).2

pub returns-in_err-end-clause-law : goal.returns-in_err-end-clause-law
returns-in_err-end-clause-law g c = stretches_show _

pub returns-in_err-push_gap-clause-law : goal.returns-in_err-push_gap-clause-law
returns-in_err-push_gap-clause-law g c = stretches_show _

pub returns-clause-law : goal.returns-clause-law
returns-clause-law g c = stretches_show _
