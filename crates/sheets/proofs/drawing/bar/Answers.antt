use Rattle.std.proofs.Common.{◌+◌, ◌++◌, string_bytes, codes, refl, ap, ◌∙◌, arith}
use Rattle.sheets.specs.Drawing.{marks_from}
use Rattle.sheets.proofs.Marking.{mark_more, mark_ends}
use Rattle.sheets.proofs.drawing.bar.Goals as goal
use Rattle.sheets.proofs.drawing.bar.Goals.{else-loop-mark-test, then-loop-mark-test+in_ok-push_str+else-mark-step-mark}

pub loop-mark-init : goal.loop-mark-init
loop-mark-init c = record { even = refl; within = omega arith; whole = ap (λ t. t ++ marks_from c.args.stretches.now 64 0) c.in_ok-text.ensures.ok }

pub loop-mark-preserved : goal.loop-mark-preserved
loop-mark-preserved c =
    rw c.from-mark-step.ensures
    (mark_more _ (string_bytes c.loop-mark.text) _ c.loop-mark.mark (omega arith) c.loop-mark.invariant (c.in_ok-push_str.ensures.bytes ∙ ap (λ m. string_bytes c.loop-mark.text ++ m) c.mark_at.ensures))

pub returns : goal.returns
returns c =
    c.in_ok-push_str-2.ensures.bytes
    ∙ elim c.loop-mark-test.branch [
      | else-loop-mark-test w ↦ simp w.text-is (ap (λ t. t ++ codes "]") (mark_ends _ _ _ (omega arith) c.loop-mark.invariant))
      | then-loop-mark-test+in_ok-push_str+else-mark-step-mark w ↦
          let last = mark_more _ (string_bytes c.loop-mark.text) _ c.loop-mark.mark (omega arith) c.loop-mark.invariant (w.in_ok-push_str.ensures.bytes ∙ ap (λ m. string_bytes c.loop-mark.text ++ m) w.mark_at.ensures) in
          simp w.text-is (ap (λ t. t ++ codes "]") (mark_ends _ _ (c.loop-mark.mark + 64) (omega arith) last))
    ]
