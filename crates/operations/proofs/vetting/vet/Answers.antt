use Rattle.std.proofs.Common.{◌≡◌, ◌<◌, [], ◌∷◌, length, Err, sym, ap, ◌∙◌, arith}
use Rattle.std.proofs.lemmas.List.{length-append, at_drop_all}
use Rattle.std.proofs.lemmas.List.Elements.{All-push}
use Rattle.std.proofs.lemmas.Result.{err_from_is_err_and}
use Rattle.operations.specs.Sound.{SoundStep}
use Rattle.operations.specs.Vetting.{vet_on, vetting}
use Rattle.operations.proofs.Vets.{turn, halt, vetting_on, vetted}
use Rattle.operations.proofs.vetting.vet.Goals as goal

pub returns-in_err-vet_record : goal.returns-in_err-vet_record
returns-in_err-vet_record c =
    let ops = c.args.operations.now in
    let p = err_from_is_err_and c.from_residual.result c.from_residual.ensures.1 in
    let value : c.from_residual.result ≡ vetting ops =
    p.1
    ∙ ap Err p.2
    ∙ halt (length ops) _ ops c.loop-operation.operation-index _ (omega arith) _ c.in_err-vet_record.ensures.value
    ∙ c.loop-operation.invariant.value
    ∙ sym (vetting_on ops (sym c.is_empty.ensures ∙ c.if-is_empty.false) (omega arith)) in
    record { value = value; law = vetted ops _ value }

pub loop-operation-preserved : goal.loop-operation-preserved
loop-operation-preserved c =
    let ops = c.args.operations.now in
    let i = c.loop-operation.operation-index in
    let steps = c.loop-operation.steps.items in
    let s = c.in_ok-vet_record.field-0 in
    let inv = c.loop-operation.invariant in
    let told = c.in_ok-vet_record.ensures in
    let lt : i < length ops = omega arith in
    rw c.push.ensures.items (record {
      count = omega (arith, length-append steps (s ∷ []), inv.count);
      value = turn (length ops) steps ops i _ lt s told.value ∙ inv.value;
      sound = All-push (SoundStep (length ops)) steps s inv.sound told.sound;
    })

pub returns : goal.returns
returns c =
    let ops = c.args.operations.now in
    let value =
    sym (at_drop_all (vet_on (length ops) c.loop-operation.steps.items) ops c.loop-operation.operation-index (omega arith))
    ∙ c.loop-operation.invariant.value
    ∙ sym (vetting_on ops (sym c.is_empty.ensures ∙ c.if-is_empty.false) (omega arith)) in
    record { value = value; law = vetted ops _ value }
