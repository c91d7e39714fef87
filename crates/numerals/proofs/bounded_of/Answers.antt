use Rattle.std.proofs.Common.{◌+◌, ◌-◌, ◌*◌, ◌<◌, get_or, drop, sym, ◌∙◌, arith}
use Rattle.std.proofs.lemmas.List.{at_drop_all}
use Rattle.numerals.specs.Numerals.{bounded}
use Rattle.numerals.proofs.Digits.{one_more, one_other, too_big, ended}
use Rattle.numerals.proofs.bounded_of.Goals as goal
use Rattle.numerals.proofs.bounded_of.Goals.{then-v-most-via-then-v-most, then-v-most-via-else-v-most+then-digit-most}

pub returns-then-not-is_ascii_digit : goal.returns-then-not-is_ascii_digit
returns-then-not-is_ascii_digit c =
    let e = one_other c.args.most c.loop-d.v c.args.digits.now c.loop-d.d-index (omega arith) (sym c.is_ascii_digit.ensures.value ∙ c.if-not-is_ascii_digit.true) in
    cc

pub returns-then-v-most : goal.returns-then-v-most
returns-then-v-most c =
    let e = one_more c.args.most c.loop-d.v c.args.digits.now c.loop-d.d-index (omega arith) (sym c.is_ascii_digit.ensures.value ∙ c.if-not-is_ascii_digit.false) in
    let big : c.args.most < c.loop-d.v * 10 + (get_or c.args.digits.now c.loop-d.d-index 0 - 48) =
    elim c.then-v-most.branch [ then-v-most-via-then-v-most w ↦ omega arith | then-v-most-via-else-v-most+then-digit-most w ↦ omega arith ] in
    let z = too_big _ _ (drop (c.loop-d.d-index + 1) c.args.digits.now) big in
    cc

pub loop-d-preserved : goal.loop-d-preserved
loop-d-preserved c =
    let e = one_more c.args.most c.loop-d.v c.args.digits.now c.loop-d.d-index (omega arith) (sym c.is_ascii_digit.ensures.value ∙ c.if-not-is_ascii_digit.false) in
    (omega arith, cc)

pub returns : goal.returns
returns c =
    let e = at_drop_all (bounded c.args.most c.loop-d.v) c.args.digits.now c.loop-d.d-index (omega arith) in
    let f = ended c.args.most c.loop-d.v (omega arith) in
    cc
