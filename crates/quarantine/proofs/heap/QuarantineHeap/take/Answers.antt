use Rattle.std.proofs.Common.{◌≡◌, [], Some, None, Err, sym, ap, ◌∙◌, arith, rules}
use Rattle.heaps.specs.Answers.{plain, taken}
use Rattle.quarantine.specs.Rule.{quarantined, gone_below, retried}
use Rattle.quarantine.specs.Waiting.{waiting_of}
use Rattle.quarantine.specs.Steps.{taken_ok, taken_err, in_range, retried_granted, retried_on, retried_end}
use Rattle.quarantine.proofs.heap.QuarantineHeap.take.Goals as goal

pub returns-in-Ok : goal.returns-in-Ok
returns-in-Ok g c =
    let m = g.H.Heap in
    let s = m.state c.loop-block.self.below in
    let w = waiting_of c.loop-block.self.waiting in
    let start = quarantined (m.state c.args.self.now.below) (waiting_of c.args.self.now.waiting) in
    let got = taken_ok _ _ c.in-Ok.ensures.answer in
    let e = in_range m.rule start c.args.n (omega arith) (omega arith) ∙ sym c.loop-block.invariant ∙ retried_granted m.rule c.args.n w s _ got in
    record {
      answer = c.in-Ok.ensures.answer ∙ sym (ap (λ t. taken t.answer) e);
      asked = c.in-Ok.ensures.asked;
      after = ap (λ t. quarantined t w) c.take-in-loop-block.ensures.after ∙ sym (ap (λ t. t.after) e);
    }

pub returns-in_err-longest-in-Err : goal.returns-in_err-longest-in-Err
returns-in_err-longest-in-Err g c =
    let m = g.H.Heap in
    let s = m.state c.loop-block.self.below in
    let w = waiting_of c.loop-block.self.waiting in
    let start = quarantined (m.state c.args.self.now.below) (waiting_of c.args.self.now.waiting) in
    let none : c.pop_front.result ≡ None = search rules in
    let same : c.from_residual.result ≡ Err c.in-Err.refused = search rules in
    let ends = rw none at c.pop_front.ensures in
    let e = in_range m.rule start c.args.n (omega arith) (omega arith) ∙ sym c.loop-block.invariant ∙ ap (λ v. retried m.rule c.args.n v s) ends.0 ∙ retried_end m.rule c.args.n s in
    record {
      answer = ap plain same ∙ c.in-Err.ensures.answer ∙ sym (ap (λ t. taken t.answer) e);
      asked = rw same tt;
      after =
          ap (λ v. quarantined (m.state c.take-in-loop-block.new.self) v) ends.1
          ∙ ap (λ t. quarantined t []) c.take-in-loop-block.ensures.after ∙ sym (ap (λ t. t.after) e);
    }

pub loop-block-preserved : goal.loop-block-preserved
loop-block-preserved g c =
    let m = g.H.Heap in
    let s = m.state c.loop-block.self.below in
    let x = c.in_ok-longest-in-Err.longest in
    let some : c.pop_front.result ≡ Some x = search rules in
    let none = taken_err _ _ c.in-Err.ensures.answer in
    let state-is : m.state c.give.new.self ≡ gone_below m.rule c.args.n x s =
    c.give.ensures.after ∙ ap (λ t. (m.rule.give t x).after) c.take-in-loop-block.ensures.after in
    let split = rw some at c.pop_front.ensures in
    ap (retried m.rule c.args.n c.pop_front.new.self) state-is
    ∙ sym (retried_on m.rule c.args.n c.pop_front.new.self s x none)
    ∙ sym (ap (λ v. retried m.rule c.args.n v s) split)
    ∙ c.loop-block.invariant
