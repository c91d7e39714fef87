use Rattle.std.proofs.Common.{◌+◌, ◌≤◌, Option, None, IfSome, drop, sym, ap, subst, ◌∙◌, arith}
use Rattle.best_fit.specs.Rule.{best_of}
use Rattle.best_fit.specs.declared.gap.Gap.{Gap}
use Rattle.best_fit.specs.Choosing.{in_range}
use Rattle.best_fit.specs.Walk.{at_free, at_block, at_end}
use Rattle.best_fit.proofs.heap.BestFit.find.Goals as goal

pub loop-at-preserved-then-held-eq0 : goal.loop-at-preserved-then-held-eq0
loop-at-preserved-then-held-eq0 c =
    let l = c.loop-at in
    let e = at_free c.args.need l.best l.low c.args.self.now.cells l.at (omega arith) (omega arith) in
    (omega arith, sym e ∙ l.invariant.1)

pub loop-at-preserved : goal.loop-at-preserved
loop-at-preserved c =
    let l = c.loop-at in
    let s = c.args.self.now.cells in
    let held = c.from-held.result in
    let e = at_block c.args.need l.best l.low s l.at held (omega arith) (omega arith) (omega arith) in (
      omega arith,
      ap (λ (o : Option Gap). best_of c.args.need o (l.at + held) (l.at + held) 0 (drop (l.at + held) s)) c.better-best.ensures ∙ sym e ∙ l.invariant.1,
    )

pub returns : goal.returns
returns c =
    let l = c.loop-at in
    let s = c.args.self.now.cells in
    let e = at_end c.args.need l.best l.low s l.at (λ k h. c.args.self.now.searched.above k (omega arith)) in
    let is = c.better.ensures ∙ sym e ∙ l.invariant.1 in
    record {
      is = is;
      inside = subst (λ (o : Option Gap). IfSome o (λ g. g.start + c.args.need ≤ 512)) (sym is) (in_range c.args.need None 0 0 0 s c.requires (omega arith) tt);
    }
