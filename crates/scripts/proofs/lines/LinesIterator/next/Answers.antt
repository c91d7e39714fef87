use Rattle.std.proofs.Common.{rules}
use Rattle.scripts.proofs.Lining.{first_line, no_lines, fewer_left}
use Rattle.scripts.proofs.lines.LinesIterator.next.Goals as goal

pub returns-clause-steps : goal.returns-clause-steps
returns-clause-steps c = rw (c.cut.ensures.line, c.cut.ensures.rest) (first_line c.args.self.now.rest.now (search rules))

pub returns-clause-goes : goal.returns-clause-goes
returns-clause-goes c =
    let fewer = fewer_left c.args.self.now.rest.now (search rules) in
    rw c.cut.ensures.rest (search rules)

pub returns-then-is_empty-clause-steps : goal.returns-then-is_empty-clause-steps
returns-then-is_empty-clause-steps c = let none = no_lines c.args.self.now.rest.now (search rules) in (none, none)
