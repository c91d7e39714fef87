use Rattle.std.proofs.Common.{refl, arith}
use Rattle.text.proofs.Fives.{one_more, no_comma, no_end, five}
use Rattle.text.proofs.rest.Rest.starts.Goals as goal

pub returns-in_err-second : goal.returns-in_err-second
returns-in_err-second c = rw c.from_residual.ensures (no_comma _ _ 5 (λ e. omega arith) c.in_err-second.ensures)

pub returns-in_err-third : goal.returns-in_err-third
returns-in_err-third c =
    rw c.from_residual-in_err-third.ensures
    (one_more _ _ _ _ 4 c.in_ok-second.ensures
    (no_comma _ _ 4 (λ e. omega arith) c.in_err-third.ensures))

pub returns-in_err-fourth : goal.returns-in_err-fourth
returns-in_err-fourth c =
    rw c.from_residual-in_err-fourth.ensures
    (one_more _ _ _ _ 4 c.in_ok-second.ensures
    (one_more _ _ _ _ 3 c.in_ok-third.ensures
    (no_comma _ _ 3 (λ e. omega arith) c.in_err-fourth.ensures)))

pub returns-in_err-fifth : goal.returns-in_err-fifth
returns-in_err-fifth c =
    rw c.from_residual-in_err-fifth.ensures
    (one_more _ _ _ _ 4 c.in_ok-second.ensures
    (one_more _ _ _ _ 3 c.in_ok-third.ensures
    (one_more _ _ _ _ 2 c.in_ok-fourth.ensures
    (no_comma _ _ 2 (λ e. omega arith) c.in_err-fifth.ensures))))

pub returns-in_err-next : goal.returns-in_err-next
returns-in_err-next c =
    rw c.from_residual-in_err-next.ensures
    (one_more _ _ _ _ 4 c.in_ok-second.ensures
    (one_more _ _ _ _ 3 c.in_ok-third.ensures
    (one_more _ _ _ _ 2 c.in_ok-fourth.ensures
    (one_more _ _ _ _ 1 c.in_ok-fifth.ensures
    (no_end _ _ c.in_err-next.ensures)))))

pub returns : goal.returns
returns c = (
  five _ _ _ _ _ _ _ _ _ _ _ _ c.in_ok-second.ensures c.in_ok-third.ensures c.in_ok-fourth.ensures c.in_ok-fifth.ensures c.in_ok-next.ensures,
  refl,
)
