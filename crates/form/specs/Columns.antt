-- The order of the columns, which the first line names. Assumes nothing.
use Rattle.std.specs.Prelude.{ℕ, ◌+◌, ◌<◌, cond, List, [], ◌∷◌, Some, None, codes, Option}
use Rattle.std.specs.Str.{bytes_eq}
use Rattle.form.specs.declared.order.Order.{Order}

-- where w stands first among vs, counted from k
abbrev pub stands_from : ℕ → List ℕ → List (List ℕ) → Option ℕ
stands_from k w [] = None
stands_from k w (v ∷ vs) = cond (bytes_eq w v) (Some k) (stands_from (k + 1) w vs)

abbrev pub then_in : {A B : Type 0} → Option A → (A → Option B) → Option B
then_in (Some x) f = f x
then_in None f = None

abbrev pub places : ℕ → ℕ → ℕ → ℕ → ℕ → Order
places op d a b n = record { op = op; d = d; a = a; b = b; n = n }

-- the place of each column among the values of the first line, if each has one
abbrev pub order : List (List ℕ) → Option Order
order vs =
    then_in (stands_from 0 (codes "op") vs) (λ op.
    then_in (stands_from 0 (codes "d") vs) (λ d.
    then_in (stands_from 0 (codes "a") vs) (λ a.
    then_in (stands_from 0 (codes "b") vs) (λ b.
    then_in (stands_from 0 (codes "n") vs) (λ n.
    Some (places op d a b n))))))

-- each column stands among five values
pub record Placed (o : Order) : Type 0 where
  pub op : o.op < 5
  pub d : o.d < 5
  pub a : o.a < 5
  pub b : o.b < 5
  pub n : o.n < 5
