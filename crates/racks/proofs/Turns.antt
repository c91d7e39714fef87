-- The row stands in the order in which its places are drawn, so a draw gives the first by that order. Assumes nothing.
use Rattle.std.proofs.Common.{◌≡◌, ℕ, zero, suc, ◌+◌, ◌<◌, ◌≤◌, Bool, true, false, eqb, List, [], ◌∷◌, Some, sym, refl, ◌∙◌, inl, inr, arith}
use Rattle.std.proofs.lemmas.Bool.Decides.{nat_tests}
use Rattle.racks.specs.Points.{Place}
use Rattle.racks.specs.Histories.{Call, draw, put, clear, returned, step, event, after, events}
use Rattle.racks.specs.Row.{Row, row_out, draw_from, row_put, row_rule, last_places, fresh_row, in_front, stack_rule, at_end, ring_rule}
use Rattle.racks.specs.Accounted.{is_in, Accounted}
use Rattle.racks.specs.Turns.{Backs, all_fresh, marked, noted, backs, LaterBack, LongerBack, DrawsFirst}
use Rattle.racks.specs.Fresh.{is_in_last, fresh_accounted}
use Rattle.racks.proofs.Histories.{every_history}
use Rattle.racks.specs.Rows.{some_none, draw_accounted, Joins, outcome, row_points, joins_front, is_in_end, joins_end}

-- each number of a row goes before those after it
abbrev InTurn : (ℕ → ℕ → Type 0) → List ℕ → Type 0
InTurn Before [] = Unit
InTurn Before (x ∷ row) = ((y : ℕ) → is_in y row ≡ true → Before x y) × InTurn Before row

turn_drawn : (Before : ℕ → ℕ → Type 0) (row : List ℕ) (o : List Bool) → InTurn Before row → InTurn Before (draw_from row o).after.back
turn_drawn Before [] o t = tt
turn_drawn Before (x ∷ row) o t = t.1

turn_first : (Before : ℕ → ℕ → Type 0) (row : List ℕ) (o : List Bool) (p q : ℕ) → InTurn Before row → (draw_from row o).answer ≡ Some p → is_in q row ≡ true → (q ≡ p → ⊥) → Before p q
turn_first Before [] o p q t e i ne = some_none (sym e)
turn_first Before (x ∷ row) o p q t e i ne =
    let same : x ≡ p = cc in
    let off : eqb q x ≡ false = grind (arith, nat_tests) in
    let h = t.0 q (grind (arith, nat_tests)) in
    rw same at h

-- an order looks at the numbers of the two places only, and of two fresh places the lower goes first
record Order (Before : (ℕ → ℕ) → ℕ → ℕ → Type 0) : Type 0 where
  agrees : (f g : ℕ → ℕ) (x y : ℕ) → f x ≡ g x → f y ≡ g y → Before f x y → Before g x y
  lower : (x y : ℕ) → x < y → Before (λ _. 0) x y

-- a place that comes back joins the row in its turn
abbrev InItsTurn : ((ℕ → ℕ) → ℕ → ℕ → Type 0) → (ℕ → List ℕ → List ℕ) → Type 0
InItsTurn Before join = (since : ℕ → ℕ) (n p : ℕ) (row : List ℕ) → ((x : ℕ) → since x ≤ n) → is_in p row ≡ false → InTurn (Before since) row → InTurn (Before (marked since p (n + 1))) (join p row)

-- a place in a row is another than one that is not
other : (p y : ℕ) (row : List ℕ) → is_in p row ≡ false → is_in y row ≡ true → eqb y p ≡ false
other p y row f i = go (eqb y p) refl
  where
    go : (b : Bool) → eqb y p ≡ b → b ≡ false
    go false e = refl
    go true e = let same : y ≡ p = grind (arith, nat_tests) in absurd (let z : true ≡ false = sym (rw same at i) ∙ f in let w : ◌≡◌ {A = ℕ} 0 1 = cc in omega arith)

module _ (Before : (ℕ → ℕ) → ℕ → ℕ → Type 0) (order : Order Before) where
  before_kept : (since : ℕ → ℕ) (n p x y : ℕ) → eqb x p ≡ false → eqb y p ≡ false → Before since x y → Before (marked since p (n + 1)) x y
  before_kept since n p x y ex ey h = order.agrees since (marked since p (n + 1)) x y (rw ex) (rw ey) h

  turn_kept : (since : ℕ → ℕ) (n p : ℕ) (row : List ℕ) → is_in p row ≡ false → InTurn (Before since) row → InTurn (Before (marked since p (n + 1))) row
  turn_kept since n p [] f t = tt
  turn_kept since n p (x ∷ row) f t =
      let ex : eqb x p ≡ false = other p x (x ∷ row) f (grind (arith, nat_tests)) in
      let off : is_in p row ≡ false = grind (arith, nat_tests) in
      (λ y i. before_kept since n p x y ex (other p y row off i) (t.0 y i), turn_kept since n p row off t.1)

  fresh_turn : (k : ℕ) → k ≤ 255 → InTurn (Before (λ _. 0)) (last_places k)
  unfolding last_places
  fresh_turn zero h = tt
  fresh_turn (suc k) h = (λ y i. let r = is_in_last k y (omega arith) in order.lower _ y (grind (arith, nat_tests)), fresh_turn k (omega arith))

  module _ (join : ℕ → List ℕ → List ℕ) (joins : Joins join) (joined : InItsTurn Before join) where
    -- what every call keeps
    record Ordered (s : Row) (b : Backs) : Type 0 where
      accounted : Accounted s
      recent : (x : ℕ) → b.since x ≤ b.puts
      turn : InTurn (Before b.since) s.back

    ordered_fresh : Ordered fresh_row all_fresh
    ordered_fresh = record { accounted = fresh_accounted; recent = λ x. omega arith; turn = fresh_turn 255 (omega arith) }

    ordered_put : (s : Row) (b : Backs) (p : ℕ) → Ordered s b → (done : Bool) → row_out s p ≡ done → Ordered (row_put join s p done).after (noted b (returned p (row_put join s p done).answer))
    ordered_put s b p k false e = k
    ordered_put s b p k true e =
        let q = (outcome join joins s p k.accounted).accounted in
        let t = k.accounted.3 p in
        let off : is_in p s.back ≡ false = grind (arith, nat_tests) in
        record {
          accounted = rw e at q;
          recent = λ x. let r = k.recent x in grind (arith, nat_tests);
          turn = joined b.since b.puts p s.back k.recent off k.turn;
        }

    ordered_step : (s : Row) (b : Backs) (c : Call) → Ordered s b → Ordered (step (row_rule join) s c) (noted b (event (row_rule join) s c))
    ordered_step s b draw k = record { accounted = draw_accounted s.back s.out k.accounted; recent = k.recent; turn = turn_drawn _ s.back s.out k.turn }
    ordered_step s b (put p) k = ordered_put s b p k (row_out s p) refl
    ordered_step s b clear k = ordered_fresh

    ordered_all : (s : Row) (b : Backs) (calls : List Call) → Ordered s b → Ordered (after (row_rule join) s calls) (backs b (events (row_rule join) s calls))
    ordered_all s b [] k = k
    ordered_all s b (c ∷ rest) k = ordered_all (step (row_rule join) s c) (noted b (event (row_rule join) s c)) rest (ordered_step s b c k)

    -- a place that is not out is in the row
    is_back : (s : Row) (q : ℕ) → Accounted s → Place q → row_out s q ≡ false → is_in q s.back ≡ true
    is_back s q h w e = let t = h.3 q in let l = w.low in let m = w.high in grind (arith, nat_tests)

    draws_first : DrawsFirst Before (row_rule join)
    draws_first s calls p e =
        let row = after (row_rule join) fresh_row calls in
        let k = ordered_all fresh_row all_fresh calls ordered_fresh in
        let h = every_history (row_rule join) (row_points join joins) s calls in
        let gone = h.keeps.draws.leaves p e in
        record {
          place = gone.place;
          back = sym (h.outs p) ∙ gone.new;
          before = λ q w o ne. turn_first _ row.back row.out p q k.turn e (is_back row q k.accounted w (h.outs q ∙ o)) ne;
        }

later : Order LaterBack
later = record { agrees = λ f g x y ex ey h. grind arith; lower = λ x y h. inr (refl, refl, h) }

longer : Order LongerBack
longer = record { agrees = λ f g x y ex ey h. grind arith; lower = λ x y h. inr (refl, refl, h) }

front_in_turn : InItsTurn LaterBack in_front
front_in_turn since n p row recent f t = (λ y i. let e = other p y row f i in let r = recent y in inl (grind (arith, nat_tests)), turn_kept LaterBack later since n p row f t)

end_in_turn : InItsTurn LongerBack at_end
end_in_turn since n p [] recent f t = (λ y i. absurd (let z : ◌≡◌ {A = ℕ} 0 1 = cc in omega arith), tt)
end_in_turn since n p (x ∷ row) recent f t =
    let ex : eqb x p ≡ false = other p x (x ∷ row) f (grind (arith, nat_tests)) in
    let off : is_in p row ≡ false = grind (arith, nat_tests) in
    (λ y i. last y i ex off (eqb y p) refl, end_in_turn since n p row recent off t.1)
  where
    last : (y : ℕ) → is_in y (at_end p row) ≡ true → eqb x p ≡ false → is_in p row ≡ false → (b : Bool) → eqb y p ≡ b → LongerBack (marked since p (n + 1)) x y
    last y i ex off true e = let r = recent x in inl (grind (arith, nat_tests))
    last y i ex off false e = let q = is_in_end p y row in before_kept LongerBack longer since n p x y ex e (t.0 y (grind (arith, nat_tests)))

pub stack_turns : DrawsFirst LaterBack stack_rule
stack_turns = draws_first LaterBack later in_front joins_front front_in_turn

pub ring_turns : DrawsFirst LongerBack ring_rule
ring_turns = draws_first LongerBack longer at_end joins_end end_in_turn
