-- A rack that keeps its places in a row keeps the points of a rack, wherever a place joins the row. Assumes nothing.
use Rattle.std.specs.Prelude.{◌≡◌, ℕ, ◌<◌, ◌≤◌, Bool, true, false, cond, ◌||◌, List, [], ◌∷◌, length, get_or, Some, None, ◌==◌, slice_index_or, slice_set, refl}
use Rattle.std.proofs.Common.{sym, subst, ◌∙◌, arith, length-set, get_or-set_same, get_or-set_other}
use Rattle.std.proofs.lemmas.Bool.Decides.{nat_tests}
use Rattle.racks.specs.Rule.{Put}
use Rattle.racks.specs.Points.{RackPoints, Draws, Leaves, Place, minus}
use Rattle.racks.specs.Row.{Row, row_out, draw_from, row_put, row_rule, in_front, stack_rule, at_end, ring_rule}
use Rattle.racks.specs.Accounted.{is_in, once, Accounted}
use Rattle.racks.specs.Keeping.{points_by}
use Rattle.racks.specs.Distinct.{at_most}
use Rattle.racks.specs.Fresh.{fresh_accounted, get_or_falses}

pub some_none : {P : Type 0} {A : Type 0} {a : A} → Some a ≡ None → P
some_none {P} {A} {a} e = absurd (let z : ◌≡◌ {A = ℕ} 0 1 = cc in omega arith)

-- while a place is out there is room in the row
pub room : (s : Row) (p : ℕ) → Accounted s → row_out s p ≡ true → length s.back < 255
room s p h e =
    let t = h.3 p in
    let low : 1 ≤ p = grind (arith, nat_tests) in
    let high : p ≤ 255 = grind (arith, nat_tests) in
    let l = at_most 255 (p ∷ s.back) (let o = h.1 in grind (arith, nat_tests)) (λ x i. let w = h.2 x in grind (arith, nat_tests)) in
    omega arith

set_out : (o : List Bool) (p x : ℕ) (b : Bool) → p < length o → slice_index_or (slice_set o p b) x false ≡ cond (x == p) b (slice_index_or o x false)
set_out o p x b lt = grind (arith, nat_tests, get_or-set_same o p b false, get_or-set_other o p x b false)

pub draw_accounted : (b : List ℕ) (o : List Bool) → Accounted (record { back = b; out = o }) → Accounted (draw_from b o).after
draw_accounted [] o h = h
draw_accounted (x ∷ b) o h =
    let i = h.2 x (grind (arith, nat_tests)) in
    let one = h.1 in (
      length-set o x true ∙ h.0,
      grind (arith, nat_tests),
      λ y j. h.2 y (grind (arith, nat_tests)),
      λ y. let t = h.3 y in let q = set_out o x y true (omega (arith, h.0)) in let l = i.0 in let m = i.1 in grind (arith, nat_tests),
    )

place : (s : Row) (p : ℕ) → Accounted s → row_out s p ≡ true → Place p
place s p h e = let t = h.3 p in record { low = grind (arith, nat_tests); high = grind (arith, nat_tests) }

draws : (b : List ℕ) (o : List Bool) → Accounted (record { back = b; out = o }) → Draws (row_out (record { back = b; out = o })) (draw_from b o).answer (row_out (draw_from b o).after)
draws [] o h = record {
  leaves = λ p e. some_none (sym e);
  refused = λ _ p w. let t = h.3 p in let l = w.low in let m = w.high in grind (arith, nat_tests);
  refuses = λ _. refl;
  keeps = λ _ x. refl;
}
draws (x ∷ b) o h =
    let i = h.2 x (grind (arith, nat_tests)) in
    let at : Place x = record { low = i.0; high = i.1 } in
    let off : get_or o x false ≡ false = (let t = h.3 x in grind (arith, nat_tests)) in
    record {
      leaves = λ p e. let same : x ≡ p = cc in subst (λ (q : ℕ). Leaves (row_out (record { back = x ∷ b; out = o })) q (row_out (record { back = b; out = slice_set o x true }))) same (record { place = at; new = off; adds = λ y. set_out o x y true (omega (arith, h.0)) });
      refused = λ e. some_none e;
      refuses = λ all. absurd (let z : true ≡ false = sym (all x at) ∙ off in let w : ◌≡◌ {A = ℕ} 0 1 = cc in omega arith);
      keeps = λ e. some_none e;
    }

-- a way to join the row keeps what is in it, and has one place more
pub record Joins (join : ℕ → List ℕ → List ℕ) : Type 0 where
  pub holds : (p x : ℕ) (row : List ℕ) → is_in x (join p row) ≡ (x == p || is_in x row)
  pub single : (p : ℕ) (row : List ℕ) → once row ≡ true → is_in p row ≡ false → once (join p row) ≡ true

-- what a put comes to
pub record Outcome (s : Row) (p : ℕ) (t : Put Row) : Type 0 where
  pub accounted : Accounted t.after
  pub removes : (x : ℕ) → row_out t.after x ≡ minus (row_out s) p x
  pub answers : t.answer ≡ row_out s p

module _ (join : ℕ → List ℕ → List ℕ) (j : Joins join) where
  pub outcome : (s : Row) (p : ℕ) → Accounted s → Outcome s p (row_put join s p (row_out s p))
  outcome s p h = go (row_out s p) refl
    where
      go : (b : Bool) → row_out s p ≡ b → Outcome s p (row_put join s p b)
      go true e =
          let u = h.3 p in
          let off : is_in p s.back ≡ false = grind (arith, nat_tests) in
          let low : 1 ≤ p = grind (arith, nat_tests) in
          let high : p ≤ 255 = grind (arith, nat_tests) in
          let lt : p < length s.out = omega (arith, h.0) in
          record {
            accounted = (
              length-set s.out p false ∙ h.0,
              j.single p s.back h.1 off,
              λ x i. let w = h.2 x in let q = j.holds p x s.back in (grind (arith, nat_tests), grind (arith, nat_tests)),
              λ x. let t = h.3 x in let q = j.holds p x s.back in let r = set_out s.out p x false lt in grind (arith, nat_tests),
            );
            removes = λ x. set_out s.out p x false lt;
            answers = sym e;
          }
      go false e = record { accounted = h; removes = λ x. grind (arith, nat_tests); answers = sym e }

  pub row_points : RackPoints (row_rule join)
  row_points = points_by (row_rule join) Accounted
      (record { clear_sound = λ _. fresh_accounted; draw_sound = λ s. draw_accounted s.back s.out; put_sound = λ s p h. (outcome s p h).accounted })
      (λ _ p. get_or_falses 256 p)
      (λ s h. record {
        within = λ p. place s p h;
        draws = draws s.back s.out h;
        puts = λ p. let o = outcome s p h in record { answers = o.answers; removes = o.removes };
      })

pub joins_front : Joins in_front
joins_front = record { holds = λ p x row. grind (arith, nat_tests); single = λ p row o f. grind (arith, nat_tests) }

pub is_in_end : (p x : ℕ) (row : List ℕ) → is_in x (at_end p row) ≡ (x == p || is_in x row)
is_in_end p x [] = grind (arith, nat_tests)
is_in_end p x (y ∷ row) = let h = is_in_end p x row in grind (arith, nat_tests)

once_end : (p : ℕ) (row : List ℕ) → once row ≡ true → is_in p row ≡ false → once (at_end p row) ≡ true
once_end p [] o f = refl
once_end p (y ∷ row) o f =
    let q = is_in_end p y row in
    let r = once_end p row (grind (arith, nat_tests)) (grind (arith, nat_tests)) in
    grind (arith, nat_tests)

pub joins_end : Joins at_end
joins_end = record { holds = is_in_end; single = once_end }

pub stack_points : RackPoints stack_rule
stack_points = row_points in_front joins_front

pub ring_points : RackPoints ring_rule
ring_points = row_points at_end joins_end
