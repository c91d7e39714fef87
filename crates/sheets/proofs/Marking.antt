-- The steps of drawing the placement sheet. Assumes nothing.
use Rattle.std.proofs.Common.{◌≡◌, ℕ, suc, ◌+◌, ◌-◌, ◌/◌, ◌%◌, ◌<◌, ◌≤◌, List, ◌++◌, codes, decimal, sym, ap, ◌∙◌, append_assoc, append-nil, arith}
use Rattle.sheets.specs.declared.stretch.Stretch.{Stretch}
use Rattle.sheets.specs.Drawing.{unit_of, heading_of, mark_at, marks_from}

-- how many marks are left
abbrev pub marks_left : ℕ → ℕ
marks_left a = (4096 - a) / 64

-- what holds before each mark: what is written, with the marks that are left, is all of them
pub record Marked (ss : List Stretch) (text : List ℕ) (a : ℕ) : Type 0 where
  pub even : a % 64 ≡ 0
  pub within : a ≤ 4096
  pub whole : text ++ marks_from ss (marks_left a) a ≡ codes "  [" ++ marks_from ss 64 0

-- one mark more is written
pub mark_more : (ss : List Stretch) (text after : List ℕ) (a : ℕ) → a < 4096 → Marked ss text a → after ≡ text ++ mark_at ss a → Marked ss after (a + 64)
unfolding marks_from
mark_more ss text after a h w e =
    let f : suc (marks_left (a + 64)) ≡ marks_left a = omega (arith, w.even) in
    record {
      even = omega (arith, w.even);
      within = omega (arith, w.even);
      whole =
          ap (λ l. l ++ marks_from ss (marks_left (a + 64)) (a + 64)) e
          ∙ append_assoc text (mark_at ss a) _
          ∙ ap (λ n. text ++ marks_from ss n a) f
          ∙ w.whole;
    }

-- after the last mark none is left
pub mark_ends : (ss : List Stretch) (text : List ℕ) (a : ℕ) → 4096 ≤ a → Marked ss text a → text ≡ codes "  [" ++ marks_from ss 64 0
unfolding marks_from
mark_ends ss text a h w = let none : 0 ≡ marks_left a = omega arith in sym (append-nil text) ∙ ap (λ n. text ++ marks_from ss n a) none ∙ w.whole

-- the heading, with the word for the blocks
pub heading_by : (blocks held free : ℕ) (unit : List ℕ) → unit ≡ unit_of blocks → codes "sheet: " ++ (decimal blocks ++ (codes " " ++ (unit ++ (codes ", " ++ (decimal held ++ (codes " bytes held, " ++ (decimal free ++ codes " bytes free"))))))) ≡ heading_of blocks held free
heading_by blocks held free unit e = ap (λ u. codes "sheet: " ++ (decimal blocks ++ (codes " " ++ (u ++ (codes ", " ++ (decimal held ++ (codes " bytes held, " ++ (decimal free ++ codes " bytes free")))))))) e
