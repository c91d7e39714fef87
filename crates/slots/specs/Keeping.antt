-- The slot heap keeps the points of a heap. Assumes nothing.
use Rattle.std.specs.Prelude.{◌≡◌, ℕ, ◌+◌, ◌*◌, ◌/◌, ◌%◌, ◌<◌, ◌≤◌, Bool, true, false, cond, ◌&&◌, ◌⊎◌, List, length, get_or, replicate, is_some, Some, None, Option, ◌==◌, ◌≢◌, nat_le, slice_index_or, slice_set, refl}
use Rattle.std.proofs.Common.{sym, subst, ◌∙◌, inl, inr, ⊎_elim, arith, length-set, get_or-set_same, get_or-set_other}
use Rattle.std.proofs.lemmas.List.{get_or_past, get_or-replicate}
use Rattle.std.proofs.lemmas.Bool.{cases_lt}
use Rattle.std.proofs.lemmas.Bool.Decides.{nat_tests}
use Rattle.heaps.specs.Rule.{Taken, Block}
use Rattle.heaps.specs.Points.{Points, Fit, Apart, Free, Grants, Takes, minus}
use Rattle.heaps.proofs.Keeping.{Kept, points_by}
use Rattle.heaps.proofs.Laying.{some_none}
use Rattle.slots.specs.Rule.{Slotted, slotted, first_free, begins, slots_held, granted, slots_take, given, slots_give, cleared, slots_rule}
use Rattle.slots.specs.Search.{found, all_taken}

-- what every call keeps
pub record Sixteen (s : Slotted) : Type 0 where
  pub long : length s.taken ≡ 16
  pub within : s.next < 16

-- the ways of a take
pub data Took (s : Slotted) (n : ℕ) : Taken Slotted → Type 0 where
  no : (1 ≤ n → n ≤ 256 → first_free s.taken 16 s.next ≡ None) → Took s n (record { answer = None; after = s })
  yes : (i : ℕ) → 1 ≤ n → n ≤ 256 → first_free s.taken 16 s.next ≡ Some i → Took s n (granted s (Some i))

pub took : (s : Slotted) (n : ℕ) → Took s n (slots_take s n)
took s n = go (nat_le 1 n && nat_le n 256) refl (first_free s.taken 16 s.next) refl
  where
    go : (b : Bool) → (nat_le 1 n && nat_le n 256) ≡ b → (o : Option ℕ) → first_free s.taken 16 s.next ≡ o → Took s n (cond b (granted s o) (record { answer = None; after = s }))
    go true t (Some i) e = yes i (grind (arith, nat_tests)) (grind (arith, nat_tests)) e
    go true t None e = no (λ _ _. e)
    go false t o e = no (λ l h. let z : (nat_le 1 n && nat_le n 256) ≡ true = grind (arith, nat_tests) in absurd (let w : ◌≡◌ {A = ℕ} 0 1 = cc in omega arith))

pub inside : (t : List Bool) (i : ℕ) → slice_index_or t i false ≡ true → i < length t
inside t i e = ⊎_elim (λ z. z) (λ z. let f = get_or_past t i false z in absurd (let w : ◌≡◌ {A = ℕ} 0 1 = cc in omega arith)) (cases_lt i (length t))

record Held (s : Slotted) (x h : ℕ) : Type 0 where
  even : x % 256 ≡ 0
  whole : h ≡ 256
  one : get_or s.taken (x / 256) false ≡ true

is_held : (s : Slotted) (x h : ℕ) → slots_held s x ≡ Some h → Held s x h
is_held s x h e = go (x % 256 == 0) refl (slice_index_or s.taken (x / 256) false) refl e
  where
    go : (a : Bool) → (x % 256 == 0) ≡ a → (b : Bool) → slice_index_or s.taken (x / 256) false ≡ b → cond (a && b) (Some 256) None ≡ Some h → Held s x h
    go true p true q e = record { even = grind (arith, nat_tests); whole = cc; one = q }
    go true p false q e = some_none (sym e)
    go false p b q e = some_none (sym e)

-- a slot by its start
pub slot_held : (s : Slotted) (j : ℕ) → slice_index_or s.taken j false ≡ true → slots_held s (256 * j) ≡ Some 256
slot_held s j e =
    let at : (256 * j) / 256 ≡ j = omega arith in
    let lives : get_or s.taken ((256 * j) / 256) false ≡ true = rw at e in
    grind (arith, nat_tests)

pub slot_free : (s : Slotted) (j : ℕ) → slice_index_or s.taken j false ≡ false → slots_held s (256 * j) ≡ None
slot_free s j e =
    let at : (256 * j) / 256 ≡ j = omega arith in
    let none : get_or s.taken ((256 * j) / 256) false ≡ false = rw at e in
    grind (arith, nat_tests)

fit : (s : Slotted) (x h : ℕ) → Sixteen s → slots_held s x ≡ Some h → Fit x h
fit s x h k e =
    let d = is_held s x h e in
    let lt = inside s.taken (x / 256) d.one in
    record { even_start = omega arith; even_held = omega arith; some = omega arith; inside = omega arith }

apart : (s : Slotted) (x h y k : ℕ) → slots_held s x ≡ Some h → slots_held s y ≡ Some k → (x ≢ y) → Apart x h y k
apart s x h y k e f ne =
    let d = is_held s x h e in
    let c = is_held s y k f in
    grind arith

-- a slot set, as the starts see it
set_begins : (t : List Bool) (i x : ℕ) (b : Bool) → i < length t → begins (slice_set t i b) x ≡ cond (x == 256 * i) b (begins t x)
set_begins t i x b lt = grind (arith, nat_tests, get_or-set_same t i b false, get_or-set_other t i (x / 256) b false)

grants : (s : Slotted) (n : ℕ) (t : Taken Slotted) (b : Block) → Took s n t → Sixteen s → t.answer ≡ Some b → Grants (slots_held s) n b (slots_held t.after)
grants s n t b (no f) h e = some_none (sym e)
grants s n t b (yes i l m f) h e =
    let w = found s.taken 16 s.next i h.within f in
    let lt : i < length s.taken = omega (arith, w.is, h.long) in
    let same : record { start = 256 * i; held = 256 } ≡ b = cc in
    let G : Block → Type 0 = λ c. Grants (slots_held s) n c (slots_held (slotted (slice_set s.taken i true) ((i + 1) % 16))) in
    subst G same (record {
      new = slot_free s i w.free;
      adds = λ x. let q = set_begins s.taken i x true lt in grind (arith, nat_tests);
      enough = m;
      not_more = omega arith;
    })

keeps : (s : Slotted) (n : ℕ) (t : Taken Slotted) → Took s n t → t.answer ≡ None → (x : ℕ) → slots_held t.after x ≡ slots_held s x
keeps s n t (no f) e x = refl
keeps s n t (yes i l m f) e x = some_none e

pub refuses : (s : Slotted) (n : ℕ) (t : Taken Slotted) → Took s n t → (n ≡ 0) ⊎ (256 < n) → t.answer ≡ None
refuses s n t (no f) o = refl
refuses s n t (yes i l m f) o = absurd (grind arith)

-- 512 free bytes hold a whole slot
must : (s : Slotted) (n a : ℕ) (t : Taken Slotted) → Took s n t → Sixteen s → 1 ≤ n → n ≤ 256 → a + 512 ≤ 4096 → Free (slots_held s) a 512 → is_some t.answer ≡ true
must s n a t (yes i l m f) h p q r free = refl
must s n a t (no f) h p q r free =
    let j = (a + 255) / 256 in
    let o = free (256 * j) 256 (slot_held s j (all_taken s.taken s.next j h.within (omega arith) (f p q))) in
    absurd (grind arith)

takes : (s : Slotted) (n : ℕ) (t : Taken Slotted) → Took s n t → Sixteen s → Takes (slots_held s) n t.answer (slots_held t.after)
takes s n t w h = record {
  grants = λ b. grants s n t b w h;
  keeps = keeps s n t w;
  none = λ z. refuses s n t w (inl z);
  large = λ l. refuses s n t w (inr (omega arith));
  must = λ p q a. must s n a t w h p q;
}

take_sound : (s : Slotted) (n : ℕ) (t : Taken Slotted) → Took s n t → Sixteen s → Sixteen t.after
take_sound s n t (no f) h = h
take_sound s n t (yes i l m e) h = record { long = length-set s.taken i true ∙ h.long; within = omega arith }

removes : (s : Slotted) (x y : ℕ) → Sixteen s → slots_held (slots_give s x).after y ≡ minus (slots_held s) x y
removes s x y h = go (begins s.taken x) refl
  where
    go : (b : Bool) → begins s.taken x ≡ b → slots_held (given s x b).after y ≡ minus (slots_held s) x y
    go true e =
        let one : get_or s.taken (x / 256) false ≡ true = grind (arith, nat_tests) in
        let q = set_begins s.taken (x / 256) y false (inside s.taken (x / 256) one) in
        let at : 256 * (x / 256) ≡ x = grind (arith, nat_tests) in
        grind (arith, nat_tests)
    go false e = grind (arith, nat_tests)

give_sound : (s : Slotted) (x : ℕ) → Sixteen s → Sixteen (slots_give s x).after
give_sound s x h =
    elim (begins s.taken x) as (λ b. Sixteen (given s x b).after) [ true ↦ record { long = length-set s.taken (x / 256) false ∙ h.long; within = h.within } | false ↦ h ]

empties : (x : ℕ) → slots_held cleared x ≡ None
empties x = ⊎_elim
    (λ lt. let e = get_or-replicate 16 (x / 256) false false lt in grind (arith, nat_tests))
    (λ ge. let e = get_or_past (replicate 16 false) (x / 256) false ge in grind (arith, nat_tests))
    (cases_lt (x / 256) 16)

pub kept : Kept slots_rule Sixteen
kept = record {
  clear_sound = λ s. record { long = refl; within = omega arith };
  take_sound = λ s n. take_sound s n _ (took s n);
  give_sound = give_sound;
}

pub slots_points : Points slots_rule
slots_points = points_by slots_rule Sixteen kept (λ _ x. empties x) (λ s h. record {
  laid = record { fit = λ x k. fit s x k h; apart = apart s };
  takes = λ n. takes s n _ (took s n) h;
  gives = λ x. record { answers = grind (arith, nat_tests); removes = λ y. removes s x y h };
})
