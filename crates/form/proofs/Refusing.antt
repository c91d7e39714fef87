-- The whole text: its refusal is that of the first check that fails, on the first line that fails one. Assumes nothing.
use Rattle.std.proofs.Common.{◌≡◌, ℕ, ◌+◌, ◌<◌, ◌≤◌, true, false, ◌||◌, eqb, ltb, ◌⊎◌, List, [], ◌∷◌, ◌++◌, length, get_or, drop, Some, None, Ok, Err, Option, Result, sym, refl, ap, ◌∙◌, subst, inl, inr, ⊎_elim, arith, below_more}
use Rattle.std.specs.List.{AllByRecursion}
use Rattle.std.proofs.lemmas.List.{length-drop, length_push, drop_more}
use Rattle.std.proofs.lemmas.Bool.{cond-true, cond-false, cases_Bool, eqb-true, eqb-false, ltb-true, ltb-false, ne_eqb, or_cases, or_parts}
use Rattle.faults.specs.declared.cause.Cause.{Cause}
use Rattle.faults.specs.declared.cause.Cause.TheVariants.{LineEnd, TextSize}
use Rattle.faults.specs.declared.fault.Fault.{Fault}
use Rattle.operations.specs.declared.operation.Operation.{Operation}
use Rattle.form.specs.declared.order.Order.{Order}
use Rattle.form.specs.Checks.{first, checks, head_checks, line_at, HasEnd, Sized, AtHead, AtLine, Refused}
use Rattle.form.specs.Form.{Lacks, Heads}
use Rattle.form.specs.Pieces.{pieces}
use Rattle.form.specs.Reading.{heading, entry, onward, headed, start, reading, stopped, Reading}
use Rattle.form.proofs.Checking.{cause_of, cause_entry, cause_heading}
use Rattle.form.proofs.Lawful.{heading_told}
use Rattle.form.proofs.Parting.{pieces_lack}
use Rattle.form.proofs.Steps.{onward_more, onward_stop, onward_last}

-- a reading that finished refuses nothing
unrefused : {P : Type 0} (f : Fault) (o : Option Fault) → o ≡ None → o ≡ Some f → P
unrefused f o e h = let z : ◌≡◌ {A = ℕ} 0 1 = cc in absurd (omega arith)

same_fault : (f g : Fault) → Some g ≡ Some f → f ≡ g
same_fault f g h = cc

module _ (text : List ℕ) (room : ℕ) (sized : Sized text) (o : Order) (headed : HasEnd text 0 × (first (head_checks (line_at text 0)) ≡ None) × Heads o (pieces 44 (line_at text 0))) where
  abbrev Passed : ℕ → Type 0
  Passed i = HasEnd text (i + 1) × (first (checks o room i (line_at text (i + 1))) ≡ None)

  -- a line by its index among those that are left
  at_index : (k : ℕ) (l : List ℕ) (ls : List (List ℕ)) → drop (k + 1) (pieces 10 text) ≡ l ∷ ls
      → (line_at text (k + 1) ≡ l) × (drop (k + 2) (pieces 10 text) ≡ ls) × (length (pieces 10 text) ≡ k + 2 + length ls)
  at_index k l ls e =
      let long = length-drop (k + 1) (pieces 10 text) in
      let count = ap length e in
      let lt : k + 1 < length (pieces 10 text) = omega arith in
      let split = sym (drop_more (pieces 10 text) (k + 1) [] lt) ∙ e in
      let next : k + 1 + 1 ≡ k + 2 = omega arith in
      (cc, ap (λ j. drop j (pieces 10 text)) (sym next) ∙ cc, omega arith)

  refused_entry : (done : List Operation) (f : Fault) (l : List ℕ) (ls : List (List ℕ)) → drop (length done + 1) (pieces 10 text) ≡ l ∷ ls → 1 ≤ length ls
      → ((k : ℕ) → k < length done → Passed k)
      → ((op : Operation) → drop (length (done ++ op ∷ []) + 1) (pieces 10 text) ≡ ls → ((k : ℕ) → k < length (done ++ op ∷ []) → Passed k) → (onward o room (done ++ op ∷ []) ls).found ≡ Some f → AtLine text room f)
      → (r : Result Operation Cause) → entry o room (length done) l ≡ r → (onward o room done (l ∷ ls)).found ≡ Some f → AtLine text room f
  refused_entry done f l ls e some passed ih (Ok op) is h =
      let at = at_index (length done) l ls e in
      let push = length_push done op in
      let none : first (checks o room (length done) l) ≡ None = sym (cause_entry o room (length done) l) ∙ ap cause_of is in
      let here : Passed (length done) = (omega (arith, at.2), ap (λ x. first (checks o room (length done) x)) at.0 ∙ none) in
      ih op
      (ap (λ k. drop k (pieces 10 text)) (omega arith) ∙ at.1)
      (λ k lt. below_more (λ j. Passed j) (length done) passed here k (omega arith))
      (ap (λ (r : Reading). r.found) (sym (onward_more o room done l ls op some is)) ∙ h)
  refused_entry done f l ls e some passed ih (Err c) is h =
      let at = at_index (length done) l ls e in
      let told : first (checks o room (length done) l) ≡ Some c = sym (cause_entry o room (length done) l) ∙ ap cause_of is in
      record {
        sized = sized;
        order = o;
        headed = headed;
        before = length done;
        earlier = passed;
        fails = inr (
          c,
          omega (arith, at.2),
          ap (λ x. first (checks o room (length done) x)) at.0 ∙ told,
          same_fault f _ (ap (λ (r : Reading). r.found) (sym (onward_stop o room done l ls c some is)) ∙ h),
        );
      }

  refused_last : (done : List Operation) (f : Fault) (l : List ℕ) → drop (length done + 1) (pieces 10 text) ≡ l ∷ [] → ((k : ℕ) → k < length done → Passed k) → (onward o room done (l ∷ [])).found ≡ Some f → AtLine text room f
  refused_last done f [] e passed h = unrefused f _ refl h
  refused_last done f (b ∷ l) e passed h =
      let at = at_index (length done) (b ∷ l) [] e in
      record {
        sized = sized;
        order = o;
        headed = headed;
        before = length done;
        earlier = passed;
        fails = inl (
          (λ more. omega (arith, at.2, more)),
          omega (arith, ap length at.0),
          same_fault f _ (ap (λ (r : Reading). r.found) (sym (onward_last o room done (b ∷ l) (omega arith))) ∙ h),
        );
      }

  refused_on : (ls : List (List ℕ)) (done : List Operation) (f : Fault) → drop (length done + 1) (pieces 10 text) ≡ ls → ((k : ℕ) → k < length done → Passed k) → (onward o room done ls).found ≡ Some f → AtLine text room f
  refused_on [] done f e passed h = unrefused f _ refl h
  refused_on (l ∷ []) done f e passed h = refused_last done f l e passed h
  refused_on (l ∷ m ∷ ls) done f e passed h =
      refused_entry done f l (m ∷ ls) e (omega arith) passed (λ op e'. refused_on (m ∷ ls) (done ++ op ∷ []) f e') (entry o room (length done) l) refl h

refused_head : (text : List ℕ) (room : ℕ) (f : Fault) → Sized text → (l : List ℕ) (ls : List (List ℕ)) → pieces 10 text ≡ l ∷ ls → 1 ≤ length ls
    → (r : Result Order Cause) → heading l ≡ r → (headed room ls r).found ≡ Some f → AtHead text f ⊎ AtLine text room f
refused_head text room f sized l ls e some (Err c) is h =
    let end : HasEnd text 0 = omega (arith, ap length e) in
    inl (record {
      sized = sized;
      fails = inr (c, end, ap (λ ps. first (head_checks (get_or ps 0 []))) e ∙ sym (cause_heading l) ∙ ap cause_of is, same_fault f _ h);
    })
refused_head text room f sized l ls e some (Ok o) is h =
    let end : HasEnd text 0 = omega (arith, ap length e) in
    let line : line_at text 0 ≡ l = ap (λ ps. get_or ps 0 []) e in
    let lacks : Lacks 10 l = (subst (λ ps. AllByRecursion (Lacks 10) ps) e (pieces_lack 10 text)).0 in
    let none = ap (λ x. first (head_checks x)) line ∙ sym (cause_heading l) ∙ ap cause_of is in
    let heads : Heads o (pieces 44 (line_at text 0)) = subst (λ x. Heads o (pieces 44 x)) (sym line) (heading_told l o lacks is).1 in
    inr (refused_on text room sized o (end, none, heads) ls [] f (ap (drop 1) e) (λ k lt. absurd (omega arith)) h)

refused_start : (text : List ℕ) (room : ℕ) (f : Fault) → Sized text → (ps : List (List ℕ)) → pieces 10 text ≡ ps → (start room ps).found ≡ Some f → AtHead text f ⊎ AtLine text room f
refused_start text room f sized [] e h = inl (record { sized = sized; fails = inl ((λ more. omega (arith, more, ap length e)), same_fault f _ h) })
refused_start text room f sized (l ∷ []) e h = inl (record { sized = sized; fails = inl ((λ more. omega (arith, more, ap length e)), same_fault f _ h) })
refused_start text room f sized (l ∷ m ∷ ls) e h =
    refused_head text room f sized l (m ∷ ls) e (omega arith) (heading l) refl
    (ap (λ (r : Reading). r.found) (sym (cond-false _ (stopped [] LineEnd 1) (headed room (m ∷ ls) (heading l)) (ne_eqb (length (m ∷ ls)) 0 (λ z. omega arith)))) ∙ h)

-- the refusal of a text
pub refused : (text : List ℕ) (room : ℕ) (f : Fault) → (reading text room).found ≡ Some f → Refused text room f
refused text room f h =
    ⊎_elim
    (λ (bad : (eqb (length text) 0 || ltb 60000 (length text)) ≡ true).
    inl (
      ⊎_elim (λ (none : eqb (length text) 0 ≡ true). inl (eqb-true _ _ none)) (λ (many : ltb 60000 (length text) ≡ true). inr (ltb-true _ _ many)) (or_cases _ _ bad),
      same_fault f _ (ap (λ (r : Reading). r.found) (sym (cond-true _ (stopped [] TextSize 0) (start room (pieces 10 text)) bad)) ∙ h),
    ))
    (λ (fine : (eqb (length text) 0 || ltb 60000 (length text)) ≡ false).
    let parts = or_parts (eqb (length text) 0) (ltb 60000 (length text)) fine in
    inr (refused_start text room f (omega (arith, eqb-false _ _ parts.0), ltb-false 60000 (length text) parts.1) (pieces 10 text) refl
    (ap (λ (r : Reading). r.found) (sym (cond-false _ (stopped [] TextSize 0) (start room (pieces 10 text)) fine)) ∙ h)))
    (cases_Bool (eqb (length text) 0 || ltb 60000 (length text)))
