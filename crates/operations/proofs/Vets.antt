-- Vetting a list of records: the law, record by record. Assumes nothing.
use Rattle.std.proofs.Common.{◌≡◌, ℕ, ◌+◌, ◌<◌, ◌≤◌, true, false, eqb, ltb, List, [], ◌∷◌, ◌++◌, map, length, get_or, take, drop, Ok, Err, Result, sym, refl, ap, ◌∙◌, subst, inl, inr, ⊎_elim, arith, below_more}
use Rattle.std.proofs.lemmas.List.{length-drop, drop_more, at_drop_more, take_more, take_all, map_push}
use Rattle.std.proofs.lemmas.Bool.{cond-true, cond-false, eqb-true, eqb-false, ltb-true, ltb-false, le-ltb, cases_Bool}
use Rattle.faults.specs.declared.cause.Cause.TheVariants.{NoOperation, NoRoom}
use Rattle.faults.specs.declared.fault.Fault.{Fault}
use Rattle.faults.specs.Faults.{whole_fault}
use Rattle.operations.specs.declared.operation.Operation.{Operation}
use Rattle.operations.specs.declared.step.Step.{Step}
use Rattle.operations.specs.Programs.{Fit, Vetted}
use Rattle.operations.specs.Records.{plain}
use Rattle.operations.specs.Vetting.{vet_record, vet_on, vetting}
use Rattle.operations.proofs.Fits.{Told, Fails, told}

-- one record more, or the refusal at it
on_more : (count : ℕ) (done : List Step) (o : Operation) (os : List Operation) (s : Step) → vet_record count o ≡ Ok s → vet_on count done (o ∷ os) ≡ vet_on count (done ++ s ∷ []) os
on_more count done o os s e = rw e

on_stop : (count : ℕ) (done : List Step) (o : Operation) (os : List Operation) (f : Fault) → vet_record count o ≡ Err f → vet_on count done (o ∷ os) ≡ Err f
on_stop count done o os f e = rw e

-- the same at a position of the records
module _ (count : ℕ) (done : List Step) (ops : List Operation) (i : ℕ) (d : Operation) (lt : i < length ops) where
  pub turn : (s : Step) → Ok s ≡ vet_record count (get_or ops i d) → vet_on count (done ++ s ∷ []) (drop (i + 1) ops) ≡ vet_on count done (drop i ops)
  turn s e = sym (at_drop_more (vet_on count done) ops i d lt ∙ on_more count done (get_or ops i d) (drop (i + 1) ops) s (sym e))

  pub halt : (f : Fault) → Err f ≡ vet_record count (get_or ops i d) → Err f ≡ vet_on count done (drop i ops)
  halt f e = sym (at_drop_more (vet_on count done) ops i d lt ∙ on_stop count done (get_or ops i d) (drop (i + 1) ops) f (sym e))

module _ (ops : List Operation) (some : 0 < length ops) (few : length ops ≤ 512) where
  abbrev Law : Result (List Step) Fault → Type 0
  Law r = Vetted ops r

  abbrev Before : ℕ → Type 0
  Before i = (k : ℕ) → k < i → (d : Operation) → Fit (length ops) (get_or ops k d)

  on_by : (o : Operation) (os : List Operation) (i : ℕ) (done : List Step) → i < length ops → map plain done ≡ take i ops → Before i → ((d : Operation) → get_or ops i d ≡ o) → drop (i + 1) ops ≡ os
      → ((j : ℕ) (done' : List Step) → j ≤ length ops → map plain done' ≡ take j ops → Before j → drop j ops ≡ os → Law (vet_on (length ops) done' os))
      → (r : Result Step Fault) → vet_record (length ops) o ≡ r → Told (length ops) o r → Law (vet_on (length ops) done (o ∷ os))
  on_by o os i done lt same below at rest ih (Ok s) e t =
      subst (λ r. Law r) (sym (on_more (length ops) done o os s e))
      (ih (i + 1) (done ++ s ∷ []) (omega arith)
      (map_push plain done s ∙ ap (λ xs. xs ++ plain s ∷ []) same ∙ ap (λ x. take i ops ++ x ∷ []) (t.0 ∙ sym (at o)) ∙ sym (take_more ops i o lt))
      (below_more _ i below (λ d. subst (λ x. Fit (length ops) x) (sym (at d)) t.1))
      rest)
  on_by o os i done lt same below at rest ih (Err f) e t =
      subst (λ r. Law r) (sym (on_stop (length ops) done o os f e))
      (inr (inr (
        some,
        few,
        record {
          at = i;
          here = lt;
          earlier = λ k d h. below k h d;
          fails = λ d. subst (λ x. Fails (length ops) x f) (sym (at d)) t;
        },
      )))

  on_law : (rest : List Operation) (i : ℕ) (done : List Step) → i ≤ length ops → map plain done ≡ take i ops → Before i → drop i ops ≡ rest → Law (vet_on (length ops) done rest)
  on_law [] i done le same below e =
      let long = length-drop i ops in
      let none = ap length e in
      let all : length ops ≤ i = omega arith in
      (record { some = some; few = few; each = λ k d h. below k (omega arith) d }, same ∙ take_all i ops all)
  on_law (o ∷ os) i done le same below e =
      let long = length-drop i ops in
      let some_left = ap length e in
      let lt : i < length ops = omega arith in
      let split : (d : Operation) → get_or ops i d ∷ drop (i + 1) ops ≡ o ∷ os = λ d. sym (drop_more ops i d lt) ∙ e in
      on_by o os i done lt same below (λ d. let s = split d in cc) (let s = split o in cc) (λ j done'. on_law os j done') (vet_record (length ops) o) refl (told (length ops) o)

-- where the number of records is right, vetting goes record by record
pub vetting_on : (ops : List Operation) → eqb (length ops) 0 ≡ false → length ops ≤ 512 → vetting ops ≡ vet_on (length ops) [] ops
vetting_on ops some few = rw (some, le-ltb 512 (length ops) few)

-- the law of vetting
pub vetting_law : (ops : List Operation) → Vetted ops (vetting ops)
vetting_law ops =
    ⊎_elim
    (λ (none : eqb (length ops) 0 ≡ true). subst (λ r. Vetted ops r) (sym (cond-true _ (Err (whole_fault NoOperation)) _ none)) (inl (eqb-true _ _ none, refl)))
    (λ (some : eqb (length ops) 0 ≡ false).
    let any : 0 < length ops = omega (arith, eqb-false _ _ some) in
    subst (λ r. Vetted ops r) (sym (cond-false _ (Err (whole_fault NoOperation)) _ some))
    (⊎_elim
    (λ (many : ltb 512 (length ops) ≡ true). subst (λ r. Vetted ops r) (sym (cond-true _ (Err (whole_fault NoRoom)) _ many)) (inr (inl (ltb-true _ _ many, refl))))
    (λ (few : ltb 512 (length ops) ≡ false).
    subst (λ r. Vetted ops r) (sym (cond-false _ (Err (whole_fault NoRoom)) _ few))
    (on_law ops any (ltb-false _ _ few) ops 0 [] (omega arith) refl (λ k h d. absurd (omega arith)) refl))
    (cases_Bool (ltb 512 (length ops)))))
    (cases_Bool (eqb (length ops) 0))

-- what is the answer of vetting keeps the law
pub vetted : (ops : List Operation) (r : Result (List Step) Fault) → r ≡ vetting ops → Vetted ops r
vetted ops r e = subst (λ x. Vetted ops x) (sym e) (vetting_law ops)
