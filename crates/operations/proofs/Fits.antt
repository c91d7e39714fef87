-- One record: what the check of its code and fields, and that of its target, say of it. Assumes nothing.
use Rattle.std.proofs.Common.{◌≡◌, ℕ, ◌<◌, Bool, true, false, cond, ◌⊎◌, ℤ, pos, negsuc, Some, None, Ok, Err, Option, Result, sym, refl, ap, ◌∙◌, subst, inl, inr, arith}
use Rattle.std.proofs.lemmas.Bool.{and_parts, and_from, both_ways, cond-true, cond-false}
use Rattle.std.proofs.lemmas.Option.{cond_some}
use Rattle.faults.specs.declared.cause.Cause.TheVariants.{BadRecord, BadTarget}
use Rattle.faults.specs.declared.fault.Fault.{Fault}
use Rattle.faults.specs.Faults.{fault_at}
use Rattle.operations.specs.declared.code.Code.{Code}
use Rattle.operations.specs.declared.operation.Operation.{Operation}
use Rattle.operations.specs.declared.step.Step.{Step}
use Rattle.operations.specs.declared.uses.Uses.{Uses}
use Rattle.operations.specs.Programs.{Field, Number, Orderly, Within, Fit}
use Rattle.operations.specs.Records.{field_fits, number_fits, is_zero, record_fits, step, step_if, step_of, plain}
use Rattle.operations.specs.Sound.{leads, inside, target_fits}
use Rattle.operations.specs.Table.{row, number_of, code_at}
use Rattle.operations.specs.Vetting.{vet_step, vet_record}
use Rattle.operations.proofs.Codes.{number_back, number_found}

field_told : (u : Bool) (r : ℕ) → field_fits u r ≡ true → Field u r
field_told true r h = grind arith
field_told false r h = grind arith

field_tells : (u : Bool) (r : ℕ) → Field u r → field_fits u r ≡ true
field_tells true r h = grind arith
field_tells false r h = grind arith

number_told : (u : Bool) (n : ℤ) → number_fits u n ≡ true → Number u n
number_told true n h = tt
number_told false (pos v) h = grind arith
number_told false (negsuc v) h = cc

number_tells : (u : Bool) (n : ℤ) → Number u n → number_fits u n ≡ true
number_tells true n h = refl
number_tells false n h = ap is_zero h

fields_tell : (u : Uses) (d a b : ℕ) (n : ℤ) → Field u.d d → Field u.a a → Field u.b b → Number u.n n → record_fits u d a b n ≡ true
fields_tell u d a b n p q r s =
    and_from _ _ (field_tells u.d d p) (and_from _ _ (field_tells u.a a q) (and_from _ _ (field_tells u.b b r) (number_tells u.n n s)))

orderly : (o : Operation) (c : Code) → o.code ≡ number_of c → record_fits (row c).uses o.d o.a o.b o.n ≡ true → Orderly o c
orderly o c is h =
    let first = and_parts (field_fits (row c).uses.d o.d) _ h in
    let second = and_parts (field_fits (row c).uses.a o.a) _ first.1 in
    let third = and_parts (field_fits (row c).uses.b o.b) _ second.1 in
    record { code = is; d = field_told _ _ first.0; a = field_told _ _ second.0; b = field_told _ _ third.0; n = number_told _ _ third.1 }

inside_told : (count : ℕ) (n : ℤ) → inside n count ≡ true → (v : ℕ) × (n ≡ pos v) × (v < count)
inside_told count (pos v) e = (v, refl, grind arith)
inside_told count (negsuc v) e = cc

within_told : (count : ℕ) (o : Operation) (c : Code) → target_fits count c o.n ≡ true → Within count o c
within_told count o c h to = inside_told count o.n (grind arith)

within_tells : (count : ℕ) (o : Operation) (c : Code) → Within count o c → (t : Bool) → leads c ≡ t → target_fits count c o.n ≡ true
within_tells count o c h true e = let v = h e in grind arith
within_tells count o c h false e = grind arith

-- a step that a record gave: its fields fit, and it is the record again
pub record Gave (o : Operation) (s : Step) : Type 0 where
  pub fits : record_fits (row s.code).uses s.d s.a s.b s.n ≡ true
  pub back : plain s ≡ o

-- a record whose number is an operation's is its step again
back_of : (o : Operation) (c : Code) → code_at o.code ≡ Some c → plain (step c o) ≡ o
back_of o c is = ap (λ k. record { code = k; d = o.d; a = o.a; b = o.b; n = o.n; line = o.line }) (sym (number_found o.code c is))

gave_by : (o : Operation) (s : Step) (m : Option Code) → code_at o.code ≡ m → step_if m o ≡ Some s → Gave o s
gave_by o s None is h = cc
gave_by o s (Some c) is h =
    let told = cond_some _ _ _ h in
    subst (λ x. Gave o x) told.1 (record { fits = told.0; back = back_of o c is })

pub gave : (o : Operation) (s : Step) → step_of o ≡ Some s → Gave o s
gave o s h = gave_by o s (code_at o.code) refl h

-- a record in order gives a step
pub orderly_gives : (o : Operation) (c : Code) → Orderly o c → step_of o ≡ Some (step c o)
orderly_gives o c h =
    ap (λ k. step_if k o) (ap code_at h.code ∙ number_back c)
    ∙ cond-true _ (Some (step c o)) None (fields_tell (row c).uses o.d o.a o.b o.n h.d h.a h.b h.n)

-- the check that a record fails
abbrev pub Fails : ℕ → Operation → Fault → Type 0
Fails count o f =
    ((((c : Code) → Orderly o c → ⊥) × (f ≡ fault_at BadRecord o.line))
    ⊎ ((c : Code) × Orderly o c × (Within count o c → ⊥) × (f ≡ fault_at BadTarget o.line)))

-- what vetting says of one record
abbrev pub Told : ℕ → Operation → Result Step Fault → Type 0
Told count o (Ok s) = (plain s ≡ o) × Fit count o
Told count o (Err f) = Fails count o f

told_refused : (count : ℕ) (o : Operation) → step_of o ≡ None → Told count o (vet_record count o)
told_refused count o none =
    subst (λ m. Told count o (vet_step count o.line m)) (sym none) (inl ((λ c is. let found = orderly_gives o c is in cc), refl))

told_target : (count : ℕ) (o : Operation) (c : Code) → plain (step c o) ≡ o → Orderly o c → (t : Bool) → target_fits count c o.n ≡ t → Told count o (cond t (Ok (step c o)) (Err (fault_at BadTarget o.line)))
told_target count o c back is true to = (back, (c, is, within_told count o c to))
told_target count o c back is false to =
    inr (c, is, (λ w. both_ways _ to (within_tells count o c w (leads c) refl)), refl)

told_by : (count : ℕ) (o : Operation) (c : Code) → code_at o.code ≡ Some c → (t : Bool) → record_fits (row c).uses o.d o.a o.b o.n ≡ t → Told count o (vet_record count o)
told_by count o c is true fits =
    let found : step_of o ≡ Some (step c o) = ap (λ m. step_if m o) is ∙ cond-true _ (Some (step c o)) None fits in
    subst (λ m. Told count o (vet_step count o.line m)) (sym found)
    (told_target count o c (back_of o c is) (orderly o c (number_found o.code c is) fits) (target_fits count c o.n) refl)
told_by count o c is false fits =
    told_refused count o (ap (λ m. step_if m o) is ∙ cond-false _ (Some (step c o)) None fits)

told_at : (count : ℕ) (o : Operation) (m : Option Code) → code_at o.code ≡ m → Told count o (vet_record count o)
told_at count o None is = told_refused count o (ap (λ m. step_if m o) is)
told_at count o (Some c) is = told_by count o c is (record_fits (row c).uses o.d o.a o.b o.n) refl

pub told : (count : ℕ) (o : Operation) → Told count o (vet_record count o)
told count o = told_at count o (code_at o.code) refl
