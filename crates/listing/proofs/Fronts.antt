-- What is read without a refusal: the records stand in front of the list. Assumes nothing.
use Rattle.std.proofs.Common.{◌≡◌, ℕ, ◌-◌, ◌≤◌, List, length, take, drop, Some, None, Ok, Option, sym, refl, ap, ◌∙◌, arith}
use Rattle.std.proofs.lemmas.List.{length-append, take_at}
use Rattle.faults.specs.declared.fault.Fault.{Fault}
use Rattle.operations.specs.declared.operation.Operation.{Operation}
use Rattle.operations.specs.Vetting.{vetting}
use Rattle.form.specs.Reading.{Reading, answer_of, answer, list_after}
use Rattle.listing.specs.Modules.{vet_read}

-- a number for an answer says that nothing was refused
counted : (done : List Operation) (found : Option Fault) (n : ℕ) → Ok n ≡ answer_of done found → (length done ≡ n) × (vet_read done found ≡ vetting done)
counted done None n e = (grind arith, refl)
counted done (Some f) n e = absurd (grind arith)

pub reads_within : (r : Reading) (before after : List Operation) (n : ℕ) → Ok n ≡ answer r → after ≡ list_after r before → n ≤ length after
reads_within r before after n e is =
    let long = ap length is ∙ length-append r.done (drop (length r.done) before) in
    let all = (counted r.done r.found n e).0 in
    omega arith

-- the part from 0 on, as a slice of the list has it
pub reads_front : (r : Reading) (before after : List Operation) (n : ℕ) → Ok n ≡ answer r → after ≡ list_after r before → vetting (take (n - 0) after) ≡ vet_read r.done r.found
reads_front r before after n e is =
    let all = counted r.done r.found n e in
    ap (λ l. vetting (take (n - 0) l)) is ∙ ap vetting (take_at r.done (drop (length r.done) before) (n - 0) (omega (arith, all.0))) ∙ sym all.1
