-- From the equations of reading to its promise. Assumes nothing.
use Rattle.std.proofs.Common.{◌≡◌, ℕ, List, length, take, drop, Some, None, Ok, Err, Option, Result, sym, refl, ap, ◌∙◌, subst, arith}
use Rattle.std.proofs.lemmas.List.{take_at}
use Rattle.faults.specs.declared.fault.Fault.{Fault}
use Rattle.operations.specs.declared.operation.Operation.{Operation}
use Rattle.form.specs.Form.{Spells}
use Rattle.form.specs.Promise.{Formed}
use Rattle.form.specs.Reading.{finished, reading, answer_of, answer, list_after}
use Rattle.form.proofs.Refusing.{refused}
use Rattle.form.proofs.Spelling.{spelled, reads, one_spelling}

answered_ok : (done : List Operation) (o : Option Fault) (n : ℕ) → answer_of done o ≡ Ok n → (o ≡ None) × (length done ≡ n)
answered_ok done None n h = (refl, cc)
answered_ok done (Some f) n h = let z : ◌≡◌ {A = ℕ} 0 1 = cc in absurd (omega arith)

answered_err : (done : List Operation) (o : Option Fault) (f : Fault) → answer_of done o ≡ Err f → o ≡ Some f
answered_err done None f h = let z : ◌≡◌ {A = ℕ} 0 1 = cc in absurd (omega arith)
answered_err done (Some g) f h = let e : g ≡ f = cc in ap Some e

pub formed : (text : List ℕ) (before after : List Operation) (r : Result ℕ Fault) → r ≡ answer (reading text (length before)) → after ≡ list_after (reading text (length before)) before → Formed text before after r
formed text before after r value is =
    let whole = reading text (length before) in
    record {
      told = λ n h.
          let p = answered_ok whole.done whole.found n (sym value ∙ h) in
          let ends : whole ≡ finished whole.done = ap (λ o. record { done = whole.done; found = o }) p.0 in
          let front : take n after ≡ whole.done = ap (take n) is ∙ take_at whole.done (drop (length whole.done) before) n p.1 in
          subst (λ ops. Spells text ops) (sym front) (spelled text (length before) whole.done ends).0;
      known = λ ops s fits.
          let e = reads text (length before) ops s fits in
          (value ∙ ap answer e, is ∙ ap (λ x. list_after x before) e);
      one = one_spelling text;
      first = λ f h. refused text (length before) f (answered_err whole.done whole.found f (sym value ∙ h));
    }
