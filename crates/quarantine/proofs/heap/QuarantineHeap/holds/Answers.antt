use Rattle.std.proofs.Common.{◌≡◌, ℕ, true, false, ◌==◌, List, [], ◌∷◌, length, refl, sym, ◌∙◌, arith}
use Rattle.std.proofs.lemmas.Bool.Decides.{nat_tests}
use Rattle.quarantine.specs.Lists.{is_in, list_any_is_in}
use Rattle.quarantine.proofs.heap.QuarantineHeap.holds.Goals as goal
use Rattle.quarantine.proofs.heap.QuarantineHeap.holds.Goals.{else-not-is_empty-via-then-not-is_empty+else-contains, else-not-is_empty-via-else-not-is_empty}

-- where nobody waits
in_none : (x : ℕ) (w : List ℕ) → (length w == 0) ≡ true → is_in x w ≡ false
in_none x [] e = refl
in_none x (y ∷ w) e = grind (arith, nat_tests)

pub returns-then-contains : goal.returns-then-contains
returns-then-contains g c =
    let w = c.args.self.now.waiting in
    let waits : is_in c.args.start w ≡ true = sym (list_any_is_in c.args.start w) ∙ sym c.contains.ensures ∙ c.if-contains.true in
    rw waits

pub returns : goal.returns
returns g c =
    let w = c.args.self.now.waiting in
    let free : is_in c.args.start w ≡ false = elim c.else-not-is_empty.branch [
      | else-not-is_empty-via-then-not-is_empty+else-contains b ↦ sym (list_any_is_in c.args.start w) ∙ sym b.contains.ensures ∙ b.if-contains.false
      | else-not-is_empty-via-else-not-is_empty b ↦ in_none c.args.start w (sym c.is_empty.ensures ∙ b.if-not-is_empty.false)
    ] in
    rw free c.holds.ensures
