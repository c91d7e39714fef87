-- What reading promises in the subject's words: the form, and the first check that fails. Assumes nothing.
use Rattle.std.specs.Prelude.{◌≡◌, ℕ, ◌≤◌, List, ◌++◌, length, take, drop, Ok, Err, Result}
use Rattle.faults.specs.declared.fault.Fault.{Fault}
use Rattle.operations.specs.declared.operation.Operation.{Operation}
use Rattle.form.specs.Checks.{Refused}
use Rattle.form.specs.Form.{Spells}

-- of a text that is read into the list `before`, with the answer r and the list `after`
pub record Formed (text : List ℕ) (before after : List Operation) (r : Result ℕ Fault) : Type 0 where
  -- Ok n: the text spells the n operations that now stand in front
  pub told : (n : ℕ) → r ≡ Ok n → Spells text (take n after)
  -- a text that spells operations for which there is room is read, and the rest of the list is as it was
  pub known : (ops : List Operation) → Spells text ops → length ops ≤ length before → (r ≡ Ok (length ops)) × (after ≡ ops ++ drop (length ops) before)
  -- a text spells one list of operations at most
  pub one : (ops others : List Operation) → Spells text ops → Spells text others → ops ≡ others
  -- a refusal is that of the first check that fails, with its line
  pub first : (f : Fault) → r ≡ Err f → Refused text (length before) f
