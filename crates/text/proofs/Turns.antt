-- The reading line by line, as the loop goes: a line more, a refusal, the end. Assumes nothing.
use Rattle.std.proofs.Common.{◌≡◌, ℕ, ◌+◌, ◌<◌, ◌≤◌, min, cond, leb, ltb, List, [], ◌∷◌, ◌++◌, length, take, drop, set, Ok, Err, sym, ap, ◌∙◌, subst, inl, inr, ⊎_elim, arith}
use Rattle.std.specs.List.{between}
use Rattle.std.proofs.lemmas.List.{length-drop, at_drop_all, length-take-le, take-append-drop, take_more_set}
use Rattle.std.proofs.lemmas.Bool.{ne_eqb, le-ltb, le-leb, lt-leb, cases_lt}
use Rattle.faults.specs.declared.cause.Cause.{Cause}
use Rattle.faults.specs.declared.cause.Cause.TheVariants.{LineEnd, ValueCount, NoRoom}
use Rattle.faults.specs.declared.fault.Fault.{Fault}
use Rattle.faults.specs.Faults.{fault_at}
use Rattle.operations.specs.declared.operation.Operation.{Operation}
use Rattle.form.specs.declared.order.Order.{Order}
use Rattle.text.specs.Lines.{Passes, Fails}
use Rattle.form.specs.Pieces.{pieces}
use Rattle.form.specs.Reading.{with_five, operation, heading, entry, onward, start, reading, finished, stopped, Reading, answer, list_after}
use Rattle.form.proofs.Steps.{pieces_some, onward_more, onward_stop, onward_last}
use Rattle.text.proofs.Cutting.{ended_split, endless_split}

module _ (o : Order) (room : ℕ) (done : List Operation) where
  pub onward_none : (text : List ℕ) (from : ℕ) → length text ≤ from → onward o room done (pieces 10 (drop from text)) ≡ finished done
  onward_none text from h = at_drop_all (λ bs. onward o room done (pieces 10 bs)) text from h

  -- a line that is refused
  pub onward_fails : (text : List ℕ) (from : ℕ) (c : Cause) → from < length text → Fails (entry o room (length done)) text from c → onward o room done (pieces 10 (drop from text)) ≡ stopped done c (length done + 2)
  onward_fails text from c h f =
      ⊎_elim
      (λ x. ap (onward o room done) (ended_split text from x.0 x.1) ∙ onward_stop o room done (between from x.0 text) (pieces 10 (drop (x.0 + 1) text)) c (pieces_some 10 (drop (x.0 + 1) text)) x.2)
      (λ x.
      let long = length-drop from text in
      ap (onward o room done) (endless_split text from x.0) ∙ onward_last o room done (drop from text) (omega arith) ∙ ap (λ y. stopped done y (length done + 2)) (sym x.1))
      f

-- the caller's list: the first k records are done, and the others are as they were before
kept : (list before : List Operation) (k : ℕ) → k ≤ length list → drop k list ≡ drop k before → list ≡ take k list ++ drop (length (take k list)) before
kept list before k h e = let n = length-take-le k list h in let j = take-append-drop k list in cc

pub refused_at : (r : Reading) (list before : List Operation) (k : ℕ) (c : Cause) (f : Fault) → k ≤ length list → drop k list ≡ drop k before → r ≡ stopped (take k list) c (length (take k list) + 2) → f ≡ fault_at c (k + 2) → (Err f ≡ answer r) × (list ≡ list_after r before)
refused_at r list before k c f h e is f-is =
    let n = length-take-le k list h in
    (ap Err (f-is ∙ ap (λ j. fault_at c (j + 2)) (sym n)) ∙ sym (ap answer is), kept list before k h e ∙ sym (ap (λ x. list_after x before) is))

pub read_all : (r : Reading) (list before : List Operation) (k : ℕ) → k ≤ length list → drop k list ≡ drop k before → r ≡ finished (take k list) → (Ok k ≡ answer r) × (list ≡ list_after r before)
read_all r list before k h e is =
    let n = length-take-le k list h in
    (ap Ok (sym n) ∙ sym (ap answer is), kept list before k h e ∙ sym (ap (λ x. list_after x before) is))

-- the loop at a place of the text, after k records: how it answers there
module _ (o : Order) (room : ℕ) (text : List ℕ) (list before : List Operation) (at k : ℕ) (whole : Reading) (low : k ≤ length list) (same : drop k list ≡ drop k before) (on : onward o room (take k list) (pieces 10 (drop at text)) ≡ whole) where
  pub ends : length text ≤ at → (Ok k ≡ answer whole) × (list ≡ list_after whole before)
  ends h = read_all whole list before k low same (sym on ∙ onward_none o room (take k list) text at h)

  pub stops : (c : Cause) (f : Fault) → at < length text → Fails (entry o room k) text at c → f ≡ fault_at c (k + 2) → (Err f ≡ answer whole) × (list ≡ list_after whole before)
  stops c f h fails f-is =
      let n = length-take-le k list low in
      refused_at whole list before k c f low same
      (sym on ∙ onward_fails o room (take k list) text at c h (subst (λ j. Fails (entry o room j) text at c) (sym n) fails))
      f-is

-- below the list's length, only the most operations of a program count
module _ (o : Order) (room k : ℕ) (below : k < room) where
  as_full : leb (min 512 512) k ≡ leb (min 512 room) k
  as_full =
      ⊎_elim
      (λ (h : k < 512). lt-leb (min 512 512) k (omega arith) ∙ sym (lt-leb (min 512 room) k (omega arith)))
      (λ (h : 512 ≤ k). le-leb (min 512 512) k (omega arith) ∙ sym (le-leb (min 512 room) k (omega arith)))
      (cases_lt k 512)

  as_entry : (l : List ℕ) → entry o 512 k l ≡ entry o room k l
  as_entry l = ap (λ t. cond (ltb 80 (length l)) (Err LineEnd) (cond t (Err NoRoom) (with_five ValueCount (operation o (k + 2)) l))) as_full

  pub passes_below : (text : List ℕ) (from : ℕ) (op : Operation) (next : ℕ) → Passes (entry o 512 k) text from op next → Passes (entry o room k) text from op next
  passes_below text from op next p = record { end = p.end; line = p.line; goes = p.goes; is = sym (as_entry (between from p.end text)) ∙ p.is }

  pub fails_below : (text : List ℕ) (from : ℕ) (c : Cause) → Fails (entry o 512 k) text from c → Fails (entry o room k) text from c
  fails_below text from c f = ⊎_elim (λ x. inl (x.0, x.1, sym (as_entry (between from x.0 text)) ∙ x.2)) inr f

-- one line more
pub turn : (o : Order) (room : ℕ) (text : List ℕ) (list : List Operation) (at k : ℕ) (op : Operation) (next : ℕ) → k < length list → Passes (entry o room k) text at op next
    → onward o room (take (k + 1) (set list k op)) (pieces 10 (drop next text)) ≡ onward o room (take k list) (pieces 10 (drop at text))
turn o room text list at k op next lt p =
    let n = length-take-le k list (omega arith) in
    ap (λ d. onward o room d (pieces 10 (drop next text))) (take_more_set list k op lt)
    ∙ ap (λ j. onward o room (take k list ++ op ∷ []) (pieces 10 (drop j text))) p.goes
    ∙ sym (onward_more o room (take k list) (between at p.end text) (pieces 10 (drop (p.end + 1) text)) op (pieces_some 10 (drop (p.end + 1) text)) (ap (λ j. entry o room j (between at p.end text)) n ∙ p.is))
    ∙ sym (ap (onward o room (take k list)) (ended_split text at p.end p.line))

module _ (room : ℕ) (text : List ℕ) (some : 0 < length text) (few : length text ≤ 60000) where
  reading_in : reading text room ≡ start room (pieces 10 text)
  reading_in = rw (ne_eqb (length text) 0 (λ z. omega arith), le-ltb 60000 (length text) few)

  start_more : (l : List ℕ) (ls : List (List ℕ)) (o : Order) → 1 ≤ length ls → heading l ≡ Ok o → start room (l ∷ ls) ≡ onward o room [] ls
  start_more l ls o h e = rw (ne_eqb (length ls) 0 (λ z. omega arith), e)

  start_stop : (l : List ℕ) (ls : List (List ℕ)) (c : Cause) → 1 ≤ length ls → heading l ≡ Err c → start room (l ∷ ls) ≡ stopped [] c 1
  start_stop l ls c h e = rw (ne_eqb (length ls) 0 (λ z. omega arith), e)

  -- the first line names the columns
  pub reading_on : (o : Order) (next : ℕ) → Passes heading text 0 o next → reading text room ≡ onward o room [] (pieces 10 (drop next text))
  reading_on o next p =
      reading_in
      ∙ ap (start room) (ended_split text 0 p.end p.line)
      ∙ start_more (between 0 p.end text) (pieces 10 (drop (p.end + 1) text)) o (pieces_some 10 (drop (p.end + 1) text)) p.is
      ∙ ap (λ j. onward o room [] (pieces 10 (drop j text))) (sym p.goes)

  -- the first line is refused
  pub reading_fails : (c : Cause) → Fails heading text 0 c → reading text room ≡ stopped [] c 1
  reading_fails c f =
      reading_in
      ∙ ⊎_elim
      (λ x. ap (start room) (ended_split text 0 x.0 x.1) ∙ start_stop (between 0 x.0 text) (pieces 10 (drop (x.0 + 1) text)) c (pieces_some 10 (drop (x.0 + 1) text)) x.2)
      (λ x. ap (start room) (endless_split text 0 x.0) ∙ ap (λ y. stopped [] y 1) (sym x.1))
      f

-- a reading that is refused before any record leaves the list
pub refused_first : (r : Reading) (list : List Operation) (c : Cause) (f : Fault) (n : ℕ) → r ≡ stopped [] c n → f ≡ fault_at c n → (Err f ≡ answer r) × (list ≡ list_after r list)
refused_first r list c f n is f-is = (ap Err f-is ∙ sym (ap answer is), sym (ap (λ x. list_after x list) is))
