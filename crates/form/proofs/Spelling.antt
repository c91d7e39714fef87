-- The whole text: reading succeeds exactly on texts that spell operations, and yields those. Assumes nothing.
use Rattle.std.proofs.Common.{◌≡◌, ℕ, ◌+◌, ◌<◌, ◌≤◌, min, true, false, ◌||◌, eqb, ltb, List, [], ◌∷◌, ◌++◌, map, length, Ok, Err, Result, sym, refl, ap, ◌∙◌, subst, ⊎_elim, append_assoc, append-nil, arith}
use Rattle.std.specs.List.{AllByRecursion}
use Rattle.std.proofs.lemmas.List.{length-append, length_push}
use Rattle.std.proofs.lemmas.Bool.{cond-true, cond-false, cases_Bool, ne_eqb, ltb-false, le-ltb, or_parts, or_from}
use Rattle.faults.specs.declared.cause.Cause.{Cause}
use Rattle.faults.specs.declared.cause.Cause.TheVariants.{LineEnd, TextSize}
use Rattle.operations.specs.declared.operation.Operation.{Operation}
use Rattle.form.specs.declared.order.Order.{Order}
use Rattle.form.specs.Form.{parted, ended, Lacks, Rows, Short, Spells}
use Rattle.form.specs.Pieces.{pieces}
use Rattle.form.specs.Reading.{heading, entry, onward, headed, start, reading, finished, stopped, Reading}
use Rattle.form.proofs.Lawful.{entry_told, entry_tells, heading_told, heading_tells}
use Rattle.form.proofs.Parting.{glued, glued_pieces, pieces_lack, parted_lacks, parted_pieces, cut_ended}
use Rattle.form.proofs.Steps.{onward_more, onward_stop, onward_last}

started : (room : ℕ) (l : List ℕ) (ls : List (List ℕ)) (o : Order) → 1 ≤ length ls → heading l ≡ Ok o → start room (l ∷ ls) ≡ onward o room [] ls
started room l ls o h e = rw (ne_eqb (length ls) 0 (λ z. omega arith), e)

-- a reading that was stopped did not finish
never : (done ops : List Operation) (c : Cause) (line : ℕ) → stopped done c line ≡ finished ops → ⊥
never done ops c line h = let found = ap (λ (r : Reading). r.found) h in let z : ◌≡◌ {A = ℕ} 0 1 = cc in omega arith

-- what lines read as operations are
pub record Told (o : Order) (room : ℕ) (done : List Operation) (ls : List (List ℕ)) (ops : List Operation) : Type 0 where
  pub rows : List (List (List ℕ))
  pub more : List Operation
  pub all : ops ≡ done ++ more
  pub text_is : glued 10 ls ≡ ended (map parted rows)
  pub says : Rows o (length done + 2) rows more
  pub short : AllByRecursion Short (map parted rows)
  pub few : length ops ≤ min 512 room

told_none : (o : Order) (room : ℕ) (done ops : List Operation) (ls : List (List ℕ)) → length done ≤ min 512 room → glued 10 ls ≡ [] → finished done ≡ finished ops → Told o room done ls ops
told_none o room done ops ls few none h =
    let same : done ≡ ops = ap (λ (r : Reading). r.done) h in
    record { rows = []; more = []; all = sym same ∙ sym (append-nil done); text_is = none; says = tt; short = tt; few = subst (λ x. length x ≤ min 512 room) same few }

-- one line more in front
told_more : (o : Order) (room : ℕ) (done ops : List Operation) (l : List ℕ) (ls : List (List ℕ)) (op : Operation)
    → Lacks 10 l → 1 ≤ length ls → entry o room (length done) l ≡ Ok op → Told o room (done ++ op ∷ []) ls ops → Told o room done (l ∷ ls) ops
told_more o room done ops l [] op lacks some e t = absurd (omega arith)
told_more o room done ops l (m ∷ ls) op lacks some e t =
    let line = entry_told o room (length done) l op lacks e in
    let next : length (done ++ op ∷ []) + 2 ≡ length done + 2 + 1 = omega (arith, length_push done op) in
    let same = parted_pieces l in
    record {
      rows = pieces 44 l ∷ t.rows;
      more = op ∷ t.more;
      all = t.all ∙ append_assoc done (op ∷ []) t.more;
      text_is = ap (λ x. l ++ 10 ∷ x) t.text_is ∙ ap (λ x. x ++ 10 ∷ ended (map parted t.rows)) (sym same);
      says = (line.2, subst (λ k. Rows o k t.rows t.more) next t.says);
      short = (subst Short (sym same) line.0, t.short);
      few = t.few;
    }

told_entry : (o : Order) (room : ℕ) (done ops : List Operation) (l : List ℕ) (ls : List (List ℕ)) → Lacks 10 l → 1 ≤ length ls
    → ((op : Operation) → length (done ++ op ∷ []) ≤ min 512 room → onward o room (done ++ op ∷ []) ls ≡ finished ops → Told o room (done ++ op ∷ []) ls ops)
    → (r : Result Operation Cause) → entry o room (length done) l ≡ r → onward o room done (l ∷ ls) ≡ finished ops → Told o room done (l ∷ ls) ops
told_entry o room done ops l ls lacks some ih (Ok op) e h =
    let line = entry_told o room (length done) l op lacks e in
    told_more o room done ops l ls op lacks some e (ih op (omega (arith, length_push done op, line.1)) (sym (onward_more o room done l ls op some e) ∙ h))
told_entry o room done ops l ls lacks some ih (Err c) e h = absurd (never done ops c (length done + 2) (sym (onward_stop o room done l ls c some e) ∙ h))

told_last : (o : Order) (room : ℕ) (done ops : List Operation) (l : List ℕ) → length done ≤ min 512 room → onward o room done (l ∷ []) ≡ finished ops → Told o room done (l ∷ []) ops
told_last o room done ops [] few h = told_none o room done ops ([] ∷ []) few refl h
told_last o room done ops (b ∷ l) few h = absurd (never done ops LineEnd (length done + 2) (sym (onward_last o room done (b ∷ l) (omega arith)) ∙ h))

-- lines that are read to the end
told : (o : Order) (room : ℕ) (ls : List (List ℕ)) (done ops : List Operation) → AllByRecursion (Lacks 10) ls → length done ≤ min 512 room → onward o room done ls ≡ finished ops → Told o room done ls ops
told o room [] done ops lacks few h = told_none o room done ops [] few refl h
told o room (l ∷ []) done ops lacks few h = told_last o room done ops l few h
told o room (l ∷ m ∷ ls) done ops lacks few h =
    told_entry o room done ops l (m ∷ ls) lacks.0 (omega arith) (λ op few'. told o room (m ∷ ls) (done ++ op ∷ []) ops lacks.1 few') (entry o room (length done) l) refl h

spelled_by : (text : List ℕ) (room : ℕ) (ops : List Operation) (l : List ℕ) (ls : List (List ℕ)) → length text ≤ 60000 → text ≡ glued 10 (l ∷ ls) → AllByRecursion (Lacks 10) (l ∷ ls) → 1 ≤ length ls
    → (r : Result Order Cause) → heading l ≡ r → headed room ls r ≡ finished ops → Spells text ops × (length ops ≤ min 512 room)
spelled_by text room ops l ls size is lacks some (Err c) e h = absurd (never [] ops c 1 h)
spelled_by text room ops l [] size is lacks some (Ok o) e h = absurd (omega arith)
spelled_by text room ops l (m ∷ ls) size is lacks some (Ok o) e h =
    let head = heading_told l o lacks.0 e in
    let t = told o room (m ∷ ls) [] ops lacks.1 (omega arith) h in
    let same = parted_pieces l in (
      record {
        order = o;
        names = pieces 44 l;
        rows = t.rows;
        text_is = is ∙ ap (λ x. l ++ 10 ∷ x) t.text_is ∙ ap (λ x. x ++ 10 ∷ ended (map parted t.rows)) (sym same);
        heads = head.1;
        says = subst (λ x. Rows o 2 t.rows x) (sym t.all) t.says;
        short = (subst Short (sym same) head.0, t.short);
        size = size;
        few = omega (arith, t.few);
      },
      t.few,
    )

spelled_start : (text : List ℕ) (room : ℕ) (ops : List Operation) → length text ≤ 60000 → (ps : List (List ℕ)) → pieces 10 text ≡ ps → start room ps ≡ finished ops → Spells text ops × (length ops ≤ min 512 room)
spelled_start text room ops size [] e h = absurd (never [] ops LineEnd 1 h)
spelled_start text room ops size (l ∷ []) e h = absurd (never [] ops LineEnd 1 h)
spelled_start text room ops size (l ∷ m ∷ ls) e h =
    spelled_by text room ops l (m ∷ ls) size (sym (glued_pieces 10 text) ∙ ap (glued 10) e) (subst (λ ps. AllByRecursion (Lacks 10) ps) e (pieces_lack 10 text)) (omega arith) (heading l) refl
    (sym (cond-false _ (stopped [] LineEnd 1) (headed room (m ∷ ls) (heading l)) (ne_eqb (length (m ∷ ls)) 0 (λ z. omega arith))) ∙ h)

-- what is read to its end is spelled by the text
pub spelled : (text : List ℕ) (room : ℕ) (ops : List Operation) → reading text room ≡ finished ops → Spells text ops × (length ops ≤ min 512 room)
spelled text room ops h =
    ⊎_elim
    (λ (bad : (eqb (length text) 0 || ltb 60000 (length text)) ≡ true). absurd (never [] ops TextSize 0 (sym (cond-true _ (stopped [] TextSize 0) (start room (pieces 10 text)) bad) ∙ h)))
    (λ (fine : (eqb (length text) 0 || ltb 60000 (length text)) ≡ false).
    let size = ltb-false 60000 (length text) (or_parts (eqb (length text) 0) (ltb 60000 (length text)) fine).1 in
    spelled_start text room ops size (pieces 10 text) refl (sym (cond-false _ (stopped [] TextSize 0) (start room (pieces 10 text)) fine) ∙ h))
    (cases_Bool (eqb (length text) 0 || ltb 60000 (length text)))

read_rows : (o : Order) (room : ℕ) (rows : List (List (List ℕ))) (more done : List Operation)
    → Rows o (length done + 2) rows more → AllByRecursion Short (map parted rows) → length done + length more ≤ min 512 room → onward o room done (map parted rows ++ [] ∷ []) ≡ finished (done ++ more)
read_rows o room [] [] done says short few = ap finished (sym (append-nil done))
read_rows o room [] (op ∷ more) done says short few = absurd says
read_rows o room (vs ∷ rows) [] done says short few = absurd says
read_rows o room (vs ∷ rows) (op ∷ more) done says short few =
    let next : length done + 2 + 1 ≡ length (done ++ op ∷ []) + 2 = omega (arith, length_push done op) in
    onward_more o room done (parted vs) (map parted rows ++ [] ∷ []) op
    (omega (arith, length-append (map parted rows) ([] ∷ [])))
    (entry_tells o room (length done) vs op says.0 short.0 (omega arith))
    ∙ read_rows o room rows more (done ++ op ∷ []) (subst (λ k. Rows o k rows more) next says.1) short.1 (omega (arith, length_push done op))
    ∙ ap finished (append_assoc done (op ∷ []) more)

rows_lack : (o : Order) (line : ℕ) (rows : List (List (List ℕ))) (ops : List Operation) → Rows o line rows ops → AllByRecursion (Lacks 10) (map parted rows)
rows_lack o line [] ops says = tt
rows_lack o line (vs ∷ rows) [] says = absurd says
rows_lack o line (vs ∷ rows) (op ∷ ops) says = (parted_lacks vs says.0.clean, rows_lack o (line + 1) rows ops says.1)

-- what a text spells is read from it, into any list that has the room
pub reads : (text : List ℕ) (room : ℕ) (ops : List Operation) → Spells text ops → length ops ≤ room → reading text room ≡ finished ops
reads text room ops s fits =
    let lines = parted s.names ∷ map parted s.rows in
    let cut : pieces 10 text ≡ lines ++ [] ∷ [] =
    ap (pieces 10) s.text_is ∙ cut_ended lines (parted_lacks s.names s.heads.clean, rows_lack s.order 2 s.rows ops s.says) in
    let long = length-append (parted s.names) (10 ∷ ended (map parted s.rows)) in
    let some : 0 < length text = omega (arith, ap length s.text_is) in
    let enough = length-append (map parted s.rows) ([] ∷ []) in
    cond-false _ (stopped [] TextSize 0) (start room (pieces 10 text)) (or_from _ _ (ne_eqb (length text) 0 (λ e. omega arith)) (le-ltb 60000 (length text) s.size))
    ∙ ap (start room) cut
    ∙ started room (parted s.names) (map parted s.rows ++ [] ∷ []) s.order (omega arith) (heading_tells s.names s.order s.heads s.short.0)
    ∙ read_rows s.order room s.rows ops [] s.says s.short.1 (omega (arith, s.few))

-- a text spells one list of operations at most
pub one_spelling : (text : List ℕ) (ops others : List Operation) → Spells text ops → Spells text others → ops ≡ others
one_spelling text ops others s t = ap (λ (r : Reading). r.done) (sym (reads text 512 ops s s.few) ∙ reads text 512 others t t.few)
