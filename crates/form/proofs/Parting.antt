-- Pieces and what they are parted from: cutting undoes parting, and parting undoes cutting. Assumes nothing.
use Rattle.std.proofs.Common.{◌≡◌, ℕ, ◌≤◌, Bool, true, false, eqb, List, [], ◌∷◌, ◌++◌, length, sym, refl, ap, ◌∙◌, subst, arith}
use Rattle.std.specs.List.{AllByRecursion}
use Rattle.std.proofs.lemmas.Bool.{eq-eqb, ne_eqb, eqb-true, eqb-false, cond-true, cond-false}
use Rattle.form.specs.Form.{parted_by, parted, ended, Lacks, Clean}
use Rattle.form.specs.Pieces.{before, pieces}
use Rattle.form.proofs.Steps.{pieces_some}

piece_then : (sep : ℕ) (v rest : List ℕ) → Lacks sep v → pieces sep (v ++ sep ∷ rest) ≡ v ∷ pieces sep rest
piece_then sep [] rest h = rw (eq-eqb sep sep refl)
piece_then sep (b ∷ v) rest h = rw (ne_eqb b sep h.0, piece_then sep v rest h.1)

piece_alone : (sep : ℕ) (v : List ℕ) → Lacks sep v → pieces sep v ≡ v ∷ []
piece_alone sep [] h = refl
piece_alone sep (b ∷ v) h = rw (ne_eqb b sep h.0, piece_alone sep v h.1)

-- values that are parted are cut again
pub cut_parted : (sep : ℕ) (v : List ℕ) (vs : List (List ℕ)) → Lacks sep v → AllByRecursion (Lacks sep) vs → pieces sep (parted_by sep v vs) ≡ v ∷ vs
cut_parted sep v [] h hs = piece_alone sep v h
cut_parted sep v (w ∷ ws) h hs = piece_then sep v (parted_by sep w ws) h ∙ ap (λ x. v ∷ x) (cut_parted sep w ws hs.0 hs.1)

-- lines that are ended are cut again, with nothing after the last end
pub cut_ended : (ls : List (List ℕ)) → AllByRecursion (Lacks 10) ls → pieces 10 (ended ls) ≡ ls ++ [] ∷ []
cut_ended [] h = refl
cut_ended (l ∷ ls) h = piece_then 10 l (ended ls) h.0 ∙ ap (λ x. l ∷ x) (cut_ended ls h.1)

-- pieces with `sep` between one and the next
abbrev pub glued : ℕ → List (List ℕ) → List ℕ
glued sep [] = []
glued sep (p ∷ ps) = parted_by sep p ps

glued_sep : (sep : ℕ) (ps : List (List ℕ)) → 1 ≤ length ps → glued sep ([] ∷ ps) ≡ sep ∷ glued sep ps
glued_sep sep [] h = absurd (omega arith)
glued_sep sep (p ∷ ps) h = refl

glued_before : (sep b : ℕ) (ps : List (List ℕ)) → 1 ≤ length ps → glued sep (before b ps) ≡ b ∷ glued sep ps
glued_before sep b [] h = absurd (omega arith)
glued_before sep b (p ∷ []) h = refl
glued_before sep b (p ∷ q ∷ ps) h = refl

glued_by : (sep b : ℕ) (bs : List ℕ) → glued sep (pieces sep bs) ≡ bs → (t : Bool) → eqb b sep ≡ t → glued sep (pieces sep (b ∷ bs)) ≡ b ∷ bs
glued_by sep b bs ih true e =
    ap (glued sep) (cond-true _ ([] ∷ pieces sep bs) (before b (pieces sep bs)) e)
    ∙ glued_sep sep (pieces sep bs) (pieces_some sep bs)
    ∙ ap (λ x. sep ∷ x) ih
    ∙ ap (λ x. x ∷ bs) (sym (eqb-true b sep e))
glued_by sep b bs ih false e =
    ap (glued sep) (cond-false _ ([] ∷ pieces sep bs) (before b (pieces sep bs)) e)
    ∙ glued_before sep b (pieces sep bs) (pieces_some sep bs)
    ∙ ap (λ x. b ∷ x) ih

-- a text that is cut is parted again
pub glued_pieces : (sep : ℕ) (bs : List ℕ) → glued sep (pieces sep bs) ≡ bs
glued_pieces sep [] = refl
glued_pieces sep (b ∷ bs) = glued_by sep b bs (glued_pieces sep bs) (eqb b sep) refl

lacks_before : (x b : ℕ) (ps : List (List ℕ)) → (b ≡ x → ⊥) → AllByRecursion (Lacks x) ps → AllByRecursion (Lacks x) (before b ps)
lacks_before x b [] h hs = ((h, tt), tt)
lacks_before x b (p ∷ ps) h hs = ((h, hs.0), hs.1)

lacks_by : (sep x b : ℕ) (bs : List ℕ) → ((b ≡ sep → ⊥) → b ≡ x → ⊥) → AllByRecursion (Lacks x) (pieces sep bs) → (t : Bool) → eqb b sep ≡ t → AllByRecursion (Lacks x) (pieces sep (b ∷ bs))
lacks_by sep x b bs h hs true e = subst (λ ps. AllByRecursion (Lacks x) ps) (sym (cond-true _ ([] ∷ pieces sep bs) (before b (pieces sep bs)) e)) (tt, hs)
lacks_by sep x b bs h hs false e =
    subst (λ ps. AllByRecursion (Lacks x) ps) (sym (cond-false _ ([] ∷ pieces sep bs) (before b (pieces sep bs)) e)) (lacks_before x b (pieces sep bs) (h (eqb-false b sep e)) hs)

-- no piece holds what parts it
pub pieces_lack : (sep : ℕ) (bs : List ℕ) → AllByRecursion (Lacks sep) (pieces sep bs)
pieces_lack sep [] = (tt, tt)
pieces_lack sep (b ∷ bs) = lacks_by sep sep b bs (λ f. f) (pieces_lack sep bs) (eqb b sep) refl

-- nor what the text lacks
pub pieces_lack_too : (sep x : ℕ) (bs : List ℕ) → Lacks x bs → AllByRecursion (Lacks x) (pieces sep bs)
pieces_lack_too sep x [] h = (tt, tt)
pieces_lack_too sep x (b ∷ bs) h = lacks_by sep x b bs (λ _. h.0) (pieces_lack_too sep x bs h.1) (eqb b sep) refl

lacks_append : (x : ℕ) (front rest : List ℕ) → Lacks x front → Lacks x rest → Lacks x (front ++ rest)
lacks_append x [] rest h k = k
lacks_append x (a ∷ front) rest h k = (h.0, lacks_append x front rest h.1 k)

parted_lacks_on : (v : List ℕ) (vs : List (List ℕ)) → Clean v → AllByRecursion Clean vs → Lacks 10 (parted_by 44 v vs)
parted_lacks_on v [] h hs = h.1
parted_lacks_on v (w ∷ ws) h hs = lacks_append 10 v _ h.1 ((λ e. omega arith), parted_lacks_on w ws hs.0 hs.1)

-- a line of clean values has no line end in it
pub parted_lacks : (vs : List (List ℕ)) → AllByRecursion Clean vs → Lacks 10 (parted vs)
parted_lacks [] h = tt
parted_lacks (v ∷ vs) h = parted_lacks_on v vs h.0 h.1

clean_commas : (vs : List (List ℕ)) → AllByRecursion Clean vs → AllByRecursion (Lacks 44) vs
clean_commas [] h = tt
clean_commas (v ∷ vs) h = (h.0.0, clean_commas vs h.1)

-- clean values that are parted are cut again
pub cut_clean : (vs : List (List ℕ)) → 1 ≤ length vs → AllByRecursion Clean vs → pieces 44 (parted vs) ≡ vs
cut_clean [] some h = absurd (omega arith)
cut_clean (v ∷ vs) some h = cut_parted 44 v vs h.0.0 (clean_commas vs h.1)

both_clean : (vs : List (List ℕ)) → AllByRecursion (Lacks 44) vs → AllByRecursion (Lacks 10) vs → AllByRecursion Clean vs
both_clean [] h k = tt
both_clean (v ∷ vs) h k = ((h.0, k.0), both_clean vs h.1 k.1)

-- the values of a line are clean
pub pieces_clean : (l : List ℕ) → Lacks 10 l → AllByRecursion Clean (pieces 44 l)
pieces_clean l h = both_clean (pieces 44 l) (pieces_lack 44 l) (pieces_lack_too 44 10 l h)

glued_parted : (vs : List (List ℕ)) → glued 44 vs ≡ parted vs
glued_parted [] = refl
glued_parted (v ∷ vs) = refl

-- a line is its values, parted
pub parted_pieces : (l : List ℕ) → parted (pieces 44 l) ≡ l
parted_pieces l = sym (glued_parted (pieces 44 l)) ∙ glued_pieces 44 l
