-- Two backings that are alike step by step perform every operation alike. Assumes nothing.
-- W is a ghost, what ties the tags of one side to those of the other; Alike says when two tags are tied, and Rel when what lies behind is, at a depth of open frames.
use Rattle.std.proofs.Common.{◌≡◌, ℕ, zero, suc, ◌+◌, ◌<◌, Bool, true, false, ltb, List, [], ◌∷◌, length, get_or, set, Some, None, Option, sym, refl, subst, w64, of_z, Ok, Err, Result}
use Rattle.faults.specs.declared.cause.Cause.{Cause}
use Rattle.std.specs.Option.{option_or}
use Rattle.std.proofs.lemmas.Bool.{ltb-true}
use Rattle.operations.specs.declared.code.Code.{Code}
use Rattle.operations.specs.declared.step.Step.{Step}
use Rattle.model.specs.Sheet.{Common, State, Named, Grabbed, Backing, wrap, did, word, tag, name, unless, access, got, kept, released, returned, framed, called, divided, grabbed, sheet, act, leaves, close}
use Rattle.operations.specs.declared.code.Code.TheVariants.{Stop, Set, Copy, Add, Sub, Addi, Mul, Div, Less, Load, Store, Loadb, Storeb, Jump, Jzero, Call, Ret, Frame, Global, Grab, Release, Out}
use Rattle.model.specs.declared.way.Way.{Way}
use Rattle.model.specs.declared.way.Way.TheVariants.{Next}
use Rattle.model.proofs.Driving.{Matches}

-- two options hold related things, or nothing
abbrev pub Both : {X Y : Type 0} → (X → Y → Type 0) → Option X → Option Y → Type 0
Both A None None = Unit {0}
Both A None (Some y) = ⊥
Both A (Some x) None = ⊥
Both A (Some x) (Some y) = A x y

-- two results hold related things, or the same cause
abbrev pub Outcomes : {X Y : Type 0} → (X → Y → Type 0) → Result X Cause → Result Y Cause → Type 0
Outcomes A (Ok x) (Ok y) = A x y
Outcomes A (Err f) (Err g) = f ≡ g
Outcomes A _ _ = ⊥

-- two lists are as long, and related place by place
abbrev pub Rows : {X Y : Type 0} → (X → Y → Type 0) → List X → List Y → Type 0
Rows A [] [] = Unit {0}
Rows A [] (y ∷ ys) = ⊥
Rows A (x ∷ xs) [] = ⊥
Rows A (x ∷ xs) (y ∷ ys) = A x y × Rows A xs ys

pub rows_get : {X Y : Type 0} (A : X → Y → Type 0) (xs : List X) (ys : List Y) (i : ℕ) (d : X) (e : Y) → A d e → Rows A xs ys → A (get_or xs i d) (get_or ys i e)
rows_get A [] [] i d e z r = z
rows_get A [] (y ∷ ys) i d e z r = absurd r
rows_get A (x ∷ xs) [] i d e z r = absurd r
rows_get A (x ∷ xs) (y ∷ ys) zero d e z r = r.0
rows_get A (x ∷ xs) (y ∷ ys) (suc i) d e z r = rows_get A xs ys i d e z r.1

pub rows_set : {X Y : Type 0} (A : X → Y → Type 0) (xs : List X) (ys : List Y) (i : ℕ) (x : X) (y : Y) → A x y → Rows A xs ys → Rows A (set xs i x) (set ys i y)
rows_set A [] [] i x y h r = r
rows_set A [] (v ∷ ys) i x y h r = absurd r
rows_set A (u ∷ xs) [] i x y h r = absurd r
rows_set A (u ∷ xs) (v ∷ ys) zero x y h r = (h, r.1)
rows_set A (u ∷ xs) (v ∷ ys) (suc i) x y h r = (r.0, rows_set A xs ys i x y h r.1)

pub rows_map : {X Y : Type 0} (A B : X → Y → Type 0) → ((x : X) (y : Y) → A x y → B x y) → (xs : List X) (ys : List Y) → Rows A xs ys → Rows B xs ys
rows_map A B f [] [] r = r
rows_map A B f [] (y ∷ ys) r = absurd r
rows_map A B f (x ∷ xs) [] r = absurd r
rows_map A B f (x ∷ xs) (y ∷ ys) r = (f x y r.0, rows_map A B f xs ys r.1)

pub both_map : {X Y : Type 0} (A B : X → Y → Type 0) → ((x : X) (y : Y) → A x y → B x y) → (o : Option X) (p : Option Y) → Both A o p → Both B o p
both_map A B f None None r = r
both_map A B f None (Some y) r = absurd r
both_map A B f (Some x) None r = absurd r
both_map A B f (Some x) (Some y) r = f x y r

abbrev pub SameBlock : {X Y : Type 0} → (X → Y → Type 0) → Named X → Named Y → Type 0
SameBlock A x y = (x.start ≡ y.start) × A x.tag y.tag

module _ {T₁ H₁ T₂ H₂ : Type 0} (K₁ : Backing T₁ H₁) (K₂ : Backing T₂ H₂) (W : Type 0) (Alike : W → T₁ → T₂ → Type 0) (Rel : W → ℕ → H₁ → H₂ → Type 0) where
  -- a later ghost, in which all that was tied still is
  abbrev pub Grows : W → W → Type 0
  Grows w w' = (t : T₁) (u : T₂) → Alike w t u → Alike w' t u

  pub record Grabs (w : W) (k : ℕ) (g₁ : Grabbed T₁ H₁) (g₂ : Grabbed T₂ H₂) : Type 0 where
    pub now : W
    pub grows : Grows w now
    pub block : Both (SameBlock (Alike now)) g₁.block g₂.block
    pub after : Rel now k g₁.after g₂.after

  pub record Enters (w : W) (k : ℕ) (h₁ : H₁) (h₂ : H₂) : Type 0 where
    pub now : W
    pub grows : Grows w now
    pub after : Rel now k h₁ h₂

  pub record Steps : Type 0 where
    pub check : (w : W) (k : ℕ) (h₁ : H₁) (h₂ : H₂) (t₁ : T₁) (t₂ : T₂) (x n : ℕ) → Rel w k h₁ h₂ → Alike w t₁ t₂ → K₁.check h₁ t₁ x n ≡ K₂.check h₂ t₂ x n
    pub load : (w : W) (k : ℕ) (h₁ : H₁) (h₂ : H₂) (t₁ : T₁) (t₂ : T₂) (x : ℕ) → Rel w k h₁ h₂ → Alike w t₁ t₂ → K₂.check h₂ t₂ x 8 ≡ Ok tt → K₁.load h₁ t₁ x ≡ K₂.load h₂ t₂ x
    pub tag_at : (w : W) (k : ℕ) (h₁ : H₁) (h₂ : H₂) (t₁ : T₁) (t₂ : T₂) (x : ℕ) → Rel w k h₁ h₂ → Alike w t₁ t₂ → K₂.check h₂ t₂ x 8 ≡ Ok tt → Both (Alike w) (K₁.tag_at h₁ t₁ x) (K₂.tag_at h₂ t₂ x)
    pub loadb : (w : W) (k : ℕ) (h₁ : H₁) (h₂ : H₂) (t₁ : T₁) (t₂ : T₂) (x : ℕ) → Rel w k h₁ h₂ → Alike w t₁ t₂ → K₂.check h₂ t₂ x 1 ≡ Ok tt → K₁.loadb h₁ t₁ x ≡ K₂.loadb h₂ t₂ x
    pub store : (w : W) (k : ℕ) (h₁ : H₁) (h₂ : H₂) (t₁ : T₁) (t₂ : T₂) (x v : ℕ) (u₁ : Option T₁) (u₂ : Option T₂) → Rel w k h₁ h₂ → Alike w t₁ t₂ → K₂.check h₂ t₂ x 8 ≡ Ok tt → Both (Alike w) u₁ u₂ →
        Rel w k (K₁.store h₁ t₁ x v u₁) (K₂.store h₂ t₂ x v u₂)
    pub storeb : (w : W) (k : ℕ) (h₁ : H₁) (h₂ : H₂) (t₁ : T₁) (t₂ : T₂) (x v : ℕ) → Rel w k h₁ h₂ → Alike w t₁ t₂ → K₂.check h₂ t₂ x 1 ≡ Ok tt → Rel w k (K₁.storeb h₁ t₁ x v) (K₂.storeb h₂ t₂ x v)
    pub keys : (w : W) (k : ℕ) (h₁ : H₁) (h₂ : H₂) → Rel w k h₁ h₂ → K₁.keys h₁ ≡ K₂.keys h₂
    pub grab : (w : W) (k : ℕ) (h₁ : H₁) (h₂ : H₂) (n : ℕ) → Rel w k h₁ h₂ → Grabs w k (K₁.grab h₁ n) (K₂.grab h₂ n)
    pub release : (w : W) (k : ℕ) (h₁ : H₁) (h₂ : H₂) (t₁ : T₁) (t₂ : T₂) (x : ℕ) → Rel w k h₁ h₂ → Alike w t₁ t₂ → Outcomes (Rel w k) (K₁.release h₁ t₁ x) (K₂.release h₂ t₂ x)
    pub enter : (w : W) (k : ℕ) (h₁ : H₁) (h₂ : H₂) → Rel w k h₁ h₂ → k < 64 → Enters w (suc k) (K₁.enter h₁ k) (K₂.enter h₂ k)
    pub leave : (w : W) (k : ℕ) (h₁ : H₁) (h₂ : H₂) → Rel w (suc k) h₁ h₂ → Rel w k (K₁.leave h₁ k) (K₂.leave h₂ k)
    pub frame : (w : W) (k : ℕ) (h₁ : H₁) (h₂ : H₂) → Rel w (suc k) h₁ h₂ → Alike w (K₁.frame h₁ k) (K₂.frame h₂ k)
    pub global : (w : W) (k : ℕ) (h₁ : H₁) (h₂ : H₂) → Rel w k h₁ h₂ → Alike w K₁.global K₂.global

  pub record Agrees (m₁ : State T₁ H₁) (m₂ : State T₂ H₂) : Type 0 where
    pub ghost : W
    pub common : m₁.common ≡ m₂.common
    pub tags : Rows (Both (Alike ghost)) m₁.tags m₂.tags
    pub store : Rel ghost (length m₂.common.returns) m₁.store m₂.store

  module _ (S : Steps) (w : W) (x : Common) (ts₁ : List (Option T₁)) (ts₂ : List (Option T₂)) (h₁ : H₁) (h₂ : H₂) (tied : Rows (Both (Alike w)) ts₁ ts₂) (rel : Rel w (length x.returns) h₁ h₂) where
    abbrev one : State T₁ H₁
    one = record { common = x; tags = ts₁; store = h₁ }

    abbrev two : State T₂ H₂
    two = record { common = x; tags = ts₂; store = h₂ }

    stays : Agrees one two
    stays = record { ghost = w; common = refl; tags = tied; store = rel }

    -- each goes this way and leaves what was there
    alike : (v : Result Way Cause) → Matches Agrees (record { way = v; after = one }) (record { way = v; after = two })
    alike v = record { way = refl; after = stays }

    at : (i : ℕ) → Both (Alike w) (tag one i) (tag two i)
    at i = rows_get (Both (Alike w)) ts₁ ts₂ i None None tt tied

    names : (d v₁ v₂ : ℕ) (t₁ : Option T₁) (t₂ : Option T₂) → v₁ ≡ v₂ → Both (Alike w) t₁ t₂ → Agrees (name one d v₁ t₁) (name two d v₂ t₂)
    names d v₁ v₂ t₁ t₂ e h = record { ghost = w; common = rw e; tags = rows_set (Both (Alike w)) ts₁ ts₂ d t₁ t₂ h tied; store = rel }

    fine : (m₁ : State T₁ H₁) (m₂ : State T₂ H₂) → Agrees m₁ m₂ → Matches Agrees (did Next m₁) (did Next m₂)
    fine m₁ m₂ h = record { way = refl; after = h }

    unless_like : (o₁ o₂ : Result Unit Cause) (m₁ : State T₁ H₁) (m₂ : State T₂ H₂) → o₁ ≡ o₂ → (o₂ ≡ Ok tt → Agrees m₁ m₂) → Matches Agrees (unless o₁ one m₁) (unless o₂ two m₂)
    unless_like o₁ (Ok u) m₁ m₂ e f = rw e (fine m₁ m₂ (f refl))
    unless_like o₁ (Err z) m₁ m₂ e f = rw e (alike _)

    access_like : (o₁ : Option T₁) (o₂ : Option T₂) (y n : ℕ) (f₁ : T₁ → State T₁ H₁) (f₂ : T₂ → State T₂ H₂) → Both (Alike w) o₁ o₂ →
        ((t₁ : T₁) (t₂ : T₂) → Alike w t₁ t₂ → K₂.check h₂ t₂ y n ≡ Ok tt → Agrees (f₁ t₁) (f₂ t₂)) → Matches Agrees (access K₁ one o₁ y n f₁) (access K₂ two o₂ y n f₂)
    access_like None None y n f₁ f₂ b f = alike _
    access_like None (Some t₂) y n f₁ f₂ b f = absurd b
    access_like (Some t₁) None y n f₁ f₂ b f = absurd b
    access_like (Some t₁) (Some t₂) y n f₁ f₂ b f =
        unless_like _ (K₂.check h₂ t₂ y n) (f₁ t₁) (f₂ t₂) (S.check w _ h₁ h₂ t₁ t₂ y n rel b) (f t₁ t₂ b)

    kept_like : (r₁ : Result H₁ Cause) (r₂ : Result H₂ Cause) → Outcomes (Rel w (length x.returns)) r₁ r₂ → Matches Agrees (kept one r₁) (kept two r₂)
    kept_like (Ok g₁) (Ok g₂) r = fine _ _ (record { ghost = w; common = refl; tags = tied; store = r })
    kept_like (Ok g₁) (Err f₂) r = absurd r
    kept_like (Err f₁) (Ok g₂) r = absurd r
    kept_like (Err f₁) (Err f₂) r = rw r (alike _)

    released_like : (o₁ : Option T₁) (o₂ : Option T₂) (y : ℕ) → Both (Alike w) o₁ o₂ → Matches Agrees (released K₁ one o₁ y) (released K₂ two o₂ y)
    released_like None None y b = alike _
    released_like None (Some t₂) y b = absurd b
    released_like (Some t₁) None y b = absurd b
    released_like (Some t₁) (Some t₂) y b = kept_like (K₁.release h₁ t₁ y) (K₂.release h₂ t₂ y) (S.release w _ h₁ h₂ t₁ t₂ y rel b)

    or_like : (o₁ p₁ : Option T₁) (o₂ p₂ : Option T₂) → Both (Alike w) o₁ o₂ → Both (Alike w) p₁ p₂ → Both (Alike w) (option_or o₁ p₁) (option_or o₂ p₂)
    or_like None p₁ None p₂ b c = c
    or_like None p₁ (Some t₂) p₂ b c = absurd b
    or_like (Some t₁) p₁ None p₂ b c = absurd b
    or_like (Some t₁) p₁ (Some t₂) p₂ b c = b

    divided_like : (u v : ℕ) (z : Bool) (d : ℕ) → Matches Agrees (divided one u v z d) (divided two u v z d)
    divided_like u v true d = alike _
    divided_like u v false d = fine _ _ (names d _ _ None None refl tt)

    got_like : (o₁ : Option (Named T₁)) (o₂ : Option (Named T₂)) (d : ℕ) (g₁ : H₁) (g₂ : H₂) (w' : W) → Grows w w' → Both (SameBlock (Alike w')) o₁ o₂ → Rel w' (length x.returns) g₁ g₂ →
        Matches Agrees (got o₁ one d g₁) (got o₂ two d g₂)
    got_like None None d g₁ g₂ w' grows b r =
        fine _ _ (record { ghost = w'; common = refl; tags = rows_set (Both (Alike w')) ts₁ ts₂ d None None tt (rows_map _ _ (both_map _ _ grows) ts₁ ts₂ tied); store = r })
    got_like None (Some y) d g₁ g₂ w' grows b r = absurd b
    got_like (Some y) None d g₁ g₂ w' grows b r = absurd b
    got_like (Some y) (Some z) d g₁ g₂ w' grows b r =
        fine _ _ (record { ghost = w'; common = rw b.0; tags = rows_set (Both (Alike w')) ts₁ ts₂ d (Some y.tag) (Some z.tag) b.1 (rows_map _ _ (both_map _ _ grows) ts₁ ts₂ tied); store = r })

    grabbed_like : (l : Bool) (d n : ℕ) → Matches Agrees (grabbed K₁ one l d n) (grabbed K₂ two l d n)
    grabbed_like false d n = alike _
    grabbed_like true d n = let g = S.grab w _ h₁ h₂ n rel in got_like _ _ d _ _ g.now g.grows g.block g.after

    called_like : (r l : Bool) (c n : ℕ) → ltb (length x.returns) 64 ≡ r → Matches Agrees (called K₁ one r l c n) (called K₂ two r l c n)
    called_like false l c n e = alike _
    called_like true false c n e = alike _
    called_like true true c n e =
        let g = S.enter w _ h₁ h₂ rel (ltb-true _ _ e) in
        record { way = refl; after = record { ghost = g.now; common = refl; tags = rows_map _ _ (both_map _ _ g.grows) ts₁ ts₂ tied; store = g.after } }

    returned_like : (rs : List ℕ) → Rel w (length rs) h₁ h₂ → Matches Agrees (returned K₁ one rs) (returned K₂ two rs)
    returned_like [] r = alike _
    returned_like (p ∷ rs) r = record { way = refl; after = record { ghost = w; common = refl; tags = tied; store = S.leave w (length rs) h₁ h₂ r } }

    framed_like : (rs : List ℕ) (d n : ℕ) → Rel w (length rs) h₁ h₂ → Matches Agrees (framed K₁ one rs d n) (framed K₂ two rs d n)
    framed_like [] d n r = alike _
    framed_like (p ∷ rs) d n r = fine _ _ (names d _ _ _ _ refl (S.frame w (length rs) h₁ h₂ r))

    sheet_like : (o : Code) (c d a b n : ℕ) → Matches Agrees (sheet K₁ o c d a b n one) (sheet K₂ o c d a b n two)
    sheet_like Stop c d a b n = alike _
    sheet_like Set c d a b n = fine _ _ (names d _ _ None None refl tt)
    sheet_like Copy c d a b n = fine _ _ (names d _ _ _ _ refl (at a))
    sheet_like Add c d a b n = fine _ _ (names d _ _ _ _ refl (or_like (tag one a) (tag one b) (tag two a) (tag two b) (at a) (at b)))
    sheet_like Sub c d a b n = fine _ _ (names d _ _ _ _ refl (at a))
    sheet_like Addi c d a b n = fine _ _ (names d _ _ _ _ refl (at a))
    sheet_like Mul c d a b n = fine _ _ (names d _ _ None None refl tt)
    sheet_like Div c d a b n = divided_like _ _ _ d
    sheet_like Less c d a b n = fine _ _ (names d _ _ None None refl tt)
    sheet_like Load c d a b n =
        let y : ℕ = wrap (word two a + n) in
        access_like (tag one a) (tag two a) y 8 _ _ (at a) (λ t₁ t₂ h e. names d _ _ _ _ (S.load w _ h₁ h₂ t₁ t₂ y rel h e) (S.tag_at w _ h₁ h₂ t₁ t₂ y rel h e))
    sheet_like Store c d a b n =
        let y : ℕ = wrap (word two a + n) in
        access_like (tag one a) (tag two a) y 8 _ _ (at a)
        (λ t₁ t₂ h e. record { ghost = w; common = refl; tags = tied; store = S.store w _ h₁ h₂ t₁ t₂ y (word two b) (tag one b) (tag two b) rel h e (at b) })
    sheet_like Loadb c d a b n =
        let y : ℕ = wrap (word two a + n) in
        access_like (tag one a) (tag two a) y 1 _ _ (at a) (λ t₁ t₂ h e. names d _ _ None None (S.loadb w _ h₁ h₂ t₁ t₂ y rel h e) tt)
    sheet_like Storeb c d a b n =
        let y : ℕ = wrap (word two a + n) in
        access_like (tag one a) (tag two a) y 1 _ _ (at a)
        (λ t₁ t₂ h e. record { ghost = w; common = refl; tags = tied; store = S.storeb w _ h₁ h₂ t₁ t₂ y (word two b) rel h e })
    sheet_like Jump c d a b n = alike _
    sheet_like Jzero c d a b n = alike _
    sheet_like Call c d a b n = rw (S.keys w _ h₁ h₂ rel) (called_like (ltb (length x.returns) 64) (K₂.keys h₂) c n refl)
    sheet_like Ret c d a b n = returned_like x.returns rel
    sheet_like Frame c d a b n = framed_like x.returns d n rel
    sheet_like Global c d a b n = fine _ _ (names d _ _ _ _ refl (S.global w _ h₁ h₂ rel))
    sheet_like Grab c d a b n = rw (S.keys w _ h₁ h₂ rel) (grabbed_like (K₂.keys h₂) d (word two a))
    sheet_like Release c d a b n = released_like (tag one a) (tag two a) (word two a) (at a)
    sheet_like Out c d a b n = alike _

  leaves_like : Steps → (w : W) (k : ℕ) (h₁ : H₁) (h₂ : H₂) → Rel w k h₁ h₂ → Rel w 0 (leaves K₁ k h₁) (leaves K₂ k h₂)
  leaves_like S w zero h₁ h₂ r = r
  leaves_like S w (suc k) h₁ h₂ r = leaves_like S w k (K₁.leave h₁ k) (K₂.leave h₂ k) (S.leave w k h₁ h₂ r)

  pub acts_like : Steps → (c : ℕ) (o : Step) (m₁ : State T₁ H₁) (m₂ : State T₂ H₂) → Agrees m₁ m₂ → Matches Agrees (act K₁ c o m₁) (act K₂ c o m₂)
  acts_like S c o m₁ m₂ h =
      let P : Common → Type 0 = λ x. Matches Agrees (act K₁ c o (record { common = x; tags = m₁.tags; store = m₁.store })) (act K₂ c o m₂) in
      subst P (sym h.common) (sheet_like S h.ghost m₂.common m₁.tags m₂.tags m₁.store m₂.store h.tags h.store o.code c o.d o.a o.b (of_z w64 o.n))

  pub closes_like : Steps → (m₁ : State T₁ H₁) (m₂ : State T₂ H₂) → Agrees m₁ m₂ → Agrees (close K₁ m₁) (close K₂ m₂)
  closes_like S m₁ m₂ h =
      let P : Common → Type 0 = λ x. Agrees (close K₁ (record { common = x; tags = m₁.tags; store = m₁.store })) (close K₂ m₂) in
      subst P (sym h.common) (record { ghost = h.ghost; common = refl; tags = h.tags; store = leaves_like S h.ghost (length m₂.common.returns) m₁.store m₂.store h.store })
