-- A step that faults leaves all as it was. Assumes nothing.
use Rattle.std.proofs.Common.{◌≡◌, ℕ, ◌+◌, Bool, true, false, eqb, ltb, List, [], ◌∷◌, Some, None, Option, is_ok, refl, w64, of_z, Ok, Err, Result}
use Rattle.faults.specs.declared.cause.Cause.{Cause}
use Rattle.operations.specs.declared.code.Code.{Code}
use Rattle.operations.specs.declared.code.Code.TheVariants.{Div, Load, Store, Loadb, Storeb, Call, Ret, Frame, Grab, Release}
use Rattle.operations.specs.declared.step.Step.{Step}
use Rattle.model.specs.Sheet.{Backing, Did, State, Named, wrap, word, tag, depth, access, got, grabbed, called, kept, returned, released, framed, divided, sheet, act}
use Rattle.model.proofs.Checked.{accessed}

module _ {T H : Type 0} (K : Backing T H) (m : State T H) where
  abbrev Leaves : Did (State T H) → Type 0
  Leaves d = is_ok d.way ≡ false → d.after ≡ m

  access_leaves : (t : Option T) (x k : ℕ) (f : T → State T H) → Leaves (access K m t x k f)
  access_leaves t x k f = accessed K m (λ _ d. Leaves d) (λ _ _ _. refl) t x k f (λ _ _ e. cc)

  got_leaves : (x : Option (Named T)) (d : ℕ) (h : H) → Leaves (got x m d h)
  got_leaves None d h e = cc
  got_leaves (Some x) d h e = cc

  kept_leaves : (r : Result H Cause) → Leaves (kept m r)
  kept_leaves (Ok h) e = cc
  kept_leaves (Err f) e = refl

  released_leaves : (t : Option T) (x : ℕ) → Leaves (released K m t x)
  released_leaves None x e = refl
  released_leaves (Some t) x e = kept_leaves (K.release m.store t x) e

  returned_leaves : (rs : List ℕ) → Leaves (returned K m rs)
  returned_leaves [] e = refl
  returned_leaves (r ∷ rs) e = cc

  framed_leaves : (rs : List ℕ) (d n : ℕ) → Leaves (framed K m rs d n)
  framed_leaves [] d n e = refl
  framed_leaves (r ∷ rs) d n e = cc

  called_leaves : (r k : Bool) (c n : ℕ) → Leaves (called K m r k c n)
  called_leaves false k c n e = refl
  called_leaves true false c n e = refl
  called_leaves true true c n e = cc

  divided_leaves : (x y : ℕ) (z : Bool) (d : ℕ) → Leaves (divided m x y z d)
  divided_leaves x y true d e = refl
  divided_leaves x y false d e = cc

  grabbed_leaves : (k : Bool) (d n : ℕ) → Leaves (grabbed K m k d n)
  grabbed_leaves false d n e = refl
  grabbed_leaves true d n e = got_leaves (K.grab m.store n).block d (K.grab m.store n).after e

  sheet_leaves : (o : Code) (c d a b n : ℕ) → Leaves (sheet K o c d a b n m)
  sheet_leaves Div c d a b n e = divided_leaves (word m a) (word m b) (eqb (word m b) 0) d e
  sheet_leaves Load c d a b n e = access_leaves (tag m a) (wrap (word m a + n)) 8 _ e
  sheet_leaves Store c d a b n e = access_leaves (tag m a) (wrap (word m a + n)) 8 _ e
  sheet_leaves Loadb c d a b n e = access_leaves (tag m a) (wrap (word m a + n)) 1 _ e
  sheet_leaves Storeb c d a b n e = access_leaves (tag m a) (wrap (word m a + n)) 1 _ e
  sheet_leaves Call c d a b n e = called_leaves (ltb (depth m) 64) (K.keys m.store) c n e
  sheet_leaves Ret c d a b n e = returned_leaves m.common.returns e
  sheet_leaves Frame c d a b n e = framed_leaves m.common.returns d n e
  sheet_leaves Grab c d a b n e = grabbed_leaves (K.keys m.store) d (word m a) e
  sheet_leaves Release c d a b n e = released_leaves (tag m a) (word m a) e
  sheet_leaves _ c d a b n e = cc

  pub act_leaves : (c : ℕ) (o : Step) → Leaves (act K c o m)
  act_leaves c o = sheet_leaves o.code c o.d o.a o.b (of_z w64 o.n)
