-- What a book tells of its grants after a step is what the trail shows of their lives. Assumes nothing.
use Rattle.std.proofs.Common.{◌≡◌, ℕ, suc, ◌+◌, ◌*◌, ◌%◌, Bool, true, false, cond, ◌&&◌, eqb, ltb, List, [], ◌∷◌, ◌++◌, length, Some, None, Option, is_ok, sym, refl, ap, subst, arith, w64, of_z, Ok}
use Rattle.std.proofs.lemmas.List.{length_push}
use Rattle.std.proofs.lemmas.Bool.{lt-ltb, le-ltb}
use Rattle.heaps.specs.Rule.{Block, HeapRule}
use Rattle.operations.specs.declared.code.Code.{Code}
use Rattle.operations.specs.declared.code.Code.TheVariants.{Div, Load, Store, Loadb, Storeb, Call, Ret, Frame, Grab, Release}
use Rattle.operations.specs.declared.step.Step.{Step}
use Rattle.model.specs.Sheet.{Did, Named, wrap, word, tag, access, got, grabbed, called, returned, released, framed, divided, sheet, act, depth}
use Rattle.model.specs.Parts.{bytes}
use Rattle.model.specs.Grants.{block, frame, is_block, is_frame, Outline, alive, living_frame, bit}
use Rattle.model.specs.History.{Book, Grant, ends, nth, outline, book, born, ended, change, serve, youngest, room, taken, blocks, OfBook}
use Rattle.model.specs.History
use Rattle.model.specs.Sights.{Seen, stores}
use Rattle.model.specs.Lives.{Lives, with_birth, with_end, open_frames, youngest_frame, block_born, ended_by, changed}
use Rattle.model.proofs.Access.{passed, written}
use Rattle.model.proofs.Checked.{accessed, freed}
use Rattle.model.proofs.Telling.{listed}
use Rattle.model.proofs.Living.{Same, youngest_same, same_born, same_end, same_write, youngest_lives}
use Rattle.model.proofs.OneKind.{block_not_frame}

module _ (H : HeapRule) where
  -- every step
  module _ (l : Lives) (m : OfBook H) (A : Same l m.store (depth m)) where
    abbrev Still : Did (OfBook H) → Lives → Type 0
    Still d l' = Same l' d.after.store (depth d.after)

    access_lives : (t : Option ℕ) (x n : ℕ) (f : ℕ → OfBook H) → ((g : ℕ) → (book H).check m.store g x n ≡ Ok tt → Same l (f g).store (depth (f g))) → Still (access (book H) m t x n f) l
    access_lives t x n f k = accessed (book H) m (λ _ d. Still d l) (λ _ _. A) t x n f k

    write_lives : (g x n : ℕ) (bs : List ℕ) (ds : List (Option ℕ)) → (book H).check m.store g x n ≡ Ok tt → Same l (History.write m.store g x bs ds) (depth m)
    write_lives g x n bs ds e = same_write l m.store (depth m) A g (written (nth m.store g) x bs ds) (listed m.store g (passed (outline m.store g) x n e).living) refl

    divided_lives : (x y : ℕ) (z : Bool) (d : ℕ) → Still (divided m x y z d) l
    divided_lives x y true d = A
    divided_lives x y false d = A

    framed_lives : (rs : List ℕ) (d n : ℕ) → Still (framed (book H) m rs d n) l
    framed_lives [] d n = A
    framed_lives (r ∷ rs) d n = A

    called_lives : (r k : Bool) (c n : ℕ) → Still (called (book H) m r k c n) (cond (is_ok (called (book H) m r k c n).way) (with_birth l (alive frame (5120 + 48 * open_frames l) 48 48)) l)
    called_lives false k c n = A
    called_lives true false c n = A
    called_lives true true c n = same_born l m.store (depth m) A (born frame (5120 + 48 * depth m) 48 48) (alive frame (5120 + 48 * open_frames l) 48 48) (ap (λ (k : ℕ). alive frame (5120 + 48 * k) 48 48) (sym A.opened)) (suc (depth m)) (omega arith)

    returned_lives : (rs : List ℕ) → length rs ≡ depth m → Still (returned (book H) m rs) (cond (is_ok (returned (book H) m rs).way) (with_end l (youngest_frame l)) l)
    returned_lives [] e = A
    returned_lives (r ∷ rs) e =
        let y = youngest_lives l m.store (depth m) A (length rs) (sym e) in
        let f : bit (living_frame (outline m.store (youngest m.store))) ≡ 1 = ap bit y.0 in
        subst (λ (g : ℕ). Same (with_end l g) (change m.store (youngest m.store) (ended (nth m.store (youngest m.store)))) (length rs)) (sym (youngest_same l m.store (depth m) A))
        (same_end l m.store (depth m) A (youngest m.store) y.1 (length rs) (omega arith))

    released_lives : (t : Option ℕ) (x : ℕ) → Still (released (book H) m t x) (cond (is_ok (released (book H) m t x).way) (ended_by t l) l)
    released_lives t x = freed H m (λ t d. Still d (cond (is_ok d.way) (ended_by t l) l)) (λ _ _. A) t x one_ends
      where
        not_living_frame : (o : Outline) → is_frame o.kind ≡ false → living_frame o ≡ false
        not_living_frame o e = go o.living
          where
            go : (v : Bool) → (v && is_frame o.kind) ≡ false
            go true = e
            go false = refl

        one_ends : (g : ℕ) → (outline m.store g).living ≡ true → is_block (outline m.store g).kind ≡ true → Same (with_end l g) (ends H m.store g) (depth m)
        one_ends g e f =
            let z : bit (living_frame (outline m.store g)) ≡ 0 = ap bit (not_living_frame (outline m.store g) (block_not_frame (outline m.store g).kind f)) in
            let s = same_end l m.store (depth m) A g (listed m.store g e) (depth m) (omega arith) in
            record { many = s.many; of = s.of; opened = s.opened }

    grabbed_lives : (k : Bool) (d n : ℕ) → Still (grabbed (book H) m k d n) (cond (ltb (length m.store.grants) (length (grabbed (book H) m k d n).after.store.grants)) (block_born (H.take m.store.heap n).answer n l) l)
    grabbed_lives false d n = rw (le-ltb (length m.store.grants) (length m.store.grants) (omega arith)) A
    grabbed_lives true d n = go (H.take m.store.heap n).answer refl
      where
        s' : H.State
        s' = (H.take m.store.heap n).after

        kept : (h : H.State) (x : Option (Named ℕ)) (l' : Lives) → Same l (serve m.store h) (depth m) → Still (got x m d (serve m.store h)) (cond (ltb (length m.store.grants) (length (got x m d (serve m.store h)).after.store.grants)) l' l)
        kept h None l' s = rw (le-ltb (length m.store.grants) (length m.store.grants) (omega arith)) s
        kept h (Some y) l' s = rw (le-ltb (length m.store.grants) (length m.store.grants) (omega arith)) s

        served : (h : H.State) → Same l (serve m.store h) (depth m)
        served h = record { many = A.many; of = A.of; opened = A.opened }

        by_room : (b : Block) (r : Bool) → Still (got (room H m.store n b s' r).block m d (room H m.store n b s' r).after)
            (cond (ltb (length m.store.grants) (length (got (room H m.store n b s' r).block m d (room H m.store n b s' r).after).after.store.grants)) (with_birth l (alive block (1024 + b.start) n b.held)) l)
        by_room b false = kept (H.give s' b.start).after None _ (served (H.give s' b.start).after)
        by_room b true =
            let x : Grant = born block (1024 + b.start) n b.held in
            let long = length_push m.store.grants x in
            rw (lt-ltb (length m.store.grants) (length (m.store.grants ++ (x ∷ []))) (omega arith))
            (same_born l (serve m.store s') (depth m) (served s') x (alive block (1024 + b.start) n b.held) refl (depth m) (omega arith))

        go : (a : Option Block) → (H.take m.store.heap n).answer ≡ a → Still (got (taken H m.store n a s').block m d (taken H m.store n a s').after)
            (cond (ltb (length m.store.grants) (length (got (taken H m.store n a s').block m d (taken H m.store n a s').after).after.store.grants)) (block_born a n l) l)
        go None e = kept s' None _ (served s')
        go (Some b) e = by_room b (ltb (blocks m.store) 255)

    -- what is seen of a step of the book
    abbrev view : Code → ℕ → ℕ → ℕ → Did (OfBook H) → Seen
    view o a b n d = record {
      code = o;
      passed = is_ok d.way;
      from = tag m a;
      asked = word m a;
      address = wrap (word m a + n);
      stored = bytes (stores o) (word m b);
      keyed = ltb (length m.store.grants) (length d.after.store.grants);
      answer = (H.take m.store.heap (word m a)).answer;
    }

    sheet_lives : (o : Code) (c d a b n : ℕ) → Still (sheet (book H) o c d a b n m) (changed o (view o a b n (sheet (book H) o c d a b n m)) l)
    sheet_lives Div c d a b n = divided_lives (word m a) (word m b) (eqb (word m b) 0) d
    sheet_lives Load c d a b n = access_lives (tag m a) (wrap (word m a + n)) 8 _ (λ g e. A)
    sheet_lives Store c d a b n = access_lives (tag m a) (wrap (word m a + n)) 8 _ (λ g e. write_lives g (wrap (word m a + n)) 8 (bytes 8 (word m b)) (tag m b ∷ []) e)
    sheet_lives Loadb c d a b n = access_lives (tag m a) (wrap (word m a + n)) 1 _ (λ g e. A)
    sheet_lives Storeb c d a b n = access_lives (tag m a) (wrap (word m a + n)) 1 _ (λ g e. write_lives g (wrap (word m a + n)) 1 ((word m b % 256) ∷ []) [] e)
    sheet_lives Call c d a b n = called_lives (ltb (depth m) 64) ((book H).keys m.store) c n
    sheet_lives Ret c d a b n = returned_lives m.common.returns refl
    sheet_lives Frame c d a b n = framed_lives m.common.returns d n
    sheet_lives Grab c d a b n = grabbed_lives ((book H).keys m.store) d (word m a)
    sheet_lives Release c d a b n = released_lives (tag m a) (word m a)
    sheet_lives _ c d a b n = A

    pub act_lives : (c : ℕ) (o : Step) → Same (changed o.code (view o.code o.a o.b (of_z w64 o.n) (act (book H) c o m)) l) (act (book H) c o m).after.store (depth (act (book H) c o m).after)
    act_lives c o = sheet_lives o.code c o.d o.a o.b (of_z w64 o.n)
