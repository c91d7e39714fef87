-- The machine agrees with the book over every history. Assumes nothing.
use Rattle.std.proofs.Common.{◌≡◌, ℕ, zero, suc, ◌+◌, ◌-◌, ◌<◌, Bool, false, List, [], get_or, replicate, Some, None, Option, sym, refl, ap, ◌∙◌, arith}
use Rattle.std.proofs.lemmas.Bool.{true≢false}
use Rattle.std.proofs.lemmas.List.{length-replicate, get_or-replicate}
use Rattle.heaps.specs.Rule.{HeapRule}
use Rattle.heaps.specs.Points.{Points, cleared}
use Rattle.racks.specs.Rule.{RackRule}
use Rattle.racks.specs.Points.{RackPoints, cleared as rack-cleared}
use Rattle.model.specs.Sheet.{player}
use Rattle.model.specs.declared.sidecar.Sidecar.{Sidecar}
use Rattle.model.specs.Machine.{Core, side, machine, made}
use Rattle.model.specs.Grants.{Outline, globals, living_block, living_frame}
use Rattle.model.specs.History.{Book, outline, book, opened, born}
use Rattle.model.specs.Driving.{HostCall}
use Rattle.model.specs.Agreement.{idle, descent, book_after, machine_after, Agree}
use Rattle.model.proofs.Driving.{Paired}
use Rattle.model.proofs.Tracking.{answers_level, leads_level}
use Rattle.model.proofs.Sheeting.{Both, Rows, rows_get, Steps, acts_like, closes_like}
use Rattle.model.proofs.Counts.{count_none}
use Rattle.model.proofs.Relation.{World, Alike, Kept, Ties, Rel}
use Rattle.model.proofs.Access.{check_same, load_like, mark_like, loadb_like, store_like, storeb_like}
use Rattle.model.proofs.Releasing.{release_like, frame_like, leave_like}
use Rattle.model.proofs.Allies.{Ally}
use Rattle.model.proofs.Granting.{enter_like, grab_like}

module _ (H : HeapRule) (R : RackRule) (P : Points H) (Q : RackPoints R) where
  pub steps : Steps (machine H R) (book H) World Alike (Rel H R)
  steps = record {
    check = λ w k c b s g x n r a. check_same H R w k c b r s g a x n;
    load = λ w k c b s g x r a e. load_like H R w k c b r s g a x e;
    tag_at = λ w k c b s g x r a e. mark_like H R w k c b r s g a x e;
    loadb = λ w k c b s g x r a e. loadb_like H R w k c b r s g a x e;
    store = λ w k c b s g x v u₁ u₂ r a e t. store_like H R w k c b r s g a x v u₁ u₂ e t;
    storeb = λ w k c b s g x v r a e. storeb_like H R w k c b r s g a x v e;
    keys = λ w k c b r. rw (r.issued, r.ceiling);
    grab = λ w k c b n r. grab_like H R P Q w k c b r n;
    release = λ w k c b s g x r a. release_like H R P Q w k c b r s g x a;
    enter = λ w k c b r l. enter_like H R P Q w k c b r l;
    leave = λ w k c b r. leave_like H R P Q w k c b r;
    frame = λ w k c b r. frame_like H R P Q w k c b r;
    global = λ w k c b r. let f = r.ties.first in (f.0, sym f.1);
  }

  module _ (top : ℕ) (s : H.State) (r : R.State) where
    world : World
    world = record { many = 1; of = λ _. side 0 1024 1 0 }

    abbrev core : Core H.State R.State
    core = (made H R top s r).store

    abbrev page : Book H.State
    page = (opened H top s).store

    only : (g : ℕ) → g < 1 → g ≡ 0
    only g l = omega arith

    blank : (f : Outline → Bool) → f (born globals 0 1024 1024).outline ≡ false → (g : ℕ) → g < 1 → f (outline page g) ≡ false
    blank f e g l = rw (only g l) e

    ties₀ : Ties H R world 0 (λ g. outline page g) core.locks core.heap core.rack
    unfolding world
    ties₀ = record {
      places = ap suc (length-replicate {A = ℕ} 319 0);
      first = (omega arith, refl);
      fits = λ g l. rw (only g l) (record { key = refl; base = refl; bound = refl; even = refl; whole = refl; roomy = omega arith; inside = omega arith; zone = (refl, omega arith) });
      locked = λ g l. rw (only g l);
      apart = λ g h a b ne. absurd (ne (only g a.0 ∙ sym (only h b.0)));
      blocks = λ g l t. absurd (true≢false (sym t ∙ blank living_block refl g l));
      counted = count_none (R.out (R.clear r)) 256 (λ i _. Q.clears r i) ∙ sym (count_none (λ g. living_block (outline page g)) 1 (λ g l. blank living_block refl g l));
      deep = omega arith;
      frames = λ g l t. absurd (true≢false (sym t ∙ blank living_frame refl g l));
      ranks = λ g h l m t u. absurd (true≢false (sym u ∙ blank living_frame refl h m));
      opens = λ j l. absurd (omega arith);
      heap_sound = cleared s;
      rack_sound = rack-cleared r;
    }

    kept₀ : Kept world (born globals 0 1024 1024) (replicate 8192 0) (replicate 1024 None)
    kept₀ = record {
      size = length-replicate {A = ℕ} 1024 0;
      marks = length-replicate {A = Option ℕ} 128 None;
      bytes = λ i l. let e : 0 + i ≡ i = omega arith in rw (e, get_or-replicate {A = ℕ} 8192 i 0 0 (omega arith), get_or-replicate {A = ℕ} 1024 i 0 0 l);
      tags = λ i l. let e : 0 + i ≡ i = omega arith in rw (e, get_or-replicate {A = Option Sidecar} 1024 i None None (omega arith), get_or-replicate {A = Option ℕ} 128 i None None l) tt;
    }

    rel₀ : Rel H R world 0 core page
    unfolding world
    rel₀ = record {
      many = refl;
      issued = refl;
      ceiling = refl;
      heap = refl;
      ties = ties₀;
      stored = record { room = length-replicate {A = ℕ} 8192 0; words = length-replicate {A = Option Sidecar} 1024 None; kept = λ g l _. rw (only g l) kept₀ };
    }

    pub begin : Paired (Ally H R) (idle (made H R top s r)) (idle (opened H top s))
    begin = record { counter = refl; phase = refl; player = record { ghost = world; common = refl; tags = rows 16; store = rel₀ } }
      where
        rows : (n : ℕ) → Rows (Both (Alike world)) (replicate n None) (replicate n None)
        rows zero = tt
        rows (suc n) = (tt, rows n)

    pub same_descent : (w : World) (k : ℕ) (c : Core H.State R.State) (b : Book H.State) → Rel H R w k c b → (o : Option Sidecar) (p : Option ℕ) → Both (Alike w) o p → descent o ≡ p
    same_descent w k c b r None None h = refl
    same_descent w k c b r None (Some g) h = absurd h
    same_descent w k c b r (Some x) None h = absurd h
    same_descent w k c b r (Some x) (Some g) h =
        let f = r.ties.fits g h.0 in
        let e : x.key - 1 ≡ g = rw (h.1, f.key) (omega arith) in
        rw e

    pub agrees : (qs : List HostCall) → Agree H R top s r qs
    agrees qs = record {
      answers = answers_level (player (machine H R)) (player (book H)) (λ _. Ally H R) (λ _. acts_like (machine H R) (book H) World Alike (Rel H R) steps) (λ _. closes_like (machine H R) (book H) World Alike (Rel H R) steps) [] qs _ _ begin;
      words = λ i. ap (λ (x : _). get_or x.words i 0) pair.player.common;
      descents = λ i. same_descent pair.player.ghost _ _ _ pair.player.store _ _ (rows_get (Both (Alike pair.player.ghost)) (machine_after H R top s r qs).player.tags (book_after H R top s r qs).player.tags i None None tt pair.player.tags);
    }
      where
        pair : Paired (Ally H R) (machine_after H R top s r qs) (book_after H R top s r qs)
        pair = (leads_level (player (machine H R)) (player (book H)) (λ _. Ally H R) (λ _. acts_like (machine H R) (book H) World Alike (Rel H R) steps) (λ _. closes_like (machine H R) (book H) World Alike (Rel H R) steps) [] qs _ _ begin).1
