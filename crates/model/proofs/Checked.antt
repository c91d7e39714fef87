-- What holds of a fault, and of what is done once the checks pass, holds of an access and of a release. Assumes nothing.
use Rattle.std.proofs.Common.{◌≡◌, ℕ, Bool, true, false, Some, None, Option, Ok, Err, Result, refl}
use Rattle.faults.specs.declared.cause.Cause.{Cause}
use Rattle.faults.specs.declared.cause.Cause.TheVariants.{NoSidecar, Ended, NotFromHeap}
use Rattle.model.specs.declared.way.Way.TheVariants.{Next}
use Rattle.model.specs.Sheet.{Backing, Did, State, did, faulted, keep, kept, unless, access, released}
use Rattle.std.specs.Result.{result_and}
use Rattle.heaps.specs.Rule.{HeapRule}
use Rattle.model.specs.Grants.{is_block}
use Rattle.model.specs.Machine.{refuses}
use Rattle.model.specs.History.{outline, ends, book, OfBook}

module _ {T H : Type 0} (K : Backing T H) (m : State T H) (P : Option T → Did (State T H) → Type 0) (bad : (t : Option T) (f : Cause) → P t (faulted f m)) where
  checked : (t : Option T) (r : Result Unit Cause) (m' : State T H) → (r ≡ Ok tt → P t (did Next m')) → P t (unless r m m')
  checked t (Ok u) m' good = good refl
  checked t (Err f) m' good = bad t f

  pub accessed : (t : Option T) (x k : ℕ) (f : T → State T H) → ((s : T) → K.check m.store s x k ≡ Ok tt → P (Some s) (did Next (f s))) → P t (access K m t x k f)
  accessed None x k f good = bad None NoSidecar
  accessed (Some s) x k f good = checked (Some s) (K.check m.store s x k) (f s) (good s)

-- a release of the book's
module _ (H : HeapRule) (m : OfBook H) (P : Option ℕ → Did (OfBook H) → Type 0) (bad : (t : Option ℕ) (f : Cause) → P t (faulted f m)) where
  pub freed : (t : Option ℕ) (x : ℕ) → ((g : ℕ) → (outline m.store g).living ≡ true → is_block (outline m.store g).kind ≡ true → P (Some g) (did Next (keep m (ends H m.store g)))) → P t (released (book H) m t x)
  freed None x good = bad None NoSidecar
  freed (Some g) x good = go (outline m.store g).living (is_block (outline m.store g).kind) (good g)
    where
      go : (u v : Bool) → (u ≡ true → v ≡ true → P (Some g) (did Next (keep m (ends H m.store g)))) → P (Some g) (kept m (result_and (refuses u v) (Ok (ends H m.store g))))
      go false v k = bad (Some g) Ended
      go true false k = bad (Some g) NotFromHeap
      go true true k = k refl refl
