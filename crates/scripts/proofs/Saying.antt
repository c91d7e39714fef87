-- A line is read as a command exactly where it is the command's writing. Assumes nothing.
use Rattle.std.proofs.Common.{◌≡◌, ℕ, ◌^◌, ◌<◌, Bool, true, false, cond, List, ◌++◌, Some, None, codes, decimal, Option, Result, sym, refl, ap, ◌∙◌, arith}
use Rattle.std.specs.Option.{ok_or, option_map, option_or}
use Rattle.std.specs.Result.{result_ok}
use Rattle.std.specs.Str.{bytes_eq}
use Rattle.std.proofs.lemmas.Slice.Eq.{bytes_eq-Decides}
use Rattle.std.proofs.lemmas.Bool.{cond-true, cond-false}
use Rattle.numerals.specs.Numerals.{natural_in}
use Rattle.numerals.proofs.Plain.{writes_natural}
use Rattle.scripts.specs.declared.command.Command.{Command}
use Rattle.scripts.specs.declared.command.Command.TheVariants.{Heap, Rack, Take, Give, Holds, Draw, Put, Clear, Sheet}
use Rattle.scripts.specs.declared.names.DirectName.{DirectName}
use Rattle.scripts.specs.declared.names.DirectName.TheVariants.{BestFit, Slots}
use Rattle.scripts.specs.declared.names.HeapName.{HeapName}
use Rattle.scripts.specs.declared.names.HeapName.TheVariants.{Alone, Quarantined, TwiceQuarantined}
use Rattle.scripts.specs.declared.names.RackName.{RackName}
use Rattle.scripts.specs.declared.names.RackName.TheVariants.{Stack, Ring}
use Rattle.scripts.specs.Words.{after, past}
use Rattle.scripts.specs.Names.{direct_written, heap_written, rack_written, direct_of, below_one, heap_of, rack_of}
use Rattle.scripts.specs.declared.command.NotUnderstood.{NotUnderstood}
use Rattle.scripts.specs.Commands.{written, Short, number_after, named_of, plain_of, counted_of, command_of, Says, Reads}
use Rattle.scripts.proofs.Reading.{after_told, ok_of}

-- no answer is none
nothing : {P : Type 0} {A : Type 0} {a : A} → None ≡ Some a → P
nothing {P} {A} {a} e = absurd (let z : ◌≡◌ {A = ℕ} 0 1 = cc in omega arith)

-- a test of whole words, and then the others
module _ {A : Type 0} (w words : List ℕ) (a b : A) (other : Option A) (P : A → Type 0) where
  words_told : (w ≡ words → P a) → (other ≡ Some b → P b) → cond (bytes_eq w words) (Some a) other ≡ Some b → P b
  words_told here there h = go (bytes_eq w words) refl
    where
      go : (t : Bool) → bytes_eq w words ≡ t → P b
      go true e =
          let first = cond-true _ (Some a) other e in
          let same : a ≡ b = cc in
          rw (← same) (here ((bytes_eq-Decides w words).0 e))
      go false e = there (sym (cond-false _ (Some a) other e) ∙ h)

-- a test of the words in front, and then the others
module _ {A : Type 0} (ws line : List ℕ) (f : List ℕ → Option A) (a : A) (other : Option A) (P : Type 0) where
  past_told : ((rest : List ℕ) → line ≡ ws ++ rest → f rest ≡ Some a → P) → (other ≡ Some a → P) → past (after ws line) f other ≡ Some a → P
  past_told here there h = go (after ws line) refl h
    where
      go : (o : Option (List ℕ)) → after ws line ≡ o → past o f other ≡ Some a → P
      go (Some rest) e k = here rest (after_told ws line rest e) k
      go None e k = there k

-- what an answer was made from
mapped_told : {A B : Type 0} (f : A → B) (o : Option A) (b : B) → option_map f o ≡ Some b → (a : A) × (o ≡ Some a) × (f a ≡ b)
mapped_told f (Some a) b h = (a, refl, cc)
mapped_told f None b h = nothing h

direct_told : (w : List ℕ) (d : DirectName) → direct_of w ≡ Some d → w ≡ direct_written d
direct_told w d =
    words_told w (codes "best-fit") BestFit d _ (λ x. w ≡ direct_written x) (λ e. e)
    (words_told w (codes "slots") Slots d None (λ x. w ≡ direct_written x) (λ e. e) nothing)

rack_told : (w : List ℕ) (r : RackName) → rack_of w ≡ Some r → w ≡ rack_written r
rack_told w r =
    words_told w (codes "stack") Stack r _ (λ x. w ≡ rack_written x) (λ e. e)
    (words_told w (codes "ring") Ring r None (λ x. w ≡ rack_written x) (λ e. e) nothing)

heap_told : (w : List ℕ) (h : HeapName) → heap_of w ≡ Some h → w ≡ heap_written h
heap_told w h =
    past_told (codes "quarantine ") w below_one h _ _
    (λ rest is.
    past_told (codes "quarantine ") rest (λ below. option_map TwiceQuarantined (direct_of below)) h _ _
    (λ below more k. let m = mapped_told TwiceQuarantined (direct_of below) h k in is ∙ ap (λ x. codes "quarantine " ++ x) (more ∙ ap (λ x. codes "quarantine " ++ x) (direct_told below m.0 m.1)) ∙ ap heap_written m.2)
    (λ k. let m = mapped_told Quarantined (direct_of rest) h k in is ∙ ap (λ x. codes "quarantine " ++ x) (direct_told rest m.0 m.1) ∙ ap heap_written m.2))
    (λ k. let m = mapped_told Alone (direct_of w) h k in direct_told w m.0 m.1 ∙ ap heap_written m.2)

abbrev Told : List ℕ → Command → Type 0
Told line c = (line ≡ written c) × Short c

-- one answer, or else the other
or_told : {A : Type 0} (o other : Option A) (a : A) (P : Type 0) → (o ≡ Some a → P) → (other ≡ Some a → P) → option_or o other ≡ Some a → P
or_told (Some x) other a P here there h = here h
or_told None other a P here there h = there h

-- a line of words and a number
number_told : (line ws : List ℕ) (f : ℕ → Command) → ((n : ℕ) → written (f n) ≡ ws ++ decimal n) → ((n : ℕ) → n < 2 ^ 64 → Short (f n)) → (c : Command) → option_map f (number_after ws line) ≡ Some c → Told line c
number_told line ws f shape short c h =
    let m = mapped_told f (number_after ws line) c h in
    past_told ws line natural_in m.0 None (Told line c)
    (λ ds is k.
    let t = (writes_natural ds _ refl).told m.0 k in
    rw (← m.2) (is ∙ ap (λ x. ws ++ x) t.0 ∙ sym (shape m.0), short m.0 t.1))
    nothing m.1

plain_told : (line : List ℕ) (c : Command) → plain_of line ≡ Some c → Told line c
plain_told line c =
    words_told line (codes "draw") Draw c _ (Told line) (λ e. (e, tt))
    (words_told line (codes "clear") Clear c _ (Told line) (λ e. (e, tt))
    (words_told line (codes "sheet") Sheet c None (Told line) (λ e. (e, tt)) nothing))

counted_told : (line : List ℕ) (c : Command) → counted_of line ≡ Some c → Told line c
counted_told line c =
    or_told _ _ c _ (number_told line (codes "take ") Take (λ n. refl) (λ n s. s) c)
    (or_told _ _ c _ (number_told line (codes "give ") Give (λ n. refl) (λ n s. s) c)
    (or_told _ _ c _ (number_told line (codes "holds ") Holds (λ n. refl) (λ n s. s) c)
    (number_told line (codes "put ") Put (λ n. refl) (λ n s. s) c)))

named_told : (line : List ℕ) (c : Command) → named_of line ≡ Some c → Told line c
named_told line c =
    past_told (codes "heap ") line _ c _ _
    (λ w is k. let m = mapped_told Heap (heap_of w) c k in rw (← m.2) (is ∙ ap (λ x. codes "heap " ++ x) (heap_told w m.0 m.1), tt))
    (past_told (codes "rack ") line _ c None _
    (λ w is k. let m = mapped_told Rack (rack_of w) c k in rw (← m.2) (is ∙ ap (λ x. codes "rack " ++ x) (rack_told w m.0 m.1), tt))
    nothing)

command_told : (line : List ℕ) (c : Command) → command_of line ≡ Some c → Told line c
command_told line c = or_told _ _ c _ (named_told line c) (or_told _ _ c _ (counted_told line c) (plain_told line c))

-- a number's writing is read back
number_tells : (n : ℕ) → n < 2 ^ 64 → natural_in (decimal n) ≡ Some n
number_tells n s = (writes_natural (decimal n) _ refl).tells n refl s

command_tells : (c : Command) → Short c → command_of (written c) ≡ Some c
command_tells (Heap (Alone BestFit)) s = refl
command_tells (Heap (Alone Slots)) s = refl
command_tells (Heap (Quarantined BestFit)) s = refl
command_tells (Heap (Quarantined Slots)) s = refl
command_tells (Heap (TwiceQuarantined BestFit)) s = refl
command_tells (Heap (TwiceQuarantined Slots)) s = refl
command_tells (Rack Stack) s = refl
command_tells (Rack Ring) s = refl
command_tells (Take n) s = ap (λ o. option_or (option_or (option_map Take o) None) None) (number_tells n s)
command_tells (Give n) s = ap (λ o. option_or (option_or (option_map Give o) None) None) (number_tells n s)
command_tells (Holds n) s = ap (λ o. option_or (option_or (option_map Holds o) None) None) (number_tells n s)
command_tells Draw s = refl
command_tells (Put n) s = ap (λ o. option_or (option_map Put o) None) (number_tells n s)
command_tells Clear s = refl
command_tells Sheet s = refl

-- the law of reading a line
pub says : (line : List ℕ) (r : Option Command) → r ≡ command_of line → Says line r
says line r e = record {
  told = λ c h. command_told line c (sym e ∙ h);
  tells = λ c is s. e ∙ ap command_of is ∙ command_tells c s;
}

-- what reading gives is the command that the line says, or that it is none
pub reads : (line : List ℕ) (o : Option Command) (r : Result Command NotUnderstood) → o ≡ command_of line → r ≡ ok_or o (record {}) → Reads line r
reads line o r e k = (k ∙ ap (λ x. ok_or x (record {})) e, says line (result_ok r) (ap result_ok k ∙ ok_of o (record {}) ∙ e))
