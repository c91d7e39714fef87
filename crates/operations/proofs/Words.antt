-- Words of operations: each names one operation, and the guess finds it. Assumes nothing.
use Rattle.std.proofs.Common.{◌≡◌, ℕ, Bool, true, false, cond, List, [], ◌∷◌, Some, None, Option, sym, refl, ap, ◌∙◌, arith}
use Rattle.std.specs.List.{find}
use Rattle.std.specs.Str.{bytes_eq}
use Rattle.std.proofs.lemmas.Bool.{both_ways}
use Rattle.std.proofs.lemmas.Slice.Eq.{bytes_eq-Decides}
use Rattle.operations.specs.declared.code.Code.{Code}
use Rattle.operations.specs.declared.code.Code.TheVariants.{Stop, Set, Copy, Add, Sub, Addi, Mul, Div, Less, Load, Store, Loadb, Storeb, Jump, Jzero, Call, Ret, Frame, Global, Grab, Release, Out}
use Rattle.operations.specs.Table.{row, every, code_of, guessed}

-- a word is read back as its operation
pub word_back : (c : Code) → code_of (row c).word ≡ Some c
unfolding code_of
word_back Stop = refl
word_back Set = refl
word_back Copy = refl
word_back Add = refl
word_back Sub = refl
word_back Addi = refl
word_back Mul = refl
word_back Div = refl
word_back Less = refl
word_back Load = refl
word_back Store = refl
word_back Loadb = refl
word_back Storeb = refl
word_back Jump = refl
word_back Jzero = refl
word_back Call = refl
word_back Ret = refl
word_back Frame = refl
word_back Global = refl
word_back Grab = refl
word_back Release = refl
word_back Out = refl

-- an operation's word is guessed to name it
word_guessed : (c : Code) → guessed (row c).word ≡ c
word_guessed Stop = refl
word_guessed Set = refl
word_guessed Copy = refl
word_guessed Add = refl
word_guessed Sub = refl
word_guessed Addi = refl
word_guessed Mul = refl
word_guessed Div = refl
word_guessed Less = refl
word_guessed Load = refl
word_guessed Store = refl
word_guessed Loadb = refl
word_guessed Storeb = refl
word_guessed Jump = refl
word_guessed Jzero = refl
word_guessed Call = refl
word_guessed Ret = refl
word_guessed Frame = refl
word_guessed Global = refl
word_guessed Grab = refl
word_guessed Release = refl
word_guessed Out = refl

-- what is found passes the test
passes : {X : Type 0} (test : X → Bool) (xs : List X) (x : X) → find test xs ≡ Some x → test x ≡ true
passes test [] x h = cc
passes test (y ∷ ys) x h = grind (arith, passes test ys x)

-- what is read as an operation is its word
pub word_found : (w : List ℕ) (e : Code) → code_of w ≡ Some e → w ≡ (row e).word
unfolding code_of
word_found w e h = (bytes_eq-Decides w (row e).word).0 (passes (λ c. bytes_eq w (row c).word) every e h)

missed : (w : List ℕ) → bytes_eq w (row (guessed w)).word ≡ false → (o : Option Code) → code_of w ≡ o → code_of w ≡ None
missed w differs None h = h
missed w differs (Some e) h =
    let is = word_found w e h in
    let same : guessed w ≡ e = ap guessed is ∙ word_guessed e in
    absurd (both_ways _ differs ((bytes_eq-Decides w (row (guessed w)).word).1 (is ∙ ap (λ x. (row x).word) (sym same))))

guess_by : (w : List ℕ) (t : Bool) → bytes_eq w (row (guessed w)).word ≡ t → code_of w ≡ cond t (Some (guessed w)) None
guess_by w true is = ap code_of ((bytes_eq-Decides w (row (guessed w)).word).0 is) ∙ word_back (guessed w)
guess_by w false is = missed w is (code_of w) refl

-- a word names the operation that is guessed, or none
pub guess_right : (w : List ℕ) → code_of w ≡ cond (bytes_eq w (row (guessed w)).word) (Some (guessed w)) None
guess_right w = guess_by w (bytes_eq w (row (guessed w)).word) refl
