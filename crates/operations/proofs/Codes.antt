-- Numbers of operations: each stands for one operation. Assumes nothing.
use Rattle.std.proofs.Common.{◌≡◌, ℕ, zero, suc, ◌+◌, Bool, true, ◌&&◌, eqb, List, [], ◌∷◌, slice_get, Some, sym, refl, ap, ◌∙◌, arith}
use Rattle.std.proofs.lemmas.Bool.{and_parts, eqb-true}
use Rattle.operations.specs.declared.code.Code.{Code}
use Rattle.operations.specs.declared.code.Code.TheVariants.{Stop, Set, Copy, Add, Sub, Addi, Mul, Div, Less, Load, Store, Loadb, Storeb, Jump, Jzero, Call, Ret, Frame, Global, Grab, Release, Out}
use Rattle.operations.specs.Table.{number_of, every, code_at}

-- the operation of an operation's number is that operation
pub number_back : (c : Code) → code_at (number_of c) ≡ Some c
number_back Stop = refl
number_back Set = refl
number_back Copy = refl
number_back Add = refl
number_back Sub = refl
number_back Addi = refl
number_back Mul = refl
number_back Div = refl
number_back Less = refl
number_back Load = refl
number_back Store = refl
number_back Loadb = refl
number_back Storeb = refl
number_back Jump = refl
number_back Jzero = refl
number_back Call = refl
number_back Ret = refl
number_back Frame = refl
number_back Global = refl
number_back Grab = refl
number_back Release = refl
number_back Out = refl

-- the operations are numbered from base on
unfoldable numbered : ℕ → List Code → Bool
numbered base [] = true
numbered base (c ∷ cs) = eqb (number_of c) base && numbered (suc base) cs

number_in : (base : ℕ) (cs : List Code) (k : ℕ) (e : Code) → numbered base cs ≡ true → slice_get cs k ≡ Some e → number_of e ≡ base + k
unfolding numbered
number_in base [] k e h is = cc
number_in base (c ∷ cs) zero e h is =
    let same : c ≡ e = cc in
    let first = eqb-true _ _ (and_parts (eqb (number_of c) base) _ h).0 in
    ap number_of (sym same) ∙ first ∙ omega arith
number_in base (c ∷ cs) (suc k) e h is =
    number_in (suc base) cs k e (and_parts (eqb (number_of c) base) _ h).1 is ∙ omega arith

-- a number that stands for an operation is its number
pub number_found : (k : ℕ) (e : Code) → code_at k ≡ Some e → k ≡ number_of e
unfolding numbered
number_found k e is = sym (number_in 0 every k e refl is ∙ omega arith)
