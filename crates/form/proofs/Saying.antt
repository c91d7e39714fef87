-- A column's value: what it is when the reader takes it, and that the reader takes it then. Assumes nothing.
use Rattle.std.proofs.Common.{◌≡◌, ℕ, ◌^◌, ◌<◌, ◌≤◌, Bool, true, false, cond, List, [], ◌∷◌, length, ℤ, pos, negsuc, Some, None, Ok, Option, sym, refl, ap, ◌∙◌, ⊎_elim, arith}
use lib.Signed.{mag}
use Rattle.std.specs.Fmt.{signed_decimal}
use Rattle.std.proofs.lemmas.Fmt.{decimal_nonempty}
use Rattle.std.proofs.lemmas.Bool.{cases_lt, le-leb, lt-leb}
use Rattle.faults.specs.declared.cause.Cause.TheVariants.{BadNumber, UnknownWord}
use Rattle.operations.specs.declared.code.Code.{Code}
use Rattle.operations.specs.declared.code.Code.TheVariants.{Stop, Set, Copy, Add, Sub, Addi, Mul, Div, Less, Load, Store, Loadb, Storeb, Jump, Jzero, Call, Ret, Frame, Global, Grab, Release, Out}
use Rattle.operations.specs.Table.{row, code_of}
use Rattle.operations.proofs.Words.{word_back, word_found}
use Rattle.form.specs.Form.{Number, Register}
use Rattle.numerals.specs.Numerals.{number_in}
use Rattle.form.specs.Reading.{or_else, in_registers, register_of, offset_of, operator_of}
use Rattle.form.specs.Values.{Says, word, number, blank, number_or, says}
use Rattle.numerals.proofs.Plain.{number_told, number_tells}

-- a value that says a number
number_or_lem : (bs : List ℕ) (o : Option ℤ) (z : ℤ) → number_or bs o ≡ number z → o ≡ Some z
number_or_lem bs None z h = let e : ◌≡◌ {A = ℕ} 0 1 = cc in absurd (omega arith)
number_or_lem bs (Some y) z h = let e : y ≡ z = cc in ap Some e

number_said : (v : List ℕ) (z : ℤ) → says v ≡ number z → number_in v ≡ Some z
number_said [] z h = let e : ◌≡◌ {A = ℕ} 0 1 = cc in absurd (omega arith)
number_said (b ∷ bs) z h = number_or_lem (b ∷ bs) (number_in (b ∷ bs)) z h

says_number : (v : List ℕ) (z : ℤ) → 0 < length v → number_in v ≡ Some z → says v ≡ number z
says_number [] z some h = absurd (omega arith)
says_number (b ∷ bs) z some h = ap (number_or (b ∷ bs)) h

signed_some : (z : ℤ) → mag z < 2 ^ 63 → 0 < length (signed_decimal z)
signed_some (pos v) h = decimal_nonempty v (omega arith)
signed_some (negsuc v) h = omega arith

says_signed : (z : ℤ) → mag z < 2 ^ 63 → says (signed_decimal z) ≡ number z
says_signed z h = says_number (signed_decimal z) z (signed_some z h) (number_tells z h)

-- a blank is nothing
blank_or : (bs : List ℕ) (o : Option ℤ) → number_or bs o ≡ blank → ⊥
blank_or bs None h = let e : ◌≡◌ {A = ℕ} 0 1 = cc in omega arith
blank_or bs (Some z) h = let e : ◌≡◌ {A = ℕ} 0 1 = cc in omega arith

blank_said : (v : List ℕ) → says v ≡ blank → v ≡ []
blank_said [] h = refl
blank_said (b ∷ bs) h = absurd (blank_or (b ∷ bs) (number_in (b ∷ bs)) h)

-- a word is its own bytes
word_or : (bs : List ℕ) (o : Option ℤ) (w : List ℕ) → number_or bs o ≡ word w → bs ≡ w
word_or bs None w h = cc
word_or bs (Some z) w h = let e : ◌≡◌ {A = ℕ} 0 1 = cc in absurd (omega arith)

pub word_said : (v w : List ℕ) → says v ≡ word w → v ≡ w
word_said [] w h = let e : ◌≡◌ {A = ℕ} 0 1 = cc in absurd (omega arith)
word_said (b ∷ bs) w h = word_or (b ∷ bs) (number_in (b ∷ bs)) w h

-- the column n
offset_by : (u : Bool) (v : List ℕ) (s : Says) (z : ℤ) → says v ≡ s → offset_of u s ≡ Ok z → Number u v z
offset_by true v (word w) z e h = let x : ◌≡◌ {A = ℕ} 0 1 = cc in absurd (omega arith)
offset_by true v (number y) z e h = let same : y ≡ z = cc in number_told v z (number_said v z (e ∙ ap number same))
offset_by true v blank z e h = let x : ◌≡◌ {A = ℕ} 0 1 = cc in absurd (omega arith)
offset_by false v (word w) z e h = let x : ◌≡◌ {A = ℕ} 0 1 = cc in absurd (omega arith)
offset_by false v (number y) z e h = let x : ◌≡◌ {A = ℕ} 0 1 = cc in absurd (omega arith)
offset_by false v blank z e h = let same : pos 0 ≡ z = cc in (blank_said v e, sym same)

pub offset_told : (u : Bool) (v : List ℕ) (z : ℤ) → offset_of u (says v) ≡ Ok z → Number u v z
offset_told u v z h = offset_by u v (says v) z refl h

pub offset_tells : (u : Bool) (v : List ℕ) (z : ℤ) → Number u v z → offset_of u (says v) ≡ Ok z
offset_tells true v z h = ap (λ x. offset_of true (says x)) h.0 ∙ ap (offset_of true) (says_signed z h.1)
offset_tells false v z h = ap (λ x. offset_of false (says x)) h.0 ∙ ap Ok (sym h.1)

-- a register's column
in_registers_lem : (y : ℤ) (r : ℕ) → or_else (in_registers y) BadNumber ≡ Ok r → (y ≡ pos r) × (r ≤ 15)
in_registers_lem (negsuc v) r h = let x : ◌≡◌ {A = ℕ} 0 1 = cc in absurd (omega arith)
in_registers_lem (pos v) r h =
    ⊎_elim
    (λ (large : 15 < v).
    let none = ap (λ t. or_else (cond t (Some v) None) BadNumber) (lt-leb v 15 large) in
    let x : ◌≡◌ {A = ℕ} 0 1 = cc in absurd (omega arith))
    (λ (small : v ≤ 15).
    let some = ap (λ t. or_else (cond t (Some v) None) BadNumber) (le-leb v 15 small) in
    let same : v ≡ r = cc in
    (ap pos same, omega arith))
    (cases_lt 15 v)

register_by : (u : Bool) (v : List ℕ) (s : Says) (r : ℕ) → says v ≡ s → register_of u s ≡ Ok r → Register u v r
register_by true v (word w) r e h = let x : ◌≡◌ {A = ℕ} 0 1 = cc in absurd (omega arith)
register_by true v (number y) r e h = let p = in_registers_lem y r h in ((number_told v (pos r) (number_said v (pos r) (e ∙ ap number p.0))).0, p.1)
register_by true v blank r e h = let x : ◌≡◌ {A = ℕ} 0 1 = cc in absurd (omega arith)
register_by false v (word w) r e h = let x : ◌≡◌ {A = ℕ} 0 1 = cc in absurd (omega arith)
register_by false v (number y) r e h = let x : ◌≡◌ {A = ℕ} 0 1 = cc in absurd (omega arith)
register_by false v blank r e h = let same : 0 ≡ r = cc in (blank_said v e, sym same)

pub register_told : (u : Bool) (v : List ℕ) (r : ℕ) → register_of u (says v) ≡ Ok r → Register u v r
register_told u v r h = register_by u v (says v) r refl h

pub register_tells : (u : Bool) (v : List ℕ) (r : ℕ) → Register u v r → register_of u (says v) ≡ Ok r
register_tells true v r h =
    ap (λ x. register_of true (says x)) h.0
    ∙ ap (register_of true) (says_signed (pos r) (omega (arith, h.1)))
    ∙ ap (λ t. or_else (cond t (Some r) None) BadNumber) (le-leb r 15 h.1)
register_tells false v r h = ap (λ x. register_of false (says x)) h.0 ∙ ap Ok (sym h.1)

-- the column op
or_else_lem : {A : Type 0} (o : Option A) (x : A) → or_else o UnknownWord ≡ Ok x → o ≡ Some x
or_else_lem None x h = let e : ◌≡◌ {A = ℕ} 0 1 = cc in absurd (omega arith)
or_else_lem (Some y) x h = let e : y ≡ x = cc in ap Some e

operator_by : (v : List ℕ) (s : Says) (c : Code) → says v ≡ s → operator_of s ≡ Ok c → v ≡ (row c).word
operator_by v (word w) c e h = word_said v w e ∙ word_found w c (or_else_lem (code_of w) c h)
operator_by v (number y) c e h = let x : ◌≡◌ {A = ℕ} 0 1 = cc in absurd (omega arith)
operator_by v blank c e h = let x : ◌≡◌ {A = ℕ} 0 1 = cc in absurd (omega arith)

pub operator_told : (v : List ℕ) (c : Code) → operator_of (says v) ≡ Ok c → v ≡ (row c).word
operator_told v c h = operator_by v (says v) c refl h

-- no operation's word is blank or a number
says_word : (c : Code) → says (row c).word ≡ word (row c).word
says_word Stop = refl
says_word Set = refl
says_word Copy = refl
says_word Add = refl
says_word Sub = refl
says_word Addi = refl
says_word Mul = refl
says_word Div = refl
says_word Less = refl
says_word Load = refl
says_word Store = refl
says_word Loadb = refl
says_word Storeb = refl
says_word Jump = refl
says_word Jzero = refl
says_word Call = refl
says_word Ret = refl
says_word Frame = refl
says_word Global = refl
says_word Grab = refl
says_word Release = refl
says_word Out = refl

pub operator_tells : (v : List ℕ) (c : Code) → v ≡ (row c).word → operator_of (says v) ≡ Ok c
operator_tells v c h =
    ap (λ x. operator_of (says x)) h
    ∙ ap operator_of (says_word c)
    ∙ ap (λ o. or_else o UnknownWord) (word_back c)
