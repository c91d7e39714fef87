-- The table of the 22 operations. Assumes nothing.
use Rattle.std.specs.Prelude.{◌≡◌, ℕ, Bool, true, false, cond, List, [], ◌∷◌, length, codes, Option, ◌==◌, nat_lt, slice_get, slice_index}
use Rattle.std.specs.List.{find}
use Rattle.std.specs.Str.{bytes_eq}
use Rattle.operations.specs.declared.code.Code.{Code}
use Rattle.operations.specs.declared.code.Code.TheVariants.{Stop, Set, Copy, Add, Sub, Addi, Mul, Div, Less, Load, Store, Loadb, Storeb, Jump, Jzero, Call, Ret, Frame, Global, Grab, Release, Out}
use Rattle.operations.specs.declared.code.Row.{Row}
use Rattle.operations.specs.declared.uses.Uses.{Uses}

-- the word of an operation, the columns that it uses, and its extra
pub record Said : Type 0 where
  pub word : List ℕ
  pub uses : Uses
  pub extra : ℕ

abbrev pub columns : Bool → Bool → Bool → Bool → Uses
columns d a b n = record { d = d; a = a; b = b; n = n }

abbrev pub said : List ℕ → Uses → ℕ → Said
said w u e = record { word = w; uses = u; extra = e }

abbrev pub uses_none : Uses
uses_none = columns false false false false

abbrev pub uses_a : Uses
uses_a = columns false true false false

abbrev pub uses_n : Uses
uses_n = columns false false false true

abbrev pub uses_an : Uses
uses_an = columns false true false true

abbrev pub uses_da : Uses
uses_da = columns true true false false

abbrev pub uses_dn : Uses
uses_dn = columns true false false true

abbrev pub uses_abn : Uses
uses_abn = columns false true true true

abbrev pub uses_dab : Uses
uses_dab = columns true true true false

abbrev pub uses_dan : Uses
uses_dan = columns true true false true

-- the table
abbrev pub row : Code → Said
row Stop = said (codes "stop") uses_none 0
row Set = said (codes "set") uses_dn 0
row Copy = said (codes "copy") uses_da 0
row Add = said (codes "add") uses_dab 1
row Sub = said (codes "sub") uses_dab 0
row Addi = said (codes "addi") uses_dan 0
row Mul = said (codes "mul") uses_dab 0
row Div = said (codes "div") uses_dab 0
row Less = said (codes "less") uses_dab 0
row Load = said (codes "load") uses_dan 2
row Store = said (codes "store") uses_abn 2
row Loadb = said (codes "loadb") uses_dan 1
row Storeb = said (codes "storeb") uses_abn 1
row Jump = said (codes "jump") uses_n 0
row Jzero = said (codes "jzero") uses_an 0
row Call = said (codes "call") uses_n 4
row Ret = said (codes "ret") uses_none 4
row Frame = said (codes "frame") uses_dn 0
row Global = said (codes "global") uses_dn 0
row Grab = said (codes "grab") uses_da 1
row Release = said (codes "release") uses_a 1
row Out = said (codes "out") uses_a 0

-- a row of the code says what the table says
pub record Tells (r : Row) (s : Said) : Type 0 where
  pub word : r.word.now ≡ s.word
  pub uses : r.uses ≡ s.uses
  pub extra : r.extra ≡ s.extra

-- the number that stands for each operation
abbrev pub number_of : Code → ℕ
number_of Stop = 0
number_of Set = 1
number_of Copy = 2
number_of Add = 3
number_of Sub = 4
number_of Addi = 5
number_of Mul = 6
number_of Div = 7
number_of Less = 8
number_of Load = 9
number_of Store = 10
number_of Loadb = 11
number_of Storeb = 12
number_of Jump = 13
number_of Jzero = 14
number_of Call = 15
number_of Ret = 16
number_of Frame = 17
number_of Global = 18
number_of Grab = 19
number_of Release = 20
number_of Out = 21

-- the operations, in the order of their numbers
abbrev pub every : List Code
every = Stop ∷ Set ∷ Copy ∷ Add ∷ Sub ∷ Addi ∷ Mul ∷ Div ∷ Less ∷ Load ∷ Store ∷ Loadb ∷ Storeb ∷ Jump ∷ Jzero ∷ Call ∷ Ret ∷ Frame ∷ Global ∷ Grab ∷ Release ∷ Out ∷ []

-- the operation of a number
abbrev pub code_at : ℕ → Option Code
code_at k = slice_get every k

-- the operation of a word
unfoldable pub code_of : List ℕ → Option Code
code_of w = find (λ c. bytes_eq w (row c).word) every

-- the only operation that a word can name, by its first two letters and its length: how the code finds it, with no promise of its own
abbrev pub guessed_by : ℕ → ℕ → ℕ → Code
guessed_by one two size =
    cond (one == 97) (cond (size == 3) Add Addi)
    (cond (one == 99) (cond (two == 111) Copy Call)
    (cond (one == 100) Div
    (cond (one == 102) Frame
    (cond (one == 103) (cond (two == 108) Global Grab)
    (cond (one == 106) (cond (two == 117) Jump Jzero)
    (cond (one == 108) (cond (two == 101) Less (cond (size == 4) Load Loadb))
    (cond (one == 109) Mul
    (cond (one == 114) (cond (size == 3) Ret Release)
    (cond (one == 115) (cond (two == 101) Set (cond (two == 117) Sub (cond (size == 4) Stop (cond (size == 5) Store Storeb))))
    Out)))))))))

abbrev pub guessed : List ℕ → Code
guessed w = cond (nat_lt (length w) 2) Out (guessed_by (slice_index w 0) (slice_index w 1) (length w))
