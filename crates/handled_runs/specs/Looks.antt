-- What is asked of what a code reads, so that both heaps give the same.
--
-- Each word that it reads has the kind that the code is of, and none of a memory is gone.
use Rattle.std.specs.Prelude.{◌≡◌, ◌+◌, ℕ, List, [], ◌∷◌, map, slice_get, Some, ℤ, pos, negsuc, unsigned_abs}
use Rattle.numbered_cells.specs.run_values.declared.value.Kind.{Kind}
use Rattle.numbered_cells.specs.run_values.declared.value.Kind.TheVariants as sort
use Rattle.numbered_cells.specs.run_codes.Codes.{Code, Number, Local, Global, Via, Scaled, Plus, Unary, Binary, Short, IsNull, Waiting, EndOfFile, Nothing, Place, InFrame, InPackages, Behind}
use Rattle.numbered_cells.specs.run_values.Values.{kind}
use Rattle.numbered_cells.specs.kept_cells.Cells.{Cell}
use Rattle.numbered_cells.specs.run_codes.Flat.{Flat, Given, word, words_in}

-- A kind of words that name no cell.
abbrev pub IsData : Kind → Type 0
IsData sort.Access = ⊥
IsData sort.Int = Unit {0}
IsData sort.Enum = Unit {0}

-- Of access values null alone is written as a number.
abbrev pub IsNumber : Kind → ℤ → Type 0
IsNumber sort.Access z = z ≡ pos 0
IsNumber sort.Int z = Unit {0}
IsNumber sort.Enum z = Unit {0}

-- It isn't gone.
abbrev pub IsKept : ℤ → Type 0
IsKept (pos n) = Unit {0}
IsKept (negsuc n) = ⊥

-- `here` has the kinds of the words of the stack, `taken` those of the values that the point takes.
unfoldable pub Looks : Flat → List Kind → List Kind → Code → Kind → Type 0
Looks m here taken (Number z) k = IsNumber k z
Looks m here taken (Local at i) k =
    Looks m here taken i sort.Int × ((o : ℤ) → word m i ≡ Given o → slice_get here (m.base + at + unsigned_abs o) ≡ Some k)
Looks m here taken (Global at i) k =
    Looks m here taken i sort.Int × ((o : ℤ) → word m i ≡ Given o → slice_get here (at + unsigned_abs o) ≡ Some k)
Looks m here taken (Via p at i j) k = (j ≡ k) × Looks m here taken i sort.Int × Looks m here taken p sort.Access
Looks m here taken (Scaled i low high size) k = IsData k × Looks m here taken i sort.Int
Looks m here taken (Plus a b) k = IsData k × Looks m here taken a sort.Int × Looks m here taken b sort.Int
Looks m here taken (Unary op a) k = IsData k × (j : Kind) × IsData j × Looks m here taken a j
Looks m here taken (Binary op a b) k =
    IsData k × ((j : Kind) × IsData j × Looks m here taken a j) × ((j : Kind) × IsData j × Looks m here taken b j)
Looks m here taken (Short op a b) k =
    IsData k × ((j : Kind) × IsData j × Looks m here taken a j) × ((j : Kind) × IsData j × Looks m here taken b j)
Looks m here taken (IsNull equal p) k = IsData k × Looks m here taken p sort.Access
Looks m here taken (Waiting at) k = slice_get taken at ≡ Some k
Looks m here taken EndOfFile k = IsData k
Looks m here taken Nothing k = Unit {0}

-- So it is with places.
abbrev pub LooksAt : Flat → List Kind → List Kind → Place → Type 0
LooksAt m here taken (InFrame at i) = Looks m here taken i sort.Int
LooksAt m here taken (InPackages at i) = Looks m here taken i sort.Int
LooksAt m here taken (Behind p at i) = Looks m here taken i sort.Int × Looks m here taken p sort.Access

-- ---- words of a type

-- The kinds at the front are these.
abbrev pub IsFront : List Kind → List Kind → Type 0
IsFront [] js = Unit {0}
IsFront (k ∷ ks) [] = ⊥
IsFront (k ∷ ks) (j ∷ js) = (k ≡ j) × IsFront ks js

-- No access value among words of these kinds is gone.
abbrev pub IsKeptAs : Kind → ℤ → Type 0
IsKeptAs sort.Access z = IsKept z
IsKeptAs sort.Int z = Unit {0}
IsKeptAs sort.Enum z = Unit {0}

abbrev pub AreKept : List Kind → List ℤ → Type 0
AreKept (k ∷ ks) (z ∷ zs) = IsKeptAs k z × AreKept ks zs
AreKept ks zs = Unit {0}

-- None of them is gone, of the stack, of what the point takes and of cells.
pub record IsClear (here taken : List Kind) (m : Flat) : Type 0 where
  pub stack : AreKept here m.stack
  pub waits : AreKept taken m.waits
  pub cells : (n : ℕ) (c : Cell) → slice_get m.cells n ≡ Some c → AreKept (map kind c.words) (words_in c.words)
