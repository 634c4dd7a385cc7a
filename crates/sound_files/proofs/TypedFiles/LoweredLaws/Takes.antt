-- The values that a point takes, in the order in which its expressions take them.
use Rattle.std.proofs.Common.{◌≡◌, refl, ap, ◌∙◌, subst, ℕ, suc, ◌+◌, Bool, true, false, List, [], ◌∷◌, ◌++◌, length, length-append, arith, Some, if◌then◌else◌}
use Rattle.std.specs.Prelude.{slice_get}
use Rattle.machine.specs.type_definitions.Entries.{boolean}
use Rattle.machine.specs.typed_tree.Trees.{TypedTree, Name, Component, Designated, Element, Parens, Image, Unary, Binary, Short, IsNull, Aggregate, Alike, New, More}
use Rattle.machine.specs.flow_paths.Objects.{Typing}
use Rattle.machine.specs.flow_paths.Names.{has_call, waiting}
use Rattle.run_codes.specs.Programs.{taken_types}

-- Types stand in a list from the k-th on.
abbrev pub IsAt : List ℕ → ℕ → List ℕ → Type 0
IsAt takes k [] = Unit {0}
IsAt takes k (t ∷ ts) = (slice_get takes k ≡ Some t) × IsAt takes (suc k) ts

pub at_first : (takes : List ℕ) (k : ℕ) (xs ys : List ℕ) → IsAt takes k (xs ++ ys) → IsAt takes k xs
at_first takes k [] ys is = tt
at_first takes k (x ∷ xs) ys is = (is.0, at_first takes (suc k) xs ys is.1)

pub at_second : (takes : List ℕ) (k : ℕ) (xs ys : List ℕ) → IsAt takes k (xs ++ ys) → IsAt takes (k + length xs) ys
at_second takes k [] ys is = subst (λ n. IsAt takes n ys) (omega arith) is
at_second takes k (x ∷ xs) ys is = subst (λ n. IsAt takes n ys) (omega arith) (at_second takes (suc k) xs ys is.1)

at_later : (x : ℕ) (takes : List ℕ) (k : ℕ) (xs : List ℕ) → IsAt takes k xs → IsAt (x ∷ takes) (suc k) xs
at_later x takes k [] is = tt
at_later x takes k (y ∷ xs) is = (is.0, at_later x takes (suc k) xs is.1)

pub at_all : (ts : List ℕ) → IsAt ts 0 ts
at_all [] = tt
at_all (t ∷ ts) = (refl, at_later t ts 0 ts (at_all ts))

both : (xs ys : List ℕ) (m n : ℕ) → length xs ≡ m → length ys ≡ n → length (xs ++ ys) ≡ m + n
both xs ys m n e f = length-append xs ys ∙ ap (λ n. n + length ys) e ∙ ap (λ n. m + n) f

-- An expression takes as many values as wait for it.
pub counted : (s : Typing) (e : TypedTree) → length (taken_types s e) ≡ waiting e
unfolding taken_types waiting
counted s (Name p x steps t) = counted s steps
counted s (Component i rest) = counted s rest
counted s (Designated rest) = counted s rest
counted s (Element index low high rest) =
    both (taken_types s index) (taken_types s rest) (waiting index) (waiting rest) (counted s index) (counted s rest)
counted s (Parens e) = counted s e
counted s (Image t e) = counted s e
counted s (Unary op e) = counted s e
counted s (Binary op a b) = both (taken_types s a) (taken_types s b) (waiting a) (waiting b) (counted s a) (counted s b)
counted s (Short op p a q b) = by (has_call b) (both (taken_types s a) (taken_types s b) (waiting a) (waiting b) (counted s a) (counted s b))
  where
    by : (called : Bool) → length (taken_types s a ++ taken_types s b) ≡ waiting a + waiting b
        → length (if called then boolean ∷ [] else taken_types s a ++ taken_types s b) ≡ (if called then 1 else waiting a + waiting b)
    by true e = refl
    by false e = e
counted s (IsNull equal e) = counted s e
counted s (Aggregate t es) = counted s es
counted s (Alike t e) = counted s e
counted s (New t v) = counted s v
counted s (More e rest) = both (taken_types s e) (taken_types s rest) (waiting e) (waiting rest) (counted s e) (counted s rest)
counted s e = refl

-- What is taken next, after an expression.
pub at_next : (s : Typing) (takes : List ℕ) (k : ℕ) (e : TypedTree) (ys : List ℕ) → IsAt takes k (taken_types s e ++ ys) → IsAt takes (k + waiting e) ys
at_next s takes k e ys is = subst (λ n. IsAt takes (k + n) ys) (counted s e) (at_second takes k (taken_types s e) ys is)

-- and after the first one.
pub at_start : (s : Typing) (takes : List ℕ) (e : TypedTree) (ys : List ℕ) → IsAt takes 0 (taken_types s e ++ ys) → IsAt takes (waiting e) ys
at_start s takes e ys is = subst (λ n. IsAt takes n ys) (omega arith) (at_next s takes 0 e ys is)
