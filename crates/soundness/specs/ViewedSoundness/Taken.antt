-- The values that an expression takes: results of functions, and truth values of short circuits.
use Rattle.std.specs.Prelude.{◌≡◌, ◌⊎◌, ℕ, true, List, [], ◌∷◌, ◌++◌, length, Option, Some, None, if◌then◌else◌}
use Rattle.std.specs.List.{AllByRecursion}
use Rattle.machine.specs.type_definitions.Entries.{integer, boolean}
use Rattle.machine.specs.type_definitions.Types.{full, is_scalar, words}
use Rattle.machine.specs.typed_tree.Trees.{TypedTree, Name, Component, Designated, Element, Call, Image, Parens, Unary, Binary, Short, IsNull, Aggregate, Alike, New, More}
use Rattle.machine.specs.flow_paths.Objects.{Typing, sub_at}
use Rattle.machine.specs.flow_paths.Names.{has_call}
use Rattle.machine.specs.States.{Waiting}

-- Each call that gives a value, or a part of one, has a result of a scalar type.
unfoldable pub GivesPlainly : Typing → TypedTree → Type 0
GivesPlainly s (Call p sub actuals) = (t : ℕ) → (sub_at s sub).result ≡ Some t → is_scalar (full s.table t) ≡ true
GivesPlainly s (Parens e) = GivesPlainly s e
GivesPlainly s (Aggregate t es) = GivesPlainly s es
GivesPlainly s (Alike t e) = GivesPlainly s e
GivesPlainly s (New t v) = GivesPlainly s v
GivesPlainly s (More e rest) = GivesPlainly s e × GivesPlainly s rest
GivesPlainly s e = Unit {0}

-- ---- types

-- A call in an expression has a result.
abbrev pub type_given : Option ℕ → ℕ
type_given (Some t) = t
type_given None = integer

-- The types of the values that an expression takes, the last one first.
unfoldable pub types_taken : Typing → TypedTree → List ℕ
types_taken s (Call p sub actuals) = type_given (sub_at s sub).result ∷ []
types_taken s (Name p x steps t) = types_taken s steps
types_taken s (Component i rest) = types_taken s rest
types_taken s (Designated rest) = types_taken s rest
types_taken s (Element index low high rest) = types_taken s rest ++ types_taken s index
types_taken s (Image t e) = types_taken s e
types_taken s (Parens e) = types_taken s e
types_taken s (Unary op e) = types_taken s e
types_taken s (Binary op a b) = types_taken s b ++ types_taken s a
types_taken s (Short op p a q b) = if has_call b then boolean ∷ [] else types_taken s b ++ types_taken s a
types_taken s (IsNull equal e) = types_taken s e
types_taken s (Aggregate t parts) = types_taken s parts
types_taken s (Alike t e) = types_taken s e
types_taken s (New t v) = types_taken s v
types_taken s (More e rest) = types_taken s rest ++ types_taken s e
types_taken s _ = []

abbrev pub AreScalarTypes : Typing → List ℕ → Type 0
AreScalarTypes s types = AllByRecursion (λ t. is_scalar (full s.table t) ≡ true) types

-- Names and scalar expressions take values of scalar types alone.
unfoldable pub TakesFit : Typing → TypedTree → Type 0
TakesFit s (Call p sub actuals) = Unit {0}
TakesFit s (Parens e) = TakesFit s e
TakesFit s (Aggregate t es) = TakesFit s es
TakesFit s (Alike t e) = TakesFit s e
TakesFit s (New t v) = TakesFit s v
TakesFit s (More e rest) = TakesFit s e × TakesFit s rest
TakesFit s e = AreScalarTypes s (types_taken s e)

-- ---- values

-- A value may be taken as one of a type: both types are scalar, or they are the same. It has as many words as its type.
abbrev pub IsOfType : Typing → ℕ → Waiting → Type 0
IsOfType s t v =
    (((is_scalar (full s.table t) ≡ true) × (is_scalar (full s.table v.of) ≡ true)) ⊎ (t ≡ v.of)) × (length v.words ≡ words s.table v.of)

abbrev pub AreOfTypes : Typing → List ℕ → List Waiting → Type 0
AreOfTypes s [] [] = Unit {0}
AreOfTypes s (t ∷ types) (v ∷ values) = IsOfType s t v × AreOfTypes s types values
AreOfTypes s _ _ = ⊥

abbrev pub AreScalarValues : Typing → List Waiting → Type 0
AreScalarValues s values = AllByRecursion (λ (v : Waiting). is_scalar (full s.table v.of) ≡ true) values
