-- Code in which what functions give is as asked: in names, scalar expressions and actuals, and where a value is made of it.
use Rattle.std.specs.Prelude.{◌≡◌, ◌⊎◌, ℕ, true, false, Some, None}
use Rattle.machine.specs.spark_base.declared.position.Pos.{Pos}
use Rattle.machine.specs.type_definitions.Types.{full, is_scalar, is_owning}
use Rattle.machine.specs.typed_tree.Trees.{TypedTree, Name, Component, Designated, Element, Image, Parens, Unary, Binary, Short, IsNull, Aggregate, Alike, New, NoMore, TypedCode, Declare, Assign, Output, Input, Release, If, Branch, Case, When, Loop, While, For, Exit, Return, Block}
use Rattle.machine.specs.typed_tree.Trees as typed
use Rattle.machine.specs.flow_paths.Instructions.{Instruction}
use Rattle.machine.specs.flow_paths.Instructions as instruction
use Rattle.machine.specs.flow_paths.Names.{has_call}
use Rattle.machine.specs.flow_paths.Objects.{Typing, sub_at, is_anonymous}

-- ---- expressions

-- What functions give in an expression. Where it is the value or a part of it, they are of the third kind; in names and scalar
-- expressions of the first kind; and in actuals of the second one.
unfoldable pub CallsFit : (ask passed kind : ℕ → Type 0) → TypedTree → Type 0
CallsFit ask passed kind (typed.Call p sub actuals) = kind sub × CallsFit ask passed passed actuals
CallsFit ask passed kind (Parens e) = CallsFit ask passed kind e
CallsFit ask passed kind (Aggregate t es) = CallsFit ask passed kind es
CallsFit ask passed kind (Alike t e) = CallsFit ask passed kind e
CallsFit ask passed kind (New t v) = CallsFit ask passed kind v
CallsFit ask passed kind (typed.More e rest) = CallsFit ask passed kind e × CallsFit ask passed kind rest
CallsFit ask passed kind (Name p x steps t) = CallsFit ask passed ask steps
CallsFit ask passed kind (Component i rest) = CallsFit ask passed ask rest
CallsFit ask passed kind (Designated rest) = CallsFit ask passed ask rest
CallsFit ask passed kind (Element index low high rest) = CallsFit ask passed ask index × CallsFit ask passed ask rest
CallsFit ask passed kind (Image t e) = CallsFit ask passed ask e
CallsFit ask passed kind (Unary op e) = CallsFit ask passed ask e
CallsFit ask passed kind (Binary op a b) = CallsFit ask passed ask a × CallsFit ask passed ask b
CallsFit ask passed kind (Short op p a q b) = CallsFit ask passed ask a × CallsFit ask passed ask b
CallsFit ask passed kind (IsNull equal e) = CallsFit ask passed ask e
CallsFit ask passed kind e = Unit {0}

-- A name or a scalar expression.
abbrev pub CallsOnly : (ask passed : ℕ → Type 0) → TypedTree → Type 0
CallsOnly ask passed e = CallsFit ask passed ask e

-- Actuals.
abbrev pub PassedFit : (ask passed : ℕ → Type 0) → TypedTree → Type 0
PassedFit ask passed e = CallsFit ask passed passed e

-- An expression that stands for a value.
abbrev pub SourceFits : (ask passed alone : ℕ → Type 0) → TypedTree → Type 0
SourceFits ask passed alone e = CallsFit ask passed alone e

-- ---- statements

-- A value is so; or it is what one call gives, of a function of the third kind.
abbrev pub ValueFits : (ask passed alone single : ℕ → Type 0) → TypedTree → Type 0
ValueFits ask passed alone single v =
    SourceFits ask passed alone v ⊎ ((q : Pos) × (n : ℕ) × (a : TypedTree) × (v ≡ typed.More (typed.Call q n a) NoMore) × single n × PassedFit ask passed a)

-- Likewise where it is assigned. The name that such a call is assigned to has no call.
abbrev pub StoredFits : (ask passed alone single : ℕ → Type 0) → TypedTree → TypedTree → Type 0
StoredFits ask passed alone single target e =
    SourceFits ask passed alone e
    ⊎ ((q : Pos) × (n : ℕ) × (a : TypedTree) × (e ≡ typed.Call q n a) × single n × PassedFit ask passed a
    × (r : Pos) × (x : ℕ) × (path : TypedTree) × (u : ℕ) × (target ≡ Name r x path u) × (has_call path ≡ false))

-- So are the expressions of code.
unfoldable mutual
  pub CodeFits : (ask passed alone single : ℕ → Type 0) → TypedCode → Type 0
  CodeFits ask passed alone single (typed.More a rest) = CodeFits ask passed alone single a × CodeFits ask passed alone single rest
  CodeFits ask passed alone single (Declare p x v) = ValueFits ask passed alone single v
  CodeFits ask passed alone single (Assign p target e) = CallsOnly ask passed target × StoredFits ask passed alone single target e
  CodeFits ask passed alone single (typed.Call p sub actuals) = PassedFit ask passed actuals
  CodeFits ask passed alone single (Output p text line) = CallsOnly ask passed text
  CodeFits ask passed alone single (Input p target) = CallsOnly ask passed target
  CodeFits ask passed alone single (Release p m) = CallsOnly ask passed m
  CodeFits ask passed alone single (If branches otherwise) = BranchesFit ask passed alone single branches × CodeFits ask passed alone single otherwise
  CodeFits ask passed alone single (Case p e whens) = CallsOnly ask passed e × AlternativesFit ask passed alone single whens
  CodeFits ask passed alone single (Loop stmts) = CodeFits ask passed alone single stmts
  CodeFits ask passed alone single (While p e stmts) = CallsOnly ask passed e × CodeFits ask passed alone single stmts
  CodeFits ask passed alone single (For p x reversed low high stmts) = CallsOnly ask passed low × CallsOnly ask passed high × CodeFits ask passed alone single stmts
  CodeFits ask passed alone single (Exit p e) = CallsOnly ask passed e
  CodeFits ask passed alone single (Return p v) = ValueFits ask passed alone single v
  CodeFits ask passed alone single (Block n stmts end) = CodeFits ask passed alone single stmts
  CodeFits ask passed alone single c = Unit {0}

  -- the branches of an `if`
  pub BranchesFit : (ask passed alone single : ℕ → Type 0) → TypedCode → Type 0
  BranchesFit ask passed alone single (typed.More a rest) = BranchFits ask passed alone single a × BranchesFit ask passed alone single rest
  BranchesFit ask passed alone single c = Unit {0}

  pub BranchFits : (ask passed alone single : ℕ → Type 0) → TypedCode → Type 0
  BranchFits ask passed alone single (Branch p e stmts) = CallsOnly ask passed e × CodeFits ask passed alone single stmts
  BranchFits ask passed alone single c = Unit {0}

  -- the alternatives of a `case`
  pub AlternativesFit : (ask passed alone single : ℕ → Type 0) → TypedCode → Type 0
  AlternativesFit ask passed alone single (typed.More a rest) = AlternativeFits ask passed alone single a × AlternativesFit ask passed alone single rest
  AlternativesFit ask passed alone single c = Unit {0}

  pub AlternativeFits : (ask passed alone single : ℕ → Type 0) → TypedCode → Type 0
  AlternativeFits ask passed alone single (When choices stmts) = CodeFits ask passed alone single stmts
  AlternativeFits ask passed alone single c = Unit {0}

-- ---- instructions

-- So is what an instruction takes, calls or evaluates.
abbrev pub InstructionFits : (ask passed alone single : ℕ → Type 0) → Instruction → Type 0
InstructionFits ask passed alone single (instruction.Declare x v) = ValueFits ask passed alone single v
InstructionFits ask passed alone single (instruction.Assign target e) = CallsOnly ask passed target × StoredFits ask passed alone single target e
InstructionFits ask passed alone single (instruction.Hold v) = ValueFits ask passed alone single v
InstructionFits ask passed alone single (instruction.Call n actuals (Some t)) = (alone n ⊎ single n) × PassedFit ask passed actuals
InstructionFits ask passed alone single (instruction.Call n actuals None) = PassedFit ask passed actuals
InstructionFits ask passed alone single (instruction.Output text line) = CallsOnly ask passed text
InstructionFits ask passed alone single (instruction.Input target) = CallsOnly ask passed target
InstructionFits ask passed alone single (instruction.Release m) = CallsOnly ask passed m
InstructionFits ask passed alone single (instruction.Test e) = CallsOnly ask passed e
InstructionFits ask passed alone single (instruction.Choose e choices) = CallsOnly ask passed e
InstructionFits ask passed alone single (instruction.Start x reversed low high) = CallsOnly ask passed low × CallsOnly ask passed high
InstructionFits ask passed alone single (instruction.Evaluate t e left) = CallsOnly ask passed e
InstructionFits ask passed alone single (instruction.LeaveLoop e) = CallsOnly ask passed e
InstructionFits ask passed alone single i = Unit {0}

-- ---- functions

-- If a subprogram gives a value, it is of a scalar type;
abbrev pub GivesScalar : Typing → ℕ → Type 0
GivesScalar s n = (t : ℕ) → (sub_at s n).result ≡ Some t → is_scalar (full s.table t) ≡ true

-- or of no anonymous access type;
abbrev pub GivesNamed : Typing → ℕ → Type 0
GivesNamed s n = (t : ℕ) → (sub_at s n).result ≡ Some t → is_anonymous (full s.table t) ≡ false

-- or it owns nothing, and is of no such type;
abbrev pub GivesOwnless : Typing → ℕ → Type 0
GivesOwnless s n = (t : ℕ) → (sub_at s n).result ≡ Some t → (is_owning s.table t ≡ false) × (is_anonymous (full s.table t) ≡ false)

-- or it is of one.
abbrev pub GivesSeen : Typing → ℕ → Type 0
GivesSeen s n = (t : ℕ) × ((sub_at s n).result ≡ Some t) × (is_anonymous (full s.table t) ≡ true)

-- What functions give in code is of scalar types; or it is passed, and owns nothing; or a value is made of it, and it is of no
-- anonymous access type; or it is of one and stands alone.
abbrev pub ResultsFit : Typing → TypedCode → Type 0
ResultsFit s c = CodeFits (GivesScalar s) (GivesOwnless s) (GivesNamed s) (GivesSeen s) c
