-- Typed code whose steps have expressions of the types of their places, and what stands at points of
-- its own before a step: calls, and the operands of short circuits.
use Rattle.std.specs.Prelude.{◌≡◌, ◌⊎◌, ℕ, true, false, List, ◌∷◌, Option, Some, None}
use Rattle.machine.specs.place_names.declared.act.Mode.TheVariants as mode
use Rattle.machine.specs.type_definitions.Types.{is_owning, full}
use Rattle.machine.specs.type_definitions.Entries.{boolean}
use Rattle.machine.specs.typed_tree.Trees.{TypedTree, Name, Component, Designated, Element, Image, Parens, Unary, Binary, Short, IsNull, Aggregate, Alike, New, TypedCode, Declare, Assign, Output, Input, Release, If, Branch, Case, When, Loop, While, For, Exit, Return, Block, More}
use Rattle.machine.specs.typed_tree.Trees as typed
use Rattle.machine.specs.flow_paths.Instructions.{Instruction}
use Rattle.machine.specs.flow_paths.Instructions as instruction
use Rattle.machine.specs.flow_paths.Objects.{Typing, Signature, object_at, sub_at, traverses, is_anonymous}
use Rattle.machine.specs.flow_paths.Layout.{choices_of}
use Rattle.soundness.specs.TypedLaws.Fine.{Has}
use Rattle.soundness.specs.TypedLaws.TypedSteps.Steps.{IsCall, IsTypedStep}

-- What owns and is passed by a formal of mode `in` is null, or what a name of its type stands for; and what a traversal
-- function goes through is what a name stands for.
abbrev pub IsName : TypedTree → Type 0
IsName (Name p x steps t) = Unit {0}
IsName e = ⊥

abbrev pub IsNamedOwner : TypedTree → Type 0
IsNamedOwner typed.Null = Unit {0}
IsNamedOwner (Name p x steps t) = Unit {0}
IsNamedOwner e = ⊥

abbrev pub NamesOwner : Typing → ℕ → TypedTree → Type 0
NamesOwner s x e = (object_at s x).mode ≡ mode.In → is_owning s.table (object_at s x).of ≡ true → IsNamedOwner e × Has s (object_at s x).of e

abbrev pub NamesOwners : Typing → List ℕ → TypedTree → Type 0
NamesOwners s (x ∷ formals) (More e rest) = NamesOwner s x e × NamesOwners s formals rest
NamesOwners s formals e = Unit {0}

abbrev pub NamesFirst : Typing → Signature → TypedTree → Type 0
NamesFirst s sub (More e rest) = traverses s.table sub.result ≡ true → IsName e
NamesFirst s sub e = Unit {0}

abbrev pub ArePassed : Typing → ℕ → TypedTree → Type 0
ArePassed s sub actuals = NamesOwners s (sub_at s sub).formals actuals × NamesFirst s (sub_at s sub) actuals

-- It is no traversal function.
abbrev pub GivesNoView : Typing → ℕ → Type 0
GivesNoView s sub = traverses s.table (sub_at s sub).result ≡ false

-- The calls and the operands of short circuits within an expression. None is of a traversal function.
unfoldable pub Within : Typing → TypedTree → Type 0
Within s (typed.Call p sub actuals) = IsCall s true sub actuals × ArePassed s sub actuals × GivesNoView s sub × Within s actuals
Within s (Short op p a q b) = Has s boolean a × Has s boolean b × Within s a × Within s b
Within s (Name p x steps t) = Within s steps
Within s (Component i rest) = Within s rest
Within s (Designated rest) = Within s rest
Within s (Element index low high rest) = Within s index × Within s rest
Within s (Image t e) = Within s e
Within s (Parens e) = Within s e
Within s (Unary op e) = Within s e
Within s (Binary op a b) = Within s a × Within s b
Within s (IsNull equal e) = Within s e
Within s (Aggregate t parts) = Within s parts
Within s (Alike t e) = Within s e
Within s (New t v) = Within s v
Within s (More e rest) = Within s e × Within s rest
Within s e = Unit {0}

-- What a traversal function gives may be all of a source for a place of an anonymous access type, or for such a result.
abbrev pub WithinSource : Typing → ℕ → TypedTree → Type 0
WithinSource s want (typed.Call p sub actuals) =
    IsCall s true sub actuals × ArePassed s sub actuals × (GivesNoView s sub ⊎ (is_anonymous (full s.table want) ≡ true)) × Within s actuals
WithinSource s want e = Within s e

abbrev pub FirstWithin : Typing → ℕ → TypedTree → Type 0
FirstWithin s want (More e rest) = WithinSource s want e × Within s rest
FirstWithin s want v = Within s v

abbrev pub AssignedWithin : Typing → TypedTree → TypedTree → Type 0
AssignedWithin s (Name p x path u) e = WithinSource s u e
AssignedWithin s target e = Within s e

-- A traversal function returns null, what a name stands for, or what another one gives.
abbrev pub IsViewSource : Typing → TypedTree → Type 0
IsViewSource s (Name p x steps t) = Unit {0}
IsViewSource s (typed.Call p sub actuals) = traverses s.table (sub_at s sub).result ≡ true
IsViewSource s typed.Null = Unit {0}
IsViewSource s e = ⊥

abbrev pub FirstIsSource : Typing → TypedTree → Type 0
FirstIsSource s (More e rest) = IsViewSource s e
FirstIsSource s v = Unit {0}

abbrev pub ReturnedWithin : Typing → Option ℕ → TypedTree → Type 0
ReturnedWithin s (Some t) v = FirstWithin s t v × (is_anonymous (full s.table t) ≡ true → FirstIsSource s v)
ReturnedWithin s None v = Within s v

-- Those within the expressions of a step.
abbrev pub WithinStep : Typing → Option ℕ → Instruction → Type 0
WithinStep s result (instruction.Declare x v) = FirstWithin s (object_at s x).of v
WithinStep s result (instruction.Assign target e) = AssignedWithin s target e × Within s target
WithinStep s result (instruction.Call sub actuals r) = ArePassed s sub actuals × Within s actuals
WithinStep s result (instruction.Output text line) = Within s text
WithinStep s result (instruction.Input target) = Within s target
WithinStep s result (instruction.Release e) = Within s e
WithinStep s result (instruction.Test e) = Within s e
WithinStep s result (instruction.Choose e choices) = Within s e
WithinStep s result (instruction.Start x reversed low high) = Within s low × Within s high
WithinStep s result (instruction.LeaveLoop e) = Within s e
WithinStep s result (instruction.Hold v) = ReturnedWithin s result v
WithinStep s result _ = Unit {0}

abbrev pub IsTypedUse : Typing → Option ℕ → Instruction → Type 0
IsTypedUse s result i = IsTypedStep s result i × WithinStep s result i

-- The statements of a subprogram with this result.
unfoldable pub IsTypedCode : Typing → Option ℕ → TypedCode → Type 0
IsTypedCode s result (Declare p x v) = IsTypedUse s result (instruction.Declare x v)
IsTypedCode s result (Assign p target e) = IsTypedUse s result (instruction.Assign target e)
IsTypedCode s result (typed.Call p sub actuals) = IsTypedUse s result (instruction.Call sub actuals None)
IsTypedCode s result (Output p text line) = IsTypedUse s result (instruction.Output text line)
IsTypedCode s result (Input p target) = IsTypedUse s result (instruction.Input target)
IsTypedCode s result (Release p e) = IsTypedUse s result (instruction.Release e)
IsTypedCode s result (If branches otherwise) = IsTypedCode s result branches × IsTypedCode s result otherwise
IsTypedCode s result (Branch p e stmts) = IsTypedUse s result (instruction.Test e) × IsTypedCode s result stmts
IsTypedCode s result (Case p e whens) = IsTypedUse s result (instruction.Choose e (choices_of whens)) × IsTypedCode s result whens
IsTypedCode s result (When choices stmts) = IsTypedCode s result stmts
IsTypedCode s result (Loop stmts) = IsTypedCode s result stmts
IsTypedCode s result (While p e stmts) = IsTypedUse s result (instruction.Test e) × IsTypedCode s result stmts
IsTypedCode s result (For p x reversed low high stmts) =
    IsTypedUse s result (instruction.Start x reversed low high) × IsTypedStep s result (instruction.Next x reversed low high) × IsTypedCode s result stmts
IsTypedCode s result (Exit p e) = IsTypedUse s result (instruction.LeaveLoop e)
IsTypedCode s result (Return p v) = IsTypedUse s result (instruction.Hold v)
IsTypedCode s result (Block n stmts end) = IsTypedCode s result stmts
IsTypedCode s result (More a rest) = IsTypedCode s result a × IsTypedCode s result rest
IsTypedCode s result code = Unit {0}
