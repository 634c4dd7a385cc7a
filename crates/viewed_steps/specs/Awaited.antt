-- What waits in frames: the values of the temporaries in scope, one for each.
use Rattle.std.specs.Prelude.{◌≡◌, ◌⊎◌, ℕ, Bool, true, false, not, ◌&&◌, List, [], ◌∷◌, ◌++◌, take, filter, length, Option, Some, None, if◌then◌else◌}
use Rattle.std.specs.List.{AllByRecursion}
use Rattle.machine.specs.type_definitions.Entries.{boolean}
use Rattle.machine.specs.type_definitions.Types.{Table, words, full, is_scalar, is_owning}
use Rattle.machine.specs.typed_tree.Trees.{TypedTree, Name, Call as CallIn, NoMore, More}
use Rattle.machine.specs.typed_tree.Programs.{TypedProgram}
use Rattle.machine.specs.spark_base.declared.position.Pos.{Pos}
use Rattle.machine.specs.flow_paths.Instructions.{Instruction, Declare, Assign, Call, Evaluate, Hold}
use Rattle.machine.specs.flow_paths.Objects.{Typing, object_at, sub_at, has_scope_end, view_of, is_anonymous}
use Rattle.machine.specs.flow_paths.Names.{has_call}
use Rattle.machine.specs.flow_paths.Points.{NamedPoint}
use Rattle.machine.specs.flow_paths.Laid.{FlowSub, FlowProgram, NamedSub, flow_typing, flow_program, flow_named}
use Rattle.machine.specs.flow_paths.Scopes.{taken}
use Rattle.machine.specs.States.{Waiting, sub_of}
use Rattle.soundness.specs.Sound.{is_temporary_object, has_returned, IsNamedSub, IsAtPoint, IsNoCall, Stage}
use Rattle.soundness.specs.ViewedSoundness.Taken.{GivesPlainly, types_taken, AreScalarTypes, TakesFit}

-- ---- values

-- What has a type may be the value of a temporary: both types are scalar, or they are the same.
abbrev pub Fits : Typing → ℕ → ℕ → Type 0
Fits s r x =
    ((is_scalar (full s.table r) ≡ true) × (is_scalar (full s.table (object_at s x).of) ≡ true)) ⊎ (r ≡ (object_at s x).of)

abbrev pub IsValueFor : Typing → Waiting → ℕ → Type 0
IsValueFor s v x = Fits s v.of x × (length v.words ≡ words s.table v.of)

abbrev pub AreFor : Typing → List Waiting → List ℕ → Type 0
AreFor s [] [] = Unit {0}
AreFor s (v ∷ vs) (x ∷ xs) = IsValueFor s v x × AreFor s vs xs
AreFor s _ _ = ⊥

abbrev pub temporaries_of : Typing → List ℕ → List ℕ
temporaries_of s scope = filter (is_temporary_object s) scope

-- A temporary whose type has an end of scope, as owning ones have. (It has none.)
abbrev pub is_held : Typing → ℕ → Bool
is_held s x = is_temporary_object s x && has_scope_end s x

-- The others in scope.
abbrev pub lasting_of : Typing → List ℕ → List ℕ
lasting_of s scope = filter (λ x. not (is_held s x)) scope

-- The values of the temporaries in scope, the latest ones first.
abbrev pub AreValues : Typing → List Waiting → List ℕ → Type 0
AreValues s waits scope = AreFor s waits (temporaries_of s scope)

-- The latest temporary may be empty, for the result of what was called.
abbrev pub AreValuesBut : Typing → Option ℕ → List Waiting → List ℕ → Type 0
AreValuesBut s None waits xs = AreFor s waits xs
AreValuesBut s (Some r) waits [] = ⊥
AreValuesBut s (Some r) waits (x ∷ xs) = Fits s r x × AreFor s waits xs

-- ---- frames

-- A function has given its result if it has executed the return; before that, the temporary of its
-- caller that is to hold the result is empty.
abbrev pub awaited : FlowSub → List ℕ → Option ℕ
awaited sub before = if has_returned sub before then None else sub.result

abbrev pub WaitsAt : Table → TypedProgram → Option ℕ → Stage → Type 0
WaitsAt table typed empty g =
    (named : NamedSub) → IsNamedSub (flow_named table typed) g.frame.sub named → (p : NamedPoint) → IsAtPoint named.points g.frame.next p
    → AreValuesBut (flow_typing (flow_program table typed)) empty g.frame.waits (temporaries_of (flow_typing (flow_program table typed)) p.scope)

-- In the frame of the package objects nothing waits, or is to.
abbrev pub AreAwaited : Table → TypedProgram → Option ℕ → List Stage → Type 0
AreAwaited table typed empty [] = Unit {0}
AreAwaited table typed empty (e ∷ []) = (empty ≡ None) × (e.frame.waits ≡ [])
AreAwaited table typed empty (g ∷ (h ∷ older)) =
    WaitsAt table typed empty g × AreAwaited table typed (awaited (sub_of (flow_program table typed) g.frame.sub) g.before) (h ∷ older)

-- ---- what the text is like

-- What is filled fits.
abbrev pub FillsTyped : FlowProgram → Instruction → List ℕ → Type 0
FillsTyped program (Call n actuals (Some x)) left = (r : ℕ) → (sub_of program n).result ≡ Some r → Fits (flow_typing program) r x
FillsTyped program (Evaluate x e (Some op)) left =
    (is_scalar (full program.table boolean) ≡ true) × (is_scalar (full program.table (object_at (flow_typing program) x).of) ≡ true)
FillsTyped program (Evaluate t e None) left =
    (is_scalar (full program.table boolean) ≡ true)
    × ((x : ℕ) (rest : List ℕ) → left ≡ x ∷ rest → is_scalar (full program.table (object_at (flow_typing program) x).of) ≡ true)
FillsTyped program i left = Unit {0}

-- What is taken is of scalar types.
abbrev pub AreScalar : Typing → List ℕ → Type 0
AreScalar s xs = AllByRecursion (λ x. is_scalar (full s.table (object_at s x).of) ≡ true) xs

abbrev pub TakesScalars : Typing → Instruction → Type 0
TakesScalars s (Declare x v) = GivesPlainly s v
TakesScalars s (Assign target e) = GivesPlainly s e
TakesScalars s (Hold v) = GivesPlainly s v
TakesScalars s i = Unit {0}

-- Or it is what a function gave, alone: an object is declared with it, or it is assigned or returned.
abbrev pub IsTakenBy : Instruction → TypedTree → Type 0
IsTakenBy i call =
    ((x : ℕ) × (i ≡ Declare x (More call NoMore)))
    ⊎ (((p : Pos) × (x : ℕ) × (path : TypedTree) × (u : ℕ) × (i ≡ Assign (Name p x path u) call) × (has_call path ≡ false))
    ⊎ (i ≡ Hold (More call NoMore)))

abbrev pub TakesAlone : Typing → NamedPoint → Type 0
TakesAlone s p =
    (x : ℕ) × (rest : List ℕ) × (p.scope ≡ x ∷ rest) × (q : Pos) × (n : ℕ) × (actuals : TypedTree) × ((sub_at s n).result ≡ Some (object_at s x).of)
    × (is_scalar (full s.table (object_at s x).of) ≡ false)
    × IsTakenBy p.instr (CallIn q n actuals)

-- Or a value is made of what is taken, for a place or a result of no anonymous type. The name of the place takes scalar
-- values alone.
abbrev pub IsMadeFor : Typing → Option ℕ → Instruction → TypedTree → Type 0
IsMadeFor s result i e =
    ((x : ℕ) × (i ≡ Declare x (More e NoMore)) × (is_anonymous (view_of s x) ≡ false))
    ⊎ (((p : Pos) × (x : ℕ) × (path : TypedTree) × (u : ℕ) × (i ≡ Assign (Name p x path u) e) × (is_anonymous (full s.table u) ≡ false)
    × AreScalarTypes s (types_taken s path))
    ⊎ ((i ≡ Hold (More e NoMore)) × ((t : ℕ) → result ≡ Some t → is_anonymous (full s.table t) ≡ false)))

-- The types of what an instruction takes for a value and for a place, the last one first.
abbrev pub types_for : Typing → Instruction → List ℕ
types_for s (Declare x v) = types_taken s v
types_for s (Assign target e) = types_taken s target ++ types_taken s e
types_for s (Hold v) = types_taken s v
types_for s i = []

-- A temporary is filled with values of a type.
abbrev pub AreFilled : Typing → List ℕ → List ℕ → Type 0
AreFilled s [] [] = Unit {0}
AreFilled s (t ∷ types) (x ∷ xs) = Fits s t x × AreFilled s types xs
AreFilled s _ _ = ⊥

abbrev pub TakesTogether : Typing → Option ℕ → NamedPoint → Type 0
TakesTogether s result p =
    (e : TypedTree) × IsMadeFor s result p.instr e × TakesFit s e × AreFilled s (types_for s p.instr) (temporaries_of s (take (taken p.instr) p.scope))

-- An instruction that stores no value.
abbrev pub StoresNone : Instruction → Type 0
StoresNone (Declare x v) = ⊥
StoresNone (Assign target e) = ⊥
StoresNone (Hold v) = ⊥
StoresNone i = Unit {0}

-- What a point without a call takes, of a subprogram with this result.
abbrev pub IsTaken : Typing → Option ℕ → NamedPoint → Type 0
IsTaken s result p =
    (AreScalar s (filter (is_temporary_object s) (take (taken p.instr) p.scope)) × TakesScalars s p.instr) ⊎ (TakesAlone s p ⊎ TakesTogether s result p)

-- What is taken for actuals owns nothing; names and scalar expressions take scalar values alone.
abbrev pub AreOwnless : Typing → List ℕ → Type 0
AreOwnless s xs = AllByRecursion (λ x. is_owning s.table (object_at s x).of ≡ false) xs

abbrev pub TakesPassed : Typing → TypedTree → List ℕ → Type 0
TakesPassed s actuals xs = AreOwnless s xs × TakesFit s actuals × AreFilled s (types_taken s actuals) xs

-- What a point takes.
abbrev pub IsTakenAt : Typing → Option ℕ → NamedPoint → Type 0
IsTakenAt s result p =
    (IsNoCall p.instr → IsTaken s result p)
    × ((n : ℕ) (actuals : TypedTree) (r : Option ℕ) → p.instr ≡ Call n actuals r
    → TakesPassed s actuals (temporaries_of s (take (taken p.instr) p.scope)))
