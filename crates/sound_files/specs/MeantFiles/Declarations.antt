-- The declarations of code, each with its form and its number, in the order of the text.
use Rattle.std.specs.Prelude.{◌≡◌, ◌≤◌, ℕ, true, List, [], ◌∷◌, ◌++◌, Some}
use Rattle.machine.specs.spark_base.Lists.{Has}
use Rattle.machine.specs.resolved_tree.declared.node.Mark.{Mark}
use Rattle.machine.specs.resolved_tree.Trees.{Code, Plain, Bounds, Marked, Constrained, Enumeration, Incomplete, Private, TypeDecl, Subtype, ConstrainedSubtype, Objects, Numbers, Instance, Formals, Front, SubDecl, SubBody, Package, PackageBody, If, Branch, Case, When, Loop, While, For, Block, More}
use Rattle.name_events.specs.declared.event.Event.{Event}
use Rattle.name_events.specs.declared.event.Event.TheVariants as e
use Rattle.name_events.specs.declared.declaration.Identified.{Identified}
use Rattle.name_events.specs.declared.declaration.DeclarationForm.{DeclarationForm}
use Rattle.name_events.specs.declared.declaration.DeclarationForm.TheVariants as form
use Rattle.name_events.specs.Declarations.{is_body_form}
use Rattle.machine.specs.type_definitions.Gathered.{declared_number, front_number}
use Rattle.settled_types.specs.OrderlyFiles.Numbered.{number_of_pos}
use Rattle.sound_files.specs.SeenFiles.Uses.{Uses}

abbrev pub Declarations : Type 0
Declarations = List (DeclarationForm × ℕ)

-- ---- of code

abbrev pub each_as : DeclarationForm → Code → Declarations
each_as new (More d rest) = (new, declared_number d) ∷ each_as new rest
each_as new ids = []

abbrev pub literals_of : Code → Declarations
literals_of (Enumeration literals) = each_as form.Literal literals
literals_of def = []

abbrev pub group_declarations : Code → Declarations
group_declarations (Formals ids m of) = each_as form.Formal ids
group_declarations group = []

abbrev pub formal_declarations : Code → Declarations
formal_declarations (More group rest) = group_declarations group ++ formal_declarations rest
formal_declarations formals = []

abbrev pub front_declarations : Code → Declarations
front_declarations (Front d formals result) = formal_declarations formals
front_declarations front = []

-- A body with a result is that of a function.
abbrev pub form_of_result : Code → DeclarationForm
form_of_result (More i rest) = form.FunctionBody
form_of_result result = form.ProcedureBody

abbrev pub body_form : Code → DeclarationForm
body_form (Front d formals result) = form_of_result result
body_form front = form.ProcedureBody

abbrev pub declarations : Code → Declarations
declarations (Incomplete d) = (form.IncompleteType, declared_number d) ∷ []
declarations (Private d) = (form.PrivateType, declared_number d) ∷ []
declarations (TypeDecl d def end) = (form.FullType, declared_number d) ∷ literals_of def
declarations (Subtype d m) = (form.Subtype, declared_number d) ∷ []
declarations (ConstrainedSubtype d m low high) = (form.Subtype, declared_number d) ∷ []
declarations (Objects ids constant i v) = each_as form.Object ids
declarations (Numbers ids e) = each_as form.Object ids
declarations (Instance d m args) = (form.Instance, declared_number d) ∷ []
declarations (SubDecl front) = (form.SubprogramDeclaration, front_number front) ∷ front_declarations front
declarations (SubBody front items stmts end) =
    (body_form front, front_number front) ∷ (front_declarations front ++ (declarations items ++ declarations stmts))
declarations (Package d visible hidden) = (form.Package, declared_number d) ∷ (declarations visible ++ declarations hidden)
declarations (PackageBody d parts) = declarations parts
declarations (If p branches otherwise) = declarations branches ++ declarations otherwise
declarations (Branch p x stmts) = declarations stmts
declarations (Case p x whens) = declarations whens
declarations (When choices stmts) = declarations stmts
declarations (Loop p stmts) = declarations stmts
declarations (While p x stmts) = declarations stmts
declarations (For p d reversed range stmts) = (form.LoopParameter, declared_number d) ∷ declarations stmts
declarations (Block p items stmts end) = declarations items ++ declarations stmts
declarations (More a rest) = declarations a ++ declarations rest
declarations code = []

-- ---- of events

abbrev pub declared_at : List Identified → Event → Declarations
declared_at numbers (e.Declares new id) = (new, number_of_pos numbers id.pos) ∷ []
declared_at numbers event = []

abbrev pub declared_by : List Identified → List Event → Declarations
declared_by numbers [] = []
declared_by numbers (event ∷ rest) = declared_at numbers event ++ declared_by numbers rest

-- ---- bodies

-- The bodies among these declarations have these numbers.
abbrev pub HasBodies : Declarations → List ℕ → Type 0
HasBodies all numbers = (new : DeclarationForm) (n : ℕ) → Has all (new, n) → is_body_form new ≡ true → Has numbers n

-- ---- marks

abbrev pub last_from : ℕ → Code → ℕ
last_from n (More d rest) = last_from (declared_number d) rest
last_from n ids = n

-- The mark of an indication or a range denotes nothing after this number.
abbrev pub IsLow : ℕ → Mark → Type 0
IsLow last m = (n : ℕ) → m.decl ≡ Some n → n ≤ last

abbrev pub IsLowIndication : ℕ → Code → Type 0
IsLowIndication last (Plain m) = IsLow last m
IsLowIndication last i = Unit {0}

-- Names in the lower bound of a range don't either.
abbrev pub IsLowRange : ℕ → Code → Type 0
IsLowRange last (Bounds low high) = Uses (λ n. n ≤ last) low
IsLowRange last (Marked m) = IsLow last m
IsLowRange last (Constrained m low high) = IsLow last m
IsLowRange last range = Unit {0}

-- So it is with formals.
abbrev pub IsLowGroup : Code → Type 0
IsLowGroup (Formals ids m of) = IsLowIndication (last_from 0 ids) of
IsLowGroup group = Unit {0}

abbrev pub AreLowGroups : Code → Type 0
AreLowGroups (More group rest) = IsLowGroup group × AreLowGroups rest
AreLowGroups formals = Unit {0}

abbrev pub IsLowFront : Code → Type 0
IsLowFront (Front d formals result) = AreLowGroups formals
IsLowFront front = Unit {0}

-- Marks of objects, of formals and of parameters of loops denote nothing that is declared after these.
unfoldable pub AreLow : Code → Type 0
AreLow (Objects ids constant i v) = IsLowIndication (last_from 0 ids) i
AreLow (SubBody front items stmts end) = IsLowFront front × AreLow items × AreLow stmts
AreLow (Package d visible hidden) = AreLow visible × AreLow hidden
AreLow (PackageBody d parts) = AreLow parts
AreLow (If p branches otherwise) = AreLow branches × AreLow otherwise
AreLow (Branch p x stmts) = AreLow stmts
AreLow (Case p x whens) = AreLow whens
AreLow (When choices stmts) = AreLow stmts
AreLow (Loop p stmts) = AreLow stmts
AreLow (While p x stmts) = AreLow stmts
AreLow (For p d reversed range stmts) = IsLowRange (declared_number d) range × AreLow stmts
AreLow (Block p items stmts end) = AreLow items × AreLow stmts
AreLow (More a rest) = AreLow a × AreLow rest
AreLow code = Unit {0}

abbrev pub AllLow : List Code → Type 0
AllLow [] = Unit {0}
AllLow (u ∷ units) = AreLow u × AllLow units
