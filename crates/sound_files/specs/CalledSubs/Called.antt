-- Calls in typed code, and the subprograms that resolved code declares.
use Rattle.std.specs.Prelude.{ℕ, Bool, true, false, List, [], ◌∷◌, ◌++◌, flat_map}
use Rattle.machine.specs.spark_base.Lists.{Has}
use Rattle.machine.specs.resolved_tree.Trees.{Program, Code, More, SubDecl, SubBody, Package, PackageBody, If, Branch, Case, When, Loop, While, For, Block}
use Rattle.machine.specs.type_definitions.declared.table.Entry.{Entry}
use Rattle.machine.specs.type_definitions.declared.table.Entry.TheVariants as entry
use Rattle.machine.specs.type_definitions.Gathered.{front_number}
use Rattle.machine.specs.typed_tree.Trees.{TypedTree, TypedCode}
use Rattle.machine.specs.typed_tree.Trees as typed
use Rattle.machine.specs.typed_tree.Programs.{bodies_in}
use Rattle.machine.specs.flow_paths.Instructions.{Instruction}
use Rattle.machine.specs.flow_paths.Instructions as instruction

-- ---- typed code

-- Each call in an expression has a subprogram and actuals that are as asked.
unfoldable pub Calls : (ℕ → TypedTree → Type 0) → TypedTree → Type 0
Calls asked (typed.Call p sub actuals) = asked sub actuals × Calls asked actuals
Calls asked (typed.Name p x steps t) = Calls asked steps
Calls asked (typed.Component i rest) = Calls asked rest
Calls asked (typed.Designated rest) = Calls asked rest
Calls asked (typed.Element index low high rest) = Calls asked index × Calls asked rest
Calls asked (typed.Image t e) = Calls asked e
Calls asked (typed.Parens e) = Calls asked e
Calls asked (typed.Unary op e) = Calls asked e
Calls asked (typed.Binary op a b) = Calls asked a × Calls asked b
Calls asked (typed.Short op p a q b) = Calls asked a × Calls asked b
Calls asked (typed.IsNull equal e) = Calls asked e
Calls asked (typed.Aggregate t parts) = Calls asked parts
Calls asked (typed.Alike t e) = Calls asked e
Calls asked (typed.New t v) = Calls asked v
Calls asked (typed.More e rest) = Calls asked e × Calls asked rest
Calls asked _ = Unit {0}

-- So has each call in code.
unfoldable pub CodeCalls : (ℕ → TypedTree → Type 0) → TypedCode → Type 0
CodeCalls asked (typed.Declare p x v) = Calls asked v
CodeCalls asked (typed.Assign p target e) = Calls asked target × Calls asked e
CodeCalls asked (typed.Call p sub actuals) = asked sub actuals × Calls asked actuals
CodeCalls asked (typed.Output p text line) = Calls asked text
CodeCalls asked (typed.Input p target) = Calls asked target
CodeCalls asked (typed.Release p m) = Calls asked m
CodeCalls asked (typed.If branches otherwise) = CodeCalls asked branches × CodeCalls asked otherwise
CodeCalls asked (typed.Branch p e stmts) = Calls asked e × CodeCalls asked stmts
CodeCalls asked (typed.Case p e whens) = Calls asked e × CodeCalls asked whens
CodeCalls asked (typed.When choices stmts) = CodeCalls asked stmts
CodeCalls asked (typed.Loop stmts) = CodeCalls asked stmts
CodeCalls asked (typed.While p e stmts) = Calls asked e × CodeCalls asked stmts
CodeCalls asked (typed.For p x reversed low high stmts) = Calls asked low × (Calls asked high × CodeCalls asked stmts)
CodeCalls asked (typed.Exit p e) = Calls asked e
CodeCalls asked (typed.Return p v) = Calls asked v
CodeCalls asked (typed.Block n stmts end) = CodeCalls asked stmts
CodeCalls asked (typed.More a rest) = CodeCalls asked a × CodeCalls asked rest
CodeCalls asked _ = Unit {0}

abbrev pub PointCalls : (ℕ → TypedTree → Type 0) → Instruction → Type 0
PointCalls asked (instruction.Call sub actuals result) = asked sub actuals
PointCalls asked _ = Unit {0}

-- ---- resolved code

abbrev pub is_subprogram_entry : Entry → Bool
is_subprogram_entry (entry.Subprogram profile) = true
is_subprogram_entry _ = false

-- The numbers of the subprograms that code declares.
abbrev pub sub_numbers : Code → List ℕ
sub_numbers (SubDecl front) = front_number front ∷ []
sub_numbers (SubBody front items stmts end) = front_number front ∷ (sub_numbers items ++ sub_numbers stmts)
sub_numbers (Package d visible hidden) = sub_numbers visible ++ sub_numbers hidden
sub_numbers (PackageBody d parts) = sub_numbers parts
sub_numbers (If p branches otherwise) = sub_numbers branches ++ sub_numbers otherwise
sub_numbers (Branch p e stmts) = sub_numbers stmts
sub_numbers (Case p e whens) = sub_numbers whens
sub_numbers (When choices stmts) = sub_numbers stmts
sub_numbers (Loop p stmts) = sub_numbers stmts
sub_numbers (While p e stmts) = sub_numbers stmts
sub_numbers (For p d reversed range stmts) = sub_numbers stmts
sub_numbers (Block p items stmts end) = sub_numbers items ++ sub_numbers stmts
sub_numbers (More a rest) = sub_numbers a ++ sub_numbers rest
sub_numbers _ = []

-- Each subprogram that is declared has a body.
abbrev pub HaveBodies : Program → Type 0
HaveBodies p = (d : ℕ) → Has (flat_map sub_numbers p.units) d → Has (flat_map bodies_in p.units) d
