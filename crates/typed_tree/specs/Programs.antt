-- Typed programs (docs/LANGUAGE.md, "Typed programs"): objects, scopes and subprograms with their
-- numbers, all in the order of the text.
use Rattle.std.specs.Prelude.{ℕ, ◌+◌, List, [], ◌∷◌, ◌++◌, map, flat_map, codes, nat_eq, Option, Some, None, if◌then◌else◌}
use Rattle.type_definitions.specs.spark_base.declared.position.Pos.{Pos}
use Rattle.type_definitions.specs.place_names.declared.act.Mode.{Mode}
use Rattle.type_definitions.specs.place_names.declared.act.Mode.TheVariants as mode
use Rattle.type_definitions.specs.resolved_tree.Trees.{More, Code, Objects, Numbers, Formals, Front, SubBody, Package, PackageBody, If, Branch, Case, When, Loop, While, For, Block, code_items}
use Rattle.type_definitions.specs.declared.table.Kind.{Kind}
use Rattle.type_definitions.specs.declared.table.Kind.TheVariants as kind
use Rattle.type_definitions.specs.declared.table.Entry.{Entry}
use Rattle.type_definitions.specs.declared.table.Entry.TheVariants as entry
use Rattle.type_definitions.specs.declared.table.Known.{Known}
use Rattle.type_definitions.specs.Entries.{entry_of, integer}
use Rattle.type_definitions.specs.Names.{Context}
use Rattle.type_definitions.specs.Expressions.{profile_of}
use Rattle.type_definitions.specs.Gathered.{declared_number, declared_text, front_number, in_visible, in_hidden, in_subprogram}
use Rattle.type_definitions.specs.Declarations.{front_pos}
use Rattle.type_definitions.specs.Whole.{outside}
use Rattle.typed_tree.specs.declared.object.Object.{Object}
use Rattle.typed_tree.specs.declared.object.ObjectKind.{ObjectKind}
use Rattle.typed_tree.specs.declared.object.ObjectKind.TheVariants as object_kind
use Rattle.typed_tree.specs.Trees.{TypedCode, typed_code_list}
use Rattle.typed_tree.specs.Expressions.{Site, object_number, sub_number, object_type}
use Rattle.typed_tree.specs.Statements.{scope_count, statements, typed_body}

-- A subprogram: the positions of its identifier and of its `end`, its formals, the type of its
-- result, and its declarations and statements. All of its body.
pub record TypedSub : Type 0 where
  pub pos : Pos
  pub end : Pos
  pub formals : List ℕ
  pub result : Option ℕ
  pub body : TypedCode

-- Of a scope the one around it is told, or its own number where there is none.
pub record TypedProgram : Type 0 where
  pub objects : List Object
  pub scopes : List ℕ
  pub subs : List TypedSub
  pub main : Option ℕ

-- What units have, one after the other: f takes the number of the next scope that begins.
abbrev pub over_units : {A : Type 0} → (ℕ → Code → List A) → ℕ → List Code → List A
over_units f n [] = []
over_units f n (u ∷ rest) = f n u ++ over_units f (n + scope_count u) rest

-- ---- scopes

-- Scope 0 is that of the package objects and stands around all subprograms. The scopes that begin
-- in code, from the n-th on, within the scope a: of each the one around it.
unfoldable pub scopes_in : ℕ → ℕ → Code → List ℕ
scopes_in a n (SubBody front items stmts end) =
    a ∷ scopes_in n (n + 1) items ++ scopes_in n (n + 1 + scope_count items) stmts
scopes_in a n (Package d visible hidden) = scopes_in a n visible ++ scopes_in a (n + scope_count visible) hidden
scopes_in a n (PackageBody d parts) = scopes_in a n parts
scopes_in a n (If p branches otherwise) = scopes_in a n branches ++ scopes_in a (n + scope_count branches) otherwise
scopes_in a n (Branch p e stmts) = scopes_in a n stmts
scopes_in a n (Case p e whens) = scopes_in a n whens
scopes_in a n (When choices stmts) = scopes_in a n stmts
scopes_in a n (Loop p stmts) = scopes_in a n stmts
scopes_in a n (While p e stmts) = scopes_in a n stmts
scopes_in a n (For p d reversed range stmts) = a ∷ scopes_in n (n + 1) stmts
scopes_in a n (Block p items stmts end) =
    a ∷ scopes_in n (n + 1) items ++ scopes_in n (n + 1 + scope_count items) stmts
scopes_in a n (More first rest) = scopes_in a n first ++ scopes_in a (n + scope_count first) rest
scopes_in a n _ = []

-- ---- objects

abbrev pub kind_of : Kind → ObjectKind
kind_of kind.Variable = object_kind.Variable
kind_of kind.Constant = object_kind.Constant
kind_of kind.Formal = object_kind.Formal
kind_of kind.Parameter = object_kind.Parameter

abbrev pub entry_kind : Entry → ObjectKind
entry_kind (entry.Object o) = kind_of o.kind
entry_kind _ = object_kind.Variable

-- An object, with the number of its declaration.
pub record DeclaredObject : Type 0 where
  pub number : ℕ
  pub object : Object

-- What is known of the objects of some code: the declarations, and the identifier of its package.
pub record Home : Type 0 where
  pub known : Known
  pub identifier : Option (List ℕ)

abbrev pub object_of : Home → ℕ → Mode → Code → DeclaredObject
object_of h a m d = record {
  number = declared_number d;
  object = record {
    name = declared_text d;
    «package» = h.identifier;
    of = object_type (entry_of h.known (declared_number d));
    kind = entry_kind (entry_of h.known (declared_number d));
    mode = m;
    scope = a;
  };
}

abbrev pub objects_of : Home → ℕ → Mode → Code → List DeclaredObject
objects_of h a m ids = map (object_of h a m) (code_items ids)

abbrev pub formals_of : Home → ℕ → Code → List DeclaredObject
formals_of h a (Formals ids m of) = objects_of h a m ids
formals_of h a _ = []

abbrev pub front_formals : Code → List Code
front_formals (Front d formals result) = code_items formals
front_formals _ = []

-- Within a subprogram.
abbrev pub local : Home → Home
local h = record h { identifier = None }

abbrev pub in_package : List ℕ → Home → Home
in_package text h = record h { identifier = Some text }

-- A package is called as in its specification.
abbrev pub package_text : List Code → ℕ → List ℕ
package_text [] number = []
package_text (Package d visible hidden ∷ rest) number =
    if nat_eq (declared_number d) number then declared_text d else package_text rest number
package_text (_ ∷ rest) number = package_text rest number

-- The objects that code within the scope a declares, in the order of their identifiers; n is the
-- number of the next scope that begins. The formals of a subprogram are those of its body.
unfoldable pub objects_in : List Code → Home → ℕ → ℕ → Code → List DeclaredObject
objects_in units h a n (Objects ids constant i v) = objects_of h a mode.In ids
objects_in units h a n (Numbers ids e) = objects_of h a mode.In ids
objects_in units h a n (SubBody front items stmts end) =
    flat_map (formals_of (local h) n) (front_formals front)
    ++ objects_in units (local h) n (n + 1) items ++ objects_in units (local h) n (n + 1 + scope_count items) stmts
objects_in units h a n (Package d visible hidden) =
    objects_in units (in_package (declared_text d) h) a n visible
    ++ objects_in units (in_package (declared_text d) h) a (n + scope_count visible) hidden
objects_in units h a n (PackageBody d parts) =
    objects_in units (in_package (package_text units (declared_number d)) h) a n parts
objects_in units h a n (If p branches otherwise) =
    objects_in units h a n branches ++ objects_in units h a (n + scope_count branches) otherwise
objects_in units h a n (Branch p e stmts) = objects_in units h a n stmts
objects_in units h a n (Case p e whens) = objects_in units h a n whens
objects_in units h a n (When choices stmts) = objects_in units h a n stmts
objects_in units h a n (Loop p stmts) = objects_in units h a n stmts
objects_in units h a n (While p e stmts) = objects_in units h a n stmts
objects_in units h a n (For p d reversed range stmts) = object_of h n mode.In d ∷ objects_in units h n (n + 1) stmts
objects_in units h a n (Block p items stmts end) =
    objects_in units h n (n + 1) items ++ objects_in units h n (n + 1 + scope_count items) stmts
objects_in units h a n (More first rest) =
    objects_in units h a n first ++ objects_in units h a (n + scope_count first) rest
objects_in units h a n _ = []

abbrev pub program_objects : Known → List Code → List DeclaredObject
program_objects known units = over_units (objects_in units (record { known = known; identifier = None }) 0) 1 units

-- The state of Ada.Text_IO.
abbrev pub text_io : Object
text_io = record {
  name = codes "Text_IO";
  «package» = Some (codes "Ada");
  of = integer;
  kind = object_kind.TextIo;
  mode = mode.In;
  scope = 0;
}

-- ---- subprograms

-- The declarations of the subprograms whose bodies stand in a unit, in the order of the bodies.
unfoldable pub bodies_in : Code → List ℕ
bodies_in (SubBody front items stmts end) = front_number front ∷ []
bodies_in (PackageBody d parts) = bodies_in parts
bodies_in (More a rest) = bodies_in a ++ bodies_in rest
bodies_in _ = []

abbrev pub site_of : Known → List Code → Site
site_of known units = record {
  context = outside known;
  objects = map (λ o. o.number) (program_objects known units);
  bodies = flat_map bodies_in units;
}

abbrev pub placed : (Context → Context) → Site → Site
placed f s = record s { context = f s.context }

abbrev pub formal_numbers : Site → Code → List ℕ
formal_numbers s (Formals ids m of) = map (λ d. object_number s (declared_number d)) (code_items ids)
formal_numbers s _ = []

abbrev pub typed_sub : Site → ℕ → Code → Code → Code → Pos → TypedSub
typed_sub s n front items stmts end = record {
  pos = front_pos front;
  end = end;
  formals = flat_map (formal_numbers s) (front_formals front);
  result = (profile_of (entry_of s.context.known (front_number front))).result;
  body = typed_body (placed (in_subprogram front) s) (n + 1) items stmts;
}

unfoldable pub subs_in : Site → ℕ → Code → List TypedSub
subs_in s n (SubBody front items stmts end) = typed_sub s n front items stmts end ∷ []
subs_in s n (PackageBody d parts) = subs_in (placed (in_hidden (declared_number d)) s) n parts
subs_in s n (More a rest) = subs_in s n a ++ subs_in s (n + scope_count a) rest
subs_in s n _ = []

-- ---- package objects

-- The declarations of the objects of packages.
abbrev pub elaborated : Site → ℕ → Code → List TypedCode
elaborated s n (Package d visible hidden) =
    statements (placed (in_visible (declared_number d)) s) n visible
    ++ statements (placed (in_hidden (declared_number d)) s) (n + scope_count visible) hidden
elaborated s n (PackageBody d parts) = statements (placed (in_hidden (declared_number d)) s) n parts
elaborated s n _ = []

abbrev pub beginning : Pos
beginning = record { file = 0; line = 1; column = 1 }

-- Subprogram 0 declares them, in the order of the text.
abbrev pub elaboration : Site → List Code → TypedSub
elaboration s units = record {
  pos = beginning;
  end = beginning;
  formals = [];
  result = None;
  body = typed_code_list (over_units (elaborated s) 1 units);
}

-- ---- the program

-- The main procedure is the one library procedure.
abbrev pub main_of : Site → List Code → Option ℕ
main_of s [] = None
main_of s (SubBody front items stmts end ∷ rest) = Some (sub_number s (front_number front))
main_of s (_ ∷ rest) = main_of s rest

abbrev pub program_at : Site → Known → List Code → TypedProgram
program_at s known units = record {
  objects = text_io ∷ map (λ o. o.object) (program_objects known units);
  scopes = 0 ∷ over_units (scopes_in 0) 1 units;
  subs = elaboration s units ∷ over_units (subs_in s) 1 units;
  main = main_of s units;
}

-- The typed program that units mean.
unfoldable pub typed_program : Known → List Code → TypedProgram
typed_program known units = program_at (site_of known units) known units
