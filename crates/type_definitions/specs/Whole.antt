-- The first fault of a program (docs/LANGUAGE.md, "Types").
use Rattle.std.specs.Prelude.{ℕ, ◌-◌, Bool, true, false, not, ◌&&◌, ◌||◌, List, [], ◌∷◌, ◌++◌, flat_map, length, replicate, codes, nat_eq, nat_le, Option, Some, None, ℤ, pos, negsuc, int_lt, if◌then◌else◌}
use Rattle.resolved_tree.specs.spark_base.declared.position.Pos.{Pos}
use Rattle.resolved_tree.specs.place_names.declared.selector.Sel.{Sel}
use Rattle.resolved_tree.specs.Trees.{Code, TypeDecl, Subtype, ConstrainedSubtype, Front, SubBody, Package, PackageBody, If, Branch, Case, When, Loop, While, For, Block, More, Program}
use Rattle.type_definitions.specs.declared.table.Info.{Info}
use Rattle.type_definitions.specs.declared.table.Shape.TheVariants as shape
use Rattle.type_definitions.specs.declared.table.Predefined.TheVariants as predefined
use Rattle.type_definitions.specs.declared.table.Known.{Known}
use Rattle.type_definitions.specs.declared.table.Made.{Made}
use Rattle.type_definitions.specs.declared.table.Entry.{Entry}
use Rattle.type_definitions.specs.declared.table.Entry.TheVariants as entry
use Rattle.type_definitions.specs.declared.judgement.Fault.{Fault}
use Rattle.type_definitions.specs.declared.judgement.View.{View}
use Rattle.type_definitions.specs.declared.judgement.View.TheVariants as view
use Rattle.type_definitions.specs.Types.{Table, full, words, parts, no_type, untyped, is_nil}
use Rattle.type_definitions.specs.Faults.{demand, first}
use Rattle.type_definitions.specs.Entries.{integer, boolean}
use Rattle.type_definitions.specs.Names.{Context}
use Rattle.type_definitions.specs.Gathered.{gather, own_info, in_visible, in_hidden, declared_pos, declared_number}
use Rattle.type_definitions.specs.Declarations.{type_faults, subtype_faults, renamed_faults, code_faults, some_part, has_none, front_pos}

-- ---- Y1 to Y3

-- The types that declarations make.
abbrev pub made_here : Code → Bool → List Fault → List Made
made_here d full faults =
    record { number = declared_number d; pos = declared_pos d; full = full; sound = is_nil faults } ∷ []

-- A declaration of a type or a subtype.
abbrev pub made_type : Context → Code → List Made
made_type c (TypeDecl d def end) = made_here d true (type_faults c d def)
made_type c (Subtype d m) = made_here d false (renamed_faults c m)
made_type c (ConstrainedSubtype d m low high) = made_here d false (subtype_faults c m low high)
made_type c _ = []

unfoldable pub made : Context → Code → List Made
made c (SubBody front items stmts end) = made c items ++ made c stmts
made c (Package d visible hidden) =
    made (in_visible (declared_number d) c) visible ++ made (in_hidden (declared_number d) c) hidden
made c (PackageBody d parts) = made (in_hidden (declared_number d) c) parts
made c (If p branches otherwise) = made c branches ++ made c otherwise
made c (Branch p x stmts) = made c stmts
made c (Case p x whens) = made c whens
made c (When choices stmts) = made c stmts
made c (Loop p stmts) = made c stmts
made c (While p x stmts) = made c stmts
made c (For p d reversed range stmts) = made c stmts
made c (Block p items stmts end) = made c items ++ made c stmts
made c (More a rest) = made c a ++ made c rest
made c code = made_type c code

abbrev pub is_unsound : List Made → ℕ → Bool
is_unsound [] t = false
is_unsound (m ∷ rest) t = nat_eq m.number t && not m.sound || is_unsound rest t

abbrev pub all_short : List (List Sel) → Bool
all_short [] = true
all_short (q ∷ rest) = nat_le (length q) 16 && all_short rest

abbrev pub has_elements : View → Bool
has_elements (view.Elements low high e) = not (int_lt high low)
has_elements _ = true

abbrev pub size_faults : Table → Pos → ℕ → List Fault
size_faults table p t =
    demand 1 p (nat_le (words table t) 65536)
    ++ (demand 2 p (nat_le (length (parts table t)) 64 && all_short (parts table t))
    ++ demand 3 p (has_elements (full table t)))

-- A type is looked at where neither its own declaration nor that of a type in it breaks a sentence.
abbrev pub made_faults : Table → List Made → Made → List Fault
made_faults table all m =
    if not m.full || (is_unsound all m.number || some_part (is_unsound all) table m.number) then []
    else size_faults table m.pos m.number

-- ---- the program

-- What is known before the first unit: Integer, Natural, Positive, Boolean, False, True, and what is
-- declared within Ada.
abbrev pub whole : ℤ → Info
whole low = record {
  shape = shape.Whole low (pos 2147483647);
  base = integer;
  parent = None;
  seen_in = None;
  completed = None;
  bounded = true;
}

-- What stands for a type where a mark denotes none: Integer, or where it is asked which fault is told,
-- no type that is known.
abbrev pub no_mark : Bool → Info
no_mark false = record {
  shape = shape.Same integer;
  base = integer;
  parent = Some integer;
  seen_in = None;
  completed = None;
  bounded = true;
}
no_mark true = own_info (shape.Fields []) untyped

abbrev pub predefined_types : Bool → List Info
predefined_types asked =
    whole (negsuc 2147483647) ∷ whole (pos 0) ∷ whole (pos 1)
    ∷ own_info (shape.Listed (codes "False" ∷ codes "True" ∷ []) 0 1) boolean
    ∷ no_mark asked ∷ []

abbrev pub predefined_entries : List Entry
predefined_entries =
    entry.Type ∷ entry.Type ∷ entry.Type ∷ entry.Type ∷ entry.Literal boolean 0 ∷ entry.Literal boolean 1
    ∷ entry.Package ∷ entry.Package ∷ entry.Predefined predefined.Put ∷ entry.Predefined predefined.PutLine
    ∷ entry.Predefined predefined.NewLine ∷ entry.Predefined predefined.EndOfFile ∷ entry.Package
    ∷ entry.Predefined predefined.Get ∷ entry.Predefined predefined.Deallocation ∷ []

-- With as many declarations as there are, the predefined ones included.
abbrev pub at_first : Bool → ℕ → Known
at_first asked count = record {
  entries = predefined_entries ++ replicate (count - 15) entry.Nothing;
  table = predefined_types asked ++ replicate (count - 5) no_type;
}

abbrev pub outside : Known → Context
outside known = record {
  known = known;
  home = None;
  within = None;
  sub = None;
  in_loop = false;
  starts = false;
}

abbrev pub gather_units : List Code → Context → Context
gather_units [] c = c
gather_units (u ∷ rest) c = gather_units rest (gather u c)

-- All that is known after the units of a program, where this table is known before them.
abbrev pub known_from : Program → Table → Known
known_from p table = (gather_units p.units (outside (record (at_first false p.count) { table = table }))).known

-- All that is known after the program. Its units are gathered twice: where the first pass meets the
-- use of a type that is incomplete or private there, the second one knows its full type.
abbrev pub known_with : Bool → Program → Known
known_with asked p = known_from p (known_from p (at_first asked p.count).table).table

unfoldable pub known_of : Program → Known
known_of p = known_with false p

-- The main procedure has no formals.
abbrev pub is_formless : Code → Bool
is_formless (Front d formals result) = has_none formals
is_formless _ = true

abbrev pub main_faults : Code → List Fault
main_faults (SubBody front items stmts end) = demand 3 (front_pos front) (is_formless front)
main_faults _ = []

-- All that is broken of K1 to K8, and of Y1 to Y3.
abbrev pub unit_faults : Context → Code → List Fault
unit_faults c u = code_faults c u ++ main_faults u

unfoldable pub sentence_faults : Known → List Code → List Fault
sentence_faults known units = flat_map (unit_faults (outside known)) units

unfoldable pub all_made : Known → List Code → List Made
all_made known units = flat_map (made (outside known)) units

unfoldable pub type_sizes : Known → List Code → List Fault
type_sizes known units = flat_map (made_faults known.table (all_made known units)) (all_made known units)

pub data TypeFault : Type 0 where
  -- one of Y1 to Y3
  Size : Fault → TypeFault
  -- one of K1 to K8
  Sentence : Fault → TypeFault

abbrev pub decided : Option Fault → Option Fault → Option TypeFault
decided (Some f) k = Some (Size f)
decided None (Some f) = Some (Sentence f)
decided None None = None

abbrev pub fault_known : Known → List Code → Option TypeFault
fault_known known units = decided (first (type_sizes known units)) (first (sentence_faults known units))

-- The fault told of a program that breaks a sentence is the first that doesn't follow from another
-- one.
abbrev pub told : Option TypeFault → Option TypeFault → Option TypeFault
told None found = None
told (Some f) None = Some f
told (Some f) (Some g) = Some g

-- The first position where Y1, Y2 or Y3 applies, or else the first where a sentence is broken; at
-- one position the lower number decides.
unfoldable pub type_fault : Program → Option TypeFault
type_fault p = told (fault_known (known_of p) p.units) (fault_known (known_with true p) p.units)
