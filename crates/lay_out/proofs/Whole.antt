-- The program that is laid out.
use Rattle.std.proofs.Common.{◌≡◌, ℕ, List, [], ◌∷◌, ◌++◌, map, refl, sym, ap, ◌∙◌, Option, Some, None}
use Rattle.spark_base.specs.declared.position.Pos.{Pos}
use Rattle.ada_tree.specs.declared.unit.SourceUnit.{SourceUnit}
use Rattle.source_trees.specs.Trees.{AreNamed}
use Rattle.type_definitions.specs.Types.{Table}
use Rattle.typing_steps.specs.Programs.{program_of}
use Rattle.typed_tree.specs.declared.object.Object.{Object}
use Rattle.typed_tree.specs.Nodes.{TypedNodes, typed_code_at}
use Rattle.typed_tree.specs.Programs.{TypedSub, TypedProgram}
use Rattle.typed_statements.specs.declared.subs.Subprogram.{Subprogram}
use Rattle.typed_statements.specs.Bodies.{sub_at}
use Rattle.typed_programs.specs.declared.parts.ProgramParts.{ProgramParts}
use Rattle.type_rules.specs.declared.typed.Typed.{Typed}
use Rattle.type_rules.specs.Typed.{IsTyped}
use Rattle.flow_paths.specs.declared.point.LaidSub.{LaidSub}
use Rattle.flow_paths.specs.declared.refusal.LayFault.TheVariants as fault
use Rattle.flow_paths.specs.Objects.{Typing, Signature}
use Rattle.flow_paths.specs.Laid.{FlowProgram, flow_program, signature, typing_of}
use Rattle.flow_paths.specs.Limits.{beyond, deep_name, fault_of, lay_fault}
use Rattle.flow_paths.specs.Stands.{flow_sub_of}
use Rattle.numbered_points.specs.Programs.{all_numbered, program_numbers, waiting_object}
use Rattle.numbered_points.proofs.Program.{program_same}
use Rattle.deep_names.specs.Bodies.{IsProgram}
use Rattle.laid_program.specs.Layouts.{IsLayout, program_with}
use Rattle.lay_out.specs.Known.{signature_of}
use Rattle.lay_out.specs.declared.laid_subs.LaidSubs.{LaidSubs}
use Rattle.lay_out.specs.Parts.{parts_of}
use Rattle.lay_out.specs.Programs.{known_of, source, AreLaid}
use Rattle.lay_out.specs.Subs.{subs_of, types_of}

-- ---- what is known of the parts

signatures_are : (rows : TypedNodes) (subs : List Subprogram) → map signature_of subs ≡ map signature (map (sub_at rows) subs)
signatures_are rows [] = refl
signatures_are rows (b ∷ rest) = ap (λ (ss : List Signature). signature_of b ∷ ss) (signatures_are rows rest)

pub known_is : (typed : Typed) (table : Table) (objects : List Object) (subs : List Signature) → table ≡ typed.table → objects ≡ typed.objects
    → subs ≡ map signature_of typed.subs → record { table = table; objects = objects; subs = subs } ≡ known_of typed
known_is typed table objects subs table_is objects_are subs_are =
    λ i. record { table = table_is i; objects = objects_are i; subs = (subs_are ∙ signatures_are typed.rows typed.subs) i }

bodies_are : (rows : TypedNodes) (subs : List Subprogram)
    → map (λ (sub : TypedSub). sub.body) (map (sub_at rows) subs) ≡ map (typed_code_at rows) (map (λ (b : Subprogram). b.body) subs)
bodies_are rows [] = refl
bodies_are rows (b ∷ rest) = λ i. typed_code_at rows b.body ∷ bodies_are rows rest i

pub program_is : (typed : Typed) (s : Typing) (bodies : List ℕ) → s ≡ known_of typed → bodies ≡ map (λ (b : Subprogram). b.body) typed.subs
    → IsProgram typed.rows s bodies (source typed)
program_is typed s bodies known bodies_is = record {
  code = bodies_are typed.rows typed.subs ∙ ap (map (typed_code_at typed.rows)) (sym bodies_is);
  known = ap (λ (t : Typing). typing_of t.table (source typed)) known ∙ sym known;
}

-- ---- limits

module _ (table : Table) (p : TypedProgram) where
  subs_are : (flow_program table p).subs ≡ subs_of (all_numbered (typing_of table p) p.subs)
  unfolding program_numbers
  subs_are = ap (λ (q : FlowProgram). q.subs) (sym (program_same table p))

  -- No name is too deep.
  pub fault_behind : None ≡ deep_name (flow_program table p)
      → lay_fault (flow_program table p) ≡ beyond (subs_of (all_numbered (typing_of table p) p.subs))
  unfolding lay_fault
  fault_behind none = λ i. fault_of (sym none i) (subs_are i)

  pub fault_deep : (pos : Pos) → Some pos ≡ deep_name (flow_program table p)
      → lay_fault (flow_program table p) ≡ Some (fault.NameTooDeep pos)
  unfolding lay_fault
  fault_deep pos is = ap (λ (found : Option Pos). fault_of found (flow_program table p).subs) (sym is)

  -- ---- the program

  pub laid_is : (rows : TypedNodes) (objects : List Object) (subs : List LaidSub) (types : List ℕ)
      → map (flow_sub_of rows) subs ≡ subs_of (all_numbered (typing_of table p) p.subs)
      → types ≡ types_of (all_numbered (typing_of table p) p.subs)
      → objects ≡ p.objects ++ map waiting_object types
      → program_with table rows objects p.scopes subs p.main ≡ flow_program table p
  unfolding program_numbers
  laid_is rows objects subs types subs_is types_are objects_are =
      (λ i. record {
        table = table;
        objects = (objects_are ∙ ap (λ (ts : List ℕ). p.objects ++ map waiting_object ts) types_are) i;
        scopes = p.scopes;
        subs = subs_is i;
        main = p.main;
      }) ∙ program_same table p

-- What is laid out, with the parts of the typed program.
module _ (typed : Typed) (table : Table) (parts : ProgramParts) (objects : List Object) (made : LaidSubs) (table_is : table ≡ typed.table)
    (parts_are : parts ≡ parts_of typed) (laid : AreLaid typed made) (objects_are : objects ≡ parts.objects ++ map waiting_object made.types.items) where
  pub laid_program : program_with table parts.rows objects parts.scopes made.subs parts.main ≡ flow_program typed.table (source typed)
  laid_program =
      (λ i. program_with (table_is i) (parts_are i).rows objects (parts_are i).scopes made.subs (parts_are i).main)
      ∙ laid_is typed.table (source typed) typed.rows objects made.subs made.types.items laid.subs laid.types
      (objects_are ∙ ap (λ (q : ProgramParts). q.objects ++ map waiting_object made.types.items) parts_are)

  pub is_layout : lay_fault (flow_program typed.table (source typed)) ≡ None
      → (files : List (List SourceUnit)) → IsTyped files typed.table (parts_of typed) → AreNamed files
      → IsLayout (program_with table parts.rows objects parts.scopes made.subs parts.main)
  is_layout none files is named = record {
    trees = files;
    named = named;
    code = program_of files;
    meant = refl;
    no_fault = is.no_fault;
    types = table_is ∙ is.types;
    source = source typed;
    typed = is.program.1;
    laid = laid_program ∙ ap (λ (t : Table). flow_program t (source typed)) (sym table_is);
    within = ap lay_fault laid_program ∙ none;
  }
