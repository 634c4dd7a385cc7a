-- The typed program of resolved code is arranged, where the code is as the grammar has it and each
-- declaration of an object has a number of its own; so it is lowered if it is typed.
use Rattle.std.proofs.Common.{◌≡◌, refl, sym, ap, ◌∙◌, subst, inl, inr, ℕ, ◌+◌, ◌<◌, ◌≤◌, true, false, not, ◌&&◌, List, ◌∷◌, map, length, get_or, arith, None}
use Rattle.std.specs.Prelude.{is_some}
use Rattle.std.specs.List.{AllByRecursion}
use Rattle.std.proofs.lemmas.List.{length-map}
use Rattle.machine.specs.spark_base.Lists.{Has}
use Rattle.machine.specs.resolved_tree.Trees.{Code}
use Rattle.machine.specs.type_definitions.declared.table.Known.{Known}
use Rattle.machine.specs.type_definitions.Types.{Table}
use Rattle.machine.specs.typed_tree.declared.object.Object.{Object}
use Rattle.machine.specs.typed_tree.Trees.{TypedCode}
use Rattle.machine.specs.typed_tree.Expressions.{Site}
use Rattle.machine.specs.typed_tree.Programs.{TypedSub, TypedProgram, DeclaredObject, Home, program_objects, text_io, site_of, subs_in, elaborated, elaboration, over_units, typed_program}
use Rattle.machine.specs.flow_paths.Objects.{Typing, is_package_object, is_state}
use Rattle.machine.specs.flow_paths.Laid.{typing_of, flow_program, declared_within}
use Rattle.settled_types.specs.OrderLaws.ScopeLaws.Code.{Once, body_seen}
use Rattle.settled_types.specs.OrderLaws.ScopeLaws.Code as code
use Rattle.settled_types.proofs.OrderLaws.ScopeLaws.Lists.{all_has}
use Rattle.settled_types.specs.OrderLaws.Written.{is_unit}
use Rattle.settled_types.specs.OrderLaws.Placed.{is_placed}
use Rattle.settled_types.proofs.OrderLaws.Bodies.{IsDeclare, typed_body_written}
use Rattle.settled_types.proofs.OrderLaws.First.{units_declare, declares_alone, declares_placed}
use Rattle.settled_types.proofs.OrderLaws.Parts.{number_of, part_numbers_once, part_numbers_within, part_object, object_of}
use Rattle.settled_types.proofs.OrderLaws.Units.{IsLocal, IsBodyOf, units_of, body_objects}
use Rattle.soundness.specs.TypedLaws.TypedSteps.Steps.{AreTyped, AreCounted}
use Rattle.run_codes.specs.Lowered.{max_position}
use Rattle.run_codes.specs.Programs.{lowered_program}
use Rattle.sound_files.specs.TypedFiles.LoweredLaws.Lowers.{AreDefined}
use Rattle.sound_files.proofs.TypedFiles.LoweredLaws.Programs.{is_lowered}
use Rattle.settled_types.specs.OrderLaws.PackageValues.Calls.{calls_nothing}
use Rattle.sound_files.specs.TypedFiles.LoweredFiles.Code.{code_literals}
use Rattle.sound_files.specs.TypedFiles.LoweredFiles.Arranged.{IsArrangedSub, IsArranged}
use Rattle.sound_files.proofs.TypedFiles.LoweredFiles.Packages.{is_packaged, units_split, declared_package, package_declared}
use Rattle.sound_files.proofs.TypedFiles.LoweredFiles.Placed.{are_placed}

counted : (os : List DeclaredObject) → length (text_io ∷ map (λ (o : DeclaredObject). o.object) os) ≡ 1 + length os
counted os = let long = length-map os (λ (o : DeclaredObject). o.object) in omega (arith, long)

module _ (table : Table) (known : Known) (units : List Code) (written : (u : Code) → Has units u → is_unit u ≡ true)
    (once : Once (map number_of (program_objects known units))) where
  abbrev pub program : TypedProgram
  program = typed_program known units

  abbrev pub own : Typing
  own = typing_of table program

  abbrev pub site : Site
  site = site_of known units

  abbrev all : List DeclaredObject
  all = program_objects known units

  -- the subprograms with a body in the text, and the one that declares the objects of packages
  abbrev pub bodies : List TypedSub
  bodies = over_units (subs_in site) 1 units

  abbrev pub first : TypedSub
  first = elaboration site units

  abbrev declarations : List TypedCode
  declarations = over_units (elaborated site) 1 units

  abbrev home : Home
  home = record { known = known; identifier = None }

  declare : AllByRecursion IsDeclare declarations
  declare = units_declare site 1 units written

  objects_are : program.objects ≡ text_io ∷ map (λ (o : DeclaredObject). o.object) all
  unfolding typed_program
  objects_are = refl

  package_is : (x : ℕ) → is_package_object own x ≡ is_packaged (get_or (text_io ∷ map object_of all) x text_io)
  package_is x = ap (λ us. is_packaged (get_or us x text_io)) objects_are

  low : (x n : ℕ) → n ≡ 1 + length all → x < n → x < length program.objects
  low x n e lt = let long = ap length objects_are ∙ counted all in omega (arith, long, e, lt)

  -- ---- the first subprogram

  package_declares : (x : ℕ) → is_package_object own x ≡ true → Has (declared_within first.body) x
  package_declares x is = declared_package units site all refl once declarations (units_split units site home 1 units written) x (sym (package_is x) ∙ is)

  of_package : (x : ℕ) → Has (declared_within first.body) x → is_package_object own x ≡ true
  of_package x has = package_is x ∙ package_declared units site all refl once declarations (units_split units site home 1 units written) x has

  -- ---- the others

  body : (sub : TypedSub) → Has bodies sub → IsBodyOf units site all sub
  body sub has = units_of units site home 1 1 units written sub has

  body_placed : (sub : TypedSub) → Has bodies sub → is_placed sub.body ≡ true
  body_placed sub has =
      let b = body sub has in
      subst (λ (z : TypedSub). is_placed z.body ≡ true) b.is (typed_body_written _ (b.scope + 1) b.items b.stmts b.declarations b.statements).0

  body_own : (sub : TypedSub) → Has bodies sub → (x : ℕ) → Has (code.objects_of sub) x → is_package_object own x ≡ false
  body_own sub has x there =
      let os = body_objects units site all sub (body sub has) in
      let o = part_object site all refl once os.0 os.2 x (subst (λ xs. Has xs x) os.1 there) in
      package_is x ∙ ap is_packaged o.2 ∙ outside o.0.object (all_has IsLocal os.0 o.0 os.3 o.1)
    where
      outside : (o : Object) → o.«package» ≡ None → is_packaged o ≡ false
      outside o none = ap (λ z. is_some z && not (is_state o.kind)) none

  module _ (seen : (sub : TypedSub) → Has bodies sub → body_seen (is_package_object own) sub ≡ true) (values_seen : body_seen (is_package_object own) first ≡ true)
      (no_calls : calls_nothing first.body ≡ true) (words : (sub : TypedSub) → Has program.subs sub → (n : ℕ) → Has (code_literals sub.body) n → n ≤ max_position) where
    first_arranged : IsArrangedSub own first
    unfolding typed_program
    first_arranged =
        let os = units_split units site home 1 units written in
        record {
          placed = declares_placed declarations declare;
          seen = values_seen;
          once = subst Once (sym os.1) (part_numbers_once site all refl once os.0 os.2);
          within = λ x there. low x (1 + length all) refl (part_numbers_within site all refl once os.0 os.2 x (subst (λ xs. Has xs x) os.1 there)).1;
          words = words first (inl refl);
        }

    body_arranged : (sub : TypedSub) → Has bodies sub → IsArrangedSub own sub
    unfolding typed_program
    body_arranged sub has =
        let os = body_objects units site all sub (body sub has) in
        record {
          placed = body_placed sub has;
          seen = seen sub has;
          once = subst Once (sym os.1) (part_numbers_once site all refl once os.0 os.2);
          within = λ x there. low x (1 + length all) refl (part_numbers_within site all refl once os.0 os.2 x (subst (λ xs. Has xs x) os.1 there)).1;
          words = words sub (inr has);
        }

    pub arranged : IsArranged table program
    unfolding typed_program
    arranged = record {
      first = first;
      rest = bodies;
      subs = refl;
      declares = declares_alone declarations declare;
      no_formals = refl;
      no_calls = no_calls;
      package_declared = package_declares;
      of_package = of_package;
      elaborated = first_arranged;
      local = body_arranged;
      own = body_own;
    }

    flow_table : (flow_program table program).table ≡ table
    unfolding flow_program
    flow_table = refl

    -- The law.
    pub code_lowered : AreDefined table → AreTyped (flow_program table program) → AreCounted (flow_program table program).subs
        → lowered_program (flow_program table program) ≡ None → ⊥
    code_lowered defined typed counted =
        is_lowered (flow_program table program) (record {
          defined = subst AreDefined (sym flow_table) defined;
          typed = typed;
          counted = counted;
          placed = are_placed table program arranged;
        })
