-- The typed program of resolved code can be entered, where the code is as the grammar has it and each declaration of
-- an object has a number of its own.
use Rattle.std.proofs.Common.{◌≡◌, refl, sym, ap, ◌∙◌, subst, inl, inr, ℕ, suc, ◌+◌, ◌<◌, true, false, not, ◌&&◌, List, [], ◌∷◌, ◌++◌, map, length, get_or, arith, Some, None}
use Rattle.std.specs.Prelude.{is_some}
use Rattle.std.proofs.lemmas.List.{length-map}
use Rattle.machine.specs.spark_base.Lists.{Has}
use Rattle.machine.specs.resolved_tree.Trees.{Code}
use Rattle.machine.specs.type_definitions.declared.table.Known.{Known}
use Rattle.machine.specs.type_definitions.Types.{Table}
use Rattle.machine.specs.typed_tree.declared.object.Object.{Object}
use Rattle.machine.specs.typed_tree.Expressions.{Site}
use Rattle.machine.specs.typed_tree.Programs.{TypedSub, TypedProgram, DeclaredObject, program_objects, text_io, site_of, subs_in, elaboration, over_units, typed_program}
use Rattle.machine.specs.flow_paths.Objects.{Typing, is_package_object, is_state}
use Rattle.machine.specs.flow_paths.Laid.{typing_of, declared_within}
use Rattle.settled_types.specs.OrderLaws.ScopeLaws.Code.{Once}
use Rattle.settled_types.specs.OrderLaws.ScopeLaws.Code as code
use Rattle.settled_types.proofs.OrderLaws.ScopeLaws.Lists.{all_has}
use Rattle.settled_types.specs.OrderLaws.ReadyLaws.InOrder.{IsSub}
use Rattle.settled_types.specs.OrderLaws.Written.{is_unit}
use Rattle.settled_types.proofs.OrderLaws.Mains.{main_unit, main_at}
use Rattle.settled_types.proofs.OrderLaws.Parts.{number_of, part_numbers_once, part_numbers_within, part_object}
use Rattle.settled_types.proofs.OrderLaws.Units.{IsLocal, IsBodyOf, units_of, body_objects}
use Rattle.accepted_runs.specs.TestedFiles.RunTables.Entered.{CanEnter}

first_once : (xs ys : List ℕ) → Once (xs ++ ys) → Once xs
first_once [] ys once = tt
first_once (x ∷ xs) ys once = (λ has. once.0 (left xs ys x has), first_once xs ys once.1)
  where
    left : (xs ys : List ℕ) (x : ℕ) → Has xs x → Has (xs ++ ys) x
    left [] ys x has = absurd has
    left (y ∷ xs) ys x has = elim has [
      | inl same ↦ inl same
      | inr more ↦ inr (left xs ys x more)
    ]

in_front : (xs ys : List ℕ) (x : ℕ) → Has xs x → Has (xs ++ ys) x
in_front [] ys x has = absurd has
in_front (y ∷ xs) ys x has = elim has [
  | inl same ↦ inl same
  | inr more ↦ inr (in_front xs ys x more)
]

counted : (os : List DeclaredObject) → length (text_io ∷ map (λ (o : DeclaredObject). o.object) os) ≡ 1 + length os
counted os = let long = length-map os (λ (o : DeclaredObject). o.object) in omega (arith, long)

module _ (table : Table) (known : Known) (units : List Code) (written : (u : Code) → Has units u → is_unit u ≡ true)
    (once : Once (map number_of (program_objects known units))) where
  abbrev program : TypedProgram
  program = typed_program known units

  abbrev own : Typing
  own = typing_of table program

  abbrev site : Site
  site = site_of known units

  abbrev all : List DeclaredObject
  all = program_objects known units

  -- the subprograms with a body in the text
  abbrev bodies : List TypedSub
  bodies = over_units (subs_in site) 1 units

  objects_are : program.objects ≡ text_io ∷ map (λ (o : DeclaredObject). o.object) all
  unfolding typed_program
  objects_are = refl

  -- the objects of a body, those of a part of the program
  objects : (sub : TypedSub) → Has bodies sub → IsBodyOf units site all sub
  objects sub has = units_of units site (record { known = known; identifier = None }) 1 1 units written sub has

  formals_once : (sub : TypedSub) → Has bodies sub → Once sub.formals
  formals_once sub has =
      let os = body_objects units site all sub (objects sub has) in
      first_once sub.formals (declared_within sub.body) (subst Once (sym os.1) (part_numbers_once site all refl once os.0 os.2))

  formals_within : (sub : TypedSub) → Has bodies sub → (x : ℕ) → Has sub.formals x → x < length program.objects
  formals_within sub has x formal =
      let os = body_objects units site all sub (objects sub has) in
      let there : Has (code.objects_of sub) x = in_front sub.formals (declared_within sub.body) x formal in
      let within = part_numbers_within site all refl once os.0 os.2 x (subst (λ xs. Has xs x) os.1 there) in
      subst (λ n. x < n) (sym (ap length objects_are ∙ counted all)) within.1

  formals_own : (sub : TypedSub) → Has bodies sub → (x : ℕ) → Has sub.formals x → is_package_object own x ≡ false
  formals_own sub has x formal =
      let os = body_objects units site all sub (objects sub has) in
      let there : Has (code.objects_of sub) x = in_front sub.formals (declared_within sub.body) x formal in
      let o = part_object site all refl once os.0 os.2 x (subst (λ xs. Has xs x) os.1 there) in
      ap (λ us. is_some (get_or us x text_io).«package» && not (is_state (get_or us x text_io).kind)) objects_are
      ∙ outside (get_or (text_io ∷ map (λ (u : DeclaredObject). u.object) all) x text_io)
      (ap (λ (z : Object). z.«package») o.2 ∙ all_has IsLocal os.0 o.0 os.3 o.1)
    where
      outside : (o : Object) → o.«package» ≡ None → is_some o.«package» && not (is_state o.kind) ≡ false
      outside o none = ap (λ z. is_some z && not (is_state o.kind)) none

  main_there : (n : ℕ) → program.main ≡ Some n → (k : ℕ) × (sub : TypedSub) × (n ≡ suc k) × IsSub bodies k sub
  unfolding typed_program
  main_there n is =
      let unit = main_unit site units n is in
      let there = main_at site units refl 1 unit.0 unit.1 unit.2 unit.3 unit.4 in
      (there.0, there.2, unit.5 ∙ there.1, there.3)

  pub can_enter : CanEnter table program
  unfolding typed_program
  can_enter = record {
    first = elaboration site units;
    rest = bodies;
    subs = refl;
    packages = tt;
    once = formals_once;
    within = formals_within;
    own = formals_own;
    main = main_there;
  }
