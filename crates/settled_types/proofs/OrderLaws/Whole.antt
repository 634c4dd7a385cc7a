-- The subprograms of a typed program whose resolved code is as the grammar has it, and in which each declaration
-- of an object has a number of its own.
use Rattle.std.proofs.Common.{◌≡◌, refl, sym, ap, ◌∙◌, subst, inl, inr, ℕ, zero, suc, ◌+◌, ◌≤◌, ◌<◌, true, false, not, ◌&&◌, List, [], ◌∷◌, ◌++◌, map, length, get_or, arith, Some, None, if◌then◌else◌}
use Rattle.std.specs.Prelude.{flat_map, is_some}
use Rattle.std.specs.List.{AllByRecursion}
use Rattle.std.proofs.lemmas.List.{length-map}
use Rattle.machine.specs.spark_base.Lists.{Has}
use Rattle.spark_base.proofs.Lists.{Has-append_left, Has-append_right, Has-append_cases, Has-map}
use Rattle.machine.specs.place_names.declared.act.Mode.{Mode}
use Rattle.machine.specs.place_names.declared.act.Mode.TheVariants as mode
use Rattle.machine.specs.resolved_tree.Trees.{Code, Objects, Numbers, Formals, SubBody, Package, PackageBody, If, Branch, Case, When, Loop, While, For, Block, More, code_items}
use Rattle.machine.specs.type_definitions.declared.table.Kind.{Kind}
use Rattle.machine.specs.type_definitions.declared.table.Kind.TheVariants as kind
use Rattle.machine.specs.type_definitions.declared.table.Known.{Known}
use Rattle.machine.specs.type_definitions.declared.table.Entry.{Entry}
use Rattle.machine.specs.type_definitions.declared.table.Entry.TheVariants as entry
use Rattle.machine.specs.type_definitions.Types.{Table, full, is_scalar}
use Rattle.machine.specs.type_definitions.Entries.{entry_of}
use Rattle.machine.specs.type_definitions.Gathered.{declared_number, declared_text}
use Rattle.machine.specs.type_definitions.Declarations.{code_faults}
use Rattle.machine.specs.type_definitions.Whole.{outside}
use Rattle.machine.specs.typed_tree.declared.object.Object.{Object}
use Rattle.machine.specs.typed_tree.Trees.{TypedCode}
use Rattle.machine.specs.typed_tree.Trees as typed
use Rattle.machine.specs.typed_tree.Expressions.{Site}
use Rattle.machine.specs.typed_tree.Statements.{scope_count}
use Rattle.machine.specs.typed_tree.Programs.{TypedSub, TypedProgram, DeclaredObject, Home, objects_in, object_of, formals_of, front_formals, local, in_package, package_text, kind_of, entry_kind, program_objects, text_io, site_of, subs_in, elaborated, elaboration, over_units, typed_program}
use Rattle.machine.specs.flow_paths.Objects.{Typing, object_at, is_formal, is_package_object, is_state}
use Rattle.machine.specs.flow_paths.Points.{NamedPoint, entry}
use Rattle.machine.specs.flow_paths.Layout.{laid}
use Rattle.machine.specs.flow_paths.Laid.{temporary_object, declared_within, NamedSub, around_body, procedure_end, function_end, sub_temporaries, named_sub, named_subs, all_named, flow_sub, typing_of, flow_typing, flow_program, flow_named}
use Rattle.machine.specs.flow_paths.Scopes.{is_temporary, is_settled}
use Rattle.soundness.specs.Typed.{OwnsByShape}
use Rattle.soundness.specs.TypedLaws.Needed.{IsFine, AreFine}
use Rattle.soundness.proofs.Points.{flow_at}
use Rattle.settled_types.specs.OrderLaws.ScopeLaws.Code.{Once, is_formed, body_seen}
use Rattle.settled_types.specs.OrderLaws.ScopeLaws.Code as code
use Rattle.settled_types.proofs.OrderLaws.ScopeLaws.Lists.{and_first, all_both, all_has}
use Rattle.settled_types.proofs.OrderLaws.ScopeLaws.Filled.{temporaries_of, object_before}
use Rattle.settled_types.specs.OrderLaws.ReadyLaws.InOrder.{IsBody, names_no_owner, IsInOrder}
use Rattle.settled_types.proofs.OrderLaws.ReadyLaws.Subs.{setting_from}
use Rattle.settled_types.specs.OrderLaws.Written.{are_declarations, are_statements, is_procedure, is_unit}
use Rattle.settled_types.specs.OrderLaws.Placed.{is_placed, parameters}
use Rattle.settled_types.proofs.OrderLaws.Bodies.{IsDeclare, typed_body_written}
use Rattle.settled_types.proofs.OrderLaws.First.{units_declare, declares_alone, declares_placed, no_parameters, units_some}
use Rattle.settled_types.proofs.OrderLaws.Mains.{main_unit, main_at, procedure_result}
use Rattle.settled_types.proofs.OrderLaws.Settled.{settled_from, starts, scalar_silent}
use Rattle.settled_types.proofs.OrderLaws.Parts.{number_of, part_numbers_once, part_numbers_within, part_object}
use Rattle.settled_types.proofs.OrderLaws.Units.{IsLocal, IsBodyOf, units_of, body_objects}
use Rattle.settled_types.proofs.OrderLaws.Apart.{units_apart}

-- ---- kinds of objects

abbrev IsLasting : DeclaredObject → Type 0
IsLasting o = is_temporary o.object.kind ≡ false

module _ (units : List Code) where
  entry_lasting : (e : Entry) → is_temporary (entry_kind e) ≡ false
  entry_lasting (entry.Object o) = by_kind o.kind
    where
      by_kind : (k : Kind) → is_temporary (kind_of k) ≡ false
      by_kind kind.Variable = refl
      by_kind kind.Constant = refl
      by_kind kind.Formal = refl
      by_kind kind.Parameter = refl
  entry_lasting (entry.Subprogram profile) = refl
  entry_lasting (entry.Instance t) = refl
  entry_lasting (entry.Predefined which) = refl
  entry_lasting (entry.Literal t n) = refl
  entry_lasting entry.Type = refl
  entry_lasting entry.Nothing = refl
  entry_lasting entry.Package = refl

  each_lasting : (h : Home) (a : ℕ) (m : Mode) (ids : List Code) → AllByRecursion IsLasting (map (object_of h a m) ids)
  each_lasting h a m [] = tt
  each_lasting h a m (d ∷ ids) = (entry_lasting (entry_of h.known (declared_number d)), each_lasting h a m ids)

  group_lasting : (h : Home) (a : ℕ) (g : Code) → AllByRecursion IsLasting (formals_of h a g)
  group_lasting h a (Formals ids m of) = each_lasting h a m (code_items ids)
  group_lasting h a _ = tt

  formals_lasting : (h : Home) (a : ℕ) (groups : List Code) → AllByRecursion IsLasting (flat_map (formals_of h a) groups)
  formals_lasting h a [] = tt
  formals_lasting h a (g ∷ groups) = all_both IsLasting (formals_of h a g) (flat_map (formals_of h a) groups) (group_lasting h a g) (formals_lasting h a groups)

  code_lasting : (h : Home) (a n : ℕ) (c : Code) → AllByRecursion IsLasting (objects_in units h a n c)
  unfolding objects_in
  code_lasting h a n (Objects ids constant i v) = each_lasting h a mode.In (code_items ids)
  code_lasting h a n (Numbers ids e) = each_lasting h a mode.In (code_items ids)
  code_lasting h a n (SubBody front items stmts end) =
      let formals : List DeclaredObject = flat_map (formals_of (local h) n) (front_formals front) in
      let first : List DeclaredObject = objects_in units (local h) n (n + 1) items in
      all_both IsLasting (formals ++ first) (objects_in units (local h) n (n + 1 + scope_count items) stmts)
      (all_both IsLasting formals first (formals_lasting (local h) n (front_formals front)) (code_lasting (local h) n (n + 1) items))
      (code_lasting (local h) n (n + 1 + scope_count items) stmts)
  code_lasting h a n (Package d visible hidden) =
      all_both IsLasting (objects_in units (in_package (declared_text d) h) a n visible) _ (code_lasting (in_package (declared_text d) h) a n visible)
      (code_lasting (in_package (declared_text d) h) a (n + scope_count visible) hidden)
  code_lasting h a n (PackageBody d parts) = code_lasting (in_package (package_text units (declared_number d)) h) a n parts
  code_lasting h a n (If p branches otherwise) =
      all_both IsLasting (objects_in units h a n branches) _ (code_lasting h a n branches) (code_lasting h a (n + scope_count branches) otherwise)
  code_lasting h a n (Branch p e stmts) = code_lasting h a n stmts
  code_lasting h a n (Case p e whens) = code_lasting h a n whens
  code_lasting h a n (When choices stmts) = code_lasting h a n stmts
  code_lasting h a n (Loop p stmts) = code_lasting h a n stmts
  code_lasting h a n (While p e stmts) = code_lasting h a n stmts
  code_lasting h a n (For p d reversed range stmts) = (entry_lasting (entry_of h.known (declared_number d)), code_lasting h n (n + 1) stmts)
  code_lasting h a n (Block p items stmts end) =
      all_both IsLasting (objects_in units h n (n + 1) items) _ (code_lasting h n (n + 1) items) (code_lasting h n (n + 1 + scope_count items) stmts)
  code_lasting h a n (More first rest) = all_both IsLasting (objects_in units h a n first) _ (code_lasting h a n first) (code_lasting h a (n + scope_count first) rest)
  code_lasting h a n _ = tt

  units_lasting : (h : Home) (n : ℕ) (us : List Code) → AllByRecursion IsLasting (over_units (objects_in units h 0) n us)
  units_lasting h n [] = tt
  units_lasting h n (u ∷ us) = all_both IsLasting (objects_in units h 0 n u) _ (code_lasting h 0 n u) (units_lasting h (n + scope_count u) us)

object_lasting : (os : List DeclaredObject) → AllByRecursion IsLasting os → (x : ℕ) → is_temporary (get_or (map (λ (o : DeclaredObject). o.object) os) x text_io).kind ≡ false
object_lasting [] h x = refl
object_lasting (o ∷ os) h zero = h.0
object_lasting (o ∷ os) h (suc x) = object_lasting os h.1 x

counted : (os : List DeclaredObject) → length (text_io ∷ map (λ (o : DeclaredObject). o.object) os) ≡ 1 + length os
counted os = let long = length-map os (λ (o : DeclaredObject). o.object) in omega (arith, long)

-- ---- the program

-- A subprogram with a number stands in the layout.
in_layout : (s : Typing) (n : ℕ) (subs : List TypedSub) (sub : TypedSub) → Has subs sub
    → (m : ℕ) × Has (named_subs s n subs) (named_sub s m (sub_temporaries s sub) sub)
in_layout s n [] sub has = absurd has
in_layout s n (first ∷ subs) sub (inl e) =
    (n, inl (ap (λ z. named_sub s n (sub_temporaries s z) z) e))
in_layout s n (first ∷ subs) sub (inr has) =
    (let later = in_layout s (n + length (sub_temporaries s first)) subs sub has in (later.0, inr later.1))

-- ---- parameters of loops

parameter_within : (c : TypedCode) (x : ℕ) → Has (parameters c) x → Has (declared_within c) x
unfolding parameters declared_within
parameter_within (typed.If branches otherwise) x has = elim (Has-append_cases (parameters branches) (parameters otherwise) x has) [
  | inl here ↦ Has-append_left (declared_within branches) (declared_within otherwise) x (parameter_within branches x here)
  | inr more ↦ Has-append_right (declared_within branches) (declared_within otherwise) x (parameter_within otherwise x more)
]
parameter_within (typed.More a rest) x has = elim (Has-append_cases (parameters a) (parameters rest) x has) [
  | inl here ↦ Has-append_left (declared_within a) (declared_within rest) x (parameter_within a x here)
  | inr more ↦ Has-append_right (declared_within a) (declared_within rest) x (parameter_within rest x more)
]
parameter_within (typed.Branch p e stmts) x has = parameter_within stmts x has
parameter_within (typed.Case p e whens) x has = parameter_within whens x has
parameter_within (typed.When choices stmts) x has = parameter_within stmts x has
parameter_within (typed.Loop stmts) x has = parameter_within stmts x has
parameter_within (typed.While p e stmts) x has = parameter_within stmts x has
parameter_within (typed.For p y reversed low high stmts) x (inl same) = inl same
parameter_within (typed.For p y reversed low high stmts) x (inr has) = inr (parameter_within stmts x has)
parameter_within (typed.Block n stmts end) x has = parameter_within stmts x has
parameter_within _ x has = absurd has

-- ---- the program

module _ (table : Table) (known : Known) (units : List Code) (written : (u : Code) → Has units u → is_unit u ≡ true)
    (once : Once (map number_of (program_objects known units)))
    (owns : OwnsByShape table) (fine : AreFine (flow_program table (typed_program known units))) where
  abbrev program : TypedProgram
  program = typed_program known units

  abbrev own : Typing
  own = typing_of table program

  abbrev site : Site
  site = site_of known units

  abbrev all : List DeclaredObject
  all = program_objects known units

  -- the subprograms with a body in the text
  abbrev pub bodies : List TypedSub
  bodies = over_units (subs_in site) 1 units

  subs_are : program.subs ≡ elaboration site units ∷ bodies
  unfolding typed_program
  subs_are = refl

  objects_are : program.objects ≡ text_io ∷ map (λ (o : DeclaredObject). o.object) all
  unfolding typed_program
  objects_are = refl

  lasting : (x : ℕ) → is_temporary (object_at own x).kind ≡ false
  lasting x = ap (λ os. is_temporary (get_or os x text_io).kind) objects_are ∙ by_number x
    where
      by_number : (x : ℕ) → is_temporary (get_or (text_io ∷ map (λ (o : DeclaredObject). o.object) all) x text_io).kind ≡ false
      by_number zero = refl
      by_number (suc x) = object_lasting all (units_lasting units (record { known = known; identifier = None }) 1 units) x

  -- the body of which a subprogram is the typed one
  body : (sub : TypedSub) → Has bodies sub → IsBodyOf units site all sub
  body sub has = units_of units site (record { known = known; identifier = None }) 1 1 units written sub has

  placed : (sub : TypedSub) → Has bodies sub → (is_placed sub.body ≡ true) × (is_formed false sub.body ≡ true)
  placed sub has =
      let b = body sub has in
      subst (λ (z : TypedSub). (is_placed z.body ≡ true) × (is_formed false z.body ≡ true)) b.is
      (typed_body_written _ (b.scope + 1) b.items b.stmts b.declarations b.statements)

  numbered : (sub : TypedSub) → Has bodies sub → (x : ℕ) → Has (code.objects_of sub) x → (1 ≤ x) × (x < length own.objects)
  numbered sub has x there =
      let os = body_objects units site all sub (body sub has) in
      let within = part_numbers_within site all refl once os.0 os.2 x (subst (λ xs. Has xs x) os.1 there) in
      (within.0, subst (λ n. x < n) (sym (ap length objects_are ∙ counted all)) within.1)

  -- an object of the text is as the layout has it
  laid_same : (x : ℕ) → x < length program.objects → object_at (flow_typing (flow_program table program)) x ≡ object_at own x
  unfolding flow_program
  laid_same x less = object_before program.objects (map temporary_object (temporaries_of (flow_named table program))) x text_io less

  -- the parameters of loops are of scalar types, since their bounds are set
  scalar : (sub : TypedSub) → Has bodies sub → (x : ℕ) → Has (parameters sub.body) x → is_scalar (full table (object_at own x).of) ≡ true
  unfolding flow_program
  scalar sub has x parameter =
      let there = in_layout own (length own.objects) bodies sub has in
      let named : NamedSub = named_sub own there.0 (sub_temporaries own sub) sub in
      let in_named : Has (flow_named table program) named = subst (λ subs. Has (all_named own subs) named) (sym subs_are) (inr there.1) in
      let end : List NamedPoint = if is_some sub.result then function_end sub else procedure_end (setting_from own there.0 sub) sub in
      let found = starts (setting_from own there.0 sub) x sub.body (0 ∷ []) (around_body (setting_from own there.0 sub) sub) (entry end []) (placed sub has).0 parameter in
      let p : NamedPoint = found.0 in
      let in_points : Has named.points p =
      Has-append_left (laid (setting_from own there.0 sub) sub.body (0 ∷ []) (around_body (setting_from own there.0 sub) sub) (entry end [])) end p found.1 in
      let text : IsFine (flow_typing (flow_program table program)) sub.result p.instr =
      fine (flow_sub own named) (Has-map (flow_sub own) (flow_named table program) named in_named) (flow_at own named p)
      (Has-map (λ (q : NamedPoint). flow_at own named q) named.points p in_points) in
      let start = subst (IsFine (flow_typing (flow_program table program)) sub.result) found.5 text in
      let less = (numbered sub has x (Has-append_right sub.formals (declared_within sub.body) x (parameter_within sub.body x parameter))).1 in
      sym (ap (λ (o : Object). is_scalar (full table o.of)) (laid_same x less)) ∙ start.0

  settled : (sub : TypedSub) → Has bodies sub → is_settled own sub.body ≡ true
  settled sub has = settled_from own lasting sub.body (placed sub has).0 (λ x there. scalar_silent own owns x (lasting x) (scalar sub has x there))

  -- Each body is in order, its objects belong to no package, and its exits stand in loops.
  pub body_is : (sub : TypedSub) → Has bodies sub
      → IsBody own sub × ((x : ℕ) → Has (code.objects_of sub) x → is_package_object own x ≡ false) × (is_formed false sub.body ≡ true)
  body_is sub has =
      let os = body_objects units site all sub (body sub has) in (
        record {
          settled = settled sub has;
          once = subst Once (sym os.1) (part_numbers_once site all refl once os.0 os.2);
          numbered = numbered sub has;
        },
        λ x there. (let o = part_object site all refl once os.0 os.2 x (subst (λ xs. Has xs x) os.1 there) in
            ap (λ us. is_some (get_or us x text_io).«package» && not (is_state (get_or us x text_io).kind)) objects_are
            ∙ outside (get_or (text_io ∷ map (λ (u : DeclaredObject). u.object) all) x text_io)
            (ap (λ (z : Object). z.«package») o.2 ∙ all_has IsLocal os.0 o.0 os.3 o.1)),
        (placed sub has).1,
      )
    where
      outside : (o : Object) → o.«package» ≡ None → is_some o.«package» && not (is_state o.kind) ≡ false
      outside o none = ap (λ z. is_some z && not (is_state o.kind)) none

  -- no object is one of two bodies
  bodies_apart : Once (flat_map code.objects_of bodies)
  bodies_apart =
      let os = units_apart units site (record { known = known; identifier = None }) 1 1 units written in
      subst Once (sym os.1) (part_numbers_once site all refl once os.0 os.2)

  -- ---- the package objects

  abbrev first : TypedSub
  first = elaboration site units

  abbrev declarations : List TypedCode
  declarations = over_units (elaborated site) 1 units

  declare : AllByRecursion IsDeclare declarations
  declare = units_declare site 1 units written

  first_is : IsBody own first
  first_is =
      let os = units_some units site (record { known = known; identifier = None }) 1 units written in
      record {
        settled = settled_from own lasting first.body (declares_placed declarations declare) (λ x has. absurd (no_parameters declarations declare x has));
        once = subst Once (sym os.1) (part_numbers_once site all refl once os.0 os.2);
        numbered = λ x there. (let within = part_numbers_within site all refl once os.0 os.2 x (subst (λ xs. Has xs x) os.1 there) in
            (within.0, subst (λ n. x < n) (sym (ap length objects_are ∙ counted all)) within.1));
      }

  each_is : (sub : TypedSub) → Has program.subs sub → IsBody own sub
  each_is sub has = elim (subst (λ subs. Has subs sub) subs_are has) [
    | inl e ↦ subst (IsBody own) e first_is
    | inr later ↦ (body_is sub later).0
  ]

  -- ---- all of it

  -- Subprograms are in order, if this holds beside: formals are known as such, what names denote is in scope, and
  -- initial values of package objects name nothing that owns.
  pub in_order : ((sub : TypedSub) → Has bodies sub → (x : ℕ) → Has sub.formals x → is_formal own x ≡ true)
      → ((sub : TypedSub) → Has bodies sub → body_seen (is_package_object own) sub ≡ true) → names_no_owner own first.body ≡ true
      → ((u : Code) → Has units u → code_faults (outside known) u ≡ []) → (main : ℕ) → program.main ≡ Some main → IsInOrder table program
  unfolding typed_program
  in_order formals seen unmoved faults main is =
      let unit = main_unit site units main is in
      let there = main_at site units refl 1 unit.0 unit.1 unit.2 unit.3 unit.4 in
      let sub : TypedSub = there.2 in
      let stands = there.3 in
      record {
        first = first;
        rest = bodies;
        subs = refl;
        declares = declares_alone declarations declare;
        unmoved = unmoved;
        bodies = each_is;
        local = λ sub has. record { own = (body_is sub has).1; formals = formals sub has; seen = seen sub has };
        apart = bodies_apart;
        formed = λ sub has. (body_is sub has).2;
        number = there.0;
        main = sub;
        is_main = is ∙ ap Some (unit.5 ∙ there.1);
        stands = stands;
        procedure = there.4 ∙ procedure_result (outside known) unit.0 unit.1 unit.2 unit.3
            (and_first (is_procedure unit.0) (are_declarations unit.1 && are_statements false unit.2) (written (SubBody unit.0 unit.1 unit.2 unit.3) unit.4))
            (faults (SubBody unit.0 unit.1 unit.2 unit.3) unit.4);
        lasting = lasting;
        text_io = ap (λ os. is_package_object (record own { objects = os }) 0) objects_are;
      }
