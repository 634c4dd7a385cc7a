-- Calls that are lowered: actuals and formals are of the kinds of their types.
use Rattle.std.proofs.Common.{◌≡◌, refl, sym, ap, ◌∙◌, subst, ℕ, zero, suc, ◌+◌, arith, Bool, true, false, List, [], ◌∷◌, ◌++◌, append_assoc, length-append, map, length, get_or, Option, Some, None, if◌then◌else◌}
use Rattle.std.specs.Prelude.{flat_map, option_and_then}
use Rattle.std.proofs.lemmas.Grind.{flat_map-append}
use Rattle.spark_base.specs.declared.position.Pos.{Pos}
use Rattle.place_names.specs.declared.act.Mode.TheVariants as mode
use Rattle.typed_tree.specs.Trees.{TypedTree, Name, NoMore, More}
use Rattle.flow_paths.specs.Objects.{Typing, Signature, Passing, ByValue, Traversed, object_at}
use Rattle.flow_paths.specs.Objects as objects
use Rattle.flow_paths.specs.Names.{waiting}
use Rattle.flow_paths.specs.Points.{FlowPoint}
use Rattle.flow_paths.specs.Instructions.{Instruction, Declare, Start}
use Rattle.flow_paths.specs.Laid.{FlowSub, FlowProgram, flow_typing}
use Rattle.type_definitions.specs.declared.table.Shape.{Shape}
use Rattle.type_definitions.specs.declared.table.Shape.TheVariants as shape
use Rattle.type_definitions.specs.Types.{Table, shape_of, full, view_of}
use Rattle.run_values.specs.declared.value.Kind.{Kind}
use Rattle.run_values.specs.declared.value.Kind.TheVariants as sort
use Rattle.machine.specs.Evaluate.{Use, AsView}
use Rattle.machine.specs.States.{sub_of}
use Rattle.machine.specs.States as machine
use Rattle.run_codes.specs.Codes.{Actual, From, To, Room, Object, Counter}
use Rattle.run_codes.specs.Codes as codes
use Rattle.run_codes.specs.Flat.{kind_of, kinds}
use Rattle.run_codes.specs.Lowered.{Kept, Site, Placed, option_map, one_type, place, value}
use Rattle.run_codes.specs.Programs.{Program, kept, has_room, with_room, room_of, rooms_of, rooms, sub_rows, use_for, is_scalar_shape, name_pos, actual, actuals, with_first}
use Rattle.run_codes.specs.Points.{no_sub, sub_at}
use Rattle.run_codes.specs.Related.{IsTable}
use Rattle.run_codes.proofs.Expressions.{and_then_some, map_some}
use Rattle.run_codes.proofs.Places.{impossible, if_some, if_none, some_same}
use Rattle.handled_runs.specs.Looks.{IsFront}
use Rattle.handled_steps.specs.Alike.{room_kinds}
use Rattle.handled_steps.specs.Backs.{FitsOf}
use Rattle.handled_steps.specs.Looks.{LooksActual, LooksActuals, LooksFormals}
use Rattle.handled_kinds.specs.Kinds.{HasKinds, HaveFormals}
use Rattle.handled_kinds.specs.Stacks.{HasRows}
use Rattle.handled_kinds.proofs.Places.{looks_there}
use Rattle.handled_kinds.proofs.Filled.{AtPlace, one_kinds, named_at, value_fine}
use Rattle.handled_kinds.proofs.Stacks.{drop_after, frame_is}

-- ---- formals

-- They stand at the front of a frame.
pub formals_look : (table : Table) (here : List Kind) (formals : List ℕ) (frame more : List Kind) → frame ≡ flat_map (kinds table) formals ++ more → LooksFormals table (length here) formals (here ++ frame)
formals_look table here formals frame more is =
    subst (λ ks. LooksFormals table (length here) formals (here ++ ks)) (sym is) (from here formals (length here) refl)
  where
    self : (ks rest : List Kind) → IsFront ks (ks ++ rest)
    self [] rest = tt
    self (k ∷ ks) rest = (refl, self ks rest)

    from : (first : List Kind) (fs : List ℕ) (at : ℕ) → at ≡ length first → LooksFormals table at fs (first ++ (flat_map (kinds table) fs ++ more))
    from first [] at e = tt
    from first (f ∷ fs) at e =
        let ks : List Kind = kinds table f in
        let rest : List Kind = flat_map (kinds table) fs ++ more in
        let whole : first ++ (ks ++ flat_map (kinds table) fs ++ more) ≡ first ++ (ks ++ rest) = ap (λ js. first ++ js) (append_assoc ks (flat_map (kinds table) fs) more) in
        let next : first ++ (ks ++ rest) ≡ first ++ ks ++ rest = sym (append_assoc first ks rest) in
        let zero_at : at ≡ length first + 0 = omega (arith, e) in
        let count = length-append first (ks ++ rest) in
        let long = length-append first ks in
        subst (LooksFormals table at (f ∷ fs)) (sym whole) (
          subst (IsFront ks) (sym (drop_after first (ks ++ rest) 0 at zero_at)) (self ks rest),
          omega (arith, e, count),
          subst (LooksFormals table (at + length ks) fs) (sym next) (from (first ++ ks) fs (at + length ks) (omega (arith, e, long))),
        )

-- ---- actuals

module _ (c : Site) (laws : IsTable c.typing.table) (here taken : List Kind) (base : ℕ) (has : HasKinds c base here taken) where
  abbrev table : Table
  table = c.typing.table

  abbrev of : ℕ → ℕ
  of x = (object_at c.typing x).of

  fits_of : (t : ℕ) (ks : List Kind) → kinds table t ≡ ks → FitsOf (full table t) ks
  fits_of t ks is = by (shape_of table t) refl
    where
      by : (sh : Shape) → shape_of table t ≡ sh → FitsOf (view_of sh) ks
      by (shape.Whole low high) e = (sort.Int, sym is ∙ ap (map kind_of) (laws.whole t low high e), tt)
      by (shape.Listed literals low high) e = (sort.Enum, sym is ∙ ap (map kind_of) (laws.listed t low high literals e), tt)
      by (shape.Access d constant named) e = tt
      by (shape.Fields cs) e = tt
      by (shape.Elements low high element) e = tt
      by (shape.Same u) e = tt

  place_at : (k : ℕ) (e : TypedTree) (r : Placed) → place c k e ≡ Some r → AtPlace c laws here taken base has r
  place_at k (Name y x steps u) r is = named_at c laws here taken base has k x u steps r is
  place_at k _ r is = impossible r is

  value_look : (k x : ℕ) (e : TypedTree) (a : Actual) (v : Use) → option_map codes.ByValue (value c k v (of x) e) ≡ Some a → LooksActual table base here taken (of x) a
  value_look k x e a v is =
      let on = map_some codes.ByValue (value c k v (of x) e) a is in
      subst (LooksActual table base here taken (of x)) on.2 (value_fine c laws here taken base has e k v (of x) on.0 on.1)

  viewed_look : (k x : ℕ) (e : TypedTree) (a : Actual) → (if is_scalar_shape (shape_of table (of x)) then None else option_map codes.ByValue (value c k AsView (of x) e)) ≡ Some a
      → LooksActual table base here taken (of x) a
  viewed_look k x e a is =
      let on = if_none (is_scalar_shape (shape_of table (of x))) (option_map codes.ByValue (value c k AsView (of x) e)) a is in value_look k x e a AsView on.1

  placed_look : (k x : ℕ) (e : TypedTree) (a : Actual) (f : Placed → Actual)
      → ((q : Placed) → AtPlace c laws here taken base has q → kinds table q.of ≡ kinds table (of x) → LooksActual table base here taken (of x) (f q))
      → option_and_then (λ q. if one_type table q.of (of x) then Some (f q) else None) (place c k e) ≡ Some a → LooksActual table base here taken (of x) a
  placed_look k x e a f on is =
      let q = and_then_some (λ q. if one_type table q.of (of x) then Some (f q) else None) (place c k e) a is in
      let sure = if_some (one_type table q.0.of (of x)) (Some (f q.0)) a q.2 in
      subst (LooksActual table base here taken (of x)) (some_same (f q.0) a sure.1) (on q.0 (place_at k e q.0 q.1) (one_kinds table q.0.of (of x) sure.0))

  one_look : (p : Pos) (k : ℕ) (way : Passing) (x : ℕ) (e : TypedTree) (a : Actual) → actual c p k way x e ≡ Some a → LooksActual table base here taken (of x) a
  one_look p k ByValue x e a is = value_look k x e a (use_for table (of x)) is
  one_look p k Traversed x e a is = viewed_look k x e a is
  one_look p k (objects.Place mode.In owning access) x e a is = viewed_look k x e a is
  one_look p k (objects.Place mode.Out owning access) x e a is =
      placed_look k x e a (λ q. To q.place q.of (name_pos p e)) (λ q at same. (looks_there table base here taken q.place q.of at, same, fits_of q.of (kinds table q.of) refl)) is
  one_look p k (objects.Place mode.InOut owning access) x e a is =
      placed_look k x e a (λ q. From q.place q.of (of x))
      (λ q at same. (looks_there table base here taken q.place q.of at, fits_of (of x) (kinds table q.of) (sym same), same, fits_of q.of (kinds table q.of) refl)) is

  first_some : {A : Type 0} (x : Option A) (y : Option (List A)) (v : List A) → with_first x y ≡ Some v → (a : A) × (rest : List A) × (x ≡ Some a) × (y ≡ Some rest) × (a ∷ rest ≡ v)
  first_some (Some a) (Some rest) v e = (a, rest, refl, refl, some_same (a ∷ rest) v e)
  first_some (Some a) None v e = impossible v e
  first_some None y v e = impossible v e

  pub actuals_look : (p : Pos) (e : TypedTree) (k : ℕ) (ways : List Passing) (formals : List ℕ) (all : List Actual) → actuals c p k ways formals e ≡ Some all
      → LooksActuals table base here taken (map (λ x. of x) formals) all
  actuals_look p NoMore k [] [] all is = subst (LooksActuals table base here taken []) (some_same [] all is) tt
  actuals_look p (More e rest) k (way ∷ ways) (x ∷ formals) all is =
      let two = first_some (actual c p k way x e) (actuals c p (k + waiting e) ways formals rest) all is in
      subst (LooksActuals table base here taken (of x ∷ map (λ x. of x) formals)) two.4 (one_look p k way x e two.0 two.2, actuals_look p rest (k + waiting e) ways formals two.1 two.3)
  actuals_look p e k [] [] all is = impossible all is
  actuals_look p e k [] (x ∷ formals) all is = impossible all is
  actuals_look p e k (way ∷ ways) [] all is = impossible all is
  actuals_look p e k (way ∷ ways) (x ∷ formals) all is = impossible all is

-- ---- the formals of what is lowered

none_more : (all : List Kept) → all ≡ all ++ []
none_more [] = refl
none_more (x ∷ all) = ap (λ rest. x ∷ rest) (none_more all)

room_more : (k : Kept) (all : List Kept) → (more : List Kept) × (with_room k all ≡ all ++ more)
room_more k all = by (has_room k.object all)
  where
    by : (b : Bool) → (more : List Kept) × ((if b then all else all ++ k ∷ []) ≡ all ++ more)
    by true = ([], none_more all)
    by false = (k ∷ [], refl)

instruction_more : (i : Instruction) (all : List Kept) → (more : List Kept) × (room_of i all ≡ all ++ more)
instruction_more (Declare x v) all = room_more (kept x false) all
instruction_more (Start x reversed low high) all = room_more (kept x true) all
instruction_more _ all = ([], none_more all)

rooms_more : (points : List FlowPoint) (all : List Kept) → (more : List Kept) × (rooms_of points all ≡ all ++ more)
rooms_more [] all = ([], none_more all)
rooms_more (p ∷ rest) all =
    let first = instruction_more p.instr all in
    let on = rooms_more rest (room_of p.instr all) in
    (first.0 ++ on.0, on.1 ∙ (ap (λ ks. ks ++ on.0) first.1 ∙ append_assoc all first.0 on.0))

module _ (s : Typing) where
  abbrev all_kinds : List Kept → List Kind
  all_kinds all = flat_map (room_kinds s.table) (rooms s all)

  formal_kinds : (formals : List ℕ) → all_kinds (map (λ x. kept x false) formals) ≡ flat_map (kinds s.table) (map (λ x. (object_at s x).of) formals)
  formal_kinds [] = refl
  formal_kinds (x ∷ formals) = ap (λ ks. kinds s.table (object_at s x).of ++ ks) (formal_kinds formals)

  kinds_more : (all more : List Kept) → all_kinds (all ++ more) ≡ all_kinds all ++ all_kinds more
  kinds_more all more =
      ap (flat_map (room_kinds s.table)) (flat_map-append room all more) ∙ flat_map-append (room_kinds s.table) (rooms s all) (rooms s more)
    where
      room : Kept → List Room
      room k = Object (object_at s k.object).of ∷ (if k.loops then Counter ∷ [] else [])

formals_row : (s : Typing) (subs : List FlowSub) (k n : ℕ) → (get_or (sub_rows s k subs) n no_sub).formals ≡ map (λ x. (object_at s x).of) (get_or subs n machine.no_sub).formals
formals_row s [] k n = refl
formals_row s (sub ∷ rest) k zero = refl
formals_row s (sub ∷ rest) k (suc n) = formals_row s rest (k + length sub.points) n

signature_row : (subs : List FlowSub) (n : ℕ)
    → (get_or {A = Signature} (map (λ (sub : FlowSub). record { formals = sub.formals; result = sub.result }) subs) n (record { formals = []; result = None })).formals ≡ (get_or subs n machine.no_sub).formals
signature_row [] n = refl
signature_row (sub ∷ rest) zero = refl
signature_row (sub ∷ rest) (suc n) = signature_row rest n

pub have_formals : (program : FlowProgram) (p : Program) → HasRows program p → HaveFormals (flow_typing program) p
have_formals program p rows sub =
    let s : Typing = flow_typing program in
    let row : (sub_at p sub).formals ≡ map (λ x. (object_at s x).of) (sub_of program sub).formals = ap (λ all. (get_or all sub no_sub).formals) rows ∙ formals_row s program.subs 0 sub in
    let named : map (λ x. (object_at s x).of) (objects.sub_at s sub).formals ≡ map (λ x. (object_at s x).of) (sub_of program sub).formals = ap (map (λ x. (object_at s x).of)) (signature_row program.subs sub) in
    let more = rooms_more (sub_of program sub).points (map (λ x. kept x false) (sub_of program sub).formals) in (
      row ∙ sym named,
      (
        all_kinds s more.0,
        frame_is program p rows sub ∙ (ap (all_kinds s) more.1 ∙ (kinds_more s (map (λ x. kept x false) (sub_of program sub).formals) more.0
            ∙ ap (λ ks. ks ++ all_kinds s more.0) (formal_kinds s (sub_of program sub).formals ∙ ap (flat_map (kinds s.table)) (sym row)))),
      ),
    )
