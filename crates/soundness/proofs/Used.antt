-- What subprograms use of package objects, by what their points do; and that a call which ends has
-- moved no part of one.
use Rattle.std.proofs.Common.{◌≡◌, refl, sym, ap, ◌∙◌, subst, ◌⊎◌, inl, inr, ℕ, zero, suc, ◌+◌, ◌<◌, ◌≤◌, Bool, true, false, not, ◌&&◌, ◌||◌, ◌==◌, eq-eqb, eqb-true, List, [], ◌∷◌, map, drop, length, arith, IsTrue, Option}
use Rattle.std.specs.Prelude.{filter}
use Rattle.std.specs.List.{list_any}
use Rattle.std.proofs.lemmas.Bool.{false≢true, true≢false}
use Rattle.machine.specs.spark_base.Lists.{Has}
use Rattle.machine.specs.spark_base.declared.position.Pos.{Pos}
use Rattle.spark_base.proofs.Lists.{Has-append_left, Has-append_right, Has-append_cases, Has-filter, Has-map_from}
use Rattle.machine.specs.place_names.declared.act.Act.{Act}
use Rattle.machine.specs.place_names.declared.act.Act.TheVariants as act
use Rattle.machine.specs.place_names.declared.act.Placed.{Placed}
use Rattle.machine.specs.place_names.declared.fact.Fact.{Fact}
use Rattle.machine.specs.place_names.Facts.{adds, removes, effect}
use Rattle.machine.specs.typed_tree.declared.object.Object.{Object}
use Rattle.machine.specs.typed_tree.Trees.{TypedTree}
use Rattle.machine.specs.flow_paths.declared.report.Effects.{Effects}
use Rattle.machine.specs.flow_paths.Instructions.{Instruction, Skip, Declare, Assign, Call, Output, Input, Release, Test, Choose, Start, Next, Evaluate, LeaveLoop, Hold, EndScope, Finish, Fall}
use Rattle.machine.specs.flow_paths.Objects.{Typing, is_package_object}
use Rattle.machine.specs.flow_paths.Acts.{placed}
use Rattle.machine.specs.flow_paths.Points.{FlowPoint}
use Rattle.machine.specs.flow_paths.Laid.{FlowSub, FlowProgram, flow_typing}
use Rattle.machine.specs.flow_paths.Paths.{path_point, acts_at, facts_before}
use Rattle.machine.specs.flow_paths.Effects.{is_in, act_writes, act_reads, writes_text, reads_text, point_writes, point_reads, is_global, own_writes, own_reads, calls, sub_calls, flow_sub_at, ends, calls_on, AreEffects, read_by, written_by, global_act, globals_from, globals_of, called_acts, all_acts, path_points}
use Rattle.soundness.specs.OwnedWays.Ways.{after}
use Rattle.soundness.specs.Sound.{Uses}
use Rattle.soundness.proofs.Contents.{bool_cases}
use Rattle.soundness.proofs.Scalars.{acts}
use Rattle.soundness.proofs.Paths.{facts_next}
use Rattle.soundness.proofs.Points.{path_of}
use Rattle.soundness.proofs.Inherited.{AreGlobal}
use Rattle.soundness.proofs.Waits.{drop_none}
use Rattle.soundness.proofs.Parted.{by_either}

pub any_has : {A : Type 0} (test : A → Bool) (xs : List A) (x : A) → Has xs x → test x ≡ true → list_any test xs ≡ true
any_has test [] x has e = absurd has
any_has test (y ∷ xs) x (inl same) e = ap (λ b. b || list_any test xs) (ap test same ∙ e)
any_has test (y ∷ xs) x (inr has) e = later (test y) (list_any test xs) (any_has test xs x has e)
  where
    later : (a b : Bool) → b ≡ true → a || b ≡ true
    later true b f = refl
    later false b f = f

or_second : (a b : Bool) → b ≡ true → a || b ≡ true
or_second true b e = refl
or_second false b e = e

both : (a b : Bool) → a ≡ true → b ≡ true → a && b ≡ true
both a b e f = ap (λ z. z && b) e ∙ f

-- ---- what is used

module _ (program : FlowProgram) (effects : Effects) (are : AreEffects program effects) where
  abbrev s : Typing
  s = flow_typing program

  module _ (n : ℕ) (sub : FlowSub) (there : flow_sub_at program n ≡ sub) (less : n < length program.subs) where
    -- the object that an act of a point writes or reads
    pub writes_used : (x : ℕ) → is_package_object (flow_typing program) x ≡ true → (p : FlowPoint) → Has sub.points p → (a : Placed) → Has p.acts a
        → act_writes x a.act ≡ true → Uses effects n x
    writes_used x shared p point a has e =
        let here : point_writes x p ≡ true =
        or_second (x == 0 && writes_text p.instr) _ (any_has (λ (b : Placed). act_writes x b.act) p.acts a has e) in
        let own : own_writes s sub x ≡ true =
        both (is_global s x) _ (or_second (x == 0) (is_package_object s x) shared) (any_has (point_writes x) sub.points p point here) in
        inr ((are.writes n x less).1 (record { last = n; chain = ends n; own = ap (λ z. own_writes s z x) there ∙ own }))

    pub reads_used : (x : ℕ) → is_package_object (flow_typing program) x ≡ true → (p : FlowPoint) → Has sub.points p → (a : Placed) → Has p.acts a
        → act_reads x a.act ≡ true → Uses effects n x
    reads_used x shared p point a has e =
        let here : point_reads x p ≡ true =
        or_second (x == 0 && reads_text p.instr) _ (any_has (λ (b : Placed). act_reads x b.act) p.acts a has e) in
        let own : own_reads s sub x ≡ true =
        both (is_global s x) _ (or_second (x == 0) (is_package_object s x) shared) (any_has (point_reads x) sub.points p point here) in
        inl ((are.reads n x less).1 (record { last = n; chain = ends n; own = ap (λ z. own_reads s z x) there ∙ own }))

    -- what a callee uses, its caller uses
    pub called_used : (callee : ℕ) → callee < length program.subs → (p : FlowPoint) → Has sub.points p → (actuals : TypedTree) (result : Option ℕ)
        → p.instr ≡ Call callee actuals result → (x : ℕ) → Uses effects callee x → Uses effects n x
    called_used callee below p point actuals result is x used = elim used [
      | inl read ↦ (let by = (are.reads callee x below).0 read in
          inl ((are.reads n x less).1 (record { last = by.last; chain = calls_on n callee by.last is_called by.chain; own = by.own })))
      | inr written ↦ (let by = (are.writes callee x below).0 written in
          inr ((are.writes n x less).1 (record { last = by.last; chain = calls_on n callee by.last is_called by.chain; own = by.own })))
    ]
      where
        is_called : IsTrue (sub_calls (flow_sub_at program n) callee)
        is_called =
            ap (λ z. sub_calls z callee) there
            ∙ any_has (λ (q : FlowPoint). calls callee q.instr) sub.points p point (ap (calls callee) is ∙ eq-eqb callee callee refl)

  -- ---- the acts of a call on package objects

  package_less : (objects : List Object) (x : ℕ) → is_package_object (record s { objects = objects }) x ≡ true → x < length objects
  package_less [] x shared = absurd (false≢true shared)
  package_less (o ∷ objects) zero shared = omega arith
  package_less (o ∷ objects) (suc x) shared = (let less = package_less objects x shared in omega (arith, less))

  global_there : (x : ℕ) (read written : List ℕ) → Has read x ⊎ Has written x → (w : Bool) × Has (global_act x (is_in x read) (is_in x written)) (act.Global x w)
  global_there x read written used = by_kind (is_in x read) (is_in x written) (either used)
    where
      either : Has read x ⊎ Has written x → (is_in x read ≡ true) ⊎ (is_in x written ≡ true)
      either (inl has) = inl (any_has (λ y. x == y) read x has (eq-eqb x x refl))
      either (inr has) = inr (any_has (λ y. x == y) written x has (eq-eqb x x refl))

      by_kind : (r w : Bool) → (r ≡ true) ⊎ (w ≡ true) → (v : Bool) × Has (global_act x r w) (act.Global x v)
      by_kind r true e = (true, inl refl)
      by_kind true false e = (false, inl refl)
      by_kind false false (inl e) = cc
      by_kind false false (inr e) = cc

  globals_there : (read written : List ℕ) (objects : List Object) (k x : ℕ) → k ≤ x → x < k + length objects → Has read x ⊎ Has written x
      → (w : Bool) × Has (globals_from k objects read written) (act.Global x w)
  globals_there read written [] k x low high used = absurd (omega (arith, low, high))
  globals_there read written (o ∷ objects) k x low high used = elim (bool_cases (k == x)) [
    | inl e ↦ (
        let same : k ≡ x = eqb-true k x e in
        let found = global_there x read written used in (
          found.0,
          Has-append_left (global_act k (is_in k read) (is_in k written)) _ (act.Global x found.0)
              (subst (λ z. Has (global_act z (is_in z read) (is_in z written)) (act.Global x found.0)) (sym same) found.1),
        ))
    | inr e ↦ (
        let less : suc k ≤ x = past e in
        let later = globals_there read written objects (suc k) x less (omega (arith, high)) used in
        (later.0, Has-append_right (global_act k (is_in k read) (is_in k written)) _ (act.Global x later.0) later.1))
  ]
    where
      past : (k == x) ≡ false → suc k ≤ x
      past e = (let other : k ≡ x → ⊥ = (λ same. (let yes : true ≡ false = sym (eq-eqb k x same) ∙ e in absurd (true≢false yes))) in above k x low other)
        where
          above : (a b : ℕ) → a ≤ b → (a ≡ b → ⊥) → suc a ≤ b
          above zero zero l ne = absurd (ne refl)
          above zero (suc b) l ne = omega arith
          above (suc a) zero l ne = absurd (omega (arith, l))
          above (suc a) (suc b) l ne = (let less = above a b (omega (arith, l)) (λ e. ne (ap suc e)) in omega (arith, less))

  -- (Object 0 is Ada.Text_IO.)
  pub used_global : (callee x : ℕ) → is_package_object (flow_typing program) 0 ≡ false → is_package_object (flow_typing program) x ≡ true → Uses effects callee x
      → (w : Bool) × Has (globals_of program effects callee) (act.Global x w)
  used_global callee zero text shared used = (let no : false ≡ true = sym text ∙ shared in absurd (false≢true no))
  used_global callee (suc x) text shared used =
      globals_there (read_by effects callee) (written_by effects callee) (drop 1 program.objects) 1 (suc x) (omega arith)
      (from_one program.objects (package_less program.objects (suc x) shared)) used
    where
      from_one : (objects : List Object) → suc x < length objects → suc x < 1 + length (drop 1 objects)
      from_one [] less = absurd (omega (arith, less))
      from_one (o ∷ objects) less = (let long : length (drop 0 objects) ≡ length objects = ap length (drop_none objects) in omega (arith, less, long))

  all_global : (n : ℕ) (objects : List Object) (read written : List ℕ) → AreGlobal (globals_from n objects read written)
  all_global n [] read written a has = absurd has
  all_global n (o ∷ objects) read written a has = elim (Has-append_cases (global_act n (is_in n read) (is_in n written)) _ a has) [
    | inl here ↦ by_kind (is_in n read) (is_in n written) here
    | inr later ↦ all_global (suc n) objects read written a later
  ]
    where
      by_kind : (r w : Bool) → Has (global_act n r w) a → (g : ℕ) × (v : Bool) × (a ≡ act.Global g v)
      by_kind r true (inl e) = (n, true, sym e)
      by_kind r true (inr never) = absurd never
      by_kind true false (inl e) = (n, false, sym e)
      by_kind true false (inr never) = absurd never
      by_kind false false never = absurd never

  acts_placed : (p : Pos) (more : List Act) → acts (map (placed p) more) ≡ more
  acts_placed p [] = refl
  acts_placed p (a ∷ more) = ap (λ z. a ∷ z) (acts_placed p more)

  pub called_are : (p : Pos) (callee : ℕ) (actuals : TypedTree) (result : Option ℕ)
      → acts (called_acts program effects p (Call callee actuals result)) ≡ globals_of program effects callee
  called_are p callee actuals result = acts_placed p (globals_of program effects callee)

  pub globals_are : (callee : ℕ) → AreGlobal (globals_of program effects callee)
  globals_are callee = all_global 1 (drop 1 program.objects) (read_by effects callee) (written_by effects callee)

  -- ---- where the facts of a path come from

  -- the acts of a point on a path
  pub path_acts : (points : List FlowPoint) (n : ℕ) (a : Placed)
      → Has (path_point (map (path_of program effects) points) n).acts a
      → (q : FlowPoint) × Has points q × Has (all_acts program effects q) a
  path_acts [] n a has = absurd has
  path_acts (q ∷ rest) zero a has = (q, inl refl, has)
  path_acts (q ∷ rest) (suc n) a has = (let later = path_acts rest n a has in (later.0, inr later.1, later.2))

  pub added_after : (more : List Act) (facts : List Fact) (f : Fact) → Has (after more facts) f → Has facts f ⊎ ((a : Act) × Has more a × Has (adds a) f)
  added_after [] facts f has = inl has
  added_after (a ∷ more) facts f has = by_either (added_after more (effect a facts) f has)
      (λ now. (by_either (Has-append_cases (filter (λ g. not (removes a g)) facts) (adds a) f now) (λ old. (inl (Has-filter (λ g. not (removes a g)) facts f old).0)) (λ new. (inr (a, inl refl, new)))))
      (λ later. (inr (later.0, inr later.1, later.2)))

  pub called_add_none : (p : Pos) (i : Instruction) (a : Placed) (f : Fact) → Has (called_acts program effects p i) a → Has (adds a.act) f → ⊥
  called_add_none p (Call callee actuals result) a f has new =
      let from = Has-map_from (placed p) (globals_of program effects callee) a has in
      let is = globals_are callee from.0 from.1 in
      subst (λ z. Has (adds z) f) (sym (ap (λ (z : Placed). z.act) from.2) ∙ is.2) new
  called_add_none p Skip a f has new = has
  called_add_none p (Declare x v) a f has new = has
  called_add_none p (Assign target e) a f has new = has
  called_add_none p (Output text line) a f has new = has
  called_add_none p (Input target) a f has new = has
  called_add_none p (Release e) a f has new = has
  called_add_none p (Test e) a f has new = has
  called_add_none p (Choose e choices) a f has new = has
  called_add_none p (Start x reversed low high) a f has new = has
  called_add_none p (Next x reversed low high) a f has new = has
  called_add_none p (Evaluate temporary e left) a f has new = has
  called_add_none p (LeaveLoop e) a f has new = has
  called_add_none p (Hold v) a f has new = has
  called_add_none p (EndScope x) a f has new = has
  called_add_none p Finish a f has new = has
  called_add_none p Fall a f has new = has

  -- each is added by an act of a point
  pub fact_added : (sub : FlowSub) (before : List ℕ) (f : Fact) → Has (facts_before (path_points program effects sub) before) f
      → (q : FlowPoint) × (a : Placed) × Has sub.points q × Has q.acts a × Has (adds a.act) f
  fact_added sub [] f has = absurd has
  fact_added sub (n ∷ before) f has =
      by_either (added_after (acts_at (path_points program effects sub) n) (facts_before (path_points program effects sub) before) f
      (subst (λ z. Has z f) (facts_next (path_points program effects sub) before n) has))
      (λ old. (fact_added sub before f old))
      (λ new. (
      let from = Has-map_from (λ (q : Placed). q.act) (path_point (path_points program effects sub) n).acts new.0 new.1 in
      let point = path_acts sub.points n from.0 from.1 in
      let adds_it : Has (adds (from.0).act) f = subst (λ z. Has (adds z) f) (sym from.2) new.2 in
      by_either (Has-append_cases (point.0).acts (called_acts program effects (point.0).pos (point.0).instr) from.0 point.2)
      (λ own. (point.0, from.0, point.1, own, adds_it))
      (λ called. (absurd (called_add_none (point.0).pos (point.0).instr from.0 f called adds_it)))))
