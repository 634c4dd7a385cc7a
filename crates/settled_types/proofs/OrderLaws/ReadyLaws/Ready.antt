-- What the layout of an accepted program has to say, if its subprograms are in order: scopes, the package objects,
-- returns, and what is called.
use Rattle.std.proofs.Common.{◌≡◌, refl, sym, ap, ◌∙◌, subst, ◌⊎◌, inl, inr, ℕ, zero, suc, ◌≤◌, ◌<◌, Bool, true, false, ◌||◌, List, [], ◌∷◌, ◌++◌, map, drop, length, get_or, arith, Option, None, Some, is_some}
use Rattle.std.specs.Prelude.{reverse}
use Rattle.std.specs.List.{AllByRecursion}
use Rattle.std.proofs.lemmas.List.{length-map}
use Rattle.std.proofs.lemmas.Bool.{false≢true}
use Rattle.machine.specs.spark_base.Lists.{Has}
use Rattle.spark_base.proofs.Lists.{Has-append_right, Has-map, Has-map_from}
use Rattle.machine.specs.type_definitions.Types.{Table}
use Rattle.machine.specs.typed_tree.Trees.{TypedTree, Name}
use Rattle.machine.specs.typed_tree.declared.object.Object.{Object}
use Rattle.machine.specs.typed_tree.Programs.{TypedSub, TypedProgram, text_io}
use Rattle.machine.specs.flow_paths.declared.report.Effects.{Effects}
use Rattle.machine.specs.flow_paths.Instructions.{Instruction, Declare, Assign, Call, Input, Release, Evaluate, EndScope, Finish}
use Rattle.machine.specs.flow_paths.Objects.{Typing, object_at, is_formal, is_package_object}
use Rattle.machine.specs.flow_paths.Points.{NamedPoint, FlowPoint}
use Rattle.machine.specs.flow_paths.Laid.{Temporary, temporary_object, FlowSub, FlowProgram, NamedSub, unnumbered, named_sub, named_subs, elaborated, all_named, sub_temporaries, sub_points, elaboration_points, number_in, flow_sub, typing_of, flow_typing, flow_program, flow_named}
use Rattle.machine.specs.flow_paths.Paths.{ControlPath}
use Rattle.machine.specs.Run.{no_point}
use Rattle.machine.specs.flow_paths.Effects.{path_points}
use Rattle.machine.specs.flow_paths.Scopes.{is_within, is_ready, is_settled, is_temporary, taken}
use Rattle.machine.specs.States.{sub_of}
use Rattle.machine.specs.Typed.{successors}
use Rattle.soundness.specs.Typed.{OwnsByShape}
use Rattle.soundness.specs.Sound.{Accepted, IsNamedSub, IsProcedure, calls_procedures, IsRunnable, IsEntered, is_temporary_object, temporaries_in, returns_value, has_returned}
use Rattle.soundness.specs.Ready.{root_of, stored_at, AreScoped, Fills, IsSupplied, AreReturning}
use Rattle.soundness.proofs.Points.{IsLaid, flow_at, sub_there, named_has}
use Rattle.soundness.proofs.Typings.{Agree, flow_agrees, package_same, formal_same}
use Rattle.settled_types.specs.OrderLaws.ScopeLaws.Code.{objects_of, roots, are_seen}
use Rattle.settled_types.specs.OrderLaws.ScopeLaws.Order.{IsCounted, IsOrdered, named_in, IsSeen}
use Rattle.settled_types.specs.OrderLaws.ScopeLaws.Returning.{IsClosing}
use Rattle.settled_types.proofs.OrderLaws.ScopeLaws.Lists.{and_first, and_second, all_has, has_reverse, within_has}
use Rattle.settled_types.proofs.OrderLaws.ScopeLaws.Successors.{sub_counted, has_first}
use Rattle.settled_types.proofs.OrderLaws.ScopeLaws.Ordered.{sub_ordered, package_ordered}
use Rattle.settled_types.specs.OrderLaws.ScopeLaws.Supplied.{IsLeft, FillsOne, IsFilling, StartsWithNone}
use Rattle.settled_types.specs.OrderLaws.ScopeLaws.Supplied as scope
use Rattle.settled_types.proofs.OrderLaws.ScopeLaws.Seen.{sub_seen}
use Rattle.settled_types.proofs.OrderLaws.ScopeLaws.Left.{sub_left}
use Rattle.settled_types.proofs.OrderLaws.ScopeLaws.Filled.{temporaries_of}
use Rattle.settled_types.proofs.OrderLaws.ScopeLaws.Temporaries.{named_supplied, named_goes}
use Rattle.settled_types.proofs.OrderLaws.ScopeLaws.Returning.{function_stands, function_zero}
use Rattle.settled_types.specs.OrderLaws.ReadyLaws.InOrder.{IsSub, IsInOrder, AreAnswered, AreStill, ArePassed}
use Rattle.settled_types.proofs.OrderLaws.ReadyLaws.Returned.{valued, returned_once, closing_after}
use Rattle.settled_types.proofs.OrderLaws.ReadyLaws.Elaborated.{Declares, package_declares}
use Rattle.settled_types.proofs.OrderLaws.ReadyLaws.Subs.{setting_from, IsOfBody, named_cases, body_at, one_named}
use Rattle.soundness.proofs.Successors.{not_true}
use Rattle.machine.specs.flow_paths.Names.{has_call}

-- ---- what instructions name

root_in : (e : TypedTree) (x : ℕ) → Has (root_of e) x → Has (roots e) x
unfolding roots
root_in (Name p y steps t) x (inl e) = inl e
root_in (Name p y steps t) x (inr never) = absurd never
root_in _ x has = absurd has

pub stored_named : (i : Instruction) (x : ℕ) → Has (stored_at i) x → Has (named_in i) x
stored_named (Assign target e) x has = Has-append_right (roots e) (roots target) x (root_in target x has)
stored_named (Input target) x has = root_in target x has
stored_named (Release e) x has = root_in e x has
stored_named _ x has = absurd has

pub seen_has : (outer : ℕ → Bool) (scope xs : List ℕ) (x : ℕ) → are_seen outer scope xs ≡ true → Has xs x → (outer x ≡ true) ⊎ (is_within x scope ≡ true)
seen_has outer scope [] x seen has = absurd has
seen_has outer scope (y ∷ xs) x seen (inl e) =
    subst (λ z. (outer z ≡ true) ⊎ (is_within z scope ≡ true)) e
    (either (is_within y scope) (outer y) (and_first (is_within y scope || outer y) (are_seen outer scope xs) seen))
  where
    either : (a b : Bool) → a || b ≡ true → (b ≡ true) ⊎ (a ≡ true)
    either true b e = inr refl
    either false b e = inl e
seen_has outer scope (y ∷ xs) x seen (inr has) = seen_has outer scope xs x (and_second (is_within y scope || outer y) (are_seen outer scope xs) seen) has

sub_in : (subs : List TypedSub) (k : ℕ) (sub : TypedSub) → IsSub subs k sub → Has subs sub
sub_in subs k sub (front, rest, is, long) = subst (λ z. Has z sub) (sym is) (Has-append_right front (sub ∷ rest) sub (inl refl))

-- ---- objects

after_or : (xs : List Object) (ts : List Temporary) (x : ℕ)
    → (get_or (xs ++ map temporary_object ts) x text_io ≡ get_or xs x text_io) ⊎ (is_temporary (get_or (xs ++ map temporary_object ts) x text_io).kind ≡ true)
after_or [] [] x = inl refl
after_or [] (t ∷ ts) zero = inr refl
after_or [] (t ∷ ts) (suc x) = after_or [] ts x
after_or (o ∷ xs) ts zero = inl refl
after_or (o ∷ xs) ts (suc x) = after_or xs ts x

-- ---- the program

module _ (table : Table) (typed : TypedProgram) (effects : Effects) (accepted : Accepted table typed effects)
    (owns : OwnsByShape (flow_program table typed).table) (order : IsInOrder table typed)
    (answered : AreAnswered table typed order.rest) (passed : ArePassed (flow_program table typed)) (still : AreStill table typed order.first) where
  abbrev program : FlowProgram
  program = flow_program table typed

  abbrev s : Typing
  s = flow_typing program

  abbrev own : Typing
  own = typing_of table typed

  alike : Agree s own
  alike = flow_agrees table typed

  pub in_program : (named : NamedSub) → Has (flow_named table typed) named → Has program.subs (flow_sub own named)
  unfolding flow_program
  in_program named has = Has-map (flow_sub own) (flow_named table typed) named has

  -- the package objects, or a body
  abbrev pub Elaborates : NamedSub → Type 0
  Elaborates named = elaborated own order.first ≡ named

  abbrev pub OfBody : NamedSub → Type 0
  OfBody named = IsOfBody own order.rest named

  pub cases : (named : NamedSub) → Has (flow_named table typed) named → Elaborates named ⊎ OfBody named
  cases named has = named_cases own order.first order.rest named (subst (λ subs. Has (all_named own subs) named) order.subs has)

  pub in_subs : (sub : TypedSub) → Has order.rest sub → Has typed.subs sub
  in_subs sub has = subst (λ subs. Has subs sub) (sym order.subs) (inr has)

  first_in : Has typed.subs order.first
  first_in = subst (λ subs. Has subs order.first) (sym order.subs) (inl refl)

  -- ---- the package objects

  pub declares : (named : NamedSub) → Elaborates named → (p : NamedPoint) → Has named.points p → Declares own p
  declares named e p there =
      package_declares own (unnumbered own) order.first order.declares order.unmoved p (subst (λ (z : NamedSub). Has z.points p) (sym e) there)

  pub still_there : (named : NamedSub) → Elaborates named → (p : NamedPoint) → Has named.points p → calls_procedures p.instr ≡ true
  still_there named e p there = still p (subst (λ (z : NamedSub). Has z.points p) (sym e) there)

  -- An object with a number other than that of Ada.Text_IO.
  abbrev pub IsNumbered : ℕ → Type 0
  IsNumbered x = 1 ≤ x

  pub package_is_ordered : (named : NamedSub) → Elaborates named → (p : NamedPoint) → Has named.points p → IsOrdered IsNumbered (reverse order.first.formals) p
  package_is_ordered named e p there =
      all_has (IsOrdered IsNumbered (reverse order.first.formals)) (elaboration_points (unnumbered own) order.first) p
      (package_ordered (unnumbered own) IsNumbered (λ x least temporary. (let none = temporary.1 in omega (arith, least, none))) order.first
      (order.bodies order.first first_in).settled
      ((order.bodies order.first first_in).once, λ x has. ((order.bodies order.first first_in).numbered x has).0))
      (subst (λ (z : NamedSub). Has z.points p) (sym e) there)

  -- ---- bodies

  -- An object of the text that belongs to no package.
  abbrev pub IsOwn : ℕ → Type 0
  IsOwn x = (x < length own.objects) × (is_package_object own x ≡ false)

  pub body_is_ordered : (named : NamedSub) → (b : OfBody named) → (p : NamedPoint) → Has named.points p → IsOrdered IsOwn (reverse (b.0).formals) p
  body_is_ordered named (sub, has, n, above, e) p there =
      all_has (IsOrdered IsOwn (reverse sub.formals)) (sub_points (setting_from own n sub) sub) p
      (sub_ordered (setting_from own n sub) IsOwn (λ x what temporary. (let below = what.0 in let is = temporary.1 in omega (arith, above, below, is))) sub
      (order.bodies sub (in_subs sub has)).settled (
        (order.bodies sub (in_subs sub has)).once,
        (λ x there. (((order.bodies sub (in_subs sub has)).numbered x there).1, (order.local sub has).own x there)),
      ))
      (subst (λ (z : NamedSub). Has z.points p) (sym e) there)

  pub body_is_left : (named : NamedSub) → OfBody named → (p : NamedPoint) → Has named.points p → IsLeft (is_package_object own) p
  body_is_left named (sub, has, n, above, e) p there =
      all_has (IsLeft (is_package_object own)) (sub_points (setting_from own n sub) sub) p
      (sub_left (is_package_object own) (setting_from own n sub) sub (order.local sub has).seen)
      (subst (λ (z : NamedSub). Has z.points p) (sym e) there)

  pub body_is_seen : (named : NamedSub) → OfBody named → (p : NamedPoint) → Has named.points p → IsSeen (is_package_object own) p
  body_is_seen named (sub, has, n, above, e) p there =
      all_has (IsSeen (is_package_object own)) (sub_points (setting_from own n sub) sub) p
      (sub_seen (is_package_object own) (setting_from own n sub) sub (order.local sub has).seen)
      (subst (λ (z : NamedSub). Has z.points p) (sym e) there)

  -- ---- scopes

  two_texts : (i : Instruction) (x y : ℕ) (v : TypedTree) → i ≡ Declare x v → i ≡ EndScope y → ⊥
  two_texts i x y v e f = (let both : Declare x v ≡ EndScope y = sym e ∙ f in cc)

  no_finish : (i : Instruction) (x : ℕ) (v : TypedTree) → i ≡ Declare x v → i ≡ Finish → ⊥
  no_finish i x v e f = (let both : Declare x v ≡ Finish = sym e ∙ f in cc)

  pub ready_there : (named : NamedSub) → Has (flow_named table typed) named → (p : NamedPoint) → Has named.points p → is_ready p p.instr ≡ true
  ready_there named has p there = elim (cases named has) [
    | inl e ↦ (package_is_ordered named e p there).ready
    | inr b ↦ (body_is_ordered named b p there).ready
  ]

  stored_there : (named : NamedSub) → Has (flow_named table typed) named → (p : NamedPoint) → Has named.points p → (x : ℕ) → Has (stored_at p.instr) x
      → (is_package_object s x ≡ true) ⊎ (is_within x (drop (taken p.instr) p.scope) ≡ true)
  stored_there named has p there x stored = elim (cases named has) [
    | inl e ↦ (let declared = declares named e p there (still_there named e p there) in absurd (subst (λ i. Has (stored_at i) x) declared.2 stored))
    | inr b ↦ elim (seen_has (is_package_object own) (drop (taken p.instr) p.scope) (named_in p.instr) x (body_is_left named b p there) (stored_named p.instr x stored)) [
      | inl outer ↦ inl (package_same s own alike x ∙ outer)
      | inr within ↦ inr within
    ]
  ]

  ends_there : (named : NamedSub) → Has (flow_named table typed) named → (p : NamedPoint) → Has named.points p → (x : ℕ) → p.instr ≡ EndScope x
      → is_package_object s x ≡ false
  ends_there named has p there x is = elim (cases named has) [
    | inl e ↦ (let declared = declares named e p there (still_there named e p there) in absurd (two_texts p.instr declared.0 x declared.1 declared.2 is))
    | inr b ↦ package_same s own alike x ∙ ((body_is_ordered named b p there).ends x is).1
  ]

  finishes_there : (named : NamedSub) → Has (flow_named table typed) named → (p : NamedPoint) → Has named.points p → p.instr ≡ Finish
      → (x : ℕ) → is_within x p.scope ≡ true → is_formal s x ≡ true
  finishes_there named has p there is x within = elim (cases named has) [
    | inl e ↦ (let declared = declares named e p there (still_there named e p there) in absurd (no_finish p.instr declared.0 declared.1 declared.2 is))
    | inr b ↦ (
        let scope : p.scope ≡ reverse (b.0).formals = (body_is_ordered named b p there).finishes is in
        formal_same s own alike x
        ∙ (order.local b.0 b.1).formals x (has_reverse (b.0).formals x (within_has x (reverse (b.0).formals) (subst (λ z. is_within x z ≡ true) scope within))))
  ]

  -- ---- temporaries

  formals_last : (sub : TypedSub) → Has typed.subs sub → (x : ℕ) → Has sub.formals x → is_temporary (object_at own x).kind ≡ false
  formals_last sub has x there = order.lasting x

  settled : (sub : TypedSub) → Has typed.subs sub → is_settled own sub.body ≡ true
  settled sub has = (order.bodies sub has).settled

  numbered : (sub : TypedSub) → Has typed.subs sub → (x : ℕ) → Has (objects_of sub) x → x < length typed.objects
  numbered sub has x there = ((order.bodies sub has).numbered x there).1

  pub laid : (named : NamedSub) → Has (flow_named table typed) named → IsLaid s named
  laid named has = named_goes table typed settled formals_last numbered named has

  -- what does without calls fills nothing
  still_fills : (i : Instruction) → calls_procedures i ≡ true → FillsOne (is_temporary_object s) i
  still_fills (Call n actuals (Some t)) calls = absurd (false≢true calls)
  still_fills (Evaluate t e (Some op)) calls = absurd (false≢true calls)
  still_fills i calls = tt

  package_fills : (sub : TypedSub) (rest : List TypedSub) → typed.subs ≡ sub ∷ rest → AllByRecursion (IsFilling (is_temporary_object s)) (elaboration_points (unnumbered own) sub)
  package_fills sub rest is =
      let same : order.first ≡ sub = first_one (sym order.subs ∙ is) in
      subst (λ (z : TypedSub). AllByRecursion (IsFilling (is_temporary_object s)) (elaboration_points (unnumbered own) z)) same
      (each (elaboration_points (unnumbered own) order.first) (λ p there. still_fills p.instr (still p there)))
    where
      first_one : order.first ∷ order.rest ≡ sub ∷ rest → order.first ≡ sub
      first_one e = cc

      each : (ps : List NamedPoint) → ((p : NamedPoint) → Has ps p → IsFilling (is_temporary_object s) p) → AllByRecursion (IsFilling (is_temporary_object s)) ps
      each [] h = tt
      each (p ∷ ps) h = (h p (inl refl), each ps (λ q there. h q (inr there)))

  held : (named : NamedSub) → Has (flow_named table typed) named → AllByRecursion (scope.IsSupplied (is_temporary_object s)) named.points × StartsWithNone (is_temporary_object s) named.points
  held named has = named_supplied table typed settled formals_last numbered package_fills named has

  fills_same : (i : Instruction) (left : List ℕ) → scope.Fills (is_temporary_object s) i left → Fills s i left
  fills_same (Call n actuals None) left h = tt
  fills_same (Call n actuals (Some t)) left h = h
  fills_same (Evaluate t e None) left h = h
  fills_same (Evaluate t e (Some op)) left h = h
  fills_same i left h = h

  pub supplied_there : (named : NamedSub) → Has (flow_named table typed) named → (p : NamedPoint) → Has named.points p → IsSupplied s p
  supplied_there named has p there =
      let known = all_has (scope.IsSupplied (is_temporary_object s)) named.points p (held named has).0 there in
      (known.0, fills_same p.instr (drop (taken p.instr) p.scope) known.1)

  starts_there : (named : NamedSub) → Has (flow_named table typed) named → (p : NamedPoint) (rest : List NamedPoint) → named.points ≡ p ∷ rest → temporaries_in s p.scope ≡ 0
  starts_there named has p rest is = subst (StartsWithNone (is_temporary_object s)) is (held named has).1

  pub are_scoped : AreScoped table typed
  are_scoped = record {
    goes = laid;
    starts = starts_there;
    supplied = supplied_there;
    ready = ready_there;
    stored = stored_there;
    ends = ends_there;
    finishes = finishes_there;
  }

  -- ---- procedures

  abbrev layout_at : (k : ℕ) (sub : TypedSub) → IsSub order.rest k sub → (m : ℕ) × IsNamedSub (all_named own (order.first ∷ order.rest)) (suc k) (named_sub own m (sub_temporaries own sub) sub)
  layout_at k sub stands = body_at own order.first order.rest k sub stands

  -- a body that is entered can run
  module _ (k : ℕ) (sub : TypedSub) (is_sub : IsSub order.rest k sub) where
    in_rest : Has order.rest sub
    in_rest = sub_in order.rest k sub is_sub

    abbrev at_number : (m : ℕ) × IsNamedSub (all_named own (order.first ∷ order.rest)) (suc k) (named_sub own m (sub_temporaries own sub) sub)
    at_number = layout_at k sub is_sub

    abbrev body_named : NamedSub
    body_named = named_sub own at_number.0 (sub_temporaries own sub) sub

    body_stands : IsNamedSub (flow_named table typed) (suc k) body_named
    body_stands = subst (λ subs. IsNamedSub (all_named own subs) (suc k) body_named) (sym order.subs) at_number.1

    body_counted : (p : FlowPoint) → Has (sub_of program (suc k)).points p → length p.next ≡ successors p.instr
    body_counted p has =
        let q = Has-map_from (λ (z : NamedPoint). flow_at own body_named z) body_named.points p
        (subst (λ (z : FlowSub). Has z.points p) (sub_there table typed (suc k) body_named body_stands) has) in
        subst (λ (z : FlowPoint). length z.next ≡ successors z.instr) q.2
        (length-map (q.0).next (number_in body_named.points)
        ∙ all_has IsCounted body_named.points q.0 (sub_counted (setting_from own at_number.0 sub) sub (order.formed sub in_rest)) q.1)

    is_runnable : IsEntered program (suc k) → IsRunnable table typed (suc k)
    is_runnable entered =
        let begins = has_first (setting_from own at_number.0 sub) sub in
        record {
          named = body_named;
          stands = body_stands;
          entered = entered;
          point = begins.0;
          points = begins.1;
          begins = begins.2;
          leads = body_counted;
        }

    is_procedure : sub.result ≡ None → IsProcedure table typed (suc k)
    unfolding flow_program
    is_procedure none =
        let begins = has_first (setting_from own at_number.0 sub) sub in
        record {
          named = body_named;
          stands = body_stands;
          procedure = λ other also. ap (λ (z : NamedSub). z.sub.result) (sym (one_named (flow_named table typed) (suc k) body_named other body_stands also)) ∙ none;
          point = begins.0;
          points = begins.1;
          begins = begins.2;
          leads = body_counted;
        }

  pub has_main : IsProcedure table typed (suc order.number)
  has_main = is_procedure order.number order.main order.stands order.procedure

  -- ---- calls

  -- what is called, by its number among the bodies
  module _ (k : ℕ) (callee : TypedSub) (is_sub : IsSub order.rest k callee) where
    is_there : sub_of program (suc k) ≡ flow_sub own (body_named k callee is_sub)
    is_there = sub_there table typed (suc k) (body_named k callee is_sub) (body_stands k callee is_sub)

    formals_at : (x : ℕ) → Has (sub_of program (suc k)).formals x → is_formal s x ≡ true
    formals_at x has =
        formal_same s own alike x
        ∙ (order.local callee (sub_in order.rest k callee is_sub)).formals x (subst (λ xs. Has xs x) (ap (λ (z : FlowSub). z.formals) is_there) has)

    result_at : (sub_of program (suc k)).result ≡ callee.result
    result_at = ap (λ (z : FlowSub). z.result) is_there

  -- its formals are known as such
  pub formals_known : (sub : FlowSub) → Has program.subs sub → (p : FlowPoint) → Has sub.points p → (n : ℕ) (actuals : TypedTree) (result : Option ℕ)
      → p.instr ≡ Call n actuals result → (x : ℕ) → Has (sub_of program n).formals x → is_formal s x ≡ true
  formals_known sub has p there n actuals result is x formal =
      let found = answered sub has p there n actuals result is in
      formals_at found.0 found.1 found.3 x (subst (λ m. Has (sub_of program m).formals x) found.2 formal)

  -- it can run, and answers where it is asked for a result
  pub runs_there : (sub : FlowSub) → Has program.subs sub → (p : FlowPoint) → Has sub.points p → (n : ℕ) (actuals : TypedTree) (result : Option ℕ)
      → p.instr ≡ Call n actuals result → IsRunnable table typed n × (is_some (sub_of program n).result ≡ is_some result)
  runs_there sub has p there n actuals result is =
      let found = answered sub has p there n actuals result is in (
        subst (IsRunnable table typed) (sym found.2)
            (is_runnable found.0 found.1 found.3 (inr (sub, has, p, there, actuals, result, is ∙ ap (λ m. Call m actuals result) found.2))),
        ap (λ m. is_some (sub_of program m).result) found.2 ∙ (ap is_some (result_at found.0 found.1 found.3) ∙ found.4),
      )

  pub main_result : (sub_of program (suc order.number)).result ≡ None
  main_result = result_at order.number order.main order.stands ∙ order.procedure

  pub text_io_there : is_package_object s 0 ≡ false
  text_io_there = package_same s own alike 0 ∙ order.text_io

  pub main_is : program.main ≡ Some (suc order.number)
  unfolding flow_program
  main_is = order.is_main

  -- ---- returns

  abbrev IsReturning : ℕ → Type 0
  IsReturning k =
      is_some (sub_of program k).result ≡ true → (before : List ℕ) (last : ℕ) → ControlPath (path_points program effects (sub_of program k)) before last
      → (returns_value (get_or (sub_of program k).points last no_point).instr ≡ true → has_returned (sub_of program k) before ≡ false)
      × ((get_or (sub_of program k).points last no_point).instr ≡ Finish → has_returned (sub_of program k) before ≡ true)

  -- each function with a body returns once on each path
  body_returning : (k : ℕ) (sub : TypedSub) → IsSub order.rest k sub → IsReturning (suc k)
  body_returning k sub is_sub some before last path =
      let named : NamedSub = body_named k sub is_sub in
      let here : Has (flow_named table typed) named = named_has (flow_named table typed) (suc k) named (body_stands k sub is_sub) in
      let is : sub_of program (suc k) ≡ flow_sub own named = is_there k sub is_sub in
      let function : is_some sub.result ≡ true = sym (ap is_some (result_at k sub is_sub)) ∙ some in
      let setting = setting_from own (at_number k sub is_sub).0 sub in
      subst (λ (z : FlowSub). (returns_value (get_or z.points last no_point).instr ≡ true → has_returned z before ≡ false)
      × ((get_or z.points last no_point).instr ≡ Finish → has_returned z before ≡ true)) (sym is)
      (returned_once table typed effects s named (laid named here) (function_stands setting sub function) (function_zero setting sub function)
      (λ p there. valued s sub.result p.instr function
      (accepted.fine (flow_sub own named) (in_program named here) (flow_at own named p) (Has-map (λ (q : NamedPoint). flow_at own named q) named.points p there)))
      before last (subst (λ (z : FlowSub). ControlPath (path_points program effects z) before last) is path))

  abbrev IsClosed : ℕ → Type 0
  IsClosed k =
      is_some (sub_of program k).result ≡ true → (before : List ℕ) (last : ℕ) → ControlPath (path_points program effects (sub_of program k)) before last
      → has_returned (sub_of program k) before ≡ true → IsClosing (get_or (sub_of program k).points last no_point).instr

  -- and after a return it only ends
  body_closed : (k : ℕ) (sub : TypedSub) → IsSub order.rest k sub → IsClosed (suc k)
  body_closed k sub is_sub some before last path =
      let named : NamedSub = body_named k sub is_sub in
      let here : Has (flow_named table typed) named = named_has (flow_named table typed) (suc k) named (body_stands k sub is_sub) in
      let is : sub_of program (suc k) ≡ flow_sub own named = is_there k sub is_sub in
      let function : is_some sub.result ≡ true = sym (ap is_some (result_at k sub is_sub)) ∙ some in
      let setting = setting_from own (at_number k sub is_sub).0 sub in
      subst (λ (z : FlowSub). has_returned z before ≡ true → IsClosing (get_or z.points last no_point).instr) (sym is)
      (closing_after table typed effects s named (laid named here) (function_stands setting sub function) (function_zero setting sub function)
      (λ p there. valued s sub.result p.instr function
      (accepted.fine (flow_sub own named) (in_program named here) (flow_at own named p) (Has-map (λ (q : NamedPoint). flow_at own named q) named.points p there)))
      before last (subst (λ (z : FlowSub). ControlPath (path_points program effects z) before last) is path))

  pub entered_body : (k : ℕ) → IsEntered program k → (j : ℕ) × (sub : TypedSub) × (k ≡ suc j) × IsSub order.rest j sub
  entered_body k (inl main) =
      let same_number : Some k ≡ Some (suc order.number) = sym main ∙ main_is in
      let number : k ≡ suc order.number = cc in
      (order.number, order.main, number, order.stands)
  entered_body k (inr (sub, has, p, there, actuals, result, is)) =
      (let found = answered sub has p there k actuals result is in (found.0, found.1, found.2, found.3))

  pub are_returning : AreReturning program effects
  are_returning k entered =
      let body = entered_body k entered in
      subst IsReturning (sym body.2) (body_returning body.0 body.1 body.3)

  pub are_closed : (k : ℕ) → IsEntered program k → IsClosed k
  are_closed k entered =
      let body = entered_body k entered in
      subst IsClosed (sym body.2) (body_closed body.0 body.1 body.3)

  -- ---- the package objects and the main procedure

  abbrev pub packages : NamedSub
  packages = elaborated own order.first

  pub packages_stand : IsNamedSub (flow_named table typed) 0 packages
  packages_stand = ([], named_subs own (length own.objects) order.rest, ap (all_named own) order.subs, refl)

  pub packages_in : Has (flow_named table typed) packages
  packages_in = named_has (flow_named table typed) 0 packages packages_stand

  -- a point of the package objects, by name
  pub package_point : (p : FlowPoint) → Has (sub_of program 0).points p → (q : NamedPoint) × Has packages.points q × (flow_at own packages q ≡ p)
  package_point p has =
      Has-map_from (λ (q : NamedPoint). flow_at own packages q) packages.points p
      (subst (λ (z : FlowSub). Has z.points p) (sub_there table typed 0 packages packages_stand) has)

  -- Each point of the package objects declares one, without a call.
  pub declared_there : (p : FlowPoint) → Has (sub_of program 0).points p → (x : ℕ) × (v : TypedTree) × (p.instr ≡ Declare x v) × (has_call v ≡ false)
  declared_there p has =
      let q = package_point p has in
      let found = declares packages refl q.0 q.1 (still_there packages refl q.0 q.1) in (
        found.0,
        found.1,
        sym (ap (λ (z : FlowPoint). z.instr) q.2) ∙ found.2,
        not_true (has_call found.1) (sym (ap calls_procedures found.2) ∙ still_there packages refl q.0 q.1),
      )

  -- ---- facts

  -- an object is as the text has it, or a temporary, that owns nothing
  pub object_or : (x : ℕ) → (object_at s x ≡ object_at own x) ⊎ (is_temporary_object s x ≡ true)
  unfolding flow_program
  object_or x = after_or typed.objects (temporaries_of (flow_named table typed)) x
