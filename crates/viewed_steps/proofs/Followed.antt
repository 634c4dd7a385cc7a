-- At the call of a traversal function nothing of what the first actual names is moved or borrowed.
use Rattle.viewed_steps.proofs.Standing as standing
use Rattle.viewed_steps.proofs.Successor as next
use Rattle.viewed_steps.proofs.Traversing.{first_actual, traversal_keeps}
use Rattle.soundness.specs.ViewedSoundness.Holds.{is_given, IsAccess}
use Rattle.viewed_steps.proofs.Views.{AreUnseen, given_type}
use Rattle.viewed_steps.specs.Ready.{IsReady, IsCalled, IsTraversalCall, IsSeen, IsActualTo, AreActualsTo, AreDifferent, is_shown_type}
use Rattle.viewed_steps.specs.Sound.{ViewStage}
use Rattle.viewed_steps.specs.Traversals.{traversed_name}
use Rattle.soundness.proofs.Points.{flow_at}
use Rattle.soundness.proofs.Scalars.{acts, acts_append, after_append}
use Rattle.soundness.proofs.Inherited.{global_after}
use Rattle.soundness.proofs.Used.{globals_are, called_are}
use Rattle.soundness.proofs.Passing.{signature_is}
use Rattle.soundness.specs.Sound.{Stage, IsNamedSub, IsAtPoint}
use Rattle.std.proofs.Common.{◌≡◌, refl, sym, ap, ◌∙◌, subst, ◌⊎◌, inl, inr, ℕ, Bool, true, false, List, [], ◌∷◌, ◌++◌, map, Option, Some, None, if◌then◌else◌}
use Rattle.std.proofs.lemmas.Bool.{false≢true}
use Rattle.std.specs.Prelude.{is_some}
use Rattle.machine.specs.spark_base.Lists.{Has}
use Rattle.machine.specs.place_names.declared.act.Mode.TheVariants as mode
use Rattle.machine.specs.place_names.declared.act.Placed.{Placed}
use Rattle.machine.specs.place_names.declared.fact.Fact.{Fact}
use Rattle.machine.specs.typed_tree.Trees.{TypedTree, More}
use Rattle.machine.specs.typed_tree.Programs.{TypedProgram}
use Rattle.machine.specs.flow_paths.Objects.{Signature}
use Rattle.machine.specs.type_definitions.Types.{Table}
use Rattle.machine.specs.flow_paths.declared.report.Effects.{Effects}
use Rattle.machine.specs.flow_paths.Acts.{actual_values, actual_acts}
use Rattle.machine.specs.flow_paths.Effects.{path_points, globals_of, called_acts, act_writes, act_reads}
use Rattle.machine.specs.flow_paths.Instructions.{Call}
use Rattle.machine.specs.flow_paths.Laid.{NamedSub, FlowProgram, flow_sub, flow_program, flow_named, typing_of, flow_typing}
use Rattle.machine.specs.flow_paths.Objects.{Typing, passing, passings, first_traversed, traverses, sub_at, object_at, is_anonymous, is_borrower, is_package_object, view_of}
use Rattle.machine.specs.flow_paths.Paths.{ControlPath, facts_before}
use Rattle.machine.specs.flow_paths.Points.{NamedPoint}
use Rattle.machine.specs.flow_paths.Views.{traversed_formal, traversed_of}
use Rattle.machine.specs.States.{State, Frame, sub_of}
use Rattle.soundness.specs.OwnedWays.Ways.{Way, after}
use Rattle.soundness.specs.OwnedWays.Ways as ways
use Rattle.soundness.proofs.OwnedLoans.Allowed.{Cleared}
use Rattle.viewed_steps.specs.Seeing.{sees_in}

-- The formals of a traversal function, its result, and how its actuals are passed.
pub record IsTraversing (program : FlowProgram) (n f : ℕ) : Type 0 where
  pub rest : List ℕ
  pub formals : (sub_of program n).formals ≡ f ∷ rest
  pub of : ℕ
  pub result : (sub_of program n).result ≡ Some of
  pub ways : passings (flow_typing program) (sub_at (flow_typing program) n) ≡ first_traversed (map (passing (flow_typing program) false) (f ∷ rest))

some_is : (a b : ℕ) → Some a ≡ Some b → a ≡ b
some_is a b same = cc

pub is_traversing : (program : FlowProgram) (n f : ℕ) → traversed_formal (flow_typing program) (sub_of program n) ≡ Some f → IsTraversing program n f
is_traversing program n f traversed = by_result (sub_of program n).result (sub_of program n).formals refl refl traversed
  where
    by_result : (r : Option ℕ) (formals : List ℕ) → (sub_of program n).result ≡ r → (sub_of program n).formals ≡ formals
        → traversed_of (traverses (flow_typing program).table r) formals ≡ Some f → IsTraversing program n f
    by_result None formals result are is = absurd (false≢true (ap is_some is))
    by_result (Some t) formals result are is = by_kind (traverses (flow_typing program).table (Some t)) refl formals are is
      where
        by_kind : (b : Bool) → traverses (flow_typing program).table (Some t) ≡ b → (formals : List ℕ) → (sub_of program n).formals ≡ formals → traversed_of b formals ≡ Some f → IsTraversing program n f
        by_kind false none formals are is = absurd (false≢true (ap is_some is))
        by_kind true gives [] are is = absurd (false≢true (ap is_some is))
        by_kind true gives (x ∷ rest) are is =
            let first : x ≡ f = some_is x f is in
            record {
              rest = rest;
              formals = are ∙ ap (λ z. z ∷ rest) first;
              of = t;
              result = result;
              ways =
                  ap (passings (flow_typing program)) (signature_is program n)
                  ∙ (λ i. passings (flow_typing program) (record { formals = are i; result = result i }))
                  ∙ ap (λ b. if b then first_traversed (map (passing (flow_typing program) false) (x ∷ rest)) else map (passing (flow_typing program) false) (x ∷ rest)) gives
                  ∙ ap (λ z. first_traversed (map (passing (flow_typing program) false) (z ∷ rest))) first;
            }

same_formal : (a b : ℕ) → Some a ≡ Some b → b ≡ a
same_formal a b e = cc

module _ (table : Table) (typed : TypedProgram) (effects : Effects) (input : List ℕ) (ready : IsReady table typed effects)
    (state : State) (top : Stage) (older : List ViewStage) (outer : List Frame) (named : NamedSub) (p : NamedPoint)
    (frames : state.frames ≡ top.frame ∷ outer) (of_sub : IsNamedSub (flow_named table typed) top.frame.sub named)
    (at_point : IsAtPoint named.points top.frame.next p)
    (path : ControlPath (path_points (flow_program table typed) effects (sub_of (flow_program table typed) top.frame.sub)) top.before top.frame.next)
    (n : ℕ) (actuals : TypedTree) (result : Option ℕ) (is : p.instr ≡ Call n actuals result)
    (f : ℕ) (traversed : traversed_formal (flow_typing (flow_program table typed)) (sub_of (flow_program table typed) n) ≡ Some f) where
  abbrev sees : ℕ → Bool
  sees = sees_in (flow_program table typed)

  abbrev program : FlowProgram
  program = flow_program table typed

  abbrev s : Typing
  s = flow_typing program

  pub made : IsTraversalCall s named (flow_at (typing_of table typed) named p).next n actuals
  made = ready.traversing.followed named (standing.named_in table typed effects input ready state top older outer named p frames of_sub at_point) p
      (standing.point_in_named table typed effects input ready state top older outer named p frames of_sub at_point) n actuals result is f traversed

  pub ways_are : IsTraversing program n f
  ways_are = is_traversing program n f traversed

  called : IsCalled table typed n actuals result
  called = ready.called (standing.sub table typed effects input ready state top older outer named p frames of_sub at_point)
      (standing.in_program table typed effects input ready state top older outer named p frames of_sub at_point)
      (standing.here table typed effects input ready state top older outer named p frames of_sub at_point)
      (standing.in_sub table typed effects input ready state top older outer named p frames of_sub at_point) n actuals result is

  -- the formals are of mode `in`; the first one sees, and no other one is of an anonymous access type
  pub modes_there : (x : ℕ) → Has (f ∷ ways_are.rest) x → (object_at s x).mode ≡ mode.In
  modes_there x has = ready.class.modes n ways_are.of (ap (λ (z : Signature). z.result) (signature_is program n) ∙ ways_are.result) x
      (subst (λ (z : Signature). Has z.formals x) (sym (signature_is program n)) (subst (λ z. Has z x) (sym ways_are.formals) has))

  pub modes : (x : ℕ) → Has ways_are.rest x → (object_at s x).mode ≡ mode.In
  modes x has = modes_there x (inr has)

  pub first_mode : (object_at s f).mode ≡ mode.In
  first_mode = modes_there f (inl refl)

  pub given : is_given s f ≡ true
  given = (ready.traversing.first n f (called.runs).entered traversed).1

  pub shown : is_shown_type s f ≡ true
  shown = given_type s f given

  pub access : IsAccess s f
  access = (ready.traversing.first n f (called.runs).entered traversed).2

  pub differ : AreDifferent (f ∷ ways_are.rest)
  differ = subst AreDifferent ways_are.formals called.differ

  pub unseen : AreUnseen s ways_are.rest
  unseen x has = by_kind (is_anonymous (view_of s x)) refl
    where
      by_kind : (b : Bool) → is_anonymous (view_of s x) ≡ b → b ≡ false
      by_kind false e = refl
      by_kind true e =
          absurd (differ.0 x has (same_formal f x (sym traversed ∙ ready.traversing.firsts n (called.runs).entered x (subst (λ z. Has z x) (sym ways_are.formals) (inr has)) e)))

  -- their actuals
  abbrev pub first : TypedTree
  first = first_actual s sees ready.owns made.call

  stays : AreActualsTo s (f ∷ ways_are.rest) (More first made.call.others)
  stays = subst (λ z. AreActualsTo s z (More first made.call.others)) ways_are.formals (subst (AreActualsTo s (sub_of program n).formals) made.actuals_are called.actuals_stay)

  pub seen_first : IsSeen s f first
  seen_first = (subst (λ z. IsActualTo s f z first) first_mode stays.0).1 shown

  pub others_stay : AreActualsTo s ways_are.rest made.call.others
  others_stay = stays.1

  abbrev own_facts : List Fact
  own_facts = standing.facts table typed effects input ready state top older outer named p frames of_sub at_point path

  abbrev values : List Placed
  values = actual_values s (passings s (sub_at s n)) actuals

  abbrev copies : List Placed
  copies = actual_acts (passings s (sub_at s n)) actuals

  call_keeps : after (acts (values ++ copies)) own_facts ≡ own_facts
  call_keeps =
      (λ i. after (acts (actual_values s (ways_are.ways i) (made.actuals_are i) ++ actual_acts (ways_are.ways i) (made.actuals_are i))) own_facts)
      ∙ traversal_keeps s sees ready.owns ready.class.parts_named f ways_are.rest made.call seen_first.0 unseen others_stay modes own_facts

  -- the call changes no fact
  pub facts_stay : facts_before (standing.points table typed effects input ready state top older outer named p frames of_sub at_point) (top.frame.next ∷ top.before) ≡ own_facts
  facts_stay =
      standing.facts_whole table typed effects input ready state top older outer named p frames of_sub at_point path
      ∙ ap (λ i. after (acts (standing.acts_by table typed effects input ready state top older outer named p frames of_sub at_point s i ++ called_acts program effects p.pos i)) own_facts) is
      ∙ ap (λ z. after z own_facts) (acts_append (values ++ copies) (called_acts program effects p.pos (Call n actuals result)))
      ∙ after_append (acts (values ++ copies)) (acts (called_acts program effects p.pos (Call n actuals result))) own_facts
      ∙ ap (λ z. after z (after (acts (values ++ copies)) own_facts)) (called_are program effects ready.accepted.effects_are p.pos n actuals result)
      ∙ global_after (globals_of program effects n) (after (acts (values ++ copies)) own_facts) (globals_are program effects ready.accepted.effects_are n)
      ∙ call_keeps

  -- so nothing of the name is moved or borrowed
  pub clear_at_call : (k : ℕ) (has : Has (flow_at (typing_of table typed) named p).next k) (q : NamedPoint) (at_q : IsAtPoint named.points k q)
      → (u : Way) → ways.name_of u ≡ traversed_name made.call → Cleared own_facts u
  clear_at_call k has q at_q u called =
      next.clear_here table typed effects input ready state top older outer named p frames of_sub at_point path k has q at_q own_facts facts_stay n made.call
      (made.taker k has q at_q) u called

  -- there the object that the first actual is rooted in is named, if it is of a package
  module _ (k : ℕ) (has : Has (flow_at (typing_of table typed) named p).next k) (q : NamedPoint) (at_q : IsAtPoint named.points k q)
      (borrower_local : (x : ℕ) → is_borrower s x ≡ true → is_package_object s x ≡ false) (shared : is_package_object s made.call.root ≡ true) where
    pub names_root : Has (flow_sub (typing_of table typed) named).points (flow_at (typing_of table typed) named q) × ((a : Placed) × Has (flow_at (typing_of table typed) named q).acts a
        × ((act_writes made.call.root a.act ≡ true) ⊎ (act_reads made.call.root a.act ≡ true)))
    names_root = (
      next.in_next table typed effects input ready state top older outer named p frames of_sub at_point path k has q at_q,
      next.names_next table typed effects input ready state top older outer named p frames of_sub at_point path k has q at_q n made.call borrower_local shared
          (made.taker k has q at_q),
    )
