-- Along a control path, what facts say was moved is in scope, or in an object of a package; so no fact speaks
-- of an object that is declared. (As in `ready_laws`, but with views.)
use Rattle.std.proofs.Common.{◌≡◌, refl, sym, ap, ◌∙◌, subst, ◌⊎◌, inl, inr, ℕ, Bool, true, false, not, ◌&&◌, ◌||◌, ◌==◌, eqb-true, eq-eqb, List, [], ◌∷◌, ◌++◌, map, take, drop, get_or, Option, Some, None}
use Rattle.std.specs.Prelude.{filter}
use Rattle.std.specs.List.{AllByRecursion}
use Rattle.std.proofs.lemmas.List.Folds.{list_any-append}
use Rattle.std.proofs.lemmas.Bool.{false≢true, true≢false}
use Rattle.machine.specs.spark_base.Lists.{Has}
use Rattle.soundness.proofs.Lists.{Has-append_cases, Has-filter, Has-map, Has-map_from}
use Rattle.machine.specs.place_names.declared.act.Act.{Act}
use Rattle.machine.specs.place_names.declared.act.Act.TheVariants as act
use Rattle.machine.specs.place_names.declared.act.Placed.{Placed}
use Rattle.machine.specs.place_names.declared.fact.Fact.{Fact}
use Rattle.machine.specs.place_names.declared.fact.Fact.TheVariants.{Moved}
use Rattle.machine.specs.place_names.Facts.{adds, removes, effect}
use Rattle.machine.specs.place_names.Names.{Name as PlaceName}
use Rattle.machine.specs.type_definitions.Types.{Table}
use Rattle.machine.specs.typed_tree.Trees.{TypedTree}
use Rattle.machine.specs.typed_tree.Programs.{TypedProgram}
use Rattle.machine.specs.flow_paths.declared.report.Effects.{Effects}
use Rattle.machine.specs.flow_paths.Instructions.{Instruction, Skip, Declare, Assign, Call, Output, Input, Release, Test, Choose, Start, Next, Evaluate, LeaveLoop, Hold, EndScope, Finish, Fall}
use Rattle.machine.specs.flow_paths.Objects.{Typing, Signature, object_at, sub_at, is_variable, is_formal, is_anonymous, view_of, is_borrower, has_scope_end}
use Rattle.machine.specs.flow_paths.Acts.{acts_of}
use Rattle.machine.specs.flow_paths.Points.{NamedPoint, FlowPoint}
use Rattle.machine.specs.flow_paths.Laid.{FlowSub, FlowProgram, NamedSub, kept_roots, sub_facts, flow_sub, typing_of, flow_typing, flow_program, flow_named}
use Rattle.machine.specs.flow_paths.Paths.{PathPoint, ControlPath, begins, goes_on, is_some_point, acts_at, facts_before}
use Rattle.machine.specs.flow_paths.Effects.{AreEffects, called_acts, path_points}
use Rattle.machine.specs.flow_paths.Scopes.{Leads, Silent, taken, is_last, is_within, is_temporary, is_ready, brought, scope_behind}
use Rattle.machine.specs.Run.{no_point}
use Rattle.soundness.specs.OwnedWays.Ways.{after}
use Rattle.soundness.specs.Typed.{OwnsByShape}
use Rattle.soundness.specs.TypedLaws.Needed.{IsFine, AreFine}
use Rattle.soundness.specs.Sound.{IsAtPoint, is_temporary_object, temporaries_in}
use Rattle.soundness.proofs.Scalars.{acts}
use Rattle.soundness.proofs.Paths.{facts_next}
use Rattle.soundness.proofs.Points.{IsLaid, flow_at, point_has, point_there, path_there, next_there}
use Rattle.soundness.proofs.Typings.{flow_agrees, instruction_same}
use Rattle.soundness.proofs.Waited.{within_left}
use Rattle.soundness.proofs.Passing.{signature_there}
use Rattle.soundness.proofs.Used.{called_add_none}
use Rattle.soundness.proofs.Waits.{drop_none}
use Rattle.settled_types.specs.OrderLaws.ScopeLaws.Order.{IsOrdered, named_in}
use Rattle.soundness.specs.ViewedSoundness.Holds.{PartsAreNamed}
use Rattle.viewed_steps.specs.Awaited.{is_held}
use Rattle.viewed_steps.specs.Sound.{IsStoredAt}
use Rattle.accepted_runs.specs.ViewedFiles.ViewLaws.InOrder.{NamesSource}
use Rattle.accepted_runs.proofs.ViewedFiles.ViewLaws.Calls.{AreViewCalls, point_good}

-- ---- scopes

any_either : (a b : Bool) → a || b ≡ true → (a ≡ true) ⊎ (b ≡ true)
any_either true b e = inl refl
any_either false b e = inr e

or_right : (a b : Bool) → b ≡ true → a || b ≡ true
or_right true b e = refl
or_right false b e = e

last_out : (x y : ℕ) (scope : List ℕ) → is_last x scope ≡ true → is_within y scope ≡ true → (y ≡ x → ⊥) → is_within y (drop 1 scope) ≡ true
last_out x y [] last within ne = cc
last_out x y (z ∷ rest) last within ne = elim (any_either (y == z) (is_within y rest) within) [
  | inl e ↦ absurd (ne (eqb-true y z e ∙ sym (eqb-true x z last)))
  | inr later ↦ ap (is_within y) (drop_none rest) ∙ later
]

-- What is in scope at an instruction is so after it, but for an object whose scope ends there.
behind_within : (i : Instruction) (scope : List ℕ) (x : ℕ) → ((y : ℕ) → i ≡ EndScope y → is_within x (drop 1 scope) ≡ true)
    → is_within x scope ≡ true → is_within x (brought i scope) ≡ true
behind_within (Declare y v) scope x ends within = or_right (x == y) (is_within x scope) within
behind_within (Start y reversed low high) scope x ends within = or_right (x == y) (is_within x scope) within
behind_within (Call sub actuals None) scope x ends within = within
behind_within (Call sub actuals (Some t)) scope x ends within = or_right (x == t) (is_within x scope) within
behind_within (Evaluate t e (Some op)) scope x ends within = or_right (x == t) (is_within x scope) within
behind_within (Evaluate t e None) scope x ends within = within
behind_within (EndScope y) scope x ends within = ends y refl
behind_within Skip scope x ends within = within
behind_within (Assign target e) scope x ends within = within
behind_within (Output text line) scope x ends within = within
behind_within (Input target) scope x ends within = within
behind_within (Release e) scope x ends within = within
behind_within (Test e) scope x ends within = within
behind_within (Choose e choices) scope x ends within = within
behind_within (Next y reversed low high) scope x ends within = within
behind_within (LeaveLoop e) scope x ends within = within
behind_within (Hold v) scope x ends within = within
behind_within Finish scope x ends within = within
behind_within Fall scope x ends within = within

not_silent : (lasts temporary : Bool) → lasts ≡ true → not lasts && not temporary ≡ true → ⊥
not_silent true temporary e h = absurd (false≢true h)
not_silent false temporary e h = absurd (false≢true e)

module _ (s : Typing) where
  lasting_stays : (x : ℕ) (gone : List ℕ) → AllByRecursion (Silent s) gone → has_scope_end s x ≡ true → is_within x gone ≡ true → ⊥
  lasting_stays x [] all lasts within = cc
  lasting_stays x (y ∷ gone) all lasts within = elim (any_either (x == y) (is_within x gone) within) [
    | inl e ↦ not_silent (has_scope_end s x) (is_temporary (object_at s x).kind) lasts (subst (Silent s) (sym (eqb-true x y e)) all.0)
    | inr later ↦ lasting_stays x gone all.1 lasts later
  ]

  pub leads_within : (x : ℕ) (a b : List ℕ) → Leads s a b → has_scope_end s x ≡ true → is_within x a ≡ true → is_within x b ≡ true
  leads_within x a b (gone, silent, is) lasts within =
      elim (any_either (is_within x gone) (is_within x b) (sym (list_any-append (λ y. x == y) gone b) ∙ ap (is_within x) (sym is) ∙ within)) [
        | inl left ↦ absurd (lasting_stays x gone silent lasts left)
        | inr there ↦ there
      ]

-- ---- facts

-- What holds of the places that facts call moved holds after acts that add none but such.
facts_kept : (P : ℕ → Type 0) (more : List Act) (facts : List Fact) → ((name : PlaceName) → Has facts (Moved name) → P name.root)
    → ((a : Act) → Has more a → (name : PlaceName) → Has (adds a) (Moved name) → P name.root) → (name : PlaceName) → Has (after more facts) (Moved name) → P name.root
facts_kept P [] facts old new name has = old name has
facts_kept P (a ∷ more) facts old new name has =
    facts_kept P more (effect a facts)
    (λ other there. elim (Has-append_cases (filter (λ f. not (removes a f)) facts) (adds a) (Moved other) there) [
      | inl before ↦ old other (Has-filter (λ f. not (removes a f)) facts (Moved other) before).0
      | inr now ↦ new a (inl refl) other now
    ]) (λ b there. new b (inr there)) name has

gone_ended_fact : (b : Bool) → b ≡ true → not b ≡ true → ⊥
gone_ended_fact true e h = absurd (false≢true h)
gone_ended_fact false e h = absurd (false≢true e)

-- After the end of its scope no fact is rooted in an object.
ended_fact : (x : ℕ) (borrower : Bool) (facts : List Fact) (name : PlaceName) → Has (after (act.EndScope x borrower ∷ []) facts) (Moved name) → name.root ≡ x → ⊥
ended_fact x borrower facts name has root = elim (Has-append_cases (filter (λ f. not (removes (act.EndScope x borrower) f)) facts) [] (Moved name) has) [
  | inl before ↦ gone_ended_fact (name.root == x) (eq-eqb name.root x root) (Has-filter (λ f. not (removes (act.EndScope x borrower) f)) facts (Moved name) before).1
  | inr never ↦ never
]

-- ---- paths

not_both_lasting : (a b : Bool) → a ≡ true → b ≡ true → a && b ≡ false → ⊥
not_both_lasting true true e f h = absurd (true≢false h)
not_both_lasting true false e f h = absurd (false≢true f)
not_both_lasting false b e f h = absurd (false≢true e)

module _ (table : Table) (typed : TypedProgram) (effects : Effects) (owns : OwnsByShape (flow_program table typed).table)
    (parts_named : PartsAreNamed (flow_program table typed).table) (fine : AreFine (flow_program table typed))
    (effects_are : AreEffects (flow_program table typed) effects)
    (local : (sub : FlowSub) → Has (flow_program table typed).subs sub → (p : FlowPoint) → Has sub.points p → (x : ℕ) → IsStoredAt p.instr x
    → is_anonymous (view_of (flow_typing (flow_program table typed)) x) ≡ true → is_variable (object_at (flow_typing (flow_program table typed)) x).kind ≡ true)
    (sources : (sub : FlowSub) → Has (flow_program table typed).subs sub → (p : FlowPoint) → Has sub.points p
    → NamesSource (flow_typing (flow_program table typed)) p.instr)
    (plainly : AreViewCalls (flow_program table typed) owns) where
  abbrev program : FlowProgram
  program = flow_program table typed

  abbrev s : Typing
  s = flow_typing program

  abbrev own : Typing
  own = typing_of table typed

  -- the scope of what is named ends at a point of its own, or it is no temporary
  lasting : (x : ℕ) → has_scope_end s x ≡ true → is_held s x ≡ false → is_temporary_object s x ≡ true → ⊥
  lasting x lasts unheld held = not_both_lasting (is_temporary_object s x) (has_scope_end s x) held lasts unheld

  -- One subprogram, in which what has an end of its scope and is named is in scope, or in an object from
  -- outside.
  module _ (named : NamedSub) (has_sub : Has (flow_named table typed) named) (laid : IsLaid s named)
      (supplied : (p : NamedPoint) → Has named.points p → temporaries_in s (take (taken p.instr) p.scope) ≡ taken p.instr)
      (is outer : ℕ → Type 0) (formals : List ℕ) (not_outer : (x : ℕ) → is x → outer x → ⊥)
      (ordered : (p : NamedPoint) → Has named.points p → IsOrdered is formals p)
      (seen : (p : NamedPoint) → Has named.points p → (x : ℕ) → Has (named_in p.instr) x → has_scope_end s x ≡ true
      → outer x ⊎ (is_within x p.scope ≡ true))
      (unheld : (p : NamedPoint) → Has named.points p → (x : ℕ) → Has (named_in p.instr) x → is_held s x ≡ false) where
    abbrev points : List PathPoint
    points = path_points program effects (flow_sub own named)

    abbrev kept : List ℕ
    kept = kept_roots own 0 own.objects (sub_facts own named.sub named.points)

    in_program : Has program.subs (flow_sub own named)
    unfolding flow_program
    in_program = Has-map (flow_sub own) (flow_named table typed) named has_sub

    abbrev Known : NamedPoint → ℕ → Type 0
    Known p x = (has_scope_end s x ≡ true) × (is_held s x ≡ false) × (outer x ⊎ (is_within x p.scope ≡ true))

    abbrev AreKnown : List ℕ → NamedPoint → Type 0
    AreKnown before p = (name : PlaceName) → Has (facts_before points before) (Moved name) → Known p name.root

    module _ (p : NamedPoint) (there : Has named.points p) where
      in_sub : Has (flow_sub own named).points (flow_at own named p)
      in_sub = Has-map (λ (q : NamedPoint). flow_at own named q) named.points p there

      fine_there : IsFine s named.sub.result p.instr
      fine_there = fine (flow_sub own named) in_program (flow_at own named p) in_sub

      abbrev acts_here : Instruction → List Placed
      acts_here i = acts_of (record { typing = s; result = named.sub.result; roots = kept }) p.pos i

      -- with those of a call on package objects
      abbrev whole_acts : Instruction → List Placed
      whole_acts i = acts_here i ++ called_acts program effects p.pos i

      -- what the acts of the point move
      own_known : (a : Placed) → Has (acts_here p.instr) a → (name : PlaceName) → Has (adds a.act) (Moved name) → Known p name.root
      own_known a has name moved =
          let found = (point_good program owns parts_named p.instr (local (flow_sub own named) in_program (flow_at own named p) in_sub) named.sub.result kept p.pos fine_there
          (plainly (flow_sub own named) in_program (flow_at own named p) in_sub) (sources (flow_sub own named) in_program (flow_at own named p) in_sub) a has).0 (Moved name) moved in
          (found.1, unheld p there name.root found.0, seen p there name.root found.0 found.1)

      moves_known : (a : Act) → Has (acts (whole_acts p.instr)) a → (name : PlaceName) → Has (adds a) (Moved name) → Known p name.root
      moves_known a has name moved =
          let stands = Has-map_from (λ (q : Placed). q.act) (whole_acts p.instr) a has in
          let adds_it : Has (adds (stands.0).act) (Moved name) = subst (λ z. Has (adds z) (Moved name)) (sym stands.2) moved in
          elim (Has-append_cases (acts_here p.instr) (called_acts program effects p.pos p.instr) stands.0 stands.1) [
            | inl own_act ↦ own_known stands.0 own_act name adds_it
            | inr called ↦ absurd (called_add_none program effects effects_are p.pos p.instr stands.0 (Moved name) called adds_it)
          ]

      -- formals of what is called are known as such
      formals_there : (n : ℕ) (actuals : TypedTree) (t : Option ℕ) → p.instr ≡ Call n actuals t → (x : ℕ) → Has (sub_at s n).formals x → is_formal s x ≡ true
      formals_there n actuals t e x has =
          let plain = plainly (flow_sub own named) in_program (flow_at own named p) in_sub n actuals t e in
          plain.known x (subst (λ fs. Has fs x) (ap (λ (z : Signature). z.formals) (signature_there program.subs n)) has)

      module _ (n : ℕ) (at_point : IsAtPoint named.points n p) where
        acts_are : acts_at points n ≡ acts (whole_acts p.instr)
        acts_are =
            ap (λ (z : PathPoint). acts z.acts) (path_there own named n p at_point program effects)
            ∙ ap (λ z. acts (z ++ called_acts program effects p.pos p.instr))
            (sym (instruction_same s own (flow_agrees table typed) named.sub.result kept p.pos p.instr formals_there))

        facts_are : (before : List ℕ) → facts_before points (n ∷ before) ≡ after (acts (whole_acts p.instr)) (facts_before points before)
        facts_are before = facts_next points before n ∙ ap (λ z. after z (facts_before points before)) acts_are

        -- the facts after the acts
        known_on : (before : List ℕ) → AreKnown before p → AreKnown (n ∷ before) p
        known_on before known name has =
            facts_kept (Known p) (acts (whole_acts p.instr)) (facts_before points before) known moves_known name
            (subst (λ z. Has z (Moved name)) (facts_are before) has)

        abbrev left : List ℕ
        left = drop (taken p.instr) p.scope

        -- what they know is in scope after the instruction
        within_behind : (before : List ℕ) (name : PlaceName) → Has (facts_before points (n ∷ before)) (Moved name) → has_scope_end s name.root ≡ true → is_held s name.root ≡ false
            → is_within name.root p.scope ≡ true → is_within name.root (scope_behind p) ≡ true
        within_behind before name has lasts none within = elim (within_left s (taken p.instr) p.scope (supplied p there) name.root within) [
          | inl held ↦ absurd (lasting name.root lasts none held)
          | inr there_left ↦
              behind_within p.instr left name.root
              (λ x e. last_out x name.root left
              (subst (λ z. is_last x z ≡ true) (sym (ap (λ i. drop (taken i) p.scope) e ∙ drop_none p.scope)) (subst (λ i. is_ready p i ≡ true) e (ordered p there).ready)) there_left
              (ended_fact x (is_borrower s x) (facts_before points before) name
              (subst (λ z. Has z (Moved name)) (facts_are before ∙ ap (λ i. after (acts (whole_acts i)) (facts_before points before)) e) has)))
              there_left
        ]

    first_at : (f : FlowPoint → PathPoint) (g : NamedPoint → FlowPoint) (qs : List NamedPoint) → is_some_point (map f (map g qs)) → (p : NamedPoint) × IsAtPoint qs 0 p
    first_at f g [] some = absurd some
    first_at f g (p ∷ qs) some = (p, ([], qs, refl, refl))

    -- A path to a point, by name, and what its facts know.
    pub standing : (before : List ℕ) (last : ℕ) → ControlPath points before last → (p : NamedPoint) × IsAtPoint named.points last p × AreKnown before p
    standing before last (begins some) =
        (let found = first_at _ (λ (q : NamedPoint). flow_at own named q) named.points some in (found.0, found.1, λ name has. absurd has))
    standing before last (goes_on old a b path next) =
        let here = standing old a path in
        let p : NamedPoint = here.0 in
        let there : Has named.points p = point_has named.points a p here.1 in
        let on = next_there s named laid p there b (subst (λ (z : PathPoint). Has z.next b) (path_there own named a p here.1 program effects) next) in (
          on.0,
          on.1,
          λ name has. (let known = known_on p there a here.1 old here.2 name has in (
            known.0,
            known.1,
            elim known.2 [
              | inl out ↦ inl out
              | inr within ↦ inr (leads_within s name.root (scope_behind p) (on.0).scope on.2 known.0 (within_behind p there a here.1 old name has known.0 known.1 within))
            ],
          )),
        )

    -- No fact speaks of an object that is declared, neither before its initial value is evaluated nor then.
    pub new_there : (before : List ℕ) (last : ℕ) → ControlPath points before last → (x : ℕ) (v : TypedTree)
        → (get_or (flow_sub own named).points last no_point).instr ≡ Declare x v → (name : PlaceName) → name.root ≡ x
        → (Has (facts_before points before) (Moved name) → ⊥) × (Has (facts_before points (last ∷ before)) (Moved name) → ⊥)
    new_there before last path x v e name root =
        let here = standing before last path in
        let p : NamedPoint = here.0 in
        let there : Has named.points p = point_has named.points last p here.1 in
        let declares : p.instr ≡ Declare x v = sym (ap (λ (q : FlowPoint). q.instr) (point_there own named last p here.1)) ∙ e in
        let known = known_on p there last here.1 before here.2 in (
          λ has. unknown p there declares (here.2 name has).2,
          λ has. unknown p there declares (known name has).2,
        )
      where
        unknown : (p : NamedPoint) → Has named.points p → p.instr ≡ Declare x v → outer name.root ⊎ (is_within name.root p.scope ≡ true) → ⊥
        unknown p there declares (inl out) = not_outer x ((ordered p there).declares x v declares) (subst outer root out)
        unknown p there declares (inr within) =
            gone_ended_fact (is_within x p.scope) (subst (λ z. is_within z p.scope ≡ true) root within)
            (subst (λ i. is_ready p i ≡ true) declares (ordered p there).ready)
