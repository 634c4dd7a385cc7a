-- The acts of a call: its actuals are read, moved or lent, and what is copied back may be.
use Rattle.std.proofs.Common.{◌≡◌, refl, sym, ap, ◌∙◌, subst, ◌⊎◌, inl, inr, ℕ, suc, ◌<◌, true, false, List, [], ◌∷◌, ◌++◌, map, take, length, arith, Option, Some, None, is_some, Bool, not, ◌&&◌}
use Rattle.std.specs.Prelude.{is_some}
use Rattle.std.proofs.lemmas.Bool.{false≢true}
use Rattle.machine.specs.spark_base.Lists.{Has}
use Rattle.soundness.proofs.Lists.{Has-append_cases, Has-append_right, Has-map_from}
use Rattle.machine.specs.place_names.declared.act.Act.{Act}
use Rattle.machine.specs.place_names.declared.act.Act.TheVariants as act
use Rattle.machine.specs.place_names.declared.act.Placed.{Placed}
use Rattle.machine.specs.place_names.declared.fact.Fact.{Fact}
use Rattle.machine.specs.place_names.declared.fact.Fact.TheVariants.{Moved, Lent}
use Rattle.machine.specs.place_names.Names.{Name as PlaceName, overlaps}
use Rattle.machine.specs.place_names.Facts.{adds, effect}
use Rattle.machine.specs.place_names.declared.rule.Loan.{Loan}
use Rattle.machine.specs.place_names.declared.rule.Loan.TheVariants.{Borrowed}
use Rattle.machine.specs.place_names.declared.act.Mode.TheVariants as mode
use Rattle.machine.specs.type_definitions.Types.{Table, is_owning}
use Rattle.machine.specs.typed_tree.Trees.{TypedTree, More}
use Rattle.machine.specs.typed_tree.Programs.{TypedProgram}
use Rattle.machine.specs.flow_paths.declared.report.Effects.{Effects}
use Rattle.machine.specs.flow_paths.Instructions.{Instruction, Call, EndScope}
use Rattle.machine.specs.flow_paths.Objects.{Typing, object_at, sub_at, is_anonymous, is_package_object, view_of, traverses, passings, Passing, Signature, passing, is_formal, is_named_access}
use Rattle.machine.specs.place_names.Reports.{Report}
use Rattle.machine.specs.flow_paths.Aliases.{overlap_reports}
use Rattle.machine.specs.flow_paths.Aliases as alias
use Rattle.machine.specs.flow_paths.Acts as flow
use Rattle.machine.specs.flow_paths.Points.{NamedPoint}
use Rattle.machine.specs.flow_paths.Laid.{FlowProgram, flow_sub, typing_of, flow_typing, flow_program, flow_named}
use Rattle.machine.specs.flow_paths.Names.{written}
use Rattle.machine.specs.flow_paths.Paths.{facts_before}
use Rattle.machine.specs.flow_paths.Effects.{globals_of, called_acts}
use Rattle.machine.specs.flow_paths.Scopes.{taken, scope_behind, Leads}
use Rattle.machine.specs.flow_paths.Views.{traversed_formal, traversed_of}
use Rattle.machine.specs.States.{Frame, sub_of}
use Rattle.machine.specs.Step.{Turn, successor}
use Rattle.machine.specs.Step as steps
use Rattle.machine.specs.Typed.{successors}
use Rattle.machine.specs.Owners.{is_in_formal, waiting_in, is_in}
use Rattle.machine.specs.place_names.declared.act.Mode.TheVariants as mode
use Rattle.soundness.specs.OwnedWays.Ways.{Way, after, AllowsAll}
use Rattle.soundness.specs.OwnedWays.Ways as ways
use Rattle.soundness.specs.Seen.{is_view_formal, IsNear, content, seen, home, trunk}
use Rattle.soundness.specs.Typed.{Kept}
use Rattle.soundness.specs.Sound.{Uses, Stage, facts_of, IsAtPoint, view_of as view_here}
use Rattle.soundness.proofs.Numbers.{index_law}
use Rattle.soundness.proofs.Lasting.{keeps}
use Rattle.soundness.proofs.Passing.{AreReads, reads_keep, signature_is}
use Rattle.soundness.proofs.Contents.{bool_cases}
use Rattle.soundness.proofs.Inherited.{global_after}
use Rattle.soundness.proofs.Points.{flow_at}
use Rattle.soundness.proofs.Scalars.{acts, acts_append, after_append, allows_both}
use Rattle.soundness.proofs.Successors.{below_one, successor_there}
use Rattle.soundness.proofs.Used.{called_are, added_after, globals_are}
use Rattle.soundness.proofs.Around.{IsFar}
use Rattle.soundness.proofs.Eased.{eased}
use Rattle.soundness.specs.OwnedLoans.Views.{Around, Viewed}
use Rattle.soundness.specs.ViewedSoundness.Holds.{Holds, is_view, IsOwners, AllKeep, is_fixed, is_given, Seeing, is_bundle}
use Rattle.soundness.proofs.ViewedSoundness.Evaluated.{live_trunk, keep_both}
use Rattle.viewed_steps.specs.Awaited.{temporaries_of, AreOwnless, TakesPassed}
use Rattle.viewed_steps.specs.Sound.{Disturbs, IsCopiedBack, ViewStage, GoneElsewhere, IsKindOfFormal}
use Rattle.viewed_steps.specs.Ready.{IsReady, IsCalled, IsTraversalCall, IsSeen, AreActualsTo}
use Rattle.soundness.proofs.OwnedLoans.Allowed.{Cleared}
use Rattle.viewed_steps.specs.Traversals.{traversed_name}
use Rattle.viewed_steps.proofs.Lent.{Spare, spare_both}
use Rattle.viewed_steps.proofs.Apart.{same_root}
use Rattle.viewed_steps.proofs.Waiting.{StandsBetween, beside_them, handed, lent_handed}
use Rattle.viewed_steps.proofs.Called.{values_are_read, call_adds_none, passes_to, spare_reads, spare_copies}
use Rattle.viewed_steps.proofs.LaidOut.{AreOpenActuals}
use Rattle.viewed_steps.proofs.Passed.{apart_or, apart_there}
use Rattle.viewed_steps.proofs.Cells.{all_in, all_open}
use Rattle.viewed_steps.proofs.Standing as standing
use Rattle.viewed_steps.proofs.Packages as packages
use Rattle.viewed_steps.proofs.Innermost as innermost
use Rattle.viewed_steps.proofs.Views.{AreAccess, all_held, bundle_passing, many_bundle, AreUnseen, given_cases, AreLowFormals}
use Rattle.viewed_steps.proofs.Seeing.{AreClear}
use Rattle.viewed_steps.proofs.Clear.{all_clear}
use Rattle.viewed_steps.proofs.First.{first_allowed, first_keeps}
use Rattle.viewed_steps.proofs.Followed as followed
use Rattle.viewed_steps.proofs.Followed.{IsTraversing}
use Rattle.viewed_steps.proofs.Lending.{named_has, borrowed_lent, shown_clear}
use Rattle.viewed_steps.proofs.Traversing.{first_actual, first_reads}
use Rattle.soundness.proofs.ViewedSoundness.ViewKinds.{true_false}
use Rattle.soundness.proofs.ViewedSoundness.ViewKinds.{given_sees, true_false}
use Rattle.viewed_steps.proofs.Exclusive.{first_true, second_true, mode_in, ChangesLent, AreLent, are_lent, lent_clears}
use Rattle.viewed_steps.proofs.Globals.{shown_act}
use Rattle.viewed_steps.specs.Seeing.{sees_in}
use Rattle.viewed_steps.proofs.Sees.{sees_seeing}
use Rattle.viewed_steps.proofs.Constructors.{is_end_scope_instruction}
use Rattle.viewed_steps.proofs.InnerFrame.{InnerFrame}
use Rattle.soundness.proofs.Parted.{by_either}

module _ (table : Table) (typed : TypedProgram) (effects : Effects) (input : List ℕ) (ready : IsReady table typed effects) where
  abbrev sees : ℕ → Bool
  sees = sees_in (flow_program table typed)

  abbrev seeing : Seeing (flow_typing (flow_program table typed)) sees
  seeing = sees_seeing (flow_program table typed)

  abbrev program : FlowProgram
  program = flow_program table typed

  abbrev s : Typing
  s = flow_typing program

  abbrev own : Typing
  own = typing_of table typed

  abbrev in_formals : AreAccess s
  in_formals = standing.in_formals table typed effects input ready

  abbrev local : (x : ℕ) → is_view s x ≡ true → is_package_object s x ≡ false
  local = standing.local table typed effects input ready

  abbrev unmoved_stage : (e : Stage) → e.frame.sub ≡ 0 → (name : PlaceName) → Has (facts_of program effects e) (Moved name) → ⊥
  unmoved_stage = packages.unmoved_stage table typed effects input ready

  module _ (inner : InnerFrame table typed effects) where
    abbrev outer : List Frame
    outer = inner.below.stage.frame ∷ inner.rest

    abbrev older : List ViewStage
    older = inner.below ∷ inner.more_frames

    abbrev depth : ℕ
    depth = suc (length inner.rest)

    abbrev between : (g : ViewStage) → Has (inner.below ∷ inner.more_frames) g → StandsBetween table typed effects unmoved_stage local inner.state (suc (length inner.rest)) (inner.below ∷ inner.more_frames) g
    between = innermost.between table typed effects input ready inner

    abbrev other : Around (home s (suc (length inner.rest)))
    other = beside_them table typed effects unmoved_stage local inner.state (suc (length inner.rest)) (inner.below ∷ inner.more_frames) between

    abbrev alone : (w : Way) → IsNear (suc (length inner.rest)) w → IsFar (suc (length inner.rest)) (GoneElsewhere program effects (inner.below ∷ inner.more_frames)) w → ⊥
    alone = innermost.alone table typed effects input ready inner

    abbrev main_turn : Turn
    main_turn = standing.t table typed effects input ready inner.state inner.top older outer inner.named inner.p inner.frames inner.of_sub inner.at_point

    abbrev own_facts : List Fact
    own_facts = standing.facts table typed effects input ready inner.state inner.top older outer inner.named inner.p inner.frames inner.of_sub inner.at_point inner.path

    abbrev handed_on : List Fact
    handed_on = handed table typed effects unmoved_stage local inner.state (suc (length inner.rest)) (inner.below ∷ inner.more_frames) between

    abbrev facts_now : List Fact
    facts_now = own_facts ++ handed_on

    abbrev acts_of_main : Instruction → List Act
    acts_of_main i = standing.acts_here table typed effects input ready inner.state inner.top older outer inner.named inner.p inner.frames inner.of_sub inner.at_point i

    abbrev allowed_now : Spare s (standing.acts_by table typed effects input ready inner.state inner.top older outer inner.named inner.p inner.frames inner.of_sub inner.at_point s inner.p.instr) → AllowsAll own_facts (acts_of_main inner.p.instr)
        → AllowsAll facts_now (acts_of_main inner.p.instr)
    allowed_now = innermost.allowed_now table typed effects input ready inner

    abbrev Plain : Type 0
    Plain = AreOwnless s (temporaries_of s (take (taken inner.p.instr) inner.p.scope))

    abbrev named_there : Has (flow_named table typed) inner.named
    named_there = innermost.named_there table typed effects input ready inner

    abbrev point_there_now : Has inner.named.points inner.p
    point_there_now = innermost.point_there_now table typed effects input ready inner

    abbrev successors_there : length main_turn.point.next ≡ successors inner.p.instr
    successors_there = innermost.successors_there table typed effects input ready inner

    abbrev easy : Turn
    easy = eased main_turn

    abbrev viewed_easy : Plain → Viewed (home s depth) sees other inner.views (view_here s easy.state) facts_now × Kept s inner.state.memory (waiting_in easy.state)
    viewed_easy = innermost.ownless_easy table typed effects input ready inner

    module _ (n : ℕ) (actuals : TypedTree) (result : Option ℕ) (e : inner.p.instr ≡ Call n actuals result) where
      pub called : IsCalled table typed n actuals result
      called =
          ready.called (flow_sub own inner.named) (standing.in_program table typed effects input ready inner.state inner.top older outer inner.named inner.p inner.frames inner.of_sub inner.at_point) main_turn.point
          (standing.in_sub table typed effects input ready inner.state inner.top older outer inner.named inner.p inner.frames inner.of_sub inner.at_point) n actuals result e

      abbrev pub formals : List ℕ
      formals = (sub_of program n).formals

      pub kinds : (x : ℕ) → Has formals x → IsKindOfFormal s x
      kinds x has = ready.class.formals x (called.formals x has)

      -- a traversal function is called, or another subprogram
      abbrev pub Traverses : Type 0
      Traverses = (f : ℕ) × (traversed_formal s (sub_of program n) ≡ Some f)

      pub traverses_or : (traverses s.table (sub_of program n).result ≡ false) ⊎ Traverses
      traverses_or = elim (bool_cases (traverses s.table (sub_of program n).result)) [
        | inl gives ↦ inr (ready.traversing.formal n (called.runs).entered gives)
        | inr none ↦ inl none
      ]

      -- another one has no formal of an anonymous access type
      pub unseen_plain : traverses s.table (sub_of program n).result ≡ false → AreUnseen s formals
      unseen_plain none x has = by_kind (is_anonymous (view_of s x)) refl
        where
          by_kind : (b : Bool) → is_anonymous (view_of s x) ≡ b → b ≡ false
          by_kind false is = refl
          by_kind true is =
              let never : None ≡ Some x = sym (ap (λ b. traversed_of b (sub_of program n).formals) none) ∙ ready.traversing.firsts n (called.runs).entered x has is in absurd (false≢true (ap is_some never))

      -- what a call takes owns nothing
      pub plain_there : TakesPassed s actuals (temporaries_of s (take (taken inner.p.instr) inner.p.scope))
      plain_there = innermost.taken_call table typed effects input ready inner n actuals result e

      abbrev pub procedure : Bool
      procedure = not (is_some (sub_of program n).result)

      abbrev pub ways_there : List Passing
      ways_there = passings s (sub_at s n)

      -- the acts: actuals are read, or their indexes are; then come those of what is copied back, and
      -- those on package objects
      abbrev pub values : List Placed
      values = flow.actual_values s ways_there actuals

      abbrev true_copies : List Placed
      true_copies = flow.actual_acts ways_there actuals

      -- as if the first actual had one in the call of a traversal function, too
      abbrev pub copies : List Placed
      copies = flow.actual_acts (map (passing s procedure) formals) actuals

      values_are : standing.acts_by table typed effects input ready inner.state inner.top older outer inner.named inner.p inner.frames inner.of_sub inner.at_point s inner.p.instr ≡ values ++ true_copies
      values_are = ap (standing.acts_by table typed effects input ready inner.state inner.top older outer inner.named inner.p inner.frames inner.of_sub inner.at_point s) e

      -- the point that it leads to
      pub call_point : (k : ℕ) × (successor main_turn 0 ≡ Some k) × Has main_turn.point.next k
      call_point = successor_there main_turn 0 (subst (λ z. 0 < z) (sym (successors_there ∙ ap successors e)) below_one)

      next_at : (q : NamedPoint) × IsAtPoint inner.named.points call_point.0 q × Leads s (scope_behind inner.p) q.scope
      next_at = standing.next_at table typed effects input ready inner.state inner.top older outer inner.named inner.p inner.frames inner.of_sub inner.at_point inner.path call_point.0 call_point.2

      -- What both have in common.
      record IsActing : Type 0 where
        pub reads : AreReads values
        pub spare : Spare s true_copies
        pub same : (facts : List Fact) → after (acts true_copies) facts ≡ after (acts copies) facts
        pub own : AllowsAll own_facts (acts true_copies) → AllowsAll own_facts (acts copies)
        pub now : AllowsAll facts_now (acts true_copies) → AllowsAll facts_now (acts copies)
        pub among : ((x : ℕ) → Has formals x → IsCopiedBack s x → ⊥) ⊎ (copies ≡ true_copies)

      plain_acts : traverses s.table (sub_of program n).result ≡ false → IsActing
      plain_acts none =
          let ways_are : ways_there ≡ map (passing s procedure) formals = passes_to program n none in
          let copies_are : true_copies ≡ copies = ap (λ z. flow.actual_acts z actuals) ways_are in record {
            reads = subst (λ z. AreReads (flow.actual_values s z actuals)) (sym ways_are)
                (values_are_read s ready.owns procedure ready.class.parts_named formals actuals (unseen_plain none) called.actuals_stay);
            spare = subst (Spare s) (sym copies_are) (spare_copies s ready.owns procedure formals actuals);
            same = λ facts. ap (λ z. after (acts z) facts) copies_are;
            own = subst (λ z. AllowsAll own_facts (acts z)) copies_are;
            now = subst (λ z. AllowsAll facts_now (acts z)) copies_are;
            among = inr (sym copies_are);
          }

      -- what overlaps an object of the frame itself isn't handed on, nor what is borrowed of a package object that it uses, nor
      -- what is lent of one that it writes
      handed_root : (l : Loan) (h : ℕ) (m : PlaceName) → Has handed_on (Lent l h m) → (u : Way) → overlaps m (ways.name_of u) ≡ true
          → (is_package_object s (ways.number_of u) ≡ true → Disturbs effects l inner.top.frame.sub (ways.number_of u)) → ⊥
      handed_root l h m there u over disturbs =
          let lent = lent_handed table typed effects unmoved_stage local inner.state depth older between l h m there in
          let root : m.root ≡ ways.number_of u = same_root m (ways.name_of u) over in
          innermost.spared_here table typed effects input ready inner l m lent.1
          (subst (Disturbs effects l inner.top.frame.sub) (sym root) (disturbs (ap (is_package_object s) (sym root) ∙ (lent.1).5)))

      clear_now : (u : Way) → (is_package_object s (ways.number_of u) ≡ true → Uses effects inner.top.frame.sub (ways.number_of u)) → Cleared own_facts u → Cleared facts_now u
      clear_now u uses clear = (
        λ h m has over. elim (Has-append_cases own_facts handed_on (Lent Borrowed h m) has) [
          | inl mine ↦ clear.0 h m mine over
          | inr there ↦ handed_root Borrowed h m there u over uses
        ],
        λ m has over. elim (Has-append_cases own_facts handed_on (Moved m) has) [
          | inl mine ↦ clear.1 m mine over
          | inr there ↦ innermost.not_handed table typed effects input ready inner m there
        ],
      )

      joined : (facts : List Fact) (a b : List Act) → AllowsAll facts a → AllowsAll (after a facts) b → AllowsAll facts (a ++ b)
      joined facts [] b one two = two
      joined facts (c ∷ a) b one two = (one.0, joined (effect c facts) a b one.1 two)

      -- ---- the call of a traversal function

      module _ (f : ℕ) (traversed : traversed_formal s (sub_of program n) ≡ Some f) where
        abbrev pub made : IsTraversalCall s inner.named (flow_at own inner.named inner.p).next n actuals
        made = followed.made table typed effects input ready inner.state inner.top older outer inner.named inner.p inner.frames inner.of_sub inner.at_point inner.path n actuals result e f traversed

        abbrev pub traversing : IsTraversing program n f
        traversing = followed.ways_are table typed effects input ready inner.state inner.top older outer inner.named inner.p inner.frames inner.of_sub inner.at_point inner.path n actuals result e f traversed

        abbrev pub first : TypedTree
        first = first_actual s sees ready.owns made.call

        abbrev others : List Placed
        others = flow.actual_acts (map (passing s false) traversing.rest) (made.call).others

        abbrev pub unseen_others : AreUnseen s traversing.rest
        unseen_others = followed.unseen table typed effects input ready inner.state inner.top older outer inner.named inner.p inner.frames inner.of_sub inner.at_point inner.path n actuals result e f traversed

        abbrev pub seen_first : IsSeen s f first
        seen_first = followed.seen_first table typed effects input ready inner.state inner.top older outer inner.named inner.p inner.frames inner.of_sub inner.at_point inner.path n actuals result e f traversed

        abbrev pub others_stay : AreActualsTo s traversing.rest (made.call).others
        others_stay = followed.others_stay table typed effects input ready inner.state inner.top older outer inner.named inner.p inner.frames inner.of_sub inner.at_point inner.path n actuals result e f traversed

        pub no_procedure : procedure ≡ false
        no_procedure = ap (λ r. not (is_some r)) traversing.result

        abbrev first_acts : List Placed
        first_acts = flow.actual_act (passing s false f) first

        true_are : true_copies ≡ others
        true_are = λ j. flow.actual_acts (traversing.ways j) (made.actuals_are j)

        copies_are : copies ≡ first_acts ++ others
        copies_are = λ j. flow.actual_acts (map (passing s (no_procedure j)) (traversing.formals j)) (made.actuals_are j)

        root_there : (u : Way) → ways.name_of u ≡ traversed_name made.call → (made.call).root ≡ ways.number_of u
        root_there u called_so = ap (λ (m : PlaceName). m.root) (sym called_so)

        -- the frame uses a package object that the first actual is rooted in
        pub uses_first : is_package_object s (made.call).root ≡ true → Uses effects inner.top.frame.sub (made.call).root
        uses_first shared =
            let found = followed.names_root table typed effects input ready inner.state inner.top older outer inner.named inner.p inner.frames inner.of_sub inner.at_point inner.path n actuals result e f traversed
            call_point.0 call_point.2 next_at.0 next_at.1 (innermost.borrower_local table typed effects input ready inner) shared in
            innermost.act_uses table typed effects input ready inner
            (made.call).root shared (flow_at own inner.named next_at.0) found.0 (found.1).0 (found.1).1 (found.1).2

        pub clear_own : (u : Way) → ways.name_of u ≡ traversed_name made.call → Cleared own_facts u
        clear_own u called_so =
            followed.clear_at_call table typed effects input ready inner.state inner.top older outer inner.named inner.p inner.frames inner.of_sub inner.at_point inner.path n actuals result e f traversed
            call_point.0 call_point.2 next_at.0 next_at.1 u called_so

        pub clear_first : (u : Way) → ways.name_of u ≡ traversed_name made.call → Cleared facts_now u
        clear_first u called_so =
            clear_now u (λ shared. subst (Uses effects inner.top.frame.sub) (root_there u called_so) (uses_first (ap (is_package_object s) (root_there u called_so) ∙ shared)))
            (clear_own u called_so)

        abbrev pub first_mode : (object_at s f).mode ≡ mode.In
        first_mode = followed.first_mode table typed effects input ready inner.state inner.top older outer inner.named inner.p inner.frames inner.of_sub inner.at_point inner.path n actuals result e f traversed

        with_first : (facts : List Fact) → ((u : Way) → ways.name_of u ≡ traversed_name made.call → Cleared facts u)
            → AllowsAll facts (acts true_copies) → AllowsAll facts (acts copies)
        with_first facts clear allowed =
            subst (λ z. AllowsAll facts (acts z)) (sym copies_are)
            (subst (AllowsAll facts) (sym (acts_append first_acts others))
            (joined facts (acts first_acts) (acts others) (first_allowed s sees made.call facts f first_mode clear)
            (subst (λ z. AllowsAll z (acts others)) (sym (first_keeps s sees made.call facts f first_mode)) (subst (λ z. AllowsAll facts (acts z)) true_are allowed))))

        traversal_acts : IsActing
        traversal_acts = record {
          reads = subst AreReads (λ j. flow.actual_values s (sym traversing.ways j) (sym made.actuals_are j)) (first_reads s sees ready.owns ready.class.parts_named traversing.rest made.call seen_first.0 unseen_others others_stay);
          spare = subst (Spare s) (sym true_are) (spare_copies s ready.owns false traversing.rest (made.call).others);
          same = λ facts. ap (λ z. after (acts z) facts) true_are ∙ ap (after (acts others)) (sym (first_keeps s sees made.call facts f first_mode))
              ∙ sym (after_append (acts first_acts) (acts others) facts) ∙ ap (λ z. after z facts) (sym (acts_append first_acts others)) ∙ ap (λ z. after (acts z) facts) (sym copies_are);
          own = with_first own_facts clear_own;
          now = with_first facts_now clear_first;
          among = inl (λ x has back. back (followed.modes_there table typed effects input ready inner.state inner.top older outer inner.named inner.p inner.frames inner.of_sub inner.at_point inner.path n actuals result e f traversed x
              (subst (λ z. Has z x) traversing.formals has)));
        }

      -- ---- both

      acting : IsActing
      acting = by_either traverses_or (λ none. (plain_acts none)) (λ (f, traversed). (traversal_acts f traversed))

      pub reads_there : AreReads values
      reads_there = acting.reads

      call_acts : standing.whole_acts table typed effects input ready inner.state inner.top older outer inner.named inner.p inner.frames inner.of_sub inner.at_point inner.p.instr ≡ acts (values ++ true_copies) ++ globals_of program effects n
      call_acts =
          ap (λ z. acts (z ++ called_acts program effects inner.p.pos inner.p.instr)) values_are
          ∙ acts_append (values ++ true_copies) (called_acts program effects inner.p.pos inner.p.instr)
          ∙ ap (λ i. acts (values ++ true_copies) ++ acts (called_acts program effects inner.p.pos i)) e
          ∙ ap (λ z. acts (values ++ true_copies) ++ z) (called_are program effects ready.accepted.effects_are inner.p.pos n actuals result)

      abbrev pub facts_called : List Fact
      facts_called = after (acts (values ++ copies)) own_facts

      both_leave : (placed : List Placed) → after (acts (values ++ placed)) own_facts ≡ after (acts placed) own_facts
      both_leave placed =
          ap (λ z. after z own_facts) (acts_append values placed) ∙ after_append (acts values) (acts placed) own_facts
          ∙ ap (after (acts placed)) (reads_keep values reads_there own_facts)

      -- the values are read alone
      pub copies_leave : facts_called ≡ after (acts copies) own_facts
      copies_leave = both_leave copies

      true_leave : after (acts (values ++ true_copies)) own_facts ≡ facts_called
      true_leave = both_leave true_copies ∙ acting.same own_facts ∙ sym copies_leave

      pub call_effect : after (standing.whole_acts table typed effects input ready inner.state inner.top older outer inner.named inner.p inner.frames inner.of_sub inner.at_point inner.p.instr) own_facts ≡ after (globals_of program effects n) facts_called
      call_effect = ap (λ z. after z own_facts) call_acts ∙ after_append (acts (values ++ true_copies)) (globals_of program effects n) own_facts
          ∙ ap (after (globals_of program effects n)) true_leave

      each_allowed : AllowsAll own_facts (acts (values ++ true_copies)) × AllowsAll (after (acts (values ++ true_copies)) own_facts) (globals_of program effects n)
      each_allowed =
          allows_both own_facts (acts (values ++ true_copies)) (globals_of program effects n)
          (subst (AllowsAll own_facts) call_acts (standing.allowed_whole table typed effects input ready inner.state inner.top older outer inner.named inner.p inner.frames inner.of_sub inner.at_point inner.path))

      pub globals_allowed : AllowsAll facts_called (globals_of program effects n)
      globals_allowed = subst (λ z. AllowsAll z (globals_of program effects n)) true_leave each_allowed.1

      pub copies_own : AllowsAll own_facts (acts copies)
      copies_own =
          acting.own (subst (λ z. AllowsAll z (acts true_copies)) (reads_keep values reads_there own_facts)
          (allows_both own_facts (acts values) (acts true_copies) (subst (AllowsAll own_facts) (acts_append values true_copies) each_allowed.0)).1)

      pub spare_call : Spare s (values ++ copies)
      spare_call = spare_both s values copies (spare_reads s values reads_there) (spare_copies s ready.owns procedure formals actuals)

      true_spare : Spare s (values ++ true_copies)
      true_spare = spare_both s values true_copies (spare_reads s values reads_there) acting.spare

      both_allowed : AllowsAll facts_now (acts values) × AllowsAll (after (acts values) facts_now) (acts true_copies)
      both_allowed =
          allows_both facts_now (acts values) (acts true_copies) (subst (AllowsAll facts_now) (acts_append values true_copies)
          (subst (λ z. AllowsAll facts_now (acts z)) values_are
          (allowed_now (subst (Spare s) (sym values_are) true_spare) (subst (λ z. AllowsAll own_facts (acts z)) (sym values_are) each_allowed.0))))

      pub values_allowed : AllowsAll facts_now (acts values)
      values_allowed = both_allowed.0

      true_allowed : AllowsAll facts_now (acts true_copies)
      true_allowed = subst (λ z. AllowsAll z (acts true_copies)) (reads_keep values reads_there facts_now) both_allowed.1

      pub copies_allowed : AllowsAll facts_now (acts copies)
      copies_allowed = acting.now true_allowed

      -- the acts of what is copied back to are those of the call
      pub back_there : (x : ℕ) → Has formals x → IsCopiedBack s x → (a : Placed) → Has copies a
          → Has (standing.acts_by table typed effects input ready inner.state inner.top older outer inner.named inner.p inner.frames inner.of_sub inner.at_point s inner.p.instr) a
      back_there x has back a there = elim acting.among [
        | inl none ↦ absurd (none x has back)
        | inr same ↦ subst (λ z. Has z a) (sym values_are) (Has-append_right values true_copies a (subst (λ z. Has z a) same there))
      ]

      -- a formal of mode `in` of a named access type is one that owns by its type
      view_formal_in : (x : ℕ) → is_view_formal s x ≡ true → ((object_at s x).mode ≡ mode.In) × (is_owning s.table (object_at s x).of ≡ true)
      view_formal_in x formal = (
        mode_in (object_at s x).mode (second_true (is_formal s x) (is_in (object_at s x).mode) (first_true (is_in_formal s x) (is_owning s.table (object_at s x).of) formal)),
        second_true (is_in_formal s x) (is_owning s.table (object_at s x).of) formal,
      )

      -- a formal that is given, of no anonymous access type, owns by its type
      given_owns : (x : ℕ) → is_anonymous (view_of s x) ≡ false → is_given s x ≡ true → is_view_formal s x ≡ true
      given_owns x unseen given = elim (given_cases s x given) [ inl formal ↦ formal | inr anonymous ↦ absurd (true_false (is_anonymous (view_of s x)) anonymous unseen) ]

      -- What is shown of a package object is shown by an act of the call, or to the first formal of a traversal function.
      pub record IsPlainlyShown (b : alias.Passed) : Type 0 where
        pub formal : is_view_formal s b.formal ≡ true
        pub placed : Placed
        pub there : Has (standing.acts_by table typed effects input ready inner.state inner.top older outer inner.named inner.p inner.frames inner.of_sub inner.at_point s inner.p.instr) placed
        pub is : placed.act ≡ act.Actual b.actual.name mode.In true (procedure && is_named_access (view_of s b.formal))

      pub shown_there : (b : alias.Passed) → Has (alias.passed formals actuals) b → is_given s b.formal ≡ true
          → IsPlainlyShown b ⊎ ((f : ℕ) × (traversed : traversed_formal s (sub_of program n) ≡ Some f) × (b.formal ≡ f) × (b.actual.name ≡ traversed_name (made f traversed).call))
      shown_there b has given = by_either traverses_or
          (λ none. (inl (by_call none (view_formal_in b.formal (given_owns b.formal (unseen_plain none b.formal (named_has formals actuals b has)) given)))))
          (λ (f, traversed). (by_either (Has-append_cases (alias.passed_as f (written (first f traversed))) (alias.passed (traversing f traversed).rest ((made f traversed).call).others) b
          (subst (λ z. Has z b) (λ j. alias.passed ((traversing f traversed).formals j) ((made f traversed).actuals_are j)) has)) (λ here. (let same = by_place f traversed here in inr (f, traversed, same.0, same.1))) (λ later. (inl (by_other f traversed later)))))
        where
          by_place : (f : ℕ) (traversed : traversed_formal s (sub_of program n) ≡ Some f) → Has (alias.passed_as f (written (first f traversed))) b
              → (b.formal ≡ f) × (b.actual.name ≡ traversed_name (made f traversed).call)
          by_place f traversed (inl same) = (ap (λ (z : alias.Passed). z.formal) (sym same), ap (λ (z : alias.Passed). z.actual.name) (sym same))
          by_place f traversed (inr none) = absurd none

          by_call : traverses s.table (sub_of program n).result ≡ false → ((object_at s b.formal).mode ≡ mode.In) × (is_owning s.table (object_at s b.formal).of ≡ true) → IsPlainlyShown b
          by_call none shape =
              let one = shown_act s procedure formals actuals b has shape.0 shape.1 in record {
                formal = given_owns b.formal (unseen_plain none b.formal (named_has formals actuals b has)) given;
                placed = one.0;
                there = subst (λ z. Has z one.0) (sym values_are) (Has-append_right values true_copies one.0
                    (subst (λ z. Has (flow.actual_acts z actuals) one.0) (sym (passes_to program n none)) one.1));
                is = one.2;
              }

          by_other : (f : ℕ) (traversed : traversed_formal s (sub_of program n) ≡ Some f) → Has (alias.passed (traversing f traversed).rest ((made f traversed).call).others) b → IsPlainlyShown b
          by_other f traversed later =
              let formal = given_owns b.formal (unseen_others f traversed b.formal (named_has (traversing f traversed).rest ((made f traversed).call).others b later)) given in
              let shape = view_formal_in b.formal formal in
              let one = shown_act s false (traversing f traversed).rest ((made f traversed).call).others b later shape.0 shape.1 in record {
                formal = formal;
                placed = one.0;
                there = subst (λ z. Has z one.0) (sym values_are) (Has-append_right values true_copies one.0
                    (subst (λ z. Has z one.0) (sym (true_are f traversed)) one.1));
                is = one.2 ∙ ap (λ z. act.Actual b.actual.name mode.In true (z && is_named_access (view_of s b.formal))) (sym (no_procedure f traversed));
              }

      -- the call adds no fact
      pub adds_none : (f : Fact) → Has facts_called f → Has own_facts f
      adds_none f has = elim traverses_or [
        | inr (x, traversed) ↦ subst (λ z. Has z f) (sym called_facts ∙ followed.facts_stay table typed effects input ready inner.state inner.top older outer inner.named inner.p inner.frames inner.of_sub inner.at_point inner.path n actuals result e x traversed) has
        | inl none ↦ elim (added_after program effects ready.accepted.effects_are (acts (values ++ copies)) own_facts f has) [
          | inl was ↦ was
          | inr (a, there, new) ↦ (
              let from = Has-map_from (λ (z : Placed). z.act) (values ++ copies) a there in
              absurd (call_adds_none s ready.owns procedure ready.class.parts_named formals actuals (unseen_plain none) called.actuals_stay from.0
              (subst (λ z. Has (flow.actual_values s z actuals ++ copies) from.0) (passes_to program n none) from.1) f (subst (λ z. Has (adds z) f) (sym from.2) new)))
        ]
      ]
        where
          called_facts : facts_before (standing.points table typed effects input ready inner.state inner.top older outer inner.named inner.p inner.frames inner.of_sub inner.at_point) (inner.top.frame.next ∷ inner.top.before) ≡ facts_called
          called_facts = standing.facts_whole table typed effects input ready inner.state inner.top older outer inner.named inner.p inner.frames inner.of_sub inner.at_point inner.path ∙ call_effect
              ∙ global_after (globals_of program effects n) facts_called (globals_are program effects ready.accepted.effects_are n)

      -- nothing that was moved leads to what is copied back to
      pub copied_there : AreOpenActuals s sees depth facts_now formals actuals
      copied_there = elim modes_there [
        | inr modes ↦ all_in s sees ready.owns depth facts_now procedure formals actuals modes
        | inl none ↦ all_open s sees ready.owns depth facts_now procedure formals actuals facts_now []
            ((ready.orderly.points inner.named named_there inner.p point_there_now).copied n actuals result e)
            none copies_allowed (λ f has. inl has) (λ k never. absurd never)
      ]
        where
          modes_there : ((r : Report) → Has (overlap_reports s (alias.passed formals actuals)) r → ⊥) ⊎ ((x : ℕ) → Has formals x → (object_at s x).mode ≡ mode.In)
          modes_there =
              apart_or program effects (λ x. (object_at s x).mode ≡ mode.In) ready.accepted.no_reports (flow_sub own inner.named)
              (standing.in_program table typed effects input ready inner.state inner.top older outer inner.named inner.p inner.frames inner.of_sub inner.at_point) main_turn.point
              (standing.in_sub table typed effects input ready inner.state inner.top older outer inner.named inner.p inner.frames inner.of_sub inner.at_point) n actuals result e called.answers
              (λ of answers x has. ready.class.modes n of answers x has)

      not_end : (x : ℕ) → inner.p.instr ≡ EndScope x → ⊥
      not_end x is = (let no : Call n actuals result ≡ EndScope x = sym e ∙ is in absurd (false≢true (ap is_end_scope_instruction no)))

      pub holds_now : Holds s sees depth inner.views inner.state.memory
      holds_now = all_held s sees in_formals depth inner.views inner.state.memory (λ x k view bare at. inner.holds.held x k (λ fading. not_end fading.0 fading.1) view bare at) inner.holds.only inner.holds.owners inner.holds.own inner.holds.taken inner.holds.parts

      pub live_now : (w : Way) (l : ways.Loc) → IsOwners s w → ways.Reaches (seen s inner.state.memory (waiting_in easy.state) inner.state.leaks) w l
          → (content s inner.state.memory (waiting_in easy.state) (trunk l)).owns ≡ true
      live_now =
          live_trunk (steps.here main_turn) sees seeing ready.accepted.settled inner.state.leaks [] other alone (keeps s ready.accepted.settled ready.owns) index_law
          ready.owns inner.views ready.class.parts_named inner.state.memory (waiting_in easy.state) ((viewed_easy plain_there.0).0).owned

      -- views of the frame see what it has names for, or what belongs to frames below; and so do parts of its formals
      pub formals_low : AreLowFormals s depth inner.views
      formals_low = (
        λ x w has. elim (inner.holds.lies x w has) [
          | inl is_named ↦ inl is_named
          | inr far ↦ inr (far.0, (let less = far.1 in omega (arith, less)), far.2)
        ],
        inner.holds.low,
      )

      there_formals : (x : ℕ) → Has formals x → Has (sub_at s n).formals x
      there_formals x has = subst (λ z. Has z x) (sym (ap (λ (z : Signature). z.formals) (signature_is program n))) has

      copies_keep : copies ≡ true_copies → AllKeep (is_fixed s sees) (acts copies)
      copies_keep same =
          subst (λ z. AllKeep (is_fixed s sees) (acts z)) (sym same)
          (keep_both (is_fixed s sees) (acts values) (acts true_copies) (subst (AllKeep (is_fixed s sees)) (acts_append values true_copies)
          (subst (λ z. AllKeep (is_fixed s sees) (acts z)) values_are
          (standing.keeps_there table typed effects input ready inner.state inner.top older outer inner.named inner.p inner.frames inner.of_sub inner.at_point)))).1

      -- what formals of a procedure that own nothing are lent
      pub lent_there : (sub_of program n).result ≡ None → AreLent s sees facts_now formals actuals
      lent_there is =
          are_lent s sees facts_now formals actuals called.differ
          (apart_there program effects ready.accepted.no_reports (flow_sub own inner.named)
          (standing.in_program table typed effects input ready inner.state inner.top older outer inner.named inner.p inner.frames inner.of_sub inner.at_point) main_turn.point
          (standing.in_sub table typed effects input ready inner.state inner.top older outer inner.named inner.p inner.frames inner.of_sub inner.at_point) n actuals result e called.answers is)
          (subst (λ b. AllowsAll facts_now (acts (flow.actual_acts (map (passing s b) formals) actuals))) of_procedure copies_allowed)
          (subst (λ b. AllKeep (is_fixed s sees) (acts (flow.actual_acts (map (passing s b) formals) actuals))) of_procedure (copies_keep (ap (λ z. flow.actual_acts z actuals) (sym (passes_to program n no_traversal)))))
          (λ y has given bare. (let formal = given_owns y (unseen_plain no_traversal y has) given in record {
            of_in = mode_in (object_at s y).mode (second_true (is_formal s y) (is_in (object_at s y).mode) (first_true (is_in_formal s y) (is_owning s.table (object_at s y).of) formal));
            owning = second_true (is_in_formal s y) (is_owning s.table (object_at s y).of) formal;
            access = ready.class.procedures n (ap (λ (z : Signature). z.result) (signature_is program n) ∙ is) y (there_formals y has) (called.formals y has) formal ((in_formals y formal).0 bare);
          }))
          (many_bundle s sees in_formals)
        where
          no_traversal : traverses s.table (sub_of program n).result ≡ false
          no_traversal = ap (traverses s.table) is

          of_procedure : procedure ≡ true
          of_procedure = ap (λ r. not (is_some r)) is

      -- a function has formals of mode `in` alone
      pub by_callee : (((x : ℕ) → Has formals x → (object_at s x).mode ≡ mode.In) × ((x : ℕ) → Has formals x → IsCopiedBack s x → ⊥)
          × ChangesLent s sees facts_now formals actuals)
          ⊎ AreLent s sees facts_now formals actuals
      by_callee = by_result (sub_of program n).result refl
        where
          AllSee : Type 0
          AllSee = ((x : ℕ) → Has formals x → (object_at s x).mode ≡ mode.In) × ((x : ℕ) → Has formals x → IsCopiedBack s x → ⊥)
              × ChangesLent s sees facts_now formals actuals

          by_result : (r : Option ℕ) → (sub_of program n).result ≡ r → AllSee ⊎ AreLent s sees facts_now formals actuals
          by_result (Some of) is =
              inl (
                modes,
                (λ x has back. back (modes x has)),
                λ x has given changes. absurd (true_false (sees x)
                    (given_sees s sees seeing x given (ready.class.functions n of answers x (there_formals x has) (called.formals x has) given)) changes),
              )
            where
              answers : (sub_at s n).result ≡ Some of
              answers = ap (λ (z : Signature). z.result) (signature_is program n) ∙ is

              modes : (x : ℕ) → Has formals x → (object_at s x).mode ≡ mode.In
              modes x has = ready.class.modes n of answers x (there_formals x has)
          by_result None is = inr (lent_there is)

      -- nothing of what a procedure is shown is moved or borrowed
      clear_given : (sub_of program n).result ≡ None → AreClear s sees facts_now formals actuals
      clear_given is =
          lent_clears s sees facts_now formals actuals (λ y has given m of f there over. elim (bool_cases (is_bundle s y)) [
            | inr bare ↦ (lent_there is y has given bare m of).clear f there (borrowed_lent s sees m.name f over)
            | inl bundle ↦ shown_clear s sees formals actuals facts_now called.differ
                (subst (λ b. AllowsAll facts_now (acts (flow.actual_acts (map (passing s b) formals) actuals))) of_procedure copies_allowed)
                (apart_there program effects ready.accepted.no_reports (flow_sub own inner.named)
                (standing.in_program table typed effects input ready inner.state inner.top older outer inner.named inner.p inner.frames inner.of_sub inner.at_point) main_turn.point
                (standing.in_sub table typed effects input ready inner.state inner.top older outer inner.named inner.p inner.frames inner.of_sub inner.at_point) n actuals result e called.answers is)
                y m of (bundle_passing s y bundle true) (many_bundle s sees in_formals y bundle) f there over
          ])
        where
          of_procedure : procedure ≡ true
          of_procedure = ap (λ r. not (is_some r)) is

      clear_plain : traverses s.table (sub_of program n).result ≡ false → AreClear s sees facts_now formals actuals
      clear_plain none = by_result (sub_of program n).result refl
        where
          by_result : (r : Option ℕ) → (sub_of program n).result ≡ r → AreClear s sees facts_now formals actuals
          by_result None is = clear_given is
          by_result (Some of) is =
              all_clear s sees procedure formals actuals facts_now (unseen_plain none)
              (λ x has. ready.class.modes n of (ap (λ (z : Signature). z.result) (signature_is program n) ∙ is) x (there_formals x has)) copies_allowed

      pub clear_there : AreClear s sees facts_now formals actuals
      clear_there = by_either traverses_or
          (λ none. (clear_plain none))
          (λ (f, traversed). (subst (AreClear s sees facts_now formals) (sym (made f traversed).actuals_are)
          (subst (λ z. AreClear s sees facts_now z (More (first f traversed) ((made f traversed).call).others)) (sym (traversing f traversed).formals) (
            (λ given u called_so plain. clear_first f traversed u called_so),
            all_clear s sees false (traversing f traversed).rest ((made f traversed).call).others facts_now (unseen_others f traversed)
                (followed.modes table typed effects input ready inner.state inner.top older outer inner.named inner.p inner.frames inner.of_sub inner.at_point inner.path n actuals result e f traversed)
                (subst (λ z. AllowsAll facts_now (acts z)) (true_are f traversed) true_allowed),
          ))))
