-- A value is made of what is taken, of any types: an object is declared with it, or it is assigned or returned.
use Rattle.machine.specs.flow_paths.Views.{sub_acts}
use Rattle.machine.specs.place_names.Facts.{effect}
use Rattle.soundness.proofs.Fading.{FadesTo}
use Rattle.soundness.proofs.ViewedSoundness.Stored.{Assigns, then_placed}
use Rattle.viewed_steps.specs.Traversals.{IsSourceIn}
use Rattle.machine.specs.Calls.{checks_at}
use Rattle.machine.specs.spark_base.declared.position.Pos.{Pos}
use Rattle.soundness.proofs.ViewedSoundness.ViewKinds.{plain_named, true_false}
use Rattle.std.proofs.Common.{◌≡◌, refl, sym, ap, ◌∙◌, subst, ◌⊎◌, inl, inr, ℕ, suc, ◌<◌, true, false, List, [], ◌∷◌, ◌++◌, drop, length, if◌then◌else◌, take, map}
use Rattle.machine.specs.spark_base.Lists.{Has}
use Rattle.machine.specs.place_names.declared.act.Act.{Act}
use Rattle.machine.specs.place_names.declared.act.Act.TheVariants as act
use Rattle.machine.specs.place_names.declared.fact.Fact.{Fact}
use Rattle.machine.specs.place_names.declared.fact.Fact.TheVariants.{Moved}
use Rattle.machine.specs.place_names.Names.{Name as PlaceName}
use Rattle.machine.specs.type_definitions.Types.{Table, full}
use Rattle.machine.specs.typed_tree.Trees.{TypedTree, NoMore, More, Name}
use Rattle.machine.specs.typed_tree.Programs.{TypedProgram}
use Rattle.machine.specs.flow_paths.declared.report.Effects.{Effects}
use Rattle.machine.specs.flow_paths.Instructions.{Instruction, EndScope, Finish, Declare, Assign}
use Rattle.machine.specs.flow_paths.Objects.{Typing, is_anonymous, is_package_object, is_observer, view_of, object_at}
use Rattle.machine.specs.flow_paths.Names.{waiting as waits_in, name_of}
use Rattle.machine.specs.flow_paths.Acts as flow
use Rattle.machine.specs.flow_paths.Acts.{acts_in}
use Rattle.machine.specs.flow_paths.Laid.{FlowProgram, typing_of, flow_typing, flow_program, number_in}
use Rattle.machine.specs.flow_paths.Scopes.{taken, scope_behind}
use Rattle.machine.specs.Words as machine
use Rattle.machine.specs.Memory.{declared, stored}
use Rattle.machine.specs.Evaluate.{Evaluated, Done, followed_by, value, place_of, Now, checked, initial}
use Rattle.machine.specs.Evaluate as run
use Rattle.machine.specs.States.{Waiting, Frame, Outcome, sub_of}
use Rattle.machine.specs.Step.{Turn, turn, start}
use Rattle.machine.specs.Step as steps
use Rattle.machine.specs.Owners.{waiting_in}
use Rattle.soundness.specs.OwnedWays.Ways.{Step, OfVariable, OfRoot, Way, Held, after, AllowsAll}
use Rattle.soundness.specs.Seen.{IsNear, content, word_in, home, seen}
use Rattle.soundness.specs.Typed.{Kept}
use Rattle.soundness.specs.TypedLaws.Needed.{IsFine, Source, Leads}
use Rattle.soundness.specs.Sound.{IsNoCall, Stage, facts_of, IsAtPoint, view_of as view_here}
use Rattle.soundness.proofs.Scalars.{acts, acts_append, after_append}
use Rattle.soundness.proofs.Scoped.{Inside}
use Rattle.soundness.proofs.Around.{IsFar}
use Rattle.soundness.proofs.Waits.{waits_of}
use Rattle.soundness.proofs.Waited.{FillsNone}
use Rattle.soundness.proofs.Eased.{eased, goes_same}
use Rattle.soundness.specs.OwnedLoans.Views.{Around, Viewed}
use Rattle.soundness.specs.ViewedSoundness.Holds.{IsNamed, AllKeep, is_view, is_fixed, Seeing}
use Rattle.soundness.proofs.ViewedSoundness.Outcomes.{named_plain, Leads_on, stored_goes, not_views, assigned_acts}
use Rattle.viewed_steps.specs.Awaited.{AreValues, temporaries_of, lasting_of, types_for, TakesTogether}
use Rattle.viewed_steps.proofs.Waited.{Shares, split_list}
use Rattle.viewed_steps.specs.Sound.{ViewStage, GoneElsewhere, IsStoredAt, LeadsAlong}
use Rattle.viewed_steps.specs.Ready.{IsReady, AreOrderly}
use Rattle.viewed_steps.proofs.Lent.{Spare}
use Rattle.viewed_steps.proofs.Placed.{MayBe}
use Rattle.viewed_steps.proofs.Waiting.{StandsBetween, beside_them, handed, apart_elsewhere}
use Rattle.viewed_steps.proofs.Standing as standing
use Rattle.soundness.proofs.Following.{Each}
use Rattle.machine.specs.flow_paths.Scopes.{brought}
use Rattle.soundness.specs.Sound.{returns_value}
use Rattle.soundness.proofs.Successors.{below_one}
use Rattle.viewed_steps.proofs.Beside.{IsOther, others_keep}
use Rattle.soundness.specs.Ready.{IsSupplied, Fills}
use Rattle.soundness.proofs.Onward.{GoesOn, declare_follows, assign_follows}
use Rattle.viewed_steps.proofs.Turned as turned
use Rattle.std.proofs.Common.{append-nil, append_assoc}
use Rattle.soundness.proofs.Scalars.{allows_both}
use Rattle.soundness.specs.ViewedSoundness.Taken.{types_taken, AreScalarTypes, AreOfTypes, AreScalarValues}
use Rattle.soundness.proofs.ViewedSoundness.Fed.{split_values, scalar_values, takes_values, types_count, fed_alone}
use Rattle.soundness.proofs.ViewedSoundness.Hands.{first_words, words_first}
use Rattle.soundness.proofs.Taking.{Takes}
use Rattle.viewed_steps.proofs.Packages as packages
use Rattle.viewed_steps.proofs.Innermost as innermost
use Rattle.std.specs.Prelude.{flat_map, Bool}
use Rattle.std.proofs.lemmas.Bool.{false≢true}
use Rattle.machine.specs.Evaluate.{Raises, Traps}
use Rattle.soundness.proofs.Numbers.{index_law}
use Rattle.soundness.proofs.Lasting.{keeps}
use Rattle.soundness.proofs.ViewedSoundness.Evaluated.{Given, GivenOn, Ready, checked_on, keep_both}
use Rattle.viewed_steps.proofs.Declared.{declared_goes, first_fades}
use Rattle.viewed_steps.proofs.EachInstruction as each
use Rattle.viewed_steps.proofs.Supplied.{of_types}
use Rattle.viewed_steps.proofs.Views.{AreAccess, all_held}
use Rattle.viewed_steps.specs.Seeing.{sees_in}
use Rattle.viewed_steps.proofs.Sees.{sees_seeing}
use Rattle.viewed_steps.proofs.Constructors.{is_declare_instruction}
use Rattle.viewed_steps.proofs.InnerFrame.{InnerFrame}

module _ (table : Table) (typed : TypedProgram) (effects : Effects) (input : List ℕ) (ready : IsReady table typed effects) where
  abbrev sees : ℕ → Bool
  sees = sees_in (flow_program table typed)

  abbrev seeing : Seeing (flow_typing (flow_program table typed)) sees
  seeing = sees_seeing (flow_program table typed)

  abbrev program : FlowProgram
  program = flow_program table typed

  abbrev s : Typing
  s = flow_typing program

  abbrev own : Typing
  own = typing_of table typed

  abbrev in_formals : AreAccess s
  in_formals = standing.in_formals table typed effects input ready

  abbrev local : (x : ℕ) → is_view s x ≡ true → is_package_object s x ≡ false
  local = standing.local table typed effects input ready

  abbrev unmoved_stage : (e : Stage) → e.frame.sub ≡ 0 → (name : PlaceName) → Has (facts_of program effects e) (Moved name) → ⊥
  unmoved_stage = packages.unmoved_stage table typed effects input ready

  module _ (inner : InnerFrame table typed effects) where
    abbrev outer : List Frame
    outer = inner.below.stage.frame ∷ inner.rest

    abbrev older : List ViewStage
    older = inner.below ∷ inner.more_frames

    abbrev depth : ℕ
    depth = suc (length inner.rest)

    abbrev between : (g : ViewStage) → Has (inner.below ∷ inner.more_frames) g → StandsBetween table typed effects unmoved_stage local inner.state (suc (length inner.rest)) (inner.below ∷ inner.more_frames) g
    between = innermost.between table typed effects input ready inner

    abbrev other : Around (home s (suc (length inner.rest)))
    other = beside_them table typed effects unmoved_stage local inner.state (suc (length inner.rest)) (inner.below ∷ inner.more_frames) between

    abbrev alone : (w : Way) → IsNear (suc (length inner.rest)) w → IsFar (suc (length inner.rest)) (GoneElsewhere program effects (inner.below ∷ inner.more_frames)) w → ⊥
    alone = innermost.alone table typed effects input ready inner

    abbrev main_turn : Turn
    main_turn = standing.t table typed effects input ready inner.state inner.top older outer inner.named inner.p inner.frames inner.of_sub inner.at_point

    abbrev own_facts : List Fact
    own_facts = standing.facts table typed effects input ready inner.state inner.top older outer inner.named inner.p inner.frames inner.of_sub inner.at_point inner.path

    abbrev handed_on : List Fact
    handed_on = handed table typed effects unmoved_stage local inner.state (suc (length inner.rest)) (inner.below ∷ inner.more_frames) between

    abbrev facts_now : List Fact
    facts_now = own_facts ++ handed_on

    abbrev acts_of_main : Instruction → List Act
    acts_of_main i = standing.acts_here table typed effects input ready inner.state inner.top older outer inner.named inner.p inner.frames inner.of_sub inner.at_point i

    abbrev allowed_now : Spare s (standing.acts_by table typed effects input ready inner.state inner.top older outer inner.named inner.p inner.frames inner.of_sub inner.at_point s inner.p.instr) → AllowsAll own_facts (acts_of_main inner.p.instr)
        → AllowsAll facts_now (acts_of_main inner.p.instr)
    allowed_now = innermost.allowed_now table typed effects input ready inner

    abbrev viewed : Viewed (home s depth) sees other inner.views (view_here s inner.state) facts_now
    viewed = innermost.viewed table typed effects input ready inner

    abbrev left_scope : List ℕ
    left_scope = drop (taken inner.p.instr) inner.p.scope

    abbrev given_words : List (List machine.Word)
    given_words = (start main_turn).waits

    abbrev easy : Turn
    easy = eased main_turn

    abbrev Left : List Waiting → Type 0
    Left waits = AreValues s waits (scope_behind inner.p)

    abbrev left_after : FillsNone s inner.p.instr → Left (steps.waiting main_turn)
    left_after = innermost.left_after table typed effects input ready inner

    abbrev IsOld : ℕ → ℕ → Type 0
    IsOld f x =
        (f < suc (length inner.rest)) × ((f ≡ 0)
        ⊎ ((q : List Step) × (k : ℕ) × (word_in s.table (content s inner.state.memory [] (OfRoot (OfVariable f x))) q ≡ Held k)))

    abbrev inside_left : Inside s IsOld inner.state.memory depth (lasting_of s left_scope)
    inside_left = innermost.inside_left table typed effects input ready inner

    abbrev supplied_here : IsSupplied s inner.p
    supplied_here = innermost.supplied_here table typed effects input ready inner

    abbrev shared : Shares s (taken inner.p.instr) inner.top.frame.waits inner.p.scope
    shared = innermost.shared table typed effects input ready inner

    -- where it leads, and how the frames come from those before
    abbrev Along : Outcome → Type 0
    Along outcome = LeadsAlong table typed effects inner.p.instr inner.state.memory (record { stage = inner.top; views = inner.views; cells = [] }) (inner.below ∷ inner.more_frames) outcome

    abbrev may : ℕ → ℕ → Type 0
    may x y = MayBe program (scope_behind inner.p) x y × IsStoredAt inner.p.instr x × IsSourceIn (sub_acts (sub_of program inner.top.frame.sub)) x y

    abbrev LeadsFrom : Instruction → Outcome → Type 0
    LeadsFrom i outcome = Leads_on easy sees seeing ready.accepted.settled ready.owns other alone inner.views ready.class.parts_named may refl refl (after (acts_of_main i) facts_now) outcome

    abbrev orderly : AreOrderly program inner.p (λ q. (n : ℕ) × Has (map (number_in inner.named.points) inner.p.next) n × IsAtPoint inner.named.points n q)
    orderly = innermost.orderly table typed effects input ready inner

    -- ---- the value

    module _ (going : (y : ℕ) → inner.p.instr ≡ EndScope y → ⊥) (taken_within : TakesTogether s inner.named.sub.result inner.p) where
      abbrev pub tree : TypedTree
      tree = taken_within.0

      -- what is taken waits above what waits on
      abbrev pub front : List Waiting
      front = take (taken inner.p.instr) inner.top.frame.waits

      pub values_fit : (i : Instruction) → inner.p.instr ≡ i → AreOfTypes s (types_for s i) front
      values_fit i is =
          subst (λ z. AreOfTypes s (types_for s z) front) is
          (of_types s (types_for s inner.p.instr) (temporaries_of s (take (taken inner.p.instr) inner.p.scope)) front taken_within.3 shared.taken)

      waits_split : waiting_in inner.state ≡ front ++ waiting_in easy.state
      waits_split =
          ap (flat_map waits_of) inner.frames ∙ ap (λ z. z ++ flat_map waits_of outer) (sym (split_list (taken inner.p.instr) inner.top.frame.waits))
          ∙ append_assoc front (steps.waiting main_turn) (flat_map waits_of outer)

      words_given : given_words ≡ first_words front []
      words_given = words_first front

      pub ready_value : Ready (steps.here main_turn) sees seeing ready.accepted.settled inner.state.leaks [] other alone (keeps s ready.accepted.settled ready.owns) index_law ready.owns inner.views
          ready.class.parts_named inner.state.memory (front ++ waiting_in easy.state) facts_now
      ready_value = record {
        viewed = subst (λ z. Viewed (home s depth) sees other inner.views (seen s inner.state.memory z inner.state.leaks) facts_now) waits_split viewed;
        kept = subst (Kept s inner.state.memory) waits_split inner.kept;
        holds = all_held s sees in_formals depth inner.views inner.state.memory (λ y n view bare e. inner.holds.held y n (λ fading. going fading.0 fading.1) view bare e) inner.holds.only inner.holds.owners inner.holds.own inner.holds.taken inner.holds.parts;
      }

      -- scalar values may wait above it
      pub source_within : (u : ℕ) → IsNamed s.table u → Source s u tree → (later first : List Waiting) → front ≡ later ++ first → AreScalarValues s later
          → AreOfTypes s (types_taken s tree) first → AllowsAll facts_now (acts (acts_in s tree)) → AllKeep (is_fixed s sees) (acts (acts_in s tree))
          → GivenOn (steps.here main_turn) sees seeing ready.accepted.settled inner.state.leaks [] other alone (keeps s ready.accepted.settled ready.owns) index_law ready.owns inner.views
          ready.class.parts_named (first_words later []) u (waiting_in easy.state) (after (acts (acts_in s tree)) facts_now) (steps.taken_by main_turn u tree (start main_turn))
      source_within u named_type (inl (view, is)) later first split scalar fit allowed keep = absurd (true_false (is_anonymous (full s.table u)) view (named_plain s.table u named_type))
      source_within u named_type (inr gives) later first split scalar fit allowed keep =
          let now : List (List machine.Word) → Now = (λ ws. record { memory = inner.state.memory; waits = ws }) in
          subst (λ b. GivenOn (steps.here main_turn) sees seeing ready.accepted.settled inner.state.leaks [] other alone (keeps s ready.accepted.settled ready.owns) index_law ready.owns inner.views
          ready.class.parts_named (first_words later []) u (waiting_in easy.state) (after (acts (acts_in s tree)) facts_now)
          (if b then run.viewed (steps.here main_turn) tree (start main_turn) else followed_by (value (steps.here main_turn) tree (start main_turn)) (checked (steps.here main_turn) u)))
          (sym (named_plain s.table u named_type))
          (checked_on (steps.here main_turn) sees seeing ready.accepted.settled inner.state.leaks [] other alone (keeps s ready.accepted.settled ready.owns) index_law ready.owns inner.views
          ready.class.parts_named (first_words later []) u u (waiting_in easy.state) (after (acts (acts_in s tree)) facts_now) (value (steps.here main_turn) tree (start main_turn))
          (subst (λ ws. GivenOn (steps.here main_turn) sees seeing ready.accepted.settled inner.state.leaks [] other alone (keeps s ready.accepted.settled ready.owns) index_law ready.owns inner.views
          ready.class.parts_named (first_words later []) u (waiting_in easy.state) (after (acts (acts_in s tree)) facts_now) (value (steps.here main_turn) tree (now ws)))
          (sym (words_given ∙ ap (λ z. first_words z []) split))
          (fed_alone (steps.here main_turn) sees seeing ready.accepted.settled inner.state.leaks [] other alone (keeps s ready.accepted.settled ready.owns) index_law ready.owns inner.views
          ready.class.parts_named tree u gives taken_within.2 later first scalar fit (waiting_in easy.state) [] inner.state.memory facts_now
          (subst (λ z. Ready (steps.here main_turn) sees seeing ready.accepted.settled inner.state.leaks [] other alone (keeps s ready.accepted.settled ready.owns) index_law ready.owns inner.views
          ready.class.parts_named inner.state.memory (z ++ waiting_in easy.state) facts_now) split ready_value) allowed named_type keep)))

      pub alone_within : (u : ℕ) → IsNamed s.table u → Source s u tree → AreOfTypes s (types_taken s tree) front → AllowsAll facts_now (acts (acts_in s tree))
          → AllKeep (is_fixed s sees) (acts (acts_in s tree))
          → Given (steps.here main_turn) sees seeing ready.accepted.settled inner.state.leaks [] other alone (keeps s ready.accepted.settled ready.owns) index_law ready.owns inner.views
          ready.class.parts_named u (waiting_in easy.state) (after (acts (acts_in s tree)) facts_now) (steps.taken_by main_turn u tree (start main_turn))
      alone_within u named_type source fit allowed keep = source_within u named_type source [] front refl tt fit allowed keep

    -- ---- a declaration or an assignment

    module _ (going : (y : ℕ) → inner.p.instr ≡ EndScope y → ⊥) (no_calls : IsNoCall inner.p.instr) (taken_within : TakesTogether s inner.named.sub.result inner.p) where
      abbrev held : TypedTree
      held = taken_within.0

      allowed_there : (inner.p.instr ≡ Finish → ⊥) → AllowsAll facts_now (acts_of_main inner.p.instr)
      allowed_there end =
          allowed_now (each.spares table typed effects input ready inner going no_calls end)
          (standing.allowed table typed effects input ready inner.state inner.top older outer inner.named inner.p inner.frames inner.of_sub inner.at_point inner.path no_calls)

      keeps_there : AllKeep (is_fixed s sees) (acts_of_main inner.p.instr)
      keeps_there = standing.keeps_there table typed effects input ready inner.state inner.top older outer inner.named inner.p inner.frames inner.of_sub inner.at_point

      -- an object that is no view
      module _ (y : ℕ) (is : inner.p.instr ≡ Declare y (More held NoMore)) (owner : is_anonymous (view_of s y) ≡ false) where
        abbrev v : TypedTree
        v = More held NoMore

        pub named_object : IsNamed s.table (object_at s y).of
        named_object = plain_named s.table (object_at s y).of owner

        pub acts_same : acts_of_main (Declare y v) ≡ acts (acts_in s held)
        unfolding acts_in
        acts_same =
            let kinds = not_views s y named_object in
            ap acts (ap (λ b. if b then flow.source_acts s held (act.Borrow y) else
            (if is_observer s y then flow.source_acts s held (flow.observe s y) else acts_in s v)) kinds.0
            ∙ ap (λ b. if b then flow.source_acts s held (flow.observe s y) else acts_in s v) kinds.1)
            ∙ ap acts (append-nil (acts_in s held))

        pub allowed_here : AllowsAll facts_now (acts (acts_in s held))
        allowed_here =
            subst (AllowsAll facts_now) acts_same (subst (λ i. AllowsAll facts_now (acts_of_main i)) is
            (allowed_there (λ finish. (let never : Finish ≡ Declare y v = sym finish ∙ is in absurd (false≢true (ap is_declare_instruction never))))))

        pub keeps_here : AllKeep (is_fixed s sees) (acts (acts_in s held))
        keeps_here = subst (AllKeep (is_fixed s sees)) acts_same (subst (λ i. AllKeep (is_fixed s sees) (acts_of_main i)) is keeps_there)

        pub source_here : Source s (object_at s y).of held
        source_here = (subst (IsFine s inner.named.sub.result) is (standing.fine table typed effects input ready inner.state inner.top older outer inner.named inner.p inner.frames inner.of_sub inner.at_point)).1

        pub facts_same : after (acts (acts_in s held)) facts_now ≡ after (acts_of_main (Declare y v)) facts_now
        facts_same = ap (λ z. after z facts_now) (sym acts_same)

        pub values_here : AreOfTypes s (types_taken s held) (front going taken_within)
        unfolding types_taken
        values_here = values_fit going taken_within (Declare y v) is

        declared_value : (z : Evaluated (List machine.Word))
            → Given (steps.here main_turn) sees seeing ready.accepted.settled inner.state.leaks [] other alone (keeps s ready.accepted.settled ready.owns) index_law ready.owns inner.views
            ready.class.parts_named (object_at s y).of (waiting_in easy.state) (after (acts_of_main (Declare y v)) facts_now) z
            → FadesTo (steps.here main_turn) inner.state.memory z
            → LeadsFrom (Declare y v) (steps.evaluated main_turn z (λ vs m. steps.goes main_turn (declared depth y vs m) 0))
        declared_value (Done ws n) given faint =
            each.goes_too table typed effects input ready inner going no_calls
            (Declare y v) (declared depth y ws n.memory) 0
            (declared_goes easy sees seeing ready.accepted.settled ready.owns other alone in_formals inner.views ready.class.parts_named may refl refl y (after (acts_of_main (Declare y v)) facts_now)
            named_object (orderly.begun y v is) ws n given faint
            (λ q. each.blank table typed effects input ready inner going no_calls y v is q
            (word_in s.table (content s inner.state.memory [] (OfRoot (OfVariable depth y))) q) refl)
            (each.after_it table typed effects input ready inner going no_calls y v is)
            (each.free table typed effects input ready inner going no_calls y v is)
            (apart_elsewhere table typed effects unmoved_stage local inner.state depth older between y))
        declared_value (Raises how n) given faint =
            each.ends_so table typed effects input ready inner going no_calls (Declare y v) how n.memory
        declared_value (Traps how n) never faint = absurd never

        pub declares_within : LeadsFrom (Declare y v) (turn main_turn (Declare y v))
        unfolding initial
        declares_within =
            declared_value (steps.first_value main_turn (object_at s y).of v (start main_turn))
            (subst (λ z. Given (steps.here main_turn) sees seeing ready.accepted.settled inner.state.leaks [] other alone (keeps s ready.accepted.settled ready.owns) index_law ready.owns inner.views
            ready.class.parts_named (object_at s y).of (waiting_in easy.state) z (steps.taken_by main_turn (object_at s y).of held (start main_turn))) facts_same
            (alone_within going taken_within (object_at s y).of named_object source_here values_here allowed_here keeps_here))
            (first_fades easy sees seeing ready.accepted.settled ready.owns other alone in_formals inner.views ready.class.parts_named may refl refl given_words (object_at s y).of v (refl, source_here))

      -- a place that is no view
      module _ (r : Pos) (y : ℕ) (path_there : TypedTree) (u : ℕ) (is : inner.p.instr ≡ Assign (Name r y path_there u) held) (path_scalar : AreScalarTypes s (types_taken s path_there)) (end : inner.p.instr ≡ Finish → ⊥)
          (plain_target : is_anonymous (full s.table u) ≡ false) where
        abbrev target : TypedTree
        target = Name r y path_there u

        text_there : IsFine s inner.named.sub.result (Assign target held)
        text_there = subst (IsFine s inner.named.sub.result) is (standing.fine table typed effects input ready inner.state inner.top older outer inner.named inner.p inner.frames inner.of_sub inner.at_point)

        pub leads_there : Leads s (object_at s y).of path_there u
        leads_there = text_there.1.0

        pub source_there : Source s u held
        source_there = subst (λ z. Source s z held) (sym text_there.1.1) text_there.2

        pub named_target : IsNamed s.table u
        named_target = plain_named s.table u plain_target

        abbrev first_acts : List Act
        first_acts = acts (acts_in s held)

        abbrev last_acts : List Act
        last_acts = acts (acts_in s path_there) ++ act.Write (name_of y path_there) ∷ []

        pub acts_there : acts_of_main (Assign target held) ≡ first_acts ++ last_acts
        acts_there =
            ap acts (assigned_acts s inner.p.pos y u target path_there held named_target leads_there)
            ∙ acts_append (acts_in s held ++ acts_in s path_there) (record { pos = r; act = act.Write (name_of y path_there) } ∷ [])
            ∙ ap (λ z. z ++ (act.Write (name_of y path_there) ∷ [])) (acts_append (acts_in s held) (acts_in s path_there))
            ∙ append_assoc first_acts (acts (acts_in s path_there)) (act.Write (name_of y path_there) ∷ [])

        pub each_allowed : AllowsAll facts_now first_acts × AllowsAll (after first_acts facts_now) last_acts
        each_allowed =
            allows_both facts_now first_acts last_acts (subst (AllowsAll facts_now) acts_there (subst (λ i. AllowsAll facts_now (acts_of_main i)) is (allowed_there end)))

        pub each_kept : AllKeep (is_fixed s sees) first_acts × AllKeep (is_fixed s sees) last_acts
        each_kept =
            keep_both (is_fixed s sees) first_acts last_acts (subst (AllKeep (is_fixed s sees)) acts_there (subst (λ i. AllKeep (is_fixed s sees) (acts_of_main i)) is keeps_there))

        pub plain_root : is_fixed s sees (name_of y path_there) ≡ false
        plain_root = (keep_both (is_fixed s sees) (acts (acts_in s path_there)) (act.Write (name_of y path_there) ∷ []) each_kept.1).1.0

        abbrev facts_then : List Fact
        facts_then = effect (act.Write (name_of y path_there)) (after (acts (acts_in s path_there)) (after first_acts facts_now))

        pub facts_there : facts_then ≡ after (acts_of_main (Assign target held)) facts_now
        facts_there =
            sym (ap (λ z. after z facts_now) acts_there ∙ after_append first_acts last_acts facts_now
            ∙ after_append (acts (acts_in s path_there)) (act.Write (name_of y path_there) ∷ []) (after first_acts facts_now))

        -- what the name takes waits above what the value takes
        pub fronts : (later : List Waiting) × (first : List Waiting) × (front going taken_within ≡ later ++ first) × AreOfTypes s (types_taken s path_there) later
            × AreOfTypes s (types_taken s held) first
        unfolding types_taken
        fronts = split_values s (types_taken s path_there) (types_taken s held) (front going taken_within) (values_fit going taken_within (Assign target held) is)

        pub path_takes : Takes (waits_in path_there) (first_words fronts.0 []) []
        path_takes =
            subst (λ k. Takes k (first_words fronts.0 []) []) (types_count s path_there)
            (takes_values s ready.accepted.settled (types_taken s path_there) fronts.0 fronts.3 path_scalar [])

        stored_value : (z : Evaluated steps.Stored)
            → Assigns (steps.here main_turn) sees seeing ready.accepted.settled inner.state.leaks [] other alone (keeps s ready.accepted.settled ready.owns) index_law ready.owns inner.views
            ready.class.parts_named (waiting_in easy.state) (after (acts_of_main (Assign target held)) facts_now) z
            → LeadsFrom (Assign target held) (steps.evaluated main_turn z (λ (st : steps.Stored) m. steps.leaking_goes (checks_at s (steps.target_pos main_turn target) m st.place)
            (steps.goes main_turn (stored s st.place st.words m) 0)))
        stored_value (Done st n) given =
            subst (λ z. LeadsFrom (Assign target held) (steps.leaking_goes (checks_at s (steps.target_pos main_turn target) n.memory st.place) z))
            (goes_same main_turn (stored s st.place st.words n.memory) 0)
            (stored_goes easy sees seeing ready.accepted.settled ready.owns other alone inner.views ready.class.parts_named may refl refl
            (after (acts_of_main (Assign target held)) facts_now) (steps.target_pos main_turn target) st n given)
        stored_value (Raises how n) given =
            each.ends_so table typed effects input ready inner going no_calls (Assign target held) how n.memory
        stored_value (Traps how n) never = absurd never

        pub assigns_within : LeadsFrom (Assign target held) (turn main_turn (Assign target held))
        unfolding acts_in
        assigns_within =
            stored_value (followed_by (steps.taken_by main_turn u held (start main_turn))
            (λ ws now. followed_by (place_of (steps.here main_turn) target now) (λ k now. Done (record { words = ws; place = k }) now)))
            (subst (λ z. Assigns (steps.here main_turn) sees seeing ready.accepted.settled inner.state.leaks [] other alone (keeps s ready.accepted.settled ready.owns) index_law ready.owns inner.views
            ready.class.parts_named (waiting_in easy.state) z (followed_by (steps.taken_by main_turn u held (start main_turn))
            (λ ws now. followed_by (place_of (steps.here main_turn) target now) (λ k now. Done (record { words = ws; place = k }) now)))) facts_there
            (then_placed (steps.here main_turn) sees seeing ready.accepted.settled inner.state.leaks [] other alone (keeps s ready.accepted.settled ready.owns) index_law ready.owns inner.views
            ready.class.parts_named (first_words fronts.0 []) [] r y u path_there (waiting_in easy.state) (after first_acts facts_now) named_target plain_root leads_there path_takes
            each_allowed.1 (steps.taken_by main_turn u held (start main_turn))
            (source_within going taken_within u named_target source_there fronts.0 fronts.1 fronts.2 (scalar_values s (types_taken s path_there) fronts.0 fronts.3 path_scalar) fronts.4
            each_allowed.0 each_kept.0)))

      -- ---- what follows

      pub goes_within : IsOther inner.p.instr → FillsNone s inner.p.instr → (inner.p.instr ≡ Finish → ⊥) → returns_value inner.p.instr ≡ false → Along (turn main_turn inner.p.instr)
      goes_within other_one fills end none = elim taken_within.1 [
        | inl (y, is, owner) ↦ finish (Declare y (More held NoMore)) is (declares_within y is owner)
            (declare_follows main_turn Left left IsOld (lasting_of s left_scope) (lasting_of s (y ∷ left_scope)) inside_left
            (innermost.one_more table typed effects input ready inner y) y (More held NoMore)
            (innermost.new_one table typed effects input ready inner y
            (subst (λ i. Fills s i left_scope) is supplied_here.1))
            (innermost.with_successors table typed effects input ready inner (Declare y (More held NoMore)) 0 is below_one))
        | inr (inl (r, y, steps, u, is, place, scalar)) ↦ finish (Assign (Name r y steps u) held) is (assigns_within r y steps u is scalar end place)
            (assign_follows main_turn Left left IsOld (lasting_of s left_scope) (lasting_of s left_scope) inside_left (λ x within. within) r y u steps held
            (innermost.stored_there table typed effects input ready inner (Assign (Name r y steps u) held) is y (inl refl))
            (innermost.with_successors table typed effects input ready inner (Assign (Name r y steps u) held) 0 is below_one))
        | inr (inr (is, plain_result)) ↦ absurd (subst IsOther is other_one)
      ]
        where
          left : Left (steps.waiting main_turn)
          left = left_after fills

          finish : (i : Instruction) → inner.p.instr ≡ i → LeadsFrom i (turn main_turn i)
              → Each (GoesOn main_turn Left left IsOld (lasting_of s left_scope) (lasting_of s (brought i left_scope)) inside_left) (turn main_turn i) → Along (turn main_turn inner.p.instr)
          finish i is leads on =
              turned.then_on table typed effects input ready inner going no_calls left
              (each.spares table typed effects input ready inner going no_calls end) end none
              (turn main_turn inner.p.instr) (subst (λ z. LeadsFrom z (turn main_turn z)) (sym is) leads)
              (subst (λ z. Each (GoesOn main_turn Left left IsOld (lasting_of s left_scope) (lasting_of s (brought z left_scope)) inside_left) (turn main_turn z)) (sym is) on)
              (others_keep main_turn inner.named.sub.result inner.p.instr (standing.fine table typed effects input ready inner.state inner.top older outer inner.named inner.p inner.frames inner.of_sub inner.at_point) other_one)
