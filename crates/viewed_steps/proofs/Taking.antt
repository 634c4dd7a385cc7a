-- What a function gave is taken alone where it waits: by an object that owns, by a place, or by a view.
use Rattle.viewed_steps.proofs.Traversed.{declared_source, assigned_source}
use Rattle.machine.specs.flow_paths.Views.{sub_acts}
use Rattle.viewed_steps.specs.Traversals.{GivesView, IsSourceIn}
use Rattle.viewed_steps.proofs.Sources.{leads_or}
use Rattle.soundness.proofs.Following.{Each}
use Rattle.machine.specs.Calls.{checks_at}
use Rattle.machine.specs.spark_base.declared.position.Pos.{Pos}
use Rattle.soundness.proofs.ViewedSoundness.ViewKinds.{true_false}
use Rattle.std.proofs.Common.{◌≡◌, refl, sym, ap, ◌∙◌, subst, ◌⊎◌, inl, inr, ℕ, suc, ◌<◌, Bool, true, false, List, [], ◌∷◌, ◌++◌, drop, length, Some, map}
use Rattle.std.proofs.lemmas.Bool.{false≢true}
use Rattle.machine.specs.spark_base.Lists.{Has}
use Rattle.machine.specs.place_names.declared.act.Act.{Act}
use Rattle.machine.specs.place_names.declared.fact.Fact.{Fact}
use Rattle.machine.specs.place_names.declared.fact.Fact.TheVariants.{Moved}
use Rattle.machine.specs.place_names.Names.{Name as PlaceName}
use Rattle.machine.specs.type_definitions.Types.{Table, full}
use Rattle.machine.specs.typed_tree.Trees.{TypedTree, NoMore, More, Name, Call as CallIn}
use Rattle.machine.specs.typed_tree.Programs.{TypedProgram}
use Rattle.machine.specs.flow_paths.declared.report.Effects.{Effects}
use Rattle.machine.specs.flow_paths.Instructions.{Instruction, EndScope, Finish, Declare, Assign}
use Rattle.machine.specs.flow_paths.Objects.{Typing, is_anonymous, is_package_object, is_observer, view_of, object_at}
use Rattle.machine.specs.flow_paths.Names.{has_call}
use Rattle.machine.specs.flow_paths.Laid.{FlowProgram, typing_of, flow_typing, flow_program, number_in}
use Rattle.machine.specs.flow_paths.Scopes.{taken, brought, scope_behind}
use Rattle.machine.specs.Words as machine
use Rattle.machine.specs.Memory.{declared}
use Rattle.machine.specs.Evaluate.{Done, followed_by, place_of}
use Rattle.machine.specs.States.{Waiting, Frame, Outcome, sub_of}
use Rattle.machine.specs.Step.{Turn, turn, start}
use Rattle.machine.specs.Step as steps
use Rattle.machine.specs.Owners.{waiting_in}
use Rattle.soundness.specs.OwnedWays.Ways.{Step, OfVariable, OfRoot, Way, Held, after, AllowsAll}
use Rattle.soundness.specs.Seen.{IsNear, content, word_in, home, seen}
use Rattle.soundness.specs.Typed.{Kept}
use Rattle.soundness.specs.TypedLaws.Needed.{IsFine}
use Rattle.soundness.specs.Sound.{IsNoCall, Stage, facts_of, returns_value, IsAtPoint, view_of as view_here}
use Rattle.soundness.proofs.Scoped.{Inside}
use Rattle.soundness.proofs.Around.{IsFar}
use Rattle.soundness.proofs.Waited.{FillsNone}
use Rattle.soundness.proofs.Eased.{eased}
use Rattle.soundness.proofs.Successors.{below_one}
use Rattle.soundness.specs.OwnedLoans.Views.{Around, Viewed}
use Rattle.soundness.specs.ViewedSoundness.Holds.{is_view, Seeing}
use Rattle.soundness.proofs.ViewedSoundness.Outcomes.{named_plain, Leads_on}
use Rattle.viewed_steps.specs.Awaited.{AreValues, lasting_of, TakesAlone}
use Rattle.viewed_steps.proofs.Waited.{Shares}
use Rattle.viewed_steps.specs.Sound.{ViewStage, GoneElsewhere, IsStoredAt, LeadsAlong}
use Rattle.viewed_steps.specs.Ready.{IsReady, AreOrderly}
use Rattle.viewed_steps.proofs.Lent.{Spare}
use Rattle.viewed_steps.proofs.Placed.{MayBe}
use Rattle.viewed_steps.proofs.Beside.{IsOther, others_keep}
use Rattle.viewed_steps.proofs.Waiting.{StandsBetween, beside_them, handed}
use Rattle.viewed_steps.proofs.Standing as standing
use Rattle.viewed_steps.proofs.Packages as packages
use Rattle.viewed_steps.proofs.Innermost as innermost
use Rattle.soundness.specs.Ready.{IsSupplied, Fills}
use Rattle.soundness.proofs.Onward.{GoesOn, declare_follows, assign_follows}
use Rattle.viewed_steps.proofs.EachInstruction as each
use Rattle.viewed_steps.proofs.Turned as turned
use Rattle.machine.specs.flow_paths.Instructions.{Hold}
use Rattle.machine.specs.flow_paths.Scopes.{is_within}
use Rattle.machine.specs.type_definitions.Types.{shape_of}
use Rattle.soundness.proofs.Lasting.{less_kept}
use Rattle.soundness.specs.OwnedWays.Ways as ways
use Rattle.soundness.specs.OwnedLoans.Views.{on, expand}
use Rattle.soundness.specs.ViewedSoundness.Holds.{is_given}
use Rattle.soundness.proofs.ViewedSoundness.Outcomes.{IsGood}
use Rattle.soundness.proofs.ViewedSoundness.Lends.{Sees}
use Rattle.soundness.proofs.ViewedSoundness.Coming.{IsComing}
use Rattle.viewed_steps.specs.Awaited.{IsTakenBy}
use Rattle.viewed_steps.specs.Sound.{Lasts}
use Rattle.viewed_steps.specs.Ready.{IsSource, IsNewSource}
use Rattle.viewed_steps.specs.Traversals.{traversed_name}
use Rattle.viewed_steps.proofs.Blank.{without_view, reached_without, view_typed}
use Rattle.viewed_steps.proofs.Sighted.{view_declared, view_assigned}
use Rattle.machine.specs.Memory.{stored as stored_in}
use Rattle.viewed_steps.proofs.Views.{view_ends, anonymous_view}
use Rattle.viewed_steps.proofs.Sources.{own_there}
use Rattle.viewed_steps.proofs.Alone as alone_value
use Rattle.viewed_steps.specs.Traversals.{IsGivenTo, AreGiven, TraversalCall, call_in}
use Rattle.machine.specs.flow_paths.Objects.{is_variable, sub_at}
use Rattle.viewed_steps.proofs.Views.{AreAccess, all_held}
use Rattle.viewed_steps.specs.Seeing.{sees_in}
use Rattle.viewed_steps.proofs.Sees.{sees_seeing}
use Rattle.viewed_steps.proofs.Constructors.{is_assign_instruction, is_declare_instruction, is_hold_instruction}
use Rattle.viewed_steps.proofs.InnerFrame.{InnerFrame}
use Rattle.viewed_steps.proofs.Parted.{more_first, call_subs, call_actuals, name_roots, call_name, hold_same, declare_same, assign_same}
use Rattle.soundness.proofs.Parted.{by_either}

some_is : (a b : ℕ) → Some a ≡ Some b → a ≡ b
some_is a b e = cc

module _ (table : Table) (typed : TypedProgram) (effects : Effects) (input : List ℕ) (ready : IsReady table typed effects) where
  abbrev sees : ℕ → Bool
  sees = sees_in (flow_program table typed)

  abbrev seeing : Seeing (flow_typing (flow_program table typed)) sees
  seeing = sees_seeing (flow_program table typed)

  abbrev program : FlowProgram
  program = flow_program table typed

  abbrev s : Typing
  s = flow_typing program

  abbrev own : Typing
  own = typing_of table typed

  abbrev in_formals : AreAccess s
  in_formals = standing.in_formals table typed effects input ready

  abbrev local : (x : ℕ) → is_view s x ≡ true → is_package_object s x ≡ false
  local = standing.local table typed effects input ready

  abbrev unmoved_stage : (e : Stage) → e.frame.sub ≡ 0 → (name : PlaceName) → Has (facts_of program effects e) (Moved name) → ⊥
  unmoved_stage = packages.unmoved_stage table typed effects input ready

  module _ (inner : InnerFrame table typed effects) where
    abbrev outer : List Frame
    outer = inner.below.stage.frame ∷ inner.rest

    abbrev older : List ViewStage
    older = inner.below ∷ inner.more_frames

    abbrev depth : ℕ
    depth = suc (length inner.rest)

    abbrev between : (g : ViewStage) → Has (inner.below ∷ inner.more_frames) g → StandsBetween table typed effects unmoved_stage local inner.state (suc (length inner.rest)) (inner.below ∷ inner.more_frames) g
    between = innermost.between table typed effects input ready inner

    abbrev other : Around (home s (suc (length inner.rest)))
    other = beside_them table typed effects unmoved_stage local inner.state (suc (length inner.rest)) (inner.below ∷ inner.more_frames) between

    abbrev alone : (w : Way) → IsNear (suc (length inner.rest)) w → IsFar (suc (length inner.rest)) (GoneElsewhere program effects (inner.below ∷ inner.more_frames)) w → ⊥
    alone = innermost.alone table typed effects input ready inner

    abbrev main_turn : Turn
    main_turn = standing.t table typed effects input ready inner.state inner.top older outer inner.named inner.p inner.frames inner.of_sub inner.at_point

    abbrev own_facts : List Fact
    own_facts = standing.facts table typed effects input ready inner.state inner.top older outer inner.named inner.p inner.frames inner.of_sub inner.at_point inner.path

    abbrev handed_on : List Fact
    handed_on = handed table typed effects unmoved_stage local inner.state (suc (length inner.rest)) (inner.below ∷ inner.more_frames) between

    abbrev facts_now : List Fact
    facts_now = own_facts ++ handed_on

    abbrev acts_of_main : Instruction → List Act
    acts_of_main i = standing.acts_here table typed effects input ready inner.state inner.top older outer inner.named inner.p inner.frames inner.of_sub inner.at_point i

    abbrev allowed_now : Spare s (standing.acts_by table typed effects input ready inner.state inner.top older outer inner.named inner.p inner.frames inner.of_sub inner.at_point s inner.p.instr) → AllowsAll own_facts (acts_of_main inner.p.instr)
        → AllowsAll facts_now (acts_of_main inner.p.instr)
    allowed_now = innermost.allowed_now table typed effects input ready inner

    abbrev viewed : Viewed (home s depth) sees other inner.views (view_here s inner.state) facts_now
    viewed = innermost.viewed table typed effects input ready inner

    abbrev left_scope : List ℕ
    left_scope = drop (taken inner.p.instr) inner.p.scope

    abbrev given_words : List (List machine.Word)
    given_words = (start main_turn).waits

    abbrev easy : Turn
    easy = eased main_turn

    abbrev Left : List Waiting → Type 0
    Left waits = AreValues s waits (scope_behind inner.p)

    abbrev left_after : FillsNone s inner.p.instr → Left (steps.waiting main_turn)
    left_after = innermost.left_after table typed effects input ready inner

    abbrev IsOld : ℕ → ℕ → Type 0
    IsOld f x =
        (f < suc (length inner.rest)) × ((f ≡ 0)
        ⊎ ((q : List Step) × (k : ℕ) × (word_in s.table (content s inner.state.memory [] (OfRoot (OfVariable f x))) q ≡ Held k)))

    abbrev inside_left : Inside s IsOld inner.state.memory depth (lasting_of s left_scope)
    inside_left = innermost.inside_left table typed effects input ready inner

    abbrev supplied_here : IsSupplied s inner.p
    supplied_here = innermost.supplied_here table typed effects input ready inner

    abbrev shared : Shares s (taken inner.p.instr) inner.top.frame.waits inner.p.scope
    shared = innermost.shared table typed effects input ready inner

    -- where it leads, and how the frames come from those before
    abbrev Along : Outcome → Type 0
    Along outcome = LeadsAlong table typed effects inner.p.instr inner.state.memory (record { stage = inner.top; views = inner.views; cells = [] }) (inner.below ∷ inner.more_frames) outcome

    abbrev may : ℕ → ℕ → Type 0
    may x y = MayBe program (scope_behind inner.p) x y × IsStoredAt inner.p.instr x × IsSourceIn (sub_acts (sub_of program inner.top.frame.sub)) x y

    abbrev LeadsFrom : Instruction → Outcome → Type 0
    LeadsFrom i outcome = Leads_on easy sees seeing ready.accepted.settled ready.owns other alone inner.views ready.class.parts_named may refl refl (after (acts_of_main i) facts_now) outcome

    abbrev orderly : AreOrderly program inner.p (λ q. (n : ℕ) × Has (map (number_in inner.named.points) inner.p.next) n × IsAtPoint inner.named.points n q)
    orderly = innermost.orderly table typed effects input ready inner

    -- ---- what is taken

    module _ (going : (y : ℕ) → inner.p.instr ≡ EndScope y → ⊥) (no_calls : IsNoCall inner.p.instr) (alone_taken : TakesAlone s inner.p)
        (given : AreGiven s (view_here s inner.state) depth inner.p.instr inner.views inner.top.frame.waits) where
      abbrev held_call : TypedTree
      held_call = CallIn alone_taken.3 alone_taken.4 alone_taken.5

      -- the value that is taken
      abbrev value_there : Waiting
      value_there = (alone_value.first_value table typed effects input ready inner going alone_taken).0

      abbrev first_there : alone_value.IsFirst table typed effects input ready inner going alone_taken value_there
      first_there = (alone_value.first_value table typed effects input ready inner going alone_taken).1

      -- ---- a view

      -- The call is one whose first actual is a name, and gives what the view designates.
      module _ (of n : ℕ) (q r : Pos) (steps_there : TypedTree) (u : ℕ) (others : TypedTree) (y : ℕ)
          (call_is : held_call ≡ CallIn r n (More (Name q y steps_there u) others)) (gives : GivesView s n of) where
        same_sub : alone_taken.4 ≡ n
        same_sub = call_subs call_is

        value_of_view : value_there.of ≡ gives.result
        value_of_view =
            first_there.0
            ∙ some_is (object_at s alone_taken.0).of gives.result (sym alone_taken.6 ∙ ap (λ k. (sub_at s k).result) same_sub ∙ gives.result_is)

        pub value_anonymous : is_anonymous (full s.table value_there.of) ≡ true
        value_anonymous = ap (λ z. is_anonymous (full s.table z)) value_of_view ∙ gives.anonymous

        pub given_there : IsGivenTo s (view_here s inner.state) depth inner.p.instr inner.views value_there
        given_there = given value_there first_there.4 first_there.5 value_anonymous

        abbrev pub word_there : machine.Word
        word_there = given_there.word

        abbrev pub call_there : TraversalCall
        call_there = (given_there.traverses).call

        -- the value is that of the call
        takes_one : (e c : TypedTree) → IsTakenBy inner.p.instr e → IsTakenBy inner.p.instr c → e ≡ c
        takes_one e c (inl (a, is)) (inl (b, same)) = more_first (declare_same (sym is ∙ same))
        takes_one e c (inl (a, is)) (inr (inl (k, b, w, o, same, none))) = (let both : Declare a (More e NoMore) ≡ Assign (Name k b w o) c = sym is ∙ same in absurd (false≢true (ap is_assign_instruction both)))
        takes_one e c (inl (a, is)) (inr (inr same)) = (let both : Declare a (More e NoMore) ≡ Hold (More c NoMore) = sym is ∙ same in absurd (false≢true (ap is_hold_instruction both)))
        takes_one e c (inr (inl (k, b, w, o, is, none))) (inl (a, same)) = (let both : Assign (Name k b w o) e ≡ Declare a (More c NoMore) = sym is ∙ same in absurd (false≢true (ap is_declare_instruction both)))
        takes_one e c (inr (inl (k, b, w, o, is, none))) (inr (inl (l, d, v, z, same, also))) =
            assign_same (sym is ∙ same)
        takes_one e c (inr (inl (k, b, w, o, is, none))) (inr (inr same)) = (let both : Assign (Name k b w o) e ≡ Hold (More c NoMore) = sym is ∙ same in absurd (false≢true (ap is_hold_instruction both)))
        takes_one e c (inr (inr is)) (inl (a, same)) = (let both : Hold (More e NoMore) ≡ Declare a (More c NoMore) = sym is ∙ same in absurd (false≢true (ap is_declare_instruction both)))
        takes_one e c (inr (inr is)) (inr (inl (k, b, w, o, same, none))) = (let both : Hold (More e NoMore) ≡ Assign (Name k b w o) c = sym is ∙ same in absurd (false≢true (ap is_assign_instruction both)))
        takes_one e c (inr (inr is)) (inr (inr same)) = more_first (hold_same (sym is ∙ same))

        pub call_same : call_in given_there.sub call_there ≡ held_call
        call_same = takes_one (call_in given_there.sub call_there) held_call (given_there.traverses).taken alone_taken.8

        pub root_same : call_there.root ≡ y
        root_same = name_roots (more_first (call_actuals (call_same ∙ call_is)))

        -- it is in hand no more
        abbrev others_in_hand : List Waiting
        others_in_hand = waiting_in easy.state

        hands_there : waiting_in inner.state ≡ value_there ∷ others_in_hand
        hands_there = first_there.2

        pub words_there : given_words ≡ (word_there ∷ []) ∷ []
        words_there = first_there.3 ∙ ap (λ z. z ∷ []) given_there.is

        pub good_there : IsGood easy sees seeing ready.accepted.settled ready.owns other alone inner.views ready.class.parts_named may refl refl inner.views facts_now easy.state
        good_there = record {
          viewed = without_view s ready.accepted.settled inner.state.memory value_there others_in_hand value_anonymous (home s depth) sees other inner.views inner.state.leaks facts_now
              (subst (λ z. Viewed (home s depth) sees other inner.views (seen s inner.state.memory z inner.state.leaks) facts_now) hands_there viewed);
          kept = less_kept s ready.accepted.settled inner.state.memory value_there others_in_hand (subst (Kept s inner.state.memory) hands_there inner.kept);
          holds = all_held s sees in_formals depth inner.views inner.state.memory (λ a k is_view_there bare e. inner.holds.held a k (λ fading. going fading.0 fading.1) is_view_there bare e) inner.holds.only inner.holds.owners inner.holds.own inner.holds.taken inner.holds.parts;
        }

        abbrev way_there : Way
        way_there = on (ways.All (given_there.traverses).place) given_there.rest

        pub coming : IsComing easy sees seeing ready.accepted.settled ready.owns other alone inner.views ready.class.parts_named may refl refl call_there.root gives.d (traversed_name call_there) word_there
        coming = record {
          place = (given_there.traverses).place;
          rest = given_there.rest;
          named = (given_there.traverses).named;
          called = (given_there.traverses).called;
          reached = λ k e. reached_without s ready.accepted.settled inner.state.memory value_there others_in_hand value_anonymous inner.state.leaks (expand inner.views way_there) (ways.OfCell k)
              (subst (λ z. ways.Reaches (seen s inner.state.memory z inner.state.leaks) (expand inner.views way_there) (ways.OfCell k)) hands_there (given_there.reached k e));
          typed = λ k e. view_typed s ready.accepted.settled inner.state.memory value_there others_in_hand value_anonymous word_there given_there.is
              (subst (Kept s inner.state.memory) hands_there inner.kept) gives.d gives.c gives.m k (ap (shape_of s.table) value_of_view ∙ gives.gives) e;
          goes = given_there.goes;
        }

        -- an object that takes it
        module _ (x : ℕ) (of_same : of ≡ (object_at s x).of) (view : is_anonymous (view_of s x) ≡ true) (variable : is_variable (object_at s x).kind ≡ true)
            (stored : IsStoredAt inner.p.instr x) where
          looks : Sees easy sees seeing ready.accepted.settled ready.owns other alone inner.views ready.class.parts_named may refl refl x gives.d
          looks = record {
            k = gives.k;
            e = gives.e;
            o = gives.o;
            view = ap (shape_of s.table) (sym of_same) ∙ gives.want;
            fits = gives.fits;
            anonymous = view;
            mine = innermost.home_frame table typed effects input ready inner x (ready.orderly.local x view);
          }

          own_object : is_given s x ≡ false
          own_object = own_there s x variable

          -- the source lasts
          may_with : MayBe program (scope_behind inner.p) x y → IsSourceIn (sub_acts (sub_of program inner.top.frame.sub)) x y → may x call_there.root
          may_with there source = subst (may x) (sym root_same) (there, stored, source)

          may_be : Lasts program inner.p.scope y x → is_within x (scope_behind inner.p) ≡ true → IsSourceIn (sub_acts (sub_of program inner.top.frame.sub)) x y → may x call_there.root
          may_be lasts within source = subst (may x) (sym root_same) (
            record {
              lasts = each.lasts_behind table typed effects input ready inner going no_calls y x lasts;
              within = within;
              view = view;
              plain = innermost.variable_stays table typed effects input ready inner x variable;
            },
            stored,
            source,
          )

      in_sub : (a : Act) → Has (acts_of_main inner.p.instr) a → Has (sub_acts (sub_of program inner.top.frame.sub)) a
      in_sub = standing.acts_in_sub table typed effects input ready inner.state inner.top older outer inner.named inner.p inner.frames inner.of_sub inner.at_point

      abbrev allowed_all : (inner.p.instr ≡ Finish → ⊥) → AllowsAll facts_now (acts_of_main inner.p.instr)
      allowed_all end =
          allowed_now (each.spares table typed effects input ready inner going no_calls end)
          (standing.allowed table typed effects input ready inner.state inner.top older outer inner.named inner.p inner.frames inner.of_sub inner.at_point inner.path no_calls)

      -- a view is declared
      module _ (y : ℕ) (is : inner.p.instr ≡ Declare y (More held_call NoMore)) (end : inner.p.instr ≡ Finish → ⊥) (view : is_anonymous (view_of s y) ≡ true) where
        abbrev declared_tree : TypedTree
        declared_tree = More held_call NoMore

        no_name : (r : Pos) (b : ℕ) (w : TypedTree) (o : ℕ) → ◌≡◌ {A = TypedTree} held_call (Name r b w o) → ⊥
        no_name r b w o e = call_name e

        same_first : (a b : TypedTree) → ◌≡◌ {A = TypedTree} (More a NoMore) (More b NoMore) → a ≡ b
        same_first a b e = more_first e

        pub declares_view : LeadsFrom (Declare y declared_tree) (turn main_turn (Declare y declared_tree))
        declares_view = by_source (by_either found.6
            (λ name. (absurd (no_name found.0 found.1 found.2 found.3 (tree_is ∙ name))))
            (λ (r, n, others, call, gives). (r, n, others, tree_is ∙ call, gives)))
          where
            found : IsSource program inner.p.scope y declared_tree
            found = orderly.declared y declared_tree is view

            tree_is : held_call ≡ found.4
            tree_is = same_first held_call found.4 found.5

            variable_there : is_variable (object_at s y).kind ≡ true
            variable_there = orderly.variables y (inl (inl (declared_tree, is))) view

            within_behind : is_within y (scope_behind inner.p) ≡ true
            within_behind = subst (λ i. is_within y (brought i left_scope) ≡ true) (sym is) (innermost.new_there table typed effects input ready inner y)

            by_source : ((r : Pos) × (n : ℕ) × (others : TypedTree) × (held_call ≡ CallIn r n (More (Name found.0 found.1 found.2 found.3) others)) × GivesView s n (object_at s y).of)
                → LeadsFrom (Declare y declared_tree) (turn main_turn (Declare y declared_tree))
            by_source (r, n, others, call_is, gives) =
                let stored : IsStoredAt inner.p.instr y = inl (declared_tree, is) in
                let c : TraversalCall = call_there (object_at s y).of n found.0 r found.2 found.3 others found.1 call_is gives in
                let word : machine.Word = word_there (object_at s y).of n found.0 r found.2 found.3 others found.1 call_is gives in
                let root : c.root ≡ found.1 = root_same (object_at s y).of n found.0 r found.2 found.3 others found.1 call_is gives in
                let sub : ℕ = (given_there (object_at s y).of n found.0 r found.2 found.3 others found.1 call_is gives).sub in
                let same_call : call_in sub c ≡ held_call = call_same (object_at s y).of n found.0 r found.2 found.3 others found.1 call_is gives in
                each.declared_main table typed effects input ready inner going no_calls (Declare y declared_tree) y declared_tree
                (subst (λ z. LeadsFrom (Declare y (More z NoMore)) (each.Declared table typed effects input ready inner going no_calls y (More z NoMore) easy)) same_call
                (subst (λ ws. LeadsFrom (Declare y (More (call_in sub c) NoMore)) (steps.evaluated easy
                (steps.first_value main_turn (object_at s y).of (More (call_in sub c) NoMore) (record { memory = inner.state.memory; waits = ws })) (λ vs m. steps.goes easy (declared depth y vs m) 0)))
                (sym (words_there (object_at s y).of n found.0 r found.2 found.3 others found.1 call_is gives))
                (view_declared easy sees seeing ready.accepted.settled ready.owns other alone inner.views ready.class.parts_named may refl refl sub c y gives.d word facts_now
                (looks (object_at s y).of n found.0 r found.2 found.3 others found.1 call_is gives y refl view variable_there stored) variable_there
                (own_object (object_at s y).of n found.0 r found.2 found.3 others found.1 call_is gives y refl view variable_there stored)
                (good_there (object_at s y).of n found.0 r found.2 found.3 others found.1 call_is gives)
                (coming (object_at s y).of n found.0 r found.2 found.3 others found.1 call_is gives)
                (may_be (object_at s y).of n found.0 r found.2 found.3 others found.1 call_is gives y refl view variable_there stored found.7 within_behind
                (declared_source s y view variable_there found.4 found.0 found.1 found.2 found.3 found.6 (sub_acts (sub_of program inner.top.frame.sub))
                (λ a has. in_sub a (subst (λ i. Has (acts_of_main i) a) (sym is) (subst (λ z. Has (acts_of_main (Declare y z)) a) (sym found.5) has)))))
                (λ borrows. (
                let older_there = found.8 borrows in (
                  ap (is_observer s) root ∙ older_there.0,
                  older_there.1 ∙ ap sees (sym root),
                  subst (λ z. z < y) (sym root) older_there.2,
                  each.unused table typed effects input ready inner going no_calls y declared_tree is (ready.orderly.local y view),
                )))
                (subst (λ z. AllowsAll facts_now (acts_of_main (Declare y (More z NoMore)))) (sym same_call)
                (subst (λ i. AllowsAll facts_now (acts_of_main i)) is (allowed_all end))))))

      -- a view is assigned
      module _ (k : Pos) (y : ℕ) (is : inner.p.instr ≡ Assign (Name k y NoMore (object_at s y).of) held_call) (end : inner.p.instr ≡ Finish → ⊥) (view : is_anonymous (view_of s y) ≡ true) where
        abbrev whole : TypedTree
        whole = Name k y NoMore (object_at s y).of

        pub assigns_view : LeadsFrom (Assign whole held_call) (turn main_turn (Assign whole held_call))
        assigns_view = by_source (by_either found.4
            (λ name. (absurd (no_name found.0 found.1 found.2 found.3 name)))
            (λ (r, n, others, call, gives). (r, n, others, call, gives)))
          where
            no_name : (r : Pos) (b : ℕ) (w : TypedTree) (o : ℕ) → ◌≡◌ {A = TypedTree} held_call (Name r b w o) → ⊥
            no_name r b w o e = call_name e

            found : IsNewSource program inner.p.scope y held_call
            found = orderly.assigned k y (object_at s y).of held_call is view

            stored : IsStoredAt inner.p.instr y
            stored = inr (k, (object_at s y).of, held_call, is)

            variable_there : is_variable (object_at s y).kind ≡ true
            variable_there = orderly.variables y (inl stored) view

            not_shared : is_package_object s y ≡ false
            not_shared = ready.orderly.local y view

            within_behind : is_within y (scope_behind inner.p) ≡ true
            within_behind = elim (innermost.stored_which table typed effects input ready inner (Assign whole held_call) is y (inl refl)) [
              | inl shared ↦ absurd (true_false (is_package_object s y) shared not_shared)
              | inr within ↦ each.more table typed effects input ready inner going no_calls y within
            ]

            by_source : ((r : Pos) × (n : ℕ) × (others : TypedTree) × (held_call ≡ CallIn r n (More (Name found.0 found.1 found.2 found.3) others)) × GivesView s n (object_at s y).of)
                → LeadsFrom (Assign whole held_call) (turn main_turn (Assign whole held_call))
            by_source (r, n, others, call_is, gives) =
                let c : TraversalCall = call_there (object_at s y).of n found.0 r found.2 found.3 others found.1 call_is gives in
                let word : machine.Word = word_there (object_at s y).of n found.0 r found.2 found.3 others found.1 call_is gives in
                let root : c.root ≡ found.1 = root_same (object_at s y).of n found.0 r found.2 found.3 others found.1 call_is gives in
                let sub : ℕ = (given_there (object_at s y).of n found.0 r found.2 found.3 others found.1 call_is gives).sub in
                let same_call : call_in sub c ≡ held_call = call_same (object_at s y).of n found.0 r found.2 found.3 others found.1 call_is gives in
                let itself_lasts : Lasts program (scope_behind inner.p) y y =
                inr (within_behind, view_ends s y (anonymous_view s y view), ready.orderly.itself _, innermost.variable_stays table typed effects input ready inner y variable_there) in
                let lasts_there : Lasts program (scope_behind inner.p) found.1 y = by_kind (is_observer s y) refl itself_lasts in
                each.assigned_main table typed effects input ready inner going no_calls (Assign whole held_call) whole (object_at s y).of held_call
                (subst (λ z. LeadsFrom (Assign whole z) (each.Assigned table typed effects input ready inner going no_calls whole (object_at s y).of z easy)) same_call
                (subst (λ ws. LeadsFrom (Assign whole (call_in sub c)) (steps.evaluated easy (followed_by (steps.taken_by main_turn (object_at s y).of (call_in sub c) (record { memory = inner.state.memory; waits = ws }))
                (λ vs now. followed_by (place_of (steps.here main_turn) whole now) (λ b now. Done (record { words = vs; place = b }) now)))
                (λ (st : steps.Stored) m. steps.leaking_goes (checks_at s (steps.target_pos main_turn whole) m st.place) (steps.goes easy (stored_in s st.place st.words m) 0))))
                (sym (words_there (object_at s y).of n found.0 r found.2 found.3 others found.1 call_is gives))
                (view_assigned easy sees seeing ready.accepted.settled ready.owns other alone inner.views ready.class.parts_named may refl refl sub c y gives.d word facts_now
                (looks (object_at s y).of n found.0 r found.2 found.3 others found.1 call_is gives y refl view variable_there stored) variable_there
                (own_object (object_at s y).of n found.0 r found.2 found.3 others found.1 call_is gives y refl view variable_there stored)
                (good_there (object_at s y).of n found.0 r found.2 found.3 others found.1 call_is gives)
                (coming (object_at s y).of n found.0 r found.2 found.3 others found.1 call_is gives)
                (may_with (object_at s y).of n found.0 r found.2 found.3 others found.1 call_is gives y refl view variable_there stored (record { lasts = lasts_there; within = within_behind; view = view; plain = innermost.variable_stays table typed effects input ready inner y variable_there })
                (assigned_source s y view variable_there held_call found.0 found.1 found.2 found.3 found.4 (sub_acts (sub_of program inner.top.frame.sub)) inner.p.pos k found.6
                (λ a has. in_sub a (subst (λ i. Has (acts_of_main i) a) (sym is) has))))
                inner.p.pos k (λ borrows. root ∙ found.6 borrows)
                (subst (λ z. AllowsAll facts_now (acts_of_main (Assign whole z))) (sym same_call)
                (subst (λ i. AllowsAll facts_now (acts_of_main i)) is (allowed_all end))))))
              where
                by_kind : (b : Bool) → is_observer s y ≡ b → Lasts program (scope_behind inner.p) y y → Lasts program (scope_behind inner.p) found.1 y
                by_kind true sight itself = each.lasts_behind table typed effects input ready inner going no_calls found.1 y (found.5 sight)
                by_kind false borrows itself = subst (λ z. Lasts program (scope_behind inner.p) z y) (sym (found.6 borrows)) itself

      -- ---- what follows

      -- an owner or a view
      declares : (y : ℕ) → inner.p.instr ≡ Declare y (More held_call NoMore) → (inner.p.instr ≡ Finish → ⊥) → LeadsFrom (Declare y (More held_call NoMore)) (turn main_turn (Declare y (More held_call NoMore)))
      declares y is end = by_kind (is_anonymous (view_of s y)) refl
        where
          by_kind : (b : Bool) → is_anonymous (view_of s y) ≡ b → LeadsFrom (Declare y (More held_call NoMore)) (turn main_turn (Declare y (More held_call NoMore)))
          by_kind true view = declares_view y is end view
          by_kind false owner = alone_value.declares_alone table typed effects input ready inner going no_calls alone_taken y is owner

      -- a place or a view
      assigns : (r : Pos) (y : ℕ) (steps_there : TypedTree) (u : ℕ) → inner.p.instr ≡ Assign (Name r y steps_there u) held_call → has_call steps_there ≡ false → (inner.p.instr ≡ Finish → ⊥)
          → LeadsFrom (Assign (Name r y steps_there u) held_call) (turn main_turn (Assign (Name r y steps_there u) held_call))
      assigns r y steps_there u is calls end = by_kind (is_anonymous (full s.table u)) refl
        where
          text_there : IsFine s inner.named.sub.result (Assign (Name r y steps_there u) held_call)
          text_there = subst (IsFine s inner.named.sub.result) is (standing.fine table typed effects input ready inner.state inner.top older outer inner.named inner.p inner.frames inner.of_sub inner.at_point)

          by_kind : (b : Bool) → is_anonymous (full s.table u) ≡ b → LeadsFrom (Assign (Name r y steps_there u) held_call) (turn main_turn (Assign (Name r y steps_there u) held_call))
          by_kind false place = alone_value.assigns_alone table typed effects input ready inner going no_calls alone_taken r y steps_there u is calls end place
          by_kind true view = by_either (leads_or s ready.class.parts_named steps_there (object_at s y).of u text_there.1.0)
              (λ whole. (
              let target_is : Name r y steps_there u ≡ Name r y NoMore (object_at s y).of = (λ j. Name r y (whole.0 j) (sym whole.1 j)) in
              subst (λ z. LeadsFrom (Assign z held_call) (turn main_turn (Assign z held_call))) (sym target_is)
              (assigns_view r y (is ∙ ap (λ z. Assign z held_call) target_is) end (ap (λ z. is_anonymous (full s.table z)) whole.1 ∙ view))))
              (λ own_type. (absurd (true_false (is_anonymous (full s.table u)) view (named_plain s.table u own_type))))

      pub goes_alone : IsOther inner.p.instr → FillsNone s inner.p.instr → (inner.p.instr ≡ Finish → ⊥) → returns_value inner.p.instr ≡ false → Along (turn main_turn inner.p.instr)
      goes_alone other_one fills end none = elim alone_taken.8 [
        | inl (y, is) ↦ finish (Declare y (More held_call NoMore)) is (declares y is end)
            (declare_follows main_turn Left left IsOld (lasting_of s left_scope) (lasting_of s (y ∷ left_scope)) inside_left
            (innermost.one_more table typed effects input ready inner y) y (More held_call NoMore)
            (innermost.new_one table typed effects input ready inner y
            (subst (λ i. Fills s i left_scope) is supplied_here.1))
            (innermost.with_successors table typed effects input ready inner (Declare y (More held_call NoMore)) 0 is below_one))
        | inr (inl (r, y, steps, u, is, calls)) ↦ finish (Assign (Name r y steps u) held_call) is (assigns r y steps u is calls end)
            (assign_follows main_turn Left left IsOld (lasting_of s left_scope) (lasting_of s left_scope) inside_left (λ x within. within) r y u steps held_call
            (innermost.stored_there table typed effects input ready inner (Assign (Name r y steps u) held_call) is y (inl refl))
            (innermost.with_successors table typed effects input ready inner (Assign (Name r y steps u) held_call) 0 is below_one))
        | inr (inr is) ↦ absurd (subst IsOther is other_one)
      ]
        where
          left : Left (steps.waiting main_turn)
          left = left_after fills

          finish : (i : Instruction) → inner.p.instr ≡ i → LeadsFrom i (turn main_turn i)
              → Each (GoesOn main_turn Left left IsOld (lasting_of s left_scope) (lasting_of s (brought i left_scope)) inside_left) (turn main_turn i) → Along (turn main_turn inner.p.instr)
          finish i is leads on =
              turned.then_on table typed effects input ready inner going no_calls left
              (each.spares table typed effects input ready inner going no_calls end) end none
              (turn main_turn inner.p.instr) (subst (λ z. LeadsFrom z (turn main_turn z)) (sym is) leads)
              (subst (λ z. Each (GoesOn main_turn Left left IsOld (lasting_of s left_scope) (lasting_of s (brought z left_scope)) inside_left) (turn main_turn z)) (sym is) on)
              (others_keep main_turn inner.named.sub.result inner.p.instr (standing.fine table typed effects input ready inner.state inner.top older outer inner.named inner.p inner.frames inner.of_sub inner.at_point) other_one)
