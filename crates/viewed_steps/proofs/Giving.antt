-- A traversal function gives its result: null, or what goes on from what its first formal sees.
use Rattle.machine.specs.place_names.declared.act.Act.TheVariants as act
use Rattle.machine.specs.flow_paths.Acts as flow
use Rattle.machine.specs.flow_paths.Acts.{acts_in}
use Rattle.soundness.proofs.Scalars.{acts}
use Rattle.soundness.proofs.Taking.{Takes, takes_as, nothing_more, takes_zero}
use Rattle.viewed_steps.proofs.Returned.{goes_on, names_view, name_given, changes_nothing}
use Rattle.machine.specs.place_names.Facts.{removes, effect}
use Rattle.soundness.proofs.Operands.{hold_is}
use Rattle.soundness.proofs.Stays.{Quiet}
use Rattle.machine.specs.type_definitions.declared.table.Shape.TheVariants as shape
use Rattle.viewed_steps.proofs.Taking as taking
use Rattle.viewed_steps.proofs.Results as results
use Rattle.std.specs.Prelude.{is_some, filter}
use Rattle.soundness.proofs.OwnedLoans.Ways.{expand_on}
use Rattle.viewed_steps.proofs.Traversed.{source_named}
use Rattle.machine.specs.flow_paths.Views.{sub_acts, traversed_formal, IsOnlyRoot}
use Rattle.viewed_steps.specs.Traversals.{GivesView, IsSourceIn, SeesFirst, IsSourceName, AreGiven, traversed_name}
use Rattle.viewed_steps.proofs.Sources.{view_shape}
use Rattle.machine.specs.spark_base.declared.position.Pos.{Pos}
use Rattle.soundness.proofs.ViewedSoundness.ViewKinds.{given_view, access_bundle, true_false}
use Rattle.std.proofs.Common.{◌≡◌, refl, sym, ap, ◌∙◌, subst, ◌⊎◌, inl, inr, ℕ, suc, ◌<◌, Bool, true, false, List, [], ◌∷◌, ◌++◌, drop, length, Some, None, Option, ◌||◌, append-nil, not, take, if◌then◌else◌}
use Rattle.std.proofs.lemmas.Bool.{false≢true}
use Rattle.machine.specs.spark_base.Lists.{Has}
use Rattle.machine.specs.place_names.declared.act.Act.{Act}
use Rattle.machine.specs.place_names.declared.fact.Fact.{Fact}
use Rattle.machine.specs.place_names.declared.fact.Fact.TheVariants.{Moved}
use Rattle.machine.specs.place_names.Names.{Name as PlaceName}
use Rattle.machine.specs.type_definitions.Types.{Table, full, words, words_of as shape_words, shape_of}
use Rattle.machine.specs.typed_tree.Trees.{TypedTree, NoMore, More, Name, Call as CallIn, Null as TypedNull}
use Rattle.machine.specs.typed_tree.Programs.{TypedProgram}
use Rattle.machine.specs.flow_paths.declared.report.Effects.{Effects}
use Rattle.machine.specs.flow_paths.Instructions.{Instruction, EndScope, Declare, Assign, Call}
use Rattle.machine.specs.flow_paths.Objects.{Typing, is_anonymous, is_package_object, traverses}
use Rattle.machine.specs.flow_paths.Names.{waiting as waits_in, name_of}
use Rattle.machine.specs.flow_paths.Points.{NamedPoint}
use Rattle.machine.specs.flow_paths.Laid.{FlowProgram, NamedSub, typing_of, flow_typing, flow_program, flow_named, FlowSub, flow_sub}
use Rattle.machine.specs.flow_paths.Scopes.{taken, scope_behind}
use Rattle.machine.specs.Words as machine
use Rattle.machine.specs.Evaluate as run
use Rattle.soundness.proofs.Contents.{bool_cases}
use Rattle.machine.specs.Memory.{given_up, Memory, cell}
use Rattle.machine.specs.Evaluate.{Done, followed_by, Raises, Traps, Evaluated, Now, evaluate}
use Rattle.machine.specs.States.{Waiting, Frame, Outcome, sub_of, Goes}
use Rattle.machine.specs.Step.{Turn, turn, start}
use Rattle.machine.specs.Step as steps
use Rattle.machine.specs.Owners.{waiting_in, WellOwned}
use Rattle.soundness.specs.OwnedWays.Ways.{Step, OfVariable, OfRoot, Way, Held, after, AllowsAll}
use Rattle.soundness.specs.Seen.{IsNear, content, word_in, home, seen}
use Rattle.soundness.specs.Typed.{IsCell}
use Rattle.soundness.specs.TypedLaws.Needed.{IsFine, Source, Matches, Returns}
use Rattle.soundness.specs.ViewedSoundness.Taken.{GivesPlainly}
use Rattle.soundness.specs.Sound.{IsNoCall, Stage, facts_of, returns_value, IsNamedSub, IsAtPoint, view_of as view_here, has_returned}
use Rattle.soundness.proofs.Scoped.{Inside}
use Rattle.soundness.proofs.Around.{IsFar}
use Rattle.soundness.proofs.Eased.{eased}
use Rattle.soundness.specs.OwnedLoans.Views.{Around, Viewed, Go}
use Rattle.soundness.specs.ViewedSoundness.Holds.{is_view, is_bundle, Seeing}
use Rattle.soundness.proofs.ViewedSoundness.Outcomes.{IsGood}
use Rattle.viewed_steps.specs.Awaited.{lasting_of, TakesAlone, TakesTogether, AreScalar, TakesScalars, temporaries_of}
use Rattle.viewed_steps.specs.Sound.{ViewStage, GoneElsewhere, IsStoredAt, LeadsAlong, IsGivenBelow}
use Rattle.viewed_steps.specs.Ready.{IsReady}
use Rattle.viewed_steps.proofs.Placed.{MayBe}
use Rattle.viewed_steps.proofs.Waiting.{StandsBetween, beside_them, handed}
use Rattle.viewed_steps.proofs.Standing as standing
use Rattle.viewed_steps.proofs.Packages as packages
use Rattle.viewed_steps.proofs.Innermost as innermost
use Rattle.viewed_steps.proofs.EachInstruction as each
use Rattle.machine.specs.flow_paths.Instructions.{Hold}
use Rattle.soundness.specs.OwnedWays.Ways as ways
use Rattle.soundness.specs.OwnedLoans.Views.{on, expand}
use Rattle.soundness.proofs.ViewedSoundness.Lends.{matches_on}
use Rattle.soundness.proofs.ViewedSoundness.Coming.{IsComing}
use Rattle.viewed_steps.proofs.Blank.{reached_with, with_view, kept_with_view}
use Rattle.viewed_steps.proofs.Sources.{view_scalar}
use Rattle.viewed_steps.specs.Traversals.{IsGivenTo}
use Rattle.viewed_steps.specs.Seeing.{sees_in}
use Rattle.viewed_steps.proofs.Sees.{sees_seeing}
use Rattle.viewed_steps.proofs.Constructors.{is_assign_instruction, is_call_instruction, is_cell_word, is_declare_instruction, is_end_scope_instruction}
use Rattle.viewed_steps.proofs.InnerFrame.{InnerFrame}
use Rattle.soundness.proofs.Parted.{null_cell}
use Rattle.viewed_steps.proofs.Parted.{more_first, more_rest, more_none, name_call, null_call, hold_same}

first_one : (v w : Waiting) (waits others : List Waiting) → v ∷ waits ≡ w ∷ others → v ≡ w
first_one v w waits others same = cc

some_is : {a b : ℕ} → Some a ≡ Some b → a ≡ b
some_is same = cc

module _ (table : Table) (typed : TypedProgram) (effects : Effects) (input : List ℕ) (ready : IsReady table typed effects) where
  abbrev sees : ℕ → Bool
  sees = sees_in (flow_program table typed)

  abbrev seeing : Seeing (flow_typing (flow_program table typed)) sees
  seeing = sees_seeing (flow_program table typed)

  abbrev program : FlowProgram
  program = flow_program table typed

  abbrev s : Typing
  s = flow_typing program

  abbrev own : Typing
  own = typing_of table typed

  abbrev local : (x : ℕ) → is_view s x ≡ true → is_package_object s x ≡ false
  local = standing.local table typed effects input ready

  abbrev unmoved_stage : (e : Stage) → e.frame.sub ≡ 0 → (name : PlaceName) → Has (facts_of program effects e) (Moved name) → ⊥
  unmoved_stage = packages.unmoved_stage table typed effects input ready

  module _ (inner : InnerFrame table typed effects) where
    abbrev outer : List Frame
    outer = inner.below.stage.frame ∷ inner.rest

    abbrev older : List ViewStage
    older = inner.below ∷ inner.more_frames

    abbrev depth : ℕ
    depth = suc (length inner.rest)

    abbrev between : (g : ViewStage) → Has (inner.below ∷ inner.more_frames) g → StandsBetween table typed effects unmoved_stage local inner.state (suc (length inner.rest)) (inner.below ∷ inner.more_frames) g
    between = innermost.between table typed effects input ready inner

    abbrev other : Around (home s (suc (length inner.rest)))
    other = beside_them table typed effects unmoved_stage local inner.state (suc (length inner.rest)) (inner.below ∷ inner.more_frames) between

    abbrev alone : (w : Way) → IsNear (suc (length inner.rest)) w → IsFar (suc (length inner.rest)) (GoneElsewhere program effects (inner.below ∷ inner.more_frames)) w → ⊥
    alone = innermost.alone table typed effects input ready inner

    abbrev main_turn : Turn
    main_turn = standing.t table typed effects input ready inner.state inner.top older outer inner.named inner.p inner.frames inner.of_sub inner.at_point

    abbrev own_facts : List Fact
    own_facts = standing.facts table typed effects input ready inner.state inner.top older outer inner.named inner.p inner.frames inner.of_sub inner.at_point inner.path

    abbrev handed_on : List Fact
    handed_on = handed table typed effects unmoved_stage local inner.state (suc (length inner.rest)) (inner.below ∷ inner.more_frames) between

    abbrev facts_now : List Fact
    facts_now = own_facts ++ handed_on

    abbrev acts_of_main : Instruction → List Act
    acts_of_main i = standing.acts_here table typed effects input ready inner.state inner.top older outer inner.named inner.p inner.frames inner.of_sub inner.at_point i

    abbrev viewed : Viewed (home s depth) sees other inner.views (view_here s inner.state) facts_now
    viewed = innermost.viewed table typed effects input ready inner

    abbrev left_scope : List ℕ
    left_scope = drop (taken inner.p.instr) inner.p.scope

    abbrev given_words : List (List machine.Word)
    given_words = (start main_turn).waits

    abbrev easy : Turn
    easy = eased main_turn

    abbrev IsOld : ℕ → ℕ → Type 0
    IsOld f x =
        (f < suc (length inner.rest)) × ((f ≡ 0)
        ⊎ ((q : List Step) × (k : ℕ) × (word_in s.table (content s inner.state.memory [] (OfRoot (OfVariable f x))) q ≡ Held k)))

    abbrev inside_left : Inside s IsOld inner.state.memory depth (lasting_of s left_scope)
    inside_left = innermost.inside_left table typed effects input ready inner

    -- where it leads, and how the frames come from those before
    abbrev Along : Outcome → Type 0
    Along outcome = LeadsAlong table typed effects inner.p.instr inner.state.memory (record { stage = inner.top; views = inner.views; cells = [] }) (inner.below ∷ inner.more_frames) outcome

    abbrev may : ℕ → ℕ → Type 0
    may x y = MayBe program (scope_behind inner.p) x y × IsStoredAt inner.p.instr x × IsSourceIn (sub_acts (sub_of program inner.top.frame.sub)) x y

    abbrev raised_well : (m : Memory) → WellOwned s (steps.counted (record inner.state { memory = given_up inner.state.memory m }))
    raised_well = innermost.raised_well table typed effects input ready inner

    abbrev Plain : Type 0
    Plain = AreScalar s (temporaries_of s (take (taken inner.p.instr) inner.p.scope))

    -- ---- a return of a view

    module _ (e last : TypedTree) (is : inner.p.instr ≡ Hold (More e last)) (of : ℕ) (result : inner.named.sub.result ≡ Some of) (source : Source s of e) (alone_there : last ≡ NoMore)
        (view : is_anonymous (full s.table of) ≡ true) where
      pub sub_result : (sub_of program inner.top.frame.sub).result ≡ Some of
      sub_result = ap (λ (z : FlowSub). z.result) (standing.sub_is table typed effects input ready inner.state inner.top older outer inner.named inner.p inner.frames inner.of_sub inner.at_point) ∙ result

      going_then : (x : ℕ) → inner.p.instr ≡ EndScope x → ⊥
      going_then x same = (let never : Hold (More e last) ≡ EndScope x = sym is ∙ same in absurd (false≢true (ap is_end_scope_instruction never)))

      no_call_then : IsNoCall inner.p.instr
      no_call_then n actuals temporary same = (let never : Hold (More e last) ≡ Call n actuals temporary = sym is ∙ same in absurd (false≢true (ap is_call_instruction never)))

      returns_there : is_some (sub_of program inner.top.frame.sub).result ≡ true
      returns_there = ap is_some sub_result

      -- the first formal, and what it sees
      abbrev first_formal : (f : ℕ) × (traversed_formal s (sub_of program inner.top.frame.sub) ≡ Some f)
      first_formal = ready.traversing.formal inner.top.frame.sub (inner.running.0).entered (ap (traverses s.table) sub_result ∙ view)

      abbrev first : Option Way
      first = ((inner.above.1).1.0 first_formal.0 first_formal.1).0

      seen_first : (other_named : NamedSub) → IsNamedSub (flow_named table typed) inner.below.stage.frame.sub other_named → (q : NamedPoint)
          → IsAtPoint other_named.points inner.below.stage.frame.next q → SeesFirst s inner.below.stage.depth q.instr inner.top.frame.sub inner.below.views first
      seen_first = ((inner.above.1).1.0 first_formal.0 first_formal.1).2

      none_back : inner.top.frame.returns ≡ []
      none_back = ((inner.above.1).1.0 first_formal.0 first_formal.1).3

      formal_view : (is_view s first_formal.0 ≡ true) × (is_bundle s first_formal.0 ≡ false)
      formal_view =
          let is_first = ready.traversing.first inner.top.frame.sub first_formal.0 (inner.running.0).entered first_formal.1 in
          (given_view s first_formal.0 is_first.1, access_bundle s first_formal.0 is_first.2)

      -- What is given, by what was in hand before.
      abbrev in_hand : List Waiting
      in_hand = waiting_in easy.state

      abbrev value_of : List machine.Word → Waiting
      value_of ws = record { of = of; words = ws }

      abbrev seen_here : ways.View
      seen_here = seen s inner.state.memory in_hand inner.state.leaks

      -- A value: of its type; and the cell that it designates is reached by what goes on from what the formal sees.
      pub record IsGivenBack (z : machine.Word) : Type 0 where
        pub typed_there : (d : ℕ) (c n : Bool) (k : ℕ) → shape_of s.table of ≡ shape.Access d c n → z ≡ machine.Cell k → IsCell s inner.state.memory d k
        pub goes : (k : ℕ) → z ≡ machine.Cell k → (w : Way) × (first ≡ Some w) × (r : List Go) × ways.Reaches seen_here (on w r) (ways.OfCell k)

      -- it is given to the frame below
      module _ (z : machine.Word) (back : IsGivenBack z) (other_named : NamedSub) (other_of : IsNamedSub (flow_named table typed) inner.below.stage.frame.sub other_named) (q : NamedPoint)
          (at_q : IsAtPoint other_named.points inner.below.stage.frame.next q) where
        abbrev sight : SeesFirst s inner.below.stage.depth q.instr inner.top.frame.sub inner.below.views first
        sight = seen_first other_named other_of q at_q

        nothing_given : ((k : ℕ) → z ≡ machine.Cell k → ⊥) → IsGivenTo s (seen s inner.state.memory (value_of (z ∷ []) ∷ in_hand) inner.state.leaks) inner.below.stage.depth q.instr inner.below.views (value_of (z ∷ []))
        nothing_given none = record {
          sub = inner.top.frame.sub;
          traverses = sight.traverses;
          rest = [];
          word = z;
          is = refl;
          reached = λ k e. absurd (none k e);
          goes = λ k e. absurd (none k e);
        }

        given_word : (y : machine.Word) → z ≡ y → IsGivenTo s (seen s inner.state.memory (value_of (z ∷ []) ∷ in_hand) inner.state.leaks) inner.below.stage.depth q.instr inner.below.views (value_of (z ∷ []))
        given_word (machine.Cell k) e =
            let there = back.goes k e in record {
              sub = inner.top.frame.sub;
              traverses = sight.traverses;
              rest = there.2;
              word = z;
              is = refl;
              reached = λ j same. (
                  let number : k ≡ j = same_cell k j (sym e ∙ same) in
                  let way : expand inner.below.views (on (ways.All (sight.traverses).place) there.2) ≡ on there.0 there.2 =
                  expand_on inner.below.views (ways.All (sight.traverses).place) there.2 (λ d. d) (inl tt) ∙ ap (λ w. on w there.2) (sight.leads there.0 there.1) in
                  subst (λ n. ways.Reaches (seen s inner.state.memory (value_of (z ∷ []) ∷ in_hand) inner.state.leaks) (expand inner.below.views (on (ways.All (sight.traverses).place) there.2)) (ways.OfCell n)) number
                  (subst (λ w. ways.Reaches (seen s inner.state.memory (value_of (z ∷ []) ∷ in_hand) inner.state.leaks) w (ways.OfCell k)) (sym way)
                  (reached_with s ready.accepted.settled inner.state.memory (value_of (z ∷ [])) in_hand view inner.state.leaks (on there.0 there.2) (ways.OfCell k) there.3)));
              goes = λ j same. sight.goes there.0 there.1;
            }
          where
            same_cell : (k j : ℕ) → machine.Cell k ≡ machine.Cell j → k ≡ j
            same_cell k j e = cc
        given_word (machine.Int n) e = nothing_given (λ j same. (let never : machine.Int n ≡ machine.Cell j = sym e ∙ same in absurd (false≢true (ap is_cell_word never))))
        given_word (machine.Enumerated n) e = nothing_given (λ j same. (let never : machine.Enumerated n ≡ machine.Cell j = sym e ∙ same in absurd (false≢true (ap is_cell_word never))))
        given_word machine.Null e = nothing_given (λ j same. (let never : machine.Null ≡ machine.Cell j = sym e ∙ same in absurd (false≢true (ap is_cell_word never))))

      -- ---- the state afterwards

      module _ (good : IsGood easy sees seeing ready.accepted.settled ready.owns other alone inner.views ready.class.parts_named may refl refl inner.views facts_now easy.state)
          (facts_same : after (acts_of_main inner.p.instr) facts_now ≡ facts_now) where
        given_below : (z : machine.Word) → IsGivenBack z
            → IsGivenBelow table typed (seen s inner.state.memory (value_of (z ∷ []) ∷ in_hand) inner.state.leaks) (results.top_stage_then table typed effects input ready inner e last is of result source alone_there)
            (results.below_with table typed effects input ready inner e last is of result source alone_there (value_of (z ∷ [])))
        given_below z back = inr (
          returns_there,
          returned_now,
          none_back,
          λ other_named other_of q at_q w others same seen_there. subst (IsGivenTo s (seen s inner.state.memory (value_of (z ∷ []) ∷ in_hand) inner.state.leaks) inner.below.stage.depth q.instr inner.below.views)
              (first_one (value_of (z ∷ [])) w inner.below.stage.frame.waits others same) (given_word z back other_named other_of q at_q z refl),
        )
          where
            returned_now : has_returned (sub_of program inner.top.frame.sub) (inner.top.frame.next ∷ inner.top.before) ≡ true
            returned_now = ap (λ b. b || has_returned (sub_of program inner.top.frame.sub) inner.top.before)
                (ap returns_value (innermost.instr_there table typed effects input ready inner ∙ is))

        gives_it : (z : machine.Word) → IsGivenBack z → Along (Goes (results.state_then table typed effects input ready inner e last is of result source alone_there (z ∷ []) inner.state.memory))
        gives_it z back =
            results.returned_to table typed effects input ready inner e last is of result source alone_there (z ∷ []) inner.state.memory
            (subst (Viewed (home s depth) sees other inner.views (seen s inner.state.memory (value_of (z ∷ []) ∷ in_hand) inner.state.leaks)) (sym facts_same)
            (with_view s ready.accepted.settled inner.state.memory (value_of (z ∷ [])) in_hand view (home s depth) sees other inner.views inner.state.leaks facts_now good.viewed))
            (kept_with_view s ready.accepted.settled inner.state.memory (value_of (z ∷ [])) in_hand view z refl back.typed_there good.kept)
            good.holds one_word inside_left (λ f y some others o. record { word = refl; gone = λ g. g }) (given_below z back)
          where
            one_word : 1 ≡ words s.table of
            one_word =
                let sh = view_shape (shape_of s.table of) view in
                sym (ready.accepted.settled.word_law of ∙ ap (shape_words (words s.table)) sh.3)

        then_gives : (y : Evaluated (List machine.Word)) → Quiet (record { memory = inner.state.memory; waits = [] }) (λ ws. (z : machine.Word) × (ws ≡ z ∷ []) × IsGivenBack z) y
            → Along (steps.evaluated main_turn y (λ ws m. Goes (results.state_then table typed effects input ready inner e last is of result source alone_there ws m)))
        then_gives (Done ws n) (same, (z, word, back)) =
            subst (λ (b : Now). Along (Goes (results.state_then table typed effects input ready inner e last is of result source alone_there ws b.memory))) (sym same)
            (subst (λ b. Along (Goes (results.state_then table typed effects input ready inner e last is of result source alone_there b inner.state.memory))) (sym word) (gives_it z back))
        then_gives (Raises how n) quiet = ((λ trap. trap), raised_well n.memory)
        then_gives (Traps how n) never = absurd never

        view_step : Quiet (record { memory = inner.state.memory; waits = [] }) (λ ws. (z : machine.Word) × (ws ≡ z ∷ []) × IsGivenBack z) (steps.taken_by main_turn of e (start main_turn))
            → Along (steps.hold main_turn (More e last))
        view_step quiet =
            subst Along (sym (hold_is program input main_turn.point inner.state inner.top.frame inner.below.stage.frame inner.rest e last of sub_result))
            (then_gives (steps.taken_by main_turn of e (start main_turn)) quiet)

      -- It changes no facts and nothing in memory.
      abbrev pub GivesQuietly : Type 0
      GivesQuietly =
          IsGood easy sees seeing ready.accepted.settled ready.owns other alone inner.views ready.class.parts_named may refl refl inner.views facts_now easy.state
          × (after (acts_of_main inner.p.instr) facts_now ≡ facts_now)
          × Quiet (record { memory = inner.state.memory; waits = [] }) (λ ws. (z : machine.Word) × (ws ≡ z ∷ []) × IsGivenBack z) (steps.taken_by main_turn of e (start main_turn))

      quietly : IsGood easy sees seeing ready.accepted.settled ready.owns other alone inner.views ready.class.parts_named may refl refl inner.views facts_now easy.state
          → after (acts_of_main inner.p.instr) facts_now ≡ facts_now
          → Quiet (record { memory = inner.state.memory; waits = [] }) (λ ws. (z : machine.Word) × (ws ≡ z ∷ []) × IsGivenBack z) (steps.taken_by main_turn of e (start main_turn)) → GivesQuietly
      quietly good same quiet = (good, same, quiet)

      -- ---- the value

      -- giving changes no facts
      give_same : (m : PlaceName) (b : Bool) (facts : List Fact) → effect (act.Give m b) facts ≡ facts
      give_same m b facts = append-nil (filter (λ g. not (removes (act.Give m b) g)) facts) ∙ all_stay facts
        where
          all_stay : (facts : List Fact) → filter (λ g. not (removes (act.Give m b) g)) facts ≡ facts
          all_stay [] = refl
          all_stay (f ∷ facts) = ap (λ z. f ∷ z) (all_stay facts)

      -- What comes by a name that has no other root than the first formal, or none that isn't refuted.
      comes_back : (d k y : ℕ) (c n o m : Bool) (u : ℕ) (name : PlaceName) (z : machine.Word) → shape_of s.table of ≡ shape.Access k c n → Matches s.table d k
          → ((IsOnlyRoot s (sub_acts (sub_of program inner.top.frame.sub)) y first_formal.0 → ⊥) → ⊥)
          → IsComing easy sees seeing ready.accepted.settled ready.owns other alone inner.views ready.class.parts_named may refl refl y d name z → IsGivenBack z
      comes_back d k y c n o m u name z want fits only coming = record {
        typed_there = λ d' c' n' j shape_there e. (
            let there = coming.typed j e in
            let same : k ≡ d' = same_designated k d' c n c' n' (sym want ∙ shape_there) in
            (there.0, there.1, matches_on s.table d d' (cell inner.state.memory j).of (subst (Matches s.table d) same fits) there.2));
        goes = λ j e. goes_on easy sees seeing ready.accepted.settled ready.owns other alone inner.views ready.class.parts_named may refl refl (sub_acts (sub_of program inner.top.frame.sub)) first_formal.0 first
            formal_view ((inner.above.1).1.0 first_formal.0 first_formal.1).1 y d name z only coming j e;
      }
        where
          same_designated : (k d : ℕ) (a b c n : Bool) → shape.Access k a b ≡ shape.Access d c n → k ≡ d
          same_designated k d a b c n is = cc

      acts_there : acts_of_main inner.p.instr ≡ acts (flow.source_acts s e (λ m. act.Give m (flow.gives_variable s (Some of))))
      acts_there =
          ap acts_of_main is ∙ ap (λ r. acts (flow.returned_acts s r (More e last))) result
          ∙ ap (λ b. acts (if b then flow.source_acts s e (λ m. act.Give m (flow.gives_variable s (Some of))) else acts_in s (More e last))) view

      -- V3, of the act at this point
      only_root : (q : Pos) (y : ℕ) (steps_after : TypedTree) (u : ℕ) → IsSourceName s of e q y steps_after u
          → (IsOnlyRoot s (sub_acts (sub_of program inner.top.frame.sub)) y first_formal.0 → ⊥) → ⊥
      only_root q y steps_after u named_so none =
          standing.given_here table typed effects input ready inner.state inner.top older outer inner.named inner.p inner.frames inner.of_sub inner.at_point (name_of y steps_after) (flow.gives_variable s (Some of))
          (subst (λ z. Has z (act.Give (name_of y steps_after) (flow.gives_variable s (Some of)))) (sym acts_there)
          (source_named s of e q y steps_after u named_so (λ m. act.Give m (flow.gives_variable s (Some of)))))
          (λ f traversed one. none (subst (λ z. IsOnlyRoot s (sub_acts z) y first_formal.0)
          (sym (standing.sub_is table typed effects input ready inner.state inner.top older outer inner.named inner.p inner.frames inner.of_sub inner.at_point))
          (subst (IsOnlyRoot s (sub_acts (flow_sub own inner.named)) y) (same_formal f traversed) one)))
        where
          same_formal : (f : ℕ) → traversed_formal s (flow_sub own inner.named) ≡ Some f → f ≡ first_formal.0
          same_formal f traversed =
              some_is (sym traversed ∙ ap (traversed_formal s) (sym (standing.sub_is table typed effects input ready inner.state inner.top older outer inner.named inner.p inner.frames inner.of_sub inner.at_point)) ∙ first_formal.1)

      allowed_there : AllowsAll facts_now (acts_of_main inner.p.instr)
      allowed_there = results.allowed_then table typed effects input ready inner e last is of result source alone_there

      -- a name
      by_name : Plain × TakesScalars s inner.p.instr → (q : Pos) (y : ℕ) (steps_there : TypedTree) (u : ℕ) → e ≡ Name q y steps_there u → GivesQuietly
      unfolding waits_in
      by_name plain q y steps_there u name =
          let good = each.good table typed effects input ready inner going_then no_call_then plain.0 in
          let looks = names_view easy sees seeing ready.accepted.settled ready.owns other alone inner.views ready.class.parts_named may refl refl q of y u steps_there view (subst (Source s of) name source) in
          let takes : Takes (waits_in steps_there) given_words [] =
          takes_as (taken (Hold (More e last))) (waits_in steps_there) given_words []
          ((λ j. taken (Hold (More (name j) (alone_there j)))) ∙ nothing_more (waits_in steps_there)) (innermost.takes_of table typed effects input ready inner plain.0 (Hold (More e last)) is) in
          let acts_name : acts_of_main inner.p.instr ≡ acts (flow.returned_acts s (Some of) (More (Name q y steps_there u) NoMore)) =
          acts_there ∙ ap (λ z. acts (flow.source_acts s z (λ m. act.Give m (flow.gives_variable s (Some of))))) name
          ∙ ap (λ b. acts (if b then flow.source_acts s (Name q y steps_there u) (λ m. act.Give m (flow.gives_variable s (Some of))) else acts_in s (More (Name q y steps_there u) NoMore))) (sym view) in
          let allowed_name = subst (AllowsAll facts_now) acts_name allowed_there in
          quietly good
          (ap (λ z. after z facts_now) acts_name
          ∙ changes_nothing easy sees seeing ready.accepted.settled ready.owns other alone inner.views ready.class.parts_named may refl refl given_words q of y u steps_there view looks takes facts_now good allowed_name
          ∙ give_same (name_of y steps_there) (flow.gives_variable s (Some of)) facts_now)
          (subst (λ z. Quiet (record { memory = inner.state.memory; waits = [] }) (λ ws. (w : machine.Word) × (ws ≡ w ∷ []) × IsGivenBack w) (steps.taken_by main_turn of z (start main_turn))) (sym name)
          (quiet_on (steps.taken_by main_turn of (Name q y steps_there u) (start main_turn))
          (λ w coming. comes_back looks.d looks.k y looks.e looks.o true true u (name_of y steps_there) w looks.want looks.fits (only_root q y steps_there u (inl name)) coming)
          (name_given easy sees seeing ready.accepted.settled ready.owns other alone inner.views ready.class.parts_named may refl refl given_words q of y u steps_there view looks takes facts_now good allowed_name)))
        where
          quiet_on : {C : machine.Word → Type 0} (a : Evaluated (List machine.Word)) → ((w : machine.Word) → C w → IsGivenBack w)
              → Quiet (record { memory = inner.state.memory; waits = [] }) (λ ws. (w : machine.Word) × (ws ≡ w ∷ []) × C w) a
              → Quiet (record { memory = inner.state.memory; waits = [] }) (λ ws. (w : machine.Word) × (ws ≡ w ∷ []) × IsGivenBack w) a
          quiet_on (Done ws n) into (same, (w, word, c)) = (same, (w, word, into w c))
          quiet_on (Raises how n) into same = same
          quiet_on (Traps how n) into never = never

      -- null
      by_null : Plain × TakesScalars s inner.p.instr → e ≡ TypedNull → GivesQuietly
      unfolding waits_in evaluate
      by_null plain null =
          let good = each.good table typed effects input ready inner going_then no_call_then plain.0 in
          quietly good (ap (λ z. after z facts_now) (acts_there ∙ ap (λ z. acts (flow.source_acts s z (λ m. act.Give m (flow.gives_variable s (Some of))))) null))
          (subst (λ z. Quiet (record { memory = inner.state.memory; waits = [] }) (λ ws. (w : machine.Word) × (ws ≡ w ∷ []) × IsGivenBack w) (steps.taken_by main_turn of z (start main_turn))) (sym null)
          (subst (Quiet (record { memory = inner.state.memory; waits = [] }) (λ ws. (w : machine.Word) × (ws ≡ w ∷ []) × IsGivenBack w)) (sym (null_taken (start main_turn)))
          (nothing_left plain.0, (machine.Null, refl, no_cell))))
        where
          no_cell : IsGivenBack machine.Null
          no_cell = record { typed_there = λ d c n k shape_there same. absurd (null_cell same); goes = λ k same. absurd (null_cell same) }

          takes_nothing : taken (Hold (More e last)) ≡ 0
          takes_nothing = (λ j. taken (Hold (More (null j) (alone_there j))))

          nothing_left : Plain → start main_turn ≡ record { memory = inner.state.memory; waits = [] }
          nothing_left plain_there =
              ap (λ ws. record { memory = inner.state.memory; waits = ws })
              (takes_zero given_words [] (takes_as (taken (Hold (More e last))) 0 given_words [] takes_nothing (innermost.takes_of table typed effects input ready inner plain_there (Hold (More e last)) is)))

          null_taken : (now : Now) → steps.taken_by main_turn of TypedNull now ≡ Done (machine.Null ∷ []) now
          null_taken now = ap (λ c. if c then run.viewed (steps.here main_turn) TypedNull now else followed_by (run.value (steps.here main_turn) TypedNull now) (run.checked (steps.here main_turn) of)) view

      abbrev AreSame : TypedTree → TypedTree → Type 0
      AreSame a b = a ≡ b

      -- what another one gave
      by_call : TakesAlone s inner.p → (q : Pos) (y : ℕ) (steps_there : TypedTree) (u : ℕ) (r : Pos) (n : ℕ) (more : TypedTree) → e ≡ CallIn r n (More (Name q y steps_there u) more)
          → GivesView s n of → GivesQuietly
      unfolding evaluate
      by_call alone_taken q y steps_there u r n more call gives = elim alone_taken.8 [
        | inl (x, other_instr) ↦ (let never : Hold (More e last) ≡ Declare x (More (CallIn alone_taken.3 alone_taken.4 alone_taken.5) NoMore) = sym is ∙ other_instr in absurd (false≢true (ap is_declare_instruction never)))
        | inr (inl (k, x, steps_of, w, other_instr, calls)) ↦ (
            let never : Hold (More e last) ≡ Assign (Name k x steps_of w) (CallIn alone_taken.3 alone_taken.4 alone_taken.5) = sym is ∙ other_instr in absurd (false≢true (ap is_assign_instruction never)))
        | inr (inr same_instr) ↦ (
            let both : Hold (More e last) ≡ Hold (More (CallIn alone_taken.3 alone_taken.4 alone_taken.5) NoMore) = sym is ∙ same_instr in
            let same_call : e ≡ CallIn alone_taken.3 alone_taken.4 alone_taken.5 = more_first (hold_same both) in
            by_held (sym same_call ∙ call) (sym same_call))
      ]
        where
          given_here : AreGiven s (view_here s inner.state) depth inner.p.instr inner.views inner.top.frame.waits
          given_here = subst (λ d. AreGiven s (view_here s inner.state) d inner.p.instr inner.views inner.top.frame.waits) inner.deep ((inner.above.1).0.0 inner.named inner.of_sub inner.p inner.at_point)

          call_taken : (now : Now) (word : machine.Word) (a : Pos) (b : ℕ) (actuals : TypedTree) → now.waits ≡ (word ∷ []) ∷ []
              → steps.taken_by main_turn of (CallIn a b actuals) now ≡ Done (word ∷ []) (record { memory = now.memory; waits = [] })
          call_taken now word a b actuals words_there =
              ap (λ c. if c then run.viewed (steps.here main_turn) (CallIn a b actuals) now else followed_by (run.value (steps.here main_turn) (CallIn a b actuals) now) (run.checked (steps.here main_turn) of)) view
              ∙ (let call_there : TypedTree = CallIn a b actuals in ap (λ ws. run.viewed (steps.here main_turn) call_there (record { memory = now.memory; waits = ws })) words_there)

          by_held : AreSame (CallIn alone_taken.3 alone_taken.4 alone_taken.5) (CallIn r n (More (Name q y steps_there u) more)) → AreSame (CallIn alone_taken.3 alone_taken.4 alone_taken.5) e
              → GivesQuietly
          by_held call_is held_is =
              let good = taking.good_there table typed effects input ready inner going_then no_call_then alone_taken given_here of n q r steps_there u more y call_is gives in
              let coming = taking.coming table typed effects input ready inner going_then no_call_then alone_taken given_here of n q r steps_there u more y call_is gives in
              let word = taking.word_there table typed effects input ready inner going_then no_call_then alone_taken given_here of n q r steps_there u more y call_is gives in
              let words_there = taking.words_there table typed effects input ready inner going_then no_call_then alone_taken given_here of n q r steps_there u more y call_is gives in
              let root = taking.root_same table typed effects input ready inner going_then no_call_then alone_taken given_here of n q r steps_there u more y call_is gives in
              let c = taking.call_there table typed effects input ready inner going_then no_call_then alone_taken given_here of n q r steps_there u more y call_is gives in
              quietly good
              (ap (λ z. after z facts_now) (acts_there ∙ ap (λ z. acts (flow.source_acts s z (λ m. act.Give m (flow.gives_variable s (Some of))))) call)
              ∙ give_same (name_of y steps_there) (flow.gives_variable s (Some of)) facts_now)
              (subst (Quiet (record { memory = inner.state.memory; waits = [] }) (λ ws. (w : machine.Word) × (ws ≡ w ∷ []) × IsGivenBack w))
              (sym (ap (λ z. steps.taken_by main_turn of z (start main_turn)) (sym held_is) ∙ call_taken (start main_turn) word alone_taken.3 alone_taken.4 alone_taken.5 words_there)) (
                refl,
                (
                  word,
                  refl,
                  comes_back gives.d gives.k c.root gives.e gives.o true true u (traversed_name c) word gives.want gives.fits
                      (λ none. only_root q y steps_there u (inr (r, n, more, call, gives)) (λ one. none (subst (λ z. IsOnlyRoot s (sub_acts (sub_of program inner.top.frame.sub)) z first_formal.0) (sym root) one))) coming,
                ),
              ))

      -- ---- by what is returned

      not_alone : TakesAlone s inner.p → ((a : Pos) (b : ℕ) (actuals : TypedTree) → e ≡ CallIn a b actuals → ⊥) → ⊥
      not_alone alone_taken no_call = elim alone_taken.8 [
        | inl (x, other_instr) ↦ (let never : Hold (More e last) ≡ Declare x (More (CallIn alone_taken.3 alone_taken.4 alone_taken.5) NoMore) = sym is ∙ other_instr in absurd (false≢true (ap is_declare_instruction never)))
        | inr (inl (k, x, steps_of, w, other_instr, calls)) ↦ (
            let never : Hold (More e last) ≡ Assign (Name k x steps_of w) (CallIn alone_taken.3 alone_taken.4 alone_taken.5) = sym is ∙ other_instr in absurd (false≢true (ap is_assign_instruction never)))
        | inr (inr same_instr) ↦ (
            let both : Hold (More e last) ≡ Hold (More (CallIn alone_taken.3 alone_taken.4 alone_taken.5) NoMore) = sym is ∙ same_instr in
            let same_call : e ≡ CallIn alone_taken.3 alone_taken.4 alone_taken.5 = more_first (hold_same both) in
            no_call alone_taken.3 alone_taken.4 alone_taken.5 same_call)
      ]

      not_together : TakesTogether s inner.named.sub.result inner.p → ⊥
      not_together together = elim together.1 [
        | inl (x, other_instr, owner) ↦ (let never : Hold (More e last) ≡ Declare x (More together.0 NoMore) = sym is ∙ other_instr in absurd (false≢true (ap is_declare_instruction never)))
        | inr (inl (k, x, steps_of, w, other_instr, place, scalar)) ↦ (let never : Hold (More e last) ≡ Assign (Name k x steps_of w) together.0 = sym is ∙ other_instr in absurd (false≢true (ap is_assign_instruction never)))
        | inr (inr (same_instr, plain_result)) ↦ true_false (is_anonymous (full s.table of)) view (plain_result of result)
      ]

      not_plain : (r : Pos) (n : ℕ) (actuals : TypedTree) → e ≡ CallIn r n actuals → GivesView s n of → TakesScalars s inner.p.instr → ⊥
      unfolding GivesPlainly
      not_plain r n actuals call gives plainly =
          let held : GivesPlainly s (More e last) = subst (TakesScalars s) is plainly in
          let of_call : GivesPlainly s (CallIn r n actuals) = subst (GivesPlainly s) call held.0 in
          view_scalar (shape_of s.table gives.result) gives.anonymous (of_call gives.result gives.result_is)

      pub returns_quietly : GivesQuietly
      returns_quietly = elim (ready.traversing.returned inner.top.frame.sub (inner.running.0).entered inner.named inner.of_sub inner.p (innermost.point_there_now table typed effects input ready inner) e last is of result view) [
        | inl null ↦ elim (innermost.taken_there table typed effects input ready inner no_call_then) [
          | inl plain ↦ by_null plain null
          | inr (inr within) ↦ absurd (not_together within)
          | inr (inl alone_taken) ↦ absurd (not_alone alone_taken (λ a b actuals call. null_call (sym null ∙ call)))
        ]
        | inr (q, y, steps_there, u, inl name) ↦ elim (innermost.taken_there table typed effects input ready inner no_call_then) [
          | inl plain ↦ by_name plain q y steps_there u name
          | inr (inr within) ↦ absurd (not_together within)
          | inr (inl alone_taken) ↦ absurd (not_alone alone_taken (λ a b actuals call. name_call (sym name ∙ call)))
        ]
        | inr (q, y, steps_there, u, inr (r, n, more, call, gives)) ↦ elim (innermost.taken_there table typed effects input ready inner no_call_then) [
          | inl plain ↦ absurd (not_plain r n (More (Name q y steps_there u) more) call gives plain.1)
          | inr (inr within) ↦ absurd (not_together within)
          | inr (inl alone_taken) ↦ by_call alone_taken q y steps_there u r n more call gives
        ]
      ]

      pub view_returned : Along (steps.hold main_turn (More e last))
      view_returned = view_step returns_quietly.0 returns_quietly.1 returns_quietly.2

    pub return_step : (e last : TypedTree) → inner.p.instr ≡ Hold (More e last) → Along (turn main_turn (Hold (More e last)))
    return_step e last is = by_result inner.named.sub.result refl (subst (IsFine s inner.named.sub.result) is (standing.fine table typed effects input ready inner.state inner.top older outer inner.named inner.p inner.frames inner.of_sub inner.at_point))
      where
        no_call_holding : IsNoCall inner.p.instr
        no_call_holding n actuals r same = (let never : Hold (More e last) ≡ Call n actuals r = sym is ∙ same in absurd (false≢true (ap is_call_instruction never)))

        by_result : (r : Option ℕ) → inner.named.sub.result ≡ r → Returns s r (More e last) → Along (steps.hold main_turn (More e last))
        by_result None none never = absurd (more_none never)
        by_result (Some of) result (value_there, same, source) =
            let value_is : value_there ≡ e = sym (more_first same) in
            let source_here : Source s of e = subst (Source s of) value_is source in
            let last_is : last ≡ NoMore = more_rest same in
            elim (bool_cases (is_anonymous (full s.table of))) [
              | inl view ↦ view_returned e last is of result source_here last_is view
              | inr plain_result ↦ results.value_step table typed effects input ready inner e last is of result source_here last_is plain_result (elim (innermost.taken_there table typed effects input ready inner no_call_holding) [
                | inl plain ↦ results.plain_given table typed effects input ready inner e last is of result source_here last_is plain_result plain
                | inr (inl alone_taken) ↦ results.alone_given table typed effects input ready inner e last is of result source_here last_is plain_result alone_taken
                | inr (inr within) ↦ results.within_given table typed effects input ready inner e last is of result source_here last_is plain_result within
              ])
            ]
