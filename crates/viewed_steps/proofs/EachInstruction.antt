-- Each instruction leads on, but calls and their ends, operands that wait, returns with a value, and
-- ends of scopes.
use Rattle.viewed_steps.proofs.Traversed.{declared_source, assigned_source}
use Rattle.machine.specs.flow_paths.Views.{sub_acts}
use Rattle.soundness.proofs.Passing.{plain_type}
use Rattle.std.proofs.Common.{◌≡◌, refl, sym, ap, ◌∙◌, subst, ◌⊎◌, inl, inr, ℕ, suc, ◌+◌, ◌<◌, Bool, true, false, not, ◌||◌, List, [], ◌∷◌, ◌++◌, map, drop, length, arith, append-nil, Option, Some, None, nat_lt, int_le, ◌&&◌, if◌then◌else◌, take}
use Rattle.std.proofs.lemmas.Bool.{false≢true, true≢false}
use Rattle.machine.specs.spark_base.Lists.{Has}
use Rattle.machine.specs.spark_base.declared.position.Pos.{Pos}
use Rattle.machine.specs.place_names.declared.act.Act.{Act}
use Rattle.machine.specs.place_names.declared.act.Act.TheVariants as act
use Rattle.machine.specs.place_names.declared.act.Placed.{Placed}
use Rattle.machine.specs.place_names.declared.fact.Fact.{Fact}
use Rattle.machine.specs.place_names.declared.fact.Fact.TheVariants.{Moved}
use Rattle.machine.specs.place_names.declared.rule.Loan.{Loan}
use Rattle.machine.specs.place_names.Names.{Name as PlaceName}
use Rattle.machine.specs.type_definitions.Types.{Table, is_scalar, full, shape_of}
use Rattle.machine.specs.type_definitions.declared.table.Shape.TheVariants as shape
use Rattle.machine.specs.typed_tree.Trees.{TypedTree, TypedCode, Name, Call as CallIn, NoMore, More}
use Rattle.machine.specs.typed_tree.Programs.{TypedProgram}
use Rattle.machine.specs.flow_paths.declared.report.Effects.{Effects}
use Rattle.machine.specs.flow_paths.Instructions.{Instruction, Skip, Declare, Assign, Call, Output, Input, Release, Test, Choose, Start, Next, Evaluate, LeaveLoop, Hold, EndScope, Finish, Fall}
use Rattle.machine.specs.flow_paths.Objects.{Typing, object_at, sub_at, is_anonymous, is_package_object, is_observer, view_of, has_scope_end, is_variable}
use Rattle.machine.specs.flow_paths.Names.{has_call, waiting as waits_in, name_of}
use Rattle.machine.specs.flow_paths.Acts as flow
use Rattle.machine.specs.flow_paths.Acts.{acts_in}
use Rattle.machine.specs.flow_paths.Laid.{FlowProgram, number_in, flow_typing, flow_program}
use Rattle.machine.specs.flow_paths.Scopes.{taken, brought, scope_behind, is_within, is_last, is_ready}
use Rattle.soundness.specs.run_values.Items.{next_item}
use Rattle.machine.specs.Words.{fits_type}
use Rattle.machine.specs.Words as machine
use Rattle.machine.specs.Memory.{Memory, given_up, declared, stored, words_of}
use Rattle.machine.specs.Evaluate.{Exception, ConstraintError, ProgramError, Evaluated, Done, followed_by, value, place_of, text_of}
use Rattle.machine.specs.Evaluate as run
use Rattle.machine.specs.Calls.{checks_at}
use Rattle.machine.specs.States.{Waiting, Frame, State, Outcome, Goes, Ends, sub_of}
use Rattle.machine.specs.Step.{Turn, turn, start}
use Rattle.machine.specs.Step as steps
use Rattle.machine.specs.Typed.{successors}
use Rattle.machine.specs.Owners.{WellOwned, waiting_in}
use Rattle.soundness.specs.OwnedWays.Ways.{Step, OfVariable, OfRoot, Way, Held, after, AllowsAll, along, number_of}
use Rattle.soundness.specs.OwnedWays.Ways as ways
use Rattle.soundness.proofs.OwnedWays.Locations.{reaches_along, named_along as rooted_along}
use Rattle.soundness.proofs.OwnedWays.Dropped.{named_base}
use Rattle.soundness.specs.Seen.{IsNear, content, word_in, home}
use Rattle.soundness.specs.Typed.{Kept}
use Rattle.soundness.specs.TypedLaws.Needed.{IsFine, Stays, Source, FirstSource, FirstWrites, FirstStays, Returns}
use Rattle.soundness.specs.Sound.{IsNoCall, Stage, facts_of, IsAtPoint, view_of as view_here, is_temporary_object}
use Rattle.soundness.specs.Ready.{stored_at, Fills, IsSupplied}
use Rattle.soundness.proofs.Contents.{bool_cases, word_root}
use Rattle.soundness.proofs.Scalars.{acts, acts_append}
use Rattle.soundness.proofs.Scoped.{MayHold, Inside}
use Rattle.soundness.proofs.Inherited.{Splits, after_splits}
use Rattle.soundness.proofs.Around.{IsFar}
use Rattle.soundness.proofs.Following.{Each}
use Rattle.soundness.proofs.Onward.{GoesOn, declare_follows, assign_follows, release_follows, input_follows, test_follows, choose_follows, stays_follows, output_follows, start_follows, next_follows}
use Rattle.soundness.proofs.Waits.{drop_none}
use Rattle.soundness.proofs.Taking.{Takes, takes_as, takes_both, nothing_more}
use Rattle.soundness.proofs.Eased.{eased, waits_same, goes_same, from_eased}
use Rattle.soundness.proofs.Continued.{got_with, released_with, started_with, input_eased, release_eased, start_eased}
use Rattle.soundness.proofs.Successors.{not_true, below_one, below_two}
use Rattle.soundness.specs.OwnedLoans.Views.{Around, Viewed, Unused, IsForeign}
use Rattle.soundness.specs.ViewedSoundness.Holds.{AllKeep, is_view, is_fixed, Seeing}
use Rattle.soundness.proofs.ViewedSoundness.ViewKinds.{plain_named, true_false}
use Rattle.soundness.proofs.ViewedSoundness.Evaluated.{keep_both}
use Rattle.soundness.proofs.ViewedSoundness.Outcomes.{named_plain, IsGood, Leads_on, decides_on, choose_on, assign_on}
use Rattle.viewed_steps.specs.Awaited.{AreValues, temporaries_of, is_held, lasting_of, AreScalar, TakesScalars}
use Rattle.viewed_steps.proofs.Waited.{lasting_within, within_lasting}
use Rattle.viewed_steps.specs.Sound.{Lasts, ArePlaced, ViewStage, GoneElsewhere, IsStoredAt}
use Rattle.viewed_steps.specs.Ready.{AreOrderly, IsReady}
use Rattle.viewed_steps.proofs.Declared.{IsElsewhere, not_gone, declare_on}
use Rattle.viewed_steps.proofs.Released.{released_on}
use Rattle.viewed_steps.proofs.Read.{got_on, scalar_named}
use Rattle.viewed_steps.proofs.Rounds.{skip_leads, line_leads, next_leads, output_on, started_on}
use Rattle.viewed_steps.proofs.Lent.{Spare, spare_acts}
use Rattle.viewed_steps.proofs.Placed.{brought_more, lasts_more, MayBe}
use Rattle.soundness.specs.ViewedSoundness.Taken.{GivesPlainly}
use Rattle.viewed_steps.specs.Traversals.{GivesView, IsSourceIn}
use Rattle.viewed_steps.proofs.Sources.{leads_or, view_scalar, view_declared, view_assigned}
use Rattle.viewed_steps.proofs.Beside.{IsOther}
use Rattle.viewed_steps.proofs.Waiting.{StandsBetween, beside_them, handed, apart_elsewhere}
use Rattle.viewed_steps.proofs.Standing as standing
use Rattle.viewed_steps.proofs.Packages as packages
use Rattle.viewed_steps.proofs.Innermost as innermost
use Rattle.viewed_steps.proofs.Views.{AreAccess, all_held, anonymous_view, view_ends, lies_far}
use Rattle.viewed_steps.specs.Seeing.{sees_in}
use Rattle.viewed_steps.proofs.Sees.{sees_seeing}
use Rattle.viewed_steps.proofs.InnerFrame.{InnerFrame}
use Rattle.soundness.proofs.Parted.{by_either}

last_within : (x : ℕ) (scope : List ℕ) → is_last x scope ≡ true → is_within x scope ≡ true
last_within x [] last = absurd (false≢true last)
last_within x (y ∷ scope) last = ap (λ b. b || is_within x scope) last

same_roots : (f x g y : ℕ) → ways.OfRoot (OfVariable f x) ≡ ways.OfRoot (OfVariable g y) → (f ≡ g) × (x ≡ y)
same_roots f x g y e = (cc, cc)

module _ (table : Table) (typed : TypedProgram) (effects : Effects) (input : List ℕ) (ready : IsReady table typed effects) where
  abbrev sees : ℕ → Bool
  sees = sees_in (flow_program table typed)

  abbrev seeing : Seeing (flow_typing (flow_program table typed)) sees
  seeing = sees_seeing (flow_program table typed)

  abbrev program : FlowProgram
  program = flow_program table typed

  abbrev s : Typing
  s = flow_typing program

  abbrev in_formals : AreAccess s
  in_formals = standing.in_formals table typed effects input ready

  abbrev local : (x : ℕ) → is_view s x ≡ true → is_package_object s x ≡ false
  local = standing.local table typed effects input ready

  abbrev unmoved_stage : (e : Stage) → e.frame.sub ≡ 0 → (name : PlaceName) → Has (facts_of program effects e) (Moved name) → ⊥
  unmoved_stage = packages.unmoved_stage table typed effects input ready

  module _ (inner : InnerFrame table typed effects) where
    abbrev outer : List Frame
    outer = inner.below.stage.frame ∷ inner.rest

    abbrev older : List ViewStage
    older = inner.below ∷ inner.more_frames

    abbrev depth : ℕ
    depth = suc (length inner.rest)

    abbrev between : (g : ViewStage) → Has (inner.below ∷ inner.more_frames) g → StandsBetween table typed effects unmoved_stage local inner.state (suc (length inner.rest)) (inner.below ∷ inner.more_frames) g
    between = innermost.between table typed effects input ready inner

    abbrev other : Around (home s (suc (length inner.rest)))
    other = beside_them table typed effects unmoved_stage local inner.state (suc (length inner.rest)) (inner.below ∷ inner.more_frames) between

    abbrev alone : (w : Way) → IsNear (suc (length inner.rest)) w → IsFar (suc (length inner.rest)) (GoneElsewhere program effects (inner.below ∷ inner.more_frames)) w → ⊥
    alone = innermost.alone table typed effects input ready inner

    abbrev main_turn : Turn
    main_turn = standing.t table typed effects input ready inner.state inner.top older outer inner.named inner.p inner.frames inner.of_sub inner.at_point

    abbrev own_facts : List Fact
    own_facts = standing.facts table typed effects input ready inner.state inner.top older outer inner.named inner.p inner.frames inner.of_sub inner.at_point inner.path

    abbrev handed_on : List Fact
    handed_on = handed table typed effects unmoved_stage local inner.state (suc (length inner.rest)) (inner.below ∷ inner.more_frames) between

    abbrev facts_now : List Fact
    facts_now = own_facts ++ handed_on

    abbrev from_both : Splits facts_now own_facts handed_on
    from_both = innermost.from_both table typed effects input ready inner

    abbrev acts_of_main : Instruction → List Act
    acts_of_main i = standing.acts_here table typed effects input ready inner.state inner.top older outer inner.named inner.p inner.frames inner.of_sub inner.at_point i

    abbrev viewed : Viewed (home s depth) sees other inner.views (view_here s inner.state) facts_now
    viewed = innermost.viewed table typed effects input ready inner

    abbrev placed : ArePlaced program (suc (length inner.rest)) facts_now inner.views inner.p.scope
    placed = innermost.placed table typed effects input ready inner

    abbrev not_handed : (name : PlaceName) → Has handed_on (Moved name) → ⊥
    not_handed = innermost.not_handed table typed effects input ready inner

    abbrev none_takes : (i : Instruction) → inner.p.instr ≡ i → taken i ≡ 0 → taken main_turn.point.instr ≡ 0
    none_takes = innermost.none_takes table typed effects input ready inner

    abbrev left_scope : List ℕ
    left_scope = drop (taken inner.p.instr) inner.p.scope

    abbrev given_words : List (List machine.Word)
    given_words = (start main_turn).waits

    abbrev Plain : Type 0
    Plain = AreScalar s (temporaries_of s (take (taken inner.p.instr) inner.p.scope))

    abbrev Plainly : Type 0
    Plainly = Plain × TakesScalars s inner.p.instr

    abbrev takes_of : Plain → (i : Instruction) → inner.p.instr ≡ i → Takes (taken i) given_words []
    takes_of = innermost.takes_of table typed effects input ready inner

    abbrev easy : Turn
    easy = eased main_turn

    abbrev viewed_easy : Plain → Viewed (home s depth) sees other inner.views (view_here s easy.state) facts_now × Kept s inner.state.memory (waiting_in easy.state)
    viewed_easy = innermost.viewed_easy table typed effects input ready inner

    abbrev Left : List Waiting → Type 0
    Left waits = AreValues s waits (scope_behind inner.p)

    abbrev raised_well : (m : Memory) → WellOwned s (steps.counted (record inner.state { memory = given_up inner.state.memory m }))
    raised_well = innermost.raised_well table typed effects input ready inner

    abbrev orderly : AreOrderly program inner.p (λ q. (n : ℕ) × Has (map (number_in inner.named.points) inner.p.next) n × IsAtPoint inner.named.points n q)
    orderly = innermost.orderly table typed effects input ready inner

    abbrev IsOld : ℕ → ℕ → Type 0
    IsOld f x =
        (f < suc (length inner.rest)) × ((f ≡ 0)
        ⊎ ((q : List Step) × (k : ℕ) × (word_in s.table (content s inner.state.memory [] (OfRoot (OfVariable f x))) q ≡ Held k)))

    abbrev inside_left : Inside s IsOld inner.state.memory depth (lasting_of s left_scope)
    inside_left = innermost.inside_left table typed effects input ready inner

    abbrev home_frame : (x : ℕ) → is_package_object s x ≡ false → home s depth x ≡ depth
    home_frame = innermost.home_frame table typed effects input ready inner

    abbrev may_hold : (x : ℕ) (in_there : List ℕ) → (is_package_object s x ≡ true) ⊎ (is_within x in_there ≡ true) → MayHold s IsOld depth in_there (home s depth x) x
    may_hold = innermost.may_hold table typed effects input ready inner

    abbrev with_successors : (i : Instruction) (n : ℕ) → inner.p.instr ≡ i → n < successors i → n < successors main_turn.point.instr
    with_successors = innermost.with_successors table typed effects input ready inner

    abbrev same_scope : (x : ℕ) → is_within x (lasting_of s left_scope) ≡ true → is_within x (lasting_of s left_scope) ≡ true
    same_scope = innermost.same_scope table typed effects input ready inner

    abbrev one_more : (y x : ℕ) → is_within x (lasting_of s left_scope) ≡ true → is_within x (lasting_of s (y ∷ left_scope)) ≡ true
    one_more = innermost.one_more table typed effects input ready inner

    abbrev new_there : (x : ℕ) → is_within x (x ∷ left_scope) ≡ true
    new_there = innermost.new_there table typed effects input ready inner

    abbrev new_one : (x : ℕ) → is_temporary_object s x ≡ false → is_within x (lasting_of s (x ∷ left_scope)) ≡ true
    new_one = innermost.new_one table typed effects input ready inner

    abbrev variable_stays : (x : ℕ) → is_variable (object_at s x).kind ≡ true → is_held s x ≡ false
    variable_stays = innermost.variable_stays table typed effects input ready inner

    abbrev supplied_here : IsSupplied s inner.p
    supplied_here = innermost.supplied_here table typed effects input ready inner

    abbrev stored_which : (i : Instruction) → inner.p.instr ≡ i → (x : ℕ) → Has (stored_at i) x → (is_package_object s x ≡ true) ⊎ (is_within x left_scope ≡ true)
    stored_which = innermost.stored_which table typed effects input ready inner

    abbrev stored_there : (i : Instruction) → inner.p.instr ≡ i → (x : ℕ) → Has (stored_at i) x → MayHold s IsOld depth (lasting_of s left_scope) (home s depth x) x
    stored_there = innermost.stored_there table typed effects input ready inner

    abbrev ready_there : (i : Instruction) → inner.p.instr ≡ i → is_ready inner.p i ≡ true
    ready_there = innermost.ready_there table typed effects input ready inner

    -- ---- an instruction that is neither the end of a scope nor a call

    module _ (going : (x : ℕ) → inner.p.instr ≡ EndScope x → ⊥) (no_calls : IsNoCall inner.p.instr) where
      abbrev pub may : ℕ → ℕ → Type 0
      may x y = MayBe program (scope_behind inner.p) x y × IsStoredAt inner.p.instr x × IsSourceIn (sub_acts (sub_of program inner.top.frame.sub)) x y

      pub more : (y : ℕ) → is_within y left_scope ≡ true → is_within y (scope_behind inner.p) ≡ true
      more y within = brought_more inner.p.instr going left_scope y within

      pub lasts_behind : (r z : ℕ) → Lasts program inner.p.scope r z → Lasts program (scope_behind inner.p) r z
      lasts_behind r z lasts = lasts_more program left_scope (scope_behind inner.p) r z more ((innermost.lasts_left table typed effects input ready inner) r z lasts)

      abbrev pub Good : List Fact → State → Type 0
      Good fs st = IsGood easy sees seeing ready.accepted.settled ready.owns other alone inner.views ready.class.parts_named may refl refl inner.views fs st

      abbrev pub LeadsFrom : Instruction → Outcome → Type 0
      LeadsFrom i outcome = Leads_on easy sees seeing ready.accepted.settled ready.owns other alone inner.views ready.class.parts_named may refl refl (after (acts_of_main i) facts_now) outcome

      abbrev pub GoesFrom : Left (steps.waiting main_turn) → Instruction → Outcome → Type 0
      GoesFrom left i outcome = Each (GoesOn main_turn Left left IsOld (lasting_of s left_scope) (lasting_of s (brought i left_scope)) inside_left) outcome

      abbrev pub Both : Left (steps.waiting main_turn) → Instruction → Type 0
      Both left i = LeadsFrom i (turn main_turn i) × GoesFrom left i (turn main_turn i)

      pub good : Plain → Good facts_now easy.state
      good plain = record {
        viewed = (viewed_easy plain).0;
        kept = (viewed_easy plain).1;
        holds = all_held s sees in_formals depth inner.views inner.state.memory (λ x n view bare e. inner.holds.held x n (λ fading. going fading.0 fading.1) view bare e) inner.holds.only inner.holds.owners inner.holds.own inner.holds.taken inner.holds.parts;
      }

      pub ends_so : (i : Instruction) (how : Exception) (m : Memory) → LeadsFrom i (steps.raised main_turn how m)
      ends_so i how m = ((λ trap. trap), raised_well m)

      pub from_easy : (i : Instruction) {A : Type 0} (y : Evaluated A) (f g : A → Memory → Outcome) → ((a : A) (m : Memory) → LeadsFrom i (f a m) → LeadsFrom i (g a m))
          → LeadsFrom i (steps.evaluated easy y f) → LeadsFrom i (steps.evaluated main_turn y g)
      from_easy i y f g same on = from_eased main_turn (LeadsFrom i) (ends_so i) (λ trap m on. on.0 tt) y f g same on

      pub goes_too : (i : Instruction) (m : Memory) (k : ℕ) → LeadsFrom i (steps.goes easy m k) → LeadsFrom i (steps.goes main_turn m k)
      goes_too i m k on = subst (LeadsFrom i) (goes_same main_turn m k) on

      -- where nothing is taken, the step is like it is
      module _ (nothing : taken main_turn.point.instr ≡ 0) where
        abbrev Leads_main : List Fact → Outcome → Type 0
        Leads_main fs outcome = Leads_on main_turn sees seeing ready.accepted.settled ready.owns other alone inner.views ready.class.parts_named may inner.frames nothing fs outcome

        good_main : IsGood main_turn sees seeing ready.accepted.settled ready.owns other alone inner.views ready.class.parts_named may inner.frames nothing inner.views facts_now inner.state
        good_main = record {
          viewed = viewed;
          kept = inner.kept;
          holds = all_held s sees in_formals depth inner.views inner.state.memory (λ x n view bare e. inner.holds.held x n (λ fading. going fading.0 fading.1) view bare e) inner.holds.only inner.holds.owners inner.holds.own inner.holds.taken inner.holds.parts;
        }

        to_easy : (fs : List Fact) (outcome : Outcome) → Leads_main fs outcome → Leads_on easy sees seeing ready.accepted.settled ready.owns other alone inner.views ready.class.parts_named may refl refl fs outcome
        to_easy fs (Goes st) (turned_views, turned, well) = (
          turned_views,
          (
            λ x w e. by_either (turned.0 x w e)
                (λ same_view. (inl (record { way = same_view.way; loan = same_view.loan; up = same_view.up })))
                (λ (y, from, comes). (inr (y, from, record { up = comes.up; root = comes.root; loan = comes.loan; under = comes.under }))),
            turned.1,
          ),
          record { viewed = well.viewed; kept = well.kept; holds = well.holds },
        )
        to_easy fs (Ends how st) leads = leads

        skips_so : Leads_on easy sees seeing ready.accepted.settled ready.owns other alone inner.views ready.class.parts_named may refl refl facts_now (turn main_turn Skip)
        skips_so =
            to_easy facts_now (turn main_turn Skip)
            (skip_leads main_turn sees seeing ready.accepted.settled ready.owns other alone in_formals inner.views ready.class.parts_named may inner.frames nothing facts_now good_main)

      -- ---- declarations

      not_within : (x : ℕ) (v : TypedTree) → inner.p.instr ≡ Declare x v → is_within x inner.p.scope ≡ true → ⊥
      not_within x v e within =
          let out : not (is_within x inner.p.scope) ≡ true = ready_there (Declare x v) e in
          let no : true ≡ false = sym within ∙ not_true (is_within x inner.p.scope) out in absurd (true≢false no)

      -- nothing that is there is rooted in an object that is declared
      unrooted : (x : ℕ) (v : TypedTree) → inner.p.instr ≡ Declare x v → (r z : ℕ) → is_package_object s x ≡ false → Lasts program inner.p.scope r z → r ≡ x → ⊥
      unrooted x v e r z mine (inl shared) same_root = true_false (is_package_object s x) (ap (is_package_object s) (sym same_root) ∙ shared) mine
      unrooted x v e r z mine (inr (within, end, around, plain)) same_root = not_within x v e (subst (λ z. is_within z inner.p.scope ≡ true) same_root within)

      free_views : (x : ℕ) (v : TypedTree) → inner.p.instr ≡ Declare x v → (y : ℕ) (w : Way) → inner.views.way y ≡ Some w → IsElsewhere (home s depth) depth x w
      free_views x v e y w has here at_home root = by_package (is_package_object s x) refl
        where
          by_package : (b : Bool) → is_package_object s x ≡ b → ⊥
          by_package true shared = (let first : home s depth x ≡ 0 = ap (λ b. if b then 0 else depth) shared in omega (arith, first, at_home))
          by_package false mine = unrooted x v e (number_of w) y mine ((placed y w has).root here) root

      -- no part of a formal has a way from such an object
      free_parts : (x y : ℕ) (q : List Step) (w : Way) → inner.views.part_way y q ≡ Some w → ways.base_of w ≡ ways.OfRoot (OfVariable depth x) → ⊥
      free_parts x y q w has base = by_either (inner.holds.low y q w has).0
          (λ at. (
          let same = same_roots (home s depth (number_of w)) (number_of w) depth x (sym (named_base (home s depth) w at) ∙ base) in
          let first : home s depth (number_of w) ≡ 0 = ap (λ b. if b then 0 else depth) ((inner.holds.low y q w has).1 at) in
          let frames_are = same.0 in omega (arith, first, frames_are)))
          (λ (foreign, less, some). (let same = same_roots foreign.0 foreign.1 depth x (sym foreign.2 ∙ base) in let frames_are = same.0 in omega (arith, less, frames_are)))

      pub free : (x : ℕ) (v : TypedTree) → inner.p.instr ≡ Declare x v
          → ((y : ℕ) (w : Way) → inner.views.way y ≡ Some w
          → ((foreign : IsForeign (home s depth) w) → foreign.0 ≡ depth → ⊥) × IsElsewhere (home s depth) depth x w)
          × ((l : Loan) (name : PlaceName) → other.lent l name → name.root ≡ x → depth ≡ home s depth x → ⊥)
          × ((y : ℕ) (q : List Step) (w : Way) → inner.views.part_way y q ≡ Some w → ways.base_of w ≡ ways.OfRoot (OfVariable depth x) → ⊥)
      free x v e = (
        λ y w has. ((λ foreign same. (let low = (lies_far s depth inner.views inner.holds.lies inner.holds.low).0 y w has foreign in omega (arith, low, same))), free_views x v e y w has),
        (innermost.not_lent_home table typed effects input ready inner) x,
        free_parts x,
      )

      pub unused : (x : ℕ) (v : TypedTree) → inner.p.instr ≡ Declare x v → is_package_object s x ≡ false → Unused (home s depth) other.lent inner.views facts_now x
      unused x v e mine = record {
        unmoved = λ name has root. elim (from_both (Moved name) has) [
          | inl mine_fact ↦ packages.new_before table typed effects input ready inner.state inner.top older outer inner.named inner.p inner.frames inner.of_sub inner.at_point inner.path x v e name mine_fact root
          | inr there ↦ not_handed name there
        ];
        unlent = (innermost.not_lent table typed effects input ready inner) x mine;
        untaken = λ z w has named_there off root. unrooted x v e (number_of (inner.views.up z)) z mine ((placed z w has).up named_there) root;
      }

      pub unmoved_now : (x : ℕ) (v : TypedTree) → inner.p.instr ≡ Declare x v → (name : PlaceName) → Has facts_now (Moved name) → name.root ≡ x → depth ≡ home s depth x → ⊥
      unmoved_now x v e name has root at_home = elim (from_both (Moved name) has) [
        | inl mine ↦ packages.new_before table typed effects input ready inner.state inner.top older outer inner.named inner.p inner.frames inner.of_sub inner.at_point inner.path x v e name mine root
        | inr there ↦ absurd (not_handed name there)
      ]

      pub blank : (x : ℕ) (v : TypedTree) → inner.p.instr ≡ Declare x v → (q : List Step) (w : ways.Word)
          → word_in s.table (content s inner.state.memory [] (OfRoot (OfVariable depth x))) q ≡ w
          → word_in s.table (content s inner.state.memory [] (OfRoot (OfVariable depth x))) q ≡ ways.Empty
      blank x v e q ways.Empty is = is
      blank x v e q (ways.Held n) is = absurd (elim (inner.scope depth x q n is) [
        | inl less ↦ omega (arith, less)
        | inr mine ↦ not_within x v e (lasting_within s x inner.p.scope mine.1).0
      ])
      blank x v e q ways.Gone is =
          let root : ways.Root = OfVariable depth x in
          let w : Way = along (ways.Object root) q in
          absurd (not_gone easy sees seeing ready.accepted.settled ready.owns other alone in_formals inner.views ready.class.parts_named may refl refl
          x facts_now (view_here s inner.state) viewed (unmoved_now x v e) (free x v e) q
          (viewed.known w (ways.part (OfRoot root) q) (rooted_along (ways.Object root) q tt)
          (reaches_along (view_here s inner.state) (ways.Object root) (OfRoot root) q refl)
          (word_root s.table (content s inner.state.memory (waiting_in inner.state)) root q ∙ is)))

      -- a declaration, at these turns
      abbrev pub Declared : ℕ → TypedTree → (Turn → Outcome)
      Declared x w u = steps.evaluated u (steps.first_value main_turn (object_at s x).of w (start main_turn)) (λ vs m. steps.goes u (declared depth x vs m) 0)

      pub declared_main : (i : Instruction) (x : ℕ) (w : TypedTree) → LeadsFrom i (Declared x w easy) → LeadsFrom i (Declared x w main_turn)
      declared_main i x w leads =
          from_easy i (steps.first_value main_turn (object_at s x).of w (start main_turn))
          (λ vs m. steps.goes easy (declared depth x vs m) 0) (λ vs m. steps.goes main_turn (declared depth x vs m) 0)
          (λ vs m on. goes_too i (declared depth x vs m) 0 on) leads

      -- no fact after it names the object
      pub after_it : (x : ℕ) (v : TypedTree) → inner.p.instr ≡ Declare x v → (name : PlaceName) → Has (after (acts_of_main (Declare x v)) facts_now) (Moved name) → name.root ≡ x
          → depth ≡ home s depth x → ⊥
      after_it x v e name has root at_home = elim (after_splits (acts_of_main (Declare x v)) facts_now own_facts handed_on from_both (Moved name) has) [
        | inl mine ↦ packages.new_after table typed effects input ready inner.state inner.top older outer inner.named inner.p inner.frames inner.of_sub inner.at_point inner.path x v e no_calls name
            (subst (λ i. Has (after (acts_of_main i) own_facts) (Moved name)) (sym e) mine) root
        | inr there ↦ absurd (not_handed name there)
      ]

      in_sub : (a : Act) → Has (acts_of_main inner.p.instr) a → Has (sub_acts (sub_of program inner.top.frame.sub)) a
      in_sub = standing.acts_in_sub table typed effects input ready inner.state inner.top older outer inner.named inner.p inner.frames inner.of_sub inner.at_point

      -- a view isn't scalar
      plain_call : (r : Pos) (n : ℕ) (actuals : TypedTree) → GivesPlainly s (CallIn r n actuals) → (t : ℕ) → (sub_at s n).result ≡ Some t → is_scalar (full s.table t) ≡ true
      unfolding GivesPlainly
      plain_call r n actuals plainly = plainly

      first_plain : (e : TypedTree) → GivesPlainly s (More e NoMore) → GivesPlainly s e
      unfolding GivesPlainly
      first_plain e plainly = plainly.0

      gives_many : (n of : ℕ) → GivesView s n of → ((t : ℕ) → (sub_at s n).result ≡ Some t → is_scalar (full s.table t) ≡ true) → ⊥
      gives_many n of gives scalar = view_scalar (shape_of s.table gives.result) gives.anonymous (scalar gives.result gives.result_is)

      declares : Plainly → (x : ℕ) (v : TypedTree) (e : inner.p.instr ≡ Declare x v) → FirstSource s (object_at s x).of v
          → AllowsAll facts_now (acts_of_main (Declare x v)) → AllKeep (is_fixed s sees) (acts_of_main (Declare x v)) → LeadsFrom (Declare x v) (turn main_turn (Declare x v))
      unfolding waits_in
      declares plain x v e text allowed_there keep = by_view (is_anonymous (view_of s x)) refl
        where
          from_source : (w : TypedTree) → v ≡ w → (q : Pos) (y u : ℕ) (source : TypedTree) → w ≡ More (Name q y source u) NoMore → is_anonymous (view_of s x) ≡ true
              → Lasts program inner.p.scope y x → (is_observer s x ≡ false → (is_observer s y ≡ false) × (sees x ≡ sees y) × (y < x))
              → LeadsFrom (Declare x v) (turn main_turn (Declare x v))
          from_source w same_v q y u source is view lasts older_there =
              let here_is : v ≡ More (Name q y source u) NoMore = same_v ∙ is in
              let in_behind : is_within x (scope_behind inner.p) ≡ true = subst (λ i. is_within x (brought i left_scope) ≡ true) (sym e) (new_there x) in
              let text_there : FirstSource s (object_at s x).of (More (Name q y source u) NoMore) = subst (FirstSource s (object_at s x).of) here_is text in
              let takes : Takes (waits_in source) given_words [] =
              takes_as (taken (Declare x (More (Name q y source u) NoMore))) (waits_in source) given_words [] (nothing_more (waits_in source))
              (subst (λ z. Takes (taken (Declare x z)) given_words []) here_is (takes_of plain.0 (Declare x v) e)) in
              declared_main (Declare x v) x v (subst (λ z. LeadsFrom (Declare x v) (Declared x z easy)) (sym here_is)
              (subst (λ z. Leads_on easy sees seeing ready.accepted.settled ready.owns other alone inner.views ready.class.parts_named may refl refl (after (acts_of_main (Declare x z)) facts_now) (Declared x (More (Name q y source u) NoMore) easy)) (sym here_is)
              (view_declared easy sees seeing ready.accepted.settled ready.owns other alone in_formals inner.views ready.class.parts_named may refl refl given_words
              q x y u source view (orderly.variables x (inl (inl (v, e))) view) (home_frame x (local x (anonymous_view s x view))) text_there.1 takes
              older_there (
                record { lasts = lasts_behind y x lasts; within = in_behind; view = view; plain = variable_stays x (orderly.variables x (inl (inl (v, e))) view) },
                inl (v, e),
                declared_source s x view (orderly.variables x (inl (inl (v, e))) view) (Name q y source u) q y source u (inl refl) (sub_acts (sub_of program inner.top.frame.sub))
                    (λ a has. in_sub a (subst (λ i. Has (acts_of_main i) a) (sym e) (subst (λ z. Has (acts_of_main (Declare x z)) a) (sym here_is) has))),
              ) facts_now (good plain.0) (unused x v e (local x (anonymous_view s x view)))
              (subst (λ z. AllowsAll facts_now (acts_of_main (Declare x z))) here_is allowed_there))))

          by_view : (b : Bool) → is_anonymous (view_of s x) ≡ b → LeadsFrom (Declare x v) (turn main_turn (Declare x v))
          by_view true view =
              let source = orderly.declared x v e view in
              by_either source.6
              (λ is. (from_source v refl source.0 source.1 source.3 source.2 (source.5 ∙ ap (λ z. More z NoMore) is) view source.7 source.8))
              (λ (r, n, more, is, gives). (absurd (gives_many n (object_at s x).of gives
              (plain_call r n (More (Name source.0 source.1 source.2 source.3) more)
              (first_plain (CallIn r n (More (Name source.0 source.1 source.2 source.3) more))
              (subst (GivesPlainly s) (source.5 ∙ ap (λ z. More z NoMore) is) (subst (TakesScalars s) e plain.1)))))))
          by_view false owner =
              declared_main (Declare x v) x v (declare_on easy sees seeing ready.accepted.settled ready.owns other alone in_formals inner.views ready.class.parts_named may refl refl given_words
              x v (plain_named s.table (object_at s x).of owner) (orderly.begun x v e) text (subst (TakesScalars s) e plain.1) (takes_of plain.0 (Declare x v) e)
              facts_now (good plain.0) allowed_there keep
              (λ q. blank x v e q (word_in s.table (content s inner.state.memory [] (OfRoot (OfVariable depth x))) q) refl) (after_it x v e) (free x v e)
              (apart_elsewhere table typed effects unmoved_stage local inner.state depth older between x))

      -- ---- assignments

      abbrev Goal : TypedTree → TypedTree → Type 0
      Goal a b = LeadsFrom (Assign a b) (turn main_turn (Assign a b))

      -- an assignment, at these turns
      abbrev pub Assigned : TypedTree → ℕ → TypedTree → (Turn → Outcome)
      Assigned target of e u =
          steps.evaluated u (followed_by (steps.taken_by main_turn of e (start main_turn))
          (λ ws now. followed_by (place_of (steps.here main_turn) target now) (λ k now. Done (record { words = ws; place = k }) now)))
          (λ (st : steps.Stored) m. steps.leaking_goes (checks_at s (steps.target_pos main_turn target) m st.place) (steps.goes u (stored s st.place st.words m) 0))

      pub assigned_main : (i : Instruction) (target : TypedTree) (of : ℕ) (e : TypedTree) → LeadsFrom i (Assigned target of e easy) → LeadsFrom i (Assigned target of e main_turn)
      assigned_main i target of e leads =
          from_easy i _ (λ (st : steps.Stored) m. steps.leaking_goes (checks_at s (steps.target_pos main_turn target) m st.place) (steps.goes easy (stored s st.place st.words m) 0))
          (λ (st : steps.Stored) m. steps.leaking_goes (checks_at s (steps.target_pos main_turn target) m st.place) (steps.goes main_turn (stored s st.place st.words m) 0))
          (λ st m on. subst (λ z. LeadsFrom i (steps.leaking_goes (checks_at s (steps.target_pos main_turn target) m st.place) z))
          (goes_same main_turn (stored s st.place st.words m) 0) on) leads

      assigns : Plainly → (left : Left (steps.waiting main_turn)) (target e : TypedTree) (is : inner.p.instr ≡ Assign target e) → IsFine s None (Assign target e)
          → AllowsAll facts_now (acts_of_main (Assign target e)) → AllKeep (is_fixed s sees) (acts_of_main (Assign target e)) → Both left (Assign target e)
      unfolding has_call waits_in
      assigns plain left (Name q x steps u) e is (v, (leads, type), source) allowed_there keep =
          let source_there : Source s u e = subst (λ z. Source s z e) (sym type) source in (
            by_view source_there (is_anonymous (full s.table u)) refl,
            assign_follows main_turn Left left IsOld (lasting_of s left_scope) (lasting_of s left_scope) inside_left same_scope q x u steps e
                (stored_there (Assign (Name q x steps u) e) is x (inl refl)) (with_successors (Assign (Name q x steps u) e) 0 is below_one),
          )
        where
          itself_lasts : is_anonymous (view_of s x) ≡ true → is_held s x ≡ false → is_within x (scope_behind inner.p) ≡ true → Lasts program (scope_behind inner.p) x x
          itself_lasts view plain within = inr (within, view_ends s x (anonymous_view s x view), ready.orderly.itself _, plain)

          within_now : is_anonymous (view_of s x) ≡ true → is_within x (scope_behind inner.p) ≡ true
          within_now view = by_either (stored_which (Assign (Name q x steps u) e) is x (inl refl))
              (λ shared. (absurd (true_false (is_package_object s x) shared (local x (anonymous_view s x view)))))
              (λ within. (more x within))

          to_view : Source s (object_at s x).of e → is_anonymous (view_of s x) ≡ true
              → inner.p.instr ≡ Assign (Name q x NoMore (object_at s x).of) e
              → AllowsAll facts_now (acts_of_main (Assign (Name q x NoMore (object_at s x).of) e)) → Goal (Name q x NoMore (object_at s x).of) e
          to_view source view instr_is allowed_here =
              let found = orderly.assigned q x (object_at s x).of e instr_is view in
              by_either found.4
              (λ named_so. (from_name found.0 found.1 found.3 found.2 named_so found.5 found.6))
              (λ (r, n, more, call_is, gives). (absurd (gives_many n (object_at s x).of gives
              (plain_call r n (More (Name found.0 found.1 found.2 found.3) more) (subst (GivesPlainly s) call_is (subst (TakesScalars s) instr_is plain.1))))))
            where
              from_name : (r : Pos) (y w : ℕ) (steps_after : TypedTree) → e ≡ Name r y steps_after w → (is_observer s x ≡ true → Lasts program inner.p.scope y x)
                  → (is_observer s x ≡ false → y ≡ x) → Goal (Name q x NoMore (object_at s x).of) e
              from_name r y w steps_after here_is lasts itself =
                  let of : ℕ = (object_at s x).of in
                  let variable_here : is_variable (object_at s x).kind ≡ true = orderly.variables x (inl (inr (q, of, e, instr_is))) view in
                  let from : may x y = (
                    record {
                      lasts = by_either (bool_cases (is_observer s x))
                          (λ sight. (lasts_behind y x (lasts sight)))
                          (λ borrows. (subst (λ z. Lasts program (scope_behind inner.p) z x) (sym (itself borrows)) (itself_lasts view (variable_stays x variable_here) (within_now view))));
                      within = within_now view;
                      view = view;
                      plain = variable_stays x variable_here;
                    },
                    inr (q, (object_at s x).of, e, instr_is),
                    assigned_source s x view variable_here (Name r y steps_after w) r y steps_after w (inl refl) (sub_acts (sub_of program inner.top.frame.sub)) inner.p.pos q itself
                        (λ a has. in_sub a (subst (λ i. Has (acts_of_main i) a) (sym instr_is) (subst (λ z. Has (acts_of_main (Assign (Name q x NoMore (object_at s x).of) z)) a) (sym here_is) has))),
                  ) in
                  let takes : Takes (waits_in steps_after) given_words [] =
                  takes_as (taken (Assign (Name q x NoMore of) (Name r y steps_after w))) (waits_in steps_after) given_words [] (nothing_more (waits_in steps_after))
                  (subst (λ z. Takes (taken (Assign (Name q x NoMore of) z)) given_words []) here_is (takes_of plain.0 (Assign (Name q x NoMore of) e) instr_is)) in
                  subst (λ z. Goal (Name q x NoMore of) z) (sym here_is)
                  (assigned_main (Assign (Name q x NoMore of) (Name r y steps_after w)) (Name q x NoMore of) of (Name r y steps_after w)
                  (view_assigned easy sees seeing ready.accepted.settled ready.owns other alone in_formals inner.views ready.class.parts_named may refl refl given_words
                  inner.p.pos q r x y w steps_after view variable_here (home_frame x (local x (anonymous_view s x view))) (subst (Source s of) here_is source) takes itself from facts_now (good plain.0)
                  (subst (λ z. AllowsAll facts_now (acts_of_main (Assign (Name q x NoMore of) z))) here_is allowed_here)))

          by_view : Source s u e → (b : Bool) → is_anonymous (full s.table u) ≡ b → Goal (Name q x steps u) e
          by_view source (false) owner = by_either source
              (λ view. (absurd (true_false (is_anonymous (full s.table u)) view.0 owner)))
              (λ gives. (
              let two = takes_both (waits_in e) (waits_in steps) given_words [] (takes_of plain.0 (Assign (Name q x steps u) e) is) in
              assigned_main (Assign (Name q x steps u) e) (Name q x steps u) u e
              (assign_on easy sees seeing ready.accepted.settled ready.owns other alone inner.views ready.class.parts_named may refl refl given_words two.0
              inner.p.pos q x u steps e (plain_named s.table u owner) gives leads
              (subst (TakesScalars s) is plain.1) two.1 two.2
              facts_now (good plain.0) allowed_there keep)))
          by_view source true view = by_either (leads_or s ready.class.parts_named steps (object_at s x).of u leads)
              (λ whole. (
              let target_is : Name q x steps u ≡ Name q x NoMore (object_at s x).of = (λ j. Name q x (whole.0 j) (sym whole.1 j)) in
              subst (λ z. Goal z e) (sym target_is)
              (to_view (subst (λ z. Source s z e) (sym whole.1) source) (ap (λ z. is_anonymous (full s.table z)) whole.1 ∙ view)
              (is ∙ ap (λ z. Assign z e) target_is) (subst (λ z. AllowsAll facts_now (acts_of_main (Assign z e))) target_is allowed_there))))
              (λ own_type. (absurd (true_false (is_anonymous (full s.table u)) view (named_plain s.table u own_type))))
      assigns plain left target e is (v, never, source) allowed_there keep = absurd never

      -- ---- what changes no view

      writes : Plainly → (text : TypedTree) (line : Bool) (is : inner.p.instr ≡ Output text line) → FirstWrites s text
          → AllowsAll facts_now (acts_of_main (Output text line)) → LeadsFrom (Output text line) (turn main_turn (Output text line))
      unfolding acts_in waits_in
      writes plain (More e more) line is (last, text) allowed_there =
          from_easy (Output (More e more) line) (text_of (steps.here main_turn) e (start main_turn))
          (λ bytes m. Goes (record (steps.behind easy (steps.waiting easy) m 0) { output = inner.state.output ++ bytes ++ (if line then 10 ∷ [] else []) }))
          (λ bytes m. Goes (record (steps.behind main_turn (steps.waiting main_turn) m 0) { output = inner.state.output ++ bytes ++ (if line then 10 ∷ [] else []) }))
          (λ bytes m on. subst (λ z. LeadsFrom (Output (More e more) line) (Goes (record (steps.behind main_turn z m 0) { output = inner.state.output ++ bytes ++ (if line then 10 ∷ [] else []) })))
          (waits_same main_turn) on)
          (output_on easy sees seeing ready.accepted.settled ready.owns other alone in_formals inner.views ready.class.parts_named may refl refl given_words
          e more line last text (takes_of plain.0 (Output (More e more) line) is) facts_now (good plain.0) allowed_there)
      writes plain NoMore line is text allowed_there =
          let nothing = none_takes (Output NoMore line) is refl in
          to_easy nothing facts_now (turn main_turn (Output NoMore line))
          (line_leads main_turn sees seeing ready.accepted.settled ready.owns other alone in_formals inner.views ready.class.parts_named may inner.frames nothing line facts_now (good_main nothing))
      writes plain other_text line is never allowed_there = absurd never

      reads : Plainly → (left : Left (steps.waiting main_turn)) (target : TypedTree) (is : inner.p.instr ≡ Input target) → IsFine s None (Input target)
          → AllowsAll facts_now (acts_of_main (Input target)) → Both left (Input target)
      unfolding waits_in
      reads plain left (Name q x steps_after u) is (v, (leads, type), scalar) allowed_there = (
        input_eased main_turn (LeadsFrom (Input (Name q x steps_after u))) (ends_so (Input (Name q x steps_after u))) (λ trap m on. on.0 tt)
            (Name q x steps_after u)
            (got_on easy sees seeing ready.accepted.settled ready.owns other alone in_formals inner.views ready.class.parts_named may refl refl given_words
            (λ k m. got_with easy k (next_item input inner.state.at) m) q x u steps_after (record {
              at_missing = λ k m next. rw next refl;
              at_bad = λ k m next. rw next refl;
              at_number = λ k m v end next fits. rw (next, fits) refl;
              at_outside = λ k m v end next out. rw (next, out) refl;
            }) (subst (λ z. is_scalar (full s.table z) ≡ true) (sym type) scalar) leads (takes_of plain.0 (Input (Name q x steps_after u)) is)
            (orderly.read q x u steps_after is) facts_now (good plain.0) allowed_there),
        input_follows main_turn Left left IsOld (lasting_of s left_scope) (lasting_of s left_scope) inside_left same_scope q x u steps_after
            (stored_there (Input (Name q x steps_after u)) is x (inl refl)) (with_successors (Input (Name q x steps_after u)) 0 is below_one),
      )
      reads plain left target is (v, never, scalar) allowed_there = absurd never

      releases : Plainly → (left : Left (steps.waiting main_turn)) (target : TypedTree) (is : inner.p.instr ≡ Release target) → IsFine s None (Release target)
          → AllowsAll facts_now (acts_of_main (Release target)) → AllKeep (is_fixed s sees) (acts_of_main (Release target)) → Both left (Release target)
      unfolding waits_in
      releases plain left (Name q x steps_after u) is (v, d, (leads, type), access) allowed_there keep = (
        release_eased main_turn (LeadsFrom (Release (Name q x steps_after u))) (ends_so (Release (Name q x steps_after u))) (λ trap m on. on.0 tt)
            q x u steps_after
            (released_on easy sees seeing ready.accepted.settled ready.owns other alone in_formals inner.views ready.class.parts_named may refl refl given_words
            (λ k m. released_with easy q k (words_of s m k) m) q q x u d steps_after (record {
              at_null = λ k m is. rw is refl;
              at_whole = λ k m v is. rw is refl;
              at_listed = λ k m v is. rw is refl;
              at_cell = λ k m n is alive. rw (is, alive) refl;
            }) (subst (λ z. shape_of s.table z ≡ shape.Access d false true) (sym type) access) leads (takes_of plain.0 (Release (Name q x steps_after u)) is)
            (last_kept (acts_in s steps_after) keep) facts_now (good plain.0) allowed_there),
        release_follows main_turn Left left IsOld (lasting_of s left_scope) (lasting_of s left_scope) inside_left same_scope q x u steps_after
            (stored_there (Release (Name q x steps_after u)) is x (inl refl)) (with_successors (Release (Name q x steps_after u)) 0 is below_one),
      )
        where
          last_kept : (before : List Placed) → AllKeep (is_fixed s sees) (acts (before ++ record { pos = q; act = act.Free (name_of x steps_after) } ∷ [])) → is_fixed s sees (name_of x steps_after) ≡ false
          last_kept before keep =
              (keep_both (is_fixed s sees) (acts before) (act.Free (name_of x steps_after) ∷ [])
              (subst (AllKeep (is_fixed s sees)) (acts_append before (record { pos = q; act = act.Free (name_of x steps_after) } ∷ [])) keep)).1.0
      releases plain left target is (v, d, never, access) allowed_there keep = absurd never

      decides : Plainly → (i : Instruction) (is : inner.p.instr ≡ i) (e : TypedTree) → taken i ≡ waits_in e → acts_of_main i ≡ acts (acts_in s e) → Stays s e
          → AllowsAll facts_now (acts_of_main i) → (k : List machine.Word → ℕ)
          → LeadsFrom i (steps.evaluated main_turn (value (steps.here main_turn) e (start main_turn)) (λ ws m. steps.goes main_turn m (k ws)))
      decides plain i is e takes same_acts stays allowed_there k =
          from_easy i (value (steps.here main_turn) e (start main_turn)) (λ ws m. steps.goes easy m (k ws)) (λ ws m. steps.goes main_turn m (k ws))
          (λ ws m on. goes_too i m (k ws) on)
          (subst (λ z. Leads_on easy sees seeing ready.accepted.settled ready.owns other alone inner.views ready.class.parts_named may refl refl (after z facts_now)
          (steps.evaluated easy (value (steps.here easy) e (record { memory = inner.state.memory; waits = given_words })) (λ ws m. steps.goes easy m (k ws)))) (sym same_acts)
          (decides_on easy sees seeing ready.accepted.settled ready.owns other alone inner.views ready.class.parts_named may refl refl given_words
          e stays (takes_as (taken i) (waits_in e) given_words [] takes (takes_of plain.0 i is)) facts_now (good plain.0) (subst (AllowsAll facts_now) same_acts allowed_there) k))

      chooses : Plainly → (left : Left (steps.waiting main_turn)) (e : TypedTree) (choices : List TypedCode) (is : inner.p.instr ≡ Choose e choices) → Stays s e
          → AllowsAll facts_now (acts_of_main (Choose e choices)) → Both left (Choose e choices)
      chooses plain left e choices is stays allowed_there = (
        from_easy (Choose e choices) (value (steps.here main_turn) e (start main_turn))
            (λ ws m. steps.chosen easy (length choices) (steps.choice choices ws) m) (λ ws m. steps.chosen main_turn (length choices) (steps.choice choices ws) m)
            (λ ws m on. chosen_too (nat_lt (steps.choice choices ws) (length choices)) (steps.choice choices ws) m on)
            (choose_on easy sees seeing ready.accepted.settled ready.owns other alone inner.views ready.class.parts_named may refl refl given_words
            e choices stays (takes_of plain.0 (Choose e choices) is) facts_now (good plain.0) allowed_there),
        choose_follows main_turn Left left IsOld (lasting_of s left_scope) (lasting_of s left_scope) inside_left same_scope e choices (ap successors (sym is)),
      )
        where
          chosen_too : (b : Bool) (k : ℕ) (m : Memory) → LeadsFrom (Choose e choices) (if b then steps.goes easy m k else steps.raised easy ConstraintError m)
              → LeadsFrom (Choose e choices) (if b then steps.goes main_turn m k else steps.raised main_turn ConstraintError m)
          chosen_too true k m on = goes_too (Choose e choices) m k on
          chosen_too false k m on = ends_so (Choose e choices) ConstraintError m

      leaves : Plainly → (left : Left (steps.waiting main_turn)) (e : TypedTree) (is : inner.p.instr ≡ LeaveLoop e) → FirstStays s e → AllowsAll facts_now (acts_of_main (LeaveLoop e))
          → Both left (LeaveLoop e)
      unfolding acts_in waits_in
      leaves plain left (More e more) is (last, stays) allowed_there = (
        decides plain (LeaveLoop (More e more)) is e (ap (λ z. waits_in e + waits_in z) last ∙ nothing_more (waits_in e))
            (ap acts (ap (λ z. acts_in s e ++ acts_in s z) last ∙ append-nil (acts_in s e))) stays allowed_there (λ ws. if run.is_true ws then 0 else 1),
        test_follows main_turn Left left IsOld (lasting_of s left_scope) (lasting_of s left_scope) inside_left same_scope e (with_successors (LeaveLoop (More e more)) 1 is below_two),
      )
      leaves plain left NoMore is text allowed_there = (
        skips_so (none_takes (LeaveLoop NoMore) is refl),
        stays_follows main_turn Left left IsOld (lasting_of s left_scope) (lasting_of s left_scope) inside_left same_scope (with_successors (LeaveLoop NoMore) 0 is below_one),
      )
      leaves plain left e is never allowed_there = absurd never

      starts : Plainly → (left : Left (steps.waiting main_turn)) (x : ℕ) (reversed : Bool) (low high : TypedTree) (is : inner.p.instr ≡ Start x reversed low high)
          → is_scalar (full s.table (object_at s x).of) ≡ true → Stays s low → Stays s high → AllowsAll facts_now (acts_of_main (Start x reversed low high))
          → Both left (Start x reversed low high)
      starts plain left x reversed low high is scalar stays stays' allowed_there =
          let two = takes_both (waits_in low) (waits_in high) given_words [] (takes_of plain.0 (Start x reversed low high) is) in (
            start_eased main_turn (LeadsFrom (Start x reversed low high)) (ends_so (Start x reversed low high)) (λ trap m on. on.0 tt) x low high
                (started_on easy sees seeing ready.accepted.settled ready.owns other alone in_formals inner.views ready.class.parts_named may refl refl given_words two.0
                x (λ b m. started_with easy x b m) low high (record {
                  fails = λ b. int_le (steps.number b.low) (steps.number b.high)
                      && not (fits_type s.table (object_at s x).of b.low && fits_type s.table (object_at s x).of b.high);
                  loop = λ b. record { parameter = x; low = steps.number b.low; high = steps.number b.high; first = true };
                  at_fault = λ b m e. rw e refl;
                  at_turn = λ b m e. rw e refl;
                }) scalar stays stays' two.1 two.2 facts_now (good plain.0) allowed_there),
            start_follows main_turn Left left IsOld (lasting_of s left_scope) (lasting_of s (x ∷ left_scope)) inside_left (one_more x) x low high (new_one x (subst (λ i. Fills s i left_scope) is supplied_here.1)) (with_successors (Start x reversed low high) 0 is below_one),
          )

      scalar_unheld : (x : ℕ) → is_scalar (full s.table (object_at s x).of) ≡ true → is_held s x ≡ false
      scalar_unheld x scalar =
          no_second (is_temporary_object s x) (has_scope_end s x)
          (λ j. plain_type s ready.owns (object_at s x).of scalar j || named_plain s.table (object_at s x).of (scalar_named s.table (object_at s x).of scalar) j)
        where
          no_second : (a b : Bool) → b ≡ false → a && b ≡ false
          no_second true b e = e
          no_second false b e = refl

      turns : (left : Left (steps.waiting main_turn)) (x : ℕ) (reversed : Bool) (low high : TypedTree) (is : inner.p.instr ≡ Next x reversed low high)
          → is_scalar (full s.table (object_at s x).of) ≡ true → Both left (Next x reversed low high)
      turns left x reversed low high is scalar =
          let nothing = none_takes (Next x reversed low high) is refl in (
            to_easy nothing facts_now (turn main_turn (Next x reversed low high))
                (next_leads main_turn sees seeing ready.accepted.settled ready.owns other alone in_formals inner.views ready.class.parts_named may inner.frames nothing x reversed scalar facts_now
                (good_main nothing)),
            next_follows main_turn Left left IsOld (lasting_of s left_scope) (lasting_of s left_scope) inside_left same_scope
                (subst Left (ap (λ n. drop n inner.top.frame.waits) (ap taken is) ∙ drop_none inner.top.frame.waits) left) x reversed
                (may_hold x (lasting_of s left_scope) (inr (within_lasting s x left_scope (ap (is_within x) (ap (λ n. drop n inner.p.scope) (ap taken is) ∙ drop_none inner.p.scope)
                ∙ last_within x inner.p.scope (ready_there (Next x reversed low high) is)) (scalar_unheld x scalar)))) (with_successors (Next x reversed low high) 1 is below_two),
          )

      holds_nothing : (left : Left (steps.waiting main_turn)) (v : TypedTree) (is : inner.p.instr ≡ Hold v) → IsOther (Hold v) → (r : Option ℕ) → inner.named.sub.result ≡ r
          → Returns s r v → Both left (Hold v)
      unfolding acts_in waits_in
      holds_nothing left v is other_one None no_result none = subst (Both left) (ap Hold (sym none)) (
        subst (λ z. Leads_on easy sees seeing ready.accepted.settled ready.owns other alone inner.views ready.class.parts_named may refl refl z (turn main_turn (Hold NoMore)))
            (sym (ap (λ r. after (acts (flow.returned_acts s r NoMore)) facts_now) no_result))
            (skips_so (none_takes (Hold NoMore) (is ∙ ap Hold none) refl)),
        stays_follows main_turn Left left IsOld (lasting_of s left_scope) (lasting_of s left_scope) inside_left same_scope (with_successors (Hold NoMore) 0 (is ∙ ap Hold none) below_one),
      )
      holds_nothing left v is other_one (Some of) result (value_of, same, source) = absurd (subst (λ z. IsOther (Hold z)) same other_one)

      pub each_instruction : Plainly → (left : Left (steps.waiting main_turn)) (i : Instruction) → inner.p.instr ≡ i → IsOther i → IsFine s inner.named.sub.result i → AllowsAll facts_now (acts_of_main i)
          → AllKeep (is_fixed s sees) (acts_of_main i) → Both left i
      each_instruction plain left Skip is other_one text allowed_there keep = (
        skips_so (none_takes Skip is refl),
        stays_follows main_turn Left left IsOld (lasting_of s left_scope) (lasting_of s left_scope) inside_left same_scope (with_successors Skip 0 is below_one),
      )
      each_instruction plain left (Declare x v) is other_one text allowed_there keep = (
        declares plain x v is text allowed_there keep,
        declare_follows main_turn Left left IsOld (lasting_of s left_scope) (lasting_of s (x ∷ left_scope)) inside_left (one_more x) x v (new_one x (subst (λ i. Fills s i left_scope) is supplied_here.1)) (with_successors (Declare x v) 0 is below_one),
      )
      each_instruction plain left (Assign target e) is other_one text allowed_there keep = assigns plain left target e is text allowed_there keep
      each_instruction plain left (Call sub actuals result) is other_one text allowed_there keep = absurd other_one
      each_instruction plain left (Output text line) is other_one writing allowed_there keep = (
        writes plain text line is writing allowed_there,
        output_follows main_turn Left left IsOld (lasting_of s left_scope) (lasting_of s left_scope) inside_left same_scope text line (with_successors (Output text line) 0 is below_one),
      )
      each_instruction plain left (Input target) is other_one text allowed_there keep = reads plain left target is text allowed_there
      each_instruction plain left (Release e) is other_one text allowed_there keep = releases plain left e is text allowed_there keep
      each_instruction plain left (Test e) is other_one stays allowed_there keep = (
        decides plain (Test e) is e refl refl stays allowed_there (λ ws. if run.is_true ws then 0 else 1),
        test_follows main_turn Left left IsOld (lasting_of s left_scope) (lasting_of s left_scope) inside_left same_scope e (with_successors (Test e) 1 is below_two),
      )
      each_instruction plain left (Choose e choices) is other_one stays allowed_there keep = chooses plain left e choices is stays allowed_there
      each_instruction plain left (Start x reversed low high) is other_one (scalar, stays, stays') allowed_there keep = starts plain left x reversed low high is scalar stays stays' allowed_there
      each_instruction plain left (Next x reversed low high) is other_one scalar allowed_there keep = turns left x reversed low high is scalar
      each_instruction plain left (Evaluate temporary e op) is other_one text allowed_there keep = absurd other_one
      each_instruction plain left (LeaveLoop e) is other_one text allowed_there keep = leaves plain left e is text allowed_there
      each_instruction plain left (Hold v) is other_one text allowed_there keep = holds_nothing left v is other_one inner.named.sub.result refl text
      each_instruction plain left (EndScope x) is other_one text allowed_there keep = absurd (going x is)
      each_instruction plain left Finish is other_one text allowed_there keep = absurd other_one
      each_instruction plain left Fall is other_one text allowed_there keep = (ends_so Fall ProgramError inner.state.memory, tt)

      -- ---- the next point

      abbrev pub sparing : Type 0
      sparing = Spare s (standing.acts_by table typed effects input ready inner.state inner.top older outer inner.named inner.p inner.frames inner.of_sub inner.at_point s inner.p.instr)

      pub spares : (inner.p.instr ≡ Finish → ⊥) → sparing
      spares end =
          spare_acts (record { typing = s; result = inner.named.sub.result; roots = standing.roots table typed effects input ready inner.state inner.top older outer inner.named inner.p inner.frames inner.of_sub inner.at_point }) inner.p.pos inner.p.instr (innermost.gives_own table typed effects input ready inner) no_calls going end
