-- The end of a call leads on, in the frame below.
use Rattle.soundness.specs.PartOffsets.Parts.{offset_in}
use Rattle.viewed_steps.proofs.Traversed.{none_given}
use Rattle.viewed_steps.proofs.Low.{given_again}
use Rattle.std.specs.List.{AllByRecursion}
use Rattle.std.proofs.Common.{◌&&◌, ◌≡◌, refl, sym, ap, ◌∙◌, subst, ◌⊎◌, inl, inr, ℕ, suc, ◌<◌, ◌≤◌, Bool, true, false, ◌||◌, ◌==◌, eq-eqb, List, [], ◌∷◌, ◌++◌, length, get_or, arith, Option, Some, None, if◌then◌else◌, not}
use Rattle.std.proofs.Math.Nat.{eq-or-lt_of_le}
use Rattle.std.specs.Prelude.{is_some}
use Rattle.std.proofs.lemmas.Bool.{false≢true, true≢false}
use Rattle.machine.specs.spark_base.Lists.{Has}
use Rattle.machine.specs.place_names.declared.act.Act.{Act}
use Rattle.machine.specs.place_names.declared.fact.Fact.{Fact}
use Rattle.machine.specs.place_names.declared.fact.Fact.TheVariants.{Moved}
use Rattle.machine.specs.place_names.Names.{Name as PlaceName}
use Rattle.machine.specs.place_names.Facts.{place}
use Rattle.machine.specs.type_definitions.Types.{Table}
use Rattle.machine.specs.typed_tree.declared.object.ObjectKind.{ObjectKind}
use Rattle.machine.specs.typed_tree.declared.object.ObjectKind.TheVariants as object_kind
use Rattle.machine.specs.typed_tree.Programs.{TypedProgram}
use Rattle.machine.specs.flow_paths.declared.report.Effects.{Effects}
use Rattle.machine.specs.flow_paths.Instructions.{Instruction, Call, Finish}
use Rattle.machine.specs.flow_paths.Objects.{view_of, is_anonymous, Typing, object_at, is_package_object, is_formal_kind, Signature, sub_at, is_formal}
use Rattle.machine.specs.flow_paths.Laid.{FlowProgram, typing_of, flow_typing, flow_program, flow_named, FlowSub}
use Rattle.machine.specs.flow_paths.Scopes.{is_temporary, is_within}
use Rattle.machine.specs.Words as machine
use Rattle.machine.specs.Memory.{Memory, no_slot, variable_slots, without_frame}
use Rattle.machine.specs.Evaluate.{Exception, Now, Evaluated, Done, Raises, Traps}
use Rattle.machine.specs.States.{Waiting, Frame, State, sub_of, Outcome, Goes, Return, Normal, Ends}
use Rattle.machine.specs.Run.{no_point}
use Rattle.machine.specs.Step.{Turn, turn, counted}
use Rattle.machine.specs.Step as steps
use Rattle.machine.specs.Owners.{is_in_formal, waiting_in}
use Rattle.soundness.specs.OwnedWays.Ways.{Step, OfVariable, OfRoot, Way, Held, AllowsAll, number_of}
use Rattle.soundness.specs.OwnedWays.Ways as ways
use Rattle.soundness.specs.Seen.{content, word_in, seen, home}
use Rattle.soundness.specs.Typed.{Kept}
use Rattle.soundness.specs.Sound.{Stage, facts_of, AreStages, is_temporary_object, has_returned, view_of as view_here}
use Rattle.soundness.proofs.Contents.{bool_cases, word_no, word_dead}
use Rattle.soundness.proofs.Steps.{no_leaf}
use Rattle.soundness.proofs.Typings.{package_same, formal_same}
use Rattle.soundness.proofs.Around.{same_or_not}
use Rattle.soundness.proofs.OwnedWays.Locations.{under_itself, under_along}
use Rattle.soundness.proofs.Returning.{returned_kept, left_same, left_held, returns_lead, ends_lead, left_waits, ended_owned, Backs}
use Rattle.soundness.specs.OwnedLoans.Views.{known_gone, IsMovedBy, ExcusedBy, AreViews, expand, ViewedAlone}
use Rattle.soundness.proofs.OwnedLoans.Moves.{parts_on, view_on, reached}
use Rattle.soundness.proofs.OwnedLoans.Ended.{stands_itself}
use Rattle.soundness.proofs.ViewedSoundness.Names.{parts_same}
use Rattle.soundness.proofs.ViewedSoundness.ViewKinds.{bundle_formal, bundle_view, neither, true_false}
use Rattle.viewed_steps.specs.Awaited.{AreFor, AreValues, temporaries_of, lasting_of, awaited, AreAwaited}
use Rattle.viewed_steps.proofs.Waited.{others_only, lasting_within}
use Rattle.viewed_steps.specs.Sound.{loan_by, HoldsAt, ArePlaced, NoneAbove, ViewStage, stages_of, GoneElsewhere, IsWaiting, AreWaiting, ends_one, LeadsAlong, NoneGiven, AreTraversals}
use Rattle.viewed_steps.specs.Ready.{IsReady}
use Rattle.viewed_steps.proofs.Waiting.{StandsBetween, all_between, handed, gone_low, kept_low, far, theirs, bare_still, some_frames, unused_there, BareElsewhere, bare_reached}
use Rattle.viewed_steps.proofs.Onward.{all_on}
use Rattle.viewed_steps.proofs.Left.{owned_left, covered_left, reach_left, reach_before, gone_before, other_word, no_word, whole_there}
use Rattle.viewed_steps.proofs.Standing.{or_right}
use Rattle.viewed_steps.proofs.Standing as standing
use Rattle.viewed_steps.proofs.Packages as packages
use Rattle.viewed_steps.proofs.Innermost as innermost
use Rattle.soundness.proofs.Passing.{signature_is}
use Rattle.soundness.proofs.OwnedWays.Dropped.{named_base}
use Rattle.soundness.specs.ViewedSoundness.Holds.{is_view}
use Rattle.soundness.proofs.OwnedWays.Unique.{one_way}
use Rattle.viewed_steps.specs.Taken.{TakenBy, Lodge, IsTakenIn, AreCarried}
use Rattle.viewed_steps.proofs.Between.{home_low, base_under, same_variable}
use Rattle.viewed_steps.proofs.Outside.{IsSpared, kept_clear, bare_clear, IsFree, free_name}
use Rattle.viewed_steps.proofs.Apart.{kept_there, written_disturbs}
use Rattle.machine.specs.flow_paths.Effects.{written_by}
use Rattle.viewed_steps.proofs.Backed.{AwayBy, IsBack, all_given_back, StandsAway}
use Rattle.viewed_steps.proofs.Whole.{leaves_whole}
use Rattle.viewed_steps.proofs.Views.{given_formal, AreAccess, AreFar, lies_far}
use Rattle.soundness.proofs.Lasting.{keeps}
use Rattle.soundness.proofs.OwnedLoans.Meeting.{stands}
use Rattle.viewed_steps.proofs.Roots.{FromGiven}
use Rattle.soundness.proofs.OwnedLoans.Safe.{Unlent}
use Rattle.viewed_steps.specs.Seeing.{sees_in}
use Rattle.viewed_steps.proofs.Constructors.{is_call_instruction, is_held_word}
use Rattle.viewed_steps.proofs.InnerFrame.{InnerFrame}
use Rattle.viewed_steps.proofs.Parted.{done_same}
use Rattle.soundness.proofs.Parted.{by_either}

smaller : (f b low : ℕ) → f < suc b → (f ≡ low → ⊥) → low ≡ b → f < low
smaller f b low less ne is =
    let most : f ≤ b = omega (arith, less) in
    elim (eq-or-lt_of_le most) [ inl same ↦ absurd (ne (same ∙ sym is)) | inr under ↦ omega (arith, under, is) ]

higher : (f low b : ℕ) → low < f → low ≡ b → (f ≡ suc b → ⊥) → suc b < f
higher f low b less is ne =
    let most : suc b ≤ f = omega (arith, less, is) in
    elim (eq-or-lt_of_le most) [ inl same ↦ absurd (ne (sym same)) | inr over ↦ over ]

hand_base : {k f x : ℕ} → OfRoot (ways.OfHand k) ≡ OfRoot (OfVariable f x) → ⊥
hand_base e = cc

module _ (table : Table) (typed : TypedProgram) (effects : Effects) (input : List ℕ) (ready : IsReady table typed effects) where
  abbrev sees : ℕ → Bool
  sees = sees_in (flow_program table typed)

  abbrev program : FlowProgram
  program = flow_program table typed

  abbrev s : Typing
  s = flow_typing program

  abbrev own : Typing
  own = typing_of table typed

  abbrev local : (x : ℕ) → is_view s x ≡ true → is_package_object s x ≡ false
  local = standing.local table typed effects input ready

  abbrev in_formals : AreAccess s
  in_formals = standing.in_formals table typed effects input ready

  abbrev unmoved_stage : (e : Stage) → e.frame.sub ≡ 0 → (name : PlaceName) → Has (facts_of program effects e) (Moved name) → ⊥
  unmoved_stage = packages.unmoved_stage table typed effects input ready

  module _ (inner : InnerFrame table typed effects) where
    abbrev outer : List Frame
    outer = inner.below.stage.frame ∷ inner.rest

    abbrev older : List ViewStage
    older = inner.below ∷ inner.more_frames

    abbrev depth : ℕ
    depth = suc (length inner.rest)

    abbrev between : (g : ViewStage) → Has (inner.below ∷ inner.more_frames) g → StandsBetween table typed effects unmoved_stage local inner.state (suc (length inner.rest)) (inner.below ∷ inner.more_frames) g
    between = innermost.between table typed effects input ready inner

    abbrev waits_here : AreValues s inner.top.frame.waits inner.p.scope
    waits_here = innermost.waits_here table typed effects input ready inner

    abbrev instr_there : (get_or (sub_of program inner.top.frame.sub).points inner.top.frame.next no_point).instr ≡ inner.p.instr
    instr_there = innermost.instr_there table typed effects input ready inner

    abbrev main_turn : Turn
    main_turn = standing.t table typed effects input ready inner.state inner.top older outer inner.named inner.p inner.frames inner.of_sub inner.at_point

    abbrev own_facts : List Fact
    own_facts = standing.facts table typed effects input ready inner.state inner.top older outer inner.named inner.p inner.frames inner.of_sub inner.at_point inner.path

    abbrev handed_on : List Fact
    handed_on = handed table typed effects unmoved_stage local inner.state (suc (length inner.rest)) (inner.below ∷ inner.more_frames) between

    abbrev facts_now : List Fact
    facts_now = own_facts ++ handed_on

    abbrev acts_of_main : Instruction → List Act
    acts_of_main i = standing.acts_here table typed effects input ready inner.state inner.top older outer inner.named inner.p inner.frames inner.of_sub inner.at_point i

    abbrev viewed_own : ViewedAlone (home s depth) sees (known_gone (home s depth) (GoneElsewhere program effects older)) inner.views (view_here s inner.state) own_facts
    viewed_own = innermost.viewed_own table typed effects input ready inner

    abbrev placed : ArePlaced program (suc (length inner.rest)) facts_now inner.views inner.p.scope
    placed = innermost.placed table typed effects input ready inner

    abbrev named_there : Has (flow_named table typed) inner.named
    named_there = innermost.named_there table typed effects input ready inner

    abbrev point_there_now : Has inner.named.points inner.p
    point_there_now = innermost.point_there_now table typed effects input ready inner

    -- where it leads, and how the frames come from those before
    abbrev Along : Outcome → Type 0
    Along outcome = LeadsAlong table typed effects inner.p.instr inner.state.memory (record { stage = inner.top; views = inner.views; cells = [] }) (inner.below ∷ inner.more_frames) outcome

    abbrev ends_raised : (how : Exception) (m : Memory) → Along (steps.raised main_turn how m)
    ends_raised = innermost.ends_raised table typed effects input ready inner

    -- ---- the end of a call

    -- a formal that has a number is copied back
    left_formal : inner.p.instr ≡ Finish → (x : ℕ) (q : List Step) (n : ℕ)
        → word_in s.table (content s inner.state.memory [] (OfRoot (OfVariable depth x))) q ≡ Held n → (r : Return) × Has inner.top.frame.returns r × (r.formal ≡ x)
    left_formal is x q n held = by_either (inner.scope depth x q n held)
        (λ less. (absurd (omega (arith, less))))
        (λ mine. (
        let own_formal = ready.passing.finishes inner.named named_there inner.p point_there_now is x (lasting_within s x inner.p.scope mine.1).0 in
        by_either ((inner.running.1).0 x (subst (λ z. Has z x) (sym formals_are) own_formal))
        (λ plain_type. (
        let none = word_no s.table (content s inner.state.memory [] (OfRoot (OfVariable depth x))) q
        (no_leaf s.table ready.accepted.settled (object_at s x).of plain_type q) in
        let no_number : ways.Empty ≡ Held n = sym none ∙ held in absurd (false≢true (ap is_held_word no_number))))
        (λ other_kind. (elim other_kind [
          | inl copied ↦ copied
          | inr (inl shown) ↦ (
              let none = word_dead s.table (content s inner.state.memory [] (OfRoot (OfVariable depth x))) q (ap not shown) in
              let no_number : ways.Empty ≡ Held n = sym none ∙ held in absurd (false≢true (ap is_held_word no_number)))
          | inr (inr plain) ↦ (
              let none = word_no s.table (content s inner.state.memory [] (OfRoot (OfVariable depth x))) q
              ((keeps s ready.accepted.settled ready.owns).ownerless (object_at s x).of plain q) in
              let no_number : ways.Empty ≡ Held n = sym none ∙ held in absurd (false≢true (ap is_held_word no_number)))
        ]))))
      where
        formals_are : (sub_at s inner.top.frame.sub).formals ≡ inner.named.sub.formals
        formals_are =
            ap (λ (z : Signature). z.formals) (signature_is program inner.top.frame.sub)
            ∙ ap (λ (z : FlowSub). z.formals) (standing.sub_is table typed effects input ready inner.state inner.top older outer inner.named inner.p inner.frames inner.of_sub inner.at_point)

    -- nothing waits in the frame then
    pub nothing_waits : inner.p.instr ≡ Finish → inner.top.frame.waits ≡ []
    nothing_waits is =
        no_values inner.top.frame.waits (subst (AreFor s inner.top.frame.waits)
        (none_in inner.p.scope (λ x within. formal_lasts (object_at s x).kind (ready.scoped.finishes inner.named named_there inner.p point_there_now is x within))) waits_here)
      where
        no_values : (waits : List Waiting) → AreFor s waits [] → waits ≡ []
        no_values [] none = refl
        no_values (v ∷ waits) none = absurd none

        formal_lasts : (k : ObjectKind) → is_formal_kind k ≡ true → is_temporary k ≡ false
        formal_lasts object_kind.Formal is = refl
        formal_lasts k is = absurd (false≢true is)

        none_in : (objects : List ℕ) → ((x : ℕ) → is_within x objects ≡ true → is_temporary_object s x ≡ false) → temporaries_of s objects ≡ []
        none_in [] none = refl
        none_in (x ∷ objects) none =
            others_only s x objects (none x (ap (λ b. b || is_within x objects) (eq-eqb x x refl)))
            ∙ none_in objects (λ y within. none y (or_right (y == x) (is_within y objects) within))

    -- and the call has returned
    returned_then : inner.p.instr ≡ Finish → awaited (sub_of program inner.top.frame.sub) inner.top.before ≡ None
    returned_then is = by_result (sub_of program inner.top.frame.sub).result refl
      where
        by_result : (r : Option ℕ) → (sub_of program inner.top.frame.sub).result ≡ r → awaited (sub_of program inner.top.frame.sub) inner.top.before ≡ None
        by_result None e = ap (λ z. if has_returned (sub_of program inner.top.frame.sub) inner.top.before then None else z) e ∙ no_else (has_returned (sub_of program inner.top.frame.sub) inner.top.before)
          where
            no_else : (b : Bool) → ◌≡◌ {A = Option ℕ} (if b then None else None) None
            no_else true = refl
            no_else false = refl
        by_result (Some t) e =
            ap (λ z. if z then None else (sub_of program inner.top.frame.sub).result)
            ((ready.returning inner.top.frame.sub (inner.running.0).entered (ap is_some e) inner.top.before inner.top.frame.next inner.path).1 (instr_there ∙ is))

    -- no view but a formal has a way then
    pub no_view_left : inner.p.instr ≡ Finish → (x : ℕ) → is_formal s x ≡ false → inner.views.way x ≡ None
    no_view_left is x no_formal = by_way (inner.views.way x) refl
      where
        by_way : (o : Option Way) → inner.views.way x ≡ o → inner.views.way x ≡ None
        by_way None e = e
        by_way (Some w) e =
            absurd (true_false (is_formal s x) (ready.scoped.finishes inner.named named_there inner.p point_there_now is x (placed x w e).within) no_formal)

    no_part_left : (x : ℕ) → is_formal s x ≡ false → (part_path : List Step) → inner.views.part_way x part_path ≡ None
    no_part_left x no_formal part_path = by_way (inner.views.part_way x part_path) refl
      where
        first_of : (a b : Bool) → a && b ≡ true → a ≡ true
        first_of true b is = refl
        first_of false b is = absurd (false≢true is)

        by_way : (o : Option Way) → inner.views.part_way x part_path ≡ o → inner.views.part_way x part_path ≡ None
        by_way None e = e
        by_way (Some w) e =
            let formal = bundle_formal s x (inner.holds.parts.only x part_path w e) in
            absurd (true_false (is_formal s x) (first_of (is_formal s x) _ (given_formal s x (ap (λ b. b || (is_in_formal s x && is_anonymous (view_of s x))) formal))) no_formal)

    -- no part of a formal or package object is moved then
    whole_roots : inner.p.instr ≡ Finish → (name : PlaceName) → Has own_facts (Moved name) → is_formal s name.root || is_package_object s name.root ≡ true → ⊥
    whole_roots is name has shared =
        let finishing : AllowsAll own_facts (acts_of_main Finish) =
        subst (λ i. AllowsAll own_facts (acts_of_main i)) is (standing.allowed table typed effects input ready inner.state inner.top older outer inner.named inner.p inner.frames inner.of_sub inner.at_point inner.path (λ k actuals result call. (let never : Finish ≡ Call k actuals result = sym is ∙ call in absurd (false≢true (ap is_call_instruction never))))) in
        leaves_whole program effects ready.accepted.effects_are own inner.named inner.top.before finishing.0 name has
        (sym (λ j. formal_same s own (standing.agree table typed effects input ready) name.root j || package_same s own (standing.agree table typed effects input ready) name.root j) ∙ shared)

    module _ (h : ViewStage) (others : List ViewStage) (stages_there : AreStages (stages_of (inner.below ∷ (h ∷ others))) (inner.below.stage.frame ∷ inner.rest))
        (waiting : AreWaiting table typed effects inner.state inner.top.frame.sub inner.top.frame.returns (inner.below ∷ (h ∷ others)))
        (well : ViewedAlone (home s depth) sees (known_gone (home s depth) (GoneElsewhere program effects (inner.below ∷ (h ∷ others)))) inner.views (view_here s inner.state) own_facts)
        (still_awaited : AreAwaited table typed (awaited (sub_of program inner.top.frame.sub) inner.top.before) (stages_of (inner.below ∷ (h ∷ others))))
        (is : inner.p.instr ≡ Finish) where
      abbrev pub low : ℕ
      low = inner.below.stage.depth

      low_is : inner.below.stage.depth ≡ length inner.rest
      low_is = stages_there.1

      abbrev pub waits : IsWaiting table typed effects inner.state inner.top.frame.sub inner.top.frame.returns inner.below
      waits = waiting.0

      abbrev pub their_facts : List Fact
      their_facts = facts_of program effects inner.below.stage

      pub between_low : (g : ViewStage) → Has (h ∷ others) g → StandsBetween table typed effects unmoved_stage local inner.state inner.below.stage.depth (h ∷ others) g
      between_low g has =
          all_between table typed effects unmoved_stage local inner.state inner.below.stage.frame.sub inner.below.stage.depth inner.below.stage.frame.returns (h ∷ others) inner.rest stages_there.2
          (let same_depth = low_is in omega (arith, same_depth)) waiting.1 g has

      -- what its facts say is moved begins in no frame above
      moved_low : (w : Way) → IsMovedBy (home s inner.below.stage.depth) inner.below.views their_facts w
          → (f : ℕ) × (y : ℕ) × (ways.base_of w ≡ OfRoot (OfVariable f y)) × (f < suc inner.below.stage.depth)
      moved_low w these =
          let (u, moved, leads) = these in
          by_either (stands (home s inner.below.stage.depth) sees inner.below.views (view_here s inner.state) their_facts waits.views u (moved.0, waits.clear.owned (ways.name_of u) moved.1))
          (λ own. (
          let named_there : ways.Named (home s inner.below.stage.depth) w = subst (ways.Named (home s inner.below.stage.depth)) leads own.named in (
            home s inner.below.stage.depth (number_of w),
            number_of w,
            named_base (home s inner.below.stage.depth) w named_there,
            home_low s inner.below.stage.depth (number_of w),
          )))
          (λ held. (
          let front = ap ways.base_of (sym leads) ∙ base_under held.way (expand inner.below.views u) held.under in
          by_either (waits.holds.lies held.object held.way held.has)
          (λ is_named. (
            home s inner.below.stage.depth (number_of held.way),
            number_of held.way,
            front ∙ named_base (home s inner.below.stage.depth) held.way is_named,
            home_low s inner.below.stage.depth (number_of held.way),
          ))
          (λ (foreign, low, some). (foreign.0, foreign.1, front ∙ foreign.2, omega (arith, low)))))

      -- what concerns the frame below
      abbrev pub gone_around : Way → Type 0
      gone_around = GoneElsewhere program effects (h ∷ others)

      pub free_low : (k : ℕ) (w : Way) → ways.Under (ways.Object (ways.OfHand k)) w → IsMovedBy (home s inner.below.stage.depth) inner.below.views their_facts w ⊎ gone_around w → ⊥
      free_low k w under known = elim known [
        | inl moved ↦ hand_base (sym (base_under (ways.Object (ways.OfHand k)) w under) ∙ (moved_low w moved).2)
        | inr away_there ↦ hand_base (sym (base_under (ways.Object (ways.OfHand k)) w under)
            ∙ (gone_low table typed effects unmoved_stage local inner.state inner.below.stage.depth (h ∷ others) between_low w away_there).2)
      ]

      pub whole_low : (x : ℕ) (w : Way) → ways.base_of w ≡ OfRoot (OfVariable (suc inner.below.stage.depth) x)
          → IsMovedBy (home s inner.below.stage.depth) inner.below.views their_facts w ⊎ gone_around w → ⊥
      whole_low x w base known = elim known [
        | inl moved ↦ (
            let root = moved_low w moved in
            let frames_same = (same_variable root.0 root.1 (suc inner.below.stage.depth) x (sym root.2 ∙ base)).0 in
            let less = root.3 in omega (arith, frames_same, less))
        | inr away_there ↦ (
            let root = gone_low table typed effects unmoved_stage local inner.state inner.below.stage.depth (h ∷ others) between_low w away_there in
            let frames_same = (same_variable root.0 root.1 (suc inner.below.stage.depth) x (sym root.2 ∙ base)).0 in
            let less = root.3 in omega (arith, frames_same, less))
      ]

      pub deep_low : length (inner.below.stage.frame ∷ inner.rest) ≡ suc inner.below.stage.depth
      deep_low = ap suc (sym low_is)

      pub far_low : AreFar (home s inner.below.stage.depth) inner.below.views inner.below.stage.depth
      far_low = lies_far s inner.below.stage.depth inner.below.views waits.holds.lies waits.holds.low

      -- where the cells of places are: their ways begin at variables of the frames that wait
      pub begins_low : (c : Lodge) → Has inner.below.cells c → (g : ℕ) × (y : ℕ) × (ways.base_of c.way ≡ OfRoot (OfVariable g y)) × (g ≡ suc inner.below.stage.depth → ⊥)
      begins_low c has =
          let root = kept_low table typed effects unmoved_stage local inner.state depth (inner.below ∷ (h ∷ others))
          (all_between table typed effects unmoved_stage local inner.state inner.top.frame.sub depth inner.top.frame.returns (inner.below ∷ (h ∷ others)) (inner.below.stage.frame ∷ inner.rest) stages_there (omega arith) waiting)
          c.way c.cell (inner.below, inl refl, inr (inl (c, has, refl, refl))) in
          (root.0, root.1, root.2, λ same. (let less = root.3 in let same_depth = low_is in omega (arith, less, same, same_depth)))

      -- the state as the frame below sees it
      abbrev StandsLow : List Return → List Way → Memory → Type 0
      StandsLow returns ways_left m =
          StandsAway main_turn sees ready.accepted.settled ready.owns in_formals (waiting_in inner.state) inner.state.leaks inner.below.stage.depth deep_low inner.below.views far_low waits.holds.only their_facts
          (lasting_of s waits.point.scope) gone_around free_low whole_low inner.below.cells begins_low returns ways_left m

      abbrev Away : Way → Type 0
      Away w =
          AwayBy main_turn sees ready.accepted.settled ready.owns in_formals (waiting_in inner.state) inner.state.leaks inner.below.stage.depth deep_low inner.below.views far_low waits.holds.only their_facts
          (lasting_of s waits.point.scope) gone_around free_low whole_low inner.below.cells begins_low inner.top.frame.returns inner.below.stage.returns w

      known_low : (w : Way) (l : ways.Loc) → ways.IsRooted w → ways.Reaches (view_here s inner.state) w l → (view_here s inner.state).word l ≡ ways.Gone
          → IsMovedBy (home s inner.below.stage.depth) inner.below.views their_facts w ⊎ Away w
      known_low w l rooted r gone = elim (well.known w l rooted r gone) [
        | inl (inr none) ↦ absurd none
        | inr (g, inl same_stage, inl moved) ↦ inl (subst (λ (z : ViewStage). IsMovedBy (home s z.stage.depth) z.views (facts_of program effects z.stage) w) (sym same_stage) moved)
        | inr (g, inl same_stage, inr taken) ↦ inr (inr (inl (subst (λ (z : ViewStage). TakenBy z.stage.returns w) (sym same_stage) taken)))
        | inr (g, inr has, what) ↦ inr (inl (g, has, what))
        | inl (inl (u, moved, leads)) ↦ by_either (bool_cases (is_formal s (number_of u) || is_package_object s (number_of u)))
            (λ shared. (absurd (whole_roots is (ways.name_of u) moved.1 shared)))
            (λ neither. (
            let same_way : u ≡ w =
            sym (stands_itself (home s depth) sees (known_gone (home s depth) (λ z. ⊥)) inner.views u moved.0
            (no_view_left is (number_of u) (first (is_formal s (number_of u)) (is_package_object s (number_of u)) neither)) (no_part_left (number_of u) (first (is_formal s (number_of u)) (is_package_object s (number_of u)) neither))) ∙ leads in
            inr (inr (inr (
              number_of w,
              own_base w (subst (ways.Named (home s depth)) same_way moved.0)
                  (second (is_formal s (number_of w)) (is_package_object s (number_of w)) (ap (λ z. is_formal s (number_of z) || is_package_object s (number_of z)) (sym same_way) ∙ neither)),
              λ r has formal. true_false (is_formal s r.formal) ((inner.running.1).1 r has)
                  (ap (is_formal s) formal
                  ∙ first (is_formal s (number_of w)) (is_package_object s (number_of w)) (ap (λ z. is_formal s (number_of z) || is_package_object s (number_of z)) (sym same_way) ∙ neither)),
            )))))
      ]
        where
          first : (a b : Bool) → a || b ≡ false → a ≡ false
          first true b e = e
          first false b e = refl

          second : (a b : Bool) → a || b ≡ false → b ≡ false
          second true b e = absurd (true≢false e)
          second false b e = e

          own_base : (w : Way) → ways.Named (home s depth) w → is_package_object s (number_of w) ≡ false → ways.base_of w ≡ OfRoot (OfVariable (suc inner.below.stage.depth) (number_of w))
          own_base w at_home own_object =
              named_base (home s depth) w at_home
              ∙ ap (λ f. OfRoot (OfVariable f (number_of w))) (ap (λ z. if z then 0 else depth) own_object ∙ deep_low)

      pub stands_low : StandsLow inner.top.frame.returns inner.below.stage.returns inner.state.memory
      stands_low = record { owned = well.owned; covered = well.covered; known = known_low }

      -- what was taken is what names of the frame stand for
      taken_named : (to : Way) → Has inner.below.stage.returns to → (name : Way) × ways.Named (home s inner.below.stage.depth) name × (sees (number_of name) ≡ false)
          × (expand inner.below.views name ≡ to) × Unlent their_facts name
      taken_named to has = (let by = waits.names to has in (by.name, by.called, by.plain, by.leads, by.unlent))

      -- the ways of its views begin in no frame above
      low_view : (x : ℕ) (w : Way) → inner.below.views.way x ≡ Some w → (g : ℕ) × (y : ℕ) × (ways.base_of w ≡ OfRoot (OfVariable g y)) × (g ≡ suc inner.below.stage.depth → ⊥)
      low_view x w has =
          let root = kept_low table typed effects unmoved_stage local inner.state depth (inner.below ∷ (h ∷ others))
          (all_between table typed effects unmoved_stage local inner.state inner.top.frame.sub depth inner.top.frame.returns (inner.below ∷ (h ∷ others)) (inner.below.stage.frame ∷ inner.rest) stages_there (omega arith) waiting)
          w (inner.below.views.cell x) (inner.below, inl refl, inl (x, has, refl)) in
          (root.0, root.1, root.2, λ same. (let less = root.3 in let same_depth = low_is in omega (arith, less, same, same_depth)))

      low_part : (x : ℕ) (q : List Step) (w : Way) → inner.below.views.part_way x q ≡ Some w
          → (g : ℕ) × (y : ℕ) × (ways.base_of w ≡ OfRoot (OfVariable g y)) × (g ≡ suc inner.below.stage.depth → ⊥)
      low_part x q w has =
          let root = kept_low table typed effects unmoved_stage local inner.state depth (inner.below ∷ (h ∷ others))
          (all_between table typed effects unmoved_stage local inner.state inner.top.frame.sub depth inner.top.frame.returns (inner.below ∷ (h ∷ others)) (inner.below.stage.frame ∷ inner.rest) stages_there (omega arith) waiting)
          w (inner.below.views.part_cell x q) (inner.below, inl refl, inr (inr (x, q, has, refl))) in
          (root.0, root.1, root.2, λ same. (let less = root.3 in let same_depth = low_is in omega (arith, less, same, same_depth)))

      abbrev Backed : Memory → Type 0
      Backed m =
          IsBack main_turn sees ready.accepted.settled ready.owns in_formals (waiting_in inner.state) inner.state.leaks inner.below.stage.depth deep_low inner.below.views far_low waits.holds.only their_facts
          (lasting_of s waits.point.scope) gone_around free_low whole_low inner.below.cells begins_low inner.top.frame.returns inner.below.stage.returns inner.state.memory m

      given_back : Backs Backed (steps.copied_back main_turn inner.top.frame.returns (steps.start main_turn))
      given_back =
          all_given_back main_turn sees ready.accepted.settled ready.owns in_formals (waiting_in inner.state) inner.state.leaks inner.below.stage.depth deep_low inner.below.views far_low waits.holds.only their_facts
          (lasting_of s waits.point.scope) gone_around free_low whole_low inner.below.cells begins_low inner.top.frame.returns inner.below.stage.returns (steps.start main_turn) waits.taken
          (λ c has. ((waits.kept c has).reaches, (waits.kept c has).aside)) inner.kept stands_low

      module _ (mid : Memory) (on : Backed mid) (same_mid : inner.top.frame.returns ≡ [] → mid ≡ inner.state.memory) where
        abbrev left_state : State
        left_state = counted (record inner.state { frames = inner.below.stage.frame ∷ inner.rest; memory = without_frame depth mid })

        depths : suc inner.below.stage.depth ≡ depth
        depths = sym deep_low

        nothing_mid : (x : ℕ) (q : List Step) (n : ℕ) → word_in s.table (content s mid (waiting_in inner.state) (OfRoot (OfVariable depth x))) q ≡ Held n → ⊥
        nothing_mid x q n held = by_either (on.held depth x q n held)
            (λ before. (
            let copied = left_formal is x q n before in
            on.empty copied.0 copied.1 q n
            (subst (λ f. word_in s.table (content s mid [] (OfRoot (OfVariable f (copied.0).formal))) q ≡ Held n) (sym depths)
            (subst (λ y. word_in s.table (content s mid [] (OfRoot (OfVariable depth y))) q ≡ Held n) (sym copied.2) held))))
            (λ same_low. (let a = same_low.0 in let b = home_low s low x in let c = low_is in omega (arith, a, b, c)))

        abbrev left_memory : Memory
        left_memory = without_frame depth mid

        hands_left : waiting_in left_state ≡ waiting_in inner.state
        hands_left = left_waits inner.state inner.top.frame outer left_memory inner.frames (nothing_waits is)

        abbrev left_view : ways.View
        left_view = seen s left_memory (waiting_in inner.state) inner.state.leaks

        abbrev mid_view : ways.View
        mid_view = seen s mid (waiting_in inner.state) inner.state.leaks

        view_left : left_view ≡ view_here s left_state
        view_left = ap (λ z. seen s left_memory z inner.state.leaks) (sym hands_left)

        reach_on : (w : Way) (n : ℕ) → ways.Reaches mid_view w (ways.OfCell n) → ways.Reaches (view_here s left_state) w (ways.OfCell n)
        reach_on w n reach =
            subst (λ z. ways.Reaches z w (ways.OfCell n)) view_left
            (reach_left s mid depth (waiting_in inner.state) inner.state.leaks nothing_mid w (ways.OfCell n) reach)

        -- what is in a variable of another frame was there before
        held_before : (f x : ℕ) (q : List Step) (n : ℕ) → word_in s.table (content s left_memory [] (OfRoot (OfVariable f x))) q ≡ Held n
            → (f ≡ depth → ⊥) × (word_in s.table (content s mid [] (OfRoot (OfVariable f x))) q ≡ Held n)
        held_before f x q n held = left_held s mid depth (waiting_in inner.state) inner.state.leaks nothing_mid f x q n held

        -- and views have there what they had
        words_before : (f x i : ℕ) → (f ≡ depth → ⊥) → is_view s x ≡ true
            → (get_or (variable_slots s f x left_memory.variables) i no_slot).word ≡ (get_or (variable_slots s f x inner.state.memory.variables) i no_slot).word
        words_before f x i ne view = other_word s mid depth f x i ne ∙ on.views f x i view

        -- a frame of the caller, or that of the package objects
        home_left : (f x : ℕ) → f ≡ home s low x → (f < low) ⊎ ((f ≡ low) × (is_package_object s x ≡ false))
        home_left f x at_home = elim (bool_cases (is_package_object s x)) [
          | inr own ↦ inr (at_home ∙ ap (λ b. if b then 0 else low) own, own)
          | inl shared ↦ (
              let none : f ≡ 0 = at_home ∙ ap (λ b. if b then 0 else low) shared in
              let some = some_frames h others inner.rest stages_there.2 in
              let same_depth = low_is in inl (omega (arith, none, some, same_depth)))
        ]

        scope_left : (f x : ℕ) (q : List Step) (n : ℕ) → word_in s.table (content s left_memory [] (OfRoot (OfVariable f x))) q ≡ Held n
            → (f < low) ⊎ ((f ≡ low) × (is_within x (lasting_of s (waits.point).scope) ≡ true))
        scope_left f x q n held =
            let before = held_before f x q n held in
            elim (on.held f x q n before.1) [
              | inr mine ↦ elim (home_left f x mine.0) [ inl less ↦ inl less | inr at ↦ inr (at.0, mine.1 at.1) ]
              | inl first ↦ elim (same_or_not f low) [
                | inl e ↦ inr (e, waits.scope x q n (subst (λ z. word_in s.table (content s inner.state.memory [] (OfRoot (OfVariable z x))) q ≡ Held n) e first))
                | inr other_low ↦ inl (elim (inner.scope f x q n first) [
                  | inr mine ↦ absurd (before.0 mine.0)
                  | inl less ↦ smaller f (length inner.rest) low less other_low low_is
                ])
              ]
            ]

        -- what is gone is known to those that are left
        known_left : (w : Way) (l : ways.Loc) → ways.IsRooted w → ways.Reaches left_view w l → left_view.word l ≡ ways.Gone
            → ExcusedBy (home s low) inner.below.views (known_gone (home s low) (GoneElsewhere program effects (h ∷ others))) (facts_of program effects inner.below.stage) w
        known_left w l rooted r gone =
            elim (on.stand.known w l rooted (reach_before s mid depth (waiting_in inner.state) inner.state.leaks nothing_mid w l r)
            (gone_before s mid depth (waiting_in inner.state) inner.state.leaks nothing_mid l gone)) [
              | inl moved ↦ inl (inl moved)
              | inr (inl away_there) ↦ inr away_there
              | inr (inr (inl taken)) ↦ absurd taken.1
              | inr (inr (inr (x, base, none))) ↦ absurd (
                  whole_there s mid depth (waiting_in inner.state) inner.state.leaks nothing_mid w l x (base ∙ ap (λ f. OfRoot (OfVariable f x)) depths) r gone)
            ]

        -- its views see what they saw
        views_mid : AreViews (home s low) sees inner.below.views mid_view (facts_of program effects inner.below.stage)
        views_mid = (
          λ x w has. (
              let base = low_view x w has in
              view_on (home s low) sees (known_gone (home s low) (λ z. ⊥)) inner.below.views (view_here s inner.state) mid_view
              (facts_of program effects inner.below.stage) (facts_of program effects inner.below.stage) x w (waits.views.0 x w has) (λ b n loan. loan)
              (on.stays w base.0 base.1 base.2 base.3 (waits.off x w has) (inner.below.views.cell x)
              (reached (home s low) sees (known_gone (home s low) (λ z. ⊥)) inner.below.views (view_here s inner.state) (facts_of program effects inner.below.stage) x w (waits.views.0 x w has)))),
          parts_on (home s low) sees (known_gone (home s low) (λ z. ⊥)) inner.below.views (view_here s inner.state) mid_view waits.views.1
              (λ x q w has reach. (let base = low_part x q w has in
              on.stays w base.0 base.1 base.2 base.3 (waits.off_parts x q w has) (inner.below.views.part_cell x q) reach)),
        )

        viewed_left : ViewedAlone (home s low) sees (known_gone (home s low) (GoneElsewhere program effects (h ∷ others))) inner.below.views left_view
            (facts_of program effects inner.below.stage)
        viewed_left = record {
          owned = owned_left s mid depth (waiting_in inner.state) inner.state.leaks nothing_mid on.stand.owned;
          covered = covered_left s mid depth (waiting_in inner.state) inner.state.leaks nothing_mid on.stand.covered;
          known = known_left;
          clear = waits.clear;
          views = (
            λ x w has.
                view_on (home s low) sees (known_gone (home s low) (λ z. ⊥)) inner.below.views mid_view left_view
                (facts_of program effects inner.below.stage) (facts_of program effects inner.below.stage) x w (views_mid.0 x w has) (λ b n loan. loan)
                (reach_left s mid depth (waiting_in inner.state) inner.state.leaks nothing_mid w (ways.OfCell (inner.below.views.cell x))
                (reached (home s low) sees (known_gone (home s low) (λ z. ⊥)) inner.below.views mid_view (facts_of program effects inner.below.stage) x w (views_mid.0 x w has))),
            parts_on (home s low) sees (known_gone (home s low) (λ z. ⊥)) inner.below.views mid_view left_view views_mid.1
                (λ x q w has reach. reach_left s mid depth (waiting_in inner.state) inner.state.leaks nothing_mid w (ways.OfCell (inner.below.views.part_cell x q)) reach),
          );
          whole = λ x w z has foreign gone meets. (waiting.2).0 x w z has foreign gone meets;
          whole_parts = λ x q w z has gone meets. (waiting.2).1 x q w z has gone meets;
        }

        holds_there : HoldsAt s sees low inner.below.views left_memory waits.point
        holds_there = record {
          held = λ x n lasts view bare e. waits.holds.held x n lasts view bare (word_there x n view e);
          within = λ x n view bare e. waits.holds.within x n view bare (word_there x n view e);
          only = waits.holds.only;
          lies = waits.holds.lies;
          owners = waits.holds.owners;
          passed = waits.holds.passed;
          own = waits.holds.own;
          taken = waits.holds.taken;
          parts = parts_same s sees low inner.below.views inner.state.memory left_memory (λ x part_path bundle. part_there x (offset_in s.table (object_at s x).of part_path) (bundle_view s x bundle)) waits.holds.parts;
          low = waits.holds.low;
        }
          where
            part_there : (x i : ℕ) → is_view s x ≡ true
                → (get_or (variable_slots s (home s low x) x left_memory.variables) i no_slot).word ≡ (get_or (variable_slots s (home s low x) x inner.state.memory.variables) i no_slot).word
            part_there x i view =
                let at_low : home s low x ≡ low = ap (λ b. if b then 0 else low) (local x view) in
                let below_it = low_is in
                words_before (home s low x) x i (λ same_depth. omega (arith, at_low, below_it, same_depth)) view

            word_there : (x n : ℕ) → is_view s x ≡ true
                → (get_or (variable_slots s (home s low x) x left_memory.variables) 0 no_slot).word ≡ machine.Cell n
                → (get_or (variable_slots s (home s low x) x inner.state.memory.variables) 0 no_slot).word ≡ machine.Cell n
            word_there x n view e =
                let at_low : home s low x ≡ low = ap (λ b. if b then 0 else low) (local x view) in
                let below_it = low_is in
                sym (words_before (home s low x) x 0 (λ same_depth. omega (arith, at_low, below_it, same_depth)) view) ∙ e

        above_left : NoneAbove s low left_memory
        above_left = (
          λ f x n less view e. elim (same_or_not f depth) [
            | inl same_depth ↦ no_word s mid depth x 0 n
                (subst (λ z. (get_or (variable_slots s z x left_memory.variables) 0 no_slot).word ≡ machine.Cell n) same_depth e)
            | inr ne ↦ (inner.above.0).0 f x n (higher f low (length inner.rest) less low_is ne) view (sym (words_before f x 0 ne view) ∙ e)
          ],
          λ f x i n less bundle e. elim (same_or_not f depth) [
            | inl same_depth ↦ no_word s mid depth x i n
                (subst (λ z. (get_or (variable_slots s z x left_memory.variables) i no_slot).word ≡ machine.Cell n) same_depth e)
            | inr ne ↦ (inner.above.0).1 f x i n (higher f low (length inner.rest) less low_is ne) bundle (sym (words_before f x i ne (bundle_view s x bundle)) ∙ e)
          ],
        )

        -- what was gone stays so in the frames that are left, but in the places that were taken
        left_carried : AreCarried s (λ f. f ≡ inner.top.depth → ⊥) inner.below.cells inner.below.stage.returns inner.state.memory left_memory
        left_carried =
            let left_there = left_same s mid depth (waiting_in inner.state) inner.state.leaks nothing_mid in
            let others_off : (f : ℕ) → (f ≡ inner.top.depth → ⊥) → f ≡ depth → ⊥ = (λ f off e. off (e ∙ sym inner.deep)) in
            let above_off : (f : ℕ) → (f ≡ inner.top.depth → ⊥) → f ≡ suc inner.below.stage.depth → ⊥ = (λ f off e. off (e ∙ depths ∙ sym inner.deep)) in
            record {
              held = λ f x q c off out held. on.carried.held f x q c (above_off f off) out (sym (left_there.0 f x q (others_off f off)) ∙ held);
              gone = λ f x q off out gone. left_there.0 f x q (others_off f off) ∙ on.carried.gone f x q (above_off f off) out gone;
              in_cells = λ n q c out held. on.carried.in_cells n q c out (sym (left_there.1 n q) ∙ held);
              gone_cells = λ n q out gone. left_there.1 n q ∙ on.carried.gone_cells n q out gone;
            }

        abbrev Given_to : Way → Type 0
        Given_to to = FromGiven (home s inner.below.stage.depth) sees inner.below.views (view_here s inner.state) their_facts waits.views to

        -- the others keep nothing of a package object where what was taken begins, or it was lent to the frame
        spared_to : (to : Way) → Has inner.below.stage.returns to → (y : ℕ) → ways.base_of to ≡ OfRoot (OfVariable (home s inner.below.stage.depth y) y)
            → IsSpared table typed effects unmoved_stage local inner.state inner.below.stage.depth (h ∷ others) between_low y ⊎ Given_to to
        spared_to to has y base = elim (bool_cases (is_package_object s y)) [
          | inr mine ↦ inl (λ l name lent root. true_false (is_package_object s y) (ap (is_package_object s) (sym root) ∙ lent.5) mine)
          | inl shared ↦ elim (waits.goes to has y (base ∙ ap (λ b. OfRoot (OfVariable (if b then 0 else inner.below.stage.depth) y)) shared) shared) [
            | inr given ↦ inr given
            | inl written ↦ inl (λ l name lent root. (
                let (g, there, some, f, keeps, shared_root, kind, name_is) = lent in
                kept_there table typed effects ready.accepted.effects_are (unused_there table typed effects unmoved_stage local) inner.state inner.below.stage.frame.sub inner.below.stage.frame.returns
                (h ∷ others) waiting.1 g there some f keeps (ap (λ (z : PlaceName). is_package_object s z.root) name_is ∙ shared_root)
                (written_disturbs table typed effects ready.accepted.effects_are (loan_by f) inner.below.stage.frame.sub (place f).root
                (subst (Has (written_by effects inner.below.stage.frame.sub)) (sym root ∙ ap (λ (z : PlaceName). z.root) (sym name_is)) written))))
          ]
        ]

        free_to : (to : Way) → Has inner.below.stage.returns to → IsFree table typed effects unmoved_stage local inner.state inner.below.stage.depth (h ∷ others) between_low to
        free_to to has =
            let by = taken_named to has in
            subst (IsFree table typed effects unmoved_stage local inner.state inner.below.stage.depth (h ∷ others) between_low) by.3
            (free_name table typed effects unmoved_stage local inner.state inner.below.stage.depth (h ∷ others) between_low inner.below.views (view_here s inner.state) their_facts waits.views (waiting.3).0 (waiting.2).0 by.0 by.1 by.2
            (λ y base. elim (spared_to to has y (ap ways.base_of (sym by.3) ∙ base)) [
              | inl none ↦ inl none
              | inr given ↦ inr (subst Given_to (sym by.3) given)
            ]))

        -- what is bare elsewhere in a cell isn't given back to
        bare_aside : (w : ways.Way) (n : ℕ) (q r : List Step) → BareElsewhere table typed effects unmoved_stage local (h ∷ others) w (ways.OfCell n) q
            → IsTakenIn inner.below.cells inner.below.stage.returns n (r ++ q) → ⊥
        bare_aside w n q r there these =
            let (c, has, is, (to, has_to, steps_on, goes)) = these in
            let view = view_here s inner.state in
            let reach : ways.Reaches view w (ways.OfCell n) = bare_reached table typed effects unmoved_stage local inner.state inner.below.stage.depth (h ∷ others) between_low w n q there in
            let same : c.way ≡ w = one_way view well.owned c.way w (ways.OfCell n) (subst (λ z. ways.Reaches view c.way (ways.OfCell z)) is (waits.kept c has).reaches) reach in
            bare_clear table typed effects unmoved_stage local inner.state inner.below.stage.depth (h ∷ others) between_low to (free_to to has_to) w (ways.OfCell n) q r there
            (subst (ways.Under to) (sym goes ∙ ap (λ z. ways.along z (r ++ q)) same) (under_along to to steps_on (under_itself to)))

        -- nothing given waits in others
        none_in : inner.more_frames ≡ h ∷ others → NoneGiven s h × AllByRecursion (NoneGiven s) others
        none_in same_more = subst (AllByRecursion (NoneGiven s)) same_more (inner.above.1).0.2

        others_left : AreWaiting table typed effects left_state inner.below.stage.frame.sub inner.below.stage.frame.returns (h ∷ others)
        others_left =
            all_on table typed effects unmoved_stage local inner.state left_state low
            (λ f x q n some less held. elim (on.held f x q n (held_before f x q n held).1) [
              | inl before ↦ before
              | inr mine ↦ absurd (elim (bool_cases (is_package_object s x)) [
                | inl shared ↦ (let none : f ≡ 0 = mine.0 ∙ ap (λ b. if b then 0 else low) shared in omega (arith, some, none))
                | inr own ↦ (let same_low : f ≡ low = mine.0 ∙ ap (λ b. if b then 0 else low) own in omega (arith, less, same_low))
              ])
            ])
            (λ f x i some less view. words_before f x i (λ same_depth. (let below_it = low_is in omega (arith, less, same_depth, below_it))) view)
            inner.below.stage.frame.sub inner.below.stage.frame.returns (h ∷ others) inner.rest stages_there.2 (let same_depth = low_is in omega (arith, same_depth))
            (record {
              far = λ w n keeps. (let root = kept_low table typed effects unmoved_stage local inner.state inner.below.stage.depth (h ∷ others) between_low w n keeps in
                  reach_on w n (on.stays w root.0 root.1 root.2 (λ same_depth. (let less = root.3 in omega (arith, less, same_depth)))
                  (λ to has past. kept_clear table typed effects unmoved_stage local inner.state inner.below.stage.depth (h ∷ others) between_low to (free_to to has) w n keeps past) n
                  (far table typed effects unmoved_stage local inner.state inner.below.stage.depth (h ∷ others) between_low w n keeps)));
              bare = bare_still table typed effects unmoved_stage local (h ∷ others) inner.state left_state
                  (λ w n q r k there held. left_carried.in_cells n (r ++ q) k (bare_aside w n q r there) held)
                  (λ y q r k there shared held. left_carried.held 0 y (r ++ q) k (λ same_depth. (let at = inner.deep in omega (arith, same_depth, at)))
                  (λ (to, has, steps_on, goes). bare_clear table typed effects unmoved_stage local inner.state inner.below.stage.depth (h ∷ others) between_low to (free_to to has)
                  (ways.Object (OfVariable 0 y)) (OfRoot (OfVariable 0 y)) q r there
                  (subst (ways.Under to) (sym goes) (under_along to to steps_on (under_itself to)))) held)
                  (theirs table typed effects unmoved_stage local inner.state inner.below.stage.depth (h ∷ others) between_low).bare;
            }) waiting.1

        -- the frame below goes on
        returns_to : inner.more_frames ≡ h ∷ others → Along (Goes left_state)
        returns_to same_more = (
          record {
            top = inner.below.stage;
            views = inner.below.views;
            older = h ∷ others;
            stages = stages_there;
            running = (waits.runs, waits.plain, others_left);
            awaited = subst (λ n. AreAwaited table typed n (stages_of (inner.below ∷ (h ∷ others)))) (returned_then is) still_awaited;
            path = waits.path;
            viewed = subst (λ z. ViewedAlone (home s low) sees (known_gone (home s low) (GoneElsewhere program effects (h ∷ others))) inner.below.views z
                (facts_of program effects inner.below.stage)) view_left viewed_left;
            kept = subst (Kept s left_memory) (sym hands_left)
                (returned_kept s mid depth (waiting_in inner.state) inner.state.leaks nothing_mid on.typed);
            named = waits.named;
            of_sub = waits.of_sub;
            point = waits.point;
            at_point = waits.at_point;
            scope = scope_left;
            holds = holds_there;
            placed = waits.placed;
            past = waiting.3;
            none_above = above_left;
            traversals = (
              (
                by_either (inner.above.1).0.1
                    (λ none. (none_given table typed (view_here s left_state) (record { stage = inner.below.stage; views = inner.below.views; cells = [] }) none))
                    (λ (some, returned, none_back, was). (λ other_named other_of q at_q w others same_first seen_there.
                    given_again s inner.below.stage.depth inner.below.views q.instr (view_here s inner.state) (view_here s left_state) w (was other_named other_of q at_q w others same_first seen_there)
                    (λ u same_way k reach. reach_on u k (subst (λ z. ways.Reaches (seen s z (waiting_in inner.state) inner.state.leaks) u (ways.OfCell k)) (sym (same_mid none_back)) reach)))),
                inl (none_in same_more).0,
                (none_in same_more).1,
              ),
              (subst (λ z. AreTraversals table typed (inner.below ∷ z)) same_more (inner.above.1).1.1),
            );
          },
          ends_one inner.below.cells (ap (λ z. inner.below ∷ z) same_more) left_carried,
        )

    -- what is done, and more
    backs_with : (Q R : Memory → Type 0) (y : Evaluated Memory) → Backs Q y → ((m : Memory) (now : Now) → y ≡ Done m now → R m) → Backs (λ m. Q m × R m) y
    backs_with Q R (Done m now) back more = (back, more m now refl)
    backs_with Q R (Raises e now) back more = tt
    backs_with Q R (Traps e now) never more = never

    done_memory : (m k : Memory) (now begun : Now) → ◌≡◌ {A = Evaluated Memory} (Done m now) (Done k begun) → m ≡ k
    done_memory m k now begun e = done_same e

    pub ends_call : inner.p.instr ≡ Finish → Along (turn main_turn Finish)
    ends_call is = by_rest inner.rest inner.more_frames refl refl inner.stages inner.running.2 viewed_own inner.awaiting.1
      where
        by_rest : (r : List Frame) (m : List ViewStage) → inner.rest ≡ r → inner.more_frames ≡ m → AreStages (stages_of (inner.below ∷ m)) (inner.below.stage.frame ∷ r)
            → AreWaiting table typed effects inner.state inner.top.frame.sub inner.top.frame.returns (inner.below ∷ m)
            → ViewedAlone (home s depth) sees (known_gone (home s depth) (GoneElsewhere program effects (inner.below ∷ m))) inner.views (view_here s inner.state) own_facts
            → AreAwaited table typed (awaited (sub_of program inner.top.frame.sub) inner.top.before) (stages_of (inner.below ∷ m)) → Along (turn main_turn Finish)
        by_rest [] [] same_rest same_more stages_there waiting well still =
            ends_lead main_turn Along (λ m. m ≡ inner.state.memory)
            ends_raised inner.below.stage.frame (ap (λ z. inner.below.stage.frame ∷ z) same_rest)
            (λ m on. subst (λ z. Along (Ends Normal (counted (record inner.state { frames = outer; memory = without_frame depth z })))) (sym on) (
              (λ trap. trap),
              ended_owned s ready.accepted.settled ready.owns inner.state inner.top.frame outer depth inner.frames (nothing_waits is)
                  (λ x q n held. (let copied = left_formal is x q n held in subst (λ z. Has z copied.0) waiting.1 copied.1)) well.owned well.covered,
            ))
            (subst (λ z. Backs (λ m. m ≡ inner.state.memory) (steps.copied_back main_turn z (steps.start main_turn))) (sym waiting.1) refl)
        by_rest [] (h ∷ m) same_rest same_more stages_there waiting well still = absurd stages_there.2
        by_rest (k ∷ r) [] same_rest same_more stages_there waiting well still = absurd stages_there.2
        by_rest (k ∷ r) (h ∷ m) same_rest same_more stages_there waiting well still =
            let there : AreStages (stages_of (inner.below ∷ (h ∷ m))) (inner.below.stage.frame ∷ inner.rest) =
            subst (λ z. AreStages (stages_of (inner.below ∷ (h ∷ m))) (inner.below.stage.frame ∷ z)) (sym same_rest) stages_there in
            returns_lead main_turn Along (λ mid. Backed h m there waiting well still is mid × (inner.top.frame.returns ≡ [] → mid ≡ inner.state.memory))
            ends_raised inner.below.stage.frame k r (ap (λ z. inner.below.stage.frame ∷ z) same_rest)
            (λ mid on. returns_to h m there waiting well still is mid on.0 on.1 same_more)
            (backs_with (λ mid. Backed h m there waiting well still is mid) (λ mid. inner.top.frame.returns ≡ [] → mid ≡ inner.state.memory)
            (steps.copied_back main_turn inner.top.frame.returns (steps.start main_turn)) (given_back h m there waiting well still is)
            (λ mid now e none. done_memory mid inner.state.memory now (steps.start main_turn)
            (sym e ∙ ap (λ z. steps.copied_back main_turn z (steps.start main_turn)) none)))
