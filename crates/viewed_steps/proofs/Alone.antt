-- What a function gave is taken alone: an object is declared with it, or it is assigned or returned. It may own.
use Rattle.machine.specs.flow_paths.Views.{sub_acts}
use Rattle.machine.specs.place_names.Facts.{effect}
use Rattle.soundness.proofs.Fading.{FadesTo}
use Rattle.soundness.proofs.ViewedSoundness.Stored.{Assigns, then_placed}
use Rattle.viewed_steps.specs.Traversals.{IsSourceIn}
use Rattle.machine.specs.Calls.{checks_at}
use Rattle.machine.specs.spark_base.declared.position.Pos.{Pos}
use Rattle.soundness.proofs.ViewedSoundness.ViewKinds.{plain_named, true_false}
use Rattle.std.proofs.Common.{◌≡◌, refl, sym, ap, ◌∙◌, subst, inl, inr, ℕ, suc, ◌+◌, Bool, true, false, List, [], ◌∷◌, ◌++◌, drop, length, arith, Some, if◌then◌else◌, take, map}
use Rattle.machine.specs.spark_base.Lists.{Has}
use Rattle.machine.specs.place_names.declared.act.Act.{Act}
use Rattle.machine.specs.place_names.declared.act.Act.TheVariants as act
use Rattle.machine.specs.place_names.declared.fact.Fact.{Fact}
use Rattle.machine.specs.place_names.declared.fact.Fact.TheVariants.{Moved}
use Rattle.machine.specs.place_names.Names.{Name as PlaceName}
use Rattle.machine.specs.type_definitions.Types.{Table, full}
use Rattle.machine.specs.typed_tree.Trees.{TypedTree, NoMore, More, Name, Call as CallIn}
use Rattle.machine.specs.typed_tree.Programs.{TypedProgram}
use Rattle.machine.specs.flow_paths.declared.report.Effects.{Effects}
use Rattle.machine.specs.flow_paths.Instructions.{Instruction, EndScope, Finish, Declare, Assign}
use Rattle.machine.specs.flow_paths.Objects.{Typing, is_anonymous, is_package_object, is_observer, view_of, object_at}
use Rattle.machine.specs.flow_paths.Names.{has_call, waiting as waits_in, name_of}
use Rattle.machine.specs.flow_paths.Acts as flow
use Rattle.machine.specs.flow_paths.Acts.{acts_in}
use Rattle.machine.specs.flow_paths.Laid.{FlowProgram, typing_of, flow_typing, flow_program, number_in}
use Rattle.machine.specs.flow_paths.Scopes.{taken, scope_behind}
use Rattle.machine.specs.Words as machine
use Rattle.machine.specs.Memory.{declared, stored}
use Rattle.machine.specs.Evaluate.{Evaluated, Done, followed_by, value, place_of, Now, checked, initial}
use Rattle.machine.specs.Evaluate as run
use Rattle.machine.specs.States.{Waiting, Frame, Outcome, sub_of}
use Rattle.machine.specs.Step.{Turn, turn, start}
use Rattle.machine.specs.Step as steps
use Rattle.machine.specs.Owners.{waiting_in}
use Rattle.soundness.specs.OwnedWays.Ways.{OfVariable, OfRoot, Way, after, AllowsAll}
use Rattle.soundness.specs.Seen.{IsNear, content, word_in, home, seen}
use Rattle.soundness.specs.Typed.{Kept, Matches}
use Rattle.soundness.specs.TypedLaws.Needed.{IsFine, Source, Gives, Leads}
use Rattle.soundness.specs.Sound.{IsNoCall, Stage, facts_of, IsAtPoint, view_of as view_here, is_temporary_object, temporaries_in}
use Rattle.soundness.proofs.Scalars.{acts, acts_append, after_append}
use Rattle.soundness.proofs.Around.{IsFar}
use Rattle.soundness.proofs.Waits.{drop_none, no_waits, take_none, waits_of}
use Rattle.soundness.proofs.Taking.{no_takes}
use Rattle.soundness.proofs.Eased.{eased, goes_same}
use Rattle.soundness.specs.OwnedLoans.Views.{Around, Viewed}
use Rattle.soundness.specs.ViewedSoundness.Holds.{IsNamed, AllKeep, is_view, is_fixed, Seeing}
use Rattle.soundness.proofs.ViewedSoundness.Outcomes.{named_plain, Leads_on, stored_goes, not_views, assigned_acts}
use Rattle.viewed_steps.specs.Awaited.{AreFor, temporaries_of, TakesAlone}
use Rattle.viewed_steps.proofs.Waited.{temporary_first, Shares, others_only}
use Rattle.viewed_steps.specs.Sound.{ViewStage, GoneElsewhere, IsStoredAt}
use Rattle.viewed_steps.specs.Ready.{IsReady, AreOrderly}
use Rattle.viewed_steps.proofs.Lent.{Spare}
use Rattle.viewed_steps.proofs.Placed.{MayBe}
use Rattle.viewed_steps.proofs.Waiting.{StandsBetween, beside_them, handed, apart_elsewhere}
use Rattle.viewed_steps.proofs.Standing as standing
use Rattle.viewed_steps.proofs.Packages as packages
use Rattle.viewed_steps.proofs.Innermost as innermost
use Rattle.std.specs.Prelude.{flat_map, reverse}
use Rattle.std.proofs.lemmas.Bool.{true≢false}
use Rattle.machine.specs.type_definitions.Types.{words}
use Rattle.machine.specs.Evaluate.{Raises, Traps}
use Rattle.soundness.specs.Ready.{IsSupplied}
use Rattle.soundness.proofs.Numbers.{index_law}
use Rattle.soundness.proofs.Lasting.{keeps}
use Rattle.soundness.proofs.ViewedSoundness.Evaluated.{Given, Ready, checked_given, call_given, keep_both}
use Rattle.viewed_steps.proofs.Declared.{declared_goes, first_fades}
use Rattle.viewed_steps.proofs.EachInstruction as each
use Rattle.viewed_steps.proofs.Views.{AreAccess, all_held}
use Rattle.viewed_steps.specs.Seeing.{sees_in}
use Rattle.viewed_steps.proofs.Sees.{sees_seeing}
use Rattle.viewed_steps.proofs.InnerFrame.{InnerFrame}

some_is : {t w : ℕ} → Some t ≡ Some w → t ≡ w
some_is e = cc

module _ (table : Table) (typed : TypedProgram) (effects : Effects) (input : List ℕ) (ready : IsReady table typed effects) where
  abbrev sees : ℕ → Bool
  sees = sees_in (flow_program table typed)

  abbrev seeing : Seeing (flow_typing (flow_program table typed)) sees
  seeing = sees_seeing (flow_program table typed)

  abbrev program : FlowProgram
  program = flow_program table typed

  abbrev s : Typing
  s = flow_typing program

  abbrev own : Typing
  own = typing_of table typed

  abbrev in_formals : AreAccess s
  in_formals = standing.in_formals table typed effects input ready

  abbrev local : (x : ℕ) → is_view s x ≡ true → is_package_object s x ≡ false
  local = standing.local table typed effects input ready

  abbrev unmoved_stage : (e : Stage) → e.frame.sub ≡ 0 → (name : PlaceName) → Has (facts_of program effects e) (Moved name) → ⊥
  unmoved_stage = packages.unmoved_stage table typed effects input ready

  module _ (inner : InnerFrame table typed effects) where
    abbrev outer : List Frame
    outer = inner.below.stage.frame ∷ inner.rest

    abbrev older : List ViewStage
    older = inner.below ∷ inner.more_frames

    abbrev depth : ℕ
    depth = suc (length inner.rest)

    abbrev between : (g : ViewStage) → Has (inner.below ∷ inner.more_frames) g → StandsBetween table typed effects unmoved_stage local inner.state (suc (length inner.rest)) (inner.below ∷ inner.more_frames) g
    between = innermost.between table typed effects input ready inner

    abbrev other : Around (home s (suc (length inner.rest)))
    other = beside_them table typed effects unmoved_stage local inner.state (suc (length inner.rest)) (inner.below ∷ inner.more_frames) between

    abbrev alone : (w : Way) → IsNear (suc (length inner.rest)) w → IsFar (suc (length inner.rest)) (GoneElsewhere program effects (inner.below ∷ inner.more_frames)) w → ⊥
    alone = innermost.alone table typed effects input ready inner

    abbrev main_turn : Turn
    main_turn = standing.t table typed effects input ready inner.state inner.top older outer inner.named inner.p inner.frames inner.of_sub inner.at_point

    abbrev own_facts : List Fact
    own_facts = standing.facts table typed effects input ready inner.state inner.top older outer inner.named inner.p inner.frames inner.of_sub inner.at_point inner.path

    abbrev handed_on : List Fact
    handed_on = handed table typed effects unmoved_stage local inner.state (suc (length inner.rest)) (inner.below ∷ inner.more_frames) between

    abbrev facts_now : List Fact
    facts_now = own_facts ++ handed_on

    abbrev acts_of_main : Instruction → List Act
    acts_of_main i = standing.acts_here table typed effects input ready inner.state inner.top older outer inner.named inner.p inner.frames inner.of_sub inner.at_point i

    abbrev allowed_now : Spare s (standing.acts_by table typed effects input ready inner.state inner.top older outer inner.named inner.p inner.frames inner.of_sub inner.at_point s inner.p.instr) → AllowsAll own_facts (acts_of_main inner.p.instr)
        → AllowsAll facts_now (acts_of_main inner.p.instr)
    allowed_now = innermost.allowed_now table typed effects input ready inner

    abbrev viewed : Viewed (home s depth) sees other inner.views (view_here s inner.state) facts_now
    viewed = innermost.viewed table typed effects input ready inner

    abbrev given_words : List (List machine.Word)
    given_words = (start main_turn).waits

    abbrev easy : Turn
    easy = eased main_turn

    abbrev supplied_here : IsSupplied s inner.p
    supplied_here = innermost.supplied_here table typed effects input ready inner

    abbrev shared : Shares s (taken inner.p.instr) inner.top.frame.waits inner.p.scope
    shared = innermost.shared table typed effects input ready inner

    abbrev may : ℕ → ℕ → Type 0
    may x y = MayBe program (scope_behind inner.p) x y × IsStoredAt inner.p.instr x × IsSourceIn (sub_acts (sub_of program inner.top.frame.sub)) x y

    abbrev LeadsFrom : Instruction → Outcome → Type 0
    LeadsFrom i outcome = Leads_on easy sees seeing ready.accepted.settled ready.owns other alone inner.views ready.class.parts_named may refl refl (after (acts_of_main i) facts_now) outcome

    abbrev orderly : AreOrderly program inner.p (λ q. (n : ℕ) × Has (map (number_in inner.named.points) inner.p.next) n × IsAtPoint inner.named.points n q)
    orderly = innermost.orderly table typed effects input ready inner

    -- ---- the value

    module _ (going : (y : ℕ) → inner.p.instr ≡ EndScope y → ⊥) (alone_taken : TakesAlone s inner.p) where
      abbrev x : ℕ
      x = alone_taken.0

      abbrev pub call : TypedTree
      call = CallIn alone_taken.3 alone_taken.4 alone_taken.5

      -- one value is taken
      one_taken : taken inner.p.instr ≡ 1
      unfolding waits_in
      one_taken = elim alone_taken.8 [
        | inl (y, is) ↦ ap taken is
        | inr (inl (q, y, steps, u, is, calls)) ↦ ap taken is ∙ ap (λ k. 1 + k) (no_waits steps calls)
        | inr (inr is) ↦ ap taken is
      ]

      one_there : temporaries_of s (take (taken inner.p.instr) inner.p.scope) ≡ x ∷ []
      one_there =
          ap (λ n. temporaries_of s (take n inner.p.scope)) one_taken ∙ ap (λ z. temporaries_of s (take 1 z)) alone_taken.2
          ∙ by_kind (is_temporary_object s x) refl
        where
          count_one : temporaries_in s (take 1 (x ∷ alone_taken.1)) ≡ 1
          count_one = (λ j. temporaries_in s (take (sym one_taken j) (sym alone_taken.2 j))) ∙ supplied_here.0 ∙ one_taken

          first_only : take 1 (x ∷ alone_taken.1) ≡ x ∷ []
          first_only = ap (λ z. x ∷ z) (take_none alone_taken.1)

          by_kind : (b : Bool) → is_temporary_object s x ≡ b → temporaries_of s (take 1 (x ∷ alone_taken.1)) ≡ x ∷ []
          by_kind true is = ap (temporaries_of s) first_only ∙ temporary_first s x [] is
          by_kind false is =
              (let none : length (temporaries_of s (x ∷ [])) ≡ 0 = ap (λ (z : List ℕ). length z) (others_only s x [] is) in
              let some : length (temporaries_of s (x ∷ [])) ≡ 1 = ap (λ z. length (temporaries_of s z)) (sym first_only) ∙ count_one in absurd (omega (arith, none, some)))

      -- A value of the type of the temporary.
      abbrev pub IsFirst : Waiting → Type 0
      IsFirst v =
          (v.of ≡ (object_at s x).of) × (length v.words ≡ words s.table v.of) × (waiting_in inner.state ≡ v ∷ waiting_in easy.state)
          × (given_words ≡ v.words ∷ []) × (vs : List Waiting) × (inner.top.frame.waits ≡ v ∷ vs)

      pub first_value : (v : Waiting) × IsFirst v
      first_value = by_waits inner.top.frame.waits refl
        where
          taken_all : AreFor s (take (taken inner.p.instr) inner.top.frame.waits) (x ∷ [])
          taken_all = subst (AreFor s (take (taken inner.p.instr) inner.top.frame.waits)) one_there shared.taken

          by_waits : (waits : List Waiting) → inner.top.frame.waits ≡ waits → (v : Waiting) × IsFirst v
          by_waits [] none = absurd (subst (λ z. AreFor s z (x ∷ [])) ((λ j. take (one_taken j) (none j))) taken_all)
          by_waits (v ∷ vs) some =
              let mine : AreFor s (v ∷ take 0 vs) (x ∷ []) = subst (λ z. AreFor s z (x ∷ [])) (λ j. take (one_taken j) (some j)) taken_all in
              let same : v.of ≡ (object_at s x).of = elim (mine.0).0 [
                | inr is ↦ is
                | inl both ↦ (let no : true ≡ false = sym both.1 ∙ alone_taken.7 in absurd (true≢false no))
              ] in
              let others : steps.waiting main_turn ≡ vs = (λ j. drop (one_taken j) (some j)) ∙ drop_none vs in (
                v,
                (
                  same,
                  (mine.0).1,
                  ap (flat_map waits_of) inner.frames ∙ ap (λ z. z ++ flat_map waits_of outer) some ∙ ap (λ z. v ∷ (z ++ flat_map waits_of outer)) (sym others),
                  (λ j. map (λ (w : Waiting). w.words) (reverse (take (one_taken j) (some j)))) ∙ ap (λ z. map (λ (w : Waiting). w.words) (reverse (v ∷ z))) (take_none vs),
                  vs,
                  some,
                ),
              )

      ready_value : Ready (steps.here main_turn) sees seeing ready.accepted.settled inner.state.leaks [] other alone (keeps s ready.accepted.settled ready.owns) index_law ready.owns inner.views
          ready.class.parts_named inner.state.memory (first_value.0 ∷ waiting_in easy.state) facts_now
      ready_value = record {
        viewed = subst (λ z. Viewed (home s depth) sees other inner.views (seen s inner.state.memory z inner.state.leaks) facts_now) first_value.1.2 viewed;
        kept = subst (Kept s inner.state.memory) first_value.1.2 inner.kept;
        holds = all_held s sees in_formals depth inner.views inner.state.memory (λ y n view bare e. inner.holds.held y n (λ fading. going fading.0 fading.1) view bare e) inner.holds.only inner.holds.owners inner.holds.own inner.holds.taken inner.holds.parts;
      }

      pub source_alone : (u : ℕ) → IsNamed s.table u → Source s u call
          → Given (steps.here main_turn) sees seeing ready.accepted.settled inner.state.leaks [] other alone (keeps s ready.accepted.settled ready.owns) index_law ready.owns inner.views
          ready.class.parts_named u (waiting_in easy.state) (after (acts (acts_in s call)) facts_now) (steps.taken_by main_turn u call (start main_turn))
      unfolding acts_in Gives
      source_alone u named_type (inl (view, is)) = absurd (true_false (is_anonymous (full s.table u)) view (named_plain s.table u named_type))
      source_alone u named_type (inr (t, result, fits)) =
          let v : Waiting = first_value.0 in
          let types : Some t ≡ Some (object_at s x).of = sym result ∙ alone_taken.6 in
          let type : v.of ≡ t = first_value.1.0 ∙ sym (some_is types) in
          let now : List (List machine.Word) → Now = (λ ws. record { memory = inner.state.memory; waits = ws }) in
          subst (λ b. Given (steps.here main_turn) sees seeing ready.accepted.settled inner.state.leaks [] other alone (keeps s ready.accepted.settled ready.owns) index_law ready.owns inner.views
          ready.class.parts_named u (waiting_in easy.state) facts_now
          (if b then run.viewed (steps.here main_turn) call (start main_turn) else followed_by (value (steps.here main_turn) call (start main_turn)) (checked (steps.here main_turn) u)))
          (sym (named_plain s.table u named_type))
          (checked_given (steps.here main_turn) sees seeing ready.accepted.settled inner.state.leaks [] other alone (keeps s ready.accepted.settled ready.owns) index_law ready.owns inner.views
          ready.class.parts_named u u (waiting_in easy.state) facts_now (value (steps.here main_turn) call (start main_turn))
          (subst (λ ws. Given (steps.here main_turn) sees seeing ready.accepted.settled inner.state.leaks [] other alone (keeps s ready.accepted.settled ready.owns) index_law ready.owns inner.views
          ready.class.parts_named u (waiting_in easy.state) facts_now (value (steps.here main_turn) call (now ws))) (sym first_value.1.3)
          (call_given (steps.here main_turn) sees seeing ready.accepted.settled inner.state.leaks [] other alone (keeps s ready.accepted.settled ready.owns) index_law ready.owns inner.views
          ready.class.parts_named [] inner.state.memory (waiting_in easy.state) facts_now alone_taken.3 alone_taken.4 alone_taken.5 v.of u v.words
          (subst (λ z. Matches s.table z u) (sym type) fits) first_value.1.1 ready_value)))

    -- ---- a declaration or an assignment

    module _ (going : (y : ℕ) → inner.p.instr ≡ EndScope y → ⊥) (no_calls : IsNoCall inner.p.instr) (alone_taken : TakesAlone s inner.p) where
      abbrev held_call : TypedTree
      held_call = CallIn alone_taken.3 alone_taken.4 alone_taken.5

      allowed_there : (inner.p.instr ≡ Finish → ⊥) → AllowsAll facts_now (acts_of_main inner.p.instr)
      allowed_there end =
          allowed_now (each.spares table typed effects input ready inner going no_calls end)
          (standing.allowed table typed effects input ready inner.state inner.top older outer inner.named inner.p inner.frames inner.of_sub inner.at_point inner.path no_calls)

      keeps_there : AllKeep (is_fixed s sees) (acts_of_main inner.p.instr)
      keeps_there = standing.keeps_there table typed effects input ready inner.state inner.top older outer inner.named inner.p inner.frames inner.of_sub inner.at_point

      -- an object that is no view
      module _ (y : ℕ) (is : inner.p.instr ≡ Declare y (More held_call NoMore)) (owner : is_anonymous (view_of s y) ≡ false) where
        abbrev v : TypedTree
        v = More held_call NoMore

        pub named_object : IsNamed s.table (object_at s y).of
        named_object = plain_named s.table (object_at s y).of owner

        pub acts_same : acts_of_main (Declare y v) ≡ acts (acts_in s held_call)
        unfolding acts_in
        acts_same =
            let kinds = not_views s y named_object in
            ap acts (ap (λ b. if b then flow.source_acts s held_call (act.Borrow y) else
            (if is_observer s y then flow.source_acts s held_call (flow.observe s y) else acts_in s v)) kinds.0
            ∙ ap (λ b. if b then flow.source_acts s held_call (flow.observe s y) else acts_in s v) kinds.1)

        pub source_here : Source s (object_at s y).of held_call
        source_here = (subst (IsFine s inner.named.sub.result) is (standing.fine table typed effects input ready inner.state inner.top older outer inner.named inner.p inner.frames inner.of_sub inner.at_point)).1

        facts_same : after (acts (acts_in s held_call)) facts_now ≡ after (acts_of_main (Declare y v)) facts_now
        facts_same = ap (λ z. after z facts_now) (sym acts_same)

        declared_value : (z : Evaluated (List machine.Word))
            → Given (steps.here main_turn) sees seeing ready.accepted.settled inner.state.leaks [] other alone (keeps s ready.accepted.settled ready.owns) index_law ready.owns inner.views
            ready.class.parts_named (object_at s y).of (waiting_in easy.state) (after (acts_of_main (Declare y v)) facts_now) z
            → FadesTo (steps.here main_turn) inner.state.memory z
            → LeadsFrom (Declare y v) (steps.evaluated main_turn z (λ vs m. steps.goes main_turn (declared depth y vs m) 0))
        declared_value (Done ws n) given faint =
            each.goes_too table typed effects input ready inner going no_calls
            (Declare y v) (declared depth y ws n.memory) 0
            (declared_goes easy sees seeing ready.accepted.settled ready.owns other alone in_formals inner.views ready.class.parts_named may refl refl y (after (acts_of_main (Declare y v)) facts_now)
            named_object (orderly.begun y v is) ws n given faint
            (λ q. each.blank table typed effects input ready inner going no_calls y v is q
            (word_in s.table (content s inner.state.memory [] (OfRoot (OfVariable depth y))) q) refl)
            (each.after_it table typed effects input ready inner going no_calls y v is)
            (each.free table typed effects input ready inner going no_calls y v is)
            (apart_elsewhere table typed effects unmoved_stage local inner.state depth older between y))
        declared_value (Raises how n) given faint =
            each.ends_so table typed effects input ready inner going no_calls (Declare y v) how n.memory
        declared_value (Traps how n) never faint = absurd never

        pub declares_alone : LeadsFrom (Declare y v) (turn main_turn (Declare y v))
        unfolding initial
        declares_alone =
            declared_value (steps.first_value main_turn (object_at s y).of v (start main_turn))
            (subst (λ z. Given (steps.here main_turn) sees seeing ready.accepted.settled inner.state.leaks [] other alone (keeps s ready.accepted.settled ready.owns) index_law ready.owns inner.views
            ready.class.parts_named (object_at s y).of (waiting_in easy.state) z (steps.taken_by main_turn (object_at s y).of held_call (start main_turn))) facts_same
            (source_alone going alone_taken (object_at s y).of named_object source_here))
            (first_fades easy sees seeing ready.accepted.settled ready.owns other alone in_formals inner.views ready.class.parts_named may refl refl given_words (object_at s y).of v (refl, source_here))

      -- a place that is no view
      module _ (r : Pos) (y : ℕ) (path_there : TypedTree) (u : ℕ) (is : inner.p.instr ≡ Assign (Name r y path_there u) held_call) (calls : has_call path_there ≡ false) (end : inner.p.instr ≡ Finish → ⊥)
          (plain_target : is_anonymous (full s.table u) ≡ false) where
        abbrev target : TypedTree
        target = Name r y path_there u

        text_there : IsFine s inner.named.sub.result (Assign target held_call)
        text_there = subst (IsFine s inner.named.sub.result) is (standing.fine table typed effects input ready inner.state inner.top older outer inner.named inner.p inner.frames inner.of_sub inner.at_point)

        pub leads_there : Leads s (object_at s y).of path_there u
        leads_there = text_there.1.0

        pub source_there : Source s u held_call
        source_there = subst (λ z. Source s z held_call) (sym text_there.1.1) text_there.2

        pub named_target : IsNamed s.table u
        named_target = plain_named s.table u plain_target

        pub acts_there : acts_of_main (Assign target held_call) ≡ acts (acts_in s path_there) ++ act.Write (name_of y path_there) ∷ []
        unfolding acts_in
        acts_there =
            ap acts (assigned_acts s inner.p.pos y u target path_there held_call named_target leads_there)
            ∙ acts_append (acts_in s path_there) (record { pos = r; act = act.Write (name_of y path_there) } ∷ [])

        pub allowed_steps : AllowsAll facts_now (acts (acts_in s path_there) ++ act.Write (name_of y path_there) ∷ [])
        allowed_steps = subst (AllowsAll facts_now) acts_there (subst (λ i. AllowsAll facts_now (acts_of_main i)) is (allowed_there end))

        pub plain_root : is_fixed s sees (name_of y path_there) ≡ false
        plain_root =
            (keep_both (is_fixed s sees) (acts (acts_in s path_there)) (act.Write (name_of y path_there) ∷ [])
            (subst (AllKeep (is_fixed s sees)) acts_there (subst (λ i. AllKeep (is_fixed s sees) (acts_of_main i)) is keeps_there))).1.0

        abbrev facts_then : List Fact
        facts_then = effect (act.Write (name_of y path_there)) (after (acts (acts_in s path_there)) facts_now)

        facts_there : facts_then ≡ after (acts_of_main (Assign target held_call)) facts_now
        facts_there =
            sym (after_append (acts (acts_in s path_there)) (act.Write (name_of y path_there) ∷ []) facts_now) ∙ ap (λ z. after z facts_now) (sym acts_there)

        stored_value : (z : Evaluated steps.Stored)
            → Assigns (steps.here main_turn) sees seeing ready.accepted.settled inner.state.leaks [] other alone (keeps s ready.accepted.settled ready.owns) index_law ready.owns inner.views
            ready.class.parts_named (waiting_in easy.state) (after (acts_of_main (Assign target held_call)) facts_now) z
            → LeadsFrom (Assign target held_call) (steps.evaluated main_turn z (λ (st : steps.Stored) m. steps.leaking_goes (checks_at s (steps.target_pos main_turn target) m st.place)
            (steps.goes main_turn (stored s st.place st.words m) 0)))
        stored_value (Done st n) given =
            subst (λ z. LeadsFrom (Assign target held_call) (steps.leaking_goes (checks_at s (steps.target_pos main_turn target) n.memory st.place) z))
            (goes_same main_turn (stored s st.place st.words n.memory) 0)
            (stored_goes easy sees seeing ready.accepted.settled ready.owns other alone inner.views ready.class.parts_named may refl refl
            (after (acts_of_main (Assign target held_call)) facts_now) (steps.target_pos main_turn target) st n given)
        stored_value (Raises how n) given =
            each.ends_so table typed effects input ready inner going no_calls (Assign target held_call) how n.memory
        stored_value (Traps how n) never = absurd never

        pub assigns_alone : LeadsFrom (Assign target held_call) (turn main_turn (Assign target held_call))
        unfolding acts_in
        assigns_alone =
            stored_value (followed_by (steps.taken_by main_turn u held_call (start main_turn))
            (λ ws now. followed_by (place_of (steps.here main_turn) target now) (λ k now. Done (record { words = ws; place = k }) now)))
            (subst (λ z. Assigns (steps.here main_turn) sees seeing ready.accepted.settled inner.state.leaks [] other alone (keeps s ready.accepted.settled ready.owns) index_law ready.owns inner.views
            ready.class.parts_named (waiting_in easy.state) z (followed_by (steps.taken_by main_turn u held_call (start main_turn))
            (λ ws now. followed_by (place_of (steps.here main_turn) target now) (λ k now. Done (record { words = ws; place = k }) now)))) facts_there
            (then_placed (steps.here main_turn) sees seeing ready.accepted.settled inner.state.leaks [] other alone (keeps s ready.accepted.settled ready.owns) index_law ready.owns inner.views
            ready.class.parts_named [] [] r y u path_there (waiting_in easy.state) facts_now named_target plain_root leads_there (no_takes path_there calls [])
            allowed_steps (steps.taken_by main_turn u held_call (start main_turn))
            (source_alone going alone_taken u named_target source_there)))
