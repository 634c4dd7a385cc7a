-- The innermost frame of a run, beside those that wait: which acts its facts and theirs allow, where
-- its variables own, and that the others wait still.
use Rattle.machine.specs.place_names.declared.act.Act.TheVariants as act
use Rattle.machine.specs.flow_paths.Views.{sub_acts, traversed_formal}
use Rattle.viewed_steps.proofs.Rooted.{own_root}
use Rattle.viewed_steps.proofs.Traversed.{named_left, named_brought}
use Rattle.soundness.specs.ViewedSoundness.Holds.{is_view, Seeing}
use Rattle.soundness.proofs.Lasting.{ownerless}
use Rattle.machine.specs.typed_tree.declared.object.ObjectKind.{ObjectKind}
use Rattle.machine.specs.typed_tree.declared.object.ObjectKind.TheVariants as object_kind
use Rattle.std.specs.List.{AllByRecursion}
use Rattle.std.proofs.Common.{Option, append_assoc, flat_map, ◌≡◌, refl, sym, ap, ◌∙◌, subst, ◌⊎◌, inl, inr, ℕ, suc, ◌<◌, Bool, true, false, ◌&&◌, ◌||◌, ◌==◌, eq-eqb, List, [], ◌∷◌, ◌++◌, map, take, drop, length, get_or, arith, Some, None, if◌then◌else◌}
use Rattle.std.proofs.lemmas.Bool.{false≢true, true≢false}
use Rattle.machine.specs.spark_base.Lists.{Has}
use Rattle.soundness.proofs.Lists.{Has-append_left, Has-append_cases, Has-map_from}
use Rattle.machine.specs.place_names.declared.act.Act.{Act}
use Rattle.machine.specs.place_names.declared.act.Placed.{Placed}
use Rattle.machine.specs.place_names.declared.fact.Fact.{Fact}
use Rattle.machine.specs.place_names.declared.fact.Fact.TheVariants.{Moved, Lent}
use Rattle.machine.specs.place_names.declared.rule.Loan.{Loan}
use Rattle.machine.specs.place_names.declared.rule.Loan.TheVariants.{Borrowed, Observed}
use Rattle.machine.specs.place_names.Names.{Name as PlaceName, overlaps}
use Rattle.machine.specs.place_names.Facts.{place}
use Rattle.machine.specs.type_definitions.Types.{Table, is_owning}
use Rattle.machine.specs.typed_tree.Trees.{TypedTree}
use Rattle.machine.specs.typed_tree.Programs.{TypedProgram}
use Rattle.machine.specs.flow_paths.declared.report.Effects.{Effects}
use Rattle.machine.specs.flow_paths.Instructions.{Call, Instruction, EndScope}
use Rattle.machine.specs.flow_paths.Objects.{Typing, object_at, is_anonymous, is_package_object, is_variable, is_borrower, is_observer, is_borrowing, is_observing, has_scope_end, view_of}
use Rattle.machine.specs.flow_paths.Points.{FlowPoint}
use Rattle.machine.specs.flow_paths.Laid.{FlowSub, FlowProgram, number_in, flow_sub, typing_of, flow_typing, flow_program, flow_named}
use Rattle.machine.specs.flow_paths.Effects.{act_reads, act_writes, flow_sub_at, written_by}
use Rattle.machine.specs.place_names.Rules.{forbids}
use Rattle.machine.specs.flow_paths.Scopes.{taken, scope_behind, is_within, is_last, is_ready, is_temporary}
use Rattle.machine.specs.Words as machine
use Rattle.machine.specs.Memory.{Memory, given_up}
use Rattle.machine.specs.Evaluate.{Exception}
use Rattle.machine.specs.States.{Waiting, Frame, State, sub_of}
use Rattle.machine.specs.Step.{Turn, start}
use Rattle.machine.specs.Step as steps
use Rattle.machine.specs.Typed.{successors}
use Rattle.machine.specs.Owners.{WellOwned, waiting_in}
use Rattle.soundness.specs.OwnedWays.Ways.{Step, OfVariable, OfRoot, Way, Held, after, AllowsAll, number_of}
use Rattle.soundness.specs.OwnedWays.Ways as ways
use Rattle.soundness.specs.Seen.{IsNear, content, word_in, home}
use Rattle.soundness.specs.Typed.{Kept}
use Rattle.soundness.specs.Sound.{Stage, facts_of, Uses, is_temporary_object, returns_value, has_returned, InScope, IsAtPoint, view_of as view_here, IsPlainValue, IsNoCall}
use Rattle.soundness.specs.Ready.{stored_at, IsSupplied}
use Rattle.soundness.proofs.Contents.{bool_cases, word_no}
use Rattle.machine.specs.Run.{no_point}
use Rattle.soundness.proofs.Points.{flow_at, point_there, sub_at_number, sub_in_range}
use Rattle.soundness.proofs.Scoped.{MayHold, Inside}
use Rattle.soundness.proofs.Inherited.{Splits, after_splits, allowed_beside}
use Rattle.soundness.proofs.Used.{writes_used, reads_used, fact_added}
use Rattle.soundness.proofs.Around.{IsFar}
use Rattle.soundness.proofs.Waits.{waits_of, drop_none}
use Rattle.soundness.proofs.Taking.{Takes}
use Rattle.soundness.proofs.Waited.{within_left, FillsNone}
use Rattle.soundness.proofs.Eased.{eased, takes_all}
use Rattle.soundness.proofs.Raised.{raised_owned}
use Rattle.soundness.specs.OwnedLoans.Views.{Around, known_gone, Views, Viewed, ViewedAlone}
use Rattle.soundness.proofs.ViewedSoundness.ViewKinds.{true_false, given_view}
use Rattle.viewed_steps.specs.Awaited.{TakesPassed, IsTakenAt, AreOwnless, AreFor, AreValues, temporaries_of, is_held, lasting_of, awaited, AreAwaited, AreScalar, TakesScalars, StoresNone, IsTaken}
use Rattle.viewed_steps.proofs.Waited.{split_list, plain_unheld, ended_held, lasting_within, within_lasting, lasting_more, brought_temporaries, Shares, shares, scalar_values}
use Rattle.viewed_steps.specs.Sound.{ArePlaced, NoneAbove, Lasts, ViewStage, stages_of, GoneElsewhere, Disturbs, AreWaiting, LeadsOn}
use Rattle.viewed_steps.specs.Ready.{AreOrderly, IsReady, AreNamedIn}
use Rattle.viewed_steps.proofs.Lent.{ends, Spare, spare_has}
use Rattle.viewed_steps.proofs.Inherited.{after_more, lending_uses, apart_borrowed, apart_seen}
use Rattle.viewed_steps.proofs.Beside.{OthersKept, faint_held}
use Rattle.viewed_steps.proofs.Waiting.{StandsBetween, all_between, AreTheirs, LentElsewhere, unused_there, beside_them, handed, handed_lent, none_moved, lent_handed, theirs}
use Rattle.viewed_steps.proofs.Onward.{all_on}
use Rattle.viewed_steps.proofs.Uses.{writes_there, borrowing_writes, moving_writes}
use Rattle.viewed_steps.proofs.Apart.{kept_there, held_apart, written_disturbs}
use Rattle.viewed_steps.proofs.Eased.{eased_viewed}
use Rattle.viewed_steps.proofs.Standing.{or_right}
use Rattle.viewed_steps.proofs.Standing as standing
use Rattle.viewed_steps.proofs.Packages as packages
use Rattle.viewed_steps.proofs.Views.{anonymous_view, view_ends}
use Rattle.soundness.proofs.ViewedSoundness.ViewKinds.{plain_sees}
use Rattle.viewed_steps.proofs.Handed.{AreApart, with_them, without_them}
use Rattle.soundness.specs.ViewedSoundness.Taken.{types_taken}
use Rattle.soundness.proofs.ViewedSoundness.Hands.{words_first}
use Rattle.viewed_steps.proofs.Supplied.{Supplies, scalar_ownless, ownless_values, of_types, points_there}
use Rattle.viewed_steps.specs.Seeing.{sees_in}
use Rattle.viewed_steps.proofs.Sees.{sees_seeing}
use Rattle.viewed_steps.proofs.Constructors.{is_held_word}
use Rattle.viewed_steps.proofs.InnerFrame.{InnerFrame}

unless : (b : Bool) → (b ≡ true → ⊥) → b ≡ false
unless true e = absurd (e refl)
unless false e = refl

borrower_anonymous : (s : Typing) (x : ℕ) → is_borrower s x ≡ true → is_anonymous (view_of s x) ≡ true
borrower_anonymous s x e = either_view (is_variable (object_at s x).kind) (is_borrowing (view_of s x)) (is_observing (view_of s x)) e
  where
    either_view : (k a b : Bool) → k && a ≡ true → a || b ≡ true
    either_view true true b e = refl
    either_view true false b e = absurd (false≢true e)
    either_view false a b e = absurd (false≢true e)

observer_anonymous : (s : Typing) (x : ℕ) → is_observer s x ≡ true → is_anonymous (view_of s x) ≡ true
observer_anonymous s x e = either_view (is_variable (object_at s x).kind) (is_borrowing (view_of s x)) (is_observing (view_of s x)) e
  where
    either_view : (k a b : Bool) → k && b ≡ true → a || b ≡ true
    either_view true true b e = refl
    either_view true false true e = refl
    either_view true false false e = absurd (false≢true e)
    either_view false a b e = absurd (false≢true e)

module _ (table : Table) (typed : TypedProgram) (effects : Effects) (input : List ℕ) (ready : IsReady table typed effects) where
  abbrev sees : ℕ → Bool
  sees = sees_in (flow_program table typed)

  abbrev seeing : Seeing (flow_typing (flow_program table typed)) sees
  seeing = sees_seeing (flow_program table typed)

  abbrev program : FlowProgram
  program = flow_program table typed

  abbrev s : Typing
  s = flow_typing program

  abbrev own : Typing
  own = typing_of table typed

  abbrev local : (x : ℕ) → is_view s x ≡ true → is_package_object s x ≡ false
  local = standing.local table typed effects input ready

  abbrev unmoved_stage : (e : Stage) → e.frame.sub ≡ 0 → (name : PlaceName) → Has (facts_of program effects e) (Moved name) → ⊥
  unmoved_stage = packages.unmoved_stage table typed effects input ready

  -- ---- a step of a procedure

  module _ (inner : InnerFrame table typed effects) where
    abbrev pub outer : List Frame
    outer = inner.below.stage.frame ∷ inner.rest

    abbrev pub older : List ViewStage
    older = inner.below ∷ inner.more_frames

    abbrev pub depth : ℕ
    depth = suc (length inner.rest)

    pub between : (g : ViewStage) → Has (inner.below ∷ inner.more_frames) g → StandsBetween table typed effects unmoved_stage local inner.state (suc (length inner.rest)) (inner.below ∷ inner.more_frames) g
    between g has = all_between table typed effects unmoved_stage local inner.state inner.top.frame.sub (suc (length inner.rest)) inner.top.frame.returns (inner.below ∷ inner.more_frames) (inner.below.stage.frame ∷ inner.rest) inner.stages (omega arith) inner.running.2 g has

    -- what concerns it of them, with their facts on package objects beside its own
    abbrev pub other : Around (home s (suc (length inner.rest)))
    other = beside_them table typed effects unmoved_stage local inner.state (suc (length inner.rest)) (inner.below ∷ inner.more_frames) between

    pub alone : (w : Way) → IsNear (suc (length inner.rest)) w → IsFar (suc (length inner.rest)) (GoneElsewhere program effects (inner.below ∷ inner.more_frames)) w → ⊥
    alone w near o = o.0 near

    abbrev pub main_turn : Turn
    main_turn = standing.t table typed effects input ready inner.state inner.top older outer inner.named inner.p inner.frames inner.of_sub inner.at_point

    abbrev pub own_facts : List Fact
    own_facts = standing.facts table typed effects input ready inner.state inner.top older outer inner.named inner.p inner.frames inner.of_sub inner.at_point inner.path

    abbrev pub handed_on : List Fact
    handed_on = handed table typed effects unmoved_stage local inner.state (suc (length inner.rest)) (inner.below ∷ inner.more_frames) between

    abbrev pub facts_now : List Fact
    facts_now = own_facts ++ handed_on

    pub from_both : Splits facts_now own_facts handed_on
    from_both f has = Has-append_cases own_facts handed_on f has

    abbrev pub acts_of_main : Instruction → List Act
    acts_of_main i = standing.acts_here table typed effects input ready inner.state inner.top older outer inner.named inner.p inner.frames inner.of_sub inner.at_point i

    pub viewed_own : ViewedAlone (home s depth) sees (known_gone (home s depth) (GoneElsewhere program effects older)) inner.views (view_here s inner.state) own_facts
    viewed_own = subst (ViewedAlone (home s depth) sees (known_gone (home s depth) (GoneElsewhere program effects older)) inner.views (view_here s inner.state)) (standing.facts_are table typed effects input ready inner.state inner.top older outer inner.named inner.p inner.frames inner.of_sub inner.at_point inner.path) inner.viewed_before

    -- ---- which package objects it uses

    pub sub_at_all : flow_sub_at program inner.top.frame.sub ≡ flow_sub own inner.named
    sub_at_all = sub_at_number table typed inner.top.frame.sub inner.named inner.of_sub _

    pub sub_less : inner.top.frame.sub < length program.subs
    sub_less = sub_in_range table typed inner.top.frame.sub inner.named inner.of_sub

    abbrev pub LentAround : Loan → PlaceName → Type 0
    LentAround l name = LentElsewhere table typed effects unmoved_stage local (inner.below ∷ inner.more_frames) l name

    -- it disturbs none of what they keep
    pub spared_here : (l : Loan) (name : PlaceName) → LentAround l name → Disturbs effects l inner.top.frame.sub name.root → ⊥
    spared_here l name these disturbs =
        let (g, has, some, f, there, shared, kind, is) = these in
        kept_there table typed effects ready.accepted.effects_are (unused_there table typed effects unmoved_stage local) inner.state inner.top.frame.sub inner.top.frame.returns older inner.running.2 g has some f there
        (ap (λ (z : PlaceName). is_package_object s z.root) is ∙ shared)
        (subst (λ z. Disturbs effects z inner.top.frame.sub (place f).root) (sym kind) (subst (λ (z : PlaceName). Disturbs effects l inner.top.frame.sub z.root) (sym is) disturbs))

    pub act_uses : (x : ℕ) → is_package_object s x ≡ true → (q : FlowPoint) → Has (flow_sub own inner.named).points q → (a : Placed) → Has q.acts a
        → (act_writes x a.act ≡ true) ⊎ (act_reads x a.act ≡ true) → Uses effects inner.top.frame.sub x
    act_uses x shared q point a has (inl e) =
        writes_used program effects ready.accepted.effects_are inner.top.frame.sub (flow_sub own inner.named) sub_at_all sub_less x shared q point a has e
    act_uses x shared q point a has (inr e) =
        reads_used program effects ready.accepted.effects_are inner.top.frame.sub (flow_sub own inner.named) sub_at_all sub_less x shared q point a has e

    pub act_writes_it : (x : ℕ) → is_package_object s x ≡ true → (q : FlowPoint) → Has (flow_sub own inner.named).points q → (a : Placed) → Has q.acts a
        → act_writes x a.act ≡ true → Has (written_by effects inner.top.frame.sub) x
    act_writes_it x shared q point a has e =
        writes_there program effects ready.accepted.effects_are inner.top.frame.sub (flow_sub own inner.named) sub_at_all sub_less x shared q point a has e

    -- its own facts on package objects are of such that it uses, or writes
    lent_uses : (l : Loan) (h : ℕ) (m : PlaceName) → Has own_facts (Lent l h m) → is_package_object s m.root ≡ true → Uses effects inner.top.frame.sub m.root
    lent_uses l h m lends shared =
        let from = fact_added program effects ready.accepted.effects_are (flow_sub own inner.named) inner.top.before (Lent l h m) lends in
        act_uses m.root shared from.0 from.2 from.1 from.3 (lending_uses (from.1).act l h m from.4)

    pub borrowed_writes : (h : ℕ) (m : PlaceName) → Has own_facts (Lent Borrowed h m) → is_package_object s m.root ≡ true → Has (written_by effects inner.top.frame.sub) m.root
    borrowed_writes h m lends shared =
        let from = fact_added program effects ready.accepted.effects_are (flow_sub own inner.named) inner.top.before (Lent Borrowed h m) lends in
        act_writes_it m.root shared from.0 from.2 from.1 from.3 (borrowing_writes (from.1).act h m from.4)

    moved_writes : (m : PlaceName) → Has own_facts (Moved m) → is_package_object s m.root ≡ true → Has (written_by effects inner.top.frame.sub) m.root
    moved_writes m moved shared =
        let from = fact_added program effects ready.accepted.effects_are (flow_sub own inner.named) inner.top.before (Moved m) moved in
        act_writes_it m.root shared from.0 from.2 from.1 from.3 (moving_writes (from.1).act m from.4)

    -- so they meet none of what is handed on
    pub apart : AreApart table typed effects unmoved_stage local inner.state (suc (length inner.rest)) (inner.below ∷ inner.more_frames) between own_facts
    apart = record {
      seen = λ n m (g, has, deep_there, f, keeps_it, shared, borrowed, is) (k, there, some, o, sight, also, observed, at) over.
          held_apart table typed effects ready.accepted.effects_are (unused_there table typed effects unmoved_stage local) inner.state inner.top.frame.sub inner.top.frame.returns older inner.running.2
          g k has there deep_there some f o keeps_it sight borrowed observed (ap (λ (z : PlaceName). is_package_object s z.root) is ∙ shared)
          ((λ j. overlaps (is j) (at j)) ∙ over);
      own_moved = λ n moved l m lent root. (
          let written = moved_writes n moved (ap (is_package_object s) root ∙ lent.5) in
          spared_here l m lent (written_disturbs table typed effects ready.accepted.effects_are l inner.top.frame.sub m.root
          (subst (Has (written_by effects inner.top.frame.sub)) root written)));
      own_borrowed = λ b n lends l m lent root. (
          let written = borrowed_writes b n lends (ap (is_package_object s) root ∙ lent.5) in
          spared_here l m lent (written_disturbs table typed effects ready.accepted.effects_are l inner.top.frame.sub m.root
          (subst (Has (written_by effects inner.top.frame.sub)) root written)));
      own_seen = λ h m lends n lent root.
          spared_here Borrowed n lent (subst (Uses effects inner.top.frame.sub) (sym root) (lent_uses Observed h m lends (ap (is_package_object s) (sym root) ∙ lent.5)));
    }

    pub borrower_local : (x : ℕ) → is_borrower s x ≡ true → is_package_object s x ≡ false
    borrower_local x borrows = local x (anonymous_view s x (borrower_anonymous s x borrows))

    pub one_apart : (a : Placed) → Has (standing.acts_by table typed effects input ready inner.state inner.top older outer inner.named inner.p inner.frames inner.of_sub inner.at_point s inner.p.instr) a → ends s a.act ≡ false
        → (f : Fact) → Has handed_on f → forbids a.act f ≡ None
    one_apart a has fits f there =
        let in_point : Has (flow_at own inner.named inner.p).acts a =
        subst (λ z. Has z a) (standing.acts_agree table typed effects input ready inner.state inner.top older outer inner.named inner.p inner.frames inner.of_sub inner.at_point) has in
        let in_main = standing.in_sub table typed effects input ready inner.state inner.top older outer inner.named inner.p inner.frames inner.of_sub inner.at_point in
        let (l, name, is, lent) = handed_lent table typed effects unmoved_stage local inner.state (suc (length inner.rest)) (inner.below ∷ inner.more_frames) between f there in
        ap (forbids a.act) is ∙ loan_apart l name lent in_main in_point
      where
        loan_apart : (l : Loan) (name : PlaceName) → LentAround l name → Has (flow_sub own inner.named).points (flow_at own inner.named inner.p) → Has (flow_at own inner.named inner.p).acts a
            → forbids a.act (Lent l name.root name) ≡ None
        loan_apart Borrowed name lent in_main in_point =
            apart_borrowed s name lent.5 borrower_local name.root a.act fits
            (unless (act_writes name.root a.act) (λ e. spared_here Borrowed name lent (act_uses name.root lent.5 (flow_at own inner.named inner.p) in_main a in_point (inl e))))
            (unless (act_reads name.root a.act) (λ e. spared_here Borrowed name lent (act_uses name.root lent.5 (flow_at own inner.named inner.p) in_main a in_point (inr e))))
        loan_apart Observed name lent in_main in_point =
            apart_seen s name lent.5 borrower_local name.root a.act fits
            (unless (act_writes name.root a.act) (λ e. spared_here Observed name lent (act_writes_it name.root lent.5 (flow_at own inner.named inner.p) in_main a in_point e)))

    pub acts_apart : Spare s (standing.acts_by table typed effects input ready inner.state inner.top older outer inner.named inner.p inner.frames inner.of_sub inner.at_point s inner.p.instr) → (a : Act) → Has (acts_of_main inner.p.instr) a
        → (f : Fact) → Has handed_on f → forbids a f ≡ None
    acts_apart spare a has f there =
        let from = Has-map_from (λ (z : Placed). z.act) (standing.acts_by table typed effects input ready inner.state inner.top older outer inner.named inner.p inner.frames inner.of_sub inner.at_point s inner.p.instr) a has in
        ap (λ z. forbids z f) (sym from.2)
        ∙ one_apart from.0 from.1 (spare_has s (standing.acts_by table typed effects input ready inner.state inner.top older outer inner.named inner.p inner.frames inner.of_sub inner.at_point s inner.p.instr) spare from.0 from.1) f there

    pub allowed_now : Spare s (standing.acts_by table typed effects input ready inner.state inner.top older outer inner.named inner.p inner.frames inner.of_sub inner.at_point s inner.p.instr) → AllowsAll own_facts (acts_of_main inner.p.instr)
        → AllowsAll facts_now (acts_of_main inner.p.instr)
    allowed_now spare allows = allowed_beside (acts_of_main inner.p.instr) facts_now own_facts handed_on from_both allows (acts_apart spare)

    pub own_views : (x : ℕ) (w : Way) → inner.views.way x ≡ Some w → is_package_object s x ≡ false
    own_views x w has = local x (inner.holds.only x w has)

    pub package_plain : (x : ℕ) → is_package_object s x ≡ true → is_observer s x ≡ false
    package_plain x shared = unless (is_observer s x) (λ sight. true_false (is_package_object s x) shared (local x (anonymous_view s x (observer_anonymous s x sight))))

    pub package_owns : (x : ℕ) → is_package_object s x ≡ true → sees x ≡ false
    package_owns x shared =
        plain_sees s sees seeing x (unless (is_view s x) (λ view. true_false (is_package_object s x) shared (local x view)))

    -- what is lent around is no part of an object of the frame
    pub not_lent : (x : ℕ) → is_package_object s x ≡ false → (l : Loan) (name : PlaceName) → other.lent l name → name.root ≡ x → ⊥
    not_lent x own_object l name lent root = true_false (is_package_object s x) (ap (is_package_object s) (sym root) ∙ lent.5) own_object

    pub not_lent_home : (x : ℕ) (l : Loan) (name : PlaceName) → other.lent l name → name.root ≡ x → depth ≡ home s depth x → ⊥
    not_lent_home x l name lent root at_home =
        let shared : is_package_object s x ≡ true = ap (is_package_object s) (sym root) ∙ lent.5 in
        let none : depth ≡ 0 = at_home ∙ ap (λ b. if b then 0 else depth) shared in omega (arith, none)

    -- with the views of those that wait, and their facts on package objects
    pub viewed : Viewed (home s depth) sees other inner.views (view_here s inner.state) facts_now
    viewed = with_them table typed effects unmoved_stage local inner.state depth older between inner.views (view_here s inner.state) own_facts own_views package_owns apart
        (theirs table typed effects unmoved_stage local inner.state depth older between) inner.placed_before.1 viewed_own

    -- and without them
    pub apart_from_them : (done : List Act) (v : Views) (view : ways.View) → ((x : ℕ) (w : Way) → v.way x ≡ Some w → is_view s x ≡ true)
        → Viewed (home s depth) sees other v view (after done facts_now)
        → ViewedAlone (home s depth) sees (known_gone (home s depth) (GoneElsewhere program effects older)) v view (after done own_facts)
    apart_from_them done v view only well =
        without_them table typed effects unmoved_stage local inner.state depth older between v view (after done facts_now) (after done own_facts)
        (λ x w has. local x (only x w has)) package_owns (after_more done own_facts facts_now (λ f has. Has-append_left own_facts handed_on f has))
        (after_splits done facts_now own_facts handed_on from_both) well

    pub placed_own : ArePlaced program (suc (length inner.rest)) own_facts inner.views inner.p.scope
    placed_own = subst (λ z. ArePlaced program depth z inner.views inner.p.scope) (standing.facts_are table typed effects input ready inner.state inner.top older outer inner.named inner.p inner.frames inner.of_sub inner.at_point inner.path) inner.placed_before.0

    pub placed_by : (some all : List Fact) (v : Views) (scope_there : List ℕ)
        → ((h : ℕ) (m : PlaceName) → sees h ≡ true → Has some (Lent Observed h m) → Has all (Lent Observed h m))
        → ArePlaced program (suc (length inner.rest)) some v scope_there → ArePlaced program (suc (length inner.rest)) all v scope_there
    placed_by some all v scope_there lends there x w has = (let old = there x w has in record {
      within = old.within;
      plain = old.plain;
      up = old.up;
      root = old.root;
      holder = λ named_up sight. (let h = old.holder named_up sight in (h.0, lends h.0 (ways.name_of (v.loan x)) h.3 h.1, h.2, h.3));
    })

    pub placed : ArePlaced program (suc (length inner.rest)) facts_now inner.views inner.p.scope
    placed = placed_by own_facts facts_now inner.views inner.p.scope (λ h m sight has. Has-append_left own_facts handed_on (Lent Observed h m) has) placed_own

    -- loans are those of the frame
    pub own_loans : (done : List Act) (h : ℕ) (m : PlaceName) → sees h ≡ true → Has (after done facts_now) (Lent Observed h m)
        → Has (after done own_facts) (Lent Observed h m)
    own_loans done h m sight has = elim (after_splits done facts_now own_facts handed_on from_both (Lent Observed h m) has) [
      | inl mine ↦ mine
      | inr there ↦ (
          let lent = lent_handed table typed effects unmoved_stage local inner.state (suc (length inner.rest)) (inner.below ∷ inner.more_frames) between Observed h m there in
          absurd (true_false (sees h) sight (package_owns h (ap (is_package_object s) lent.0 ∙ (lent.1).5))))
    ]

    -- no moved place is handed on
    pub not_handed : (name : PlaceName) → Has handed_on (Moved name) → ⊥
    not_handed name has = none_moved table typed effects unmoved_stage local inner.state (suc (length inner.rest)) (inner.below ∷ inner.more_frames) between name has

    pub none_takes : (i : Instruction) → inner.p.instr ≡ i → taken i ≡ 0 → taken main_turn.point.instr ≡ 0
    none_takes i e none = ap taken e ∙ none

    pub named_there : Has (flow_named table typed) inner.named
    named_there = standing.named_in table typed effects input ready inner.state inner.top older outer inner.named inner.p inner.frames inner.of_sub inner.at_point

    pub point_there_now : Has inner.named.points inner.p
    point_there_now = standing.point_in_named table typed effects input ready inner.state inner.top older outer inner.named inner.p inner.frames inner.of_sub inner.at_point

    pub successors_there : length main_turn.point.next ≡ successors inner.p.instr
    successors_there =
        (inner.running.0).leads main_turn.point
        (subst (λ (z : FlowSub). Has z.points main_turn.point) (sym (standing.sub_is table typed effects input ready inner.state inner.top older outer inner.named inner.p inner.frames inner.of_sub inner.at_point))
        (standing.in_sub table typed effects input ready inner.state inner.top older outer inner.named inner.p inner.frames inner.of_sub inner.at_point))

    pub orderly : AreOrderly program inner.p (λ q. (n : ℕ) × Has (map (number_in inner.named.points) inner.p.next) n × IsAtPoint inner.named.points n q)
    orderly = ready.orderly.points inner.named named_there inner.p point_there_now

    -- ---- its result

    -- what a function gives belongs to no package
    pub gives_own : (m : PlaceName) (b : Bool)
        → Has (standing.acts_here table typed effects input ready inner.state inner.top older outer inner.named inner.p inner.frames inner.of_sub inner.at_point inner.p.instr) (act.Give m b) → is_package_object s m.root ≡ false
    gives_own m b has = unless (is_package_object s m.root) (λ shared. standing.given_here table typed effects input ready inner.state inner.top older outer inner.named inner.p inner.frames inner.of_sub inner.at_point m b has
        (λ f traversed only. (
        let no_view : is_view s m.root ≡ false = unless (is_view s m.root) (λ view. true_false (is_package_object s m.root) shared (local m.root view)) in
        let root : m.root ≡ f = only.1 m.root (own_root s (sub_acts (flow_sub own inner.named)) f None m.root no_view) in
        let given = ready.traversing.first inner.top.frame.sub f (inner.running.0).entered
        (ap (traversed_formal s) (standing.sub_is table typed effects input ready inner.state inner.top older outer inner.named inner.p inner.frames inner.of_sub inner.at_point) ∙ traversed) in
        true_false (is_view s m.root) (ap (is_view s) root ∙ given_view s f given.1) no_view)))

    -- ---- what waits

    abbrev pub count : ℕ
    count = taken inner.p.instr

    abbrev pub left_scope : List ℕ
    left_scope = drop count inner.p.scope

    pub waits_here : AreValues s inner.top.frame.waits inner.p.scope
    waits_here = inner.awaiting.0 inner.named inner.of_sub inner.p inner.at_point

    pub supplied_here : IsSupplied s inner.p
    supplied_here = standing.supplied table typed effects input ready inner.state inner.top older outer inner.named inner.p inner.frames inner.of_sub inner.at_point

    pub shared : Shares s count inner.top.frame.waits inner.p.scope
    shared = shares s count inner.top.frame.waits inner.p.scope waits_here supplied_here.0

    abbrev pub given_words : List (List machine.Word)
    given_words = (start main_turn).waits

    -- what is taken is of scalar types, or owns nothing
    abbrev pub Plain : Type 0
    Plain = AreScalar s (temporaries_of s (take count inner.p.scope))

    abbrev pub Ownless : Type 0
    Ownless = AreOwnless s (temporaries_of s (take count inner.p.scope))

    plain_values : Plain → AllByRecursion (IsPlainValue s) (take count inner.top.frame.waits)
    plain_values plain = scalar_values s ready.accepted.settled (take count inner.top.frame.waits) (temporaries_of s (take count inner.p.scope)) shared.taken plain

    pub takes_here : Plain → Takes count given_words []
    takes_here plain = takes_all s (take count inner.top.frame.waits) count shared.count (plain_values plain)

    pub takes_of : Plain → (i : Instruction) → inner.p.instr ≡ i → Takes (taken i) given_words []
    takes_of plain i e = subst (λ z. Takes (taken z) given_words []) e (takes_here plain)

    plain_ownless : Plain → Ownless
    plain_ownless plain = scalar_ownless s ready.owns (temporaries_of s (take count inner.p.scope)) plain

    -- the step without the values that it takes
    abbrev pub easy : Turn
    easy = eased main_turn

    pub ownless_easy : Ownless → Viewed (home s depth) sees other inner.views (view_here s easy.state) facts_now × Kept s inner.state.memory (waiting_in easy.state)
    ownless_easy none =
        eased_viewed main_turn ready.accepted.settled ready.owns (home s depth) sees other inner.views facts_now inner.frames
        (ownless_values s ready.owns (take count inner.top.frame.waits) (temporaries_of s (take count inner.p.scope)) shared.taken none) viewed inner.kept

    pub viewed_easy : Plain → Viewed (home s depth) sees other inner.views (view_here s easy.state) facts_now × Kept s inner.state.memory (waiting_in easy.state)
    viewed_easy plain = ownless_easy (plain_ownless plain)

    taken_at : IsTakenAt s inner.named.sub.result inner.p
    taken_at = ready.valued.takes inner.top.frame.sub (inner.running.0).entered inner.named inner.of_sub inner.p point_there_now

    pub taken_there : IsNoCall inner.p.instr → IsTaken s inner.named.sub.result inner.p
    taken_there = taken_at.0

    -- where a subprogram is called
    pub taken_call : (n : ℕ) (actuals : TypedTree) (r : Option ℕ) → inner.p.instr ≡ Call n actuals r → TakesPassed s actuals (temporaries_of s (take count inner.p.scope))
    taken_call = taken_at.1

    waits_split : waiting_in inner.state ≡ take count inner.top.frame.waits ++ waiting_in easy.state
    waits_split =
        ap (flat_map waits_of) inner.frames ∙ ap (λ z. z ++ flat_map waits_of outer) (sym (split_list count inner.top.frame.waits))
        ∙ append_assoc (take count inner.top.frame.waits) (steps.waiting main_turn) (flat_map waits_of outer)

    pub supplied_call : (n : ℕ) (actuals : TypedTree) (r : Option ℕ) → inner.p.instr ≡ Call n actuals r → Supplies s inner.state.memory (types_taken s actuals) given_words []
    supplied_call n actuals r e =
        let there = taken_call n actuals r e in record {
          values = take count inner.top.frame.waits;
          is = words_first (take count inner.top.frame.waits);
          fit = of_types s (types_taken s actuals) (temporaries_of s (take count inner.p.scope)) (take count inner.top.frame.waits) there.2 shared.taken;
          points = points_there s ready.accepted.settled inner.state.memory (take count inner.top.frame.waits) (waiting_in easy.state) (subst (Kept s inner.state.memory) waits_split inner.kept);
        }

    -- and so it is, where a call alone isn't taken
    pub plain_here : IsNoCall inner.p.instr → StoresNone inner.p.instr → Plain × TakesScalars s inner.p.instr
    plain_here no_call stores_none = elim (taken_there no_call) [
      | inl plain ↦ plain
      | inr (inl (x, rest_scope, is, q, n, actuals, result, large, by)) ↦ absurd (elim by [
        | inl (y, declares) ↦ subst StoresNone declares stores_none
        | inr (inl (r, y, steps_there, u, assigns, calls)) ↦ subst StoresNone assigns stores_none
        | inr (inr holds_it) ↦ subst StoresNone holds_it stores_none
      ])
      | inr (inr together) ↦ absurd (elim together.1 [
        | inl (y, declares, owner) ↦ subst StoresNone declares stores_none
        | inr (inl (r, y, steps_there, u, assigns, place, scalar)) ↦ subst StoresNone assigns stores_none
        | inr (inr (holds_it, plain_result)) ↦ subst StoresNone holds_it stores_none
      ])
    ]

    -- what has an end of its own is there still
    pub left_within : (x : ℕ) → has_scope_end s x ≡ true → is_held s x ≡ false → is_within x inner.p.scope ≡ true → is_within x left_scope ≡ true
    left_within x end lasts within = elim (within_left s count inner.p.scope supplied_here.0 x within) [
      | inr left ↦ left
      | inl temporary ↦ absurd (true_false (is_held s x) (ended_held s x temporary end) lasts)
    ]

    -- as variables have
    pub variable_stays : (x : ℕ) → is_variable (object_at s x).kind ≡ true → is_held s x ≡ false
    variable_stays x variable = plain_unheld s x (no_temporary (object_at s x).kind variable)
      where
        no_temporary : (k : ObjectKind) → is_variable k ≡ true → is_temporary k ≡ false
        no_temporary object_kind.Variable is = refl
        no_temporary k is = absurd (false≢true is)

    pub lasts_left : (r x : ℕ) → Lasts program inner.p.scope r x → Lasts program left_scope r x
    lasts_left r x (inl shared_object) = inl shared_object
    lasts_left r x (inr (within, end, around, plain)) = inr (left_within r end plain within, end, around, plain)

    pub placed_left : (facts : List Fact) → ArePlaced program (suc (length inner.rest)) facts inner.views inner.p.scope → ArePlaced program (suc (length inner.rest)) facts inner.views left_scope
    placed_left facts there x w has = (let old = there x w has in record {
      within = left_within x (view_ends s x (inner.holds.only x w has)) old.plain old.within;
      plain = old.plain;
      up = λ named_up. lasts_left (number_of (inner.views.up x)) x (old.up named_up);
      root = λ at_home. lasts_left (number_of w) x (old.root at_home);
      holder = λ named_up sight. (let h = old.holder named_up sight in (h.0, h.1, lasts_left h.0 x h.2, h.3));
    })

    -- what is in scope afterwards, but for the result of a call, is of no anonymous type if it is a temporary
    pub named_left_here : AreNamedIn s left_scope
    named_left_here = named_left s inner.p (ready.valued.seen inner.named named_there inner.p point_there_now)

    pub named_behind : IsNoCall inner.p.instr → AreNamedIn s (scope_behind inner.p)
    named_behind no_calls = named_brought program inner.p.instr left_scope no_calls supplied_here.1 (ready.valued.fills inner.named named_there inner.p point_there_now) named_left_here

    -- the values that wait on, after an instruction that fills no temporary
    abbrev pub Left : List Waiting → Type 0
    Left waits = AreValues s waits (scope_behind inner.p)

    pub left_after : FillsNone s inner.p.instr → Left (steps.waiting main_turn)
    left_after none = subst (AreFor s (steps.waiting main_turn)) (sym (brought_temporaries s inner.p.instr left_scope none supplied_here.1 last_there)) shared.left
      where
        last_there : (x : ℕ) → inner.p.instr ≡ EndScope x → is_last x left_scope ≡ true
        last_there x e =
            ap (is_last x) (ap (λ n. drop n inner.p.scope) (ap taken e) ∙ drop_none inner.p.scope)
            ∙ subst (λ z. is_ready inner.p z ≡ true) e (standing.is_ready_there table typed effects input ready inner.state inner.top older outer inner.named inner.p inner.frames inner.of_sub inner.at_point)

    -- ---- what a caller awaits

    abbrev pub sub_here : FlowSub
    sub_here = sub_of program inner.top.frame.sub

    pub instr_there : (get_or sub_here.points inner.top.frame.next no_point).instr ≡ inner.p.instr
    instr_there =
        ap (λ (z : FlowSub). (get_or z.points inner.top.frame.next no_point).instr) (standing.sub_is table typed effects input ready inner.state inner.top older outer inner.named inner.p inner.frames inner.of_sub inner.at_point)
        ∙ ap (λ (q : FlowPoint). q.instr) (point_there own inner.named inner.top.frame.next inner.p inner.at_point)

    -- an instruction that returns no value leaves that as it is
    still_awaited : returns_value inner.p.instr ≡ false → awaited sub_here inner.top.before ≡ awaited sub_here (inner.top.frame.next ∷ inner.top.before)
    still_awaited none = ap (λ b. if b || has_returned sub_here inner.top.before then None else sub_here.result) (sym (ap returns_value instr_there ∙ none))

    pub others_await : returns_value inner.p.instr ≡ false → AreAwaited table typed (awaited sub_here (inner.top.frame.next ∷ inner.top.before)) (stages_of older)
    others_await none = subst (λ n. AreAwaited table typed n (stages_of older)) (still_awaited none) inner.awaiting.1

    -- ---- which variables own

    -- Those of older frames that own something before the step, and package objects.
    abbrev pub IsOld : ℕ → ℕ → Type 0
    IsOld f x =
        (f < suc (length inner.rest)) × ((f ≡ 0)
        ⊎ ((q : List Step) × (k : ℕ) × (word_in s.table (content s inner.state.memory [] (OfRoot (OfVariable f x))) q ≡ Held k)))

    pub inside : Inside s IsOld inner.state.memory depth (lasting_of s inner.p.scope)
    inside f x q n held = elim (inner.scope f x q n held) [
      | inl less ↦ inl (less, inr (q, n, held))
      | inr mine ↦ inr mine
    ]

    -- what is taken owns nothing
    pub inside_left : Inside s IsOld inner.state.memory depth (lasting_of s left_scope)
    inside_left f x q n held = elim (inside f x q n held) [
      | inl old ↦ inl old
      | inr mine ↦ (
          let there = lasting_within s x inner.p.scope mine.1 in
          inr (mine.0, within_lasting s x left_scope (by_end (has_scope_end s x) refl there.1 there.0) there.1))
    ]
      where
        not_or : (a b : Bool) → a || b ≡ false → a ≡ false
        not_or true b e = absurd (true≢false e)
        not_or false b e = refl

        by_end : (end : Bool) → has_scope_end s x ≡ end → is_held s x ≡ false → is_within x inner.p.scope ≡ true → is_within x left_scope ≡ true
        by_end true end lasts within = left_within x end lasts within
        by_end false end lasts within =
            let none = word_no s.table (content s inner.state.memory [] (OfRoot (OfVariable f x))) q
            (ownerless s.table ready.owns (object_at s x).of (not_or (is_owning s.table (object_at s x).of) (is_anonymous (view_of s x)) end) q) in
            let no_number : ways.Empty ≡ Held n = sym none ∙ held in absurd (false≢true (ap is_held_word no_number))

    pub in_scope : (m : Memory) (after_scope : List ℕ) → Inside s IsOld m depth after_scope → InScope s m depth after_scope
    in_scope m after_scope in_there f x q n held = elim (in_there f x q n held) [ inl old ↦ inl old.0 | inr mine ↦ inr mine ]

    -- what has a number in them had it before
    pub still : (m : Memory) → OthersKept s depth inner.state.memory m → (f x : ℕ) (q : List Step) (n : ℕ) → 0 < f → f < depth
        → word_in s.table (content s m [] (OfRoot (OfVariable f x))) q ≡ Held n
        → word_in s.table (content s inner.state.memory [] (OfRoot (OfVariable f x))) q ≡ Held n
    still m stay f x q n some less held =
        faint_held s inner.state.memory m f x (λ o. stay f x (λ first. omega (arith, some, first)) (λ same_depth. omega (arith, less, same_depth)) o) q n held

    pub home_frame : (x : ℕ) → is_package_object s x ≡ false → home s depth x ≡ depth
    home_frame x own_frame = ap (λ b. if b then 0 else depth) own_frame

    pub package_old : (x : ℕ) → is_package_object s x ≡ true → IsOld (home s depth x) x
    package_old x of_package = subst (λ z. IsOld z x) (sym (ap (λ b. if b then 0 else depth) of_package)) (omega arith, inl refl)

    pub may_hold : (x : ℕ) (in_there : List ℕ) → (is_package_object s x ≡ true) ⊎ (is_within x in_there ≡ true) → MayHold s IsOld depth in_there (home s depth x) x
    may_hold x in_there which = elim (bool_cases (is_package_object s x)) [
      | inl of_package ↦ inl (package_old x of_package)
      | inr own_frame ↦ elim which [
        | inl of_package ↦ absurd (true_false (is_package_object s x) of_package own_frame)
        | inr within ↦ inr (home_frame x own_frame, within)
      ]
    ]

    -- the variables of views above stay without numbers
    pub still_above : (m : Memory) → OthersKept s depth inner.state.memory m → NoneAbove s depth m
    still_above m stay = (
      λ f x n less view e.
          (inner.above.0).0 f x n less view (sym (stay f x (λ first. omega (arith, less, first)) (λ same_depth. omega (arith, less, same_depth)) 0).word ∙ e),
      λ f x i n less bundle e.
          (inner.above.0).1 f x i n less bundle (sym (stay f x (λ first. omega (arith, less, first)) (λ same_depth. omega (arith, less, same_depth)) i).word ∙ e),
    )

    -- those that wait do so still
    pub wait_still : (next : State) (after_scope : List ℕ) → Inside s IsOld next.memory depth after_scope → OthersKept s depth inner.state.memory next.memory
        → AreTheirs table typed effects unmoved_stage local older (view_here s next)
        → AreWaiting table typed effects next inner.top.frame.sub inner.top.frame.returns older
    wait_still next after_scope in_there stay reach =
        all_on table typed effects unmoved_stage local inner.state next depth (still next.memory stay)
        (λ f x i some less view. (stay f x (λ first. omega (arith, some, first)) (λ same_depth. omega (arith, less, same_depth)) i).word)
        inner.top.frame.sub inner.top.frame.returns older outer inner.stages (omega arith) reach inner.running.2

    pub with_successors : (i : Instruction) (n : ℕ) → inner.p.instr ≡ i → n < successors i → n < successors main_turn.point.instr
    with_successors i n e less = subst (λ z. n < successors z) (sym e) less

    pub same_scope : (x : ℕ) → is_within x (lasting_of s left_scope) ≡ true → is_within x (lasting_of s left_scope) ≡ true
    same_scope x within = within

    pub one_more : (y x : ℕ) → is_within x (lasting_of s left_scope) ≡ true → is_within x (lasting_of s (y ∷ left_scope)) ≡ true
    one_more y = lasting_more s left_scope (y ∷ left_scope) (λ x within. or_right (x == y) (is_within x left_scope) within)

    pub new_there : (x : ℕ) → is_within x (x ∷ left_scope) ≡ true
    new_there x = ap (λ b. b || is_within x left_scope) (eq-eqb x x refl)

    pub new_one : (x : ℕ) → is_temporary_object s x ≡ false → is_within x (lasting_of s (x ∷ left_scope)) ≡ true
    new_one x plain = within_lasting s x (x ∷ left_scope) (new_there x) (plain_unheld s x plain)

    pub stored_which : (i : Instruction) → inner.p.instr ≡ i → (x : ℕ) → Has (stored_at i) x → (is_package_object s x ≡ true) ⊎ (is_within x left_scope ≡ true)
    stored_which i e x has = ready.scoped.stored inner.named named_there inner.p point_there_now x (subst (λ z. Has (stored_at z) x) (sym e) has)

    pub stored_there : (i : Instruction) → inner.p.instr ≡ i → (x : ℕ) → Has (stored_at i) x → MayHold s IsOld depth (lasting_of s left_scope) (home s depth x) x
    stored_there i e x has = may_hold x (lasting_of s left_scope) (elim (stored_which i e x has) [
      | inl shared_object ↦ inl shared_object
      | inr within ↦ inr (within_lasting s x left_scope within (ready.valued.lasting inner.named named_there inner.p point_there_now x (subst (λ z. Has (stored_at z) x) (sym e) has)))
    ])

    pub ready_there : (i : Instruction) → inner.p.instr ≡ i → is_ready inner.p i ≡ true
    ready_there i e = subst (λ z. is_ready inner.p z ≡ true) e (standing.is_ready_there table typed effects input ready inner.state inner.top older outer inner.named inner.p inner.frames inner.of_sub inner.at_point)

    -- ---- exceptions

    -- an exception ends the run
    pub raised_well : (m : Memory) → WellOwned s (steps.counted (record inner.state { memory = given_up inner.state.memory m }))
    raised_well m = raised_owned s ready.accepted.settled ready.owns inner.state viewed.owned viewed.covered m

    pub ends_raised : (how : Exception) (m : Memory) → LeadsOn table typed effects (steps.raised main_turn how m)
    ends_raised how m = ((λ trap. trap), raised_well m)
