-- Facts without an element stay exact where a borrower or observer is declared with, or assigned, what a function gave
-- that goes through a name.
use Rattle.std.proofs.Common.{◌≡◌, refl, sym, ap, ◌∙◌, subst, ℕ, Bool, true, false, List, [], ◌∷◌, ◌++◌, length, Some, if◌then◌else◌, inl, inr}
use Rattle.machine.specs.spark_base.Lists.{Has}
use Rattle.machine.specs.spark_base.declared.position.Pos.{Pos}
use Rattle.machine.specs.place_names.declared.act.Act.{Act}
use Rattle.machine.specs.place_names.declared.act.Act.TheVariants as act
use Rattle.machine.specs.place_names.declared.fact.Fact.{Fact}
use Rattle.machine.specs.place_names.declared.fact.Fact.TheVariants.{Moved}
use Rattle.machine.specs.place_names.Names.{Name as PlaceName}
use Rattle.machine.specs.place_names.Facts.{adds, effect}
use Rattle.machine.specs.typed_tree.Trees.{TypedTree, Name, NoMore, More, Call as CallIn}
use Rattle.machine.specs.flow_paths.declared.point.LeakSpot.{LeakSpot}
use Rattle.machine.specs.flow_paths.Objects.{Typing, object_at, is_borrower, is_borrowing, is_observing, is_observer, is_variable, view_of}
use Rattle.machine.specs.flow_paths.Names.{name_of, written, source}
use Rattle.machine.specs.flow_paths.Scopes.{taken}
use Rattle.machine.specs.flow_paths.Acts.{acts_in, index_acts, source_acts, declared_acts, observe, reborrow, assigned_to, stored_acts, target_pos as acts_target_pos}
use Rattle.machine.specs.Words as machine
use Rattle.machine.specs.Memory.{Memory, Place, declared}
use Rattle.machine.specs.Evaluate.{Now, Done, followed_by, evaluate, checked, value, viewed}
use Rattle.machine.specs.Evaluate as run
use Rattle.machine.specs.Calls.{checks_at}
use Rattle.machine.specs.States.{Outcome}
use Rattle.machine.specs.Step.{Turn, typing, here, taken_by, goes, leaking_goes}
use Rattle.machine.specs.Step as steps
use Rattle.soundness.specs.OwnedWays.Ways.{Way, View, Allows, after}
use Rattle.soundness.specs.PartOffsets.Parts.{IsSettled}
use Rattle.soundness.specs.Seen.{home, IsNear}
use Rattle.soundness.specs.Typed.{OwnsByShape}
use Rattle.soundness.proofs.Scalars.{acts}
use Rattle.soundness.specs.OwnedLoans.Views.{Around, Views, Viewed}
use Rattle.soundness.proofs.OwnedLoans.Taken.{reborrow_unused}
use Rattle.soundness.specs.ViewedSoundness.Holds.{PartsAreNamed, Seeing}
use Rattle.soundness.proofs.ViewedSoundness.Outcomes.{IsGood}
use Rattle.soundness.proofs.ViewedSoundness.Lends.{Sees, Puts, put_at, stored_as}
use Rattle.viewed_steps.proofs.Ended.{view_kinds}
use Rattle.viewed_steps.proofs.Sources.{observer_only, view_scalar}
use Rattle.viewed_steps.proofs.Views.{AreAccess}
use Rattle.recycled_runs.specs.ViewedFacts.Exact.{IsExact}
use Rattle.recycled_runs.proofs.ViewedFacts.Instructions.{ExactOn, view_stored}
use Rattle.recycled_runs.proofs.ViewedFacts.Viewing.{moves_nothing}
use Rattle.recycled_runs.proofs.ViewedFacts.Steps.{IsAway}
use Rattle.soundness.specs.ViewedSoundness.Taken.{GivesPlainly}
use Rattle.viewed_steps.specs.Traversals.{GivesView}
use Rattle.machine.specs.type_definitions.Types.{shape_of}

-- such a call
abbrev pub call_tree : Pos → ℕ → Pos → ℕ → TypedTree → ℕ → TypedTree → TypedTree
call_tree q n p y path u more = CallIn q n (More (Name p y path u) more)

-- what gives a view doesn't give plainly
pub gives_no_call : (s : Typing) (r : Pos) (n of : ℕ) (actuals : TypedTree) → GivesView s n of → GivesPlainly s (CallIn r n actuals) → ⊥
unfolding GivesPlainly
gives_no_call s r n of actuals gives plainly = view_scalar (shape_of s.table gives.result) gives.anonymous (plainly gives.result gives.result_is)

pub first_plain : (s : Typing) (e : TypedTree) → GivesPlainly s (More e NoMore) → GivesPlainly s e
unfolding GivesPlainly
first_plain s e plainly = plainly.0

-- where a borrower goes on, no moved name is rooted in it
pub given_unmoved : (at_home : ℕ → ℕ) (observer : ℕ → Bool) (other : Around at_home) (v : Views) (view : View) (facts : List Fact) → Viewed at_home observer other v view facts
    → (x : ℕ) (name : PlaceName) → Allows facts (act.Reborrow x name) → (n : PlaceName) → Has (effect (act.Reborrow x name) facts) (Moved n) → n.root ≡ x → ⊥
given_unmoved at_home observer other v view facts viewed x name mine n has root =
    (reborrow_unused at_home observer other v v view facts viewed x name mine).unmoved n
    (moves_nothing (act.Reborrow x name) facts (λ k none_there. absurd none_there) n has) root

-- the act of a borrower that is assigned what was given
pub reborrowed_acts : (s : Typing) (pos r q p : Pos) (n x y u of : ℕ) (path more : TypedTree) → is_borrower s x ≡ true
    → assigned_to s pos (Some x) (Name r x NoMore of) (call_tree q n p y path u more) ≡ record { pos = r; act = act.Reborrow x (name_of y path) } ∷ []
reborrowed_acts s pos r q p n x y u of path more is =
    ap (λ b. if b then index_acts s (call_tree q n p y path u more) ++ reborrow (acts_target_pos pos (written (Name r x NoMore of))) x (source (call_tree q n p y path u more))
    else (if is_observer s x then source_acts s (call_tree q n p y path u more) (observe s x) else stored_acts s (Name r x NoMore of) (call_tree q n p y path u more))) is

module _ (t : Turn) (sees : ℕ → Bool) (seeing : Seeing (typing t) sees) (settled : IsSettled (typing t).table) (own_law : OwnsByShape (typing t).table) (other : Around (home (typing t) (length t.outer)))
    (alone : (w : Way) → IsNear (length t.outer) w → other.gone w → ⊥) (in_formals : AreAccess (typing t))
    (v : Views) (parts_named : PartsAreNamed (typing t).table) (may : ℕ → ℕ → Type 0)
    (frames : t.state.frames ≡ t.frame ∷ t.outer) (none : taken t.point.instr ≡ 0)
    (elsewhere : Way → Type 0) (away : (w : Way) → elsewhere w → IsAway (typing t) (length t.outer) other w) (Excused : LeakSpot → Type 0) where
  abbrev s : Typing
  s = typing t

  abbrev depth : ℕ
  depth = length t.outer

  abbrev m : Memory
  m = t.state.memory

  abbrev now : Now
  now = record { memory = t.state.memory; waits = [] }

  abbrev at : List (List machine.Word) → Now
  at ws = record { memory = t.state.memory; waits = ws }

  abbrev Good : List Fact → Type 0
  Good facts = IsGood t sees seeing settled own_law other alone v parts_named may frames none v facts t.state

  abbrev ExactHere : List Fact → Outcome → Type 0
  ExactHere facts outcome = ExactOn t sees seeing settled own_law other alone in_formals v parts_named may frames none elsewhere away Excused facts [] outcome

  -- it is taken from where it waits
  takes_it : (q : Pos) (n : ℕ) (p : Pos) (y : ℕ) (path : TypedTree) (u : ℕ) (more : TypedTree) (z : machine.Word)
      → viewed (here t) (call_tree q n p y path u more) (at ((z ∷ []) ∷ [])) ≡ Done (z ∷ []) (at [])
  unfolding evaluate
  takes_it q n p y path u more z = refl

  module _ (q : Pos) (n : ℕ) (p : Pos) (y : ℕ) (path : TypedTree) (u : ℕ) (more : TypedTree) (x d : ℕ) (z : machine.Word) (facts : List Fact)
      (looks : Sees t sees seeing settled own_law other alone v parts_named may frames none x d)
      (good : IsGood t sees seeing settled own_law other alone v parts_named may frames none v facts t.state)
      (exact : IsExact (typing t) (home (typing t) (length t.outer)) v elsewhere t.state.memory facts) (variable : is_variable (object_at (typing t) x).kind ≡ true) where
    abbrev call : TypedTree
    call = call_tree q n p y path u more

    abbrev of : ℕ
    of = (object_at s x).of

    word_taken : taken_by t of call (at ((z ∷ []) ∷ [])) ≡ Done (z ∷ []) (at [])
    word_taken =
        ap (λ b. if b then viewed (here t) call (at ((z ∷ []) ∷ [])) else followed_by (value (here t) call (at ((z ∷ []) ∷ []))) (checked (here t) of)) looks.anonymous
        ∙ takes_it q n p y path u more z

    -- what the view gets, under the act on the first actual
    abbrev MovesNone : (PlaceName → Act) → Type 0
    MovesNone a = (k : PlaceName) → Has (adds (a (name_of y path))) (Moved k) → ⊥

    declares_it : (a : PlaceName → Act) → declared_acts s x (More call NoMore) ≡ source_acts s call a → MovesNone a
        → ExactHere (after (acts (declared_acts s x (More call NoMore))) facts)
        (steps.evaluated t (taken_by t of call (at ((z ∷ []) ∷ []))) (λ ws m. goes t (declared depth x ws m) 0))
    declares_it a same moves =
        subst (λ b. ExactHere (after (acts b) facts) (steps.evaluated t (taken_by t of call (at ((z ∷ []) ∷ []))) (λ ws m. goes t (declared depth x ws m) 0))) (sym same)
        (subst (λ b. ExactHere (effect (a (name_of y path)) facts) (steps.evaluated t b (λ ws m. goes t (declared depth x ws m) 0))) (sym word_taken) (
          view_stored t sees seeing settled own_law other alone in_formals v parts_named may frames none elsewhere away Excused depth x (z ∷ []) looks.anonymous facts
              (effect (a (name_of y path)) facts) good (moves_nothing (a (name_of y path)) facts moves) exact,
          tt,
        ))

    abbrev PutsHere : Pos → Pos → Outcome
    PutsHere pos r = Puts t sees seeing settled own_law other alone v parts_named may frames none pos r x of (taken_by t of call (at ((z ∷ []) ∷ [])))

    puts_it : (pos pos' r : Pos) (a : PlaceName → Act) (k : Pos)
        → assigned_to s pos (Some x) (Name r x NoMore of) call ≡ record { pos = k; act = a (name_of y path) } ∷ [] → MovesNone a
        → ExactHere (after (acts (assigned_to s pos (Some x) (Name r x NoMore of) call)) facts) (PutsHere pos' r)
    puts_it pos pos' r a k same moves =
        let place : Place = run.variable_place (here t) x in
        let facts' : List Fact = effect (a (name_of y path)) facts in
        subst (λ b. ExactHere (after (acts b) facts) (PutsHere pos' r)) (sym same)
        (subst (λ b. ExactHere facts' (Puts t sees seeing settled own_law other alone v parts_named may frames none pos' r x of b)) (sym word_taken)
        (subst (ExactHere facts') (sym (put_at t sees seeing settled own_law other alone v parts_named may frames none pos' r x of (z ∷ []) now))
        (subst (λ b. ExactHere facts' (leaking_goes (checks_at s pos' m place) (goes t b 0))) (sym (stored_as t sees seeing settled own_law other alone v parts_named may frames none x d facts looks good z)) (
          view_stored t sees seeing settled own_law other alone in_formals v parts_named may frames none elsewhere away Excused depth x (z ∷ []) looks.anonymous facts facts' good
              (moves_nothing (a (name_of y path)) facts moves) exact,
          tt,
        ))))

    observes_none : (b : Bool) (k : PlaceName) → Has (adds (act.Observe x (name_of y path) b)) (Moved k) → ⊥
    observes_none true k has = absurd has
    observes_none false k has = elim has [ inl is ↦ cc | inr never ↦ absurd never ]

    is_one : is_observer s x ≡ false → is_borrower s x ≡ true
    is_one borrows = view_kinds (is_variable (object_at s x).kind) (is_borrowing (view_of s x)) (is_observing (view_of s x)) looks.anonymous variable borrows

    -- a view is declared
    pub given_declared : ExactHere (after (acts (declared_acts s x (More call NoMore))) facts)
        (steps.evaluated t (taken_by t of call (at ((z ∷ []) ∷ []))) (λ ws m. goes t (declared depth x ws m) 0))
    given_declared = by_kind (is_observer s x) refl
      where
        by_kind : (b : Bool) → is_observer s x ≡ b → ExactHere (after (acts (declared_acts s x (More call NoMore))) facts)
            (steps.evaluated t (taken_by t of call (at ((z ∷ []) ∷ []))) (λ ws m. goes t (declared depth x ws m) 0))
        by_kind true sight =
            declares_it (observe s x)
            (ap (λ b. if b then source_acts s call (act.Borrow x) else (if is_observer s x then source_acts s call (observe s x) else acts_in s (More call NoMore))) (observer_only s x sight)
            ∙ ap (λ b. if b then source_acts s call (observe s x) else acts_in s (More call NoMore)) sight)
            (observes_none (is_observer s y))
        by_kind false borrows =
            declares_it (act.Borrow x)
            (ap (λ b. if b then source_acts s call (act.Borrow x) else (if is_observer s x then source_acts s call (observe s x) else acts_in s (More call NoMore))) (is_one borrows))
            (λ k has. elim has [ inl is ↦ cc | inr never ↦ absurd never ])

    -- a view is assigned
    pub given_put : (pos pos' r : Pos) → ExactHere (after (acts (assigned_to s pos (Some x) (Name r x NoMore of) call)) facts) (PutsHere pos' r)
    given_put pos pos' r = by_kind (is_observer s x) refl
      where
        by_kind : (b : Bool) → is_observer s x ≡ b → ExactHere (after (acts (assigned_to s pos (Some x) (Name r x NoMore of) call)) facts) (PutsHere pos' r)
        by_kind true sight =
            let target : TypedTree = Name r x NoMore of in
            puts_it pos pos' r (observe s x) p
            (ap (λ b. if b then index_acts s call ++ reborrow (acts_target_pos pos (written target)) x (source call)
            else (if is_observer s x then source_acts s call (observe s x) else stored_acts s target call)) (observer_only s x sight)
            ∙ ap (λ b. if b then source_acts s call (observe s x) else stored_acts s target call) sight)
            (observes_none (is_observer s y))
        by_kind false borrows = puts_it pos pos' r (act.Reborrow x) r (reborrowed_acts s pos r q p n x y u of path more (is_one borrows)) (λ k has. absurd has)
