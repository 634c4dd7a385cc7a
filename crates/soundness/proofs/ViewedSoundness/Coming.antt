-- Borrowers and observers that are declared with what a traversal function gave, or are assigned it. It waits,
-- and a name leads to its cell that goes on from the first actual.
use Rattle.std.proofs.Common.{◌≡◌, refl, sym, ap, ◌∙◌, subst, ℕ, ◌<◌, Bool, true, false, List, [], ◌∷◌, ◌++◌, length, Some, if◌then◌else◌}
use Rattle.machine.specs.spark_base.declared.position.Pos.{Pos}
use Rattle.machine.specs.place_names.declared.act.Act.{Act}
use Rattle.machine.specs.place_names.declared.act.Act.TheVariants as act
use Rattle.machine.specs.place_names.declared.fact.Fact.{Fact}
use Rattle.machine.specs.place_names.Names.{Name as PlaceName}
use Rattle.machine.specs.place_names.Facts.{effect}
use Rattle.machine.specs.type_definitions.Types.{full}
use Rattle.machine.specs.typed_tree.Trees.{TypedTree, Name, NoMore, More, Call as CallIn}
use Rattle.machine.specs.flow_paths.Objects.{Typing, object_at, is_anonymous, is_borrower, is_observer}
use Rattle.machine.specs.flow_paths.Names.{name_of, written, source}
use Rattle.machine.specs.flow_paths.Scopes.{taken}
use Rattle.machine.specs.flow_paths.Acts.{acts_in, stored_acts, declared_acts, assigned_to, source_acts, index_acts, reborrow, observe, target_pos as acts_target_pos}
use Rattle.machine.specs.Words as machine
use Rattle.machine.specs.Memory.{Memory, declared}
use Rattle.machine.specs.Evaluate.{Now, Done, followed_by, evaluate, checked, value, viewed}
use Rattle.machine.specs.States.{Waiting, Outcome}
use Rattle.machine.specs.Step.{Turn, typing, here, taken_by, goes, target_pos}
use Rattle.machine.specs.Step as steps
use Rattle.machine.specs.Owners.{waiting_in}
use Rattle.soundness.specs.OwnedWays.Ways.{Way, All, Named, Allows, after, AllowsAll}
use Rattle.soundness.specs.OwnedWays.Ways as ways
use Rattle.soundness.specs.PartOffsets.Parts.{IsSettled}
use Rattle.soundness.specs.Seen.{IsNear, seen, home}
use Rattle.soundness.specs.Typed.{IsCell, OwnsByShape}
use Rattle.soundness.proofs.Scalars.{acts}
use Rattle.soundness.specs.OwnedLoans.Views.{Go, on, Around, Views, Unused, Lifted, InPart}
use Rattle.soundness.proofs.OwnedLoans.Ways.{further, further_in}
use Rattle.soundness.specs.ViewedSoundness.Holds.{PartsAreNamed, is_given, GoesBy, Seeing}
use Rattle.soundness.proofs.ViewedSoundness.Viewing.{IsReached}
use Rattle.soundness.proofs.ViewedSoundness.Outcomes.{IsGood, Leads_on}
use Rattle.soundness.proofs.ViewedSoundness.ViewKinds.{observer_sees}
use Rattle.soundness.proofs.ViewedSoundness.Lends.{Sees, Got, Gets, Declares, Puts, got_declared, got_put, lent_gets, seen_gets, through_gets, further_gets}

-- a name that goes on from one rooted in a view is rooted in it
pub lifted_on : (v : Views) (k : Way) (r : List Go) (l : Lifted v k) → (n : Lifted v (on k r)) × (n.object ≡ l.object)
lifted_on v k [] l = (l, refl)
lifted_on v k (g ∷ r) l = let more = lifted_on v k r l in (further v g (on k r) more.0, more.1)

in_part_on : (v : Views) (k : Way) (r : List Go) → InPart v k → InPart v (on k r)
in_part_on v k [] l = l
in_part_on v k (g ∷ r) l = further_in v g (on k r) (in_part_on v k r l)

pub goes_further : (s : Typing) (v : Views) (y : ℕ) (k : Way) (r : List Go) → GoesBy s v y k → GoesBy s v y (on k r)
goes_further s v y k r goes = (
  λ bare view. (let l = goes.0 bare view in let more = lifted_on v k r l.0 in (more.0, more.1 ∙ l.1)),
  λ bundle. in_part_on v k r (goes.1 bundle),
)

module _ (t : Turn) (sees : ℕ → Bool) (seeing : Seeing (typing t) sees) (settled : IsSettled (typing t).table) (own_law : OwnsByShape (typing t).table) (other : Around (home (typing t) (length t.outer)))
    (alone : (w : Way) → IsNear (length t.outer) w → other.gone w → ⊥)
    (v : Views) (parts_named : PartsAreNamed (typing t).table) (may : ℕ → ℕ → Type 0)
    (frames : t.state.frames ≡ t.frame ∷ t.outer) (none : taken t.point.instr ≡ 0) where
  abbrev s : Typing
  s = typing t

  abbrev depth : ℕ
  depth = length t.outer

  abbrev hands : List Waiting
  hands = waiting_in t.state

  abbrev m : Memory
  m = t.state.memory

  abbrev at : List (List machine.Word) → Now
  at ws = record { memory = m; waits = ws }

  abbrev Good : List Fact → Type 0
  Good facts = IsGood t sees seeing settled own_law other alone v parts_named may frames none v facts t.state

  abbrev LeadsHere : List Fact → Outcome → Type 0
  LeadsHere facts outcome = Leads_on t sees seeing settled own_law other alone v parts_named may frames none facts outcome

  abbrev SeesHere : ℕ → ℕ → Type 0
  SeesHere x d = Sees t sees seeing settled own_law other alone v parts_named may frames none x d

  abbrev GetsHere : ℕ → ℕ → ℕ → PlaceName → List Fact → Type 0
  GetsHere x y d name facts = Gets t sees seeing settled own_law other alone v parts_named may frames none x y d name facts

  abbrev DeclaresHere : List (List machine.Word) → ℕ → TypedTree → Outcome
  DeclaresHere ws x e = Declares t sees seeing settled own_law other alone v parts_named may frames none ws x e

  abbrev PutsHere : List (List machine.Word) → Pos → ℕ → TypedTree → Outcome
  PutsHere ws r x e =
      Puts t sees seeing settled own_law other alone v parts_named may frames none (target_pos t (Name r x NoMore (object_at s x).of)) r x (object_at s x).of
      (taken_by t (object_at s x).of e (at ws))

  -- What waits is null, or the number of a cell to which a name leads that goes on from what the first
  -- actual designates.
  pub record IsComing (y d : ℕ) (name : PlaceName) (z : machine.Word) : Type 0 where
    pub place : Way
    pub rest : List Go
    pub named : Named (home s depth) place
    pub called : ways.name_of place ≡ name
    pub reached : IsReached v (seen s m hands t.state.leaks) (on (All place) rest) z
    pub typed : (k : ℕ) → z ≡ machine.Cell k → IsCell s m d k
    pub goes : (k : ℕ) → z ≡ machine.Cell k → GoesBy s v y (All place)

  abbrev GotHere : ℕ → machine.Word → List Fact → Type 0
  GotHere x z facts = (views : Views) × Got t sees seeing settled own_law other alone v parts_named may frames none views x z facts

  -- the view gets it
  gets_it : (x y d : ℕ) (name : PlaceName) (behind : List Fact) (z : machine.Word) → GetsHere x y d name behind → IsComing y d name z → GotHere x z behind
  gets_it x y d name behind z gets coming =
      gets coming.place coming.rest z coming.named coming.called coming.reached coming.typed
      (λ k e. goes_further s v y (All coming.place) coming.rest (coming.goes k e))

  -- a traversal call whose first actual is a name
  abbrev pub call_of : Pos → ℕ → Pos → ℕ → TypedTree → ℕ → TypedTree → TypedTree
  call_of q n p y path u more = CallIn q n (More (Name p y path u) more)

  -- it is taken from where it waits
  takes_it : (e : TypedTree) (q : Pos) (n : ℕ) (actuals : TypedTree) (z : machine.Word) → e ≡ CallIn q n actuals → viewed (here t) e (at ((z ∷ []) ∷ [])) ≡ Done (z ∷ []) (at [])
  unfolding evaluate
  takes_it e q n actuals z is = ap (λ c. viewed (here t) c (at ((z ∷ []) ∷ []))) is

  taken_as : (of : ℕ) (e : TypedTree) (z : machine.Word) → is_anonymous (full s.table of) ≡ true → viewed (here t) e (at ((z ∷ []) ∷ [])) ≡ Done (z ∷ []) (at [])
      → taken_by t of e (at ((z ∷ []) ∷ [])) ≡ Done (z ∷ []) (at [])
  taken_as of e z anonymous is =
      ap (λ b. if b then viewed (here t) e (at ((z ∷ []) ∷ [])) else followed_by (value (here t) e (at ((z ∷ []) ∷ []))) (checked (here t) of)) anonymous ∙ is

  module _ (q : Pos) (n : ℕ) (p : Pos) (y : ℕ) (path : TypedTree) (u : ℕ) (more : TypedTree) (x d : ℕ) (z : machine.Word) (facts : List Fact)
      (looks : SeesHere x d) (good : Good facts) (coming : IsComing y d (name_of y path) z) (mine : may x y) where
    abbrev call : TypedTree
    call = call_of q n p y path u more

    word_taken : taken_by t (object_at s x).of call (at ((z ∷ []) ∷ [])) ≡ Done (z ∷ []) (at [])
    word_taken = taken_as (object_at s x).of call z looks.anonymous (takes_it call q n (More (Name p y path u) more) z refl)

    -- under the act on the first actual
    abbrev Acted : (PlaceName → Act) → Outcome → Type 0
    Acted a outcome = LeadsHere (effect (a (name_of y path)) facts) outcome

    declares_it : (rest : TypedTree) (a : PlaceName → Act) → declared_acts s x (More call rest) ≡ source_acts s call a
        → AllowsAll facts (acts (declared_acts s x (More call rest)))
        → (Allows facts (a (name_of y path)) → GetsHere x y d (name_of y path) (effect (a (name_of y path)) facts))
        → LeadsHere (after (acts (declared_acts s x (More call rest))) facts) (DeclaresHere ((z ∷ []) ∷ []) x (More call rest))
    declares_it rest a same allowed gets =
        let allowed_one : Allows facts (a (name_of y path)) = (subst (λ b. AllowsAll facts (acts b)) same allowed).0 in
        subst (λ b. LeadsHere (after (acts b) facts) (DeclaresHere ((z ∷ []) ∷ []) x (More call rest))) (sym same)
        (subst (λ b. Acted a (steps.evaluated t b (λ ws m. goes t (declared depth x ws m) 0))) (sym word_taken)
        (got_declared t sees seeing settled own_law other alone v parts_named may frames none x z (effect (a (name_of y path)) facts)
        (gets_it x y d (name_of y path) (effect (a (name_of y path)) facts) z (gets allowed_one) coming)))

    puts_it : (pos r : Pos) (a : PlaceName → Act) (k : Pos)
        → assigned_to s pos (Some x) (Name r x NoMore (object_at s x).of) call ≡ record { pos = k; act = a (name_of y path) } ∷ []
        → AllowsAll facts (acts (assigned_to s pos (Some x) (Name r x NoMore (object_at s x).of) call))
        → (Allows facts (a (name_of y path)) → GetsHere x y d (name_of y path) (effect (a (name_of y path)) facts))
        → LeadsHere (after (acts (assigned_to s pos (Some x) (Name r x NoMore (object_at s x).of) call)) facts) (PutsHere ((z ∷ []) ∷ []) r x call)
    puts_it pos r a k same allowed gets =
        let allowed_one : Allows facts (a (name_of y path)) = (subst (λ b. AllowsAll facts (acts b)) same allowed).0 in
        subst (λ b. LeadsHere (after (acts b) facts) (PutsHere ((z ∷ []) ∷ []) r x call)) (sym same)
        (subst (λ b. Acted a (Puts t sees seeing settled own_law other alone v parts_named may frames none (target_pos t (Name r x NoMore (object_at s x).of)) r x (object_at s x).of b))
        (sym word_taken)
        (got_put t sees seeing settled own_law other alone v parts_named may frames none (target_pos t (Name r x NoMore (object_at s x).of)) r x (object_at s x).of d facts
        (effect (a (name_of y path)) facts) looks good z (gets_it x y d (name_of y path) (effect (a (name_of y path)) facts) z (gets allowed_one) coming)))

    -- A borrower is declared with what was given.
    pub borrower_given : (rest : TypedTree) → is_borrower s x ≡ true → is_observer s y ≡ false → sees x ≡ sees y → y < x
        → Unused (home s depth) other.lent v facts x → AllowsAll facts (acts (declared_acts s x (More call rest)))
        → LeadsHere (after (acts (declared_acts s x (More call rest))) facts) (DeclaresHere ((z ∷ []) ∷ []) x (More call rest))
    borrower_given rest is source alike older unused allowed =
        declares_it rest (act.Borrow x)
        (ap (λ b. if b then source_acts s call (act.Borrow x) else (if is_observer s x then source_acts s call (observe s x) else acts_in s (More call rest))) is) allowed
        (λ one. lent_gets t sees seeing settled own_law other alone v parts_named may frames none x y d path facts looks good unused source alike older mine one)

    -- what an observer gets
    observer_gets : is_observer s x ≡ true → is_given s x ≡ false → (b : Bool) → is_observer s y ≡ b → Allows facts (act.Observe x (name_of y path) b)
        → GetsHere x y d (name_of y path) (effect (act.Observe x (name_of y path) b) facts)
    observer_gets sight own true kind one =
        through_gets t sees seeing settled own_law other alone v parts_named may frames none true x y d path facts looks good
        sight (observer_sees s sees seeing y kind) mine one
    observer_gets sight own false kind one =
        seen_gets t sees seeing settled own_law other alone v parts_named may frames none x y d path facts looks own good sight kind mine one

    -- An observer is declared with it.
    pub observer_given : (rest : TypedTree) → is_borrower s x ≡ false → is_observer s x ≡ true → is_given s x ≡ false
        → AllowsAll facts (acts (declared_acts s x (More call rest)))
        → LeadsHere (after (acts (declared_acts s x (More call rest))) facts) (DeclaresHere ((z ∷ []) ∷ []) x (More call rest))
    observer_given rest is_not sight own allowed =
        declares_it rest (observe s x)
        (ap (λ b. if b then source_acts s call (act.Borrow x) else (if is_observer s x then source_acts s call (observe s x) else acts_in s (More call rest))) is_not
        ∙ ap (λ b. if b then source_acts s call (observe s x) else acts_in s (More call rest)) sight) allowed
        (λ one. observer_gets sight own (is_observer s y) refl one)

    -- An observer is assigned it.
    pub assign_observer_given : (pos r : Pos) → is_borrower s x ≡ false → is_observer s x ≡ true → is_given s x ≡ false
        → AllowsAll facts (acts (assigned_to s pos (Some x) (Name r x NoMore (object_at s x).of) call))
        → LeadsHere (after (acts (assigned_to s pos (Some x) (Name r x NoMore (object_at s x).of) call)) facts) (PutsHere ((z ∷ []) ∷ []) r x call)
    assign_observer_given pos r is_not sight own allowed =
        let target : TypedTree = Name r x NoMore (object_at s x).of in
        puts_it pos r (observe s x) p
        (ap (λ b. if b then index_acts s call ++ reborrow (acts_target_pos pos (written target)) x (source call)
        else (if is_observer s x then source_acts s call (observe s x) else stored_acts s target call)) is_not
        ∙ ap (λ b. if b then source_acts s call (observe s x) else stored_acts s target call) sight) allowed
        (λ one. observer_gets sight own (is_observer s y) refl one)

  -- A borrower goes on from where it is.
  pub assign_borrower_given : (q : Pos) (n : ℕ) (p : Pos) (path : TypedTree) (u : ℕ) (more : TypedTree) (x d : ℕ) (z : machine.Word) (facts : List Fact) → SeesHere x d → Good facts
      → IsComing x d (name_of x path) z → may x x → (pos r : Pos) → is_borrower s x ≡ true → is_given s x ≡ false
      → AllowsAll facts (acts (assigned_to s pos (Some x) (Name r x NoMore (object_at s x).of) (call_of q n p x path u more)))
      → LeadsHere (after (acts (assigned_to s pos (Some x) (Name r x NoMore (object_at s x).of) (call_of q n p x path u more))) facts)
      (PutsHere ((z ∷ []) ∷ []) r x (call_of q n p x path u more))
  assign_borrower_given q n p path u more x d z facts looks good coming mine pos r is own allowed =
      let target : TypedTree = Name r x NoMore (object_at s x).of in
      let call : TypedTree = call_of q n p x path u more in
      puts_it q n p x path u more x d z facts looks good coming mine pos r (act.Reborrow x) r
      (ap (λ b. if b then index_acts s call ++ reborrow (acts_target_pos pos (written target)) x (source call)
      else (if is_observer s x then source_acts s call (observe s x) else stored_acts s target call)) is) allowed
      (λ one. further_gets t sees seeing settled own_law other alone v parts_named may frames none x d path facts looks good own mine one)
