-- Facts without an element stay exact where a borrower or observer is declared or assigned. What is exact is said with the
-- ways that views had before.
use Rattle.std.proofs.Common.{◌≡◌, refl, sym, ap, ◌∙◌, subst, inl, inr, ℕ, Bool, true, false, List, [], ◌∷◌, ◌++◌, length, Some, if◌then◌else◌}
use Rattle.machine.specs.spark_base.Lists.{Has}
use Rattle.machine.specs.spark_base.declared.position.Pos.{Pos}
use Rattle.machine.specs.place_names.declared.act.Act.{Act}
use Rattle.machine.specs.place_names.declared.act.Act.TheVariants as act
use Rattle.machine.specs.place_names.declared.fact.Fact.{Fact}
use Rattle.machine.specs.place_names.declared.fact.Fact.TheVariants.{Moved}
use Rattle.machine.specs.place_names.Names.{Name as PlaceName}
use Rattle.machine.specs.place_names.Facts.{adds, effect}
use Rattle.machine.specs.type_definitions.Types.{shape_of, parts, parts_of, view_of as view_of_shape}
use Rattle.machine.specs.typed_tree.Trees.{TypedTree, Name, NoMore, More}
use Rattle.machine.specs.flow_paths.declared.point.LeakSpot.{LeakSpot}
use Rattle.machine.specs.flow_paths.Objects.{Typing, object_at, is_anonymous, is_borrowing, is_observing, is_observer, is_variable, view_of}
use Rattle.machine.specs.flow_paths.Names.{name_of, written, source, waiting as waits_in}
use Rattle.machine.specs.flow_paths.Scopes.{taken}
use Rattle.machine.specs.flow_paths.Acts.{acts_in, index_acts, source_acts, declared_acts, observe, reborrow, assigned_to, stored_acts, target_pos as acts_target_pos}
use Rattle.machine.specs.Words as machine
use Rattle.machine.specs.Memory.{Memory, Place, declared, stored}
use Rattle.machine.specs.Evaluate.{Now, AsView, Evaluated, Done, Raises, Traps, followed_by, evaluate, checked, value, viewed, initial}
use Rattle.machine.specs.Evaluate as run
use Rattle.machine.specs.Calls.{checks_at}
use Rattle.machine.specs.States.{Waiting, Outcome}
use Rattle.machine.specs.Step.{Turn, typing, here, taken_by, goes, leaking_goes, target_pos, first_value}
use Rattle.machine.specs.Step as steps
use Rattle.machine.specs.Owners.{waiting_in}
use Rattle.soundness.specs.OwnedWays.Ways.{Way, Allows, after, AllowsAll}
use Rattle.soundness.specs.OwnedWays.Ways as ways
use Rattle.soundness.specs.PartOffsets.Parts.{IsSettled}
use Rattle.soundness.specs.Seen.{home, seen, IsNear}
use Rattle.soundness.specs.Typed.{OwnsByShape}
use Rattle.soundness.specs.TypedLaws.Needed.{Source}
use Rattle.soundness.proofs.Scalars.{acts, acts_append, after_append, allows_both}
use Rattle.soundness.proofs.Taking.{Takes}
use Rattle.soundness.proofs.Stays.{Quiet}
use Rattle.soundness.proofs.Numbers.{index_law}
use Rattle.soundness.specs.OwnedLoans.Views.{Around, Views}
use Rattle.soundness.proofs.OwnedLoans.Allowed.{Cleared, borrow_clears, observe_clears, reborrow_clears}
use Rattle.soundness.proofs.OwnedLoans.Taken.{reborrow_unused}
use Rattle.soundness.specs.ViewedSoundness.Holds.{PartsAreNamed, Seeing}
use Rattle.soundness.proofs.ViewedSoundness.Stays.{steps_taking}
use Rattle.soundness.proofs.ViewedSoundness.Sources.{source_on}
use Rattle.soundness.proofs.ViewedSoundness.Outcomes.{IsGood, live}
use Rattle.soundness.proofs.ViewedSoundness.Lends.{Observes, Puts, put_at, stored_is, no_parts}
use Rattle.viewed_steps.proofs.Ended.{view_kinds}
use Rattle.viewed_steps.proofs.Sources.{view_shape, observes, observer_only}
use Rattle.soundness.proofs.ExactFacts.Steps.{fact_before}
use Rattle.recycled_runs.specs.ViewedFacts.Exact.{IsExact}
use Rattle.recycled_runs.proofs.ViewedFacts.Instructions.{ExactOn, view_stored, view_declared}
use Rattle.viewed_steps.proofs.Views.{AreAccess}
use Rattle.recycled_runs.proofs.ViewedFacts.Steps.{IsAway}

-- an act that moves nothing
pub moves_nothing : (a : Act) (facts : List Fact) → ((n : PlaceName) → Has (adds a) (Moved n) → ⊥) → (n : PlaceName) → Has (effect a facts) (Moved n) → Has facts (Moved n)
moves_nothing a facts none n has = elim (fact_before a facts (Moved n) has) [ inl old ↦ old.0 | inr new ↦ absurd (none n new) ]

module _ (t : Turn) (sees : ℕ → Bool) (seeing : Seeing (typing t) sees) (settled : IsSettled (typing t).table) (own_law : OwnsByShape (typing t).table) (other : Around (home (typing t) (length t.outer)))
    (alone : (w : Way) → IsNear (length t.outer) w → other.gone w → ⊥) (in_formals : AreAccess (typing t))
    (v : Views) (parts_named : PartsAreNamed (typing t).table) (may : ℕ → ℕ → Type 0)
    (frames : t.state.frames ≡ t.frame ∷ t.outer) (none : taken t.point.instr ≡ 0)
    (elsewhere : Way → Type 0) (away : (w : Way) → elsewhere w → IsAway (typing t) (length t.outer) other w) (Excused : LeakSpot → Type 0) where
  abbrev s : Typing
  s = typing t

  abbrev depth : ℕ
  depth = length t.outer

  abbrev hands : List Waiting
  hands = waiting_in t.state

  abbrev m : Memory
  m = t.state.memory

  abbrev now : Now
  now = record { memory = t.state.memory; waits = [] }

  -- before these values are taken
  abbrev at : List (List machine.Word) → Now
  at ws = record { memory = t.state.memory; waits = ws }

  abbrev Good : List Fact → Type 0
  Good facts = IsGood t sees seeing settled own_law other alone v parts_named may frames none v facts t.state

  abbrev Exact : Memory → List Fact → Type 0
  Exact n facts = IsExact s (home s depth) v elsewhere n facts

  abbrev ExactHere : List Fact → Outcome → Type 0
  ExactHere facts outcome = ExactOn t sees seeing settled own_law other alone in_formals v parts_named may frames none elsewhere away Excused facts [] outcome

  abbrev Observes_here : ℕ → ℕ → ℕ → ℕ → TypedTree → Type 0
  Observes_here x y u d path = Observes t sees seeing settled own_law other alone v parts_named may frames none x y u d path

  -- the type of a view has no access parts
  pub view_parts : (x : ℕ) → is_anonymous (view_of s x) ≡ true → parts s.table (object_at s x).of ≡ []
  view_parts x view =
      let sh = view_shape (shape_of s.table (object_at s x).of) view in
      settled.part_law (object_at s x).of ∙ ap (parts_of (parts s.table)) sh.3
      ∙ no_parts t sees seeing settled own_law other alone v parts_named may frames none sh.0 sh.1 sh.2 (sym (ap (λ z. is_anonymous (view_of_shape z)) sh.3) ∙ view) (parts s.table)

  -- ---- what the source gives

  -- after the acts of its indexes the act of the source is allowed, and the source changes no memory
  record IsShown (ws : List (List machine.Word)) (y u : ℕ) (p : Pos) (path : TypedTree) (a : Act) (facts : List Fact) (done : List Act) : Type 0 where
    behind : after done facts ≡ effect a facts
    mine : Allows facts a
    quiet_there : Quiet now (λ ws. (z : machine.Word) × (ws ≡ z ∷ [])) (evaluate (here t) AsView (Name p y path u) (at ws))

  one_word : (P : List machine.Word → Type 0) → ((ws : List machine.Word) → P ws → (z : machine.Word) × (ws ≡ z ∷ [])) → (e : Evaluated (List machine.Word)) → Quiet now P e
      → Quiet now (λ ws. (z : machine.Word) × (ws ≡ z ∷ [])) e
  one_word P one (Done ws n) (same, p) = (same, one ws p)
  one_word P one (Raises e n) is = is
  one_word P one (Traps e n) never = never

  is_shown : (ws : List (List machine.Word)) (x y u d : ℕ) (p r : Pos) (path : TypedTree) (a : PlaceName → Act) → Observes_here x y u d path
      → Takes (waits_in path) ws []
      → (facts : List Fact) → Good facts → AllowsAll facts (acts (acts_in s path ++ record { pos = r; act = a (name_of y path) } ∷ []))
      → ((w : Way) → ways.name_of w ≡ name_of y path → sees y ≡ false → Allows facts (a (name_of y path)) → Cleared facts w)
      → IsShown ws y u p path (a (name_of y path)) facts (acts (acts_in s path ++ record { pos = r; act = a (name_of y path) } ∷ []))
  is_shown ws x y u d p r path a observes takes facts good allowed clears =
      let b : List Act = acts (acts_in s path) in
      let whole_acts : acts (acts_in s path ++ record { pos = r; act = a (name_of y path) } ∷ []) ≡ b ++ (a (name_of y path) ∷ []) =
      acts_append (acts_in s path) (record { pos = r; act = a (name_of y path) } ∷ []) in
      let each = allows_both facts b (a (name_of y path) ∷ []) (subst (AllowsAll facts) whole_acts allowed) in
      let alive = live t sees seeing settled own_law other alone v parts_named may frames none facts good in
      let inner = steps_taking (here t) sees seeing settled hands t.state.leaks m [] other facts v good.kept good.viewed good.holds alone alive
      index_law own_law parts_named (object_at s y).of u path observes.lead ws [] takes each.0 in
      let mine : Allows facts (a (name_of y path)) = subst (λ z. Allows z (a (name_of y path))) inner.1 each.1.0 in
      record {
        behind = ap (λ z. after z facts) whole_acts ∙ after_append b (a (name_of y path) ∷ []) facts ∙ ap (effect (a (name_of y path))) inner.1;
        mine = mine;
        quiet_there = one_word _ (λ vs shown. (shown.3.word, shown.3.is)) (evaluate (here t) AsView (Name p y path u) (at ws))
            (source_on (here t) sees seeing settled hands t.state.leaks m [] other facts v good.kept good.viewed good.holds alone alive
            index_law own_law parts_named ws [] p y u d observes.c observes.n path observes.lead observes.source takes each.0 (λ w called plain. clears w called plain mine));
      }

  -- ---- declarations

  abbrev Declares_here : List (List machine.Word) → ℕ → TypedTree → Outcome
  Declares_here ws x e = steps.evaluated t (first_value t (object_at s x).of e (at ws)) (λ vs n. goes t (declared depth x vs n) 0)

  view_exact : (ws : List (List machine.Word)) (x y u d : ℕ) (p : Pos) (path : TypedTree) (a : PlaceName → Act) → Observes_here x y u d path → Takes (waits_in path) ws []
      → (facts : List Fact) → Good facts → AllowsAll facts (acts (source_acts s (Name p y path u) a))
      → ((w : Way) → ways.name_of w ≡ name_of y path → sees y ≡ false → Allows facts (a (name_of y path)) → Cleared facts w)
      → ((n : PlaceName) → Has (adds (a (name_of y path))) (Moved n) → ⊥) → Exact m facts
      → ExactHere (after (acts (source_acts s (Name p y path u) a)) facts) (Declares_here ws x (More (Name p y path u) NoMore))
  unfolding initial
  view_exact ws x y u d p path a observes takes facts good allowed clears none_moved exact =
      let shown = is_shown ws x y u d p p path a observes takes facts good allowed clears in
      let e : TypedTree = Name p y path u in
      subst (λ z. ExactHere z (Declares_here ws x (More e NoMore))) (sym shown.behind)
      (subst (λ c. ExactHere (effect (a (name_of y path)) facts)
      (steps.evaluated t (if c then viewed (here t) e (at ws) else followed_by (value (here t) e (at ws)) (checked (here t) (object_at s x).of)) (λ ws m. goes t (declared depth x ws m) 0)))
      (sym observes.anonymous)
      (view_declared t sees seeing settled own_law other alone in_formals v parts_named may frames none elsewhere away Excused
      (λ ws. (z : machine.Word) × (ws ≡ z ∷ [])) x observes.anonymous facts (effect (a (name_of y path)) facts) good
      (moves_nothing (a (name_of y path)) facts none_moved) exact (evaluate (here t) AsView e (at ws)) shown.quiet_there))

  -- a view is declared
  pub view_declared_on : (ws : List (List machine.Word)) (q : Pos) (x y u : ℕ) (path : TypedTree) → is_anonymous (view_of s x) ≡ true → is_variable (object_at s x).kind ≡ true
      → home s depth x ≡ depth → Source s (object_at s x).of (Name q y path u) → Takes (waits_in path) ws [] → (facts : List Fact) → Good facts
      → AllowsAll facts (acts (declared_acts s x (More (Name q y path u) NoMore))) → Exact m facts
      → ExactHere (after (acts (declared_acts s x (More (Name q y path u) NoMore))) facts) (Declares_here ws x (More (Name q y path u) NoMore))
  view_declared_on ws q x y u path view variable mine source_there takes facts good allowed exact =
      let from_it = observes t sees seeing settled own_law other alone in_formals v parts_named may frames none q x y u path view variable mine source_there in
      by_kind from_it.0 from_it.1 (is_observer s x) refl
    where
      e : TypedTree
      e = Name q y path u

      by_kind : (d : ℕ) → Observes_here x y u d path → (b : Bool) → is_observer s x ≡ b
          → ExactHere (after (acts (declared_acts s x (More (Name q y path u) NoMore))) facts) (Declares_here ws x (More (Name q y path u) NoMore))
      by_kind d found true sight =
          let same : declared_acts s x (More (Name q y path u) NoMore) ≡ source_acts s (Name q y path u) (observe s x) =
          ap (λ b. if b then source_acts s (Name q y path u) (act.Borrow x)
          else (if is_observer s x then source_acts s (Name q y path u) (observe s x) else acts_in s (More (Name q y path u) NoMore))) (observer_only s x sight)
          ∙ ap (λ b. if b then source_acts s (Name q y path u) (observe s x) else acts_in s (More (Name q y path u) NoMore)) sight in
          subst (λ z. ExactHere (after (acts z) facts) (Declares_here ws x (More (Name q y path u) NoMore))) (sym same)
          (view_exact ws x y u d q path (observe s x) found takes facts good (subst (λ z. AllowsAll facts (acts z)) same allowed)
          (λ w called plain goes_by. observe_clears facts x (is_observer s y) w (subst (λ n. Allows facts (act.Observe x n (is_observer s y))) (sym called) goes_by))
          (observes_none (is_observer s y)) exact)
        where
          observes_none : (b : Bool) (n : PlaceName) → Has (adds (act.Observe x (name_of y path) b)) (Moved n) → ⊥
          observes_none true n has = absurd has
          observes_none false n has = elim has [ inl is ↦ cc | inr never ↦ absurd never ]
      by_kind d found false borrows =
          let is = view_kinds (is_variable (object_at s x).kind) (is_borrowing (view_of s x)) (is_observing (view_of s x)) view variable borrows in
          let same : declared_acts s x (More (Name q y path u) NoMore) ≡ source_acts s (Name q y path u) (act.Borrow x) =
          ap (λ b. if b then source_acts s (Name q y path u) (act.Borrow x)
          else (if is_observer s x then source_acts s (Name q y path u) (observe s x) else acts_in s (More (Name q y path u) NoMore))) is in
          subst (λ z. ExactHere (after (acts z) facts) (Declares_here ws x (More (Name q y path u) NoMore))) (sym same)
          (view_exact ws x y u d q path (act.Borrow x) found takes facts good (subst (λ z. AllowsAll facts (acts z)) same allowed)
          (λ w called plain goes_by. borrow_clears facts x w (subst (λ n. Allows facts (act.Borrow x n)) (sym called) goes_by))
          (λ n has. elim has [ inl is ↦ cc | inr never ↦ absurd never ]) exact)

  -- ---- assignments

  then_put : (pos q : Pos) (x y u w d : ℕ) (path : TypedTree) (facts facts' : List Fact) → Good facts → Observes_here x y u d path
      → ((n : PlaceName) → Has facts' (Moved n) → Has facts (Moved n)) → Exact m facts → (e : Evaluated (List machine.Word))
      → Quiet now (λ ws. (z : machine.Word) × (ws ≡ z ∷ [])) e
      → ExactHere facts' (Puts t sees seeing settled own_law other alone v parts_named may frames none pos q x w e)
  then_put pos q x y u w d path facts facts' good observes less exact (Done ws n) (same, (z, is)) =
      let k : Place = run.variable_place (here t) x in
      let there = stored_is t sees seeing settled own_law other alone v parts_named may frames none x y u d path facts observes good z in
      subst (ExactHere facts') (sym (put_at t sees seeing settled own_law other alone v parts_named may frames none pos q x w ws n))
      (subst (λ (z : Now). ExactHere facts' (leaking_goes (checks_at s pos z.memory k) (goes t (stored s k ws z.memory) 0))) (sym same)
      (subst (λ z. ExactHere facts' (leaking_goes (checks_at s pos m k) (goes t (stored s k z m) 0))) (sym is)
      (subst (λ z. ExactHere facts' (leaking_goes (checks_at s pos m k) (goes t z 0))) (sym there)
      (view_stored t sees seeing settled own_law other alone in_formals v parts_named may frames none elsewhere away Excused depth x (z ∷ []) observes.anonymous facts facts' good less exact, tt))))
  then_put pos q x y u w d path facts facts' good observes less exact (Raises e n) is = tt
  then_put pos q x y u w d path facts facts' good observes less exact (Traps e n) never = tt

  put_exact : (ws : List (List machine.Word)) (pos q p r : Pos) (x y u d : ℕ) (path : TypedTree) (a : PlaceName → Act) → Observes_here x y u d path → Takes (waits_in path) ws []
      → (facts : List Fact) → Good facts → AllowsAll facts (acts (acts_in s path ++ record { pos = r; act = a (name_of y path) } ∷ []))
      → ((w : Way) → ways.name_of w ≡ name_of y path → sees y ≡ false → Allows facts (a (name_of y path)) → Cleared facts w)
      → ((n : PlaceName) → Has (adds (a (name_of y path))) (Moved n) → ⊥) → Exact m facts
      → ExactHere (after (acts (acts_in s path ++ record { pos = r; act = a (name_of y path) } ∷ [])) facts)
      (Puts t sees seeing settled own_law other alone v parts_named may frames none pos q x (object_at s x).of (taken_by t (object_at s x).of (Name p y path u) (at ws)))
  put_exact ws pos q p r x y u d path a observes takes facts good allowed clears none_moved exact =
      let shown = is_shown ws x y u d p r path a observes takes facts good allowed clears in
      let e : TypedTree = Name p y path u in
      let of : ℕ = (object_at s x).of in
      subst (λ z. ExactHere z (Puts t sees seeing settled own_law other alone v parts_named may frames none pos q x of (taken_by t of e (at ws)))) (sym shown.behind)
      (subst (λ c. ExactHere (effect (a (name_of y path)) facts) (Puts t sees seeing settled own_law other alone v parts_named may frames none pos q x of
      (if c then viewed (here t) e (at ws) else followed_by (value (here t) e (at ws)) (checked (here t) of)))) (sym observes.anonymous)
      (then_put pos q x y u of d path facts (effect (a (name_of y path)) facts) good observes (moves_nothing (a (name_of y path)) facts none_moved) exact
      (evaluate (here t) AsView e (at ws)) shown.quiet_there))

  -- a view is assigned; its type has no access parts
  abbrev Puts_here : List (List machine.Word) → TypedTree → Pos → ℕ → TypedTree → Outcome
  Puts_here ws target r x e =
      Puts t sees seeing settled own_law other alone v parts_named may frames none (target_pos t target) r x (object_at s x).of (taken_by t (object_at s x).of e (at ws))

  pub view_assigned_on : (ws : List (List machine.Word)) (pos r q : Pos) (x y u : ℕ) (path : TypedTree) → is_anonymous (view_of s x) ≡ true → is_variable (object_at s x).kind ≡ true
      → home s depth x ≡ depth → Source s (object_at s x).of (Name q y path u) → Takes (waits_in path) ws [] → (is_observer s x ≡ false → y ≡ x)
      → (facts : List Fact) → Good facts
      → AllowsAll facts (acts (assigned_to s pos (Some x) (Name r x NoMore (object_at s x).of) (Name q y path u))) → Exact m facts
      → ExactHere (after (acts (assigned_to s pos (Some x) (Name r x NoMore (object_at s x).of) (Name q y path u))) facts)
      (Puts_here ws (Name r x NoMore (object_at s x).of) r x (Name q y path u))
  view_assigned_on ws pos r q x y u path view variable mine source_there takes itself facts good allowed exact =
      let from_it = observes t sees seeing settled own_law other alone in_formals v parts_named may frames none q x y u path view variable mine source_there in
      by_kind from_it.0 from_it.1 (is_observer s x) refl
    where
      by_kind : (d : ℕ) → Observes_here x y u d path → (b : Bool) → is_observer s x ≡ b
          → ExactHere (after (acts (assigned_to s pos (Some x) (Name r x NoMore (object_at s x).of) (Name q y path u))) facts)
          (Puts_here ws (Name r x NoMore (object_at s x).of) r x (Name q y path u))
      by_kind d found true sight =
          let e : TypedTree = Name q y path u in
          let target : TypedTree = Name r x NoMore (object_at s x).of in
          let same : assigned_to s pos (Some x) target e ≡ source_acts s e (observe s x) =
          ap (λ b. if b then index_acts s e ++ reborrow (acts_target_pos pos (written target)) x (source e)
          else (if is_observer s x then source_acts s e (observe s x) else stored_acts s target e)) (observer_only s x sight)
          ∙ ap (λ b. if b then source_acts s e (observe s x) else stored_acts s target e) sight in
          subst (λ z. ExactHere (after (acts z) facts) (Puts_here ws target r x e)) (sym same)
          (put_exact ws (target_pos t target) r q q x y u d path (observe s x) found takes facts good (subst (λ z. AllowsAll facts (acts z)) same allowed)
          (λ w called plain goes_by. observe_clears facts x (is_observer s y) w (subst (λ n. Allows facts (act.Observe x n (is_observer s y))) (sym called) goes_by))
          (observes_none (is_observer s y)) exact)
        where
          observes_none : (b : Bool) (n : PlaceName) → Has (adds (act.Observe x (name_of y path) b)) (Moved n) → ⊥
          observes_none true n has = absurd has
          observes_none false n has = elim has [ inl is ↦ cc | inr never ↦ absurd never ]
      by_kind d found false borrows =
          let e : TypedTree = Name q y path u in
          let target : TypedTree = Name r x NoMore (object_at s x).of in
          let is = view_kinds (is_variable (object_at s x).kind) (is_borrowing (view_of s x)) (is_observing (view_of s x)) view variable borrows in
          let same : assigned_to s pos (Some x) target e ≡ acts_in s path ++ record { pos = r; act = act.Reborrow x (name_of y path) } ∷ [] =
          ap (λ b. if b then index_acts s e ++ reborrow (acts_target_pos pos (written target)) x (source e)
          else (if is_observer s x then source_acts s e (observe s x) else stored_acts s target e)) is in
          subst (λ z. ExactHere (after (acts z) facts) (Puts_here ws target r x e)) (sym same)
          (put_exact ws (target_pos t target) r q r x y u d path (act.Reborrow x) found takes facts good (subst (λ z. AllowsAll facts (acts z)) same allowed)
          (λ w called plain goes_by. reborrow_clears facts x w (ap (λ (n : PlaceName). n.root) called ∙ itself borrows)
          (subst (λ n. Allows facts (act.Reborrow x n)) (sym called) goes_by))
          (λ n has. absurd has) exact)

  -- where a borrower goes on, no moved name is rooted in it
  pub reborrow_unmoved : (ws : List (List machine.Word)) (pos r q : Pos) (x y u : ℕ) (path : TypedTree) → is_anonymous (view_of s x) ≡ true → is_variable (object_at s x).kind ≡ true
      → home s depth x ≡ depth → Source s (object_at s x).of (Name q y path u) → Takes (waits_in path) ws [] → is_observer s x ≡ false → y ≡ x
      → (facts : List Fact) → Good facts → AllowsAll facts (acts (assigned_to s pos (Some x) (Name r x NoMore (object_at s x).of) (Name q y path u)))
      → (n : PlaceName) → Has (after (acts (assigned_to s pos (Some x) (Name r x NoMore (object_at s x).of) (Name q y path u))) facts) (Moved n) → n.root ≡ x → ⊥
  reborrow_unmoved ws pos r q x y u path view variable mine source_there takes borrows itself facts good allowed n has root =
      let e : TypedTree = Name q y path u in
      let target : TypedTree = Name r x NoMore (object_at s x).of in
      let from_it = observes t sees seeing settled own_law other alone in_formals v parts_named may frames none q x y u path view variable mine source_there in
      let is = view_kinds (is_variable (object_at s x).kind) (is_borrowing (view_of s x)) (is_observing (view_of s x)) view variable borrows in
      let same : assigned_to s pos (Some x) target e ≡ acts_in s path ++ record { pos = r; act = act.Reborrow x (name_of y path) } ∷ [] =
      ap (λ b. if b then index_acts s e ++ reborrow (acts_target_pos pos (written target)) x (source e)
      else (if is_observer s x then source_acts s e (observe s x) else stored_acts s target e)) is in
      let shown = is_shown ws x y u from_it.0 q r path (act.Reborrow x) from_it.1 takes facts good (subst (λ z. AllowsAll facts (acts z)) same allowed)
      (λ w called plain goes_by. reborrow_clears facts x w (ap (λ (n : PlaceName). n.root) called ∙ itself) (subst (λ n. Allows facts (act.Reborrow x n)) (sym called) goes_by)) in
      (reborrow_unused (home s depth) sees other v v (seen s m hands t.state.leaks) facts good.viewed x (name_of y path) shown.mine).unmoved n
      (moves_nothing (act.Reborrow x (name_of y path)) facts (λ k none_there. absurd none_there) n
      (subst (λ z. Has z (Moved n)) (ap (λ z. after (acts z) facts) same ∙ shown.behind) has)) root
