-- The sources of borrowers and observers give the same in memories that agree: what a view gets was
-- looked at, so it isn't gone.
use Rattle.std.proofs.Common.{◌≡◌, refl, sym, ap, ◌∙◌, subst, inl, inr, ℕ, Bool, true, false, List, [], ◌∷◌, ◌++◌, length, Some, if◌then◌else◌}
use Rattle.std.proofs.lemmas.Bool.{false≢true}
use Rattle.machine.specs.spark_base.declared.position.Pos.{Pos}
use Rattle.machine.specs.place_names.declared.act.Act.{Act}
use Rattle.machine.specs.place_names.declared.act.Act.TheVariants as act
use Rattle.machine.specs.place_names.declared.fact.Fact.{Fact}
use Rattle.machine.specs.place_names.Names.{Name as PlaceName}
use Rattle.machine.specs.type_definitions.declared.table.Shape.TheVariants as shape
use Rattle.machine.specs.type_definitions.Types.{shape_of, full, is_scalar, view_of as view_of_shape}
use Rattle.machine.specs.typed_tree.Trees.{TypedTree, Name, NoMore, More, Call as CallIn}
use Rattle.machine.specs.typed_tree.Trees.{Null as TypedNull}
use Rattle.machine.specs.flow_paths.Objects.{Typing, object_at, is_anonymous, is_borrower, is_borrowing, is_observing, is_observer, is_variable, view_of}
use Rattle.machine.specs.flow_paths.Names.{waiting as waits_in, name_of, source, written}
use Rattle.machine.specs.flow_paths.Acts.{acts_in, index_acts, source_acts, stored_acts, declared_acts, assigned_to, observe, reborrow, target_pos as acts_target_pos}
use Rattle.machine.specs.Words as machine
use Rattle.machine.specs.Memory.{Memory}
use Rattle.machine.specs.Evaluate.{Here, Now, AsView, Evaluated, Done, followed_by, evaluate, value, viewed, checked, steps_of, place_of, held_or_taken, variable_place, walked}
use Rattle.machine.specs.Evaluate as run
use Rattle.machine.specs.States.{Waiting, Outcome}
use Rattle.machine.specs.Step.{Turn, typing, here, start, Stored, taken_by, declare, assign}
use Rattle.machine.specs.Owners.{waiting_in}
use Rattle.soundness.specs.OwnedWays.Ways.{OfVariable, Loc, Way, Object, Reaches, Allows, AllowsAll}
use Rattle.soundness.specs.OwnedWays.Ways as ways
use Rattle.soundness.specs.PartOffsets.Parts.{IsSettled}
use Rattle.soundness.specs.Seen.{IsNear, content, trunk, seen, home}
use Rattle.soundness.specs.Typed.{OwnsByShape}
use Rattle.soundness.specs.TypedLaws.Needed.{Leads, Gives, Source}
use Rattle.soundness.proofs.Walks.{way_along}
use Rattle.soundness.proofs.Scalars.{acts, acts_append, allows_both, number_along}
use Rattle.soundness.proofs.Taking.{Takes}
use Rattle.soundness.proofs.Lasting.{keeps}
use Rattle.soundness.proofs.Numbers.{index_law}
use Rattle.soundness.specs.OwnedLoans.Views.{Around, Views}
use Rattle.soundness.proofs.OwnedLoans.Allowed.{Cleared, cleared_open, cleared_whole, borrow_clears, observe_clears, reborrow_clears}
use Rattle.soundness.specs.ViewedSoundness.Holds.{PartsAreNamed, IsOwners, Seeing}
use Rattle.soundness.proofs.ViewedSoundness.Stays.{Goes}
use Rattle.soundness.proofs.ViewedSoundness.Evaluated.{live_trunk}
use Rattle.viewed_steps.proofs.Sources.{view_shape, observer_only}
use Rattle.viewed_steps.proofs.Ended.{view_kinds}
use Rattle.recycled_runs.specs.ViewedFacts.NullPlaces.Agrees.{Agrees}
use Rattle.recycled_runs.specs.ViewedFacts.NullPlaces.Compares.{Compares}
use Rattle.recycled_runs.proofs.ViewedFacts.NullPlaces.Only.{OnlyOwners}
use Rattle.recycled_runs.proofs.ViewedFacts.NullPlaces.Walks.{SameNow, SameTo, simply}
use Rattle.recycled_runs.proofs.ViewedFacts.NullPlaces.Laws.{Premises, Behaves, Values, IsWholeAt, LeadsWhole}
use Rattle.recycled_runs.proofs.ViewedFacts.NullPlaces.Scalars.{view_same, steps_on, place_then, none_there}
use Rattle.recycled_runs.proofs.ViewedFacts.NullPlaces.Instructions.{SameStep, twin, declared_by, stored_same}
use Rattle.recycled_runs.proofs.ViewedFacts.ViewedNulls.Names.{name_same, access_found, view_whole}
use Rattle.recycled_runs.proofs.ViewedFacts.ViewedNulls.Viewed.{viewed_premises, anonymous_access, IsReadyIn, viewed_behaves, viewed_values}
use Rattle.viewed_steps.proofs.Views.{AreAccess}

-- The source of a view is a name of an access type.
source_of : (s : Typing) (want : ℕ) (q : Pos) (y u : ℕ) (path : TypedTree) → is_anonymous (full s.table want) ≡ true → Source s want (Name q y path u)
    → (d : ℕ) × (c : Bool) × (b : Bool) × Leads s (object_at s y).of path u × (shape_of s.table u ≡ shape.Access d c b)
unfolding Gives
source_of s want q y u path view (inl (is_view, (d, k, c, n, e, o, lead, source, wanted, fits))) = (d, c, n, lead, source)
source_of s want q y u path view (inr (lead, inl same)) =
    let sh = view_shape (shape_of s.table want) view in (sh.0, sh.1, sh.2, lead, same ∙ sh.3)
source_of s want q y u path view (inr (lead, inr scalar)) =
    let sh = view_shape (shape_of s.table want) view in
    absurd (let no : false ≡ true = sym (ap (λ z. is_scalar (view_of_shape z)) sh.3) ∙ scalar.1 in false≢true no)

module _ (t : Turn) (sees : ℕ → Bool) (seeing : Seeing (typing t) sees) (settled : IsSettled (typing t).table) (own_law : OwnsByShape (typing t).table) (other : Around (home (typing t) (length t.outer)))
    (alone : (w : Way) → IsNear (length t.outer) w → other.gone w → ⊥) (in_formals : AreAccess (typing t)) (v : Views)
    (parts_named : PartsAreNamed (typing t).table) (facts : List Fact)
    (so : IsReadyIn (here t) sees seeing settled t.state.leaks other alone in_formals index_law own_law v parts_named t.state.memory (waiting_in t.state) facts)
    (only : OnlyOwners (typing t) t.state.memory) (n : Memory) (agrees : Agrees t.state.memory n) where
  abbrev s : Typing
  s = typing t

  abbrev h : Here
  h = here t

  abbrev hands : List Waiting
  hands = waiting_in t.state

  abbrev m : Memory
  m = t.state.memory

  abbrev waits : List (List machine.Word)
  waits = (start t).waits

  abbrev at : Now
  at = record { memory = t.state.memory; waits = (start t).waits }

  abbrev asks : Premises h
  asks = viewed_premises h sees parts_named

  abbrev ready_in : Memory → List Waiting → List Fact → Type 0
  ready_in m' hands' known = IsReadyIn h sees seeing settled t.state.leaks other alone in_formals index_law own_law v parts_named m' hands' known

  laws : Values h asks ready_in
  laws = viewed_values h sees seeing settled t.state.leaks other alone in_formals index_law own_law v parts_named

  law : Behaves h asks m hands facts
  law = viewed_behaves h sees seeing settled t.state.leaks other alone in_formals index_law own_law v parts_named m hands facts so only

  live : (w : Way) (l : Loc) → IsOwners s w → Reaches (seen s m hands t.state.leaks) w l → (content s m hands (trunk l)).owns ≡ true
  live = live_trunk h sees seeing settled t.state.leaks [] other alone (keeps s settled own_law) index_law own_law v parts_named m hands so.viewed.owned

  abbrev variable : ℕ → Way
  variable x = Object (OfVariable (home s h.frame x) x)

  -- what is looked at, unless through an observer, is neither moved nor borrowed
  abbrev Clears : ℕ → TypedTree → Type 0
  Clears y path = (w : Way) → ways.name_of w ≡ name_of y path → sees y ≡ false → Cleared facts w

  leads_to : (on : List (List machine.Word)) (y u d : ℕ) (c b : Bool) (path : TypedTree) (way : List run.Step) → Goes s.table (object_at s y).of u path way
      → shape_of s.table u ≡ shape.Access d c b → Clears y path → LeadsWhole h asks m hands facts on y u way
  leads_to on y u d c b path way goes is clears = by_kind b is
    where
      w : Way
      w = way_along way (variable y)

      called : ways.name_of (way_along way (variable y)) ≡ name_of y path
      called = (λ j. record { root = number_along way (variable y) j; sels = goes.sels (variable y) j })

      same : (n' : Now) → SameNow s (record { memory = m; waits = on }) n' → SameTo s (walked s way (variable_place h y) (record { memory = m; waits = on })) (walked s way (variable_place h y) n')
      same =
          name_same h sees seeing settled hands t.state.leaks m on other facts v so.kept so.viewed so.holds alone live only in_formals y u way goes.lead
          (λ e. cleared_open facts w (clears w called e))

      by_kind : (b : Bool) → shape_of s.table u ≡ shape.Access d c b → LeadsWhole h asks m hands facts on y u way
      by_kind true is = (
        access_found h sees seeing settled hands t.state.leaks m on other facts v so.kept so.viewed so.holds alone live only in_formals index_law own_law parts_named y u d c way goes.lead is
            (λ e. cleared_open facts w (clears w called e)) (λ e. cleared_whole facts w (clears w called e)),
        same,
      )
      by_kind false is = (
        view_whole h sees seeing settled hands t.state.leaks m on other facts v so.kept so.viewed so.holds alone live only in_formals y u way goes.lead
            (ap (λ z. is_anonymous (view_of_shape z)) is ∙ anonymous_access c) (λ e. cleared_open facts w (clears w called e)),
        same,
      )

  source_same : (on : List (List machine.Word)) (p : Pos) (y u d : ℕ) (c b : Bool) (path : TypedTree) → Leads s (object_at s y).of path u
      → shape_of s.table u ≡ shape.Access d c b → Takes (waits_in path) waits on → Compares s path
      → AllowsAll facts (acts (acts_in s path)) → Clears y path
      → (n' : Now) → SameNow s at n' → SameTo s (evaluate h AsView (Name p y path u) at) (evaluate h AsView (Name p y path u) n')
  unfolding evaluate
  source_same on p y u d c b path lead is takes compares allowed clears n' same =
      place_then h settled own_law asks m hands facts law waits on y u path (held_or_taken h AsView) (held_or_taken h AsView) (IsWholeAt h asks m hands facts u)
      (λ way goes. leads_to on y u d c b path way goes is clears)
      (law.steps (object_at s y).of u path lead waits on takes tt allowed).0 n'
      (steps_on h settled own_law asks m hands facts law (object_at s y).of u path lead waits on takes tt compares allowed n' same)
      (λ k i j found now. view_same h k i j (none_there h settled own_law asks m hands facts law on u k i found) now)

  at_start : SameNow s at (start (twin t n))
  at_start = (agrees, refl, only)

  -- A source under its act.
  pub taken_same : (on : List (List machine.Word)) (x u' : ℕ) (p : Pos) (y u : ℕ) (path : TypedTree) (a : PlaceName → Act) → is_anonymous (full (typing t).table u') ≡ true
      → Source (typing t) u' (Name p y path u) → Takes (waits_in path) (start t).waits on → Compares (typing t) path
      → AllowsAll facts (acts (acts_in (typing t) path) ++ a (name_of y path) ∷ [])
      → ((w : Way) → ways.name_of w ≡ name_of y path → sees y ≡ false → Allows facts (a (name_of y path)) → Cleared facts w)
      → SameTo (typing t) (taken_by t u' (Name p y path u) (record { memory = t.state.memory; waits = (start t).waits })) (taken_by t u' (Name p y path u) (start (twin t n)))
  taken_same on x u' p y u path a view source_there takes compares allowed clears =
      let from = source_of s u' p y u path view source_there in
      let e : TypedTree = Name p y path u in
      let each = allows_both facts (acts (acts_in s path)) (a (name_of y path) ∷ []) allowed in
      let stay = (law.steps (object_at s y).of u path from.3 waits on takes tt each.0).1 in
      let mine : Allows facts (a (name_of y path)) = subst (λ z. Allows z (a (name_of y path))) stay each.1.0 in
      subst (λ b. SameTo s (if b then viewed h e at else followed_by (value h e at) (checked h u'))
      (if b then viewed h e (start (twin t n)) else followed_by (value h e (start (twin t n))) (checked h u'))) (sym view)
      (source_same on p y u from.0 from.1 from.2 path from.3 from.4 takes compares each.0 (λ w called plain. clears w called plain mine) (start (twin t n)) at_start)

  abbrev Same : Outcome → Outcome → Type 0
  Same x y = SameStep t x y

  borrows : (x : ℕ) → is_anonymous (view_of s x) ≡ true → is_variable (object_at s x).kind ≡ true → is_observer s x ≡ false → is_borrower s x ≡ true
  borrows x view variable_there plain =
      view_kinds (is_variable (object_at s x).kind) (is_borrowing (view_of s x)) (is_observing (view_of s x)) view variable_there plain

  declared_at : (x : ℕ) (e : TypedTree) → SameTo s (taken_by t (object_at s x).of e at) (taken_by t (object_at s x).of e (start (twin t n)))
      → Same (declare t x (More e NoMore)) (declare (twin t n) x (More e NoMore))
  declared_at x e same = declared_by t settled own_law asks ready_in laws facts so only n agrees x (More e NoMore) same

  -- a view is declared
  pub view_declared_same : (on : List (List machine.Word)) (q : Pos) (x y u : ℕ) (path : TypedTree) → is_anonymous (view_of (typing t) x) ≡ true → is_variable (object_at (typing t) x).kind ≡ true
      → Source (typing t) (object_at (typing t) x).of (Name q y path u) → Takes (waits_in path) (start t).waits on
      → Compares (typing t) path → AllowsAll facts (acts (declared_acts (typing t) x (More (Name q y path u) NoMore)))
      → SameStep t (declare t x (More (Name q y path u) NoMore)) (declare (twin t n) x (More (Name q y path u) NoMore))
  view_declared_same on q x y u path view variable_there source_there takes compares allowed = by_kind (is_observer s x) refl
    where
      e : TypedTree
      e = Name q y path u

      by_kind : (b : Bool) → is_observer s x ≡ b → Same (declare t x (More (Name q y path u) NoMore)) (declare (twin t n) x (More (Name q y path u) NoMore))
      by_kind true sight =
          let same : declared_acts s x (More (Name q y path u) NoMore) ≡ source_acts s (Name q y path u) (observe s x) =
          ap (λ b. if b then source_acts s (Name q y path u) (act.Borrow x)
          else (if is_observer s x then source_acts s (Name q y path u) (observe s x) else acts_in s (More (Name q y path u) NoMore))) (observer_only s x sight)
          ∙ ap (λ b. if b then source_acts s (Name q y path u) (observe s x) else acts_in s (More (Name q y path u) NoMore)) sight in
          declared_at x (Name q y path u)
          (taken_same on x (object_at s x).of q y u path (observe s x) view source_there takes compares
          (subst (AllowsAll facts) (ap acts same ∙ acts_append (acts_in s path) (record { pos = q; act = observe s x (name_of y path) } ∷ [])) allowed)
          (λ w called plain mine. observe_clears facts x (is_observer s y) w (subst (λ z. Allows facts (act.Observe x z (is_observer s y))) (sym called) mine)))
      by_kind false plain_x =
          let same : declared_acts s x (More (Name q y path u) NoMore) ≡ source_acts s (Name q y path u) (act.Borrow x) =
          ap (λ b. if b then source_acts s (Name q y path u) (act.Borrow x)
          else (if is_observer s x then source_acts s (Name q y path u) (observe s x) else acts_in s (More (Name q y path u) NoMore))) (borrows x view variable_there plain_x) in
          declared_at x (Name q y path u)
          (taken_same on x (object_at s x).of q y u path (act.Borrow x) view source_there takes compares
          (subst (AllowsAll facts) (ap acts same ∙ acts_append (acts_in s path) (record { pos = q; act = act.Borrow x (name_of y path) } ∷ [])) allowed)
          (λ w called plain mine. borrow_clears facts x w (subst (λ z. Allows facts (act.Borrow x z)) (sym called) mine)))

  -- a view is assigned
  then_stored : (r : Pos) (x u : ℕ) (y z : Evaluated (List machine.Word)) → SameTo s y z
      → SameTo {A = Stored} s (followed_by y (λ ws now. followed_by (place_of h (Name r x NoMore u) now) (λ k now. Done (record { words = ws; place = k }) now)))
      (followed_by z (λ ws now. followed_by (place_of h (Name r x NoMore u) now) (λ k now. Done (record { words = ws; place = k }) now)))
  unfolding steps_of
  then_stored r x u y z same =
      simply s y z (λ ws now. followed_by (place_of h (Name r x NoMore u) now) (λ k now. Done (record { words = ws; place = k }) now))
      (λ ws now. followed_by (place_of h (Name r x NoMore u) now) (λ k now. Done (record { words = ws; place = k }) now)) same (λ ws i j now. (refl, now))

  assigned_at : (r : Pos) (x : ℕ) (e : TypedTree) → SameTo s (taken_by t (object_at s x).of e at) (taken_by t (object_at s x).of e (start (twin t n)))
      → Same (assign t (Name r x NoMore (object_at s x).of) e) (assign (twin t n) (Name r x NoMore (object_at s x).of) e)
  assigned_at r x e same =
      stored_same t settled own_law asks ready_in laws facts so only n agrees (Name r x NoMore (object_at s x).of) _ _
      (then_stored r x (object_at s x).of (taken_by t (object_at s x).of e at) (taken_by t (object_at s x).of e (start (twin t n))) same)

  -- with what a call gave
  pub call_taken : (u' : ℕ) (r : Pos) (k : ℕ) (actuals : TypedTree) → is_anonymous (full (typing t).table u') ≡ true
      → SameTo (typing t) (taken_by t u' (CallIn r k actuals) (record { memory = t.state.memory; waits = (start t).waits })) (taken_by t u' (CallIn r k actuals) (start (twin t n)))
  unfolding evaluate
  call_taken u' r k actuals view =
      subst (λ b. SameTo s (if b then viewed h (CallIn r k actuals) at else followed_by (value h (CallIn r k actuals) at) (checked h u'))
      (if b then viewed h (CallIn r k actuals) (start (twin t n)) else followed_by (value h (CallIn r k actuals) (start (twin t n))) (checked h u'))) (sym view)
      (refl, (agrees, refl, only))

  -- null
  pub null_taken : (u' : ℕ) → is_anonymous (full (typing t).table u') ≡ true
      → SameTo (typing t) (taken_by t u' TypedNull (record { memory = t.state.memory; waits = (start t).waits })) (taken_by t u' TypedNull (start (twin t n)))
  unfolding evaluate
  null_taken u' view =
      subst (λ b. SameTo s (if b then viewed h TypedNull at else followed_by (value h TypedNull at) (checked h u'))
      (if b then viewed h TypedNull (start (twin t n)) else followed_by (value h TypedNull (start (twin t n))) (checked h u'))) (sym view)
      (refl, at_start)

  pub call_declared_same : (x : ℕ) (r : Pos) (k : ℕ) (actuals : TypedTree) → is_anonymous (view_of (typing t) x) ≡ true
      → SameStep t (declare t x (More (CallIn r k actuals) NoMore)) (declare (twin t n) x (More (CallIn r k actuals) NoMore))
  call_declared_same x r k actuals view = declared_at x (CallIn r k actuals) (call_taken (object_at s x).of r k actuals view)

  pub call_assigned_same : (q : Pos) (x : ℕ) (r : Pos) (k : ℕ) (actuals : TypedTree) → is_anonymous (view_of (typing t) x) ≡ true
      → SameStep t (assign t (Name q x NoMore (object_at (typing t) x).of) (CallIn r k actuals)) (assign (twin t n) (Name q x NoMore (object_at (typing t) x).of) (CallIn r k actuals))
  call_assigned_same q x r k actuals view = assigned_at q x (CallIn r k actuals) (call_taken (object_at s x).of r k actuals view)

  pub view_assigned_same : (on : List (List machine.Word)) (pos r q : Pos) (x y u : ℕ) (path : TypedTree) → is_anonymous (view_of (typing t) x) ≡ true → is_variable (object_at (typing t) x).kind ≡ true
      → Source (typing t) (object_at (typing t) x).of (Name q y path u) → Takes (waits_in path) (start t).waits on
      → (is_observer (typing t) x ≡ false → y ≡ x) → Compares (typing t) path
      → AllowsAll facts (acts (assigned_to (typing t) pos (Some x) (Name r x NoMore (object_at (typing t) x).of) (Name q y path u)))
      → SameStep t (assign t (Name r x NoMore (object_at (typing t) x).of) (Name q y path u)) (assign (twin t n) (Name r x NoMore (object_at (typing t) x).of) (Name q y path u))
  view_assigned_same on pos r q x y u path view variable_there source_there takes itself compares allowed = by_kind (is_observer s x) refl
    where
      target : TypedTree
      target = Name r x NoMore (object_at s x).of

      by_kind : (b : Bool) → is_observer s x ≡ b
          → Same (assign t (Name r x NoMore (object_at s x).of) (Name q y path u)) (assign (twin t n) (Name r x NoMore (object_at s x).of) (Name q y path u))
      by_kind true sight =
          let e : TypedTree = Name q y path u in
          let same : assigned_to s pos (Some x) (Name r x NoMore (object_at s x).of) e ≡ acts_in s path ++ record { pos = q; act = observe s x (name_of y path) } ∷ [] =
          ap (λ b. if b then index_acts s e ++ reborrow (acts_target_pos pos (written (Name r x NoMore (object_at s x).of))) x (source e)
          else (if is_observer s x then source_acts s e (observe s x) else stored_acts s (Name r x NoMore (object_at s x).of) e)) (observer_only s x sight)
          ∙ ap (λ b. if b then source_acts s e (observe s x) else stored_acts s (Name r x NoMore (object_at s x).of) e) sight in
          assigned_at r x e
          (taken_same on x (object_at s x).of q y u path (observe s x) view source_there takes compares
          (subst (AllowsAll facts) (ap acts same ∙ acts_append (acts_in s path) (record { pos = q; act = observe s x (name_of y path) } ∷ [])) allowed)
          (λ w called plain mine. observe_clears facts x (is_observer s y) w (subst (λ z. Allows facts (act.Observe x z (is_observer s y))) (sym called) mine)))
      by_kind false plain_x =
          let e : TypedTree = Name q y path u in
          let same : assigned_to s pos (Some x) (Name r x NoMore (object_at s x).of) e ≡ acts_in s path ++ record { pos = r; act = act.Reborrow x (name_of y path) } ∷ [] =
          ap (λ b. if b then index_acts s e ++ reborrow (acts_target_pos pos (written (Name r x NoMore (object_at s x).of))) x (source e)
          else (if is_observer s x then source_acts s e (observe s x) else stored_acts s (Name r x NoMore (object_at s x).of) e)) (borrows x view variable_there plain_x) in
          assigned_at r x e
          (taken_same on x (object_at s x).of q y u path (act.Reborrow x) view source_there takes compares
          (subst (AllowsAll facts) (ap acts same ∙ acts_append (acts_in s path) (record { pos = r; act = act.Reborrow x (name_of y path) } ∷ [])) allowed)
          (λ w called plain mine. reborrow_clears facts x w (ap (λ (z : PlaceName). z.root) called ∙ itself plain_x)
          (subst (λ z. Allows facts (act.Reborrow x z)) (sym called) mine)))
