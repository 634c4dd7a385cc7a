-- What waits is of no anonymous access type, but where a traversal function has given it; and from step to
-- step its first formal sees what it saw.
use Rattle.machine.specs.flow_paths.Views.{traversed_formal, traversed_of}
use Rattle.viewed_steps.proofs.Ended.{view_kinds}
use Rattle.soundness.proofs.Scalars.{acts, acts_append}
use Rattle.machine.specs.place_names.declared.act.Act.{Act}
use Rattle.machine.specs.place_names.Names.{Name as PlaceName}
use Rattle.std.proofs.Common.{◌≡◌, refl, sym, ap, ◌∙◌, subst, ◌⊎◌, inl, inr, ℕ, zero, suc, ◌+◌, Bool, true, false, List, [], ◌∷◌, ◌++◌, drop, Some, None, if◌then◌else◌, is_some}
use Rattle.std.proofs.lemmas.Bool.{false≢true, true≢false}
use Rattle.machine.specs.spark_base.declared.position.Pos.{Pos}
use Rattle.machine.specs.spark_base.Lists.{Has}
use Rattle.soundness.proofs.Lists.{Has-filter, Has-append_right}
use Rattle.machine.specs.type_definitions.Types.{Table, full, is_scalar, shape_of, is_nil}
use Rattle.machine.specs.typed_tree.Trees.{TypedTree, NoMore, More, Name, Call as CallIn}
use Rattle.machine.specs.typed_tree.Programs.{TypedProgram}
use Rattle.machine.specs.flow_paths.Instructions.{Instruction, Skip, Declare, Assign, Call, Output, Input, Release, Test, Choose, Start, Next, Evaluate, LeaveLoop, Hold, EndScope, Finish, Fall}
use Rattle.machine.specs.place_names.declared.act.Act.TheVariants as act
use Rattle.machine.specs.flow_paths.Acts.{acts_in, stored_acts, declared_acts, assigned_to, source_acts, index_acts, reborrow, observe, target_pos as acts_target_pos}
use Rattle.machine.specs.flow_paths.Objects.{Typing, object_at, is_anonymous, view_of, is_variable, is_borrowing, is_observing, is_borrower, is_observer, traverses}
use Rattle.machine.specs.flow_paths.Names.{waiting as waits_in, name_of, written, source}
use Rattle.machine.specs.flow_paths.Points.{NamedPoint}
use Rattle.machine.specs.flow_paths.Laid.{FlowSub, FlowProgram, flow_typing, flow_program}
use Rattle.machine.specs.flow_paths.Scopes.{taken, brought}
use Rattle.machine.specs.States.{Waiting}
use Rattle.soundness.specs.OwnedWays.Ways.{View}
use Rattle.soundness.specs.Sound.{IsNoCall, is_temporary_object}
use Rattle.soundness.specs.Ready.{Fills}
use Rattle.soundness.proofs.Waits.{drop_none, no_waits}
use Rattle.viewed_steps.specs.Awaited.{Fits, AreFor, temporaries_of, FillsTyped, IsTakenBy, TakesAlone}
use Rattle.viewed_steps.specs.Traversals.{IsSourceName, IsSourceIn}
use Rattle.viewed_steps.specs.Sound.{ViewStage, IsGivenIn, NoneGiven, IsGivenBelow, AreGivenIn}
use Rattle.viewed_steps.specs.Ready.{AreNamedIn}
use Rattle.viewed_steps.proofs.Sources.{view_scalar, observer_only}
use Rattle.viewed_steps.proofs.Parted.{list_first}

-- ---- temporaries

module _ (s : Typing) where
  -- a value whose temporary is of no anonymous type is of none
  pub none_of_named : (waits : List Waiting) (xs : List ℕ) → AreFor s waits xs → ((x : ℕ) → Has xs x → is_anonymous (view_of s x) ≡ false)
      → (w : Waiting) (others : List Waiting) → waits ≡ w ∷ others → is_anonymous (full s.table w.of) ≡ true → ⊥
  none_of_named [] xs all named w others is view = absurd (true≢false (ap is_nil is))
  none_of_named (v ∷ waits) [] all named w others is view = absurd all
  none_of_named (v ∷ waits) (x ∷ xs) ((fits, long), all) named w others is view = by_kind fits
    where
      same : v ≡ w
      same = list_first is

      there : is_anonymous (full s.table v.of) ≡ true
      there = ap (λ (z : Waiting). is_anonymous (full s.table z.of)) same ∙ view

      by_kind : Fits s v.of x → ⊥
      by_kind (inl scalar) = view_scalar (shape_of s.table v.of) there scalar.0
      by_kind (inr of) = (let no : false ≡ true = sym (named x (inl refl)) ∙ ap (λ z. is_anonymous (full s.table z)) (sym of) ∙ there in absurd (false≢true no))

  pub named_temporaries : (xs : List ℕ) → AreNamedIn s xs → (x : ℕ) → Has (temporaries_of s xs) x → is_anonymous (view_of s x) ≡ false
  named_temporaries xs named x has = (let two = Has-filter (is_temporary_object s) xs x has in named x two.0 two.1)

  -- one value is taken that is taken alone
  pub one_taken : (i : Instruction) (call : TypedTree) (q : Pos) (n : ℕ) (actuals : TypedTree) → call ≡ CallIn q n actuals → IsTakenBy i call → taken i ≡ 1
  unfolding waits_in
  one_taken i call q n actuals e (inl (y, is)) = ap taken is ∙ ap (λ c. taken (Declare y (More c NoMore))) e
  one_taken i call q n actuals e (inr (inl (r, y, steps, u, is, calls))) = ap taken is ∙ ap (λ c. taken (Assign (Name r y steps u) c)) e ∙ ap (λ k. 1 + k) (no_waits steps calls)
  one_taken i call q n actuals e (inr (inr is)) = ap taken is ∙ ap (λ c. taken (Hold (More c NoMore))) e

  dropped : (n : ℕ) (xs : List ℕ) (x : ℕ) → Has (drop n xs) x → Has xs x
  dropped zero [] x has = has
  dropped zero (y ∷ xs) x has = has
  dropped (suc n) [] x has = has
  dropped (suc n) (y ∷ xs) x has = inr (dropped n xs x has)

  -- What is left after a point takes its values is of no anonymous type.
  pub named_left : (p : NamedPoint) → AreNamedIn s p.scope ⊎ ((alone : TakesAlone s p) × AreNamedIn s alone.1) → AreNamedIn s (drop (taken p.instr) p.scope)
  named_left p (inl named) x has = named x (dropped (taken p.instr) p.scope x has)
  named_left p (inr (alone, named)) x has =
      named x (subst (λ z. Has z x)
      ((λ j. drop (one_taken p.instr (CallIn alone.3 alone.4 alone.5) alone.3 alone.4 alone.5 refl alone.8 j) (alone.2 j)) ∙ drop_none alone.1) has)

  brings : (y : ℕ) (xs : List ℕ) → (is_temporary_object s y ≡ true → is_anonymous (view_of s y) ≡ false) → AreNamedIn s xs → AreNamedIn s (y ∷ xs)
  brings y xs own named x (inl same) temporary =
      subst (λ z. is_anonymous (view_of s z) ≡ false) same (own (ap (is_temporary_object s) same ∙ temporary))
  brings y xs own named x (inr has) temporary = named x has temporary

  no_temporary : (y : ℕ) → is_temporary_object s y ≡ false → is_temporary_object s y ≡ true → is_anonymous (view_of s y) ≡ false
  no_temporary y none some = (let no : false ≡ true = sym none ∙ some in absurd (false≢true no))

  scalar_named : (y : ℕ) → is_scalar (full s.table (object_at s y).of) ≡ true → is_anonymous (view_of s y) ≡ false
  scalar_named y scalar = by_kind (is_anonymous (view_of s y)) refl
    where
      by_kind : (b : Bool) → is_anonymous (view_of s y) ≡ b → b ≡ false
      by_kind false e = refl
      by_kind true e = absurd (view_scalar (shape_of s.table (object_at s y).of) e scalar)

module _ (program : FlowProgram) where
  abbrev t : Typing
  t = flow_typing program

  -- nor is what an instruction brings
  pub named_brought : (i : Instruction) (xs : List ℕ) → IsNoCall i → Fills t i xs → FillsTyped program i xs → AreNamedIn t xs → AreNamedIn t (brought i xs)
  named_brought Skip xs calls fills typed named = named
  named_brought (Declare x v) xs calls fills typed named = brings t x xs (no_temporary t x fills) named
  named_brought (Assign target e) xs calls fills typed named = named
  named_brought (Call sub actuals None) xs calls fills typed named = named
  named_brought (Call sub actuals (Some r)) xs calls fills typed named = absurd (calls sub actuals (Some r) refl)
  named_brought (Output text line) xs calls fills typed named = named
  named_brought (Input target) xs calls fills typed named = named
  named_brought (Release e) xs calls fills typed named = named
  named_brought (Test e) xs calls fills typed named = named
  named_brought (Choose e choices) xs calls fills typed named = named
  named_brought (Start x reversed low high) xs calls fills typed named = brings t x xs (no_temporary t x fills) named
  named_brought (Next x reversed low high) xs calls fills typed named = named
  named_brought (Evaluate x e None) xs calls fills typed named = named
  named_brought (Evaluate x e (Some op)) xs calls fills typed named = brings t x xs (λ temporary. scalar_named t x typed.1) named
  named_brought (LeaveLoop e) xs calls fills typed named = named
  named_brought (Hold v) xs calls fills typed named = named
  named_brought (EndScope x) xs calls fills typed named = λ y has. named y (dropped t 1 xs y has)
  named_brought Finish xs calls fills typed named = named
  named_brought Fall xs calls fills typed named = named

-- ---- sources in the text

-- one of the acts of a source is on its name
pub source_named : (s : Typing) (of : ℕ) (e : TypedTree) (q : Pos) (y : ℕ) (path : TypedTree) (u : ℕ) → IsSourceName s of e q y path u → (a : PlaceName → Act)
    → Has (acts (source_acts s e a)) (a (name_of y path))
source_named s of e q y path u (inl is) a =
    subst (λ z. Has (acts (source_acts s z a)) (a (name_of y path))) (sym is)
    (subst (λ z. Has z (a (name_of y path))) (sym (acts_append (acts_in s path) (record { pos = q; act = a (name_of y path) } ∷ [])))
    (Has-append_right (acts (acts_in s path)) (a (name_of y path) ∷ []) (a (name_of y path)) (inl refl)))
source_named s of e q y path u (inr (r, n, more, is, gives)) a =
    subst (λ z. Has (acts (source_acts s z a)) (a (name_of y path))) (sym is) (inl refl)

module _ (s : Typing) (x : ℕ) (anonymous : is_anonymous (view_of s x) ≡ true) (variable : is_variable (object_at s x).kind ≡ true)
    (e : TypedTree) (q : Pos) (y : ℕ) (path : TypedTree) (u : ℕ) (named : IsSourceName s (object_at s x).of e q y path u) (all : List Act) where
  borrows : is_observer s x ≡ false → is_borrower s x ≡ true
  borrows none = view_kinds (is_variable (object_at s x).kind) (is_borrowing (view_of s x)) (is_observing (view_of s x)) anonymous variable none

  -- a view is declared from a source in the text
  pub declared_source : ((a : Act) → Has (acts (declared_acts s x (More e NoMore))) a → Has all a) → IsSourceIn all x y
  declared_source within = by_kind (is_observer s x) refl
    where
      by_kind : (b : Bool) → is_observer s x ≡ b → IsSourceIn all x y
      by_kind true sight = inr (
        name_of y path,
        refl,
        inr (
          is_observer s y,
          within (act.Observe x (name_of y path) (is_observer s y)) (subst (λ z. Has (acts z) (act.Observe x (name_of y path) (is_observer s y)))
              (sym (ap (λ b. if b then source_acts s e (act.Borrow x) else (if is_observer s x then source_acts s e (observe s x) else acts_in s (More e NoMore))) (observer_only s x sight)
              ∙ ap (λ b. if b then source_acts s e (observe s x) else acts_in s (More e NoMore)) sight))
              (source_named s (object_at s x).of e q y path u named (observe s x))),
        ),
      )
      by_kind false none = inr (
        name_of y path,
        refl,
        inl (within (act.Borrow x (name_of y path)) (subst (λ z. Has (acts z) (act.Borrow x (name_of y path)))
            (sym (ap (λ b. if b then source_acts s e (act.Borrow x) else (if is_observer s x then source_acts s e (observe s x) else acts_in s (More e NoMore))) (borrows none)))
            (source_named s (object_at s x).of e q y path u named (act.Borrow x)))),
      )

  -- one is assigned from itself, or from such a source
  pub assigned_source : (pos r : Pos) → (is_observer s x ≡ false → y ≡ x)
      → ((a : Act) → Has (acts (assigned_to s pos (Some x) (Name r x NoMore (object_at s x).of) e)) a → Has all a) → IsSourceIn all x y
  assigned_source pos r itself within = by_kind (is_observer s x) refl
    where
      target : TypedTree
      target = Name r x NoMore (object_at s x).of

      by_kind : (b : Bool) → is_observer s x ≡ b → IsSourceIn all x y
      by_kind false none = inl (itself none)
      by_kind true sight = inr (
        name_of y path,
        refl,
        inr (
          is_observer s y,
          within (act.Observe x (name_of y path) (is_observer s y)) (subst (λ z. Has (acts z) (act.Observe x (name_of y path) (is_observer s y)))
              (sym (ap (λ b. if b then index_acts s e ++ reborrow (acts_target_pos pos (written target)) x (source e)
              else (if is_observer s x then source_acts s e (observe s x) else stored_acts s target e)) (observer_only s x sight)
              ∙ ap (λ b. if b then source_acts s e (observe s x) else stored_acts s target e) sight))
              (source_named s (object_at s x).of e q y path u named (observe s x))),
        ),
      )

-- ---- frames

module _ (table : Table) (typed : TypedProgram) where
  abbrev s : Typing
  s = flow_typing (flow_program table typed)

  -- a frame in which nothing of an anonymous type waits
  pub none_given : (view : View) (g : ViewStage) → NoneGiven s g → IsGivenIn table typed view g
  none_given view g none named of_sub p at w others is seen = absurd (none w others is seen)

  pub named_given : (g : ViewStage) (xs : List ℕ) → AreFor s g.stage.frame.waits (temporaries_of s xs) → AreNamedIn s xs → NoneGiven s g
  named_given g xs all named w others is seen = none_of_named s g.stage.frame.waits (temporaries_of s xs) all (named_temporaries s xs named) w others is seen

  pub empty_given : (g : ViewStage) → g.stage.frame.waits ≡ [] → NoneGiven s g
  empty_given g none w others is seen = (let no : [] ≡ w ∷ others = sym none ∙ is in absurd (true≢false (ap is_nil no)))

  -- where the innermost frame goes on, and has given no result, or could not go on so after it
  pub given_on : (view next : View) (before later : ViewStage) (older : List ViewStage) → IsGivenIn table typed next later
      → (((g : ViewStage) → IsGivenBelow table typed view before g → IsGivenBelow table typed next later g))
      → AreGivenIn table typed view (before ∷ older) → AreGivenIn table typed next (later ∷ older)
  given_on view next before later [] mine below given = mine
  given_on view next before later (g ∷ older) mine below given = (mine, below g given.1, given.2)

  -- nothing waits in a frame that begins, or in that of the package objects
  pub begins_given : (view : View) (e g : ViewStage) → e.stage.frame.waits ≡ [] → g.stage.frame.waits ≡ [] → AreGivenIn table typed view (e ∷ (g ∷ []))
  begins_given view e g none nothing = (none_given view e (empty_given e none), inl (empty_given g nothing), tt)

  -- a procedure traverses nothing
  pub procedure_traverses : (sub : FlowSub) (f : ℕ) → sub.result ≡ None → traversed_formal s sub ≡ Some f → ⊥
  procedure_traverses sub f none traversed = (let is : None ≡ Some f = sym (ap (λ r. traversed_of (traverses s.table r) sub.formals) none) ∙ traversed in absurd (false≢true (ap is_some is)))
