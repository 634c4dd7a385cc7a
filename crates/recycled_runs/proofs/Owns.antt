-- In programs that are ready, names own what is checked for leaks.
use Rattle.std.proofs.Common.{◌≡◌, refl, sym, ap, ◌∙◌, subst, inl, inr, ◌⊎◌, ℕ, zero, suc, ◌<◌, arith, Bool, true, false, not, ◌&&◌, ◌||◌, List, [], ◌∷◌, ◌++◌, map, length, get_or, if◌then◌else◌}
use Rattle.std.specs.Prelude.{is_some}
use Rattle.std.proofs.lemmas.Bool.{false≢true, true≢false}
use Rattle.machine.specs.spark_base.Lists.{Has}
use Rattle.machine.specs.spark_base.declared.position.Pos.{Pos}
use Rattle.machine.specs.place_names.declared.act.Act.{Act}
use Rattle.machine.specs.place_names.declared.act.Act.TheVariants as act
use Rattle.machine.specs.place_names.declared.act.Mode.{Mode}
use Rattle.machine.specs.place_names.declared.act.Mode.TheVariants as mode
use Rattle.machine.specs.place_names.declared.act.Placed.{Placed}
use Rattle.machine.specs.type_definitions.declared.table.Shape.TheVariants as shape
use Rattle.machine.specs.type_definitions.Types.{Table, full, is_scalar, is_owning, is_nil, components_of}
use Rattle.machine.specs.typed_tree.declared.object.ObjectKind.{ObjectKind}
use Rattle.machine.specs.typed_tree.declared.object.ObjectKind.TheVariants as object_kind
use Rattle.machine.specs.typed_tree.Trees.{TypedTree, Name, Component as IntoComponent, Designated, Element, NoMore, More}
use Rattle.machine.specs.typed_tree.Programs.{TypedProgram}
use Rattle.machine.specs.flow_paths.declared.report.Effects.{Effects}
use Rattle.machine.specs.flow_paths.Instructions.{Instruction, Assign, Call, Release, EndScope}
use Rattle.machine.specs.flow_paths.Names.{whole, name_of, selectors, written, source}
use Rattle.machine.specs.flow_paths.Acts.{naming, index_acts, source_acts, observe, reborrow, target_pos, before_write, stored_acts, assigned_to, acts_of}
use Rattle.machine.specs.flow_paths.Objects.{Typing, Signature, Passing, passing, passing_by, first_traversed, passings, traverses, object_at, sub_at, view_of, is_borrowing, is_observing, is_variable, is_formal_kind, is_formal, is_borrower, is_observer}
use Rattle.machine.specs.flow_paths.Points.{NamedPoint, FlowPoint}
use Rattle.machine.specs.flow_paths.Laid.{FlowSub, FlowProgram, NamedSub, flow_sub, typing_of, flow_named, flow_typing, flow_program}
use Rattle.machine.specs.Owners.{is_in, is_in_formal}
use Rattle.machine.specs.States.{no_sub, sub_of}
use Rattle.machine.specs.Run.{no_point}
use Rattle.soundness.specs.Seen.{is_view_formal}
use Rattle.soundness.specs.Ready.{root_of}
use Rattle.soundness.specs.Sound.{goes_through_none}
use Rattle.soundness.proofs.Points.{frame_in, flow_at}
use Rattle.soundness.proofs.Passing.{signature_is}
use Rattle.soundness.proofs.Typings.{flow_agrees, formal_same}
use Rattle.soundness.specs.TypedLaws.Needed.{Leads, IsPlace, IsFine}
use Rattle.soundness.specs.ViewedSoundness.Holds.{is_bundle, is_given, is_fixed, AllKeep, IsAccess}
use Rattle.soundness.proofs.ViewedSoundness.Evaluated.{keep_both}
use Rattle.viewed_steps.specs.Ready.{IsReady, IsActualTo, AreActualsTo, AreUnobserved}
use Rattle.viewed_steps.proofs.Standing as standing
use Rattle.viewed_steps.proofs.Views.{AreAccess}
use Rattle.recycled_runs.proofs.Walks.{GoesThrough}
use Rattle.recycled_runs.proofs.Targets.{IsOwnName, IsNameOf, IsOwnActual, AreOwnActuals}
use Rattle.recycled_runs.proofs.Checks.{IsOwnIn, OwnsNames}
use Rattle.viewed_steps.specs.Seeing.{sees_in}
use Rattle.soundness.proofs.Parted.{by_either}
use Rattle.soundness.proofs.Constructors.{is_access_shape}

-- ---- lists

-- What stands at a number of a list that was mapped.
mapped_at : {A B : Type 0} (f : A → B) (xs : List A) (n : ℕ) (d : B) → (get_or (map f xs) n d ≡ d) ⊎ ((x : A) × Has xs x × (get_or (map f xs) n d ≡ f x))
mapped_at f [] n d = inl refl
mapped_at f (x ∷ xs) zero d = inr (x, inl refl, refl)
mapped_at f (x ∷ xs) (suc n) d = by_either (mapped_at f xs n d) (λ past. (inl past)) (λ there. (inr (there.0, inr there.1, there.2)))

within_has : {A : Type 0} (xs : List A) (n : ℕ) (d : A) → n < length xs → Has xs (get_or xs n d)
within_has [] n d less = absurd (omega (arith, less))
within_has (x ∷ xs) zero d less = inl refl
within_has (x ∷ xs) (suc n) d less = inr (within_has xs n d (omega (arith, less)))

sub_has : (subs : List FlowSub) (n k : ℕ) → k < length (get_or subs n no_sub).points → Has subs (get_or subs n no_sub)
sub_has [] n k less = absurd (omega (arith, less))
sub_has (x ∷ subs) zero k less = inl refl
sub_has (x ∷ subs) (suc n) k less = inr (sub_has subs n k less)

-- ---- what is no such formal itself

no_end : (a g n : Bool) → a || (g && n) ≡ false → g ≡ true → n ≡ true → ⊥
no_end true g n e given end = absurd (true≢false e)
no_end false true true e given end = absurd (true≢false e)
no_end false true false e given end = absurd (false≢true end)
no_end false false n e given end = absurd (false≢true given)

opposed : (b : Bool) → b ≡ true → b ≡ false → ⊥
opposed b e f = (let no : true ≡ false = sym e ∙ f in absurd (true≢false no))

no_first : (a b : Bool) → a || b ≡ false → a ≡ false
no_first true b e = e
no_first false b e = refl

given_first : (a b : Bool) → a ≡ true → a || b ≡ true
given_first true b e = refl
given_first false b e = absurd (false≢true e)

first_true : (a b : Bool) → a && b ≡ true → a ≡ true
first_true true b e = refl
first_true false b e = e

abbrev acts : List Placed → List Act
acts all = map (λ (a : Placed). a.act) all

acts_on : (a b : List Placed) → acts (a ++ b) ≡ acts a ++ acts b
acts_on [] b = refl
acts_on (x ∷ a) b = ap (λ rest. x.act ∷ rest) (acts_on a b)

-- ---- paths

-- What goes through an access value begins so, in an object of an access type.
begins_through : (s : Typing) (y u : ℕ) (path : TypedTree) → IsAccess s y → Leads s (object_at s y).of path u → (path ≡ NoMore → ⊥) → GoesThrough path
unfolding Leads
begins_through s y u (Designated rest) access leads more = tt
begins_through s y u (IntoComponent i rest) access leads more = let less = leads.0 in let none = ap (λ z. length (components_of z)) access.3 in absurd (omega (arith, less, none))
begins_through s y u (Element index low high rest) access leads more = absurd (no access.0 access.1 access.2 leads.0 low high (sym access.3 ∙ leads.1))
  where
    no : (d : ℕ) (c n : Bool) (e : ℕ) (low high : _) → shape.Access d c n ≡ shape.Elements low high e → ⊥
    no d c n e low high same = true≢false (ap is_access_shape same)
begins_through s y u NoMore access leads more = absurd (more refl)
begins_through s y u path access leads more = absurd leads

-- ---- actuals

-- What is changed through has no parts that see.
bare_of : (s : Typing) (sees : ℕ → Bool) → ((x : ℕ) → is_bundle s x ≡ true → sees x ≡ true) → (y : ℕ) → sees y ≡ false → is_bundle s y ≡ false
bare_of s sees bundles y changes = by (is_bundle s y) refl
  where
    by : (b : Bool) → is_bundle s y ≡ b → b ≡ false
    by false e = refl
    by true e = absurd (opposed (sees y) (bundles y e) changes)

module _ (s : Typing) (sees : ℕ → Bool) (formals_are : AreAccess s) (bundles : (x : ℕ) → is_bundle s x ≡ true → sees x ≡ true) where
  -- What goes through none is rooted in an owner.
  abbrev IsOwnEnd : TypedTree → Type 0
  IsOwnEnd e = goes_through_none e ≡ true → (y : ℕ) → Has (root_of e) y → is_view_formal s y ≡ false

  abbrev IsChanged : TypedTree → Type 0
  IsChanged e = (y : ℕ) → Has (root_of e) y → sees y ≡ false

  out_own : (e : TypedTree) (t : ℕ) → IsPlace s e t → (is_scalar (full s.table t) ≡ true) ⊎ IsOwnEnd e → IsChanged e → (owning access : Bool)
      → IsOwnActual s (passing_by mode.Out owning access) e
  unfolding goes_through_none selectors
  out_own (Name p y path u) t place (inl scalar) changes owning access = inr (subst (λ k. is_scalar (full s.table k) ≡ true) (sym place.1) scalar)
  out_own (Name p y path u) t place (inr own) changes owning access = inl (place.0, by (is_view_formal s y) refl)
    where
      by : (b : Bool) → is_view_formal s y ≡ b → (is_view_formal s y ≡ false) ⊎ GoesThrough path
      by false plain = inl plain
      by true view = inr (begins_through s y u path ((formals_are y view).0 (bare_of s sees bundles y (changes y (inl refl)))) place.0 (λ same. opposed (is_view_formal s y) view (own (ap goes_through_none same) y (inl refl))))
  out_own _ t place own changes owning access = absurd place

  actual_own : (x : ℕ) (m : Mode) (owning access : Bool) (e : TypedTree) → IsActualTo s x m e → (is_in m ≡ false → IsChanged e) → IsOwnActual s (passing_by m owning access) e
  actual_own x mode.In true access e is changes = tt
  actual_own x mode.In false access e is changes = tt
  actual_own x mode.Out owning access e is changes = out_own e is.0 is.1 is.3 (changes refl) owning access
  actual_own x mode.InOut owning access e is changes = tt

  actuals_own : (procedure : Bool) (formals : List ℕ) (e : TypedTree) → AreActualsTo s formals e → AreUnobserved s sees formals e → AreOwnActuals s (map (passing s procedure) formals) e
  actuals_own procedure (x ∷ formals) (More e rest) are changes =
      (actual_own x (object_at s x).mode (is_owning s.table (object_at s x).of) _ e are.0 changes.0, actuals_own procedure formals rest are.1 changes.1)
  actuals_own procedure [] e are changes = tt
  actuals_own procedure (x ∷ formals) e are changes = tt

  traversed_own : (ways : List Passing) (e : TypedTree) → AreOwnActuals s ways e → AreOwnActuals s (first_traversed ways) e
  traversed_own [] e are = are
  traversed_own (way ∷ ways) (More e rest) are = (tt, are.1)
  traversed_own (way ∷ ways) e are = tt

  all_own : (sub : Signature) (e : TypedTree) → AreActualsTo s sub.formals e → AreUnobserved s sees sub.formals e → AreOwnActuals s (passings s sub) e
  all_own sub e are changes =
      by (traverses s.table sub.result) (map (passing s (not (is_some sub.result))) sub.formals) (actuals_own (not (is_some sub.result)) sub.formals e are changes)
    where
      by : (b : Bool) (ways : List Passing) → AreOwnActuals s ways e → AreOwnActuals s (if b then first_traversed ways else ways) e
      by true ways are = traversed_own ways e are
      by false ways are = are

-- ---- all names

module _ (table : Table) (typed : TypedProgram) (effects : Effects) (ready : IsReady table typed effects) where
  abbrev sees : ℕ → Bool
  sees = sees_in (flow_program table typed)

  abbrev program : FlowProgram
  program = flow_program table typed

  abbrev s : Typing
  s = flow_typing program

  abbrev own : Typing
  own = typing_of table typed

  formals_are : AreAccess s
  formals_are = standing.in_formals table typed effects [] ready

  -- a formal that owns nothing isn't written itself
  through : (y u : ℕ) (path : TypedTree) → is_view_formal s y ≡ true → is_fixed s sees (name_of y path) ≡ false → Leads s (object_at s y).of path u → GoesThrough path
  unfolding selectors
  through y u path view free leads =
      begins_through s y u path ((formals_are y view).0 (bare_of s sees (standing.bundle_sees table typed effects [] ready) y (no_first (sees y) _ free))) leads
      (λ same. no_end (sees y) (is_given s y) _ free (given_first (is_view_formal s y) _ view) (ap (λ p. is_nil (name_of y p).sels) same))

  written_free : (target e : TypedTree) (p : Pos) (y u : ℕ) (path : TypedTree) → target ≡ Name p y path u → AllKeep (is_fixed s sees) (acts (stored_acts own target e)) → is_fixed s sees (name_of y path) ≡ false
  written_free target e p y u path is keep =
      (keep_both (is_fixed s sees) (acts (before_write own target e)) (act.Write (name_of y path) ∷ [])
      (subst (AllKeep (is_fixed s sees)) (ap (λ z. acts (before_write own target e ++ z)) (λ j. naming (written (is j)) act.Write) ∙ acts_on (before_write own target e) (record { pos = p; act = act.Write (name_of y path) } ∷ [])) keep)).1.0

  own_formal : (y : ℕ) → is_view_formal s y ≡ true → is_formal own y ≡ true
  own_formal y view = sym (formal_same s own (flow_agrees table typed) y) ∙ first_true (is_formal s y) (is_in (object_at s y).mode) (first_true (is_in_formal s y) (is_owning s.table (object_at s y).of) view)

  no_variable : (k : ObjectKind) → is_formal_kind k ≡ true → is_variable k ≡ false
  no_variable object_kind.Formal e = refl
  no_variable object_kind.Variable e = absurd (false≢true e)
  no_variable object_kind.TextIo e = refl
  no_variable k e = refl

  target_free : (pos p : Pos) (y u : ℕ) (path e : TypedTree) → is_view_formal s y ≡ true → AllKeep (is_fixed s sees) (acts (assigned_to own pos (whole (Name p y path u)) (Name p y path u) e)) → is_fixed s sees (name_of y path) ≡ false
  target_free pos p y u path e view keep = by path keep (λ kept. written_free (Name p y path u) e p y u path refl kept)
    where
      plain : is_variable (object_at own y).kind ≡ false
      plain = no_variable (object_at own y).kind (own_formal y view)

      borrows : is_borrower own y ≡ false
      borrows = ap (λ b. b && is_borrowing (view_of own y)) plain

      observes : is_observer own y ≡ false
      observes = ap (λ b. b && is_observing (view_of own y)) plain

      by : (path : TypedTree) → AllKeep (is_fixed s sees) (acts (assigned_to own pos (whole (Name p y path u)) (Name p y path u) e))
          → (AllKeep (is_fixed s sees) (acts (stored_acts own (Name p y path u) e)) → is_fixed s sees (name_of y path) ≡ false) → is_fixed s sees (name_of y path) ≡ false
      by NoMore keep on =
          on (subst (λ b. AllKeep (is_fixed s sees) (acts (if b then source_acts own e (observe own y) else stored_acts own (Name p y NoMore u) e))) observes
          (subst (λ b. AllKeep (is_fixed s sees) (acts (if b then index_acts own e ++ reborrow (target_pos pos (written (Name p y NoMore u))) y (source e)
          else (if is_observer own y then source_acts own e (observe own y) else stored_acts own (Name p y NoMore u) e)))) borrows keep))
      by path keep on = on keep

  target_own : (pos : Pos) (target e : TypedTree) (t : ℕ) → IsPlace s target t → AllKeep (is_fixed s sees) (acts (assigned_to own pos (whole target) target e)) → IsOwnName s target
  target_own pos (Name p y path u) e t place keep = (place.0, by (is_view_formal s y) refl)
    where
      by : (b : Bool) → is_view_formal s y ≡ b → (is_view_formal s y ≡ false) ⊎ GoesThrough path
      by false plain = inl plain
      by true view = inr (through y u path view (target_free pos p y u path e view keep) place.0)
  target_own pos _ e t place keep = absurd place

  name_is : (e : TypedTree) (t : ℕ) → IsPlace s e t → IsNameOf s e
  name_is (Name p y path u) t place = place.0
  name_is _ t place = absurd place

  -- ---- points

  point_own : (sub : FlowSub) → Has program.subs sub → (q : FlowPoint) → Has sub.points q → (named : NamedSub) → Has (flow_named table typed) named → (p : NamedPoint) → Has named.points p → q ≡ flow_at own named p
      → (i : Instruction) → q.instr ≡ i → IsOwnIn s i
  point_own sub in_program q in_sub named in_named p in_points is (Assign target e) instr =
      let fine = subst (IsFine s sub.result) instr (ready.accepted.fine sub in_program q in_sub) in
      let here : p.instr ≡ Assign target e = ap (λ (z : FlowPoint). z.instr) (sym is) ∙ instr in
      let keep = subst (λ (z : FlowPoint). AllKeep (is_fixed s sees) (acts z.acts)) is (ready.orderly.kept sub in_program q in_sub) in
      target_own p.pos target e fine.0 fine.1 (subst (λ i. AllKeep (is_fixed s sees) (acts (acts_of (frame_in own named) p.pos i))) here keep)
  point_own sub in_program q in_sub named in_named p in_points is (Call n e result) instr =
      let called = ready.called sub in_program q in_sub n e result instr in
      all_own s sees formals_are (standing.bundle_sees table typed effects [] ready) (sub_at s n) e
      (subst (λ (z : Signature). AreActualsTo s z.formals e) (sym (signature_is program n)) called.actuals_stay)
      (subst (λ (z : Signature). AreUnobserved s sees z.formals e) (sym (signature_is program n))
      ((ready.orderly.points named in_named p in_points).copied n e result (ap (λ (z : FlowPoint). z.instr) (sym is) ∙ instr)))
  point_own sub in_program q in_sub named in_named p in_points is (Release e) instr =
      let fine = subst (IsFine s sub.result) instr (ready.accepted.fine sub in_program q in_sub) in name_is e fine.0 fine.2
  point_own sub in_program q in_sub named in_named p in_points is (EndScope x) instr =
      (ready.orderly.points named in_named p in_points).over x (ap (λ (z : FlowPoint). z.instr) (sym is) ∙ instr)
  point_own sub in_program q in_sub named in_named p in_points is i instr = tt

  pub owns_names : OwnsNames program
  unfolding flow_program
  owns_names n k less = by_either (mapped_at (flow_sub own) (flow_named table typed) n no_sub)
      (λ none. (absurd (never k (subst (λ (sub : FlowSub). k < length sub.points) none less))))
      (λ there. (
      let named : NamedSub = there.0 in
      let sub : FlowSub = sub_of program n in
      let q : FlowPoint = get_or sub.points k no_point in
      by_either (mapped_at (flow_at own named) named.points k no_point)
      (λ past. (subst (IsOwnIn s) (sym (ap (λ (z : FlowSub). (get_or z.points k no_point).instr) there.2 ∙ ap (λ (z : FlowPoint). z.instr) past)) tt))
      (λ at. (point_own sub (sub_has program.subs n k less) q (within_has sub.points k no_point less) named there.1 at.0 at.1 (ap (λ (z : FlowSub). get_or z.points k no_point) there.2 ∙ at.2) q.instr refl))))
    where
      never : (k : ℕ) → k < 0 → ⊥
      never k less = omega (arith, less)
