-- Scalar expressions, the indexes of names and the actuals of scalar formals give the same in memories
-- that agree.
use Rattle.std.proofs.Common.{◌≡◌, refl, sym, ap, ◌∙◌, subst, inl, inr, ℕ, Bool, true, false, not, ◌&&◌, List, [], ◌∷◌, ◌++◌, drop, get_or, ◌+◌, ℤ, ◌-ℤ◌, int_le, unsigned_abs, Option, Some, None, if◌then◌else◌}
use Rattle.std.proofs.lemmas.Bool.{false≢true}
use Rattle.machine.specs.spark_base.declared.position.Pos.{Pos}
use Rattle.machine.specs.place_names.declared.act.Act.TheVariants as act
use Rattle.machine.specs.place_names.declared.act.Mode.TheVariants as mode
use Rattle.machine.specs.place_names.declared.act.Placed.{Placed}
use Rattle.machine.specs.place_names.declared.fact.Fact.{Fact}
use Rattle.machine.specs.resolved_tree.declared.operator.Operator.{Operator}
use Rattle.machine.specs.resolved_tree.declared.operator.UnaryOperator.{UnaryOperator}
use Rattle.machine.specs.type_definitions.declared.table.Static.{Static}
use Rattle.machine.specs.type_definitions.declared.table.Shape.{Shape}
use Rattle.machine.specs.type_definitions.declared.table.Shape.TheVariants as shape
use Rattle.machine.specs.type_definitions.Types.{shape_of, full, is_owning, is_scalar, view_of, owns_of, parts}
use Rattle.machine.specs.typed_tree.Trees.{TypedTree, Number, Literal, Text, Name, Component as IntoComponent, Designated, Element, Call, EndOfFile, Parens, Image, Unary, Binary, Short, IsNull, Aggregate, Alike, New, NoMore, More}
use Rattle.machine.specs.typed_tree.Trees as typed
use Rattle.machine.specs.flow_paths.Objects.{object_at, is_anonymous, view_of as view_of_object, Passing, ByValue}
use Rattle.machine.specs.flow_paths.Objects as objects
use Rattle.machine.specs.flow_paths.Names.{has_call, waiting, name_of}
use Rattle.machine.specs.flow_paths.Acts.{used, acts_in}
use Rattle.machine.specs.Words.{component_type, fits_type}
use Rattle.machine.specs.Words as machine
use Rattle.machine.specs.Memory.{Memory, Place, slots_of, words_of, moved_out}
use Rattle.machine.specs.Evaluate.{Here, Now, Use, AsValue, AsView, Evaluated, Done, Raises, Traps, followed_by, evaluate, steps_of, place_of, text_of, value, variable_place, walked, held_or_taken, viewed, checked, indexed, operated, operated_alone, given, decides, truth}
use Rattle.machine.specs.Evaluate as run
use Rattle.machine.specs.Calls.{Passed, From, To, type_of, value_passed, passed}
use Rattle.machine.specs.States.{Waiting}
use Rattle.soundness.specs.OwnedWays.Ways.{Loc, Allows, after, AllowsAll}
use Rattle.soundness.specs.PartOffsets.Parts.{IsSettled}
use Rattle.soundness.specs.Typed.{OwnsByShape, Spot}
use Rattle.soundness.specs.TypedLaws.Needed.{Stays, Leads, Writes}
use Rattle.soundness.proofs.Steps.{no_leaf}
use Rattle.soundness.proofs.Scalars.{after_append, allows_both, acts, acts_append}
use Rattle.soundness.proofs.Contents.{bool_cases}
use Rattle.soundness.proofs.Taking.{Takes, takes_as, takes_both, takes_zero}
use Rattle.soundness.proofs.Stays.{Quiet, One, Any, quiet_then, quiet_from}
use Rattle.recycled_runs.specs.ViewedFacts.NullPlaces.Compares.{Compares}
use Rattle.recycled_runs.proofs.ViewedFacts.NullPlaces.Memories.{itself, NoneGone, words_agree}
use Rattle.recycled_runs.proofs.ViewedFacts.NullPlaces.Places.{spot_whole, plain_whole}
use Rattle.recycled_runs.proofs.ViewedFacts.NullPlaces.Walks.{SameNow, SameTo, then_same, simply}
use Rattle.recycled_runs.proofs.ViewedFacts.NullPlaces.Laws.{Premises, Behaves, Finds, IsAt, IsWholeAt}

-- ---- operators

module _ (h : Here) where
  abbrev Same : {A : Type 0} → Evaluated A → Evaluated A → Type 0
  Same x y = SameTo h.typing x y

  static_same : (v : Option Static) (n n' : Now) → SameNow h.typing n n' → Same (given v n) (given v n')
  static_same None n n' same = (refl, same)
  static_same (Some v) n n' same = (refl, same)

  one_same : (op : UnaryOperator) (ws : List machine.Word) (n n' : Now) → SameNow h.typing n n' → Same (operated_alone op ws n) (operated_alone op ws n')
  one_same op [] n n' same = (refl, same)
  one_same op (a ∷ []) n n' same = static_same _ n n' same
  one_same op (a ∷ b ∷ ws) n n' same = (refl, same)

  two_same : (op : Operator) (xs ys : List machine.Word) (n n' : Now) → SameNow h.typing n n' → Same (operated op xs ys n) (operated op xs ys n')
  two_same op [] ys n n' same = (refl, same)
  two_same op (a ∷ []) [] n n' same = (refl, same)
  two_same op (a ∷ []) (b ∷ []) n n' same = static_same _ n n' same
  two_same op (a ∷ []) (b ∷ c ∷ ys) n n' same = (refl, same)
  two_same op (a ∷ c ∷ xs) ys n n' same = (refl, same)

  -- an index changes nothing
  abbrev Still : {A : Type 0} → Now → Evaluated A → Type 0
  Still now (Done a n) = n ≡ now
  Still now x = Unit {0}

  index_same : (low high : ℤ) (ws : List machine.Word) (n n' : Now) → SameNow h.typing n n'
      → Same (indexed low high ws n) (indexed low high ws n') × Still n (indexed low high ws n)
  index_same low high [] n n' same = ((refl, same), tt)
  index_same low high (machine.Int v ∷ []) n n' same = by_test (int_le low v && int_le v high)
    where
      by_test : (b : Bool)
          → Same (if b then Done (unsigned_abs (v -ℤ low)) n else Raises run.ConstraintError n) (if b then Done (unsigned_abs (v -ℤ low)) n' else Raises run.ConstraintError n')
          × Still n (if b then Done (unsigned_abs (v -ℤ low)) n else Raises run.ConstraintError n)
      by_test true = ((refl, same), refl)
      by_test false = ((refl, same), tt)
  index_same low high (machine.Int v ∷ w ∷ ws) n n' same = ((refl, same), tt)
  index_same low high (machine.Enumerated v ∷ ws) n n' same = ((refl, same), tt)
  index_same low high (machine.Null ∷ ws) n n' same = ((refl, same), tt)
  index_same low high (machine.Cell v ∷ ws) n n' same = ((refl, same), tt)

  -- a place of which nothing is gone is looked at
  pub view_same : (k : Place) (n n' : Now) → NoneGone (slots_of h.typing n.memory k) → SameNow h.typing n n'
      → Same (held_or_taken h AsView k n) (held_or_taken h AsView k n')
  view_same k n n' none same = (words_agree h.typing n.memory n'.memory same.0 k none, same)

  -- or read, where its type doesn't own
  pub copy_same : (k : Place) (n n' : Now) → NoneGone (slots_of h.typing n.memory k) → is_owning h.typing.table k.of ≡ false → SameNow h.typing n n'
      → Same (held_or_taken h AsValue k n) (held_or_taken h AsValue k n')
  copy_same k n n' none plain same = (
    words_agree h.typing n.memory n'.memory same.0 k none,
    subst (λ b. SameNow h.typing
        (if b then record n { memory = moved_out h.typing k n.memory } else n) (if b then record n' { memory = moved_out h.typing k n'.memory } else n')) (sym plain) same,
  )

scalar_owns : (s : Shape) (f : ℕ → Bool) → is_scalar (view_of s) ≡ true → owns_of f s ≡ false
scalar_owns (shape.Whole a b) f e = refl
scalar_owns (shape.Listed l a b) f e = refl
scalar_owns (shape.Access d c n) f e = absurd (false≢true e)
scalar_owns (shape.Fields cs) f e = absurd (false≢true e)
scalar_owns (shape.Elements a b el) f e = absurd (false≢true e)
scalar_owns (shape.Same of) f e = absurd (false≢true e)

-- ---- names and expressions

module _ (h : Here) (settled : IsSettled h.typing.table) (own_law : OwnsByShape h.typing.table) (asks : Premises h) (m : Memory) (hands : List Waiting) (facts : List Fact)
    (law : Behaves h asks m hands facts) where
  abbrev SameNowAt : List (List machine.Word) → Now → Type 0
  SameNowAt ws n = SameNow h.typing (record { memory = m; waits = ws }) n

  abbrev at : List (List machine.Word) → Now
  at ws = record { memory = m; waits = ws }

  not_owning : (t : ℕ) → is_scalar (full h.typing.table t) ≡ true → is_owning h.typing.table t ≡ false
  not_owning t e = own_law t ∙ scalar_owns (shape_of h.typing.table t) (is_owning h.typing.table) e

  -- what a place of a scalar type has isn't gone
  pub scalar_none : (k : Place) (l : Loc) (t : ℕ) → Spot h.typing m hands k l → k.of ≡ t → is_scalar (full h.typing.table t) ≡ true → NoneGone (slots_of h.typing m k)
  scalar_none k l t spot of scalar =
      spot_whole h.typing settled m hands law.only law.kept k l spot
      (plain_whole h.typing settled m hands k l spot (λ p. no_leaf h.typing.table settled k.of (ap (λ z. is_scalar (full h.typing.table z)) of ∙ scalar) p))

  abbrev IsThere : ℕ → Place → Type 0
  IsThere t k = IsAt h asks m hands facts t k

  read_same : (on : List (List machine.Word)) (u : Use) (t : ℕ) → is_scalar (full h.typing.table t) ≡ true → (k : Place) (n n' : Now)
      → (n ≡ record { memory = m; waits = on }) × IsThere t k → SameNow h.typing n n' → SameTo h.typing (held_or_taken h u k n) (held_or_taken h u k n')
  read_same on AsView t scalar k n n' (is, (l, spot, of)) same =
      view_same h k n n' (subst (λ (z : Now). NoneGone (slots_of h.typing z.memory k)) (sym is) (scalar_none k l t spot of scalar)) same
  read_same on AsValue t scalar k n n' (is, (l, spot, of)) same =
      copy_same h k n n' (subst (λ (z : Now). NoneGone (slots_of h.typing z.memory k)) (sym is) (scalar_none k l t spot of scalar))
      (ap (is_owning h.typing.table) of ∙ not_owning t scalar) same

  abbrev QuietAt : {A : Type 0} → List (List machine.Word) → (A → Type 0) → Evaluated A → Type 0
  QuietAt on P x = Quiet (record { memory = m; waits = on }) P x

  abbrev Stays_so : List Placed → Type 0
  Stays_so ps = after (acts ps) facts ≡ facts

  split_allowed : (a b : List Placed) → AllowsAll facts (acts (a ++ b)) → (Stays_so a → AllowsAll facts (acts b)) × AllowsAll facts (acts a)
  split_allowed a b x =
      let each = allows_both facts (acts a) (acts b) (subst (AllowsAll facts) (acts_append a b) x) in
      (λ stay. subst (λ z. AllowsAll z (acts b)) stay each.1, each.0)

  -- a name whose steps are evaluated, and what is done with its place
  pub place_then : {A : Type 0} (before on : List (List machine.Word)) (x t : ℕ) (steps : TypedTree) (f g : Place → Now → Evaluated A)
      (known : Place → Type 0)
      → ((way : List run.Step) → asks.goes (object_at h.typing x).of t steps way → Finds h asks m hands facts on x way known)
      → Quiet (record { memory = m; waits = on }) (λ way. asks.goes (object_at h.typing x).of t steps way) (steps_of h steps (record { memory = m; waits = before })) → (n' : Now)
      → SameTo h.typing (steps_of h steps (record { memory = m; waits = before })) (steps_of h steps n')
      → ((k : Place) (n n' : Now) → (n ≡ record { memory = m; waits = on }) × known k → SameNow h.typing n n' → SameTo h.typing (f k n) (g k n'))
      → SameTo h.typing (followed_by (steps_of h steps (record { memory = m; waits = before })) (λ way now. followed_by (walked h.typing way (variable_place h x) now) f))
      (followed_by (steps_of h steps n') (λ way now. followed_by (walked h.typing way (variable_place h x) now) g))
  place_then before on x t steps f g known finds q n' same next =
      then_same h.typing (QuietAt on (λ way. asks.goes (object_at h.typing x).of t steps way)) (steps_of h steps (at before)) (steps_of h steps n')
      (λ way now. followed_by (walked h.typing way (variable_place h x) now) f) (λ way now. followed_by (walked h.typing way (variable_place h x) now) g) q same
      (λ way n n'' p now. subst (λ z. SameTo h.typing (followed_by (walked h.typing way (variable_place h x) z) f) (followed_by (walked h.typing way (variable_place h x) n'') g)) (sym p.0)
      (let found = finds way p.1 in
      then_same h.typing (QuietAt on known) (walked h.typing way (variable_place h x) (at on))
      (walked h.typing way (variable_place h x) n'') f g found.0
      (found.1 n'' (subst (λ z. SameNow h.typing z n'') p.0 now)) next))

  abbrev IsWhole : ℕ → Place → Type 0
  IsWhole t k = IsWholeAt h asks m hands facts t k

  pub none_there : (on : List (List machine.Word)) (t : ℕ) (k : Place) (n : Now) → (n ≡ record { memory = m; waits = on }) × IsWholeAt h asks m hands facts t k
      → NoneGone (slots_of h.typing n.memory k)
  none_there on t k n found = subst (λ (z : Now). NoneGone (slots_of h.typing z.memory k)) (sym found.0) (found.1).3

  -- the value that waits first
  waited_same : (n n' : Now) → SameNow h.typing n n' → SameTo h.typing (run.waited n) (run.waited n')
  waited_same n n' same = (ap (λ ws. get_or ws 0 []) same.1, (same.0, ap (drop 1) same.1, same.2))

  mutual
    unfolding Stays Leads Compares evaluate steps_of acts_in has_call waiting

    pub scalar_on : (u : Use) (e : TypedTree) → Stays h.typing e → (before on : List (List machine.Word)) → Takes (waiting e) before on → asks.calls (has_call e)
        → Compares h.typing e → AllowsAll facts (acts (acts_in h.typing e))
        → (n' : Now) → SameNowAt before n' → SameTo h.typing (evaluate h u e (at before)) (evaluate h u e n')
    scalar_on u (Number v) stays before on takes calls compares allowed n' same = (refl, same)
    scalar_on u (Literal n) stays before on takes calls compares allowed n' same = (refl, same)
    scalar_on u typed.Null stays before on takes calls compares allowed n' same = (refl, same)
    scalar_on u (Text b) stays before on takes calls compares allowed n' same = absurd stays
    scalar_on u EndOfFile stays before on takes calls compares allowed n' same = (refl, same)
    scalar_on u NoMore stays before on takes calls compares allowed n' same = absurd stays
    scalar_on u (Name p x steps t) (lead, scalar) before on takes calls compares allowed n' same =
        let owns = not_owning t scalar in
        let is : used h.typing (name_of x steps) t ≡ act.Read (name_of x steps) =
        ap (λ b. if b then act.Move (name_of x steps) (parts h.typing.table t) else act.Read (name_of x steps)) owns in
        let each = split_allowed (acts_in h.typing steps) (record { pos = p; act = used h.typing (name_of x steps) t } ∷ []) allowed in
        let inner = law.steps (object_at h.typing x).of t steps lead before on takes calls each.1 in
        let reads : Allows facts (act.Read (name_of x steps)) = subst (Allows facts) is (each.0 inner.1).0 in
        place_then before on x t steps (held_or_taken h u) (held_or_taken h u) (IsThere t)
        (λ way goes. law.read on x t steps way goes reads)
        inner.0 n' (steps_on (object_at h.typing x).of t steps lead before on takes calls compares each.1 n' same)
        (λ k n n'' found now. read_same on u t scalar k n n'' found now)
    scalar_on u (Call p sub actuals) stays before on takes calls compares allowed n' same = waited_same (at before) n' same
    scalar_on u (Parens e) stays before on takes calls compares allowed n' same = scalar_on AsValue e stays before on takes calls compares allowed n' same
    scalar_on u (Image t e) stays before on takes calls compares allowed n' same = absurd stays
    scalar_on u (Unary op e) stays before on takes calls compares allowed n' same =
        simply h.typing (evaluate h AsValue e (at before)) (evaluate h AsValue e n') (operated_alone op) (operated_alone op)
        (scalar_on AsValue e stays before on takes calls compares allowed n' same) (λ ws n n'' now. one_same h op ws n n'' now)
    scalar_on u (Binary op a b) stays before on takes calls compares allowed n' same =
        let two = takes_both (waiting a) (waiting b) before on takes in
        let each = split_allowed (acts_in h.typing a) (acts_in h.typing b) allowed in
        let both = asks.both_calls (has_call a) (has_call b) calls in
        let left = law.quiet AsValue a stays.0 before two.0 two.1 both.0 each.1 in
        then_same h.typing (QuietAt two.0 One) (evaluate h AsValue a (at before)) (evaluate h AsValue a n')
        (λ x now. followed_by (evaluate h AsValue b now) (operated op x)) (λ x now. followed_by (evaluate h AsValue b now) (operated op x)) left.0
        (scalar_on AsValue a stays.0 before two.0 two.1 both.0 compares.0 each.1 n' same)
        (λ x n n'' q now. subst (λ z. SameTo h.typing (followed_by (evaluate h AsValue b z) (operated op x)) (followed_by (evaluate h AsValue b n'') (operated op x))) (sym q.0)
        (simply h.typing (evaluate h AsValue b (at two.0)) (evaluate h AsValue b n'') (operated op x) (operated op x)
        (scalar_on AsValue b stays.1 two.0 on two.2 both.1 compares.1 (each.0 left.1) n'' (subst (λ z. SameNow h.typing z n'') q.0 now))
        (λ y k k' last. two_same h op x y k k' last)))
    -- with a call on the right, the value waits
    scalar_on u (Short op p a q b) stays before on takes calls compares allowed n' same = elim (bool_cases (has_call b)) [
      | inl called_there ↦ subst (λ c. SameTo h.typing (if c then run.waited (at before) else followed_by (evaluate h AsValue a (at before)) right)
          (if c then run.waited n' else followed_by (evaluate h AsValue a n') right)) (sym called_there) (waited_same (at before) n' same)
      | inr none ↦ (
          let is : acts_in h.typing (Short op p a q b) ≡ acts_in h.typing a ++ acts_in h.typing b =
          ap (λ c. if c then [] else acts_in h.typing a ++ acts_in h.typing b) none in
          let sum = takes_as _ (waiting a + waiting b) before on (ap (λ c. if c then 1 else waiting a + waiting b) none) takes in
          let two = takes_both (waiting a) (waiting b) before on sum in
          let each = split_allowed (acts_in h.typing a) (acts_in h.typing b) (subst (λ z. AllowsAll facts (acts z)) is allowed) in
          let both = asks.both_calls (has_call a) (has_call b) calls in
          let left = law.quiet AsValue a stays.0 before two.0 two.1 both.0 each.1 in
          subst (λ c. SameTo h.typing (if c then run.waited (at before) else followed_by (evaluate h AsValue a (at before)) right)
          (if c then run.waited n' else followed_by (evaluate h AsValue a n') right)) (sym none)
          (then_same h.typing (QuietAt two.0 One) (evaluate h AsValue a (at before)) (evaluate h AsValue a n') right right left.0
          (scalar_on AsValue a stays.0 before two.0 two.1 both.0 compares.0 each.1 n' same)
          (λ x n n'' q now. decided (decides op x) x n n'' now (subst (λ z. SameTo h.typing (evaluate h AsValue b z) (evaluate h AsValue b n'')) (sym q.0)
          (scalar_on AsValue b stays.1 two.0 on two.2 both.1 compares.1 (each.0 left.1) n'' (subst (λ z. SameNow h.typing z n'') q.0 now))))))
    ]
      where
        right : List machine.Word → Now → Evaluated (List machine.Word)
        right = (λ x now. if decides op x then Done x now else evaluate h AsValue b now)

        decided : (c : Bool) (x : List machine.Word) (n n'' : Now) → SameNow h.typing n n'' → SameTo h.typing (evaluate h AsValue b n) (evaluate h AsValue b n'')
            → SameTo h.typing (if c then Done x n else evaluate h AsValue b n) (if c then Done x n'' else evaluate h AsValue b n'')
        decided true x n n'' now is = (refl, now)
        decided false x n n'' now is = is
    scalar_on u (IsNull equal (Name p x steps t)) lead before on takes calls (d, c, b, is, compares) allowed n' same =
        let each = split_allowed (acts_in h.typing steps) (record { pos = p; act = act.Look (name_of x steps) } ∷ []) allowed in
        let inner = law.steps (object_at h.typing x).of t steps lead before on takes calls each.1 in
        let looks : Allows facts (act.Look (name_of x steps)) = (each.0 inner.1).0 in
        simply h.typing (evaluate h AsView (Name p x steps t) (at before)) (evaluate h AsView (Name p x steps t) n')
        (λ ws now. Done (truth (if run.is_null ws then equal else not equal)) now) (λ ws now. Done (truth (if run.is_null ws then equal else not equal)) now)
        (place_then before on x t steps (held_or_taken h AsView) (held_or_taken h AsView) (IsWhole t)
        (λ way goes. law.look on x t steps way goes d c b is looks)
        inner.0 n' (steps_on (object_at h.typing x).of t steps lead before on takes calls compares each.1 n' same)
        (λ k n n'' found now. view_same h k n n'' (none_there on t k n found) now))
        (λ ws n n'' now. (refl, now))
    scalar_on u (IsNull equal (Call p sub actuals)) stays before on takes calls compares allowed n' same =
        simply h.typing (run.waited (at before)) (run.waited n')
        (λ ws now. Done (truth (if run.is_null ws then equal else not equal)) now) (λ ws now. Done (truth (if run.is_null ws then equal else not equal)) now)
        (waited_same (at before) n' same) (λ ws n n'' now. (refl, now))
    scalar_on u (IsNull equal e) stays before on takes calls compares allowed n' same = absurd stays
    scalar_on u (More e rest) stays before on takes calls compares allowed n' same = absurd stays
    scalar_on u (Aggregate t es) stays before on takes calls compares allowed n' same = absurd stays
    scalar_on u (Alike t e) stays before on takes calls compares allowed n' same = absurd stays
    scalar_on u (New t v) stays before on takes calls compares allowed n' same = absurd stays
    scalar_on u (IntoComponent i rest) stays before on takes calls compares allowed n' same = absurd stays
    scalar_on u (Designated rest) stays before on takes calls compares allowed n' same = absurd stays
    scalar_on u (Element index low high rest) stays before on takes calls compares allowed n' same = absurd stays

    pub steps_on : (t u : ℕ) (steps : TypedTree) → Leads h.typing t steps u → (before on : List (List machine.Word)) → Takes (waiting steps) before on
        → asks.calls (has_call steps) → Compares h.typing steps → AllowsAll facts (acts (acts_in h.typing steps))
        → (n' : Now) → SameNowAt before n' → SameTo h.typing (steps_of h steps (at before)) (steps_of h steps n')
    steps_on t u (IntoComponent i rest) (lt, lead) before on takes calls compares allowed n' same =
        simply h.typing (steps_of h rest (at before)) (steps_of h rest n') (λ way now. Done (run.ToComponent i ∷ way) now) (λ way now. Done (run.ToComponent i ∷ way) now)
        (steps_on (component_type h.typing.table t i) u rest lead before on takes calls compares allowed n' same) (λ way n n'' now. (refl, now))
    steps_on t u (Designated rest) (d, c, b, is, lead) before on takes calls compares allowed n' same =
        simply h.typing (steps_of h rest (at before)) (steps_of h rest n') (λ way now. Done (run.ToDesignated ∷ way) now) (λ way now. Done (run.ToDesignated ∷ way) now)
        (steps_on d u rest lead before on takes calls compares allowed n' same) (λ way n n'' now. (refl, now))
    steps_on t u (Element index low high rest) (e, is, stays, lead) before on takes calls compares allowed n' same =
        let two = takes_both (waiting index) (waiting rest) before on takes in
        let each = split_allowed (acts_in h.typing index) (acts_in h.typing rest) allowed in
        let both = asks.both_calls (has_call index) (has_call rest) calls in
        let first = law.quiet AsValue index stays before two.0 two.1 both.0 each.1 in
        let last : ℕ → Now → Evaluated (List run.Step) = (λ k now. followed_by (steps_of h rest now) (λ way now. Done (run.ToElement k ∷ way) now)) in
        then_same h.typing (QuietAt two.0 One) (evaluate h AsValue index (at before)) (evaluate h AsValue index n')
        (λ ws now. followed_by (indexed low high ws now) last) (λ ws now. followed_by (indexed low high ws now) last) first.0
        (scalar_on AsValue index stays before two.0 two.1 both.0 compares.0 each.1 n' same)
        (λ ws n n'' q now.
        let test = index_same h low high ws n n'' now in
        then_same h.typing (Still h n) (indexed low high ws n) (indexed low high ws n'') last last test.1 test.0
        (λ k i i' still so. subst (λ z. SameTo h.typing (last k z) (last k i')) (sym (still ∙ q.0))
        (simply h.typing (steps_of h rest (at two.0)) (steps_of h rest i') (λ way now. Done (run.ToElement k ∷ way) now) (λ way now. Done (run.ToElement k ∷ way) now)
        (steps_on e u rest lead two.0 on two.2 both.1 compares.1 (each.0 first.1) i' (subst (λ z. SameNow h.typing z i') (still ∙ q.0) so)) (λ way n n'' now. (refl, now)))))
    steps_on t u NoMore lead before on takes calls compares allowed n' same = (refl, same)
    steps_on t u steps lead before on takes calls compares allowed n' same = absurd lead

  -- ---- places

  -- a place that is found, and what is known of it
  pub place_on : (before on : List (List machine.Word)) (p : Pos) (x t : ℕ) (steps : TypedTree) → Leads h.typing (object_at h.typing x).of steps t
      → Takes (waiting steps) before on → asks.calls (has_call steps) → Compares h.typing steps
      → AllowsAll facts (acts (acts_in h.typing steps)) → (known : Place → Type 0)
      → ((way : List run.Step) → asks.goes (object_at h.typing x).of t steps way → Finds h asks m hands facts on x way known)
      → (n' : Now) → SameNow h.typing (record { memory = m; waits = before }) n'
      → SameTo h.typing (place_of h (Name p x steps t) (record { memory = m; waits = before })) (place_of h (Name p x steps t) n')
      × Quiet (record { memory = m; waits = on }) known (place_of h (Name p x steps t) (record { memory = m; waits = before }))
  place_on before on p x t steps lead takes calls compares allowed known finds n' same =
      let q = (law.steps (object_at h.typing x).of t steps lead before on takes calls allowed).0 in (
        then_same h.typing (QuietAt on (λ way. asks.goes (object_at h.typing x).of t steps way)) (steps_of h steps (at before)) (steps_of h steps n')
            (λ way now. walked h.typing way (variable_place h x) now) (λ way now. walked h.typing way (variable_place h x) now) q
            (steps_on (object_at h.typing x).of t steps lead before on takes calls compares allowed n' same)
            (λ way n n'' p now. subst (λ z. SameTo h.typing (walked h.typing way (variable_place h x) z) (walked h.typing way (variable_place h x) n'')) (sym p.0)
            ((finds way p.1).1 n'' (subst (λ z. SameNow h.typing z n'') p.0 now))),
        quiet_then (at on) (λ way. asks.goes (object_at h.typing x).of t steps way) known (steps_of h steps (at before))
            (λ way now. walked h.typing way (variable_place h x) now) q (λ way goes. (finds way goes).0),
      )

  -- ---- strings

  text_quiet : {A B : Type 0} (mid on : List (List machine.Word)) (x : Evaluated A) (f : A → Now → Evaluated B) → Quiet (at mid) (Any {A = A}) x
      → ((a : A) → Quiet (at on) (Any {A = B}) (f a (at mid))) → Quiet (at on) (Any {A = B}) (followed_by x f)
  text_quiet mid on x f q next = quiet_from (at mid) (at on) Any Any refl x f q (λ a any. next a)

  weaker : (on : List (List machine.Word)) (x : Evaluated (List machine.Word)) → Quiet (at on) One x → Quiet (at on) (Any {A = List machine.Word}) x
  weaker on (Done a n) q = (q.0, tt)
  weaker on (Raises e n) q = q
  weaker on (Traps e n) q = q

  pub text_on : (before on : List (List machine.Word)) (e : TypedTree) → Writes h.typing e → Takes (waiting e) before on → asks.calls (has_call e) → Compares h.typing e
      → AllowsAll facts (acts (acts_in h.typing e)) → (n' : Now) → SameNowAt before n'
      → SameTo h.typing (text_of h e (at before)) (text_of h e n') × Quiet (at on) (Any {A = List ℕ}) (text_of h e (at before)) × Stays_so (acts_in h.typing e)
  unfolding Writes text_of acts_in has_call Compares waiting
  text_on before on (Text b) writes takes calls compares allowed n' same = ((refl, same), (ap at (takes_zero before on takes), tt), refl)
  text_on before on (Image u e) stays takes calls compares allowed n' same =
      let q = law.quiet AsValue e stays before on takes calls allowed in (
        simply h.typing (value h e (at before)) (value h e n') (λ ws now. Done (run.image_of h.typing.table u ws) now) (λ ws now. Done (run.image_of h.typing.table u ws) now)
            (scalar_on AsValue e stays before on takes calls compares allowed n' same) (λ ws n n'' now. (refl, now)),
        text_quiet on on (value h e (at before)) (λ ws now. Done (run.image_of h.typing.table u ws) now) (weaker on (value h e (at before)) q.0) (λ ws. (refl, tt)),
        q.1,
      )
  text_on before on (Parens e) writes takes calls compares allowed n' same = text_on before on e writes takes calls compares allowed n' same
  text_on before on (Binary op a b) (wa, wb) takes calls compares allowed n' same =
      let two = takes_both (waiting a) (waiting b) before on takes in
      let each = split_allowed (acts_in h.typing a) (acts_in h.typing b) allowed in
      let both = asks.both_calls (has_call a) (has_call b) calls in
      let left = text_on before two.0 a wa two.1 both.0 compares.0 each.1 n' same in
      let own = text_on two.0 on b wb two.2 both.1 compares.1 (each.0 left.2) (at two.0) (itself_there two.0) in
      let second : List ℕ → Now → Evaluated (List ℕ) = (λ x now. followed_by (text_of h b now) (λ y now. Done (x ++ y) now)) in (
        then_same h.typing (QuietAt two.0 (Any {A = List ℕ})) (text_of h a (at before)) (text_of h a n') second second left.1 left.0
            (λ x n n'' q now. subst (λ z. SameTo h.typing (second x z) (second x n'')) (sym q.0)
            (simply h.typing (text_of h b (at two.0)) (text_of h b n'') (λ y now. Done (x ++ y) now) (λ y now. Done (x ++ y) now)
            (text_on two.0 on b wb two.2 both.1 compares.1 (each.0 left.2) n'' (subst (λ z. SameNow h.typing z n'') q.0 now)).0 (λ y k k' last. (refl, last)))),
        text_quiet two.0 on (text_of h a (at before)) second left.1
            (λ x. text_quiet on on (text_of h b (at two.0)) (λ y now. Done (x ++ y) now) own.1 (λ y. (refl, tt))),
        ap (λ z. after z facts) (acts_append (acts_in h.typing a) (acts_in h.typing b)) ∙ after_append (acts (acts_in h.typing a)) (acts (acts_in h.typing b)) facts
            ∙ ap (after (acts (acts_in h.typing b))) left.2 ∙ own.2,
      )
    where
      itself_there : (ws : List (List machine.Word)) → SameNowAt ws (at ws)
      itself_there ws = (itself m, refl, law.only)
  text_on before on e writes takes calls compares allowed n' same = absurd writes

  -- ---- actuals

  if_same : (b : Bool) (x y x' y' : Evaluated (List machine.Word)) → SameTo h.typing x x' → SameTo h.typing y y' → SameTo h.typing (if b then x else y) (if b then x' else y')
  if_same true x y x' y' p q = p
  if_same false x y x' y' p q = q

  if_quiet : (on : List (List machine.Word)) (b : Bool) (x y : Evaluated (List machine.Word)) → Quiet (at on) One x → Quiet (at on) One y → Quiet (at on) One (if b then x else y)
  if_quiet on true x y p q = p
  if_quiet on false x y p q = q

  checked_there : (x : ℕ) (ws : List machine.Word) (f : List machine.Word → Now → Evaluated Passed) → (n n' : Now) → SameNow h.typing n n'
      → ((us : List machine.Word) (i j : Now) → SameNow h.typing i j → SameTo h.typing (f us i) (f us j))
      → SameTo h.typing (followed_by (checked h (type_of h x) ws n) f) (followed_by (checked h (type_of h x) ws n') f)
  checked_there x ws f n n' same next = by_test (fits_type h.typing.table (type_of h x) ws)
    where
      by_test : (b : Bool) → SameTo h.typing (followed_by (if b then Done ws n else Raises run.ConstraintError n) f)
          (followed_by (if b then Done ws n' else Raises run.ConstraintError n') f)
      by_test true = next ws n n' same
      by_test false = (refl, same)

  checked_quiet : (on : List (List machine.Word)) (x : ℕ) (ws : List machine.Word) → Quiet (at on) (Any {A = List machine.Word}) (checked h (type_of h x) ws (at on))
  checked_quiet on x ws = by_test (fits_type h.typing.table (type_of h x) ws)
    where
      by_test : (b : Bool) → Quiet (at on) (Any {A = List machine.Word}) (if b then Done ws (at on) else Raises run.ConstraintError (at on))
      by_test true = (refl, tt)
      by_test false = refl

  -- What is passed is the same, and nothing changes.
  abbrev pub PassedSame : List (List machine.Word) → List (List machine.Word) → Passing → ℕ → TypedTree → Type 0
  PassedSame before on how x e =
      ((n' : Now) → SameNow h.typing (record { memory = m; waits = before }) n' → SameTo h.typing (passed h how x e (record { memory = m; waits = before })) (passed h how x e n'))
      × Quiet (record { memory = m; waits = on }) (Any {A = Passed}) (passed h how x e (record { memory = m; waits = before }))

  -- the value of a scalar expression
  pub value_passed_same : (before on : List (List machine.Word)) (x : ℕ) (e : TypedTree) → Stays h.typing e → Takes (waiting e) before on → asks.calls (has_call e) → Compares h.typing e
      → AllowsAll facts (acts (acts_in h.typing e)) → PassedSame before on ByValue x e
  value_passed_same before on x e stays takes calls compares allowed =
      let b : Bool = is_anonymous (view_of_object h.typing x) in
      let last : List machine.Word → Now → Evaluated Passed = (λ ws now. followed_by (checked h (type_of h x) ws now) value_passed) in (
        (λ n' same. simply h.typing (if b then viewed h e (at before) else value h e (at before)) (if b then viewed h e n' else value h e n') last last
            (if_same b (viewed h e (at before)) (value h e (at before)) (viewed h e n') (value h e n')
            (scalar_on AsView e stays before on takes calls compares allowed n' same) (scalar_on AsValue e stays before on takes calls compares allowed n' same))
            (λ ws n n'' now. checked_there x ws value_passed n n'' now (λ us i j still. (refl, still)))),
        quiet_then (at on) One Any (if b then viewed h e (at before) else value h e (at before)) last
            (if_quiet on b (viewed h e (at before)) (value h e (at before)) (law.quiet AsView e stays before on takes calls allowed).0
            (law.quiet AsValue e stays before on takes calls allowed).0)
            (λ ws one. quiet_then (at on) Any Any (checked h (type_of h x) ws (at on)) value_passed (checked_quiet on x ws) (λ us any. (refl, tt))),
      )

  -- a place that is written, and one that is read, too, of which nothing is gone
  pub to_passed_same : (before on : List (List machine.Word)) (owning access : Bool) (x : ℕ) (p : Pos) (y u : ℕ) (path : TypedTree) → Leads h.typing (object_at h.typing y).of path u
      → Takes (waiting path) before on → asks.calls (has_call path) → Compares h.typing path → AllowsAll facts (acts (acts_in h.typing path))
      → (known : Place → Type 0) → ((way : List run.Step) → asks.goes (object_at h.typing y).of u path way → Finds h asks m hands facts on y way known)
      → PassedSame before on (objects.Place mode.Out owning access) x (Name p y path u)
  to_passed_same before on owning access x p y u path lead takes calls compares allowed known finds = (
    (λ n' same. simply h.typing (place_of h (Name p y path u) (at before)) (place_of h (Name p y path u) n') (λ k now. Done (To k) now) (λ k now. Done (To k) now)
        (place_on before on p y u path lead takes calls compares allowed known finds n' same).0 (λ k n n'' now. (refl, now))),
    quiet_then (at on) known Any (place_of h (Name p y path u) (at before)) (λ k now. Done (To k) now)
        (place_on before on p y u path lead takes calls compares allowed known finds (at before) (itself m, refl, law.only)).1 (λ k is. (refl, tt)),
  )

  abbrev read_back : ℕ → Place → Now → Evaluated Passed
  read_back x k now = followed_by (checked h (type_of h x) (words_of h.typing now.memory k) now) (λ ws now. Done (From k) now)

  back_same : (x : ℕ) (k : Place) (n n' : Now) → NoneGone (slots_of h.typing n.memory k) → SameNow h.typing n n' → SameTo h.typing (read_back x k n) (read_back x k n')
  back_same x k n n' none same =
      subst (λ z. SameTo h.typing (read_back x k n) (followed_by (checked h (type_of h x) z n') (λ ws now. Done (From k) now))) (words_agree h.typing n.memory n'.memory same.0 k none)
      (checked_there x (words_of h.typing n.memory k) (λ ws now. Done (From k) now) n n' same (λ us i j still. (refl, still)))

  pub from_passed_same : (before on : List (List machine.Word)) (owning access : Bool) (x : ℕ) (p : Pos) (y u : ℕ) (path : TypedTree) → Leads h.typing (object_at h.typing y).of path u
      → Takes (waiting path) before on → asks.calls (has_call path) → Compares h.typing path → AllowsAll facts (acts (acts_in h.typing path))
      → (known : Place → Type 0) → ((k : Place) → known k → NoneGone (slots_of h.typing m k))
      → ((way : List run.Step) → asks.goes (object_at h.typing y).of u path way → Finds h asks m hands facts on y way known)
      → PassedSame before on (objects.Place mode.InOut owning access) x (Name p y path u)
  from_passed_same before on owning access x p y u path lead takes calls compares allowed known none finds = (
    (λ n' same. (
        let place = place_on before on p y u path lead takes calls compares allowed known finds n' same in
        then_same h.typing (Quiet (at on) known) (place_of h (Name p y path u) (at before)) (place_of h (Name p y path u) n') (read_back x) (read_back x) place.1 place.0
        (λ k n n'' found now. back_same x k n n'' (subst (λ (z : Now). NoneGone (slots_of h.typing z.memory k)) (sym found.0) (none k found.1)) now))),
    quiet_then (at on) known Any (place_of h (Name p y path u) (at before)) (read_back x)
        (place_on before on p y u path lead takes calls compares allowed known finds (at before) (itself m, refl, law.only)).1
        (λ k is. quiet_then (at on) Any Any (checked h (type_of h x) (words_of h.typing m k) (at on)) (λ ws now. Done (From k) now)
        (checked_quiet on x (words_of h.typing m k)) (λ ws any. (refl, tt))),
  )
