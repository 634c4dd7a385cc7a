-- A scalar expression, with names through borrowers and observers, changes nothing but what waits,
-- and touches no freed cell.
use Rattle.std.proofs.Common.{◌≡◌, refl, sym, ap, ◌∙◌, subst, inl, inr, ℕ, ◌+◌, ◌<◌, Bool, true, false, not, ◌&&◌, List, [], ◌∷◌, ◌++◌, length, append_assoc, append-nil, Option, Some, None, ℤ, ◌-ℤ◌, int_le, unsigned_abs, if◌then◌else◌}
use Rattle.machine.specs.place_names.declared.selector.Sel.TheVariants as sel
use Rattle.machine.specs.place_names.declared.act.Act.TheVariants as act
use Rattle.machine.specs.place_names.declared.fact.Fact.{Fact}
use Rattle.machine.specs.place_names.Names.{Name as PlaceName}
use Rattle.machine.specs.place_names.Facts.{effect}
use Rattle.machine.specs.resolved_tree.declared.operator.Operator.{Operator}
use Rattle.machine.specs.resolved_tree.declared.operator.UnaryOperator.{UnaryOperator}
use Rattle.machine.specs.place_names.declared.act.Placed.{Placed}
use Rattle.machine.specs.type_definitions.declared.table.Static.{Static}
use Rattle.machine.specs.type_definitions.Types.{Table, shape_of, span, words, full, is_owning, is_scalar, parts}
use Rattle.machine.specs.typed_tree.Trees.{TypedTree, Number, Literal, Text, Name, Component as IntoComponent, Designated, Element, Call, EndOfFile, Parens, Image, Unary, Binary, Short, IsNull, Aggregate, Alike, New, NoMore, More}
use Rattle.machine.specs.typed_tree.Trees as typed
use Rattle.machine.specs.flow_paths.Objects.{object_at}
use Rattle.machine.specs.flow_paths.Names.{has_call, selectors, name_of}
use Rattle.machine.specs.flow_paths.Names as flow_names
use Rattle.machine.specs.flow_paths.Acts.{used, acts_in}
use Rattle.machine.specs.Words.{component_type, element_type, element_of, count_of}
use Rattle.machine.specs.Words as machine
use Rattle.machine.specs.Memory.{Slot, Memory, Place, slots_of, words_of, moved_out}
use Rattle.machine.specs.Evaluate.{Here, Now, Use, AsValue, AsView, Evaluated, Done, Raises, Traps, followed_by, evaluate, steps_of, variable_place, walked, held_or_taken, indexed, operated, operated_alone, given, decides, truth}
use Rattle.machine.specs.Evaluate as run
use Rattle.machine.specs.States.{Waiting, Leak}
use Rattle.soundness.specs.OwnedWays.Ways.{OfVariable, OfHand, Loc, Way, Object, Into, All, Reaches, Named, Allows, after, AllowsAll, sels_of}
use Rattle.soundness.specs.OwnedWays.Ways as ways
use Rattle.soundness.specs.PartOffsets.Parts.{IsSettled}
use Rattle.soundness.specs.Seen.{IsNear, content, trunk, seen, home}
use Rattle.soundness.specs.Typed.{OwnsByShape, Kept, Spot}
use Rattle.soundness.specs.TypedLaws.Needed.{Stays, Leads, IndexLaw}
use Rattle.soundness.proofs.Walks.{way_along, Walked}
use Rattle.soundness.proofs.Stays.{Quiet, quiet_then, quiet_from, Any, One, scalar_owns}
use Rattle.soundness.proofs.Contents.{bool_cases}
use Rattle.soundness.proofs.Waits.{no_waits}
use Rattle.soundness.proofs.Taking.{Takes, takes_as, takes_both, takes_zero, no_takes, first_is}
use Rattle.soundness.specs.OwnedLoans.Views.{Around, Views, expand, Viewed}
use Rattle.soundness.proofs.OwnedLoans.Safe.{Open}
use Rattle.soundness.proofs.OwnedLoans.Allowed.{read_open, look_open}
use Rattle.soundness.specs.ViewedSoundness.Holds.{PartsAreNamed, IsOwners, Holds, Seeing}
use Rattle.soundness.proofs.ViewedSoundness.Names.{Starts, starts_leads, name_walked}
use Rattle.std.proofs.lemmas.List.{length-map}
use Rattle.soundness.proofs.Steps.{plain_shape, room, taken_slots}
use Rattle.soundness.proofs.Scalars.{after_append, allows_both, acts, acts_append, read_effect, look_effect, number_along, named_along}

-- operators give a word or raise
one_operand : (op : UnaryOperator) (ws : List machine.Word) (now : Now) → Quiet now One (operated_alone op ws now)
one_operand op [] now = refl
one_operand op (a ∷ []) now = given_quiet _ now
  where
    given_quiet : (v : Option Static) (now : Now) → Quiet now (λ (ws : List machine.Word). length ws ≡ 1) (given v now)
    given_quiet None now = refl
    given_quiet (Some v) now = (refl, refl)
one_operand op (a ∷ b ∷ ws) now = refl

two_operands : (op : Operator) (xs ys : List machine.Word) (now : Now) → Quiet now One (operated op xs ys now)
two_operands op [] ys now = refl
two_operands op (a ∷ []) [] now = refl
two_operands op (a ∷ []) (b ∷ []) now = given_quiet _ now
  where
    given_quiet : (v : Option Static) (now : Now) → Quiet now (λ (ws : List machine.Word). length ws ≡ 1) (given v now)
    given_quiet None now = refl
    given_quiet (Some v) now = (refl, refl)
two_operands op (a ∷ []) (b ∷ c ∷ ys) now = refl
two_operands op (a ∷ c ∷ xs) ys now = refl

-- The steps that a name is made of, with its indexes evaluated.
pub record Goes (table : Table) (t u : ℕ) (steps : TypedTree) (way : List run.Step) : Type 0 where
  pub lead : Starts table t way u
  pub sels : (w : Way) → sels_of (way_along way w) ≡ sels_of w ++ selectors steps

-- no steps are those of a name without selectors
pub no_selectors : (table : Table) (t u : ℕ) (steps : TypedTree) (way : List run.Step) → Goes table t u steps way → way ≡ [] → selectors steps ≡ []
no_selectors table t u steps way goes none =
    sym (goes.sels (Object (OfHand 0))) ∙ ap (λ z. sels_of (way_along z (Object (OfHand 0)))) none

-- a left operand decides, or the right one is evaluated
decided_quiet : {A : Type 0} (before now : Now) (P : A → Type 0) → before ≡ now → (b : Bool) (x : A) (y : Evaluated A) → P x → Quiet now P y
    → Quiet now P (if b then Done x before else y)
decided_quiet before now P same true x y p q = (same, p)
decided_quiet before now P same false x y p q = q

module _ (h : Here) (sees : ℕ → Bool) (seeing : Seeing h.typing sees) (settled : IsSettled h.typing.table) (hands : List Waiting) (leaks : List Leak) (m : Memory) (waits : List (List machine.Word))
    (other : Around (home h.typing h.frame)) (facts : List Fact) (v : Views)
    (kept : Kept h.typing m hands)
    (viewed : Viewed (home h.typing h.frame) sees other v (seen h.typing m hands leaks) facts)
    (holds : Holds h.typing sees h.frame v m)
    (alone : (w : Way) → IsNear h.frame w → other.gone w → ⊥)
    (live : (w : Way) (l : Loc) → IsOwners h.typing w → Reaches (seen h.typing m hands leaks) w l → (content h.typing m hands (trunk l)).owns ≡ true)
    (index_law : IndexLaw)
    (own_law : OwnsByShape h.typing.table)
    (parts_named : PartsAreNamed h.typing.table) where
  abbrev at : List (List machine.Word) → Now
  at ws = record { memory = m; waits = ws }

  -- one evaluation after another
  quiet_on : {A B : Type 0} (mid on : List (List machine.Word)) (P : A → Type 0) (Q : B → Type 0) (x : Evaluated A) (f : A → Now → Evaluated B)
      → Quiet (at mid) P x → ((a : A) → P a → Quiet (at on) Q (f a (at mid))) → Quiet (at on) Q (followed_by x f)
  quiet_on mid on P Q x f is next = quiet_from (at mid) (at on) P Q refl x f is next

  -- an index within the bounds of its array
  index_quiet : (on : List (List machine.Word)) (low high : ℤ) (ws : List machine.Word) → Quiet (at on) (λ n. n < span low high) (indexed low high ws (at on))
  index_quiet on low high [] = refl
  index_quiet on low high (machine.Int v ∷ []) = by_test (int_le low v && int_le v high) refl
    where
      by_test : (b : Bool) → int_le low v && int_le v high ≡ b
          → Quiet (at on) (λ n. n < span low high) (if b then Done (unsigned_abs (v -ℤ low)) (at on) else Raises run.ConstraintError (at on))
      by_test true e = (refl, index_law low high v e)
      by_test false e = refl
  index_quiet on low high (machine.Int v ∷ w ∷ ws) = refl
  index_quiet on low high (machine.Enumerated v ∷ ws) = refl
  index_quiet on low high (machine.Null ∷ ws) = refl
  index_quiet on low high (machine.Cell v ∷ ws) = refl

  -- The way of a name, with its indexes evaluated.
  abbrev pub named_by : ℕ → List run.Step → Way
  named_by x way = way_along way (Object (OfVariable (home h.typing h.frame x) x))

  -- a name with its steps, under an act that keeps moved and borrowed names off its way
  pub name_on : (on : List (List machine.Word)) (x : ℕ) (steps : TypedTree) (t : ℕ) (way : List run.Step) → Goes h.typing.table (object_at h.typing x).of t steps way
      → ((u : Way) → Named (home h.typing h.frame) u → ways.name_of u ≡ name_of x steps → Open facts u)
      → Walked h.typing settled hands leaks m on (expand v (named_by x way)) t
      (walked h.typing way (variable_place h x) (at on))
  name_on on x steps t way goes opens =
      name_walked h sees seeing settled hands leaks m on other facts v kept viewed holds alone live x t way goes.lead
      (λ is. opens (named_by x way) (named_along (home h.typing h.frame) way (Object (OfVariable (home h.typing h.frame x) x)) refl)
      (λ j. record {
        root = number_along way (Object (OfVariable (home h.typing h.frame x) x)) j;
        sels = goes.sels (Object (OfVariable (home h.typing h.frame x) x)) j;
      }))

  pub name_quiet : (x : ℕ) (steps : TypedTree) (t : ℕ) (way : List run.Step) → Goes h.typing.table (object_at h.typing x).of t steps way
      → ((u : Way) → Named (home h.typing h.frame) u → ways.name_of u ≡ name_of x steps → Open facts u)
      → Walked h.typing settled hands leaks m waits (expand v (named_by x way)) t
      (walked h.typing way (variable_place h x) (record { memory = m; waits = waits }))
  name_quiet x steps t way goes opens = name_on waits x steps t way goes opens

  not_owning : (t : ℕ) → is_scalar (full h.typing.table t) ≡ true → is_owning h.typing.table t ≡ false
  not_owning t e = own_law t ∙ scalar_owns (shape_of h.typing.table t) (is_owning h.typing.table) e

  -- what the acts of an expression leave
  abbrev pub Stay : List Placed → Type 0
  Stay ps = after (acts ps) facts ≡ facts

  both_stay : (a b : List Placed) → Stay a → Stay b → Stay (a ++ b)
  both_stay a b x y = ap (λ z. after z facts) (acts_append a b) ∙ after_append (acts a) (acts b) facts ∙ ap (after (acts b)) x ∙ y

  both_allowed : (a b : List Placed) → AllowsAll facts (acts (a ++ b)) → (Stay a → AllowsAll facts (acts b)) × AllowsAll facts (acts a)
  both_allowed a b x =
      let each = allows_both facts (acts a) (acts b) (subst (AllowsAll facts) (acts_append a b) x) in
      (λ stay. subst (λ z. AllowsAll z (acts b)) stay each.1, each.0)

  -- what a place holds, of a scalar type
  one_held : (k : Place) (l : Loc) (t : ℕ) → Spot h.typing m hands k l → k.of ≡ t → is_scalar (full h.typing.table t) ≡ true → One (words_of h.typing m k)
  one_held k l t spot of scalar =
      length-map (slots_of h.typing m k) (λ (x : Slot). x.word)
      ∙ (taken_slots h.typing settled m k (room h.typing settled m hands kept k l spot)).0
      ∙ ap (words h.typing.table) of
      ∙ settled.word_law t
      ∙ (plain_shape (shape_of h.typing.table t) scalar).3 (words h.typing.table)

  held_quiet : (on : List (List machine.Word)) (u : Use) (w : Way) (t : ℕ) → is_owning h.typing.table t ≡ false → is_scalar (full h.typing.table t) ≡ true → (x : Evaluated Place)
      → Walked h.typing settled hands leaks m on w t x → Quiet (at on) One (followed_by x (held_or_taken h u))
  held_quiet on AsView w t none scalar (Done k n) (l, same, spot, reaches, of) =
      (same, ap (λ z. length (words_of h.typing z.memory k)) same ∙ one_held k l t spot of scalar)
  held_quiet on AsValue w t none scalar (Done k n) (l, same, spot, reaches, of) = (
    ap (λ b. if b then record n { memory = moved_out h.typing k n.memory } else n) (ap (is_owning h.typing.table) of ∙ none) ∙ same,
    ap (λ z. length (words_of h.typing z.memory k)) same ∙ one_held k l t spot of scalar,
  )
  held_quiet on u w t none scalar (Raises e n) is = is
  held_quiet on u w t none scalar (Traps e n) none' = absurd none'

  -- what is looked at, of any type
  viewed_quiet : (on : List (List machine.Word)) (w : Way) (t : ℕ) (x : Evaluated Place)
      → Walked h.typing settled hands leaks m on w t x → Quiet (at on) Any (followed_by x (held_or_taken h AsView))
  viewed_quiet on w t (Done k n) (l, same, spot, reaches, of) = (same, tt)
  viewed_quiet on w t (Raises e n) is = is
  viewed_quiet on w t (Traps e n) none = absurd none

  -- a value that waits
  pub waited_quiet : (before on : List (List machine.Word)) → Takes 1 before on → Quiet (at on) One (run.waited (at before))
  waited_quiet before on takes = let first = first_is before on takes in (ap at first.1, first.0)

  mutual
    unfolding Stays Leads evaluate steps_of acts_in has_call selectors flow_names.waiting

    pub taking : (u : Use) (e : TypedTree) → Stays h.typing e → (before on : List (List machine.Word)) → Takes (flow_names.waiting e) before on
        → AllowsAll facts (acts (acts_in h.typing e)) → Quiet (at on) One (evaluate h u e (at before)) × Stay (acts_in h.typing e)
    taking u (Number v) stays before on takes allowed = ((ap at (takes_zero before on takes), refl), refl)
    taking u (Literal n) stays before on takes allowed = ((ap at (takes_zero before on takes), refl), refl)
    taking u typed.Null stays before on takes allowed = ((ap at (takes_zero before on takes), refl), refl)
    taking u (Text b) stays before on takes allowed = absurd stays
    taking u EndOfFile stays before on takes allowed = ((ap at (takes_zero before on takes), refl), refl)
    taking u NoMore stays before on takes allowed = absurd stays
    taking u (Name p x steps t) (lead, scalar) before on takes allowed =
        let owns = not_owning t scalar in
        let name : PlaceName = name_of x steps in
        let is : used h.typing name t ≡ act.Read name = ap (λ b. if b then act.Move name (parts h.typing.table t) else act.Read name) owns in
        let each = both_allowed (acts_in h.typing steps) (record { pos = p; act = used h.typing name t } ∷ []) allowed in
        let inner = steps_taking (object_at h.typing x).of t steps lead before on takes each.1 in
        let reads : Allows facts (act.Read name) = subst (Allows facts) is (each.0 inner.1).0 in (
          quiet_then (at on) (λ way. Goes h.typing.table (object_at h.typing x).of t steps way) One (steps_of h steps (at before))
              (λ way now. followed_by (walked h.typing way (variable_place h x) now) (held_or_taken h u)) inner.0
              (λ way goes. held_quiet on u (expand v (named_by x way)) t owns scalar
              (walked h.typing way (variable_place h x) (at on))
              (name_on on x steps t way goes (λ w named called. read_open facts w (subst (λ z. Allows facts (act.Read z)) (sym called) reads)))),
          both_stay (acts_in h.typing steps) (record { pos = p; act = used h.typing name t } ∷ []) inner.1
              (ap (λ a. effect a facts) is ∙ read_effect name facts),
        )
    taking u (Call p sub actuals) stays before on takes allowed = (waited_quiet before on takes, refl)
    taking u (Parens e) stays before on takes allowed = taking AsValue e stays before on takes allowed
    taking u (Image t e) stays before on takes allowed = absurd stays
    taking u (Unary op e) stays before on takes allowed =
        let inner = taking AsValue e stays before on takes allowed in
        (quiet_then (at on) One One (evaluate h AsValue e (at before)) (operated_alone op) inner.0 (λ ws any. one_operand op ws (at on)), inner.1)
    taking u (Binary op a b) stays before on takes allowed =
        let two = takes_both (flow_names.waiting a) (flow_names.waiting b) before on takes in
        let each = both_allowed (acts_in h.typing a) (acts_in h.typing b) allowed in
        let left = taking AsValue a stays.0 before two.0 two.1 each.1 in
        let right = taking AsValue b stays.1 two.0 on two.2 (each.0 left.1) in (
          quiet_on two.0 on One One (evaluate h AsValue a (at before)) (λ x now. followed_by (evaluate h AsValue b now) (operated op x)) left.0
              (λ x any. quiet_then (at on) One One (evaluate h AsValue b (at two.0)) (operated op x) right.0 (λ y any. two_operands op x y (at on))),
          both_stay (acts_in h.typing a) (acts_in h.typing b) left.1 right.1,
        )
    -- with a call on the right, the value waits
    taking u (Short op p a q b) stays before on takes allowed = elim (bool_cases (has_call b)) [
      | inl called ↦ (
        subst (λ c. Quiet (at on) One (if c then run.waited (at before)
            else followed_by (evaluate h AsValue a (at before)) (λ x now. if decides op x then Done x now else evaluate h AsValue b now))) (sym called)
            (waited_quiet before on (takes_as _ 1 before on (ap (λ c. if c then 1 else flow_names.waiting a + flow_names.waiting b) called) takes)),
        subst Stay (sym (ap (λ c. if c then [] else acts_in h.typing a ++ acts_in h.typing b) called)) refl,
      )
      | inr none ↦ (
          let is : acts_in h.typing (Short op p a q b) ≡ acts_in h.typing a ++ acts_in h.typing b =
          ap (λ c. if c then [] else acts_in h.typing a ++ acts_in h.typing b) none in
          let sum = takes_as _ (flow_names.waiting a + flow_names.waiting b) before on (ap (λ c. if c then 1 else flow_names.waiting a + flow_names.waiting b) none) takes in
          let two = takes_both (flow_names.waiting a) (flow_names.waiting b) before on sum in
          let still : two.0 ≡ on = takes_zero two.0 on (takes_as (flow_names.waiting b) 0 two.0 on (no_waits b none) two.2) in
          let each = both_allowed (acts_in h.typing a) (acts_in h.typing b) (subst (λ z. AllowsAll facts (acts z)) is allowed) in
          let left = taking AsValue a stays.0 before two.0 two.1 each.1 in
          let right = taking AsValue b stays.1 two.0 on two.2 (each.0 left.1) in (
            subst (λ c. Quiet (at on) One (if c then run.waited (at before)
                else followed_by (evaluate h AsValue a (at before)) (λ x now. if decides op x then Done x now else evaluate h AsValue b now))) (sym none)
                (quiet_on two.0 on One One (evaluate h AsValue a (at before)) (λ x now. if decides op x then Done x now else evaluate h AsValue b now) left.0
                (λ x one. decided_quiet (at two.0) (at on) One (ap at still) (decides op x) x (evaluate h AsValue b (at two.0)) one right.0)),
            subst Stay (sym is) (both_stay (acts_in h.typing a) (acts_in h.typing b) left.1 right.1),
          ))
    ]
    taking u (IsNull equal (Name p x steps t)) lead before on takes allowed =
        let name : PlaceName = name_of x steps in
        let each = both_allowed (acts_in h.typing steps) (record { pos = p; act = act.Look name } ∷ []) allowed in
        let inner = steps_taking (object_at h.typing x).of t steps lead before on takes each.1 in
        let looks : Allows facts (act.Look name) = (each.0 inner.1).0 in (
          quiet_then (at on) Any One (evaluate h AsView (Name p x steps t) (at before)) (λ ws now. Done (truth (if run.is_null ws then equal else not equal)) now)
              (quiet_then (at on) (λ way. Goes h.typing.table (object_at h.typing x).of t steps way) Any (steps_of h steps (at before))
              (λ way now. followed_by (walked h.typing way (variable_place h x) now) (held_or_taken h AsView)) inner.0
              (λ way goes. viewed_quiet on (expand v (named_by x way)) t
              (walked h.typing way (variable_place h x) (at on))
              (name_on on x steps t way goes (λ w named called. look_open facts w (subst (λ z. Allows facts (act.Look z)) (sym called) looks)))))
              (λ ws any. (refl, refl)),
          both_stay (acts_in h.typing steps) (record { pos = p; act = act.Look name } ∷ []) inner.1 (look_effect name facts),
        )
    taking u (IsNull equal (Call p sub actuals)) stays before on takes allowed = (
      quiet_then (at on) One One (run.waited (at before)) (λ ws now. Done (truth (if run.is_null ws then equal else not equal)) now)
          (waited_quiet before on takes) (λ ws any. (refl, refl)),
      refl,
    )
    taking u (IsNull equal e) stays before on takes allowed = absurd stays
    taking u (More e rest) stays before on takes allowed = absurd stays
    taking u (Aggregate t es) stays before on takes allowed = absurd stays
    taking u (Alike t e) stays before on takes allowed = absurd stays
    taking u (New t v) stays before on takes allowed = absurd stays
    taking u (IntoComponent i rest) stays before on takes allowed = absurd stays
    taking u (Designated rest) stays before on takes allowed = absurd stays
    taking u (Element index low high rest) stays before on takes allowed = absurd stays

    pub steps_taking : (t u : ℕ) (steps : TypedTree) → Leads h.typing t steps u → (before on : List (List machine.Word))
        → Takes (flow_names.waiting steps) before on → AllowsAll facts (acts (acts_in h.typing steps))
        → Quiet (at on) (λ way. Goes h.typing.table t u steps way) (steps_of h steps (at before)) × Stay (acts_in h.typing steps)
    steps_taking t u (IntoComponent i rest) (lt, lead) before on takes allowed =
        let inner = steps_taking (component_type h.typing.table t i) u rest lead before on takes allowed in (
          quiet_then (at on) (λ way. Goes h.typing.table (component_type h.typing.table t i) u rest way)
              (λ way. Goes h.typing.table t u (IntoComponent i rest) way) (steps_of h rest (at before)) (λ way now. Done (run.ToComponent i ∷ way) now) inner.0
              (λ way goes. (
                refl,
                record {
                  lead = (lt, starts_leads h.typing.table (component_type h.typing.table t i) u way (parts_named.component t i) goes.lead);
                  sels = λ w. goes.sels (Into w (ways.Component i)) ∙ append_assoc (sels_of w) (sel.Field i ∷ []) (selectors rest);
                },
              )),
          inner.1,
        )
    steps_taking t u (Designated rest) (d, c, n, is, lead) before on takes allowed =
        let inner = steps_taking d u rest lead before on takes allowed in (
          quiet_then (at on) (λ way. Goes h.typing.table d u rest way)
              (λ way. Goes h.typing.table t u (Designated rest) way) (steps_of h rest (at before)) (λ way now. Done (run.ToDesignated ∷ way) now) inner.0
              (λ way goes. (
                refl,
                record {
                  lead = (d, c, n, is, starts_leads h.typing.table d u way (parts_named.designated t d c n is) goes.lead);
                  sels = λ w. goes.sels (All w) ∙ append_assoc (sels_of w) (sel.Deref ∷ []) (selectors rest);
                },
              )),
          inner.1,
        )
    steps_taking t u (Element index low high rest) (e, is, stays, lead) before on takes allowed =
        let two = takes_both (flow_names.waiting index) (flow_names.waiting rest) before on takes in
        let each = both_allowed (acts_in h.typing index) (acts_in h.typing rest) allowed in
        let first = taking AsValue index stays before two.0 two.1 each.1 in
        let inner = steps_taking e u rest lead two.0 on two.2 (each.0 first.1) in (
          quiet_on two.0 on One (λ way. Goes h.typing.table t u (Element index low high rest) way) (evaluate h AsValue index (at before))
              (λ ws now. followed_by (indexed low high ws now) (λ n now. followed_by (steps_of h rest now) (λ way now. Done (run.ToElement n ∷ way) now))) first.0
              (λ ws any. quiet_on two.0 on (λ n. n < span low high) (λ way. Goes h.typing.table t u (Element index low high rest) way) (indexed low high ws (at two.0))
              (λ n now. followed_by (steps_of h rest now) (λ way now. Done (run.ToElement n ∷ way) now)) (index_quiet two.0 low high ws)
              (λ n lt. quiet_then (at on) (λ way. Goes h.typing.table e u rest way) (λ way. Goes h.typing.table t u (Element index low high rest) way)
              (steps_of h rest (at two.0)) (λ way now. Done (run.ToElement n ∷ way) now) inner.0
              (λ way goes. (
                refl,
                record {
                  lead = (
                    subst (λ z. n < z) (sym (ap count_of is)) lt,
                    starts_leads h.typing.table (element_type h.typing.table t) u way (parts_named.element t)
                        (subst (λ z. Starts h.typing.table z way u) (sym (ap element_of is)) goes.lead),
                  );
                  sels = λ w. goes.sels (Into w (ways.Element n)) ∙ append_assoc (sels_of w) (sel.Elem ∷ []) (selectors rest);
                },
              )))),
          both_stay (acts_in h.typing index) (acts_in h.typing rest) first.1 inner.1,
        )
    steps_taking t u NoMore lead before on takes allowed =
        ((ap at (takes_zero before on takes), record { lead = lead; sels = λ w. sym (append-nil (sels_of w)) }), refl)
    steps_taking t u steps lead before on takes allowed = absurd lead

  -- without calls nothing that waits is taken
  pub quiet : (u : Use) (e : TypedTree) → Stays h.typing e → has_call e ≡ false → AllowsAll facts (acts (acts_in h.typing e))
      → Quiet (at waits) One (evaluate h u e (at waits)) × Stay (acts_in h.typing e)
  quiet u e stays none allowed = taking u e stays waits waits (no_takes e none waits) allowed

  pub steps_quiet : (t u : ℕ) (steps : TypedTree) → Leads h.typing t steps u → has_call steps ≡ false
      → AllowsAll facts (acts (acts_in h.typing steps))
      → Quiet (at waits) (λ way. Goes h.typing.table t u steps way) (steps_of h steps (at waits)) × Stay (acts_in h.typing steps)
  steps_quiet t u steps lead none allowed = steps_taking t u steps lead waits waits (no_takes steps none waits) allowed
