-- Expressions without calls give the same in memories that agree, and what they move is gone in
-- both.
use Rattle.std.proofs.Common.{◌≡◌, refl, sym, ap, ◌∙◌, subst, ℕ, suc, ◌+◌, ◌||◌, Bool, true, false, List, [], ◌∷◌, ◌++◌, drop, get_or, length, append-nil, if◌then◌else◌}
use Rattle.std.specs.Prelude.{nat_le}
use Rattle.machine.specs.place_names.declared.act.Act.TheVariants as act
use Rattle.machine.specs.place_names.declared.act.Placed.{Placed}
use Rattle.machine.specs.place_names.declared.fact.Fact.{Fact}
use Rattle.machine.specs.place_names.Names.{Name as PlaceName}
use Rattle.machine.specs.type_definitions.Types.{shape_of, is_owning, parts}
use Rattle.machine.specs.typed_tree.Trees.{TypedTree, Number, Literal, Name, Call, EndOfFile, Parens, Unary, Binary, Short, IsNull, Aggregate, Alike, New, NoMore, More}
use Rattle.machine.specs.typed_tree.Trees as typed
use Rattle.machine.specs.flow_paths.Objects.{object_at}
use Rattle.machine.specs.flow_paths.Names.{has_call, waiting, name_of}
use Rattle.machine.specs.flow_paths.Acts.{used, acts_in}
use Rattle.machine.specs.Words.{default, fits_type}
use Rattle.machine.specs.Words as machine
use Rattle.machine.specs.Memory.{Memory, Place, slots_of, moved_out, with_new_cell, live_words}
use Rattle.machine.specs.Evaluate.{Here, Now, AsValue, part_type, parts_of, Evaluated, Done, Raises, followed_by, evaluate, steps_of, initial, checked, allocated, variable_place, walked, held_or_taken, taken, heap_words, StorageError}
use Rattle.machine.specs.Evaluate as run
use Rattle.machine.specs.Typed.{is_record, is_array}
use Rattle.machine.specs.States.{Waiting}
use Rattle.soundness.specs.OwnedWays.Ways.{Allows, after, AllowsAll}
use Rattle.soundness.specs.PartOffsets.Parts.{IsSettled}
use Rattle.soundness.specs.Typed.{OwnsByShape}
use Rattle.soundness.specs.TypedLaws.Needed.{Stays, Leads, Gives, GivesParts, GivesFirst}
use Rattle.soundness.proofs.Scalars.{allows_both, acts, acts_append}
use Rattle.soundness.proofs.Taking.{Takes, takes_as, takes_both, nothing_more}
use Rattle.soundness.proofs.Evaluated.{regrouped}
use Rattle.soundness.proofs.Lasting.{keeps}
use Rattle.recycled_runs.specs.ViewedFacts.NullPlaces.Compares.{Compares}
use Rattle.recycled_runs.proofs.ViewedFacts.NullPlaces.Memories.{NoneGone, words_agree, moved_agree, made_agree, room_agree, count_agree}
use Rattle.recycled_runs.proofs.ViewedFacts.NullPlaces.Only.{OnlyOwners, made_only}
use Rattle.recycled_runs.proofs.ViewedFacts.NullPlaces.Places.{spot_whole, plain_whole, moved_only}
use Rattle.recycled_runs.proofs.ViewedFacts.NullPlaces.Walks.{SameNow, SameTo, then_same, simply}
use Rattle.recycled_runs.proofs.ViewedFacts.NullPlaces.Laws.{Premises, Behaves, Values, GivenBy, IsAt, checked_by, IsMovableAt}
use Rattle.recycled_runs.proofs.ViewedFacts.NullPlaces.Scalars.{copy_same, place_then, scalar_on, steps_on}

module _ (h : Here) (settled : IsSettled h.typing.table) (own_law : OwnsByShape h.typing.table) (asks : Premises h)
    (ready : Memory → List Waiting → List Fact → Type 0) (values : Values h asks ready) where
  abbrev Same : {A : Type 0} → Evaluated A → Evaluated A → Type 0
  Same x y = SameTo h.typing x y

  pub checked_same : (t : ℕ) (x y : Evaluated (List machine.Word)) → Same x y → Same (followed_by x (checked h t)) (followed_by y (checked h t))
  checked_same t x y same = simply h.typing x y (checked h t) (checked h t) same (λ ws n n' now. by_test ws n n' now (fits_type h.typing.table t ws))
    where
      by_test : (ws : List machine.Word) (n n' : Now) → SameNow h.typing n n' → (b : Bool)
          → SameTo h.typing (if b then Done ws n else Raises run.ConstraintError n) (if b then Done ws n' else Raises run.ConstraintError n')
      by_test ws n n' now true = (refl, now)
      by_test ws n n' now false = (refl, now)

  pub allocated_same : (t : ℕ) (x y : Evaluated (List machine.Word)) → Same x y → Same (followed_by x (allocated t)) (followed_by y (allocated t))
  allocated_same t x y same =
      simply h.typing x y (allocated t) (allocated t) same (λ ws n n' now.
      subst (λ k. SameTo h.typing (allocated t ws n)
      (if nat_le (k + length ws) heap_words
      then Done (machine.Cell (suc (length n'.memory.cells)) ∷ []) (record n' { memory = with_new_cell t ws n'.memory })
      else Raises StorageError n')) (room_agree n.memory n'.memory now.0) (by_test ws n n' now (nat_le (live_words n.memory + length ws) heap_words)))
    where
      by_test : (ws : List machine.Word) (n n' : Now) → SameNow h.typing n n' → (b : Bool)
          → SameTo h.typing (if b then Done (machine.Cell (suc (length n.memory.cells)) ∷ []) (record n { memory = with_new_cell t ws n.memory }) else Raises StorageError n)
          (if b then Done (machine.Cell (suc (length n'.memory.cells)) ∷ []) (record n' { memory = with_new_cell t ws n'.memory }) else Raises StorageError n')
      by_test ws n n' now true = (
        ap (λ k. machine.Cell (suc k) ∷ []) (count_agree n.memory n'.memory now.0),
        (made_agree t ws n.memory n'.memory now.0, now.1, made_only h.typing n.memory now.2 t ws),
      )
      by_test ws n n' now false = (refl, now)

  -- ---- names

  module _ (m : Memory) (hands : List Waiting) (facts : List Fact) (law : Behaves h asks m hands facts) (x : ℕ) (steps : TypedTree) (t : ℕ) where
    abbrev at : List (List machine.Word) → Now
    at ws = record { memory = m; waits = ws }

    abbrev IsThere : List (List machine.Word) → Place → Now → Type 0
    IsThere on k n = (n ≡ record { memory = m; waits = on }) × IsAt h asks m hands facts t k

    abbrev IsWhole : List (List machine.Word) → Place → Now → Type 0
    IsWhole on k n = (n ≡ record { memory = m; waits = on }) × IsMovableAt h asks m hands facts t k

    -- what a place has is taken, where its type owns
    owner_same : (on : List (List machine.Word)) → is_owning h.typing.table t ≡ true → (k : Place) (n n' : Now) → IsWhole on k n → SameNow h.typing n n'
        → Same (held_or_taken h AsValue k n) (held_or_taken h AsValue k n')
    owner_same on owns k n n' (is, ((l, spot, of, none), owner)) same =
        subst (λ z. SameNow h.typing z n' → SameTo h.typing (taken h k z) (taken h k n')) (sym is) (λ now. (
          words_agree h.typing m n'.memory now.0 k none,
          subst (λ b. SameNow h.typing (if b then record (at on) { memory = moved_out h.typing k m } else (at on)) (if b then record n' { memory = moved_out h.typing k n'.memory } else n'))
              (sym (ap (is_owning h.typing.table) of ∙ owns))
              (moved_agree h.typing k m n'.memory now.0, now.1, moved_only h.typing settled m hands law.only law.kept k l spot (λ p leaf. owner)),
        )) same

    -- a copy of what doesn't own
    plain_same : (on : List (List machine.Word)) → is_owning h.typing.table t ≡ false → (k : Place) (n n' : Now) → IsThere on k n → SameNow h.typing n n'
        → Same (held_or_taken h AsValue k n) (held_or_taken h AsValue k n')
    plain_same on plain k n n' (is, (l, spot, of)) same =
        let own : is_owning h.typing.table k.of ≡ false = ap (is_owning h.typing.table) of ∙ plain in
        copy_same h k n n' (subst (λ (z : Now). NoneGone (slots_of h.typing z.memory k)) (sym is)
        (spot_whole h.typing settled m hands law.only law.kept k l spot (plain_whole h.typing settled m hands k l spot ((keeps h.typing settled own_law).ownerless k.of own)))) own same

    -- a name that is moved, or read
    name_by : (before on : List (List machine.Word)) (lead : Leads h.typing (object_at h.typing x).of steps t) → Takes (waiting steps) before on
        → asks.calls (has_call steps) → Compares h.typing steps
        → AllowsAll facts (acts (acts_in h.typing steps)) → Allows facts (used h.typing (name_of x steps) t) → asks.keeps (used h.typing (name_of x steps) t ∷ [])
        → (b : Bool) → is_owning h.typing.table t ≡ b
        → (n' : Now) → SameNow h.typing (at before) n'
        → Same (followed_by (steps_of h steps (at before)) (λ way now. followed_by (walked h.typing way (variable_place h x) now) (held_or_taken h AsValue)))
        (followed_by (steps_of h steps n') (λ way now. followed_by (walked h.typing way (variable_place h x) now) (held_or_taken h AsValue)))
    name_by before on lead takes calls compares allowed mine kept true owns n' same =
        let is : used h.typing (name_of x steps) t ≡ act.Move (name_of x steps) (parts h.typing.table t) =
        ap (λ b. if b then act.Move (name_of x steps) (parts h.typing.table t) else act.Read (name_of x steps)) owns in
        place_then h settled own_law asks m hands facts law before on x t steps (held_or_taken h AsValue) (held_or_taken h AsValue) (IsMovableAt h asks m hands facts t)
        (λ way goes. law.move on x t steps way goes owns (subst (Allows facts) is mine) (subst (λ z. asks.keeps (z ∷ [])) is kept))
        (law.steps (object_at h.typing x).of t steps lead before on takes calls allowed).0
        n' (steps_on h settled own_law asks m hands facts law (object_at h.typing x).of t steps lead before on takes calls compares allowed n' same)
        (owner_same on owns)
    name_by before on lead takes calls compares allowed mine kept false owns n' same =
        let is : used h.typing (name_of x steps) t ≡ act.Read (name_of x steps) =
        ap (λ b. if b then act.Move (name_of x steps) (parts h.typing.table t) else act.Read (name_of x steps)) owns in
        place_then h settled own_law asks m hands facts law before on x t steps (held_or_taken h AsValue) (held_or_taken h AsValue) (IsAt h asks m hands facts t)
        (λ way goes. law.read on x t steps way goes (subst (Allows facts) is mine))
        (law.steps (object_at h.typing x).of t steps lead before on takes calls allowed).0
        n' (steps_on h settled own_law asks m hands facts law (object_at h.typing x).of t steps lead before on takes calls compares allowed n' same)
        (plain_same on owns)

  -- ---- all together

  scalar_value : (e : TypedTree) → Stays h.typing e → (before on : List (List machine.Word)) → Takes (waiting e) before on → asks.calls (has_call e) → Compares h.typing e
      → (m : Memory) (hands : List Waiting) (facts : List Fact)
      → ready m hands facts → AllowsAll facts (acts (acts_in h.typing e)) → OnlyOwners h.typing m → (n' : Now) → SameNow h.typing (record { memory = m; waits = before }) n'
      → Same (evaluate h AsValue e (record { memory = m; waits = before })) (evaluate h AsValue e n')
  scalar_value e stays before on takes calls compares m hands facts so allowed only n' same =
      scalar_on h settled own_law asks m hands facts (values.behaves m hands facts so only) AsValue e stays before on takes calls compares allowed n' same

  mutual
    unfolding Gives GivesParts GivesFirst Stays Compares evaluate initial parts_of acts_in has_call waiting

    pub value_on : (e : TypedTree) (want : ℕ) → Gives h.typing want e → asks.calls (has_call e) → asks.gives e → (before on : List (List machine.Word))
        → Takes (waiting e) before on → Compares h.typing e
        → (m : Memory) (hands : List Waiting) (facts : List Fact) → ready m hands facts → AllowsAll facts (acts (acts_in h.typing e)) → OnlyOwners h.typing m
        → asks.takes want → asks.keeps (acts (acts_in h.typing e)) → (n' : Now) → SameNow h.typing (record { memory = m; waits = before }) n'
        → Same (evaluate h AsValue e (record { memory = m; waits = before })) (evaluate h AsValue e n')
    value_on (Number v) want scalar calls own_calls before on takes compares m hands facts so allowed only own keep n' same = (refl, same)
    value_on (Literal v) want scalar calls own_calls before on takes compares m hands facts so allowed only own keep n' same = (refl, same)
    value_on EndOfFile want scalar calls own_calls before on takes compares m hands facts so allowed only own keep n' same = (refl, same)
    value_on typed.Null want one calls own_calls before on takes compares m hands facts so allowed only own keep n' same = (refl, same)
    value_on (Parens e) want gives calls own_calls before on takes compares m hands facts so allowed only own keep n' same =
        value_on e want gives calls (asks.held e own_calls) before on takes compares m hands facts so allowed only own keep n' same
    value_on (Unary op e) want (scalar, stays) calls own_calls before on takes compares m hands facts so allowed only own keep n' same =
        scalar_value (Unary op e) stays before on takes calls compares m hands facts so allowed only n' same
    value_on (Binary op a b) want (scalar, stays, stays') calls own_calls before on takes compares m hands facts so allowed only own keep n' same =
        scalar_value (Binary op a b) (stays, stays') before on takes calls compares m hands facts so allowed only n' same
    value_on (Short op p a q b) want (scalar, stays, stays') calls own_calls before on takes compares m hands facts so allowed only own keep n' same =
        scalar_value (Short op p a q b) (stays, stays') before on takes calls compares m hands facts so allowed only n' same
    value_on (IsNull equal e) want (scalar, stays) calls own_calls before on takes compares m hands facts so allowed only own keep n' same =
        scalar_value (IsNull equal e) stays before on takes calls compares m hands facts so allowed only n' same
    value_on (Name p x steps t) want (lead, fits) calls own_calls before on takes compares m hands facts so allowed only own keep n' same =
        let name : PlaceName = name_of x steps in
        let law = values.behaves m hands facts so only in
        let last : List Placed = record { pos = p; act = used h.typing name t } ∷ [] in
        let each = allows_both facts (acts (acts_in h.typing steps)) (used h.typing name t ∷ []) (subst (AllowsAll facts) (acts_append (acts_in h.typing steps) last) allowed) in
        let inner = law.steps (object_at h.typing x).of t steps lead before on takes calls each.0 in
        name_by m hands facts law x steps t before on lead takes calls compares each.0
        (subst (λ z. Allows z (used h.typing name t)) inner.1 each.1.0)
        (asks.both_keep (acts (acts_in h.typing steps)) (used h.typing name t ∷ []) (subst asks.keeps (acts_append (acts_in h.typing steps) last) keep)).1
        (is_owning h.typing.table t) refl n' same
    value_on (New t (More e rest)) want (d, c, n, is, fits, (none, gives)) calls own_calls before on takes compares m hands facts so allowed only own keep n' same =
        let acts_same : acts_in h.typing e ++ acts_in h.typing rest ≡ acts_in h.typing e = ap (λ z. acts_in h.typing e ++ acts_in h.typing z) none ∙ append-nil (acts_in h.typing e) in
        let alone_there : waiting e + waiting rest ≡ waiting e = ap (λ z. waiting e + waiting z) none ∙ nothing_more (waiting e) in
        let now : Now = record { memory = m; waits = before } in
        allocated_same t (followed_by (evaluate h AsValue e now) (checked h t)) (followed_by (evaluate h AsValue e n') (checked h t))
        (checked_same t (evaluate h AsValue e now) (evaluate h AsValue e n')
        (value_on e t gives (asks.both_calls (has_call e) (has_call rest) calls).0 (asks.both_give e rest (asks.made t (More e rest) own_calls)).0 before on (takes_as (waiting e + waiting rest) (waiting e) before on alone_there takes)
        compares.0 m hands facts so (subst (λ z. AllowsAll facts (acts z)) acts_same allowed) only (asks.new want t d c n is fits)
        (subst (λ z. asks.keeps (acts z)) acts_same keep) n' same))
    value_on (New t NoMore) want (d, c, n, is, fits, none) calls own_calls before on takes compares m hands facts so allowed only own keep n' same =
        allocated_same t (Done (default h.typing.table t) (record { memory = m; waits = before })) (Done (default h.typing.table t) n') (refl, same)
    value_on (New t v) want (d, c, n, is, fits, none) calls own_calls before on takes compares m hands facts so allowed only own keep n' same = absurd none
    value_on (Aggregate t es) want (fits, made, count, gives) calls own_calls before on takes compares m hands facts so allowed only own keep n' same =
        parts_same es t 0 gives calls (asks.filled t es own_calls) before on takes compares m hands facts so allowed only made keep n' same
    value_on (Alike t e) want (fits, array, plain, gives) calls own_calls before on takes compares m hands facts so allowed only own keep n' same =
        let now : Now = record { memory = m; waits = before } in
        let el : ℕ = machine.element_type h.typing.table t in
        let repeats : List machine.Word → Now → Evaluated (List machine.Word) = (λ ws n. Done (machine.repeated (machine.element_count h.typing.table t) ws) n) in
        subst (λ z. SameTo h.typing z (evaluate h AsValue (Alike t e) n')) (regrouped (evaluate h AsValue e now) (checked h el) repeats)
        (subst (SameTo h.typing (followed_by (followed_by (evaluate h AsValue e now) (checked h el)) repeats)) (regrouped (evaluate h AsValue e n') (checked h el) repeats)
        (simply h.typing (followed_by (evaluate h AsValue e now) (checked h el)) (followed_by (evaluate h AsValue e n') (checked h el)) repeats repeats
        (checked_same el (evaluate h AsValue e now) (evaluate h AsValue e n') (value_on e el gives calls (asks.alike t e own_calls) before on takes compares m hands facts so allowed only (asks.element t) keep n' same))
        (λ ws n n'' last. (refl, last))))
    -- the result of a function waits
    value_on (Call p sub actuals) want gives calls own_calls before on takes compares m hands facts so allowed only own keep n' same = (
      ap (λ ws. get_or ws 0 []) same.1,
      (same.0, ap (drop 1) same.1, same.2),
    )
    value_on e want gives calls own_calls before on takes compares m hands facts so allowed only own keep n' same = absurd gives

    -- the parts of an aggregate from the i-th on
    parts_same : (es : TypedTree) (t i : ℕ) → GivesParts h.typing t i es → asks.calls (has_call es) → asks.gives es → (before on : List (List machine.Word))
        → Takes (waiting es) before on → Compares h.typing es
        → (m : Memory) (hands : List Waiting) (facts : List Fact) → ready m hands facts → AllowsAll facts (acts (acts_in h.typing es)) → OnlyOwners h.typing m
        → is_record (shape_of h.typing.table t) || is_array (shape_of h.typing.table t) ≡ true → asks.keeps (acts (acts_in h.typing es)) → (n' : Now) → SameNow h.typing (record { memory = m; waits = before }) n'
        → Same (parts_of h t i es (record { memory = m; waits = before })) (parts_of h t i es n')
    parts_same (More e rest) t i gives calls own_calls before on takes compares m hands facts so allowed only made keep n' same =
        let now : Now = record { memory = m; waits = before } in
        let u : ℕ = part_type (shape_of h.typing.table t) i in
        let both = asks.both_calls (has_call e) (has_call rest) calls in
        let own_both = asks.both_give e rest own_calls in
        let names = asks.both_keep (acts (acts_in h.typing e)) (acts (acts_in h.typing rest)) (subst asks.keeps (acts_append (acts_in h.typing e) (acts_in h.typing rest)) keep) in
        let part = asks.part t i made in
        let two = takes_both (waiting e) (waiting rest) before on takes in
        let each = allows_both facts (acts (acts_in h.typing e)) (acts (acts_in h.typing rest))
        (subst (AllowsAll facts) (acts_append (acts_in h.typing e) (acts_in h.typing rest)) allowed) in
        let between : List Fact = after (acts (acts_in h.typing e)) facts in
        let next : List machine.Word → Now → Evaluated (List machine.Word) =
        (λ ws now. followed_by (parts_of h t (suc i) rest now) (λ more now. Done (ws ++ more) now)) in
        let given = checked_by h ready two.0 u u hands between (evaluate h AsValue e now)
        (values.given e u gives.0 both.0 own_both.0 before two.0 two.1 m hands facts so each.0 part names.0) in
        let first = checked_same u (evaluate h AsValue e now) (evaluate h AsValue e n')
        (value_on e u gives.0 both.0 own_both.0 before two.0 two.1 compares.0 m hands facts so each.0 only part names.0 n' same) in
        subst (λ z. SameTo h.typing z (parts_of h t i (More e rest) n')) (regrouped (evaluate h AsValue e now) (checked h u) next)
        (subst (SameTo h.typing (followed_by (followed_by (evaluate h AsValue e now) (checked h u)) next)) (regrouped (evaluate h AsValue e n') (checked h u) next)
        (then_same h.typing (GivenBy h ready two.0 u hands between) (followed_by (evaluate h AsValue e now) (checked h u)) (followed_by (evaluate h AsValue e n') (checked h u)) next next given first
        (λ ws n n'' there still. simply h.typing (parts_of h t (suc i) rest n) (parts_of h t (suc i) rest n'') (λ more now. Done (ws ++ more) now) (λ more now. Done (ws ++ more) now)
        (subst (λ z. SameNow h.typing (record { memory = n.memory; waits = z }) n''
        → SameTo h.typing (parts_of h t (suc i) rest (record { memory = n.memory; waits = z })) (parts_of h t (suc i) rest n'')) (sym there.2)
        (λ still_so. parts_same rest t (suc i) gives.1 both.1 own_both.1 two.0 on two.2 compares.1 n.memory (record { of = u; words = ws } ∷ hands) between there.0 each.1 still.2 made names.1 n'' still_so) still)
        (λ more k k' last. (ap (λ z. ws ++ z) refl, last)))))
    parts_same NoMore t i gives calls own_calls before on takes compares m hands facts so allowed only made keep n' same = (refl, same)
    parts_same es t i gives calls own_calls before on takes compares m hands facts so allowed only made keep n' same = absurd gives
