-- Values of types that own nothing, from names, aggregates and scalar expressions: nothing changes, and the words fit the
-- type.
use Rattle.std.proofs.Common.{◌≡◌, refl, sym, ap, ◌∙◌, subst, inl, inr, ℕ, zero, suc, ◌+◌, ◌<◌, Bool, true, false, ◌||◌, List, [], ◌∷◌, ◌++◌, length, get_or, arith, append-nil, append_assoc, if◌then◌else◌}
use Rattle.std.proofs.lemmas.List.{length-append, length-map}
use Rattle.std.proofs.lemmas.Bool.{true≢false, false≢true}
use Rattle.machine.specs.place_names.declared.act.Act.TheVariants as act
use Rattle.machine.specs.place_names.declared.act.Placed.{Placed}
use Rattle.machine.specs.place_names.declared.fact.Fact.{Fact}
use Rattle.machine.specs.type_definitions.declared.table.Component.{Component as Part}
use Rattle.machine.specs.type_definitions.declared.table.Shape.{Shape}
use Rattle.machine.specs.type_definitions.declared.table.Shape.TheVariants as shape
use Rattle.machine.specs.type_definitions.Types.{shape_of, full, is_scalar, is_owning, words, owns_of, any_owns}
use Rattle.machine.specs.typed_tree.Trees.{TypedTree, Number, Literal, Name, Call, EndOfFile, Parens, Unary, Binary, Short, IsNull, Aggregate, Alike, New, NoMore, More}
use Rattle.soundness.specs.OwnedWays.Ways.{Allows, AllowsAll, Loc, Object, OfVariable, Reaches, Step, Way, after}
use Rattle.soundness.specs.OwnedLoans.Views.{Around, Viewed, Views, expand}
use Rattle.machine.specs.Evaluate.{AsValue, ConstraintError, Done, Evaluated, Here, Now, Raises, Traps, checked, evaluate, followed_by, held_or_taken, part_type, parts_of, steps_of, variable_place, waited, walked}
use Rattle.soundness.specs.TypedLaws.Needed.{Gives, GivesParts, IndexLaw, Leads, Stays}
use Rattle.soundness.proofs.ViewedSoundness.Stays.{Goes as GoesAlong, name_quiet, steps_taking, taking}
use Rattle.soundness.specs.ViewedSoundness.Holds.{Holds, IsNamed, IsOwners, PartsAreNamed, Seeing}
use Rattle.soundness.specs.ViewedSoundness.Taken.{type_given, types_taken, TakesFit}
use Rattle.soundness.proofs.ViewedSoundness.Evaluated.{part_named}
use Rattle.viewed_steps.proofs.Entered.{IsFit}
use Rattle.soundness.specs.Seen.{IsNear, content, home, in_hand, seen, trunk}
use Rattle.soundness.specs.PartOffsets.Parts.{IsSettled, has_part, offset_in, type_in}
use Rattle.soundness.specs.Typed.{Kept, Matches, OwnsByShape, Points}
use Rattle.machine.specs.States.{Leak, Waiting}
use Rattle.machine.specs.Memory.{Memory, Place, Slot, moved_out, slots_of, words_of}
use Rattle.soundness.proofs.Stays.{One, Quiet, quiet_then, quiet_from}
use Rattle.machine.specs.spark_base.declared.position.Pos.{Pos}
use Rattle.soundness.proofs.Taking.{Takes}
use Rattle.soundness.proofs.Waits.{drop_none}
use Rattle.viewed_steps.proofs.Supplied.{Supplies, supplies_both, supplies_none, supplies_one, takes_supplied}
use Rattle.machine.specs.flow_paths.Objects.{Typing, object_at}
use Rattle.soundness.proofs.Walks.{Walked, way_along}
use Rattle.soundness.proofs.Scalars.{acts, acts_append, after_append, allows_both, read_effect}
use Rattle.machine.specs.flow_paths.Acts.{acts_in, placed, used}
use Rattle.machine.specs.place_names.Facts.{effect}
use Rattle.machine.specs.Words.{element_of, element_type, fits_type, no_component, element_count}
use Rattle.machine.specs.Typed.{field_count, is_array, is_record, tree_count}
use Rattle.soundness.proofs.Keeping.{joined, repeated, repeated_long, retyped_points, scalar, top_points, kept_with}
use Rattle.soundness.proofs.Lasting.{keeps}
use Rattle.soundness.proofs.Steps.{matches_words, room, taken_slots}
use Rattle.machine.specs.flow_paths.Names.{name_of, waiting as waits_in}
use Rattle.soundness.proofs.Filling.{nth_part, part_is, part_offset, part_there, words_next, words_none, words_to, words_whole}
use Rattle.soundness.proofs.Fixed.{plain_word}
use Rattle.soundness.proofs.OwnedLoans.Allowed.{read_open}
use Rattle.machine.specs.Words as machine
use Rattle.machine.specs.typed_tree.Trees as typed
use Rattle.soundness.proofs.Passing.{AreReads}
use Rattle.viewed_steps.proofs.Reading.{no_reads, one_read, both_reads, reads_in, index_reads, unowned, unowned_read}
use Rattle.soundness.proofs.Parted.{null_cell}

-- ---- parts of what owns nothing own nothing

none_owns : (owns : ℕ → Bool) (cs : List Part) (i : ℕ) (other : Part) → i < length cs → any_owns owns cs ≡ false → owns (get_or cs i other).of ≡ false
none_owns owns [] i other lt none = absurd (omega (arith, lt))
none_owns owns (c ∷ cs) zero other lt none = first (owns c.of) (any_owns owns cs) none
  where
    first : (a b : Bool) → a || b ≡ false → a ≡ false
    first true b e = absurd (true≢false e)
    first false b e = refl
none_owns owns (c ∷ cs) (suc i) other lt none = none_owns owns cs i other (omega (arith, lt)) (later (owns c.of) (any_owns owns cs) none)
  where
    later : (a b : Bool) → a || b ≡ false → b ≡ false
    later true b e = absurd (true≢false e)
    later false b e = e

pub part_owns : (owns : ℕ → Bool) (sh : Shape) (i : ℕ) → i < field_count sh → is_record sh || is_array sh ≡ true → owns_of owns sh ≡ false → owns (part_type sh i) ≡ false
part_owns owns (shape.Fields cs) i lt made none = none_owns owns cs i no_component lt none
part_owns owns (shape.Elements low high element) i lt made none = none
part_owns owns (shape.Whole a b) i lt made none = absurd (false≢true made)
part_owns owns (shape.Listed l a b) i lt made none = absurd (false≢true made)
part_owns owns (shape.Access d c n) i lt made none = absurd (false≢true made)
part_owns owns (shape.Same of) i lt made none = absurd (false≢true made)

pub element_owns : (owns : ℕ → Bool) (sh : Shape) → is_array sh ≡ true → owns_of owns sh ≡ false → owns (element_of sh) ≡ false
element_owns owns (shape.Elements low high element) array none = none
element_owns owns (shape.Fields cs) array none = absurd (false≢true array)
element_owns owns (shape.Whole a b) array none = absurd (false≢true array)
element_owns owns (shape.Listed l a b) array none = absurd (false≢true array)
element_owns owns (shape.Access d c n) array none = absurd (false≢true array)
element_owns owns (shape.Same of) array none = absurd (false≢true array)

-- no value of a named access type owns nothing
pub no_cell : (s : Typing) → OwnsByShape s.table → (want d : ℕ) (constant by_name : Bool) → shape_of s.table want ≡ shape.Access d constant by_name → IsNamed s.table want
    → is_owning s.table want ≡ false → ⊥
no_cell s own_law want d constant by_name is named none =
    let no : true ≡ false = sym (named d constant by_name is) ∙ ap (owns_of (is_owning s.table)) (sym is) ∙ sym (own_law want) ∙ none in absurd (true≢false no)

-- ---- the acts

-- What gives a value that owns nothing reads alone.
module _ (s : Typing) (own_law : OwnsByShape s.table) (parts_named : PartsAreNamed s.table) where
  mutual
    unfolding Gives GivesParts Stays acts_in

    pub copies_read : (e : TypedTree) (want : ℕ) → Gives s want e → is_owning s.table want ≡ false → IsNamed s.table want → AreReads (acts_in s e)
    copies_read (Number n) want gives none named = no_reads
    copies_read (Literal n) want gives none named = no_reads
    copies_read EndOfFile want gives none named = no_reads
    copies_read typed.Null want gives none named = no_reads
    copies_read (Call p n actuals) want gives none named = no_reads
    copies_read (Parens e) want gives none named = copies_read e want gives none named
    copies_read (Unary op e) want gives none named = reads_in s own_law (Unary op e) gives.1
    copies_read (Binary op a b) want gives none named = reads_in s own_law (Binary op a b) (gives.1, gives.2)
    copies_read (Short op p a q b) want gives none named = reads_in s own_law (Short op p a q b) (gives.1, gives.2)
    copies_read (IsNull equal e) want gives none named = reads_in s own_law (IsNull equal e) gives.1
    copies_read (Name p x steps t) want (lead, fits) none named =
        both_reads (acts_in s steps) (placed p (used s (name_of x steps) t) ∷ []) (index_reads s own_law (Name p x steps t) t (lead, refl))
        (one_read (placed p (used s (name_of x steps) t)) (name_of x steps, inl (unowned_read s own_law (name_of x steps) t want fits none)))
    copies_read (Aggregate t es) want (fits, made, count, gives) none named =
        parts_read es t 0 gives (unowned s own_law t want fits none) (omega (arith, count)) made
    copies_read (Alike t e) want (fits, array, plain, gives) none named =
        copies_read e (element_type s.table t) gives
        (element_owns (is_owning s.table) (shape_of s.table t) array (sym (own_law t) ∙ unowned s own_law t want fits none)) (parts_named.element t)
    copies_read (New t v) want (d, constant, by_name, is, fits, gives) none named = absurd (no_cell s own_law want d constant by_name is named none)
    copies_read e want gives none named = absurd gives

    parts_read : (es : TypedTree) (t i : ℕ) → GivesParts s t i es → is_owning s.table t ≡ false
        → i + tree_count es ≡ field_count (shape_of s.table t) → is_record (shape_of s.table t) || is_array (shape_of s.table t) ≡ true → AreReads (acts_in s es)
    parts_read (More e rest) t i gives none count made =
        let sh : Shape = shape_of s.table t in
        both_reads (acts_in s e) (acts_in s rest)
        (copies_read e (part_type sh i) gives.0 (part_owns (is_owning s.table) sh i (omega (arith, count)) made (sym (own_law t) ∙ none)) (part_named s.table parts_named t i sh refl made))
        (parts_read rest t (suc i) gives.1 none (omega (arith, count)) made)
    parts_read NoMore t i gives none count made = no_reads
    parts_read es t i gives none count made = absurd gives

module _ (h : Here) (sees : ℕ → Bool) (seeing : Seeing h.typing sees) (settled : IsSettled h.typing.table) (hands : List Waiting) (leaks : List Leak) (m : Memory) (waits : List (List machine.Word))
    (other : Around (home h.typing h.frame)) (facts : List Fact) (v : Views)
    (kept : Kept h.typing m hands)
    (well : Viewed (home h.typing h.frame) sees other v (seen h.typing m hands leaks) facts)
    (holds : Holds h.typing sees h.frame v m)
    (alone : (w : Way) → IsNear h.frame w → other.gone w → ⊥)
    (live : (w : Way) (l : Loc) → IsOwners h.typing w → Reaches (seen h.typing m hands leaks) w l → (content h.typing m hands (trunk l)).owns ≡ true)
    (index_law : IndexLaw)
    (own_law : OwnsByShape h.typing.table)
    (parts_named : PartsAreNamed h.typing.table) where
  abbrev s : Typing
  s = h.typing

  abbrev at : List (List machine.Word) → Now
  at ws = record { memory = m; waits = ws }

  abbrev Fits : ℕ → List machine.Word → Type 0
  Fits t ws = IsFit h.typing m t ws

  abbrev Stay : List Placed → Type 0
  Stay ps = after (acts ps) facts ≡ facts

  quiet_as : (on : List (List machine.Word)) (P Q : List machine.Word → Type 0) → ((ws : List machine.Word) → P ws → Q ws) → (y : Evaluated (List machine.Word))
      → Quiet (at on) P y → Quiet (at on) Q y
  quiet_as on P Q f (Done ws n) is = (is.0, f ws is.1)
  quiet_as on P Q f (Raises e n) is = is
  quiet_as on P Q f (Traps e n) never = never

  checked_quiet : (on : List (List machine.Word)) (P : List machine.Word → Type 0) (t : ℕ) (ws : List machine.Word) → P ws → Quiet (at on) P (checked h t ws (at on))
  checked_quiet on P t ws is = by_test (fits_type h.typing.table t ws)
    where
      by_test : (b : Bool) → Quiet (at on) P (if b then Done ws (at on) else Raises ConstraintError (at on))
      by_test true = (refl, is)
      by_test false = refl

  in_typed : (t : ℕ) (ws : List machine.Word) → Points s m (in_hand (record { of = t; words = ws })) → Kept s m (record { of = t; words = ws } ∷ hands)
  in_typed t ws points = kept_with s settled m (record { of = t; words = ws }) hands points kept

  plain_fits : (t : ℕ) (ws : List machine.Word) → is_scalar (full s.table t) ≡ true → One ws → Fits t ws
  plain_fits t ws plain one = (
    one ∙ sym (plain_word s settled t plain),
    top_points s settled m (record { of = t; words = ws }) hands (scalar s settled m (record { of = t; words = ws }) hands plain kept).points,
  )

  retyped : (t u : ℕ) (ws : List machine.Word) → Matches s.table t u → Fits t ws → Fits u ws
  retyped t u ws fits these = let (long, points) = these in (long ∙ matches_words s.table settled t u fits, retyped_points s settled m t u ws fits points)

  -- another part behind those before
  part_fits : (t u : ℕ) (acc ws : List machine.Word) (step : Step) → has_part s.table t (step ∷ []) ≡ true → offset_in s.table t (step ∷ []) ≡ length acc
      → type_in s.table t (step ∷ []) ≡ u → Points s m (in_hand (record { of = t; words = acc })) → Fits u ws → Points s m (in_hand (record { of = t; words = acc ++ ws }))
  part_fits t u acc ws step there offset is before these =
      let (long, points) = these in
      let part : Waiting = record { of = t; words = acc } in
      top_points s settled m (record { of = t; words = acc ++ ws }) hands
      (joined s settled m u t ws acc hands step there offset (long ∙ ap (words s.table) (sym is)) (inl (ap (shape_of s.table) (sym is)))
      (kept_with s settled m (record { of = u; words = ws }) (part ∷ hands) points (in_typed t acc before))).points

  -- one for all elements
  repeated_fits : (t : ℕ) (ws : List machine.Word) → is_array (shape_of s.table t) ≡ true → Fits (element_type s.table t) ws
      → Fits t (machine.repeated (element_count s.table t) ws)
  repeated_fits t ws array these = let (long, points) = these in (
    repeated_long s settled t ws (shape_of s.table t) refl array long,
    top_points s settled m (record { of = t; words = machine.repeated (element_count s.table t) ws }) hands
        (repeated s settled m t ws hands (shape_of s.table t) refl array long (in_typed (element_type s.table t) ws points)).points,
  )

  both_stay : (a b : List Placed) → Stay a → Stay b → Stay (a ++ b)
  both_stay a b x y = ap (λ z. after z facts) (acts_append a b) ∙ after_append (acts a) (acts b) facts ∙ ap (after (acts b)) x ∙ y

  both_allowed : (a b : List Placed) → AllowsAll facts (acts (a ++ b)) → (Stay a → AllowsAll facts (acts b)) × AllowsAll facts (acts a)
  both_allowed a b x =
      let each = allows_both facts (acts a) (acts b) (subst (AllowsAll facts) (acts_append a b) x) in
      (λ stay. subst (λ z. AllowsAll z (acts b)) stay each.1, each.0)

  -- a name
  name_fits : (p : Pos) (x t want : ℕ) (steps : TypedTree) → Leads s (object_at s x).of steps t → Matches s.table t want → is_owning s.table want ≡ false
      → (before on : List (List machine.Word)) → Takes (waits_in (Name p x steps t)) before on → AllowsAll facts (acts (acts_in s (Name p x steps t)))
      → Quiet (at on) (Fits want) (evaluate h AsValue (Name p x steps t) (at before)) × Stay (acts_in s (Name p x steps t))
  unfolding evaluate waits_in acts_in
  name_fits p x t want steps lead fits none before on takes allowed =
      let owns = unowned s own_law t want fits none in
      let is : used s (name_of x steps) t ≡ act.Read (name_of x steps) = unowned_read s own_law (name_of x steps) t want fits none in
      let last : List Placed = placed p (used s (name_of x steps) t) ∷ [] in
      let each = both_allowed (acts_in s steps) last allowed in
      let inner = steps_taking h sees seeing settled hands leaks m waits other facts v kept well holds alone live index_law own_law parts_named (object_at s x).of t steps lead before on takes each.1 in
      let reads : Allows facts (act.Read (name_of x steps)) = subst (Allows facts) is (each.0 inner.1).0 in (
        quiet_then (at on) (λ way. GoesAlong s.table (object_at s x).of t steps way) (Fits want) (steps_of h steps (at before))
            (λ way now. followed_by (walked h.typing way (variable_place h x) now) (held_or_taken h AsValue)) inner.0
            (λ way goes. held_fits on (expand v (way_along way (Object (OfVariable (home s h.frame x) x)))) t want owns fits
            (walked h.typing way (variable_place h x) (at on))
            (name_quiet h sees seeing settled hands leaks m on other facts v kept well holds alone live index_law own_law parts_named x steps t way goes
            (λ w named called. read_open facts w (subst (λ z. Allows facts (act.Read z)) (sym called) reads)))),
        both_stay (acts_in s steps) last inner.1 (ap (λ a. effect a facts) is ∙ read_effect (name_of x steps) facts),
      )
    where
      held_fits : (on : List (List machine.Word)) (w : Way) (t want : ℕ) → is_owning s.table t ≡ false → Matches s.table t want → (y : Evaluated Place)
          → Walked h.typing settled hands leaks m on w t y → Quiet (at on) (Fits want) (followed_by y (held_or_taken h AsValue))
      held_fits on w t want none fits (Done k n) (l, same, spot, reaches, of) = (
        ap (λ b. if b then record n { memory = moved_out h.typing k n.memory } else n) (ap (is_owning s.table) of ∙ none) ∙ same,
        subst (λ (z : Now). Fits want (words_of h.typing z.memory k)) (sym same)
            (retyped t want (words_of h.typing m k) fits (
              length-map (slots_of h.typing m k) (λ (z : Slot). z.word)
                  ∙ (taken_slots h.typing settled m k (room h.typing settled m hands kept k l spot)).0 ∙ ap (words s.table) of,
              subst (λ z. Points s m (in_hand (record { of = z; words = words_of h.typing m k }))) of
                  (top_points s settled m (record { of = k.of; words = words_of h.typing m k }) hands ((keeps s settled own_law).copied m hands k l spot kept).points),
            )),
      )
      held_fits on w t want none fits (Raises e n) is = is
      held_fits on w t want none fits (Traps e n) never = absurd never

  scalar_fits : (e : TypedTree) (want : ℕ) → is_scalar (full s.table want) ≡ true → Stays s e → (before on : List (List machine.Word)) → Takes (waits_in e) before on
      → AllowsAll facts (acts (acts_in s e)) → Quiet (at on) (Fits want) (evaluate h AsValue e (at before)) × Stay (acts_in s e)
  scalar_fits e want plain stays before on takes allowed =
      let both = taking h sees seeing settled hands leaks m waits other facts v kept well holds alone live index_law own_law parts_named AsValue e stays before on takes allowed in
      (quiet_as on One (Fits want) (λ ws one. plain_fits want ws plain one) (evaluate h AsValue e (at before)) both.0, both.1)

  -- what a function gave
  waited_fits : (t want : ℕ) → Matches s.table t want → (before on : List (List machine.Word)) → Supplies s m (t ∷ []) before on
      → Quiet (at on) (Fits want) (waited (at before))
  waited_fits t want fits before on supplied =
      let one = supplies_one s settled m t before on supplied in
      subst (λ z. Quiet (at on) (Fits want) (waited (at z))) (sym one.1) (ap at (drop_none on), retyped t want one.0 fits one.2)

  mutual
    unfolding Gives GivesParts TakesFit types_taken Stays evaluate parts_of acts_in

    pub copy_quiet : (e : TypedTree) (want : ℕ) → Gives s want e → is_owning s.table want ≡ false → IsNamed s.table want → TakesFit s e → (before on : List (List machine.Word)) → Supplies s m (types_taken s e) before on
        → AllowsAll facts (acts (acts_in s e)) → Quiet (at on) (Fits want) (evaluate h AsValue e (at before)) × Stay (acts_in s e)
    copy_quiet (Number n) want plain none named copied before on takes allowed = scalar_fits (Number n) want plain tt before on (takes_supplied s settled m (Number n) before on copied takes) allowed
    copy_quiet (Literal n) want plain none named copied before on takes allowed = scalar_fits (Literal n) want plain tt before on (takes_supplied s settled m (Literal n) before on copied takes) allowed
    copy_quiet EndOfFile want plain none named copied before on takes allowed = scalar_fits EndOfFile want plain tt before on (takes_supplied s settled m EndOfFile before on copied takes) allowed
    copy_quiet typed.Null want one none named copied before on takes allowed = (
      (
        ap at (supplies_none s m before on takes),
        (
          sym one,
          top_points s settled m (record { of = want; words = machine.Null ∷ [] }) hands
              ((keeps s settled own_law).plain m (record { of = want; words = machine.Null ∷ [] }) hands (λ k has. elim has [ inl e ↦ null_cell e | inr never ↦ never ]) kept).points,
        ),
      ),
      refl,
    )
    copy_quiet (Parens e) want gives none named copied before on takes allowed = copy_quiet e want gives none named copied before on takes allowed
    copy_quiet (Unary op e) want (plain, stays) none named copied before on takes allowed = scalar_fits (Unary op e) want plain stays before on (takes_supplied s settled m (Unary op e) before on copied takes) allowed
    copy_quiet (Binary op a b) want (plain, stays, stays') none named copied before on takes allowed = scalar_fits (Binary op a b) want plain (stays, stays') before on (takes_supplied s settled m (Binary op a b) before on copied takes) allowed
    copy_quiet (Short op p a q b) want (plain, stays, stays') none named copied before on takes allowed = scalar_fits (Short op p a q b) want plain (stays, stays') before on (takes_supplied s settled m (Short op p a q b) before on copied takes) allowed
    copy_quiet (IsNull equal e) want (plain, stays) none named copied before on takes allowed = scalar_fits (IsNull equal e) want plain stays before on (takes_supplied s settled m (IsNull equal e) before on copied takes) allowed
    copy_quiet (Name p x steps t) want (lead, fits) none named copied before on takes allowed = name_fits p x t want steps lead fits none before on (takes_supplied s settled m (Name p x steps t) before on copied takes) allowed
    copy_quiet (Aggregate t es) want (fits, made, count, gives) none named copied before on takes allowed =
        let inner = parts_quiet es t 0 gives (unowned s own_law t want fits none) copied (omega (arith, count)) made before on takes []
        (sym (words_none (words s.table) (shape_of s.table t)))
        (top_points s settled m (record { of = t; words = [] }) hands ((keeps s settled own_law).plain m (record { of = t; words = [] }) hands (λ k has. has) kept).points) allowed in
        (quiet_as on (Fits t) (Fits want) (λ ws fit. retyped t want ws fits fit) (parts_of h t 0 es (at before)) inner.0, inner.1)
    copy_quiet (Alike t e) want (fits, array, plain, gives) none named copied before on takes allowed =
        let el : ℕ = element_type s.table t in
        let owns : is_owning s.table el ≡ false = element_owns (is_owning s.table) (shape_of s.table t) array (sym (own_law t) ∙ unowned s own_law t want fits none) in
        let inner = copy_quiet e el gives owns (parts_named.element t) copied before on takes allowed in (
          quiet_then (at on) (Fits el) (Fits want) (evaluate h AsValue e (at before))
              (λ ws now. followed_by (checked h el ws now) (λ ws now. Done (machine.repeated (element_count s.table t) ws) now)) inner.0
              (λ ws fit. quiet_then (at on) (Fits el) (Fits want) (checked h el ws (at on)) (λ ws now. Done (machine.repeated (element_count s.table t) ws) now)
              (checked_quiet on (Fits el) el ws fit) (λ us good. (refl, retyped t want (machine.repeated (element_count s.table t) us) fits (repeated_fits t us array good)))),
          inner.1,
        )
    copy_quiet (New t e) want (d, constant, by_name, is, fits, gives) none named copied before on takes allowed =
        absurd (no_cell s own_law want d constant by_name is named none)
    copy_quiet (Call p n actuals) want (t, is, fits) none named copied before on takes allowed =
        (waited_fits t want fits before on (subst (λ r. Supplies s m (type_given r ∷ []) before on) is takes), refl)
    copy_quiet e want gives none named copied before on takes allowed = absurd gives

    parts_quiet : (es : TypedTree) (t i : ℕ) → GivesParts s t i es → is_owning s.table t ≡ false → TakesFit s es
        → i + tree_count es ≡ field_count (shape_of s.table t) → is_record (shape_of s.table t) || is_array (shape_of s.table t) ≡ true
        → (before on : List (List machine.Word)) → Supplies s m (types_taken s es) before on → (acc : List machine.Word)
        → length acc ≡ words_to (words s.table) (shape_of s.table t) i → Points s m (in_hand (record { of = t; words = acc }))
        → AllowsAll facts (acts (acts_in s es)) → Quiet (at on) (λ ws. Fits t (acc ++ ws)) (parts_of h t i es (at before)) × Stay (acts_in s es)
    parts_quiet (More e rest) t i gives none copied count made before on takes acc long points allowed =
        let sh : Shape = shape_of s.table t in
        let u : ℕ = part_type sh i in
        let lt : i < field_count sh = omega (arith, count) in let two = supplies_both s m (types_taken s e) (types_taken s rest) before on takes in
        let each = both_allowed (acts_in s e) (acts_in s rest) allowed in
        let first = copy_quiet e u gives.0 (part_owns (is_owning s.table) sh i lt made (sym (own_law t) ∙ none)) (part_named s.table parts_named t i sh refl made) copied.0 before two.0 two.1 each.1 in
        let allowed_rest = each.0 first.1 in
        let next : List machine.Word → Now → Evaluated (List machine.Word) = (λ ws now. followed_by (parts_of h t (suc i) rest now) (λ more now. Done (ws ++ more) now)) in (
          quiet_from (at two.0) (at on) (Fits u) (λ ws. Fits t (acc ++ ws)) refl (evaluate h AsValue e (at before)) (λ ws now. followed_by (checked h u ws now) next) first.0
              (λ ws fit. quiet_from (at two.0) (at on) (Fits u) (λ ws. Fits t (acc ++ ws)) refl (checked h u ws (at two.0)) next (checked_quiet two.0 (Fits u) u ws fit)
              (λ us good. (
              let size : length (acc ++ us) ≡ length acc + length us = length-append acc us in
              let step = words_next (words s.table) sh i lt in
              let more_long : length (acc ++ us) ≡ words_to (words s.table) sh (suc i) = (let own = good.0 in omega (arith, size, step, long, own)) in
              let behind = parts_quiet rest t (suc i) gives.1 none copied.1 (omega (arith, count)) made two.0 on two.2 (acc ++ us) more_long
              (part_fits t u acc us (nth_part sh i) (part_there s.table t sh refl i lt) (part_offset s.table t sh refl i lt ∙ sym long) (part_is s.table t sh refl i lt) points good) allowed_rest in
              quiet_then (at on) (λ more. Fits t ((acc ++ us) ++ more)) (λ ws. Fits t (acc ++ ws)) (parts_of h t (suc i) rest (at two.0)) (λ more now. Done (us ++ more) now) behind.0
              (λ more last. (refl, subst (Fits t) (append_assoc acc us more) last))))),
          both_stay (acts_in s e) (acts_in s rest) first.1
              (parts_stay rest t (suc i) gives.1 none copied.1 (omega (arith, count)) made two.0 on two.2 allowed_rest),
        )
    parts_quiet NoMore t i gives none copied count made before on takes acc long points allowed =
        let sh : Shape = shape_of s.table t in
        let end : i ≡ field_count sh = omega (arith, count) in (
          (
            ap at (supplies_none s m before on takes),
            (
              ap (λ (z : List machine.Word). length z) (append-nil acc) ∙ long ∙ ap (words_to (words s.table) sh) end ∙ words_whole (words s.table) sh made ∙ sym (settled.word_law t),
              subst (λ z. Points s m (in_hand (record { of = t; words = z }))) (sym (append-nil acc)) points,
            ),
          ),
          refl,
        )
    parts_quiet es t i gives none copied count made before on takes acc long points allowed = absurd gives

    -- the acts of parts read
    parts_stay : (es : TypedTree) (t i : ℕ) → GivesParts s t i es → is_owning s.table t ≡ false → TakesFit s es
        → i + tree_count es ≡ field_count (shape_of s.table t) → is_record (shape_of s.table t) || is_array (shape_of s.table t) ≡ true
        → (before on : List (List machine.Word)) → Supplies s m (types_taken s es) before on → AllowsAll facts (acts (acts_in s es)) → Stay (acts_in s es)
    parts_stay (More e rest) t i gives none copied count made before on takes allowed =
        let sh : Shape = shape_of s.table t in
        let lt : i < field_count sh = omega (arith, count) in let two = supplies_both s m (types_taken s e) (types_taken s rest) before on takes in
        let each = both_allowed (acts_in s e) (acts_in s rest) allowed in
        let first = copy_quiet e (part_type sh i) gives.0 (part_owns (is_owning s.table) sh i lt made (sym (own_law t) ∙ none)) (part_named s.table parts_named t i sh refl made) copied.0 before two.0 two.1 each.1 in
        both_stay (acts_in s e) (acts_in s rest) first.1
        (parts_stay rest t (suc i) gives.1 none copied.1 (omega (arith, count)) made two.0 on two.2 (each.0 first.1))
    parts_stay NoMore t i gives none copied count made before on takes allowed = refl
    parts_stay es t i gives none copied count made before on takes allowed = absurd gives
