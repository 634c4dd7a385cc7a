-- Values of expressions that only read, of names, and of calls that were made before.
use Rattle.std.proofs.Common.{◌≡◌, ℕ, zero, suc, ◌+◌, ◌≤◌, true, false, Bool, ◌&&◌, List, [], ◌∷◌, map, length, take, drop, get_or, refl, sym, ap, subst, ◌∙◌, arith, Option, Some, None, slice_get, ℤ, pos, if◌then◌else◌}
use Rattle.std.specs.Prelude.{option_and_then, nat_le, unsigned_abs}
use Rattle.run_values.specs.declared.value.Kind.TheVariants as sort
use Rattle.type_definitions.specs.declared.table.Shape.{Shape}
use Rattle.type_definitions.specs.declared.table.Shape.TheVariants as shape
use Rattle.type_definitions.specs.Types.{Table, shape_of, words, is_owning}
use Rattle.typed_tree.specs.Trees.{TypedTree}
use Rattle.flow_paths.specs.Names.{waiting}
use Rattle.machine.specs.Words.{Word, fits_type}
use Rattle.machine.specs.Typed.{Sort, Whole, Position, Pointer, sorts, same_sort, same_sorts, same_designated}
use Rattle.machine.specs.Memory.{Place}
use Rattle.machine.specs.Evaluate.{Evaluated, Done, followed_by, place_of, Use, AsValue, AsView, taken, held_or_taken, waited, checked}
use Rattle.run_codes.specs.Codes.{Code, Waiting, Fill, Checked, Pointer as LookedAt, MovedPointer, Copied, Moved, Waited}
use Rattle.run_codes.specs.Flat.{Flat, Got, Given, Broken, Made, reads, kind_of, kinds, some_words, word, filled, spot}
use Rattle.run_codes.specs.Flat as flat
use Rattle.run_codes.specs.Lowered.{Placed, load, place, place_value, waited_value, one_type, is_nth, is_taken, is_access, words_before_value, Scalar, scalar_of, same_scalar}
use Rattle.run_codes.specs.Related.{IsValue, Seen, table, here, now, types, IsSeen, Same, SpotSame, Lying}
use Rattle.run_codes.proofs.Parts.{many}
use Rattle.run_codes.proofs.Places.{impossible, some_same, if_some, both_true, holds}
use Rattle.run_codes.proofs.Expressions.{is_held}
use Rattle.run_codes.proofs.Spots.{place_same}
use Rattle.run_codes.proofs.Waits.{nth_there, waited_is, waited_word}
use Rattle.run_fills.specs.Filled.{IsWhole, Filled}
use Rattle.run_fills.proofs.Wholes.{seen, filled_by, filled_given}
use Rattle.run_fills.proofs.Single.{scalar_filled, whole_fresh, position_fresh, whole_fits, listed_fits, pointer_fits, pointer_filled, checked_fits}
use Rattle.run_fills.proofs.Values.{value_as}
use Rattle.run_fills.proofs.Names.{of_spot, place_word, scalar_shape, loose_fits, copied_filled}
use Rattle.run_fills.proofs.Moved.{moving, moved_filled}

never : {A : Type 0} → false ≡ true → A
never is = absurd (no_way is)
  where
    no_way : false ≡ true → ⊥
    no_way x = cc

-- ---- one sort

none_after : (b : Bool) → (b && false) ≡ false
none_after true = refl
none_after false = refl

pub whole_back : (table : Table) (a : List Sort) → same_sorts table a (Whole ∷ []) ≡ true → a ≡ Whole ∷ []
whole_back table [] is = never is
whole_back table (Whole ∷ []) is = refl
whole_back table (Position ∷ []) is = never is
whole_back table (Pointer d ∷ []) is = never is
whole_back table (s ∷ t ∷ a) is = never (sym (none_after (same_sort table s Whole)) ∙ is)

pub position_back : (table : Table) (a : List Sort) → same_sorts table a (Position ∷ []) ≡ true → a ≡ Position ∷ []
position_back table [] is = never is
position_back table (Whole ∷ []) is = never is
position_back table (Position ∷ []) is = refl
position_back table (Pointer d ∷ []) is = never is
position_back table (s ∷ t ∷ a) is = never (sym (none_after (same_sort table s Position)) ∙ is)

pub pointer_back : (table : Table) (a : List Sort) (d : ℕ) → same_sorts table a (Pointer d ∷ []) ≡ true → (c : ℕ) × (a ≡ Pointer c ∷ []) × (same_designated table c d ≡ true)
pointer_back table [] d is = never is
pointer_back table (Whole ∷ []) d is = never is
pointer_back table (Position ∷ []) d is = never is
pointer_back table (Pointer c ∷ []) d is = let both = both_true (same_designated table c d) true is in (c, refl, both.0)
pointer_back table (s ∷ t ∷ a) d is = never (sym (none_after (same_sort table s (Pointer d))) ∙ is)

-- A value of the sort of access values fits each type.
pub pointers_fit : (table : Table) (made : List ℕ) (want d : ℕ) (all : List Sort) (ws : List Word) (zs : List ℤ) → all ≡ Pointer d ∷ [] → IsValue table made all ws zs → fits_type table want ws ≡ true
pointers_fit table made want d all ws zs is value = by ws zs (subst (λ l. IsValue table made l ws zs) is value)
  where
    by : (ws : List Word) (zs : List ℤ) → IsValue table made (Pointer d ∷ []) ws zs → fits_type table want ws ≡ true
    by [] zs v = absurd v.stand
    by (w ∷ []) [] v = absurd v.stand
    by (w ∷ []) (z ∷ zs) v = pointer_fits table made want d (unsigned_abs z) w v.stand.0.0
    by (w ∷ x ∷ ws) zs v = absurd (omega (arith, v.words))

-- ---- what only reads

pub plain_filled : (e : Seen) (all : List Lying) → IsWhole e all → (j want : ℕ) (sh : Shape) (st : Sort) (c : Code) (ev : Evaluated (List Word)) (v : Fill) → shape_of (table e) want ≡ sh
    → option_and_then (λ (s : Scalar). if same_scalar s.sort st then Some (Checked c s.low s.high) else None) (scalar_of sh) ≡ Some v
    → Same e st j ev (word e.flat c)
    → Filled e all j (sorts (table e) want) (followed_by ev (checked (here e) want)) (filled (table e) v e.flat)
unfolding filled
plain_filled e all whole j want (shape.Whole low high) Whole c ev v is eq same =
    subst (λ v. Filled e all j (sorts (table e) want) (followed_by ev (checked (here e) want)) (filled (table e) v e.flat)) (some_same (Checked c low high) v eq)
    (scalar_filled e all whole j want Whole low high ev (word e.flat c) (whole.laws.whole want low high is) whole_fresh
    (λ w z stands. whole_fits (table e) (types e.memory) want low high z w is stands) same)
plain_filled e all whole j want (shape.Listed literals low high) Position c ev v is eq same =
    subst (λ v. Filled e all j (sorts (table e) want) (followed_by ev (checked (here e) want)) (filled (table e) v e.flat)) (some_same (Checked c (pos low) (pos high)) v eq)
    (scalar_filled e all whole j want Position (pos low) (pos high) ev (word e.flat c) (whole.laws.listed want low high literals is) position_fresh
    (λ w z stands. listed_fits (table e) (types e.memory) want low high z w literals is stands) same)
plain_filled e all whole j want (shape.Whole low high) Position c ev v is eq same = impossible v eq
plain_filled e all whole j want (shape.Whole low high) (Pointer d) c ev v is eq same = impossible v eq
plain_filled e all whole j want (shape.Listed literals low high) Whole c ev v is eq same = impossible v eq
plain_filled e all whole j want (shape.Listed literals low high) (Pointer d) c ev v is eq same = impossible v eq
plain_filled e all whole j want (shape.Access d constant named) st c ev v is eq same = impossible v eq
plain_filled e all whole j want (shape.Fields components) st c ev v is eq same = impossible v eq
plain_filled e all whole j want (shape.Elements low high element) st c ev v is eq same = impossible v eq
plain_filled e all whole j want (shape.Same of) st c ev v is eq same = impossible v eq

-- ---- names

taken_value : (table : Table) (u : Use) (t : ℕ) → is_taken table u t ≡ true → (u ≡ AsValue) × (is_owning table t ≡ true)
taken_value table AsValue t is = (refl, is)
taken_value table AsView t is = never is

access_is : (sh : Shape) → is_access sh ≡ true → (d : ℕ) × (constant : Bool) × (named : Bool) × (sh ≡ shape.Access d constant named)
access_is (shape.Access d constant named) is = (d, constant, named, refl)
access_is (shape.Whole low high) is = never is
access_is (shape.Listed literals low high) is = never is
access_is (shape.Fields components) is = never is
access_is (shape.Elements low high element) is = never is
access_is (shape.Same of) is = never is

pub name_filled : (e : Seen) (all : List Lying) → IsWhole e all → (k want : ℕ) (u : Use) (t : TypedTree) (q : Placed) (v : Fill) → place e.site k t ≡ Some q
    → place_value (table e) u want q ≡ Some v
    → Filled e all (k + waiting t) (sorts (table e) want) (followed_by (followed_by (place_of (here e) t (now e k)) (held_or_taken (here e) u)) (checked (here e) want))
    (filled (table e) v e.flat)
unfolding filled
name_filled e all whole k want u t q v is eq =
    let sure = if_some (one_type (table e) q.of want) (by_shape (shape_of (table e) want) (is_taken (table e) u q.of)) v eq in
    by (shape_of (table e) want) (is_taken (table e) u q.of) refl refl sure.0 sure.1
  where
    by_shape : Shape → Bool → Option Fill
    by_shape (shape.Whole low high) true = None
    by_shape (shape.Whole low high) false = Some (Checked (load sort.Int q.place) low high)
    by_shape (shape.Listed literals low high) true = None
    by_shape (shape.Listed literals low high) false = Some (Checked (load sort.Enum q.place) (pos low) (pos high))
    by_shape (shape.Access designated constant named) true = if is_access (shape_of (table e) q.of) then Some (MovedPointer q.place) else None
    by_shape (shape.Access designated constant named) false = Some (LookedAt (load sort.Access q.place))
    by_shape _ true = Some (Moved q.place q.of)
    by_shape _ false = Some (Copied q.place q.of)

    j : ℕ
    j = k + waiting t

    sees : IsSeen e
    sees = seen e all whole

    ev : Evaluated Place
    ev = place_of (here e) t (now e k)

    spots : SpotSame e j q.of ev (spot e.flat q.place)
    spots = place_same e sees t k q is

    -- what isn't taken is looked at
    held_ends : is_taken (table e) u q.of ≡ false → followed_by (followed_by ev (held_or_taken (here e) u)) (checked (here e) want) ≡ followed_by (followed_by ev (holds e.site.typing)) (checked (here e) want)
    held_ends lacks = ap (λ x. followed_by x (checked (here e) want)) (is_held (here e) u q.of ev lacks (of_spot e j q.of ev (spot e.flat q.place) spots))

    Ends : Fill → Type 0
    Ends v = Filled e all j (sorts (table e) want) (followed_by (followed_by ev (held_or_taken (here e) u)) (checked (here e) want)) (filled (table e) v e.flat)

    moved : (sh : Shape) → shape_of (table e) want ≡ sh → scalar_shape sh ≡ false → is_taken (table e) u q.of ≡ true → one_type (table e) q.of want ≡ true → Ends (Moved q.place q.of)
    moved sh shape_is lacks takes same =
        let used = taken_value (table e) u q.of takes in
        subst (λ u. Filled e all j (sorts (table e) want) (followed_by (followed_by ev (held_or_taken (here e) u)) (checked (here e) want)) (filled (table e) (Moved q.place q.of) e.flat)) (sym used.0)
        (moved_filled e all whole j q.of want q.place ev used.1 same (λ ws zs value. loose_fits (table e) want sh ws shape_is lacks) spots)

    copied : (sh : Shape) → shape_of (table e) want ≡ sh → scalar_shape sh ≡ false → is_taken (table e) u q.of ≡ false → one_type (table e) q.of want ≡ true → Ends (Copied q.place q.of)
    copied sh shape_is lacks takes same =
        filled_by e all j (sorts (table e) want) (followed_by (followed_by ev (held_or_taken (here e) u)) (checked (here e) want))
        (followed_by (followed_by ev (holds e.site.typing)) (checked (here e) want)) (filled (table e) (Copied q.place q.of) e.flat) (held_ends takes)
        (copied_filled e all whole j q.of want q.place ev same sh shape_is lacks spots)

    by : (sh : Shape) (b : Bool) → shape_of (table e) want ≡ sh → is_taken (table e) u q.of ≡ b → one_type (table e) q.of want ≡ true → by_shape sh b ≡ Some v → Ends v
    by (shape.Whole low high) true shape_is takes same eq = impossible v eq
    by (shape.Listed literals low high) true shape_is takes same eq = impossible v eq
    by (shape.Whole low high) false shape_is takes same eq =
        let wants = whole.laws.whole want low high shape_is in
        let has = whole_back (table e) (sorts (table e) q.of) (ap (λ l. same_sorts (table e) (sorts (table e) q.of) l) (sym wants) ∙ same) in
        subst (λ v. Ends v) (some_same (Checked (load sort.Int q.place) low high) v eq)
        (filled_by e all j (sorts (table e) want) (followed_by (followed_by ev (held_or_taken (here e) u)) (checked (here e) want))
        (followed_by (followed_by ev (holds e.site.typing)) (checked (here e) want)) (filled (table e) (Checked (load sort.Int q.place) low high) e.flat) (held_ends takes)
        (scalar_filled e all whole j want Whole low high (followed_by ev (holds e.site.typing)) (word e.flat (load sort.Int q.place)) wants whole_fresh
        (λ w z stands. whole_fits (table e) (types e.memory) want low high z w shape_is stands) (place_word e sees t k q Whole is has)))
    by (shape.Listed literals low high) false shape_is takes same eq =
        let wants = whole.laws.listed want low high literals shape_is in
        let has = position_back (table e) (sorts (table e) q.of) (ap (λ l. same_sorts (table e) (sorts (table e) q.of) l) (sym wants) ∙ same) in
        subst (λ v. Ends v) (some_same (Checked (load sort.Enum q.place) (pos low) (pos high)) v eq)
        (filled_by e all j (sorts (table e) want) (followed_by (followed_by ev (held_or_taken (here e) u)) (checked (here e) want))
        (followed_by (followed_by ev (holds e.site.typing)) (checked (here e) want)) (filled (table e) (Checked (load sort.Enum q.place) (pos low) (pos high)) e.flat) (held_ends takes)
        (scalar_filled e all whole j want Position (pos low) (pos high) (followed_by ev (holds e.site.typing)) (word e.flat (load sort.Enum q.place)) wants position_fresh
        (λ w z stands. listed_fits (table e) (types e.memory) want low high z w literals shape_is stands) (place_word e sees t k q Position is has)))
    by (shape.Access d constant named) true shape_is takes same eq =
        let used = taken_value (table e) u q.of takes in
        let sure = if_some (is_access (shape_of (table e) q.of)) (Some (MovedPointer q.place)) v eq in
        let access = access_is (shape_of (table e) q.of) sure.0 in
        let wants = whole.laws.access want d constant named shape_is in
        let has = whole.laws.access q.of access.0 access.1 access.2 access.3 in
        let single = whole.parts.single q.of access.0 access.1 access.2 access.3 used.1 in
        subst (λ v. Ends v) (some_same (MovedPointer q.place) v sure.1)
        (subst (λ u. Filled e all j (sorts (table e) want) (followed_by (followed_by ev (held_or_taken (here e) u)) (checked (here e) want)) (filled (table e) (MovedPointer q.place) e.flat)) (sym used.0)
        (subst (λ ks. Filled e all j (sorts (table e) want) (followed_by (followed_by ev (taken (here e))) (checked (here e) want)) (moving e.flat q.place ks (0 ∷ []))) (ap (λ l. map kind_of l) has)
        (subst (λ gone. Filled e all j (sorts (table e) want) (followed_by (followed_by ev (taken (here e))) (checked (here e) want)) (moving e.flat q.place (kinds (table e) q.of) gone)) single
        (moved_filled e all whole j q.of want q.place ev used.1 same
        (λ ws zs value. pointers_fit (table e) (types e.memory) want d (sorts (table e) want) ws zs wants value) spots))))
    by (shape.Access d constant named) false shape_is takes same eq =
        let wants = whole.laws.access want d constant named shape_is in
        let has = pointer_back (table e) (sorts (table e) q.of) d (ap (λ l. same_sorts (table e) (sorts (table e) q.of) l) (sym wants) ∙ same) in
        subst (λ v. Ends v) (some_same (LookedAt (load sort.Access q.place)) v eq)
        (filled_by e all j (sorts (table e) want) (followed_by (followed_by ev (held_or_taken (here e) u)) (checked (here e) want))
        (followed_by (followed_by ev (holds e.site.typing)) (checked (here e) want)) (filled (table e) (LookedAt (load sort.Access q.place)) e.flat) (held_ends takes)
        (pointer_filled e all whole j want has.0 d (followed_by ev (holds e.site.typing)) (word e.flat (load sort.Access q.place)) wants has.2 (place_word e sees t k q (Pointer has.0) is has.1)))
    by (shape.Fields components) true shape_is takes same eq = subst (λ v. Ends v) (some_same (Moved q.place q.of) v eq) (moved (shape.Fields components) shape_is refl takes same)
    by (shape.Elements low high element) true shape_is takes same eq = subst (λ v. Ends v) (some_same (Moved q.place q.of) v eq) (moved (shape.Elements low high element) shape_is refl takes same)
    by (shape.Same of) true shape_is takes same eq = subst (λ v. Ends v) (some_same (Moved q.place q.of) v eq) (moved (shape.Same of) shape_is refl takes same)
    by (shape.Fields components) false shape_is takes same eq = subst (λ v. Ends v) (some_same (Copied q.place q.of) v eq) (copied (shape.Fields components) shape_is refl takes same)
    by (shape.Elements low high element) false shape_is takes same eq = subst (λ v. Ends v) (some_same (Copied q.place q.of) v eq) (copied (shape.Elements low high element) shape_is refl takes same)
    by (shape.Same of) false shape_is takes same eq = subst (λ v. Ends v) (some_same (Copied q.place q.of) v eq) (copied (shape.Same of) shape_is refl takes same)

-- ---- values that wait

-- So many words are there where so many are taken.
taken_there : (n : ℕ) (zs : List ℤ) → length (take n zs) ≡ n → nat_le n (length zs) ≡ true
taken_there n zs is = sure n (length zs) (at_most n zs is)
  where
    sure : (n l : ℕ) → n ≤ l → nat_le n l ≡ true
    sure n l le = grind arith

    at_most : (n : ℕ) (zs : List ℤ) → length (take n zs) ≡ n → n ≤ length zs
    at_most zero zs is = omega arith
    at_most (suc n) [] is = absurd (omega (arith, is))
    at_most (suc n) (z ∷ zs) is = let more = at_most n zs (omega (arith, is)) in omega (arith, more)

pub waited_filled : (e : Seen) (all : List Lying) → IsWhole e all → (k want t : ℕ) (v : Fill) → waited_value e.site k want t ≡ Some v
    → Filled e all (k + 1) (sorts (table e) want) (followed_by (waited (now e k)) (checked (here e) want)) (filled (table e) v e.flat)
unfolding filled
waited_filled e all whole k want t v eq =
    let sure = if_some (is_nth e.site k t && one_type (table e) t want) (Some (by_shape (shape_of (table e) want) (words_before_value e.site k))) v eq in
    let both = both_true (is_nth e.site k t) (one_type (table e) t want) sure.0 in
    subst (λ v. Ends v) (some_same (by_shape (shape_of (table e) want) (words_before_value e.site k)) v sure.1)
    (by (shape_of (table e) want) refl (nth_there e.site k t both.0) both.1)
  where
    by_shape : Shape → ℕ → Fill
    by_shape (shape.Whole low high) at = Checked (Waiting at) low high
    by_shape (shape.Listed literals low high) at = Checked (Waiting at) (pos low) (pos high)
    by_shape (shape.Access designated constant named) at = LookedAt (Waiting at)
    by_shape _ at = Waited at (words (table e) t)

    from : ℕ
    from = words_before_value e.site k

    sees : IsSeen e
    sees = seen e all whole

    Ends : Fill → Type 0
    Ends v = Filled e all (k + 1) (sorts (table e) want) (followed_by (waited (now e k)) (checked (here e) want)) (filled (table e) v e.flat)

    loose : (sh : Shape) → shape_of (table e) want ≡ sh → scalar_shape sh ≡ false → slice_get e.site.takes k ≡ Some t → one_type (table e) t want ≡ true → Ends (Waited from (words (table e) t))
    loose sh shape_is lacks there same =
        let value = whole.waits k t there in
        let ws : List Word = get_or e.waits k [] in
        let zs : List ℤ = take (words (table e) t) (drop from e.flat.waits) in
        subst (λ b. Filled e all (k + 1) (sorts (table e) want) (followed_by (waited (now e k)) (checked (here e) want)) (reads e.flat (if b then Given zs else Broken) (λ zs. flat.Done zs e.flat)))
        (sym (taken_there (words (table e) t) (drop from e.flat.waits) (value.numbers ∙ many (table e) t)))
        (filled_by e all (k + 1) (sorts (table e) want) (followed_by (waited (now e k)) (checked (here e) want)) (Done ws (now e (k + 1))) (flat.Done zs e.flat)
        (ap (λ x. followed_by x (checked (here e) want)) (waited_is e k) ∙ checked_fits (here e) want ws (now e (k + 1)) (loose_fits (table e) want sh ws shape_is lacks))
        (filled_given e all (k + 1) (sorts (table e) want) ws zs whole (value_as (table e) (types e.memory) (sorts (table e) t) (sorts (table e) want) ws zs whole.laws same value)))

    by : (sh : Shape) → shape_of (table e) want ≡ sh → slice_get e.site.takes k ≡ Some t → one_type (table e) t want ≡ true → Ends (by_shape sh from)
    by (shape.Whole low high) shape_is there same =
        let wants = whole.laws.whole want low high shape_is in
        let has = whole_back (table e) (sorts (table e) t) (ap (λ l. same_sorts (table e) (sorts (table e) t) l) (sym wants) ∙ same) in
        scalar_filled e all whole (k + 1) want Whole low high (waited (now e k)) (word e.flat (Waiting from)) wants whole_fresh
        (λ w z stands. whole_fits (table e) (types e.memory) want low high z w shape_is stands) (waited_word e sees k t Whole there has)
    by (shape.Listed literals low high) shape_is there same =
        let wants = whole.laws.listed want low high literals shape_is in
        let has = position_back (table e) (sorts (table e) t) (ap (λ l. same_sorts (table e) (sorts (table e) t) l) (sym wants) ∙ same) in
        scalar_filled e all whole (k + 1) want Position (pos low) (pos high) (waited (now e k)) (word e.flat (Waiting from)) wants position_fresh
        (λ w z stands. listed_fits (table e) (types e.memory) want low high z w literals shape_is stands) (waited_word e sees k t Position there has)
    by (shape.Access d constant named) shape_is there same =
        let wants = whole.laws.access want d constant named shape_is in
        let has = pointer_back (table e) (sorts (table e) t) d (ap (λ l. same_sorts (table e) (sorts (table e) t) l) (sym wants) ∙ same) in
        pointer_filled e all whole (k + 1) want has.0 d (waited (now e k)) (word e.flat (Waiting from)) wants has.2 (waited_word e sees k t (Pointer has.0) there has.1)
    by (shape.Fields components) shape_is there same = loose (shape.Fields components) shape_is refl there same
    by (shape.Elements low high element) shape_is there same = loose (shape.Elements low high element) shape_is refl there same
    by (shape.Same of) shape_is there same = loose (shape.Same of) shape_is refl there same
