-- Values of other types with the same sorts, values one after the other, and those of objects without one.
use Rattle.std.proofs.Common.{◌≡◌, ℕ, zero, suc, ◌+◌, true, false, Bool, IsTrue, List, [], ◌∷◌, ◌++◌, map, length, refl, sym, ap, subst, ◌∙◌, arith, slice_get, ℤ, pos, negsuc, nat_eq, if◌then◌else◌, length-append}
use Rattle.std.specs.Prelude.{flat_map, unsigned_abs}
use Rattle.run_values.specs.Arithmetic.{is_integer}
use Rattle.type_definitions.specs.declared.table.Component.{Component}
use Rattle.type_definitions.specs.declared.table.Shape.{Shape}
use Rattle.type_definitions.specs.declared.table.Shape.TheVariants as shape
use Rattle.type_definitions.specs.Types.{Table, shape_found, span}
use Rattle.type_definitions.specs.Entries.{integer}
use Rattle.machine.specs.Words.{Word, Int, Enumerated, Null, default, default_within, default_of, repeated}
use Rattle.machine.specs.Typed.{Sort, Whole, Position, Pointer, sorts, sorts_within, sorts_of, repeated_sorts, same_sort, same_sorts}
use Rattle.machine.specs.Memory.{Slot, fresh}
use Rattle.run_codes.specs.Flat.{untagged, default_words}
use Rattle.run_codes.specs.Flat as flat
use Rattle.run_codes.specs.Related.{IsMarked, SlotStands, AllStand, IsValue, IsTable}
use Rattle.run_codes.proofs.Places.{both_true}
use Rattle.run_fills.specs.Filled.{HasParts}
use Rattle.run_fills.proofs.Single.{one_value, points_as}

never : {A : Type 0} → false ≡ true → A
never is = absurd (no_way is)
  where
    no_way : false ≡ true → ⊥
    no_way x = cc

-- ---- the same sorts

marked_as : (d e : ℕ) (gone : Bool) (z : ℤ) → IsMarked (Pointer d) gone z → IsMarked (Pointer e) gone z
marked_as d e gone (pos zero) is = tt
marked_as d e gone (pos (suc n)) is = is
marked_as d e gone (negsuc n) is = is

slot_as : (table : Table) (made : List ℕ) (s t : Sort) (x : Slot) (z : ℤ) → IsTable table → same_sort table s t ≡ true → SlotStands table made s x z → SlotStands table made t x z
slot_as table made Whole Whole x z laws same is = is
slot_as table made Position Position x z laws same is = is
slot_as table made (Pointer d) (Pointer e) x z laws same is =
    (points_as table made d e (unsigned_abs z) x.word laws same is.0, marked_as d e x.gone z is.1)
slot_as table made Whole Position x z laws same is = never same
slot_as table made Whole (Pointer e) x z laws same is = never same
slot_as table made Position Whole x z laws same is = never same
slot_as table made Position (Pointer e) x z laws same is = never same
slot_as table made (Pointer d) Whole x z laws same is = never same
slot_as table made (Pointer d) Position x z laws same is = never same

stand_as : (table : Table) (made : List ℕ) (a b : List Sort) (xs : List Slot) (zs : List ℤ) → IsTable table → same_sorts table a b ≡ true → AllStand table made a xs zs → AllStand table made b xs zs
stand_as table made [] [] xs zs laws same is = tt
stand_as table made [] (t ∷ b) xs zs laws same is = never same
stand_as table made (s ∷ a) [] xs zs laws same is = never same
stand_as table made (s ∷ a) (t ∷ b) [] zs laws same is = absurd is
stand_as table made (s ∷ a) (t ∷ b) (x ∷ xs) [] laws same is = absurd is
stand_as table made (s ∷ a) (t ∷ b) (x ∷ xs) (z ∷ zs) laws same is =
    let both = both_true (same_sort table s t) (same_sorts table a b) same in
    (slot_as table made s t x z laws both.0 is.0, stand_as table made a b xs zs laws both.1 is.1)

same_long : (table : Table) (a b : List Sort) → same_sorts table a b ≡ true → length a ≡ length b
same_long table [] [] same = refl
same_long table [] (t ∷ b) same = never same
same_long table (s ∷ a) [] same = never same
same_long table (s ∷ a) (t ∷ b) same = ap suc (same_long table a b (both_true (same_sort table s t) (same_sorts table a b) same).1)

pub value_as : (table : Table) (made : List ℕ) (a b : List Sort) (ws : List Word) (zs : List ℤ) → IsTable table → same_sorts table a b ≡ true → IsValue table made a ws zs → IsValue table made b ws zs
value_as table made a b ws zs laws same is = record {
  stand = stand_as table made a b (fresh ws) zs laws same is.stand;
  words = is.words ∙ same_long table a b same;
  numbers = is.numbers ∙ same_long table a b same;
}

-- ---- one after the other

joined_stand : (table : Table) (made : List ℕ) (a b : List Sort) (ws us : List Word) (zs ys : List ℤ) → length ws ≡ length a → length zs ≡ length a
    → AllStand table made a (fresh ws) zs → AllStand table made b (fresh us) ys → AllStand table made (a ++ b) (fresh (ws ++ us)) (zs ++ ys)
joined_stand table made [] b [] us [] ys lw lz is more = more
joined_stand table made [] b (w ∷ ws) us zs ys lw lz is more = absurd (omega (arith, lw))
joined_stand table made [] b [] us (z ∷ zs) ys lw lz is more = absurd (omega (arith, lz))
joined_stand table made (s ∷ a) b [] us zs ys lw lz is more = absurd is
joined_stand table made (s ∷ a) b (w ∷ ws) us [] ys lw lz is more = absurd is
joined_stand table made (s ∷ a) b (w ∷ ws) us (z ∷ zs) ys lw lz is more =
    (is.0, joined_stand table made a b ws us zs ys (omega (arith, lw)) (omega (arith, lz)) is.1 more)

pub value_joined : (table : Table) (made : List ℕ) (a b : List Sort) (ws us : List Word) (zs ys : List ℤ) → IsValue table made a ws zs → IsValue table made b us ys
    → IsValue table made (a ++ b) (ws ++ us) (zs ++ ys)
value_joined table made a b ws us zs ys x y = record {
  stand = joined_stand table made a b ws us zs ys x.words x.numbers x.stand y.stand;
  words = length-append ws us ∙ ap (λ k. k + length us) x.words ∙ ap (λ k. length a + k) y.words ∙ sym (length-append a b);
  numbers = length-append zs ys ∙ ap (λ k. k + length ys) x.numbers ∙ ap (λ k. length a + k) y.numbers ∙ sym (length-append a b);
}

pub no_value : (table : Table) (made : List ℕ) → IsValue table made [] [] []
no_value table made = record { stand = tt; words = refl; numbers = refl }

pub value_repeated : (table : Table) (made : List ℕ) (n : ℕ) (all : List Sort) (ws : List Word) (zs : List ℤ) → IsValue table made all ws zs
    → IsValue table made (repeated_sorts n all) (repeated n ws) (flat.repeated n zs)
value_repeated table made zero all ws zs is = no_value table made
value_repeated table made (suc n) all ws zs is =
    value_joined table made all (repeated_sorts n all) ws (repeated n ws) zs (flat.repeated n zs) is (value_repeated table made n all ws zs is)

-- ---- objects without a value

all_untagged : (a b : List Word) → map untagged (a ++ b) ≡ map untagged a ++ map untagged b
all_untagged [] b = refl
all_untagged (w ∷ a) b = ap (λ l. untagged w ∷ l) (all_untagged a b)

repeated_untagged : (n : ℕ) (ws : List Word) → map untagged (repeated n ws) ≡ flat.repeated n (map untagged ws)
repeated_untagged zero ws = refl
repeated_untagged (suc n) ws = all_untagged ws (repeated n ws) ∙ ap (λ l. map untagged ws ++ l) (repeated_untagged n ws)

components_default : (table : Table) (made : List ℕ) (f : ℕ → List Sort) (g : ℕ → List Word) → ((t : ℕ) → IsValue table made (f t) (g t) (map untagged (g t))) → (cs : List Component)
    → IsValue table made (flat_map (λ (c : Component). f c.of) cs) (flat_map (λ (c : Component). g c.of) cs) (map untagged (flat_map (λ (c : Component). g c.of) cs))
components_default table made f g each [] = no_value table made
components_default table made f g each (c ∷ cs) =
    let rest : List Word = flat_map (λ (c : Component). g c.of) cs in
    subst (λ l. IsValue table made (f c.of ++ flat_map (λ (c : Component). f c.of) cs) (g c.of ++ rest) l) (sym (all_untagged (g c.of) rest))
    (value_joined table made (f c.of) (flat_map (λ (c : Component). f c.of) cs) (g c.of) rest (map untagged (g c.of)) (map untagged rest) (each c.of)
    (components_default table made f g each cs))

shape_default : (table : Table) (made : List ℕ) → HasParts table → (f : ℕ → List Sort) (g : ℕ → List Word) → ((t : ℕ) → IsValue table made (f t) (g t) (map untagged (g t)))
    → (t : ℕ) (sh : Shape) → shape_found (slice_get table t) ≡ sh → IsValue table made (sorts_of f sh) (default_of g t sh) (map untagged (default_of g t sh))
shape_default table made parts f g each t (shape.Whole low high) is =
    one_value table made Whole (Int (if nat_eq t integer then pos 0 else low)) (if nat_eq t integer then pos 0 else low) (refl, by (nat_eq t integer)) tt
  where
    by : (b : Bool) → IsTrue (is_integer (if b then pos 0 else low))
    by true = refl
    by false = parts.whole t low high is
shape_default table made parts f g each t (shape.Listed literals low high) is =
    one_value table made Position (Enumerated low) (pos low) (refl, refl, parts.listed t low high literals is) tt
shape_default table made parts f g each t (shape.Access d constant named) is = one_value table made (Pointer d) Null (pos 0) refl tt
shape_default table made parts f g each t (shape.Fields cs) is = components_default table made f g each cs
shape_default table made parts f g each t (shape.Elements low high element) is =
    subst (λ l. IsValue table made (repeated_sorts (span low high) (f element)) (repeated (span low high) (g element)) l) (sym (repeated_untagged (span low high) (g element)))
    (value_repeated table made (span low high) (f element) (g element) (map untagged (g element)) (each element))
shape_default table made parts f g each t (shape.Same of) is = each of

default_value_within : (table : Table) (made : List ℕ) → HasParts table → (n t : ℕ) → IsValue table made (sorts_within n table t) (default_within n table t) (map untagged (default_within n table t))
unfolding sorts_within default_within
default_value_within table made parts zero t = no_value table made
default_value_within table made parts (suc n) t =
    shape_default table made parts (sorts_within n table) (default_within n table) (default_value_within table made parts n) t (shape_found (slice_get table t)) refl

pub default_value : (table : Table) (made : List ℕ) → HasParts table → (t : ℕ) → IsValue table made (sorts table t) (default table t) (default_words table t)
unfolding sorts default
default_value table made parts t = default_value_within table made parts (length table) t
