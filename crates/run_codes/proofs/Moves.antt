-- What is moved out of an object is gone on both sides.
use Rattle.std.proofs.Common.{◌≡◌, inl, inr, ℕ, zero, suc, true, ◌&&◌, List, [], ◌∷◌, map, length, take, drop, refl, sym, ap, subst, ◌∙◌, Some, slice_get, ℤ, pos, negsuc, if◌then◌else◌}
use Rattle.machine.specs.spark_base.Lists.{Has}
use Rattle.machine.specs.type_definitions.Types.{Table, words}
use Rattle.machine.specs.Words.{access_offsets}
use Rattle.machine.specs.Typed.{Sort, Pointer, sorts}
use Rattle.machine.specs.Memory.{Slot, Place, at_number, gone_at, slots_at, slots_of, with_slots}
use Rattle.machine.specs.Memory as machine
use Rattle.machine.specs.Evaluate.{Evaluated}
use Rattle.run_codes.specs.Flat.{Flat, Given, Broken, and_then, kind_of, kinds, front, all_gone, as_gone, is_pointer, are_pointers, spliced, with_stack, moved_out, InStack}
use Rattle.run_codes.specs.Related.{SlotStands, AllStand, IsTable, Seen, table, types, IsPlace, IsThere, Lying, lying_sorts, Related, AreApart, IsSited}
use Rattle.run_codes.proofs.Parts.{many, split_inside}
use Rattle.run_codes.proofs.Places.{some_same}
use Rattle.run_codes.proofs.Held.{is_held}
use Rattle.run_codes.proofs.Stores.{slots_in_stack}
use Rattle.run_codes.proofs.Seeing.{lies_there}

-- ---- words that are gone

gone_stands : (table : Table) (made : List ℕ) (d : ℕ) (x : Slot) (z : ℤ) → SlotStands table made (Pointer d) x z
    → SlotStands table made (Pointer d) (machine.as_gone x) (as_gone z)
gone_stands table made d x (pos zero) is = (is.0, tt)
gone_stands table made d x (pos (suc n)) is = (is.0, refl)
gone_stands table made d x (negsuc n) is = (is.0, refl)

one_gone : (table : Table) (made : List ℕ) (all : List Sort) (o d : ℕ) (xs : List Slot) (zs : List ℤ) → slice_get all o ≡ Some (Pointer d)
    → AllStand table made all xs zs → AllStand table made all (at_number o machine.as_gone xs) (at_number o as_gone zs)
one_gone table made [] o d xs zs is stand = tt
one_gone table made (s ∷ all) o d [] zs is stand = absurd stand
one_gone table made (s ∷ all) o d (x ∷ xs) [] is stand = absurd stand
one_gone table made (s ∷ all) zero d (x ∷ xs) (z ∷ zs) is stand = (
  subst (λ k. SlotStands table made k (machine.as_gone x) (as_gone z)) (sym (some_same s (Pointer d) is))
      (gone_stands table made d x z (subst (λ k. SlotStands table made k x z) (some_same s (Pointer d) is) stand.0)),
  stand.1,
)
one_gone table made (s ∷ all) (suc o) d (x ∷ xs) (z ∷ zs) is stand = (stand.0, one_gone table made all o d xs zs is stand.1)

-- Access values stand at these offsets.
abbrev pub Accesses : List Sort → List ℕ → Type 0
Accesses all offsets = (o : ℕ) → Has offsets o → (d : ℕ) × (slice_get all o ≡ Some (Pointer d))

pub has_first : (o : ℕ) (rest : List ℕ) → Has (o ∷ rest) o
has_first o rest = inl refl

pub has_later : (o k : ℕ) (rest : List ℕ) → Has rest k → Has (o ∷ rest) k
has_later o k rest is = inr is

pub all_gone_stand : (table : Table) (made : List ℕ) (all : List Sort) (offsets : List ℕ) (xs : List Slot) (zs : List ℤ) → Accesses all offsets
    → AllStand table made all xs zs → AllStand table made all (gone_at offsets xs) (all_gone offsets zs)
all_gone_stand table made all [] xs zs access is = is
all_gone_stand table made all (o ∷ rest) xs zs access is =
    let first = access o (has_first o rest) in
    all_gone_stand table made all rest (at_number o machine.as_gone xs) (at_number o as_gone zs) (λ k has. access k (has_later o k rest has))
    (one_gone table made all o first.0 xs zs first.1 is)

pub number_long : {A : Type 0} (o : ℕ) (g : A → A) (xs : List A) → length (at_number o g xs) ≡ length xs
number_long o g [] = refl
number_long zero g (x ∷ xs) = refl
number_long (suc o) g (x ∷ xs) = ap suc (number_long o g xs)

pub gone_long : (offsets : List ℕ) (xs : List Slot) → length (gone_at offsets xs) ≡ length xs
gone_long [] xs = refl
gone_long (o ∷ rest) xs = gone_long rest (at_number o machine.as_gone xs) ∙ number_long o machine.as_gone xs

pub all_gone_long : (offsets : List ℕ) (zs : List ℤ) → length (all_gone offsets zs) ≡ length zs
all_gone_long [] zs = refl
all_gone_long (o ∷ rest) zs = all_gone_long rest (at_number o as_gone zs) ∙ number_long o as_gone zs

-- ---- as many as there are sorts

pub taken_stand : (table : Table) (made : List ℕ) (all : List Sort) (xs : List Slot) (zs : List ℤ) → AllStand table made all xs zs
    → AllStand table made all (take (length all) xs) (take (length all) zs)
taken_stand table made [] xs zs is = tt
taken_stand table made (s ∷ all) [] zs is = absurd is
taken_stand table made (s ∷ all) (x ∷ xs) [] is = absurd is
taken_stand table made (s ∷ all) (x ∷ xs) (z ∷ zs) is = (is.0, taken_stand table made all xs zs is.1)

pub taken_slots : (table : Table) (made : List ℕ) (all : List Sort) (xs : List Slot) (zs : List ℤ) → AllStand table made all xs zs → length (take (length all) xs) ≡ length all
taken_slots table made [] xs zs is = refl
taken_slots table made (s ∷ all) [] zs is = absurd is
taken_slots table made (s ∷ all) (x ∷ xs) [] is = absurd is
taken_slots table made (s ∷ all) (x ∷ xs) (z ∷ zs) is = ap suc (taken_slots table made all xs zs is.1)

pub taken_words : (table : Table) (made : List ℕ) (all : List Sort) (xs : List Slot) (zs : List ℤ) → AllStand table made all xs zs → length (take (length all) zs) ≡ length all
taken_words table made [] xs zs is = refl
taken_words table made (s ∷ all) [] zs is = absurd is
taken_words table made (s ∷ all) (x ∷ xs) [] is = absurd is
taken_words table made (s ∷ all) (x ∷ xs) (z ∷ zs) is = ap suc (taken_words table made all xs zs is.1)

-- ---- the test of the flat memory

kind_there : (all : List Sort) (o d : ℕ) → slice_get all o ≡ Some (Pointer d) → is_pointer (slice_get (map kind_of all) o) ≡ true
kind_there [] o d is = cc
kind_there (s ∷ all) zero d is = ap (λ k. is_pointer (Some (kind_of k))) (some_same s (Pointer d) is)
kind_there (s ∷ all) (suc o) d is = kind_there all o d is

pub pointers_there : (all : List Sort) (offsets : List ℕ) → Accesses all offsets → are_pointers (map kind_of all) offsets ≡ true
pointers_there all [] access = refl
pointers_there all (o ∷ rest) access =
    let first = access o (has_first o rest) in
    ap (λ b. b && are_pointers (map kind_of all) rest) (kind_there all o first.0 first.1) ∙ pointers_there all rest (λ k has. access k (has_later o k rest has))

-- ---- a move out of an object

-- The flat memory without what a place has, and that it stands for the machine's.
pub record IsMoved (e : Seen) (all : List Lying) (t n : ℕ) (p : Place) : Type 0 where
  pub flat : Flat
  pub gives : moved_out e.flat (InStack n) (kinds (table e) t) (access_offsets (table e) t) ≡ Given flat
  pub related : Related e.site.typing all (machine.moved_out e.site.typing p e.memory) flat

pub moved_from_stack : (e : Seen) (all : List Lying) (k t n : ℕ) (zs : List ℤ) (ev : Evaluated Place) → IsTable (table e)
    → Related e.site.typing all e.memory e.flat → AreApart e.site.typing all (length e.flat.stack) → IsSited e.site e.frame e.flat.base all
    → (is : IsPlace e k t (InStack n) zs ev) → IsThere e t (InStack n) zs → IsMoved e all t n is.p
moved_from_stack e all k t n zs ev laws related apart sited is there =
    let part : List Sort = sorts (table e) t in
    let offsets : List ℕ = access_offsets (table e) t in
    let xs : List Slot = drop is.p.at (slots_at e.site.typing e.memory is.p.base) in
    let l : Lying = record { frame = is.from.frame; object = is.from.object; at = is.from.start } in
    let held = is_held e related.counted.few k t (InStack n) zs ev is there in
    let access : Accesses part offsets = λ o has. laws.accesses t o has in
    let stand = all_gone_stand (table e) (types e.memory) part offsets (take (length part) xs) (take (length part) zs) access
    (taken_stand (table e) (types e.memory) part xs zs is.stand) in
    let long_slots = gone_long offsets (take (length part) xs) ∙ taken_slots (table e) (types e.memory) part xs zs is.stand in
    let long_words = all_gone_long offsets (take (length part) zs) ∙ taken_words (table e) (types e.memory) part xs zs is.stand in
    let moved = slots_in_stack e.site.typing all e.memory e.flat l is.p n part (gone_at offsets (take (length part) xs)) (all_gone offsets (take (length part) zs)) related apart
    (lies_there e all is.from.frame is.from.object is.from.start sited is.from.lies) is.from.base is.from.at is.from.split
    (split_inside (lying_sorts e.site.typing l) part is.p.at is.from.split) long_slots long_words stand in
    let size : length part ≡ words (table e) is.p.of = many (table e) t ∙ ap (words (table e)) (sym is.of) in
    let sized : Related e.site.typing all (with_slots e.site.typing is.p (gone_at offsets (slots_of e.site.typing e.memory is.p)) e.memory)
    (with_stack e.flat (spliced n (all_gone offsets (take (length part) zs)) e.flat.stack)) =
    subst (λ j. Related e.site.typing all (with_slots e.site.typing is.p (gone_at offsets (take j xs)) e.memory) (with_stack e.flat (spliced n (all_gone offsets (take (length part) zs)) e.flat.stack))) size moved in
    record {
      flat = with_stack e.flat (spliced n (all_gone offsets (take (length part) zs)) e.flat.stack);
      gives =
          ap (λ b. if b then and_then (front (kinds (table e) t) (drop n e.flat.stack)) (λ us. Given (with_stack e.flat (spliced n (all_gone offsets us) e.flat.stack))) else Broken)
          (pointers_there part offsets access)
          ∙ ap (λ g. and_then g (λ us. Given (with_stack e.flat (spliced n (all_gone offsets us) e.flat.stack)))) held.words;
      related = subst (λ u. Related e.site.typing all (with_slots e.site.typing is.p (gone_at (access_offsets (table e) u) (slots_of e.site.typing e.memory is.p)) e.memory)
          (with_stack e.flat (spliced n (all_gone offsets (take (length part) zs)) e.flat.stack))) (sym is.of) sized;
    }
