-- What an evaluation reads is there where all of the memory stands; and what is stored at a place that it
-- finds keeps that.
use Rattle.std.proofs.Common.{◌≡◌, inl, inr, ℕ, ◌+◌, ◌≤◌, true, List, [], ◌∷◌, ◌++◌, length, take, drop, get_or, sym, ap, subst, arith, Some, slice_get, ℤ, if◌then◌else◌}
use Rattle.std.specs.Prelude.{nat_le}
use Rattle.machine.specs.spark_base.Lists.{Has}
use Rattle.machine.specs.type_definitions.Types.{Table, words}
use Rattle.machine.specs.flow_paths.Objects.{Typing}
use Rattle.machine.specs.Words.{Word}
use Rattle.machine.specs.Typed.{Sort, sorts}
use Rattle.machine.specs.Memory.{Memory, Slot, Place, OfVariable, fresh, declared}
use Rattle.machine.specs.Memory as machine
use Rattle.machine.specs.Evaluate.{Evaluated}
use Rattle.kept_cells.specs.run_values.declared.value.Kind.{Kind}
use Rattle.run_codes.specs.Flat.{Flat, Got, Given, Broken, spliced, with_stack, InStack}
use Rattle.run_codes.specs.Flat as flat
use Rattle.run_codes.specs.Lowered.{words_before_value}
use Rattle.run_codes.specs.Related.{AllStand, IsValue, IsTable, Seen, table, types, IsSeen, LiesIn, LiesOwn, LiesInPackages, IsPlace, Lying, lying_sorts, Related, AreApart, IsSited}
use Rattle.run_codes.proofs.Parts.{split_inside}
use Rattle.run_codes.proofs.Stores.{splice, spliced_is, object_changed, stored_in_stack}

-- Where a place lies, an object lies.
pub lies_there : (e : Seen) (all : List Lying) (frame x start : ℕ) → IsSited e.site e.frame e.flat.base all → LiesIn e frame x start
    → Has all (record { frame = frame; object = x; at = start })
lies_there e all frame x start sited lies = elim lies [
  | inl own ↦ own_there own
  | inr first ↦ first_there first
]
  where
    own_there : LiesOwn e frame x start → Has all (record { frame = frame; object = x; at = start })
    own_there own =
        subst (λ n. Has all (record { frame = n; object = x; at = start })) (sym own.runs)
        (subst (λ n. Has all (record { frame = e.frame; object = x; at = n })) (sym own.begins) (sited.own x own.at own.there own.own))

    first_there : LiesInPackages e frame x start → Has all (record { frame = frame; object = x; at = start })
    first_there first = subst (λ n. Has all (record { frame = n; object = x; at = start })) (sym first.first) (sited.packages x start first.there first.packages)

pub seen_from : (e : Seen) (all : List Lying) → IsTable (table e) → Related e.site.typing all e.memory e.flat → AreApart e.site.typing all (length e.flat.stack) → IsSited e.site e.frame e.flat.base all
    → ((k t : ℕ) → slice_get e.site.takes k ≡ Some t
    → IsValue (table e) (types e.memory) (sorts (table e) t) (get_or e.waits k []) (take (words (table e) t) (drop (words_before_value e.site k) e.flat.waits)))
    → IsSeen e
seen_from e all laws related apart sited waits = record {
  room = λ frame x start lies. apart.within (record { frame = frame; object = x; at = start }) (lies_there e all frame x start sited lies);
  laws = laws;
  own = λ x at there own. related.objects (record { frame = e.frame; object = x; at = e.flat.base + at }) (sited.own x at there own);
  packages = λ x at there package_object. related.objects (record { frame = 0; object = x; at = at }) (sited.packages x at there package_object);
  cells = related.cells;
  few = related.counted.few;
  waits = waits;
}

-- A value is stored at a place in the stack.
pub store_at_place : (e : Seen) (all : List Lying) (k t n : ℕ) (zs : List ℤ) (ev : Evaluated Place) (ws : List Word) (new : List ℤ)
    → Related e.site.typing all e.memory e.flat → AreApart e.site.typing all (length e.flat.stack) → IsSited e.site e.frame e.flat.base all
    → (is : IsPlace e k t (InStack n) zs ev) → IsValue (table e) (types e.memory) (sorts (table e) t) ws new
    → Related e.site.typing all (machine.stored e.site.typing is.p ws e.memory) (with_stack e.flat (spliced n new e.flat.stack))
store_at_place e all k t n zs ev ws new related apart sited is value =
    let l : Lying = record { frame = is.from.frame; object = is.from.object; at = is.from.start } in
    stored_in_stack e.site.typing all e.memory e.flat l is.p n (sorts (table e) t) ws new related apart
    (lies_there e all is.from.frame is.from.object is.from.start sited is.from.lies) is.from.base is.from.at is.from.split
    (split_inside (lying_sorts e.site.typing l) (sorts (table e) t) is.p.at is.from.split) value

-- The flat memory is there for it.
pub stack_stored : (f : Flat) (n : ℕ) (ks : List Kind) (new : List ℤ) → n + length new ≤ length f.stack
    → flat.stored f (InStack n) ks new ≡ Given (with_stack f (spliced n new f.stack))
stack_stored f n ks new le = ap (λ b. if b then Given (with_stack f (spliced n new f.stack)) else Broken) (within (n + length new) (length f.stack) le)
  where
    within : (a b : ℕ) → a ≤ b → nat_le a b ≡ true
    within a b le = grind arith

-- What stands, stands before others as well.
stand_more : (table : Table) (made : List ℕ) (all : List Sort) (xs : List Slot) (zs more : List ℤ) → AllStand table made all xs zs → AllStand table made all xs (zs ++ more)
stand_more table made [] xs zs more is = tt
stand_more table made (s ∷ all) [] zs more is = absurd is
stand_more table made (s ∷ all) (x ∷ xs) [] more is = absurd is
stand_more table made (s ∷ all) (x ∷ xs) (z ∷ zs) more is = (is.0, stand_more table made all xs zs more is.1)

-- An object is declared with a value.
pub declared_in_stack : (s : Typing) (all : List Lying) (m : Memory) (f : Flat) (l : Lying) (ws : List Word) (zs : List ℤ)
    → Related s all m f → AreApart s all (length f.stack) → Has all l → IsValue s.table (types m) (lying_sorts s l) ws zs
    → Related s all (declared l.frame l.object ws m) (with_stack f (spliced l.at zs f.stack))
declared_in_stack s all m f l ws zs related apart here value =
    let stand : AllStand s.table (types m) (lying_sorts s l) (fresh ws) (splice 0 zs (drop l.at f.stack)) =
    stand_more s.table (types m) (lying_sorts s l) (fresh ws) zs (drop (length zs) (drop l.at f.stack)) value.stand in
    subst (λ x. Related s all (declared l.frame l.object ws m) (with_stack f x)) (sym (spliced_is l.at zs f.stack))
    (object_changed s all m f l l.at 0 (fresh ws) zs related apart here (none l.at) (fits (length zs) (length (lying_sorts s l)) value.numbers) stand)
  where
    none : (n : ℕ) → n ≡ n + 0
    none n = omega arith

    fits : (a b : ℕ) → a ≡ b → 0 + a ≤ b
    fits a b is = omega (arith, is)
