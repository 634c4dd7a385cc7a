-- What never stops: it is given, or it is broken.
use Rattle.std.proofs.Common.{◌≡◌, refl, sym, ap, ◌∙◌, subst, ℕ, ◌+◌, Bool, true, false, ◌&&◌, nat_le, List, [], ◌∷◌, drop, length, map, Option, Some, None, ℤ, if◌then◌else◌}
use Rattle.spark_base.specs.declared.position.Pos.{Pos}
use Rattle.type_definitions.specs.Types.{Table}
use Rattle.run_values.specs.declared.value.Value.{Value}
use Rattle.run_values.specs.declared.value.Kind.{Kind}
use Rattle.machine.specs.Words.{access_offsets}
use Rattle.slot_heap.specs.Heaps.{words_at}
use Rattle.run_codes.specs.Flat.{Got, Given, Stops, Broken, Stop, Spot, InStack, InCell, and_then, is_broken, kinds, have_kinds, are_pointers, spliced}
use Rattle.handled_runs.specs.Fits.{are_slot_words}
use Rattle.handled_runs.specs.Slots.{Move, Slots, front, cell_words, held, slot_word}
use Rattle.handled_runs.specs.Changes.{with_stack, with_heap, written_all, slot_values, nulled, all_null, cell_stored, stored, cell_emptied, emptied, all_emptied, settled}
use Rattle.handled_runs.specs.Leaks.{leaks_at, leaks_in}
use Rattle.handled_runs.specs.Assigned.{checked_at}

abbrev pub Never : {A : Type 0} → Got A → Type 0
Never g = (x : Stop) → g ≡ Stops x → ⊥

pub given_of : {A : Type 0} (g : Got A) → Never g → is_broken g ≡ false → (a : A) × (g ≡ Given a)
given_of (Given a) never whole = (a, refl)
given_of (Stops x) never whole = absurd (never x refl)
given_of Broken never whole = cc

pub never_given : {A : Type 0} (a : A) → Never (Given a)
never_given a x e = cc

never_broken : {A : Type 0} → Never {A = A} Broken
never_broken x e = cc

pub never_then : {A B : Type 0} (a : Got A) (f : A → Got B) → Never a → ((v : A) → Never (f v)) → Never (and_then a f)
never_then (Given v) f first next = next v
never_then (Stops y) f first next = absurd (first y refl)
never_then Broken f first next = never_broken

never_if : {A : Type 0} (b : Bool) (g : Got A) → Never g → Never (if b then g else Broken)
never_if true g never = never
never_if false g never = never_broken

-- ---- what is held, and leak checks

front_never : (ks : List Kind) (zs : List ℤ) → Never (front ks zs)
front_never [] zs = never_given []
front_never (k ∷ ks) [] = never_broken
front_never (k ∷ ks) (z ∷ zs) = never_then (front ks zs) (λ more. Given (z ∷ more)) (front_never ks zs) (λ more. never_given (z ∷ more))

pub held_never : (s : Slots) (q : Spot) (ks : List Kind) → Never (held s q ks)
held_never s (InStack n) ks = front_never ks (drop n s.stack)
held_never s (InCell h o) ks = by (words_at s.heap.cells h)
  where
    by : (x : Option (List Value)) → Never (cell_words ks o x)
    by None = never_broken
    by (Some ws) = never_if (have_kinds ks (drop o ws)) (front ks (drop o (map slot_word ws))) (front_never ks (drop o (map slot_word ws)))

pub leaks_never : (table : Table) (s : Slots) (q : Spot) (of : ℕ) (p : Pos) → Never (leaks_at table s q of p)
leaks_never table s q of p =
    never_then (held s q (kinds table of)) (λ zs. Given (leaks_in s.numbers p zs (access_offsets table of))) (held_never s q (kinds table of)) (λ zs. never_given (leaks_in s.numbers p zs (access_offsets table of)))

pub checked_never : (table : Table) (s : Slots) (q : Spot) (of : ℕ) (checks : Option Pos) → Never (checked_at table s q of checks)
checked_never table s q of None = never_given []
checked_never table s q of (Some p) = leaks_never table s q of p

-- ---- changes

pub stored_never : (s : Slots) (q : Spot) (ks : List Kind) (zs : List ℤ) → Never (stored s q ks zs)
stored_never s (InStack n) ks zs = never_if (nat_le (n + length zs) (length s.stack)) (Given (with_stack s (spliced n zs s.stack))) (never_given (with_stack s (spliced n zs s.stack)))
stored_never s (InCell h o) ks zs = by (words_at s.heap.cells h)
  where
    by : (x : Option (List Value)) → Never (cell_stored s h o ks zs x)
    by None = never_broken
    by (Some ws) =
        never_if (are_slot_words ks zs && have_kinds ks (drop o ws)) (Given (with_heap s (written_all s.heap h o (slot_values ks zs)))) (never_given (with_heap s (written_all s.heap h o (slot_values ks zs))))

emptied_never : (s : Slots) (q : Spot) (ks : List Kind) (gone : List ℕ) → Never (emptied s q ks gone)
emptied_never s (InStack n) ks gone =
    never_if (are_pointers ks gone) (and_then (front ks (drop n s.stack)) (λ zs. Given (with_stack s (spliced n (all_null gone zs) s.stack))))
    (never_then (front ks (drop n s.stack)) (λ zs. Given (with_stack s (spliced n (all_null gone zs) s.stack))) (front_never ks (drop n s.stack)) (λ zs. never_given (with_stack s (spliced n (all_null gone zs) s.stack))))
emptied_never s (InCell h o) ks gone = by (words_at s.heap.cells h)
  where
    by : (x : Option (List Value)) → Never (cell_emptied s h o ks gone x)
    by None = never_broken
    by (Some ws) =
        never_if (are_pointers ks gone && have_kinds ks (drop o ws)) (Given (with_heap s (nulled s.heap h o gone))) (never_given (with_heap s (nulled s.heap h o gone)))

all_never : (qs : List Move) (s : Slots) → Never (all_emptied qs s)
all_never [] s = never_given s
all_never (q ∷ qs) s = never_then (emptied s q.at q.kinds q.offsets) (all_emptied qs) (emptied_never s q.at q.kinds q.offsets) (λ t. all_never qs t)

pub settled_never : (s : Slots) → Never (settled s)
settled_never s = all_never s.moves (record s { moves = [] })
