-- In a program that breaks no sentence on types, each type is within the limits.
use Rattle.std.proofs.Common.{◌≡◌, ◌⊎◌, inl, inr, refl, sym, ap, ◌∙◌, arith, ℕ, zero, suc, ◌-◌, ◌≤◌, Bool, true, false, not, ◌&&◌, ◌||◌, List, [], ◌∷◌, ◌++◌, length, get_or, replicate, nat_eq, IsTrue, Option, Some, None, if◌then◌else◌}
use Rattle.std.specs.Prelude.{slice_get, nat_le, flat_map}
use Rattle.spark_base.specs.declared.position.Pos.{Pos}
use Rattle.place_names.specs.declared.selector.Sel.{Sel}
use Rattle.resolved_tree.specs.Trees.{Code, Program}
use Rattle.type_definitions.specs.declared.table.Shape.{Shape}
use Rattle.type_definitions.specs.declared.table.Shape.TheVariants as shape
use Rattle.type_definitions.specs.declared.table.Known.{Known}
use Rattle.type_definitions.specs.declared.table.Made.{Made}
use Rattle.type_definitions.specs.declared.judgement.Fault.{Fault}
use Rattle.type_definitions.specs.Types.{Table, info, shape_found, no_type, full, words, words_of, words_within, parts, parts_of, parts_within}
use Rattle.type_definitions.specs.Faults.{demand, first}
use Rattle.type_definitions.specs.Names.{Context}
use Rattle.type_definitions.specs.Gathered.{gather}
use Rattle.type_definitions.specs.Declarations.{holds_shape, holds_parent, some_within, some_part}
use Rattle.type_definitions.specs.Whole.{made, is_unsound, all_short, has_elements, size_faults, made_faults, at_first, outside, gather_units, known_from, known_of, sentence_faults, all_made, type_sizes, TypeFault, told, decided, fault_known, known_with, type_fault}
use Rattle.type_settled.proofs.Unsound.{never_shape, never_parent}
use Rattle.type_sizes.specs.Limits.{IsWithin, AreWithin}
use Rattle.type_sizes.specs.Formed.{all_formed}
use Rattle.type_sizes.proofs.Sound.{all_units_sound, none_unsound, no_first}
use Rattle.type_sizes.proofs.Gathering.{is_small, full_in, full_first, full_second, Covered, code_covered}
use Rattle.type_sizes.proofs.Within.{few_words_at, few_parts_at, short_parts_at}

none_front : {A : Type 0} → (a b : List A) → a ++ b ≡ [] → a ≡ []
none_front [] b none = refl
none_front (x ∷ a) b none = cc

none_back : {A : Type 0} → (a b : List A) → a ++ b ≡ [] → b ≡ []
none_back [] b none = none
none_back (x ∷ a) b none = cc

or_cases : (a b : Bool) → IsTrue (a || b) → IsTrue a ⊎ IsTrue b
or_cases true b p = inl refl
or_cases false b p = inr p

and_first : (a b : Bool) → IsTrue (a && b) → IsTrue a
and_first a b p = grind arith

and_second : (a b : Bool) → IsTrue (a && b) → IsTrue b
and_second a b p = grind arith

-- ---- what is looked at is within the limits

never_within : (n : ℕ) (table : Table) (t : ℕ) → some_within n (λ u. false) table t ≡ false
never_within zero table t = refl
never_within (suc n) table t =
    let never : some_within n (λ u. false) table ≡ (λ u. false) = λ j u. never_within n table u j in
    ap (λ f. holds_shape f (shape_found (slice_get table t)) || holds_parent f (info table t).parent) never
    ∙ ap (λ b. b || holds_parent (λ u. false) (info table t).parent) (never_shape (shape_found (slice_get table t)))
    ∙ never_parent (info table t).parent

never_part : (table : Table) (t : ℕ) → some_part (λ u. false) table t ≡ false
unfolding some_part
never_part table t =
    let never : some_within (length table) (λ u. false) table ≡ (λ u. false) = λ j u. never_within (length table) table u j in
    ap (λ f. holds_shape f (shape_found (slice_get table t)) || holds_parent f (info table t).parent) never
    ∙ ap (λ b. b || holds_parent (λ u. false) (info table t).parent) (never_shape (shape_found (slice_get table t)))
    ∙ never_parent (info table t).parent

demanded : (n : ℕ) (p : Pos) (b : Bool) → demand n p b ≡ [] → IsTrue b
demanded n p true none = refl
demanded n p false none = cc

few : (n m : ℕ) → IsTrue (nat_le n m) → n ≤ m
few n m h = grind arith

size_within : (table : Table) (p : Pos) (t : ℕ) → size_faults table p t ≡ [] → IsWithin table t
size_within table p t none =
    let a : List Fault = demand 1 p (nat_le (words table t) 65536) in
    let b : List Fault = demand 2 p (nat_le (length (parts table t)) 64 && all_short (parts table t)) in
    let c : List Fault = demand 3 p (has_elements (full table t)) in
    let w : IsTrue (nat_le (words table t) 65536) = demanded 1 p (nat_le (words table t) 65536) (none_front a (b ++ c) none) in
    let two : IsTrue (nat_le (length (parts table t)) 64 && all_short (parts table t)) =
    demanded 2 p (nat_le (length (parts table t)) 64 && all_short (parts table t)) (none_front b c (none_back a (b ++ c) none)) in
    record {
      few_words = few (words table t) 65536 w;
      few_parts = few (length (parts table t)) 64 (and_first (nat_le (length (parts table t)) 64) (all_short (parts table t)) two);
      short_parts = and_second (nat_le (length (parts table t)) 64) (all_short (parts table t)) two;
    }

module _ (table : Table) (all : List Made) (sound : (t : ℕ) → is_unsound all t ≡ false) where
  looked_at : (m : Made) (is_full : Bool) → is_full ≡ true
      → (if not is_full || (is_unsound all m.number || some_part (is_unsound all) table m.number) then [] else size_faults table m.pos m.number) ≡ []
      → size_faults table m.pos m.number ≡ []
  looked_at m is_full e none =
      let never : is_unsound all ≡ (λ u. false) = λ j t. sound t j in
      let part : some_part (is_unsound all) table m.number ≡ false =
      ap (λ f. some_part f table m.number) never ∙ never_part table m.number in
      sym (λ j. if not (e j) || (sound m.number j || part j) then [] else size_faults table m.pos m.number) ∙ none

  one_within : (m : Made) (t : ℕ) → made_faults table all m ≡ [] → IsTrue (m.full && nat_eq m.number t) → IsWithin table t
  one_within m t none is =
      let here : size_faults table m.pos m.number ≡ [] = looked_at m m.full (and_first m.full (nat_eq m.number t) is) none in
      let e : m.number ≡ t = number (m.number) t (and_second m.full (nat_eq m.number t) is) in
      let at : IsWithin table m.number = size_within table m.pos m.number here in
      rw e at at where
        number : (n t : ℕ) → IsTrue (nat_eq n t) → n ≡ t
        number n t h = grind arith

  full_within : (ms : List Made) → flat_map (made_faults table all) ms ≡ [] → (t : ℕ) → IsTrue (full_in ms t) → IsWithin table t
  full_within [] none t is = cc
  full_within (m ∷ rest) none t is =
      let here : List Fault = made_faults table all m in
      let others : List Fault = flat_map (made_faults table all) rest in
      elim (or_cases (m.full && nat_eq m.number t) (full_in rest t) is) [
        | inl p ↦ one_within m t (none_front here others none) p
        | inr q ↦ full_within rest (none_back here others none) t q
      ]

-- ---- then all types are within the limits

module _ (table : Table) (full_type : ℕ → Bool) (covered : Covered full_type table) (within : (t : ℕ) → IsTrue (full_type t) → IsWithin table t) where
  found : (table : Table) (t : ℕ) → (get_or table t no_type).shape ≡ shape_found (slice_get table t)
  found [] t = refl
  found (i ∷ rest) zero = refl
  found (i ∷ rest) (suc t) = found rest t

  covered_shape : (t : ℕ) → IsTrue (full_type t) ⊎ IsTrue (is_small (shape_found (slice_get table t)))
  covered_shape t =
      or_cases (full_type t) (is_small (shape_found (slice_get table t)))
      (ap (λ s. full_type t || is_small s) (sym (found table t)) ∙ covered t)

  small_words : (f : ℕ → ℕ) (s : Shape) → ((t : ℕ) → f t ≤ 65536) → IsTrue (is_small s) → words_of f s ≤ 65536
  small_words f (shape.Whole low high) few small = omega arith
  small_words f (shape.Listed literals low high) few small = omega arith
  small_words f (shape.Access t constant named) few small = omega arith
  small_words f (shape.Fields []) few small = omega arith
  small_words f (shape.Fields (c ∷ rest)) few small = cc
  small_words f (shape.Elements low high t) few small = cc
  small_words f (shape.Same t) few small = few t

  small_count : (f : ℕ → List (List Sel)) (s : Shape) → ((t : ℕ) → length (f t) ≤ 64) → IsTrue (is_small s) → length (parts_of f s) ≤ 64
  small_count f (shape.Whole low high) few small = omega arith
  small_count f (shape.Listed literals low high) few small = omega arith
  small_count f (shape.Access t constant true) few small = omega arith
  small_count f (shape.Access t constant false) few small = omega arith
  small_count f (shape.Fields []) few small = omega arith
  small_count f (shape.Fields (c ∷ rest)) few small = cc
  small_count f (shape.Elements low high t) few small = cc
  small_count f (shape.Same t) few small = few t

  small_short : (f : ℕ → List (List Sel)) (s : Shape) → ((t : ℕ) → IsTrue (all_short (f t))) → IsTrue (is_small s) → IsTrue (all_short (parts_of f s))
  small_short f (shape.Whole low high) short small = refl
  small_short f (shape.Listed literals low high) short small = refl
  small_short f (shape.Access t constant true) short small = refl
  small_short f (shape.Access t constant false) short small = refl
  small_short f (shape.Fields []) short small = refl
  small_short f (shape.Fields (c ∷ rest)) short small = cc
  small_short f (shape.Elements low high t) short small = cc
  small_short f (shape.Same t) short small = short t

  words_at : (n : ℕ) → n ≤ length table → (t : ℕ) → words_within n table t ≤ 65536
  unfolding words_within
  words_at zero le t = omega arith
  words_at (suc n) le t =
      elim (covered_shape t) [
        | inl is ↦ few_words_at table t (suc n) (within t is) le
        | inr small ↦ small_words (words_within n table) (shape_found (slice_get table t)) (words_at n (omega (arith, le))) small
      ]

  count_at : (n : ℕ) → n ≤ length table → (t : ℕ) → length (parts_within n table t) ≤ 64
  unfolding parts_within
  count_at zero le t = omega arith
  count_at (suc n) le t =
      elim (covered_shape t) [
        | inl is ↦ few_parts_at table t (suc n) (within t is) le
        | inr small ↦ small_count (parts_within n table) (shape_found (slice_get table t)) (count_at n (omega (arith, le))) small
      ]

  short_at : (n : ℕ) → n ≤ length table → (t : ℕ) → IsTrue (all_short (parts_within n table t))
  unfolding parts_within
  short_at zero le t = refl
  short_at (suc n) le t =
      elim (covered_shape t) [
        | inl is ↦ short_parts_at table t (suc n) (within t is) le
        | inr small ↦ small_short (parts_within n table) (shape_found (slice_get table t)) (short_at n (omega (arith, le))) small
      ]

  all_within : AreWithin table
  unfolding words parts
  all_within t = record {
    few_words = words_at (length table) (omega arith) t;
    few_parts = count_at (length table) (omega arith) t;
    short_parts = short_at (length table) (omega arith) t;
  }

-- ---- a program

none_there : (n t : ℕ) → get_or (replicate n no_type) t no_type ≡ no_type
none_there zero t = refl
none_there (suc n) zero = refl
none_there (suc n) (suc t) = none_there n t

or_true : (a : Bool) → IsTrue (a || true)
or_true true = refl
or_true false = refl

module _ (full_type : ℕ → Bool) where
  first_covered : (count : ℕ) → Covered full_type (at_first false count).table
  first_covered count zero = or_true (full_type 0)
  first_covered count (suc zero) = or_true (full_type 1)
  first_covered count (suc (suc zero)) = or_true (full_type 2)
  first_covered count (suc (suc (suc zero))) = or_true (full_type 3)
  first_covered count (suc (suc (suc (suc zero)))) = or_true (full_type 4)
  first_covered count (suc (suc (suc (suc (suc t))))) =
      ap (λ i. full_type (suc (suc (suc (suc (suc t))))) || is_small i.shape) (none_there (count - 5) t)
      ∙ or_true (full_type (suc (suc (suc (suc (suc t))))))

  units_covered : (units : List Code) (c other : Context) → ((t : ℕ) → IsTrue (full_in (flat_map (made other) units) t) → IsTrue (full_type t))
      → Covered full_type c.known.table → Covered full_type (gather_units units c).known.table
  units_covered [] c other is covered = covered
  units_covered (u ∷ rest) c other is covered =
      units_covered rest (gather u c) other (λ t in_rest. is t (full_second (made other u) (flat_map (made other) rest) t in_rest))
      (code_covered full_type u c other (λ t in_first. is t (full_first (made other u) (flat_map (made other) rest) t in_first)) covered)

no_size : (found later : Option Fault) → decided found later ≡ None → found ≡ None
no_size None later none = refl
no_size (Some f) later none = cc

no_sentence : (found later : Option Fault) → decided found later ≡ None → later ≡ None
no_sentence found None none = refl
no_sentence None (Some f) none = cc
no_sentence (Some g) (Some f) none = cc

no_fault : (found later : Option TypeFault) → told found later ≡ None → found ≡ None
no_fault None later none = refl
no_fault (Some f) None none = cc
no_fault (Some f) (Some g) none = cc

-- The law.
pub within_limits : (p : Program) → IsTrue (all_formed p.units) → type_fault p ≡ None → AreWithin (known_of p).table
unfolding type_fault known_of type_sizes all_made
within_limits p formed untold =
    let known : Known = known_of p in
    let none : fault_known known p.units ≡ None = no_fault (fault_known known p.units) (fault_known (known_with true p) p.units) untold in
    let all : List Made = all_made known p.units in
    let sizes : type_sizes known p.units ≡ [] =
    no_first (type_sizes known p.units) (no_size (first (type_sizes known p.units)) (first (sentence_faults known p.units)) none) in
    let sentences : sentence_faults known p.units ≡ [] =
    no_first (sentence_faults known p.units) (no_sentence (first (type_sizes known p.units)) (first (sentence_faults known p.units)) none) in
    let sound : (t : ℕ) → is_unsound all t ≡ false = none_unsound all (all_units_sound known p.units formed sentences) in
    let turn_covered : (table : Table) → Covered (full_in all) table → Covered (full_in all) (known_from p table).table =
    λ table. units_covered (full_in all) p.units (outside (record (at_first false p.count) { table = table })) (outside known) (λ t is. is) in
    let first : Covered (full_in all) (known_from p (at_first false p.count).table).table =
    turn_covered (at_first false p.count).table (first_covered (full_in all) p.count) in
    all_within known.table (full_in all) (turn_covered (known_from p (at_first false p.count).table).table first)
    (full_within known.table all sound all sizes)
