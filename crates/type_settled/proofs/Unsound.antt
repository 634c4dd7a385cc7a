-- Types that are looked at.
use Rattle.std.proofs.Common.{◌≡◌, ◌⊎◌, inl, inr, ℕ, zero, suc, ◌+◌, ◌<◌, Bool, true, false, not, ◌&&◌, ◌||◌, List, [], ◌∷◌, map, refl, sym, ap, ◌∙◌, arith, length, drop, length-set, get_or, set, nat_eq, Option, Some, None, if◌then◌else◌, IsTrue, true≢false}
use Rattle.std.specs.Prelude.{slice_get}
use Rattle.std.proofs.Math.Seq.{drop-cons}
use Rattle.std.proofs.lemmas.Bool.{cases_eq}
use Rattle.std.proofs.lemmas.List.{get_or-set_same, get_or-set_other}
use Rattle.type_definitions.specs.declared.table.Component.{Component}
use Rattle.type_definitions.specs.declared.table.Shape.{Shape}
use Rattle.type_definitions.specs.declared.table.Shape.TheVariants as shape
use Rattle.type_definitions.specs.declared.table.Info.{Info}
use Rattle.type_definitions.specs.declared.table.Made.{Made}
use Rattle.type_definitions.specs.declared.judgement.Fault.{Fault}
use Rattle.type_definitions.specs.Types.{Table, base, info, info_found, shape_found}
use Rattle.type_definitions.specs.Faults.{noted}
use Rattle.type_definitions.specs.Declarations.{any_of, holds_shape, holds_parent, some_within, some_part, holds_itself}
use Rattle.type_definitions.specs.Whole.{is_unsound, size_faults, made_faults}
use Rattle.type_settled.specs.declared.measure.Measure.{Measure}
use Rattle.type_settled.specs.declared.measures.Measures.{Measures}
use Rattle.type_settled.specs.declared.order.Order.{Order}
use Rattle.type_settled.specs.Measures.{nothing, unsound_alone, marked, measured, some_below, measure_in, IsMeasured, IsKnown, AreEnough}
use Rattle.type_settled.specs.Orders.{is_done, IsOrdered}
use Rattle.type_settled.specs.Reach.{AreFound}
use Rattle.type_settled.specs.Skips.{marked_with, skips}
use Rattle.type_settled.proofs.Reached.{some_found}

-- ---- a type in a type

or_assoc : (a b c : Bool) → (a || b) || c ≡ a || (b || c)
or_assoc true b c = refl
or_assoc false b c = refl

never_any : (cs : List Component) → any_of (λ u. false) cs ≡ false
never_any [] = refl
never_any (c ∷ rest) = never_any rest

pub never_shape : (s : Shape) → holds_shape (λ u. false) s ≡ false
never_shape (shape.Whole low high) = refl
never_shape (shape.Listed literals low high) = refl
never_shape (shape.Access t constant named) = refl
never_shape (shape.Fields cs) = never_any cs
never_shape (shape.Elements low high t) = refl
never_shape (shape.Same t) = refl

pub never_parent : (p : Option ℕ) → holds_parent (λ u. false) p ≡ false
never_parent None = refl
never_parent (Some t) = refl

shape_info : (o : Option Info) → shape_found o ≡ (info_found o).shape
shape_info None = refl
shape_info (Some i) = refl

below_within : (is : ℕ → Bool) (table : Table) (n t : ℕ)
    → holds_shape (some_within n is table) (shape_found (slice_get table t)) || holds_parent (some_within n is table) (info table t).parent
    ≡ some_below n is table t
unfolding some_below
below_within is table zero t =
    ap (λ b. b || holds_parent (λ u. false) (info table t).parent) (never_shape (shape_found (slice_get table t)))
    ∙ never_parent (info table t).parent
below_within is table (suc n) t =
    let has : (ℕ → Bool) → Shape → Bool = λ f s. holds_shape f s || holds_parent f (info table t).parent in
    let one : (u : ℕ) → some_within (suc n) is table u ≡ is u || some_below n is table u =
    λ u. or_assoc (is u) (holds_shape (some_within n is table) (shape_found (slice_get table u)))
    (holds_parent (some_within n is table) (info table u).parent)
    ∙ ap (λ b. is u || b) (below_within is table n u) in
    let each : some_within (suc n) is table ≡ (λ u. is u || some_below n is table u) = λ j u. one u j in
    ap (λ f. has f (shape_found (slice_get table t))) each
    ∙ ap (λ s. has (λ u. is u || some_below n is table u) s) (shape_info (slice_get table t))

pub part_below : (is : ℕ → Bool) (table : Table) (t : ℕ) → some_below (length table) is table t ≡ some_part is table t
unfolding some_part
part_below is table t = sym (below_within is table (length table) t)

-- ---- a type in itself

subtype_marked : (table : Table) (t u : ℕ) → 0 < t → marked (map (λ i. nat_eq i.base t) table) u ≡ nat_eq (base table u) t
subtype_marked [] t u lt = not_zero t lt
  where
    not_zero : (t : ℕ) → 0 < t → false ≡ nat_eq 0 t
    not_zero t lt = grind (arith, lt)
subtype_marked (i ∷ rest) t zero lt = refl
subtype_marked (i ∷ rest) t (suc u) lt = subtype_marked rest t u lt

pub itself_found : (table : Table) (marks made : List Bool) (t : ℕ) → 0 < t → marks ≡ map (λ i. nat_eq i.base t) table
    → AreFound true (marked marks) table made → marked made t ≡ holds_itself table t
itself_found table marks made t lt is found =
    let same : marked marks ≡ (λ u. nat_eq (base table u) t) =
    λ j u. (ap (λ ms. marked ms u) is ∙ subtype_marked table t u lt) j in
    found t (length table) (omega arith) ∙ some_found (length table) (marked marks) table t ∙ part_below (marked marks) table t
    ∙ ap (λ f. some_part f table t) same

-- ---- a type that is looked at

known_unsound : (is : ℕ → Bool) (table : Table) (measures : Measures) (t : ℕ) (done : Bool) → IsKnown is table measures t done
    → (if done then get_or measures.values.items t nothing else unsound_alone).unsound ≡ some_below (length table) is table t
known_unsound is table measures t true known = ap (λ m. m.unsound) known
known_unsound is table measures t false known = sym known

known_right : (is : ℕ → Bool) (table : Table) (measures : Measures) (t : ℕ) (done : Bool) → IsKnown is table measures t done
    → (if done then get_or measures.values.items t nothing else unsound_alone).unsound ≡ false
    → (if done then get_or measures.values.items t nothing else unsound_alone) ≡ measured is (length table) table t
known_right is table measures t true known none = known
known_right is table measures t false known none = absurd (true≢false none)

same_skip : (full a b c : Bool) → (a ≡ false → b ≡ c) → not full || (a || b) ≡ not full || (a || c)
same_skip full true b c same = refl
same_skip full false b c same = ap (λ d. not full || d) (same refl)

pub made_noted : (found : Option Fault) (all : List Made) (marks : List Bool) (table : Table) (measures : Measures) (m : Made)
    (measure : Measure) → AreEnough (marked marks) table measures → ((t : ℕ) → marked marks t ≡ is_unsound all t)
    → measure ≡ measure_in measures m.number
    → noted found (made_faults table all m) ≡ noted found (if skips marks measure m then [] else size_faults table m.pos m.number)
made_noted found all marks table measures m measure right same at =
    let same : marked marks ≡ is_unsound all = λ j t. same t j in
    let below : marked marks m.number ≡ false → some_part (marked marks) table m.number ≡ measure.unsound =
    λ left. sym (ap (λ m. m.unsound) at
    ∙ known_unsound (marked marks) table measures m.number (get_or measures.done.items m.number true) (right m.number left)
    ∙ part_below (marked marks) table m.number) in
    ap (λ is. noted found (if not m.full || (is m.number || some_part is table m.number) then [] else size_faults table m.pos m.number)) (sym same)
    ∙ ap (λ skip. noted found (if skip then [] else size_faults table m.pos m.number))
    (same_skip m.full (marked marks m.number) (some_part (marked marks) table m.number) measure.unsound below)

-- What is looked at is measured.
or_first : (a b : Bool) → a || b ≡ false → a ≡ false
or_first true b e = e
or_first false b e = refl

or_second : (a b : Bool) → a || b ≡ false → b ≡ false
or_second true b e = absurd (true≢false e)
or_second false b e = e

pub looked_measured : (marks : List Bool) (table : Table) (measures : Measures) (m : Made) (measure : Measure)
    → AreEnough (marked marks) table measures → skips marks measure m ≡ false → measure ≡ measure_in measures m.number
    → measure ≡ measured (marked marks) (length table) table m.number
looked_measured marks table measures m measure right looked at =
    let rest : marked marks m.number || measure.unsound ≡ false = or_second (not m.full) (marked marks m.number || measure.unsound) looked in
    let left : marked marks m.number ≡ false = or_first (marked marks m.number) measure.unsound rest in
    let none : measure.unsound ≡ false = or_second (marked marks m.number) measure.unsound rest in
    at ∙ known_right (marked marks) table measures m.number (get_or measures.done.items m.number true) (right m.number left)
    (sym (ap (λ m. m.unsound) at) ∙ none)

-- ---- types that are known

pub whole_known : (is : ℕ → Bool) (table : Table) (order : Order) (measures : Measures) → IsOrdered is table order
    → measures.values.items ≡ order.values.items → measures.done.items ≡ order.done.items
    → ((t : ℕ) → is_done order.done.items t ≡ false → is t ≡ false → IsTrue (some_below (length table) is table t))
    → AreEnough is table measures
whole_known is table order measures ordered values done rest t left =
    known_as (get_or measures.done.items t true) (ap (λ ds. get_or ds t true) done)
  where
    known_as : (d : Bool) → d ≡ get_or order.done.items t true → IsKnown is table measures t d
    known_as true e = ap (λ ms. get_or ms t nothing) values ∙ ordered.right t (length table) ordered.within (sym e)
    known_as false e = rest t (sym e) left

pub rounds_known : (is : ℕ → Bool) (table : Table) (measures : Measures) → IsMeasured is table measures.values.items
    → measures.done.items ≡ [] → AreEnough is table measures
rounds_known is table measures right done t left =
    known_as (get_or measures.done.items t true) (ap (λ ds. get_or ds t true) done)
  where
    known_as : (d : Bool) → d ≡ true → IsKnown is table measures t d
    known_as true e = right t
    known_as false e = absurd (true≢false (sym e))

pub none_left : (done : List Bool) → ((t : ℕ) → IsTrue (is_done done t)) → (t : ℕ) → is_done done t ≡ false → ⊥
none_left done each t left = true≢false (sym (each t) ∙ left)

-- ---- marks

pub or_false : (a : Bool) → a || false ≡ a
or_false true = refl
or_false false = refl

or_true : (a : Bool) → true ≡ a || true
or_true true = refl
or_true false = refl

pub same_number : (n : ℕ) → nat_eq n n ≡ true
same_number n = grind arith

other_number : (n t : ℕ) → (t ≡ n → ⊥) → nat_eq n t ≡ false
other_number n t ne = grind arith

marked_there : (n : ℕ) (marks : List Bool) (t : ℕ) → n < length marks → (t ≡ n) ⊎ (t ≡ n → ⊥)
    → marked (set marks n true) t ≡ marked marks t || (nat_eq n t && true)
marked_there n marks t lt (inl e) =
    let here : marked (set marks n true) n ≡ marked marks n || (nat_eq n n && true) =
    get_or-set_same marks n true false lt ∙ or_true (marked marks n) ∙ ap (λ b. marked marks n || (b && true)) (sym (same_number n)) in
    rw e here
marked_there n marks t lt (inr ne) =
    get_or-set_other marks n t true false ne ∙ sym (or_false (marked marks t))
    ∙ ap (λ b. marked marks t || (b && true)) (sym (other_number n t ne))

and_false : (a : Bool) → false ≡ a && false
and_false true = refl
and_false false = refl

marked_more : (m : Made) (sound : Bool) (marks : List Bool) (t : ℕ) → sound ≡ m.sound → m.number < length marks
    → marked (if sound then marks else set marks m.number true) t ≡ marked marks t || (nat_eq m.number t && not sound)
marked_more m true marks t is lt = sym (or_false (marked marks t)) ∙ ap (λ b. marked marks t || b) (and_false (nat_eq m.number t))
marked_more m false marks t is lt = marked_there m.number marks t lt (cases_eq t m.number)

-- One more of those that are made is marked.
pub marks_step : (made : List Made) (i j : ℕ) (d m : Made) (marks after : List Bool) (all : List Made) (t : ℕ) → i < length made
    → j ≡ i + 1 → m ≡ get_or made i d → m.number < length marks → after ≡ marked_with m marks
    → marked marks t || is_unsound (drop i made) t ≡ is_unsound all t → marked after t || is_unsound (drop j made) t ≡ is_unsound all t
marks_step made i j d m marks after all t within e at lt is before =
    let e : j ≡ suc i = omega (arith, e) in
    ap (λ k. marked after t || is_unsound (drop k made) t) e
    ∙ ap (λ ms. marked ms t || is_unsound (drop (suc i) made) t) is
    ∙ ap (λ b. b || is_unsound (drop (suc i) made) t) (marked_more m m.sound marks t refl lt)
    ∙ or_assoc (marked marks t) (nat_eq m.number t && not m.sound) (is_unsound (drop (suc i) made) t)
    ∙ ap (λ n. marked marks t || is_unsound (n ∷ drop (suc i) made) t) at
    ∙ ap (λ xs. marked marks t || is_unsound xs t) (sym (drop-cons made i d within)) ∙ before

pub length_marked : (m : Made) (sound : Bool) (marks : List Bool)
    → length (if sound then marks else set marks m.number true) ≡ length marks
length_marked m true marks = refl
length_marked m false marks = length-set marks m.number true
