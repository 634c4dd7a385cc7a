-- A store into an object keeps what stands for the machine's memory.
use Rattle.std.proofs.Common.{◌≡◌, ◌⊎◌, inl, inr, ℕ, zero, suc, ◌+◌, ◌-◌, ◌≤◌, true, false, Bool, ◌&&◌, List, [], ◌∷◌, ◌++◌, length, take, drop, refl, sym, ap, subst, ◌∙◌, arith, ℤ, if◌then◌else◌}
use Rattle.std.specs.Prelude.{◌==◌}
use Rattle.std.proofs.lemmas.List.{drop-drop, length-map}
use Rattle.std.proofs.lemmas.Slice.{drop-append-drop}
use Rattle.machine.specs.spark_base.Lists.{Has}
use Rattle.machine.specs.type_definitions.Types.{Table}
use Rattle.machine.specs.flow_paths.Objects.{Typing}
use Rattle.machine.specs.Words.{Word}
use Rattle.machine.specs.Typed.{Sort}
use Rattle.machine.specs.Memory.{Memory, Slot, Variable, Place, OfVariable, fresh, slots_at, variable_slots, is_variable, with_variable, put, with_slots, stored}
use Rattle.run_codes.specs.Flat.{Flat, spliced, with_stack}
use Rattle.run_codes.specs.Related.{AllStand, IsValue, IsSplit, types, Lying, lying_sorts, Related, IsBefore, IsSame, AreApart}
use Rattle.run_codes.proofs.Places.{both_true}

-- ---- lists in which some are replaced

-- The same in a form that goes by steps.
abbrev pub splice : {A : Type 0} → ℕ → List A → List A → List A
splice n new all = (take n all ++ new) ++ drop (length new) (drop n all)

pub spliced_is : {A : Type 0} (n : ℕ) (new all : List A) → spliced n new all ≡ splice n new all
spliced_is n new all = ap (λ l. (take n all ++ new) ++ l) (sym (drop-drop (length new) n all))

-- After some that stay.
pub splice_on : {A : Type 0} (at a n : ℕ) (new all : List A) → n ≡ at + a → at ≤ length all → drop at (splice n new all) ≡ splice a new (drop at all)
splice_on zero a n new all is le = ap (λ k. splice k new all) (is ∙ none a)
  where
    none : (a : ℕ) → 0 + a ≡ a
    none a = omega arith
splice_on (suc at) a n new [] is le = absurd (omega (arith, le))
splice_on (suc at) a zero new (x ∷ all) is le = absurd (omega (arith, is))
splice_on (suc at) a (suc n) new (x ∷ all) is le = splice_on at a n new all (omega (arith, is)) (omega (arith, le))

-- What stands after them stays.
pub splice_after : {A : Type 0} (n q : ℕ) (new all : List A) → n + length new ≤ q → n ≤ length all → drop q (splice n new all) ≡ drop q all
splice_after zero q new all le inside = drop-append-drop (length new) all new q (omega (arith, le)) refl
splice_after (suc n) q new [] le inside = absurd (omega (arith, inside))
splice_after (suc n) zero new (x ∷ all) le inside = absurd (omega (arith, le))
splice_after (suc n) (suc q) new (x ∷ all) le inside = splice_after n q new all (omega (arith, le)) (omega (arith, inside))

-- ---- what stands for others

-- What stands before them stays.
pub stand_before : (table : Table) (made : List ℕ) (all : List Sort) (xs : List Slot) (zs : List ℤ) (n : ℕ) (new : List ℤ) → length all ≤ n
    → AllStand table made all xs zs → AllStand table made all xs (splice n new zs)
stand_before table made [] xs zs n new le is = tt
stand_before table made (s ∷ all) [] zs n new le is = absurd is
stand_before table made (s ∷ all) (x ∷ xs) [] n new le is = absurd is
stand_before table made (s ∷ all) (x ∷ xs) (z ∷ zs) zero new le is = absurd (omega (arith, le))
stand_before table made (s ∷ all) (x ∷ xs) (z ∷ zs) (suc n) new le is = (is.0, stand_before table made all xs zs n new (omega (arith, le)) is.1)

-- Others stand at the front.
front_replaced : (table : Table) (made : List ℕ) (part rest : List Sort) (xs ys : List Slot) (zs ws : List ℤ) → length ys ≡ length part → length ws ≡ length part
    → AllStand table made (part ++ rest) xs zs → AllStand table made part ys ws
    → AllStand table made (part ++ rest) (ys ++ drop (length ys) xs) (ws ++ drop (length ws) zs)
front_replaced table made [] rest xs [] zs [] ly lw is new = is
front_replaced table made [] rest xs (y ∷ ys) zs ws ly lw is new = absurd (omega (arith, ly))
front_replaced table made [] rest xs [] zs (w ∷ ws) ly lw is new = absurd (omega (arith, lw))
front_replaced table made (s ∷ part) rest xs [] zs ws ly lw is new = absurd new
front_replaced table made (s ∷ part) rest xs (y ∷ ys) zs [] ly lw is new = absurd new
front_replaced table made (s ∷ part) rest [] (y ∷ ys) zs (w ∷ ws) ly lw is new = absurd is
front_replaced table made (s ∷ part) rest (x ∷ xs) (y ∷ ys) [] (w ∷ ws) ly lw is new = absurd is
front_replaced table made (s ∷ part) rest (x ∷ xs) (y ∷ ys) (z ∷ zs) (w ∷ ws) ly lw is new =
    (new.0, front_replaced table made part rest xs ys zs ws (omega (arith, ly)) (omega (arith, lw)) is.1 new.1)

-- Others stand after the front.
part_replaced : (table : Table) (made : List ℕ) (front part rest : List Sort) (xs ys : List Slot) (zs ws : List ℤ) → length ys ≡ length part → length ws ≡ length part
    → AllStand table made (front ++ (part ++ rest)) xs zs → AllStand table made part ys ws
    → AllStand table made (front ++ (part ++ rest)) (splice (length front) ys xs) (splice (length front) ws zs)
part_replaced table made [] part rest xs ys zs ws ly lw is new = front_replaced table made part rest xs ys zs ws ly lw is new
part_replaced table made (s ∷ front) part rest [] ys zs ws ly lw is new = absurd is
part_replaced table made (s ∷ front) part rest (x ∷ xs) ys [] ws ly lw is new = absurd is
part_replaced table made (s ∷ front) part rest (x ∷ xs) ys (z ∷ zs) ws ly lw is new = (is.0, part_replaced table made front part rest xs ys zs ws ly lw is.1 new)

pub split_replaced : (table : Table) (made : List ℕ) (all part : List Sort) (at : ℕ) (xs ys : List Slot) (zs ws : List ℤ) → IsSplit all at part
    → length ys ≡ length part → length ws ≡ length part → AllStand table made all xs zs → AllStand table made part ys ws
    → AllStand table made all (splice at ys xs) (splice at ws zs)
split_replaced table made all part at xs ys zs ws split ly lw is new =
    subst (λ n. AllStand table made all (splice n ys xs) (splice n ws zs)) split.long
    (subst (λ l. AllStand table made l (splice (length split.front) ys xs) (splice (length split.front) ws zs)) (sym split.is)
    (part_replaced table made split.front part split.rest xs ys zs ws ly lw (subst (λ l. AllStand table made l xs zs) split.is is) new))

-- ---- variables of the machine

same_numbers : (a b : ℕ) → (a == b) ≡ true → a ≡ b
same_numbers a b is = grind arith

equal : (n : ℕ) → (n == n) ≡ true
equal n = grind arith

there_by : (s : Typing) (frame x : ℕ) (slots : List Slot) (v : Variable) (vs : List Variable) → variable_slots s frame x (with_variable frame x slots vs) ≡ slots
    → (k : Bool) → is_variable frame x v ≡ k → variable_slots s frame x (if k then record v { slots = slots } ∷ vs else v ∷ with_variable frame x slots vs) ≡ slots
there_by s frame x slots v vs rest true is = ap (λ k. if k then slots else variable_slots s frame x vs) is
there_by s frame x slots v vs rest false is = ap (λ k. if k then v.slots else variable_slots s frame x (with_variable frame x slots vs)) is ∙ rest

-- What is stored is there.
pub with_there : (s : Typing) (frame x : ℕ) (slots : List Slot) (vs : List Variable) → variable_slots s frame x (with_variable frame x slots vs) ≡ slots
with_there s frame x slots [] =
    ap (λ k. if k && (x == x) then slots else variable_slots s frame x []) (equal frame) ∙ ap (λ k. if true && k then slots else variable_slots s frame x []) (equal x)
with_there s frame x slots (v ∷ vs) = there_by s frame x slots v vs (with_there s frame x slots vs) (is_variable frame x v) refl

not_both : (frame x other y : ℕ) (v : Variable) → ((frame == other) && (x == y)) ≡ false → is_variable frame x v ≡ true → is_variable other y v ≡ true → ⊥
not_both frame x other y v apart is has =
    let a = both_true (v.frame == frame) (v.object == x) is in
    let b = both_true (v.frame == other) (v.object == y) has in
    let frames : frame ≡ other = sym (same_numbers v.frame frame a.0) ∙ same_numbers v.frame other b.0 in
    let objects : x ≡ y = sym (same_numbers v.object x a.1) ∙ same_numbers v.object y b.1 in
    never (sym apart ∙ ap (λ k. (frame == k) && (x == y)) (sym frames) ∙ ap (λ k. (frame == frame) && (x == k)) (sym objects)
    ∙ ap (λ b. b && (x == x)) (equal frame) ∙ equal x)
  where
    never : false ≡ true → ⊥
    never z = cc

others_by : (s : Typing) (frame x other y : ℕ) (slots : List Slot) (v : Variable) (vs : List Variable) → ((frame == other) && (x == y)) ≡ false
    → variable_slots s other y (with_variable frame x slots vs) ≡ variable_slots s other y vs
    → (k j : Bool) → is_variable frame x v ≡ k → is_variable other y v ≡ j
    → variable_slots s other y (if k then record v { slots = slots } ∷ vs else v ∷ with_variable frame x slots vs) ≡ variable_slots s other y (v ∷ vs)
others_by s frame x other y slots v vs apart rest true true is has = absurd (not_both frame x other y v apart is has)
others_by s frame x other y slots v vs apart rest true false is lacks =
    ap (λ k. if k then slots else variable_slots s other y vs) lacks ∙ ap (λ k. if k then v.slots else variable_slots s other y vs) (sym lacks)
others_by s frame x other y slots v vs apart rest false j is has = ap (λ l. if is_variable other y v then v.slots else l) rest

-- And other variables are as before.
pub with_others : (s : Typing) (frame x other y : ℕ) (slots : List Slot) (vs : List Variable) → ((frame == other) && (x == y)) ≡ false
    → variable_slots s other y (with_variable frame x slots vs) ≡ variable_slots s other y vs
with_others s frame x other y slots [] apart = ap (λ k. if k then slots else variable_slots s other y []) apart
with_others s frame x other y slots (v ∷ vs) apart =
    others_by s frame x other y slots v vs apart (with_others s frame x other y slots vs apart) (is_variable frame x v) (is_variable other y v) refl refl

-- ---- the store

-- An object has other slots, and its words in the stack are others.
pub object_changed : (s : Typing) (all : List Lying) (m : Memory) (f : Flat) (l : Lying) (n a : ℕ) (slots : List Slot) (new : List ℤ)
    → Related s all m f → AreApart s all (length f.stack) → Has all l → n ≡ l.at + a → a + length new ≤ length (lying_sorts s l)
    → AllStand s.table (types m) (lying_sorts s l) slots (splice a new (drop l.at f.stack))
    → Related s all (put (OfVariable l.frame l.object) slots m) (with_stack f (splice n new f.stack))
object_changed s all m f l n a slots new related apart here is inside stand = record {
  objects = λ k has. by k has (apart.apart l k here has);
  cells = related.cells;
  counted = record { made = related.counted.made; few = related.counted.few; live = related.counted.live; freed = related.counted.freed };
}
  where
    vars : List Variable
    vars = with_variable l.frame l.object slots m.variables

    whole : l.at + length (lying_sorts s l) ≤ length f.stack
    whole = apart.within l here

    mine : AllStand s.table (types m) (lying_sorts s l) (variable_slots s l.frame l.object vars) (drop l.at (splice n new f.stack))
    mine =
        subst (λ xs. AllStand s.table (types m) (lying_sorts s l) xs (drop l.at (splice n new f.stack))) (sym (with_there s l.frame l.object slots m.variables))
        (subst (λ zs. AllStand s.table (types m) (lying_sorts s l) slots zs) (sym (splice_on l.at a n new f.stack is (omega (arith, whole)))) stand)

    old : (k : Lying) → Has all k → ((l.frame == k.frame) && (l.object == k.object)) ≡ false → (zs : List ℤ)
        → AllStand s.table (types m) (lying_sorts s k) (variable_slots s k.frame k.object m.variables) zs
        → AllStand s.table (types m) (lying_sorts s k) (variable_slots s k.frame k.object vars) zs
    old k has other zs stands =
        subst (λ xs. AllStand s.table (types m) (lying_sorts s k) xs zs) (sym (with_others s l.frame l.object k.frame k.object slots m.variables other)) stands

    by : (k : Lying) → Has all k → IsSame l k ⊎ ((((l.frame == k.frame) && (l.object == k.object)) ≡ false) × (IsBefore s l k ⊎ IsBefore s k l))
        → AllStand s.table (types m) (lying_sorts s k) (variable_slots s k.frame k.object vars) (drop k.at (splice n new f.stack))
    by k has where_is = elim where_is [
      | inl same ↦
          subst (λ j. AllStand s.table (types m) (lying_sorts s k) (variable_slots s k.frame k.object vars) (drop j (splice n new f.stack))) same.2
          (subst (λ x. AllStand s.table (types m) (lying_sorts s (record { frame = k.frame; object = x; at = k.at })) (variable_slots s k.frame x vars) (drop l.at (splice n new f.stack))) same.1
          (subst (λ j. AllStand s.table (types m) (lying_sorts s l) (variable_slots s j l.object vars) (drop l.at (splice n new f.stack))) same.0 mine))
      | inr other ↦ old k has other.0 (drop k.at (splice n new f.stack)) (elim other.1 [
        | inl before ↦
            subst (λ zs. AllStand s.table (types m) (lying_sorts s k) (variable_slots s k.frame k.object m.variables) zs)
            (sym (splice_after n k.at new f.stack (omega (arith, before, inside, is)) (omega (arith, whole, inside, is)))) (related.objects k has)
        | inr after ↦ (
            let first = apart.within k has in
            let on : drop k.at (splice n new f.stack) ≡ splice (n - k.at) new (drop k.at f.stack) =
            splice_on k.at (n - k.at) n new f.stack (omega (arith, after, is)) (omega (arith, first)) in
            subst (λ zs. AllStand s.table (types m) (lying_sorts s k) (variable_slots s k.frame k.object m.variables) zs) (sym on)
            (stand_before s.table (types m) (lying_sorts s k) (variable_slots s k.frame k.object m.variables) (drop k.at f.stack) (n - k.at) new (omega (arith, after, is)) (related.objects k has)))
      ])
    ]

-- A part of an object has other slots.
pub slots_in_stack : (s : Typing) (all : List Lying) (m : Memory) (f : Flat) (l : Lying) (p : Place) (n : ℕ) (part : List Sort) (ys : List Slot) (zs : List ℤ)
    → Related s all m f → AreApart s all (length f.stack) → Has all l → p.base ≡ OfVariable l.frame l.object → n ≡ l.at + p.at
    → IsSplit (lying_sorts s l) p.at part → p.at + length part ≤ length (lying_sorts s l)
    → length ys ≡ length part → length zs ≡ length part → AllStand s.table (types m) part ys zs
    → Related s all (with_slots s p ys m) (with_stack f (spliced n zs f.stack))
slots_in_stack s all m f l p n part ys zs related apart here base is split inside long_ys long_zs value =
    let old : List Slot = variable_slots s l.frame l.object m.variables in
    let stand = split_replaced s.table (types m) (lying_sorts s l) part p.at old ys (drop l.at f.stack) zs split long_ys long_zs (related.objects l here) value in
    let fits : p.at + length zs ≤ length (lying_sorts s l) = subst (λ k. p.at + k ≤ length (lying_sorts s l)) (sym long_zs) inside in
    let changed = object_changed s all m f l n p.at (splice p.at ys old) zs related apart here is fits stand in
    let slots_are : splice p.at ys old ≡ (take p.at old ++ ys) ++ drop (p.at + length ys) old = sym (spliced_is p.at ys old) in
    let moved : Related s all (put (OfVariable l.frame l.object) ((take p.at old ++ ys) ++ drop (p.at + length ys) old) m) (with_stack f (splice n zs f.stack)) =
    subst (λ x. Related s all (put (OfVariable l.frame l.object) x m) (with_stack f (splice n zs f.stack))) slots_are changed in
    let based : Related s all (with_slots s p ys m) (with_stack f (splice n zs f.stack)) =
    subst (λ b. Related s all (put b ((take p.at (slots_at s m b) ++ ys) ++ drop (p.at + length ys) (slots_at s m b)) m) (with_stack f (splice n zs f.stack))) (sym base) moved in
    subst (λ x. Related s all (with_slots s p ys m) (with_stack f x)) (sym (spliced_is n zs f.stack)) based

-- A value is stored there.
pub stored_in_stack : (s : Typing) (all : List Lying) (m : Memory) (f : Flat) (l : Lying) (p : Place) (n : ℕ) (part : List Sort) (ws : List Word) (zs : List ℤ)
    → Related s all m f → AreApart s all (length f.stack) → Has all l → p.base ≡ OfVariable l.frame l.object → n ≡ l.at + p.at
    → IsSplit (lying_sorts s l) p.at part → p.at + length part ≤ length (lying_sorts s l) → IsValue s.table (types m) part ws zs
    → Related s all (stored s p ws m) (with_stack f (spliced n zs f.stack))
stored_in_stack s all m f l p n part ws zs related apart here base is split inside value =
    slots_in_stack s all m f l p n part (fresh ws) zs related apart here base is split inside
    (length-map ws (λ w. record { word = w; gone = false }) ∙ value.words) value.numbers value.stand
