-- A place of the lowering leads where the machine's leads: components, elements, what is designated, and the
-- word that stands there.
use Rattle.std.proofs.Common.{◌≡◌, ℕ, zero, suc, ◌+◌, ◌*◌, ◌<◌, ◌≤◌, true, false, Bool, ◌&&◌, List, [], ◌∷◌, map, length, get_or, take, drop, sum, refl, sym, ap, subst, ◌∙◌, arith, Option, Some, None, slice_get, ℤ, pos, nat_lt, if◌then◌else◌}
use Rattle.std.specs.Prelude.{unsigned_abs}
use Rattle.std.proofs.lemmas.List.{drop-drop, length-map}
use Rattle.kept_cells.specs.run_values.declared.value.Value.{Value}
use Rattle.kept_cells.specs.run_values.declared.value.Kind.{Kind}
use Rattle.kept_cells.specs.run_values.declared.value.Kind.TheVariants as sort
use Rattle.kept_cells.specs.run_values.Values.{kind}
use Rattle.kept_cells.specs.Cells.{Cell as StoredCell}
use Rattle.machine.specs.type_definitions.declared.table.Shape.{Shape}
use Rattle.machine.specs.type_definitions.declared.table.Shape.TheVariants as shape
use Rattle.machine.specs.type_definitions.declared.table.Component.{Component}
use Rattle.machine.specs.type_definitions.Types.{Table, shape_of, components_of, view_of, span, words}
use Rattle.machine.specs.type_definitions.Entries.{integer}
use Rattle.machine.specs.flow_paths.Objects.{Typing, object_at, designated, designated_of}
use Rattle.machine.specs.Words.{Word, Cell, component_type, words_before, no_component, element_type, element_of}
use Rattle.machine.specs.Typed.{Sort, Pointer, sorts, repeated_sorts, designates}
use Rattle.machine.specs.Memory.{Memory, Slot, HeapCell, Place, no_cell, cell, slots_at, words_of}
use Rattle.machine.specs.Evaluate.{Now, Evaluated, Done, followed_by, ConstraintError, Touched, heap_words, Step, ToComponent, ToElement, ToDesignated, walked, stepped, component_place, element_place, cell_place, designated_place}
use Rattle.machine.specs.Evaluate as machine
use Rattle.run_codes.specs.Codes.{Code, InFrame, InPackages, Behind}
use Rattle.run_codes.specs.Codes as codes
use Rattle.run_codes.specs.Flat.{Flat, Got, Given, Stops, Broken, Stop, Raises, Traps, and_then, found, kind_of, same_kind, word_of, words_in, touched, value_word, behind, behind_at, constraint, most_cells, most_offsets, Spot, word, indexes}
use Rattle.run_codes.specs.Flat as flat
use Rattle.run_codes.specs.Lowered.{no_index, load}
use Rattle.run_codes.specs.Related.{Designates, PointsTo, Stands, SlotStands, AllStand, AllKinds, HaveCells, IsTable, Seen, table, now, types, Stand, IsSeen, Stopped, Same, IsSplit, IsFrom, IsPlace, IsTouch, InCell, IsDesignated, IsBehind, Leads}
use Rattle.run_codes.proofs.Parts.{many, all_sorts, before, component_stands, component_kinds, component_split, element_stands, element_kinds, element_split, join_split, whole_split, split_inside, first_word, first_value, words-drop}

-- ---- small facts

pub impossible : {A B : Type 0} (a : A) → None ≡ Some a → B
impossible a is = absurd (never a is)
  where
    never : {A : Type 0} (a : A) → None ≡ Some a → ⊥
    never a is = cc

pub some_same : {A : Type 0} (a b : A) → Some a ≡ Some b → a ≡ b
some_same a b is = cc

pub given_same : {A : Type 0} (a b : A) → Given a ≡ Given b → a ≡ b
given_same a b is = cc

pub if_some : {A : Type 0} (b : Bool) (x : Option A) (a : A) → (if b then x else None) ≡ Some a → (b ≡ true) × (x ≡ Some a)
if_some true x a is = (refl, is)
if_some false x a is = impossible a is

pub if_none : {A : Type 0} (b : Bool) (x : Option A) (a : A) → (if b then None else x) ≡ Some a → (b ≡ false) × (x ≡ Some a)
if_none true x a is = impossible a is
if_none false x a is = (refl, is)

pub both_true : (a b : Bool) → (a && b) ≡ true → (a ≡ true) × (b ≡ true)
both_true true b is = (refl, is)
both_true false b is = absurd (never is)
  where
    never : false ≡ true → ⊥
    never e = cc

pub below : (i n : ℕ) → nat_lt i n ≡ true → i < n
below i n is = grind arith

pub is_below : (i n : ℕ) → i < n → nat_lt i n ≡ true
is_below i n is = grind arith

-- What is given at the end was given on the way.
pub given_on : {A B : Type 0} (got : Got A) (f : A → Got B) (b : B) → and_then got f ≡ Given b → (a : A) × (got ≡ Given a) × (f a ≡ Given b)
given_on (Given a) f b is = (a, refl, is)
given_on (Stops s) f b is = absurd (never s b is)
  where
    never : {B : Type 0} (s : Stop) (b : B) → Stops s ≡ Given b → ⊥
    never s b is = cc
given_on Broken f b is = absurd (never b is)
  where
    never : {B : Type 0} (b : B) → Broken ≡ Given b → ⊥
    never b is = cc

-- ---- the machine's evaluation in two steps

pub twice : {A B C : Type 0} (ev : Evaluated A) (f : A → Now → Evaluated B) (g : B → Now → Evaluated C)
    → followed_by (followed_by ev f) g ≡ followed_by ev (λ a now. followed_by (f a now) g)
twice (Done a now) f g = refl
twice (machine.Raises e now) f g = refl
twice (machine.Traps t now) f g = refl

pub no_step : (s : Typing) (ev : Evaluated Place) → followed_by ev (walked s []) ≡ ev
no_step s (Done p now) = refl
no_step s (machine.Raises e now) = refl
no_step s (machine.Traps t now) = refl

pub one_step : (s : Typing) (step : Step) (way : List Step) (ev : Evaluated Place)
    → followed_by ev (walked s (step ∷ way)) ≡ followed_by (followed_by ev (stepped s step)) (walked s way)
one_step s step way (Done p now) = refl
one_step s step way (machine.Raises e now) = refl
one_step s step way (machine.Traps t now) = refl

pub stopped_on : {A B : Type 0} (m : Memory) (stop : Stop) (ev : Evaluated A) (f : A → Now → Evaluated B) → Stopped m stop ev → Stopped m stop (followed_by ev f)
stopped_on m (Raises x) ev f s = (s.0, ap (λ y. followed_by y f) s.1, s.2)
stopped_on m (Traps t) ev f s = (s.0, ap (λ y. followed_by y f) s.1, s.2)
stopped_on m flat.Memory ev f s = absurd s

pub stopped_by : {A : Type 0} (m : Memory) (stop : Stop) (ev other : Evaluated A) → ev ≡ other → Stopped m stop other → Stopped m stop ev
stopped_by m (Raises x) ev other is s = (s.0, is ∙ s.1, s.2)
stopped_by m (Traps t) ev other is s = (s.0, is ∙ s.1, s.2)
stopped_by m flat.Memory ev other is s = absurd s

pub same_by : (e : Seen) (s : Sort) (k : ℕ) (ev other : Evaluated (List Word)) (got : Got ℤ) → ev ≡ other → Same e s k other got → Same e s k ev got
same_by e s k ev other got is same = subst (λ x. Same e s k x got) (sym is) same

-- ---- components

component_is : (table : Table) (t i : ℕ) (components : List Component) → shape_of table t ≡ shape.Fields components
    → component_type table t i ≡ (get_or components i no_component).of
component_is table t i components is = ap (λ sh. (get_or (components_of sh) i no_component).of) is

before_is : (table : Table) (t i : ℕ) (components : List Component) → shape_of table t ≡ shape.Fields components
    → words_before table t i ≡ before table i components
before_is table t i components is = ap (λ sh. sum (map (λ (c : Component). words table c.of) (take i (components_of sh)))) is

-- ---- parts of a place, a component or an element

-- A step that adds an offset to a place, of whose words it keeps a part.
pub record IsPart (e : Seen) (step : Step) (t u by : ℕ) : Type 0 where
  pub place : Place → Place
  pub leads : (p : Place) (n : Now) → stepped e.site.typing step p n ≡ Done (place p) n
  pub base : (p : Place) → (place p).base ≡ p.base
  pub at : (p : Place) → p.of ≡ t → (place p).at ≡ p.at + by
  pub of : (p : Place) → p.of ≡ t → (place p).of ≡ u
  pub stand : (xs : List Slot) (zs : List ℤ) → Stand e (sorts (table e) t) xs zs → Stand e (sorts (table e) u) (drop by xs) (drop by zs)
  pub kinds : (vs : List Value) → AllKinds (sorts (table e) t) vs → AllKinds (sorts (table e) u) (drop by vs)
  pub split : IsSplit (sorts (table e) t) by (sorts (table e) u)

-- A spot further on.
abbrev pub further_spot : ℕ → Spot → Spot
further_spot by (flat.InStack n) = flat.InStack (n + by)
further_spot by (flat.InCell n o) = flat.InCell n (o + by)

part_from : (e : Seen) (step : Step) (t u by : ℕ) (w : Spot) (p : Place) (part : IsPart e step t u by) → p.of ≡ t → IsFrom e p t w → IsFrom e (part.place p) u (further_spot by w)
part_from e step t u by (flat.InStack n) p part of f =
    let at : (part.place p).at ≡ p.at + by = part.at p of in
    record {
      frame = f.frame;
      object = f.object;
      start = f.start;
      lies = f.lies;
      base = part.base p ∙ f.base;
      at = omega (arith, f.at, at);
      split = subst (λ k. IsSplit (sorts (table e) (object_at e.site.typing f.object).of) k (sorts (table e) u)) (sym at)
          (join_split (sorts (table e) (object_at e.site.typing f.object).of) (sorts (table e) t) (sorts (table e) u) p.at by f.split part.split);
    }
part_from e step t u by (flat.InCell n o) p part of f =
    let at : (part.place p).at ≡ p.at + by = part.at p of in
    record {
      base = part.base p ∙ f.base;
      at = omega (arith, f.at, at);
      within = f.within;
      split = subst (λ k. IsSplit (sorts (table e) (cell e.memory (suc n)).of) k (sorts (table e) u)) (sym at)
          (join_split (sorts (table e) (cell e.memory (suc n)).of) (sorts (table e) t) (sorts (table e) u) p.at by f.split part.split);
    }

part_place : (e : Seen) (step : Step) (k t u by : ℕ) (w w' : Spot) (zs zs' : List ℤ) (ev : Evaluated Place) → IsPart e step t u by → w' ≡ further_spot by w → zs' ≡ drop by zs
    → IsPlace e k t w zs ev → IsPlace e k u w' zs' (followed_by ev (stepped e.site.typing step))
part_place e step k t u by w w' zs zs' ev part there here is =
    let slots : List Slot = slots_at e.site.typing e.memory is.p.base in
    let all = part.stand (drop is.p.at slots) zs is.stand in
    let moved : Stand e (sorts (table e) u) (drop (is.p.at + by) slots) (drop by zs) =
    subst (λ l. Stand e (sorts (table e) u) l (drop by zs)) (drop-drop by is.p.at slots) all in
    let placed : Stand e (sorts (table e) u) (drop (part.place is.p).at slots) (drop by zs) =
    subst (λ n. Stand e (sorts (table e) u) (drop n slots) (drop by zs)) (sym (part.at is.p is.of)) moved in
    let based : Stand e (sorts (table e) u) (drop (part.place is.p).at (slots_at e.site.typing e.memory (part.place is.p).base)) (drop by zs) =
    subst (λ b. Stand e (sorts (table e) u) (drop (part.place is.p).at (slots_at e.site.typing e.memory b)) (drop by zs)) (sym (part.base is.p)) placed in
    record {
      p = part.place is.p;
      gives = ap (λ x. followed_by x (stepped e.site.typing step)) is.gives ∙ part.leads is.p (now e k);
      of = part.of is.p is.of;
      stand = subst (λ l. Stand e (sorts (table e) u) (drop (part.place is.p).at (slots_at e.site.typing e.memory (part.place is.p).base)) l) (sym here) based;
      from = subst (λ s. IsFrom e (part.place is.p) u s) (sym there) (part_from e step t u by w is.p part is.of is.from);
    }

part_touch : (e : Seen) (step : Step) (freed : Bool) (k t u by : ℕ) (w w' : Spot) (zs zs' : List ℤ) (ev : Evaluated Place) → IsPart e step t u by → w' ≡ further_spot by w → zs' ≡ drop by zs
    → IsTouch e freed k t w zs ev → IsTouch e freed k u w' zs' (followed_by ev (stepped e.site.typing step))
part_touch e step true k t u by w w' zs zs' ev part there here is = stopped_on e.memory (Traps Touched) ev (stepped e.site.typing step) is
part_touch e step false k t u by w w' zs zs' ev part there here is = part_place e step k t u by w w' zs zs' ev part there here is

part_cell : (e : Seen) (step : Step) (k t u by n o : ℕ) (ev : Evaluated Place) → IsPart e step t u by
    → InCell e k t n o ev → InCell e k u n (o + by) (followed_by ev (stepped e.site.typing step))
part_cell e step k t u by n o ev part is = record {
  c = is.c;
  there = is.there;
  within = is.within;
  small = is.small;
  inside =
      let fits = split_inside (sorts (table e) t) (sorts (table e) u) by part.split in
      omega (arith, is.inside, fits);
  kinds = subst (λ l. AllKinds (sorts (table e) u) l) (drop-drop by o is.c.words) (part.kinds (drop o is.c.words) is.kinds);
  leads = part_touch e step is.c.freed k t u by (flat.InCell n o) (flat.InCell n (o + by)) (drop o (words_in is.c.words)) (drop (o + by) (words_in is.c.words)) ev part refl
      (sym (drop-drop by o (words_in is.c.words))) is.leads;
}

part_designated : (e : Seen) (step : Step) (n k t u by o : ℕ) (ev : Evaluated Place) → IsPart e step t u by
    → IsDesignated e n k t o ev → IsDesignated e n k u (o + by) (followed_by ev (stepped e.site.typing step))
part_designated e step zero k t u by o ev part is = stopped_on e.memory constraint ev (stepped e.site.typing step) is
part_designated e step (suc n) k t u by o ev part is = part_cell e step k t u by n o ev part is

part_behind : (e : Seen) (step : Step) (got : Got ℤ) (k t u by o : ℕ) (ev : Evaluated Place) → IsPart e step t u by
    → IsBehind e got k t o ev → IsBehind e got k u (o + by) (followed_by ev (stepped e.site.typing step))
part_behind e step (Given z) k t u by o ev part is = part_designated e step (unsigned_abs z) k t u by o ev part is
part_behind e step (Stops s) k t u by o ev part is = stopped_on e.memory s ev (stepped e.site.typing step) is
part_behind e step Broken k t u by o ev part is = absurd is

-- Where a place is a part further on.
abbrev pub IsFurther : codes.Place → codes.Place → ℕ → ℕ → ℕ → Type 0
IsFurther (InFrame at i) q o r by = (to : ℕ) × (j : Code) × (q ≡ InFrame to j) × (to + r ≡ at + o + by)
IsFurther (InPackages at i) q o r by = (to : ℕ) × (j : Code) × (q ≡ InPackages to j) × (to + r ≡ at + o + by)
IsFurther (Behind a at i) q o r by = (to : ℕ) × (j : Code) × (q ≡ Behind a to j) × (to + r ≡ at + o + by)

pub leads_part : (e : Seen) (step : Step) (p q : codes.Place) (o r k t u by : ℕ) (ev : Evaluated Place) → IsPart e step t u by → IsFurther p q o r by
    → Leads e p o k t ev → Leads e q r k u (followed_by ev (stepped e.site.typing step))
leads_part e step (InFrame at i) q o r k t u by ev part f is =
    let sum : e.flat.base + f.0 + r ≡ e.flat.base + at + o + by = omega (arith, f.3) in
    let zs : List ℤ = e.flat.stack in
    subst (λ l. Leads e l r k u (followed_by ev (stepped e.site.typing step))) (sym f.2)
    (part_place e step k t u by (flat.InStack (e.flat.base + at + o)) (flat.InStack (e.flat.base + f.0 + r)) (drop (e.flat.base + at + o) zs) (drop (e.flat.base + f.0 + r) zs) ev part
    (ap (λ n. flat.InStack n) sum)
    (ap (λ n. drop n zs) sum ∙ sym (drop-drop by (e.flat.base + at + o) zs)) is)
leads_part e step (InPackages at i) q o r k t u by ev part f is =
    let zs : List ℤ = e.flat.stack in
    subst (λ l. Leads e l r k u (followed_by ev (stepped e.site.typing step))) (sym f.2)
    (part_place e step k t u by (flat.InStack (at + o)) (flat.InStack (f.0 + r)) (drop (at + o) zs) (drop (f.0 + r) zs) ev part (ap (λ n. flat.InStack n) f.3) (ap (λ n. drop n zs) f.3 ∙ sym (drop-drop by (at + o) zs)) is)
leads_part e step (Behind a at i) q o r k t u by ev part f is =
    subst (λ l. Leads e l r k u (followed_by ev (stepped e.site.typing step))) (sym f.2)
    (subst (λ n. IsBehind e (word e.flat a) k u n (followed_by ev (stepped e.site.typing step))) (sym f.3)
    (part_behind e step (word e.flat a) k t u by (at + o) ev part is))

-- A component.
pub component_part : (e : Seen) → IsTable (table e) → (t i : ℕ) (components : List Component) → shape_of (table e) t ≡ shape.Fields components → i < length components
    → IsPart e (ToComponent i) t (component_type (table e) t i) (words_before (table e) t i)
component_part e laws t i components is lt = record {
  place = component_place (table e) i;
  leads = λ p n. refl;
  base = λ p. refl;
  at = λ p of. ap (λ u. p.at + words_before (table e) u i) of;
  of = λ p of. ap (λ u. component_type (table e) u i) of;
  stand = λ xs zs all.
      let part = component_stands (table e) (types e.memory) components i xs zs lt (subst (λ l. Stand e l xs zs) (laws.fields t components is) all) in
      let typed : Stand e (sorts (table e) (component_type (table e) t i)) (drop (before (table e) i components) xs) (drop (before (table e) i components) zs) =
      subst (λ d. Stand e (sorts (table e) d) (drop (before (table e) i components) xs) (drop (before (table e) i components) zs)) (sym (component_is (table e) t i components is)) part in
      subst (λ n. Stand e (sorts (table e) (component_type (table e) t i)) (drop n xs) (drop n zs)) (sym (before_is (table e) t i components is)) typed;
  kinds = λ vs all.
      let part = component_kinds (table e) components i vs lt (subst (λ l. AllKinds l vs) (laws.fields t components is) all) in
      let typed : AllKinds (sorts (table e) (component_type (table e) t i)) (drop (before (table e) i components) vs) =
      subst (λ d. AllKinds (sorts (table e) d) (drop (before (table e) i components) vs)) (sym (component_is (table e) t i components is)) part in
      subst (λ n. AllKinds (sorts (table e) (component_type (table e) t i)) (drop n vs)) (sym (before_is (table e) t i components is)) typed;
  split =
      let part = component_split (table e) components i lt in
      let typed : IsSplit (all_sorts (table e) components) (before (table e) i components) (sorts (table e) (component_type (table e) t i)) =
      subst (λ d. IsSplit (all_sorts (table e) components) (before (table e) i components) (sorts (table e) d)) (sym (component_is (table e) t i components is)) part in
      let all : IsSplit (sorts (table e) t) (before (table e) i components) (sorts (table e) (component_type (table e) t i)) =
      subst (λ l. IsSplit l (before (table e) i components) (sorts (table e) (component_type (table e) t i))) (sym (laws.fields t components is)) typed in
      subst (λ n. IsSplit (sorts (table e) t) n (sorts (table e) (component_type (table e) t i))) (sym (before_is (table e) t i components is)) all;
}

-- An element.
pub element_part : (e : Seen) → IsTable (table e) → (t n element : ℕ) (low high : ℤ) → shape_of (table e) t ≡ shape.Elements low high element → n < span low high
    → IsPart e (ToElement n) t (element_type (table e) t) (n * words (table e) (element_type (table e) t))
element_part e laws t n element low high is lt =
    let of_is : element_type (table e) t ≡ element = ap element_of is in
    let size : ℕ = words (table e) (element_type (table e) t) in
    let all_is : sorts (table e) t ≡ repeated_sorts (span low high) (sorts (table e) (element_type (table e) t)) =
    laws.elements t element low high is ∙ ap (λ u. repeated_sorts (span low high) (sorts (table e) u)) (sym of_is) in
    record {
      place = element_place (table e) n;
      leads = λ p m. refl;
      base = λ p. refl;
      at = λ p of. ap (λ u. p.at + n * words (table e) (element_type (table e) u)) of;
      of = λ p of. ap (λ u. element_type (table e) u) of;
      stand = λ xs zs all.
          element_stands (table e) (types e.memory) (span low high) (sorts (table e) (element_type (table e) t)) size n xs zs (many (table e) (element_type (table e) t)) lt
          (subst (λ l. Stand e l xs zs) all_is all);
      kinds = λ vs all.
          element_kinds (span low high) (sorts (table e) (element_type (table e) t)) size n vs (many (table e) (element_type (table e) t)) lt
          (subst (λ l. AllKinds l vs) all_is all);
      split =
          subst (λ l. IsSplit l (n * size) (sorts (table e) (element_type (table e) t))) (sym all_is)
          (element_split (span low high) (sorts (table e) (element_type (table e) t)) size n (many (table e) (element_type (table e) t)) lt);
    }

-- ---- the word at a place

-- The first of the slots and of the words.
pub record Head (table : Table) (made : List ℕ) (st : Sort) (xs : List Slot) (zs : List ℤ) : Type 0 where
  pub x : Slot
  pub more : List Slot
  pub z : ℤ
  pub others : List ℤ
  pub slots : xs ≡ x ∷ more
  pub words : zs ≡ z ∷ others
  pub stands : SlotStands table made st x z

pub head_stands : (table : Table) (made : List ℕ) (st : Sort) (xs : List Slot) (zs : List ℤ) → AllStand table made (st ∷ []) xs zs → Head table made st xs zs
head_stands table made st [] zs all = absurd all
head_stands table made st (x ∷ xs) [] all = absurd all
head_stands table made st (x ∷ xs) (z ∷ zs) all =
    record { x = x; more = xs; z = z; others = zs; slots = refl; words = refl; stands = all.0 }

pub record HeadKind (st : Sort) (vs : List Value) : Type 0 where
  pub v : Value
  pub others : List Value
  pub values : vs ≡ v ∷ others
  pub is_kind : kind v ≡ kind_of st

pub head_kind : (st : Sort) (vs : List Value) → AllKinds (st ∷ []) vs → HeadKind st vs
head_kind st [] all = absurd all
head_kind st (v ∷ vs) all = record { v = v; others = vs; values = refl; is_kind = all.0 }

abbrev pub holds : Typing → Place → Now → Evaluated (List Word)
holds s p now = Done (words_of s now.memory p) now

in_place : (e : Seen) (k t : ℕ) (w : Spot) (st : Sort) (zs others : List ℤ) (z : ℤ) (ev : Evaluated Place)
    → sorts (table e) t ≡ st ∷ [] → zs ≡ z ∷ others → IsPlace e k t w zs ev
    → Same e st k (followed_by ev (holds e.site.typing)) (Given z)
in_place e k t w st zs others z ev sort here is =
    let slots : List Slot = drop is.p.at (slots_at e.site.typing e.memory is.p.base) in
    let all : Stand e (st ∷ []) slots zs = subst (λ l. Stand e l slots zs) sort is.stand in
    let head = head_stands (table e) (types e.memory) st slots zs all in
    let one : words (table e) is.p.of ≡ 1 = ap (words (table e)) is.of ∙ sym (many (table e) t) ∙ ap (λ (l : List Sort). length l) sort in
    let same : head.z ≡ z = cons_same head.z z head.others others (sym head.words ∙ here) in
    let shown : words_of e.site.typing e.memory is.p ≡ head.x.word ∷ [] =
    ap (λ n. map (λ (slot : Slot). slot.word) (take n slots)) one ∙ ap (λ l. map (λ (slot : Slot). slot.word) (take 1 l)) head.slots in (
      head.x.word,
      ap (λ x. followed_by x (holds e.site.typing)) is.gives ∙ ap (λ ws. Done ws (now e k)) shown,
      subst (λ y. Stands (table e) (types e.memory) st head.x.word y) same head.stands.0,
    )
  where
    cons_same : (a b : ℤ) (l r : List ℤ) → a ∷ l ≡ b ∷ r → a ≡ b
    cons_same a b l r is = cc

kind_same : (k : Kind) → same_kind k k ≡ true
kind_same sort.Int = refl
kind_same sort.Enum = refl
kind_same sort.Access = refl

touched_word : (c : StoredCell) (k : Kind) (o : ℕ) (v : Value) → slice_get c.words o ≡ Some v → kind v ≡ k
    → touched (Some c) (λ c. value_word k (slice_get c.words o)) ≡ (if c.freed then Stops (Traps Touched) else Given (word_of v))
touched_word c k o v there is =
    ap (λ g. if c.freed then Stops (Traps Touched) else value_word k g) there
    ∙ ap (λ j. if c.freed then Stops (Traps Touched) else (if same_kind j k then Given (word_of v) else Broken)) is
    ∙ ap (λ b. if c.freed then Stops (Traps Touched) else (if b then Given (word_of v) else Broken)) (kind_same k)

in_touch : (e : Seen) (freed : Bool) (k t : ℕ) (w : Spot) (st : Sort) (zs others : List ℤ) (v : Value) (ev : Evaluated Place)
    → sorts (table e) t ≡ st ∷ [] → zs ≡ word_of v ∷ others → IsTouch e freed k t w zs ev
    → Same e st k (followed_by ev (holds e.site.typing)) (if freed then Stops (Traps Touched) else Given (word_of v))
in_touch e true k t w st zs others v ev sort here is = stopped_on e.memory (Traps Touched) ev (holds e.site.typing) is
in_touch e false k t w st zs others v ev sort here is = in_place e k t w st zs others (word_of v) ev sort here is

-- A cell within the bounds of the store.
pub in_bounds : (n o : ℕ) → n < most_cells → o ≤ heap_words → (nat_lt n most_cells && nat_lt o most_offsets) ≡ true
in_bounds n o few small = grind arith

in_cell : (e : Seen) → length e.memory.cells ≤ most_cells → (k t n o : ℕ) (st : Sort) (ev : Evaluated Place)
    → sorts (table e) t ≡ st ∷ [] → InCell e k t n o ev
    → Same e st k (followed_by ev (holds e.site.typing)) (behind_at e.flat o (kind_of st) (suc n))
in_cell e few k t n o st ev sort is =
    let head = head_kind st (drop o is.c.words) (subst (λ l. AllKinds l (drop o is.c.words)) sort is.kinds) in
    let value : slice_get is.c.words o ≡ Some head.v = first_value o is.c.words head.others head.v head.values in
    let first : drop o (words_in is.c.words) ≡ word_of head.v ∷ words_in head.others = words-drop o is.c.words ∙ ap words_in head.values in
    let bounds : (nat_lt n most_cells && nat_lt o most_offsets) ≡ true = in_bounds n o (omega (arith, few, is.within)) (omega (arith, is.small, is.inside)) in
    let there : behind_at e.flat o (kind_of st) (suc n) ≡ (if is.c.freed then Stops (Traps Touched) else Given (word_of head.v)) =
    ap (λ b. if b then touched (slice_get e.flat.cells n) (λ c. value_word (kind_of st) (slice_get c.words o)) else Broken) bounds
    ∙ ap (λ g. touched g (λ c. value_word (kind_of st) (slice_get c.words o))) is.there
    ∙ touched_word is.c (kind_of st) o head.v value head.is_kind in
    subst (λ g. Same e st k (followed_by ev (holds e.site.typing)) g) (sym there)
    (in_touch e is.c.freed k t (flat.InCell n o) st (drop o (words_in is.c.words)) (words_in head.others) head.v ev sort first is.leads)

in_designated : (e : Seen) → length e.memory.cells ≤ most_cells → (n k t o : ℕ) (st : Sort) (ev : Evaluated Place)
    → sorts (table e) t ≡ st ∷ [] → IsDesignated e n k t o ev
    → Same e st k (followed_by ev (holds e.site.typing)) (behind_at e.flat o (kind_of st) n)
in_designated e few zero k t o st ev sort is = stopped_on e.memory constraint ev (holds e.site.typing) is
in_designated e few (suc n) k t o st ev sort is = in_cell e few k t n o st ev sort is

is_behind : (e : Seen) → length e.memory.cells ≤ most_cells → (got : Got ℤ) (k t o : ℕ) (st : Sort) (ev : Evaluated Place)
    → sorts (table e) t ≡ st ∷ [] → IsBehind e got k t o ev
    → Same e st k (followed_by ev (holds e.site.typing)) (and_then got (behind e.flat o (kind_of st)))
is_behind e few (Given z) k t o st ev sort is = in_designated e few (unsigned_abs z) k t o st ev sort is
is_behind e few (Stops stop) k t o st ev sort is = stopped_on e.memory stop ev (holds e.site.typing) is
is_behind e few Broken k t o st ev sort is = absurd is

-- All indexes of a place: its last one.
abbrev pub place_indexes : Flat → codes.Place → Got ℤ
place_indexes m (InFrame at i) = word m i
place_indexes m (InPackages at i) = word m i
place_indexes m (Behind p at i) = and_then (indexes m p) (λ x. word m i)

pub load_indexes : (m : Flat) (k : Kind) (p : codes.Place) → indexes m (load k p) ≡ place_indexes m p
unfolding indexes
load_indexes m k (InFrame at i) = refl
load_indexes m k (InPackages at i) = refl
load_indexes m k (Behind p at i) = refl

-- The word of a place that leads somewhere.
pub loads : (e : Seen) → length e.memory.cells ≤ most_cells → (k t o : ℕ) (st : Sort) (p : codes.Place) (ev : Evaluated Place)
    → sorts (table e) t ≡ st ∷ [] → place_indexes e.flat p ≡ Given (pos o) → Leads e p o k t ev
    → Same e st k (followed_by ev (holds e.site.typing)) (word e.flat (load (kind_of st) p))
unfolding word indexes
loads e few k t o st (InFrame at i) ev sort index is =
    let zs : List ℤ = drop (e.flat.base + at + o) e.flat.stack in
    let slots : List Slot = drop is.p.at (slots_at e.site.typing e.memory is.p.base) in
    let head = head_stands (table e) (types e.memory) st slots zs (subst (λ l. Stand e l slots zs) sort is.stand) in
    let there : word e.flat (load (kind_of st) (InFrame at i)) ≡ Given head.z =
    ap (λ g. and_then g (λ o. found (slice_get e.flat.stack (e.flat.base + at + unsigned_abs o)))) index
    ∙ ap found (first_word (e.flat.base + at + o) e.flat.stack head.others head.z head.words) in
    subst (λ g. Same e st k (followed_by ev (holds e.site.typing)) g) (sym there) (in_place e k t (flat.InStack (e.flat.base + at + o)) st zs head.others head.z ev sort head.words is)
loads e few k t o st (InPackages at i) ev sort index is =
    let zs : List ℤ = drop (at + o) e.flat.stack in
    let slots : List Slot = drop is.p.at (slots_at e.site.typing e.memory is.p.base) in
    let head = head_stands (table e) (types e.memory) st slots zs (subst (λ l. Stand e l slots zs) sort is.stand) in
    let there : word e.flat (load (kind_of st) (InPackages at i)) ≡ Given head.z =
    ap (λ g. and_then g (λ o. found (slice_get e.flat.stack (at + unsigned_abs o)))) index
    ∙ ap found (first_word (at + o) e.flat.stack head.others head.z head.words) in
    subst (λ g. Same e st k (followed_by ev (holds e.site.typing)) g) (sym there) (in_place e k t (flat.InStack (at + o)) st zs head.others head.z ev sort head.words is)
loads e few k t o st (Behind p at i) ev sort index is =
    let seen = given_on (indexes e.flat p) (λ x. word e.flat i) (pos o) index in
    let there : word e.flat (load (kind_of st) (Behind p at i)) ≡ and_then (word e.flat p) (behind e.flat (at + o) (kind_of st)) =
    ap (λ g. and_then g (λ x. and_then (word e.flat i) (λ o. and_then (word e.flat p) (behind e.flat (at + unsigned_abs o) (kind_of st))))) seen.1
    ∙ ap (λ g. and_then g (λ o. and_then (word e.flat p) (behind e.flat (at + unsigned_abs o) (kind_of st)))) seen.2 in
    subst (λ g. Same e st k (followed_by ev (holds e.site.typing)) g) (sym there) (is_behind e few (word e.flat p) k t (at + o) st ev sort is)

-- ---- dereferences

-- The type of a place, where there is one.
abbrev pub OfType : ℕ → Evaluated Place → Type 0
OfType t (Done p now) = p.of ≡ t
OfType t _ = Unit {0}

of_stopped : (t : ℕ) (m : Memory) (stop : Stop) (ev : Evaluated Place) → Stopped m stop ev → OfType t ev
of_stopped t m (Raises x) ev is = subst (λ x. OfType t x) (sym is.1) tt
of_stopped t m (Traps x) ev is = subst (λ x. OfType t x) (sym is.1) tt
of_stopped t m flat.Memory ev is = absurd is

of_place : (e : Seen) (k t : ℕ) (w : Spot) (zs : List ℤ) (ev : Evaluated Place) → IsPlace e k t w zs ev → OfType t ev
of_place e k t w zs ev is = subst (λ x. OfType t x) (sym is.gives) is.of

of_touch : (e : Seen) (freed : Bool) (k t : ℕ) (w : Spot) (zs : List ℤ) (ev : Evaluated Place) → IsTouch e freed k t w zs ev → OfType t ev
of_touch e true k t w zs ev is = of_stopped t e.memory (Traps Touched) ev is
of_touch e false k t w zs ev is = of_place e k t w zs ev is

of_designated : (e : Seen) (n k t o : ℕ) (ev : Evaluated Place) → IsDesignated e n k t o ev → OfType t ev
of_designated e zero k t o ev is = of_stopped t e.memory constraint ev is
of_designated e (suc n) k t o ev is = of_touch e is.c.freed k t (flat.InCell n o) (drop o (words_in is.c.words)) ev is.leads

of_behind : (e : Seen) (got : Got ℤ) (k t o : ℕ) (ev : Evaluated Place) → IsBehind e got k t o ev → OfType t ev
of_behind e (Given z) k t o ev is = of_designated e (unsigned_abs z) k t o ev is
of_behind e (Stops stop) k t o ev is = of_stopped t e.memory stop ev is
of_behind e Broken k t o ev is = absurd is

pub of_leads : (e : Seen) (p : codes.Place) (o k t : ℕ) (ev : Evaluated Place) → Leads e p o k t ev → OfType t ev
of_leads e (InFrame at i) o k t ev is = of_place e k t (flat.InStack (e.flat.base + at + o)) (drop (e.flat.base + at + o) e.flat.stack) ev is
of_leads e (InPackages at i) o k t ev is = of_place e k t (flat.InStack (at + o)) (drop (at + o) e.flat.stack) ev is
of_leads e (Behind a at i) o k t ev is = of_behind e (word e.flat a) k t (at + o) ev is

-- A dereference looks at the word, and goes to what it designates.
dereferenced : (s : Typing) (t d : ℕ) (ev : Evaluated Place) → designated s.table t ≡ d → OfType t ev
    → followed_by ev (stepped s ToDesignated) ≡ followed_by (followed_by ev (holds s)) (designated_place d)
dereferenced s t d (Done p now) is of = ap (λ u. designated_place u (words_of s now.memory p) now) (ap (designated s.table) of ∙ is)
dereferenced s t d (machine.Raises x now) is of = refl
dereferenced s t d (machine.Traps x now) is of = refl

cell_touch : (e : Seen) (k d n : ℕ) (freed : Bool) (zs : List ℤ) → (cell e.memory (suc n)).freed ≡ freed
    → n < length e.memory.cells → sorts (table e) (cell e.memory (suc n)).of ≡ sorts (table e) d
    → Stand e (sorts (table e) d) (cell e.memory (suc n)).slots zs
    → IsTouch e freed k d (flat.InCell n 0) zs (designated_place d (Cell (suc n) ∷ []) (now e k))
cell_touch e k d n true zs is within of_is stand =
    (now e k, ap (λ b. if b then machine.Traps Touched (now e k) else Done (cell_place d (suc n)) (now e k)) is, refl)
cell_touch e k d n false zs is within of_is stand = record {
  p = cell_place d (suc n);
  gives = ap (λ b. if b then machine.Traps Touched (now e k) else Done (cell_place d (suc n)) (now e k)) is;
  of = refl;
  stand = stand;
  from = record {
    base = refl;
    at = refl;
    within = within;
    split = subst (λ l. IsSplit l 0 (sorts (table e) d)) (sym of_is) (whole_split (sorts (table e) d));
  };
}

-- The types of cells are those of their objects.
pub type_at : (cells : List HeapCell) (n : ℕ) → get_or (map (λ (c : HeapCell). c.of) cells) n integer ≡ (get_or cells n no_cell).of
type_at [] n = refl
type_at (c ∷ cells) zero = refl
type_at (c ∷ cells) (suc n) = type_at cells n

to_cell : (e : Seen) → HaveCells (table e) e.memory e.flat → (k d n : ℕ) → Designates (table e) (types e.memory) d n
    → InCell e k d n 0 (designated_place d (Cell (suc n) ∷ []) (now e k))
to_cell e have k d n made =
    let inside : n < length e.memory.cells = subst (λ j. n < j) (length-map e.memory.cells (λ (c : HeapCell). c.of)) made.within in
    let there = have n inside in
    let stands = there.2 in
    let of_is : sorts (table e) (cell e.memory (suc n)).of ≡ sorts (table e) d = ap (sorts (table e)) (sym (type_at e.memory.cells n)) ∙ made.sorts in
    let long : length (sorts (table e) (cell e.memory (suc n)).of) ≡ length (sorts (table e) d) = ap (λ (l : List Sort). length l) of_is in
    record {
      c = there.0;
      there = there.1;
      within = inside;
      small = stands.small;
      inside = omega (arith, long, stands.room);
      kinds = subst (λ l. AllKinds l there.0.words) of_is stands.kinds;
      leads = cell_touch e k d n there.0.freed (words_in there.0.words) stands.freed inside of_is
          (subst (λ l. Stand e l (cell e.memory (suc n)).slots (words_in there.0.words)) of_is stands.words);
    }

to_designated : (e : Seen) → HaveCells (table e) e.memory e.flat → (k d n : ℕ) (w : Word) (ev : Evaluated (List Word)) → ev ≡ Done (w ∷ []) (now e k)
    → PointsTo (table e) (types e.memory) d w n → IsDesignated e n k d 0 (followed_by ev (designated_place d))
to_designated e have k d zero w ev is null =
    (now e k, ap (λ x. followed_by x (designated_place d)) is ∙ ap (λ x. designated_place d (x ∷ []) (now e k)) null, refl)
to_designated e have k d (suc n) w ev is points =
    subst (λ x. InCell e k d n 0 (followed_by x (designated_place d))) (sym is)
    (subst (λ x. InCell e k d n 0 (designated_place d (x ∷ []) (now e k))) (sym points.0) (to_cell e have k d n points.1))

to_behind : (e : Seen) → HaveCells (table e) e.memory e.flat → (got : Got ℤ) (k d : ℕ) (ev : Evaluated (List Word)) → Same e (Pointer d) k ev got
    → IsBehind e got k d 0 (followed_by ev (designated_place d))
to_behind e have (Given z) k d ev same = to_designated e have k d (unsigned_abs z) same.0 ev same.1 same.2
to_behind e have (Stops stop) k d ev same = stopped_on e.memory stop ev (designated_place d) same
to_behind e have Broken k d ev same = absurd same

-- A type that designates is an access type.
record Designating (table : Table) (t d : ℕ) : Type 0 where
  sort : sorts table t ≡ Pointer d ∷ []
  is_designated : designated table t ≡ d

designating : (table : Table) → IsTable table → (sh : Shape) (t d : ℕ) → shape_of table t ≡ sh → designates sh ≡ Some d → Designating table t d
designating table laws (shape.Access u constant named) t d is sure =
    let same : u ≡ d = some_same u d sure in
    record {
      sort = subst (λ x. sorts table t ≡ Pointer x ∷ []) same (laws.access t u constant named is);
      is_designated = ap (λ x. designated_of t (view_of x)) is ∙ same;
    }
designating table laws (shape.Whole low high) t d is sure = impossible d sure
designating table laws (shape.Listed literals low high) t d is sure = impossible d sure
designating table laws (shape.Fields components) t d is sure = impossible d sure
designating table laws (shape.Elements low high element) t d is sure = impossible d sure
designating table laws (shape.Same of) t d is sure = impossible d sure

pub leads_designated : (e : Seen) → IsSeen e → (p : codes.Place) (o k t d : ℕ) (ev : Evaluated Place)
    → designates (shape_of (table e) t) ≡ Some d → place_indexes e.flat p ≡ Given (pos o) → Leads e p o k t ev
    → Leads e (Behind (load sort.Access p) 0 no_index) 0 k d (followed_by ev (stepped e.site.typing ToDesignated))
leads_designated e seen p o k t d ev sure index is =
    let access = designating (table e) seen.laws (shape_of (table e) t) t d refl sure in
    subst (λ x. IsBehind e (word e.flat (load sort.Access p)) k d 0 x) (sym (dereferenced e.site.typing t d ev access.is_designated (of_leads e p o k t ev is)))
    (to_behind e seen.cells (word e.flat (load sort.Access p)) k d (followed_by ev (holds e.site.typing))
    (loads e seen.few k t o (Pointer d) p ev access.sort index is))
