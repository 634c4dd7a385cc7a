-- An expression that is lowered gives what it gives on the machine, and a name leads where it leads there.
use Rattle.std.proofs.Common.{◌≡◌, inl, inr, ℕ, ◌+◌, ◌*◌, ◌<◌, ◌≤◌, true, false, Bool, not, ◌&&◌, IsTrue, List, [], ◌∷◌, length, drop, refl, sym, ap, subst, ◌∙◌, arith, Option, Some, None, ℤ, pos, nat_lt, if◌then◌else◌}
use Rattle.std.specs.Prelude.{option_and_then, unsigned_abs, ◌-ℤ◌, nat_le, ◌==◌}
use Rattle.std.specs.Ordering.{int_eq}
use Rattle.machine.specs.resolved_tree.declared.operator.Operator.{Operator}
use Rattle.machine.specs.resolved_tree.declared.operator.UnaryOperator.{UnaryOperator}
use Rattle.machine.specs.typed_tree.declared.node.ShortCircuit.{ShortCircuit}
use Rattle.kept_cells.specs.run_values.declared.value.Kind.TheVariants as sort
use Rattle.kept_cells.specs.run_values.Arithmetic.{is_integer}
use Rattle.kept_cells.specs.run_values.Items.{at_end}
use Rattle.machine.specs.type_definitions.declared.table.Shape.{Shape}
use Rattle.machine.specs.type_definitions.declared.table.Shape.TheVariants as shape
use Rattle.machine.specs.type_definitions.declared.table.Component.{Component}
use Rattle.machine.specs.type_definitions.Types.{Table, shape_of, words, is_owning}
use Rattle.machine.specs.type_definitions.Entries.{boolean}
use Rattle.machine.specs.typed_tree.Trees.{TypedTree, Name, Component as IntoComponent, Designated, Element, Call, EndOfFile, Parens, NoMore}
use Rattle.machine.specs.typed_tree.Trees as typed
use Rattle.machine.specs.flow_paths.Objects.{object_at, sub_at, is_package_object}
use Rattle.machine.specs.flow_paths.Names.{has_call, waiting}
use Rattle.machine.specs.Words.{Word, Int, Enumerated, component_type, words_before, element_type}
use Rattle.machine.specs.Typed.{Sort, Whole, Position, Pointer, sorts, takes_whole, takes_truth, compares_words, is_not, field_count, is_record, has_bounds, designates}
use Rattle.machine.specs.Memory.{Place, OfVariable, slots_at, words_of, moved_out}
use Rattle.machine.specs.Evaluate.{Here, Now, Evaluated, Done, followed_by, ConstraintError, Step, ToComponent, ToElement, ToDesignated, steps_of, walked, stepped, variable_place, Use, AsValue, AsView, held, taken, held_or_taken, evaluate, waited, operated, operated_alone, given, truth, is_null, decides, indexed}
use Rattle.machine.specs.Evaluate as machine
use Rattle.run_codes.specs.Codes.{Code, Number, Scaled, Unary, Binary, Short, IsNull, Waiting, InFrame, InPackages, Behind}
use Rattle.run_codes.specs.Codes as codes
use Rattle.run_codes.specs.Flat.{Flat, Got, Given, Stops, Broken, Stop, Raises, Traps, and_then, kind_of, constraint, is_zero, is_between, scaled, offset, word, indexes}
use Rattle.run_codes.specs.Flat as flat
use Rattle.run_codes.specs.Lowered.{Site, offset_of, package_offset, no_index, Placed, in_frame, in_packages, option_map, object_place, load, moved_by, joined, indexed_by, component_of, element_of, designated_of, Lowered, of_sort, sort_of, whole_code, is_taken, loaded, named, is_nth, words_before_value, unary, binary, short_circuit, null_test, max_position, lowered, led}
use Rattle.run_codes.specs.Lowered as lowering
use Rattle.run_codes.specs.Related.{Stands, IsTable, most_words, Seen, table, here, now, types, Stand, IsSeen, Stopped, Same, Leads}
use Rattle.run_codes.proofs.Parts.{many, whole_split, split_inside}
use Rattle.run_codes.proofs.Places.{impossible, some_same, if_some, if_none, both_true, below, no_step, one_step, stopped_on, stopped_by, same_by, leads_part, component_part, element_part, holds, place_indexes, loads, OfType, of_leads, leads_designated}
use Rattle.run_codes.proofs.Operators.{truth_same, wholes, wholes_compared, positions_joined, positions_compared, whole_one, position_one, decides_same, null_tested, one_same, two_same}
use Rattle.run_codes.proofs.Indexes.{offset_given, moved_further, indexed_further, moved_indexes, indexed_given, indexed_stops, indexed_stopped, designated_given, designated_stopped, load_stops, element_within}
use Rattle.run_codes.proofs.Waits.{nth_there, waited_word, takes_none}

-- ---- options

pub and_then_some : {A B : Type 0} (f : A → Option B) (x : Option A) (b : B) → option_and_then f x ≡ Some b → (a : A) × (x ≡ Some a) × (f a ≡ Some b)
and_then_some f None b is = impossible b is
and_then_some f (Some a) b is = (a, refl, is)

pub map_some : {A B : Type 0} (f : A → B) (x : Option A) (b : B) → option_map f x ≡ Some b → (a : A) × (x ≡ Some a) × (f a ≡ b)
map_some f None b is = impossible b is
map_some f (Some a) b is = (a, refl, some_same (f a) b is)

same_number : (a b : ℕ) → (a == b) ≡ true → a ≡ b
same_number a b is = grind arith

int_same : (a b : ℤ) → int_eq a b ≡ true → a ≡ b
int_same a b is = grind arith

-- ---- the steps of names

pub record IsComponent (table : Table) (p q : Placed) (i : ℕ) : Type 0 where
  pub components : List Component
  pub shape : shape_of table p.of ≡ shape.Fields components
  pub within : i < length components
  pub is : q ≡ record { place = moved_by (words_before table p.of i) p.place; of = component_type table p.of i }

component_there : (table : Table) (i : ℕ) (p q : Placed) → component_of table i p ≡ Some q → IsComponent table p q i
component_there table i p q is =
    let sure = if_some (is_record (shape_of table p.of) && nat_lt i (field_count (shape_of table p.of)))
    (Some (record { place = moved_by (words_before table p.of i) p.place; of = component_type table p.of i })) q is in
    let fits = both_true (is_record (shape_of table p.of)) (nat_lt i (field_count (shape_of table p.of))) sure.0 in
    by (shape_of table p.of) refl fits.0 fits.1 (sym (some_same (record { place = moved_by (words_before table p.of i) p.place; of = component_type table p.of i }) q sure.1))
  where
    never : {A : Type 0} → false ≡ true → A
    never x = absurd (no_way x)
      where
        no_way : false ≡ true → ⊥
        no_way x = cc

    by : (sh : Shape) → shape_of table p.of ≡ sh → is_record sh ≡ true → nat_lt i (field_count sh) ≡ true
        → q ≡ record { place = moved_by (words_before table p.of i) p.place; of = component_type table p.of i } → IsComponent table p q i
    by (shape.Fields components) is fits lt same = record { components = components; shape = is; within = below i (length components) lt; is = same }
    by (shape.Whole low high) is fits lt same = never fits
    by (shape.Listed literals low high) is fits lt same = never fits
    by (shape.Access d constant named) is fits lt same = never fits
    by (shape.Elements low high element) is fits lt same = never fits
    by (shape.Same of) is fits lt same = never fits

pub record IsElement (table : Table) (p q : Placed) (i : Code) (low high : ℤ) : Type 0 where
  pub element : ℕ
  pub shape : shape_of table p.of ≡ shape.Elements low high element
  pub is : q ≡ record { place = indexed_by (Scaled i low high (words table (element_type table p.of))) p.place; of = element_type table p.of }

element_there : (table : Table) (i : Code) (low high : ℤ) (p q : Placed) → element_of table i low high p ≡ Some q → IsElement table p q i low high
element_there table i low high p q is =
    let sure = if_some (has_bounds low high (shape_of table p.of))
    (Some (record { place = indexed_by (Scaled i low high (words table (element_type table p.of))) p.place; of = element_type table p.of })) q is in
    by (shape_of table p.of) refl sure.0 (sym (some_same (record { place = indexed_by (Scaled i low high (words table (element_type table p.of))) p.place; of = element_type table p.of }) q sure.1))
  where
    never : {A : Type 0} → false ≡ true → A
    never x = absurd (no_way x)
      where
        no_way : false ≡ true → ⊥
        no_way x = cc

    by : (sh : Shape) → shape_of table p.of ≡ sh → has_bounds low high sh ≡ true
        → q ≡ record { place = indexed_by (Scaled i low high (words table (element_type table p.of))) p.place; of = element_type table p.of }
        → IsElement table p q i low high
    by (shape.Elements first last element) is fits same =
        let b = both_true (int_eq low first) (int_eq high last) fits in
        record {
          element = element;
          shape = is ∙ ap (λ x. shape.Elements x last element) (sym (int_same low first b.0)) ∙ ap (λ x. shape.Elements low x element) (sym (int_same high last b.1));
          is = same;
        }
    by (shape.Whole a b) is fits same = never fits
    by (shape.Listed literals a b) is fits same = never fits
    by (shape.Access d constant named) is fits same = never fits
    by (shape.Fields components) is fits same = never fits
    by (shape.Same of) is fits same = never fits

-- ---- what a name leads to

-- The steps are evaluated, and lead on from a place of the machine to the one of the lowering; or they stop.
abbrev pub Walked : Seen → ℕ → ℕ → TypedTree → Placed → Evaluated Place → Got ℤ → Type 0
Walked e k j steps q ev (Given y) =
    (way : List Step) × (steps_of (here e) steps (now e k) ≡ Done way (now e (k + waiting steps)))
    × (r : ℕ) × (y ≡ pos r) × Leads e q.place r j q.of (followed_by ev (walked e.site.typing way))
Walked e k j steps q ev (Stops s) = Stopped e.memory s (steps_of (here e) steps (now e k))
Walked e k j steps q ev Broken = ⊥

-- One step, and those after it.
on_step : (e : Seen) (k i j : ℕ) (step : Step) (steps rest : TypedTree) (q : Placed) (ev : Evaluated Place) (got : Got ℤ)
    → steps_of (here e) steps (now e k) ≡ followed_by (steps_of (here e) rest (now e i)) (λ way now. Done (step ∷ way) now)
    → k + waiting steps ≡ i + waiting rest
    → Walked e i j rest q (followed_by ev (stepped e.site.typing step)) got → Walked e k j steps q ev got
on_step e k i j step steps rest q ev (Given y) is same w =
    let take : Step → List Step → Now → Evaluated (List Step) = λ s way now. Done (s ∷ way) now in (
      step ∷ w.0,
      is ∙ ap (λ x. followed_by x (take step)) w.1 ∙ ap (λ n. Done (step ∷ w.0) (now e n)) (sym same),
      w.2,
      w.3,
      subst (λ x. Leads e q.place w.2 j q.of x) (sym (one_step e.site.typing step w.0 ev)) w.4,
    )
on_step e k i j step steps rest q ev (Stops s) is same w =
    stopped_by e.memory s (steps_of (here e) steps (now e k)) (followed_by (steps_of (here e) rest (now e i)) (λ way now. Done (step ∷ way) now)) is
    (stopped_on e.memory s (steps_of (here e) rest (now e i)) (λ way now. Done (step ∷ way) now) w)
on_step e k i j step steps rest q ev Broken is same w = absurd w

-- Where indexes stop, those of a longer name stop.
pub still_stopped : (c : Site) (m : Flat) (steps : TypedTree) (k : ℕ) (p q : Placed) (s : Stop) → led c k p steps ≡ Some q
    → place_indexes m p.place ≡ Stops s → place_indexes m q.place ≡ Stops s
unfolding led
still_stopped c m (IntoComponent i rest) k p q s is stops =
    let on = and_then_some (λ r. led c k r rest) (component_of c.typing.table i p) q is in
    let there = component_there c.typing.table i p on.0 on.1 in
    still_stopped c m rest k on.0 q s on.2
    (ap (λ (r : Placed). place_indexes m r.place) there.is ∙ moved_indexes m (words_before c.typing.table p.of i) p.place ∙ stops)
still_stopped c m (Element index low high rest) k p q s is stops =
    let by : Code → Option Placed = λ i. option_and_then (λ r. led c (k + waiting index) r rest) (element_of c.typing.table i low high p) in
    let i = and_then_some by (option_and_then whole_code (lowered c k AsValue index)) q is in
    let on = and_then_some (λ r. led c (k + waiting index) r rest) (element_of c.typing.table i.0 low high p) q i.2 in
    let there = element_there c.typing.table i.0 low high p on.0 on.1 in
    still_stopped c m rest (k + waiting index) on.0 q s on.2
    (ap (λ (r : Placed). place_indexes m r.place) there.is
    ∙ indexed_stopped m (Scaled i.0 low high (words c.typing.table (element_type c.typing.table p.of))) s p.place stops)
still_stopped c m (Designated rest) k p q s is stops =
    let on = and_then_some (λ r. led c k r rest) (designated_of c.typing.table p) q is in
    let there = map_some (λ d. record { place = Behind (load sort.Access p.place) 0 no_index; of = d }) (designates (shape_of c.typing.table p.of)) on.0 on.1 in
    still_stopped c m rest k on.0 q s on.2
    (ap (λ (r : Placed). place_indexes m r.place) (sym there.2) ∙ designated_stopped m sort.Access s p.place stops)
still_stopped c m NoMore k p q s is stops = ap (λ (r : Placed). place_indexes m r.place) (sym (some_same p q is)) ∙ stops
still_stopped c m _ k p q s is stops = impossible q is

-- ---- an index

abbrev element_place : Table → Code → ℤ → ℤ → Placed → codes.Place
element_place table i low high p = indexed_by (Scaled i low high (words table (element_type table p.of))) p.place

scaled_stops : (m : Flat) (i : Code) (low high : ℤ) (size : ℕ) (s : Stop) → word m i ≡ Stops s → word m (Scaled i low high size) ≡ Stops s
unfolding word
scaled_stops m i low high size s is = ap (λ g. and_then g (scaled low high size)) is

scaled_out : (m : Flat) (i : Code) (low high z : ℤ) (size : ℕ) → word m i ≡ Given z → is_between low high z ≡ false → word m (Scaled i low high size) ≡ Stops constraint
unfolding word
scaled_out m i low high z size is out =
    ap (λ g. and_then g (scaled low high size)) is ∙ ap (λ b. if b then offset (unsigned_abs (z -ℤ low) * size) else Stops constraint) out

scaled_in : (m : Flat) (i : Code) (low high z : ℤ) (size : ℕ) → word m i ≡ Given z → is_between low high z ≡ true → unsigned_abs (z -ℤ low) * size ≤ most_words
    → word m (Scaled i low high size) ≡ Given (pos (unsigned_abs (z -ℤ low) * size))
unfolding word
scaled_in m i low high z size is sure small =
    ap (λ g. and_then g (scaled low high size)) is ∙ ap (λ b. if b then offset (unsigned_abs (z -ℤ low) * size) else Stops constraint) sure
    ∙ offset_given (unsigned_abs (z -ℤ low) * size) small

-- What the machine does with an index and the steps after it.
abbrev after_index : Here → ℤ → ℤ → TypedTree → List Word → Now → Evaluated (List Step)
after_index h low high rest ws n =
    followed_by (indexed low high ws n) (λ i n. followed_by (steps_of h rest n) (λ way n. Done (ToElement i ∷ way) n))

index_in : (h : Here) (low high z : ℤ) (rest : TypedTree) (w : Word) (n : Now) → w ≡ Int z → is_between low high z ≡ true
    → after_index h low high rest (w ∷ []) n ≡ followed_by (steps_of h rest n) (λ way n. Done (ToElement (unsigned_abs (z -ℤ low)) ∷ way) n)
index_in h low high z rest w n is sure =
    ap (λ v. after_index h low high rest (v ∷ []) n) is
    ∙ ap (λ b. followed_by (if b then Done (unsigned_abs (z -ℤ low)) n else machine.Raises ConstraintError n)
    (λ i n. followed_by (steps_of h rest n) (λ way n. Done (ToElement i ∷ way) n))) sure

index_out : (h : Here) (low high z : ℤ) (rest : TypedTree) (w : Word) (n : Now) → w ≡ Int z → is_between low high z ≡ false
    → after_index h low high rest (w ∷ []) n ≡ machine.Raises ConstraintError n
index_out h low high z rest w n is out =
    ap (λ v. after_index h low high rest (v ∷ []) n) is
    ∙ ap (λ b. followed_by (if b then Done (unsigned_abs (z -ℤ low)) n else machine.Raises ConstraintError n)
    (λ i n. followed_by (steps_of h rest n) (λ way n. Done (ToElement i ∷ way) n))) out

on_element : (e : Seen) → IsSeen e → (k j : ℕ) (index rest : TypedTree) (i : Code) (low high : ℤ) (p q : Placed) (element o : ℕ) (ev : Evaluated Place)
    → shape_of (table e) p.of ≡ shape.Elements low high element → place_indexes e.flat p.place ≡ Given (pos o)
    → o + length (sorts (table e) p.of) ≤ most_words → Leads e p.place o j p.of ev
    → (got : Got ℤ) → word e.flat i ≡ got → Same e Whole (k + waiting index) (evaluate (here e) AsValue index (now e k)) got
    → ((s : Stop) → place_indexes e.flat (element_place (table e) i low high p) ≡ Stops s → place_indexes e.flat q.place ≡ Stops s)
    → ((r : ℕ) (ev' : Evaluated Place) → place_indexes e.flat (element_place (table e) i low high p) ≡ Given (pos r)
    → r + length (sorts (table e) (element_type (table e) p.of)) ≤ most_words
    → Leads e (element_place (table e) i low high p) r j (element_type (table e) p.of) ev'
    → Walked e (k + waiting index) j rest q ev' (place_indexes e.flat q.place))
    → Walked e k j (Element index low high rest) q ev (place_indexes e.flat q.place)
unfolding steps_of waiting
on_element e seen k j index rest i low high p q element o ev is_array first small leads (Given z) got same stops on =
    by (is_between low high z) refl
  where
    size : ℕ
    size = words (table e) (element_type (table e) p.of)

    n : ℕ
    n = unsigned_abs (z -ℤ low)

    i_is : evaluate (here e) AsValue index (now e k) ≡ Done (same.0 ∷ []) (now e (k + waiting index))
    i_is = same.1

    by : (b : Bool) → is_between low high z ≡ b → Walked e k j (Element index low high rest) q ev (place_indexes e.flat q.place)
    by true sure =
        let part = element_part e seen.laws p.of n element low high is_array (element_within low high z sure) in
        let inside = split_inside (sorts (table e) p.of) (sorts (table e) (element_type (table e) p.of)) (n * size) part.split in
        let scaled_is = scaled_in e.flat i low high z size got sure (omega (arith, inside, small)) in
        let given = indexed_given e.flat (Scaled i low high size) o (n * size) p.place (omega (arith, inside, small)) first scaled_is in
        let further = leads_part e (ToElement n) p.place (element_place (table e) i low high p) o (o + n * size) j p.of (element_type (table e) p.of) (n * size) ev part
        (indexed_further (Scaled i low high size) o (n * size) p.place) leads in
        let steps_are = ap (λ x. followed_by x (after_index (here e) low high rest)) i_is ∙ index_in (here e) low high z rest same.0 (now e (k + waiting index)) same.2.0 sure in
        on_step e k (k + waiting index) j (ToElement n) (Element index low high rest) rest q ev (place_indexes e.flat q.place) steps_are (omega arith)
        (on (o + n * size) (followed_by ev (stepped e.site.typing (ToElement n))) given (omega (arith, inside, small)) further)
    by false out =
        let ends = stops constraint (indexed_stops e.flat (Scaled i low high size) o constraint p.place first (scaled_out e.flat i low high z size got out)) in
        subst (λ g. Walked e k j (Element index low high rest) q ev g) (sym ends) (
          now e (k + waiting index),
          ap (λ x. followed_by x (after_index (here e) low high rest)) i_is ∙ index_out (here e) low high z rest same.0 (now e (k + waiting index)) same.2.0 out,
          refl,
        )
on_element e seen k j index rest i low high p q element o ev is_array first small leads (Stops s) got same stops on =
    let size : ℕ = words (table e) (element_type (table e) p.of) in
    let ends = stops s (indexed_stops e.flat (Scaled i low high size) o s p.place first (scaled_stops e.flat i low high size s got)) in
    subst (λ g. Walked e k j (Element index low high rest) q ev g) (sym ends)
    (stopped_on e.memory s (evaluate (here e) AsValue index (now e k)) (after_index (here e) low high rest) same)
on_element e seen k j index rest i low high p q element o ev is_array first small leads Broken got same stops on = absurd same

whole_is : (l : Lowered) (c : Code) → whole_code l ≡ Some c → (l.sort ≡ Whole) × (l.code ≡ c)
whole_is l c is = by l.sort refl is
  where
    of_whole : Code → Sort → Option Code
    of_whole c Whole = Some c
    of_whole c _ = None

    by : (s : Sort) → l.sort ≡ s → of_whole l.code s ≡ Some c → (l.sort ≡ Whole) × (l.code ≡ c)
    by Whole same sure = (same, some_same l.code c sure)
    by Position same sure = impossible c sure
    by (Pointer d) same sure = impossible c sure

-- ---- where a name begins

-- The whole of an object, with no index.
pub record Begins (e : Seen) (x j : ℕ) (q : Placed) : Type 0 where
  pub first : place_indexes e.flat q.place ≡ Given (pos 0)
  pub small : 0 + length (sorts (table e) q.of) ≤ most_words
  pub leads : Leads e q.place 0 j q.of (Done (variable_place (here e) x) (now e j))

begins_own : (e : Seen) → IsSeen e → (x j at : ℕ) → is_package_object e.site.typing x ≡ false → offset_of e.site x ≡ Some at
    → Begins e x j (in_frame (object_at e.site.typing x).of at)
unfolding word
begins_own e seen x j at own there = record {
  first = refl;
  small = let few = seen.laws.small (object_at e.site.typing x).of in let long = many (table e) (object_at e.site.typing x).of in omega (arith, few, long);
  leads = record {
    p = variable_place (here e) x;
    gives = refl;
    of = refl;
    stand =
        let sum : e.flat.base + at + 0 ≡ e.flat.base + at = omega arith in
        subst (λ n. Stand e (sorts (table e) (object_at e.site.typing x).of) (slots_at e.site.typing e.memory (variable_place (here e) x).base) (drop n e.flat.stack)) (sym sum)
        (subst (λ b. Stand e (sorts (table e) (object_at e.site.typing x).of) (slots_at e.site.typing e.memory (OfVariable (if b then 0 else e.frame) x)) (drop (e.flat.base + at) e.flat.stack))
        (sym own) (seen.own x at there own));
    from = record {
      frame = e.frame;
      object = x;
      start = e.flat.base + at;
      lies = inl (record { at = at; there = there; own = own; runs = refl; begins = refl });
      base = ap (λ b. OfVariable (if b then 0 else e.frame) x) own;
      at = refl;
      split = whole_split (sorts (table e) (object_at e.site.typing x).of);
    };
  };
}

begins_package : (e : Seen) → IsSeen e → (x j at : ℕ) → is_package_object e.site.typing x ≡ true → package_offset e.site x ≡ Some at
    → Begins e x j (in_packages (object_at e.site.typing x).of at)
unfolding word
begins_package e seen x j at held there = record {
  first = refl;
  small = let few = seen.laws.small (object_at e.site.typing x).of in let long = many (table e) (object_at e.site.typing x).of in omega (arith, few, long);
  leads = record {
    p = variable_place (here e) x;
    gives = refl;
    of = refl;
    stand =
        let sum : at + 0 ≡ at = omega arith in
        subst (λ n. Stand e (sorts (table e) (object_at e.site.typing x).of) (slots_at e.site.typing e.memory (variable_place (here e) x).base) (drop n e.flat.stack)) (sym sum)
        (subst (λ b. Stand e (sorts (table e) (object_at e.site.typing x).of) (slots_at e.site.typing e.memory (OfVariable (if b then 0 else e.frame) x)) (drop at e.flat.stack))
        (sym held) (seen.packages x at there held));
    from = record {
      frame = 0;
      object = x;
      start = at;
      lies = inr (record { there = there; packages = held; first = refl });
      base = ap (λ b. OfVariable (if b then 0 else e.frame) x) held;
      at = refl;
      split = whole_split (sorts (table e) (object_at e.site.typing x).of);
    };
  };
}

pub begins : (e : Seen) → IsSeen e → (x j : ℕ) (q : Placed) → object_place e.site x ≡ Some q → Begins e x j q
begins e seen x j q is = by (is_package_object e.site.typing x) refl is
  where
    by : (b : Bool) → is_package_object e.site.typing x ≡ b
        → (if b then option_map (in_packages (object_at e.site.typing x).of) (package_offset e.site x) else option_map (in_frame (object_at e.site.typing x).of) (offset_of e.site x)) ≡ Some q
        → Begins e x j q
    by true sure is =
        let at = map_some (in_packages (object_at e.site.typing x).of) (package_offset e.site x) q is in
        subst (λ r. Begins e x j r) at.2 (begins_package e seen x j at.0 sure at.1)
    by false sure is =
        let at = map_some (in_frame (object_at e.site.typing x).of) (offset_of e.site x) q is in
        subst (λ r. Begins e x j r) at.2 (begins_own e seen x j at.0 sure at.1)

-- ---- the word of a name

pub sorted : (table : Table) → IsTable table → (sh : Shape) (t : ℕ) (st : Sort) → shape_of table t ≡ sh → sort_of sh ≡ Some st → sorts table t ≡ st ∷ []
sorted table laws (shape.Whole low high) t st is sure = laws.whole t low high is ∙ ap (λ x. x ∷ []) (some_same Whole st sure)
sorted table laws (shape.Listed literals low high) t st is sure = laws.listed t low high literals is ∙ ap (λ x. x ∷ []) (some_same Position st sure)
sorted table laws (shape.Access d constant named) t st is sure = laws.access t d constant named is ∙ ap (λ x. x ∷ []) (some_same (Pointer d) st sure)
sorted table laws (shape.Fields components) t st is sure = impossible st sure
sorted table laws (shape.Elements low high element) t st is sure = impossible st sure
sorted table laws (shape.Same of) t st is sure = impossible st sure

loaded_is : (p : codes.Place) (o : Option Sort) (l : Lowered) → loaded p o ≡ Some l → (o ≡ Some l.sort) × (l.code ≡ load (kind_of l.sort) p)
loaded_is p None l is = impossible l is
loaded_is p (Some st) l is =
    let same : record { code = load (kind_of st) p; sort = st } ≡ l = some_same (record { code = load (kind_of st) p; sort = st }) l is in
    (ap (λ (x : Lowered). Some x.sort) same, ap (λ (x : Lowered). x.code) (sym same) ∙ ap (λ (x : Lowered). load (kind_of x.sort) p) same)

-- What isn't taken away is looked at.
as_held : (h : Here) (t : ℕ) (ev : Evaluated Place) → is_owning h.typing.table t ≡ false → OfType t ev → followed_by ev (taken h) ≡ followed_by ev (holds h.typing)
as_held h t (Done p now) lacks of =
    ap (λ b. Done (words_of h.typing now.memory p) (if b then record now { memory = moved_out h.typing p now.memory } else now)) (ap (is_owning h.typing.table) of ∙ lacks)
as_held h t (machine.Raises x now) lacks of = refl
as_held h t (machine.Traps x now) lacks of = refl

pub is_held : (h : Here) (u : Use) (t : ℕ) (ev : Evaluated Place) → is_taken h.typing.table u t ≡ false → OfType t ev
    → followed_by ev (held_or_taken h u) ≡ followed_by ev (holds h.typing)
is_held h AsView t ev lacks of = refl
is_held h AsValue t ev lacks of = as_held h t ev lacks of

-- What the machine does with a name whose steps are evaluated.
abbrev pub after_steps : Here → ℕ → Use → List Step → Now → Evaluated (List Word)
after_steps h x u way n = followed_by (walked h.typing way (variable_place h x) n) (held_or_taken h u)

name_same : (e : Seen) → IsSeen e → (k x : ℕ) (u : Use) (steps : TypedTree) (q : Placed) (l : Lowered) → named (table e) u q ≡ Some l
    → (got : Got ℤ) → place_indexes e.flat q.place ≡ got
    → Walked e k (k + waiting steps) steps q (Done (variable_place (here e) x) (now e (k + waiting steps))) got
    → Same e l.sort (k + waiting steps) (followed_by (steps_of (here e) steps (now e k)) (after_steps (here e) x u)) (word e.flat l.code)
name_same e seen k x u steps q l is (Given y) got w =
    let j : ℕ = k + waiting steps in
    let plain = if_none (is_taken (table e) u q.of) (loaded q.place (sort_of (shape_of (table e) q.of))) l is in
    let code = loaded_is q.place (sort_of (shape_of (table e) q.of)) l plain.1 in
    let sort_is = sorted (table e) seen.laws (shape_of (table e) q.of) q.of l.sort refl code.0 in
    let ev : Evaluated Place = walked e.site.typing w.0 (variable_place (here e) x) (now e j) in
    let held_is = is_held (here e) u q.of ev plain.0 (of_leads e q.place w.2 j q.of ev w.4) in
    let ends : followed_by (steps_of (here e) steps (now e k)) (after_steps (here e) x u) ≡ followed_by ev (holds e.site.typing) =
    ap (λ g. followed_by g (after_steps (here e) x u)) w.1 ∙ held_is in
    subst (λ c. Same e l.sort j (followed_by (steps_of (here e) steps (now e k)) (after_steps (here e) x u)) (word e.flat c)) (sym code.1)
    (same_by e l.sort j (followed_by (steps_of (here e) steps (now e k)) (after_steps (here e) x u)) (followed_by ev (holds e.site.typing)) (word e.flat (load (kind_of l.sort) q.place)) ends
    (loads e seen.few j q.of w.2 l.sort q.place ev sort_is (got ∙ ap (λ z. Given z) w.3) w.4))
name_same e seen k x u steps q l is (Stops s) got w =
    let plain = if_none (is_taken (table e) u q.of) (loaded q.place (sort_of (shape_of (table e) q.of))) l is in
    let code = loaded_is q.place (sort_of (shape_of (table e) q.of)) l plain.1 in
    let stops : word e.flat l.code ≡ Stops s = ap (word e.flat) code.1 ∙ load_stops e.flat (kind_of l.sort) s q.place got in
    subst (λ g. Same e l.sort (k + waiting steps) (followed_by (steps_of (here e) steps (now e k)) (after_steps (here e) x u)) g) (sym stops)
    (stopped_on e.memory s (steps_of (here e) steps (now e k)) (after_steps (here e) x u) w)
name_same e seen k x u steps q l is Broken got w = absurd w

-- ---- other expressions

-- After nothing was taken, and after one sum of values or another.
taken_none : (e : Seen) (s : Sort) (k : ℕ) (ev : Evaluated (List Word)) (got : Got ℤ) → Same e s k ev got → Same e s (k + 0) ev got
taken_none e s k ev got same = subst (λ n. Same e s n ev got) (none k) same
  where
    none : (k : ℕ) → k ≡ k + 0
    none k = omega arith

taken_both : (e : Seen) (s : Sort) (k a b : ℕ) (ev : Evaluated (List Word)) (got : Got ℤ) → Same e s (k + a + b) ev got → Same e s (k + (a + b)) ev got
taken_both e s k a b ev got same = subst (λ n. Same e s n ev got) (sums k a b) same
  where
    sums : (k a b : ℕ) → k + a + b ≡ k + (a + b)
    sums k a b = omega arith

-- What a lowered word is, by its code and its sort.
lowered_as : (e : Seen) (k : ℕ) (ev : Evaluated (List Word)) (c : Code) (s : Sort) (l : Lowered) → of_sort c s ≡ Some l
    → Same e s k ev (word e.flat c) → Same e l.sort k ev (word e.flat l.code)
lowered_as e k ev c s l is same =
    subst (λ (z : Lowered). Same e z.sort k ev (word e.flat z.code)) (some_same (record { code = c; sort = s }) l is) same

number_same : (e : Seen) (k : ℕ) (v : ℤ) (l : Lowered) → (if is_integer v then of_sort (Number v) Whole else None) ≡ Some l
    → Same e l.sort (k + 0) (Done (Int v ∷ []) (now e k)) (word e.flat l.code)
unfolding word
number_same e k v l is =
    let sure = if_some (is_integer v) (of_sort (Number v) Whole) l is in
    lowered_as e (k + 0) (Done (Int v ∷ []) (now e k)) (Number v) Whole l sure.1
    (taken_none e Whole k (Done (Int v ∷ []) (now e k)) (Given v) (Int v, refl, (refl, sure.0)))

literal_same : (e : Seen) (k n : ℕ) (l : Lowered) → (if nat_le n max_position then of_sort (Number (pos n)) Position else None) ≡ Some l
    → Same e l.sort (k + 0) (Done (Enumerated n ∷ []) (now e k)) (word e.flat l.code)
unfolding word
literal_same e k n l is =
    let sure = if_some (nat_le n max_position) (of_sort (Number (pos n)) Position) l is in
    lowered_as e (k + 0) (Done (Enumerated n ∷ []) (now e k)) (Number (pos n)) Position l sure.1
    (taken_none e Position k (Done (Enumerated n ∷ []) (now e k)) (Given (pos n)) (Enumerated n, refl, (refl, refl, small n sure.0)))
  where
    small : (n : ℕ) → nat_le n 2147483647 ≡ true → IsTrue (is_integer (pos n))
    small n is = grind arith

pub waited_same : (e : Seen) → IsSeen e → (k t : ℕ) (l : Lowered) → lowering.waited e.site k t ≡ Some l → Same e l.sort (k + 1) (waited (now e k)) (word e.flat l.code)
waited_same e seen k t l is =
    let by : Sort → Lowered = λ s. record { code = Waiting (words_before_value e.site k); sort = s } in
    let sure = if_some (is_nth e.site k t) (option_map by (sort_of (shape_of (table e) t))) l is in
    let st = map_some by (sort_of (shape_of (table e) t)) l sure.1 in
    subst (λ (z : Lowered). Same e z.sort (k + 1) (waited (now e k)) (word e.flat z.code)) st.2
    (waited_word e seen k t st.0 (nth_there e.site k t sure.0) (sorted (table e) seen.laws (shape_of (table e) t) t st.0 refl st.1))

end_same : (e : Seen) (k : ℕ) (l : Lowered) → of_sort codes.EndOfFile Position ≡ Some l → Same e l.sort (k + 0) (Done (truth (at_end e.flat.rest)) (now e k)) (word e.flat l.code)
unfolding word
end_same e k l is =
    lowered_as e (k + 0) (Done (truth (at_end e.flat.rest)) (now e k)) codes.EndOfFile Position l is
    (taken_none e Position k (Done (truth (at_end e.flat.rest)) (now e k)) (Given (flat.truth (at_end e.flat.rest))) (truth_same e k (at_end e.flat.rest)))

unary_same : (e : Seen) (k : ℕ) (op : UnaryOperator) (ev : Evaluated (List Word)) (c : Code) (s : Sort) (l : Lowered) → unary op (record { code = c; sort = s }) ≡ Some l
    → Same e s k ev (word e.flat c) → Same e l.sort k (followed_by ev (operated_alone op)) (word e.flat l.code)
unfolding word
unary_same e k op ev c Whole l is same =
    let sure = if_none (is_not op) (of_sort (Unary op c) Whole) l is in
    lowered_as e k (followed_by ev (operated_alone op)) (Unary op c) Whole l sure.1
    (one_same e Whole Whole k k ev (word e.flat c) (operated_alone op) (flat.operated_alone op) same (whole_one e k op sure.0))
unary_same e k op ev c Position l is same =
    let sure = if_some (is_not op) (of_sort (Unary op c) Position) l is in
    lowered_as e k (followed_by ev (operated_alone op)) (Unary op c) Position l sure.1
    (one_same e Position Position k k ev (word e.flat c) (operated_alone op) (flat.operated_alone op) same (position_one e k op sure.0))
unary_same e k op ev c (Pointer d) l is same = impossible l is

abbrev both_of : Evaluated (List Word) → (Now → Evaluated (List Word)) → Operator → Evaluated (List Word)
both_of ev ev' op = followed_by ev (λ left now. followed_by (ev' now) (operated op left))

binary_same : (e : Seen) (i j : ℕ) (op : Operator) (ev : Evaluated (List Word)) (ev' : Now → Evaluated (List Word)) (ca cb : Code) (sa sb : Sort) (l : Lowered)
    → binary op (record { code = ca; sort = sa }) (record { code = cb; sort = sb }) ≡ Some l
    → Same e sa i ev (word e.flat ca) → Same e sb j (ev' (now e i)) (word e.flat cb)
    → Same e l.sort j (both_of ev ev' op) (word e.flat l.code)
unfolding word
binary_same e i j op ev ev' ca cb Whole Whole l is x y = by (takes_whole op) (compares_words op) refl refl is
  where
    by : (t k : Bool) → takes_whole op ≡ t → compares_words op ≡ k
        → (if t then of_sort (Binary op ca cb) Whole else (if k then of_sort (Binary op ca cb) Position else None)) ≡ Some l
        → Same e l.sort j (both_of ev ev' op) (word e.flat l.code)
    by true k sure lacks is =
        lowered_as e j (both_of ev ev' op) (Binary op ca cb) Whole l is
        (two_same e Whole Whole Whole i j ev (word e.flat ca) ev' (word e.flat cb) (operated op) (flat.operated op) x y (wholes e j op sure))
    by false true sure lacks is =
        lowered_as e j (both_of ev ev' op) (Binary op ca cb) Position l is
        (two_same e Whole Whole Position i j ev (word e.flat ca) ev' (word e.flat cb) (operated op) (flat.operated op) x y (wholes_compared e j op lacks))
    by false false sure lacks is = impossible l is
binary_same e i j op ev ev' ca cb Position Position l is x y = by (takes_truth op) (compares_words op) refl refl is
  where
    by : (t k : Bool) → takes_truth op ≡ t → compares_words op ≡ k
        → (if t then of_sort (Binary op ca cb) Position else (if k then of_sort (Binary op ca cb) Position else None)) ≡ Some l
        → Same e l.sort j (both_of ev ev' op) (word e.flat l.code)
    by true k sure lacks is =
        lowered_as e j (both_of ev ev' op) (Binary op ca cb) Position l is
        (two_same e Position Position Position i j ev (word e.flat ca) ev' (word e.flat cb) (operated op) (flat.operated op) x y (positions_joined e j op sure))
    by false true sure lacks is =
        lowered_as e j (both_of ev ev' op) (Binary op ca cb) Position l is
        (two_same e Position Position Position i j ev (word e.flat ca) ev' (word e.flat cb) (operated op) (flat.operated op) x y (positions_compared e j op lacks))
    by false false sure lacks is = impossible l is
binary_same e i j op ev ev' ca cb _ _ l is x y = impossible l is

null_tested_same : (e : Seen) (k : ℕ) (equal : Bool) (ev : Evaluated (List Word)) (c : Code) (s : Sort) (l : Lowered)
    → null_test equal (record { code = c; sort = s }) ≡ Some l → Same e s k ev (word e.flat c)
    → Same e l.sort k (followed_by ev (λ ws now. Done (truth (if is_null ws then equal else not equal)) now)) (word e.flat l.code)
unfolding word
null_tested_same e k equal ev c (Pointer d) l is same =
    lowered_as e k (followed_by ev (λ ws now. Done (truth (if is_null ws then equal else not equal)) now)) (IsNull equal c) Position l is
    (one_same e (Pointer d) Position k k ev (word e.flat c) (λ ws now. Done (truth (if is_null ws then equal else not equal)) now)
    (λ w. Given (flat.truth (if is_zero w then equal else not equal))) same (null_tested e k d equal))
null_tested_same e k equal ev c Whole l is same = impossible l is
null_tested_same e k equal ev c Position l is same = impossible l is

abbrev either_of : Evaluated (List Word) → (Now → Evaluated (List Word)) → ShortCircuit → Evaluated (List Word)
either_of ev ev' op = followed_by ev (λ left now. if decides op left then Done left now else ev' now)

short_same : (e : Seen) (i j : ℕ) (op : ShortCircuit) (ev : Evaluated (List Word)) (ev' : Now → Evaluated (List Word)) (ca cb : Code) (sa sb : Sort) (l : Lowered)
    → short_circuit op (record { code = ca; sort = sa }) (record { code = cb; sort = sb }) ≡ Some l → i ≡ j
    → Same e sa i ev (word e.flat ca) → Same e sb j (ev' (now e i)) (word e.flat cb)
    → Same e l.sort j (either_of ev ev' op) (word e.flat l.code)
unfolding word
short_same e i j op ev ev' ca cb Position Position l is same x y =
    lowered_as e j (either_of ev ev' op) (Short op ca cb) Position l is
    (one_same e Position Position i j ev (word e.flat ca) (λ left now. if decides op left then Done left now else ev' now)
    (λ x. if flat.decides op x then Given x else word e.flat cb) x
    (λ w z stands. subst (λ b. Same e Position j (if b then Done (w ∷ []) (now e i) else ev' (now e i)) (if flat.decides op z then Given z else word e.flat cb))
    (sym (decides_same e op w z stands)) (by w z stands (flat.decides op z))))
  where
    by : (w : Word) (z : ℤ) → Stands (table e) (types e.memory) Position w z → (b : Bool)
        → Same e Position j (if b then Done (w ∷ []) (now e i) else ev' (now e i)) (if b then Given z else word e.flat cb)
    by w z stands true = (w, ap (λ n. Done (w ∷ []) (now e n)) same, stands)
    by w z stands false = y
short_same e i j op ev ev' ca cb _ _ l is same x y = impossible l is

-- By whether the right operand has a call.
short_by : (e : Seen) → IsSeen e → (k a b : ℕ) (op : ShortCircuit) (calls : Bool) (ev : Evaluated (List Word)) (ev' : Now → Evaluated (List Word)) (oa ob : Option Lowered) (l : Lowered)
    → (calls ≡ false → b ≡ 0)
    → (if calls then lowering.waited e.site k boolean else option_and_then (λ la. option_and_then (short_circuit op la) ob) oa) ≡ Some l
    → ((la : Lowered) → oa ≡ Some la → Same e la.sort (k + a) ev (word e.flat la.code))
    → ((lb : Lowered) → ob ≡ Some lb → Same e lb.sort (k + a + b) (ev' (now e (k + a))) (word e.flat lb.code))
    → Same e l.sort (k + (if calls then 1 else a + b)) (if calls then waited (now e k) else either_of ev ev' op) (word e.flat l.code)
short_by e seen k a b op true ev ev' oa ob l none is x y = waited_same e seen k boolean l is
short_by e seen k a b op false ev ev' oa ob l none is x y =
    let la = and_then_some (λ la. option_and_then (short_circuit op la) ob) oa l is in
    let lb = and_then_some (short_circuit op la.0) ob l la.2 in
    let zero_is : b ≡ 0 = none refl in
    taken_both e l.sort k a b (either_of ev ev' op) (word e.flat l.code)
    (short_same e (k + a) (k + a + b) op ev ev' la.0.code lb.0.code la.0.sort lb.0.sort l lb.2 (omega (arith, zero_is)) (x la.0 la.1) (y lb.0 lb.1))

-- ---- all expressions

mutual
  unfolding lowered evaluate waiting led steps_of

  pub simulates : (e : Seen) → IsSeen e → (t : TypedTree) (k : ℕ) (u : Use) (l : Lowered) → lowered e.site k u t ≡ Some l
      → Same e l.sort (k + waiting t) (evaluate (here e) u t (now e k)) (word e.flat l.code)
  simulates e seen (typed.Number v) k u l is = number_same e k v l is
  simulates e seen (typed.Literal n) k u l is = literal_same e k n l is
  simulates e seen (Name p x steps t) k u l is =
      let c : Site = e.site in
      let by : Placed → Option Lowered = λ q. if q.of == t then named c.typing.table u q else None in
      let q = and_then_some by (option_and_then (λ q. led c k q steps) (object_place c x)) l is in
      let from = and_then_some (λ q. led c k q steps) (object_place c x) q.0 q.1 in
      let sure = if_some (q.0.of == t) (named c.typing.table u q.0) l q.2 in
      let start = begins e seen x (k + waiting steps) from.0 from.1 in
      name_same e seen k x u steps q.0 l sure.1 (place_indexes e.flat q.0.place) refl
      (walks e seen steps k (k + waiting steps) from.0 q.0 0 (Done (variable_place (here e) x) (now e (k + waiting steps))) from.2 start.first start.small start.leads)
  simulates e seen (Call p sub actuals) k u l is =
      let t = and_then_some (lowering.waited e.site k) (sub_at e.site.typing sub).result l is in waited_same e seen k t.0 l t.2
  simulates e seen EndOfFile k u l is = end_same e k l is
  simulates e seen (Parens t) k u l is = simulates e seen t k AsValue l is
  simulates e seen (typed.Unary op t) k u l is =
      let a = and_then_some (unary op) (lowered e.site k AsValue t) l is in
      unary_same e (k + waiting t) op (evaluate (here e) AsValue t (now e k)) a.0.code a.0.sort l a.2 (simulates e seen t k AsValue a.0 a.1)
  simulates e seen (typed.Binary op a b) k u l is =
      let la = and_then_some (λ l. option_and_then (binary op l) (lowered e.site (k + waiting a) AsValue b)) (lowered e.site k AsValue a) l is in
      let lb = and_then_some (binary op la.0) (lowered e.site (k + waiting a) AsValue b) l la.2 in
      taken_both e l.sort k (waiting a) (waiting b) (both_of (evaluate (here e) AsValue a (now e k)) (evaluate (here e) AsValue b) op) (word e.flat l.code)
      (binary_same e (k + waiting a) (k + waiting a + waiting b) op (evaluate (here e) AsValue a (now e k)) (evaluate (here e) AsValue b) la.0.code lb.0.code la.0.sort lb.0.sort l lb.2
      (simulates e seen a k AsValue la.0 la.1) (simulates e seen b (k + waiting a) AsValue lb.0 lb.1))
  simulates e seen (typed.Short op p a q b) k u l is =
      short_by e seen k (waiting a) (waiting b) op (has_call b) (evaluate (here e) AsValue a (now e k)) (evaluate (here e) AsValue b)
      (lowered e.site k AsValue a) (lowered e.site (k + waiting a) AsValue b) l (takes_none b) is
      (λ la sure. simulates e seen a k AsValue la sure) (λ lb sure. simulates e seen b (k + waiting a) AsValue lb sure)
  simulates e seen (typed.IsNull equal t) k u l is =
      let a = and_then_some (null_test equal) (lowered e.site k AsView t) l is in
      null_tested_same e (k + waiting t) equal (evaluate (here e) AsView t (now e k)) a.0.code a.0.sort l a.2 (simulates e seen t k AsView a.0 a.1)
  simulates e seen _ k u l is = impossible l is

  pub walks : (e : Seen) → IsSeen e → (steps : TypedTree) (k j : ℕ) (p q : Placed) (o : ℕ) (ev : Evaluated Place) → led e.site k p steps ≡ Some q
      → place_indexes e.flat p.place ≡ Given (pos o) → o + length (sorts (table e) p.of) ≤ most_words → Leads e p.place o j p.of ev
      → Walked e k j steps q ev (place_indexes e.flat q.place)
  walks e seen (IntoComponent i rest) k j p q o ev is first small leads =
      let c : Site = e.site in
      let on = and_then_some (λ r. led c k r rest) (component_of c.typing.table i p) q is in
      let there = component_there c.typing.table i p on.0 on.1 in
      let n : ℕ = words_before (table e) p.of i in
      let r : Placed = record { place = moved_by n p.place; of = component_type (table e) p.of i } in
      let part = component_part e seen.laws p.of i there.components there.shape there.within in
      let inside = split_inside (sorts (table e) p.of) (sorts (table e) r.of) n part.split in
      let further = leads_part e (ToComponent i) p.place r.place o o j p.of r.of n ev part (moved_further n o p.place) leads in
      on_step e k k j (ToComponent i) (IntoComponent i rest) rest q ev (place_indexes e.flat q.place) refl refl
      (walks e seen rest k j r q o (followed_by ev (stepped e.site.typing (ToComponent i))) (subst (λ z. led c k z rest ≡ Some q) there.is on.2)
      (moved_indexes e.flat n p.place ∙ first) (omega (arith, inside, small)) further)
  walks e seen (Element index low high rest) k j p q o ev is first small leads =
      let c : Site = e.site in
      let by : Code → Option Placed = λ i. option_and_then (λ r. led c (k + waiting index) r rest) (element_of c.typing.table i low high p) in
      let i = and_then_some by (option_and_then whole_code (lowered c k AsValue index)) q is in
      let l = and_then_some whole_code (lowered c k AsValue index) i.0 i.1 in
      let whole = whole_is l.0 i.0 l.2 in
      let on = and_then_some (λ r. led c (k + waiting index) r rest) (element_of c.typing.table i.0 low high p) q i.2 in
      let there = element_there c.typing.table i.0 low high p on.0 on.1 in
      let r : Placed = record { place = element_place (table e) i.0 low high p; of = element_type (table e) p.of } in
      let led_on : led c (k + waiting index) r rest ≡ Some q = subst (λ z. led c (k + waiting index) z rest ≡ Some q) there.is on.2 in
      let same : Same e Whole (k + waiting index) (evaluate (here e) AsValue index (now e k)) (word e.flat i.0) =
      subst (λ s. Same e s (k + waiting index) (evaluate (here e) AsValue index (now e k)) (word e.flat i.0)) whole.0
      (subst (λ z. Same e l.0.sort (k + waiting index) (evaluate (here e) AsValue index (now e k)) (word e.flat z)) whole.1 (simulates e seen index k AsValue l.0 l.1)) in
      on_element e seen k j index rest i.0 low high p q there.element o ev there.shape first small leads (word e.flat i.0) refl same
      (λ s stops. still_stopped c e.flat rest (k + waiting index) r q s led_on stops)
      (λ r' ev' given fits leads'. walks e seen rest (k + waiting index) j r q r' ev' led_on given fits leads')
  walks e seen (Designated rest) k j p q o ev is first small leads =
      let c : Site = e.site in
      let on = and_then_some (λ r. led c k r rest) (designated_of c.typing.table p) q is in
      let there = map_some (λ d. record { place = Behind (load sort.Access p.place) 0 no_index; of = d }) (designates (shape_of c.typing.table p.of)) on.0 on.1 in
      let r : Placed = record { place = Behind (load sort.Access p.place) 0 no_index; of = there.0 } in
      let further = leads_designated e seen p.place o j p.of there.0 ev there.1 first leads in
      let few = seen.laws.small there.0 in
      let long = many (table e) there.0 in
      on_step e k k j ToDesignated (Designated rest) rest q ev (place_indexes e.flat q.place) refl refl
      (walks e seen rest k j r q 0 (followed_by ev (stepped e.site.typing ToDesignated)) (subst (λ z. led c k z rest ≡ Some q) (sym there.2) on.2)
      (designated_given e.flat sort.Access (pos o) p.place first) (omega (arith, few, long)) further)
  walks e seen NoMore k j p q o ev is first small leads =
      let same : p ≡ q = some_same p q is in
      subst (λ z. Walked e k j NoMore z ev (place_indexes e.flat z.place)) same
      (subst (λ g. Walked e k j NoMore p ev g) (sym first)
      ([], ap (λ n. Done [] (now e n)) (none k), o, refl, subst (λ x. Leads e p.place o j p.of x) (sym (no_step e.site.typing ev)) leads))
    where
      none : (k : ℕ) → k ≡ k + 0
      none k = omega arith
  walks e seen _ k j p q o ev is first small leads = impossible q is
