-- A value that is lowered is made and moved as on the machine.
use Rattle.std.proofs.Common.{◌≡◌, ℕ, zero, suc, ◌+◌, true, false, ◌&&◌, ◌||◌, List, [], ◌∷◌, ◌++◌, length, refl, sym, ap, subst, ◌∙◌, arith, Option, Some, None, ℤ, pos, nat_eq}
use Rattle.std.specs.Prelude.{flat_map, ◌==◌}
use Rattle.type_definitions.specs.declared.table.Component.{Component}
use Rattle.type_definitions.specs.declared.table.Shape.{Shape}
use Rattle.type_definitions.specs.declared.table.Shape.TheVariants as shape
use Rattle.type_definitions.specs.Types.{Table, shape_of, meant_type, span}
use Rattle.typed_tree.specs.Trees.{TypedTree, Name, Call, Parens, Aggregate, Alike, New, NoMore, More}
use Rattle.typed_tree.specs.Trees as typed
use Rattle.flow_paths.specs.Objects.{sub_at}
use Rattle.flow_paths.specs.Names.{waiting}
use Rattle.machine.specs.Words.{Word, Null, element_type, element_count, element_of, count_of, default, repeated}
use Rattle.machine.specs.Typed.{Sort, Whole, Position, Pointer, sorts, same_sorts, same_designated, same_kind, repeated_sorts, is_pointer, is_array, points_to, field_count, tree_count}
use Rattle.machine.specs.Memory.{Memory}
use Rattle.machine.specs.Evaluate.{Here, Now, Evaluated, Done, followed_by, steps_of, walked, variable_place, place_of, Use, AsValue, held_or_taken, evaluate, parts_of, initial, allocated, checked, part_type}
use Rattle.run_codes.specs.Codes.{Number, Fill, Pointer as LookedAt, Default, Repeated, Both, Empty}
use Rattle.run_codes.specs.Codes as codes
use Rattle.run_codes.specs.Flat.{Flat, Given, Made, made_then, kinds, word, filled, default_words, made}
use Rattle.run_codes.specs.Flat as flat
use Rattle.run_codes.specs.Lowered.{Site, option_map, lowered, place, place_value, waited_value, scalar, one_type, is_composite, are_composite, both, value, parts, first_value}
use Rattle.run_codes.specs.Related.{IsTable, Seen, table, here, now, types, Lying}
use Rattle.run_codes.proofs.Places.{impossible, some_same, if_some, both_true, twice}
use Rattle.run_codes.proofs.Expressions.{and_then_some, map_some, simulates}
use Rattle.run_fills.specs.Filled.{IsWhole, at, Later, Filled}
use Rattle.run_fills.proofs.Wholes.{seen, value_later, here_later, filled_by, filled_then, filled_given}
use Rattle.run_fills.proofs.Single.{pointer_filled}
use Rattle.run_fills.proofs.Values.{value_as, value_joined, no_value, value_repeated, default_value}
use Rattle.run_fills.proofs.Names.{composite_kept}
use Rattle.run_fills.proofs.Made.{made_filled}
use Rattle.run_fills.proofs.Placed.{plain_filled, name_filled, waited_filled}

never : {A : Type 0} → false ≡ true → A
never is = absurd (no_way is)
  where
    no_way : false ≡ true → ⊥
    no_way x = cc

-- ---- sorts of components and elements, one after the other

abbrev sorts_from : (ℕ → List Sort) → ℕ → ℕ → List Sort
sorts_from f i zero = []
sorts_from f i (suc n) = f i ++ sorts_from f (suc i) n

abbrev part_sorts : Table → Shape → ℕ → List Sort
part_sorts table sh j = sorts table (part_type sh j)

sorts_later : (f : ℕ → List Sort) (i n : ℕ) → sorts_from f (suc i) n ≡ sorts_from (λ j. f (suc j)) i n
sorts_later f i zero = refl
sorts_later f i (suc n) = ap (λ l. f (suc i) ++ l) (sorts_later f (suc i) n)

fields_from : (table : Table) (cs : List Component) → flat_map (λ (c : Component). sorts table c.of) cs ≡ sorts_from (part_sorts table (shape.Fields cs)) 0 (length cs)
fields_from table [] = refl
fields_from table (c ∷ cs) =
    ap (λ l. sorts table c.of ++ l) (fields_from table cs ∙ sym (sorts_later (part_sorts table (shape.Fields (c ∷ cs))) 0 (length cs)))

elements_from : (l : List Sort) (i n : ℕ) → repeated_sorts n l ≡ sorts_from (λ j. l) i n
elements_from l i zero = refl
elements_from l i (suc n) = ap (λ k. l ++ k) (elements_from l (suc i) n)

composite_sorts : (table : Table) → IsTable table → (t : ℕ) (sh : Shape) → shape_of table t ≡ sh → is_composite sh ≡ true → sorts table t ≡ sorts_from (part_sorts table sh) 0 (field_count sh)
composite_sorts table laws t (shape.Fields cs) is sure = laws.fields t cs is ∙ fields_from table cs
composite_sorts table laws t (shape.Elements low high element) is sure = laws.elements t element low high is ∙ elements_from (sorts table element) 0 (span low high)
composite_sorts table laws t (shape.Whole low high) is sure = never sure
composite_sorts table laws t (shape.Listed literals low high) is sure = never sure
composite_sorts table laws t (shape.Access d constant named) is sure = never sure
composite_sorts table laws t (shape.Same of) is sure = never sure

array_sorts : (table : Table) → IsTable table → (t : ℕ) (sh : Shape) → shape_of table t ≡ sh → is_array sh ≡ true → sorts table t ≡ repeated_sorts (count_of sh) (sorts table (element_of sh))
array_sorts table laws t (shape.Elements low high element) is sure = laws.elements t element low high is
array_sorts table laws t (shape.Whole low high) is sure = never sure
array_sorts table laws t (shape.Listed literals low high) is sure = never sure
array_sorts table laws t (shape.Access d constant named) is sure = never sure
array_sorts table laws t (shape.Fields cs) is sure = never sure
array_sorts table laws t (shape.Same of) is sure = never sure

-- ---- access types

pointer_is : (all : List Sort) → is_pointer all ≡ true → (d : ℕ) × (all ≡ Pointer d ∷ [])
pointer_is [] is = never is
pointer_is (Pointer d ∷ []) is = (d, refl)
pointer_is (Whole ∷ []) is = never is
pointer_is (Position ∷ []) is = never is
pointer_is (Whole ∷ s ∷ all) is = never is
pointer_is (Position ∷ s ∷ all) is = never is
pointer_is (Pointer d ∷ s ∷ all) is = never is

points_is : (table : Table) (t : ℕ) (all : List Sort) → points_to table t all ≡ true → (d : ℕ) × (all ≡ Pointer d ∷ []) × (same_designated table d t ≡ true)
points_is table t [] is = never is
points_is table t (Pointer d ∷ []) is = (d, refl, is)
points_is table t (Whole ∷ []) is = never is
points_is table t (Position ∷ []) is = never is
points_is table t (Whole ∷ s ∷ all) is = never is
points_is table t (Position ∷ s ∷ all) is = never is
points_is table t (Pointer d ∷ s ∷ all) is = never is

equal : (n : ℕ) → nat_eq n n ≡ true
equal n = grind arith

designated_self : (table : Table) (d : ℕ) → same_designated table d d ≡ true
designated_self table d = ap (λ b. b || same_kind (shape_of table d) (shape_of table d)) (equal (meant_type table d))

-- ---- small steps

both_some : (a b : Option Fill) (v : Fill) → both a b ≡ Some v → (x : Fill) × (y : Fill) × (a ≡ Some x) × (b ≡ Some y) × (Both x y ≡ v)
both_some (Some x) (Some y) v is = (x, y, refl, refl, some_same (Both x y) v is)
both_some (Some x) None v is = impossible v is
both_some None b v is = impossible v is

filled_sorts : (e : Seen) (all : List Lying) (k : ℕ) (a b : List Sort) (ev : Evaluated (List Word)) (made : Made (List ℤ)) → IsTable (table e) → same_sorts (table e) a b ≡ true
    → Filled e all k a ev made → Filled e all k b ev made
filled_sorts e all k a b ev (flat.Done zs f) laws same s = (s.0, s.1, s.2, s.3, value_as (table e) (types s.1) a b s.0 zs laws same s.4)
filled_sorts e all k a b ev (flat.Halted stop f) laws same s = s
filled_sorts e all k a b ev flat.Failed laws same s = absurd s

filled_after : (e : Seen) (all : List Lying) (k j : ℕ) (want : List Sort) (ev : Evaluated (List Word)) (made : Made (List ℤ)) → k ≡ j → Filled e all k want ev made → Filled e all j want ev made
filled_after e all k j want ev made is s = subst (λ n. Filled e all n want ev made) is s

-- A part, and those after it.
abbrev after_part : Here → ℕ → ℕ → TypedTree → List Word → Now → Evaluated (List Word)
after_part h t i rest ws n = followed_by (parts_of h t (suc i) rest n) (λ more n. Done (ws ++ more) n)

part_joined : (e : Seen) (all : List Lying) (k j l t i : ℕ) (rest : TypedTree) (a b : List Sort) (ev : Evaluated (List Word)) (got : Made (List ℤ)) (w : Fill)
    → Filled e all k a ev got
    → ((m : Memory) (f : Flat) → Later e all m f → Filled (at e m f) all j b (parts_of (here (at e m f)) t (suc i) rest (now (at e m f) k)) (filled (table e) w f))
    → j ≡ l
    → Filled e all l (a ++ b) (followed_by ev (after_part (here e) t i rest)) (made_then got (λ zs n. made_then (filled (table e) w n) (λ us. flat.Done (zs ++ us))))
part_joined e all k j l t i rest a b ev got w first on is =
    filled_after e all j l (a ++ b) (followed_by ev (after_part (here e) t i rest)) (made_then got (λ zs n. made_then (filled (table e) w n) (λ us. flat.Done (zs ++ us)))) is
    (filled_then e all k j a (a ++ b) ev (after_part (here e) t i rest) got (λ zs n. made_then (filled (table e) w n) (λ us. flat.Done (zs ++ us))) first
    (λ ws zs m f later value.
    let more = subst (λ h. Filled (at e m f) all j b (parts_of h t (suc i) rest (now (at e m f) k)) (filled (table e) w f)) (here_later e all m f later) (on m f later) in
    filled_then (at e m f) all j j b (a ++ b) (parts_of (here e) t (suc i) rest (now (at e m f) k)) (λ more n. Done (ws ++ more) n) (filled (table e) w f) (λ us. flat.Done (zs ++ us)) more
    (λ us ys n g further value'. filled_given (at e n g) all j (a ++ b) (ws ++ us) (zs ++ ys) further.whole
    (value_joined (table e) (types n) a b ws us zs ys (value_later (at e m f) all n g a ws zs further value) value'))))

-- The value of each element.
each_element : (e : Seen) (all : List Lying) (k count : ℕ) (a : List Sort) (ev : Evaluated (List Word)) (got : Made (List ℤ)) → Filled e all k a ev got
    → Filled e all k (repeated_sorts count a) (followed_by ev (λ ws n. Done (repeated count ws) n)) (made_then got (λ zs. flat.Done (flat.repeated count zs)))
each_element e all k count a ev got first =
    filled_then e all k k a (repeated_sorts count a) ev (λ ws n. Done (repeated count ws) n) got (λ zs. flat.Done (flat.repeated count zs)) first
    (λ ws zs m f later value. filled_given (at e m f) all k (repeated_sorts count a) (repeated count ws) (flat.repeated count zs) later.whole
    (value_repeated (table e) (types m) count a ws zs value))

-- A new cell with a value.
new_made : (e : Seen) (all : List Lying) (k t want d : ℕ) (ev : Evaluated (List Word)) (got : Made (List ℤ)) → sorts (table e) want ≡ Pointer d ∷ [] → same_designated (table e) d t ≡ true
    → Filled e all k (sorts (table e) t) ev got
    → Filled e all k (sorts (table e) want) (followed_by (followed_by ev (allocated t)) (checked (here e) want)) (made_then got (λ zs n. made n (kinds (table e) t) zs))
new_made e all k t want d ev got sort same first =
    let go : List Word → Now → Evaluated (List Word) = λ ws n. followed_by (allocated t ws n) (checked (here e) want) in
    filled_by e all k (sorts (table e) want) (followed_by (followed_by ev (allocated t)) (checked (here e) want)) (followed_by ev go) (made_then got (λ zs n. made n (kinds (table e) t) zs))
    (twice ev (allocated t) (checked (here e) want))
    (filled_then e all k k (sorts (table e) t) (sorts (table e) want) ev go got (λ zs n. made n (kinds (table e) t) zs) first
    (λ ws zs m f later value.
    subst (λ h. Filled (at e m f) all k (sorts (table e) want) (followed_by (allocated t ws (now (at e m f) k)) (checked h want)) (made f (kinds (table e) t) zs)) (here_later e all m f later)
    (made_filled (at e m f) all later.whole k t want d ws zs sort same value)))

-- ---- all values

mutual
  unfolding value parts first_value evaluate parts_of initial waiting filled word

  pub fills : (e : Seen) (all : List Lying) → IsWhole e all → (t : TypedTree) (k want : ℕ) (u : Use) (v : Fill) → value e.site k u want t ≡ Some v
      → Filled e all (k + waiting t) (sorts (table e) want) (followed_by (evaluate (here e) u t (now e k)) (checked (here e) want)) (filled (table e) v e.flat)
  fills e all whole typed.Null k want u v eq =
      let sure = if_some (is_pointer (sorts (table e) want)) (Some (LookedAt (Number (pos 0)))) v eq in
      let d = pointer_is (sorts (table e) want) sure.0 in
      subst (λ v. Filled e all (k + 0) (sorts (table e) want) (followed_by (Done (Null ∷ []) (now e k)) (checked (here e) want)) (filled (table e) v e.flat)) (some_same (LookedAt (Number (pos 0))) v sure.1)
      (pointer_filled e all whole (k + 0) want d.0 d.0 (Done (Null ∷ []) (now e k)) (Given (pos 0)) d.1 (designated_self (table e) d.0) (Null, ap (λ n. Done (Null ∷ []) (now e n)) (none k), refl))
    where
      none : (k : ℕ) → k ≡ k + 0
      none k = omega arith
  fills e all whole (Name p x steps t) k want u v eq =
      let q = and_then_some (place_value (table e) u want) (place e.site k (Name p x steps t)) v eq in
      filled_by e all (k + waiting steps) (sorts (table e) want) (followed_by (evaluate (here e) u (Name p x steps t) (now e k)) (checked (here e) want))
      (followed_by (followed_by (place_of (here e) (Name p x steps t) (now e k)) (held_or_taken (here e) u)) (checked (here e) want)) (filled (table e) v e.flat)
      (ap (λ g. followed_by g (checked (here e) want)) (sym (twice (steps_of (here e) steps (now e k)) (λ way n. walked e.site.typing way (variable_place (here e) x) n) (held_or_taken (here e) u))))
      (name_filled e all whole k want u (Name p x steps t) q.0 v q.1 q.2)
  fills e all whole (Call p sub actuals) k want u v eq =
      let t = and_then_some (waited_value e.site k want) (sub_at e.site.typing sub).result v eq in
      waited_filled e all whole k want t.0 v t.2
  fills e all whole (Parens t) k want u v eq = fills e all whole t k want AsValue v eq
  fills e all whole (Aggregate t es) k want u v eq =
      let sure = if_some (are_composite (table e) want t && (one_type (table e) t want && (tree_count es == field_count (shape_of (table e) t)))) (parts e.site k t 0 es) v eq in
      let first = both_true (are_composite (table e) want t) (one_type (table e) t want && (tree_count es == field_count (shape_of (table e) t))) sure.0 in
      let shapes = both_true (is_composite (shape_of (table e) want)) (is_composite (shape_of (table e) t)) first.0 in
      let counts = both_true (one_type (table e) t want) (tree_count es == field_count (shape_of (table e) t)) first.1 in
      let is : sorts (table e) t ≡ sorts_from (part_sorts (table e) (shape_of (table e) t)) 0 (tree_count es) =
      composite_sorts (table e) whole.laws t (shape_of (table e) t) refl shapes.1
      ∙ ap (sorts_from (part_sorts (table e) (shape_of (table e) t)) 0) (sym (same_number (tree_count es) (field_count (shape_of (table e) t)) counts.1)) in
      filled_by e all (k + waiting es) (sorts (table e) want) (followed_by (parts_of (here e) t 0 es (now e k)) (checked (here e) want)) (parts_of (here e) t 0 es (now e k)) (filled (table e) v e.flat)
      (composite_kept (here e) want (parts_of (here e) t 0 es (now e k)) shapes.0)
      (filled_sorts e all (k + waiting es) (sorts (table e) t) (sorts (table e) want) (parts_of (here e) t 0 es (now e k)) (filled (table e) v e.flat) whole.laws counts.0
      (subst (λ l. Filled e all (k + waiting es) l (parts_of (here e) t 0 es (now e k)) (filled (table e) v e.flat)) (sym is)
      (fills_parts e all whole es k t 0 v sure.1)))
    where
      same_number : (a b : ℕ) → (a == b) ≡ true → a ≡ b
      same_number a b is = grind arith
  fills e all whole (Alike t x) k want u v eq =
      let c : Site = e.site in
      let element : ℕ = element_type (table e) t in
      let count : ℕ = element_count (table e) t in
      let sure = if_some (are_composite (table e) want t && (one_type (table e) t want && is_array (shape_of (table e) t))) (option_map (λ w. Repeated w count) (value c k AsValue element x)) v eq in
      let first = both_true (are_composite (table e) want t) (one_type (table e) t want && is_array (shape_of (table e) t)) sure.0 in
      let shapes = both_true (is_composite (shape_of (table e) want)) (is_composite (shape_of (table e) t)) first.0 in
      let arrays = both_true (one_type (table e) t want) (is_array (shape_of (table e) t)) first.1 in
      let w = map_some (λ w. Repeated w count) (value c k AsValue element x) v sure.1 in
      let ev : Evaluated (List Word) = followed_by (evaluate (here e) AsValue x (now e k)) (checked (here e) element) in
      let is : sorts (table e) t ≡ repeated_sorts count (sorts (table e) element) = array_sorts (table e) whole.laws t (shape_of (table e) t) refl arrays.1 in
      subst (λ v. Filled e all (k + waiting x) (sorts (table e) want) (followed_by (evaluate (here e) u (Alike t x) (now e k)) (checked (here e) want)) (filled (table e) v e.flat)) w.2
      (filled_by e all (k + waiting x) (sorts (table e) want) (followed_by (evaluate (here e) u (Alike t x) (now e k)) (checked (here e) want)) (followed_by ev (λ ws n. Done (repeated count ws) n))
      (made_then (filled (table e) w.0 e.flat) (λ zs. flat.Done (flat.repeated count zs)))
      (composite_kept (here e) want (evaluate (here e) u (Alike t x) (now e k)) shapes.0
      ∙ sym (twice (evaluate (here e) AsValue x (now e k)) (checked (here e) element) (λ ws n. Done (repeated count ws) n)))
      (filled_sorts e all (k + waiting x) (sorts (table e) t) (sorts (table e) want) (followed_by ev (λ ws n. Done (repeated count ws) n))
      (made_then (filled (table e) w.0 e.flat) (λ zs. flat.Done (flat.repeated count zs))) whole.laws arrays.0
      (subst (λ l. Filled e all (k + waiting x) l (followed_by ev (λ ws n. Done (repeated count ws) n)) (made_then (filled (table e) w.0 e.flat) (λ zs. flat.Done (flat.repeated count zs)))) (sym is)
      (each_element e all (k + waiting x) count (sorts (table e) element) ev (filled (table e) w.0 e.flat) (fills e all whole x k element AsValue w.0 w.1)))))
  fills e all whole (New t x) k want u v eq =
      let sure = if_some (points_to (table e) t (sorts (table e) want)) (option_map (λ a. codes.New a t) (first_value e.site k t x)) v eq in
      let d = points_is (table e) t (sorts (table e) want) sure.0 in
      let w = map_some (λ a. codes.New a t) (first_value e.site k t x) v sure.1 in
      subst (λ v. Filled e all (k + waiting x) (sorts (table e) want) (followed_by (followed_by (initial (here e) t x (now e k)) (allocated t)) (checked (here e) want)) (filled (table e) v e.flat)) w.2
      (new_made e all (k + waiting x) t want d.0 (initial (here e) t x (now e k)) (filled (table e) w.0 e.flat) d.1 d.2 (fills_first e all whole x k t w.0 w.1))
  fills e all whole t k want u v eq =
      let l = and_then_some (scalar (table e) want) (lowered e.site k u t) v eq in
      plain_filled e all whole (k + waiting t) want (shape_of (table e) want) l.0.sort l.0.code (evaluate (here e) u t (now e k)) v refl l.2
      (simulates e (seen e all whole) t k u l.0 l.1)

  fills_parts : (e : Seen) (all : List Lying) → IsWhole e all → (es : TypedTree) (k t i : ℕ) (v : Fill) → parts e.site k t i es ≡ Some v
      → Filled e all (k + waiting es) (sorts_from (part_sorts (table e) (shape_of (table e) t)) i (tree_count es)) (parts_of (here e) t i es (now e k)) (filled (table e) v e.flat)
  fills_parts e all whole (More x rest) k t i v eq =
      let c : Site = e.site in
      let of : ℕ = part_type (shape_of (table e) t) i in
      let some = both_some (value c k AsValue of x) (parts c (k + waiting x) t (suc i) rest) v eq in
      let ev : Evaluated (List Word) = followed_by (evaluate (here e) AsValue x (now e k)) (checked (here e) of) in
      subst (λ v. Filled e all (k + (waiting x + waiting rest)) (sorts (table e) of ++ sorts_from (part_sorts (table e) (shape_of (table e) t)) (suc i) (tree_count rest))
      (parts_of (here e) t i (More x rest) (now e k)) (filled (table e) v e.flat)) some.4
      (filled_by e all (k + (waiting x + waiting rest)) (sorts (table e) of ++ sorts_from (part_sorts (table e) (shape_of (table e) t)) (suc i) (tree_count rest))
      (parts_of (here e) t i (More x rest) (now e k)) (followed_by ev (after_part (here e) t i rest)) (filled (table e) (Both some.0 some.1) e.flat)
      (sym (twice (evaluate (here e) AsValue x (now e k)) (checked (here e) of) (after_part (here e) t i rest)))
      (part_joined e all (k + waiting x) (k + waiting x + waiting rest) (k + (waiting x + waiting rest)) t i rest (sorts (table e) of)
      (sorts_from (part_sorts (table e) (shape_of (table e) t)) (suc i) (tree_count rest)) ev (filled (table e) some.0 e.flat) some.1
      (fills e all whole x k of AsValue some.0 some.2)
      (λ m f later. fills_parts (at e m f) all later.whole rest (k + waiting x) t (suc i) some.1 some.3) (sums k (waiting x) (waiting rest))))
    where
      sums : (k a b : ℕ) → k + a + b ≡ k + (a + b)
      sums k a b = omega arith
  fills_parts e all whole NoMore k t i v eq =
      subst (λ v. Filled e all (k + 0) [] (Done [] (now e k)) (filled (table e) v e.flat)) (some_same Empty v eq)
      (filled_after e all k (k + 0) [] (Done [] (now e k)) (flat.Done [] e.flat) (none k) (filled_given e all k [] [] [] whole (no_value (table e) (types e.memory))))
    where
      none : (k : ℕ) → k ≡ k + 0
      none k = omega arith
  fills_parts e all whole _ k t i v eq = impossible v eq

  fills_first : (e : Seen) (all : List Lying) → IsWhole e all → (x : TypedTree) (k t : ℕ) (v : Fill) → first_value e.site k t x ≡ Some v
      → Filled e all (k + waiting x) (sorts (table e) t) (initial (here e) t x (now e k)) (filled (table e) v e.flat)
  fills_first e all whole (More x NoMore) k t v eq =
      filled_after e all (k + waiting x) (k + (waiting x + 0)) (sorts (table e) t) (followed_by (evaluate (here e) AsValue x (now e k)) (checked (here e) t)) (filled (table e) v e.flat) (none k (waiting x))
      (fills e all whole x k t AsValue v eq)
    where
      none : (k a : ℕ) → k + a ≡ k + (a + 0)
      none k a = omega arith
  fills_first e all whole NoMore k t v eq =
      subst (λ v. Filled e all (k + 0) (sorts (table e) t) (Done (default (table e) t) (now e k)) (filled (table e) v e.flat)) (some_same (Default t) v eq)
      (filled_after e all k (k + 0) (sorts (table e) t) (Done (default (table e) t) (now e k)) (flat.Done (default_words (table e) t) e.flat) (none k)
      (filled_given e all k (sorts (table e) t) (default (table e) t) (default_words (table e) t) whole (default_value (table e) (types e.memory) whole.parts t)))
    where
      none : (k : ℕ) → k ≡ k + 0
      none k = omega arith
  fills_first e all whole _ k t v eq = impossible v eq
