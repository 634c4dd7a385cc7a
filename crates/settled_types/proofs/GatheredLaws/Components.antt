-- The components of each type have names of their own, after both turns.
use Rattle.std.proofs.Common.{◌≡◌, inl, inr, ℕ, zero, suc, ◌+◌, ◌-◌, ◌<◌, Bool, true, false, not, ◌||◌, ◌&&◌, List, [], ◌∷◌, ◌++◌, map, set, length, get_or, replicate, nat_eq, refl, sym, ap, ◌∙◌, subst, arith, Option, Some, None, true≢false, if◌then◌else◌, ℤ}
use Rattle.std.specs.Prelude.{slice_get}
use Rattle.std.specs.Cmp.Lexicographic.{pointwise}
use Rattle.std.specs.Char.{to_ascii_lowercase}
use Rattle.std.proofs.lemmas.Bool.{eqb-true}
use Rattle.std.proofs.lemmas.List.{map-append}
use Rattle.machine.specs.spark_base.Lists.{Has}
use Rattle.spark_base.proofs.Lists.{Has-map}
use Rattle.machine.specs.resolved_tree.Trees.{More, Code, Enumeration, Record, Components, Array, Access, Incomplete, Private, TypeDecl, Subtype, ConstrainedSubtype, Objects, Numbers, SubDecl, SubBody, Package, PackageBody, If, Branch, Case, When, Loop, While, For, Block, Program}
use Rattle.machine.specs.type_definitions.declared.table.Component.{Component}
use Rattle.machine.specs.type_definitions.declared.table.Info.{Info}
use Rattle.machine.specs.type_definitions.declared.table.Known.{Known}
use Rattle.machine.specs.type_definitions.declared.table.Kind.TheVariants as kind
use Rattle.machine.specs.type_definitions.declared.table.Entry.TheVariants as entry
use Rattle.machine.specs.type_definitions.declared.table.Shape.{Shape}
use Rattle.machine.specs.type_definitions.declared.table.Shape.TheVariants as shape
use Rattle.machine.specs.type_definitions.declared.judgement.View.{View}
use Rattle.machine.specs.type_definitions.declared.judgement.View.TheVariants as view
use Rattle.machine.specs.type_definitions.Types.{Table, info, info_found, fields, components_of, meant_type, shape_of, shape_found, full, base, no_type}
use Rattle.machine.specs.type_definitions.Entries.{entry_of, same_word, marked}
use Rattle.machine.specs.type_definitions.Names.{Context}
use Rattle.machine.specs.type_definitions.Expressions.{by_name, no_component}
use Rattle.machine.specs.type_definitions.Gathered.{gather, each, texts, with_entry, with_info, with_type, with_indication, own_info, awaited_info, full_info, subtype_info, meant_by, constrained_shape, bound_pair, is_asked, are_static_bounds, component_group, component_groups, component_list, defined, with_literals, with_definition, with_object, constant_value, with_number, initial_value, with_formal, with_formal_group, with_formals, with_result, with_front, with_body_front, is_subprogram, front_number, plain_object, parameter_type, in_subprogram, in_visible, in_hidden, declared_number, declared_pos, declared_text}
use Rattle.machine.specs.type_definitions.Whole.{predefined_types, at_first, outside, gather_units, known_from, known_of}
use Rattle.settled_types.proofs.Cases.{definition_end, each_end, formals_end, front_end, group_end, indication_end, on_access, on_enumeration, on_front, on_group, on_more, result_end}
use Rattle.settled_types.specs.GatheredLaws.Components.{AreWordsApart, group_texts, list_texts, IsRecordApart, AreRecordsApart, IsShapeApart}
use Rattle.settled_types.specs.GatheredLaws.Left.{Left}

-- ---- words

words_equal : (a b : List ℕ) → pointwise nat_eq a b ≡ true → a ≡ b
words_equal [] [] e = refl
words_equal [] (y ∷ ys) e = absurd (true≢false (sym e))
words_equal (x ∷ xs) [] e = absurd (true≢false (sym e))
words_equal (x ∷ xs) (y ∷ ys) e = by (words_equal xs ys) (nat_eq x y) refl e
  where
    by : (pointwise nat_eq xs ys ≡ true → xs ≡ ys) → (q : Bool) → nat_eq x y ≡ q → q && pointwise nat_eq xs ys ≡ true → (x ∷ xs) ≡ (y ∷ ys)
    by on true same e = ap (λ n. n ∷ xs) (eqb-true x y same) ∙ ap (λ rest. y ∷ rest) (on e)
    by on false other e = absurd (true≢false (sym e))

words_self : (a : List ℕ) → pointwise nat_eq a a ≡ true
words_self [] = refl
words_self (x ∷ xs) = rw (self x) (words_self xs)
  where
    self : (n : ℕ) → nat_eq n n ≡ true
    self n = grind arith

-- two words that are one with a third one
both_same : (a b v : List ℕ) → same_word a v ≡ true → same_word b v ≡ true → same_word a b ≡ true
both_same a b v e f =
    let p : map to_ascii_lowercase a ≡ map to_ascii_lowercase v = words_equal (map to_ascii_lowercase a) (map to_ascii_lowercase v) e in
    let q : map to_ascii_lowercase b ≡ map to_ascii_lowercase v = words_equal (map to_ascii_lowercase b) (map to_ascii_lowercase v) f in
    subst (λ w. pointwise nat_eq (map to_ascii_lowercase a) w ≡ true) (p ∙ sym q) (words_self (map to_ascii_lowercase a))

turned : (a v : List ℕ) → same_word a v ≡ true → same_word v a ≡ true
turned a v e = both_same v a v (words_self (map to_ascii_lowercase v)) e

found : (cs : List Component) (k : ℕ) (v : List ℕ) → AreWordsApart (map (λ (c : Component). c.name) cs) → k < length cs
    → same_word (get_or cs k no_component).name v ≡ true → by_name (λ (c : Component). c.name) no_component v cs ≡ get_or cs k no_component
found [] k v apart less same = absurd (omega (arith, less))
found (c ∷ cs) zero v apart less same = rw (turned c.name v same) refl
found (c ∷ cs) (suc k) v apart less same = by (found cs k v apart.1 (omega (arith, less)) same) (same_word v c.name) refl
  where
    within : (xs : List Component) (i : ℕ) → i < length xs → Has xs (get_or xs i no_component)
    within [] i less = absurd (omega (arith, less))
    within (x ∷ xs) zero less = inl refl
    within (x ∷ xs) (suc i) less = inr (within xs i (omega (arith, less)))

    by : by_name (λ (c : Component). c.name) no_component v cs ≡ get_or cs k no_component → (q : Bool) → same_word v c.name ≡ q
        → (if q then c else by_name (λ (c : Component). c.name) no_component v cs) ≡ get_or cs k no_component
    by on false other = on
    by on true is =
        let here : Component = get_or cs k no_component in
        let has : Has (map (λ (c : Component). c.name) cs) here.name = Has-map (λ (c : Component). c.name) cs here (within cs k (omega (arith, less))) in
        absurd (true≢false (sym (both_same c.name here.name v (turned v c.name is) same) ∙ apart.0 here.name has))

-- ---- what definitions say

group_names : (t : ℕ) (ids : Code) → map (λ (c : Component). c.name) (component_group t ids) ≡ texts ids
group_names t (More d rest) = ap (λ ws. declared_text d ∷ ws) (group_names t rest)
group_names t ids = refl

groups_names : (known : Known) (group : Code) → map (λ (c : Component). c.name) (component_groups known group) ≡ group_texts group
groups_names known (Components names m) = group_names (marked known m) names
groups_names known group = refl

list_names : (known : Known) (list : Code) → map (λ (c : Component). c.name) (component_list known list) ≡ list_texts list
list_names known (More group rest) =
    map-append (λ (c : Component). c.name) (component_groups known group) (component_list known rest)
    ∙ ap (λ ws. ws ++ map (λ (c : Component). c.name) (component_list known rest)) (groups_names known group)
    ∙ ap (λ ws. group_texts group ++ ws) (list_names known rest)
list_names known list = refl

defined_apart : (c : Context) (def : Code) → IsRecordApart def → IsShapeApart (defined c def)
defined_apart c (Record components) apart = subst AreWordsApart (sym (list_names c.known components)) apart
defined_apart c (Enumeration literals) apart = tt
defined_apart c (Array range m) apart = tt
defined_apart c (Access m) apart = tt
defined_apart c def apart = tt

bounds_apart : (w : View) (b : ℤ × ℤ) → IsShapeApart (constrained_shape w b)
bounds_apart (view.Whole p q) b = tt
bounds_apart (view.Listed p q) b = tt
bounds_apart w b = tt

-- ---- rows

abbrev AreApart : Context → Type 0
AreApart c = (t : ℕ) → IsShapeApart (info c.known.table t).shape

row_put : (xs : Table) (d t : ℕ) (i : Info) → IsShapeApart i.shape → IsShapeApart (info xs t).shape → IsShapeApart (info (set xs d i) t).shape
row_put [] d t i new old = old
row_put (y ∷ xs) zero zero i new old = new
row_put (y ∷ xs) zero (suc t) i new old = old
row_put (y ∷ xs) (suc d) zero i new old = old
row_put (y ∷ xs) (suc d) (suc t) i new old = row_put xs d t i new old

put : (d : ℕ) (i : Info) (c : Context) → IsShapeApart i.shape → AreApart c → AreApart (with_info d i c)
put d i c new are = λ t. row_put c.known.table d t i new (are t)

literals_apart : (t n : ℕ) (ids : Code) (c : Context) → AreApart c → AreApart (with_literals t n ids c)
literals_apart t n (More d rest) c are = literals_apart t (n + 1) rest (with_entry (declared_number d) (entry.Literal t n) c) are
literals_apart t n ids c are = are

definition_apart : (t : ℕ) (def : Code) (c : Context) → AreApart c → AreApart (with_definition t def c)
definition_apart t = on_enumeration (λ def. (c : Context) → AreApart c → AreApart (with_definition t def c))
    (λ literals c are.
    literals_apart t 0 literals c are)
    (λ def other c are. rw (definition_end t def c other) (are))

indication_apart : (d : ℕ) (i : Code) (c : Context) → AreApart c → AreApart (with_indication d i c)
indication_apart d = on_access (λ i. (c : Context) → AreApart c → AreApart (with_indication d i c))
    (λ p constant m c are.
    put d (own_info (shape.Access (marked c.known m) constant false) d) c tt are)
    (λ i other c are. rw (indication_end d i c other) (are))

each_apart : (f : Code → Context → Context) → ((a : Code) (c : Context) → AreApart c → AreApart (f a c)) → (ids : Code) (c : Context)
    → AreApart c → AreApart (each f ids c)
each_apart f one = on_more (λ ids. (c : Context) → AreApart c → AreApart (each f ids c))
    (λ a rest next c are.
    next (f a c) (one a c are))
    (λ ids other c are. rw (each_end f ids c other) (are))

group_apart : (group : Code) (c : Context) → AreApart c → AreApart (with_formal_group group c)
group_apart = on_group (λ group. (c : Context) → AreApart c → AreApart (with_formal_group group c))
    (λ names m of c are.
    each_apart (with_formal of) (λ d c are. indication_apart (declared_number d) of c are) names c are)
    (λ group other c are. rw (group_end group c other) (are))

result_apart : (d : ℕ) (result : Code) (c : Context) → AreApart c → AreApart (with_result d result c)
result_apart d = on_more (λ result. (c : Context) → AreApart c → AreApart (with_result d result c))
    (λ i rest _ c are.
    indication_apart d i c are)
    (λ result other c are. rw (result_end d result c other) (are))

front_apart : (front : Code) (c : Context) → AreApart c → AreApart (with_front front c)
front_apart = on_front (λ front. (c : Context) → AreApart c → AreApart (with_front front c))
    (λ d formals result c are.
    each_apart with_formal_group group_apart formals (with_result (declared_number d) result c) (result_apart (declared_number d) result c are))
    (λ front other c are. rw (front_end front c other) (are))

formals_apart : (front : Code) (c : Context) → AreApart c → AreApart (with_formals front c)
formals_apart = on_front (λ front. (c : Context) → AreApart c → AreApart (with_formals front c))
    (λ d formals result c are.
    each_apart with_formal_group group_apart formals c are)
    (λ front other c are. rw (formals_end front c other) (are))

body_apart : (front : Code) (c : Context) → AreApart c → AreApart (with_body_front front c)
body_apart front c are = by (is_subprogram (entry_of c.known (front_number front)))
  where
    by : (b : Bool) → AreApart (if b then with_formals front c else with_front front c)
    by true = formals_apart front c are
    by false = front_apart front c are

all_apart : (code : Code) (c : Context) → AreRecordsApart code → AreApart c → AreApart (gather code c)
unfolding gather AreRecordsApart
all_apart (Incomplete d) c apart are =
    put (declared_number d) (record (awaited_info c (declared_number d)) { completed = Some (declared_pos d) }) c (are (declared_number d)) are
all_apart (Private d) c apart are =
    put (declared_number d) (record (awaited_info c (declared_number d)) { seen_in = c.home }) c (are (declared_number d)) are
all_apart (TypeDecl d def end) c apart are =
    let n : ℕ = declared_number d in
    definition_apart n def (with_type n (full_info c n def end) c) (put n (full_info c n def end) c (defined_apart c def apart) are)
all_apart (Subtype d m) c apart are =
    put (declared_number d) (subtype_info c.known (marked c.known m) (shape.Same (meant_by (info c.known.table (marked c.known m)).shape (marked c.known m))) true) c tt are
all_apart (ConstrainedSubtype d m low high) c apart are =
    let t : ℕ = marked c.known m in
    let b = bound_pair c (base c.known.table t) low high in
    put (declared_number d) (subtype_info c.known t (constrained_shape (full c.known.table t) b) (not (is_asked c) || are_static_bounds c (base c.known.table t) low high)) c (bounds_apart (full c.known.table t) b) are
all_apart (Objects ids constant i v) c apart are =
    each_apart (with_object constant i (constant_value c constant v)) (λ d c are. indication_apart (declared_number d) i c are) ids c are
all_apart (Numbers ids e) c apart are = each_apart (with_number (initial_value c e)) (λ d c are. are) ids c are
all_apart (SubDecl front) c apart are = front_apart front c are
all_apart (SubBody front items stmts end) c apart are =
    let inner : Context = in_subprogram front (with_body_front front c) in
    all_apart stmts (gather items inner) apart.1 (all_apart items inner apart.0 (body_apart front c are))
all_apart (Package d visible hidden) c apart are =
    let n : ℕ = declared_number d in
    let start : Context = in_visible n (with_entry n entry.Package c) in
    all_apart hidden (in_hidden n (gather visible start)) apart.1 (all_apart visible start apart.0 are)
all_apart (PackageBody d parts) c apart are = all_apart parts (in_hidden (declared_number d) c) apart are
all_apart (If at x y) c apart are = all_apart y (gather x c) apart.1 (all_apart x c apart.0 are)
all_apart (Branch at e x) c apart are = all_apart x c apart are
all_apart (Case at e x) c apart are = all_apart x c apart are
all_apart (When choices x) c apart are = all_apart x c apart are
all_apart (Loop at x) c apart are = all_apart x c apart are
all_apart (While at e x) c apart are = all_apart x c apart are
all_apart (For at d reversed range x) c apart are =
    all_apart x (with_entry (declared_number d) (entry.Object (plain_object (parameter_type c range) kind.Parameter)) c) apart are
all_apart (Block at x y end) c apart are = all_apart y (gather x c) apart.1 (all_apart x c apart.0 are)
all_apart (More x y) c apart are = all_apart y (gather x c) apart.1 (all_apart x c apart.0 are)
all_apart code c apart are = are

units_apart : (units : List Code) (c : Context) → ((u : Code) → Has units u → AreRecordsApart u) → AreApart c → AreApart (gather_units units c)
units_apart [] c apart are = are
units_apart (u ∷ rest) c apart are = units_apart rest (gather u c) (λ v has. apart v (inr has)) (all_apart u c (apart u (inl refl)) are)

none_apart : (n t : ℕ) → IsShapeApart (info (replicate n no_type) t).shape
none_apart zero t = tt
none_apart (suc n) zero = tt
none_apart (suc n) (suc t) = none_apart n t

first_apart : (n t : ℕ) → IsShapeApart (info (predefined_types false ++ replicate n no_type) t).shape
first_apart n zero = tt
first_apart n (suc zero) = tt
first_apart n (suc (suc zero)) = tt
first_apart n (suc (suc (suc zero))) = tt
first_apart n (suc (suc (suc (suc zero)))) = tt
first_apart n (suc (suc (suc (suc (suc t))))) = none_apart n t

both_turns : (p : Program) → ((u : Code) → Has p.units u → AreRecordsApart u) → (t : ℕ) → IsShapeApart (info (known_of p).table t).shape
unfolding known_of
both_turns p apart =
    let first : Known = known_from p (at_first false p.count).table in
    units_apart p.units (outside (record (at_first false p.count) { table = first.table })) apart
    (units_apart p.units (outside (record (at_first false p.count) { table = (at_first false p.count).table })) apart (first_apart (p.count - 5)))

-- What typed expressions ask of components, where records have components with names of their own.
pub components_left : (p : Program) → ((u : Code) → Has p.units u → AreRecordsApart u) → Left (known_of p)
components_left p apart = record {
  names = λ t k v less same. found (fields (known_of p).table t) k v (of_shape (shape_of (known_of p).table t) (of_row (slice_get (known_of p).table (meant_type (known_of p).table t)) (both_turns p apart (meant_type (known_of p).table t)))) less same;
}
  where
    of_row : (o : Option Info) → IsShapeApart (info_found o).shape → IsShapeApart (shape_found o)
    of_row None apart = tt
    of_row (Some i) apart = apart

    of_shape : (s : Shape) → IsShapeApart s → AreWordsApart (map (λ (c : Component). c.name) (components_of s))
    of_shape (shape.Fields cs) apart = apart
    of_shape (shape.Whole a b) apart = tt
    of_shape (shape.Listed l a b) apart = tt
    of_shape (shape.Access d constant named) apart = tt
    of_shape (shape.Elements a b of) apart = tt
    of_shape (shape.Same of) apart = tt
