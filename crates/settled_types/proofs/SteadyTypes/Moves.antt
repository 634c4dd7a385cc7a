-- What gathering makes of entries is of the same classes in both turns.
use Rattle.std.proofs.Common.{◌≡◌, ℕ, zero, suc, ◌+◌, Bool, true, false, List, [], ◌∷◌, ◌++◌, set, get_or, refl, sym, ap, ◌∙◌, Option, Some, None, pos}
use Rattle.machine.specs.resolved_tree.declared.node.Mark.{Mark}
use Rattle.machine.specs.resolved_tree.Trees.{More, Code, Enumeration, Record, Components, Array, Access}
use Rattle.machine.specs.type_definitions.declared.table.Info.{Info}
use Rattle.machine.specs.type_definitions.declared.table.InitialValue.{InitialValue}
use Rattle.machine.specs.type_definitions.declared.table.Shape.TheVariants as shape
use Rattle.machine.specs.type_definitions.declared.table.Kind.TheVariants as kind
use Rattle.machine.specs.type_definitions.declared.table.Entry.{Entry}
use Rattle.machine.specs.type_definitions.declared.table.Entry.TheVariants as entry
use Rattle.machine.specs.type_definitions.Types.{untyped}
use Rattle.machine.specs.type_definitions.Entries.{entry_of, type_of_entry, type_of_mark, marked}
use Rattle.machine.specs.type_definitions.Names.{Context}
use Rattle.machine.specs.type_definitions.Gathered.{each, declared_number, own_info, indicated, with_entry, with_info, with_indication, with_literals, with_definition, with_object, object_info, with_number, number_info, plain_object, with_formal, is_subprogram, component_group, component_groups, component_list, defined}
use Rattle.settled_types.proofs.Cases.{definition_end, each_end, indication_end, on_access, on_enumeration, on_more}
use Rattle.settled_types.specs.SteadyTypes.Alike.{outline}

-- ---- classes of entries

abbrev class : Entry → ℕ
class entry.Type = 0
class (entry.Subprogram p) = 1
class _ = 2

abbrev AreClasses : List Entry → List Entry → Type 0
AreClasses [] [] = Unit {0}
AreClasses (x ∷ xs) (y ∷ ys) = (class x ≡ class y) × AreClasses xs ys
AreClasses xs ys = ⊥

pub classes_same : (xs : List Entry) → AreClasses xs xs
classes_same [] = tt
classes_same (x ∷ xs) = (refl, classes_same xs)

classes_set : (xs ys : List Entry) (d : ℕ) (x y : Entry) → class x ≡ class y → AreClasses xs ys → AreClasses (set xs d x) (set ys d y)
classes_set [] [] d x y same are = tt
classes_set [] (b ∷ ys) d x y same are = absurd are
classes_set (a ∷ xs) [] d x y same are = absurd are
classes_set (a ∷ xs) (b ∷ ys) zero x y same are = (same, are.1)
classes_set (a ∷ xs) (b ∷ ys) (suc d) x y same are = (are.0, classes_set xs ys d x y same are.1)

classes_at : (xs ys : List Entry) (d : ℕ) → AreClasses xs ys → class (get_or xs d entry.Nothing) ≡ class (get_or ys d entry.Nothing)
classes_at [] [] d are = refl
classes_at [] (b ∷ ys) d are = absurd are
classes_at (a ∷ xs) [] d are = absurd are
classes_at (a ∷ xs) (b ∷ ys) zero are = are.0
classes_at (a ∷ xs) (b ∷ ys) (suc d) are = classes_at xs ys d are.1

-- ---- two turns side by side

pub record Like (one two : Context) : Type 0 where
  pub home : one.home ≡ two.home
  pub entries : AreClasses one.known.entries two.known.entries

-- What both turns go on to is alike again, and the second one is within the same package.
pub record Moves (one two more_one more_two : Context) : Type 0 where
  pub like : Like one two → Like more_one more_two
  pub within : more_two.within ≡ two.within

pub stay : (one two : Context) → Moves one two one two
stay one two = record { like = λ l. l; within = refl }

and_then : (a b c d e f : Context) → Moves a b c d → Moves c d e f → Moves a b e f
and_then a b c d e f first second = record { like = λ l. second.like (first.like l); within = second.within ∙ first.within }

pub put : (d : ℕ) (x y : Entry) (one two : Context) → class x ≡ class y → Moves one two (with_entry d x one) (with_entry d y two)
put d x y one two same = record {
  like = λ l. record { home = l.home; entries = classes_set one.known.entries two.known.entries d x y same l.entries };
  within = refl;
}

row : (d : ℕ) (i j : Info) (one two : Context) → Moves one two (with_info d i one) (with_info d j two)
row d i j one two = record { like = λ l. record { home = l.home; entries = l.entries }; within = refl }

pub type_put : (d : ℕ) (i j : Info) (one two : Context) → Moves one two (with_entry d entry.Type (with_info d i one)) (with_entry d entry.Type (with_info d j two))
type_put d i j one two =
    and_then one two (with_info d i one) (with_info d j two) (with_entry d entry.Type (with_info d i one)) (with_entry d entry.Type (with_info d j two))
    (row d i j one two) (put d entry.Type entry.Type (with_info d i one) (with_info d j two) refl)

moves_each : (f g : Code → Context → Context) → ((a : Code) (one two : Context) → Moves one two (f a one) (g a two)) → (ids : Code) (one two : Context)
    → Moves one two (each f ids one) (each g ids two)
moves_each f g moves = on_more (λ ids. (one : Context) → (two : Context) → Moves one two (each f ids one) (each g ids two))
    (λ a rest next one two.
    and_then one two (f a one) (g a two) (each f rest (f a one)) (each g rest (g a two)) (moves a one two) (next (f a one) (g a two)))
    (λ ids other one two. rw (each_end f ids one other) rw (each_end g ids two other) (stay one two))

literals_move : (t n : ℕ) (ids : Code) (one two : Context) → Moves one two (with_literals t n ids one) (with_literals t n ids two)
literals_move t n (More d rest) one two =
    let x : Entry = entry.Literal t n in
    let m : ℕ = declared_number d in
    and_then one two (with_entry m x one) (with_entry m x two) (with_literals t (n + 1) rest (with_entry m x one)) (with_literals t (n + 1) rest (with_entry m x two))
    (put m x x one two refl) (literals_move t (n + 1) rest (with_entry m x one) (with_entry m x two))
literals_move t n ids one two = stay one two

pub definition_moves : (t : ℕ) (def : Code) (one two more_one more_two : Context) → Moves one two more_one more_two
    → Moves one two (with_definition t def more_one) (with_definition t def more_two)
definition_moves t = on_enumeration (λ def. (one : Context) → (two : Context) → (more_one : Context) → (more_two : Context) → Moves one two more_one more_two → Moves one two (with_definition t def more_one) (with_definition t def more_two))
    (λ literals one two more_one more_two moves.
    and_then one two more_one more_two (with_literals t 0 literals more_one) (with_literals t 0 literals more_two) moves (literals_move t 0 literals more_one more_two))
    (λ def other one two more_one more_two moves. rw (definition_end t def more_one other) rw (definition_end t def more_two other) (moves))

pub indication_moves : (d : ℕ) (i : Code) (one two : Context) → Moves one two (with_indication d i one) (with_indication d i two)
indication_moves d = on_access (λ i. (one : Context) → (two : Context) → Moves one two (with_indication d i one) (with_indication d i two))
    (λ p constant m one two.
    row d (own_info (shape.Access (marked one.known m) constant false) d) (own_info (shape.Access (marked two.known m) constant false) d) one two)
    (λ i other one two. rw (indication_end d i one other) rw (indication_end d i two other) (stay one two))

pub object_moves : (constant : Bool) (i : Code) (v w : InitialValue) (d : Code) (one two : Context) → Moves one two (with_object constant i v d one) (with_object constant i w d two)
object_moves constant i v w d one two =
    let n : ℕ = declared_number d in
    and_then one two (with_indication n i one) (with_indication n i two) (with_object constant i v d one) (with_object constant i w d two)
    (indication_moves n i one two)
    (put n (entry.Object (object_info one constant (indicated one.known n i) v)) (entry.Object (object_info two constant (indicated two.known n i) w))
    (with_indication n i one) (with_indication n i two) refl)

pub numbers_move : (v w : InitialValue) (ids : Code) (one two : Context) → Moves one two (each (with_number v) ids one) (each (with_number w) ids two)
numbers_move v w ids one two =
    moves_each (with_number v) (with_number w)
    (λ d a b. put (declared_number d) (entry.Object (number_info a v)) (entry.Object (number_info b w)) a b refl) ids one two

pub formal_moves : (of d : Code) (one two : Context) → Moves one two (with_formal of d one) (with_formal of d two)
formal_moves of d one two =
    let n : ℕ = declared_number d in
    and_then one two (with_indication n of one) (with_indication n of two) (with_formal of d one) (with_formal of d two) (indication_moves n of one two)
    (put n (entry.Object (plain_object (indicated one.known n of) kind.Formal)) (entry.Object (plain_object (indicated two.known n of) kind.Formal))
    (with_indication n of one) (with_indication n of two) refl)

abbrev as_subprogram : ℕ → Bool
as_subprogram zero = false
as_subprogram (suc zero) = true
as_subprogram (suc (suc n)) = false

subprogram_class : (x : Entry) → is_subprogram x ≡ as_subprogram (class x)
subprogram_class entry.Type = refl
subprogram_class (entry.Subprogram p) = refl
subprogram_class _ = refl

-- A subprogram is known in both turns, or in none.
pub subprogram_same : (n : ℕ) (one two : Context) → Like one two → is_subprogram (entry_of one.known n) ≡ is_subprogram (entry_of two.known n)
subprogram_same n one two like =
    subprogram_class (entry_of one.known n) ∙ (ap as_subprogram (classes_at one.known.entries two.known.entries n like.entries) ∙ sym (subprogram_class (entry_of two.known n)))

-- ---- marks

abbrev as_type : ℕ → ℕ → ℕ
as_type d zero = d
as_type d (suc n) = untyped

type_class : (d : ℕ) (x : Entry) → type_of_entry d x ≡ as_type d (class x)
type_class d entry.Type = refl
type_class d (entry.Subprogram p) = refl
type_class d _ = refl

pub mark_same : (one two : Context) (m : Mark) → Like one two → marked one.known m ≡ marked two.known m
mark_same one two m like = by m.decl
  where
    by : (o : Option ℕ) → type_of_mark one.known o ≡ type_of_mark two.known o
    by None = refl
    by (Some d) =
        type_class d (entry_of one.known d) ∙ (ap (as_type d) (classes_at one.known.entries two.known.entries d like.entries) ∙ sym (type_class d (entry_of two.known d)))

group_same : (one two : Context) (group : Code) → Like one two → component_groups one.known group ≡ component_groups two.known group
group_same one two (Components names m) like = ap (λ t. component_group t names) (mark_same one two m like)
group_same one two group like = refl

list_same : (one two : Context) (groups : Code) → Like one two → component_list one.known groups ≡ component_list two.known groups
list_same one two (More group rest) like =
    ap (λ xs. xs ++ component_list one.known rest) (group_same one two group like) ∙ ap (λ xs. component_groups two.known group ++ xs) (list_same one two rest like)
list_same one two groups like = refl

pub defined_same : (one two : Context) (def : Code) → Like one two → outline (defined one def) ≡ outline (defined two def)
defined_same one two (Enumeration literals) like = refl
defined_same one two (Record components) like = ap shape.Fields (list_same one two components like)
defined_same one two (Array range m) like = ap (shape.Elements (pos 0) (pos 0)) (mark_same one two m like)
defined_same one two (Access m) like = ap (λ t. shape.Access t false true) (mark_same one two m like)
defined_same one two def like = refl
