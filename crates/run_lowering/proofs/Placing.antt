-- Values by the sort of the type that takes them.
use Rattle.std.proofs.Common.{◌≡◌, refl, sym, subst, ℕ, Bool, true, false, List, Some, None, if◌then◌else◌, pos, IsTrue}
use Rattle.type_definitions.specs.declared.table.Shape.{Shape}
use Rattle.type_definitions.specs.declared.table.Shape.TheVariants as shape
use Rattle.run_values.specs.declared.value.Kind.TheVariants as kind
use Rattle.type_definitions.specs.Types.{Table, shape_of, words}
use Rattle.machine.specs.Evaluate.{Use}
use Rattle.machine.specs.Typed.{Sort, Whole, Position, Pointer}
use Rattle.run_codes.specs.Codes.{Fill, Checked, Pointer as LookedAt, MovedPointer, Copied, Moved, Waited, Waiting}
use Rattle.run_codes.specs.Flat.{kind_of}
use Rattle.code_rows.specs.declared.node.Node.{Node}
use Rattle.code_rows.specs.declared.fill.Fill.{Fill as Row}
use Rattle.code_rows.specs.Rows.{Grew}
use Rattle.code_rows.specs.Values.{are_within, AllGrew}
use Rattle.code_rows.proofs.Filled.{fills_on, nodes_grew}
use Rattle.run_lowering.proofs.Shapes.{some_same}
use Rattle.run_codes.specs.Lowered.{Site, Placed, scalar, same_scalar, sort_of, is_taken, is_access, one_type, load, place_value, is_nth, waited_value, words_before_value}

-- A value that is made of a node that was added.
pub added : (a b : List Node) (f g : List Row) → Grew a b → IsTrue (are_within a f) → AllGrew b f b g → AllGrew a f b g
added a b f g grew all more = fills_on a f b f b g (nodes_grew a b f grew all) more

pub added_before : (a b c : List Node) (f g : List Row) → Grew a b → IsTrue (are_within a f) → AllGrew b f c g → AllGrew a f c g
added_before a b c f g grew all more = fills_on a f b f c g (nodes_grew a b f grew all) more

-- ---- at places

module _ (table : Table) (u : Use) (want : ℕ) (p : Placed) where
  pointer_by : (d : ℕ) (sh : Shape) → shape_of table want ≡ sh → sort_of sh ≡ Some (Pointer d)
      → one_type table p.of want ≡ true → is_taken table u p.of ≡ false → place_value table u want p ≡ Some (LookedAt (load kind.Access p.place))
  pointer_by d (shape.Access e constant named) is of one kept = rw one (rw is (rw kept refl))
  pointer_by d sh is of one kept = cc

  moved_by : (d : ℕ) (sh : Shape) → shape_of table want ≡ sh → sort_of sh ≡ Some (Pointer d)
      → one_type table p.of want ≡ true → is_taken table u p.of ≡ true → is_access (shape_of table p.of) ≡ true
      → place_value table u want p ≡ Some (MovedPointer p.place)
  moved_by d (shape.Access e constant named) is of one kept access = rw one (rw is (rw kept (rw access refl)))
  moved_by d sh is of one kept access = cc

  scalar_by : (st : Sort) (v : Fill) (sh : Shape) → shape_of table want ≡ sh → sort_of sh ≡ Some st
      → one_type table p.of want ≡ true → is_taken table u p.of ≡ false
      → scalar table want (record { code = load (kind_of st) p.place; sort = st }) ≡ Some v → place_value table u want p ≡ Some v
  scalar_by st v (shape.Whole low high) is of one kept h =
      let at = rw is at h in
      rw one (rw is (rw kept
      (subst (λ s. (if same_scalar Whole s then Some (Checked (load (kind_of s) p.place) low high) else None) ≡ Some v) (sym (some_same Whole st of)) at)))
  scalar_by st v (shape.Listed literals low high) is of one kept h =
      let at = rw is at h in
      rw one (rw is (rw kept
      (subst (λ s. (if same_scalar Position s then Some (Checked (load (kind_of s) p.place) (pos low) (pos high)) else None) ≡ Some v)
      (sym (some_same Position st of)) at)))
  scalar_by st v (shape.Access e constant named) is of one kept h = let at = rw is at h in cc
  scalar_by st v sh is of one kept h = cc

  several_by : (sh : Shape) → shape_of table want ≡ sh → sort_of sh ≡ None → one_type table p.of want ≡ true → (t : Bool) → is_taken table u p.of ≡ t
      → place_value table u want p ≡ Some (if t then Moved p.place p.of else Copied p.place p.of)
  several_by (shape.Fields components) is of one true kept = rw one (rw is (rw kept refl))
  several_by (shape.Fields components) is of one false kept = rw one (rw is (rw kept refl))
  several_by (shape.Elements low high element) is of one true kept = rw one (rw is (rw kept refl))
  several_by (shape.Elements low high element) is of one false kept = rw one (rw is (rw kept refl))
  several_by (shape.Same t) is of one true kept = rw one (rw is (rw kept refl))
  several_by (shape.Same t) is of one false kept = rw one (rw is (rw kept refl))
  several_by sh is of one t kept = cc

pub value_pointer : (table : Table) (u : Use) (want d : ℕ) (p : Placed) → sort_of (shape_of table want) ≡ Some (Pointer d)
    → one_type table p.of want ≡ true → is_taken table u p.of ≡ false → place_value table u want p ≡ Some (LookedAt (load kind.Access p.place))
value_pointer table u want d p of one kept = pointer_by table u want p d (shape_of table want) refl of one kept

pub value_moved : (table : Table) (u : Use) (want d : ℕ) (p : Placed) → sort_of (shape_of table want) ≡ Some (Pointer d)
    → one_type table p.of want ≡ true → is_taken table u p.of ≡ true → is_access (shape_of table p.of) ≡ true
    → place_value table u want p ≡ Some (MovedPointer p.place)
value_moved table u want d p of one kept access = moved_by table u want p d (shape_of table want) refl of one kept access

pub value_scalar : (table : Table) (u : Use) (want : ℕ) (p : Placed) (st : Sort) (v : Fill) → sort_of (shape_of table want) ≡ Some st
    → one_type table p.of want ≡ true → is_taken table u p.of ≡ false
    → scalar table want (record { code = load (kind_of st) p.place; sort = st }) ≡ Some v → place_value table u want p ≡ Some v
value_scalar table u want p st v of one kept h = scalar_by table u want p st v (shape_of table want) refl of one kept h

pub value_several : (table : Table) (u : Use) (want : ℕ) (p : Placed) (t : Bool) → sort_of (shape_of table want) ≡ None
    → one_type table p.of want ≡ true → is_taken table u p.of ≡ t
    → place_value table u want p ≡ Some (if t then Moved p.place p.of else Copied p.place p.of)
value_several table u want p t of one kept = several_by table u want p (shape_of table want) refl of one t kept

-- ---- values that wait

module _ (c : Site) (k want t : ℕ) where
  waited_pointer_by : (d : ℕ) (sh : Shape) → shape_of c.typing.table want ≡ sh → sort_of sh ≡ Some (Pointer d)
      → is_nth c k t ≡ true → one_type c.typing.table t want ≡ true
      → waited_value c k want t ≡ Some (LookedAt (Waiting (words_before_value c k)))
  waited_pointer_by d (shape.Access e constant named) is of nth one = rw nth (rw one (rw is refl))
  waited_pointer_by d sh is of nth one = cc

  waited_scalar_by : (st : Sort) (v : Fill) (sh : Shape) → shape_of c.typing.table want ≡ sh → sort_of sh ≡ Some st
      → is_nth c k t ≡ true → one_type c.typing.table t want ≡ true
      → scalar c.typing.table want (record { code = Waiting (words_before_value c k); sort = st }) ≡ Some v → waited_value c k want t ≡ Some v
  waited_scalar_by st v (shape.Whole low high) is of nth one h =
      let at = rw is at h in
      rw nth (rw one (rw is
      (subst (λ s. (if same_scalar Whole s then Some (Checked (Waiting (words_before_value c k)) low high) else None) ≡ Some v)
      (sym (some_same Whole st of)) at)))
  waited_scalar_by st v (shape.Listed literals low high) is of nth one h =
      let at = rw is at h in
      rw nth (rw one (rw is
      (subst (λ s. (if same_scalar Position s then Some (Checked (Waiting (words_before_value c k)) (pos low) (pos high)) else None) ≡ Some v)
      (sym (some_same Position st of)) at)))
  waited_scalar_by st v (shape.Access e constant named) is of nth one h = let at = rw is at h in cc
  waited_scalar_by st v sh is of nth one h = cc

  waited_several_by : (sh : Shape) → shape_of c.typing.table want ≡ sh → sort_of sh ≡ None → is_nth c k t ≡ true → one_type c.typing.table t want ≡ true
      → waited_value c k want t ≡ Some (Waited (words_before_value c k) (words c.typing.table t))
  waited_several_by (shape.Fields components) is of nth one = rw nth (rw one (rw is refl))
  waited_several_by (shape.Elements low high element) is of nth one = rw nth (rw one (rw is refl))
  waited_several_by (shape.Same u) is of nth one = rw nth (rw one (rw is refl))
  waited_several_by sh is of nth one = cc

pub waited_pointer : (c : Site) (k want t d : ℕ) → sort_of (shape_of c.typing.table want) ≡ Some (Pointer d)
    → is_nth c k t ≡ true → one_type c.typing.table t want ≡ true
    → waited_value c k want t ≡ Some (LookedAt (Waiting (words_before_value c k)))
waited_pointer c k want t d of nth one = waited_pointer_by c k want t d (shape_of c.typing.table want) refl of nth one

pub waited_scalar : (c : Site) (k want t : ℕ) (st : Sort) (v : Fill) → sort_of (shape_of c.typing.table want) ≡ Some st
    → is_nth c k t ≡ true → one_type c.typing.table t want ≡ true
    → scalar c.typing.table want (record { code = Waiting (words_before_value c k); sort = st }) ≡ Some v → waited_value c k want t ≡ Some v
waited_scalar c k want t st v of nth one h = waited_scalar_by c k want t st v (shape_of c.typing.table want) refl of nth one h

pub waited_several : (c : Site) (k want t : ℕ) → sort_of (shape_of c.typing.table want) ≡ None → is_nth c k t ≡ true → one_type c.typing.table t want ≡ true
    → waited_value c k want t ≡ Some (Waited (words_before_value c k) (words c.typing.table t))
waited_several c k want t of nth one = waited_several_by c k want t (shape_of c.typing.table want) refl of nth one
