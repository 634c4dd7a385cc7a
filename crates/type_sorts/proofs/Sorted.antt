-- Where no type has itself in it, the sorts of each are those of its definition.
use Rattle.std.proofs.Common.{◌≡◌, ◌⊎◌, inl, inr, ℕ, zero, suc, ◌+◌, ◌<◌, ◌≤◌, Bool, true, false, ◌&&◌, List, [], ◌∷◌, ◌++◌, length, get_or, set, replicate, IsTrue, refl, sym, ap, ◌∙◌, arith, length-set}
use Rattle.std.specs.Prelude.{slice_get, flat_map}
use Rattle.std.proofs.lemmas.Bool.{cases_eq, cases_lt}
use Rattle.std.proofs.lemmas.List.{length-replicate, get_or-replicate, get_or-set_other}
use Rattle.std.proofs.lemmas.Option.{slice_get-get_or, slice_get_past}
use Rattle.type_definitions.specs.declared.table.Component.{Component}
use Rattle.type_definitions.specs.declared.table.Info.{Info}
use Rattle.type_definitions.specs.declared.table.Shape.{Shape}
use Rattle.type_definitions.specs.declared.table.Shape.TheVariants as shape
use Rattle.type_definitions.specs.Types.{Table, shape_found, span}
use Rattle.type_settled.specs.Orders.{all_ready, shape_ready, parent_ready, is_ready, is_done}
use Rattle.machine.specs.Typed.{Sort, repeated_sorts, sorts, sorts_of, sorts_within}
use Rattle.type_sorts.specs.Sorted.{AreSorted, LooksAt}

and_first : (a b : Bool) → IsTrue (a && b) → IsTrue a
and_first a b p = grind arith

and_second : (a b : Bool) → IsTrue (a && b) → IsTrue b
and_second a b p = grind arith

-- ---- definitions

module _ (f g : ℕ → List Sort) (done : ℕ → Bool) (same : (t : ℕ) → IsTrue (done t) → f t ≡ g t) where
  each_same : (cs : List Component) → IsTrue (all_ready done cs)
      → flat_map (λ (c : Component). f c.of) cs ≡ flat_map (λ (c : Component). g c.of) cs
  each_same [] all = refl
  each_same (c ∷ rest) all =
      ap (λ s. s ++ flat_map (λ (c : Component). f c.of) rest) (same c.of (and_first (done c.of) (all_ready done rest) all))
      ∙ ap (λ s. g c.of ++ s) (each_same rest (and_second (done c.of) (all_ready done rest) all))

  sorts_same : (s : Shape) → IsTrue (shape_ready done s) → sorts_of f s ≡ sorts_of g s
  sorts_same (shape.Whole a b) all = refl
  sorts_same (shape.Listed literals a b) all = refl
  sorts_same (shape.Access t constant named) all = refl
  sorts_same (shape.Fields cs) all = each_same cs all
  sorts_same (shape.Elements a b t) all = ap (repeated_sorts (span a b)) (same t all)
  sorts_same (shape.Same t) all = same t all

-- ---- no type is looked at

-- Beyond the table there is nothing.
sorts_past : (n k : ℕ) (table : Table) (t : ℕ) → length table ≤ t
    → sorts_within n table t ≡ sorts_of (sorts_within k table) (shape_found (slice_get table t))
unfolding sorts_within
sorts_past zero k table t past = ap (λ o. sorts_of (sorts_within k table) (shape_found o)) (sym (slice_get_past table t past))
sorts_past (suc n) k table t past =
    ap (λ o. sorts_of (sorts_within n table) (shape_found o)) (slice_get_past table t past)
    ∙ ap (λ o. sorts_of (sorts_within k table) (shape_found o)) (sym (slice_get_past table t past))

first_right : (table : Table) (t n k : ℕ) → (t < length table) ⊎ (length table ≤ t)
    → IsTrue (get_or (replicate (length table) false) t true)
    → sorts_within n table t ≡ sorts_of (sorts_within k table) (shape_found (slice_get table t))
first_right table t n k (inl within) done =
    let e : false ≡ true = sym (get_or-replicate (length table) t false true within) ∙ done in absurd (cc e)
first_right table t n k (inr past) done = sorts_past n k table t past

pub first_looks : (table : Table) (done : List Bool) (depth : ℕ) → done ≡ replicate (length table) false → depth ≡ 0
    → LooksAt table done depth
first_looks table done depth is none = record {
  done_length = rw is (length-replicate (length table) false);
  within = omega (arith, none);
  right = λ t n k le le_k is_done. first_right table t n k (cases_lt t (length table)) (ap (λ ds. get_or ds t true) (sym is) ∙ is_done);
}

-- ---- one more type is looked at

one_less : (d n : ℕ) → d + 1 ≤ n → (k : ℕ) × (n ≡ suc k) × (d ≤ k)
one_less d zero le = absurd (omega (arith, le))
one_less d (suc k) le = (k, refl, omega (arith, le))

found_shape : (table : Table) (t : ℕ) (i : Info) → t < length table → i ≡ get_or table t i → i.shape ≡ shape_found (slice_get table t)
found_shape table t i within at =
    ap (λ (i : Info). i.shape) at ∙ ap shape_found (sym (slice_get-get_or table t i within))

module _ (table : Table) (done : List Bool) (depth t : ℕ) (looks : LooksAt table done depth) where
  -- By what its parts have at two depths.
  made_right : (n k : ℕ) → depth ≤ n → depth ≤ k → IsTrue (shape_ready (is_done done) (shape_found (slice_get table t)))
      → sorts_within (suc n) table t ≡ sorts_of (sorts_within k table) (shape_found (slice_get table t))
  unfolding sorts_within
  made_right n k le le_k ready =
      sorts_same (sorts_within n table) (sorts_within k table) (is_done done)
      (λ u is. looks.right u n k le le_k is ∙ sym (looks.right u k k le_k le_k is)) (shape_found (slice_get table t)) ready

  next_right : (u n k : ℕ) → depth + 1 ≤ n → depth + 1 ≤ k → IsTrue (shape_ready (is_done done) (shape_found (slice_get table t)))
      → (u ≡ t) ⊎ (u ≡ t → ⊥) → IsTrue (is_done (set done t true) u)
      → sorts_within n table u ≡ sorts_of (sorts_within k table) (shape_found (slice_get table u))
  next_right u n k le le_k ready (inl e) is =
      let less = one_less depth n le in
      rw e (rw less.1 (made_right less.0 k less.2 (omega (arith, le_k)) ready))
  next_right u n k le le_k ready (inr ne) is =
      looks.right u n k (omega (arith, le)) (omega (arith, le_k)) (sym (get_or-set_other done t u true true ne) ∙ is)

pub next_looks : (table : Table) (done after : List Bool) (depth deeper t : ℕ) (i : Info) → LooksAt table done depth → t < length table
    → depth < length table → i ≡ get_or table t i → IsTrue (is_ready (is_done done) i) → after ≡ set done t true → deeper ≡ depth + 1
    → LooksAt table after deeper
next_looks table done after depth deeper t i looks lt room at ready is more =
    let shape_so : IsTrue (shape_ready (is_done done) i.shape) =
    and_first (shape_ready (is_done done) i.shape) (parent_ready (is_done done) i.parent) ready in
    let so : IsTrue (shape_ready (is_done done) (shape_found (slice_get table t))) =
    ap (shape_ready (is_done done)) (sym (found_shape table t i lt at)) ∙ shape_so in
    record {
      done_length = rw is (length-set done t true ∙ looks.done_length);
      within = omega (arith, more, room);
      right = λ u n k le le_k is_so.
          next_right table done depth t looks u n k (omega (arith, le, more)) (omega (arith, le_k, more)) so (cases_eq u t)
          (ap (λ ds. is_done ds u) (sym is) ∙ is_so);
    }

-- ---- all types are looked at

pub whole_sorted : (table : Table) (done : List Bool) (depth : ℕ) → LooksAt table done depth
    → ((t : ℕ) → IsTrue (is_done done t)) → AreSorted table
unfolding sorts
whole_sorted table done depth looks all = λ t. looks.right t (length table) (length table) looks.within looks.within (all t)
