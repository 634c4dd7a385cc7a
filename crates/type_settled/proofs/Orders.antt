-- One more type is measured.
use Rattle.std.proofs.Common.{◌≡◌, ◌⊎◌, inl, inr, ℕ, zero, suc, ◌+◌, ◌<◌, ◌≤◌, Bool, true, false, ◌&&◌, ◌||◌, List, [], ◌∷◌, refl, sym, ap, ◌∙◌, arith, length, get_or, set, replicate, IsTrue, Option, Some, None, length-set}
use Rattle.std.proofs.lemmas.Grind.{common_steps}
use Rattle.std.proofs.lemmas.Bool.{cases_eq, cases_lt}
use Rattle.std.proofs.lemmas.List.{length-replicate, get_or-replicate, get_or-set_same, get_or-set_other, get_or_past}
use Rattle.std.proofs.lemmas.Option.{slice_get-get_or}
use Rattle.type_definitions.specs.declared.table.Component.{Component}
use Rattle.type_definitions.specs.declared.table.Shape.{Shape}
use Rattle.type_definitions.specs.declared.table.Shape.TheVariants as shape
use Rattle.type_definitions.specs.declared.table.Info.{Info}
use Rattle.type_definitions.specs.Types.{Table, info, info_found, span}
use Rattle.type_settled.specs.declared.measure.Measure.{Measure}
use Rattle.type_settled.specs.declared.order.Order.{Order}
use Rattle.type_settled.specs.Measures.{nothing, measured, joined, component_of, elements_of, fields_of, shape_measure, parent_unsound, info_measure, part_of, IsMeasured}
use Rattle.type_settled.specs.Orders.{all_ready, shape_ready, parent_ready, is_ready, is_done, IsOrdered}
use Rattle.type_settled.proofs.Measured.{measured_step, measured_past}

and_first : (a b : Bool) → IsTrue (a && b) → IsTrue a
and_first a b p = grind arith

and_second : (a b : Bool) → IsTrue (a && b) → IsTrue b
and_second a b p = grind arith

-- A part, with its measure.
abbrev part_with : (ℕ → Bool) → ℕ → Measure → Measure
part_with is u m = record { words = m.words; parts = m.parts; reach = m.reach; unsound = is u || m.unsound }

-- What is measured by the same measures of the parts is the same.
module _ (f g : ℕ → Measure) (done : ℕ → Bool) (same : (t : ℕ) → IsTrue (done t) → f t ≡ g t) where
  fields_same : (all : Measure) (cs : List Component) → IsTrue (all_ready done cs) → fields_of f all cs ≡ fields_of g all cs
  fields_same all [] ready = refl
  fields_same all (c ∷ rest) ready =
      ap (λ m. fields_of f (joined all (component_of m)) rest) (same c.of (and_first (done c.of) (all_ready done rest) ready))
      ∙ fields_same (joined all (component_of (g c.of))) rest (and_second (done c.of) (all_ready done rest) ready)

  shape_same : (s : Shape) → IsTrue (shape_ready done s) → shape_measure f s ≡ shape_measure g s
  shape_same (shape.Whole low high) ready = refl
  shape_same (shape.Listed literals low high) ready = refl
  shape_same (shape.Access t constant named) ready = refl
  shape_same (shape.Fields cs) ready = fields_same nothing cs ready
  shape_same (shape.Elements low high t) ready = ap (elements_of (span low high)) (same t ready)
  shape_same (shape.Same t) ready = same t ready

  parent_same : (p : Option ℕ) → IsTrue (parent_ready done p) → parent_unsound f p ≡ parent_unsound g p
  parent_same None ready = refl
  parent_same (Some t) ready = ap (λ m. m.unsound) (same t ready)

  info_same : (i : Info) → IsTrue (is_ready done i) → info_measure f i ≡ info_measure g i
  info_same i ready =
      let s : shape_measure f i.shape ≡ shape_measure g i.shape =
      shape_same i.shape (and_first (shape_ready done i.shape) (parent_ready done i.parent) ready) in
      let p : parent_unsound f i.parent ≡ parent_unsound g i.parent =
      parent_same i.parent (and_second (shape_ready done i.shape) (parent_ready done i.parent) ready) in
      λ j. record { words = (s j).words; parts = (s j).parts; reach = (s j).reach; unsound = (s j).unsound || p j }

-- ---- no type is done

first_right : (is : ℕ → Bool) (table : Table) (t n : ℕ) → (t < length table) ⊎ (length table ≤ t)
    → IsTrue (get_or (replicate (length table) false) t true) → get_or (replicate (length table) nothing) t nothing ≡ measured is n table t
first_right is table t n (inl within) done =
    let e : false ≡ true = sym (get_or-replicate (length table) t false true within) ∙ done in absurd (cc e)
first_right is table t n (inr past) done =
    get_or_past (replicate (length table) nothing) t nothing (grind (arith, common_steps, past))
    ∙ sym (measured_past is n table t past)

pub ordered_first : (is : ℕ → Bool) (table : Table) (order : Order) → order.values.items ≡ replicate (length table) nothing
    → order.done.items ≡ replicate (length table) false → order.depth ≡ 0 → IsOrdered is table order
ordered_first is table order values done depth = record {
  values_length = rw values (length-replicate (length table) nothing);
  done_length = rw done (length-replicate (length table) false);
  within = omega (arith, depth);
  right = λ t n le is_done.
      ap (λ ms. get_or ms t nothing) values
      ∙ first_right is table t n (cases_lt t (length table)) (ap (λ ds. get_or ds t true) (sym done) ∙ is_done);
}

-- ---- one more type is done

-- One more than the depth is at least 1.
one_less : (d n : ℕ) → d + 1 ≤ n → (k : ℕ) × (n ≡ suc k) × (d ≤ k)
one_less d zero le = absurd (omega (arith, le))
one_less d (suc k) le = (k, refl, omega (arith, le))

module _ (is : ℕ → Bool) (table : Table) (order : Order) (t : ℕ) (ordered : IsOrdered is table order) (within : t < length table)
    (ready : IsTrue (is_ready (is_done order.done.items) (info table t))) where
  -- The measure that is put in.
  measure : Measure
  measure = info_measure (part_of is (λ u. get_or order.values.items u nothing)) (info table t)

  measure_right : (n : ℕ) → order.depth + 1 ≤ n → measure ≡ measured is n table t
  unfolding measure
  measure_right n le =
      let less = one_less order.depth n le in
      let k : ℕ = less.0 in
      info_same (part_of is (λ u. get_or order.values.items u nothing)) (part_of is (measured is k table)) (is_done order.done.items)
      (λ u done. ap (part_with is u) (ordered.right u k less.2 done)) (info table t) ready
      ∙ measured_step is k table t ∙ ap (λ n. measured is n table t) (sym less.1)

  next_right : (u n : ℕ) → order.depth + 1 ≤ n → (u ≡ t) ⊎ (u ≡ t → ⊥) → IsTrue (get_or (set order.done.items t true) u true)
      → get_or (set order.values.items t measure) u nothing ≡ measured is n table u
  next_right u n le (inl e) done =
      rw e (get_or-set_same order.values.items t measure nothing (omega (arith, within, ordered.values_length)) ∙ measure_right n le)
  next_right u n le (inr ne) done =
      get_or-set_other order.values.items t u measure nothing ne
      ∙ ordered.right u n (omega (arith, le)) (sym (get_or-set_other order.done.items t u true true ne) ∙ done)

pub ordered_step : (is : ℕ → Bool) (table : Table) (order after : Order) (t : ℕ) (i : Info) → IsOrdered is table order → t < length table
    → order.depth < length table → i ≡ get_or table t i → IsTrue (is_ready (is_done order.done.items) i)
    → after.values.items ≡ set order.values.items t (info_measure (part_of is (λ u. get_or order.values.items u nothing)) i)
    → after.done.items ≡ set order.done.items t true → after.depth ≡ order.depth + 1 → IsOrdered is table after
unfolding measure
ordered_step is table order after t i ordered within room at ready values done depth =
    let found : info table t ≡ i = ap info_found (slice_get-get_or table t i within) ∙ sym at in
    let ready : IsTrue (is_ready (is_done order.done.items) (info table t)) = rw found ready in
    let values : after.values.items
    ≡ set order.values.items t (info_measure (part_of is (λ u. get_or order.values.items u nothing)) (info table t)) =
    rw found values in
    record {
      values_length = rw values (length-set order.values.items t (measure is table order t ordered within ready) ∙ ordered.values_length);
      done_length = rw done (length-set order.done.items t true ∙ ordered.done_length);
      within = omega (arith, depth, room);
      right = λ u n le is_done.
          ap (λ ms. get_or ms u nothing) values
          ∙ next_right is table order t ordered within ready u n (omega (arith, le, depth)) (cases_eq u t)
          (ap (λ ds. get_or ds u true) (sym done) ∙ is_done);
    }

-- ---- all types are done

pub all_done : (done : List Bool) → ((k : ℕ) → k < length done → IsTrue (get_or done k true)) → (t : ℕ) → IsTrue (is_done done t)
all_done done each t = elim (cases_lt t (length done)) [ inl within ↦ each t within | inr past ↦ get_or_past done t true past ]

pub whole_measured : (is : ℕ → Bool) (table : Table) (order : Order) → IsOrdered is table order
    → ((t : ℕ) → IsTrue (is_done order.done.items t)) → IsMeasured is table order.values.items
whole_measured is table order ordered done t = ordered.right t (length table) ordered.within (done t)
