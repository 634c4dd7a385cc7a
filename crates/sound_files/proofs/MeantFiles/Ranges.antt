-- The type of a lower bound that is read while a loop is gathered is the one that is read at last.
use Rattle.std.proofs.Common.{◌≡◌, ◌⊎◌, inl, inr, ℕ, ◌<◌, ◌≤◌, Bool, true, false, List, [], refl, sym, ap, ◌∙◌, arith, Option, Some, None, ℤ, pos, negsuc, nat_eq, if◌then◌else◌}
use Rattle.std.specs.Prelude.{slice_get}
use Rattle.machine.specs.resolved_tree.declared.operator.Attribute.{Attribute}
use Rattle.machine.specs.resolved_tree.declared.operator.Attribute.TheVariants as attribute
use Rattle.machine.specs.resolved_tree.Trees.{Tree, Named, Parens, Selected, All, Applied, Attr, More, Bounds}
use Rattle.machine.specs.type_definitions.declared.table.Component.{Component}
use Rattle.machine.specs.type_definitions.declared.table.Info.{Info}
use Rattle.machine.specs.type_definitions.declared.table.Known.{Known}
use Rattle.machine.specs.type_definitions.declared.table.ObjectInfo.{ObjectInfo}
use Rattle.machine.specs.type_definitions.declared.table.Predefined.{Predefined}
use Rattle.machine.specs.type_definitions.declared.table.Predefined.TheVariants as predefined
use Rattle.machine.specs.type_definitions.declared.table.Shape.{Shape}
use Rattle.machine.specs.type_definitions.declared.table.Shape.TheVariants as shape
use Rattle.machine.specs.type_definitions.declared.table.Entry.{Entry}
use Rattle.machine.specs.type_definitions.declared.table.Entry.TheVariants as entry
use Rattle.machine.specs.type_definitions.declared.judgement.Own.TheVariants as own
use Rattle.machine.specs.type_definitions.declared.judgement.View.{View}
use Rattle.machine.specs.type_definitions.declared.judgement.View.TheVariants as view
use Rattle.machine.specs.type_definitions.declared.judgement.Next.{Next}
use Rattle.machine.specs.type_definitions.declared.judgement.Next.TheVariants.{Goes, Gives, Stops}
use Rattle.machine.specs.type_definitions.declared.judgement.Reading.{Reading}
use Rattle.machine.specs.type_definitions.declared.judgement.Reading.TheVariants as reading
use Rattle.machine.specs.type_definitions.Types.{Table, untyped, is_untyped, base, base_found, meant_type, meant_type_found, same_as, components_of, shape_found, fields, view_of}
use Rattle.machine.specs.type_definitions.Entries.{entry_of}
use Rattle.machine.specs.type_definitions.Names.{Context, is_end, is_within, seen_info, seen, selected_component, is_index, indexed, dereferenced, array_value, array_attribute, through, reached, step, ended, led_on, along, is_call, reading_if, is_imaged, scalar_attribute, ended_at, type_attribute, of_type, of_function, of_predefined, of_entry, reading_of}
use Rattle.machine.specs.type_definitions.Expressions.{profile_of, result_type, own_type, own_of}
use Rattle.machine.specs.type_definitions.Statements.{type_or_integer}
use Rattle.machine.specs.type_definitions.Gathered.{parameter_type}
use Rattle.machine.specs.type_definitions.Whole.{predefined_types}
use Rattle.sound_files.specs.SeenFiles.Uses.{Uses}
use Rattle.settled_types.specs.SteadyTypes.Alike.{outline, Outline, outlined, AreAlike}

-- The rows of predefined types are there.
abbrev pub AreFirst : Table → Type 0
AreFirst table = (t : ℕ) → t < 5 → slice_get table t ≡ slice_get (predefined_types false) t

-- ---- views without their bounds

abbrev unbounded : View → View
unbounded (view.Whole low high) = view.Whole (pos 0) (pos 0)
unbounded (view.Listed low high) = view.Whole (pos 0) (pos 0)
unbounded (view.Elements low high of) = view.Elements (pos 0) (pos 0) of
unbounded (view.Access designated constant named) = view.Access designated constant named
unbounded view.Fields = view.Fields
unbounded view.Hidden = view.Hidden

outline_view : (s : Shape) → unbounded (view_of s) ≡ unbounded (view_of (outline s))
outline_view (shape.Whole low high) = refl
outline_view (shape.Listed literals low high) = refl
outline_view (shape.Elements low high of) = refl
outline_view (shape.Access designated constant named) = refl
outline_view (shape.Fields components) = refl
outline_view (shape.Same of) = refl

abbrev seen_outline : Option ℕ → Option Outline → View
seen_outline here None = view.Hidden
seen_outline here (Some x) = if is_within x.2 here then unbounded (view_of x.0) else view.Hidden

found_view : (here : Option ℕ) (o : Option Info) → unbounded (seen_info here o) ≡ seen_outline here (outlined o)
found_view here None = refl
found_view here (Some i) = by (is_within i.seen_in here)
  where
    by : (b : Bool) → unbounded (if b then view_of i.shape else view.Hidden) ≡ (if b then unbounded (view_of (outline i.shape)) else view.Hidden)
    by true = outline_view i.shape
    by false = refl

abbrev base_of : Option Outline → ℕ
base_of None = 0
base_of (Some x) = x.1

found_base : (o : Option Info) → base_found o ≡ base_of (outlined o)
found_base None = refl
found_base (Some i) = refl

abbrev meant_of : ℕ → Option Outline → ℕ
meant_of t None = t
meant_of t (Some x) = same_as t x.0

meant_outline : (t : ℕ) (s : Shape) → same_as t s ≡ same_as t (outline s)
meant_outline t (shape.Whole low high) = refl
meant_outline t (shape.Listed literals low high) = refl
meant_outline t (shape.Elements low high of) = refl
meant_outline t (shape.Access designated constant named) = refl
meant_outline t (shape.Fields components) = refl
meant_outline t (shape.Same of) = refl

found_meant : (t : ℕ) (o : Option Info) → meant_type_found t o ≡ meant_of t (outlined o)
found_meant t None = refl
found_meant t (Some i) = meant_outline t i.shape

abbrev components_in : Option Outline → List Component
components_in None = components_of (shape.Fields [])
components_in (Some x) = components_of x.0

components_outline : (s : Shape) → components_of s ≡ components_of (outline s)
components_outline (shape.Whole low high) = refl
components_outline (shape.Listed literals low high) = refl
components_outline (shape.Elements low high of) = refl
components_outline (shape.Access designated constant named) = refl
components_outline (shape.Fields components) = refl
components_outline (shape.Same of) = refl

found_components : (o : Option Info) → components_of (shape_found o) ≡ components_in (outlined o)
found_components None = refl
found_components (Some i) = components_outline i.shape

-- ---- steps without values

abbrev valueless : Next → Next
valueless (Goes t) = Goes t
valueless (Gives v) = Gives (pos 0)
valueless Stops = Stops

through_view : (v : View) (t : ℕ) → through v t ≡ through (unbounded v) t
through_view (view.Whole low high) t = refl
through_view (view.Listed low high) t = refl
through_view (view.Elements low high of) t = refl
through_view (view.Access designated constant named) t = refl
through_view view.Fields t = refl
through_view view.Hidden t = refl

selected_view : (w : List ℕ) (v : View) (cs : List Component) → selected_component w v cs ≡ selected_component w (unbounded v) cs
selected_view w (view.Whole low high) cs = refl
selected_view w (view.Listed low high) cs = refl
selected_view w (view.Elements low high of) cs = refl
selected_view w (view.Access designated constant named) cs = refl
selected_view w view.Fields cs = refl
selected_view w view.Hidden cs = refl

indexed_view : (b : Bool) (v : View) → indexed b v ≡ indexed b (unbounded v)
indexed_view true (view.Whole low high) = refl
indexed_view true (view.Listed low high) = refl
indexed_view true (view.Elements low high of) = refl
indexed_view true (view.Access designated constant named) = refl
indexed_view true view.Fields = refl
indexed_view true view.Hidden = refl
indexed_view false v = refl

dereferenced_view : (v : View) → dereferenced v ≡ dereferenced (unbounded v)
dereferenced_view (view.Whole low high) = refl
dereferenced_view (view.Listed low high) = refl
dereferenced_view (view.Elements low high of) = refl
dereferenced_view (view.Access designated constant named) = refl
dereferenced_view view.Fields = refl
dereferenced_view view.Hidden = refl

value_view : (a : Attribute) (low high : ℤ) → valueless (array_value a low high) ≡ valueless (array_value a (pos 0) (pos 0))
value_view attribute.First low high = refl
value_view attribute.Last low high = refl
value_view attribute.Length low high = refl
value_view attribute.Image low high = refl
value_view attribute.Range low high = refl
value_view attribute.Other low high = refl

attribute_view : (a : Attribute) (v : View) → valueless (array_attribute a v) ≡ valueless (array_attribute a (unbounded v))
attribute_view a (view.Whole low high) = refl
attribute_view a (view.Listed low high) = refl
attribute_view a (view.Elements low high of) = value_view a low high
attribute_view a (view.Access designated constant named) = refl
attribute_view a view.Fields = refl
attribute_view a view.Hidden = refl

abbrev reached_if : Bool → Next → Next
reached_if b next = if b then Goes untyped else next

valueless_reached : (b : Bool) (next : Next) → valueless (reached_if b next) ≡ reached_if b (valueless next)
valueless_reached true next = refl
valueless_reached false next = refl

-- ---- types of readings

ended_own : (known other : Known) (b : Bool) (v w : ℤ) → own_of known (ended b v) ≡ own_of other (ended b w)
ended_own known other true v w = refl
ended_own known other false v w = refl

value_own : (known other : Known) (b : Bool) (t : ℕ) (v w : ℤ) → own_of known (if b then reading.Value t v else reading.Off) ≡ own_of other (if b then reading.Value t w else reading.Off)
value_own known other true t v w = refl
value_own known other false t v w = refl

image_own : (known other : Known) (b : Bool) (t : ℕ) → own_of known (reading_if b (reading.Image t)) ≡ own_of other (reading_if b (reading.Image t))
image_own known other true t = refl
image_own known other false t = refl

end_own : (known other : Known) (b : Bool) → own_of known (reading_if b reading.EndOfFile) ≡ own_of other (reading_if b reading.EndOfFile)
end_own known other true = refl
end_own known other false = refl

scalar_own : (known other : Known) (t : ℕ) (a : Attribute) (v w x y : ℤ) (rest : Tree) → own_of known (scalar_attribute t a v w rest) ≡ own_of other (scalar_attribute t a x y rest)
scalar_own known other t attribute.First v w x y rest = value_own known other (is_end rest) t v x
scalar_own known other t attribute.Last v w x y rest = value_own known other (is_end rest) t w y
scalar_own known other t attribute.Image v w x y rest = image_own known other (is_imaged rest) t
scalar_own known other t attribute.Length v w x y rest = refl
scalar_own known other t attribute.Range v w x y rest = refl
scalar_own known other t attribute.Other v w x y rest = refl

at_end : (known other : Known) (x y : Next) (rest : Tree) → valueless x ≡ valueless y → own_of known (ended_at x rest) ≡ own_of other (ended_at y rest)
at_end known other (Gives v) (Gives w) rest same = ended_own known other (is_end rest) v w
at_end known other (Gives v) (Goes u) rest same = cc
at_end known other (Gives v) Stops rest same = cc
at_end known other (Goes t) (Gives w) rest same = cc
at_end known other (Goes t) (Goes u) rest same = refl
at_end known other (Goes t) Stops rest same = refl
at_end known other Stops (Gives w) rest same = cc
at_end known other Stops (Goes u) rest same = refl
at_end known other Stops Stops rest same = refl

type_own : (known other : Known) (t : ℕ) (a : Attribute) (v : View) (rest : Tree) → own_of known (type_attribute t a v rest) ≡ own_of other (type_attribute t a (unbounded v) rest)
type_own known other t a (view.Whole low high) rest = scalar_own known other t a low high (pos 0) (pos 0) rest
type_own known other t a (view.Listed low high) rest = scalar_own known other t a (pos low) (pos high) (pos 0) (pos 0) rest
type_own known other t a (view.Elements low high of) rest =
    at_end known other (array_attribute a (view.Elements low high of)) (array_attribute a (view.Elements (pos 0) (pos 0) of)) rest (value_view a low high)
type_own known other t a (view.Access designated constant named) rest = refl
type_own known other t a view.Fields rest = refl
type_own known other t a view.Hidden rest = refl

abbrev goes_to : Next → ℕ
goes_to (Goes n) = n
goes_to (Gives v) = 0
goes_to Stops = 0

led_own : (known other : Known) (f g : ℕ → Reading) (rest : Tree) (x y : Next) → valueless x ≡ valueless y → ((u : ℕ) → own_of known (f u) ≡ own_of other (g u))
    → own_of known (led_on f rest x) ≡ own_of other (led_on g rest y)
led_own known other f g rest (Goes t) (Goes u) same on = on t ∙ ap (λ n. own_of other (g n)) (ap goes_to same)
led_own known other f g rest (Goes t) (Gives w) same on = cc
led_own known other f g rest (Goes t) Stops same on = cc
led_own known other f g rest (Gives v) (Goes u) same on = cc
led_own known other f g rest (Gives v) (Gives w) same on = ended_own known other (is_end rest) v w
led_own known other f g rest (Gives v) Stops same on = cc
led_own known other f g rest Stops (Goes u) same on = cc
led_own known other f g rest Stops (Gives w) same on = cc
led_own known other f g rest Stops Stops same on = refl

-- ---- alike tables

module _ (c outer : Context) (alike : AreAlike c.known.table outer.known.table) (within : c.within ≡ outer.within) where
  abbrev here : Table
  here = c.known.table

  abbrev there : Table
  there = outer.known.table

  base_same : (t : ℕ) → base here t ≡ base there t
  base_same t = found_base (slice_get here t) ∙ (ap base_of (alike t) ∙ sym (found_base (slice_get there t)))

  untyped_same : (t : ℕ) → is_untyped here t ≡ is_untyped there t
  untyped_same t = ap (λ b. nat_eq b untyped) (base_same t)

  meant_same : (t : ℕ) → meant_type here t ≡ meant_type there t
  meant_same t = found_meant t (slice_get here t) ∙ (ap (meant_of t) (alike t) ∙ sym (found_meant t (slice_get there t)))

  fields_same : (t : ℕ) → fields here t ≡ fields there t
  fields_same t =
      ap (λ m. components_of (shape_found (slice_get here m))) (meant_same t)
      ∙ (found_components (slice_get here (meant_type there t))
      ∙ (ap components_in (alike (meant_type there t)) ∙ sym (found_components (slice_get there (meant_type there t)))))

  view_same : (t : ℕ) → unbounded (seen c t) ≡ unbounded (seen outer t)
  unfolding seen
  view_same t =
      ap (λ m. unbounded (seen_info c.within (slice_get here m))) (meant_same t)
      ∙ (found_view c.within (slice_get here (meant_type there t))
      ∙ (ap (seen_outline c.within) (alike (meant_type there t))
      ∙ (ap (λ w. seen_outline w (outlined (slice_get there (meant_type there t)))) within ∙ sym (found_view outer.within (slice_get there (meant_type there t))))))

  through_same : (t : ℕ) → through (seen c t) t ≡ through (seen outer t) t
  through_same t = through_view (seen c t) t ∙ (ap (λ v. through v t) (view_same t) ∙ sym (through_view (seen outer t) t))

  reached_same : (t u : ℕ) (x y : Next) → t ≡ u → valueless x ≡ valueless y → valueless (reached here t x) ≡ valueless (reached there u y)
  reached_same t u x y same next =
      valueless_reached (is_untyped here t) x
      ∙ (ap (λ b. reached_if b (valueless x)) (untyped_same t ∙ ap (is_untyped there) same)
      ∙ (ap (reached_if (is_untyped there u)) next ∙ sym (valueless_reached (is_untyped there u) y)))

  seen_through : (t : ℕ) → unbounded (seen c (through (seen c t) t)) ≡ unbounded (seen outer (through (seen outer t) t))
  seen_through t = view_same (through (seen c t) t) ∙ ap (λ u. unbounded (seen outer u)) (through_same t)

  selected_same : (w : List ℕ) (t : ℕ)
      → selected_component w (seen c (through (seen c t) t)) (fields here (through (seen c t) t))
      ≡ selected_component w (seen outer (through (seen outer t) t)) (fields there (through (seen outer t) t))
  selected_same w t =
      let u : ℕ = through (seen c t) t in
      let z : ℕ = through (seen outer t) t in
      selected_view w (seen c u) (fields here u)
      ∙ (ap (λ v. selected_component w v (fields here u)) (seen_through t)
      ∙ (ap (selected_component w (unbounded (seen outer z))) (fields_same u ∙ ap (fields there) (through_same t)) ∙ sym (selected_view w (seen outer z) (fields there z))))

  indexed_same : (b : Bool) (t : ℕ) → indexed b (seen c (through (seen c t) t)) ≡ indexed b (seen outer (through (seen outer t) t))
  indexed_same b t =
      indexed_view b (seen c (through (seen c t) t))
      ∙ (ap (indexed b) (seen_through t) ∙ sym (indexed_view b (seen outer (through (seen outer t) t))))

  step_same : (s : Tree) (t : ℕ) → valueless (step c s t) ≡ valueless (step outer s t)
  unfolding step
  step_same (Selected w) t =
      reached_same (through (seen c t) t) (through (seen outer t) t)
      (selected_component w (seen c (through (seen c t) t)) (fields here (through (seen c t) t)))
      (selected_component w (seen outer (through (seen outer t) t)) (fields there (through (seen outer t) t))) (through_same t) (ap valueless (selected_same w t))
  step_same (Applied args) t =
      reached_same (through (seen c t) t) (through (seen outer t) t) (indexed (is_index args) (seen c (through (seen c t) t)))
      (indexed (is_index args) (seen outer (through (seen outer t) t))) (through_same t) (ap valueless (indexed_same (is_index args) t))
  step_same All t =
      reached_same t t (dereferenced (seen c t)) (dereferenced (seen outer t)) refl
      (ap valueless (dereferenced_view (seen c t) ∙ (ap dereferenced (view_same t) ∙ sym (dereferenced_view (seen outer t)))))
  step_same (Attr a) t =
      reached_same t t (array_attribute a (seen c t)) (array_attribute a (seen outer t)) refl
      (attribute_view a (seen c t) ∙ (ap (λ v. valueless (array_attribute a v)) (view_same t) ∙ sym (attribute_view a (seen outer t))))
  step_same s t = refl

  along_same : (rest : Tree) (t : ℕ) → own_of c.known (along c t rest) ≡ own_of outer.known (along outer t rest)
  unfolding along
  along_same (More s rest) t =
      led_own c.known outer.known (λ u. along c u rest) (λ u. along outer u rest) rest (step c s t) (step outer s t) (step_same s t) (λ u. along_same rest u)
  along_same rest t = refl

  of_type_same : (t : ℕ) (rest : Tree) → own_of c.known (of_type c t rest) ≡ own_of outer.known (of_type outer t rest)
  of_type_same t (More (Attr a) rest) =
      type_own c.known outer.known (base here t) a (seen c t) rest
      ∙ (ap (λ v. own_of outer.known (type_attribute (base here t) a v rest)) (view_same t)
      ∙ (sym (type_own outer.known outer.known (base here t) a (seen outer t) rest)
      ∙ ap (λ b. own_of outer.known (type_attribute b a (seen outer t) rest)) (base_same t)))
  of_type_same t _ = refl

  called : (d : ℕ) (b : Bool) → entry_of c.known d ≡ entry_of outer.known d → own_of c.known (reading_if b (reading.Call d)) ≡ own_of outer.known (reading_if b (reading.Call d))
  called d true same = ap (λ e. own.Of (result_type (profile_of e).result)) same
  called d false same = refl

  function_same : (d : ℕ) (result : Option ℕ) (rest : Tree) → entry_of c.known d ≡ entry_of outer.known d
      → own_of c.known (of_function d result rest) ≡ own_of outer.known (of_function d result rest)
  function_same d None rest same = refl
  function_same d (Some t) rest same = called d (is_call rest) same

  predefined_same : (p : Predefined) (rest : Tree) → own_of c.known (of_predefined p rest) ≡ own_of outer.known (of_predefined p rest)
  predefined_same predefined.EndOfFile rest = end_own c.known outer.known (is_call rest)
  predefined_same _ rest = refl

  entry_same : (d : ℕ) (e : Entry) (rest : Tree) → entry_of c.known d ≡ entry_of outer.known d → own_of c.known (of_entry c d e rest) ≡ own_of outer.known (of_entry outer d e rest)
  entry_same d (entry.Object o) rest same = along_same rest o.of
  entry_same d (entry.Subprogram p) rest same = function_same d p.result rest same
  entry_same d (entry.Literal t n) rest same = value_own c.known outer.known (is_end rest) t (pos n) (pos n)
  entry_same d entry.Type rest same = of_type_same d rest
  entry_same d (entry.Predefined p) rest same = predefined_same p rest
  entry_same d entry.Nothing rest same = refl
  entry_same d entry.Package rest same = refl
  entry_same d (entry.Instance t) rest same = refl

  name_same : (d : ℕ) (rest : Tree) → entry_of c.known d ≡ entry_of outer.known d → own_of c.known (reading_of c d rest) ≡ own_of outer.known (reading_of outer d rest)
  unfolding reading_of
  name_same d rest same = entry_same d (entry_of c.known d) rest same ∙ ap (λ e. own_of outer.known (of_entry outer d e rest)) same

  -- ---- the parameter of a loop in its own range is no name of an object yet

  module _ (first : AreFirst there) where
    abbrev range : View
    range = view.Whole (negsuc 2147483647) (pos 2147483647)

    zero_base : base there 0 ≡ 0
    zero_base = ap base_found (first 0 (omega arith))

    zero_seen : seen outer 0 ≡ range
    unfolding seen
    zero_seen =
        ap (λ m. seen_info outer.within (slice_get there m)) (ap (meant_type_found 0) (first 0 (omega arith)))
        ∙ ap (seen_info outer.within) (first 0 (omega arith))

    zero_stops : (x : Next) → x ≡ Stops → reached there 0 x ≡ Stops
    zero_stops x stops = ap (reached there 0) stops ∙ ap (λ b. if nat_eq b untyped then Goes untyped else Stops) zero_base

    zero_through : through (seen outer 0) 0 ≡ 0
    zero_through = ap (λ v. through v 0) zero_seen

    zero_step : (s : Tree) → step outer s 0 ≡ Stops
    unfolding step
    zero_step (Selected w) =
        ap (λ u. reached there u (selected_component w (seen outer u) (fields there u))) zero_through
        ∙ zero_stops (selected_component w (seen outer 0) (fields there 0)) (ap (λ v. selected_component w v (fields there 0)) zero_seen)
    zero_step (Applied args) =
        ap (λ u. reached there u (indexed (is_index args) (seen outer u))) zero_through
        ∙ zero_stops (indexed (is_index args) (seen outer 0)) (ap (indexed (is_index args)) zero_seen ∙ no_elements (is_index args))
      where
        no_elements : (b : Bool) → indexed b range ≡ Stops
        no_elements true = refl
        no_elements false = refl
    zero_step All = zero_stops (dereferenced (seen outer 0)) (ap dereferenced zero_seen)
    zero_step (Attr a) = zero_stops (array_attribute a (seen outer 0)) (ap (array_attribute a) zero_seen)
    zero_step s = refl

    zero_along : (rest : Tree) → type_or_integer (own_of outer.known (along outer 0 rest)) ≡ 0
    unfolding along
    zero_along (More s rest) = ap (λ x. type_or_integer (own_of outer.known (led_on (λ u. along outer u rest) rest x))) (zero_step s)
    zero_along rest = refl

    -- ---- lower bounds

    abbrev Same : Tree → Type 0
    Same e = base here (type_or_integer (own_type c e)) ≡ base there (type_or_integer (own_type outer e))

    known_same : (e : Tree) → own_type c e ≡ own_type outer e → Same e
    known_same e same = base_same (type_or_integer (own_type c e)) ∙ ap (λ o. base there (type_or_integer o)) same

    -- `o` is the parameter, of the type that was read
    module _ (d : ℕ) (o : ObjectInfo) where
      abbrev IsKnown : ℕ → Type 0
      IsKnown n = (entry_of c.known n ≡ entry_of outer.known n) ⊎ ((entry_of c.known n ≡ entry.Nothing) × (entry_of outer.known n ≡ entry.Object o))

      name_bound : (n : ℕ) (rest : Tree) → (entry_of c.known n ≡ entry.Nothing → o.of ≡ 0) → IsKnown n
          → base here (type_or_integer (own_of c.known (reading_of c n rest))) ≡ base there (type_or_integer (own_of outer.known (reading_of outer n rest)))
      unfolding reading_of
      name_bound n rest zero (inl same) =
          base_same (type_or_integer (own_of c.known (reading_of c n rest))) ∙ ap (λ x. base there (type_or_integer x)) (name_same n rest same)
      name_bound n rest zero (inr new) =
          ap (λ e. base here (type_or_integer (own_of c.known (of_entry c n e rest)))) new.0
          ∙ (base_same 0
          ∙ sym (ap (λ e. base there (type_or_integer (own_of outer.known (of_entry outer n e rest)))) new.1
          ∙ ap (base there) (ap (λ t. type_or_integer (own_of outer.known (along outer t rest))) (zero new.0) ∙ zero_along rest)))

      zero_own : (n : ℕ) (rest : Tree) → o.of ≡ base here (type_or_integer (own_of c.known (reading_of c n rest))) → entry_of c.known n ≡ entry.Nothing → o.of ≡ 0
      unfolding reading_of
      zero_own n rest is none =
          is ∙ (ap (λ e. base here (type_or_integer (own_of c.known (of_entry c n e rest)))) none ∙ (base_same 0 ∙ zero_base))

      bound_same : (e : Tree) → o.of ≡ base here (type_or_integer (own_type c e)) → ((n : ℕ) → n ≤ d → IsKnown n) → Uses (λ n. n ≤ d) e → Same e
      unfolding own_type Uses
      bound_same (Named p n rest) is known low = name_bound n rest (zero_own n rest is) (known n low.0)
      bound_same (Parens p e) is known low = bound_same e is known low
      bound_same e is known low = known_same e refl

      pub bounds_same : (low high : Tree) → o.of ≡ parameter_type c (Bounds low high) → ((n : ℕ) → n ≤ d → IsKnown n) → Uses (λ n. n ≤ d) low
          → o.of ≡ parameter_type outer (Bounds low high)
      bounds_same low high is known under = is ∙ bound_same low is known under
