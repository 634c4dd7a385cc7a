-- Where the steps of a name lead: the type that a name is read as is the one that its steps lead
-- to.
use Rattle.std.proofs.Common.{◌≡◌, refl, sym, subst, ℕ, suc, ◌+◌, ◌<◌, Bool, true, false, List, [], ◌∷◌, length, get_or, arith, Option, Some, None, ℤ, slice_get, if◌then◌else◌, ap}
use Rattle.std.proofs.lemmas.Bool.{true≢false, false≢true}
use Rattle.machine.specs.resolved_tree.declared.operator.Attribute.{Attribute}
use Rattle.machine.specs.resolved_tree.declared.operator.Attribute.TheVariants as attribute
use Rattle.machine.specs.resolved_tree.Trees.{Tree, Number, Text, Null, Named, Parens, Unary, Binary, Aggregate, Others, New, Selected, All, Applied, Attr, Argument, NoMore, More}
use Rattle.machine.specs.type_definitions.declared.table.Component.{Component}
use Rattle.machine.specs.type_definitions.declared.table.Info.{Info}
use Rattle.machine.specs.type_definitions.declared.table.Shape.{Shape}
use Rattle.machine.specs.type_definitions.declared.table.Shape.TheVariants as shape
use Rattle.machine.specs.type_definitions.declared.judgement.View.{View}
use Rattle.machine.specs.type_definitions.declared.judgement.View.TheVariants as view
use Rattle.machine.specs.type_definitions.declared.judgement.Next.{Next}
use Rattle.machine.specs.type_definitions.declared.judgement.Next.TheVariants.{Goes}
use Rattle.machine.specs.type_definitions.Types.{shape_found, shape_of, fields, meant_type, view_of, is_untyped, untyped}
use Rattle.machine.specs.type_definitions.Entries.{integer, same_word}
use Rattle.machine.specs.type_definitions.Names.{Context, seen, seen_info, is_within, step, component, selected_component, indexed, is_index, dereferenced, array_attribute, through}
use Rattle.machine.specs.typed_tree.Trees.{TypedTree}
use Rattle.machine.specs.typed_tree.Trees as typed
use Rattle.machine.specs.typed_tree.declared.object.Object.{Object}
use Rattle.machine.specs.typed_tree.Expressions.{Site, designating, component_number, element, typed_step, typed_first}
use Rattle.machine.specs.flow_paths.Objects.{Typing, Signature}
use Rattle.machine.specs.Words.{no_component}
use Rattle.soundness.specs.TypedLaws.Fine.{Has, Leads, Laws}
use Rattle.machine.specs.type_definitions.Expressions.{is_access, next_type}

-- ---- definitions that are seen

abbrev has_elements : View → Bool
has_elements (view.Elements low high of) = true
has_elements v = false

abbrev shape_in : View → Shape
shape_in (view.Access d k n) = shape.Access d k n
shape_in (view.Elements low high of) = shape.Elements low high of
shape_in v = shape.Fields []

abbrev pub goes : Next → Bool
goes (Goes t) = true
goes n = false

info_seen : (b : Bool) (i : Info) (v : View) → (if b then view_of i.shape else view.Hidden) ≡ v → (v ≡ view.Hidden → ⊥) → view_of i.shape ≡ v
info_seen true i v e never = e
info_seen false i v e never = absurd (never (sym e))

access_view : (s : Shape) (d : ℕ) (k n : Bool) → view_of s ≡ view.Access d k n → s ≡ shape.Access d k n
access_view (shape.Access a b c) d k n e = ap shape_in e
access_view (shape.Whole a b) d k n e = absurd (false≢true (ap is_access e))
access_view (shape.Listed l a b) d k n e = absurd (false≢true (ap is_access e))
access_view (shape.Fields cs) d k n e = absurd (false≢true (ap is_access e))
access_view (shape.Elements a b el) d k n e = absurd (false≢true (ap is_access e))
access_view (shape.Same of) d k n e = absurd (false≢true (ap is_access e))

elements_view : (s : Shape) (low high : ℤ) (of : ℕ) → view_of s ≡ view.Elements low high of → s ≡ shape.Elements low high of
elements_view (shape.Access a b c) low high of e = absurd (false≢true (ap has_elements e))
elements_view (shape.Whole a b) low high of e = absurd (false≢true (ap has_elements e))
elements_view (shape.Listed l a b) low high of e = absurd (false≢true (ap has_elements e))
elements_view (shape.Fields cs) low high of e = absurd (false≢true (ap has_elements e))
elements_view (shape.Elements a b el) low high of e = ap shape_in e
elements_view (shape.Same t) low high of e = absurd (false≢true (ap has_elements e))

access_found : (here : Option ℕ) (o : Option Info) (d : ℕ) (k n : Bool) → seen_info here o ≡ view.Access d k n → shape_found o ≡ shape.Access d k n
access_found here None d k n e = absurd (false≢true (ap is_access e))
access_found here (Some i) d k n e = access_view i.shape d k n (info_seen (is_within i.seen_in here) i (view.Access d k n) e (λ same. true≢false (ap is_access same)))

elements_found : (here : Option ℕ) (o : Option Info) (low high : ℤ) (of : ℕ) → seen_info here o ≡ view.Elements low high of → shape_found o ≡ shape.Elements low high of
elements_found here None low high of e = absurd (false≢true (ap has_elements e))
elements_found here (Some i) low high of e = elements_view i.shape low high of (info_seen (is_within i.seen_in here) i (view.Elements low high of) e (λ same. true≢false (ap has_elements same)))

pub seen_access : (c : Context) (t d : ℕ) (k n : Bool) → seen c t ≡ view.Access d k n → shape_of c.known.table t ≡ shape.Access d k n
unfolding seen
seen_access c t d k n e = access_found c.within (slice_get c.known.table (meant_type c.known.table t)) d k n e

pub seen_elements : (c : Context) (t : ℕ) (low high : ℤ) (of : ℕ) → seen c t ≡ view.Elements low high of → shape_of c.known.table t ≡ shape.Elements low high of
unfolding seen
seen_elements c t low high of e = elements_found c.within (slice_get c.known.table (meant_type c.known.table t)) low high of e

view_found : (here : Option ℕ) (o : Option Info) (v : View) → seen_info here o ≡ v → (v ≡ view.Hidden → ⊥) → view_of (shape_found o) ≡ v
view_found here None v e never = absurd (never (sym e))
view_found here (Some i) v e never = info_seen (is_within i.seen_in here) i v e never

-- what is seen is the definition
pub seen_full : (c : Context) (t : ℕ) (v : View) → seen c t ≡ v → (v ≡ view.Hidden → ⊥) → view_of (shape_of c.known.table t) ≡ v
unfolding seen
seen_full c t v e never = view_found c.within (slice_get c.known.table (meant_type c.known.table t)) v e never

-- ---- components

at_next : (k : Component) (cs : List Component) (v n m : ℕ) → m ≡ suc n → (get_or cs n no_component).of ≡ v → (get_or (k ∷ cs) m no_component).of ≡ v
at_next k cs v n m e is = rw e is

pub component_goes : (w : List ℕ) (cs : List Component) (v : ℕ) → component w cs ≡ Goes v
    → (component_number w cs < length cs) × ((get_or cs (component_number w cs) no_component).of ≡ v)
component_goes w [] v e = absurd (false≢true (ap goes e))
component_goes w (k ∷ rest) v e = by (same_word w k.name) refl (λ z. component_goes w rest v z)
  where
    by : (b : Bool) → same_word w k.name ≡ b
        → (component w rest ≡ Goes v → (component_number w rest < length rest) × ((get_or rest (component_number w rest) no_component).of ≡ v))
        → (component_number w (k ∷ rest) < length (k ∷ rest)) × ((get_or (k ∷ rest) (component_number w (k ∷ rest)) no_component).of ≡ v)
    by true is on = let e : Goes k.of ≡ Goes v = rw is at e in let same : k.of ≡ v = ap next_type e in rw is (omega arith, same)
    by false is on =
        let e : component w rest ≡ Goes v = rw is at e in
        let up = on e in
        let less = up.0 in
        rw is (omega (arith, less), at_next k rest v (component_number w rest) (1 + component_number w rest) (omega arith) up.1)

selected_goes : (w : List ℕ) (s : View) (cs : List Component) (v : ℕ) → selected_component w s cs ≡ Goes v → component w cs ≡ Goes v
selected_goes w view.Fields cs v e = e
selected_goes w view.Hidden cs v e = absurd (false≢true (ap goes e))
selected_goes w (view.Whole a b) cs v e = absurd (false≢true (ap goes e))
selected_goes w (view.Listed a b) cs v e = absurd (false≢true (ap goes e))
selected_goes w (view.Access d k n) cs v e = absurd (false≢true (ap goes e))
selected_goes w (view.Elements a b el) cs v e = absurd (false≢true (ap goes e))

-- no attribute leads on
attribute_stays : (a : Attribute) (s : View) (v : ℕ) → array_attribute a s ≡ Goes v → ⊥
attribute_stays attribute.First (view.Elements a b el) v e = false≢true (ap goes e)
attribute_stays attribute.Last (view.Elements a b el) v e = false≢true (ap goes e)
attribute_stays attribute.Length (view.Elements a b el) v e = false≢true (ap goes e)
attribute_stays attribute.Image (view.Elements a b el) v e = false≢true (ap goes e)
attribute_stays attribute.Range (view.Elements a b el) v e = false≢true (ap goes e)
attribute_stays attribute.Other (view.Elements a b el) v e = false≢true (ap goes e)
attribute_stays a view.Fields v e = false≢true (ap goes e)
attribute_stays a view.Hidden v e = false≢true (ap goes e)
attribute_stays a (view.Whole x y) v e = false≢true (ap goes e)
attribute_stays a (view.Listed x y) v e = false≢true (ap goes e)
attribute_stays a (view.Access d k n) v e = false≢true (ap goes e)

-- where a step leads from a type that is known
pub known_next : (b : Bool) (n : Next) (v : ℕ) → b ≡ false → (if b then Goes untyped else n) ≡ Goes v → n ≡ Goes v
known_next false n v is e = e
known_next true n v is e = absurd (true≢false is)

module _ (s : Site) (objects : List Object) (subs : List Signature) (made : ℕ → Type 0) (laws : Laws s.context.known made) where
  abbrev pub typing : Typing
  typing = record { table = s.context.known.table; objects = objects; subs = subs }

  -- what is designated is gone to first
  pub through_made : (t : ℕ) (v : View) → seen s.context t ≡ v → made t → made (through v t)
  through_made t (view.Access d k n) e m = laws.target t d k n m (seen_access s.context t d k n e)
  through_made t view.Fields e m = m
  through_made t view.Hidden e m = m
  through_made t (view.Whole a b) e m = m
  through_made t (view.Listed a b) e m = m
  through_made t (view.Elements a b el) e m = m

  through_leads : (t u : ℕ) (v : View) (behind : TypedTree) → seen s.context t ≡ v → Leads typing (through v t) behind u → Leads typing t (designating v behind) u
  unfolding Leads
  through_leads t u (view.Access d k n) behind e leads = (d, k, n, seen_access s.context t d k n e, leads)
  through_leads t u view.Fields behind e leads = leads
  through_leads t u view.Hidden behind e leads = leads
  through_leads t u (view.Whole a b) behind e leads = leads
  through_leads t u (view.Listed a b) behind e leads = leads
  through_leads t u (view.Elements a b el) behind e leads = leads

  -- An index, where it has the type Integer.
  abbrev pub HasIndex : Tree → Type 0
  HasIndex (Applied args) = Has typing integer (typed_first s integer args)
  HasIndex _ = Unit {0}

  pub component_leads : (w : List ℕ) (t v : ℕ) → made t → component w (fields s.context.known.table t) ≡ Goes v
      → made v × ((u : ℕ) (behind : TypedTree) → Leads typing v behind u
      → Leads typing t (typed.Component (component_number w (fields s.context.known.table t)) behind) u)
  unfolding Leads
  component_leads w t v m e =
      let found = component_goes w (fields s.context.known.table t) v e in (
        subst made found.1 (laws.component t (component_number w (fields s.context.known.table t)) m),
        λ u behind leads. (found.0, subst (λ z. Leads typing z behind u) (sym found.1) leads),
      )

  pub element_leads : (q v : ℕ) (b : Bool) (w : View) → made q → seen s.context q ≡ w → indexed b w ≡ Goes v
      → made v × ((u : ℕ) (index behind : TypedTree) → Has typing integer index → Leads typing v behind u → Leads typing q (element w index behind) u)
  unfolding Leads
  element_leads q v true (view.Elements low high el) m is e =
      let same : el ≡ v = ap next_type e in
      let shape = seen_elements s.context q low high el is in (
        subst made same (laws.element q el low high m shape),
        λ u index behind has leads. (el, shape, has, subst (λ z. Leads typing z behind u) (sym same) leads),
      )
  element_leads q v false (view.Elements low high el) m is e = absurd (false≢true (ap goes e))
  element_leads q v true view.Fields m is e = absurd (false≢true (ap goes e))
  element_leads q v false view.Fields m is e = absurd (false≢true (ap goes e))
  element_leads q v true view.Hidden m is e = absurd (false≢true (ap goes e))
  element_leads q v false view.Hidden m is e = absurd (false≢true (ap goes e))
  element_leads q v true (view.Whole x y) m is e = absurd (false≢true (ap goes e))
  element_leads q v false (view.Whole x y) m is e = absurd (false≢true (ap goes e))
  element_leads q v true (view.Listed x y) m is e = absurd (false≢true (ap goes e))
  element_leads q v false (view.Listed x y) m is e = absurd (false≢true (ap goes e))
  element_leads q v true (view.Access d k n) m is e = absurd (false≢true (ap goes e))
  element_leads q v false (view.Access d k n) m is e = absurd (false≢true (ap goes e))

  pub all_leads : (t v : ℕ) (w : View) → made t → seen s.context t ≡ w → dereferenced w ≡ Goes v
      → made v × ((u : ℕ) (behind : TypedTree) → Leads typing v behind u → Leads typing t (typed.Designated behind) u)
  unfolding Leads
  all_leads t v (view.Access d k n) m is e =
      let same : d ≡ v = ap next_type e in
      let shape = seen_access s.context t d k n is in (
        subst made same (laws.target t d k n m shape),
        λ u behind leads. (d, k, n, shape, subst (λ z. Leads typing z behind u) (sym same) leads),
      )
  all_leads t v view.Fields m is e = absurd (false≢true (ap goes e))
  all_leads t v view.Hidden m is e = absurd (false≢true (ap goes e))
  all_leads t v (view.Whole x y) m is e = absurd (false≢true (ap goes e))
  all_leads t v (view.Listed x y) m is e = absurd (false≢true (ap goes e))
  all_leads t v (view.Elements x y el) m is e = absurd (false≢true (ap goes e))

  -- one step
  pub step_leads : (t v : ℕ) (a : Tree) → made t → step s.context a t ≡ Goes v
      → made v × ((u : ℕ) (behind : TypedTree) → HasIndex a → Leads typing v behind u → Leads typing t (typed_step s t a behind) u)
  unfolding step typed_step
  step_leads t v (Selected w) m e =
      let q = through (seen s.context t) t in
      let mq = through_made t (seen s.context t) refl m in
      let next = known_next (is_untyped s.context.known.table q) (selected_component w (seen s.context q) (fields s.context.known.table q)) v (laws.certain q mq) e in
      let goes = selected_goes w (seen s.context q) (fields s.context.known.table q) v next in
      let led = component_leads w q v mq goes in
      (led.0, λ u behind has leads. through_leads t u (seen s.context t) (typed.Component (component_number w (fields s.context.known.table q)) behind) refl (led.1 u behind leads))
  step_leads t v (Applied args) m e =
      let q = through (seen s.context t) t in
      let mq = through_made t (seen s.context t) refl m in
      let next = known_next (is_untyped s.context.known.table q) (indexed (is_index args) (seen s.context q)) v (laws.certain q mq) e in
      let led = element_leads q v (is_index args) (seen s.context q) mq refl next in
      (led.0, λ u behind has leads. through_leads t u (seen s.context t) (element (seen s.context q) (typed_first s integer args) behind) refl (led.1 u (typed_first s integer args) behind has leads))
  step_leads t v All m e =
      let next = known_next (is_untyped s.context.known.table t) (dereferenced (seen s.context t)) v (laws.certain t m) e in
      let led = all_leads t v (seen s.context t) m refl next in
      (led.0, λ u behind has leads. led.1 u behind leads)
  step_leads t v (Attr a) m e =
      let next = known_next (is_untyped s.context.known.table t) (array_attribute a (seen s.context t)) v (laws.certain t m) e in
      absurd (attribute_stays a (seen s.context t) v next)
  step_leads t v (Number p n) m e = absurd (false≢true (ap goes e))
  step_leads t v (Text p x) m e = absurd (false≢true (ap goes e))
  step_leads t v (Null p) m e = absurd (false≢true (ap goes e))
  step_leads t v (Named p d rest) m e = absurd (false≢true (ap goes e))
  step_leads t v (Parens p x) m e = absurd (false≢true (ap goes e))
  step_leads t v (Unary p op x) m e = absurd (false≢true (ap goes e))
  step_leads t v (Binary p op x z) m e = absurd (false≢true (ap goes e))
  step_leads t v (Aggregate p args) m e = absurd (false≢true (ap goes e))
  step_leads t v (Others p x) m e = absurd (false≢true (ap goes e))
  step_leads t v (New p k x) m e = absurd (false≢true (ap goes e))
  step_leads t v (Argument w x rest) m e = absurd (false≢true (ap goes e))
  step_leads t v NoMore m e = absurd (false≢true (ap goes e))
  step_leads t v (More x rest) m e = absurd (false≢true (ap goes e))
