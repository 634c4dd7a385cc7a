-- What a name is as a value (docs/LANGUAGE.md, "Types"; Ada 2012, 4.1).
use Rattle.std.specs.Prelude.{ℕ, Bool, true, false, List, [], ◌∷◌, slice_get, nat_eq, Option, Some, None, ℤ, pos, ◌+ℤ◌, ◌-ℤ◌, int_le, if◌then◌else◌}
use Rattle.resolved_tree.specs.declared.operator.Attribute.{Attribute}
use Rattle.resolved_tree.specs.declared.operator.Attribute.TheVariants as attribute
use Rattle.resolved_tree.specs.Trees.{Tree, Selected, All, Applied, Attr, Argument, NoMore, More}
use Rattle.type_definitions.specs.declared.table.Component.{Component}
use Rattle.type_definitions.specs.declared.table.Info.{Info}
use Rattle.type_definitions.specs.declared.table.Known.{Known}
use Rattle.type_definitions.specs.declared.table.Entry.{Entry}
use Rattle.type_definitions.specs.declared.table.Entry.TheVariants as entry
use Rattle.type_definitions.specs.declared.table.Predefined.{Predefined}
use Rattle.type_definitions.specs.declared.table.Predefined.TheVariants as predefined
use Rattle.type_definitions.specs.declared.judgement.View.{View}
use Rattle.type_definitions.specs.declared.judgement.View.TheVariants as view
use Rattle.type_definitions.specs.declared.judgement.Next.{Next}
use Rattle.type_definitions.specs.declared.judgement.Next.TheVariants.{Goes, Gives, Stops}
use Rattle.type_definitions.specs.declared.judgement.Reading.{Reading}
use Rattle.type_definitions.specs.declared.judgement.Reading.TheVariants as reading
use Rattle.type_definitions.specs.Types.{Table, view_of, fields, base, meant_type, untyped, is_untyped}
use Rattle.type_definitions.specs.Entries.{entry_of, integer, same_word}

-- Where an expression stands.
pub record Context : Type 0 where
  pub known : Known
  -- the package whose declarations these are, in any of its parts
  pub home : Option ℕ
  -- the package whose private part or body this is
  pub within : Option ℕ
  -- the subprogram whose body this is
  pub sub : Option ℕ
  pub in_loop : Bool
  -- whether this is the initial value of a package object
  pub starts : Bool

-- The count of elements from a low bound to a high bound.
abbrev pub extent : ℤ → ℤ → ℤ
extent low high = if int_le low high then (high -ℤ low) +ℤ pos 1 else pos 0

abbrev pub is_within : Option ℕ → Option ℕ → Bool
is_within None here = true
is_within (Some p) None = false
is_within (Some p) (Some q) = nat_eq p q

abbrev pub seen_info : Option ℕ → Option Info → View
seen_info here None = view.Hidden
seen_info here (Some i) = if is_within i.seen_in here then view_of i.shape else view.Hidden

-- The definition of a type as it is seen here. That of a private type is seen in the private part
-- and the body of its package alone (Ada 2012, 7.3).
unfoldable pub seen : Context → ℕ → View
seen c t = seen_info c.within (slice_get c.known.table (meant_type c.known.table t))

-- ---- what follows a name

-- The component with an identifier.
abbrev pub component : List ℕ → List Component → Next
component w [] = Stops
component w (c ∷ rest) = if same_word w c.name then Goes c.of else component w rest

abbrev pub selected_component : List ℕ → View → List Component → Next
selected_component w view.Fields cs = component w cs
selected_component w _ cs = Stops

-- An index is one argument by position.
abbrev pub is_index : Tree → Bool
is_index (Argument None e NoMore) = true
is_index _ = false

abbrev pub indexed : Bool → View → Next
indexed true (view.Elements low high element) = Goes element
indexed _ _ = Stops

abbrev pub dereferenced : View → Next
dereferenced (view.Access designated constant named) = Goes designated
dereferenced _ = Stops

-- First, Last and Length of an array.
abbrev pub array_value : Attribute → ℤ → ℤ → Next
array_value attribute.First low high = Gives low
array_value attribute.Last low high = Gives high
array_value attribute.Length low high = Gives (extent low high)
array_value _ low high = Stops

abbrev pub array_attribute : Attribute → View → Next
array_attribute a (view.Elements low high element) = array_value a low high
array_attribute a _ = Stops

-- A selector or an index of an access value goes through what it designates.
abbrev pub through : View → ℕ → ℕ
through (view.Access designated constant named) t = designated
through _ t = t

-- What follows a place whose type isn't known is another such place.
abbrev pub reached : Table → ℕ → Next → Next
reached table t next = if is_untyped table t then Goes untyped else next

unfoldable pub step : Context → Tree → ℕ → Next
step c (Selected w) t =
    reached c.known.table (through (seen c t) t)
    (selected_component w (seen c (through (seen c t) t)) (fields c.known.table (through (seen c t) t)))
step c (Applied args) t =
    reached c.known.table (through (seen c t) t) (indexed (is_index args) (seen c (through (seen c t) t)))
step c All t = reached c.known.table t (dereferenced (seen c t))
step c (Attr a) t = reached c.known.table t (array_attribute a (seen c t))
step c _ t = Stops

-- ---- names

abbrev pub is_end : Tree → Bool
is_end NoMore = true
is_end _ = false

abbrev pub ended : Bool → ℤ → Reading
ended true v = reading.Value integer v
ended false v = reading.Off

abbrev pub led_on : (ℕ → Reading) → Tree → Next → Reading
led_on on rest (Goes t) = on t
led_on on rest (Gives v) = ended (is_end rest) v
led_on on rest Stops = reading.Off

-- From a place of a type along what follows it.
unfoldable pub along : Context → ℕ → Tree → Reading
along c t (More s rest) = led_on (λ u. along c u rest) rest (step c s t)
along c t _ = reading.Place t

-- A call has nothing after its name, or its actuals alone.
abbrev pub is_call : Tree → Bool
is_call NoMore = true
is_call (More (Applied args) NoMore) = true
is_call _ = false

abbrev pub reading_if : Bool → Reading → Reading
reading_if true r = r
reading_if false r = reading.Off

abbrev pub is_imaged : Tree → Bool
is_imaged (More (Applied args) NoMore) = is_index args
is_imaged _ = false

abbrev pub scalar_attribute : ℕ → Attribute → ℤ → ℤ → Tree → Reading
scalar_attribute b attribute.First low high rest = if is_end rest then reading.Value b low else reading.Off
scalar_attribute b attribute.Last low high rest = if is_end rest then reading.Value b high else reading.Off
scalar_attribute b attribute.Image low high rest = reading_if (is_imaged rest) (reading.Image b)
scalar_attribute b _ low high rest = reading.Off

abbrev pub ended_at : Next → Tree → Reading
ended_at (Gives v) rest = ended (is_end rest) v
ended_at _ rest = reading.Off

abbrev pub type_attribute : ℕ → Attribute → View → Tree → Reading
type_attribute b a (view.Whole low high) rest = scalar_attribute b a low high rest
type_attribute b a (view.Listed low high) rest = scalar_attribute b a (pos low) (pos high) rest
type_attribute b a s rest = ended_at (array_attribute a s) rest

abbrev pub of_type : Context → ℕ → Tree → Reading
of_type c t (More (Attr a) rest) = type_attribute (base c.known.table t) a (seen c t) rest
of_type c t _ = reading.Off

abbrev pub of_function : ℕ → Option ℕ → Tree → Reading
of_function f None rest = reading.Off
of_function f (Some result) rest = reading_if (is_call rest) (reading.Call f)

abbrev pub of_predefined : Predefined → Tree → Reading
of_predefined predefined.EndOfFile rest = reading_if (is_call rest) reading.EndOfFile
of_predefined _ rest = reading.Off

abbrev pub of_entry : Context → ℕ → Entry → Tree → Reading
of_entry c d (entry.Object o) rest = along c o.of rest
of_entry c d (entry.Subprogram p) rest = of_function d p.result rest
of_entry c d (entry.Literal t n) rest = if is_end rest then reading.Value t (pos n) else reading.Off
of_entry c d entry.Type rest = of_type c d rest
of_entry c d (entry.Predefined p) rest = of_predefined p rest
of_entry c d entry.Nothing rest = reading.Off
of_entry c d entry.Package rest = reading.Off
of_entry c d (entry.Instance t) rest = reading.Off

-- The name that begins with this declaration.
unfoldable pub reading_of : Context → ℕ → Tree → Reading
reading_of c d rest = of_entry c d (entry_of c.known d) rest
