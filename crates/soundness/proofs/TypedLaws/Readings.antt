-- What names are read as.
use Rattle.std.proofs.Common.{◌≡◌, refl, sym, ap, ◌⊎◌, inl, inr, ℕ, Bool, true, false, ℤ, pos, slice_get, Option, Some, None, if◌then◌else◌}
use Rattle.std.proofs.lemmas.Bool.{false≢true}
use Rattle.machine.specs.resolved_tree.declared.operator.Attribute.{Attribute}
use Rattle.machine.specs.resolved_tree.declared.operator.Attribute.TheVariants as attribute
use Rattle.machine.specs.resolved_tree.Trees.{Tree, Attr, More}
use Rattle.machine.specs.type_definitions.declared.table.Entry.{Entry}
use Rattle.machine.specs.type_definitions.declared.table.Entry.TheVariants as entry
use Rattle.machine.specs.type_definitions.declared.table.ObjectInfo.{ObjectInfo}
use Rattle.machine.specs.type_definitions.declared.table.Predefined.TheVariants as predefined
use Rattle.machine.specs.type_definitions.declared.table.Info.{Info}
use Rattle.machine.specs.type_definitions.declared.table.Shape.{Shape}
use Rattle.machine.specs.type_definitions.declared.table.Shape.TheVariants as shape
use Rattle.machine.specs.type_definitions.declared.judgement.View.{View}
use Rattle.machine.specs.type_definitions.declared.judgement.View.TheVariants as view
use Rattle.machine.specs.type_definitions.declared.judgement.Next.{Next}
use Rattle.machine.specs.type_definitions.declared.judgement.Next.TheVariants.{Goes, Gives, Stops}
use Rattle.machine.specs.type_definitions.declared.judgement.Own.{Own}
use Rattle.machine.specs.type_definitions.declared.judgement.Own.TheVariants as own
use Rattle.machine.specs.type_definitions.declared.judgement.Reading.{Reading}
use Rattle.machine.specs.type_definitions.declared.judgement.Reading.TheVariants as reading
use Rattle.machine.specs.type_definitions.Types.{is_scalar, base, shape_of, shape_found, view_of, meant_type}
use Rattle.machine.specs.type_definitions.Entries.{integer}
use Rattle.machine.specs.type_definitions.Names.{Context, seen, seen_info, is_within, step, led_on, along, ended, is_end, of_entry, type_attribute, scalar_attribute, array_attribute, ended_at, of_function, reading_if, is_call, is_imaged}
use Rattle.machine.specs.type_definitions.Expressions.{profile_of}
use Rattle.soundness.specs.TypedLaws.Fine.{counts, lists}
use Rattle.soundness.proofs.Parted.{by_either}

-- ---- readings and types, told apart

abbrev pub is_off : Own → Bool
is_off own.Unknown = true
is_off o = false

abbrev pub is_place : Reading → Bool
is_place (reading.Place t) = true
is_place r = false

abbrev pub place_type : Reading → ℕ
place_type (reading.Place t) = t
place_type r = 0

abbrev is_value : Reading → Bool
is_value (reading.Value t v) = true
is_value r = false

abbrev is_call_read : Reading → Bool
is_call_read (reading.Call f) = true
is_call_read r = false

abbrev value_type : Reading → ℕ
value_type (reading.Value t v) = t
value_type r = integer

abbrev function_in : Reading → ℕ
function_in (reading.Call f) = f
function_in r = 0

-- ---- along a place

pub no_place : (b : Bool) (v : ℤ) (u : ℕ) → ended b v ≡ reading.Place u → ⊥
no_place true v u e = false≢true (ap is_place e)
no_place false v u e = false≢true (ap is_place e)

no_call : (b : Bool) (v : ℤ) (u : ℕ) → ended b v ≡ reading.Call u → ⊥
no_call true v u e = false≢true (ap is_call_read e)
no_call false v u e = false≢true (ap is_call_read e)

end_value : (b : Bool) (v x : ℤ) (u : ℕ) → ended b v ≡ reading.Value u x → u ≡ integer
end_value true v x u e = sym (ap value_type e)
end_value false v x u e = absurd (false≢true (ap is_value e))

-- a value along a place is a bound of an array
pub along_value : (c : Context) (rest : Tree) (t u : ℕ) (x : ℤ) → along c t rest ≡ reading.Value u x → u ≡ integer
unfolding along
along_value c (More a rest) t u x e = by (step c a t) e (λ v. along_value c rest v u x)
  where
    by : (n : Next) → led_on (λ v. along c v rest) rest n ≡ reading.Value u x → ((v : ℕ) → along c v rest ≡ reading.Value u x → u ≡ integer) → u ≡ integer
    by (Goes v) is on = on v is
    by (Gives z) is on = end_value (is_end rest) z x u is
    by Stops is on = absurd (false≢true (ap is_value is))
along_value c rest t u x e = absurd (false≢true (ap is_value e))

-- nothing along a place is a call
pub along_call : (c : Context) (rest : Tree) (t f : ℕ) → along c t rest ≡ reading.Call f → ⊥
unfolding along
along_call c (More a rest) t f e = by (step c a t) e (λ v. along_call c rest v f)
  where
    by : (n : Next) → led_on (λ v. along c v rest) rest n ≡ reading.Call f → ((v : ℕ) → along c v rest ≡ reading.Call f → ⊥) → ⊥
    by (Goes v) is on = on v is
    by (Gives z) is on = no_call (is_end rest) z f is
    by Stops is on = false≢true (ap is_call_read is)
along_call c rest t f e = false≢true (ap is_call_read e)

-- ---- of types

no_call_when : (b : Bool) (r : Reading) (f : ℕ) → (r ≡ reading.Call f → ⊥) → reading_if b r ≡ reading.Call f → ⊥
no_call_when true r f never e = never e
no_call_when false r f never e = false≢true (ap is_call_read e)

called_call : (b : Bool) (g f : ℕ) → reading_if b (reading.Call g) ≡ reading.Call f → f ≡ g
called_call true g f e = sym (ap function_in e)
called_call false g f e = absurd (false≢true (ap is_call_read e))

called_place : (b : Bool) (r : Reading) (u : ℕ) → (r ≡ reading.Place u → ⊥) → reading_if b r ≡ reading.Place u → ⊥
called_place true r u never e = never e
called_place false r u never e = false≢true (ap is_place e)

called_value : (b : Bool) (r : Reading) (u : ℕ) (x : ℤ) → (r ≡ reading.Value u x → ⊥) → reading_if b r ≡ reading.Value u x → ⊥
called_value true r u x never e = never e
called_value false r u x never e = false≢true (ap is_value e)

choice_place : (b : Bool) (t u : ℕ) (v : ℤ) → (if b then reading.Value t v else reading.Off) ≡ reading.Place u → ⊥
choice_place true t u v e = false≢true (ap is_place e)
choice_place false t u v e = false≢true (ap is_place e)

choice_call : (b : Bool) (t u : ℕ) (v : ℤ) → (if b then reading.Value t v else reading.Off) ≡ reading.Call u → ⊥
choice_call true t u v e = false≢true (ap is_call_read e)
choice_call false t u v e = false≢true (ap is_call_read e)

choice_value : (b : Bool) (t u : ℕ) (v x : ℤ) → (if b then reading.Value t v else reading.Off) ≡ reading.Value u x → u ≡ t
choice_value true t u v x e = sym (ap value_type e)
choice_value false t u v x e = absurd (false≢true (ap is_value e))

scalar_place : (t : ℕ) (a : Attribute) (low high : ℤ) (rest : Tree) (u : ℕ) → scalar_attribute t a low high rest ≡ reading.Place u → ⊥
scalar_place t attribute.First low high rest u e = choice_place (is_end rest) t u low e
scalar_place t attribute.Last low high rest u e = choice_place (is_end rest) t u high e
scalar_place t attribute.Image low high rest u e = called_place (is_imaged rest) (reading.Image t) u (λ z. false≢true (ap is_place z)) e
scalar_place t a low high rest u e = false≢true (ap is_place e)

scalar_call : (t : ℕ) (a : Attribute) (low high : ℤ) (rest : Tree) (u : ℕ) → scalar_attribute t a low high rest ≡ reading.Call u → ⊥
scalar_call t attribute.First low high rest u e = choice_call (is_end rest) t u low e
scalar_call t attribute.Last low high rest u e = choice_call (is_end rest) t u high e
scalar_call t attribute.Image low high rest u e = no_call_when (is_imaged rest) (reading.Image t) u (λ z. false≢true (ap is_call_read z)) e
scalar_call t a low high rest u e = false≢true (ap is_call_read e)

scalar_value : (t : ℕ) (a : Attribute) (low high : ℤ) (rest : Tree) (u : ℕ) (x : ℤ) → scalar_attribute t a low high rest ≡ reading.Value u x → u ≡ t
scalar_value t attribute.First low high rest u x e = choice_value (is_end rest) t u low x e
scalar_value t attribute.Last low high rest u x e = choice_value (is_end rest) t u high x e
scalar_value t attribute.Image low high rest u x e = absurd (called_value (is_imaged rest) (reading.Image t) u x (λ z. false≢true (ap is_value z)) e)
scalar_value t a low high rest u x e = absurd (false≢true (ap is_value e))

ended_place : (n : Next) (rest : Tree) (u : ℕ) → ended_at n rest ≡ reading.Place u → ⊥
ended_place (Gives v) rest u e = no_place (is_end rest) v u e
ended_place n rest u e = false≢true (ap is_place e)

ended_call : (n : Next) (rest : Tree) (u : ℕ) → ended_at n rest ≡ reading.Call u → ⊥
ended_call (Gives v) rest u e = no_call (is_end rest) v u e
ended_call n rest u e = false≢true (ap is_call_read e)

ended_value : (n : Next) (rest : Tree) (u : ℕ) (x : ℤ) → ended_at n rest ≡ reading.Value u x → u ≡ integer
ended_value (Gives v) rest u x e = end_value (is_end rest) v x u e
ended_value n rest u x e = absurd (false≢true (ap is_value e))

type_place : (t : ℕ) (a : Attribute) (w : View) (rest : Tree) (u : ℕ) → type_attribute t a w rest ≡ reading.Place u → ⊥
type_place t a (view.Whole low high) rest u e = scalar_place t a low high rest u e
type_place t a (view.Listed low high) rest u e = scalar_place t a (pos low) (pos high) rest u e
type_place t a w rest u e = ended_place (array_attribute a w) rest u e

type_call : (t : ℕ) (a : Attribute) (w : View) (rest : Tree) (u : ℕ) → type_attribute t a w rest ≡ reading.Call u → ⊥
type_call t a (view.Whole low high) rest u e = scalar_call t a low high rest u e
type_call t a (view.Listed low high) rest u e = scalar_call t a (pos low) (pos high) rest u e
type_call t a w rest u e = ended_call (array_attribute a w) rest u e

-- a scalar type has its bounds, an array those of its index
pub type_value : (t : ℕ) (a : Attribute) (w : View) (rest : Tree) (u : ℕ) (x : ℤ) → type_attribute t a w rest ≡ reading.Value u x
    → (u ≡ integer) ⊎ ((u ≡ t) × (is_scalar w ≡ true))
type_value t a (view.Whole low high) rest u x e = inr (scalar_value t a low high rest u x e, refl)
type_value t a (view.Listed low high) rest u x e = inr (scalar_value t a (pos low) (pos high) rest u x e, refl)
type_value t a w rest u x e = inl (ended_value (array_attribute a w) rest u x e)

function_place : (d : ℕ) (o : Option ℕ) (rest : Tree) (u : ℕ) → of_function d o rest ≡ reading.Place u → ⊥
function_place d None rest u e = false≢true (ap is_place e)
function_place d (Some t) rest u e = called_place (is_call rest) (reading.Call d) u (λ z. false≢true (ap is_place z)) e

function_value : (d : ℕ) (o : Option ℕ) (rest : Tree) (u : ℕ) (x : ℤ) → of_function d o rest ≡ reading.Value u x → ⊥
function_value d None rest u x e = false≢true (ap is_value e)
function_value d (Some t) rest u x e = called_value (is_call rest) (reading.Call d) u x (λ z. false≢true (ap is_value z)) e

function_call : (d : ℕ) (o : Option ℕ) (rest : Tree) (f : ℕ) → of_function d o rest ≡ reading.Call f → (f ≡ d) × (t : ℕ) × (o ≡ Some t)
function_call d None rest f e = absurd (false≢true (ap is_call_read e))
function_call d (Some t) rest f e = (called_call (is_call rest) d f e, t, refl)

-- ---- what is read as a place, a call or a value

-- Only objects are read as places.
pub place_along : (c : Context) (d u : ℕ) (e : Entry) (rest : Tree) → of_entry c d e rest ≡ reading.Place u
    → (o : ObjectInfo) × (e ≡ entry.Object o) × (along c o.of rest ≡ reading.Place u)
place_along c d u (entry.Object o) rest is = (o, refl, is)
place_along c d u (entry.Subprogram p) rest is = absurd (function_place d p.result rest u is)
place_along c d u (entry.Literal t n) rest is = absurd (choice_place (is_end rest) t u (pos n) is)
place_along c d u entry.Type (More (Attr a) rest) is = absurd (type_place (base c.known.table d) a (seen c d) rest u is)
place_along c d u (entry.Predefined predefined.EndOfFile) rest is = absurd (called_place (is_call rest) reading.EndOfFile u (λ z. false≢true (ap is_place z)) is)
place_along c d u e rest is = absurd (false≢true (ap is_place is))

-- Only subprograms with a result are read as calls.
pub call_of : (c : Context) (d f : ℕ) (e : Entry) (rest : Tree) → of_entry c d e rest ≡ reading.Call f
    → (f ≡ d) × (t : ℕ) × ((profile_of e).result ≡ Some t)
call_of c d f (entry.Object o) rest is = absurd (along_call c rest o.of f is)
call_of c d f (entry.Subprogram p) rest is = function_call d p.result rest f is
call_of c d f (entry.Literal t n) rest is = absurd (choice_call (is_end rest) t f (pos n) is)
call_of c d f entry.Type (More (Attr a) rest) is = absurd (type_call (base c.known.table d) a (seen c d) rest f is)
call_of c d f (entry.Predefined predefined.EndOfFile) rest is = absurd (no_call_when (is_call rest) reading.EndOfFile f (λ z. false≢true (ap is_call_read z)) is)
call_of c d f e rest is = absurd (false≢true (ap is_call_read is))

-- Values are literals, bounds of scalar types, and bounds of arrays.
pub value_of : (c : Context) (d u : ℕ) (x : ℤ) (e : Entry) (rest : Tree) → of_entry c d e rest ≡ reading.Value u x
    → (u ≡ integer) ⊎ (((n : ℕ) × (e ≡ entry.Literal u n)) ⊎ ((e ≡ entry.Type) × (u ≡ base c.known.table d) × (is_scalar (seen c d) ≡ true)))
value_of c d u x (entry.Object o) rest is = inl (along_value c rest o.of u x is)
value_of c d u x (entry.Subprogram p) rest is = absurd (function_value d p.result rest u x is)
value_of c d u x (entry.Literal t n) rest is =
    let same = choice_value (is_end rest) t u (pos n) x is in
    inr (inl (n, ap (λ z. entry.Literal z n) (sym same)))
value_of c d u x entry.Type (More (Attr a) rest) is = by_either (type_value (base c.known.table d) a (seen c d) rest u x is) (λ whole. (inl whole)) (λ bound. (inr (inr (refl, bound.0, bound.1))))
value_of c d u x (entry.Predefined predefined.EndOfFile) rest is = absurd (called_value (is_call rest) reading.EndOfFile u x (λ z. false≢true (ap is_value z)) is)
value_of c d u x e rest is = absurd (false≢true (ap is_value is))

shape_scalar : (z : Shape) → is_scalar (view_of z) ≡ true → (counts z ≡ true) ⊎ (lists z ≡ true)
shape_scalar (shape.Whole a b) e = inl refl
shape_scalar (shape.Listed k a b) e = inr refl
shape_scalar z e = absurd (false≢true e)

-- a scalar type that is seen here
pub seen_scalar : (c : Context) (t : ℕ) → is_scalar (seen c t) ≡ true → (counts (shape_of c.known.table t) ≡ true) ⊎ (lists (shape_of c.known.table t) ≡ true)
unfolding seen
seen_scalar c t e = found (slice_get c.known.table (meant_type c.known.table t)) e
  where
    at : (b : Bool) (i : Info) → is_scalar (if b then view_of i.shape else view.Hidden) ≡ true → (counts i.shape ≡ true) ⊎ (lists i.shape ≡ true)
    at true i h = shape_scalar i.shape h
    at false i h = absurd (false≢true h)

    found : (o : Option Info) → is_scalar (seen_info c.within o) ≡ true → (counts (shape_found o) ≡ true) ⊎ (lists (shape_found o) ≡ true)
    found None h = absurd (false≢true h)
    found (Some i) h = at (is_within i.seen_in c.within) i h

pub not_both : (z : Shape) → counts z ≡ true → lists z ≡ true → ⊥
not_both (shape.Whole a b) e f = absurd (false≢true f)
not_both z e f = absurd (false≢true e)
