-- Names that are read as images: those of an attribute of a scalar type, with one argument.
use Rattle.std.proofs.Common.{◌≡◌, refl, sym, ap, ℕ, Bool, true, false, ℤ, pos, Option, Some, None, if◌then◌else◌}
use Rattle.std.proofs.lemmas.Bool.{false≢true}
use Rattle.machine.specs.resolved_tree.declared.operator.Attribute.{Attribute}
use Rattle.machine.specs.resolved_tree.declared.operator.Attribute.TheVariants as attribute
use Rattle.machine.specs.resolved_tree.declared.operator.Operator.{Operator}
use Rattle.machine.specs.resolved_tree.declared.operator.Operator.TheVariants as operator
use Rattle.machine.specs.resolved_tree.Trees.{Tree, Applied, Attr, NoMore, More}
use Rattle.machine.specs.type_definitions.declared.table.Entry.{Entry}
use Rattle.machine.specs.type_definitions.declared.table.Entry.TheVariants as entry
use Rattle.machine.specs.type_definitions.declared.table.Predefined.TheVariants as predefined
use Rattle.machine.specs.type_definitions.declared.judgement.View.{View}
use Rattle.machine.specs.type_definitions.declared.judgement.View.TheVariants as view
use Rattle.machine.specs.type_definitions.declared.judgement.Next.{Next}
use Rattle.machine.specs.type_definitions.declared.judgement.Next.TheVariants.{Goes, Gives, Stops}
use Rattle.machine.specs.type_definitions.declared.judgement.Own.TheVariants as own
use Rattle.machine.specs.type_definitions.declared.judgement.Reading.{Reading}
use Rattle.machine.specs.type_definitions.declared.judgement.Reading.TheVariants as reading
use Rattle.machine.specs.type_definitions.Types.{base, is_scalar}
use Rattle.machine.specs.type_definitions.Entries.{entry_of, integer, boolean}
use Rattle.machine.specs.type_definitions.Names.{Context, seen, step, along, led_on, ended, is_end, is_index, is_imaged, is_call, reading_if, of_entry, of_function, ended_at, array_attribute, scalar_attribute, type_attribute, reading_of}
use Rattle.machine.specs.type_definitions.Expressions.{is_string, is_join, is_arithmetic}

abbrev is_image : Reading → Bool
is_image (reading.Image t) = true
is_image r = false

abbrev image_type : Reading → ℕ
image_type (reading.Image t) = t
image_type r = integer

no_image_if : (b : Bool) (r : Reading) (t : ℕ) → (r ≡ reading.Image t → ⊥) → reading_if b r ≡ reading.Image t → ⊥
no_image_if true r t never e = never e
no_image_if false r t never e = false≢true (ap is_image e)

no_image_end : (b : Bool) (v : ℤ) (t : ℕ) → ended b v ≡ reading.Image t → ⊥
no_image_end true v t e = false≢true (ap is_image e)
no_image_end false v t e = false≢true (ap is_image e)

no_image_value : (b : Bool) (u t : ℕ) (v : ℤ) → (if b then reading.Value u v else reading.Off) ≡ reading.Image t → ⊥
no_image_value true u t v e = false≢true (ap is_image e)
no_image_value false u t v e = false≢true (ap is_image e)

no_image_along : (c : Context) (rest : Tree) (u t : ℕ) → along c u rest ≡ reading.Image t → ⊥
unfolding along
no_image_along c (More a rest) u t e = by (step c a u) e (λ v. no_image_along c rest v t)
  where
    by : (n : Next) → led_on (λ v. along c v rest) rest n ≡ reading.Image t → ((v : ℕ) → along c v rest ≡ reading.Image t → ⊥) → ⊥
    by (Goes v) is on = on v is
    by (Gives x) is on = no_image_end (is_end rest) x t is
    by Stops is on = false≢true (ap is_image is)
no_image_along c rest u t e = false≢true (ap is_image e)

no_image_function : (d : ℕ) (o : Option ℕ) (rest : Tree) (t : ℕ) → of_function d o rest ≡ reading.Image t → ⊥
no_image_function d None rest t e = false≢true (ap is_image e)
no_image_function d (Some r) rest t e = no_image_if (is_call rest) (reading.Call d) t (λ z. false≢true (ap is_image z)) e

-- An image has one argument.
abbrev pub IsImaged : Tree → Type 0
IsImaged rest = (args : Tree) × (rest ≡ More (Applied args) NoMore) × (is_index args ≡ true)

imaged : (b t : ℕ) (rest : Tree) → reading_if (is_imaged rest) (reading.Image b) ≡ reading.Image t → IsImaged rest × (t ≡ b)
imaged b t (More (Applied args) NoMore) e = by (is_index args) refl e
  where
    by : (g : Bool) → is_index args ≡ g → reading_if g (reading.Image b) ≡ reading.Image t → IsImaged (More (Applied args) NoMore) × (t ≡ b)
    by true is h = ((args, refl, is), sym (ap image_type h))
    by false is h = absurd (false≢true (ap is_image h))
imaged b t rest e = absurd (false≢true (ap is_image e))

scalar_image : (b t : ℕ) (a : Attribute) (low high : ℤ) (rest : Tree) → scalar_attribute b a low high rest ≡ reading.Image t → IsImaged rest × (t ≡ b)
scalar_image b t attribute.First low high rest e = absurd (no_image_value (is_end rest) b t low e)
scalar_image b t attribute.Last low high rest e = absurd (no_image_value (is_end rest) b t high e)
scalar_image b t attribute.Image low high rest e = imaged b t rest e
scalar_image b t a low high rest e = absurd (false≢true (ap is_image e))

no_image_ended : (n : Next) (rest : Tree) (t : ℕ) → ended_at n rest ≡ reading.Image t → ⊥
no_image_ended (Gives v) rest t e = no_image_end (is_end rest) v t e
no_image_ended n rest t e = false≢true (ap is_image e)

type_image : (b t : ℕ) (a : Attribute) (w : View) (rest : Tree) → type_attribute b a w rest ≡ reading.Image t → IsImaged rest × (t ≡ b) × (is_scalar w ≡ true)
type_image b t a (view.Whole low high) rest e = let is = scalar_image b t a low high rest e in (is.0, is.1, refl)
type_image b t a (view.Listed low high) rest e = let is = scalar_image b t a (pos low) (pos high) rest e in (is.0, is.1, refl)
type_image b t a w rest e = absurd (no_image_ended (array_attribute a w) rest t e)

-- Only an attribute of a scalar type is read as an image.
abbrev pub IsImage : Context → ℕ → ℕ → Entry → Tree → Type 0
IsImage c d t e rest =
    (a : Attribute) × (more : Tree) × (rest ≡ More (Attr a) more) × IsImaged more × (e ≡ entry.Type) × (t ≡ base c.known.table d) × (is_scalar (seen c d) ≡ true)

image_of : (c : Context) (d t : ℕ) (e : Entry) (rest : Tree) → of_entry c d e rest ≡ reading.Image t → IsImage c d t e rest
image_of c d t (entry.Object o) rest is = absurd (no_image_along c rest o.of t is)
image_of c d t (entry.Subprogram p) rest is = absurd (no_image_function d p.result rest t is)
image_of c d t (entry.Literal u n) rest is = absurd (no_image_value (is_end rest) u t (pos n) is)
image_of c d t entry.Type (More (Attr a) rest) is =
    let found = type_image (base c.known.table d) t a (seen c d) rest is in (a, rest, refl, found.0, refl, found.1, found.2)
image_of c d t (entry.Predefined predefined.EndOfFile) rest is = absurd (no_image_if (is_call rest) reading.EndOfFile t (λ z. false≢true (ap is_image z)) is)
image_of c d t e rest is = absurd (false≢true (ap is_image is))

pub join_only : (op : Operator) → (if is_join op then own.Text else if is_arithmetic op then own.Of integer else own.Of boolean) ≡ own.Text → op ≡ operator.Concatenate
join_only operator.Concatenate e = refl
join_only op e = absurd (false≢true (ap is_string e))

pub image_read : (c : Context) (d t : ℕ) (rest : Tree) → reading_of c d rest ≡ reading.Image t → IsImage c d t (entry_of c.known d) rest
unfolding reading_of
image_read c d t rest is = image_of c d t (entry_of c.known d) rest is
