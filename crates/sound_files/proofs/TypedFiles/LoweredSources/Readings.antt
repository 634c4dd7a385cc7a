-- The values that names stand for have positions that are words, where so have the bounds of types and the literals.
use Rattle.std.proofs.Common.{◌≡◌, ◌⊎◌, inl, inr, ℕ, Bool, true, false, refl, nat_eq, ℤ, pos, Option, Some, None, if◌then◌else◌}
use Rattle.std.specs.Prelude.{slice_get}
use Rattle.machine.specs.resolved_tree.declared.operator.Attribute.{Attribute}
use Rattle.machine.specs.resolved_tree.declared.operator.Attribute.TheVariants as attribute
use Rattle.machine.specs.resolved_tree.Trees.{Tree, Attr, More}
use Rattle.machine.specs.type_definitions.declared.table.Info.{Info}
use Rattle.machine.specs.type_definitions.declared.table.Known.{Known}
use Rattle.machine.specs.type_definitions.declared.table.Predefined.{Predefined}
use Rattle.machine.specs.type_definitions.declared.table.Predefined.TheVariants as predefined
use Rattle.machine.specs.type_definitions.declared.table.Entry.{Entry}
use Rattle.machine.specs.type_definitions.declared.table.Entry.TheVariants as entry
use Rattle.machine.specs.type_definitions.declared.judgement.View.{View}
use Rattle.machine.specs.type_definitions.declared.judgement.View.TheVariants as view
use Rattle.machine.specs.type_definitions.declared.judgement.Next.{Next}
use Rattle.machine.specs.type_definitions.declared.judgement.Next.TheVariants.{Goes, Gives, Stops}
use Rattle.machine.specs.type_definitions.declared.judgement.Reading.{Reading}
use Rattle.machine.specs.type_definitions.declared.judgement.Reading.TheVariants as reading
use Rattle.machine.specs.type_definitions.Types.{base, full, meant_type, shape_found, view_of}
use Rattle.machine.specs.type_definitions.Entries.{entry_of, integer}
use Rattle.machine.specs.type_definitions.Names.{Context, is_within, seen_info, seen, step, is_end, ended, led_on, along, array_attribute, reading_if, is_call, is_imaged, scalar_attribute, ended_at, type_attribute, of_type, of_function, of_predefined, of_entry, reading_of}
use Rattle.machine.specs.type_definitions.Gathered.{natural_of}
use Rattle.sound_files.specs.TypedFiles.LoweredSources.Words.{IsWord}

-- The bounds of a scalar type.
abbrev pub HasWords : View → Type 0
HasWords (view.Whole low high) = IsWord (natural_of low) × IsWord (natural_of high)
HasWords (view.Listed low high) = IsWord low × IsWord high
HasWords v = Unit {0}

abbrev pub IsWordEntry : Entry → Type 0
IsWordEntry (entry.Literal t n) = IsWord n
IsWordEntry e = Unit {0}

-- A number of Integer stands as it is.
abbrev pub IsWordReading : Reading → Type 0
IsWordReading (reading.Value t v) = (nat_eq t integer ≡ true) ⊎ IsWord (natural_of v)
IsWordReading r = Unit {0}

pub record HasWordsAll (known : Known) : Type 0 where
  pub types : (t : ℕ) → HasWords (full known.table t)
  pub entries : (d : ℕ) → IsWordEntry (entry_of known d)

if_word : (b : Bool) (r : Reading) → IsWordReading r → IsWordReading (reading_if b r)
if_word true r is = is
if_word false r is = tt

value_word : (b : Bool) (t : ℕ) (v : ℤ) → IsWord (natural_of v) → IsWordReading (if b then reading.Value t v else reading.Off)
value_word true t v is = inr is
value_word false t v is = tt

ended_word : (b : Bool) (v : ℤ) → IsWordReading (ended b v)
ended_word true v = inl refl
ended_word false v = tt

scalar_word : (b : ℕ) (a : Attribute) (low high : ℤ) (rest : Tree) → IsWord (natural_of low) → IsWord (natural_of high)
    → IsWordReading (scalar_attribute b a low high rest)
scalar_word b attribute.First low high rest first last = value_word (is_end rest) b low first
scalar_word b attribute.Last low high rest first last = value_word (is_end rest) b high last
scalar_word b attribute.Image low high rest first last = if_word (is_imaged rest) (reading.Image b) tt
scalar_word b _ low high rest first last = tt

at_word : (n : Next) (rest : Tree) → IsWordReading (ended_at n rest)
at_word (Gives v) rest = ended_word (is_end rest) v
at_word _ rest = tt

attribute_word : (b : ℕ) (a : Attribute) (v : View) (rest : Tree) → HasWords v → IsWordReading (type_attribute b a v rest)
attribute_word b a (view.Whole low high) rest is = scalar_word b a low high rest is.0 is.1
attribute_word b a (view.Listed low high) rest is = scalar_word b a (pos low) (pos high) rest is.0 is.1
attribute_word b a v rest is = at_word (array_attribute a v) rest

on_word : (on : ℕ → Reading) → ((u : ℕ) → IsWordReading (on u)) → (rest : Tree) (n : Next) → IsWordReading (led_on on rest n)
on_word on is rest (Goes t) = is t
on_word on is rest (Gives v) = ended_word (is_end rest) v
on_word on is rest Stops = tt

along_word : (c : Context) (rest : Tree) (t : ℕ) → IsWordReading (along c t rest)
unfolding along
along_word c (More s rest) t = on_word (λ u. along c u rest) (λ u. along_word c rest u) rest (step c s t)
along_word c _ t = tt

function_word : (f : ℕ) (o : Option ℕ) (rest : Tree) → IsWordReading (of_function f o rest)
function_word f None rest = tt
function_word f (Some result) rest = if_word (is_call rest) (reading.Call f) tt

predefined_word : (p : Predefined) (rest : Tree) → IsWordReading (of_predefined p rest)
predefined_word predefined.EndOfFile rest = if_word (is_call rest) reading.EndOfFile tt
predefined_word _ rest = tt

module _ (c : Context) (words : HasWordsAll c.known) where
  pub seen_words : (t : ℕ) → HasWords (seen c t)
  unfolding seen
  seen_words t = by (slice_get c.known.table (meant_type c.known.table t)) (words.types t)
    where
      by : (o : Option Info) → HasWords (view_of (shape_found o)) → HasWords (seen_info c.within o)
      by None is = tt
      by (Some i) is = here (is_within i.seen_in c.within)
        where
          here : (b : Bool) → HasWords (if b then view_of i.shape else view.Hidden)
          here true = is
          here false = tt

  type_word : (t : ℕ) (rest : Tree) → IsWordReading (of_type c t rest)
  type_word t (More (Attr a) rest) = attribute_word (base c.known.table t) a (seen c t) rest (seen_words t)
  type_word t _ = tt

  entry_word : (d : ℕ) (e : Entry) (rest : Tree) → IsWordEntry e → IsWordReading (of_entry c d e rest)
  entry_word d (entry.Object o) rest is = along_word c rest o.of
  entry_word d (entry.Subprogram p) rest is = function_word d p.result rest
  entry_word d (entry.Literal t n) rest is = value_word (is_end rest) t (pos n) is
  entry_word d entry.Type rest is = type_word d rest
  entry_word d (entry.Predefined p) rest is = predefined_word p rest
  entry_word d entry.Nothing rest is = tt
  entry_word d entry.Package rest is = tt
  entry_word d (entry.Instance t) rest is = tt

  pub reading_word : (d : ℕ) (rest : Tree) → IsWordReading (reading_of c d rest)
  unfolding reading_of
  reading_word d rest = entry_word d (entry_of c.known d) rest (words.entries d)
