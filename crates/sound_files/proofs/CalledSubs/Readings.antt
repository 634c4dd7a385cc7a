-- What a name calls is known as a subprogram.
use Rattle.std.proofs.Common.{◌≡◌, ℕ, Bool, true, false, refl, ℤ, pos, Option, Some, None, if◌then◌else◌}
use Rattle.machine.specs.resolved_tree.declared.operator.Attribute.{Attribute}
use Rattle.machine.specs.resolved_tree.declared.operator.Attribute.TheVariants as attribute
use Rattle.machine.specs.resolved_tree.Trees.{Tree, Attr, More}
use Rattle.machine.specs.type_definitions.declared.table.Predefined.{Predefined}
use Rattle.machine.specs.type_definitions.declared.table.Predefined.TheVariants as predefined
use Rattle.machine.specs.type_definitions.declared.table.Entry.{Entry}
use Rattle.machine.specs.type_definitions.declared.table.Entry.TheVariants as entry
use Rattle.machine.specs.type_definitions.declared.judgement.View.{View}
use Rattle.machine.specs.type_definitions.declared.judgement.View.TheVariants as view
use Rattle.machine.specs.type_definitions.declared.judgement.Next.{Next}
use Rattle.machine.specs.type_definitions.declared.judgement.Next.TheVariants.{Goes, Gives, Stops}
use Rattle.machine.specs.type_definitions.declared.judgement.Reading.{Reading}
use Rattle.machine.specs.type_definitions.declared.judgement.Reading.TheVariants as reading
use Rattle.machine.specs.type_definitions.Types.{base}
use Rattle.machine.specs.type_definitions.Entries.{entry_of}
use Rattle.machine.specs.type_definitions.Names.{Context, seen, step, is_end, ended, led_on, along, array_attribute, reading_if, is_call, is_imaged, scalar_attribute, ended_at, type_attribute, of_type, of_function, of_predefined, of_entry, reading_of}
use Rattle.sound_files.specs.CalledSubs.Called.{is_subprogram_entry}

-- What it calls is as asked.
abbrev pub Says : (ℕ → Type 0) → Reading → Type 0
Says asked (reading.Call f) = asked f
Says asked _ = Unit {0}

module _ (asked : ℕ → Type 0) where
  says_if : (b : Bool) (r : Reading) → Says asked r → Says asked (reading_if b r)
  says_if true r says = says
  says_if false r says = tt

  value_says : (b : Bool) (t : ℕ) (v : ℤ) → Says asked (if b then reading.Value t v else reading.Off)
  value_says true t v = tt
  value_says false t v = tt

  ended_says : (b : Bool) (v : ℤ) → Says asked (ended b v)
  ended_says true v = tt
  ended_says false v = tt

  scalar_says : (b : ℕ) (a : Attribute) (low high : ℤ) (rest : Tree) → Says asked (scalar_attribute b a low high rest)
  scalar_says b attribute.First low high rest = value_says (is_end rest) b low
  scalar_says b attribute.Last low high rest = value_says (is_end rest) b high
  scalar_says b attribute.Image low high rest = says_if (is_imaged rest) (reading.Image b) tt
  scalar_says b _ low high rest = tt

  at_says : (n : Next) (rest : Tree) → Says asked (ended_at n rest)
  at_says (Gives v) rest = ended_says (is_end rest) v
  at_says _ rest = tt

  attribute_says : (b : ℕ) (a : Attribute) (v : View) (rest : Tree) → Says asked (type_attribute b a v rest)
  attribute_says b a (view.Whole low high) rest = scalar_says b a low high rest
  attribute_says b a (view.Listed low high) rest = scalar_says b a (pos low) (pos high) rest
  attribute_says b a v rest = at_says (array_attribute a v) rest

  type_says : (c : Context) (t : ℕ) (rest : Tree) → Says asked (of_type c t rest)
  type_says c t (More (Attr a) rest) = attribute_says (base c.known.table t) a (seen c t) rest
  type_says c t _ = tt

  on_says : (on : ℕ → Reading) → ((u : ℕ) → Says asked (on u)) → (rest : Tree) (n : Next) → Says asked (led_on on rest n)
  on_says on says rest (Goes t) = says t
  on_says on says rest (Gives v) = ended_says (is_end rest) v
  on_says on says rest Stops = tt

  along_says : (c : Context) (rest : Tree) (t : ℕ) → Says asked (along c t rest)
  unfolding along
  along_says c (More s rest) t = on_says (λ u. along c u rest) (λ u. along_says c rest u) rest (step c s t)
  along_says c _ t = tt

  function_says : (f : ℕ) (o : Option ℕ) (rest : Tree) → asked f → Says asked (of_function f o rest)
  function_says f None rest is = tt
  function_says f (Some result) rest is = says_if (is_call rest) (reading.Call f) is

  predefined_says : (p : Predefined) (rest : Tree) → Says asked (of_predefined p rest)
  predefined_says predefined.EndOfFile rest = says_if (is_call rest) reading.EndOfFile tt
  predefined_says _ rest = tt

  entry_says : (c : Context) (d : ℕ) (e : Entry) (rest : Tree) → (is_subprogram_entry e ≡ true → asked d) → Says asked (of_entry c d e rest)
  entry_says c d (entry.Object o) rest is = along_says c rest o.of
  entry_says c d (entry.Subprogram p) rest is = function_says d p.result rest (is refl)
  entry_says c d (entry.Literal t n) rest is = value_says (is_end rest) t (pos n)
  entry_says c d entry.Type rest is = type_says c d rest
  entry_says c d (entry.Predefined p) rest is = predefined_says p rest
  entry_says c d entry.Nothing rest is = tt
  entry_says c d entry.Package rest is = tt
  entry_says c d (entry.Instance t) rest is = tt

  pub reading_says : (c : Context) (d : ℕ) (rest : Tree) → (is_subprogram_entry (entry_of c.known d) ≡ true → asked d) → Says asked (reading_of c d rest)
  unfolding reading_of
  reading_says c d rest is = entry_says c d (entry_of c.known d) rest is
