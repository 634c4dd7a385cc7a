-- Types that aren't known: a mark that denotes none breaks K1, and nothing is broken by what has
-- the type that stands for it.
use Rattle.std.proofs.Common.{◌≡◌, refl, ap, ◌∙◌, ℕ, Bool, true, false, not, ◌&&◌, ◌||◌, List, [], ◌++◌, nat_eq, ℤ, Option, None, Some, if◌then◌else◌}
use Rattle.spark_base.specs.declared.position.Pos.{Pos}
use Rattle.resolved_tree.specs.declared.node.Mark.{Mark}
use Rattle.resolved_tree.specs.declared.operator.Attribute.{Attribute}
use Rattle.resolved_tree.specs.Trees.{Tree, Aggregate, Selected, All, Applied, Attr, NoMore, More, position}
use Rattle.type_definitions.specs.declared.judgement.Next.TheVariants.{Goes}
use Rattle.type_definitions.specs.declared.judgement.Own.TheVariants as own
use Rattle.type_definitions.specs.declared.judgement.Reading.TheVariants as reading
use Rattle.type_definitions.specs.declared.judgement.Role.TheVariants as role
use Rattle.type_definitions.specs.declared.judgement.View.TheVariants as view
use Rattle.type_definitions.specs.declared.judgement.Where.{Where}
use Rattle.type_definitions.specs.declared.table.Component.{Component}
use Rattle.type_definitions.specs.declared.table.Entry.{Entry}
use Rattle.type_definitions.specs.declared.table.Entry.TheVariants as entry
use Rattle.type_definitions.specs.declared.table.Known.{Known}
use Rattle.type_definitions.specs.Types.{base, fields, full, same_bounds, has_value, is_bounded, is_owning, is_same, is_scalar, is_untyped, untyped}
use Rattle.type_definitions.specs.Faults.{demand, K1}
use Rattle.type_definitions.specs.Entries.{entry_of, is_type, denotes_type, type_of_mark, type_of_entry, marked, is_complete}
use Rattle.type_definitions.specs.Names.{Context, seen, through, selected_component, indexed, is_index, dereferenced, array_attribute, led_on, step, along}
use Rattle.type_definitions.specs.Expressions.{Given, all_by_position, given_names, allowed, around, arguments, designated, fits, fits_aggregate, inside, is_access, is_access_place, is_of, mark_faults, one_type, scalar_own, traversed_name, traverses}
use Rattle.type_definitions.specs.Statements.{designates}
use Rattle.type_definitions.specs.Declarations.{access_mark}

-- ---- a mark

by_entry : (d : ℕ) (e : Entry) → is_type e ≡ false → type_of_entry d e ≡ untyped
by_entry d entry.Nothing never = refl
by_entry d entry.Package never = refl
by_entry d entry.Type never = cc
by_entry d (entry.Object o) never = refl
by_entry d (entry.Literal t n) never = refl
by_entry d (entry.Subprogram p) never = refl
by_entry d (entry.Instance t) never = refl
by_entry d (entry.Predefined p) never = refl

-- A type that isn't known stands for what is none,
pub stands_for : (known : Known) (d : Option ℕ) → denotes_type known d ≡ false → type_of_mark known d ≡ untyped
stands_for known None never = refl
stands_for known (Some d) never = by_entry d (entry_of known d) never

-- and the mark breaks K1, in each place where one stands.
pub mark_told : (known : Known) (m : Mark) → denotes_type known m.decl ≡ false → mark_faults known m ≡ K1 m.pos
mark_told known m never =
    ap (λ b. demand 1 m.pos (b && is_complete known (marked known m) m.pos) ++ demand 7 m.pos (not b || has_value (full known.table (marked known m)))) never

pub access_told : (known : Known) (m : Mark) → denotes_type known m.decl ≡ false → access_mark known m ≡ K1 m.pos
access_told known m never =
    ap (λ b. demand 1 m.pos b ++ demand 7 m.pos (not b || has_value (full known.table (marked known m)))) never

-- ---- what has such a type

module _ (c : Context) (t : ℕ) (is : is_untyped c.known.table t ≡ true) where
  -- It has each type that is demanded,
  pub is_any : (want : ℕ) → is_of c.known want (own.Of t) ≡ true
  is_any want = ap (λ b. b || nat_eq (base c.known.table t) (base c.known.table want)) is

  pub is_any_scalar : scalar_own c (own.Of t) ≡ true
  is_any_scalar = ap (λ b. b || is_scalar (seen c t)) is

  pub is_like : (s : ℕ) → one_type c.known (own.Of t) (own.Of s) ≡ true
  is_like s = ap (λ b. b || (is_untyped c.known.table s || nat_eq (base c.known.table t) (base c.known.table s))) is

  pub is_access_value : is_access_place c (reading.Place t) ≡ true
  is_access_value = ap (λ b. b || is_access (seen c t)) is

  pub is_source : (want : ℕ) → designates c want (own.Of t) ≡ true
  is_source want =
      ap (λ b. b || (is_access (seen c t) && is_same c.known.table (designated (full c.known.table t)) (designated (full c.known.table want)))) is

  pub is_traversed : (want : ℕ) (p : Pos) → traversed_name c want p (reading.Place t) ≡ []
  is_traversed want p =
      ap (λ b. if b then [] else demand 1 p (is_access (seen c t)) ++ demand 6 p (traverses c want t)) is

  -- it is one type with each other one,
  pub is_one : (s : ℕ) → is_same c.known.table t s ≡ true
  is_one s =
      ap (λ b. b || (is_untyped c.known.table s || (nat_eq (base c.known.table t) (base c.known.table s) && same_bounds (full c.known.table t) (full c.known.table s)))) is

  -- and each expression may stand where it is demanded, where nothing in it is owning.
  pub takes_any : (at : Where) (e : Tree) → is_owning c.known.table t ≡ false → around c at t e ≡ []
  takes_any at e owns =
      ap (λ b. demand 1 (position e) (b || fits c t e) ++ demand 5 (position e) (not (is_owning c.known.table t) || allowed c at e)) is
      ∙ ap (λ b. demand 5 (position e) (not b || allowed c at e)) owns

  -- What stands for its parts is looked at by itself.
  pub takes_parts : (p : Pos) (loose : Bool) (args : Tree) → inside c loose t (Aggregate p args) ≡ arguments c (role.Every t) 0 args
  unfolding inside
  takes_parts p loose args =
      ap (λ b. demand 4 p (b || fits_aggregate (is_bounded c.known.table t) (seen c t) (fields c.known.table t) (given_names args))
      ++ arguments c (if b then role.Every t else role.Parts t) 0 args) is

-- ---- names that lead on from such a place

-- Selectors, indexes, dereferences and attributes.
abbrev pub AreSteps : Tree → Type 0
AreSteps (More (Selected w) rest) = AreSteps rest
AreSteps (More (Applied args) rest) = AreSteps rest
AreSteps (More All rest) = AreSteps rest
AreSteps (More (Attr a) rest) = AreSteps rest
AreSteps NoMore = Unit {0}
AreSteps _ = ⊥

-- Each step from a place leads to one of no known type, where that of the place, or what it
-- designates, isn't known.
pub selector_leads : (c : Context) (t : ℕ) (w : List ℕ) → is_untyped c.known.table (through (seen c t) t) ≡ true → step c (Selected w) t ≡ Goes untyped
unfolding step
selector_leads c t w is =
    ap (λ b. if b then Goes untyped else selected_component w (seen c (through (seen c t) t)) (fields c.known.table (through (seen c t) t))) is

pub index_leads : (c : Context) (t : ℕ) (args : Tree) → is_untyped c.known.table (through (seen c t) t) ≡ true → step c (Applied args) t ≡ Goes untyped
unfolding step
index_leads c t args is = ap (λ b. if b then Goes untyped else indexed (is_index args) (seen c (through (seen c t) t))) is

pub all_leads : (c : Context) (t : ℕ) → is_untyped c.known.table t ≡ true → step c All t ≡ Goes untyped
unfolding step
all_leads c t is = ap (λ b. if b then Goes untyped else dereferenced (seen c t)) is

pub attribute_leads : (c : Context) (t : ℕ) (a : Attribute) → is_untyped c.known.table t ≡ true → step c (Attr a) t ≡ Goes untyped
unfolding step
attribute_leads c t a is = ap (λ b. if b then Goes untyped else array_attribute a (seen c t)) is

-- So a name stays a place of no known type, whatever follows it. The row of such a type is that of
-- no access type.
module _ (c : Context) (is : is_untyped c.known.table untyped ≡ true) (here : through (seen c untyped) untyped ≡ untyped) where
  there : is_untyped c.known.table (through (seen c untyped) untyped) ≡ true
  there = ap (is_untyped c.known.table) here ∙ is

  pub leads_nowhere : (rest : Tree) → AreSteps rest → along c untyped rest ≡ reading.Place untyped
  unfolding along
  leads_nowhere (More (Selected w) rest) are = ap (led_on (λ u. along c u rest) rest) (selector_leads c untyped w there) ∙ leads_nowhere rest are
  leads_nowhere (More (Applied args) rest) are = ap (led_on (λ u. along c u rest) rest) (index_leads c untyped args there) ∙ leads_nowhere rest are
  leads_nowhere (More All rest) are = ap (led_on (λ u. along c u rest) rest) (all_leads c untyped is) ∙ leads_nowhere rest are
  leads_nowhere (More (Attr a) rest) are = ap (led_on (λ u. along c u rest) rest) (attribute_leads c untyped a is) ∙ leads_nowhere rest are
  leads_nowhere NoMore are = refl
  leads_nowhere rest are = absurd are

-- ---- counts of elements

-- An aggregate by position of an array whose bounds aren't known may have any length.
pub any_length : (low high : ℤ) (element : ℕ) (cs : List Component) (given : List Given) → all_by_position given ≡ true
    → fits_aggregate false (view.Elements low high element) cs given ≡ true
any_length low high element cs given by = ap (λ b. b && true) by
