-- What runs ask of tables of types in which no type has itself in it.
use Rattle.std.proofs.Common.{◌≡◌, ◌≤◌, ℕ, true, false, Bool, ◌||◌, [], ◌∷◌, refl, sym, ap, ◌∙◌, arith, slice_get, nat_eq}
use Rattle.std.specs.Prelude.{flat_map}
use Rattle.std.proofs.lemmas.Bool.{false≢true}
use Rattle.machine.specs.type_definitions.declared.table.Shape.{Shape}
use Rattle.machine.specs.type_definitions.declared.table.Shape.TheVariants as shape
use Rattle.machine.specs.type_definitions.Types.{Table, shape_found, shape_of, meant_type, words, parts, parts_of, is_owning, owns_of}
use Rattle.settled_types.specs.Wholes.{AreFinite, AreWhole}
use Rattle.settled_types.proofs.Wholes.{finite_whole}
use Rattle.soundness.specs.PartOffsets.Parts.{IsSettled}
use Rattle.machine.specs.Words.{offsets, access_offsets}
use Rattle.machine.specs.Typed.{Position, sorts, sorts_of, same_kind}
use Rattle.run_codes.specs.Related.{IsTable}
use Rattle.run_fills.specs.Filled.{HasParts}
use Rattle.settled_types.specs.TableLaws.Bounds.{HasBounds}
use Rattle.settled_types.proofs.TableLaws.Sorts.{sort_law}
use Rattle.settled_types.proofs.TableLaws.Offsets.{access_at}

module _ (table : Table) (finite : AreFinite table) (small : (t : ℕ) → words table t ≤ 65536) where
  wholes : AreWhole table
  wholes = finite_whole table finite

  settled : IsSettled table
  settled = record { word_law = wholes.word_law; part_law = wholes.part_law; plain = wholes.plain }

  law : (t : ℕ) → sorts table t ≡ sorts_of (sorts table) (shape_of table t)
  law = sort_law table finite

  by_shape : (t : ℕ) (s : Shape) → shape_of table t ≡ s → sorts table t ≡ sorts_of (sorts table) s
  by_shape t s is = law t ∙ ap (sorts_of (sorts table)) is

  -- scalar types of one kind
  scalar_same : (t u : ℕ) (a b : Shape) → shape_of table t ≡ a → shape_of table u ≡ b → same_kind a b ≡ true → sorts table t ≡ sorts table u
  scalar_same t u (shape.Whole a b) (shape.Whole c d) is other same = by_shape t (shape.Whole a b) is ∙ sym (by_shape u (shape.Whole c d) other)
  scalar_same t u (shape.Listed k a b) (shape.Listed l c d) is other same = by_shape t (shape.Listed k a b) is ∙ sym (by_shape u (shape.Listed l c d) other)
  scalar_same t u _ _ is other same = absurd (never same)
    where
      never : false ≡ true → ⊥
      never x = absurd (false≢true x)

  same_number : (a b : ℕ) → nat_eq a b ≡ true → a ≡ b
  same_number a b is = grind arith

  designated : (t u : ℕ) (b : Bool) → nat_eq (meant_type table t) (meant_type table u) ≡ b → b || same_kind (shape_of table t) (shape_of table u) ≡ true → sorts table t ≡ sorts table u
  designated t u true one is =
      law t ∙ ap (λ k. sorts_of (sorts table) (shape_found (slice_get table k))) (same_number (meant_type table t) (meant_type table u) one) ∙ sym (law u)
  designated t u false other is = scalar_same t u (shape_of table t) (shape_of table u) refl refl is

  pub is_table : IsTable table
  is_table = record {
    whole = λ t low high is. by_shape t (shape.Whole low high) is;
    listed = λ t low high literals is. by_shape t (shape.Listed literals low high) is;
    access = λ t d constant named is. by_shape t (shape.Access d constant named) is;
    fields = λ t components is. by_shape t (shape.Fields components) is;
    elements = λ t element low high is. by_shape t (shape.Elements low high element) is;
    same = λ t u is. designated t u (nat_eq (meant_type table t) (meant_type table u)) refl is;
    small = small;
    accesses = λ t o has. access_at table law settled t o has;
  }

  -- an owning access type is its own access part
  named_parts : (d : ℕ) (constant named : Bool) → named ≡ true → parts_of (parts table) (shape.Access d constant named) ≡ [] ∷ []
  named_parts d constant true is = refl
  named_parts d constant false is = absurd (never is)
    where
      never : false ≡ true → ⊥
      never x = absurd (false≢true x)

  own_offsets : (t : ℕ) → parts table t ≡ [] ∷ [] → access_offsets table t ≡ 0 ∷ []
  unfolding offsets
  own_offsets t is = ap (λ l. flat_map (offsets table t) l) is

  single : (t d : ℕ) (constant named : Bool) → shape_of table t ≡ shape.Access d constant named → is_owning table t ≡ true → access_offsets table t ≡ 0 ∷ []
  single t d constant named is owns =
      let owned : named ≡ true = sym (wholes.own_law t ∙ ap (owns_of (is_owning table)) is) ∙ owns in
      own_offsets t (wholes.part_law t ∙ ap (parts_of (parts table)) is ∙ named_parts d constant named owned)

  pub has_parts : HasBounds table → HasParts table
  has_parts bounds = record { whole = bounds.whole; listed = bounds.listed; single = single }

  pub truth_sorts : (t : ℕ) (literals : _) (low high : ℕ) → shape_of table t ≡ shape.Listed literals low high → sorts table t ≡ Position ∷ []
  truth_sorts t literals low high is = by_shape t (shape.Listed literals low high) is
