-- What runs ask of tables of types holds of those that are fit.
use Rattle.std.proofs.Common.{◌≡◌, true, false, [], ◌∷◌, refl}
use Rattle.std.proofs.lemmas.Bool.{false≢true}
use Rattle.machine.specs.type_definitions.declared.table.Shape.{Shape}
use Rattle.machine.specs.type_definitions.declared.table.Shape.TheVariants as shape
use Rattle.machine.specs.type_definitions.Types.{Table, shape_of, view_of}
use Rattle.machine.specs.type_definitions.Entries.{boolean}
use Rattle.settled_types.specs.Wholes.{AreFinite}
use Rattle.machine.specs.Typed.{Position, sorts}
use Rattle.run_codes.specs.Related.{IsTable}
use Rattle.run_fills.specs.Filled.{HasParts}
use Rattle.settled_types.specs.TableLaws.Bounds.{HasBounds}
use Rattle.settled_types.specs.TableLaws.Ranks.{is_listed, IsFit}
use Rattle.settled_types.proofs.TableLaws.Ranked.{ranked_finite, few_words}
use Rattle.settled_types.proofs.TableLaws.Tables.{is_table, has_parts, truth_sorts}

never : false ≡ true → ⊥
never is = absurd (false≢true is)

module _ (table : Table) (fit : IsFit table) where
  finite : AreFinite table
  finite = ranked_finite table fit.ranks fit.types

  pub fit_table : IsTable table
  fit_table = is_table table finite (few_words table fit.ranks fit.types)

  pub fit_parts : HasBounds table → HasParts table
  fit_parts bounds = has_parts table finite (few_words table fit.ranks fit.types) bounds

  truth_of : (s : Shape) → shape_of table boolean ≡ s → is_listed (view_of s) ≡ true → sorts table boolean ≡ Position ∷ []
  truth_of (shape.Listed literals low high) is listed =
      truth_sorts table finite (few_words table fit.ranks fit.types) boolean literals low high is
  truth_of (shape.Whole low high) is listed = absurd (never listed)
  truth_of (shape.Access d constant named) is listed = absurd (never listed)
  truth_of (shape.Fields components) is listed = absurd (never listed)
  truth_of (shape.Elements low high element) is listed = absurd (never listed)
  truth_of (shape.Same of) is listed = absurd (never listed)

  pub fit_truth : sorts table boolean ≡ Position ∷ []
  fit_truth = truth_of (shape_of table boolean) refl fit.truth
