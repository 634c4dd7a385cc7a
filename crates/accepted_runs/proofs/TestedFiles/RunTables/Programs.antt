-- What runs ask of the tables of programs without a fault of typing.
use Rattle.std.proofs.Common.{◌≡◌, ◌≤◌, ℕ, [], ◌∷◌, true, false, ap, ◌∙◌, arith, IsTrue, None, slice_get}
use Rattle.std.specs.Prelude.{codes}
use Rattle.machine.specs.resolved_tree.Trees.{Program}
use Rattle.machine.specs.type_definitions.declared.table.Shape.TheVariants as shape
use Rattle.machine.specs.type_definitions.Types.{shape_found, shape_of, meant_type_found, full, view_of, words}
use Rattle.machine.specs.type_definitions.Entries.{boolean}
use Rattle.machine.specs.type_definitions.Whole.{type_fault, known_of, predefined_types}
use Rattle.type_sizes.specs.Formed.{all_formed}
use Rattle.type_sizes.proofs.Limits.{within_limits}
use Rattle.settled_types.specs.Orderly.{IsOrderly}
use Rattle.settled_types.proofs.Main.{finite}
use Rattle.settled_types.proofs.GatheredLaws.Main.{are_types}
use Rattle.machine.specs.Typed.{Position, sorts}
use Rattle.run_codes.specs.Related.{IsTable}
use Rattle.run_fills.specs.Filled.{HasParts}
use Rattle.settled_types.specs.TableLaws.Ranks.{is_listed}
use Rattle.settled_types.proofs.TableLaws.Gathers.{has_bounds}
use Rattle.settled_types.proofs.TableLaws.Tables.{is_table, has_parts, truth_sorts}

module _ (p : Program) (formed : IsTrue (all_formed p.units)) (orderly : IsOrderly p) (none : type_fault p ≡ None) where
  pub small : (t : ℕ) → words (known_of p).table t ≤ 65536
  small t = (within_limits p formed none t).few_words

  pub program_table : IsTable (known_of p).table
  program_table = is_table (known_of p).table (finite p formed orderly none) small

  pub program_parts : HasParts (known_of p).table
  program_parts = has_parts (known_of p).table (finite p formed orderly none) small (has_bounds p)

  -- Boolean is predefined
  boolean_there : slice_get (known_of p).table boolean ≡ slice_get (predefined_types false) boolean
  boolean_there = (are_types p orderly).predefined boolean (omega arith)

  boolean_is : shape_of (known_of p).table boolean ≡ shape.Listed (codes "False" ∷ codes "True" ∷ []) 0 1
  boolean_is = ap (λ o. shape_found (slice_get (known_of p).table (meant_type_found boolean o))) boolean_there ∙ ap shape_found boolean_there

  pub program_truth : sorts (known_of p).table boolean ≡ Position ∷ []
  program_truth =
      truth_sorts (known_of p).table (finite p formed orderly none) small boolean (codes "False" ∷ codes "True" ∷ []) 0 1 boolean_is

  pub program_listed : is_listed (full (known_of p).table boolean) ≡ true
  program_listed = ap (λ s. is_listed (view_of s)) boolean_is
