-- Where a point with leak checks stops, the cells of before are there.
use Rattle.std.proofs.Common.{ℕ, ℤ, Option, sym, subst}
use Rattle.spark_base.specs.declared.position.Pos.{Pos}
use Rattle.type_definitions.specs.Types.{Table}
use Rattle.run_codes.specs.Codes.{Place}
use Rattle.run_codes.specs.Flat.{Got, Given, Stops, Broken, Stop}
use Rattle.code_rows.specs.declared.rows.Rows.{Rows}
use Rattle.code_rows.specs.declared.point.Does.{Does}
use Rattle.code_rows.specs.declared.point.Does.TheVariants as does
use Rattle.code_rows.specs.Rows.{code_at, place_of}
use Rattle.code_rows.specs.Values.{fill_at}
use Rattle.handled_runs.specs.Slots.{Slots}
use Rattle.handled_runs.specs.Values as values
use Rattle.handled_runs.specs.Assigned.{Left, assigned}
use Rattle.handled_runs.specs.Released.{released}
use Rattle.made_cells.specs.Since.{Since, FilledSince}
use Rattle.made_cells.proofs.Values.{fill_since}
use Rattle.slot_points.specs.Changing.{With}
use Rattle.slot_points.specs.Steps.{ended_pointer}
use Rattle.slot_places.specs.Steps.{ended_scope}
use Rattle.slot_goings.specs.Changes.{Change, Leads, Halts, Fails, left, on_value, pointer_left, ValuesChange}

-- So it is of a change.
abbrev HaltedSince : Slots → Change → Type 0
HaltedSince before (Leads t n leaks) = Unit {0}
HaltedSince before (Halts x t) = Since before t
HaltedSince before Fails = Unit {0}

left_since : (before : Slots) (n : ℕ) (s : Slots) (g : Got (Left Slots)) → Since before s → HaltedSince before (left n s g)
left_since before n s (Given l) is = tt
left_since before n s (Stops x) is = is
left_since before n s Broken is = tt

pointer_since : (before : Slots) (p : Pos) (n : ℕ) (s : Slots) (g : Got (With ℤ)) → Since before s → HaltedSince before (pointer_left p n s g)
pointer_since before p n s (Given x) is = tt
pointer_since before p n s (Stops x) is = is
pointer_since before p n s Broken is = tt

module _ (table : Table) (rows : Rows) (pos : Pos) (s : Slots) (none : Since s s) where
  value_since : (p : Place) (of : ℕ) (checks : Option Pos) (n : ℕ) (g : values.Outcome) → FilledSince s g → HaltedSince s (on_value g (λ zs t. left n t (assigned table p of checks zs t)))
  value_since p of checks n (values.Gives zs t) is = left_since s n t (assigned table p of checks zs t) is
  value_since p of checks n (values.Ends x t) is = is
  value_since p of checks n values.Fails is = tt

  changes_since : (d : Does) (r : Change) → ValuesChange table rows pos d s r → HaltedSince s r
  changes_since (does.Assign p v of checks n) r is =
      let filled : FilledSince s is.0 = fill_since s table (fill_at rows.nodes rows.fills v) s is.0 none is.1 in
      subst (HaltedSince s) (sym is.2) (value_since (place_of (code_at rows.nodes) p) of checks n is.0 filled)
  changes_since (does.Release p of at n) r is =
      subst (HaltedSince s) (sym is) (left_since s n s (released table (place_of (code_at rows.nodes) p) of at s) none)
  changes_since (does.EndPointer at n) r is = subst (HaltedSince s) (sym is) (pointer_since s pos n s (ended_pointer at s) none)
  changes_since (does.EndScope at of n) r is = subst (HaltedSince s) (sym is) (left_since s n s (ended_scope table at of pos s) none)
  changes_since _ r is = subst (HaltedSince s) (sym is) tt

  pub change_since : (d : Does) (x : Stop) (t : Slots) → ValuesChange table rows pos d s (Halts x t) → Since s t
  change_since d x t is = changes_since d (Halts x t) is
