-- Typed programs whose objects and scopes are there.
use Rattle.std.specs.Prelude.{ℕ, List, ◌∷◌}
use Rattle.resolved_tree.specs.Trees.{Code}
use Rattle.typed_tree.specs.declared.object.Object.{Object}
use Rattle.typed_tree.specs.Expressions.{Site}
use Rattle.typed_tree.specs.Programs.{TypedProgram, elaboration, main_of, over_units, subs_in}

-- What units mean, with these objects and scopes.
abbrev pub program_with : Site → List Object → List ℕ → List Code → TypedProgram
program_with s objects scopes units = record {
  objects = objects;
  scopes = scopes;
  subs = elaboration s units ∷ over_units (subs_in s) 1 units;
  main = main_of s units;
}
