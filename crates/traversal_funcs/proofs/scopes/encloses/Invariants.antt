use Rattle.std.proofs.Common.{◌≡◌, length}
use Rattle.flow_paths.specs.Views.{encloses_within}
use Rattle.traversal_funcs.proofs.scopes.encloses.Given as goal

abbrev pub invariant-outwards : goal.invariant-outwards
invariant-outwards l = encloses_within l.steps l.scopes l.a l.at ≡ encloses_within (length l.scopes) l.scopes l.a l.b

abbrev pub decreases-outwards : goal.decreases-outwards
decreases-outwards l = l.steps
