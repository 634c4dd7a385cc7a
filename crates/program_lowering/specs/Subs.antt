-- What subprograms are, as the definitions have it.
use Rattle.std.specs.Prelude.{List, [], ◌∷◌, flat_map, if◌then◌else◌}
use Rattle.flow_paths.specs.declared.point.LaidSub.{LaidSub}
use Rattle.flow_paths.specs.Objects.{Signature, Typing, object_at}
use Rattle.run_codes.specs.Lowered.{Kept}
use Rattle.code_rows.specs.declared.point.Room.{Room}
use Rattle.code_rows.specs.declared.point.Room.TheVariants as room

abbrev pub signature_of : LaidSub → Signature
signature_of sub = record { formals = sub.formals; result = sub.result }

-- What stands in a frame: each object, and the loop of one that is the parameter of a loop.
abbrev pub kept_rooms : Typing → Kept → List Room
kept_rooms s k = room.Object (object_at s k.object).of ∷ (if k.loops then room.Counter ∷ [] else [])

abbrev pub rooms_in : Typing → List Kept → List Room
rooms_in s all = flat_map (kept_rooms s) all
