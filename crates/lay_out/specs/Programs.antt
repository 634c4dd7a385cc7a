-- The subprograms of a typed program, and what is made of them.
use Rattle.std.specs.Prelude.{◌≡◌, List, map}
use Rattle.typed_tree.specs.Programs.{TypedProgram}
use Rattle.typed_programs.specs.Parts.{program_of}
use Rattle.type_rules.specs.declared.typed.Typed.{Typed}
use Rattle.flow_paths.specs.Objects.{Typing}
use Rattle.flow_paths.specs.Laid.{typing_of}
use Rattle.flow_paths.specs.Stands.{flow_sub_of}
use Rattle.numbered_points.specs.Programs.{NumberedSub, all_numbered}
use Rattle.lay_out.specs.declared.laid_subs.LaidSubs.{LaidSubs}
use Rattle.lay_out.specs.Parts.{parts_of}
use Rattle.lay_out.specs.Subs.{subs_of, types_of}

-- The program that is typed, and what is known of its parts.
abbrev pub source : Typed → TypedProgram
source typed = program_of (parts_of typed)

abbrev pub known_of : Typed → Typing
known_of typed = typing_of typed.table (source typed)

-- Its subprograms, one laid out after the other.
abbrev pub numbered_in : Typed → List NumberedSub
numbered_in typed = all_numbered (known_of typed) (source typed).subs

-- These have their points, and their temporaries have these types.
pub record AreLaid (typed : Typed) (made : LaidSubs) : Type 0 where
  pub subs : map (flow_sub_of typed.rows) made.subs ≡ subs_of (numbered_in typed)
  pub types : made.types.items ≡ types_of (numbered_in typed)
