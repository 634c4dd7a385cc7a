-- What is asked of a text beside that it breaks no sentence. Objects are those of the program as it is laid out, with
-- its temporaries.
use Rattle.std.specs.Prelude.{ℕ, map}
use Rattle.machine.specs.spark_base.Lists.{Has}
use Rattle.machine.specs.resolved_tree.Trees.{Code, Program}
use Rattle.machine.specs.type_definitions.Whole.{known_of}
use Rattle.machine.specs.typed_tree.Expressions.{Site}
use Rattle.machine.specs.typed_tree.Programs.{TypedProgram, site_of, typed_program}
use Rattle.machine.specs.flow_paths.Objects.{Typing}
use Rattle.machine.specs.flow_paths.Laid.{FlowProgram, signature, flow_program}
use Rattle.soundness.specs.TypedLaws.TypedPoints.Meant.{AreMeantBodies, AreMeantObjects}
use Rattle.sound_files.specs.TypedFiles.TypedRuns.Formals.{AreProfiled}
use Rattle.sound_files.specs.TypedFiles.TypedRuns.Bounds.{HaveBounds}

abbrev pub typed_in : Program → TypedProgram
typed_in p = typed_program (known_of p) p.units

abbrev pub laid_in : Program → FlowProgram
laid_in p = flow_program (known_of p).table (typed_in p)

abbrev pub site_in : Program → Site
site_in p = site_of (known_of p) p.units

-- The types, the objects and the subprograms of a program that is laid out.
abbrev pub typing_laid : Program → Typing
typing_laid p = record { table = (known_of p).table; objects = (laid_in p).objects; subs = map signature (typed_in p).subs }

-- `made` says of which numbers stand for types.
pub record IsMeantText (p : Program) (made : ℕ → Type 0) : Type 0 where
  pub bounds : HaveBounds (known_of p).table
  pub profiled : AreProfiled (known_of p) (site_in p).bodies (typing_laid p) made
  pub bodies : (u : Code) → Has p.units u → AreMeantBodies (site_in p) (typing_laid p) made u
  pub objects : (u : Code) → Has p.units u → AreMeantObjects (site_in p) (typing_laid p) made u
