-- What is asked of resolved code without a fault of typing: it is as the grammar has it, declares in order, its
-- anonymous access types have numbers of their own, and its identifiers denote what the program declares.
use Rattle.std.specs.Prelude.{◌≡◌, true}
use Rattle.std.proofs.Common.{IsTrue}
use Rattle.machine.specs.spark_base.Lists.{Has}
use Rattle.machine.specs.resolved_tree.Trees.{Code, Program}
use Rattle.machine.specs.type_definitions.Whole.{known_of}
use Rattle.type_sizes.specs.Formed.{all_formed}
use Rattle.settled_types.specs.Orderly.{IsOrderly}
use Rattle.settled_types.specs.GatheredLaws.Left.{Left}
use Rattle.settled_types.specs.GatheredLaws.Made.{IsMade}
use Rattle.settled_types.specs.GatheredLaws.Views.{AreViews}
use Rattle.settled_types.specs.OrderLaws.Written.{is_unit}
use Rattle.soundness.specs.TypedLaws.TypedPoints.Meant.{AreMeantBodies, AreMeantObjects}
use Rattle.sound_files.specs.TypedFiles.TypedRuns.Formals.{AreProfiled}
use Rattle.sound_files.specs.TypedFiles.TypedRuns.Meant.{site_in, typing_laid}

pub record IsMeant (p : Program) : Type 0 where
  pub formed : IsTrue (all_formed p.units)
  pub orderly : IsOrderly p
  pub written : (u : Code) → Has p.units u → is_unit u ≡ true
  -- anonymous access types have numbers of their own
  pub views : AreViews p.units (known_of p).table
  -- no two components of a record have one name
  pub apart : Left (known_of p)
  pub profiled : AreProfiled (known_of p) (site_in p).bodies (typing_laid p) (IsMade p.units)
  pub bodies : (u : Code) → Has p.units u → AreMeantBodies (site_in p) (typing_laid p) (IsMade p.units) u
  pub objects : (u : Code) → Has p.units u → AreMeantObjects (site_in p) (typing_laid p) (IsMade p.units) u
