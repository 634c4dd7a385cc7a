-- The package objects of a program without a fault of typing are declared without calls.
use Rattle.std.proofs.Common.{◌≡◌, ap, ◌∙◌, not, true, List, None}
use Rattle.machine.specs.spark_base.Lists.{Has}
use Rattle.machine.specs.resolved_tree.Trees.{Code, Program}
use Rattle.machine.specs.type_definitions.Whole.{known_of, type_fault}
use Rattle.machine.specs.typed_tree.Programs.{TypedSub, elaborated, over_units, site_of, elaboration}
use Rattle.machine.specs.flow_paths.Points.{NamedPoint}
use Rattle.machine.specs.flow_paths.Laid.{unnumbered, elaboration_points, typing_of}
use Rattle.soundness.specs.Sound.{calls_procedures}
use Rattle.settled_types.proofs.OrderLaws.ScopeLaws.Lists.{all_has}
use Rattle.settled_types.specs.OrderLaws.ReadyLaws.InOrder.{declares_only, AreStill}
use Rattle.settled_types.specs.OrderLaws.Written.{is_unit}
use Rattle.settled_types.specs.OrderLaws.Orderly.{typed_of}
use Rattle.settled_types.proofs.OrderLaws.Faults.{units_faultless}
use Rattle.settled_types.proofs.OrderLaws.First.{units_declare, declares_alone}
use Rattle.settled_types.specs.OrderLaws.PackageValues.Calls.{calls_nothing}
use Rattle.settled_types.proofs.OrderLaws.PackageValues.Packages.{package_values}
use Rattle.settled_types.proofs.OrderLaws.PackageValues.Declared.{Declares, package_declares}

module _ (p : Program) (no_fault : type_fault p ≡ None) (written : (u : Code) → Has p.units u → is_unit u ≡ true) where
  abbrev first : TypedSub
  first = elaboration (site_of (known_of p) p.units) p.units

  declares : declares_only first.body ≡ true
  declares = declares_alone (over_units (elaborated (site_of (known_of p) p.units)) 1 p.units) (units_declare (site_of (known_of p) p.units) 1 p.units written)

  no_calls : calls_nothing first.body ≡ true
  no_calls = package_values (known_of p) p.units written (units_faultless p no_fault)

  pub packages_still : AreStill (known_of p).table (typed_of p) (elaboration (site_of (known_of p) p.units) p.units)
  packages_still q there =
      let all : List NamedPoint = elaboration_points (unnumbered (typing_of (known_of p).table (typed_of p))) first in
      let found = all_has Declares all q (package_declares (unnumbered (typing_of (known_of p).table (typed_of p))) first declares no_calls) there in
      ap calls_procedures found.2 ∙ ap not found.3
