-- The subprograms of an accepted program whose resolved code is orderly are in order.
use Rattle.std.proofs.Common.{◌≡◌, None}
use Rattle.machine.specs.resolved_tree.Trees.{Program}
use Rattle.machine.specs.type_definitions.Types.{Table}
use Rattle.machine.specs.type_definitions.Whole.{known_of, type_fault}
use Rattle.machine.specs.flow_paths.declared.report.Effects.{Effects}
use Rattle.soundness.specs.Typed.{OwnsByShape}
use Rattle.soundness.specs.Sound.{Accepted}
use Rattle.settled_types.specs.OrderLaws.ReadyLaws.InOrder.{IsInOrder}
use Rattle.settled_types.specs.OrderLaws.Orderly.{typed_of, IsOrderly}
use Rattle.settled_types.proofs.OrderLaws.Faults.{units_faultless}
use Rattle.settled_types.proofs.OrderLaws.Unmoved.{package_values}
use Rattle.settled_types.proofs.OrderLaws.Whole.{in_order}

module _ (p : Program) (effects : Effects) (no_fault : type_fault p ≡ None) (accepted : Accepted (known_of p).table (typed_of p) effects)
    (owns : OwnsByShape (known_of p).table) (orderly : IsOrderly p) where
  abbrev table : Table
  table = (known_of p).table

  pub is_in_order : IsInOrder table (typed_of p)
  is_in_order =
      in_order table (known_of p) p.units orderly.written orderly.once owns accepted.fine
      orderly.formals orderly.seen (package_values (known_of p) p.units orderly.whole orderly.written (units_faultless p no_fault))
      (units_faultless p no_fault) orderly.main orderly.is_main
