use Rattle.std.proofs.Common.{◌≡◌, ◌++◌, drop}
use Rattle.typed_tree.specs.Printed.{selectors_text}
use Rattle.typed_tree.proofs.print.append_selectors.Given as goal

abbrev pub invariant-sels : goal.invariant-sels
invariant-sels l =
    l.text.items ++ selectors_text l.table l.of (drop l.sel-index l.sels)
    ≡ l.initial.text.items ++ selectors_text l.table l.initial.of l.sels
