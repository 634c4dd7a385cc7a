use Rattle.std.proofs.Common.{◌≡◌, not}
use Rattle.place_names.specs.Facts.{holds_behind}
use Rattle.state_trees.proofs.Numbered.{next}
use Rattle.state_trees.proofs.Passes.{passed}
use Rattle.state_trees.proofs.marks.pass.Given as goal

abbrev pub invariant-numbers : goal.invariant-numbers
invariant-numbers l = record {
  may : l.may.items ≡ passed (λ f m. holds_behind l.act f m) (next l.facts l.numbers l.k) l.facts l.initial.may.items;
  lacks : l.lacks.items ≡ passed (λ f m. not (holds_behind l.act f (not m))) (next l.facts l.numbers l.k) l.facts l.initial.lacks.items;
}
