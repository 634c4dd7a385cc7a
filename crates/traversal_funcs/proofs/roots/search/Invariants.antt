use Rattle.std.proofs.Common.{ℕ, ◌+◌, length}
use Rattle.spark_base.specs.Lists.{Has}
use Rattle.label_flow.specs.Searches.{Searched}
use Rattle.program_typing.specs.Typings.{typing}
use Rattle.traversal_funcs.specs.Questions.{is_answer}
use Rattle.traversal_funcs.specs.Searches.{flow_on, labels_in, missing}
use Rattle.traversal_funcs.proofs.roots.search.Given as goal

abbrev pub invariant-turns : goal.invariant-turns
invariant-turns l =
    Searched (flow_on (is_answer (typing l.known) l.question) l.lendings)
    (labels_in (is_answer (typing l.known) l.question) l.found.keys) l.work.items
    × ((a : ℕ) → Has l.work.items a → Has l.found.keys a)

-- the sources whose holder isn't found yet, and the work
abbrev pub decreases-turns : goal.decreases-turns
decreases-turns l = missing l.found.keys l.lendings + length l.work.items
