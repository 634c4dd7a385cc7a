use Rattle.std.proofs.Common.{◌≡◌, ◌<◌, ◌≤◌, ◌+◌, ◌*◌, ◌++◌, max, length, map}
use Rattle.std.specs.List.{All}
use Rattle.resolved_tree.specs.Nodes.{code_at}
use Rattle.typed_tree.specs.Nodes.{Grew}
use Rattle.typed_tree.specs.Statements.{scope_count}
use Rattle.typed_tree.specs.Programs.{subs_in}
use Rattle.typed_expressions.specs.Sites.{site}
use Rattle.typed_statements.specs.Bodies.{sub_at}
use Rattle.typed_statements.proofs.subs.+subs.Given as goal

abbrev pub decreases-subs : goal.decreases-subs
decreases-subs l = 3 * l.code + 1

abbrev pub decreases-subs_of_one : goal.decreases-subs_of_one
decreases-subs_of_one l = 3 * l.code

abbrev pub decreases-both : goal.decreases-both
decreases-both l = 3 * max l.first l.second + 2

abbrev pub invariant-subs-parts : goal.invariant-subs-parts
invariant-subs-parts l =
    (l.i < length l.writer.reader.rows.now.1) × (l.i ≤ l.code) × Grew l.initial.to l.to
    × All (λ b. b.body < length l.to.1) l.found.items
    × (l.next + scope_count (code_at l.writer.reader.rows.now l.i) ≡ l.initial.next + scope_count (code_at l.writer.reader.rows.now l.code))
    × (map (sub_at l.to) l.found.items ++ subs_in (site l.writer) l.next (code_at l.writer.reader.rows.now l.i)
    ≡ map (sub_at l.initial.to) l.initial.found.items
    ++ subs_in (site l.writer) l.initial.next (code_at l.writer.reader.rows.now l.code))

abbrev pub decreases-subs-parts : goal.decreases-subs-parts
decreases-subs-parts l = l.i
