use Rattle.std.proofs.Common.{◌≡◌, ◌<◌, ◌≤◌, ◌+◌, ◌*◌, ◌++◌, max, length, map}
use Rattle.std.specs.List.{All}
use Rattle.resolved_tree.specs.Nodes.{code_at}
use Rattle.typed_tree.specs.Nodes.{typed_code_at, Grew}
use Rattle.typed_tree.specs.Statements.{scope_count, statements}
use Rattle.typed_expressions.specs.Sites.{site}
use Rattle.typed_statements.proofs.walk.+walk.Given as goal

-- A call goes down by six for each step into a node, and within one from `statements` to `item`,
-- and from there to a form.
abbrev pub decreases-statements : goal.decreases-statements
decreases-statements l = 6 * l.code + 2

abbrev pub decreases-item : goal.decreases-item
decreases-item l = 6 * l.code + 1

abbrev pub decreases-both : goal.decreases-both
decreases-both l = 6 * max l.first l.second + 4

abbrev pub decreases-compound : goal.decreases-compound
decreases-compound l = 6 * l.code

abbrev pub decreases-list : goal.decreases-list
decreases-list l = 6 * l.code + 3

abbrev pub decreases-body : goal.decreases-body
decreases-body l = 6 * max l.items l.stmts + 3

abbrev pub decreases-if_statement : goal.decreases-if_statement
decreases-if_statement l = 6 * max l.branches l.otherwise + 4

abbrev pub decreases-branch : goal.decreases-branch
decreases-branch l = 6 * l.stmts + 4

abbrev pub decreases-case : goal.decreases-case
decreases-case l = 6 * l.alternatives + 4

abbrev pub decreases-alternative : goal.decreases-alternative
decreases-alternative l = 6 * l.stmts + 4

abbrev pub decreases-plain_loop : goal.decreases-plain_loop
decreases-plain_loop l = 6 * l.stmts + 4

abbrev pub decreases-while_loop : goal.decreases-while_loop
decreases-while_loop l = 6 * l.stmts + 4

abbrev pub decreases-for_loop : goal.decreases-for_loop
decreases-for_loop l = 6 * l.stmts + 4

abbrev pub decreases-block : goal.decreases-block
decreases-block l = 6 * max l.items l.stmts + 4

abbrev pub invariant-statements-parts : goal.invariant-statements-parts
invariant-statements-parts l =
    (l.i < length l.writer.reader.rows.now.1) × (l.i ≤ l.code) × Grew l.initial.to l.to
    × All (λ k. k < length l.to.1) l.made.items
    × (l.next + scope_count (code_at l.writer.reader.rows.now l.i) ≡ l.initial.next + scope_count (code_at l.writer.reader.rows.now l.code))
    × (map (typed_code_at l.to) l.made.items ++ statements (site l.writer) l.next (code_at l.writer.reader.rows.now l.i)
    ≡ map (typed_code_at l.initial.to) l.initial.made.items
    ++ statements (site l.writer) l.initial.next (code_at l.writer.reader.rows.now l.code))

abbrev pub decreases-statements-parts : goal.decreases-statements-parts
decreases-statements-parts l = l.i
