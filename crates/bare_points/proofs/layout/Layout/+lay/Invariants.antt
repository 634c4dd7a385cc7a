use Rattle.std.proofs.Common.{◌≡◌, ◌<◌, ◌≤◌, ◌+◌, ◌*◌, ◌++◌, max, length}
use Rattle.numbered_points.specs.Extents.{size}
use Rattle.bare_points.specs.Spans.{branches_span, whens_span}
use Rattle.bare_points.specs.BareLaid.{bare_branches, bare_laid, bare_whens}
use Rattle.bare_points.specs.Layouts.{code_in, ends_in, laying, made_in, span_in}
use Rattle.bare_points.proofs.layout.Layout.+lay.Given as goal

-- A call goes down by eight for each step into a node, and within one from `statements` to
-- `compound`, and from there to a form.
abbrev pub decreases-statements : goal.decreases-statements
decreases-statements l = 8 * l.c + 2

abbrev pub decreases-compound : goal.decreases-compound
decreases-compound l = 8 * l.c + 1

abbrev pub decreases-pair : goal.decreases-pair
decreases-pair l = 8 * max l.first l.rest + 3

abbrev pub decreases-if_statement : goal.decreases-if_statement
decreases-if_statement l = 8 * max l.branches l.otherwise + 4

abbrev pub decreases-branches : goal.decreases-branches
decreases-branches l = 8 * l.list + 3

abbrev pub decreases-branch : goal.decreases-branch
decreases-branch l = 8 * l.c

abbrev pub decreases-conditional : goal.decreases-conditional
decreases-conditional l = 8 * l.stmts + 3

abbrev pub decreases-case : goal.decreases-case
decreases-case l = 8 * l.alternatives + 4

abbrev pub decreases-alternatives : goal.decreases-alternatives
decreases-alternatives l = 8 * l.list + 3

abbrev pub decreases-alternative : goal.decreases-alternative
decreases-alternative l = 8 * l.c

abbrev pub decreases-plain_loop : goal.decreases-plain_loop
decreases-plain_loop l = 8 * l.stmts + 3

abbrev pub decreases-while_loop : goal.decreases-while_loop
decreases-while_loop l = 8 * l.stmts + 3

abbrev pub decreases-turns : goal.decreases-turns
decreases-turns l = 8 * l.stmts + 3

abbrev pub decreases-for_loop : goal.decreases-for_loop
decreases-for_loop l = 8 * l.stmts + 4

abbrev pub decreases-block : goal.decreases-block
decreases-block l = 8 * l.stmts + 3

abbrev pub invariant-statements-parts : goal.invariant-statements-parts
invariant-statements-parts l =
    (l.i < length l.self.sizes.rows.now.1)
    × (l.i ≤ l.c)
    × (length l.made + size (span_in l.self l.i) l.ways ≡ length l.initial.made + size (span_in l.self l.c) l.ways)
    × (l.t + (span_in l.self l.i).filled ≡ l.initial.t + (span_in l.self l.c).filled)
    × (made_in l.self l.made ++ bare_laid (laying l.self) (code_in l.self l.i) (length l.made) l.t l.ways l.k
    ≡ made_in l.self l.initial.made ++ bare_laid (laying l.self) (code_in l.self l.c) (length l.initial.made) l.initial.t l.ways l.k)

abbrev pub decreases-statements-parts : goal.decreases-statements-parts
decreases-statements-parts l = l.i

abbrev pub invariant-branches-branches : goal.invariant-branches-branches
invariant-branches-branches l =
    (l.i < length l.self.sizes.rows.now.1)
    × (l.i ≤ l.list)
    × (l.left ≡ size (branches_span (ends_in l.self) (code_in l.self l.i)) l.ways)
    × (length l.made + l.left
    ≡ length l.initial.made + size (branches_span (ends_in l.self) (code_in l.self l.list)) l.ways)
    × (l.t + (branches_span (ends_in l.self) (code_in l.self l.i)).filled
    ≡ l.initial.t + (branches_span (ends_in l.self) (code_in l.self l.list)).filled)
    × (made_in l.self l.made ++ bare_branches (laying l.self) (code_in l.self l.i) (length l.made) l.t l.ways l.k l.otherwise
    ≡ made_in l.self l.initial.made
    ++ bare_branches (laying l.self) (code_in l.self l.list) (length l.initial.made) l.initial.t l.ways l.k l.otherwise)

abbrev pub decreases-branches-branches : goal.decreases-branches-branches
decreases-branches-branches l = l.i

abbrev pub invariant-alternatives-alternatives : goal.invariant-alternatives-alternatives
invariant-alternatives-alternatives l =
    (l.i < length l.self.sizes.rows.now.1)
    × (l.i ≤ l.list)
    × (length l.made + size (whens_span (ends_in l.self) (code_in l.self l.i)) l.ways
    ≡ length l.initial.made + size (whens_span (ends_in l.self) (code_in l.self l.list)) l.ways)
    × (l.t + (whens_span (ends_in l.self) (code_in l.self l.i)).filled
    ≡ l.initial.t + (whens_span (ends_in l.self) (code_in l.self l.list)).filled)
    × (made_in l.self l.made ++ bare_whens (laying l.self) (code_in l.self l.i) (length l.made) l.t l.ways l.k
    ≡ made_in l.self l.initial.made
    ++ bare_whens (laying l.self) (code_in l.self l.list) (length l.initial.made) l.initial.t l.ways l.k)

abbrev pub decreases-alternatives-alternatives : goal.decreases-alternatives-alternatives
decreases-alternatives-alternatives l = l.i
