use Rattle.std.proofs.Common.{◌≡◌, ◌<◌, ◌++◌, length, map}
use Rattle.std.specs.Prelude.{flat_map}
use Rattle.resolved_tree.specs.Nodes.{code_at}
use Rattle.resolved_tree.specs.Trees.{code_items}
use Rattle.typed_tree.specs.Programs.{formals_of, front_formals}
use Rattle.typed_objects.specs.Walks.{home_of}
use Rattle.typed_objects.proofs.walk.Walk.formals.Given as goal

abbrev pub invariant-groups : goal.invariant-groups
invariant-groups l =
    (l.i < length l.self.rows.now.1)
    × (l.found.objects ++ map (λ o. o.object) (flat_map (formals_of (home_of l.self l.home) l.scope) (code_items (code_at l.self.rows.now l.i)))
    ≡ l.initial.found.objects ++ map (λ o. o.object) (flat_map (formals_of (home_of l.self l.home) l.scope) (front_formals (code_at l.self.rows.now l.front))))
    × (l.found.numbers ++ map (λ o. o.number) (flat_map (formals_of (home_of l.self l.home) l.scope) (code_items (code_at l.self.rows.now l.i)))
    ≡ l.initial.found.numbers ++ map (λ o. o.number) (flat_map (formals_of (home_of l.self l.home) l.scope) (front_formals (code_at l.self.rows.now l.front))))

abbrev pub decreases-groups : goal.decreases-groups
decreases-groups l = l.i
