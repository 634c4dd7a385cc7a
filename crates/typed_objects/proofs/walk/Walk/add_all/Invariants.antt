use Rattle.std.proofs.Common.{◌≡◌, ◌<◌, ◌++◌, length, map}
use Rattle.resolved_tree.specs.Nodes.{code_at}
use Rattle.typed_tree.specs.Programs.{objects_of}
use Rattle.typed_objects.specs.Walks.{home_of}
use Rattle.typed_objects.proofs.walk.Walk.add_all.Given as goal

abbrev pub invariant-names : goal.invariant-names
invariant-names l =
    (l.i < length l.self.rows.now.1)
    × (l.found.objects ++ map (λ o. o.object) (objects_of (home_of l.self l.home) l.scope l.mode (code_at l.self.rows.now l.i))
    ≡ l.initial.found.objects ++ map (λ o. o.object) (objects_of (home_of l.self l.home) l.scope l.mode (code_at l.self.rows.now l.names)))
    × (l.found.numbers ++ map (λ o. o.number) (objects_of (home_of l.self l.home) l.scope l.mode (code_at l.self.rows.now l.i))
    ≡ l.initial.found.numbers ++ map (λ o. o.number) (objects_of (home_of l.self l.home) l.scope l.mode (code_at l.self.rows.now l.names)))

abbrev pub decreases-names : goal.decreases-names
decreases-names l = l.i
