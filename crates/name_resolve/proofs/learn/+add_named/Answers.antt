use Rattle.std.proofs.Common.{sym, subst, ◌∙◌, [], ◌∷◌, ◌++◌, map}
use Rattle.std.proofs.lemmas.List.{append_assoc}
use Rattle.name_events.specs.KnownBehind.{named_in_with}
use Rattle.name_resolve.specs.Stands.{WithsStand}
use Rattle.name_resolve.proofs.learn.+add_named.Goals as goal

pub returns : goal.returns
returns t c now numbers knows s =
    subst (WithsStand c.add_named.new.withs)
    (append_assoc numbers (c.in-Some.declaration.number ∷ []) _
    ∙ (λ j. numbers ++ (c.in-Some.declaration.number ∷ named_in_with now.ended (c.member-inner.ensures now knows j) (map (λ id. id.name) c.in-Some-split_first.behind.now)))
    ∙ (λ j. numbers ++ named_in_with now.ended (sym c.in-Some.is j) (map (λ id. id.name) (sym c.in-Some-split_first.ensures.cases.0 j))))
    (c.in_ok-add_named.ensures now (numbers ++ c.in-Some.declaration.number ∷ []) knows (c.in_ok-add.ensures numbers s))
