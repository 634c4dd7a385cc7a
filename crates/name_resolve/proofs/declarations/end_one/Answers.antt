use Rattle.std.proofs.Common.{◌∙◌, sym, ap, subst, nat_eq, [], ◌∷◌, ◌++◌}
use Rattle.name_resolve.specs.Stands.{IndexStands}
use Rattle.name_resolve.proofs.Lists.{nat_eq-refl, passes_one}
use Rattle.name_resolve.proofs.declarations.end_one.Goals as goal

pub returns-in_ok-note_holder-clause-stands : goal.returns-in_ok-note_holder-clause-stands
returns-in_ok-note_holder-clause-stands c words entry before has is s =
    passes_one (IndexStands words c.note.new.self) before (nat_eq c.args.region entry.1.region) entry
    (ap (nat_eq c.args.region) (sym (c.if-region-declaration.true ∙ ap (λ d. d.region) is)) ∙ nat_eq-refl c.args.region)
    (subst (λ d. IndexStands words c.note.new.self (before ++ (entry.0, d) ∷ [])) is (c.in_ok-note.ensures.stands words entry.0 before has s))
