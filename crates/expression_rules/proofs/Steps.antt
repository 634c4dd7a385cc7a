-- One step along a list of arguments.
use Rattle.std.proofs.Common.{◌≡◌, ◌∙◌, ◌+◌, ◌++◌, ℕ, Option, None, refl, sym, ap}
use Rattle.resolved_tree.specs.Trees.{Tree, Argument}
use Rattle.type_definitions.specs.declared.judgement.Fault.{Fault}
use Rattle.type_definitions.specs.declared.judgement.Role.{Role}
use Rattle.type_definitions.specs.declared.judgement.Role.TheVariants as role
use Rattle.type_definitions.specs.declared.judgement.Where.TheVariants as stands
use Rattle.type_definitions.specs.Faults.{noted}
use Rattle.type_definitions.specs.Names.{Context}
use Rattle.type_definitions.specs.Expressions.{Given, around, around_formal, around_role, is_loose, role_type, inside, arguments}
use Rattle.expression_types.specs.Occurrences.{names_for, number_for}
use Rattle.expression_types.proofs.Occurrences.{formal_number, part_number}
use Rattle.expression_rules.specs.Arguments.{argument}
use Rattle.expression_rules.proofs.Noted.{noted_append}

-- An argument by name is as one at the position of what it is for.
pub argument_number : (c : Context) (r : Role) (i n : ℕ) (w : Given) (e : Tree) → n ≡ number_for (names_for c r) i w
    → argument c r n None e ≡ argument c r i w e
argument_number c (role.Parts t) i n w e is =
    ap (λ want. around c stands.Stored want e ++ inside c (is_loose c (role.Parts t) i w) want e) (part_number c t i n w is)
argument_number c (role.Actuals f) i n w e is =
    ap (λ f. around_formal c f e ++ inside c f.traversed f.of e) (formal_number c f i n w is)
argument_number c (role.Allocated t) i n w e is = refl
argument_number c (role.Every t) i n w e is = refl

pub arguments_step : (c : Context) (r : Role) (n : ℕ) (w : Given) (e rest tree : Tree) (found after : Option Fault)
    → tree ≡ Argument w e rest → after ≡ noted found (argument c r n w e)
    → noted after (arguments c r (n + 1) rest) ≡ noted found (arguments c r n tree)
unfolding arguments
arguments_step c r n w e rest tree found after is one =
    let all = inside c (is_loose c r n w) (role_type c r n w) e in
    rw is (ap (λ f. noted f (arguments c r (n + 1) rest)) (one ∙ noted_append found (around_role c r n w e) all)
    ∙ sym (noted_append found (around_role c r n w e) (all ++ arguments c r (n + 1) rest)
    ∙ noted_append (noted found (around_role c r n w e)) all (arguments c r (n + 1) rest)))
