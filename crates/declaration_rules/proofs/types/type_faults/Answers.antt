use Rattle.std.proofs.Common.{◌≡◌, ◌||◌, Bool, not, ap, sym, ◌∙◌}
use Rattle.std.specs.Prelude.{is_none}
use Rattle.resolved_tree.specs.Nodes.{code_at}
use Rattle.type_definitions.specs.Types.{info}
use Rattle.type_definitions.specs.Faults.{noted, demand}
use Rattle.type_definitions.specs.Declarations.{definition_faults, holds_itself}
use Rattle.type_definitions.specs.Gathered.{declared_number, declared_pos}
use Rattle.expression_rules.specs.Around.{context}
use Rattle.expression_rules.proofs.Noted.{noted_append}
use Rattle.declaration_rules.proofs.types.type_faults.Goals as goal

pub returns-then-is_ahead : goal.returns-then-is_ahead
returns-then-is_ahead c =
    let k = context c.args.checker.now in
    let rows = c.args.checker.now.rows.now in
    let name = code_at rows c.args.name in
    let number = declared_number name in
    let holds : Bool = is_none (info k.known.table number).seen_in || not (holds_itself k.known.table number) in
    let first = definition_faults k (code_at rows c.args.definition) in
    let pos : c.declared_pos-pos.result ≡ declared_pos name = cc in
    sym (noted_append c.args.found first (demand 1 (declared_pos name) holds)
    ∙ ap (λ f. noted f (demand 1 (declared_pos name) holds)) (sym c.definition_faults-found.ensures)
    ∙ ap (λ p. noted c.definition_faults-found.result (demand 1 p holds)) (sym pos)
    ∙ c.is_ahead.ensures c.if-is_ahead.true holds)
