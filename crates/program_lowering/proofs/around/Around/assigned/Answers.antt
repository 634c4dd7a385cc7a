use Rattle.std.proofs.Common.{◌≡◌, Some, sym, ap, ◌∙◌, arith}
use Rattle.flow_paths.specs.Names.{waiting}
use Rattle.run_codes.specs.Lowered.{place, value}
use Rattle.run_codes.specs.Programs.{name_pos, stored_at, use_for}
use Rattle.run_lowering.specs.Found.{placed}
use Rattle.run_lowering.specs.Sites.{site}
use Rattle.code_rows.specs.Points.{next_of}
use Rattle.code_rows.specs.Values.{fill_at}
use Rattle.program_lowering.specs.Arounds.{around, known, point_in, tree}
use Rattle.program_lowering.specs.Stores.{checks_of}
use Rattle.program_lowering.proofs.Rows.{value_same}
use Rattle.program_lowering.proofs.Turns.{assign_is}
use Rattle.program_lowering.proofs.around.Around.assigned.Goals as goal

pub returns-clause-does : goal.returns-clause-does
returns-clause-does c =
    let of : c.in_ok-found.found.of ≡ c.in_ok-of.of = grind arith in
    let there : place (site c.args.self.now.site) (waiting (tree c.args.self.now c.args.source)) (tree c.args.self.now c.args.target)
    ≡ Some (placed c.place.new.rows.nodes c.in_ok-found.found) = grind (arith, c.in_ok-found.ensures.place, c.in_ok-value.ensures.taken) in
    let kept : fill_at c.place.new.rows.nodes c.place.new.rows.fills c.in_ok-value.value.fill
    ≡ fill_at c.value.new.rows.nodes c.value.new.rows.fills c.in_ok-value.value.fill =
    value_same c.value.new.rows c.place.new.rows c.in_ok-value.value.fill c.in_ok-found.ensures.grew c.in_ok-value.ensures.there in
    let it : value (site c.args.self.now.site) 0 (use_for (known c.args.self.now).table c.in_ok-found.found.of) c.in_ok-found.found.of
    (tree c.args.self.now c.args.source) ≡ Some (fill_at c.place.new.rows.nodes c.place.new.rows.fills c.in_ok-value.value.fill) =
    grind (arith, of, kept, c.is_looked_at.ensures, c.in_ok-value.ensures.value) in
    let checks : c.checks.result ≡ checks_of (known c.args.self.now).table c.in_ok-found.found.of (name_pos c.args.p.now.pos (tree c.args.self.now c.args.target)) =
    c.checks.ensures ∙ (ap (λ t. checks_of (known c.args.self.now).table t c.in_ok-pos.pos) (sym of)
    ∙ ap (λ q. checks_of (known c.args.self.now).table c.in_ok-found.found.of q) (sym (c.in_ok-pos.ensures c.args.p.now.pos))) in
    assign_is (around c.args.self.now) (point_in c.args.self.now c.args.p.now) (tree c.args.self.now c.args.target) (tree c.args.self.now c.args.source)
    (placed c.place.new.rows.nodes c.in_ok-found.found) (fill_at c.place.new.rows.nodes c.place.new.rows.fills c.in_ok-value.value.fill)
    (next_of c.in_ok-next.next) there it c.in_ok-next.ensures
    ∙ ap (λ d. Some d) (ap (λ k. stored_at (known c.args.self.now).table (placed c.place.new.rows.nodes c.in_ok-found.found)
    (fill_at c.place.new.rows.nodes c.place.new.rows.fills c.in_ok-value.value.fill) k (next_of c.in_ok-next.next)) (sym checks)
    ∙ sym c.stored.ensures.does)
