use Rattle.std.proofs.Common.{◌≡◌, ◌+◌, ◌∷◌, map, drop, get_or, Some, refl, ap, ◌∙◌, arith}
use Rattle.std.proofs.lemmas.Grind.{common_steps}
use Rattle.typed_tree.specs.Trees.{More}
use Rattle.program_typing.specs.Passings.{passing_of}
use Rattle.run_codes.specs.Programs.{append_all, actuals}
use Rattle.run_lowering.specs.Sites.{site}
use Rattle.code_rows.proofs.Kept.{rows_on}
use Rattle.program_lowering.specs.Arounds.{tree, actuals_in}
use Rattle.program_lowering.proofs.Lists.{drop_item}
use Rattle.program_lowering.proofs.around.Around.all_passed.Goals as goal

pub formals-preserved : goal.formals-preserved
formals-preserved c =
    let ways : c.formals.ways.now ≡ c.in_ok-way.way.now ∷ c.in_ok-way.left.now = grind (arith, common_steps) in
    let there : tree c.args.self.now c.formals.at ≡ More (tree c.args.self.now c.in-More.first) (tree c.args.self.now c.in-More.rest) =
    rw c.in-More.is at c.node.ensures.tree in
    let rest : drop c.formals.formal-index c.args.formals.now
    ≡ get_or c.args.formals.now c.formals.formal-index 0 ∷ drop (c.formals.formal-index + 1) c.args.formals.now =
    drop_item c.args.formals.now c.formals.formal-index 0 (get_or c.args.formals.now c.formals.formal-index 0) c.formals-test.true refl in (
      c.in_ok-taken.ensures.sound,
      rows_on c.args.rows.now c.formals.rows c.passed.new.rows c.formals.invariant.1 c.in_ok-taken.ensures.grew,
      λ p. c.formals.invariant.2 p
          ∙ (ap (λ ws. append_all (Some (actuals_in c.formals.rows)) (actuals (site c.args.self.now.site) p c.formals.taken (map passing_of ws)
          (drop c.formals.formal-index c.args.formals.now) (tree c.args.self.now c.formals.at))) ways
          ∙ (ap (λ xs. append_all (Some (actuals_in c.formals.rows)) (actuals (site c.args.self.now.site) p c.formals.taken
          (map passing_of (c.in_ok-way.way.now ∷ c.in_ok-way.left.now)) xs (tree c.args.self.now c.formals.at))) rest
          ∙ (ap (λ t. append_all (Some (actuals_in c.formals.rows)) (actuals (site c.args.self.now.site) p c.formals.taken
          (map passing_of (c.in_ok-way.way.now ∷ c.in_ok-way.left.now))
          (get_or c.args.formals.now c.formals.formal-index 0 ∷ drop (c.formals.formal-index + 1) c.args.formals.now) t)) there
          ∙ c.in_ok-taken.ensures.actuals p (map passing_of c.in_ok-way.left.now) (drop (c.formals.formal-index + 1) c.args.formals.now)
          (tree c.args.self.now c.in-More.rest)))),
    )
