use Rattle.std.proofs.Common.{refl, ap, ◌∙◌, arith}
use Rattle.typed_tree.specs.Nodes.{typed_at, typed_code_at, typed_code_of}
use Rattle.numbered_points.specs.Extents.{size}
use Rattle.bare_points.specs.Layouts.{ends_in, laying, span_in}
use Rattle.bare_points.proofs.Steps.{block_count, block_size, branches_sizes, branches_step, case_count, if_count, laid_sizes, laid_step, more_below, more_count, whens_sizes, whens_step}
use Rattle.bare_points.proofs.layout.Layout.+lay.Goals as goal

pub statements-parts-preserved : goal.statements-parts-preserved
statements-parts-preserved t c =
    let rows = c.args.self.now.sizes.rows.now in
    let ways = c.args.ways.now in
    let invariant = c.parts.invariant in
    let lt = more_below _ _ _ _ _ c.in-More.is c.code.ensures.below in
    let is = c.code.ensures.code ∙ ap (typed_code_of (typed_at rows) (typed_code_at rows)) c.in-More.is in
    let here = c.size.ensures ∙ ap (λ a. size a ways) c.span-span.ensures in
    let there = c.size-size.ensures ∙ ap (λ a. size a ways) c.span.ensures in
    let filled = c.filled.ensures ∙ ap (λ a. a.filled) c.span-span.ensures in
    let sizes = laid_sizes _ _ _ _ ways _ _ _ _ _ _ is c.in_ok-compound.ensures.count filled invariant.2 invariant.3 in (
      omega (arith, lt, invariant.0),
      omega (arith, lt, invariant.1),
      sizes.0,
      sizes.1,
      laid_step (laying c.args.self.now) _ _ _ ways _ _ _ _ _ _ _ _ _ _ _ _ is c.in_ok-compound.ensures.count filled here there c.len.ensures c.next_of.ensures
          c.in_ok-compound.ensures.points invariant.4,
    )

pub branches-branches-preserved : goal.branches-branches-preserved
branches-branches-preserved t c =
    let rows = c.args.self.now.sizes.rows.now in
    let ways = c.args.ways.now in
    let invariant = c.branches.invariant in
    let lt = more_below _ _ _ _ _ c.in-More.is c.code.ensures.below in
    let is = c.code.ensures.code ∙ ap (typed_code_of (typed_at rows) (typed_code_at rows)) c.in-More.is in
    let here = c.size-size.ensures ∙ ap (λ a. size a ways) c.in_ok-span.ensures in
    let filled = c.filled.ensures ∙ ap (λ a. a.filled) c.in_ok-span.ensures in
    let sizes = branches_sizes _ _ _ _ ways _ _ _ _ _ _ _ _ is invariant.2 here c.in_ok-branch.ensures.count filled invariant.3 invariant.4 in (
      omega (arith, lt, invariant.0),
      omega (arith, lt, invariant.1),
      sizes.0,
      sizes.1,
      sizes.2,
      branches_step (laying c.args.self.now) _ _ _ ways _ _ _ _ _ _ _ _ _ _ _ _ _ is c.in_ok-branch.ensures.count filled here sizes.0
          c.len.ensures c.next_of.ensures c.in_ok-branch.ensures.points invariant.5,
    )

pub alternatives-alternatives-preserved : goal.alternatives-alternatives-preserved
alternatives-alternatives-preserved t c =
    let rows = c.args.self.now.sizes.rows.now in
    let ways = c.args.ways.now in
    let invariant = c.alternatives.invariant in
    let lt = more_below _ _ _ _ _ c.in-More.is c.code.ensures.below in
    let is = c.code.ensures.code ∙ ap (typed_code_of (typed_at rows) (typed_code_at rows)) c.in-More.is in
    let filled = c.filled.ensures ∙ ap (λ a. a.filled) c.alternative-in-More.ensures in
    let sizes = whens_sizes _ _ _ _ ways _ _ _ _ _ _ is c.in_ok-alternative.ensures.count filled invariant.2 invariant.3 in (
      omega (arith, lt, invariant.0),
      omega (arith, lt, invariant.1),
      sizes.0,
      sizes.1,
      whens_step (laying c.args.self.now) _ _ _ ways _ _ _ _ _ _ _ _ is c.in_ok-alternative.ensures.count filled
          c.in_ok-alternative.ensures.points invariant.4,
    )

pub block-size-size-requires : goal.block-size-size-requires
block-size-size-requires t c =
    let whole = block_size _ _ _ _ _ _ c.span.ensures (c.as_slice-own.ensures.value ∙ c.in_ok-objects.ensures) c.in_ok-inner.ensures in
    omega arith

pub block-overflow_add-behind : goal.block-overflow_add-behind
block-overflow_add-behind t c =
    let whole = block_size _ _ _ _ _ _ c.span.ensures (c.as_slice-own.ensures.value ∙ c.in_ok-objects.ensures) c.in_ok-inner.ensures in
    omega arith

pub block-overflow_cast-behind : goal.block-overflow_cast-behind
block-overflow_cast-behind t c =
    let whole = block_size _ _ _ _ _ _ c.span.ensures (c.as_slice-own.ensures.value ∙ c.in_ok-objects.ensures) c.in_ok-inner.ensures in
    omega arith

pub block-has_room-requires : goal.block-has_room-requires
block-has_room-requires t c =
    let inner = span_in c.args.self.now c.args.stmts in
    let whole = block_size inner inner _ _ _ _ refl (c.as_slice-own.ensures.value ∙ c.in_ok-objects.ensures) c.in_ok-inner.ensures in
    omega arith

pub block-ended-requires : goal.block-ended-requires
block-ended-requires t c =
    let inner = span_in c.args.self.now c.args.stmts in
    let whole = block_size inner inner _ _ _ _ refl (c.as_slice-own.ensures.value ∙ c.in_ok-objects.ensures) c.in_ok-inner.ensures in
    let count = c.in_ok-statements.ensures.count in
    omega (arith, whole, count)

pub block-returns-clause-count : goal.block-returns-clause-count
block-returns-clause-count t c =
    let inner = span_in c.args.self.now c.args.stmts in
    let whole = block_size inner inner _ _ _ _ refl (c.as_slice-own.ensures.value ∙ c.in_ok-objects.ensures) c.in_ok-inner.ensures in
    block_count _ _ _ _ _ _ _ c.in_ok-statements.ensures.count whole c.ended.ensures.count

pub compound-returns-in-More-clause-count : goal.compound-returns-in-More-clause-count
compound-returns-in-More-clause-count t c =
    let rows = c.args.self.now.sizes.rows.now in
    let is = c.code.ensures.code ∙ ap (typed_code_of (typed_at rows) (typed_code_at rows)) c.in-More.is in
    more_count _ (ends_in c.args.self.now) _ _ _ c.args.ways.now _ _ is c.pair.ensures.count

pub compound-returns-in-If-clause-count : goal.compound-returns-in-If-clause-count
compound-returns-in-If-clause-count t c =
    let rows = c.args.self.now.sizes.rows.now in
    let is = c.code.ensures.code ∙ ap (typed_code_of (typed_at rows) (typed_code_at rows)) c.in-If.is in
    if_count _ (ends_in c.args.self.now) _ _ _ c.args.ways.now _ _ is c.if_statement.ensures.count

pub compound-returns-in-Case-clause-count : goal.compound-returns-in-Case-clause-count
compound-returns-in-Case-clause-count t c =
    let rows = c.args.self.now.sizes.rows.now in
    let is = c.code.ensures.code ∙ ap (typed_code_of (typed_at rows) (typed_code_at rows)) c.in-Case.is in
    case_count _ (ends_in c.args.self.now) _ _ _ _ c.args.ways.now _ _ is c.case.ensures.count
