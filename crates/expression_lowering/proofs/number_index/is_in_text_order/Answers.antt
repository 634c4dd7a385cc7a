use Rattle.std.proofs.Common.{rules}
use Rattle.std.specs.Ordering.{is_lt}
use Rattle.std.proofs.lemmas.List.Sorted.{answers_always}
use Rattle.spark_base.specs.Positions.{position_cmp}
use Rattle.expression_lowering.proofs.NumberIndexes.{in_order_from_answer}
use Rattle.expression_lowering.proofs.number_index.is_in_text_order.Goals as goal

pub returns : goal.returns
returns c =
    in_order_from_answer _ _
    (c.is_sorted_by.ensures.cases (λ one next. is_lt (position_cmp one.pos next.pos)) (answers_always _ _ _ (λ f a r g called. search rules)))
