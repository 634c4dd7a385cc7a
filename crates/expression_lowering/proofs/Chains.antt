-- What chains of relations stand for, by their operator.
use Rattle.std.proofs.Common.{◌≡◌, refl, ap, ◌∙◌, sym, List, map, ◌⊎◌, inl, inr}
use Rattle.spark_base.specs.declared.position.Pos.{Pos}
use Rattle.ada_tree.specs.declared.expression.Expr.{Expr}
use Rattle.ada_tree.specs.declared.expression.Expr.TheVariants as expr
use Rattle.ada_tree.specs.declared.expression.Operand.{Operand}
use Rattle.ada_tree.specs.declared.expression.ShortOperand.{ShortOperand}
use Rattle.ada_tree.specs.declared.expression.Rel.{Rel}
use Rattle.resolved_tree.specs.declared.operator.Operator.{Operator}
use Rattle.resolved_tree.specs.declared.operator.Operator.TheVariants as op
use Rattle.resolved_tree.specs.Trees.{Tree, Binary}
use Rattle.expression_lowering.specs.LoweredExpressions.{Numbers, chain_operator, chained, lowered_expr, lowered_operand, lowered_rel, lowered_short_operand}
use Rattle.expression_lowering.proofs.ExpressionLevels.{expr-And, expr-Or, expr-Xor, expr-AndThen, expr-OrElse}

abbrev operated : Numbers → Pos → Rel → Rel → List Operand → Operator → Tree
operated numbers pos first second rest by =
    chained pos (Binary pos by (lowered_rel numbers first) (lowered_rel numbers second)) (map (lowered_operand numbers by) rest)

abbrev short_operated : Numbers → Pos → Rel → Rel → List ShortOperand → Operator → Tree
short_operated numbers pos first second rest by =
    chained pos (Binary pos by (lowered_rel numbers first) (lowered_rel numbers second)) (map (lowered_short_operand numbers by) rest)

operator-And : (pos : Pos) (first : Rel) (x : Pos) (second : Rel) (rest : List Operand) → chain_operator (expr.And pos first x second rest) ≡ op.And
unfolding chain_operator
operator-And pos first x second rest = refl

operator-Or : (pos : Pos) (first : Rel) (x : Pos) (second : Rel) (rest : List Operand) → chain_operator (expr.Or pos first x second rest) ≡ op.Or
unfolding chain_operator
operator-Or pos first x second rest = refl

operator-Xor : (pos : Pos) (first : Rel) (x : Pos) (second : Rel) (rest : List Operand) → chain_operator (expr.Xor pos first x second rest) ≡ op.Xor
unfolding chain_operator
operator-Xor pos first x second rest = refl

operator-AndThen : (pos : Pos) (first : Rel) (x y : Pos) (second : Rel) (rest : List ShortOperand) → chain_operator (expr.AndThen pos first x y second rest) ≡ op.AndThen
unfolding chain_operator
operator-AndThen pos first x y second rest = refl

operator-OrElse : (pos : Pos) (first : Rel) (x y : Pos) (second : Rel) (rest : List ShortOperand) → chain_operator (expr.OrElse pos first x y second rest) ≡ op.OrElse
unfolding chain_operator
operator-OrElse pos first x y second rest = refl

pub logical_chain : (numbers : Numbers) (tree : Expr) (pos : Pos) (first second : Rel) (rest : List Operand)
    → ((x : Pos) × (tree ≡ expr.And pos first x second rest))
    ⊎ (((x : Pos) × (tree ≡ expr.Or pos first x second rest)) ⊎ ((x : Pos) × (tree ≡ expr.Xor pos first x second rest)))
    → lowered_expr numbers tree ≡ operated numbers pos first second rest (chain_operator tree)
logical_chain numbers tree pos first second rest cases = elim cases [
  | inl p ↦ by p.1 (expr-And numbers pos first p.0 second rest) (operator-And pos first p.0 second rest)
  | inr others ↦ (elim others [
    | inl p ↦ by p.1 (expr-Or numbers pos first p.0 second rest) (operator-Or pos first p.0 second rest)
    | inr p ↦ by p.1 (expr-Xor numbers pos first p.0 second rest) (operator-Xor pos first p.0 second rest)
  ])
]
  where
    by : {whole : Expr} {o : Operator} → tree ≡ whole → lowered_expr numbers whole ≡ operated numbers pos first second rest o
        → chain_operator whole ≡ o → lowered_expr numbers tree ≡ operated numbers pos first second rest (chain_operator tree)
    by is level operator =
        ap (lowered_expr numbers) is ∙ level
        ∙ ap (operated numbers pos first second rest) (sym (ap chain_operator is ∙ operator))

pub short_chain : (numbers : Numbers) (tree : Expr) (pos : Pos) (first second : Rel) (rest : List ShortOperand)
    → ((x : Pos) × (y : Pos) × (tree ≡ expr.AndThen pos first x y second rest)) ⊎ ((x : Pos) × (y : Pos) × (tree ≡ expr.OrElse pos first x y second rest))
    → lowered_expr numbers tree ≡ short_operated numbers pos first second rest (chain_operator tree)
short_chain numbers tree pos first second rest cases = elim cases [
  | inl p ↦ by p.2 (expr-AndThen numbers pos first p.0 p.1 second rest) (operator-AndThen pos first p.0 p.1 second rest)
  | inr p ↦ by p.2 (expr-OrElse numbers pos first p.0 p.1 second rest) (operator-OrElse pos first p.0 p.1 second rest)
]
  where
    by : {whole : Expr} {o : Operator} → tree ≡ whole → lowered_expr numbers whole ≡ short_operated numbers pos first second rest o
        → chain_operator whole ≡ o → lowered_expr numbers tree ≡ short_operated numbers pos first second rest (chain_operator tree)
    by is level operator =
        ap (lowered_expr numbers) is ∙ level
        ∙ ap (short_operated numbers pos first second rest) (sym (ap chain_operator is ∙ operator))

-- What is made of the parts.
pub logical_made : (numbers : Numbers) (tree : Expr) (pos : Pos) (first second : Rel) (rest behind : List Operand) (by : Operator) (made left right : Tree)
    → ((x : Pos) × (tree ≡ expr.And pos first x second rest))
    ⊎ (((x : Pos) × (tree ≡ expr.Or pos first x second rest)) ⊎ ((x : Pos) × (tree ≡ expr.Xor pos first x second rest)))
    → by ≡ chain_operator tree → made ≡ Binary pos by left right → left ≡ lowered_rel numbers first → right ≡ lowered_rel numbers second → behind ≡ rest
    → chained pos made (map (lowered_operand numbers by) behind) ≡ lowered_expr numbers tree
logical_made numbers tree pos first second rest behind by made left right cases operator is is_left is_right is_rest =
    ap (λ m. chained pos m (map (lowered_operand numbers by) behind)) (is ∙ ap (λ a. Binary pos by a right) is_left ∙ ap (Binary pos by (lowered_rel numbers first)) is_right)
    ∙ ap (λ ts. chained pos (Binary pos by (lowered_rel numbers first) (lowered_rel numbers second)) (map (lowered_operand numbers by) ts)) is_rest
    ∙ ap (operated numbers pos first second rest) operator
    ∙ sym (logical_chain numbers tree pos first second rest cases)

pub short_made : (numbers : Numbers) (tree : Expr) (pos : Pos) (first second : Rel) (rest behind : List ShortOperand) (by : Operator) (made left right : Tree)
    → ((x : Pos) × (y : Pos) × (tree ≡ expr.AndThen pos first x y second rest)) ⊎ ((x : Pos) × (y : Pos) × (tree ≡ expr.OrElse pos first x y second rest))
    → by ≡ chain_operator tree → made ≡ Binary pos by left right → left ≡ lowered_rel numbers first → right ≡ lowered_rel numbers second → behind ≡ rest
    → chained pos made (map (lowered_short_operand numbers by) behind) ≡ lowered_expr numbers tree
short_made numbers tree pos first second rest behind by made left right cases operator is is_left is_right is_rest =
    ap (λ m. chained pos m (map (lowered_short_operand numbers by) behind)) (is ∙ ap (λ a. Binary pos by a right) is_left ∙ ap (Binary pos by (lowered_rel numbers first)) is_right)
    ∙ ap (λ ts. chained pos (Binary pos by (lowered_rel numbers first) (lowered_rel numbers second)) (map (lowered_short_operand numbers by) ts)) is_rest
    ∙ ap (short_operated numbers pos first second rest) operator
    ∙ sym (short_chain numbers tree pos first second rest cases)
