-- An operation with two operands is static where both are, but for `&`.
use Rattle.std.proofs.Common.{◌≡◌, refl, not, ◌&&◌}
use Rattle.spark_base.specs.declared.position.Pos.{Pos}
use Rattle.resolved_tree.specs.declared.operator.Operator.{Operator}
use Rattle.resolved_tree.specs.declared.operator.Operator.TheVariants as operator
use Rattle.resolved_tree.specs.Trees.{Tree, Binary}
use Rattle.type_definitions.specs.Names.{Context}
use Rattle.type_definitions.specs.Statics.{is_static}
use Rattle.type_definitions.specs.Expressions.{is_join}

pub static_binary : (c : Context) (p : Pos) (op : Operator) (a b : Tree)
    → is_static c (Binary p op a b) ≡ not (is_join op) && (is_static c a && is_static c b)
unfolding is_static
static_binary c p operator.And a b = refl
static_binary c p operator.Or a b = refl
static_binary c p operator.Xor a b = refl
static_binary c p operator.AndThen a b = refl
static_binary c p operator.OrElse a b = refl
static_binary c p operator.Equal a b = refl
static_binary c p operator.NotEqual a b = refl
static_binary c p operator.Less a b = refl
static_binary c p operator.LessEqual a b = refl
static_binary c p operator.Greater a b = refl
static_binary c p operator.GreaterEqual a b = refl
static_binary c p operator.Add a b = refl
static_binary c p operator.Subtract a b = refl
static_binary c p operator.Concatenate a b = refl
static_binary c p operator.Multiply a b = refl
static_binary c p operator.Divide a b = refl
static_binary c p operator.Modulo a b = refl
static_binary c p operator.Remainder a b = refl
