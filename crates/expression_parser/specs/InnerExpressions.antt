-- What a function value is to do that reads the expressions within parentheses.
use Rattle.std.specs.Prelude.{ℕ, suc, ◌≤◌, Result}
use Rattle.std.specs.declared.alloc.Global.{Global}
use denote.Ref.{MutBor}
use Rattle.spark_base.specs.declared.limits.TheConstants.{NESTING}
use Rattle.ada_tree.specs.declared.expression.Expr.{Expr}
use Rattle.token_reading.specs.declared.fault.ReadFault.{ReadFault}
use Rattle.token_reading.specs.Reading.{Ahead, Reads}
use Rattle.ada_grammar.specs.Expressions.{expr}

-- Where so many constructs are open around a part, which may be, the function may be called for the
-- expressions within its parentheses, and reads them.
pub record ReadsInner (depth : ℕ) (pre : Global → MutBor Ahead → ℕ → Type 0)
    (post : Global → MutBor Ahead → ℕ → Result Expr ReadFault → MutBor Ahead → Type 0) : Type 0 where
  pub within : depth ≤ NESTING
  pub callable : (alloc : Global) (old : MutBor Ahead) → pre alloc old (suc depth)
  pub reads : (alloc : Global) (old new : MutBor Ahead) (result : Result Expr ReadFault) → post alloc old (suc depth) result new
      → Reads (expr (suc depth)) old.now result new.now
