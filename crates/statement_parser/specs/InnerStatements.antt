-- What a function value is to do that reads the statements within a statement.
use Rattle.std.specs.Prelude.{ℕ, suc, ◌≤◌, Result}
use Rattle.std.specs.declared.alloc.Global.{Global}
use denote.Ref.{MutBor}
use Rattle.spark_base.specs.declared.limits.TheConstants.{NESTING}
use Rattle.ada_tree.specs.declared.statement.Stmts.{Stmts}
use Rattle.token_reading.specs.declared.fault.ReadFault.{ReadFault}
use Rattle.token_reading.specs.Reading.{Ahead, Reads}
use Rattle.ada_grammar.specs.Statements.{stmts}

-- Where so many constructs are open around a statement, which may be, the function may be called
-- for the statements within it if one more may be open, and reads them.
pub record ReadsInner (depth : ℕ) (pre : Global → MutBor Ahead → ℕ → Type 0)
    (post : Global → MutBor Ahead → ℕ → Result Stmts ReadFault → MutBor Ahead → Type 0) : Type 0 where
  pub within : depth ≤ NESTING
  pub callable : (alloc : Global) (old : MutBor Ahead) → suc depth ≤ NESTING → pre alloc old (suc depth)
  pub reads : (alloc : Global) (old new : MutBor Ahead) (result : Result Stmts ReadFault) → post alloc old (suc depth) result new
      → Reads (stmts (suc depth)) old.now result new.now
