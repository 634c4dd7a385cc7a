-- What the functions that read a part promise besides `Reads`.
use Rattle.std.specs.Prelude.{◌≡◌, List, Result, Ok, Err}
use Rattle.std.proofs.Common.{inl, inr}
use Rattle.spark_base.specs.declared.position.Pos.{Pos}
use Rattle.token_reading.specs.declared.fault.ReadFault.{ReadFault}
use Rattle.token_reading.specs.declared.fault.ReadFault.TheVariants as fault
use Rattle.token_reading.specs.Reading.{Reader, Ahead, Got, at, Reads}
use Rattle.ada_tree.specs.declared.expression.Arg.{Arg}
use Rattle.ada_tree.specs.declared.expression.NextArg.{NextArg}
use Rattle.ada_tree.specs.declared.expression.Expr.{Expr}
use Rattle.ada_grammar.specs.Expressions as grammar
use Rattle.expression_parser.specs.declared.parts.Args.{Args}
use Rattle.expression_parser.specs.declared.parts.Others.{Others}
use Rattle.expression_parser.specs.declared.parts.Constraint.{Constraint}
use Rattle.expression_parser.specs.declared.parts.Chain.{Chain}
use Rattle.expression_parser.specs.declared.parts.Chain.TheVariants as of_chain

-- The second result is the first, but that memory may have run out since.
abbrev pub Passes : {A : Type 0} → Result A ReadFault → Result A ReadFault → Type 0
Passes (Ok a) (Ok b) = b ≡ a
Passes (Ok a) (Err e) = e ≡ fault.Memory
Passes (Err e) result = result ≡ Err e

-- A function reads from a cursor as this reader does, and its answer has these parts.
abbrev pub ReadsAs : {A B : Type 0} → (A → B) → Reader B → Ahead → Result A ReadFault → Ahead → Type 0
ReadsAs parts p old (Ok a) new = at p old ≡ Got (parts a) new.operators new.tokens
ReadsAs parts p old (Err e) new = Reads p old (Err e) new

-- ---- the parts as the readers give them

abbrev pub args_parts : Args → Arg × (List NextArg × Pos)
args_parts x = (x.first, (x.rest, x.right_paren))

abbrev pub others_parts : Others → Pos × (Pos × (Expr × Pos))
others_parts x = (x.others, (x.arrow, (x.value, x.right_paren)))

abbrev pub constraint_parts : Constraint → Pos × (Expr × (Pos × Expr))
constraint_parts x = (x.range, (x.low, (x.dots, x.high)))

abbrev pub chain_parts : Chain → grammar.Chain
chain_parts (of_chain.Short second_word second rest) = inl (second_word, (second, rest))
chain_parts (of_chain.Long second rest) = inr (second, rest)
