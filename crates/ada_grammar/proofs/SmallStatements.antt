-- Statements: small sources, and the trees that are spelled by their tokens.
use Rattle.std.proofs.Common.{refl, [], ◌∷◌}
use Rattle.std.specs.Prelude.{Some, None}
use Rattle.ada_tree.specs.declared.unit.SourceUnit.TheVariants as unit
use Rattle.ada_tree.specs.declared.subprogram.Subspec.TheVariants as subspec
use Rattle.ada_tree.specs.declared.declaration.Item.TheVariants as item
use Rattle.ada_tree.specs.declared.declaration.Indication.TheVariants as indication
use Rattle.ada_tree.specs.declared.range.Range.TheVariants as range
use Rattle.ada_tree.specs.declared.range.Choice.TheVariants as choice
use Rattle.ada_tree.specs.declared.range.NextChoice.TheVariants as next_choice
use Rattle.ada_tree.specs.declared.statement.Stmts.TheVariants as stmts
use Rattle.ada_tree.specs.declared.statement.Stmt.TheVariants as stmt
use Rattle.ada_tree.specs.declared.statement.Elsif.TheVariants as branch
use Rattle.ada_tree.specs.declared.statement.When.TheVariants as alternative
use Rattle.ada_tree.specs.declared.expression.Primary.TheVariants as primary
use Rattle.ada_tree.specs.declared.expression.Arg.TheVariants as arg
use Rattle.ada_tree.specs.declared.expression.NextArg.TheVariants as next_arg
use Rattle.ada_tree.specs.declared.expression.Name.TheVariants as name
use Rattle.ada_tree.specs.declared.expression.Suffix.TheVariants as suffix
use Rattle.ada_grammar.proofs.SmallSources.{computes, IsTextOf, source_of, at, id, mark, subprogram_of, expr_of, object, name_of, null_at, sole, with_stmt}

-- stmt = "null" ";"
null_statement : IsTextOf "procedure P is begin null; end;" (with_stmt (stmt.Null (at 22) (at 26)) 28)
unfolding computes
null_statement = source_of (search) (search) refl

-- stmts = stmt {stmt}
two_statements : IsTextOf "procedure P is begin null; null; end;"
    (unit.OfSubprogram (at 1) [] (subprogram_of 1 (subspec.Procedure (at 1) (id 11 "P") None) None 13 [] 16 (stmts.Sequence
    (at 22) (stmt.Null (at 22) (at 26)) (stmt.Null (at 28) (at 32) ∷ [])) 34 None 37) ∷ [])
unfolding computes
two_statements = source_of (search) (search) refl

-- stmt = name ":=" expr ";"
assignment : IsTextOf "procedure P is begin A.B := 1; end;"
    (with_stmt (stmt.Assign (at 22) (name.Prefixed (at 22) (id 22 "A") (suffix.Selected (at 23) (id 24 "B") ∷ [])) (at 26)
    (expr_of 29 (primary.Number (at 29) 1)) (at 30)) 32)
unfolding computes
assignment = source_of (search) (search) refl

-- stmt = name ";"
call : IsTextOf "procedure P is begin A; end;" (with_stmt (stmt.Call (at 22) (name_of 22 "A") (at 23)) 25)
unfolding computes
call = source_of (search) (search) refl

-- stmt = name ";", with actuals
call_with_actuals : IsTextOf "procedure P is begin A.B (1, N => X); end;"
    (with_stmt (stmt.Call (at 22) (name.Prefixed (at 22) (id 22 "A") (suffix.Selected (at 23) (id 24 "B") ∷ suffix.Applied
    (at 26) (arg.Positional (at 27) (expr_of 27 (primary.Number (at 27) 1))) (next_arg.FurtherArg (at 28) (arg.Association
    (at 30) (id 30 "N") (at 32) (expr_of 35 (object 35 "X"))) ∷ []) (at 36) ∷ [])) (at 37)) 39)
unfolding computes
call_with_actuals = source_of (search) (search) refl

-- stmt = "exit" ";"
exit_statement : IsTextOf "procedure P is begin exit; end;" (with_stmt (stmt.Exit (at 22) (at 26)) 28)
unfolding computes
exit_statement = source_of (search) (search) refl

-- stmt = "exit" "when" expr ";"
exit_when : IsTextOf "procedure P is begin exit when B; end;"
    (with_stmt (stmt.ExitWhen (at 22) (at 27) (expr_of 32 (object 32 "B")) (at 33)) 35)
unfolding computes
exit_when = source_of (search) (search) refl

-- stmt = "return" ";"
return_statement : IsTextOf "procedure P is begin return; end;" (with_stmt (stmt.Return (at 22) (at 28)) 30)
unfolding computes
return_statement = source_of (search) (search) refl

-- stmt = "return" expr ";"
return_with_value : IsTextOf "procedure P is begin return 1; end;"
    (with_stmt (stmt.ReturnValue (at 22) (expr_of 29 (primary.Number (at 29) 1)) (at 30)) 32)
unfolding computes
return_with_value = source_of (search) (search) refl

-- stmt = "if" expr "then" stmts "end" "if" ";"
if_statement : IsTextOf "procedure P is begin if B then null; end if; end;"
    (with_stmt (stmt.If (at 22) (expr_of 25 (object 25 "B")) (at 27) (null_at 32) [] (at 38) (at 42) (at 44)) 46)
unfolding computes
if_statement = source_of (search) (search) refl

-- stmt = "if" expr "then" stmts {"elsif" expr "then" stmts} "end" "if" ";"
if_with_elsif : IsTextOf "procedure P is begin if B then null; elsif C then exit; end if; end;"
    (with_stmt (stmt.If (at 22) (expr_of 25 (object 25 "B")) (at 27) (null_at 32) (branch.Branch (at 38)
    (expr_of 44 (object 44 "C")) (at 46) (sole 51 (stmt.Exit (at 51) (at 55))) ∷ []) (at 57) (at 61) (at 63)) 65)
unfolding computes
if_with_elsif = source_of (search) (search) refl

-- stmt = "if" expr "then" stmts "else" stmts "end" "if" ";"
if_with_else : IsTextOf "procedure P is begin if B then null; else exit; end if; end;"
    (with_stmt (stmt.IfElse (at 22) (expr_of 25 (object 25 "B")) (at 27) (null_at 32) [] (at 38) (sole 43 (stmt.Exit (at 43)
    (at 47))) (at 49) (at 53) (at 55)) 57)
unfolding computes
if_with_else = source_of (search) (search) refl

-- stmt = "if" expr "then" stmts {"elsif" expr "then" stmts} "else" stmts "end" "if" ";"
if_with_all : IsTextOf "procedure P is begin if B then null; elsif C then exit; elsif D then return; else X; end if; end;"
    (with_stmt (stmt.IfElse (at 22) (expr_of 25 (object 25 "B")) (at 27) (null_at 32) (branch.Branch (at 38)
    (expr_of 44 (object 44 "C")) (at 46) (sole 51 (stmt.Exit (at 51) (at 55))) ∷ branch.Branch (at 57)
    (expr_of 63 (object 63 "D")) (at 65) (sole 70 (stmt.Return (at 70) (at 76))) ∷ []) (at 78) (sole 83 (stmt.Call (at 83)
    (name_of 83 "X") (at 84))) (at 86) (at 90) (at 92)) 94)
unfolding computes
if_with_all = source_of (search) (search) refl

-- stmt = "case" expr "is" when "end" "case" ";", choice = expr
case_statement : IsTextOf "procedure P is begin case X is when 1 => null; end case; end;"
    (with_stmt (stmt.Case (at 22) (expr_of 27 (object 27 "X")) (at 29) (alternative.Alternative (at 32) (choice.Value (at 37)
    (expr_of 37 (primary.Number (at 37) 1))) [] (at 39) (null_at 42)) [] (at 48) (at 52) (at 56)) 58)
unfolding computes
case_statement = source_of (search) (search) refl

-- stmt = "case" expr "is" when {when} "end" "case" ";", choice = "others"
case_with_others : IsTextOf "procedure P is begin case X is when 1 => null; when others => exit; end case; end;"
    (with_stmt (stmt.Case (at 22) (expr_of 27 (object 27 "X")) (at 29) (alternative.Alternative (at 32) (choice.Value (at 37)
    (expr_of 37 (primary.Number (at 37) 1))) [] (at 39) (null_at 42)) (alternative.Alternative (at 48) (choice.Others (at 53))
    [] (at 60) (sole 63 (stmt.Exit (at 63) (at 67))) ∷ []) (at 69) (at 73) (at 77)) 79)
unfolding computes
case_with_others = source_of (search) (search) refl

-- when = "when" choice {"|" choice} "=>" stmts, choice = expr ".." expr
case_with_choices : IsTextOf "procedure P is begin case X is when 1 .. 3 | 5 | A .. B => null; null; end case; end;"
    (with_stmt (stmt.Case (at 22) (expr_of 27 (object 27 "X")) (at 29) (alternative.Alternative (at 32) (choice.Interval (at 37)
    (expr_of 37 (primary.Number (at 37) 1)) (at 39) (expr_of 42 (primary.Number (at 42) 3))) (next_choice.Bar (at 44)
    (choice.Value (at 46) (expr_of 46 (primary.Number (at 46) 5))) ∷ next_choice.Bar (at 48) (choice.Interval (at 50)
    (expr_of 50 (object 50 "A")) (at 52) (expr_of 55 (object 55 "B"))) ∷ []) (at 57) (stmts.Sequence (at 60) (stmt.Null (at 60)
    (at 64)) (stmt.Null (at 66) (at 70) ∷ []))) [] (at 72) (at 76) (at 80)) 82)
unfolding computes
case_with_choices = source_of (search) (search) refl

-- stmt = "loop" stmts "end" "loop" ";"
plain_loop : IsTextOf "procedure P is begin loop exit; end loop; end;"
    (with_stmt (stmt.Loop (at 22) (sole 27 (stmt.Exit (at 27) (at 31))) (at 33) (at 37) (at 41)) 43)
unfolding computes
plain_loop = source_of (search) (search) refl

-- stmt = "while" expr "loop" stmts "end" "loop" ";"
while_loop : IsTextOf "procedure P is begin while B loop null; end loop; end;"
    (with_stmt (stmt.While (at 22) (expr_of 28 (object 28 "B")) (at 30) (null_at 35) (at 41) (at 45) (at 49)) 51)
unfolding computes
while_loop = source_of (search) (search) refl

-- stmt = "for" id "in" range "loop" stmts "end" "loop" ";"
for_loop : IsTextOf "procedure P is begin for I in 1 .. 9 loop null; end loop; end;"
    (with_stmt (stmt.For (at 22) (id 26 "I") (at 28) None (range.Bounds (at 31) (expr_of 31 (primary.Number (at 31) 1)) (at 33)
    (expr_of 36 (primary.Number (at 36) 9))) (at 38) (null_at 43) (at 49) (at 53) (at 57)) 59)
unfolding computes
for_loop = source_of (search) (search) refl

-- stmt = "for" id "in" "reverse" range "loop" stmts "end" "loop" ";"
for_loop_reverse : IsTextOf "procedure P is begin for I in reverse T loop null; end loop; end;"
    (with_stmt (stmt.For (at 22) (id 26 "I") (at 28) (Some (at 31)) (range.Marked (at 39) (mark 39 "T")) (at 41) (null_at 46)
    (at 52) (at 56) (at 60)) 62)
unfolding computes
for_loop_reverse = source_of (search) (search) refl

-- stmt = "begin" stmts "end" ";"
block : IsTextOf "procedure P is begin begin null; end; end;" (with_stmt (stmt.Block (at 22) (null_at 28) (at 34) (at 37)) 39)
unfolding computes
block = source_of (search) (search) refl

-- stmt = "declare" "begin" stmts "end" ";"
block_with_no_item : IsTextOf "procedure P is begin declare begin null; end; end;"
    (with_stmt (stmt.DeclareBlock (at 22) [] (at 30) (null_at 36) (at 42) (at 45)) 47)
unfolding computes
block_with_no_item = source_of (search) (search) refl

-- stmt = "declare" {item} "begin" stmts "end" ";"
block_with_items : IsTextOf "procedure P is begin declare X : T; type U; begin X := 1; end; end;"
    (with_stmt (stmt.DeclareBlock (at 22) (item.Objects (at 30) (id 30 "X") [] (at 32) None (indication.Mark (at 34)
    (mark 34 "T")) (at 35) ∷ item.IncompleteType (at 37) (id 42 "U") (at 43) ∷ []) (at 45) (sole 51 (stmt.Assign (at 51)
    (name_of 51 "X") (at 53) (expr_of 56 (primary.Number (at 56) 1)) (at 57))) (at 59) (at 62)) 64)
unfolding computes
block_with_items = source_of (search) (search) refl

-- stmts in stmts in stmts
loops_in_each_other : IsTextOf "procedure P is begin loop while B loop if C then exit; end if; end loop; end loop; end;"
    (with_stmt (stmt.Loop (at 22) (sole 27 (stmt.While (at 27) (expr_of 33 (object 33 "B")) (at 35) (sole 40 (stmt.If (at 40)
    (expr_of 43 (object 43 "C")) (at 45) (sole 50 (stmt.Exit (at 50) (at 54))) [] (at 56) (at 60) (at 62))) (at 64) (at 68)
    (at 72))) (at 74) (at 78) (at 82)) 84)
unfolding computes
loops_in_each_other = source_of (search) (search) refl
