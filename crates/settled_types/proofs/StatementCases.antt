-- A law on parsed statements and their parts, by its forms.
use mathlib.Core.Former.{Count}
use Rattle.ada_tree.specs.declared.statement.Stmts.{Stmts, Row_of-Stmt, end_of-Stmt, more_of-Stmt}
use Rattle.ada_tree.specs.declared.statement.Stmts.TheVariants as stmts
use Rattle.ada_tree.specs.declared.statement.Stmt.{Stmt, Row_of-Stmts, end_of-Stmts, more_of-Stmts, Row_of-Elsif, end_of-Elsif, more_of-Elsif, Row_of-When, end_of-When, more_of-When}
use Rattle.ada_tree.specs.declared.statement.Stmt.TheVariants as stmt
use Rattle.ada_tree.specs.declared.statement.Elsif.{Elsif}
use Rattle.ada_tree.specs.declared.statement.Elsif.TheVariants as branch
use Rattle.ada_tree.specs.declared.statement.When.{When}
use Rattle.ada_tree.specs.declared.statement.When.TheVariants as alternative

-- What is said of each part.
pub record Sayings : Type 1 where
  pub of_statements : Stmts → Type 0
  pub of_statement_box : (n : Count) → Row_of-Stmt n → Type 0
  pub of_statement_row : (n : Count) → Row_of-Stmt n → Type 0
  pub of_statement : Stmt → Type 0
  pub of_statements_box : (n : Count) → Row_of-Stmts n → Type 0
  pub of_branches : (n : Count) → Row_of-Elsif n → Type 0
  pub of_branch : Elsif → Type 0
  pub of_alternative_box : (n : Count) → Row_of-When n → Type 0
  pub of_alternatives : (n : Count) → Row_of-When n → Type 0
  pub of_alternative : When → Type 0

pub record StatementLaws (says : Sayings) : Type 0 where
  pub statements_sequence : (pos : _) (n : _) (first : _) (n2 : _) (rest : _) → says.of_statement_box _ first → says.of_statement_row _ rest → says.of_statements (stmts.Sequence' pos n first n2 rest)
  pub statement_box_end : says.of_statement_box _ end_of-Stmt
  pub statement_box_more : (m : Count) (part : _) (rest : Row_of-Stmt m) → says.of_statement part → says.of_statement_box _ (more_of-Stmt part rest)
  pub statement_row_end : says.of_statement_row _ end_of-Stmt
  pub statement_row_more : (m : Count) (part : _) (rest : Row_of-Stmt m) → says.of_statement part → says.of_statement_row _ rest → says.of_statement_row _ (more_of-Stmt part rest)
  pub statement_null : (pos : _) (semicolon : _) → says.of_statement (stmt.Null pos semicolon)
  pub statement_assign : (pos : _) (target : _) (becomes : _) (value : _) (semicolon : _) → says.of_statement (stmt.Assign pos target becomes value semicolon)
  pub statement_call : (pos : _) (called : _) (semicolon : _) → says.of_statement (stmt.Call pos called semicolon)
  pub statement_exit : (pos : _) (semicolon : _) → says.of_statement (stmt.Exit pos semicolon)
  pub statement_exit_when : (pos : _) (when_word : _) (condition : _) (semicolon : _) → says.of_statement (stmt.ExitWhen pos when_word condition semicolon)
  pub statement_return : (pos : _) (semicolon : _) → says.of_statement (stmt.Return pos semicolon)
  pub statement_return_value : (pos : _) (value : _) (semicolon : _) → says.of_statement (stmt.ReturnValue pos value semicolon)
  pub statement_if : (pos : _) (condition : _) (then_word : _) (n : _) (body : _) (n2 : _) (elsifs : _) (end_word : _) (end_if : _) (semicolon : _) → says.of_statements_box _ body → says.of_branches _ elsifs → says.of_statement (stmt.If' pos condition then_word n body n2 elsifs end_word end_if semicolon)
  pub statement_if_else : (pos : _) (condition : _) (then_word : _) (n : _) (body : _) (n2 : _) (elsifs : _) (otherwise : _) (n3 : _) (otherwise_body : _) (end_word : _) (end_if : _) (semicolon : _) → says.of_statements_box _ body → says.of_branches _ elsifs → says.of_statements_box _ otherwise_body → says.of_statement (stmt.IfElse' pos condition then_word n body n2 elsifs otherwise n3 otherwise_body end_word end_if semicolon)
  pub statement_case : (pos : _) (selector : _) (is_word : _) (n : _) (first : _) (n2 : _) (rest : _) (end_word : _) (end_case : _) (semicolon : _) → says.of_alternative_box _ first → says.of_alternatives _ rest → says.of_statement (stmt.Case' pos selector is_word n first n2 rest end_word end_case semicolon)
  pub statement_loop : (pos : _) (n : _) (body : _) (end_word : _) (end_loop : _) (semicolon : _) → says.of_statements_box _ body → says.of_statement (stmt.Loop' pos n body end_word end_loop semicolon)
  pub statement_while : (pos : _) (condition : _) (loop_word : _) (n : _) (body : _) (end_word : _) (end_loop : _) (semicolon : _) → says.of_statements_box _ body → says.of_statement (stmt.While' pos condition loop_word n body end_word end_loop semicolon)
  pub statement_for : (pos : _) (parameter : _) (in_word : _) (reverse : _) (over : _) (loop_word : _) (n : _) (body : _) (end_word : _) (end_loop : _) (semicolon : _) → says.of_statements_box _ body → says.of_statement (stmt.For' pos parameter in_word reverse over loop_word n body end_word end_loop semicolon)
  pub statement_block : (pos : _) (n : _) (body : _) (end_word : _) (semicolon : _) → says.of_statements_box _ body → says.of_statement (stmt.Block' pos n body end_word semicolon)
  pub statement_declare_block : (pos : _) (items : _) (begin_word : _) (n : _) (body : _) (end_word : _) (semicolon : _) → says.of_statements_box _ body → says.of_statement (stmt.DeclareBlock' pos items begin_word n body end_word semicolon)
  pub statements_box_end : says.of_statements_box _ end_of-Stmts
  pub statements_box_more : (m : Count) (part : _) (rest : Row_of-Stmts m) → says.of_statements part → says.of_statements_box _ (more_of-Stmts part rest)
  pub branches_end : says.of_branches _ end_of-Elsif
  pub branches_more : (m : Count) (part : _) (rest : Row_of-Elsif m) → says.of_branch part → says.of_branches _ rest → says.of_branches _ (more_of-Elsif part rest)
  pub branch_branch : (pos : _) (condition : _) (then_word : _) (n : _) (body : _) → says.of_statements_box _ body → says.of_branch (branch.Branch' pos condition then_word n body)
  pub alternative_box_end : says.of_alternative_box _ end_of-When
  pub alternative_box_more : (m : Count) (part : _) (rest : Row_of-When m) → says.of_alternative part → says.of_alternative_box _ (more_of-When part rest)
  pub alternatives_end : says.of_alternatives _ end_of-When
  pub alternatives_more : (m : Count) (part : _) (rest : Row_of-When m) → says.of_alternative part → says.of_alternatives _ rest → says.of_alternatives _ (more_of-When part rest)
  pub alternative_alternative : (pos : _) (first : _) (rest : _) (arrow : _) (n : _) (body : _) → says.of_statements_box _ body → says.of_alternative (alternative.Alternative' pos first rest arrow n body)

module _ {says : Sayings} (laws : StatementLaws says) where
  mutual
    pub on_statements : (x : Stmts) → says.of_statements x
    on_statements (stmts.Sequence' pos n first n2 rest) = laws.statements_sequence pos n first n2 rest (on_statement_box first) (on_statement_row rest)

    pub on_statement_box : {n : _} (row : Row_of-Stmt n) → says.of_statement_box n row
    on_statement_box end_of-Stmt = laws.statement_box_end
    on_statement_box (more_of-Stmt part rest) = laws.statement_box_more _ part rest (on_statement part)

    pub on_statement_row : {n : _} (row : Row_of-Stmt n) → says.of_statement_row n row
    on_statement_row end_of-Stmt = laws.statement_row_end
    on_statement_row (more_of-Stmt part rest) = laws.statement_row_more _ part rest (on_statement part) (on_statement_row rest)

    pub on_statement : (x : Stmt) → says.of_statement x
    on_statement (stmt.Null pos semicolon) = laws.statement_null pos semicolon
    on_statement (stmt.Assign pos target becomes value semicolon) = laws.statement_assign pos target becomes value semicolon
    on_statement (stmt.Call pos called semicolon) = laws.statement_call pos called semicolon
    on_statement (stmt.Exit pos semicolon) = laws.statement_exit pos semicolon
    on_statement (stmt.ExitWhen pos when_word condition semicolon) = laws.statement_exit_when pos when_word condition semicolon
    on_statement (stmt.Return pos semicolon) = laws.statement_return pos semicolon
    on_statement (stmt.ReturnValue pos value semicolon) = laws.statement_return_value pos value semicolon
    on_statement (stmt.If' pos condition then_word n body n2 elsifs end_word end_if semicolon) = laws.statement_if pos condition then_word n body n2 elsifs end_word end_if semicolon (on_statements_box body) (on_branches elsifs)
    on_statement (stmt.IfElse' pos condition then_word n body n2 elsifs otherwise n3 otherwise_body end_word end_if semicolon) = laws.statement_if_else pos condition then_word n body n2 elsifs otherwise n3 otherwise_body end_word end_if semicolon (on_statements_box body) (on_branches elsifs) (on_statements_box otherwise_body)
    on_statement (stmt.Case' pos selector is_word n first n2 rest end_word end_case semicolon) = laws.statement_case pos selector is_word n first n2 rest end_word end_case semicolon (on_alternative_box first) (on_alternatives rest)
    on_statement (stmt.Loop' pos n body end_word end_loop semicolon) = laws.statement_loop pos n body end_word end_loop semicolon (on_statements_box body)
    on_statement (stmt.While' pos condition loop_word n body end_word end_loop semicolon) = laws.statement_while pos condition loop_word n body end_word end_loop semicolon (on_statements_box body)
    on_statement (stmt.For' pos parameter in_word reverse over loop_word n body end_word end_loop semicolon) = laws.statement_for pos parameter in_word reverse over loop_word n body end_word end_loop semicolon (on_statements_box body)
    on_statement (stmt.Block' pos n body end_word semicolon) = laws.statement_block pos n body end_word semicolon (on_statements_box body)
    on_statement (stmt.DeclareBlock' pos items begin_word n body end_word semicolon) = laws.statement_declare_block pos items begin_word n body end_word semicolon (on_statements_box body)

    pub on_statements_box : {n : _} (row : Row_of-Stmts n) → says.of_statements_box n row
    on_statements_box end_of-Stmts = laws.statements_box_end
    on_statements_box (more_of-Stmts part rest) = laws.statements_box_more _ part rest (on_statements part)

    pub on_branches : {n : _} (row : Row_of-Elsif n) → says.of_branches n row
    on_branches end_of-Elsif = laws.branches_end
    on_branches (more_of-Elsif part rest) = laws.branches_more _ part rest (on_branch part) (on_branches rest)

    pub on_branch : (x : Elsif) → says.of_branch x
    on_branch (branch.Branch' pos condition then_word n body) = laws.branch_branch pos condition then_word n body (on_statements_box body)

    pub on_alternative_box : {n : _} (row : Row_of-When n) → says.of_alternative_box n row
    on_alternative_box end_of-When = laws.alternative_box_end
    on_alternative_box (more_of-When part rest) = laws.alternative_box_more _ part rest (on_alternative part)

    pub on_alternatives : {n : _} (row : Row_of-When n) → says.of_alternatives n row
    on_alternatives end_of-When = laws.alternatives_end
    on_alternatives (more_of-When part rest) = laws.alternatives_more _ part rest (on_alternative part) (on_alternatives rest)

    pub on_alternative : (x : When) → says.of_alternative x
    on_alternative (alternative.Alternative' pos first rest arrow n body) = laws.alternative_alternative pos first rest arrow n body (on_statements_box body)
