-- The laws of a statement and of statements in a row, by the levels that are left.
use Rattle.std.proofs.Common.{◌≡◌, refl, subst, ℕ, zero, suc, ◌+◌, ◌-◌, ◌<◌, ◌≤◌, false, List, [], ◌∷◌, Option, Some, None, ◌⊎◌, inl, inr, arith}
use Rattle.std.proofs.Math.Path.{transport, transport⁻¹}
use Rattle.std.specs.List.{flat_map}
use Rattle.std.proofs.lemmas.Bool.{leb-false}
use lib.Dec.{leb}
use Rattle.spark_base.specs.declared.position.Pos.{Pos}
use Rattle.spark_base.specs.declared.limits.TheConstants.{NESTING}
use Rattle.ada_lexer.specs.declared.token.Reserved.TheVariants as w
use Rattle.token_reading.specs.declared.side.Side.TheVariants.{Apart}
use Rattle.token_reading.specs.Weights.{WeighedToken, bare}
use Rattle.token_reading.specs.Reading.{Reader, of_word, of_ident, Each, StartsAt}
use Rattle.token_reading.proofs.Law.{Law}
use Rattle.token_reading.proofs.Tokens.{Any}
use Rattle.token_reading.proofs.Sets.{Leads}
use Rattle.token_reading.proofs.Seq.{Both, joined, law_seq}
use Rattle.token_reading.proofs.Made.{law_to, law_reworded, law_wider}
use Rattle.token_reading.proofs.Choice.{Maybe}
use Rattle.token_reading.proofs.Many.{law_each}
use Rattle.token_reading.proofs.Positions.{law_placed}
use Rattle.ada_tree.specs.declared.identifier.Identifier.{Identifier}
use Rattle.ada_tree.specs.declared.expression.Expr.{Expr}
use Rattle.ada_tree.specs.declared.expression.Name.{Name}
use Rattle.ada_tree.specs.declared.range.Range.{Range}
use Rattle.ada_tree.specs.declared.declaration.Item.{Item}
use Rattle.ada_tree.specs.declared.statement.Stmts.{Stmts}
use Rattle.ada_tree.specs.declared.statement.Stmt.{Stmt}
use Rattle.ada_tree.specs.declared.statement.Stmt.TheVariants as of_stmt
use Rattle.ada_tree.specs.declared.statement.Elsif.{Elsif}
use Rattle.ada_tree.specs.declared.statement.When.{When}
use Rattle.ada_tree.specs.Spelling.{name_spelling, stmts_spelling, stmt_spelling}
use Rattle.ada_tree.specs.WellPlaced.{ItemPlaced, StmtPlaced, ElsifPlaced, WhenPlaced}
use Rattle.ada_tree.specs.FixedNames.{ItemNamed, StmtNamed, ElsifNamed, WhenNamed}
use Rattle.ada_grammar.proofs.StatementForms.{stmt_form, stmts_form}
use Rattle.ada_grammar.proofs.StatementLevels.{stmts-Sequence}
use Rattle.ada_grammar.proofs.StatementPlacedLevels as placed
use Rattle.ada_grammar.proofs.StatementNamedLevels as named
use Rattle.ada_grammar.specs.Expressions.{name_first}
use Rattle.ada_grammar.specs.Statements.{Source, Ending, BlockEnding, LoopBody, make_null, make_exit, make_return, make_if, make_case, make_loop, make_while, make_for, make_block, make_declare_block, block_or_named_in, stmt_in, next_stmts_in, make_stmts, stmts_in, no_stmts, stmts_of, stmts, inner_of, inner_stmts, stmt, stmt_first, stmts_last}
use Rattle.ada_grammar.proofs.ExpressionLaws.{law_name}
use Rattle.ada_grammar.proofs.StatementParts.{MadeOf, OneOf, law_one_of, each_both, both_each, position_of_front, position_of_whole}
use Rattle.ada_grammar.proofs.SimpleStatements.{semicolon_spelling, NullParts, law_null_stmt, source_spelling, NamedParts, make_named_of, law_named_stmt, ExitParts, law_exit_stmt, ReturnParts, law_return_stmt}
use Rattle.ada_grammar.proofs.BranchStatements.{GoodStmts, InnerLaw, GoodIf, law_if_in, GoodCase, law_case_in}
use Rattle.ada_grammar.proofs.BlockStatements.{GoodLoop, law_loop_in, GoodWhile, law_while_in, GoodFor, law_for_in, GoodBlock, law_block_in, GoodDeclare, law_declare_in}

abbrev pub GoodStmt : ℕ → Stmt → Type 0
GoodStmt d x = StmtPlaced d x × StmtNamed x

-- ---- the forms

abbrev BlockOrNamed : ℕ → Stmt → Type 0
BlockOrNamed d =
    OneOf (MadeOf make_loop (GoodLoop d)) (OneOf (MadeOf make_while (GoodWhile d)) (OneOf (MadeOf make_for (GoodFor d))
    (OneOf (MadeOf make_block (GoodBlock d)) (OneOf (MadeOf make_declare_block (GoodDeclare d)) (MadeOf make_named_of (NamedParts d))))))

abbrev OfForm : ℕ → Stmt → Type 0
OfForm d =
    OneOf (MadeOf make_null NullParts) (OneOf (MadeOf make_exit (ExitParts d)) (OneOf (MadeOf make_return (ReturnParts d))
    (OneOf (MadeOf make_if (GoodIf d)) (OneOf (MadeOf make_case (GoodCase d)) (BlockOrNamed d)))))

law_block_or_named_in : (d : ℕ) → d ≤ NESTING → (inner : Reader Stmts) → (leb NESTING d ≡ false → InnerLaw (suc d) inner)
    → Law (block_or_named_in d inner) (BlockOrNamed d) (stmt_spelling d)
    (of_word w.KwLoop ∷ of_word w.KwWhile ∷ of_word w.KwFor ∷ of_word w.KwBegin ∷ of_word w.KwDeclare ∷ of_ident ∷ []) [] false
unfolding block_or_named_in
law_block_or_named_in d h inner L =
    law_one_of (of_word w.KwLoop ∷ []) (law_loop_in d inner L)
    (law_one_of (of_word w.KwWhile ∷ []) (law_while_in d inner L)
    (law_one_of (of_word w.KwFor ∷ []) (law_for_in d inner L)
    (law_one_of (of_word w.KwBegin ∷ []) (law_block_in d inner L)
    (law_one_of (of_word w.KwDeclare ∷ []) (law_declare_in d inner L) (law_named_stmt d h) refl refl) refl refl) refl refl) refl refl)
    refl refl

law_of_form : (d : ℕ) → d ≤ NESTING → (inner : Reader Stmts) → (leb NESTING d ≡ false → InnerLaw (suc d) inner)
    → Law (stmt_in d inner) (OfForm d) (stmt_spelling d) stmt_first [] false
unfolding stmt_in
law_of_form d h inner L =
    law_one_of (of_word w.KwNull ∷ []) (law_null_stmt d)
    (law_one_of (of_word w.KwExit ∷ []) (law_exit_stmt d h)
    (law_one_of (of_word w.KwReturn ∷ []) (law_return_stmt d h)
    (law_one_of (of_word w.KwIf ∷ []) (law_if_in d inner L)
    (law_one_of (of_word w.KwCase ∷ []) (law_case_in d inner L) (law_block_or_named_in d h inner L) refl refl) refl refl) refl refl)
    refl refl) refl refl

-- ---- what is made of the parts of a form is well placed and named

good_exit : (d : ℕ) (x : Pos × (Option (Pos × Expr) × Pos)) → ExitParts d x → GoodStmt d (make_exit x)
good_exit d (pos, (Some x, semicolon)) good =
    (transport⁻¹ (placed.stmt-ExitWhen-placed d pos x.0 x.1 semicolon) good.1.0.1, transport⁻¹ (named.stmt-ExitWhen-named pos x.0 x.1 semicolon) tt)
good_exit d (pos, (None, semicolon)) good =
    (transport⁻¹ (placed.stmt-Exit-placed d pos semicolon) tt, transport⁻¹ (named.stmt-Exit-named pos semicolon) tt)

good_return : (d : ℕ) (x : Pos × (Pos ⊎ (Expr × Pos))) → ReturnParts d x → GoodStmt d (make_return x)
good_return d (pos, inl semicolon) good =
    (transport⁻¹ (placed.stmt-Return-placed d pos semicolon) tt, transport⁻¹ (named.stmt-Return-named pos semicolon) tt)
good_return d (pos, inr x) good =
    (transport⁻¹ (placed.stmt-ReturnValue-placed d pos x.0 x.1) good.1.0, transport⁻¹ (named.stmt-ReturnValue-named pos x.0 x.1) tt)

good_if : (d : ℕ) (x : Pos × (Expr × (Pos × (Stmts × (List Elsif × (Option (Pos × Stmts) × Ending)))))) → GoodIf d x → GoodStmt d (make_if x)
good_if d (pos, (condition, (then, (body, (elsifs, (None, end)))))) good =
    let parts = each_both (ElsifPlaced (suc d)) ElsifNamed elsifs good.1.1.1.1.0 in (
      transport⁻¹ (placed.stmt-If-placed d pos condition then body elsifs end.0 end.1.0 end.1.1)
          (good.1.0, good.1.1.1.0.0, parts.0),
      transport⁻¹ (named.stmt-If-named pos condition then body elsifs end.0 end.1.0 end.1.1) (good.1.1.1.0.1, parts.1),
    )
good_if d (pos, (condition, (then, (body, (elsifs, (Some x, end)))))) good =
    let parts = each_both (ElsifPlaced (suc d)) ElsifNamed elsifs good.1.1.1.1.0 in (
      transport⁻¹ (placed.stmt-IfElse-placed d pos condition then body elsifs x.0 x.1 end.0 end.1.0 end.1.1)
          (good.1.0, good.1.1.1.0.0, parts.0, good.1.1.1.1.1.0.1.0),
      transport⁻¹ (named.stmt-IfElse-named pos condition then body elsifs x.0 x.1 end.0 end.1.0 end.1.1)
          (good.1.1.1.0.1, parts.1, good.1.1.1.1.1.0.1.1),
    )

good_case : (d : ℕ) (x : Pos × (Expr × (Pos × (When × (List When × Ending))))) → GoodCase d x → GoodStmt d (make_case x)
good_case d (pos, (selector, (is, (first, (rest, end))))) good =
    let parts = each_both (WhenPlaced (suc d)) WhenNamed rest good.1.1.1.1.0 in (
      transport⁻¹ (placed.stmt-Case-placed d pos selector is first rest end.0 end.1.0 end.1.1)
          (good.1.0, good.1.1.1.0.0, parts.0),
      transport⁻¹ (named.stmt-Case-named pos selector is first rest end.0 end.1.0 end.1.1) (good.1.1.1.0.1, parts.1),
    )

good_loop : (d : ℕ) (x : Pos × (Stmts × Ending)) → GoodLoop d x → GoodStmt d (make_loop x)
good_loop d (pos, (body, end)) good =
    (transport⁻¹ (placed.stmt-Loop-placed d pos body end.0 end.1.0 end.1.1) good.1.0.0, transport⁻¹ (named.stmt-Loop-named pos body end.0 end.1.0 end.1.1) good.1.0.1)

good_while : (d : ℕ) (x : Pos × (Expr × LoopBody)) → GoodWhile d x → GoodStmt d (make_while x)
good_while d (pos, (condition, (loop_word, (body, end)))) good = (
  transport⁻¹ (placed.stmt-While-placed d pos condition loop_word body end.0 end.1.0 end.1.1) (good.1.0, good.1.1.1.0.0),
  transport⁻¹ (named.stmt-While-named
      pos condition loop_word body end.0 end.1.0 end.1.1) good.1.1.1.0.1,
)

good_for : (d : ℕ) (x : Pos × (Identifier × (Pos × (Option Pos × (Range × LoopBody))))) → GoodFor d x → GoodStmt d (make_for x)
good_for d (pos, (parameter, (in_word, (reverse, (over, (loop_word, (body, end))))))) good = (
  transport⁻¹ (placed.stmt-For-placed d pos parameter in_word reverse over loop_word body end.0 end.1.0 end.1.1)
      (good.1.1.1.1.0, good.1.1.1.1.1.1.0.0),
  transport⁻¹ (named.stmt-For-named pos parameter in_word reverse over loop_word body end.0 end.1.0 end.1.1) good.1.1.1.1.1.1.0.1,
)

good_block : (d : ℕ) (x : Pos × (Stmts × BlockEnding)) → GoodBlock d x → GoodStmt d (make_block x)
good_block d (pos, (body, end)) good =
    (transport⁻¹ (placed.stmt-Block-placed d pos body end.0 end.1) good.1.0.0, transport⁻¹ (named.stmt-Block-named pos body end.0 end.1) good.1.0.1)

good_declare : (d : ℕ) (x : Pos × (List Item × (Pos × (Stmts × BlockEnding)))) → GoodDeclare d x → GoodStmt d (make_declare_block x)
good_declare d (pos, (items, (begin, (body, end)))) good =
    let parts = each_both (ItemPlaced (suc d)) ItemNamed items good.1.0 in (
      transport⁻¹ (placed.stmt-DeclareBlock-placed d pos items begin body end.0 end.1) (parts.0, good.1.1.1.0.0),
      transport⁻¹ (named.stmt-DeclareBlock-named
          pos items begin body end.0 end.1) (parts.1, good.1.1.1.0.1),
    )

good_named : (d : ℕ) → d ≤ NESTING → (x : Pos × (Name × (Source ⊎ Pos))) → NamedParts d x → GoodStmt d (make_named_of x)
good_named d h (pos, (name, inl x)) good =
    let front = position_of_front name_first (name_spelling Apart d name) (source_spelling d x) pos ((law_name Apart d h).leads name good.0.0) good.1 in (
      transport⁻¹ (placed.stmt-Assign-placed d pos name x.0 x.1.0 x.1.1) (front, good.0.0, good.0.1.1.0),
      transport⁻¹ (named.stmt-Assign-named
          pos name x.0 x.1.0 x.1.1) tt,
    )
good_named d h (pos, (name, inr x)) good =
    let front = position_of_front name_first (name_spelling Apart d name) (semicolon_spelling x) pos ((law_name Apart d h).leads name good.0.0) good.1 in
    (transport⁻¹ (placed.stmt-Call-placed d pos name x) (front, good.0.0), transport⁻¹ (named.stmt-Call-named pos name x) tt)

made_good : {A : Type 0} (make : A → Stmt) (g : A → Type 0) (d : ℕ) → ((x : A) → g x → GoodStmt d (make x)) → (b : Stmt) → MadeOf make g b → GoodStmt d b
made_good make g d good b made = subst (GoodStmt d) made.1.1 (good made.0 made.1.0)

good_null : (d : ℕ) (x : Pos × Pos) → NullParts x → GoodStmt d (make_null x)
good_null d x good = (transport⁻¹ (placed.stmt-Null-placed d x.0 x.1) tt, transport⁻¹ (named.stmt-Null-named x.0 x.1) tt)

either_good : {P Q : Stmt → Type 0} (d : ℕ) → ((b : Stmt) → P b → GoodStmt d b) → ((b : Stmt) → Q b → GoodStmt d b) → (b : Stmt)
    → OneOf P Q b → GoodStmt d b
either_good d one other b (inl x) = one b x
either_good d one other b (inr x) = other b x

block_or_named_good : (d : ℕ) → d ≤ NESTING → (b : Stmt) → BlockOrNamed d b → GoodStmt d b
block_or_named_good d h =
    either_good d (made_good make_loop (GoodLoop d) d (good_loop d))
    (either_good d (made_good make_while (GoodWhile d) d (good_while d))
    (either_good d (made_good make_for (GoodFor d) d (good_for d))
    (either_good d (made_good make_block (GoodBlock d) d (good_block d))
    (either_good d (made_good make_declare_block (GoodDeclare d) d (good_declare d))
    (made_good make_named_of (NamedParts d) d (good_named d h))))))

form_good : (d : ℕ) → d ≤ NESTING → (b : Stmt) → OfForm d b → GoodStmt d b
form_good d h =
    either_good d (made_good make_null NullParts d (good_null d))
    (either_good d (made_good make_exit (ExitParts d) d (good_exit d))
    (either_good d (made_good make_return (ReturnParts d) d (good_return d))
    (either_good d (made_good make_if (GoodIf d) d (good_if d))
    (either_good d (made_good make_case (GoodCase d) d (good_case d)) (block_or_named_good d h)))))

-- ---- and each well placed and named statement is of a form

as_null : (d : ℕ) (b : Stmt) → MadeOf make_null NullParts b → OfForm d b
as_null d b made = inl made

as_exit : (d : ℕ) (b : Stmt) → MadeOf make_exit (ExitParts d) b → OfForm d b
as_exit d b made = inr (inl made)

as_return : (d : ℕ) (b : Stmt) → MadeOf make_return (ReturnParts d) b → OfForm d b
as_return d b made = inr (inr (inl made))

as_if : (d : ℕ) (b : Stmt) → MadeOf make_if (GoodIf d) b → OfForm d b
as_if d b made = inr (inr (inr (inl made)))

as_case : (d : ℕ) (b : Stmt) → MadeOf make_case (GoodCase d) b → OfForm d b
as_case d b made = inr (inr (inr (inr (inl made))))

as_other : (d : ℕ) (b : Stmt) → BlockOrNamed d b → OfForm d b
as_other d b form = inr (inr (inr (inr (inr form))))

as_loop : (d : ℕ) (b : Stmt) → MadeOf make_loop (GoodLoop d) b → OfForm d b
as_loop d b made = as_other d b (inl made)

as_while : (d : ℕ) (b : Stmt) → MadeOf make_while (GoodWhile d) b → OfForm d b
as_while d b made = as_other d b (inr (inl made))

as_for : (d : ℕ) (b : Stmt) → MadeOf make_for (GoodFor d) b → OfForm d b
as_for d b made = as_other d b (inr (inr (inl made)))

as_block : (d : ℕ) (b : Stmt) → MadeOf make_block (GoodBlock d) b → OfForm d b
as_block d b made = as_other d b (inr (inr (inr (inl made))))

as_declare : (d : ℕ) (b : Stmt) → MadeOf make_declare_block (GoodDeclare d) b → OfForm d b
as_declare d b made = as_other d b (inr (inr (inr (inr (inl made)))))

as_named : (d : ℕ) (b : Stmt) → MadeOf make_named_of (NamedParts d) b → OfForm d b
as_named d b made = as_other d b (inr (inr (inr (inr (inr made)))))

any_word : (reverse : Option Pos) → Maybe Any reverse
any_word None = tt
any_word (Some pos) = tt

null_of : (d : ℕ) (pos semicolon : Pos)
    → GoodStmt d (of_stmt.Null pos semicolon) → OfForm d (of_stmt.Null pos semicolon)
null_of d pos semicolon good =
    as_null d _ ((pos, semicolon), ((tt, tt), refl))

assign_of : (d : ℕ) (pos : Pos) (target : Name) (becomes : Pos) (value : Expr) (semicolon : Pos)
    → GoodStmt d (of_stmt.Assign pos target becomes value semicolon)
    → OfForm d (of_stmt.Assign pos target becomes value semicolon)
assign_of d pos target becomes value semicolon good =
    let p = transport (placed.stmt-Assign-placed d _ _ _ _ _) good.0 in
    as_named d _ (
      (pos, (target, inl (becomes, (value, semicolon)))),
      (
        (
          (p.1, (tt, (p.2, tt))),
          position_of_whole (name_spelling Apart d target) (source_spelling d (becomes, (value, semicolon)))
              pos p.0,
        ),
        refl,
      ),
    )

call_of : (d : ℕ) (pos : Pos) (name : Name) (semicolon : Pos)
    → GoodStmt d (of_stmt.Call pos name semicolon) → OfForm d (of_stmt.Call pos name semicolon)
call_of d pos name semicolon good =
    let p = transport (placed.stmt-Call-placed d _ _ _) good.0 in
    as_named d _ (
      (pos, (name, inr semicolon)),
      (((p.1, tt), position_of_whole (name_spelling Apart d name) (semicolon_spelling semicolon) pos p.0), refl),
    )

exit_of : (d : ℕ) (pos semicolon : Pos)
    → GoodStmt d (of_stmt.Exit pos semicolon) → OfForm d (of_stmt.Exit pos semicolon)
exit_of d pos semicolon good =
    as_exit d _ ((pos, (None, semicolon)), ((tt, (tt, tt)), refl))

exit_when_of : (d : ℕ) (pos when : Pos) (condition : Expr) (semicolon : Pos)
    → GoodStmt d (of_stmt.ExitWhen pos when condition semicolon)
    → OfForm d (of_stmt.ExitWhen pos when condition semicolon)
exit_when_of d pos when condition semicolon good =
    let p = transport (placed.stmt-ExitWhen-placed d _ _ _ _) good.0 in
    as_exit d _ ((pos, (Some (when, condition), semicolon)), ((tt, ((tt, p), tt)), refl))

return_of : (d : ℕ) (pos semicolon : Pos)
    → GoodStmt d (of_stmt.Return pos semicolon) → OfForm d (of_stmt.Return pos semicolon)
return_of d pos semicolon good =
    as_return d _ ((pos, inl semicolon), ((tt, tt), refl))

return_value_of : (d : ℕ) (pos : Pos) (value : Expr) (semicolon : Pos)
    → GoodStmt d (of_stmt.ReturnValue pos value semicolon)
    → OfForm d (of_stmt.ReturnValue pos value semicolon)
return_value_of d pos value semicolon good =
    let p = transport (placed.stmt-ReturnValue-placed d _ _ _) good.0 in
    as_return d _ ((pos, inr (value, semicolon)), ((tt, (p, tt)), refl))

if_of : (d : ℕ) (pos : Pos) (condition : Expr) (then : Pos) (body : Stmts) (elsifs : List Elsif) (end end_word
    semicolon : Pos)
    → GoodStmt d (of_stmt.If pos condition then body elsifs end end_word semicolon)
    → OfForm d (of_stmt.If pos condition then body elsifs end end_word semicolon)
if_of d pos condition then body elsifs end end_word semicolon good =
    let p = transport (placed.stmt-If-placed d _ _ _ _ _ _ _ _) good.0 in
    let n = transport (named.stmt-If-named _ _ _ _ _ _ _ _) good.1 in
    as_if d _ (
      (pos, (condition, (then, (body, (elsifs, (None, (end, (end_word, semicolon)))))))),
      (
        (tt, (p.0, (tt, ((p.1, n.0), (both_each (ElsifPlaced (suc d)) ElsifNamed elsifs (p.2, n.1), (tt, (tt, (tt, tt)))))))),
        refl,
      ),
    )

if_else_of : (d : ℕ) (pos : Pos) (condition : Expr) (then : Pos) (body : Stmts) (elsifs : List Elsif) (otherwise :
    Pos) (other : Stmts) (end end_word semicolon : Pos)
    → GoodStmt d (of_stmt.IfElse pos condition then body elsifs otherwise other end end_word semicolon)
    → OfForm d (of_stmt.IfElse pos condition then body elsifs otherwise other end end_word semicolon)
if_else_of d pos condition then body elsifs otherwise other end end_word semicolon good =
    let p = transport (placed.stmt-IfElse-placed d _ _ _ _ _ _ _ _ _ _) good.0 in
    let n = transport (named.stmt-IfElse-named _ _ _ _ _ _ _ _ _ _) good.1 in
    as_if d _ (
      (pos, (condition, (then, (body, (elsifs, (Some (otherwise, other), (end, (end_word, semicolon)))))))),
      (
        (
          tt,
          (
            p.0,
            (
              tt,
              (
                (p.1, n.0),
                (
                  both_each (ElsifPlaced (suc d)) ElsifNamed elsifs (p.2, n.1),
                  (
                    (tt, (p.3, n.2)),
                    (
                      tt,
                      (
                        tt,
                        tt,
                      ),
                    ),
                  ),
                ),
              ),
            ),
          ),
        ),
        refl,
      ),
    )

case_of : (d : ℕ) (pos : Pos) (selector : Expr) (is : Pos) (first : When) (rest : List When) (end end_word
    semicolon : Pos)
    → GoodStmt d (of_stmt.Case pos selector is first rest end end_word semicolon)
    → OfForm d (of_stmt.Case pos selector is first rest end end_word semicolon)
case_of d pos selector is first rest end end_word semicolon good =
    let p = transport (placed.stmt-Case-placed d _ _ _ _ _ _ _ _) good.0 in
    let n = transport (named.stmt-Case-named _ _ _ _ _ _ _ _) good.1 in
    as_case d _ (
      (pos, (selector, (is, (first, (rest, (end, (end_word, semicolon))))))),
      ((tt, (p.0, (tt, ((p.1, n.0), (both_each (WhenPlaced (suc d)) WhenNamed rest (p.2, n.1), (tt, (tt, tt))))))), refl),
    )

loop_of : (d : ℕ) (pos : Pos) (body : Stmts) (end end_word semicolon : Pos)
    → GoodStmt d (of_stmt.Loop pos body end end_word semicolon)
    → OfForm d (of_stmt.Loop pos body end end_word semicolon)
loop_of d pos body end end_word semicolon good =
    let p = transport (placed.stmt-Loop-placed d _ _ _ _ _) good.0 in
    let n = transport (named.stmt-Loop-named _ _ _ _ _) good.1 in
    as_loop d _ ((pos, (body, (end, (end_word, semicolon)))), ((tt, ((p, n), (tt, (tt, tt)))), refl))

while_of : (d : ℕ) (pos : Pos) (condition : Expr) (loop_word : Pos) (body : Stmts) (end end_word semicolon : Pos)
    → GoodStmt d (of_stmt.While pos condition loop_word body end end_word semicolon)
    → OfForm d (of_stmt.While pos condition loop_word body end end_word semicolon)
while_of d pos condition loop_word body end end_word semicolon good =
    let p = transport (placed.stmt-While-placed d _ _ _ _ _ _ _) good.0 in
    let n = transport (named.stmt-While-named _ _ _ _ _ _ _) good.1 in
    as_while d _ (
      (pos, (condition, (loop_word, (body, (end, (end_word, semicolon)))))),
      ((tt, (p.0, (tt, ((p.1, n), (tt, (tt, tt)))))), refl),
    )

for_of : (d : ℕ) (pos : Pos) (parameter : Identifier) (in_word : Pos) (reverse : Option Pos) (over : Range)
    (loop_word : Pos) (body : Stmts) (end end_word semicolon : Pos)
    → GoodStmt d (of_stmt.For pos parameter in_word reverse over loop_word body end end_word semicolon)
    → OfForm d (of_stmt.For pos parameter in_word reverse over loop_word body end end_word semicolon)
for_of d pos parameter in_word reverse over loop_word body end end_word semicolon good =
    let p = transport (placed.stmt-For-placed d _ _ _ _ _ _ _ _ _ _) good.0 in
    let n = transport (named.stmt-For-named _ _ _ _ _ _ _ _ _ _) good.1 in
    as_for d _ (
      (pos, (parameter, (in_word, (reverse, (over, (loop_word, (body, (end, (end_word, semicolon))))))))),
      ((tt, (tt, (tt, (any_word reverse, (p.0, (tt, ((p.1, n), (tt, (tt, tt))))))))), refl),
    )

block_of : (d : ℕ) (pos : Pos) (body : Stmts) (end semicolon : Pos)
    → GoodStmt d (of_stmt.Block pos body end semicolon) → OfForm d (of_stmt.Block pos body end semicolon)
block_of d pos body end semicolon good =
    let p = transport (placed.stmt-Block-placed d _ _ _ _) good.0 in
    let n = transport (named.stmt-Block-named _ _ _ _) good.1 in
    as_block d _ ((pos, (body, (end, semicolon))), ((tt, ((p, n), (tt, tt))), refl))

declare_block_of : (d : ℕ) (pos : Pos) (items : List Item) (begin : Pos) (body : Stmts) (end semicolon : Pos)
    → GoodStmt d (of_stmt.DeclareBlock pos items begin body end semicolon)
    → OfForm d (of_stmt.DeclareBlock pos items begin body end semicolon)
declare_block_of d pos items begin body end semicolon good =
    let p = transport (placed.stmt-DeclareBlock-placed d _ _ _ _ _ _) good.0 in
    let n = transport (named.stmt-DeclareBlock-named _ _ _ _ _ _) good.1 in
    as_declare d _ (
      (pos, (items, (begin, (body, (end, semicolon))))),
      ((tt, (both_each (ItemPlaced (suc d)) ItemNamed items (p.0, n.0), (tt, ((p.1, n.1), (tt, tt))))), refl),
    )

of_form : (d : ℕ) (b : Stmt) → GoodStmt d b → OfForm d b
of_form d =
    stmt_form (λ b. GoodStmt d b → OfForm d b) (null_of d) (assign_of d) (call_of d) (exit_of d)
    (exit_when_of d) (return_of d) (return_value_of d) (if_of d) (if_else_of d) (case_of d) (loop_of
    d) (while_of d) (for_of d) (block_of d) (declare_block_of d)

-- ---- a statement, and statements in a row

pub law_stmt_in : (d : ℕ) → d ≤ NESTING → (inner : Reader Stmts) → (leb NESTING d ≡ false → InnerLaw (suc d) inner)
    → Law (stmt_in d inner) (GoodStmt d) (stmt_spelling d) stmt_first [] false
law_stmt_in d h inner L =
    law_reworded (GoodStmt d) (stmt_spelling d) (law_of_form d h inner L) (form_good d h) (of_form d) (λ b good. refl)

abbrev GoodSequence : ℕ → Stmt × List Stmt → Type 0
GoodSequence d = Both (GoodStmt d) (Each (GoodStmt d))

abbrev sequence_spelling : ℕ → Stmt × List Stmt → List WeighedToken
sequence_spelling d = joined (stmt_spelling d) (flat_map (stmt_spelling d))

abbrev PlacedSequence : ℕ → Pos × (Stmt × List Stmt) → Type 0
PlacedSequence d x = GoodSequence d x.1 × StartsAt x.0 (bare (sequence_spelling d x.1))

abbrev make_stmts_of : Pos × (Stmt × List Stmt) → Stmts
make_stmts_of x = make_stmts x.0 x.1

good_stmts : (d : ℕ) (leads : (b : Stmt) → GoodStmt d b → Leads false stmt_first (bare (stmt_spelling d b))) (x : Pos × (Stmt × List Stmt))
    → PlacedSequence d x → GoodStmts d (make_stmts_of x)
good_stmts d leads x good =
    let front = position_of_front stmt_first (stmt_spelling d x.1.0) (flat_map (stmt_spelling d) x.1.1) x.0 (leads x.1.0 good.0.0) good.1 in
    let parts = each_both (StmtPlaced d) StmtNamed x.1.1 good.0.1 in (
      transport⁻¹ (placed.stmts-Sequence-placed d x.0 x.1.0 x.1.1) (front, good.0.0.0, parts.0),
      transport⁻¹ (named.stmts-Sequence-named x.0 x.1.0 x.1.1) (good.0.0.1, parts.1),
    )

onto_stmts : (d : ℕ) (b : Stmts) → GoodStmts d b → MadeOf make_stmts_of (PlacedSequence d) b
onto_stmts d =
    stmts_form (λ b. GoodStmts d b → MadeOf make_stmts_of (PlacedSequence d) b)
    (λ pos first rest good.
    let p = transport (placed.stmts-Sequence-placed d pos first rest) good.0 in
    let n = transport (named.stmts-Sequence-named pos first rest) good.1 in (
      (pos, (first, rest)),
      (
        (
          ((p.1, n.0), both_each (StmtPlaced d) StmtNamed rest (p.2, n.1)),
          position_of_whole (stmt_spelling d first) (flat_map (stmt_spelling d) rest) pos p.0,
        ),
        refl,
      ),
    ))

pub law_stmts_in : (d : ℕ) → d ≤ NESTING → (inner : Reader Stmts) → (leb NESTING d ≡ false → InnerLaw (suc d) inner)
    → InnerLaw d (stmts_in d inner)
unfolding stmts_in next_stmts_in
law_stmts_in d h inner L =
    let one = law_stmt_in d h inner L in
    law_wider stmt_first stmts_last
    (law_to make_stmts_of (GoodStmts d) (stmts_spelling d) (law_placed (law_seq one (law_each stmt_first one refl refl) refl) refl)
    (good_stmts d one.leads) (λ x good. stmts-Sequence d x.0 x.1.0 x.1.1) (onto_stmts d)) refl refl

-- ---- by the levels that are left

no_level : (d : ℕ) → d ≡ NESTING → leb NESTING d ≡ false → ⊥
no_level d e left = let below : d < NESTING = leb-false NESTING d left in omega arith

pub law_stmts_of : (left d : ℕ) → left + d ≡ NESTING → InnerLaw d (stmts_of left d)
unfolding stmts_of
law_stmts_of zero d e = law_stmts_in d (omega arith) no_stmts (λ left. absurd (no_level d (omega arith) left))
law_stmts_of (suc left) d e =
    law_stmts_in d (omega arith) (stmts_of left (suc d)) (λ some_left. law_stmts_of left (suc d) (omega arith))

pub law_inner_of : (left d : ℕ) → left + d ≡ NESTING → leb NESTING d ≡ false → InnerLaw (suc d) (inner_of left d)
law_inner_of zero d e left = absurd (no_level d (omega arith) left)
law_inner_of (suc left) d e some_left = law_stmts_of left (suc d) (omega arith)

pub law_stmts : (d : ℕ) → d ≤ NESTING → Law (stmts d) (GoodStmts d) (stmts_spelling d) stmt_first stmts_last false
unfolding stmts
law_stmts d h = law_stmts_of (NESTING - d) d (omega arith)

pub law_stmt : (d : ℕ) → d ≤ NESTING → Law (stmt d) (GoodStmt d) (stmt_spelling d) stmt_first [] false
unfolding stmt inner_stmts
law_stmt d h = law_stmt_in d h (inner_of (NESTING - d) d) (law_inner_of (NESTING - d) d (omega arith))
