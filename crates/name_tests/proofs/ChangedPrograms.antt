-- Sound programs with small changes at random, which break a rule of names.
--
-- tools/tree_terms.py makes this of the sources that data/cases.txt has under its name.
use Rattle.std.proofs.Common.{refl, [], ◌∷◌}
use Rattle.std.specs.Prelude.{None, Some, codes}
use Rattle.ada_tree.specs.declared.operator.AddingOperator.TheVariants as adding
use Rattle.ada_tree.specs.declared.expression.Aggregate.TheVariants as aggregate
use Rattle.ada_tree.specs.declared.expression.Arg.TheVariants as arg
use Rattle.ada_tree.specs.declared.statement.Elsif.TheVariants as branch
use Rattle.ada_tree.specs.declared.unit.Context.TheVariants as context
use Rattle.ada_tree.specs.declared.subprogram.Decl.TheVariants as decl
use Rattle.ada_tree.specs.declared.expression.Expr.TheVariants as expr
use Rattle.ada_tree.specs.declared.expression.Factor.TheVariants as factor
use Rattle.ada_tree.specs.declared.declaration.Indication.TheVariants as indication
use Rattle.ada_tree.specs.declared.declaration.Item.TheVariants as item
use Rattle.ada_tree.specs.declared.operator.MultiplyingOperator.TheVariants as multiplying
use Rattle.ada_tree.specs.declared.expression.NextArg.TheVariants as next_arg
use Rattle.ada_tree.specs.declared.expression.NextFactor.TheVariants as next_factor
use Rattle.ada_tree.specs.declared.subprogram.NextFormal.TheVariants as next_formal
use Rattle.ada_tree.specs.declared.expression.NextTerm.TheVariants as next_term
use Rattle.ada_tree.specs.declared.unit.BodyPart.TheVariants as part
use Rattle.ada_tree.specs.declared.expression.Primary.TheVariants as primary
use Rattle.ada_tree.specs.declared.range.Range.TheVariants as range
use Rattle.ada_tree.specs.declared.expression.Rel.TheVariants as rel
use Rattle.ada_tree.specs.declared.operator.RelationalOperator.TheVariants as relational
use Rattle.ada_tree.specs.declared.operator.Sign.TheVariants as sign
use Rattle.ada_tree.specs.declared.statement.Stmt.TheVariants as stmt
use Rattle.ada_tree.specs.declared.statement.Stmts.TheVariants as stmts
use Rattle.ada_tree.specs.declared.subprogram.Subspec.TheVariants as subspec
use Rattle.ada_tree.specs.declared.expression.Suffix.TheVariants as suffix
use Rattle.ada_tree.specs.declared.expression.Sum.TheVariants as sum
use Rattle.ada_tree.specs.declared.expression.Term.TheVariants as term
use Rattle.ada_tree.specs.declared.unit.SourceUnit.TheVariants as unit
use Rattle.ada_grammar.proofs.SmallSources.{computes}
use Rattle.name_events.specs.declared.declaration.NameRule.TheVariants.{NoBody, NotVisible, TooEarly, Unknown}
use Rattle.name_tests.proofs.SmallRules.{resolves}
use Rattle.name_tests.proofs.SourceTrees.{IsFirstBrokenOf, actual_of, assign_of, association_of, at, at1, at2, call_of, expr_of, factor_of, fields_of, formals_of, id, indication_of, initialized_of, mark, marked_of, moded_of, named, next_id_of, numbers_of, object, objects_of, package_body_of, package_of, rel_of, selected, sole, subprogram_of, sum_of, term_of, use_context, use_of}

changed_n1_1 : IsFirstBrokenOf Unknown (at 3 9) ((unit.OfSubprogram (at 1 7) (context.With (at 1 7) (selected (at 1 12)
    "Ada" (at 1 15) (at 1 16) "Text_IO") [] (at 1 23) ∷ context.With (at 2 7) (selected (at 2 12) "Ada" (at 2 15) (at 2
    16) "Integer_Text_IO") [] (at 2 31) ∷ use_context (use_of (at 2 33) None (selected (at 2 37) "Ada" (at 2 40) (at 2
    41) "Integer_Text_IO") [] (at 2 56)) ∷ context.With (at 3 4) (selected (at 3 9) "P1" (at 3 11) (at 3 12)
    "Unchecked_Deallocation") [] (at 3 34) ∷ []) (subprogram_of (at 4 1) (subspec.Procedure (at 4 1) (id (at 4 11)
    "Main") None) None (at 4 16) (item.AccessType (at 5 7) (id (at 5 12) "P1") (at 5 15) (at 5 18) (mark (at 5 25)
    "Integer") (at 5 32) ∷ item.RecordType (at 6 4) (id (at 6 9) "R1") (at 6 12) (at 6 15) (fields_of (id (at 6 22)
    "O1") [] (at 6 25) (mark (at 6 27) "P1") (at 6 29)) [] (at 6 31) (at 6 35) (at 6 41) ∷ initialized_of (id (at 7 4)
    "V1") [] (at 7 7) None (indication_of (mark (at 7 9) "Boolean")) (at 7 17) (expr.LoneRelation (at 7 20) (rel.LoneSum
    (at 7 20) (sum.Unsigned (at 7 20) (term.Product (at 7 20) (factor.Not (at 7 20) (primary.Parenthesized (at 7 24)
    (expr.LoneRelation (at 7 25) (rel.Compared (at 7 25) (sum_of (at 7 25) (primary.Number (at 7 25) 22))
    relational.NotEqual (at 7 28) (sum_of (at 7 31) (primary.Number (at 7 31) 11)))) (at 7 33))) []) []))) (at 7 34) ∷
    initialized_of (id (at 8 4) "V2") [] (at 8 7) None (indication_of (mark (at 8 9) "P1")) (at 8 12) (expr_of (at 8 15)
    (primary.AllocatedValue (at 8 15) (mark (at 8 19) "Integer") (at 8 26) (at 8 27) (expr_of (at 8 28)
    (primary.Parenthesized (at 8 28) (expr.LoneRelation (at 8 29) (rel.LoneSum (at 8 29) (sum.Signed (at 8 29)
    sign.Minus (term_of (at 8 30) (primary.Number (at 8 30) 8)) []))) (at 8 31))) (at 8 32))) (at 8 33) ∷ initialized_of
    (id (at 9 1) "V3") [] (at 9 4) None (indication_of (mark (at 9 6) "P1")) (at 9 9) (expr_of (at 9 12)
    (primary.AllocatedValue (at 9 12) (mark (at 9 16) "Integer") (at 9 23) (at 9 24) (expr_of (at 9 25) (primary.Number
    (at 9 25) 19)) (at 9 27))) (at 9 28) ∷ initialized_of (id (at 10 7) "V4") [] (at 10 10) None (indication_of (mark
    (at 10 12) "P1")) (at 10 15) (expr_of (at 10 18) (object (at 10 18) "V3")) (at 10 20) ∷ initialized_of (id (at 11 4)
    "V5") [] (at 11 7) None (indication_of (mark (at 11 9) "R1")) (at 11 12) (expr_of (at 11 15) (primary.Aggregated (at
    11 15) (aggregate.Single (at 11 15) (id (at 11 16) "O1") (at 11 19) (expr_of (at 11 22) (primary.Allocated (at 11
    22) (mark (at 11 26) "Integer"))) (at 11 33)))) (at 11 34) ∷ objects_of (id (at 12 1) "V6") (next_id_of (at 12 3)
    (at 12 5) "V7" ∷ []) (at 12 8) None (indication_of (mark (at 12 10) "P1")) (at 12 12) ∷ []) (at 13 4) (sole (at 14
    1) (stmt.If (at 14 1) (expr.LoneRelation (at 14 4) (rel.Compared (at 14 4) (sum_of (at 14 4) (object (at 14 4)
    "Boolean")) relational.NotEqual (at 14 12) (sum_of (at 14 15) (object (at 14 15) "V2")))) (at 14 18) (sole (at 15 4)
    (stmt.IfElse (at 15 4) (expr.OrElse (at 15 7) (rel_of (at 15 7) (primary.Parenthesized (at 15 7) (expr.LoneRelation
    (at 15 8) (rel.Compared (at 15 8) (sum_of (at 15 8) (object (at 15 8) "V4")) relational.NotEqual (at 15 11) (sum_of
    (at 15 14) (primary.Null (at 15 14))))) (at 15 18))) (at 15 20) (at 15 23) (rel_of (at 15 28) (primary.Parenthesized
    (at 15 28) (expr.LoneRelation (at 15 29) (rel.Compared (at 15 29) (sum_of (at 15 29) (named (at 15 29) "V5"
    (suffix.Selected (at 15 31) (id (at 15 32) "O1") ∷ []))) relational.NotEqual (at 15 35) (sum_of (at 15 38)
    (primary.Null (at 15 38))))) (at 15 42))) []) (at 15 44) (sole (at 16 1) (stmt.If (at 16 1) (expr.LoneRelation (at
    16 4) (rel.Compared (at 16 4) (sum_of (at 16 4) (object (at 16 4) "V2")) relational.NotEqual (at 16 7) (sum_of (at
    16 10) (primary.Null (at 16 10))))) (at 16 15) (stmts.Sequence (at 17 4) (assign_of (at 17 4) "V6" [] (at 17 7)
    (expr_of (at 17 10) (primary.AllocatedValue (at 17 10) (mark (at 17 14) "Integer") (at 17 21) (at 17 22)
    (expr.LoneRelation (at 17 23) (rel.LoneSum (at 17 23) (sum.Unsigned (at 17 23) (term.Product (at 17 23) (factor.Abs
    (at 17 23) (primary.Number (at 17 27) 4)) []) []))) (at 17 28))) (at 17 29)) (stmt.DeclareBlock (at 18 1)
    (initialized_of (id (at 19 1) "C1") [] (at 19 4) None (indication.Anonymous (at 19 6) (Some (at 19 13)) (mark (at 19
    22) "Integer")) (at 19 30) (expr_of (at 19 33) (object (at 19 33) "V6")) (at 19 35) ∷ []) (at 20 1) (stmts.Sequence
    (at 21 1) (stmt.If (at 21 1) (expr.LoneRelation (at 21 4) (rel.Compared (at 21 4) (sum_of (at 21 4) (named (at 21 4)
    "V5" (suffix.Selected (at 21 6) (id (at 21 7) "O1") ∷ []))) relational.NotEqual (at 21 10) (sum_of (at 21 13)
    (primary.Null (at 21 13))))) (at 21 18) (sole (at 22 7) (assign_of (at 22 7) "V5" (suffix.Selected (at 22 9) (id (at
    22 10) "O1") ∷ suffix.Dereferenced (at 22 12) (at 22 13) ∷ []) (at 22 17) (expr_of (at 22 20) (primary.Parenthesized
    (at 22 20) (expr.LoneRelation (at 22 21) (rel.LoneSum (at 22 21) (sum.Signed (at 22 21) sign.Minus (term_of (at 22
    22) (primary.Number (at 22 22) 16)) []))) (at 22 24))) (at 22 25))) [] (at 23 4) (at 23 8) (at 23 10)) (assign_of
    (at 24 1) "V1" [] (at 24 4) (expr.LoneRelation (at 24 7) (rel.LoneSum (at 24 7) (sum.Unsigned (at 24 7)
    (term.Product (at 24 7) (factor.Not (at 24 7) (primary.Parenthesized (at 24 11) (expr.LoneRelation (at 24 12)
    (rel.Compared (at 24 12) (sum_of (at 24 12) (primary.Parenthesized (at 24 12) (expr.LoneRelation (at 24 13)
    (rel.LoneSum (at 24 13) (sum.Signed (at 24 13) sign.Minus (term_of (at 24 14) (primary.Number (at 24 14) 3)) [])))
    (at 24 15))) relational.Less (at 24 17) (sum_of (at 24 19) (primary.Parenthesized (at 24 19) (expr.LoneRelation (at
    24 20) (rel.LoneSum (at 24 20) (sum.Unsigned (at 24 20) (term.Product (at 24 20) (factor_of (at 24 20)
    (primary.Number (at 24 20) 2)) (next_factor.FurtherFactor (at 24 22) multiplying.Modulo (factor_of (at 24 26)
    (primary.Number (at 24 26) 4)) ∷ [])) []))) (at 24 27))))) (at 24 28))) []) []))) (at 24 29) ∷ assign_of (at 25 4)
    "V5" [] (at 25 7) (expr_of (at 25 10) (primary.Aggregated (at 25 10) (aggregate.Single (at 25 10) (id (at 25 11)
    "O1") (at 25 14) (expr_of (at 25 17) (primary.AllocatedValue (at 25 17) (mark (at 25 21) "Integer") (at 25 28) (at
    25 29) (expr_of (at 25 30) (primary.Number (at 25 30) 9)) (at 25 31))) (at 25 32)))) (at 25 33) ∷ assign_of (at 26
    7) "V3" [] (at 26 10) (expr_of (at 26 13) (primary.AllocatedValue (at 26 13) (mark (at 26 17) "Integer") (at 26 24)
    (at 26 25) (expr_of (at 26 26) (primary.Parenthesized (at 26 26) (expr.LoneRelation (at 26 27) (rel.LoneSum (at 26
    27) (sum.Signed (at 26 27) sign.Minus (term_of (at 26 28) (primary.Number (at 26 28) 9)) []))) (at 26 29))) (at 26
    30))) (at 26 31) ∷ assign_of (at 27 4) "V2" [] (at 27 7) (expr_of (at 27 10) (named (at 27 10) "V5" (suffix.Selected
    (at 27 12) (id (at 27 13) "O1") ∷ []))) (at 27 15) ∷ [])) (at 28 7) (at 28 10) ∷ [])) [] (at 29 1) (at 29 5) (at 29
    7))) [] (at 30 1) (sole (at 31 1) (stmt.DeclareBlock (at 31 1) (initialized_of (id (at 32 1) "K1") [] (at 32 4)
    (Some (at 32 6)) (indication_of (mark (at 32 15) "Integer")) (at 32 23) (expr_of (at 32 26) (named (at 32 26) "V2"
    (suffix.Dereferenced (at 32 28) (at 32 29) ∷ []))) (at 32 32) ∷ []) (at 33 7) (sole (at 34 1) (stmt.DeclareBlock (at
    34 1) (initialized_of (id (at 35 4) "C2") [] (at 35 7) None (indication.Anonymous (at 35 9) (Some (at 35 16)) (mark
    (at 35 25) "Integer")) (at 35 33) (expr_of (at 35 36) (object (at 35 36) "V4")) (at 35 38) ∷ []) (at 36 1) (sole (at
    37 1) (assign_of (at 37 1) "V3" [] (at 37 4) (expr_of (at 37 7) (object (at 37 7) "V2")) (at 37 9))) (at 38 1) (at
    38 4))) (at 39 7) (at 39 10))) (at 40 1) (at 40 5) (at 40 7))) [] (at 41 1) (at 41 5) (at 41 7))) (at 42 1) (Some
    (id (at 42 5) "Main")) (at 42 9)) ∷ []) ∷ [])
unfolding computes resolves
changed_n1_1 = refl

changed_n1_2 : IsFirstBrokenOf Unknown (at 22 12) ((unit.OfPackage (at 1 1) (context.With (at 1 1) (selected (at 1 6)
    "Ada" (at 1 9) (at 1 10) "Text_IO") [] (at 1 17) ∷ use_context (use_of (at 1 19) None (selected (at 1 23) "Ada" (at
    1 26) (at 1 27) "Text_IO") [] (at 1 34)) ∷ context.With (at 2 1) (selected (at 2 6) "Ada" (at 2 9) (at 2 10)
    "Integer_Text_IO") [] (at 2 25) ∷ use_context (use_of (at 2 27) None (selected (at 2 31) "Ada" (at 2 34) (at 2 35)
    "Integer_Text_IO") [] (at 2 50)) ∷ context.With (at 3 1) (selected (at 3 6) "Ada" (at 3 9) (at 3 10)
    "Unchecked_Deallocation") [] (at 3 32) ∷ []) (package_of (at 4 1) (id (at 4 9) "Pack1") None (at 4 15) (decl.OfItem
    (at 5 1) (item.Subtype (at 5 1) (id (at 5 9) "S1") (at 5 12) (mark (at 5 15) "Integer") (at 5 22)) ∷ decl.OfItem (at
    6 1) (initialized_of (id (at 6 1) "G1") [] (at 6 4) None (indication_of (mark (at 6 6) "S1")) (at 6 9) (expr_of (at
    6 12) (primary.Number (at 6 12) 31)) (at 6 14)) ∷ decl.Subprogram (at 7 1) (subspec.Function (at 7 1) (id (at 7 10)
    "Get1") (Some (formals_of (at 7 15) (moded_of (id (at 7 16) "N1") [] (at 7 19) None None (mark (at 7 21) "S1"))
    (next_formal.Semicolon (at 7 23) (moded_of (id (at 7 25) "N2") [] (at 7 28) None None (mark (at 7 30) "Boolean")) ∷
    []) (at 7 37))) (at 7 39) (indication_of (mark (at 7 46) "Integer"))) None (at 7 53) ∷ []) None (at 8 1) None (at 8
    4)) ∷ unit.OfSubprogram (at 9 1) (context.With (at 9 1) (selected (at 9 6) "Ada" (at 9 9) (at 9 10) "Text_IO") []
    (at 9 17) ∷ use_context (use_of (at 9 19) None (selected (at 9 23) "Ada" (at 9 26) (at 9 27) "Text_IO") [] (at 9
    34)) ∷ context.With (at 10 1) (selected (at 10 6) "Ada" (at 10 9) (at 10 10) "Integer_Text_IO") [] (at 10 25) ∷
    use_context (use_of (at 10 27) None (selected (at 10 31) "Ada" (at 10 34) (at 10 35) "Integer_Text_IO") [] (at 10
    50)) ∷ context.With (at 11 1) (selected (at 11 6) "Ada" (at 11 9) (at 11 10) "Unchecked_Deallocation") [] (at 11 32)
    ∷ context.With (at 12 1) (mark (at 12 6) "Pack1") [] (at 12 11) ∷ use_context (use_of (at 12 13) None (mark (at 12
    17) "Pack1") [] (at 12 22)) ∷ []) (subprogram_of (at 13 1) (subspec.Procedure (at 13 1) (id (at 13 11) "Main") None)
    None (at 13 16) (initialized_of (id (at 14 1) "V2") [] (at 14 4) None (indication_of (mark (at 14 6) "S1")) (at 14
    9) (expr_of (at 14 12) (object (at 14 12) "G1")) (at 14 14) ∷ objects_of (id (at 15 1) "V5") (next_id_of (at 15 3)
    (at 15 5) "V6" ∷ []) (at 15 8) None (indication_of (mark (at 15 10) "Integer")) (at 15 17) ∷ []) (at 16 1) (sole (at
    17 1) (stmt.IfElse (at 17 1) (expr.LoneRelation (at 17 4) (rel.Compared (at 17 4) (sum_of (at 17 4)
    (primary.Parenthesized (at 17 4) (expr.LoneRelation (at 17 5) (rel.LoneSum (at 17 5) (sum.Unsigned (at 17 5)
    (term.Product (at 17 5) (factor_of (at 17 5) (object (at 17 5) "V6")) (next_factor.FurtherFactor (at 17 8)
    multiplying.Modulo (factor_of (at 17 12) (primary.Number (at 17 12) 5)) ∷ [])) []))) (at 17 13))) relational.Greater
    (at 17 15) (sum_of (at 17 17) (object (at 17 17) "V6")))) (at 17 20) (sole (at 18 1) (stmt.If (at 18 1)
    (expr.LoneRelation (at 18 4) (rel.Compared (at 18 4) (sum_of (at 18 4) (primary.Number (at 18 4) 2))
    relational.Equal (at 18 6) (sum_of (at 18 8) (primary.Parenthesized (at 18 8) (expr.LoneRelation (at 18 9)
    (rel.LoneSum (at 18 9) (sum.Unsigned (at 18 9) (term_of (at 18 9) (object (at 18 9) "G1")) (next_term.FurtherTerm
    (at 18 12) adding.Add (term_of (at 18 14) (primary.Number (at 18 14) 5)) ∷ [])))) (at 18 15))))) (at 18 17)
    (stmts.Sequence (at 19 1) (call_of (at 19 1) "Put" (suffix.Applied (at 19 5) (actual_of (at 19 6) (named (at 19 6)
    "Integer" (suffix.Attribute (at 19 13) (id (at 19 14) "Image") ∷ suffix.Applied (at 19 20) (actual_of (at 19 21)
    (object (at 19 21) "V5")) [] (at 19 23) ∷ []))) [] (at 19 24) ∷ []) (at 19 25)) (call_of (at 20 1) "Put_Line"
    (suffix.Applied (at 20 10) (actual_of (at 20 11) (primary.Text (at 20 11) (codes "\"a\""))) [] (at 20 14) ∷ []) (at
    20 15) ∷ assign_of (at 21 1) "V6" [] (at 21 4) (expr_of (at 21 7) (primary.Parenthesized (at 21 7)
    (expr.LoneRelation (at 21 8) (rel.LoneSum (at 21 8) (sum.Signed (at 21 8) sign.Minus (term_of (at 21 9)
    (primary.Number (at 21 9) 18)) []))) (at 21 11))) (at 21 12) ∷ [])) (branch.Branch (at 22 1) (expr.LoneRelation (at
    22 7) (rel.Compared (at 22 7) (sum_of (at 22 7) (object (at 22 7) "V5")) relational.Greater (at 22 10) (sum_of (at
    22 12) (object (at 22 12) "V4")))) (at 22 15) (sole (at 23 1) (call_of (at 23 1) "Put" (suffix.Applied (at 23 5)
    (arg.Positional (at 23 6) (expr.LoneRelation (at 23 6) (rel.LoneSum (at 23 6) (sum.Unsigned (at 23 6) (term_of (at
    23 6) (primary.Text (at 23 6) (codes "\"a\""))) (next_term.FurtherTerm (at 23 10) adding.Concatenate (term_of (at 23
    12) (named (at 23 12) "Integer" (suffix.Attribute (at 23 19) (id (at 23 20) "Image") ∷ suffix.Applied (at 23 26)
    (actual_of (at 23 27) (primary.Number (at 23 27) 38)) [] (at 23 29) ∷ []))) ∷ []))))) [] (at 23 30) ∷ []) (at 23
    31))) ∷ []) (at 24 1) (at 24 5) (at 24 7))) [] (at 25 1) (stmts.Sequence (at 26 1) (assign_of (at 26 1) "V4" [] (at
    26 4) (expr_of (at 26 7) (primary.Number (at 26 7) 29)) (at 26 9)) (call_of (at 27 1) "Put_Line" (suffix.Applied (at
    27 10) (actual_of (at 27 11) (named (at 27 11) "Integer" (suffix.Attribute (at 27 18) (id (at 27 19) "Image") ∷
    suffix.Applied (at 27 25) (actual_of (at 27 26) (primary.Parenthesized (at 27 26) (expr.LoneRelation (at 27 27)
    (rel.LoneSum (at 27 27) (sum.Unsigned (at 27 27) (term_of (at 27 27) (object (at 27 27) "V5"))
    (next_term.FurtherTerm (at 27 30) adding.Subtract (term_of (at 27 32) (object (at 27 32) "V5")) ∷ [])))) (at 27
    34))) [] (at 27 35) ∷ []))) [] (at 27 36) ∷ []) (at 27 37) ∷ assign_of (at 28 1) "V5" [] (at 28 4) (expr_of (at 28
    7) (primary.Number (at 28 7) 1)) (at 28 8) ∷ [])) (at 29 1) (at 29 5) (at 29 7))) (at 30 1) (Some (id (at 30 5)
    "I1")) (at 30 7)) ∷ unit.OfBody (at 31 1) [] (package_body_of (at 31 1) (at 31 9) (id (at 31 14) "Pack1") None (at
    31 20) (part.Completed (at 32 1) (subprogram_of (at 32 1) (subspec.Function (at 32 1) (id (at 32 10) "Get1") (Some
    (formals_of (at 32 15) (moded_of (id (at 32 16) "N1") [] (at 32 19) None None (mark (at 32 21) "S1"))
    (next_formal.Semicolon (at 32 23) (moded_of (id (at 32 25) "N2") [] (at 32 28) None None (mark (at 32 30)
    "Boolean")) ∷ []) (at 32 37))) (at 32 39) (indication_of (mark (at 32 46) "Integer"))) None (at 32 54)
    (initialized_of (id (at 33 1) "V1") [] (at 33 4) None (indication_of (mark (at 33 6) "Boolean")) (at 33 14) (expr_of
    (at 33 17) (object (at 33 17) "End_Of_File")) (at 33 28) ∷ objects_of (id (at 34 1) "V2") (next_id_of (at 34 3) (at
    34 5) "V3" ∷ []) (at 34 8) None (indication_of (mark (at 34 10) "Integer")) (at 34 17) ∷ numbers_of (id (at 35 1)
    "K1") [] (at 35 4) (at 35 6) (at 35 15) (expr_of (at 35 18) (primary.Number (at 35 18) 2)) (at 35 19) ∷ []) (at 36
    1) (stmts.Sequence (at 37 1) (stmt.For (at 37 1) (id (at 37 5) "I1") (at 37 8) None (marked_of (mark (at 37 11)
    "Boolean")) (at 37 19) (sole (at 38 1) (stmt.IfElse (at 38 1) (expr.LoneRelation (at 38 4) (rel.Compared (at 38 4)
    (sum_of (at 38 4) (primary.Number (at 38 4) 7)) relational.Less (at 38 6) (sum_of (at 38 8) (object (at 38 8)
    "K1")))) (at 38 11) (stmts.Sequence (at 39 1) (assign_of (at 39 1) "V1" [] (at 39 4) (expr.LoneRelation (at 39 7)
    (rel.Compared (at 39 7) (sum_of (at 39 7) (object (at 39 7) "G1")) relational.Less (at 39 10) (sum_of (at 39 12)
    (object (at 39 12) "K1")))) (at 39 14)) (assign_of (at 40 1) "V3" [] (at 40 4) (expr_of (at 40 7)
    (primary.Parenthesized (at 40 7) (expr.LoneRelation (at 40 8) (rel.LoneSum (at 40 8) (sum.Unsigned (at 40 8)
    (term.Product (at 40 8) (factor_of (at 40 8) (object (at 40 8) "G1")) (next_factor.FurtherFactor (at 40 11)
    multiplying.Remainder (factor_of (at 40 15) (primary.Number (at 40 15) 6)) ∷ [])) []))) (at 40 16))) (at 40 17) ∷
    [])) [] (at 41 1) (sole (at 42 1) (stmt.ExitWhen (at 42 1) (at 42 6) (expr.LoneRelation (at 42 11) (rel.Compared (at
    42 11) (sum_of (at 42 11) (primary.Number (at 42 11) 26)) relational.Less (at 42 14) (sum_of (at 42 16) (named (at
    42 16) "Positive" (suffix.Attribute (at 42 24) (id (at 42 25) "First") ∷ []))))) (at 42 30))) (at 43 1) (at 43 5)
    (at 43 7))) (at 44 1) (at 44 5) (at 44 9)) (stmt.ReturnValue (at 45 1) (expr_of (at 45 8) (primary.Parenthesized (at
    45 8) (expr.LoneRelation (at 45 9) (rel.LoneSum (at 45 9) (sum.Unsigned (at 45 9) (term.Product (at 45 9) (factor_of
    (at 45 9) (primary.Number (at 45 9) 7)) (next_factor.FurtherFactor (at 45 11) multiplying.Modulo (factor_of (at 45
    15) (primary.Number (at 45 15) 8)) ∷ [])) []))) (at 45 16))) (at 45 17) ∷ [])) (at 46 1) None (at 46 4)) ∷ []) (at
    47 1) (Some (id (at 47 5) "Pack1")) (at 47 10)) ∷ []) ∷ [])
unfolding computes resolves
changed_n1_2 = refl

changed_n3_1 : IsFirstBrokenOf NotVisible (at 1 10) ((unit.OfSubprogram (at 1 2) (use_context (use_of (at 1 2) None
    (selected (at 1 6) "Ada" (at 1 9) (at 1 10) "Text_IO") [] (at 1 17)) ∷ context.With (at 2 1) (selected (at 2 6)
    "Ada" (at 2 9) (at 2 10) "Integer_Text_IO") [] (at 2 25) ∷ use_context (use_of (at 2 27) None (selected (at 2 31)
    "Ada" (at 2 34) (at 2 35) "Integer_Text_IO") [] (at 2 50)) ∷ context.With (at 3 1) (selected (at 3 6) "Ada" (at 3 9)
    (at 3 10) "Unchecked_Deallocation") [] (at 3 32) ∷ []) (subprogram_of (at 4 1) (subspec.Procedure (at 4 1) (id (at 4
    11) "Main") None) None (at 4 16) (item.RecordType (at 5 7) (id (at 5 12) "R1") (at 5 15) (at 5 18) (fields_of (id
    (at 5 25) "F1") [] (at 5 28) (mark (at 5 30) "Integer") (at 5 37)) (fields_of (id (at 5 39) "F2") [] (at 5 42) (mark
    (at 5 44) "Integer") (at 5 51) ∷ fields_of (id (at 5 53) "F3") [] (at 5 56) (mark (at 5 58) "Integer") (at 5 65) ∷
    []) (at 5 67) (at 5 71) (at 5 77) ∷ item.AccessType (at 6 1) (id (at 6 6) "P1") (at 6 9) (at 6 12) (mark (at 6 19)
    "Natural") (at 6 26) ∷ item.Instance (at 7 4) (id (at 7 14) "Free1") (at 7 20) (at 7 23) (selected (at 7 27) "Ada"
    (at 7 30) (at 7 31) "Unchecked_Deallocation") (at 7 54) (actual_of (at 7 55) (object (at 7 55) "Positive"))
    (next_arg.FurtherArg (at 7 63) (actual_of (at 7 65) (object (at 7 65) "P1")) ∷ []) (at 7 67) (at 7 68) ∷
    initialized_of (id (at 8 7) "V1") [] (at 8 10) None (indication_of (mark (at 8 12) "R1")) (at 8 15) (expr_of (at 8
    18) (primary.Aggregated (at 8 18) (aggregate.Several (at 8 18) (actual_of (at 8 19) (primary.Parenthesized (at 8 19)
    (expr.LoneRelation (at 8 20) (rel.LoneSum (at 8 20) (sum.Unsigned (at 8 20) (term_of (at 8 20) (primary.Number (at 8
    20) 7)) (next_term.FurtherTerm (at 8 22) adding.Subtract (term_of (at 8 24) (primary.Number (at 8 24) 1)) ∷ []))))
    (at 8 25))) (at 8 26) (actual_of (at 8 28) (primary.Parenthesized (at 8 28) (expr.LoneRelation (at 8 29)
    (rel.LoneSum (at 8 29) (sum.Unsigned (at 8 29) (term.Product (at 8 29) (factor_of (at 8 29) (primary.Number (at 8
    29) 0)) (next_factor.FurtherFactor (at 8 31) multiplying.Modulo (factor_of (at 8 35) (primary.Number (at 8 35) 7)) ∷
    [])) []))) (at 8 36))) (next_arg.FurtherArg (at 8 37) (actual_of (at 8 39) (primary.Number (at 8 39) 25)) ∷ []) (at
    8 41)))) (at 8 42) ∷ initialized_of (id (at 9 7) "V2") [] (at 9 10) None (indication_of (mark (at 9 12) "Integer"))
    (at 9 20) (expr_of (at 9 23) (named (at 9 23) "Positive" (suffix.Attribute (at 9 31) (id (at 9 32) "First") ∷ [])))
    (at 9 37) ∷ objects_of (id (at 10 7) "T1") [] (at 10 10) None (indication_of (mark (at 10 12) "Integer")) (at 10 19)
    ∷ []) (at 11 1) (stmts.Sequence (at 12 1) (stmt.DeclareBlock (at 12 1) (initialized_of (id (at 13 7) "V3") [] (at 13
    10) None (indication_of (mark (at 13 12) "P1")) (at 13 15) (expr_of (at 13 18) (primary.AllocatedValue (at 13 18)
    (mark (at 13 22) "Positive") (at 13 30) (at 13 31) (expr_of (at 13 32) (primary.Number (at 13 32) 15)) (at 13 34)))
    (at 13 35) ∷ objects_of (id (at 14 1) "V4") [] (at 14 4) None (indication_of (mark (at 14 6) "P1")) (at 14 8) ∷
    objects_of (id (at 15 4) "V5") (next_id_of (at 15 6) (at 15 8) "V6" ∷ []) (at 15 11) None (indication_of (mark (at
    15 13) "Integer")) (at 15 20) ∷ []) (at 16 1) (stmts.Sequence (at 17 1) (assign_of (at 17 1) "V6" [] (at 17 4)
    (expr_of (at 17 7) (object (at 17 7) "V5")) (at 17 9)) (assign_of (at 18 4) "V1" (suffix.Selected (at 18 6) (id (at
    18 7) "F1") ∷ []) (at 18 10) (expr_of (at 18 13) (named (at 18 13) "V1" (suffix.Selected (at 18 15) (id (at 18 16)
    "F2") ∷ []))) (at 18 18) ∷ assign_of (at 19 4) "V4" [] (at 19 7) (expr_of (at 19 10) (object (at 19 10) "V4")) (at
    19 12) ∷ stmt.If (at 20 1) (expr.LoneRelation (at 20 4) (rel.LoneSum (at 20 4) (sum.Unsigned (at 20 4) (term.Product
    (at 20 4) (factor.Not (at 20 4) (object (at 20 8) "End_Of_File")) []) []))) (at 20 20) (sole (at 21 4) (call_of (at
    21 4) "Get" (suffix.Applied (at 21 8) (actual_of (at 21 9) (object (at 21 9) "V5")) [] (at 21 11) ∷ []) (at 21 12)))
    [] (at 22 1) (at 22 5) (at 22 7) ∷ [])) (at 23 7) (at 23 10)) (assign_of (at 24 7) "V2" [] (at 24 10) (expr_of (at
    24 13) (primary.Number (at 24 13) 40)) (at 24 15) ∷ assign_of (at 25 1) "V2" [] (at 25 4) (expr_of (at 25 7)
    (primary.Number (at 25 7) 31)) (at 25 9) ∷ stmt.IfElse (at 26 1) (expr.LoneRelation (at 26 4) (rel.Compared (at 26
    4) (sum_of (at 26 4) (primary.Parenthesized (at 26 4) (expr.LoneRelation (at 26 5) (rel.LoneSum (at 26 5)
    (sum.Unsigned (at 26 5) (term_of (at 26 5) (named (at 26 5) "V1" (suffix.Selected (at 26 7) (id (at 26 8) "F1") ∷
    []))) (next_term.FurtherTerm (at 26 11) adding.Subtract (term_of (at 26 13) (object (at 26 13) "V2")) ∷ [])))) (at
    26 15))) relational.Less (at 26 17) (sum_of (at 26 19) (primary.Parenthesized (at 26 19) (expr.LoneRelation (at 26
    20) (rel.LoneSum (at 26 20) (sum.Signed (at 26 20) sign.Minus (term_of (at 26 21) (primary.Number (at 26 21) 15))
    []))) (at 26 23))))) (at 26 25) (sole (at 27 1) (assign_of (at 27 1) "V2" [] (at 27 4) (expr_of (at 27 7)
    (primary.Parenthesized (at 27 7) (expr.LoneRelation (at 27 8) (rel.LoneSum (at 27 8) (sum.Unsigned (at 27 8)
    (term_of (at 27 8) (primary.Number (at 27 8) 2)) (next_term.FurtherTerm (at 27 10) adding.Subtract (term_of (at 27
    12) (primary.Parenthesized (at 27 12) (expr_of (at 27 13) (object (at 27 13) "T1")) (at 27 15))) ∷ [])))) (at 27
    16))) (at 27 17))) [] (at 28 4) (stmts.Sequence (at 29 7) (assign_of (at 29 7) "T1" [] (at 29 10) (expr_of (at 29
    13) (primary.Number (at 29 13) 0)) (at 29 14)) (stmt.Loop (at 30 7) (stmts.Sequence (at 31 1) (stmt.ExitWhen (at 31
    1) (at 31 6) (expr.LoneRelation (at 31 11) (rel.Compared (at 31 11) (sum_of (at 31 11) (object (at 31 11) "T1"))
    relational.GreaterEqual (at 31 14) (sum_of (at 31 17) (primary.Number (at 31 17) 9)))) (at 31 18)) (assign_of (at 32
    7) "T1" [] (at 32 10) (expr.LoneRelation (at 32 13) (rel.LoneSum (at 32 13) (sum.Unsigned (at 32 13) (term_of (at 32
    13) (object (at 32 13) "T1")) (next_term.FurtherTerm (at 32 16) adding.Add (term_of (at 32 18) (primary.Number (at
    32 18) 1)) ∷ [])))) (at 32 19) ∷ assign_of (at 33 1) "V1" (suffix.Selected (at 33 3) (id (at 33 4) "F3") ∷ []) (at
    33 7) (expr_of (at 33 10) (primary.Parenthesized (at 33 10) (expr.LoneRelation (at 33 11) (rel.LoneSum (at 33 11)
    (sum.Unsigned (at 33 11) (term_of (at 33 11) (object (at 33 11) "V2")) (next_term.FurtherTerm (at 33 14) adding.Add
    (term_of (at 33 16) (object (at 33 16) "T1")) ∷ [])))) (at 33 18))) (at 33 19) ∷ [])) (at 34 4) (at 34 8) (at 34 12)
    ∷ [])) (at 35 1) (at 35 5) (at 35 7) ∷ [])) (at 36 4) (Some (id (at 36 8) "Main")) (at 36 12)) ∷ []) ∷ [])
unfolding computes resolves
changed_n3_1 = refl

changed_n4_1 : IsFirstBrokenOf TooEarly (at 4 6) ((unit.OfSubprogram (at 1 1) (context.With (at 1 1) (selected (at 1 6)
    "Ada" (at 1 9) (at 1 10) "Text_IO") [] (at 1 17) ∷ use_context (use_of (at 1 19) None (selected (at 1 23) "Ada" (at
    1 26) (at 1 27) "Text_IO") [] (at 1 34)) ∷ context.With (at 2 1) (selected (at 2 6) "Ada" (at 2 9) (at 2 10)
    "Integer_Text_IO") [] (at 2 25) ∷ use_context (use_of (at 2 27) None (selected (at 2 31) "Ada" (at 2 34) (at 2 35)
    "Integer_Text_IO") [] (at 2 50)) ∷ context.With (at 3 1) (selected (at 3 6) "Ada" (at 3 9) (at 3 10)
    "Unchecked_Deallocation") [] (at 3 32) ∷ context.With (at 4 1) (mark (at 4 6) "Pack1") [] (at 4 11) ∷ use_context
    (use_of (at 4 13) None (mark (at 4 17) "Pack1") [] (at 4 22)) ∷ []) (subprogram_of (at 5 7) (subspec.Procedure (at 5
    7) (id (at 5 17) "Main") None) None (at 5 22) (item.IncompleteType (at 6 4) (id (at 6 9) "Cell1") (at 6 14) ∷
    item.AccessType (at 7 1) (id (at 7 6) "List1") (at 7 12) (at 7 15) (mark (at 7 22) "Cell1") (at 7 27) ∷
    item.RecordType (at 8 1) (id (at 8 6) "Cell1") (at 8 12) (at 8 15) (fields_of (id (at 8 22) "Val1") [] (at 8 27)
    (mark (at 8 29) "Boolean") (at 8 36)) (fields_of (id (at 8 38) "X1") [] (at 8 41) (mark (at 8 43) "R1") (at 8 45) ∷
    fields_of (id (at 8 47) "Next1") [] (at 8 53) (mark (at 8 55) "List1") (at 8 60) ∷ []) (at 8 62) (at 8 66) (at 8 72)
    ∷ item.EnumerationType (at 9 1) (id (at 9 6) "E1") (at 9 9) (at 9 12) (id (at 9 13) "Lit_1") (next_id_of (at 9 18)
    (at 9 20) "Lit_2" ∷ []) (at 9 25) (at 9 26) ∷ item.IncompleteType (at 10 7) (id (at 10 12) "Cell2") (at 10 17) ∷
    item.AccessType (at 11 1) (id (at 11 6) "List2") (at 11 12) (at 11 15) (mark (at 11 22) "Cell2") (at 11 27) ∷
    item.RecordType (at 12 7) (id (at 12 12) "Cell2") (at 12 18) (at 12 21) (fields_of (id (at 12 28) "Val2") [] (at 12
    33) (mark (at 12 35) "E1") (at 12 37)) (fields_of (id (at 12 39) "Next2") [] (at 12 45) (mark (at 12 47) "List2")
    (at 12 52) ∷ []) (at 12 54) (at 12 58) (at 12 64) ∷ item.Instance (at 13 1) (id (at 13 11) "Free1") (at 13 17) (at
    13 20) (selected (at 13 24) "Ada" (at 13 27) (at 13 28) "Unchecked_Deallocation") (at 13 51) (actual_of (at 13 52)
    (object (at 13 52) "Cell2")) (next_arg.FurtherArg (at 13 57) (actual_of (at 13 59) (object (at 13 59) "List2")) ∷
    []) (at 13 64) (at 13 65) ∷ initialized_of (id (at 14 7) "V2") [] (at 14 10) None (indication_of (mark (at 14 12)
    "Cell2")) (at 14 18) (expr_of (at 14 21) (primary.Aggregated (at 14 21) (aggregate.Several (at 14 21) (actual_of (at
    14 22) (object (at 14 22) "Lit_1")) (at 14 27) (actual_of (at 14 29) (primary.AllocatedAggregate (at 14 29) (mark
    (at 14 33) "Cell2") (at 14 38) (aggregate.Several (at 14 39) (actual_of (at 14 40) (object (at 14 40) "Lit_1")) (at
    14 45) (actual_of (at 14 47) (primary.Null (at 14 47))) [] (at 14 51)))) [] (at 14 52)))) (at 14 53) ∷ objects_of
    (id (at 15 4) "V3") (next_id_of (at 15 6) (at 15 8) "V4" ∷ []) (at 15 11) None (indication_of (mark (at 15 13)
    "Cell2")) (at 15 18) ∷ initialized_of (id (at 16 4) "V5") [] (at 16 7) None (indication_of (mark (at 16 9) "List2"))
    (at 16 15) (expr_of (at 16 18) (primary.AllocatedAggregate (at 16 18) (mark (at 16 22) "Cell2") (at 16 27)
    (aggregate.Several (at 16 28) (actual_of (at 16 29) (object (at 16 29) "Lit_2")) (at 16 34) (actual_of (at 16 36)
    (primary.Null (at 16 36))) [] (at 16 40)))) (at 16 41) ∷ objects_of (id (at 17 1) "V6") [] (at 17 4) None
    (indication_of (mark (at 17 6) "List2")) (at 17 11) ∷ objects_of (id (at 18 7) "T2") [] (at 18 10) None
    (indication_of (mark (at 18 12) "Integer")) (at 18 19) ∷ []) (at 19 7) (stmts.Sequence (at 20 1) (call_of (at 20 1)
    "Put_Line" (suffix.Applied (at 20 10) (actual_of (at 20 11) (primary.Text (at 20 11) (codes "\"a\""))) [] (at 20 14)
    ∷ []) (at 20 15)) (call_of (at 21 1) "Do1" [] (at 21 4) ∷ call_of (at 22 1) "Do1" [] (at 22 4) ∷ assign_of (at 23 7)
    "V2" (suffix.Selected (at 23 9) (id (at 23 10) "Val2") ∷ []) (at 23 15) (expr_of (at 23 18) (named (at 23 18) "V2"
    (suffix.Selected (at 23 20) (id (at 23 21) "Val2") ∷ []))) (at 23 25) ∷ stmt.DeclareBlock (at 24 1) (objects_of (id
    (at 25 7) "V7") [] (at 25 10) None (indication_of (mark (at 25 12) "List2")) (at 25 17) ∷ []) (at 26 7) (sole (at 27
    7) (stmt.Block (at 27 7) (stmts.Sequence (at 28 7) (call_of (at 28 7) "Put_Line" (suffix.Applied (at 28 16)
    (actual_of (at 28 17) (named (at 28 17) "Integer" (suffix.Attribute (at 28 24) (id (at 28 25) "Image") ∷
    suffix.Applied (at 28 31) (actual_of (at 28 32) (object (at 28 32) "T2")) [] (at 28 34) ∷ []))) [] (at 28 35) ∷ [])
    (at 28 36)) (call_of (at 29 1) "Do1" [] (at 29 4) ∷ [])) (at 30 1) (at 30 4))) (at 31 1) (at 31 4) ∷ call_of (at 32
    1) "Do1" [] (at 32 4) ∷ assign_of (at 33 1) "V2" (suffix.Selected (at 33 3) (id (at 33 4) "Next2") ∷ []) (at 33 10)
    (expr_of (at 33 13) (primary.AllocatedAggregate (at 33 13) (mark (at 33 17) "Cell2") (at 33 22) (aggregate.Several
    (at 33 23) (actual_of (at 33 24) (object (at 33 24) "Lit_2")) (at 33 29) (actual_of (at 33 31) (named (at 33 31)
    "V2" (suffix.Selected (at 33 33) (id (at 33 34) "Next2") ∷ []))) [] (at 33 39)))) (at 33 40) ∷ [])) (at 34 1) (Some
    (id (at 34 5) "Main")) (at 34 9)) ∷ []) ∷ (unit.OfBody (at1 1 1) (context.With (at1 1 1) (selected (at1 1 6) "Ada"
    (at1 1 9) (at1 1 10) "Text_IO") [] (at1 1 17) ∷ use_context (use_of (at1 1 19) None (selected (at1 1 23) "Ada" (at1
    1 26) (at1 1 27) "Text_IO") [] (at1 1 34)) ∷ context.With (at1 2 4) (selected (at1 2 9) "Ada" (at1 2 12) (at1 2 13)
    "Integer_Text_IO") [] (at1 2 28) ∷ use_context (use_of (at1 2 30) None (selected (at1 2 34) "Ada" (at1 2 37) (at1 2
    38) "Integer_Text_IO") [] (at1 2 53)) ∷ context.With (at1 3 4) (selected (at1 3 9) "Ada" (at1 3 12) (at1 3 13)
    "Unchecked_Deallocation") [] (at1 3 35) ∷ []) (package_body_of (at1 4 7) (at1 4 15) (id (at1 4 20) "Pack1") None
    (at1 4 26) (part.Completed (at1 5 4) (subprogram_of (at1 5 4) (subspec.Function (at1 5 4) (id (at1 5 13) "Get1")
    None (at1 5 18) (indication_of (mark (at1 5 25) "Integer"))) None (at1 5 33) (objects_of (id (at1 6 7) "V1") [] (at1
    6 10) None (indication_of (mark (at1 6 12) "Integer")) (at1 6 19) ∷ objects_of (id (at1 7 1) "T1") [] (at1 7 4) None
    (indication_of (mark (at1 7 6) "Integer")) (at1 7 13) ∷ []) (at1 8 1) (stmts.Sequence (at1 9 1) (stmt.IfElse (at1 9
    1) (expr.LoneRelation (at1 9 4) (rel.Compared (at1 9 4) (sum_of (at1 9 4) (object (at1 9 4) "T1"))
    relational.GreaterEqual (at1 9 7) (sum_of (at1 9 10) (named (at1 9 10) "Positive" (suffix.Attribute (at1 9 18) (id
    (at1 9 19) "First") ∷ []))))) (at1 9 25) (stmts.Sequence (at1 10 1) (assign_of (at1 10 1) "T1" [] (at1 10 4)
    (expr_of (at1 10 7) (object (at1 10 7) "T1")) (at1 10 9)) (assign_of (at1 11 4) "T1" [] (at1 11 7) (expr_of (at1 11
    10) (primary.Number (at1 11 10) 0)) (at1 11 11) ∷ stmt.Loop (at1 12 1) (stmts.Sequence (at1 13 4) (stmt.ExitWhen
    (at1 13 4) (at1 13 9) (expr.LoneRelation (at1 13 14) (rel.Compared (at1 13 14) (sum_of (at1 13 14) (object (at1 13
    14) "T1")) relational.GreaterEqual (at1 13 17) (sum_of (at1 13 20) (primary.Number (at1 13 20) 9)))) (at1 13 21))
    (assign_of (at1 14 1) "T1" [] (at1 14 4) (expr.LoneRelation (at1 14 7) (rel.LoneSum (at1 14 7) (sum.Unsigned (at1 14
    7) (term_of (at1 14 7) (object (at1 14 7) "T1")) (next_term.FurtherTerm (at1 14 10) adding.Add (term_of (at1 14 12)
    (primary.Number (at1 14 12) 1)) ∷ [])))) (at1 14 13) ∷ stmt.Block (at1 15 1) (sole (at1 16 4) (stmt.For (at1 16 4)
    (id (at1 16 8) "I1") (at1 16 11) (Some (at1 16 14)) (range.Bounds (at1 16 22) (expr_of (at1 16 22) (primary.Number
    (at1 16 22) 1)) (at1 16 24) (expr_of (at1 16 27) (primary.Number (at1 16 27) 10))) (at1 16 30) (sole (at1 17 1)
    (assign_of (at1 17 1) "V1" [] (at1 17 4) (expr_of (at1 17 7) (object (at1 17 7) "I1")) (at1 17 9))) (at1 18 4) (at1
    18 8) (at1 18 12))) (at1 19 4) (at1 19 7) ∷ [])) (at1 20 4) (at1 20 8) (at1 20 12) ∷ [])) [] (at1 21 1) (sole (at1
    22 1) (assign_of (at1 22 1) "T1" [] (at1 22 4) (expr_of (at1 22 7) (object (at1 22 7) "V1")) (at1 22 9))) (at1 23 1)
    (at1 23 5) (at1 23 7)) (stmt.ReturnValue (at1 24 7) (expr_of (at1 24 14) (object (at1 24 14) "V1")) (at1 24 16) ∷
    [])) (at1 25 4) (Some (id (at1 25 8) "Get1")) (at1 25 12)) ∷ part.Completed (at1 26 7) (subprogram_of (at1 26 7)
    (subspec.Procedure (at1 26 7) (id (at1 26 17) "Do1") None) None (at1 26 21) [] (at1 27 1) (stmts.Sequence (at1 28 4)
    (stmt.Null (at1 28 4) (at1 28 8)) (stmt.For (at1 29 1) (id (at1 29 5) "I2") (at1 29 8) (Some (at1 29 11)) (marked_of
    (mark (at1 29 19) "Boolean")) (at1 29 27) (sole (at1 30 1) (stmt.For (at1 30 1) (id (at1 30 5) "I3") (at1 30 8) None
    (marked_of (mark (at1 30 11) "Boolean")) (at1 30 19) (stmts.Sequence (at1 31 4) (stmt.If (at1 31 4)
    (expr.LoneRelation (at1 31 7) (rel.Compared (at1 31 7) (sum_of (at1 31 7) (primary.Number (at1 31 7) 0))
    relational.LessEqual (at1 31 9) (sum_of (at1 31 12) (primary.Parenthesized (at1 31 12) (expr.LoneRelation (at1 31
    13) (rel.LoneSum (at1 31 13) (sum.Signed (at1 31 13) sign.Minus (term_of (at1 31 14) (primary.Number (at1 31 14) 3))
    []))) (at1 31 15))))) (at1 31 17) (stmts.Sequence (at1 32 4) (call_of (at1 32 4) "Put" (suffix.Applied (at1 32 8)
    (actual_of (at1 32 9) (named (at1 32 9) "Integer" (suffix.Attribute (at1 32 16) (id (at1 32 17) "Image") ∷
    suffix.Applied (at1 32 23) (actual_of (at1 32 24) (primary.Number (at1 32 24) 12)) [] (at1 32 26) ∷ []))) [] (at1 32
    27) ∷ []) (at1 32 28)) (call_of (at1 33 1) "Put_Line" (suffix.Applied (at1 33 10) (actual_of (at1 33 11) (named (at1
    33 11) "Integer" (suffix.Attribute (at1 33 18) (id (at1 33 19) "Image") ∷ suffix.Applied (at1 33 25) (actual_of (at1
    33 26) (primary.Parenthesized (at1 33 26) (expr.LoneRelation (at1 33 27) (rel.LoneSum (at1 33 27) (sum.Signed (at1
    33 27) sign.Minus (term_of (at1 33 28) (primary.Number (at1 33 28) 1)) []))) (at1 33 29))) [] (at1 33 30) ∷ []))) []
    (at1 33 31) ∷ []) (at1 33 32) ∷ call_of (at1 34 1) "Put" (suffix.Applied (at1 34 5) (actual_of (at1 34 6) (named
    (at1 34 6) "Integer" (suffix.Attribute (at1 34 13) (id (at1 34 14) "Image") ∷ suffix.Applied (at1 34 20) (actual_of
    (at1 34 21) (primary.Number (at1 34 21) 28)) [] (at1 34 23) ∷ []))) [] (at1 34 24) ∷ []) (at1 34 25) ∷ [])) [] (at1
    35 1) (at1 35 5) (at1 35 7)) (call_of (at1 36 4) "Put_Line" (suffix.Applied (at1 36 13) (arg.Positional (at1 36 14)
    (expr.LoneRelation (at1 36 14) (rel.LoneSum (at1 36 14) (sum.Unsigned (at1 36 14) (term_of (at1 36 14) (primary.Text
    (at1 36 14) (codes "\"0\""))) (next_term.FurtherTerm (at1 36 18) adding.Concatenate (term_of (at1 36 20) (named (at1
    36 20) "Integer" (suffix.Attribute (at1 36 27) (id (at1 36 28) "Image") ∷ suffix.Applied (at1 36 34) (actual_of (at1
    36 35) (primary.Parenthesized (at1 36 35) (expr.LoneRelation (at1 36 36) (rel.LoneSum (at1 36 36) (sum.Unsigned (at1
    36 36) (term.Product (at1 36 36) (factor_of (at1 36 36) (primary.Number (at1 36 36) 5)) (next_factor.FurtherFactor
    (at1 36 38) multiplying.Remainder (factor_of (at1 36 42) (primary.Number (at1 36 42) 9)) ∷ [])) []))) (at1 36 43)))
    [] (at1 36 44) ∷ []))) ∷ []))))) [] (at1 36 45) ∷ []) (at1 36 46) ∷ [])) (at1 37 4) (at1 37 8) (at1 37 12))) (at1 38
    4) (at1 38 8) (at1 38 12) ∷ [])) (at1 39 7) None (at1 39 10)) ∷ []) (at1 40 4) (Some (id (at1 40 8) "Pack1")) (at1
    40 13)) ∷ []) ∷ (unit.OfPackage (at2 1 4) (context.With (at2 1 4) (selected (at2 1 9) "Ada" (at2 1 12) (at2 1 13)
    "Text_IO") [] (at2 1 20) ∷ use_context (use_of (at2 1 22) None (selected (at2 1 26) "Ada" (at2 1 29) (at2 1 30)
    "Text_IO") [] (at2 1 37)) ∷ context.With (at2 2 7) (selected (at2 2 12) "Ada" (at2 2 15) (at2 2 16)
    "Integer_Text_IO") [] (at2 2 31) ∷ use_context (use_of (at2 2 33) None (selected (at2 2 37) "Ada" (at2 2 40) (at2 2
    41) "Integer_Text_IO") [] (at2 2 56)) ∷ context.With (at2 3 1) (selected (at2 3 6) "Ada" (at2 3 9) (at2 3 10)
    "Unchecked_Deallocation") [] (at2 3 32) ∷ []) (package_of (at2 4 1) (id (at2 4 9) "Pack1") None (at2 4 15)
    (decl.OfItem (at2 5 1) (item.RecordType (at2 5 1) (id (at2 5 6) "R1") (at2 5 9) (at2 5 12) (fields_of (id (at2 5 19)
    "F1") [] (at2 5 22) (mark (at2 5 24) "Integer") (at2 5 31)) [] (at2 5 33) (at2 5 37) (at2 5 43)) ∷ decl.Subprogram
    (at2 6 4) (subspec.Function (at2 6 4) (id (at2 6 13) "Get1") None (at2 6 18) (indication_of (mark (at2 6 25)
    "Integer"))) None (at2 6 32) ∷ decl.Subprogram (at2 7 1) (subspec.Procedure (at2 7 1) (id (at2 7 11) "Do1") None)
    None (at2 7 14) ∷ []) None (at2 8 1) (Some (id (at2 8 5) "Pack1")) (at2 8 10)) ∷ []) ∷ [])
unfolding computes resolves
changed_n4_1 = refl

changed_n5_1 : IsFirstBrokenOf NoBody (at 8 72) ((unit.OfPackage (at 1 7) (context.With (at 1 7) (selected (at 1 12)
    "Ada" (at 1 15) (at 1 16) "Text_IO") [] (at 1 23) ∷ use_context (use_of (at 1 25) None (selected (at 1 29) "Ada" (at
    1 32) (at 1 33) "Text_IO") [] (at 1 40)) ∷ context.With (at 2 1) (selected (at 2 6) "Ada" (at 2 9) (at 2 10)
    "Integer_Text_IO") [] (at 2 25) ∷ use_context (use_of (at 2 27) None (selected (at 2 31) "Ada" (at 2 34) (at 2 35)
    "Integer_Text_IO") [] (at 2 50)) ∷ context.With (at 3 7) (selected (at 3 12) "Ada" (at 3 15) (at 3 16)
    "Unchecked_Deallocation") [] (at 3 38) ∷ []) (package_of (at 4 1) (id (at 4 9) "Pack1") None (at 4 15) (decl.OfItem
    (at 5 1) (item.AccessType (at 5 1) (id (at 5 6) "P1") (at 5 9) (at 5 12) (mark (at 5 19) "Integer") (at 5 26)) ∷
    decl.OfItem (at 6 1) (item.Instance (at 6 1) (id (at 6 11) "Free1") (at 6 17) (at 6 20) (selected (at 6 24) "Ada"
    (at 6 27) (at 6 28) "Unchecked_Deallocation") (at 6 51) (association_of (id (at 6 52) "Object") (at 6 59) (expr_of
    (at 6 62) (object (at 6 62) "Integer"))) (next_arg.FurtherArg (at 6 69) (association_of (id (at 6 71) "Name") (at 6
    76) (expr_of (at 6 79) (primary.Parenthesized (at 6 79) (expr_of (at 6 80) (object (at 6 80) "P1")) (at 6 82)))) ∷
    []) (at 6 83) (at 6 84)) ∷ decl.OfItem (at 7 1) (item.AccessType (at 7 1) (id (at 7 6) "P2") (at 7 9) (at 7 12)
    (mark (at 7 19) "P1") (at 7 21)) ∷ decl.OfItem (at 8 7) (item.Instance (at 8 7) (id (at 8 17) "Free2") (at 8 23) (at
    8 26) (selected (at 8 30) "Ada" (at 8 33) (at 8 34) "Unchecked_Deallocation") (at 8 57) (actual_of (at 8 58) (object
    (at 8 58) "P1")) (next_arg.FurtherArg (at 8 60) (actual_of (at 8 62) (object (at 8 62) "P2")) ∷ []) (at 8 64) (at 8
    65)) ∷ decl.OfItem (at 8 67) (item.PrivateType (at 8 67) (id (at 8 72) "Zi") (at 8 75) (at 8 78) (at 8 86)) ∷
    decl.OfItem (at 9 1) (item.ArrayType (at 9 1) (id (at 9 6) "A1") (at 9 9) (at 9 12) (at 9 18) (range.Bounds (at 9
    19) (expr.LoneRelation (at 9 19) (rel.LoneSum (at 9 19) (sum.Signed (at 9 19) sign.Minus (term_of (at 9 20)
    (primary.Number (at 9 20) 1)) []))) (at 9 22) (expr.LoneRelation (at 9 25) (rel.LoneSum (at 9 25) (sum.Signed (at 9
    25) sign.Minus (term_of (at 9 26) (primary.Number (at 9 26) 1)) [])))) (at 9 27) (at 9 29) (mark (at 9 32) "P2") (at
    9 34)) ∷ decl.OfItem (at 10 1) (objects_of (id (at 10 1) "G1") [] (at 10 4) None (indication_of (mark (at 10 6)
    "Integer")) (at 10 13)) ∷ decl.OfItem (at 11 7) (objects_of (id (at 11 7) "G2") [] (at 11 10) None (indication_of
    (mark (at 11 12) "A1")) (at 11 14)) ∷ decl.Subprogram (at 12 1) (subspec.Procedure (at 12 1) (id (at 12 11) "Do1")
    (Some (formals_of (at 12 15) (moded_of (id (at 12 16) "N1") [] (at 12 19) None (Some (at 12 21)) (mark (at 12 25)
    "A1")) (next_formal.Semicolon (at 12 27) (moded_of (id (at 12 29) "N2") [] (at 12 32) (Some (at 12 34)) (Some (at 12
    37)) (mark (at 12 41) "P1")) ∷ []) (at 12 43)))) None (at 12 44) ∷ []) None (at 13 1) (Some (id (at 13 5) "Pack1"))
    (at 13 10)) ∷ []) ∷ [])
unfolding computes resolves
changed_n5_1 = refl
