-- The name after end is another one: N6.
--
-- tools/tree_terms.py makes this of the sources that data/cases.txt has under its name.
use Rattle.std.proofs.Common.{refl, [], ◌∷◌}
use Rattle.std.specs.Prelude.{None, Some}
use Rattle.ada_tree.specs.declared.operator.AddingOperator.TheVariants as adding
use Rattle.ada_tree.specs.declared.expression.Aggregate.TheVariants as aggregate
use Rattle.ada_tree.specs.declared.statement.When.TheVariants as alternative
use Rattle.ada_tree.specs.declared.range.Choice.TheVariants as choice
use Rattle.ada_tree.specs.declared.unit.Context.TheVariants as context
use Rattle.ada_tree.specs.declared.subprogram.Decl.TheVariants as decl
use Rattle.ada_tree.specs.declared.expression.Expr.TheVariants as expr
use Rattle.ada_tree.specs.declared.expression.Factor.TheVariants as factor
use Rattle.ada_tree.specs.declared.declaration.Indication.TheVariants as indication
use Rattle.ada_tree.specs.declared.declaration.Item.TheVariants as item
use Rattle.ada_tree.specs.declared.operator.MultiplyingOperator.TheVariants as multiplying
use Rattle.ada_tree.specs.declared.expression.NextArg.TheVariants as next_arg
use Rattle.ada_tree.specs.declared.identifier.NextDotted.TheVariants as next_dotted
use Rattle.ada_tree.specs.declared.expression.NextFactor.TheVariants as next_factor
use Rattle.ada_tree.specs.declared.subprogram.NextFormal.TheVariants as next_formal
use Rattle.ada_tree.specs.declared.expression.NextTerm.TheVariants as next_term
use Rattle.ada_tree.specs.declared.unit.BodyPart.TheVariants as part
use Rattle.ada_tree.specs.declared.expression.Primary.TheVariants as primary
use Rattle.ada_tree.specs.declared.range.Range.TheVariants as range
use Rattle.ada_tree.specs.declared.expression.Rel.TheVariants as rel
use Rattle.ada_tree.specs.declared.operator.RelationalOperator.TheVariants as relational
use Rattle.ada_tree.specs.declared.operator.Sign.TheVariants as sign
use Rattle.ada_tree.specs.declared.statement.Stmt.TheVariants as stmt
use Rattle.ada_tree.specs.declared.statement.Stmts.TheVariants as stmts
use Rattle.ada_tree.specs.declared.subprogram.Subspec.TheVariants as subspec
use Rattle.ada_tree.specs.declared.expression.Suffix.TheVariants as suffix
use Rattle.ada_tree.specs.declared.expression.Sum.TheVariants as sum
use Rattle.ada_tree.specs.declared.expression.Term.TheVariants as term
use Rattle.ada_tree.specs.declared.unit.SourceUnit.TheVariants as unit
use Rattle.ada_grammar.proofs.SmallSources.{computes}
use Rattle.name_events.specs.declared.declaration.NameRule.TheVariants.{WrongEnd}
use Rattle.name_tests.proofs.SmallRules.{resolves}
use Rattle.name_tests.proofs.SourceTrees.{IsFirstBrokenOf, actual_of, assign_of, association_of, at, call_of, expr_of, factor_of, fields_of, formals_of, id, indication_of, initialized_of, mark, moded_of, named, next_id_of, object, objects_of, package_body_of, package_of, private_part, rel_of, selected, sole, subprogram_of, sum_of, term_of, use_context, use_of}

-- A small source.
small_n6_1 : IsFirstBrokenOf WrongEnd (at 1 35) ((unit.OfSubprogram (at 1 1) [] (subprogram_of (at 1 1)
    (subspec.Procedure (at 1 1) (id (at 1 11) "Main") None) None (at 1 16) [] (at 1 19) (sole (at 1 25) (stmt.Null (at 1
    25) (at 1 29))) (at 1 31) (Some (id (at 1 35) "Mane")) (at 1 39)) ∷ []) ∷ [])
unfolding computes resolves
small_n6_1 = refl

-- Units and subprograms.
closing_name_1 : IsFirstBrokenOf WrongEnd (at 1 164) ((unit.OfSubprogram (at 1 1) (context.With (at 1 1) (selected (at 1
    6) "Ada" (at 1 9) (at 1 10) "Text_IO") [] (at 1 17) ∷ use_context (use_of (at 1 19) None (selected (at 1 23) "Ada"
    (at 1 26) (at 1 27) "Text_IO") [] (at 1 34)) ∷ context.With (at 1 36) (selected (at 1 41) "Ada" (at 1 44) (at 1 45)
    "Integer_Text_IO") [] (at 1 60) ∷ use_context (use_of (at 1 62) None (selected (at 1 66) "Ada" (at 1 69) (at 1 70)
    "Integer_Text_IO") [] (at 1 85)) ∷ context.With (at 1 87) (selected (at 1 92) "Ada" (at 1 95) (at 1 96)
    "Unchecked_Deallocation") [] (at 1 118) ∷ []) (subprogram_of (at 1 120) (subspec.Procedure (at 1 120) (id (at 1 130)
    "Minor_Main") None) None (at 1 141) [] (at 1 144) (sole (at 1 150) (call_of (at 1 150) "New_Line" [] (at 1 158)))
    (at 1 160) (Some (id (at 1 164) "Minor_Mane")) (at 1 174)) ∷ []) ∷ [])
unfolding computes resolves
closing_name_1 = refl

closing_name_2 : IsFirstBrokenOf WrongEnd (at 1 43) ((unit.OfPackage (at 1 1) [] (package_of (at 1 1) (id (at 1 9)
    "Plain_P") None (at 1 17) (decl.OfItem (at 1 20) (objects_of (id (at 1 20) "Plain_X") [] (at 1 28) None
    (indication_of (mark (at 1 30) "Integer")) (at 1 37)) ∷ []) None (at 1 39) (Some (id (at 1 43) "Plain_Q")) (at 1
    50)) ∷ unit.OfSubprogram (at 2 1) (context.With (at 2 1) (selected (at 2 6) "Ada" (at 2 9) (at 2 10) "Text_IO") []
    (at 2 17) ∷ use_context (use_of (at 2 19) None (selected (at 2 23) "Ada" (at 2 26) (at 2 27) "Text_IO") [] (at 2
    34)) ∷ context.With (at 2 36) (selected (at 2 41) "Ada" (at 2 44) (at 2 45) "Integer_Text_IO") [] (at 2 60) ∷
    use_context (use_of (at 2 62) None (selected (at 2 66) "Ada" (at 2 69) (at 2 70) "Integer_Text_IO") [] (at 2 85)) ∷
    context.With (at 2 87) (selected (at 2 92) "Ada" (at 2 95) (at 2 96) "Unchecked_Deallocation") [] (at 2 118) ∷ [])
    (subprogram_of (at 3 1) (subspec.Procedure (at 3 1) (id (at 3 11) "Main") None) None (at 3 16) (item.IncompleteType
    (at 4 1) (id (at 4 6) "Cell") (at 4 10) ∷ item.AccessType (at 5 1) (id (at 5 6) "List") (at 5 11) (at 5 14) (mark
    (at 5 21) "Cell") (at 5 25) ∷ item.RecordType (at 6 1) (id (at 6 6) "Cell") (at 6 11) (at 6 14) (fields_of (id (at 6
    21) "Value") [] (at 6 27) (mark (at 6 29) "Integer") (at 6 36)) (fields_of (id (at 6 38) "Next") [] (at 6 43) (mark
    (at 6 45) "List") (at 6 49) ∷ []) (at 6 51) (at 6 55) (at 6 61) ∷ objects_of (id (at 7 1) "X") (next_id_of (at 7 2)
    (at 7 4) "Y" ∷ []) (at 7 6) None (indication_of (mark (at 7 8) "List")) (at 7 12) ∷ initialized_of (id (at 8 1) "N")
    [] (at 8 3) None (indication_of (mark (at 8 5) "Integer")) (at 8 13) (expr_of (at 8 16) (primary.Number (at 8 16)
    7)) (at 8 17) ∷ item.Instance (at 9 1) (id (at 9 11) "Free") (at 9 16) (at 9 19) (selected (at 9 23) "Ada" (at 9 26)
    (at 9 27) "Unchecked_Deallocation") (at 9 50) (actual_of (at 9 51) (object (at 9 51) "Cell")) (next_arg.FurtherArg
    (at 9 55) (actual_of (at 9 57) (object (at 9 57) "List")) ∷ []) (at 9 61) (at 9 62) ∷ []) (at 10 1) (stmts.Sequence
    (at 11 1) (call_of (at 11 1) "Put_Line" (suffix.Applied (at 11 10) (actual_of (at 11 11) (named (at 11 11) "Integer"
    (suffix.Attribute (at 11 18) (id (at 11 19) "Image") ∷ suffix.Applied (at 11 25) (actual_of (at 11 26) (object (at
    11 26) "N")) [] (at 11 27) ∷ []))) [] (at 11 28) ∷ []) (at 11 29)) (stmt.For (at 12 1) (id (at 12 5) "I") (at 12 7)
    None (range.Bounds (at 12 10) (expr_of (at 12 10) (primary.Number (at 12 10) 1)) (at 12 12) (expr_of (at 12 15)
    (primary.Number (at 12 15) 3))) (at 12 17) (sole (at 12 22) (assign_of (at 12 22) "N" [] (at 12 24)
    (expr.LoneRelation (at 12 27) (rel.LoneSum (at 12 27) (sum.Unsigned (at 12 27) (term_of (at 12 27) (object (at 12
    27) "N")) (next_term.FurtherTerm (at 12 29) adding.Add (term_of (at 12 31) (object (at 12 31) "I")) ∷ [])))) (at 12
    32))) (at 12 34) (at 12 38) (at 12 42) ∷ [])) (at 13 1) (Some (id (at 13 5) "Main")) (at 13 9)) ∷ []) ∷ [])
unfolding computes resolves
closing_name_2 = refl

closing_name_3 : IsFirstBrokenOf WrongEnd (at 20 39) ((unit.OfSubprogram (at 1 1) (context.With (at 1 1) (selected (at 1
    6) "Ada" (at 1 9) (at 1 10) "Text_IO") [] (at 1 17) ∷ use_context (use_of (at 1 19) None (selected (at 1 23) "Ada"
    (at 1 26) (at 1 27) "text_io") [] (at 1 34)) ∷ context.With (at 1 36) (selected (at 1 41) "Ada" (at 1 44) (at 1 45)
    "Integer_Text_IO") [] (at 1 60) ∷ use_context (use_of (at 1 62) None (selected (at 1 66) "Ada" (at 1 69) (at 1 70)
    "Integer_Text_IO") [] (at 1 85)) ∷ context.With (at 1 87) (selected (at 1 92) "Ada" (at 1 95) (at 1 96)
    "Unchecked_Deallocation") [] (at 1 118) ∷ []) (subprogram_of (at 2 1) (subspec.Procedure (at 2 1) (id (at 2 11)
    "Main") None) None (at 2 16) (item.IncompleteType (at 3 1) (id (at 3 6) "CELL") (at 3 10) ∷ item.AccessType (at 4 1)
    (id (at 4 6) "List") (at 4 11) (at 4 14) (mark (at 4 21) "cell") (at 4 25) ∷ item.RecordType (at 5 1) (id (at 5 6)
    "Cell") (at 5 11) (at 5 14) (fields_of (id (at 5 21) "vALUE") [] (at 5 27) (mark (at 5 29) "Integer") (at 5 36))
    (fields_of (id (at 5 38) "Next") [] (at 5 43) (mark (at 5 45) "List") (at 5 49) ∷ []) (at 5 51) (at 5 55) (at 5 61)
    ∷ objects_of (id (at 6 1) "X") (next_id_of (at 6 2) (at 6 4) "Y" ∷ []) (at 6 6) None (indication_of (mark (at 6 8)
    "List")) (at 6 12) ∷ initialized_of (id (at 7 1) "n") [] (at 7 3) None (indication_of (mark (at 7 5) "Integer")) (at
    7 13) (expr_of (at 7 16) (primary.Number (at 7 16) 0)) (at 7 17) ∷ item.Instance (at 8 1) (id (at 8 11) "fREE") (at
    8 16) (at 8 19) (selected (at 8 23) "aDA" (at 8 26) (at 8 27) "Unchecked_Deallocation") (at 8 50) (actual_of (at 8
    51) (object (at 8 51) "Cell")) (next_arg.FurtherArg (at 8 55) (actual_of (at 8 57) (object (at 8 57) "LIST")) ∷ [])
    (at 8 61) (at 8 62) ∷ []) (at 9 1) (stmts.Sequence (at 10 1) (assign_of (at 10 1) "n" [] (at 10 3)
    (expr.LoneRelation (at 10 6) (rel.LoneSum (at 10 6) (sum.Unsigned (at 10 6) (term.Product (at 10 6) (factor_of (at
    10 6) (object (at 10 6) "N")) (next_factor.FurtherFactor (at 10 8) multiplying.Multiply (factor_of (at 10 10)
    (primary.Number (at 10 10) 2)) ∷ [])) (next_term.FurtherTerm (at 10 12) adding.Add (term_of (at 10 14)
    (primary.Number (at 10 14) 1)) ∷ [])))) (at 10 15)) (stmt.While (at 11 1) (expr.LoneRelation (at 11 7) (rel.Compared
    (at 11 7) (sum_of (at 11 7) (object (at 11 7) "N")) relational.Greater (at 11 9) (sum_of (at 11 11) (primary.Number
    (at 11 11) 5)))) (at 11 13) (sole (at 11 18) (assign_of (at 11 18) "N" [] (at 11 20) (expr.LoneRelation (at 11 23)
    (rel.LoneSum (at 11 23) (sum.Unsigned (at 11 23) (term.Product (at 11 23) (factor_of (at 11 23) (object (at 11 23)
    "N")) (next_factor.FurtherFactor (at 11 25) multiplying.Divide (factor_of (at 11 27) (primary.Number (at 11 27) 2))
    ∷ [])) []))) (at 11 28))) (at 11 30) (at 11 34) (at 11 38) ∷ stmt.IfElse (at 12 1) (expr.LoneRelation (at 12 4)
    (rel.Compared (at 12 4) (sum_of (at 12 4) (object (at 12 4) "N")) relational.Greater (at 12 6) (sum_of (at 12 8)
    (primary.Number (at 12 8) 3)))) (at 12 10) (sole (at 12 15) (assign_of (at 12 15) "N" [] (at 12 17)
    (expr.LoneRelation (at 12 20) (rel.LoneSum (at 12 20) (sum.Unsigned (at 12 20) (term_of (at 12 20) (object (at 12
    20) "N")) (next_term.FurtherTerm (at 12 22) adding.Subtract (term_of (at 12 24) (primary.Number (at 12 24) 1)) ∷
    [])))) (at 12 25))) [] (at 12 27) (sole (at 12 32) (stmt.Null (at 12 32) (at 12 36))) (at 12 38) (at 12 42) (at 12
    44) ∷ stmt.For (at 13 1) (id (at 13 5) "I") (at 13 7) None (range.Bounds (at 13 10) (expr_of (at 13 10)
    (primary.Number (at 13 10) 1)) (at 13 12) (expr_of (at 13 15) (primary.Number (at 13 15) 3))) (at 13 17) (sole (at
    13 22) (assign_of (at 13 22) "N" [] (at 13 24) (expr.LoneRelation (at 13 27) (rel.LoneSum (at 13 27) (sum.Unsigned
    (at 13 27) (term_of (at 13 27) (object (at 13 27) "N")) (next_term.FurtherTerm (at 13 29) adding.Add (term_of (at 13
    31) (object (at 13 31) "I")) ∷ [])))) (at 13 32))) (at 13 34) (at 13 38) (at 13 42) ∷ call_of (at 14 1) "Put_Line"
    (suffix.Applied (at 14 10) (actual_of (at 14 11) (named (at 14 11) "INTEGER" (suffix.Attribute (at 14 18) (id (at 14
    19) "image") ∷ suffix.Applied (at 14 25) (actual_of (at 14 26) (object (at 14 26) "N")) [] (at 14 27) ∷ []))) [] (at
    14 28) ∷ []) (at 14 29) ∷ [])) (at 15 1) (Some (id (at 15 5) "Main")) (at 15 9)) ∷ unit.OfPackage (at 16 1)
    (context.With (at 16 1) (selected (at 16 6) "Ada" (at 16 9) (at 16 10) "Text_IO") [] (at 16 17) ∷ use_context
    (use_of (at 16 19) None (selected (at 16 23) "Ada" (at 16 26) (at 16 27) "TEXT_IO") [] (at 16 34)) ∷ context.With
    (at 16 36) (selected (at 16 41) "Ada" (at 16 44) (at 16 45) "Integer_Text_IO") [] (at 16 60) ∷ use_context (use_of
    (at 16 62) None (selected (at 16 66) "Ada" (at 16 69) (at 16 70) "Integer_Text_IO") [] (at 16 85)) ∷ context.With
    (at 16 87) (selected (at 16 92) "Ada" (at 16 95) (at 16 96) "Unchecked_Deallocation") [] (at 16 118) ∷ [])
    (package_of (at 16 120) (id (at 16 128) "Former_P") None (at 16 137) (decl.Subprogram (at 17 1) (subspec.Procedure
    (at 17 1) (id (at 17 11) "Former_Q") None) None (at 17 19) ∷ []) None (at 18 1) (Some (id (at 18 5) "Former_P")) (at
    18 13)) ∷ unit.OfBody (at 19 1) [] (package_body_of (at 19 1) (at 19 9) (id (at 19 14) "Former_P") None (at 19 23)
    (part.Completed (at 20 1) (subprogram_of (at 20 1) (subspec.Procedure (at 20 1) (id (at 20 11) "Former_Q") None)
    None (at 20 20) [] (at 20 23) (sole (at 20 29) (stmt.Null (at 20 29) (at 20 33))) (at 20 35) (Some (id (at 20 39)
    "Former_R")) (at 20 47)) ∷ []) (at 21 1) (Some (id (at 21 5) "Former_P")) (at 21 13)) ∷ []) ∷ [])
unfolding computes resolves
closing_name_3 = refl

closing_name_4 : IsFirstBrokenOf WrongEnd (at 1 132) ((unit.OfPackage (at 1 1) [] (package_of (at 1 1) (id (at 1 9)
    "Latest_P") None (at 1 18) (decl.Subprogram (at 1 21) (subspec.Procedure (at 1 21) (id (at 1 31) "Latest_Q") None)
    None (at 1 39) ∷ []) None (at 1 41) (Some (id (at 1 45) "Latest_P")) (at 1 53)) ∷ unit.OfBody (at 1 55) []
    (package_body_of (at 1 55) (at 1 63) (id (at 1 68) "Latest_P") None (at 1 77) (part.Completed (at 1 80)
    (subprogram_of (at 1 80) (subspec.Procedure (at 1 80) (id (at 1 90) "Latest_Q") None) None (at 1 99) [] (at 1 102)
    (sole (at 1 108) (stmt.Null (at 1 108) (at 1 112))) (at 1 114) (Some (id (at 1 118) "Latest_Q")) (at 1 126)) ∷ [])
    (at 1 128) (Some (id (at 1 132) "Latest_Q")) (at 1 140)) ∷ unit.OfPackage (at 2 1) (context.With (at 2 1) (selected
    (at 2 6) "Ada" (at 2 9) (at 2 10) "Text_IO") [] (at 2 17) ∷ use_context (use_of (at 2 19) None (selected (at 2 23)
    "Ada" (at 2 26) (at 2 27) "Text_IO") [] (at 2 34)) ∷ context.With (at 2 36) (selected (at 2 41) "Ada" (at 2 44) (at
    2 45) "Integer_Text_IO") [] (at 2 60) ∷ use_context (use_of (at 2 62) None (selected (at 2 66) "Ada" (at 2 69) (at 2
    70) "Integer_Text_IO") [] (at 2 85)) ∷ context.With (at 2 87) (selected (at 2 92) "Ada" (at 2 95) (at 2 96)
    "Unchecked_Deallocation") [] (at 2 118) ∷ []) (package_of (at 3 1) (id (at 3 9) "Store") None (at 3 15) (decl.OfItem
    (at 3 18) (item.IncompleteType (at 3 18) (id (at 3 23) "Cell") (at 3 27)) ∷ decl.OfItem (at 3 29) (item.AccessType
    (at 3 29) (id (at 3 34) "List") (at 3 39) (at 3 42) (mark (at 3 49) "Cell") (at 3 53)) ∷ decl.OfItem (at 3 55)
    (item.RecordType (at 3 55) (id (at 3 60) "Cell") (at 3 65) (at 3 68) (fields_of (id (at 3 75) "Value") [] (at 3 81)
    (mark (at 3 83) "Integer") (at 3 90)) (fields_of (id (at 3 92) "Next") [] (at 3 97) (mark (at 3 99) "List") (at 3
    103) ∷ []) (at 3 105) (at 3 109) (at 3 115)) ∷ decl.Subprogram (at 4 1) (subspec.Procedure (at 4 1) (id (at 4 11)
    "Push") (Some (formals_of (at 4 16) (moded_of (id (at 4 17) "L") [] (at 4 19) (Some (at 4 21)) (Some (at 4 24))
    (mark (at 4 28) "List")) (next_formal.Semicolon (at 4 32) (moded_of (id (at 4 34) "V") [] (at 4 36) None None (mark
    (at 4 38) "Integer")) ∷ []) (at 4 45)))) None (at 4 46) ∷ decl.Subprogram (at 4 48) (subspec.Function (at 4 48) (id
    (at 4 57) "Sum") (Some (formals_of (at 4 61) (moded_of (id (at 4 62) "L") [] (at 4 64) None None (mark (at 4 66)
    "List")) [] (at 4 70))) (at 4 72) (indication_of (mark (at 4 79) "Integer"))) None (at 4 86) ∷ decl.OfItem (at 5 1)
    (objects_of (id (at 5 1) "Total") [] (at 5 7) None (indication_of (mark (at 5 9) "Integer")) (at 5 16)) ∷ []) None
    (at 5 18) (Some (id (at 5 22) "Store")) (at 5 27)) ∷ unit.OfBody (at 6 1) [] (package_body_of (at 6 1) (at 6 9) (id
    (at 6 14) "Store") None (at 6 20) (part.Completed (at 6 23) (subprogram_of (at 6 23) (subspec.Procedure (at 6 23)
    (id (at 6 33) "Push") (Some (formals_of (at 6 38) (moded_of (id (at 6 39) "L") [] (at 6 41) (Some (at 6 43)) (Some
    (at 6 46)) (mark (at 6 50) "List")) (next_formal.Semicolon (at 6 54) (moded_of (id (at 6 56) "V") [] (at 6 58) None
    None (mark (at 6 60) "Integer")) ∷ []) (at 6 67)))) None (at 6 69) [] (at 6 72) (sole (at 6 78) (assign_of (at 6 78)
    "L" [] (at 6 80) (expr_of (at 6 83) (primary.AllocatedAggregate (at 6 83) (mark (at 6 87) "Cell") (at 6 91)
    (aggregate.Several (at 6 92) (actual_of (at 6 93) (object (at 6 93) "V")) (at 6 94) (actual_of (at 6 96) (object (at
    6 96) "L")) [] (at 6 97)))) (at 6 98))) (at 7 1) (Some (id (at 7 5) "Push")) (at 7 9)) ∷ part.Completed (at 8 1)
    (subprogram_of (at 8 1) (subspec.Function (at 8 1) (id (at 8 10) "Sum") (Some (formals_of (at 8 14) (moded_of (id
    (at 8 15) "L") [] (at 8 17) None None (mark (at 8 19) "List")) [] (at 8 23))) (at 8 25) (indication_of (mark (at 8
    32) "Integer"))) None (at 8 40) (initialized_of (id (at 8 43) "C") [] (at 8 45) None (indication.Anonymous (at 8 47)
    (Some (at 8 54)) (mark (at 8 63) "Cell")) (at 8 68) (expr_of (at 8 71) (object (at 8 71) "L")) (at 8 72) ∷
    initialized_of (id (at 9 1) "N") [] (at 9 3) None (indication_of (mark (at 9 5) "Integer")) (at 9 13) (expr_of (at 9
    16) (primary.Number (at 9 16) 0)) (at 9 17) ∷ []) (at 9 19) (stmts.Sequence (at 9 25) (stmt.While (at 9 25)
    (expr.LoneRelation (at 9 31) (rel.Compared (at 9 31) (sum_of (at 9 31) (object (at 9 31) "C")) relational.NotEqual
    (at 9 33) (sum_of (at 9 36) (primary.Null (at 9 36))))) (at 9 41) (stmts.Sequence (at 9 46) (assign_of (at 9 46) "N"
    [] (at 9 48) (expr.LoneRelation (at 9 51) (rel.LoneSum (at 9 51) (sum.Unsigned (at 9 51) (term_of (at 9 51) (object
    (at 9 51) "N")) (next_term.FurtherTerm (at 9 53) adding.Add (term_of (at 9 55) (named (at 9 55) "C" (suffix.Selected
    (at 9 56) (id (at 9 57) "Value") ∷ []))) ∷ [])))) (at 9 62)) (assign_of (at 9 64) "C" [] (at 9 66) (expr_of (at 9
    69) (named (at 9 69) "C" (suffix.Selected (at 9 70) (id (at 9 71) "Next") ∷ []))) (at 9 75) ∷ [])) (at 9 77) (at 9
    81) (at 9 85)) (stmt.ReturnValue (at 10 1) (expr_of (at 10 8) (object (at 10 8) "N")) (at 10 9) ∷ [])) (at 10 11)
    (Some (id (at 10 15) "Sum")) (at 10 18)) ∷ []) (at 11 1) (Some (id (at 11 5) "Store")) (at 11 10)) ∷
    unit.OfSubprogram (at 12 1) (context.With (at 12 1) (selected (at 12 6) "Ada" (at 12 9) (at 12 10) "Text_IO") [] (at
    12 17) ∷ use_context (use_of (at 12 19) None (selected (at 12 23) "Ada" (at 12 26) (at 12 27) "Text_IO") [] (at 12
    34)) ∷ context.With (at 12 36) (selected (at 12 41) "Ada" (at 12 44) (at 12 45) "Integer_Text_IO") [] (at 12 60) ∷
    use_context (use_of (at 12 62) None (selected (at 12 66) "Ada" (at 12 69) (at 12 70) "Integer_Text_IO") [] (at 12
    85)) ∷ context.With (at 12 87) (selected (at 12 92) "Ada" (at 12 95) (at 12 96) "Unchecked_Deallocation") [] (at 12
    118) ∷ context.With (at 12 120) (mark (at 12 125) "Store") [] (at 12 130) ∷ use_context (use_of (at 12 132) None
    (mark (at 12 136) "Store") [] (at 12 141)) ∷ []) (subprogram_of (at 13 1) (subspec.Procedure (at 13 1) (id (at 13
    11) "Main") None) None (at 13 16) (objects_of (id (at 13 19) "X") (next_id_of (at 13 20) (at 13 22) "Y" ∷ []) (at 13
    24) None (indication_of (mark (at 13 26) "List")) (at 13 30) ∷ initialized_of (id (at 13 32) "N") [] (at 13 34) None
    (indication_of (mark (at 13 36) "Integer")) (at 13 44) (expr_of (at 13 47) (primary.Number (at 13 47) 1)) (at 13 48)
    ∷ item.Instance (at 13 50) (id (at 13 60) "Free") (at 13 65) (at 13 68) (selected (at 13 72) "Ada" (at 13 75) (at 13
    76) "Unchecked_Deallocation") (at 13 99) (actual_of (at 13 100) (object (at 13 100) "Cell")) (next_arg.FurtherArg
    (at 13 104) (actual_of (at 13 106) (object (at 13 106) "List")) ∷ []) (at 13 110) (at 13 111) ∷ []) (at 14 1)
    (stmts.Sequence (at 14 7) (call_of (at 14 7) "Push" (suffix.Applied (at 14 12) (actual_of (at 14 13) (object (at 14
    13) "X")) (next_arg.FurtherArg (at 14 14) (actual_of (at 14 16) (object (at 14 16) "N")) ∷ []) (at 14 17) ∷ []) (at
    14 18)) (stmt.DeclareBlock (at 14 20) (initialized_of (id (at 14 28) "B") [] (at 14 30) None (indication.Anonymous
    (at 14 32) None (mark (at 14 39) "Cell")) (at 14 44) (expr_of (at 14 47) (object (at 14 47) "X")) (at 14 48) ∷ [])
    (at 14 50) (sole (at 14 56) (stmt.If (at 14 56) (expr.LoneRelation (at 14 59) (rel.Compared (at 14 59) (sum_of (at
    14 59) (object (at 14 59) "B")) relational.NotEqual (at 14 61) (sum_of (at 14 64) (primary.Null (at 14 64))))) (at
    14 69) (sole (at 14 74) (assign_of (at 14 74) "B" (suffix.Selected (at 14 75) (id (at 14 76) "Value") ∷ []) (at 14
    82) (expr_of (at 14 85) (object (at 14 85) "N")) (at 14 86))) [] (at 14 88) (at 14 92) (at 14 94))) (at 14 96) (at
    14 99) ∷ assign_of (at 15 1) "Total" [] (at 15 7) (expr_of (at 15 10) (object (at 15 10) "N")) (at 15 11) ∷
    stmt.While (at 16 1) (expr.LoneRelation (at 16 7) (rel.Compared (at 16 7) (sum_of (at 16 7) (object (at 16 7) "N"))
    relational.Greater (at 16 9) (sum_of (at 16 11) (primary.Number (at 16 11) 5)))) (at 16 13) (sole (at 16 18)
    (assign_of (at 16 18) "N" [] (at 16 20) (expr.LoneRelation (at 16 23) (rel.LoneSum (at 16 23) (sum.Unsigned (at 16
    23) (term.Product (at 16 23) (factor_of (at 16 23) (object (at 16 23) "N")) (next_factor.FurtherFactor (at 16 25)
    multiplying.Divide (factor_of (at 16 27) (primary.Number (at 16 27) 2)) ∷ [])) []))) (at 16 28))) (at 16 30) (at 16
    34) (at 16 38) ∷ [])) (at 16 40) (Some (id (at 16 44) "Main")) (at 16 48)) ∷ []) ∷ [])
unfolding computes resolves
closing_name_4 = refl

closing_name_5 : IsFirstBrokenOf WrongEnd (at 38 39) ((unit.OfPackage (at 1 1) (context.With (at 1 1) (selected (at 1 6)
    "Ada" (at 1 9) (at 1 10) "Text_IO") [] (at 1 17) ∷ use_context (use_of (at 1 19) None (selected (at 1 23) "Ada" (at
    1 26) (at 1 27) "Text_IO") [] (at 1 34)) ∷ context.With (at 1 36) (selected (at 1 41) "Ada" (at 1 44) (at 1 45)
    "Integer_Text_IO") [] (at 1 60) ∷ use_context (use_of (at 1 62) None (selected (at 1 66) "Ada" (at 1 69) (at 1 70)
    "Integer_Text_IO") [] (at 1 85)) ∷ context.With (at 1 87) (selected (at 1 92) "Ada" (at 1 95) (at 1 96)
    "Unchecked_Deallocation") [] (at 1 118) ∷ []) (package_of (at 2 1) (id (at 2 9) "Store") None (at 2 15) (decl.OfItem
    (at 3 1) (item.IncompleteType (at 3 1) (id (at 3 6) "Cell") (at 3 10)) ∷ decl.OfItem (at 4 1) (item.AccessType (at 4
    1) (id (at 4 6) "List") (at 4 11) (at 4 14) (mark (at 4 21) "Cell") (at 4 25)) ∷ decl.OfItem (at 5 1)
    (item.RecordType (at 5 1) (id (at 5 6) "Cell") (at 5 11) (at 5 14) (fields_of (id (at 5 21) "Value") [] (at 5 27)
    (mark (at 5 29) "Integer") (at 5 36)) (fields_of (id (at 5 38) "Next") [] (at 5 43) (mark (at 5 45) "List") (at 5
    49) ∷ []) (at 5 51) (at 5 55) (at 5 61)) ∷ decl.Subprogram (at 6 1) (subspec.Procedure (at 6 1) (id (at 6 11)
    "Push") (Some (formals_of (at 6 16) (moded_of (id (at 6 17) "L") [] (at 6 19) (Some (at 6 21)) (Some (at 6 24))
    (mark (at 6 28) "List")) (next_formal.Semicolon (at 6 32) (moded_of (id (at 6 34) "V") [] (at 6 36) None None (mark
    (at 6 38) "Integer")) ∷ []) (at 6 45)))) None (at 6 46) ∷ decl.Subprogram (at 7 1) (subspec.Function (at 7 1) (id
    (at 7 10) "Sum") (Some (formals_of (at 7 14) (moded_of (id (at 7 15) "L") [] (at 7 17) None None (mark (at 7 19)
    "List")) [] (at 7 23))) (at 7 25) (indication_of (mark (at 7 32) "Integer"))) None (at 7 39) ∷ decl.OfItem (at 8 1)
    (objects_of (id (at 8 1) "Total") [] (at 8 7) None (indication_of (mark (at 8 9) "Integer")) (at 8 16)) ∷ []) None
    (at 9 1) (Some (id (at 9 5) "Store")) (at 9 10)) ∷ unit.OfBody (at 10 1) [] (package_body_of (at 10 1) (at 10 9) (id
    (at 10 14) "Store") None (at 10 20) (part.Completed (at 11 1) (subprogram_of (at 11 1) (subspec.Procedure (at 11 1)
    (id (at 11 11) "Push") (Some (formals_of (at 11 16) (moded_of (id (at 11 17) "L") [] (at 11 19) (Some (at 11 21))
    (Some (at 11 24)) (mark (at 11 28) "List")) (next_formal.Semicolon (at 11 32) (moded_of (id (at 11 34) "V") [] (at
    11 36) None None (mark (at 11 38) "Integer")) ∷ []) (at 11 45)))) None (at 11 47) [] (at 12 1) (sole (at 13 1)
    (assign_of (at 13 1) "L" [] (at 13 3) (expr_of (at 13 6) (primary.AllocatedAggregate (at 13 6) (mark (at 13 10)
    "Cell") (at 13 14) (aggregate.Several (at 13 15) (actual_of (at 13 16) (object (at 13 16) "V")) (at 13 17)
    (actual_of (at 13 19) (object (at 13 19) "L")) [] (at 13 20)))) (at 13 21))) (at 14 1) (Some (id (at 14 5) "Push"))
    (at 14 9)) ∷ part.Completed (at 15 1) (subprogram_of (at 15 1) (subspec.Function (at 15 1) (id (at 15 10) "Sum")
    (Some (formals_of (at 15 14) (moded_of (id (at 15 15) "L") [] (at 15 17) None None (mark (at 15 19) "List")) [] (at
    15 23))) (at 15 25) (indication_of (mark (at 15 32) "Integer"))) None (at 15 40) (initialized_of (id (at 16 1) "C")
    [] (at 16 3) None (indication.Anonymous (at 16 5) (Some (at 16 12)) (mark (at 16 21) "Cell")) (at 16 26) (expr_of
    (at 16 29) (object (at 16 29) "L")) (at 16 30) ∷ initialized_of (id (at 17 1) "N") [] (at 17 3) None (indication_of
    (mark (at 17 5) "Integer")) (at 17 13) (expr_of (at 17 16) (primary.Number (at 17 16) 0)) (at 17 17) ∷ []) (at 18 1)
    (stmts.Sequence (at 19 1) (stmt.While (at 19 1) (expr.LoneRelation (at 19 7) (rel.Compared (at 19 7) (sum_of (at 19
    7) (object (at 19 7) "C")) relational.NotEqual (at 19 9) (sum_of (at 19 12) (primary.Null (at 19 12))))) (at 19 17)
    (stmts.Sequence (at 19 22) (assign_of (at 19 22) "N" [] (at 19 24) (expr.LoneRelation (at 19 27) (rel.LoneSum (at 19
    27) (sum.Unsigned (at 19 27) (term_of (at 19 27) (object (at 19 27) "N")) (next_term.FurtherTerm (at 19 29)
    adding.Add (term_of (at 19 31) (named (at 19 31) "C" (suffix.Selected (at 19 32) (id (at 19 33) "Value") ∷ []))) ∷
    [])))) (at 19 38)) (assign_of (at 19 40) "C" [] (at 19 42) (expr_of (at 19 45) (named (at 19 45) "C"
    (suffix.Selected (at 19 46) (id (at 19 47) "Next") ∷ []))) (at 19 51) ∷ [])) (at 19 53) (at 19 57) (at 19 61))
    (stmt.ReturnValue (at 20 1) (expr_of (at 20 8) (object (at 20 8) "N")) (at 20 9) ∷ [])) (at 21 1) (Some (id (at 21
    5) "Sum")) (at 21 8)) ∷ []) (at 22 1) (Some (id (at 22 5) "Store")) (at 22 10)) ∷ unit.OfSubprogram (at 23 1)
    (context.With (at 23 1) (selected (at 23 6) "Ada" (at 23 9) (at 23 10) "Text_IO") [] (at 23 17) ∷ use_context
    (use_of (at 23 19) None (selected (at 23 23) "Ada" (at 23 26) (at 23 27) "Text_IO") [] (at 23 34)) ∷ context.With
    (at 23 36) (selected (at 23 41) "Ada" (at 23 44) (at 23 45) "Integer_Text_IO") [] (at 23 60) ∷ use_context (use_of
    (at 23 62) None (selected (at 23 66) "Ada" (at 23 69) (at 23 70) "Integer_Text_IO") [] (at 23 85)) ∷ context.With
    (at 23 87) (selected (at 23 92) "Ada" (at 23 95) (at 23 96) "Unchecked_Deallocation") [] (at 23 118) ∷ context.With
    (at 23 120) (mark (at 23 125) "Store") [] (at 23 130) ∷ use_context (use_of (at 23 132) None (mark (at 23 136)
    "Store") [] (at 23 141)) ∷ []) (subprogram_of (at 24 1) (subspec.Procedure (at 24 1) (id (at 24 11) "Main") None)
    None (at 24 16) (objects_of (id (at 25 1) "X") (next_id_of (at 25 2) (at 25 4) "Y" ∷ []) (at 25 6) None
    (indication_of (mark (at 25 8) "List")) (at 25 12) ∷ initialized_of (id (at 26 1) "N") [] (at 26 3) None
    (indication_of (mark (at 26 5) "Integer")) (at 26 13) (expr_of (at 26 16) (primary.Number (at 26 16) 0)) (at 26 17)
    ∷ []) (at 27 1) (stmts.Sequence (at 28 1) (stmt.Case (at 28 1) (expr_of (at 28 6) (object (at 28 6) "N")) (at 28 8)
    (alternative.Alternative (at 28 11) (choice.Value (at 28 16) (expr_of (at 28 16) (primary.Number (at 28 16) 1))) []
    (at 28 18) (sole (at 28 21) (stmt.Null (at 28 21) (at 28 25)))) (alternative.Alternative (at 28 27) (choice.Others
    (at 28 32)) [] (at 28 39) (sole (at 28 42) (assign_of (at 28 42) "N" [] (at 28 44) (expr_of (at 28 47)
    (primary.Number (at 28 47) 2)) (at 28 48))) ∷ []) (at 28 50) (at 28 54) (at 28 58)) (assign_of (at 29 1) "X" [] (at
    29 3) (expr_of (at 29 6) (primary.AllocatedAggregate (at 29 6) (mark (at 29 10) "Cell") (at 29 14)
    (aggregate.Several (at 29 15) (actual_of (at 29 16) (object (at 29 16) "N")) (at 29 17) (actual_of (at 29 19)
    (primary.Null (at 29 19))) [] (at 29 23)))) (at 29 24) ∷ assign_of (at 30 1) "Total" [] (at 30 7) (expr_of (at 30
    10) (object (at 30 10) "N")) (at 30 11) ∷ stmt.If (at 31 1) (expr.LoneRelation (at 31 4) (rel.LoneSum (at 31 4)
    (sum.Unsigned (at 31 4) (term.Product (at 31 4) (factor.Not (at 31 4) (object (at 31 8) "End_Of_File")) []) [])))
    (at 31 20) (sole (at 31 25) (call_of (at 31 25) "Get" (suffix.Applied (at 31 29) (actual_of (at 31 30) (object (at
    31 30) "N")) [] (at 31 31) ∷ []) (at 31 32))) [] (at 31 34) (at 31 38) (at 31 40) ∷ stmt.IfElse (at 32 1)
    (expr.LoneRelation (at 32 4) (rel.Compared (at 32 4) (sum_of (at 32 4) (object (at 32 4) "N")) relational.Greater
    (at 32 6) (sum_of (at 32 8) (primary.Number (at 32 8) 3)))) (at 32 10) (sole (at 32 15) (assign_of (at 32 15) "N" []
    (at 32 17) (expr.LoneRelation (at 32 20) (rel.LoneSum (at 32 20) (sum.Unsigned (at 32 20) (term_of (at 32 20)
    (object (at 32 20) "N")) (next_term.FurtherTerm (at 32 22) adding.Subtract (term_of (at 32 24) (primary.Number (at
    32 24) 1)) ∷ [])))) (at 32 25))) [] (at 32 27) (sole (at 32 32) (stmt.Null (at 32 32) (at 32 36))) (at 32 38) (at 32
    42) (at 32 44) ∷ [])) (at 33 1) (Some (id (at 33 5) "Main")) (at 33 9)) ∷ unit.OfPackage (at 34 1) (context.With (at
    34 1) (selected (at 34 6) "Ada" (at 34 9) (at 34 10) "Text_IO") [] (at 34 17) ∷ use_context (use_of (at 34 19) None
    (selected (at 34 23) "Ada" (at 34 26) (at 34 27) "Text_IO") [] (at 34 34)) ∷ context.With (at 34 36) (selected (at
    34 41) "Ada" (at 34 44) (at 34 45) "Integer_Text_IO") [] (at 34 60) ∷ use_context (use_of (at 34 62) None (selected
    (at 34 66) "Ada" (at 34 69) (at 34 70) "Integer_Text_IO") [] (at 34 85)) ∷ context.With (at 34 87) (selected (at 34
    92) "Ada" (at 34 95) (at 34 96) "Unchecked_Deallocation") [] (at 34 118) ∷ []) (package_of (at 34 120) (id (at 34
    128) "Latest_P") None (at 34 137) (decl.Subprogram (at 35 1) (subspec.Procedure (at 35 1) (id (at 35 11) "Latest_Q")
    None) None (at 35 19) ∷ []) None (at 36 1) (Some (id (at 36 5) "Latest_P")) (at 36 13)) ∷ unit.OfBody (at 37 1) []
    (package_body_of (at 37 1) (at 37 9) (id (at 37 14) "Latest_P") None (at 37 23) (part.Completed (at 38 1)
    (subprogram_of (at 38 1) (subspec.Procedure (at 38 1) (id (at 38 11) "Latest_Q") None) None (at 38 20) [] (at 38 23)
    (sole (at 38 29) (stmt.Null (at 38 29) (at 38 33))) (at 38 35) (Some (id (at 38 39) "Latest_P")) (at 38 47)) ∷ [])
    (at 39 1) (Some (id (at 39 5) "Latest_P")) (at 39 13)) ∷ []) ∷ [])
unfolding computes resolves
closing_name_5 = refl

closing_name_6 : IsFirstBrokenOf WrongEnd (at 5 57) ((unit.OfPackage (at 1 1) (context.With (at 1 1) (selected (at 1 6)
    "Ada" (at 1 9) (at 1 10) "Text_IO") [] (at 1 17) ∷ use_context (use_of (at 1 19) None (selected (at 1 23) "Ada" (at
    1 26) (at 1 27) "Text_IO") [] (at 1 34)) ∷ context.With (at 1 36) (selected (at 1 41) "Ada" (at 1 44) (at 1 45)
    "Integer_Text_IO") [] (at 1 60) ∷ use_context (use_of (at 1 62) None (selected (at 1 66) "Ada" (at 1 69) (at 1 70)
    "Integer_Text_IO") [] (at 1 85)) ∷ context.With (at 1 87) (selected (at 1 92) "Ada" (at 1 95) (at 1 96)
    "Unchecked_Deallocation") [] (at 1 118) ∷ []) (package_of (at 1 120) (id (at 1 128) "Latest_P") None (at 1 137)
    (decl.Subprogram (at 2 7) (subspec.Function (at 2 7) (id (at 2 16) "Latest_F") None (at 2 25) (indication_of (mark
    (at 2 32) "Integer"))) None (at 2 39) ∷ []) None (at 3 4) (Some (id (at 3 8) "Latest_P")) (at 3 16)) ∷ unit.OfBody
    (at 4 1) [] (package_body_of (at 4 1) (at 4 9) (id (at 4 14) "Latest_P") None (at 4 23) (part.Completed (at 5 1)
    (subprogram_of (at 5 1) (subspec.Function (at 5 1) (id (at 5 10) "Latest_F") None (at 5 19) (indication_of (mark (at
    5 26) "Integer"))) None (at 5 34) [] (at 5 37) (sole (at 5 43) (stmt.ReturnValue (at 5 43) (expr_of (at 5 50)
    (primary.Number (at 5 50) 1)) (at 5 51))) (at 5 53) (Some (id (at 5 57) "Latest_G")) (at 5 65)) ∷ []) (at 6 4) (Some
    (id (at 6 8) "Latest_P")) (at 6 16)) ∷ unit.OfPackage (at 7 1) (context.With (at 7 1) (selected (at 7 6) "Ada" (at 7
    9) (at 7 10) "Text_IO") [] (at 7 17) ∷ use_context (use_of (at 7 19) None (selected (at 7 23) "Ada" (at 7 26) (at 7
    27) "Text_IO") [] (at 7 34)) ∷ context.With (at 8 1) (selected (at 8 6) "Ada" (at 8 9) (at 8 10) "Integer_Text_IO")
    [] (at 8 25) ∷ use_context (use_of (at 8 27) None (selected (at 8 31) "Ada" (at 8 34) (at 8 35) "Integer_Text_IO")
    [] (at 8 50)) ∷ context.With (at 9 7) (selected (at 9 12) "Ada" (at 9 15) (at 9 16) "Unchecked_Deallocation") [] (at
    9 38) ∷ []) (package_of (at 10 1) (id (at 10 9) "Pack1") None (at 10 15) (decl.OfItem (at 11 1)
    (item.EnumerationType (at 11 1) (id (at 11 6) "E1") (at 11 9) (at 11 12) (id (at 11 13) "Lit_1") (next_id_of (at 11
    18) (at 11 20) "Lit_2" ∷ next_id_of (at 11 25) (at 11 27) "Lit_3" ∷ next_id_of (at 11 32) (at 11 34) "Lit_4" ∷ [])
    (at 11 39) (at 11 40)) ∷ decl.OfItem (at 12 4) (item.IncompleteType (at 12 4) (id (at 12 9) "Cell1") (at 12 14)) ∷
    decl.OfItem (at 13 1) (item.AccessType (at 13 1) (id (at 13 6) "List1") (at 13 12) (at 13 15) (mark (at 13 22)
    "Cell1") (at 13 27)) ∷ decl.OfItem (at 14 7) (item.RecordType (at 14 7) (id (at 14 12) "Cell1") (at 14 18) (at 14
    21) (fields_of (id (at 14 28) "Next1") [] (at 14 34) (mark (at 14 36) "List1") (at 14 41)) (fields_of (id (at 14 43)
    "Val1") [] (at 14 48) (mark (at 14 50) "Integer") (at 14 57) ∷ []) (at 14 59) (at 14 63) (at 14 69)) ∷ decl.OfItem
    (at 15 4) (item.Instance (at 15 4) (id (at 15 14) "Free1") (at 15 20) (at 15 23) (selected (at 15 27) "Ada" (at 15
    30) (at 15 31) "Unchecked_Deallocation") (at 15 54) (actual_of (at 15 55) (object (at 15 55) "Cell1"))
    (next_arg.FurtherArg (at 15 60) (actual_of (at 15 62) (object (at 15 62) "List1")) ∷ []) (at 15 67) (at 15 68)) ∷
    decl.OfItem (at 16 7) (item.PrivateType (at 16 7) (id (at 16 12) "Stack1") (at 16 19) (at 16 22) (at 16 29)) ∷
    decl.OfItem (at 17 1) (initialized_of (id (at 17 1) "G1") [] (at 17 4) None (indication_of (mark (at 17 6) "List1"))
    (at 17 12) (expr_of (at 17 15) (primary.AllocatedAggregate (at 17 15) (mark (at 17 19) "Cell1") (at 17 24)
    (aggregate.Several (at 17 25) (actual_of (at 17 26) (primary.Null (at 17 26))) (at 17 30) (actual_of (at 17 32)
    (primary.Parenthesized (at 17 32) (expr.LoneRelation (at 17 33) (rel.LoneSum (at 17 33) (sum.Signed (at 17 33)
    sign.Minus (term_of (at 17 34) (primary.Number (at 17 34) 3)) []))) (at 17 35))) [] (at 17 36)))) (at 17 37)) ∷
    decl.Subprogram (at 18 4) (subspec.Function (at 18 4) (id (at 18 13) "Get1") (Some (formals_of (at 18 18) (moded_of
    (id (at 18 19) "N1") [] (at 18 22) None None (mark (at 18 24) "Stack1")) [] (at 18 30))) (at 18 32) (indication_of
    (mark (at 18 39) "Stack1"))) None (at 18 45) ∷ []) (Some (private_part (at 19 7) (decl.OfItem (at 20 7)
    (item.RecordType (at 20 7) (id (at 20 12) "Stack1") (at 20 19) (at 20 22) (fields_of (id (at 20 29) "F1") [] (at 20
    32) (mark (at 20 34) "List1") (at 20 39)) (fields_of (id (at 20 41) "F2") [] (at 20 44) (mark (at 20 46) "Integer")
    (at 20 53) ∷ []) (at 20 55) (at 20 59) (at 20 65)) ∷ []))) (at 21 1) (Some (id (at 21 5) "Pack1")) (at 21 10)) ∷
    unit.OfBody (at 22 1) [] (package_body_of (at 22 1) (at 22 9) (id (at 22 14) "Pack1") None (at 22 20)
    (part.Completed (at 23 1) (subprogram_of (at 23 1) (subspec.Function (at 23 1) (id (at 23 10) "Get1") (Some
    (formals_of (at 23 15) (moded_of (id (at 23 16) "N1") [] (at 23 19) None None (mark (at 23 21) "Stack1")) [] (at 23
    27))) (at 23 29) (indication_of (mark (at 23 36) "Stack1"))) None (at 23 43) (initialized_of (id (at 24 1) "V1") []
    (at 24 4) None (indication_of (mark (at 24 6) "List1")) (at 24 12) (expr_of (at 24 15) (primary.AllocatedAggregate
    (at 24 15) (mark (at 24 19) "Cell1") (at 24 24) (aggregate.Several (at 24 25) (actual_of (at 24 26)
    (primary.AllocatedAggregate (at 24 26) (mark (at 24 30) "Cell1") (at 24 35) (aggregate.Several (at 24 36) (actual_of
    (at 24 37) (primary.Null (at 24 37))) (at 24 41) (actual_of (at 24 43) (primary.Parenthesized (at 24 43)
    (expr.LoneRelation (at 24 44) (rel.LoneSum (at 24 44) (sum.Signed (at 24 44) sign.Minus (term_of (at 24 45)
    (primary.Number (at 24 45) 11)) []))) (at 24 47))) [] (at 24 48)))) (at 24 49) (actual_of (at 24 51) (primary.Number
    (at 24 51) 23)) [] (at 24 53)))) (at 24 54) ∷ initialized_of (id (at 25 1) "V2") [] (at 25 4) None (indication_of
    (mark (at 25 6) "Cell1")) (at 25 12) (expr_of (at 25 15) (primary.Aggregated (at 25 15) (aggregate.Several (at 25
    15) (association_of (id (at 25 16) "Next1") (at 25 22) (expr_of (at 25 25) (object (at 25 25) "V1"))) (at 25 27)
    (association_of (id (at 25 29) "Val1") (at 25 34) (expr_of (at 25 37) (primary.Number (at 25 37) 25))) [] (at 25
    39)))) (at 25 40) ∷ []) (at 26 1) (stmts.Sequence (at 27 1) (stmt.If (at 27 1) (expr.AndThen (at 27 4) (rel.Compared
    (at 27 4) (sum_of (at 27 4) (named (at 27 4) "V2" (suffix.Selected (at 27 6) (id (at 27 7) "Next1") ∷ [])))
    relational.NotEqual (at 27 13) (sum_of (at 27 16) (primary.Null (at 27 16)))) (at 27 21) (at 27 25) (rel.Compared
    (at 27 30) (sum_of (at 27 30) (named (at 27 30) "V2" (suffix.Selected (at 27 32) (id (at 27 33) "Next1") ∷
    suffix.Selected (at 27 38) (id (at 27 39) "Next1") ∷ []))) relational.NotEqual (at 27 45) (sum_of (at 27 48)
    (primary.Null (at 27 48)))) []) (at 27 53) (sole (at 28 1) (call_of (at 28 1) "Free1" (suffix.Applied (at 28 7)
    (actual_of (at 28 8) (named (at 28 8) "V2" (suffix.Selected (at 28 10) (id (at 28 11) "Next1") ∷ suffix.Selected (at
    28 16) (id (at 28 17) "Next1") ∷ suffix.Selected (at 28 22) (id (at 28 23) "Next1") ∷ []))) [] (at 28 28) ∷ []) (at
    28 29))) [] (at 29 4) (at 29 8) (at 29 10)) (assign_of (at 30 1) "V2" (suffix.Selected (at 30 3) (id (at 30 4)
    "Next1") ∷ []) (at 30 10) (expr_of (at 30 13) (primary.AllocatedAggregate (at 30 13) (mark (at 30 17) "Cell1") (at
    30 22) (aggregate.Several (at 30 23) (actual_of (at 30 24) (named (at 30 24) "V2" (suffix.Selected (at 30 26) (id
    (at 30 27) "Next1") ∷ []))) (at 30 32) (actual_of (at 30 34) (named (at 30 34) "V2" (suffix.Selected (at 30 36) (id
    (at 30 37) "Val1") ∷ []))) [] (at 30 41)))) (at 30 42) ∷ stmt.ReturnValue (at 31 4) (expr_of (at 31 11)
    (primary.Aggregated (at 31 11) (aggregate.Several (at 31 11) (actual_of (at 31 12) (primary.AllocatedValue (at 31
    12) (mark (at 31 16) "Cell1") (at 31 21) (at 31 22) (expr_of (at 31 23) (named (at 31 23) "V2" (suffix.Selected (at
    31 25) (id (at 31 26) "Next1") ∷ suffix.Dereferenced (at 31 31) (at 31 32) ∷ []))) (at 31 35))) (at 31 36)
    (actual_of (at 31 38) (named (at 31 38) "Positive" (suffix.Attribute (at 31 46) (id (at 31 47) "First") ∷ []))) []
    (at 31 52)))) (at 31 53) ∷ [])) (at 32 7) (Some (id (at 32 11) "Get1")) (at 32 15)) ∷ []) (at 33 1) (Some (id (at 33
    5) "Pack1")) (at 33 10)) ∷ unit.OfSubprogram (at 34 4) (context.With (at 34 4) (selected (at 34 9) "Ada" (at 34 12)
    (at 34 13) "Text_IO") (next_dotted.FurtherDotted (at 34 20) (selected (at 34 22) "Ada" (at 34 25) (at 34 26)
    "Integer_Text_IO") ∷ next_dotted.FurtherDotted (at 34 41) (selected (at 34 43) "Ada" (at 34 46) (at 34 47)
    "Unchecked_Deallocation") ∷ []) (at 34 69) ∷ use_context (use_of (at 35 7) None (selected (at 35 11) "Ada" (at 35
    14) (at 35 15) "Text_IO") (next_dotted.FurtherDotted (at 35 22) (selected (at 35 24) "Ada" (at 35 27) (at 35 28)
    "Integer_Text_IO") ∷ []) (at 35 43)) ∷ context.With (at 36 1) (mark (at 36 6) "Pack1") [] (at 36 11) ∷ use_context
    (use_of (at 36 13) None (mark (at 36 17) "Pack1") [] (at 36 22)) ∷ []) (subprogram_of (at 37 1) (subspec.Procedure
    (at 37 1) (id (at 37 11) "Main") None) None (at 37 16) (item.RecordType (at 38 1) (id (at 38 6) "R1") (at 38 9) (at
    38 12) (fields_of (id (at 38 19) "F3") [] (at 38 22) (mark (at 38 24) "Integer") (at 38 31)) [] (at 38 33) (at 38
    37) (at 38 43) ∷ initialized_of (id (at 39 4) "V3") [] (at 39 7) None (indication_of (selected (at 39 9) "Pack1" (at
    39 14) (at 39 15) "Cell1")) (at 39 21) (expr_of (at 39 24) (primary.Aggregated (at 39 24) (aggregate.Several (at 39
    24) (association_of (id (at 39 25) "Next1") (at 39 31) (expr_of (at 39 34) (primary.Null (at 39 34)))) (at 39 38)
    (association_of (id (at 39 40) "Val1") (at 39 45) (expr_of (at 39 48) (primary.Parenthesized (at 39 48)
    (expr.LoneRelation (at 39 49) (rel.LoneSum (at 39 49) (sum.Signed (at 39 49) sign.Minus (term_of (at 39 50)
    (primary.Number (at 39 50) 20)) []))) (at 39 52)))) [] (at 39 53)))) (at 39 54) ∷ initialized_of (id (at 40 4) "V4")
    [] (at 40 7) None (indication_of (mark (at 40 9) "Cell1")) (at 40 15) (expr_of (at 40 18) (object (at 40 18) "V3"))
    (at 40 20) ∷ []) (at 41 7) (sole (at 42 4) (stmt.Case (at 42 4) (expr_of (at 42 9) (named (at 42 9) "V4"
    (suffix.Selected (at 42 11) (id (at 42 12) "Val1") ∷ []))) (at 42 17) (alternative.Alternative (at 43 1)
    (choice.Value (at 43 6) (expr_of (at 43 6) (primary.Number (at 43 6) 3))) [] (at 43 8) (sole (at 44 4) (stmt.If (at
    44 4) (expr.LoneRelation (at 44 7) (rel.Compared (at 44 7) (sum_of (at 44 7) (object (at 44 7) "G1"))
    relational.NotEqual (at 44 10) (sum_of (at 44 13) (primary.Null (at 44 13))))) (at 44 18) (sole (at 45 1)
    (stmt.DeclareBlock (at 45 1) (initialized_of (id (at 46 4) "C1") [] (at 46 7) None (indication.Anonymous (at 46 9)
    (Some (at 46 16)) (mark (at 46 25) "Cell1")) (at 46 31) (expr_of (at 46 34) (named (at 46 34) "G1" (suffix.Selected
    (at 46 36) (id (at 46 37) "Next1") ∷ []))) (at 46 42) ∷ []) (at 47 1) (stmts.Sequence (at 48 4) (stmt.DeclareBlock
    (at 48 4) (initialized_of (id (at 49 4) "B1") [] (at 49 7) None (indication.Anonymous (at 49 9) None (mark (at 49
    16) "Cell1")) (at 49 22) (expr_of (at 49 25) (named (at 49 25) "V4" (suffix.Selected (at 49 27) (id (at 49 28)
    "Next1") ∷ []))) (at 49 33) ∷ []) (at 50 1) (stmts.Sequence (at 51 7) (stmt.If (at 51 7) (expr.LoneRelation (at 51
    10) (rel.Compared (at 51 10) (sum_of (at 51 10) (object (at 51 10) "G1")) relational.NotEqual (at 51 13) (sum_of (at
    51 16) (primary.Null (at 51 16))))) (at 51 21) (sole (at 52 1) (assign_of (at 52 1) "G1" (suffix.Selected (at 52 3)
    (id (at 52 4) "Val1") ∷ []) (at 52 9) (expr_of (at 52 12) (named (at 52 12) "Positive" (suffix.Attribute (at 52 20)
    (id (at 52 21) "First") ∷ []))) (at 52 26))) [] (at 53 1) (at 53 5) (at 53 7)) (assign_of (at 54 4) "B1"
    (suffix.Dereferenced (at 54 6) (at 54 7) ∷ suffix.Selected (at 54 10) (id (at 54 11) "Next1") ∷ suffix.Selected (at
    54 16) (id (at 54 17) "Next1") ∷ []) (at 54 23) (expr_of (at 54 26) (primary.AllocatedAggregate (at 54 26) (mark (at
    54 30) "Cell1") (at 54 35) (aggregate.Several (at 54 36) (actual_of (at 54 37) (named (at 54 37) "B1"
    (suffix.Dereferenced (at 54 39) (at 54 40) ∷ suffix.Selected (at 54 43) (id (at 54 44) "Next1") ∷ suffix.Selected
    (at 54 49) (id (at 54 50) "Next1") ∷ []))) (at 54 55) (actual_of (at 54 57) (primary.Number (at 54 57) 28)) [] (at
    54 59)))) (at 54 60) ∷ stmt.If (at 55 1) (expr.Or (at 55 4) (rel_of (at 55 4) (primary.Parenthesized (at 55 4)
    (expr_of (at 55 5) (object (at 55 5) "End_Of_File")) (at 55 16))) (at 55 18) (rel_of (at 55 21)
    (primary.Parenthesized (at 55 21) (expr_of (at 55 22) (object (at 55 22) "End_Of_File")) (at 55 33))) []) (at 55 35)
    (sole (at 56 7) (stmt.If (at 56 7) (expr.LoneRelation (at 56 10) (rel.Compared (at 56 10) (sum_of (at 56 10) (object
    (at 56 10) "B1")) relational.NotEqual (at 56 13) (sum_of (at 56 16) (primary.Null (at 56 16))))) (at 56 21) (sole
    (at 57 1) (assign_of (at 57 1) "V3" (suffix.Selected (at 57 3) (id (at 57 4) "Next1") ∷ []) (at 57 10) (expr_of (at
    57 13) (named (at 57 13) "B1" (suffix.Selected (at 57 15) (id (at 57 16) "Next1") ∷ []))) (at 57 21))) [] (at 58 1)
    (at 58 5) (at 58 7))) [] (at 59 7) (at 59 11) (at 59 13) ∷ assign_of (at 60 1) "B1" (suffix.Selected (at 60 3) (id
    (at 60 4) "Next1") ∷ []) (at 60 10) (expr_of (at 60 13) (primary.Null (at 60 13))) (at 60 17) ∷ [])) (at 61 4) (at
    61 7)) (call_of (at 62 1) "Free1" (suffix.Applied (at 62 7) (actual_of (at 62 8) (named (at 62 8) "V4"
    (suffix.Selected (at 62 10) (id (at 62 11) "Next1") ∷ []))) [] (at 62 16) ∷ []) (at 62 17) ∷ [])) (at 63 1) (at 63
    4))) [] (at 64 1) (at 64 5) (at 64 7)))) (alternative.Alternative (at 65 1) (choice.Value (at 65 6) (expr_of (at 65
    6) (primary.Number (at 65 6) 2))) [] (at 65 8) (sole (at 66 4) (stmt.While (at 66 4) (expr.LoneRelation (at 66 10)
    (rel.Compared (at 66 10) (sum_of (at 66 10) (named (at 66 10) "V4" (suffix.Selected (at 66 12) (id (at 66 13)
    "Next1") ∷ []))) relational.NotEqual (at 66 19) (sum_of (at 66 22) (primary.Null (at 66 22))))) (at 66 27)
    (stmts.Sequence (at 67 4) (assign_of (at 67 4) "G1" [] (at 67 7) (expr_of (at 67 10) (named (at 67 10) "V4"
    (suffix.Selected (at 67 12) (id (at 67 13) "Next1") ∷ []))) (at 67 18)) (assign_of (at 68 1) "V4" (suffix.Selected
    (at 68 3) (id (at 68 4) "Next1") ∷ []) (at 68 10) (expr_of (at 68 13) (named (at 68 13) "G1" (suffix.Selected (at 68
    15) (id (at 68 16) "Next1") ∷ []))) (at 68 21) ∷ call_of (at 69 1) "Free1" (suffix.Applied (at 69 7) (actual_of (at
    69 8) (object (at 69 8) "G1")) [] (at 69 10) ∷ []) (at 69 11) ∷ [])) (at 70 7) (at 70 11) (at 70 15))) ∷
    alternative.Alternative (at 71 1) (choice.Value (at 71 6) (expr_of (at 71 6) (primary.Number (at 71 6) 10))) [] (at
    71 9) (sole (at 72 4) (stmt.If (at 72 4) (expr.AndThen (at 72 7) (rel.Compared (at 72 7) (sum_of (at 72 7) (named
    (at 72 7) "V4" (suffix.Selected (at 72 9) (id (at 72 10) "Next1") ∷ []))) relational.NotEqual (at 72 16) (sum_of (at
    72 19) (primary.Null (at 72 19)))) (at 72 24) (at 72 28) (rel.Compared (at 72 33) (sum_of (at 72 33) (named (at 72
    33) "V4" (suffix.Selected (at 72 35) (id (at 72 36) "Next1") ∷ suffix.Selected (at 72 41) (id (at 72 42) "Next1") ∷
    []))) relational.NotEqual (at 72 48) (sum_of (at 72 51) (primary.Null (at 72 51)))) []) (at 72 56) (sole (at 73 1)
    (assign_of (at 73 1) "V4" (suffix.Selected (at 73 3) (id (at 73 4) "Next1") ∷ suffix.Selected (at 73 9) (id (at 73
    10) "Next1") ∷ suffix.Selected (at 73 15) (id (at 73 16) "Val1") ∷ []) (at 73 21) (expr_of (at 73 24)
    (primary.Parenthesized (at 73 24) (expr.LoneRelation (at 73 25) (rel.LoneSum (at 73 25) (sum.Unsigned (at 73 25)
    (term_of (at 73 25) (named (at 73 25) "V4" (suffix.Selected (at 73 27) (id (at 73 28) "Val1") ∷ [])))
    (next_term.FurtherTerm (at 73 33) adding.Add (term_of (at 73 35) (primary.Number (at 73 35) 6)) ∷ [])))) (at 73
    36))) (at 73 37))) [] (at 74 1) (at 74 5) (at 74 7))) ∷ alternative.Alternative (at 75 7) (choice.Others (at 75 12))
    [] (at 75 19) (sole (at 76 1) (stmt.If (at 76 1) (expr.LoneRelation (at 76 4) (rel.Compared (at 76 4) (sum_of (at 76
    4) (named (at 76 4) "V4" (suffix.Selected (at 76 6) (id (at 76 7) "Next1") ∷ []))) relational.NotEqual (at 76 13)
    (sum_of (at 76 16) (primary.Null (at 76 16))))) (at 76 21) (sole (at 77 4) (assign_of (at 77 4) "V3" [] (at 77 7)
    (expr_of (at 77 10) (named (at 77 10) "V4" (suffix.Selected (at 77 12) (id (at 77 13) "Next1") ∷ suffix.Dereferenced
    (at 77 18) (at 77 19) ∷ []))) (at 77 22))) [] (at 78 7) (at 78 11) (at 78 13))) ∷ []) (at 79 7) (at 79 11) (at 79
    15))) (at 80 7) (Some (id (at 80 11) "Main")) (at 80 15)) ∷ []) ∷ [])
unfolding computes resolves
closing_name_6 = refl
