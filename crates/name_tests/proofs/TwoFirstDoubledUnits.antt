-- Two rules are broken in several files, and N2 is first: by its position, or there by its code.
--
-- tools/tree_terms.py makes this of the sources that data/cases.txt has under its name.
use Rattle.std.proofs.Common.{refl, [], ◌∷◌}
use Rattle.std.specs.Prelude.{None, Some}
use Rattle.ada_tree.specs.declared.operator.AddingOperator.TheVariants as adding
use Rattle.ada_tree.specs.declared.expression.Aggregate.TheVariants as aggregate
use Rattle.ada_tree.specs.declared.statement.When.TheVariants as alternative
use Rattle.ada_tree.specs.declared.range.Choice.TheVariants as choice
use Rattle.ada_tree.specs.declared.unit.Context.TheVariants as context
use Rattle.ada_tree.specs.declared.subprogram.Decl.TheVariants as decl
use Rattle.ada_tree.specs.declared.expression.Expr.TheVariants as expr
use Rattle.ada_tree.specs.declared.expression.Factor.TheVariants as factor
use Rattle.ada_tree.specs.declared.declaration.Indication.TheVariants as indication
use Rattle.ada_tree.specs.declared.declaration.Item.TheVariants as item
use Rattle.ada_tree.specs.declared.operator.MultiplyingOperator.TheVariants as multiplying
use Rattle.ada_tree.specs.declared.expression.NextArg.TheVariants as next_arg
use Rattle.ada_tree.specs.declared.expression.NextFactor.TheVariants as next_factor
use Rattle.ada_tree.specs.declared.subprogram.NextFormal.TheVariants as next_formal
use Rattle.ada_tree.specs.declared.expression.NextTerm.TheVariants as next_term
use Rattle.ada_tree.specs.declared.unit.BodyPart.TheVariants as part
use Rattle.ada_tree.specs.declared.expression.Primary.TheVariants as primary
use Rattle.ada_tree.specs.declared.expression.Rel.TheVariants as rel
use Rattle.ada_tree.specs.declared.operator.RelationalOperator.TheVariants as relational
use Rattle.ada_tree.specs.declared.statement.Stmt.TheVariants as stmt
use Rattle.ada_tree.specs.declared.statement.Stmts.TheVariants as stmts
use Rattle.ada_tree.specs.declared.subprogram.Subspec.TheVariants as subspec
use Rattle.ada_tree.specs.declared.expression.Suffix.TheVariants as suffix
use Rattle.ada_tree.specs.declared.expression.Sum.TheVariants as sum
use Rattle.ada_tree.specs.declared.expression.Term.TheVariants as term
use Rattle.ada_tree.specs.declared.unit.SourceUnit.TheVariants as unit
use Rattle.ada_grammar.proofs.SmallSources.{computes}
use Rattle.name_events.specs.declared.declaration.NameRule.TheVariants.{Twice}
use Rattle.name_tests.proofs.SmallRules.{resolves}
use Rattle.name_tests.proofs.SourceTrees.{IsFirstBrokenOf, actual_of, assign_of, at, at1, at2, at3, at4, call_of, expr_of, factor_of, fields_of, formals_of, id, indication_of, initialized_of, mark, moded_of, named, next_id_of, object, objects_of, package_body_of, package_of, selected, sole, subprogram_of, sum_of, term_of, use_context, use_item, use_of}

two_n2_6 : IsFirstBrokenOf Twice (at1 2 1) ((unit.OfPackage (at 1 1) (context.With (at 1 1) (selected (at 1 6) "Ada" (at
    1 9) (at 1 10) "Text_IO") [] (at 1 17) ∷ use_context (use_of (at 1 19) None (selected (at 1 23) "Ada" (at 1 26) (at
    1 27) "Text_IO") [] (at 1 34)) ∷ context.With (at 1 36) (selected (at 1 41) "Ada" (at 1 44) (at 1 45)
    "Integer_Text_IO") [] (at 1 60) ∷ use_context (use_of (at 1 62) None (selected (at 1 66) "Ada" (at 1 69) (at 1 70)
    "Integer_Text_IO") [] (at 1 85)) ∷ context.With (at 1 87) (selected (at 1 92) "Ada" (at 1 95) (at 1 96)
    "Unchecked_Deallocation") [] (at 1 118) ∷ []) (package_of (at 1 120) (id (at 1 128) "Quick_P") None (at 1 136)
    (decl.OfItem (at 2 1) (objects_of (id (at 2 1) "Quick_X") [] (at 2 9) None (indication_of (mark (at 2 11)
    "Integer")) (at 2 18)) ∷ decl.Subprogram (at 2 20) (subspec.Procedure (at 2 20) (id (at 2 30) "Quick_Q") None) None
    (at 2 37) ∷ []) None (at 3 1) (Some (id (at 3 5) "Quick_P")) (at 3 12)) ∷ []) ∷ (unit.OfBody (at1 1 1) []
    (package_body_of (at1 1 1) (at1 1 9) (id (at1 1 14) "Quick_P") None (at1 1 22) (part.Declared (at1 2 1) (decl.OfItem
    (at1 2 1) (objects_of (id (at1 2 1) "Quick_X") [] (at1 2 9) None (indication_of (mark (at1 2 11) "Boolean")) (at1 2
    18))) ∷ part.Completed (at1 2 20) (subprogram_of (at1 2 20) (subspec.Procedure (at1 2 20) (id (at1 2 30) "Quick_Q")
    None) None (at1 2 38) (objects_of (id (at1 2 41) "Usual_X") [] (at1 2 49) None (indication_of (mark (at1 2 51)
    "Integer")) (at1 2 58) ∷ []) (at1 2 60) (stmts.Sequence (at1 2 66) (stmt.DeclareBlock (at1 2 66) (use_item (use_of
    (at1 2 74) None (mark (at1 2 78) "Usual_X") [] (at1 2 85)) ∷ []) (at1 2 87) (sole (at1 2 93) (assign_of (at1 2 93)
    "Usual_X" [] (at1 2 101) (expr_of (at1 2 104) (primary.Number (at1 2 104) 1)) (at1 2 105))) (at1 2 107) (at1 2 110))
    (stmt.Null (at1 2 112) (at1 2 116) ∷ [])) (at1 2 118) (Some (id (at1 2 122) "Quick_Q")) (at1 2 129)) ∷ []) (at1 3 1)
    (Some (id (at1 3 5) "Quick_P")) (at1 3 12)) ∷ []) ∷ (unit.OfSubprogram (at2 1 1) (context.With (at2 1 1) (selected
    (at2 1 6) "Ada" (at2 1 9) (at2 1 10) "Text_IO") [] (at2 1 17) ∷ use_context (use_of (at2 1 19) None (selected (at2 1
    23) "Ada" (at2 1 26) (at2 1 27) "Text_IO") [] (at2 1 34)) ∷ context.With (at2 1 36) (selected (at2 1 41) "Ada" (at2
    1 44) (at2 1 45) "Integer_Text_IO") [] (at2 1 60) ∷ use_context (use_of (at2 1 62) None (selected (at2 1 66) "Ada"
    (at2 1 69) (at2 1 70) "Integer_Text_IO") [] (at2 1 85)) ∷ context.With (at2 1 87) (selected (at2 1 92) "Ada" (at2 1
    95) (at2 1 96) "Unchecked_Deallocation") [] (at2 1 118) ∷ []) (subprogram_of (at2 2 1) (subspec.Procedure (at2 2 1)
    (id (at2 2 11) "Main") None) None (at2 2 16) (item.IncompleteType (at2 3 1) (id (at2 3 6) "Cell") (at2 3 10) ∷
    item.AccessType (at2 4 1) (id (at2 4 6) "List") (at2 4 11) (at2 4 14) (mark (at2 4 21) "Cell") (at2 4 25) ∷
    item.RecordType (at2 5 1) (id (at2 5 6) "Cell") (at2 5 11) (at2 5 14) (fields_of (id (at2 5 21) "Value") [] (at2 5
    27) (mark (at2 5 29) "Integer") (at2 5 36)) (fields_of (id (at2 5 38) "Next") [] (at2 5 43) (mark (at2 5 45) "List")
    (at2 5 49) ∷ []) (at2 5 51) (at2 5 55) (at2 5 61) ∷ objects_of (id (at2 6 1) "X") (next_id_of (at2 6 2) (at2 6 4)
    "Y" ∷ []) (at2 6 6) None (indication_of (mark (at2 6 8) "List")) (at2 6 12) ∷ initialized_of (id (at2 7 1) "N") []
    (at2 7 3) None (indication_of (mark (at2 7 5) "Integer")) (at2 7 13) (expr_of (at2 7 16) (primary.Number (at2 7 16)
    8)) (at2 7 17) ∷ []) (at2 8 1) (stmts.Sequence (at2 9 1) (stmt.While (at2 9 1) (expr.LoneRelation (at2 9 7)
    (rel.Compared (at2 9 7) (sum_of (at2 9 7) (object (at2 9 7) "N")) relational.Greater (at2 9 9) (sum_of (at2 9 11)
    (primary.Number (at2 9 11) 5)))) (at2 9 13) (sole (at2 9 18) (assign_of (at2 9 18) "N" [] (at2 9 20)
    (expr.LoneRelation (at2 9 23) (rel.LoneSum (at2 9 23) (sum.Unsigned (at2 9 23) (term.Product (at2 9 23) (factor_of
    (at2 9 23) (object (at2 9 23) "N")) (next_factor.FurtherFactor (at2 9 25) multiplying.Divide (factor_of (at2 9 27)
    (primary.Number (at2 9 27) 2)) ∷ [])) []))) (at2 9 28))) (at2 9 30) (at2 9 34) (at2 9 38)) (stmt.If (at2 10 1)
    (expr.LoneRelation (at2 10 4) (rel.LoneSum (at2 10 4) (sum.Unsigned (at2 10 4) (term.Product (at2 10 4) (factor.Not
    (at2 10 4) (object (at2 10 8) "End_Of_File")) []) []))) (at2 10 20) (sole (at2 10 25) (call_of (at2 10 25) "Get"
    (suffix.Applied (at2 10 29) (actual_of (at2 10 30) (object (at2 10 30) "N")) [] (at2 10 31) ∷ []) (at2 10 32))) []
    (at2 10 34) (at2 10 38) (at2 10 40) ∷ [])) (at2 11 1) (Some (id (at2 11 5) "Main")) (at2 11 9)) ∷ []) ∷ [])
unfolding computes resolves
two_n2_6 = refl

two_n2_9 : IsFirstBrokenOf Twice (at 1 10) ((unit.OfSubprogram (at 1 1) [] (subprogram_of (at 1 1) (subspec.Function (at
    1 1) (id (at 1 10) "Minor_F") (Some (formals_of (at 1 18) (moded_of (id (at 1 19) "Minor_X") [] (at 1 27) None None
    (mark (at 1 29) "Integer")) [] (at 1 36))) (at 1 38) (indication_of (mark (at 1 45) "Boolean"))) None (at 1 53) []
    (at 1 56) (sole (at 1 62) (stmt.ReturnValue (at 1 62) (expr.LoneRelation (at 1 69) (rel.Compared (at 1 69) (sum_of
    (at 1 69) (object (at 1 69) "Minor_X")) relational.Greater (at 1 77) (sum_of (at 1 79) (primary.Number (at 1 79)
    0)))) (at 1 80))) (at 1 82) (Some (id (at 1 86) "Minor_F")) (at 1 93)) ∷ []) ∷ (unit.OfPackage (at1 1 7)
    (context.With (at1 1 7) (selected (at1 1 12) "Ada" (at1 1 15) (at1 1 16) "Text_IO") [] (at1 1 23) ∷ use_context
    (use_of (at1 1 25) None (selected (at1 1 29) "Ada" (at1 1 32) (at1 1 33) "Text_IO") [] (at1 1 40)) ∷ context.With
    (at1 1 42) (selected (at1 1 47) "Ada" (at1 1 50) (at1 1 51) "Integer_Text_IO") [] (at1 1 66) ∷ use_context (use_of
    (at1 1 68) None (selected (at1 1 72) "Ada" (at1 1 75) (at1 1 76) "Integer_Text_IO") [] (at1 1 91)) ∷ context.With
    (at1 1 93) (selected (at1 1 98) "Ada" (at1 1 101) (at1 1 102) "Unchecked_Deallocation") [] (at1 1 124) ∷ [])
    (package_of (at1 1 126) (id (at1 1 134) "Inner_P") None (at1 1 142) (decl.Subprogram (at1 2 1) (subspec.Function
    (at1 2 1) (id (at1 2 10) "Inner_F") (Some (formals_of (at1 2 18) (moded_of (id (at1 2 19) "Inner_X") [] (at1 2 27)
    None None (mark (at1 2 29) "Integer")) [] (at1 2 36))) (at1 2 38) (indication_of (mark (at1 2 45) "Integer"))) None
    (at1 2 52) ∷ []) None (at1 3 4) (Some (id (at1 3 8) "Inner_P")) (at1 3 15)) ∷ []) ∷ (unit.OfBody (at2 1 1) []
    (package_body_of (at2 1 1) (at2 1 9) (id (at2 1 14) "Inner_P") None (at2 1 22) (part.Completed (at2 2 7)
    (subprogram_of (at2 2 7) (subspec.Function (at2 2 7) (id (at2 2 16) "Inner_F") (Some (formals_of (at2 2 24)
    (moded_of (id (at2 2 25) "Inner_X") [] (at2 2 33) None None (mark (at2 2 35) "Integer")) [] (at2 2 42))) (at2 2 44)
    (indication_of (mark (at2 2 51) "Integer"))) None (at2 2 59) (item.EnumerationType (at2 2 62) (id (at2 2 67)
    "Inner_X") (at2 2 75) (at2 2 78) (id (at2 2 79) "Inner_A") (next_id_of (at2 2 86) (at2 2 88) "Inner_B" ∷ []) (at2 2
    95) (at2 2 96) ∷ []) (at2 2 98) (sole (at2 2 104) (stmt.ReturnValue (at2 2 104) (expr_of (at2 2 111) (primary.Number
    (at2 2 111) 1)) (at2 2 112))) (at2 2 114) (Some (id (at2 2 118) "Inner_F")) (at2 2 125)) ∷ []) (at2 3 1) (Some (id
    (at2 3 5) "Inner_P")) (at2 3 12)) ∷ []) ∷ (unit.OfSubprogram (at3 1 1) (context.With (at3 1 1) (selected (at3 1 6)
    "Ada" (at3 1 9) (at3 1 10) "Text_IO") [] (at3 1 17) ∷ use_context (use_of (at3 1 19) None (selected (at3 1 23) "Ada"
    (at3 1 26) (at3 1 27) "Text_IO") [] (at3 1 34)) ∷ context.With (at3 1 36) (selected (at3 1 41) "Ada" (at3 1 44) (at3
    1 45) "Integer_Text_IO") [] (at3 1 60) ∷ use_context (use_of (at3 1 62) None (selected (at3 1 66) "Ada" (at3 1 69)
    (at3 1 70) "Integer_Text_IO") [] (at3 1 85)) ∷ context.With (at3 1 87) (selected (at3 1 92) "Ada" (at3 1 95) (at3 1
    96) "Unchecked_Deallocation") [] (at3 1 118) ∷ []) (subprogram_of (at3 2 4) (subspec.Procedure (at3 2 4) (id (at3 2
    14) "Main") None) None (at3 2 19) (item.IncompleteType (at3 3 4) (id (at3 3 9) "Cell") (at3 3 13) ∷ item.AccessType
    (at3 4 4) (id (at3 4 9) "List") (at3 4 14) (at3 4 17) (mark (at3 4 24) "Cell") (at3 4 28) ∷ item.RecordType (at3 5
    1) (id (at3 5 6) "Cell") (at3 5 11) (at3 5 14) (fields_of (id (at3 5 21) "Value") [] (at3 5 27) (mark (at3 5 29)
    "Integer") (at3 5 36)) (fields_of (id (at3 5 38) "Next") [] (at3 5 43) (mark (at3 5 45) "List") (at3 5 49) ∷ [])
    (at3 5 51) (at3 5 55) (at3 5 61) ∷ objects_of (id (at3 6 1) "X") (next_id_of (at3 6 2) (at3 6 4) "Y" ∷ []) (at3 6 6)
    None (indication_of (mark (at3 6 8) "List")) (at3 6 12) ∷ initialized_of (id (at3 7 7) "N") [] (at3 7 9) None
    (indication_of (mark (at3 7 11) "Integer")) (at3 7 19) (expr_of (at3 7 22) (primary.Number (at3 7 22) 2)) (at3 7 23)
    ∷ []) (at3 8 4) (stmts.Sequence (at3 9 1) (assign_of (at3 9 1) "N" [] (at3 9 3) (expr.LoneRelation (at3 9 6)
    (rel.LoneSum (at3 9 6) (sum.Unsigned (at3 9 6) (term.Product (at3 9 6) (factor_of (at3 9 6) (object (at3 9 6) "N"))
    (next_factor.FurtherFactor (at3 9 8) multiplying.Multiply (factor_of (at3 9 10) (primary.Number (at3 9 10) 2)) ∷
    [])) (next_term.FurtherTerm (at3 9 12) adding.Add (term_of (at3 9 14) (primary.Number (at3 9 14) 1)) ∷ [])))) (at3 9
    15)) (stmt.Case (at3 10 1) (expr_of (at3 10 6) (object (at3 10 6) "N")) (at3 10 8) (alternative.Alternative (at3 10
    11) (choice.Value (at3 10 16) (expr_of (at3 10 16) (primary.Number (at3 10 16) 1))) [] (at3 10 18) (sole (at3 10 21)
    (stmt.Null (at3 10 21) (at3 10 25)))) (alternative.Alternative (at3 10 27) (choice.Others (at3 10 32)) [] (at3 10
    39) (sole (at3 10 42) (assign_of (at3 10 42) "N" [] (at3 10 44) (expr_of (at3 10 47) (primary.Number (at3 10 47) 2))
    (at3 10 48))) ∷ []) (at3 10 50) (at3 10 54) (at3 10 58) ∷ stmt.IfElse (at3 11 4) (expr.LoneRelation (at3 11 7)
    (rel.Compared (at3 11 7) (sum_of (at3 11 7) (object (at3 11 7) "N")) relational.Greater (at3 11 9) (sum_of (at3 11
    11) (primary.Number (at3 11 11) 3)))) (at3 11 13) (sole (at3 11 18) (assign_of (at3 11 18) "N" [] (at3 11 20)
    (expr.LoneRelation (at3 11 23) (rel.LoneSum (at3 11 23) (sum.Unsigned (at3 11 23) (term_of (at3 11 23) (object (at3
    11 23) "N")) (next_term.FurtherTerm (at3 11 25) adding.Subtract (term_of (at3 11 27) (primary.Number (at3 11 27) 1))
    ∷ [])))) (at3 11 28))) [] (at3 11 30) (sole (at3 11 35) (stmt.Null (at3 11 35) (at3 11 39))) (at3 11 41) (at3 11 45)
    (at3 11 47) ∷ [])) (at3 12 1) (Some (id (at3 12 5) "Main")) (at3 12 9)) ∷ []) ∷ [])
unfolding computes resolves
two_n2_9 = refl

two_n2_17 : IsFirstBrokenOf Twice (at1 2 63) ((unit.OfPackage (at 1 1) (context.With (at 1 1) (selected (at 1 6) "Ada"
    (at 1 9) (at 1 10) "Text_IO") [] (at 1 17) ∷ use_context (use_of (at 1 19) None (selected (at 1 23) "Ada" (at 1 26)
    (at 1 27) "Text_IO") [] (at 1 34)) ∷ context.With (at 1 36) (selected (at 1 41) "Ada" (at 1 44) (at 1 45)
    "Integer_Text_IO") [] (at 1 60) ∷ use_context (use_of (at 1 62) None (selected (at 1 66) "Ada" (at 1 69) (at 1 70)
    "Integer_Text_IO") [] (at 1 85)) ∷ context.With (at 1 87) (selected (at 1 92) "Ada" (at 1 95) (at 1 96)
    "Unchecked_Deallocation") [] (at 1 118) ∷ []) (package_of (at 1 120) (id (at 1 128) "Former_P") None (at 1 137)
    (decl.Subprogram (at 2 1) (subspec.Function (at 2 1) (id (at 2 10) "Former_F") (Some (formals_of (at 2 19) (moded_of
    (id (at 2 20) "Former_X") [] (at 2 29) None None (mark (at 2 31) "Integer")) [] (at 2 38))) (at 2 40) (indication_of
    (mark (at 2 47) "Integer"))) None (at 2 54) ∷ []) None (at 3 1) (Some (id (at 3 5) "Former_P")) (at 3 13)) ∷ []) ∷
    (unit.OfBody (at1 1 1) [] (package_body_of (at1 1 1) (at1 1 9) (id (at1 1 14) "Former_P") None (at1 1 23)
    (part.Completed (at1 2 1) (subprogram_of (at1 2 1) (subspec.Function (at1 2 1) (id (at1 2 10) "Former_F") (Some
    (formals_of (at1 2 19) (moded_of (id (at1 2 20) "Former_X") [] (at1 2 29) None None (mark (at1 2 31) "Integer")) []
    (at1 2 38))) (at1 2 40) (indication_of (mark (at1 2 47) "Integer"))) None (at1 2 55) (item.EnumerationType (at1 2
    58) (id (at1 2 63) "Former_X") (at1 2 72) (at1 2 75) (id (at1 2 76) "Former_A") (next_id_of (at1 2 84) (at1 2 86)
    "Former_B" ∷ []) (at1 2 94) (at1 2 95) ∷ []) (at1 2 97) (sole (at1 2 103) (stmt.ReturnValue (at1 2 103) (expr_of
    (at1 2 110) (primary.Number (at1 2 110) 1)) (at1 2 111))) (at1 2 113) (Some (id (at1 2 117) "Former_F")) (at1 2
    125)) ∷ []) (at1 3 1) (Some (id (at1 3 5) "Former_P")) (at1 3 13)) ∷ []) ∷ (unit.OfPackage (at2 1 1) (context.With
    (at2 1 1) (selected (at2 1 6) "Ada" (at2 1 9) (at2 1 10) "Text_IO") [] (at2 1 17) ∷ use_context (use_of (at2 1 19)
    None (selected (at2 1 23) "Ada" (at2 1 26) (at2 1 27) "Text_IO") [] (at2 1 34)) ∷ context.With (at2 1 36) (selected
    (at2 1 41) "Ada" (at2 1 44) (at2 1 45) "Integer_Text_IO") [] (at2 1 60) ∷ use_context (use_of (at2 1 62) None
    (selected (at2 1 66) "Ada" (at2 1 69) (at2 1 70) "Integer_Text_IO") [] (at2 1 85)) ∷ context.With (at2 1 87)
    (selected (at2 1 92) "Ada" (at2 1 95) (at2 1 96) "Unchecked_Deallocation") [] (at2 1 118) ∷ []) (package_of (at2 2
    1) (id (at2 2 9) "Store") None (at2 2 15) (decl.OfItem (at2 3 1) (item.IncompleteType (at2 3 1) (id (at2 3 6)
    "Cell") (at2 3 10)) ∷ decl.OfItem (at2 3 12) (item.AccessType (at2 3 12) (id (at2 3 17) "Minor_P") (at2 3 25) (at2 3
    28) (mark (at2 3 35) "Minor_C") (at2 3 42)) ∷ decl.OfItem (at2 3 44) (item.RecordType (at2 3 44) (id (at2 3 49)
    "Minor_C") (at2 3 57) (at2 3 60) (fields_of (id (at2 3 67) "Minor_F") [] (at2 3 75) (mark (at2 3 77) "Integer") (at2
    3 84)) [] (at2 3 86) (at2 3 90) (at2 3 96)) ∷ decl.OfItem (at2 4 1) (item.AccessType (at2 4 1) (id (at2 4 6) "List")
    (at2 4 11) (at2 4 14) (mark (at2 4 21) "Cell") (at2 4 25)) ∷ decl.OfItem (at2 5 1) (item.RecordType (at2 5 1) (id
    (at2 5 6) "Cell") (at2 5 11) (at2 5 14) (fields_of (id (at2 5 21) "Value") [] (at2 5 27) (mark (at2 5 29) "Integer")
    (at2 5 36)) (fields_of (id (at2 5 38) "Next") [] (at2 5 43) (mark (at2 5 45) "List") (at2 5 49) ∷ []) (at2 5 51)
    (at2 5 55) (at2 5 61)) ∷ decl.Subprogram (at2 6 1) (subspec.Procedure (at2 6 1) (id (at2 6 11) "Push") (Some
    (formals_of (at2 6 16) (moded_of (id (at2 6 17) "L") [] (at2 6 19) (Some (at2 6 21)) (Some (at2 6 24)) (mark (at2 6
    28) "List")) (next_formal.Semicolon (at2 6 32) (moded_of (id (at2 6 34) "V") [] (at2 6 36) None None (mark (at2 6
    38) "Integer")) ∷ []) (at2 6 45)))) None (at2 6 46) ∷ decl.Subprogram (at2 7 1) (subspec.Function (at2 7 1) (id (at2
    7 10) "Sum") (Some (formals_of (at2 7 14) (moded_of (id (at2 7 15) "L") [] (at2 7 17) None None (mark (at2 7 19)
    "List")) [] (at2 7 23))) (at2 7 25) (indication_of (mark (at2 7 32) "Integer"))) None (at2 7 39) ∷ decl.OfItem (at2
    8 1) (objects_of (id (at2 8 1) "Total") [] (at2 8 7) None (indication_of (mark (at2 8 9) "Integer")) (at2 8 16)) ∷
    []) None (at2 9 1) (Some (id (at2 9 5) "Store")) (at2 9 10)) ∷ []) ∷ (unit.OfBody (at3 1 1) [] (package_body_of (at3
    1 1) (at3 1 9) (id (at3 1 14) "Store") None (at3 1 20) (part.Completed (at3 2 1) (subprogram_of (at3 2 1)
    (subspec.Procedure (at3 2 1) (id (at3 2 11) "Push") (Some (formals_of (at3 2 16) (moded_of (id (at3 2 17) "L") []
    (at3 2 19) (Some (at3 2 21)) (Some (at3 2 24)) (mark (at3 2 28) "List")) (next_formal.Semicolon (at3 2 32) (moded_of
    (id (at3 2 34) "V") [] (at3 2 36) None None (mark (at3 2 38) "Integer")) ∷ []) (at3 2 45)))) None (at3 2 47) [] (at3
    3 1) (sole (at3 4 1) (assign_of (at3 4 1) "L" [] (at3 4 3) (expr_of (at3 4 6) (primary.AllocatedAggregate (at3 4 6)
    (mark (at3 4 10) "Cell") (at3 4 14) (aggregate.Several (at3 4 15) (actual_of (at3 4 16) (object (at3 4 16) "V"))
    (at3 4 17) (actual_of (at3 4 19) (object (at3 4 19) "L")) [] (at3 4 20)))) (at3 4 21))) (at3 5 1) (Some (id (at3 5
    5) "Push")) (at3 5 9)) ∷ part.Completed (at3 6 1) (subprogram_of (at3 6 1) (subspec.Function (at3 6 1) (id (at3 6
    10) "Sum") (Some (formals_of (at3 6 14) (moded_of (id (at3 6 15) "L") [] (at3 6 17) None None (mark (at3 6 19)
    "List")) [] (at3 6 23))) (at3 6 25) (indication_of (mark (at3 6 32) "Integer"))) None (at3 6 40) (initialized_of (id
    (at3 7 1) "C") [] (at3 7 3) None (indication.Anonymous (at3 7 5) (Some (at3 7 12)) (mark (at3 7 21) "Cell")) (at3 7
    26) (expr_of (at3 7 29) (object (at3 7 29) "L")) (at3 7 30) ∷ initialized_of (id (at3 8 1) "N") [] (at3 8 3) None
    (indication_of (mark (at3 8 5) "Integer")) (at3 8 13) (expr_of (at3 8 16) (primary.Number (at3 8 16) 0)) (at3 8 17)
    ∷ []) (at3 9 1) (stmts.Sequence (at3 10 1) (stmt.While (at3 10 1) (expr.LoneRelation (at3 10 7) (rel.Compared (at3
    10 7) (sum_of (at3 10 7) (object (at3 10 7) "C")) relational.NotEqual (at3 10 9) (sum_of (at3 10 12) (primary.Null
    (at3 10 12))))) (at3 10 17) (stmts.Sequence (at3 10 22) (assign_of (at3 10 22) "N" [] (at3 10 24) (expr.LoneRelation
    (at3 10 27) (rel.LoneSum (at3 10 27) (sum.Unsigned (at3 10 27) (term_of (at3 10 27) (object (at3 10 27) "N"))
    (next_term.FurtherTerm (at3 10 29) adding.Add (term_of (at3 10 31) (named (at3 10 31) "C" (suffix.Selected (at3 10
    32) (id (at3 10 33) "Value") ∷ []))) ∷ [])))) (at3 10 38)) (assign_of (at3 10 40) "C" [] (at3 10 42) (expr_of (at3
    10 45) (named (at3 10 45) "C" (suffix.Selected (at3 10 46) (id (at3 10 47) "Next") ∷ []))) (at3 10 51) ∷ [])) (at3
    10 53) (at3 10 57) (at3 10 61)) (stmt.ReturnValue (at3 11 1) (expr_of (at3 11 8) (object (at3 11 8) "N")) (at3 11 9)
    ∷ [])) (at3 12 1) (Some (id (at3 12 5) "Sum")) (at3 12 8)) ∷ []) (at3 13 1) (Some (id (at3 13 5) "Store")) (at3 13
    10)) ∷ []) ∷ (unit.OfSubprogram (at4 1 1) (context.With (at4 1 1) (selected (at4 1 6) "Ada" (at4 1 9) (at4 1 10)
    "Text_IO") [] (at4 1 17) ∷ use_context (use_of (at4 1 19) None (selected (at4 1 23) "Ada" (at4 1 26) (at4 1 27)
    "Text_IO") [] (at4 1 34)) ∷ context.With (at4 1 36) (selected (at4 1 41) "Ada" (at4 1 44) (at4 1 45)
    "Integer_Text_IO") [] (at4 1 60) ∷ use_context (use_of (at4 1 62) None (selected (at4 1 66) "Ada" (at4 1 69) (at4 1
    70) "Integer_Text_IO") [] (at4 1 85)) ∷ context.With (at4 1 87) (selected (at4 1 92) "Ada" (at4 1 95) (at4 1 96)
    "Unchecked_Deallocation") [] (at4 1 118) ∷ context.With (at4 1 120) (mark (at4 1 125) "Store") [] (at4 1 130) ∷
    use_context (use_of (at4 1 132) None (mark (at4 1 136) "Store") [] (at4 1 141)) ∷ []) (subprogram_of (at4 2 1)
    (subspec.Procedure (at4 2 1) (id (at4 2 11) "Main") None) None (at4 2 16) (objects_of (id (at4 3 1) "X") (next_id_of
    (at4 3 2) (at4 3 4) "Y" ∷ []) (at4 3 6) None (indication_of (mark (at4 3 8) "List")) (at4 3 12) ∷ initialized_of (id
    (at4 4 1) "N") [] (at4 4 3) None (indication_of (mark (at4 4 5) "Integer")) (at4 4 13) (expr_of (at4 4 16)
    (primary.Number (at4 4 16) 1)) (at4 4 17) ∷ item.Instance (at4 5 1) (id (at4 5 11) "Free") (at4 5 16) (at4 5 19)
    (selected (at4 5 23) "Ada" (at4 5 26) (at4 5 27) "Unchecked_Deallocation") (at4 5 50) (actual_of (at4 5 51) (object
    (at4 5 51) "Cell")) (next_arg.FurtherArg (at4 5 55) (actual_of (at4 5 57) (object (at4 5 57) "List")) ∷ []) (at4 5
    61) (at4 5 62) ∷ []) (at4 6 1) (stmts.Sequence (at4 7 1) (stmt.DeclareBlock (at4 7 1) (initialized_of (id (at4 7 9)
    "B") [] (at4 7 11) None (indication.Anonymous (at4 7 13) None (mark (at4 7 20) "Cell")) (at4 7 25) (expr_of (at4 7
    28) (object (at4 7 28) "X")) (at4 7 29) ∷ []) (at4 7 31) (sole (at4 7 37) (stmt.If (at4 7 37) (expr.LoneRelation
    (at4 7 40) (rel.Compared (at4 7 40) (sum_of (at4 7 40) (object (at4 7 40) "B")) relational.NotEqual (at4 7 42)
    (sum_of (at4 7 45) (primary.Null (at4 7 45))))) (at4 7 50) (sole (at4 7 55) (assign_of (at4 7 55) "B"
    (suffix.Selected (at4 7 56) (id (at4 7 57) "Value") ∷ []) (at4 7 63) (expr_of (at4 7 66) (object (at4 7 66) "N"))
    (at4 7 67))) [] (at4 7 69) (at4 7 73) (at4 7 75))) (at4 7 77) (at4 7 80)) (assign_of (at4 8 1) "N" [] (at4 8 3)
    (expr.LoneRelation (at4 8 6) (rel.LoneSum (at4 8 6) (sum.Unsigned (at4 8 6) (term.Product (at4 8 6) (factor_of (at4
    8 6) (object (at4 8 6) "N")) (next_factor.FurtherFactor (at4 8 8) multiplying.Multiply (factor_of (at4 8 10)
    (primary.Number (at4 8 10) 2)) ∷ [])) (next_term.FurtherTerm (at4 8 12) adding.Add (term_of (at4 8 14)
    (primary.Number (at4 8 14) 1)) ∷ [])))) (at4 8 15) ∷ [])) (at4 9 1) (Some (id (at4 9 5) "Main")) (at4 9 9)) ∷ []) ∷
    [])
unfolding computes resolves
two_n2_17 = refl
