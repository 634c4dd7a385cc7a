-- A second declaration of a name in a region: N2.
--
-- tools/tree_terms.py makes this of the sources that data/cases.txt has under its name.
use Rattle.std.proofs.Common.{refl, [], ◌∷◌}
use Rattle.std.specs.Prelude.{None, Some, codes}
use Rattle.ada_tree.specs.declared.operator.AddingOperator.TheVariants as adding
use Rattle.ada_tree.specs.declared.expression.Aggregate.TheVariants as aggregate
use Rattle.ada_tree.specs.declared.statement.When.TheVariants as alternative
use Rattle.ada_tree.specs.declared.expression.Arg.TheVariants as arg
use Rattle.ada_tree.specs.declared.range.Choice.TheVariants as choice
use Rattle.ada_tree.specs.declared.unit.Context.TheVariants as context
use Rattle.ada_tree.specs.declared.subprogram.Decl.TheVariants as decl
use Rattle.ada_tree.specs.declared.expression.Expr.TheVariants as expr
use Rattle.ada_tree.specs.declared.expression.Factor.TheVariants as factor
use Rattle.ada_tree.specs.declared.declaration.Indication.TheVariants as indication
use Rattle.ada_tree.specs.declared.declaration.Item.TheVariants as item
use Rattle.ada_tree.specs.declared.operator.MultiplyingOperator.TheVariants as multiplying
use Rattle.ada_tree.specs.declared.expression.NextArg.TheVariants as next_arg
use Rattle.ada_tree.specs.declared.range.NextChoice.TheVariants as next_choice
use Rattle.ada_tree.specs.declared.identifier.NextDotted.TheVariants as next_dotted
use Rattle.ada_tree.specs.declared.expression.NextFactor.TheVariants as next_factor
use Rattle.ada_tree.specs.declared.subprogram.NextFormal.TheVariants as next_formal
use Rattle.ada_tree.specs.declared.expression.NextTerm.TheVariants as next_term
use Rattle.ada_tree.specs.declared.unit.BodyPart.TheVariants as part
use Rattle.ada_tree.specs.declared.expression.Primary.TheVariants as primary
use Rattle.ada_tree.specs.declared.range.Range.TheVariants as range
use Rattle.ada_tree.specs.declared.expression.Rel.TheVariants as rel
use Rattle.ada_tree.specs.declared.operator.RelationalOperator.TheVariants as relational
use Rattle.ada_tree.specs.declared.operator.Sign.TheVariants as sign
use Rattle.ada_tree.specs.declared.statement.Stmt.TheVariants as stmt
use Rattle.ada_tree.specs.declared.statement.Stmts.TheVariants as stmts
use Rattle.ada_tree.specs.declared.subprogram.Subspec.TheVariants as subspec
use Rattle.ada_tree.specs.declared.expression.Suffix.TheVariants as suffix
use Rattle.ada_tree.specs.declared.expression.Sum.TheVariants as sum
use Rattle.ada_tree.specs.declared.expression.Term.TheVariants as term
use Rattle.ada_tree.specs.declared.unit.SourceUnit.TheVariants as unit
use Rattle.ada_grammar.proofs.SmallSources.{computes}
use Rattle.name_events.specs.declared.declaration.NameRule.TheVariants.{Twice}
use Rattle.name_tests.proofs.SmallRules.{resolves}
use Rattle.name_tests.proofs.SourceTrees.{IsFirstBrokenOf, actual_of, assign_of, association_of, at, call_of, constrained_of, expr_of, factor_of, fields_of, formals_of, id, indication_of, initialized_of, mark, moded_of, named, next_id_of, numbers_of, object, objects_of, package_body_of, package_of, rel_of, selected, sole, subprogram_of, sum_of, term_of, use_context, use_of}

-- Small sources: in a region, and of units.
small_n2_4 : IsFirstBrokenOf Twice (at 1 43) ((unit.OfSubprogram (at 1 1) [] (subprogram_of (at 1 1) (subspec.Procedure
    (at 1 1) (id (at 1 11) "Main") None) None (at 1 16) (objects_of (id (at 1 19) "A") [] (at 1 21) None (indication_of
    (mark (at 1 23) "Integer")) (at 1 30) ∷ item.EnumerationType (at 1 32) (id (at 1 37) "E") (at 1 39) (at 1 42) (id
    (at 1 43) "A") (next_id_of (at 1 44) (at 1 46) "B" ∷ []) (at 1 47) (at 1 48) ∷ []) (at 1 50) (sole (at 1 56)
    (stmt.Null (at 1 56) (at 1 60))) (at 1 62) (Some (id (at 1 66) "Main")) (at 1 70)) ∷ []) ∷ [])
unfolding computes resolves
small_n2_4 = refl

small_n2_5 : IsFirstBrokenOf Twice (at 1 45) ((unit.OfSubprogram (at 1 1) [] (subprogram_of (at 1 1) (subspec.Procedure
    (at 1 1) (id (at 1 11) "A") None) None (at 1 13) [] (at 1 16) (sole (at 1 22) (stmt.Null (at 1 22) (at 1 26))) (at 1
    28) (Some (id (at 1 32) "A")) (at 1 33)) ∷ unit.OfSubprogram (at 1 35) [] (subprogram_of (at 1 35)
    (subspec.Procedure (at 1 35) (id (at 1 45) "B") None) None (at 1 47) [] (at 1 50) (sole (at 1 56) (stmt.Null (at 1
    56) (at 1 60))) (at 1 62) (Some (id (at 1 66) "B")) (at 1 67)) ∷ []) ∷ [])
unfolding computes resolves
small_n2_5 = refl

small_n2_6 : IsFirstBrokenOf Twice (at 1 10) ((unit.OfSubprogram (at 1 1) [] (subprogram_of (at 1 1) (subspec.Function
    (at 1 1) (id (at 1 10) "F") None (at 1 12) (indication_of (mark (at 1 19) "Integer"))) None (at 1 27) [] (at 1 30)
    (sole (at 1 36) (stmt.ReturnValue (at 1 36) (expr_of (at 1 43) (primary.Number (at 1 43) 1)) (at 1 44))) (at 1 46)
    (Some (id (at 1 50) "F")) (at 1 51)) ∷ []) ∷ [])
unfolding computes resolves
small_n2_6 = refl

small_n2_7 : IsFirstBrokenOf Twice (at 1 29) ((unit.OfPackage (at 1 1) [] (package_of (at 1 1) (id (at 1 9) "P") None
    (at 1 11) [] None (at 1 14) (Some (id (at 1 18) "P")) (at 1 19)) ∷ unit.OfPackage (at 1 21) [] (package_of (at 1 21)
    (id (at 1 29) "P") None (at 1 31) [] None (at 1 34) (Some (id (at 1 38) "P")) (at 1 39)) ∷ []) ∷ [])
unfolding computes resolves
small_n2_7 = refl

small_n2_8 : IsFirstBrokenOf Twice (at 1 40) ((unit.OfPackage (at 1 1) [] (package_of (at 1 1) (id (at 1 9) "P") None
    (at 1 11) (decl.Subprogram (at 1 14) (subspec.Procedure (at 1 14) (id (at 1 24) "A") (Some (formals_of (at 1 26)
    (moded_of (id (at 1 27) "X") [] (at 1 29) None None (mark (at 1 31) "Integer")) (next_formal.Semicolon (at 1 38)
    (moded_of (id (at 1 40) "X") [] (at 1 42) None None (mark (at 1 44) "Integer")) ∷ []) (at 1 51)))) None (at 1 52) ∷
    []) None (at 1 54) (Some (id (at 1 58) "P")) (at 1 59)) ∷ unit.OfBody (at 1 61) [] (package_body_of (at 1 61) (at 1
    69) (id (at 1 74) "P") None (at 1 76) (part.Completed (at 1 79) (subprogram_of (at 1 79) (subspec.Procedure (at 1
    79) (id (at 1 89) "A") (Some (formals_of (at 1 91) (moded_of (id (at 1 92) "X") [] (at 1 94) None None (mark (at 1
    96) "Integer")) (next_formal.Semicolon (at 1 103) (moded_of (id (at 1 105) "X") [] (at 1 107) None None (mark (at 1
    109) "Integer")) ∷ []) (at 1 116)))) None (at 1 118) [] (at 1 121) (sole (at 1 127) (stmt.Null (at 1 127) (at 1
    131))) (at 1 133) (Some (id (at 1 137) "A")) (at 1 138)) ∷ []) (at 1 140) (Some (id (at 1 144) "P")) (at 1 145)) ∷
    []) ∷ [])
unfolding computes resolves
small_n2_8 = refl

-- Two declarations of any kind.
twice_1 : IsFirstBrokenOf Twice (at 4 83) ((unit.OfSubprogram (at 1 1) (context.With (at 1 1) (selected (at 1 6) "Ada"
    (at 1 9) (at 1 10) "Text_IO") [] (at 1 17) ∷ use_context (use_of (at 1 19) None (selected (at 1 23) "Ada" (at 1 26)
    (at 1 27) "Text_IO") [] (at 1 34)) ∷ context.With (at 1 36) (selected (at 1 41) "Ada" (at 1 44) (at 1 45)
    "Integer_Text_IO") [] (at 1 60) ∷ use_context (use_of (at 1 62) None (selected (at 1 66) "Ada" (at 1 69) (at 1 70)
    "Integer_Text_IO") [] (at 1 85)) ∷ context.With (at 1 87) (selected (at 1 92) "Ada" (at 1 95) (at 1 96)
    "Unchecked_Deallocation") [] (at 1 118) ∷ []) (subprogram_of (at 2 1) (subspec.Procedure (at 2 1) (id (at 2 11)
    "Main") None) None (at 2 16) (item.IncompleteType (at 2 19) (id (at 2 24) "Cell") (at 2 28) ∷ item.AccessType (at 3
    1) (id (at 3 6) "List") (at 3 11) (at 3 14) (mark (at 3 21) "Cell") (at 3 25) ∷ item.RecordType (at 4 1) (id (at 4
    6) "Cell") (at 4 11) (at 4 14) (fields_of (id (at 4 21) "Value") [] (at 4 27) (mark (at 4 29) "Integer") (at 4 36))
    (fields_of (id (at 4 38) "Next") [] (at 4 43) (mark (at 4 45) "List") (at 4 49) ∷ []) (at 4 51) (at 4 55) (at 4 61)
    ∷ objects_of (id (at 4 63) "Second_X") [] (at 4 72) None (indication_of (mark (at 4 74) "Integer")) (at 4 81) ∷
    objects_of (id (at 4 83) "Second_X") [] (at 4 92) None (indication_of (mark (at 4 94) "Integer")) (at 4 101) ∷
    objects_of (id (at 4 103) "X") (next_id_of (at 4 104) (at 4 106) "Y" ∷ []) (at 4 108) None (indication_of (mark (at
    4 110) "List")) (at 4 114) ∷ initialized_of (id (at 4 116) "N") [] (at 4 118) None (indication_of (mark (at 4 120)
    "Integer")) (at 4 128) (expr_of (at 4 131) (primary.Number (at 4 131) 9)) (at 4 132) ∷ []) (at 5 1) (stmts.Sequence
    (at 5 7) (assign_of (at 5 7) "N" [] (at 5 9) (expr.LoneRelation (at 5 12) (rel.LoneSum (at 5 12) (sum.Unsigned (at 5
    12) (term.Product (at 5 12) (factor_of (at 5 12) (object (at 5 12) "N")) (next_factor.FurtherFactor (at 5 14)
    multiplying.Multiply (factor_of (at 5 16) (primary.Number (at 5 16) 2)) ∷ [])) (next_term.FurtherTerm (at 5 18)
    adding.Add (term_of (at 5 20) (primary.Number (at 5 20) 1)) ∷ [])))) (at 5 21)) (assign_of (at 5 23) "Y" [] (at 5
    25) (expr_of (at 5 28) (object (at 5 28) "X")) (at 5 29) ∷ assign_of (at 5 31) "X" [] (at 5 33) (expr_of (at 5 36)
    (primary.Null (at 5 36))) (at 5 40) ∷ stmt.Case (at 5 42) (expr_of (at 5 47) (object (at 5 47) "N")) (at 5 49)
    (alternative.Alternative (at 5 52) (choice.Value (at 5 57) (expr_of (at 5 57) (primary.Number (at 5 57) 1))) [] (at
    5 59) (sole (at 5 62) (stmt.Null (at 5 62) (at 5 66)))) (alternative.Alternative (at 5 68) (choice.Others (at 5 73))
    [] (at 5 80) (sole (at 5 83) (assign_of (at 5 83) "N" [] (at 5 85) (expr_of (at 5 88) (primary.Number (at 5 88) 2))
    (at 5 89))) ∷ []) (at 5 91) (at 5 95) (at 5 99) ∷ stmt.DeclareBlock (at 6 1) (initialized_of (id (at 6 9) "B") []
    (at 6 11) None (indication.Anonymous (at 6 13) None (mark (at 6 20) "Cell")) (at 6 25) (expr_of (at 6 28) (object
    (at 6 28) "X")) (at 6 29) ∷ []) (at 6 31) (sole (at 6 37) (stmt.If (at 6 37) (expr.LoneRelation (at 6 40)
    (rel.Compared (at 6 40) (sum_of (at 6 40) (object (at 6 40) "B")) relational.NotEqual (at 6 42) (sum_of (at 6 45)
    (primary.Null (at 6 45))))) (at 6 50) (sole (at 6 55) (assign_of (at 6 55) "B" (suffix.Selected (at 6 56) (id (at 6
    57) "Value") ∷ []) (at 6 63) (expr_of (at 6 66) (object (at 6 66) "N")) (at 6 67))) [] (at 6 69) (at 6 73) (at 6
    75))) (at 6 77) (at 6 80) ∷ stmt.If (at 6 82) (expr.LoneRelation (at 6 85) (rel.LoneSum (at 6 85) (sum.Unsigned (at
    6 85) (term.Product (at 6 85) (factor.Not (at 6 85) (object (at 6 89) "End_Of_File")) []) []))) (at 6 101) (sole (at
    6 106) (call_of (at 6 106) "Get" (suffix.Applied (at 6 110) (actual_of (at 6 111) (object (at 6 111) "N")) [] (at 6
    112) ∷ []) (at 6 113))) [] (at 6 115) (at 6 119) (at 6 121) ∷ [])) (at 7 1) (Some (id (at 7 5) "Main")) (at 7 9)) ∷
    []) ∷ [])
unfolding computes resolves
twice_1 = refl

twice_2 : IsFirstBrokenOf Twice (at 7 49) ((unit.OfSubprogram (at 1 1) (context.With (at 1 1) (selected (at 1 6) "Ada"
    (at 1 9) (at 1 10) "Text_IO") [] (at 1 17) ∷ use_context (use_of (at 1 19) None (selected (at 1 23) "Ada" (at 1 26)
    (at 1 27) "Text_IO") [] (at 1 34)) ∷ context.With (at 1 36) (selected (at 1 41) "Ada" (at 1 44) (at 1 45)
    "Integer_Text_IO") [] (at 1 60) ∷ use_context (use_of (at 1 62) None (selected (at 1 66) "Ada" (at 1 69) (at 1 70)
    "Integer_Text_IO") [] (at 1 85)) ∷ context.With (at 1 87) (selected (at 1 92) "Ada" (at 1 95) (at 1 96)
    "Unchecked_Deallocation") [] (at 1 118) ∷ []) (subprogram_of (at 2 1) (subspec.Procedure (at 2 1) (id (at 2 11)
    "Main") None) None (at 2 16) (item.IncompleteType (at 3 4) (id (at 3 9) "Cell") (at 3 13) ∷ item.AccessType (at 4 4)
    (id (at 4 9) "List") (at 4 14) (at 4 17) (mark (at 4 24) "Cell") (at 4 28) ∷ item.RecordType (at 5 7) (id (at 5 12)
    "Cell") (at 5 17) (at 5 20) (fields_of (id (at 5 27) "Value") [] (at 5 33) (mark (at 5 35) "Integer") (at 5 42))
    (fields_of (id (at 5 44) "Next") [] (at 5 49) (mark (at 5 51) "List") (at 5 55) ∷ []) (at 5 57) (at 5 61) (at 5 67)
    ∷ objects_of (id (at 6 4) "X") (next_id_of (at 6 5) (at 6 7) "Y" ∷ []) (at 6 9) None (indication_of (mark (at 6 11)
    "List")) (at 6 15) ∷ initialized_of (id (at 7 7) "N") [] (at 7 9) None (indication_of (mark (at 7 11) "Integer"))
    (at 7 19) (expr_of (at 7 22) (primary.Number (at 7 22) 6)) (at 7 23) ∷ objects_of (id (at 7 25) "Extra_X") [] (at 7
    33) None (indication_of (mark (at 7 35) "Integer")) (at 7 42) ∷ item.EnumerationType (at 7 44) (id (at 7 49)
    "Extra_X") (at 7 57) (at 7 60) (id (at 7 61) "Extra_A") (next_id_of (at 7 68) (at 7 70) "Extra_B" ∷ []) (at 7 77)
    (at 7 78) ∷ []) (at 8 7) (stmts.Sequence (at 9 7) (stmt.DeclareBlock (at 9 7) (initialized_of (id (at 9 15) "B") []
    (at 9 17) None (indication.Anonymous (at 9 19) None (mark (at 9 26) "Cell")) (at 9 31) (expr_of (at 9 34) (object
    (at 9 34) "X")) (at 9 35) ∷ []) (at 9 37) (sole (at 9 43) (stmt.If (at 9 43) (expr.LoneRelation (at 9 46)
    (rel.Compared (at 9 46) (sum_of (at 9 46) (object (at 9 46) "B")) relational.NotEqual (at 9 48) (sum_of (at 9 51)
    (primary.Null (at 9 51))))) (at 9 56) (sole (at 9 61) (assign_of (at 9 61) "B" (suffix.Selected (at 9 62) (id (at 9
    63) "Value") ∷ []) (at 9 69) (expr_of (at 9 72) (object (at 9 72) "N")) (at 9 73))) [] (at 9 75) (at 9 79) (at 9
    81))) (at 9 83) (at 9 86)) (assign_of (at 10 4) "N" [] (at 10 6) (expr.LoneRelation (at 10 9) (rel.LoneSum (at 10 9)
    (sum.Unsigned (at 10 9) (term.Product (at 10 9) (factor_of (at 10 9) (object (at 10 9) "N"))
    (next_factor.FurtherFactor (at 10 11) multiplying.Multiply (factor_of (at 10 13) (primary.Number (at 10 13) 2)) ∷
    [])) (next_term.FurtherTerm (at 10 15) adding.Add (term_of (at 10 17) (primary.Number (at 10 17) 1)) ∷ [])))) (at 10
    18) ∷ stmt.If (at 11 4) (expr.LoneRelation (at 11 7) (rel.LoneSum (at 11 7) (sum.Unsigned (at 11 7) (term.Product
    (at 11 7) (factor.Not (at 11 7) (object (at 11 11) "End_Of_File")) []) []))) (at 11 23) (sole (at 11 28) (call_of
    (at 11 28) "Get" (suffix.Applied (at 11 32) (actual_of (at 11 33) (object (at 11 33) "N")) [] (at 11 34) ∷ []) (at
    11 35))) [] (at 11 37) (at 11 41) (at 11 43) ∷ stmt.For (at 12 7) (id (at 12 11) "I") (at 12 13) None (range.Bounds
    (at 12 16) (expr_of (at 12 16) (primary.Number (at 12 16) 1)) (at 12 18) (expr_of (at 12 21) (primary.Number (at 12
    21) 3))) (at 12 23) (sole (at 12 28) (assign_of (at 12 28) "N" [] (at 12 30) (expr.LoneRelation (at 12 33)
    (rel.LoneSum (at 12 33) (sum.Unsigned (at 12 33) (term_of (at 12 33) (object (at 12 33) "N")) (next_term.FurtherTerm
    (at 12 35) adding.Add (term_of (at 12 37) (object (at 12 37) "I")) ∷ [])))) (at 12 38))) (at 12 40) (at 12 44) (at
    12 48) ∷ stmt.Case (at 13 7) (expr_of (at 13 12) (object (at 13 12) "N")) (at 13 14) (alternative.Alternative (at 13
    17) (choice.Value (at 13 22) (expr_of (at 13 22) (primary.Number (at 13 22) 1))) [] (at 13 24) (sole (at 13 27)
    (stmt.Null (at 13 27) (at 13 31)))) (alternative.Alternative (at 13 33) (choice.Others (at 13 38)) [] (at 13 45)
    (sole (at 13 48) (assign_of (at 13 48) "N" [] (at 13 50) (expr_of (at 13 53) (primary.Number (at 13 53) 2)) (at 13
    54))) ∷ []) (at 13 56) (at 13 60) (at 13 64) ∷ [])) (at 14 1) (Some (id (at 14 5) "Main")) (at 14 9)) ∷ []) ∷ [])
unfolding computes resolves
twice_2 = refl

twice_3 : IsFirstBrokenOf Twice (at 16 41) ((unit.OfPackage (at 1 1) (context.With (at 1 1) (selected (at 1 6) "Ada" (at
    1 9) (at 1 10) "Text_IO") [] (at 1 17) ∷ use_context (use_of (at 1 19) None (selected (at 1 23) "Ada" (at 1 26) (at
    1 27) "Text_IO") [] (at 1 34)) ∷ context.With (at 1 36) (selected (at 1 41) "Ada" (at 1 44) (at 1 45)
    "Integer_Text_IO") [] (at 1 60) ∷ use_context (use_of (at 1 62) None (selected (at 1 66) "Ada" (at 1 69) (at 1 70)
    "Integer_Text_IO") [] (at 1 85)) ∷ context.With (at 1 87) (selected (at 1 92) "Ada" (at 1 95) (at 1 96)
    "Unchecked_Deallocation") [] (at 1 118) ∷ []) (package_of (at 2 1) (id (at 2 9) "Store") None (at 2 15) (decl.OfItem
    (at 3 1) (item.IncompleteType (at 3 1) (id (at 3 6) "Cell") (at 3 10)) ∷ decl.OfItem (at 4 1) (item.AccessType (at 4
    1) (id (at 4 6) "List") (at 4 11) (at 4 14) (mark (at 4 21) "Cell") (at 4 25)) ∷ decl.OfItem (at 5 1)
    (item.RecordType (at 5 1) (id (at 5 6) "Cell") (at 5 11) (at 5 14) (fields_of (id (at 5 21) "Value") [] (at 5 27)
    (mark (at 5 29) "Integer") (at 5 36)) (fields_of (id (at 5 38) "Next") [] (at 5 43) (mark (at 5 45) "List") (at 5
    49) ∷ []) (at 5 51) (at 5 55) (at 5 61)) ∷ decl.Subprogram (at 6 1) (subspec.Procedure (at 6 1) (id (at 6 11)
    "Push") (Some (formals_of (at 6 16) (moded_of (id (at 6 17) "L") [] (at 6 19) (Some (at 6 21)) (Some (at 6 24))
    (mark (at 6 28) "List")) (next_formal.Semicolon (at 6 32) (moded_of (id (at 6 34) "V") [] (at 6 36) None None (mark
    (at 6 38) "Integer")) ∷ []) (at 6 45)))) None (at 6 46) ∷ decl.Subprogram (at 7 1) (subspec.Function (at 7 1) (id
    (at 7 10) "Sum") (Some (formals_of (at 7 14) (moded_of (id (at 7 15) "L") [] (at 7 17) None None (mark (at 7 19)
    "List")) [] (at 7 23))) (at 7 25) (indication_of (mark (at 7 32) "Integer"))) None (at 7 39) ∷ decl.OfItem (at 8 1)
    (objects_of (id (at 8 1) "Total") [] (at 8 7) None (indication_of (mark (at 8 9) "Integer")) (at 8 16)) ∷ []) None
    (at 9 1) (Some (id (at 9 5) "Store")) (at 9 10)) ∷ unit.OfBody (at 10 1) [] (package_body_of (at 10 1) (at 10 9) (id
    (at 10 14) "Store") None (at 10 20) (part.Completed (at 11 1) (subprogram_of (at 11 1) (subspec.Procedure (at 11 1)
    (id (at 11 11) "Push") (Some (formals_of (at 11 16) (moded_of (id (at 11 17) "L") [] (at 11 19) (Some (at 11 21))
    (Some (at 11 24)) (mark (at 11 28) "List")) (next_formal.Semicolon (at 11 32) (moded_of (id (at 11 34) "V") [] (at
    11 36) None None (mark (at 11 38) "Integer")) ∷ []) (at 11 45)))) None (at 11 47) [] (at 12 1) (sole (at 13 1)
    (assign_of (at 13 1) "L" [] (at 13 3) (expr_of (at 13 6) (primary.AllocatedAggregate (at 13 6) (mark (at 13 10)
    "Cell") (at 13 14) (aggregate.Several (at 13 15) (actual_of (at 13 16) (object (at 13 16) "V")) (at 13 17)
    (actual_of (at 13 19) (object (at 13 19) "L")) [] (at 13 20)))) (at 13 21))) (at 14 1) (Some (id (at 14 5) "Push"))
    (at 14 9)) ∷ part.Completed (at 15 1) (subprogram_of (at 15 1) (subspec.Function (at 15 1) (id (at 15 10) "Sum")
    (Some (formals_of (at 15 14) (moded_of (id (at 15 15) "L") [] (at 15 17) None None (mark (at 15 19) "List")) [] (at
    15 23))) (at 15 25) (indication_of (mark (at 15 32) "Integer"))) None (at 15 40) (initialized_of (id (at 16 1) "C")
    [] (at 16 3) None (indication.Anonymous (at 16 5) (Some (at 16 12)) (mark (at 16 21) "Cell")) (at 16 26) (expr_of
    (at 16 29) (object (at 16 29) "L")) (at 16 30) ∷ objects_of (id (at 16 32) "Extra_X") (next_id_of (at 16 39) (at 16
    41) "Extra_X" ∷ []) (at 16 49) None (indication_of (mark (at 16 51) "Integer")) (at 16 58) ∷ initialized_of (id (at
    17 1) "N") [] (at 17 3) None (indication_of (mark (at 17 5) "Integer")) (at 17 13) (expr_of (at 17 16)
    (primary.Number (at 17 16) 0)) (at 17 17) ∷ []) (at 18 1) (stmts.Sequence (at 19 1) (stmt.While (at 19 1)
    (expr.LoneRelation (at 19 7) (rel.Compared (at 19 7) (sum_of (at 19 7) (object (at 19 7) "C")) relational.NotEqual
    (at 19 9) (sum_of (at 19 12) (primary.Null (at 19 12))))) (at 19 17) (stmts.Sequence (at 19 22) (assign_of (at 19
    22) "N" [] (at 19 24) (expr.LoneRelation (at 19 27) (rel.LoneSum (at 19 27) (sum.Unsigned (at 19 27) (term_of (at 19
    27) (object (at 19 27) "N")) (next_term.FurtherTerm (at 19 29) adding.Add (term_of (at 19 31) (named (at 19 31) "C"
    (suffix.Selected (at 19 32) (id (at 19 33) "Value") ∷ []))) ∷ [])))) (at 19 38)) (assign_of (at 19 40) "C" [] (at 19
    42) (expr_of (at 19 45) (named (at 19 45) "C" (suffix.Selected (at 19 46) (id (at 19 47) "Next") ∷ []))) (at 19 51)
    ∷ [])) (at 19 53) (at 19 57) (at 19 61)) (stmt.ReturnValue (at 20 1) (expr_of (at 20 8) (object (at 20 8) "N")) (at
    20 9) ∷ [])) (at 21 1) (Some (id (at 21 5) "Sum")) (at 21 8)) ∷ []) (at 22 1) (Some (id (at 22 5) "Store")) (at 22
    10)) ∷ unit.OfSubprogram (at 23 1) (context.With (at 23 1) (selected (at 23 6) "Ada" (at 23 9) (at 23 10) "Text_IO")
    [] (at 23 17) ∷ use_context (use_of (at 23 19) None (selected (at 23 23) "Ada" (at 23 26) (at 23 27) "Text_IO") []
    (at 23 34)) ∷ context.With (at 23 36) (selected (at 23 41) "Ada" (at 23 44) (at 23 45) "Integer_Text_IO") [] (at 23
    60) ∷ use_context (use_of (at 23 62) None (selected (at 23 66) "Ada" (at 23 69) (at 23 70) "Integer_Text_IO") [] (at
    23 85)) ∷ context.With (at 23 87) (selected (at 23 92) "Ada" (at 23 95) (at 23 96) "Unchecked_Deallocation") [] (at
    23 118) ∷ context.With (at 23 120) (mark (at 23 125) "Store") [] (at 23 130) ∷ use_context (use_of (at 23 132) None
    (mark (at 23 136) "Store") [] (at 23 141)) ∷ []) (subprogram_of (at 24 1) (subspec.Procedure (at 24 1) (id (at 24
    11) "Main") None) None (at 24 16) (objects_of (id (at 25 1) "X") (next_id_of (at 25 2) (at 25 4) "Y" ∷ []) (at 25 6)
    None (indication_of (mark (at 25 8) "List")) (at 25 12) ∷ initialized_of (id (at 26 1) "N") [] (at 26 3) None
    (indication_of (mark (at 26 5) "Integer")) (at 26 13) (expr_of (at 26 16) (primary.Number (at 26 16) 8)) (at 26 17)
    ∷ []) (at 27 1) (stmts.Sequence (at 28 1) (assign_of (at 28 1) "N" [] (at 28 3) (expr.LoneRelation (at 28 6)
    (rel.LoneSum (at 28 6) (sum.Unsigned (at 28 6) (term.Product (at 28 6) (factor_of (at 28 6) (object (at 28 6) "N"))
    (next_factor.FurtherFactor (at 28 8) multiplying.Multiply (factor_of (at 28 10) (primary.Number (at 28 10) 2)) ∷
    [])) (next_term.FurtherTerm (at 28 12) adding.Add (term_of (at 28 14) (primary.Number (at 28 14) 1)) ∷ [])))) (at 28
    15)) (stmt.DeclareBlock (at 29 1) (initialized_of (id (at 29 9) "B") [] (at 29 11) None (indication.Anonymous (at 29
    13) None (mark (at 29 20) "Cell")) (at 29 25) (expr_of (at 29 28) (object (at 29 28) "X")) (at 29 29) ∷ []) (at 29
    31) (sole (at 29 37) (stmt.If (at 29 37) (expr.LoneRelation (at 29 40) (rel.Compared (at 29 40) (sum_of (at 29 40)
    (object (at 29 40) "B")) relational.NotEqual (at 29 42) (sum_of (at 29 45) (primary.Null (at 29 45))))) (at 29 50)
    (sole (at 29 55) (assign_of (at 29 55) "B" (suffix.Selected (at 29 56) (id (at 29 57) "Value") ∷ []) (at 29 63)
    (expr_of (at 29 66) (object (at 29 66) "N")) (at 29 67))) [] (at 29 69) (at 29 73) (at 29 75))) (at 29 77) (at 29
    80) ∷ assign_of (at 30 1) "X" [] (at 30 3) (expr_of (at 30 6) (primary.AllocatedAggregate (at 30 6) (mark (at 30 10)
    "Cell") (at 30 14) (aggregate.Several (at 30 15) (actual_of (at 30 16) (object (at 30 16) "N")) (at 30 17)
    (actual_of (at 30 19) (primary.Null (at 30 19))) [] (at 30 23)))) (at 30 24) ∷ [])) (at 31 1) (Some (id (at 31 5)
    "Main")) (at 31 9)) ∷ []) ∷ [])
unfolding computes resolves
twice_3 = refl

twice_4 : IsFirstBrokenOf Twice (at 26 47) ((unit.OfPackage (at 1 1) (context.With (at 1 1) (selected (at 1 6) "Ada" (at
    1 9) (at 1 10) "Text_IO") [] (at 1 17) ∷ use_context (use_of (at 1 19) None (selected (at 1 23) "Ada" (at 1 26) (at
    1 27) "Text_IO") [] (at 1 34)) ∷ context.With (at 1 36) (selected (at 1 41) "Ada" (at 1 44) (at 1 45)
    "Integer_Text_IO") [] (at 1 60) ∷ use_context (use_of (at 1 62) None (selected (at 1 66) "Ada" (at 1 69) (at 1 70)
    "Integer_Text_IO") [] (at 1 85)) ∷ context.With (at 1 87) (selected (at 1 92) "Ada" (at 1 95) (at 1 96)
    "Unchecked_Deallocation") [] (at 1 118) ∷ []) (package_of (at 2 1) (id (at 2 9) "Store") None (at 2 15) (decl.OfItem
    (at 3 1) (item.IncompleteType (at 3 1) (id (at 3 6) "Cell") (at 3 10)) ∷ decl.OfItem (at 4 7) (item.AccessType (at 4
    7) (id (at 4 12) "List") (at 4 17) (at 4 20) (mark (at 4 27) "Cell") (at 4 31)) ∷ decl.OfItem (at 5 1)
    (item.RecordType (at 5 1) (id (at 5 6) "Cell") (at 5 11) (at 5 14) (fields_of (id (at 5 21) "Value") [] (at 5 27)
    (mark (at 5 29) "Integer") (at 5 36)) (fields_of (id (at 5 38) "Next") [] (at 5 43) (mark (at 5 45) "List") (at 5
    49) ∷ []) (at 5 51) (at 5 55) (at 5 61)) ∷ decl.Subprogram (at 6 7) (subspec.Procedure (at 6 7) (id (at 6 17)
    "Push") (Some (formals_of (at 6 22) (moded_of (id (at 6 23) "L") [] (at 6 25) (Some (at 6 27)) (Some (at 6 30))
    (mark (at 6 34) "List")) (next_formal.Semicolon (at 6 38) (moded_of (id (at 6 40) "V") [] (at 6 42) None None (mark
    (at 6 44) "Integer")) ∷ []) (at 6 51)))) None (at 6 52) ∷ decl.Subprogram (at 7 1) (subspec.Function (at 7 1) (id
    (at 7 10) "Sum") (Some (formals_of (at 7 14) (moded_of (id (at 7 15) "L") [] (at 7 17) None None (mark (at 7 19)
    "List")) [] (at 7 23))) (at 7 25) (indication_of (mark (at 7 32) "Integer"))) None (at 7 39) ∷ decl.OfItem (at 8 1)
    (objects_of (id (at 8 1) "Total") [] (at 8 7) None (indication_of (mark (at 8 9) "Integer")) (at 8 16)) ∷ []) None
    (at 9 1) (Some (id (at 9 5) "Store")) (at 9 10)) ∷ unit.OfBody (at 10 7) [] (package_body_of (at 10 7) (at 10 15)
    (id (at 10 20) "Store") None (at 10 26) (part.Completed (at 11 4) (subprogram_of (at 11 4) (subspec.Procedure (at 11
    4) (id (at 11 14) "Push") (Some (formals_of (at 11 19) (moded_of (id (at 11 20) "L") [] (at 11 22) (Some (at 11 24))
    (Some (at 11 27)) (mark (at 11 31) "List")) (next_formal.Semicolon (at 11 35) (moded_of (id (at 11 37) "V") [] (at
    11 39) None None (mark (at 11 41) "Integer")) ∷ []) (at 11 48)))) None (at 11 50) [] (at 12 7) (sole (at 13 7)
    (assign_of (at 13 7) "L" [] (at 13 9) (expr_of (at 13 12) (primary.AllocatedAggregate (at 13 12) (mark (at 13 16)
    "Cell") (at 13 20) (aggregate.Several (at 13 21) (actual_of (at 13 22) (object (at 13 22) "V")) (at 13 23)
    (actual_of (at 13 25) (object (at 13 25) "L")) [] (at 13 26)))) (at 13 27))) (at 14 1) (Some (id (at 14 5) "Push"))
    (at 14 9)) ∷ part.Completed (at 15 4) (subprogram_of (at 15 4) (subspec.Function (at 15 4) (id (at 15 13) "Sum")
    (Some (formals_of (at 15 17) (moded_of (id (at 15 18) "L") [] (at 15 20) None None (mark (at 15 22) "List")) [] (at
    15 26))) (at 15 28) (indication_of (mark (at 15 35) "Integer"))) None (at 15 43) (initialized_of (id (at 16 1) "C")
    [] (at 16 3) None (indication.Anonymous (at 16 5) (Some (at 16 12)) (mark (at 16 21) "Cell")) (at 16 26) (expr_of
    (at 16 29) (object (at 16 29) "L")) (at 16 30) ∷ initialized_of (id (at 17 7) "N") [] (at 17 9) None (indication_of
    (mark (at 17 11) "Integer")) (at 17 19) (expr_of (at 17 22) (primary.Number (at 17 22) 0)) (at 17 23) ∷ []) (at 18
    4) (stmts.Sequence (at 19 1) (stmt.While (at 19 1) (expr.LoneRelation (at 19 7) (rel.Compared (at 19 7) (sum_of (at
    19 7) (object (at 19 7) "C")) relational.NotEqual (at 19 9) (sum_of (at 19 12) (primary.Null (at 19 12))))) (at 19
    17) (stmts.Sequence (at 19 22) (assign_of (at 19 22) "N" [] (at 19 24) (expr.LoneRelation (at 19 27) (rel.LoneSum
    (at 19 27) (sum.Unsigned (at 19 27) (term_of (at 19 27) (object (at 19 27) "N")) (next_term.FurtherTerm (at 19 29)
    adding.Add (term_of (at 19 31) (named (at 19 31) "C" (suffix.Selected (at 19 32) (id (at 19 33) "Value") ∷ []))) ∷
    [])))) (at 19 38)) (assign_of (at 19 40) "C" [] (at 19 42) (expr_of (at 19 45) (named (at 19 45) "C"
    (suffix.Selected (at 19 46) (id (at 19 47) "Next") ∷ []))) (at 19 51) ∷ [])) (at 19 53) (at 19 57) (at 19 61))
    (stmt.ReturnValue (at 20 4) (expr_of (at 20 11) (object (at 20 11) "N")) (at 20 12) ∷ [])) (at 21 7) (Some (id (at
    21 11) "Sum")) (at 21 14)) ∷ []) (at 22 1) (Some (id (at 22 5) "Store")) (at 22 10)) ∷ unit.OfSubprogram (at 23 7)
    (context.With (at 23 7) (selected (at 23 12) "Ada" (at 23 15) (at 23 16) "Text_IO") [] (at 23 23) ∷ use_context
    (use_of (at 23 25) None (selected (at 23 29) "Ada" (at 23 32) (at 23 33) "Text_IO") [] (at 23 40)) ∷ context.With
    (at 23 42) (selected (at 23 47) "Ada" (at 23 50) (at 23 51) "Integer_Text_IO") [] (at 23 66) ∷ use_context (use_of
    (at 23 68) None (selected (at 23 72) "Ada" (at 23 75) (at 23 76) "Integer_Text_IO") [] (at 23 91)) ∷ context.With
    (at 23 93) (selected (at 23 98) "Ada" (at 23 101) (at 23 102) "Unchecked_Deallocation") [] (at 23 124) ∷
    context.With (at 23 126) (mark (at 23 131) "Store") [] (at 23 136) ∷ use_context (use_of (at 23 138) None (mark (at
    23 142) "Store") [] (at 23 147)) ∷ []) (subprogram_of (at 24 1) (subspec.Procedure (at 24 1) (id (at 24 11) "Main")
    None) None (at 24 16) (objects_of (id (at 25 1) "X") (next_id_of (at 25 2) (at 25 4) "Y" ∷ []) (at 25 6) None
    (indication_of (mark (at 25 8) "List")) (at 25 12) ∷ initialized_of (id (at 26 4) "N") [] (at 26 6) None
    (indication_of (mark (at 26 8) "Integer")) (at 26 16) (expr_of (at 26 19) (primary.Number (at 26 19) 8)) (at 26 20)
    ∷ numbers_of (id (at 26 22) "Plain_X") [] (at 26 30) (at 26 32) (at 26 41) (expr_of (at 26 44) (primary.Number (at
    26 44) 1)) (at 26 45) ∷ objects_of (id (at 26 47) "plain_X") [] (at 26 55) None (indication_of (mark (at 26 57)
    "Boolean")) (at 26 64) ∷ []) (at 27 7) (stmts.Sequence (at 28 1) (assign_of (at 28 1) "N" [] (at 28 3) (expr_of (at
    28 6) (named (at 28 6) "Sum" (suffix.Applied (at 28 10) (actual_of (at 28 11) (object (at 28 11) "Y")) [] (at 28 12)
    ∷ []))) (at 28 13)) (assign_of (at 29 4) "Total" [] (at 29 10) (expr_of (at 29 13) (object (at 29 13) "N")) (at 29
    14) ∷ stmt.IfElse (at 30 1) (expr.LoneRelation (at 30 4) (rel.Compared (at 30 4) (sum_of (at 30 4) (object (at 30 4)
    "N")) relational.Greater (at 30 6) (sum_of (at 30 8) (primary.Number (at 30 8) 3)))) (at 30 10) (sole (at 30 15)
    (assign_of (at 30 15) "N" [] (at 30 17) (expr.LoneRelation (at 30 20) (rel.LoneSum (at 30 20) (sum.Unsigned (at 30
    20) (term_of (at 30 20) (object (at 30 20) "N")) (next_term.FurtherTerm (at 30 22) adding.Subtract (term_of (at 30
    24) (primary.Number (at 30 24) 1)) ∷ [])))) (at 30 25))) [] (at 30 27) (sole (at 30 32) (stmt.Null (at 30 32) (at 30
    36))) (at 30 38) (at 30 42) (at 30 44) ∷ stmt.For (at 31 1) (id (at 31 5) "I") (at 31 7) None (range.Bounds (at 31
    10) (expr_of (at 31 10) (primary.Number (at 31 10) 1)) (at 31 12) (expr_of (at 31 15) (primary.Number (at 31 15)
    3))) (at 31 17) (sole (at 31 22) (assign_of (at 31 22) "N" [] (at 31 24) (expr.LoneRelation (at 31 27) (rel.LoneSum
    (at 31 27) (sum.Unsigned (at 31 27) (term_of (at 31 27) (object (at 31 27) "N")) (next_term.FurtherTerm (at 31 29)
    adding.Add (term_of (at 31 31) (object (at 31 31) "I")) ∷ [])))) (at 31 32))) (at 31 34) (at 31 38) (at 31 42) ∷
    [])) (at 32 1) (Some (id (at 32 5) "Main")) (at 32 9)) ∷ []) ∷ [])
unfolding computes resolves
twice_4 = refl

twice_5 : IsFirstBrokenOf Twice (at 7 149) ((unit.OfPackage (at 1 1) (context.With (at 1 1) (selected (at 1 6) "Ada" (at
    1 9) (at 1 10) "Text_IO") [] (at 1 17) ∷ use_context (use_of (at 1 19) None (selected (at 1 23) "Ada" (at 1 26) (at
    1 27) "Text_IO") [] (at 1 34)) ∷ context.With (at 1 36) (selected (at 1 41) "Ada" (at 1 44) (at 1 45)
    "Integer_Text_IO") [] (at 1 60) ∷ use_context (use_of (at 1 62) None (selected (at 1 66) "Ada" (at 1 69) (at 1 70)
    "Integer_Text_IO") [] (at 1 85)) ∷ context.With (at 1 87) (selected (at 1 92) "Ada" (at 1 95) (at 1 96)
    "Unchecked_Deallocation") [] (at 1 118) ∷ []) (package_of (at 2 1) (id (at 2 9) "Store") None (at 2 15) (decl.OfItem
    (at 3 1) (item.IncompleteType (at 3 1) (id (at 3 6) "Cell") (at 3 10)) ∷ decl.OfItem (at 4 1) (item.AccessType (at 4
    1) (id (at 4 6) "List") (at 4 11) (at 4 14) (mark (at 4 21) "Cell") (at 4 25)) ∷ decl.OfItem (at 5 1)
    (item.RecordType (at 5 1) (id (at 5 6) "Cell") (at 5 11) (at 5 14) (fields_of (id (at 5 21) "Value") [] (at 5 27)
    (mark (at 5 29) "Integer") (at 5 36)) (fields_of (id (at 5 38) "Next") [] (at 5 43) (mark (at 5 45) "List") (at 5
    49) ∷ []) (at 5 51) (at 5 55) (at 5 61)) ∷ decl.Subprogram (at 6 1) (subspec.Procedure (at 6 1) (id (at 6 11)
    "Push") (Some (formals_of (at 6 16) (moded_of (id (at 6 17) "L") [] (at 6 19) (Some (at 6 21)) (Some (at 6 24))
    (mark (at 6 28) "List")) (next_formal.Semicolon (at 6 32) (moded_of (id (at 6 34) "V") [] (at 6 36) None None (mark
    (at 6 38) "Integer")) ∷ []) (at 6 45)))) None (at 6 46) ∷ decl.Subprogram (at 7 1) (subspec.Function (at 7 1) (id
    (at 7 10) "Sum") (Some (formals_of (at 7 14) (moded_of (id (at 7 15) "L") [] (at 7 17) None None (mark (at 7 19)
    "List")) [] (at 7 23))) (at 7 25) (indication_of (mark (at 7 32) "Integer"))) None (at 7 39) ∷ decl.OfItem (at 7 41)
    (item.AccessType (at 7 41) (id (at 7 46) "Quick_Ptr") (at 7 56) (at 7 59) (mark (at 7 66) "Integer") (at 7 73)) ∷
    decl.OfItem (at 7 75) (item.Instance (at 7 75) (id (at 7 85) "Quick_F") (at 7 93) (at 7 96) (selected (at 7 100)
    "Ada" (at 7 103) (at 7 104) "Unchecked_Deallocation") (at 7 127) (actual_of (at 7 128) (object (at 7 128)
    "Integer")) (next_arg.FurtherArg (at 7 135) (actual_of (at 7 137) (object (at 7 137) "Quick_Ptr")) ∷ []) (at 7 146)
    (at 7 147)) ∷ decl.OfItem (at 7 149) (objects_of (id (at 7 149) "Quick_F") [] (at 7 157) None (indication_of (mark
    (at 7 159) "Integer")) (at 7 166)) ∷ decl.OfItem (at 8 1) (objects_of (id (at 8 1) "Total") [] (at 8 7) None
    (indication_of (mark (at 8 9) "Integer")) (at 8 16)) ∷ []) None (at 9 1) (Some (id (at 9 5) "Store")) (at 9 10)) ∷
    unit.OfBody (at 10 1) [] (package_body_of (at 10 1) (at 10 9) (id (at 10 14) "Store") None (at 10 20)
    (part.Completed (at 11 1) (subprogram_of (at 11 1) (subspec.Procedure (at 11 1) (id (at 11 11) "Push") (Some
    (formals_of (at 11 16) (moded_of (id (at 11 17) "L") [] (at 11 19) (Some (at 11 21)) (Some (at 11 24)) (mark (at 11
    28) "List")) (next_formal.Semicolon (at 11 32) (moded_of (id (at 11 34) "V") [] (at 11 36) None None (mark (at 11
    38) "Integer")) ∷ []) (at 11 45)))) None (at 11 47) [] (at 12 1) (sole (at 13 1) (assign_of (at 13 1) "L" [] (at 13
    3) (expr_of (at 13 6) (primary.AllocatedAggregate (at 13 6) (mark (at 13 10) "Cell") (at 13 14) (aggregate.Several
    (at 13 15) (actual_of (at 13 16) (object (at 13 16) "V")) (at 13 17) (actual_of (at 13 19) (object (at 13 19) "L"))
    [] (at 13 20)))) (at 13 21))) (at 14 1) (Some (id (at 14 5) "Push")) (at 14 9)) ∷ part.Completed (at 15 1)
    (subprogram_of (at 15 1) (subspec.Function (at 15 1) (id (at 15 10) "Sum") (Some (formals_of (at 15 14) (moded_of
    (id (at 15 15) "L") [] (at 15 17) None None (mark (at 15 19) "List")) [] (at 15 23))) (at 15 25) (indication_of
    (mark (at 15 32) "Integer"))) None (at 15 40) (initialized_of (id (at 16 1) "C") [] (at 16 3) None
    (indication.Anonymous (at 16 5) (Some (at 16 12)) (mark (at 16 21) "Cell")) (at 16 26) (expr_of (at 16 29) (object
    (at 16 29) "L")) (at 16 30) ∷ initialized_of (id (at 17 1) "N") [] (at 17 3) None (indication_of (mark (at 17 5)
    "Integer")) (at 17 13) (expr_of (at 17 16) (primary.Number (at 17 16) 0)) (at 17 17) ∷ []) (at 18 1) (stmts.Sequence
    (at 19 1) (stmt.While (at 19 1) (expr.LoneRelation (at 19 7) (rel.Compared (at 19 7) (sum_of (at 19 7) (object (at
    19 7) "C")) relational.NotEqual (at 19 9) (sum_of (at 19 12) (primary.Null (at 19 12))))) (at 19 17) (stmts.Sequence
    (at 19 22) (assign_of (at 19 22) "N" [] (at 19 24) (expr.LoneRelation (at 19 27) (rel.LoneSum (at 19 27)
    (sum.Unsigned (at 19 27) (term_of (at 19 27) (object (at 19 27) "N")) (next_term.FurtherTerm (at 19 29) adding.Add
    (term_of (at 19 31) (named (at 19 31) "C" (suffix.Selected (at 19 32) (id (at 19 33) "Value") ∷ []))) ∷ [])))) (at
    19 38)) (assign_of (at 19 40) "C" [] (at 19 42) (expr_of (at 19 45) (named (at 19 45) "C" (suffix.Selected (at 19
    46) (id (at 19 47) "Next") ∷ []))) (at 19 51) ∷ [])) (at 19 53) (at 19 57) (at 19 61)) (stmt.ReturnValue (at 20 1)
    (expr_of (at 20 8) (object (at 20 8) "N")) (at 20 9) ∷ [])) (at 21 1) (Some (id (at 21 5) "Sum")) (at 21 8)) ∷ [])
    (at 22 1) (Some (id (at 22 5) "Store")) (at 22 10)) ∷ unit.OfSubprogram (at 23 1) (context.With (at 23 1) (selected
    (at 23 6) "Ada" (at 23 9) (at 23 10) "Text_IO") [] (at 23 17) ∷ use_context (use_of (at 23 19) None (selected (at 23
    23) "Ada" (at 23 26) (at 23 27) "Text_IO") [] (at 23 34)) ∷ context.With (at 23 36) (selected (at 23 41) "Ada" (at
    23 44) (at 23 45) "Integer_Text_IO") [] (at 23 60) ∷ use_context (use_of (at 23 62) None (selected (at 23 66) "Ada"
    (at 23 69) (at 23 70) "Integer_Text_IO") [] (at 23 85)) ∷ context.With (at 23 87) (selected (at 23 92) "Ada" (at 23
    95) (at 23 96) "Unchecked_Deallocation") [] (at 23 118) ∷ context.With (at 23 120) (mark (at 23 125) "Store") [] (at
    23 130) ∷ use_context (use_of (at 23 132) None (mark (at 23 136) "Store") [] (at 23 141)) ∷ []) (subprogram_of (at
    24 1) (subspec.Procedure (at 24 1) (id (at 24 11) "Main") None) None (at 24 16) (objects_of (id (at 25 1) "X")
    (next_id_of (at 25 2) (at 25 4) "Y" ∷ []) (at 25 6) None (indication_of (mark (at 25 8) "List")) (at 25 12) ∷
    initialized_of (id (at 26 1) "N") [] (at 26 3) None (indication_of (mark (at 26 5) "Integer")) (at 26 13) (expr_of
    (at 26 16) (primary.Number (at 26 16) 9)) (at 26 17) ∷ item.Instance (at 27 1) (id (at 27 11) "Free") (at 27 16) (at
    27 19) (selected (at 27 23) "Ada" (at 27 26) (at 27 27) "Unchecked_Deallocation") (at 27 50) (actual_of (at 27 51)
    (object (at 27 51) "Cell")) (next_arg.FurtherArg (at 27 55) (actual_of (at 27 57) (object (at 27 57) "List")) ∷ [])
    (at 27 61) (at 27 62) ∷ []) (at 28 1) (stmts.Sequence (at 29 1) (stmt.IfElse (at 29 1) (expr.LoneRelation (at 29 4)
    (rel.Compared (at 29 4) (sum_of (at 29 4) (object (at 29 4) "N")) relational.Greater (at 29 6) (sum_of (at 29 8)
    (primary.Number (at 29 8) 3)))) (at 29 10) (sole (at 29 15) (assign_of (at 29 15) "N" [] (at 29 17)
    (expr.LoneRelation (at 29 20) (rel.LoneSum (at 29 20) (sum.Unsigned (at 29 20) (term_of (at 29 20) (object (at 29
    20) "N")) (next_term.FurtherTerm (at 29 22) adding.Subtract (term_of (at 29 24) (primary.Number (at 29 24) 1)) ∷
    [])))) (at 29 25))) [] (at 29 27) (sole (at 29 32) (stmt.Null (at 29 32) (at 29 36))) (at 29 38) (at 29 42) (at 29
    44)) (call_of (at 30 1) "Put_Line" (suffix.Applied (at 30 10) (actual_of (at 30 11) (named (at 30 11) "Integer"
    (suffix.Attribute (at 30 18) (id (at 30 19) "Image") ∷ suffix.Applied (at 30 25) (actual_of (at 30 26) (object (at
    30 26) "N")) [] (at 30 27) ∷ []))) [] (at 30 28) ∷ []) (at 30 29) ∷ assign_of (at 31 1) "Y" [] (at 31 3) (expr_of
    (at 31 6) (object (at 31 6) "X")) (at 31 7) ∷ assign_of (at 31 9) "X" [] (at 31 11) (expr_of (at 31 14)
    (primary.Null (at 31 14))) (at 31 18) ∷ call_of (at 32 1) "Push" (suffix.Applied (at 32 6) (actual_of (at 32 7)
    (object (at 32 7) "X")) (next_arg.FurtherArg (at 32 8) (actual_of (at 32 10) (object (at 32 10) "N")) ∷ []) (at 32
    11) ∷ []) (at 32 12) ∷ stmt.DeclareBlock (at 33 1) (initialized_of (id (at 33 9) "B") [] (at 33 11) None
    (indication.Anonymous (at 33 13) None (mark (at 33 20) "Cell")) (at 33 25) (expr_of (at 33 28) (object (at 33 28)
    "X")) (at 33 29) ∷ []) (at 33 31) (sole (at 33 37) (stmt.If (at 33 37) (expr.LoneRelation (at 33 40) (rel.Compared
    (at 33 40) (sum_of (at 33 40) (object (at 33 40) "B")) relational.NotEqual (at 33 42) (sum_of (at 33 45)
    (primary.Null (at 33 45))))) (at 33 50) (sole (at 33 55) (assign_of (at 33 55) "B" (suffix.Selected (at 33 56) (id
    (at 33 57) "Value") ∷ []) (at 33 63) (expr_of (at 33 66) (object (at 33 66) "N")) (at 33 67))) [] (at 33 69) (at 33
    73) (at 33 75))) (at 33 77) (at 33 80) ∷ [])) (at 34 1) (Some (id (at 34 5) "Main")) (at 34 9)) ∷ []) ∷ [])
unfolding computes resolves
twice_5 = refl

twice_6 : IsFirstBrokenOf Twice (at 8 69) ((unit.OfSubprogram (at 1 1) (context.With (at 1 1) (selected (at 1 6) "Ada"
    (at 1 9) (at 1 10) "Text_IO") [] (at 1 17) ∷ use_context (use_of (at 1 19) None (selected (at 1 23) "Ada" (at 1 26)
    (at 1 27) "Text_IO") [] (at 1 34)) ∷ context.With (at 1 36) (selected (at 1 41) "Ada" (at 1 44) (at 1 45)
    "Integer_Text_IO") [] (at 1 60) ∷ use_context (use_of (at 1 62) None (selected (at 1 66) "Ada" (at 1 69) (at 1 70)
    "Integer_Text_IO") [] (at 1 85)) ∷ context.With (at 2 1) (selected (at 2 6) "Ada" (at 2 9) (at 2 10)
    "Unchecked_Deallocation") [] (at 2 32) ∷ []) (subprogram_of (at 3 1) (subspec.Procedure (at 3 1) (id (at 3 11)
    "Main") None) None (at 3 16) (item.RecordType (at 3 19) (id (at 3 24) "R1") (at 3 27) (at 3 30) (fields_of (id (at 3
    37) "F1") [] (at 3 40) (mark (at 3 42) "Integer") (at 3 49)) [] (at 3 51) (at 3 55) (at 3 61) ∷ item.AccessType (at
    4 1) (id (at 4 6) "P1") (at 4 9) (at 4 12) (mark (at 4 19) "R1") (at 4 21) ∷ item.IncompleteType (at 4 23) (id (at 4
    28) "Cell1") (at 4 33) ∷ item.AccessType (at 5 1) (id (at 5 6) "List1") (at 5 12) (at 5 15) (mark (at 5 22) "Cell1")
    (at 5 27) ∷ item.RecordType (at 5 29) (id (at 5 34) "Cell1") (at 5 40) (at 5 43) (fields_of (id (at 5 50) "Val1") []
    (at 5 55) (mark (at 5 57) "Integer") (at 5 64)) (fields_of (id (at 5 66) "Next1") [] (at 5 72) (mark (at 5 74)
    "List1") (at 5 79) ∷ []) (at 5 81) (at 5 85) (at 5 91) ∷ item.Instance (at 6 1) (id (at 6 11) "Free1") (at 6 17) (at
    6 20) (selected (at 6 24) "Ada" (at 6 27) (at 6 28) "Unchecked_Deallocation") (at 6 51) (actual_of (at 6 52) (object
    (at 6 52) "Cell1")) (next_arg.FurtherArg (at 6 57) (actual_of (at 6 59) (object (at 6 59) "List1")) ∷ []) (at 6 64)
    (at 6 65) ∷ item.IncompleteType (at 6 67) (id (at 6 72) "Node1") (at 6 77) ∷ item.AccessType (at 6 79) (id (at 6 84)
    "Tree1") (at 6 90) (at 6 93) (mark (at 6 100) "Node1") (at 6 105) ∷ item.RecordType (at 7 1) (id (at 7 6) "Node1")
    (at 7 12) (at 7 15) (fields_of (id (at 7 22) "Key1") [] (at 7 27) (mark (at 7 29) "Integer") (at 7 36)) (fields_of
    (id (at 7 38) "Left1") [] (at 7 44) (mark (at 7 46) "Tree1") (at 7 51) ∷ fields_of (id (at 7 53) "Right1") [] (at 7
    60) (mark (at 7 62) "Tree1") (at 7 67) ∷ []) (at 7 69) (at 7 73) (at 7 79) ∷ item.IncompleteType (at 8 1) (id (at 8
    6) "Cell2") (at 8 11) ∷ item.AccessType (at 8 13) (id (at 8 18) "List2") (at 8 24) (at 8 27) (mark (at 8 34)
    "Cell2") (at 8 39) ∷ item.Subtype (at 8 41) (id (at 8 49) "Extra_S") (at 8 57) (mark (at 8 60) "Integer") (at 8 67)
    ∷ objects_of (id (at 8 69) "Extra_S") [] (at 8 77) None (indication_of (mark (at 8 79) "Integer")) (at 8 86) ∷
    item.RecordType (at 8 88) (id (at 8 93) "Cell2") (at 8 99) (at 8 102) (fields_of (id (at 8 109) "Val2") [] (at 8
    114) (mark (at 8 116) "Integer") (at 8 123)) (fields_of (id (at 8 125) "Next2") [] (at 8 131) (mark (at 8 133)
    "List2") (at 8 138) ∷ []) (at 8 140) (at 8 144) (at 8 150) ∷ item.Instance (at 9 1) (id (at 9 11) "Free2") (at 9 17)
    (at 9 20) (selected (at 9 24) "Ada" (at 9 27) (at 9 28) "Unchecked_Deallocation") (at 9 51) (actual_of (at 9 52)
    (object (at 9 52) "Cell2")) (next_arg.FurtherArg (at 9 57) (actual_of (at 9 59) (object (at 9 59) "List2")) ∷ [])
    (at 9 64) (at 9 65) ∷ initialized_of (id (at 9 67) "V1") [] (at 9 70) None (indication_of (mark (at 9 72) "Tree1"))
    (at 9 78) (expr_of (at 9 81) (primary.AllocatedAggregate (at 9 81) (mark (at 9 85) "Node1") (at 9 90)
    (aggregate.Several (at 9 91) (actual_of (at 9 92) (primary.Number (at 9 92) 11)) (at 9 94) (actual_of (at 9 96)
    (primary.Null (at 9 96))) (next_arg.FurtherArg (at 9 100) (actual_of (at 9 102) (primary.Null (at 9 102))) ∷ []) (at
    9 106)))) (at 9 107) ∷ objects_of (id (at 10 1) "V2") [] (at 10 4) None (indication_of (mark (at 10 6) "List1")) (at
    10 11) ∷ objects_of (id (at 11 1) "V3") (next_id_of (at 11 3) (at 11 5) "V4" ∷ []) (at 11 8) None (indication_of
    (mark (at 11 10) "Node1")) (at 11 15) ∷ initialized_of (id (at 11 17) "V5") [] (at 11 20) None (indication_of (mark
    (at 11 22) "Cell2")) (at 11 28) (expr_of (at 11 31) (primary.Aggregated (at 11 31) (aggregate.Several (at 11 31)
    (actual_of (at 11 32) (primary.Parenthesized (at 11 32) (expr.LoneRelation (at 11 33) (rel.LoneSum (at 11 33)
    (sum.Unsigned (at 11 33) (term_of (at 11 33) (primary.Number (at 11 33) 7)) (next_term.FurtherTerm (at 11 35)
    adding.Add (term_of (at 11 37) (primary.Number (at 11 37) 8)) ∷ [])))) (at 11 38))) (at 11 39) (actual_of (at 11 41)
    (primary.Null (at 11 41))) [] (at 11 45)))) (at 11 46) ∷ initialized_of (id (at 12 1) "V6") [] (at 12 4) None
    (indication_of (mark (at 12 6) "List1")) (at 12 12) (expr_of (at 12 15) (primary.AllocatedAggregate (at 12 15) (mark
    (at 12 19) "Cell1") (at 12 24) (aggregate.Several (at 12 25) (association_of (id (at 12 26) "Val1") (at 12 31)
    (expr_of (at 12 34) (primary.Parenthesized (at 12 34) (expr.LoneRelation (at 12 35) (rel.LoneSum (at 12 35)
    (sum.Signed (at 12 35) sign.Minus (term_of (at 12 36) (primary.Number (at 12 36) 3)) []))) (at 12 37)))) (at 12 38)
    (association_of (id (at 12 40) "Next1") (at 12 46) (expr_of (at 12 49) (primary.Null (at 12 49)))) [] (at 12 53))))
    (at 12 54) ∷ objects_of (id (at 13 1) "T1") [] (at 13 4) None (indication_of (mark (at 13 6) "Integer")) (at 13 13)
    ∷ []) (at 13 15) (stmts.Sequence (at 13 21) (stmt.For (at 13 21) (id (at 13 25) "I1") (at 13 28) None (range.Bounds
    (at 13 31) (expr_of (at 13 31) (primary.Number (at 13 31) 1)) (at 13 33) (expr_of (at 13 36) (primary.Number (at 13
    36) 3))) (at 13 38) (sole (at 13 43) (assign_of (at 13 43) "V3" (suffix.Selected (at 13 45) (id (at 13 46) "Right1")
    ∷ []) (at 13 53) (expr_of (at 13 56) (primary.AllocatedAggregate (at 13 56) (mark (at 13 60) "Node1") (at 13 65)
    (aggregate.Several (at 13 66) (actual_of (at 13 67) (object (at 13 67) "I1")) (at 13 69) (actual_of (at 13 71)
    (primary.Null (at 13 71))) (next_arg.FurtherArg (at 13 75) (actual_of (at 13 77) (named (at 13 77) "V3"
    (suffix.Selected (at 13 79) (id (at 13 80) "Right1") ∷ []))) ∷ []) (at 13 86)))) (at 13 87))) (at 13 89) (at 13 93)
    (at 13 97)) (call_of (at 14 1) "Put_Line" (suffix.Applied (at 14 10) (actual_of (at 14 11) (primary.Text (at 14 11)
    (codes "\"q\"\"q\""))) [] (at 14 17) ∷ []) (at 14 18) ∷ assign_of (at 14 20) "V3" (suffix.Selected (at 14 22) (id
    (at 14 23) "Key1") ∷ []) (at 14 28) (expr_of (at 14 31) (primary.Number (at 14 31) 9)) (at 14 32) ∷ stmt.IfElse (at
    14 34) (expr.LoneRelation (at 14 37) (rel.Compared (at 14 37) (sum_of (at 14 37) (primary.Null (at 14 37)))
    relational.NotEqual (at 14 42) (sum_of (at 14 45) (object (at 14 45) "V1")))) (at 14 48) (sole (at 14 53)
    (stmt.DeclareBlock (at 14 53) (initialized_of (id (at 14 61) "C1") [] (at 14 64) None (indication.Anonymous (at 14
    66) (Some (at 14 73)) (mark (at 14 82) "Node1")) (at 14 88) (expr_of (at 14 91) (named (at 14 91) "V4"
    (suffix.Selected (at 14 93) (id (at 14 94) "Right1") ∷ []))) (at 14 100) ∷ []) (at 15 1) (sole (at 15 7) (stmt.While
    (at 15 7) (expr.LoneRelation (at 15 13) (rel.Compared (at 15 13) (sum_of (at 15 13) (object (at 15 13) "C1"))
    relational.NotEqual (at 15 16) (sum_of (at 15 19) (primary.Null (at 15 19))))) (at 15 24) (stmts.Sequence (at 16 1)
    (stmt.Case (at 16 1) (expr_of (at 16 6) (named (at 16 6) "V3" (suffix.Selected (at 16 8) (id (at 16 9) "Right1") ∷
    suffix.Selected (at 16 15) (id (at 16 16) "Key1") ∷ []))) (at 16 21) (alternative.Alternative (at 17 1)
    (choice.Value (at 17 6) (expr_of (at 17 6) (primary.Number (at 17 6) 7))) [] (at 17 8) (sole (at 18 1) (stmt.Exit
    (at 18 1) (at 18 5)))) (alternative.Alternative (at 18 7) (choice.Value (at 18 12) (expr_of (at 18 12)
    (primary.Number (at 18 12) 5))) [] (at 18 14) (sole (at 18 17) (stmt.Null (at 18 17) (at 18 21))) ∷
    alternative.Alternative (at 19 1) (choice.Value (at 19 6) (expr_of (at 19 6) (primary.Number (at 19 6) 10))) [] (at
    19 9) (sole (at 19 12) (stmt.If (at 19 12) (expr.LoneRelation (at 19 15) (rel.Compared (at 19 15) (sum_of (at 19 15)
    (object (at 19 15) "V6")) relational.NotEqual (at 19 18) (sum_of (at 19 21) (primary.Null (at 19 21))))) (at 19 26)
    (sole (at 20 1) (assign_of (at 20 1) "V6" [] (at 20 4) (expr_of (at 20 7) (named (at 20 7) "V6" (suffix.Selected (at
    20 9) (id (at 20 10) "Next1") ∷ []))) (at 20 15))) [] (at 20 17) (at 20 21) (at 20 23))) ∷ alternative.Alternative
    (at 20 25) (choice.Others (at 20 30)) [] (at 20 37) (stmts.Sequence (at 21 1) (stmt.If (at 21 1) (expr.AndThen (at
    21 4) (rel.Compared (at 21 4) (sum_of (at 21 4) (object (at 21 4) "V2")) relational.NotEqual (at 21 7) (sum_of (at
    21 10) (primary.Null (at 21 10)))) (at 21 15) (at 21 19) (rel.Compared (at 21 24) (sum_of (at 21 24) (named (at 21
    24) "V2" (suffix.Selected (at 21 26) (id (at 21 27) "Next1") ∷ []))) relational.NotEqual (at 21 33) (sum_of (at 21
    36) (primary.Null (at 21 36)))) []) (at 21 41) (sole (at 22 1) (assign_of (at 22 1) "V2" (suffix.Selected (at 22 3)
    (id (at 22 4) "Next1") ∷ suffix.Selected (at 22 9) (id (at 22 10) "Val1") ∷ []) (at 22 15) (expr_of (at 22 18)
    (primary.Number (at 22 18) 14)) (at 22 20))) [] (at 23 1) (at 23 5) (at 23 7)) (stmt.If (at 24 1) (expr.LoneRelation
    (at 24 4) (rel.Compared (at 24 4) (sum_of (at 24 4) (named (at 24 4) "V4" (suffix.Selected (at 24 6) (id (at 24 7)
    "Right1") ∷ []))) relational.NotEqual (at 24 14) (sum_of (at 24 17) (primary.Null (at 24 17))))) (at 24 22) (sole
    (at 24 27) (assign_of (at 24 27) "V1" [] (at 24 30) (expr_of (at 24 33) (primary.AllocatedAggregate (at 24 33) (mark
    (at 24 37) "Node1") (at 24 42) (aggregate.Several (at 24 43) (actual_of (at 24 44) (named (at 24 44) "V4"
    (suffix.Selected (at 24 46) (id (at 24 47) "Right1") ∷ suffix.Selected (at 24 53) (id (at 24 54) "Key1") ∷ []))) (at
    24 58) (actual_of (at 24 60) (object (at 24 60) "V1")) (next_arg.FurtherArg (at 24 62) (actual_of (at 24 64)
    (primary.Null (at 24 64))) ∷ []) (at 24 68)))) (at 24 69))) [] (at 24 71) (at 24 75) (at 24 77) ∷ [])) ∷ []) (at 24
    79) (at 24 83) (at 24 87)) (assign_of (at 25 1) "C1" [] (at 25 4) (expr_of (at 25 7) (named (at 25 7) "C1"
    (suffix.Selected (at 25 9) (id (at 25 10) "Right1") ∷ []))) (at 25 16) ∷ [])) (at 26 1) (at 26 5) (at 26 9))) (at 27
    1) (at 27 4))) [] (at 27 6) (sole (at 27 11) (assign_of (at 27 11) "V3" (suffix.Selected (at 27 13) (id (at 27 14)
    "Right1") ∷ suffix.Dereferenced (at 27 20) (at 27 21) ∷ suffix.Selected (at 27 24) (id (at 27 25) "Left1") ∷ []) (at
    27 31) (expr_of (at 27 34) (primary.Null (at 27 34))) (at 27 38))) (at 27 40) (at 27 44) (at 27 46) ∷ [])) (at 27
    48) (Some (id (at 27 52) "Main")) (at 27 56)) ∷ []) ∷ [])
unfolding computes resolves
twice_6 = refl

-- At one position N2 goes before N5.
twice_before_missing_1 : IsFirstBrokenOf Twice (at 4 81) ((unit.OfSubprogram (at 1 1) (context.With (at 1 1) (selected
    (at 1 6) "Ada" (at 1 9) (at 1 10) "Text_IO") [] (at 1 17) ∷ use_context (use_of (at 1 19) None (selected (at 1 23)
    "Ada" (at 1 26) (at 1 27) "Text_IO") [] (at 1 34)) ∷ context.With (at 1 36) (selected (at 1 41) "Ada" (at 1 44) (at
    1 45) "Integer_Text_IO") [] (at 1 60) ∷ use_context (use_of (at 1 62) None (selected (at 1 66) "Ada" (at 1 69) (at 1
    70) "Integer_Text_IO") [] (at 1 85)) ∷ context.With (at 1 87) (selected (at 1 92) "Ada" (at 1 95) (at 1 96)
    "Unchecked_Deallocation") [] (at 1 118) ∷ []) (subprogram_of (at 2 7) (subspec.Procedure (at 2 7) (id (at 2 17)
    "Main") None) None (at 2 22) (item.IncompleteType (at 3 7) (id (at 3 12) "Cell") (at 3 16) ∷ item.AccessType (at 4
    4) (id (at 4 9) "List") (at 4 14) (at 4 17) (mark (at 4 24) "Cell") (at 4 28) ∷ item.IncompleteType (at 4 30) (id
    (at 4 35) "Usual_T") (at 4 42) ∷ item.AccessType (at 4 44) (id (at 4 49) "Usual_P") (at 4 57) (at 4 60) (mark (at 4
    67) "Usual_T") (at 4 74) ∷ item.PrivateType (at 4 76) (id (at 4 81) "Usual_T") (at 4 89) (at 4 92) (at 4 99) ∷
    item.EnumerationType (at 4 101) (id (at 4 106) "Usual_T") (at 4 114) (at 4 117) (id (at 4 118) "Usual_A")
    (next_id_of (at 4 125) (at 4 127) "Usual_B" ∷ []) (at 4 134) (at 4 135) ∷ item.RecordType (at 5 7) (id (at 5 12)
    "Cell") (at 5 17) (at 5 20) (fields_of (id (at 5 27) "Value") [] (at 5 33) (mark (at 5 35) "Integer") (at 5 42))
    (fields_of (id (at 5 44) "Next") [] (at 5 49) (mark (at 5 51) "List") (at 5 55) ∷ []) (at 5 57) (at 5 61) (at 5 67)
    ∷ objects_of (id (at 6 4) "X") (next_id_of (at 6 5) (at 6 7) "Y" ∷ []) (at 6 9) None (indication_of (mark (at 6 11)
    "List")) (at 6 15) ∷ initialized_of (id (at 7 4) "N") [] (at 7 6) None (indication_of (mark (at 7 8) "Integer")) (at
    7 16) (expr_of (at 7 19) (primary.Number (at 7 19) 9)) (at 7 20) ∷ []) (at 8 4) (stmts.Sequence (at 9 1) (call_of
    (at 9 1) "Put_Line" (suffix.Applied (at 9 10) (actual_of (at 9 11) (named (at 9 11) "Integer" (suffix.Attribute (at
    9 18) (id (at 9 19) "Image") ∷ suffix.Applied (at 9 25) (actual_of (at 9 26) (object (at 9 26) "N")) [] (at 9 27) ∷
    []))) [] (at 9 28) ∷ []) (at 9 29)) (assign_of (at 10 1) "N" [] (at 10 3) (expr.LoneRelation (at 10 6) (rel.LoneSum
    (at 10 6) (sum.Unsigned (at 10 6) (term.Product (at 10 6) (factor_of (at 10 6) (object (at 10 6) "N"))
    (next_factor.FurtherFactor (at 10 8) multiplying.Multiply (factor_of (at 10 10) (primary.Number (at 10 10) 2)) ∷
    [])) (next_term.FurtherTerm (at 10 12) adding.Add (term_of (at 10 14) (primary.Number (at 10 14) 1)) ∷ [])))) (at 10
    15) ∷ stmt.Case (at 11 1) (expr_of (at 11 6) (object (at 11 6) "N")) (at 11 8) (alternative.Alternative (at 11 11)
    (choice.Value (at 11 16) (expr_of (at 11 16) (primary.Number (at 11 16) 1))) [] (at 11 18) (sole (at 11 21)
    (stmt.Null (at 11 21) (at 11 25)))) (alternative.Alternative (at 11 27) (choice.Others (at 11 32)) [] (at 11 39)
    (sole (at 11 42) (assign_of (at 11 42) "N" [] (at 11 44) (expr_of (at 11 47) (primary.Number (at 11 47) 2)) (at 11
    48))) ∷ []) (at 11 50) (at 11 54) (at 11 58) ∷ [])) (at 12 1) (Some (id (at 12 5) "Main")) (at 12 9)) ∷ []) ∷ [])
unfolding computes resolves
twice_before_missing_1 = refl

twice_before_missing_2 : IsFirstBrokenOf Twice (at 3 81) ((unit.OfPackage (at 1 1) (context.With (at 1 1) (selected (at
    1 6) "Ada" (at 1 9) (at 1 10) "Text_IO") [] (at 1 17) ∷ use_context (use_of (at 1 19) None (selected (at 1 23) "Ada"
    (at 1 26) (at 1 27) "Text_IO") [] (at 1 34)) ∷ context.With (at 1 36) (selected (at 1 41) "Ada" (at 1 44) (at 1 45)
    "Integer_Text_IO") [] (at 1 60) ∷ use_context (use_of (at 1 62) None (selected (at 1 66) "Ada" (at 1 69) (at 1 70)
    "Integer_Text_IO") [] (at 1 85)) ∷ context.With (at 1 87) (selected (at 1 92) "Ada" (at 1 95) (at 1 96)
    "Unchecked_Deallocation") [] (at 1 118) ∷ []) (package_of (at 1 120) (id (at 1 128) "Usual_P") None (at 1 136)
    (decl.Subprogram (at 2 1) (subspec.Procedure (at 2 1) (id (at 2 11) "Usual_Q") None) None (at 2 18) ∷ []) None (at 2
    20) (Some (id (at 2 24) "Usual_P")) (at 2 31)) ∷ unit.OfBody (at 3 1) [] (package_body_of (at 3 1) (at 3 9) (id (at
    3 14) "Usual_P") None (at 3 22) (part.Completed (at 3 25) (subprogram_of (at 3 25) (subspec.Procedure (at 3 25) (id
    (at 3 35) "Usual_Q") None) None (at 3 43) [] (at 3 46) (sole (at 3 52) (stmt.Null (at 3 52) (at 3 56))) (at 3 58)
    (Some (id (at 3 62) "Usual_Q")) (at 3 69)) ∷ part.Declared (at 3 71) (decl.Subprogram (at 3 71) (subspec.Procedure
    (at 3 71) (id (at 3 81) "usual_q") (Some (formals_of (at 3 89) (moded_of (id (at 3 90) "Usual_N") [] (at 3 98) None
    None (mark (at 3 100) "Integer")) [] (at 3 107)))) None (at 3 108)) ∷ []) (at 4 1) (Some (id (at 4 5) "Usual_P"))
    (at 4 12)) ∷ unit.OfSubprogram (at 4 14) (context.With (at 4 14) (selected (at 4 19) "Ada" (at 4 22) (at 4 23)
    "Text_IO") [] (at 4 30) ∷ use_context (use_of (at 4 32) None (selected (at 4 36) "Ada" (at 4 39) (at 4 40)
    "Text_IO") [] (at 4 47)) ∷ context.With (at 4 49) (selected (at 4 54) "Ada" (at 4 57) (at 4 58) "Integer_Text_IO")
    [] (at 4 73) ∷ use_context (use_of (at 4 75) None (selected (at 4 79) "Ada" (at 4 82) (at 4 83) "Integer_Text_IO")
    [] (at 4 98)) ∷ context.With (at 4 100) (selected (at 4 105) "Ada" (at 4 108) (at 4 109) "Unchecked_Deallocation")
    [] (at 4 131) ∷ []) (subprogram_of (at 5 1) (subspec.Procedure (at 5 1) (id (at 5 11) "Main") None) None (at 5 16)
    (item.IncompleteType (at 5 19) (id (at 5 24) "Cell") (at 5 28) ∷ item.AccessType (at 5 30) (id (at 5 35) "List") (at
    5 40) (at 5 43) (mark (at 5 50) "Cell") (at 5 54) ∷ item.RecordType (at 5 56) (id (at 5 61) "Cell") (at 5 66) (at 5
    69) (fields_of (id (at 5 76) "Value") [] (at 5 82) (mark (at 5 84) "Integer") (at 5 91)) (fields_of (id (at 5 93)
    "Next") [] (at 5 98) (mark (at 5 100) "List") (at 5 104) ∷ []) (at 5 106) (at 5 110) (at 5 116) ∷ objects_of (id (at
    6 1) "X") (next_id_of (at 6 2) (at 6 4) "Y" ∷ []) (at 6 6) None (indication_of (mark (at 6 8) "List")) (at 6 12) ∷
    initialized_of (id (at 6 14) "N") [] (at 6 16) None (indication_of (mark (at 6 18) "Integer")) (at 6 26) (expr_of
    (at 6 29) (primary.Number (at 6 29) 1)) (at 6 30) ∷ item.Instance (at 6 32) (id (at 6 42) "Free") (at 6 47) (at 6
    50) (selected (at 6 54) "Ada" (at 6 57) (at 6 58) "Unchecked_Deallocation") (at 6 81) (actual_of (at 6 82) (object
    (at 6 82) "Cell")) (next_arg.FurtherArg (at 6 86) (actual_of (at 6 88) (object (at 6 88) "List")) ∷ []) (at 6 92)
    (at 6 93) ∷ []) (at 7 1) (stmts.Sequence (at 8 1) (assign_of (at 8 1) "X" [] (at 8 3) (expr_of (at 8 6)
    (primary.AllocatedAggregate (at 8 6) (mark (at 8 10) "Cell") (at 8 14) (aggregate.Several (at 8 15) (actual_of (at 8
    16) (object (at 8 16) "N")) (at 8 17) (actual_of (at 8 19) (primary.Null (at 8 19))) [] (at 8 23)))) (at 8 24))
    (stmt.Case (at 8 26) (expr_of (at 8 31) (object (at 8 31) "N")) (at 8 33) (alternative.Alternative (at 8 36)
    (choice.Value (at 8 41) (expr_of (at 8 41) (primary.Number (at 8 41) 1))) [] (at 8 43) (sole (at 8 46) (stmt.Null
    (at 8 46) (at 8 50)))) (alternative.Alternative (at 8 52) (choice.Others (at 8 57)) [] (at 8 64) (sole (at 8 67)
    (assign_of (at 8 67) "N" [] (at 8 69) (expr_of (at 8 72) (primary.Number (at 8 72) 2)) (at 8 73))) ∷ []) (at 8 75)
    (at 8 79) (at 8 83) ∷ stmt.IfElse (at 9 1) (expr.LoneRelation (at 9 4) (rel.Compared (at 9 4) (sum_of (at 9 4)
    (object (at 9 4) "N")) relational.Greater (at 9 6) (sum_of (at 9 8) (primary.Number (at 9 8) 3)))) (at 9 10) (sole
    (at 9 15) (assign_of (at 9 15) "N" [] (at 9 17) (expr.LoneRelation (at 9 20) (rel.LoneSum (at 9 20) (sum.Unsigned
    (at 9 20) (term_of (at 9 20) (object (at 9 20) "N")) (next_term.FurtherTerm (at 9 22) adding.Subtract (term_of (at 9
    24) (primary.Number (at 9 24) 1)) ∷ [])))) (at 9 25))) [] (at 9 27) (sole (at 9 32) (stmt.Null (at 9 32) (at 9 36)))
    (at 9 38) (at 9 42) (at 9 44) ∷ [])) (at 10 1) (Some (id (at 10 5) "Main")) (at 10 9)) ∷ []) ∷ [])
unfolding computes resolves
twice_before_missing_2 = refl

twice_before_missing_3 : IsFirstBrokenOf Twice (at 1 49) ((unit.OfPackage (at 1 1) [] (package_of (at 1 1) (id (at 1 9)
    "Inner_P") None (at 1 17) (decl.Subprogram (at 1 20) (subspec.Procedure (at 1 20) (id (at 1 30) "Inner_Q") None)
    None (at 1 37) ∷ decl.Subprogram (at 1 39) (subspec.Procedure (at 1 39) (id (at 1 49) "Inner_Q") (Some (formals_of
    (at 1 57) (moded_of (id (at 1 58) "Inner_N") [] (at 1 66) None None (mark (at 1 68) "Integer")) [] (at 1 75)))) None
    (at 1 76) ∷ []) None (at 1 78) (Some (id (at 1 82) "Inner_P")) (at 1 89)) ∷ unit.OfBody (at 2 1) [] (package_body_of
    (at 2 1) (at 2 9) (id (at 2 14) "Inner_P") None (at 2 22) (part.Completed (at 2 25) (subprogram_of (at 2 25)
    (subspec.Procedure (at 2 25) (id (at 2 35) "Inner_Q") None) None (at 2 43) [] (at 2 46) (sole (at 2 52) (stmt.Null
    (at 2 52) (at 2 56))) (at 2 58) (Some (id (at 2 62) "Inner_Q")) (at 2 69)) ∷ []) (at 2 71) (Some (id (at 2 75)
    "Inner_P")) (at 2 82)) ∷ unit.OfSubprogram (at 3 1) (context.With (at 3 1) (selected (at 3 6) "Ada" (at 3 9) (at 3
    10) "Text_IO") (next_dotted.FurtherDotted (at 3 17) (selected (at 3 19) "Ada" (at 3 22) (at 3 23) "Integer_Text_IO")
    ∷ next_dotted.FurtherDotted (at 3 38) (selected (at 3 40) "Ada" (at 3 43) (at 3 44) "Unchecked_Deallocation") ∷ [])
    (at 3 66) ∷ use_context (use_of (at 4 1) None (selected (at 4 5) "Ada" (at 4 8) (at 4 9) "Text_IO")
    (next_dotted.FurtherDotted (at 4 16) (selected (at 4 18) "Ada" (at 4 21) (at 4 22) "Integer_Text_IO") ∷ []) (at 4
    37)) ∷ []) (subprogram_of (at 5 1) (subspec.Procedure (at 5 1) (id (at 5 11) "Main") None) None (at 5 16)
    (item.ConstrainedSubtype (at 6 1) (id (at 6 9) "S1") (at 6 12) (mark (at 6 15) "Natural") (at 6 23) (expr_of (at 6
    29) (primary.Number (at 6 29) 2)) (at 6 31) (expr_of (at 6 34) (primary.Number (at 6 34) 4)) (at 6 35) ∷
    item.ConstrainedSubtype (at 7 1) (id (at 7 9) "S2") (at 7 12) (mark (at 7 15) "Integer") (at 7 23)
    (expr.LoneRelation (at 7 29) (rel.LoneSum (at 7 29) (sum.Signed (at 7 29) sign.Minus (term_of (at 7 30)
    (primary.Number (at 7 30) 2)) []))) (at 7 32) (expr_of (at 7 35) (primary.Number (at 7 35) 3)) (at 7 36) ∷
    item.ArrayType (at 8 1) (id (at 8 6) "A1") (at 8 9) (at 8 12) (at 8 18) (constrained_of (mark (at 8 19) "Integer")
    (at 8 27) (expr_of (at 8 33) (primary.Number (at 8 33) 2)) (at 8 35) (expr_of (at 8 38) (primary.Number (at 8 38)
    2))) (at 8 39) (at 8 41) (mark (at 8 44) "Integer") (at 8 51) ∷ objects_of (id (at 9 1) "V1") (next_id_of (at 9 3)
    (at 9 5) "V2" ∷ []) (at 9 8) None (indication_of (mark (at 9 10) "A1")) (at 9 12) ∷ initialized_of (id (at 10 1)
    "V3") [] (at 10 4) None (indication_of (mark (at 10 6) "A1")) (at 10 9) (expr_of (at 10 12) (primary.Aggregated (at
    10 12) (aggregate.Others (at 10 12) (at 10 13) (at 10 20) (expr_of (at 10 23) (named (at 10 23) "V2"
    (suffix.Attribute (at 10 25) (id (at 10 26) "Length") ∷ []))) (at 10 32)))) (at 10 33) ∷ objects_of (id (at 11 1)
    "V4") (next_id_of (at 11 3) (at 11 5) "V5" ∷ []) (at 11 8) None (indication_of (mark (at 11 10) "Integer")) (at 11
    17) ∷ objects_of (id (at 12 1) "T1") [] (at 12 4) None (indication_of (mark (at 12 6) "Integer")) (at 12 13) ∷ [])
    (at 13 1) (stmts.Sequence (at 14 1) (stmt.DeclareBlock (at 14 1) (objects_of (id (at 15 1) "V6") (next_id_of (at 15
    3) (at 15 5) "V7" ∷ []) (at 15 8) None (indication_of (mark (at 15 10) "A1")) (at 15 12) ∷ objects_of (id (at 16 1)
    "V8") (next_id_of (at 16 3) (at 16 5) "V9" ∷ []) (at 16 8) None (indication_of (mark (at 16 10) "A1")) (at 16 12) ∷
    initialized_of (id (at 17 1) "V10") [] (at 17 5) None (indication_of (mark (at 17 7) "S1")) (at 17 10) (expr_of (at
    17 13) (primary.Number (at 17 13) 4)) (at 17 14) ∷ []) (at 18 1) (sole (at 19 1) (assign_of (at 19 1) "V8" [] (at 19
    4) (expr_of (at 19 7) (object (at 19 7) "V6")) (at 19 9))) (at 20 1) (at 20 4)) (assign_of (at 21 1) "V1" [] (at 21
    4) (expr_of (at 21 7) (object (at 21 7) "V1")) (at 21 9) ∷ stmt.Case (at 22 1) (expr.AndThen (at 22 6) (rel_of (at
    22 6) (primary.Parenthesized (at 22 6) (expr_of (at 22 7) (object (at 22 7) "End_Of_File")) (at 22 18))) (at 22 20)
    (at 22 24) (rel_of (at 22 29) (primary.Parenthesized (at 22 29) (expr.LoneRelation (at 22 30) (rel.Compared (at 22
    30) (sum_of (at 22 30) (named (at 22 30) "V3" (suffix.Applied (at 22 33) (arg.Positional (at 22 34)
    (expr.LoneRelation (at 22 34) (rel.LoneSum (at 22 34) (sum.Unsigned (at 22 34) (term.Product (at 22 34) (factor_of
    (at 22 34) (object (at 22 34) "V5")) (next_factor.FurtherFactor (at 22 37) multiplying.Modulo (factor_of (at 22 41)
    (primary.Number (at 22 41) 1)) ∷ [])) (next_term.FurtherTerm (at 22 43) adding.Add (term_of (at 22 45)
    (primary.Number (at 22 45) 2)) ∷ []))))) [] (at 22 46) ∷ []))) relational.Less (at 22 48) (sum_of (at 22 50)
    (primary.Parenthesized (at 22 50) (expr.LoneRelation (at 22 51) (rel.LoneSum (at 22 51) (sum.Unsigned (at 22 51)
    (term_of (at 22 51) (primary.Number (at 22 51) 8)) (next_term.FurtherTerm (at 22 53) adding.Add (term_of (at 22 55)
    (primary.Number (at 22 55) 8)) ∷ [])))) (at 22 56))))) (at 22 57))) []) (at 22 59) (alternative.Alternative (at 23
    1) (choice.Value (at 23 6) (expr_of (at 23 6) (object (at 23 6) "False"))) [] (at 23 12) (stmts.Sequence (at 24 1)
    (assign_of (at 24 1) "V2" (suffix.Applied (at 24 4) (arg.Positional (at 24 5) (expr.LoneRelation (at 24 5)
    (rel.LoneSum (at 24 5) (sum.Unsigned (at 24 5) (term_of (at 24 5) (primary.Number (at 24 5) 1))
    (next_term.FurtherTerm (at 24 7) adding.Add (term_of (at 24 9) (primary.Number (at 24 9) 1)) ∷ []))))) [] (at 24 10)
    ∷ []) (at 24 12) (expr_of (at 24 15) (primary.Parenthesized (at 24 15) (expr.LoneRelation (at 24 16) (rel.LoneSum
    (at 24 16) (sum.Unsigned (at 24 16) (term.Product (at 24 16) (factor_of (at 24 16) (primary.Number (at 24 16) 0))
    (next_factor.FurtherFactor (at 24 18) multiplying.Modulo (factor_of (at 24 22) (primary.Number (at 24 22) 6)) ∷ []))
    []))) (at 24 23))) (at 24 24)) (stmt.For (at 25 1) (id (at 25 5) "I1") (at 25 8) None (range.Bounds (at 25 11)
    (expr_of (at 25 11) (primary.Number (at 25 11) 2)) (at 25 13) (expr_of (at 25 16) (primary.Number (at 25 16) 5)))
    (at 25 18) (sole (at 26 1) (stmt.For (at 26 1) (id (at 26 5) "I2") (at 26 8) None (range.Bounds (at 26 11) (expr_of
    (at 26 11) (primary.Number (at 26 11) 1)) (at 26 13) (expr_of (at 26 16) (primary.Number (at 26 16) 10))) (at 26 19)
    (sole (at 27 1) (stmt.Case (at 27 1) (expr_of (at 27 6) (named (at 27 6) "V3" (suffix.Applied (at 27 9) (actual_of
    (at 27 10) (object (at 27 10) "V4")) [] (at 27 12) ∷ []))) (at 27 14) (alternative.Alternative (at 28 1)
    (choice.Interval (at 28 6) (expr_of (at 28 6) (primary.Number (at 28 6) 20)) (at 28 9) (expr_of (at 28 12)
    (primary.Number (at 28 12) 20))) (next_choice.Bar (at 28 15) (choice.Value (at 28 17) (expr_of (at 28 17)
    (primary.Number (at 28 17) 4))) ∷ []) (at 28 19) (sole (at 29 1) (stmt.Null (at 29 1) (at 29 5))))
    (alternative.Alternative (at 30 1) (choice.Value (at 30 6) (expr_of (at 30 6) (primary.Number (at 30 6) 10))) [] (at
    30 9) (stmts.Sequence (at 31 1) (assign_of (at 31 1) "V1" [] (at 31 4) (expr_of (at 31 7) (object (at 31 7) "V1"))
    (at 31 9)) (stmt.If (at 32 1) (expr.LoneRelation (at 32 4) (rel.LoneSum (at 32 4) (sum.Unsigned (at 32 4)
    (term.Product (at 32 4) (factor.Not (at 32 4) (object (at 32 8) "End_Of_File")) []) []))) (at 32 20) (sole (at 33 1)
    (call_of (at 33 1) "Get" (suffix.Applied (at 33 5) (actual_of (at 33 6) (object (at 33 6) "T1")) [] (at 33 8) ∷ [])
    (at 33 9))) [] (at 34 1) (at 34 5) (at 34 7) ∷ [])) ∷ alternative.Alternative (at 35 1) (choice.Others (at 35 6)) []
    (at 35 13) (sole (at 36 1) (call_of (at 36 1) "Put" (suffix.Applied (at 36 5) (actual_of (at 36 6) (named (at 36 6)
    "Positive" (suffix.Attribute (at 36 14) (id (at 36 15) "Image") ∷ suffix.Applied (at 36 21) (actual_of (at 36 22)
    (named (at 36 22) "V1" (suffix.Applied (at 36 25) (actual_of (at 36 26) (primary.Number (at 36 26) 2)) [] (at 36 27)
    ∷ []))) [] (at 36 28) ∷ []))) [] (at 36 29) ∷ []) (at 36 30))) ∷ []) (at 37 1) (at 37 5) (at 37 9))) (at 38 1) (at
    38 5) (at 38 9))) (at 39 1) (at 39 5) (at 39 9) ∷ []))) (alternative.Alternative (at 40 1) (choice.Value (at 40 6)
    (expr_of (at 40 6) (object (at 40 6) "True"))) [] (at 40 11) (stmts.Sequence (at 41 1) (assign_of (at 41 1) "T1" []
    (at 41 4) (expr_of (at 41 7) (primary.Number (at 41 7) 0)) (at 41 8)) (stmt.While (at 42 1) (expr.AndThen (at 42 7)
    (rel.Compared (at 42 7) (sum_of (at 42 7) (object (at 42 7) "T1")) relational.Less (at 42 10) (sum_of (at 42 12)
    (primary.Number (at 42 12) 6))) (at 42 14) (at 42 18) (rel_of (at 42 23) (primary.Parenthesized (at 42 23) (expr_of
    (at 42 24) (object (at 42 24) "False")) (at 42 29))) []) (at 42 31) (stmts.Sequence (at 43 1) (stmt.Block (at 43 1)
    (sole (at 44 1) (stmt.For (at 44 1) (id (at 44 5) "I3") (at 44 8) (Some (at 44 11)) (range.Bounds (at 44 19)
    (expr_of (at 44 19) (primary.Number (at 44 19) 0)) (at 44 21) (expr_of (at 44 24) (primary.Number (at 44 24) 9)))
    (at 44 26) (sole (at 45 1) (stmt.ExitWhen (at 45 1) (at 45 6) (expr.LoneRelation (at 45 11) (rel.Compared (at 45 11)
    (sum_of (at 45 11) (primary.Parenthesized (at 45 11) (expr.LoneRelation (at 45 12) (rel.LoneSum (at 45 12)
    (sum.Signed (at 45 12) sign.Minus (term_of (at 45 13) (named (at 45 13) "V2" (suffix.Applied (at 45 16)
    (arg.Positional (at 45 17) (expr.LoneRelation (at 45 17) (rel.LoneSum (at 45 17) (sum.Unsigned (at 45 17)
    (term.Product (at 45 17) (factor_of (at 45 17) (object (at 45 17) "I3")) (next_factor.FurtherFactor (at 45 20)
    multiplying.Modulo (factor_of (at 45 24) (primary.Number (at 45 24) 1)) ∷ [])) (next_term.FurtherTerm (at 45 26)
    adding.Add (term_of (at 45 28) (primary.Number (at 45 28) 2)) ∷ []))))) [] (at 45 29) ∷ []))) []))) (at 45 30)))
    relational.GreaterEqual (at 45 32) (sum_of (at 45 35) (primary.Parenthesized (at 45 35) (expr.LoneRelation (at 45
    36) (rel.LoneSum (at 45 36) (sum.Signed (at 45 36) sign.Minus (term_of (at 45 37) (primary.Number (at 45 37) 8))
    []))) (at 45 38))))) (at 45 39))) (at 46 1) (at 46 5) (at 46 9))) (at 47 1) (at 47 4)) (assign_of (at 48 1) "T1" []
    (at 48 4) (expr.LoneRelation (at 48 7) (rel.LoneSum (at 48 7) (sum.Unsigned (at 48 7) (term_of (at 48 7) (object (at
    48 7) "T1")) (next_term.FurtherTerm (at 48 10) adding.Add (term_of (at 48 12) (primary.Number (at 48 12) 1)) ∷
    [])))) (at 48 13) ∷ [])) (at 49 1) (at 49 5) (at 49 9) ∷ [])) ∷ []) (at 50 1) (at 50 5) (at 50 9) ∷ [])) (at 51 1)
    (Some (id (at 51 5) "Main")) (at 51 9)) ∷ []) ∷ [])
unfolding computes resolves
twice_before_missing_3 = refl

-- Two components of a record.
second_component_1 : IsFirstBrokenOf Twice (at 4 68) ((unit.OfSubprogram (at 1 1) (context.With (at 1 1) (selected (at 1
    6) "Ada" (at 1 9) (at 1 10) "Text_IO") [] (at 1 17) ∷ use_context (use_of (at 1 19) None (selected (at 1 23) "Ada"
    (at 1 26) (at 1 27) "Text_IO") [] (at 1 34)) ∷ context.With (at 1 36) (selected (at 1 41) "Ada" (at 1 44) (at 1 45)
    "Integer_Text_IO") [] (at 1 60) ∷ use_context (use_of (at 1 62) None (selected (at 1 66) "Ada" (at 1 69) (at 1 70)
    "Integer_Text_IO") [] (at 1 85)) ∷ context.With (at 1 87) (selected (at 1 92) "Ada" (at 1 95) (at 1 96)
    "Unchecked_Deallocation") [] (at 1 118) ∷ []) (subprogram_of (at 2 1) (subspec.Procedure (at 2 1) (id (at 2 11)
    "Main") None) None (at 2 16) (item.IncompleteType (at 3 1) (id (at 3 6) "Cell") (at 3 10) ∷ item.AccessType (at 4 1)
    (id (at 4 6) "List") (at 4 11) (at 4 14) (mark (at 4 21) "Cell") (at 4 25) ∷ item.RecordType (at 4 27) (id (at 4 32)
    "Plain_R") (at 4 40) (at 4 43) (fields_of (id (at 4 50) "Plain_X") (next_id_of (at 4 57) (at 4 59) "Plain_Y" ∷
    next_id_of (at 4 66) (at 4 68) "plain_x" ∷ []) (at 4 76) (mark (at 4 78) "Integer") (at 4 85)) [] (at 4 87) (at 4
    91) (at 4 97) ∷ item.RecordType (at 5 1) (id (at 5 6) "Cell") (at 5 11) (at 5 14) (fields_of (id (at 5 21) "Value")
    [] (at 5 27) (mark (at 5 29) "Integer") (at 5 36)) (fields_of (id (at 5 38) "Next") [] (at 5 43) (mark (at 5 45)
    "List") (at 5 49) ∷ []) (at 5 51) (at 5 55) (at 5 61) ∷ objects_of (id (at 6 1) "X") (next_id_of (at 6 2) (at 6 4)
    "Y" ∷ []) (at 6 6) None (indication_of (mark (at 6 8) "List")) (at 6 12) ∷ initialized_of (id (at 7 1) "N") [] (at 7
    3) None (indication_of (mark (at 7 5) "Integer")) (at 7 13) (expr_of (at 7 16) (primary.Number (at 7 16) 7)) (at 7
    17) ∷ []) (at 8 1) (stmts.Sequence (at 9 1) (stmt.IfElse (at 9 1) (expr.LoneRelation (at 9 4) (rel.Compared (at 9 4)
    (sum_of (at 9 4) (object (at 9 4) "N")) relational.Greater (at 9 6) (sum_of (at 9 8) (primary.Number (at 9 8) 3))))
    (at 9 10) (sole (at 9 15) (assign_of (at 9 15) "N" [] (at 9 17) (expr.LoneRelation (at 9 20) (rel.LoneSum (at 9 20)
    (sum.Unsigned (at 9 20) (term_of (at 9 20) (object (at 9 20) "N")) (next_term.FurtherTerm (at 9 22) adding.Subtract
    (term_of (at 9 24) (primary.Number (at 9 24) 1)) ∷ [])))) (at 9 25))) [] (at 9 27) (sole (at 9 32) (stmt.Null (at 9
    32) (at 9 36))) (at 9 38) (at 9 42) (at 9 44)) (call_of (at 10 1) "Put_Line" (suffix.Applied (at 10 10) (actual_of
    (at 10 11) (named (at 10 11) "Integer" (suffix.Attribute (at 10 18) (id (at 10 19) "Image") ∷ suffix.Applied (at 10
    25) (actual_of (at 10 26) (object (at 10 26) "N")) [] (at 10 27) ∷ []))) [] (at 10 28) ∷ []) (at 10 29) ∷ [])) (at
    11 1) (Some (id (at 11 5) "Main")) (at 11 9)) ∷ []) ∷ [])
unfolding computes resolves
second_component_1 = refl

second_component_2 : IsFirstBrokenOf Twice (at 5 127) ((unit.OfSubprogram (at 1 1) (context.With (at 1 1) (selected (at
    1 6) "Ada" (at 1 9) (at 1 10) "Text_IO") [] (at 1 17) ∷ use_context (use_of (at 1 19) None (selected (at 1 23) "Ada"
    (at 1 26) (at 1 27) "Text_IO") [] (at 1 34)) ∷ context.With (at 1 36) (selected (at 1 41) "Ada" (at 1 44) (at 1 45)
    "Integer_Text_IO") [] (at 1 60) ∷ use_context (use_of (at 1 62) None (selected (at 1 66) "Ada" (at 1 69) (at 1 70)
    "Integer_Text_IO") [] (at 1 85)) ∷ context.With (at 1 87) (selected (at 1 92) "Ada" (at 1 95) (at 1 96)
    "Unchecked_Deallocation") [] (at 1 118) ∷ []) (subprogram_of (at 2 1) (subspec.Procedure (at 2 1) (id (at 2 11)
    "Main") None) None (at 2 16) (item.IncompleteType (at 3 1) (id (at 3 6) "Cell") (at 3 10) ∷ item.AccessType (at 4 1)
    (id (at 4 6) "List") (at 4 11) (at 4 14) (mark (at 4 21) "Cell") (at 4 25) ∷ item.RecordType (at 5 1) (id (at 5 6)
    "Cell") (at 5 11) (at 5 14) (fields_of (id (at 5 21) "Value") [] (at 5 27) (mark (at 5 29) "Integer") (at 5 36))
    (fields_of (id (at 5 38) "Next") [] (at 5 43) (mark (at 5 45) "List") (at 5 49) ∷ []) (at 5 51) (at 5 55) (at 5 61)
    ∷ item.RecordType (at 5 63) (id (at 5 68) "Latest_R") (at 5 77) (at 5 80) (fields_of (id (at 5 87) "Latest_X") []
    (at 5 96) (mark (at 5 98) "Integer") (at 5 105)) (fields_of (id (at 5 107) "Latest_Y") [] (at 5 116) (mark (at 5
    118) "Boolean") (at 5 125) ∷ fields_of (id (at 5 127) "Latest_Y") [] (at 5 136) (mark (at 5 138) "Integer") (at 5
    145) ∷ []) (at 5 147) (at 5 151) (at 5 157) ∷ objects_of (id (at 6 1) "X") (next_id_of (at 6 2) (at 6 4) "Y" ∷ [])
    (at 6 6) None (indication_of (mark (at 6 8) "List")) (at 6 12) ∷ initialized_of (id (at 7 1) "N") [] (at 7 3) None
    (indication_of (mark (at 7 5) "Integer")) (at 7 13) (expr_of (at 7 16) (primary.Number (at 7 16) 9)) (at 7 17) ∷ [])
    (at 8 1) (stmts.Sequence (at 9 1) (stmt.While (at 9 1) (expr.LoneRelation (at 9 7) (rel.Compared (at 9 7) (sum_of
    (at 9 7) (object (at 9 7) "N")) relational.Greater (at 9 9) (sum_of (at 9 11) (primary.Number (at 9 11) 5)))) (at 9
    13) (sole (at 9 18) (assign_of (at 9 18) "N" [] (at 9 20) (expr.LoneRelation (at 9 23) (rel.LoneSum (at 9 23)
    (sum.Unsigned (at 9 23) (term.Product (at 9 23) (factor_of (at 9 23) (object (at 9 23) "N"))
    (next_factor.FurtherFactor (at 9 25) multiplying.Divide (factor_of (at 9 27) (primary.Number (at 9 27) 2)) ∷ []))
    []))) (at 9 28))) (at 9 30) (at 9 34) (at 9 38)) (call_of (at 10 1) "Put_Line" (suffix.Applied (at 10 10) (actual_of
    (at 10 11) (named (at 10 11) "Integer" (suffix.Attribute (at 10 18) (id (at 10 19) "Image") ∷ suffix.Applied (at 10
    25) (actual_of (at 10 26) (object (at 10 26) "N")) [] (at 10 27) ∷ []))) [] (at 10 28) ∷ []) (at 10 29) ∷ assign_of
    (at 11 1) "N" [] (at 11 3) (expr.LoneRelation (at 11 6) (rel.LoneSum (at 11 6) (sum.Unsigned (at 11 6) (term.Product
    (at 11 6) (factor_of (at 11 6) (object (at 11 6) "N")) (next_factor.FurtherFactor (at 11 8) multiplying.Multiply
    (factor_of (at 11 10) (primary.Number (at 11 10) 2)) ∷ [])) (next_term.FurtherTerm (at 11 12) adding.Add (term_of
    (at 11 14) (primary.Number (at 11 14) 1)) ∷ [])))) (at 11 15) ∷ stmt.IfElse (at 12 1) (expr.LoneRelation (at 12 4)
    (rel.Compared (at 12 4) (sum_of (at 12 4) (object (at 12 4) "N")) relational.Greater (at 12 6) (sum_of (at 12 8)
    (primary.Number (at 12 8) 3)))) (at 12 10) (sole (at 12 15) (assign_of (at 12 15) "N" [] (at 12 17)
    (expr.LoneRelation (at 12 20) (rel.LoneSum (at 12 20) (sum.Unsigned (at 12 20) (term_of (at 12 20) (object (at 12
    20) "N")) (next_term.FurtherTerm (at 12 22) adding.Subtract (term_of (at 12 24) (primary.Number (at 12 24) 1)) ∷
    [])))) (at 12 25))) [] (at 12 27) (sole (at 12 32) (stmt.Null (at 12 32) (at 12 36))) (at 12 38) (at 12 42) (at 12
    44) ∷ stmt.Case (at 13 1) (expr_of (at 13 6) (object (at 13 6) "N")) (at 13 8) (alternative.Alternative (at 13 11)
    (choice.Value (at 13 16) (expr_of (at 13 16) (primary.Number (at 13 16) 1))) [] (at 13 18) (sole (at 13 21)
    (stmt.Null (at 13 21) (at 13 25)))) (alternative.Alternative (at 13 27) (choice.Others (at 13 32)) [] (at 13 39)
    (sole (at 13 42) (assign_of (at 13 42) "N" [] (at 13 44) (expr_of (at 13 47) (primary.Number (at 13 47) 2)) (at 13
    48))) ∷ []) (at 13 50) (at 13 54) (at 13 58) ∷ [])) (at 14 1) (Some (id (at 14 5) "Main")) (at 14 9)) ∷ []) ∷ [])
unfolding computes resolves
second_component_2 = refl

second_component_3 : IsFirstBrokenOf Twice (at 10 112) ((unit.OfSubprogram (at 1 7) (context.With (at 1 7) (selected (at
    1 12) "Ada" (at 1 15) (at 1 16) "Text_IO") [] (at 1 23) ∷ use_context (use_of (at 1 25) None (selected (at 1 29)
    "Ada" (at 1 32) (at 1 33) "Text_IO") [] (at 1 40)) ∷ context.With (at 2 7) (selected (at 2 12) "Ada" (at 2 15) (at 2
    16) "Integer_Text_IO") [] (at 2 31) ∷ use_context (use_of (at 2 33) None (selected (at 2 37) "Ada" (at 2 40) (at 2
    41) "Integer_Text_IO") [] (at 2 56)) ∷ context.With (at 3 4) (selected (at 3 9) "Ada" (at 3 12) (at 3 13)
    "Unchecked_Deallocation") [] (at 3 35) ∷ []) (subprogram_of (at 4 1) (subspec.Procedure (at 4 1) (id (at 4 11)
    "Main") None) None (at 4 16) (item.IncompleteType (at 5 7) (id (at 5 12) "Node1") (at 5 17) ∷ item.AccessType (at 6
    1) (id (at 6 6) "Tree1") (at 6 12) (at 6 15) (mark (at 6 22) "Node1") (at 6 27) ∷ item.RecordType (at 7 7) (id (at 7
    12) "Node1") (at 7 18) (at 7 21) (fields_of (id (at 7 28) "Key1") [] (at 7 33) (mark (at 7 35) "Integer") (at 7 42))
    (fields_of (id (at 7 44) "Left1") [] (at 7 50) (mark (at 7 52) "Tree1") (at 7 57) ∷ fields_of (id (at 7 59)
    "Right1") [] (at 7 66) (mark (at 7 68) "Tree1") (at 7 73) ∷ []) (at 7 75) (at 7 79) (at 7 85) ∷ item.Instance (at 8
    7) (id (at 8 17) "Free1") (at 8 23) (at 8 26) (selected (at 8 30) "Ada" (at 8 33) (at 8 34)
    "Unchecked_Deallocation") (at 8 57) (actual_of (at 8 58) (object (at 8 58) "Node1")) (next_arg.FurtherArg (at 8 63)
    (actual_of (at 8 65) (object (at 8 65) "Tree1")) ∷ []) (at 8 70) (at 8 71) ∷ item.RecordType (at 9 1) (id (at 9 6)
    "R1") (at 9 9) (at 9 12) (fields_of (id (at 9 19) "F1") [] (at 9 22) (mark (at 9 24) "Integer") (at 9 31))
    (fields_of (id (at 9 33) "F2") [] (at 9 36) (mark (at 9 38) "Integer") (at 9 45) ∷ []) (at 9 47) (at 9 51) (at 9 57)
    ∷ item.RecordType (at 10 1) (id (at 10 6) "R2") (at 10 9) (at 10 12) (fields_of (id (at 10 19) "F3") [] (at 10 22)
    (mark (at 10 24) "Integer") (at 10 31)) (fields_of (id (at 10 33) "F4") [] (at 10 36) (mark (at 10 38) "Integer")
    (at 10 45) ∷ fields_of (id (at 10 47) "F5") [] (at 10 50) (mark (at 10 52) "R1") (at 10 54) ∷ []) (at 10 56) (at 10
    60) (at 10 66) ∷ item.RecordType (at 10 68) (id (at 10 73) "Former_R") (at 10 82) (at 10 85) (fields_of (id (at 10
    92) "Former_X") [] (at 10 101) (mark (at 10 103) "Integer") (at 10 110)) (fields_of (id (at 10 112) "Former_X") []
    (at 10 121) (mark (at 10 123) "Boolean") (at 10 130) ∷ []) (at 10 132) (at 10 136) (at 10 142) ∷ objects_of (id (at
    11 7) "V1") (next_id_of (at 11 9) (at 11 11) "V2" ∷ []) (at 11 14) None (indication_of (mark (at 11 16) "Integer"))
    (at 11 23) ∷ initialized_of (id (at 12 7) "V3") [] (at 12 10) None (indication_of (mark (at 12 12) "R2")) (at 12 15)
    (expr_of (at 12 18) (primary.Aggregated (at 12 18) (aggregate.Several (at 12 18) (actual_of (at 12 19) (object (at
    12 19) "V2")) (at 12 21) (actual_of (at 12 23) (object (at 12 23) "V2")) (next_arg.FurtherArg (at 12 25) (actual_of
    (at 12 27) (primary.Aggregated (at 12 27) (aggregate.Several (at 12 27) (association_of (id (at 12 28) "F1") (at 12
    31) (expr_of (at 12 34) (primary.Number (at 12 34) 11))) (at 12 36) (association_of (id (at 12 38) "F2") (at 12 41)
    (expr_of (at 12 44) (primary.Parenthesized (at 12 44) (expr.LoneRelation (at 12 45) (rel.LoneSum (at 12 45)
    (sum.Signed (at 12 45) sign.Minus (term_of (at 12 46) (primary.Number (at 12 46) 9)) []))) (at 12 47)))) [] (at 12
    48)))) ∷ []) (at 12 49)))) (at 12 50) ∷ objects_of (id (at 13 4) "V4") [] (at 13 7) None (indication_of (mark (at 13
    9) "Natural")) (at 13 16) ∷ initialized_of (id (at 14 1) "V5") [] (at 14 4) None (indication_of (mark (at 14 6)
    "R2")) (at 14 9) (expr_of (at 14 12) (primary.Aggregated (at 14 12) (aggregate.Several (at 14 12) (actual_of (at 14
    13) (primary.Number (at 14 13) 11)) (at 14 15) (actual_of (at 14 17) (primary.Parenthesized (at 14 17)
    (expr.LoneRelation (at 14 18) (rel.LoneSum (at 14 18) (sum.Unsigned (at 14 18) (term.Product (at 14 18) (factor_of
    (at 14 18) (primary.Number (at 14 18) 8)) (next_factor.FurtherFactor (at 14 20) multiplying.Modulo (factor_of (at 14
    24) (primary.Number (at 14 24) 4)) ∷ [])) []))) (at 14 25))) (next_arg.FurtherArg (at 14 26) (actual_of (at 14 28)
    (primary.Aggregated (at 14 28) (aggregate.Several (at 14 28) (association_of (id (at 14 29) "F1") (at 14 32)
    (expr_of (at 14 35) (primary.Number (at 14 35) 0))) (at 14 36) (association_of (id (at 14 38) "F2") (at 14 41)
    (expr_of (at 14 44) (primary.Number (at 14 44) 37))) [] (at 14 46)))) ∷ []) (at 14 47)))) (at 14 48) ∷ objects_of
    (id (at 15 7) "V6") (next_id_of (at 15 9) (at 15 11) "V7" ∷ []) (at 15 14) None (indication_of (mark (at 15 16)
    "R2")) (at 15 18) ∷ []) (at 16 1) (stmts.Sequence (at 17 4) (assign_of (at 17 4) "V5" (suffix.Selected (at 17 6) (id
    (at 17 7) "F5") ∷ suffix.Selected (at 17 9) (id (at 17 10) "F1") ∷ []) (at 17 13) (expr_of (at 17 16)
    (primary.Number (at 17 16) 23)) (at 17 18)) (stmt.Case (at 18 1) (expr.LoneRelation (at 18 6) (rel.Compared (at 18
    6) (sum_of (at 18 6) (object (at 18 6) "V1")) relational.Less (at 18 9) (sum_of (at 18 11) (named (at 18 11)
    "Positive" (suffix.Attribute (at 18 19) (id (at 18 20) "First") ∷ []))))) (at 18 26) (alternative.Alternative (at 19
    1) (choice.Value (at 19 6) (expr_of (at 19 6) (object (at 19 6) "False"))) [] (at 19 12) (stmts.Sequence (at 20 4)
    (assign_of (at 20 4) "V7" (suffix.Selected (at 20 6) (id (at 20 7) "F5") ∷ suffix.Selected (at 20 9) (id (at 20 10)
    "F2") ∷ []) (at 20 13) (expr_of (at 20 16) (named (at 20 16) "V7" (suffix.Selected (at 20 18) (id (at 20 19) "F4") ∷
    []))) (at 20 21)) (stmt.IfElse (at 21 1) (expr.LoneRelation (at 21 4) (rel.Compared (at 21 4) (sum_of (at 21 4)
    (primary.Parenthesized (at 21 4) (expr.LoneRelation (at 21 5) (rel.LoneSum (at 21 5) (sum.Signed (at 21 5)
    sign.Minus (term_of (at 21 6) (primary.Number (at 21 6) 18)) []))) (at 21 8))) relational.GreaterEqual (at 21 10)
    (sum_of (at 21 13) (named (at 21 13) "Positive" (suffix.Attribute (at 21 21) (id (at 21 22) "First") ∷ []))))) (at
    21 28) (sole (at 22 1) (assign_of (at 22 1) "V3" (suffix.Selected (at 22 3) (id (at 22 4) "F4") ∷ []) (at 22 7)
    (expr_of (at 22 10) (primary.Parenthesized (at 22 10) (expr.LoneRelation (at 22 11) (rel.LoneSum (at 22 11)
    (sum.Unsigned (at 22 11) (term.Product (at 22 11) (factor_of (at 22 11) (named (at 22 11) "V3" (suffix.Selected (at
    22 13) (id (at 22 14) "F4") ∷ []))) (next_factor.FurtherFactor (at 22 17) multiplying.Divide (factor_of (at 22 19)
    (primary.Number (at 22 19) 8)) ∷ [])) []))) (at 22 20))) (at 22 21))) [] (at 23 1) (stmts.Sequence (at 24 1)
    (assign_of (at 24 1) "V4" [] (at 24 4) (expr_of (at 24 7) (primary.Number (at 24 7) 22)) (at 24 9)) (assign_of (at
    25 1) "V6" (suffix.Selected (at 25 3) (id (at 25 4) "F4") ∷ []) (at 25 7) (expr_of (at 25 10) (primary.Number (at 25
    10) 16)) (at 25 12) ∷ [])) (at 26 1) (at 26 5) (at 26 7) ∷ []))) (alternative.Alternative (at 27 7) (choice.Value
    (at 27 12) (expr_of (at 27 12) (object (at 27 12) "True"))) [] (at 27 17) (sole (at 28 1) (assign_of (at 28 1) "V7"
    (suffix.Selected (at 28 3) (id (at 28 4) "F5") ∷ suffix.Selected (at 28 6) (id (at 28 7) "F2") ∷ []) (at 28 10)
    (expr_of (at 28 13) (primary.Parenthesized (at 28 13) (expr.LoneRelation (at 28 14) (rel.LoneSum (at 28 14)
    (sum.Unsigned (at 28 14) (term_of (at 28 14) (primary.Number (at 28 14) 2)) (next_term.FurtherTerm (at 28 16)
    adding.Subtract (term_of (at 28 18) (object (at 28 18) "V4")) ∷ [])))) (at 28 20))) (at 28 21))) ∷ []) (at 29 1) (at
    29 5) (at 29 9) ∷ [])) (at 30 1) (Some (id (at 30 5) "Main")) (at 30 9)) ∷ []) ∷ [])
unfolding computes resolves
second_component_3 = refl
