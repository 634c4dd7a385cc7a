-- A second unit of a name, a second library procedure, or a library function: N2.
--
-- tools/tree_terms.py makes this of the sources that data/cases.txt has under its name.
use Rattle.std.proofs.Common.{refl, [], ◌∷◌}
use Rattle.std.specs.Prelude.{None, Some}
use Rattle.ada_tree.specs.declared.operator.AddingOperator.TheVariants as adding
use Rattle.ada_tree.specs.declared.expression.Aggregate.TheVariants as aggregate
use Rattle.ada_tree.specs.declared.statement.When.TheVariants as alternative
use Rattle.ada_tree.specs.declared.expression.Arg.TheVariants as arg
use Rattle.ada_tree.specs.declared.range.Choice.TheVariants as choice
use Rattle.ada_tree.specs.declared.unit.Context.TheVariants as context
use Rattle.ada_tree.specs.declared.subprogram.Decl.TheVariants as decl
use Rattle.ada_tree.specs.declared.expression.Expr.TheVariants as expr
use Rattle.ada_tree.specs.declared.expression.Factor.TheVariants as factor
use Rattle.ada_tree.specs.declared.declaration.Indication.TheVariants as indication
use Rattle.ada_tree.specs.declared.declaration.Item.TheVariants as item
use Rattle.ada_tree.specs.declared.operator.MultiplyingOperator.TheVariants as multiplying
use Rattle.ada_tree.specs.declared.expression.NextArg.TheVariants as next_arg
use Rattle.ada_tree.specs.declared.identifier.NextDotted.TheVariants as next_dotted
use Rattle.ada_tree.specs.declared.expression.NextFactor.TheVariants as next_factor
use Rattle.ada_tree.specs.declared.subprogram.NextFormal.TheVariants as next_formal
use Rattle.ada_tree.specs.declared.expression.NextTerm.TheVariants as next_term
use Rattle.ada_tree.specs.declared.unit.BodyPart.TheVariants as part
use Rattle.ada_tree.specs.declared.expression.Primary.TheVariants as primary
use Rattle.ada_tree.specs.declared.range.Range.TheVariants as range
use Rattle.ada_tree.specs.declared.expression.Rel.TheVariants as rel
use Rattle.ada_tree.specs.declared.operator.RelationalOperator.TheVariants as relational
use Rattle.ada_tree.specs.declared.operator.Sign.TheVariants as sign
use Rattle.ada_tree.specs.declared.statement.Stmt.TheVariants as stmt
use Rattle.ada_tree.specs.declared.statement.Stmts.TheVariants as stmts
use Rattle.ada_tree.specs.declared.subprogram.Subspec.TheVariants as subspec
use Rattle.ada_tree.specs.declared.expression.Suffix.TheVariants as suffix
use Rattle.ada_tree.specs.declared.expression.Sum.TheVariants as sum
use Rattle.ada_tree.specs.declared.expression.Term.TheVariants as term
use Rattle.ada_tree.specs.declared.unit.SourceUnit.TheVariants as unit
use Rattle.ada_grammar.proofs.SmallSources.{computes}
use Rattle.name_events.specs.declared.declaration.NameRule.TheVariants.{Twice}
use Rattle.name_tests.proofs.SmallRules.{resolves}
use Rattle.name_tests.proofs.SourceTrees.{IsFirstBrokenOf, actual_of, assign_of, association_of, at, at1, at2, call_of, expr_of, factor_of, fields_of, formals_of, id, indication_of, initialized_of, mark, moded_of, named, next_id_of, object, objects_of, package_body_of, package_of, selected, sole, subprogram_of, sum_of, term_of, use_context, use_of}

-- A second library procedure.
second_procedure_1 : IsFirstBrokenOf Twice (at 14 17) ((unit.OfSubprogram (at 1 4) (context.With (at 1 4) (selected (at
    1 9) "Ada" (at 1 12) (at 1 13) "Text_IO") [] (at 1 20) ∷ use_context (use_of (at 1 22) None (selected (at 1 26)
    "Ada" (at 1 29) (at 1 30) "Text_IO") [] (at 1 37)) ∷ context.With (at 1 39) (selected (at 1 44) "Ada" (at 1 47) (at
    1 48) "Integer_Text_IO") [] (at 1 63) ∷ use_context (use_of (at 1 65) None (selected (at 1 69) "Ada" (at 1 72) (at 1
    73) "Integer_Text_IO") [] (at 1 88)) ∷ context.With (at 1 90) (selected (at 1 95) "Ada" (at 1 98) (at 1 99)
    "Unchecked_Deallocation") [] (at 1 121) ∷ []) (subprogram_of (at 2 1) (subspec.Procedure (at 2 1) (id (at 2 11)
    "Main") None) None (at 2 16) (item.IncompleteType (at 3 1) (id (at 3 6) "Cell") (at 3 10) ∷ item.AccessType (at 4 1)
    (id (at 4 6) "List") (at 4 11) (at 4 14) (mark (at 4 21) "Cell") (at 4 25) ∷ item.RecordType (at 5 4) (id (at 5 9)
    "Cell") (at 5 14) (at 5 17) (fields_of (id (at 5 24) "Value") [] (at 5 30) (mark (at 5 32) "Integer") (at 5 39))
    (fields_of (id (at 5 41) "Next") [] (at 5 46) (mark (at 5 48) "List") (at 5 52) ∷ []) (at 5 54) (at 5 58) (at 5 64)
    ∷ objects_of (id (at 6 1) "X") (next_id_of (at 6 2) (at 6 4) "Y" ∷ []) (at 6 6) None (indication_of (mark (at 6 8)
    "List")) (at 6 12) ∷ initialized_of (id (at 7 1) "N") [] (at 7 3) None (indication_of (mark (at 7 5) "Integer")) (at
    7 13) (expr_of (at 7 16) (primary.Number (at 7 16) 2)) (at 7 17) ∷ []) (at 8 7) (stmts.Sequence (at 9 1)
    (stmt.IfElse (at 9 1) (expr.LoneRelation (at 9 4) (rel.Compared (at 9 4) (sum_of (at 9 4) (object (at 9 4) "N"))
    relational.Greater (at 9 6) (sum_of (at 9 8) (primary.Number (at 9 8) 3)))) (at 9 10) (sole (at 9 15) (assign_of (at
    9 15) "N" [] (at 9 17) (expr.LoneRelation (at 9 20) (rel.LoneSum (at 9 20) (sum.Unsigned (at 9 20) (term_of (at 9
    20) (object (at 9 20) "N")) (next_term.FurtherTerm (at 9 22) adding.Subtract (term_of (at 9 24) (primary.Number (at
    9 24) 1)) ∷ [])))) (at 9 25))) [] (at 9 27) (sole (at 9 32) (stmt.Null (at 9 32) (at 9 36))) (at 9 38) (at 9 42) (at
    9 44)) (stmt.For (at 10 1) (id (at 10 5) "I") (at 10 7) None (range.Bounds (at 10 10) (expr_of (at 10 10)
    (primary.Number (at 10 10) 1)) (at 10 12) (expr_of (at 10 15) (primary.Number (at 10 15) 3))) (at 10 17) (sole (at
    10 22) (assign_of (at 10 22) "N" [] (at 10 24) (expr.LoneRelation (at 10 27) (rel.LoneSum (at 10 27) (sum.Unsigned
    (at 10 27) (term_of (at 10 27) (object (at 10 27) "N")) (next_term.FurtherTerm (at 10 29) adding.Add (term_of (at 10
    31) (object (at 10 31) "I")) ∷ [])))) (at 10 32))) (at 10 34) (at 10 38) (at 10 42) ∷ stmt.While (at 11 4)
    (expr.LoneRelation (at 11 10) (rel.Compared (at 11 10) (sum_of (at 11 10) (object (at 11 10) "N"))
    relational.Greater (at 11 12) (sum_of (at 11 14) (primary.Number (at 11 14) 5)))) (at 11 16) (sole (at 11 21)
    (assign_of (at 11 21) "N" [] (at 11 23) (expr.LoneRelation (at 11 26) (rel.LoneSum (at 11 26) (sum.Unsigned (at 11
    26) (term.Product (at 11 26) (factor_of (at 11 26) (object (at 11 26) "N")) (next_factor.FurtherFactor (at 11 28)
    multiplying.Divide (factor_of (at 11 30) (primary.Number (at 11 30) 2)) ∷ [])) []))) (at 11 31))) (at 11 33) (at 11
    37) (at 11 41) ∷ stmt.Case (at 12 4) (expr_of (at 12 9) (object (at 12 9) "N")) (at 12 11) (alternative.Alternative
    (at 12 14) (choice.Value (at 12 19) (expr_of (at 12 19) (primary.Number (at 12 19) 1))) [] (at 12 21) (sole (at 12
    24) (stmt.Null (at 12 24) (at 12 28)))) (alternative.Alternative (at 12 30) (choice.Others (at 12 35)) [] (at 12 42)
    (sole (at 12 45) (assign_of (at 12 45) "N" [] (at 12 47) (expr_of (at 12 50) (primary.Number (at 12 50) 2)) (at 12
    51))) ∷ []) (at 12 53) (at 12 57) (at 12 61) ∷ [])) (at 13 1) (Some (id (at 13 5) "Main")) (at 13 9)) ∷
    unit.OfSubprogram (at 14 7) [] (subprogram_of (at 14 7) (subspec.Procedure (at 14 7) (id (at 14 17) "Inner_Q") None)
    None (at 14 25) [] (at 14 28) (sole (at 14 34) (stmt.Null (at 14 34) (at 14 38))) (at 14 40) (Some (id (at 14 44)
    "Inner_Q")) (at 14 51)) ∷ []) ∷ [])
unfolding computes resolves
second_procedure_1 = refl

second_procedure_2 : IsFirstBrokenOf Twice (at 8 130) ((unit.OfSubprogram (at 1 1) (context.With (at 1 1) (selected (at
    1 6) "Ada" (at 1 9) (at 1 10) "Text_IO") [] (at 1 17) ∷ use_context (use_of (at 1 19) None (selected (at 1 23) "Ada"
    (at 1 26) (at 1 27) "Text_IO") [] (at 1 34)) ∷ context.With (at 1 36) (selected (at 1 41) "Ada" (at 1 44) (at 1 45)
    "Integer_Text_IO") [] (at 1 60) ∷ use_context (use_of (at 1 62) None (selected (at 1 66) "Ada" (at 1 69) (at 1 70)
    "Integer_Text_IO") [] (at 1 85)) ∷ context.With (at 1 87) (selected (at 1 92) "Ada" (at 1 95) (at 1 96)
    "Unchecked_Deallocation") [] (at 1 118) ∷ []) (subprogram_of (at 2 1) (subspec.Procedure (at 2 1) (id (at 2 11)
    "Main") None) None (at 2 16) (item.IncompleteType (at 2 19) (id (at 2 24) "Cell") (at 2 28) ∷ item.AccessType (at 2
    30) (id (at 2 35) "List") (at 2 40) (at 2 43) (mark (at 2 50) "Cell") (at 2 54) ∷ item.RecordType (at 3 1) (id (at 3
    6) "Cell") (at 3 11) (at 3 14) (fields_of (id (at 3 21) "Value") [] (at 3 27) (mark (at 3 29) "Integer") (at 3 36))
    (fields_of (id (at 3 38) "Next") [] (at 3 43) (mark (at 3 45) "List") (at 3 49) ∷ []) (at 3 51) (at 3 55) (at 3 61)
    ∷ objects_of (id (at 3 63) "X") (next_id_of (at 3 64) (at 3 66) "Y" ∷ []) (at 3 68) None (indication_of (mark (at 3
    70) "List")) (at 3 74) ∷ initialized_of (id (at 3 76) "N") [] (at 3 78) None (indication_of (mark (at 3 80)
    "Integer")) (at 3 88) (expr_of (at 3 91) (primary.Number (at 3 91) 7)) (at 3 92) ∷ []) (at 4 1) (stmts.Sequence (at
    5 1) (assign_of (at 5 1) "Y" [] (at 5 3) (expr_of (at 5 6) (object (at 5 6) "X")) (at 5 7)) (assign_of (at 5 9) "X"
    [] (at 5 11) (expr_of (at 5 14) (primary.Null (at 5 14))) (at 5 18) ∷ assign_of (at 5 20) "N" [] (at 5 22)
    (expr.LoneRelation (at 5 25) (rel.LoneSum (at 5 25) (sum.Unsigned (at 5 25) (term.Product (at 5 25) (factor_of (at 5
    25) (object (at 5 25) "N")) (next_factor.FurtherFactor (at 5 27) multiplying.Multiply (factor_of (at 5 29)
    (primary.Number (at 5 29) 2)) ∷ [])) (next_term.FurtherTerm (at 5 31) adding.Add (term_of (at 5 33) (primary.Number
    (at 5 33) 1)) ∷ [])))) (at 5 34) ∷ call_of (at 5 36) "Put_Line" (suffix.Applied (at 5 45) (actual_of (at 5 46)
    (named (at 5 46) "Integer" (suffix.Attribute (at 5 53) (id (at 5 54) "Image") ∷ suffix.Applied (at 5 60) (actual_of
    (at 5 61) (object (at 5 61) "N")) [] (at 5 62) ∷ []))) [] (at 5 63) ∷ []) (at 5 64) ∷ stmt.For (at 6 1) (id (at 6 5)
    "I") (at 6 7) None (range.Bounds (at 6 10) (expr_of (at 6 10) (primary.Number (at 6 10) 1)) (at 6 12) (expr_of (at 6
    15) (primary.Number (at 6 15) 3))) (at 6 17) (sole (at 6 22) (assign_of (at 6 22) "N" [] (at 6 24)
    (expr.LoneRelation (at 6 27) (rel.LoneSum (at 6 27) (sum.Unsigned (at 6 27) (term_of (at 6 27) (object (at 6 27)
    "N")) (next_term.FurtherTerm (at 6 29) adding.Add (term_of (at 6 31) (object (at 6 31) "I")) ∷ [])))) (at 6 32)))
    (at 6 34) (at 6 38) (at 6 42) ∷ [])) (at 7 1) (Some (id (at 7 5) "Main")) (at 7 9)) ∷ unit.OfSubprogram (at 8 1)
    (context.With (at 8 1) (selected (at 8 6) "Ada" (at 8 9) (at 8 10) "Text_IO") [] (at 8 17) ∷ use_context (use_of (at
    8 19) None (selected (at 8 23) "Ada" (at 8 26) (at 8 27) "Text_IO") [] (at 8 34)) ∷ context.With (at 8 36) (selected
    (at 8 41) "Ada" (at 8 44) (at 8 45) "Integer_Text_IO") [] (at 8 60) ∷ use_context (use_of (at 8 62) None (selected
    (at 8 66) "Ada" (at 8 69) (at 8 70) "Integer_Text_IO") [] (at 8 85)) ∷ context.With (at 8 87) (selected (at 8 92)
    "Ada" (at 8 95) (at 8 96) "Unchecked_Deallocation") [] (at 8 118) ∷ []) (subprogram_of (at 8 120) (subspec.Procedure
    (at 8 120) (id (at 8 130) "Main") None) None (at 8 135) [] (at 8 138) (sole (at 8 144) (call_of (at 8 144)
    "New_Line" [] (at 8 152))) (at 8 154) (Some (id (at 8 158) "Main")) (at 8 162)) ∷ []) ∷ [])
unfolding computes resolves
second_procedure_2 = refl

second_procedure_3 : IsFirstBrokenOf Twice (at2 7 76) ((unit.OfPackage (at 1 1) (context.With (at 1 1) (selected (at 1
    6) "Ada" (at 1 9) (at 1 10) "Text_IO") [] (at 1 17) ∷ use_context (use_of (at 1 19) None (selected (at 1 23) "Ada"
    (at 1 26) (at 1 27) "Text_IO") [] (at 1 34)) ∷ context.With (at 1 36) (selected (at 1 41) "Ada" (at 1 44) (at 1 45)
    "Integer_Text_IO") [] (at 1 60) ∷ use_context (use_of (at 1 62) None (selected (at 1 66) "Ada" (at 1 69) (at 1 70)
    "Integer_Text_IO") [] (at 1 85)) ∷ context.With (at 1 87) (selected (at 1 92) "Ada" (at 1 95) (at 1 96)
    "Unchecked_Deallocation") [] (at 1 118) ∷ []) (package_of (at 2 1) (id (at 2 9) "Store") None (at 2 15) (decl.OfItem
    (at 2 18) (item.IncompleteType (at 2 18) (id (at 2 23) "Cell") (at 2 27)) ∷ decl.OfItem (at 2 29) (item.AccessType
    (at 2 29) (id (at 2 34) "List") (at 2 39) (at 2 42) (mark (at 2 49) "Cell") (at 2 53)) ∷ decl.OfItem (at 3 1)
    (item.RecordType (at 3 1) (id (at 3 6) "Cell") (at 3 11) (at 3 14) (fields_of (id (at 3 21) "Value") [] (at 3 27)
    (mark (at 3 29) "Integer") (at 3 36)) (fields_of (id (at 3 38) "Next") [] (at 3 43) (mark (at 3 45) "List") (at 3
    49) ∷ []) (at 3 51) (at 3 55) (at 3 61)) ∷ decl.Subprogram (at 4 1) (subspec.Procedure (at 4 1) (id (at 4 11)
    "Push") (Some (formals_of (at 4 16) (moded_of (id (at 4 17) "L") [] (at 4 19) (Some (at 4 21)) (Some (at 4 24))
    (mark (at 4 28) "List")) (next_formal.Semicolon (at 4 32) (moded_of (id (at 4 34) "V") [] (at 4 36) None None (mark
    (at 4 38) "Integer")) ∷ []) (at 4 45)))) None (at 4 46) ∷ decl.Subprogram (at 5 1) (subspec.Function (at 5 1) (id
    (at 5 10) "Sum") (Some (formals_of (at 5 14) (moded_of (id (at 5 15) "L") [] (at 5 17) None None (mark (at 5 19)
    "List")) [] (at 5 23))) (at 5 25) (indication_of (mark (at 5 32) "Integer"))) None (at 5 39) ∷ decl.OfItem (at 5 41)
    (objects_of (id (at 5 41) "Total") [] (at 5 47) None (indication_of (mark (at 5 49) "Integer")) (at 5 56)) ∷ [])
    None (at 5 58) (Some (id (at 5 62) "Store")) (at 5 67)) ∷ []) ∷ (unit.OfBody (at1 1 1) [] (package_body_of (at1 1 1)
    (at1 1 9) (id (at1 1 14) "Store") None (at1 1 20) (part.Completed (at1 2 1) (subprogram_of (at1 2 1)
    (subspec.Procedure (at1 2 1) (id (at1 2 11) "Push") (Some (formals_of (at1 2 16) (moded_of (id (at1 2 17) "L") []
    (at1 2 19) (Some (at1 2 21)) (Some (at1 2 24)) (mark (at1 2 28) "List")) (next_formal.Semicolon (at1 2 32) (moded_of
    (id (at1 2 34) "V") [] (at1 2 36) None None (mark (at1 2 38) "Integer")) ∷ []) (at1 2 45)))) None (at1 2 47) [] (at1
    3 1) (sole (at1 3 7) (assign_of (at1 3 7) "L" [] (at1 3 9) (expr_of (at1 3 12) (primary.AllocatedAggregate (at1 3
    12) (mark (at1 3 16) "Cell") (at1 3 20) (aggregate.Several (at1 3 21) (actual_of (at1 3 22) (object (at1 3 22) "V"))
    (at1 3 23) (actual_of (at1 3 25) (object (at1 3 25) "L")) [] (at1 3 26)))) (at1 3 27))) (at1 3 29) (Some (id (at1 3
    33) "Push")) (at1 3 37)) ∷ part.Completed (at1 3 39) (subprogram_of (at1 3 39) (subspec.Function (at1 3 39) (id (at1
    3 48) "Sum") (Some (formals_of (at1 3 52) (moded_of (id (at1 3 53) "L") [] (at1 3 55) None None (mark (at1 3 57)
    "List")) [] (at1 3 61))) (at1 3 63) (indication_of (mark (at1 3 70) "Integer"))) None (at1 3 78) (initialized_of (id
    (at1 3 81) "C") [] (at1 3 83) None (indication.Anonymous (at1 3 85) (Some (at1 3 92)) (mark (at1 3 101) "Cell"))
    (at1 3 106) (expr_of (at1 3 109) (object (at1 3 109) "L")) (at1 3 110) ∷ initialized_of (id (at1 4 1) "N") [] (at1 4
    3) None (indication_of (mark (at1 4 5) "Integer")) (at1 4 13) (expr_of (at1 4 16) (primary.Number (at1 4 16) 0))
    (at1 4 17) ∷ []) (at1 4 19) (stmts.Sequence (at1 4 25) (stmt.While (at1 4 25) (expr.LoneRelation (at1 4 31)
    (rel.Compared (at1 4 31) (sum_of (at1 4 31) (object (at1 4 31) "C")) relational.NotEqual (at1 4 33) (sum_of (at1 4
    36) (primary.Null (at1 4 36))))) (at1 4 41) (stmts.Sequence (at1 4 46) (assign_of (at1 4 46) "N" [] (at1 4 48)
    (expr.LoneRelation (at1 4 51) (rel.LoneSum (at1 4 51) (sum.Unsigned (at1 4 51) (term_of (at1 4 51) (object (at1 4
    51) "N")) (next_term.FurtherTerm (at1 4 53) adding.Add (term_of (at1 4 55) (named (at1 4 55) "C" (suffix.Selected
    (at1 4 56) (id (at1 4 57) "Value") ∷ []))) ∷ [])))) (at1 4 62)) (assign_of (at1 4 64) "C" [] (at1 4 66) (expr_of
    (at1 4 69) (named (at1 4 69) "C" (suffix.Selected (at1 4 70) (id (at1 4 71) "Next") ∷ []))) (at1 4 75) ∷ [])) (at1 4
    77) (at1 4 81) (at1 4 85)) (stmt.ReturnValue (at1 4 87) (expr_of (at1 4 94) (object (at1 4 94) "N")) (at1 4 95) ∷
    [])) (at1 5 1) (Some (id (at1 5 5) "Sum")) (at1 5 8)) ∷ []) (at1 6 1) (Some (id (at1 6 5) "Store")) (at1 6 10)) ∷
    []) ∷ (unit.OfSubprogram (at2 1 1) (context.With (at2 1 1) (selected (at2 1 6) "Ada" (at2 1 9) (at2 1 10) "Text_IO")
    [] (at2 1 17) ∷ use_context (use_of (at2 1 19) None (selected (at2 1 23) "Ada" (at2 1 26) (at2 1 27) "Text_IO") []
    (at2 1 34)) ∷ context.With (at2 1 36) (selected (at2 1 41) "Ada" (at2 1 44) (at2 1 45) "Integer_Text_IO") [] (at2 1
    60) ∷ use_context (use_of (at2 1 62) None (selected (at2 1 66) "Ada" (at2 1 69) (at2 1 70) "Integer_Text_IO") []
    (at2 1 85)) ∷ context.With (at2 1 87) (selected (at2 1 92) "Ada" (at2 1 95) (at2 1 96) "Unchecked_Deallocation") []
    (at2 1 118) ∷ context.With (at2 1 120) (mark (at2 1 125) "Store") [] (at2 1 130) ∷ use_context (use_of (at2 1 132)
    None (mark (at2 1 136) "Store") [] (at2 1 141)) ∷ []) (subprogram_of (at2 2 1) (subspec.Procedure (at2 2 1) (id (at2
    2 11) "Main") None) None (at2 2 16) (objects_of (id (at2 2 19) "X") (next_id_of (at2 2 20) (at2 2 22) "Y" ∷ []) (at2
    2 24) None (indication_of (mark (at2 2 26) "List")) (at2 2 30) ∷ initialized_of (id (at2 2 32) "N") [] (at2 2 34)
    None (indication_of (mark (at2 2 36) "Integer")) (at2 2 44) (expr_of (at2 2 47) (primary.Number (at2 2 47) 4)) (at2
    2 48) ∷ []) (at2 2 50) (stmts.Sequence (at2 2 56) (assign_of (at2 2 56) "Y" [] (at2 2 58) (expr_of (at2 2 61)
    (object (at2 2 61) "X")) (at2 2 62)) (assign_of (at2 2 64) "X" [] (at2 2 66) (expr_of (at2 2 69) (primary.Null (at2
    2 69))) (at2 2 73) ∷ stmt.If (at2 2 75) (expr.LoneRelation (at2 2 78) (rel.LoneSum (at2 2 78) (sum.Unsigned (at2 2
    78) (term.Product (at2 2 78) (factor.Not (at2 2 78) (object (at2 2 82) "End_Of_File")) []) []))) (at2 2 94) (sole
    (at2 2 99) (call_of (at2 2 99) "Get" (suffix.Applied (at2 2 103) (actual_of (at2 2 104) (object (at2 2 104) "N")) []
    (at2 2 105) ∷ []) (at2 2 106))) [] (at2 2 108) (at2 2 112) (at2 2 114) ∷ call_of (at2 3 1) "Put_Line"
    (suffix.Applied (at2 3 10) (actual_of (at2 3 11) (named (at2 3 11) "Integer" (suffix.Attribute (at2 3 18) (id (at2 3
    19) "Image") ∷ suffix.Applied (at2 3 25) (actual_of (at2 3 26) (object (at2 3 26) "N")) [] (at2 3 27) ∷ []))) []
    (at2 3 28) ∷ []) (at2 3 29) ∷ stmt.While (at2 4 1) (expr.LoneRelation (at2 4 7) (rel.Compared (at2 4 7) (sum_of (at2
    4 7) (object (at2 4 7) "N")) relational.Greater (at2 4 9) (sum_of (at2 4 11) (primary.Number (at2 4 11) 5)))) (at2 4
    13) (sole (at2 4 18) (assign_of (at2 4 18) "N" [] (at2 4 20) (expr.LoneRelation (at2 4 23) (rel.LoneSum (at2 4 23)
    (sum.Unsigned (at2 4 23) (term.Product (at2 4 23) (factor_of (at2 4 23) (object (at2 4 23) "N"))
    (next_factor.FurtherFactor (at2 4 25) multiplying.Divide (factor_of (at2 4 27) (primary.Number (at2 4 27) 2)) ∷ []))
    []))) (at2 4 28))) (at2 4 30) (at2 4 34) (at2 4 38) ∷ stmt.IfElse (at2 5 1) (expr.LoneRelation (at2 5 4)
    (rel.Compared (at2 5 4) (sum_of (at2 5 4) (object (at2 5 4) "N")) relational.Greater (at2 5 6) (sum_of (at2 5 8)
    (primary.Number (at2 5 8) 3)))) (at2 5 10) (sole (at2 5 15) (assign_of (at2 5 15) "N" [] (at2 5 17)
    (expr.LoneRelation (at2 5 20) (rel.LoneSum (at2 5 20) (sum.Unsigned (at2 5 20) (term_of (at2 5 20) (object (at2 5
    20) "N")) (next_term.FurtherTerm (at2 5 22) adding.Subtract (term_of (at2 5 24) (primary.Number (at2 5 24) 1)) ∷
    [])))) (at2 5 25))) [] (at2 5 27) (sole (at2 5 32) (stmt.Null (at2 5 32) (at2 5 36))) (at2 5 38) (at2 5 42) (at2 5
    44) ∷ [])) (at2 6 1) (Some (id (at2 6 5) "Main")) (at2 6 9)) ∷ unit.OfPackage (at2 7 1) [] (package_of (at2 7 1) (id
    (at2 7 9) "Quick_P") None (at2 7 17) (decl.OfItem (at2 7 20) (objects_of (id (at2 7 20) "Quick_X") [] (at2 7 28)
    None (indication_of (mark (at2 7 30) "Integer")) (at2 7 37)) ∷ []) None (at2 7 39) (Some (id (at2 7 43) "Quick_P"))
    (at2 7 50)) ∷ unit.OfSubprogram (at2 7 52) (context.With (at2 7 52) (mark (at2 7 57) "Quick_P") [] (at2 7 64) ∷ [])
    (subprogram_of (at2 7 66) (subspec.Procedure (at2 7 66) (id (at2 7 76) "Quick_Q") None) None (at2 7 84) [] (at2 7
    87) (sole (at2 7 93) (assign_of (at2 7 93) "Quick_P" (suffix.Selected (at2 7 100) (id (at2 7 101) "Quick_X") ∷ [])
    (at2 7 109) (expr_of (at2 7 112) (primary.Number (at2 7 112) 1)) (at2 7 113))) (at2 7 115) (Some (id (at2 7 119)
    "Quick_Q")) (at2 7 126)) ∷ []) ∷ [])
unfolding computes resolves
second_procedure_3 = refl

-- A second package, a second body, or a unit with a predefined name.
second_unit_1 : IsFirstBrokenOf Twice (at 2 9) ((unit.OfPackage (at 1 7) [] (package_of (at 1 7) (id (at 1 15)
    "Quick_P") None (at 1 23) (decl.OfItem (at 1 26) (objects_of (id (at 1 26) "Quick_X") [] (at 1 34) None
    (indication_of (mark (at 1 36) "Integer")) (at 1 43)) ∷ []) None (at 1 45) (Some (id (at 1 49) "Quick_P")) (at 1
    56)) ∷ unit.OfPackage (at 2 1) [] (package_of (at 2 1) (id (at 2 9) "Quick_P") None (at 2 17) (decl.OfItem (at 2 20)
    (objects_of (id (at 2 20) "Quick_Y") [] (at 2 28) None (indication_of (mark (at 2 30) "Integer")) (at 2 37)) ∷ [])
    None (at 2 39) (Some (id (at 2 43) "Quick_P")) (at 2 50)) ∷ unit.OfSubprogram (at 3 1) (context.With (at 3 1)
    (selected (at 3 6) "Ada" (at 3 9) (at 3 10) "Text_IO") [] (at 3 17) ∷ use_context (use_of (at 3 19) None (selected
    (at 3 23) "Ada" (at 3 26) (at 3 27) "Text_IO") [] (at 3 34)) ∷ context.With (at 3 36) (selected (at 3 41) "Ada" (at
    3 44) (at 3 45) "Integer_Text_IO") [] (at 3 60) ∷ use_context (use_of (at 3 62) None (selected (at 3 66) "Ada" (at 3
    69) (at 3 70) "Integer_Text_IO") [] (at 3 85)) ∷ context.With (at 3 87) (selected (at 3 92) "Ada" (at 3 95) (at 3
    96) "Unchecked_Deallocation") [] (at 3 118) ∷ []) (subprogram_of (at 4 4) (subspec.Procedure (at 4 4) (id (at 4 14)
    "Main") None) None (at 4 19) (item.IncompleteType (at 5 1) (id (at 5 6) "Cell") (at 5 10) ∷ item.AccessType (at 6 4)
    (id (at 6 9) "List") (at 6 14) (at 6 17) (mark (at 6 24) "Cell") (at 6 28) ∷ item.RecordType (at 7 1) (id (at 7 6)
    "Cell") (at 7 11) (at 7 14) (fields_of (id (at 7 21) "Value") [] (at 7 27) (mark (at 7 29) "Integer") (at 7 36))
    (fields_of (id (at 7 38) "Next") [] (at 7 43) (mark (at 7 45) "List") (at 7 49) ∷ []) (at 7 51) (at 7 55) (at 7 61)
    ∷ objects_of (id (at 8 4) "X") (next_id_of (at 8 5) (at 8 7) "Y" ∷ []) (at 8 9) None (indication_of (mark (at 8 11)
    "List")) (at 8 15) ∷ initialized_of (id (at 9 4) "N") [] (at 9 6) None (indication_of (mark (at 9 8) "Integer")) (at
    9 16) (expr_of (at 9 19) (primary.Number (at 9 19) 4)) (at 9 20) ∷ []) (at 10 1) (stmts.Sequence (at 11 7)
    (stmt.Case (at 11 7) (expr_of (at 11 12) (object (at 11 12) "N")) (at 11 14) (alternative.Alternative (at 11 17)
    (choice.Value (at 11 22) (expr_of (at 11 22) (primary.Number (at 11 22) 1))) [] (at 11 24) (sole (at 11 27)
    (stmt.Null (at 11 27) (at 11 31)))) (alternative.Alternative (at 11 33) (choice.Others (at 11 38)) [] (at 11 45)
    (sole (at 11 48) (assign_of (at 11 48) "N" [] (at 11 50) (expr_of (at 11 53) (primary.Number (at 11 53) 2)) (at 11
    54))) ∷ []) (at 11 56) (at 11 60) (at 11 64)) (stmt.If (at 12 1) (expr.LoneRelation (at 12 4) (rel.LoneSum (at 12 4)
    (sum.Unsigned (at 12 4) (term.Product (at 12 4) (factor.Not (at 12 4) (object (at 12 8) "End_Of_File")) []) [])))
    (at 12 20) (sole (at 12 25) (call_of (at 12 25) "Get" (suffix.Applied (at 12 29) (actual_of (at 12 30) (object (at
    12 30) "N")) [] (at 12 31) ∷ []) (at 12 32))) [] (at 12 34) (at 12 38) (at 12 40) ∷ [])) (at 13 4) (Some (id (at 13
    8) "Main")) (at 13 12)) ∷ []) ∷ [])
unfolding computes resolves
second_unit_1 = refl

second_unit_2 : IsFirstBrokenOf Twice (at 3 17) ((unit.OfPackage (at 1 7) [] (package_of (at 1 7) (id (at 1 15)
    "Quick_P") None (at 1 23) (decl.Subprogram (at 1 26) (subspec.Procedure (at 1 26) (id (at 1 36) "Quick_Q") None)
    None (at 1 43) ∷ []) None (at 1 45) (Some (id (at 1 49) "Quick_P")) (at 1 56)) ∷ unit.OfBody (at 2 4) []
    (package_body_of (at 2 4) (at 2 12) (id (at 2 17) "Quick_P") None (at 2 25) (part.Completed (at 2 28) (subprogram_of
    (at 2 28) (subspec.Procedure (at 2 28) (id (at 2 38) "Quick_Q") None) None (at 2 46) [] (at 2 49) (sole (at 2 55)
    (stmt.Null (at 2 55) (at 2 59))) (at 2 61) (Some (id (at 2 65) "Quick_Q")) (at 2 72)) ∷ []) (at 2 74) (Some (id (at
    2 78) "Quick_P")) (at 2 85)) ∷ unit.OfBody (at 3 4) [] (package_body_of (at 3 4) (at 3 12) (id (at 3 17) "Quick_P")
    None (at 3 25) (part.Declared (at 3 28) (decl.OfItem (at 3 28) (objects_of (id (at 3 28) "Quick_X") [] (at 3 36)
    None (indication_of (mark (at 3 38) "Integer")) (at 3 45))) ∷ []) (at 3 47) (Some (id (at 3 51) "Quick_P")) (at 3
    58)) ∷ unit.OfSubprogram (at 4 4) (context.With (at 4 4) (selected (at 4 9) "Ada" (at 4 12) (at 4 13) "Text_IO") []
    (at 4 20) ∷ use_context (use_of (at 4 22) None (selected (at 4 26) "Ada" (at 4 29) (at 4 30) "Text_IO") [] (at 4
    37)) ∷ context.With (at 4 39) (selected (at 4 44) "Ada" (at 4 47) (at 4 48) "Integer_Text_IO") [] (at 4 63) ∷
    use_context (use_of (at 4 65) None (selected (at 4 69) "Ada" (at 4 72) (at 4 73) "Integer_Text_IO") [] (at 4 88)) ∷
    context.With (at 4 90) (selected (at 4 95) "Ada" (at 4 98) (at 4 99) "Unchecked_Deallocation") [] (at 4 121) ∷ [])
    (subprogram_of (at 5 1) (subspec.Procedure (at 5 1) (id (at 5 11) "Main") None) None (at 5 16) (item.IncompleteType
    (at 6 1) (id (at 6 6) "Cell") (at 6 10) ∷ item.AccessType (at 7 1) (id (at 7 6) "List") (at 7 11) (at 7 14) (mark
    (at 7 21) "Cell") (at 7 25) ∷ item.RecordType (at 8 4) (id (at 8 9) "Cell") (at 8 14) (at 8 17) (fields_of (id (at 8
    24) "Value") [] (at 8 30) (mark (at 8 32) "Integer") (at 8 39)) (fields_of (id (at 8 41) "Next") [] (at 8 46) (mark
    (at 8 48) "List") (at 8 52) ∷ []) (at 8 54) (at 8 58) (at 8 64) ∷ objects_of (id (at 9 1) "X") (next_id_of (at 9 2)
    (at 9 4) "Y" ∷ []) (at 9 6) None (indication_of (mark (at 9 8) "List")) (at 9 12) ∷ initialized_of (id (at 10 7)
    "N") [] (at 10 9) None (indication_of (mark (at 10 11) "Integer")) (at 10 19) (expr_of (at 10 22) (primary.Number
    (at 10 22) 7)) (at 10 23) ∷ item.Instance (at 11 1) (id (at 11 11) "Free") (at 11 16) (at 11 19) (selected (at 11
    23) "Ada" (at 11 26) (at 11 27) "Unchecked_Deallocation") (at 11 50) (actual_of (at 11 51) (object (at 11 51)
    "Cell")) (next_arg.FurtherArg (at 11 55) (actual_of (at 11 57) (object (at 11 57) "List")) ∷ []) (at 11 61) (at 11
    62) ∷ []) (at 12 4) (stmts.Sequence (at 13 1) (stmt.IfElse (at 13 1) (expr.LoneRelation (at 13 4) (rel.Compared (at
    13 4) (sum_of (at 13 4) (object (at 13 4) "N")) relational.Greater (at 13 6) (sum_of (at 13 8) (primary.Number (at
    13 8) 3)))) (at 13 10) (sole (at 13 15) (assign_of (at 13 15) "N" [] (at 13 17) (expr.LoneRelation (at 13 20)
    (rel.LoneSum (at 13 20) (sum.Unsigned (at 13 20) (term_of (at 13 20) (object (at 13 20) "N")) (next_term.FurtherTerm
    (at 13 22) adding.Subtract (term_of (at 13 24) (primary.Number (at 13 24) 1)) ∷ [])))) (at 13 25))) [] (at 13 27)
    (sole (at 13 32) (stmt.Null (at 13 32) (at 13 36))) (at 13 38) (at 13 42) (at 13 44)) (assign_of (at 14 7) "N" []
    (at 14 9) (expr.LoneRelation (at 14 12) (rel.LoneSum (at 14 12) (sum.Unsigned (at 14 12) (term.Product (at 14 12)
    (factor_of (at 14 12) (object (at 14 12) "N")) (next_factor.FurtherFactor (at 14 14) multiplying.Multiply (factor_of
    (at 14 16) (primary.Number (at 14 16) 2)) ∷ [])) (next_term.FurtherTerm (at 14 18) adding.Add (term_of (at 14 20)
    (primary.Number (at 14 20) 1)) ∷ [])))) (at 14 21) ∷ assign_of (at 15 1) "Y" [] (at 15 3) (expr_of (at 15 6) (object
    (at 15 6) "X")) (at 15 7) ∷ assign_of (at 15 9) "X" [] (at 15 11) (expr_of (at 15 14) (primary.Null (at 15 14))) (at
    15 18) ∷ assign_of (at 16 1) "X" [] (at 16 3) (expr_of (at 16 6) (primary.AllocatedAggregate (at 16 6) (mark (at 16
    10) "Cell") (at 16 14) (aggregate.Several (at 16 15) (actual_of (at 16 16) (object (at 16 16) "N")) (at 16 17)
    (actual_of (at 16 19) (primary.Null (at 16 19))) [] (at 16 23)))) (at 16 24) ∷ [])) (at 17 1) (Some (id (at 17 5)
    "Main")) (at 17 9)) ∷ []) ∷ [])
unfolding computes resolves
second_unit_2 = refl

second_unit_3 : IsFirstBrokenOf Twice (at 1 9) ((unit.OfPackage (at 1 1) [] (package_of (at 1 1) (id (at 1 9) "Boolean")
    None (at 1 17) (decl.OfItem (at 1 20) (objects_of (id (at 1 20) "Usual_X") [] (at 1 28) None (indication_of (mark
    (at 1 30) "Integer")) (at 1 37)) ∷ []) None (at 1 39) None (at 1 42)) ∷ unit.OfSubprogram (at 2 1) (context.With (at
    2 1) (selected (at 2 6) "Ada" (at 2 9) (at 2 10) "Text_IO") (next_dotted.FurtherDotted (at 2 17) (selected (at 2 19)
    "Ada" (at 2 22) (at 2 23) "Integer_Text_IO") ∷ next_dotted.FurtherDotted (at 2 38) (selected (at 2 40) "Ada" (at 2
    43) (at 2 44) "Unchecked_Deallocation") ∷ []) (at 2 66) ∷ use_context (use_of (at 2 68) None (selected (at 2 72)
    "Ada" (at 2 75) (at 2 76) "Text_IO") (next_dotted.FurtherDotted (at 2 83) (selected (at 2 85) "Ada" (at 2 88) (at 2
    89) "Integer_Text_IO") ∷ []) (at 2 104)) ∷ []) (subprogram_of (at 3 1) (subspec.Procedure (at 3 1) (id (at 3 11)
    "Main") None) None (at 3 16) (item.IncompleteType (at 3 19) (id (at 3 24) "Cell1") (at 3 29) ∷ item.AccessType (at 4
    1) (id (at 4 6) "List1") (at 4 12) (at 4 15) (mark (at 4 22) "Cell1") (at 4 27) ∷ item.RecordType (at 5 1) (id (at 5
    6) "Cell1") (at 5 12) (at 5 15) (fields_of (id (at 5 22) "Val1") [] (at 5 27) (mark (at 5 29) "Integer") (at 5 36))
    (fields_of (id (at 5 38) "Next1") [] (at 5 44) (mark (at 5 46) "List1") (at 5 51) ∷ []) (at 5 53) (at 5 57) (at 5
    63) ∷ item.Instance (at 6 1) (id (at 6 11) "Free1") (at 6 17) (at 6 20) (selected (at 6 24) "Ada" (at 6 27) (at 6
    28) "Unchecked_Deallocation") (at 6 51) (actual_of (at 6 52) (object (at 6 52) "Cell1")) (next_arg.FurtherArg (at 6
    57) (actual_of (at 6 59) (object (at 6 59) "List1")) ∷ []) (at 6 64) (at 6 65) ∷ item.ArrayType (at 7 1) (id (at 7
    6) "A1") (at 7 9) (at 7 12) (at 7 18) (range.Bounds (at 7 19) (expr.LoneRelation (at 7 19) (rel.LoneSum (at 7 19)
    (sum.Signed (at 7 19) sign.Minus (term_of (at 7 20) (primary.Number (at 7 20) 1)) []))) (at 7 22) (expr_of (at 7 25)
    (primary.Number (at 7 25) 5))) (at 7 26) (at 7 28) (mark (at 7 31) "Cell1") (at 7 36) ∷ item.ArrayType (at 8 1) (id
    (at 8 6) "A2") (at 8 9) (at 8 12) (at 8 18) (range.Bounds (at 8 19) (expr_of (at 8 19) (primary.Number (at 8 19) 0))
    (at 8 21) (expr_of (at 8 24) (primary.Number (at 8 24) 1))) (at 8 25) (at 8 27) (mark (at 8 30) "List1") (at 8 35) ∷
    initialized_of (id (at 8 37) "V1") [] (at 8 40) None (indication_of (mark (at 8 42) "A2")) (at 8 45) (expr_of (at 8
    48) (primary.Aggregated (at 8 48) (aggregate.Several (at 8 48) (actual_of (at 8 49) (primary.AllocatedAggregate (at
    8 49) (mark (at 8 53) "Cell1") (at 8 58) (aggregate.Several (at 8 59) (actual_of (at 8 60) (primary.Parenthesized
    (at 8 60) (expr.LoneRelation (at 8 61) (rel.LoneSum (at 8 61) (sum.Signed (at 8 61) sign.Minus (term_of (at 8 62)
    (primary.Number (at 8 62) 9)) []))) (at 8 63))) (at 8 64) (actual_of (at 8 66) (primary.Null (at 8 66))) [] (at 8
    70)))) (at 8 71) (actual_of (at 8 73) (primary.AllocatedAggregate (at 8 73) (mark (at 8 77) "Cell1") (at 8 82)
    (aggregate.Several (at 8 83) (actual_of (at 8 84) (primary.Number (at 8 84) 32)) (at 8 86) (actual_of (at 8 88)
    (primary.Null (at 8 88))) [] (at 8 92)))) [] (at 8 93)))) (at 8 94) ∷ initialized_of (id (at 9 1) "V2") [] (at 9 4)
    None (indication_of (mark (at 9 6) "Cell1")) (at 9 12) (expr_of (at 9 15) (primary.Aggregated (at 9 15)
    (aggregate.Several (at 9 15) (actual_of (at 9 16) (primary.Number (at 9 16) 34)) (at 9 18) (actual_of (at 9 20)
    (primary.AllocatedAggregate (at 9 20) (mark (at 9 24) "Cell1") (at 9 29) (aggregate.Several (at 9 30)
    (association_of (id (at 9 31) "Val1") (at 9 36) (expr_of (at 9 39) (primary.Parenthesized (at 9 39)
    (expr.LoneRelation (at 9 40) (rel.LoneSum (at 9 40) (sum.Signed (at 9 40) sign.Minus (term_of (at 9 41)
    (primary.Number (at 9 41) 8)) []))) (at 9 42)))) (at 9 43) (association_of (id (at 9 45) "Next1") (at 9 51) (expr_of
    (at 9 54) (primary.Null (at 9 54)))) [] (at 9 58)))) [] (at 9 59)))) (at 9 60) ∷ initialized_of (id (at 10 1) "V3")
    [] (at 10 4) None (indication_of (mark (at 10 6) "A2")) (at 10 9) (expr_of (at 10 12) (primary.Aggregated (at 10 12)
    (aggregate.Others (at 10 12) (at 10 13) (at 10 20) (expr_of (at 10 23) (primary.Null (at 10 23))) (at 10 27)))) (at
    10 28) ∷ objects_of (id (at 10 30) "T1") [] (at 10 33) None (indication_of (mark (at 10 35) "Integer")) (at 10 42) ∷
    []) (at 10 44) (stmts.Sequence (at 10 50) (stmt.If (at 10 50) (expr.LoneRelation (at 10 53) (rel.Compared (at 10 53)
    (sum_of (at 10 53) (named (at 10 53) "V1" (suffix.Applied (at 10 56) (actual_of (at 10 57) (object (at 10 57) "T1"))
    [] (at 10 59) ∷ []))) relational.NotEqual (at 10 61) (sum_of (at 10 64) (primary.Null (at 10 64))))) (at 10 69)
    (sole (at 10 74) (assign_of (at 10 74) "T1" [] (at 10 77) (expr_of (at 10 80) (named (at 10 80) "V1" (suffix.Applied
    (at 10 83) (actual_of (at 10 84) (object (at 10 84) "T1")) [] (at 10 86) ∷ suffix.Selected (at 10 87) (id (at 10 88)
    "Val1") ∷ []))) (at 10 92))) [] (at 11 1) (at 11 5) (at 11 7)) (stmt.For (at 12 1) (id (at 12 5) "I1") (at 12 8)
    (Some (at 12 11)) (range.Bounds (at 12 19) (expr_of (at 12 19) (named (at 12 19) "V3" (suffix.Attribute (at 12 21)
    (id (at 12 22) "First") ∷ []))) (at 12 28) (expr_of (at 12 31) (named (at 12 31) "V3" (suffix.Attribute (at 12 33)
    (id (at 12 34) "Last") ∷ [])))) (at 12 39) (stmts.Sequence (at 12 44) (assign_of (at 12 44) "V3" (suffix.Applied (at
    12 47) (actual_of (at 12 48) (object (at 12 48) "I1")) [] (at 12 50) ∷ []) (at 12 52) (expr_of (at 12 55) (named (at
    12 55) "V2" (suffix.Selected (at 12 57) (id (at 12 58) "Next1") ∷ []))) (at 12 63)) (stmt.If (at 12 65)
    (expr.LoneRelation (at 12 68) (rel.Compared (at 12 68) (sum_of (at 12 68) (named (at 12 68) "V1" (suffix.Applied (at
    12 71) (actual_of (at 12 72) (primary.Number (at 12 72) 0)) [] (at 12 73) ∷ []))) relational.NotEqual (at 12 75)
    (sum_of (at 12 78) (primary.Null (at 12 78))))) (at 12 83) (sole (at 12 88) (assign_of (at 12 88) "T1" [] (at 12 91)
    (expr_of (at 12 94) (primary.Parenthesized (at 12 94) (expr.LoneRelation (at 12 95) (rel.LoneSum (at 12 95)
    (sum.Signed (at 12 95) sign.Minus (term_of (at 12 96) (named (at 12 96) "V1" (suffix.Applied (at 12 99) (actual_of
    (at 12 100) (primary.Number (at 12 100) 0)) [] (at 12 101) ∷ suffix.Selected (at 12 102) (id (at 12 103) "Val1") ∷
    []))) []))) (at 12 107))) (at 12 108))) [] (at 13 1) (at 13 5) (at 13 7) ∷ assign_of (at 14 1) "V2" (suffix.Selected
    (at 14 3) (id (at 14 4) "Next1") ∷ []) (at 14 10) (expr_of (at 14 13) (primary.Allocated (at 14 13) (mark (at 14 17)
    "Cell1"))) (at 14 22) ∷ [])) (at 14 24) (at 14 28) (at 14 32) ∷ stmt.If (at 15 1) (expr.LoneRelation (at 15 4)
    (rel.Compared (at 15 4) (sum_of (at 15 4) (named (at 15 4) "V1" (suffix.Applied (at 15 7) (actual_of (at 15 8)
    (primary.Number (at 15 8) 0)) [] (at 15 9) ∷ []))) relational.NotEqual (at 15 11) (sum_of (at 15 14) (primary.Null
    (at 15 14))))) (at 15 19) (sole (at 16 1) (assign_of (at 16 1) "V1" (suffix.Applied (at 16 4) (actual_of (at 16 5)
    (primary.Number (at 16 5) 0)) [] (at 16 6) ∷ suffix.Selected (at 16 7) (id (at 16 8) "Val1") ∷ []) (at 16 13)
    (expr_of (at 16 16) (primary.Parenthesized (at 16 16) (expr.LoneRelation (at 16 17) (rel.LoneSum (at 16 17)
    (sum.Unsigned (at 16 17) (term.Product (at 16 17) (factor_of (at 16 17) (object (at 16 17) "T1"))
    (next_factor.FurtherFactor (at 16 20) multiplying.Remainder (factor_of (at 16 24) (primary.Number (at 16 24) 2)) ∷
    [])) []))) (at 16 25))) (at 16 26))) [] (at 17 1) (at 17 5) (at 17 7) ∷ assign_of (at 17 9) "V2" (suffix.Selected
    (at 17 11) (id (at 17 12) "Next1") ∷ []) (at 17 18) (expr_of (at 17 21) (primary.AllocatedAggregate (at 17 21) (mark
    (at 17 25) "Cell1") (at 17 30) (aggregate.Several (at 17 31) (actual_of (at 17 32) (primary.Parenthesized (at 17 32)
    (expr.LoneRelation (at 17 33) (rel.LoneSum (at 17 33) (sum.Signed (at 17 33) sign.Minus (term_of (at 17 34)
    (primary.Number (at 17 34) 17)) []))) (at 17 36))) (at 17 37) (actual_of (at 17 39) (named (at 17 39) "V2"
    (suffix.Selected (at 17 41) (id (at 17 42) "Next1") ∷ []))) [] (at 17 47)))) (at 17 48) ∷ stmt.IfElse (at 18 1)
    (expr.LoneRelation (at 18 4) (rel.Compared (at 18 4) (sum_of (at 18 4) (named (at 18 4) "Positive" (suffix.Attribute
    (at 18 12) (id (at 18 13) "First") ∷ []))) relational.Greater (at 18 19) (sum_of (at 18 21) (primary.Parenthesized
    (at 18 21) (expr.LoneRelation (at 18 22) (rel.LoneSum (at 18 22) (sum.Signed (at 18 22) sign.Minus (term_of (at 18
    23) (primary.Number (at 18 23) 9)) []))) (at 18 24))))) (at 18 26) (sole (at 19 1) (stmt.DeclareBlock (at 19 1)
    (initialized_of (id (at 20 1) "V4") [] (at 20 4) None (indication_of (mark (at 20 6) "List1")) (at 20 12) (expr_of
    (at 20 15) (primary.AllocatedAggregate (at 20 15) (mark (at 20 19) "Cell1") (at 20 24) (aggregate.Several (at 20 25)
    (actual_of (at 20 26) (primary.Number (at 20 26) 3)) (at 20 27) (actual_of (at 20 29) (primary.Null (at 20 29))) []
    (at 20 33)))) (at 20 34) ∷ initialized_of (id (at 20 36) "V5") [] (at 20 39) None (indication_of (mark (at 20 41)
    "A2")) (at 20 44) (expr_of (at 20 47) (primary.Aggregated (at 20 47) (aggregate.Several (at 20 47) (actual_of (at 20
    48) (primary.AllocatedValue (at 20 48) (mark (at 20 52) "Cell1") (at 20 57) (at 20 58) (expr_of (at 20 59) (named
    (at 20 59) "V2" (suffix.Selected (at 20 61) (id (at 20 62) "Next1") ∷ suffix.Dereferenced (at 20 67) (at 20 68) ∷
    []))) (at 20 71))) (at 20 72) (actual_of (at 20 74) (primary.Null (at 20 74))) [] (at 20 78)))) (at 20 79) ∷ []) (at
    21 1) (sole (at 21 7) (stmt.DeclareBlock (at 21 7) (initialized_of (id (at 21 15) "B1") [] (at 21 18) None
    (indication.Anonymous (at 21 20) None (mark (at 21 27) "Cell1")) (at 21 33) (expr_of (at 21 36) (named (at 21 36)
    "V3" (suffix.Applied (at 21 39) (actual_of (at 21 40) (primary.Number (at 21 40) 0)) [] (at 21 41) ∷ []))) (at 21
    42) ∷ []) (at 21 44) (stmts.Sequence (at 22 1) (stmt.If (at 22 1) (expr.LoneRelation (at 22 4) (rel.Compared (at 22
    4) (sum_of (at 22 4) (object (at 22 4) "B1")) relational.NotEqual (at 22 7) (sum_of (at 22 10) (primary.Null (at 22
    10))))) (at 22 15) (sole (at 22 20) (assign_of (at 22 20) "B1" [] (at 22 23) (expr_of (at 22 26) (named (at 22 26)
    "B1" (suffix.Dereferenced (at 22 28) (at 22 29) ∷ suffix.Selected (at 22 32) (id (at 22 33) "Next1") ∷ []))) (at 22
    38))) [] (at 22 40) (at 22 44) (at 22 46)) (stmt.For (at 23 1) (id (at 23 5) "I2") (at 23 8) None (range.Bounds (at
    23 11) (expr_of (at 23 11) (primary.Number (at 23 11) 1)) (at 23 13) (expr_of (at 23 16) (primary.Number (at 23 16)
    3))) (at 23 18) (sole (at 24 1) (assign_of (at 24 1) "V3" (suffix.Applied (at 24 4) (actual_of (at 24 5)
    (primary.Number (at 24 5) 1)) [] (at 24 6) ∷ []) (at 24 8) (expr_of (at 24 11) (primary.AllocatedAggregate (at 24
    11) (mark (at 24 15) "Cell1") (at 24 20) (aggregate.Several (at 24 21) (actual_of (at 24 22) (object (at 24 22)
    "I2")) (at 24 24) (actual_of (at 24 26) (named (at 24 26) "V3" (suffix.Applied (at 24 29) (actual_of (at 24 30)
    (primary.Number (at 24 30) 1)) [] (at 24 31) ∷ []))) [] (at 24 32)))) (at 24 33))) (at 25 1) (at 25 5) (at 25 9) ∷
    [])) (at 25 11) (at 25 14))) (at 25 16) (at 25 19))) [] (at 26 1) (sole (at 26 6) (stmt.If (at 26 6) (expr.AndThen
    (at 26 9) (rel.Compared (at 26 9) (sum_of (at 26 9) (named (at 26 9) "V1" (suffix.Applied (at 26 12) (actual_of (at
    26 13) (primary.Number (at 26 13) 1)) [] (at 26 14) ∷ []))) relational.NotEqual (at 26 16) (sum_of (at 26 19)
    (primary.Null (at 26 19)))) (at 26 24) (at 26 28) (rel.Compared (at 26 33) (sum_of (at 26 33) (named (at 26 33) "V1"
    (suffix.Applied (at 26 36) (actual_of (at 26 37) (primary.Number (at 26 37) 1)) [] (at 26 38) ∷ suffix.Selected (at
    26 39) (id (at 26 40) "Next1") ∷ []))) relational.NotEqual (at 26 46) (sum_of (at 26 49) (primary.Null (at 26 49))))
    []) (at 26 54) (sole (at 26 59) (assign_of (at 26 59) "T1" [] (at 26 62) (expr_of (at 26 65) (primary.Parenthesized
    (at 26 65) (expr.LoneRelation (at 26 66) (rel.LoneSum (at 26 66) (sum.Unsigned (at 26 66) (term.Product (at 26 66)
    (factor_of (at 26 66) (named (at 26 66) "V1" (suffix.Applied (at 26 69) (actual_of (at 26 70) (primary.Number (at 26
    70) 1)) [] (at 26 71) ∷ suffix.Selected (at 26 72) (id (at 26 73) "Next1") ∷ suffix.Selected (at 26 78) (id (at 26
    79) "Val1") ∷ []))) (next_factor.FurtherFactor (at 26 84) multiplying.Multiply (factor_of (at 26 86) (named (at 26
    86) "V2" (suffix.Selected (at 26 88) (id (at 26 89) "Next1") ∷ suffix.Selected (at 26 94) (id (at 26 95) "Val1") ∷
    []))) ∷ [])) []))) (at 26 99))) (at 26 100))) [] (at 27 1) (at 27 5) (at 27 7))) (at 27 9) (at 27 13) (at 27 15) ∷
    [])) (at 28 1) (Some (id (at 28 5) "Main")) (at 28 9)) ∷ []) ∷ [])
unfolding computes resolves
second_unit_3 = refl

second_unit_4 : IsFirstBrokenOf Twice (at 2 9) ((unit.OfPackage (at 1 1) [] (package_of (at 1 1) (id (at 1 9)
    "Latest_P") None (at 1 18) (decl.OfItem (at 1 21) (objects_of (id (at 1 21) "Latest_X") [] (at 1 30) None
    (indication_of (mark (at 1 32) "Integer")) (at 1 39)) ∷ []) None (at 1 41) (Some (id (at 1 45) "Latest_P")) (at 1
    53)) ∷ unit.OfPackage (at 2 1) [] (package_of (at 2 1) (id (at 2 9) "Latest_P") None (at 2 18) (decl.OfItem (at 2
    21) (objects_of (id (at 2 21) "Latest_Y") [] (at 2 30) None (indication_of (mark (at 2 32) "Integer")) (at 2 39)) ∷
    []) None (at 2 41) (Some (id (at 2 45) "Latest_P")) (at 2 53)) ∷ unit.OfSubprogram (at 3 1) (context.With (at 3 1)
    (selected (at 3 6) "Ada" (at 3 9) (at 3 10) "Text_IO") [] (at 3 17) ∷ use_context (use_of (at 3 19) None (selected
    (at 3 23) "Ada" (at 3 26) (at 3 27) "Text_IO") [] (at 3 34)) ∷ context.With (at 3 36) (selected (at 3 41) "Ada" (at
    3 44) (at 3 45) "Integer_Text_IO") [] (at 3 60) ∷ use_context (use_of (at 3 62) None (selected (at 3 66) "Ada" (at 3
    69) (at 3 70) "Integer_Text_IO") [] (at 3 85)) ∷ context.With (at 3 87) (selected (at 3 92) "Ada" (at 3 95) (at 3
    96) "Unchecked_Deallocation") [] (at 3 118) ∷ []) (subprogram_of (at 4 1) (subspec.Procedure (at 4 1) (id (at 4 11)
    "Main") None) None (at 4 16) (item.IncompleteType (at 5 1) (id (at 5 6) "Cell") (at 5 10) ∷ item.AccessType (at 6 1)
    (id (at 6 6) "List") (at 6 11) (at 6 14) (mark (at 6 21) "Cell") (at 6 25) ∷ item.RecordType (at 7 1) (id (at 7 6)
    "Cell") (at 7 11) (at 7 14) (fields_of (id (at 7 21) "Value") [] (at 7 27) (mark (at 7 29) "Integer") (at 7 36))
    (fields_of (id (at 7 38) "Next") [] (at 7 43) (mark (at 7 45) "List") (at 7 49) ∷ []) (at 7 51) (at 7 55) (at 7 61)
    ∷ objects_of (id (at 8 1) "X") (next_id_of (at 8 2) (at 8 4) "Y" ∷ []) (at 8 6) None (indication_of (mark (at 8 8)
    "List")) (at 8 12) ∷ initialized_of (id (at 9 1) "N") [] (at 9 3) None (indication_of (mark (at 9 5) "Integer")) (at
    9 13) (expr_of (at 9 16) (primary.Number (at 9 16) 2)) (at 9 17) ∷ item.Instance (at 10 1) (id (at 10 11) "Free")
    (at 10 16) (at 10 19) (selected (at 10 23) "Ada" (at 10 26) (at 10 27) "Unchecked_Deallocation") (at 10 50)
    (actual_of (at 10 51) (object (at 10 51) "Cell")) (next_arg.FurtherArg (at 10 55) (actual_of (at 10 57) (object (at
    10 57) "List")) ∷ []) (at 10 61) (at 10 62) ∷ []) (at 11 1) (stmts.Sequence (at 12 1) (stmt.DeclareBlock (at 12 1)
    (initialized_of (id (at 12 9) "B") [] (at 12 11) None (indication.Anonymous (at 12 13) None (mark (at 12 20)
    "Cell")) (at 12 25) (expr_of (at 12 28) (object (at 12 28) "X")) (at 12 29) ∷ []) (at 12 31) (sole (at 12 37)
    (stmt.If (at 12 37) (expr.LoneRelation (at 12 40) (rel.Compared (at 12 40) (sum_of (at 12 40) (object (at 12 40)
    "B")) relational.NotEqual (at 12 42) (sum_of (at 12 45) (primary.Null (at 12 45))))) (at 12 50) (sole (at 12 55)
    (assign_of (at 12 55) "B" (suffix.Selected (at 12 56) (id (at 12 57) "Value") ∷ []) (at 12 63) (expr_of (at 12 66)
    (object (at 12 66) "N")) (at 12 67))) [] (at 12 69) (at 12 73) (at 12 75))) (at 12 77) (at 12 80)) (assign_of (at 13
    1) "X" [] (at 13 3) (expr_of (at 13 6) (primary.AllocatedAggregate (at 13 6) (mark (at 13 10) "Cell") (at 13 14)
    (aggregate.Several (at 13 15) (actual_of (at 13 16) (object (at 13 16) "N")) (at 13 17) (actual_of (at 13 19)
    (primary.Null (at 13 19))) [] (at 13 23)))) (at 13 24) ∷ call_of (at 14 1) "Put_Line" (suffix.Applied (at 14 10)
    (actual_of (at 14 11) (named (at 14 11) "Integer" (suffix.Attribute (at 14 18) (id (at 14 19) "Image") ∷
    suffix.Applied (at 14 25) (actual_of (at 14 26) (object (at 14 26) "N")) [] (at 14 27) ∷ []))) [] (at 14 28) ∷ [])
    (at 14 29) ∷ stmt.Case (at 15 1) (expr_of (at 15 6) (object (at 15 6) "N")) (at 15 8) (alternative.Alternative (at
    15 11) (choice.Value (at 15 16) (expr_of (at 15 16) (primary.Number (at 15 16) 1))) [] (at 15 18) (sole (at 15 21)
    (stmt.Null (at 15 21) (at 15 25)))) (alternative.Alternative (at 15 27) (choice.Others (at 15 32)) [] (at 15 39)
    (sole (at 15 42) (assign_of (at 15 42) "N" [] (at 15 44) (expr_of (at 15 47) (primary.Number (at 15 47) 2)) (at 15
    48))) ∷ []) (at 15 50) (at 15 54) (at 15 58) ∷ [])) (at 16 1) (Some (id (at 16 5) "Main")) (at 16 9)) ∷ []) ∷ [])
unfolding computes resolves
second_unit_4 = refl

second_unit_5 : IsFirstBrokenOf Twice (at 17 14) ((unit.OfSubprogram (at 1 1) (context.With (at 1 1) (selected (at 1 6)
    "Ada" (at 1 9) (at 1 10) "Text_IO") [] (at 1 17) ∷ use_context (use_of (at 1 19) None (selected (at 1 23) "Ada" (at
    1 26) (at 1 27) "Text_IO") [] (at 1 34)) ∷ context.With (at 1 36) (selected (at 1 41) "Ada" (at 1 44) (at 1 45)
    "Integer_Text_IO") [] (at 1 60) ∷ use_context (use_of (at 1 62) None (selected (at 1 66) "Ada" (at 1 69) (at 1 70)
    "Integer_Text_IO") [] (at 1 85)) ∷ context.With (at 1 87) (selected (at 1 92) "Ada" (at 1 95) (at 1 96)
    "Unchecked_Deallocation") [] (at 1 118) ∷ []) (subprogram_of (at 2 1) (subspec.Procedure (at 2 1) (id (at 2 11)
    "Main") None) None (at 2 16) (item.IncompleteType (at 3 7) (id (at 3 12) "Cell") (at 3 16) ∷ item.AccessType (at 4
    1) (id (at 4 6) "List") (at 4 11) (at 4 14) (mark (at 4 21) "Cell") (at 4 25) ∷ item.RecordType (at 5 7) (id (at 5
    12) "Cell") (at 5 17) (at 5 20) (fields_of (id (at 5 27) "Value") [] (at 5 33) (mark (at 5 35) "Integer") (at 5 42))
    (fields_of (id (at 5 44) "Next") [] (at 5 49) (mark (at 5 51) "List") (at 5 55) ∷ []) (at 5 57) (at 5 61) (at 5 67)
    ∷ objects_of (id (at 6 7) "X") (next_id_of (at 6 8) (at 6 10) "Y" ∷ []) (at 6 12) None (indication_of (mark (at 6
    14) "List")) (at 6 18) ∷ initialized_of (id (at 7 4) "N") [] (at 7 6) None (indication_of (mark (at 7 8) "Integer"))
    (at 7 16) (expr_of (at 7 19) (primary.Number (at 7 19) 7)) (at 7 20) ∷ item.Instance (at 8 1) (id (at 8 11) "Free")
    (at 8 16) (at 8 19) (selected (at 8 23) "Ada" (at 8 26) (at 8 27) "Unchecked_Deallocation") (at 8 50) (actual_of (at
    8 51) (object (at 8 51) "Cell")) (next_arg.FurtherArg (at 8 55) (actual_of (at 8 57) (object (at 8 57) "List")) ∷
    []) (at 8 61) (at 8 62) ∷ []) (at 9 4) (stmts.Sequence (at 10 7) (assign_of (at 10 7) "Y" [] (at 10 9) (expr_of (at
    10 12) (object (at 10 12) "X")) (at 10 13)) (assign_of (at 10 15) "X" [] (at 10 17) (expr_of (at 10 20)
    (primary.Null (at 10 20))) (at 10 24) ∷ stmt.DeclareBlock (at 11 1) (initialized_of (id (at 11 9) "B") [] (at 11 11)
    None (indication.Anonymous (at 11 13) None (mark (at 11 20) "Cell")) (at 11 25) (expr_of (at 11 28) (object (at 11
    28) "X")) (at 11 29) ∷ []) (at 11 31) (sole (at 11 37) (stmt.If (at 11 37) (expr.LoneRelation (at 11 40)
    (rel.Compared (at 11 40) (sum_of (at 11 40) (object (at 11 40) "B")) relational.NotEqual (at 11 42) (sum_of (at 11
    45) (primary.Null (at 11 45))))) (at 11 50) (sole (at 11 55) (assign_of (at 11 55) "B" (suffix.Selected (at 11 56)
    (id (at 11 57) "Value") ∷ []) (at 11 63) (expr_of (at 11 66) (object (at 11 66) "N")) (at 11 67))) [] (at 11 69) (at
    11 73) (at 11 75))) (at 11 77) (at 11 80) ∷ assign_of (at 12 1) "X" [] (at 12 3) (expr_of (at 12 6)
    (primary.AllocatedAggregate (at 12 6) (mark (at 12 10) "Cell") (at 12 14) (aggregate.Several (at 12 15) (actual_of
    (at 12 16) (object (at 12 16) "N")) (at 12 17) (actual_of (at 12 19) (primary.Null (at 12 19))) [] (at 12 23)))) (at
    12 24) ∷ stmt.While (at 13 7) (expr.LoneRelation (at 13 13) (rel.Compared (at 13 13) (sum_of (at 13 13) (object (at
    13 13) "N")) relational.Greater (at 13 15) (sum_of (at 13 17) (primary.Number (at 13 17) 5)))) (at 13 19) (sole (at
    13 24) (assign_of (at 13 24) "N" [] (at 13 26) (expr.LoneRelation (at 13 29) (rel.LoneSum (at 13 29) (sum.Unsigned
    (at 13 29) (term.Product (at 13 29) (factor_of (at 13 29) (object (at 13 29) "N")) (next_factor.FurtherFactor (at 13
    31) multiplying.Divide (factor_of (at 13 33) (primary.Number (at 13 33) 2)) ∷ [])) []))) (at 13 34))) (at 13 36) (at
    13 40) (at 13 44) ∷ [])) (at 14 4) (Some (id (at 14 8) "Main")) (at 14 12)) ∷ unit.OfPackage (at 15 1) []
    (package_of (at 15 1) (id (at 15 9) "Extra_P") None (at 15 17) (decl.Subprogram (at 15 20) (subspec.Procedure (at 15
    20) (id (at 15 30) "Extra_Q") None) None (at 15 37) ∷ []) None (at 15 39) (Some (id (at 15 43) "Extra_P")) (at 15
    50)) ∷ unit.OfBody (at 16 1) [] (package_body_of (at 16 1) (at 16 9) (id (at 16 14) "Extra_P") None (at 16 22)
    (part.Completed (at 16 25) (subprogram_of (at 16 25) (subspec.Procedure (at 16 25) (id (at 16 35) "Extra_Q") None)
    None (at 16 43) [] (at 16 46) (sole (at 16 52) (stmt.Null (at 16 52) (at 16 56))) (at 16 58) (Some (id (at 16 62)
    "Extra_Q")) (at 16 69)) ∷ []) (at 16 71) (Some (id (at 16 75) "Extra_P")) (at 16 82)) ∷ unit.OfBody (at 17 1) []
    (package_body_of (at 17 1) (at 17 9) (id (at 17 14) "Extra_P") None (at 17 22) (part.Declared (at 17 25)
    (decl.OfItem (at 17 25) (objects_of (id (at 17 25) "Extra_X") [] (at 17 33) None (indication_of (mark (at 17 35)
    "Integer")) (at 17 42))) ∷ []) (at 17 44) (Some (id (at 17 48) "Extra_P")) (at 17 55)) ∷ []) ∷ [])
unfolding computes resolves
second_unit_5 = refl

second_unit_6 : IsFirstBrokenOf Twice (at 71 9) ((unit.OfPackage (at 1 1) (context.With (at 1 1) (selected (at 1 6)
    "Ada" (at 1 9) (at 1 10) "Text_IO") [] (at 1 17) ∷ use_context (use_of (at 1 19) None (selected (at 1 23) "Ada" (at
    1 26) (at 1 27) "Text_IO") [] (at 1 34)) ∷ context.With (at 2 1) (selected (at 2 6) "Ada" (at 2 9) (at 2 10)
    "Integer_Text_IO") [] (at 2 25) ∷ use_context (use_of (at 2 27) None (selected (at 2 31) "Ada" (at 2 34) (at 2 35)
    "Integer_Text_IO") [] (at 2 50)) ∷ context.With (at 3 1) (selected (at 3 6) "Ada" (at 3 9) (at 3 10)
    "Unchecked_Deallocation") [] (at 3 32) ∷ []) (package_of (at 4 1) (id (at 4 9) "Pack1") None (at 4 15) (decl.OfItem
    (at 5 1) (item.IncompleteType (at 5 1) (id (at 5 6) "Cell1") (at 5 11)) ∷ decl.OfItem (at 6 1) (item.AccessType (at
    6 1) (id (at 6 6) "List1") (at 6 12) (at 6 15) (mark (at 6 22) "Cell1") (at 6 27)) ∷ decl.OfItem (at 7 1)
    (item.RecordType (at 7 1) (id (at 7 6) "Cell1") (at 7 12) (at 7 15) (fields_of (id (at 7 22) "Val1") [] (at 7 27)
    (mark (at 7 29) "Integer") (at 7 36)) (fields_of (id (at 7 38) "Next1") [] (at 7 44) (mark (at 7 46) "List1") (at 7
    51) ∷ []) (at 7 53) (at 7 57) (at 7 63)) ∷ decl.OfItem (at 8 1) (initialized_of (id (at 8 1) "G1") [] (at 8 4) None
    (indication_of (mark (at 8 6) "List1")) (at 8 12) (expr_of (at 8 15) (primary.Null (at 8 15))) (at 8 19)) ∷
    decl.OfItem (at 9 1) (objects_of (id (at 9 1) "G2") [] (at 9 4) None (indication_of (mark (at 9 6) "Cell1")) (at 9
    11)) ∷ decl.Subprogram (at 10 1) (subspec.Procedure (at 10 1) (id (at 10 11) "Do1") (Some (formals_of (at 10 15)
    (moded_of (id (at 10 16) "N1") [] (at 10 19) None (Some (at 10 21)) (mark (at 10 25) "Integer"))
    (next_formal.Semicolon (at 10 32) (moded_of (id (at 10 34) "N2") [] (at 10 37) (Some (at 10 39)) (Some (at 10 42))
    (mark (at 10 46) "List1")) ∷ next_formal.Semicolon (at 10 51) (moded_of (id (at 10 53) "N3") [] (at 10 56) (Some (at
    10 58)) None (mark (at 10 61) "Integer")) ∷ []) (at 10 68)))) None (at 10 69) ∷ []) None (at 11 1) (Some (id (at 11
    5) "Pack1")) (at 11 10)) ∷ unit.OfBody (at 12 1) (context.With (at 12 1) (selected (at 12 6) "Ada" (at 12 9) (at 12
    10) "Text_IO") [] (at 12 17) ∷ use_context (use_of (at 12 19) None (selected (at 12 23) "Ada" (at 12 26) (at 12 27)
    "Text_IO") [] (at 12 34)) ∷ context.With (at 13 1) (selected (at 13 6) "Ada" (at 13 9) (at 13 10) "Integer_Text_IO")
    [] (at 13 25) ∷ use_context (use_of (at 13 27) None (selected (at 13 31) "Ada" (at 13 34) (at 13 35)
    "Integer_Text_IO") [] (at 13 50)) ∷ context.With (at 14 1) (selected (at 14 6) "Ada" (at 14 9) (at 14 10)
    "Unchecked_Deallocation") [] (at 14 32) ∷ []) (package_body_of (at 15 1) (at 15 9) (id (at 15 14) "Pack1") None (at
    15 20) (part.Completed (at 16 1) (subprogram_of (at 16 1) (subspec.Procedure (at 16 1) (id (at 16 11) "Do1") (Some
    (formals_of (at 16 15) (moded_of (id (at 16 16) "N1") [] (at 16 19) None (Some (at 16 21)) (mark (at 16 25)
    "Integer")) (next_formal.Semicolon (at 16 32) (moded_of (id (at 16 34) "N2") [] (at 16 37) (Some (at 16 39)) (Some
    (at 16 42)) (mark (at 16 46) "List1")) ∷ next_formal.Semicolon (at 16 51) (moded_of (id (at 16 53) "N3") [] (at 16
    56) None None (mark (at 16 58) "Integer")) ∷ []) (at 16 65)))) None (at 16 67) [] (at 17 1) (stmts.Sequence (at 18
    1) (stmt.If (at 18 1) (expr.LoneRelation (at 18 4) (rel.Compared (at 18 4) (sum_of (at 18 4) (object (at 18 4)
    "N3")) relational.Greater (at 18 7) (sum_of (at 18 9) (primary.Number (at 18 9) 0)))) (at 18 11) (sole (at 19 1)
    (call_of (at 19 1) "Do1" (suffix.Applied (at 19 5) (actual_of (at 19 6) (object (at 19 6) "N1"))
    (next_arg.FurtherArg (at 19 8) (actual_of (at 19 10) (object (at 19 10) "N2")) ∷ next_arg.FurtherArg (at 19 12)
    (arg.Positional (at 19 14) (expr.LoneRelation (at 19 14) (rel.LoneSum (at 19 14) (sum.Unsigned (at 19 14) (term_of
    (at 19 14) (object (at 19 14) "N3")) (next_term.FurtherTerm (at 19 17) adding.Subtract (term_of (at 19 19)
    (primary.Number (at 19 19) 1)) ∷ []))))) ∷ []) (at 19 20) ∷ []) (at 19 21))) [] (at 20 1) (at 20 5) (at 20 7))
    (stmt.IfElse (at 21 1) (expr.LoneRelation (at 21 4) (rel.Compared (at 21 4) (sum_of (at 21 4) (object (at 21 4)
    "G1")) relational.Equal (at 21 7) (sum_of (at 21 9) (primary.Null (at 21 9))))) (at 21 14) (sole (at 22 1)
    (stmt.DeclareBlock (at 22 1) (initialized_of (id (at 23 1) "C1") [] (at 23 4) None (indication.Anonymous (at 23 6)
    (Some (at 23 13)) (mark (at 23 22) "Cell1")) (at 23 28) (expr_of (at 23 31) (named (at 23 31) "G2" (suffix.Selected
    (at 23 33) (id (at 23 34) "Next1") ∷ []))) (at 23 39) ∷ []) (at 24 1) (sole (at 25 1) (assign_of (at 25 1) "G2"
    (suffix.Selected (at 25 3) (id (at 25 4) "Val1") ∷ []) (at 25 9) (expr_of (at 25 12) (primary.Parenthesized (at 25
    12) (expr.LoneRelation (at 25 13) (rel.LoneSum (at 25 13) (sum.Signed (at 25 13) sign.Minus (term_of (at 25 14)
    (primary.Number (at 25 14) 1)) []))) (at 25 15))) (at 25 16))) (at 26 1) (at 26 4))) [] (at 27 1) (sole (at 28 1)
    (stmt.DeclareBlock (at 28 1) (initialized_of (id (at 29 1) "C2") [] (at 29 4) None (indication.Anonymous (at 29 6)
    (Some (at 29 13)) (mark (at 29 22) "Cell1")) (at 29 28) (expr_of (at 29 31) (named (at 29 31) "G1" (suffix.Selected
    (at 29 33) (id (at 29 34) "Next1") ∷ []))) (at 29 39) ∷ []) (at 30 1) (sole (at 31 1) (call_of (at 31 1) "New_Line"
    [] (at 31 9))) (at 32 1) (at 32 4))) (at 33 1) (at 33 5) (at 33 7) ∷ [])) (at 34 1) (Some (id (at 34 5) "Do1")) (at
    34 8)) ∷ []) (at 35 1) (Some (id (at 35 5) "Pack1")) (at 35 10)) ∷ unit.OfSubprogram (at 36 1) (context.With (at 36
    1) (selected (at 36 6) "Ada" (at 36 9) (at 36 10) "Text_IO") [] (at 36 17) ∷ use_context (use_of (at 36 19) None
    (selected (at 36 23) "Ada" (at 36 26) (at 36 27) "Text_IO") [] (at 36 34)) ∷ context.With (at 37 1) (selected (at 37
    6) "Ada" (at 37 9) (at 37 10) "Integer_Text_IO") [] (at 37 25) ∷ use_context (use_of (at 37 27) None (selected (at
    37 31) "Ada" (at 37 34) (at 37 35) "Integer_Text_IO") [] (at 37 50)) ∷ context.With (at 38 1) (selected (at 38 6)
    "Ada" (at 38 9) (at 38 10) "Unchecked_Deallocation") [] (at 38 32) ∷ context.With (at 39 1) (mark (at 39 6) "Pack1")
    [] (at 39 11) ∷ use_context (use_of (at 39 13) None (mark (at 39 17) "Pack1") [] (at 39 22)) ∷ []) (subprogram_of
    (at 40 1) (subspec.Procedure (at 40 1) (id (at 40 11) "Main") None) None (at 40 16) (item.ArrayType (at 41 1) (id
    (at 41 6) "A1") (at 41 9) (at 41 12) (at 41 18) (range.Bounds (at 41 19) (expr_of (at 41 19) (primary.Number (at 41
    19) 2)) (at 41 21) (expr_of (at 41 24) (primary.Number (at 41 24) 3))) (at 41 25) (at 41 27) (mark (at 41 30)
    "Integer") (at 41 37) ∷ item.AccessType (at 42 1) (id (at 42 6) "P1") (at 42 9) (at 42 12) (mark (at 42 19) "Cell1")
    (at 42 24) ∷ objects_of (id (at 43 1) "V1") (next_id_of (at 43 3) (at 43 5) "V2" ∷ []) (at 43 8) None (indication_of
    (mark (at 43 10) "Cell1")) (at 43 15) ∷ objects_of (id (at 44 1) "V3") (next_id_of (at 44 3) (at 44 5) "V4" ∷ [])
    (at 44 8) None (indication_of (mark (at 44 10) "Cell1")) (at 44 15) ∷ []) (at 45 1) (stmts.Sequence (at 46 1)
    (stmt.DeclareBlock (at 46 1) (initialized_of (id (at 47 1) "C3") [] (at 47 4) None (indication.Anonymous (at 47 6)
    (Some (at 47 13)) (mark (at 47 22) "Cell1")) (at 47 28) (expr_of (at 47 31) (named (at 47 31) "V4" (suffix.Selected
    (at 47 33) (id (at 47 34) "Next1") ∷ []))) (at 47 39) ∷ []) (at 48 1) (sole (at 49 1) (assign_of (at 49 1) "V1"
    (suffix.Selected (at 49 3) (id (at 49 4) "Next1") ∷ []) (at 49 10) (expr_of (at 49 13) (object (at 49 13) "G1")) (at
    49 15))) (at 50 1) (at 50 4)) (stmt.If (at 51 1) (expr.AndThen (at 51 4) (rel.Compared (at 51 4) (sum_of (at 51 4)
    (named (at 51 4) "V3" (suffix.Selected (at 51 6) (id (at 51 7) "Next1") ∷ []))) relational.NotEqual (at 51 13)
    (sum_of (at 51 16) (primary.Null (at 51 16)))) (at 51 21) (at 51 25) (rel.Compared (at 51 30) (sum_of (at 51 30)
    (named (at 51 30) "V3" (suffix.Selected (at 51 32) (id (at 51 33) "Next1") ∷ suffix.Selected (at 51 38) (id (at 51
    39) "Next1") ∷ []))) relational.NotEqual (at 51 45) (sum_of (at 51 48) (primary.Null (at 51 48)))) []) (at 51 53)
    (sole (at 52 1) (stmt.DeclareBlock (at 52 1) (initialized_of (id (at 53 1) "B1") [] (at 53 4) None
    (indication.Anonymous (at 53 6) None (selected (at 53 13) "Pack1" (at 53 18) (at 53 19) "Cell1")) (at 53 25)
    (expr_of (at 53 28) (named (at 53 28) "V3" (suffix.Selected (at 53 30) (id (at 53 31) "Next1") ∷ suffix.Selected (at
    53 36) (id (at 53 37) "Next1") ∷ suffix.Dereferenced (at 53 42) (at 53 43) ∷ suffix.Selected (at 53 46) (id (at 53
    47) "Next1") ∷ []))) (at 53 52) ∷ []) (at 54 1) (stmts.Sequence (at 55 1) (stmt.If (at 55 1) (expr.AndThen (at 55 4)
    (rel.Compared (at 55 4) (sum_of (at 55 4) (named (at 55 4) "G2" (suffix.Selected (at 55 6) (id (at 55 7) "Next1") ∷
    []))) relational.NotEqual (at 55 13) (sum_of (at 55 16) (primary.Null (at 55 16)))) (at 55 21) (at 55 25)
    (rel.Compared (at 55 30) (sum_of (at 55 30) (named (at 55 30) "G2" (suffix.Selected (at 55 32) (id (at 55 33)
    "Next1") ∷ suffix.Selected (at 55 38) (id (at 55 39) "Next1") ∷ []))) relational.NotEqual (at 55 45) (sum_of (at 55
    48) (primary.Null (at 55 48)))) []) (at 55 53) (sole (at 56 1) (assign_of (at 56 1) "V1" (suffix.Selected (at 56 3)
    (id (at 56 4) "Next1") ∷ []) (at 56 10) (expr_of (at 56 13) (primary.AllocatedAggregate (at 56 13) (mark (at 56 17)
    "Cell1") (at 56 22) (aggregate.Several (at 56 23) (actual_of (at 56 24) (named (at 56 24) "G2" (suffix.Selected (at
    56 26) (id (at 56 27) "Next1") ∷ suffix.Selected (at 56 32) (id (at 56 33) "Next1") ∷ suffix.Selected (at 56 38) (id
    (at 56 39) "Val1") ∷ []))) (at 56 43) (actual_of (at 56 45) (named (at 56 45) "V1" (suffix.Selected (at 56 47) (id
    (at 56 48) "Next1") ∷ []))) [] (at 56 53)))) (at 56 54))) [] (at 57 1) (at 57 5) (at 57 7)) (assign_of (at 58 1)
    "V4" (suffix.Selected (at 58 3) (id (at 58 4) "Val1") ∷ []) (at 58 9) (expr_of (at 58 12) (primary.Parenthesized (at
    58 12) (expr.LoneRelation (at 58 13) (rel.LoneSum (at 58 13) (sum.Signed (at 58 13) sign.Minus (term_of (at 58 14)
    (primary.Number (at 58 14) 10)) []))) (at 58 16))) (at 58 17) ∷ stmt.For (at 59 1) (id (at 59 5) "I1") (at 59 8)
    None (range.Bounds (at 59 11) (expr_of (at 59 11) (primary.Number (at 59 11) 2)) (at 59 13) (expr_of (at 59 16)
    (primary.Number (at 59 16) 5))) (at 59 18) (stmts.Sequence (at 60 1) (stmt.If (at 60 1) (expr.LoneRelation (at 60 4)
    (rel.Compared (at 60 4) (sum_of (at 60 4) (named (at 60 4) "V1" (suffix.Selected (at 60 6) (id (at 60 7) "Next1") ∷
    []))) relational.NotEqual (at 60 13) (sum_of (at 60 16) (primary.Null (at 60 16))))) (at 60 21) (sole (at 61 1)
    (assign_of (at 61 1) "V1" (suffix.Selected (at 61 3) (id (at 61 4) "Next1") ∷ suffix.Selected (at 61 9) (id (at 61
    10) "Val1") ∷ []) (at 61 15) (expr_of (at 61 18) (primary.Number (at 61 18) 37)) (at 61 20))) [] (at 62 1) (at 62 5)
    (at 62 7)) (stmt.If (at 63 1) (expr.LoneRelation (at 63 4) (rel.Compared (at 63 4) (sum_of (at 63 4) (named (at 63
    4) "V1" (suffix.Selected (at 63 6) (id (at 63 7) "Next1") ∷ []))) relational.NotEqual (at 63 13) (sum_of (at 63 16)
    (primary.Null (at 63 16))))) (at 63 21) (sole (at 64 1) (assign_of (at 64 1) "V1" (suffix.Selected (at 64 3) (id (at
    64 4) "Next1") ∷ suffix.Selected (at 64 9) (id (at 64 10) "Val1") ∷ []) (at 64 15) (expr_of (at 64 18)
    (primary.Number (at 64 18) 5)) (at 64 19))) [] (at 65 1) (at 65 5) (at 65 7) ∷ [])) (at 66 1) (at 66 5) (at 66 9) ∷
    [])) (at 67 1) (at 67 4))) [] (at 68 1) (at 68 5) (at 68 7) ∷ assign_of (at 69 1) "Pack1" (suffix.Selected (at 69 6)
    (id (at 69 7) "G1") ∷ []) (at 69 10) (expr_of (at 69 13) (primary.Null (at 69 13))) (at 69 17) ∷ [])) (at 70 1)
    (Some (id (at 70 5) "Main")) (at 70 9)) ∷ unit.OfPackage (at 71 1) [] (package_of (at 71 1) (id (at 71 9) "Main")
    None (at 71 14) (decl.OfItem (at 71 17) (objects_of (id (at 71 17) "Spare_X") [] (at 71 25) None (indication_of
    (mark (at 71 27) "Integer")) (at 71 34)) ∷ []) None (at 71 36) (Some (id (at 71 40) "Main")) (at 71 44)) ∷ []) ∷ [])
unfolding computes resolves
second_unit_6 = refl

-- A function is no unit.
library_function_1 : IsFirstBrokenOf Twice (at 10 10) ((unit.OfSubprogram (at 1 1) (context.With (at 1 1) (selected (at
    1 6) "Ada" (at 1 9) (at 1 10) "Text_IO") [] (at 1 17) ∷ use_context (use_of (at 1 19) None (selected (at 1 23) "Ada"
    (at 1 26) (at 1 27) "Text_IO") [] (at 1 34)) ∷ context.With (at 1 36) (selected (at 1 41) "Ada" (at 1 44) (at 1 45)
    "Integer_Text_IO") [] (at 1 60) ∷ use_context (use_of (at 1 62) None (selected (at 1 66) "Ada" (at 1 69) (at 1 70)
    "Integer_Text_IO") [] (at 1 85)) ∷ context.With (at 1 87) (selected (at 1 92) "Ada" (at 1 95) (at 1 96)
    "Unchecked_Deallocation") [] (at 1 118) ∷ []) (subprogram_of (at 2 1) (subspec.Procedure (at 2 1) (id (at 2 11)
    "Main") None) None (at 2 16) (item.IncompleteType (at 3 1) (id (at 3 6) "Cell") (at 3 10) ∷ item.AccessType (at 3
    12) (id (at 3 17) "List") (at 3 22) (at 3 25) (mark (at 3 32) "Cell") (at 3 36) ∷ item.RecordType (at 4 1) (id (at 4
    6) "Cell") (at 4 11) (at 4 14) (fields_of (id (at 4 21) "Value") [] (at 4 27) (mark (at 4 29) "Integer") (at 4 36))
    (fields_of (id (at 4 38) "Next") [] (at 4 43) (mark (at 4 45) "List") (at 4 49) ∷ []) (at 4 51) (at 4 55) (at 4 61)
    ∷ objects_of (id (at 4 63) "X") (next_id_of (at 4 64) (at 4 66) "Y" ∷ []) (at 4 68) None (indication_of (mark (at 4
    70) "List")) (at 4 74) ∷ initialized_of (id (at 4 76) "N") [] (at 4 78) None (indication_of (mark (at 4 80)
    "Integer")) (at 4 88) (expr_of (at 4 91) (primary.Number (at 4 91) 2)) (at 4 92) ∷ []) (at 5 1) (stmts.Sequence (at
    6 1) (stmt.For (at 6 1) (id (at 6 5) "I") (at 6 7) None (range.Bounds (at 6 10) (expr_of (at 6 10) (primary.Number
    (at 6 10) 1)) (at 6 12) (expr_of (at 6 15) (primary.Number (at 6 15) 3))) (at 6 17) (sole (at 6 22) (assign_of (at 6
    22) "N" [] (at 6 24) (expr.LoneRelation (at 6 27) (rel.LoneSum (at 6 27) (sum.Unsigned (at 6 27) (term_of (at 6 27)
    (object (at 6 27) "N")) (next_term.FurtherTerm (at 6 29) adding.Add (term_of (at 6 31) (object (at 6 31) "I")) ∷
    [])))) (at 6 32))) (at 6 34) (at 6 38) (at 6 42)) (assign_of (at 6 44) "N" [] (at 6 46) (expr.LoneRelation (at 6 49)
    (rel.LoneSum (at 6 49) (sum.Unsigned (at 6 49) (term.Product (at 6 49) (factor_of (at 6 49) (object (at 6 49) "N"))
    (next_factor.FurtherFactor (at 6 51) multiplying.Multiply (factor_of (at 6 53) (primary.Number (at 6 53) 2)) ∷ []))
    (next_term.FurtherTerm (at 6 55) adding.Add (term_of (at 6 57) (primary.Number (at 6 57) 1)) ∷ [])))) (at 6 58) ∷
    stmt.If (at 6 60) (expr.LoneRelation (at 6 63) (rel.LoneSum (at 6 63) (sum.Unsigned (at 6 63) (term.Product (at 6
    63) (factor.Not (at 6 63) (object (at 6 67) "End_Of_File")) []) []))) (at 6 79) (sole (at 6 84) (call_of (at 6 84)
    "Get" (suffix.Applied (at 6 88) (actual_of (at 6 89) (object (at 6 89) "N")) [] (at 6 90) ∷ []) (at 6 91))) [] (at 6
    93) (at 6 97) (at 6 99) ∷ assign_of (at 7 1) "X" [] (at 7 3) (expr_of (at 7 6) (primary.AllocatedAggregate (at 7 6)
    (mark (at 7 10) "Cell") (at 7 14) (aggregate.Several (at 7 15) (actual_of (at 7 16) (object (at 7 16) "N")) (at 7
    17) (actual_of (at 7 19) (primary.Null (at 7 19))) [] (at 7 23)))) (at 7 24) ∷ stmt.While (at 8 1)
    (expr.LoneRelation (at 8 7) (rel.Compared (at 8 7) (sum_of (at 8 7) (object (at 8 7) "N")) relational.Greater (at 8
    9) (sum_of (at 8 11) (primary.Number (at 8 11) 5)))) (at 8 13) (sole (at 8 18) (assign_of (at 8 18) "N" [] (at 8 20)
    (expr.LoneRelation (at 8 23) (rel.LoneSum (at 8 23) (sum.Unsigned (at 8 23) (term.Product (at 8 23) (factor_of (at 8
    23) (object (at 8 23) "N")) (next_factor.FurtherFactor (at 8 25) multiplying.Divide (factor_of (at 8 27)
    (primary.Number (at 8 27) 2)) ∷ [])) []))) (at 8 28))) (at 8 30) (at 8 34) (at 8 38) ∷ [])) (at 9 1) (Some (id (at 9
    5) "Main")) (at 9 9)) ∷ unit.OfSubprogram (at 10 1) [] (subprogram_of (at 10 1) (subspec.Function (at 10 1) (id (at
    10 10) "Usual_F") None (at 10 18) (indication_of (mark (at 10 25) "Integer"))) None (at 10 33) [] (at 10 36) (sole
    (at 10 42) (stmt.ReturnValue (at 10 42) (expr_of (at 10 49) (primary.Number (at 10 49) 1)) (at 10 50))) (at 10 52)
    (Some (id (at 10 56) "Usual_F")) (at 10 63)) ∷ []) ∷ [])
unfolding computes resolves
library_function_1 = refl

library_function_2 : IsFirstBrokenOf Twice (at 15 10) ((unit.OfSubprogram (at 1 1) (context.With (at 1 1) (selected (at
    1 6) "Ada" (at 1 9) (at 1 10) "Text_IO") [] (at 1 17) ∷ use_context (use_of (at 1 19) None (selected (at 1 23) "aDA"
    (at 1 26) (at 1 27) "Text_IO") [] (at 1 34)) ∷ context.With (at 1 36) (selected (at 1 41) "Ada" (at 1 44) (at 1 45)
    "Integer_Text_IO") [] (at 1 60) ∷ use_context (use_of (at 1 62) None (selected (at 1 66) "Ada" (at 1 69) (at 1 70)
    "Integer_Text_IO") [] (at 1 85)) ∷ context.With (at 1 87) (selected (at 1 92) "Ada" (at 1 95) (at 1 96)
    "Unchecked_Deallocation") [] (at 1 118) ∷ []) (subprogram_of (at 2 1) (subspec.Procedure (at 2 1) (id (at 2 11)
    "Main") None) None (at 2 16) (item.IncompleteType (at 3 1) (id (at 3 6) "Cell") (at 3 10) ∷ item.AccessType (at 4 1)
    (id (at 4 6) "List") (at 4 11) (at 4 14) (mark (at 4 21) "Cell") (at 4 25) ∷ item.RecordType (at 5 1) (id (at 5 6)
    "Cell") (at 5 11) (at 5 14) (fields_of (id (at 5 21) "Value") [] (at 5 27) (mark (at 5 29) "integer") (at 5 36))
    (fields_of (id (at 5 38) "Next") [] (at 5 43) (mark (at 5 45) "List") (at 5 49) ∷ []) (at 5 51) (at 5 55) (at 5 61)
    ∷ objects_of (id (at 6 1) "X") (next_id_of (at 6 2) (at 6 4) "Y" ∷ []) (at 6 6) None (indication_of (mark (at 6 8)
    "List")) (at 6 12) ∷ initialized_of (id (at 7 1) "N") [] (at 7 3) None (indication_of (mark (at 7 5) "Integer")) (at
    7 13) (expr_of (at 7 16) (primary.Number (at 7 16) 6)) (at 7 17) ∷ item.Instance (at 8 1) (id (at 8 11) "Free") (at
    8 16) (at 8 19) (selected (at 8 23) "Ada" (at 8 26) (at 8 27) "Unchecked_Deallocation") (at 8 50) (actual_of (at 8
    51) (object (at 8 51) "cell")) (next_arg.FurtherArg (at 8 55) (actual_of (at 8 57) (object (at 8 57) "List")) ∷ [])
    (at 8 61) (at 8 62) ∷ []) (at 9 1) (stmts.Sequence (at 10 1) (stmt.DeclareBlock (at 10 1) (initialized_of (id (at 10
    9) "B") [] (at 10 11) None (indication.Anonymous (at 10 13) None (mark (at 10 20) "Cell")) (at 10 25) (expr_of (at
    10 28) (object (at 10 28) "x")) (at 10 29) ∷ []) (at 10 31) (sole (at 10 37) (stmt.If (at 10 37) (expr.LoneRelation
    (at 10 40) (rel.Compared (at 10 40) (sum_of (at 10 40) (object (at 10 40) "B")) relational.NotEqual (at 10 42)
    (sum_of (at 10 45) (primary.Null (at 10 45))))) (at 10 50) (sole (at 10 55) (assign_of (at 10 55) "B"
    (suffix.Selected (at 10 56) (id (at 10 57) "Value") ∷ []) (at 10 63) (expr_of (at 10 66) (object (at 10 66) "N"))
    (at 10 67))) [] (at 10 69) (at 10 73) (at 10 75))) (at 10 77) (at 10 80)) (assign_of (at 11 1) "X" [] (at 11 3)
    (expr_of (at 11 6) (primary.AllocatedAggregate (at 11 6) (mark (at 11 10) "Cell") (at 11 14) (aggregate.Several (at
    11 15) (actual_of (at 11 16) (object (at 11 16) "N")) (at 11 17) (actual_of (at 11 19) (primary.Null (at 11 19))) []
    (at 11 23)))) (at 11 24) ∷ stmt.While (at 12 1) (expr.LoneRelation (at 12 7) (rel.Compared (at 12 7) (sum_of (at 12
    7) (object (at 12 7) "n")) relational.Greater (at 12 9) (sum_of (at 12 11) (primary.Number (at 12 11) 5)))) (at 12
    13) (sole (at 12 18) (assign_of (at 12 18) "n" [] (at 12 20) (expr.LoneRelation (at 12 23) (rel.LoneSum (at 12 23)
    (sum.Unsigned (at 12 23) (term.Product (at 12 23) (factor_of (at 12 23) (object (at 12 23) "N"))
    (next_factor.FurtherFactor (at 12 25) multiplying.Divide (factor_of (at 12 27) (primary.Number (at 12 27) 2)) ∷ []))
    []))) (at 12 28))) (at 12 30) (at 12 34) (at 12 38) ∷ stmt.IfElse (at 13 1) (expr.LoneRelation (at 13 4)
    (rel.Compared (at 13 4) (sum_of (at 13 4) (object (at 13 4) "N")) relational.Greater (at 13 6) (sum_of (at 13 8)
    (primary.Number (at 13 8) 3)))) (at 13 10) (sole (at 13 15) (assign_of (at 13 15) "N" [] (at 13 17)
    (expr.LoneRelation (at 13 20) (rel.LoneSum (at 13 20) (sum.Unsigned (at 13 20) (term_of (at 13 20) (object (at 13
    20) "N")) (next_term.FurtherTerm (at 13 22) adding.Subtract (term_of (at 13 24) (primary.Number (at 13 24) 1)) ∷
    [])))) (at 13 25))) [] (at 13 27) (sole (at 13 32) (stmt.Null (at 13 32) (at 13 36))) (at 13 38) (at 13 42) (at 13
    44) ∷ [])) (at 14 1) (Some (id (at 14 5) "Main")) (at 14 9)) ∷ unit.OfSubprogram (at 15 1) [] (subprogram_of (at 15
    1) (subspec.Function (at 15 1) (id (at 15 10) "Plain_F") (Some (formals_of (at 15 18) (moded_of (id (at 15 19)
    "Plain_X") [] (at 15 27) None None (mark (at 15 29) "Integer")) [] (at 15 36))) (at 15 38) (indication_of (mark (at
    15 45) "boolean"))) None (at 15 53) [] (at 15 56) (sole (at 15 62) (stmt.ReturnValue (at 15 62) (expr.LoneRelation
    (at 15 69) (rel.Compared (at 15 69) (sum_of (at 15 69) (object (at 15 69) "Plain_X")) relational.Greater (at 15 77)
    (sum_of (at 15 79) (primary.Number (at 15 79) 0)))) (at 15 80))) (at 15 82) (Some (id (at 15 86) "Plain_F")) (at 15
    93)) ∷ []) ∷ [])
unfolding computes resolves
library_function_2 = refl

library_function_3 : IsFirstBrokenOf Twice (at 1 129) ((unit.OfSubprogram (at 1 1) (context.With (at 1 1) (selected (at
    1 6) "Ada" (at 1 9) (at 1 10) "Text_IO") [] (at 1 17) ∷ use_context (use_of (at 1 19) None (selected (at 1 23) "Ada"
    (at 1 26) (at 1 27) "Text_IO") [] (at 1 34)) ∷ context.With (at 1 36) (selected (at 1 41) "Ada" (at 1 44) (at 1 45)
    "Integer_Text_IO") [] (at 1 60) ∷ use_context (use_of (at 1 62) None (selected (at 1 66) "Ada" (at 1 69) (at 1 70)
    "Integer_Text_IO") [] (at 1 85)) ∷ context.With (at 1 87) (selected (at 1 92) "Ada" (at 1 95) (at 1 96)
    "Unchecked_Deallocation") [] (at 1 118) ∷ []) (subprogram_of (at 1 120) (subspec.Function (at 1 120) (id (at 1 129)
    "Quick_F") None (at 1 137) (indication_of (mark (at 1 144) "Boolean"))) None (at 1 152) [] (at 1 155) (sole (at 1
    161) (stmt.ReturnValue (at 1 161) (expr_of (at 1 168) (object (at 1 168) "End_Of_File")) (at 1 179))) (at 1 181)
    (Some (id (at 1 185) "Quick_F")) (at 1 192)) ∷ unit.OfSubprogram (at 2 1) (context.With (at 2 1) (selected (at 2 6)
    "Ada" (at 2 9) (at 2 10) "Text_IO") [] (at 2 17) ∷ use_context (use_of (at 2 19) None (selected (at 2 23) "Ada" (at
    2 26) (at 2 27) "Text_IO") [] (at 2 34)) ∷ context.With (at 2 36) (selected (at 2 41) "Ada" (at 2 44) (at 2 45)
    "Integer_Text_IO") [] (at 2 60) ∷ use_context (use_of (at 2 62) None (selected (at 2 66) "Ada" (at 2 69) (at 2 70)
    "Integer_Text_IO") [] (at 2 85)) ∷ context.With (at 2 87) (selected (at 2 92) "Ada" (at 2 95) (at 2 96)
    "Unchecked_Deallocation") [] (at 2 118) ∷ []) (subprogram_of (at 3 1) (subspec.Procedure (at 3 1) (id (at 3 11)
    "Main") None) None (at 3 16) (item.IncompleteType (at 4 1) (id (at 4 6) "Cell") (at 4 10) ∷ item.AccessType (at 4
    12) (id (at 4 17) "List") (at 4 22) (at 4 25) (mark (at 4 32) "Cell") (at 4 36) ∷ item.RecordType (at 5 1) (id (at 5
    6) "Cell") (at 5 11) (at 5 14) (fields_of (id (at 5 21) "Value") [] (at 5 27) (mark (at 5 29) "Integer") (at 5 36))
    (fields_of (id (at 5 38) "Next") [] (at 5 43) (mark (at 5 45) "List") (at 5 49) ∷ []) (at 5 51) (at 5 55) (at 5 61)
    ∷ objects_of (id (at 5 63) "X") (next_id_of (at 5 64) (at 5 66) "Y" ∷ []) (at 5 68) None (indication_of (mark (at 5
    70) "List")) (at 5 74) ∷ initialized_of (id (at 5 76) "N") [] (at 5 78) None (indication_of (mark (at 5 80)
    "Integer")) (at 5 88) (expr_of (at 5 91) (primary.Number (at 5 91) 8)) (at 5 92) ∷ []) (at 6 1) (stmts.Sequence (at
    7 1) (assign_of (at 7 1) "X" [] (at 7 3) (expr_of (at 7 6) (primary.AllocatedAggregate (at 7 6) (mark (at 7 10)
    "Cell") (at 7 14) (aggregate.Several (at 7 15) (actual_of (at 7 16) (object (at 7 16) "N")) (at 7 17) (actual_of (at
    7 19) (primary.Null (at 7 19))) [] (at 7 23)))) (at 7 24)) (stmt.If (at 8 1) (expr.LoneRelation (at 8 4)
    (rel.LoneSum (at 8 4) (sum.Unsigned (at 8 4) (term.Product (at 8 4) (factor.Not (at 8 4) (object (at 8 8)
    "End_Of_File")) []) []))) (at 8 20) (sole (at 8 25) (call_of (at 8 25) "Get" (suffix.Applied (at 8 29) (actual_of
    (at 8 30) (object (at 8 30) "N")) [] (at 8 31) ∷ []) (at 8 32))) [] (at 8 34) (at 8 38) (at 8 40) ∷ stmt.For (at 8
    42) (id (at 8 46) "I") (at 8 48) None (range.Bounds (at 8 51) (expr_of (at 8 51) (primary.Number (at 8 51) 1)) (at 8
    53) (expr_of (at 8 56) (primary.Number (at 8 56) 3))) (at 8 58) (sole (at 8 63) (assign_of (at 8 63) "N" [] (at 8
    65) (expr.LoneRelation (at 8 68) (rel.LoneSum (at 8 68) (sum.Unsigned (at 8 68) (term_of (at 8 68) (object (at 8 68)
    "N")) (next_term.FurtherTerm (at 8 70) adding.Add (term_of (at 8 72) (object (at 8 72) "I")) ∷ [])))) (at 8 73)))
    (at 8 75) (at 8 79) (at 8 83) ∷ stmt.DeclareBlock (at 8 85) (initialized_of (id (at 8 93) "B") [] (at 8 95) None
    (indication.Anonymous (at 8 97) None (mark (at 8 104) "Cell")) (at 8 109) (expr_of (at 8 112) (object (at 8 112)
    "X")) (at 8 113) ∷ []) (at 8 115) (sole (at 8 121) (stmt.If (at 8 121) (expr.LoneRelation (at 8 124) (rel.Compared
    (at 8 124) (sum_of (at 8 124) (object (at 8 124) "B")) relational.NotEqual (at 8 126) (sum_of (at 8 129)
    (primary.Null (at 8 129))))) (at 8 134) (sole (at 8 139) (assign_of (at 8 139) "B" (suffix.Selected (at 8 140) (id
    (at 8 141) "Value") ∷ []) (at 8 147) (expr_of (at 8 150) (object (at 8 150) "N")) (at 8 151))) [] (at 8 153) (at 8
    157) (at 8 159))) (at 8 161) (at 8 164) ∷ [])) (at 9 1) (Some (id (at 9 5) "Main")) (at 9 9)) ∷ []) ∷ [])
unfolding computes resolves
library_function_3 = refl
