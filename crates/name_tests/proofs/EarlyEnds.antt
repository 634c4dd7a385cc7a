-- A name is used before the end of its own declaration: N4.
--
-- tools/tree_terms.py makes this of the sources that data/cases.txt has under its name.
use Rattle.std.proofs.Common.{refl, [], ◌∷◌}
use Rattle.std.specs.Prelude.{None, Some, codes}
use Rattle.ada_tree.specs.declared.operator.AddingOperator.TheVariants as adding
use Rattle.ada_tree.specs.declared.expression.Aggregate.TheVariants as aggregate
use Rattle.ada_tree.specs.declared.statement.When.TheVariants as alternative
use Rattle.ada_tree.specs.declared.range.Choice.TheVariants as choice
use Rattle.ada_tree.specs.declared.unit.Context.TheVariants as context
use Rattle.ada_tree.specs.declared.subprogram.Decl.TheVariants as decl
use Rattle.ada_tree.specs.declared.expression.Expr.TheVariants as expr
use Rattle.ada_tree.specs.declared.expression.Factor.TheVariants as factor
use Rattle.ada_tree.specs.declared.declaration.Indication.TheVariants as indication
use Rattle.ada_tree.specs.declared.declaration.Item.TheVariants as item
use Rattle.ada_tree.specs.declared.operator.MultiplyingOperator.TheVariants as multiplying
use Rattle.ada_tree.specs.declared.expression.NextArg.TheVariants as next_arg
use Rattle.ada_tree.specs.declared.expression.NextFactor.TheVariants as next_factor
use Rattle.ada_tree.specs.declared.subprogram.NextFormal.TheVariants as next_formal
use Rattle.ada_tree.specs.declared.expression.NextTerm.TheVariants as next_term
use Rattle.ada_tree.specs.declared.unit.BodyPart.TheVariants as part
use Rattle.ada_tree.specs.declared.expression.Primary.TheVariants as primary
use Rattle.ada_tree.specs.declared.range.Range.TheVariants as range
use Rattle.ada_tree.specs.declared.expression.Rel.TheVariants as rel
use Rattle.ada_tree.specs.declared.operator.RelationalOperator.TheVariants as relational
use Rattle.ada_tree.specs.declared.operator.Sign.TheVariants as sign
use Rattle.ada_tree.specs.declared.statement.Stmt.TheVariants as stmt
use Rattle.ada_tree.specs.declared.statement.Stmts.TheVariants as stmts
use Rattle.ada_tree.specs.declared.subprogram.Subspec.TheVariants as subspec
use Rattle.ada_tree.specs.declared.expression.Suffix.TheVariants as suffix
use Rattle.ada_tree.specs.declared.expression.Sum.TheVariants as sum
use Rattle.ada_tree.specs.declared.expression.Term.TheVariants as term
use Rattle.ada_tree.specs.declared.unit.SourceUnit.TheVariants as unit
use Rattle.ada_grammar.proofs.SmallSources.{computes}
use Rattle.name_events.specs.declared.declaration.NameRule.TheVariants.{TooEarly}
use Rattle.name_tests.proofs.SmallRules.{resolves}
use Rattle.name_tests.proofs.SourceTrees.{IsFirstBrokenOf, actual_of, assign_of, association_of, at, call_of, expr_of, factor_of, fields_of, formals_of, id, indication_of, initialized_of, mark, marked_of, moded_of, named, next_id_of, numbers_of, object, objects_of, package_body_of, package_of, rel_of, selected, sole, subprogram_of, sum_of, term_of, use_context, use_of}

-- Most declarations end with their semicolon.
in_own_declaration_1 : IsFirstBrokenOf TooEarly (at 7 52) ((unit.OfSubprogram (at 1 7) (context.With (at 1 7) (selected
    (at 1 12) "Ada" (at 1 15) (at 1 16) "Text_IO") [] (at 1 23) ∷ use_context (use_of (at 1 25) None (selected (at 1 29)
    "Ada" (at 1 32) (at 1 33) "Text_IO") [] (at 1 40)) ∷ context.With (at 1 42) (selected (at 1 47) "Ada" (at 1 50) (at
    1 51) "Integer_Text_IO") [] (at 1 66) ∷ use_context (use_of (at 1 68) None (selected (at 1 72) "Ada" (at 1 75) (at 1
    76) "Integer_Text_IO") [] (at 1 91)) ∷ context.With (at 1 93) (selected (at 1 98) "Ada" (at 1 101) (at 1 102)
    "Unchecked_Deallocation") [] (at 1 124) ∷ []) (subprogram_of (at 2 1) (subspec.Procedure (at 2 1) (id (at 2 11)
    "Main") None) None (at 2 16) (item.IncompleteType (at 3 1) (id (at 3 6) "Cell") (at 3 10) ∷ item.AccessType (at 4 4)
    (id (at 4 9) "List") (at 4 14) (at 4 17) (mark (at 4 24) "Cell") (at 4 28) ∷ item.RecordType (at 5 1) (id (at 5 6)
    "Cell") (at 5 11) (at 5 14) (fields_of (id (at 5 21) "Value") [] (at 5 27) (mark (at 5 29) "Integer") (at 5 36))
    (fields_of (id (at 5 38) "Next") [] (at 5 43) (mark (at 5 45) "List") (at 5 49) ∷ []) (at 5 51) (at 5 55) (at 5 61)
    ∷ objects_of (id (at 6 4) "X") (next_id_of (at 6 5) (at 6 7) "Y" ∷ []) (at 6 9) None (indication_of (mark (at 6 11)
    "List")) (at 6 15) ∷ initialized_of (id (at 7 1) "N") [] (at 7 3) None (indication_of (mark (at 7 5) "Integer")) (at
    7 13) (expr_of (at 7 16) (primary.Number (at 7 16) 1)) (at 7 17) ∷ item.RecordType (at 7 19) (id (at 7 24)
    "Spare_R") (at 7 32) (at 7 35) (fields_of (id (at 7 42) "Spare_F") [] (at 7 50) (mark (at 7 52) "Spare_R") (at 7
    59)) [] (at 7 61) (at 7 65) (at 7 71) ∷ []) (at 8 7) (stmts.Sequence (at 9 4) (assign_of (at 9 4) "Y" [] (at 9 6)
    (expr_of (at 9 9) (object (at 9 9) "X")) (at 9 10)) (assign_of (at 9 12) "X" [] (at 9 14) (expr_of (at 9 17)
    (primary.Null (at 9 17))) (at 9 21) ∷ assign_of (at 10 7) "N" [] (at 10 9) (expr.LoneRelation (at 10 12)
    (rel.LoneSum (at 10 12) (sum.Unsigned (at 10 12) (term.Product (at 10 12) (factor_of (at 10 12) (object (at 10 12)
    "N")) (next_factor.FurtherFactor (at 10 14) multiplying.Multiply (factor_of (at 10 16) (primary.Number (at 10 16)
    2)) ∷ [])) (next_term.FurtherTerm (at 10 18) adding.Add (term_of (at 10 20) (primary.Number (at 10 20) 1)) ∷ []))))
    (at 10 21) ∷ [])) (at 11 7) (Some (id (at 11 11) "Main")) (at 11 15)) ∷ []) ∷ [])
unfolding computes resolves
in_own_declaration_1 = refl

in_own_declaration_2 : IsFirstBrokenOf TooEarly (at 3 42) ((unit.OfSubprogram (at 1 1) (context.With (at 1 1) (selected
    (at 1 6) "ADA" (at 1 9) (at 1 10) "Text_IO") [] (at 1 17) ∷ use_context (use_of (at 1 19) None (selected (at 1 23)
    "ada" (at 1 26) (at 1 27) "Text_IO") [] (at 1 34)) ∷ context.With (at 1 36) (selected (at 1 41) "Ada" (at 1 44) (at
    1 45) "Integer_Text_IO") [] (at 1 60) ∷ use_context (use_of (at 1 62) None (selected (at 1 66) "Ada" (at 1 69) (at 1
    70) "Integer_Text_IO") [] (at 1 85)) ∷ context.With (at 1 87) (selected (at 1 92) "Ada" (at 1 95) (at 1 96)
    "Unchecked_Deallocation") [] (at 1 118) ∷ []) (subprogram_of (at 2 1) (subspec.Procedure (at 2 1) (id (at 2 11)
    "Main") None) None (at 2 16) (item.IncompleteType (at 3 1) (id (at 3 6) "cELL") (at 3 10) ∷ initialized_of (id (at 3
    12) "Spare_A") (next_id_of (at 3 19) (at 3 21) "Spare_B" ∷ []) (at 3 29) None (indication_of (mark (at 3 31)
    "Integer")) (at 3 39) (expr_of (at 3 42) (object (at 3 42) "Spare_A")) (at 3 49) ∷ item.AccessType (at 4 1) (id (at
    4 6) "List") (at 4 11) (at 4 14) (mark (at 4 21) "Cell") (at 4 25) ∷ item.RecordType (at 5 1) (id (at 5 6) "cell")
    (at 5 11) (at 5 14) (fields_of (id (at 5 21) "Value") [] (at 5 27) (mark (at 5 29) "Integer") (at 5 36)) (fields_of
    (id (at 5 38) "Next") [] (at 5 43) (mark (at 5 45) "List") (at 5 49) ∷ []) (at 5 51) (at 5 55) (at 5 61) ∷
    objects_of (id (at 6 1) "X") (next_id_of (at 6 2) (at 6 4) "Y" ∷ []) (at 6 6) None (indication_of (mark (at 6 8)
    "List")) (at 6 12) ∷ initialized_of (id (at 7 1) "N") [] (at 7 3) None (indication_of (mark (at 7 5) "Integer")) (at
    7 13) (expr_of (at 7 16) (primary.Number (at 7 16) 4)) (at 7 17) ∷ []) (at 8 1) (stmts.Sequence (at 9 1) (stmt.While
    (at 9 1) (expr.LoneRelation (at 9 7) (rel.Compared (at 9 7) (sum_of (at 9 7) (object (at 9 7) "N"))
    relational.Greater (at 9 9) (sum_of (at 9 11) (primary.Number (at 9 11) 5)))) (at 9 13) (sole (at 9 18) (assign_of
    (at 9 18) "N" [] (at 9 20) (expr.LoneRelation (at 9 23) (rel.LoneSum (at 9 23) (sum.Unsigned (at 9 23) (term.Product
    (at 9 23) (factor_of (at 9 23) (object (at 9 23) "n")) (next_factor.FurtherFactor (at 9 25) multiplying.Divide
    (factor_of (at 9 27) (primary.Number (at 9 27) 2)) ∷ [])) []))) (at 9 28))) (at 9 30) (at 9 34) (at 9 38))
    (assign_of (at 10 1) "Y" [] (at 10 3) (expr_of (at 10 6) (object (at 10 6) "X")) (at 10 7) ∷ assign_of (at 10 9) "X"
    [] (at 10 11) (expr_of (at 10 14) (primary.Null (at 10 14))) (at 10 18) ∷ assign_of (at 11 1) "X" [] (at 11 3)
    (expr_of (at 11 6) (primary.AllocatedAggregate (at 11 6) (mark (at 11 10) "cell") (at 11 14) (aggregate.Several (at
    11 15) (actual_of (at 11 16) (object (at 11 16) "N")) (at 11 17) (actual_of (at 11 19) (primary.Null (at 11 19))) []
    (at 11 23)))) (at 11 24) ∷ stmt.For (at 12 1) (id (at 12 5) "I") (at 12 7) None (range.Bounds (at 12 10) (expr_of
    (at 12 10) (primary.Number (at 12 10) 1)) (at 12 12) (expr_of (at 12 15) (primary.Number (at 12 15) 3))) (at 12 17)
    (sole (at 12 22) (assign_of (at 12 22) "N" [] (at 12 24) (expr.LoneRelation (at 12 27) (rel.LoneSum (at 12 27)
    (sum.Unsigned (at 12 27) (term_of (at 12 27) (object (at 12 27) "N")) (next_term.FurtherTerm (at 12 29) adding.Add
    (term_of (at 12 31) (object (at 12 31) "I")) ∷ [])))) (at 12 32))) (at 12 34) (at 12 38) (at 12 42) ∷ [])) (at 13 1)
    (Some (id (at 13 5) "Main")) (at 13 9)) ∷ []) ∷ [])
unfolding computes resolves
in_own_declaration_2 = refl

in_own_declaration_3 : IsFirstBrokenOf TooEarly (at 3 34) ((unit.OfSubprogram (at 1 7) (context.With (at 1 7) (selected
    (at 1 12) "Ada" (at 1 15) (at 1 16) "Text_IO") [] (at 1 23) ∷ use_context (use_of (at 1 25) None (selected (at 1 29)
    "Ada" (at 1 32) (at 1 33) "Text_IO") [] (at 1 40)) ∷ context.With (at 1 42) (selected (at 1 47) "Ada" (at 1 50) (at
    1 51) "Integer_Text_IO") [] (at 1 66) ∷ use_context (use_of (at 1 68) None (selected (at 1 72) "Ada" (at 1 75) (at 1
    76) "Integer_Text_IO") [] (at 1 91)) ∷ context.With (at 1 93) (selected (at 1 98) "Ada" (at 1 101) (at 1 102)
    "Unchecked_Deallocation") [] (at 1 124) ∷ []) (subprogram_of (at 2 4) (subspec.Procedure (at 2 4) (id (at 2 14)
    "Main") None) None (at 2 19) (item.IncompleteType (at 3 4) (id (at 3 9) "Cell") (at 3 13) ∷ item.ConstrainedSubtype
    (at 3 15) (id (at 3 23) "Quick_S") (at 3 31) (mark (at 3 34) "Quick_S") (at 3 42) (expr_of (at 3 48) (primary.Number
    (at 3 48) 1)) (at 3 50) (expr_of (at 3 53) (primary.Number (at 3 53) 2)) (at 3 54) ∷ item.AccessType (at 4 1) (id
    (at 4 6) "List") (at 4 11) (at 4 14) (mark (at 4 21) "Cell") (at 4 25) ∷ item.RecordType (at 5 4) (id (at 5 9)
    "Cell") (at 5 14) (at 5 17) (fields_of (id (at 5 24) "Value") [] (at 5 30) (mark (at 5 32) "Integer") (at 5 39))
    (fields_of (id (at 5 41) "Next") [] (at 5 46) (mark (at 5 48) "List") (at 5 52) ∷ []) (at 5 54) (at 5 58) (at 5 64)
    ∷ objects_of (id (at 6 7) "X") (next_id_of (at 6 8) (at 6 10) "Y" ∷ []) (at 6 12) None (indication_of (mark (at 6
    14) "List")) (at 6 18) ∷ initialized_of (id (at 7 4) "N") [] (at 7 6) None (indication_of (mark (at 7 8) "Integer"))
    (at 7 16) (expr_of (at 7 19) (primary.Number (at 7 19) 5)) (at 7 20) ∷ []) (at 8 4) (stmts.Sequence (at 9 4)
    (assign_of (at 9 4) "Y" [] (at 9 6) (expr_of (at 9 9) (object (at 9 9) "X")) (at 9 10)) (assign_of (at 9 12) "X" []
    (at 9 14) (expr_of (at 9 17) (primary.Null (at 9 17))) (at 9 21) ∷ assign_of (at 10 7) "N" [] (at 10 9)
    (expr.LoneRelation (at 10 12) (rel.LoneSum (at 10 12) (sum.Unsigned (at 10 12) (term.Product (at 10 12) (factor_of
    (at 10 12) (object (at 10 12) "N")) (next_factor.FurtherFactor (at 10 14) multiplying.Multiply (factor_of (at 10 16)
    (primary.Number (at 10 16) 2)) ∷ [])) (next_term.FurtherTerm (at 10 18) adding.Add (term_of (at 10 20)
    (primary.Number (at 10 20) 1)) ∷ [])))) (at 10 21) ∷ call_of (at 11 7) "Put_Line" (suffix.Applied (at 11 16)
    (actual_of (at 11 17) (named (at 11 17) "Integer" (suffix.Attribute (at 11 24) (id (at 11 25) "Image") ∷
    suffix.Applied (at 11 31) (actual_of (at 11 32) (object (at 11 32) "N")) [] (at 11 33) ∷ []))) [] (at 11 34) ∷ [])
    (at 11 35) ∷ [])) (at 12 4) (Some (id (at 12 8) "Main")) (at 12 12)) ∷ []) ∷ [])
unfolding computes resolves
in_own_declaration_3 = refl

in_own_declaration_4 : IsFirstBrokenOf TooEarly (at 5 88) ((unit.OfSubprogram (at 1 1) (context.With (at 1 1) (selected
    (at 1 6) "Ada" (at 1 9) (at 1 10) "Text_IO") [] (at 1 17) ∷ use_context (use_of (at 1 19) None (selected (at 1 23)
    "Ada" (at 1 26) (at 1 27) "Text_IO") [] (at 1 34)) ∷ context.With (at 1 36) (selected (at 1 41) "Ada" (at 1 44) (at
    1 45) "Integer_Text_IO") [] (at 1 60) ∷ use_context (use_of (at 1 62) None (selected (at 1 66) "Ada" (at 1 69) (at 1
    70) "Integer_Text_IO") [] (at 1 85)) ∷ context.With (at 1 87) (selected (at 1 92) "Ada" (at 1 95) (at 1 96)
    "Unchecked_Deallocation") [] (at 1 118) ∷ []) (subprogram_of (at 2 4) (subspec.Procedure (at 2 4) (id (at 2 14)
    "Main") None) None (at 2 19) (item.IncompleteType (at 3 4) (id (at 3 9) "Cell") (at 3 13) ∷ item.AccessType (at 4 4)
    (id (at 4 9) "List") (at 4 14) (at 4 17) (mark (at 4 24) "Cell") (at 4 28) ∷ item.RecordType (at 5 1) (id (at 5 6)
    "Cell") (at 5 11) (at 5 14) (fields_of (id (at 5 21) "Value") [] (at 5 27) (mark (at 5 29) "Integer") (at 5 36))
    (fields_of (id (at 5 38) "Next") [] (at 5 43) (mark (at 5 45) "List") (at 5 49) ∷ []) (at 5 51) (at 5 55) (at 5 61)
    ∷ initialized_of (id (at 5 63) "Usual_X") [] (at 5 71) None (indication_of (mark (at 5 73) "Integer")) (at 5 81)
    (expr.LoneRelation (at 5 84) (rel.LoneSum (at 5 84) (sum.Unsigned (at 5 84) (term_of (at 5 84) (primary.Number (at 5
    84) 1)) (next_term.FurtherTerm (at 5 86) adding.Add (term.Product (at 5 88) (factor_of (at 5 88) (object (at 5 88)
    "Usual_X")) (next_factor.FurtherFactor (at 5 96) multiplying.Multiply (factor_of (at 5 98) (primary.Number (at 5 98)
    2)) ∷ [])) ∷ [])))) (at 5 99) ∷ objects_of (id (at 6 1) "X") (next_id_of (at 6 2) (at 6 4) "Y" ∷ []) (at 6 6) None
    (indication_of (mark (at 6 8) "List")) (at 6 12) ∷ initialized_of (id (at 7 1) "N") [] (at 7 3) None (indication_of
    (mark (at 7 5) "Integer")) (at 7 13) (expr_of (at 7 16) (primary.Number (at 7 16) 5)) (at 7 17) ∷ item.Instance (at
    8 1) (id (at 8 11) "Free") (at 8 16) (at 8 19) (selected (at 8 23) "Ada" (at 8 26) (at 8 27)
    "Unchecked_Deallocation") (at 8 50) (actual_of (at 8 51) (object (at 8 51) "Cell")) (next_arg.FurtherArg (at 8 55)
    (actual_of (at 8 57) (object (at 8 57) "List")) ∷ []) (at 8 61) (at 8 62) ∷ []) (at 9 7) (stmts.Sequence (at 10 1)
    (stmt.If (at 10 1) (expr.LoneRelation (at 10 4) (rel.LoneSum (at 10 4) (sum.Unsigned (at 10 4) (term.Product (at 10
    4) (factor.Not (at 10 4) (object (at 10 8) "End_Of_File")) []) []))) (at 10 20) (sole (at 10 25) (call_of (at 10 25)
    "Get" (suffix.Applied (at 10 29) (actual_of (at 10 30) (object (at 10 30) "N")) [] (at 10 31) ∷ []) (at 10 32))) []
    (at 10 34) (at 10 38) (at 10 40)) (stmt.DeclareBlock (at 11 1) (initialized_of (id (at 11 9) "B") [] (at 11 11) None
    (indication.Anonymous (at 11 13) None (mark (at 11 20) "Cell")) (at 11 25) (expr_of (at 11 28) (object (at 11 28)
    "X")) (at 11 29) ∷ []) (at 11 31) (sole (at 11 37) (stmt.If (at 11 37) (expr.LoneRelation (at 11 40) (rel.Compared
    (at 11 40) (sum_of (at 11 40) (object (at 11 40) "B")) relational.NotEqual (at 11 42) (sum_of (at 11 45)
    (primary.Null (at 11 45))))) (at 11 50) (sole (at 11 55) (assign_of (at 11 55) "B" (suffix.Selected (at 11 56) (id
    (at 11 57) "Value") ∷ []) (at 11 63) (expr_of (at 11 66) (object (at 11 66) "N")) (at 11 67))) [] (at 11 69) (at 11
    73) (at 11 75))) (at 11 77) (at 11 80) ∷ assign_of (at 12 4) "Y" [] (at 12 6) (expr_of (at 12 9) (object (at 12 9)
    "X")) (at 12 10) ∷ assign_of (at 12 12) "X" [] (at 12 14) (expr_of (at 12 17) (primary.Null (at 12 17))) (at 12 21)
    ∷ [])) (at 13 7) (Some (id (at 13 11) "Main")) (at 13 15)) ∷ []) ∷ [])
unfolding computes resolves
in_own_declaration_4 = refl

in_own_declaration_5 : IsFirstBrokenOf TooEarly (at 5 84) ((unit.OfSubprogram (at 1 7) (context.With (at 1 7) (selected
    (at 1 12) "Ada" (at 1 15) (at 1 16) "Text_IO") [] (at 1 23) ∷ use_context (use_of (at 1 25) None (selected (at 1 29)
    "Ada" (at 1 32) (at 1 33) "Text_IO") [] (at 1 40)) ∷ context.With (at 1 42) (selected (at 1 47) "Ada" (at 1 50) (at
    1 51) "Integer_Text_IO") [] (at 1 66) ∷ use_context (use_of (at 1 68) None (selected (at 1 72) "Ada" (at 1 75) (at 1
    76) "Integer_Text_IO") [] (at 1 91)) ∷ context.With (at 1 93) (selected (at 1 98) "Ada" (at 1 101) (at 1 102)
    "Unchecked_Deallocation") [] (at 1 124) ∷ []) (subprogram_of (at 2 4) (subspec.Procedure (at 2 4) (id (at 2 14)
    "Main") None) None (at 2 19) (item.IncompleteType (at 3 4) (id (at 3 9) "Cell") (at 3 13) ∷ item.AccessType (at 4 7)
    (id (at 4 12) "List") (at 4 17) (at 4 20) (mark (at 4 27) "Cell") (at 4 31) ∷ item.RecordType (at 5 1) (id (at 5 6)
    "Cell") (at 5 11) (at 5 14) (fields_of (id (at 5 21) "Value") [] (at 5 27) (mark (at 5 29) "Integer") (at 5 36))
    (fields_of (id (at 5 38) "Next") [] (at 5 43) (mark (at 5 45) "List") (at 5 49) ∷ []) (at 5 51) (at 5 55) (at 5 61)
    ∷ initialized_of (id (at 5 63) "Usual_X") [] (at 5 71) None (indication_of (mark (at 5 73) "Integer")) (at 5 81)
    (expr_of (at 5 84) (named (at 5 84) "Usual_X" (suffix.Attribute (at 5 91) (id (at 5 92) "First") ∷ []))) (at 5 97) ∷
    objects_of (id (at 6 4) "X") (next_id_of (at 6 5) (at 6 7) "Y" ∷ []) (at 6 9) None (indication_of (mark (at 6 11)
    "List")) (at 6 15) ∷ initialized_of (id (at 7 7) "N") [] (at 7 9) None (indication_of (mark (at 7 11) "Integer"))
    (at 7 19) (expr_of (at 7 22) (primary.Number (at 7 22) 4)) (at 7 23) ∷ item.Instance (at 8 4) (id (at 8 14) "Free")
    (at 8 19) (at 8 22) (selected (at 8 26) "Ada" (at 8 29) (at 8 30) "Unchecked_Deallocation") (at 8 53) (actual_of (at
    8 54) (object (at 8 54) "Cell")) (next_arg.FurtherArg (at 8 58) (actual_of (at 8 60) (object (at 8 60) "List")) ∷
    []) (at 8 64) (at 8 65) ∷ []) (at 9 1) (stmts.Sequence (at 10 1) (stmt.DeclareBlock (at 10 1) (initialized_of (id
    (at 10 9) "B") [] (at 10 11) None (indication.Anonymous (at 10 13) None (mark (at 10 20) "Cell")) (at 10 25)
    (expr_of (at 10 28) (object (at 10 28) "X")) (at 10 29) ∷ []) (at 10 31) (sole (at 10 37) (stmt.If (at 10 37)
    (expr.LoneRelation (at 10 40) (rel.Compared (at 10 40) (sum_of (at 10 40) (object (at 10 40) "B"))
    relational.NotEqual (at 10 42) (sum_of (at 10 45) (primary.Null (at 10 45))))) (at 10 50) (sole (at 10 55)
    (assign_of (at 10 55) "B" (suffix.Selected (at 10 56) (id (at 10 57) "Value") ∷ []) (at 10 63) (expr_of (at 10 66)
    (object (at 10 66) "N")) (at 10 67))) [] (at 10 69) (at 10 73) (at 10 75))) (at 10 77) (at 10 80)) (stmt.While (at
    11 7) (expr.LoneRelation (at 11 13) (rel.Compared (at 11 13) (sum_of (at 11 13) (object (at 11 13) "N"))
    relational.Greater (at 11 15) (sum_of (at 11 17) (primary.Number (at 11 17) 5)))) (at 11 19) (sole (at 11 24)
    (assign_of (at 11 24) "N" [] (at 11 26) (expr.LoneRelation (at 11 29) (rel.LoneSum (at 11 29) (sum.Unsigned (at 11
    29) (term.Product (at 11 29) (factor_of (at 11 29) (object (at 11 29) "N")) (next_factor.FurtherFactor (at 11 31)
    multiplying.Divide (factor_of (at 11 33) (primary.Number (at 11 33) 2)) ∷ [])) []))) (at 11 34))) (at 11 36) (at 11
    40) (at 11 44) ∷ assign_of (at 12 4) "Y" [] (at 12 6) (expr_of (at 12 9) (object (at 12 9) "X")) (at 12 10) ∷
    assign_of (at 12 12) "X" [] (at 12 14) (expr_of (at 12 17) (primary.Null (at 12 17))) (at 12 21) ∷ [])) (at 13 1)
    (Some (id (at 13 5) "Main")) (at 13 9)) ∷ []) ∷ [])
unfolding computes resolves
in_own_declaration_5 = refl

in_own_declaration_6 : IsFirstBrokenOf TooEarly (at 19 38) ((unit.OfSubprogram (at 1 1) (context.With (at 1 1) (selected
    (at 1 6) "Ada" (at 1 9) (at 1 10) "Text_IO") [] (at 1 17) ∷ use_context (use_of (at 1 19) None (selected (at 1 23)
    "Ada" (at 1 26) (at 1 27) "Text_IO") [] (at 1 34)) ∷ context.With (at 2 1) (selected (at 2 6) "Ada" (at 2 9) (at 2
    10) "Integer_Text_IO") [] (at 2 25) ∷ use_context (use_of (at 2 27) None (selected (at 2 31) "Ada" (at 2 34) (at 2
    35) "Integer_Text_IO") [] (at 2 50)) ∷ context.With (at 3 1) (selected (at 3 6) "Ada" (at 3 9) (at 3 10)
    "Unchecked_Deallocation") [] (at 3 32) ∷ []) (subprogram_of (at 4 1) (subspec.Procedure (at 4 1) (id (at 4 11)
    "Main") None) None (at 4 16) (item.IncompleteType (at 5 1) (id (at 5 6) "Node1") (at 5 11) ∷ item.AccessType (at 6
    1) (id (at 6 6) "Tree1") (at 6 12) (at 6 15) (mark (at 6 22) "Node1") (at 6 27) ∷ item.RecordType (at 7 1) (id (at 7
    6) "Node1") (at 7 12) (at 7 15) (fields_of (id (at 7 22) "Key1") [] (at 7 27) (mark (at 7 29) "Integer") (at 7 36))
    (fields_of (id (at 7 38) "Left1") [] (at 7 44) (mark (at 7 46) "Tree1") (at 7 51) ∷ fields_of (id (at 7 53)
    "Right1") [] (at 7 60) (mark (at 7 62) "Tree1") (at 7 67) ∷ []) (at 7 69) (at 7 73) (at 7 79) ∷ item.Instance (at 8
    1) (id (at 8 11) "Free1") (at 8 17) (at 8 20) (selected (at 8 24) "Ada" (at 8 27) (at 8 28)
    "Unchecked_Deallocation") (at 8 51) (actual_of (at 8 52) (object (at 8 52) "Node1")) (next_arg.FurtherArg (at 8 57)
    (actual_of (at 8 59) (object (at 8 59) "Tree1")) ∷ []) (at 8 64) (at 8 65) ∷ item.IncompleteType (at 9 1) (id (at 9
    6) "Cell1") (at 9 11) ∷ item.AccessType (at 10 1) (id (at 10 6) "List1") (at 10 12) (at 10 15) (mark (at 10 22)
    "Cell1") (at 10 27) ∷ item.RecordType (at 11 1) (id (at 11 6) "Cell1") (at 11 12) (at 11 15) (fields_of (id (at 11
    22) "Val1") [] (at 11 27) (mark (at 11 29) "Integer") (at 11 36)) (fields_of (id (at 11 38) "Next1") [] (at 11 44)
    (mark (at 11 46) "List1") (at 11 51) ∷ fields_of (id (at 11 53) "X1") [] (at 11 56) (mark (at 11 58) "Node1") (at 11
    63) ∷ []) (at 11 65) (at 11 69) (at 11 75) ∷ item.EnumerationType (at 12 1) (id (at 12 6) "E1") (at 12 9) (at 12 12)
    (id (at 12 13) "Lit_1") (next_id_of (at 12 18) (at 12 20) "Lit_2" ∷ next_id_of (at 12 25) (at 12 27) "Lit_3" ∷
    next_id_of (at 12 32) (at 12 34) "Lit_4" ∷ []) (at 12 39) (at 12 40) ∷ initialized_of (id (at 13 1) "V1") [] (at 13
    4) None (indication_of (mark (at 13 6) "Node1")) (at 13 12) (expr_of (at 13 15) (primary.Aggregated (at 13 15)
    (aggregate.Several (at 13 15) (actual_of (at 13 16) (primary.Number (at 13 16) 34)) (at 13 18) (actual_of (at 13 20)
    (primary.Null (at 13 20))) (next_arg.FurtherArg (at 13 24) (actual_of (at 13 26) (primary.AllocatedAggregate (at 13
    26) (mark (at 13 30) "Node1") (at 13 35) (aggregate.Several (at 13 36) (actual_of (at 13 37) (primary.Parenthesized
    (at 13 37) (expr.LoneRelation (at 13 38) (rel.LoneSum (at 13 38) (sum.Signed (at 13 38) sign.Minus (term_of (at 13
    39) (primary.Number (at 13 39) 3)) []))) (at 13 40))) (at 13 41) (actual_of (at 13 43) (primary.Null (at 13 43)))
    (next_arg.FurtherArg (at 13 47) (actual_of (at 13 49) (primary.Null (at 13 49))) ∷ []) (at 13 53)))) ∷ []) (at 13
    54)))) (at 13 55) ∷ initialized_of (id (at 14 1) "V2") [] (at 14 4) None (indication_of (mark (at 14 6) "List1"))
    (at 14 12) (expr_of (at 14 15) (primary.Allocated (at 14 15) (mark (at 14 19) "Cell1"))) (at 14 24) ∷ initialized_of
    (id (at 15 1) "V3") [] (at 15 4) None (indication_of (mark (at 15 6) "Tree1")) (at 15 12) (expr_of (at 15 15) (named
    (at 15 15) "V2" (suffix.Selected (at 15 17) (id (at 15 18) "X1") ∷ suffix.Selected (at 15 20) (id (at 15 21)
    "Right1") ∷ []))) (at 15 27) ∷ initialized_of (id (at 16 1) "V4") [] (at 16 4) None (indication_of (mark (at 16 6)
    "Node1")) (at 16 12) (expr_of (at 16 15) (primary.Aggregated (at 16 15) (aggregate.Several (at 16 15) (actual_of (at
    16 16) (named (at 16 16) "V1" (suffix.Selected (at 16 18) (id (at 16 19) "Key1") ∷ []))) (at 16 23) (actual_of (at
    16 25) (object (at 16 25) "V3")) (next_arg.FurtherArg (at 16 27) (actual_of (at 16 29) (named (at 16 29) "V1"
    (suffix.Selected (at 16 31) (id (at 16 32) "Right1") ∷ []))) ∷ []) (at 16 38)))) (at 16 39) ∷ objects_of (id (at 17
    1) "V5") (next_id_of (at 17 3) (at 17 5) "V6" ∷ []) (at 17 8) None (indication_of (mark (at 17 10) "Natural")) (at
    17 17) ∷ objects_of (id (at 18 1) "V7") [] (at 18 4) None (indication_of (mark (at 18 6) "Boolean")) (at 18 13) ∷
    objects_of (id (at 19 1) "T1") [] (at 19 4) None (indication_of (mark (at 19 6) "Integer")) (at 19 13) ∷ numbers_of
    (id (at 19 15) "Second_N") [] (at 19 24) (at 19 26) (at 19 35) (expr.LoneRelation (at 19 38) (rel.LoneSum (at 19 38)
    (sum.Unsigned (at 19 38) (term_of (at 19 38) (object (at 19 38) "Second_N")) (next_term.FurtherTerm (at 19 47)
    adding.Add (term_of (at 19 49) (primary.Number (at 19 49) 1)) ∷ [])))) (at 19 50) ∷ []) (at 20 1) (stmts.Sequence
    (at 21 1) (stmt.If (at 21 1) (expr.LoneRelation (at 21 4) (rel.Compared (at 21 4) (sum_of (at 21 4) (named (at 21 4)
    "V4" (suffix.Selected (at 21 6) (id (at 21 7) "Left1") ∷ []))) relational.NotEqual (at 21 13) (sum_of (at 21 16)
    (primary.Null (at 21 16))))) (at 21 21) (sole (at 22 1) (assign_of (at 22 1) "V7" [] (at 22 4) (expr.OrElse (at 22
    7) (rel_of (at 22 7) (object (at 22 7) "True")) (at 22 12) (at 22 15) (rel_of (at 22 20) (primary.Parenthesized (at
    22 20) (expr.LoneRelation (at 22 21) (rel.Compared (at 22 21) (sum_of (at 22 21) (named (at 22 21) "V4"
    (suffix.Selected (at 22 23) (id (at 22 24) "Left1") ∷ suffix.Dereferenced (at 22 29) (at 22 30) ∷ suffix.Selected
    (at 22 33) (id (at 22 34) "Key1") ∷ []))) relational.GreaterEqual (at 22 39) (sum_of (at 22 42) (object (at 22 42)
    "V6")))) (at 22 44))) []) (at 22 45))) [] (at 23 1) (at 23 5) (at 23 7)) (call_of (at 24 1) "New_Line" [] (at 24 9)
    ∷ stmt.If (at 25 1) (expr.AndThen (at 25 4) (rel.Compared (at 25 4) (sum_of (at 25 4) (object (at 25 4) "V2"))
    relational.NotEqual (at 25 7) (sum_of (at 25 10) (primary.Null (at 25 10)))) (at 25 15) (at 25 19) (rel.Compared (at
    25 24) (sum_of (at 25 24) (named (at 25 24) "V2" (suffix.Selected (at 25 26) (id (at 25 27) "Next1") ∷ [])))
    relational.NotEqual (at 25 33) (sum_of (at 25 36) (primary.Null (at 25 36)))) []) (at 25 41) (sole (at 26 1)
    (assign_of (at 26 1) "V2" (suffix.Selected (at 26 3) (id (at 26 4) "Next1") ∷ suffix.Selected (at 26 9) (id (at 26
    10) "Val1") ∷ []) (at 26 15) (expr_of (at 26 18) (named (at 26 18) "V2" (suffix.Selected (at 26 20) (id (at 26 21)
    "Next1") ∷ suffix.Selected (at 26 26) (id (at 26 27) "Val1") ∷ []))) (at 26 31))) [] (at 27 1) (at 27 5) (at 27 7) ∷
    call_of (at 28 1) "Put_Line" (suffix.Applied (at 28 10) (actual_of (at 28 11) (primary.Text (at 28 11) (codes
    "\"~\""))) [] (at 28 14) ∷ []) (at 28 15) ∷ stmt.If (at 29 1) (expr.AndThen (at 29 4) (rel.Compared (at 29 4)
    (sum_of (at 29 4) (object (at 29 4) "V2")) relational.NotEqual (at 29 7) (sum_of (at 29 10) (primary.Null (at 29
    10)))) (at 29 15) (at 29 19) (rel.Compared (at 29 24) (sum_of (at 29 24) (named (at 29 24) "V2" (suffix.Selected (at
    29 26) (id (at 29 27) "X1") ∷ suffix.Selected (at 29 29) (id (at 29 30) "Left1") ∷ []))) relational.NotEqual (at 29
    36) (sum_of (at 29 39) (primary.Null (at 29 39)))) []) (at 29 44) (sole (at 30 1) (assign_of (at 30 1) "V2"
    (suffix.Selected (at 30 3) (id (at 30 4) "X1") ∷ suffix.Selected (at 30 6) (id (at 30 7) "Left1") ∷ suffix.Selected
    (at 30 12) (id (at 30 13) "Left1") ∷ []) (at 30 19) (expr_of (at 30 22) (named (at 30 22) "V4" (suffix.Selected (at
    30 24) (id (at 30 25) "Right1") ∷ []))) (at 30 31))) [] (at 31 1) (at 31 5) (at 31 7) ∷ stmt.DeclareBlock (at 32 1)
    (initialized_of (id (at 33 1) "V8") [] (at 33 4) None (indication_of (mark (at 33 6) "Cell1")) (at 33 12) (expr_of
    (at 33 15) (primary.Aggregated (at 33 15) (aggregate.Several (at 33 15) (association_of (id (at 33 16) "Val1") (at
    33 21) (expr_of (at 33 24) (named (at 33 24) "V4" (suffix.Selected (at 33 26) (id (at 33 27) "Key1") ∷ [])))) (at 33
    31) (association_of (id (at 33 33) "X1") (at 33 36) (expr_of (at 33 39) (primary.Aggregated (at 33 39)
    (aggregate.Several (at 33 39) (actual_of (at 33 40) (primary.Parenthesized (at 33 40) (expr.LoneRelation (at 33 41)
    (rel.LoneSum (at 33 41) (sum.Signed (at 33 41) sign.Minus (term_of (at 33 42) (primary.Number (at 33 42) 2)) [])))
    (at 33 43))) (at 33 44) (actual_of (at 33 46) (primary.Null (at 33 46))) (next_arg.FurtherArg (at 33 50) (actual_of
    (at 33 52) (primary.Null (at 33 52))) ∷ []) (at 33 56))))) (next_arg.FurtherArg (at 33 57) (association_of (id (at
    33 59) "Next1") (at 33 65) (expr_of (at 33 68) (primary.AllocatedAggregate (at 33 68) (mark (at 33 72) "Cell1") (at
    33 77) (aggregate.Several (at 33 78) (association_of (id (at 33 79) "Val1") (at 33 84) (expr_of (at 33 87)
    (primary.Number (at 33 87) 0))) (at 33 88) (association_of (id (at 33 90) "Next1") (at 33 96) (expr_of (at 33 99)
    (primary.Null (at 33 99)))) (next_arg.FurtherArg (at 33 103) (association_of (id (at 33 105) "X1") (at 33 108)
    (expr_of (at 33 111) (primary.Aggregated (at 33 111) (aggregate.Several (at 33 111) (actual_of (at 33 112)
    (primary.Number (at 33 112) 5)) (at 33 113) (actual_of (at 33 115) (primary.Null (at 33 115))) (next_arg.FurtherArg
    (at 33 119) (actual_of (at 33 121) (primary.Null (at 33 121))) ∷ []) (at 33 125))))) ∷ []) (at 33 126))))) ∷ []) (at
    33 127)))) (at 33 128) ∷ objects_of (id (at 34 1) "V9") (next_id_of (at 34 3) (at 34 5) "V10" ∷ []) (at 34 9) None
    (indication_of (mark (at 34 11) "Cell1")) (at 34 16) ∷ objects_of (id (at 35 1) "V11") (next_id_of (at 35 4) (at 35
    6) "V12" ∷ []) (at 35 10) None (indication_of (mark (at 35 12) "Boolean")) (at 35 19) ∷ []) (at 36 1) (sole (at 37
    1) (call_of (at 37 1) "Put" (suffix.Applied (at 37 5) (actual_of (at 37 6) (named (at 37 6) "Integer"
    (suffix.Attribute (at 37 13) (id (at 37 14) "Image") ∷ suffix.Applied (at 37 20) (actual_of (at 37 21)
    (primary.Parenthesized (at 37 21) (expr.LoneRelation (at 37 22) (rel.LoneSum (at 37 22) (sum.Unsigned (at 37 22)
    (term.Product (at 37 22) (factor_of (at 37 22) (named (at 37 22) "V10" (suffix.Selected (at 37 25) (id (at 37 26)
    "Val1") ∷ []))) (next_factor.FurtherFactor (at 37 31) multiplying.Divide (factor_of (at 37 33) (primary.Number (at
    37 33) 3)) ∷ [])) []))) (at 37 34))) [] (at 37 35) ∷ []))) [] (at 37 36) ∷ []) (at 37 37))) (at 38 1) (at 38 4) ∷
    [])) (at 39 1) (Some (id (at 39 5) "Main")) (at 39 9)) ∷ []) ∷ [])
unfolding computes resolves
in_own_declaration_6 = refl

-- The parameter of a loop ends with its range.
parameter_in_range_1 : IsFirstBrokenOf TooEarly (at 8 27) ((unit.OfSubprogram (at 1 1) (context.With (at 1 1) (selected
    (at 1 6) "Ada" (at 1 9) (at 1 10) "Text_IO") [] (at 1 17) ∷ use_context (use_of (at 1 19) None (selected (at 1 23)
    "Ada" (at 1 26) (at 1 27) "Text_IO") [] (at 1 34)) ∷ context.With (at 1 36) (selected (at 1 41) "Ada" (at 1 44) (at
    1 45) "Integer_Text_IO") [] (at 1 60) ∷ use_context (use_of (at 1 62) None (selected (at 1 66) "Ada" (at 1 69) (at 1
    70) "Integer_Text_IO") [] (at 1 85)) ∷ context.With (at 1 87) (selected (at 1 92) "Ada" (at 1 95) (at 1 96)
    "Unchecked_Deallocation") [] (at 1 118) ∷ []) (subprogram_of (at 2 1) (subspec.Procedure (at 2 1) (id (at 2 11)
    "Main") None) None (at 2 16) (item.IncompleteType (at 3 1) (id (at 3 6) "Cell") (at 3 10) ∷ item.AccessType (at 4 1)
    (id (at 4 6) "List") (at 4 11) (at 4 14) (mark (at 4 21) "Cell") (at 4 25) ∷ item.RecordType (at 5 1) (id (at 5 6)
    "Cell") (at 5 11) (at 5 14) (fields_of (id (at 5 21) "Value") [] (at 5 27) (mark (at 5 29) "Integer") (at 5 36))
    (fields_of (id (at 5 38) "Next") [] (at 5 43) (mark (at 5 45) "List") (at 5 49) ∷ []) (at 5 51) (at 5 55) (at 5 61)
    ∷ objects_of (id (at 6 1) "X") (next_id_of (at 6 2) (at 6 4) "Y" ∷ []) (at 6 6) None (indication_of (mark (at 6 8)
    "List")) (at 6 12) ∷ initialized_of (id (at 7 1) "N") [] (at 7 3) None (indication_of (mark (at 7 5) "Integer")) (at
    7 13) (expr_of (at 7 16) (primary.Number (at 7 16) 3)) (at 7 17) ∷ []) (at 8 1) (stmts.Sequence (at 8 7) (stmt.For
    (at 8 7) (id (at 8 11) "Quick_I") (at 8 19) None (range.Bounds (at 8 22) (expr_of (at 8 22) (primary.Number (at 8
    22) 1)) (at 8 24) (expr_of (at 8 27) (object (at 8 27) "Quick_I"))) (at 8 35) (sole (at 8 40) (stmt.Null (at 8 40)
    (at 8 44))) (at 8 46) (at 8 50) (at 8 54)) (call_of (at 9 1) "Put_Line" (suffix.Applied (at 9 10) (actual_of (at 9
    11) (named (at 9 11) "Integer" (suffix.Attribute (at 9 18) (id (at 9 19) "Image") ∷ suffix.Applied (at 9 25)
    (actual_of (at 9 26) (object (at 9 26) "N")) [] (at 9 27) ∷ []))) [] (at 9 28) ∷ []) (at 9 29) ∷ assign_of (at 10 1)
    "N" [] (at 10 3) (expr.LoneRelation (at 10 6) (rel.LoneSum (at 10 6) (sum.Unsigned (at 10 6) (term.Product (at 10 6)
    (factor_of (at 10 6) (object (at 10 6) "N")) (next_factor.FurtherFactor (at 10 8) multiplying.Multiply (factor_of
    (at 10 10) (primary.Number (at 10 10) 2)) ∷ [])) (next_term.FurtherTerm (at 10 12) adding.Add (term_of (at 10 14)
    (primary.Number (at 10 14) 1)) ∷ [])))) (at 10 15) ∷ [])) (at 11 1) (Some (id (at 11 5) "Main")) (at 11 9)) ∷ []) ∷
    [])
unfolding computes resolves
parameter_in_range_1 = refl

parameter_in_range_2 : IsFirstBrokenOf TooEarly (at 9 63) ((unit.OfSubprogram (at 1 1) (context.With (at 1 1) (selected
    (at 1 6) "Ada" (at 1 9) (at 1 10) "Text_IO") [] (at 1 17) ∷ use_context (use_of (at 1 19) None (selected (at 1 23)
    "Ada" (at 1 26) (at 1 27) "Text_IO") [] (at 1 34)) ∷ context.With (at 1 36) (selected (at 1 41) "Ada" (at 1 44) (at
    1 45) "Integer_Text_IO") [] (at 1 60) ∷ use_context (use_of (at 1 62) None (selected (at 1 66) "Ada" (at 1 69) (at 1
    70) "Integer_Text_IO") [] (at 1 85)) ∷ context.With (at 1 87) (selected (at 1 92) "Ada" (at 1 95) (at 1 96)
    "Unchecked_Deallocation") [] (at 1 118) ∷ []) (subprogram_of (at 2 1) (subspec.Procedure (at 2 1) (id (at 2 11)
    "Main") None) None (at 2 16) (item.IncompleteType (at 3 1) (id (at 3 6) "Cell") (at 3 10) ∷ item.AccessType (at 4 1)
    (id (at 4 6) "List") (at 4 11) (at 4 14) (mark (at 4 21) "Cell") (at 4 25) ∷ item.RecordType (at 5 1) (id (at 5 6)
    "Cell") (at 5 11) (at 5 14) (fields_of (id (at 5 21) "Value") [] (at 5 27) (mark (at 5 29) "Integer") (at 5 36))
    (fields_of (id (at 5 38) "Next") [] (at 5 43) (mark (at 5 45) "List") (at 5 49) ∷ []) (at 5 51) (at 5 55) (at 5 61)
    ∷ objects_of (id (at 6 1) "X") (next_id_of (at 6 2) (at 6 4) "Y" ∷ []) (at 6 6) None (indication_of (mark (at 6 8)
    "List")) (at 6 12) ∷ initialized_of (id (at 7 1) "N") [] (at 7 3) None (indication_of (mark (at 7 5) "Integer")) (at
    7 13) (expr_of (at 7 16) (primary.Number (at 7 16) 0)) (at 7 17) ∷ []) (at 8 1) (stmts.Sequence (at 9 1) (stmt.For
    (at 9 1) (id (at 9 5) "I") (at 9 7) None (range.Bounds (at 9 10) (expr_of (at 9 10) (primary.Number (at 9 10) 1))
    (at 9 12) (expr_of (at 9 15) (primary.Number (at 9 15) 3))) (at 9 17) (stmts.Sequence (at 9 22) (assign_of (at 9 22)
    "N" [] (at 9 24) (expr.LoneRelation (at 9 27) (rel.LoneSum (at 9 27) (sum.Unsigned (at 9 27) (term_of (at 9 27)
    (object (at 9 27) "N")) (next_term.FurtherTerm (at 9 29) adding.Add (term_of (at 9 31) (object (at 9 31) "I")) ∷
    [])))) (at 9 32)) (stmt.Block (at 9 34) (sole (at 9 40) (stmt.For (at 9 40) (id (at 9 44) "Plain_I") (at 9 52) (Some
    (at 9 55)) (range.Bounds (at 9 63) (expr_of (at 9 63) (object (at 9 63) "Plain_I")) (at 9 71) (expr_of (at 9 74)
    (primary.Number (at 9 74) 3))) (at 9 76) (sole (at 9 81) (stmt.Null (at 9 81) (at 9 85))) (at 9 87) (at 9 91) (at 9
    95))) (at 9 97) (at 9 100) ∷ [])) (at 9 102) (at 9 106) (at 9 110)) (assign_of (at 10 1) "N" [] (at 10 3)
    (expr.LoneRelation (at 10 6) (rel.LoneSum (at 10 6) (sum.Unsigned (at 10 6) (term.Product (at 10 6) (factor_of (at
    10 6) (object (at 10 6) "N")) (next_factor.FurtherFactor (at 10 8) multiplying.Multiply (factor_of (at 10 10)
    (primary.Number (at 10 10) 2)) ∷ [])) (next_term.FurtherTerm (at 10 12) adding.Add (term_of (at 10 14)
    (primary.Number (at 10 14) 1)) ∷ [])))) (at 10 15) ∷ assign_of (at 11 1) "X" [] (at 11 3) (expr_of (at 11 6)
    (primary.AllocatedAggregate (at 11 6) (mark (at 11 10) "Cell") (at 11 14) (aggregate.Several (at 11 15) (actual_of
    (at 11 16) (object (at 11 16) "N")) (at 11 17) (actual_of (at 11 19) (primary.Null (at 11 19))) [] (at 11 23)))) (at
    11 24) ∷ call_of (at 12 1) "Put_Line" (suffix.Applied (at 12 10) (actual_of (at 12 11) (named (at 12 11) "Integer"
    (suffix.Attribute (at 12 18) (id (at 12 19) "Image") ∷ suffix.Applied (at 12 25) (actual_of (at 12 26) (object (at
    12 26) "N")) [] (at 12 27) ∷ []))) [] (at 12 28) ∷ []) (at 12 29) ∷ [])) (at 13 1) (Some (id (at 13 5) "Main")) (at
    13 9)) ∷ []) ∷ [])
unfolding computes resolves
parameter_in_range_2 = refl

parameter_in_range_3 : IsFirstBrokenOf TooEarly (at 19 62) ((unit.OfPackage (at 1 1) (context.With (at 1 1) (selected
    (at 1 6) "Ada" (at 1 9) (at 1 10) "Text_IO") [] (at 1 17) ∷ use_context (use_of (at 1 19) None (selected (at 1 23)
    "Ada" (at 1 26) (at 1 27) "Text_IO") [] (at 1 34)) ∷ context.With (at 1 36) (selected (at 1 41) "Ada" (at 1 44) (at
    1 45) "Integer_Text_IO") [] (at 1 60) ∷ use_context (use_of (at 1 62) None (selected (at 1 66) "Ada" (at 1 69) (at 1
    70) "Integer_Text_IO") [] (at 1 85)) ∷ context.With (at 1 87) (selected (at 1 92) "Ada" (at 1 95) (at 1 96)
    "Unchecked_Deallocation") [] (at 1 118) ∷ []) (package_of (at 2 1) (id (at 2 9) "Store") None (at 2 15) (decl.OfItem
    (at 3 1) (item.IncompleteType (at 3 1) (id (at 3 6) "Cell") (at 3 10)) ∷ decl.OfItem (at 4 1) (item.AccessType (at 4
    1) (id (at 4 6) "List") (at 4 11) (at 4 14) (mark (at 4 21) "Cell") (at 4 25)) ∷ decl.OfItem (at 5 1)
    (item.RecordType (at 5 1) (id (at 5 6) "Cell") (at 5 11) (at 5 14) (fields_of (id (at 5 21) "Value") [] (at 5 27)
    (mark (at 5 29) "Integer") (at 5 36)) (fields_of (id (at 5 38) "Next") [] (at 5 43) (mark (at 5 45) "List") (at 5
    49) ∷ []) (at 5 51) (at 5 55) (at 5 61)) ∷ decl.Subprogram (at 6 1) (subspec.Procedure (at 6 1) (id (at 6 11)
    "Push") (Some (formals_of (at 6 16) (moded_of (id (at 6 17) "L") [] (at 6 19) (Some (at 6 21)) (Some (at 6 24))
    (mark (at 6 28) "List")) (next_formal.Semicolon (at 6 32) (moded_of (id (at 6 34) "V") [] (at 6 36) None None (mark
    (at 6 38) "Integer")) ∷ []) (at 6 45)))) None (at 6 46) ∷ decl.Subprogram (at 7 1) (subspec.Function (at 7 1) (id
    (at 7 10) "Sum") (Some (formals_of (at 7 14) (moded_of (id (at 7 15) "L") [] (at 7 17) None None (mark (at 7 19)
    "List")) [] (at 7 23))) (at 7 25) (indication_of (mark (at 7 32) "Integer"))) None (at 7 39) ∷ decl.OfItem (at 8 1)
    (objects_of (id (at 8 1) "Total") [] (at 8 7) None (indication_of (mark (at 8 9) "Integer")) (at 8 16)) ∷ []) None
    (at 9 1) (Some (id (at 9 5) "Store")) (at 9 10)) ∷ unit.OfBody (at 10 1) [] (package_body_of (at 10 1) (at 10 9) (id
    (at 10 14) "Store") None (at 10 20) (part.Completed (at 11 1) (subprogram_of (at 11 1) (subspec.Procedure (at 11 1)
    (id (at 11 11) "Push") (Some (formals_of (at 11 16) (moded_of (id (at 11 17) "L") [] (at 11 19) (Some (at 11 21))
    (Some (at 11 24)) (mark (at 11 28) "List")) (next_formal.Semicolon (at 11 32) (moded_of (id (at 11 34) "V") [] (at
    11 36) None None (mark (at 11 38) "Integer")) ∷ []) (at 11 45)))) None (at 11 47) [] (at 12 1) (sole (at 13 1)
    (assign_of (at 13 1) "L" [] (at 13 3) (expr_of (at 13 6) (primary.AllocatedAggregate (at 13 6) (mark (at 13 10)
    "Cell") (at 13 14) (aggregate.Several (at 13 15) (actual_of (at 13 16) (object (at 13 16) "V")) (at 13 17)
    (actual_of (at 13 19) (object (at 13 19) "L")) [] (at 13 20)))) (at 13 21))) (at 14 1) (Some (id (at 14 5) "Push"))
    (at 14 9)) ∷ part.Completed (at 15 1) (subprogram_of (at 15 1) (subspec.Function (at 15 1) (id (at 15 10) "Sum")
    (Some (formals_of (at 15 14) (moded_of (id (at 15 15) "L") [] (at 15 17) None None (mark (at 15 19) "List")) [] (at
    15 23))) (at 15 25) (indication_of (mark (at 15 32) "Integer"))) None (at 15 40) (initialized_of (id (at 16 1) "C")
    [] (at 16 3) None (indication.Anonymous (at 16 5) (Some (at 16 12)) (mark (at 16 21) "Cell")) (at 16 26) (expr_of
    (at 16 29) (object (at 16 29) "L")) (at 16 30) ∷ initialized_of (id (at 17 1) "N") [] (at 17 3) None (indication_of
    (mark (at 17 5) "Integer")) (at 17 13) (expr_of (at 17 16) (primary.Number (at 17 16) 0)) (at 17 17) ∷ []) (at 18 1)
    (stmts.Sequence (at 19 1) (stmt.While (at 19 1) (expr.LoneRelation (at 19 7) (rel.Compared (at 19 7) (sum_of (at 19
    7) (object (at 19 7) "C")) relational.NotEqual (at 19 9) (sum_of (at 19 12) (primary.Null (at 19 12))))) (at 19 17)
    (stmts.Sequence (at 19 22) (assign_of (at 19 22) "N" [] (at 19 24) (expr.LoneRelation (at 19 27) (rel.LoneSum (at 19
    27) (sum.Unsigned (at 19 27) (term_of (at 19 27) (object (at 19 27) "N")) (next_term.FurtherTerm (at 19 29)
    adding.Add (term_of (at 19 31) (named (at 19 31) "C" (suffix.Selected (at 19 32) (id (at 19 33) "Value") ∷ []))) ∷
    [])))) (at 19 38)) (stmt.Block (at 19 40) (sole (at 19 46) (stmt.For (at 19 46) (id (at 19 50) "Former_I") (at 19
    59) None (marked_of (mark (at 19 62) "Former_I")) (at 19 71) (sole (at 19 76) (stmt.Null (at 19 76) (at 19 80))) (at
    19 82) (at 19 86) (at 19 90))) (at 19 92) (at 19 95) ∷ assign_of (at 19 97) "C" [] (at 19 99) (expr_of (at 19 102)
    (named (at 19 102) "C" (suffix.Selected (at 19 103) (id (at 19 104) "Next") ∷ []))) (at 19 108) ∷ [])) (at 19 110)
    (at 19 114) (at 19 118)) (stmt.ReturnValue (at 20 1) (expr_of (at 20 8) (object (at 20 8) "N")) (at 20 9) ∷ [])) (at
    21 1) (Some (id (at 21 5) "Sum")) (at 21 8)) ∷ []) (at 22 1) (Some (id (at 22 5) "Store")) (at 22 10)) ∷
    unit.OfSubprogram (at 23 1) (context.With (at 23 1) (selected (at 23 6) "Ada" (at 23 9) (at 23 10) "Text_IO") [] (at
    23 17) ∷ use_context (use_of (at 23 19) None (selected (at 23 23) "Ada" (at 23 26) (at 23 27) "Text_IO") [] (at 23
    34)) ∷ context.With (at 23 36) (selected (at 23 41) "Ada" (at 23 44) (at 23 45) "Integer_Text_IO") [] (at 23 60) ∷
    use_context (use_of (at 23 62) None (selected (at 23 66) "Ada" (at 23 69) (at 23 70) "Integer_Text_IO") [] (at 23
    85)) ∷ context.With (at 23 87) (selected (at 23 92) "Ada" (at 23 95) (at 23 96) "Unchecked_Deallocation") [] (at 23
    118) ∷ context.With (at 23 120) (mark (at 23 125) "Store") [] (at 23 130) ∷ use_context (use_of (at 23 132) None
    (mark (at 23 136) "Store") [] (at 23 141)) ∷ []) (subprogram_of (at 24 1) (subspec.Procedure (at 24 1) (id (at 24
    11) "Main") None) None (at 24 16) (objects_of (id (at 25 1) "X") (next_id_of (at 25 2) (at 25 4) "Y" ∷ []) (at 25 6)
    None (indication_of (mark (at 25 8) "List")) (at 25 12) ∷ initialized_of (id (at 26 1) "N") [] (at 26 3) None
    (indication_of (mark (at 26 5) "Integer")) (at 26 13) (expr_of (at 26 16) (primary.Number (at 26 16) 0)) (at 26 17)
    ∷ []) (at 27 1) (stmts.Sequence (at 28 1) (call_of (at 28 1) "Push" (suffix.Applied (at 28 6) (actual_of (at 28 7)
    (object (at 28 7) "X")) (next_arg.FurtherArg (at 28 8) (actual_of (at 28 10) (object (at 28 10) "N")) ∷ []) (at 28
    11) ∷ []) (at 28 12)) (stmt.Case (at 29 1) (expr_of (at 29 6) (object (at 29 6) "N")) (at 29 8)
    (alternative.Alternative (at 29 11) (choice.Value (at 29 16) (expr_of (at 29 16) (primary.Number (at 29 16) 1))) []
    (at 29 18) (sole (at 29 21) (stmt.Null (at 29 21) (at 29 25)))) (alternative.Alternative (at 29 27) (choice.Others
    (at 29 32)) [] (at 29 39) (sole (at 29 42) (assign_of (at 29 42) "N" [] (at 29 44) (expr_of (at 29 47)
    (primary.Number (at 29 47) 2)) (at 29 48))) ∷ []) (at 29 50) (at 29 54) (at 29 58) ∷ [])) (at 30 1) (Some (id (at 30
    5) "Main")) (at 30 9)) ∷ []) ∷ [])
unfolding computes resolves
parameter_in_range_3 = refl

-- Formals end with their declaration.
formal_in_itself_1 : IsFirstBrokenOf TooEarly (at 13 39) ((unit.OfSubprogram (at 1 1) (context.With (at 1 1) (selected
    (at 1 6) "Ada" (at 1 9) (at 1 10) "Text_IO") [] (at 1 17) ∷ use_context (use_of (at 1 19) None (selected (at 1 23)
    "Ada" (at 1 26) (at 1 27) "Text_IO") [] (at 1 34)) ∷ context.With (at 1 36) (selected (at 1 41) "Ada" (at 1 44) (at
    1 45) "Integer_Text_IO") [] (at 1 60) ∷ use_context (use_of (at 1 62) None (selected (at 1 66) "Ada" (at 1 69) (at 1
    70) "Integer_Text_IO") [] (at 1 85)) ∷ context.With (at 1 87) (selected (at 1 92) "Ada" (at 1 95) (at 1 96)
    "Unchecked_Deallocation") [] (at 1 118) ∷ []) (subprogram_of (at 2 1) (subspec.Procedure (at 2 1) (id (at 2 11)
    "Main") None) None (at 2 16) (item.IncompleteType (at 3 1) (id (at 3 6) "Cell") (at 3 10) ∷ item.AccessType (at 4 1)
    (id (at 4 6) "List") (at 4 11) (at 4 14) (mark (at 4 21) "Cell") (at 4 25) ∷ item.RecordType (at 5 1) (id (at 5 6)
    "Cell") (at 5 11) (at 5 14) (fields_of (id (at 5 21) "Value") [] (at 5 27) (mark (at 5 29) "Integer") (at 5 36))
    (fields_of (id (at 5 38) "Next") [] (at 5 43) (mark (at 5 45) "List") (at 5 49) ∷ []) (at 5 51) (at 5 55) (at 5 61)
    ∷ objects_of (id (at 6 1) "X") (next_id_of (at 6 2) (at 6 4) "Y" ∷ []) (at 6 6) None (indication_of (mark (at 6 8)
    "List")) (at 6 12) ∷ initialized_of (id (at 7 1) "N") [] (at 7 3) None (indication_of (mark (at 7 5) "Integer")) (at
    7 13) (expr_of (at 7 16) (primary.Number (at 7 16) 8)) (at 7 17) ∷ []) (at 8 1) (stmts.Sequence (at 9 1) (assign_of
    (at 9 1) "X" [] (at 9 3) (expr_of (at 9 6) (primary.AllocatedAggregate (at 9 6) (mark (at 9 10) "Cell") (at 9 14)
    (aggregate.Several (at 9 15) (actual_of (at 9 16) (object (at 9 16) "N")) (at 9 17) (actual_of (at 9 19)
    (primary.Null (at 9 19))) [] (at 9 23)))) (at 9 24)) (stmt.IfElse (at 10 1) (expr.LoneRelation (at 10 4)
    (rel.Compared (at 10 4) (sum_of (at 10 4) (object (at 10 4) "N")) relational.Greater (at 10 6) (sum_of (at 10 8)
    (primary.Number (at 10 8) 3)))) (at 10 10) (sole (at 10 15) (assign_of (at 10 15) "N" [] (at 10 17)
    (expr.LoneRelation (at 10 20) (rel.LoneSum (at 10 20) (sum.Unsigned (at 10 20) (term_of (at 10 20) (object (at 10
    20) "N")) (next_term.FurtherTerm (at 10 22) adding.Subtract (term_of (at 10 24) (primary.Number (at 10 24) 1)) ∷
    [])))) (at 10 25))) [] (at 10 27) (sole (at 10 32) (stmt.Null (at 10 32) (at 10 36))) (at 10 38) (at 10 42) (at 10
    44) ∷ [])) (at 11 1) (Some (id (at 11 5) "Main")) (at 11 9)) ∷ unit.OfPackage (at 12 1) (context.With (at 12 1)
    (selected (at 12 6) "Ada" (at 12 9) (at 12 10) "Text_IO") [] (at 12 17) ∷ use_context (use_of (at 12 19) None
    (selected (at 12 23) "Ada" (at 12 26) (at 12 27) "Text_IO") [] (at 12 34)) ∷ context.With (at 12 36) (selected (at
    12 41) "Ada" (at 12 44) (at 12 45) "Integer_Text_IO") [] (at 12 60) ∷ use_context (use_of (at 12 62) None (selected
    (at 12 66) "Ada" (at 12 69) (at 12 70) "Integer_Text_IO") [] (at 12 85)) ∷ context.With (at 12 87) (selected (at 12
    92) "Ada" (at 12 95) (at 12 96) "Unchecked_Deallocation") [] (at 12 118) ∷ []) (package_of (at 12 120) (id (at 12
    128) "Plain_P") None (at 12 136) (decl.Subprogram (at 13 1) (subspec.Procedure (at 13 1) (id (at 13 11) "Plain_Q")
    (Some (formals_of (at 13 19) (moded_of (id (at 13 20) "Plain_A") (next_id_of (at 13 27) (at 13 29) "Plain_B" ∷ [])
    (at 13 37) None None (mark (at 13 39) "Plain_B")) [] (at 13 46)))) None (at 13 47) ∷ []) None (at 14 1) (Some (id
    (at 14 5) "Plain_P")) (at 14 12)) ∷ unit.OfBody (at 15 1) [] (package_body_of (at 15 1) (at 15 9) (id (at 15 14)
    "Plain_P") None (at 15 22) (part.Completed (at 16 1) (subprogram_of (at 16 1) (subspec.Procedure (at 16 1) (id (at
    16 11) "Plain_Q") (Some (formals_of (at 16 19) (moded_of (id (at 16 20) "Plain_A") (next_id_of (at 16 27) (at 16 29)
    "Plain_B" ∷ []) (at 16 37) None None (mark (at 16 39) "Integer")) [] (at 16 46)))) None (at 16 48) [] (at 16 51)
    (sole (at 16 57) (stmt.Null (at 16 57) (at 16 61))) (at 16 63) (Some (id (at 16 67) "Plain_Q")) (at 16 74)) ∷ [])
    (at 17 1) (Some (id (at 17 5) "Plain_P")) (at 17 12)) ∷ []) ∷ [])
unfolding computes resolves
formal_in_itself_1 = refl

formal_in_itself_2 : IsFirstBrokenOf TooEarly (at 2 56) ((unit.OfPackage (at 1 1) (context.With (at 1 1) (selected (at 1
    6) "Ada" (at 1 9) (at 1 10) "Text_IO") [] (at 1 17) ∷ use_context (use_of (at 1 19) None (selected (at 1 23) "Ada"
    (at 1 26) (at 1 27) "Text_IO") [] (at 1 34)) ∷ context.With (at 1 36) (selected (at 1 41) "Ada" (at 1 44) (at 1 45)
    "Integer_Text_IO") [] (at 1 60) ∷ use_context (use_of (at 1 62) None (selected (at 1 66) "Ada" (at 1 69) (at 1 70)
    "Integer_Text_IO") [] (at 1 85)) ∷ context.With (at 1 87) (selected (at 1 92) "Ada" (at 1 95) (at 1 96)
    "Unchecked_Deallocation") [] (at 1 118) ∷ []) (package_of (at 1 120) (id (at 1 128) "Quick_P") None (at 1 136)
    (decl.Subprogram (at 2 1) (subspec.Procedure (at 2 1) (id (at 2 11) "Quick_Q") (Some (formals_of (at 2 19) (moded_of
    (id (at 2 20) "Quick_A") [] (at 2 28) None None (mark (at 2 30) "Integer")) (next_formal.Semicolon (at 2 37)
    (moded_of (id (at 2 39) "Quick_B") [] (at 2 47) (Some (at 2 49)) (Some (at 2 52)) (mark (at 2 56) "Quick_B")) ∷ [])
    (at 2 63)))) None (at 2 64) ∷ []) None (at 3 1) (Some (id (at 3 5) "Quick_P")) (at 3 12)) ∷ unit.OfBody (at 4 1) []
    (package_body_of (at 4 1) (at 4 9) (id (at 4 14) "Quick_P") None (at 4 22) (part.Completed (at 5 1) (subprogram_of
    (at 5 1) (subspec.Procedure (at 5 1) (id (at 5 11) "Quick_Q") (Some (formals_of (at 5 19) (moded_of (id (at 5 20)
    "Quick_A") [] (at 5 28) None None (mark (at 5 30) "Integer")) (next_formal.Semicolon (at 5 37) (moded_of (id (at 5
    39) "Quick_B") [] (at 5 47) (Some (at 5 49)) (Some (at 5 52)) (mark (at 5 56) "Integer")) ∷ []) (at 5 63)))) None
    (at 5 65) [] (at 5 68) (sole (at 5 74) (stmt.Null (at 5 74) (at 5 78))) (at 5 80) (Some (id (at 5 84) "Quick_Q"))
    (at 5 91)) ∷ []) (at 6 1) (Some (id (at 6 5) "Quick_P")) (at 6 12)) ∷ unit.OfSubprogram (at 7 1) (context.With (at 7
    1) (selected (at 7 6) "Ada" (at 7 9) (at 7 10) "Text_IO") [] (at 7 17) ∷ use_context (use_of (at 7 19) None
    (selected (at 7 23) "Ada" (at 7 26) (at 7 27) "Text_IO") [] (at 7 34)) ∷ context.With (at 7 36) (selected (at 7 41)
    "Ada" (at 7 44) (at 7 45) "Integer_Text_IO") [] (at 7 60) ∷ use_context (use_of (at 7 62) None (selected (at 7 66)
    "Ada" (at 7 69) (at 7 70) "Integer_Text_IO") [] (at 7 85)) ∷ context.With (at 7 87) (selected (at 7 92) "Ada" (at 7
    95) (at 7 96) "Unchecked_Deallocation") [] (at 7 118) ∷ []) (subprogram_of (at 8 1) (subspec.Procedure (at 8 1) (id
    (at 8 11) "Main") None) None (at 8 16) (item.IncompleteType (at 9 1) (id (at 9 6) "Cell") (at 9 10) ∷
    item.AccessType (at 10 1) (id (at 10 6) "List") (at 10 11) (at 10 14) (mark (at 10 21) "Cell") (at 10 25) ∷
    item.RecordType (at 11 1) (id (at 11 6) "Cell") (at 11 11) (at 11 14) (fields_of (id (at 11 21) "Value") [] (at 11
    27) (mark (at 11 29) "Integer") (at 11 36)) (fields_of (id (at 11 38) "Next") [] (at 11 43) (mark (at 11 45) "List")
    (at 11 49) ∷ []) (at 11 51) (at 11 55) (at 11 61) ∷ objects_of (id (at 12 1) "X") (next_id_of (at 12 2) (at 12 4)
    "Y" ∷ []) (at 12 6) None (indication_of (mark (at 12 8) "List")) (at 12 12) ∷ initialized_of (id (at 13 1) "N") []
    (at 13 3) None (indication_of (mark (at 13 5) "Integer")) (at 13 13) (expr_of (at 13 16) (primary.Number (at 13 16)
    8)) (at 13 17) ∷ []) (at 14 1) (stmts.Sequence (at 15 1) (assign_of (at 15 1) "Y" [] (at 15 3) (expr_of (at 15 6)
    (object (at 15 6) "X")) (at 15 7)) (assign_of (at 15 9) "X" [] (at 15 11) (expr_of (at 15 14) (primary.Null (at 15
    14))) (at 15 18) ∷ stmt.For (at 16 1) (id (at 16 5) "I") (at 16 7) None (range.Bounds (at 16 10) (expr_of (at 16 10)
    (primary.Number (at 16 10) 1)) (at 16 12) (expr_of (at 16 15) (primary.Number (at 16 15) 3))) (at 16 17) (sole (at
    16 22) (assign_of (at 16 22) "N" [] (at 16 24) (expr.LoneRelation (at 16 27) (rel.LoneSum (at 16 27) (sum.Unsigned
    (at 16 27) (term_of (at 16 27) (object (at 16 27) "N")) (next_term.FurtherTerm (at 16 29) adding.Add (term_of (at 16
    31) (object (at 16 31) "I")) ∷ [])))) (at 16 32))) (at 16 34) (at 16 38) (at 16 42) ∷ assign_of (at 17 1) "X" [] (at
    17 3) (expr_of (at 17 6) (primary.AllocatedAggregate (at 17 6) (mark (at 17 10) "Cell") (at 17 14)
    (aggregate.Several (at 17 15) (actual_of (at 17 16) (object (at 17 16) "N")) (at 17 17) (actual_of (at 17 19)
    (primary.Null (at 17 19))) [] (at 17 23)))) (at 17 24) ∷ [])) (at 18 1) (Some (id (at 18 5) "Main")) (at 18 9)) ∷
    []) ∷ [])
unfolding computes resolves
formal_in_itself_2 = refl

formal_in_itself_3 : IsFirstBrokenOf TooEarly (at 16 30) ((unit.OfPackage (at 1 1) (context.With (at 1 1) (selected (at
    1 6) "Ada" (at 1 9) (at 1 10) "Text_IO") [] (at 1 17) ∷ use_context (use_of (at 1 19) None (selected (at 1 23) "Ada"
    (at 1 26) (at 1 27) "Text_IO") [] (at 1 34)) ∷ context.With (at 1 36) (selected (at 1 41) "Ada" (at 1 44) (at 1 45)
    "Integer_Text_IO") [] (at 1 60) ∷ use_context (use_of (at 1 62) None (selected (at 1 66) "Ada" (at 1 69) (at 1 70)
    "Integer_Text_IO") [] (at 1 85)) ∷ context.With (at 1 87) (selected (at 1 92) "Ada" (at 1 95) (at 1 96)
    "Unchecked_Deallocation") [] (at 1 118) ∷ []) (package_of (at 2 1) (id (at 2 9) "Store") None (at 2 15) (decl.OfItem
    (at 3 1) (item.IncompleteType (at 3 1) (id (at 3 6) "Cell") (at 3 10)) ∷ decl.OfItem (at 4 1) (item.AccessType (at 4
    1) (id (at 4 6) "List") (at 4 11) (at 4 14) (mark (at 4 21) "Cell") (at 4 25)) ∷ decl.OfItem (at 5 1)
    (item.RecordType (at 5 1) (id (at 5 6) "Cell") (at 5 11) (at 5 14) (fields_of (id (at 5 21) "Value") [] (at 5 27)
    (mark (at 5 29) "Integer") (at 5 36)) (fields_of (id (at 5 38) "Next") [] (at 5 43) (mark (at 5 45) "List") (at 5
    49) ∷ []) (at 5 51) (at 5 55) (at 5 61)) ∷ decl.Subprogram (at 5 63) (subspec.Procedure (at 5 63) (id (at 5 73)
    "Push") (Some (formals_of (at 5 78) (moded_of (id (at 5 79) "L") [] (at 5 81) (Some (at 5 83)) (Some (at 5 86))
    (mark (at 5 90) "List")) (next_formal.Semicolon (at 5 94) (moded_of (id (at 5 96) "V") [] (at 5 98) None None (mark
    (at 5 100) "Integer")) ∷ []) (at 5 107)))) None (at 5 108) ∷ decl.Subprogram (at 6 1) (subspec.Function (at 6 1) (id
    (at 6 10) "Sum") (Some (formals_of (at 6 14) (moded_of (id (at 6 15) "L") [] (at 6 17) None None (mark (at 6 19)
    "List")) [] (at 6 23))) (at 6 25) (indication_of (mark (at 6 32) "Integer"))) None (at 6 39) ∷ decl.OfItem (at 6 41)
    (objects_of (id (at 6 41) "Total") [] (at 6 47) None (indication_of (mark (at 6 49) "Integer")) (at 6 56)) ∷ [])
    None (at 6 58) (Some (id (at 6 62) "Store")) (at 6 67)) ∷ unit.OfBody (at 6 69) [] (package_body_of (at 6 69) (at 6
    77) (id (at 6 82) "Store") None (at 6 88) (part.Completed (at 6 91) (subprogram_of (at 6 91) (subspec.Procedure (at
    6 91) (id (at 6 101) "Push") (Some (formals_of (at 6 106) (moded_of (id (at 6 107) "L") [] (at 6 109) (Some (at 6
    111)) (Some (at 6 114)) (mark (at 6 118) "List")) (next_formal.Semicolon (at 6 122) (moded_of (id (at 6 124) "V") []
    (at 6 126) None None (mark (at 6 128) "Integer")) ∷ []) (at 6 135)))) None (at 6 137) [] (at 7 1) (sole (at 8 1)
    (assign_of (at 8 1) "L" [] (at 8 3) (expr_of (at 8 6) (primary.AllocatedAggregate (at 8 6) (mark (at 8 10) "Cell")
    (at 8 14) (aggregate.Several (at 8 15) (actual_of (at 8 16) (object (at 8 16) "V")) (at 8 17) (actual_of (at 8 19)
    (object (at 8 19) "L")) [] (at 8 20)))) (at 8 21))) (at 8 23) (Some (id (at 8 27) "Push")) (at 8 31)) ∷
    part.Completed (at 8 33) (subprogram_of (at 8 33) (subspec.Function (at 8 33) (id (at 8 42) "Sum") (Some (formals_of
    (at 8 46) (moded_of (id (at 8 47) "L") [] (at 8 49) None None (mark (at 8 51) "List")) [] (at 8 55))) (at 8 57)
    (indication_of (mark (at 8 64) "Integer"))) None (at 8 72) (initialized_of (id (at 9 1) "C") [] (at 9 3) None
    (indication.Anonymous (at 9 5) (Some (at 9 12)) (mark (at 9 21) "Cell")) (at 9 26) (expr_of (at 9 29) (object (at 9
    29) "L")) (at 9 30) ∷ initialized_of (id (at 10 1) "N") [] (at 10 3) None (indication_of (mark (at 10 5) "Integer"))
    (at 10 13) (expr_of (at 10 16) (primary.Number (at 10 16) 0)) (at 10 17) ∷ []) (at 10 19) (stmts.Sequence (at 10 25)
    (stmt.While (at 10 25) (expr.LoneRelation (at 10 31) (rel.Compared (at 10 31) (sum_of (at 10 31) (object (at 10 31)
    "C")) relational.NotEqual (at 10 33) (sum_of (at 10 36) (primary.Null (at 10 36))))) (at 10 41) (stmts.Sequence (at
    10 46) (assign_of (at 10 46) "N" [] (at 10 48) (expr.LoneRelation (at 10 51) (rel.LoneSum (at 10 51) (sum.Unsigned
    (at 10 51) (term_of (at 10 51) (object (at 10 51) "N")) (next_term.FurtherTerm (at 10 53) adding.Add (term_of (at 10
    55) (named (at 10 55) "C" (suffix.Selected (at 10 56) (id (at 10 57) "Value") ∷ []))) ∷ [])))) (at 10 62))
    (assign_of (at 10 64) "C" [] (at 10 66) (expr_of (at 10 69) (named (at 10 69) "C" (suffix.Selected (at 10 70) (id
    (at 10 71) "Next") ∷ []))) (at 10 75) ∷ [])) (at 10 77) (at 10 81) (at 10 85)) (stmt.ReturnValue (at 10 87) (expr_of
    (at 10 94) (object (at 10 94) "N")) (at 10 95) ∷ [])) (at 11 1) (Some (id (at 11 5) "Sum")) (at 11 8)) ∷ []) (at 11
    10) (Some (id (at 11 14) "Store")) (at 11 19)) ∷ unit.OfSubprogram (at 12 1) (context.With (at 12 1) (selected (at
    12 6) "Ada" (at 12 9) (at 12 10) "Text_IO") [] (at 12 17) ∷ use_context (use_of (at 12 19) None (selected (at 12 23)
    "Ada" (at 12 26) (at 12 27) "Text_IO") [] (at 12 34)) ∷ context.With (at 12 36) (selected (at 12 41) "Ada" (at 12
    44) (at 12 45) "Integer_Text_IO") [] (at 12 60) ∷ use_context (use_of (at 12 62) None (selected (at 12 66) "Ada" (at
    12 69) (at 12 70) "Integer_Text_IO") [] (at 12 85)) ∷ context.With (at 12 87) (selected (at 12 92) "Ada" (at 12 95)
    (at 12 96) "Unchecked_Deallocation") [] (at 12 118) ∷ context.With (at 12 120) (mark (at 12 125) "Store") [] (at 12
    130) ∷ use_context (use_of (at 12 132) None (mark (at 12 136) "Store") [] (at 12 141)) ∷ []) (subprogram_of (at 13
    1) (subspec.Procedure (at 13 1) (id (at 13 11) "Main") None) None (at 13 16) (objects_of (id (at 13 19) "X")
    (next_id_of (at 13 20) (at 13 22) "Y" ∷ []) (at 13 24) None (indication_of (mark (at 13 26) "List")) (at 13 30) ∷
    initialized_of (id (at 13 32) "N") [] (at 13 34) None (indication_of (mark (at 13 36) "Integer")) (at 13 44)
    (expr_of (at 13 47) (primary.Number (at 13 47) 3)) (at 13 48) ∷ []) (at 14 1) (stmts.Sequence (at 14 7) (stmt.IfElse
    (at 14 7) (expr.LoneRelation (at 14 10) (rel.Compared (at 14 10) (sum_of (at 14 10) (object (at 14 10) "N"))
    relational.Greater (at 14 12) (sum_of (at 14 14) (primary.Number (at 14 14) 3)))) (at 14 16) (sole (at 14 21)
    (assign_of (at 14 21) "N" [] (at 14 23) (expr.LoneRelation (at 14 26) (rel.LoneSum (at 14 26) (sum.Unsigned (at 14
    26) (term_of (at 14 26) (object (at 14 26) "N")) (next_term.FurtherTerm (at 14 28) adding.Subtract (term_of (at 14
    30) (primary.Number (at 14 30) 1)) ∷ [])))) (at 14 31))) [] (at 14 33) (sole (at 14 38) (stmt.Null (at 14 38) (at 14
    42))) (at 14 44) (at 14 48) (at 14 50)) (assign_of (at 14 52) "N" [] (at 14 54) (expr_of (at 14 57) (named (at 14
    57) "Sum" (suffix.Applied (at 14 61) (actual_of (at 14 62) (object (at 14 62) "Y")) [] (at 14 63) ∷ []))) (at 14 64)
    ∷ [])) (at 14 66) (Some (id (at 14 70) "Main")) (at 14 74)) ∷ unit.OfPackage (at 15 1) (context.With (at 15 1)
    (selected (at 15 6) "Ada" (at 15 9) (at 15 10) "Text_IO") [] (at 15 17) ∷ use_context (use_of (at 15 19) None
    (selected (at 15 23) "Ada" (at 15 26) (at 15 27) "Text_IO") [] (at 15 34)) ∷ context.With (at 15 36) (selected (at
    15 41) "Ada" (at 15 44) (at 15 45) "Integer_Text_IO") [] (at 15 60) ∷ use_context (use_of (at 15 62) None (selected
    (at 15 66) "Ada" (at 15 69) (at 15 70) "Integer_Text_IO") [] (at 15 85)) ∷ context.With (at 15 87) (selected (at 15
    92) "Ada" (at 15 95) (at 15 96) "Unchecked_Deallocation") [] (at 15 118) ∷ []) (package_of (at 15 120) (id (at 15
    128) "Spare_P") None (at 15 136) (decl.Subprogram (at 16 1) (subspec.Procedure (at 16 1) (id (at 16 11) "Spare_Q")
    (Some (formals_of (at 16 19) (moded_of (id (at 16 20) "Spare_A") [] (at 16 28) None None (mark (at 16 30)
    "Spare_A")) [] (at 16 37)))) None (at 16 38) ∷ []) None (at 17 1) (Some (id (at 17 5) "Spare_P")) (at 17 12)) ∷
    unit.OfBody (at 18 1) [] (package_body_of (at 18 1) (at 18 9) (id (at 18 14) "Spare_P") None (at 18 22)
    (part.Completed (at 19 1) (subprogram_of (at 19 1) (subspec.Procedure (at 19 1) (id (at 19 11) "Spare_Q") (Some
    (formals_of (at 19 19) (moded_of (id (at 19 20) "Spare_A") [] (at 19 28) None None (mark (at 19 30) "Integer")) []
    (at 19 37)))) None (at 19 39) [] (at 19 42) (sole (at 19 48) (stmt.Null (at 19 48) (at 19 52))) (at 19 54) (Some (id
    (at 19 58) "Spare_Q")) (at 19 65)) ∷ []) (at 19 67) (Some (id (at 19 71) "Spare_P")) (at 19 78)) ∷ []) ∷ [])
unfolding computes resolves
formal_in_itself_3 = refl

-- A package ends with its identifier, and what it declares doesn't.
package_in_itself_1 : IsFirstBrokenOf TooEarly (at 1 49) ((unit.OfPackage (at 1 1) [] (package_of (at 1 1) (id (at 1 9)
    "Usual_P") None (at 1 17) (decl.OfItem (at 1 20) (initialized_of (id (at 1 20) "Usual_X") [] (at 1 28) None
    (indication_of (mark (at 1 30) "Integer")) (at 1 38) (expr_of (at 1 41) (named (at 1 41) "Usual_P" (suffix.Selected
    (at 1 48) (id (at 1 49) "Usual_X") ∷ []))) (at 1 56)) ∷ []) None (at 1 58) (Some (id (at 1 62) "Usual_P")) (at 1
    69)) ∷ unit.OfSubprogram (at 2 1) (context.With (at 2 1) (selected (at 2 6) "Ada" (at 2 9) (at 2 10) "Text_IO") []
    (at 2 17) ∷ use_context (use_of (at 2 19) None (selected (at 2 23) "Ada" (at 2 26) (at 2 27) "Text_IO") [] (at 2
    34)) ∷ context.With (at 2 36) (selected (at 2 41) "Ada" (at 2 44) (at 2 45) "Integer_Text_IO") [] (at 2 60) ∷
    use_context (use_of (at 2 62) None (selected (at 2 66) "Ada" (at 2 69) (at 2 70) "Integer_Text_IO") [] (at 2 85)) ∷
    context.With (at 2 87) (selected (at 2 92) "Ada" (at 2 95) (at 2 96) "Unchecked_Deallocation") [] (at 2 118) ∷ [])
    (subprogram_of (at 3 1) (subspec.Procedure (at 3 1) (id (at 3 11) "Main") None) None (at 3 16) (item.IncompleteType
    (at 3 19) (id (at 3 24) "Cell") (at 3 28) ∷ item.AccessType (at 4 1) (id (at 4 6) "List") (at 4 11) (at 4 14) (mark
    (at 4 21) "Cell") (at 4 25) ∷ item.RecordType (at 4 27) (id (at 4 32) "Cell") (at 4 37) (at 4 40) (fields_of (id (at
    4 47) "Value") [] (at 4 53) (mark (at 4 55) "Integer") (at 4 62)) (fields_of (id (at 4 64) "Next") [] (at 4 69)
    (mark (at 4 71) "List") (at 4 75) ∷ []) (at 4 77) (at 4 81) (at 4 87) ∷ objects_of (id (at 4 89) "X") (next_id_of
    (at 4 90) (at 4 92) "Y" ∷ []) (at 4 94) None (indication_of (mark (at 4 96) "List")) (at 4 100) ∷ initialized_of (id
    (at 5 1) "N") [] (at 5 3) None (indication_of (mark (at 5 5) "Integer")) (at 5 13) (expr_of (at 5 16)
    (primary.Number (at 5 16) 4)) (at 5 17) ∷ []) (at 5 19) (stmts.Sequence (at 6 1) (stmt.Case (at 6 1) (expr_of (at 6
    6) (object (at 6 6) "N")) (at 6 8) (alternative.Alternative (at 6 11) (choice.Value (at 6 16) (expr_of (at 6 16)
    (primary.Number (at 6 16) 1))) [] (at 6 18) (sole (at 6 21) (stmt.Null (at 6 21) (at 6 25))))
    (alternative.Alternative (at 6 27) (choice.Others (at 6 32)) [] (at 6 39) (sole (at 6 42) (assign_of (at 6 42) "N"
    [] (at 6 44) (expr_of (at 6 47) (primary.Number (at 6 47) 2)) (at 6 48))) ∷ []) (at 6 50) (at 6 54) (at 6 58))
    (stmt.For (at 6 60) (id (at 6 64) "I") (at 6 66) None (range.Bounds (at 6 69) (expr_of (at 6 69) (primary.Number (at
    6 69) 1)) (at 6 71) (expr_of (at 6 74) (primary.Number (at 6 74) 3))) (at 6 76) (sole (at 6 81) (assign_of (at 6 81)
    "N" [] (at 6 83) (expr.LoneRelation (at 6 86) (rel.LoneSum (at 6 86) (sum.Unsigned (at 6 86) (term_of (at 6 86)
    (object (at 6 86) "N")) (next_term.FurtherTerm (at 6 88) adding.Add (term_of (at 6 90) (object (at 6 90) "I")) ∷
    [])))) (at 6 91))) (at 6 93) (at 6 97) (at 6 101) ∷ [])) (at 7 1) (Some (id (at 7 5) "Main")) (at 7 9)) ∷ []) ∷ [])
unfolding computes resolves
package_in_itself_1 = refl

package_in_itself_2 : IsFirstBrokenOf TooEarly (at 13 65) ((unit.OfSubprogram (at 1 1) (context.With (at 1 1) (selected
    (at 1 6) "Ada" (at 1 9) (at 1 10) "Text_IO") [] (at 1 17) ∷ use_context (use_of (at 1 19) None (selected (at 1 23)
    "Ada" (at 1 26) (at 1 27) "Text_IO") [] (at 1 34)) ∷ context.With (at 1 36) (selected (at 1 41) "Ada" (at 1 44) (at
    1 45) "Integer_Text_IO") [] (at 1 60) ∷ use_context (use_of (at 1 62) None (selected (at 1 66) "Ada" (at 1 69) (at 1
    70) "Integer_Text_IO") [] (at 1 85)) ∷ context.With (at 1 87) (selected (at 1 92) "Ada" (at 1 95) (at 1 96)
    "Unchecked_Deallocation") [] (at 1 118) ∷ []) (subprogram_of (at 2 1) (subspec.Procedure (at 2 1) (id (at 2 11)
    "Main") None) None (at 2 16) (item.IncompleteType (at 3 1) (id (at 3 6) "Cell") (at 3 10) ∷ item.AccessType (at 4 1)
    (id (at 4 6) "List") (at 4 11) (at 4 14) (mark (at 4 21) "Cell") (at 4 25) ∷ item.RecordType (at 5 1) (id (at 5 6)
    "Cell") (at 5 11) (at 5 14) (fields_of (id (at 5 21) "Value") [] (at 5 27) (mark (at 5 29) "Integer") (at 5 36))
    (fields_of (id (at 5 38) "Next") [] (at 5 43) (mark (at 5 45) "List") (at 5 49) ∷ []) (at 5 51) (at 5 55) (at 5 61)
    ∷ objects_of (id (at 6 1) "X") (next_id_of (at 6 2) (at 6 4) "Y" ∷ []) (at 6 6) None (indication_of (mark (at 6 8)
    "List")) (at 6 12) ∷ initialized_of (id (at 7 1) "N") [] (at 7 3) None (indication_of (mark (at 7 5) "Integer")) (at
    7 13) (expr_of (at 7 16) (primary.Number (at 7 16) 0)) (at 7 17) ∷ []) (at 8 1) (stmts.Sequence (at 9 1) (call_of
    (at 9 1) "Put_Line" (suffix.Applied (at 9 10) (actual_of (at 9 11) (named (at 9 11) "Integer" (suffix.Attribute (at
    9 18) (id (at 9 19) "Image") ∷ suffix.Applied (at 9 25) (actual_of (at 9 26) (object (at 9 26) "N")) [] (at 9 27) ∷
    []))) [] (at 9 28) ∷ []) (at 9 29)) (stmt.IfElse (at 10 1) (expr.LoneRelation (at 10 4) (rel.Compared (at 10 4)
    (sum_of (at 10 4) (object (at 10 4) "N")) relational.Greater (at 10 6) (sum_of (at 10 8) (primary.Number (at 10 8)
    3)))) (at 10 10) (sole (at 10 15) (assign_of (at 10 15) "N" [] (at 10 17) (expr.LoneRelation (at 10 20) (rel.LoneSum
    (at 10 20) (sum.Unsigned (at 10 20) (term_of (at 10 20) (object (at 10 20) "N")) (next_term.FurtherTerm (at 10 22)
    adding.Subtract (term_of (at 10 24) (primary.Number (at 10 24) 1)) ∷ [])))) (at 10 25))) [] (at 10 27) (sole (at 10
    32) (stmt.Null (at 10 32) (at 10 36))) (at 10 38) (at 10 42) (at 10 44) ∷ stmt.Case (at 11 1) (expr_of (at 11 6)
    (object (at 11 6) "N")) (at 11 8) (alternative.Alternative (at 11 11) (choice.Value (at 11 16) (expr_of (at 11 16)
    (primary.Number (at 11 16) 1))) [] (at 11 18) (sole (at 11 21) (stmt.Null (at 11 21) (at 11 25))))
    (alternative.Alternative (at 11 27) (choice.Others (at 11 32)) [] (at 11 39) (sole (at 11 42) (assign_of (at 11 42)
    "N" [] (at 11 44) (expr_of (at 11 47) (primary.Number (at 11 47) 2)) (at 11 48))) ∷ []) (at 11 50) (at 11 54) (at 11
    58) ∷ [])) (at 12 1) (Some (id (at 12 5) "Main")) (at 12 9)) ∷ unit.OfPackage (at 13 1) [] (package_of (at 13 1) (id
    (at 13 9) "Former_P") None (at 13 18) (decl.OfItem (at 13 21) (item.ArrayType (at 13 21) (id (at 13 26) "Former_A")
    (at 13 35) (at 13 38) (at 13 44) (range.Bounds (at 13 45) (expr_of (at 13 45) (primary.Number (at 13 45) 1)) (at 13
    47) (expr_of (at 13 50) (primary.Number (at 13 50) 3))) (at 13 51) (at 13 53) (selected (at 13 56) "Former_P" (at 13
    64) (at 13 65) "Former_T") (at 13 73)) ∷ decl.OfItem (at 13 75) (item.EnumerationType (at 13 75) (id (at 13 80)
    "Former_T") (at 13 89) (at 13 92) (id (at 13 93) "Former_U") (next_id_of (at 13 101) (at 13 103) "Former_V" ∷ [])
    (at 13 111) (at 13 112)) ∷ []) None (at 13 114) (Some (id (at 13 118) "Former_P")) (at 13 126)) ∷ []) ∷ [])
unfolding computes resolves
package_in_itself_2 = refl

package_in_itself_3 : IsFirstBrokenOf TooEarly (at 1 49) ((unit.OfPackage (at 1 1) [] (package_of (at 1 1) (id (at 1 9)
    "Quick_P") None (at 1 17) (decl.OfItem (at 1 20) (initialized_of (id (at 1 20) "Quick_Y") [] (at 1 28) None
    (indication_of (mark (at 1 30) "Integer")) (at 1 38) (expr_of (at 1 41) (named (at 1 41) "Quick_P" (suffix.Selected
    (at 1 48) (id (at 1 49) "Quick_X") ∷ []))) (at 1 56)) ∷ decl.OfItem (at 1 58) (objects_of (id (at 1 58) "Quick_X")
    [] (at 1 66) None (indication_of (mark (at 1 68) "Integer")) (at 1 75)) ∷ []) None (at 1 77) (Some (id (at 1 81)
    "Quick_P")) (at 1 88)) ∷ unit.OfPackage (at 2 1) (context.With (at 2 1) (selected (at 2 6) "Ada" (at 2 9) (at 2 10)
    "Text_IO") [] (at 2 17) ∷ use_context (use_of (at 2 19) None (selected (at 2 23) "Ada" (at 2 26) (at 2 27)
    "Text_IO") [] (at 2 34)) ∷ context.With (at 2 36) (selected (at 2 41) "Ada" (at 2 44) (at 2 45) "Integer_Text_IO")
    [] (at 2 60) ∷ use_context (use_of (at 2 62) None (selected (at 2 66) "Ada" (at 2 69) (at 2 70) "Integer_Text_IO")
    [] (at 2 85)) ∷ context.With (at 2 87) (selected (at 2 92) "Ada" (at 2 95) (at 2 96) "Unchecked_Deallocation") []
    (at 2 118) ∷ []) (package_of (at 3 7) (id (at 3 15) "Store") None (at 3 21) (decl.OfItem (at 4 1)
    (item.IncompleteType (at 4 1) (id (at 4 6) "Cell") (at 4 10)) ∷ decl.OfItem (at 5 4) (item.AccessType (at 5 4) (id
    (at 5 9) "List") (at 5 14) (at 5 17) (mark (at 5 24) "Cell") (at 5 28)) ∷ decl.OfItem (at 6 4) (item.RecordType (at
    6 4) (id (at 6 9) "Cell") (at 6 14) (at 6 17) (fields_of (id (at 6 24) "Value") [] (at 6 30) (mark (at 6 32)
    "Integer") (at 6 39)) (fields_of (id (at 6 41) "Next") [] (at 6 46) (mark (at 6 48) "List") (at 6 52) ∷ []) (at 6
    54) (at 6 58) (at 6 64)) ∷ decl.Subprogram (at 7 4) (subspec.Procedure (at 7 4) (id (at 7 14) "Push") (Some
    (formals_of (at 7 19) (moded_of (id (at 7 20) "L") [] (at 7 22) (Some (at 7 24)) (Some (at 7 27)) (mark (at 7 31)
    "List")) (next_formal.Semicolon (at 7 35) (moded_of (id (at 7 37) "V") [] (at 7 39) None None (mark (at 7 41)
    "Integer")) ∷ []) (at 7 48)))) None (at 7 49) ∷ decl.Subprogram (at 8 1) (subspec.Function (at 8 1) (id (at 8 10)
    "Sum") (Some (formals_of (at 8 14) (moded_of (id (at 8 15) "L") [] (at 8 17) None None (mark (at 8 19) "List")) []
    (at 8 23))) (at 8 25) (indication_of (mark (at 8 32) "Integer"))) None (at 8 39) ∷ decl.OfItem (at 9 1) (objects_of
    (id (at 9 1) "Total") [] (at 9 7) None (indication_of (mark (at 9 9) "Integer")) (at 9 16)) ∷ []) None (at 10 7)
    (Some (id (at 10 11) "Store")) (at 10 16)) ∷ unit.OfBody (at 11 1) [] (package_body_of (at 11 1) (at 11 9) (id (at
    11 14) "Store") None (at 11 20) (part.Completed (at 12 1) (subprogram_of (at 12 1) (subspec.Procedure (at 12 1) (id
    (at 12 11) "Push") (Some (formals_of (at 12 16) (moded_of (id (at 12 17) "L") [] (at 12 19) (Some (at 12 21)) (Some
    (at 12 24)) (mark (at 12 28) "List")) (next_formal.Semicolon (at 12 32) (moded_of (id (at 12 34) "V") [] (at 12 36)
    None None (mark (at 12 38) "Integer")) ∷ []) (at 12 45)))) None (at 12 47) [] (at 13 1) (sole (at 14 1) (assign_of
    (at 14 1) "L" [] (at 14 3) (expr_of (at 14 6) (primary.AllocatedAggregate (at 14 6) (mark (at 14 10) "Cell") (at 14
    14) (aggregate.Several (at 14 15) (actual_of (at 14 16) (object (at 14 16) "V")) (at 14 17) (actual_of (at 14 19)
    (object (at 14 19) "L")) [] (at 14 20)))) (at 14 21))) (at 15 7) (Some (id (at 15 11) "Push")) (at 15 15)) ∷
    part.Completed (at 16 1) (subprogram_of (at 16 1) (subspec.Function (at 16 1) (id (at 16 10) "Sum") (Some
    (formals_of (at 16 14) (moded_of (id (at 16 15) "L") [] (at 16 17) None None (mark (at 16 19) "List")) [] (at 16
    23))) (at 16 25) (indication_of (mark (at 16 32) "Integer"))) None (at 16 40) (initialized_of (id (at 17 4) "C") []
    (at 17 6) None (indication.Anonymous (at 17 8) (Some (at 17 15)) (mark (at 17 24) "Cell")) (at 17 29) (expr_of (at
    17 32) (object (at 17 32) "L")) (at 17 33) ∷ initialized_of (id (at 18 7) "N") [] (at 18 9) None (indication_of
    (mark (at 18 11) "Integer")) (at 18 19) (expr_of (at 18 22) (primary.Number (at 18 22) 0)) (at 18 23) ∷ []) (at 19
    4) (stmts.Sequence (at 20 1) (stmt.While (at 20 1) (expr.LoneRelation (at 20 7) (rel.Compared (at 20 7) (sum_of (at
    20 7) (object (at 20 7) "C")) relational.NotEqual (at 20 9) (sum_of (at 20 12) (primary.Null (at 20 12))))) (at 20
    17) (stmts.Sequence (at 20 22) (assign_of (at 20 22) "N" [] (at 20 24) (expr.LoneRelation (at 20 27) (rel.LoneSum
    (at 20 27) (sum.Unsigned (at 20 27) (term_of (at 20 27) (object (at 20 27) "N")) (next_term.FurtherTerm (at 20 29)
    adding.Add (term_of (at 20 31) (named (at 20 31) "C" (suffix.Selected (at 20 32) (id (at 20 33) "Value") ∷ []))) ∷
    [])))) (at 20 38)) (assign_of (at 20 40) "C" [] (at 20 42) (expr_of (at 20 45) (named (at 20 45) "C"
    (suffix.Selected (at 20 46) (id (at 20 47) "Next") ∷ []))) (at 20 51) ∷ [])) (at 20 53) (at 20 57) (at 20 61))
    (stmt.ReturnValue (at 21 4) (expr_of (at 21 11) (object (at 21 11) "N")) (at 21 12) ∷ [])) (at 22 7) (Some (id (at
    22 11) "Sum")) (at 22 14)) ∷ []) (at 23 1) (Some (id (at 23 5) "Store")) (at 23 10)) ∷ unit.OfSubprogram (at 24 1)
    (context.With (at 24 1) (selected (at 24 6) "Ada" (at 24 9) (at 24 10) "Text_IO") [] (at 24 17) ∷ use_context
    (use_of (at 24 19) None (selected (at 24 23) "Ada" (at 24 26) (at 24 27) "Text_IO") [] (at 24 34)) ∷ context.With
    (at 24 36) (selected (at 24 41) "Ada" (at 24 44) (at 24 45) "Integer_Text_IO") [] (at 24 60) ∷ use_context (use_of
    (at 24 62) None (selected (at 24 66) "Ada" (at 24 69) (at 24 70) "Integer_Text_IO") [] (at 24 85)) ∷ context.With
    (at 24 87) (selected (at 24 92) "Ada" (at 24 95) (at 24 96) "Unchecked_Deallocation") [] (at 24 118) ∷ context.With
    (at 24 120) (mark (at 24 125) "Store") [] (at 24 130) ∷ use_context (use_of (at 24 132) None (mark (at 24 136)
    "Store") [] (at 24 141)) ∷ []) (subprogram_of (at 25 4) (subspec.Procedure (at 25 4) (id (at 25 14) "Main") None)
    None (at 25 19) (objects_of (id (at 26 1) "X") (next_id_of (at 26 2) (at 26 4) "Y" ∷ []) (at 26 6) None
    (indication_of (mark (at 26 8) "List")) (at 26 12) ∷ initialized_of (id (at 27 1) "N") [] (at 27 3) None
    (indication_of (mark (at 27 5) "Integer")) (at 27 13) (expr_of (at 27 16) (primary.Number (at 27 16) 2)) (at 27 17)
    ∷ []) (at 28 4) (stmts.Sequence (at 29 7) (assign_of (at 29 7) "Y" [] (at 29 9) (expr_of (at 29 12) (object (at 29
    12) "X")) (at 29 13)) (assign_of (at 29 15) "X" [] (at 29 17) (expr_of (at 29 20) (primary.Null (at 29 20))) (at 29
    24) ∷ assign_of (at 30 4) "N" [] (at 30 6) (expr_of (at 30 9) (named (at 30 9) "Sum" (suffix.Applied (at 30 13)
    (actual_of (at 30 14) (object (at 30 14) "Y")) [] (at 30 15) ∷ []))) (at 30 16) ∷ stmt.If (at 31 4)
    (expr.LoneRelation (at 31 7) (rel.LoneSum (at 31 7) (sum.Unsigned (at 31 7) (term.Product (at 31 7) (factor.Not (at
    31 7) (object (at 31 11) "End_Of_File")) []) []))) (at 31 23) (sole (at 31 28) (call_of (at 31 28) "Get"
    (suffix.Applied (at 31 32) (actual_of (at 31 33) (object (at 31 33) "N")) [] (at 31 34) ∷ []) (at 31 35))) [] (at 31
    37) (at 31 41) (at 31 43) ∷ [])) (at 32 4) (Some (id (at 32 8) "Main")) (at 32 12)) ∷ []) ∷ [])
unfolding computes resolves
package_in_itself_3 = refl
