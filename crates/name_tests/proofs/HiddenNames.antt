-- A name isn't visible where it stands: N3.
--
-- tools/tree_terms.py makes this of the sources that data/cases.txt has under its name.
use Rattle.std.proofs.Common.{refl, [], ◌∷◌}
use Rattle.std.specs.Prelude.{None, Some}
use Rattle.ada_tree.specs.declared.operator.AddingOperator.TheVariants as adding
use Rattle.ada_tree.specs.declared.expression.Aggregate.TheVariants as aggregate
use Rattle.ada_tree.specs.declared.statement.When.TheVariants as alternative
use Rattle.ada_tree.specs.declared.range.Choice.TheVariants as choice
use Rattle.ada_tree.specs.declared.unit.Context.TheVariants as context
use Rattle.ada_tree.specs.declared.subprogram.Decl.TheVariants as decl
use Rattle.ada_tree.specs.declared.expression.Expr.TheVariants as expr
use Rattle.ada_tree.specs.declared.expression.Factor.TheVariants as factor
use Rattle.ada_tree.specs.declared.declaration.Indication.TheVariants as indication
use Rattle.ada_tree.specs.declared.declaration.Item.TheVariants as item
use Rattle.ada_tree.specs.declared.operator.MultiplyingOperator.TheVariants as multiplying
use Rattle.ada_tree.specs.declared.expression.NextArg.TheVariants as next_arg
use Rattle.ada_tree.specs.declared.identifier.NextDotted.TheVariants as next_dotted
use Rattle.ada_tree.specs.declared.expression.NextFactor.TheVariants as next_factor
use Rattle.ada_tree.specs.declared.expression.NextTerm.TheVariants as next_term
use Rattle.ada_tree.specs.declared.unit.BodyPart.TheVariants as part
use Rattle.ada_tree.specs.declared.expression.Primary.TheVariants as primary
use Rattle.ada_tree.specs.declared.range.Range.TheVariants as range
use Rattle.ada_tree.specs.declared.expression.Rel.TheVariants as rel
use Rattle.ada_tree.specs.declared.operator.RelationalOperator.TheVariants as relational
use Rattle.ada_tree.specs.declared.statement.Stmt.TheVariants as stmt
use Rattle.ada_tree.specs.declared.statement.Stmts.TheVariants as stmts
use Rattle.ada_tree.specs.declared.subprogram.Subspec.TheVariants as subspec
use Rattle.ada_tree.specs.declared.expression.Suffix.TheVariants as suffix
use Rattle.ada_tree.specs.declared.expression.Sum.TheVariants as sum
use Rattle.ada_tree.specs.declared.expression.Term.TheVariants as term
use Rattle.ada_tree.specs.declared.unit.SourceUnit.TheVariants as unit
use Rattle.ada_grammar.proofs.SmallSources.{computes}
use Rattle.name_events.specs.declared.declaration.NameRule.TheVariants.{NotVisible}
use Rattle.name_tests.proofs.SmallRules.{resolves}
use Rattle.name_tests.proofs.SourceTrees.{IsFirstBrokenOf, actual_of, assign_of, association_of, at, at1, at2, call_of, expr_of, factor_of, fields_of, id, indication_of, initialized_of, mark, named, next_id_of, object, objects_of, package_body_of, package_of, private_part, selected, sole, subprogram_of, sum_of, term_of, use_context, use_item, use_of}

-- Small sources: without a with, and from outside.
small_n3_1 : IsFirstBrokenOf NotVisible (at 1 5) ((unit.OfSubprogram (at 1 1) (use_context (use_of (at 1 1) None
    (selected (at 1 5) "Ada" (at 1 8) (at 1 9) "Text_IO") [] (at 1 16)) ∷ []) (subprogram_of (at 1 18)
    (subspec.Procedure (at 1 18) (id (at 1 28) "Main") None) None (at 1 33) [] (at 1 36) (sole (at 1 42) (stmt.Null (at
    1 42) (at 1 46))) (at 1 48) (Some (id (at 1 52) "Main")) (at 1 56)) ∷ []) ∷ [])
unfolding computes resolves
small_n3_1 = refl

small_n3_2 : IsFirstBrokenOf NotVisible (at 1 25) ((unit.OfSubprogram (at 1 1) [] (subprogram_of (at 1 1)
    (subspec.Procedure (at 1 1) (id (at 1 11) "Main") None) None (at 1 16) [] (at 1 19) (sole (at 1 25) (call_of (at 1
    25) "Ada" (suffix.Selected (at 1 28) (id (at 1 29) "Text_IO") ∷ suffix.Selected (at 1 36) (id (at 1 37) "New_Line")
    ∷ []) (at 1 45))) (at 1 47) (Some (id (at 1 51) "Main")) (at 1 55)) ∷ []) ∷ [])
unfolding computes resolves
small_n3_2 = refl

small_n3_3 : IsFirstBrokenOf NotVisible (at 1 58) ((unit.OfPackage (at 1 1) [] (package_of (at 1 1) (id (at 1 9) "P")
    None (at 1 11) (decl.OfItem (at 1 14) (objects_of (id (at 1 14) "X") [] (at 1 16) None (indication_of (mark (at 1
    18) "Integer")) (at 1 25)) ∷ []) None (at 1 27) (Some (id (at 1 31) "P")) (at 1 32)) ∷ unit.OfSubprogram (at 1 34)
    [] (subprogram_of (at 1 34) (subspec.Procedure (at 1 34) (id (at 1 44) "Main") None) None (at 1 49) [] (at 1 52)
    (sole (at 1 58) (assign_of (at 1 58) "P" (suffix.Selected (at 1 59) (id (at 1 60) "X") ∷ []) (at 1 62) (expr_of (at
    1 65) (primary.Number (at 1 65) 1)) (at 1 66))) (at 1 68) (Some (id (at 1 72) "Main")) (at 1 76)) ∷ []) ∷ [])
unfolding computes resolves
small_n3_3 = refl

small_n3_5 : IsFirstBrokenOf NotVisible (at 1 76) ((unit.OfPackage (at 1 1) [] (package_of (at 1 1) (id (at 1 9) "P")
    None (at 1 11) [] (Some (private_part (at 1 14) (decl.OfItem (at 1 22) (objects_of (id (at 1 22) "X") [] (at 1 24)
    None (indication_of (mark (at 1 26) "Integer")) (at 1 33)) ∷ []))) (at 1 35) (Some (id (at 1 39) "P")) (at 1 40)) ∷
    unit.OfSubprogram (at 1 42) (context.With (at 1 42) (mark (at 1 47) "P") [] (at 1 48) ∷ []) (subprogram_of (at 1 50)
    (subspec.Procedure (at 1 50) (id (at 1 60) "Main") None) None (at 1 65) [] (at 1 68) (sole (at 1 74) (assign_of (at
    1 74) "P" (suffix.Selected (at 1 75) (id (at 1 76) "X") ∷ []) (at 1 78) (expr_of (at 1 81) (primary.Number (at 1 81)
    1)) (at 1 82))) (at 1 84) (Some (id (at 1 88) "Main")) (at 1 92)) ∷ []) ∷ [])
unfolding computes resolves
small_n3_5 = refl

small_n3_6 : IsFirstBrokenOf NotVisible (at 1 41) ((unit.OfSubprogram (at 1 1) [] (subprogram_of (at 1 1)
    (subspec.Procedure (at 1 1) (id (at 1 11) "Main") None) None (at 1 16) (item.Instance (at 1 19) (id (at 1 29)
    "Free") (at 1 34) (at 1 37) (selected (at 1 41) "Ada" (at 1 44) (at 1 45) "Unchecked_Deallocation") (at 1 68)
    (actual_of (at 1 69) (object (at 1 69) "Integer")) (next_arg.FurtherArg (at 1 76) (actual_of (at 1 78) (object (at 1
    78) "Integer")) ∷ []) (at 1 85) (at 1 86) ∷ []) (at 1 88) (sole (at 1 94) (stmt.Null (at 1 94) (at 1 98))) (at 1
    100) (Some (id (at 1 104) "Main")) (at 1 108)) ∷ []) ∷ [])
unfolding computes resolves
small_n3_6 = refl

-- The private part or the body declares it, and it is named from outside.
hidden_member_1 : IsFirstBrokenOf NotVisible (at2 1 52) ((unit.OfSubprogram (at 1 7) (context.With (at 1 7) (selected
    (at 1 12) "Ada" (at 1 15) (at 1 16) "Text_IO") [] (at 1 23) ∷ use_context (use_of (at 1 25) None (selected (at 1 29)
    "Ada" (at 1 32) (at 1 33) "Text_IO") [] (at 1 40)) ∷ context.With (at 1 42) (selected (at 1 47) "Ada" (at 1 50) (at
    1 51) "Integer_Text_IO") [] (at 1 66) ∷ use_context (use_of (at 1 68) None (selected (at 1 72) "Ada" (at 1 75) (at 1
    76) "Integer_Text_IO") [] (at 1 91)) ∷ context.With (at 1 93) (selected (at 1 98) "Ada" (at 1 101) (at 1 102)
    "Unchecked_Deallocation") [] (at 1 124) ∷ []) (subprogram_of (at 2 4) (subspec.Procedure (at 2 4) (id (at 2 14)
    "Main") None) None (at 2 19) (item.IncompleteType (at 3 4) (id (at 3 9) "Cell") (at 3 13) ∷ item.AccessType (at 4 4)
    (id (at 4 9) "List") (at 4 14) (at 4 17) (mark (at 4 24) "Cell") (at 4 28) ∷ item.RecordType (at 5 1) (id (at 5 6)
    "Cell") (at 5 11) (at 5 14) (fields_of (id (at 5 21) "Value") [] (at 5 27) (mark (at 5 29) "Integer") (at 5 36))
    (fields_of (id (at 5 38) "Next") [] (at 5 43) (mark (at 5 45) "List") (at 5 49) ∷ []) (at 5 51) (at 5 55) (at 5 61)
    ∷ objects_of (id (at 6 1) "X") (next_id_of (at 6 2) (at 6 4) "Y" ∷ []) (at 6 6) None (indication_of (mark (at 6 8)
    "List")) (at 6 12) ∷ initialized_of (id (at 7 7) "N") [] (at 7 9) None (indication_of (mark (at 7 11) "Integer"))
    (at 7 19) (expr_of (at 7 22) (primary.Number (at 7 22) 9)) (at 7 23) ∷ []) (at 8 1) (stmts.Sequence (at 9 1)
    (call_of (at 9 1) "Put_Line" (suffix.Applied (at 9 10) (actual_of (at 9 11) (named (at 9 11) "Integer"
    (suffix.Attribute (at 9 18) (id (at 9 19) "Image") ∷ suffix.Applied (at 9 25) (actual_of (at 9 26) (object (at 9 26)
    "N")) [] (at 9 27) ∷ []))) [] (at 9 28) ∷ []) (at 9 29)) (stmt.IfElse (at 10 1) (expr.LoneRelation (at 10 4)
    (rel.Compared (at 10 4) (sum_of (at 10 4) (object (at 10 4) "N")) relational.Greater (at 10 6) (sum_of (at 10 8)
    (primary.Number (at 10 8) 3)))) (at 10 10) (sole (at 10 15) (assign_of (at 10 15) "N" [] (at 10 17)
    (expr.LoneRelation (at 10 20) (rel.LoneSum (at 10 20) (sum.Unsigned (at 10 20) (term_of (at 10 20) (object (at 10
    20) "N")) (next_term.FurtherTerm (at 10 22) adding.Subtract (term_of (at 10 24) (primary.Number (at 10 24) 1)) ∷
    [])))) (at 10 25))) [] (at 10 27) (sole (at 10 32) (stmt.Null (at 10 32) (at 10 36))) (at 10 38) (at 10 42) (at 10
    44) ∷ [])) (at 11 1) (Some (id (at 11 5) "Main")) (at 11 9)) ∷ []) ∷ (unit.OfPackage (at1 1 4) [] (package_of (at1 1
    4) (id (at1 1 12) "Usual_P") None (at1 1 20) (decl.OfItem (at1 1 23) (objects_of (id (at1 1 23) "Usual_Y") [] (at1 1
    31) None (indication_of (mark (at1 1 33) "Integer")) (at1 1 40)) ∷ []) (Some (private_part (at1 1 42) (decl.OfItem
    (at1 1 50) (item.EnumerationType (at1 1 50) (id (at1 1 55) "Usual_T") (at1 1 63) (at1 1 66) (id (at1 1 67)
    "Usual_A") (next_id_of (at1 1 74) (at1 1 76) "Usual_B" ∷ []) (at1 1 83) (at1 1 84)) ∷ []))) (at1 1 86) (Some (id
    (at1 1 90) "Usual_P")) (at1 1 97)) ∷ []) ∷ (unit.OfPackage (at2 1 1) (context.With (at2 1 1) (mark (at2 1 6)
    "Usual_P") [] (at2 1 13) ∷ []) (package_of (at2 1 15) (id (at2 1 23) "Usual_R") None (at2 1 31) (decl.OfItem (at2 1
    34) (objects_of (id (at2 1 34) "Usual_Z") [] (at2 1 42) None (indication_of (selected (at2 1 44) "Usual_P" (at2 1
    51) (at2 1 52) "Usual_T")) (at2 1 59)) ∷ []) None (at2 1 61) (Some (id (at2 1 65) "Usual_R")) (at2 1 72)) ∷ []) ∷
    [])
unfolding computes resolves
hidden_member_1 = refl

hidden_member_2 : IsFirstBrokenOf NotVisible (at 2 63) ((unit.OfPackage (at 1 1) [] (package_of (at 1 1) (id (at 1 9)
    "Spare_P") None (at 1 17) (decl.OfItem (at 1 20) (objects_of (id (at 1 20) "Spare_Y") [] (at 1 28) None
    (indication_of (mark (at 1 30) "Integer")) (at 1 37)) ∷ []) (Some (private_part (at 1 39) (decl.OfItem (at 1 47)
    (objects_of (id (at 1 47) "Spare_X") [] (at 1 55) None (indication_of (mark (at 1 57) "Integer")) (at 1 64)) ∷ [])))
    (at 1 66) (Some (id (at 1 70) "Spare_P")) (at 1 77)) ∷ unit.OfPackage (at 2 1) (context.With (at 2 1) (mark (at 2 6)
    "Spare_P") [] (at 2 13) ∷ []) (package_of (at 2 15) (id (at 2 23) "Spare_R") None (at 2 31) (decl.OfItem (at 2 34)
    (initialized_of (id (at 2 34) "Spare_Z") [] (at 2 42) None (indication_of (mark (at 2 44) "Integer")) (at 2 52)
    (expr_of (at 2 55) (named (at 2 55) "Spare_P" (suffix.Selected (at 2 62) (id (at 2 63) "Spare_X") ∷ []))) (at 2 70))
    ∷ []) None (at 2 72) (Some (id (at 2 76) "Spare_R")) (at 2 83)) ∷ unit.OfSubprogram (at 3 1) (context.With (at 3 1)
    (selected (at 3 6) "Ada" (at 3 9) (at 3 10) "Text_IO") [] (at 3 17) ∷ use_context (use_of (at 3 19) None (selected
    (at 3 23) "Ada" (at 3 26) (at 3 27) "Text_IO") [] (at 3 34)) ∷ context.With (at 3 36) (selected (at 3 41) "Ada" (at
    3 44) (at 3 45) "Integer_Text_IO") [] (at 3 60) ∷ use_context (use_of (at 3 62) None (selected (at 3 66) "Ada" (at 3
    69) (at 3 70) "Integer_Text_IO") [] (at 3 85)) ∷ context.With (at 3 87) (selected (at 3 92) "Ada" (at 3 95) (at 3
    96) "Unchecked_Deallocation") [] (at 3 118) ∷ []) (subprogram_of (at 4 1) (subspec.Procedure (at 4 1) (id (at 4 11)
    "Main") None) None (at 4 16) (item.IncompleteType (at 5 1) (id (at 5 6) "Cell") (at 5 10) ∷ item.AccessType (at 6 1)
    (id (at 6 6) "List") (at 6 11) (at 6 14) (mark (at 6 21) "Cell") (at 6 25) ∷ item.RecordType (at 7 1) (id (at 7 6)
    "Cell") (at 7 11) (at 7 14) (fields_of (id (at 7 21) "Value") [] (at 7 27) (mark (at 7 29) "Integer") (at 7 36))
    (fields_of (id (at 7 38) "Next") [] (at 7 43) (mark (at 7 45) "List") (at 7 49) ∷ []) (at 7 51) (at 7 55) (at 7 61)
    ∷ objects_of (id (at 8 1) "X") (next_id_of (at 8 2) (at 8 4) "Y" ∷ []) (at 8 6) None (indication_of (mark (at 8 8)
    "List")) (at 8 12) ∷ initialized_of (id (at 9 1) "N") [] (at 9 3) None (indication_of (mark (at 9 5) "Integer")) (at
    9 13) (expr_of (at 9 16) (primary.Number (at 9 16) 6)) (at 9 17) ∷ []) (at 10 1) (stmts.Sequence (at 11 1)
    (assign_of (at 11 1) "N" [] (at 11 3) (expr.LoneRelation (at 11 6) (rel.LoneSum (at 11 6) (sum.Unsigned (at 11 6)
    (term.Product (at 11 6) (factor_of (at 11 6) (object (at 11 6) "N")) (next_factor.FurtherFactor (at 11 8)
    multiplying.Multiply (factor_of (at 11 10) (primary.Number (at 11 10) 2)) ∷ [])) (next_term.FurtherTerm (at 11 12)
    adding.Add (term_of (at 11 14) (primary.Number (at 11 14) 1)) ∷ [])))) (at 11 15)) (stmt.DeclareBlock (at 12 1)
    (initialized_of (id (at 12 9) "B") [] (at 12 11) None (indication.Anonymous (at 12 13) None (mark (at 12 20)
    "Cell")) (at 12 25) (expr_of (at 12 28) (object (at 12 28) "X")) (at 12 29) ∷ []) (at 12 31) (sole (at 12 37)
    (stmt.If (at 12 37) (expr.LoneRelation (at 12 40) (rel.Compared (at 12 40) (sum_of (at 12 40) (object (at 12 40)
    "B")) relational.NotEqual (at 12 42) (sum_of (at 12 45) (primary.Null (at 12 45))))) (at 12 50) (sole (at 12 55)
    (assign_of (at 12 55) "B" (suffix.Selected (at 12 56) (id (at 12 57) "Value") ∷ []) (at 12 63) (expr_of (at 12 66)
    (object (at 12 66) "N")) (at 12 67))) [] (at 12 69) (at 12 73) (at 12 75))) (at 12 77) (at 12 80) ∷ stmt.If (at 13
    1) (expr.LoneRelation (at 13 4) (rel.LoneSum (at 13 4) (sum.Unsigned (at 13 4) (term.Product (at 13 4) (factor.Not
    (at 13 4) (object (at 13 8) "End_Of_File")) []) []))) (at 13 20) (sole (at 13 25) (call_of (at 13 25) "Get"
    (suffix.Applied (at 13 29) (actual_of (at 13 30) (object (at 13 30) "N")) [] (at 13 31) ∷ []) (at 13 32))) [] (at 13
    34) (at 13 38) (at 13 40) ∷ assign_of (at 14 1) "X" [] (at 14 3) (expr_of (at 14 6) (primary.AllocatedAggregate (at
    14 6) (mark (at 14 10) "Cell") (at 14 14) (aggregate.Several (at 14 15) (actual_of (at 14 16) (object (at 14 16)
    "N")) (at 14 17) (actual_of (at 14 19) (primary.Null (at 14 19))) [] (at 14 23)))) (at 14 24) ∷ [])) (at 15 1) (Some
    (id (at 15 5) "Main")) (at 15 9)) ∷ []) ∷ [])
unfolding computes resolves
hidden_member_2 = refl

hidden_member_3 : IsFirstBrokenOf NotVisible (at 39 63) ((unit.OfSubprogram (at 1 1) (context.With (at 1 1) (selected
    (at 1 6) "Ada" (at 1 9) (at 1 10) "Text_IO") [] (at 1 17) ∷ use_context (use_of (at 1 19) None (selected (at 1 23)
    "Ada" (at 1 26) (at 1 27) "Text_IO") [] (at 1 34)) ∷ context.With (at 2 1) (selected (at 2 6) "Ada" (at 2 9) (at 2
    10) "Integer_Text_IO") [] (at 2 25) ∷ use_context (use_of (at 2 27) None (selected (at 2 31) "Ada" (at 2 34) (at 2
    35) "Integer_Text_IO") [] (at 2 50)) ∷ context.With (at 3 1) (selected (at 3 6) "Ada" (at 3 9) (at 3 10)
    "Unchecked_Deallocation") [] (at 3 32) ∷ []) (subprogram_of (at 4 1) (subspec.Procedure (at 4 1) (id (at 4 11)
    "Main") None) None (at 4 16) (item.AccessType (at 5 1) (id (at 5 6) "P1") (at 5 9) (at 5 12) (mark (at 5 19)
    "Integer") (at 5 26) ∷ item.Instance (at 6 1) (id (at 6 11) "Free1") (at 6 17) (at 6 20) (selected (at 6 24) "Ada"
    (at 6 27) (at 6 28) "Unchecked_Deallocation") (at 6 51) (association_of (id (at 6 52) "Object") (at 6 59) (expr_of
    (at 6 62) (object (at 6 62) "Integer"))) (next_arg.FurtherArg (at 6 69) (association_of (id (at 6 71) "Name") (at 6
    76) (expr_of (at 6 79) (object (at 6 79) "P1"))) ∷ []) (at 6 81) (at 6 82) ∷ item.Subtype (at 7 1) (id (at 7 9)
    "S1") (at 7 12) (mark (at 7 15) "Positive") (at 7 23) ∷ initialized_of (id (at 8 1) "V1") [] (at 8 4) None
    (indication_of (mark (at 8 6) "P1")) (at 8 9) (expr_of (at 8 12) (primary.Allocated (at 8 12) (mark (at 8 16)
    "Integer"))) (at 8 23) ∷ initialized_of (id (at 9 1) "V2") [] (at 9 4) None (indication_of (mark (at 9 6) "P1")) (at
    9 9) (expr_of (at 9 12) (primary.Allocated (at 9 12) (mark (at 9 16) "Integer"))) (at 9 23) ∷ objects_of (id (at 10
    1) "T1") [] (at 10 4) None (indication_of (mark (at 10 6) "Integer")) (at 10 13) ∷ []) (at 11 1) (sole (at 12 1)
    (stmt.If (at 12 1) (expr.LoneRelation (at 12 4) (rel.Compared (at 12 4) (sum_of (at 12 4) (object (at 12 4) "V2"))
    relational.NotEqual (at 12 7) (sum_of (at 12 10) (primary.Null (at 12 10))))) (at 12 15) (sole (at 13 1) (stmt.For
    (at 13 1) (id (at 13 5) "I1") (at 13 8) None (range.Bounds (at 13 11) (expr_of (at 13 11) (primary.Number (at 13 11)
    0)) (at 13 13) (expr_of (at 13 16) (primary.Number (at 13 16) 3))) (at 13 18) (stmts.Sequence (at 14 1) (stmt.If (at
    14 1) (expr.LoneRelation (at 14 4) (rel.Compared (at 14 4) (sum_of (at 14 4) (primary.Number (at 14 4) 36))
    relational.GreaterEqual (at 14 7) (sum_of (at 14 10) (object (at 14 10) "I1")))) (at 14 13) (stmts.Sequence (at 15
    1) (call_of (at 15 1) "New_Line" [] (at 15 9)) (assign_of (at 16 1) "V1" [] (at 16 4) (expr_of (at 16 7) (object (at
    16 7) "V1")) (at 16 9) ∷ assign_of (at 17 1) "T1" [] (at 17 4) (expr_of (at 17 7) (primary.Number (at 17 7) 0)) (at
    17 8) ∷ stmt.Loop (at 18 1) (stmts.Sequence (at 19 1) (stmt.ExitWhen (at 19 1) (at 19 6) (expr.LoneRelation (at 19
    11) (rel.Compared (at 19 11) (sum_of (at 19 11) (object (at 19 11) "T1")) relational.GreaterEqual (at 19 14) (sum_of
    (at 19 17) (primary.Number (at 19 17) 8)))) (at 19 18)) (assign_of (at 20 1) "T1" [] (at 20 4) (expr.LoneRelation
    (at 20 7) (rel.LoneSum (at 20 7) (sum.Unsigned (at 20 7) (term_of (at 20 7) (object (at 20 7) "T1"))
    (next_term.FurtherTerm (at 20 10) adding.Add (term_of (at 20 12) (primary.Number (at 20 12) 1)) ∷ [])))) (at 20 13)
    ∷ assign_of (at 21 1) "V2" [] (at 21 4) (expr_of (at 21 7) (object (at 21 7) "V1")) (at 21 9) ∷ assign_of (at 22 1)
    "V1" [] (at 22 4) (expr_of (at 22 7) (primary.Null (at 22 7))) (at 22 11) ∷ [])) (at 23 1) (at 23 5) (at 23 9) ∷
    [])) [] (at 24 1) (at 24 5) (at 24 7)) (stmt.DeclareBlock (at 25 1) (initialized_of (id (at 26 1) "B1") [] (at 26 4)
    None (indication.Anonymous (at 26 6) None (mark (at 26 13) "Integer")) (at 26 21) (expr_of (at 26 24) (object (at 26
    24) "V2")) (at 26 26) ∷ []) (at 27 1) (stmts.Sequence (at 28 1) (assign_of (at 28 1) "V1" [] (at 28 4) (expr_of (at
    28 7) (object (at 28 7) "V2")) (at 28 9)) (stmt.If (at 29 1) (expr.LoneRelation (at 29 4) (rel.LoneSum (at 29 4)
    (sum.Unsigned (at 29 4) (term.Product (at 29 4) (factor.Not (at 29 4) (object (at 29 8) "End_Of_File")) []) [])))
    (at 29 20) (sole (at 30 1) (call_of (at 30 1) "Get" (suffix.Applied (at 30 5) (actual_of (at 30 6) (object (at 30 6)
    "T1")) [] (at 30 8) ∷ []) (at 30 9))) [] (at 31 1) (at 31 5) (at 31 7) ∷ [])) (at 32 1) (at 32 4) ∷ assign_of (at 33
    1) "V2" [] (at 33 4) (expr_of (at 33 7) (primary.Null (at 33 7))) (at 33 11) ∷ [])) (at 34 1) (at 34 5) (at 34 9)))
    [] (at 35 1) (at 35 5) (at 35 7))) (at 36 1) (Some (id (at 36 5) "Main")) (at 36 9)) ∷ unit.OfPackage (at 37 1) []
    (package_of (at 37 1) (id (at 37 9) "Usual_P") None (at 37 17) (decl.Subprogram (at 37 20) (subspec.Procedure (at 37
    20) (id (at 37 30) "Usual_Q") None) None (at 37 37) ∷ []) None (at 37 39) (Some (id (at 37 43) "Usual_P")) (at 37
    50)) ∷ unit.OfBody (at 38 1) [] (package_body_of (at 38 1) (at 38 9) (id (at 38 14) "Usual_P") None (at 38 22)
    (part.Declared (at 38 25) (decl.OfItem (at 38 25) (objects_of (id (at 38 25) "Usual_X") [] (at 38 33) None
    (indication_of (mark (at 38 35) "Integer")) (at 38 42))) ∷ part.Completed (at 38 44) (subprogram_of (at 38 44)
    (subspec.Procedure (at 38 44) (id (at 38 54) "Usual_Q") None) None (at 38 62) [] (at 38 65) (sole (at 38 71)
    (assign_of (at 38 71) "Usual_X" [] (at 38 79) (expr_of (at 38 82) (primary.Number (at 38 82) 1)) (at 38 83))) (at 38
    85) (Some (id (at 38 89) "Usual_Q")) (at 38 96)) ∷ []) (at 38 98) (Some (id (at 38 102) "Usual_P")) (at 38 109)) ∷
    unit.OfPackage (at 39 1) (context.With (at 39 1) (mark (at 39 6) "Usual_P") [] (at 39 13) ∷ []) (package_of (at 39
    15) (id (at 39 23) "Usual_R") None (at 39 31) (decl.OfItem (at 39 34) (initialized_of (id (at 39 34) "Usual_Z") []
    (at 39 42) None (indication_of (mark (at 39 44) "Integer")) (at 39 52) (expr_of (at 39 55) (named (at 39 55)
    "Usual_P" (suffix.Selected (at 39 62) (id (at 39 63) "Usual_X") ∷ []))) (at 39 70)) ∷ []) None (at 39 72) (Some (id
    (at 39 76) "Usual_R")) (at 39 83)) ∷ []) ∷ [])
unfolding computes resolves
hidden_member_3 = refl

hidden_member_4 : IsFirstBrokenOf NotVisible (at 4 60) ((unit.OfPackage (at 1 1) [] (package_of (at 1 1) (id (at 1 9)
    "Usual_P") None (at 1 17) (decl.Subprogram (at 1 20) (subspec.Procedure (at 1 20) (id (at 1 30) "Usual_Q") None)
    None (at 1 37) ∷ []) None (at 1 39) (Some (id (at 1 43) "Usual_P")) (at 1 50)) ∷ unit.OfBody (at 2 1) []
    (package_body_of (at 2 1) (at 2 9) (id (at 2 14) "Usual_P") None (at 2 22) (part.Completed (at 2 25) (subprogram_of
    (at 2 25) (subspec.Procedure (at 2 25) (id (at 2 35) "Usual_X") None) None (at 2 43) [] (at 2 46) (sole (at 2 52)
    (stmt.Null (at 2 52) (at 2 56))) (at 2 58) (Some (id (at 2 62) "Usual_X")) (at 2 69)) ∷ part.Completed (at 2 71)
    (subprogram_of (at 2 71) (subspec.Procedure (at 2 71) (id (at 2 81) "Usual_Q") None) None (at 2 89) [] (at 2 92)
    (sole (at 2 98) (call_of (at 2 98) "Usual_X" [] (at 2 105))) (at 2 107) (Some (id (at 2 111) "Usual_Q")) (at 2 118))
    ∷ []) (at 2 120) (Some (id (at 2 124) "Usual_P")) (at 2 131)) ∷ unit.OfPackage (at 3 1) (context.With (at 3 1) (mark
    (at 3 6) "Usual_P") [] (at 3 13) ∷ []) (package_of (at 3 15) (id (at 3 23) "Usual_R") None (at 3 31)
    (decl.Subprogram (at 3 34) (subspec.Procedure (at 3 34) (id (at 3 44) "Usual_Y") None) None (at 3 51) ∷ []) None (at
    3 53) (Some (id (at 3 57) "Usual_R")) (at 3 64)) ∷ unit.OfBody (at 4 1) [] (package_body_of (at 4 1) (at 4 9) (id
    (at 4 14) "Usual_R") None (at 4 22) (part.Completed (at 4 25) (subprogram_of (at 4 25) (subspec.Procedure (at 4 25)
    (id (at 4 35) "Usual_Y") None) None (at 4 43) [] (at 4 46) (sole (at 4 52) (call_of (at 4 52) "Usual_P"
    (suffix.Selected (at 4 59) (id (at 4 60) "Usual_X") ∷ []) (at 4 67))) (at 4 69) (Some (id (at 4 73) "Usual_Y")) (at
    4 80)) ∷ []) (at 4 82) (Some (id (at 4 86) "Usual_R")) (at 4 93)) ∷ unit.OfSubprogram (at 5 1) (context.With (at 5
    1) (selected (at 5 6) "Ada" (at 5 9) (at 5 10) "Text_IO") [] (at 5 17) ∷ use_context (use_of (at 5 19) None
    (selected (at 5 23) "Ada" (at 5 26) (at 5 27) "Text_IO") [] (at 5 34)) ∷ context.With (at 5 36) (selected (at 5 41)
    "Ada" (at 5 44) (at 5 45) "Integer_Text_IO") [] (at 5 60) ∷ use_context (use_of (at 5 62) None (selected (at 5 66)
    "Ada" (at 5 69) (at 5 70) "Integer_Text_IO") [] (at 5 85)) ∷ context.With (at 5 87) (selected (at 5 92) "Ada" (at 5
    95) (at 5 96) "Unchecked_Deallocation") [] (at 5 118) ∷ []) (subprogram_of (at 6 4) (subspec.Procedure (at 6 4) (id
    (at 6 14) "Main") None) None (at 6 19) (item.IncompleteType (at 7 1) (id (at 7 6) "Cell") (at 7 10) ∷
    item.AccessType (at 8 1) (id (at 8 6) "List") (at 8 11) (at 8 14) (mark (at 8 21) "Cell") (at 8 25) ∷
    item.RecordType (at 9 1) (id (at 9 6) "Cell") (at 9 11) (at 9 14) (fields_of (id (at 9 21) "Value") [] (at 9 27)
    (mark (at 9 29) "Integer") (at 9 36)) (fields_of (id (at 9 38) "Next") [] (at 9 43) (mark (at 9 45) "List") (at 9
    49) ∷ []) (at 9 51) (at 9 55) (at 9 61) ∷ objects_of (id (at 10 7) "X") (next_id_of (at 10 8) (at 10 10) "Y" ∷ [])
    (at 10 12) None (indication_of (mark (at 10 14) "List")) (at 10 18) ∷ initialized_of (id (at 11 4) "N") [] (at 11 6)
    None (indication_of (mark (at 11 8) "Integer")) (at 11 16) (expr_of (at 11 19) (primary.Number (at 11 19) 2)) (at 11
    20) ∷ []) (at 12 4) (stmts.Sequence (at 13 1) (stmt.If (at 13 1) (expr.LoneRelation (at 13 4) (rel.LoneSum (at 13 4)
    (sum.Unsigned (at 13 4) (term.Product (at 13 4) (factor.Not (at 13 4) (object (at 13 8) "End_Of_File")) []) [])))
    (at 13 20) (sole (at 13 25) (call_of (at 13 25) "Get" (suffix.Applied (at 13 29) (actual_of (at 13 30) (object (at
    13 30) "N")) [] (at 13 31) ∷ []) (at 13 32))) [] (at 13 34) (at 13 38) (at 13 40)) (assign_of (at 14 7) "Y" [] (at
    14 9) (expr_of (at 14 12) (object (at 14 12) "X")) (at 14 13) ∷ assign_of (at 14 15) "X" [] (at 14 17) (expr_of (at
    14 20) (primary.Null (at 14 20))) (at 14 24) ∷ stmt.IfElse (at 15 4) (expr.LoneRelation (at 15 7) (rel.Compared (at
    15 7) (sum_of (at 15 7) (object (at 15 7) "N")) relational.Greater (at 15 9) (sum_of (at 15 11) (primary.Number (at
    15 11) 3)))) (at 15 13) (sole (at 15 18) (assign_of (at 15 18) "N" [] (at 15 20) (expr.LoneRelation (at 15 23)
    (rel.LoneSum (at 15 23) (sum.Unsigned (at 15 23) (term_of (at 15 23) (object (at 15 23) "N")) (next_term.FurtherTerm
    (at 15 25) adding.Subtract (term_of (at 15 27) (primary.Number (at 15 27) 1)) ∷ [])))) (at 15 28))) [] (at 15 30)
    (sole (at 15 35) (stmt.Null (at 15 35) (at 15 39))) (at 15 41) (at 15 45) (at 15 47) ∷ stmt.DeclareBlock (at 16 4)
    (initialized_of (id (at 16 12) "B") [] (at 16 14) None (indication.Anonymous (at 16 16) None (mark (at 16 23)
    "Cell")) (at 16 28) (expr_of (at 16 31) (object (at 16 31) "X")) (at 16 32) ∷ []) (at 16 34) (sole (at 16 40)
    (stmt.If (at 16 40) (expr.LoneRelation (at 16 43) (rel.Compared (at 16 43) (sum_of (at 16 43) (object (at 16 43)
    "B")) relational.NotEqual (at 16 45) (sum_of (at 16 48) (primary.Null (at 16 48))))) (at 16 53) (sole (at 16 58)
    (assign_of (at 16 58) "B" (suffix.Selected (at 16 59) (id (at 16 60) "Value") ∷ []) (at 16 66) (expr_of (at 16 69)
    (object (at 16 69) "N")) (at 16 70))) [] (at 16 72) (at 16 76) (at 16 78))) (at 16 80) (at 16 83) ∷ stmt.For (at 17
    4) (id (at 17 8) "I") (at 17 10) None (range.Bounds (at 17 13) (expr_of (at 17 13) (primary.Number (at 17 13) 1))
    (at 17 15) (expr_of (at 17 18) (primary.Number (at 17 18) 3))) (at 17 20) (sole (at 17 25) (assign_of (at 17 25) "N"
    [] (at 17 27) (expr.LoneRelation (at 17 30) (rel.LoneSum (at 17 30) (sum.Unsigned (at 17 30) (term_of (at 17 30)
    (object (at 17 30) "N")) (next_term.FurtherTerm (at 17 32) adding.Add (term_of (at 17 34) (object (at 17 34) "I")) ∷
    [])))) (at 17 35))) (at 17 37) (at 17 41) (at 17 45) ∷ [])) (at 18 7) (Some (id (at 18 11) "Main")) (at 18 15)) ∷
    []) ∷ [])
unfolding computes resolves
hidden_member_4 = refl

-- Two packages in use have it.
two_in_use_1 : IsFirstBrokenOf NotVisible (at 15 92) ((unit.OfSubprogram (at 1 7) (context.With (at 1 7) (selected (at 1
    12) "Ada" (at 1 15) (at 1 16) "Text_IO") [] (at 1 23) ∷ use_context (use_of (at 1 25) None (selected (at 1 29) "Ada"
    (at 1 32) (at 1 33) "Text_IO") [] (at 1 40)) ∷ context.With (at 1 42) (selected (at 1 47) "Ada" (at 1 50) (at 1 51)
    "Integer_Text_IO") [] (at 1 66) ∷ use_context (use_of (at 1 68) None (selected (at 1 72) "Ada" (at 1 75) (at 1 76)
    "Integer_Text_IO") [] (at 1 91)) ∷ context.With (at 1 93) (selected (at 1 98) "Ada" (at 1 101) (at 1 102)
    "Unchecked_Deallocation") [] (at 1 124) ∷ []) (subprogram_of (at 2 1) (subspec.Procedure (at 2 1) (id (at 2 11)
    "Main") None) None (at 2 16) (item.IncompleteType (at 3 4) (id (at 3 9) "Cell") (at 3 13) ∷ item.AccessType (at 4 1)
    (id (at 4 6) "List") (at 4 11) (at 4 14) (mark (at 4 21) "Cell") (at 4 25) ∷ item.RecordType (at 5 1) (id (at 5 6)
    "Cell") (at 5 11) (at 5 14) (fields_of (id (at 5 21) "Value") [] (at 5 27) (mark (at 5 29) "Integer") (at 5 36))
    (fields_of (id (at 5 38) "Next") [] (at 5 43) (mark (at 5 45) "List") (at 5 49) ∷ []) (at 5 51) (at 5 55) (at 5 61)
    ∷ objects_of (id (at 6 1) "X") (next_id_of (at 6 2) (at 6 4) "Y" ∷ []) (at 6 6) None (indication_of (mark (at 6 8)
    "List")) (at 6 12) ∷ initialized_of (id (at 7 1) "N") [] (at 7 3) None (indication_of (mark (at 7 5) "Integer")) (at
    7 13) (expr_of (at 7 16) (primary.Number (at 7 16) 6)) (at 7 17) ∷ []) (at 8 7) (stmts.Sequence (at 9 1) (assign_of
    (at 9 1) "Y" [] (at 9 3) (expr_of (at 9 6) (object (at 9 6) "X")) (at 9 7)) (assign_of (at 9 9) "X" [] (at 9 11)
    (expr_of (at 9 14) (primary.Null (at 9 14))) (at 9 18) ∷ assign_of (at 10 7) "N" [] (at 10 9) (expr.LoneRelation (at
    10 12) (rel.LoneSum (at 10 12) (sum.Unsigned (at 10 12) (term.Product (at 10 12) (factor_of (at 10 12) (object (at
    10 12) "N")) (next_factor.FurtherFactor (at 10 14) multiplying.Multiply (factor_of (at 10 16) (primary.Number (at 10
    16) 2)) ∷ [])) (next_term.FurtherTerm (at 10 18) adding.Add (term_of (at 10 20) (primary.Number (at 10 20) 1)) ∷
    [])))) (at 10 21) ∷ call_of (at 11 7) "Put_Line" (suffix.Applied (at 11 16) (actual_of (at 11 17) (named (at 11 17)
    "Integer" (suffix.Attribute (at 11 24) (id (at 11 25) "Image") ∷ suffix.Applied (at 11 31) (actual_of (at 11 32)
    (object (at 11 32) "N")) [] (at 11 33) ∷ []))) [] (at 11 34) ∷ []) (at 11 35) ∷ [])) (at 12 1) (Some (id (at 12 5)
    "Main")) (at 12 9)) ∷ unit.OfPackage (at 13 7) [] (package_of (at 13 7) (id (at 13 15) "Quick_P") None (at 13 23)
    (decl.OfItem (at 13 26) (objects_of (id (at 13 26) "Quick_X") [] (at 13 34) None (indication_of (mark (at 13 36)
    "Integer")) (at 13 43)) ∷ []) None (at 13 45) (Some (id (at 13 49) "Quick_P")) (at 13 56)) ∷ unit.OfPackage (at 14
    1) [] (package_of (at 14 1) (id (at 14 9) "Quick_Q") None (at 14 17) (decl.OfItem (at 14 20) (objects_of (id (at 14
    20) "Quick_X") [] (at 14 28) None (indication_of (mark (at 14 30) "Integer")) (at 14 37)) ∷ []) None (at 14 39)
    (Some (id (at 14 43) "Quick_Q")) (at 14 50)) ∷ unit.OfPackage (at 15 7) (context.With (at 15 7) (mark (at 15 12)
    "Quick_P") (next_dotted.FurtherDotted (at 15 19) (mark (at 15 21) "Quick_Q") ∷ []) (at 15 28) ∷ use_context (use_of
    (at 15 30) None (mark (at 15 34) "Quick_P") (next_dotted.FurtherDotted (at 15 41) (mark (at 15 43) "Quick_Q") ∷ [])
    (at 15 50)) ∷ []) (package_of (at 15 52) (id (at 15 60) "Quick_R") None (at 15 68) (decl.OfItem (at 15 71)
    (initialized_of (id (at 15 71) "Quick_Y") [] (at 15 79) None (indication_of (mark (at 15 81) "Integer")) (at 15 89)
    (expr_of (at 15 92) (object (at 15 92) "Quick_X")) (at 15 99)) ∷ []) None (at 15 101) (Some (id (at 15 105)
    "Quick_R")) (at 15 112)) ∷ []) ∷ [])
unfolding computes resolves
two_in_use_1 = refl

two_in_use_2 : IsFirstBrokenOf NotVisible (at 3 90) ((unit.OfPackage (at 1 4) [] (package_of (at 1 4) (id (at 1 12)
    "Quick_P") None (at 1 20) (decl.OfItem (at 1 23) (item.EnumerationType (at 1 23) (id (at 1 28) "Quick_T") (at 1 36)
    (at 1 39) (id (at 1 40) "Quick_A") (next_id_of (at 1 47) (at 1 49) "Quick_B" ∷ []) (at 1 56) (at 1 57)) ∷ []) None
    (at 1 59) (Some (id (at 1 63) "Quick_P")) (at 1 70)) ∷ unit.OfPackage (at 2 4) [] (package_of (at 2 4) (id (at 2 12)
    "Quick_Q") None (at 2 20) (decl.OfItem (at 2 23) (item.EnumerationType (at 2 23) (id (at 2 28) "Quick_T") (at 2 36)
    (at 2 39) (id (at 2 40) "Quick_C") (next_id_of (at 2 47) (at 2 49) "Quick_D" ∷ []) (at 2 56) (at 2 57)) ∷ []) None
    (at 2 59) (Some (id (at 2 63) "Quick_Q")) (at 2 70)) ∷ unit.OfPackage (at 3 7) (context.With (at 3 7) (mark (at 3
    12) "Quick_P") [] (at 3 19) ∷ context.With (at 3 21) (mark (at 3 26) "Quick_Q") [] (at 3 33) ∷ []) (package_of (at 3
    35) (id (at 3 43) "Quick_R") None (at 3 51) (decl.OfItem (at 3 54) (use_item (use_of (at 3 54) None (mark (at 3 58)
    "Quick_Q") [] (at 3 65))) ∷ decl.OfItem (at 3 67) (use_item (use_of (at 3 67) None (mark (at 3 71) "Quick_P") [] (at
    3 78))) ∷ decl.OfItem (at 3 80) (objects_of (id (at 3 80) "Quick_Y") [] (at 3 88) None (indication_of (mark (at 3
    90) "Quick_T")) (at 3 97)) ∷ []) None (at 3 99) (Some (id (at 3 103) "Quick_R")) (at 3 110)) ∷ unit.OfSubprogram (at
    4 7) (context.With (at 4 7) (selected (at 4 12) "Ada" (at 4 15) (at 4 16) "Text_IO") [] (at 4 23) ∷ use_context
    (use_of (at 4 25) None (selected (at 4 29) "Ada" (at 4 32) (at 4 33) "Text_IO") [] (at 4 40)) ∷ context.With (at 4
    42) (selected (at 4 47) "Ada" (at 4 50) (at 4 51) "Integer_Text_IO") [] (at 4 66) ∷ use_context (use_of (at 4 68)
    None (selected (at 4 72) "Ada" (at 4 75) (at 4 76) "Integer_Text_IO") [] (at 4 91)) ∷ context.With (at 4 93)
    (selected (at 4 98) "Ada" (at 4 101) (at 4 102) "Unchecked_Deallocation") [] (at 4 124) ∷ []) (subprogram_of (at 5
    7) (subspec.Procedure (at 5 7) (id (at 5 17) "Main") None) None (at 5 22) (item.IncompleteType (at 6 1) (id (at 6 6)
    "Cell") (at 6 10) ∷ item.AccessType (at 7 7) (id (at 7 12) "List") (at 7 17) (at 7 20) (mark (at 7 27) "Cell") (at 7
    31) ∷ item.RecordType (at 8 7) (id (at 8 12) "Cell") (at 8 17) (at 8 20) (fields_of (id (at 8 27) "Value") [] (at 8
    33) (mark (at 8 35) "Integer") (at 8 42)) (fields_of (id (at 8 44) "Next") [] (at 8 49) (mark (at 8 51) "List") (at
    8 55) ∷ []) (at 8 57) (at 8 61) (at 8 67) ∷ objects_of (id (at 9 4) "X") (next_id_of (at 9 5) (at 9 7) "Y" ∷ []) (at
    9 9) None (indication_of (mark (at 9 11) "List")) (at 9 15) ∷ initialized_of (id (at 10 4) "N") [] (at 10 6) None
    (indication_of (mark (at 10 8) "Integer")) (at 10 16) (expr_of (at 10 19) (primary.Number (at 10 19) 2)) (at 10 20)
    ∷ item.Instance (at 11 4) (id (at 11 14) "Free") (at 11 19) (at 11 22) (selected (at 11 26) "Ada" (at 11 29) (at 11
    30) "Unchecked_Deallocation") (at 11 53) (actual_of (at 11 54) (object (at 11 54) "Cell")) (next_arg.FurtherArg (at
    11 58) (actual_of (at 11 60) (object (at 11 60) "List")) ∷ []) (at 11 64) (at 11 65) ∷ []) (at 12 1) (stmts.Sequence
    (at 13 7) (assign_of (at 13 7) "X" [] (at 13 9) (expr_of (at 13 12) (primary.AllocatedAggregate (at 13 12) (mark (at
    13 16) "Cell") (at 13 20) (aggregate.Several (at 13 21) (actual_of (at 13 22) (object (at 13 22) "N")) (at 13 23)
    (actual_of (at 13 25) (primary.Null (at 13 25))) [] (at 13 29)))) (at 13 30)) (stmt.IfElse (at 14 1)
    (expr.LoneRelation (at 14 4) (rel.Compared (at 14 4) (sum_of (at 14 4) (object (at 14 4) "N")) relational.Greater
    (at 14 6) (sum_of (at 14 8) (primary.Number (at 14 8) 3)))) (at 14 10) (sole (at 14 15) (assign_of (at 14 15) "N" []
    (at 14 17) (expr.LoneRelation (at 14 20) (rel.LoneSum (at 14 20) (sum.Unsigned (at 14 20) (term_of (at 14 20)
    (object (at 14 20) "N")) (next_term.FurtherTerm (at 14 22) adding.Subtract (term_of (at 14 24) (primary.Number (at
    14 24) 1)) ∷ [])))) (at 14 25))) [] (at 14 27) (sole (at 14 32) (stmt.Null (at 14 32) (at 14 36))) (at 14 38) (at 14
    42) (at 14 44) ∷ [])) (at 15 1) (Some (id (at 15 5) "Main")) (at 15 9)) ∷ []) ∷ [])
unfolding computes resolves
two_in_use_2 = refl

two_in_use_3 : IsFirstBrokenOf NotVisible (at 3 95) ((unit.OfPackage (at 1 1) [] (package_of (at 1 1) (id (at 1 9)
    "Extra_P") None (at 1 17) (decl.OfItem (at 1 20) (item.EnumerationType (at 1 20) (id (at 1 25) "Extra_T") (at 1 33)
    (at 1 36) (id (at 1 37) "Extra_A") (next_id_of (at 1 44) (at 1 46) "Extra_B" ∷ []) (at 1 53) (at 1 54)) ∷ []) None
    (at 1 56) (Some (id (at 1 60) "Extra_P")) (at 1 67)) ∷ unit.OfPackage (at 2 4) [] (package_of (at 2 4) (id (at 2 12)
    "Extra_Q") None (at 2 20) (decl.OfItem (at 2 23) (item.EnumerationType (at 2 23) (id (at 2 28) "Extra_U") (at 2 36)
    (at 2 39) (id (at 2 40) "Extra_A") (next_id_of (at 2 47) (at 2 49) "Extra_C" ∷ []) (at 2 56) (at 2 57)) ∷ []) None
    (at 2 59) (Some (id (at 2 63) "Extra_Q")) (at 2 70)) ∷ unit.OfPackage (at 3 1) (context.With (at 3 1) (mark (at 3 6)
    "Extra_P") [] (at 3 13) ∷ context.With (at 3 15) (mark (at 3 20) "Extra_Q") [] (at 3 27) ∷ use_context (use_of (at 3
    29) None (mark (at 3 33) "Extra_P") [] (at 3 40)) ∷ []) (package_of (at 3 42) (id (at 3 50) "Extra_R") None (at 3
    58) (decl.OfItem (at 3 61) (use_item (use_of (at 3 61) None (mark (at 3 65) "Extra_Q") [] (at 3 72))) ∷ decl.OfItem
    (at 3 74) (initialized_of (id (at 3 74) "Extra_Y") [] (at 3 82) None (indication_of (mark (at 3 84) "Extra_T")) (at
    3 92) (expr_of (at 3 95) (object (at 3 95) "Extra_A")) (at 3 102)) ∷ []) None (at 3 104) (Some (id (at 3 108)
    "Extra_R")) (at 3 115)) ∷ unit.OfSubprogram (at 4 1) (context.With (at 4 1) (selected (at 4 6) "Ada" (at 4 9) (at 4
    10) "Text_IO") [] (at 4 17) ∷ use_context (use_of (at 4 19) None (selected (at 4 23) "Ada" (at 4 26) (at 4 27)
    "Text_IO") [] (at 4 34)) ∷ context.With (at 4 36) (selected (at 4 41) "Ada" (at 4 44) (at 4 45) "Integer_Text_IO")
    [] (at 4 60) ∷ use_context (use_of (at 4 62) None (selected (at 4 66) "Ada" (at 4 69) (at 4 70) "Integer_Text_IO")
    [] (at 4 85)) ∷ context.With (at 4 87) (selected (at 4 92) "Ada" (at 4 95) (at 4 96) "Unchecked_Deallocation") []
    (at 4 118) ∷ []) (subprogram_of (at 5 1) (subspec.Procedure (at 5 1) (id (at 5 11) "Main") None) None (at 5 16)
    (item.IncompleteType (at 6 4) (id (at 6 9) "Cell") (at 6 13) ∷ item.AccessType (at 7 7) (id (at 7 12) "List") (at 7
    17) (at 7 20) (mark (at 7 27) "Cell") (at 7 31) ∷ item.RecordType (at 8 1) (id (at 8 6) "Cell") (at 8 11) (at 8 14)
    (fields_of (id (at 8 21) "Value") [] (at 8 27) (mark (at 8 29) "Integer") (at 8 36)) (fields_of (id (at 8 38)
    "Next") [] (at 8 43) (mark (at 8 45) "List") (at 8 49) ∷ []) (at 8 51) (at 8 55) (at 8 61) ∷ objects_of (id (at 9 7)
    "X") (next_id_of (at 9 8) (at 9 10) "Y" ∷ []) (at 9 12) None (indication_of (mark (at 9 14) "List")) (at 9 18) ∷
    initialized_of (id (at 10 1) "N") [] (at 10 3) None (indication_of (mark (at 10 5) "Integer")) (at 10 13) (expr_of
    (at 10 16) (primary.Number (at 10 16) 7)) (at 10 17) ∷ []) (at 11 7) (stmts.Sequence (at 12 1) (stmt.IfElse (at 12
    1) (expr.LoneRelation (at 12 4) (rel.Compared (at 12 4) (sum_of (at 12 4) (object (at 12 4) "N")) relational.Greater
    (at 12 6) (sum_of (at 12 8) (primary.Number (at 12 8) 3)))) (at 12 10) (sole (at 12 15) (assign_of (at 12 15) "N" []
    (at 12 17) (expr.LoneRelation (at 12 20) (rel.LoneSum (at 12 20) (sum.Unsigned (at 12 20) (term_of (at 12 20)
    (object (at 12 20) "N")) (next_term.FurtherTerm (at 12 22) adding.Subtract (term_of (at 12 24) (primary.Number (at
    12 24) 1)) ∷ [])))) (at 12 25))) [] (at 12 27) (sole (at 12 32) (stmt.Null (at 12 32) (at 12 36))) (at 12 38) (at 12
    42) (at 12 44)) (stmt.DeclareBlock (at 13 4) (initialized_of (id (at 13 12) "B") [] (at 13 14) None
    (indication.Anonymous (at 13 16) None (mark (at 13 23) "Cell")) (at 13 28) (expr_of (at 13 31) (object (at 13 31)
    "X")) (at 13 32) ∷ []) (at 13 34) (sole (at 13 40) (stmt.If (at 13 40) (expr.LoneRelation (at 13 43) (rel.Compared
    (at 13 43) (sum_of (at 13 43) (object (at 13 43) "B")) relational.NotEqual (at 13 45) (sum_of (at 13 48)
    (primary.Null (at 13 48))))) (at 13 53) (sole (at 13 58) (assign_of (at 13 58) "B" (suffix.Selected (at 13 59) (id
    (at 13 60) "Value") ∷ []) (at 13 66) (expr_of (at 13 69) (object (at 13 69) "N")) (at 13 70))) [] (at 13 72) (at 13
    76) (at 13 78))) (at 13 80) (at 13 83) ∷ stmt.While (at 14 1) (expr.LoneRelation (at 14 7) (rel.Compared (at 14 7)
    (sum_of (at 14 7) (object (at 14 7) "N")) relational.Greater (at 14 9) (sum_of (at 14 11) (primary.Number (at 14 11)
    5)))) (at 14 13) (sole (at 14 18) (assign_of (at 14 18) "N" [] (at 14 20) (expr.LoneRelation (at 14 23) (rel.LoneSum
    (at 14 23) (sum.Unsigned (at 14 23) (term.Product (at 14 23) (factor_of (at 14 23) (object (at 14 23) "N"))
    (next_factor.FurtherFactor (at 14 25) multiplying.Divide (factor_of (at 14 27) (primary.Number (at 14 27) 2)) ∷ []))
    []))) (at 14 28))) (at 14 30) (at 14 34) (at 14 38) ∷ assign_of (at 15 7) "X" [] (at 15 9) (expr_of (at 15 12)
    (primary.AllocatedAggregate (at 15 12) (mark (at 15 16) "Cell") (at 15 20) (aggregate.Several (at 15 21) (actual_of
    (at 15 22) (object (at 15 22) "N")) (at 15 23) (actual_of (at 15 25) (primary.Null (at 15 25))) [] (at 15 29)))) (at
    15 30) ∷ stmt.Case (at 16 4) (expr_of (at 16 9) (object (at 16 9) "N")) (at 16 11) (alternative.Alternative (at 16
    14) (choice.Value (at 16 19) (expr_of (at 16 19) (primary.Number (at 16 19) 1))) [] (at 16 21) (sole (at 16 24)
    (stmt.Null (at 16 24) (at 16 28)))) (alternative.Alternative (at 16 30) (choice.Others (at 16 35)) [] (at 16 42)
    (sole (at 16 45) (assign_of (at 16 45) "N" [] (at 16 47) (expr_of (at 16 50) (primary.Number (at 16 50) 2)) (at 16
    51))) ∷ []) (at 16 53) (at 16 57) (at 16 61) ∷ [])) (at 17 1) (Some (id (at 17 5) "Main")) (at 17 9)) ∷ []) ∷ [])
unfolding computes resolves
two_in_use_3 = refl

two_in_use_4 : IsFirstBrokenOf NotVisible (at 6 79) ((unit.OfPackage (at 1 1) [] (package_of (at 1 1) (id (at 1 9)
    "Extra_P") None (at 1 17) (decl.Subprogram (at 1 20) (subspec.Procedure (at 1 20) (id (at 1 30) "Extra_X") None)
    None (at 1 37) ∷ []) None (at 1 39) (Some (id (at 1 43) "Extra_P")) (at 1 50)) ∷ unit.OfBody (at 2 1) []
    (package_body_of (at 2 1) (at 2 9) (id (at 2 14) "Extra_P") None (at 2 22) (part.Completed (at 2 25) (subprogram_of
    (at 2 25) (subspec.Procedure (at 2 25) (id (at 2 35) "Extra_X") None) None (at 2 43) [] (at 2 46) (sole (at 2 52)
    (stmt.Null (at 2 52) (at 2 56))) (at 2 58) (Some (id (at 2 62) "Extra_X")) (at 2 69)) ∷ []) (at 2 71) (Some (id (at
    2 75) "Extra_P")) (at 2 82)) ∷ unit.OfPackage (at 3 1) [] (package_of (at 3 1) (id (at 3 9) "Extra_Q") None (at 3
    17) (decl.Subprogram (at 3 20) (subspec.Procedure (at 3 20) (id (at 3 30) "Extra_X") None) None (at 3 37) ∷ []) None
    (at 3 39) (Some (id (at 3 43) "Extra_Q")) (at 3 50)) ∷ unit.OfBody (at 4 1) [] (package_body_of (at 4 1) (at 4 9)
    (id (at 4 14) "Extra_Q") None (at 4 22) (part.Completed (at 4 25) (subprogram_of (at 4 25) (subspec.Procedure (at 4
    25) (id (at 4 35) "Extra_X") None) None (at 4 43) [] (at 4 46) (sole (at 4 52) (stmt.Null (at 4 52) (at 4 56))) (at
    4 58) (Some (id (at 4 62) "Extra_X")) (at 4 69)) ∷ []) (at 4 71) (Some (id (at 4 75) "Extra_Q")) (at 4 82)) ∷
    unit.OfPackage (at 5 1) (context.With (at 5 1) (mark (at 5 6) "Extra_P") (next_dotted.FurtherDotted (at 5 13) (mark
    (at 5 15) "Extra_Q") ∷ []) (at 5 22) ∷ use_context (use_of (at 5 24) None (mark (at 5 28) "Extra_P") [] (at 5 35)) ∷
    []) (package_of (at 5 37) (id (at 5 45) "Extra_R") None (at 5 53) (decl.Subprogram (at 5 56) (subspec.Procedure (at
    5 56) (id (at 5 66) "Extra_Y") None) None (at 5 73) ∷ []) None (at 5 75) (Some (id (at 5 79) "Extra_R")) (at 5 86))
    ∷ unit.OfBody (at 6 1) [] (package_body_of (at 6 1) (at 6 9) (id (at 6 14) "Extra_R") None (at 6 22) (part.Completed
    (at 6 25) (subprogram_of (at 6 25) (subspec.Procedure (at 6 25) (id (at 6 35) "Extra_Y") None) None (at 6 43) [] (at
    6 46) (sole (at 6 52) (stmt.DeclareBlock (at 6 52) (use_item (use_of (at 6 60) None (mark (at 6 64) "Extra_Q") []
    (at 6 71)) ∷ []) (at 6 73) (sole (at 6 79) (call_of (at 6 79) "Extra_X" [] (at 6 86))) (at 6 88) (at 6 91))) (at 6
    93) (Some (id (at 6 97) "Extra_Y")) (at 6 104)) ∷ []) (at 6 106) (Some (id (at 6 110) "Extra_R")) (at 6 117)) ∷
    unit.OfSubprogram (at 7 1) (context.With (at 7 1) (selected (at 7 6) "Ada" (at 7 9) (at 7 10) "Text_IO") [] (at 7
    17) ∷ use_context (use_of (at 7 19) None (selected (at 7 23) "Ada" (at 7 26) (at 7 27) "Text_IO") [] (at 7 34)) ∷
    context.With (at 7 36) (selected (at 7 41) "Ada" (at 7 44) (at 7 45) "Integer_Text_IO") [] (at 7 60) ∷ use_context
    (use_of (at 7 62) None (selected (at 7 66) "Ada" (at 7 69) (at 7 70) "Integer_Text_IO") [] (at 7 85)) ∷ context.With
    (at 7 87) (selected (at 7 92) "Ada" (at 7 95) (at 7 96) "Unchecked_Deallocation") [] (at 7 118) ∷ []) (subprogram_of
    (at 8 1) (subspec.Procedure (at 8 1) (id (at 8 11) "Main") None) None (at 8 16) (item.IncompleteType (at 9 1) (id
    (at 9 6) "Cell") (at 9 10) ∷ item.AccessType (at 10 1) (id (at 10 6) "List") (at 10 11) (at 10 14) (mark (at 10 21)
    "Cell") (at 10 25) ∷ item.RecordType (at 11 1) (id (at 11 6) "Cell") (at 11 11) (at 11 14) (fields_of (id (at 11 21)
    "Value") [] (at 11 27) (mark (at 11 29) "Integer") (at 11 36)) (fields_of (id (at 11 38) "Next") [] (at 11 43) (mark
    (at 11 45) "List") (at 11 49) ∷ []) (at 11 51) (at 11 55) (at 11 61) ∷ objects_of (id (at 12 1) "X") (next_id_of (at
    12 2) (at 12 4) "Y" ∷ []) (at 12 6) None (indication_of (mark (at 12 8) "List")) (at 12 12) ∷ initialized_of (id (at
    13 1) "N") [] (at 13 3) None (indication_of (mark (at 13 5) "Integer")) (at 13 13) (expr_of (at 13 16)
    (primary.Number (at 13 16) 5)) (at 13 17) ∷ []) (at 14 1) (stmts.Sequence (at 15 1) (stmt.If (at 15 1)
    (expr.LoneRelation (at 15 4) (rel.LoneSum (at 15 4) (sum.Unsigned (at 15 4) (term.Product (at 15 4) (factor.Not (at
    15 4) (object (at 15 8) "End_Of_File")) []) []))) (at 15 20) (sole (at 15 25) (call_of (at 15 25) "Get"
    (suffix.Applied (at 15 29) (actual_of (at 15 30) (object (at 15 30) "N")) [] (at 15 31) ∷ []) (at 15 32))) [] (at 15
    34) (at 15 38) (at 15 40)) (stmt.While (at 16 1) (expr.LoneRelation (at 16 7) (rel.Compared (at 16 7) (sum_of (at 16
    7) (object (at 16 7) "N")) relational.Greater (at 16 9) (sum_of (at 16 11) (primary.Number (at 16 11) 5)))) (at 16
    13) (sole (at 16 18) (assign_of (at 16 18) "N" [] (at 16 20) (expr.LoneRelation (at 16 23) (rel.LoneSum (at 16 23)
    (sum.Unsigned (at 16 23) (term.Product (at 16 23) (factor_of (at 16 23) (object (at 16 23) "N"))
    (next_factor.FurtherFactor (at 16 25) multiplying.Divide (factor_of (at 16 27) (primary.Number (at 16 27) 2)) ∷ []))
    []))) (at 16 28))) (at 16 30) (at 16 34) (at 16 38) ∷ [])) (at 17 1) (Some (id (at 17 5) "Main")) (at 17 9)) ∷ []) ∷
    [])
unfolding computes resolves
two_in_use_4 = refl
