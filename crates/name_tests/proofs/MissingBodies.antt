-- A declaration lacks its completion: N5.
--
-- tools/tree_terms.py makes this of the sources that data/cases.txt has under its name.
use Rattle.std.proofs.Common.{refl, [], ◌∷◌}
use Rattle.std.specs.Prelude.{None, Some, codes}
use Rattle.ada_tree.specs.declared.operator.AddingOperator.TheVariants as adding
use Rattle.ada_tree.specs.declared.expression.Aggregate.TheVariants as aggregate
use Rattle.ada_tree.specs.declared.statement.When.TheVariants as alternative
use Rattle.ada_tree.specs.declared.range.Choice.TheVariants as choice
use Rattle.ada_tree.specs.declared.unit.Context.TheVariants as context
use Rattle.ada_tree.specs.declared.subprogram.Decl.TheVariants as decl
use Rattle.ada_tree.specs.declared.expression.Expr.TheVariants as expr
use Rattle.ada_tree.specs.declared.expression.Factor.TheVariants as factor
use Rattle.ada_tree.specs.declared.declaration.Indication.TheVariants as indication
use Rattle.ada_tree.specs.declared.declaration.Item.TheVariants as item
use Rattle.ada_tree.specs.declared.operator.MultiplyingOperator.TheVariants as multiplying
use Rattle.ada_tree.specs.declared.expression.NextArg.TheVariants as next_arg
use Rattle.ada_tree.specs.declared.expression.NextFactor.TheVariants as next_factor
use Rattle.ada_tree.specs.declared.subprogram.NextFormal.TheVariants as next_formal
use Rattle.ada_tree.specs.declared.expression.NextTerm.TheVariants as next_term
use Rattle.ada_tree.specs.declared.unit.BodyPart.TheVariants as part
use Rattle.ada_tree.specs.declared.expression.Primary.TheVariants as primary
use Rattle.ada_tree.specs.declared.range.Range.TheVariants as range
use Rattle.ada_tree.specs.declared.expression.Rel.TheVariants as rel
use Rattle.ada_tree.specs.declared.operator.RelationalOperator.TheVariants as relational
use Rattle.ada_tree.specs.declared.operator.Sign.TheVariants as sign
use Rattle.ada_tree.specs.declared.statement.Stmt.TheVariants as stmt
use Rattle.ada_tree.specs.declared.statement.Stmts.TheVariants as stmts
use Rattle.ada_tree.specs.declared.subprogram.Subspec.TheVariants as subspec
use Rattle.ada_tree.specs.declared.expression.Suffix.TheVariants as suffix
use Rattle.ada_tree.specs.declared.expression.Sum.TheVariants as sum
use Rattle.ada_tree.specs.declared.expression.Term.TheVariants as term
use Rattle.ada_tree.specs.declared.unit.SourceUnit.TheVariants as unit
use Rattle.ada_grammar.proofs.SmallSources.{computes}
use Rattle.name_events.specs.declared.declaration.NameRule.TheVariants.{NoBody}
use Rattle.name_tests.proofs.SmallRules.{resolves}
use Rattle.name_tests.proofs.SourceTrees.{IsFirstBrokenOf, actual_of, assign_of, at, at1, call_of, expr_of, factor_of, fields_of, formals_of, id, indication_of, initialized_of, mark, moded_of, named, next_id_of, object, objects_of, package_body_of, package_of, private_part, selected, sole, subprogram_of, sum_of, term_of, use_context, use_of}

-- Small sources: types and a package body.
small_n5_1 : IsFirstBrokenOf NoBody (at 1 24) ((unit.OfSubprogram (at 1 1) [] (subprogram_of (at 1 1) (subspec.Procedure
    (at 1 1) (id (at 1 11) "Main") None) None (at 1 16) (item.IncompleteType (at 1 19) (id (at 1 24) "T") (at 1 25) ∷
    item.AccessType (at 1 27) (id (at 1 32) "P") (at 1 34) (at 1 37) (mark (at 1 44) "T") (at 1 45) ∷ []) (at 1 47)
    (sole (at 1 53) (stmt.Null (at 1 53) (at 1 57))) (at 1 59) (Some (id (at 1 63) "Main")) (at 1 67)) ∷ []) ∷ [])
unfolding computes resolves
small_n5_1 = refl

small_n5_4 : IsFirstBrokenOf NoBody (at 1 19) ((unit.OfPackage (at 1 1) [] (package_of (at 1 1) (id (at 1 9) "P") None
    (at 1 11) (decl.OfItem (at 1 14) (item.PrivateType (at 1 14) (id (at 1 19) "T") (at 1 21) (at 1 24) (at 1 31)) ∷ [])
    None (at 1 33) (Some (id (at 1 37) "P")) (at 1 38)) ∷ []) ∷ [])
unfolding computes resolves
small_n5_4 = refl

small_n5_5 : IsFirstBrokenOf NoBody (at 1 14) ((unit.OfBody (at 1 1) [] (package_body_of (at 1 1) (at 1 9) (id (at 1 14)
    "P") None (at 1 16) [] (at 1 19) (Some (id (at 1 23) "P")) (at 1 24)) ∷ []) ∷ [])
unfolding computes resolves
small_n5_5 = refl

-- A subprogram has no body.
no_body_1 : IsFirstBrokenOf NoBody (at 24 29) ((unit.OfSubprogram (at 1 1) (context.With (at 1 1) (selected (at 1 6)
    "Ada" (at 1 9) (at 1 10) "Text_IO") [] (at 1 17) ∷ use_context (use_of (at 1 19) None (selected (at 1 23) "Ada" (at
    1 26) (at 1 27) "Text_IO") [] (at 1 34)) ∷ context.With (at 2 1) (selected (at 2 6) "Ada" (at 2 9) (at 2 10)
    "Integer_Text_IO") [] (at 2 25) ∷ use_context (use_of (at 2 27) None (selected (at 2 31) "Ada" (at 2 34) (at 2 35)
    "Integer_Text_IO") [] (at 2 50)) ∷ context.With (at 3 1) (selected (at 3 6) "Ada" (at 3 9) (at 3 10)
    "Unchecked_Deallocation") [] (at 3 32) ∷ []) (subprogram_of (at 4 1) (subspec.Procedure (at 4 1) (id (at 4 11)
    "Main") None) None (at 4 16) (item.AccessType (at 5 1) (id (at 5 6) "P1") (at 5 9) (at 5 12) (mark (at 5 19)
    "Integer") (at 5 26) ∷ item.Instance (at 6 1) (id (at 6 11) "Free1") (at 6 17) (at 6 20) (selected (at 6 24) "Ada"
    (at 6 27) (at 6 28) "Unchecked_Deallocation") (at 6 51) (actual_of (at 6 52) (object (at 6 52) "Integer"))
    (next_arg.FurtherArg (at 6 59) (actual_of (at 6 61) (object (at 6 61) "P1")) ∷ []) (at 6 63) (at 6 64) ∷ objects_of
    (id (at 7 1) "V1") [] (at 7 4) None (indication_of (mark (at 7 6) "Integer")) (at 7 13) ∷ objects_of (id (at 8 1)
    "V2") [] (at 8 4) None (indication_of (mark (at 8 6) "P1")) (at 8 8) ∷ initialized_of (id (at 9 1) "V3") [] (at 9 4)
    None (indication_of (mark (at 9 6) "P1")) (at 9 9) (expr_of (at 9 12) (primary.AllocatedValue (at 9 12) (mark (at 9
    16) "Integer") (at 9 23) (at 9 24) (expr_of (at 9 25) (object (at 9 25) "V1")) (at 9 27))) (at 9 28) ∷ objects_of
    (id (at 10 1) "T1") [] (at 10 4) None (indication_of (mark (at 10 6) "Integer")) (at 10 13) ∷ []) (at 11 1)
    (stmts.Sequence (at 12 1) (call_of (at 12 1) "Put_Line" (suffix.Applied (at 12 10) (actual_of (at 12 11) (named (at
    12 11) "Integer" (suffix.Attribute (at 12 18) (id (at 12 19) "Image") ∷ suffix.Applied (at 12 25) (actual_of (at 12
    26) (named (at 12 26) "Positive" (suffix.Attribute (at 12 34) (id (at 12 35) "First") ∷ []))) [] (at 12 40) ∷ [])))
    [] (at 12 41) ∷ []) (at 12 42)) (assign_of (at 13 1) "V1" [] (at 13 4) (expr_of (at 13 7) (object (at 13 7) "V1"))
    (at 13 9) ∷ call_of (at 14 1) "Put" (suffix.Applied (at 14 5) (actual_of (at 14 6) (primary.Text (at 14 6) (codes
    "\"end\""))) [] (at 14 11) ∷ []) (at 14 12) ∷ assign_of (at 15 1) "V2" [] (at 15 4) (expr_of (at 15 7) (object (at
    15 7) "V3")) (at 15 9) ∷ assign_of (at 16 1) "V1" [] (at 16 4) (expr_of (at 16 7) (primary.Number (at 16 7) 32)) (at
    16 9) ∷ stmt.DeclareBlock (at 17 1) (initialized_of (id (at 18 1) "B1") [] (at 18 4) None (indication.Anonymous (at
    18 6) None (mark (at 18 13) "Integer")) (at 18 21) (expr_of (at 18 24) (object (at 18 24) "V2")) (at 18 26) ∷ [])
    (at 19 1) (sole (at 20 1) (assign_of (at 20 1) "V1" [] (at 20 4) (expr_of (at 20 7) (object (at 20 7) "T1")) (at 20
    9))) (at 21 1) (at 21 4) ∷ assign_of (at 22 1) "V2" [] (at 22 4) (expr_of (at 22 7) (object (at 22 7) "V2")) (at 22
    9) ∷ [])) (at 23 1) (Some (id (at 23 5) "Main")) (at 23 9)) ∷ unit.OfPackage (at 24 1) [] (package_of (at 24 1) (id
    (at 24 9) "Plain_P") None (at 24 17) (decl.Subprogram (at 24 20) (subspec.Function (at 24 20) (id (at 24 29)
    "Plain_F") (Some (formals_of (at 24 37) (moded_of (id (at 24 38) "Plain_X") [] (at 24 46) None None (mark (at 24 48)
    "Integer")) [] (at 24 55))) (at 24 57) (indication_of (mark (at 24 64) "Integer"))) None (at 24 71) ∷ []) None (at
    24 73) (Some (id (at 24 77) "Plain_P")) (at 24 84)) ∷ []) ∷ [])
unfolding computes resolves
no_body_1 = refl

no_body_2 : IsFirstBrokenOf NoBody (at1 1 31) ((unit.OfSubprogram (at 1 1) (context.With (at 1 1) (selected (at 1 6)
    "Ada" (at 1 9) (at 1 10) "Text_IO") [] (at 1 17) ∷ use_context (use_of (at 1 19) None (selected (at 1 23) "ADA" (at
    1 26) (at 1 27) "Text_IO") [] (at 1 34)) ∷ context.With (at 1 36) (selected (at 1 41) "Ada" (at 1 44) (at 1 45)
    "Integer_Text_IO") [] (at 1 60) ∷ use_context (use_of (at 1 62) None (selected (at 1 66) "Ada" (at 1 69) (at 1 70)
    "Integer_Text_IO") [] (at 1 85)) ∷ context.With (at 1 87) (selected (at 1 92) "Ada" (at 1 95) (at 1 96)
    "UNCHECKED_DEALLOCATION") [] (at 1 118) ∷ []) (subprogram_of (at 2 1) (subspec.Procedure (at 2 1) (id (at 2 11)
    "Main") None) None (at 2 16) (item.IncompleteType (at 3 1) (id (at 3 6) "cell") (at 3 10) ∷ item.AccessType (at 4 1)
    (id (at 4 6) "List") (at 4 11) (at 4 14) (mark (at 4 21) "Cell") (at 4 25) ∷ item.RecordType (at 5 1) (id (at 5 6)
    "cell") (at 5 11) (at 5 14) (fields_of (id (at 5 21) "vALUE") [] (at 5 27) (mark (at 5 29) "Integer") (at 5 36))
    (fields_of (id (at 5 38) "Next") [] (at 5 43) (mark (at 5 45) "List") (at 5 49) ∷ []) (at 5 51) (at 5 55) (at 5 61)
    ∷ objects_of (id (at 5 63) "x") (next_id_of (at 5 64) (at 5 66) "Y" ∷ []) (at 5 68) None (indication_of (mark (at 5
    70) "List")) (at 5 74) ∷ initialized_of (id (at 5 76) "N") [] (at 5 78) None (indication_of (mark (at 5 80)
    "Integer")) (at 5 88) (expr_of (at 5 91) (primary.Number (at 5 91) 3)) (at 5 92) ∷ item.Instance (at 6 1) (id (at 6
    11) "Free") (at 6 16) (at 6 19) (selected (at 6 23) "Ada" (at 6 26) (at 6 27) "Unchecked_Deallocation") (at 6 50)
    (actual_of (at 6 51) (object (at 6 51) "Cell")) (next_arg.FurtherArg (at 6 55) (actual_of (at 6 57) (object (at 6
    57) "List")) ∷ []) (at 6 61) (at 6 62) ∷ []) (at 6 64) (stmts.Sequence (at 6 70) (call_of (at 6 70) "Put_Line"
    (suffix.Applied (at 6 79) (actual_of (at 6 80) (named (at 6 80) "Integer" (suffix.Attribute (at 6 87) (id (at 6 88)
    "Image") ∷ suffix.Applied (at 6 94) (actual_of (at 6 95) (object (at 6 95) "N")) [] (at 6 96) ∷ []))) [] (at 6 97) ∷
    []) (at 6 98)) (assign_of (at 7 1) "N" [] (at 7 3) (expr.LoneRelation (at 7 6) (rel.LoneSum (at 7 6) (sum.Unsigned
    (at 7 6) (term.Product (at 7 6) (factor_of (at 7 6) (object (at 7 6) "N")) (next_factor.FurtherFactor (at 7 8)
    multiplying.Multiply (factor_of (at 7 10) (primary.Number (at 7 10) 2)) ∷ [])) (next_term.FurtherTerm (at 7 12)
    adding.Add (term_of (at 7 14) (primary.Number (at 7 14) 1)) ∷ [])))) (at 7 15) ∷ stmt.DeclareBlock (at 8 1)
    (initialized_of (id (at 8 9) "B") [] (at 8 11) None (indication.Anonymous (at 8 13) None (mark (at 8 20) "Cell"))
    (at 8 25) (expr_of (at 8 28) (object (at 8 28) "X")) (at 8 29) ∷ []) (at 8 31) (sole (at 8 37) (stmt.If (at 8 37)
    (expr.LoneRelation (at 8 40) (rel.Compared (at 8 40) (sum_of (at 8 40) (object (at 8 40) "B")) relational.NotEqual
    (at 8 42) (sum_of (at 8 45) (primary.Null (at 8 45))))) (at 8 50) (sole (at 8 55) (assign_of (at 8 55) "b"
    (suffix.Selected (at 8 56) (id (at 8 57) "Value") ∷ []) (at 8 63) (expr_of (at 8 66) (object (at 8 66) "N")) (at 8
    67))) [] (at 8 69) (at 8 73) (at 8 75))) (at 8 77) (at 8 80) ∷ stmt.While (at 9 1) (expr.LoneRelation (at 9 7)
    (rel.Compared (at 9 7) (sum_of (at 9 7) (object (at 9 7) "N")) relational.Greater (at 9 9) (sum_of (at 9 11)
    (primary.Number (at 9 11) 5)))) (at 9 13) (sole (at 9 18) (assign_of (at 9 18) "N" [] (at 9 20) (expr.LoneRelation
    (at 9 23) (rel.LoneSum (at 9 23) (sum.Unsigned (at 9 23) (term.Product (at 9 23) (factor_of (at 9 23) (object (at 9
    23) "N")) (next_factor.FurtherFactor (at 9 25) multiplying.Divide (factor_of (at 9 27) (primary.Number (at 9 27) 2))
    ∷ [])) []))) (at 9 28))) (at 9 30) (at 9 34) (at 9 38) ∷ [])) (at 10 1) (Some (id (at 10 5) "Main")) (at 10 9)) ∷
    []) ∷ (unit.OfPackage (at1 1 1) [] (package_of (at1 1 1) (id (at1 1 9) "Second_P") None (at1 1 18) (decl.Subprogram
    (at1 1 21) (subspec.Procedure (at1 1 21) (id (at1 1 31) "Second_Q") None) None (at1 1 39) ∷ []) None (at1 1 41)
    (Some (id (at1 1 45) "Second_P")) (at1 1 53)) ∷ []) ∷ [])
unfolding computes resolves
no_body_2 = refl

no_body_3 : IsFirstBrokenOf NoBody (at 2 11) ((unit.OfPackage (at 1 1) (context.With (at 1 1) (selected (at 1 6) "Ada"
    (at 1 9) (at 1 10) "text_io") [] (at 1 17) ∷ use_context (use_of (at 1 19) None (selected (at 1 23) "Ada" (at 1 26)
    (at 1 27) "Text_IO") [] (at 1 34)) ∷ context.With (at 1 36) (selected (at 1 41) "aDA" (at 1 44) (at 1 45)
    "INTEGER_TEXT_IO") [] (at 1 60) ∷ use_context (use_of (at 1 62) None (selected (at 1 66) "Ada" (at 1 69) (at 1 70)
    "Integer_Text_IO") [] (at 1 85)) ∷ context.With (at 1 87) (selected (at 1 92) "Ada" (at 1 95) (at 1 96)
    "Unchecked_Deallocation") [] (at 1 118) ∷ []) (package_of (at 1 120) (id (at 1 128) "EXTRA_P") None (at 1 136)
    (decl.Subprogram (at 2 1) (subspec.Procedure (at 2 1) (id (at 2 11) "Extra_Q") None) None (at 2 18) ∷
    decl.Subprogram (at 2 20) (subspec.Procedure (at 2 20) (id (at 2 30) "eXTRA_r") None) None (at 2 37) ∷ []) None (at
    3 1) (Some (id (at 3 5) "Extra_P")) (at 3 12)) ∷ unit.OfBody (at 4 1) [] (package_body_of (at 4 1) (at 4 9) (id (at
    4 14) "Extra_P") None (at 4 22) (part.Completed (at 5 1) (subprogram_of (at 5 1) (subspec.Procedure (at 5 1) (id (at
    5 11) "Extra_R") None) None (at 5 19) [] (at 5 22) (sole (at 5 28) (stmt.Null (at 5 28) (at 5 32))) (at 5 34) (Some
    (id (at 5 38) "Extra_R")) (at 5 45)) ∷ []) (at 6 1) (Some (id (at 6 5) "Extra_P")) (at 6 12)) ∷ []) ∷
    (unit.OfSubprogram (at1 1 1) (context.With (at1 1 1) (selected (at1 1 6) "aDA" (at1 1 9) (at1 1 10) "Text_IO") []
    (at1 1 17) ∷ use_context (use_of (at1 1 19) None (selected (at1 1 23) "ADA" (at1 1 26) (at1 1 27) "Text_IO") [] (at1
    1 34)) ∷ context.With (at1 1 36) (selected (at1 1 41) "Ada" (at1 1 44) (at1 1 45) "Integer_Text_IO") [] (at1 1 60) ∷
    use_context (use_of (at1 1 62) None (selected (at1 1 66) "Ada" (at1 1 69) (at1 1 70) "Integer_Text_IO") [] (at1 1
    85)) ∷ context.With (at1 1 87) (selected (at1 1 92) "Ada" (at1 1 95) (at1 1 96) "Unchecked_Deallocation") [] (at1 1
    118) ∷ []) (subprogram_of (at1 2 1) (subspec.Procedure (at1 2 1) (id (at1 2 11) "MAIN") None) None (at1 2 16)
    (item.IncompleteType (at1 3 1) (id (at1 3 6) "Cell") (at1 3 10) ∷ item.AccessType (at1 4 1) (id (at1 4 6) "LIST")
    (at1 4 11) (at1 4 14) (mark (at1 4 21) "Cell") (at1 4 25) ∷ item.RecordType (at1 5 1) (id (at1 5 6) "Cell") (at1 5
    11) (at1 5 14) (fields_of (id (at1 5 21) "Value") [] (at1 5 27) (mark (at1 5 29) "Integer") (at1 5 36)) (fields_of
    (id (at1 5 38) "Next") [] (at1 5 43) (mark (at1 5 45) "List") (at1 5 49) ∷ []) (at1 5 51) (at1 5 55) (at1 5 61) ∷
    objects_of (id (at1 6 1) "X") (next_id_of (at1 6 2) (at1 6 4) "Y" ∷ []) (at1 6 6) None (indication_of (mark (at1 6
    8) "List")) (at1 6 12) ∷ initialized_of (id (at1 7 1) "N") [] (at1 7 3) None (indication_of (mark (at1 7 5)
    "iNTEGER")) (at1 7 13) (expr_of (at1 7 16) (primary.Number (at1 7 16) 6)) (at1 7 17) ∷ item.Instance (at1 8 1) (id
    (at1 8 11) "Free") (at1 8 16) (at1 8 19) (selected (at1 8 23) "Ada" (at1 8 26) (at1 8 27) "Unchecked_Deallocation")
    (at1 8 50) (actual_of (at1 8 51) (object (at1 8 51) "Cell")) (next_arg.FurtherArg (at1 8 55) (actual_of (at1 8 57)
    (object (at1 8 57) "LIST")) ∷ []) (at1 8 61) (at1 8 62) ∷ []) (at1 9 1) (stmts.Sequence (at1 10 1) (assign_of (at1
    10 1) "X" [] (at1 10 3) (expr_of (at1 10 6) (primary.AllocatedAggregate (at1 10 6) (mark (at1 10 10) "cELL") (at1 10
    14) (aggregate.Several (at1 10 15) (actual_of (at1 10 16) (object (at1 10 16) "N")) (at1 10 17) (actual_of (at1 10
    19) (primary.Null (at1 10 19))) [] (at1 10 23)))) (at1 10 24)) (assign_of (at1 11 1) "Y" [] (at1 11 3) (expr_of (at1
    11 6) (object (at1 11 6) "x")) (at1 11 7) ∷ assign_of (at1 11 9) "X" [] (at1 11 11) (expr_of (at1 11 14)
    (primary.Null (at1 11 14))) (at1 11 18) ∷ stmt.Case (at1 12 1) (expr_of (at1 12 6) (object (at1 12 6) "N")) (at1 12
    8) (alternative.Alternative (at1 12 11) (choice.Value (at1 12 16) (expr_of (at1 12 16) (primary.Number (at1 12 16)
    1))) [] (at1 12 18) (sole (at1 12 21) (stmt.Null (at1 12 21) (at1 12 25)))) (alternative.Alternative (at1 12 27)
    (choice.Others (at1 12 32)) [] (at1 12 39) (sole (at1 12 42) (assign_of (at1 12 42) "N" [] (at1 12 44) (expr_of (at1
    12 47) (primary.Number (at1 12 47) 2)) (at1 12 48))) ∷ []) (at1 12 50) (at1 12 54) (at1 12 58) ∷ [])) (at1 13 1)
    (Some (id (at1 13 5) "Main")) (at1 13 9)) ∷ []) ∷ [])
unfolding computes resolves
no_body_3 = refl

no_body_4 : IsFirstBrokenOf NoBody (at 18 11) ((unit.OfSubprogram (at 1 1) (context.With (at 1 1) (selected (at 1 6)
    "Ada" (at 1 9) (at 1 10) "Text_IO") [] (at 1 17) ∷ use_context (use_of (at 1 19) None (selected (at 1 23) "Ada" (at
    1 26) (at 1 27) "Text_IO") [] (at 1 34)) ∷ context.With (at 1 36) (selected (at 1 41) "Ada" (at 1 44) (at 1 45)
    "Integer_Text_IO") [] (at 1 60) ∷ use_context (use_of (at 1 62) None (selected (at 1 66) "Ada" (at 1 69) (at 1 70)
    "Integer_Text_IO") [] (at 1 85)) ∷ context.With (at 1 87) (selected (at 1 92) "Ada" (at 1 95) (at 1 96)
    "Unchecked_Deallocation") [] (at 1 118) ∷ []) (subprogram_of (at 2 1) (subspec.Procedure (at 2 1) (id (at 2 11)
    "Main") None) None (at 2 16) (item.IncompleteType (at 3 7) (id (at 3 12) "Cell") (at 3 16) ∷ item.AccessType (at 4
    7) (id (at 4 12) "List") (at 4 17) (at 4 20) (mark (at 4 27) "Cell") (at 4 31) ∷ item.RecordType (at 5 4) (id (at 5
    9) "Cell") (at 5 14) (at 5 17) (fields_of (id (at 5 24) "Value") [] (at 5 30) (mark (at 5 32) "Integer") (at 5 39))
    (fields_of (id (at 5 41) "Next") [] (at 5 46) (mark (at 5 48) "List") (at 5 52) ∷ []) (at 5 54) (at 5 58) (at 5 64)
    ∷ objects_of (id (at 6 4) "X") (next_id_of (at 6 5) (at 6 7) "Y" ∷ []) (at 6 9) None (indication_of (mark (at 6 11)
    "List")) (at 6 15) ∷ initialized_of (id (at 7 4) "N") [] (at 7 6) None (indication_of (mark (at 7 8) "Integer")) (at
    7 16) (expr_of (at 7 19) (primary.Number (at 7 19) 5)) (at 7 20) ∷ []) (at 8 7) (stmts.Sequence (at 9 1) (assign_of
    (at 9 1) "X" [] (at 9 3) (expr_of (at 9 6) (primary.AllocatedAggregate (at 9 6) (mark (at 9 10) "Cell") (at 9 14)
    (aggregate.Several (at 9 15) (actual_of (at 9 16) (object (at 9 16) "N")) (at 9 17) (actual_of (at 9 19)
    (primary.Null (at 9 19))) [] (at 9 23)))) (at 9 24)) (stmt.Case (at 10 4) (expr_of (at 10 9) (object (at 10 9) "N"))
    (at 10 11) (alternative.Alternative (at 10 14) (choice.Value (at 10 19) (expr_of (at 10 19) (primary.Number (at 10
    19) 1))) [] (at 10 21) (sole (at 10 24) (stmt.Null (at 10 24) (at 10 28)))) (alternative.Alternative (at 10 30)
    (choice.Others (at 10 35)) [] (at 10 42) (sole (at 10 45) (assign_of (at 10 45) "N" [] (at 10 47) (expr_of (at 10
    50) (primary.Number (at 10 50) 2)) (at 10 51))) ∷ []) (at 10 53) (at 10 57) (at 10 61) ∷ stmt.DeclareBlock (at 11 4)
    (initialized_of (id (at 11 12) "B") [] (at 11 14) None (indication.Anonymous (at 11 16) None (mark (at 11 23)
    "Cell")) (at 11 28) (expr_of (at 11 31) (object (at 11 31) "X")) (at 11 32) ∷ []) (at 11 34) (sole (at 11 40)
    (stmt.If (at 11 40) (expr.LoneRelation (at 11 43) (rel.Compared (at 11 43) (sum_of (at 11 43) (object (at 11 43)
    "B")) relational.NotEqual (at 11 45) (sum_of (at 11 48) (primary.Null (at 11 48))))) (at 11 53) (sole (at 11 58)
    (assign_of (at 11 58) "B" (suffix.Selected (at 11 59) (id (at 11 60) "Value") ∷ []) (at 11 66) (expr_of (at 11 69)
    (object (at 11 69) "N")) (at 11 70))) [] (at 11 72) (at 11 76) (at 11 78))) (at 11 80) (at 11 83) ∷ stmt.If (at 12
    4) (expr.LoneRelation (at 12 7) (rel.LoneSum (at 12 7) (sum.Unsigned (at 12 7) (term.Product (at 12 7) (factor.Not
    (at 12 7) (object (at 12 11) "End_Of_File")) []) []))) (at 12 23) (sole (at 12 28) (call_of (at 12 28) "Get"
    (suffix.Applied (at 12 32) (actual_of (at 12 33) (object (at 12 33) "N")) [] (at 12 34) ∷ []) (at 12 35))) [] (at 12
    37) (at 12 41) (at 12 43) ∷ [])) (at 13 7) (Some (id (at 13 11) "Main")) (at 13 15)) ∷ unit.OfPackage (at 14 7)
    (context.With (at 14 7) (selected (at 14 12) "Ada" (at 14 15) (at 14 16) "Text_IO") [] (at 14 23) ∷ use_context
    (use_of (at 14 25) None (selected (at 14 29) "Ada" (at 14 32) (at 14 33) "Text_IO") [] (at 14 40)) ∷ context.With
    (at 14 42) (selected (at 14 47) "Ada" (at 14 50) (at 14 51) "Integer_Text_IO") [] (at 14 66) ∷ use_context (use_of
    (at 14 68) None (selected (at 14 72) "Ada" (at 14 75) (at 14 76) "Integer_Text_IO") [] (at 14 91)) ∷ context.With
    (at 14 93) (selected (at 14 98) "Ada" (at 14 101) (at 14 102) "Unchecked_Deallocation") [] (at 14 124) ∷ [])
    (package_of (at 14 126) (id (at 14 134) "Former_P") None (at 14 143) (decl.Subprogram (at 15 4) (subspec.Procedure
    (at 15 4) (id (at 15 14) "Former_Q") None) None (at 15 22) ∷ []) None (at 16 7) (Some (id (at 16 11) "Former_P"))
    (at 16 19)) ∷ unit.OfBody (at 17 7) [] (package_body_of (at 17 7) (at 17 15) (id (at 17 20) "Former_P") None (at 17
    29) (part.Declared (at 18 1) (decl.Subprogram (at 18 1) (subspec.Procedure (at 18 1) (id (at 18 11) "Former_R")
    None) None (at 18 19)) ∷ part.Completed (at 18 21) (subprogram_of (at 18 21) (subspec.Procedure (at 18 21) (id (at
    18 31) "Former_Q") None) None (at 18 40) [] (at 18 43) (sole (at 18 49) (call_of (at 18 49) "Former_R" [] (at 18
    57))) (at 18 59) (Some (id (at 18 63) "Former_Q")) (at 18 71)) ∷ []) (at 19 7) (Some (id (at 19 11) "Former_P")) (at
    19 19)) ∷ []) ∷ [])
unfolding computes resolves
no_body_4 = refl

no_body_5 : IsFirstBrokenOf NoBody (at 1 57) ((unit.OfPackage (at 1 1) [] (package_of (at 1 1) (id (at 1 9) "Usual_P")
    None (at 1 17) (decl.OfItem (at 1 20) (objects_of (id (at 1 20) "Usual_X") [] (at 1 28) None (indication_of (mark
    (at 1 30) "Integer")) (at 1 37)) ∷ []) (Some (private_part (at 1 39) (decl.Subprogram (at 1 47) (subspec.Procedure
    (at 1 47) (id (at 1 57) "Usual_Q") None) None (at 1 64) ∷ []))) (at 1 66) (Some (id (at 1 70) "Usual_P")) (at 1 77))
    ∷ unit.OfBody (at 2 1) [] (package_body_of (at 2 1) (at 2 9) (id (at 2 14) "Usual_P") None (at 2 22) (part.Declared
    (at 2 25) (decl.OfItem (at 2 25) (objects_of (id (at 2 25) "Usual_Y") [] (at 2 33) None (indication_of (mark (at 2
    35) "Integer")) (at 2 42))) ∷ []) (at 2 44) (Some (id (at 2 48) "Usual_P")) (at 2 55)) ∷ unit.OfPackage (at 3 1)
    (context.With (at 3 1) (selected (at 3 6) "Ada" (at 3 9) (at 3 10) "Text_IO") [] (at 3 17) ∷ use_context (use_of (at
    3 19) None (selected (at 3 23) "Ada" (at 3 26) (at 3 27) "Text_IO") [] (at 3 34)) ∷ context.With (at 3 36) (selected
    (at 3 41) "Ada" (at 3 44) (at 3 45) "Integer_Text_IO") [] (at 3 60) ∷ use_context (use_of (at 3 62) None (selected
    (at 3 66) "Ada" (at 3 69) (at 3 70) "Integer_Text_IO") [] (at 3 85)) ∷ context.With (at 3 87) (selected (at 3 92)
    "Ada" (at 3 95) (at 3 96) "Unchecked_Deallocation") [] (at 3 118) ∷ []) (package_of (at 4 1) (id (at 4 9) "Store")
    None (at 4 15) (decl.OfItem (at 5 1) (item.IncompleteType (at 5 1) (id (at 5 6) "Cell") (at 5 10)) ∷ decl.OfItem (at
    6 1) (item.AccessType (at 6 1) (id (at 6 6) "List") (at 6 11) (at 6 14) (mark (at 6 21) "Cell") (at 6 25)) ∷
    decl.OfItem (at 7 1) (item.RecordType (at 7 1) (id (at 7 6) "Cell") (at 7 11) (at 7 14) (fields_of (id (at 7 21)
    "Value") [] (at 7 27) (mark (at 7 29) "Integer") (at 7 36)) (fields_of (id (at 7 38) "Next") [] (at 7 43) (mark (at
    7 45) "List") (at 7 49) ∷ []) (at 7 51) (at 7 55) (at 7 61)) ∷ decl.Subprogram (at 8 1) (subspec.Procedure (at 8 1)
    (id (at 8 11) "Push") (Some (formals_of (at 8 16) (moded_of (id (at 8 17) "L") [] (at 8 19) (Some (at 8 21)) (Some
    (at 8 24)) (mark (at 8 28) "List")) (next_formal.Semicolon (at 8 32) (moded_of (id (at 8 34) "V") [] (at 8 36) None
    None (mark (at 8 38) "Integer")) ∷ []) (at 8 45)))) None (at 8 46) ∷ decl.Subprogram (at 9 1) (subspec.Function (at
    9 1) (id (at 9 10) "Sum") (Some (formals_of (at 9 14) (moded_of (id (at 9 15) "L") [] (at 9 17) None None (mark (at
    9 19) "List")) [] (at 9 23))) (at 9 25) (indication_of (mark (at 9 32) "Integer"))) None (at 9 39) ∷ decl.OfItem (at
    10 1) (objects_of (id (at 10 1) "Total") [] (at 10 7) None (indication_of (mark (at 10 9) "Integer")) (at 10 16)) ∷
    []) None (at 11 1) (Some (id (at 11 5) "Store")) (at 11 10)) ∷ unit.OfBody (at 12 1) [] (package_body_of (at 12 1)
    (at 12 9) (id (at 12 14) "Store") None (at 12 20) (part.Completed (at 13 1) (subprogram_of (at 13 1)
    (subspec.Procedure (at 13 1) (id (at 13 11) "Push") (Some (formals_of (at 13 16) (moded_of (id (at 13 17) "L") []
    (at 13 19) (Some (at 13 21)) (Some (at 13 24)) (mark (at 13 28) "List")) (next_formal.Semicolon (at 13 32) (moded_of
    (id (at 13 34) "V") [] (at 13 36) None None (mark (at 13 38) "Integer")) ∷ []) (at 13 45)))) None (at 13 47) [] (at
    14 1) (sole (at 15 1) (assign_of (at 15 1) "L" [] (at 15 3) (expr_of (at 15 6) (primary.AllocatedAggregate (at 15 6)
    (mark (at 15 10) "Cell") (at 15 14) (aggregate.Several (at 15 15) (actual_of (at 15 16) (object (at 15 16) "V")) (at
    15 17) (actual_of (at 15 19) (object (at 15 19) "L")) [] (at 15 20)))) (at 15 21))) (at 16 1) (Some (id (at 16 5)
    "Push")) (at 16 9)) ∷ part.Completed (at 17 1) (subprogram_of (at 17 1) (subspec.Function (at 17 1) (id (at 17 10)
    "Sum") (Some (formals_of (at 17 14) (moded_of (id (at 17 15) "L") [] (at 17 17) None None (mark (at 17 19) "List"))
    [] (at 17 23))) (at 17 25) (indication_of (mark (at 17 32) "Integer"))) None (at 17 40) (initialized_of (id (at 18
    1) "C") [] (at 18 3) None (indication.Anonymous (at 18 5) (Some (at 18 12)) (mark (at 18 21) "Cell")) (at 18 26)
    (expr_of (at 18 29) (object (at 18 29) "L")) (at 18 30) ∷ initialized_of (id (at 19 1) "N") [] (at 19 3) None
    (indication_of (mark (at 19 5) "Integer")) (at 19 13) (expr_of (at 19 16) (primary.Number (at 19 16) 0)) (at 19 17)
    ∷ []) (at 20 1) (stmts.Sequence (at 21 1) (stmt.While (at 21 1) (expr.LoneRelation (at 21 7) (rel.Compared (at 21 7)
    (sum_of (at 21 7) (object (at 21 7) "C")) relational.NotEqual (at 21 9) (sum_of (at 21 12) (primary.Null (at 21
    12))))) (at 21 17) (stmts.Sequence (at 21 22) (assign_of (at 21 22) "N" [] (at 21 24) (expr.LoneRelation (at 21 27)
    (rel.LoneSum (at 21 27) (sum.Unsigned (at 21 27) (term_of (at 21 27) (object (at 21 27) "N")) (next_term.FurtherTerm
    (at 21 29) adding.Add (term_of (at 21 31) (named (at 21 31) "C" (suffix.Selected (at 21 32) (id (at 21 33) "Value")
    ∷ []))) ∷ [])))) (at 21 38)) (assign_of (at 21 40) "C" [] (at 21 42) (expr_of (at 21 45) (named (at 21 45) "C"
    (suffix.Selected (at 21 46) (id (at 21 47) "Next") ∷ []))) (at 21 51) ∷ [])) (at 21 53) (at 21 57) (at 21 61))
    (stmt.ReturnValue (at 22 1) (expr_of (at 22 8) (object (at 22 8) "N")) (at 22 9) ∷ [])) (at 23 1) (Some (id (at 23
    5) "Sum")) (at 23 8)) ∷ []) (at 24 1) (Some (id (at 24 5) "Store")) (at 24 10)) ∷ unit.OfSubprogram (at 25 1)
    (context.With (at 25 1) (selected (at 25 6) "Ada" (at 25 9) (at 25 10) "Text_IO") [] (at 25 17) ∷ use_context
    (use_of (at 25 19) None (selected (at 25 23) "Ada" (at 25 26) (at 25 27) "Text_IO") [] (at 25 34)) ∷ context.With
    (at 25 36) (selected (at 25 41) "Ada" (at 25 44) (at 25 45) "Integer_Text_IO") [] (at 25 60) ∷ use_context (use_of
    (at 25 62) None (selected (at 25 66) "Ada" (at 25 69) (at 25 70) "Integer_Text_IO") [] (at 25 85)) ∷ context.With
    (at 25 87) (selected (at 25 92) "Ada" (at 25 95) (at 25 96) "Unchecked_Deallocation") [] (at 25 118) ∷ context.With
    (at 25 120) (mark (at 25 125) "Store") [] (at 25 130) ∷ use_context (use_of (at 25 132) None (mark (at 25 136)
    "Store") [] (at 25 141)) ∷ []) (subprogram_of (at 26 1) (subspec.Procedure (at 26 1) (id (at 26 11) "Main") None)
    None (at 26 16) (objects_of (id (at 27 1) "X") (next_id_of (at 27 2) (at 27 4) "Y" ∷ []) (at 27 6) None
    (indication_of (mark (at 27 8) "List")) (at 27 12) ∷ initialized_of (id (at 28 1) "N") [] (at 28 3) None
    (indication_of (mark (at 28 5) "Integer")) (at 28 13) (expr_of (at 28 16) (primary.Number (at 28 16) 0)) (at 28 17)
    ∷ item.Instance (at 29 1) (id (at 29 11) "Free") (at 29 16) (at 29 19) (selected (at 29 23) "Ada" (at 29 26) (at 29
    27) "Unchecked_Deallocation") (at 29 50) (actual_of (at 29 51) (object (at 29 51) "Cell")) (next_arg.FurtherArg (at
    29 55) (actual_of (at 29 57) (object (at 29 57) "List")) ∷ []) (at 29 61) (at 29 62) ∷ []) (at 30 1) (stmts.Sequence
    (at 31 1) (assign_of (at 31 1) "Y" [] (at 31 3) (expr_of (at 31 6) (object (at 31 6) "X")) (at 31 7)) (assign_of (at
    31 9) "X" [] (at 31 11) (expr_of (at 31 14) (primary.Null (at 31 14))) (at 31 18) ∷ assign_of (at 32 1) "N" [] (at
    32 3) (expr_of (at 32 6) (named (at 32 6) "Sum" (suffix.Applied (at 32 10) (actual_of (at 32 11) (object (at 32 11)
    "Y")) [] (at 32 12) ∷ []))) (at 32 13) ∷ [])) (at 33 1) (Some (id (at 33 5) "Main")) (at 33 9)) ∷ []) ∷ [])
unfolding computes resolves
no_body_5 = refl

-- An incomplete or private type has no full type.
no_full_type_1 : IsFirstBrokenOf NoBody (at 7 24) ((unit.OfSubprogram (at 1 1) (context.With (at 1 1) (selected (at 1 6)
    "Ada" (at 1 9) (at 1 10) "Text_IO") [] (at 1 17) ∷ use_context (use_of (at 1 19) None (selected (at 1 23) "Ada" (at
    1 26) (at 1 27) "Text_IO") [] (at 1 34)) ∷ context.With (at 1 36) (selected (at 1 41) "Ada" (at 1 44) (at 1 45)
    "Integer_Text_IO") [] (at 1 60) ∷ use_context (use_of (at 1 62) None (selected (at 1 66) "Ada" (at 1 69) (at 1 70)
    "Integer_Text_IO") [] (at 1 85)) ∷ context.With (at 1 87) (selected (at 1 92) "Ada" (at 1 95) (at 1 96)
    "Unchecked_Deallocation") [] (at 1 118) ∷ []) (subprogram_of (at 2 1) (subspec.Procedure (at 2 1) (id (at 2 11)
    "Main") None) None (at 2 16) (item.IncompleteType (at 3 1) (id (at 3 6) "Cell") (at 3 10) ∷ item.AccessType (at 4 1)
    (id (at 4 6) "List") (at 4 11) (at 4 14) (mark (at 4 21) "Cell") (at 4 25) ∷ item.RecordType (at 5 1) (id (at 5 6)
    "Cell") (at 5 11) (at 5 14) (fields_of (id (at 5 21) "Value") [] (at 5 27) (mark (at 5 29) "Integer") (at 5 36))
    (fields_of (id (at 5 38) "Next") [] (at 5 43) (mark (at 5 45) "List") (at 5 49) ∷ []) (at 5 51) (at 5 55) (at 5 61)
    ∷ objects_of (id (at 6 1) "X") (next_id_of (at 6 2) (at 6 4) "Y" ∷ []) (at 6 6) None (indication_of (mark (at 6 8)
    "List")) (at 6 12) ∷ initialized_of (id (at 7 1) "N") [] (at 7 3) None (indication_of (mark (at 7 5) "Integer")) (at
    7 13) (expr_of (at 7 16) (primary.Number (at 7 16) 7)) (at 7 17) ∷ item.IncompleteType (at 7 19) (id (at 7 24)
    "Latest_T") (at 7 32) ∷ item.AccessType (at 7 34) (id (at 7 39) "Latest_P") (at 7 48) (at 7 51) (mark (at 7 58)
    "Latest_T") (at 7 66) ∷ []) (at 8 1) (stmts.Sequence (at 9 1) (call_of (at 9 1) "Put_Line" (suffix.Applied (at 9 10)
    (actual_of (at 9 11) (named (at 9 11) "Integer" (suffix.Attribute (at 9 18) (id (at 9 19) "Image") ∷ suffix.Applied
    (at 9 25) (actual_of (at 9 26) (object (at 9 26) "N")) [] (at 9 27) ∷ []))) [] (at 9 28) ∷ []) (at 9 29)) (stmt.For
    (at 10 1) (id (at 10 5) "I") (at 10 7) None (range.Bounds (at 10 10) (expr_of (at 10 10) (primary.Number (at 10 10)
    1)) (at 10 12) (expr_of (at 10 15) (primary.Number (at 10 15) 3))) (at 10 17) (sole (at 10 22) (assign_of (at 10 22)
    "N" [] (at 10 24) (expr.LoneRelation (at 10 27) (rel.LoneSum (at 10 27) (sum.Unsigned (at 10 27) (term_of (at 10 27)
    (object (at 10 27) "N")) (next_term.FurtherTerm (at 10 29) adding.Add (term_of (at 10 31) (object (at 10 31) "I")) ∷
    [])))) (at 10 32))) (at 10 34) (at 10 38) (at 10 42) ∷ [])) (at 11 1) (Some (id (at 11 5) "Main")) (at 11 9)) ∷ [])
    ∷ [])
unfolding computes resolves
no_full_type_1 = refl

no_full_type_2 : IsFirstBrokenOf NoBody (at 1 25) ((unit.OfPackage (at 1 1) [] (package_of (at 1 1) (id (at 1 9)
    "Inner_P") None (at 1 17) (decl.OfItem (at 1 20) (item.PrivateType (at 1 20) (id (at 1 25) "Inner_T") (at 1 33) (at
    1 36) (at 1 43)) ∷ []) (Some (private_part (at 1 45) (decl.OfItem (at 1 53) (objects_of (id (at 1 53) "Inner_X") []
    (at 1 61) None (indication_of (mark (at 1 63) "Integer")) (at 1 70)) ∷ []))) (at 1 72) (Some (id (at 1 76)
    "Inner_P")) (at 1 83)) ∷ unit.OfSubprogram (at 2 1) (context.With (at 2 1) (selected (at 2 6) "Ada" (at 2 9) (at 2
    10) "Text_IO") [] (at 2 17) ∷ use_context (use_of (at 2 19) None (selected (at 2 23) "Ada" (at 2 26) (at 2 27)
    "Text_IO") [] (at 2 34)) ∷ context.With (at 2 36) (selected (at 2 41) "Ada" (at 2 44) (at 2 45) "Integer_Text_IO")
    [] (at 2 60) ∷ use_context (use_of (at 2 62) None (selected (at 2 66) "Ada" (at 2 69) (at 2 70) "Integer_Text_IO")
    [] (at 2 85)) ∷ context.With (at 2 87) (selected (at 2 92) "Ada" (at 2 95) (at 2 96) "Unchecked_Deallocation") []
    (at 2 118) ∷ []) (subprogram_of (at 3 4) (subspec.Procedure (at 3 4) (id (at 3 14) "Main") None) None (at 3 19)
    (item.IncompleteType (at 4 4) (id (at 4 9) "Cell") (at 4 13) ∷ item.AccessType (at 5 1) (id (at 5 6) "List") (at 5
    11) (at 5 14) (mark (at 5 21) "Cell") (at 5 25) ∷ item.RecordType (at 6 4) (id (at 6 9) "Cell") (at 6 14) (at 6 17)
    (fields_of (id (at 6 24) "Value") [] (at 6 30) (mark (at 6 32) "Integer") (at 6 39)) (fields_of (id (at 6 41)
    "Next") [] (at 6 46) (mark (at 6 48) "List") (at 6 52) ∷ []) (at 6 54) (at 6 58) (at 6 64) ∷ objects_of (id (at 7 1)
    "X") (next_id_of (at 7 2) (at 7 4) "Y" ∷ []) (at 7 6) None (indication_of (mark (at 7 8) "List")) (at 7 12) ∷
    initialized_of (id (at 8 1) "N") [] (at 8 3) None (indication_of (mark (at 8 5) "Integer")) (at 8 13) (expr_of (at 8
    16) (primary.Number (at 8 16) 7)) (at 8 17) ∷ item.Instance (at 9 1) (id (at 9 11) "Free") (at 9 16) (at 9 19)
    (selected (at 9 23) "Ada" (at 9 26) (at 9 27) "Unchecked_Deallocation") (at 9 50) (actual_of (at 9 51) (object (at 9
    51) "Cell")) (next_arg.FurtherArg (at 9 55) (actual_of (at 9 57) (object (at 9 57) "List")) ∷ []) (at 9 61) (at 9
    62) ∷ []) (at 10 1) (stmts.Sequence (at 11 1) (assign_of (at 11 1) "N" [] (at 11 3) (expr.LoneRelation (at 11 6)
    (rel.LoneSum (at 11 6) (sum.Unsigned (at 11 6) (term.Product (at 11 6) (factor_of (at 11 6) (object (at 11 6) "N"))
    (next_factor.FurtherFactor (at 11 8) multiplying.Multiply (factor_of (at 11 10) (primary.Number (at 11 10) 2)) ∷
    [])) (next_term.FurtherTerm (at 11 12) adding.Add (term_of (at 11 14) (primary.Number (at 11 14) 1)) ∷ [])))) (at 11
    15)) (assign_of (at 12 1) "Y" [] (at 12 3) (expr_of (at 12 6) (object (at 12 6) "X")) (at 12 7) ∷ assign_of (at 12
    9) "X" [] (at 12 11) (expr_of (at 12 14) (primary.Null (at 12 14))) (at 12 18) ∷ [])) (at 13 4) (Some (id (at 13 8)
    "Main")) (at 13 12)) ∷ []) ∷ [])
unfolding computes resolves
no_full_type_2 = refl

no_full_type_3 : IsFirstBrokenOf NoBody (at 1 31) ((unit.OfPackage (at 1 7) [] (package_of (at 1 7) (id (at 1 15)
    "Inner_P") None (at 1 23) (decl.OfItem (at 1 26) (item.PrivateType (at 1 26) (id (at 1 31) "Inner_T") (at 1 39) (at
    1 42) (at 1 49)) ∷ []) None (at 1 51) (Some (id (at 1 55) "Inner_P")) (at 1 62)) ∷ unit.OfSubprogram (at 2 1)
    (context.With (at 2 1) (selected (at 2 6) "Ada" (at 2 9) (at 2 10) "Text_IO") [] (at 2 17) ∷ use_context (use_of (at
    2 19) None (selected (at 2 23) "Ada" (at 2 26) (at 2 27) "Text_IO") [] (at 2 34)) ∷ context.With (at 2 36) (selected
    (at 2 41) "Ada" (at 2 44) (at 2 45) "Integer_Text_IO") [] (at 2 60) ∷ use_context (use_of (at 2 62) None (selected
    (at 2 66) "Ada" (at 2 69) (at 2 70) "Integer_Text_IO") [] (at 2 85)) ∷ context.With (at 2 87) (selected (at 2 92)
    "Ada" (at 2 95) (at 2 96) "Unchecked_Deallocation") [] (at 2 118) ∷ []) (subprogram_of (at 3 1) (subspec.Procedure
    (at 3 1) (id (at 3 11) "Main") None) None (at 3 16) (item.IncompleteType (at 4 4) (id (at 4 9) "Cell") (at 4 13) ∷
    item.AccessType (at 5 1) (id (at 5 6) "List") (at 5 11) (at 5 14) (mark (at 5 21) "Cell") (at 5 25) ∷
    item.RecordType (at 6 7) (id (at 6 12) "Cell") (at 6 17) (at 6 20) (fields_of (id (at 6 27) "Value") [] (at 6 33)
    (mark (at 6 35) "Integer") (at 6 42)) (fields_of (id (at 6 44) "Next") [] (at 6 49) (mark (at 6 51) "List") (at 6
    55) ∷ []) (at 6 57) (at 6 61) (at 6 67) ∷ objects_of (id (at 7 1) "X") (next_id_of (at 7 2) (at 7 4) "Y" ∷ []) (at 7
    6) None (indication_of (mark (at 7 8) "List")) (at 7 12) ∷ initialized_of (id (at 8 1) "N") [] (at 8 3) None
    (indication_of (mark (at 8 5) "Integer")) (at 8 13) (expr_of (at 8 16) (primary.Number (at 8 16) 5)) (at 8 17) ∷ [])
    (at 9 1) (stmts.Sequence (at 10 1) (stmt.For (at 10 1) (id (at 10 5) "I") (at 10 7) None (range.Bounds (at 10 10)
    (expr_of (at 10 10) (primary.Number (at 10 10) 1)) (at 10 12) (expr_of (at 10 15) (primary.Number (at 10 15) 3)))
    (at 10 17) (sole (at 10 22) (assign_of (at 10 22) "N" [] (at 10 24) (expr.LoneRelation (at 10 27) (rel.LoneSum (at
    10 27) (sum.Unsigned (at 10 27) (term_of (at 10 27) (object (at 10 27) "N")) (next_term.FurtherTerm (at 10 29)
    adding.Add (term_of (at 10 31) (object (at 10 31) "I")) ∷ [])))) (at 10 32))) (at 10 34) (at 10 38) (at 10 42))
    (stmt.DeclareBlock (at 11 4) (initialized_of (id (at 11 12) "B") [] (at 11 14) None (indication.Anonymous (at 11 16)
    None (mark (at 11 23) "Cell")) (at 11 28) (expr_of (at 11 31) (object (at 11 31) "X")) (at 11 32) ∷ []) (at 11 34)
    (sole (at 11 40) (stmt.If (at 11 40) (expr.LoneRelation (at 11 43) (rel.Compared (at 11 43) (sum_of (at 11 43)
    (object (at 11 43) "B")) relational.NotEqual (at 11 45) (sum_of (at 11 48) (primary.Null (at 11 48))))) (at 11 53)
    (sole (at 11 58) (assign_of (at 11 58) "B" (suffix.Selected (at 11 59) (id (at 11 60) "Value") ∷ []) (at 11 66)
    (expr_of (at 11 69) (object (at 11 69) "N")) (at 11 70))) [] (at 11 72) (at 11 76) (at 11 78))) (at 11 80) (at 11
    83) ∷ stmt.If (at 12 1) (expr.LoneRelation (at 12 4) (rel.LoneSum (at 12 4) (sum.Unsigned (at 12 4) (term.Product
    (at 12 4) (factor.Not (at 12 4) (object (at 12 8) "End_Of_File")) []) []))) (at 12 20) (sole (at 12 25) (call_of (at
    12 25) "Get" (suffix.Applied (at 12 29) (actual_of (at 12 30) (object (at 12 30) "N")) [] (at 12 31) ∷ []) (at 12
    32))) [] (at 12 34) (at 12 38) (at 12 40) ∷ call_of (at 13 1) "Put_Line" (suffix.Applied (at 13 10) (actual_of (at
    13 11) (named (at 13 11) "Integer" (suffix.Attribute (at 13 18) (id (at 13 19) "Image") ∷ suffix.Applied (at 13 25)
    (actual_of (at 13 26) (object (at 13 26) "N")) [] (at 13 27) ∷ []))) [] (at 13 28) ∷ []) (at 13 29) ∷ stmt.IfElse
    (at 14 4) (expr.LoneRelation (at 14 7) (rel.Compared (at 14 7) (sum_of (at 14 7) (object (at 14 7) "N"))
    relational.Greater (at 14 9) (sum_of (at 14 11) (primary.Number (at 14 11) 3)))) (at 14 13) (sole (at 14 18)
    (assign_of (at 14 18) "N" [] (at 14 20) (expr.LoneRelation (at 14 23) (rel.LoneSum (at 14 23) (sum.Unsigned (at 14
    23) (term_of (at 14 23) (object (at 14 23) "N")) (next_term.FurtherTerm (at 14 25) adding.Subtract (term_of (at 14
    27) (primary.Number (at 14 27) 1)) ∷ [])))) (at 14 28))) [] (at 14 30) (sole (at 14 35) (stmt.Null (at 14 35) (at 14
    39))) (at 14 41) (at 14 45) (at 14 47) ∷ [])) (at 15 7) (Some (id (at 15 11) "Main")) (at 15 15)) ∷ []) ∷ [])
unfolding computes resolves
no_full_type_3 = refl

no_full_type_4 : IsFirstBrokenOf NoBody (at 1 26) ((unit.OfPackage (at 1 1) [] (package_of (at 1 1) (id (at 1 9)
    "Second_P") None (at 1 18) (decl.OfItem (at 1 21) (item.PrivateType (at 1 21) (id (at 1 26) "Second_T") (at 1 35)
    (at 1 38) (at 1 45)) ∷ decl.Subprogram (at 1 47) (subspec.Procedure (at 1 47) (id (at 1 57) "Second_Q") None) None
    (at 1 65) ∷ []) None (at 1 67) (Some (id (at 1 71) "Second_P")) (at 1 79)) ∷ unit.OfBody (at 2 1) []
    (package_body_of (at 2 1) (at 2 9) (id (at 2 14) "Second_P") None (at 2 23) (part.Declared (at 2 26) (decl.OfItem
    (at 2 26) (objects_of (id (at 2 26) "Second_X") [] (at 2 35) None (indication_of (mark (at 2 37) "Integer")) (at 2
    44))) ∷ part.Completed (at 2 46) (subprogram_of (at 2 46) (subspec.Procedure (at 2 46) (id (at 2 56) "Second_Q")
    None) None (at 2 65) [] (at 2 68) (sole (at 2 74) (stmt.Null (at 2 74) (at 2 78))) (at 2 80) (Some (id (at 2 84)
    "Second_Q")) (at 2 92)) ∷ []) (at 2 94) (Some (id (at 2 98) "Second_P")) (at 2 106)) ∷ unit.OfSubprogram (at 3 1)
    (context.With (at 3 1) (selected (at 3 6) "Ada" (at 3 9) (at 3 10) "Text_IO") [] (at 3 17) ∷ use_context (use_of (at
    3 19) None (selected (at 3 23) "Ada" (at 3 26) (at 3 27) "Text_IO") [] (at 3 34)) ∷ context.With (at 3 36) (selected
    (at 3 41) "Ada" (at 3 44) (at 3 45) "Integer_Text_IO") [] (at 3 60) ∷ use_context (use_of (at 3 62) None (selected
    (at 3 66) "Ada" (at 3 69) (at 3 70) "Integer_Text_IO") [] (at 3 85)) ∷ context.With (at 3 87) (selected (at 3 92)
    "Ada" (at 3 95) (at 3 96) "Unchecked_Deallocation") [] (at 3 118) ∷ []) (subprogram_of (at 4 4) (subspec.Procedure
    (at 4 4) (id (at 4 14) "Main") None) None (at 4 19) (item.IncompleteType (at 5 1) (id (at 5 6) "Cell") (at 5 10) ∷
    item.AccessType (at 6 1) (id (at 6 6) "List") (at 6 11) (at 6 14) (mark (at 6 21) "Cell") (at 6 25) ∷
    item.RecordType (at 7 1) (id (at 7 6) "Cell") (at 7 11) (at 7 14) (fields_of (id (at 7 21) "Value") [] (at 7 27)
    (mark (at 7 29) "Integer") (at 7 36)) (fields_of (id (at 7 38) "Next") [] (at 7 43) (mark (at 7 45) "List") (at 7
    49) ∷ []) (at 7 51) (at 7 55) (at 7 61) ∷ objects_of (id (at 8 7) "X") (next_id_of (at 8 8) (at 8 10) "Y" ∷ []) (at
    8 12) None (indication_of (mark (at 8 14) "List")) (at 8 18) ∷ initialized_of (id (at 9 1) "N") [] (at 9 3) None
    (indication_of (mark (at 9 5) "Integer")) (at 9 13) (expr_of (at 9 16) (primary.Number (at 9 16) 1)) (at 9 17) ∷
    item.Instance (at 10 1) (id (at 10 11) "Free") (at 10 16) (at 10 19) (selected (at 10 23) "Ada" (at 10 26) (at 10
    27) "Unchecked_Deallocation") (at 10 50) (actual_of (at 10 51) (object (at 10 51) "Cell")) (next_arg.FurtherArg (at
    10 55) (actual_of (at 10 57) (object (at 10 57) "List")) ∷ []) (at 10 61) (at 10 62) ∷ []) (at 11 1) (stmts.Sequence
    (at 12 1) (stmt.IfElse (at 12 1) (expr.LoneRelation (at 12 4) (rel.Compared (at 12 4) (sum_of (at 12 4) (object (at
    12 4) "N")) relational.Greater (at 12 6) (sum_of (at 12 8) (primary.Number (at 12 8) 3)))) (at 12 10) (sole (at 12
    15) (assign_of (at 12 15) "N" [] (at 12 17) (expr.LoneRelation (at 12 20) (rel.LoneSum (at 12 20) (sum.Unsigned (at
    12 20) (term_of (at 12 20) (object (at 12 20) "N")) (next_term.FurtherTerm (at 12 22) adding.Subtract (term_of (at
    12 24) (primary.Number (at 12 24) 1)) ∷ [])))) (at 12 25))) [] (at 12 27) (sole (at 12 32) (stmt.Null (at 12 32) (at
    12 36))) (at 12 38) (at 12 42) (at 12 44)) (stmt.Case (at 13 1) (expr_of (at 13 6) (object (at 13 6) "N")) (at 13 8)
    (alternative.Alternative (at 13 11) (choice.Value (at 13 16) (expr_of (at 13 16) (primary.Number (at 13 16) 1))) []
    (at 13 18) (sole (at 13 21) (stmt.Null (at 13 21) (at 13 25)))) (alternative.Alternative (at 13 27) (choice.Others
    (at 13 32)) [] (at 13 39) (sole (at 13 42) (assign_of (at 13 42) "N" [] (at 13 44) (expr_of (at 13 47)
    (primary.Number (at 13 47) 2)) (at 13 48))) ∷ []) (at 13 50) (at 13 54) (at 13 58) ∷ [])) (at 14 4) (Some (id (at 14
    8) "Main")) (at 14 12)) ∷ []) ∷ [])
unfolding computes resolves
no_full_type_4 = refl

no_full_type_5 : IsFirstBrokenOf NoBody (at 35 26) ((unit.OfPackage (at 1 7) (context.With (at 1 7) (selected (at 1 12)
    "Ada" (at 1 15) (at 1 16) "Text_IO") [] (at 1 23) ∷ use_context (use_of (at 1 25) None (selected (at 1 29) "Ada" (at
    1 32) (at 1 33) "Text_IO") [] (at 1 40)) ∷ context.With (at 2 1) (selected (at 2 6) "Ada" (at 2 9) (at 2 10)
    "Integer_Text_IO") [] (at 2 25) ∷ use_context (use_of (at 2 27) None (selected (at 2 31) "Ada" (at 2 34) (at 2 35)
    "Integer_Text_IO") [] (at 2 50)) ∷ context.With (at 3 1) (selected (at 3 6) "Ada" (at 3 9) (at 3 10)
    "Unchecked_Deallocation") [] (at 3 32) ∷ []) (package_of (at 4 1) (id (at 4 9) "Pack1") None (at 4 15) (decl.OfItem
    (at 5 7) (item.EnumerationType (at 5 7) (id (at 5 12) "E1") (at 5 15) (at 5 18) (id (at 5 19) "Lit_1") (next_id_of
    (at 5 24) (at 5 26) "Lit_2" ∷ next_id_of (at 5 31) (at 5 33) "Lit_3" ∷ next_id_of (at 5 38) (at 5 40) "Lit_4" ∷
    next_id_of (at 5 45) (at 5 47) "Lit_5" ∷ []) (at 5 52) (at 5 53)) ∷ decl.OfItem (at 6 4) (item.PrivateType (at 6 4)
    (id (at 6 9) "Stack1") (at 6 16) (at 6 19) (at 6 26)) ∷ decl.OfItem (at 7 1) (initialized_of (id (at 7 1) "G1") []
    (at 7 4) None (indication_of (mark (at 7 6) "E1")) (at 7 9) (expr_of (at 7 12) (named (at 7 12) "E1"
    (suffix.Attribute (at 7 14) (id (at 7 15) "First") ∷ []))) (at 7 20)) ∷ decl.OfItem (at 8 4) (initialized_of (id (at
    8 4) "G2") [] (at 8 7) None (indication_of (mark (at 8 9) "Integer")) (at 8 17) (expr_of (at 8 20)
    (primary.Parenthesized (at 8 20) (expr.LoneRelation (at 8 21) (rel.LoneSum (at 8 21) (sum.Unsigned (at 8 21)
    (term.Product (at 8 21) (factor_of (at 8 21) (primary.Number (at 8 21) 0)) (next_factor.FurtherFactor (at 8 23)
    multiplying.Modulo (factor_of (at 8 27) (primary.Number (at 8 27) 4)) ∷ [])) []))) (at 8 28))) (at 8 29)) ∷
    decl.Subprogram (at 9 4) (subspec.Procedure (at 9 4) (id (at 9 14) "Do1") (Some (formals_of (at 9 18) (moded_of (id
    (at 9 19) "N1") [] (at 9 22) (Some (at 9 24)) (Some (at 9 27)) (mark (at 9 31) "Integer")) (next_formal.Semicolon
    (at 9 38) (moded_of (id (at 9 40) "N2") [] (at 9 43) None (Some (at 9 45)) (mark (at 9 49) "Stack1")) ∷ []) (at 9
    55)))) None (at 9 56) ∷ []) (Some (private_part (at 10 7) (decl.OfItem (at 11 1) (item.IncompleteType (at 11 1) (id
    (at 11 6) "Node1") (at 11 11)) ∷ decl.OfItem (at 12 1) (item.AccessType (at 12 1) (id (at 12 6) "Tree1") (at 12 12)
    (at 12 15) (mark (at 12 22) "Node1") (at 12 27)) ∷ decl.OfItem (at 13 1) (item.RecordType (at 13 1) (id (at 13 6)
    "Node1") (at 13 12) (at 13 15) (fields_of (id (at 13 22) "Key1") [] (at 13 27) (mark (at 13 29) "Integer") (at 13
    36)) (fields_of (id (at 13 38) "Left1") [] (at 13 44) (mark (at 13 46) "Tree1") (at 13 51) ∷ fields_of (id (at 13
    53) "Right1") [] (at 13 60) (mark (at 13 62) "Tree1") (at 13 67) ∷ []) (at 13 69) (at 13 73) (at 13 79)) ∷
    decl.OfItem (at 14 7) (item.Instance (at 14 7) (id (at 14 17) "Free1") (at 14 23) (at 14 26) (selected (at 14 30)
    "Ada" (at 14 33) (at 14 34) "Unchecked_Deallocation") (at 14 57) (actual_of (at 14 58) (object (at 14 58) "Node1"))
    (next_arg.FurtherArg (at 14 63) (actual_of (at 14 65) (object (at 14 65) "Tree1")) ∷ []) (at 14 70) (at 14 71)) ∷
    decl.OfItem (at 15 4) (item.IncompleteType (at 15 4) (id (at 15 9) "Item1") (at 15 14)) ∷ decl.OfItem (at 16 1)
    (item.AccessType (at 16 1) (id (at 16 6) "Stack1") (at 16 13) (at 16 16) (mark (at 16 23) "Item1") (at 16 28)) ∷
    decl.OfItem (at 17 4) (item.RecordType (at 17 4) (id (at 17 9) "Item1") (at 17 15) (at 17 18) (fields_of (id (at 17
    25) "Val1") [] (at 17 30) (mark (at 17 32) "Integer") (at 17 39)) (fields_of (id (at 17 41) "Next1") [] (at 17 47)
    (mark (at 17 49) "Stack1") (at 17 55) ∷ []) (at 17 57) (at 17 61) (at 17 67)) ∷ decl.OfItem (at 18 7)
    (initialized_of (id (at 18 7) "G3") [] (at 18 10) None (indication_of (mark (at 18 12) "Item1")) (at 18 18) (expr_of
    (at 18 21) (primary.Aggregated (at 18 21) (aggregate.Several (at 18 21) (actual_of (at 18 22) (primary.Number (at 18
    22) 15)) (at 18 24) (actual_of (at 18 26) (primary.Null (at 18 26))) [] (at 18 30)))) (at 18 31)) ∷ []))) (at 19 1)
    (Some (id (at 19 5) "Pack1")) (at 19 10)) ∷ unit.OfBody (at 20 1) [] (package_body_of (at 20 1) (at 20 9) (id (at 20
    14) "Pack1") None (at 20 20) (part.Completed (at 21 1) (subprogram_of (at 21 1) (subspec.Procedure (at 21 1) (id (at
    21 11) "Do1") (Some (formals_of (at 21 15) (moded_of (id (at 21 16) "N1") [] (at 21 19) (Some (at 21 21)) (Some (at
    21 24)) (mark (at 21 28) "Integer")) (next_formal.Semicolon (at 21 35) (moded_of (id (at 21 37) "N2") [] (at 21 40)
    None (Some (at 21 42)) (mark (at 21 46) "Stack1")) ∷ []) (at 21 52)))) None (at 21 54) (initialized_of (id (at 22 4)
    "V1") [] (at 22 7) None (indication_of (mark (at 22 9) "E1")) (at 22 12) (expr_of (at 22 15) (object (at 22 15)
    "Lit_2")) (at 22 20) ∷ initialized_of (id (at 23 7) "V2") [] (at 23 10) None (indication_of (mark (at 23 12) "E1"))
    (at 23 15) (expr_of (at 23 18) (object (at 23 18) "Lit_4")) (at 23 23) ∷ []) (at 24 1) (stmts.Sequence (at 25 1)
    (assign_of (at 25 1) "N2" [] (at 25 4) (expr_of (at 25 7) (named (at 25 7) "G3" (suffix.Selected (at 25 9) (id (at
    25 10) "Next1") ∷ []))) (at 25 15)) (call_of (at 26 1) "New_Line" [] (at 26 9) ∷ assign_of (at 27 7) "G3"
    (suffix.Selected (at 27 9) (id (at 27 10) "Next1") ∷ []) (at 27 16) (expr_of (at 27 19) (primary.Null (at 27 19)))
    (at 27 23) ∷ [])) (at 28 1) (Some (id (at 28 5) "Do1")) (at 28 8)) ∷ []) (at 29 1) (Some (id (at 29 5) "Pack1")) (at
    29 10)) ∷ unit.OfSubprogram (at 30 1) (context.With (at 30 1) (selected (at 30 6) "Ada" (at 30 9) (at 30 10)
    "Text_IO") [] (at 30 17) ∷ use_context (use_of (at 30 19) None (selected (at 30 23) "Ada" (at 30 26) (at 30 27)
    "Text_IO") [] (at 30 34)) ∷ context.With (at 31 1) (selected (at 31 6) "Ada" (at 31 9) (at 31 10) "Integer_Text_IO")
    [] (at 31 25) ∷ use_context (use_of (at 31 27) None (selected (at 31 31) "Ada" (at 31 34) (at 31 35)
    "Integer_Text_IO") [] (at 31 50)) ∷ context.With (at 32 1) (selected (at 32 6) "Ada" (at 32 9) (at 32 10)
    "Unchecked_Deallocation") [] (at 32 32) ∷ context.With (at 33 1) (mark (at 33 6) "Pack1") [] (at 33 11) ∷
    use_context (use_of (at 33 13) None (mark (at 33 17) "Pack1") [] (at 33 22)) ∷ []) (subprogram_of (at 34 1)
    (subspec.Procedure (at 34 1) (id (at 34 11) "Main") None) None (at 34 16) (item.IncompleteType (at 35 1) (id (at 35
    6) "MA1") (at 35 9) ∷ item.IncompleteType (at 35 11) (id (at 35 16) "MB1") (at 35 19) ∷ item.IncompleteType (at 35
    21) (id (at 35 26) "Quick_T") (at 35 33) ∷ item.AccessType (at 36 1) (id (at 36 6) "PA1") (at 36 10) (at 36 13)
    (mark (at 36 20) "MA1") (at 36 23) ∷ item.AccessType (at 37 1) (id (at 37 6) "PB1") (at 37 10) (at 37 13) (mark (at
    37 20) "MB1") (at 37 23) ∷ item.RecordType (at 38 7) (id (at 38 12) "MA1") (at 38 16) (at 38 19) (fields_of (id (at
    38 26) "To1") [] (at 38 30) (mark (at 38 32) "PB1") (at 38 35)) (fields_of (id (at 38 37) "N3") [] (at 38 40) (mark
    (at 38 42) "Integer") (at 38 49) ∷ []) (at 38 51) (at 38 55) (at 38 61) ∷ item.RecordType (at 39 4) (id (at 39 9)
    "MB1") (at 39 13) (at 39 16) (fields_of (id (at 39 23) "Fro1") [] (at 39 28) (mark (at 39 30) "PA1") (at 39 33)) []
    (at 39 35) (at 39 39) (at 39 45) ∷ item.Instance (at 40 4) (id (at 40 14) "Free2") (at 40 20) (at 40 23) (selected
    (at 40 27) "Ada" (at 40 30) (at 40 31) "Unchecked_Deallocation") (at 40 54) (actual_of (at 40 55) (object (at 40 55)
    "MA1")) (next_arg.FurtherArg (at 40 58) (actual_of (at 40 60) (object (at 40 60) "PA1")) ∷ []) (at 40 63) (at 40 64)
    ∷ item.AccessType (at 41 4) (id (at 41 9) "P1") (at 41 12) (at 41 15) (mark (at 41 22) "PA1") (at 41 25) ∷
    item.Instance (at 42 4) (id (at 42 14) "Free3") (at 42 20) (at 42 23) (selected (at 42 27) "Ada" (at 42 30) (at 42
    31) "Unchecked_Deallocation") (at 42 54) (actual_of (at 42 55) (object (at 42 55) "PA1")) (next_arg.FurtherArg (at
    42 58) (actual_of (at 42 60) (object (at 42 60) "P1")) ∷ []) (at 42 62) (at 42 63) ∷ objects_of (id (at 43 4) "V3")
    (next_id_of (at 43 6) (at 43 8) "V4" ∷ []) (at 43 11) None (indication_of (mark (at 43 13) "PA1")) (at 43 16) ∷
    initialized_of (id (at 44 1) "V5") [] (at 44 4) None (indication_of (mark (at 44 6) "PA1")) (at 44 10) (expr_of (at
    44 13) (primary.AllocatedAggregate (at 44 13) (mark (at 44 17) "MA1") (at 44 20) (aggregate.Several (at 44 21)
    (actual_of (at 44 22) (primary.AllocatedAggregate (at 44 22) (mark (at 44 26) "MB1") (at 44 29) (aggregate.Single
    (at 44 30) (id (at 44 31) "Fro1") (at 44 36) (expr_of (at 44 39) (primary.Null (at 44 39))) (at 44 43)))) (at 44 44)
    (actual_of (at 44 46) (primary.Number (at 44 46) 4)) [] (at 44 47)))) (at 44 48) ∷ initialized_of (id (at 45 1)
    "V6") [] (at 45 4) None (indication_of (mark (at 45 6) "MA1")) (at 45 10) (expr_of (at 45 13) (named (at 45 13) "V5"
    (suffix.Dereferenced (at 45 15) (at 45 16) ∷ []))) (at 45 19) ∷ objects_of (id (at 46 1) "V7") (next_id_of (at 46 3)
    (at 46 5) "V8" ∷ []) (at 46 8) None (indication_of (mark (at 46 10) "MB1")) (at 46 13) ∷ initialized_of (id (at 47
    7) "V9") [] (at 47 10) None (indication_of (mark (at 47 12) "PA1")) (at 47 16) (expr_of (at 47 19) (primary.Null (at
    47 19))) (at 47 23) ∷ objects_of (id (at 48 7) "V10") [] (at 48 11) None (indication_of (mark (at 48 13) "Boolean"))
    (at 48 20) ∷ objects_of (id (at 49 4) "T1") [] (at 49 7) None (indication_of (mark (at 49 9) "Integer")) (at 49 16)
    ∷ []) (at 50 1) (sole (at 51 4) (stmt.DeclareBlock (at 51 4) (initialized_of (id (at 52 4) "V11") [] (at 52 8) None
    (indication_of (mark (at 52 10) "E1")) (at 52 13) (expr_of (at 52 16) (object (at 52 16) "Lit_5")) (at 52 21) ∷
    initialized_of (id (at 53 4) "V12") [] (at 53 8) None (indication_of (mark (at 53 10) "MA1")) (at 53 14) (expr_of
    (at 53 17) (primary.Aggregated (at 53 17) (aggregate.Several (at 53 17) (actual_of (at 53 18) (named (at 53 18) "V6"
    (suffix.Selected (at 53 20) (id (at 53 21) "To1") ∷ []))) (at 53 24) (actual_of (at 53 26) (primary.Parenthesized
    (at 53 26) (expr.LoneRelation (at 53 27) (rel.LoneSum (at 53 27) (sum.Signed (at 53 27) sign.Minus (term_of (at 53
    28) (primary.Number (at 53 28) 8)) []))) (at 53 29))) [] (at 53 30)))) (at 53 31) ∷ objects_of (id (at 54 4) "V13")
    [] (at 54 8) None (indication_of (mark (at 54 10) "PA1")) (at 54 13) ∷ []) (at 55 1) (stmts.Sequence (at 56 7)
    (assign_of (at 56 7) "T1" [] (at 56 10) (expr_of (at 56 13) (primary.Number (at 56 13) 0)) (at 56 14)) (stmt.Loop
    (at 57 4) (stmts.Sequence (at 58 1) (stmt.ExitWhen (at 58 1) (at 58 6) (expr.LoneRelation (at 58 11) (rel.Compared
    (at 58 11) (sum_of (at 58 11) (object (at 58 11) "T1")) relational.GreaterEqual (at 58 14) (sum_of (at 58 17)
    (primary.Number (at 58 17) 8)))) (at 58 18)) (assign_of (at 59 4) "T1" [] (at 59 7) (expr.LoneRelation (at 59 10)
    (rel.LoneSum (at 59 10) (sum.Unsigned (at 59 10) (term_of (at 59 10) (object (at 59 10) "T1"))
    (next_term.FurtherTerm (at 59 13) adding.Add (term_of (at 59 15) (primary.Number (at 59 15) 1)) ∷ [])))) (at 59 16)
    ∷ assign_of (at 60 7) "T1" [] (at 60 10) (expr_of (at 60 13) (named (at 60 13) "Positive" (suffix.Attribute (at 60
    21) (id (at 60 22) "First") ∷ []))) (at 60 27) ∷ stmt.If (at 61 1) (expr.LoneRelation (at 61 4) (rel.Compared (at 61
    4) (sum_of (at 61 4) (object (at 61 4) "V3")) relational.NotEqual (at 61 7) (sum_of (at 61 10) (primary.Null (at 61
    10))))) (at 61 15) (sole (at 62 1) (stmt.DeclareBlock (at 62 1) (initialized_of (id (at 63 4) "B1") [] (at 63 7)
    None (indication.Anonymous (at 63 9) None (mark (at 63 16) "MB1")) (at 63 20) (expr_of (at 63 23) (named (at 63 23)
    "V3" (suffix.Selected (at 63 25) (id (at 63 26) "To1") ∷ []))) (at 63 29) ∷ []) (at 64 1) (sole (at 65 1)
    (stmt.DeclareBlock (at 65 1) (initialized_of (id (at 66 4) "C1") [] (at 66 7) None (indication.Anonymous (at 66 9)
    (Some (at 66 16)) (mark (at 66 25) "MA1")) (at 66 29) (expr_of (at 66 32) (object (at 66 32) "V4")) (at 66 34) ∷ [])
    (at 67 7) (stmts.Sequence (at 68 1) (stmt.If (at 68 1) (expr.LoneRelation (at 68 4) (rel.Compared (at 68 4) (sum_of
    (at 68 4) (object (at 68 4) "V13")) relational.NotEqual (at 68 8) (sum_of (at 68 11) (primary.Null (at 68 11)))))
    (at 68 16) (sole (at 69 7) (assign_of (at 69 7) "V12" [] (at 69 11) (expr_of (at 69 14) (named (at 69 14) "V13"
    (suffix.Dereferenced (at 69 17) (at 69 18) ∷ []))) (at 69 21))) [] (at 70 1) (at 70 5) (at 70 7)) (call_of (at 71 1)
    "Free2" (suffix.Applied (at 71 7) (actual_of (at 71 8) (object (at 71 8) "V9")) [] (at 71 10) ∷ []) (at 71 11) ∷
    call_of (at 72 7) "Free2" (suffix.Applied (at 72 13) (actual_of (at 72 14) (named (at 72 14) "V8" (suffix.Selected
    (at 72 16) (id (at 72 17) "Fro1") ∷ []))) [] (at 72 21) ∷ []) (at 72 22) ∷ assign_of (at 73 1) "V5" [] (at 73 4)
    (expr_of (at 73 7) (primary.AllocatedAggregate (at 73 7) (mark (at 73 11) "MA1") (at 73 14) (aggregate.Several (at
    73 15) (actual_of (at 73 16) (primary.Null (at 73 16))) (at 73 20) (actual_of (at 73 22) (primary.Number (at 73 22)
    32)) [] (at 73 24)))) (at 73 25) ∷ stmt.If (at 74 4) (expr.AndThen (at 74 7) (rel.Compared (at 74 7) (sum_of (at 74
    7) (named (at 74 7) "V8" (suffix.Selected (at 74 9) (id (at 74 10) "Fro1") ∷ []))) relational.NotEqual (at 74 15)
    (sum_of (at 74 18) (primary.Null (at 74 18)))) (at 74 23) (at 74 27) (rel.Compared (at 74 32) (sum_of (at 74 32)
    (named (at 74 32) "V8" (suffix.Selected (at 74 34) (id (at 74 35) "Fro1") ∷ suffix.Selected (at 74 39) (id (at 74
    40) "To1") ∷ []))) relational.NotEqual (at 74 44) (sum_of (at 74 47) (primary.Null (at 74 47)))) []) (at 74 52)
    (sole (at 75 1) (assign_of (at 75 1) "V8" (suffix.Selected (at 75 3) (id (at 75 4) "Fro1") ∷ suffix.Selected (at 75
    8) (id (at 75 9) "To1") ∷ suffix.Dereferenced (at 75 12) (at 75 13) ∷ []) (at 75 17) (expr_of (at 75 20)
    (primary.Aggregated (at 75 20) (aggregate.Single (at 75 20) (id (at 75 21) "Fro1") (at 75 26) (expr_of (at 75 29)
    (named (at 75 29) "V7" (suffix.Selected (at 75 31) (id (at 75 32) "Fro1") ∷ []))) (at 75 36)))) (at 75 37))) [] (at
    76 7) (at 76 11) (at 76 13) ∷ [])) (at 77 7) (at 77 10))) (at 78 1) (at 78 4))) [] (at 79 7) (at 79 11) (at 79 13) ∷
    assign_of (at 80 7) "V13" (suffix.Selected (at 80 10) (id (at 80 11) "To1") ∷ []) (at 80 15) (expr_of (at 80 18)
    (primary.Null (at 80 18))) (at 80 22) ∷ [])) (at 81 1) (at 81 5) (at 81 9) ∷ [])) (at 82 1) (at 82 4))) (at 83 1)
    (Some (id (at 83 5) "Main")) (at 83 9)) ∷ []) ∷ [])
unfolding computes resolves
no_full_type_5 = refl

-- An incomplete type has its full type in another part.
full_type_elsewhere_1 : IsFirstBrokenOf NoBody (at 6 73) ((unit.OfSubprogram (at 1 1) (context.With (at 1 1) (selected
    (at 1 6) "Ada" (at 1 9) (at 1 10) "Text_IO") [] (at 1 17) ∷ use_context (use_of (at 1 19) None (selected (at 1 23)
    "Ada" (at 1 26) (at 1 27) "Text_IO") [] (at 1 34)) ∷ context.With (at 1 36) (selected (at 1 41) "Ada" (at 1 44) (at
    1 45) "Integer_Text_IO") [] (at 1 60) ∷ use_context (use_of (at 1 62) None (selected (at 1 66) "Ada" (at 1 69) (at 1
    70) "Integer_Text_IO") [] (at 1 85)) ∷ context.With (at 1 87) (selected (at 1 92) "Ada" (at 1 95) (at 1 96)
    "Unchecked_Deallocation") [] (at 1 118) ∷ []) (subprogram_of (at 2 1) (subspec.Procedure (at 2 1) (id (at 2 11)
    "Main") None) None (at 2 16) (item.IncompleteType (at 3 1) (id (at 3 6) "Cell") (at 3 10) ∷ item.AccessType (at 3
    12) (id (at 3 17) "List") (at 3 22) (at 3 25) (mark (at 3 32) "Cell") (at 3 36) ∷ item.RecordType (at 3 38) (id (at
    3 43) "Cell") (at 3 48) (at 3 51) (fields_of (id (at 3 58) "Value") [] (at 3 64) (mark (at 3 66) "Integer") (at 3
    73)) (fields_of (id (at 3 75) "Next") [] (at 3 80) (mark (at 3 82) "List") (at 3 86) ∷ []) (at 3 88) (at 3 92) (at 3
    98) ∷ objects_of (id (at 4 1) "X") (next_id_of (at 4 2) (at 4 4) "Y" ∷ []) (at 4 6) None (indication_of (mark (at 4
    8) "List")) (at 4 12) ∷ initialized_of (id (at 4 14) "N") [] (at 4 16) None (indication_of (mark (at 4 18)
    "Integer")) (at 4 26) (expr_of (at 4 29) (primary.Number (at 4 29) 9)) (at 4 30) ∷ []) (at 4 32) (stmts.Sequence (at
    4 38) (stmt.For (at 4 38) (id (at 4 42) "I") (at 4 44) None (range.Bounds (at 4 47) (expr_of (at 4 47)
    (primary.Number (at 4 47) 1)) (at 4 49) (expr_of (at 4 52) (primary.Number (at 4 52) 3))) (at 4 54) (sole (at 4 59)
    (assign_of (at 4 59) "N" [] (at 4 61) (expr.LoneRelation (at 4 64) (rel.LoneSum (at 4 64) (sum.Unsigned (at 4 64)
    (term_of (at 4 64) (object (at 4 64) "N")) (next_term.FurtherTerm (at 4 66) adding.Add (term_of (at 4 68) (object
    (at 4 68) "I")) ∷ [])))) (at 4 69))) (at 4 71) (at 4 75) (at 4 79)) (call_of (at 5 1) "Put_Line" (suffix.Applied (at
    5 10) (actual_of (at 5 11) (named (at 5 11) "Integer" (suffix.Attribute (at 5 18) (id (at 5 19) "Image") ∷
    suffix.Applied (at 5 25) (actual_of (at 5 26) (object (at 5 26) "N")) [] (at 5 27) ∷ []))) [] (at 5 28) ∷ []) (at 5
    29) ∷ assign_of (at 5 31) "Y" [] (at 5 33) (expr_of (at 5 36) (object (at 5 36) "X")) (at 5 37) ∷ assign_of (at 5
    39) "X" [] (at 5 41) (expr_of (at 5 44) (primary.Null (at 5 44))) (at 5 48) ∷ stmt.Case (at 6 1) (expr_of (at 6 6)
    (object (at 6 6) "N")) (at 6 8) (alternative.Alternative (at 6 11) (choice.Value (at 6 16) (expr_of (at 6 16)
    (primary.Number (at 6 16) 1))) [] (at 6 18) (sole (at 6 21) (stmt.Null (at 6 21) (at 6 25))))
    (alternative.Alternative (at 6 27) (choice.Others (at 6 32)) [] (at 6 39) (sole (at 6 42) (assign_of (at 6 42) "N"
    [] (at 6 44) (expr_of (at 6 47) (primary.Number (at 6 47) 2)) (at 6 48))) ∷ []) (at 6 50) (at 6 54) (at 6 58) ∷
    stmt.DeclareBlock (at 6 60) (item.IncompleteType (at 6 68) (id (at 6 73) "Extra_T") (at 6 80) ∷ item.AccessType (at
    6 82) (id (at 6 87) "Extra_A") (at 6 95) (at 6 98) (mark (at 6 105) "Extra_T") (at 6 112) ∷ objects_of (id (at 6
    114) "Extra_X") [] (at 6 122) None (indication_of (mark (at 6 124) "Integer")) (at 6 131) ∷ []) (at 6 133) (sole (at
    6 139) (stmt.DeclareBlock (at 6 139) (item.EnumerationType (at 6 147) (id (at 6 152) "Extra_T") (at 6 160) (at 6
    163) (id (at 6 164) "Extra_U") (next_id_of (at 6 171) (at 6 173) "Extra_V" ∷ []) (at 6 180) (at 6 181) ∷ []) (at 6
    183) (sole (at 6 189) (assign_of (at 6 189) "Extra_X" [] (at 6 197) (expr_of (at 6 200) (primary.Number (at 6 200)
    1)) (at 6 201))) (at 6 203) (at 6 206))) (at 6 208) (at 6 211) ∷ [])) (at 6 213) (Some (id (at 6 217) "Main")) (at 6
    221)) ∷ []) ∷ [])
unfolding computes resolves
full_type_elsewhere_1 = refl

full_type_elsewhere_2 : IsFirstBrokenOf NoBody (at 1 25) ((unit.OfPackage (at 1 1) [] (package_of (at 1 1) (id (at 1 9)
    "Extra_P") None (at 1 17) (decl.OfItem (at 1 20) (item.IncompleteType (at 1 20) (id (at 1 25) "Extra_T") (at 1 32))
    ∷ decl.OfItem (at 1 34) (item.AccessType (at 1 34) (id (at 1 39) "Extra_A") (at 1 47) (at 1 50) (mark (at 1 57)
    "Extra_T") (at 1 64)) ∷ []) (Some (private_part (at 1 66) (decl.OfItem (at 1 74) (item.EnumerationType (at 1 74) (id
    (at 1 79) "Extra_T") (at 1 87) (at 1 90) (id (at 1 91) "Extra_U") (next_id_of (at 1 98) (at 1 100) "Extra_V" ∷ [])
    (at 1 107) (at 1 108)) ∷ []))) (at 1 110) (Some (id (at 1 114) "Extra_P")) (at 1 121)) ∷ unit.OfSubprogram (at 2 1)
    (context.With (at 2 1) (selected (at 2 6) "Ada" (at 2 9) (at 2 10) "Text_IO") [] (at 2 17) ∷ use_context (use_of (at
    2 19) None (selected (at 2 23) "Ada" (at 2 26) (at 2 27) "Text_IO") [] (at 2 34)) ∷ context.With (at 2 36) (selected
    (at 2 41) "Ada" (at 2 44) (at 2 45) "Integer_Text_IO") [] (at 2 60) ∷ use_context (use_of (at 2 62) None (selected
    (at 2 66) "Ada" (at 2 69) (at 2 70) "Integer_Text_IO") [] (at 2 85)) ∷ context.With (at 2 87) (selected (at 2 92)
    "Ada" (at 2 95) (at 2 96) "Unchecked_Deallocation") [] (at 2 118) ∷ []) (subprogram_of (at 3 1) (subspec.Procedure
    (at 3 1) (id (at 3 11) "Main") None) None (at 3 16) (item.IncompleteType (at 3 19) (id (at 3 24) "Cell") (at 3 28) ∷
    item.AccessType (at 4 1) (id (at 4 6) "List") (at 4 11) (at 4 14) (mark (at 4 21) "Cell") (at 4 25) ∷
    item.RecordType (at 4 27) (id (at 4 32) "Cell") (at 4 37) (at 4 40) (fields_of (id (at 4 47) "Value") [] (at 4 53)
    (mark (at 4 55) "Integer") (at 4 62)) (fields_of (id (at 4 64) "Next") [] (at 4 69) (mark (at 4 71) "List") (at 4
    75) ∷ []) (at 4 77) (at 4 81) (at 4 87) ∷ objects_of (id (at 4 89) "X") (next_id_of (at 4 90) (at 4 92) "Y" ∷ [])
    (at 4 94) None (indication_of (mark (at 4 96) "List")) (at 4 100) ∷ initialized_of (id (at 5 1) "N") [] (at 5 3)
    None (indication_of (mark (at 5 5) "Integer")) (at 5 13) (expr_of (at 5 16) (primary.Number (at 5 16) 7)) (at 5 17)
    ∷ item.Instance (at 6 1) (id (at 6 11) "Free") (at 6 16) (at 6 19) (selected (at 6 23) "Ada" (at 6 26) (at 6 27)
    "Unchecked_Deallocation") (at 6 50) (actual_of (at 6 51) (object (at 6 51) "Cell")) (next_arg.FurtherArg (at 6 55)
    (actual_of (at 6 57) (object (at 6 57) "List")) ∷ []) (at 6 61) (at 6 62) ∷ []) (at 6 64) (stmts.Sequence (at 6 70)
    (assign_of (at 6 70) "X" [] (at 6 72) (expr_of (at 6 75) (primary.AllocatedAggregate (at 6 75) (mark (at 6 79)
    "Cell") (at 6 83) (aggregate.Several (at 6 84) (actual_of (at 6 85) (object (at 6 85) "N")) (at 6 86) (actual_of (at
    6 88) (primary.Null (at 6 88))) [] (at 6 92)))) (at 6 93)) (assign_of (at 7 1) "Y" [] (at 7 3) (expr_of (at 7 6)
    (object (at 7 6) "X")) (at 7 7) ∷ assign_of (at 7 9) "X" [] (at 7 11) (expr_of (at 7 14) (primary.Null (at 7 14)))
    (at 7 18) ∷ stmt.For (at 7 20) (id (at 7 24) "I") (at 7 26) None (range.Bounds (at 7 29) (expr_of (at 7 29)
    (primary.Number (at 7 29) 1)) (at 7 31) (expr_of (at 7 34) (primary.Number (at 7 34) 3))) (at 7 36) (sole (at 7 41)
    (assign_of (at 7 41) "N" [] (at 7 43) (expr.LoneRelation (at 7 46) (rel.LoneSum (at 7 46) (sum.Unsigned (at 7 46)
    (term_of (at 7 46) (object (at 7 46) "N")) (next_term.FurtherTerm (at 7 48) adding.Add (term_of (at 7 50) (object
    (at 7 50) "I")) ∷ [])))) (at 7 51))) (at 7 53) (at 7 57) (at 7 61) ∷ assign_of (at 8 1) "N" [] (at 8 3)
    (expr.LoneRelation (at 8 6) (rel.LoneSum (at 8 6) (sum.Unsigned (at 8 6) (term.Product (at 8 6) (factor_of (at 8 6)
    (object (at 8 6) "N")) (next_factor.FurtherFactor (at 8 8) multiplying.Multiply (factor_of (at 8 10) (primary.Number
    (at 8 10) 2)) ∷ [])) (next_term.FurtherTerm (at 8 12) adding.Add (term_of (at 8 14) (primary.Number (at 8 14) 1)) ∷
    [])))) (at 8 15) ∷ [])) (at 8 17) (Some (id (at 8 21) "Main")) (at 8 25)) ∷ []) ∷ [])
unfolding computes resolves
full_type_elsewhere_2 = refl

full_type_elsewhere_3 : IsFirstBrokenOf NoBody (at 1 25) ((unit.OfPackage (at 1 1) [] (package_of (at 1 1) (id (at 1 9)
    "Usual_P") None (at 1 17) (decl.OfItem (at 1 20) (item.IncompleteType (at 1 20) (id (at 1 25) "Usual_T") (at 1 32))
    ∷ decl.OfItem (at 1 34) (item.AccessType (at 1 34) (id (at 1 39) "Usual_A") (at 1 47) (at 1 50) (mark (at 1 57)
    "Usual_T") (at 1 64)) ∷ decl.Subprogram (at 1 66) (subspec.Procedure (at 1 66) (id (at 1 76) "Usual_Q") None) None
    (at 1 83) ∷ []) None (at 1 85) (Some (id (at 1 89) "Usual_P")) (at 1 96)) ∷ unit.OfBody (at 2 7) [] (package_body_of
    (at 2 7) (at 2 15) (id (at 2 20) "Usual_P") None (at 2 28) (part.Declared (at 2 31) (decl.OfItem (at 2 31)
    (item.EnumerationType (at 2 31) (id (at 2 36) "Usual_T") (at 2 44) (at 2 47) (id (at 2 48) "Usual_U") (next_id_of
    (at 2 55) (at 2 57) "Usual_V" ∷ []) (at 2 64) (at 2 65))) ∷ part.Completed (at 2 67) (subprogram_of (at 2 67)
    (subspec.Procedure (at 2 67) (id (at 2 77) "uSUAL_q") None) None (at 2 85) [] (at 2 88) (sole (at 2 94) (stmt.Null
    (at 2 94) (at 2 98))) (at 2 100) (Some (id (at 2 104) "uSUAL_q")) (at 2 111)) ∷ []) (at 2 113) (Some (id (at 2 117)
    "Usual_P")) (at 2 124)) ∷ unit.OfSubprogram (at 3 7) (context.With (at 3 7) (selected (at 3 12) "Ada" (at 3 15) (at
    3 16) "Text_IO") [] (at 3 23) ∷ use_context (use_of (at 3 25) None (selected (at 3 29) "Ada" (at 3 32) (at 3 33)
    "tEXT_io") [] (at 3 40)) ∷ context.With (at 3 42) (selected (at 3 47) "Ada" (at 3 50) (at 3 51) "Integer_Text_IO")
    [] (at 3 66) ∷ use_context (use_of (at 3 68) None (selected (at 3 72) "Ada" (at 3 75) (at 3 76) "iNTEGER_tEXT_io")
    [] (at 3 91)) ∷ context.With (at 3 93) (selected (at 3 98) "Ada" (at 3 101) (at 3 102) "Unchecked_Deallocation") []
    (at 3 124) ∷ []) (subprogram_of (at 4 4) (subspec.Procedure (at 4 4) (id (at 4 14) "Main") None) None (at 4 19)
    (item.IncompleteType (at 5 1) (id (at 5 6) "Cell") (at 5 10) ∷ item.AccessType (at 6 1) (id (at 6 6) "List") (at 6
    11) (at 6 14) (mark (at 6 21) "CELL") (at 6 25) ∷ item.RecordType (at 7 1) (id (at 7 6) "Cell") (at 7 11) (at 7 14)
    (fields_of (id (at 7 21) "VALUE") [] (at 7 27) (mark (at 7 29) "Integer") (at 7 36)) (fields_of (id (at 7 38)
    "Next") [] (at 7 43) (mark (at 7 45) "LIST") (at 7 49) ∷ []) (at 7 51) (at 7 55) (at 7 61) ∷ objects_of (id (at 8 7)
    "X") (next_id_of (at 8 8) (at 8 10) "y" ∷ []) (at 8 12) None (indication_of (mark (at 8 14) "List")) (at 8 18) ∷
    initialized_of (id (at 9 1) "N") [] (at 9 3) None (indication_of (mark (at 9 5) "iNTEGER")) (at 9 13) (expr_of (at 9
    16) (primary.Number (at 9 16) 6)) (at 9 17) ∷ []) (at 10 7) (stmts.Sequence (at 11 1) (stmt.If (at 11 1)
    (expr.LoneRelation (at 11 4) (rel.LoneSum (at 11 4) (sum.Unsigned (at 11 4) (term.Product (at 11 4) (factor.Not (at
    11 4) (object (at 11 8) "End_Of_File")) []) []))) (at 11 20) (sole (at 11 25) (call_of (at 11 25) "Get"
    (suffix.Applied (at 11 29) (actual_of (at 11 30) (object (at 11 30) "n")) [] (at 11 31) ∷ []) (at 11 32))) [] (at 11
    34) (at 11 38) (at 11 40)) (call_of (at 12 4) "Put_Line" (suffix.Applied (at 12 13) (actual_of (at 12 14) (named (at
    12 14) "Integer" (suffix.Attribute (at 12 21) (id (at 12 22) "IMAGE") ∷ suffix.Applied (at 12 28) (actual_of (at 12
    29) (object (at 12 29) "N")) [] (at 12 30) ∷ []))) [] (at 12 31) ∷ []) (at 12 32) ∷ stmt.IfElse (at 13 1)
    (expr.LoneRelation (at 13 4) (rel.Compared (at 13 4) (sum_of (at 13 4) (object (at 13 4) "N")) relational.Greater
    (at 13 6) (sum_of (at 13 8) (primary.Number (at 13 8) 3)))) (at 13 10) (sole (at 13 15) (assign_of (at 13 15) "N" []
    (at 13 17) (expr.LoneRelation (at 13 20) (rel.LoneSum (at 13 20) (sum.Unsigned (at 13 20) (term_of (at 13 20)
    (object (at 13 20) "N")) (next_term.FurtherTerm (at 13 22) adding.Subtract (term_of (at 13 24) (primary.Number (at
    13 24) 1)) ∷ [])))) (at 13 25))) [] (at 13 27) (sole (at 13 32) (stmt.Null (at 13 32) (at 13 36))) (at 13 38) (at 13
    42) (at 13 44) ∷ stmt.While (at 14 1) (expr.LoneRelation (at 14 7) (rel.Compared (at 14 7) (sum_of (at 14 7) (object
    (at 14 7) "n")) relational.Greater (at 14 9) (sum_of (at 14 11) (primary.Number (at 14 11) 5)))) (at 14 13) (sole
    (at 14 18) (assign_of (at 14 18) "N" [] (at 14 20) (expr.LoneRelation (at 14 23) (rel.LoneSum (at 14 23)
    (sum.Unsigned (at 14 23) (term.Product (at 14 23) (factor_of (at 14 23) (object (at 14 23) "N"))
    (next_factor.FurtherFactor (at 14 25) multiplying.Divide (factor_of (at 14 27) (primary.Number (at 14 27) 2)) ∷ []))
    []))) (at 14 28))) (at 14 30) (at 14 34) (at 14 38) ∷ assign_of (at 15 1) "X" [] (at 15 3) (expr_of (at 15 6)
    (primary.AllocatedAggregate (at 15 6) (mark (at 15 10) "Cell") (at 15 14) (aggregate.Several (at 15 15) (actual_of
    (at 15 16) (object (at 15 16) "N")) (at 15 17) (actual_of (at 15 19) (primary.Null (at 15 19))) [] (at 15 23)))) (at
    15 24) ∷ [])) (at 16 7) (Some (id (at 16 11) "MAIN")) (at 16 15)) ∷ []) ∷ [])
unfolding computes resolves
full_type_elsewhere_3 = refl

-- A package body has no specification.
no_specification_1 : IsFirstBrokenOf NoBody (at 1 14) ((unit.OfBody (at 1 1) [] (package_body_of (at 1 1) (at 1 9) (id
    (at 1 14) "Former_P") None (at 1 23) (part.Completed (at 1 26) (subprogram_of (at 1 26) (subspec.Procedure (at 1 26)
    (id (at 1 36) "Former_Q") None) None (at 1 45) [] (at 1 48) (sole (at 1 54) (stmt.Null (at 1 54) (at 1 58))) (at 1
    60) (Some (id (at 1 64) "Former_Q")) (at 1 72)) ∷ []) (at 1 74) (Some (id (at 1 78) "Former_P")) (at 1 86)) ∷
    unit.OfSubprogram (at 2 4) (context.With (at 2 4) (selected (at 2 9) "Ada" (at 2 12) (at 2 13) "Text_IO") [] (at 2
    20) ∷ use_context (use_of (at 2 22) None (selected (at 2 26) "Ada" (at 2 29) (at 2 30) "Text_IO") [] (at 2 37)) ∷
    context.With (at 2 39) (selected (at 2 44) "Ada" (at 2 47) (at 2 48) "Integer_Text_IO") [] (at 2 63) ∷ use_context
    (use_of (at 2 65) None (selected (at 2 69) "Ada" (at 2 72) (at 2 73) "Integer_Text_IO") [] (at 2 88)) ∷ context.With
    (at 2 90) (selected (at 2 95) "Ada" (at 2 98) (at 2 99) "Unchecked_Deallocation") [] (at 2 121) ∷ []) (subprogram_of
    (at 3 1) (subspec.Procedure (at 3 1) (id (at 3 11) "Main") None) None (at 3 16) (item.IncompleteType (at 4 1) (id
    (at 4 6) "Cell") (at 4 10) ∷ item.AccessType (at 5 1) (id (at 5 6) "List") (at 5 11) (at 5 14) (mark (at 5 21)
    "Cell") (at 5 25) ∷ item.RecordType (at 6 4) (id (at 6 9) "Cell") (at 6 14) (at 6 17) (fields_of (id (at 6 24)
    "Value") [] (at 6 30) (mark (at 6 32) "Integer") (at 6 39)) (fields_of (id (at 6 41) "Next") [] (at 6 46) (mark (at
    6 48) "List") (at 6 52) ∷ []) (at 6 54) (at 6 58) (at 6 64) ∷ objects_of (id (at 7 7) "X") (next_id_of (at 7 8) (at
    7 10) "Y" ∷ []) (at 7 12) None (indication_of (mark (at 7 14) "List")) (at 7 18) ∷ initialized_of (id (at 8 4) "N")
    [] (at 8 6) None (indication_of (mark (at 8 8) "Integer")) (at 8 16) (expr_of (at 8 19) (primary.Number (at 8 19)
    2)) (at 8 20) ∷ []) (at 9 1) (stmts.Sequence (at 10 1) (stmt.Case (at 10 1) (expr_of (at 10 6) (object (at 10 6)
    "N")) (at 10 8) (alternative.Alternative (at 10 11) (choice.Value (at 10 16) (expr_of (at 10 16) (primary.Number (at
    10 16) 1))) [] (at 10 18) (sole (at 10 21) (stmt.Null (at 10 21) (at 10 25)))) (alternative.Alternative (at 10 27)
    (choice.Others (at 10 32)) [] (at 10 39) (sole (at 10 42) (assign_of (at 10 42) "N" [] (at 10 44) (expr_of (at 10
    47) (primary.Number (at 10 47) 2)) (at 10 48))) ∷ []) (at 10 50) (at 10 54) (at 10 58)) (assign_of (at 11 7) "X" []
    (at 11 9) (expr_of (at 11 12) (primary.AllocatedAggregate (at 11 12) (mark (at 11 16) "Cell") (at 11 20)
    (aggregate.Several (at 11 21) (actual_of (at 11 22) (object (at 11 22) "N")) (at 11 23) (actual_of (at 11 25)
    (primary.Null (at 11 25))) [] (at 11 29)))) (at 11 30) ∷ [])) (at 12 7) (Some (id (at 12 11) "Main")) (at 12 15)) ∷
    []) ∷ [])
unfolding computes resolves
no_specification_1 = refl

no_specification_2 : IsFirstBrokenOf NoBody (at 1 14) ((unit.OfBody (at 1 1) [] (package_body_of (at 1 1) (at 1 9) (id
    (at 1 14) "Usual_P") None (at 1 22) (part.Declared (at 1 25) (decl.OfItem (at 1 25) (objects_of (id (at 1 25)
    "Usual_X") [] (at 1 33) None (indication_of (mark (at 1 35) "Integer")) (at 1 42))) ∷ []) (at 1 44) (Some (id (at 1
    48) "Usual_P")) (at 1 55)) ∷ unit.OfSubprogram (at 2 1) (context.With (at 2 1) (selected (at 2 6) "Ada" (at 2 9) (at
    2 10) "Text_IO") [] (at 2 17) ∷ use_context (use_of (at 2 19) None (selected (at 2 23) "Ada" (at 2 26) (at 2 27)
    "Text_IO") [] (at 2 34)) ∷ context.With (at 2 36) (selected (at 2 41) "Ada" (at 2 44) (at 2 45) "Integer_Text_IO")
    [] (at 2 60) ∷ use_context (use_of (at 2 62) None (selected (at 2 66) "Ada" (at 2 69) (at 2 70) "Integer_Text_IO")
    [] (at 2 85)) ∷ context.With (at 2 87) (selected (at 2 92) "Ada" (at 2 95) (at 2 96) "Unchecked_Deallocation") []
    (at 2 118) ∷ []) (subprogram_of (at 3 1) (subspec.Procedure (at 3 1) (id (at 3 11) "Main") None) None (at 3 16)
    (item.IncompleteType (at 4 1) (id (at 4 6) "Cell") (at 4 10) ∷ item.AccessType (at 5 1) (id (at 5 6) "List") (at 5
    11) (at 5 14) (mark (at 5 21) "Cell") (at 5 25) ∷ item.RecordType (at 6 1) (id (at 6 6) "Cell") (at 6 11) (at 6 14)
    (fields_of (id (at 6 21) "Value") [] (at 6 27) (mark (at 6 29) "Integer") (at 6 36)) (fields_of (id (at 6 38)
    "Next") [] (at 6 43) (mark (at 6 45) "List") (at 6 49) ∷ []) (at 6 51) (at 6 55) (at 6 61) ∷ objects_of (id (at 7 1)
    "X") (next_id_of (at 7 2) (at 7 4) "Y" ∷ []) (at 7 6) None (indication_of (mark (at 7 8) "List")) (at 7 12) ∷
    initialized_of (id (at 8 1) "N") [] (at 8 3) None (indication_of (mark (at 8 5) "Integer")) (at 8 13) (expr_of (at 8
    16) (primary.Number (at 8 16) 1)) (at 8 17) ∷ item.Instance (at 9 1) (id (at 9 11) "Free") (at 9 16) (at 9 19)
    (selected (at 9 23) "Ada" (at 9 26) (at 9 27) "Unchecked_Deallocation") (at 9 50) (actual_of (at 9 51) (object (at 9
    51) "Cell")) (next_arg.FurtherArg (at 9 55) (actual_of (at 9 57) (object (at 9 57) "List")) ∷ []) (at 9 61) (at 9
    62) ∷ []) (at 10 1) (stmts.Sequence (at 11 1) (stmt.While (at 11 1) (expr.LoneRelation (at 11 7) (rel.Compared (at
    11 7) (sum_of (at 11 7) (object (at 11 7) "N")) relational.Greater (at 11 9) (sum_of (at 11 11) (primary.Number (at
    11 11) 5)))) (at 11 13) (sole (at 11 18) (assign_of (at 11 18) "N" [] (at 11 20) (expr.LoneRelation (at 11 23)
    (rel.LoneSum (at 11 23) (sum.Unsigned (at 11 23) (term.Product (at 11 23) (factor_of (at 11 23) (object (at 11 23)
    "N")) (next_factor.FurtherFactor (at 11 25) multiplying.Divide (factor_of (at 11 27) (primary.Number (at 11 27) 2))
    ∷ [])) []))) (at 11 28))) (at 11 30) (at 11 34) (at 11 38)) (stmt.For (at 12 1) (id (at 12 5) "I") (at 12 7) None
    (range.Bounds (at 12 10) (expr_of (at 12 10) (primary.Number (at 12 10) 1)) (at 12 12) (expr_of (at 12 15)
    (primary.Number (at 12 15) 3))) (at 12 17) (sole (at 12 22) (assign_of (at 12 22) "N" [] (at 12 24)
    (expr.LoneRelation (at 12 27) (rel.LoneSum (at 12 27) (sum.Unsigned (at 12 27) (term_of (at 12 27) (object (at 12
    27) "N")) (next_term.FurtherTerm (at 12 29) adding.Add (term_of (at 12 31) (object (at 12 31) "I")) ∷ [])))) (at 12
    32))) (at 12 34) (at 12 38) (at 12 42) ∷ [])) (at 13 1) (Some (id (at 13 5) "Main")) (at 13 9)) ∷ []) ∷ [])
unfolding computes resolves
no_specification_2 = refl

no_specification_3 : IsFirstBrokenOf NoBody (at1 1 32) ((unit.OfSubprogram (at 1 1) (context.With (at 1 1) (selected (at
    1 6) "Ada" (at 1 9) (at 1 10) "Text_IO") [] (at 1 17) ∷ use_context (use_of (at 1 19) None (selected (at 1 23) "Ada"
    (at 1 26) (at 1 27) "Text_IO") [] (at 1 34)) ∷ context.With (at 1 36) (selected (at 1 41) "Ada" (at 1 44) (at 1 45)
    "Integer_Text_IO") [] (at 1 60) ∷ use_context (use_of (at 1 62) None (selected (at 1 66) "Ada" (at 1 69) (at 1 70)
    "Integer_Text_IO") [] (at 1 85)) ∷ context.With (at 1 87) (selected (at 1 92) "Ada" (at 1 95) (at 1 96)
    "Unchecked_Deallocation") [] (at 1 118) ∷ []) (subprogram_of (at 2 1) (subspec.Procedure (at 2 1) (id (at 2 11)
    "Main") None) None (at 2 16) (item.IncompleteType (at 2 19) (id (at 2 24) "Cell") (at 2 28) ∷ item.AccessType (at 2
    30) (id (at 2 35) "List") (at 2 40) (at 2 43) (mark (at 2 50) "Cell") (at 2 54) ∷ item.RecordType (at 2 56) (id (at
    2 61) "Cell") (at 2 66) (at 2 69) (fields_of (id (at 2 76) "Value") [] (at 2 82) (mark (at 2 84) "Integer") (at 2
    91)) (fields_of (id (at 2 93) "Next") [] (at 2 98) (mark (at 2 100) "List") (at 2 104) ∷ []) (at 2 106) (at 2 110)
    (at 2 116) ∷ objects_of (id (at 3 1) "X") (next_id_of (at 3 2) (at 3 4) "Y" ∷ []) (at 3 6) None (indication_of (mark
    (at 3 8) "List")) (at 3 12) ∷ initialized_of (id (at 3 14) "N") [] (at 3 16) None (indication_of (mark (at 3 18)
    "Integer")) (at 3 26) (expr_of (at 3 29) (primary.Number (at 3 29) 1)) (at 3 30) ∷ []) (at 3 32) (stmts.Sequence (at
    3 38) (stmt.If (at 3 38) (expr.LoneRelation (at 3 41) (rel.LoneSum (at 3 41) (sum.Unsigned (at 3 41) (term.Product
    (at 3 41) (factor.Not (at 3 41) (object (at 3 45) "End_Of_File")) []) []))) (at 3 57) (sole (at 3 62) (call_of (at 3
    62) "Get" (suffix.Applied (at 3 66) (actual_of (at 3 67) (object (at 3 67) "N")) [] (at 3 68) ∷ []) (at 3 69))) []
    (at 3 71) (at 3 75) (at 3 77)) (stmt.IfElse (at 4 1) (expr.LoneRelation (at 4 4) (rel.Compared (at 4 4) (sum_of (at
    4 4) (object (at 4 4) "N")) relational.Greater (at 4 6) (sum_of (at 4 8) (primary.Number (at 4 8) 3)))) (at 4 10)
    (sole (at 4 15) (assign_of (at 4 15) "N" [] (at 4 17) (expr.LoneRelation (at 4 20) (rel.LoneSum (at 4 20)
    (sum.Unsigned (at 4 20) (term_of (at 4 20) (object (at 4 20) "N")) (next_term.FurtherTerm (at 4 22) adding.Subtract
    (term_of (at 4 24) (primary.Number (at 4 24) 1)) ∷ [])))) (at 4 25))) [] (at 4 27) (sole (at 4 32) (stmt.Null (at 4
    32) (at 4 36))) (at 4 38) (at 4 42) (at 4 44) ∷ assign_of (at 4 46) "X" [] (at 4 48) (expr_of (at 4 51)
    (primary.AllocatedAggregate (at 4 51) (mark (at 4 55) "Cell") (at 4 59) (aggregate.Several (at 4 60) (actual_of (at
    4 61) (object (at 4 61) "N")) (at 4 62) (actual_of (at 4 64) (primary.Null (at 4 64))) [] (at 4 68)))) (at 4 69) ∷
    assign_of (at 4 71) "Y" [] (at 4 73) (expr_of (at 4 76) (object (at 4 76) "X")) (at 4 77) ∷ assign_of (at 4 79) "X"
    [] (at 4 81) (expr_of (at 4 84) (primary.Null (at 4 84))) (at 4 88) ∷ stmt.Case (at 4 90) (expr_of (at 4 95) (object
    (at 4 95) "N")) (at 4 97) (alternative.Alternative (at 4 100) (choice.Value (at 4 105) (expr_of (at 4 105)
    (primary.Number (at 4 105) 1))) [] (at 4 107) (sole (at 4 110) (stmt.Null (at 4 110) (at 4 114))))
    (alternative.Alternative (at 4 116) (choice.Others (at 4 121)) [] (at 4 128) (sole (at 4 131) (assign_of (at 4 131)
    "N" [] (at 4 133) (expr_of (at 4 136) (primary.Number (at 4 136) 2)) (at 4 137))) ∷ []) (at 4 139) (at 4 143) (at 4
    147) ∷ [])) (at 5 1) (Some (id (at 5 5) "Main")) (at 5 9)) ∷ []) ∷ (unit.OfBody (at1 1 1) (context.With (at1 1 1)
    (selected (at1 1 6) "Ada" (at1 1 9) (at1 1 10) "Text_IO") [] (at1 1 17) ∷ []) (package_body_of (at1 1 19) (at1 1 27)
    (id (at1 1 32) "Extra_P") None (at1 1 40) (part.Completed (at1 1 43) (subprogram_of (at1 1 43) (subspec.Procedure
    (at1 1 43) (id (at1 1 53) "Extra_Q") None) None (at1 1 61) [] (at1 1 64) (sole (at1 1 70) (call_of (at1 1 70) "Ada"
    (suffix.Selected (at1 1 73) (id (at1 1 74) "Text_IO") ∷ suffix.Selected (at1 1 81) (id (at1 1 82) "New_Line") ∷ [])
    (at1 1 90))) (at1 1 92) (Some (id (at1 1 96) "Extra_Q")) (at1 1 103)) ∷ []) (at1 1 105) (Some (id (at1 1 109)
    "Extra_P")) (at1 1 116)) ∷ []) ∷ [])
unfolding computes resolves
no_specification_3 = refl
