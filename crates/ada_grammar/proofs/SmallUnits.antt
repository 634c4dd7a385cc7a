-- Units and declarations of subprograms: small sources, and the trees that are spelled by their
-- tokens.
use Rattle.std.proofs.Common.{refl, [], ◌∷◌}
use Rattle.std.specs.Prelude.{Some, None}
use Rattle.ada_tree.specs.declared.unit.SourceUnit.TheVariants as unit
use Rattle.ada_tree.specs.declared.unit.Context.TheVariants as context
use Rattle.ada_tree.specs.declared.unit.BodyPart.TheVariants as part
use Rattle.ada_tree.specs.declared.subprogram.Decl.TheVariants as decl
use Rattle.ada_tree.specs.declared.subprogram.Formal.TheVariants as formal
use Rattle.ada_tree.specs.declared.subprogram.NextFormal.TheVariants as next_formal
use Rattle.ada_tree.specs.declared.subprogram.Subspec.TheVariants as subspec
use Rattle.ada_tree.specs.declared.declaration.Item.TheVariants as item
use Rattle.ada_tree.specs.declared.declaration.Indication.TheVariants as indication
use Rattle.ada_tree.specs.declared.statement.Stmt.TheVariants as stmt
use Rattle.ada_tree.specs.declared.identifier.NextIdentifier.TheVariants as next_id
use Rattle.ada_tree.specs.declared.identifier.NextDotted.TheVariants as next_dotted
use Rattle.ada_grammar.proofs.SmallSources.{computes, IsTextOf, source_of, at, id, mark, selected, use_of, pragma_of, pragma_on, mode_on, mode_of, formals_of, subprogram_of, package_of, package_body_of, private_part, expr_of, object, null_at, sole, with_stmt}

-- unit = package, without parts
package_alone : IsTextOf "package P is end;"
    (unit.OfPackage (at 1) [] (package_of 1 (id 9 "P") None 11 [] None 14 None 17) ∷ [])
unfolding computes
package_alone = source_of (search) (search) refl

-- package = "package" id "is" {decl} "private" {decl} "end" id ";"
package_with_parts : IsTextOf "package P is type T; private type T is (A); X : T; end P;"
    (unit.OfPackage (at 1) [] (package_of 1 (id 9 "P") None 11 (decl.OfItem (at 14) (item.IncompleteType (at 14) (id 19 "T")
    (at 20)) ∷ []) (Some (private_part 22 (decl.OfItem (at 30) (item.EnumerationType (at 30) (id 35 "T") (at 37) (at 40)
    (id 41 "A") [] (at 42) (at 43)) ∷ decl.OfItem (at 45) (item.Objects (at 45) (id 45 "X") [] (at 47) None (indication.Mark
    (at 49) (mark 49 "T")) (at 50)) ∷ []))) 52 (Some (id 56 "P")) 57) ∷ [])
unfolding computes
package_with_parts = source_of (search) (search) refl

-- "private" with no decl after it
private_part_without_parts : IsTextOf "package P is private end;"
    (unit.OfPackage (at 1) [] (package_of 1 (id 9 "P") None 11 [] (Some (private_part 14 [])) 22 None 25) ∷ [])
unfolding computes
private_part_without_parts = source_of (search) (search) refl

-- unit = packbody, without parts
package_body_alone : IsTextOf "package body P is end;"
    (unit.OfBody (at 1) [] (package_body_of 1 9 (id 14 "P") None 16 [] 19 None 22) ∷ [])
unfolding computes
package_body_alone = source_of (search) (search) refl

-- packbody = "package" "body" id "is" {decl | subbody} "end" id ";"
package_body_with_parts : IsTextOf "package body P is X : T; procedure Q; procedure R is begin null; end R; end P;"
    (unit.OfBody (at 1) [] (package_body_of 1 9 (id 14 "P") None 16 (part.Declared (at 19) (decl.OfItem (at 19) (item.Objects
    (at 19) (id 19 "X") [] (at 21) None (indication.Mark (at 23) (mark 23 "T")) (at 24))) ∷ part.Declared (at 26)
    (decl.Subprogram (at 26) (subspec.Procedure (at 26) (id 36 "Q") None) None (at 37)) ∷ part.Completed (at 39) (subprogram_of
    39 (subspec.Procedure (at 39) (id 49 "R") None) None 51 [] 54 (null_at 60) 66 (Some (id 70 "R")) 71) ∷ []) 73 (Some
    (id 77 "P")) 78) ∷ [])
unfolding computes
package_body_with_parts = source_of (search) (search) refl

-- unit = subbody
procedure_alone : IsTextOf "procedure P is begin null; end;" (with_stmt (stmt.Null (at 22) (at 26)) 28)
unfolding computes
procedure_alone = source_of (search) (search) refl

-- subbody = subspec "is" "begin" stmts "end" id ";"
procedure_closed_by_its_name : IsTextOf "procedure Main is begin null; end Main;"
    (unit.OfSubprogram (at 1) [] (subprogram_of 1 (subspec.Procedure (at 1) (id 11 "Main") None) None 16 [] 19 (null_at 25) 31
    (Some (id 35 "Main")) 39) ∷ [])
unfolding computes
procedure_closed_by_its_name = source_of (search) (search) refl

-- source = unit unit EndOfFile
two_units : IsTextOf "package P is end; procedure Q is begin null; end;"
    (unit.OfPackage (at 1) [] (package_of 1 (id 9 "P") None 11 [] None 14 None 17) ∷ unit.OfSubprogram (at 19) [] (subprogram_of
    19 (subspec.Procedure (at 19) (id 29 "Q") None) None 31 [] 34 (null_at 40) 46 None 49) ∷ [])
unfolding computes
two_units = source_of (search) (search) refl

-- context = "with" dotted ";"
with_clause : IsTextOf "with A; procedure P is begin null; end;"
    (unit.OfSubprogram (at 1) (context.With (at 1) (mark 6 "A") [] (at 7) ∷ []) (subprogram_of 9 (subspec.Procedure (at 9)
    (id 19 "P") None) None 21 [] 24 (null_at 30) 36 None 39) ∷ [])
unfolding computes
with_clause = source_of (search) (search) refl

-- context = "with" dotted {"," dotted} ";"
with_clause_of_names : IsTextOf "with A.B, C; procedure P is begin null; end;"
    (unit.OfSubprogram (at 1) (context.With (at 1) (selected 6 "A" 7 8 "B") (next_dotted.FurtherDotted (at 9) (mark 11 "C") ∷ [])
    (at 12) ∷ []) (subprogram_of 14 (subspec.Procedure (at 14) (id 24 "P") None) None 26 [] 29 (null_at 35) 41 None 44) ∷ [])
unfolding computes
with_clause_of_names = source_of (search) (search) refl

-- unit = {context} package
two_clauses : IsTextOf "with A; use A; package P is end;"
    (unit.OfPackage (at 1) (context.With (at 1) (mark 6 "A") [] (at 7) ∷ context.Use (at 9) (use_of 9 None (mark 13 "A") [] 14)
    ∷ []) (package_of 16 (id 24 "P") None 26 [] None 29 None 32) ∷ [])
unfolding computes
two_clauses = source_of (search) (search) refl

-- unit = {context} packbody
clauses_of_body : IsTextOf "use type A.T, B.U; package body P is end;"
    (unit.OfBody (at 1) (context.Use (at 1) (use_of 1 (Some (at 5)) (selected 10 "A" 11 12 "T") (next_dotted.FurtherDotted (at 13)
    (selected 15 "B" 16 17 "U") ∷ []) 18) ∷ []) (package_body_of 20 28 (id 33 "P") None 35 [] 38 None 41) ∷ [])
unfolding computes
clauses_of_body = source_of (search) (search) refl

-- context = pragma, pragma = "pragma" SPARK_Mode ";"
pragma_clause : IsTextOf "pragma SPARK_Mode; procedure P is begin null; end;"
    (unit.OfSubprogram (at 1) (context.Pragma (at 1) (pragma_of 1 (id 8 "SPARK_Mode") None 18) ∷ []) (subprogram_of 20
    (subspec.Procedure (at 20) (id 30 "P") None) None 32 [] 35 (null_at 41) 47 None 50) ∷ [])
unfolding computes
pragma_clause = source_of (search) (search) refl

-- pragma = "pragma" SPARK_Mode "(" On ")" ";"
pragma_clause_on : IsTextOf "pragma Spark_Mode (ON); package P is end;"
    (unit.OfPackage (at 1) (context.Pragma (at 1) (pragma_of 1 (id 8 "Spark_Mode") (Some (pragma_on 19 (id 20 "ON") 22)) 23) ∷
    []) (package_of 25 (id 33 "P") None 35 [] None 38 None 41) ∷ [])
unfolding computes
pragma_clause_on = source_of (search) (search) refl

-- mode = "with" SPARK_Mode
mode_of_package : IsTextOf "package P with SPARK_Mode is end;"
    (unit.OfPackage (at 1) [] (package_of 1 (id 9 "P") (Some (mode_of 11 (id 16 "SPARK_Mode") None)) 27 [] None 30 None 33) ∷
    [])
unfolding computes
mode_of_package = source_of (search) (search) refl

-- mode = "with" SPARK_Mode "=>" On
mode_of_package_body : IsTextOf "package body P with SPARK_Mode => On is end;"
    (unit.OfBody (at 1) [] (package_body_of 1 9 (id 14 "P") (Some (mode_of 16 (id 21 "SPARK_Mode") (Some (mode_on 32
    (id 35 "On"))))) 38 [] 41 None 44) ∷ [])
unfolding computes
mode_of_package_body = source_of (search) (search) refl

-- subbody = subspec mode "is" ..
mode_of_procedure : IsTextOf "procedure P with SPARK_Mode is begin null; end;"
    (unit.OfSubprogram (at 1) [] (subprogram_of 1 (subspec.Procedure (at 1) (id 11 "P") None) (Some (mode_of 13
    (id 18 "SPARK_Mode") None)) 29 [] 32 (null_at 38) 44 None 47) ∷ [])
unfolding computes
mode_of_procedure = source_of (search) (search) refl

-- decl = subspec ";"
declared_procedure : IsTextOf "package P is procedure Q; end;"
    (unit.OfPackage (at 1) [] (package_of 1 (id 9 "P") None 11 (decl.Subprogram (at 14) (subspec.Procedure (at 14) (id 24 "Q")
    None) None (at 25) ∷ []) None 27 None 30) ∷ [])
unfolding computes
declared_procedure = source_of (search) (search) refl

-- decl = subspec mode ";"
declared_procedure_with_mode : IsTextOf "package P is procedure Q with SPARK_Mode => On; end;"
    (unit.OfPackage (at 1) [] (package_of 1 (id 9 "P") None 11 (decl.Subprogram (at 14) (subspec.Procedure (at 14) (id 24 "Q")
    None) (Some (mode_of 26 (id 31 "SPARK_Mode") (Some (mode_on 42 (id 45 "On"))))) (at 47) ∷ []) None 49 None 52) ∷ [])
unfolding computes
declared_procedure_with_mode = source_of (search) (search) refl

-- subspec = "function" id "return" mark
declared_function : IsTextOf "package P is function F return A.T; end;"
    (unit.OfPackage (at 1) [] (package_of 1 (id 9 "P") None 11 (decl.Subprogram (at 14) (subspec.Function (at 14) (id 23 "F")
    None (at 25) (indication.Mark (at 32) (selected 32 "A" 33 34 "T"))) None (at 35) ∷ []) None 37 None 40) ∷ [])
unfolding computes
declared_function = source_of (search) (search) refl

-- subspec = "function" id formals "return" mark
function_with_formals : IsTextOf "function F (X : T) return T is begin return X; end;"
    (unit.OfSubprogram (at 1) [] (subprogram_of 1 (subspec.Function (at 1) (id 10 "F") (Some (formals_of 12 (formal.Moded
    (at 13) (id 13 "X") [] (at 15) None None (mark 17 "T")) [] 18)) (at 20) (indication.Mark (at 27) (mark 27 "T"))) None 29 []
    32 (sole 38 (stmt.ReturnValue (at 38) (expr_of 45 (object 45 "X")) (at 46))) 48 None 51) ∷ [])
unfolding computes
function_with_formals = source_of (search) (search) refl

-- subspec = "function" id "return" anon
function_with_anonymous_result : IsTextOf "package P is function F return access constant T; end;"
    (unit.OfPackage (at 1) [] (package_of 1 (id 9 "P") None 11 (decl.Subprogram (at 14) (subspec.Function (at 14) (id 23 "F")
    None (at 25) (indication.Anonymous (at 32) (Some (at 39)) (mark 48 "T"))) None (at 49) ∷ []) None 51 None 54) ∷ [])
unfolding computes
function_with_anonymous_result = source_of (search) (search) refl

-- formal = id ":" mark
formal_without_mode : IsTextOf "procedure P (X : T) is begin null; end;"
    (unit.OfSubprogram (at 1) [] (subprogram_of 1 (subspec.Procedure (at 1) (id 11 "P") (Some (formals_of 13 (formal.Moded
    (at 14) (id 14 "X") [] (at 16) None None (mark 18 "T")) [] 19))) None 21 [] 24 (null_at 30) 36 None 39) ∷ [])
unfolding computes
formal_without_mode = source_of (search) (search) refl

-- formal = id ":" "in" mark
formal_in : IsTextOf "procedure P (X : in T) is begin null; end;"
    (unit.OfSubprogram (at 1) [] (subprogram_of 1 (subspec.Procedure (at 1) (id 11 "P") (Some (formals_of 13 (formal.Moded
    (at 14) (id 14 "X") [] (at 16) (Some (at 18)) None (mark 21 "T")) [] 22))) None 24 [] 27 (null_at 33) 39 None 42) ∷ [])
unfolding computes
formal_in = source_of (search) (search) refl

-- formal = id ":" "out" mark
formal_out : IsTextOf "procedure P (X : out T) is begin null; end;"
    (unit.OfSubprogram (at 1) [] (subprogram_of 1 (subspec.Procedure (at 1) (id 11 "P") (Some (formals_of 13 (formal.Moded
    (at 14) (id 14 "X") [] (at 16) None (Some (at 18)) (mark 22 "T")) [] 23))) None 25 [] 28 (null_at 34) 40 None 43) ∷ [])
unfolding computes
formal_out = source_of (search) (search) refl

-- formal = id {"," id} ":" "in" "out" mark
formal_in_out : IsTextOf "procedure P (X, Y : in out A.T) is begin null; end;"
    (unit.OfSubprogram (at 1) [] (subprogram_of 1 (subspec.Procedure (at 1) (id 11 "P") (Some (formals_of 13 (formal.Moded
    (at 14) (id 14 "X") (next_id.FurtherIdentifier (at 15) (id 17 "Y") ∷ []) (at 19) (Some (at 21)) (Some (at 24)) (selected 28 "A" 29 30
    "T")) [] 31))) None 33 [] 36 (null_at 42) 48 None 51) ∷ [])
unfolding computes
formal_in_out = source_of (search) (search) refl

-- formal = id ":" anon, anon = "access" mark
formal_anonymous : IsTextOf "procedure P (X : access T) is begin null; end;"
    (unit.OfSubprogram (at 1) [] (subprogram_of 1 (subspec.Procedure (at 1) (id 11 "P") (Some (formals_of 13 (formal.Anonymous
    (at 14) (id 14 "X") [] (at 16) (at 18) None (mark 25 "T")) [] 26))) None 28 [] 31 (null_at 37) 43 None 46) ∷ [])
unfolding computes
formal_anonymous = source_of (search) (search) refl

-- formals = "(" formal {";" formal} ")"
formals_of_several_kinds : IsTextOf "procedure P (X, Y : access constant T; Z : U; W : out U) is begin null; end;"
    (unit.OfSubprogram (at 1) [] (subprogram_of 1 (subspec.Procedure (at 1) (id 11 "P") (Some (formals_of 13 (formal.Anonymous
    (at 14) (id 14 "X") (next_id.FurtherIdentifier (at 15) (id 17 "Y") ∷ []) (at 19) (at 21) (Some (at 28)) (mark 37 "T"))
    (next_formal.Semicolon (at 38) (formal.Moded (at 40) (id 40 "Z") [] (at 42) None None (mark 44 "U")) ∷ next_formal.Semicolon
    (at 45) (formal.Moded (at 47) (id 47 "W") [] (at 49) None (Some (at 51)) (mark 55 "U")) ∷ []) 56))) None 58 [] 61 (null_at
    67) 73 None 76) ∷ [])
unfolding computes
formals_of_several_kinds = source_of (search) (search) refl
