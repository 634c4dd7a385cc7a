-- Values that aren't static, and initial values in packages: K7 and K8.
--
-- tools/tree_terms.py makes this of the sources that data/cases.txt has under its name.
use Rattle.std.proofs.Common.{refl, [], ◌∷◌}
use Rattle.std.specs.Prelude.{false, true}
use Rattle.resolved_tree.specs.declared.operator.Operator.TheVariants as operator
use Rattle.resolved_tree.specs.declared.operator.UnaryOperator.TheVariants as unary
use Rattle.resolved_tree.specs.Trees.{Access, Array, Assign, Binary, Bounds, ConstrainedSubtype, Front, More, Named, NoMore, Number, Numbers, Objects, Package, Plain, Skip, SubBody, TypeDecl, Unary}
use Rattle.type_tests.proofs.ResolvedTrees.{at, declared, mark, program}
use Rattle.type_tests.proofs.TypeRules.{BreaksSentence, typing}

-- Bounds, choices and named numbers.
not_static_1 : BreaksSentence 7 (at 1 54) (program 18 (SubBody (Front (declared (at 1 11) 15 "Main") NoMore NoMore)
    (More (Objects (More (declared (at 1 19) 16 "N") NoMore) false (Plain (mark (at 1 23) 0)) NoMore) (More (TypeDecl
    (declared (at 1 37) 17 "A") (Array (Bounds (Number (at 1 49) 1) (Named (at 1 54) 16 NoMore)) (mark (at 1 60) 0)) (at
    1 67)) NoMore)) (More (Skip (at 1 75)) NoMore) (at 1 81) ∷ []))
unfolding typing
not_static_1 = refl

not_static_2 : BreaksSentence 7 (at 1 47) (program 17 (SubBody (Front (declared (at 1 11) 15 "Main") NoMore NoMore)
    (More (Objects (More (declared (at 1 19) 16 "X") NoMore) false (Plain (mark (at 1 23) 0)) NoMore) NoMore) (More
    (Assign (Named (at 1 38) 16 NoMore) (Binary (at 1 43) operator.Subtract (Number (at 1 43) 1) (Number (at 1 47)
    2147483648))) NoMore) (at 1 59) ∷ []))
unfolding typing
not_static_2 = refl

not_static_3 : BreaksSentence 7 (at 1 44) (program 17 (SubBody (Front (declared (at 1 11) 15 "Main") NoMore NoMore)
    (More (Objects (More (declared (at 1 19) 16 "X") NoMore) false (Plain (mark (at 1 23) 0)) NoMore) NoMore) (More
    (Assign (Named (at 1 38) 16 NoMore) (Unary (at 1 43) unary.Minus (Binary (at 1 44) operator.Modulo (Number (at 1 44)
    2147483648) (Number (at 1 59) 2)))) NoMore) (at 1 62) ∷ []))
unfolding typing
not_static_3 = refl

not_static_4 : BreaksSentence 7 (at 1 46) (program 17 (SubBody (Front (declared (at 1 11) 15 "Main") NoMore NoMore)
    (More (ConstrainedSubtype (declared (at 1 27) 16 "S") (mark (at 1 32) 1) (Unary (at 1 46) unary.Minus (Number (at 1
    47) 1)) (Number (at 1 52) 3)) NoMore) (More (Skip (at 1 61)) NoMore) (at 1 67) ∷ []))
unfolding typing
not_static_4 = refl

not_static_5 : BreaksSentence 7 (at 1 59) (program 18 (SubBody (Front (declared (at 1 11) 15 "Main") NoMore NoMore)
    (More (ConstrainedSubtype (declared (at 1 27) 16 "S") (mark (at 1 32) 1) (Number (at 1 46) 3) (Unary (at 1 51)
    unary.Minus (Number (at 1 52) 1))) (More (Objects (More (declared (at 1 55) 17 "X") NoMore) false (Plain (mark (at 1
    59) 16)) NoMore) NoMore)) (More (Skip (at 1 68)) NoMore) (at 1 74) ∷ []))
unfolding typing
not_static_5 = refl

not_static_6 : BreaksSentence 7 (at 1 80) (program 18 (SubBody (Front (declared (at 1 11) 15 "Main") NoMore NoMore)
    (More (ConstrainedSubtype (declared (at 1 27) 16 "S") (mark (at 1 32) 0) (Number (at 1 46) 1) (Number (at 1 51) 5))
    (More (ConstrainedSubtype (declared (at 1 62) 17 "T") (mark (at 1 67) 16) (Number (at 1 75) 2) (Number (at 1 80) 6))
    NoMore)) (More (Skip (at 1 89)) NoMore) (at 1 95) ∷ []))
unfolding typing
not_static_6 = refl

not_static_7 : BreaksSentence 7 (at 1 86) (program 19 (SubBody (Front (declared (at 1 11) 15 "Main") NoMore NoMore)
    (More (Objects (More (declared (at 1 19) 16 "X") NoMore) false (Plain (mark (at 1 23) 0)) (More (Number (at 1 34) 3)
    NoMore)) (More (Objects (More (declared (at 1 37) 17 "N") NoMore) true (Plain (mark (at 1 50) 0)) (More (Named (at 1
    61) 16 NoMore) NoMore)) (More (TypeDecl (declared (at 1 69) 18 "A") (Array (Bounds (Number (at 1 81) 1) (Named (at 1
    86) 17 NoMore)) (mark (at 1 92) 0)) (at 1 99)) NoMore))) (More (Skip (at 1 107)) NoMore) (at 1 113) ∷ []))
unfolding typing
not_static_7 = refl

not_static_8 : BreaksSentence 7 (at 1 35) (program 17 (SubBody (Front (declared (at 1 11) 15 "Main") NoMore NoMore)
    (More (Numbers (More (declared (at 1 19) 16 "N") NoMore) (Binary (at 1 35) operator.Divide (Number (at 1 35) 1)
    (Number (at 1 39) 0))) NoMore) (More (Skip (at 1 48)) NoMore) (at 1 54) ∷ []))
unfolding typing
not_static_8 = refl

-- The initial value of a package object.
package_value_1 : BreaksSentence 8 (at 1 62) (program 19 (Package (declared (at 1 9) 15 "P") (More (TypeDecl (declared
    (at 1 19) 16 "Ptr") (Access (mark (at 1 33) 0)) (at 1 40)) (More (Objects (More (declared (at 1 42) 17 "X") NoMore)
    false (Plain (mark (at 1 46) 16)) NoMore) (More (Objects (More (declared (at 1 51) 18 "Y") NoMore) false (Plain
    (mark (at 1 55) 16)) (More (Named (at 1 62) 17 NoMore) NoMore)) NoMore))) NoMore ∷ []))
unfolding typing
package_value_1 = refl
