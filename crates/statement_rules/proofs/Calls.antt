-- Whether actuals are one.
use Rattle.std.proofs.Common.{◌≡◌, refl, ℕ, suc, ◌+◌, Bool, true, false, ◌&&◌, ◌||◌, List, [], ◌∷◌, length, nat_eq, Some, None, arith, if◌then◌else◌}
use Rattle.std.proofs.lemmas.Bool.Decides.{nat_tests}
use Rattle.type_definitions.specs.Entries.{same_word}
use Rattle.type_definitions.specs.Expressions.{Given, associates, all_by_position, each_once}
use Rattle.type_definitions.specs.Statements.{is_no, is_one, name_x}
use Rattle.statement_rules.specs.Calls.{may_be_x}

pub one_given : (rest : List Given) → is_one (None ∷ rest) ≡ is_no rest
one_given [] = refl
one_given (w ∷ rest) = refl

one_more : (b : Bool) → nat_eq (if b then 0 + 1 else 0) 1 && true ≡ b
one_more true = refl
one_more false = refl

not_one : (n : ℕ) (b : Bool) → nat_eq (suc (suc n)) 1 && b ≡ false
not_one n b = grind (arith, nat_tests)

pub one_for_x : (w : Given) (rest : List Given) → associates (name_x ∷ []) (w ∷ rest) ≡ (is_no rest && may_be_x w)
one_for_x None [] = refl
one_for_x (Some v) [] = one_more (same_word name_x v)
one_for_x w (v ∷ rest) = not_one (length rest) (all_by_position (w ∷ v ∷ rest) || each_once (name_x ∷ []) (w ∷ v ∷ rest))
