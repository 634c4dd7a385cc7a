-- Declarations that share a value.
use Rattle.std.proofs.Common.{◌≡◌, ℕ, ◌||◌, IsTrue, refl, sym, ap, ◌∙◌, Option}
use Rattle.std.specs.Prelude.{Bool, true, false, if◌then◌else◌}
use Rattle.std.proofs.Math.Bool.{beq}
use Rattle.spark_base.specs.declared.position.Pos.{Pos}
use Rattle.typed_tree.specs.Trees.{TypedTree, TypedCode, Declare, More}
use Rattle.flow_paths.specs.Objects.{Typing, is_borrower, is_observer}
use Rattle.deep_names.specs.Found.{earlier_of}
use Rattle.deep_names.specs.Trees.{depths_in}
use Rattle.deep_names.specs.Statements.{code_deep, declared_deep, first_source_deep}
use Rattle.deep_names.proofs.Earlier.{earlier_again}

pub one_truth : (a b : Bool) → IsTrue (beq a b) → a ≡ b
one_truth true true e = refl
one_truth true false e = absurd (cc e)
one_truth false true e = absurd (cc e)
one_truth false false e = refl

-- By objects of one kind, the same is found in a value.
alike : (s : Typing) (x y : ℕ) (v : TypedTree)
    → (is_borrower s x || is_observer s x) ≡ (is_borrower s y || is_observer s y)
    → declared_deep s x v ≡ declared_deep s y v
alike s x y v same = ap (λ b. if b then first_source_deep s v else (depths_in s v).all) same

pub declared_alike : (s : Typing) (r : Option ℕ) (p : Pos) (x y : ℕ) (u v : TypedTree) (c : TypedCode) → c ≡ Declare p x u → u ≡ v
    → (is_borrower s x || is_observer s x) ≡ (is_borrower s y || is_observer s y)
    → code_deep s r c ≡ declared_deep s y v
unfolding code_deep
declared_alike s r p x y u v c is value same =
    ap (code_deep s r) is ∙ ap (declared_deep s x) value ∙ alike s x y v same

-- What is found in the first of a list is found in the list.
pub found_again : (s : Typing) (r : Option ℕ) (a rest c : TypedCode) (own : Option Pos) → c ≡ More a rest → code_deep s r a ≡ own
    → earlier_of own (code_deep s r c) ≡ code_deep s r c
unfolding code_deep
found_again s r a rest c own is first =
    let whole : code_deep s r c ≡ earlier_of own (code_deep s r rest) =
    ap (code_deep s r) is ∙ ap (λ q. earlier_of q (code_deep s r rest)) first in
    ap (earlier_of own) whole ∙ earlier_again own (code_deep s r rest) ∙ sym whole

pub found_first : (s : Typing) (r : Option ℕ) (p : Pos) (x : ℕ) (v : TypedTree) (a rest : TypedCode) → a ≡ Declare p x v
    → earlier_of (declared_deep s x v) (code_deep s r rest) ≡ code_deep s r rest
    → earlier_of (code_deep s r a) (code_deep s r rest) ≡ code_deep s r rest
unfolding code_deep
found_first s r p x v a rest is same = ap (λ c. earlier_of (code_deep s r c) (code_deep s r rest)) is ∙ same
