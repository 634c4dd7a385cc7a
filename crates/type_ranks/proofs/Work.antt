-- What is left to be done, where one more type is entered.
use Rattle.std.proofs.Common.{◌≡◌, ℕ, zero, suc, ◌+◌, Bool, true, false, List, [], ◌∷◌, refl, arith, length, set}
use Rattle.type_definitions.specs.Types.{Table, info}
use Rattle.type_ranks.specs.Ranks.{parts}
use Rattle.type_ranks.specs.Stages.{cost, is_entered, work}

never : true ≡ false → ⊥
never is = cc

marked_cost : (b : Bool) (n : ℕ) → b ≡ false → cost b n ≡ suc n
marked_cost false n is = refl
marked_cost true n is = absurd (never is)

no_parts : (t : ℕ) → length (parts (info [] t)) ≡ 0
no_parts zero = refl
no_parts (suc t) = refl

pub work_set : (table : Table) (marks : List Bool) (t : ℕ) → is_entered marks t ≡ false
    → work table marks ≡ suc (length (parts (info table t))) + work table (set marks t true)
work_set table [] t is = absurd (never is)
work_set [] (b ∷ marks) zero is = (let one = marked_cost b 0 is in omega (arith, one))
work_set [] (b ∷ marks) (suc t) is =
    let rest = work_set [] marks t is in
    let none = no_parts t in
    omega (arith, rest, none)
work_set (i ∷ table) (b ∷ marks) zero is = (let one = marked_cost b (length (parts i)) is in omega (arith, one))
work_set (i ∷ table) (b ∷ marks) (suc t) is = (let rest = work_set table marks t is in omega (arith, rest))
