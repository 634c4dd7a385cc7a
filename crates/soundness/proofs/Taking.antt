-- Expressions take values that wait, the first ones, each of one word.
use Rattle.std.proofs.Common.{◌≡◌, refl, sym, ap, ◌∙◌, subst, ◌⊎◌, inl, inr, ℕ, zero, suc, ◌+◌, Bool, true, false, ◌||◌, List, [], ◌∷◌, ◌++◌, length, drop, get_or, arith}
use Rattle.std.specs.List.{AllByRecursion}
use Rattle.std.proofs.lemmas.Bool.{true≢false}
use Rattle.machine.specs.typed_tree.Trees.{TypedTree}
use Rattle.machine.specs.flow_paths.Objects.{Typing}
use Rattle.machine.specs.flow_paths.Names.{has_call, waiting}
use Rattle.machine.specs.Words.{Word}
use Rattle.soundness.specs.Sound.{ArePlainResults}
use Rattle.soundness.proofs.Waits.{no_waits, drop_none}

-- a value of one word
abbrev pub IsWord : List Word → Type 0
IsWord ws = length ws ≡ 1

-- So many values are taken, each of one word; the others wait on.
pub record Takes (n : ℕ) (before behind : List (List Word)) : Type 0 where
  pub all : List (List Word)
  pub is : before ≡ all ++ behind
  pub count : length all ≡ n
  pub each : AllByRecursion IsWord all

pub takes_none : (ws : List (List Word)) → Takes 0 ws ws
takes_none ws = record { all = []; is = refl; count = refl; each = tt }

pub takes_as : (n k : ℕ) (before behind : List (List Word)) → n ≡ k → Takes n before behind → Takes k before behind
takes_as n k before behind same takes = subst (λ z. Takes z before behind) same takes

-- an expression without calls takes none
pub no_takes : (e : TypedTree) → has_call e ≡ false → (ws : List (List Word)) → Takes (waiting e) ws ws
no_takes e none ws = takes_as 0 (waiting e) ws ws (sym (no_waits e none)) (takes_none ws)

one_more : (w : List Word) → IsWord w → (j : ℕ) (before mid : List (List Word)) → Takes j before mid → Takes (suc j) (w ∷ before) mid
one_more w one j before mid takes = record {
  all = w ∷ takes.all;
  is = ap (λ z. w ∷ z) takes.is;
  count = ap suc takes.count;
  each = (one, takes.each);
}

split : (j k : ℕ) (all behind : List (List Word)) → length all ≡ j + k → AllByRecursion IsWord all
    → (mid : List (List Word)) × Takes j (all ++ behind) mid × Takes k mid behind
split zero k all behind count each = (all ++ behind, takes_none (all ++ behind), record { all = all; is = refl; count = (let same : length all ≡ k = omega (arith, count) in same); each = each })
split (suc j) k [] behind count each = absurd (omega (arith, count))
split (suc j) k (w ∷ all) behind count each =
    let later = split j k all behind (omega (arith, count)) each.1 in (later.0, one_more w each.0 j (all ++ behind) later.0 later.1, later.2)

-- first those of the one, and then those of the other
pub takes_both : (j k : ℕ) (before behind : List (List Word)) → Takes (j + k) before behind
    → (mid : List (List Word)) × Takes j before mid × Takes k mid behind
takes_both j k before behind takes =
    let two = split j k takes.all behind takes.count takes.each in
    (two.0, subst (λ z. Takes j z two.0) (sym takes.is) two.1, two.2)

no_length : (all : List (List Word)) → length all ≡ 0 → all ≡ []
no_length [] none = refl
no_length (w ∷ all) none = absurd (omega (arith, none))

pub takes_zero : (before behind : List (List Word)) → Takes 0 before behind → before ≡ behind
takes_zero before behind takes = takes.is ∙ ap (λ z. z ++ behind) (no_length takes.all takes.count)

-- one value
pub takes_first : (before behind : List (List Word)) → Takes 1 before behind → (w : List Word) × IsWord w × (before ≡ w ∷ behind)
takes_first before behind takes = first takes.all takes.is takes.count takes.each
  where
    first : (all : List (List Word)) → before ≡ all ++ behind → length all ≡ 1 → AllByRecursion IsWord all → (w : List Word) × IsWord w × (before ≡ w ∷ behind)
    first [] is count each = absurd (omega (arith, count))
    first (w ∷ []) is count each = (w, each.0, is)
    first (w ∷ (x ∷ all)) is count each = absurd (omega (arith, count))

pub first_is : (before behind : List (List Word)) → Takes 1 before behind → IsWord (get_or before 0 []) × (drop 1 before ≡ behind)
first_is before behind takes =
    let first = takes_first before behind takes in
    (subst (λ z. IsWord (get_or z 0 [])) (sym first.2) first.1, ap (drop 1) first.2 ∙ drop_none behind)

-- ---- which results are taken

-- An expression has no call, or the results of all functions are of scalar types.
abbrev pub TakesPlainly : Typing → Bool → Type 0
TakesPlainly s calls = (calls ≡ false) ⊎ ArePlainResults s

no_either : (a b : Bool) → a || b ≡ false → (a ≡ false) × (b ≡ false)
no_either true b e = absurd (true≢false e)
no_either false b e = (refl, e)

pub both_plainly : (s : Typing) (a b : Bool) → TakesPlainly s (a || b) → TakesPlainly s a × TakesPlainly s b
both_plainly s a b (inl none) = let both = no_either a b none in (inl both.0, inl both.1)
both_plainly s a b (inr plain) = (inr plain, inr plain)

pub nothing_more : (n : ℕ) → n + 0 ≡ n
nothing_more n = omega arith
