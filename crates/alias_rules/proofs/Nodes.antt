-- Past the end of the rows there is nothing.
use Rattle.std.proofs.Common.{◌≡◌, refl, sym, ap, ◌∙◌, subst, inl, ℕ, zero, suc, ◌+◌, ◌<◌, ◌≤◌, List, [], ◌∷◌, ◌++◌, map, drop, length, get_or, arith}
use Rattle.spark_base.specs.Lists.{Has}
use Rattle.spark_base.specs.declared.position.Pos.{Pos}
use Rattle.spark_base.specs.declared.limits.TheConstants.{SELECTORS}
use Rattle.std.proofs.Math.ListN.{get_or-eq_default}
use Rattle.std.proofs.lemmas.Grind.{common_steps}
use Rattle.resolved_tree.specs.Nodes.{grown}
use Rattle.typed_tree.specs.Trees.{NoMore, Name}
use Rattle.typed_tree.specs.Nodes.{TypedNodes, typed_of, typed_at}
use Rattle.flow_paths.specs.Names.{selectors, name_of, written}
use Rattle.flow_paths.specs.Aliases.{Passed, passed_as, passed}
use Rattle.alias_rules.specs.Steps.{AreShallow}

length_grown : {N T : Type 0} (make : (ℕ → T) → N → T) (none : T) (made : List T) (nodes : List N)
    → length (grown make none made nodes) ≡ length made + length nodes
length_grown make none made [] = omega arith
length_grown make none made (m ∷ rest) =
    grind (arith, common_steps, length_grown make none (made ++ make (λ i. get_or made i none) m ∷ []) rest)

pub past_tree : (rows : TypedNodes) (i : ℕ) → length rows.0 ≤ i → typed_at rows i ≡ NoMore
unfolding typed_at
past_tree rows i h =
    let size = length_grown typed_of NoMore [] rows.0 in
    get_or-eq_default (grown typed_of NoMore [] rows.0) NoMore (omega (arith, size))

pub past_steps : (rows : TypedNodes) (i : ℕ) → length rows.0 ≤ i → selectors (typed_at rows i) ≡ []
unfolding selectors
past_steps rows i h = ap selectors (past_tree rows i h)

pub past_actuals : (rows : TypedNodes) (i x : ℕ) (formals : List ℕ) → length rows.0 ≤ i → passed (x ∷ formals) (typed_at rows i) ≡ []
past_actuals rows i x formals h = ap (passed (x ∷ formals)) (past_tree rows i h)

pub past_written : (rows : TypedNodes) (i x : ℕ) → length rows.0 ≤ i → passed_as x (written (typed_at rows i)) ≡ []
past_written rows i x h = ap (λ e. passed_as x (written e)) (past_tree rows i h)

-- the name of an actual is within the limit
pub shallow_name : (rows : TypedNodes) (e x : ℕ) (p : Pos) (object steps t : ℕ) → typed_at rows e ≡ Name p object (typed_at rows steps) t
    → AreShallow (passed_as x (written (typed_at rows e))) → length (selectors (typed_at rows steps)) ≤ SELECTORS
shallow_name rows e x p object steps t is s =
    let actual : Passed = record { formal = x; actual = record { pos = p; name = name_of object (typed_at rows steps); of = t } } in
    s actual (subst (λ tree. Has (passed_as x (written tree)) actual) (sym is) (inl refl))

-- no actual is left
pub no_cell : {A : Type 0} (names : List A) (f : A → Passed) (rows : TypedNodes) (formals : List ℕ) (i at d : ℕ) (all : List Passed) → i < length formals
    → passed (get_or formals i d ∷ drop (suc i) formals) (typed_at rows at) ≡ []
    → map f names ++ passed (drop i formals) (typed_at rows at) ≡ all → map f names ≡ all
no_cell names f rows formals i at d all h none before =
    sym (append_nil (map f names)) ∙ ap (λ l. map f names ++ l) (sym (ap (λ xs. passed xs (typed_at rows at)) (dropped formals i d h) ∙ none)) ∙ before
  where
    append_nil : {B : Type 0} (xs : List B) → xs ++ [] ≡ xs
    append_nil [] = refl
    append_nil (x ∷ xs) = ap (λ l. x ∷ l) (append_nil xs)

    dropped : (xs : List ℕ) (i d : ℕ) → i < length xs → drop i xs ≡ get_or xs i d ∷ drop (suc i) xs
    dropped [] i d h = absurd (omega arith)
    dropped (x ∷ xs) zero d h = refl
    dropped (x ∷ xs) (suc i) d h = dropped xs i d (omega arith)
