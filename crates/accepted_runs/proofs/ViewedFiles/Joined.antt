-- Layered code in which views have sources, and in which what is named was declared before: it is layered with
-- sources of views that are older.
use Rattle.std.proofs.Common.{◌≡◌, refl, ◌⊎◌, inl, inr, ℕ, ◌≤◌, Bool, true, false, not, ◌&&◌, ◌||◌, List, [], ◌∷◌, ◌++◌, arith, nat_lt, lt-ltb}
use Rattle.std.specs.Prelude.{reverse}
use Rattle.std.specs.List.{list_all}
use Rattle.std.proofs.lemmas.Bool.{ltb-true, false≢true}
use Rattle.machine.specs.spark_base.Lists.{Has}
use Rattle.soundness.proofs.Lists.{Has-append_left, Has-append_right}
use Rattle.machine.specs.typed_tree.Trees.{TypedTree, TypedCode, Name, More}
use Rattle.machine.specs.typed_tree.Trees as typed
use Rattle.machine.specs.flow_paths.Instructions.{Instruction, Declare}
use Rattle.machine.specs.flow_paths.Objects.{Typing, sub_at, traverses, is_anonymous, is_observer, view_of}
use Rattle.machine.specs.flow_paths.Names.{first}
use Rattle.machine.specs.flow_paths.Layout.{declared}
use Rattle.machine.specs.flow_paths.Laid.{declared_within}
use Rattle.machine.specs.flow_paths.Scopes.{is_within}
use Rattle.machine.specs.flow_paths.Views.{encloses, scope_of}
use Rattle.settled_types.specs.OrderLaws.ScopeLaws.Code.{roots, are_seen, is_seen, is_each_seen}
use Rattle.settled_types.proofs.OrderLaws.ScopeLaws.Lists.{within_has, and_first, and_second, both_true}
use Rattle.settled_types.specs.OrderLaws.ScopeLaws.LayeredScopes.Layered.{is_older, are_of_scope, are_apart, is_layered, is_each_layered}
use Rattle.accepted_runs.specs.ViewedFiles.ViewLaws.InOrder.{gives_view, is_rooted_in, gives_from, is_list_end, is_one_name_of, is_any, fits}
use Rattle.accepted_runs.specs.ViewedFiles.Sources.{has_source, all_fit}

either : (a b : Bool) → a || b ≡ true → (a ≡ true) ⊎ (b ≡ true)
either true b e = inl refl
either false b e = inr e

or_left : (a b : Bool) → a ≡ true → a || b ≡ true
or_left true b e = refl
or_left false b e = absurd (false≢true e)

or_right : (a b : Bool) → b ≡ true → a || b ≡ true
or_right true b e = refl
or_right false b e = e

abbrev pub nothing_asked : Instruction → Bool
nothing_asked i = true

one_name_so : (test : ℕ → Bool) (v : TypedTree) → ((y : ℕ) → Has (roots v) y → test y ≡ true) → is_one_name_of is_any v ≡ true → is_one_name_of test v ≡ true
unfolding roots
one_name_so test (More (Name p y steps t) rest) so is =
    both_true (test y) (is_list_end rest) (so y (inl refl)) (and_second true (is_list_end rest) is)
one_name_so test v so is = absurd (false≢true is)

actual_so : (test : ℕ → Bool) (actuals : TypedTree) → ((y : ℕ) → Has (roots actuals) y → test y ≡ true) → is_rooted_in test (first actuals) ≡ true
unfolding roots
actual_so test (More (Name p y steps t) rest) so = so y (inl refl)
actual_so test (More e rest) so = refl
actual_so test actuals so = refl

gives_first : (s : Typing) (test : ℕ → Bool) (v : TypedTree) → ((y : ℕ) → Has (roots v) y → test y ≡ true) → gives_view s (first v) ≡ true → gives_from test s (first v) ≡ true
unfolding roots
gives_first s test (More (typed.Call p sub actuals) rest) so gives =
    both_true (traverses s.table (sub_at s sub).result) (is_rooted_in test (first actuals)) gives
    (actual_so test actuals (λ y has. so y (Has-append_left (roots actuals) (roots rest) y has)))
gives_first s test v so gives = absurd (false≢true gives)

module _ (s : Typing) (scopes : List ℕ) (k : ℕ) where
  abbrev older : ℕ → ℕ → Bool
  older = is_older s scopes

  abbrev before : ℕ → Bool
  before y = nat_lt y k

  all_older : (x : ℕ) (sc : List ℕ) (y : ℕ) → list_all (older x) sc ≡ true → Has sc y → nat_lt y x ≡ true
  all_older x [] y all has = absurd has
  all_older x (z ∷ sc) y all (inl same) =
      subst_first (and_first (nat_lt z x) (encloses scopes (scope_of s z) (scope_of s x)) (and_first (older x z) (list_all (older x) sc) all))
    where
      subst_first : nat_lt z x ≡ true → nat_lt y x ≡ true
      subst_first h = (let is = same in grind (arith, is, h))
  all_older x (z ∷ sc) y all (inr has) = all_older x sc y (and_second (older x z) (list_all (older x) sc) all) has

  seen_older : (x : ℕ) (sc xs : List ℕ) → k ≤ x → list_all (older x) sc ≡ true → are_seen before sc xs ≡ true → (y : ℕ) → Has xs y → nat_lt y x ≡ true
  seen_older x sc [] low all seen y has = absurd has
  seen_older x sc (z ∷ xs) low all seen y (inr has) =
      seen_older x sc xs low all (and_second (is_within z sc || before z) (are_seen before sc xs) seen) y has
  seen_older x sc (z ∷ xs) low all seen y (inl same) = by (either (is_within z sc) (before z) (and_first (is_within z sc || before z) (are_seen before sc xs) seen))
    where
      here : nat_lt z x ≡ true → nat_lt y x ≡ true
      here h = (let is = same in grind (arith, is, h))

      by : (is_within z sc ≡ true) ⊎ (before z ≡ true) → nat_lt y x ≡ true
      by (inl within) = here (all_older x sc z all (within_has z sc within))
      by (inr less) = here (let h = ltb-true z k less in lt-ltb z x (omega (arith, h, low)))

  declare_fits : (x : ℕ) (sc : List ℕ) (v : TypedTree) → k ≤ x → list_all (older x) sc ≡ true → are_seen before sc (roots v) ≡ true
      → has_source s (Declare x v) ≡ true → fits s (Declare x v) ≡ true
  declare_fits x sc v low all seen is = by (either (not (is_anonymous (view_of s x))) (is_one_name_of is_any v || gives_view s (first v)) is)
    where
      test : ℕ → Bool
      test y = is_observer s x || nat_lt y x

      source : (is_one_name_of is_any v ≡ true) ⊎ (gives_view s (first v) ≡ true) → is_one_name_of test v || gives_from test s (first v) ≡ true
      source (inl name) =
          or_left (is_one_name_of test v) (gives_from test s (first v))
          (one_name_so test v (λ y has. or_right (is_observer s x) (nat_lt y x) (seen_older x sc (roots v) low all seen y has)) name)
      source (inr calls) =
          or_right (is_one_name_of test v) (gives_from test s (first v))
          (gives_first s test v (λ y has. or_right (is_observer s x) (nat_lt y x) (seen_older x sc (roots v) low all seen y has)) calls)

      by : (not (is_anonymous (view_of s x)) ≡ true) ⊎ (is_one_name_of is_any v || gives_view s (first v) ≡ true) → fits s (Declare x v) ≡ true
      by (inl named) = or_left (not (is_anonymous (view_of s x))) (is_one_name_of test v || gives_from test s (first v)) named
      by (inr has) = or_right (not (is_anonymous (view_of s x))) (is_one_name_of test v || gives_from test s (first v)) (source (either (is_one_name_of is_any v) (gives_view s (first v)) has))

  abbrev AreHigh : TypedCode → Type 0
  AreHigh c = (x : ℕ) → Has (declared_within c) x → k ≤ x

  abbrev Loose : List ℕ → TypedCode → Type 0
  Loose sc c = is_layered s older nothing_asked sc c ≡ true

  abbrev EachLoose : List ℕ → TypedCode → Type 0
  EachLoose sc c = is_each_layered s older nothing_asked sc c ≡ true

  abbrev Fitting : TypedCode → Type 0
  Fitting c = all_fit (has_source s) c ≡ true

  mutual
    unfolding is_layered is_each_layered is_seen is_each_seen all_fit declared_within

    -- What is declared here has greater numbers than what is outside.
    pub joined : (c : TypedCode) (sc : List ℕ) → Loose sc c → is_seen before sc c ≡ true → Fitting c → AreHigh c → is_layered s older (fits s) sc c ≡ true
    joined (typed.Declare p x v) sc loose seen fit high =
        let all = and_first (list_all (older x) sc) true loose in
        both_true (list_all (older x) sc) (fits s (Declare x v)) all (declare_fits x sc v (high x (inl refl)) all seen fit)
    joined (typed.Assign p target e) sc loose seen fit high = fit
    joined (typed.If branches otherwise) sc loose seen fit high =
        both_true (is_each_layered s older (fits s) sc branches) (is_layered s older (fits s) sc otherwise)
        (each_joined branches sc (and_first (is_each_layered s older nothing_asked sc branches) (is_layered s older nothing_asked sc otherwise) loose)
        (and_first (is_each_seen before sc branches) (is_seen before sc otherwise) seen) (and_first (all_fit (has_source s) branches) (all_fit (has_source s) otherwise) fit)
        (λ x has. high x (Has-append_left (declared_within branches) (declared_within otherwise) x has)))
        (joined otherwise sc (and_second (is_each_layered s older nothing_asked sc branches) (is_layered s older nothing_asked sc otherwise) loose)
        (and_second (is_each_seen before sc branches) (is_seen before sc otherwise) seen) (and_second (all_fit (has_source s) branches) (all_fit (has_source s) otherwise) fit)
        (λ x has. high x (Has-append_right (declared_within branches) (declared_within otherwise) x has)))
    joined (typed.Branch p e stmts) sc loose seen fit high =
        joined stmts sc loose (and_second (are_seen before sc (roots e)) (is_seen before sc stmts) seen) fit high
    joined (typed.Case p e whens) sc loose seen fit high =
        each_joined whens sc loose (and_second (are_seen before sc (roots e)) (is_each_seen before sc whens) seen) fit high
    joined (typed.When choices stmts) sc loose seen fit high = joined stmts sc loose seen fit high
    joined (typed.Loop stmts) sc loose seen fit high = joined stmts sc loose seen fit high
    joined (typed.While p e stmts) sc loose seen fit high =
        joined stmts sc loose (and_second (are_seen before sc (roots e)) (is_seen before sc stmts) seen) fit high
    joined (typed.For p x reversed low up stmts) sc loose seen fit high =
        both_true (list_all (older x) sc) (is_layered s older (fits s) (x ∷ sc) stmts)
        (and_first (list_all (older x) sc) (is_layered s older nothing_asked (x ∷ sc) stmts) loose)
        (joined stmts (x ∷ sc) (and_second (list_all (older x) sc) (is_layered s older nothing_asked (x ∷ sc) stmts) loose)
        (and_second (are_seen before sc (roots low) && are_seen before sc (roots up)) (is_seen before (x ∷ sc) stmts) seen) fit (λ y has. high y (inr has)))
    joined (typed.Block n stmts end) sc loose seen fit high =
        let more = and_second (are_of_scope s n (declared stmts)) (are_apart s n sc && is_layered s older nothing_asked sc stmts) loose in
        both_true (are_of_scope s n (declared stmts)) (are_apart s n sc && is_layered s older (fits s) sc stmts)
        (and_first (are_of_scope s n (declared stmts)) (are_apart s n sc && is_layered s older nothing_asked sc stmts) loose)
        (both_true (are_apart s n sc) (is_layered s older (fits s) sc stmts) (and_first (are_apart s n sc) (is_layered s older nothing_asked sc stmts) more)
        (joined stmts sc (and_second (are_apart s n sc) (is_layered s older nothing_asked sc stmts) more) seen fit high))
    joined (typed.More a rest) sc loose seen fit high =
        let after : List ℕ = reverse (declared a) ++ sc in
        both_true (is_layered s older (fits s) sc a) (is_layered s older (fits s) after rest)
        (joined a sc (and_first (is_layered s older nothing_asked sc a) (is_layered s older nothing_asked after rest) loose)
        (and_first (is_seen before sc a) (is_seen before after rest) seen) (and_first (all_fit (has_source s) a) (all_fit (has_source s) rest) fit)
        (λ x has. high x (Has-append_left (declared_within a) (declared_within rest) x has)))
        (joined rest after (and_second (is_layered s older nothing_asked sc a) (is_layered s older nothing_asked after rest) loose)
        (and_second (is_seen before sc a) (is_seen before after rest) seen) (and_second (all_fit (has_source s) a) (all_fit (has_source s) rest) fit)
        (λ x has. high x (Has-append_right (declared_within a) (declared_within rest) x has)))
    joined _ sc loose seen fit high = refl

    each_joined : (c : TypedCode) (sc : List ℕ) → EachLoose sc c → is_each_seen before sc c ≡ true → Fitting c → AreHigh c → is_each_layered s older (fits s) sc c ≡ true
    each_joined (typed.More a rest) sc loose seen fit high =
        both_true (is_layered s older (fits s) sc a) (is_each_layered s older (fits s) sc rest)
        (joined a sc (and_first (is_layered s older nothing_asked sc a) (is_each_layered s older nothing_asked sc rest) loose)
        (and_first (is_seen before sc a) (is_each_seen before sc rest) seen) (and_first (all_fit (has_source s) a) (all_fit (has_source s) rest) fit)
        (λ x has. high x (Has-append_left (declared_within a) (declared_within rest) x has)))
        (each_joined rest sc (and_second (is_layered s older nothing_asked sc a) (is_each_layered s older nothing_asked sc rest) loose)
        (and_second (is_seen before sc a) (is_each_seen before sc rest) seen) (and_second (all_fit (has_source s) a) (all_fit (has_source s) rest) fit)
        (λ x has. high x (Has-append_right (declared_within a) (declared_within rest) x has)))
    each_joined _ sc loose seen fit high = refl
