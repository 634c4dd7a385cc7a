-- Lists of objects whose scopes end one after the other, where what is in scope is in order.
use Rattle.std.proofs.Common.{◌≡◌, refl, sym, ap, ◌∙◌, subst, inl, inr, ℕ, Bool, true, false, ◌&&◌, ◌||◌, ◌==◌, eqb-true, eq-eqb, List, [], ◌∷◌, ◌++◌, append_assoc, if◌then◌else◌}
use Rattle.std.specs.Prelude.{cond, filter, drop, reverse}
use Rattle.std.specs.List.{list_all}
use Rattle.std.proofs.lemmas.List.{reverse-append}
use Rattle.std.proofs.lemmas.Bool.{false≢true}
use Rattle.machine.specs.spark_base.Lists.{Has}
use Rattle.spark_base.proofs.Lists.{Has-append_cases}
use Rattle.machine.specs.typed_tree.Trees.{TypedCode, Declare}
use Rattle.machine.specs.typed_tree.Trees as typed
use Rattle.machine.specs.flow_paths.Instructions.{Instruction}
use Rattle.machine.specs.flow_paths.Objects.{Typing, object_at, is_observer, has_scope_end, is_variable, is_borrowing, is_observing, view_of}
use Rattle.machine.specs.type_definitions.Types.{is_owning}
use Rattle.machine.specs.flow_paths.Layout.{declared, from}
use Rattle.machine.specs.flow_paths.Views.{scope_of}
use Rattle.settled_types.proofs.OrderLaws.ScopeLaws.Lists.{and_first, and_second}
use Rattle.settled_types.specs.OrderLaws.ScopeLaws.LayeredScopes.Layered.{is_layered}

pub all_test : {A : Type 0} (test : A → Bool) (xs : List A) (x : A) → list_all test xs ≡ true → Has xs x → test x ≡ true
all_test test [] x all has = absurd has
all_test test (y ∷ xs) x all (inl e) = subst (λ z. test z ≡ true) e (and_first (test y) (list_all test xs) all)
all_test test (y ∷ xs) x all (inr has) = all_test test xs x (and_second (test y) (list_all test xs) all) has

drop_one : (x : ℕ) (xs : List ℕ) → drop 1 (x ∷ xs) ≡ xs
drop_one x xs = refl

module _ (s : Typing) (older : ℕ → ℕ → Bool) (fits : Instruction → Bool) where
  -- ---- what is in scope

  -- Some objects, the last one first, each of which is younger than those after it and around.
  abbrev pub Sorted : List ℕ → List ℕ → Type 0
  Sorted [] scope = Unit {0}
  Sorted (d ∷ ds) scope = ((y : ℕ) → Has (ds ++ scope) y → older d y ≡ true) × Sorted ds scope

  sorted_both : (ds es scope : List ℕ) → Sorted ds (es ++ scope) → Sorted es scope → Sorted (ds ++ es) scope
  sorted_both [] es scope h g = g
  sorted_both (d ∷ ds) es scope h g = (
    λ y has. h.0 y (subst (λ z. Has z y) (append_assoc ds es scope) has),
    sorted_both ds es scope h.1 g,
  )

  one : (d : ℕ) (scope : List ℕ) → list_all (older d) scope ≡ true → Sorted (d ∷ []) scope
  one d scope all = (λ y has. all_test (older d) scope y all has, tt)

  -- what code declares itself
  pub sorted : (c : TypedCode) (scope : List ℕ) → is_layered s older fits scope c ≡ true → Sorted (reverse (declared c)) scope
  unfolding is_layered declared
  sorted (Declare p x v) scope h = one x scope (and_first (list_all (older x) scope) _ h)
  sorted (typed.More a rest) scope h =
      let first = sorted a scope (and_first (is_layered s older fits scope a) _ h) in
      let second = sorted rest (reverse (declared a) ++ scope) (and_second (is_layered s older fits scope a) _ h) in
      subst (λ z. Sorted z scope) (sym (reverse-append (declared a) (declared rest)))
      (sorted_both (reverse (declared rest)) (reverse (declared a)) scope second first)
  sorted _ scope h = tt

  -- ---- ends of scopes

  -- The first of these objects has this scope.
  abbrev pub Heads : List ℕ → ℕ → Type 0
  Heads [] n = ⊥
  Heads (x ∷ xs) n = scope_of s x ≡ n

  -- The scopes of some objects end one after the other. What is left each time is older; and while an
  -- observer of the same scope is left, another object of the scope follows.
  abbrev pub Closes : List ℕ → List ℕ → Type 0
  Closes [] scope = Unit {0}
  Closes (x ∷ xs) scope =
      (rest : List ℕ) × (has_scope_end s x ≡ true) × (from x scope ≡ x ∷ rest)
      × ((y : ℕ) → Has rest y → older x y ≡ true)
      × ((y : ℕ) → Has rest y → is_observer s y ≡ true → scope_of s y ≡ scope_of s x → Heads xs (scope_of s x))
      × Closes xs rest

  from_here : (x : ℕ) (scope : List ℕ) → from x (x ∷ scope) ≡ x ∷ scope
  from_here x scope = ap (λ b. if b then x ∷ scope else from x scope) (eq-eqb x x refl)

  from_next : (d x : ℕ) (scope : List ℕ) → (d == x) ≡ false → from x (d ∷ scope) ≡ from x scope
  from_next d x scope other = ap (λ b. if b then d ∷ scope else from x scope) other

  other_one : (d x : ℕ) → has_scope_end s d ≡ false → has_scope_end s x ≡ true → (b : Bool) → (d == x) ≡ b → (d == x) ≡ false
  other_one d x none has true is =
      let both : false ≡ true = sym none ∙ ap (has_scope_end s) (eqb-true d x is) ∙ has in cc
  other_one d x none has false is = is

  -- one more object in scope that has no end
  pub closes_silent : (d : ℕ) (xs scope : List ℕ) → has_scope_end s d ≡ false → Closes xs scope → Closes xs (d ∷ scope)
  closes_silent d [] scope none h = tt
  closes_silent d (x ∷ xs) scope none h =
      (h.0, h.1, from_next d x scope (other_one d x none h.1 (d == x) refl) ∙ h.2, h.3, h.4, h.5)

  observer_ends : (x : ℕ) → is_observer s x ≡ true → has_scope_end s x ≡ true
  observer_ends x is = by (is_variable (object_at s x).kind) (is_observing (view_of s x)) (is_owning s.table (object_at s x).of) (is_borrowing (view_of s x)) is
    where
      by : (a b c d : Bool) → a && b ≡ true → c || (d || b) ≡ true
      by true true true d e = refl
      by true true false true e = refl
      by true true false false e = refl
      by true false c d e = absurd (false≢true e)
      by false b c d e = absurd (false≢true e)

  -- of these, one that has an end comes first
  heads : (n : ℕ) (ds xs : List ℕ) (y : ℕ) → ((x : ℕ) → Has ds x → scope_of s x ≡ n) → Has ds y → has_scope_end s y ≡ true
      → Heads (filter (has_scope_end s) ds ++ xs) n
  heads n [] xs y all there has = absurd there
  heads n (d ∷ ds) xs y all there has =
      by (has_scope_end s d) refl (λ none. heads n ds xs y (λ x in_ds. all x (inr in_ds)) (late none there) has)
    where
      late : has_scope_end s d ≡ false → Has (d ∷ ds) y → Has ds y
      late none (inl e) = (let both : false ≡ true = sym none ∙ ap (has_scope_end s) e ∙ has in cc)
      late none (inr later) = later

      by : (b : Bool) → has_scope_end s d ≡ b → (has_scope_end s d ≡ false → Heads (filter (has_scope_end s) ds ++ xs) n)
          → Heads (cond b (d ∷ filter (has_scope_end s) ds) (filter (has_scope_end s) ds) ++ xs) n
      by true is later = all d (inl refl)
      by false is later = later is

  -- The objects of a block end before those around it.
  module _ (n : ℕ) where
    abbrev Of : List ℕ → Type 0
    Of xs = (x : ℕ) → Has xs x → scope_of s x ≡ n

    abbrev Apart : List ℕ → Type 0
    Apart xs = (x : ℕ) → Has xs x → is_observer s x ≡ true → scope_of s x ≡ n → ⊥

    left_over : (d : ℕ) (ds xs scope : List ℕ) → Of (d ∷ ds) → Apart scope → (y : ℕ) → Has (ds ++ scope) y → is_observer s y ≡ true
        → scope_of s y ≡ scope_of s d → Heads (filter (has_scope_end s) ds ++ xs) (scope_of s d)
    left_over d ds xs scope of apart y has is same = elim (Has-append_cases ds scope y has) [
      | inl own ↦ subst (Heads (filter (has_scope_end s) ds ++ xs)) (sym (of d (inl refl))) (heads n ds xs y (λ x there. of x (inr there)) own (observer_ends y is))
      | inr outer ↦ absurd (apart y outer is (same ∙ of d (inl refl)))
    ]

    one_more : (d : ℕ) (ds xs scope : List ℕ) → Of (d ∷ ds) → Apart scope → ((y : ℕ) → Has (ds ++ scope) y → older d y ≡ true)
        → Closes (filter (has_scope_end s) ds ++ xs) (ds ++ scope) → (b : Bool) → has_scope_end s d ≡ b
        → Closes (cond b (d ∷ filter (has_scope_end s) ds) (filter (has_scope_end s) ds) ++ xs) (d ∷ (ds ++ scope))
    one_more d ds xs scope of apart below h true is =
        (ds ++ scope, is, from_here d (ds ++ scope), below, left_over d ds xs scope of apart, h)
    one_more d ds xs scope of apart below h false is = closes_silent d (filter (has_scope_end s) ds ++ xs) (ds ++ scope) is h

    pub closes_block : (ds xs scope : List ℕ) → Sorted ds scope → Of ds → Apart scope → Closes xs scope
        → Closes (filter (has_scope_end s) ds ++ xs) (ds ++ scope)
    closes_block [] xs scope order of apart h = h
    closes_block (d ∷ ds) xs scope order of apart h =
        one_more d ds xs scope of apart order.0 (closes_block ds xs scope order.1 (λ x has. of x (inr has)) apart h) (has_scope_end s d) refl
