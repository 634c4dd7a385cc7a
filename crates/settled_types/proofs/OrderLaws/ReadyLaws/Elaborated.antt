-- The package objects are declared one by one, and nothing is moved for them.
use Rattle.std.proofs.Common.{◌≡◌, refl, ap, ◌∙◌, inl, inr, ℕ, Bool, true, false, not, List, [], ◌∷◌, ◌++◌}
use Rattle.std.specs.List.{AllByRecursion}
use Rattle.std.proofs.lemmas.Bool.{false≢true}
use Rattle.machine.specs.spark_base.Lists.{Has}
use Rattle.machine.specs.type_definitions.Types.{is_owning}
use Rattle.machine.specs.typed_tree.Trees.{TypedTree, TypedCode}
use Rattle.machine.specs.typed_tree.Trees as typed
use Rattle.machine.specs.typed_tree.Programs.{TypedSub}
use Rattle.machine.specs.flow_paths.Instructions.{Declare}
use Rattle.machine.specs.flow_paths.Objects.{Typing, object_at}
use Rattle.machine.specs.flow_paths.Names.{has_call}
use Rattle.machine.specs.flow_paths.Points.{Place, PointName, row_at, NamedPoint, point, entry}
use Rattle.machine.specs.flow_paths.Prep.{Setting, with_held, prep}
use Rattle.machine.specs.flow_paths.Layout.{Around, with_scope, declared, laid}
use Rattle.machine.specs.flow_paths.Laid.{around_body, elaboration_points}
use Rattle.settled_types.proofs.TypedCases.{on_tree, plain_prep}
use Rattle.soundness.specs.Sound.{calls_procedures}
use Rattle.settled_types.specs.OrderLaws.ScopeLaws.Code.{roots}
use Rattle.settled_types.proofs.OrderLaws.ScopeLaws.Lists.{and_first, and_second, all_both, all_one, all_if, all_has}
use Rattle.settled_types.specs.OrderLaws.ReadyLaws.InOrder.{declares_only, own_nothing, names_no_owner}

-- ---- before a use

-- A point with a call, or beside one.
abbrev Calls : NamedPoint → Type 0
Calls p = calls_procedures p.instr ≡ true → ⊥

not_false : false ≡ true → ⊥
not_false e = absurd (false≢true e)

both : (ps qs : List NamedPoint) → AllByRecursion Calls ps → AllByRecursion Calls qs → AllByRecursion Calls (ps ++ qs)
both ps qs h g = all_both Calls ps qs h g

one_more : (ps : List NamedPoint) (p : NamedPoint) → AllByRecursion Calls ps → Calls p → AllByRecursion Calls (ps ++ p ∷ [])
one_more ps p h g = all_one Calls ps p h g

prep_calls : (s : Setting) (e : TypedTree) (at : Place) (scope : List ℕ) (k : List PointName) → AllByRecursion Calls (prep s e at scope k)
unfolding prep
prep_calls s = on_tree {Of = λ e. (at : Place) → (scope : List ℕ) → (k : List PointName) → AllByRecursion Calls (prep s e at scope k)} (record {
  call = λ p sub actuals by_actuals at scope k.
      one_more (prep s actuals (0 ∷ at) scope (row_at at 0 ∷ [])) _ (by_actuals (0 ∷ at) scope (row_at at 0 ∷ [])) not_false;
  short = λ op p a q b by_a by_b at scope k.
      let right : List NamedPoint = prep s b (1 ∷ at) (s.temporary at ∷ scope) (row_at at 1 ∷ []) in
      let behind : List NamedPoint = prep s b (1 ∷ at) (with_held s a (0 ∷ at) scope) k in
      all_if Calls (has_call b) _ _
      (both (prep s a (0 ∷ at) scope (row_at at 0 ∷ [])) _ (by_a (0 ∷ at) scope (row_at at 0 ∷ []))
      (not_false, one_more right _ (by_b (1 ∷ at) (s.temporary at ∷ scope) (row_at at 1 ∷ [])) not_false))
      (both (prep s a (0 ∷ at) scope (entry behind k)) behind (by_a (0 ∷ at) scope (entry behind k)) (by_b (1 ∷ at) (with_held s a (0 ∷ at) scope) k));
  binary = λ op a b by_a by_b at scope k.
      let behind : List NamedPoint = prep s b (1 ∷ at) (with_held s a (0 ∷ at) scope) k in
      both (prep s a (0 ∷ at) scope (entry behind k)) behind (by_a (0 ∷ at) scope (entry behind k)) (by_b (1 ∷ at) (with_held s a (0 ∷ at) scope) k);
  list = λ a b by_a by_b at scope k.
      let behind : List NamedPoint = prep s b (1 ∷ at) (with_held s a (0 ∷ at) scope) k in
      both (prep s a (0 ∷ at) scope (entry behind k)) behind (by_a (0 ∷ at) scope (entry behind k)) (by_b (1 ∷ at) (with_held s a (0 ∷ at) scope) k);
  element = λ a low high b by_a by_b at scope k.
      let behind : List NamedPoint = prep s b (1 ∷ at) (with_held s a (0 ∷ at) scope) k in
      both (prep s a (0 ∷ at) scope (entry behind k)) behind (by_a (0 ∷ at) scope (entry behind k)) (by_b (1 ∷ at) (with_held s a (0 ∷ at) scope) k);
  name = λ p x e t by_e at scope k.
      by_e (0 ∷ at) scope k;
  component = λ i e by_e at scope k.
      by_e (0 ∷ at) scope k;
  designated = λ e by_e at scope k.
      by_e (0 ∷ at) scope k;
  image = λ t e by_e at scope k.
      by_e (0 ∷ at) scope k;
  parens = λ e by_e at scope k.
      by_e (0 ∷ at) scope k;
  unary = λ op e by_e at scope k.
      by_e (0 ∷ at) scope k;
  is_null = λ equal e by_e at scope k.
      by_e (0 ∷ at) scope k;
  aggregate = λ t e by_e at scope k.
      by_e (0 ∷ at) scope k;
  alike = λ t e by_e at scope k.
      by_e (0 ∷ at) scope k;
  allocator = λ t e by_e at scope k.
      by_e (0 ∷ at) scope k;
  others = λ e plain at scope k. rw (plain_prep s e at scope k plain) (tt);
})

-- ---- declarations

-- A point without calls declares an object, and its initial value names nothing that owns.
abbrev pub Declares : Typing → NamedPoint → Type 0
Declares t p = calls_procedures p.instr ≡ true → (x : ℕ) × (v : TypedTree) × (p.instr ≡ Declare x v) × (own_nothing t (roots v) ≡ true)

calls_declare : (t : Typing) (ps : List NamedPoint) → AllByRecursion Calls ps → AllByRecursion (Declares t) ps
calls_declare t [] h = tt
calls_declare t (p ∷ ps) h = ((λ none. absurd (h.0 none)), calls_declare t ps h.1)

laid_declare : (t : Typing) (s : Setting) (c : TypedCode) (at : Place) (w : Around) (k : List PointName) → declares_only c ≡ true → names_no_owner t c ≡ true
    → AllByRecursion (Declares t) (laid s c at w k)
unfolding laid declares_only names_no_owner
laid_declare t s (typed.More a rest) at w k only none =
    let behind : List NamedPoint = laid s rest (1 ∷ at) (with_scope (declared a) w) k in
    all_both (Declares t) (laid s a (0 ∷ at) w (entry behind k)) behind
    (laid_declare t s a (0 ∷ at) w (entry behind k) (and_first (declares_only a) (declares_only rest) only) (and_first (names_no_owner t a) (names_no_owner t rest) none))
    (laid_declare t s rest (1 ∷ at) (with_scope (declared a) w) k (and_second (declares_only a) (declares_only rest) only)
    (and_second (names_no_owner t a) (names_no_owner t rest) none))
laid_declare t s (typed.Declare p x v) at w k only none =
    all_one (Declares t) (prep s v (0 ∷ at) w.scope (row_at at 0 ∷ [])) (point (row_at at 0) p (Declare x v) (with_held s v (0 ∷ at) w.scope) k)
    (calls_declare t (prep s v (0 ∷ at) w.scope (row_at at 0 ∷ [])) (prep_calls s v (0 ∷ at) w.scope (row_at at 0 ∷ []))) (λ calls. (x, v, refl, none))
laid_declare t s typed.NoMore at w k only none = tt
laid_declare t s _ at w k only none = absurd (false≢true only)

pub package_declares : (t : Typing) (s : Setting) (sub : TypedSub) → declares_only sub.body ≡ true → names_no_owner t sub.body ≡ true
    → (p : NamedPoint) → Has (elaboration_points s sub) p → Declares t p
package_declares t s sub only none p has =
    all_has (Declares t) (elaboration_points s sub) p
    (all_both (Declares t) (laid s sub.body (0 ∷ []) (around_body s sub) []) [] (laid_declare t s sub.body (0 ∷ []) (around_body s sub) [] only none) tt) has

-- what owns isn't among them
pub owns_none : (t : Typing) (xs : List ℕ) (x : ℕ) → own_nothing t xs ≡ true → Has xs x → is_owning t.table (object_at t x).of ≡ true → ⊥
owns_none t [] x none has owns = has
owns_none t (y ∷ xs) x none (inl e) owns =
    refused (is_owning t.table (object_at t y).of) (ap (λ z. is_owning t.table (object_at t z).of) e ∙ owns)
    (and_first (not (is_owning t.table (object_at t y).of)) (own_nothing t xs) none)
  where
    refused : (b : Bool) → b ≡ true → not b ≡ true → ⊥
    refused true e h = false≢true h
    refused false e h = false≢true e
owns_none t (y ∷ xs) x none (inr has) owns = owns_none t xs x (and_second (not (is_owning t.table (object_at t y).of)) (own_nothing t xs) none) has owns
