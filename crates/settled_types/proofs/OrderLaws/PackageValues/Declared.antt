-- The points of the package objects declare them, and do nothing else.
use Rattle.std.proofs.Common.{◌≡◌, refl, ℕ, Bool, true, false, not, ◌||◌, List, [], ◌∷◌, ◌++◌, if◌then◌else◌}
use Rattle.std.specs.List.{AllByRecursion}
use Rattle.std.proofs.lemmas.Bool.{false≢true, true≢false}
use Rattle.machine.specs.typed_tree.Trees.{TypedTree, TypedCode}
use Rattle.machine.specs.typed_tree.Trees as typed
use Rattle.machine.specs.typed_tree.Programs.{TypedSub}
use Rattle.machine.specs.flow_paths.Instructions.{Declare}
use Rattle.machine.specs.flow_paths.Names.{has_call}
use Rattle.machine.specs.flow_paths.Points.{Place, PointName, row_at, NamedPoint, point, entry}
use Rattle.machine.specs.flow_paths.Prep.{Setting, with_held, prep}
use Rattle.machine.specs.flow_paths.Layout.{Around, with_scope, declared, laid}
use Rattle.machine.specs.flow_paths.Laid.{around_body, elaboration_points}
use Rattle.settled_types.proofs.TypedCases.{on_tree, plain_prep}
use Rattle.settled_types.proofs.OrderLaws.ScopeLaws.Lists.{and_first, and_second, all_both, all_one}
use Rattle.settled_types.specs.OrderLaws.ReadyLaws.InOrder.{declares_only}
use Rattle.settled_types.specs.OrderLaws.PackageValues.Calls.{calls_nothing}

neither : (a b : Bool) → a || b ≡ false → (a ≡ false) × (b ≡ false)
neither false b e = (refl, e)
neither true b e = absurd (true≢false e)

no_call : (b : Bool) → not b ≡ true → b ≡ false
no_call false e = refl
no_call true e = absurd (false≢true e)

abbrev IsNone : NamedPoint → Type 0
IsNone p = ⊥

abbrev Empty : List NamedPoint → Type 0
Empty ps = AllByRecursion IsNone ps

other : (b : Bool) (ps qs : List NamedPoint) → b ≡ false → Empty qs → Empty (if b then ps else qs)
other false ps qs e h = h
other true ps qs e h = absurd (true≢false e)

-- An expression without calls has no points of its own.
prep_none : (s : Setting) (e : TypedTree) (at : Place) (scope : List ℕ) (k : List PointName) → has_call e ≡ false → Empty (prep s e at scope k)
unfolding prep has_call
prep_none s = on_tree {Of = λ e. (at : Place) → (scope : List ℕ) → (k : List PointName) → has_call e ≡ false → Empty (prep s e at scope k)} (record {
  call = λ p sub actuals _ at scope k none.
      absurd (true≢false none);
  short = λ op p a q b by_a by_b at scope k none.
      let both = neither (has_call a) (has_call b) none in
      let behind : List NamedPoint = prep s b (1 ∷ at) (with_held s a (0 ∷ at) scope) k in
      other (has_call b) _ (prep s a (0 ∷ at) scope (entry behind k) ++ behind) both.1
      (all_both IsNone (prep s a (0 ∷ at) scope (entry behind k)) behind (by_a (0 ∷ at) scope (entry behind k) both.0)
      (by_b (1 ∷ at) (with_held s a (0 ∷ at) scope) k both.1));
  binary = λ op a b by_a by_b at scope k none.
      let both = neither (has_call a) (has_call b) none in
      let behind : List NamedPoint = prep s b (1 ∷ at) (with_held s a (0 ∷ at) scope) k in
      all_both IsNone (prep s a (0 ∷ at) scope (entry behind k)) behind (by_a (0 ∷ at) scope (entry behind k) both.0)
      (by_b (1 ∷ at) (with_held s a (0 ∷ at) scope) k both.1);
  list = λ a b by_a by_b at scope k none.
      let both = neither (has_call a) (has_call b) none in
      let behind : List NamedPoint = prep s b (1 ∷ at) (with_held s a (0 ∷ at) scope) k in
      all_both IsNone (prep s a (0 ∷ at) scope (entry behind k)) behind (by_a (0 ∷ at) scope (entry behind k) both.0)
      (by_b (1 ∷ at) (with_held s a (0 ∷ at) scope) k both.1);
  element = λ a low high b by_a by_b at scope k none.
      let both = neither (has_call a) (has_call b) none in
      let behind : List NamedPoint = prep s b (1 ∷ at) (with_held s a (0 ∷ at) scope) k in
      all_both IsNone (prep s a (0 ∷ at) scope (entry behind k)) behind (by_a (0 ∷ at) scope (entry behind k) both.0)
      (by_b (1 ∷ at) (with_held s a (0 ∷ at) scope) k both.1);
  name = λ p x e t by_e at scope k none.
      by_e (0 ∷ at) scope k none;
  component = λ i e by_e at scope k none.
      by_e (0 ∷ at) scope k none;
  designated = λ e by_e at scope k none.
      by_e (0 ∷ at) scope k none;
  image = λ t e by_e at scope k none.
      by_e (0 ∷ at) scope k none;
  parens = λ e by_e at scope k none.
      by_e (0 ∷ at) scope k none;
  unary = λ op e by_e at scope k none.
      by_e (0 ∷ at) scope k none;
  is_null = λ equal e by_e at scope k none.
      by_e (0 ∷ at) scope k none;
  aggregate = λ t e by_e at scope k none.
      by_e (0 ∷ at) scope k none;
  alike = λ t e by_e at scope k none.
      by_e (0 ∷ at) scope k none;
  allocator = λ t e by_e at scope k none.
      by_e (0 ∷ at) scope k none;
  others = λ e plain at scope k none. rw (plain_prep s e at scope k plain) (tt);
})

abbrev pub Declares : NamedPoint → Type 0
Declares p = (x : ℕ) × (v : TypedTree) × (p.instr ≡ Declare x v) × (has_call v ≡ false)

none_declare : (ps : List NamedPoint) → Empty ps → AllByRecursion Declares ps
none_declare [] h = tt
none_declare (p ∷ ps) h = absurd h.0

laid_declare : (s : Setting) (c : TypedCode) (at : Place) (w : Around) (k : List PointName) → declares_only c ≡ true → calls_nothing c ≡ true
    → AllByRecursion Declares (laid s c at w k)
unfolding laid declares_only calls_nothing
laid_declare s (typed.More a rest) at w k only none =
    let behind : List NamedPoint = laid s rest (1 ∷ at) (with_scope (declared a) w) k in
    all_both Declares (laid s a (0 ∷ at) w (entry behind k)) behind
    (laid_declare s a (0 ∷ at) w (entry behind k) (and_first (declares_only a) (declares_only rest) only) (and_first (calls_nothing a) (calls_nothing rest) none))
    (laid_declare s rest (1 ∷ at) (with_scope (declared a) w) k (and_second (declares_only a) (declares_only rest) only)
    (and_second (calls_nothing a) (calls_nothing rest) none))
laid_declare s (typed.Declare p x v) at w k only none =
    all_one Declares (prep s v (0 ∷ at) w.scope (row_at at 0 ∷ [])) (point (row_at at 0) p (Declare x v) (with_held s v (0 ∷ at) w.scope) k)
    (none_declare (prep s v (0 ∷ at) w.scope (row_at at 0 ∷ [])) (prep_none s v (0 ∷ at) w.scope (row_at at 0 ∷ []) (no_call (has_call v) none))) (x, v, refl, no_call (has_call v) none)
laid_declare s typed.NoMore at w k only none = tt
laid_declare s _ at w k only none = absurd (false≢true only)

pub package_declares : (s : Setting) (sub : TypedSub) → declares_only sub.body ≡ true → calls_nothing sub.body ≡ true → AllByRecursion Declares (elaboration_points s sub)
package_declares s sub only none =
    all_both Declares (laid s sub.body (0 ∷ []) (around_body s sub) []) [] (laid_declare s sub.body (0 ∷ []) (around_body s sub) [] only none) tt
