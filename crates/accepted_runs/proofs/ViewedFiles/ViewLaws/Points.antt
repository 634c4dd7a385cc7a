-- Borrowers and observers at the points of an accepted program: what they are declared and assigned with,
-- what lasts as long as they do, and what is in scope where scopes end.
use Rattle.std.proofs.Common.{◌≡◌, refl, sym, ap, ◌∙◌, subst, ◌⊎◌, inl, inr, ℕ, zero, suc, ◌+◌, ◌<◌, ◌≤◌, Bool, true, false, cond, not, ◌&&◌, ◌||◌, ◌==◌, eqb-true, eq-eqb, List, [], ◌∷◌, ◌++◌, map, drop, length, arith, if◌then◌else◌, Some}
use Rattle.std.specs.Prelude.{nat_lt}
use Rattle.std.specs.Bool.{Decides}
use Rattle.std.specs.List.{AllByRecursion, position_or_len}
use Rattle.std.specs.Cmp.Lexicographic.{pointwise_decides}
use Rattle.std.proofs.lemmas.Bool.{ltb-true, false≢true, true≢false}
use Rattle.std.proofs.lemmas.Bool.Decides.{Decides-eqb}
use Rattle.std.proofs.lemmas.List.Folds.{list_any-append}
use Rattle.machine.specs.spark_base.Lists.{Has}
use Rattle.soundness.proofs.Lists.{Has-append_right, Has-map}
use Rattle.machine.specs.spark_base.declared.position.Pos.{Pos}
use Rattle.machine.specs.place_names.declared.act.Act.TheVariants as act
use Rattle.machine.specs.place_names.declared.act.Placed.{Placed}
use Rattle.machine.specs.type_definitions.declared.judgement.View.{View}
use Rattle.machine.specs.type_definitions.declared.judgement.View.TheVariants as view
use Rattle.machine.specs.type_definitions.Types.{Table, full, is_owning}
use Rattle.machine.specs.typed_tree.Trees.{TypedTree, Name, Call, NoMore, More}
use Rattle.machine.specs.typed_tree.Trees.{Call as CallIn}
use Rattle.machine.specs.typed_tree.Programs.{TypedSub, TypedProgram}
use Rattle.machine.specs.flow_paths.declared.report.Effects.{Effects}
use Rattle.machine.specs.flow_paths.Instructions.{Instruction, Declare, Assign, EndScope}
use Rattle.machine.specs.flow_paths.Objects.{traverses, sub_at, Typing, object_at, is_variable, is_borrower, is_observer, is_borrowing, is_observing, is_anonymous, is_formal, is_package_object, has_scope_end, view_of}
use Rattle.machine.specs.flow_paths.Names.{first, name_of, written, source}
use Rattle.machine.specs.flow_paths.Acts.{placed, observe, reborrow, target_pos, index_acts, source_acts, assigned_to, stored_acts, acts_in, acts_of}
use Rattle.machine.specs.flow_paths.Points.{PointName, same_place, same_point, NamedPoint, FlowPoint}
use Rattle.machine.specs.flow_paths.Laid.{FlowSub, FlowProgram, NamedSub, declared_within, unnumbered, number_in, kept_roots, sub_facts, flow_sub, typing_of, flow_typing, flow_program, flow_named}
use Rattle.machine.specs.flow_paths.Scopes.{Differ, is_last, is_within, is_ready, brought, scope_behind, taken}
use Rattle.machine.specs.flow_paths.Views.{encloses, scope_of, is_assignment}
use Rattle.soundness.specs.Sound.{IsAtPoint, is_temporary_object}
use Rattle.soundness.proofs.Points.{flow_at, next_there}
use Rattle.soundness.proofs.Typings.{package_same, formal_same}
use Rattle.soundness.proofs.Waits.{drop_none}
use Rattle.soundness.specs.TypedLaws.Needed.{Leads, FirstSource, IsFine}
use Rattle.machine.specs.Owners.{is_in, is_in_formal}
use Rattle.soundness.specs.Seen.{is_view_formal}
use Rattle.settled_types.proofs.OrderLaws.ScopeLaws.Begun.{Begins, sub_begun, package_begun}
use Rattle.settled_types.specs.OrderLaws.ScopeLaws.Order.{named_in}
use Rattle.settled_types.specs.OrderLaws.ScopeLaws.Code.{roots}
use Rattle.settled_types.proofs.OrderLaws.ScopeLaws.Lists.{all_has, within_has, and_first, and_second}
use Rattle.settled_types.specs.OrderLaws.ScopeLaws.LayeredScopes.Layered.{is_older}
use Rattle.settled_types.specs.OrderLaws.ScopeLaws.LayeredScopes.Points.{GoesOn, AreFading}
use Rattle.settled_types.proofs.OrderLaws.ReadyLaws.Ready.{seen_has}
use Rattle.settled_types.proofs.OrderLaws.ReadyLaws.Subs.{setting_from}
use Rattle.viewed_steps.specs.Traversals.{GivesView, IsSourceName}
use Rattle.viewed_steps.specs.Sound.{IsStoredAt}
use Rattle.accepted_runs.specs.ViewedFiles.ViewLaws.InOrder.{is_name_of, is_list_end, is_one_name_of, is_any, is_call, gives_view, gives_from, IsTraversed, NamesSource, fits}
use Rattle.accepted_runs.specs.ViewedFiles.ViewLaws.Program.{TakesView, IsViewProgram}
use Rattle.accepted_runs.proofs.ViewedFiles.ViewLaws.Acts.{source_lasts, leads_lasts}
use Rattle.accepted_runs.proofs.ViewedFiles.ViewLaws.Reports.{observed_encloses, reborrowed_own}
use Rattle.accepted_runs.proofs.ViewedFiles.ViewLaws.Enclosing.{enclosing_less}
use Rattle.accepted_runs.proofs.ViewedFiles.ViewLaws.Scoped as scoped
use Rattle.accepted_runs.proofs.ViewedFiles.ViewLaws.Valued as valued
use Rattle.viewed_steps.specs.Awaited.{is_held}
use Rattle.accepted_runs.proofs.ViewedFiles.ViewLaws.Same as same

-- ---- tests

either : (a b : Bool) → a || b ≡ true → (a ≡ true) ⊎ (b ≡ true)
either true b e = inl refl
either false b e = inr e

or_right : (a b : Bool) → b ≡ true → a || b ≡ true
or_right true b e = refl
or_right false b e = e

or_other : (a b : Bool) → a ≡ false → a || b ≡ true → b ≡ true
or_other true b none e = absurd (true≢false none)
or_other false b none e = e

not_test : (a b : Bool) → a ≡ true → not a || b ≡ true → b ≡ true
not_test true b is e = e
not_test false b is e = absurd (false≢true is)

bool_cases : (b : Bool) → (b ≡ true) ⊎ (b ≡ false)
bool_cases true = inl refl
bool_cases false = inr refl

true_false : (b : Bool) → b ≡ true → b ≡ false → ⊥
true_false true e f = absurd (true≢false f)
true_false false e f = absurd (false≢true e)

or_first : (a b : Bool) → not b ≡ true → a || b ≡ true → a ≡ true
or_first a true none e = absurd (false≢true none)
or_first true false none e = refl
or_first false false none e = e

both_second : (a b : Bool) → a && b ≡ true → b ≡ true
both_second true b e = e
both_second false b e = absurd (false≢true e)

-- a view is a borrower or an observer
one_kind : (v : View) → is_observing v ≡ true → is_borrowing v ≡ false
one_kind (view.Access d true true) sees = refl
one_kind (view.Access d true false) sees = refl
one_kind (view.Access d false true) sees = absurd (false≢true sees)
one_kind (view.Access d false false) sees = absurd (false≢true sees)
one_kind _ sees = absurd (false≢true sees)

and_none : (a b : Bool) → b ≡ false → a && b ≡ false
and_none true b e = e
and_none false b e = refl

-- ---- names

-- A name with its root.
abbrev NamedBy : (ℕ → Bool) → (TypedTree → Type 0) → Type 0
NamedBy test is = (q : Pos) × (y : ℕ) × (path : TypedTree) × (u : ℕ) × is (Name q y path u) × (test y ≡ true)

name_is : (test : ℕ → Bool) (e : TypedTree) → is_name_of test e ≡ true → NamedBy test (λ n. e ≡ n)
name_is test (Name q y path u) h = (q, y, path, u, refl, h)
name_is test _ h = absurd (false≢true h)

end_is : (e : TypedTree) → is_list_end e ≡ true → e ≡ NoMore
end_is NoMore h = refl
end_is _ h = absurd (false≢true h)

one_name_is : (test : ℕ → Bool) (e : TypedTree) → is_one_name_of test e ≡ true → NamedBy test (λ n. e ≡ More n NoMore)
one_name_is test (More e rest) h =
    let found = name_is test e (and_first (is_name_of test e) (is_list_end rest) h) in
    let none = end_is rest (and_second (is_name_of test e) (is_list_end rest) h) in
    (found.0, found.1, found.2, found.3, ap (λ z. More z rest) found.4 ∙ ap (More (Name found.0 found.1 found.2 found.3)) none, found.5)
one_name_is test _ h = absurd (false≢true h)

first_root : (q : Pos) (y : ℕ) (path : TypedTree) (u : ℕ) (rest : TypedTree) → Has (roots (More (Name q y path u) rest)) y
unfolding roots
first_root q y path u rest = inl refl

name_root : (q : Pos) (y : ℕ) (path : TypedTree) (u : ℕ) (xs : List ℕ) → Has (roots (Name q y path u) ++ xs) y
unfolding roots
name_root q y path u xs = inl refl

-- ---- acts of views

observe_there : (s : Typing) (pos q : Pos) (x w : ℕ) (r : Pos) (y : ℕ) (path : TypedTree) (u : ℕ) → is_borrower s x ≡ false → is_observer s x ≡ true
    → Has (assigned_to s pos (Some x) (Name q x NoMore w) (Name r y path u)) (placed r (observe s x (name_of y path)))
observe_there s pos q x w r y path u none sees =
    let target : TypedTree = Name q x NoMore w in
    let e : TypedTree = Name r y path u in
    let a : Placed = placed r (observe s x (name_of y path)) in
    subst (λ b. Has (if b then index_acts s e ++ reborrow (target_pos pos (written target)) x (source e)
    else (if is_observer s x then source_acts s e (observe s x) else stored_acts s target e)) a) (sym none)
    (subst (λ b. Has (if b then source_acts s e (observe s x) else stored_acts s target e) a) (sym sees)
    (Has-append_right (acts_in s path) (a ∷ []) a (inl refl)))

reborrow_there : (s : Typing) (pos q : Pos) (x w : ℕ) (r : Pos) (y : ℕ) (path : TypedTree) (u : ℕ) → is_borrower s x ≡ true
    → Has (assigned_to s pos (Some x) (Name q x NoMore w) (Name r y path u)) (placed q (act.Reborrow x (name_of y path)))
reborrow_there s pos q x w r y path u is =
    let target : TypedTree = Name q x NoMore w in
    let e : TypedTree = Name r y path u in
    let a : Placed = placed q (act.Reborrow x (name_of y path)) in
    subst (λ b. Has (if b then index_acts s e ++ reborrow (target_pos pos (written target)) x (source e)
    else (if is_observer s x then source_acts s e (observe s x) else stored_acts s target e)) a) (sym is)
    (Has-append_right (acts_in s path) (a ∷ []) a (inl refl))

-- of calls of traversal functions
pub call_root : (r : Pos) (n : ℕ) (q : Pos) (y : ℕ) (path : TypedTree) (u : ℕ) (more rest : TypedTree) → Has (roots (More (CallIn r n (More (Name q y path u) more)) rest)) y
unfolding roots
call_root r n q y path u more rest = inl refl

call_first : (r : Pos) (n : ℕ) (q : Pos) (y : ℕ) (path : TypedTree) (u : ℕ) (more : TypedTree) (xs : List ℕ) → Has (roots (CallIn r n (More (Name q y path u) more)) ++ xs) y
unfolding roots
call_first r n q y path u more xs = inl refl

observe_called : (s : Typing) (pos q : Pos) (x w : ℕ) (r : Pos) (n : ℕ) (k : Pos) (y : ℕ) (path : TypedTree) (u : ℕ) (more : TypedTree) → is_borrower s x ≡ false → is_observer s x ≡ true
    → Has (assigned_to s pos (Some x) (Name q x NoMore w) (CallIn r n (More (Name k y path u) more))) (placed k (observe s x (name_of y path)))
observe_called s pos q x w r n k y path u more none sees =
    let target : TypedTree = Name q x NoMore w in
    let e : TypedTree = CallIn r n (More (Name k y path u) more) in
    let a : Placed = placed k (observe s x (name_of y path)) in
    subst (λ b. Has (if b then index_acts s e ++ reborrow (target_pos pos (written target)) x (source e)
    else (if is_observer s x then source_acts s e (observe s x) else stored_acts s target e)) a) (sym none)
    (subst (λ b. Has (if b then source_acts s e (observe s x) else stored_acts s target e) a) (sym sees) (inl refl))

pub reborrow_called : (s : Typing) (pos q : Pos) (x w : ℕ) (r : Pos) (n : ℕ) (k : Pos) (y : ℕ) (path : TypedTree) (u : ℕ) (more : TypedTree) → is_borrower s x ≡ true
    → Has (assigned_to s pos (Some x) (Name q x NoMore w) (CallIn r n (More (Name k y path u) more))) (placed q (act.Reborrow x (name_of y path)))
reborrow_called s pos q x w r n k y path u more is =
    let target : TypedTree = Name q x NoMore w in
    let e : TypedTree = CallIn r n (More (Name k y path u) more) in
    let a : Placed = placed q (act.Reborrow x (name_of y path)) in
    subst (λ b. Has (if b then index_acts s e ++ reborrow (target_pos pos (written target)) x (source e)
    else (if is_observer s x then source_acts s e (observe s x) else stored_acts s target e)) a) (sym is) (inl refl)

-- a value that is a call is that alone
first_alone : (s : Typing) (want : ℕ) (v call : TypedTree) → FirstSource s want v → is_call call ≡ true → first v ≡ call → v ≡ More call NoMore
first_alone s want (More e rest) call fine calls is = (λ j. More (is j) (fine.0 j))
first_alone s want NoMore call fine calls is = absurd (let no : false ≡ true = ap is_call is ∙ calls in false≢true no)
first_alone s want _ call fine calls is = absurd fine

-- ---- points by name and number

point_decides : (a b : PointName) → Decides (same_point a b) (a ≡ b)
point_decides a b =
    let places = pointwise_decides {E = λ i j. i == j} Decides-eqb a.place b.place in (
      λ e.
          let row = eqb-true a.row b.row (and_second (same_place a.place b.place) (a.row == b.row) e) in
          let place = places.0 (and_first (same_place a.place b.place) (a.row == b.row) e) in
          λ i. record { place = place i; row = row i },
      λ e. both_true (same_place a.place b.place) (a.row == b.row) (places.1 (ap (λ n. n.place) e)) (eq-eqb a.row b.row (ap (λ n. n.row) e)),
    )
  where
    both_true : (a b : Bool) → a ≡ true → b ≡ true → a && b ≡ true
    both_true a b e f = ap (λ x. x && b) e ∙ f

-- A name of a point has the number at which the point stands.
pub number_there : (points : List NamedPoint) (q : NamedPoint) → Differ points → Has points q → IsAtPoint points (number_in points q.name) q
number_there [] q differ has = absurd has
number_there (p ∷ rest) q (apart, differ) (inl e) = subst (λ z. IsAtPoint (p ∷ rest) (number_in (p ∷ rest) z.name) z) e
    ([], rest, refl, sym (ap (λ b. cond (not b) (1 + position_or_len (λ r. same_point p.name r.name) rest) 0) ((point_decides p.name p.name).1 refl)))
number_there (p ∷ rest) q (apart, differ) (inr has) =
    let later = number_there rest q differ has in
    let other : same_point q.name p.name ≡ false = refused (same_point q.name p.name) (λ e.
    all_has (λ r. p.name ≡ r.name → ⊥) rest q apart has (sym ((point_decides q.name p.name).0 e))) in
    let long = later.3 in
    let more : suc (length later.0) ≡ 1 + position_or_len (λ r. same_point q.name r.name) rest = omega (arith, long) in (
      p ∷ later.0,
      later.1,
      ap (λ z. p ∷ z) later.2,
      more ∙ sym (ap (λ b. cond (not b) (1 + position_or_len (λ r. same_point q.name r.name) rest) 0) other),
    )
  where
    refused : (b : Bool) → (b ≡ true → ⊥) → b ≡ false
    refused true e = absurd (e refl)
    refused false e = refl

-- One number has one point.
one_point : (points : List NamedPoint) (n : ℕ) (a b : NamedPoint) → IsAtPoint points n a → IsAtPoint points n b → a ≡ b
one_point points n a b (front, rest, is, long) (front', rest', is', long') = aligned front front' (sym is ∙ is') (long ∙ sym long')
  where
    aligned : (front front' : List NamedPoint) → front ++ a ∷ rest ≡ front' ++ b ∷ rest' → length front ≡ length front' → a ≡ b
    aligned [] [] e long = cc
    aligned [] (x ∷ front') e long = cc
    aligned (x ∷ front) [] e long = cc
    aligned (x ∷ front) (y ∷ front') e long =
        (let tails : front ++ a ∷ rest ≡ front' ++ b ∷ rest' = cc in aligned front front' tails (omega (arith, long)))

-- ---- scopes

within_whole : (y n : ℕ) (scope : List ℕ) → is_within y (drop n scope) ≡ true → is_within y scope ≡ true
within_whole y zero scope within = ap (is_within y) (sym (drop_none scope)) ∙ within
within_whole y (suc n) [] within = within
within_whole y (suc n) (z ∷ scope) within = or_right (y == z) (is_within y scope) (within_whole y n scope within)

last_out : (x y : ℕ) (scope : List ℕ) → is_last x scope ≡ true → is_within y scope ≡ true → (y ≡ x → ⊥) → is_within y (drop 1 scope) ≡ true
last_out x y [] last within ne = cc
last_out x y (z ∷ rest) last within ne = elim (either (y == z) (is_within y rest) within) [
  | inl e ↦ absurd (ne (eqb-true y z e ∙ sym (eqb-true x z last)))
  | inr later ↦ ap (is_within y) (drop_none rest) ∙ later
]

-- The end of another object follows where an observer of the scope is left.
fading_at : (s : Typing) (points : List NamedPoint) → AreFading s points → (p : NamedPoint) → Has points p → (z y : ℕ) → p.instr ≡ EndScope z
    → Has (drop 1 p.scope) y → is_observer s y ≡ true → scope_of s y ≡ scope_of s z
    → (q : NamedPoint) × Has points q × (k : ℕ) × (q.instr ≡ EndScope k) × (scope_of s k ≡ scope_of s z) × (p.next ≡ q.name ∷ [])
fading_at s [] fading p has z y is there sees same = absurd has
fading_at s (a ∷ rest) fading p (inl e) z y is there sees same =
    on rest (subst (λ (b : NamedPoint). GoesOn s (scope_of s z) b.next rest) e
    (fading.0 z y (ap (λ (b : NamedPoint). b.instr) e ∙ is) (subst (λ (b : NamedPoint). Has (drop 1 b.scope) y) (sym e) there) sees same))
  where
    on : (rest : List NamedPoint) → GoesOn s (scope_of s z) p.next rest
        → (q : NamedPoint) × Has (a ∷ rest) q × (k : ℕ) × (q.instr ≡ EndScope k) × (scope_of s k ≡ scope_of s z) × (p.next ≡ q.name ∷ [])
    on [] h = absurd h
    on (q ∷ more) h = (q, inr (inl refl), h.0, h.1, h.2, h.3)
fading_at s (a ∷ rest) fading p (inr has) z y is there sees same =
    let found = fading_at s rest fading.1 p has z y is there sees same in
    (found.0, inr found.1, found.2, found.3, found.4, found.5)

none_from : (s : Typing) (test : ℕ → Bool) (e : TypedTree) → is_call e ≡ false → gives_from test s e ≡ false
none_from s test (Call p sub actuals) none = absurd (true≢false none)
none_from s test e none = refl

rooted_second : (a b c : Bool) → a ≡ true → not a || (b && c) ≡ true → c ≡ true
rooted_second true true c is e = e
rooted_second true false c is e = absurd (false≢true e)
rooted_second false b c is e = absurd (false≢true is)

no_other : (a f b : Bool) → f ≡ false → (a || f) || b ≡ true → a || b ≡ true
no_other true f b none e = refl
no_other false false b none e = e
no_other false true b none e = absurd (true≢false none)

-- what is no call is no view that a function gives
no_view : (s : Typing) (e : TypedTree) → is_call e ≡ false → gives_view s e ≡ false
no_view s (Call p sub actuals) none = absurd (true≢false none)
no_view s e none = refl

-- ---- programs

first_shown_apart : (a b : Bool) → a && b ≡ true → a ≡ true
first_shown_apart true b e = refl
first_shown_apart false b e = e

not_true : (b : Bool) → not b ≡ true → b ≡ false
not_true true e = sym e
not_true false e = refl

module _ (table : Table) (typed : TypedProgram) (effects : Effects) (given : IsViewProgram table typed effects) where
  abbrev program : FlowProgram
  program = flow_program table typed

  abbrev s : Typing
  s = flow_typing program

  abbrev own : Typing
  own = typing_of table typed

  anonymous_same : (x : ℕ) → is_temporary_object s x ≡ false → is_anonymous (view_of s x) ≡ is_anonymous (view_of own x)
  anonymous_same = same.anonymous_same table typed

  observer_same : (x : ℕ) → is_observer s x ≡ is_observer own x
  observer_same = same.observer_same table typed

  scope_same : (x : ℕ) → scope_of s x ≡ scope_of own x
  scope_same = same.scope_same table typed

  scopes_same : program.scopes ≡ typed.scopes
  unfolding flow_program
  scopes_same = refl

  -- An object is there as long as another one may be used, where these objects are in scope.
  abbrev pub Outlives : List ℕ → ℕ → ℕ → Type 0
  Outlives scope y x =
      (is_package_object s y ≡ true)
      ⊎ ((is_within y scope ≡ true) × (has_scope_end s y ≡ true) × (encloses program.scopes (scope_of s y) (scope_of s x) ≡ true) × (is_held s y ≡ false))

  -- a view that isn't an observer is a borrower
  pub borrows : (x : ℕ) → is_variable (object_at s x).kind ≡ true → is_anonymous (view_of s x) ≡ true → is_observer s x ≡ false → is_borrower s x ≡ true
  borrows x kind anonymous none =
      let plain : is_observing (view_of s x) ≡ false = sym (ap (λ b. b && is_observing (view_of s x)) kind) ∙ none in
      ap (λ b. b && is_borrowing (view_of s x)) kind
      ∙ elim (either (is_borrowing (view_of s x)) (is_observing (view_of s x)) anonymous) [
        | inl is ↦ is
        | inr sees ↦ absurd (true_false (is_observing (view_of s x)) sees plain)
      ]

  no_borrower : (x : ℕ) → is_observer s x ≡ true → is_borrower s x ≡ false
  no_borrower x sees =
      and_none (is_variable (object_at s x).kind) (is_borrowing (view_of s x))
      (one_kind (view_of s x) (both_second (is_variable (object_at s x).kind) (is_observing (view_of s x)) sees))

  -- ---- the acts of a point

  module _ (named : NamedSub) (has : Has (flow_named table typed) named) (p : NamedPoint) (there : Has named.points p) where
    abbrev sub : FlowSub
    sub = flow_sub own named

    abbrev at : FlowPoint
    at = flow_at own named p

    in_program : Has program.subs sub
    in_program = scoped.in_program table typed effects given named has

    in_sub : Has sub.points at
    in_sub = Has-map (λ (q : NamedPoint). flow_at own named q) named.points p there

    abbrev kept : List ℕ
    kept = kept_roots own 0 own.objects (sub_facts own named.sub named.points)

    abbrev acts_here : Typing → List Placed
    acts_here z = acts_of (record { typing = z; result = named.sub.result; roots = kept }) p.pos p.instr

    fine_there : IsFine s named.sub.result p.instr
    fine_there = scoped.fine_there table typed effects given named has p there

    source_there : NamesSource s p.instr
    source_there = scoped.source_there table typed effects given named has p there

    act_there : (a : Placed) → Has (acts_here s) a → Has at.acts a
    act_there a h = subst (λ ps. Has ps a) (scoped.acts_same table typed effects given named has p there named.sub.result kept) h

  -- ---- bodies

  module _ (named : NamedSub) (has : Has (flow_named table typed) named) (body : scoped.OfBody table typed effects given named) where
    abbrev Above : NamedPoint → Type 0
    Above p = scoped.Above table typed effects given p

    good : AllByRecursion Above named.points × AreFading own named.points
    good = scoped.body_good table typed effects given named body

    pub formals_known : (x : ℕ) → Has named.sub.formals x → is_formal s x ≡ true
    formals_known x there =
        let mine : Has (body.0).formals x = subst (λ (z : NamedSub). Has z.sub.formals x) (sym body.4) there in
        formal_same s own (scoped.alike table typed effects given) x ∙ (given.order.local body.0 body.1).formals x mine

    module _ (p : NamedPoint) (there : Has named.points p) where
      above : Above p
      above = all_has Above named.points p good.0 there

      -- what is in scope after the temporaries that are taken
      abbrev left : List ℕ
      left = drop (taken p.instr) p.scope

      seen_there : (y : ℕ) → Has (named_in p.instr) y → (is_package_object s y ≡ true) ⊎ (is_within y left ≡ true)
      seen_there y names = elim (seen_has (is_package_object own) left (named_in p.instr) y (scoped.body_is_left table typed effects given named body p there) names) [
        | inl shared ↦ inl (package_same s own (scoped.alike table typed effects given) y ∙ shared)
        | inr within ↦ inr within
      ]

      outlives : (y x : ℕ) → Has (named_in p.instr) y → has_scope_end s y ≡ true
          → (is_within y left ≡ true → encloses program.scopes (scope_of s y) (scope_of s x) ≡ true) → Outlives p.scope y x
      outlives y x names lasts around = elim (seen_there y names) [
        | inl shared ↦ inl shared
        | inr within ↦ inr (within_whole y (taken p.instr) p.scope within, lasts, around within, scoped.named_unheld table typed effects given named has p there y names)
      ]

      older_encloses : (y x : ℕ) → is_older own typed.scopes x y ≡ true → encloses program.scopes (scope_of s y) (scope_of s x) ≡ true
      older_encloses y x e =
          ap (λ z. encloses z (scope_of s y) (scope_of s x)) scopes_same ∙ (λ j. encloses typed.scopes (scope_same y j) (scope_same x j))
          ∙ and_second (nat_lt y x) (encloses typed.scopes (scope_of own y) (scope_of own x)) e

      -- what is in scope where an object is declared
      around_declared : (x : ℕ) (e : TypedTree) → p.instr ≡ Declare x e → (y : ℕ) → is_within y left ≡ true
          → encloses program.scopes (scope_of s y) (scope_of s x) ≡ true
      around_declared x e is y within = older_encloses y x (above.declares x e is y (within_has y left within))

      abbrev here : FlowPoint
      here = flow_at own named p

      pub act_has : (i : Instruction) → p.instr ≡ i → (a : Placed)
          → Has (acts_of (record { typing = s; result = named.sub.result; roots = kept named has p there }) p.pos i) a → Has here.acts a
      act_has i is a h =
          act_there named has p there a
          (subst (λ j. Has (acts_of (record { typing = s; result = named.sub.result; roots = kept named has p there }) p.pos j) a) (sym is) h)

      -- what a borrower is declared with
      stored_here : (x : ℕ) → IsStoredAt p.instr x → is_anonymous (view_of s x) ≡ true → is_variable (object_at s x).kind ≡ true
      stored_here = given.stored (flow_sub own named) (in_program named has p there) here (in_sub named has p there)

      lasts_here : (x : ℕ) → IsStoredAt p.instr x → is_anonymous (view_of s x) ≡ true → is_temporary_object s x ≡ false
      lasts_here x stored anonymous = scoped.variable_lasts table typed effects given x (stored_here x stored anonymous)

      older_there : (x y : ℕ) → is_observer own x || nat_lt y x ≡ true → is_observer s x ≡ false → y < x
      older_there x y test none = ltb-true y x (or_other (is_observer own x) (nat_lt y x) (sym (observer_same x) ∙ none) test)

      -- What a view is declared with.
      abbrev IsDeclaredWith : ℕ → TypedTree → Type 0
      IsDeclaredWith x e =
          (q : Pos) × (y : ℕ) × (path : TypedTree) × (u : ℕ) × (v : TypedTree) × (e ≡ More v NoMore)
          × IsSourceName s (object_at s x).of v q y path u × Outlives p.scope y x × (is_observer s x ≡ false → y < x)

      declared_named : (x : ℕ) (e : TypedTree) → p.instr ≡ Declare x e → is_anonymous (view_of s x) ≡ true → is_call (first e) ≡ false → IsDeclaredWith x e
      declared_named x e is anonymous silent =
          let test : ℕ → Bool = λ y. is_observer own x || nat_lt y x in
          let mine : is_anonymous (view_of own x) ≡ true = sym (anonymous_same x (lasts_here x (inl (e, is)) anonymous)) ∙ anonymous in
          let found = one_name_is test e (or_first (is_one_name_of test e) (gives_from test own (first e)) (ap not (none_from own test (first e) silent))
          (not_test (is_anonymous (view_of own x)) (is_one_name_of test e || gives_from test own (first e)) mine (sym (ap (fits own) is) ∙ above.declared x e is))) in
          let value : TypedTree = More (Name found.0 found.1 found.2 found.3) NoMore in
          let whole_is : p.instr ≡ Declare x value = is ∙ ap (Declare x) found.4 in
          let fine : IsFine s named.sub.result (Declare x value) = subst (IsFine s named.sub.result) whole_is (fine_there named has p there) in (
            found.0,
            found.1,
            found.2,
            found.3,
            Name found.0 found.1 found.2 found.3,
            found.4,
            inl refl,
            outlives found.1 x (subst (λ i. Has (named_in i) found.1) (sym whole_is) (first_root found.0 found.1 found.2 found.3 NoMore))
                (source_lasts s given.owns given.parts_named (object_at s x).of found.0 found.1 found.2 found.3 anonymous fine.1) (around_declared x e is found.1),
            older_there x found.1 found.5,
          )

      -- with what a traversal function gives
      declared_called : (x : ℕ) (e : TypedTree) → p.instr ≡ Declare x e → is_anonymous (view_of s x) ≡ true → IsTraversed s (first e) → IsDeclaredWith x e
      declared_called x e is anonymous t =
          let call : TypedTree = CallIn t.pos t.sub (More (Name t.name_pos t.root t.path t.of) t.others) in
          let e_is : e ≡ More call NoMore = first_alone s (object_at s x).of e call (subst (IsFine s named.sub.result) is (fine_there named has p there)) refl t.is in
          let whole_is : p.instr ≡ Declare x (More call NoMore) = is ∙ ap (Declare x) e_is in
          let take = subst (TakesView s named.sub.result) whole_is (given.take (flow_sub own named) (in_program named has p there) here (in_sub named has p there)) t.gives in
          let names : Has (named_in p.instr) t.root = subst (λ i. Has (named_in i) t.root) (sym whole_is) (call_root t.pos t.sub t.name_pos t.root t.path t.of t.others NoMore) in (
            t.name_pos,
            t.root,
            t.path,
            t.of,
            call,
            e_is,
            inr (t.pos, t.sub, t.others, refl, take.1),
            outlives t.root x names (leads_lasts s given.owns given.parts_named (object_at s t.root).of t.path t.of t.leads t.lasts) (around_declared x e is t.root),
            older_there x t.root (rooted_second (is_anonymous (view_of own x)) (traverses own.table (sub_at own t.sub).result) (is_observer own x || nat_lt t.root x)
                (sym (anonymous_same x (lasts_here x (inl (e, is)) anonymous)) ∙ anonymous) (sym (ap (fits own) whole_is) ∙ above.declared x (More call NoMore) whole_is)),
          )

      -- where a view is declared
      pub declared_there : (x : ℕ) (e : TypedTree) → p.instr ≡ Declare x e → is_anonymous (view_of s x) ≡ true
          → (q : Pos) × (y : ℕ) × (path : TypedTree) × (u : ℕ) × (v : TypedTree) × (e ≡ More v NoMore)
          × IsSourceName s (object_at s x).of v q y path u × Outlives p.scope y x × (is_observer s x ≡ false → y < x)
      declared_there x e is anonymous = elim (subst (NamesSource s) is (source_there named has p there) anonymous) [
        | inl silent ↦ declared_named x e is anonymous silent
        | inr traversed ↦ declared_called x e is anonymous traversed
      ]

      -- What a view is assigned.
      abbrev IsAssigned : ℕ → TypedTree → Type 0
      IsAssigned x e =
          (r : Pos) × (y : ℕ) × (path : TypedTree) × (u : ℕ) × IsSourceName s (object_at s x).of e r y path u × (is_observer s x ≡ true → Outlives p.scope y x)
          × (is_observer s x ≡ false → y ≡ x)

      assigned_named : (q : Pos) (x w : ℕ) (e : TypedTree) → p.instr ≡ Assign (Name q x NoMore w) e → is_anonymous (view_of s x) ≡ true → is_call e ≡ false → IsAssigned x e
      unfolding Leads
      assigned_named q x w e is anonymous silent =
          let target : TypedTree = Name q x NoMore w in
          let mine : is_anonymous (view_of own x) ≡ true = sym (anonymous_same x (lasts_here x (inr (q, w, e, is)) anonymous)) ∙ anonymous in
          let found = name_is is_any e (not_test (is_anonymous (view_of own x)) (is_name_of is_any e) mine
          (no_other (not (is_anonymous (view_of own x))) (is_formal own x) (is_name_of is_any e)
          (valued.variable_plain table typed effects given x (stored_here x (inr (q, w, e, is)) anonymous))
          (or_first ((not (is_anonymous (view_of own x)) || is_formal own x) || is_name_of is_any e) (gives_view own e) (ap not (no_view own e silent)) (sym (ap (fits own) is) ∙ above.assigned target e is)))) in
          let y : ℕ = found.1 in
          let n : TypedTree = Name found.0 y found.2 found.3 in
          let whole_is : p.instr ≡ Assign target n = is ∙ ap (Assign target) found.4 in
          let fine : IsFine s named.sub.result (Assign target n) = subst (IsFine s named.sub.result) whole_is (fine_there named has p there) in
          let of : (object_at s x).of ≡ fine.0 = fine.1.0 ∙ fine.1.1 in
          let lasts : has_scope_end s y ≡ true =
          source_lasts s given.owns given.parts_named fine.0 found.0 y found.2 found.3 (ap (λ z. is_anonymous (full s.table z)) (sym of) ∙ anonymous) fine.2 in (
            found.0,
            y,
            found.2,
            found.3,
            inl found.4,
            λ sees. outlives y x (subst (λ i. Has (named_in i) y) (sym whole_is) (name_root found.0 y found.2 found.3 (roots target))) lasts
                (λ within. observed_encloses program effects given.accepted.no_reports (flow_sub own named) (in_program named has p there) here (in_sub named has p there)
                found.0 x (name_of y found.2) (is_observer s y)
                (act_has (Assign target n) whole_is (placed found.0 (observe s x (name_of y found.2)))
                (observe_there s p.pos q x w found.0 y found.2 found.3 (no_borrower x sees) sees)) (ap is_assignment whole_is)),
            λ none. reborrowed_own program effects given.accepted.no_reports (flow_sub own named) (in_program named has p there) here (in_sub named has p there)
                q x (name_of y found.2)
                (act_has (Assign target n) whole_is (placed q (act.Reborrow x (name_of y found.2)))
                (reborrow_there s p.pos q x w found.0 y found.2 found.3 (borrows x (stored_here x (inr (q, w, e, is)) anonymous) anonymous none))),
          )

      -- what a traversal function gives
      assigned_called : (q : Pos) (x w : ℕ) (e : TypedTree) → p.instr ≡ Assign (Name q x NoMore w) e → is_anonymous (view_of s x) ≡ true → IsTraversed s e → IsAssigned x e
      assigned_called q x w e is anonymous t =
          let target : TypedTree = Name q x NoMore w in
          let call : TypedTree = CallIn t.pos t.sub (More (Name t.name_pos t.root t.path t.of) t.others) in
          let whole_is : p.instr ≡ Assign target call = is ∙ ap (Assign target) t.is in
          let take = subst (TakesView s named.sub.result) whole_is (given.take (flow_sub own named) (in_program named has p there) here (in_sub named has p there)) t.gives in
          let same_object : x ≡ take.1 = (let both : Name q x NoMore w ≡ Name take.0 take.1 NoMore take.2 = take.3 in let number : x ≡ take.1 = cc in number) in
          let lasts : has_scope_end s t.root ≡ true = leads_lasts s given.owns given.parts_named (object_at s t.root).of t.path t.of t.leads t.lasts in (
            t.name_pos,
            t.root,
            t.path,
            t.of,
            inr (t.pos, t.sub, t.others, t.is, subst (λ z. GivesView s t.sub (object_at s z).of) (sym same_object) take.5),
            λ sees. outlives t.root x (subst (λ i. Has (named_in i) t.root) (sym whole_is) (call_first t.pos t.sub t.name_pos t.root t.path t.of t.others (roots target))) lasts
                (λ within. observed_encloses program effects given.accepted.no_reports (flow_sub own named) (in_program named has p there) here (in_sub named has p there)
                t.name_pos x (name_of t.root t.path) (is_observer s t.root)
                (act_has (Assign target call) whole_is (placed t.name_pos (observe s x (name_of t.root t.path)))
                (observe_called s p.pos q x w t.pos t.sub t.name_pos t.root t.path t.of t.others (no_borrower x sees) sees)) (ap is_assignment whole_is)),
            λ none. reborrowed_own program effects given.accepted.no_reports (flow_sub own named) (in_program named has p there) here (in_sub named has p there)
                q x (name_of t.root t.path)
                (act_has (Assign target call) whole_is (placed q (act.Reborrow x (name_of t.root t.path)))
                (reborrow_called s p.pos q x w t.pos t.sub t.name_pos t.root t.path t.of t.others (borrows x (stored_here x (inr (q, w, e, is)) anonymous) anonymous none))),
          )

      -- where a view is assigned
      pub assigned_there : (q : Pos) (x w : ℕ) (e : TypedTree) → p.instr ≡ Assign (Name q x NoMore w) e → is_anonymous (view_of s x) ≡ true
          → (r : Pos) × (y : ℕ) × (path : TypedTree) × (u : ℕ) × IsSourceName s (object_at s x).of e r y path u × (is_observer s x ≡ true → Outlives p.scope y x)
          × (is_observer s x ≡ false → y ≡ x)
      assigned_there q x w e is anonymous = elim (subst (NamesSource s) is (source_there named has p there) x refl anonymous) [
        | inl silent ↦ assigned_named q x w e is anonymous silent
        | inr traversed ↦ assigned_called q x w e is anonymous traversed
      ]

      -- what else is in scope where a scope ends
      left_there : (y x : ℕ) → p.instr ≡ EndScope y → is_within x p.scope ≡ true → (x ≡ y → ⊥) → Has (drop 1 p.scope) x
      left_there y x is within other =
          within_has x (drop 1 p.scope)
          (last_out y x p.scope (subst (λ i. is_ready p i ≡ true) is (scoped.ready_there table typed effects given named has p there)) within other)

      pub ended_there : (y x : ℕ) → p.instr ≡ EndScope y → is_within x p.scope ≡ true → (x ≡ y → ⊥)
          → (x < y) × (encloses program.scopes (scope_of s y) (scope_of s x) ≡ true → scope_of s x ≡ scope_of s y)
      ended_there y x is within other =
          let older : is_older own typed.scopes y x ≡ true = above.ends y is x (left_there y x is within other) in (
            ltb-true x y (and_first (nat_lt x y) (encloses typed.scopes (scope_of own x) (scope_of own y)) older),
            λ back. (
                let out = less (scope_of s x) (scope_of s y) (older_encloses x y older) in
                let into = less (scope_of s y) (scope_of s x) back in
                omega (arith, out, into)),
          )
        where
          less : (a b : ℕ) → encloses program.scopes a b ≡ true → a ≤ b
          less a b e = enclosing_less typed.scopes given.views.inner a b (ap (λ z. encloses z a b) (sym scopes_same) ∙ e)

      behind_is : (y : ℕ) → p.instr ≡ EndScope y → scope_behind p ≡ drop 1 p.scope
      behind_is y is = ap (λ i. brought i (drop (taken i) p.scope)) is ∙ ap (drop 1) (drop_none p.scope)

      -- what follows where observers of the scope are left
      pub followed_there : (y x : ℕ) → p.instr ≡ EndScope y → (q : NamedPoint) (n : ℕ) → Has (map (number_in named.points) p.next) n → IsAtPoint named.points n q
          → is_within x q.scope ≡ true → is_observer s x ≡ true → scope_of s x ≡ scope_of s y
          → (z : ℕ) × (q.instr ≡ EndScope z) × (scope_of s x ≡ scope_of s z)
      followed_there y x is q n next stands within sees alike =
          let laid = scoped.laid table typed effects given named has in
          let on = next_there s named laid p there n next in
          let one : on.0 ≡ q = one_point named.points n on.0 q on.1 stands in
          let gone : List ℕ = on.2.0 in
          let before : is_within x (scope_behind p) ≡ true =
          ap (is_within x) on.2.2 ∙ list_any-append (λ z. x == z) gone (on.0).scope
          ∙ or_right (is_within x gone) (is_within x (on.0).scope) (ap (λ (z : NamedPoint). is_within x z.scope) one ∙ within) in
          let found = fading_at own named.points good.1 p there y x is (within_has x (drop 1 p.scope) (ap (is_within x) (sym (behind_is y is)) ∙ before))
          (sym (observer_same x) ∙ sees) (sym (scope_same x) ∙ alike ∙ scope_same y) in
          let number : number_in named.points (found.0).name ≡ n =
          single (number_in named.points (found.0).name) n (subst (λ z. Has (map (number_in named.points) z) n) found.5 next) in
          let q_is : found.0 ≡ q =
          one_point named.points n found.0 q (subst (λ k. IsAtPoint named.points k found.0) number (number_there named.points found.0 laid.0 found.1)) stands in (
            found.2,
            sym (ap (λ (z : NamedPoint). z.instr) q_is) ∙ found.3,
            alike ∙ scope_same y ∙ sym found.4 ∙ sym (scope_same found.2),
          )
        where
          single : (k n : ℕ) → Has (k ∷ []) n → k ≡ n
          single k n (inl e) = e
          single k n (inr none) = absurd none

  -- ---- what is declared, or ends

  -- no object of a body that its points declare or end is a formal
  module _ (named : NamedSub) (has : Has (flow_named table typed) named) (p : NamedPoint) (there : Has named.points p) where
    abbrev IsOfText : ℕ → Type 0
    IsOfText x = (is_formal s x ≡ false) × (is_temporary_object s x ≡ false)

    text_there : (sub : TypedSub) → Has typed.subs sub → (x : ℕ) → Has (declared_within sub.body) x → IsOfText x
    text_there sub in_text x declared = (
      formal_same s own (scoped.alike table typed effects given) x ∙ given.views.declared sub in_text x declared,
      valued.text_object table typed effects given x ((given.order.bodies sub in_text).numbered x (Has-append_right sub.formals (declared_within sub.body) x declared)).1,
    )

    begun_there : Begins IsOfText p.instr
    begun_there = elim (valued.where_is table typed effects given named has) [
      | inl e ↦ package_begun (unnumbered own) IsOfText given.order.first
          (text_there given.order.first (subst (λ subs. Has subs given.order.first) (sym given.order.subs) (inl refl)))
          p (subst (λ (z : NamedSub). Has z.points p) (sym e) there)
      | inr inside ↦ (
          let body = valued.body table typed effects given named has inside in
          sub_begun (setting_from own body.2 body.0) IsOfText body.0 (text_there body.0 (scoped.in_subs table typed effects given body.0 body.1))
          p (subst (λ (z : NamedSub). Has z.points p) (sym body.4) there))
    ]

    none_shown : (x : ℕ) → is_formal s x ≡ false → is_view_formal s x ≡ false
    none_shown x none = ap (λ b. (b && is_in (object_at s x).mode) && is_owning s.table (object_at s x).of) none

    pub begins_plain : (x : ℕ) (e : TypedTree) → p.instr ≡ Declare x e → is_view_formal s x ≡ false
    begins_plain x e is = none_shown x (subst (Begins IsOfText) is begun_there).0

    -- what is declared is no temporary
    pub begins_lasts : (x : ℕ) (e : TypedTree) → p.instr ≡ Declare x e → is_temporary_object s x ≡ false
    begins_lasts x e is = (subst (Begins IsOfText) is begun_there).1

    -- what ends, of an anonymous access type, is a variable
    pub ends_variable : (x : ℕ) → p.instr ≡ EndScope x → is_anonymous (view_of s x) ≡ true → is_variable (object_at s x).kind ≡ true
    ends_variable x is anonymous =
        let of_text : IsOfText x = subst (Begins IsOfText) is begun_there in
        elim (scoped.text_view table typed effects given x anonymous of_text.1).0 [
          | inl variable ↦ variable
          | inr formal ↦ absurd (true_false (is_formal s x) (and_first (is_formal s x) (is_in (object_at s x).mode) formal) of_text.0)
        ]

    pub ends_plain : (x : ℕ) → p.instr ≡ EndScope x → is_view_formal s x ≡ false
    ends_plain x is = none_shown x (subst (Begins IsOfText) is begun_there).0

  -- formals that own nothing belong to no package
  pub shown_apart : (x : ℕ) → is_view_formal s x ≡ true → is_package_object s x ≡ false
  shown_apart x shown =
      package_same s own (scoped.alike table typed effects given) x
      ∙ given.views.apart x (sym (formal_same s own (scoped.alike table typed effects given) x)
      ∙ first_shown_apart (is_formal s x) (is_in (object_at s x).mode) (first_shown_apart (is_in_formal s x) (is_owning s.table (object_at s x).of) shown))

  -- ---- the package objects

  -- At each point one is declared, and it is no view.
  pub package_there : (named : NamedSub) → Has (flow_named table typed) named → scoped.Elaborates table typed effects given named → (p : NamedPoint)
      → Has named.points p → (x : ℕ) × (v : TypedTree) × (p.instr ≡ Declare x v) × (is_anonymous (view_of s x) ≡ false)
  package_there named has e p there =
      let found = scoped.declares table typed effects given named e p there (scoped.still_there table typed effects given named e p there) in
      let plain = scoped.plain_there table typed effects given named e p there found.0 found.1 found.2 in
      (found.0, found.1, found.2, anonymous_same found.0 (begins_lasts named has p there found.0 found.1 found.2) ∙ not_true (is_anonymous (view_of own found.0)) (and_first _ _ plain))
