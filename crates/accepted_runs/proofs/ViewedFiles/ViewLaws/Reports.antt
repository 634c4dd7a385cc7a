-- What follows of V1, V2 and V4 where nothing is reported.
use Rattle.std.proofs.Common.{◌≡◌, refl, ap, ◌∙◌, subst, inl, ℕ, Bool, true, false, not, ◌&&◌, ◌==◌, eqb-true, List, [], ◌∷◌, ◌++◌, Some}
use Rattle.std.proofs.lemmas.Bool.{false≢true}
use Rattle.std.specs.Prelude.{is_some}
use Rattle.machine.specs.spark_base.Lists.{Has}
use Rattle.machine.specs.spark_base.declared.position.Pos.{Pos}
use Rattle.machine.specs.place_names.declared.act.Act.TheVariants as act
use Rattle.machine.specs.place_names.declared.act.Placed.{Placed}
use Rattle.machine.specs.place_names.declared.rule.Rule.TheVariants as rule
use Rattle.machine.specs.place_names.declared.selector.Sel.{Sel}
use Rattle.machine.specs.place_names.declared.selector.Sel.TheVariants as sel
use Rattle.machine.specs.place_names.Names.{Name as PlaceName, extend}
use Rattle.machine.specs.type_definitions.declared.judgement.View.{View}
use Rattle.machine.specs.type_definitions.declared.judgement.View.TheVariants as view
use Rattle.machine.specs.type_definitions.Types.{is_nil}
use Rattle.machine.specs.typed_tree.declared.object.ObjectKind.{ObjectKind}
use Rattle.machine.specs.typed_tree.declared.object.ObjectKind.TheVariants as object_kind
use Rattle.machine.specs.flow_paths.declared.report.Effects.{Effects}
use Rattle.machine.specs.flow_paths.Objects.{Typing, is_observer, traverses, object_at, is_variable, is_formal_kind, is_formal, is_observing, is_borrowing, view_of}
use Rattle.machine.specs.flow_paths.Points.{FlowPoint}
use Rattle.machine.specs.flow_paths.Laid.{FlowSub, FlowProgram, flow_typing}
use Rattle.machine.specs.flow_paths.Limits.{source_pos}
use Rattle.machine.specs.flow_paths.Reports.{AreReports, on_views}
use Rattle.machine.specs.flow_paths.Views.{of_observer, MayBorrow, directly, through, changed, lent, shorter, other_root, changes, lends, has_selector, traversed_of, encloses, scope_of, is_assignment, text_report}

by_false : (b : Bool) → (not b ≡ true → ⊥) → b ≡ true
by_false true none = refl
by_false false none = absurd (none refl)

by_true : (b : Bool) → (b ≡ true → ⊥) → b ≡ false
by_true true none = absurd (none refl)
by_true false none = refl

-- a view is a borrower or an observer
one_kind : (v : View) → is_borrowing v ≡ true → is_observing v ≡ true → ⊥
one_kind (view.Access d true true) borrows sight = false≢true borrows
one_kind (view.Access d true false) borrows sight = false≢true borrows
one_kind (view.Access d false true) borrows sight = false≢true borrows
one_kind (view.Access d false false) borrows sight = cc
one_kind _ borrows sight = absurd (false≢true borrows)

no_kind : (k : ObjectKind) → is_variable k ≡ true → is_formal_kind k ≡ true → ⊥
no_kind object_kind.Variable is other = cc
no_kind _ is other = absurd (false≢true is)

first : (a b : Bool) → a && b ≡ true → a ≡ true
first true b e = refl
first false b e = e

second : (a b : Bool) → a && b ≡ true → b ≡ true
second true b e = e
second false b e = absurd (false≢true e)

some_more : (xs : List Sel) (x : Sel) → not (is_nil (xs ++ x ∷ [])) ≡ true
some_more [] x = refl
some_more (y ∷ xs) x = refl

both : (a b : Bool) → a ≡ true → b ≡ true → a && b ≡ true
both a b e f = ap (λ z. z && b) e ∙ f

has_first : (xs : List ℕ) (b : Bool) (f : ℕ) → traversed_of b xs ≡ Some f → Has xs f
has_first (x ∷ xs) true f e = inl (let same : x ≡ f = cc in same)
has_first [] true f e = absurd (false≢true (ap is_some e))
has_first xs false f e = absurd (false≢true (ap is_some e))

module _ (program : FlowProgram) (effects : Effects) (accepted : AreReports program effects []) (sub : FlowSub) (there : Has program.subs sub) where
  abbrev s : Typing
  s = flow_typing program

  -- V1: what is changed isn't a part of what an observer designates.
  pub unchanged : (p : FlowPoint) → Has sub.points p → (a : Placed) → Has p.acts a → (m : PlaceName) → changes a.act ≡ Some m → has_selector m ≡ true
      → is_observer s m.root ≡ false
  unchanged p point a has m e parted =
      by_true (is_observer s m.root)
      (λ sight. accepted.complete (text_report a.pos rule.V1 m)
      (on_views sub there (changed p a m (point, has) e (of_observer (both (is_observer s m.root) (has_selector m) sight parted)))))

  -- V1: what is borrowed isn't named through an observer.
  pub not_observed : ((x : ℕ) → Has sub.formals x → is_formal s x ≡ true) → (p : FlowPoint) → Has sub.points p → (a : Placed) → Has p.acts a → (h : ℕ) (m : PlaceName)
      → a.act ≡ act.Borrow h m → is_observer s m.root ≡ false
  not_observed formals p point a has h m e =
      by_true (is_observer s m.root)
      (λ sight. accepted.complete (text_report a.pos rule.V1 m)
      (on_views sub there (lent p a m (point, has) (ap lends e)
      (of_observer (both (is_observer s m.root) (has_selector (extend m (sel.Deref ∷ []))) sight (some_more m.sels sel.Deref)))
      (λ may. never sight (subst (λ z. MayBorrow s sub z) e may)))))
    where
      never : is_observer s m.root ≡ true → MayBorrow s sub (act.Borrow h m) → ⊥
      never sight (directly h' f m' gives traversed root) =
          no_kind (object_at s f).kind
          (first (is_variable (object_at s f).kind) (is_observing (view_of s f)) (subst (λ z. is_observer s z ≡ true) root sight))
          (formals f (has_first sub.formals (traverses s.table sub.result) f traversed))
      never sight (through h' f m' gives traversed borrows only) =
          one_kind (view_of s m.root) (second (is_variable (object_at s m.root).kind) (is_borrowing (view_of s m.root)) borrows)
          (second (is_variable (object_at s m.root).kind) (is_observing (view_of s m.root)) sight)

  -- V2: what an observer is assigned lasts as long as it does.
  pub observed_encloses : (p : FlowPoint) → Has sub.points p → (at : Pos) (h : ℕ) (m : PlaceName) (from : Bool)
      → Has p.acts (record { pos = at; act = act.Observe h m from }) → is_assignment p.instr ≡ true
      → encloses program.scopes (scope_of s m.root) (scope_of s h) ≡ true
  observed_encloses p point at h m from has assigns =
      by_false (encloses program.scopes (scope_of s m.root) (scope_of s h))
      (λ none. accepted.complete (text_report at rule.V2 m) (on_views sub there (shorter p at h m from (point, has) assigns none)))

  -- V4: a borrower is assigned from what is rooted in it.
  pub reborrowed_own : (p : FlowPoint) → Has sub.points p → (at : Pos) (b : ℕ) (m : PlaceName)
      → Has p.acts (record { pos = at; act = act.Reborrow b m }) → m.root ≡ b
  reborrowed_own p point at b m has =
      eqb-true m.root b (by_false (m.root == b)
      (λ none. accepted.complete (text_report (source_pos p.instr at) rule.V4 m) (on_views sub there (other_root p at b m (point, has) none))))
