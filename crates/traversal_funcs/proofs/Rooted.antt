-- What the label reaches has a root that is asked for.
use Rattle.std.proofs.Common.{◌≡◌, refl, sym, ◌∙◌, subst, inl, inr, ℕ, Bool, true, not, List, [], ◌∷◌, ◌++◌, map}
use Rattle.std.specs.List.{flat_map}
use Rattle.spark_base.specs.Lists.{Has}
use Rattle.spark_base.proofs.Lists.{Has-append_left, Has-append_right, Has-append_cases}
use Rattle.place_names.specs.Names.{Name}
use Rattle.place_names.specs.declared.act.Act.{Act}
use Rattle.place_names.specs.declared.act.Act.TheVariants as act
use Rattle.place_names.specs.declared.act.Placed.{Placed}
use Rattle.place_names.proofs.Names.{both_parts, both_true}
use Rattle.label_flow.specs.Flows.{Reaches, starts, moves}
use Rattle.typed_tree.specs.Nodes.{TypedNodes}
use Rattle.flow_paths.specs.declared.point.Point.{Point}
use Rattle.flow_paths.specs.Objects.{Typing}
use Rattle.flow_paths.specs.Points.{FlowPoint}
use Rattle.flow_paths.specs.Stands.{flow_point_of}
use Rattle.flow_paths.specs.Views.{Roots, itself, borrows, observes, holds_loans}
use Rattle.traversal_funcs.specs.declared.lending.Lending.{Lending}
use Rattle.traversal_funcs.specs.declared.questions.Question.{Question}
use Rattle.traversal_funcs.specs.declared.questions.Question.TheVariants as question
use Rattle.traversal_funcs.specs.Lendings.{lending_of, lendings_at, lendings_of}
use Rattle.traversal_funcs.specs.Questions.{asks, is_answer, HasRoot}
use Rattle.traversal_funcs.specs.Searches.{flow_on}
use Rattle.traversal_funcs.proofs.Held.{holder_lent, lent_holder}

-- ---- sources and acts

-- Some act gives an object as a source to a holder.
pub data Gives (acts : List Act) : ℕ → ℕ → Type 0 where
  by_borrow : (h : ℕ) (m : Name) → Has acts (act.Borrow h m) → Gives acts m.root h
  by_observe : (h : ℕ) (m : Name) (from_observer : Bool) → Has acts (act.Observe h m from_observer) → Gives acts m.root h

abbrev pub acts_in : List Placed → List Act
acts_in acts = map (λ (a : Placed). a.act) acts

-- those of some points
abbrev pub acts_on : TypedNodes → List Point → List Act
acts_on rows points = flat_map (λ (p : FlowPoint). map (λ (a : Placed). a.act) p.acts) (map (flow_point_of rows) points)

gives_more : (acts more : List Act) (a b : ℕ) → ((x : Act) → Has acts x → Has more x) → Gives acts a b → Gives more a b
gives_more acts more a' b' all (by_borrow h m has) = by_borrow h m (all (act.Borrow h m) has)
gives_more acts more a' b' all (by_observe h m from has) = by_observe h m from (all (act.Observe h m from) has)

act_gives : (x : Act) (l : Lending) → Has (lending_of x) l → Gives (x ∷ []) l.source l.holder
act_gives (act.Borrow h m) l has = elim has [
  | inl is ↦ subst (λ (y : Lending). Gives (act.Borrow h m ∷ []) y.source y.holder) is (by_borrow h m (inl refl))
  | inr none ↦ absurd none
]
act_gives (act.Observe h m from) l has = elim has [
  | inl is ↦ subst (λ (y : Lending). Gives (act.Observe h m from ∷ []) y.source y.holder) is (by_observe h m from (inl refl))
  | inr none ↦ absurd none
]
act_gives (act.Read m) l has = absurd has
act_gives (act.Look m) l has = absurd has
act_gives (act.Write m) l has = absurd has
act_gives (act.Move m parts) l has = absurd has
act_gives (act.Reborrow b m) l has = absurd has
act_gives (act.EndScope x b) l has = absurd has
act_gives (act.Return roots) l has = absurd has
act_gives (act.Actual m how owning access) l has = absurd has
act_gives (act.Global g written) l has = absurd has
act_gives (act.Free m) l has = absurd has
act_gives (act.Give m b) l has = absurd has

first_act : (x : Act) (rest : List Act) (y : Act) → Has (x ∷ []) y → Has (x ∷ rest) y
first_act x rest y h = elim h [ inl e ↦ inl e | inr none ↦ absurd none ]

acts_give : (acts : List Placed) (l : Lending) → Has (lendings_at acts) l → Gives (acts_in acts) l.source l.holder
acts_give [] l h = absurd h
acts_give (a ∷ acts) l h = elim (Has-append_cases (lending_of a.act) (lendings_at acts) l h) [
  | inl h ↦ gives_more (a.act ∷ []) (a.act ∷ acts_in acts) l.source l.holder (first_act a.act (acts_in acts)) (act_gives a.act l h)
  | inr h ↦ gives_more (acts_in acts) (a.act ∷ acts_in acts) l.source l.holder (λ y h. inr h) (acts_give acts l h)
]

pub points_give : (rows : TypedNodes) (points : List Point) (l : Lending) → Has (lendings_of points) l → Gives (acts_on rows points) l.source l.holder
points_give rows [] l h = absurd h
points_give rows (p ∷ points) l h = elim (Has-append_cases (lendings_at p.acts) (lendings_of points) l h) [
  | inl h ↦ gives_more (acts_in p.acts) (acts_in p.acts ++ acts_on rows points) l.source l.holder
      (λ y h. Has-append_left (acts_in p.acts) (acts_on rows points) y h) (acts_give p.acts l h)
  | inr h ↦ gives_more (acts_on rows points) (acts_in p.acts ++ acts_on rows points) l.source l.holder
      (λ y h. Has-append_right (acts_in p.acts) (acts_on rows points) y h) (points_give rows points l h)
]

given_at : (acts : List Placed) (x : Act) (l : Lending) → Has (acts_in acts) x → Has (lending_of x) l → Has (lendings_at acts) l
given_at [] x l h has = absurd h
given_at (a ∷ acts) x l h has = elim h [
  | inl is ↦ Has-append_left (lending_of a.act) (lendings_at acts) l (subst (λ y. Has (lending_of y) l) (sym is) has)
  | inr h ↦ Has-append_right (lending_of a.act) (lendings_at acts) l (given_at acts x l h has)
]

pub given_on : (rows : TypedNodes) (points : List Point) (x : Act) (l : Lending) → Has (acts_on rows points) x → Has (lending_of x) l → Has (lendings_of points) l
given_on rows [] x l h has = absurd h
given_on rows (p ∷ points) x l h has = elim (Has-append_cases (acts_in p.acts) (acts_on rows points) x h) [
  | inl h ↦ Has-append_left (lendings_at p.acts) (lendings_of points) l (given_at p.acts x l h has)
  | inr h ↦ Has-append_right (lendings_at p.acts) (lendings_of points) l (given_on rows points x l h has)
]

-- ---- roots

-- The signatures of subprograms don't matter here.
abbrev pub bare : Typing → Typing
bare s = record { table = s.table; objects = s.objects; subs = [] }

asks_same : (s : Typing) (q : Question) (r : ℕ) → asks (bare s) q r ≡ asks s q r
asks_same s question.IsOuter r = refl
asks_same s (question.Is x) r = refl
asks_same s (question.IsOther x) r = refl

-- a root of a source is one of its holder
root_along : (s : Typing) (q : Question) (acts : List Act) (a b : ℕ) → Gives acts a b → HasRoot s acts q a → HasRoot s acts q b
root_along s q acts a' b' (by_borrow h m has) r = record { root = r.root; is = borrows h r.root m has r.is; asked = r.asked }
root_along s q acts a' b' (by_observe h m from has) r = record { root = r.root; is = observes h r.root m from has r.is; asked = r.asked }

pub reached_root : (s : Typing) (q : Question) (rows : TypedNodes) (points : List Point) (x : ℕ) (k : Unit {0})
    → Reaches (flow_on (is_answer (bare s) q) (lendings_of points)) x k → HasRoot s (acts_on rows points) q x
reached_root s q rows points x' k' (starts a k e) =
    let both = both_parts (not (holds_loans s a)) (asks (bare s) q a) e in
    record { root = a; is = itself a both.0; asked = sym (asks_same s q a) ∙ both.1 }
reached_root s q rows points x' k' (moves a b k r edge) =
    root_along s q (acts_on rows points) a b
    (points_give rows points (record { source = a; holder = b }) (holder_lent (lendings_of points) a b edge).listed)
    (reached_root s q rows points a k r)

root_reached : (s : Typing) (q : Question) (rows : TypedNodes) (points : List Point) (x r : ℕ) → asks s q r ≡ true
    → Roots s (acts_on rows points) x r → Reaches (flow_on (is_answer (bare s) q) (lendings_of points)) x tt
root_reached s q rows points x' r' e (itself x none) = starts x tt (both_true (not (holds_loans s x)) (asks (bare s) q x) none (asks_same s q x ∙ e))
root_reached s q rows points x' r' e (borrows h r m has rest) =
    moves m.root h tt (root_reached s q rows points m.root r e rest)
    (lent_holder (lendings_of points) m.root h (given_on rows points (act.Borrow h m) (record { source = m.root; holder = h }) has (inl refl)))
root_reached s q rows points x' r' e (observes h r m from has rest) =
    moves m.root h tt (root_reached s q rows points m.root r e rest)
    (lent_holder (lendings_of points) m.root h (given_on rows points (act.Observe h m from) (record { source = m.root; holder = h }) has (inl refl)))

pub has_root_reached : (s : Typing) (q : Question) (rows : TypedNodes) (points : List Point) (x : ℕ) → HasRoot s (acts_on rows points) q x
    → Reaches (flow_on (is_answer (bare s) q) (lendings_of points)) x tt
has_root_reached s q rows points x h = root_reached s q rows points x h.root h.asked h.is
