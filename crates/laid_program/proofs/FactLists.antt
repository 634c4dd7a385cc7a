-- The facts of a subprogram have each fact that its acts add.
use Rattle.std.proofs.Common.{◌≡◌, refl, sym, ap, subst, inl, inr, ℕ, Bool, true, false, not, List, [], ◌∷◌, map, filter}
use Rattle.std.specs.Prelude.{flat_map}
use Rattle.spark_base.specs.Lists.{Has}
use Rattle.spark_base.proofs.Lists.{Has-append_left, Has-append_right, Has-map, Has-map_from, Has-filter_passes}
use Rattle.spark_base.specs.declared.position.Pos.{Pos}
use Rattle.place_names.specs.declared.act.Act.{Act}
use Rattle.place_names.specs.declared.act.Placed.{Placed}
use Rattle.place_names.specs.declared.fact.Fact.{Fact}
use Rattle.place_names.specs.Facts.{adds, is_same_fact}
use Rattle.place_names.proofs.Facts.{is_same_fact-decides}
use Rattle.typed_tree.specs.Programs.{TypedSub}
use Rattle.flow_paths.specs.Instructions.{Instruction, Skip, Declare, Assign, Call, Output, Input, Release, Test, Choose, Start, Next, Evaluate, LeaveLoop, Hold, EndScope, Finish, Fall}
use Rattle.flow_paths.specs.Objects.{Typing}
use Rattle.flow_paths.specs.Acts.{acts_of}
use Rattle.flow_paths.specs.Points.{NamedPoint, FlowPoint, flow_point}
use Rattle.flow_paths.specs.Laid.{distinct, facts_of, frame_of, kept_roots, point_acts, sub_facts, number_in, numbered, NamedSub, FlowSub, flow_sub}

-- ---- a list without what was there before

distinct_has : (facts : List Fact) (x : Fact) → Has facts x → Has (distinct facts) x
unfolding distinct
distinct_has [] x h = absurd h
distinct_has (f ∷ rest) x h = elim h [
  | inl e ↦ inl e
  | inr later ↦ from (is_same_fact f x) refl (distinct_has rest x later)
]
  where
    from : (b : Bool) → is_same_fact f x ≡ b → Has (distinct rest) x → Has (f ∷ filter (λ g. not (is_same_fact f g)) (distinct rest)) x
    from true is has = inl ((is_same_fact-decides f x).0 is)
    from false is has = inr (Has-filter_passes (λ g. not (is_same_fact f g)) (distinct rest) x has (ap not is))

Has-flat_map : {A B : Type 0} (f : A → List B) (xs : List A) (x : A) (y : B) → Has xs x → Has (f x) y → Has (flat_map f xs) y
Has-flat_map f [] x y h k = absurd h
Has-flat_map f (z ∷ xs) x y h k = elim h [
  | inl e ↦ Has-append_left (f z) (flat_map f xs) y (subst (λ w. Has (f w) y) (sym e) k)
  | inr later ↦ Has-append_right (f z) (flat_map f xs) y (Has-flat_map f xs x y later k)
]

facts_of_has : (acts : List Act) (a : Act) (f : Fact) → Has acts a → Has (adds a) f → Has (facts_of acts) f
facts_of_has acts a f h new = distinct_has (flat_map adds acts) f (Has-flat_map adds acts a f h new)

-- ---- what the end of a call looks at doesn't matter

other_roots : (s : Typing) (sub : TypedSub) (roots : List ℕ) (p : Pos) (i : Instruction) (a : Placed) (f : Fact)
    → Has (acts_of (frame_of s sub roots) p i) a → Has (adds a.act) f → Has (acts_of (frame_of s sub []) p i) a
other_roots s sub roots p Skip a f h new = h
other_roots s sub roots p (Declare x v) a f h new = h
other_roots s sub roots p (Assign target e) a f h new = h
other_roots s sub roots p (Call q actuals result) a f h new = h
other_roots s sub roots p (Output text line) a f h new = h
other_roots s sub roots p (Input target) a f h new = h
other_roots s sub roots p (Release m) a f h new = h
other_roots s sub roots p (Test e) a f h new = h
other_roots s sub roots p (Choose e choices) a f h new = h
other_roots s sub roots p (Start x reversed low high) a f h new = h
other_roots s sub roots p (Next x reversed low high) a f h new = h
other_roots s sub roots p (Evaluate t e left) a f h new = h
other_roots s sub roots p (LeaveLoop e) a f h new = h
other_roots s sub roots p (Hold v) a f h new = h
other_roots s sub roots p (EndScope x) a f h new = h
other_roots s sub roots p Finish a f h new = elim h [
  | inl e ↦ absurd (subst (λ (b : Placed). Has (adds b.act) f) (sym e) new)
  | inr none ↦ absurd none
]
other_roots s sub roots p Fall a f h new = h

-- ---- subprograms

-- The facts of a subprogram have each that an act of one of its points adds.
abbrev pub AreAdded : FlowSub → Type 0
AreAdded sub = (p : FlowPoint) (a : Placed) (f : Fact) → Has sub.points p → Has p.acts a → Has (adds a.act) f → Has sub.facts f

sub_added : (s : Typing) (sub : TypedSub) (roots : List ℕ) (points : List NamedPoint) (p : FlowPoint) (a : Placed) (f : Fact)
    → Has (numbered (frame_of s sub roots) points) p → Has p.acts a → Has (adds a.act) f → Has (sub_facts s sub points) f
sub_added s sub roots points p a f h act new =
    let from = Has-map_from (flow_point (frame_of s sub roots) (number_in points)) points p h in
    let own : Has (acts_of (frame_of s sub roots) from.0.pos from.0.instr) a = subst (λ (x : FlowPoint). Has x.acts a) (sym from.2) act in
    let other = other_roots s sub roots from.0.pos from.0.instr a f own new in
    let there : Has (point_acts (frame_of s sub []) from.0) a.act =
    Has-map (λ (b : Placed). b.act) (acts_of (frame_of s sub []) from.0.pos from.0.instr) a other in
    facts_of_has (flat_map (point_acts (frame_of s sub [])) points) a.act f
    (Has-flat_map (point_acts (frame_of s sub [])) points from.0 a.act from.1 there) new

pub named_added : (s : Typing) (named : NamedSub) → AreAdded (flow_sub s named)
named_added s named =
    sub_added s named.sub (kept_roots s 0 s.objects (sub_facts s named.sub named.points)) named.points

pub all_added : (s : Typing) (all : List NamedSub) (sub : FlowSub) → Has (map (flow_sub s) all) sub → AreAdded sub
all_added s [] sub h = absurd h
all_added s (named ∷ rest) sub h = elim h [
  | inl e ↦ subst AreAdded e (named_added s named)
  | inr later ↦ all_added s rest sub later
]
