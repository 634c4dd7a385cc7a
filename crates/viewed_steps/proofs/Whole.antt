-- A call that may end has moved no part of its formals, and none of a package object.
use Rattle.std.proofs.Common.{◌≡◌, refl, sym, ap, ◌∙◌, subst, inl, inr, ℕ, zero, suc, ◌+◌, ◌<◌, ◌≤◌, Bool, true, false, not, ◌&&◌, ◌||◌, ◌==◌, eq-eqb, eqb-true, List, [], ◌∷◌, length, arith, None, if◌then◌else◌}
use Rattle.std.specs.Prelude.{filter, flat_map}
use Rattle.std.specs.List.{list_any}
use Rattle.std.proofs.lemmas.Bool.{false≢true, true≢false}
use Rattle.machine.specs.spark_base.Lists.{Has}
use Rattle.machine.specs.spark_base.declared.position.Pos.{Pos}
use Rattle.soundness.proofs.Lists.{Has-append_left, Has-append_right, Has-filter_passes, Has-map, Has-map_from}
use Rattle.machine.specs.place_names.declared.act.Act.{Act}
use Rattle.machine.specs.place_names.declared.act.Act.TheVariants as act
use Rattle.machine.specs.place_names.declared.act.Placed.{Placed}
use Rattle.machine.specs.place_names.declared.fact.Fact.{Fact}
use Rattle.machine.specs.place_names.declared.fact.Fact.TheVariants.{Moved}
use Rattle.machine.specs.place_names.Names.{Name as PlaceName}
use Rattle.machine.specs.place_names.Facts.{place, adds, is_same_fact}
use Rattle.machine.specs.place_names.declared.rule.Rule.TheVariants.{O9}
use Rattle.machine.specs.place_names.Rules.{forbidden_if, forbids, moved_in}
use Rattle.soundness.proofs.PlaceFacts.{is_same_fact-decides}
use Rattle.machine.specs.typed_tree.declared.object.Object.{Object}
use Rattle.machine.specs.typed_tree.Programs.{TypedSub}
use Rattle.machine.specs.flow_paths.declared.report.Effects.{Effects}
use Rattle.machine.specs.flow_paths.Instructions.{Instruction, Skip, Declare, Assign, Call, Output, Input, Release, Test, Choose, Start, Next, Evaluate, LeaveLoop, Hold, EndScope, Finish, Fall}
use Rattle.machine.specs.flow_paths.Objects.{Typing, is_formal, is_package_object}
use Rattle.machine.specs.flow_paths.Acts.{acts_of}
use Rattle.machine.specs.flow_paths.Points.{NamedPoint, FlowPoint}
use Rattle.machine.specs.flow_paths.Laid.{FlowSub, FlowProgram, NamedSub, distinct, frame_of, kept_roots, point_acts, sub_facts, flow_sub}
use Rattle.machine.specs.flow_paths.Paths.{facts_before}
use Rattle.machine.specs.flow_paths.Effects.{AreEffects, path_points}
use Rattle.soundness.proofs.Contents.{bool_cases}
use Rattle.soundness.proofs.Points.{flow_at}
use Rattle.soundness.proofs.Used.{any_has, fact_added}

-- ---- the end of a call

both : (a b : Bool) → a ≡ true → b ≡ true → a && b ≡ true
both a b e f = ap (λ z. z && b) e ∙ f

distinct_has : (facts : List Fact) (x : Fact) → Has facts x → Has (distinct facts) x
unfolding distinct
distinct_has [] x h = absurd h
distinct_has (f ∷ rest) x h = elim h [
  | inl e ↦ inl e
  | inr later ↦ from (is_same_fact f x) refl (distinct_has rest x later)
]
  where
    from : (b : Bool) → is_same_fact f x ≡ b → Has (distinct rest) x → Has (f ∷ filter (λ g. not (is_same_fact f g)) (distinct rest)) x
    from true is has = inl ((is_same_fact-decides f x).0 is)
    from false is has = inr (Has-filter_passes (λ g. not (is_same_fact f g)) (distinct rest) x has (ap not is))

pub flat_has : {A B : Type 0} (f : A → List B) (xs : List A) (x : A) (y : B) → Has xs x → Has (f x) y → Has (flat_map f xs) y
flat_has f [] x y h k = absurd h
flat_has f (z ∷ xs) x y h k = elim h [
  | inl e ↦ Has-append_left (f z) (flat_map f xs) y (subst (λ w. Has (f w) y) (sym e) k)
  | inr later ↦ Has-append_right (f z) (flat_map f xs) y (flat_has f xs x y later k)
]

-- what the end of a call looks at changes no other act
other_roots : (s : Typing) (sub : TypedSub) (roots : List ℕ) (p : Pos) (i : Instruction) (a : Placed) (f : Fact)
    → Has (acts_of (frame_of s sub roots) p i) a → Has (adds a.act) f → Has (acts_of (frame_of s sub []) p i) a
other_roots s sub roots p Skip a f h new = h
other_roots s sub roots p (Declare x v) a f h new = h
other_roots s sub roots p (Assign target e) a f h new = h
other_roots s sub roots p (Call q actuals result) a f h new = h
other_roots s sub roots p (Output text line) a f h new = h
other_roots s sub roots p (Input target) a f h new = h
other_roots s sub roots p (Release m) a f h new = h
other_roots s sub roots p (Test e) a f h new = h
other_roots s sub roots p (Choose e choices) a f h new = h
other_roots s sub roots p (Start x reversed low high) a f h new = h
other_roots s sub roots p (Next x reversed low high) a f h new = h
other_roots s sub roots p (Evaluate t e left) a f h new = h
other_roots s sub roots p (LeaveLoop e) a f h new = h
other_roots s sub roots p (Hold v) a f h new = h
other_roots s sub roots p (EndScope x) a f h new = h
other_roots s sub roots p Finish a f h new = elim h [
  | inl e ↦ absurd (subst (λ (b : Placed). Has (adds b.act) f) (sym e) new)
  | inr none ↦ absurd none
]
other_roots s sub roots p Fall a f h new = h

module _ (s : Typing) (facts : List Fact) (x : ℕ) (shared : is_formal s x || is_package_object s x ≡ true) (f : Fact) (has : Has facts f) (root : (place f).root ≡ x) where
  rooted : list_any (λ (g : Fact). (place g).root == x) facts ≡ true
  rooted = any_has (λ (g : Fact). (place g).root == x) facts f has (eq-eqb (place f).root x root)

  abbrev is_kept : ℕ → Bool
  is_kept n = (is_formal s n || is_package_object s n) && list_any (λ (g : Fact). (place g).root == n) facts

  kept_there : is_kept x ≡ true
  kept_there = both (is_formal s x || is_package_object s x) _ shared rooted

  kept_has : (n : ℕ) (objects : List Object) → n ≤ x → x < n + length objects → Has (kept_roots s n objects facts) x
  kept_has n [] low high = absurd (omega (arith, low, high))
  kept_has n (o ∷ objects) low high = by_test (is_kept n) refl (λ less. kept_has (suc n) objects less (omega (arith, high)))
    where
      by_test : (b : Bool) → is_kept n ≡ b → (suc n ≤ x → Has (kept_roots s (suc n) objects facts) x)
          → Has (if b then n ∷ kept_roots s (suc n) objects facts else kept_roots s (suc n) objects facts) x
      by_test b is more = elim (bool_cases (n == x)) [
        | inl e ↦ (
            let yes : true ≡ b = sym kept_there ∙ sym (ap is_kept (eqb-true n x e)) ∙ is in
            subst (λ z. Has (if z then n ∷ kept_roots s (suc n) objects facts else kept_roots s (suc n) objects facts) x) yes (inl (eqb-true n x e)))
        | inr e ↦ later b (more (past n x low (λ same. (let yes : true ≡ false = sym (eq-eqb n x same) ∙ e in absurd (true≢false yes)))))
      ]
        where
          later : (b : Bool) → Has (kept_roots s (suc n) objects facts) x → Has (if b then n ∷ kept_roots s (suc n) objects facts else kept_roots s (suc n) objects facts) x
          later true h = inr h
          later false h = h

          past : (a b : ℕ) → a ≤ b → (a ≡ b → ⊥) → suc a ≤ b
          past zero zero l ne = absurd (ne refl)
          past zero (suc b) l ne = omega arith
          past (suc a) zero l ne = absurd (omega (arith, l))
          past (suc a) (suc b) l ne = (let less = past a b (omega (arith, l)) (λ e. ne (ap suc e)) in omega (arith, less))

-- A call that may end has moved no part of a formal or package object.
module _ (program : FlowProgram) (effects : Effects) (are : AreEffects program effects) (own : Typing) (named : NamedSub) where
  abbrev sub : FlowSub
  sub = flow_sub own named

  abbrev roots : List ℕ
  roots = kept_roots own 0 own.objects (sub_facts own named.sub named.points)

  in_facts : (before : List ℕ) (f : Fact) → Has (facts_before (path_points program effects sub) before) f → Has (sub_facts own named.sub named.points) f
  in_facts before f has =
      let from = fact_added program effects are sub before f has in
      let point = Has-map_from (λ (q : NamedPoint). flow_at own named q) named.points from.0 from.2 in
      let act_there : Has (acts_of (frame_of own named.sub roots) (point.0).pos (point.0).instr) from.1 =
      subst (λ (q : FlowPoint). Has q.acts from.1) (sym point.2) from.3 in
      let other = other_roots own named.sub roots (point.0).pos (point.0).instr from.1 f act_there from.4 in
      let all : List Act = flat_map (point_acts (frame_of own named.sub [])) named.points in
      distinct_has (flat_map adds all) f
      (flat_has adds all (from.1).act f
      (flat_has (point_acts (frame_of own named.sub [])) named.points point.0 (from.1).act point.1
      (Has-map (λ (b : Placed). b.act) (acts_of (frame_of own named.sub []) (point.0).pos (point.0).instr) from.1 other)) from.4)

  own_less : (objects : List Object) (x : ℕ) → is_formal (record own { objects = objects }) x || is_package_object (record own { objects = objects }) x ≡ true → x < length objects
  own_less [] x shared = absurd (false≢true shared)
  own_less (o ∷ objects) zero shared = omega arith
  own_less (o ∷ objects) (suc x) shared = (let less = own_less objects x shared in omega (arith, less))

  abbrev pub MayReturn : List ℕ → Type 0
  MayReturn before = (f : Fact) → Has (facts_before (path_points program effects sub) before) f → forbids (act.Return roots) f ≡ None

  pub leaves_whole : (before : List ℕ) → MayReturn before → (name : PlaceName)
      → Has (facts_before (path_points program effects sub) before) (Moved name) → is_formal own name.root || is_package_object own name.root ≡ true → ⊥
  leaves_whole before allowed name has shared =
      let kept : Has roots name.root =
      kept_has own (sub_facts own named.sub named.points) name.root shared (Moved name) (in_facts before (Moved name) has) refl 0 own.objects (omega arith)
      (let less = own_less own.objects name.root shared in omega (arith, less)) in
      let broken : moved_in roots (Moved name) ≡ true = any_has (λ x. x == name.root) roots name.root kept (eq-eqb name.root name.root refl) in
      spared (moved_in roots (Moved name)) broken (allowed (Moved name) has)
    where
      spared : (b : Bool) → b ≡ true → forbidden_if b O9 name (Moved name) ≡ None → ⊥
      spared true e none = cc
      spared false e none = absurd (false≢true e)
