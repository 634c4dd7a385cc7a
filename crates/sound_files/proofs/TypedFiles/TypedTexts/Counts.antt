-- Points have as many successors as their instructions lead to, where the resolved code is as the grammar has it.
use Rattle.std.proofs.Common.{◌≡◌, refl, sym, ap, ◌∙◌, subst, inl, inr, ℕ, ◌+◌, true, false, List, [], ◌∷◌, ◌++◌, map, length, None}
use Rattle.std.specs.List.{AllByRecursion}
use Rattle.std.proofs.lemmas.Bool.{false≢true}
use Rattle.std.proofs.lemmas.List.{length-map}
use Rattle.machine.specs.spark_base.Lists.{Has}
use Rattle.soundness.proofs.Lists.{Has-map_from}
use Rattle.machine.specs.resolved_tree.Trees.{Code}
use Rattle.machine.specs.type_definitions.declared.table.Known.{Known}
use Rattle.machine.specs.type_definitions.Types.{Table}
use Rattle.machine.specs.typed_tree.Trees.{TypedCode, typed_code_list}
use Rattle.machine.specs.typed_tree.Trees as typed
use Rattle.machine.specs.typed_tree.Expressions.{Site}
use Rattle.machine.specs.typed_tree.Programs.{TypedSub, TypedProgram, elaborated, elaboration, over_units, program_objects, site_of, subs_in, typed_program}
use Rattle.machine.specs.flow_paths.Instructions as instruction
use Rattle.machine.specs.flow_paths.Objects.{Typing}
use Rattle.machine.specs.flow_paths.Acts.{Frame}
use Rattle.machine.specs.flow_paths.Points.{Place, PointName, row_at, NamedPoint, point, entry, FlowPoint, flow_point}
use Rattle.machine.specs.flow_paths.Prep.{Setting, with_held, prep}
use Rattle.machine.specs.flow_paths.Layout.{Around, with_scope, declared, laid}
use Rattle.machine.specs.flow_paths.Laid.{NamedSub, FlowSub, typing_of, named_sub, named_subs, sub_temporaries, numbers_from, unnumbered, around_body, elaboration_points, frame_of, kept_roots, sub_facts, number_in, flow_sub, flow_program}
use Rattle.settled_types.specs.OrderLaws.ScopeLaws.Code.{is_formed}
use Rattle.settled_types.specs.OrderLaws.ScopeLaws.Order as order
use Rattle.settled_types.proofs.OrderLaws.ScopeLaws.Successors.{prep_counted, sub_counted}
use Rattle.settled_types.specs.OrderLaws.Written.{is_unit}
use Rattle.settled_types.proofs.OrderLaws.Bodies.{IsDeclare, typed_body_written}
use Rattle.settled_types.proofs.OrderLaws.First.{units_declare}
use Rattle.settled_types.proofs.OrderLaws.Units.{IsBodyOf, units_of}
use Rattle.soundness.specs.TypedLaws.TypedSteps.Steps.{IsCounted, AreElaborated, AreCounted}

-- ---- points of subprograms

abbrev AllCounted : List NamedPoint → Type 0
AllCounted ps = AllByRecursion order.IsCounted ps

all_has : {A : Type 0} (P : A → Type 0) (xs : List A) (x : A) → AllByRecursion P xs → Has xs x → P x
all_has P [] x all has = absurd has
all_has P (z ∷ xs) x all has = elim has [ inl is ↦ subst P is all.0 | inr more ↦ all_has P xs x all.1 more ]

point_counted : (f : Frame) (number : PointName → ℕ) (p : NamedPoint) → order.IsCounted p → IsCounted (flow_point f number p)
point_counted f number p is = length-map p.next number ∙ is

sub_points_counted : (s : Typing) (named : NamedSub) → AllCounted named.points → (p : FlowPoint) → Has (flow_sub s named).points p → IsCounted p
sub_points_counted s named all p has =
    let frame : Frame = frame_of s named.sub (kept_roots s 0 s.objects (sub_facts s named.sub named.points)) in
    let at = Has-map_from (flow_point frame (number_in named.points)) named.points p has in
    subst IsCounted at.2 (point_counted frame (number_in named.points) at.0 (all_has order.IsCounted named.points at.0 all at.1))

each_counted : (s : Typing) (n : ℕ) (subs : List TypedSub) → ((sub : TypedSub) → Has subs sub → is_formed false sub.body ≡ true)
    → (sub : FlowSub) → Has (map (flow_sub s) (named_subs s n subs)) sub → (p : FlowPoint) → Has sub.points p → IsCounted p
each_counted s n [] formed sub has p there = absurd has
each_counted s n (first ∷ rest) formed sub has p there =
    let all = sub_temporaries s first in
    let setting : Setting = record { typing = s; temporary = numbers_from n all } in
    elim has [
      | inl is ↦ sub_points_counted s (named_sub s n all first) (sub_counted setting first (formed first (inl refl))) p (subst (λ (z : FlowSub). Has z.points p) (sym is) there)
      | inr more ↦ each_counted s (n + length all) rest (λ x h. formed x (inr h)) sub more p there
    ]

-- ---- package objects

unfoldable Elaborated : List NamedPoint → Type 0
Elaborated [] = Unit {0}
Elaborated (p ∷ []) = length p.next ≡ 0
Elaborated (p ∷ (q ∷ rest)) = order.IsCounted p × Elaborated (q ∷ rest)

last_one : (ps : List NamedPoint) (q : NamedPoint) → AllCounted ps → length q.next ≡ 0 → Elaborated (ps ++ q ∷ [])
unfolding Elaborated
last_one [] q all none = none
last_one (p ∷ []) q all none = (all.0, none)
last_one (p ∷ (r ∷ ps)) q all none = (all.0, last_one (r ∷ ps) q all.1 none)

before : (ps : List NamedPoint) (q : NamedPoint) (rest : List NamedPoint) → AllCounted ps → Elaborated (q ∷ rest) → Elaborated (ps ++ q ∷ rest)
unfolding Elaborated
before [] q rest all h = h
before (p ∷ []) q rest all h = (all.0, h)
before (p ∷ (r ∷ ps)) q rest all h = (all.0, before (r ∷ ps) q rest all.1 h)

one_more : (ps : List NamedPoint) (q : NamedPoint) → AllCounted ps → order.IsCounted q → AllCounted (ps ++ q ∷ [])
one_more [] q all is = (is, tt)
one_more (p ∷ ps) q all is = (all.0, one_more ps q all.1 is)

declared_counted : (g : Setting) (cs : List TypedCode) → AllByRecursion IsDeclare cs → (at : Place) (w : Around) → Elaborated (laid g (typed_code_list cs) at w [])
unfolding Elaborated laid
declared_counted g [] all at w = tt
declared_counted g (typed.Declare p x v ∷ cs) all at w =
    by (laid g (typed_code_list cs) (1 ∷ at) (with_scope (declared (typed.Declare p x v)) w) []) (declared_counted g cs all.1 (1 ∷ at) (with_scope (declared (typed.Declare p x v)) w))
  where
    prepared : List NamedPoint
    prepared = prep g v (0 ∷ (0 ∷ at)) w.scope (row_at (0 ∷ at) 0 ∷ [])

    counted : AllCounted prepared
    counted = prep_counted g v (0 ∷ (0 ∷ at)) w.scope (row_at (0 ∷ at) 0 ∷ []) refl

    own : List PointName → NamedPoint
    own next = point (row_at (0 ∷ at) 0) p (instruction.Declare x v) (with_held g v (0 ∷ (0 ∷ at)) w.scope) next

    by : (rest : List NamedPoint) → Elaborated rest → Elaborated ((prepared ++ own (entry rest []) ∷ []) ++ rest)
    by [] h = subst Elaborated (sym (append_nil (prepared ++ own [] ∷ []))) (last_one prepared (own []) counted refl)
      where
        append_nil : (xs : List NamedPoint) → xs ++ [] ≡ xs
        append_nil [] = refl
        append_nil (x ∷ xs) = ap (λ ys. x ∷ ys) (append_nil xs)
    by (q ∷ rest) h = before (prepared ++ own (q.name ∷ []) ∷ []) q rest (one_more prepared (own (q.name ∷ [])) counted refl) h
declared_counted g (c ∷ cs) all at w = absurd (false≢true all.0)

flow_elaborated : (f : Frame) (number : PointName → ℕ) (ps : List NamedPoint) → Elaborated ps → AreElaborated (map (flow_point f number) ps)
unfolding Elaborated AreElaborated
flow_elaborated f number [] h = tt
flow_elaborated f number (p ∷ []) h = length-map p.next number ∙ h
flow_elaborated f number (p ∷ (q ∷ rest)) h = (point_counted f number p h.0, flow_elaborated f number (q ∷ rest) h.1)

module _ (table : Table) (known : Known) (units : List Code) (written : (u : Code) → Has units u → is_unit u ≡ true) where
  abbrev program : TypedProgram
  program = typed_program known units

  abbrev own : Typing
  own = typing_of table program

  abbrev site : Site
  site = site_of known units

  abbrev bodies : List TypedSub
  bodies = over_units (subs_in site) 1 units

  formed : (sub : TypedSub) → Has bodies sub → is_formed false sub.body ≡ true
  formed sub has =
      let b : IsBodyOf units site (program_objects known units) sub = units_of units site (record { known = known; identifier = None }) 1 1 units written sub has in
      subst (λ (z : TypedSub). is_formed false z.body ≡ true) b.is (typed_body_written _ (b.scope + 1) b.items b.stmts b.declarations b.statements).1

  nil_end : (g : Setting) (sub : TypedSub) → Elaborated (laid g sub.body (0 ∷ []) (around_body g sub) []) → Elaborated (elaboration_points g sub)
  nil_end g sub h = subst Elaborated (sym (append_nil (laid g sub.body (0 ∷ []) (around_body g sub) []))) h
    where
      append_nil : (xs : List NamedPoint) → xs ++ [] ≡ xs
      append_nil [] = refl
      append_nil (x ∷ xs) = ap (λ ys. x ∷ ys) (append_nil xs)

  pub counted : AreCounted (flow_program table program).subs
  unfolding typed_program flow_program
  counted =
      let first : TypedSub = elaboration site units in
      let points : List NamedPoint = elaboration_points (unnumbered own) first in
      let frame : Frame = frame_of own first (kept_roots own 0 own.objects (sub_facts own first points)) in (
        flow_elaborated frame (number_in points) points
            (nil_end (unnumbered own) first
            (declared_counted (unnumbered own) (over_units (elaborated site) 1 units) (units_declare site 1 units written) (0 ∷ []) (around_body (unnumbered own) first))),
        λ sub has p there. each_counted own (length own.objects) bodies formed sub has p there,
      )
