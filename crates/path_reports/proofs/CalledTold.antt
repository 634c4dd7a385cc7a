-- What the facts that may hold are reported for at calls is what all acts of the calls report.
use Rattle.std.proofs.Common.{◌≡◌, inl, inr, refl, sym, ap, ◌∙◌, subst, ℕ, Bool, true, false, ◌==◌, List, [], ◌∷◌, ◌++◌, map, drop, length, Option, Some, None, if◌then◌else◌, eqb-true}
use Rattle.spark_base.specs.Lists.{Has}
use Rattle.spark_base.proofs.Lists.{Has-append_left, Has-append_right, Has-append_cases, Has-map, Has-map_from}
use Rattle.spark_base.specs.declared.position.Pos.{Pos}
use Rattle.place_names.specs.declared.act.Act.{Act}
use Rattle.place_names.specs.declared.act.Act.TheVariants.{Global}
use Rattle.place_names.specs.declared.fact.Fact.{Fact}
use Rattle.place_names.specs.declared.fact.Fact.TheVariants.{Moved, Lent}
use Rattle.place_names.specs.declared.rule.Loan.TheVariants.{Borrowed, Observed}
use Rattle.place_names.specs.Names.{Name, object, overlaps, agree_along}
use Rattle.place_names.specs.Facts.{place}
use Rattle.place_names.specs.Rules.{Forbidden, forbids, breaks_O11}
use Rattle.place_names.specs.Reports.{Report, report_at}
use Rattle.place_names.proofs.Names.{both_parts}
use Rattle.fact_questions.specs.Findings.{found_among}
use Rattle.state_trees.specs.FactStates.{FactState, may_hold, marked, may_behind, state_behind}
use Rattle.move_rules.specs.MoveRules.{moves_forbid}
use Rattle.borrow_observe.specs.LoanRules.{loans_forbid}
use Rattle.typed_tree.specs.declared.object.Object.{Object}
use Rattle.flow_paths.specs.declared.report.Effects.{Effects}
use Rattle.flow_paths.specs.declared.instr.Instr.{Instr}
use Rattle.flow_paths.specs.declared.instr.Instr.TheVariants as instr
use Rattle.flow_paths.specs.declared.point.Point.{Point}
use Rattle.flow_paths.specs.Acts.{placed}
use Rattle.flow_paths.specs.Effects.{is_in, read_by, written_by, globals_from}
use Rattle.point_states.specs.Carries.{state_along, acts_of}
use Rattle.path_reports.specs.CalledPoints.{called_by, called_point, called_points}
use Rattle.path_reports.specs.Uses.{breaks_at, breaks_call, use_forbids, uses_told, called_told, point_told, where_told, all_told}
use Rattle.path_reports.specs.Told.{found_at, told_along, told_where, told_all}
use Rattle.path_reports.proofs.FoundAmong.{found_from, found_to, among_from, among_to}
use Rattle.path_reports.proofs.Putting.{told_along-append}
use Rattle.path_reports.proofs.CalledActs.{of_call, to_call, IsOn, act_is, use_forbidden, only_true, same_only, broken_by, breaks_acted, IsLookedAt, breaks_from, breaks_to}

-- ---- an act on a package object changes nothing

unmarked_same : (g : ℕ) (written : Bool) (facts : List Fact) (may : List Bool) → marked facts (may_behind (Global g written) facts may) ≡ marked facts may
unmarked_same g written [] may = refl
unmarked_same g written (f ∷ facts) [] = refl
unmarked_same g written (f ∷ facts) (true ∷ may) = ap (λ l. f ∷ l) (unmarked_same g written facts may)
unmarked_same g written (f ∷ facts) (false ∷ may) = unmarked_same g written facts may

same_behind : (g : ℕ) (a : Act) (s : FactState) → IsOn g a → may_hold (state_behind a s) ≡ may_hold s
same_behind g a s on = ap (λ b. may_hold (state_behind b s)) on.is ∙ unmarked_same g on.written s.facts s.may

-- what is found goes by the facts that may hold
abbrev found_by : Act → List Fact → List Forbidden
found_by a facts = found_among (moves_forbid a) facts ++ found_among (loans_forbid a) facts

-- some act of a list, all of one position, gives a report before all of them
record IsTold (pos : Pos) (acts : List Act) (s : FactState) (r : Report) : Type 0 where
  pub act : Act
  pub has : Has acts act
  pub told : Has (map (report_at pos) (found_at act s)) r

told_of : (pos : Pos) (acts : List Act) (s : FactState) (r : Report) → ((a : Act) → Has acts a → (g : ℕ) × IsOn g a)
    → Has (told_along (map (placed pos) acts) s) r → IsTold pos acts s r
told_of pos [] s r on h = absurd h
told_of pos (a ∷ acts) s r on h =
    let first = on a (inl refl) in
    elim (Has-append_cases (map (report_at pos) (found_at a s)) (told_along (map (placed pos) acts) (state_behind a s)) r h) [
      | inl here ↦ record { act = a; has = inl refl; told = here }
      | inr later ↦
          let more = told_of pos acts (state_behind a s) r (λ b k. on b (inr k)) later in
          record {
            act = more.act;
            has = inr more.has;
            told = subst (λ l. Has (map (report_at pos) (found_by more.act l)) r) (same_behind first.0 a s first.1) more.told;
          }
    ]

of_told : (pos : Pos) (acts : List Act) (s : FactState) (r : Report) → ((a : Act) → Has acts a → (g : ℕ) × IsOn g a)
    → (a : Act) → Has acts a → Has (map (report_at pos) (found_at a s)) r → Has (told_along (map (placed pos) acts) s) r
of_told pos [] s r on a h told = absurd h
of_told pos (b ∷ acts) s r on a h told =
    let first = on b (inl refl) in
    let here = map (report_at pos) (found_at b s) in
    let rest = told_along (map (placed pos) acts) (state_behind b s) in
    elim h [
      | inl e ↦ Has-append_left here rest r (subst (λ c. Has (map (report_at pos) (found_at c s)) r) (sym e) told)
      | inr later ↦ Has-append_right here rest r (of_told pos acts (state_behind b s) r (λ c k. on c (inr k)) a later
          (subst (λ l. Has (map (report_at pos) (found_by a l)) r) (sym (same_behind first.0 b s first.1)) told))
    ]

-- ---- a fact that forbids something at an act on a package object is rooted in it

overlaps_root : (k : Name) (g : ℕ) → overlaps k (object g) ≡ true → k.root ≡ g
overlaps_root k g e = eqb-true k.root g (both_parts (k.root == g) (agree_along k.sels []) e).0

breaks_root : (g : ℕ) (written : Bool) (f : Fact) → breaks_O11 g written f ≡ true → (place f).root ≡ g
breaks_root g true f e = overlaps_root (place f) g e
breaks_root g false (Moved n) e = overlaps_root n g e
breaks_root g false (Lent Borrowed h n) e = overlaps_root n g e
breaks_root g false (Lent Observed h n) e = cc

forbids_root : (g : ℕ) (written : Bool) (f : Fact) (y : Forbidden) → forbids (Global g written) f ≡ Some y → (place f).root ≡ g
forbids_root g written f y e = breaks_root g written f (broken (breaks_O11 g written f) (use_forbidden g f) y e)
  where
    broken : (b : Bool) (x y : Forbidden) → (if b then Some x else None) ≡ Some y → b ≡ true
    broken true x y e = refl
    broken false x y e = cc

-- ---- the same reports

-- two lists have the same reports
abbrev pub AreSame : List Report → List Report → Type 0
AreSame xs ys = (r : Report) → (Has xs r → Has ys r) × (Has ys r → Has xs r)

same_append : (xs ys us vs : List Report) → AreSame xs ys → AreSame us vs → AreSame (xs ++ us) (ys ++ vs)
same_append xs ys us vs first second r = (
  λ h. elim (Has-append_cases xs us r h) [
    | inl here ↦ Has-append_left ys vs r ((first r).0 here)
    | inr later ↦ Has-append_right ys vs r ((second r).0 later)
  ],
  λ h. elim (Has-append_cases ys vs r h) [
    | inl here ↦ Has-append_left xs us r ((first r).1 here)
    | inr later ↦ Has-append_right xs us r ((second r).1 later)
  ],
)

-- ---- a call

call_on : (objects : List Object) (r w : List ℕ) (a : Act) → Has (globals_from 1 (drop 1 objects) r w) a → (g : ℕ) × IsOn g a
call_on objects r w a h = (let c = of_call objects r w a h in (c.0, act_is c.0 (is_in c.0 r) (is_in c.0 w) a c.1.has))

-- what a fact forbids, an act forbids
fact_acts : (objects : List Object) (r w : List ℕ) (pos : Pos) (s : FactState) (f : Fact) (y : Forbidden) (x : Report) → Has (may_hold s) f
    → use_forbids (length objects) r w f ≡ Some y → report_at pos y ≡ x
    → Has (told_along (map (placed pos) (globals_from 1 (drop 1 objects) r w)) s) x
fact_acts objects r w pos s f y x has forbidden reported =
    let count = length objects in
    let g = (place f).root in
    let one = only_true (breaks_call count r w f) (use_forbidden g f) y forbidden in
    let at = breaks_from count r w g f one.0 in
    let acted = breaks_acted g f (is_in g r) (is_in g w) at.breaks in
    let a = Global g acted.written in
    let found : Has (found_at a s) y = found_to a s y (record { fact = f; has = has; is = acted.forbids ∙ ap (λ (z : Forbidden). Some z) one.1 }) in
    of_told pos (globals_from 1 (drop 1 objects) r w) s x (call_on objects r w) a
    (to_call objects r w a g (record { above = at.above; below = at.below; has = acted.has }))
    (subst (Has (map (report_at pos) (found_at a s))) reported (Has-map (report_at pos) (found_at a s) y found))

-- what an act forbids by a fact, the fact forbids which is rooted in its object
root_forbids : (count : ℕ) (r w : List ℕ) (f : Fact) (g : ℕ) (y : Forbidden) → (place f).root ≡ g → IsLookedAt count r w g f
    → use_forbidden g f ≡ y → use_forbids count r w f ≡ Some y
root_forbids count r w f g y root at is =
    let breaks : breaks_call count r w f ≡ true = subst (λ k. breaks_at count r w k f ≡ true) (sym root) (breaks_to count r w g f at) in
    same_only (breaks_call count r w f) (use_forbidden (place f).root f) breaks
    ∙ ap (λ (z : Forbidden). Some z) (ap (λ k. use_forbidden k f) root ∙ is)

act_facts : (objects : List Object) (r w : List ℕ) (pos : Pos) (s : FactState) (x : Report)
    → Has (told_along (map (placed pos) (globals_from 1 (drop 1 objects) r w)) s) x → Has (uses_told (length objects) r w pos (may_hold s)) x
act_facts objects r w pos s x h =
    let count = length objects in
    let told = told_of pos (globals_from 1 (drop 1 objects) r w) s x (call_on objects r w) h in
    let one = of_call objects r w told.act told.has in
    let g = one.0 in
    let on = act_is g (is_in g r) (is_in g w) told.act one.1.has in
    let y = Has-map_from (report_at pos) (found_at told.act s) x told.told in
    let f = found_from told.act s y.0 y.1 in
    let root = forbids_root g on.written f.fact y.0 (subst (λ b. forbids b f.fact ≡ Some y.0) on.is f.is) in
    let broken = broken_by g f.fact (is_in g r) (is_in g w) told.act y.0 one.1.has f.is in
    let is = root_forbids count r w f.fact g y.0 root (record { above = one.1.above; below = one.1.below; breaks = broken.breaks }) broken.is in
    let found = among_to (use_forbids count r w) (may_hold s) y.0 (record { fact = f.fact; has = f.has; is = is }) in
    subst (Has (uses_told count r w pos (may_hold s))) y.2 (Has-map (report_at pos) (found_among (use_forbids count r w) (may_hold s)) y.0 found)

same_call : (objects : List Object) (reads writes : List ℕ) (pos : Pos) (s : FactState)
    → AreSame (uses_told (length objects) reads writes pos (may_hold s)) (told_along (map (placed pos) (globals_from 1 (drop 1 objects) reads writes)) s)
same_call objects reads writes pos s r =
    let forbids = use_forbids (length objects) reads writes in (
      λ h.
          let y = Has-map_from (report_at pos) (found_among forbids (may_hold s)) r h in
          let f = among_from forbids (may_hold s) y.0 y.1 in
          fact_acts objects reads writes pos s f.fact y.0 r f.has f.is y.2,
      λ h. act_facts objects reads writes pos s r h,
    )

-- ---- the reports of all points

same_by : (objects : List Object) (effects : Effects) (pos : Pos) (i : Instr) (s : FactState)
    → AreSame (called_told objects effects pos i (may_hold s)) (told_along (called_by objects effects pos i) s)
same_by objects effects pos (instr.Call sub actuals result) s = same_call objects (read_by effects sub) (written_by effects sub) pos s
same_by objects effects pos _ s = λ r. (λ h. h, λ h. h)

same_point : (objects : List Object) (effects : Effects) (p : Point) (s : FactState)
    → AreSame (point_told objects effects p s) (told_along (called_point objects effects p).acts s)
same_point objects effects p s =
    let u : FactState = state_along (acts_of p.acts) s in
    let called = called_by objects effects p.pos p.instr in
    subst (AreSame (point_told objects effects p s)) (sym (told_along-append p.acts called s))
    (same_append (told_along p.acts s) (told_along p.acts s) (called_told objects effects p.pos p.instr (may_hold u)) (told_along called u)
    (λ r. (λ h. h, λ h. h)) (same_by objects effects p.pos p.instr u))

same_where : (objects : List Object) (effects : Effects) (p : Point) (t : Option FactState)
    → AreSame (where_told objects effects p t) (told_where (called_point objects effects p).acts t)
same_where objects effects p None = λ r. (λ h. h, λ h. h)
same_where objects effects p (Some s) = same_point objects effects p s

pub same_all : (objects : List Object) (effects : Effects) (points : List Point) (trees : List (Option FactState))
    → AreSame (all_told objects effects points trees) (told_all (called_points objects effects points) trees)
same_all objects effects [] trees = λ r. (λ h. h, λ h. h)
same_all objects effects (p ∷ points) [] = λ r. (λ h. h, λ h. h)
same_all objects effects (p ∷ points) (t ∷ trees) =
    same_append (where_told objects effects p t) (told_where (called_point objects effects p).acts t)
    (all_told objects effects points trees) (told_all (called_points objects effects points) trees)
    (same_where objects effects p t) (same_all objects effects points trees)
