-- The lists of reports have exactly what V1 to V4 say.
use Rattle.std.proofs.Common.{◌≡◌, refl, sym, ap, ◌∙◌, subst, inl, inr, true≢false, ℕ, Bool, true, false, not, ◌&&◌, ◌==◌, List, [], ◌∷◌, Option, Some, None, if◌then◌else◌}
use Rattle.std.specs.List.{flat_map}
use Rattle.spark_base.specs.Lists.{Has}
use Rattle.spark_base.proofs.Lists.{Has-append_left, Has-append_right, Has-append_cases, Has-map, Has-map_from}
use Rattle.spark_base.specs.declared.position.Pos.{Pos}
use Rattle.place_names.specs.declared.selector.Sel.TheVariants as sel
use Rattle.place_names.specs.Names.{Name, object, extend}
use Rattle.place_names.specs.declared.act.Mode.TheVariants as mode
use Rattle.place_names.specs.declared.act.Act.{Act}
use Rattle.place_names.specs.declared.act.Act.TheVariants as act
use Rattle.place_names.specs.declared.act.Placed.{Placed}
use Rattle.place_names.specs.declared.rule.Rule.TheVariants as rule
use Rattle.place_names.specs.Reports.{Report}
use Rattle.place_names.proofs.Names.{both_parts, both_true}
use Rattle.flow_paths.specs.declared.report.Effects.{Effects}
use Rattle.flow_paths.specs.Instructions.{Instruction, Skip, Declare, Assign, Call, Output, Input, Release, Test, Choose, Start, Next, Evaluate, LeaveLoop, Hold, EndScope, Finish, Fall}
use Rattle.flow_paths.specs.Objects.{is_observer}
use Rattle.flow_paths.specs.Points.{FlowPoint}
use Rattle.flow_paths.specs.Laid.{FlowSub, FlowProgram, flow_typing}
use Rattle.flow_paths.specs.Limits.{source_pos}
use Rattle.flow_paths.specs.Effects.{writes_text}
use Rattle.flow_paths.specs.Views.{has_selector, changes, lends, MayBorrow, directly, through, encloses, scope_of, is_assignment, Calls, text_report, ActAt, ViewReport, changed, lent, given, called, text_io, shorter, elsewhere, other_root}
use Rattle.traversal_funcs.specs.declared.views.Views.{Views}
use Rattle.traversal_funcs.specs.Instructions.{procedure_of}
use Rattle.traversal_funcs.specs.Sights.{site, is_constant, may_borrow, is_given}
use Rattle.traversal_funcs.specs.Lists.{told, changed_reports, act_reports, acts_reports, called_by, written_reports, call_reports, point_reports, points_reports}
use Rattle.traversal_funcs.proofs.Constant.{Right, constant_sound, constant_complete, designated_selected, given_sound, given_complete, may_sound, may_complete}

-- ---- lists

flat_from : {X Y : Type 0} (f : X → List Y) (xs : List X) (y : Y) → Has (flat_map f xs) y → (x : X) × Has xs x × Has (f x) y
flat_from f [] y h = absurd h
flat_from f (x ∷ xs) y h = elim (Has-append_cases (f x) (flat_map f xs) y h) [
  | inl h ↦ (x, inl refl, h)
  | inr h ↦ (let rest = flat_from f xs y h in (rest.0, inr rest.1, rest.2))
]

flat_to : {X Y : Type 0} (f : X → List Y) (xs : List X) (x : X) (y : Y) → Has xs x → Has (f x) y → Has (flat_map f xs) y
flat_to f [] x y h has = absurd h
flat_to f (z ∷ xs) x y h has = elim h [
  | inl is ↦ Has-append_left (f z) (flat_map f xs) y (subst (λ t. Has (f t) y) (sym is) has)
  | inr h ↦ Has-append_right (f z) (flat_map f xs) y (flat_to f xs x y h has)
]

told_from : (b : Bool) (r x : Report) → Has (told b r) x → (b ≡ true) × (r ≡ x)
told_from true r x h = elim h [ inl e ↦ (refl, e) | inr none ↦ absurd none ]
told_from false r x h = absurd h

told_to : (b : Bool) (r : Report) → b ≡ true → Has (told b r) r
told_to true r e = inl refl
told_to false r e = absurd (true≢false (sym e))

-- ---- instructions

same_some : {A : Type 0} (a b : A) → Some a ≡ Some b → a ≡ b
same_some a b e = cc

no_some : {A : Type 0} (a : A) → Some a ≡ None → ⊥
no_some a e = cc

calls_found : (i : Instruction) (callee : ℕ) → procedure_of i ≡ Some callee → Calls i callee
calls_found (Call sub actuals None) callee e = same_some sub callee e
calls_found (Call sub actuals (Some t)) callee e = absurd (no_some callee (sym e))
calls_found Skip callee e = absurd (no_some callee (sym e))
calls_found (Declare x v) callee e = absurd (no_some callee (sym e))
calls_found (Assign target source) callee e = absurd (no_some callee (sym e))
calls_found (Output text line) callee e = absurd (no_some callee (sym e))
calls_found (Input target) callee e = absurd (no_some callee (sym e))
calls_found (Release m) callee e = absurd (no_some callee (sym e))
calls_found (Test t) callee e = absurd (no_some callee (sym e))
calls_found (Choose t choices) callee e = absurd (no_some callee (sym e))
calls_found (Start x r low high) callee e = absurd (no_some callee (sym e))
calls_found (Next x r low high) callee e = absurd (no_some callee (sym e))
calls_found (Evaluate t v left) callee e = absurd (no_some callee (sym e))
calls_found (LeaveLoop t) callee e = absurd (no_some callee (sym e))
calls_found (Hold v) callee e = absurd (no_some callee (sym e))
calls_found (EndScope x) callee e = absurd (no_some callee (sym e))
calls_found Finish callee e = absurd (no_some callee (sym e))
calls_found Fall callee e = absurd (no_some callee (sym e))

found_calls : (i : Instruction) (callee : ℕ) → Calls i callee → procedure_of i ≡ Some callee
found_calls (Call sub actuals None) callee e = ap Some e
found_calls (Call sub actuals (Some t)) callee e = absurd e
found_calls Skip callee e = absurd e
found_calls (Declare x v) callee e = absurd e
found_calls (Assign target source) callee e = absurd e
found_calls (Output text line) callee e = absurd e
found_calls (Input target) callee e = absurd e
found_calls (Release m) callee e = absurd e
found_calls (Test t) callee e = absurd e
found_calls (Choose t choices) callee e = absurd e
found_calls (Start x r low high) callee e = absurd e
found_calls (Next x r low high) callee e = absurd e
found_calls (Evaluate t v left) callee e = absurd e
found_calls (LeaveLoop t) callee e = absurd e
found_calls (Hold v) callee e = absurd e
found_calls (EndScope x) callee e = absurd e
found_calls Finish callee e = absurd e
found_calls Fall callee e = absurd e

-- ---- what is known

pub record Sees (program : FlowProgram) (sub : FlowSub) (v : Views) : Type 0 where
  pub right : Right v (flow_typing program) sub
  pub around : v.scopes.now ≡ program.scopes

observer_is : (program : FlowProgram) (sub : FlowSub) (v : Views) → Sees program sub v → (x : ℕ)
    → is_observer (site v) x ≡ is_observer (flow_typing program) x
observer_is program sub v w x = ap (λ t. is_observer t x) w.right.typed

enclosed_is : (program : FlowProgram) (sub : FlowSub) (v : Views) → Sees program sub v → (a b : ℕ)
    → not (encloses v.scopes.now (scope_of (site v) a) (scope_of (site v) b))
    ≡ not (encloses program.scopes (scope_of (flow_typing program) a) (scope_of (flow_typing program) b))
enclosed_is program sub v w a b =
    ap (λ t. not (encloses v.scopes.now (scope_of t a) (scope_of t b))) w.right.typed
    ∙ ap (λ l. not (encloses l (scope_of (flow_typing program) a) (scope_of (flow_typing program) b))) w.around

-- an act that may borrow is a Borrow
abbrev IsBorrow : Act → Type 0
IsBorrow (act.Borrow h m) = Unit {0}
IsBorrow _ = ⊥

borrow_alone : (program : FlowProgram) (sub : FlowSub) (x : Act) → MayBorrow (flow_typing program) sub x → IsBorrow x
borrow_alone program sub x' (directly h f m gives formal is) = tt
borrow_alone program sub x' (through h f m gives formal borrower only) = tt

-- ---- each report of the list is one

changed_in : (program : FlowProgram) (effects : Effects) (sub : FlowSub) (v : Views) → Sees program sub v → (p : FlowPoint) (a : Placed) (m : Name)
    → ActAt sub p a → changes a.act ≡ Some m → (r : Report) → Has (changed_reports v a.pos m) r → ViewReport program effects sub r
changed_in program effects sub v w p a m at is r h =
    let t = told_from (is_constant v m.root (has_selector m)) (text_report a.pos rule.V1 m) r h in
    subst (ViewReport program effects sub) t.1
    (changed p a m at is (constant_sound v (flow_typing program) sub w.right m (has_selector m) refl t.0))

lent_in : (program : FlowProgram) (effects : Effects) (sub : FlowSub) (v : Views) → Sees program sub v → (p : FlowPoint) (a : Placed) (m : Name)
    → ActAt sub p a → lends a.act ≡ Some m → is_constant v m.root true ≡ true → (MayBorrow (flow_typing program) sub a.act → ⊥)
    → ViewReport program effects sub (text_report a.pos rule.V1 m)
lent_in program effects sub v w p a m at is e never =
    lent p a m at is (constant_sound v (flow_typing program) sub w.right (extend m (sel.Deref ∷ [])) true (designated_selected m) e) never

given_in : (program : FlowProgram) (effects : Effects) (sub : FlowSub) (v : Views) → Sees program sub v → (p : FlowPoint) (at : Pos) (m : Name) (borrows : Bool)
    → ActAt sub p (record { pos = at; act = act.Give m borrows }) → (r : Report)
    → Has (told (not (is_given v m.root)) (text_report at rule.V3 m)) r → ViewReport program effects sub r
given_in program effects sub v w p at m borrows has r h =
    let t = told_from (not (is_given v m.root)) (text_report at rule.V3 m) r h in
    subst (ViewReport program effects sub) t.1
    (elsewhere p at m borrows has (λ f formal only.
    true≢false (sym t.0 ∙ ap not (given_complete v (flow_typing program) sub w.right m.root f formal only))))

act_in : (program : FlowProgram) (effects : Effects) (sub : FlowSub) (v : Views) → Sees program sub v → (p : FlowPoint) (at : Pos) (x : Act)
    → ActAt sub p (record { pos = at; act = x }) → (r : Report) → Has (act_reports v p.instr at x) r → ViewReport program effects sub r
act_in program effects sub v w p at (act.Write m) has r h =
    changed_in program effects sub v w p (record { pos = at; act = act.Write m }) m has refl r h
act_in program effects sub v w p at (act.Move m parts) has r h =
    changed_in program effects sub v w p (record { pos = at; act = act.Move m parts }) m has refl r h
act_in program effects sub v w p at (act.Free m) has r h =
    changed_in program effects sub v w p (record { pos = at; act = act.Free m }) m has refl r h
act_in program effects sub v w p at (act.Actual m mode.Out owning access) has r h =
    changed_in program effects sub v w p (record { pos = at; act = act.Actual m mode.Out owning access }) m has refl r h
act_in program effects sub v w p at (act.Actual m mode.InOut owning access) has r h =
    changed_in program effects sub v w p (record { pos = at; act = act.Actual m mode.InOut owning access }) m has refl r h
act_in program effects sub v w p at (act.Actual m mode.In owning true) has r h =
    let t = told_from (is_constant v m.root true) (text_report at rule.V1 m) r h in
    let a : Placed = record { pos = at; act = act.Actual m mode.In owning true } in
    subst (ViewReport program effects sub) t.1
    (lent_in program effects sub v w p a m has refl t.0 (λ may. borrow_alone program sub (act.Actual m mode.In owning true) may))
act_in program effects sub v w p at (act.Actual m mode.In owning false) has r h = absurd h
act_in program effects sub v w p at (act.Borrow b m) has r h =
    let t = told_from (is_constant v m.root true && not (may_borrow v m.root)) (text_report at rule.V1 m) r h in
    let both = both_parts (is_constant v m.root true) (not (may_borrow v m.root)) t.0 in
    let a : Placed = record { pos = at; act = act.Borrow b m } in
    subst (ViewReport program effects sub) t.1
    (lent_in program effects sub v w p a m has refl both.0
    (λ may. true≢false (sym both.1 ∙ ap not (may_complete v (flow_typing program) sub w.right b m may))))
act_in program effects sub v w p at (act.Observe o m from) has r h =
    let longer : Bool = not (encloses v.scopes.now (scope_of (site v) m.root) (scope_of (site v) o)) in
    let t = told_from (is_assignment p.instr && longer) (text_report at rule.V2 m) r h in
    let both = both_parts (is_assignment p.instr) longer t.0 in
    subst (ViewReport program effects sub) t.1
    (shorter p at o m from has both.0 (sym (enclosed_is program sub v w m.root o) ∙ both.1))
act_in program effects sub v w p at (act.Give m true) has r h =
    elim (Has-append_cases (told (is_observer (site v) m.root) (text_report at rule.V1 m)) (told (not (is_given v m.root)) (text_report at rule.V3 m)) r h) [
      | inl h ↦
          let t = told_from (is_observer (site v) m.root) (text_report at rule.V1 m) r h in
          subst (ViewReport program effects sub) t.1 (given p at m has (sym (observer_is program sub v w m.root) ∙ t.0))
      | inr h ↦ given_in program effects sub v w p at m true has r h
    ]
act_in program effects sub v w p at (act.Give m false) has r h = given_in program effects sub v w p at m false has r h
act_in program effects sub v w p at (act.Reborrow b m) has r h =
    let t = told_from (not (m.root == b)) (text_report (source_pos p.instr at) rule.V4 m) r h in
    subst (ViewReport program effects sub) t.1 (other_root p at b m has t.0)
act_in program effects sub v w p at (act.Read m) has r h = absurd h
act_in program effects sub v w p at (act.Look m) has r h = absurd h
act_in program effects sub v w p at (act.EndScope x b) has r h = absurd h
act_in program effects sub v w p at (act.Return roots) has r h = absurd h
act_in program effects sub v w p at (act.Global g written) has r h = absurd h

call_in : (program : FlowProgram) (effects : Effects) (sub : FlowSub) (v : Views) → Sees program sub v → (p : FlowPoint) → Has sub.points p
    → (r : Report) → Has (call_reports v effects p) r → ViewReport program effects sub r
call_in program effects sub v w p has r h = by v.function refl h
  where
    reported : v.function ≡ true → (g : ℕ) (o : Option ℕ) → procedure_of p.instr ≡ o → Has (called_by effects o) g
        → ViewReport program effects sub (text_report p.pos rule.V1 (object g))
    reported fn g None is h = absurd h
    reported fn g (Some callee) is h = called p g callee (sym w.right.function ∙ fn) has (calls_found p.instr callee is) h

    by : (b : Bool) → v.function ≡ b → Has (if b then written_reports p.pos (called_by effects (procedure_of p.instr)) else []) r
        → ViewReport program effects sub r
    by true fn h =
        let from = Has-map_from (λ g. text_report p.pos rule.V1 (object g)) (called_by effects (procedure_of p.instr)) r h in
        subst (ViewReport program effects sub) from.2 (reported fn from.0 (procedure_of p.instr) refl from.1)
    by false fn h = absurd h

point_in : (program : FlowProgram) (effects : Effects) (sub : FlowSub) (v : Views) → Sees program sub v → (p : FlowPoint) → Has sub.points p
    → (r : Report) → Has (point_reports v effects p) r → ViewReport program effects sub r
point_in program effects sub v w p has r h = elim (Has-append_cases (acts_reports v p) _ r h) [
  | inl h ↦
      let from = flat_from (λ (a : Placed). act_reports v p.instr a.pos a.act) p.acts r h in
      let a : Placed = from.0 in
      act_in program effects sub v w p a.pos a.act (has, from.1) r from.2
  | inr h ↦ elim (Has-append_cases (call_reports v effects p) _ r h) [
    | inl h ↦ call_in program effects sub v w p has r h
    | inr h ↦
        let t = told_from (v.function && writes_text p.instr) (text_report p.pos rule.V1 (object 0)) r h in
        let both = both_parts v.function (writes_text p.instr) t.0 in
        subst (ViewReport program effects sub) t.1 (text_io p (sym w.right.function ∙ both.0) has both.1)
  ]
]

pub reports_sound : (program : FlowProgram) (effects : Effects) (sub : FlowSub) (v : Views) → Sees program sub v → (r : Report)
    → Has (points_reports v effects sub.points) r → ViewReport program effects sub r
reports_sound program effects sub v w r h =
    let from = flat_from (point_reports v effects) sub.points r h in
    point_in program effects sub v w from.0 from.1 r from.2

-- ---- each report is in the list

change_told : (v : Views) (at : Pos) (k m : Name) → Some k ≡ Some m → is_constant v m.root (has_selector m) ≡ true
    → Has (changed_reports v at k) (text_report at rule.V1 m)
change_told v at k m same e =
    subst (λ y. Has (changed_reports v at y) (text_report at rule.V1 m)) (sym (same_some k m same))
    (told_to (is_constant v m.root (has_selector m)) (text_report at rule.V1 m) e)

changed_out : (v : Views) (i : Instruction) (at : Pos) (x : Act) (m : Name) → changes x ≡ Some m → is_constant v m.root (has_selector m) ≡ true
    → Has (act_reports v i at x) (text_report at rule.V1 m)
changed_out v i at (act.Write k) m is e = change_told v at k m is e
changed_out v i at (act.Move k parts) m is e = change_told v at k m is e
changed_out v i at (act.Free k) m is e = change_told v at k m is e
changed_out v i at (act.Actual k mode.Out owning access) m is e = change_told v at k m is e
changed_out v i at (act.Actual k mode.InOut owning access) m is e = change_told v at k m is e
changed_out v i at (act.Actual k mode.In owning access) m is e = absurd (no_some m (sym is))
changed_out v i at (act.Read k) m is e = absurd (no_some m (sym is))
changed_out v i at (act.Look k) m is e = absurd (no_some m (sym is))
changed_out v i at (act.Borrow b k) m is e = absurd (no_some m (sym is))
changed_out v i at (act.Observe o k from) m is e = absurd (no_some m (sym is))
changed_out v i at (act.Reborrow b k) m is e = absurd (no_some m (sym is))
changed_out v i at (act.EndScope x b) m is e = absurd (no_some m (sym is))
changed_out v i at (act.Return roots) m is e = absurd (no_some m (sym is))
changed_out v i at (act.Global g written) m is e = absurd (no_some m (sym is))
changed_out v i at (act.Give k b) m is e = absurd (no_some m (sym is))

lent_out : (program : FlowProgram) (sub : FlowSub) (v : Views) → Sees program sub v → (i : Instruction) (at : Pos) (x : Act) (m : Name)
    → lends x ≡ Some m → is_constant v m.root true ≡ true → (MayBorrow (flow_typing program) sub x → ⊥)
    → Has (act_reports v i at x) (text_report at rule.V1 m)
lent_out program sub v w i at (act.Borrow b k) m is e never =
    subst (λ y. Has (told (is_constant v y.root true && not (may_borrow v y.root)) (text_report at rule.V1 y)) (text_report at rule.V1 m)) (sym same)
    (told_to (is_constant v m.root true && not (may_borrow v m.root)) (text_report at rule.V1 m)
    (both_true (is_constant v m.root true) (not (may_borrow v m.root)) e (by (may_borrow v m.root) refl)))
  where
    same : k ≡ m
    same = same_some k m is

    by : (t : Bool) → may_borrow v m.root ≡ t → not (may_borrow v m.root) ≡ true
    by false f = ap not f
    by true f = absurd (never (subst (λ y. MayBorrow (flow_typing program) sub (act.Borrow b y)) (sym same)
        (may_sound v (flow_typing program) sub w.right b m f)))
lent_out program sub v w i at (act.Actual k mode.In owning true) m is e never =
    subst (λ y. Has (told (is_constant v y.root true) (text_report at rule.V1 y)) (text_report at rule.V1 m)) (sym (same_some k m is))
    (told_to (is_constant v m.root true) (text_report at rule.V1 m) e)
lent_out program sub v w i at (act.Actual k mode.In owning false) m is e never = absurd (no_some m (sym is))
lent_out program sub v w i at (act.Actual k mode.Out owning access) m is e never = absurd (no_some m (sym is))
lent_out program sub v w i at (act.Actual k mode.InOut owning access) m is e never = absurd (no_some m (sym is))
lent_out program sub v w i at (act.Write k) m is e never = absurd (no_some m (sym is))
lent_out program sub v w i at (act.Move k parts) m is e never = absurd (no_some m (sym is))
lent_out program sub v w i at (act.Free k) m is e never = absurd (no_some m (sym is))
lent_out program sub v w i at (act.Read k) m is e never = absurd (no_some m (sym is))
lent_out program sub v w i at (act.Look k) m is e never = absurd (no_some m (sym is))
lent_out program sub v w i at (act.Observe o k from) m is e never = absurd (no_some m (sym is))
lent_out program sub v w i at (act.Reborrow b k) m is e never = absurd (no_some m (sym is))
lent_out program sub v w i at (act.EndScope x b) m is e never = absurd (no_some m (sym is))
lent_out program sub v w i at (act.Return roots) m is e never = absurd (no_some m (sym is))
lent_out program sub v w i at (act.Global g written) m is e never = absurd (no_some m (sym is))
lent_out program sub v w i at (act.Give k b) m is e never = absurd (no_some m (sym is))

point_out : (effects : Effects) (sub : FlowSub) (v : Views) (p : FlowPoint) (r : Report) → Has sub.points p → Has (point_reports v effects p) r
    → Has (points_reports v effects sub.points) r
point_out effects sub v p r has h = flat_to (point_reports v effects) sub.points p r has h

act_out : (effects : Effects) (sub : FlowSub) (v : Views) (p : FlowPoint) (a : Placed) (r : Report) → ActAt sub p a
    → Has (act_reports v p.instr a.pos a.act) r → Has (points_reports v effects sub.points) r
act_out effects sub v p a r at h =
    point_out effects sub v p r at.0 (Has-append_left (acts_reports v p) _ r
    (flat_to (λ (b : Placed). act_reports v p.instr b.pos b.act) p.acts a r at.1 h))

pub reports_complete : (program : FlowProgram) (effects : Effects) (sub : FlowSub) (v : Views) → Sees program sub v → (r : Report)
    → ViewReport program effects sub r → Has (points_reports v effects sub.points) r
reports_complete program effects sub v w r' (changed p a m at is c) =
    act_out effects sub v p a (text_report a.pos rule.V1 m) at
    (changed_out v p.instr a.pos a.act m is (constant_complete v (flow_typing program) sub w.right m (has_selector m) refl c))
reports_complete program effects sub v w r' (lent p a m at is c never) =
    act_out effects sub v p a (text_report a.pos rule.V1 m) at
    (lent_out program sub v w p.instr a.pos a.act m is
    (constant_complete v (flow_typing program) sub w.right (extend m (sel.Deref ∷ [])) true (designated_selected m) c) never)
reports_complete program effects sub v w r' (given p at m has e) =
    act_out effects sub v p (record { pos = at; act = act.Give m true }) (text_report at rule.V1 m) has
    (Has-append_left (told (is_observer (site v) m.root) (text_report at rule.V1 m)) _ (text_report at rule.V1 m)
    (told_to (is_observer (site v) m.root) (text_report at rule.V1 m) (observer_is program sub v w m.root ∙ e)))
reports_complete program effects sub v w r' (called p g callee fn has calls h) =
    point_out effects sub v p (text_report p.pos rule.V1 (object g)) has
    (Has-append_right (acts_reports v p) _ (text_report p.pos rule.V1 (object g))
    (Has-append_left (call_reports v effects p) _ (text_report p.pos rule.V1 (object g))
    (subst (λ b. Has (if b then written_reports p.pos (called_by effects (procedure_of p.instr)) else []) (text_report p.pos rule.V1 (object g)))
    (sym (w.right.function ∙ fn))
    (Has-map (λ x. text_report p.pos rule.V1 (object x)) (called_by effects (procedure_of p.instr)) g
    (subst (λ o. Has (called_by effects o) g) (sym (found_calls p.instr callee calls)) h)))))
reports_complete program effects sub v w r' (text_io p fn has e) =
    point_out effects sub v p (text_report p.pos rule.V1 (object 0)) has
    (Has-append_right (acts_reports v p) _ (text_report p.pos rule.V1 (object 0))
    (Has-append_right (call_reports v effects p) _ (text_report p.pos rule.V1 (object 0))
    (told_to (v.function && writes_text p.instr) (text_report p.pos rule.V1 (object 0))
    (both_true v.function (writes_text p.instr) (w.right.function ∙ fn) e))))
reports_complete program effects sub v w r' (shorter p at o m from has is e) =
    let longer : Bool = not (encloses v.scopes.now (scope_of (site v) m.root) (scope_of (site v) o)) in
    act_out effects sub v p (record { pos = at; act = act.Observe o m from }) (text_report at rule.V2 m) has
    (told_to (is_assignment p.instr && longer) (text_report at rule.V2 m)
    (both_true (is_assignment p.instr) longer is (enclosed_is program sub v w m.root o ∙ e)))
reports_complete program effects sub v w r' (elsewhere p at m borrows has never) =
    act_out effects sub v p (record { pos = at; act = act.Give m borrows }) (text_report at rule.V3 m) has
    (Has-append_right (told (borrows && is_observer (site v) m.root) (text_report at rule.V1 m)) _ (text_report at rule.V3 m)
    (told_to (not (is_given v m.root)) (text_report at rule.V3 m) (by (is_given v m.root) refl)))
  where
    by : (t : Bool) → is_given v m.root ≡ t → not (is_given v m.root) ≡ true
    by false f = ap not f
    by true f = (let o = given_sound v (flow_typing program) sub w.right m.root f in absurd (never o.0 o.1 o.2))
reports_complete program effects sub v w r' (other_root p at b m has e) =
    act_out effects sub v p (record { pos = at; act = act.Reborrow b m }) (text_report (source_pos p.instr at) rule.V4 m) has
    (told_to (not (m.root == b)) (text_report (source_pos p.instr at) rule.V4 m) e)
