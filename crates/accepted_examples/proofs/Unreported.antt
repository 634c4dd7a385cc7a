-- A program whose subprograms touch no package object, and whose functions change and lend nothing, has no reports, if none is
-- found along its paths: those of loops would have no end.
use Rattle.std.specs.Prelude.{IsTrue, is_none, is_some, flat_map}
use Rattle.std.specs.List.{list_any}
use Rattle.std.proofs.Common.{◌≡◌, ℕ, zero, suc, inl, inr, Bool, true, false, not, ◌&&◌, ◌||◌, ◌==◌, eqb-true, List, [], ◌∷◌, ◌++◌, append_assoc, map, refl, sym, ap, ◌∙◌, subst, Option, Some, None, true≢false}
use Rattle.std.proofs.lemmas.Bool.{false≢true}
use Rattle.machine.specs.spark_base.Lists.{Has}
use Rattle.soundness.proofs.Lists.{Has-append_cases, Has-map_from}
use Rattle.machine.specs.typed_tree.declared.object.ObjectKind.{ObjectKind}
use Rattle.machine.specs.typed_tree.declared.object.ObjectKind.TheVariants as object_kind
use Rattle.machine.specs.place_names.Names.{Name, extend}
use Rattle.machine.specs.place_names.declared.selector.Sel.TheVariants as sel
use Rattle.machine.specs.place_names.declared.act.Act.{Act}
use Rattle.machine.specs.place_names.declared.act.Act.TheVariants as act
use Rattle.machine.specs.place_names.declared.act.Placed.{Placed}
use Rattle.machine.specs.place_names.declared.fact.Fact.{Fact}
use Rattle.machine.specs.place_names.Facts.{facts_after}
use Rattle.machine.specs.place_names.Rules.{Forbidden, forbids}
use Rattle.machine.specs.place_names.Reports.{Report}
use Rattle.machine.specs.flow_paths.declared.report.Effects.{Effects}
use Rattle.machine.specs.flow_paths.Instructions.{Instruction, Call}
use Rattle.machine.specs.flow_paths.Objects.{Typing, object_at, view_of, is_observer, is_borrowing, is_observing, is_variable, is_formal, is_formal_kind, is_named_access}
use Rattle.machine.specs.flow_paths.Points.{FlowPoint}
use Rattle.machine.specs.flow_paths.Laid.{FlowSub, FlowProgram, flow_typing}
use Rattle.machine.specs.flow_paths.Paths.{PathPoint, PathReport, ControlPath, begins, goes_on, path_point, acts_at, acts_along}
use Rattle.machine.specs.flow_paths.Views.{is_in_mode, Calls, ViewReport, changed, lent, given, called, text_io, shorter, elsewhere, other_root, ConstantView, of_observer, of_formal, in_function, of_borrower, is_function, has_selector, is_assignment, encloses, scope_of, changes, lends, traversed_formal, sub_acts, IsOnlyRoot, Roots, itself as root_itself, borrows as root_borrows, observes as root_observes}
use Rattle.machine.specs.flow_paths.Aliases.{alias_reports}
use Rattle.machine.specs.flow_paths.Effects.{AreEffects, Reads, Writes, Ascends, path_points, point_reads, point_writes, is_global, reads_text, writes_text, flow_sub_at, act_reads, act_writes, written_by}
use Rattle.machine.specs.flow_paths.Reports.{AreReports, ProgramReport, on_actuals, on_views, on_paths}
use Rattle.accepted_examples.proofs.Quiet.{all_pass, empty, left_of, right_of, isnt, each, any_none, at_any, empty_at, many}

-- ---- what is found along paths

abbrev passes_facts : List Fact → Act → Bool
passes_facts facts a = all_pass (λ f. is_none (forbids a f)) facts

abbrev acts_pass : List Act → List Placed → Bool
acts_pass acts [] = true
acts_pass acts (a ∷ rest) = passes_facts (facts_after acts) a.act && acts_pass (acts ++ a.act ∷ []) rest

-- From this point on, after these acts, no act is forbidden along so many points.
abbrev pub path_passes : ℕ → List PathPoint → List Act → ℕ → Bool
path_passes zero points acts p = false
path_passes (suc n) points acts p =
    acts_pass acts (path_point points p).acts && all_pass (λ q. path_passes n points (acts ++ acts_at points p) q) (path_point points p).next

module _ (points : List PathPoint) where
  abbrev Reached : List Act → ℕ → Type 0
  Reached acts p = (m : ℕ) × (path_passes (suc m) points acts p ≡ true)

  goes : (m : ℕ) (acts : List Act) (a : ℕ) → path_passes (suc m) points acts a ≡ true → (b : ℕ) → Has (path_point points a).next b → Reached (acts ++ acts_at points a) b
  goes m acts a e b has =
      by m (each (λ q. path_passes m points (acts ++ acts_at points a) q) (path_point points a).next
      (right_of (acts_pass acts (path_point points a).acts) (all_pass (λ q. path_passes m points (acts ++ acts_at points a) q) (path_point points a).next) e) b has)
    where
      by : (k : ℕ) → path_passes k points (acts ++ acts_at points a) b ≡ true → Reached (acts ++ acts_at points a) b
      by zero f = absurd (true≢false (sym f))
      by (suc k) f = (k, f)

  on_path : (n : ℕ) → path_passes n points [] 0 ≡ true → (before : List ℕ) (last : ℕ) → ControlPath points before last → Reached (acts_along points before) last
  on_path zero e before last path = absurd (true≢false (sym e))
  on_path (suc n) e _ _ (begins some) = (n, e)
  on_path (suc n) e _ _ (goes_on before a b path has) = (let reached = on_path (suc n) e before a path in goes reached.0 (acts_along points before) a reached.1 b has)

  append_nothing : (acts : List Act) → acts ++ [] ≡ acts
  append_nothing [] = refl
  append_nothing (a ∷ acts) = ap (λ z. a ∷ z) (append_nothing acts)

  clear : (acts : List Act) (front : List Placed) (a : Placed) (rest : List Placed) → acts_pass acts (front ++ a ∷ rest) ≡ true
      → passes_facts (facts_after (acts ++ map (λ (p : Placed). p.act) front)) a.act ≡ true
  clear acts [] a rest e =
      subst (λ z. passes_facts (facts_after z) a.act ≡ true) (sym (append_nothing acts)) (left_of (passes_facts (facts_after acts) a.act) (acts_pass (acts ++ a.act ∷ []) rest) e)
  clear acts (b ∷ front) a rest e =
      subst (λ z. passes_facts (facts_after z) a.act ≡ true) (append_assoc acts (b.act ∷ []) (map (λ (p : Placed). p.act) front))
      (clear (acts ++ b.act ∷ []) front a rest (right_of (passes_facts (facts_after acts) b.act) (acts_pass (acts ++ b.act ∷ []) (front ++ a ∷ rest)) e))

  none_some : (o : Option Forbidden) (x : Forbidden) → is_none o ≡ true → o ≡ Some x → ⊥
  none_some None x e is = false≢true (ap is_some is)
  none_some (Some y) x e is = false≢true e

  unreported : (n : ℕ) → path_passes n points [] 0 ≡ true → (r : Report) → PathReport points r → ⊥
  unreported n e r path =
      let reached = on_path n e path.before path.last path.path in
      let here : acts_pass (acts_along points path.before) (path.front ++ path.placed ∷ path.rest) ≡ true
      = subst (λ z. acts_pass (acts_along points path.before) z ≡ true) path.split
      (left_of (acts_pass (acts_along points path.before) (path_point points path.last).acts)
      (all_pass (λ q. path_passes reached.0 points (acts_along points path.before ++ acts_at points path.last) q) (path_point points path.last).next) reached.1) in
      none_some (forbids path.placed.act path.fact) path.found
      (each (λ f. is_none (forbids path.placed.act f)) (facts_after (acts_along points path.before ++ map (λ (p : Placed). p.act) path.front))
      (clear (acts_along points path.before) path.front path.placed path.rest here) path.fact path.holds)
      path.forbidden

-- ---- what is found of views

abbrev is_constant : Typing → Option Name → Bool
is_constant s None = false
is_constant s (Some m) =
    (is_observer s m.root && has_selector m)
    || (is_formal s m.root && (is_in_mode (object_at s m.root).mode && (not (is_named_access (view_of s m.root)) || not (has_selector m))))

abbrev designated_name : Option Name → Option Name
designated_name None = None
designated_name (Some m) = Some (extend m (sel.Deref ∷ []))

abbrev keeps_views : Typing → List ℕ → Instruction → Act → Bool
keeps_views s scopes i (act.Give m borrows) = true
keeps_views s scopes i (act.Observe h m from_observer) = not (is_assignment i) || encloses scopes (scope_of s m.root) (scope_of s h)
keeps_views s scopes i (act.Reborrow b m) = m.root == b
keeps_views s scopes i a = true

-- What it names is no package object.
abbrev is_local : Typing → Act → Bool
is_local s (act.Read m) = not (is_global s m.root)
is_local s (act.Look m) = not (is_global s m.root)
is_local s (act.Observe h m from_observer) = not (is_global s m.root)
is_local s (act.Give m borrows) = not (is_global s m.root)
is_local s (act.Actual m how owning access) = not (is_global s m.root)
is_local s (act.Write m) = not (is_global s m.root)
is_local s (act.Move m parts) = not (is_global s m.root)
is_local s (act.Free m) = not (is_global s m.root)
is_local s (act.Borrow h m) = not (is_global s m.root)
is_local s a = true

abbrev act_passes : Typing → List ℕ → Instruction → Act → Bool
act_passes s scopes i a =
    (not (is_constant s (changes a)) && not (is_constant s (designated_name (lends a)))) && keeps_views s scopes i a

abbrev point_passes : Typing → List ℕ → FlowPoint → Bool
point_passes s scopes p = all_pass (λ (a : Placed). act_passes s scopes p.instr a.act) p.acts

abbrev point_is_local : Typing → FlowPoint → Bool
point_is_local s p = all_pass (λ (a : Placed). is_local s a.act) p.acts && (not (reads_text p.instr) && not (writes_text p.instr))

abbrev is_first_of : Option ℕ → ℕ → Bool
is_first_of None x = false
is_first_of (Some f) x = f == x

-- What is given is named by the first formal of a traversal function. No formal borrows or observes.
abbrev is_rooted : Typing → FlowSub → Act → Bool
is_rooted s sub (act.Give m borrows) = is_formal s m.root && is_first_of (traversed_formal s sub) m.root
is_rooted s sub (act.Observe h m from_observer) = not (is_formal s h)
is_rooted s sub (act.Borrow h m) = not (is_formal s h)
is_rooted s sub a = true

abbrev is_still : Act → Bool
is_still a = is_none (changes a) && is_none (lends a)

abbrev act_fits : Typing → FlowSub → Act → Bool
act_fits s sub a = (not (is_function sub) || is_still a) && is_rooted s sub a

abbrev acts_fit : Typing → FlowSub → FlowPoint → Bool
acts_fit s sub p = all_pass (λ (a : Placed). act_fits s sub a.act) p.acts

abbrev pub keeps_rules : FlowProgram → FlowSub → Bool
keeps_rules program sub = all_pass (acts_fit (flow_typing program) sub) sub.points && all_pass (point_passes (flow_typing program) program.scopes) sub.points

-- It touches no package object, either.
abbrev pub sub_passes : FlowProgram → FlowSub → Bool
sub_passes program sub = keeps_rules program sub && all_pass (point_is_local (flow_typing program)) sub.points

or_right : (a b : Bool) → b ≡ true → a || b ≡ true
or_right true b e = refl
or_right false b e = e

or_left : (a b : Bool) → a ≡ true → a || b ≡ true
or_left true b e = refl
or_left false b e = absurd (true≢false (sym e))

no : (b : Bool) → b ≡ true → not b ≡ true → ⊥
no true e f = true≢false (sym f)
no false e f = true≢false (sym e)

local_read : (s : Typing) (g : ℕ) (a : Act) → is_local s a ≡ true → is_global s g ≡ true → act_reads g a ≡ false
local_read s g a here shared = by a here
  where
    other : (m : Name) (b : Bool) → not (is_global s m.root) ≡ true → (m.root == g) ≡ b → (m.root == g) ≡ false
    other m true h e = absurd (no (is_global s m.root) (subst (λ z. is_global s z ≡ true) (sym (eqb-true m.root g e)) shared) h)
    other m false h e = e

    both : (a b : Bool) → a ≡ false → a && b ≡ false
    both true b e = absurd (true≢false e)
    both false b e = refl

    by : (a : Act) → is_local s a ≡ true → act_reads g a ≡ false
    by (act.Read m) h = other m (m.root == g) h refl
    by (act.Look m) h = other m (m.root == g) h refl
    by (act.Observe x m from_observer) h = other m (m.root == g) h refl
    by (act.Give m borrows) h = other m (m.root == g) h refl
    by (act.Actual m how owning access) h = both (m.root == g) _ (other m (m.root == g) h refl)
    by a h = refl

local_write : (s : Typing) (g : ℕ) (a : Act) → is_local s a ≡ true → is_global s g ≡ true → act_writes g a ≡ false
local_write s g a here shared = by a here
  where
    other : (m : Name) (b : Bool) → not (is_global s m.root) ≡ true → (m.root == g) ≡ b → (m.root == g) ≡ false
    other m true h e = absurd (no (is_global s m.root) (subst (λ z. is_global s z ≡ true) (sym (eqb-true m.root g e)) shared) h)
    other m false h e = e

    both : (a b : Bool) → a ≡ false → a && b ≡ false
    both true b e = absurd (true≢false e)
    both false b e = refl

    by : (a : Act) → is_local s a ≡ true → act_writes g a ≡ false
    by (act.Write m) h = other m (m.root == g) h refl
    by (act.Move m parts) h = other m (m.root == g) h refl
    by (act.Free m) h = other m (m.root == g) h refl
    by (act.Borrow x m) h = other m (m.root == g) h refl
    by (act.Actual m how owning access) h = both (m.root == g) _ (other m (m.root == g) h refl)
    by a h = refl

module _ (program : FlowProgram) (effects : Effects) (passes : all_pass (keeps_rules program) program.subs ≡ true)
    (silent : (sub : FlowSub) → Has program.subs sub → is_function sub ≡ true → (p : FlowPoint) → Has sub.points p → (callee g : ℕ) → Calls p.instr callee
    → Has (written_by effects callee) g → ⊥)
    (mute : (sub : FlowSub) → Has program.subs sub → is_function sub ≡ true → (p : FlowPoint) → Has sub.points p → writes_text p.instr ≡ true → ⊥) where
  abbrev s : Typing
  s = flow_typing program

  fits_there : (sub : FlowSub) → Has program.subs sub → (p : FlowPoint) (a : Placed) → Has sub.points p × Has p.acts a → act_fits s sub a.act ≡ true
  fits_there sub has p a at =
      each (λ (z : Placed). act_fits s sub z.act) p.acts
      (each (acts_fit s sub) sub.points (left_of (all_pass (acts_fit s sub) sub.points) (all_pass (point_passes s program.scopes) sub.points) (each (keeps_rules program) program.subs passes sub has))
      p at.0) a at.1

  -- a function changes and lends nothing
  still_there : (sub : FlowSub) → Has program.subs sub → (p : FlowPoint) (a : Placed) → Has sub.points p × Has p.acts a → is_function sub ≡ true → is_still a.act ≡ true
  still_there sub has p a at function = by (is_function sub) function (left_of (not (is_function sub) || is_still a.act) (is_rooted s sub a.act) (fits_there sub has p a at))
    where
      by : (b : Bool) → b ≡ true → not b || is_still a.act ≡ true → is_still a.act ≡ true
      by true e h = h
      by false e h = absurd (true≢false (sym e))

  rooted_there : (sub : FlowSub) → Has program.subs sub → (p : FlowPoint) (a : Placed) → Has sub.points p × Has p.acts a → is_rooted s sub a.act ≡ true
  rooted_there sub has p a at = right_of (not (is_function sub) || is_still a.act) (is_rooted s sub a.act) (fits_there sub has p a at)

  changes_none : (sub : FlowSub) → Has program.subs sub → (p : FlowPoint) (a : Placed) → Has sub.points p × Has p.acts a → (m : Name) → changes a.act ≡ Some m → is_function sub ≡ true → ⊥
  changes_none sub has p a at m e function =
      true≢false (sym (left_of (is_none (changes a.act)) (is_none (lends a.act)) (still_there sub has p a at function)) ∙ ap is_none e)

  lends_none : (sub : FlowSub) → Has program.subs sub → (p : FlowPoint) (a : Placed) → Has sub.points p × Has p.acts a → (m : Name) → lends a.act ≡ Some m → is_function sub ≡ true → ⊥
  lends_none sub has p a at m e function =
      true≢false (sym (right_of (is_none (changes a.act)) (is_none (lends a.act)) (still_there sub has p a at function)) ∙ ap is_none e)

  point_is : (sub : FlowSub) → Has program.subs sub → (p : FlowPoint) → Has sub.points p → point_passes s program.scopes p ≡ true
  point_is sub has =
      each (point_passes s program.scopes) sub.points
      (right_of (all_pass (acts_fit s sub) sub.points) (all_pass (point_passes s program.scopes) sub.points) (each (keeps_rules program) program.subs passes sub has))

  act_is : (sub : FlowSub) → Has program.subs sub → (p : FlowPoint) (a : Placed) → Has sub.points p × Has p.acts a → act_passes s program.scopes p.instr a.act ≡ true
  act_is sub has p a at = each (λ (b : Placed). act_passes s program.scopes p.instr b.act) p.acts (point_is sub has p at.0) a at.1

  constants : (i : Instruction) (a : Act) → act_passes s program.scopes i a ≡ true → not (is_constant s (changes a)) && not (is_constant s (designated_name (lends a))) ≡ true
  constants i a e = left_of (not (is_constant s (changes a)) && not (is_constant s (designated_name (lends a)))) (keeps_views s program.scopes i a) e

  keeps : (i : Instruction) (a : Act) → act_passes s program.scopes i a ≡ true → keeps_views s program.scopes i a ≡ true
  keeps i a e = right_of (not (is_constant s (changes a)) && not (is_constant s (designated_name (lends a)))) (keeps_views s program.scopes i a) e

  and_first : (a b : Bool) → IsTrue (a && b) → a ≡ true
  and_first true b e = refl
  and_first false b e = e

  and_second : (a b : Bool) → IsTrue (a && b) → b ≡ true
  and_second true b e = e
  and_second false b e = absurd (true≢false (sym e))

  view_constant : (sub : FlowSub) → (is_function sub ≡ true → ⊥) → (m : Name) → ConstantView s sub m → is_constant s (Some m) ≡ true
  view_constant sub none m (of_observer is) =
      or_left (is_observer s m.root && has_selector m)
      (is_formal s m.root && (is_in_mode (object_at s m.root).mode && (not (is_named_access (view_of s m.root)) || not (has_selector m)))) is
  view_constant sub none m (of_formal is) =
      or_right (is_observer s m.root && has_selector m)
      (is_formal s m.root && (is_in_mode (object_at s m.root).mode && (not (is_named_access (view_of s m.root)) || not (has_selector m))))
      (and_second (not (is_function sub)) _ is)
  view_constant sub none m (in_function is) = absurd (none (and_first (is_function sub) _ is))
  view_constant sub none m (of_borrower r is roots outer) = absurd (none (and_first (is_function sub) _ is))

  -- a formal has no other root than itself
  no_variable : (k : ObjectKind) → is_formal_kind k ≡ true → is_variable k ≡ false
  no_variable object_kind.Formal e = refl
  no_variable k e = absurd (false≢true e)

  flat_from : (ps : List FlowPoint) (a : Act) → Has (flat_map (λ (p : FlowPoint). map (λ (z : Placed). z.act) p.acts) ps) a
      → (p : FlowPoint) × Has ps p × ((z : Placed) × Has p.acts z × (z.act ≡ a))
  flat_from [] a has = absurd has
  flat_from (p ∷ ps) a has = elim (Has-append_cases (map (λ (z : Placed). z.act) p.acts) (flat_map (λ (q : FlowPoint). map (λ (z : Placed). z.act) q.acts) ps) a has) [
    | inl here ↦ (let found = Has-map_from (λ (z : Placed). z.act) p.acts a here in (p, inl refl, (found.0, found.1, found.2)))
    | inr more ↦ (let found = flat_from ps a more in (found.0, inr found.1, found.2))
  ]

  rooted_act : (sub : FlowSub) → Has program.subs sub → (a : Act) → Has (sub_acts sub) a → is_rooted s sub a ≡ true
  rooted_act sub has a there =
      let found = flat_from sub.points a there in
      subst (λ z. is_rooted s sub z ≡ true) found.2.2 (rooted_there sub has found.0 found.2.0 (found.1, found.2.1))

  only_itself : (sub : FlowSub) → Has program.subs sub → (x r : ℕ) → is_formal s x ≡ true → Roots s (sub_acts sub) x r → r ≡ x
  only_itself sub has _ _ formal (root_itself x is) = refl
  only_itself sub has _ _ formal (root_borrows h r m there more) = absurd (no (is_formal s h) formal (rooted_act sub has (act.Borrow h m) there))
  only_itself sub has _ _ formal (root_observes h r m from there more) = absurd (no (is_formal s h) formal (rooted_act sub has (act.Observe h m from) there))

  holds_none : (v b o : Bool) → v ≡ false → not ((v && b) || (v && o)) ≡ true
  holds_none true b o e = absurd (true≢false e)
  holds_none false b o e = refl

  formal_root : (sub : FlowSub) → Has program.subs sub → (x : ℕ) → is_formal s x ≡ true → IsOnlyRoot s (sub_acts sub) x x
  formal_root sub has x formal = (
    root_itself x (holds_none (is_variable (object_at s x).kind) (is_borrowing (view_of s x)) (is_observing (view_of s x)) (no_variable (object_at s x).kind formal)),
    λ r roots. only_itself sub has x r formal roots,
  )

  first_is : (o : Option ℕ) (x : ℕ) → is_first_of o x ≡ true → (f : ℕ) × (o ≡ Some f) × (x ≡ f)
  first_is None x e = absurd (true≢false (sym e))
  first_is (Some f) x e = (f, refl, sym (eqb-true f x e))

  no_view : (sub : FlowSub) → Has program.subs sub → (r : Report) → ViewReport program effects sub r → ⊥
  no_view sub has _ (changed p a m at e view) =
      no (is_constant s (changes a.act)) (ap (is_constant s) e ∙ view_constant sub (changes_none sub has p a at m e) m view)
      (left_of (not (is_constant s (changes a.act))) (not (is_constant s (designated_name (lends a.act)))) (constants p.instr a.act (act_is sub has p a at)))
  no_view sub has _ (lent p a m at e view may) =
      no (is_constant s (designated_name (lends a.act))) (ap (λ z. is_constant s (designated_name z)) e ∙ view_constant sub (lends_none sub has p a at m e) (extend m (sel.Deref ∷ [])) view)
      (right_of (not (is_constant s (changes a.act))) (not (is_constant s (designated_name (lends a.act)))) (constants p.instr a.act (act_is sub has p a at)))
  no_view sub has _ (given p at m there is) =
      true≢false (sym (and_first (is_variable (object_at s m.root).kind) (is_observing (view_of s m.root)) is)
      ∙ no_variable (object_at s m.root).kind (left_of (is_formal s m.root) (is_first_of (traversed_formal s sub) m.root) (rooted_there sub has p (record { pos = at; act = act.Give m true }) there)))
  no_view sub has _ (called p g callee is there calls writes) = silent sub has is p there callee g calls writes
  no_view sub has _ (text_io p is there writes) = mute sub has is p there writes
  no_view sub has _ (shorter p at h m from there assigns outer) =
      let kept = keeps p.instr (act.Observe h m from) (act_is sub has p (record { pos = at; act = act.Observe h m from }) there) in
      by (is_assignment p.instr) (encloses program.scopes (scope_of s m.root) (scope_of s h)) assigns outer kept
    where
      by : (a b : Bool) → a ≡ true → not b ≡ true → not a || b ≡ true → ⊥
      by true true e f g = true≢false (sym f)
      by true false e f g = true≢false (sym g)
      by false b e f g = true≢false (sym e)
  no_view sub has _ (elsewhere p at m borrows there not_root) =
      let rooted = rooted_there sub has p (record { pos = at; act = act.Give m borrows }) there in
      let formal = left_of (is_formal s m.root) (is_first_of (traversed_formal s sub) m.root) rooted in
      let first = first_is (traversed_formal s sub) m.root (right_of (is_formal s m.root) (is_first_of (traversed_formal s sub) m.root) rooted) in
      not_root first.0 first.1 (subst (IsOnlyRoot s (sub_acts sub) m.root) first.2 (formal_root sub has m.root formal))
  no_view sub has _ (other_root p at b m there other) =
      no (m.root == b) (keeps p.instr (act.Reborrow b m) (act_is sub has p (record { pos = at; act = act.Reborrow b m }) there)) other

  -- There are no reports where no call reports, and none is found along paths.
  pub reports_none : alias_reports program effects ≡ [] → (n : ℕ)
      → ((sub : FlowSub) → Has program.subs sub → path_passes n (path_points program effects sub) [] 0 ≡ true) → AreReports program effects []
  reports_none aliases n paths = record { ascending = tt; sound = λ r has. absurd has; complete = none }
    where
      none : (r : Report) → ProgramReport program effects r → ⊥
      none r (on_actuals has) = subst (λ xs. Has xs r) aliases has
      none r (on_views sub has view) = no_view sub has r view
      none r (on_paths sub has path) = unreported (path_points program effects sub) n (paths sub has) r path

-- ---- functions that call no procedure and write nothing

abbrev is_still_call : Instruction → Bool
is_still_call (Call n actuals None) = false
is_still_call i = not (writes_text i)

abbrev pub is_silent : FlowSub → Bool
is_silent sub = not (is_function sub) || all_pass (λ (p : FlowPoint). is_still_call p.instr) sub.points

no_call : (i : Instruction) → is_still_call i ≡ true → (callee : ℕ) → Calls i callee → ⊥
no_call (Call n actuals None) still callee is = true≢false (sym still)
no_call i still callee is = is

no_text : (i : Instruction) → is_still_call i ≡ true → writes_text i ≡ true → ⊥
no_text (Call n actuals None) still writes = true≢false (sym still)
no_text i still writes = no (writes_text i) writes still

module _ (program : FlowProgram) (effects : Effects) (passes : all_pass (keeps_rules program) program.subs ≡ true) (silent : all_pass is_silent program.subs ≡ true) where
  silent_at : (sub : FlowSub) → Has program.subs sub → is_function sub ≡ true → (p : FlowPoint) → Has sub.points p → is_still_call p.instr ≡ true
  silent_at sub has function = each (λ (p : FlowPoint). is_still_call p.instr) sub.points (by (is_function sub) function (each is_silent program.subs silent sub has))
    where
      by : (a : Bool) → a ≡ true → not a || all_pass (λ (p : FlowPoint). is_still_call p.instr) sub.points ≡ true
          → all_pass (λ (p : FlowPoint). is_still_call p.instr) sub.points ≡ true
      by true is e = e
      by false is e = absurd (true≢false (sym is))

  -- There are no reports where no call reports, and none is found along paths.
  pub reports_silent : alias_reports program effects ≡ [] → (n : ℕ)
      → ((sub : FlowSub) → Has program.subs sub → path_passes n (path_points program effects sub) [] 0 ≡ true) → AreReports program effects []
  reports_silent =
      reports_none program effects passes (λ sub has function p there callee g calls writes. no_call p.instr (silent_at sub has function p there) callee calls)
      (λ sub has function p there writes. no_text p.instr (silent_at sub has function p there) writes)

-- ---- what touches no package object

all_left : {A : Type 0} (f g : A → Bool) (xs : List A) → all_pass (λ x. f x && g x) xs ≡ true → all_pass f xs ≡ true
all_left f g [] e = refl
all_left f g (x ∷ rest) e =
    both (f x) (all_pass f rest) (left_of (f x) (g x) (left_of (f x && g x) (all_pass (λ x. f x && g x) rest) e))
    (all_left f g rest (right_of (f x && g x) (all_pass (λ x. f x && g x) rest) e))
  where
    both : (a b : Bool) → a ≡ true → b ≡ true → a && b ≡ true
    both true b e h = h
    both false b e h = e

module _ (program : FlowProgram) (passes : all_pass (sub_passes program) program.subs ≡ true) where
  abbrev typing : Typing
  typing = flow_typing program

  abbrev pub nothing : Effects
  nothing = record { read = map (λ (sub : FlowSub). empty) program.subs; written = map (λ (sub : FlowSub). empty) program.subs }

  local_is : (sub : FlowSub) → Has program.subs sub → (p : FlowPoint) → Has sub.points p → point_is_local typing p ≡ true
  local_is sub has = each (point_is_local typing) sub.points (right_of (keeps_rules program sub) (all_pass (point_is_local typing) sub.points) (each (sub_passes program) program.subs passes sub has))

  pub no_reports : alias_reports program nothing ≡ [] → (n : ℕ)
      → ((sub : FlowSub) → Has program.subs sub → path_passes n (path_points program nothing sub) [] 0 ≡ true) → AreReports program nothing []
  no_reports aliases n paths =
      reports_none program nothing (all_left (keeps_rules program) (λ sub. all_pass (point_is_local typing) sub.points) program.subs passes)
      (λ sub has function p there callee g calls writes. subst (λ xs. Has xs g) (empty_at program.subs callee) writes)
      (λ sub has function p there writes. no (writes_text p.instr) writes
      (right_of (not (reads_text p.instr)) (not (writes_text p.instr))
      (right_of (all_pass (λ (b : Placed). is_local typing b.act) p.acts) (not (reads_text p.instr) && not (writes_text p.instr)) (local_is sub has p there)))) aliases n paths

  local_acts : (p : FlowPoint) → point_is_local typing p ≡ true → (a : Placed) → Has p.acts a → is_local typing a.act ≡ true
  local_acts p e a has =
      each (λ (b : Placed). is_local typing b.act) p.acts (left_of (all_pass (λ (b : Placed). is_local typing b.act) p.acts) (not (reads_text p.instr) && not (writes_text p.instr)) e) a has

  no_reads : (g : ℕ) (p : FlowPoint) → is_global typing g ≡ true → point_is_local typing p ≡ true → point_reads g p ≡ false
  no_reads g p shared e =
      dead (g == 0) (reads_text p.instr) (list_any (λ (a : Placed). act_reads g a.act) p.acts)
      (isnt (reads_text p.instr) (left_of (not (reads_text p.instr)) (not (writes_text p.instr))
      (right_of (all_pass (λ (a : Placed). is_local typing a.act) p.acts) (not (reads_text p.instr) && not (writes_text p.instr)) e)))
      (any_none (λ (a : Placed). act_reads g a.act) p.acts (λ a has. local_read typing g a.act (local_acts p e a has) shared))
    where
      dead : (c r d : Bool) → r ≡ false → d ≡ false → (c && r) || d ≡ false
      dead true true d wrong f = absurd (true≢false wrong)
      dead true false d wrong f = f
      dead false r d wrong f = f

  no_writes : (g : ℕ) (p : FlowPoint) → is_global typing g ≡ true → point_is_local typing p ≡ true → point_writes g p ≡ false
  no_writes g p shared e =
      dead (g == 0) (writes_text p.instr) (list_any (λ (a : Placed). act_writes g a.act) p.acts)
      (isnt (writes_text p.instr) (right_of (not (reads_text p.instr)) (not (writes_text p.instr))
      (right_of (all_pass (λ (a : Placed). is_local typing a.act) p.acts) (not (reads_text p.instr) && not (writes_text p.instr)) e)))
      (any_none (λ (a : Placed). act_writes g a.act) p.acts (λ a has. local_write typing g a.act (local_acts p e a has) shared))
    where
      dead : (c r d : Bool) → r ≡ false → d ≡ false → (c && r) || d ≡ false
      dead true true d wrong f = absurd (true≢false wrong)
      dead true false d wrong f = f
      dead false r d wrong f = f

  never_reads : (p g : ℕ) → Reads program p g → ⊥
  never_reads p g reads = by (is_global typing g) refl reads.own
    where
      by : (b : Bool) → is_global typing g ≡ b → IsTrue (b && list_any (point_reads g) (flow_sub_at program reads.last).points) → ⊥
      by false e own = true≢false (sym own)
      by true e own =
          true≢false (sym own
          ∙ at_any (λ (sub : FlowSub). list_any (point_reads g) sub.points ≡ false) program.subs
          (record { pos = record { file = 0; line = 1; column = 1 }; words = 1; formals = []; result = None; points = []; facts = [] }) refl
          (λ sub has. any_none (point_reads g) sub.points (λ q there. no_reads g q e (local_is sub has q there))) reads.last)

  never_writes : (p g : ℕ) → Writes program p g → ⊥
  never_writes p g writes = by (is_global typing g) refl writes.own
    where
      by : (b : Bool) → is_global typing g ≡ b → IsTrue (b && list_any (point_writes g) (flow_sub_at program writes.last).points) → ⊥
      by false e own = true≢false (sym own)
      by true e own =
          true≢false (sym own
          ∙ at_any (λ (sub : FlowSub). list_any (point_writes g) sub.points ≡ false) program.subs
          (record { pos = record { file = 0; line = 1; column = 1 }; words = 1; formals = []; result = None; points = []; facts = [] }) refl
          (λ sub has. any_none (point_writes g) sub.points (λ q there. no_writes g q e (local_is sub has q there))) writes.last)

  pub no_effects : AreEffects program nothing
  no_effects = record {
    read_count = many program.subs;
    written_count = many program.subs;
    read_order = λ p. subst Ascends (sym (empty_at program.subs p)) tt;
    written_order = λ p. subst Ascends (sym (empty_at program.subs p)) tt;
    reads = λ p g inside. ((λ has. absurd (subst (λ xs. Has xs g) (empty_at program.subs p) has)), (λ is. absurd (never_reads p g is)));
    writes = λ p g inside. ((λ has. absurd (subst (λ xs. Has xs g) (empty_at program.subs p) has)), (λ is. absurd (never_writes p g is)));
  }
