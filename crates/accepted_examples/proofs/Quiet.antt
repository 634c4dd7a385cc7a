-- A program whose points do nothing has no reports.
use Rattle.std.specs.Prelude.{IsTrue}
use Rattle.std.specs.List.{list_any}
use Rattle.std.proofs.Common.{◌≡◌, ℕ, zero, suc, inl, inr, Bool, true, false, not, ◌&&◌, ◌||◌, ◌==◌, List, [], ◌∷◌, ◌++◌, length, get_or, map, refl, sym, ap, ◌∙◌, subst, Some, None, true≢false}
use Rattle.machine.specs.spark_base.Lists.{Has}
use Rattle.machine.specs.place_names.declared.act.Act.{Act}
use Rattle.machine.specs.place_names.declared.act.Act.TheVariants as act
use Rattle.machine.specs.place_names.declared.act.Placed.{Placed}
use Rattle.machine.specs.place_names.Facts.{facts_after}
use Rattle.machine.specs.place_names.Reports.{Report}
use Rattle.machine.specs.flow_paths.declared.report.Effects.{Effects}
use Rattle.machine.specs.flow_paths.Points.{FlowPoint}
use Rattle.machine.specs.flow_paths.Laid.{FlowSub, FlowProgram, flow_typing}
use Rattle.machine.specs.flow_paths.Paths.{PathPoint, PathReport, path_point, acts_at, acts_along}
use Rattle.machine.specs.flow_paths.Views.{ViewReport, changed, lent, given, called, text_io, shorter, elsewhere, other_root, is_function, changes, lends}
use Rattle.machine.specs.flow_paths.Aliases.{alias_reports}
use Rattle.machine.specs.flow_paths.Effects.{AreEffects, Reads, Writes, Ascends, path_points, point_reads, point_writes, is_global, reads_text, writes_text, flow_sub_at, act_reads, act_writes}
use Rattle.machine.specs.flow_paths.Reports.{AreReports, ProgramReport, on_actuals, on_views, on_paths}

abbrev pub is_calm : Act → Bool
is_calm (act.Return roots) = true
is_calm _ = false

abbrev pub calm_placed : Placed → Bool
calm_placed a = is_calm a.act

abbrev pub all_pass : {A : Type 0} → (A → Bool) → List A → Bool
all_pass test [] = true
all_pass test (x ∷ rest) = test x && all_pass test rest

abbrev pub is_quiet : FlowPoint → Bool
is_quiet p = all_pass calm_placed p.acts && (not (reads_text p.instr) && not (writes_text p.instr))

abbrev pub is_quiet_sub : FlowSub → Bool
is_quiet_sub sub = not (is_function sub) && all_pass is_quiet sub.points

abbrev pub no_acts : PathPoint → Bool
no_acts p = all_pass calm_placed p.acts

abbrev pub empty : List ℕ
empty = []

none≢some : {A : Type 0} {x : A} → None ≡ Some x → ⊥
none≢some e = cc

pub left_of : (a b : Bool) → a && b ≡ true → a ≡ true
left_of true b e = refl
left_of false b e = absurd (true≢false (sym e))

pub right_of : (a b : Bool) → a && b ≡ true → b ≡ true
right_of true b e = e
right_of false b e = absurd (true≢false (sym e))

pub isnt : (a : Bool) → not a ≡ true → a ≡ false
isnt true e = absurd (true≢false (sym e))
isnt false e = refl

pub each : {A : Type 0} (test : A → Bool) (xs : List A) → all_pass test xs ≡ true → (x : A) → Has xs x → test x ≡ true
each test [] all x has = absurd has
each test (y ∷ rest) all x (inl is) = subst (λ z. test z ≡ true) is (left_of (test y) (all_pass test rest) all)
each test (y ∷ rest) all x (inr has) = each test rest (right_of (test y) (all_pass test rest) all) x has

calm : (a : Act) → is_calm a ≡ true → (roots : List ℕ) × (a ≡ act.Return roots)
calm (act.Read m) e = absurd (true≢false (sym e))
calm (act.Look m) e = absurd (true≢false (sym e))
calm (act.Write m) e = absurd (true≢false (sym e))
calm (act.Move m parts) e = absurd (true≢false (sym e))
calm (act.Borrow h m) e = absurd (true≢false (sym e))
calm (act.Observe h m from) e = absurd (true≢false (sym e))
calm (act.Reborrow b m) e = absurd (true≢false (sym e))
calm (act.EndScope x borrower) e = absurd (true≢false (sym e))
calm (act.Return roots) e = (roots, refl)
calm (act.Actual m mode owning access) e = absurd (true≢false (sym e))
calm (act.Global g written) e = absurd (true≢false (sym e))
calm (act.Free m) e = absurd (true≢false (sym e))
calm (act.Give m borrows) e = absurd (true≢false (sym e))

untrue : (b : Bool) → b ≡ false → IsTrue b → ⊥
untrue b e is = true≢false (sym is ∙ e)

untrue_right : (a b : Bool) → b ≡ false → IsTrue (a && b) → ⊥
untrue_right true b e is = true≢false (sym is ∙ e)
untrue_right false b e is = true≢false (sym is)

dead : (c r d : Bool) → r ≡ false → d ≡ false → (c && r) || d ≡ false
dead true true d wrong e = absurd (true≢false wrong)
dead true false d wrong e = e
dead false r d wrong e = e

pub any_none : {A : Type 0} (f : A → Bool) (xs : List A) → ((x : A) → Has xs x → f x ≡ false) → list_any f xs ≡ false
any_none f [] all = refl
any_none f (x ∷ rest) all = both (f x) (list_any f rest) (all x (inl refl)) (any_none f rest (λ y has. all y (inr has)))
  where
    both : (a b : Bool) → a ≡ false → b ≡ false → a || b ≡ false
    both true b e g = e
    both false b e g = g

calm_none : (f : Act → Bool) → ((roots : List ℕ) → f (act.Return roots) ≡ false) → (acts : List Placed) → all_pass calm_placed acts ≡ true
    → list_any (λ (a : Placed). f a.act) acts ≡ false
calm_none f none acts all =
    any_none (λ (a : Placed). f a.act) acts
    (λ a has. let is = calm a.act (each calm_placed acts all a has) in subst (λ z. f z ≡ false) (sym is.1) (none is.0))

abbrev no_text : FlowPoint → Bool
no_text p = not (reads_text p.instr) && not (writes_text p.instr)

no_writes : (g : ℕ) (p : FlowPoint) → is_quiet p ≡ true → point_writes g p ≡ false
no_writes g p quiet =
    dead (g == 0) (writes_text p.instr) (list_any (λ (a : Placed). act_writes g a.act) p.acts)
    (isnt (writes_text p.instr) (right_of (not (reads_text p.instr)) (not (writes_text p.instr)) (right_of (all_pass calm_placed p.acts) (no_text p) quiet)))
    (calm_none (act_writes g) (λ roots. refl) p.acts (left_of (all_pass calm_placed p.acts) (no_text p) quiet))

no_reads : (g : ℕ) (p : FlowPoint) → is_quiet p ≡ true → point_reads g p ≡ false
no_reads g p quiet =
    dead (g == 0) (reads_text p.instr) (list_any (λ (a : Placed). act_reads g a.act) p.acts)
    (isnt (reads_text p.instr) (left_of (not (reads_text p.instr)) (not (writes_text p.instr)) (right_of (all_pass calm_placed p.acts) (no_text p) quiet)))
    (calm_none (act_reads g) (λ roots. refl) p.acts (left_of (all_pass calm_placed p.acts) (no_text p) quiet))

pub at_any : {A : Type 0} (P : A → Type 0) (xs : List A) (d : A) → P d → ((x : A) → Has xs x → P x) → (n : ℕ) → P (get_or xs n d)
at_any P [] d base all zero = base
at_any P [] d base all (suc n) = base
at_any P (x ∷ rest) d base all zero = all x (inl refl)
at_any P (x ∷ rest) d base all (suc n) = at_any P rest d base (λ y has. all y (inr has)) n

path_calm : (points : List PathPoint) → all_pass no_acts points ≡ true → (n : ℕ) → all_pass calm_placed (path_point points n).acts ≡ true
path_calm [] all n = refl
path_calm (p ∷ rest) all zero = left_of (no_acts p) (all_pass no_acts rest) all
path_calm (p ∷ rest) all (suc n) = path_calm rest (right_of (no_acts p) (all_pass no_acts rest) all) n

both_of : (a b : Bool) → a ≡ true → b ≡ true → a && b ≡ true
both_of true b e g = g
both_of false b e g = e

all_joined : {A : Type 0} (test : A → Bool) (xs ys : List A) → all_pass test xs ≡ true → all_pass test ys ≡ true → all_pass test (xs ++ ys) ≡ true
all_joined test [] ys a b = b
all_joined test (x ∷ xs) ys a b =
    both_of (test x) (all_pass test (xs ++ ys)) (left_of (test x) (all_pass test xs) a) (all_joined test xs ys (right_of (test x) (all_pass test xs) a) b)

all_before : {A : Type 0} (test : A → Bool) (xs ys : List A) → all_pass test (xs ++ ys) ≡ true → all_pass test xs ≡ true
all_before test [] ys a = refl
all_before test (x ∷ xs) ys a =
    both_of (test x) (all_pass test xs) (left_of (test x) (all_pass test (xs ++ ys)) a) (all_before test xs ys (right_of (test x) (all_pass test (xs ++ ys)) a))

all_told : (acts : List Placed) → all_pass calm_placed acts ≡ true → all_pass is_calm (map (λ (a : Placed). a.act) acts) ≡ true
all_told [] all = refl
all_told (a ∷ rest) all =
    both_of (is_calm a.act) (all_pass is_calm (map (λ (b : Placed). b.act) rest)) (left_of (calm_placed a) (all_pass calm_placed rest) all)
    (all_told rest (right_of (calm_placed a) (all_pass calm_placed rest) all))

along_calm : (points : List PathPoint) → all_pass no_acts points ≡ true → (before : List ℕ) → all_pass is_calm (acts_along points before) ≡ true
along_calm points all [] = refl
along_calm points all (n ∷ before) =
    all_joined is_calm (acts_along points before) (acts_at points n) (along_calm points all before) (all_told (path_point points n).acts (path_calm points all n))

facts_none : (acts : List Act) → all_pass is_calm acts ≡ true → facts_after acts ≡ []
facts_none [] all = refl
facts_none (a ∷ rest) all =
    let is = calm a (left_of (is_calm a) (all_pass is_calm rest) all) in
    subst (λ z. facts_after (z ∷ rest) ≡ []) (sym is.1) (facts_none rest (right_of (is_calm a) (all_pass is_calm rest) all))

no_path : (points : List PathPoint) → all_pass no_acts points ≡ true → (r : Report) → PathReport points r → ⊥
no_path points all r path =
    subst (λ xs. Has xs path.fact)
    (facts_none (acts_along points path.before ++ map (λ (a : Placed). a.act) path.front)
    (all_joined is_calm (acts_along points path.before) (map (λ (a : Placed). a.act) path.front) (along_calm points all path.before)
    (all_told path.front
    (all_before calm_placed path.front (path.placed ∷ path.rest)
    (subst (λ xs. all_pass calm_placed xs ≡ true) path.split (path_calm points all path.last))))))
    path.holds

pub empty_at : (subs : List FlowSub) (n : ℕ) → get_or (map (λ (sub : FlowSub). empty) subs) n [] ≡ []
empty_at [] zero = refl
empty_at [] (suc n) = refl
empty_at (sub ∷ rest) zero = refl
empty_at (sub ∷ rest) (suc n) = empty_at rest n

pub many : (subs : List FlowSub) → length (map (λ (sub : FlowSub). empty) subs) ≡ length subs
many [] = refl
many (sub ∷ rest) = ap suc (many rest)

module _ (program : FlowProgram) (quiet : all_pass is_quiet_sub program.subs ≡ true) where
  abbrev pub nothing : Effects
  nothing = record { read = map (λ (sub : FlowSub). empty) program.subs; written = map (λ (sub : FlowSub). empty) program.subs }

  points_quiet : (sub : FlowSub) → Has program.subs sub → (p : FlowPoint) → Has sub.points p → is_quiet p ≡ true
  points_quiet sub has = each is_quiet sub.points (right_of (not (is_function sub)) (all_pass is_quiet sub.points) (each is_quiet_sub program.subs quiet sub has))

  no_function : (sub : FlowSub) → Has program.subs sub → is_function sub ≡ false
  no_function sub has = isnt (is_function sub) (left_of (not (is_function sub)) (all_pass is_quiet sub.points) (each is_quiet_sub program.subs quiet sub has))

  acts_calm : (sub : FlowSub) → Has program.subs sub → (p : FlowPoint) (a : Placed) → Has sub.points p × Has p.acts a → is_calm a.act ≡ true
  acts_calm sub has p a at =
      each calm_placed p.acts (left_of (all_pass calm_placed p.acts) (no_text p) (points_quiet sub has p at.0)) a at.1

  no_view : (sub : FlowSub) → Has program.subs sub → (r : Report) → ViewReport program nothing sub r → ⊥
  no_view sub has _ (changed p a m at e view) =
      let is = calm a.act (acts_calm sub has p a at) in absurd (none≢some (sym (ap changes is.1) ∙ e))
  no_view sub has _ (lent p a m at e view may) =
      let is = calm a.act (acts_calm sub has p a at) in absurd (none≢some (sym (ap lends is.1) ∙ e))
  no_view sub has _ (given p at m there is) = true≢false (sym (acts_calm sub has p (record { pos = at; act = act.Give m true }) there))
  no_view sub has _ (called p g callee is there calls writes) = untrue (is_function sub) (no_function sub has) is
  no_view sub has _ (text_io p is there writes) = untrue (is_function sub) (no_function sub has) is
  no_view sub has _ (shorter p at h m from there is outer) =
      true≢false (sym (acts_calm sub has p (record { pos = at; act = act.Observe h m from }) there))
  no_view sub has _ (elsewhere p at m borrows there not_root) = true≢false (sym (acts_calm sub has p (record { pos = at; act = act.Give m borrows }) there))
  no_view sub has _ (other_root p at b m there other) = true≢false (sym (acts_calm sub has p (record { pos = at; act = act.Reborrow b m }) there))

  -- There are no reports where no call reports and no point has acts.
  pub no_reports : alias_reports program nothing ≡ [] → ((sub : FlowSub) → Has program.subs sub → all_pass no_acts (path_points program nothing sub) ≡ true)
      → AreReports program nothing []
  no_reports aliases paths = record { ascending = tt; sound = λ r has. absurd has; complete = none }
    where
      none : (r : Report) → ProgramReport program nothing r → ⊥
      none r (on_actuals has) = subst (λ xs. Has xs r) aliases has
      none r (on_views sub has view) = no_view sub has r view
      none r (on_paths sub has path) = no_path (path_points program nothing sub) (paths sub has) r path

  never_reads : (p g : ℕ) → Reads program p g → ⊥
  never_reads p g reads =
      untrue_right (is_global (flow_typing program) g) (list_any (point_reads g) (flow_sub_at program reads.last).points)
      (at_any (λ (sub : FlowSub). list_any (point_reads g) sub.points ≡ false) program.subs
      (record { pos = record { file = 0; line = 1; column = 1 }; words = 1; formals = []; result = None; points = []; facts = [] }) refl
      (λ sub has. any_none (point_reads g) sub.points (λ q there. no_reads g q (points_quiet sub has q there))) reads.last)
      reads.own

  never_writes : (p g : ℕ) → Writes program p g → ⊥
  never_writes p g writes =
      untrue_right (is_global (flow_typing program) g) (list_any (point_writes g) (flow_sub_at program writes.last).points)
      (at_any (λ (sub : FlowSub). list_any (point_writes g) sub.points ≡ false) program.subs
      (record { pos = record { file = 0; line = 1; column = 1 }; words = 1; formals = []; result = None; points = []; facts = [] }) refl
      (λ sub has. any_none (point_writes g) sub.points (λ q there. no_writes g q (points_quiet sub has q there))) writes.last)
      writes.own

  pub no_effects : AreEffects program nothing
  no_effects = record {
    read_count = many program.subs;
    written_count = many program.subs;
    read_order = λ p. subst Ascends (sym (empty_at program.subs p)) tt;
    written_order = λ p. subst Ascends (sym (empty_at program.subs p)) tt;
    reads = λ p g inside. ((λ has. absurd (subst (λ xs. Has xs g) (empty_at program.subs p) has)), (λ is. absurd (never_reads p g is)));
    writes = λ p g inside. ((λ has. absurd (subst (λ xs. Has xs g) (empty_at program.subs p) has)), (λ is. absurd (never_writes p g is)));
  }
