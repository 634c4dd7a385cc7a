-- Reports that are put in one after the other, and subprogram by subprogram.
use Rattle.std.proofs.Common.{◌≡◌, ◌⊎◌, refl, sym, ap, ◌∙◌, subst, inl, inr, ℕ, zero, suc, ◌+◌, ◌<◌, ◌≤◌, add-one, List, [], ◌∷◌, ◌++◌, map, drop, length, get_or, arith}
use Rattle.std.specs.BTreeSet.{insert_key}
use Rattle.std.proofs.lemmas.List.{append_assoc, map-append}
use Rattle.spark_base.specs.Lists.{Has}
use Rattle.place_names.specs.Names.{Name}
use Rattle.place_names.specs.Reports.{Report}
use Rattle.report_lists.specs.PrintedReports.{Printed, printed_cmp}
use Rattle.report_lists.specs.Gains.{told, put_told, Gains}
use Rattle.report_lists.proofs.Gained.{gains_same, gains_both}
use Rattle.type_definitions.specs.Types.{Table}
use Rattle.typed_tree.specs.declared.object.Object.{Object}
use Rattle.flow_paths.specs.declared.point.Point.{Point}
use Rattle.flow_paths.specs.declared.report.Report.{Report as Listed}
use Rattle.flow_paths.specs.declared.report.Effects.{Effects}
use Rattle.flow_paths.specs.declared.point.LaidSub.{LaidSub}
use Rattle.flow_paths.specs.Printing.{printed_name}
use Rattle.flow_paths.specs.Reports.{report_of}
use Rattle.flow_paths.specs.Paths.{PathReport}
use Rattle.point_states.proofs.Moves.{drop_past}
use Rattle.path_reports.specs.CalledPoints.{called_points}
use Rattle.path_reports.proofs.Putting.{dropped}
use Rattle.path_check.specs.Told.{reports_in}
use Rattle.path_check.specs.Verdicts.{sub_steps, all_steps}
use Rattle.path_check.specs.Paths.{OnPaths}

-- ---- one report after the other

pub report_next : (printed : Name → List ℕ) (reports : List Listed) (i : ℕ) (x d : Listed) (set new all : List Printed) → i < length reports
    → x ≡ get_or reports i d → new ≡ insert_key printed_cmp set (told printed (report_of x))
    → put_told printed set (reports_in (drop i reports)) ≡ all → put_told printed new (reports_in (drop (i + 1) reports)) ≡ all
report_next printed reports i x d set new all h is done before =
    ap (λ n. put_told printed new (reports_in (drop n reports))) (add-one i)
    ∙ ap (λ s. put_told printed s (reports_in (drop (suc i) reports))) (done ∙ ap (λ y. insert_key printed_cmp set (told printed (report_of y))) is)
    ∙ ap (λ l. put_told printed set (reports_in l)) (sym (dropped reports i d h)) ∙ before

pub reports_done : (printed : Name → List ℕ) (reports : List Listed) (i : ℕ) (set all : List Printed) → length reports ≤ i
    → put_told printed set (reports_in (drop i reports)) ≡ all → set ≡ all
reports_done printed reports i set all h before = sym (ap (λ l. put_told printed set (reports_in l)) (drop_past reports i h)) ∙ before

-- ---- one subprogram after the other

-- the first i have been put in
pub record Putting (printed : Name → List ℕ) (objects : List Object) (effects : Effects) (subs : List LaidSub) (i : ℕ) (old set : List Printed) : Type 0 where
  pub done : List LaidSub
  pub split : subs ≡ done ++ drop i subs
  pub gains : Gains printed (OnPaths objects effects done) old set

pub putting_begins : (printed : Name → List ℕ) (objects : List Object) (effects : Effects) (subs : List LaidSub) (old : List Printed)
    → Putting printed objects effects subs 0 old old
putting_begins printed objects effects subs old = record {
  done = [];
  split = refl;
  gains = record { stays = λ p h. h; only = λ p h. inl h; comes = λ r q. absurd q.has };
}

one_more : {A : Type 0} (xs : List A) (y : A) (zs : List A) → xs ++ (y ∷ zs) ≡ (xs ++ y ∷ []) ++ zs
one_more [] y zs = refl
one_more (x ∷ xs) y zs = ap (λ l. x ∷ l) (one_more xs y zs)

has_more : {A : Type 0} (xs : List A) (y x : A) → Has xs x ⊎ (x ≡ y) → Has (xs ++ y ∷ []) x
has_more [] y x h = elim h [ inl none ↦ absurd none | inr e ↦ inl (sym e) ]
has_more (z ∷ xs) y x h = elim h [
  | inl has ↦ elim has [ inl e ↦ inl e | inr later ↦ inr (has_more xs y x (inl later)) ]
  | inr e ↦ inr (has_more xs y x (inr e))
]

more_has : {A : Type 0} (xs : List A) (y x : A) → Has (xs ++ y ∷ []) x → Has xs x ⊎ (x ≡ y)
more_has [] y x h = elim h [ inl e ↦ inr (sym e) | inr none ↦ absurd none ]
more_has (z ∷ xs) y x h = elim h [
  | inl e ↦ inl (inl e)
  | inr later ↦ elim (more_has xs y x later) [ inl has ↦ inl (inr has) | inr e ↦ inr e ]
]

on_more : (objects : List Object) (effects : Effects) (done : List LaidSub) (sub : LaidSub) (r : Report)
    → OnPaths objects effects done r ⊎ PathReport (called_points objects effects sub.points) r → OnPaths objects effects (done ++ sub ∷ []) r
on_more objects effects done sub r h = elim h [
  | inl was ↦ record { sub = was.sub; has = has_more done sub was.sub (inl was.has); is = was.is }
  | inr now ↦ record { sub = sub; has = has_more done sub sub (inr refl); is = now }
]

more_on : (objects : List Object) (effects : Effects) (done : List LaidSub) (sub : LaidSub) (r : Report)
    → OnPaths objects effects (done ++ sub ∷ []) r → OnPaths objects effects done r ⊎ PathReport (called_points objects effects sub.points) r
more_on objects effects done sub r q = elim (more_has done sub q.sub q.has) [
  | inl was ↦ inl (record { sub = q.sub; has = was; is = q.is })
  | inr e ↦ inr (subst (λ (x : LaidSub). PathReport (called_points objects effects x.points) r) e q.is)
]

pub putting_goes_on : (printed : Name → List ℕ) (objects : List Object) (effects : Effects) (subs : List LaidSub) (i : ℕ) (x d : LaidSub)
    (old set new : List Printed) → i < length subs → x ≡ get_or subs i d → Putting printed objects effects subs i old set
    → Gains printed (PathReport (called_points objects effects x.points)) set new → Putting printed objects effects subs (i + 1) old new
putting_goes_on printed objects effects subs i x d old set new h is p g =
    let sub : LaidSub = get_or subs i d in
    let here : Gains printed (PathReport (called_points objects effects sub.points)) set new =
    subst (λ (y : LaidSub). Gains printed (PathReport (called_points objects effects y.points)) set new) is g in
    record {
      done = p.done ++ sub ∷ [];
      split = p.split ∙ ap (λ l. p.done ++ l) (dropped subs i d h) ∙ one_more p.done sub (drop (suc i) subs)
          ∙ ap (λ n. (p.done ++ sub ∷ []) ++ drop n subs) (sym (add-one i));
      gains = gains_same printed (λ r. OnPaths objects effects p.done r ⊎ PathReport (called_points objects effects sub.points) r)
          (OnPaths objects effects (p.done ++ sub ∷ [])) old new (on_more objects effects p.done sub) (more_on objects effects p.done sub)
          (gains_both printed (OnPaths objects effects p.done) (PathReport (called_points objects effects sub.points)) old set new p.gains here);
    }

nothing_more : {A : Type 0} (xs : List A) → xs ++ [] ≡ xs
nothing_more [] = refl
nothing_more (x ∷ xs) = ap (λ l. x ∷ l) (nothing_more xs)

pub putting_ends : (printed : Name → List ℕ) (objects : List Object) (effects : Effects) (subs : List LaidSub) (i : ℕ) (old set : List Printed)
    → length subs ≤ i → Putting printed objects effects subs i old set → Gains printed (OnPaths objects effects subs) old set
putting_ends printed objects effects subs i old set h p =
    let all : p.done ≡ subs = sym (p.split ∙ ap (λ l. p.done ++ l) (drop_past subs i h) ∙ nothing_more p.done) in
    subst (λ l. Gains printed (OnPaths objects effects l) old set) all p.gains

-- a subprogram of the list, and what is still to be carried
pub sub_has : (subs : List LaidSub) (i : ℕ) (x d : LaidSub) → i < length subs → x ≡ get_or subs i d → Has subs x
sub_has subs i x d h is = subst (Has subs) (sym is) (at subs i h)
  where
    at : (subs : List LaidSub) (i : ℕ) → i < length subs → Has subs (get_or subs i d)
    at [] i h = absurd (omega arith)
    at (y ∷ subs) zero h = inl refl
    at (y ∷ subs) (suc i) h = inr (at subs i (omega arith))

pub same_item : (l subs : List LaidSub) (i : ℕ) (x d : LaidSub) → l ≡ subs → i < length l → x ≡ get_or l i d
    → (i < length subs) × (x ≡ get_or subs i d)
same_item l subs i x d e h is = (subst (λ m. i < length m) e h, is ∙ ap (λ m. get_or m i d) e)

pub steps_next : (subs : List LaidSub) (i : ℕ) (x d : LaidSub) → i < length subs → x ≡ get_or subs i d
    → all_steps (drop i subs) ≡ sub_steps x + all_steps (drop (i + 1) subs)
steps_next subs i x d h is =
    ap all_steps (dropped subs i d h) ∙ (λ j. sub_steps (sym is j) + all_steps (drop (sym (add-one i) j) subs))

-- what is still to be carried after a subprogram
pub steps_left : (now before cost rest all : ℕ) → now ≤ before + cost → before + (cost + rest) ≤ all → now + rest ≤ all
steps_left now before cost rest all one so = omega arith

pub steps_over : (now before cost rest all : ℕ) → now ≤ before + cost → before + (cost + rest) ≤ all → now ≤ all
steps_over now before cost rest all one so = omega arith

-- what a subprogram gained, in the words of its program
pub gains_of : (table t : Table) (objects o : List Object) (effects : Effects) (points p : List Point) (old new : List Printed) → table ≡ t → objects ≡ o → points ≡ p
    → Gains (printed_name table objects) (PathReport (called_points objects effects points)) old new
    → Gains (printed_name t o) (PathReport (called_points o effects p)) old new
gains_of table t objects o effects points p old new e f h g =
    subst (λ l. Gains (printed_name t o) (PathReport (called_points o effects l)) old new) h
    (subst (λ l. Gains (printed_name t l) (PathReport (called_points l effects points)) old new) f
    (subst (λ l. Gains (printed_name l objects) (PathReport (called_points objects effects points)) old new) e g))

-- ---- the list in order

pub order_next : (printed : List Printed) (i : ℕ) (x d : Printed) (made new : List Listed) (one : Listed) → i < length printed
    → x ≡ get_or printed i d → new ≡ made ++ one ∷ [] → report_of one ≡ x.report
    → reports_in made ++ map (λ (p : Printed). p.report) (drop i printed) ≡ map (λ (p : Printed). p.report) printed
    → reports_in new ++ map (λ (p : Printed). p.report) (drop (i + 1) printed) ≡ map (λ (p : Printed). p.report) printed
order_next printed i x d made new one h is done same before =
    let rest = map (λ (p : Printed). p.report) (drop (suc i) printed) in
    ap (λ n. reports_in new ++ map (λ (p : Printed). p.report) (drop n printed)) (add-one i)
    ∙ ap (λ l. l ++ rest) (ap reports_in done ∙ map-append report_of made (one ∷ []))
    ∙ append_assoc (reports_in made) (report_of one ∷ []) rest
    ∙ ap (λ r. reports_in made ++ r ∷ rest) (same ∙ ap (λ (y : Printed). y.report) is)
    ∙ ap (λ l. reports_in made ++ map (λ (p : Printed). p.report) l) (sym (dropped printed i d h)) ∙ before

pub order_done : (printed : List Printed) (i : ℕ) (made : List Listed) → length printed ≤ i
    → reports_in made ++ map (λ (p : Printed). p.report) (drop i printed) ≡ map (λ (p : Printed). p.report) printed
    → reports_in made ≡ map (λ (p : Printed). p.report) printed
order_done printed i made h before =
    sym (nothing_more (reports_in made)) ∙ ap (λ l. reports_in made ++ map (λ (p : Printed). p.report) l) (sym (drop_past printed i h)) ∙ before
