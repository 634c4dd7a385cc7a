-- Subprograms by number, and the reports of points one after the other.
use Rattle.std.proofs.Common.{◌≡◌, refl, sym, ap, ◌∙◌, subst, inl, inr, ℕ, zero, suc, ◌+◌, ◌<◌, ◌≤◌, add-one, List, [], ◌∷◌, ◌++◌, map, flat_map, take, length, get_or, append_assoc, None, arith}
use Rattle.std.proofs.Math.Seq.{take-suc}
use Rattle.std.specs.List.{slice_get}
use Rattle.spark_base.specs.Lists.{Has}
use Rattle.spark_base.proofs.Lists.{Has-map}
use Rattle.place_names.specs.Reports.{Report}
use Rattle.typed_tree.specs.Nodes.{TypedNodes}
use Rattle.flow_paths.specs.declared.report.Report.{Report as Told}
use Rattle.flow_paths.specs.declared.report.Effects.{Effects}
use Rattle.flow_paths.specs.declared.point.Point.{Point}
use Rattle.flow_paths.specs.declared.point.LaidSub.{LaidSub}
use Rattle.flow_paths.specs.Objects.{Typing, Signature, sub_at}
use Rattle.flow_paths.specs.Points.{FlowPoint}
use Rattle.flow_paths.specs.Stands.{flow_point_of, flow_sub_of}
use Rattle.flow_paths.specs.Laid.{FlowSub, flow_typing}
use Rattle.flow_paths.specs.Aliases.{call_reports, alias_reports}
use Rattle.flow_paths.specs.Reports.{report_of}
use Rattle.laid_program.specs.declared.laid.Laid.{Laid}
use Rattle.laid_program.specs.Programs.{program_of}
use Rattle.alias_rules.specs.Told.{Adds, sub_reports}

-- ---- signatures by number

abbrev pub sig_of : TypedNodes → List LaidSub → ℕ → Signature
sig_of rows subs q =
    get_or (map (λ (sub : FlowSub). record { formals = sub.formals; result = sub.result }) (map (flow_sub_of rows) subs)) q
    (record { formals = []; result = None })

sig_past : (rows : TypedNodes) (subs : List LaidSub) (q : ℕ) → slice_get subs q ≡ None → sig_of rows subs q ≡ record { formals = []; result = None }
sig_past rows [] q e = refl
sig_past rows (x ∷ subs) zero e = cc
sig_past rows (x ∷ subs) (suc q) e = sig_past rows subs q e

pub formals_past : (laid : Laid) (q : ℕ) → slice_get laid.subs q ≡ None → [] ≡ (sub_at (flow_typing (program_of laid)) q).formals
formals_past laid q e = ap (λ (s : Signature). s.formals) (sym (sig_past laid.rows laid.subs q e))

pub result_past : (laid : Laid) (q : ℕ) → slice_get laid.subs q ≡ None → None ≡ (sub_at (flow_typing (program_of laid)) q).result
result_past laid q e = ap (λ (s : Signature). s.result) (sym (sig_past laid.rows laid.subs q e))

-- one that was got from a slice
pub sig_got : (laid : Laid) (q : ℕ) (subs : List LaidSub) (sub d : LaidSub) → subs ≡ laid.subs → q < length subs → sub ≡ get_or subs q d
    → sub_at (flow_typing (program_of laid)) q ≡ record { formals = sub.formals; result = sub.result }
sig_got laid q subs sub d e h is = from laid.subs q (subst (λ l. q < length l) e h) (is ∙ ap (λ l. get_or l q d) e)
  where
    from : (subs : List LaidSub) (q : ℕ) → q < length subs → sub ≡ get_or subs q d
        → sig_of laid.rows subs q ≡ record { formals = sub.formals; result = sub.result }
    from [] q h is = absurd (omega arith)
    from (x ∷ subs) zero h is = ap (λ (s : LaidSub). record { formals = s.formals; result = s.result }) (sym is)
    from (x ∷ subs) (suc q) h is = from subs q (omega arith) is

-- ---- points of the program

pub sub_there : (laid : Laid) (sub : LaidSub) → Has laid.subs sub → Has (program_of laid).subs (flow_sub_of laid.rows sub)
sub_there laid sub h = Has-map (flow_sub_of laid.rows) laid.subs sub h

pub point_there : (laid : Laid) (sub : LaidSub) (p : Point) → Has sub.points p → Has (flow_sub_of laid.rows sub).points (flow_point_of laid.rows p)
point_there laid sub p h = Has-map (flow_point_of laid.rows) sub.points p h

pub get_has : {A : Type 0} (xs : List A) (i : ℕ) (d : A) → i < length xs → Has xs (get_or xs i d)
get_has [] i d h = absurd (omega arith)
get_has (x ∷ xs) zero d h = inl refl
get_has (x ∷ xs) (suc i) d h = inr (get_has xs i d (omega arith))

-- ---- reports one after the other

flat_map-append : {A B : Type 0} (f : A → List B) (xs ys : List A) → flat_map f (xs ++ ys) ≡ flat_map f xs ++ flat_map f ys
flat_map-append f [] ys = refl
flat_map-append f (x ∷ xs) ys = ap (λ l. f x ++ l) (flat_map-append f xs ys) ∙ sym (append_assoc (f x) (flat_map f xs) (flat_map f ys))

append_nil : {B : Type 0} (xs : List B) → xs ++ [] ≡ xs
append_nil [] = refl
append_nil (x ∷ xs) = ap (λ l. x ∷ l) (append_nil xs)

pub adds_none : (reports : List Told) → Adds reports reports []
adds_none reports = sym (append_nil (map report_of reports))

pub adds_on : (old mid new : List Told) (xs ys : List Report) → Adds old mid xs → Adds mid new ys → Adds old new (xs ++ ys)
adds_on old mid new xs ys a b = b ∙ ap (λ l. l ++ ys) a ∙ append_assoc (map report_of old) xs ys

pub adds_more : {A : Type 0} (f : A → List Report) (items : List A) (i : ℕ) (x d : A) (old mid new : List Told) → i < length items
    → x ≡ get_or items i d → Adds old mid (flat_map f (take i items)) → Adds mid new (f x) → Adds old new (flat_map f (take (i + 1) items))
adds_more f items i x d old mid new h e a b =
    let one : flat_map f (take (i + 1) items) ≡ flat_map f (take i items) ++ f x =
    ap (λ n. flat_map f (take n items)) (add-one i) ∙ ap (flat_map f) (take-suc items i d h)
    ∙ flat_map-append f (take i items) (get_or items i d ∷ []) ∙ ap (λ l. flat_map f (take i items) ++ l) (append_nil (f (get_or items i d)))
    ∙ ap (λ y. flat_map f (take i items) ++ f y) (sym e) in
    subst (λ l. Adds old new l) (sym one) (adds_on old mid new (flat_map f (take i items)) (f x) a b)

take_past : {A : Type 0} (xs : List A) (i : ℕ) → length xs ≤ i → take i xs ≡ xs
take_past [] zero h = refl
take_past [] (suc i) h = refl
take_past (x ∷ xs) zero h = absurd (omega arith)
take_past (x ∷ xs) (suc i) h = ap (λ l. x ∷ l) (take_past xs i (omega arith))

pub adds_all : {A : Type 0} (f : A → List Report) (items : List A) (i : ℕ) (old new : List Told) → length items ≤ i
    → Adds old new (flat_map f (take i items)) → Adds old new (flat_map f items)
adds_all f items i old new h a = subst (λ l. Adds old new (flat_map f l)) (take_past items i h) a

-- ---- the reports of a program

map_flat : {A B C : Type 0} (f : B → List C) (h : A → B) (xs : List A) → flat_map f (map h xs) ≡ flat_map (λ x. f (h x)) xs
map_flat f h [] = refl
map_flat f h (x ∷ xs) = ap (λ l. f (h x) ++ l) (map_flat f h xs)

flat_same : {A B : Type 0} (f h : A → List B) → ((x : A) → f x ≡ h x) → (xs : List A) → flat_map f xs ≡ flat_map h xs
flat_same f h same [] = refl
flat_same f h same (x ∷ xs) = ap (λ l. l ++ flat_map f xs) (same x) ∙ ap (λ l. h x ++ l) (flat_same f h same xs)

pub reports_are : (laid : Laid) (effects : Effects)
    → flat_map (sub_reports (flow_typing (program_of laid)) effects laid.rows) laid.subs ≡ alias_reports (program_of laid) effects
reports_are laid effects =
    let s : Typing = flow_typing (program_of laid) in
    let of : FlowPoint → List Report = λ p. call_reports s effects p.instr in
    let all : FlowSub → List Report = λ sub. flat_map of sub.points in
    flat_same (sub_reports s effects laid.rows) (λ sub. all (flow_sub_of laid.rows sub)) (λ sub. sym (map_flat of (flow_point_of laid.rows) sub.points)) laid.subs
    ∙ sym (map_flat all (flow_sub_of laid.rows) laid.subs)
