-- Reports that are put in one after the other.
use Rattle.std.proofs.Common.{◌≡◌, ◌⊎◌, inl, inr, refl, sym, ap, ◌∙◌, subst, ℕ, zero, suc, ◌+◌, ◌<◌, ◌≤◌, add-one, List, [], ◌∷◌, ◌++◌, map, drop, length, get_or, set, Option, None, arith}
use Rattle.std.specs.BTreeSet.{insert_key}
use Rattle.std.proofs.lemmas.List.{append_assoc, map-append}
use Rattle.spark_base.specs.declared.position.Pos.{Pos}
use Rattle.place_names.specs.Names.{Name}
use Rattle.place_names.specs.declared.act.Placed.{Placed}
use Rattle.place_names.specs.Rules.{Forbidden}
use Rattle.place_names.specs.Reports.{Report, report_at}
use Rattle.fact_questions.specs.declared.found.Found.{Found}
use Rattle.fact_questions.specs.Findings.{as_found}
use Rattle.state_trees.specs.FactStates.{FactState, may_hold, state_behind}
use Rattle.report_lists.specs.PrintedReports.{Printed, printed_cmp}
use Rattle.report_lists.specs.Gains.{told, put_told}
use Rattle.report_lists.proofs.Gained.{put_told-append}
use Rattle.typed_tree.specs.declared.object.Object.{Object}
use Rattle.flow_paths.specs.declared.point.Point.{Point}
use Rattle.flow_paths.specs.declared.report.Effects.{Effects}
use Rattle.point_states.specs.PointTrees.{tree_at}
use Rattle.point_states.proofs.Carried.{same_default}
use Rattle.point_states.specs.Carries.{state_along, acts_of}
use Rattle.point_states.proofs.Moves.{drop_past}
use Rattle.path_reports.specs.Told.{found_at, told_along, report_found, IsKeptWhere}
use Rattle.path_reports.specs.Uses.{called_told, point_told, where_told, all_told}

-- ---- what was found

pub dropped : {A : Type 0} (xs : List A) (i : ℕ) (d : A) → i < length xs → drop i xs ≡ get_or xs i d ∷ drop (suc i) xs
dropped [] i d h = absurd (omega arith)
dropped (x ∷ xs) zero d h = refl
dropped (x ∷ xs) (suc i) d h = dropped xs i d (omega arith)

-- one more is put in
pub found_next : (printed : Name → List ℕ) (pos : Pos) (found : List Found) (i : ℕ) (x d : Found) (set new all : List Printed) → i < length found
    → x ≡ get_or found i d → new ≡ insert_key printed_cmp set (told printed (report_found pos x))
    → put_told printed set (map (report_found pos) (drop i found)) ≡ all
    → put_told printed new (map (report_found pos) (drop (i + 1) found)) ≡ all
found_next printed pos found i x d set new all h is done before =
    ap (λ n. put_told printed new (map (report_found pos) (drop n found))) (add-one i)
    ∙ ap (λ s. put_told printed s (map (report_found pos) (drop (suc i) found)))
    (done ∙ ap (λ y. insert_key printed_cmp set (told printed (report_found pos y))) is)
    ∙ ap (λ l. put_told printed set (map (report_found pos) l)) (sym (dropped found i d h)) ∙ before

pub found_done : (printed : Name → List ℕ) (pos : Pos) (found : List Found) (i : ℕ) (set all : List Printed) → length found ≤ i
    → put_told printed set (map (report_found pos) (drop i found)) ≡ all → set ≡ all
found_done printed pos found i set all h before = sym (ap (λ l. put_told printed set (map (report_found pos) l)) (drop_past found i h)) ∙ before

-- what the tests of an act have found is what is forbidden there
pub reports_found : (pos : Pos) (found : List Forbidden) → map (report_found pos) (map as_found found) ≡ map (report_at pos) found
reports_found pos [] = refl
reports_found pos (x ∷ found) = ap (λ l. report_at pos x ∷ l) (reports_found pos found)

pub act_found : (pos : Pos) (moves loans : List Forbidden) (one two : List Found) → one ≡ [] ++ map as_found moves → two ≡ one ++ map as_found loans
    → map (report_found pos) two ≡ map (report_at pos) (moves ++ loans)
act_found pos moves loans one two first second =
    ap (map (report_found pos)) (second ∙ ap (λ l. l ++ map as_found loans) first ∙ sym (map-append as_found moves loans))
    ∙ reports_found pos (moves ++ loans)

-- ---- acts

-- one act more is tested and done
pub acts_next : (printed : Name → List ℕ) (acts : List Placed) (i : ℕ) (x d : Placed) (s u : FactState) (set new all : List Printed) → i < length acts
    → x ≡ get_or acts i d → u ≡ state_behind x.act s → new ≡ put_told printed set (map (report_at x.pos) (found_at x.act s))
    → put_told printed set (told_along (drop i acts) s) ≡ all → put_told printed new (told_along (drop (i + 1) acts) u) ≡ all
acts_next printed acts i x d s u set new all h is done put before =
    let rest = told_along (drop (suc i) acts) (state_behind x.act s) in
    ap (λ n. put_told printed new (told_along (drop n acts) u)) (add-one i)
    ∙ (λ t. put_told printed (put t) (told_along (drop (suc i) acts) (done t)))
    ∙ sym (put_told-append printed set (map (report_at x.pos) (found_at x.act s)) rest)
    ∙ ap (λ (y : Placed). put_told printed set (map (report_at y.pos) (found_at y.act s) ++ told_along (drop (suc i) acts) (state_behind y.act s))) is
    ∙ ap (λ l. put_told printed set (told_along l s)) (sym (dropped acts i d h)) ∙ before

pub acts_done : (printed : Name → List ℕ) (acts : List Placed) (i : ℕ) (s : FactState) (set all : List Printed) → length acts ≤ i
    → put_told printed set (told_along (drop i acts) s) ≡ all → set ≡ all
acts_done printed acts i s set all h before = sym (ap (λ l. put_told printed set (told_along l s)) (drop_past acts i h)) ∙ before

pub told_along-append : (xs ys : List Placed) (s : FactState)
    → told_along (xs ++ ys) s ≡ told_along xs s ++ told_along ys (state_along (acts_of xs) s)
told_along-append [] ys s = refl
told_along-append (p ∷ xs) ys s =
    let here = map (report_at p.pos) (found_at p.act s) in
    ap (λ l. here ++ l) (told_along-append xs ys (state_behind p.act s))
    ∙ sym (append_assoc here (told_along xs (state_behind p.act s)) (told_along ys (state_along (acts_of xs) (state_behind p.act s))))

-- first the acts of a point, then its call
pub point_put : (printed : Name → List ℕ) (objects : List Object) (effects : Effects) (p : Point) (acts : List Placed) (s u : FactState)
    (set mid new : List Printed) → acts ≡ p.acts → u ≡ state_along (acts_of acts) s → mid ≡ put_told printed set (told_along acts s)
    → new ≡ put_told printed mid (called_told objects effects p.pos p.instr (may_hold u)) → new ≡ put_told printed set (point_told objects effects p s)
point_put printed objects effects p acts s u set mid new own done first second =
    let called : FactState → List Report = λ t. called_told objects effects p.pos p.instr (may_hold t) in
    second ∙ (λ i. put_told printed (first i) (called (done i)))
    ∙ sym (put_told-append printed set (told_along acts s) (called (state_along (acts_of acts) s)))
    ∙ ap (λ l. put_told printed set (told_along l s ++ called (state_along (acts_of l) s))) own

-- ---- points

all_next : (objects : List Object) (effects : Effects) (points : List Point) (trees : List (Option FactState)) (i : ℕ) (p : Point) (t : Option FactState)
    → i < length points → length trees ≡ length points
    → all_told objects effects (drop i points) (drop i trees)
    ≡ where_told objects effects (get_or points i p) (get_or trees i t) ++ all_told objects effects (drop (suc i) points) (drop (suc i) trees)
all_next objects effects [] trees i p t h e = absurd (omega arith)
all_next objects effects (x ∷ points) [] i p t h e = absurd (omega arith)
all_next objects effects (x ∷ points) (y ∷ trees) zero p t h e = refl
all_next objects effects (x ∷ points) (y ∷ trees) (suc i) p t h e = all_next objects effects points trees i p t (omega arith) (omega arith)

pub points_next : (printed : Name → List ℕ) (objects : List Object) (effects : Effects) (points : List Point) (trees : List (Option FactState)) (i : ℕ)
    (x p : Point) (y t : Option FactState) (set new all : List Printed) → i < length points → length trees ≡ length points → x ≡ get_or points i p
    → y ≡ get_or trees i t → new ≡ put_told printed set (where_told objects effects x y)
    → put_told printed set (all_told objects effects (drop i points) (drop i trees)) ≡ all
    → put_told printed new (all_told objects effects (drop (i + 1) points) (drop (i + 1) trees)) ≡ all
points_next printed objects effects points trees i x p y t set new all h e is tree put before =
    let rest = all_told objects effects (drop (suc i) points) (drop (suc i) trees) in
    ap (λ n. put_told printed new (all_told objects effects (drop n points) (drop n trees))) (add-one i)
    ∙ ap (λ s. put_told printed s rest) (put ∙ (λ j. put_told printed set (where_told objects effects (is j) (tree j))))
    ∙ sym (put_told-append printed set (where_told objects effects (get_or points i p) (get_or trees i t)) rest)
    ∙ ap (put_told printed set) (sym (all_next objects effects points trees i p t h e)) ∙ before

-- the trees after one are left as they are where that one is taken out
first_dropped : {A : Type 0} (xs : List A) (i : ℕ) (d : A) → get_or (drop i xs) 0 d ≡ get_or xs i d
first_dropped [] zero d = refl
first_dropped [] (suc i) d = refl
first_dropped (x ∷ xs) zero d = refl
first_dropped (x ∷ xs) (suc i) d = first_dropped xs i d

next_dropped : {A : Type 0} (xs : List A) (i : ℕ) → drop 1 (drop i xs) ≡ drop (suc i) xs
next_dropped [] zero = refl
next_dropped [] (suc i) = refl
next_dropped (x ∷ xs) zero = refl
next_dropped (x ∷ xs) (suc i) = next_dropped xs i

past_set : {A : Type 0} (xs : List A) (i : ℕ) (x : A) → drop (suc i) (set xs i x) ≡ drop (suc i) xs
past_set [] i x = refl
past_set (y ∷ xs) zero x = refl
past_set (y ∷ xs) (suc i) x = past_set xs i x

pub same_first : {A : Type 0} (xs ys : List A) (i : ℕ) (d : A) → drop i xs ≡ drop i ys → get_or xs i d ≡ get_or ys i d
same_first xs ys i d same = sym (first_dropped xs i d) ∙ ap (λ l. get_or l 0 d) same ∙ first_dropped ys i d

pub same_past : {A : Type 0} (xs ys : List A) (i : ℕ) (x : A) → drop i xs ≡ drop i ys → drop (i + 1) (set xs i x) ≡ drop (i + 1) ys
same_past xs ys i x same =
    subst (λ n. drop n (set xs i x) ≡ drop n ys) (sym (add-one i))
    (past_set xs i x ∙ sym (next_dropped xs i) ∙ ap (drop 1) same ∙ next_dropped ys i)

-- the trees that were read are kept
kept_here : (trees : List (Option FactState)) (i q : ℕ) (t d : Option FactState) → t ≡ get_or trees i d → i < length trees → IsKeptWhere t
    → q ≡ i → IsKeptWhere (tree_at trees q)
kept_here trees i q t d is h kept same =
    subst (λ n. IsKeptWhere (tree_at trees n)) (sym same) (subst IsKeptWhere (is ∙ same_default trees i d None h) kept)

below : (q i : ℕ) → q < suc i → (q < i) ⊎ (q ≡ i)
below zero zero h = inr refl
below zero (suc i) h = inl (omega arith)
below (suc q) zero h = absurd (omega arith)
below (suc q) (suc i) h = elim (below q i (omega arith)) [ inl less ↦ inl (omega (arith, less)) | inr same ↦ inr (ap suc same) ]

pub kept_next : (trees : List (Option FactState)) (i : ℕ) (t d : Option FactState) → t ≡ get_or trees i d → i < length trees → IsKeptWhere t
    → ((q : ℕ) → q < i → IsKeptWhere (tree_at trees q)) → (q : ℕ) → q < i + 1 → IsKeptWhere (tree_at trees q)
kept_next trees i t d is h kept before q within = elim (below q i (omega arith)) [
  | inl less ↦ before q less
  | inr same ↦ kept_here trees i q t d is h kept same
]
