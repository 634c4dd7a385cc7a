-- Points that use expressions, and the ends of scopes, by numbers.
use Rattle.std.proofs.Common.{◌≡◌, ℕ, suc, ◌+◌, Bool, true, false, List, [], ◌∷◌, ◌++◌, length, refl, ap, ◌∙◌, subst, append_assoc, arith, None}
use Rattle.std.specs.Prelude.{drop, if◌then◌else◌}
use Rattle.std.proofs.lemmas.List.{map-append}
use Rattle.spark_base.specs.declared.position.Pos.{Pos}
use Rattle.typed_tree.specs.Trees.{TypedTree}
use Rattle.flow_paths.specs.Instructions.{Instruction, EndScope, Finish}
use Rattle.flow_paths.specs.Names.{is_empty}
use Rattle.flow_paths.specs.Points.{Place, PointName, row_at, NamedPoint, point, entry, FlowPoint, flow_point}
use Rattle.flow_paths.specs.Prep.{with_held, prep}
use Rattle.flow_paths.specs.Layout as layout
use Rattle.flow_paths.specs.Layout.{Around, from, ends, closing, uses}
use Rattle.flow_paths.specs.Laid.{Temporary}
use Rattle.numbered_points.specs.Extents.{prep_size, filled_in}
use Rattle.numbered_points.specs.Prepared.{make, next_of, prepared}
use Rattle.numbered_points.specs.Statements.{ended, closed, used, used_both, unless_empty}
use Rattle.numbered_points.proofs.Fillings.{fills, Measured}
use Rattle.numbered_points.proofs.PrepMeasured.{prep_temporaries, prep_measured}
use Rattle.numbered_points.proofs.UsesMeasured.{ends_measured, last_measured, uses_measured, both_used}
use Rattle.numbered_points.proofs.Stands.{Plan, setting_of, numbers_of, made, Stands, stands_at, behind, front, chain, entry_next, entry_here}
use Rattle.numbered_points.proofs.PrepNumbers.{prep_made}

-- ---- ends of scopes

pub ends_made : (l : Plan) (at : Place) (r : ℕ) (p : Pos) (xs scope : List ℕ) (k : List PointName) (n t : ℕ)
    → Stands l n t (ends at r p xs scope k) → made l (ends at r p xs scope k) ≡ ended l.maker p xs n (numbers_of l k)
ends_made l at r p [] scope k n t s = refl
ends_made l at r p (x ∷ xs) scope k n t s =
    let rest : List NamedPoint = ends at (suc r) p xs (drop 1 (from x scope)) k in
    let next : numbers_of l (entry rest k) ≡ next_of (length xs) (n + 1) (numbers_of l k) =
    entry_next l (n + 1) (t + 0) (length xs) 0 rest [] k (ends_measured l.maker.frame.typing at (suc r) p xs (drop 1 (from x scope)) k) s.2 in
    let later : made l rest ≡ ended l.maker p xs (n + 1) (numbers_of l k) =
    ends_made l at (suc r) p xs (drop 1 (from x scope)) k (n + 1) (t + 0) s.2 in
    λ i. make l.maker p (EndScope x) (next i) ∷ later i

-- The ends of scopes, and the end of the call.
pub last_made : (l : Plan) (at : Place) (r : ℕ) (p : Pos) (xs scope : List ℕ) (x : PointName) (formals : List ℕ) (n t : ℕ)
    → Stands l n t (ends at r p xs scope (x ∷ []) ++ point x p Finish formals [] ∷ [])
    → made l (ends at r p xs scope (x ∷ []) ++ point x p Finish formals [] ∷ []) ≡ closed l.maker p xs n
last_made l at r p xs scope x formals n t s =
    chain l (ends at r p xs scope (x ∷ [])) (point x p Finish formals [] ∷ []) n t (length xs) 0 [] (ended l.maker p xs n ((n + length xs) ∷ []))
    (make l.maker p Finish [] ∷ []) (ends_measured l.maker.frame.typing at r p xs scope (x ∷ [])) s
    (λ a b. ends_made l at r p xs scope (x ∷ []) n t a ∙ ap (λ i. ended l.maker p xs n (i ∷ [])) b.0) (λ b. refl)

-- They begin with their first point.
pub last_begins : (l : Plan) (at : Place) (r : ℕ) (p : Pos) (xs scope : List ℕ) (x : PointName) (formals : List ℕ) (k : List PointName) (n t : ℕ)
    → Stands l n t (ends at r p xs scope (x ∷ []) ++ point x p Finish formals [] ∷ [])
    → numbers_of l (entry (ends at r p xs scope (x ∷ []) ++ point x p Finish formals [] ∷ []) k) ≡ n ∷ []
last_begins l at r p xs scope x formals k n t s =
    entry_next l n t (suc (length xs)) 0 (ends at r p xs scope (x ∷ []) ++ point x p Finish formals [] ∷ []) [] k
    (last_measured l.maker.frame.typing at r p p xs scope (x ∷ []) x Finish formals [] refl) s

-- ---- uses

pub uses_made : (l : Plan) (at : Place) (p : Pos) (e : TypedTree) (i : Instruction) (w : Around) (next : List PointName) (n t : ℕ)
    → Stands l n t (uses (setting_of l) at p e i w next)
    → made l (uses (setting_of l) at p e i w next) ≡ used l.maker p e i n t (numbers_of l next)
uses_made l at p e i w next n t s =
    chain l (prep (setting_of l) e (0 ∷ at) w.scope (row_at at 0 ∷ []))
    (point (row_at at 0) p i (with_held (setting_of l) e (0 ∷ at) w.scope) next ∷ []) n t (prep_size e) (filled_in e)
    (prep_temporaries l.maker.frame.typing e (0 ∷ at)) (prepared l.maker e n t ((n + prep_size e) ∷ [])) (make l.maker p i (numbers_of l next) ∷ [])
    (prep_measured (setting_of l) e (0 ∷ at) w.scope (row_at at 0 ∷ [])) s
    (λ a b. prep_made l e (0 ∷ at) w.scope (row_at at 0 ∷ []) n t a ∙ ap (λ j. prepared l.maker e n t (j ∷ [])) b.0) (λ b. refl)

-- A use begins with its first point.
pub uses_begin : (l : Plan) (at : Place) (p : Pos) (e : TypedTree) (i : Instruction) (w : Around) (next : List PointName) (n t : ℕ)
    → Stands l n t (uses (setting_of l) at p e i w next)
    → numbers_of l (entry (prep (setting_of l) e (0 ∷ at) w.scope (row_at at 0 ∷ [])) (row_at at 0 ∷ [])) ≡ n ∷ []
uses_begin l at p e i w next n t s =
    let ps : List NamedPoint = prep (setting_of l) e (0 ∷ at) w.scope (row_at at 0 ∷ []) in
    let row : List NamedPoint = point (row_at at 0) p i (with_held (setting_of l) e (0 ∷ at) w.scope) next ∷ [] in
    let ts : List Temporary = prep_temporaries l.maker.frame.typing e (0 ∷ at) in
    let h : Measured l.maker.frame.typing ps (prep_size e) (filled_in e) ts = prep_measured (setting_of l) e (0 ∷ at) w.scope (row_at at 0 ∷ []) in
    let b : Stands l (n + prep_size e) (t + filled_in e) row = behind l n t (prep_size e) (filled_in e) ps row ts h s in
    entry_here l n t (prep_size e) (filled_in e) ps ts (row_at at 0) h (front l n t ps row s) b.0

-- A use, and points after it. What follows may lead back to the use.
pub uses_then : (l : Plan) (at : Place) (p : Pos) (e : TypedTree) (i : Instruction) (w : Around) (next : List PointName) (qs : List NamedPoint)
    (n t : ℕ) (after : List ℕ) (ys : List FlowPoint) → fills l.maker.frame.typing i ≡ None
    → Stands l n t (uses (setting_of l) at p e i w next ++ qs)
    → (numbers_of l (entry (prep (setting_of l) e (0 ∷ at) w.scope (row_at at 0 ∷ [])) (row_at at 0 ∷ [])) ≡ n ∷ []
    → Stands l (n + prep_size e + 1) (t + filled_in e) qs → (numbers_of l next ≡ after) × (made l qs ≡ ys))
    → made l (uses (setting_of l) at p e i w next ++ qs) ≡ used l.maker p e i n t after ++ ys
uses_then l at p e i w next qs n t after ys none s f =
    let ps : List NamedPoint = uses (setting_of l) at p e i w next in
    let ts : List Temporary = prep_temporaries l.maker.frame.typing e (0 ∷ at) in
    let h : Measured l.maker.frame.typing ps (prep_size e + 1) (filled_in e) ts = uses_measured (setting_of l) at p e i w next none in
    let first : Stands l n t ps = front l n t ps qs s in
    let later : Stands l (n + prep_size e + 1) (t + filled_in e) qs =
    stands_at l (n + (prep_size e + 1)) (n + prep_size e + 1) (t + filled_in e) (t + filled_in e) qs (omega arith) refl
    (behind l n t (prep_size e + 1) (filled_in e) ps qs ts h s) in
    let both : (numbers_of l next ≡ after) × (made l qs ≡ ys) = f (uses_begin l at p e i w next n t first) later in
    let a : made l ps ≡ used l.maker p e i n t after = uses_made l at p e i w next n t first ∙ ap (λ ks. used l.maker p e i n t ks) both.0 in
    map-append (flow_point l.maker.frame l.number) ps qs ∙ (λ j. a j ++ both.1 j)

regroup : (l : Plan) (n t : ℕ) (ps qs rs : List NamedPoint) → Stands l n t (ps ++ qs ++ rs) → Stands l n t (ps ++ (qs ++ rs))
regroup l n t ps qs rs s = subst (λ zs. Stands l n t zs) (append_assoc ps qs rs) s

-- Two expressions and the point.
pub both_used_made : (l : Plan) (a : TypedTree) (pa : Place) (scope : List ℕ) (b : TypedTree) (pb : Place) (inner : List ℕ) (x : PointName)
    (p : Pos) (i : Instruction) (last : List ℕ) (next : List PointName) (n t : ℕ)
    → Stands l n t (both_used (setting_of l) a pa scope b pb inner x p i last next)
    → made l (both_used (setting_of l) a pa scope b pb inner x p i last next) ≡ used_both l.maker p a b i n t (numbers_of l next)
both_used_made l a pa scope b pb inner x p i last next n t s =
    let first : List NamedPoint = prep (setting_of l) a pa scope (entry (prep (setting_of l) b pb inner (x ∷ [])) (x ∷ [])) in
    let second : List NamedPoint = prep (setting_of l) b pb inner (x ∷ []) in
    let row : List NamedPoint = point x p i last next ∷ [] in
    let ts : List Temporary = prep_temporaries l.maker.frame.typing a pa in
    let us : List Temporary = prep_temporaries l.maker.frame.typing b pb in
    let h : Measured l.maker.frame.typing first (prep_size a) (filled_in a) ts = prep_measured (setting_of l) a pa scope (entry second (x ∷ [])) in
    let g : Measured l.maker.frame.typing second (prep_size b) (filled_in b) us = prep_measured (setting_of l) b pb inner (x ∷ []) in
    let both : Stands l n t (first ++ second) = front l n t (first ++ second) row s in
    let middle : Stands l (n + prep_size a) (t + filled_in a) second = behind l n t (prep_size a) (filled_in a) first second ts h both in
    let end : Stands l (n + prep_size a + prep_size b) (t + filled_in a + filled_in b) row =
    behind l (n + prep_size a) (t + filled_in a) (prep_size b) (filled_in b) second row us g
    (behind l n t (prep_size a) (filled_in a) first (second ++ row) ts h (regroup l n t first second row s)) in
    let one : made l first ≡ prepared l.maker a n t ((n + prep_size a) ∷ []) =
    prep_made l a pa scope (entry second (x ∷ [])) n t (front l n t first second both)
    ∙ ap (λ ks. prepared l.maker a n t ks)
    (entry_here l (n + prep_size a) (t + filled_in a) (prep_size b) (filled_in b) second us x g middle end.0) in
    let two : made l second ≡ prepared l.maker b (n + prep_size a) (t + filled_in a) ((n + prep_size a + prep_size b) ∷ []) =
    prep_made l b pb inner (x ∷ []) (n + prep_size a) (t + filled_in a) middle
    ∙ ap (λ j. prepared l.maker b (n + prep_size a) (t + filled_in a) (j ∷ [])) end.0 in
    map-append (flow_point l.maker.frame l.number) (first ++ second) row
    ∙ ap (λ zs. zs ++ made l row) (map-append (flow_point l.maker.frame l.number) first second)
    ∙ (λ j. one j ++ two j ++ made l row)

-- ---- successors

if_numbers : (l : Plan) (b : Bool) (k : List PointName) → numbers_of l (if b then [] else k) ≡ (if b then [] else numbers_of l k)
if_numbers l true k = refl
if_numbers l false k = refl

pub unless_numbers : (l : Plan) (e : TypedTree) (k : List PointName) → numbers_of l (layout.unless_empty e k) ≡ unless_empty e (numbers_of l k)
unless_numbers l e k = if_numbers l (is_empty e) k
