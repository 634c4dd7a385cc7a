-- How many points a use of expressions has, and the ends of scopes.
use Rattle.std.proofs.Common.{◌≡◌, ℕ, suc, ◌+◌, ◌*◌, List, [], ◌∷◌, ◌++◌, length, refl, arith, None}
use Rattle.std.specs.Prelude.{drop}
use Rattle.spark_base.specs.declared.position.Pos.{Pos}
use Rattle.typed_tree.specs.Trees.{TypedTree}
use Rattle.flow_paths.specs.Instructions.{Instruction, EndScope, Finish}
use Rattle.flow_paths.specs.Objects.{Typing}
use Rattle.flow_paths.specs.Points.{Place, PointName, row_at, NamedPoint, point, entry}
use Rattle.flow_paths.specs.Prep.{Setting, with_held, prep}
use Rattle.flow_paths.specs.Layout.{Around, from, ends, closing, uses}
use Rattle.numbered_points.specs.Extents.{prep_size, filled_in, extent, using, both}
use Rattle.numbered_points.proofs.Fillings.{fills, Measured, measured_none, measured_both, measured_row, measured_behind, measured_as}
use Rattle.numbered_points.proofs.PrepMeasured.{prep_temporaries, prep_measured}
use Rattle.numbered_points.proofs.Extents.{total, Extends, plain}

pub ends_measured : (s : Typing) (at : Place) (r : ℕ) (p : Pos) (xs scope : List ℕ) (k : List PointName) → Measured s (ends at r p xs scope k) (length xs) 0 []
ends_measured s at r p [] scope k = measured_none s
ends_measured s at r p (x ∷ xs) scope k =
    let rest : List NamedPoint = ends at (suc r) p xs (drop 1 (from x scope)) k in
    measured_as s (ends at r p (x ∷ xs) scope k) (1 + length xs) (suc (length xs)) 0 0 [] (omega arith) refl
    (measured_both s (point (row_at at r) p (EndScope x) (from x scope) (entry rest k) ∷ []) rest 1 (length xs) 0 0 [] []
    (measured_row s (row_at at r) p (EndScope x) (from x scope) (entry rest k) refl) (ends_measured s at (suc r) p xs (drop 1 (from x scope)) k))

-- The ends of scopes and a last point.
pub last_measured : (s : Typing) (at : Place) (r : ℕ) (p q : Pos) (xs scope : List ℕ) (k : List PointName) (x : PointName) (i : Instruction) (formals : List ℕ)
    (next : List PointName) → fills s i ≡ None → Measured s (ends at r p xs scope k ++ point x q i formals next ∷ []) (suc (length xs)) 0 []
last_measured s at r p q xs scope k x i formals next is =
    measured_as s (ends at r p xs scope k ++ point x q i formals next ∷ []) (length xs + 1) (suc (length xs)) 0 0 [] (omega arith) refl
    (measured_behind s (ends at r p xs scope k) (length xs) 0 [] x q i formals next is (ends_measured s at r p xs scope k))

pub closing_measured : (s : Typing) (at : Place) (r : ℕ) (p : Pos) (w : Around) → Measured s (closing at r p w) (suc (length w.in_all)) 0 []
closing_measured s at r p w =
    last_measured s at r p p w.in_all w.scope (row_at at (suc (length w.in_all)) ∷ []) (row_at at (suc (length w.in_all))) Finish w.formals [] refl

pub uses_measured : (s : Setting) (at : Place) (p : Pos) (e : TypedTree) (i : Instruction) (w : Around) (next : List PointName)
    → fills s.typing i ≡ None → Measured s.typing (uses s at p e i w next) (prep_size e + 1) (filled_in e) (prep_temporaries s.typing e (0 ∷ at))
uses_measured s at p e i w next is =
    measured_behind s.typing (prep s e (0 ∷ at) w.scope (row_at at 0 ∷ [])) (prep_size e) (filled_in e) (prep_temporaries s.typing e (0 ∷ at))
    (row_at at 0) p i (with_held s e (0 ∷ at) w.scope) next is (prep_measured s e (0 ∷ at) w.scope (row_at at 0 ∷ []))

-- Two expressions, the one at a place and then the other, and the point.
abbrev pub both_used : Setting → TypedTree → Place → List ℕ → TypedTree → Place → List ℕ → PointName → Pos → Instruction → List ℕ → List PointName → List NamedPoint
both_used s a pa scope b pb inner x p i behind next =
    prep s a pa scope (entry (prep s b pb inner (x ∷ [])) (x ∷ [])) ++ prep s b pb inner (x ∷ []) ++ point x p i behind next ∷ []

pub both_used_measured : (s : Setting) (a : TypedTree) (pa : Place) (scope : List ℕ) (b : TypedTree) (pb : Place) (inner : List ℕ) (x : PointName)
    (p : Pos) (i : Instruction) (behind : List ℕ) (next : List PointName) → fills s.typing i ≡ None
    → Measured s.typing (both_used s a pa scope b pb inner x p i behind next) (prep_size a + prep_size b + 1) (filled_in a + filled_in b)
    (prep_temporaries s.typing a pa ++ prep_temporaries s.typing b pb)
both_used_measured s a pa scope b pb inner x p i behind next is =
    let first : List NamedPoint = prep s a pa scope (entry (prep s b pb inner (x ∷ [])) (x ∷ [])) in
    let second : List NamedPoint = prep s b pb inner (x ∷ []) in
    measured_behind s.typing (first ++ second) (prep_size a + prep_size b) (filled_in a + filled_in b)
    (prep_temporaries s.typing a pa ++ prep_temporaries s.typing b pb) x p i behind next is
    (measured_both s.typing first second (prep_size a) (prep_size b) (filled_in a) (filled_in b) (prep_temporaries s.typing a pa) (prep_temporaries s.typing b pb)
    (prep_measured s a pa scope (entry second (x ∷ []))) (prep_measured s b pb inner (x ∷ [])))

-- The same as extents.
pub uses_extends : (s : Setting) (at : Place) (p : Pos) (e : TypedTree) (i : Instruction) (w : Around) (next : List PointName) (m n : ℕ)
    → fills s.typing i ≡ None → Extends s.typing (uses s at p e i w next) (using e 1) m n (prep_temporaries s.typing e (0 ∷ at))
uses_extends s at p e i w next m n is =
    plain s.typing (uses s at p e i w next) (prep_size e + 1) (filled_in e) m n (prep_temporaries s.typing e (0 ∷ at)) (uses_measured s at p e i w next is)

both_total : (a b i j : ℕ) → a + b + 1 ≡ a + 0 + (b + 1) + 0 * i + 0 * j
both_total a b i j = omega arith

pub both_used_extends : (s : Setting) (a : TypedTree) (pa : Place) (scope : List ℕ) (b : TypedTree) (pb : Place) (inner : List ℕ) (x : PointName)
    (p : Pos) (i : Instruction) (behind : List ℕ) (next : List PointName) (m n : ℕ) → fills s.typing i ≡ None
    → Extends s.typing (both_used s a pa scope b pb inner x p i behind next) (both (using a 0) (using b 1)) m n
    (prep_temporaries s.typing a pa ++ prep_temporaries s.typing b pb)
both_used_extends s a pa scope b pb inner x p i behind next m n is =
    measured_as s.typing (both_used s a pa scope b pb inner x p i behind next) (prep_size a + prep_size b + 1) (total (both (using a 0) (using b 1)) m n)
    (filled_in a + filled_in b) (filled_in a + filled_in b) (prep_temporaries s.typing a pa ++ prep_temporaries s.typing b pb)
    (both_total (prep_size a) (prep_size b) m n) refl (both_used_measured s a pa scope b pb inner x p i behind next is)

exit_total : (i j : ℕ) → i ≡ 0 + 1 * i + 0 * j
exit_total i j = omega arith

-- An exit that leaves has the ends of the scopes up to the loop.
pub exit_extends : (s : Typing) (at : Place) (r : ℕ) (p : Pos) (xs scope : List ℕ) (k : List PointName) (n : ℕ)
    → Extends s (ends at r p xs scope k) (extent 0 1 0 0) (length xs) n []
exit_extends s at r p xs scope k n =
    measured_as s (ends at r p xs scope k) (length xs) (total (extent 0 1 0 0) (length xs) n) 0 0 [] (exit_total (length xs) n) refl
    (ends_measured s at r p xs scope k)

return_total : (i j : ℕ) → suc j ≡ 1 + 0 * i + 1 * j
return_total i j = omega arith

pub return_extends : (s : Typing) (at : Place) (r : ℕ) (p : Pos) (w : Around) (m : ℕ) → Extends s (closing at r p w) (extent 1 0 1 0) m (length w.in_all) []
return_extends s at r p w m =
    measured_as s (closing at r p w) (suc (length w.in_all)) (total (extent 1 0 1 0) m (length w.in_all)) 0 0 [] (return_total m (length w.in_all)) refl
    (closing_measured s at r p w)

pub row_extends : (s : Typing) (x : PointName) (p : Pos) (i : Instruction) (scope : List ℕ) (next : List PointName) (m n : ℕ)
    → fills s i ≡ None → Extends s (point x p i scope next ∷ []) (extent 1 0 0 0) m n []
row_extends s x p i scope next m n is = plain s (point x p i scope next ∷ []) 1 0 m n [] (measured_row s x p i scope next is)
