-- How many points come before a use, and which temporaries they fill.
use Rattle.std.proofs.Common.{◌≡◌, ℕ, ◌+◌, List, [], ◌∷◌, ◌++◌, refl, arith, Some, None}
use Rattle.std.specs.Prelude.{if◌then◌else◌}
use Rattle.spark_base.specs.declared.position.Pos.{Pos}
use Rattle.type_definitions.specs.Entries.{boolean}
use Rattle.typed_tree.specs.Trees.{TypedTree, Name, Component, Designated, Element, Call, Image, Parens, Unary, Binary, Short, IsNull, Aggregate, Alike, New, More}
use Rattle.flow_paths.specs.Instructions.{Instruction, Evaluate}
use Rattle.flow_paths.specs.Instructions as instruction
use Rattle.flow_paths.specs.Objects.{Typing, sub_at}
use Rattle.flow_paths.specs.Names.{has_call}
use Rattle.flow_paths.specs.Points.{Place, PointName, row_at, NamedPoint, point, entry}
use Rattle.flow_paths.specs.Prep.{Setting, with_held, prep}
use Rattle.flow_paths.specs.Laid.{Temporary, result_of}
use Rattle.numbered_points.specs.Extents.{prep_size, filled_in}
use Rattle.numbered_points.proofs.Fillings.{fills, Measured, temporary_at, measured_none, measured_both, measured_behind, measured_filling, measured_if, measured_as}

-- The temporaries that the points before a use fill, in their order.
unfoldable pub prep_temporaries : Typing → TypedTree → Place → List Temporary
prep_temporaries s (Call p sub actuals) at =
    prep_temporaries s actuals (0 ∷ at) ++ temporary_at at (result_of (sub_at s sub).result) ∷ []
prep_temporaries s (Short op p a q b) at =
    if has_call b then prep_temporaries s a (0 ∷ at) ++ temporary_at at boolean ∷ prep_temporaries s b (1 ∷ at)
    else prep_temporaries s a (0 ∷ at) ++ prep_temporaries s b (1 ∷ at)
prep_temporaries s (Binary op a b) at = prep_temporaries s a (0 ∷ at) ++ prep_temporaries s b (1 ∷ at)
prep_temporaries s (More a b) at = prep_temporaries s a (0 ∷ at) ++ prep_temporaries s b (1 ∷ at)
prep_temporaries s (Element a low high b) at = prep_temporaries s a (0 ∷ at) ++ prep_temporaries s b (1 ∷ at)
prep_temporaries s (Name p x e t) at = prep_temporaries s e (0 ∷ at)
prep_temporaries s (Component i e) at = prep_temporaries s e (0 ∷ at)
prep_temporaries s (Designated e) at = prep_temporaries s e (0 ∷ at)
prep_temporaries s (Image t e) at = prep_temporaries s e (0 ∷ at)
prep_temporaries s (Parens e) at = prep_temporaries s e (0 ∷ at)
prep_temporaries s (Unary op e) at = prep_temporaries s e (0 ∷ at)
prep_temporaries s (IsNull equal e) at = prep_temporaries s e (0 ∷ at)
prep_temporaries s (Aggregate t e) at = prep_temporaries s e (0 ∷ at)
prep_temporaries s (Alike t e) at = prep_temporaries s e (0 ∷ at)
prep_temporaries s (New t e) at = prep_temporaries s e (0 ∷ at)
prep_temporaries s _ at = []

-- A part, a point that fills a temporary, another part, and a point that fills none.
short_measured : (s : Typing) (at : Place) (p q : Pos) (i j : Instruction) (of : ℕ) (scope inner : List ℕ) (next behind : List PointName)
    (ps qs : List NamedPoint) (m n u v : ℕ) (ts us : List Temporary) (x : PointName) → fills s i ≡ Some of → fills s j ≡ None
    → Measured s ps m u ts → Measured s qs n v us
    → Measured s (ps ++ (point (row_at at 0) p i scope next ∷ (qs ++ point x q j inner behind ∷ [])))
    (m + 1 + (n + 1)) (u + 1 + v) (ts ++ temporary_at at of ∷ us)
short_measured s at p q i j of scope inner next behind ps qs m n u v ts us x is none h g =
    measured_as s _ (m + (1 + (n + 1))) (m + 1 + (n + 1)) (u + (1 + v)) (u + 1 + v) (ts ++ temporary_at at of ∷ us) (omega arith) (omega arith)
    (measured_both s ps (point (row_at at 0) p i scope next ∷ (qs ++ point x q j inner behind ∷ [])) m (1 + (n + 1)) u (1 + v) ts (temporary_at at of ∷ us) h
    (measured_both s (point (row_at at 0) p i scope next ∷ []) (qs ++ point x q j inner behind ∷ []) 1 (n + 1) 1 v (temporary_at at of ∷ []) us
    (measured_filling s at p i of scope next is)
    (measured_behind s qs n v us x q j inner behind none g)))

pub prep_measured : (s : Setting) (e : TypedTree) (at : Place) (scope : List ℕ) (k : List PointName)
    → Measured s.typing (prep s e at scope k) (prep_size e) (filled_in e) (prep_temporaries s.typing e at)
unfolding prep prep_size filled_in prep_temporaries
prep_measured s (Call p sub actuals) at scope k =
    measured_both s.typing (prep s actuals (0 ∷ at) scope (row_at at 0 ∷ []))
    (point (row_at at 0) p (instruction.Call sub actuals (Some (s.temporary at))) (with_held s actuals (0 ∷ at) scope) k ∷ [])
    (prep_size actuals) 1 (filled_in actuals) 1 (prep_temporaries s.typing actuals (0 ∷ at)) (temporary_at at (result_of (sub_at s.typing sub).result) ∷ [])
    (prep_measured s actuals (0 ∷ at) scope (row_at at 0 ∷ []))
    (measured_filling s.typing at p (instruction.Call sub actuals (Some (s.temporary at))) (result_of (sub_at s.typing sub).result)
    (with_held s actuals (0 ∷ at) scope) k refl)
prep_measured s (Short op p a q b) at scope k =
    let right : List NamedPoint = prep s b (1 ∷ at) (s.temporary at ∷ scope) (row_at at 1 ∷ []) in
    let behind : List NamedPoint = prep s b (1 ∷ at) (with_held s a (0 ∷ at) scope) k in
    measured_if s.typing (has_call b) _ _ (prep_size a + 1 + (prep_size b + 1)) (prep_size a + prep_size b)
    (filled_in a + 1 + filled_in b) (filled_in a + filled_in b)
    (prep_temporaries s.typing a (0 ∷ at) ++ temporary_at at boolean ∷ prep_temporaries s.typing b (1 ∷ at))
    (prep_temporaries s.typing a (0 ∷ at) ++ prep_temporaries s.typing b (1 ∷ at))
    (short_measured s.typing at p q (Evaluate (s.temporary at) a (Some op)) (Evaluate (s.temporary at) b None) boolean
    (with_held s a (0 ∷ at) scope) (with_held s b (1 ∷ at) (s.temporary at ∷ scope)) (entry right (row_at at 1 ∷ []) ++ k) k
    (prep s a (0 ∷ at) scope (row_at at 0 ∷ [])) right (prep_size a) (prep_size b) (filled_in a) (filled_in b)
    (prep_temporaries s.typing a (0 ∷ at)) (prep_temporaries s.typing b (1 ∷ at)) (row_at at 1) refl refl
    (prep_measured s a (0 ∷ at) scope (row_at at 0 ∷ [])) (prep_measured s b (1 ∷ at) (s.temporary at ∷ scope) (row_at at 1 ∷ [])))
    (measured_both s.typing (prep s a (0 ∷ at) scope (entry behind k)) behind (prep_size a) (prep_size b) (filled_in a) (filled_in b)
    (prep_temporaries s.typing a (0 ∷ at)) (prep_temporaries s.typing b (1 ∷ at))
    (prep_measured s a (0 ∷ at) scope (entry behind k)) (prep_measured s b (1 ∷ at) (with_held s a (0 ∷ at) scope) k))
prep_measured s (Binary op a b) at scope k =
    let behind : List NamedPoint = prep s b (1 ∷ at) (with_held s a (0 ∷ at) scope) k in
    measured_both s.typing (prep s a (0 ∷ at) scope (entry behind k)) behind (prep_size a) (prep_size b) (filled_in a) (filled_in b)
    (prep_temporaries s.typing a (0 ∷ at)) (prep_temporaries s.typing b (1 ∷ at))
    (prep_measured s a (0 ∷ at) scope (entry behind k)) (prep_measured s b (1 ∷ at) (with_held s a (0 ∷ at) scope) k)
prep_measured s (More a b) at scope k =
    let behind : List NamedPoint = prep s b (1 ∷ at) (with_held s a (0 ∷ at) scope) k in
    measured_both s.typing (prep s a (0 ∷ at) scope (entry behind k)) behind (prep_size a) (prep_size b) (filled_in a) (filled_in b)
    (prep_temporaries s.typing a (0 ∷ at)) (prep_temporaries s.typing b (1 ∷ at))
    (prep_measured s a (0 ∷ at) scope (entry behind k)) (prep_measured s b (1 ∷ at) (with_held s a (0 ∷ at) scope) k)
prep_measured s (Element a low high b) at scope k =
    let behind : List NamedPoint = prep s b (1 ∷ at) (with_held s a (0 ∷ at) scope) k in
    measured_both s.typing (prep s a (0 ∷ at) scope (entry behind k)) behind (prep_size a) (prep_size b) (filled_in a) (filled_in b)
    (prep_temporaries s.typing a (0 ∷ at)) (prep_temporaries s.typing b (1 ∷ at))
    (prep_measured s a (0 ∷ at) scope (entry behind k)) (prep_measured s b (1 ∷ at) (with_held s a (0 ∷ at) scope) k)
prep_measured s (Name p x e t) at scope k = prep_measured s e (0 ∷ at) scope k
prep_measured s (Component i e) at scope k = prep_measured s e (0 ∷ at) scope k
prep_measured s (Designated e) at scope k = prep_measured s e (0 ∷ at) scope k
prep_measured s (Image t e) at scope k = prep_measured s e (0 ∷ at) scope k
prep_measured s (Parens e) at scope k = prep_measured s e (0 ∷ at) scope k
prep_measured s (Unary op e) at scope k = prep_measured s e (0 ∷ at) scope k
prep_measured s (IsNull equal e) at scope k = prep_measured s e (0 ∷ at) scope k
prep_measured s (Aggregate t e) at scope k = prep_measured s e (0 ∷ at) scope k
prep_measured s (Alike t e) at scope k = prep_measured s e (0 ∷ at) scope k
prep_measured s (New t e) at scope k = prep_measured s e (0 ∷ at) scope k
prep_measured s _ at scope k = measured_none s.typing
