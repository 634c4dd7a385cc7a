-- Leak checks of names that are too deep.
use Rattle.std.proofs.Common.{◌≡◌, ◌<◌, ℕ, Bool, true, false, ◌||◌, List, [], ◌∷◌, ◌++◌, map, length, IsTrue, ltb-true, lt-ltb, refl, sym, ap, ◌∙◌, subst, append-nil, append_assoc, arith}
use Rattle.std.proofs.lemmas.Grind.{common_steps}
use Rattle.spark_base.specs.declared.position.Pos.{Pos}
use Rattle.spark_base.specs.declared.limits.TheConstants.{SELECTORS}
use Rattle.place_names.specs.declared.selector.Sel.{Sel}
use Rattle.place_names.specs.Names.{Name, extend}
use Rattle.typed_tree.specs.declared.node.TypedNode.{TypedNode}
use Rattle.typed_tree.specs.declared.node.TypedNode.TheVariants as node
use Rattle.typed_tree.specs.Trees.{TypedTree}
use Rattle.typed_tree.specs.Nodes.{typed_of}
use Rattle.flow_paths.specs.declared.point.LeakSpot.{LeakSpot}
use Rattle.flow_paths.specs.Limits.{is_deep}
use Rattle.flow_paths.specs.Objects.{Typing, Passing}
use Rattle.flow_paths.specs.Acts.{call_spots, spot}
use Rattle.flow_acts.specs.Depths.{deep_spots}
use Rattle.flow_acts.proofs.Deep.{left_true, right_true}

-- One that is too deep.
pub spot_deep : (made rest all : List LeakSpot) (s : LeakSpot) → IsTrue (is_deep s.name) → made ++ s ∷ rest ≡ all → IsTrue (deep_spots all)
spot_deep made rest all s one is = subst (λ xs. IsTrue (deep_spots xs)) is (within made)
  where
    within : (made : List LeakSpot) → IsTrue (deep_spots (made ++ s ∷ rest))
    within [] = left_true (is_deep s.name) (deep_spots rest) one
    within (q ∷ made) = right_true (is_deep q.name) (deep_spots (made ++ s ∷ rest)) (within made)

-- What goes on from a name that is too deep is too deep.
longer : (m : Name) (q : List Sel) → IsTrue (is_deep m) → IsTrue (is_deep (extend m q))
longer m q e =
    let less : SELECTORS < length m.sels = ltb-true _ _ e in
    lt-ltb SELECTORS (length (m.sels ++ q)) (grind (arith, common_steps, less))

pub base_deep : (p : Pos) (m : Name) (before : ℕ) (qs : List (List Sel)) (made : List LeakSpot) → IsTrue (is_deep m) → (qs ≡ [] → ⊥)
    → IsTrue (deep_spots (made ++ map (spot p m before) qs))
base_deep p m before [] made e some = absurd (some refl)
base_deep p m before (q ∷ qs) made e some = spot_deep made (map (spot p m before) qs) _ (spot p m before q) (longer m q e) refl

in_front : (some rest : List LeakSpot) → IsTrue (deep_spots some) → IsTrue (deep_spots (some ++ rest))
in_front [] rest e = cc
in_front (q ∷ some) rest e = by (is_deep q.name) e (in_front some rest)
  where
    by : (b : Bool) → IsTrue (b || deep_spots some) → (IsTrue (deep_spots some) → IsTrue (deep_spots (some ++ rest))) → IsTrue (b || deep_spots (some ++ rest))
    by true e more = refl
    by false e more = more e

-- Some that are too deep, before others.
pub spots_deep : (made more rest all : List LeakSpot) → IsTrue (deep_spots (made ++ more)) → made ++ (more ++ rest) ≡ all → IsTrue (deep_spots all)
spots_deep made more rest all e is =
    subst (λ xs. IsTrue (deep_spots xs)) (append_assoc made more rest ∙ is) (in_front (made ++ more) rest e)

-- Where there are no more actuals there are no more leak checks.
pub call_spots_none : (s : Typing) (ways : List Passing) (tree : ℕ → TypedTree) (n : TypedNode) (before : ℕ)
    → ((a b : ℕ) → n ≡ node.More a b → ⊥) → call_spots s ways (typed_of tree n) before ≡ []
call_spots_none s [] tree n before none = refl
call_spots_none s (way ∷ ways) tree (node.Number v) before none = refl
call_spots_none s (way ∷ ways) tree (node.Literal v) before none = refl
call_spots_none s (way ∷ ways) tree node.Null before none = refl
call_spots_none s (way ∷ ways) tree (node.Text v) before none = refl
call_spots_none s (way ∷ ways) tree (node.Name p d a t) before none = refl
call_spots_none s (way ∷ ways) tree (node.Component i a) before none = refl
call_spots_none s (way ∷ ways) tree (node.Designated a) before none = refl
call_spots_none s (way ∷ ways) tree (node.Element a low high b) before none = refl
call_spots_none s (way ∷ ways) tree (node.Call p f a) before none = refl
call_spots_none s (way ∷ ways) tree node.EndOfFile before none = refl
call_spots_none s (way ∷ ways) tree (node.Parens a) before none = refl
call_spots_none s (way ∷ ways) tree (node.Image t a) before none = refl
call_spots_none s (way ∷ ways) tree (node.Unary op a) before none = refl
call_spots_none s (way ∷ ways) tree (node.Binary op a b) before none = refl
call_spots_none s (way ∷ ways) tree (node.Short op p a q b) before none = refl
call_spots_none s (way ∷ ways) tree (node.IsNull by a) before none = refl
call_spots_none s (way ∷ ways) tree (node.Aggregate t a) before none = refl
call_spots_none s (way ∷ ways) tree (node.Alike t a) before none = refl
call_spots_none s (way ∷ ways) tree (node.New t a) before none = refl
call_spots_none s (way ∷ ways) tree node.NoMore before none = refl
call_spots_none s (way ∷ ways) tree (node.More a b) before none = absurd (none a b refl)

pub no_spots_left : (made rest all : List LeakSpot) → rest ≡ [] → made ++ rest ≡ all → made ≡ all
no_spots_left made rest all e is = sym (append-nil made) ∙ ap (λ xs. made ++ xs) (sym e) ∙ is
