-- The points before one that uses an expression lead on among themselves, or to what follows.
use Rattle.std.proofs.Common.{ℕ, List, [], ◌∷◌, ◌++◌, Some, None}
use Rattle.typed_tree.specs.Trees.{TypedTree, Name, Component, Designated, Element, Call, Image, Parens, Unary, Binary, Short, IsNull, Aggregate, Alike, New, More}
use Rattle.flow_paths.specs.Instructions.{Evaluate}
use Rattle.flow_paths.specs.Names.{has_call}
use Rattle.flow_paths.specs.Points.{Place, PointName, row_at, NamedPoint, point, entry}
use Rattle.flow_paths.specs.Prep.{Setting, with_held, prep}
use Rattle.laid_program.proofs.Named.{AreIn, AreNamed, Lead, in_append, named_front, named_back, entry_in, two_lead, row_lead, chosen_lead}

pub prep_lead : (names : List PointName) (s : Setting) (e : TypedTree) (at : Place) (scope : List ℕ) (k : List PointName) → AreIn names k
    → AreNamed names (prep s e at scope k) → Lead names (prep s e at scope k)
unfolding prep
prep_lead names s (Call p sub actuals) at scope k kk =
    row_lead names (prep s actuals (0 ∷ at) scope (row_at at 0 ∷ [])) _
    (λ own. prep_lead names s actuals (0 ∷ at) scope (row_at at 0 ∷ []) own) kk
prep_lead names s (Short op p a q b) at scope k kk =
    let right : List NamedPoint = prep s b (1 ∷ at) (s.temporary at ∷ scope) (row_at at 1 ∷ []) in
    let first : NamedPoint =
    point (row_at at 0) p (Evaluate (s.temporary at) a (Some op)) (with_held s a (0 ∷ at) scope) (entry right (row_at at 1 ∷ []) ++ k) in
    let second : NamedPoint = point (row_at at 1) q (Evaluate (s.temporary at) b None) (with_held s b (1 ∷ at) (s.temporary at ∷ scope)) k in
    let behind : List NamedPoint = prep s b (1 ∷ at) (with_held s a (0 ∷ at) scope) k in
    chosen_lead names (has_call b) (prep s a (0 ∷ at) scope (row_at at 0 ∷ []) ++ (first ∷ (right ++ second ∷ [])))
    (prep s a (0 ∷ at) scope (entry behind k) ++ behind)
    (two_lead names (prep s a (0 ∷ at) scope (row_at at 0 ∷ [])) (first ∷ (right ++ second ∷ []))
    (λ own. prep_lead names s a (0 ∷ at) scope (row_at at 0 ∷ []) (own.0, tt))
    (λ own. (
      in_append names (entry right (row_at at 1 ∷ [])) k
          (entry_in names right (row_at at 1 ∷ []) (named_front names right (second ∷ []) own.1) (named_back names right (second ∷ []) own.1)) kk,
      row_lead names right second (λ last. prep_lead names s b (1 ∷ at) (s.temporary at ∷ scope) (row_at at 1 ∷ []) last) kk own.1,
    )))
    (two_lead names (prep s a (0 ∷ at) scope (entry behind k)) behind
    (λ back. prep_lead names s a (0 ∷ at) scope (entry behind k) (entry_in names behind k back kk))
    (prep_lead names s b (1 ∷ at) (with_held s a (0 ∷ at) scope) k kk))
prep_lead names s (Binary op a b) at scope k kk =
    let behind : List NamedPoint = prep s b (1 ∷ at) (with_held s a (0 ∷ at) scope) k in
    two_lead names (prep s a (0 ∷ at) scope (entry behind k)) behind
    (λ back. prep_lead names s a (0 ∷ at) scope (entry behind k) (entry_in names behind k back kk))
    (prep_lead names s b (1 ∷ at) (with_held s a (0 ∷ at) scope) k kk)
prep_lead names s (More a b) at scope k kk =
    let behind : List NamedPoint = prep s b (1 ∷ at) (with_held s a (0 ∷ at) scope) k in
    two_lead names (prep s a (0 ∷ at) scope (entry behind k)) behind
    (λ back. prep_lead names s a (0 ∷ at) scope (entry behind k) (entry_in names behind k back kk))
    (prep_lead names s b (1 ∷ at) (with_held s a (0 ∷ at) scope) k kk)
prep_lead names s (Element a low high b) at scope k kk =
    let behind : List NamedPoint = prep s b (1 ∷ at) (with_held s a (0 ∷ at) scope) k in
    two_lead names (prep s a (0 ∷ at) scope (entry behind k)) behind
    (λ back. prep_lead names s a (0 ∷ at) scope (entry behind k) (entry_in names behind k back kk))
    (prep_lead names s b (1 ∷ at) (with_held s a (0 ∷ at) scope) k kk)
prep_lead names s (Name p x steps t) at scope k kk = prep_lead names s steps (0 ∷ at) scope k kk
prep_lead names s (Component i rest) at scope k kk = prep_lead names s rest (0 ∷ at) scope k kk
prep_lead names s (Designated rest) at scope k kk = prep_lead names s rest (0 ∷ at) scope k kk
prep_lead names s (Image t e) at scope k kk = prep_lead names s e (0 ∷ at) scope k kk
prep_lead names s (Parens e) at scope k kk = prep_lead names s e (0 ∷ at) scope k kk
prep_lead names s (Unary op e) at scope k kk = prep_lead names s e (0 ∷ at) scope k kk
prep_lead names s (IsNull equal e) at scope k kk = prep_lead names s e (0 ∷ at) scope k kk
prep_lead names s (Aggregate t parts) at scope k kk = prep_lead names s parts (0 ∷ at) scope k kk
prep_lead names s (Alike t e) at scope k kk = prep_lead names s e (0 ∷ at) scope k kk
prep_lead names s (New t v) at scope k kk = prep_lead names s v (0 ∷ at) scope k kk
prep_lead names s _ at scope k kk = λ named. tt
