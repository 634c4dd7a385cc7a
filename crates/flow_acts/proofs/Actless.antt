-- What marks say of acts.
use Rattle.std.proofs.Common.{◌≡◌, ◌<◌, ◌≤◌, ℕ, Bool, true, false, ◌&&◌, List, [], ◌∷◌, ◌++◌, length, length-append, ◌+◌, get_or, refl, sym, ap, ◌∙◌, arith, ltb-true, nat_lt}
use Rattle.std.specs.Prelude.{if◌then◌else◌}
use Rattle.std.proofs.lemmas.List.{get_or_append_left}
use Rattle.std.proofs.Math.Seq.{get_or-append_seam}
use Rattle.place_names.specs.declared.act.Placed.{Placed}
use Rattle.typed_tree.specs.declared.node.TypedNode.{TypedNode}
use Rattle.typed_tree.specs.declared.node.TypedNode.TheVariants as node
use Rattle.typed_tree.specs.Trees.{TypedTree}
use Rattle.typed_tree.specs.Nodes.{TypedNodes, typed_of, typed_at}
use Rattle.flow_paths.specs.Objects.{Typing}
use Rattle.flow_paths.specs.Names.{has_call}
use Rattle.flow_paths.specs.Acts.{acts_in}
use Rattle.flow_acts.specs.Actless.{node_is_actless, AreActless}
use Rattle.flow_acts.proofs.Reading.{past}

-- A tree without acts.
abbrev IsActless : TypedTree → Type 0
IsActless e = (s : Typing) → acts_in s e ≡ []

first_true : (a b : Bool) → (a && b) ≡ true → a ≡ true
first_true true b e = refl
first_true false b e = e

second_true : (a b : Bool) → (a && b) ≡ true → b ≡ true
second_true true b e = e
second_true false b e = absurd (cc e)

none_of_two : (xs ys : List Placed) → xs ≡ [] → ys ≡ [] → xs ++ ys ≡ []
none_of_two xs ys e f = λ i. e i ++ f i

none_of_either : (b : Bool) (xs : List Placed) → xs ≡ [] → (if b then [] else xs) ≡ []
none_of_either true xs e = refl
none_of_either false xs e = e

-- A node has no acts where its parts say so.
node_actless : (tree : ℕ → TypedTree) (actless : ℕ → Bool) (n : TypedNode)
    → ((i : ℕ) → actless i ≡ true → IsActless (tree i))
    → node_is_actless actless n ≡ true → IsActless (typed_of tree n)
unfolding acts_in
node_actless tree actless (node.Number v) parts is s = refl
node_actless tree actless (node.Literal v) parts is s = refl
node_actless tree actless node.Null parts is s = refl
node_actless tree actless (node.Text v) parts is s = refl
node_actless tree actless (node.Name p d a t) parts is s = absurd (cc is)
node_actless tree actless (node.Component i a) parts is s = parts a is s
node_actless tree actless (node.Designated a) parts is s = parts a is s
node_actless tree actless (node.Element a low high b) parts is s =
    none_of_two _ _ (parts a (first_true (actless a) (actless b) is) s) (parts b (second_true (actless a) (actless b) is) s)
node_actless tree actless (node.Call p f a) parts is s = refl
node_actless tree actless node.EndOfFile parts is s = refl
node_actless tree actless (node.Parens a) parts is s = parts a is s
node_actless tree actless (node.Image t a) parts is s = parts a is s
node_actless tree actless (node.Unary op a) parts is s = parts a is s
node_actless tree actless (node.Binary op a b) parts is s =
    none_of_two _ _ (parts a (first_true (actless a) (actless b) is) s) (parts b (second_true (actless a) (actless b) is) s)
node_actless tree actless (node.Short op p a q b) parts is s =
    none_of_either (has_call (tree b)) _
    (none_of_two _ _ (parts a (first_true (actless a) (actless b) is) s) (parts b (second_true (actless a) (actless b) is) s))
node_actless tree actless (node.IsNull equal a) parts is s = absurd (cc is)
node_actless tree actless (node.Aggregate t a) parts is s = parts a is s
node_actless tree actless (node.Alike t a) parts is s = parts a is s
node_actless tree actless (node.New t a) parts is s = parts a is s
node_actless tree actless node.NoMore parts is s = refl
node_actless tree actless (node.More a b) parts is s =
    none_of_two _ _ (parts a (first_true (actless a) (actless b) is) s) (parts b (second_true (actless a) (actless b) is) s)

-- One more mark.
actless_on : (rows : TypedNodes) (marks : List Bool) (mark : Bool) → AreActless rows marks
    → (mark ≡ true → IsActless (typed_at rows (length marks))) → AreActless rows (marks ++ mark ∷ [])
actless_on rows marks mark all here i is = at_one (nat_lt i (length marks)) (nat_lt (length marks) i) refl refl
  where
    at_one : (before behind : Bool) → nat_lt i (length marks) ≡ before → nat_lt (length marks) i ≡ behind → IsActless (typed_at rows i)
    at_one true behind e f =
        all i (sym (get_or_append_left marks (mark ∷ []) false i (ltb-true _ _ e)) ∙ is)
    at_one false true e f =
        let less : length marks < i = ltb-true _ _ f in
        let long : length (marks ++ mark ∷ []) ≡ length marks + 1 = length-append marks (mark ∷ []) in
        let more : length (marks ++ mark ∷ []) ≤ i = omega (arith, less, long) in
        absurd (cc (sym (past (marks ++ mark ∷ []) i false more) ∙ is))
    at_one false false e f =
        let last : i ≡ length marks = grind (arith, e, f) in
        rw last (here (sym (get_or-append_seam marks mark [] false) ∙ (rw (sym last) is)))

pub actless_none : (rows : TypedNodes) → AreActless rows []
actless_none rows i is s = absurd (cc is)

-- The mark of one more node.
pub actless_step : (rows : TypedNodes) (marks : List Bool) (k : ℕ) (n : TypedNode) (mark : Bool) → length marks ≡ k → AreActless rows marks
    → typed_at rows k ≡ typed_of (typed_at rows) n → mark ≡ node_is_actless (λ i. get_or marks i false) n
    → AreActless rows (marks ++ mark ∷ [])
actless_step rows marks k n mark long all is told =
    actless_on rows marks mark all
    (λ told_so s. ap (λ i. acts_in s (typed_at rows i)) long ∙ ap (acts_in s) is
    ∙ node_actless (typed_at rows) (λ i. get_or marks i false) n all (sym told ∙ told_so) s)
