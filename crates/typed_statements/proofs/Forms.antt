-- Code that was made, put together of what was made for its parts.
use Rattle.std.proofs.Common.{◌≡◌, ℕ, ◌+◌, ◌<◌, Bool, ◌&&◌, nat_lt, List, [], ◌∷◌, ◌++◌, map, length, refl, sym, ap, ◌∙◌, arith, IsTrue, IfOk, OnOk, Ok, Err, Result}
use Rattle.std.specs.List.{All as Each}
use Rattle.std.specs.declared.alloc.AllocError.{AllocError}
use Rattle.spark_base.specs.declared.position.Pos.{Pos}
use Rattle.resolved_tree.specs.Trees.{Tree, Code}
use Rattle.resolved_tree.specs.Trees as resolved
use Rattle.resolved_tree.specs.declared.code_node.CodeNode.{CodeNode}
use Rattle.resolved_tree.specs.declared.code_node.CodeNode.TheVariants as code_node
use Rattle.resolved_tree.specs.Nodes.{is_code_below}
use Rattle.type_definitions.specs.Gathered.{declared_number, declared_pos, indicated}
use Rattle.type_definitions.specs.Declarations.{first_number}
use Rattle.typed_tree.specs.Trees.{TypedTree, TypedCode, Declare, For, typed_code_list}
use Rattle.typed_tree.specs.Nodes.{TypedNodes, typed_code_at, Grew, HoldsCode, HoldsAllCode}
use Rattle.typed_tree.specs.Expressions.{Site, object_number, typed_optional}
use Rattle.typed_tree.specs.Statements.{plain_statements, statements, typed_object, typed_objects, typed_range}
use Rattle.typed_statements.proofs.Lists.{added_on}
use Rattle.typed_statements.specs.Made.{is_compound, HoldsOne}

-- The rest of a list stands before it.
pub more_below : (m i : ℕ) (node : CodeNode) (first rest : ℕ) → node ≡ code_node.More first rest → IsTrue (is_code_below m i node) → rest < i
more_below m i node first rest is below =
    let both : IsTrue (nat_lt first i && nat_lt rest i) = rw is at below in
    grind (arith, both)

-- What is made is this, too.
pub code_is : (rows : TypedNodes) (r : Result ℕ AllocError) (a b : TypedCode) → a ≡ b → IfOk r (λ n. HoldsCode rows n a)
    → IfOk r (λ n. HoldsCode rows n b)
code_is rows r a b is holds = rw (sym is) holds

pub object_made : (s : Site) (value : TypedTree) (d : Code) (p : Pos) (n k : ℕ) → p ≡ declared_pos d → n ≡ declared_number d
    → k ≡ object_number s n → Declare p k value ≡ typed_object s value d
object_made s value d p n k place number object = rw place (rw object (rw number refl))

-- The value of a declaration is the same one.
pub object_same : (rows : TypedNodes) (n : ℕ) (s : Site) (value same : TypedTree) (d : Code) → value ≡ same → HoldsCode rows n (typed_object s value d)
    → HoldsCode rows n (typed_object s same d)
object_same rows n s value same d is holds = (holds.0, holds.1 ∙ ap (λ v. typed_object s v d) is)

-- Objects follow what was there before their value was.
pub objects_behind : (r : Result Unit AllocError) (before middle now : TypedNodes) (made more : List ℕ) (s : Site) (ids : Code) (value same : TypedTree)
    → Grew before middle → Each (λ k. k < length before.1) made → value ≡ same
    → OnOk r (HoldsAllCode now more (map (typed_code_at middle) made ++ typed_objects s ids value))
    → OnOk r (HoldsAllCode now more (map (typed_code_at before) made ++ typed_objects s ids same))
objects_behind (Ok done) before middle now made more s ids value same g within is holds =
    rw (sym is) (added_on before middle now made more (typed_objects s ids value) g within holds)
objects_behind (Err e) before middle now made more s ids value same g within is holds = tt

pub plain_objects : (r : Result Unit AllocError) (now : TypedNodes) (more : List ℕ) (front : List TypedCode) (s : Site) (code ids : Code) (constant : Bool) (i : Code)
    (v : Tree) → code ≡ resolved.Objects ids constant i v
    → OnOk r (HoldsAllCode now more (front ++ typed_objects s ids (typed_optional s (indicated s.context.known (first_number ids) i) v)))
    → OnOk r (HoldsAllCode now more (front ++ plain_statements s code))
plain_objects r now more front s code ids constant i v is holds = rw is holds

pub for_made : (s : Site) (p : Pos) (d : Code) (reverse : Bool) (both : TypedTree × TypedTree) (low high : TypedTree) (stmts body : TypedCode) (n k : ℕ)
    → n ≡ declared_number d → k ≡ object_number s n → low ≡ both.0 → high ≡ both.1 → stmts ≡ body
    → For p k reverse low high stmts ≡ For p (object_number s (declared_number d)) reverse both.0 both.1 body
for_made s p d reverse both low high stmts body n k number object first last is =
    rw object (rw first (rw last (rw is (rw number refl))))

-- A loop is all that its code means.
pub for_one : (rows : TypedNodes) (r : Result ℕ AllocError) (s : Site) (n : ℕ) (p : Pos) (d : Code) (reverse : Bool) (range stmts code : Code)
    → code ≡ resolved.For p d reverse range stmts
    → IfOk r (λ k. HoldsCode rows k
    (For p (object_number s (declared_number d)) reverse (typed_range s range).0 (typed_range s range).1 (typed_code_list (statements s (n + 1) stmts))))
    → IfOk r (λ k. HoldsOne rows k (is_compound code) (statements s n code))
unfolding statements
for_one rows (Ok k) s n p d reverse range stmts code is holds = (holds.0, λ compound. rw is (ap (λ c. c ∷ []) (sym holds.1)))
for_one rows (Err e) s n p d reverse range stmts code is holds = tt
