-- Equal trees, instructions and the like of one constructor hold equal parts, and those of two constructors aren't equal:
-- one lemma each, so that no proof within a long section searches for it.
use Rattle.std.proofs.Common.{◌≡◌, ℕ, List, ◌∷◌}
use Rattle.machine.specs.spark_base.declared.position.Pos.{Pos}
use Rattle.machine.specs.typed_tree.Trees.{TypedTree, NoMore, More, Name, Call as CallIn, Null as TypedNull}
use Rattle.machine.specs.flow_paths.Instructions.{Hold, Declare, Assign}
use Rattle.machine.specs.Evaluate.{Now, Done, Evaluated}
use Rattle.soundness.specs.OwnedWays.Ways.{Root, OfRoot}

pub more_first : {a b r q : TypedTree} → ◌≡◌ {A = TypedTree} (More a r) (More b q) → a ≡ b
more_first e = cc

pub more_rest : {a b r q : TypedTree} → ◌≡◌ {A = TypedTree} (More a r) (More b q) → r ≡ q
more_rest e = cc

pub more_none : {a r : TypedTree} → ◌≡◌ {A = TypedTree} (More a r) NoMore → ⊥
more_none e = cc

pub call_subs : {r q : Pos} {n k : ℕ} {a b : TypedTree} → ◌≡◌ {A = TypedTree} (CallIn r n a) (CallIn q k b) → n ≡ k
call_subs e = cc

pub call_actuals : {r q : Pos} {n k : ℕ} {a b : TypedTree} → ◌≡◌ {A = TypedTree} (CallIn r n a) (CallIn q k b) → a ≡ b
call_actuals e = cc

pub name_roots : {p q : Pos} {x y : ℕ} {a b : TypedTree} {t u : ℕ} → ◌≡◌ {A = TypedTree} (Name p x a t) (Name q y b u) → x ≡ y
name_roots e = cc

pub call_name : {r q : Pos} {n y t : ℕ} {a b : TypedTree} → ◌≡◌ {A = TypedTree} (CallIn r n a) (Name q y b t) → ⊥
call_name e = cc

pub name_call : {r q : Pos} {n y t : ℕ} {a b : TypedTree} → ◌≡◌ {A = TypedTree} (Name q y b t) (CallIn r n a) → ⊥
name_call e = cc

pub null_call : {r : Pos} {n : ℕ} {a : TypedTree} → ◌≡◌ {A = TypedTree} TypedNull (CallIn r n a) → ⊥
null_call e = cc

pub hold_same : {a b : TypedTree} → Hold a ≡ Hold b → a ≡ b
hold_same e = cc

pub declare_same : {x y : ℕ} {a b : TypedTree} → Declare x a ≡ Declare y b → a ≡ b
declare_same e = cc

pub assign_same : {k l a b : TypedTree} → Assign k a ≡ Assign l b → a ≡ b
assign_same e = cc

pub done_same : {A : Type 0} {a b : A} {m n : Now} → ◌≡◌ {A = Evaluated A} (Done a m) (Done b n) → a ≡ b
done_same e = cc

pub loc_roots : {a b : Root} → OfRoot a ≡ OfRoot b → a ≡ b
loc_roots e = cc

pub list_first : {A : Type 0} {a b : A} {xs ys : List A} → a ∷ xs ≡ b ∷ ys → a ≡ b
list_first e = cc
