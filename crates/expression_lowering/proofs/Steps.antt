-- One more in front of what is made of a list, or after its first ones.
use Rattle.std.proofs.Common.{◌≡◌, ℕ, suc, zero, ◌+◌, ◌<◌, Some, if◌then◌else◌, List, [], ◌∷◌, drop, map, length, refl, arith, get_or}
use Rattle.std.proofs.Math.Seq.{drop-cons}
use Rattle.spark_base.specs.declared.position.Pos.{Pos}
use Rattle.ada_tree.specs.declared.expression.NextArg.{NextArg}
use Rattle.resolved_tree.specs.declared.operator.Operator.{Operator}
use Rattle.resolved_tree.specs.Trees.{Tree, Code, Binary, More, list_of, code_list}
use Rattle.name_events.specs.declared.declaration.Identified.{Identified}
use Rattle.name_events.specs.Identified.{number_at, same_position}
use Rattle.expression_lowering.specs.LoweredExpressions.{Numbers, chained, further_args, next_arg_before}

drop_map : {A B : Type 0} (f : A → B) (parts : List A) (i : ℕ) → drop i (map f parts) ≡ map f (drop i parts)
drop_map f parts zero = refl
drop_map f [] (suc i) = refl
drop_map f (a ∷ parts) (suc i) = drop_map f parts i

pub list_step : {A : Type 0} (f : A → Tree) (parts : List A) (i j : ℕ) (d : A) → i < length parts → j ≡ i + 1
    → list_of (drop i (map f parts)) ≡ More (f (get_or parts i d)) (list_of (drop j (map f parts)))
list_step f parts i j d lt e =
    let e : j ≡ suc i = omega (arith, e) in
    rw (drop_map f parts i, drop_map f parts j, drop-cons parts i d lt) (rw e refl)

pub code_step : {A : Type 0} (f : A → Code) (parts : List A) (i j : ℕ) (d : A) → i < length parts → j ≡ i + 1
    → code_list (map f (drop i parts)) ≡ More (f (get_or parts i d)) (code_list (map f (drop j parts)))
code_step f parts i j d lt e =
    let e : j ≡ suc i = omega (arith, e) in
    rw (drop-cons parts i d lt) (rw e refl)

pub args_step : (numbers : Numbers) (parts : List NextArg) (i j : ℕ) (d : NextArg) → i < length parts → j ≡ i + 1
    → further_args numbers (drop i parts) ≡ next_arg_before numbers (further_args numbers (drop j parts)) (get_or parts i d)
args_step numbers parts i j d lt e =
    let e : j ≡ suc i = omega (arith, e) in
    rw (drop-cons parts i d lt) (rw e refl)

pub chain_step : {A : Type 0} (pos : Pos) (left : Tree) (f : A → Operator × Tree) (parts : List A) (i j : ℕ) (d : A) → i < length parts → j ≡ i + 1
    → chained pos left (map f (drop i parts)) ≡ chained pos (Binary pos (f (get_or parts i d)).0 left (f (get_or parts i d)).1) (map f (drop j parts))
chain_step pos left f parts i j d lt e =
    let e : j ≡ suc i = omega (arith, e) in
    rw (drop-cons parts i d lt) (rw e refl)

pub number_step : (numbers : Numbers) (i j : ℕ) (d : Identified) (pos : Pos) → i < length numbers → j ≡ i + 1
    → number_at (drop i numbers) pos
    ≡ (if same_position (get_or numbers i d).pos pos then Some (get_or numbers i d).number else number_at (drop j numbers) pos)
number_step numbers i j d pos lt e =
    let e : j ≡ suc i = omega (arith, e) in
    rw (drop-cons numbers i d lt) (rw e refl)
