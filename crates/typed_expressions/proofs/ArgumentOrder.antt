-- Values of arguments, and their order.
use Rattle.std.proofs.Common.{◌≡◌, ℕ, zero, suc, ◌+◌, ◌<◌, Bool, true, false, if◌then◌else◌, List, [], ◌∷◌, ◌++◌, map, length, get_or, Some, None, is_some, refl, ap, ◌∙◌, subst, sym, arith}
use Rattle.std.specs.List.{All as Each}
use Rattle.std.proofs.lemmas.Grind.{common_steps}
use Rattle.std.proofs.lemmas.List.Elements.{All-head, All-tail, All-push, All-weaker}
use Rattle.resolved_tree.specs.Trees.{Tree, Applied, Argument, More}
use Rattle.type_definitions.specs.Names.{Context}
use Rattle.type_definitions.specs.Expressions.{Given, given_names, all_by_position, role_type}
use Rattle.type_definitions.specs.declared.judgement.Role.{Role}
use Rattle.typed_tree.specs.Trees.{TypedTree, typed_list}
use Rattle.typed_tree.specs.Trees as typed
use Rattle.typed_tree.specs.Nodes.{TypedNodes, typed_at, Grew, Holds, HoldsAll}
use Rattle.type_definitions.specs.declared.judgement.Role.TheVariants as role
use Rattle.type_definitions.specs.Entries.{integer}
use Rattle.typed_tree.specs.Expressions.{Site, arguments_given, has_name, named_value, role_names, typed_actuals, typed_expression, typed_first, typed_imaged, typed_values}
use Rattle.expression_types.specs.Formals.{is_given}
use Rattle.expression_types.specs.Occurrences.{Entries, Indexes, occurrence, occurs}
use Rattle.typed_expressions.specs.Arguments.{named_number, number_at}

holds_if : (to : TypedNodes) (b : Bool) (k n : ℕ) (t u : TypedTree) → Holds to k t → Holds to n u
    → Holds to (if b then k else n) (if b then t else u)
holds_if to true k n t u here there = here
holds_if to false k n t u here there = there

named_one : (to : TypedNodes) (other : ℕ) (w : List ℕ) (given : List Given) (numbers : List ℕ)
    → Each (λ i. i < length to.0) numbers → Holds to other typed.Null
    → Holds to (named_number other w given numbers) (named_value w given (map (typed_at to) numbers))
named_one to other w [] numbers all null = null
named_one to other w (g ∷ given) [] all null = null
named_one to other w (g ∷ given) (k ∷ numbers) all null =
    holds_if to (has_name w g) k (named_number other w given numbers) (typed_at to k) (named_value w given (map (typed_at to) numbers))
    (All-head (λ i. i < length to.0) k numbers all, refl)
    (named_one to other w given numbers (All-tail (λ i. i < length to.0) k numbers all) null)

each_named : (to : TypedNodes) (other : ℕ) (given : List Given) (numbers : List ℕ) (names : List (List ℕ))
    → Each (λ i. i < length to.0) numbers → Holds to other typed.Null
    → HoldsAll to (map (λ w. named_number other w given numbers) names) (map (λ w. named_value w given (map (typed_at to) numbers)) names)
each_named to other given numbers [] all null = (λ k d lt. absurd (omega (arith, lt)), refl)
each_named to other given numbers (w ∷ names) all null =
    let one = named_one to other w given numbers all null in
    let rest = each_named to other given numbers names all null in (
      each_more (λ i. i < length to.0) (named_number other w given numbers) (map (λ w. named_number other w given numbers) names) one.0 rest.0,
      ap (λ t. t ∷ map (typed_at to) (map (λ w. named_number other w given numbers) names)) one.1
          ∙ ap (λ ts. named_value w given (map (typed_at to) numbers) ∷ ts) rest.1,
    )
  where
    each_more : (P : ℕ → Type 0) (k : ℕ) (ks : List ℕ) → P k → Each P ks → Each P (k ∷ ks)
    each_more P k ks here there zero d lt = here
    each_more P k ks here there (suc i) d lt = there i d (grind (arith, common_steps, lt))

map_same : (f g : ℕ → TypedTree) (n : ℕ) (parts : List ℕ) → ((i : ℕ) → i < n → f i ≡ g i) → Each (λ i. i < n) parts
    → map f parts ≡ map g parts
map_same f g n [] same all = refl
map_same f g n (p ∷ rest) same all =
    ap (λ t. t ∷ map f rest) (same p (All-head (λ i. i < n) p rest all))
    ∙ ap (λ ts. g p ∷ ts) (map_same f g n rest same (All-tail (λ i. i < n) p rest all))

-- The numbers in the order of the names stand for the values in that order.
pub named_in_order : (old new : TypedNodes) (other : ℕ) (given : List Given) (numbers parts : List ℕ) (names : List (List ℕ)) → Grew old new
    → Each (λ i. i < length old.0) numbers → Holds new other typed.Null → parts ≡ map (λ w. named_number other w given numbers) names
    → HoldsAll new parts (map (λ w. named_value w given (map (typed_at old) numbers)) names)
named_in_order old new other given numbers parts names g all null is =
    let longer = All-weaker (λ i. i < length old.0) (λ i. i < length new.0) (λ i lt. omega (arith, lt, g.more_trees)) numbers all in
    let there = each_named new other given numbers names longer null in
    let same = map_same (typed_at new) (typed_at old) (length old.0) numbers g.same_trees all in
    rw is (subst (λ vs. HoldsAll new (map (λ w. named_number other w given numbers) names) (map (λ w. named_value w given vs) names)) same there)

-- ---- the values as they are made

map_end : (f : ℕ → TypedTree) (parts : List ℕ) (n : ℕ) → map f (parts ++ n ∷ []) ≡ map f parts ++ f n ∷ []
map_end f [] n = refl
map_end f (p ∷ rest) n = ap (λ ts. f p ∷ ts) (map_end f rest n)

behind_one : (xs ys : List TypedTree) (x : TypedTree) → (xs ++ x ∷ []) ++ ys ≡ xs ++ x ∷ ys
behind_one [] ys x = refl
behind_one (a ∷ xs) ys x = ap (λ ts. a ∷ ts) (behind_one xs ys x)

-- Those before are still there, and the next one follows them.
values_step : (before now : TypedNodes) (made : List ℕ) (k : ℕ) (v : TypedTree) (behind all : List TypedTree) → Grew before now
    → Each (λ i. i < length before.0) made → map (typed_at before) made ++ v ∷ behind ≡ all → Holds now k v
    → Each (λ i. i < length now.0) (made ++ k ∷ []) × (map (typed_at now) (made ++ k ∷ []) ++ behind ≡ all)
values_step before now made k v behind all g within is one = (
  All-push (λ i. i < length now.0) made k
      (All-weaker (λ i. i < length before.0) (λ i. i < length now.0) (λ i lt. omega (arith, lt, g.more_trees)) made within) one.0,
  ap (λ ts. ts ++ behind) (map_end (typed_at now) made k)
      ∙ behind_one (map (typed_at now) made) behind (typed_at now k)
      ∙ ap (λ t. map (typed_at now) made ++ t ∷ behind) one.1
      ∙ ap (λ ts. ts ++ v ∷ behind) (map_same (typed_at now) (typed_at before) (length before.0) made g.same_trees within)
      ∙ is,
)

values_Argument : (s : Site) (r : Role) (n : ℕ) (w : Given) (e rest tree : Tree) → tree ≡ Argument w e rest
    → typed_values s r n tree ≡ typed_expression s (role_type s.context r n w) e ∷ typed_values s r (n + 1) rest
unfolding typed_values
values_Argument s r n w e rest tree is = rw is refl

-- One more argument.
pub values_on : (s : Site) (r : Role) (before now : TypedNodes) (made more : List ℕ) (k n m want : ℕ) (w : Given) (e rest tree : Tree)
    (all : List TypedTree) → Grew before now → Each (λ i. i < length before.0) made
    → map (typed_at before) made ++ typed_values s r n tree ≡ all → tree ≡ Argument w e rest → m ≡ n + 1
    → want ≡ role_type s.context r n w → Holds now k (typed_expression s want e) → more ≡ made ++ k ∷ []
    → Each (λ i. i < length now.0) more × (map (typed_at now) more ++ typed_values s r m rest ≡ all)
values_on s r before now made more k n m want w e rest tree all g within is tree_is m_is want_is one more_is =
    let behind = values_Argument s r n w e rest tree tree_is in
    let one : Holds now k (typed_expression s (role_type s.context r n w) e) = rw⁻¹ want_is one in
    rw more_is (rw m_is (values_step before now made k (typed_expression s (role_type s.context r n w) e) (typed_values s r (n + 1) rest) all g within
    (ap (λ ts. map (typed_at before) made ++ ts) (sym behind) ∙ is) one))

-- ---- arguments after a name

pub actuals_Applied : (s : Site) (f : ℕ) (tree a rest args : Tree) → tree ≡ More a rest → a ≡ Applied args
    → arguments_given s.context (role.Actuals f) args (typed_values s (role.Actuals f) 0 args) ≡ typed_actuals s f tree
unfolding typed_actuals
actuals_Applied s f tree a rest args is applied = rw is (rw applied refl)

pub imaged_Applied : (s : Site) (tree a behind b rest args : Tree) → tree ≡ More a behind → behind ≡ More b rest → b ≡ Applied args
    → typed_first s integer args ≡ typed_imaged s tree
unfolding typed_imaged
imaged_Applied s tree a behind b rest args is more applied =
    sym (ap (typed_imaged s) (is ∙ ap (λ x. More a x) (more ∙ ap (λ x. More x rest) applied)))

-- ---- arguments by name

by_name : (b : Bool) (these those : List TypedTree) → b ≡ false → those ≡ (if b then these else those)
by_name true these those is = absurd (cc is)
by_name false these those is = refl

pub named_list : (c : Context) (r : Role) (args : Tree) (values ts : List TypedTree) → all_by_position (given_names args) ≡ false
    → ts ≡ map (λ w. named_value w (given_names args) values) (role_names c r) → typed_list ts ≡ arguments_given c r args values
named_list c r args values ts is these =
    ap typed_list (these ∙ by_name (all_by_position (given_names args)) values (map (λ w. named_value w (given_names args) values) (role_names c r)) is)

-- ---- arguments found by an index

zero_behind : (n : ℕ) → n + 0 ≡ n
zero_behind n = omega arith

one_behind : (n k : ℕ) → n + 1 + k ≡ n + suc k
one_behind n k = omega arith

has_given : (w : List ℕ) (g : Given) → is_given w g ≡ has_name w g
has_given w None = refl
has_given w (Some v) = refl

named_if : (a b : Bool) → a ≡ b → (k m : ℕ) {x : ℕ} → x ≡ (if a then k else m) → x ≡ (if b then k else m)
named_if a b is k m at = at ∙ ap (λ c. if c then k else m) is

number_from : (other : ℕ) (all : List ℕ) (w : List ℕ) (n : ℕ) (given : List Given) (numbers : List ℕ)
    → ((k : ℕ) → get_or all (n + k) other ≡ get_or numbers k other)
    → number_at other all (occurrence n given w) ≡ named_number other w given numbers
number_from other all w n [] numbers at = refl
number_from other all w n (g ∷ given) [] at =
    by (is_given w g) (ap (λ m. get_or all m other) (sym (zero_behind n)) ∙ at 0)
    (number_from other all w (n + 1) given [] (λ k. ap (λ m. get_or all m other) (one_behind n k) ∙ at (suc k)) ∙ none_left given)
  where
    none_left : (given : List Given) → named_number other w given [] ≡ other
    none_left [] = refl
    none_left (g ∷ given) = refl

    by : (b : Bool) → get_or all n other ≡ other → number_at other all (occurrence (n + 1) given w) ≡ other
        → number_at other all (if b then Some (record { first = n; again = is_some (occurrence (n + 1) given w) }) else occurrence (n + 1) given w)
        ≡ other
    by true here there = here
    by false here there = there
number_from other all w n (g ∷ given) (k ∷ numbers) at =
    named_if (is_given w g) (has_name w g) (has_given w g) k (named_number other w given numbers)
    (by (is_given w g) (ap (λ m. get_or all m other) (sym (zero_behind n)) ∙ at 0)
    (number_from other all w (n + 1) given numbers (λ k. ap (λ m. get_or all m other) (one_behind n k) ∙ at (suc k))))
  where
    by : (b : Bool) → get_or all n other ≡ k
        → number_at other all (occurrence (n + 1) given w) ≡ named_number other w given numbers
        → number_at other all (if b then Some (record { first = n; again = is_some (occurrence (n + 1) given w) }) else occurrence (n + 1) given w)
        ≡ (if b then k else named_number other w given numbers)
    by true here there = here
    by false here there = there

pub numbers_are : (entries : Entries) (given : List Given) (other : ℕ) (numbers : List ℕ) (names : List (List ℕ)) → Indexes entries given
    → map (λ w. number_at other numbers (occurs entries w)) names ≡ map (λ w. named_number other w given numbers) names
numbers_are entries given other numbers [] same = refl
numbers_are entries given other numbers (w ∷ rest) same =
    let here : number_at other numbers (occurs entries w) ≡ named_number other w given numbers =
    ap (number_at other numbers) (same w) ∙ number_from other numbers w 0 given numbers (λ k. ap (λ m. get_or numbers m other) (none_before k)) in
    let there = numbers_are entries given other numbers rest same in
    λ j. here j ∷ there j
  where
    none_before : (k : ℕ) → 0 + k ≡ k
    none_before k = omega arith
