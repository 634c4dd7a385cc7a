-- The parts of an aggregate, one after the other.
use Rattle.std.proofs.Common.{◌≡◌, refl, sym, ap, ◌∙◌, ℕ, suc, ◌+◌, ◌<◌, ◌≤◌, true, List, [], ◌∷◌, ◌++◌, length, Option, Some, None, IfSome, arith}
use Rattle.std.proofs.lemmas.Grind.{common_steps}
use Rattle.type_definitions.specs.Types.{shape_of}
use Rattle.typed_tree.specs.Trees.{TypedTree, Aggregate, More, NoMore}
use Rattle.flow_paths.specs.Names.{waiting}
use Rattle.machine.specs.Typed.{tree_count, field_count}
use Rattle.machine.specs.Evaluate.{AsValue, part_type}
use Rattle.run_codes.specs.Codes.{Fill, Both, Empty}
use Rattle.run_codes.specs.Lowered.{Site, are_composite, one_type, both, first_value, value, parts}
use Rattle.code_rows.specs.declared.node.Node.{Node}
use Rattle.code_rows.specs.declared.fill.Fill.{Fill as Row}
use Rattle.code_rows.specs.Values.{fill_at, AllGrew}
use Rattle.run_lowering.specs.Aggregates.{AllBelow, prepended, Gathers}

below_more : (n m : ℕ) (values : List ℕ) → n ≤ m → AllBelow n values → AllBelow m values
below_more n m [] more all = tt
below_more n m (v ∷ rest) more all = (omega (arith, all.0, more), below_more n m rest more all.1)

below_end : (n v : ℕ) (values : List ℕ) → v < n → AllBelow n values → AllBelow n (values ++ v ∷ [])
below_end n v [] lt all = (lt, tt)
below_end n v (w ∷ rest) lt all = (all.0, below_end n v rest lt all.1)

below_front : (n v : ℕ) (values : List ℕ) → AllBelow n (values ++ v ∷ []) → AllBelow n values × (v < n)
below_front n v [] all = (tt, all.0)
below_front n v (w ∷ rest) all = let r = below_front n v rest all.1 in ((all.0, r.0), r.1)

prepended_end : (at : ℕ → Fill) (values : List ℕ) (v : ℕ) (o : Option Fill)
    → prepended at (values ++ v ∷ []) o ≡ prepended at values (both (Some (at v)) o)
prepended_end at [] v o = refl
prepended_end at (w ∷ rest) v o = ap (both (Some (at w))) (prepended_end at rest v o)

prepended_same : (at now : ℕ → Fill) (n : ℕ) (values : List ℕ) (o : Option Fill) → ((i : ℕ) → i < n → now i ≡ at i) → AllBelow n values
    → prepended now values o ≡ prepended at values o
prepended_same at now n [] o same all = refl
prepended_same at now n (v ∷ rest) o same all =
    ap (λ f. both (Some f) (prepended now rest o)) (same v all.0)
    ∙ ap (both (Some (at v))) (prepended_same at now n rest o same all.1)

pub gathers_first : (c : Site) (nodes : List Node) (fills : List Row) (k of : ℕ) (list : TypedTree) → Gathers c nodes fills k of list [] k list
gathers_first c nodes fills k of list = record { is = refl; there = tt; count = omega arith; taken = refl }

next_part : (c : Site) (j of i : ℕ) (e rest : TypedTree) (v : Fill) → value c j AsValue (part_type (shape_of c.typing.table of) i) e ≡ Some v
    → parts c j of i (More e rest) ≡ both (Some v) (parts c (j + waiting e) of (suc i) rest)
unfolding parts
next_part c j of i e rest v is = ap (λ o. both o (parts c (j + waiting e) of (suc i) rest)) is

long_end : (values : List ℕ) (v : ℕ) → suc (length values) ≡ length (values ++ v ∷ [])
long_end [] v = refl
long_end (w ∷ rest) v = ap suc (long_end rest v)

pub gathers_next : (c : Site) (a : List Node) (f : List Row) (b : List Node) (g : List Row) (k of : ℕ) (list : TypedTree) (values : List ℕ) (j i v : ℕ)
    (e rest : TypedTree) → Gathers c a f k of list values j (More e rest) → AllGrew a f b g → v < length g
    → value c j AsValue (part_type (shape_of c.typing.table of) (length values)) e ≡ Some (fill_at b g v) → i ≡ j + waiting e
    → Gathers c b g k of list (values ++ v ∷ []) i rest
unfolding waiting
gathers_next c a f b g k of list values j i v e rest so grew lt is next = record {
  is = so.is
      ∙ sym (prepended_same (fill_at a f) (fill_at b g) (length f) values (parts c j of (length values) (More e rest)) grew.same so.there)
      ∙ ap (prepended (fill_at b g) values) (next_part c j of (length values) e rest (fill_at b g v) is)
      ∙ ap (λ n. prepended (fill_at b g) values (both (Some (fill_at b g v)) (parts c (j + waiting e) of n rest))) (long_end values v)
      ∙ ap (λ n. prepended (fill_at b g) values (both (Some (fill_at b g v)) (parts c n of (length (values ++ v ∷ [])) rest))) (sym next)
      ∙ sym (prepended_end (fill_at b g) values v (parts c i of (length (values ++ v ∷ [])) rest));
  there = below_end (length g) v values lt (below_more (length f) (length g) values grew.more so.there);
  count = omega (arith, so.count, long_end values v);
  taken = omega (arith, so.taken, next);
}

pub gathers_last : (c : Site) (nodes : List Node) (fills : List Row) (k of : ℕ) (list : TypedTree) (values : List ℕ) (j : ℕ)
    → Gathers c nodes fills k of list values j NoMore
    → parts c k of 0 list ≡ prepended (fill_at nodes fills) values (Some Empty)
unfolding parts
gathers_last c nodes fills k of list values j so = so.is

-- ---- one after the other

pub joins_next : (nodes : List Node) (f g h : List Row) (values whole : List ℕ) (first second all : ℕ)
    → AllGrew nodes g nodes h → AllBelow (length g) (values ++ first ∷ [])
    → prepended (fill_at nodes g) (values ++ first ∷ []) (Some (fill_at nodes g second)) ≡ prepended (fill_at nodes f) whole (Some Empty)
    → fill_at nodes h all ≡ Both (fill_at nodes g first) (fill_at nodes g second)
    → prepended (fill_at nodes h) values (Some (fill_at nodes h all)) ≡ prepended (fill_at nodes f) whole (Some Empty)
joins_next nodes f g h values whole first second all grew below so is =
    ap (λ v. prepended (fill_at nodes h) values (Some v)) is
    ∙ prepended_same (fill_at nodes g) (fill_at nodes h) (length g) values (Some (Both (fill_at nodes g first) (fill_at nodes g second))) grew.same
    (below_front (length g) first values below).0
    ∙ sym (prepended_end (fill_at nodes g) values first (Some (fill_at nodes g second)))
    ∙ so

pub joins_below : (g h : List Row) (values : List ℕ) (first : ℕ) → length g ≤ length h → AllBelow (length g) (values ++ first ∷ [])
    → AllBelow (length h) values
joins_below g h values first more below = below_more (length g) (length h) values more (below_front (length g) first values below).0

pub joins_first : (g : List Row) (values : List ℕ) (first : ℕ) → AllBelow (length g) (values ++ first ∷ []) → first < length g
joins_first g values first below = (below_front (length g) first values below).1

-- Where nothing is there yet.
pub joins_begin : (nodes : List Node) (f g : List Row) (values : List ℕ) (all : ℕ) → AllGrew nodes f nodes g → AllBelow (length f) values
    → fill_at nodes g all ≡ Empty
    → prepended (fill_at nodes g) values (Some (fill_at nodes g all)) ≡ prepended (fill_at nodes f) values (Some Empty)
joins_begin nodes f g values all grew below is =
    ap (λ v. prepended (fill_at nodes g) values (Some v)) is
    ∙ prepended_same (fill_at nodes f) (fill_at nodes g) (length f) values (Some Empty) grew.same below

pub joins_more : (f g : List Row) (values : List ℕ) → length f ≤ length g → AllBelow (length f) values → AllBelow (length g) values
joins_more f g values more below = below_more (length f) (length g) values more below

-- ---- the whole

pub aggregate_is : (c : Site) (k want of : ℕ) (es : TypedTree) → are_composite c.typing.table want of ≡ true
    → one_type c.typing.table of want ≡ true → tree_count es ≡ field_count (shape_of c.typing.table of)
    → value c k AsValue want (Aggregate of es) ≡ parts c k of 0 es
unfolding value
aggregate_is c k want of es composite one count = grind (arith, common_steps)

pub joins_last : (nodes : List Node) (f g : List Row) (values whole : List ℕ) (all : ℕ) → length values ≡ 0
    → prepended (fill_at nodes g) values (Some (fill_at nodes g all)) ≡ prepended (fill_at nodes f) whole (Some Empty)
    → prepended (fill_at nodes f) whole (Some Empty) ≡ Some (fill_at nodes g all)
joins_last nodes f g [] whole all none is = sym is
joins_last nodes f g (v ∷ rest) whole all none is = absurd (grind (arith, common_steps, none))

pub if_some : {A : Type 0} {P Q : A → Type 0} (o : Option A) → ((a : A) → P a → Q a) → IfSome o P → IfSome o Q
if_some None f is = is
if_some (Some a) f is = f a is

pub first_is : (c : Site) (k t : ℕ) (e list rest : TypedTree) → list ≡ More e rest → rest ≡ NoMore
    → first_value c k t list ≡ value c k AsValue t e
unfolding first_value
first_is c k t e list rest is none = ap (first_value c k t) (is ∙ ap (λ r. More e r) none)
