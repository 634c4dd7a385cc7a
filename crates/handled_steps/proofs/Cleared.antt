-- Over a heap that uses its slots again nothing changes where null stands for what is gone.
use Rattle.std.proofs.Common.{◌≡◌, refl, sym, ap, ◌∙◌, subst, ℕ, zero, suc, ◌+◌, Bool, true, false, ◌==◌, nat_lt, List, [], ◌∷◌, map, length, get_or, Some, ℤ, pos, negsuc, if◌then◌else◌}
use Rattle.std.proofs.lemmas.List.{length-map}
use Rattle.handled_runs.specs.type_definitions.Types.{Table}
use Rattle.handled_runs.specs.run_values.declared.value.Value.{Value}
use Rattle.handled_runs.specs.run_values.declared.value.Value.TheVariants as value
use Rattle.handled_runs.specs.run_values.declared.value.Kind.{Kind}
use Rattle.handled_runs.specs.run_values.declared.value.Kind.TheVariants as sort
use Rattle.handled_runs.specs.kept_cells.Cells.{Cell}
use Rattle.handled_runs.specs.slot_heap.Heaps.{Heap}
use Rattle.handled_runs.specs.numbered_cells.Follows.{handled, IsThere, Names, AllName, one_there, there_count, Follows}
use Rattle.handled_runs.specs.run_codes.Flat.{Flat, gone_from}
use Rattle.handled_runs.specs.run_codes.Points as points
use Rattle.handled_runs.specs.Slots.{Slots}
use Rattle.handled_runs.specs.Beside.{renamed, all_renamed, NamesWord, NameWords, sizes_of, Beside}
use Rattle.handled_steps.specs.States.{State}
use Rattle.handled_steps.specs.Alike.{StatesAlike}
use Rattle.handled_steps.specs.Clear.{cleared_word, cleared_words, cleared_value, cleared_cell, cleared_flat, cleared}

-- ---- words

one_renamed : (handles : List ℕ) (k : Kind) (z : ℤ) → renamed handles k z ≡ renamed handles k (cleared_word k z)
one_renamed handles sort.Int z = refl
one_renamed handles sort.Enum z = refl
one_renamed handles sort.Access (pos n) = refl
one_renamed handles sort.Access (negsuc n) = refl

words_renamed : (handles : List ℕ) (ks : List Kind) (zs : List ℤ) → all_renamed handles ks zs ≡ all_renamed handles ks (cleared_words ks zs)
words_renamed handles [] zs = refl
words_renamed handles (k ∷ ks) [] = refl
words_renamed handles (k ∷ ks) (z ∷ zs) = ap (λ w. w ∷ all_renamed handles ks zs) (one_renamed handles k z) ∙ ap (λ rest. renamed handles k (cleared_word k z) ∷ rest) (words_renamed handles ks zs)

pub words_long : (ks : List Kind) (zs : List ℤ) → length ks ≡ length zs → length ks ≡ length (cleared_words ks zs)
words_long [] [] e = refl
words_long [] (z ∷ zs) e = cc
words_long (k ∷ ks) [] e = cc
words_long (k ∷ ks) (z ∷ zs) e = ap suc (words_long ks zs (let same : length ks ≡ length zs = cc in same))

one_names : (bound : ℕ) (k : Kind) (z : ℤ) → NamesWord bound k z → NamesWord bound k (cleared_word k z)
one_names bound sort.Int z names = tt
one_names bound sort.Enum z names = tt
one_names bound sort.Access (pos n) names = names
one_names bound sort.Access (negsuc n) names = tt

words_name : (bound : ℕ) (ks : List Kind) (zs : List ℤ) → NameWords bound ks zs → NameWords bound ks (cleared_words ks zs)
words_name bound [] zs names = tt
words_name bound (k ∷ ks) [] names = tt
words_name bound (k ∷ ks) (z ∷ zs) names = (one_names bound k z names.0, words_name bound ks zs names.1)

-- ---- cells

value_handled : (handles : List ℕ) (v : Value) → handled handles v ≡ handled handles (cleared_value v)
value_handled handles (value.Int i) = refl
value_handled handles (value.Enum n) = refl
value_handled handles value.Null = refl
value_handled handles (value.Cell n) = by (nat_lt n gone_from) refl
  where
    by : (b : Bool) → nat_lt n gone_from ≡ b → (if b then value.Cell (get_or handles n 0) else value.Null) ≡ handled handles (if b then value.Cell n else value.Null)
    by true low = ap (λ c. if c then value.Cell (get_or handles n 0) else value.Null) (sym low)
    by false low = refl

values_handled : (handles : List ℕ) (vs : List Value) → map (handled handles) vs ≡ map (handled handles) (map cleared_value vs)
values_handled handles [] = refl
values_handled handles (v ∷ vs) = ap (λ w. w ∷ map (handled handles) vs) (value_handled handles v) ∙ ap (λ rest. handled handles (cleared_value v) ∷ rest) (values_handled handles vs)

value_names : (bound : ℕ) (v : Value) → Names bound v → Names bound (cleared_value v)
value_names bound (value.Int i) names = tt
value_names bound (value.Enum n) names = tt
value_names bound value.Null names = tt
value_names bound (value.Cell n) names = by (nat_lt n gone_from)
  where
    by : (b : Bool) → Names bound (if b then value.Cell n else value.Null)
    by true = names
    by false = tt

values_name : (bound : ℕ) (vs : List Value) → AllName bound vs → AllName bound (map cleared_value vs)
values_name bound [] names = tt
values_name bound (v ∷ vs) names = (value_names bound v names.0, values_name bound vs names.1)

pub was_there : (cells : List Cell) (n : ℕ) (us : List Value) → IsThere (map cleared_cell cells) n us → (ws : List Value) × IsThere cells n ws × (us ≡ map cleared_value ws)
was_there [] n us there = cc
was_there (c ∷ cells) zero us there =
    let same : cleared_cell c ≡ record { words = us; freed = false } = cc in
    (c.words, ap (λ b. Some (record { words = c.words; freed = b })) (ap (λ (d : Cell). d.freed) same), ap (λ (d : Cell). d.words) (sym same))
was_there (c ∷ cells) (suc n) us there = was_there cells n us there

is_there : (cells : List Cell) (n : ℕ) (ws : List Value) → IsThere cells n ws → IsThere (map cleared_cell cells) n (map cleared_value ws)
is_there [] n ws there = cc
is_there (c ∷ cells) zero ws there = ap (λ (d : Cell). Some (cleared_cell d)) (let same : c ≡ record { words = ws; freed = false } = cc in same)
is_there (c ∷ cells) (suc n) ws there = is_there cells n ws there

same_count : (n : ℕ) (cells : List Cell) → there_count n cells ≡ there_count n (map cleared_cell cells)
same_count n [] = refl
same_count n (c ∷ cells) =
    ap (λ k. k + there_count n cells) (ap (λ l. if c.freed then 0 else (if l == n then 1 else 0)) (sym (length-map c.words cleared_value)))
    ∙ ap (λ k. one_there n (cleared_cell c) + k) (same_count n cells)

follows_cleared : (handles : List ℕ) (cells : List Cell) (m : Heap) → Follows handles cells m → Follows handles (map cleared_cell cells) m
follows_cleared handles cells m f = record {
  len = f.len ∙ sym (length-map cells cleared_cell);
  live = λ n us there. (let was = was_there cells n us there in
      f.live n was.0 was.1 ∙ ap Some (values_handled handles was.0 ∙ ap (map (handled handles)) (sym was.2)));
  once = λ n k us ws first second same. (let one = was_there cells n us first in
      let two = was_there cells k ws second in
      f.once n k one.0 two.0 one.1 two.1 same);
  names = λ n us there. (let was = was_there cells n us there in
      subst (AllName (length handles)) (sym was.2) (values_name (length handles) was.0 (f.names n was.0 was.1)));
  alone = f.alone;
  back = λ h us is. (let b = f.back h us is in
      record { number = b.number; words = map cleared_value b.words; there = is_there cells b.number b.words b.there; same = b.same });
  counts = λ n. f.counts n ∙ same_count n cells;
}

sizes_cleared : (cells : List Cell) → sizes_of (map cleared_cell cells) ≡ sizes_of cells
sizes_cleared [] = refl
sizes_cleared (c ∷ cells) = (λ j. length-map c.words cleared_value j ∷ sizes_cleared cells j)

-- ---- the laws

pub cleared_beside : (handles : List ℕ) (here taken : List Kind) (m : Flat) (s : Slots) → Beside handles here taken m s → Beside handles here taken (cleared_flat here m) s
cleared_beside handles here taken m s is = record {
  stack = is.stack ∙ words_renamed handles here m.stack;
  known = words_long here m.stack is.known;
  waits = is.waits;
  base = is.base;
  live = is.live;
  made = (is.made.0 ∙ sym (length-map m.cells cleared_cell), is.made.1 ∙ sym (sizes_cleared m.cells));
  freed = is.freed;
  rest = is.rest;
  cells = follows_cleared handles m.cells s.heap is.cells;
  numbered = λ n us there. (let was = was_there m.cells n us there in is.numbered n was.0 was.1);
  small = is.small;
  names = words_name (length handles) here m.stack is.names;
  waiting_names = is.waiting_names;
}

pub cleared_alike : (table : Table) (handles : List ℕ) (here : List Kind) (a : points.State) (b : State) → StatesAlike table handles here a b → StatesAlike table handles here (cleared here a) b
cleared_alike table handles here a b is = record {
  taken = is.taken;
  memory = cleared_beside handles here is.taken a.memory b.memory is.memory;
  frames = is.frames;
  at = is.at;
  output = is.output;
  leaks = is.leaks;
  steps = is.steps;
}
