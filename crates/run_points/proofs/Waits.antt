-- The values that a point takes stand for those that the machine takes.
use Rattle.std.proofs.Common.{◌≡◌, ℕ, zero, suc, ◌+◌, true, false, List, [], ◌∷◌, ◌++◌, map, flat_map, reverse, length, take, drop, get_or, sum, refl, sym, ap, subst, ◌∙◌, Some, arith, slice_get, ℤ}
use Rattle.std.specs.Prelude.{◌==◌}
use Rattle.std.specs.Cmp.Lexicographic.{pointwise}
use Rattle.std.proofs.lemmas.List.{reverse-append}
use Rattle.std.proofs.lemmas.List.Sums.{sum_by-cons}
use Rattle.std.proofs.Math.Seq.{take-append_seam, drop-append-add}
use Rattle.type_definitions.specs.Types.{Table, words}
use Rattle.flow_paths.specs.Laid.{flow_typing}
use Rattle.machine.specs.Words.{Word}
use Rattle.machine.specs.Typed.{sorts}
use Rattle.machine.specs.States.{Waiting}
use Rattle.run_codes.specs.Codes.{Finish}
use Rattle.run_codes.specs.Lowered.{words_before_value}
use Rattle.run_codes.specs.Points.{Held, taken, start}
use Rattle.run_codes.specs.Related.{IsValue, IsSeen, IsSited, Related, table, types}
use Rattle.run_codes.proofs.Parts.{many}
use Rattle.run_codes.proofs.Places.{both_true, some_same, impossible}
use Rattle.run_codes.proofs.Seeing.{seen_from}
use Rattle.run_points.specs.States.{site_of, Laid, WaitsStand}
use Rattle.run_points.specs.Turns.{Turns, seen, flat_turn, TurnStands}

-- ---- lists of them

pub first_stand : (table : Table) (made : List ℕ) (n : ℕ) (ws : List Waiting) (hs : List Held) → WaitsStand table made ws hs → WaitsStand table made (take n ws) (take n hs)
first_stand table made zero [] [] is = tt
first_stand table made zero (w ∷ ws) (h ∷ hs) is = tt
first_stand table made (suc n) [] [] is = tt
first_stand table made (suc n) (w ∷ ws) (h ∷ hs) is = (is.0, first_stand table made n ws hs is.1)
first_stand table made n [] (h ∷ hs) is = absurd is
first_stand table made n (w ∷ ws) [] is = absurd is

pub rest_stand : (table : Table) (made : List ℕ) (n : ℕ) (ws : List Waiting) (hs : List Held) → WaitsStand table made ws hs → WaitsStand table made (drop n ws) (drop n hs)
rest_stand table made zero [] [] is = tt
rest_stand table made zero (w ∷ ws) (h ∷ hs) is = is
rest_stand table made (suc n) [] [] is = tt
rest_stand table made (suc n) (w ∷ ws) (h ∷ hs) is = rest_stand table made n ws hs is.1
rest_stand table made n [] (h ∷ hs) is = absurd is
rest_stand table made n (w ∷ ws) [] is = absurd is

joined_stand : (table : Table) (made : List ℕ) (ws vs : List Waiting) (hs gs : List Held) → WaitsStand table made ws hs → WaitsStand table made vs gs
    → WaitsStand table made (ws ++ vs) (hs ++ gs)
joined_stand table made [] vs [] gs is more = more
joined_stand table made (w ∷ ws) vs (h ∷ hs) gs is more = (is.0, joined_stand table made ws vs hs gs is.1 more)
joined_stand table made [] vs (h ∷ hs) gs is more = absurd is
joined_stand table made (w ∷ ws) vs [] gs is more = absurd is

turned_stand : (table : Table) (made : List ℕ) (ws : List Waiting) (hs : List Held) → WaitsStand table made ws hs → WaitsStand table made (reverse ws) (reverse hs)
turned_stand table made [] [] is = tt
turned_stand table made (w ∷ ws) (h ∷ hs) is =
    subst (λ l. WaitsStand table made l (reverse (h ∷ hs))) (sym (reverse-append (w ∷ []) ws))
    (subst (λ l. WaitsStand table made (reverse ws ++ (w ∷ [])) l) (sym (reverse-append (h ∷ []) hs))
    (joined_stand table made (reverse ws) (w ∷ []) (reverse hs) (h ∷ []) (turned_stand table made ws hs is.1) (is.0, tt)))
turned_stand table made [] (h ∷ hs) is = absurd is
turned_stand table made (w ∷ ws) [] is = absurd is

-- ---- the types that are taken

same_number : (a b : ℕ) → (a == b) ≡ true → a ≡ b
same_number a b is = grind arith

never : {A : Type 0} → false ≡ true → A
never is = absurd (no_more is)
  where
    no_more : false ≡ true → ⊥
    no_more is = cc

pub same_types : (ts us : List ℕ) → pointwise (λ a b. a == b) ts us ≡ true → ts ≡ us
same_types [] [] is = refl
same_types (t ∷ ts) (u ∷ us) is =
    let both = both_true (t == u) (pointwise (λ a b. a == b) ts us) is in
    ap (λ k. k ∷ ts) (same_number t u both.0) ∙ ap (λ l. u ∷ l) (same_types ts us both.1)
same_types [] (u ∷ us) is = never is
same_types (t ∷ ts) [] is = never is

-- ---- the k-th one

abbrev words_of : List Waiting → List (List Word)
words_of ws = map (λ (v : Waiting). v.words) ws

abbrev words_in : List Held → List ℤ
words_in hs = flat_map (λ (h : Held). h.words) hs

long_value : (table : Table) (made : List ℕ) (t : ℕ) (ws : List Word) (zs : List ℤ) → IsValue table made (sorts table t) ws zs → words table t ≡ length zs
long_value table made t ws zs is = sym (many table t) ∙ sym is.numbers

kth_stands : (table : Table) (made : List ℕ) (k t : ℕ) (ts : List ℕ) (ws : List Waiting) (hs : List Held) → WaitsStand table made ws hs
    → ts ≡ map (λ (h : Held). h.of) hs → slice_get ts k ≡ Some t
    → IsValue table made (sorts table t) (get_or (words_of ws) k []) (take (words table t) (drop (sum (map (words table) (take k ts))) (words_in hs)))
kth_stands table made k t [] ws hs is same there = impossible t there
kth_stands table made k t (u ∷ ts) [] [] is same there = absurd (none u ts same)
  where
    none : (u : ℕ) (ts : List ℕ) → u ∷ ts ≡ [] → ⊥
    none u ts is = cc
kth_stands table made k t (u ∷ ts) [] (h ∷ hs) is same there = absurd is
kth_stands table made k t (u ∷ ts) (w ∷ ws) [] is same there = absurd is
kth_stands table made zero t (u ∷ ts) (w ∷ ws) (h ∷ hs) is same there =
    let of : w.of ≡ t = sym is.0.of ∙ sym (first u h.of ts (map (λ (h : Held). h.of) hs) same) ∙ some_same u t there in
    let value : IsValue table made (sorts table t) w.words h.words = subst (λ t. IsValue table made (sorts table t) w.words h.words) of is.0.value in
    subst (λ zs. IsValue table made (sorts table t) w.words zs)
    (sym (ap (λ n. take n (h.words ++ words_in hs)) (long_value table made t w.words h.words value) ∙ take-append_seam h.words (words_in hs))) value
  where
    first : (a b : ℕ) (xs ys : List ℕ) → a ∷ xs ≡ b ∷ ys → a ≡ b
    first a b xs ys is = cc
kth_stands table made (suc k) t (u ∷ ts) (w ∷ ws) (h ∷ hs) is same there =
    let of : u ≡ w.of = first u h.of ts (map (λ (h : Held). h.of) hs) same ∙ is.0.of in
    let before : ℕ = sum (map (words table) (take k ts)) in
    let long : words table u ≡ length h.words = ap (words table) of ∙ long_value table made w.of w.words h.words is.0.value in
    let dropped : drop (sum (map (words table) (u ∷ take k ts))) (h.words ++ words_in hs) ≡ drop before (words_in hs) =
    ap (λ n. drop n (h.words ++ words_in hs)) (sum_by-cons (λ k. k) (words table u) (map (words table) (take k ts)) ∙ ap (λ n. n + before) long)
    ∙ drop-append-add h.words (words_in hs) before in
    subst (λ zs. IsValue table made (sorts table t) (get_or (words_of ws) k []) (take (words table t) zs)) (sym dropped)
    (kth_stands table made k t ts ws hs is.1 (rest u h.of ts (map (λ (h : Held). h.of) hs) same) there)
  where
    first : (a b : ℕ) (xs ys : List ℕ) → a ∷ xs ≡ b ∷ ys → a ≡ b
    first a b xs ys is = cc

    rest : (a b : ℕ) (xs ys : List ℕ) → a ∷ xs ≡ b ∷ ys → xs ≡ ys
    rest a b xs ys is = cc

-- ---- what is seen

-- The words of the frame, the values that the point takes and the input don't belong to what is related.
pub at_start : (b : Turns) (laid : Laid) → TurnStands b laid → Related (flow_typing b.program) laid.objects b.memory (start (flat_turn b Finish))
at_start b laid is = record {
  objects = is.memory.related.objects;
  cells = is.memory.related.cells;
  counted = record {
    made = is.memory.related.counted.made;
    few = is.memory.related.counted.few;
    live = is.memory.related.counted.live;
    freed = is.memory.related.counted.freed;
  };
}

pub sited : (b : Turns) (laid : Laid) → TurnStands b laid → IsSited (site_of b.program b.frame.sub b.takes) (length b.outer) b.flat_frame.base laid.objects
sited b laid is = record { own = is.frame.sited.own; packages = is.frame.sited.packages }

-- The k-th value that the point takes.
pub seen_waits : (b : Turns) (laid : Laid) → TurnStands b laid → (k t : ℕ) → slice_get b.takes k ≡ Some t
    → IsValue (table (seen b)) (types b.memory) (sorts (table (seen b)) t) (get_or (seen b).waits k [])
    (take (words (table (seen b)) t) (drop (words_before_value (seen b).site k) (seen b).flat.waits))
seen_waits b laid is k t there =
    kth_stands (flow_typing b.program).table (types b.memory) k t b.takes (reverse (take n b.frame.waits)) (taken (flat_turn b Finish)) given same there
  where
    n : ℕ
    n = length b.takes

    given : WaitsStand (flow_typing b.program).table (types b.memory) (reverse (take n b.frame.waits)) (taken (flat_turn b Finish))
    given =
        turned_stand (flow_typing b.program).table (types b.memory) (take n b.frame.waits) (take n b.flat_frame.waits)
        (first_stand (flow_typing b.program).table (types b.memory) n b.frame.waits b.flat_frame.waits is.frame.waits)

    same : b.takes ≡ map (λ (h : Held). h.of) (taken (flat_turn b Finish))
    same = same_types b.takes (map (λ (h : Held). h.of) (taken (flat_turn b Finish))) is.taken

pub is_seen : (b : Turns) (laid : Laid) → TurnStands b laid → IsSeen (seen b)
is_seen b laid is = seen_from (seen b) laid.objects is.laws (at_start b laid is) is.memory.apart (sited b laid is) (seen_waits b laid is)
