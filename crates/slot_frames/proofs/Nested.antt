-- Frames, as they are entered and left, and as values wait in them.
use Rattle.std.proofs.Common.{◌≡◌, ℕ, zero, suc, ◌+◌, ◌-◌, ◌≤◌, List, [], ◌∷◌, ◌++◌, map, length, take, drop, refl, sym, ◌∙◌, ap, subst, arith, ℤ}
use Rattle.std.specs.Prelude.{flat_map, reverse}
use Rattle.std.proofs.lemmas.List.{length-append, map-append, length-take-le, drop-take}
use Rattle.std.proofs.Math.Seq.{drop-append_seam, take-append_seam}
use Rattle.run_codes.specs.Points.{Held, given_to}
use Rattle.run_codes.specs.Points as points
use Rattle.slot_frames.specs.declared.rows.Frame.{Frame}
use Rattle.slot_frames.specs.declared.rows.Wait.{Wait}
use Rattle.slot_frames.specs.declared.rows.Return.{Return}
use Rattle.slot_frames.specs.Stacks.{Stacked}
use Rattle.slot_frames.specs.Frames.{held, word_at, return_of, frames_in, frames_of, AreLaid, AreNested, IsStacked, AreLatest}
use Rattle.slot_frames.specs.Parts.{own, own_returns, outside}
use Rattle.slot_frames.proofs.Waits.{last_first, first_last, reversed_length, take_of_take, held_length, held_more, laid_more, held_dropped, laid_dropped, first_within, held_words, reverse_drop, reverse_rest, first_at}

minus_all : (n : ℕ) → n - n ≡ 0
minus_all n = omega arith

minus_more : (m n : ℕ) → n ≤ m → suc m - n ≡ suc (m - n)
minus_more m n le = omega (arith, le)

map_length : {A B : Type 0} (f : A → B) (xs : List A) → length (map f xs) ≡ length xs
map_length f [] = refl
map_length f (x ∷ xs) = ap suc (map_length f xs)

held_count : (s : Stacked) (zs : List ℤ) → length (held (reverse s.waits) zs) ≡ length s.waits
held_count s zs = held_length (reverse s.waits) zs ∙ reversed_length s.waits

one_more : {A : Type 0} (xs : List A) (x : A) → length (xs ++ x ∷ []) ≡ suc (length xs)
one_more [] x = refl
one_more (y ∷ xs) x = ap suc (one_more xs x)

-- ---- values that wait

-- One more value waits in the first of some frames.
waits_in : (h : Held) (hs : List Held) (rs : List points.Return) (f : Frame) (fs : List Frame) → f.waits ≤ length hs
    → frames_in (h ∷ hs) rs (f ∷ fs)
    ≡ record { base = f.base; next = f.next; words = f.words; waits = h ∷ take (length hs - f.waits) hs; returns = drop f.returns rs } ∷ frames_in (drop (length hs - f.waits) hs) (take f.returns rs) fs
waits_in h hs rs f fs le =
    ap (λ n. record { base = f.base; next = f.next; words = f.words; waits = take n (h ∷ hs); returns = drop f.returns rs } ∷ frames_in (drop n (h ∷ hs)) (take f.returns rs) fs)
    (minus_more (length hs) f.waits le)

nested_more : (fs : List Frame) (m n : ℕ) → AreNested fs m n → AreNested fs (suc m) n
nested_more [] m n nested = tt
nested_more (f ∷ fs) m n nested = let le = nested.0 in (omega (arith, le), nested.1, nested.2)

-- One more value waits in the frame that runs.
pub waits_more : (s : Stacked) (zs us : List ℤ) (w : Wait) → IsStacked s zs → w.first ≡ length zs
    → (frames_of (record s { waits = s.waits ++ w ∷ [] }) (zs ++ us)
    ≡ record { base = s.frame.base; next = s.frame.next; words = s.frame.words; waits = record { of = w.of; words = us } ∷ own s zs; returns = own_returns s } ∷ outside s zs)
    × IsStacked (record s { waits = s.waits ++ w ∷ [] }) (zs ++ us)
unfolding own own_returns outside
waits_more s zs us w is at = (
  ap (λ ws. frames_in (held ws (zs ++ us)) (map return_of s.returns) (s.frame ∷ reverse s.outer)) (last_first s.waits w)
      ∙ ap (λ hs. frames_in hs (map return_of s.returns) (s.frame ∷ reverse s.outer)) (held_more w (reverse s.waits) zs us at)
      ∙ waits_in (record { of = w.of; words = us }) (held (reverse s.waits) zs) (map return_of s.returns) s.frame (reverse s.outer)
      (subst (λ n. s.frame.waits ≤ n) (sym (held_count s zs)) is.nested.0),
  record {
    laid = subst (λ ws. AreLaid ws (length (zs ++ us))) (sym (last_first s.waits w)) (laid_more w (reverse s.waits) zs us at is.laid);
    nested = subst (λ n. AreNested (s.frame ∷ reverse s.outer) n (length s.returns)) (sym (one_more s.waits w)) (nested_more (s.frame ∷ reverse s.outer) (length s.waits) (length s.returns) is.nested);
  },
)

-- The frame that runs stands first.
pub runs : (s : Stacked) (zs : List ℤ)
    → frames_of s zs ≡ record { base = s.frame.base; next = s.frame.next; words = s.frame.words; waits = own s zs; returns = own_returns s } ∷ outside s zs
unfolding own own_returns outside
runs s zs = refl

-- ---- frames

-- Another frame runs, without values that wait; some places are copied back to.
pub entered : (s : Stacked) (zs : List ℤ) (f : Frame) (more : List Return) → IsStacked s zs → f.waits ≡ length s.waits → f.returns ≡ length s.returns
    → (frames_of (record { frame = f; outer = s.outer ++ s.frame ∷ []; waits = s.waits; returns = s.returns ++ more }) zs
    ≡ record { base = f.base; next = f.next; words = f.words; waits = []; returns = map return_of more } ∷ frames_of s zs)
    × IsStacked (record { frame = f; outer = s.outer ++ s.frame ∷ []; waits = s.waits; returns = s.returns ++ more }) zs
entered s zs f more is waits returns = (
  ap (λ fs. frames_in hs (map return_of (s.returns ++ more)) (f ∷ fs)) (last_first s.outer s.frame)
      ∙ ap (λ rs. frames_in hs rs (f ∷ s.frame ∷ reverse s.outer)) (map-append return_of s.returns more)
      ∙ ap (λ n. record { base = f.base; next = f.next; words = f.words; waits = take n hs; returns = drop f.returns all } ∷ frames_in (drop n hs) (take f.returns all) (s.frame ∷ reverse s.outer)) none
      ∙ ap (λ n. record { base = f.base; next = f.next; words = f.words; waits = []; returns = drop n all } ∷ frames_in hs (take n all) (s.frame ∷ reverse s.outer)) count
      ∙ ap (λ l. record { base = f.base; next = f.next; words = f.words; waits = []; returns = l } ∷ frames_in hs (take (length (map return_of s.returns)) all) (s.frame ∷ reverse s.outer)) (drop-append_seam (map return_of s.returns) (map return_of more))
      ∙ ap (λ l. record { base = f.base; next = f.next; words = f.words; waits = []; returns = map return_of more } ∷ frames_in hs l (s.frame ∷ reverse s.outer)) (take-append_seam (map return_of s.returns) (map return_of more)),
  record {
    laid = is.laid;
    nested =
        subst (λ fs. AreNested (f ∷ fs) (length s.waits) (length (s.returns ++ more))) (sym (last_first s.outer s.frame))
        (within waits, within_more, subst (λ m. AreNested (s.frame ∷ reverse s.outer) m f.returns) (sym waits) (subst (λ n. AreNested (s.frame ∷ reverse s.outer) (length s.waits) n) (sym returns) is.nested));
  },
)
  where
    hs : List Held
    hs = held (reverse s.waits) zs

    all : List points.Return
    all = map return_of s.returns ++ map return_of more

    none : length hs - f.waits ≡ 0
    none = ap (λ n. n - f.waits) (held_count s zs) ∙ ap (λ n. length s.waits - n) waits ∙ minus_all (length s.waits)

    count : f.returns ≡ length (map return_of s.returns)
    count = returns ∙ sym (map_length return_of s.returns)

    within : f.waits ≡ length s.waits → f.waits ≤ length s.waits
    within e = omega (arith, e)

    within_more : f.returns ≤ length (s.returns ++ more)
    within_more = subst (λ n. f.returns ≤ n) (sym (length-append s.returns more)) (omega (arith, returns))

-- ---- values that are taken

map_reverse : {A B : Type 0} (f : A → B) (xs : List A) → map f (reverse xs) ≡ reverse (map f xs)
map_reverse f [] = refl
map_reverse f (x ∷ xs) =
    ap (map f) (first_last xs x) ∙ map-append f (reverse xs) (x ∷ []) ∙ ap (λ l. l ++ f x ∷ []) (map_reverse f xs) ∙ sym (first_last (map f xs) (f x))

latest_types : (j : ℕ) (ws : List Wait) (zs : List ℤ) → map (λ (h : Held). h.of) (take j (held ws zs)) ≡ map (λ (w : Wait). w.of) (take j ws)
latest_types zero ws zs = refl
latest_types (suc j) [] zs = refl
latest_types (suc j) (w ∷ ws) zs = ap (λ l. w.of ∷ l) (latest_types j ws (take w.first zs))

dropped_count : {A : Type 0} (j : ℕ) (xs : List A) → length (drop j xs) ≡ length xs - j
dropped_count zero xs = omega arith
dropped_count (suc j) [] = omega arith
dropped_count (suc j) (x ∷ xs) = dropped_count j xs ∙ less (length xs) j
  where
    less : (m j : ℕ) → m - j ≡ suc m - suc j
    less m j = omega arith

abbrev empty : {A : Type 0} → List A
empty = []

drop_empty : {A : Type 0} (n : ℕ) → drop n (empty {A = A}) ≡ empty {A = A}
drop_empty zero = refl
drop_empty (suc n) = refl

drop_drop : {A : Type 0} (i j : ℕ) (xs : List A) → drop i (drop j xs) ≡ drop (j + i) xs
drop_drop i zero xs = ap (λ n. drop n xs) (omega arith)
drop_drop i (suc j) [] = drop_empty i ∙ sym (drop_empty (suc j + i))
drop_drop i (suc j) (x ∷ xs) = drop_drop i j xs ∙ ap (λ n. drop n (x ∷ xs)) (next i j)
  where
    next : (i j : ℕ) → suc (j + i) ≡ suc j + i
    next i j = omega arith

-- The frames without some of the latest values.
cut_in : (hs : List Held) (rs : List points.Return) (f : Frame) (fs : List Frame) (j : ℕ) → j + f.waits ≤ length hs
    → frames_in (drop j hs) rs (f ∷ fs)
    ≡ record { base = f.base; next = f.next; words = f.words; waits = drop j (take (length hs - f.waits) hs); returns = drop f.returns rs } ∷ frames_in (drop (length hs - f.waits) hs) (take f.returns rs) fs
cut_in hs rs f fs j le =
    ap (λ n. record { base = f.base; next = f.next; words = f.words; waits = take n (drop j hs); returns = drop f.returns rs } ∷ frames_in (drop n (drop j hs)) (take f.returns rs) fs) count
    ∙ ap (λ l. record { base = f.base; next = f.next; words = f.words; waits = l; returns = drop f.returns rs } ∷ frames_in (drop left (drop j hs)) (take f.returns rs) fs) front
    ∙ ap (λ l. record { base = f.base; next = f.next; words = f.words; waits = drop j (take (length hs - f.waits) hs); returns = drop f.returns rs } ∷ frames_in l (take f.returns rs) fs) back
  where
    left : ℕ
    left = (length hs - f.waits) - j

    whole : j + left ≡ length hs - f.waits
    whole = sums (length hs) f.waits j le
      where
        sums : (n w j : ℕ) → j + w ≤ n → j + ((n - w) - j) ≡ n - w
        sums n w j le = omega (arith, le)

    count : length (drop j hs) - f.waits ≡ left
    count = ap (λ n. n - f.waits) (dropped_count j hs) ∙ swap (length hs) j f.waits
      where
        swap : (n j w : ℕ) → (n - j) - w ≡ (n - w) - j
        swap n j w = omega arith

    front : take left (drop j hs) ≡ drop j (take (length hs - f.waits) hs)
    front = sym (drop-take j left hs) ∙ ap (λ n. drop j (take n hs)) whole

    back : drop left (drop j hs) ≡ drop (length hs - f.waits) hs
    back = drop_drop left j hs ∙ ap (λ n. drop n hs) whole

held_cut : (s : Stacked) (zs : List ℤ) (k j : ℕ) → IsStacked s zs → k + j ≡ length s.waits
    → held (reverse (take k s.waits)) (take (word_at s.waits k (length zs)) zs) ≡ drop j (held (reverse s.waits) zs)
held_cut s zs k j is sum =
    ap (λ ws. held ws (take (word_at s.waits k (length zs)) zs)) (sym (reverse_rest s.waits k j sum))
    ∙ ap (λ n. held (drop j (reverse s.waits)) (take n zs)) (sym (first_at s.waits k j (length zs) sum))
    ∙ sym (held_dropped j (reverse s.waits) zs is.laid)

laid_cut : (s : Stacked) (zs : List ℤ) (k j : ℕ) → IsStacked s zs → k + j ≡ length s.waits
    → AreLaid (reverse (take k s.waits)) (length (take (word_at s.waits k (length zs)) zs))
laid_cut s zs k j is sum =
    subst (λ ws. AreLaid ws (length (take (word_at s.waits k (length zs)) zs))) (reverse_rest s.waits k j sum)
    (subst (λ n. AreLaid (drop j (reverse s.waits)) n) (sym (length-take-le (word_at s.waits k (length zs)) zs within))
    (subst (λ n. AreLaid (drop j (reverse s.waits)) n) (first_at s.waits k j (length zs) sum) (laid_dropped j (reverse s.waits) (length zs) is.laid)))
  where
    within : word_at s.waits k (length zs) ≤ length zs
    within = subst (λ n. n ≤ length zs) (first_at s.waits k j (length zs) sum) (first_within j (reverse s.waits) (length zs) is.laid)

own_latest : (s : Stacked) (zs : List ℤ) (types : List ℕ) (k : ℕ) → AreLatest s types k
    → take (length types) (own s zs) ≡ take (length types) (held (reverse s.waits) zs)
unfolding own
own_latest s zs types k is = take_of_take (length types) (length (held (reverse s.waits) zs) - s.frame.waits) few (held (reverse s.waits) zs)
  where
    few : length types ≤ length (held (reverse s.waits) zs) - s.frame.waits
    few = subst (λ n. length types ≤ n - s.frame.waits) (sym (held_count s zs)) (less k (length types) (length s.waits) s.frame.waits is.count is.own)
      where
        less : (k j n w : ℕ) → k + j ≡ n → w ≤ k → j ≤ n - w
        less k j n w sum le = omega (arith, sum, le)

-- Their types, and their words.
pub taken_types : (s : Stacked) (zs : List ℤ) (types : List ℕ) (k : ℕ) → AreLatest s types k
    → map (λ (h : Held). h.of) (reverse (take (length types) (own s zs))) ≡ types
taken_types s zs types k is =
    ap (λ l. map (λ (h : Held). h.of) (reverse l)) (own_latest s zs types k is)
    ∙ map_reverse (λ (h : Held). h.of) (take (length types) (held (reverse s.waits) zs))
    ∙ ap reverse (latest_types (length types) (reverse s.waits) zs)
    ∙ sym (map_reverse (λ (w : Wait). w.of) (take (length types) (reverse s.waits)))
    ∙ ap (map (λ (w : Wait). w.of)) (reverse_drop s.waits k (length types) is.count)
    ∙ is.types

pub taken_words : (s : Stacked) (zs : List ℤ) (types : List ℕ) (k : ℕ) → IsStacked s zs → AreLatest s types k
    → flat_map (λ (h : Held). h.words) (reverse (take (length types) (own s zs))) ≡ drop (word_at s.waits k (length zs)) zs
taken_words s zs types k stacked is =
    ap (λ l. flat_map (λ (h : Held). h.words) (reverse l)) (own_latest s zs types k is)
    ∙ held_words (length types) (reverse s.waits) zs stacked.laid
    ∙ ap (λ n. drop n zs) (first_at s.waits k (length types) (length zs) is.count)

-- They are gone.
pub taken_gone : (s : Stacked) (zs : List ℤ) (types : List ℕ) (k : ℕ) → IsStacked s zs → AreLatest s types k
    → (frames_of (record s { waits = take k s.waits }) (take (word_at s.waits k (length zs)) zs)
    ≡ record { base = s.frame.base; next = s.frame.next; words = s.frame.words; waits = drop (length types) (own s zs); returns = own_returns s } ∷ outside s zs)
    × IsStacked (record s { waits = take k s.waits }) (take (word_at s.waits k (length zs)) zs)
unfolding own own_returns outside
taken_gone s zs types k stacked is = (
  ap (λ hs. frames_in hs (map return_of s.returns) (s.frame ∷ reverse s.outer)) (held_cut s zs k (length types) stacked is.count)
      ∙ cut_in (held (reverse s.waits) zs) (map return_of s.returns) s.frame (reverse s.outer) (length types) few,
  record {
    laid = laid_cut s zs k (length types) stacked is.count;
    nested = subst (λ n. AreNested (s.frame ∷ reverse s.outer) n (length s.returns)) (sym size) (is.own, stacked.nested.1, stacked.nested.2);
  },
)
  where
    few : length types + s.frame.waits ≤ length (held (reverse s.waits) zs)
    few = subst (λ n. length types + s.frame.waits ≤ n) (sym (held_count s zs)) (less k (length types) (length s.waits) s.frame.waits is.count is.own)
      where
        less : (k j n w : ℕ) → k + j ≡ n → w ≤ k → j + w ≤ n
        less k j n w sum le = omega (arith, sum, le)

    size : length (take k s.waits) ≡ k
    size = length-take-le k s.waits (less k (length types) (length s.waits) is.count)
      where
        less : (k j n : ℕ) → k + j ≡ n → k ≤ n
        less k j n sum = omega (arith, sum)

-- ---- frames that end

map_take : {A B : Type 0} (f : A → B) (n : ℕ) (xs : List A) → map f (take n xs) ≡ take n (map f xs)
map_take f zero xs = refl
map_take f (suc n) [] = refl
map_take f (suc n) (x ∷ xs) = ap (λ l. f x ∷ l) (map_take f n xs)

-- The frame that runs ends, and the next one runs.
pub left : (s : Stacked) (zs : List ℤ) (f : Frame) (fs : List Frame) → IsStacked s zs → s.outer ≡ fs ++ f ∷ []
    → (frames_of (record { frame = f; outer = fs; waits = take s.frame.waits s.waits; returns = take s.frame.returns s.returns }) (take (word_at s.waits s.frame.waits (length zs)) zs) ≡ outside s zs)
    × IsStacked (record { frame = f; outer = fs; waits = take s.frame.waits s.waits; returns = take s.frame.returns s.returns }) (take (word_at s.waits s.frame.waits (length zs)) zs)
unfolding outside
left s zs f fs is outer = (
  ap (λ hs. frames_in hs (map return_of (take s.frame.returns s.returns)) (f ∷ reverse fs)) (held_cut s zs s.frame.waits rest is sum)
      ∙ ap (λ n. frames_in (drop n (held (reverse s.waits) zs)) (map return_of (take s.frame.returns s.returns)) (f ∷ reverse fs)) count
      ∙ ap (λ rs. frames_in (drop (length (held (reverse s.waits) zs) - s.frame.waits) (held (reverse s.waits) zs)) rs (f ∷ reverse fs)) (map_take return_of s.frame.returns s.returns)
      ∙ ap (λ l. frames_in (drop (length (held (reverse s.waits) zs) - s.frame.waits) (held (reverse s.waits) zs)) (take s.frame.returns (map return_of s.returns)) l) (sym all),
  record {
    laid = laid_cut s zs s.frame.waits rest is sum;
    nested =
        subst (λ m. AreNested (f ∷ reverse fs) m (length (take s.frame.returns s.returns))) (sym (length-take-le s.frame.waits s.waits is.nested.0))
        (subst (λ n. AreNested (f ∷ reverse fs) s.frame.waits n) (sym (length-take-le s.frame.returns s.returns is.nested.1))
        (subst (λ l. AreNested l s.frame.waits s.frame.returns) all is.nested.2));
  },
)
  where
    rest : ℕ
    rest = length s.waits - s.frame.waits

    sum : s.frame.waits + rest ≡ length s.waits
    sum = sums s.frame.waits (length s.waits) is.nested.0
      where
        sums : (m n : ℕ) → m ≤ n → m + (n - m) ≡ n
        sums m n le = omega (arith, le)

    count : rest ≡ length (held (reverse s.waits) zs) - s.frame.waits
    count = ap (λ n. n - s.frame.waits) (sym (held_count s zs))

    all : reverse s.outer ≡ f ∷ reverse fs
    all = ap reverse outer ∙ last_first fs f

-- ---- results

given_in : (h : Held) (hs : List Held) (rs : List points.Return) (fs : List Frame) (n : ℕ) → AreNested fs (length hs) n
    → frames_in (h ∷ hs) rs fs ≡ given_to h (frames_in hs rs fs)
given_in h hs rs [] n nested = refl
given_in h hs rs (f ∷ fs) n nested = waits_in h hs rs f fs nested.0

-- One more value waits, in the frame that waits for the one that runs, in which none waits.
pub held_outside : (s : Stacked) (zs us : List ℤ) (w : Wait) → IsStacked s zs → w.first ≡ length zs → s.frame.waits ≡ length s.waits
    → (frames_of (record s { frame = record s.frame { waits = length (s.waits ++ w ∷ []) }; waits = s.waits ++ w ∷ [] }) (zs ++ us)
    ≡ record { base = s.frame.base; next = s.frame.next; words = s.frame.words; waits = []; returns = own_returns s } ∷ given_to (record { of = w.of; words = us }) (outside s zs))
    × IsStacked (record s { frame = record s.frame { waits = length (s.waits ++ w ∷ []) }; waits = s.waits ++ w ∷ [] }) (zs ++ us)
unfolding own_returns outside
held_outside s zs us w is at none = (
  ap (λ ws. frames_in (held ws (zs ++ us)) rs (record s.frame { waits = length (s.waits ++ w ∷ []) } ∷ reverse s.outer)) (last_first s.waits w)
      ∙ ap (λ hs. frames_in hs rs (record s.frame { waits = length (s.waits ++ w ∷ []) } ∷ reverse s.outer)) (held_more w (reverse s.waits) zs us at)
      ∙ ap (λ n. record { base = s.frame.base; next = s.frame.next; words = s.frame.words; waits = take n (h ∷ hs); returns = drop s.frame.returns rs } ∷ frames_in (drop n (h ∷ hs)) (take s.frame.returns rs) (reverse s.outer)) all
      ∙ ap (λ l. record { base = s.frame.base; next = s.frame.next; words = s.frame.words; waits = []; returns = drop s.frame.returns rs } ∷ l)
      (given_in h hs (take s.frame.returns rs) (reverse s.outer) s.frame.returns (subst (λ m. AreNested (reverse s.outer) m s.frame.returns) (none ∙ sym (held_count s zs)) is.nested.2))
      ∙ ap (λ n. record { base = s.frame.base; next = s.frame.next; words = s.frame.words; waits = []; returns = drop s.frame.returns rs } ∷ given_to h (frames_in (drop n hs) (take s.frame.returns rs) (reverse s.outer))) (sym no_own),
  record {
    laid = subst (λ ws. AreLaid ws (length (zs ++ us))) (sym (last_first s.waits w)) (laid_more w (reverse s.waits) zs us at is.laid);
    nested = (same, is.nested.1, subst (λ m. AreNested (reverse s.outer) m s.frame.returns) (sym (one_more s.waits w)) (subst (λ m. AreNested (reverse s.outer) (suc m) s.frame.returns) none (nested_more (reverse s.outer) s.frame.waits s.frame.returns is.nested.2)));
  },
)
  where
    hs : List Held
    hs = held (reverse s.waits) zs

    rs : List points.Return
    rs = map return_of s.returns

    h : Held
    h = record { of = w.of; words = us }

    all : suc (length hs) - length (s.waits ++ w ∷ []) ≡ 0
    all = ap (λ n. suc n - length (s.waits ++ w ∷ [])) (held_count s zs) ∙ ap (λ n. suc (length s.waits) - n) (one_more s.waits w) ∙ minus_all (suc (length s.waits))

    no_own : length hs - s.frame.waits ≡ 0
    no_own = ap (λ n. n - s.frame.waits) (held_count s zs) ∙ ap (λ n. length s.waits - n) none ∙ minus_all (length s.waits)

    same : length (s.waits ++ w ∷ []) ≤ length (s.waits ++ w ∷ [])
    same = omega arith
