-- What choices in the order of their low ends leave out.
use Rattle.std.proofs.Common.{◌≡◌, refl, sym, ap, ◌∙◌, suc, ◌+◌, Bool, true, false, ◌||◌, List, [], ◌∷◌, slice_index_or, ℤ, pos, ◌+ℤ◌, int_le, arith, IsPermutation, is_lt}
use Rattle.std.specs.List.{list_any}
use Rattle.std.specs.List.Sorted.{IsSortedByKey}
use Rattle.std.specs.Ordering.{int_cmp}
use Rattle.std.proofs.lemmas.Int.{ints}
use Rattle.std.proofs.lemmas.List.Sorted.{list_any-IsPermutation}
use Rattle.type_definitions.specs.declared.judgement.Cover.{Cover}
use Rattle.type_definitions.specs.Statements.{covers, any_covers, gap_at, gap_behind, has_gap}
use Rattle.statement_rules.specs.Sweep.{past, reach}
use Rattle.statement_rules.proofs.Gaps.{all_covered}

-- ---- another order

any_covers_is : (v : ℤ) (xs : List Cover) → any_covers xs v ≡ list_any (covers v) xs
any_covers_is v [] = refl
any_covers_is v (k ∷ rest) = ap (λ b. covers v k || b) (any_covers_is v rest)

pub covered_alike : (xs ys : List Cover) (v : ℤ) → IsPermutation xs ys → any_covers xs v ≡ any_covers ys v
covered_alike xs ys v moved = any_covers_is v xs ∙ list_any-IsPermutation (covers v) xs ys moved ∙ sym (any_covers_is v ys)

-- ---- no gap, where each value is covered

no_gap_at : (low high : ℤ) (all : List Cover) (v : ℤ) → ((w : ℤ) → int_le low w ≡ true → int_le w high ≡ true → any_covers all w ≡ true)
    → (a b : Bool) → int_le low v ≡ a → int_le v high ≡ b → gap_at low high all v ≡ false
no_gap_at low high all v holds true true above below = let is = holds v above below in rw above (rw below (rw is refl))
no_gap_at low high all v holds true false above below = rw above (rw below refl)
no_gap_at low high all v holds false b above below = rw above refl

no_gap_behind : (low high : ℤ) (all xs : List Cover) → ((w : ℤ) → int_le low w ≡ true → int_le w high ≡ true → any_covers all w ≡ true)
    → gap_behind low high all xs ≡ false
no_gap_behind low high all [] holds = refl
no_gap_behind low high all (k ∷ rest) holds = let here = no_gap_at low high all (k.high +ℤ pos 1) holds _ _ refl refl in
    rw here (no_gap_behind low high all rest holds)

pub no_gap : (low high : ℤ) (all : List Cover) → ((w : ℤ) → int_le low w ≡ true → int_le w high ≡ true → any_covers all w ≡ true)
    → has_gap low high all ≡ false
unfolding has_gap
no_gap low high all holds = let here = no_gap_at low high all low holds _ _ refl refl in
    rw here (no_gap_behind low high all all holds)

gap_by : (low high v : ℤ) (all : List Cover) (b : Bool) → has_gap low high all ≡ b → int_le low v ≡ true → int_le v high ≡ true
    → any_covers all v ≡ false → b ≡ true
gap_by low high v all true is above below none = refl
gap_by low high v all false is above below none = let holds = all_covered low high v all is above below in cc

-- ---- the first value that isn't covered

grows_by : (v : ℤ) (k : Cover) (b : Bool) → covers v k ≡ b → int_le v (past v k) ≡ true
grows_by v k true is = rw is (grind (arith, ints))
grows_by v k false is = rw is (grind (arith, ints))

le_trans : (a b c : ℤ) → int_le a b ≡ true → int_le b c ≡ true → int_le a c ≡ true
le_trans a b c one two = grind (arith, ints)

grows : (v : ℤ) (xs : List Cover) → int_le v (reach v xs) ≡ true
grows v [] = grind (arith, ints)
grows v (k ∷ rest) = le_trans v (past v k) (reach (past v k) rest) (grows_by v k _ refl) (grows (past v k) rest)

within_by : (v w : ℤ) (k : Cover) (b : Bool) → covers v k ≡ b → int_le v w ≡ true → covers w k ≡ false → int_le (past v k) w ≡ true
within_by v w k true is from none = rw is (grind (arith, ints))
within_by v w k false is from none = rw is from

passed_by : (v w : ℤ) (k : Cover) (rest : List Cover) (b : Bool) → covers w k ≡ b
    → (int_le (past v k) w ≡ true → any_covers rest w ≡ true) → int_le v w ≡ true → (b || any_covers rest w) ≡ true
passed_by v w k rest true is on from = refl
passed_by v w k rest false is on from = on (within_by v w k _ refl from is)

-- A value that was passed is covered.
passed : (v w : ℤ) (xs : List Cover) → int_le v w ≡ true → int_le (reach v xs) w ≡ false → any_covers xs w ≡ true
passed v w [] from before = cc
passed v w (k ∷ rest) from before = passed_by v w k rest _ refl (λ more. passed (past v k) w rest more before) from

-- ---- choices in order

abbrev pub InOrder : List Cover → Type 0
InOrder xs = IsSortedByKey (λ (k : Cover). k.low) int_cmp xs

not_lower : (a b : ℤ) → is_lt (int_cmp a b) ≡ false → int_le b a ≡ true
not_lower a b is = grind (arith, ints)

later : (k : Cover) (rest : List Cover) → InOrder (k ∷ rest) → InOrder rest
later k rest sorted i d from within =
    let place : suc (i + 1) ≡ suc i + 1 = omega arith in
    ap (λ j. is_lt (int_cmp (slice_index_or (k ∷ rest) j d).low (slice_index_or rest i d).low)) place ∙ sorted (suc i) d (omega arith) (omega arith)

next : (k m : Cover) (rest : List Cover) → InOrder (k ∷ m ∷ rest) → int_le k.low m.low ≡ true
next k m rest sorted = not_lower m.low k.low (sorted 0 k (omega arith) (omega arith))

stays_at : (v : ℤ) (k m : Cover) → int_le k.low v ≡ false → int_le k.low m.low ≡ true → covers v m ≡ false
stays_at v k m before from = grind (arith, ints)

lower : (v a b : ℤ) → int_le a v ≡ false → int_le a b ≡ true → int_le b v ≡ false
lower v a b before from = grind (arith, ints)

-- After a choice that begins later, nothing is passed.
stays : (v : ℤ) (k : Cover) (rest : List Cover) → InOrder (k ∷ rest) → int_le k.low v ≡ false → reach v rest ≡ v
stays v k [] sorted before = refl
stays v k (m ∷ rest) sorted before =
    let from = next k m rest sorted in
    let none = stays_at v k m before from in
    let same : past v m ≡ v = rw none refl in
    rw same (stays v m rest (later k (m ∷ rest) sorted) (lower v k.low m.low before from))

behind_none : (k : Cover) (w : ℤ) → int_le (k.high +ℤ pos 1) w ≡ true → covers w k ≡ false
behind_none k w from = grind (arith, ints)

before_none : (k : Cover) (v : ℤ) → int_le k.low v ≡ false → covers v k ≡ false
before_none k v before = grind (arith, ints)

above_none : (k : Cover) (v w : ℤ) → int_le k.low v ≡ true → covers v k ≡ false → int_le v w ≡ true → covers w k ≡ false
above_none k v w low none from = grind (arith, ints)

left_low : (v : ℤ) (k : Cover) (rest : List Cover) (b : Bool) → InOrder (k ∷ rest) → covers v k ≡ false → int_le k.low v ≡ b → covers (reach v rest) k ≡ false
left_low v k rest true sorted none is = above_none k v (reach v rest) is none (grows v rest)
left_low v k rest false sorted none is = let same = stays v k rest sorted is in rw same none

left_by : (v : ℤ) (k : Cover) (rest : List Cover) (b : Bool) → InOrder (k ∷ rest) → covers v k ≡ b → covers (reach (past v k) rest) k ≡ false
left_by v k rest true sorted is = rw is (behind_none k (reach (k.high +ℤ pos 1) rest) (grows (k.high +ℤ pos 1) rest))
left_by v k rest false sorted is = rw is (left_low v k rest _ sorted is refl)

-- The value that is reached isn't covered.
left : (v : ℤ) (xs : List Cover) → InOrder xs → any_covers xs (reach v xs) ≡ false
left v [] sorted = refl
left v (k ∷ rest) sorted =
    let here = left_by v k rest _ sorted refl in rw here (left (past v k) rest (later k rest sorted))

lower_end : (a b w : ℤ) → int_le a b ≡ false → int_le w b ≡ true → int_le a w ≡ false
lower_end a b w is below = grind (arith, ints)

swept_by : (low high : ℤ) (all xs : List Cover) (b : Bool) → IsPermutation all xs → InOrder xs → int_le (reach low xs) high ≡ b
    → b ≡ has_gap low high all
swept_by low high all xs true moved sorted is =
    sym (gap_by low high (reach low xs) all _ refl (grows low xs) is (covered_alike all xs (reach low xs) moved ∙ left low xs sorted))
swept_by low high all xs false moved sorted is =
    sym (no_gap low high all (λ w above below. covered_alike all xs w moved ∙ passed low w xs above (lower_end (reach low xs) high w is below)))

pub swept : (low high : ℤ) (all xs : List Cover) → IsPermutation all xs → InOrder xs → int_le (reach low xs) high ≡ has_gap low high all
swept low high all xs moved sorted = swept_by low high all xs _ moved sorted refl
