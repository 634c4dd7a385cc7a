-- Lists that are added to.
use Rattle.std.proofs.Common.{◌≡◌, suc, ◌<◌, get_or, add-one, drop-cons, refl, sym, ap, ◌∙◌, ℕ, ◌+◌, List, [], ◌∷◌, ◌++◌, map, length, take, drop, Option, Some, None, IsTrue, IfSome, append_assoc, arith}
use Rattle.std.proofs.lemmas.Grind.{common_steps}
use Rattle.std.proofs.Math.Seq.{drop-append_seam}
use Rattle.std.proofs.lemmas.List.{take-map, drop-map}
use Rattle.run_codes.specs.Lowered.{option_map}
use Rattle.run_codes.specs.Programs.{append_all, with_first}
use Rattle.code_rows.specs.declared.range.Range.{Range}
use Rattle.code_rows.specs.Points.{some, is_range}

some_same : {A : Type 0} (a b : A) → Some a ≡ Some b → a ≡ b
some_same a b e = cc

-- One more, and more lists.
pub one_on : {A : Type 0} (xs : List A) (a : A) (o : Option (List A))
    → append_all (Some xs) (with_first (Some a) o) ≡ append_all (Some (xs ++ a ∷ [])) o
one_on xs a None = refl
one_on xs a (Some ys) = ap (λ zs. Some zs) (sym (append_assoc xs (a ∷ []) ys))

pub some_on : {A : Type 0} (xs ys : List A) (o : Option (List A))
    → append_all (Some xs) (append_all (Some ys) o) ≡ append_all (Some (xs ++ ys)) o
some_on xs ys None = refl
some_on xs ys (Some zs) = ap (λ all. Some all) (sym (append_assoc xs ys zs))

pub all_on : {A : Type 0} (xs : List A) (a b : Option (List A))
    → append_all (Some xs) (append_all a b) ≡ append_all (append_all (Some xs) a) b
all_on xs None b = refl
all_on xs (Some ys) b = some_on xs ys b

-- One that is added is the first of the rest.
pub point_on : {A : Type 0} (xs ys : List A) (o : Option A) (rest : Option (List A))
    → option_map (λ q. xs ++ q ∷ []) o ≡ Some ys → append_all (Some xs) (with_first o rest) ≡ append_all (Some ys) rest
point_on xs ys None rest e = absurd cc
point_on xs ys (Some q) rest e = one_on xs q rest ∙ ap (λ zs. append_all zs rest) e

-- What was added is in the range from there.
length_same : {A : Type 0} (xs ys : List A) → xs ≡ ys → length xs ≡ length ys
length_same xs ys e = ap length e

some_map : {A B : Type 0} (f : A → B) (all : List A) (r : Range) → some (map f all) r ≡ map f (some all r)
some_map f all r = ap (λ xs. take r.count xs) (drop-map f r.first all) ∙ take-map f r.count (drop r.first all)

take_whole : {A : Type 0} (n : ℕ) (xs : List A) → n ≡ length xs → take n xs ≡ xs
take_whole n xs e = grind (arith, common_steps)

range_by : {A B : Type 0} (f : A → B) (all : List A) (before after : List B) (r : Range) → before ++ after ≡ map f all → r.first ≡ length before
    → r.first + r.count ≡ length all → after ≡ map f (some all r)
range_by f all before after r e first end =
    let whole : length before + length after ≡ length all = grind (arith, common_steps, ap length e) in
    let count : r.count ≡ length after = omega (arith, first, end, whole) in
    sym (sym (some_map f all r) ∙ ap (λ xs. some xs r) (sym e)
    ∙ (ap (λ n. take r.count (drop n (before ++ after))) first ∙ (ap (λ xs. take r.count xs) (drop-append_seam before after)
    ∙ take_whole r.count after count)))

pub range_all : {A B : Type 0} (f : A → B) (all : List A) (before : List B) (o : Option (List B)) (r : Range)
    → append_all (Some before) o ≡ Some (map f all) → r.first ≡ length before → r.first + r.count ≡ length all → o ≡ Some (map f (some all r))
range_all f all before None r e first end = absurd cc
range_all f all before (Some after) r e first end =
    ap (λ xs. Some xs) (range_by f all before after r (some_same _ _ e) first end)

pub range_there : {A : Type 0} (all : List A) (r : Range) → r.first + r.count ≡ length all → IsTrue (is_range all r)
range_there all r e = grind arith

pub since_range : {A B : Type 0} (f : A → B) (all : List A) (before : List B) (o : Option (List B)) (s : Option Range) (first end : ℕ)
    → append_all (Some before) o ≡ Some (map f all) → first ≡ length before → end ≡ length all
    → IfSome s (λ (r : Range). r.first ≡ first) → IfSome s (λ (r : Range). r.first + r.count ≡ end)
    → IfSome s (λ (r : Range). o ≡ Some (map f (some all r)))
since_range f all before o None first end e begins ends is_first is_end = tt
since_range f all before o (Some r) first end e begins ends is_first is_end = range_all f all before o r e (is_first ∙ begins) (is_end ∙ ends)

-- The rest of a list begins with its next item.
pub drop_item : {A : Type 0} (xs : List A) (i : ℕ) (d x : A) → i < length xs → x ≡ get_or xs i d → drop i xs ≡ x ∷ drop (i + 1) xs
drop_item xs i d x lt is = rw (add-one, drop-cons xs i d) (ap (λ y. y ∷ drop (suc i) xs) (sym is))
