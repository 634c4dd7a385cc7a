-- A count that stops past its limit tells whether the limit is kept.
use Rattle.std.proofs.Common.{◌≡◌, ℕ, ◌+◌, Bool, not, ◌&&◌, List, [], ◌∷◌, ◌++◌, refl, sym, ap, ◌∙◌, arith, length, min, max, get_or, nat_lt, Option}
use Rattle.std.specs.Prelude.{nat_le}
use Rattle.place_names.specs.declared.selector.Sel.{Sel}
use Rattle.spark_base.specs.declared.position.Pos.{Pos}
use Rattle.type_definitions.specs.declared.judgement.Fault.{Fault}
use Rattle.type_definitions.specs.Types.{Table, words, parts, full, is_nil, is_owning}
use Rattle.type_definitions.specs.Faults.{noted, demand}
use Rattle.type_definitions.specs.Whole.{all_short, has_elements, size_faults}
use Rattle.type_settled.specs.declared.measure.Measure.{Measure}
use Rattle.type_settled.specs.Measures.{reach, nothing, measured, IsMeasured}
use Rattle.type_settled.proofs.Noted.{noted_append}
use Rattle.type_settled.proofs.Owning.{owning_has_part}

few_words : (w : ℕ) → nat_le (min 65537 w) 65536 ≡ nat_le w 65536
few_words w = grind arith

few_parts : (n : ℕ) → nat_le (min 65 n) 64 ≡ nat_le n 64
few_parts n = grind arith

near : (r : ℕ) → nat_le (min 18 r) 17 ≡ nat_le r 17
near r = grind arith

short_first : (n r : ℕ) → nat_le n 16 && nat_le r 17 ≡ nat_le (max (n + 1) r) 17
short_first n r = grind arith

pub short_reach : (qs : List (List Sel)) → all_short qs ≡ nat_le (reach qs) 17
short_reach [] = refl
short_reach (q ∷ rest) = ap (λ b. nat_le (length q) 16 && b) (short_reach rest) ∙ short_first (length q) (reach rest)

-- ---- what is measured, at the depth of the table

pub words_measured : (is : ℕ → Bool) (table : Table) (t : ℕ) (m : Measure) → m ≡ measured is (length table) table t
    → m.words ≡ min 65537 (words table t)
unfolding words
words_measured is table t m right = ap (λ m. m.words) right

pub parts_measured : (is : ℕ → Bool) (table : Table) (t : ℕ) (m : Measure) → m ≡ measured is (length table) table t
    → m.parts ≡ min 65 (length (parts table t))
unfolding parts
parts_measured is table t m right = ap (λ m. m.parts) right

pub reach_measured : (is : ℕ → Bool) (table : Table) (t : ℕ) (m : Measure) → m ≡ measured is (length table) table t
    → m.reach ≡ min 18 (reach (parts table t))
unfolding parts
reach_measured is table t m right = ap (λ m. m.reach) right

-- ---- what follows

some_parts : (qs : List (List Sel)) → nat_lt 0 (min 65 (length qs)) ≡ not (is_nil qs)
some_parts [] = refl
some_parts (q ∷ rest) = grind arith

pub owning_measured : (is : ℕ → Bool) (table : Table) (values : List Measure) (t : ℕ) (m : Measure) → IsMeasured is table values
    → m ≡ get_or values t nothing → nat_lt 0 m.parts ≡ is_owning table t
owning_measured is table values t m right at =
    ap (λ n. nat_lt 0 n) (parts_measured is table t m (at ∙ right t)) ∙ some_parts (parts table t) ∙ sym (owning_has_part table t)

pub sizes_noted : (found first second third : Option Fault) (m : Measure) (table : Table) (p : Pos) (t : ℕ)
    → m.words ≡ min 65537 (words table t) → m.parts ≡ min 65 (length (parts table t)) → m.reach ≡ min 18 (reach (parts table t))
    → first ≡ noted found (demand 1 p (nat_le m.words 65536))
    → second ≡ noted first (demand 2 p (nat_le m.parts 64 && nat_le m.reach 17))
    → third ≡ noted second (demand 3 p (has_elements (full table t))) → third ≡ noted found (size_faults table p t)
sizes_noted found first second third m table p t w n r one two three =
    let w : nat_le m.words 65536 ≡ nat_le (words table t) 65536 = ap (λ k. nat_le k 65536) w ∙ few_words (words table t) in
    let n : nat_le m.parts 64 ≡ nat_le (length (parts table t)) 64 =
    ap (λ k. nat_le k 64) n ∙ few_parts (length (parts table t)) in
    let r : nat_le m.reach 17 ≡ all_short (parts table t) =
    ap (λ k. nat_le k 17) r ∙ near (reach (parts table t)) ∙ sym (short_reach (parts table t)) in
    let a : List Fault = demand 1 p (nat_le (words table t) 65536) in
    let b : List Fault = demand 2 p (nat_le (length (parts table t)) 64 && all_short (parts table t)) in
    let c : List Fault = demand 3 p (has_elements (full table t)) in
    let one : first ≡ noted found a = one ∙ ap (λ holds. noted found (demand 1 p holds)) w in
    let two : second ≡ noted first b = two ∙ (λ j. noted first (demand 2 p (n j && r j))) in
    three ∙ ap (λ f. noted f c) (two ∙ ap (λ f. noted f b) one)
    ∙ sym (noted_append found a (b ++ c) ∙ noted_append (noted found a) b c)
