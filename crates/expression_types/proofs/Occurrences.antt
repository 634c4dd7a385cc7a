-- Words that occur in a list, and what an index of them answers.
use Rattle.std.proofs.Common.{◌≡◌, ℕ, zero, suc, ◌+◌, ◌<◌, ◌≤◌, Bool, true, false, not, ◌||◌, ◌&&◌, if◌then◌else◌, List, [], ◌∷◌, map, length, drop, nat_eq, get_or, Option, Some, None, is_some, refl, sym, ap, ◌∙◌, arith, true≢false}
use Rattle.std.specs.Char.{to_ascii_lowercase}
use Rattle.std.specs.Cmp.Lexicographic.{pointwise}
use Rattle.std.specs.Map.{lookup}
use Rattle.std.proofs.Math.Seq.{drop-cons}
use Rattle.std.proofs.lemmas.Bool.{eqb-true}
use Rattle.std.proofs.lemmas.List.{get_or_past, length-map}
use Rattle.type_definitions.specs.declared.table.Component.{Component}
use Rattle.type_definitions.specs.declared.table.FormalInfo.{FormalInfo}
use Rattle.type_definitions.specs.declared.judgement.Role.{Role}
use Rattle.type_definitions.specs.declared.judgement.Role.TheVariants as role
use Rattle.type_definitions.specs.declared.judgement.View.{View}
use Rattle.type_definitions.specs.declared.judgement.View.TheVariants as view
use Rattle.type_definitions.specs.Types.{fields}
use Rattle.type_definitions.specs.Entries.{entry_of, same_word}
use Rattle.type_definitions.specs.Names.{Context, seen}
use Rattle.type_definitions.specs.Expressions.{Given, by_name, meant, count_of, each_once, formal, no_component, no_formal, part, part_type, profile_of, role_type}
use Rattle.expression_types.specs.declared.word_index.Occurrence.{Occurrence}
use Rattle.expression_types.specs.Occurrences.{occurrence, both_lists, is_single, each_single, Entries, occurs, next_occurrence, with_word, with_given, component_names, formal_names, names_for, number_found, number_for}

-- Words that compare as the same are the same.
same_is : (a b : List ℕ) → pointwise nat_eq a b ≡ true → a ≡ b
same_is [] [] h = refl
same_is [] (y ∷ ys) h = absurd (true≢false (sym h))
same_is (x ∷ xs) [] h = absurd (true≢false (sym h))
same_is (x ∷ xs) (y ∷ ys) h = by (nat_eq x y) refl h (same_is xs ys)
  where
    by : (b : Bool) → nat_eq x y ≡ b → (b && pointwise nat_eq xs ys) ≡ true → (pointwise nat_eq xs ys ≡ true → xs ≡ ys) → (x ∷ xs) ≡ (y ∷ ys)
    by true e h rest = cc (eqb-true x y e, rest h)
    by false e h rest = absurd (true≢false (sym h))

-- ---- one more of a list

same_occurs : (entries : Entries) (w v : List ℕ) → same_word w v ≡ true → occurs entries w ≡ occurs entries v
same_occurs entries w v is = ap (λ k. lookup (pointwise nat_eq k) entries) (same_is (map to_ascii_lowercase w) (map to_ascii_lowercase v) is)

or_true : (a : Bool) → true ≡ a || true
or_true true = refl
or_true false = refl

-- A word that occurs here, and maybe before.
here_again : (n : ℕ) (o : Option Occurrence) (q : Option Occurrence)
    → both_lists (Some (next_occurrence n o)) q ≡ both_lists o (Some (record { first = n; again = is_some q }))
here_again n None q = refl
here_again n (Some p) q = ap (λ b. Some (record { first = p.first; again = b })) (or_true p.again)

with_one : (b : Bool) (n : ℕ) (o f q : Option Occurrence) → (b ≡ true → f ≡ o)
    → both_lists (if b then Some (next_occurrence n o) else f) q ≡ both_lists f (if b then Some (record { first = n; again = is_some q }) else q)
with_one true n o f q is = here_again n o q ∙ ap (λ f. both_lists f (Some (record { first = n; again = is_some q }))) (sym (is refl))
with_one false n o f q is = refl

with_more : (entries : Entries) (g : Given) (n : ℕ) (rest : List Given) (w : List ℕ)
    → both_lists (with_given (occurs entries) g n w) (occurrence (n + 1) rest w) ≡ both_lists (occurs entries w) (occurrence n (g ∷ rest) w)
with_more entries None n rest w = refl
with_more entries (Some v) n rest w =
    with_one (same_word w v) n (occurs entries v) (occurs entries w) (occurrence (n + 1) rest w) (same_occurs entries w v)

pub given_step : (before after : Entries) (g : Given) (n m : ℕ) (names rest : List Given) (all : Option Occurrence) (w : List ℕ)
    → occurs after w ≡ with_given (occurs before) g n w → m ≡ n + 1 → names ≡ g ∷ rest
    → both_lists (occurs before w) (occurrence n names w) ≡ all → both_lists (occurs after w) (occurrence m rest w) ≡ all
given_step before after g n m names rest all w is next names_is whole =
    ap (λ o. both_lists o (occurrence m rest w)) is ∙ ap (λ k. both_lists (with_given (occurs before) g n w) (occurrence k rest w)) next
    ∙ with_more before g n rest w ∙ ap (λ gs. both_lists (occurs before w) (occurrence n gs w)) (sym names_is) ∙ whole

pub component_step : (before after : Entries) (components : List Component) (i j : ℕ) (d : Component) (all : Option Occurrence) (w : List ℕ)
    → i < length components → j ≡ i + 1 → occurs after w ≡ with_word (occurs before) (get_or components i d).name i w
    → both_lists (occurs before w) (occurrence i (component_names (drop i components)) w) ≡ all
    → both_lists (occurs after w) (occurrence j (component_names (drop j components)) w) ≡ all
component_step before after components i j d all w lt next is whole =
    let e : j ≡ suc i = omega (arith, next) in
    given_step before after (Some (get_or components i d).name) i j (component_names (drop i components)) (component_names (drop j components)) all w is next
    (ap component_names (drop-cons components i d lt) ∙ ap (λ k. component_names (get_or components i d ∷ drop k components)) (sym e)) whole

pub formal_step : (before after : Entries) (formals : List FormalInfo) (i j : ℕ) (d : FormalInfo) (all : Option Occurrence) (w : List ℕ)
    → i < length formals → j ≡ i + 1 → occurs after w ≡ with_word (occurs before) (get_or formals i d).name i w
    → both_lists (occurs before w) (occurrence i (formal_names (drop i formals)) w) ≡ all
    → both_lists (occurs after w) (occurrence j (formal_names (drop j formals)) w) ≡ all
formal_step before after formals i j d all w lt next is whole =
    let e : j ≡ suc i = omega (arith, next) in
    given_step before after (Some (get_or formals i d).name) i j (formal_names (drop i formals)) (formal_names (drop j formals)) all w is next
    (ap formal_names (drop-cons formals i d lt) ∙ ap (λ k. formal_names (get_or formals i d ∷ drop k formals)) (sym e)) whole

-- At the end of the list.
pub both_end : (o all : Option Occurrence) → both_lists o None ≡ all → o ≡ all
both_end None all is = is
both_end (Some p) all is = ap (λ b. Some (record { first = p.first; again = b })) (or_false p.again) ∙ is
  where
    or_false : (a : Bool) → a ≡ a || false
    or_false true = refl
    or_false false = refl

past_drop : {A : Type 0} (list : List A) (i : ℕ) → length list ≤ i → drop i list ≡ []
past_drop [] zero le = refl
past_drop [] (suc i) le = refl
past_drop (a ∷ rest) zero le = absurd (omega (arith, le))
past_drop (a ∷ rest) (suc i) le = past_drop rest i (omega (arith, le))

pub component_end : (components : List Component) (i : ℕ) (o all : Option Occurrence) (w : List ℕ) → length components ≤ i
    → both_lists o (occurrence i (component_names (drop i components)) w) ≡ all → o ≡ all
component_end components i o all w past is =
    both_end o all (ap (λ cs. both_lists o (occurrence i (component_names cs) w)) (sym (past_drop components i past)) ∙ is)

pub formal_end : (formals : List FormalInfo) (i : ℕ) (o all : Option Occurrence) (w : List ℕ) → length formals ≤ i
    → both_lists o (occurrence i (formal_names (drop i formals)) w) ≡ all → o ≡ all
formal_end formals i o all w past is =
    both_end o all (ap (λ fs. both_lists o (occurrence i (formal_names fs) w)) (sym (past_drop formals i past)) ∙ is)

-- ---- a word that occurs once

none_of : (n : ℕ) (given : List Given) (w : List ℕ) → is_some (occurrence n given w) ≡ not (nat_eq (count_of w given) 0)
none_of n [] w = refl
none_of n (None ∷ rest) w = none_of (n + 1) rest w
none_of n (Some v ∷ rest) w = by (same_word w v) (none_of (n + 1) rest w)
  where
    by : (b : Bool) → is_some (occurrence (n + 1) rest w) ≡ not (nat_eq (count_of w rest) 0)
        → is_some (if b then Some (record { first = n; again = is_some (occurrence (n + 1) rest w) }) else occurrence (n + 1) rest w)
        ≡ not (nat_eq (if b then count_of w rest + 1 else count_of w rest) 0)
    by true is = grind arith
    by false is = is

single_of : (n : ℕ) (given : List Given) (w : List ℕ) → is_single (occurrence n given w) ≡ nat_eq (count_of w given) 1
single_of n [] w = refl
single_of n (None ∷ rest) w = single_of (n + 1) rest w
single_of n (Some v ∷ rest) w = by (same_word w v) (none_of (n + 1) rest w) (single_of (n + 1) rest w)
  where
    twice : (a : Bool) (k : ℕ) → a ≡ not (nat_eq k 0) → not a ≡ nat_eq (k + 1) 1
    twice a k is = grind (arith, is)

    by : (b : Bool) → is_some (occurrence (n + 1) rest w) ≡ not (nat_eq (count_of w rest) 0)
        → is_single (occurrence (n + 1) rest w) ≡ nat_eq (count_of w rest) 1
        → is_single (if b then Some (record { first = n; again = is_some (occurrence (n + 1) rest w) }) else occurrence (n + 1) rest w)
        ≡ nat_eq (if b then count_of w rest + 1 else count_of w rest) 1
    by true is single = twice (is_some (occurrence (n + 1) rest w)) (count_of w rest) is
    by false is single = single

pub each_is : (entries : Entries) (given : List Given) → ((w : List ℕ) → occurs entries w ≡ occurrence 0 given w) → (names : List (List ℕ))
    → each_single entries names ≡ each_once names given
each_is entries given same [] = refl
each_is entries given same (w ∷ rest) =
    let here : is_single (occurs entries w) ≡ nat_eq (count_of w given) 1 = ap is_single (same w) ∙ single_of 0 given w in
    let there : each_single entries rest ≡ each_once rest given = each_is entries given same rest in
    λ j. here j && there j

-- ---- what an argument is for

module _ {A : Type 0} (word : A → List ℕ) (d : A) (all : List A) (w : List ℕ) where
  named_at : (n : ℕ) (list : List A) → ((k : ℕ) → get_or all (n + k) d ≡ get_or list k d)
      → by_name word d w list ≡ get_or all (number_found (length all) (occurrence n (map (λ a. Some (word a)) list) w)) d
  named_at n [] at = sym (get_or_past all (length all) d (omega arith))
  named_at n (a ∷ rest) at =
      by (same_word w (word a)) (sym (at 0) ∙ ap (λ k. get_or all k d) (zero_behind n))
      (named_at (n + 1) rest (λ k. ap (λ m. get_or all m d) (one_behind n k) ∙ at (suc k)))
    where
      zero_behind : (n : ℕ) → n + 0 ≡ n
      zero_behind n = omega arith

      one_behind : (n k : ℕ) → n + 1 + k ≡ n + suc k
      one_behind n k = omega arith

      by : (b : Bool) → a ≡ get_or all n d
          → by_name word d w rest ≡ get_or all (number_found (length all) (occurrence (n + 1) (map (λ a. Some (word a)) rest) w)) d
          → (if b then a else by_name word d w rest)
          ≡ get_or all (number_found (length all) (if b then Some (record { first = n; again = is_some (occurrence (n + 1) (map (λ a. Some (word a)) rest) w) })
          else occurrence (n + 1) (map (λ a. Some (word a)) rest) w)) d
      by true here there = here
      by false here there = there

meant_at : {A : Type 0} (word : A → List ℕ) (d : A) (list : List A) (i : ℕ) (w : Given)
    → get_or list (number_for (map (λ a. Some (word a)) list) i w) d ≡ meant word d list i w
meant_at word d list i None = refl
meant_at word d list i (Some w) =
    ap (λ n. get_or list (number_found n (occurrence 0 (map (λ a. Some (word a)) list) w)) d) (length-map list (λ a. Some (word a)))
    ∙ sym (named_at word d list w 0 list (λ k. ap (λ m. get_or list m d) (none_before k)))
  where
    none_before : (k : ℕ) → 0 + k ≡ k
    none_before k = omega arith

pub formal_number : (c : Context) (f i n : ℕ) (w : Given) → n ≡ number_for (names_for c (role.Actuals f)) i w → formal c f n None ≡ formal c f i w
formal_number c f i n w is =
    let formals : List FormalInfo = (profile_of (entry_of c.known f)).formals in
    ap (λ k. get_or formals k no_formal) is ∙ meant_at (λ f. f.name) no_formal formals i w

part_at : (v : View) (cs : List Component) (i n : ℕ) (w : Given) → n ≡ number_for (component_names cs) i w → part_type v cs n None ≡ part_type v cs i w
part_at view.Fields cs i n w is =
    ap (λ c. c.of) (ap (λ k. get_or cs k no_component) is ∙ meant_at (λ c. c.name) no_component cs i w)
part_at (view.Elements low high e) cs i n w is = refl
part_at (view.Whole low high) cs i n w is = refl
part_at (view.Listed low high) cs i n w is = refl
part_at (view.Access t constant named) cs i n w is = refl
part_at view.Hidden cs i n w is = refl

pub part_number : (c : Context) (t i n : ℕ) (w : Given) → n ≡ number_for (names_for c (role.Parts t)) i w → part c t n None ≡ part c t i w
part_number c t i n w is = part_at (seen c t) (fields c.known.table t) i n w is

pub type_number : (c : Context) (r : Role) (i n : ℕ) (w : Given) → n ≡ number_for (names_for c r) i w → role_type c r n None ≡ role_type c r i w
type_number c (role.Parts t) i n w is = part_number c t i n w is
type_number c (role.Actuals f) i n w is = ap (λ f. f.of) (formal_number c f i n w is)
type_number c (role.Allocated t) i n w is = refl
type_number c (role.Every t) i n w is = refl
