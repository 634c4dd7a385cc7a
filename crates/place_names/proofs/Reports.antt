-- The order of reports tells any two of them apart, so a list of the reports of a property is the
-- only one, and there is one where the reports are those of some list.
use Rattle.std.proofs.Common.{◌≡◌, ◌⊎◌, inl, inr, refl, sym, ap, ◌∙◌, subst, ℕ, List, [], ◌∷◌, get_or, Option, Some, None, rules}
use Rattle.std.specs.declared.cmp.Ordering.{Ordering}
use Rattle.std.specs.declared.cmp.Ordering.TheVariants.{Less, Equal, Greater}
use Rattle.std.specs.Ordering.{ordering_then, ordering_reverse, match_ordering, nat_cmp}
use Rattle.std.specs.Cmp.{IsTotalOrder, nat_cmp_total, on_total, then_total, back_total, tied_itself}
use Rattle.std.specs.Cmp.Lexicographic.{slice_cmp, lists_total, nat_list_cmp_total}
use Rattle.spark_base.specs.Lists.{Has}
use Rattle.spark_base.specs.Positions.{position_cmp}
use Rattle.spark_base.proofs.Orders.{then_equal, nat_cmp-equal, slice_cmp-equal}
use Rattle.spark_base.proofs.Positions.{position_cmp_total, position_cmp-equal}
use Rattle.place_names.specs.declared.selector.Sel.{Sel}
use Rattle.place_names.specs.declared.selector.Sel.TheVariants.{Field, Elem, Deref}
use Rattle.place_names.specs.contracts.selector.SelOrd.TheImpl as sel_ord
use Rattle.place_names.specs.declared.rule.State.{State}
use Rattle.place_names.specs.declared.rule.State.TheVariants as state
use Rattle.place_names.specs.declared.rule.Rule.{Rule}
use Rattle.place_names.specs.declared.rule.Rule.TheVariants.{O1, O2, O3, O4, O5, O6, O7, O8, O9, O10, O11, O14, A1, A2, V1, V2, V3, V4}
use Rattle.place_names.specs.contracts.rule.RuleOrd.TheImpl as rule_ord
use Rattle.place_names.specs.Names.{Name}
use Rattle.place_names.specs.Reports.{Report, rule_rank, word_rank, selector_cmp, report_cmp, IsAscending, IsReportList}

-- ---- rules, words and selectors

abbrev pub rule_cmp : Rule → Rule → Ordering
rule_cmp = (rule_ord.ghosts).cmp

-- the derived order goes by the rank of a rule; every pair of rules is looked at
pub rule_cmp-ranks : (a b : Rule) → rule_cmp a b ≡ nat_cmp (rule_rank a) (rule_rank b)
rule_cmp-ranks O1 O1 = refl
rule_cmp-ranks _ O1 = refl
rule_cmp-ranks _ _ = refl

-- a rule by its rank, which counts from 1
abbrev ranked_rules : List Rule
ranked_rules = O1 ∷ O1 ∷ O2 ∷ O3 ∷ O4 ∷ O5 ∷ O6 ∷ O7 ∷ O8 ∷ O9 ∷ O10 ∷ O11 ∷ O14 ∷ A1 ∷ A2 ∷ V1 ∷ V2 ∷ V3 ∷ V4 ∷ []

rule_at_rank : (a : Rule) → get_or ranked_rules (rule_rank a) O1 ≡ a
rule_at_rank O1 = refl
rule_at_rank _ = refl

pub rule_rank-equal : (a b : Rule) → rule_rank a ≡ rule_rank b → a ≡ b
rule_rank-equal a b e = sym (rule_at_rank a) ∙ ap (λ n. get_or ranked_rules n O1) e ∙ rule_at_rank b

pub rule_cmp-equal : (a b : Rule) → rule_cmp a b ≡ Equal → a ≡ b
rule_cmp-equal a b e = rule_rank-equal a b (nat_cmp-equal (rule_rank a) (rule_rank b) (sym (rule_cmp-ranks a b) ∙ e))

abbrev ranked_words : List (Option State)
ranked_words = None ∷ Some state.Moved ∷ Some state.Borrowed ∷ Some state.Observed ∷ []

word_at_rank : (a : Option State) → get_or ranked_words (word_rank a) None ≡ a
word_at_rank None = refl
word_at_rank (Some state.Moved) = refl
word_at_rank (Some state.Borrowed) = refl
word_at_rank (Some state.Observed) = refl

pub word_rank-equal : (a b : Option State) → word_rank a ≡ word_rank b → a ≡ b
word_rank-equal a b e = sym (word_at_rank a) ∙ ap (λ n. get_or ranked_words n None) e ∙ word_at_rank b

-- the derived order of selectors is that of the definition
pub derived_selector_cmp : (s t : Sel) → (sel_ord.ghosts).cmp s t ≡ selector_cmp s t
derived_selector_cmp (Field i) (Field j) = search rules
derived_selector_cmp (Field i) Elem = refl
derived_selector_cmp (Field i) Deref = refl
derived_selector_cmp Elem (Field j) = refl
derived_selector_cmp Elem Elem = refl
derived_selector_cmp Elem Deref = refl
derived_selector_cmp Deref (Field j) = refl
derived_selector_cmp Deref Elem = refl
derived_selector_cmp Deref Deref = refl

-- it is the order of some lists of numbers
abbrev numbers_of : Sel → List ℕ
numbers_of (Field i) = 0 ∷ i ∷ []
numbers_of Elem = 1 ∷ []
numbers_of Deref = 2 ∷ []

then_equal_last : (o : Ordering) → ordering_then o Equal ≡ o
then_equal_last Less = refl
then_equal_last Equal = refl
then_equal_last Greater = refl

selector_cmp-numbers : (s t : Sel) → slice_cmp nat_cmp (numbers_of s) (numbers_of t) ≡ selector_cmp s t
selector_cmp-numbers (Field i) (Field j) = then_equal_last (nat_cmp i j)
selector_cmp-numbers (Field i) Elem = refl
selector_cmp-numbers (Field i) Deref = refl
selector_cmp-numbers Elem (Field j) = refl
selector_cmp-numbers Elem Elem = refl
selector_cmp-numbers Elem Deref = refl
selector_cmp-numbers Deref (Field j) = refl
selector_cmp-numbers Deref Elem = refl
selector_cmp-numbers Deref Deref = refl

pub selector_cmp_total : IsTotalOrder selector_cmp
selector_cmp_total = subst IsTotalOrder (λ i s t. selector_cmp-numbers s t i) (on_total numbers_of nat_list_cmp_total)

pub selector_cmp-equal : (s t : Sel) → selector_cmp s t ≡ Equal → s ≡ t
selector_cmp-equal (Field i) (Field j) e = ap Field (nat_cmp-equal i j e)
selector_cmp-equal (Field i) Elem e = cc
selector_cmp-equal (Field i) Deref e = cc
selector_cmp-equal Elem (Field j) e = cc
selector_cmp-equal Elem Elem e = refl
selector_cmp-equal Elem Deref e = cc
selector_cmp-equal Deref (Field j) e = cc
selector_cmp-equal Deref Elem e = cc
selector_cmp-equal Deref Deref e = refl

-- ---- reports

-- the flip, transitivity, and that reports that compare equal are ordered alike
pub report_cmp_total : (printed : Name → List ℕ) → IsTotalOrder (report_cmp printed)
report_cmp_total printed =
    then_total (on_total (λ (r : Report). r.pos) position_cmp_total)
    (then_total (on_total (λ (r : Report). rule_rank r.rule) nat_cmp_total)
    (then_total (on_total (λ (r : Report). printed r.name) nat_list_cmp_total)
    (then_total (on_total (λ (r : Report). word_rank r.word) nat_cmp_total)
    (then_total (back_total (on_total (λ (r : Report). r.name.root) nat_cmp_total))
    (on_total (λ (r : Report). r.name.sels) (lists_total selector_cmp_total))))))

-- no report stands before itself
pub report_cmp-self : (printed : Name → List ℕ) (r : Report) → report_cmp printed r r ≡ Equal
report_cmp-self printed r = tied_itself (report_cmp_total printed) r

pub report_cmp-flip : (printed : Name → List ℕ) (a b : Report) → report_cmp printed a b ≡ ordering_reverse (report_cmp printed b a)
report_cmp-flip printed a b = (report_cmp_total printed).antisymm a b

pub report_cmp-trans : (printed : Name → List ℕ) (a b c : Report) → report_cmp printed a b ≡ Less → report_cmp printed b c ≡ Less
    → report_cmp printed a c ≡ Less
report_cmp-trans printed a b c = (report_cmp_total printed).trans a b c

-- any two reports are ordered, whatever the texts of names are
pub report_cmp-equal : (printed : Name → List ℕ) (a b : Report) → report_cmp printed a b ≡ Equal → a ≡ b
report_cmp-equal printed a b e =
    let positions = then_equal (position_cmp a.pos b.pos) _ e in
    let rules = then_equal (nat_cmp (rule_rank a.rule) (rule_rank b.rule)) _ positions.1 in
    let texts = then_equal (slice_cmp nat_cmp (printed a.name) (printed b.name)) _ rules.1 in
    let words = then_equal (nat_cmp (word_rank a.word) (word_rank b.word)) _ texts.1 in
    let roots = then_equal (nat_cmp b.name.root a.name.root) _ words.1 in
    let pos = position_cmp-equal a.pos b.pos positions.0 in
    let rule = rule_rank-equal a.rule b.rule (nat_cmp-equal _ _ rules.0) in
    let word = word_rank-equal a.word b.word (nat_cmp-equal _ _ words.0) in
    let root = nat_cmp-equal b.name.root a.name.root roots.0 in
    let sels = slice_cmp-equal selector_cmp selector_cmp-equal a.name.sels b.name.sels roots.1 in
    λ i. record { pos = pos i; rule = rule i; name = record { root = sym root i; sels = sels i }; word = word i }

not_itself : (printed : Name → List ℕ) (r : Report) → report_cmp printed r r ≡ Less → ⊥
not_itself printed r less = let same : Less ≡ Equal = sym less ∙ report_cmp-self printed r in cc

not_both : (printed : Name → List ℕ) (a b : Report) → report_cmp printed a b ≡ Less → report_cmp printed b a ≡ Less → ⊥
not_both printed a b e f = not_itself printed a (report_cmp-trans printed a b a e f)

-- ---- a list of reports in order

-- none comes twice
pub no_repeats : (printed : Name → List ℕ) (r : Report) (rest : List Report) → IsAscending printed (r ∷ rest) → Has rest r → ⊥
no_repeats printed r rest up has = not_itself printed r (up.0 r has)

-- two lists in order are the same where they have the same reports
abbrev HasEach : List Report → List Report → Type 0
HasEach xs ys = (r : Report) → Has xs r → Has ys r

same_first : (printed : Name → List ℕ) (x y : Report) (xs ys : List Report) → IsAscending printed (x ∷ xs) → IsAscending printed (y ∷ ys)
    → Has (y ∷ ys) x → Has (x ∷ xs) y → x ≡ y
same_first printed x y xs ys up up' has has' = elim has [
  | inl e ↦ sym e
  | inr later ↦ elim has' [
    | inl e ↦ e
    | inr later' ↦ absurd (not_both printed x y (up.0 y later') (up'.0 x later))
  ]
]

same_rest : (printed : Name → List ℕ) (x y : Report) (xs ys : List Report) → IsAscending printed (x ∷ xs) → x ≡ y
    → HasEach (x ∷ xs) (y ∷ ys) → HasEach xs ys
same_rest printed x y xs ys up same each r h = elim (each r (inr h)) [
  | inl e ↦ absurd (no_repeats printed x xs up (subst (Has xs) (sym (same ∙ e)) h))
  | inr h ↦ h
]

pub ascending-unique : (printed : Name → List ℕ) (xs ys : List Report) → IsAscending printed xs → IsAscending printed ys
    → HasEach xs ys → HasEach ys xs → xs ≡ ys
ascending-unique printed [] [] up up' each each' = refl
ascending-unique printed [] (y ∷ ys) up up' each each' = absurd (each' y (inl refl))
ascending-unique printed (x ∷ xs) [] up up' each each' = absurd (each x (inl refl))
ascending-unique printed (x ∷ xs) (y ∷ ys) up up' each each' =
    let first = same_first printed x y xs ys up up' (each x (inl refl)) (each' y (inl refl)) in
    let rest = ascending-unique printed xs ys up.1 up'.1 (same_rest printed x y xs ys up first each)
    (same_rest printed y x ys xs up' (sym first) each') in
    λ i. first i ∷ rest i

-- the reports of a property are one list
pub report_list-unique : (printed : Name → List ℕ) (P : Report → Type 0) (xs ys : List Report)
    → IsReportList printed P xs → IsReportList printed P ys → xs ≡ ys
report_list-unique printed P xs ys a b =
    ascending-unique printed xs ys a.ascending b.ascending (λ r h. b.complete r (a.sound r h)) (λ r h. a.complete r (b.sound r h))

-- ---- there is such a list

abbrev insert_at : Ordering → Report → Report → List Report → List Report → List Report
insert_at o r x xs rest = match_ordering o (r ∷ x ∷ xs) (x ∷ xs) (x ∷ rest)

-- a report put in at its rank, unless it is there
abbrev pub insert_report : (Name → List ℕ) → Report → List Report → List Report
insert_report printed r [] = r ∷ []
insert_report printed r (x ∷ xs) = insert_at (report_cmp printed r x) r x xs (insert_report printed r xs)

from_step : (printed : Name → List ℕ) (o : Ordering) (r x y : Report) (xs rest : List Report) → (Has rest y → (r ≡ y) ⊎ Has xs y)
    → Has (insert_at o r x xs rest) y → (r ≡ y) ⊎ Has (x ∷ xs) y
from_step printed Less r x y xs rest f h = h
from_step printed Equal r x y xs rest f h = inr h
from_step printed Greater r x y xs rest f h = elim h [
  | inl e ↦ inr (inl e)
  | inr h ↦ elim (f h) [ inl e ↦ inl e | inr g ↦ inr (inr g) ]
]

pub insert_report-from : (printed : Name → List ℕ) (r : Report) (xs : List Report) (y : Report) → Has (insert_report printed r xs) y
    → (r ≡ y) ⊎ Has xs y
insert_report-from printed r [] y h = h
insert_report-from printed r (x ∷ xs) y h =
    from_step printed (report_cmp printed r x) r x y xs (insert_report printed r xs) (insert_report-from printed r xs y) h

keeps_step : (o : Ordering) (r x y : Report) (xs rest : List Report) → (Has xs y → Has rest y) → Has (x ∷ xs) y
    → Has (insert_at o r x xs rest) y
keeps_step Less r x y xs rest f h = inr h
keeps_step Equal r x y xs rest f h = h
keeps_step Greater r x y xs rest f h = elim h [ inl e ↦ inl e | inr h ↦ inr (f h) ]

pub insert_report-keeps : (printed : Name → List ℕ) (r : Report) (xs : List Report) (y : Report) → Has xs y
    → Has (insert_report printed r xs) y
insert_report-keeps printed r [] y h = absurd h
insert_report-keeps printed r (x ∷ xs) y h =
    keeps_step (report_cmp printed r x) r x y xs (insert_report printed r xs) (insert_report-keeps printed r xs y) h

has_step : (printed : Name → List ℕ) (o : Ordering) (r x : Report) (xs rest : List Report) → report_cmp printed r x ≡ o → Has rest r
    → Has (insert_at o r x xs rest) r
has_step printed Less r x xs rest e h = inl refl
has_step printed Equal r x xs rest e h = inl (sym (report_cmp-equal printed r x e))
has_step printed Greater r x xs rest e h = inr h

pub insert_report-has : (printed : Name → List ℕ) (r : Report) (xs : List Report) → Has (insert_report printed r xs) r
insert_report-has printed r [] = inl refl
insert_report-has printed r (x ∷ xs) =
    has_step printed (report_cmp printed r x) r x xs (insert_report printed r xs) refl (insert_report-has printed r xs)

ascends_step : (printed : Name → List ℕ) (o : Ordering) (r x : Report) (xs rest : List Report) → report_cmp printed r x ≡ o
    → IsAscending printed (x ∷ xs) → IsAscending printed rest → ((y : Report) → Has rest y → (r ≡ y) ⊎ Has xs y)
    → IsAscending printed (insert_at o r x xs rest)
ascends_step printed Less r x xs rest e up up' from = (
  λ y h. elim h [
    | inl same ↦ subst (λ z. report_cmp printed r z ≡ Less) same e
    | inr h ↦ report_cmp-trans printed r x y e (up.0 y h)
  ],
  up,
)
ascends_step printed Equal r x xs rest e up up' from = up
ascends_step printed Greater r x xs rest e up up' from = (
  λ y h. elim (from y h) [
    | inl same ↦ subst (λ z. report_cmp printed x z ≡ Less) same (report_cmp-flip printed x r ∙ ap ordering_reverse e)
    | inr h ↦ up.0 y h
  ],
  up',
)

pub insert_report-ascends : (printed : Name → List ℕ) (r : Report) (xs : List Report) → IsAscending printed xs
    → IsAscending printed (insert_report printed r xs)
insert_report-ascends printed r [] up = (λ y h. absurd h, tt)
insert_report-ascends printed r (x ∷ xs) up =
    ascends_step printed (report_cmp printed r x) r x xs (insert_report printed r xs) refl up
    (insert_report-ascends printed r xs up.1) (insert_report-from printed r xs)

-- where a property has the reports of some list in any order, with or without repeats, there is a
-- list as it should be
pub report_list-exists : (printed : Name → List ℕ) (all : List Report) → (xs : List Report) × IsReportList printed (Has all) xs
report_list-exists printed [] = ([], record { ascending = tt; sound = λ r h. h; complete = λ r h. h })
report_list-exists printed (r ∷ all) =
    let rest = report_list-exists printed all in
    let is = rest.1 in (
      insert_report printed r rest.0,
      record {
        ascending = insert_report-ascends printed r rest.0 is.ascending;
        sound = λ y h. elim (insert_report-from printed r rest.0 y h) [ inl e ↦ inl e | inr h ↦ inr (is.sound y h) ];
        complete = λ y h. elim h [
          | inl e ↦ subst (Has (insert_report printed r rest.0)) e (insert_report-has printed r rest.0)
          | inr h ↦ insert_report-keeps printed r rest.0 y (is.complete y h)
        ];
      },
    )

pub report_list-of : (printed : Name → List ℕ) (P : Report → Type 0) (all : List Report) → ((r : Report) → Has all r → P r)
    → ((r : Report) → P r → Has all r) → (xs : List Report) × IsReportList printed P xs
report_list-of printed P all only each =
    let found = report_list-exists printed all in
    let is = found.1 in (
      found.0,
      record { ascending = is.ascending; sound = λ r h. only r (is.sound r h); complete = λ r p. is.complete r (each r p) },
    )
