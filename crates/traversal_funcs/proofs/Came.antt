-- Objects that are found, one after another.
use Rattle.std.proofs.Common.{◌≡◌, refl, sym, ap, ◌∙◌, subst, inl, inr, ℕ, ◌+◌, ◌≤◌, ◌<◌, Bool, true, false, ◌||◌, nat_eq, eqb-true, eq-eqb, List, [], ◌∷◌, ◌++◌, map, filter, take, get_or, length, length-append, append-nil, if◌then◌else◌, arith}
use Rattle.std.specs.Bool.{Decides}
use Rattle.std.specs.Prelude.{cond}
use Rattle.std.proofs.lemmas.List.{take_more}
use Rattle.spark_base.specs.Lists.{Has}
use Rattle.spark_base.proofs.Lists.{Has-append_left, Has-append_right, Has-append_cases, list_any-decides}
use Rattle.flow_paths.specs.Objects.{Typing}
use Rattle.traversal_funcs.specs.declared.lending.Lending.{Lending}
use Rattle.traversal_funcs.specs.declared.questions.Question.{Question}
use Rattle.traversal_funcs.specs.Questions.{is_answer}
use Rattle.traversal_funcs.specs.Searches.{is_found, Came, Spread, missing, all_holders, starts_of}

same_number : (x y : ℕ) → Decides (nat_eq x y) (y ≡ x)
same_number x y = (λ e. sym (eqb-true x y e), λ e. eq-eqb x y (sym e))

pub found_decides : (x : ℕ) (found : List ℕ) → Decides (is_found x found) (Has found x)
found_decides x found = list_any-decides (nat_eq x) x (same_number x) found

-- ---- what isn't found yet

or_false : (b : Bool) → (b || false) ≡ b
or_false true = refl
or_false false = refl

or_more : (a b c : Bool) → (a || (b || c)) ≡ ((a || b) || c)
or_more true b c = refl
or_more false b c = refl

found_end : (found : List ℕ) (h x : ℕ) → is_found h (found ++ x ∷ []) ≡ (is_found h found || nat_eq h x)
found_end [] h x = or_false (nat_eq h x)
found_end (y ∷ found) h x = ap (λ b. nat_eq h y || b) (found_end found h x) ∙ or_more (nat_eq h y) (is_found h found) (nat_eq h x)

abbrev count : Bool → ℕ
count b = if b then 0 else 1

less : (b c : Bool) → count (b || c) ≤ count b
less true c = omega arith
less false true = omega arith
less false false = omega arith

never_more : (found : List ℕ) (x : ℕ) (all : List Lending) → missing (found ++ x ∷ []) all ≤ missing found all
never_more found x [] = omega arith
never_more found x (l ∷ rest) =
    let here : count (is_found l.holder (found ++ x ∷ [])) ≡ count (is_found l.holder found || nat_eq l.holder x) = ap count (found_end found l.holder x) in
    let fewer : count (is_found l.holder found || nat_eq l.holder x) ≤ count (is_found l.holder found) = less (is_found l.holder found) (nat_eq l.holder x) in
    let later : missing (found ++ x ∷ []) rest ≤ missing found rest = never_more found x rest in
    omega arith

pub one_fewer : (found : List ℕ) (x : ℕ) (all : List Lending) → is_found x found ≡ false → Has (all_holders all) x
    → missing (found ++ x ∷ []) all + 1 ≤ missing found all
one_fewer found x [] none h = absurd h
one_fewer found x (l ∷ rest) none h = elim h [
  | inl is ↦
      let was : count (is_found l.holder found) ≡ 1 = ap count (ap (λ y. is_found y found) is ∙ none) in
      let now : count (is_found l.holder (found ++ x ∷ [])) ≡ 0 =
      ap count ((found_decides l.holder (found ++ x ∷ [])).1 (Has-append_right found (x ∷ []) l.holder (inl (sym is)))) in
      let later : missing (found ++ x ∷ []) rest ≤ missing found rest = never_more found x rest in
      omega arith
  | inr h ↦
      let here : count (is_found l.holder (found ++ x ∷ [])) ≡ count (is_found l.holder found || nat_eq l.holder x) = ap count (found_end found l.holder x) in
      let fewer : count (is_found l.holder found || nat_eq l.holder x) ≤ count (is_found l.holder found) = less (is_found l.holder found) (nat_eq l.holder x) in
      let later : missing (found ++ x ∷ []) rest + 1 ≤ missing found rest = one_fewer found x rest none h in
      omega arith
]

-- ---- one object after another

pub spread_none : (found work : List ℕ) → Spread [] found work found work
spread_none found work = record {
  keeps = λ a h. h;
  comes = λ a h. absurd h;
  only = λ a h. inl h;
  works = λ a h. h;
  pushed = λ a h. inl h;
  known = λ a h. inl h;
  pays = λ all held. omega arith;
}

spread_old : (objects : List ℕ) (x : ℕ) (found work found1 work1 : List ℕ) → Spread objects found work found1 work1 → Has found1 x
    → Spread (objects ++ x ∷ []) found work found1 work1
spread_old objects x found work found1 work1 s there = record {
  keeps = s.keeps;
  comes = λ a h. elim (Has-append_cases objects (x ∷ []) a h) [
    | inl h ↦ s.comes a h
    | inr e ↦ elim e [ inl is ↦ subst (Has found1) is there | inr none ↦ absurd none ]
  ];
  only = λ a h. elim (s.only a h) [ inl h ↦ inl h | inr h ↦ inr (Has-append_left objects (x ∷ []) a h) ];
  works = s.works;
  pushed = s.pushed;
  known = s.known;
  pays = λ all held. s.pays all (λ a h. held a (Has-append_left objects (x ∷ []) a h));
}

spread_new : (objects : List ℕ) (x : ℕ) (found work found1 work1 : List ℕ) → Spread objects found work found1 work1 → is_found x found1 ≡ false
    → Spread (objects ++ x ∷ []) found work (found1 ++ x ∷ []) (work1 ++ x ∷ [])
spread_new objects x found work found1 work1 s none = record {
  keeps = λ a h. Has-append_left found1 (x ∷ []) a (s.keeps a h);
  comes = λ a h. elim (Has-append_cases objects (x ∷ []) a h) [
    | inl h ↦ Has-append_left found1 (x ∷ []) a (s.comes a h)
    | inr e ↦ Has-append_right found1 (x ∷ []) a e
  ];
  only = λ a h. elim (Has-append_cases found1 (x ∷ []) a h) [
    | inl h ↦ elim (s.only a h) [ inl h ↦ inl h | inr h ↦ inr (Has-append_left objects (x ∷ []) a h) ]
    | inr e ↦ inr (Has-append_right objects (x ∷ []) a e)
  ];
  works = λ a h. Has-append_left work1 (x ∷ []) a (s.works a h);
  pushed = λ a h. elim (Has-append_cases found1 (x ∷ []) a h) [
    | inl h ↦ elim (s.pushed a h) [ inl h ↦ inl h | inr h ↦ inr (Has-append_left work1 (x ∷ []) a h) ]
    | inr e ↦ inr (Has-append_right work1 (x ∷ []) a e)
  ];
  known = λ a h. elim (Has-append_cases work1 (x ∷ []) a h) [
    | inl h ↦ elim (s.known a h) [ inl h ↦ inl h | inr h ↦ inr (Has-append_left found1 (x ∷ []) a h) ]
    | inr e ↦ inr (Has-append_right found1 (x ∷ []) a e)
  ];
  pays = λ all held.
      let before = s.pays all (λ a h. held a (Has-append_left objects (x ∷ []) a h)) in
      let fewer = one_fewer found1 x all none (held x (Has-append_right objects (x ∷ []) x (inl refl))) in
      let n = length-append work1 (x ∷ []) in
      omega arith;
}

pub spread_more : (objects : List ℕ) (x : ℕ) (found work found1 work1 found2 work2 : List ℕ) → Spread objects found work found1 work1
    → Came x found1 work1 found2 work2 → Spread (objects ++ x ∷ []) found work found2 work2
spread_more objects x found work found1 work1 found2 work2 s came = elim came [
  | inl old ↦
      subst (λ f. Spread (objects ++ x ∷ []) found work f work2) (sym old.1)
      (subst (λ w. Spread (objects ++ x ∷ []) found work found1 w) (sym old.2)
      (spread_old objects x found work found1 work1 s ((found_decides x found1).0 old.0)))
  | inr new ↦
      subst (λ f. Spread (objects ++ x ∷ []) found work f work2) (sym new.1)
      (subst (λ w. Spread (objects ++ x ∷ []) found work (found1 ++ x ∷ []) w) (sym new.2)
      (spread_new objects x found work found1 work1 s new.0))
]

-- a loop over holders
pub spread_step : (objects : List ℕ) (i x d : ℕ) (found work found1 work1 found2 work2 : List ℕ) → i < length objects → x ≡ get_or objects i d
    → Spread (take i objects) found work found1 work1 → Came x found1 work1 found2 work2
    → Spread (take (i + 1) objects) found work found2 work2
spread_step objects i x d found work found1 work1 found2 work2 h is s came =
    subst (λ l. Spread l found work found2 work2) (ap (λ y. take i objects ++ y ∷ []) is ∙ sym (take_more objects i d h))
    (spread_more (take i objects) x found work found1 work1 found2 work2 s came)

-- ---- the sources that are asked for

starts_end : (test : ℕ → Bool) (ls : List Lending) (l : Lending)
    → filter test (map (λ (y : Lending). y.source) (ls ++ l ∷ []))
    ≡ filter test (map (λ (y : Lending). y.source) ls) ++ cond (test l.source) (l.source ∷ []) []
starts_end test [] l = refl
starts_end test (y ∷ ls) l = by (test y.source) _ _ (starts_end test ls l)
  where
    by : (b : Bool) (now was : List ℕ) → now ≡ was ++ cond (test l.source) (l.source ∷ []) []
        → cond b (y.source ∷ now) now ≡ cond b (y.source ∷ was) was ++ cond (test l.source) (l.source ∷ []) []
    by true now was e = ap (λ xs. y.source ∷ xs) e
    by false now was e = e

start_is : (s : Typing) (q : Question) (ls : List Lending) (i : ℕ) (l d : Lending) → i < length ls → l ≡ get_or ls i d
    → starts_of s q (take (i + 1) ls) ≡ starts_of s q (take i ls) ++ cond (is_answer s q l.source) (l.source ∷ []) []
start_is s q ls i l d h is =
    ap (starts_of s q) (take_more ls i d h ∙ ap (λ y. take i ls ++ y ∷ []) (sym is)) ∙ starts_end (is_answer s q) (take i ls) l

pub start_step : (s : Typing) (q : Question) (ls : List Lending) (i : ℕ) (l d : Lending) (found work found1 work1 found2 work2 : List ℕ)
    → i < length ls → l ≡ get_or ls i d → is_answer s q l.source ≡ true → Spread (starts_of s q (take i ls)) found work found1 work1
    → Came l.source found1 work1 found2 work2 → Spread (starts_of s q (take (i + 1) ls)) found work found2 work2
start_step s q ls i l d found work found1 work1 found2 work2 h is asked sp came =
    subst (λ xs. Spread xs found work found2 work2)
    (sym (start_is s q ls i l d h is ∙ ap (λ b. starts_of s q (take i ls) ++ cond b (l.source ∷ []) []) asked))
    (spread_more (starts_of s q (take i ls)) l.source found work found1 work1 found2 work2 sp came)

pub start_skip : (s : Typing) (q : Question) (ls : List Lending) (i : ℕ) (l d : Lending) (found work found1 work1 : List ℕ)
    → i < length ls → l ≡ get_or ls i d → is_answer s q l.source ≡ false → Spread (starts_of s q (take i ls)) found work found1 work1
    → Spread (starts_of s q (take (i + 1) ls)) found work found1 work1
start_skip s q ls i l d found work found1 work1 h is asked sp =
    subst (λ xs. Spread xs found work found1 work1)
    (sym (start_is s q ls i l d h is ∙ ap (λ b. starts_of s q (take i ls) ++ cond b (l.source ∷ []) []) asked ∙ append-nil (starts_of s q (take i ls)))) sp
