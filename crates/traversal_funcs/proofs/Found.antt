-- What the search finds is what the label reaches.
use Rattle.std.proofs.Common.{◌≡◌, ◌⊎◌, refl, sym, ap, ◌∙◌, subst, inl, inr, ℕ, Bool, true, ◌||◌, List, [], ◌∷◌, ◌++◌, map, filter, length, length-append, ◌+◌, ◌<◌, arith}
use Rattle.spark_base.specs.Lists.{Has}
use Rattle.spark_base.proofs.Lists.{Has-append_left, Has-append_cases, Has-append_right, Has-filter, Has-filter_passes}
use Rattle.label_flow.specs.Flows.{Reaches, starts, moves}
use Rattle.label_flow.specs.Searches.{Searched}
use Rattle.label_flow.proofs.Worklist.{all_found}
use Rattle.traversal_funcs.specs.declared.lending.Lending.{Lending}
use Rattle.traversal_funcs.specs.Lendings.{holders_of}
use Rattle.traversal_funcs.specs.Searches.{flow_on, labels_in, is_found, Spread, missing}
use Rattle.traversal_funcs.proofs.Bools.{or_cases, or_true}
use Rattle.traversal_funcs.proofs.Held.{holder_lent}
use Rattle.traversal_funcs.proofs.Came.{found_decides}

abbrev sources_of : List Lending → List ℕ
sources_of ls = map (λ (l : Lending). l.source) ls

-- ---- the beginning

asked : (first : ℕ → Bool) (ls : List Lending) (found work : List ℕ) → Spread (filter first (sources_of ls)) [] [] found work
    → (a : ℕ) → labels_in first found a tt → first a ≡ true
asked first ls found work s a m = elim m [
  | inl e ↦ e
  | inr h ↦ elim (s.only a h) [ inl none ↦ absurd none | inr h ↦ (Has-filter first (sources_of ls) a h).1 ]
]

pub search_starts : (first : ℕ → Bool) (ls : List Lending) (none empty found work : List ℕ) → none ≡ [] → empty ≡ []
    → Spread (filter first (sources_of ls)) none empty found work → Searched (flow_on first ls) (labels_in first found) work
search_starts first ls none empty found work is_none is_empty sp = record {
  sound = λ a k m. starts a k (asked first ls found work s a m);
  start = λ a k e. inl e;
  closed = λ a b k m edge.
      let source = (holder_lent ls a b edge).source in
      let at = s.comes a (Has-filter_passes first (sources_of ls) a source (asked first ls found work s a m)) in
      elim (s.pushed a at) [ inl none ↦ absurd none | inr h ↦ inl h ];
}
  where
    s : Spread (filter first (sources_of ls)) [] [] found work
    s = subst (λ n. Spread (filter first (sources_of ls)) n [] found work) is_none (subst (λ n. Spread (filter first (sources_of ls)) none n found work) is_empty sp)

pub work_starts : (objects none empty found work : List ℕ) → empty ≡ [] → Spread objects none empty found work → (a : ℕ) → Has work a → Has found a
work_starts objects none empty found work is sp a h = elim (sp.known a h) [
  | inl h ↦ absurd (subst (λ l. Has l a) is h)
  | inr h ↦ h
]

-- ---- one iteration

taken_cases : (before work : List ℕ) (p a : ℕ) → before ≡ work ++ p ∷ [] → Has before a → Has work a ⊎ (p ≡ a)
taken_cases before work p a e h = elim (Has-append_cases work (p ∷ []) a (subst (λ l. Has l a) e h)) [
  | inl h ↦ inl h
  | inr h ↦ elim h [ inl is ↦ inr is | inr none ↦ absurd none ]
]

pub search_turn : (first : ℕ → Bool) (ls : List Lending) (p : ℕ) (holders before work found found1 work1 : List ℕ)
    → before ≡ work ++ p ∷ [] → holders ≡ holders_of p ls → ((a : ℕ) → Has before a → Has found a)
    → Searched (flow_on first ls) (labels_in first found) before → Spread holders found work found1 work1
    → Searched (flow_on first ls) (labels_in first found1) work1
search_turn first ls p holders before work found found1 work1 taken is known s sp = record {
  sound = λ a k m. elim m [
    | inl e ↦ starts a k e
    | inr h ↦ elim (sp.only a h) [
      | inl h ↦ s.sound a k (inr h)
      | inr h ↦ moves p a k (s.sound p k (inr (known p (subst (λ l. Has l p) (sym taken) (Has-append_right work (p ∷ []) p (inl refl))))))
          (subst (λ l. Has l a) is h)
    ]
  ];
  start = λ a k e. inl e;
  closed = λ a b k m edge. by a b k edge (old a m);
}
  where
    -- what was known before, or is in the work
    old : (a : ℕ) → labels_in first found1 a tt → labels_in first found a tt ⊎ Has work1 a
    old a m = elim m [
      | inl e ↦ inl (inl e)
      | inr h ↦ elim (sp.pushed a h) [ inl h ↦ inl (inr h) | inr h ↦ inr h ]
    ]

    more : (b : ℕ) (k : Unit {0}) → labels_in first found b k → labels_in first found1 b k
    more b k m = elim m [ inl e ↦ inl e | inr h ↦ inr (sp.keeps b h) ]

    by : (a b : ℕ) (k : Unit {0}) → Has (holders_of a ls) b → labels_in first found a tt ⊎ Has work1 a → Has work1 a ⊎ labels_in first found1 b k
    by a b k edge was = elim was [
      | inr h ↦ inl h
      | inl m ↦ elim (s.closed a b k m edge) [
        | inr done ↦ inr (more b k done)
        | inl h ↦ elim (taken_cases before work p a taken h) [
          | inl h ↦ inl (sp.works a h)
          | inr here ↦ inr (inr (sp.comes b (subst (λ l. Has l b) (sym is) (subst (λ t. Has (holders_of t ls) b) (sym here) edge))))
        ]
      ]
    ]

pub work_turn : (p : ℕ) (holders before work found found1 work1 : List ℕ) → before ≡ work ++ p ∷ [] → ((a : ℕ) → Has before a → Has found a)
    → Spread holders found work found1 work1 → (a : ℕ) → Has work1 a → Has found1 a
work_turn p holders before work found found1 work1 taken known sp a h = elim (sp.known a h) [
  | inl h ↦ sp.keeps a (known a (subst (λ l. Has l a) (sym taken) (Has-append_left work (p ∷ []) a h)))
  | inr h ↦ h
]

pub turn_pays : (ls : List Lending) (p : ℕ) (holders before work found found1 work1 : List ℕ) → before ≡ work ++ p ∷ [] → holders ≡ holders_of p ls
    → Spread holders found work found1 work1 → missing found1 ls + length work1 < missing found ls + length before
turn_pays ls p holders before work found found1 work1 taken is sp =
    let pays = sp.pays ls (λ a h. (holder_lent ls p a (subst (λ l. Has l a) is h)).holder) in
    let n = ap length taken ∙ length-append work (p ∷ []) in
    omega arith

-- ---- the end

pub none_left : {A : Type 0} (xs : List A) → length xs ≡ 0 → xs ≡ []
none_left [] e = refl
none_left (x ∷ xs) e = absurd (omega arith)

pub search_ends : (first : ℕ → Bool) (ls : List Lending) (found work : List ℕ) → work ≡ []
    → Searched (flow_on first ls) (labels_in first found) work
    → (x : ℕ) → ((first x || is_found x found) ≡ true → Reaches (flow_on first ls) x tt)
    × (Reaches (flow_on first ls) x tt → (first x || is_found x found) ≡ true)
search_ends first ls found work none s x = (
  λ e. s.sound x tt (elim (or_cases (first x) (is_found x found) e) [ inl e ↦ inl e | inr e ↦ inr ((found_decides x found).0 e) ]),
  λ r. or_true (first x) (is_found x found)
      (elim (all_found (flow_on first ls) (labels_in first found) (subst (Searched (flow_on first ls) (labels_in first found)) none s) x tt r) [
        | inl e ↦ inl e
        | inr h ↦ inr ((found_decides x found).1 h)
      ]),
)
