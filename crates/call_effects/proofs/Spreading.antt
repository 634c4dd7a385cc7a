-- How an object spreads to callers.
use Rattle.std.proofs.Common.{◌≡◌, ◌≢◌, refl, sym, ap, ◌∙◌, subst, ◌⊎◌, inl, inr, ℕ, zero, suc, ◌+◌, ◌<◌, ◌≤◌, ◌-◌, Bool, true, false, ◌==◌, eqb-true, List, [], ◌∷◌, ◌++◌, length, set, get_or, take, drop, add-one, get_or-set_same, get_or-set_other, length-append, Some, arith, cond}
use Rattle.std.proofs.Math.ListN.{length-set}
use Rattle.std.proofs.Math.Seq.{take-suc}
use Rattle.std.specs.Bool.{Decides}
use Rattle.std.specs.List.{slice_get}
use Rattle.spark_base.specs.Lists.{Has}
use Rattle.spark_base.proofs.Lists.{Has-append_left, Has-append_right, Has-append_cases, list_any-decides}
use Rattle.label_flow.specs.Flows.{Flow}
use Rattle.label_flow.specs.Searches.{Turning, Carried}
use Rattle.label_flow.proofs.Worklist.{search_begins, turn_begins, turn_goes_on, turn_ends}
use Rattle.flow_paths.specs.Effects.{is_in, Ascends}
use Rattle.call_effects.specs.Rows.{row}
use Rattle.call_effects.specs.Spreads.{flow_of, found, SearchedFor, AreUpTo, ReachedBy, Adds, AreFound, Spreading, AreStarted, lacking}
use Rattle.call_effects.proofs.Filed.{same_or_not, take_past}

-- ---- membership, as tests have it

pub is_in-decides : (x : ℕ) (xs : List ℕ) → Decides (is_in x xs) (Has xs x)
is_in-decides x xs = list_any-decides (λ y. x == y) x (λ y. (λ e. sym (eqb-true x y e), λ e. eqb_same x y (sym e))) xs
  where
    eqb_same : (x y : ℕ) → x ≡ y → (x == y) ≡ true
    eqb_same x y e = grind arith

pub in_has : (x : ℕ) (xs : List ℕ) → is_in x xs ≡ true → Has xs x
in_has x xs e = (is_in-decides x xs).0 e

pub has_in : (x : ℕ) (xs : List ℕ) → Has xs x → is_in x xs ≡ true
has_in x xs h = (is_in-decides x xs).1 h

-- ---- lists that ascend

-- the last element of a list that ascends is its largest
largest_at : (xs : List ℕ) (i last x : ℕ) → Ascends xs → length xs ≡ suc i → slice_get xs i ≡ Some last → Has xs x → x ≤ last
largest_at [] i last x up n e h = absurd h
largest_at (y ∷ []) zero last x up n e h = elim h [
  | inl is ↦ (let same : y ≡ last = cc in omega arith)
  | inr none ↦ absurd none
]
largest_at (y ∷ []) (suc i) last x up n e h = absurd (omega arith)
largest_at (y ∷ z ∷ xs) zero last x up n e h = absurd (omega arith)
largest_at (y ∷ z ∷ xs) (suc i) last x up n e h = elim h [
  | inl is ↦ (
      let first = up.0 z (inl refl) in
      let rest = largest_at (z ∷ xs) i last z up.1 (omega arith) e (inl refl) in
      omega arith)
  | inr later ↦ largest_at (z ∷ xs) i last x up.1 (omega arith) e later
]

last_largest : (xs : List ℕ) (last x : ℕ) → Ascends xs → slice_get xs (length xs - 1) ≡ Some last → Has xs x → x ≤ last
last_largest [] last x up e h = absurd h
last_largest (y ∷ xs) last x up e h = largest_at (y ∷ xs) (length (y ∷ xs) - 1) last x up (omega arith) e h

pub last_decides : (xs : List ℕ) (last g : ℕ) → Ascends xs → ((x : ℕ) → Has xs x → x ≤ g) → slice_get xs (length xs - 1) ≡ Some last
    → Has xs last → (last == g) ≡ false → Has xs g → ⊥
last_decides xs last g up most e there not_ h =
    let over = last_largest xs last g up e h in
    let under = most last there in
    let same : last ≡ g = omega arith in
    let yes_ : (last == g) ≡ true = eqb_self last g same in
    absurd (true_false (sym yes_ ∙ not_))
  where
    eqb_self : (a b : ℕ) → a ≡ b → (a == b) ≡ true
    eqb_self a b e = grind arith

    true_false : true ≡ false → ⊥
    true_false e = cc

pub Ascends-behind : (xs : List ℕ) (g : ℕ) → Ascends xs → ((x : ℕ) → Has xs x → x < g) → Ascends (xs ++ g ∷ [])
Ascends-behind [] g up below = (λ y h. absurd h, tt)
Ascends-behind (x ∷ xs) g up below = (
  λ y h. elim (Has-append_cases xs (g ∷ []) y h) [
    | inl old_ ↦ up.0 y old_
    | inr last ↦ elim last [ inl e ↦ subst (λ z. x < z) e (below x (inl refl)) | inr none ↦ absurd none ]
  ],
  Ascends-behind xs g up.1 (λ y h. below y (inr h)),
)

-- ---- one object comes to one subprogram

pub adds_none : (g : ℕ) (lists : List (List ℕ)) → Adds g lists lists
adds_none g lists = record { count = refl; keeps = λ a x h. h; only = λ a x h. inl h }

adds_on : (g : ℕ) (old mid new : List (List ℕ)) → Adds g old mid → Adds g mid new → Adds g old new
adds_on g old mid new a b = record {
  count = b.count ∙ a.count;
  keeps = λ p x h. b.keeps p x (a.keeps p x h);
  only = λ p x h. elim (b.only p x h) [ inl was ↦ a.only p x was | inr is ↦ inr is ];
}

row_here : (g p : ℕ) (old new : List (List ℕ)) → p < length old → new ≡ set old p (row old p ++ g ∷ []) → row new p ≡ row old p ++ g ∷ []
row_here g p old new h e = ap (λ l. row l p) e ∙ get_or-set_same old p (row old p ++ g ∷ []) [] h

row_else : (g p : ℕ) (old new : List (List ℕ)) (a : ℕ) → a ≢ p → new ≡ set old p (row old p ++ g ∷ []) → row new a ≡ row old a
row_else g p old new a ne e = (let s = ap (λ l. row l a) e in s ∙ (rw get_or-set_other refl))

reached_adds : (g p : ℕ) (old new : List (List ℕ)) → p < length old → new ≡ set old p (row old p ++ g ∷ []) → Adds g old new
reached_adds g p old new h e =
    let here = row_here g p old new h e in
    record {
      count = ap length e ∙ length-set old p (row old p ++ g ∷ []);
      keeps = λ a x m. elim (same_or_not a p) [
        | inl is ↦ subst (λ q. Has (row new q) x) (sym is) (subst (λ r. Has r x) (sym here)
            (Has-append_left (row old p) (g ∷ []) x (subst (λ q. Has (row old q) x) is m)))
        | inr ne ↦ subst (λ r. Has r x) (sym (row_else g p old new a ne e)) m
      ];
      only = λ a x m. elim (same_or_not a p) [
        | inl is ↦ elim (Has-append_cases (row old p) (g ∷ []) x (subst (λ r. Has r x) here (subst (λ q. Has (row new q) x) is m))) [
          | inl was ↦ inl (subst (λ q. Has (row old q) x) (sym is) was)
          | inr last ↦ elim last [ inl same ↦ inr (sym same) | inr none ↦ absurd none ]
        ]
        | inr ne ↦ inl (subst (λ r. Has r x) (row_else g p old new a ne e) m)
      ];
    }

reached_upto : (g p : ℕ) (old new : List (List ℕ)) → p < length old → (Has (row old p) g → ⊥) → new ≡ set old p (row old p ++ g ∷ [])
    → AreUpTo g old → AreUpTo g new
reached_upto g p old new h fresh e u = record {
  order = λ a. elim (same_or_not a p) [
    | inl is ↦ subst (λ q. Ascends (row new q)) (sym is) (subst Ascends (sym (row_here g p old new h e))
        (Ascends-behind (row old p) g (u.order p) (λ x m. elim (same_or_not x g) [
          | inl same ↦ absurd (fresh (subst (Has (row old p)) same m))
          | inr ne ↦ (let most = u.upto p x m in omega arith)
        ])))
    | inr ne ↦ subst Ascends (sym (row_else g p old new a ne e)) (u.order a)
  ];
  upto = λ a x m. elim ((reached_adds g p old new h e).only a x m) [ inl was ↦ u.upto a x was | inr is ↦ omega arith ];
}

-- what comes of it
pub record Came (g p : ℕ) (old new : List (List ℕ)) (work work' : List ℕ) : Type 0 where
  pub adds : Adds g old new
  pub upto : AreUpTo g new
  pub here : Has (row new p) g
  pub only : (a : ℕ) → Has (row new a) g → Has (row old a) g ⊎ (a ≡ p)
  pub works : (a : ℕ) → Has work a → Has work' a
  pub pushed : (a : ℕ) → Has (row new a) g → Has (row old a) g ⊎ Has work' a
  pub worked : (a : ℕ) → Has work' a → Has work a ⊎ (a ≡ p)

pub came : (g p : ℕ) (old new : List (List ℕ)) (work work' : List ℕ) → p < length old → AreUpTo g old
    → ReachedBy g p old work new work' → Came g p old new work work'
came g p old new work work' h u r = elim r [
  | inl same ↦ record {
    adds = subst (λ l. Adds g old l) (sym same.1) (adds_none g old);
    upto = subst (λ l. AreUpTo g l) (sym same.1) u;
    here = subst (λ l. Has (row l p) g) (sym same.1) same.0;
    only = λ a m. inl (subst (λ l. Has (row l a) g) same.1 m);
    works = λ a m. subst (λ l. Has l a) (sym same.2) m;
    pushed = λ a m. inl (subst (λ l. Has (row l a) g) same.1 m);
    worked = λ a m. inl (subst (λ l. Has l a) same.2 m);
  }
  | inr more ↦ (
      let here = row_here g p old new h more.1 in
      let last : Has (row new p) g = subst (λ r. Has r g) (sym here) (Has-append_right (row old p) (g ∷ []) g (inl refl)) in
      let into : Has work' p = subst (λ l. Has l p) (sym more.2) (Has-append_right work (p ∷ []) p (inl refl)) in
      let only_ : (a : ℕ) → Has (row new a) g → Has (row old a) g ⊎ (a ≡ p) = λ a m. elim (same_or_not a p) [
        | inl is ↦ inr is
        | inr ne ↦ inl (subst (λ r. Has r g) (row_else g p old new a ne more.1) m)
      ] in
      record {
        adds = reached_adds g p old new h more.1;
        upto = reached_upto g p old new h more.0 more.1 u;
        here = last;
        only = only_;
        works = λ a m. subst (λ l. Has l a) (sym more.2) (Has-append_left work (p ∷ []) a m);
        pushed = λ a m. elim (only_ a m) [ inl was ↦ inl was | inr is ↦ inr (subst (Has work') (sym is) into) ];
        worked = λ a m. elim (Has-append_cases work (p ∷ []) a (subst (λ l. Has l a) more.2 m)) [
          | inl was ↦ inl was
          | inr now ↦ elim now [ inl is ↦ inr (sym is) | inr none ↦ absurd none ]
        ];
      })
]

pub spreading_none : (g : ℕ) (lists : List (List ℕ)) (work : List ℕ) → AreUpTo g lists → AreFound g lists work → Spreading g lists lists work
spreading_none g lists work u f = record { adds = adds_none g lists; upto = u; works = f }

pub spreading_on : (g p : ℕ) (first old new : List (List ℕ)) (work work' : List ℕ) → Spreading g first old work → Came g p old new work work'
    → Spreading g first new work'
spreading_on g p first old new work work' s c = record {
  adds = adds_on g first old new s.adds c.adds;
  upto = c.upto;
  works = λ a m. elim (c.worked a m) [
    | inl was ↦ c.adds.keeps a g (s.works a was)
    | inr is ↦ subst (λ q. Has (row new q) g) (sym is) c.here
  ];
}

pub spreading_after : (g : ℕ) (first mid new : List (List ℕ)) (work work' : List ℕ) → Spreading g first mid work → Spreading g mid new work'
    → Spreading g first new work'
spreading_after g first mid new work work' s t = record {
  adds = adds_on g first mid new s.adds t.adds;
  upto = t.upto;
  works = t.works;
}

-- a carry along the edge from q to its caller p
pub came_carries : (callers : List (List ℕ)) (uses : ℕ → Bool) (g q p : ℕ) (now : Unit {0} → Type 0) (old new : List (List ℕ)) (work work' : List ℕ)
    → now tt → Came g p old new work work' → Carried (flow_of callers uses) q p now (found g old) (found g new) work work'
came_carries callers uses g q p now old new work work' n c = record {
  keeps = λ a k m. c.adds.keeps a g m;
  comes = λ k m. c.here;
  only = λ a k m. elim (c.only a m) [ inl was ↦ inl was | inr is ↦ inr (is, (tt, n, refl)) ];
  works = c.works;
  pushed = λ a k m. c.pushed a m;
}

-- ---- how many are still without it

lacking_in : (g : ℕ) (xs : List ℕ) → Has xs g → ◌≡◌ {A = ℕ} (cond (is_in g xs) 0 1) 0
lacking_in g xs h = ap (λ (b : Bool). cond {A = ℕ} b 0 1) (has_in g xs h)

lacking_out : (g : ℕ) (xs : List ℕ) → (Has xs g → ⊥) → ◌≡◌ {A = ℕ} (cond (is_in g xs) 0 1) 1
lacking_out g xs out = from (is_in g xs) refl
  where
    from : (b : Bool) → is_in g xs ≡ b → ◌≡◌ {A = ℕ} (cond b 0 1) 1
    from true e = absurd (out (in_has g xs e))
    from false e = refl

lacking_less : (g p : ℕ) (lists : List (List ℕ)) → p < length lists → (Has (row lists p) g → ⊥)
    → lacking g (set lists p (row lists p ++ g ∷ [])) + 1 ≡ lacking g lists
lacking_less g p [] h out = absurd (omega arith)
lacking_less g zero (xs ∷ lists) h out =
    let in_ = lacking_in g (xs ++ g ∷ []) (Has-append_right xs (g ∷ []) g (inl refl)) in
    let out_ = lacking_out g xs out in
    omega arith
lacking_less g (suc p) (xs ∷ lists) h out = (let rest = lacking_less g p lists (omega arith) out in omega arith)

pub reached_room : (g p : ℕ) (old new : List (List ℕ)) (work work' : List ℕ) → p < length old → ReachedBy g p old work new work'
    → lacking g new + length work' ≡ lacking g old + length work
reached_room g p old new work work' h r = elim r [
  | inl same ↦ (let a = ap (lacking g) same.1 in let b = ap length same.2 in omega arith)
  | inr more ↦ (
      let a : lacking g new ≡ lacking g (set old p (row old p ++ g ∷ [])) = ap (lacking g) more.1 in
      let less = lacking_less g p old h more.0 in
      let b : length work' ≡ length (work ++ p ∷ []) = ap length more.2 in
      let n = length-append work (p ∷ []) in
      omega arith)
]

-- ---- loops over rows

pub get_has : (xs : List ℕ) (i d : ℕ) → i < length xs → Has xs (get_or xs i d)
get_has [] i d h = absurd (omega arith)
get_has (x ∷ xs) zero d h = inl refl
get_has (x ∷ xs) (suc i) d h = inr (get_has xs i d (omega arith))

dropped : (xs : List ℕ) (i d : ℕ) → i < length xs → drop i xs ≡ get_or xs i d ∷ drop (suc i) xs
dropped [] i d h = absurd (omega arith)
dropped (x ∷ xs) zero d h = refl
dropped (x ∷ xs) (suc i) d h = dropped xs i d (omega arith)

drop_past : (xs : List ℕ) (i : ℕ) → length xs ≤ i → drop i xs ≡ []
drop_past [] zero h = refl
drop_past [] (suc i) h = refl
drop_past (x ∷ xs) zero h = absurd (omega arith)
drop_past (x ∷ xs) (suc i) h = drop_past xs i (omega arith)

-- the first subprograms, one more
pub record Starting (g i : ℕ) (users : List ℕ) (lists : List (List ℕ)) (work : List ℕ) : Type 0 where
  pub all : (a : ℕ) → Has (take i users) a → Has (row lists a) g
  pub only : (a : ℕ) → Has (row lists a) g → Has users a × Has work a

pub starting_more : (g i p : ℕ) (users : List ℕ) (old new : List (List ℕ)) (work work' : List ℕ) → i < length users → p ≡ get_or users i 0
    → Starting g i users old work → Came g p old new work work' → Starting g (i + 1) users new work'
starting_more g i p users old new work work' h e s c = record {
  all = λ a m. elim (Has-append_cases (take i users) (get_or users i 0 ∷ []) a
      (subst (λ l. Has l a) (ap (λ n. take n users) (add-one i) ∙ take-suc users i 0 h) m)) [
        | inl was ↦ c.adds.keeps a g (s.all a was)
        | inr last ↦ elim last [ inl is ↦ subst (λ q. Has (row new q) g) (e ∙ is) c.here | inr none ↦ absurd none ]
      ];
  only = λ a m. elim (c.pushed a m) [
    | inl was ↦ (let o = s.only a was in (o.0, c.works a o.1))
    | inr into ↦ elim (c.only a m) [
      | inl was ↦ ((s.only a was).0, into)
      | inr is ↦ (subst (Has users) (sym e ∙ sym is) (get_has users i 0 h), into)
    ]
  ];
}

pub starting_all : (g i : ℕ) (users : List ℕ) (lists : List (List ℕ)) (work : List ℕ) → length users ≤ i → Starting g i users lists work
    → AreStarted g users lists work
starting_all g i users lists work h s = record {
  all = λ a m. s.all a (subst (λ l. Has l a) (sym (take_past users i h)) m);
  only = s.only;
}

pub starting_none : (g : ℕ) (users : List ℕ) (lists : List (List ℕ)) (work : List ℕ) → ((a : ℕ) → Has (row lists a) g → ⊥)
    → Starting g 0 users lists work
starting_none g users lists work fresh = record { all = λ a m. absurd m; only = λ a m. absurd (fresh a m) }

-- ---- the search

abbrev pub flow_by : List (List ℕ) → List ℕ → Flow (Unit {0})
flow_by callers users = flow_of callers (λ a. is_in a users)

pub started_search : (callers : List (List ℕ)) (g : ℕ) (users : List ℕ) (lists : List (List ℕ)) (work : List ℕ)
    → AreStarted g users lists work → SearchedFor callers (λ a. is_in a users) g lists work
started_search callers g users lists work s = search_begins (flow_by callers users) (found g lists) work
    (λ a k m. has_in a users (s.only a m).0)
    (λ a k e. s.all a (in_has a users e))
    (λ a k m. (s.only a m).1)

pub turn_starts : (callers : List (List ℕ)) (uses : ℕ → Bool) (g q : ℕ) (next : List ℕ) (lists : List (List ℕ)) (work : List ℕ) → next ≡ row callers q
    → SearchedFor callers uses g lists (q ∷ work) → Turning (flow_of callers uses) q (found g lists q) next (found g lists) work
turn_starts callers uses g q next lists work e s =
    subst (λ xs. Turning (flow_of callers uses) q (found g lists q) xs (found g lists) work) (sym e)
    (turn_begins (flow_of callers uses) q (found g lists) work s)

pub turn_more : (callers : List (List ℕ)) (uses : ℕ → Bool) (g q p i : ℕ) (next : List ℕ) (first old new : List (List ℕ)) (work work' : List ℕ)
    → i < length next → p ≡ get_or next i 0 → Has (row first q) g → Came g p old new work work'
    → Turning (flow_of callers uses) q (found g first q) (drop i next) (found g old) work
    → Turning (flow_of callers uses) q (found g first q) (drop (i + 1) next) (found g new) work'
turn_more callers uses g q p i next first old new work work' h e has c t =
    let flow : Flow (Unit {0}) = flow_of callers uses in
    let here = dropped next i 0 h ∙ ap (λ x. x ∷ drop (suc i) next) (sym e) in
    subst (λ n. Turning flow q (found g first q) (drop n next) (found g new) work') (sym (add-one i))
    (turn_goes_on flow q p (found g first q) (drop (suc i) next) (found g old) (found g new) work work'
    (subst (λ xs. Turning flow q (found g first q) xs (found g old) work) here t)
    (came_carries callers uses g q p (found g first q) old new work work' has c))

pub turn_done : (callers : List (List ℕ)) (uses : ℕ → Bool) (g q i : ℕ) (next : List ℕ) (first lists : List (List ℕ)) (work : List ℕ)
    → length next ≤ i → Turning (flow_of callers uses) q (found g first q) (drop i next) (found g lists) work → SearchedFor callers uses g lists work
turn_done callers uses g q i next first lists work h t = turn_ends (flow_of callers uses) q (found g first q) (found g lists) work
    (subst (λ xs. Turning (flow_of callers uses) q (found g first q) xs (found g lists) work) (drop_past next i h) t)

-- ---- the work

pub record IsTaken (work rest : List ℕ) (q : ℕ) : Type 0 where
  pub here : Has work q
  pub rest_ : (a : ℕ) → Has rest a → Has work a
  pub all : (a : ℕ) → Has work a → Has (q ∷ rest) a

pub taken : (work rest : List ℕ) (q : ℕ) → work ≡ rest ++ q ∷ [] → IsTaken work rest q
taken work rest q e = record {
  here = subst (λ w. Has w q) (sym e) (Has-append_right rest (q ∷ []) q (inl refl));
  rest_ = λ a h. subst (λ w. Has w a) (sym e) (Has-append_left rest (q ∷ []) a h);
  all = λ a h. elim (Has-append_cases rest (q ∷ []) a (subst (λ w. Has w a) e h)) [
    | inl old ↦ inr old
    | inr new ↦ elim new [ inl is ↦ inl is | inr none ↦ absurd none ]
  ];
}

pub found_taken : (g : ℕ) (lists : List (List ℕ)) (work rest : List ℕ) (q : ℕ) → IsTaken work rest q → AreFound g lists work
    → AreFound g lists (q ∷ rest)
found_taken g lists work rest q t f a h = elim h [
  | inl is ↦ subst (λ x. Has (row lists x) g) is (f q t.here)
  | inr old ↦ f a (t.rest_ a old)
]

pub none_left : {A : Type 0} (xs : List A) → length xs ≡ 0 → xs ≡ []
none_left [] e = refl
none_left (x ∷ xs) e = absurd (omega arith)
