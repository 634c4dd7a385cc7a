-- What the searches among declarations find.
use Rattle.std.proofs.Common.{rules, ◌≡◌, refl, ap, sym, ◌∙◌, true≢false, ℕ, Bool, true, false, if◌then◌else◌, ◌&&◌, nat_eq, List, [], ◌∷◌, ◌++◌, Option, None, Some, is_some, ◌⊎◌, inl, inr, fold}
use Rattle.std.specs.Prelude.{unwrap_or}
use Rattle.std.specs.Option.{option_map}
use Rattle.std.specs.List.{AllByRecursion}
use Rattle.std.proofs.lemmas.Bool.{eqb-true}
use Rattle.name_events.specs.declared.declaration.Declaration.{Declaration}
use Rattle.name_events.specs.Declarations.{Name, Entry, same, last_of, is_named, declared_in}
use Rattle.name_events.specs.Laws.{IsOf, IsNowhereIn, IsLastIn}

-- ---- the last that passes a test

pub record IsLast {A : Type 0} (test : A → Bool) (xs : List A) (x : A) : Type 0 where
  pub earlier : List A
  pub later : List A
  pub stands : xs ≡ earlier ++ x ∷ later
  pub passes : test x ≡ true
  pub last : AllByRecursion (λ y. test y ≡ false) later

abbrev Step : {A : Type 0} → (A → Bool) → Option A → List A → Option A
Step test found xs = fold (λ found x. if test x then Some x else found) found xs

abbrev FoundOrKept : {A : Type 0} → (A → Bool) → List A → Option A → A → Type 0
FoundOrKept test xs old x = ((old ≡ Some x) × AllByRecursion (λ y. test y ≡ false) xs) ⊎ IsLast test xs x

last_step : {A : Type 0} (test : A → Bool) (xs : List A) (old : Option A) (x : A) → Step test old xs ≡ Some x → FoundOrKept test xs old x
last_step test [] old x e = inl (e, tt)
last_step test (y ∷ ys) old x e = by (test y) refl e (last_step test ys (Some y) x) (last_step test ys old x)
  where
    by : (b : Bool) → test y ≡ b → Step test (if b then Some y else old) ys ≡ Some x
        → (Step test (Some y) ys ≡ Some x → FoundOrKept test ys (Some y) x)
        → (Step test old ys ≡ Some x → FoundOrKept test ys old x)
        → FoundOrKept test (y ∷ ys) old x
    by true is e found kept = elim (found e) [
      | inl p ↦ inr (record {
        earlier = [];
        later = ys;
        stands = ap (λ z. z ∷ ys) (ap (λ o. unwrap_or o y) p.0);
        passes = sym (ap test (ap (λ o. unwrap_or o y) p.0)) ∙ is;
        last = p.1;
      })
      | inr l ↦ inr (record { earlier = y ∷ l.earlier; later = l.later; stands = ap (λ zs. y ∷ zs) l.stands; passes = l.passes; last = l.last })
    ]
    by false is e found kept = elim (kept e) [
      | inl p ↦ inl (p.0, (is, p.1))
      | inr l ↦ inr (record { earlier = y ∷ l.earlier; later = l.later; stands = ap (λ zs. y ∷ zs) l.stands; passes = l.passes; last = l.last })
    ]

pub last_found : {A : Type 0} (test : A → Bool) (xs : List A) (x : A) → last_of test xs ≡ Some x → IsLast test xs x
last_found test xs x e = elim (last_step test xs None x e) [
  | inl p ↦ absurd (true≢false (sym (ap is_some p.0)))
  | inr l ↦ l
]

-- Once there is one, one is found.
step_some : {A : Type 0} (test : A → Bool) (xs : List A) (y : A) → is_some (Step test (Some y) xs) ≡ true
step_some test [] y = refl
step_some test (x ∷ xs) y = by (test x) (step_some test xs x) (step_some test xs y)
  where
    by : (b : Bool) → is_some (Step test (Some x) xs) ≡ true → is_some (Step test (Some y) xs) ≡ true
        → is_some (Step test (if b then Some x else Some y) xs) ≡ true
    by true found kept = found
    by false found kept = kept

pub none_found : {A : Type 0} (test : A → Bool) (xs : List A) → last_of test xs ≡ None → AllByRecursion (λ y. test y ≡ false) xs
none_found test [] e = tt
none_found test (y ∷ ys) e = by (test y) refl e (none_found test ys)
  where
    by : (b : Bool) → test y ≡ b → Step test (if b then Some y else None) ys ≡ None
        → (Step test None ys ≡ None → AllByRecursion (λ z. test z ≡ false) ys) → (test y ≡ false) × AllByRecursion (λ z. test z ≡ false) ys
    by true is e rest = absurd (true≢false (sym (step_some test ys y) ∙ ap is_some e))
    by false is e rest = (is, rest e)

-- Where none passes, what was found is kept.
step_kept : {A : Type 0} (test : A → Bool) (xs : List A) (old : Option A) → AllByRecursion (λ y. test y ≡ false) xs → Step test old xs ≡ old
step_kept test [] old h = refl
step_kept test (x ∷ xs) old h = rw h.0 (step_kept test xs old h.1)

step_last : {A : Type 0} (test : A → Bool) (earlier : List A) (x : A) (later : List A) (old : Option A) → test x ≡ true
    → AllByRecursion (λ y. test y ≡ false) later → Step test old (earlier ++ x ∷ later) ≡ Some x
step_last test [] x later old passes last = ap (λ b. Step test (if b then Some x else old) later) passes ∙ step_kept test later (Some x) last
step_last test (y ∷ earlier) x later old passes last = step_last test earlier x later (if test y then Some y else old) passes last

pub last_is_found : {A : Type 0} (test : A → Bool) (xs : List A) (x : A) → IsLast test xs x → last_of test xs ≡ Some x
last_is_found test xs x l = ap (last_of test) l.stands ∙ step_last test l.earlier x l.later None l.passes l.last

pub none_is_found : {A : Type 0} (test : A → Bool) (xs : List A) → AllByRecursion (λ y. test y ≡ false) xs → last_of test xs ≡ None
none_is_found test xs h = step_kept test xs None h

-- ---- the test of a name and a region

pub same_is : (a b : Name) → same a b ≡ true → a ≡ b
same_is [] [] h = refl
same_is [] (y ∷ ys) h = absurd (true≢false (sym h))
same_is (x ∷ xs) [] h = absurd (true≢false (sym h))
same_is (x ∷ xs) (y ∷ ys) h = by (nat_eq x y) refl h (same_is xs ys)
  where
    by : (b : Bool) → nat_eq x y ≡ b → (b && same xs ys) ≡ true → (same xs ys ≡ true → xs ≡ ys) → (x ∷ xs) ≡ (y ∷ ys)
    by true e h rest = cc (eqb-true x y e, rest h)
    by false e h rest = absurd (true≢false (sym h))

pub nat_same : (n : ℕ) → nat_eq n n ≡ true
nat_same n = search rules

same_self : (a : Name) → same a a ≡ true
same_self [] = refl
same_self (x ∷ xs) = rw (nat_same x) (same_self xs)

pub both_true : (a b : Bool) → (a && b) ≡ true → (a ≡ true) × (b ≡ true)
both_true true b h = (refl, h)
both_true false b h = absurd (true≢false (sym h))

pub named_is : (region : ℕ) (w : Name) (entry : Entry) → is_named region w entry ≡ true → IsOf region w entry
named_is region w entry h =
    let both = both_true (nat_eq region entry.1.region) (same w entry.0) h in
    (sym (eqb-true region entry.1.region both.0), sym (same_is w entry.0 both.1))

pub is_named_so : (region : ℕ) (w : Name) (entry : Entry) → IsOf region w entry → is_named region w entry ≡ true
is_named_so region w entry h = rw h.0 (rw h.1 (rw (nat_same region) (same_self w)))

not_named : (region : ℕ) (w : Name) (entry : Entry) → is_named region w entry ≡ false → IsOf region w entry → ⊥
not_named region w entry h is = true≢false (sym (is_named_so region w entry is) ∙ h)

is_not_named : (region : ℕ) (w : Name) (entry : Entry) → (IsOf region w entry → ⊥) → is_named region w entry ≡ false
is_not_named region w entry h = by (is_named region w entry) refl
  where
    by : (b : Bool) → is_named region w entry ≡ b → b ≡ false
    by true is = absurd (h (named_is region w entry is))
    by false is = refl

nowhere : (region : ℕ) (w : Name) (entries : List Entry) → AllByRecursion (λ entry. is_named region w entry ≡ false) entries
    → IsNowhereIn entries region w
nowhere region w [] h = tt
nowhere region w (entry ∷ rest) h = (not_named region w entry h.0, nowhere region w rest h.1)

somewhere_else : (region : ℕ) (w : Name) (entries : List Entry) → IsNowhereIn entries region w
    → AllByRecursion (λ entry. is_named region w entry ≡ false) entries
somewhere_else region w [] h = tt
somewhere_else region w (entry ∷ rest) h = (is_not_named region w entry h.0, somewhere_else region w rest h.1)

-- ---- the search in a region

pub declared_says : (entries : List Entry) (region : ℕ) (w : Name) (d : Declaration) → declared_in entries region w ≡ Some d
    → IsLastIn entries region w d
declared_says entries region w d e = by (last_of (is_named region w) entries) refl e
  where
    by : (o : Option Entry) → last_of (is_named region w) entries ≡ o → option_map (λ entry. entry.1) o ≡ Some d → IsLastIn entries region w d
    by None is e = absurd (true≢false (sym (ap is_some e)))
    by (Some entry) is e =
        let found = last_found (is_named region w) entries entry is in
        let here = ap (λ o. unwrap_or o entry.1) e in
        record {
          earlier = found.earlier;
          name = entry.0;
          later = found.later;
          stands = found.stands ∙ ap (λ x. found.earlier ++ (entry.0, x) ∷ found.later) here;
          is_of = let of = named_is region w entry found.passes in (ap (λ x. x.region) (sym here) ∙ of.0, of.1);
          last = nowhere region w found.later found.last;
        }

pub declared_nowhere : (entries : List Entry) (region : ℕ) (w : Name) → declared_in entries region w ≡ None → IsNowhereIn entries region w
declared_nowhere entries region w e = by (last_of (is_named region w) entries) refl e
  where
    by : (o : Option Entry) → last_of (is_named region w) entries ≡ o → option_map (λ entry. entry.1) o ≡ None → IsNowhereIn entries region w
    by None is e = nowhere region w entries (none_found (is_named region w) entries is)
    by (Some entry) is e = absurd (true≢false (ap is_some e))

pub last_is_declared : (entries : List Entry) (region : ℕ) (w : Name) (d : Declaration) → IsLastIn entries region w d
    → declared_in entries region w ≡ Some d
last_is_declared entries region w d l =
    ap (option_map (λ entry. entry.1))
    (last_is_found (is_named region w) entries (l.name, d)
    (record {
      earlier = l.earlier;
      later = l.later;
      stands = l.stands;
      passes = is_named_so region w (l.name, d) l.is_of;
      last = somewhere_else region w l.later l.last;
    }))

pub nowhere_is_declared : (entries : List Entry) (region : ℕ) (w : Name) → IsNowhereIn entries region w → declared_in entries region w ≡ None
nowhere_is_declared entries region w h =
    ap (option_map (λ entry. entry.1)) (none_is_found (is_named region w) entries (somewhere_else region w entries h))
