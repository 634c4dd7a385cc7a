-- What the tests on names say of their roots and selectors.
use Rattle.std.proofs.Common.{◌≡◌, refl, sym, ap, ◌∙◌, subst, Bool, true, false, ◌&&◌, ℕ, ◌<◌, ◌==◌, List, [], ◌∷◌, ◌++◌, length, get_or, map, nat_lt, inl, inr, rules, eqb-true, eq-eqb, ltb-true, lt-ltb, zero, suc, not, IsTrue, arith}
use Rattle.std.specs.Bool.{Decides}
use Rattle.std.specs.Cmp.Lexicographic.{pointwise, pointwise_decides}
use Rattle.std.proofs.lemmas.Slice.Eq.{slice_eq-Decides}
use Rattle.place_names.specs.declared.selector.Sel.{Sel}
use Rattle.place_names.specs.declared.selector.Sel.TheVariants.{Field, Elem, Deref}
use Rattle.place_names.specs.contracts.selector.SelPartialEq.TheImpl as selectors
use Rattle.place_names.specs.contracts.place_name.PlaceNamePartialEq.TheImpl as names
use Rattle.spark_base.specs.Lists.{Has}
use Rattle.spark_base.proofs.Lists.{Has-map, Has-map_from}
use Rattle.place_names.specs.Names.{Name, is_same, extend, is_equal, agrees, begins, is_prefix, is_strict_prefix, agree_along, overlaps, has_elem, covers, agrees_whole, leads_to, strict_fronts, strict_prefixes}
use Rattle.place_names.proofs.Selectors.{same_selector}

-- `==` on selectors and on names tells whether they are the same
selector_eq-decides : (s t : Sel) → Decides (selectors.eq-value.it s t) (s ≡ t)
selector_eq-decides s t = search rules

-- equal selectors are the same one
pub is_equal-decides : (s t : Sel) → Decides (is_equal s t) (s ≡ t)
is_equal-decides s t = subst (λ b. Decides b (s ≡ t)) (same_selector s t) (selector_eq-decides s t)

pub both_parts : (a b : Bool) → a && b ≡ true → (a ≡ true) × (b ≡ true)
both_parts true b e = (refl, e)
both_parts false b e = cc

pub both_true : (a b : Bool) → a ≡ true → b ≡ true → a && b ≡ true
both_true a b e f = ap (λ x. x && b) e ∙ f

-- the test of the definitions tells so, too
pub is_same-decides : (m n : Name) → Decides (is_same m n) (m ≡ n)
is_same-decides m n =
    let sels = pointwise_decides {E = is_equal} is_equal-decides m.sels n.sels in (
      λ e.
          let parts = both_parts (m.root == n.root) (pointwise is_equal m.sels n.sels) e in
          let root = eqb-true _ _ parts.0 in
          let rest = sels.0 parts.1 in
          λ i. record { root = root i; sels = rest i },
      λ e. both_true (m.root == n.root) (pointwise is_equal m.sels n.sels) (eq-eqb _ _ (ap (λ k. k.root) e)) (sels.1 (ap (λ k. k.sels) e)),
    )

pub same_name : (m n : Name) → Decides (names.eq-value.it m n) (m ≡ n)
same_name m n =
    let sels = slice_eq-Decides selector_eq-decides m.sels n.sels _ refl in (
      λ e.
          let parts = both_parts (m.root == n.root) _ e in
          let root = eqb-true _ _ parts.0 in
          let rest = sels.0 parts.1 in
          λ i. record { root = root i; sels = rest i },
      λ e. both_true (m.root == n.root) _ (eq-eqb _ _ (ap (λ k. k.root) e)) (sels.1 (ap (λ k. k.sels) e)),
    )

-- a list begins another where some selectors after it give the whole
pub begins-decides : (k m : List Sel) → Decides (begins k m) ((rest : List Sel) × (m ≡ k ++ rest))
begins-decides [] m = (λ e. (m, refl), λ e. refl)
begins-decides (s ∷ k) [] = (λ e. cc, λ e. let is = e.1 in cc)
begins-decides (s ∷ k) (t ∷ m) =
    let same = is_equal-decides s t in
    let more = begins-decides k m in (
      λ e.
          let parts = both_parts (is_equal s t) (begins k m) e in
          let behind = more.0 parts.1 in
          let head = same.0 parts.0 in
          let tail = behind.1 in
          (behind.0, cc),
      λ e.
          let is = e.1 in
          both_true (is_equal s t) (begins k m) (same.1 cc) (more.1 (e.0, cc)),
    )

-- k is a prefix of m where some selectors after k give m
pub is_prefix-decides : (k m : Name) → Decides (is_prefix k m) ((rest : List Sel) × (m ≡ extend k rest))
is_prefix-decides k m =
    let first = begins-decides k.sels m.sels in (
      λ e.
          let parts = both_parts (k.root == m.root) (begins k.sels m.sels) e in
          let behind = first.0 parts.1 in
          let root = eqb-true _ _ parts.0 in
          (behind.0, λ i. record { root = sym root i; sels = behind.1 i }),
      λ e.
          let root = ap (λ n. n.root) e.1 in
          both_true (k.root == m.root) (begins k.sels m.sels) (eq-eqb _ _ (sym root)) (first.1 (e.0, ap (λ n. n.sels) e.1)),
    )

-- selectors agree along each other where they agree at each index that both lists have
pub agree_along-decides : (k m : List Sel)
    → Decides (agree_along k m) ((i : ℕ) (d : Sel) → i < length k → i < length m → IsTrue (agrees (get_or k i d) (get_or m i d)))
agree_along-decides [] m = (λ e i d p q. absurd (omega arith), λ e. refl)
agree_along-decides (s ∷ k) [] = (λ e i d p q. absurd (omega arith), λ e. refl)
agree_along-decides (s ∷ k) (t ∷ m) =
    let more = agree_along-decides k m in (
      λ e.
          let parts = both_parts (agrees s t) (agree_along k m) e in
          at_each s t k m parts.0 (more.0 parts.1),
      λ e. both_true (agrees s t) (agree_along k m) (e 0 s (omega arith) (omega arith)) (more.1 (λ i d p q. e (suc i) d (omega arith) (omega arith))),
    )
  where
    at_each : (s t : Sel) (k m : List Sel) → IsTrue (agrees s t)
        → ((i : ℕ) (d : Sel) → i < length k → i < length m → IsTrue (agrees (get_or k i d) (get_or m i d)))
        → (i : ℕ) (d : Sel) → i < length (s ∷ k) → i < length (t ∷ m) → IsTrue (agrees (get_or (s ∷ k) i d) (get_or (t ∷ m) i d))
    at_each s t k m first rest zero d p q = first
    at_each s t k m first rest (suc i) d p q = rest i d (omega arith) (omega arith)

-- two names overlap where the roots are the same and the selectors agree as far as both names go
pub overlaps-decides : (k m : Name)
    → Decides (overlaps k m) ((k.root ≡ m.root) × ((i : ℕ) (d : Sel) → i < length k.sels → i < length m.sels → IsTrue (agrees (get_or k.sels i d) (get_or m.sels i d))))
overlaps-decides k m =
    let along = agree_along-decides k.sels m.sels in (
      λ e.
          let parts = both_parts (k.root == m.root) (agree_along k.sels m.sels) e in
          (eqb-true _ _ parts.0, along.0 parts.1),
      λ e. both_true (k.root == m.root) (agree_along k.sels m.sels) (eq-eqb _ _ e.0) (along.1 e.1),
    )

is_equal-sym : (s t : Sel) → is_equal s t ≡ is_equal t s
is_equal-sym (Field i) (Field j) = search rules
is_equal-sym (Field i) Elem = refl
is_equal-sym (Field i) Deref = refl
is_equal-sym Elem (Field j) = refl
is_equal-sym Elem Elem = refl
is_equal-sym Elem Deref = refl
is_equal-sym Deref (Field j) = refl
is_equal-sym Deref Elem = refl
is_equal-sym Deref Deref = refl

-- a list has an `Elem` where it is one of the selectors
pub has_elem-decides : (k : List Sel) → Decides (has_elem k) (Has k Elem)
has_elem-decides [] = (λ e. cc, λ e. absurd e)
has_elem-decides (Elem ∷ k) = (λ e. inl refl, λ e. refl)
has_elem-decides (Field i ∷ k) =
    let more = has_elem-decides k in
    (λ e. inr (more.0 e), λ h. elim h [ inl e ↦ cc | inr h ↦ more.1 h ])
has_elem-decides (Deref ∷ k) =
    let more = has_elem-decides k in
    (λ e. inr (more.0 e), λ h. elim h [ inl e ↦ cc | inr h ↦ more.1 h ])

-- overlapping is symmetric
agree_along-sym : (k m : List Sel) → agree_along k m ≡ agree_along m k
agree_along-sym [] [] = refl
agree_along-sym [] (t ∷ m) = refl
agree_along-sym (s ∷ k) [] = refl
agree_along-sym (s ∷ k) (t ∷ m) =
    ap (λ b. b && agree_along k m) (is_equal-sym s t) ∙ ap (λ b. agrees t s && b) (agree_along-sym k m)

pub overlaps-sym : (k m : Name) → overlaps k m ≡ overlaps m k
overlaps-sym k m =
    let roots : (k.root == m.root) ≡ (m.root == k.root) = search rules in
    ap (λ b. b && agree_along k.sels m.sels) roots ∙ ap (λ b. (m.root == k.root) && b) (agree_along-sym k.sels m.sels)

not_decides : {P : Type 0} (b : Bool) → Decides b P → Decides (not b) (P → ⊥)
not_decides true d = (λ e. cc, λ e. absurd (e (d.0 refl)))
not_decides false d = (λ e p. let is = d.1 p in cc, λ e. refl)

-- k covers m where it is a prefix of m and no selector of it is an `Elem`
pub covers-decides : (k m : Name) → Decides (covers k m) (IsTrue (is_prefix k m) × (Has k.sels Elem → ⊥))
covers-decides k m =
    let none = not_decides (has_elem k.sels) (has_elem-decides k.sels) in (
      λ e. let parts = both_parts (is_prefix k m) (not (has_elem k.sels)) e in (parts.0, none.0 parts.1),
      λ e. both_true (is_prefix k m) (not (has_elem k.sels)) e.0 (none.1 e.1),
    )

-- n leads to m where it agrees with a prefix of m that is as long
agrees_whole-decides : (n m : List Sel)
    → Decides (agrees_whole n m) ((front : List Sel) × IsTrue (begins front m) × (length n ≡ length front) × IsTrue (agree_along n front))
agrees_whole-decides [] m = (λ e. ([], refl, refl, refl), λ e. refl)
agrees_whole-decides (s ∷ n) [] = (λ e. cc, λ (front, first, long, along). none front first long)
  where
    none : (front : List Sel) → IsTrue (begins front []) → length (s ∷ n) ≡ length front → false ≡ true
    none [] first long = absurd (omega arith)
    none (t ∷ front) first long = first
agrees_whole-decides (s ∷ n) (t ∷ m) =
    let more = agrees_whole-decides n m in (
      λ e.
          let parts = both_parts (agrees s t) (agrees_whole n m) e in
          let rest = more.0 parts.1 in (
            t ∷ rest.0,
            both_true (is_equal t t) (begins rest.0 m) ((is_equal-decides t t).1 refl) rest.1,
            ap suc rest.2,
            both_true (agrees s t) (agree_along n rest.0) parts.0 rest.3,
          ),
      λ (front, first, long, along). back (λ x. more.1 x) front first long along,
    )
  where
    back : ((front : List Sel) × IsTrue (begins front m) × (length n ≡ length front) × IsTrue (agree_along n front) → IsTrue (agrees_whole n m))
        → (front : List Sel) → IsTrue (begins front (t ∷ m)) → length (s ∷ n) ≡ length front → IsTrue (agree_along (s ∷ n) front)
        → IsTrue (agrees_whole (s ∷ n) (t ∷ m))
    back more [] first long along = absurd (omega arith)
    back more (u ∷ front) first long along =
        let one = both_parts (is_equal u t) (begins front m) first in
        let two = both_parts (agrees s u) (agree_along n front) along in
        let same = (is_equal-decides u t).0 one.0 in
        both_true (agrees s t) (agrees_whole n m) (subst (λ v. IsTrue (agrees s v)) same two.0)
        (more (front, one.1, (omega arith), two.1))

pub leads_to-decides : (n m : Name)
    → Decides (leads_to n m) ((p : Name) × IsTrue (is_prefix p m) × (length n.sels ≡ length p.sels) × IsTrue (overlaps n p))
leads_to-decides n m =
    let whole = agrees_whole-decides n.sels m.sels in (
      λ e.
          let parts = both_parts (n.root == m.root) (agrees_whole n.sels m.sels) e in
          let front = whole.0 parts.1 in (
            record { root = n.root; sels = front.0 },
            both_true (n.root == m.root) (begins front.0 m.sels) parts.0 front.1,
            front.2,
            both_true (n.root == n.root) (agree_along n.sels front.0) (eq-eqb _ _ refl) front.3,
          ),
      λ (p, first, long, over).
          let one = both_parts (p.root == m.root) (begins p.sels m.sels) first in
          let two = both_parts (n.root == p.root) (agree_along n.sels p.sels) over in
          both_true (n.root == m.root) (agrees_whole n.sels m.sels) (eq-eqb _ _ (eqb-true _ _ two.0 ∙ eqb-true _ _ one.0))
          (whole.1 (p.sels, one.1, long, two.1)),
    )

strict_front_is : (k front : List Sel) → Has (strict_fronts k) front → IsTrue (begins front k) × (length front < length k)
strict_front_is [] front h = absurd h
strict_front_is (s ∷ k) front h =
    elim h [
      | inl e ↦ (subst (λ f. IsTrue (begins f (s ∷ k))) e refl, subst (λ f. length f < length (s ∷ k)) e (omega arith))
      | inr h ↦
          let found = Has-map_from (λ rest. s ∷ rest) (strict_fronts k) front h in
          let rest = strict_front_is k found.0 found.1 in (
            subst (λ f. IsTrue (begins f (s ∷ k))) found.2 (both_true (is_equal s s) (begins found.0 k) ((is_equal-decides s s).1 refl) rest.0),
            subst (λ f. length f < length (s ∷ k)) found.2 (omega arith),
          )
    ]

is_strict_front : (k front : List Sel) → IsTrue (begins front k) → length front < length k → Has (strict_fronts k) front
is_strict_front [] front first less = absurd (omega arith)
is_strict_front (s ∷ k) [] first less = inl refl
is_strict_front (s ∷ k) (t ∷ front) first less =
    let parts = both_parts (is_equal t s) (begins front k) first in
    let same = (is_equal-decides t s).0 parts.0 in
    let rest = Has-map (λ rest. s ∷ rest) (strict_fronts k) front (is_strict_front k front parts.1 (omega arith)) in
    inr (subst (λ u. Has (map (λ rest. s ∷ rest) (strict_fronts k)) (u ∷ front)) (sym same) rest)

-- the strict prefixes of a name are its prefixes that are shorter
pub is_strict_prefix-decides : (p k : Name) → Decides (is_strict_prefix p k) (Has (strict_prefixes k) p)
is_strict_prefix-decides p k =
    let make : List Sel → Name = λ front. record { root = k.root; sels = front } in (
      λ e.
          let parts = both_parts (is_prefix p k) (nat_lt (length p.sels) (length k.sels)) e in
          let one = both_parts (p.root == k.root) (begins p.sels k.sels) parts.0 in
          let root = eqb-true _ _ one.0 in
          let has = Has-map make (strict_fronts k.sels) p.sels (is_strict_front k.sels p.sels one.1 (ltb-true _ _ parts.1)) in
          subst (λ r. Has (strict_prefixes k) (record { root = r; sels = p.sels })) (sym root) has,
      λ h.
          let found = Has-map_from make (strict_fronts k.sels) p h in
          let is = strict_front_is k.sels found.0 found.1 in
          subst (λ n. IsTrue (is_strict_prefix n k)) found.2
          (both_true (is_prefix (make found.0) k) (nat_lt (length found.0) (length k.sels))
          (both_true (k.root == k.root) (begins found.0 k.sels) (eq-eqb _ _ refl) is.0)
          (lt-ltb _ _ is.1)),
    )
