-- Names of ways: what begins one, what covers one.
use Rattle.std.proofs.Common.{◌≡◌, refl, sym, ap, ◌∙◌, ◌⊎◌, inl, inr, ℕ, Bool, true, false, not, ◌==◌, eqb-true, eq-eqb, List, [], ◌∷◌, ◌++◌}
use Rattle.std.proofs.lemmas.List.{append_assoc, append-nil}
use Rattle.std.proofs.lemmas.Bool.{false≢true, true≢false}
use Rattle.machine.specs.place_names.declared.selector.Sel.{Sel}
use Rattle.machine.specs.place_names.declared.selector.Sel.TheVariants.{Field, Elem, Deref}
use Rattle.machine.specs.place_names.Names.{is_equal, begins, is_prefix, agree_along, overlaps, has_elem, covers, agrees_whole, leads_to}
use Rattle.soundness.specs.OwnedWays.Ways.{Component, Element, Way, Object, Lost, Into, All, IsAt, Under, sel_of, Root, OfVariable, OfHand, base_of, object_of, number_of, sels_of, name_of, Named}
use Rattle.soundness.proofs.OwnedWays.Locations.{both_parts, both_true}

equal_itself : (s : Sel) → is_equal s s ≡ true
equal_itself (Field i) = eq-eqb i i refl
equal_itself Elem = refl
equal_itself Deref = refl

pub front_along : (a q : List Sel) → agree_along (a ++ q) a ≡ true
front_along [] [] = refl
front_along [] (s ∷ q) = refl
front_along (s ∷ a) q = both_true (is_equal s s) (agree_along (a ++ q) a) (equal_itself s) (front_along a q)

pub along_front : (a q : List Sel) → agree_along a (a ++ q) ≡ true
along_front [] q = refl
along_front (s ∷ a) q = both_true (is_equal s s) (agree_along a (a ++ q)) (equal_itself s) (along_front a q)

pub whole_front : (a q : List Sel) → agrees_whole a (a ++ q) ≡ true
whole_front [] q = refl
whole_front (s ∷ a) q = both_true (is_equal s s) (agrees_whole a (a ++ q)) (equal_itself s) (whole_front a q)

-- the selectors of a way that another one begins
pub record Longer (t w : Way) : Type 0 where
  pub base : base_of w ≡ base_of t
  pub root : number_of w ≡ number_of t
  pub rest : List Sel
  pub sels : sels_of w ≡ sels_of t ++ rest

same_longer : (t w : Way) → t ≡ w → Longer t w
same_longer t w e = record { base = ap base_of (sym e); root = ap number_of (sym e); rest = []; sels = ap sels_of (sym e) ∙ sym (append-nil (sels_of t)) }

pub longer : (t w : Way) → Under t w → Longer t w
longer t (Object x) u = same_longer t (Object x) u
longer t (Lost n) u = same_longer t (Lost n) u
longer t (Into w i) u = elim u [
  | inl e ↦ same_longer t (Into w i) e
  | inr u ↦ (let l = longer t w u in record {
    base = l.base;
    root = l.root;
    rest = l.rest ++ sel_of i ∷ [];
    sels = ap (λ z. z ++ (sel_of i ∷ [])) l.sels ∙ append_assoc (sels_of t) l.rest (sel_of i ∷ []);
  })
]
longer t (All w) u = elim u [
  | inl e ↦ same_longer t (All w) e
  | inr u ↦ (let l = longer t w u in record {
    base = l.base;
    root = l.root;
    rest = l.rest ++ Deref ∷ [];
    sels = ap (λ z. z ++ (Deref ∷ [])) l.sels ∙ append_assoc (sels_of t) l.rest (Deref ∷ []);
  })
]

pub under_overlaps : (t w : Way) → Under t w → overlaps (name_of w) (name_of t) ≡ true
under_overlaps t w u =
    let l = longer t w u in
    both_true (number_of w == number_of t) (agree_along (sels_of w) (sels_of t)) (eq-eqb (number_of w) (number_of t) l.root)
    (ap (λ z. agree_along z (sels_of t)) l.sels ∙ front_along (sels_of t) l.rest)

pub under_leads : (t w : Way) → Under t w → leads_to (name_of t) (name_of w) ≡ true
under_leads t w u =
    let l = longer t w u in
    both_true (number_of t == number_of w) (agrees_whole (sels_of t) (sels_of w)) (eq-eqb (number_of t) (number_of w) (sym l.root))
    (ap (agrees_whole (sels_of t)) l.sels ∙ whole_front (sels_of t) l.rest)

pub under_front : (t w : Way) → Under t w → overlaps (name_of t) (name_of w) ≡ true
under_front t w u =
    let l = longer t w u in
    both_true (number_of t == number_of w) (agree_along (sels_of t) (sels_of w)) (eq-eqb (number_of t) (number_of w) (sym l.root))
    (ap (agree_along (sels_of t)) l.sels ∙ along_front (sels_of t) l.rest)

-- ---- a name without an `Elem` that begins another one is that of a way that begins the other

no_end : (a : List Sel) (s : Sel) → [] ≡ a ++ s ∷ [] → ⊥
no_end [] s e = cc
no_end (t ∷ a) s e = cc

pub same_ends : (a b : List Sel) (s t : Sel) → a ++ s ∷ [] ≡ b ++ t ∷ [] → (a ≡ b) × (s ≡ t)
same_ends [] [] s t e = (refl, cc)
same_ends [] (u ∷ b) s t e = let tail : [] ≡ b ++ t ∷ [] = cc in absurd (no_end b t tail)
same_ends (u ∷ a) [] s t e = let tail : [] ≡ a ++ s ∷ [] = cc in absurd (no_end a s tail)
same_ends (u ∷ a) (v ∷ b) s t e =
    let tail : a ++ s ∷ [] ≡ b ++ t ∷ [] = cc in
    let both = same_ends a b s t tail in
    let head : u ≡ v = cc in
    (ap (λ x. x ∷ a) head ∙ ap (λ z. v ∷ z) both.0, both.1)

elem_front : (a : List Sel) (s : Sel) → has_elem (a ++ s ∷ []) ≡ false → has_elem a ≡ false
elem_front [] s e = refl
elem_front (Field i ∷ a) s e = elem_front a s e
elem_front (Elem ∷ a) s e = absurd (true≢false e)
elem_front (Deref ∷ a) s e = elem_front a s e

elem_end : (a : List Sel) → has_elem (a ++ Elem ∷ []) ≡ false → ⊥
elem_end [] e = absurd (true≢false e)
elem_end (Field i ∷ a) e = elem_end a e
elem_end (Elem ∷ a) e = absurd (true≢false e)
elem_end (Deref ∷ a) e = elem_end a e

field_same : {i j : ℕ} → Field i ≡ Field j → i ≡ j
field_same e = cc

field_elem : {i : ℕ} → Field i ≡ Elem → ⊥
field_elem e = cc

field_deref : {i : ℕ} → Field i ≡ Deref → ⊥
field_deref e = cc

deref_field : {i : ℕ} → Deref ≡ Field i → ⊥
deref_field e = cc

deref_elem : Deref ≡ Elem → ⊥
deref_elem e = cc

same_root : (home : ℕ → ℕ) (r q : Root) → IsAt home r → IsAt home q → object_of r ≡ object_of q → r ≡ q
same_root home (OfVariable f x) (OfVariable g y) n m e = let is : f ≡ home x = n in let so : g ≡ home y = m in cc
same_root home (OfVariable f x) (OfHand h) n m e = absurd m
same_root home (OfHand h) q n m e = absurd n

pub same_way : (home : ℕ → ℕ) (k w : Way) → Named home k → Named home w → number_of k ≡ number_of w → sels_of k ≡ sels_of w
    → has_elem (sels_of k) ≡ false → k ≡ w
same_way home (Object r) (Object q) n m r' e h = ap Object (same_root home r q n m r')
same_way home (Object x) (Lost y) n m r e h = absurd m
same_way home (Object x) (Into w i) n m r e h = absurd (no_end (sels_of w) (sel_of i) e)
same_way home (Object x) (All w) n m r e h = absurd (no_end (sels_of w) Deref e)
same_way home (Lost x) w n m r e h = absurd n
same_way home (Into k i) (Object y) n m r e h = absurd (no_end (sels_of k) (sel_of i) (sym e))
same_way home (Into k i) (Lost y) n m r e h = absurd m
same_way home (Into k (Component i)) (Into w (Component j)) n m r e h =
    let both = same_ends (sels_of k) (sels_of w) (Field i) (Field j) e in
    let rest = same_way home k w n m r both.0 (elem_front (sels_of k) (Field i) h) in
    let step : i ≡ j = field_same both.1 in
    ap (λ x. Into x (Component i)) rest ∙ ap (λ x. Into w (Component x)) step
same_way home (Into k (Component i)) (Into w (Element j)) n m r e h = absurd (field_elem (same_ends (sels_of k) (sels_of w) (Field i) Elem e).1)
same_way home (Into k (Element i)) (Into w j) n m r e h = absurd (elem_end (sels_of k) h)
same_way home (Into k (Component i)) (All w) n m r e h = absurd (field_deref (same_ends (sels_of k) (sels_of w) (Field i) Deref e).1)
same_way home (Into k (Element i)) (All w) n m r e h = absurd (elem_end (sels_of k) h)
same_way home (All k) (Object y) n m r e h = absurd (no_end (sels_of k) Deref (sym e))
same_way home (All k) (Lost y) n m r e h = absurd m
same_way home (All k) (Into w (Component j)) n m r e h = absurd (deref_field (same_ends (sels_of k) (sels_of w) Deref (Field j) e).1)
same_way home (All k) (Into w (Element j)) n m r e h = absurd (deref_elem (same_ends (sels_of k) (sels_of w) Deref Elem e).1)
same_way home (All k) (All w) n m r e h =
    let both = same_ends (sels_of k) (sels_of w) Deref Deref e in
    ap All (same_way home k w n m r both.0 (elem_front (sels_of k) Deref h))

is_same : (s t : Sel) → is_equal s t ≡ true → s ≡ t
is_same (Field i) (Field j) e = ap Field (eqb-true i j e)
is_same (Field i) Elem e = absurd (false≢true e)
is_same (Field i) Deref e = absurd (false≢true e)
is_same Elem (Field j) e = absurd (false≢true e)
is_same Elem Elem e = refl
is_same Elem Deref e = absurd (false≢true e)
is_same Deref (Field j) e = absurd (false≢true e)
is_same Deref Elem e = absurd (false≢true e)
is_same Deref Deref e = refl

begins_end : (k m : List Sel) (s : Sel) → begins k (m ++ s ∷ []) ≡ true → (k ≡ m ++ s ∷ []) ⊎ (begins k m ≡ true)
begins_end [] m s e = inr refl
begins_end (t ∷ k) [] s e =
    let parts = both_parts (is_equal t s) (begins k []) e in
    let head = is_same t s parts.0 in
    inl (ap (λ x. x ∷ k) head ∙ ap (λ z. s ∷ z) (nothing k parts.1))
  where
    nothing : (k : List Sel) → begins k [] ≡ true → k ≡ []
    nothing [] e = refl
    nothing (t ∷ k) e = absurd (false≢true e)
begins_end (t ∷ k) (u ∷ m) s e =
    let parts = both_parts (is_equal t u) (begins k (m ++ s ∷ [])) e in
    let head = is_same t u parts.0 in
    elim (begins_end k m s parts.1) [
      | inl same ↦ inl (ap (λ x. x ∷ k) head ∙ ap (λ z. u ∷ z) same)
      | inr more ↦ inr (both_true (is_equal t u) (begins k m) parts.0 more)
    ]

nothing_begins : (k : List Sel) → begins k [] ≡ true → k ≡ []
nothing_begins [] e = refl
nothing_begins (t ∷ k) e = absurd (false≢true e)

begun_under : (home : ℕ → ℕ) (k w : Way) → Named home k → Named home w → number_of k ≡ number_of w → begins (sels_of k) (sels_of w) ≡ true
    → has_elem (sels_of k) ≡ false → Under k w
begun_under home k (Object x) n m r e h = same_way home k (Object x) n m r (nothing_begins (sels_of k) e) h
begun_under home k (Lost x) n m r e h = absurd m
begun_under home k (Into w i) n m r e h = elim (begins_end (sels_of k) (sels_of w) (sel_of i) e) [
  | inl same ↦ inl (same_way home k (Into w i) n m r same h)
  | inr more ↦ inr (begun_under home k w n m r more h)
]
begun_under home k (All w) n m r e h = elim (begins_end (sels_of k) (sels_of w) Deref e) [
  | inl same ↦ inl (same_way home k (All w) n m r same h)
  | inr more ↦ inr (begun_under home k w n m r more h)
]

not_true : (b : Bool) → not b ≡ true → b ≡ false
not_true true e = absurd (false≢true e)
not_true false e = refl

pub covered_under : (home : ℕ → ℕ) (k w : Way) → Named home k → Named home w → covers (name_of k) (name_of w) ≡ true → Under k w
covered_under home k w n m e =
    let parts = both_parts (is_prefix (name_of k) (name_of w)) (not (has_elem (sels_of k))) e in
    let two = both_parts (number_of k == number_of w) (begins (sels_of k) (sels_of w)) parts.0 in
    begun_under home k w n m (eqb-true (number_of k) (number_of w) two.0) two.1 (not_true (has_elem (sels_of k)) parts.1)
