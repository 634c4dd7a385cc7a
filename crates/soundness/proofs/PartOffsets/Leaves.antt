-- The access parts of a type are its words that own, and stand at the offsets of its access parts.
use Rattle.std.proofs.Common.{◌≡◌, refl, sym, ap, ◌∙◌, subst, inl, inr, ℕ, zero, suc, ◌+◌, ◌*◌, ◌<◌, Bool, true, false, ◌&&◌, List, [], ◌∷◌, ◌++◌, map, flat_map, length, get_or, arith, append_assoc, append-nil, nat_lt, ltb-true, lt-ltb, suc-mul, zero-mul}
use Rattle.std.proofs.lemmas.Bool.{false≢true}
use Rattle.machine.specs.spark_base.Lists.{Has}
use Rattle.spark_base.proofs.Lists.{Has-append_left, Has-append_right, Has-append_cases, Has-map, Has-map_from}
use Rattle.machine.specs.place_names.declared.selector.Sel.{Sel}
use Rattle.machine.specs.place_names.declared.selector.Sel.TheVariants.{Field, Elem, Deref}
use Rattle.machine.specs.type_definitions.declared.table.Component.{Component as Part}
use Rattle.machine.specs.type_definitions.declared.table.Shape.{Shape}
use Rattle.machine.specs.type_definitions.declared.table.Shape.TheVariants as shape
use Rattle.machine.specs.type_definitions.Types.{Table, shape_of, components_of, fields, words, parts, parts_of, numbered}
use Rattle.soundness.specs.OwnedWays.Ways.{Step, Component, Element}
use Rattle.machine.specs.Words.{no_component, words_before, component_type, element_of, count_of, element_type, element_count, in_each, offsets, access_offsets}
use Rattle.soundness.specs.PartOffsets.Parts.{type_in, offset_in, has_part, owns_one, is_leaf, sels_along, IsSettled}
use Rattle.soundness.proofs.PartOffsets.Ranges.{both_parts}
use Rattle.soundness.proofs.Parted.{by_either}

both_true : (a b : Bool) → a ≡ true → b ≡ true → a && b ≡ true
both_true a b e f = ap (λ x. x && b) e ∙ f

-- ---- lists

pub Has-flat : {A B : Type 0} (f : A → List B) (xs : List A) (x : A) (y : B) → Has xs x → Has (f x) y → Has (flat_map f xs) y
Has-flat f [] x y h g = absurd h
Has-flat f (z ∷ xs) x y (inl e) g = Has-append_left (f z) (flat_map f xs) y (subst (λ w. Has (f w) y) (sym e) g)
Has-flat f (z ∷ xs) x y (inr h) g = Has-append_right (f z) (flat_map f xs) y (Has-flat f xs x y h g)

pub Has-flat_from : {A B : Type 0} (f : A → List B) (xs : List A) (y : B) → Has (flat_map f xs) y → (x : A) × Has xs x × Has (f x) y
Has-flat_from f [] y h = absurd h
Has-flat_from f (z ∷ xs) y h = elim (Has-append_cases (f z) (flat_map f xs) y h) [
  | inl here ↦ (z, inl refl, here)
  | inr more ↦ (let found = Has-flat_from f xs y more in (found.0, inr found.1, found.2))
]

each_has : (count size at : ℕ) (os : List ℕ) (n o : ℕ) → n < count → Has os o → Has (in_each count size at os) (at + n * size + o)
each_has zero size at os n o lt h = absurd (omega (arith, lt))
each_has (suc c) size at os zero o lt h =
    let none = zero-mul size in
    let same : at + o ≡ at + 0 * size + o = omega (arith, none) in
    subst (Has (in_each (suc c) size at os)) same (Has-append_left (map (λ o. at + o) os) (in_each c size (at + size) os) (at + o) (Has-map (λ o. at + o) os o h))
each_has (suc c) size at os (suc n) o lt h =
    let up = each_has c size (at + size) os n o (omega (arith, lt)) h in
    let more = suc-mul n size in
    let same : at + size + n * size + o ≡ at + suc n * size + o = omega (arith, more) in
    subst (Has (in_each (suc c) size at os)) same (Has-append_right (map (λ o. at + o) os) (in_each c size (at + size) os) (at + size + n * size + o) up)

pub record InEach (count size at : ℕ) (os : List ℕ) (x : ℕ) : Type 0 where
  pub index : ℕ
  pub inner : ℕ
  pub less : index < count
  pub has : Has os inner
  pub is : x ≡ at + index * size + inner

each_from : (count size at : ℕ) (os : List ℕ) (x : ℕ) → Has (in_each count size at os) x → InEach count size at os x
each_from zero size at os x h = absurd h
each_from (suc c) size at os x h = elim (Has-append_cases (map (λ o. at + o) os) (in_each c size (at + size) os) x h) [
  | inl here ↦ (
      let found = Has-map_from (λ o. at + o) os x here in
      let is = found.2 in
      let none = zero-mul size in
      record { index = 0; inner = found.0; less = omega arith; has = found.1; is = omega (arith, is, none) })
  | inr more ↦ (
      let found = each_from c size (at + size) os x more in
      let is = found.is in
      let less = found.less in
      let one = suc-mul found.index size in
      record { index = suc found.index; inner = found.inner; less = omega (arith, less); has = found.has; is = omega (arith, is, one) })
]

numbered_has : (f : ℕ → List (List Sel)) (cs : List Part) (i k : ℕ) (q : List Sel) → k < length cs → Has (f (get_or cs k no_component).of) q
    → Has (numbered i f cs) (Field (i + k) ∷ q)
numbered_has f [] i k q lt h = absurd (omega (arith, lt))
numbered_has f (c ∷ rest) i zero q lt h =
    let same : i ≡ i + 0 = omega arith in
    Has-append_left (map (λ q. Field i ∷ q) (f c.of)) (numbered (i + 1) f rest) (Field (i + 0) ∷ q)
    (subst (λ n. Has (map (λ q. Field i ∷ q) (f c.of)) (Field n ∷ q)) same (Has-map (λ q. Field i ∷ q) (f c.of) q h))
numbered_has f (c ∷ rest) i (suc k) q lt h =
    let up = numbered_has f rest (i + 1) k q (omega (arith, lt)) h in
    let same : i + 1 + k ≡ i + suc k = omega arith in
    Has-append_right (map (λ q. Field i ∷ q) (f c.of)) (numbered (i + 1) f rest) (Field (i + suc k) ∷ q)
    (subst (λ n. Has (numbered (i + 1) f rest) (Field n ∷ q)) same up)

pub record InNumbered (f : ℕ → List (List Sel)) (cs : List Part) (i : ℕ) (x : List Sel) : Type 0 where
  pub index : ℕ
  pub rest : List Sel
  pub less : index < length cs
  pub has : Has (f (get_or cs index no_component).of) rest
  pub is : x ≡ Field (i + index) ∷ rest

numbered_from : (f : ℕ → List (List Sel)) (cs : List Part) (i : ℕ) (x : List Sel) → Has (numbered i f cs) x → InNumbered f cs i x
numbered_from f [] i x h = absurd h
numbered_from f (c ∷ rest) i x h = by_either (Has-append_cases (map (λ q. Field i ∷ q) (f c.of)) (numbered (i + 1) f rest) x h)
    (λ here. (
    let found = Has-map_from (λ q. Field i ∷ q) (f c.of) x here in
    let same : i ≡ i + 0 = omega arith in
    record { index = 0; rest = found.0; less = omega arith; has = found.1; is = sym found.2 ∙ ap (λ n. Field n ∷ found.0) same }))
    (λ more. (
    let found = numbered_from f rest (i + 1) x more in
    let less = found.less in
    let same : i + 1 + found.index ≡ i + suc found.index = omega arith in
    record {
      index = suc found.index;
      rest = found.rest;
      less = omega (arith, less);
      has = found.has;
      is = found.is ∙ ap (λ n. Field n ∷ found.rest) same;
    }))

-- ---- parts of shapes

module _ (f : ℕ → List (List Sel)) where
  record_part : (s : Shape) (i : ℕ) (q : List Sel) → i < length (components_of s) → Has (f (get_or (components_of s) i no_component).of) q
      → Has (parts_of f s) (Field i ∷ q)
  record_part (shape.Fields cs) i q lt h =
      let same : 0 + i ≡ i = omega arith in
      subst (λ n. Has (numbered 0 f cs) (Field n ∷ q)) same (numbered_has f cs 0 i q lt h)
  record_part (shape.Whole a b) i q lt h = absurd (omega (arith, lt))
  record_part (shape.Listed l a b) i q lt h = absurd (omega (arith, lt))
  record_part (shape.Access d c n) i q lt h = absurd (omega (arith, lt))
  record_part (shape.Elements a b e) i q lt h = absurd (omega (arith, lt))
  record_part (shape.Same of) i q lt h = absurd (omega (arith, lt))

  array_part : (s : Shape) (n : ℕ) (q : List Sel) → n < count_of s → Has (f (element_of s)) q → Has (parts_of f s) (Elem ∷ q)
  array_part (shape.Elements a b e) n q lt h = Has-map (λ q. Elem ∷ q) (f e) q h
  array_part (shape.Fields cs) n q lt h = absurd (omega (arith, lt))
  array_part (shape.Whole a b) n q lt h = absurd (omega (arith, lt))
  array_part (shape.Listed l a b) n q lt h = absurd (omega (arith, lt))
  array_part (shape.Access d c m) n q lt h = absurd (omega (arith, lt))
  array_part (shape.Same of) n q lt h = absurd (omega (arith, lt))

  own_part : (s : Shape) → owns_one s ≡ true → parts_of f s ≡ [] ∷ []
  own_part (shape.Access d c true) e = refl
  own_part (shape.Access d c false) e = absurd (false≢true e)
  own_part (shape.Fields cs) e = absurd (false≢true e)
  own_part (shape.Whole a b) e = absurd (false≢true e)
  own_part (shape.Listed l a b) e = absurd (false≢true e)
  own_part (shape.Elements a b el) e = absurd (false≢true e)
  own_part (shape.Same of) e = absurd (false≢true e)

  from_own : (s : Shape) → ((of : ℕ) → s ≡ shape.Same of → ⊥) → Has (parts_of f s) [] → owns_one s ≡ true
  from_own (shape.Access d c true) plain h = refl
  from_own (shape.Access d c false) plain h = absurd h
  from_own (shape.Fields cs) plain h = let found = numbered_from f cs 0 [] h in let is = found.is in cc
  from_own (shape.Whole a b) plain h = absurd h
  from_own (shape.Listed l a b) plain h = absurd h
  from_own (shape.Elements a b e) plain h = let found = Has-map_from (λ q. Elem ∷ q) (f e) [] h in let is = found.2 in cc
  from_own (shape.Same of) plain h = absurd (plain of refl)

  from_field : (s : Shape) → ((of : ℕ) → s ≡ shape.Same of → ⊥) → (i : ℕ) (q : List Sel) → Has (parts_of f s) (Field i ∷ q)
      → (i < length (components_of s)) × Has (f (get_or (components_of s) i no_component).of) q
  from_field (shape.Fields cs) plain i q h =
      let found = numbered_from f cs 0 (Field i ∷ q) h in
      let is = found.is in
      let head : i ≡ 0 + found.index = cc in
      let same : found.index ≡ i = omega (arith, head) in
      let rest : found.rest ≡ q = cc in
      (subst (λ k. k < length cs) same found.less, subst (λ z. Has (f (get_or cs i no_component).of) z) rest (subst (λ k. Has (f (get_or cs k no_component).of) found.rest) same found.has))
  from_field (shape.Access d c true) plain i q (inl e) = cc
  from_field (shape.Access d c true) plain i q (inr h) = absurd h
  from_field (shape.Access d c false) plain i q h = absurd h
  from_field (shape.Whole a b) plain i q h = absurd h
  from_field (shape.Listed l a b) plain i q h = absurd h
  from_field (shape.Elements a b e) plain i q h = let found = Has-map_from (λ q. Elem ∷ q) (f e) (Field i ∷ q) h in let is = found.2 in cc
  from_field (shape.Same of) plain i q h = absurd (plain of refl)

  from_elem : (s : Shape) → ((of : ℕ) → s ≡ shape.Same of → ⊥) → (q : List Sel) → Has (parts_of f s) (Elem ∷ q) → Has (f (element_of s)) q
  from_elem (shape.Elements a b e) plain q h =
      let found = Has-map_from (λ q. Elem ∷ q) (f e) (Elem ∷ q) h in
      let is = found.2 in
      let rest : found.0 ≡ q = cc in
      subst (Has (f e)) rest found.1
  from_elem (shape.Fields cs) plain q h = let found = numbered_from f cs 0 (Elem ∷ q) h in let is = found.is in cc
  from_elem (shape.Access d c true) plain q (inl e) = cc
  from_elem (shape.Access d c true) plain q (inr h) = absurd h
  from_elem (shape.Access d c false) plain q h = absurd h
  from_elem (shape.Whole a b) plain q h = absurd h
  from_elem (shape.Listed l a b) plain q h = absurd h
  from_elem (shape.Same of) plain q h = absurd (plain of refl)

  no_deref : (s : Shape) → ((of : ℕ) → s ≡ shape.Same of → ⊥) → (q : List Sel) → Has (parts_of f s) (Deref ∷ q) → ⊥
  no_deref (shape.Elements a b e) plain q h = let found = Has-map_from (λ q. Elem ∷ q) (f e) (Deref ∷ q) h in let is = found.2 in cc
  no_deref (shape.Fields cs) plain q h = let found = numbered_from f cs 0 (Deref ∷ q) h in let is = found.is in cc
  no_deref (shape.Access d c true) plain q (inl e) = cc
  no_deref (shape.Access d c true) plain q (inr h) = absurd h
  no_deref (shape.Access d c false) plain q h = absurd h
  no_deref (shape.Whole a b) plain q h = absurd h
  no_deref (shape.Listed l a b) plain q h = absurd h
  no_deref (shape.Same of) plain q h = absurd (plain of refl)

-- ---- parts of types

module _ (table : Table) (settled : IsSettled table) where
  up : (t : ℕ) (p : List Step) (q : List Sel) (o : ℕ) → has_part table t p ≡ true → Has (parts table (type_in table t p)) q
      → Has (offsets table (type_in table t p) q) o
      → Has (parts table t) (sels_along p ++ q) × Has (offsets table t (sels_along p ++ q)) (offset_in table t p + o)
  unfolding offsets
  up t [] q o has h g = (let same : o ≡ 0 + o = omega arith in (h, subst (Has (offsets table t q)) same g))
  up t (Component i ∷ p) q o has h g =
      let u : ℕ = type_in table t p in
      let both = both_parts (has_part table t p) (nat_lt i (length (fields table u))) has in
      let part : Has (parts table u) (Field i ∷ q) =
      subst (λ z. Has z (Field i ∷ q)) (sym (settled.part_law u)) (record_part (parts table) (shape_of table u) i q (ltb-true _ _ both.1) h) in
      let rest = up t p (Field i ∷ q) (words_before table u i + o) both.0 part
      (Has-map (λ o. words_before table u i + o) (offsets table (component_type table u i) q) o g) in
      let same : sels_along p ++ Field i ∷ q ≡ (sels_along p ++ Field i ∷ []) ++ q = sym (append_assoc (sels_along p) (Field i ∷ []) q) in
      let at : offset_in table t p + (words_before table u i + o) ≡ offset_in table t p + words_before table u i + o = omega arith in (
        subst (Has (parts table t)) same rest.0,
        subst (λ z. Has (offsets table t z) (offset_in table t p + words_before table u i + o)) same
            (subst (Has (offsets table t (sels_along p ++ Field i ∷ q))) at rest.1),
      )
  up t (Element n ∷ p) q o has h g =
      let u : ℕ = type_in table t p in
      let both = both_parts (has_part table t p) (nat_lt n (element_count table u)) has in
      let part : Has (parts table u) (Elem ∷ q) =
      subst (λ z. Has z (Elem ∷ q)) (sym (settled.part_law u)) (array_part (parts table) (shape_of table u) n q (ltb-true _ _ both.1) h) in
      let rest = up t p (Elem ∷ q) (0 + n * words table (element_type table u) + o) both.0 part
      (each_has (element_count table u) (words table (element_type table u)) 0 (offsets table (element_type table u) q) n o (ltb-true _ _ both.1) g) in
      let same : sels_along p ++ Elem ∷ q ≡ (sels_along p ++ Elem ∷ []) ++ q = sym (append_assoc (sels_along p) (Elem ∷ []) q) in
      let at : offset_in table t p + (0 + n * words table (element_type table u) + o)
      ≡ offset_in table t p + n * words table (element_type table u) + o = omega arith in (
        subst (Has (parts table t)) same rest.0,
        subst (λ z. Has (offsets table t z) (offset_in table t p + n * words table (element_type table u) + o)) same
            (subst (Has (offsets table t (sels_along p ++ Elem ∷ q))) at rest.1),
      )

  own_parts : (u : ℕ) → owns_one (shape_of table u) ≡ true → parts table u ≡ [] ∷ []
  own_parts u e = settled.part_law u ∙ own_part (parts table) (shape_of table u) e

  leaf_up : (t : ℕ) (p : List Step) → is_leaf table t p ≡ true
      → Has (parts table t) (sels_along p ++ []) × Has (offsets table t (sels_along p ++ [])) (offset_in table t p + 0)
  unfolding offsets
  leaf_up t p e =
      let both = both_parts (has_part table t p) (owns_one (shape_of table (type_in table t p))) e in
      up t p [] 0 both.0 (subst (λ z. Has z []) (sym (own_parts (type_in table t p) both.1)) (inl refl)) (inl refl)

  pub leaf_has : (t : ℕ) (p : List Step) → is_leaf table t p ≡ true → Has (parts table t) (sels_along p)
  leaf_has t p e = subst (Has (parts table t)) (append-nil (sels_along p)) (leaf_up t p e).0

  pub leaf_at : (t : ℕ) (p : List Step) → is_leaf table t p ≡ true → Has (access_offsets table t) (offset_in table t p)
  leaf_at t p e =
      let both = leaf_up t p e in
      let at : offset_in table t p + 0 ≡ offset_in table t p = omega arith in
      Has-flat (offsets table t) (parts table t) (sels_along p ++ []) (offset_in table t p) both.0
      (subst (Has (offsets table t (sels_along p ++ []))) at both.1)

  pub record LeafOf (t : ℕ) (p : List Step) (q : List Sel) (o : ℕ) : Type 0 where
    pub path : List Step
    pub leaf : is_leaf table t path ≡ true
    pub at : offset_in table t path ≡ offset_in table t p + o
    pub sels : sels_along path ≡ sels_along p ++ q

  down : (t : ℕ) (p : List Step) (q : List Sel) (o : ℕ) → has_part table t p ≡ true → Has (parts table (type_in table t p)) q
      → Has (offsets table (type_in table t p) q) o → LeafOf t p q o
  unfolding offsets
  down t p [] o has h (inl zero_is) =
      let own = from_own (parts table) (shape_of table (type_in table t p)) (settled.plain (type_in table t p))
      (subst (λ z. Has z []) (settled.part_law (type_in table t p)) h) in
      record {
        path = p;
        leaf = both_true (has_part table t p) (owns_one (shape_of table (type_in table t p))) has own;
        at = omega (arith, zero_is);
        sels = sym (append-nil (sels_along p));
      }
  down t p [] o has h (inr none) = absurd none
  down t p (Field i ∷ q) o has h g =
      let u : ℕ = type_in table t p in
      let from = from_field (parts table) (shape_of table u) (settled.plain u) i q (subst (λ z. Has z (Field i ∷ q)) (settled.part_law u) h) in
      let found = Has-map_from (λ o. words_before table u i + o) (offsets table (component_type table u i) q) o g in
      let rest = down t (Component i ∷ p) q found.0
      (both_true (has_part table t p) (nat_lt i (length (fields table u))) has (lt-ltb _ _ from.0)) from.1 found.1 in
      let at = rest.at in
      let is = found.2 in
      record {
        path = rest.path;
        leaf = rest.leaf;
        at = omega (arith, at, is);
        sels = rest.sels ∙ append_assoc (sels_along p) (Field i ∷ []) q;
      }
  down t p (Elem ∷ q) o has h g =
      let u : ℕ = type_in table t p in
      let from = from_elem (parts table) (shape_of table u) (settled.plain u) q (subst (λ z. Has z (Elem ∷ q)) (settled.part_law u) h) in
      let found = each_from (element_count table u) (words table (element_type table u)) 0 (offsets table (element_type table u) q) o g in
      let rest = down t (Element found.index ∷ p) q found.inner
      (both_true (has_part table t p) (nat_lt found.index (element_count table u)) has (lt-ltb _ _ found.less)) from found.has in
      let at = rest.at in
      let is = found.is in
      record {
        path = rest.path;
        leaf = rest.leaf;
        at = omega (arith, at, is);
        sels = rest.sels ∙ append_assoc (sels_along p) (Elem ∷ []) q;
      }
  down t p (Deref ∷ q) o has h g =
      absurd (no_deref (parts table) (shape_of table (type_in table t p)) (settled.plain (type_in table t p)) q
      (subst (λ z. Has z (Deref ∷ q)) (settled.part_law (type_in table t p)) h))

  -- each access part is a word that owns
  pub leaf_from : (t o : ℕ) → Has (access_offsets table t) o → (p : List Step) × (is_leaf table t p ≡ true) × (offset_in table t p ≡ o)
  leaf_from t o h =
      let found = Has-flat_from (offsets table t) (parts table t) o h in
      let is = down t [] found.0 o refl found.1 found.2 in
      let at = is.at in
      (is.path, is.leaf, omega (arith, at))
