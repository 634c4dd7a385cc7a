-- An access part without an element is one word that owns.
use Rattle.std.proofs.Common.{◌≡◌, refl, sym, ap, ◌∙◌, subst, inl, inr, ℕ, suc, ◌+◌, ◌<◌, true, false, List, [], ◌∷◌, ◌++◌, map, length, get_or, arith, append_assoc, append-nil, nat_lt, lt-ltb, true≢false}
use Rattle.machine.specs.spark_base.Lists.{Has}
use Rattle.spark_base.proofs.Lists.{Has-append_cases, Has-map_from}
use Rattle.machine.specs.place_names.declared.selector.Sel.{Sel}
use Rattle.machine.specs.place_names.declared.selector.Sel.TheVariants.{Field, Elem, Deref}
use Rattle.machine.specs.place_names.Names.{has_elem}
use Rattle.machine.specs.type_definitions.declared.table.Component.{Component as Part}
use Rattle.machine.specs.type_definitions.declared.table.Shape.{Shape}
use Rattle.machine.specs.type_definitions.declared.table.Shape.TheVariants as shape
use Rattle.machine.specs.type_definitions.Types.{Table, shape_of, components_of, fields, parts, parts_of, numbered}
use Rattle.soundness.specs.OwnedWays.Ways.{Step, Component}
use Rattle.soundness.proofs.OwnedWays.Locations.{both_true}
use Rattle.machine.specs.Words.{no_component, words_before, offsets}
use Rattle.soundness.specs.PartOffsets.Parts.{type_in, offset_in, has_part, owns_one, is_leaf, sels_along, IsSettled}
use Rattle.soundness.proofs.PartOffsets.Leaves.{InNumbered}
use Rattle.soundness.proofs.Parted.{by_either}

numbered_from : (f : ℕ → List (List Sel)) (cs : List Part) (i : ℕ) (x : List Sel) → Has (numbered i f cs) x → InNumbered f cs i x
numbered_from f [] i x h = absurd h
numbered_from f (c ∷ rest) i x h = by_either (Has-append_cases (map (λ q. Field i ∷ q) (f c.of)) (numbered (i + 1) f rest) x h)
    (λ here. (
    let found = Has-map_from (λ q. Field i ∷ q) (f c.of) x here in
    let same : i ≡ i + 0 = omega arith in
    record { index = 0; rest = found.0; less = omega arith; has = found.1; is = sym found.2 ∙ ap (λ n. Field n ∷ found.0) same }))
    (λ more. (
    let found = numbered_from f rest (i + 1) x more in
    let less = found.less in
    let same : i + 1 + found.index ≡ i + suc found.index = omega arith in
    record {
      index = suc found.index;
      rest = found.rest;
      less = omega (arith, less);
      has = found.has;
      is = found.is ∙ ap (λ n. Field n ∷ found.rest) same;
    }))

module _ (f : ℕ → List (List Sel)) where
  from_own : (s : Shape) → ((of : ℕ) → s ≡ shape.Same of → ⊥) → Has (parts_of f s) [] → owns_one s ≡ true
  from_own (shape.Access d c true) plain h = refl
  from_own (shape.Access d c false) plain h = absurd h
  from_own (shape.Fields cs) plain h = let found = numbered_from f cs 0 [] h in let is = found.is in cc
  from_own (shape.Whole a b) plain h = absurd h
  from_own (shape.Listed l a b) plain h = absurd h
  from_own (shape.Elements a b e) plain h = let found = Has-map_from (λ q. Elem ∷ q) (f e) [] h in let is = found.2 in cc
  from_own (shape.Same of) plain h = absurd (plain of refl)

  from_field : (s : Shape) → ((of : ℕ) → s ≡ shape.Same of → ⊥) → (i : ℕ) (q : List Sel) → Has (parts_of f s) (Field i ∷ q)
      → (i < length (components_of s)) × Has (f (get_or (components_of s) i no_component).of) q
  from_field (shape.Fields cs) plain i q h =
      let found = numbered_from f cs 0 (Field i ∷ q) h in
      let is = found.is in
      let head : i ≡ 0 + found.index = cc in
      let same : found.index ≡ i = omega (arith, head) in
      let rest : found.rest ≡ q = cc in
      (subst (λ k. k < length cs) same found.less, subst (λ z. Has (f (get_or cs i no_component).of) z) rest (subst (λ k. Has (f (get_or cs k no_component).of) found.rest) same found.has))
  from_field (shape.Access d c true) plain i q (inl e) = cc
  from_field (shape.Access d c true) plain i q (inr h) = absurd h
  from_field (shape.Access d c false) plain i q h = absurd h
  from_field (shape.Whole a b) plain i q h = absurd h
  from_field (shape.Listed l a b) plain i q h = absurd h
  from_field (shape.Elements a b e) plain i q h = let found = Has-map_from (λ q. Elem ∷ q) (f e) (Field i ∷ q) h in let is = found.2 in cc
  from_field (shape.Same of) plain i q h = absurd (plain of refl)

  no_deref : (s : Shape) → ((of : ℕ) → s ≡ shape.Same of → ⊥) → (q : List Sel) → Has (parts_of f s) (Deref ∷ q) → ⊥
  no_deref (shape.Elements a b e) plain q h = let found = Has-map_from (λ q. Elem ∷ q) (f e) (Deref ∷ q) h in let is = found.2 in cc
  no_deref (shape.Fields cs) plain q h = let found = numbered_from f cs 0 (Deref ∷ q) h in let is = found.is in cc
  no_deref (shape.Access d c true) plain q (inl e) = cc
  no_deref (shape.Access d c true) plain q (inr h) = absurd h
  no_deref (shape.Access d c false) plain q h = absurd h
  no_deref (shape.Whole a b) plain q h = absurd h
  no_deref (shape.Listed l a b) plain q h = absurd h
  no_deref (shape.Same of) plain q h = absurd (plain of refl)

module _ (table : Table) (settled : IsSettled table) where
  -- the word that owns, and its one offset
  pub record PlainLeaf (t : ℕ) (p : List Step) (q : List Sel) : Type 0 where
    pub path : List Step
    pub leaf : is_leaf table t path ≡ true
    pub sels : sels_along path ≡ sels_along p ++ q
    pub word : ℕ
    pub at : offset_in table t path ≡ offset_in table t p + word
    pub only : offsets table (type_in table t p) q ≡ word ∷ []

  pub plain_leaf : (t : ℕ) (p : List Step) (q : List Sel) → has_part table t p ≡ true → has_elem q ≡ false
      → Has (parts table (type_in table t p)) q → PlainLeaf t p q
  unfolding offsets
  plain_leaf t p [] has plain h =
      let own = from_own (parts table) (shape_of table (type_in table t p)) (settled.plain (type_in table t p))
      (subst (λ z. Has z []) (settled.part_law (type_in table t p)) h) in
      record {
        path = p;
        leaf = both_true (has_part table t p) (owns_one (shape_of table (type_in table t p))) has own;
        sels = sym (append-nil (sels_along p));
        word = 0;
        at = omega arith;
        only = refl;
      }
  plain_leaf t p (Field i ∷ q) has plain h =
      let u : ℕ = type_in table t p in
      let from = from_field (parts table) (shape_of table u) (settled.plain u) i q (subst (λ z. Has z (Field i ∷ q)) (settled.part_law u) h) in
      let rest = plain_leaf t (Component i ∷ p) q
      (both_true (has_part table t p) (nat_lt i (length (fields table u))) has (lt-ltb _ _ from.0)) plain from.1 in
      let at = rest.at in
      record {
        path = rest.path;
        leaf = rest.leaf;
        sels = rest.sels ∙ append_assoc (sels_along p) (Field i ∷ []) q;
        word = words_before table u i + rest.word;
        at = omega (arith, at);
        only = ap (map (λ o. words_before table u i + o)) rest.only;
      }
  plain_leaf t p (Elem ∷ q) has plain h = absurd (true≢false plain)
  plain_leaf t p (Deref ∷ q) has plain h =
      absurd (no_deref (parts table) (shape_of table (type_in table t p)) (settled.plain (type_in table t p)) q
      (subst (λ z. Has z (Deref ∷ q)) (settled.part_law (type_in table t p)) h))
