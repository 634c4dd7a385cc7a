-- One more row: types are based on others as before.
use Rattle.std.proofs.Common.{◌≡◌, ◌⊎◌, inl, inr, ℕ, zero, suc, ◌<◌, ◌≤◌, List, [], ◌∷◌, set, length, refl, sym, ap, ◌∙◌, subst, Some}
use Rattle.std.specs.Prelude.{slice_get}
use Rattle.std.proofs.lemmas.Bool.{cases_eq}
use Rattle.machine.specs.spark_base.Lists.{Has}
use Rattle.machine.specs.type_definitions.declared.table.Info.{Info}
use Rattle.machine.specs.type_definitions.declared.table.Shape.{Shape}
use Rattle.machine.specs.type_definitions.Types.{Table, base, base_found, meant_type, meant_type_found, same_as, shape_of, shape_found}
use Rattle.settled_types.specs.Wholes.{written}
use Rattle.settled_types.proofs.Rows.{slice_in}
use Rattle.settled_types.specs.GatheredLaws.DefinitionKinds.{kind}
use Rattle.settled_types.specs.GatheredLaws.Based.{IsOne, Agrees, AreBased}

pub slice_off : {A : Type 0} (xs : List A) (d t : ℕ) (x : A) → (t ≡ d → ⊥) → slice_get (set xs d x) t ≡ slice_get xs t
slice_off [] d t x ne = refl
slice_off (y ∷ rest) zero zero x ne = absurd (ne refl)
slice_off (y ∷ rest) zero (suc t) x ne = refl
slice_off (y ∷ rest) (suc d) zero x ne = refl
slice_off (y ∷ rest) (suc d) (suc t) x ne = slice_off rest d t x (λ e. ne (ap suc e))

-- ---- the row itself, and the others

module _ (table : Table) (d : ℕ) (i : Info) (less : d < length table) where
  abbrev after : Table
  after = set table d i

  at : slice_get after d ≡ Some i
  at = slice_in table d i less

  pub base_at : base after d ≡ i.base
  base_at = ap base_found at

  pub meant_at : meant_type after d ≡ same_as d i.shape
  meant_at = ap (meant_type_found d) at

  pub written_at : written after d ≡ i.shape
  written_at = ap shape_found at

module _ (table : Table) (d : ℕ) (i : Info) (t : ℕ) (ne : t ≡ d → ⊥) where
  pub base_off : base (set table d i) t ≡ base table t
  base_off = ap base_found (slice_off table d t i ne)

  pub meant_off : meant_type (set table d i) t ≡ meant_type table t
  meant_off = ap (meant_type_found t) (slice_off table d t i ne)

  pub written_off : written (set table d i) t ≡ written table t
  written_off = ap shape_found (slice_off table d t i ne)

-- ---- what is asked of a new row

pub record Puts (rule : ℕ → Shape → Type 0) (Final : Type 0) (a e more_a more_e : List ℕ) (table : Table) (d : ℕ) (i : Info) : Type 0 where
  pub high : 5 ≤ d
  pub less : d < length table
  pub more : (v : ℕ) → IsOne a e v → IsOne more_a more_e v
  pub only : (v : ℕ) → IsOne more_a more_e v → IsOne a e v ⊎ (v ≡ d)
  pub here : IsOne more_a more_e d
  pub base_is : IsOne more_a more_e i.base
  pub base_own : (i.base ≡ d) ⊎ ((i.base ≡ d → ⊥) × (base table i.base ≡ i.base))
  pub meant_is : IsOne more_a more_e (same_as d i.shape)
  pub as_ruled : i.base ≡ d → rule d i.shape
  -- a row that was declared before is of a type that is completed here
  pub old : IsOne a e d → (base table d ≡ d) × (i.base ≡ d)
  pub awaits : (t : ℕ) → Has more_a t → Has a t ⊎ ((t ≡ d) × (i.base ≡ d))
  pub agree : Final → Agrees (set table d i) d

module _ (rule : ℕ → Shape → Type 0) (Final : Type 0) (steady : Final → (d : ℕ) (s u : Shape) → rule d s → rule d u → kind s ≡ kind u) (views : ℕ → Type 0) (start : Table)
    (a e more_a more_e : List ℕ) (table : Table) (d : ℕ) (i : Info) (b : AreBased rule Final views start a e table)
    (puts : Puts rule Final a e more_a more_e table d i) where
  abbrev new : Table
  new = set table d i

  was : (t : ℕ) → IsOne more_a more_e t → (t ≡ d → ⊥) → IsOne a e t
  was t is ne = elim (puts.only t is) [ inl old ↦ old | inr same ↦ absurd (ne same) ]

  base_here : base new d ≡ i.base
  base_here = base_at table d i puts.less

  -- a type is based on this one
  own_base : (t : ℕ) → t ≡ d → i.base ≡ d → base new t ≡ t
  own_base t same own = ap (base new) same ∙ base_here ∙ own ∙ sym same

  put_bases : (t : ℕ) → IsOne more_a more_e t → base new (base new t) ≡ base new t
  put_bases t is = elim (cases_eq t d) [
    | inl same ↦
        let up : base new t ≡ i.base = ap (base new) same ∙ base_here in
        let on : base new i.base ≡ i.base = elim puts.base_own [
          | inl own ↦ own_base i.base own own
          | inr other ↦ base_off table d i i.base other.0 ∙ other.1
        ] in
        ap (base new) up ∙ on ∙ sym up
    | inr ne ↦
        let up : base new t ≡ base table t = base_off table d i t ne in
        let on : base new (base table t) ≡ base table t = elim (cases_eq (base table t) d) [
          | inl same ↦ own_base (base table t) same (puts.old (subst (IsOne a e) same (b.based t (was t is ne)))).1
          | inr other ↦ base_off table d i (base table t) other ∙ b.bases t (was t is ne)
        ] in
        ap (base new) up ∙ on ∙ sym up
  ]

  put_based : (t : ℕ) → IsOne more_a more_e t → IsOne more_a more_e (base new t)
  put_based t is = elim (cases_eq t d) [
    | inl same ↦ subst (IsOne more_a more_e) (sym (ap (base new) same ∙ base_here)) puts.base_is
    | inr ne ↦ subst (IsOne more_a more_e) (sym (base_off table d i t ne)) (puts.more (base table t) (b.based t (was t is ne)))
  ]

  put_meant : (t : ℕ) → IsOne more_a more_e t → IsOne more_a more_e (meant_type new t)
  put_meant t is = elim (cases_eq t d) [
    | inl same ↦ subst (IsOne more_a more_e) (sym (ap (meant_type new) same ∙ meant_at table d i puts.less)) puts.meant_is
    | inr ne ↦ subst (IsOne more_a more_e) (sym (meant_off table d i t ne)) (puts.more (meant_type table t) (b.meant t (was t is ne)))
  ]

  put_own : (t : ℕ) → IsOne more_a more_e t → 5 ≤ t → base new t ≡ t → rule t (written new t)
  put_own t is high own = elim (cases_eq t d) [
    | inl same ↦
        let own_here : i.base ≡ d = sym (ap (base new) same ∙ base_here) ∙ own ∙ same in
        subst (λ t. rule t (written new t)) (sym same) (subst (rule d) (sym (written_at table d i puts.less)) (puts.as_ruled own_here))
    | inr ne ↦ subst (rule t) (sym (written_off table d i t ne)) (b.own t (was t is ne) high (sym (base_off table d i t ne) ∙ own))
  ]

  put_waits : (t : ℕ) → Has more_a t → (base new t ≡ t) × (5 ≤ t)
  put_waits t has = elim (cases_eq t d) [
    | inl same ↦
        let own : i.base ≡ d = elim (puts.awaits t has) [
          | inl old ↦ (puts.old (inr (inl (subst (Has a) same old)))).1
          | inr new_one ↦ new_one.1
        ] in
        (own_base t same own, subst (λ n. 5 ≤ n) (sym same) puts.high)
    | inr ne ↦ elim (puts.awaits t has) [
      | inl old ↦ (base_off table d i t ne ∙ (b.waits t old).0, (b.waits t old).1)
      | inr new_one ↦ absurd (ne new_one.0)
    ]
  ]

  put_fresh : (t : ℕ) → 5 ≤ t → (IsOne more_a more_e t → ⊥) → (views t → ⊥) → slice_get new t ≡ slice_get start t
  put_fresh t high none other =
      slice_off table d t i (λ same. none (subst (IsOne more_a more_e) (sym same) puts.here))
      ∙ b.fresh t high (λ is. none (puts.more t is)) other

  -- kinds stay
  kept : Final → (u : ℕ) → IsOne a e u → kind (written new u) ≡ kind (written table u)
  kept f u is = elim (cases_eq u d) [
    | inl same ↦
        let here : IsOne a e d = subst (IsOne a e) same is in
        let own = puts.old here in
        ap (λ v. kind (written new v)) same ∙ ap kind (written_at table d i puts.less)
        ∙ steady f d i.shape (written table d) (puts.as_ruled own.1) (b.own d here puts.high own.0) ∙ ap (λ v. kind (written table v)) (sym same)
    | inr ne ↦ ap kind (written_off table d i u ne)
  ]

  put_agrees : Final → (t : ℕ) → IsOne more_a more_e t → Agrees new t
  put_agrees f t is = elim (cases_eq t d) [
    | inl same ↦ subst (Agrees new) (sym same) (puts.agree f)
    | inr ne ↦
        let old = was t is ne in
        elim (b.agrees f t old) [
          | inl same ↦ inl (meant_off table d i t ne ∙ same ∙ sym (base_off table d i t ne))
          | inr like ↦
              let shape_kept : kind (shape_of new t) ≡ kind (shape_of table t)
              = ap (λ u. kind (written new u)) (meant_off table d i t ne) ∙ kept f (meant_type table t) (b.meant t old) in
              let base_kept : kind (written new (base new t)) ≡ kind (written table (base table t))
              = ap (λ u. kind (written new u)) (base_off table d i t ne) ∙ kept f (base table t) (b.based t old) in
              inr (shape_kept ∙ like.0 ∙ sym base_kept, subst (λ k. k < 2) (sym shape_kept) like.1)
        ]
  ]

  pub put : AreBased rule Final views start more_a more_e new
  put = record {
    based = put_based;
    bases = put_bases;
    meant = put_meant;
    own = put_own;
    waits = put_waits;
    fresh = put_fresh;
    agrees = put_agrees;
  }

-- ---- the row of an anonymous access type

module _ (rule : ℕ → Shape → Type 0) (Final : Type 0) (views : ℕ → Type 0) (start : Table) (a e : List ℕ) (table : Table) (d : ℕ) (i : Info)
    (b : AreBased rule Final views start a e table) (none : IsOne a e d → ⊥) (view : views d) where
  off : (t : ℕ) → IsOne a e t → t ≡ d → ⊥
  off t is same = none (subst (IsOne a e) same is)

  abbrev with_view : Table
  with_view = set table d i

  kind_off : (t : ℕ) → IsOne a e t → kind (written with_view t) ≡ kind (written table t)
  kind_off t is = ap kind (written_off table d i t (off t is))

  view_agrees : Final → (t : ℕ) → IsOne a e t → Agrees with_view t
  view_agrees f t is = elim (b.agrees f t is) [
    | inl same ↦ inl (meant_off table d i t (off t is) ∙ same ∙ sym (base_off table d i t (off t is)))
    | inr like ↦
        let shape_kept : kind (shape_of with_view t) ≡ kind (shape_of table t)
        = ap (λ u. kind (written with_view u)) (meant_off table d i t (off t is)) ∙ kind_off (meant_type table t) (b.meant t is) in
        let base_kept : kind (written with_view (base with_view t)) ≡ kind (written table (base table t))
        = ap (λ u. kind (written with_view u)) (base_off table d i t (off t is)) ∙ kind_off (base table t) (b.based t is) in
        inr (shape_kept ∙ like.0 ∙ sym base_kept, subst (λ k. k < 2) (sym shape_kept) like.1)
  ]

  pub view_put : AreBased rule Final views start a e with_view
  view_put = record {
    based = λ t is. subst (IsOne a e) (sym (base_off table d i t (off t is))) (b.based t is);
    bases = λ t is.
        let up : base with_view t ≡ base table t = base_off table d i t (off t is) in
        ap (base with_view) up ∙ (base_off table d i (base table t) (off (base table t) (b.based t is)) ∙ b.bases t is) ∙ sym up;
    meant = λ t is. subst (IsOne a e) (sym (meant_off table d i t (off t is))) (b.meant t is);
    own = λ t is high own. subst (rule t) (sym (written_off table d i t (off t is))) (b.own t is high (sym (base_off table d i t (off t is)) ∙ own));
    waits = λ t has. let w = b.waits t has in (base_off table d i t (off t (inr (inl has))) ∙ w.0, w.1);
    fresh = λ t high one other. slice_off table d t i (λ same. other (subst views (sym same) view)) ∙ b.fresh t high one other;
    agrees = view_agrees;
  }
