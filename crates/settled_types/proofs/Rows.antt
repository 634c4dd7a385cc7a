-- One more entry, and one more row of the table.
use Rattle.std.proofs.Common.{◌≡◌, ◌⊎◌, inl, inr, ℕ, zero, suc, ◌<◌, ◌≤◌, Bool, true, false, ◌||◌, List, [], ◌∷◌, refl, sym, ap, ◌∙◌, arith, length, get_or, set, nat_eq, Some, None, is_some, true≢false, subst}
use Rattle.std.specs.Prelude.{slice_get}
use Rattle.std.proofs.lemmas.Bool.{cases_eq, cases_lt}
use Rattle.std.proofs.lemmas.List.{get_or-set_same, get_or-set_other, set_past, length-set}
use Rattle.machine.specs.spark_base.declared.position.Pos.{Pos}
use Rattle.machine.specs.spark_base.Lists.{Has}
use Rattle.machine.specs.type_definitions.declared.table.Info.{Info}
use Rattle.machine.specs.type_definitions.declared.table.Shape.TheVariants as shape
use Rattle.machine.specs.type_definitions.declared.table.Known.{Known}
use Rattle.machine.specs.type_definitions.declared.table.Entry.{Entry}
use Rattle.machine.specs.type_definitions.declared.table.Entry.TheVariants as entry
use Rattle.machine.specs.type_definitions.Types.{Table, info, info_found, base, base_found, shape_found}
use Rattle.machine.specs.type_definitions.Entries.{entry_of}
use Rattle.machine.specs.type_definitions.Declarations.{holds_shape, holds_parent}
use Rattle.type_settled.specs.Reach.{holds}
use Rattle.type_settled.specs.Rings.{IsPart}
use Rattle.settled_types.specs.Wholes.{written}
use Rattle.settled_types.specs.Orderly.{Past, IsNew}
use Rattle.settled_types.specs.Stamped.{IsOpen, IsType, IsFixed, IsClosed, AreRows, AreStamped}
use Rattle.settled_types.proofs.Ringless.{itself, shape_info}

-- ---- lists

module _ {A : Type 0} where
  slice_other : (xs : List A) (d t : ℕ) (x : A) → (t ≡ d → ⊥) → slice_get (set xs d x) t ≡ slice_get xs t
  slice_other [] d t x ne = refl
  slice_other (y ∷ rest) zero zero x ne = absurd (ne refl)
  slice_other (y ∷ rest) zero (suc t) x ne = refl
  slice_other (y ∷ rest) (suc d) zero x ne = refl
  slice_other (y ∷ rest) (suc d) (suc t) x ne = slice_other rest d t x (λ e. ne (ap suc e))

  slice_same : (xs : List A) (d : ℕ) (x : A) → (slice_get (set xs d x) d ≡ Some x) ⊎ (slice_get (set xs d x) d ≡ None)
  slice_same [] d x = inr refl
  slice_same (y ∷ rest) zero x = inl refl
  slice_same (y ∷ rest) (suc d) x = slice_same rest d x

  pub slice_in : (xs : List A) (d : ℕ) (x : A) → d < length xs → slice_get (set xs d x) d ≡ Some x
  slice_in [] d x within = absurd (omega (arith, within))
  slice_in (y ∷ rest) zero x within = refl
  slice_in (y ∷ rest) (suc d) x within = slice_in rest d x (omega (arith, within))

-- ---- a row

abbrev pub IsMadeOf : Info → ℕ → Type 0
IsMadeOf i v = holds true (λ u. nat_eq u v) i ≡ true

no_same : (of : ℕ) → shape.Fields [] ≡ shape.Same of → ⊥
no_same of e = cc

-- what stands for another type has it in itself
pub same_part : (table : Table) (t of : ℕ) → written table t ≡ shape.Same of → IsPart table of t
same_part table t of is =
    let up : Bool = holds_parent (λ u. nat_eq u of) (info table t).parent in
    ap (λ s. holds_shape (λ u. nat_eq u of) s || up) (sym (shape_info (slice_get table t)) ∙ is)
    ∙ ap (λ b. b || up) (itself of)

module _ (table : Table) (d : ℕ) (i : Info) where
  abbrev with_row : Table
  with_row = set table d i

  part_here : (v : ℕ) → (slice_get with_row d ≡ Some i) ⊎ (slice_get with_row d ≡ None) → IsPart with_row v d → IsMadeOf i v
  part_here v (inl is) part = ap (λ o. holds true (λ u. nat_eq u v) (info_found o)) (sym is) ∙ part
  part_here v (inr is) part = absurd (true≢false (sym part ∙ ap (λ o. holds true (λ u. nat_eq u v) (info_found o)) is))

  pub part_after : (t v : ℕ) → IsPart with_row v t → ((t ≡ d) × IsMadeOf i v) ⊎ ((t ≡ d → ⊥) × IsPart table v t)
  part_after t v part = elim (cases_eq t d) [
    | inl same ↦ inl (same, part_here v (slice_same table d i) (subst (λ t. IsPart with_row v t) same part))
    | inr other ↦ inr (other, ap (λ o. holds true (λ u. nat_eq u v) (info_found o)) (sym (slice_other table d t i other)) ∙ part)
  ]

  same_here : (of : ℕ) → (slice_get with_row d ≡ Some i) ⊎ (slice_get with_row d ≡ None) → written with_row d ≡ shape.Same of
      → i.shape ≡ shape.Same of
  same_here of (inl is) e = ap shape_found (sym is) ∙ e
  same_here of (inr is) e = absurd (no_same of (ap shape_found (sym is) ∙ e))

  pub same_after : (t of : ℕ) → written with_row t ≡ shape.Same of
      → ((t ≡ d) × (i.shape ≡ shape.Same of)) ⊎ ((t ≡ d → ⊥) × (written table t ≡ shape.Same of))
  same_after t of e = elim (cases_eq t d) [
    | inl same ↦ inl (same, same_here of (slice_same table d i) (ap (written with_row) (sym same) ∙ e))
    | inr other ↦ inr (other, ap shape_found (sym (slice_other table d t i other)) ∙ e)
  ]

  based_here : (is_some i.seen_in ≡ true → i.base ≡ d) → (slice_get with_row d ≡ Some i) ⊎ (slice_get with_row d ≡ None)
      → is_some (info with_row d).seen_in ≡ true → base with_row d ≡ d
  based_here based (inl is) seen = ap base_found is ∙ based (ap (λ o. is_some (info_found o).seen_in) (sym is) ∙ seen)
  based_here based (inr is) seen = absurd (true≢false (sym seen ∙ ap (λ o. is_some (info_found o).seen_in) is))

  pub based_after : ((t : ℕ) → is_some (info table t).seen_in ≡ true → base table t ≡ t) → (is_some i.seen_in ≡ true → i.base ≡ d)
      → (t : ℕ) → is_some (info with_row t).seen_in ≡ true → base with_row t ≡ t
  based_after all based t seen = elim (cases_eq t d) [
    | inl same ↦
        subst (λ t. base with_row t ≡ t) (sym same)
        (based_here based (slice_same table d i) (subst (λ t. is_some (info with_row t).seen_in ≡ true) same seen))
    | inr other ↦
        let e = slice_other table d t i other in
        ap base_found e ∙ all t (ap (λ o. is_some (info_found o).seen_in) (sym e) ∙ seen)
  ]

-- ---- an entry

abbrev pub entered : Known → ℕ → Entry → Known
entered known d e = record known { entries = set known.entries d e }

abbrev pub told : Known → ℕ → Info → Known
told known d i = record known { table = set known.table d i }

pub not_type : (count d : ℕ) (p : Past) → IsNew count d p → IsType p d → ⊥
not_type count d p new (inl less) = let a = new.0 in omega (arith, a, less)
not_type count d p new (inr (inl is)) = new.2 is
not_type count d p new (inr (inr is)) = new.3 is

module _ (known : Known) (d : ℕ) (e : Entry) where
  entry_here : (d < length known.entries) ⊎ (length known.entries ≤ d)
      → (entry_of (entered known d e) d ≡ e) ⊎ (entry_of (entered known d e) d ≡ entry_of known d)
  entry_here (inl within) = inl (get_or-set_same known.entries d e entry.Nothing within)
  entry_here (inr past) = inr (ap (λ es. get_or es d entry.Nothing) (set_past known.entries d e past))

  -- the entry of a declaration is the new one or the old one
  pub entry_after : (v : ℕ) → ((v ≡ d) × ((entry_of (entered known d e) v ≡ e) ⊎ (entry_of (entered known d e) v ≡ entry_of known v)))
      ⊎ (entry_of (entered known d e) v ≡ entry_of known v)
  entry_after v = elim (cases_eq v d) [
    | inl same ↦
        inl (
          same,
          subst (λ v. (entry_of (entered known d e) v ≡ e) ⊎ (entry_of (entered known d e) v ≡ entry_of known v)) (sym same)
              (entry_here (cases_lt d (length known.entries))),
        )
    | inr other ↦ inr (get_or-set_other known.entries d v e entry.Nothing other)
  ]

-- ---- what is known after one more row

pub type_later : (p q : Past) → ((t : ℕ) → Has p.awaited t → Has q.awaited t) → ((t : ℕ) → Has p.defined t → Has q.defined t)
    → (v : ℕ) → IsType p v → IsType q v
type_later p q awaits defines v (inl less) = inl less
type_later p q awaits defines v (inr (inl is)) = inr (inl (awaits v is))
type_later p q awaits defines v (inr (inr is)) = inr (inr (defines v is))

-- What is asked of a row, whether it is defined or not. `p` stands before it, and `q` after it.
pub record Fits (count : ℕ) (start : Table) (p q : Past) (d : ℕ) (i : Info) : Type 0 where
  pub own : 15 ≤ d
  pub inside : d < count
  pub awaits : (t : ℕ) → Has p.awaited t → Has q.awaited t
  pub awaited : (t : ℕ) → Has q.awaited t → Has p.awaited t ⊎ (t ≡ d)
  pub defines : (t : ℕ) → Has p.defined t → Has q.defined t
  pub rest : (Has q.defined d → ⊥) → (v : ℕ) → IsMadeOf i v → IsPart start v d
  pub plain : (Has q.defined d → ⊥) → (of : ℕ) → i.shape ≡ shape.Same of → written start d ≡ shape.Same of
  pub unlike : Has q.awaited d → (of : ℕ) → i.shape ≡ shape.Same of → ⊥
  pub based : is_some i.seen_in ≡ true → i.base ≡ d
  pub private : (t : ℕ) → Has q.private t
      → (Has p.private t × (t ≡ d → ⊥)) ⊎ ((t ≡ d) × Has q.awaited d × (is_some i.seen_in ≡ true))
  pub incomplete : (t : ℕ) → Has q.incomplete t
      → (Has p.incomplete t × (t ≡ d → ⊥)) ⊎ ((t ≡ d) × Has q.awaited d × (is_some i.completed ≡ true))
  pub unfixed : IsFixed p d → ⊥

module _ (count : ℕ) (start : Table) (p q : Past) (known : Known) (d : ℕ) (i : Info) (fits : Fits count start p q d i)
    (rows : AreRows count start p known) where
  pub row_new : slice_get (set known.table d i) d ≡ Some i
  row_new = let a = fits.inside in let b = rows.long in slice_in known.table d i (omega (arith, a, b))

  pub row_stays : (t : ℕ) → IsFixed p t → slice_get (set known.table d i) t ≡ slice_get known.table t
  row_stays t is = slice_other known.table d t i (λ same. fits.unfixed (subst (IsFixed p) same is))

  -- a test of rows that is met by the new one, and by others before
  kept : (f : Info → Bool) (t : ℕ) (waiting : List ℕ)
      → (Has waiting t → Has p.awaited t × (f (info known.table t) ≡ true))
      → (Has waiting t × (t ≡ d → ⊥)) ⊎ ((t ≡ d) × Has q.awaited d × (f i ≡ true)) → Has q.awaited t × (f (info (set known.table d i) t) ≡ true)
  kept f t waiting was (inl at) =
      let w = was at.0 in
      (fits.awaits t w.0, ap (λ o. f (info_found o)) (slice_other known.table d t i at.1) ∙ w.1)
  kept f t waiting was (inr at) =
      subst (λ t. Has q.awaited t × (f (info (set known.table d i) t) ≡ true)) (sym at.0)
      (at.1, ap (λ o. f (info_found o)) row_new ∙ at.2)

  row_first : (t : ℕ) → t < 5 → slice_get (set known.table d i) t ≡ slice_get known.table t
  row_first t less = let a = fits.own in slice_other known.table d t i (λ same. omega (arith, same, less, a))

  row_rest : (t v : ℕ) → (Has q.defined t → ⊥) → ((t ≡ d) × IsMadeOf i v) ⊎ ((t ≡ d → ⊥) × IsPart known.table v t) → IsPart start v t
  row_rest t v none (inl at) =
      subst (λ t. IsPart start v t) (sym at.0) (fits.rest (λ is. none (subst (λ t. Has q.defined t) (sym at.0) is)) v at.1)
  row_rest t v none (inr at) = rows.rest t v (λ is. none (fits.defines t is)) at.1

  row_plain : (t of : ℕ) → (Has q.defined t → ⊥)
      → ((t ≡ d) × (i.shape ≡ shape.Same of)) ⊎ ((t ≡ d → ⊥) × (written known.table t ≡ shape.Same of)) → written start t ≡ shape.Same of
  row_plain t of none (inl at) =
      subst (λ t. written start t ≡ shape.Same of) (sym at.0)
      (fits.plain (λ is. none (subst (λ t. Has q.defined t) (sym at.0) is)) of at.1)
  row_plain t of none (inr at) = rows.plain t of (λ is. none (fits.defines t is)) at.1

  row_awaited : (t of : ℕ) → Has q.awaited t
      → ((t ≡ d) × (i.shape ≡ shape.Same of)) ⊎ ((t ≡ d → ⊥) × (written known.table t ≡ shape.Same of)) → ⊥
  row_awaited t of is (inl at) = fits.unlike (subst (λ t. Has q.awaited t) at.0 is) of at.1
  row_awaited t of is (inr at) = elim (fits.awaited t is) [ inl was ↦ rows.awaited t of was at.1 | inr same ↦ absurd (at.0 same) ]

  pub row_rows : AreRows count start q (told known d i)
  row_rows = record {
    long = let a = rows.long in let b = length-set known.table d i in omega (arith, a, b);
    predefined = λ t less. row_first t less ∙ rows.predefined t less;
    types = λ v is. type_later p q fits.awaits fits.defines v (rows.types v is);
    based = based_after known.table d i rows.based fits.based;
    rest = λ t v none part. row_rest t v none (part_after known.table d i t v part);
    plain = λ t of none e. row_plain t of none (same_after known.table d i t of e);
    awaited = λ t of is e. row_awaited t of is (same_after known.table d i t of e);
    private = λ t is. kept (λ i. is_some i.seen_in) t p.private (rows.private t) (fits.private t is);
    incomplete = λ t is. kept (λ i. is_some i.completed) t p.incomplete (rows.incomplete t) (fits.incomplete t is);
  }

abbrev stamp_if : Bool → ℕ → ℕ → ℕ
stamp_if true now old = now
stamp_if false now old = old

differ : (t d : ℕ) → (t ≡ d → ⊥) → nat_eq t d ≡ false
differ t d ne = grind arith

equal : (t d : ℕ) → t ≡ d → nat_eq t d ≡ true
equal t d e = grind (arith, e)

pub closed_more : (final : Known) (ps qs : List Pos) → ((x : Pos) → Has ps x → Has qs x) → (v : ℕ) → IsClosed final ps v → IsClosed final qs v
closed_more final ps qs more v (inl less) = inl less
closed_more final ps qs more v (inr at) = inr (at.0, more at.0 at.1, at.2)

-- What is asked of a row that is defined.
pub record Defines (final : Known) (p q : Past) (known : Known) (d : ℕ) (i : Info) : Type 0 where
  pub only : (t : ℕ) → Has q.defined t → Has p.defined t ⊎ (t ≡ d)
  pub marks : (x : Pos) → Has p.marks x → Has q.marks x
  pub parts : Has q.defined d → (v : ℕ) → IsMadeOf i v → IsType p v
  pub closed : Has q.defined d → (v : ℕ) → IsMadeOf i v → IsClosed final q.marks v
  pub chain : Has q.defined d → (of on : ℕ) → i.shape ≡ shape.Same of → written known.table of ≡ shape.Same on → ⊥
  -- a private type that doesn't have itself in it, or no type before, or one that ends after all marks
  pub next : (IsOpen final.table d × ((on : ℕ) → i.shape ≡ shape.Same on → ⊥)) ⊎ ((IsType p d → ⊥) ⊎ (IsClosed final q.marks d → ⊥))

module _ (final : Known) (count : ℕ) (start : Table) (p q : Past) (known : Known) (d : ℕ) (i : Info) (fits : Fits count start p q d i)
    (defines : Defines final p q known d i) (are : AreStamped final p known) where
  abbrev after : Table
  after = set known.table d i

  abbrev stamp : ℕ → ℕ
  stamp t = stamp_if (nat_eq t d) are.now (are.stamp t)

  stamp_here : (t : ℕ) → t ≡ d → stamp t ≡ are.now
  stamp_here t e = ap (λ b. stamp_if b are.now (are.stamp t)) (equal t d e)

  stamp_there : (t : ℕ) → (t ≡ d → ⊥) → stamp t ≡ are.stamp t
  stamp_there t ne = ap (λ b. stamp_if b are.now (are.stamp t)) (differ t d ne)

  stamp_old : (t : ℕ) → stamp t < suc are.now
  stamp_old t = elim (cases_eq t d) [
    | inl same ↦ let a = stamp_here t same in omega (arith, a)
    | inr other ↦ let a = stamp_there t other in let b = are.old t in omega (arith, a, b)
  ]

  before : (t : ℕ) → (t ≡ d → ⊥) → Has q.defined t → Has p.defined t
  before t other is = elim (defines.only t is) [ inl was ↦ was | inr same ↦ absurd (other same) ]

  here : (t : ℕ) → t ≡ d → Has q.defined t → Has q.defined d
  here t same is = subst (λ t. Has q.defined t) same is

  parts_now : (t v : ℕ) → Has q.defined t → IsPart after v t → IsType p v
  parts_now t v is part = elim (part_after known.table d i t v part) [
    | inl at ↦ defines.parts (here t at.0 is) v at.1
    | inr at ↦ are.parts t v (before t at.0 is) at.1
  ]

  closed_now : (t v : ℕ) → Has q.defined t → IsPart after v t → IsClosed final q.marks v
  closed_now t v is part = elim (part_after known.table d i t v part) [
    | inl at ↦ defines.closed (here t at.0 is) v at.1
    | inr at ↦ closed_more final p.marks q.marks defines.marks v (are.closed t v (before t at.0 is) at.1)
  ]

  -- Only a private type that doesn't have itself in it is a part of what is defined already.
  unused : (IsOpen final.table d × ((on : ℕ) → i.shape ≡ shape.Same on → ⊥)) ⊎ ((IsType p d → ⊥) ⊎ (IsClosed final q.marks d → ⊥))
      → (t : ℕ) → Has q.defined t → IsPart after d t → IsOpen final.table d × ((on : ℕ) → i.shape ≡ shape.Same on → ⊥)
  unused (inl opened) t is part = opened
  unused (inr (inl new)) t is part = absurd (new (parts_now t d is part))
  unused (inr (inr late)) t is part = absurd (late (closed_now t d is part))

  early_there : (t v : ℕ) → Has q.defined t → (v ≡ d → ⊥) → ((t ≡ d) × IsMadeOf i v) ⊎ ((t ≡ d → ⊥) × IsPart known.table v t)
      → (stamp v < stamp t) ⊎ IsOpen final.table v
  early_there t v is ne (inl at) =
      inl (let a = stamp_here t at.0 in let b = stamp_there v ne in let c = are.old v in omega (arith, a, b, c))
  early_there t v is ne (inr at) = elim (are.early t v (before t at.0 is) at.1) [
    | inl lt ↦ inl (let a = stamp_there t at.0 in let b = stamp_there v ne in omega (arith, a, b, lt))
    | inr opened ↦ inr opened
  ]

  early_now : (t v : ℕ) → Has q.defined t → IsPart after v t → (stamp v < stamp t) ⊎ IsOpen final.table v
  early_now t v is part = elim (cases_eq v d) [
    | inl same ↦ inr (subst (IsOpen final.table) (sym same) (unused defines.next t is (subst (λ v. IsPart after v t) same part)).0)
    | inr other ↦ early_there t v is other (part_after known.table d i t v part)
  ]

  short_there : (t of on : ℕ) → Has q.defined t → written known.table of ≡ shape.Same on
      → ((t ≡ d) × (i.shape ≡ shape.Same of)) ⊎ ((t ≡ d → ⊥) × (written known.table t ≡ shape.Same of)) → ⊥
  short_there t of on is goes (inl at) = defines.chain (here t at.0 is) of on at.1 goes
  short_there t of on is goes (inr at) = are.short t of on (before t at.0 is) at.1 goes

  short_now : (t of on : ℕ) → Has q.defined t → written after t ≡ shape.Same of → written after of ≡ shape.Same on → ⊥
  short_now t of on is e goes = elim (same_after known.table d i of on goes) [
    | inl at ↦ (unused defines.next t is (subst (λ v. IsPart after v t) at.0 (same_part after t of e))).1 on at.1
    | inr at ↦ short_there t of on is at.1 (same_after known.table d i t of e)
  ]

  pub row_stamped : AreStamped final q (told known d i)
  row_stamped = record {
    stamp = stamp;
    now = suc are.now;
    old = stamp_old;
    parts = λ t v is part. type_later p q fits.awaits fits.defines v (parts_now t v is part);
    early = early_now;
    closed = closed_now;
    short = short_now;
  }
