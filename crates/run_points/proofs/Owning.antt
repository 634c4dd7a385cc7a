-- Where nothing is owned, nothing is checked for leaks.
use Rattle.std.proofs.Common.{◌≡◌, inl, ℕ, zero, suc, ◌+◌, true, false, Bool, ◌||◌, List, [], ◌∷◌, ◌++◌, map, length, take, refl, sym, ap, subst, ◌∙◌, Some, None, slice_get, ℤ}
use Rattle.std.specs.Prelude.{flat_map}
use Rattle.spark_base.specs.Lists.{Has}
use Rattle.spark_base.specs.declared.position.Pos.{Pos}
use Rattle.place_names.specs.declared.selector.Sel.{Sel}
use Rattle.place_names.specs.declared.selector.Sel.TheVariants as sel
use Rattle.type_definitions.specs.declared.table.Component.{Component}
use Rattle.type_definitions.specs.declared.table.Shape.{Shape}
use Rattle.type_definitions.specs.declared.table.Shape.TheVariants as shape
use Rattle.type_definitions.specs.Types.{Table, shape_found, numbered, parts_of, parts_within, parts, any_owns, owns_of, owns_within, is_owning}
use Rattle.machine.specs.Words.{offsets, access_offsets}
use Rattle.machine.specs.Typed.{Sort, Pointer, sorts}
use Rattle.machine.specs.Evaluate.{Evaluated}
use Rattle.machine.specs.Memory.{Place}
use Rattle.machine.specs.Calls.{checks_at}
use Rattle.machine.specs.States.{Leak}
use Rattle.run_codes.specs.Flat.{Given, Spot, and_then}
use Rattle.run_codes.specs.Points.{leaks_in, leaks_at}
use Rattle.run_codes.specs.Related.{IsTable, Seen, table, IsPlace, IsThere, Lying}
use Rattle.run_codes.proofs.Places.{given_same, some_same}
use Rattle.run_codes.proofs.Held.{is_held}
use Rattle.run_fills.specs.Filled.{IsWhole}
use Rattle.run_fills.proofs.Leaks.{leaks_same}

never : {A : Type 0} → true ≡ false → A
never is = absurd (no_way is)
  where
    no_way : true ≡ false → ⊥
    no_way is = cc

-- ---- access parts

neither : (a b : Bool) → (a || b) ≡ false → (a ≡ false) × (b ≡ false)
neither false b is = (refl, is)
neither true b is = never is

no_parts_in : (i : ℕ) (owns : ℕ → Bool) (parts : ℕ → List (List Sel)) → ((t : ℕ) → owns t ≡ false → parts t ≡ []) → (cs : List Component) → any_owns owns cs ≡ false → numbered i parts cs ≡ []
no_parts_in i owns parts each [] is = refl
no_parts_in i owns parts each (c ∷ cs) is =
    let both = neither (owns c.of) (any_owns owns cs) is in
    ap (λ l. map (λ q. sel.Field i ∷ q) l ++ numbered (i + 1) parts cs) (each c.of both.0) ∙ no_parts_in (i + 1) owns parts each cs both.1

no_parts_of : (owns : ℕ → Bool) (parts : ℕ → List (List Sel)) → ((t : ℕ) → owns t ≡ false → parts t ≡ []) → (sh : Shape) → owns_of owns sh ≡ false → parts_of parts sh ≡ []
no_parts_of owns parts each (shape.Whole low high) is = refl
no_parts_of owns parts each (shape.Listed literals low high) is = refl
no_parts_of owns parts each (shape.Access designated constant true) is = never is
no_parts_of owns parts each (shape.Access designated constant false) is = refl
no_parts_of owns parts each (shape.Fields cs) is = no_parts_in 0 owns parts each cs is
no_parts_of owns parts each (shape.Elements low high element) is = ap (λ l. map (λ q. sel.Elem ∷ q) l) (each element is)
no_parts_of owns parts each (shape.Same of) is = each of is

no_parts_within : (n : ℕ) (table : Table) (t : ℕ) → owns_within n table t ≡ false → parts_within n table t ≡ []
unfolding owns_within parts_within
no_parts_within zero table t is = refl
no_parts_within (suc n) table t is = no_parts_of (owns_within n table) (parts_within n table) (no_parts_within n table) (shape_found (slice_get table t)) is

no_parts : (table : Table) (t : ℕ) → is_owning table t ≡ false → parts table t ≡ []
unfolding is_owning parts
no_parts table t is = no_parts_within (length table) table t is

-- A type that isn't owning has none.
pub unowned : (table : Table) (t : ℕ) → is_owning table t ≡ false → access_offsets table t ≡ []
unowned table t is = ap (λ l. flat_map (offsets table t) l) (no_parts table t is)

-- One word that isn't an access value has none.
pub not_access : (table : Table) (t : ℕ) (st : Sort) → IsTable table → sorts table t ≡ st ∷ [] → ((d : ℕ) → st ≡ Pointer d → ⊥) → access_offsets table t ≡ []
not_access table t st laws one other = by (access_offsets table t) refl
  where
    none : {A : Type 0} {a : A} → None ≡ Some a → ⊥
    none x = cc

    at : (o d : ℕ) → slice_get (st ∷ []) o ≡ Some (Pointer d) → ⊥
    at zero d is = other d (some_same st (Pointer d) is)
    at (suc o) d is = none is

    by : (l : List ℕ) → access_offsets table t ≡ l → l ≡ []
    by [] is = refl
    by (o ∷ l) is =
        let there = laws.accesses t o (subst (λ k. Has k o) (sym is) (inl refl)) in
        absurd (at o there.0 (sym (ap (λ k. slice_get k o) one) ∙ there.1))

-- ---- checks

-- The checks of a place of such a type find nothing.
pub no_checks : (e : Seen) (all : List Lying) → IsWhole e all → (k t : ℕ) (w : Spot) (us : List ℤ) (ev : Evaluated Place) (is : IsPlace e k t w us ev) → IsThere e t w us → (p : Pos)
    → access_offsets (table e) t ≡ [] → flat_map (λ (leaks : List Leak). leaks) (checks_at e.site.typing p e.memory is.p) ≡ []
no_checks e all whole k t w us ev is there p none =
    let held = is_held e whole.related.counted.few k t w us ev is there in
    let zs : List ℤ = take (length (sorts (table e) t)) us in
    let found : leaks_at (table e) e.flat w t p ≡ Given [] =
    ap (λ g. and_then g (λ zs. Given (leaks_in p zs (access_offsets (table e) t)))) held.words ∙ ap (λ l. Given (leaks_in p zs l)) none in
    sym (given_same [] (flat_map (λ (leaks : List Leak). leaks) (checks_at e.site.typing p e.memory is.p)) (sym found ∙ leaks_same e all whole k t w us ev is there p))
