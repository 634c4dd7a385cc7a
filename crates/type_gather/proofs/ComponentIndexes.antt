-- Tables with another type at an index.
use Rattle.std.proofs.Common.{◌≡◌, ◌≢◌, ◌<◌, ℕ, zero, suc, List, [], ◌∷◌, length, set, get_or, slice_get, Some, refl, sym, ap, subst, ◌∙◌, get_or-set_same}
use Rattle.std.proofs.lemmas.List.{length-set}
use Rattle.std.proofs.lemmas.Option.{slice_get-get_or}
use Rattle.type_definitions.specs.declared.table.Info.{Info}
use Rattle.type_definitions.specs.declared.table.Shape.{Shape}
use Rattle.type_definitions.specs.Types.{Table, components_of, info, shape_found}
use Rattle.expression_types.specs.ComponentNames.{SameBut, own_components}

others_kept : {A : Type 0} (all : List A) (t n : ℕ) (a : A) → n ≢ t → slice_get (set all t a) n ≡ slice_get all n
others_kept [] t n a ne = refl
others_kept (b ∷ all) zero zero a ne = absurd (ne refl)
others_kept (b ∷ all) zero (suc n) a ne = refl
others_kept (b ∷ all) (suc t) zero a ne = refl
others_kept (b ∷ all) (suc t) (suc n) a ne = others_kept all t n a (λ e. ne (ap suc e))

pub set_same_but : (table : Table) (t : ℕ) (info : Info) → SameBut t table (set table t info)
set_same_but table t info n ne = ap (λ o. components_of (shape_found o)) (sym (others_kept table t n info ne))

pub set_components : (table : Table) (t : ℕ) (info : Info) → t < length table → components_of info.shape ≡ own_components (set table t info) t
set_components table t info lt =
    let there : slice_get (set table t info) t ≡ Some info =
    slice_get-get_or (set table t info) t info (subst (λ n. t < n) (sym (length-set table t info)) lt)
    ∙ ap Some (get_or-set_same table t info info lt) in
    ap (λ o. components_of (shape_found o)) (sym there)

-- Where a type keeps its shape, all components stay.
pub kept_components : (table : Table) (t : ℕ) (i : Info) → i.shape ≡ (info table t).shape
    → (n : ℕ) → own_components (set table t i) n ≡ own_components table n
kept_components [] t i same n = refl
kept_components (j ∷ rest) zero i same zero = ap components_of same
kept_components (j ∷ rest) zero i same (suc n) = refl
kept_components (j ∷ rest) (suc t) i same zero = refl
kept_components (j ∷ rest) (suc t) i same (suc n) = kept_components rest t i same n

-- What stands at an index is what is known of that type.
pub set_awaited : (table : Table) (t : ℕ) (old : Info) (awaited : Shape → Info) → old ≡ get_or table t old
    → set table t (awaited old.shape) ≡ set table t (awaited (info table t).shape)
set_awaited [] t old awaited same = refl
set_awaited (i ∷ rest) zero old awaited same = ap (λ (j : Info). awaited j.shape ∷ rest) same
set_awaited (i ∷ rest) (suc t) old awaited same = ap (λ others. i ∷ others) (set_awaited rest t old awaited same)
