-- The holders that an object is a source of.
use Rattle.std.proofs.Common.{◌≡◌, refl, sym, ap, ◌∙◌, subst, inl, inr, ℕ, Bool, true, false, ◌==◌, nat_eq, eqb-true, eq-eqb, List, [], ◌∷◌, ◌++◌, append-nil, map, Some, if◌then◌else◌}
use Rattle.std.specs.Prelude.{cond}
use Rattle.std.specs.Map.{lookup}
use Rattle.spark_base.specs.Lists.{Has}
use Rattle.traversal_funcs.specs.declared.lending.Lending.{Lending}
use Rattle.traversal_funcs.specs.Lendings.{holders_of, held, holders_in, AreHolders}
use Rattle.traversal_funcs.specs.Searches.{all_holders}

-- one source more
holders_end : (x : ℕ) (ls : List Lending) (l : Lending)
    → holders_of x (ls ++ l ∷ []) ≡ holders_of x ls ++ (if l.source == x then l.holder ∷ [] else [])
holders_end x [] l = refl
holders_end x (y ∷ ls) l = by (y.source == x) (holders_end x ls l)
  where
    by : (b : Bool) → holders_of x (ls ++ l ∷ []) ≡ holders_of x ls ++ (if l.source == x then l.holder ∷ [] else [])
        → (if b then y.holder ∷ holders_of x (ls ++ l ∷ []) else holders_of x (ls ++ l ∷ []))
        ≡ (if b then y.holder ∷ holders_of x ls else holders_of x ls) ++ (if l.source == x then l.holder ∷ [] else [])
    by true e = ap (λ hs. y.holder ∷ hs) e
    by false e = e

-- its list was taken out, and put back longer
pub held_more : (before without after : List (ℕ × List ℕ)) (l : Lending) (hs : List ℕ) (ls : List Lending)
    → hs ≡ held (lookup (nat_eq l.source) before) ++ l.holder ∷ []
    → ((x : ℕ) → nat_eq l.source x ≡ false → lookup (nat_eq x) without ≡ lookup (nat_eq x) before)
    → ((x : ℕ) → lookup (nat_eq x) after ≡ cond (nat_eq l.source x) (Some hs) (lookup (nat_eq x) without))
    → AreHolders before ls → AreHolders after (ls ++ l ∷ [])
held_more before without after l hs ls longer others now was x = by (nat_eq l.source x) refl
  where
    by : (b : Bool) → nat_eq l.source x ≡ b → holders_in after x ≡ holders_of x (ls ++ l ∷ [])
    by true e =
        let here : l.source ≡ x = eqb-true l.source x e in
        ap held (now x ∙ ap (λ b. cond b (Some hs) (lookup (nat_eq x) without)) e)
        ∙ longer ∙ ap (λ s. held (lookup (nat_eq s) before) ++ l.holder ∷ []) here
        ∙ ap (λ ys. ys ++ l.holder ∷ []) (was x)
        ∙ sym (holders_end x ls l ∙ ap (λ b. holders_of x ls ++ (if b then l.holder ∷ [] else [])) e)
    by false e =
        ap held (now x ∙ ap (λ b. cond b (Some hs) (lookup (nat_eq x) without)) e ∙ others x e)
        ∙ was x ∙ sym (append-nil (holders_of x ls))
        ∙ sym (holders_end x ls l ∙ ap (λ b. holders_of x ls ++ (if b then l.holder ∷ [] else [])) e)

-- a holder of an object, as a source
pub record IsLent (ls : List Lending) (a b : ℕ) : Type 0 where
  pub listed : Has ls (record { source = a; holder = b })
  pub source : Has (map (λ (l : Lending). l.source) ls) a
  pub holder : Has (all_holders ls) b

lent_first : (l : Lending) (ls : List Lending) → IsLent (l ∷ ls) l.source l.holder
lent_first l ls = record { listed = inl refl; source = inl refl; holder = inl refl }

lent_later : (l : Lending) (ls : List Lending) (a b : ℕ) → IsLent ls a b → IsLent (l ∷ ls) a b
lent_later l ls a b i = record { listed = inr i.listed; source = inr i.source; holder = inr i.holder }

pub holder_lent : (ls : List Lending) (a b : ℕ) → Has (holders_of a ls) b → IsLent ls a b
holder_lent [] a b h = absurd h
holder_lent (l ∷ ls) a b h = by (l.source == a) refl (holder_lent ls a b) h
  where
    by : (t : Bool) → (l.source == a) ≡ t → (Has (holders_of a ls) b → IsLent ls a b) → Has (if t then l.holder ∷ holders_of a ls else holders_of a ls) b → IsLent (l ∷ ls) a b
    by true e rest h = elim h [
      | inl is ↦ subst (λ y. IsLent (l ∷ ls) y b) (eqb-true l.source a e) (subst (IsLent (l ∷ ls) l.source) is (lent_first l ls))
      | inr h ↦ lent_later l ls a b (rest h)
    ]
    by false e rest h = lent_later l ls a b (rest h)

pub lent_holder : (ls : List Lending) (a b : ℕ) → Has ls (record { source = a; holder = b }) → Has (holders_of a ls) b
lent_holder [] a b h = absurd h
lent_holder (l ∷ ls) a b h = elim h [
  | inl is ↦
      subst (λ t. Has (if t then l.holder ∷ holders_of a ls else holders_of a ls) b)
      (sym (eq-eqb l.source a (ap (λ (y : Lending). y.source) is))) (inl (ap (λ (y : Lending). y.holder) is))
  | inr h ↦ by (l.source == a) (lent_holder ls a b h)
]
  where
    by : (t : Bool) → Has (holders_of a ls) b → Has (if t then l.holder ∷ holders_of a ls else holders_of a ls) b
    by true h = inr h
    by false h = h
