-- Numbers and contexts that are looked up by hash.
use Rattle.std.proofs.Common.{◌≡◌, refl, ap, sym, ◌∙◌, subst, ℕ, Bool, true, false, if◌then◌else◌, nat_eq, List, [], ◌∷◌, ◌++◌, None, Some}
use Rattle.std.specs.Prelude.{◌||◌}
use Rattle.std.specs.Map.{lookup}
use Rattle.std.specs.declared.rc.Rc.{Rc}
use Rattle.std.proofs.lemmas.Bool.{eqb-true}
use Rattle.indexmap.specs.IndexMap.{insert_entry}
use Rattle.name_events.specs.declared.declaration.Declaration.{Declaration}
use Rattle.name_events.specs.Declarations.{has_number, added_number, last_of}
use Rattle.name_events.specs.Known.{Context}
use Rattle.name_events.specs.KnownBehind.{context_found}
use Rattle.name_resolve.specs.declared.contexts.Given.{Given}
use Rattle.name_resolve.specs.Stands.{context_numbered, GivenStands}
use Rattle.name_resolve.proofs.Answering.{last_of_from}
use Rattle.name_resolve.proofs.Lists.{any_push}
use Rattle.name_resolve.proofs.Tables.{lookup_inserted_by}

-- A number that is added once is among those to which it is added.
pub has_added : (keys numbers : List ℕ) (n m : ℕ) → ((k : ℕ) → has_number k keys ≡ has_number k numbers)
    → has_number m (added_number keys n) ≡ has_number m (numbers ++ n ∷ [])
has_added keys numbers n m same =
    by (has_number n keys) refl (nat_eq m n) refl (λ h. eqb-true m n h) ∙ ap (λ b. b || nat_eq m n) (same m) ∙ sym (any_push (nat_eq m) numbers n)
  where
    by : (a : Bool) → a ≡ has_number n keys → (b : Bool) → b ≡ nat_eq m n → (b ≡ true → m ≡ n)
        → has_number m (if a then keys else keys ++ n ∷ []) ≡ (has_number m keys || nat_eq m n)
    by false is b is_b at = any_push (nat_eq m) keys n
    by true is true is_b at = (ap (λ k. has_number k keys) (at refl) ∙ sym is) ∙ sym (ap (λ k. has_number k keys || nat_eq m n) (at refl) ∙ ap (λ b. b || nat_eq m n) (sym is))
    by true is false is_b at = or_false (has_number m keys) ∙ ap (λ b. has_number m keys || b) is_b
      where
        or_false : (b : Bool) → b ≡ (b || false)
        or_false true = refl
        or_false false = refl

-- One more context.
pub given_pushed : {Z : Type 0} (all : List Declaration) (entries : List (ℕ × Rc Given Z)) (number : ℕ) (given : Rc Given Z) (contexts : List Context) (context : Context) (n : ℕ)
    → number ≡ context.of_package → GivenStands all (Some given) context
    → GivenStands all (lookup (nat_eq n) entries) (context_numbered contexts n)
    → GivenStands all (lookup (nat_eq n) (insert_entry nat_eq entries number given)) (context_numbered (contexts ++ context ∷ []) n)
given_pushed all entries number given contexts context n at is before =
    subst (λ k. GivenStands all k (context_numbered (contexts ++ context ∷ []) n))
    (sym (lookup_inserted_by nat_eq (λ a b h. eqb-true a b h) entries number n given
    ∙ ap (λ k. if nat_eq n k then Some given else lookup (nat_eq n) entries) at))
    (subst (λ o. GivenStands all (if nat_eq n context.of_package then Some given else lookup (nat_eq n) entries) (context_found o))
    (sym (last_of_from (λ c. nat_eq n c.of_package) contexts context None))
    (by (nat_eq n context.of_package)))
  where
    by : (b : Bool) → GivenStands all (if b then Some given else lookup (nat_eq n) entries)
        (context_found (if b then Some context else last_of (λ c. nat_eq n c.of_package) contexts))
    by true = is
    by false = before
