-- The first declaration that passes a test, in lists that grow.
use Rattle.std.proofs.Common.{◌≡◌, refl, ap, sym, ◌∙◌, ℕ, Bool, true, false, ◌&&◌, if◌then◌else◌, List, [], ◌∷◌, ◌++◌, Option, None, Some}
use Rattle.std.specs.Option.{option_map}
use Rattle.name_events.specs.declared.declaration.Declaration.{Declaration}
use Rattle.name_events.specs.Declarations.{Name, Entry, Search, first_where, is_named, or_else}
use Rattle.name_resolve.specs.Tables.{noted_first, first_in, FirstAnswers}

first_where-push : {A : Type 0} (test : A → Bool) (xs : List A) (x : A)
    → first_where test (xs ++ x ∷ []) ≡ or_else (first_where test xs) (if test x then Some x else None)
first_where-push test [] x = refl
first_where-push test (y ∷ xs) x = by (test y) (first_where-push test xs x)
  where
    by : (b : Bool) → first_where test (xs ++ x ∷ []) ≡ or_else (first_where test xs) (if test x then Some x else None)
        → (if b then Some y else first_where test (xs ++ x ∷ []))
        ≡ or_else (if b then Some y else first_where test xs) (if test x then Some x else None)
    by true h = refl
    by false h = h

first_in-push : (test : Declaration → Bool) (entries : List Entry) (w : Name) (d : Declaration) (r : ℕ) (n : Name)
    → first_in test (entries ++ (w, d) ∷ []) r n
    ≡ or_else (first_in test entries r n) (if is_named r n (w, d) && test d then Some d else None)
first_in-push test entries w d r n =
    ap (option_map (λ entry. entry.1)) (first_where-push (λ entry. is_named r n entry && test entry.1) entries (w, d))
    ∙ by (first_where (λ entry. is_named r n entry && test entry.1) entries) (is_named r n (w, d) && test d)
  where
    by : (o : Option Entry) (b : Bool)
        → option_map (λ entry. entry.1) (or_else o (if b then Some (w, d) else None))
        ≡ or_else (option_map (λ entry. entry.1) o) (if b then Some d else None)
    by (Some x) b = refl
    by None true = refl
    by None false = refl

and_true : (a b : Bool) → b ≡ true → (a && b) ≡ a
and_true true b h = h
and_true false b h = refl

and_false : (a b : Bool) → b ≡ false → (a && b) ≡ false
and_false true b h = h
and_false false b h = refl

or_else-none : {A : Type 0} (o : Option A) → or_else o None ≡ o
or_else-none None = refl
or_else-none (Some x) = refl

-- A declaration that passes the test is noted, where there is none.
pub first_answers_noted : (test : Declaration → Bool) (old new : Search) (entries : List Entry) (w : Name) (d : Declaration)
    → test d ≡ true → ((r : ℕ) (n : Name) → new r n ≡ noted_first old w d r n)
    → FirstAnswers test old entries → FirstAnswers test new (entries ++ (w, d) ∷ [])
first_answers_noted test old new entries w d passes is answers r n =
    is r n
    ∙ (λ j. or_else (answers r n j) (if sym (and_true (is_named r n (w, d)) (test d) passes) j then Some d else None))
    ∙ sym (first_in-push test entries w d r n)

-- One that doesn't pass it changes no answer.
pub first_answers_left : (test : Declaration → Bool) (old : Search) (entries : List Entry) (w : Name) (d : Declaration)
    → test d ≡ false → FirstAnswers test old entries → FirstAnswers test old (entries ++ (w, d) ∷ [])
first_answers_left test old entries w d fails answers r n =
    answers r n ∙ sym (or_else-none (first_in test entries r n))
    ∙ (λ j. or_else (first_in test entries r n) (if sym (and_false (is_named r n (w, d)) (test d) fails) j then Some d else None))
    ∙ sym (first_in-push test entries w d r n)
