-- What is found, and how: of options that follow on each other.
use Rattle.std.proofs.Common.{◌≡◌, refl, sym, subst, Bool, true, false, Option, Some, None, if◌then◌else◌}
use Rattle.std.specs.Prelude.{option_and_then}
use Rattle.std.proofs.lemmas.Bool.{false≢true, true≢false}
use Rattle.run_codes.specs.Lowered.{option_map}

-- There is one, and it is as told.
abbrev pub Found : {A : Type 0} → (A → Type 0) → Option A → Type 0
Found P None = ⊥
Found P (Some a) = P a

abbrev pub Any : {A : Type 0} → A → Type 0
Any a = Unit {0}

pub then_found : {A B : Type 0} (P : A → Type 0) (Q : B → Type 0) (f : A → Option B) (o : Option A) → Found P o → ((a : A) → P a → Found Q (f a))
    → Found Q (option_and_then f o)
then_found P Q f (Some a) p next = next a p
then_found P Q f None p next = absurd p

pub map_found : {A B : Type 0} (P : A → Type 0) (Q : B → Type 0) (f : A → B) (o : Option A) → Found P o → ((a : A) → P a → Q (f a)) → Found Q (option_map f o)
map_found P Q f (Some a) p next = next a p
map_found P Q f None p next = absurd p

pub if_found : {A : Type 0} (Q : A → Type 0) (b : Bool) (o : Option A) → b ≡ true → Found Q o → Found Q (if b then o else None)
if_found Q true o e h = h
if_found Q false o e h = absurd (false≢true e)

pub unless_found : {A : Type 0} (Q : A → Type 0) (b : Bool) (o : Option A) → b ≡ false → Found Q o → Found Q (if b then None else o)
unless_found Q false o e h = h
unless_found Q true o e h = absurd (true≢false e)

pub either_found : {A : Type 0} (Q : A → Type 0) (b : Bool) (o r : Option A) → Found Q o → Found Q r → Found Q (if b then o else r)
either_found Q true o r h g = h
either_found Q false o r h g = g

pub some_found : {A : Type 0} (Q : A → Type 0) (o : Option A) (a : A) → o ≡ Some a → Q a → Found Q o
some_found Q o a e h = subst (λ o. Found Q o) (sym e) h

pub weaker : {A : Type 0} (P : A → Type 0) (o : Option A) → Found P o → Found Any o
weaker P (Some a) h = tt
weaker P None h = absurd h

pub there : {A : Type 0} (P : A → Type 0) (o : Option A) → Found P o → (a : A) × (o ≡ Some a) × P a
there P (Some a) h = (a, refl, h)
there P None h = absurd h
