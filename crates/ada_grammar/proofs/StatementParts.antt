-- What the laws of statements share: alternatives told apart by what they are made of, and the
-- levels that are left.
use Rattle.std.proofs.Common.{◌≡◌, refl, ℕ, suc, ◌<◌, ◌≤◌, Bool, true, false, List, [], ◌∷◌, ◌++◌, ◌⊎◌, inl, inr, arith}
use Rattle.std.specs.Prelude.{if◌then◌else◌}
use Rattle.std.proofs.lemmas.Bool.{leb-false}
use lib.Dec.{leb}
use Rattle.spark_base.specs.declared.position.Pos.{Pos}
use Rattle.spark_base.specs.declared.limits.TheConstants.{NESTING}
use Rattle.ada_lexer.specs.declared.token.Reserved.{Reserved}
use Rattle.token_reading.specs.Spelled.{Spelled}
use Rattle.token_reading.specs.Weights.{WeighedToken, bare}
use Rattle.token_reading.specs.Reading.{Got, Reader, opens_word, to, either, Each, StartsAt}
use Rattle.token_reading.proofs.Law.{Law}
use Rattle.token_reading.proofs.Tokens.{law_opens_word}
use Rattle.token_reading.proofs.Sets.{apart, within, Leads}
use Rattle.token_reading.proofs.Made.{law_to}
use Rattle.token_reading.proofs.Choice.{law_either}

-- The tree is made of parts for which this holds.
abbrev pub MadeOf : {A B : Type 0} → (A → B) → (A → Type 0) → B → Type 0
MadeOf {A} f g b = (a : A) × (g a × (f a ≡ b))

module _ {A B : Type 0} {p : Reader A} {g : A → Type 0} {s : A → List WeighedToken} {first last : List ℕ} {may : Bool}
    (f : A → B) (t : B → List WeighedToken) (P : Law p g s first last may) (spells : (a : A) → t (f a) ≡ s a) where
  pub law_made_of : Law (to f p) (MadeOf f g) t first last may
  law_made_of = law_to f (MadeOf f g) t P (λ a good. (a, (good, refl))) (λ a good. spells a) (λ b made. made)

-- One of the two holds.
abbrev pub OneOf : {A : Type 0} → (A → Type 0) → (A → Type 0) → A → Type 0
OneOf g h a = g a ⊎ h a

module _ {A : Type 0} {p q : Reader A} {g h : A → Type 0} {s : A → List WeighedToken} {fp lp fq lq : List ℕ} {n : Bool}
    (ms : List ℕ) (P : Law p g s fp lp false) (Q : Law q h s fq lq n) (taken_in : within fp ms ≡ true) (side : apart ms fq ≡ true) where
  pub law_one_of : Law (either ms p q) (OneOf g h) s (fp ++ fq) (if n then ms ++ (lp ++ lq) else (lp ++ lq)) n
  law_one_of = law_either ms (OneOf g h) P Q (λ a good. inl good) (λ a good. inr good) (λ a good. good) taken_in side

-- Where a construct opens, its parts are within the limit.
pub opened_within : (d : ℕ) → leb NESTING d ≡ false → suc d ≤ NESTING
opened_within d e = let below : d < NESTING = leb-false NESTING d e in omega arith

pub each_both : {A : Type 0} (P Q : A → Type 0) (xs : List A) → Each (λ x. P x × Q x) xs → Each P xs × Each Q xs
each_both P Q [] each = (tt, tt)
each_both P Q (x ∷ xs) each = let rest = each_both P Q xs each.1 in ((each.0.0, rest.0), (each.0.1, rest.1))

pub both_each : {A : Type 0} (P Q : A → Type 0) (xs : List A) → Each P xs × Each Q xs → Each (λ x. P x × Q x) xs
both_each P Q [] each = tt
both_each P Q (x ∷ xs) each = ((each.0.0, each.1.0), both_each P Q xs (each.0.1, each.1.1))

-- A part in front begins where the whole begins, if it has a first token.
pub position_of_front : (first : List ℕ) (ms ns : List WeighedToken) (pos : Pos) → Leads false first (bare ms) → StartsAt pos (bare (ms ++ ns))
    → StartsAt pos (bare ms)
position_of_front first [] ns pos leads at = absurd (cc)
position_of_front first (m ∷ ms) ns pos leads at = at

pub position_of_whole : (ms ns : List WeighedToken) (pos : Pos) → StartsAt pos (bare ms) → StartsAt pos (bare (ms ++ ns))
position_of_whole [] ns pos at = absurd at
position_of_whole (m ∷ ms) ns pos at = at

-- A construct that has opened is within the limit.
pub opened : (v : Reserved) (d k : ℕ) (ts : List Spelled) (pos : Pos) (j : ℕ) (rest : List Spelled) → opens_word v d k ts ≡ Got pos j rest → d < NESTING
opened v d k ts pos j rest e = leb-false NESTING d (((law_opens_word v d).sound k ts pos j rest e).within_limits.0.allowed)
