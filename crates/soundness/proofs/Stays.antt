-- Evaluations that change nothing.
use Rattle.std.proofs.Common.{◌≡◌, refl, sym, ◌∙◌, subst, ℕ, Bool, true, false, List, length}
use Rattle.std.proofs.lemmas.Bool.{false≢true}
use Rattle.machine.specs.type_definitions.declared.table.Shape.{Shape}
use Rattle.machine.specs.type_definitions.declared.table.Shape.TheVariants as shape
use Rattle.machine.specs.type_definitions.Types.{is_scalar, view_of, owns_of}
use Rattle.machine.specs.Words as machine
use Rattle.machine.specs.Evaluate.{Now, Evaluated, Done, Raises, Traps, followed_by}

-- What an evaluation comes to that changes nothing.
abbrev pub Quiet : {A : Type 0} → Now → (A → Type 0) → Evaluated A → Type 0
Quiet now P (Done a n) = (n ≡ now) × P a
Quiet now P (Raises e n) = n.memory ≡ now.memory
Quiet now P (Traps t n) = ⊥

pub quiet_then : {A B : Type 0} (now : Now) (P : A → Type 0) (Q : B → Type 0) (x : Evaluated A) (f : A → Now → Evaluated B)
    → Quiet now P x → ((a : A) → P a → Quiet now Q (f a now)) → Quiet now Q (followed_by x f)
quiet_then now P Q (Done a n) f (same, p) next = subst (λ z. Quiet now Q (f a z)) (sym same) (next a p)
quiet_then now P Q (Raises e n) f is next = is
quiet_then now P Q (Traps t n) f none next = none

-- values are taken in between
pub quiet_from : {A B : Type 0} (mid now : Now) (P : A → Type 0) (Q : B → Type 0) → mid.memory ≡ now.memory → (x : Evaluated A) (f : A → Now → Evaluated B)
    → Quiet mid P x → ((a : A) → P a → Quiet now Q (f a mid)) → Quiet now Q (followed_by x f)
quiet_from mid now P Q memory (Done a n) f (same, p) next = subst (λ z. Quiet now Q (f a z)) (sym same) (next a p)
quiet_from mid now P Q memory (Raises e n) f is next = is ∙ memory
quiet_from mid now P Q memory (Traps t n) f none next = none

abbrev pub Any : {A : Type 0} → A → Type 0
Any a = Unit {0}

-- a value of one word
abbrev pub One : List machine.Word → Type 0
One ws = length ws ≡ 1

-- a scalar type owns nothing
pub scalar_owns : (s : Shape) (f : ℕ → Bool) → is_scalar (view_of s) ≡ true → owns_of f s ≡ false
scalar_owns (shape.Whole a b) f e = refl
scalar_owns (shape.Listed l a b) f e = refl
scalar_owns (shape.Access d c n) f e = absurd (false≢true e)
scalar_owns (shape.Fields cs) f e = absurd (false≢true e)
scalar_owns (shape.Elements a b el) f e = absurd (false≢true e)
scalar_owns (shape.Same of) f e = absurd (false≢true e)
