-- Evaluations in memories that agree, and where names lead in them.
use Rattle.std.proofs.Common.{◌≡◌, refl, subst, ℕ, Bool, true, false, List, [], ◌∷◌, if◌then◌else◌}
use Rattle.machine.specs.flow_paths.Objects.{Typing}
use Rattle.machine.specs.Words as machine
use Rattle.machine.specs.Memory.{cell}
use Rattle.machine.specs.Evaluate.{Now, Evaluated, Done, Raises, Traps, followed_by, cell_place, designated_place, Touched}
use Rattle.recycled_runs.specs.ViewedFacts.NullPlaces.Agrees.{Agrees}
use Rattle.recycled_runs.proofs.ViewedFacts.NullPlaces.Memories.{cell_agree}
use Rattle.recycled_runs.proofs.ViewedFacts.NullPlaces.Only.{OnlyOwners}

-- ---- two evaluations

abbrev pub SameNow : Typing → Now → Now → Type 0
SameNow s n n' = Agrees n.memory n'.memory × (n.waits ≡ n'.waits) × OnlyOwners s n.memory

-- They give the same, and leave memories that agree.
abbrev pub SameTo : {A : Type 0} → Typing → Evaluated A → Evaluated A → Type 0
SameTo s (Done a n) (Done b n') = (a ≡ b) × SameNow s n n'
SameTo s (Raises e n) (Raises f n') = (e ≡ f) × SameNow s n n'
SameTo s (Traps e n) (Traps f n') = (e ≡ f) × SameNow s n n'
SameTo s _ _ = ⊥

-- one after the other, where something is known of the first one
pub then_same : {A B : Type 0} (s : Typing) (P : Evaluated A → Type 0) (x y : Evaluated A) (f g : A → Now → Evaluated B) → P x → SameTo s x y
    → ((a : A) (n n' : Now) → P (Done a n) → SameNow s n n' → SameTo s (f a n) (g a n')) → SameTo s (followed_by x f) (followed_by y g)
then_same s P (Done a n) (Done b n') f g p same next = subst (λ z. SameTo s (f a n) (g z n')) same.0 (next a n n' p same.1)
then_same s P (Raises e n) (Raises e' n') f g p same next = same
then_same s P (Traps e n) (Traps e' n') f g p same next = same
then_same s P (Done a n) (Raises e' n') f g p same next = absurd same
then_same s P (Done a n) (Traps e' n') f g p same next = absurd same
then_same s P (Raises e n) (Done b n') f g p same next = absurd same
then_same s P (Raises e n) (Traps e' n') f g p same next = absurd same
then_same s P (Traps e n) (Done b n') f g p same next = absurd same
then_same s P (Traps e n) (Raises e' n') f g p same next = absurd same

abbrev pub Nothing : {A : Type 0} → Evaluated A → Type 0
Nothing x = Unit {0}

-- nothing is known of the first one
pub simply : {A B : Type 0} (s : Typing) (x y : Evaluated A) (f g : A → Now → Evaluated B) → SameTo s x y
    → ((a : A) (n n' : Now) → SameNow s n n' → SameTo s (f a n) (g a n')) → SameTo s (followed_by x f) (followed_by y g)
simply s x y f g same next = then_same s Nothing x y f g tt same (λ a n n' p now. next a n n' now)

-- what an access value designates
pub designated_same : (s : Typing) (t : ℕ) (ws : List machine.Word) (n n' : Now) → SameNow s n n' → SameTo s (designated_place t ws n) (designated_place t ws n')
designated_same s t [] n n' same = (refl, same)
designated_same s t (machine.Int v ∷ ws) n n' same = (refl, same)
designated_same s t (machine.Enumerated v ∷ ws) n n' same = (refl, same)
designated_same s t (machine.Null ∷ ws) n n' same = (refl, same)
designated_same s t (machine.Cell k ∷ w ∷ ws) n n' same = (refl, same)
designated_same s t (machine.Cell k ∷ []) n n' same =
    subst (λ b. SameTo s (designated_place t (machine.Cell k ∷ []) n) (if b then Traps Touched n' else Done (cell_place t k) n'))
    (cell_agree n.memory n'.memory same.0 k).1 (by_test (cell n.memory k).freed)
  where
    by_test : (b : Bool) → SameTo s (if b then Traps Touched n else Done (cell_place t k) n) (if b then Traps Touched n' else Done (cell_place t k) n')
    by_test true = (refl, same)
    by_test false = (refl, same)
