-- The search for the objects that have a root that is asked for.
use Rattle.std.specs.Prelude.{◌≡◌, ◌⊎◌, ℕ, ◌+◌, ◌≤◌, Bool, true, false, ◌||◌, nat_eq, List, [], ◌∷◌, ◌++◌, map, filter, length, if◌then◌else◌}
use Rattle.std.specs.List.{list_any}
use Rattle.spark_base.specs.Lists.{Has}
use Rattle.label_flow.specs.Flows.{Flow, Reaches}
use Rattle.flow_paths.specs.Objects.{Typing}
use Rattle.program_typing.specs.Typings.{typing}
use Rattle.traversal_funcs.specs.declared.lending.Lending.{Lending}
use Rattle.traversal_funcs.specs.declared.questions.Question.{Question}
use Rattle.traversal_funcs.specs.declared.roots.Rooted.{Rooted}
use Rattle.traversal_funcs.specs.Lendings.{holders_of}
use Rattle.traversal_funcs.specs.Questions.{is_answer}

-- ---- what is searched

-- One label, "some root is asked for", is carried from each source to its holders. It is at each
-- object from the start that is asked for itself.
abbrev pub flow_on : (ℕ → Bool) → List Lending → Flow (Unit {0})
flow_on first lendings = record { next = λ a. holders_of a lendings; move = λ a k. k; first = λ a k. first a }

abbrev pub is_found : ℕ → List ℕ → Bool
is_found x found = list_any (nat_eq x) found

-- What is known where these were found.
abbrev pub labels_in : (ℕ → Bool) → List ℕ → ℕ → Unit {0} → Type 0
labels_in first found a k = (first a ≡ true) ⊎ Has found a

abbrev pub has_root : Rooted → ℕ → Bool
has_root r x = is_answer (typing r.known) r.question x || is_found x r.found.keys

-- Exactly the objects that the label reaches have a root that is asked for.
abbrev pub IsRooted : Rooted → Typing → Question → List Lending → Type 0
IsRooted r s q lendings =
    (x : ℕ) → (has_root r x ≡ true → Reaches (flow_on (is_answer s q) lendings) x tt)
    × (Reaches (flow_on (is_answer s q) lendings) x tt → has_root r x ≡ true)

-- ---- what the functions do

-- An object is found, and is put into the work exactly where it is new.
abbrev pub Came : ℕ → List ℕ → List ℕ → List ℕ → List ℕ → Type 0
Came x found work found' work' =
    ((is_found x found ≡ true) × (found' ≡ found) × (work' ≡ work))
    ⊎ ((is_found x found ≡ false) × (found' ≡ found ++ x ∷ []) × (work' ≡ work ++ x ∷ []))

-- The sources that are asked for themselves.
abbrev pub starts_of : Typing → Question → List Lending → List ℕ
starts_of s q lendings = filter (is_answer s q) (map (λ (l : Lending). l.source) lendings)

-- How many sources there are whose holder isn't found yet.
abbrev pub missing : List ℕ → List Lending → ℕ
missing found [] = 0
missing found (l ∷ rest) = (if is_found l.holder found then 0 else 1) + missing found rest

abbrev pub all_holders : List Lending → List ℕ
all_holders lendings = map (λ (l : Lending). l.holder) lendings

-- All these objects are found.
pub record Spread (objects found work found' work' : List ℕ) : Type 0 where
  pub keeps : (a : ℕ) → Has found a → Has found' a
  pub comes : (a : ℕ) → Has objects a → Has found' a
  pub only : (a : ℕ) → Has found' a → Has found a ⊎ Has objects a
  pub works : (a : ℕ) → Has work a → Has work' a
  -- what is new is in the work
  pub pushed : (a : ℕ) → Has found' a → Has found a ⊎ Has work' a
  -- and the work is found
  pub known : (a : ℕ) → Has work' a → Has work a ⊎ Has found' a
  -- what is new pays for itself where it is a holder
  pub pays : (all : List Lending) → ((a : ℕ) → Has objects a → Has (all_holders all) a)
      → missing found' all + length work' ≤ missing found all + length work
