-- Leak checks, and what calls pass (docs/RUN.md, "Calls").
use Rattle.std.specs.Prelude.{ℕ, ◌+◌, Bool, false, List, [], ◌∷◌, ◌++◌, map, flat_map, get_or, Option, Some, None, if◌then◌else◌}
use Rattle.flow_paths.specs.spark_base.declared.position.Pos.{Pos}
use Rattle.flow_paths.specs.place_names.declared.act.Mode.TheVariants as mode
use Rattle.flow_paths.specs.typed_tree.Trees.{TypedTree, More}
use Rattle.flow_paths.specs.Objects.{Typing, object_at, is_anonymous, view_of, Passing, ByValue, Traversed}
use Rattle.flow_paths.specs.Objects as objects
use Rattle.flow_paths.specs.Names.{Written, written}
use Rattle.flow_paths.specs.type_definitions.Types.{parts}
use Rattle.machine.specs.Words.{Word, Cell, default, offsets}
use Rattle.machine.specs.Memory.{Memory, Slot, Place, no_slot, slots_at, words_of, moved_out, declared}
use Rattle.machine.specs.Evaluate.{Now, Here, Evaluated, Done, followed_by, value, viewed, place_of, checked}
use Rattle.machine.specs.States.{Return, Leak}

-- ---- leak checks

-- A check fails at a word that isn't gone and has the number of a cell.
abbrev pub failed_at : Pos → Word → Bool → List Leak
failed_at p (Cell n) false = record { number = n; pos = p } ∷ []
failed_at p _ _ = []

abbrev pub failed : Pos → Slot → List Leak
failed p s = failed_at p s.word s.gone

abbrev pub checked_at : Pos → ℕ → List Slot → List ℕ → List Leak
checked_at p at slots offsets = flat_map (λ o. failed p (get_or slots (at + o) no_slot)) offsets

-- The checks of a place, one for each access part, with what failed of each in the order of the
-- indexes.
abbrev pub checks_at : Typing → Pos → Memory → Place → List (List Leak)
checks_at s p m k = map (λ part. checked_at p k.at (slots_at s m k.base) (offsets s.table k.of part)) (parts s.table k.of)

abbrev pub written_pos : Pos → Option Written → Pos
written_pos p None = p
written_pos p (Some m) = m.pos

-- ---- actuals

-- What is known of an actual before the call: its value, or its place.
pub data Passed : Type 0 where
  Value : List Word → Passed
  From : Place → Passed
  To : Place → Passed

abbrev pub value_passed : List Word → Now → Evaluated Passed
value_passed ws now = Done (Value ws) now

abbrev pub type_of : Here → ℕ → ℕ
type_of h x = (object_at h.typing x).of

-- A value is checked against the subtype of its formal; that of an access formal of an anonymous
-- type is a copy.
abbrev pub passed_value : Here → ℕ → TypedTree → Now → Evaluated Passed
passed_value h x e now =
    followed_by (if is_anonymous (view_of h.typing x) then viewed h e now else value h e now)
    (λ ws now. followed_by (checked h (type_of h x) ws now) value_passed)

-- An `in out` actual has a value of the formal's subtype.
abbrev pub passed_place : Here → ℕ → TypedTree → Now → Evaluated Passed
passed_place h x e now =
    followed_by (place_of h e now) (λ k now. followed_by (checked h (type_of h x) (words_of h.typing now.memory k) now)
    (λ ws now. Done (From k) now))

abbrev pub passed : Here → Passing → ℕ → TypedTree → Now → Evaluated Passed
passed h ByValue x e now = passed_value h x e now
passed h Traversed x e now = followed_by (viewed h e now) value_passed
passed h (objects.Place mode.In owning access) x e now = followed_by (viewed h e now) value_passed
passed h (objects.Place mode.Out owning access) x e now = followed_by (place_of h e now) (λ k now. Done (To k) now)
passed h (objects.Place mode.InOut owning access) x e now = passed_place h x e now

-- The actuals in the order of the formals.
abbrev pub all_passed : Here → List Passing → List ℕ → TypedTree → Now → Evaluated (List Passed)
all_passed h (way ∷ ways) (x ∷ formals) (More e rest) now =
    followed_by (passed h way x e now) (λ a now. followed_by (all_passed h ways formals rest now) (λ more now. Done (a ∷ more) now))
all_passed h _ _ _ now = Done [] now

-- The leak checks of the `out` actuals.
abbrev pub out_checks : Typing → Pos → Memory → List Passed → TypedTree → List (List Leak)
out_checks s p m (To k ∷ passed) (More e rest) =
    checks_at s (written_pos p (written e)) m k ++ out_checks s p m passed rest
out_checks s p m (_ ∷ passed) (More e rest) = out_checks s p m passed rest
out_checks s p m _ _ = []

-- ---- formals

-- The formals are declared in the frame of the call: with the value; with what the actual has,
-- which is taken from it; or with what an object has without a value, where the actual is taken
-- from as well.
abbrev pub with_formal : Typing → ℕ → ℕ → Passed → Memory → Memory
with_formal s frame x (Value ws) m = declared frame x ws m
with_formal s frame x (From k) m = declared frame x (words_of s m k) (moved_out s k m)
with_formal s frame x (To k) m = declared frame x (default s.table (object_at s x).of) (moved_out s k m)

abbrev pub with_formals : Typing → ℕ → List ℕ → List Passed → Memory → Memory
with_formals s frame (x ∷ formals) (a ∷ passed) m = with_formals s frame formals passed (with_formal s frame x a m)
with_formals s frame _ _ m = m

abbrev pub return_of : ℕ → Passed → List Return
return_of x (Value ws) = []
return_of x (From k) = record { formal = x; to = k } ∷ []
return_of x (To k) = record { formal = x; to = k } ∷ []

abbrev pub returns_of : List ℕ → List Passed → List Return
returns_of (x ∷ formals) (a ∷ passed) = return_of x a ++ returns_of formals passed
returns_of _ _ = []
