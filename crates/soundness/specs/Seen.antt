-- What owners see of a memory, with some values in hand.
--
-- A value that an evaluation has got, or that waits, is in hand: it has a type and words. The
-- latest hand stands first; hands are numbered from the last one on, so that a new one changes no
-- number.
use Rattle.std.specs.Prelude.{◌≡◌, ◌⊎◌, ℕ, suc, Bool, true, false, not, ◌&&◌, ◌==◌, List, [], ◌∷◌, length, get_or, if◌then◌else◌}
use Rattle.std.specs.List.{list_any}
use Rattle.machine.specs.type_definitions.Types.{Table, is_owning}
use Rattle.machine.specs.flow_paths.Objects.{Typing, object_at, is_package_object}
use Rattle.machine.specs.Words as machine
use Rattle.machine.specs.Memory.{Slot, Memory, fresh, variable_slots, cell, no_slot}
use Rattle.machine.specs.States.{Waiting, Leak}
use Rattle.machine.specs.Owners.{is_in_formal, waiting_at}
use Rattle.soundness.specs.OwnedWays.Ways.{Step, Root, OfVariable, OfHand, Loc, OfRoot, OfCell, Inside, Way, Object, Lost, Into, All, Word, Empty, Gone, Held, View}
use Rattle.soundness.specs.PartOffsets.Parts.{offset_in, is_leaf}

-- What stands at a variable, a hand or a cell: its type, its words, and whether they own.
pub record Content : Type 0 where
  pub of : ℕ
  pub slots : List Slot
  pub owns : Bool

abbrev pub in_hand : Waiting → Content
in_hand v = record { of = v.of; slots = fresh v.words; owns = true }

-- A formal of mode `in` of an owning type is a view: what it holds, the actual owns. One of another
-- type has nothing that owns.
abbrev pub is_view_formal : Typing → ℕ → Bool
is_view_formal s x = is_in_formal s x && is_owning s.table (object_at s x).of

-- The content of what a location is a part of.
abbrev pub content : Typing → Memory → List Waiting → Loc → Content
content s m hands (OfRoot (OfVariable f x)) =
    record { of = (object_at s x).of; slots = variable_slots s f x m.variables; owns = not (is_view_formal s x) }
content s m hands (OfRoot (OfHand h)) = in_hand (waiting_at hands h)
content s m hands (OfCell n) = record { of = (cell m n).of; slots = (cell m n).slots; owns = not (cell m n).freed }
content s m hands (Inside l i) = content s m hands l

-- The steps to a location from what it is a part of, the last one first.
abbrev pub steps_in : Loc → List Step
steps_in (OfRoot r) = []
steps_in (OfCell n) = []
steps_in (Inside l i) = i ∷ steps_in l

abbrev pub trunk : Loc → Loc
trunk (OfRoot r) = OfRoot r
trunk (OfCell n) = OfCell n
trunk (Inside l i) = trunk l

-- ---- words

abbrev pub owner_at : machine.Word → Bool → Word
owner_at w true = Gone
owner_at (machine.Cell n) false = Held n
owner_at w false = Empty

abbrev pub owner_word : Slot → Word
owner_word s = owner_at s.word s.gone

abbrev pub word_in : Table → Content → List Step → Word
word_in table c p = if c.owns && is_leaf table c.of p then owner_word (get_or c.slots (offset_in table c.of p) no_slot) else Empty

-- From contents, with the count of cells, what is freed, and the leak checks that failed.
abbrev pub seen_of : Table → (Loc → Content) → ℕ → (ℕ → Bool) → List Leak → View
seen_of table at count dead leaks = record {
  word = λ l. word_in table (at (trunk l)) (steps_in l);
  made = suc count;
  freed = dead;
  leaked = λ n. list_any (λ (leak : Leak). leak.number == n) leaks;
}

abbrev pub seen : Typing → Memory → List Waiting → List Leak → View
seen s m hands leaks = seen_of s.table (content s m hands) (length m.cells) (λ n. (cell m n).freed) leaks

-- Package objects have the frame 0.
abbrev pub home : Typing → ℕ → ℕ → ℕ
home s f x = if is_package_object s x then 0 else f

-- A way that begins in hand, or at a variable of this frame or of the package objects.
abbrev pub IsNearRoot : ℕ → Root → Type 0
IsNearRoot frame (OfVariable f x) = (f ≡ 0) ⊎ (f ≡ frame)
IsNearRoot frame (OfHand h) = Unit {0}

abbrev pub IsNear : ℕ → Way → Type 0
IsNear frame (Object r) = IsNearRoot frame r
IsNear frame (Lost n) = ⊥
IsNear frame (Into w i) = IsNear frame w
IsNear frame (All w) = IsNear frame w
