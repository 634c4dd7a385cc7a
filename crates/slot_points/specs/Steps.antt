-- What points do to the memory and where they lead: the parts of a step (`handled_steps`, specs/Steps.antt) that need no
-- state beside them.
use Rattle.std.specs.Prelude.{ℕ, ◌+◌, Bool, true, false, not, ◌&&◌, List, [], ◌∷◌, ◌++◌, map, get_or, slice_get, Option, Some, None, ℤ, pos, unsigned_abs, int_le, if◌then◌else◌}
use Rattle.std.specs.Char.{to_ascii_uppercase}
use Rattle.run_values.specs.declared.value.Kind.{Kind}
use Rattle.run_values.specs.declared.value.Kind.TheVariants as sort
use Rattle.run_values.specs.declared.items.Item.{Item}
use Rattle.run_values.specs.declared.items.Item.TheVariants as item
use Rattle.run_values.specs.Items.{next_item}
use Rattle.machine.specs.Evaluate.{DataError, EndError, literals}
use Rattle.type_definitions.specs.Types.{Table, shape_of}
use Rattle.run_codes.specs.Codes.{Code, Place, Piece, Choice}
use Rattle.run_codes.specs.Flat.{Got, Given, Stops, Raises, Spot, and_then, found, constraint, is_zero, is_between, checked}
use Rattle.run_codes.specs.Points.{chosen, next_value}
use Rattle.handled_runs.specs.Slots.{Slots, word, spot}
use Rattle.handled_runs.specs.Changes.{stored}
use Rattle.handled_steps.specs.Steps.{put_words, piece_bytes, text}
use Rattle.slot_points.specs.Changing.{With}

-- Nothing is answered but that it is done.
abbrev pub only : Slots → Got (With (Unit {0}))
only s = Given (record { memory = s; answer = tt })

-- ---- strings

-- The word of an expression, as it is written.
abbrev pub word_written : Code → (ℤ → List ℕ) → Slots → Got (List ℕ)
word_written c f s = and_then (word s c) (λ w. Given (f w))

-- The literal of a type at a position, in upper case.
abbrev pub literal_written : Table → ℕ → ℤ → List ℕ
literal_written table of w = map to_ascii_uppercase (get_or (literals (shape_of table of)) (unsigned_abs w) [])

abbrev pub line_end : Bool → List ℕ
line_end line = if line then 10 ∷ [] else []

abbrev pub piece_of : Table → Piece → Slots → Got (List ℕ)
piece_of table p s = piece_bytes table s p

abbrev pub text_in : Table → List Piece → Slots → Got (List ℕ)
text_in table pieces s = text table s pieces

-- The pieces of a string, and maybe the end of a line.
abbrev pub written : Table → List Piece → Bool → Slots → Got (List ℕ)
written table pieces line s = and_then (text table s pieces) (λ bytes. Given (bytes ++ line_end line))

-- ---- where points lead

abbrev pub led_to : ℤ → ℕ → ℕ → ℕ
led_to w holds fails = if is_zero w then fails else holds

abbrev pub tested : Code → ℕ → ℕ → Slots → Got ℕ
tested c holds fails s = and_then (word s c) (λ w. Given (led_to w holds fails))

abbrev pub led_by : Option ℕ → Got ℕ
led_by None = Stops constraint
led_by (Some n) = Given n

abbrev pub chosen_by : Code → List Choice → Slots → Got ℕ
chosen_by c choices s = and_then (word s c) (λ w. led_by (chosen w choices))

-- The value of the left operand of a short circuit leads to the right one, or it decides.
abbrev pub decided_by : ℤ → Bool → ℕ → ℕ → ℕ
decided_by w or_else n decided = if is_zero w then (if or_else then n else decided) else (if or_else then decided else n)

-- ---- one word

abbrev pub put_word : ℕ → Slots → ℤ → Got (With (Unit {0}))
put_word at s w = and_then (put_words s at (w ∷ [])) only

abbrev pub put_checked : ℕ → Code → ℤ → ℤ → Slots → Got (With (Unit {0}))
put_checked at c low high s = and_then (and_then (word s c) (checked low high)) (put_word at s)

abbrev pub put_pointer : ℕ → Code → Slots → Got (With (Unit {0}))
put_pointer at c s = and_then (word s c) (put_word at s)

-- The value is evaluated before the place is found.
abbrev pub store_word : Kind → ℤ → Slots → Spot → Got (With (Unit {0}))
store_word k w s q = and_then (stored s q (k ∷ []) (w ∷ [])) only

abbrev pub placed : Place → Kind → Slots → ℤ → Got (With (Unit {0}))
placed p k s w = and_then (spot s p) (store_word k w s)

abbrev pub stored_checked : Place → Code → ℤ → ℤ → Kind → Slots → Got (With (Unit {0}))
stored_checked p c low high k s = and_then (and_then (word s c) (checked low high)) (placed p k s)

-- ---- the ends of scopes

abbrev pub word_in : Slots → ℕ → Got ℤ
word_in s n = found (slice_get s.stack n)

-- The word of an access value, whose leak check follows, stands beside the memory in which it is null.
abbrev pub pointer_ended : ℕ → Slots → ℤ → Got (With ℤ)
pointer_ended at s w = and_then (put_words s at (pos 0 ∷ [])) (λ t. Given (record { memory = t; answer = w }))

abbrev pub ended_pointer : ℕ → Slots → Got (With ℤ)
ended_pointer at s = and_then (word_in s (s.base + at)) (pointer_ended at s)

-- ---- `for` loops

abbrev pub is_refused : ℤ → ℤ → ℤ → ℤ → Bool
is_refused first last a b = int_le a b && not (is_between first last a && is_between first last b)

-- The words of a parameter and of its loop.
abbrev pub loop_words : ℕ → List ℤ → Slots → Got (With (Unit {0}))
loop_words counter loop s = and_then (put_words s counter loop) only

abbrev pub with_loop : ℕ → ℕ → ℤ → List ℤ → Slots → Got (With (Unit {0}))
with_loop at counter v loop s = and_then (put_words s at (v ∷ [])) (loop_words counter loop)

abbrev pub begun_with : ℕ → ℕ → ℤ → ℤ → ℤ → ℤ → Slots → Got (With (Unit {0}))
begun_with at counter first last a b s =
    if is_refused first last a b then Stops constraint else with_loop at counter a (a ∷ b ∷ pos 1 ∷ []) s

abbrev pub bounded : ℕ → ℕ → Code → ℤ → ℤ → Slots → ℤ → Got (With (Unit {0}))
bounded at counter high first last s a = and_then (word s high) (λ b. begun_with at counter first last a b s)

abbrev pub started : ℕ → ℕ → Code → Code → ℤ → ℤ → Slots → Got (With (Unit {0}))
started at counter low high first last s = and_then (word s low) (bounded at counter high first last s)

-- Whether there is a turn is answered.
abbrev pub answering : Bool → Got (With (Unit {0})) → Got (With Bool)
answering b got = and_then got (λ x. Given (record { memory = x.memory; answer = b }))

abbrev pub turned_to : ℕ → ℕ → ℤ → ℤ → ℤ → Option ℤ → Slots → Got (With Bool)
turned_to at counter without low high (Some v) s = answering true (with_loop at counter v (low ∷ high ∷ pos 0 ∷ []) s)
turned_to at counter without low high None s = answering false (with_loop at counter without (pos 1 ∷ pos 0 ∷ pos 1 ∷ []) s)

abbrev pub turned : ℕ → ℕ → Bool → ℤ → Slots → Got (With Bool)
turned at counter reversed without s =
    and_then (word_in s (s.base + at)) (λ v. and_then (word_in s (s.base + counter)) (λ low. and_then (word_in s (s.base + counter + 1))
    (λ high. and_then (word_in s (s.base + counter + 2)) (λ first. turned_to at counter without low high (next_value reversed low high first v) s))))

-- ---- input

-- The item within bounds goes to the spot. The input is read up to its end.
abbrev pub item_stored : ℤ → ℤ → Item → Slots → Spot → Got (With ℕ)
item_stored low high item.Missing s q = Stops (Raises EndError)
item_stored low high item.Bad s q = Stops (Raises DataError)
item_stored low high (item.Number v end) s q =
    if is_between low high v then and_then (stored s q (sort.Int ∷ []) (v ∷ [])) (λ t. Given (record { memory = t; answer = end })) else Stops constraint

abbrev pub item_at : ℤ → ℤ → Item → Spot → Slots → Got (With ℕ)
item_at low high item q s = item_stored low high item s q

abbrev pub item_read : Place → List ℕ → ℕ → ℤ → ℤ → Slots → Got (With ℕ)
item_read p input at low high s = and_then (spot s p) (item_stored low high (next_item input at) s)
