-- What points that write or read do by the definition of a step is what is said of their parts.
use Rattle.std.proofs.Common.{◌≡◌, ℕ, Bool, true, false, List, [], ◌∷◌, ◌++◌, Option, refl, ap, ◌∙◌, ℤ, if◌then◌else◌}
use Rattle.run_values.specs.declared.value.Kind.TheVariants as sort
use Rattle.run_values.specs.declared.items.Item.{Item}
use Rattle.run_values.specs.declared.items.Item.TheVariants as item
use Rattle.run_values.specs.Items.{next_item}
use Rattle.run_codes.specs.Codes.{Code, Place, Piece}
use Rattle.run_codes.specs.Flat.{Got, Given, Stops, Broken, Spot, and_then, constraint, is_zero, is_between}
use Rattle.run_codes.specs.Points.{truth_held}
use Rattle.code_rows.specs.Points.{next_of}
use Rattle.handled_runs.specs.Slots.{Slots, word, spot}
use Rattle.handled_runs.specs.Changes.{stored}
use Rattle.handled_steps.specs.States.{Turn, Outcome, Goes, start, waiting, halted, on_got, after}
use Rattle.handled_steps.specs.Steps.{text, writing, reading, read, output, input, evaluate_left}
use Rattle.slot_points.specs.Changing.{With}
use Rattle.slot_points.specs.Steps.{line_end, written, decided_by, item_stored, item_read}

got_then : {A B : Type 0} (t : Turn) (m : Slots) (g : Got A) (f : A → Got B) (k : B → Outcome)
    → on_got t m g (λ a. on_got t m (f a) k) ≡ on_got t m (and_then g f) k
got_then t m (Given a) f k = refl
got_then t m (Stops s) f k = refl
got_then t m Broken f k = refl

got_same : {A : Type 0} (t : Turn) (m : Slots) (g : Got A) (f h : A → Outcome) → ((a : A) → f a ≡ h a) → on_got t m g f ≡ on_got t m g h
got_same t m (Given a) f h e = e a
got_same t m (Stops s) f h e = refl
got_same t m Broken f h e = refl

-- ---- strings

pub output_is : (t : Turn) (pieces : List Piece) (line : Bool) (n : Option ℕ)
    → output t pieces line n ≡ on_got t (start t) (written t.table pieces line (start t)) (λ bytes. Goes (writing bytes (after t (waiting t) (start t) n)))
output_is t pieces line n =
    got_then {A = List ℕ} {B = List ℕ} t (start t) (text t.table (start t) pieces) (λ bytes. Given (bytes ++ line_end line))
    (λ bytes. Goes (writing bytes (after t (waiting t) (start t) n)))

-- ---- short circuits

either : (w : Bool) (o : Bool) (n decided : ℕ)
    → (if w then (if o then next_of n else next_of decided) else (if o then next_of decided else next_of n))
    ≡ next_of (if w then (if o then n else decided) else (if o then decided else n))
either true true n decided = refl
either true false n decided = refl
either false true n decided = refl
either false false n decided = refl

pub evaluate_left_is : (t : Turn) (c : Code) (or_else : Bool) (n decided : ℕ)
    → evaluate_left t c or_else (next_of n) (next_of decided)
    ≡ on_got t (start t) (word (start t) c) (λ w. Goes (after t (truth_held w ∷ waiting t) (start t) (next_of (decided_by w or_else n decided))))
evaluate_left_is t c or_else n decided =
    got_same t (start t) (word (start t) c)
    (λ w. Goes (after t (truth_held w ∷ waiting t) (start t) (if is_zero w then (if or_else then next_of n else next_of decided) else (if or_else then next_of decided else next_of n))))
    (λ w. Goes (after t (truth_held w ∷ waiting t) (start t) (next_of (decided_by w or_else n decided))))
    (λ w. ap (λ o. Goes (after t (truth_held w ∷ waiting t) (start t) o)) (either (is_zero w) or_else n decided))

-- ---- input

-- The run goes on with the input read so far.
abbrev pub read_to : Turn → Option ℕ → With ℕ → Outcome
read_to t n x = Goes (reading x.answer (after t (waiting t) x.memory n))

within_or : (t : Turn) (m : Slots) (end : ℕ) (n : Option ℕ) (b : Bool) (g : Got Slots)
    → (if b then on_got t m g (λ e. read_to t n (record { memory = e; answer = end })) else halted t constraint m)
    ≡ on_got t m (if b then and_then g (λ e. Given (record { memory = e; answer = end })) else Stops constraint) (read_to t n)
within_or t m end n true g = got_then {A = Slots} {B = With ℕ} t m g (λ e. Given (record { memory = e; answer = end })) (read_to t n)
within_or t m end n false g = refl

item_led : (t : Turn) (low high : ℤ) (n : Option ℕ) (s : Spot) (i : Item)
    → read t low high n s i ≡ on_got t (start t) (item_stored low high i (start t) s) (read_to t n)
item_led t low high n s item.Missing = refl
item_led t low high n s item.Bad = refl
item_led t low high n s (item.Number v end) = within_or t (start t) end n (is_between low high v) (stored (start t) s (sort.Int ∷ []) (v ∷ []))

pub input_is : (t : Turn) (p : Place) (low high : ℤ) (n : Option ℕ)
    → input t p low high n ≡ on_got t (start t) (item_read p t.input t.state.at low high (start t)) (read_to t n)
input_is t p low high n =
    let i : Item = next_item t.input t.state.at in
    got_same t (start t) (spot (start t) p) (λ s. read t low high n s i) (λ s. on_got t (start t) (item_stored low high i (start t) s) (read_to t n))
    (λ s. item_led t low high n s i)
    ∙ got_then {A = Spot} {B = With ℕ} t (start t) (spot (start t) p) (item_stored low high i (start t)) (read_to t n)
