-- Points that take no values and store one word at most.
use Rattle.std.proofs.Common.{◌≡◌, ◌≢◌, ℕ, List, length, take, sym, ap, ◌∙◌, arith, Err}
use Rattle.std.proofs.lemmas.List.{take_all}
use Rattle.type_definitions.specs.Types.{Table}
use Rattle.slot_heap.specs.Heaps.{Heap}
use Rattle.code_rows.specs.declared.point.Point.{Point as PointRow}
use Rattle.code_rows.specs.declared.codes.Codes.{Codes}
use Rattle.code_rows.specs.declared.stop.Exception.{Exception}
use Rattle.code_rows.specs.declared.stop.Stop.TheVariants as stop
use Rattle.slot_memory.specs.Memory.{Kept}
use Rattle.slot_frames.specs.declared.rows.Wait.{Wait}
use Rattle.slot_frames.specs.Stacks.{Stacked}
use Rattle.slot_frames.specs.Frames.{word_at}
use Rattle.slot_frames.proofs.Waits.{first_at}
use Rattle.slot_stages.specs.Leads.{without_taken, at_next}
use Rattle.slot_points.specs.Changing.{Done}
use Rattle.slot_goings.specs.declared.groups.Group.TheVariants as group
use Rattle.slot_goings.specs.Groups.{group_of}
use Rattle.slot_goings.specs.Changes.{words_changed}
use Rattle.slot_steps.specs.slot_parts.declared.parts.Parts.{Parts}
use Rattle.slot_steps.specs.slot_parts.Stages.{IsAt}
use Rattle.slot_steps.proofs.Words.{words_whole}

-- After the last value no words wait.
pub word_end : (ws : List Wait) (k n : ℕ) → k ≡ length ws → word_at ws k n ≡ n
word_end ws k n last = sym (first_at ws k 0 n (omega (arith, last)))

-- Where no value was taken, none goes.
pub none_taken : {R : Type 0} (s : Stacked) (k : ℕ) (m : Kept R) → k ≡ length s.waits → m.taken ≡ word_at s.waits k (length m.waits) → m ≡ without_taken s k m
none_taken {R} s k m last taken =
    let first : ℕ = word_at s.waits k (length m.waits) in
    let all : take first m.waits ≡ m.waits = ap (λ n. take n m.waits) (word_end s.waits k (length m.waits) last) ∙ take_all (length m.waits) m.waits (omega arith) in
    ap (λ n. record m { taken = n }) taken ∙ ap (λ ws. record m { waits = ws; taken = first }) (sym all)

pub all_wait : (s : Stacked) (k n : ℕ) → k ≡ length s.waits → record s { frame = record s.frame { next = n } } ≡ at_next s k n
all_wait s k n last =
    ap (λ ws. record s { waits = ws; frame = record s.frame { next = n } }) (sym (ap (λ j. take j s.waits) last ∙ take_all (length s.waits) s.waits (omega arith)))

-- Where such a point raises, nothing is changed.
apart : (e : Exception) → stop.Raises e ≢ stop.Memory
apart e = λ same. absurd (cc)

pub stays : {R : Type 0} (Means : R → Heap → Type 0) (codes : Codes) (table : Table) (point : PointRow) (k : ℕ) (old : Parts R) → IsAt Means codes table point k old
    → group_of point.does ≡ group.Words → (e : Exception) (m : Kept R) → Done {A = ℕ} Means old.memory (words_changed codes.rows point.does) (Err (stop.Raises e)) m
    → record old { memory = m } ≡ old
stays Means codes table point k old at is e m done =
    let w = words_whole Means codes table point k old at is in
    ap (λ q. record old { memory = q }) (done.done w.ghosts w.stands w.whole (apart e)).same
