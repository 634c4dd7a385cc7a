-- Where no value was taken, none goes.
use Rattle.std.proofs.Common.{◌≡◌, ℕ, List, length, take, sym, ap, ◌∙◌, arith}
use Rattle.std.proofs.lemmas.List.{take_all}
use Rattle.slot_memory.specs.Memory.{Kept}
use Rattle.slot_frames.specs.declared.rows.Wait.{Wait}
use Rattle.slot_frames.specs.Stacks.{Stacked}
use Rattle.slot_frames.specs.Frames.{word_at}
use Rattle.slot_frames.proofs.Waits.{first_at}
use Rattle.slot_stages.specs.Leads.{without_taken}

-- After the last value no words wait.
word_end : (ws : List Wait) (k n : ℕ) → k ≡ length ws → word_at ws k n ≡ n
word_end ws k n last = sym (first_at ws k 0 n (omega (arith, last)))

pub none_goes : {R : Type 0} (s : Stacked) (k : ℕ) (m : Kept R) → k ≡ length s.waits → record m { taken = length m.waits } ≡ without_taken s k m
none_goes s k m last =
    let first : length m.waits ≡ word_at s.waits k (length m.waits) = sym (word_end s.waits k (length m.waits) last) in
    let all : take (length m.waits) m.waits ≡ m.waits = take_all (length m.waits) m.waits (omega arith) in
    ap (λ ws. record m { waits = ws; taken = length m.waits }) (sym all) ∙ ap (λ n. record m { waits = take n m.waits; taken = n }) first

pub all_wait : (s : Stacked) (k : ℕ) → k ≡ length s.waits → s ≡ record s { waits = take k s.waits }
all_wait s k last = ap (λ ws. record s { waits = ws }) (sym (ap (λ j. take j s.waits) last ∙ take_all (length s.waits) s.waits (omega arith)))
