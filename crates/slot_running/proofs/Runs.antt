-- What a run between two steps stands for.
use Rattle.std.proofs.Common.{◌≡◌, ℕ, Bool, List, refl, sym, ap, subst, ◌∙◌, Option, Some, None}
use Rattle.type_definitions.specs.Types.{Table}
use Rattle.machine.specs.States.{Leak}
use Rattle.code_rows.specs.declared.codes.Codes.{Codes}
use Rattle.code_rows.specs.Points.{program_of}
use Rattle.run_codes.specs.Programs.{Program}
use Rattle.slot_heap.specs.Heaps.{Heap}
use Rattle.run_results.specs.Results.{leaks_of}
use Rattle.slot_memory.specs.Memory.{Kept, IsKnown}
use Rattle.slot_frames.specs.Stacks.{Stacked}
use Rattle.slot_runs.specs.Turns.{Inside, Still}
use Rattle.slot_runs.specs.Goings.{IsGoing, LeadsOn}
use Rattle.slot_runs.specs.declared.stepping.Turn.{Turn}
use Rattle.slot_runs.specs.declared.stepping.Turn.TheVariants as turn
use Rattle.slot_entries.specs.Entries.{stacked_words}
use Rattle.slot_stages.proofs.Turns.{inside_of}
use Rattle.slot_turns.specs.declared.overs.Over.{Over}
use Rattle.slot_turns.specs.Betweens.{Between, stage_of, untold_of}
use Rattle.slot_turns.specs.Runs.{IsInside, StandsWith, turned}
use Rattle.slot_turns.proofs.Turned.{over_rests}
use Rattle.slot_steps.specs.slot_parts.declared.parts.Parts.{Parts}
use Rattle.slot_steps.specs.slot_parts.Stages.{between_of, setting_of}
use Rattle.slot_steps.specs.slot_parts.Begins.{IsBegun}
use Rattle.slot_running.specs.Runs.{Running, running_lent, running_setting, running_untold, RunStands, AreKept, IsAtStart, CanTurns, AreTurns}

-- ---- the start

starts : {R : Type 0} (Means : R → Heap → Type 0) (codes : Codes) (table : Table) (lent : ℕ) (input : List ℕ) (declares : Bool) (p : Parts R) → IsBegun Means table (program_of codes) lent input declares p
    → IsAtStart Means table (program_of codes) lent input declares (record { codes = codes; table = table; input = input; between = between_of p; over = None })
starts Means codes table lent input declares p is = record {
  setting = refl;
  inside = inside_of (stage_of (between_of p) is.ghosts);
  stands = record { ghosts = is.ghosts; between = is.between; stands = is.stands; bytes = is.input; is = refl };
  start = is.state;
  lent = is.lent;
}

-- By the table that is kept of it.
pub starts_by : {R : Type 0} (Means : R → Heap → Type 0) (codes : Codes) (table kept : Table) (lent : ℕ) (input : List ℕ) (declares : Bool) (p : Parts R) → kept ≡ table
    → IsBegun Means kept (program_of codes) lent input declares p
    → IsAtStart Means table (program_of codes) lent input declares (record { codes = codes; table = kept; input = input; between = between_of p; over = None })
starts_by Means codes table kept lent input declares p same is =
    subst (λ t. IsAtStart Means t (program_of codes) lent input declares (record { codes = codes; table = kept; input = input; between = between_of p; over = None })) same
    (starts Means codes kept lent input declares p is)

pub starts_kept : {R : Type 0} (Means : R → Heap → Type 0) (table : Table) (program : Program) (lent : ℕ) (input : List ℕ) (declares : Bool) (p : Parts R) → IsBegun Means table program lent input declares p
    → AreKept Means None p
starts_kept Means table program lent input declares p is = ((is.ghosts, is.stands.memory), is.words)

-- ---- steps

module _ {R : Type 0} (Means : R → Heap → Type 0) (codes : Codes) (table : Table) (input : List ℕ) (limit : ℕ) (old : Parts R) where
  -- A run of which a step can be made isn't over.
  abbrev CanRun : Option Over → Type 0
  CanRun over = IsGoing (setting_of codes table input) limit (untold_of (between_of old)) (StandsWith Means over input (between_of old))

  pub kept_now : (over : Option Over) → CanRun over → AreKept Means over old → AreKept Means None old
  kept_now None can kept = kept
  kept_now (Some over) can kept = absurd (over_rests Means over (between_of old) can.under.inside can.under.stands can.under.running)

  pub can_turns : (over : Option Over) → CanRun over → CanTurns Means codes table limit old
  can_turns None can =
      let P : List ℕ → Type 0 = λ i. IsGoing (setting_of codes table i) limit (untold_of (between_of old)) (IsInside Means (between_of old) i) in
      subst P (sym can.under.stands.bytes) can
  can_turns (Some over) can = absurd (over_rests Means over (between_of old) can.under.inside can.under.stands can.under.running)

  module _ (made : ℕ) (new : Parts R) where
    led_here : (bytes : old.memory.input ≡ input) (next : Option Over) → AreTurns Means codes table limit made next old new
        → LeadsOn (setting_of codes table input) limit (untold_of (between_of old)) (IsInside Means (between_of old) input)
        made (turned next) (untold_of (between_of new)) (StandsWith Means next input (between_of new))
    led_here bytes next are =
        let P : List ℕ → Type 0 =
        λ i. LeadsOn (setting_of codes table i) limit (untold_of (between_of old)) (IsInside Means (between_of old) i)
        made (turned next) (untold_of (between_of new)) (StandsWith Means next i (between_of new)) in
        subst P bytes are.led

    -- It goes on.
    pub run_on : (over : Option Over) → CanRun over → AreTurns Means codes table limit made None old new
        → LeadsOn (setting_of codes table input) limit (untold_of (between_of old)) (StandsWith Means over input (between_of old))
        made (turned None) (untold_of (between_of new)) (StandsWith Means over input (between_of new))
    run_on None can are = led_here can.under.stands.bytes None are
    run_on (Some over) can are = absurd (over_rests Means over (between_of old) can.under.inside can.under.stands can.under.running)

    -- It is over.
    pub run_over : (over : Option Over) (last : Over) → CanRun over → AreTurns Means codes table limit made (Some last) old new
        → LeadsOn (setting_of codes table input) limit (untold_of (between_of old)) (StandsWith Means over input (between_of old))
        made (turned (Some last)) (untold_of (between_of new)) (StandsWith Means (Some last) input (between_of new))
    run_over None last can are = led_here can.under.stands.bytes (Some last) are
    run_over (Some over) last can are = absurd (over_rests Means over (between_of old) can.under.inside can.under.stands can.under.running)

-- ---- a run with its view

abbrev view : {R : Type 0} → Codes → Table → List ℕ → Parts R → Option Over → Running R
view codes table input p over = record { codes = codes; table = table; input = input; between = between_of p; over = over }

module _ {R : Type 0} (Means : R → Heap → Type 0) (r : Running R) (codes : Codes) (table : Table) (input : List ℕ) (p : Parts R) (over : Option Over)
    (is : view codes table input p over ≡ r) (limit : ℕ) (can : IsGoing (running_setting r) limit (running_untold r) (RunStands Means r)) where
  can_here : CanRun Means codes table input limit p over
  can_here = subst (λ x. IsGoing (running_setting x) limit (running_untold x) (RunStands Means x)) (sym is) can

  pub steps_kept : AreKept Means over p → AreKept Means None p
  steps_kept kept = kept_now Means codes table input limit p over can_here kept

  pub steps_can : CanTurns Means codes table limit p
  steps_can = can_turns Means codes table input limit p over can_here

  module _ (made : ℕ) (new : Parts R) where
    abbrev Leading : Turn → Option Over → Type 0
    Leading t last =
        LeadsOn (running_setting r) limit (running_untold r) (RunStands Means r) made t (running_untold (view codes table input new last)) (RunStands Means (view codes table input new last))

    pub steps_on : AreTurns Means codes table limit made None p new → Leading turn.On over
    steps_on are =
        let P : Running R → Type 0 =
        λ x. LeadsOn (running_setting x) limit (running_untold x) (RunStands Means x)
        made turn.On (running_untold (view codes table input new over)) (RunStands Means (view codes table input new over)) in
        subst P is (run_on Means codes table input limit p made new over can_here are)

    pub steps_over : (last : Over) → AreTurns Means codes table limit made (Some last) p new → Leading (turn.Ends last.ending) (Some last)
    steps_over last are =
        let P : Running R → Type 0 =
        λ x. LeadsOn (running_setting x) limit (running_untold x) (RunStands Means x)
        made (turn.Ends last.ending) (running_untold (view codes table input new (Some last))) (RunStands Means (view codes table input new (Some last))) in
        subst P is (run_over Means codes table input limit p made new over last can_here are)

  -- The store is the one that was lent by the same reference.
  pub steps_lent : (next : Option Over) (made : ℕ) (new : Parts R) → AreTurns Means codes table limit made next p new → new.memory.heap.lent ≡ running_lent r
  steps_lent next made new are = are.lent ∙ ap (λ (x : Running R). running_lent x) is

-- ---- what was told

inside_still : {R : Type 0} (Means : R → Heap → Type 0) (b : Between R) (output : List ℕ) (leaks : List Leak) (input : List ℕ)
    → Still (IsInside Means b input) (IsInside Means (record b { output = output; leaks = leaks }) input)
inside_still Means b output leaks input x at = record {
  ghosts = at.ghosts;
  between = record { stacked = at.between.stacked; base = at.between.base; read = at.between.read };
  stands = record { memory = at.stands.memory; settled = at.stands.settled };
  bytes = at.bytes;
  is = at.is;
}

pub still : {R : Type 0} (Means : R → Heap → Type 0) (over : Option Over) (b : Between R) (output : List ℕ) (leaks : List Leak) (input : List ℕ)
    → Still (StandsWith Means over input b) (StandsWith Means over input (record b { output = output; leaks = leaks }))
still Means None b output leaks input x at = inside_still Means b output leaks input x at
still Means (Some over) b output leaks input x at = record { frames = at.frames; made = at.made; freed = at.freed; means = at.means }

pub still_kept : {R : Type 0} (Means : R → Heap → Type 0) (over : Option Over) (old new : Parts R) → new.memory ≡ old.memory → new.words ≡ old.words → new.frames ≡ old.frames
    → AreKept Means over old → AreKept Means over new
still_kept Means None old new memory words frames kept = (subst (IsKnown Means) (sym memory) kept.0, words ∙ kept.1 ∙ ap stacked_words (sym frames))
still_kept Means (Some over) old new memory words frames kept = tt

-- ---- counts

pub made_is : {R : Type 0} (Means : R → Heap → Type 0) (b : Between R) (input : List ℕ) (n : ℕ) → n ≡ b.kept.heap.made → (x : Inside) → IsInside Means b input x → n ≡ x.memory.made
made_is Means b input n is x at = is ∙ ap (λ (y : Inside). y.memory.made) (sym at.is)

pub freed_is : {R : Type 0} (Means : R → Heap → Type 0) (b : Between R) (input : List ℕ) (n : ℕ) → n ≡ b.kept.heap.freed → (x : Inside) → IsInside Means b input x → n ≡ x.memory.freed
freed_is Means b input n is x at = is ∙ ap (λ (y : Inside). y.memory.freed) (sym at.is)

-- So many cells were made of a run that is over, or of one that isn't.
abbrev pub MadeOf : {R : Type 0} → Option Over → Parts R → ℕ → Type 0
MadeOf None p n = n ≡ p.memory.heap.made
MadeOf (Some last) p n = n ≡ last.made

abbrev pub FreedOf : {R : Type 0} → Option Over → Parts R → ℕ → Type 0
FreedOf None p n = n ≡ p.memory.heap.freed
FreedOf (Some last) p n = n ≡ last.freed

-- ---- the calls of a run with its view

module _ {R : Type 0} (Means : R → Heap → Type 0) (r : Running R) (codes : Codes) (table : Table) (input : List ℕ) (p : Parts R) (over : Option Over)
    (is : view codes table input p over ≡ r) where
  pub still_run : (new : Parts R) → new.memory ≡ p.memory → new.frames ≡ p.frames → Still (RunStands Means r) (RunStands Means (view codes table input new over))
  still_run new memory frames =
      let P : Kept R → Stacked → Type 0 =
      λ m s. Still (StandsWith Means over input (between_of p)) (StandsWith Means over input (record (between_of new) { kept = m; stacked = s })) in
      let Q : Running R → Type 0 = λ x. Still (RunStands Means x) (RunStands Means (view codes table input new over)) in
      subst Q is
      (subst (λ m. P m new.frames) (sym memory) (subst (P p.memory) (sym frames) (still Means over (between_of p) new.output.items (leaks_of new.leaks.items) input)))

  made_stands : (o : Option Over) (n : ℕ) → MadeOf o p n → (x : Inside) → StandsWith Means o input (between_of p) x → n ≡ x.memory.made
  made_stands None n counted x at = made_is Means (between_of p) input n counted x at
  made_stands (Some last) n counted x at = counted ∙ sym at.made

  freed_stands : (o : Option Over) (n : ℕ) → FreedOf o p n → (x : Inside) → StandsWith Means o input (between_of p) x → n ≡ x.memory.freed
  freed_stands None n counted x at = freed_is Means (between_of p) input n counted x at
  freed_stands (Some last) n counted x at = counted ∙ sym at.freed

  pub made_run : (n : ℕ) → MadeOf over p n → (x : Inside) → RunStands Means r x → n ≡ x.memory.made
  made_run n counted = subst (λ y. (x : Inside) → RunStands Means y x → n ≡ x.memory.made) is (made_stands over n counted)

  pub freed_run : (n : ℕ) → FreedOf over p n → (x : Inside) → RunStands Means r x → n ≡ x.memory.freed
  freed_run n counted = subst (λ y. (x : Inside) → RunStands Means y x → n ≡ x.memory.freed) is (freed_stands over n counted)
