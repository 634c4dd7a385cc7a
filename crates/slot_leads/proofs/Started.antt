-- Where a run starts.
use Rattle.std.proofs.Common.{◌≡◌, ◌≤◌, ◌+◌, ℕ, true, false, List, [], ◌∷◌, ◌++◌, length, refl, sym, ap, subst, ◌∙◌, arith, ℤ}
use Rattle.type_definitions.specs.Types.{Table}
use Rattle.run_codes.specs.Codes.{Sub}
use Rattle.run_codes.specs.Programs.{Program}
use Rattle.run_codes.specs.Points.{sub_at, template}
use Rattle.slot_heap.specs.Heaps.{Heap, no_heap}
use Rattle.handled_runs.specs.Slots.{Slots}
use Rattle.handled_steps.specs.Runs.{no_memory}
use Rattle.slot_memory.specs.Cells.{Cells, Keep}
use Rattle.slot_memory.proofs.Keeps.{keep_none}
use Rattle.slot_memory.specs.Memory.{Kept, Ghosts, slots, Stands}
use Rattle.slot_frames.specs.Stacks.{Stacked}
use Rattle.slot_runs.specs.Pasts.{plain_memory}
use Rattle.slot_stages.specs.Stages.{state_of, IsStage}
use Rattle.slot_stages.specs.Leads.{with_main}
use Rattle.slot_stages.proofs.Starts.{first_stage, first_frame, first_is, first_above, starts_packages, starts_main}
use Rattle.slot_entries.specs.Entries.{stacked_words}
use Rattle.slot_turns.specs.Betweens.{stage_of, IsBetween}
use Rattle.slot_leads.specs.Begins.{MainBegins}
use Rattle.slot_leads.specs.Starts.{only_frame, no_cells, HasPackages, silent, IsStarted}

abbrev no_ghosts : Ghosts
no_ghosts = record { heap = no_heap; numbers = λ h. 0; moves = []; peaks = []; sizes = [] }

no_read : (n : ℕ) (bytes : List ℕ) → n ≡ 0 → n ≤ length bytes
no_read n bytes none = omega (arith, none)

-- A memory with nothing but words.
abbrev words_kept : {R : Type 0} → R → List ℤ → Slots
words_kept store stack = record no_memory { stack = stack }

words_alone : {R : Type 0} (m : Kept R) (store : R) (lent : ℕ) (stack : List ℤ) → m.stack ≡ stack → m.heap ≡ no_cells store lent → plain_memory (slots m no_ghosts) ≡ plain_memory (words_kept store stack)
words_alone m store lent stack words cells =
    ap (λ ws. record (plain_memory (slots m no_ghosts)) { stack = ws }) words
    ∙ ap (λ (c : Cells _). record (plain_memory (words_kept store stack)) { live = c.live; made = c.made; freed = c.freed }) cells

stands_none : {R : Type 0} (Means : R → Heap → Type 0) (store : R) (lent : ℕ) (m : Kept R) → Means store no_heap → m.heap ≡ no_cells store lent → m.moves ≡ [] → Stands Means m no_ghosts
stands_none Means store lent m means cells moves = record {
  cells = subst (λ c. Keep Means c no_heap (λ h. 0)) (sym cells) (keep_none Means store lent means);
  moves = moves;
}

one_frame : (n : ℕ) → n ≡ n + 0
one_frame n = omega arith

-- Only the frame of the package objects counts.
pub packages_words : {R : Type 0} (table : Table) (program : Program) (store : R) (lent : ℕ) (bytes : List ℕ) (m : Kept R) (s : Stacked) (words : ℕ)
    → HasPackages table program store lent bytes m s words → words ≡ stacked_words s
packages_words table program store lent bytes m s words has = has.words ∙ one_frame (sub_at program 0).words ∙ ap stacked_words (sym has.frames)

module _ {R : Type 0} (Means : R → Heap → Type 0) (table : Table) (program : Program) (store : R) (lent : ℕ) (bytes : List ℕ) (m : Kept R) (s : Stacked) (words : ℕ)
    (means : Means store no_heap) (has : HasPackages table program store lent bytes m s words) where
  abbrev packages : Sub
  packages = sub_at program 0

  pub packages_started : IsStarted Means table program lent bytes true m s words
  packages_started =
      let t : Stacked = only_frame packages.first packages.words in
      let is : IsStage (first_stage m no_ghosts (first_frame 0 packages) []) = first_is m no_ghosts 0 packages (ap length has.waits) has.base refl in
      let P : Stacked → Type 0 = λ x. IsBetween (silent m x) in
      record {
        ghosts = no_ghosts;
        between = subst P (sym has.frames) (record { stacked = is.stacked; base = has.base; read = no_read m.read m.input has.read });
        stands = record { memory = stands_none Means store lent m means has.heap has.moves; settled = refl };
        input = has.input;
        lent = ap (λ (c : Cells R). c.lent) has.heap;
        words = packages_words table program store lent bytes m s words has;
        state = ap (λ (x : Stacked). state_of (stage_of (silent m x) no_ghosts)) has.frames
            ∙ starts_packages table program m no_ghosts has.read (words_alone m store lent (template table packages) has.stack has.heap);
      }

  module _ (q : Kept R) (t : Stacked) (all : ℕ) (begins : MainBegins table program m s q t) (counted : all ≡ stacked_words t) where
    abbrev main : Sub
    main = sub_at program begins.main

    abbrev main_stacked : Stacked
    main_stacked = record { frame = first_frame (length (template table packages)) main; outer = first_frame 0 packages ∷ []; waits = []; returns = [] }

    main_frames : t ≡ main_stacked
    main_frames =
        begins.frames
        ∙ ap (λ x. with_main main x (length m.stack)) has.frames
        ∙ ap (λ (ws : List ℤ). with_main main (only_frame packages.first packages.words) (length ws)) has.stack

    pub main_started : IsStarted Means table program lent bytes false q t all
    main_started =
        let read : q.read ≡ 0 = ap (λ (x : Kept R). x.read) begins.memory ∙ has.read in
        let base : q.base ≡ length (template table packages) = ap (λ (x : Kept R). x.base) begins.memory ∙ ap length has.stack in
        let heap : q.heap ≡ no_cells store lent = ap (λ (x : Kept R). x.heap) begins.memory ∙ has.heap in
        let moves : q.moves ≡ [] = ap (λ (x : Kept R). x.moves) begins.memory ∙ has.moves in
        let stack : q.stack ≡ template table packages ++ template table main =
        ap (λ (x : Kept R). x.stack) begins.memory ∙ ap (λ (ws : List ℤ). ws ++ template table main) has.stack in
        let waits : length q.waits ≡ 0 = ap (λ (x : Kept R). length x.waits) begins.memory ∙ ap length has.waits in
        let is = first_above q no_ghosts (length (template table packages)) main packages waits base refl in
        let P : Stacked → Type 0 = λ x. IsBetween (silent q x) in
        record {
          ghosts = no_ghosts;
          between = subst P (sym main_frames) (record { stacked = is.stacked; base = base; read = no_read q.read q.input read });
          stands = record { memory = stands_none Means store lent q means heap moves; settled = refl };
          input = ap (λ (x : Kept R). x.input) begins.memory ∙ has.input;
          lent = ap (λ (c : Cells R). c.lent) heap;
          words = counted;
          state = ap (λ (x : Stacked). state_of (stage_of (silent q x) no_ghosts)) main_frames
              ∙ starts_main table program begins.main q no_ghosts begins.has read (words_alone q store lent (template table packages ++ template table main) stack heap);
        }
