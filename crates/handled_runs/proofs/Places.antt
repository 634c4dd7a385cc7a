-- Places lead to the same spots over both heaps, but for the names of cells.
use Rattle.std.proofs.Common.{◌≡◌, refl, sym, ap, ◌∙◌, ℕ, zero, suc, subst, ◌+◌, ◌&&◌, Bool, true, false, nat_le, nat_lt, List, length, get_or, slice_get, ℤ, pos, negsuc, if◌then◌else◌}
use Rattle.std.specs.Prelude.{unsigned_abs}
use Rattle.numbered_cells.specs.run_values.declared.value.Kind.{Kind}
use Rattle.numbered_cells.specs.run_values.declared.value.Kind.TheVariants as sort
use Rattle.numbered_cells.specs.kept_cells.Cells.{Cell}
use Rattle.numbered_cells.specs.run_codes.Codes.{Place, InFrame, InPackages, Behind}
use Rattle.numbered_cells.specs.run_codes.Flat.{Flat, Given, Broken, and_then, most_cells, most_offsets, touched, InStack, InCell}
use Rattle.numbered_cells.specs.run_codes.Flat as flat
use Rattle.handled_runs.specs.Slots.{Slots, live_spot}
use Rattle.handled_runs.specs.Slots as slots
use Rattle.numbered_cells.specs.slot_heap.Heaps.{words_at}
use Rattle.handled_runs.specs.Beside.{GotsAlike, handle_word, spot_renamed, Beside}
use Rattle.handled_runs.specs.Looks.{IsKept, LooksAt, IsClear}
use Rattle.handled_runs.proofs.Kept.{word_kept}
use Rattle.handled_runs.proofs.Gots.{gots_then, touched_gots}
use Rattle.handled_runs.proofs.Named.{long_renamed}
use Rattle.handled_runs.proofs.Words.{word_gots, index_gots, indexes_gots}

module _ (handles : List ℕ) (kinds taken : List Kind) (m : Flat) (s : Slots) (beside : Beside handles kinds taken m s) where
  pub as_long : length s.stack ≡ length m.stack
  as_long = ap length beside.stack ∙ long_renamed handles kinds m.stack beside.known

module _ (handles : List ℕ) (kinds taken : List Kind) (m : Flat) (s : Slots) (beside : Beside handles kinds taken m s) (clear : IsClear kinds taken m) where
  stack_gots : (n i : ℕ) → n ≡ i → GotsAlike (λ q r. r ≡ spot_renamed handles q) (flat.stack_spot m i) (slots.stack_spot s n)
  stack_gots n i same =
      subst (λ j. GotsAlike (λ q r. r ≡ spot_renamed handles q) (flat.stack_spot m i) (slots.stack_spot s j)) (sym same)
      (subst (λ l. GotsAlike (λ q r. r ≡ spot_renamed handles q) (flat.stack_spot m i) (if nat_le i l then Given (InStack i) else Broken)) (sym (as_long handles kinds taken m s beside)) (by (nat_le i (length m.stack))))
    where
      by : (b : Bool) → GotsAlike (λ q r. r ≡ spot_renamed handles q) (if b then Given (InStack i) else Broken) (if b then Given (InStack i) else Broken)
      by true = refl
      by false = tt

  cell_gots : (o : ℕ) (z : ℤ) → IsKept z → GotsAlike (λ q r. r ≡ spot_renamed handles q) (flat.cell_spot m o (unsigned_abs z)) (slots.cell_spot s o (unsigned_abs (handle_word handles z)))
  cell_gots o (pos zero) kept = refl
  cell_gots o (pos (suc n)) kept = by (nat_lt n most_cells) (nat_lt o most_offsets)
    where
      by : (a b : Bool)
          → GotsAlike (λ q r. r ≡ spot_renamed handles q) (if a && b then touched (slice_get m.cells n) (λ (c : Cell). Given (InCell n o)) else Broken)
          (if b then live_spot (words_at s.heap.cells (get_or handles n 0)) (get_or handles n 0) o else Broken)
      by true true =
          touched_gots (λ q r. r ≡ spot_renamed handles q) (slice_get m.cells n) (λ (c : Cell). Given (InCell n o)) (live_spot (words_at s.heap.cells (get_or handles n 0)) (get_or handles n 0) o)
          (λ ws there. subst (λ us. GotsAlike (λ q r. r ≡ spot_renamed handles q) (Given (InCell n o)) (live_spot us (get_or handles n 0) o)) (sym (beside.cells.live n ws there)) refl)
      by true false = tt
      by false b = tt
  cell_gots o (negsuc n) kept = absurd kept

  -- The law.
  pub spot_gots : (p : Place) → LooksAt m kinds taken p → GotsAlike (λ q r. r ≡ spot_renamed handles q) (flat.spot m p) (slots.spot s p)
  spot_gots (InFrame at i) looks =
      gots_then (λ a b. b ≡ a) (λ q r. r ≡ spot_renamed handles q) (flat.word m i) (slots.word s i) (λ o. flat.stack_spot m (m.base + at + unsigned_abs o)) (λ o. slots.stack_spot s (s.base + at + unsigned_abs o))
      (index_gots handles kinds taken m s beside clear i looks)
      (λ o v e same. stack_gots (s.base + at + unsigned_abs v) (m.base + at + unsigned_abs o) (ap (λ b. b + at + unsigned_abs v) beside.base ∙ ap (λ x. m.base + at + unsigned_abs x) same))
  spot_gots (InPackages at i) looks =
      gots_then (λ a b. b ≡ a) (λ q r. r ≡ spot_renamed handles q) (flat.word m i) (slots.word s i) (λ o. flat.stack_spot m (at + unsigned_abs o)) (λ o. slots.stack_spot s (at + unsigned_abs o))
      (index_gots handles kinds taken m s beside clear i looks) (λ o v e same. stack_gots (at + unsigned_abs v) (at + unsigned_abs o) (ap (λ x. at + unsigned_abs x) same))
  spot_gots (Behind p at i) looks =
      gots_then (λ a b. b ≡ a) (λ q r. r ≡ spot_renamed handles q) (flat.indexes m p) (slots.indexes s p)
      (λ x. and_then (flat.word m i) (λ o. and_then (flat.word m p) (λ w. flat.cell_spot m (at + unsigned_abs o) (unsigned_abs w))))
      (λ x. and_then (slots.word s i) (λ o. and_then (slots.word s p) (λ w. slots.cell_spot s (at + unsigned_abs o) (unsigned_abs w))))
      (indexes_gots handles kinds taken m s beside clear p sort.Access looks.1)
      (λ x y at_indexes first.
      gots_then (λ a b. b ≡ a) (λ q r. r ≡ spot_renamed handles q) (flat.word m i) (slots.word s i)
      (λ o. and_then (flat.word m p) (λ w. flat.cell_spot m (at + unsigned_abs o) (unsigned_abs w))) (λ o. and_then (slots.word s p) (λ w. slots.cell_spot s (at + unsigned_abs o) (unsigned_abs w)))
      (index_gots handles kinds taken m s beside clear i looks.0)
      (λ o v at_index second.
      gots_then (λ a b. b ≡ handle_word handles a) (λ q r. r ≡ spot_renamed handles q) (flat.word m p) (slots.word s p) (λ w. flat.cell_spot m (at + unsigned_abs o) (unsigned_abs w)) (λ w. slots.cell_spot s (at + unsigned_abs v) (unsigned_abs w))
      (word_gots handles kinds taken m s beside clear p sort.Access looks.1)
      (λ z w at_word third.
      subst (λ i. GotsAlike (λ q r. r ≡ spot_renamed handles q) (flat.cell_spot m (at + unsigned_abs o) (unsigned_abs z)) (slots.cell_spot s (at + unsigned_abs i) (unsigned_abs w))) (sym second)
      (subst (λ i. GotsAlike (λ q r. r ≡ spot_renamed handles q) (flat.cell_spot m (at + unsigned_abs o) (unsigned_abs z)) (slots.cell_spot s (at + unsigned_abs o) (unsigned_abs i))) (sym third)
      (cell_gots (at + unsigned_abs o) z (word_kept kinds taken m clear p z looks.1 at_word))))))
