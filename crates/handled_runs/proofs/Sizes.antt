-- The sizes of the cells that were made stay what they are.
use Rattle.std.proofs.Common.{◌≡◌, refl, sym, ap, ◌∙◌, ℕ, zero, suc, ◌+◌, ◌≤◌, List, [], ◌∷◌, ◌++◌, length, slice_get, Some}
use Rattle.numbered_cells.specs.run_values.declared.value.Value.{Value}
use Rattle.numbered_cells.specs.kept_cells.Cells as numbered
use Rattle.numbered_cells.specs.kept_cells.Cells.{Cell}
use Rattle.numbered_cells.specs.run_codes.Flat.{spliced}
use Rattle.handled_runs.specs.Beside.{sizes_of}
use Rattle.handled_runs.specs.Marks.{ValuesUnmarked, CellsUnmarked}
use Rattle.handled_runs.proofs.Lists.{spliced_is, replaced_long}

pub sizes_changed : (f : Cell → Cell) (cells : List Cell) (n : ℕ) (c : Cell) → slice_get cells n ≡ Some c → length (f c).words ≡ length c.words → sizes_of (numbered.changed f cells n) ≡ sizes_of cells
sizes_changed f [] n c there same = refl
sizes_changed f (b ∷ cells) zero c there same =
    let one : b ≡ c = cc in ap (λ k. k ∷ sizes_of cells) (ap (λ (d : Cell). length (f d).words) one ∙ (same ∙ ap (λ (d : Cell). length d.words) (sym one)))
sizes_changed f (b ∷ cells) (suc n) c there same = ap (λ rest. length b.words ∷ rest) (sizes_changed f cells n c there same)

pub sizes_freed : (cells : List Cell) (n : ℕ) → sizes_of (numbered.released cells n) ≡ sizes_of cells
sizes_freed [] n = refl
sizes_freed (c ∷ cells) zero = refl
sizes_freed (c ∷ cells) (suc n) = ap (λ rest. length c.words ∷ rest) (sizes_freed cells n)

pub sizes_next : (cells : List Cell) (c : Cell) → sizes_of (cells ++ c ∷ []) ≡ sizes_of cells ++ length c.words ∷ []
sizes_next [] c = refl
sizes_next (b ∷ cells) c = ap (λ rest. length b.words ∷ rest) (sizes_next cells c)

pub spliced_long : (o : ℕ) (vs ws : List Value) → o + length vs ≤ length ws → length (spliced o vs ws) ≡ length ws
spliced_long o vs ws within = ap length (spliced_is o vs ws within) ∙ replaced_long o vs ws

values_long : (vs ws : List Value) → ValuesUnmarked vs ws → length vs ≡ length ws
values_long [] [] are = refl
values_long [] (w ∷ ws) are = absurd are
values_long (v ∷ vs) [] are = absurd are
values_long (v ∷ vs) (w ∷ ws) are = ap suc (values_long vs ws are.1)

pub sizes_unmarked : (cs ds : List Cell) → CellsUnmarked cs ds → sizes_of cs ≡ sizes_of ds
sizes_unmarked [] [] are = refl
sizes_unmarked [] (d ∷ ds) are = absurd are
sizes_unmarked (c ∷ cs) [] are = absurd are
sizes_unmarked (c ∷ cs) (d ∷ ds) are = ap (λ k. k ∷ sizes_of cs) (values_long c.words d.words are.1) ∙ ap (λ rest. length d.words ∷ rest) (sizes_unmarked cs ds are.2)
