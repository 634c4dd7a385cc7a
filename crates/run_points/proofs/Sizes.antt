-- The sizes of cells are the machine's.
use Rattle.std.proofs.Common.{◌≡◌, refl, sym, ap, ◌∙◌, ℕ, suc, ◌<◌, arith, List, [], ◌∷◌, map, length, get_or, slice_get, Some}
use Rattle.flow_paths.specs.Objects.{Typing}
use Rattle.machine.specs.Memory.{Memory, HeapCell, no_cell, cell_words}
use Rattle.kept_cells.specs.Cells.{Cell}
use Rattle.run_codes.specs.Flat.{Flat}
use Rattle.run_codes.specs.Related.{Lying, Related}

abbrev HasSize : List HeapCell → List Cell → ℕ → Type 0
HasSize cs ks n = (k : Cell) × (slice_get ks n ≡ Some k) × (length (get_or cs n no_cell).slots ≡ length k.words)

each_size : (cs : List HeapCell) (ks : List Cell) → length ks ≡ length cs → ((n : ℕ) → n < length cs → HasSize cs ks n) → map (λ (k : Cell). length k.words) ks ≡ map cell_words cs
each_size [] [] same each = refl
each_size [] (k ∷ ks) same each = absurd (omega (arith, same))
each_size (c ∷ cs) [] same each = absurd (omega (arith, same))
each_size (c ∷ cs) (k ∷ ks) same each =
    let first = each 0 (omega arith) in
    let here : k ≡ first.0 = (let one = first.1 in cc) in
    ap (λ (x : Cell). length x.words ∷ map (λ (k : Cell). length k.words) ks) here
    ∙ (ap (λ n. n ∷ map (λ (k : Cell). length k.words) ks) (sym first.2)
    ∙ ap (λ rest. cell_words c ∷ rest) (each_size cs ks (omega (arith, same)) (λ n less. each (suc n) (omega (arith, less)))))

pub sizes_same : (s : Typing) (all : List Lying) (m : Memory) (f : Flat) → Related s all m f → map (λ (k : Cell). length k.words) f.cells ≡ map cell_words m.cells
sizes_same s all m f is = each_size m.cells f.cells is.counted.made (λ n less. let at = is.cells n less in (at.0, at.1, at.2.size))
