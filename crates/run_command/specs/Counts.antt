-- The counts of a run, and their line (docs/TOOL.md, "Lines").
use Rattle.std.specs.Prelude.{ℕ, Bool, List, [], ◌∷◌, ◌++◌, ◌==◌, not, map, filter, sum_by, codes, if◌then◌else◌}
use Rattle.std.specs.Fmt.{decimal}
use Rattle.machine.specs.Memory.{Peak}
use Rattle.machine.specs.Run.{Run}
use Rattle.numbered_cells.specs.Peaks.{peak_of}

-- The numbers of a list, each of them once.
abbrev pub each_once : List ℕ → List ℕ
each_once [] = []
each_once (n ∷ rest) = n ∷ filter (λ k. not (k == n)) (each_once rest)

-- The sizes that cells had.
abbrev pub sizes_of : List Peak → List ℕ
sizes_of peaks = each_once (map (λ (p : Peak). p.size) peaks)

-- The slots that a run needs: the sum over the sizes of the greatest counts of live cells.
abbrev pub slots_of : List Peak → ℕ
slots_of peaks = sum_by (λ n. peak_of n peaks) (sizes_of peaks)

-- steps S, made M, freed F, leaked K, slots W
abbrev pub cells_part : ℕ → ℕ → ℕ → List ℕ
cells_part steps made freed = codes "steps " ++ decimal steps ++ codes ", made " ++ decimal made ++ codes ", freed " ++ decimal freed

abbrev pub slots_part : ℕ → ℕ → List ℕ
slots_part leaked slots = codes ", leaked " ++ decimal leaked ++ codes ", slots " ++ decimal slots ++ 10 ∷ []

abbrev pub counts_line : ℕ → ℕ → ℕ → ℕ → ℕ → List ℕ
counts_line steps made freed leaked slots = cells_part steps made freed ++ slots_part leaked slots

-- That line, where it is asked for.
abbrev pub asked_line : Bool → ℕ → ℕ → ℕ → ℕ → ℕ → List ℕ
asked_line stats steps made freed leaked slots = if stats then counts_line steps made freed leaked slots else []

abbrev pub stats_line : Bool → Run → List ℕ
stats_line stats r = asked_line stats r.steps r.made r.freed r.leaked (slots_of r.peaks)
