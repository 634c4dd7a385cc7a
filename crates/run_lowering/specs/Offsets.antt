-- Offsets that are known of objects, and of values that a point takes.
use Rattle.std.specs.Prelude.{◌≡◌, ◌<◌, ℕ, List, map, length, sum, take, get_or, Option, Some, None}
use Rattle.type_definitions.specs.Types.{Table, words}
use Rattle.flow_paths.specs.Objects.{Typing}
use Rattle.run_codes.specs.Lowered as lowered
use Rattle.run_codes.specs.Lowered.{offset_from}
use Rattle.run_lowering.specs.declared.site.Kept.{Kept}

abbrev pub kept_in : Kept → lowered.Kept
kept_in k = record { object = k.object; loops = k.loops }

-- The offsets that are known of objects are theirs.
abbrev pub AreOffsets : Typing → List lowered.Kept → List (Option ℕ) → Type 0
AreOffsets s kept offsets = (x at : ℕ) → get_or offsets x None ≡ Some at → offset_from s 0 kept x ≡ Some at

-- How many words stand before each value that is taken.
abbrev pub AreStarts : Table → List ℕ → List ℕ → Type 0
AreStarts table takes starts = (k : ℕ) → k < length starts → get_or starts k 0 ≡ sum (map (words table) (take k takes))
