-- The files read so far.
use Rattle.std.proofs.Common.{ℕ, List, ◌++◌}
use Rattle.answered_runs.specs.tool_answers.Reading.{Sources, Texts, TooLarge, Missing}

-- the texts of the files before
abbrev pub with_texts : List (List ℕ) → Sources → Sources
with_texts before (Texts texts) = Texts (before ++ texts)
with_texts before (TooLarge file) = TooLarge file
with_texts before Missing = Missing
