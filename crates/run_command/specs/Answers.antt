-- What a command writes and answers (docs/TOOL.md, "Order of work").
use Rattle.std.specs.Prelude.{◌≡◌, ℕ, List, Option}
use Rattle.std.specs.Io.KnownBytes.{Appends}
use Rattle.spark_base.specs.Outside.{AppendsPrefix}

-- The bytes for both outputs, and the status.
pub record Answer : Type 0 where
  pub out : List ℕ
  pub err : List ℕ
  pub status : ℕ

-- Both streams got these bytes, and this status was answered.
abbrev pub Tells : Answer → Option (List ℕ) → Option (List ℕ) → Option (List ℕ) → Option (List ℕ) → ℕ → Type 0
Tells answer out new_out err new_err status = (status ≡ answer.status) × Appends out new_out answer.out × Appends err new_err answer.err

-- Both streams got some front of the bytes of an answer.
abbrev pub TellsFront : Answer → Option (List ℕ) → Option (List ℕ) → Option (List ℕ) → Option (List ℕ) → Type 0
TellsFront answer out new_out err new_err = AppendsPrefix out new_out answer.out × AppendsPrefix err new_err answer.err

-- Some bytes were added after what a stream held.
abbrev pub Grows : Option (List ℕ) → Option (List ℕ) → Type 0
Grows old new = (piece : List ℕ) × Appends old new piece
