-- What a call does to a sink.
use Rattle.std.specs.Prelude.{◌≡◌, ℕ, Bool, true, false, List, Option}
use Rattle.std.specs.Io.KnownBytes.{Appends}

-- A piece is written, or nothing is.
abbrev pub AppendsIf : Bool → Option (List ℕ) → Option (List ℕ) → List ℕ → Type 0
AppendsIf true old new piece = Appends old new piece
AppendsIf false old new piece = new ≡ old
