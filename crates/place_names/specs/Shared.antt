-- Access parts that many share.
use Rattle.std.specs.Prelude.{List, [], Option, Some, None}

-- What is shared, where anything is.
abbrev pub shared : {S X : Type 0} → (S → List X) → Option S → List X
shared items None = []
shared items (Some s) = items s
