-- Declarations as later stages see them.
use Rattle.std.specs.Prelude.{[]}
use Rattle.name_events.specs.declared.declaration.Declaration.{Declaration}
use Rattle.name_events.specs.declared.declaration.DeclInfo.{DeclInfo}
use Rattle.name_events.specs.Denotes.{info_of}

-- Their names play no part.
abbrev pub info : Declaration → DeclInfo
info d = info_of ([], d)
