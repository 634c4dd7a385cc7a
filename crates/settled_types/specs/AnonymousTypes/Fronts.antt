-- The fronts of subprograms in code.
use Rattle.std.specs.Prelude.{◌≡◌, []}
use Rattle.machine.specs.resolved_tree.Trees.{More, Code, SubDecl, SubBody, Package, PackageBody, If, Branch, Case, When, Loop, While, For, Block}
use Rattle.machine.specs.type_definitions.declared.table.Known.{Known}
use Rattle.machine.specs.type_definitions.Names.{Context}
use Rattle.machine.specs.type_definitions.Declarations.{front_faults, body_faults}

-- Something holds of the front of each declaration, and something of that of each body.
unfoldable pub AllFronts : (Code → Type 0) → (Code → Type 0) → Code → Type 0
AllFronts declared body (SubDecl front) = declared front
AllFronts declared body (SubBody front items stmts end) = body front × AllFronts declared body items × AllFronts declared body stmts
AllFronts declared body (Package d visible hidden) = AllFronts declared body visible × AllFronts declared body hidden
AllFronts declared body (PackageBody d parts) = AllFronts declared body parts
AllFronts declared body (If p branches otherwise) = AllFronts declared body branches × AllFronts declared body otherwise
AllFronts declared body (Branch p e stmts) = AllFronts declared body stmts
AllFronts declared body (Case p e whens) = AllFronts declared body whens
AllFronts declared body (When choices stmts) = AllFronts declared body stmts
AllFronts declared body (Loop p stmts) = AllFronts declared body stmts
AllFronts declared body (While p e stmts) = AllFronts declared body stmts
AllFronts declared body (For p d reversed range stmts) = AllFronts declared body stmts
AllFronts declared body (Block p items stmts end) = AllFronts declared body items × AllFronts declared body stmts
AllFronts declared body (More a rest) = AllFronts declared body a × AllFronts declared body rest
AllFronts declared body code = Unit {0}

-- A front that breaks no sentence, by what is known.
abbrev pub IsFrontFaultless : Known → Code → Type 0
IsFrontFaultless known front = (c : Context) × (c.known ≡ known) × (front_faults c front ≡ [])

-- The front of a body is that of its declaration, too.
abbrev pub IsBodyFaultless : Known → Code → Type 0
IsBodyFaultless known front = (c : Context) × (c.known ≡ known) × (body_faults c front ≡ [])
