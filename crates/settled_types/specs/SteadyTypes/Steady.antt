-- Where a loop is gathered, the table is like a given one, and it is known in which private part or body this is.
use Rattle.std.specs.Prelude.{◌≡◌, ℕ, List, [], ◌∷◌, Option, Some, None}
use Rattle.machine.specs.resolved_tree.Trees.{More, Code, SubBody, Package, PackageBody, If, Branch, Case, When, Loop, While, For, Block}
use Rattle.machine.specs.type_definitions.declared.table.Entry.TheVariants as entry
use Rattle.machine.specs.type_definitions.declared.table.Kind.TheVariants as kind
use Rattle.machine.specs.type_definitions.Types.{Table}
use Rattle.machine.specs.type_definitions.Names.{Context}
use Rattle.machine.specs.type_definitions.Gathered.{gather, with_entry, with_body_front, plain_object, parameter_type, in_subprogram, in_visible, in_hidden, declared_number}
use Rattle.settled_types.specs.SteadyTypes.Alike.{AreAlike}

-- What a body stands in, what the visible part of a package stands in, and what the statements of a loop do.
abbrev pub in_body : Code → Context → Context
in_body front c = in_subprogram front (with_body_front front c)

abbrev pub in_package : Code → Context → Context
in_package d c = in_visible (declared_number d) (with_entry (declared_number d) entry.Package c)

abbrev pub in_loop : Code → Code → Context → Context
in_loop d range c = with_entry (declared_number d) (entry.Object (plain_object (parameter_type c range) kind.Parameter)) c

unfoldable pub IsSteady : Table → Option ℕ → Code → Context → Type 0
IsSteady table within (SubBody front items stmts end) c =
    IsSteady table within items (in_body front c) × IsSteady table within stmts (gather items (in_body front c))
IsSteady table within (Package d visible hidden) c =
    IsSteady table within visible (in_package d c)
    × IsSteady table (Some (declared_number d)) hidden (in_hidden (declared_number d) (gather visible (in_package d c)))
IsSteady table within (PackageBody d parts) c = IsSteady table (Some (declared_number d)) parts (in_hidden (declared_number d) c)
IsSteady table within (If p branches otherwise) c = IsSteady table within branches c × IsSteady table within otherwise (gather branches c)
IsSteady table within (Branch p e stmts) c = IsSteady table within stmts c
IsSteady table within (Case p e whens) c = IsSteady table within whens c
IsSteady table within (When choices stmts) c = IsSteady table within stmts c
IsSteady table within (Loop p stmts) c = IsSteady table within stmts c
IsSteady table within (While p e stmts) c = IsSteady table within stmts c
IsSteady table within (For p d reversed range stmts) c =
    (AreAlike table c.known.table × (c.within ≡ within)) × IsSteady table within stmts (in_loop d range c)
IsSteady table within (Block p items stmts end) c = IsSteady table within items c × IsSteady table within stmts (gather items c)
IsSteady table within (More a rest) c = IsSteady table within a c × IsSteady table within rest (gather a c)
IsSteady table within code c = Unit {0}

-- So it is in units, one after the other.
abbrev pub AreSteady : Table → List Code → Context → Type 0
AreSteady table [] c = Unit {0}
AreSteady table (u ∷ rest) c = IsSteady table None u c × AreSteady table rest (gather u c)
