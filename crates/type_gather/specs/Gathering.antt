-- What a gathering stands for, in the words of typing, and the groups of code that it tells apart.
use Rattle.std.specs.Prelude.{Bool, true, false, not, ◌||◌}
use Rattle.resolved_tree.specs.Trees.{Code, Incomplete, Private, TypeDecl, Subtype, ConstrainedSubtype, Objects, Numbers, Instance, SubDecl, SubBody, Package, PackageBody}
use Rattle.type_definitions.specs.Names.{Context}
use Rattle.type_gather.specs.declared.gathering.Gathering.{Gathering}

-- What is known so far, and where the declarations stand.
abbrev pub context : Gathering → Context
context g = record {
  known = g.known;
  home = g.home;
  within = g.within;
  sub = g.sub;
  in_loop = false;
  starts = false;
}

-- A declaration of a type or a subtype.
abbrev pub declares_type : Code → Bool
declares_type (Incomplete d) = true
declares_type (Private d) = true
declares_type (TypeDecl d def end) = true
declares_type (Subtype d m) = true
declares_type (ConstrainedSubtype d m low high) = true
declares_type _ = false

-- A declaration of objects, of named numbers, or an instance.
abbrev pub declares_object : Code → Bool
declares_object (Objects ids constant i v) = true
declares_object (Numbers ids e) = true
declares_object (Instance d m args) = true
declares_object _ = false

-- A declaration or body of a subprogram or a package.
abbrev pub declares_unit : Code → Bool
declares_unit (SubDecl front) = true
declares_unit (SubBody front items stmts end) = true
declares_unit (Package d visible hidden) = true
declares_unit (PackageBody d parts) = true
declares_unit _ = false

-- A statement, a part of one, or a list.
abbrev pub declares_nothing : Code → Bool
declares_nothing code = not (declares_type code || declares_object code || declares_unit code)
