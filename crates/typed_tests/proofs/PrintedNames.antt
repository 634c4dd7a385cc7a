-- How names of places are printed.
use Rattle.std.proofs.Common.{◌≡◌, List, [], ◌∷◌, refl, false, true}
use Rattle.std.specs.Prelude.{None, Some, codes, pos}
use Rattle.place_names.specs.declared.act.Mode.TheVariants as mode
use Rattle.place_names.specs.declared.selector.Sel.TheVariants.{Field, Elem, Deref}
use Rattle.type_definitions.specs.declared.table.Info.{Info}
use Rattle.type_definitions.specs.declared.table.Shape.{Shape}
use Rattle.type_definitions.specs.declared.table.Shape.TheVariants as shape
use Rattle.typed_tree.specs.declared.object.Object.{Object}
use Rattle.typed_tree.specs.declared.object.ObjectKind.TheVariants as kind
use Rattle.typed_tree.specs.Programs.{text_io}
use Rattle.typed_tree.specs.Printed.{printed}

abbrev info : Shape → Info
info s = record { shape = s; base = 0; parent = None; seen_in = None; completed = None; bounded = true }

-- Integer, a row of them, a cell, a list, and a subtype of the cell
abbrev table : List Info
table =
    info (shape.Whole (pos 0) (pos 9)) ∷ info (shape.Elements (pos 1) (pos 3) 0)
    ∷ info (shape.Fields (record { name = codes "Value"; of = 0 } ∷ record { name = codes "Cells"; of = 1 }
    ∷ record { name = codes "Next"; of = 3 } ∷ []))
    ∷ info (shape.Access 4 false true) ∷ info (shape.Same 2) ∷ []

abbrev objects : List Object
objects =
    text_io
    ∷ record { name = codes "L"; «package» = None; of = 3; kind = kind.Variable; mode = mode.In; scope = 1 }
    ∷ record { name = codes "Top"; «package» = Some (codes "Stacks"); of = 3; kind = kind.Variable; mode = mode.In; scope = 0 } ∷ []

whole_object : printed table objects (record { root = 1; sels = [] }) ≡ codes "L"
whole_object = refl

text_io_state : printed table objects (record { root = 0; sels = [] }) ≡ codes "Ada.Text_IO"
text_io_state = refl

way_through : printed table objects (record { root = 2; sels = Deref ∷ Field 2 ∷ Deref ∷ Field 1 ∷ Elem ∷ [] })
    ≡ codes "Stacks.Top.all.Next.all.Cells(?)"
way_through = refl
