-- The declarations of the language itself (docs/LANGUAGE.md, "Names"; Ada 2012, A.1, A.10,
-- 13.11.2). Each stands at the beginning of the first file.
use Rattle.std.specs.Prelude.{ℕ, List, [], ◌∷◌, codes}
use Rattle.spark_base.specs.declared.position.Pos.{Pos}
use Rattle.name_events.specs.declared.declaration.DeclarationForm.{DeclarationForm}
use Rattle.name_events.specs.declared.declaration.DeclarationForm.TheVariants as form
use Rattle.name_events.specs.declared.declaration.RegionPart.TheVariants as part
use Rattle.name_events.specs.Declarations.{Name, Entry}

abbrev pub first_position : Pos
first_position = record { file = 0; line = 1; column = 1 }

-- A declaration with its number, what it is, its region, and its own region.
abbrev pub predefined_entry : ℕ → DeclarationForm → ℕ → ℕ → Name → Entry
predefined_entry number what region own_region w = (
  w,
  record {
    number = number;
    pos = first_position;
    form = what;
    region = region;
    part = part.Visible;
    own_region = own_region;
  },
)

-- The regions 1, 2 and 3 are those of Ada, Text_IO and Integer_Text_IO.
abbrev pub predefined_entries : List Entry
predefined_entries =
    predefined_entry 0 form.FullType 0 0 (codes "integer")
    ∷ (predefined_entry 1 form.FullType 0 0 (codes "natural")
    ∷ (predefined_entry 2 form.FullType 0 0 (codes "positive")
    ∷ (predefined_entry 3 form.FullType 0 0 (codes "boolean")
    ∷ (predefined_entry 4 form.Literal 0 0 (codes "false")
    ∷ (predefined_entry 5 form.Literal 0 0 (codes "true")
    ∷ (predefined_entry 6 form.Package 0 1 (codes "ada")
    ∷ (predefined_entry 7 form.Package 1 2 (codes "text_io")
    ∷ (predefined_entry 8 form.ProcedureBody 2 0 (codes "put")
    ∷ (predefined_entry 9 form.ProcedureBody 2 0 (codes "put_line")
    ∷ (predefined_entry 10 form.ProcedureBody 2 0 (codes "new_line")
    ∷ (predefined_entry 11 form.FunctionBody 2 0 (codes "end_of_file")
    ∷ (predefined_entry 12 form.Package 1 3 (codes "integer_text_io")
    ∷ (predefined_entry 13 form.ProcedureBody 3 0 (codes "get")
    ∷ (predefined_entry 14 form.Generic 1 0 (codes "unchecked_deallocation")
    ∷ []))))))))))))))

-- How many these are: the number of the first declaration of the source.
abbrev pub predefined_count : ℕ
predefined_count = 15

-- The number of the first region of the source.
abbrev pub predefined_regions : ℕ
predefined_regions = 4
