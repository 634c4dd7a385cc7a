-- Which declaration completes which (docs/LANGUAGE.md, "Names"; Ada 2012, 3.11.1, 3.10.1, 7.3 and
-- 6.3).
use Rattle.std.specs.Prelude.{ℕ, Bool, true, false, not, ◌&&◌, ◌||◌, if◌then◌else◌, List, Option, None, Some}
use Rattle.std.specs.Option.{option_map}
use Rattle.name_events.specs.declared.declaration.DeclarationForm.{DeclarationForm}
use Rattle.name_events.specs.declared.declaration.DeclarationForm.TheVariants as form
use Rattle.name_events.specs.declared.declaration.RegionPart.{RegionPart}
use Rattle.name_events.specs.declared.declaration.RegionPart.TheVariants as part
use Rattle.name_events.specs.declared.declaration.Declaration.{Declaration}
use Rattle.name_events.specs.Declarations.{Name, Entry, same_part, has_number, first_where, is_named}
use Rattle.name_events.specs.Known.{Known, here, part_here}

-- Whether what is declared so asks for a completion: an incomplete type, a private type and a
-- subprogram without its body do.
abbrev pub awaits : DeclarationForm → Bool
awaits form.IncompleteType = true
awaits form.PrivateType = true
awaits form.SubprogramDeclaration = true
awaits _ = false

-- Whether a declaration of the second form in the second part completes one of the first form in
-- the first part: an incomplete type in the same part, a private type of the visible part in the
-- private part, a subprogram anywhere, by a procedure or a function.
abbrev pub completes_form : DeclarationForm → RegionPart → DeclarationForm → RegionPart → Bool
completes_form form.IncompleteType old form.FullType new = same_part old new
completes_form form.PrivateType old form.FullType new = same_part old part.Visible && same_part new part.Private
completes_form form.SubprogramDeclaration old form.ProcedureBody new = true
completes_form form.SubprogramDeclaration old form.FunctionBody new = true
completes_form _ _ _ _ = false

-- A second body of a package completes nothing, and neither does one without a specification.
abbrev pub may_complete : Known → Bool
may_complete now = not (same_part (part_here now) part.Body) || now.in_own_body

abbrev pub if_completes : Known → DeclarationForm → Option Declaration → Option Declaration
if_completes now new None = None
if_completes now new (Some d) =
    if may_complete now && (completes_form d.form d.part new (part_here now) && not (has_number d.number now.completed))
    then Some d else None

-- The first declaration of a name in a region that asks for a completion.
abbrev pub awaiting : List Entry → ℕ → Name → Option Declaration
awaiting entries region w = option_map (λ entry. entry.1) (first_where (λ entry. is_named region w entry && awaits entry.1.form) entries)

-- The declaration that one of this form and name completes here. It is no second one, and has no
-- entry of its own.
abbrev pub completed_by : Known → DeclarationForm → Name → Option Declaration
completed_by now new w = if_completes now new (awaiting now.declared (here now) w)
