-- Declarations, and how one is looked for among them (docs/LANGUAGE.md, "Names"; Ada 2012, 8.1 to
-- 8.3).
--
-- A region is a list of declarations. All regions stand in one list, in which each declaration has
-- the number of its region.
use Rattle.std.specs.Prelude.{ℕ, Bool, true, false, ◌&&◌, if◌then◌else◌, nat_eq, List, [], ◌∷◌, ◌++◌, fold, Option, None, Some}
use Rattle.std.specs.List.{list_any}
use Rattle.std.specs.Option.{option_map}
use Rattle.std.specs.Cmp.Lexicographic.{pointwise}
use Rattle.name_events.specs.declared.declaration.DeclarationForm.{DeclarationForm}
use Rattle.name_events.specs.declared.declaration.DeclarationForm.TheVariants as form
use Rattle.name_events.specs.declared.declaration.RegionPart.{RegionPart}
use Rattle.name_events.specs.declared.declaration.RegionPart.TheVariants as part
use Rattle.name_events.specs.declared.declaration.Declaration.{Declaration}
use Rattle.name_events.specs.declared.declaration.OpenRegion.{OpenRegion}

-- An identifier in lower case.
abbrev pub Name : Type 0
Name = List ℕ

abbrev pub same : Name → Name → Bool
same a b = pointwise nat_eq a b

abbrev pub has_name : Name → List Name → Bool
has_name w names = list_any (same w) names

abbrev pub has_number : ℕ → List ℕ → Bool
has_number n numbers = list_any (nat_eq n) numbers

-- The name, and the number, once.
abbrev pub added_name : List Name → Name → List Name
added_name names w = if has_name w names then names else names ++ w ∷ []

abbrev pub added_number : List ℕ → ℕ → List ℕ
added_number numbers n = if has_number n numbers then numbers else numbers ++ n ∷ []

-- A declaration with its name.
abbrev pub Entry : Type 0
Entry = Name × Declaration

-- ---- what a declaration is

abbrev pub same_part : RegionPart → RegionPart → Bool
same_part part.Visible part.Visible = true
same_part part.Private part.Private = true
same_part part.Body part.Body = true
same_part _ _ = false

abbrev pub is_visible : Declaration → Bool
is_visible d = same_part d.part part.Visible

abbrev pub is_package_form : DeclarationForm → Bool
is_package_form form.Package = true
is_package_form _ = false

abbrev pub is_package : Declaration → Bool
is_package d = is_package_form d.form

abbrev pub is_generic_form : DeclarationForm → Bool
is_generic_form form.Generic = true
is_generic_form _ = false

abbrev pub is_type_form : DeclarationForm → Bool
is_type_form form.IncompleteType = true
is_type_form form.PrivateType = true
is_type_form form.FullType = true
is_type_form form.Subtype = true
is_type_form _ = false

abbrev pub is_procedure_body : DeclarationForm → Bool
is_procedure_body form.ProcedureBody = true
is_procedure_body _ = false

abbrev pub is_body_form : DeclarationForm → Bool
is_body_form form.ProcedureBody = true
is_body_form form.FunctionBody = true
is_body_form _ = false

-- ---- search

-- The last one that passes the test.
abbrev pub last_of : {A : Type 0} → (A → Bool) → List A → Option A
last_of test xs = fold (λ found x. if test x then Some x else found) None xs

-- The first one that passes the test.
abbrev pub first_where : {A : Type 0} → (A → Bool) → List A → Option A
first_where test [] = None
first_where test (x ∷ rest) = if test x then Some x else first_where test rest

-- The first, where there is one, else the second.
abbrev pub or_else : {A : Type 0} → Option A → Option A → Option A
or_else None other = other
or_else (Some x) other = Some x

-- Whether it is a declaration of that name in that region.
abbrev pub is_named : ℕ → Name → Entry → Bool
is_named region w entry = nat_eq region entry.1.region && same w entry.0

-- The last declaration of a name in a region.
abbrev pub declared_in : List Entry → ℕ → Name → Option Declaration
declared_in entries region w = option_map (λ entry. entry.1) (last_of (is_named region w) entries)

-- A search for a name in a region.
abbrev pub Search : Type 0
Search = ℕ → Name → Option Declaration

-- What is found in the innermost of these regions that has the name.
abbrev pub innermost : Search → List OpenRegion → Name → Option Declaration
innermost find [] w = None
innermost find (inner ∷ rest) w = or_else (find inner.region w) (innermost find rest w)
