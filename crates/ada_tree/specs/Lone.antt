-- What an expression or a name is where it is shorter than its type allows: a name alone, a dotted
-- name, an identifier, or a name with "'" "range" at its end. And the reverse: the trees that these
-- are.
use Rattle.std.specs.Prelude.{List, [], ◌∷◌, ◌++◌, map, Option, Some, None, Result, option_map, ok_or}
use Rattle.spark_base.specs.declared.position.Pos.{Pos}
use Rattle.ada_tree.specs.declared.identifier.Identifier.{Identifier}
use Rattle.ada_tree.specs.declared.identifier.Dotted.{Dotted}
use Rattle.ada_tree.specs.declared.identifier.NextPart.{NextPart}
use Rattle.ada_tree.specs.declared.identifier.NextPart.TheVariants as next_part
use Rattle.ada_tree.specs.declared.expression.Expr.{Expr, Row_of-Rel, end_of-Rel, more_of-Rel}
use Rattle.ada_tree.specs.declared.expression.Expr.TheVariants as expr
use Rattle.ada_tree.specs.declared.expression.Rel.{Rel}
use Rattle.ada_tree.specs.declared.expression.Rel.TheVariants as rel
use Rattle.ada_tree.specs.declared.expression.Sum.{Sum, items-the_row-NextTerm}
use Rattle.ada_tree.specs.declared.expression.Sum.TheVariants as sum
use Rattle.ada_tree.specs.declared.expression.Term.{Term, items-the_row-NextFactor}
use Rattle.ada_tree.specs.declared.expression.Term.TheVariants as term
use Rattle.ada_tree.specs.declared.expression.Factor.{Factor}
use Rattle.ada_tree.specs.declared.expression.Factor.TheVariants as factor
use Rattle.ada_tree.specs.declared.expression.Primary.{Primary, Row_of-Name, end_of-Name, more_of-Name}
use Rattle.ada_tree.specs.declared.expression.Primary.TheVariants as primary
use Rattle.ada_tree.specs.declared.expression.Name.{Name, items-the_row-Suffix}
use Rattle.ada_tree.specs.declared.expression.Name.TheVariants as name
use Rattle.ada_tree.specs.declared.expression.Suffix.{Suffix}
use Rattle.ada_tree.specs.declared.expression.Suffix.TheVariants as suffix
use Rattle.ada_tree.specs.Positions.{name_position}

-- What was found, where nothing follows it.
abbrev pub unfollowed : {A B : Type 0} → Option A → List B → Option A
unfollowed found [] = found
unfollowed found (_ ∷ _) = None

-- ---- an expression that is a name alone

unfoldable pub name_of_box : {n : _} → Row_of-Name n → Option Name
name_of_box end_of-Name = None
name_of_box (more_of-Name part rest) = Some part

unfoldable pub primary_name : Primary → Option Name
primary_name (primary.Named' pos _ part) = name_of_box part
primary_name _ = None

unfoldable pub factor_name : Factor → Option Name
factor_name (factor.LonePrimary pos operand) = primary_name operand
factor_name _ = None

unfoldable pub term_name : Term → Option Name
term_name (term.Product' pos first _ rest) = unfollowed (factor_name first) (items-the_row-NextFactor _ rest)

unfoldable pub sum_name : Sum → Option Name
sum_name (sum.Unsigned' pos first _ rest) = unfollowed (term_name first) (items-the_row-NextTerm _ rest)
sum_name _ = None

unfoldable pub rel_name : Rel → Option Name
rel_name (rel.LoneSum pos operand) = sum_name operand
rel_name _ = None

unfoldable pub rel_box_name : {n : _} → Row_of-Rel n → Option Name
rel_box_name end_of-Rel = None
rel_box_name (more_of-Rel part rest) = rel_name part

-- The name that an expression is, where it is a name alone: it has no operator and no parenthesis
-- around it.
unfoldable pub lone_name : Expr → Option Name
lone_name (expr.LoneRelation' pos _ relation) = rel_box_name relation
lone_name _ = None

-- The expression that a name is by itself.
unfoldable pub expr_of_name : Name → Expr
expr_of_name n =
    expr.LoneRelation (name_position n) (rel.LoneSum (name_position n) (sum.Unsigned (name_position n) (term.Product (name_position n)
    (factor.LonePrimary (name_position n) (primary.Named (name_position n) n)) []) []))

-- ---- a name that is dotted

unfoldable pub selected_part : Suffix → Option NextPart
selected_part (suffix.Selected pos selector) = Some (next_part.FurtherPart pos selector)
selected_part _ = None

abbrev pub part_before : Option NextPart → Option (List NextPart) → Option (List NextPart)
part_before None parts = None
part_before (Some part) parts = option_map (λ rest. part ∷ rest) parts

abbrev pub selected_parts : List Suffix → Option (List NextPart)
selected_parts [] = Some []
selected_parts (part ∷ rest) = part_before (selected_part part) (selected_parts rest)

-- The dotted name that a name is, where each of its suffixes is "." id.
unfoldable pub dotted_name : Name → Option Dotted
dotted_name (name.Prefixed' pos first _ rest) =
    option_map (λ parts. record { pos = pos; first = first; rest = parts }) (selected_parts (items-the_row-Suffix _ rest))

-- The dotted name, or else the name as it was.
abbrev pub dotted_or_name : Name → Result Dotted Name
dotted_or_name n = ok_or (dotted_name n) n

unfoldable pub suffix_of_part : NextPart → Suffix
suffix_of_part (next_part.FurtherPart pos id) = suffix.Selected pos id

-- The name that a dotted name is.
unfoldable pub name_of_dotted : Dotted → Name
name_of_dotted dotted = name.Prefixed dotted.pos dotted.first (map suffix_of_part dotted.rest)

-- ---- a name that is an identifier

-- The identifier that a name is, where it has no suffix.
unfoldable pub sole_identifier : Name → Option Identifier
sole_identifier (name.Prefixed' pos first _ rest) = unfollowed (Some first) (items-the_row-Suffix _ rest)

-- The name that an identifier is.
unfoldable pub name_of_identifier : Identifier → Name
name_of_identifier id = name.Prefixed id.pos id []

-- ---- a name with "'" "range" at its end

-- The positions of "'" and "range".
unfoldable pub range_positions : Suffix → Option (Pos × Pos)
range_positions (suffix.RangeAttribute pos range) = Some (pos, range)
range_positions _ = None

-- The suffixes in front of the last one, and the positions of that one, where it is "'" "range".
abbrev pub cut_range : List Suffix → Option (List Suffix × Pos × Pos)
cut_range [] = None
cut_range (part ∷ []) = option_map (λ positions. ([], positions.0, positions.1)) (range_positions part)
cut_range (part ∷ (next ∷ rest)) = option_map (λ cut. (part ∷ cut.0, cut.1, cut.2)) (cut_range (next ∷ rest))

-- The name in front of its last suffix, and the positions of that one, where it is "'" "range".
unfoldable pub range_prefix : Name → Option (Name × Pos × Pos)
range_prefix (name.Prefixed' pos first _ rest) =
    option_map (λ cut. (name.Prefixed pos first cut.0, cut.1, cut.2)) (cut_range (items-the_row-Suffix _ rest))

-- The name with "'" "range" after it.
unfoldable pub name_with_range : Name → Pos → Pos → Name
name_with_range (name.Prefixed' pos first _ rest) apostrophe range =
    name.Prefixed pos first (items-the_row-Suffix _ rest ++ (suffix.RangeAttribute apostrophe range ∷ []))
