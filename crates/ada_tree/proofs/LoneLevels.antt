-- What a lone expression and a short name are, of each form, with boxes as what they hold and lists
-- as lists.
use Rattle.std.proofs.Common.{◌≡◌, refl, sym, ap, ◌∙◌, true, false, List, [], ◌∷◌, ◌++◌}
use Rattle.std.proofs.lemmas.Bool.{false≢true}
use Rattle.std.specs.Prelude.{Option, Some, None, Ok, Err, is_some, option_map, ok_or, filter_map}
use Rattle.std.specs.List.{cons_option}
use denote.Hole.Carrier.{hidden}
use Rattle.spark_base.specs.declared.position.Pos.{Pos}
use Rattle.ada_tree.specs.declared.operator.Sign.{Sign}
use Rattle.ada_tree.specs.declared.operator.RelationalOperator.{RelationalOperator}
use Rattle.ada_tree.specs.declared.identifier.Identifier.{Identifier}
use Rattle.ada_tree.specs.declared.identifier.NextPart.{NextPart}
use Rattle.ada_tree.specs.declared.identifier.NextPart.TheVariants as next_part
use Rattle.ada_tree.specs.declared.expression.Aggregate.TheBlock.{shape-the_row-Rel-3, hidden-the_row-Rel-3, shape-the_row-Name-7, hidden-the_row-Name-7}
use Rattle.ada_tree.specs.declared.expression.Expr.{Expr}
use Rattle.ada_tree.specs.declared.expression.Expr.TheVariants as expr
use Rattle.ada_tree.specs.declared.expression.Rel.{Rel}
use Rattle.ada_tree.specs.declared.expression.Rel.TheVariants as rel
use Rattle.ada_tree.specs.declared.expression.Sum.{Sum, items_hidden-the_row-NextTerm-10}
use Rattle.ada_tree.specs.declared.expression.Sum.TheVariants as sum
use Rattle.ada_tree.specs.declared.expression.NextTerm.{NextTerm}
use Rattle.ada_tree.specs.declared.expression.Term.{Term, items_hidden-the_row-NextFactor-11}
use Rattle.ada_tree.specs.declared.expression.Term.TheVariants as term
use Rattle.ada_tree.specs.declared.expression.NextFactor.{NextFactor}
use Rattle.ada_tree.specs.declared.expression.Factor.{Factor}
use Rattle.ada_tree.specs.declared.expression.Factor.TheVariants as factor
use Rattle.ada_tree.specs.declared.expression.Primary.{Primary}
use Rattle.ada_tree.specs.declared.expression.Primary.TheVariants as primary
use Rattle.ada_tree.specs.declared.expression.Name.{Name, items_hidden-the_row-Suffix-6}
use Rattle.ada_tree.specs.declared.expression.Name.TheVariants as name
use Rattle.ada_tree.specs.declared.expression.Suffix.{Suffix}
use Rattle.ada_tree.specs.declared.expression.Suffix.TheVariants as suffix
use Rattle.ada_tree.specs.Lone.{unfollowed, name_of_box, primary_name, factor_name, term_name, sum_name, rel_name, rel_box_name, lone_name, selected_part, part_before, selected_parts, dotted_name, dotted_or_name, sole_identifier, range_positions, cut_range, range_prefix, name_with_range}
use Rattle.ada_tree.proofs.Forms.{expr_form, primary_form, suffix_form}

pub primary_name-Named : (pos : Pos) (n : Name) → primary_name (primary.Named pos n) ≡ Some n
unfolding primary_name name_of_box hidden-the_row-Name-7 shape-the_row-Name-7 hidden
primary_name-Named pos n = refl

pub factor_name-LonePrimary : (pos : Pos) (operand : Primary) → factor_name (factor.LonePrimary pos operand) ≡ primary_name operand
unfolding factor_name
factor_name-LonePrimary pos operand = refl

pub factor_name-Abs : (pos : Pos) (operand : Primary) → factor_name (factor.Abs pos operand) ≡ None
unfolding factor_name
factor_name-Abs pos operand = refl

pub factor_name-Not : (pos : Pos) (operand : Primary) → factor_name (factor.Not pos operand) ≡ None
unfolding factor_name
factor_name-Not pos operand = refl

pub term_name-Product : (pos : Pos) (first : Factor) (rest : List NextFactor)
    → term_name (term.Product pos first rest) ≡ unfollowed (factor_name first) rest
unfolding term_name
term_name-Product pos first rest = ap (unfollowed (factor_name first)) (items_hidden-the_row-NextFactor-11 rest)

pub sum_name-Unsigned : (pos : Pos) (first : Term) (rest : List NextTerm)
    → sum_name (sum.Unsigned pos first rest) ≡ unfollowed (term_name first) rest
unfolding sum_name
sum_name-Unsigned pos first rest = ap (unfollowed (term_name first)) (items_hidden-the_row-NextTerm-10 rest)

pub sum_name-Signed : (pos : Pos) (sign : Sign) (first : Term) (rest : List NextTerm)
    → sum_name (sum.Signed pos sign first rest) ≡ None
unfolding sum_name
sum_name-Signed pos sign first rest = refl

pub rel_name-LoneSum : (pos : Pos) (operand : Sum) → rel_name (rel.LoneSum pos operand) ≡ sum_name operand
unfolding rel_name
rel_name-LoneSum pos operand = refl

pub rel_name-Compared : (pos : Pos) (left : Sum) (operator : RelationalOperator) (operator_pos : Pos) (right : Sum)
    → rel_name (rel.Compared pos left operator operator_pos right) ≡ None
unfolding rel_name
rel_name-Compared pos left operator operator_pos right = refl

pub lone_name-LoneRelation : (pos : Pos) (relation : Rel) → lone_name (expr.LoneRelation pos relation) ≡ rel_name relation
unfolding lone_name rel_box_name hidden-the_row-Rel-3 shape-the_row-Rel-3 hidden
lone_name-LoneRelation pos relation = refl

pub dotted_name-Prefixed : (pos : Pos) (first : Identifier) (rest : List Suffix)
    → dotted_name (name.Prefixed pos first rest)
    ≡ option_map (λ parts. record { pos = pos; first = first; rest = parts }) (selected_parts rest)
unfolding dotted_name
dotted_name-Prefixed pos first rest = ap (λ parts. option_map (λ these. record { pos = pos; first = first; rest = these })
    (selected_parts parts)) (items_hidden-the_row-Suffix-6 rest)

pub sole_identifier-Prefixed : (pos : Pos) (first : Identifier) (rest : List Suffix)
    → sole_identifier (name.Prefixed pos first rest) ≡ unfollowed (Some first) rest
unfolding sole_identifier
sole_identifier-Prefixed pos first rest = ap (unfollowed (Some first)) (items_hidden-the_row-Suffix-6 rest)

pub range_prefix-Prefixed : (pos : Pos) (first : Identifier) (rest : List Suffix)
    → range_prefix (name.Prefixed pos first rest)
    ≡ option_map (λ cut. (name.Prefixed pos first cut.0, cut.1, cut.2)) (cut_range rest)
unfolding range_prefix
range_prefix-Prefixed pos first rest = ap (λ parts. option_map (λ cut. (name.Prefixed pos first cut.0, cut.1, cut.2))
    (cut_range parts)) (items_hidden-the_row-Suffix-6 rest)

pub name_with_range-Prefixed : (pos : Pos) (first : Identifier) (rest : List Suffix) (apostrophe range : Pos)
    → name_with_range (name.Prefixed pos first rest) apostrophe range
    ≡ name.Prefixed pos first (rest ++ (suffix.RangeAttribute apostrophe range ∷ []))
unfolding name_with_range
name_with_range-Prefixed pos first rest apostrophe range = ap (λ parts. name.Prefixed pos first
    (parts ++ (suffix.RangeAttribute apostrophe range ∷ []))) (items_hidden-the_row-Suffix-6 rest)

pub range_positions-RangeAttribute : (apostrophe range : Pos)
    → range_positions (suffix.RangeAttribute apostrophe range) ≡ Some (apostrophe, range)
unfolding range_positions
range_positions-RangeAttribute apostrophe range = refl

pub selected_part-Selected : (pos : Pos) (selector : Identifier)
    → selected_part (suffix.Selected pos selector) ≡ Some (next_part.FurtherPart pos selector)
unfolding selected_part
selected_part-Selected pos selector = refl

-- ---- where it is of no such form

pub lone_name-other : (tree : Expr) → ((pos : Pos) (relation : Rel) → tree ≡ expr.LoneRelation pos relation → ⊥) → lone_name tree ≡ None
unfolding lone_name
lone_name-other = expr_form (λ t. ((pos : Pos) (relation : Rel) → t ≡ expr.LoneRelation pos relation → ⊥) → lone_name t ≡ None)
    (λ pos relation not. absurd (not pos relation refl)) (λ _ _ _ _ _ _. refl) (λ _ _ _ _ _ _. refl) (λ _ _ _ _ _ _. refl)
    (λ _ _ _ _ _ _ _. refl) (λ _ _ _ _ _ _ _. refl)

pub primary_name-other : (tree : Primary) → ((pos : Pos) (n : Name) → tree ≡ primary.Named pos n → ⊥) → primary_name tree ≡ None
unfolding primary_name
primary_name-other = primary_form (λ t. ((pos : Pos) (n : Name) → t ≡ primary.Named pos n → ⊥) → primary_name t ≡ None)
    (λ _ _ _. refl) (λ _ _ _. refl) (λ _ _. refl) (λ pos n not. absurd (not pos n refl)) (λ _ _ _ _. refl) (λ _ _ _. refl)
    (λ _ _ _. refl) (λ _ _ _ _ _. refl) (λ _ _ _ _ _ _ _. refl)

pub selected_part-other : (part : Suffix) → ((pos : Pos) (selector : Identifier) → part ≡ suffix.Selected pos selector → ⊥)
    → selected_part part ≡ None
unfolding selected_part
selected_part-other = suffix_form
    (λ t. ((pos : Pos) (selector : Identifier) → t ≡ suffix.Selected pos selector → ⊥) → selected_part t ≡ None)
    (λ pos selector not. absurd (not pos selector refl)) (λ _ _ _. refl) (λ _ _ _ _ _. refl) (λ _ _ _. refl) (λ _ _ _. refl)

pub range_positions-other : (part : Suffix) → ((apostrophe range : Pos) → part ≡ suffix.RangeAttribute apostrophe range → ⊥)
    → range_positions part ≡ None
unfolding range_positions
range_positions-other = suffix_form
    (λ t. ((apostrophe range : Pos) → t ≡ suffix.RangeAttribute apostrophe range → ⊥) → range_positions t ≡ None)
    (λ _ _ _. refl) (λ _ _ _. refl) (λ _ _ _ _ _. refl) (λ _ _ _. refl) (λ apostrophe range not. absurd (not apostrophe range refl))

-- ---- by the last suffix

option_map-twice : {A B C : Type 0} (g : B → C) (f : A → B) (o : Option A) → option_map g (option_map f o) ≡ option_map (λ x. g (f x)) o
option_map-twice g f None = refl
option_map-twice g f (Some x) = refl

pub cut_range-last : (front : List Suffix) (last : Suffix) → cut_range (front ++ (last ∷ []))
    ≡ option_map (λ positions. (front, positions.0, positions.1)) (range_positions last)
cut_range-last [] last = refl
cut_range-last (part ∷ []) last = option_map-twice (λ cut. (part ∷ cut.0, cut.1, cut.2)) (λ positions. ([], positions.0, positions.1))
    (range_positions last)
cut_range-last (part ∷ (next ∷ rest)) last = ap (option_map (λ cut. (part ∷ cut.0, cut.1, cut.2)))
    (cut_range-last (next ∷ rest) last)
    ∙ option_map-twice (λ cut. (part ∷ cut.0, cut.1, cut.2)) (λ positions. (next ∷ rest, positions.0, positions.1)) (range_positions last)

pub range_prefix-last : (pos : Pos) (first : Identifier) (front : List Suffix) (last : Suffix)
    → range_prefix (name.Prefixed pos first (front ++ (last ∷ [])))
    ≡ option_map (λ positions. (name.Prefixed pos first front, positions.0, positions.1)) (range_positions last)
range_prefix-last pos first front last = range_prefix-Prefixed pos first (front ++ (last ∷ []))
    ∙ ap (option_map (λ cut. (name.Prefixed pos first cut.0, cut.1, cut.2))) (cut_range-last front last)
    ∙ option_map-twice (λ cut. (name.Prefixed pos first cut.0, cut.1, cut.2)) (λ positions. (front, positions.0, positions.1))
    (range_positions last)

-- ---- for the code

selected_both : (part : Option NextPart) (parts : Option (List NextPart)) (rest : List NextPart)
    → (is_some parts ≡ true → parts ≡ Some rest) → is_some (part_before part parts) ≡ true
    → part_before part parts ≡ Some (cons_option part rest)
selected_both None parts rest below is = absurd (false≢true is)
selected_both (Some part) None rest below is = absurd (false≢true is)
selected_both (Some part) (Some parts) rest below is = ap (option_map (λ rest. part ∷ rest)) (below refl)

selected_all : (parts : List Suffix) → is_some (selected_parts parts) ≡ true
    → selected_parts parts ≡ Some (filter_map selected_part parts)
selected_all [] is = refl
selected_all (part ∷ rest) is =
    selected_both (selected_part part) (selected_parts rest) (filter_map selected_part rest) (selected_all rest) is

pub dotted_or_name-dotted : (n : Name) (pos : Pos) (first : Identifier) (rest : List Suffix) (parts : List NextPart)
    → n ≡ name.Prefixed pos first rest → is_some (selected_parts rest) ≡ true → parts ≡ filter_map selected_part rest
    → Ok (record { pos = pos; first = first; rest = parts }) ≡ dotted_or_name n
dotted_or_name-dotted n pos first rest parts is selected these =
    let found : dotted_name n ≡ Some (record { pos = pos; first = first; rest = filter_map selected_part rest }) =
    ap dotted_name is ∙ dotted_name-Prefixed pos first rest
    ∙ ap (option_map (λ these. record { pos = pos; first = first; rest = these })) (selected_all rest selected) in
    ap (λ these. Ok (record { pos = pos; first = first; rest = these })) these ∙ ap (λ o. ok_or o n) (sym found)

none_found : {A : Type 0} (o : Option A) → is_some o ≡ false → o ≡ None
none_found None is = refl
none_found (Some x) is = absurd (false≢true (sym is))

-- The name is given back as it was.
pub dotted_or_name-other : (n : Name) (pos : Pos) (first : Identifier) (rest back : List Suffix)
    → n ≡ name.Prefixed pos first rest → is_some (selected_parts rest) ≡ false → back ≡ rest
    → Err (name.Prefixed pos first back) ≡ dotted_or_name n
dotted_or_name-other n pos first rest back is unselected same =
    let none : dotted_name n ≡ None =
    ap dotted_name is ∙ dotted_name-Prefixed pos first rest
    ∙ ap (option_map (λ these. record { pos = pos; first = first; rest = these })) (none_found (selected_parts rest) unselected) in
    ap (λ parts. Err (name.Prefixed pos first parts)) same ∙ ap Err (sym is) ∙ ap (λ o. ok_or o n) (sym none)

-- What is taken off at the end of a name, by what its last suffix is.
pub range_prefix_at : (n : Name) (pos : Pos) (first : Identifier) (rest front : List Suffix) (last : Suffix)
    (found : Option (Pos × Pos)) → n ≡ name.Prefixed pos first rest → rest ≡ front ++ (last ∷ []) → found ≡ range_positions last
    → option_map (λ positions. (name.Prefixed pos first front, positions.0, positions.1)) found ≡ range_prefix n
range_prefix_at n pos first rest front last found is ends same = sym (ap range_prefix is
    ∙ ap (λ parts. range_prefix (name.Prefixed pos first parts)) ends ∙ range_prefix-last pos first front last
    ∙ ap (option_map (λ positions. (name.Prefixed pos first front, positions.0, positions.1))) (sym same))

pub range_prefix_nowhere : (n : Name) (pos : Pos) (first : Identifier) (rest : List Suffix) → n ≡ name.Prefixed pos first rest
    → rest ≡ [] → None ≡ range_prefix n
range_prefix_nowhere n pos first rest is empty = sym (ap range_prefix is
    ∙ ap (λ parts. range_prefix (name.Prefixed pos first parts)) empty ∙ range_prefix-Prefixed pos first [])

pub ruleset lone_levels = (
  primary_name-Named,
  factor_name-LonePrimary,
  factor_name-Abs,
  factor_name-Not,
  term_name-Product,
  sum_name-Unsigned,
  sum_name-Signed,
  rel_name-LoneSum,
  rel_name-Compared,
  lone_name-LoneRelation,
  sole_identifier-Prefixed,
  selected_part-Selected,
  range_positions-RangeAttribute,
)
