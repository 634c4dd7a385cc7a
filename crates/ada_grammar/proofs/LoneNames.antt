-- A dotted name, an identifier and a name with "'" "range" at its end: each is the name of what is
-- taken out of it.
use Rattle.std.proofs.Common.{◌≡◌, refl, sym, ap, subst, ◌∙◌, ℕ, List, [], ◌∷◌, ◌++◌}
use Rattle.std.proofs.lemmas.Grind.{flat_map-append}
use Rattle.std.proofs.lemmas.Option.{none-some, same_Some}
use Rattle.std.specs.Prelude.{Option, Some, None, option_map, map}
use Rattle.std.specs.List.{flat_map}
use Rattle.spark_base.specs.declared.position.Pos.{Pos}
use Rattle.ada_lexer.specs.declared.token.Reserved.TheVariants as w
use Rattle.ada_lexer.specs.declared.token.Symbol.TheVariants as s
use Rattle.ada_tree.specs.declared.identifier.Identifier.{Identifier}
use Rattle.ada_tree.specs.declared.identifier.Dotted.{Dotted}
use Rattle.ada_tree.specs.declared.identifier.NextPart.{NextPart}
use Rattle.ada_tree.specs.declared.identifier.NextPart.TheVariants as next_part
use Rattle.ada_tree.specs.declared.expression.Name.{Name}
use Rattle.ada_tree.specs.declared.expression.Name.TheVariants as name
use Rattle.ada_tree.specs.declared.expression.Suffix.{Suffix}
use Rattle.ada_tree.specs.declared.expression.Suffix.TheVariants as suffix
use Rattle.token_reading.specs.Reading.{Each}
use Rattle.token_reading.specs.declared.side.Side.{Side}
use Rattle.ada_tree.specs.Spelling.{word, symbol, id_mark, next_part_spelling, dotted_spelling, suffix_spelling, name_spelling}
use Rattle.ada_tree.specs.WellPlaced.{DottedPlaced, NamePlaced, SuffixPlaced}
use Rattle.ada_tree.specs.Lone.{unfollowed, selected_part, part_before, selected_parts, dotted_name, suffix_of_part, name_of_dotted, sole_identifier, name_of_identifier, range_positions, cut_range, range_prefix, name_with_range}
use Rattle.ada_tree.proofs.Forms.{name_form, suffix_form}
use Rattle.ada_grammar.proofs.Levels.{name-Prefixed}
use Rattle.ada_grammar.proofs.Placed.{suffix-placed}
use Rattle.ada_tree.proofs.LoneLevels.{dotted_name-Prefixed, sole_identifier-Prefixed, range_prefix-Prefixed, range_prefix-last, range_positions-RangeAttribute, name_with_range-Prefixed}

-- ---- options and lists

value_of_option_map : {A B : Type 0} (f : A → B) (o : Option A) (y : B) → option_map f o ≡ Some y
    → (x : A) × (o ≡ Some x) × (f x ≡ y)
value_of_option_map f None y is = absurd (none-some y is)
value_of_option_map f (Some x) y is = (x, refl, same_Some (f x) y is)

each-append : {A : Type 0} (P : A → Type 0) (xs ys : List A) → Each P xs → Each P ys → Each P (xs ++ ys)
each-append P [] ys front back = back
each-append P (x ∷ xs) ys front back = (front.0, each-append P xs ys front.1 back)

each_front : {A : Type 0} (P : A → Type 0) (xs ys : List A) → Each P (xs ++ ys) → Each P xs
each_front P [] ys whole = tt
each_front P (x ∷ xs) ys whole = (whole.0, each_front P xs ys whole.1)

-- Where a name is placed, with its suffixes as a list.
name_placed : (d : ℕ) (pos : Pos) (first : Identifier) (rest : List Suffix) → first.pos ≡ pos → Each (SuffixPlaced d) rest
    → NamePlaced d (name.Prefixed pos first rest)
unfolding NamePlaced
name_placed d pos first rest at each = (at, subst (λ P. P) (sym (suffix-placed d rest)) each)

name_placed_parts : (d : ℕ) (pos : Pos) (first : Identifier) (rest : List Suffix) → NamePlaced d (name.Prefixed pos first rest)
    → (first.pos ≡ pos) × Each (SuffixPlaced d) rest
unfolding NamePlaced
name_placed_parts d pos first rest placed = (placed.0, subst (λ P. P) (suffix-placed d rest) placed.1)

-- ---- dotted names

selected_of_part : (part : NextPart) → selected_part (suffix_of_part part) ≡ Some part
unfolding selected_part suffix_of_part
selected_of_part (next_part.FurtherPart pos id) = refl

selected_of_parts : (parts : List NextPart) → selected_parts (map suffix_of_part parts) ≡ Some parts
selected_of_parts [] = refl
selected_of_parts (part ∷ rest) =
    ap (λ p. part_before p (selected_parts (map suffix_of_part rest))) (selected_of_part part)
    ∙ ap (part_before (Some part)) (selected_of_parts rest)

pub dotted_name-name_of_dotted : (m : Dotted) → dotted_name (name_of_dotted m) ≡ Some m
unfolding name_of_dotted
dotted_name-name_of_dotted m =
    dotted_name-Prefixed m.pos m.first (map suffix_of_part m.rest)
    ∙ ap (option_map (λ parts. record { pos = m.pos; first = m.first; rest = parts })) (selected_of_parts m.rest)

parts_spelling : (side : Side) (d : ℕ) (parts : List NextPart)
    → flat_map (suffix_spelling side d) (map suffix_of_part parts) ≡ flat_map (next_part_spelling side) parts
unfolding suffix_of_part suffix_spelling next_part_spelling
parts_spelling side d [] = refl
parts_spelling side d (next_part.FurtherPart pos id ∷ rest) =
    ap (λ spelling. symbol side s.Dot pos ∷ id_mark side id ∷ spelling) (parts_spelling side d rest)

pub name_of_dotted-spelling : (side : Side) (d : ℕ) (m : Dotted) → name_spelling side d (name_of_dotted m) ≡ dotted_spelling side m
unfolding name_of_dotted dotted_spelling
name_of_dotted-spelling side d m =
    name-Prefixed side d m.pos m.first (map suffix_of_part m.rest)
    ∙ ap (λ spelling. id_mark side m.first ∷ spelling) (parts_spelling side d m.rest)

parts_placed : (d : ℕ) (parts : List NextPart) → Each (SuffixPlaced d) (map suffix_of_part parts)
unfolding suffix_of_part SuffixPlaced
parts_placed d [] = tt
parts_placed d (next_part.FurtherPart pos id ∷ rest) = (tt, parts_placed d rest)

pub name_of_dotted-placed : (d : ℕ) (m : Dotted) → DottedPlaced m → NamePlaced d (name_of_dotted m)
unfolding name_of_dotted DottedPlaced
name_of_dotted-placed d m placed = name_placed d m.pos m.first (map suffix_of_part m.rest) placed (parts_placed d m.rest)

selected_is : (part : Suffix) (q : NextPart) → selected_part part ≡ Some q → part ≡ suffix_of_part q
unfolding selected_part suffix_of_part
selected_is = suffix_form (λ t. (q : NextPart) → selected_part t ≡ Some q → t ≡ suffix_of_part q)
    (λ pos selector q is. ap suffix_of_part (same_Some (next_part.FurtherPart pos selector) q is))
    (λ _ _ q is. absurd (none-some q is)) (λ _ _ _ _ q is. absurd (none-some q is)) (λ _ _ q is. absurd (none-some q is))
    (λ _ _ q is. absurd (none-some q is))

part_before_is : (part : Option NextPart) (parts : Option (List NextPart)) (found : List NextPart)
    → part_before part parts ≡ Some found
    → (q : NextPart) × (qs : List NextPart) × (part ≡ Some q) × (parts ≡ Some qs) × (q ∷ qs ≡ found)
part_before_is None parts found is = absurd (none-some found is)
part_before_is (Some q) None found is = absurd (none-some found is)
part_before_is (Some q) (Some qs) found is = (q, qs, refl, refl, same_Some (q ∷ qs) found is)

selected_parts_are : (parts : List Suffix) (found : List NextPart) → selected_parts parts ≡ Some found
    → parts ≡ map suffix_of_part found
selected_parts_are [] found is = ap (map suffix_of_part) (same_Some [] found is)
selected_parts_are (part ∷ rest) found is =
    let met = part_before_is (selected_part part) (selected_parts rest) found is in
    ap (λ p. p ∷ rest) (selected_is part met.0 met.2)
    ∙ ap (λ ps. suffix_of_part met.0 ∷ ps) (selected_parts_are rest met.1 met.3) ∙ ap (map suffix_of_part) met.4

pub dotted_name_is : (n : Name) (m : Dotted) → dotted_name n ≡ Some m → n ≡ name_of_dotted m
unfolding name_of_dotted
dotted_name_is = name_form (λ n. (m : Dotted) → dotted_name n ≡ Some m → n ≡ name_of_dotted m)
    (λ pos first rest m is.
    let met = value_of_option_map (λ parts. record { pos = pos; first = first; rest = parts }) (selected_parts rest) m
    (sym (dotted_name-Prefixed pos first rest) ∙ is) in
    ap (name.Prefixed pos first) (selected_parts_are rest met.0 met.1) ∙ ap name_of_dotted met.2)

pub dotted_name_placed : (d : ℕ) (n : Name) (m : Dotted) → NamePlaced d n → dotted_name n ≡ Some m
    → DottedPlaced m × (n ≡ name_of_dotted m)
unfolding name_of_dotted DottedPlaced
dotted_name_placed d n m placed is =
    let same : n ≡ name_of_dotted m = dotted_name_is n m is in
    ((name_placed_parts d m.pos m.first (map suffix_of_part m.rest) (subst (NamePlaced d) same placed)).0, same)

-- ---- identifiers

pub sole_identifier-name_of_identifier : (id : Identifier) → sole_identifier (name_of_identifier id) ≡ Some id
unfolding name_of_identifier
sole_identifier-name_of_identifier id = sole_identifier-Prefixed id.pos id []

pub name_of_identifier-spelling : (side : Side) (d : ℕ) (id : Identifier)
    → name_spelling side d (name_of_identifier id) ≡ id_mark side id ∷ []
unfolding name_of_identifier
name_of_identifier-spelling side d id = name-Prefixed side d id.pos id []

pub name_of_identifier-placed : (d : ℕ) (id : Identifier) → NamePlaced d (name_of_identifier id)
unfolding name_of_identifier
name_of_identifier-placed d id = name_placed d id.pos id [] refl tt

unfollowed_is : {A B : Type 0} (x : A) (rest : List B) (y : A) → unfollowed (Some x) rest ≡ Some y → (x ≡ y) × (rest ≡ [])
unfollowed_is x [] y is = (same_Some x y is, refl)
unfollowed_is x (_ ∷ _) y is = absurd (none-some y is)

pub sole_identifier_is : (d : ℕ) (n : Name) (id : Identifier) → NamePlaced d n → sole_identifier n ≡ Some id
    → n ≡ name_of_identifier id
unfolding name_of_identifier
sole_identifier_is d = name_form
    (λ n. (id : Identifier) → NamePlaced d n → sole_identifier n ≡ Some id → n ≡ name_of_identifier id)
    (λ pos first rest id placed is.
    let alone = unfollowed_is first rest id (sym (sole_identifier-Prefixed pos first rest) ∙ is) in
    ap (λ p. name.Prefixed p first rest) (sym (name_placed_parts d pos first rest placed).0)
    ∙ ap (name.Prefixed first.pos first) alone.1 ∙ ap name_of_identifier alone.0)

-- ---- names with "'" "range" at their end

pub range_prefix-name_with_range : (n : Name) (apostrophe range : Pos)
    → range_prefix (name_with_range n apostrophe range) ≡ Some (n, apostrophe, range)
range_prefix-name_with_range n apostrophe range = name_form
    (λ n. range_prefix (name_with_range n apostrophe range) ≡ Some (n, apostrophe, range))
    (λ pos first rest. ap range_prefix (name_with_range-Prefixed pos first rest apostrophe range)
    ∙ range_prefix-last pos first rest (suffix.RangeAttribute apostrophe range)
    ∙ ap (option_map (λ positions. (name.Prefixed pos first rest, positions.0, positions.1)))
    (range_positions-RangeAttribute apostrophe range)) n

pub name_with_range-spelling : (side : Side) (d : ℕ) (n : Name) (apostrophe range : Pos)
    → name_spelling side d (name_with_range n apostrophe range)
    ≡ name_spelling side d n ++ (symbol side s.Apostrophe apostrophe ∷ word side w.KwRange range ∷ [])
unfolding suffix_spelling
name_with_range-spelling side d n apostrophe range = name_form
    (λ n. name_spelling side d (name_with_range n apostrophe range)
    ≡ name_spelling side d n ++ (symbol side s.Apostrophe apostrophe ∷ word side w.KwRange range ∷ []))
    (λ pos first rest. ap (name_spelling side d) (name_with_range-Prefixed pos first rest apostrophe range)
    ∙ name-Prefixed side d pos first (rest ++ (suffix.RangeAttribute apostrophe range ∷ []))
    ∙ ap (λ spelling. id_mark side first ∷ spelling)
    (flat_map-append (suffix_spelling side d) rest (suffix.RangeAttribute apostrophe range ∷ []))
    ∙ ap (λ spelling. spelling ++ (symbol side s.Apostrophe apostrophe ∷ word side w.KwRange range ∷ []))
    (sym (name-Prefixed side d pos first rest))) n

pub name_with_range-placed : (d : ℕ) (n : Name) (apostrophe range : Pos) → NamePlaced d n
    → NamePlaced d (name_with_range n apostrophe range)
unfolding SuffixPlaced
name_with_range-placed d n apostrophe range = name_form
    (λ n. NamePlaced d n → NamePlaced d (name_with_range n apostrophe range))
    (λ pos first rest placed.
    let parts = name_placed_parts d pos first rest placed in
    subst (NamePlaced d) (sym (name_with_range-Prefixed pos first rest apostrophe range))
    (name_placed d pos first (rest ++ (suffix.RangeAttribute apostrophe range ∷ [])) parts.0
    (each-append (SuffixPlaced d) rest (suffix.RangeAttribute apostrophe range ∷ []) parts.1 (tt, tt)))) n

pub name_with_range_placed : (d : ℕ) (n : Name) (apostrophe range : Pos) → NamePlaced d (name_with_range n apostrophe range)
    → NamePlaced d n
name_with_range_placed d n apostrophe range = name_form
    (λ n. NamePlaced d (name_with_range n apostrophe range) → NamePlaced d n)
    (λ pos first rest placed.
    let parts = name_placed_parts d pos first (rest ++ (suffix.RangeAttribute apostrophe range ∷ []))
    (subst (NamePlaced d) (name_with_range-Prefixed pos first rest apostrophe range) placed) in
    name_placed d pos first rest parts.0
    (each_front (SuffixPlaced d) rest (suffix.RangeAttribute apostrophe range ∷ []) parts.1)) n

range_positions_are : (part : Suffix) (apostrophe range : Pos) → range_positions part ≡ Some (apostrophe, range)
    → part ≡ suffix.RangeAttribute apostrophe range
unfolding range_positions
range_positions_are part apostrophe range = suffix_form
    (λ t. range_positions t ≡ Some (apostrophe, range) → t ≡ suffix.RangeAttribute apostrophe range)
    (λ _ _ is. absurd (none-some (apostrophe, range) is)) (λ _ _ is. absurd (none-some (apostrophe, range) is))
    (λ _ _ _ _ is. absurd (none-some (apostrophe, range) is)) (λ _ _ is. absurd (none-some (apostrophe, range) is))
    (λ p r is. ap (λ positions. suffix.RangeAttribute positions.0 positions.1) (same_Some (p, r) (apostrophe, range) is)) part

cut_range_is : (parts front : List Suffix) (apostrophe range : Pos) → cut_range parts ≡ Some (front, apostrophe, range)
    → parts ≡ front ++ (suffix.RangeAttribute apostrophe range ∷ [])
cut_range_is [] front apostrophe range is = absurd (none-some (front, apostrophe, range) is)
cut_range_is (part ∷ []) front apostrophe range is =
    let met = value_of_option_map (λ positions. ([], positions.0, positions.1)) (range_positions part) (front, apostrophe, range) is in
    ap (λ p. p ∷ []) (range_positions_are part met.0.0 met.0.1 met.1)
    ∙ ap (λ cut. cut.0 ++ (suffix.RangeAttribute cut.1 cut.2 ∷ [])) met.2
cut_range_is (part ∷ (next ∷ rest)) front apostrophe range is =
    let met = value_of_option_map (λ cut. (part ∷ cut.0, cut.1, cut.2)) (cut_range (next ∷ rest)) (front, apostrophe, range) is in
    ap (λ ps. part ∷ ps) (cut_range_is (next ∷ rest) met.0.0 met.0.1 met.0.2 met.1)
    ∙ ap (λ cut. cut.0 ++ (suffix.RangeAttribute cut.1 cut.2 ∷ [])) met.2

pub range_prefix_is : (n m : Name) (apostrophe range : Pos) → range_prefix n ≡ Some (m, apostrophe, range)
    → n ≡ name_with_range m apostrophe range
range_prefix_is n m apostrophe range = name_form
    (λ n. range_prefix n ≡ Some (m, apostrophe, range) → n ≡ name_with_range m apostrophe range)
    (λ pos first rest is.
    let met = value_of_option_map (λ cut. (name.Prefixed pos first cut.0, cut.1, cut.2)) (cut_range rest) (m, apostrophe, range)
    (sym (range_prefix-Prefixed pos first rest) ∙ is) in
    ap (name.Prefixed pos first) (cut_range_is rest met.0.0 met.0.1 met.0.2 met.1)
    ∙ sym (name_with_range-Prefixed pos first met.0.0 met.0.1 met.0.2)
    ∙ ap (λ cut. name_with_range cut.0 cut.1 cut.2) met.2) n

pub range_prefix_placed : (d : ℕ) (n m : Name) (apostrophe range : Pos) → NamePlaced d n
    → range_prefix n ≡ Some (m, apostrophe, range) → NamePlaced d m × (n ≡ name_with_range m apostrophe range)
range_prefix_placed d n m apostrophe range placed is =
    let same : n ≡ name_with_range m apostrophe range = range_prefix_is n m apostrophe range is in
    (name_with_range_placed d m apostrophe range (subst (NamePlaced d) same placed), same)

-- ---- a name with "'" "range" at its end is not dotted

none_before : (part : Option NextPart) (parts : Option (List NextPart)) → parts ≡ None → part_before part parts ≡ None
none_before None parts none = refl
none_before (Some part) parts none = ap (option_map (λ rest. part ∷ rest)) none

range_not_selected : (front : List Suffix) (apostrophe range : Pos)
    → selected_parts (front ++ (suffix.RangeAttribute apostrophe range ∷ [])) ≡ None
unfolding selected_part
range_not_selected [] apostrophe range = refl
range_not_selected (part ∷ rest) apostrophe range =
    none_before (selected_part part) (selected_parts (rest ++ (suffix.RangeAttribute apostrophe range ∷ [])))
    (range_not_selected rest apostrophe range)

pub dotted_name-name_with_range : (n : Name) (apostrophe range : Pos) → dotted_name (name_with_range n apostrophe range) ≡ None
dotted_name-name_with_range n apostrophe range = name_form
    (λ n. dotted_name (name_with_range n apostrophe range) ≡ None)
    (λ pos first rest. ap dotted_name (name_with_range-Prefixed pos first rest apostrophe range)
    ∙ dotted_name-Prefixed pos first (rest ++ (suffix.RangeAttribute apostrophe range ∷ []))
    ∙ ap (option_map (λ parts. record { pos = pos; first = first; rest = parts })) (range_not_selected rest apostrophe range)) n
