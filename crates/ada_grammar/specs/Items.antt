-- Readers of ranges, choices and items, and of what they are made of (docs/LANGUAGE.md, "Grammar").
--
-- `d` is how many constructs are open around the part, as in the spelling. A reader that takes an
-- identifier or a position continues what is read already, as the function does that has these.
use Rattle.std.specs.Prelude.{ℕ, suc, List, [], ◌∷◌, Option, Some, None, Result, Ok, Err, ◌⊎◌}
use Rattle.std.proofs.Common.{inl, inr}
use Rattle.spark_base.specs.declared.position.Pos.{Pos}
use Rattle.ada_lexer.specs.declared.token.Reserved.TheVariants as w
use Rattle.ada_lexer.specs.declared.token.Symbol.TheVariants as s
use Rattle.token_reading.specs.declared.side.Side.TheVariants.{Apart}
use Rattle.token_reading.specs.Reading.{Reader, of_word, of_symbol, of_ident, word, opens_word, symbol, opens_symbol, ident_called, chain, to, seq, nothing, either, choose, optional, many, here}
use Rattle.ada_tree.specs.declared.identifier.Identifier.{Identifier}
use Rattle.ada_tree.specs.declared.identifier.NextIdentifier.{NextIdentifier}
use Rattle.ada_tree.specs.declared.identifier.NextIdentifier.TheVariants as next_identifier_tree
use Rattle.ada_tree.specs.declared.identifier.Dotted.{Dotted}
use Rattle.ada_tree.specs.declared.identifier.NextDotted.{NextDotted}
use Rattle.ada_tree.specs.declared.expression.Arg.{Arg}
use Rattle.ada_tree.specs.declared.expression.NextArg.{NextArg}
use Rattle.ada_tree.specs.declared.expression.Expr.{Expr}
use Rattle.ada_tree.specs.declared.expression.Name.{Name}
use Rattle.ada_tree.specs.declared.range.Range.{Range}
use Rattle.ada_tree.specs.declared.range.Range.TheVariants as range_tree
use Rattle.ada_tree.specs.declared.range.Choice.{Choice}
use Rattle.ada_tree.specs.declared.range.Choice.TheVariants as choice_tree
use Rattle.ada_tree.specs.declared.range.NextChoice.{NextChoice}
use Rattle.ada_tree.specs.declared.range.NextChoice.TheVariants as next_choice_tree
use Rattle.ada_tree.specs.declared.declaration.Component.{Component}
use Rattle.ada_tree.specs.declared.declaration.Component.TheVariants as component_tree
use Rattle.ada_tree.specs.declared.declaration.Indication.{Indication}
use Rattle.ada_tree.specs.declared.declaration.Indication.TheVariants as indication_tree
use Rattle.ada_tree.specs.declared.declaration.Item.{Item}
use Rattle.ada_tree.specs.declared.declaration.Item.TheVariants as item_tree
use Rattle.ada_tree.specs.declared.declaration.UseClause.{UseClause}
use Rattle.ada_tree.specs.declared.declaration.PragmaOn.{PragmaOn}
use Rattle.ada_tree.specs.declared.declaration.PragmaClause.{PragmaClause}
use Rattle.ada_tree.specs.Lone.{lone_name, dotted_or_name, range_prefix}
use Rattle.ada_tree.specs.FixedNames.{mode_name, on_name}
use Rattle.ada_grammar.specs.Expressions.{refused, make_identifier, identifier, dotted, next_dotteds, expr, arg_at, next_args_at, expr_first}

-- ---- identifiers and names in a row

-- "," id
unfoldable pub next_identifier : Reader NextIdentifier
next_identifier = to (λ x. next_identifier_tree.FurtherIdentifier x.0 x.1) (seq (symbol Apart s.Comma) (identifier Apart))

-- {"," id}
abbrev pub next_identifiers : Reader (List NextIdentifier)
next_identifiers = many (of_symbol s.Comma ∷ []) next_identifier

-- the identifier with this spelling in lower case
unfoldable pub called : List ℕ → Reader Identifier
called name = to make_identifier (ident_called name)

-- ["constant"]
abbrev pub optional_constant : Reader (Option Pos)
optional_constant = optional (of_word w.KwConstant ∷ []) (word Apart w.KwConstant)

-- ---- ranges and choices

-- ".." expr
abbrev pub to_high : ℕ → Reader (Pos × Expr)
to_high d = seq (symbol Apart s.DoubleDot) (expr d)

-- "range" expr ".." expr
abbrev pub constraint : ℕ → Reader (Pos × (Expr × (Pos × Expr)))
constraint d = seq (word Apart w.KwRange) (seq (expr d) (to_high d))

abbrev pub make_constrained : Pos → Dotted → Pos × (Expr × (Pos × Expr)) → Range
make_constrained pos mark x = range_tree.Constrained pos mark x.0 x.1.0 x.1.1.0 x.1.1.1

-- range = mark ["range" expr ".." expr], after the mark
unfoldable pub marked_range : ℕ → Pos → Dotted → Reader Range
marked_range d pos mark =
    either (of_word w.KwRange ∷ []) (to (make_constrained pos mark) (constraint d)) (to (λ u. range_tree.Marked pos mark) nothing)

-- range = name "'" "range", after the name
abbrev pub attribute_range : Pos → Option (Name × Pos × Pos) → Reader Range
attribute_range pos (Some x) = to (λ u. range_tree.RangeOf pos x.0 x.1 x.2) nothing
attribute_range pos None = refused

abbrev pub mark_or_attribute : ℕ → Pos → Result Dotted Name → Reader Range
mark_or_attribute d pos (Ok mark) = marked_range d pos mark
mark_or_attribute d pos (Err prefix) = attribute_range pos (range_prefix prefix)

-- a range that is no expression with ".." after it, after the expression that it begins with
abbrev pub named_range : ℕ → Pos → Option Name → Reader Range
named_range d pos (Some prefix) = mark_or_attribute d pos (dotted_or_name prefix)
named_range d pos None = refused

abbrev pub make_bounds : Pos → Expr → Pos × Expr → Range
make_bounds pos low x = range_tree.Bounds pos low x.0 x.1

-- range = expr ".." expr | mark ["range" expr ".." expr] | name "'" "range"
unfoldable pub range : ℕ → Reader Range
range d =
    chain here (λ pos. chain (expr d) (λ low. either (of_symbol s.DoubleDot ∷ []) (to (make_bounds pos low) (to_high d))
    (named_range d pos (lone_name low))))

abbrev pub make_choice : Pos ⊎ ((Pos × Expr) × Option (Pos × Expr)) → Choice
make_choice (inl pos) = choice_tree.Others pos
make_choice (inr (x, None)) = choice_tree.Value x.0 x.1
make_choice (inr (x, Some high)) = choice_tree.Interval x.0 x.1 high.0 high.1

-- choice = expr [".." expr] | "others"
unfoldable pub choice : ℕ → Reader Choice
choice d =
    to make_choice (choose (of_word w.KwOthers ∷ []) (word Apart w.KwOthers)
    (seq (seq here (expr d)) (optional (of_symbol s.DoubleDot ∷ []) (to_high d))))

abbrev pub choice_first : List ℕ
choice_first = of_word w.KwOthers ∷ expr_first

-- "|" choice
unfoldable pub next_choice : ℕ → Reader NextChoice
next_choice d = to (λ x. next_choice_tree.Bar x.0 x.1) (seq (symbol Apart s.Bar) (choice d))

-- {"|" choice}
abbrev pub next_choices : ℕ → Reader (List NextChoice)
next_choices d = many (of_symbol s.Bar ∷ []) (next_choice d)

-- ---- parts of items

abbrev pub make_indication : (Pos × (Option Pos × Dotted)) ⊎ (Pos × Dotted) → Indication
make_indication (inl x) = indication_tree.Anonymous x.0 x.1.0 x.1.1
make_indication (inr x) = indication_tree.Mark x.0 x.1

-- mark | anon, where anon = "access" ["constant"] mark
unfoldable pub indication : Reader Indication
indication =
    to make_indication (choose (of_word w.KwAccess ∷ []) (seq (word Apart w.KwAccess) (seq optional_constant (dotted Apart)))
    (seq here (dotted Apart)))

abbrev pub indication_first : List ℕ
indication_first = of_word w.KwAccess ∷ of_ident ∷ []

abbrev pub make_component : Identifier × (List NextIdentifier × (Pos × (Dotted × Pos))) → Component
make_component x = component_tree.Fields x.0.pos x.0 x.1.0 x.1.1.0 x.1.1.1.0 x.1.1.1.1

-- comp = id {"," id} ":" mark ";"
unfoldable pub component : Reader Component
component =
    to make_component (seq (identifier Apart) (seq next_identifiers (seq (symbol Apart s.Colon)
    (seq (dotted Apart) (symbol Apart s.Semicolon)))))

-- {comp}
abbrev pub next_components : Reader (List Component)
next_components = many (of_ident ∷ []) component

abbrev pub make_use : Pos × (Option Pos × (Dotted × (List NextDotted × Pos))) → UseClause
make_use x = record { pos = x.0; type_word = x.1.0; first = x.1.1.0; rest = x.1.1.1.0; semicolon = x.1.1.1.1 }

-- usecl = "use" ["type"] dotted {"," dotted} ";"
unfoldable pub use_clause : Reader UseClause
use_clause =
    to make_use (seq (word Apart w.KwUse) (seq (optional (of_word w.KwType ∷ []) (word Apart w.KwType))
    (seq (dotted Apart) (seq next_dotteds (symbol Apart s.Semicolon)))))

abbrev pub make_pragma_on : Pos × (Identifier × Pos) → PragmaOn
make_pragma_on x = record { pos = x.0; on = x.1.0; right_paren = x.1.1 }

-- "(" On ")"
unfoldable pub pragma_on : ℕ → Reader PragmaOn
pragma_on d =
    to make_pragma_on (seq (opens_symbol Apart s.LeftParenthesis d) (seq (called on_name) (symbol Apart s.RightParenthesis)))

-- ["(" On ")"]
abbrev pub optional_pragma_on : ℕ → Reader (Option PragmaOn)
optional_pragma_on d = optional (of_symbol s.LeftParenthesis ∷ []) (pragma_on d)

abbrev pub make_pragma : Pos × (Identifier × (Option PragmaOn × Pos)) → PragmaClause
make_pragma x = record { pos = x.0; name = x.1.0; argument = x.1.1.0; semicolon = x.1.1.1 }

-- pragma = "pragma" SPARK_Mode ["(" On ")"] ";"
unfoldable pub pragma : ℕ → Reader PragmaClause
pragma d =
    to make_pragma (seq (word Apart w.KwPragma) (seq (called mode_name)
    (seq (optional_pragma_on d) (symbol Apart s.Semicolon))))

-- ---- types

-- "private" ";"
abbrev pub private_parts : Reader (Pos × Pos)
private_parts = seq (word Apart w.KwPrivate) (symbol Apart s.Semicolon)

abbrev pub make_private : Pos → Identifier → Pos → Pos × Pos → Item
make_private pos id is x = item_tree.PrivateType pos id is x.0 x.1

-- "access" mark ";"
abbrev pub access_parts : Reader (Pos × (Dotted × Pos))
access_parts = seq (word Apart w.KwAccess) (seq (dotted Apart) (symbol Apart s.Semicolon))

abbrev pub make_access : Pos → Identifier → Pos → Pos × (Dotted × Pos) → Item
make_access pos id is x = item_tree.AccessType pos id is x.0 x.1.0 x.1.1

-- type = "type" id "is" "private" ";" | "type" id "is" "access" mark ";", after "is"
abbrev pub private_type : Pos → Identifier → Pos → Reader Item
private_type pos id is = to (make_private pos id is) private_parts

abbrev pub access_type : Pos → Identifier → Pos → Reader Item
access_type pos id is = to (make_access pos id is) access_parts

-- the range of an array type's index, one construct further in
unfoldable pub index_range : ℕ → Reader Range
index_range d = range (suc d)

-- ")" "of" mark ";", after the range of an array type's index
abbrev pub ElementParts : Type 0
ElementParts = Pos × (Pos × (Dotted × Pos))

abbrev pub element_parts : Reader ElementParts
element_parts = seq (symbol Apart s.RightParenthesis) (seq (word Apart w.KwOf) (seq (dotted Apart) (symbol Apart s.Semicolon)))

abbrev pub ArrayParts : Type 0
ArrayParts = Pos × (Pos × (Range × ElementParts))

-- "array" "(" range ")" "of" mark ";"
abbrev pub array_parts : ℕ → Reader ArrayParts
array_parts d =
    seq (word Apart w.KwArray) (seq (opens_symbol Apart s.LeftParenthesis d) (seq (index_range d) element_parts))

abbrev pub make_array : Pos → Identifier → Pos → ArrayParts → Item
make_array pos id is x = item_tree.ArrayType pos id is x.0 x.1.0 x.1.1.0 x.1.1.1.0 x.1.1.1.1.0 x.1.1.1.1.1.0 x.1.1.1.1.1.1

-- type = "type" id "is" "array" "(" range ")" "of" mark ";", after "is"
unfoldable pub array_type : ℕ → Pos → Identifier → Pos → Reader Item
array_type d pos id is = to (make_array pos id is) (array_parts d)

abbrev pub RecordParts : Type 0
RecordParts = Pos × (Component × (List Component × (Pos × (Pos × Pos))))

-- "record" comp {comp} "end" "record" ";"
abbrev pub record_parts : ℕ → Reader RecordParts
record_parts d =
    seq (opens_word w.KwRecord d) (seq component (seq next_components
    (seq (word Apart w.KwEnd) (seq (word Apart w.KwRecord) (symbol Apart s.Semicolon)))))

abbrev pub make_record : Pos → Identifier → Pos → RecordParts → Item
make_record pos id is x = item_tree.RecordType pos id is x.0 x.1.0 x.1.1.0 x.1.1.1.0 x.1.1.1.1.0 x.1.1.1.1.1

-- type = "type" id "is" "record" comp {comp} "end" "record" ";", after "is"
unfoldable pub record_type : ℕ → Pos → Identifier → Pos → Reader Item
record_type d pos id is = to (make_record pos id is) (record_parts d)

-- id {"," id} ")" ";"
abbrev pub LiteralParts : Type 0
LiteralParts = Identifier × (List NextIdentifier × (Pos × Pos))

abbrev pub literal_parts : Reader LiteralParts
literal_parts =
    seq (identifier Apart) (seq next_identifiers (seq (symbol Apart s.RightParenthesis) (symbol Apart s.Semicolon)))

abbrev pub EnumerationParts : Type 0
EnumerationParts = Pos × LiteralParts

-- "(" id {"," id} ")" ";"
abbrev pub enumeration_parts : ℕ → Reader EnumerationParts
enumeration_parts d = seq (opens_symbol Apart s.LeftParenthesis d) literal_parts

abbrev pub make_enumeration : Pos → Identifier → Pos → EnumerationParts → Item
make_enumeration pos id is x = item_tree.EnumerationType pos id is x.0 x.1.0 x.1.1.0 x.1.1.1.0 x.1.1.1.1

-- type = "type" id "is" "(" id {"," id} ")" ";", after "is"
unfoldable pub enumeration_type : ℕ → Pos → Identifier → Pos → Reader Item
enumeration_type d pos id is = to (make_enumeration pos id is) (enumeration_parts d)

-- type = "type" id "is" .., after "is"
unfoldable pub defined_type : ℕ → Pos → Identifier → Pos → Reader Item
defined_type d pos id is =
    either (of_word w.KwPrivate ∷ []) (private_type pos id is)
    (either (of_word w.KwAccess ∷ []) (access_type pos id is)
    (either (of_word w.KwArray ∷ []) (array_type d pos id is)
    (either (of_word w.KwRecord ∷ []) (record_type d pos id is) (enumeration_type d pos id is))))

-- type = "type" id ";" | "type" id "is" ..
unfoldable pub type_item : ℕ → Reader Item
type_item d =
    chain (word Apart w.KwType) (λ pos. chain (identifier Apart) (λ id. either (of_symbol s.Semicolon ∷ [])
    (to (λ semicolon. item_tree.IncompleteType pos id semicolon) (symbol Apart s.Semicolon))
    (chain (word Apart w.KwIs) (λ is. defined_type d pos id is))))

-- ---- subtypes, objects, instances

-- ["range" expr ".." expr] ";"
abbrev pub SubtypeEnd : Type 0
SubtypeEnd = Option (Pos × (Expr × (Pos × Expr))) × Pos

abbrev pub subtype_end : ℕ → Reader SubtypeEnd
subtype_end d = seq (optional (of_word w.KwRange ∷ []) (constraint d)) (symbol Apart s.Semicolon)

abbrev pub SubtypeParts : Type 0
SubtypeParts = Pos × (Identifier × (Pos × (Dotted × SubtypeEnd)))

abbrev pub make_subtype : SubtypeParts → Item
make_subtype (pos, (id, (is, (mark, (None, semicolon))))) = item_tree.Subtype pos id is mark semicolon
make_subtype (pos, (id, (is, (mark, (Some x, semicolon))))) =
    item_tree.ConstrainedSubtype pos id is mark x.0 x.1.0 x.1.1.0 x.1.1.1 semicolon

-- subtype = "subtype" id "is" mark ["range" expr ".." expr] ";"
unfoldable pub subtype_item : ℕ → Reader Item
subtype_item d =
    to make_subtype (seq (word Apart w.KwSubtype) (seq (identifier Apart) (seq (word Apart w.KwIs) (seq (dotted Apart) (subtype_end d)))))

-- ":=" expr
abbrev pub initial_value : ℕ → Reader (Pos × Expr)
initial_value d = seq (symbol Apart s.Becomes) (expr d)

-- [":=" expr] ";"
abbrev pub ObjectEnd : Type 0
ObjectEnd = Option (Pos × Expr) × Pos

abbrev pub object_end : ℕ → Reader ObjectEnd
object_end d = seq (optional (of_symbol s.Becomes ∷ []) (initial_value d)) (symbol Apart s.Semicolon)

abbrev pub ObjectParts : Type 0
ObjectParts = Indication × ObjectEnd

-- (mark | anon) [":=" expr] ";"
abbrev pub object_parts : ℕ → Reader ObjectParts
object_parts d = seq indication (object_end d)

abbrev pub make_objects : Identifier → List NextIdentifier → Pos → Option Pos → ObjectParts → Item
make_objects first rest colon constant (indicated, (None, semicolon)) =
    item_tree.Objects first.pos first rest colon constant indicated semicolon
make_objects first rest colon constant (indicated, (Some x, semicolon)) =
    item_tree.InitializedObjects first.pos first rest colon constant indicated x.0 x.1 semicolon

-- object = id {"," id} ":" ["constant"] (mark | anon) [":=" expr] ";", after ["constant"]
unfoldable pub objects : ℕ → Identifier → List NextIdentifier → Pos → Option Pos → Reader Item
objects d first rest colon constant = to (make_objects first rest colon constant) (object_parts d)

-- ":=" expr ";"
abbrev pub number_parts : ℕ → Reader (Pos × (Expr × Pos))
number_parts d = seq (symbol Apart s.Becomes) (seq (expr d) (symbol Apart s.Semicolon))

abbrev pub make_numbers : Identifier → List NextIdentifier → Pos → Pos → Pos × (Expr × Pos) → Item
make_numbers first rest colon constant x = item_tree.Numbers first.pos first rest colon constant x.0 x.1.0 x.1.1

-- object = id {"," id} ":" ["constant"] (mark | anon) [":=" expr] ";"
--     | id {"," id} ":" "constant" ":=" expr ";"
unfoldable pub object_item : ℕ → Reader Item
object_item d =
    chain (identifier Apart) (λ first. chain next_identifiers (λ rest. chain (symbol Apart s.Colon) (λ colon.
    either (of_word w.KwConstant ∷ [])
    (chain (word Apart w.KwConstant) (λ constant. either (of_symbol s.Becomes ∷ [])
    (to (make_numbers first rest colon constant) (number_parts d))
    (objects d first rest colon (Some constant))))
    (objects d first rest colon None))))

-- the actuals of an instance, one construct further in
unfoldable pub first_actual : ℕ → Reader Arg
first_actual d = arg_at Apart (suc d)

unfoldable pub next_actuals : ℕ → Reader (List NextArg)
next_actuals d = next_args_at Apart (suc d)

-- arg {"," arg} ")" ";"
abbrev pub ActualParts : Type 0
ActualParts = Arg × (List NextArg × (Pos × Pos))

abbrev pub actual_parts : ℕ → Reader ActualParts
actual_parts d =
    seq (first_actual d) (seq (next_actuals d) (seq (symbol Apart s.RightParenthesis) (symbol Apart s.Semicolon)))

abbrev pub InstanceParts : Type 0
InstanceParts = Pos × (Dotted × (Pos × ActualParts))

-- "new" dotted "(" arg {"," arg} ")" ";"
abbrev pub instance_parts : ℕ → Reader InstanceParts
instance_parts d =
    seq (word Apart w.KwNew) (seq (dotted Apart) (seq (opens_symbol Apart s.LeftParenthesis d) (actual_parts d)))

abbrev pub make_instance : Pos → Identifier → Pos → InstanceParts → Item
make_instance pos id is x =
    item_tree.Instance pos id is x.0 x.1.0 x.1.1.0 x.1.1.1.0 x.1.1.1.1.0 x.1.1.1.1.1.0 x.1.1.1.1.1.1

-- instance = "procedure" id "is" "new" dotted "(" args ")" ";", after "is"
unfoldable pub instance_of : ℕ → Pos → Identifier → Pos → Reader Item
instance_of d pos id is = to (make_instance pos id is) (instance_parts d)

-- instance = "procedure" id "is" "new" dotted "(" args ")" ";"
unfoldable pub instance : ℕ → Reader Item
instance d =
    chain (word Apart w.KwProcedure) (λ pos. chain (identifier Apart) (λ id. chain (word Apart w.KwIs) (λ is.
    instance_of d pos id is)))

-- ---- items

-- item = type | subtype | object | usecl | pragma: each item that is no instance
unfoldable pub plain_item : ℕ → Reader Item
plain_item d =
    either (of_word w.KwType ∷ []) (type_item d)
    (either (of_word w.KwSubtype ∷ []) (subtype_item d)
    (either (of_word w.KwUse ∷ []) (to (λ clause. item_tree.Use clause.pos clause) use_clause)
    (either (of_word w.KwPragma ∷ []) (to (λ clause. item_tree.Pragma clause.pos clause) (pragma d)) (object_item d))))

abbrev pub plain_item_first : List ℕ
plain_item_first = of_word w.KwType ∷ of_word w.KwSubtype ∷ of_word w.KwUse ∷ of_word w.KwPragma ∷ of_ident ∷ []

-- item = type | subtype | object | instance | usecl | pragma
unfoldable pub item : ℕ → Reader Item
item d = either (of_word w.KwProcedure ∷ []) (instance d) (plain_item d)

abbrev pub item_first : List ℕ
item_first = of_word w.KwProcedure ∷ plain_item_first

-- {item}
abbrev pub items : ℕ → Reader (List Item)
items d = many item_first (item d)
