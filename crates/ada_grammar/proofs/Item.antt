-- The laws of items: subtypes, objects, instances, and all of them together.
use Rattle.std.proofs.Common.{◌≡◌, ◌≤◌, refl, ap, ℕ, suc, true, false, List, [], ◌∷◌, Some, None, ◌⊎◌, inl, inr}
use Rattle.std.specs.List.{flat_map}
use lib.Dec.{leb}
use Rattle.spark_base.specs.declared.position.Pos.{Pos}
use Rattle.spark_base.specs.declared.limits.TheConstants.{NESTING}
use Rattle.ada_lexer.specs.declared.token.Reserved.TheVariants as w
use Rattle.ada_lexer.specs.declared.token.Symbol.TheVariants as s
use Rattle.token_reading.specs.declared.side.Side.TheVariants.{Apart}
use Rattle.token_reading.specs.Weights.{WeighedToken}
use Rattle.token_reading.specs.Reading.{Outcome, Got, Fails, Reader, of_word, of_symbol, word, symbol, and_then, to, seq, chain, either, choose, optional, Each}
use Rattle.token_reading.proofs.Law.{Law}
use Rattle.token_reading.proofs.Tokens.{Any, some_position, law_word, law_symbol}
use Rattle.token_reading.proofs.Seq.{Both, joined, law_seq}
use Rattle.token_reading.proofs.Made.{law_to, law_same, law_wider}
use Rattle.token_reading.proofs.Choice.{Either, cases, of_either, Maybe, maybe_spelled, law_choose, law_optional}
use Rattle.token_reading.proofs.Many.{law_each}
use Rattle.token_reading.proofs.Nesting.{law_opened_symbol}
use Rattle.token_reading.proofs.Fronts.{Same, of_pair, either_choice, chain_seq}
use Rattle.ada_tree.specs.declared.identifier.Identifier.{Identifier}
use Rattle.ada_tree.specs.declared.identifier.NextIdentifier.{NextIdentifier}
use Rattle.ada_tree.specs.declared.expression.Expr.{Expr}
use Rattle.ada_tree.specs.declared.declaration.Item.{Item}
use Rattle.ada_tree.specs.declared.declaration.Item.TheVariants as item_tree
use Rattle.ada_tree.specs.declared.declaration.UseClause.{UseClause}
use Rattle.ada_tree.specs.declared.declaration.PragmaClause.{PragmaClause}
use Rattle.ada_tree.specs.Spelling.{dotted_spelling, next_identifier_spelling, expr_spelling, arg_spelling, next_arg_spelling, constraint_spelling, indication_spelling, use_spelling, pragma_spelling, item_spelling}
use Rattle.ada_tree.specs.WellPlaced.{DottedPlaced, ExprPlaced, ArgPlaced, NextArgPlaced, IndicationPlaced, UsePlaced, ItemPlaced}
use Rattle.ada_tree.specs.FixedNames.{PragmaNamed, ItemNamed}
use Rattle.ada_grammar.specs.Expressions.{identifier, identifier_first, dotted, expr_first, arg_last}
use Rattle.ada_grammar.specs.Items.{next_identifiers, indication_first, constraint, SubtypeParts, make_subtype, subtype_item, ObjectParts, object_parts, make_objects, objects, number_parts, make_numbers, object_item, first_actual, next_actuals, InstanceParts, instance_parts, make_instance, instance_of, instance, use_clause, pragma, type_item, plain_item, plain_item_first, item, item_first, items}
use Rattle.ada_grammar.proofs.ExpressionNames.{law_identifier, law_dotted}
use Rattle.ada_grammar.proofs.ExpressionArgs.{some_arg, some_arg_placed}
use Rattle.ada_grammar.proofs.ExpressionLaws.{law_expr, law_arg, law_next_arg}
use Rattle.ada_grammar.proofs.ItemParts.{law_next_identifiers, law_indication, law_use, law_pragma}
use Rattle.ada_grammar.proofs.Range.{GoodConstraint, law_constraint}
use Rattle.ada_grammar.proofs.ItemTypes.{word_spelling, symbol_spelling, left_spelling, id_spelling, deeper, TypeParts, make_type, type_parts, GoodType, type_spelling, law_type_parts, same_type, GoodPlain, good_type, spelled_type}

-- ---- subtypes

abbrev subtype_parts : ℕ → Reader SubtypeParts
subtype_parts d =
    seq (word Apart w.KwSubtype) (seq (identifier Apart) (seq (word Apart w.KwIs) (seq (dotted Apart)
    (seq (optional (of_word w.KwRange ∷ []) (constraint d)) (symbol Apart s.Semicolon)))))

abbrev GoodSubtype : ℕ → SubtypeParts → Type 0
GoodSubtype d = Both Any (Both Any (Both Any (Both DottedPlaced (Both (Maybe (GoodConstraint d)) Any))))

abbrev subtype_spelling : ℕ → SubtypeParts → List WeighedToken
subtype_spelling d =
    joined (word_spelling w.KwSubtype) (joined id_spelling (joined (word_spelling w.KwIs) (joined (dotted_spelling Apart)
    (joined (maybe_spelled (λ x. constraint_spelling d x.0 x.1.0 x.1.1.0 x.1.1.1)) (symbol_spelling s.Semicolon)))))

law_subtype : (d : ℕ) → d ≤ NESTING → Law (subtype_parts d) (GoodSubtype d) (subtype_spelling d) (of_word w.KwSubtype ∷ []) [] false
law_subtype d h =
    law_wider (of_word w.KwSubtype ∷ []) []
    (law_seq (law_word Apart w.KwSubtype) (law_seq (law_identifier Apart) (law_seq (law_word Apart w.KwIs) (law_seq (law_dotted Apart)
    (law_seq (law_optional (of_word w.KwRange ∷ []) (law_constraint d h) refl) (law_symbol Apart s.Semicolon) refl) refl) refl) refl) refl)
    refl refl

good_subtype : (d : ℕ) (x : SubtypeParts) → GoodSubtype d x → GoodPlain d (make_subtype x)
unfolding ItemPlaced ItemNamed
good_subtype d (pos, (id, (is, (mark, (None, semicolon))))) good = (tt, (good.1.1.1.0, tt))
good_subtype d (pos, (id, (is, (mark, (Some x, semicolon))))) good =
    let bounds = good.1.1.1.1.0 in (tt, ((good.1.1.1.0, bounds.1.0, bounds.1.1.1), tt))

spelled_subtype : (d : ℕ) (x : SubtypeParts) → item_spelling d (make_subtype x) ≡ subtype_spelling d x
unfolding item_spelling
spelled_subtype d (pos, (id, (is, (mark, (None, semicolon))))) = refl
spelled_subtype d (pos, (id, (is, (mark, (Some x, semicolon))))) = refl

-- ---- objects

abbrev GoodObjects : ℕ → ObjectParts → Type 0
GoodObjects d = Both IndicationPlaced (Both (Maybe (Both Any (ExprPlaced d))) Any)

abbrev objects_spelling : ℕ → ObjectParts → List WeighedToken
objects_spelling d =
    joined indication_spelling (joined (maybe_spelled (joined (symbol_spelling s.Becomes) (expr_spelling d))) (symbol_spelling s.Semicolon))

abbrev NumberParts : Type 0
NumberParts = Pos × (Expr × Pos)

abbrev GoodNumbers : ℕ → NumberParts → Type 0
GoodNumbers d = Both Any (Both (ExprPlaced d) Any)

abbrev numbers_spelling : ℕ → NumberParts → List WeighedToken
numbers_spelling d = joined (symbol_spelling s.Becomes) (joined (expr_spelling d) (symbol_spelling s.Semicolon))

-- after ":"
abbrev Declared : Type 0
Declared = (Pos × (NumberParts ⊎ ObjectParts)) ⊎ ObjectParts

abbrev declared_parts : ℕ → Reader Declared
declared_parts d =
    choose (of_word w.KwConstant ∷ [])
    (seq (word Apart w.KwConstant) (choose (of_symbol s.Becomes ∷ []) (number_parts d) (object_parts d))) (object_parts d)

abbrev make_constant : Identifier → List NextIdentifier → Pos → Pos → NumberParts ⊎ ObjectParts → Item
make_constant first rest colon constant = cases (make_numbers first rest colon constant) (make_objects first rest colon (Some constant))

abbrev make_declared : Identifier → List NextIdentifier → Pos → Declared → Item
make_declared first rest colon = cases (of_pair (make_constant first rest colon)) (make_objects first rest colon None)

abbrev Objects : Type 0
Objects = Identifier × (List NextIdentifier × (Pos × Declared))

abbrev make_object : Objects → Item
make_object = of_pair (λ first. of_pair (λ rest. of_pair (λ colon. make_declared first rest colon)))

abbrev whole_object : ℕ → Reader Objects
whole_object d = seq (identifier Apart) (seq next_identifiers (seq (symbol Apart s.Colon) (declared_parts d)))

abbrev GoodObject : ℕ → Objects → Type 0
GoodObject d = Both Any (Both Any (Both Any (Either (Both Any (Either (GoodNumbers d) (GoodObjects d))) (GoodObjects d))))

abbrev object_spelling : ℕ → Objects → List WeighedToken
object_spelling d =
    joined id_spelling (joined (flat_map next_identifier_spelling) (joined (symbol_spelling s.Colon)
    (of_either (joined (word_spelling w.KwConstant) (of_either (numbers_spelling d) (objects_spelling d))) (objects_spelling d))))

law_objects : (d : ℕ) → d ≤ NESTING → Law (object_parts d) (GoodObjects d) (objects_spelling d) indication_first [] false
law_objects d h =
    law_wider indication_first []
    (law_seq law_indication (law_seq (law_optional (of_symbol s.Becomes ∷ []) (law_seq (law_symbol Apart s.Becomes) (law_expr d h) refl) refl)
    (law_symbol Apart s.Semicolon) refl) refl) refl refl

law_object : (d : ℕ) → d ≤ NESTING → Law (whole_object d) (GoodObject d) (object_spelling d) identifier_first [] false
law_object d h =
    law_wider identifier_first []
    (law_seq (law_identifier Apart) (law_seq law_next_identifiers (law_seq (law_symbol Apart s.Colon)
    (law_choose (of_word w.KwConstant ∷ [])
    (law_seq (law_word Apart w.KwConstant)
    (law_choose (of_symbol s.Becomes ∷ [])
    (law_seq (law_symbol Apart s.Becomes) (law_seq (law_expr d h) (law_symbol Apart s.Semicolon) refl) refl) (law_objects d h) refl refl) refl)
    (law_objects d h) refl refl) refl) refl) refl) refl refl

good_object : (d : ℕ) (x : Objects) → GoodObject d x → GoodPlain d (make_object x)
unfolding ItemPlaced ItemNamed
good_object d (first, (rest, (colon, inl (constant, inl x)))) good = (tt, ((refl, good.1.1.1.1.1.0), tt))
good_object d (first, (rest, (colon, inl (constant, inr (indicated, (None, semicolon)))))) good = (tt, ((refl, good.1.1.1.1.0), tt))
good_object d (first, (rest, (colon, inl (constant, inr (indicated, (Some x, semicolon)))))) good =
    let parts = good.1.1.1.1 in (tt, ((refl, parts.0, parts.1.0.1), tt))
good_object d (first, (rest, (colon, inr (indicated, (None, semicolon))))) good = (tt, ((refl, good.1.1.1.0), tt))
good_object d (first, (rest, (colon, inr (indicated, (Some x, semicolon))))) good =
    let parts = good.1.1.1 in (tt, ((refl, parts.0, parts.1.0.1), tt))

spelled_object : (d : ℕ) (x : Objects) → item_spelling d (make_object x) ≡ object_spelling d x
unfolding item_spelling
spelled_object d (first, (rest, (colon, inl (constant, inl x)))) = refl
spelled_object d (first, (rest, (colon, inl (constant, inr (indicated, (None, semicolon)))))) = refl
spelled_object d (first, (rest, (colon, inl (constant, inr (indicated, (Some x, semicolon)))))) = refl
spelled_object d (first, (rest, (colon, inr (indicated, (None, semicolon))))) = refl
spelled_object d (first, (rest, (colon, inr (indicated, (Some x, semicolon))))) = refl

same_object : (d : ℕ) → Same (object_item d) (to make_object (whole_object d))
unfolding object_item objects
same_object d =
    chain_seq (λ first. of_pair (λ rest. of_pair (make_declared first rest))) (identifier Apart)
    (seq next_identifiers (seq (symbol Apart s.Colon) (declared_parts d)))
    (λ first. chain next_identifiers (λ rest. chain (symbol Apart s.Colon) (λ colon. declared first rest colon)))
    (λ first. chain_seq (λ rest. of_pair (make_declared first rest)) next_identifiers (seq (symbol Apart s.Colon) (declared_parts d))
    (λ rest. chain (symbol Apart s.Colon) (λ colon. declared first rest colon))
    (λ rest. chain_seq (make_declared first rest) (symbol Apart s.Colon) (declared_parts d) (declared first rest)
    (λ colon. either_choice (of_word w.KwConstant ∷ []) (of_pair (make_constant first rest colon)) (make_objects first rest colon None)
    (seq (word Apart w.KwConstant) (choose (of_symbol s.Becomes ∷ []) (number_parts d) (object_parts d))) (object_parts d)
    (chain (word Apart w.KwConstant) (constant_declared first rest colon)) (objects d first rest colon None)
    (chain_seq (make_constant first rest colon) (word Apart w.KwConstant) (choose (of_symbol s.Becomes ∷ []) (number_parts d) (object_parts d))
    (constant_declared first rest colon)
    (λ constant. either_choice (of_symbol s.Becomes ∷ []) (make_numbers first rest colon constant) (make_objects first rest colon (Some constant))
    (number_parts d) (object_parts d) (to (make_numbers first rest colon constant) (number_parts d)) (objects d first rest colon (Some constant))
    (λ k ts. refl) (λ k ts. refl)))
    (λ k ts. refl))))
  where
    constant_declared : Identifier → List NextIdentifier → Pos → Pos → Reader Item
    constant_declared first rest colon constant =
        either (of_symbol s.Becomes ∷ []) (to (make_numbers first rest colon constant) (number_parts d)) (objects d first rest colon (Some constant))

    declared : Identifier → List NextIdentifier → Pos → Reader Item
    declared first rest colon =
        either (of_word w.KwConstant ∷ []) (chain (word Apart w.KwConstant) (constant_declared first rest colon)) (objects d first rest colon None)

-- ---- each item that is no instance

abbrev PlainParts : Type 0
PlainParts = TypeParts ⊎ (SubtypeParts ⊎ (UseClause ⊎ (PragmaClause ⊎ Objects)))

abbrev of_use : UseClause → Item
of_use clause = item_tree.Use clause.pos clause

abbrev of_pragma : PragmaClause → Item
of_pragma clause = item_tree.Pragma clause.pos clause

abbrev make_plain : PlainParts → Item
make_plain = cases make_type (cases make_subtype (cases of_use (cases of_pragma make_object)))

abbrev GoodPlainParts : ℕ → PlainParts → Type 0
GoodPlainParts d = Either (GoodType d) (Either (GoodSubtype d) (Either UsePlaced (Either PragmaNamed (GoodObject d))))

abbrev plain_spelling : ℕ → PlainParts → List WeighedToken
plain_spelling d = of_either (type_spelling d) (of_either (subtype_spelling d) (of_either use_spelling (of_either (pragma_spelling d) (object_spelling d))))

abbrev plain_parts : ℕ → Reader PlainParts
plain_parts d =
    choose (of_word w.KwType ∷ []) (type_parts d) (choose (of_word w.KwSubtype ∷ []) (subtype_parts d)
    (choose (of_word w.KwUse ∷ []) use_clause (choose (of_word w.KwPragma ∷ []) (pragma d) (whole_object d))))

good_plain : (d : ℕ) (x : PlainParts) → GoodPlainParts d x → GoodPlain d (make_plain x)
unfolding ItemPlaced ItemNamed
good_plain d (inl x) good = good_type d x good
good_plain d (inr (inl x)) good = good_subtype d x good
good_plain d (inr (inr (inl clause))) good = (tt, ((refl, good), tt))
good_plain d (inr (inr (inr (inl clause)))) good = (tt, (refl, good))
good_plain d (inr (inr (inr (inr x)))) good = good_object d x good

spelled_plain : (d : ℕ) (x : PlainParts) → item_spelling d (make_plain x) ≡ plain_spelling d x
unfolding item_spelling
spelled_plain d (inl x) = spelled_type d x
spelled_plain d (inr (inl x)) = spelled_subtype d x
spelled_plain d (inr (inr (inl clause))) = refl
spelled_plain d (inr (inr (inr (inl clause)))) = refl
spelled_plain d (inr (inr (inr (inr x)))) = spelled_object d x

onto_plain : (d : ℕ) (a : Item) → GoodPlain d a → (x : PlainParts) × (GoodPlainParts d x × (make_plain x ≡ a))
unfolding ItemPlaced ItemNamed
onto_plain d (item_tree.IncompleteType pos id semicolon) good = (inl (pos, (id, inl semicolon)), ((tt, (tt, tt)), refl))
onto_plain d (item_tree.PrivateType pos id is private semicolon) good =
    (inl (pos, (id, inr (is, inl (private, semicolon)))), ((tt, (tt, (tt, (tt, tt)))), refl))
onto_plain d (item_tree.EnumerationType pos id is left_paren first rest right_paren semicolon) good = (
  inl (pos, (id, inr (is, inr (inr (inr (inr (left_paren, (first, (rest, (right_paren, semicolon)))))))))),
  ((tt, (tt, (tt, (tt, (tt, (tt, (tt, tt))))))), refl),
)
onto_plain d (item_tree.RecordType pos id is record_word first rest end end_record semicolon) good = (
  inl (pos, (id, inr (is, inr (inr (inr (inl (record_word, (first, (rest, (end, (end_record, semicolon))))))))))),
  ((tt, (tt, (tt, (tt, (good.1.0.0, (good.1.0.1, (tt, (tt, tt)))))))), refl),
)
onto_plain d (item_tree.ArrayType pos id is array left_paren index right_paren of_word element semicolon) good = (
  inl (pos, (id, inr (is, inr (inr (inl (array, (left_paren, (index, (right_paren, (of_word, (element, semicolon))))))))))),
  ((tt, (tt, (tt, (tt, (tt, (good.1.0.0, (tt, (tt, (good.1.0.1, tt))))))))), refl),
)
onto_plain d (item_tree.AccessType pos id is access designated semicolon) good =
    (inl (pos, (id, inr (is, inr (inl (access, (designated, semicolon)))))), ((tt, (tt, (tt, (tt, (good.1.0, tt))))), refl))
onto_plain d (item_tree.Subtype pos id is mark semicolon) good =
    (inr (inl (pos, (id, (is, (mark, (None, semicolon)))))), ((tt, (tt, (tt, (good.1.0, (tt, tt))))), refl))
onto_plain d (item_tree.ConstrainedSubtype pos id is mark of_range low dots high semicolon) good = (
  inr (inl (pos, (id, (is, (mark, (Some (of_range, (low, (dots, high))), semicolon)))))),
  ((tt, (tt, (tt, (good.1.0.0, ((tt, (good.1.0.1, (tt, good.1.0.2))), tt))))), refl),
)
onto_plain d (item_tree.Objects pos first rest colon None indicated semicolon) good = (
  inr (inr (inr (inr (first, (rest, (colon, inr (indicated, (None, semicolon)))))))),
  (
    (tt, (tt, (tt, (good.1.0.1, (tt, tt))))),
    ap (λ p. item_tree.Objects p first rest colon None indicated semicolon) good.1.0.0,
  ),
)
onto_plain d (item_tree.Objects pos first rest colon (Some constant) indicated semicolon) good = (
  inr (inr (inr (inr (first, (rest, (colon, inl (constant, inr (indicated, (None, semicolon))))))))),
  (
    (tt, (tt, (tt, (tt, (good.1.0.1, (tt, tt)))))),
    ap (λ p. item_tree.Objects p first rest colon (Some constant) indicated semicolon) good.1.0.0,
  ),
)
onto_plain d (item_tree.InitializedObjects pos first rest colon None indicated becomes value semicolon) good = (
  inr (inr (inr (inr (first, (rest, (colon, inr (indicated, (Some (becomes, value), semicolon)))))))),
  (
    (tt, (tt, (tt, (good.1.0.1, ((tt, good.1.0.2), tt))))),
    ap (λ p. item_tree.InitializedObjects p first rest colon None indicated becomes value semicolon) good.1.0.0,
  ),
)
onto_plain d (item_tree.InitializedObjects pos first rest colon (Some constant) indicated becomes value semicolon) good = (
  inr (inr (inr (inr (first, (rest, (colon, inl (constant, inr (indicated, (Some (becomes, value), semicolon))))))))),
  (
    (tt, (tt, (tt, (tt, (good.1.0.1, ((tt, good.1.0.2), tt)))))),
    ap (λ p. item_tree.InitializedObjects p first rest colon (Some constant) indicated becomes value semicolon) good.1.0.0,
  ),
)
onto_plain d (item_tree.Numbers pos first rest colon constant becomes value semicolon) good = (
  inr (inr (inr (inr (first, (rest, (colon, inl (constant, inl (becomes, (value, semicolon))))))))),
  (
    (tt, (tt, (tt, (tt, (tt, (good.1.0.1, tt)))))),
    ap (λ p. item_tree.Numbers p first rest colon constant becomes value semicolon) good.1.0.0,
  ),
)
onto_plain d (item_tree.Instance pos id is new generic left_paren first rest right_paren semicolon) good = absurd good.0
onto_plain d (item_tree.Use pos clause) good = (inr (inr (inl clause)), (good.1.0.1, ap (λ p. item_tree.Use p clause) good.1.0.0))
onto_plain d (item_tree.Pragma pos clause) good = (inr (inr (inr (inl clause))), (good.1.1, ap (λ p. item_tree.Pragma p clause) good.1.0))

same_plain : (d : ℕ) → Same (plain_item d) (to make_plain (plain_parts d))
unfolding plain_item subtype_item
same_plain d =
    either_choice (of_word w.KwType ∷ []) make_type after_type (type_parts d) (choose (of_word w.KwSubtype ∷ []) (subtype_parts d) other)
    (type_item d) (either (of_word w.KwSubtype ∷ []) (subtype_item d) read_other) (same_type d)
    (either_choice (of_word w.KwSubtype ∷ []) make_subtype after_subtype (subtype_parts d) other (subtype_item d) read_other (λ k ts. refl)
    (either_choice (of_word w.KwUse ∷ []) of_use after_use use_clause last (to of_use use_clause)
    (either (of_word w.KwPragma ∷ []) (to of_pragma (pragma d)) (object_item d)) (λ k ts. refl)
    (either_choice (of_word w.KwPragma ∷ []) of_pragma make_object (pragma d) (whole_object d) (to of_pragma (pragma d)) (object_item d)
    (λ k ts. refl) (same_object d))))
  where
    last : Reader (PragmaClause ⊎ Objects)
    last = choose (of_word w.KwPragma ∷ []) (pragma d) (whole_object d)

    other : Reader (UseClause ⊎ (PragmaClause ⊎ Objects))
    other = choose (of_word w.KwUse ∷ []) use_clause last

    after_use : PragmaClause ⊎ Objects → Item
    after_use = cases of_pragma make_object

    after_subtype : UseClause ⊎ (PragmaClause ⊎ Objects) → Item
    after_subtype = cases of_use after_use

    after_type : SubtypeParts ⊎ (UseClause ⊎ (PragmaClause ⊎ Objects)) → Item
    after_type = cases make_subtype after_subtype

    read_other : Reader Item
    read_other =
        either (of_word w.KwUse ∷ []) (to of_use use_clause) (either (of_word w.KwPragma ∷ []) (to of_pragma (pragma d)) (object_item d))

-- item = type | subtype | object | usecl | pragma
pub law_plain_item : (d : ℕ) → d ≤ NESTING → Law (plain_item d) (GoodPlain d) (item_spelling d) plain_item_first [] false
law_plain_item d h =
    law_wider plain_item_first []
    (law_same (plain_item d)
    (law_to make_plain (GoodPlain d) (item_spelling d)
    (law_choose (of_word w.KwType ∷ []) (law_type_parts d)
    (law_choose (of_word w.KwSubtype ∷ []) (law_subtype d h)
    (law_choose (of_word w.KwUse ∷ []) law_use
    (law_choose (of_word w.KwPragma ∷ []) (law_pragma d) (law_object d h) refl refl) refl refl) refl refl) refl refl)
    (good_plain d) (λ x good. spelled_plain d x) (onto_plain d)) (same_plain d)) refl refl

-- ---- instances

abbrev pub GoodInstance : ℕ → InstanceParts → Type 0
GoodInstance d =
    Both Any (Both DottedPlaced (Both Any (Both (ArgPlaced (suc d)) (Both (Each (NextArgPlaced (suc d))) (Both Any Any)))))

-- The spelling after "is".
abbrev pub instance_spelling : ℕ → InstanceParts → List WeighedToken
instance_spelling d =
    joined (word_spelling w.KwNew) (joined (dotted_spelling Apart) (joined (left_spelling d) (joined (arg_spelling Apart (suc d))
    (joined (flat_map (next_arg_spelling Apart (suc d))) (joined (symbol_spelling s.RightParenthesis) (symbol_spelling s.Semicolon))))))

law_first_actual : (d : ℕ) → leb NESTING d ≡ false
    → Law (first_actual d) (ArgPlaced (suc d)) (arg_spelling Apart (suc d)) expr_first arg_last false
unfolding first_actual
law_first_actual d e = law_arg Apart (suc d) (deeper d e)

law_next_actuals : (d : ℕ) → leb NESTING d ≡ false
    → Law (next_actuals d) (Each (NextArgPlaced (suc d))) (flat_map (next_arg_spelling Apart (suc d))) (of_symbol s.Comma ∷ []) (of_symbol s.Comma ∷ arg_last) true
unfolding next_actuals
law_next_actuals d e = law_each (of_symbol s.Comma ∷ []) (law_next_arg Apart (suc d) (deeper d e)) refl refl

-- "new" dotted "(" arg {"," arg} ")" ";"
pub law_instance_parts : (d : ℕ) → Law (instance_parts d) (GoodInstance d) (instance_spelling d) (of_word w.KwNew ∷ []) [] false
law_instance_parts d =
    law_seq (law_word Apart w.KwNew) (law_seq (law_dotted Apart)
    (law_opened_symbol (some_arg, ([], (some_position, some_position))) (some_arg_placed (suc d), (tt, (tt, tt))) Apart s.LeftParenthesis d
    (λ e. law_seq (law_first_actual d e) (law_seq (law_next_actuals d e)
    (law_seq (law_symbol Apart s.RightParenthesis) (law_symbol Apart s.Semicolon) refl) refl) refl)) refl) refl

abbrev pub WholeInstance : Type 0
WholeInstance = Pos × (Identifier × (Pos × InstanceParts))

abbrev pub make_whole_instance : WholeInstance → Item
make_whole_instance = of_pair (λ pos. of_pair (λ id. of_pair (λ is. make_instance pos id is)))

abbrev pub whole_instance : ℕ → Reader WholeInstance
whole_instance d = seq (word Apart w.KwProcedure) (seq (identifier Apart) (seq (word Apart w.KwIs) (instance_parts d)))

abbrev pub GoodWholeInstance : ℕ → WholeInstance → Type 0
GoodWholeInstance d = Both Any (Both Any (Both Any (GoodInstance d)))

abbrev pub whole_instance_spelling : ℕ → WholeInstance → List WeighedToken
whole_instance_spelling d = joined (word_spelling w.KwProcedure) (joined id_spelling (joined (word_spelling w.KwIs) (instance_spelling d)))

pub law_whole_instance : (d : ℕ)
    → Law (whole_instance d) (GoodWholeInstance d) (whole_instance_spelling d) (of_word w.KwProcedure ∷ []) [] false
law_whole_instance d =
    law_wider (of_word w.KwProcedure ∷ []) []
    (law_seq (law_word Apart w.KwProcedure) (law_seq (law_identifier Apart) (law_seq (law_word Apart w.KwIs) (law_instance_parts d) refl) refl) refl)
    refl refl

same_instance : (d : ℕ) → Same (instance d) (to make_whole_instance (whole_instance d))
unfolding instance instance_of
same_instance d =
    chain_seq (λ pos. of_pair (λ id. of_pair (make_instance pos id))) (word Apart w.KwProcedure)
    (seq (identifier Apart) (seq (word Apart w.KwIs) (instance_parts d)))
    (λ pos. chain (identifier Apart) (λ id. chain (word Apart w.KwIs) (λ is. instance_of d pos id is)))
    (λ pos. chain_seq (λ id. of_pair (make_instance pos id)) (identifier Apart) (seq (word Apart w.KwIs) (instance_parts d))
    (λ id. chain (word Apart w.KwIs) (λ is. instance_of d pos id is))
    (λ id. chain_seq (make_instance pos id) (word Apart w.KwIs) (instance_parts d) (λ is. instance_of d pos id is) (λ is. λ k ts. refl)))

-- ---- items

abbrev pub GoodItem : ℕ → Item → Type 0
GoodItem d a = ItemPlaced d a × ItemNamed a

abbrev ItemParts : Type 0
ItemParts = WholeInstance ⊎ Item

abbrev make_item : ItemParts → Item
make_item = cases make_whole_instance (λ a. a)

abbrev GoodItemParts : ℕ → ItemParts → Type 0
GoodItemParts d = Either (GoodWholeInstance d) (GoodPlain d)

pub good_instance : (d : ℕ) (x : WholeInstance) → GoodWholeInstance d x → GoodItem d (make_whole_instance x)
unfolding ItemPlaced ItemNamed
good_instance d x good = let parts = good.1.1.1 in ((parts.1.0, parts.1.1.1.0, parts.1.1.1.1.0), tt)

pub spelled_instance : (d : ℕ) (x : WholeInstance) → item_spelling d (make_whole_instance x) ≡ whole_instance_spelling d x
unfolding item_spelling
spelled_instance d x = refl

good_item : (d : ℕ) (x : ItemParts) → GoodItemParts d x → GoodItem d (make_item x)
good_item d (inl x) good = good_instance d x good
good_item d (inr a) good = good.1

spelled_item : (d : ℕ) (x : ItemParts) → item_spelling d (make_item x) ≡ of_either (whole_instance_spelling d) (item_spelling d) x
spelled_item d (inl x) = spelled_instance d x
spelled_item d (inr a) = refl

onto_item : (d : ℕ) (a : Item) → GoodItem d a → (x : ItemParts) × (GoodItemParts d x × (make_item x ≡ a))
unfolding ItemPlaced ItemNamed
onto_item d (item_tree.Instance pos id is new generic left_paren first rest right_paren semicolon) good = (
  inl (pos, (id, (is, (new, (generic, (left_paren, (first, (rest, (right_paren, semicolon))))))))),
  ((tt, (tt, (tt, (tt, (good.0.0, (tt, (good.0.1, (good.0.2, (tt, tt))))))))), refl),
)
onto_item d a good = (inr a, ((tt, good), refl))

same_item : (d : ℕ) → Same (item d) (to make_item (choose (of_word w.KwProcedure ∷ []) (whole_instance d) (plain_item d)))
unfolding item
same_item d =
    either_choice (of_word w.KwProcedure ∷ []) make_whole_instance (λ a. a) (whole_instance d) (plain_item d) (instance d) (plain_item d)
    (same_instance d) itself
  where
    of_outcome : (o : Outcome Item) → o ≡ and_then o (λ a j rest. Got a j rest)
    of_outcome (Got a j rest) = refl
    of_outcome (Fails c rest) = refl

    itself : Same (plain_item d) (to (λ a. a) (plain_item d))
    itself k ts = of_outcome (plain_item d k ts)

-- item = type | subtype | object | instance | usecl | pragma
pub law_item : (d : ℕ) → d ≤ NESTING → Law (item d) (GoodItem d) (item_spelling d) item_first [] false
law_item d h =
    law_wider item_first []
    (law_same (item d)
    (law_to make_item (GoodItem d) (item_spelling d)
    (law_choose (of_word w.KwProcedure ∷ []) (law_whole_instance d) (law_plain_item d h) refl refl)
    (good_item d) (λ x good. spelled_item d x) (onto_item d)) (same_item d)) refl refl

-- {item}
pub law_items : (d : ℕ) → d ≤ NESTING → Law (items d) (Each (GoodItem d)) (flat_map (item_spelling d)) item_first item_first true
law_items d h = law_each item_first (law_item d h) refl refl
