-- The law of declarations of types, as a reader of their parts.
use Rattle.std.proofs.Common.{◌≡◌, ◌≤◌, ◌<◌, refl, arith, ℕ, suc, true, false, List, [], ◌∷◌, ◌⊎◌, inl, inr}
use Rattle.std.specs.List.{flat_map}
use lib.Dec.{leb}
use Rattle.std.proofs.lemmas.Bool.Decides.{leb_tells}
use Rattle.spark_base.specs.declared.position.Pos.{Pos}
use Rattle.spark_base.specs.declared.limits.TheConstants.{NESTING}
use Rattle.ada_lexer.specs.declared.token.Reserved.{Reserved}
use Rattle.ada_lexer.specs.declared.token.Reserved.TheVariants as w
use Rattle.ada_lexer.specs.declared.token.Symbol.{Symbol}
use Rattle.ada_lexer.specs.declared.token.Symbol.TheVariants as s
use Rattle.token_reading.specs.declared.side.Side.TheVariants.{Apart}
use Rattle.token_reading.specs.Spelled.{Word, Delimiter}
use Rattle.token_reading.specs.Weights.{WeighedToken, opens}
use Rattle.token_reading.specs.Reading.{Reader, of_word, of_symbol, word, symbol, to, seq, chain, either, choose, Each}
use Rattle.token_reading.proofs.Law.{Law}
use Rattle.token_reading.proofs.Tokens.{Any, some_position, law_word, law_symbol}
use Rattle.token_reading.proofs.Seq.{Both, joined, law_seq}
use Rattle.token_reading.proofs.Made.{law_wider}
use Rattle.token_reading.proofs.Choice.{Either, cases, of_either, law_choose}
use Rattle.token_reading.proofs.Nesting.{law_opened_word, law_opened_symbol}
use Rattle.token_reading.proofs.Fronts.{Same, of_pair, either_choice, chain_seq}
use Rattle.ada_tree.specs.declared.identifier.Identifier.{Identifier}
use Rattle.ada_tree.specs.declared.identifier.Dotted.{Dotted}
use Rattle.ada_tree.specs.declared.range.Range.{Range}
use Rattle.ada_tree.specs.declared.range.Range.TheVariants as range_tree
use Rattle.ada_tree.specs.declared.declaration.Component.{Component}
use Rattle.ada_tree.specs.declared.declaration.Component.TheVariants as component_tree
use Rattle.ada_tree.specs.declared.declaration.Item.{Item}
use Rattle.ada_tree.specs.declared.declaration.Item.TheVariants as item_tree
use Rattle.ada_tree.specs.Spelling as spelling
use Rattle.ada_tree.specs.Spelling.{id_mark, dotted_spelling, next_identifier_spelling, range_spelling, component_spelling, item_spelling}
use Rattle.ada_tree.specs.WellPlaced.{DottedPlaced, RangePlaced, ComponentPlaced, ItemPlaced}
use Rattle.ada_tree.specs.FixedNames.{ItemNamed}
use Rattle.ada_grammar.specs.Expressions.{identifier, expr_first}
use Rattle.ada_grammar.specs.Items.{private_parts, make_private, access_parts, make_access, index_range, ArrayParts, array_parts, make_array, array_type, RecordParts, record_parts, make_record, record_type, EnumerationParts, enumeration_parts, make_enumeration, enumeration_type, defined_type, type_item}
use Rattle.ada_grammar.proofs.ExpressionNames.{law_identifier, law_dotted}
use Rattle.ada_grammar.proofs.ItemParts.{law_next_identifiers, law_component, law_next_components}
use Rattle.ada_grammar.proofs.Range.{range_last, law_range}

-- ---- tokens and trees

abbrev pub word_spelling : Reserved → Pos → List WeighedToken
word_spelling v pos = spelling.word Apart v pos ∷ []

abbrev pub symbol_spelling : Symbol → Pos → List WeighedToken
symbol_spelling v pos = spelling.symbol Apart v pos ∷ []

abbrev pub left_spelling : ℕ → Pos → List WeighedToken
left_spelling d pos = opens Apart d (Delimiter s.LeftParenthesis pos) ∷ []

abbrev pub id_spelling : Identifier → List WeighedToken
id_spelling id = id_mark Apart id ∷ []

abbrev some_identifier : Identifier
some_identifier = record { pos = some_position; text = [] }

abbrev some_mark : Dotted
some_mark = record { pos = some_position; first = some_identifier; rest = [] }

some_range : Range
some_range = range_tree.Marked some_position some_mark

some_range_placed : (d : ℕ) → RangePlaced d some_range
unfolding some_range RangePlaced DottedPlaced dotted_spelling
some_range_placed d = (refl, refl)

some_component : Component
some_component = component_tree.Fields some_position some_identifier [] some_position some_mark some_position

some_component_placed : ComponentPlaced some_component
unfolding some_component ComponentPlaced DottedPlaced
some_component_placed = (refl, refl)

some_mark_placed : DottedPlaced some_mark
unfolding DottedPlaced
some_mark_placed = refl

-- One more construct may be open.
pub deeper : (d : ℕ) → leb NESTING d ≡ false → suc d ≤ NESTING
deeper d e = of_test (leb_tells NESTING d)
  where
    of_test : ((leb NESTING d ≡ true) × (NESTING ≤ d)) ⊎ ((leb NESTING d ≡ false) × (d < NESTING)) → suc d ≤ NESTING
    of_test (inl t) = absurd (let same : leb NESTING d ≡ true = t.0 in cc)
    of_test (inr t) = let less : d < NESTING = t.1 in omega arith

-- ---- the kinds of types

abbrev GoodPrivate : Pos × Pos → Type 0
GoodPrivate = Both Any Any

abbrev private_spelling : Pos × Pos → List WeighedToken
private_spelling = joined (word_spelling w.KwPrivate) (symbol_spelling s.Semicolon)

abbrev AccessParts : Type 0
AccessParts = Pos × (Dotted × Pos)

abbrev GoodAccess : AccessParts → Type 0
GoodAccess = Both Any (Both DottedPlaced Any)

abbrev access_spelling : AccessParts → List WeighedToken
access_spelling = joined (word_spelling w.KwAccess) (joined (dotted_spelling Apart) (symbol_spelling s.Semicolon))

abbrev GoodArray : ℕ → ArrayParts → Type 0
GoodArray d = Both Any (Both Any (Both (RangePlaced (suc d)) (Both Any (Both Any (Both DottedPlaced Any)))))

abbrev array_spelling : ℕ → ArrayParts → List WeighedToken
array_spelling d =
    joined (word_spelling w.KwArray) (joined (left_spelling d) (joined (range_spelling (suc d)) (joined (symbol_spelling s.RightParenthesis)
    (joined (word_spelling w.KwOf) (joined (dotted_spelling Apart) (symbol_spelling s.Semicolon))))))

law_index_range : (d : ℕ) → leb NESTING d ≡ false → Law (index_range d) (RangePlaced (suc d)) (range_spelling (suc d)) expr_first range_last false
unfolding index_range
law_index_range d e = law_range (suc d) (deeper d e)

-- "array" "(" range ")" "of" mark ";"
law_array : (d : ℕ) → Law (array_parts d) (GoodArray d) (array_spelling d) (of_word w.KwArray ∷ []) [] false
law_array d =
    law_seq (law_word Apart w.KwArray)
    (law_opened_symbol (some_range, (some_position, (some_position, (some_mark, some_position)))) (some_range_placed (suc d), (tt, (tt, (some_mark_placed, tt))))
    Apart s.LeftParenthesis d
    (λ e. law_seq (law_index_range d e) (law_seq (law_symbol Apart s.RightParenthesis) (law_seq (law_word Apart w.KwOf)
    (law_seq (law_dotted Apart) (law_symbol Apart s.Semicolon) refl) refl) refl) refl)) refl

abbrev GoodRecord : RecordParts → Type 0
GoodRecord = Both Any (Both ComponentPlaced (Both (Each ComponentPlaced) (Both Any (Both Any Any))))

abbrev record_spelling : ℕ → RecordParts → List WeighedToken
record_spelling d =
    joined (λ p. opens Apart d (Word w.KwRecord p) ∷ []) (joined component_spelling (joined (flat_map component_spelling)
    (joined (word_spelling w.KwEnd) (joined (word_spelling w.KwRecord) (symbol_spelling s.Semicolon)))))

-- "record" comp {comp} "end" "record" ";"
law_record : (d : ℕ) → Law (record_parts d) GoodRecord (record_spelling d) (of_word w.KwRecord ∷ []) [] false
law_record d =
    law_opened_word (some_component, ([], (some_position, (some_position, some_position)))) (some_component_placed, (tt, (tt, (tt, tt)))) w.KwRecord d
    (λ e. law_seq law_component (law_seq law_next_components (law_seq (law_word Apart w.KwEnd) (law_seq (law_word Apart w.KwRecord)
    (law_symbol Apart s.Semicolon) refl) refl) refl) refl)

abbrev GoodEnumeration : EnumerationParts → Type 0
GoodEnumeration = Both Any (Both Any (Both Any (Both Any Any)))

abbrev enumeration_spelling : ℕ → EnumerationParts → List WeighedToken
enumeration_spelling d =
    joined (left_spelling d) (joined id_spelling (joined (flat_map next_identifier_spelling)
    (joined (symbol_spelling s.RightParenthesis) (symbol_spelling s.Semicolon))))

-- "(" id {"," id} ")" ";"
law_enumeration : (d : ℕ) → Law (enumeration_parts d) GoodEnumeration (enumeration_spelling d) (of_symbol s.LeftParenthesis ∷ []) [] false
law_enumeration d =
    law_opened_symbol (some_identifier, ([], (some_position, some_position))) (tt, (tt, (tt, tt))) Apart s.LeftParenthesis d
    (λ e. law_seq (law_identifier Apart) (law_seq law_next_identifiers (law_seq (law_symbol Apart s.RightParenthesis)
    (law_symbol Apart s.Semicolon) refl) refl) refl)

-- ---- after "is"

abbrev Defined : Type 0
Defined = (Pos × Pos) ⊎ (AccessParts ⊎ (ArrayParts ⊎ (RecordParts ⊎ EnumerationParts)))

abbrev make_defined : Pos → Identifier → Pos → Defined → Item
make_defined pos id is =
    cases (make_private pos id is) (cases (make_access pos id is) (cases (make_array pos id is)
    (cases (make_record pos id is) (make_enumeration pos id is))))

abbrev defined_parts : ℕ → Reader Defined
defined_parts d =
    choose (of_word w.KwPrivate ∷ []) private_parts (choose (of_word w.KwAccess ∷ []) access_parts
    (choose (of_word w.KwArray ∷ []) (array_parts d) (choose (of_word w.KwRecord ∷ []) (record_parts d) (enumeration_parts d))))

abbrev GoodDefined : ℕ → Defined → Type 0
GoodDefined d = Either GoodPrivate (Either GoodAccess (Either (GoodArray d) (Either GoodRecord GoodEnumeration)))

abbrev defined_spelling : ℕ → Defined → List WeighedToken
defined_spelling d =
    of_either private_spelling (of_either access_spelling (of_either (array_spelling d) (of_either (record_spelling d) (enumeration_spelling d))))

abbrev defined_first : List ℕ
defined_first =
    of_word w.KwPrivate ∷ of_word w.KwAccess ∷ of_word w.KwArray ∷ of_word w.KwRecord ∷ of_symbol s.LeftParenthesis ∷ []

law_defined : (d : ℕ) → Law (defined_parts d) (GoodDefined d) (defined_spelling d) defined_first [] false
law_defined d =
    law_wider defined_first []
    (law_choose (of_word w.KwPrivate ∷ []) (law_seq (law_word Apart w.KwPrivate) (law_symbol Apart s.Semicolon) refl)
    (law_choose (of_word w.KwAccess ∷ []) (law_seq (law_word Apart w.KwAccess) (law_seq (law_dotted Apart) (law_symbol Apart s.Semicolon) refl) refl)
    (law_choose (of_word w.KwArray ∷ []) (law_array d)
    (law_choose (of_word w.KwRecord ∷ []) (law_record d) (law_enumeration d) refl refl) refl refl) refl refl) refl refl) refl refl

same_defined : (d : ℕ) (pos : Pos) (id : Identifier) (is : Pos) → Same (defined_type d pos id is) (to (make_defined pos id is) (defined_parts d))
unfolding defined_type array_type record_type enumeration_type
same_defined d pos id is =
    either_choice (of_word w.KwPrivate ∷ []) (make_private pos id is) after_private private_parts (choose (of_word w.KwAccess ∷ []) access_parts other)
    (to (make_private pos id is) private_parts) (either (of_word w.KwAccess ∷ []) (to (make_access pos id is) access_parts) read_other) (λ k ts. refl)
    (either_choice (of_word w.KwAccess ∷ []) (make_access pos id is) after_access access_parts other
    (to (make_access pos id is) access_parts) read_other (λ k ts. refl)
    (either_choice (of_word w.KwArray ∷ []) (make_array pos id is) after_array (array_parts d) last
    (array_type d pos id is) (either (of_word w.KwRecord ∷ []) (record_type d pos id is) (enumeration_type d pos id is)) (λ k ts. refl)
    (either_choice (of_word w.KwRecord ∷ []) (make_record pos id is) (make_enumeration pos id is) (record_parts d) (enumeration_parts d)
    (record_type d pos id is) (enumeration_type d pos id is) (λ k ts. refl) (λ k ts. refl))))
  where
    last : Reader (RecordParts ⊎ EnumerationParts)
    last = choose (of_word w.KwRecord ∷ []) (record_parts d) (enumeration_parts d)

    other : Reader (ArrayParts ⊎ (RecordParts ⊎ EnumerationParts))
    other = choose (of_word w.KwArray ∷ []) (array_parts d) last

    after_array : RecordParts ⊎ EnumerationParts → Item
    after_array = cases (make_record pos id is) (make_enumeration pos id is)

    after_access : ArrayParts ⊎ (RecordParts ⊎ EnumerationParts) → Item
    after_access = cases (make_array pos id is) after_array

    after_private : AccessParts ⊎ (ArrayParts ⊎ (RecordParts ⊎ EnumerationParts)) → Item
    after_private = cases (make_access pos id is) after_access

    read_other : Reader Item
    read_other =
        either (of_word w.KwArray ∷ []) (array_type d pos id is)
        (either (of_word w.KwRecord ∷ []) (record_type d pos id is) (enumeration_type d pos id is))

-- ---- declarations of types

abbrev pub TypeParts : Type 0
TypeParts = Pos × (Identifier × (Pos ⊎ (Pos × Defined)))

abbrev make_named : Pos → Identifier → Pos ⊎ (Pos × Defined) → Item
make_named pos id = cases (λ semicolon. item_tree.IncompleteType pos id semicolon) (of_pair (λ is. make_defined pos id is))

abbrev pub make_type : TypeParts → Item
make_type = of_pair (λ pos. of_pair (λ id. make_named pos id))

abbrev named_parts : ℕ → Reader (Pos ⊎ (Pos × Defined))
named_parts d = choose (of_symbol s.Semicolon ∷ []) (symbol Apart s.Semicolon) (seq (word Apart w.KwIs) (defined_parts d))

abbrev pub type_parts : ℕ → Reader TypeParts
type_parts d = seq (word Apart w.KwType) (seq (identifier Apart) (named_parts d))

abbrev pub GoodType : ℕ → TypeParts → Type 0
GoodType d = Both Any (Both Any (Either Any (Both Any (GoodDefined d))))

abbrev pub type_spelling : ℕ → TypeParts → List WeighedToken
type_spelling d =
    joined (word_spelling w.KwType) (joined id_spelling (of_either (symbol_spelling s.Semicolon) (joined (word_spelling w.KwIs) (defined_spelling d))))

pub law_type_parts : (d : ℕ) → Law (type_parts d) (GoodType d) (type_spelling d) (of_word w.KwType ∷ []) [] false
law_type_parts d =
    law_wider (of_word w.KwType ∷ []) []
    (law_seq (law_word Apart w.KwType) (law_seq (law_identifier Apart) (law_choose (of_symbol s.Semicolon ∷ []) (law_symbol Apart s.Semicolon)
    (law_seq (law_word Apart w.KwIs) (law_defined d) refl) refl refl) refl) refl) refl refl

pub same_type : (d : ℕ) → Same (type_item d) (to make_type (type_parts d))
unfolding type_item
same_type d =
    chain_seq (λ pos. of_pair (λ id. make_named pos id)) (word Apart w.KwType) (seq (identifier Apart) (named_parts d))
    (λ pos. chain (identifier Apart) (λ id. named pos id))
    (λ pos. chain_seq (make_named pos) (identifier Apart) (named_parts d) (named pos)
    (λ id. either_choice (of_symbol s.Semicolon ∷ []) (λ semicolon. item_tree.IncompleteType pos id semicolon) (of_pair (λ is. make_defined pos id is))
    (symbol Apart s.Semicolon) (seq (word Apart w.KwIs) (defined_parts d))
    (to (λ semicolon. item_tree.IncompleteType pos id semicolon) (symbol Apart s.Semicolon)) (defined pos id) (λ k ts. refl)
    (chain_seq (λ is. make_defined pos id is) (word Apart w.KwIs) (defined_parts d) (λ is. defined_type d pos id is) (λ is. same_defined d pos id is))))
  where
    defined : Pos → Identifier → Reader Item
    defined pos id = chain (word Apart w.KwIs) (λ is. defined_type d pos id is)

    named : Pos → Identifier → Reader Item
    named pos id =
        either (of_symbol s.Semicolon ∷ []) (to (λ semicolon. item_tree.IncompleteType pos id semicolon) (symbol Apart s.Semicolon)) (defined pos id)

-- Each item that is no instance.
abbrev pub IsPlain : Item → Type 0
IsPlain (item_tree.Instance pos id is new generic left_paren first rest right_paren semicolon) = ⊥
IsPlain _ = Unit {0}

abbrev pub GoodPlain : ℕ → Item → Type 0
GoodPlain d a = IsPlain a × (ItemPlaced d a × ItemNamed a)

pub good_type : (d : ℕ) (x : TypeParts) → GoodType d x → GoodPlain d (make_type x)
unfolding ItemPlaced ItemNamed
good_type d (pos, (id, inl semicolon)) good = (tt, (tt, tt))
good_type d (pos, (id, inr (is, inl x))) good = (tt, (tt, tt))
good_type d (pos, (id, inr (is, inr (inl x)))) good = (tt, (good.1.1.1.1.0, tt))
good_type d (pos, (id, inr (is, inr (inr (inl x))))) good = (tt, ((good.1.1.1.1.1.0, good.1.1.1.1.1.1.1.1.0), tt))
good_type d (pos, (id, inr (is, inr (inr (inr (inl x)))))) good = (tt, ((good.1.1.1.1.0, good.1.1.1.1.1.0), tt))
good_type d (pos, (id, inr (is, inr (inr (inr (inr x)))))) good = (tt, (tt, tt))

pub spelled_type : (d : ℕ) (x : TypeParts) → item_spelling d (make_type x) ≡ type_spelling d x
unfolding item_spelling
spelled_type d (pos, (id, inl semicolon)) = refl
spelled_type d (pos, (id, inr (is, inl x))) = refl
spelled_type d (pos, (id, inr (is, inr (inl x)))) = refl
spelled_type d (pos, (id, inr (is, inr (inr (inl x))))) = refl
spelled_type d (pos, (id, inr (is, inr (inr (inr (inl x)))))) = refl
spelled_type d (pos, (id, inr (is, inr (inr (inr (inr x)))))) = refl
