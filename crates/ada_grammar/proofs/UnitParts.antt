-- The laws of what subprograms and packages are made of: modes, formals, fronts of subprograms, and
-- what follows "is" and "end".
use Rattle.std.proofs.Common.{◌≡◌, refl, sym, ap, ◌∙◌, ℕ, suc, ◌≤◌, true, false, List, [], ◌∷◌, Option, Some, None, ◌⊎◌, inl, inr}
use Rattle.std.specs.List.{flat_map}
use Rattle.spark_base.specs.declared.position.Pos.{Pos}
use Rattle.spark_base.specs.declared.limits.TheConstants.{NESTING}
use Rattle.ada_lexer.specs.declared.token.Reserved.TheVariants as w
use Rattle.ada_lexer.specs.declared.token.Symbol.TheVariants as s
use Rattle.token_reading.specs.declared.side.Side.TheVariants.{Apart}
use Rattle.token_reading.specs.Spelled.{Delimiter}
use Rattle.token_reading.specs.Weights.{WeighedToken, opens}
use Rattle.token_reading.specs.Reading.{of_word, of_symbol, of_ident, Each}
use Rattle.token_reading.proofs.Law.{Law}
use Rattle.token_reading.proofs.Tokens.{Any, some_position, some_same, law_word, law_symbol}
use Rattle.token_reading.proofs.Seq.{Both, joined, law_seq}
use Rattle.token_reading.proofs.Made.{law_to, law_wider, law_reworded}
use Rattle.token_reading.proofs.Choice.{Either, of_either, law_choose}
use Rattle.token_reading.proofs.Many.{law_each}
use Rattle.token_reading.proofs.Nesting.{law_opened_symbol}
use Rattle.ada_tree.specs.declared.identifier.Identifier.{Identifier}
use Rattle.ada_tree.specs.declared.identifier.NextIdentifier.{NextIdentifier}
use Rattle.ada_tree.specs.declared.subprogram.ModeOn.{ModeOn}
use Rattle.ada_tree.specs.declared.subprogram.SparkMode.{SparkMode}
use Rattle.ada_tree.specs.declared.subprogram.Formal.{Formal}
use Rattle.ada_tree.specs.declared.subprogram.Formal.TheVariants as formal_tree
use Rattle.ada_tree.specs.declared.subprogram.NextFormal.{NextFormal}
use Rattle.ada_tree.specs.declared.subprogram.NextFormal.TheVariants as next_formal_tree
use Rattle.ada_tree.specs.declared.subprogram.Formals.{Formals}
use Rattle.ada_tree.specs.declared.subprogram.Subspec.{Subspec}
use Rattle.ada_tree.specs.declared.unit.SubprogramBody.{SubprogramBody}
use Rattle.ada_tree.specs.Spelling as spelling
use Rattle.ada_tree.specs.Spelling.{id_mark, optional_word, optional_id, dotted_spelling, next_identifier_spelling, indication_spelling, item_spelling, stmts_spelling, mode_on_spelling, mode_spelling, formal_spelling, next_formal_spelling, formals_spelling, subspec_spelling}
use Rattle.ada_tree.specs.WellPlaced.{EachSome, StartsAt, DottedPlaced, IndicationPlaced, ItemPlaced, FormalPlaced, NextFormalPlaced, FormalsPlaced, SubspecPlaced, SubprogramPlaced}
use Rattle.ada_tree.specs.FixedNames.{IsCalled, mode_name, on_name, ModeOnNamed, ModeNamed, ItemNamed, SubprogramNamed}
use Rattle.ada_grammar.specs.Expressions.{dotted_last}
use Rattle.ada_grammar.specs.Items.{item_first}
use Rattle.ada_grammar.specs.Units.{make_mode_on, mode_on, make_mode, spark_mode, mode, AnonymousParts, ModedParts, make_formal, formal, make_next_formal, next_formal, make_formals, formals, optional_formals, FunctionParts, function_parts, closing_name, closing, SubprogramParts, subprogram_parts, make_body}
use Rattle.ada_grammar.proofs.ExpressionNames.{law_identifier, law_dotted}
use Rattle.ada_grammar.proofs.ItemParts.{law_optional_part, law_optional_word, law_next_identifiers, law_called, law_indication}
use Rattle.ada_grammar.proofs.Item.{GoodItem, law_items}
use Rattle.ada_grammar.proofs.StatementParts.{each_both, both_each}
use Rattle.ada_grammar.proofs.BranchStatements.{GoodStmts}
use Rattle.ada_grammar.proofs.Statements.{law_stmts}

-- ---- modes

onto_mode_on : (a : ModeOn) → ModeOnNamed a → (x : Pos × Identifier) × (Both Any (IsCalled on_name) x × (make_mode_on x ≡ a))
unfolding ModeOnNamed
onto_mode_on a good = ((a.pos, a.on), ((tt, good), refl))

-- "=>" On
pub law_mode_on : Law mode_on ModeOnNamed mode_on_spelling (of_symbol s.Arrow ∷ []) [] false
unfolding mode_on mode_on_spelling ModeOnNamed
law_mode_on =
    law_to make_mode_on ModeOnNamed mode_on_spelling (law_seq (law_symbol Apart s.Arrow) (law_called on_name refl) refl)
    (λ x good. good.1) (λ x good. refl) onto_mode_on

onto_mode : (a : SparkMode) → ModeNamed a
    → (x : Pos × (Identifier × Option ModeOn)) × (Both Any (Both (IsCalled mode_name) (EachSome ModeOnNamed)) x × (make_mode x ≡ a))
unfolding ModeNamed
onto_mode a good = ((a.pos, (a.name, a.value)), ((tt, good), refl))

-- "with" SPARK_Mode ["=>" On]
pub law_spark_mode : Law spark_mode ModeNamed mode_spelling (of_word w.KwWith ∷ []) (of_symbol s.Arrow ∷ []) false
unfolding spark_mode mode_spelling ModeNamed
law_spark_mode =
    law_to make_mode ModeNamed mode_spelling (law_seq (law_word Apart w.KwWith) (law_seq (law_called mode_name refl)
    (law_optional_part (of_symbol s.Arrow ∷ []) law_mode_on refl) refl) refl)
    (λ x good. good.1) (λ x good. refl) onto_mode

abbrev pub mode_last : List ℕ
mode_last = of_word w.KwWith ∷ of_symbol s.Arrow ∷ []

-- mode = ["with" SPARK_Mode ["=>" On]]
pub law_mode : Law mode (EachSome ModeNamed) (spelling.optional mode_spelling) (of_word w.KwWith ∷ []) mode_last true
unfolding mode
law_mode = law_optional_part (of_word w.KwWith ∷ []) law_spark_mode refl

-- ---- formals

abbrev FormalParts : Type 0
FormalParts = Identifier × (List NextIdentifier × (Pos × (AnonymousParts ⊎ ModedParts)))

abbrev GoodFormal : FormalParts → Type 0
GoodFormal = Both Any (Both Any (Both Any (Either (Both Any (Both Any DottedPlaced)) (Both Any (Both Any DottedPlaced)))))

good_formal : (x : FormalParts) → GoodFormal x → FormalPlaced (make_formal x)
unfolding FormalPlaced
good_formal (first, (rest, (colon, inl x))) good = (refl, good.1.1.1.1.1)
good_formal (first, (rest, (colon, inr x))) good = (refl, good.1.1.1.1.1)

abbrev formal_parts_spelling : FormalParts → List WeighedToken
formal_parts_spelling =
    joined (λ id. id_mark Apart id ∷ []) (joined (flat_map next_identifier_spelling) (joined (λ p. spelling.symbol Apart s.Colon p ∷ [])
    (of_either (joined (λ p. spelling.word Apart w.KwAccess p ∷ []) (joined (optional_word w.KwConstant) (dotted_spelling Apart)))
    (joined (optional_word w.KwIn) (joined (optional_word w.KwOut) (dotted_spelling Apart))))))

spelled_formal : (x : FormalParts) → formal_spelling (make_formal x) ≡ formal_parts_spelling x
unfolding formal_spelling
spelled_formal (first, (rest, (colon, inl x))) = refl
spelled_formal (first, (rest, (colon, inr x))) = refl

onto_formal : (a : Formal) → FormalPlaced a → (x : FormalParts) × (GoodFormal x × (make_formal x ≡ a))
unfolding FormalPlaced
onto_formal (formal_tree.Moded pos first rest colon in_word out_word mark) good = (
  (first, (rest, (colon, inr (in_word, (out_word, mark))))),
  (
    (tt, (tt, (tt, (tt, (tt, good.1))))),
    ap (λ p. formal_tree.Moded p first rest colon in_word out_word mark) good.0,
  ),
)
onto_formal (formal_tree.Anonymous pos first rest colon access constant designated) good = (
  (first, (rest, (colon, inl (access, (constant, designated))))),
  (
    (tt, (tt, (tt, (tt, (tt, good.1))))),
    ap (λ p. formal_tree.Anonymous p first rest colon access constant designated) good.0,
  ),
)

-- formal = id {"," id} ":" (["in"] ["out"] mark | anon)
pub law_formal : Law formal FormalPlaced formal_spelling (of_ident ∷ []) dotted_last false
unfolding formal
law_formal =
    law_wider (of_ident ∷ []) dotted_last
    (law_to make_formal FormalPlaced formal_spelling
    (law_seq (law_identifier Apart) (law_seq law_next_identifiers (law_seq (law_symbol Apart s.Colon)
    (law_choose (of_word w.KwAccess ∷ [])
    (law_seq (law_word Apart w.KwAccess) (law_seq (law_optional_word w.KwConstant) (law_dotted Apart) refl) refl)
    (law_seq (law_optional_word w.KwIn) (law_seq (law_optional_word w.KwOut) (law_dotted Apart) refl) refl) refl refl) refl) refl) refl)
    good_formal (λ x good. spelled_formal x) onto_formal) refl refl

onto_next_formal : (a : NextFormal) → NextFormalPlaced a → (x : Pos × Formal) × (Both Any FormalPlaced x × (make_next_formal x ≡ a))
unfolding NextFormalPlaced
onto_next_formal (next_formal_tree.Semicolon pos declared) good = ((pos, declared), ((tt, good), refl))

-- ";" formal
pub law_next_formal : Law next_formal NextFormalPlaced next_formal_spelling (of_symbol s.Semicolon ∷ []) dotted_last false
unfolding next_formal next_formal_spelling NextFormalPlaced
law_next_formal =
    law_to make_next_formal NextFormalPlaced next_formal_spelling (law_seq (law_symbol Apart s.Semicolon) law_formal refl)
    (λ x good. good.1) (λ x good. refl) onto_next_formal

abbrev FormalsParts : Type 0
FormalsParts = Pos × (Formal × (List NextFormal × Pos))

abbrev GoodFormals : FormalsParts → Type 0
GoodFormals = Both Any (Both FormalPlaced (Both (Each NextFormalPlaced) Any))

good_formals : (x : FormalsParts) → GoodFormals x → FormalsPlaced (make_formals x)
unfolding FormalsPlaced
good_formals x good = (good.1.0, good.1.1.0)

spelled_formals : (d : ℕ) (x : FormalsParts) → formals_spelling d (make_formals x)
    ≡ joined (λ p. opens Apart d (Delimiter s.LeftParenthesis p) ∷ []) (joined formal_spelling (joined (flat_map next_formal_spelling)
    (λ p. spelling.symbol Apart s.RightParenthesis p ∷ []))) x
unfolding formals_spelling
spelled_formals d x = refl

onto_formals : (a : Formals) → FormalsPlaced a → (x : FormalsParts) × (GoodFormals x × (make_formals x ≡ a))
unfolding FormalsPlaced
onto_formals a good = ((a.pos, (a.first, (a.rest, a.right_paren))), ((tt, (good.0, (good.1, tt))), refl))

-- formals = "(" formal {";" formal} ")"
pub law_formals : (d : ℕ) → Law (formals d) FormalsPlaced (formals_spelling d) (of_symbol s.LeftParenthesis ∷ []) [] false
unfolding formals
law_formals d =
    law_to make_formals FormalsPlaced (formals_spelling d)
    (law_opened_symbol (law_formal.example, ([], some_position)) (law_formal.sample, (tt, tt)) Apart s.LeftParenthesis d
    (λ e. law_seq law_formal (law_seq (law_each (of_symbol s.Semicolon ∷ []) law_next_formal refl refl)
    (law_symbol Apart s.RightParenthesis) refl) refl))
    good_formals (λ x good. spelled_formals d x) onto_formals

-- [formals]
pub law_optional_formals : (d : ℕ) → Law (optional_formals d) (EachSome FormalsPlaced) (spelling.optional (formals_spelling d))
    (of_symbol s.LeftParenthesis ∷ []) (of_symbol s.LeftParenthesis ∷ []) true
law_optional_formals d = law_optional_part (of_symbol s.LeftParenthesis ∷ []) (law_formals d) refl

-- ---- fronts of functions

abbrev pub GoodFunction : FunctionParts → Type 0
GoodFunction = Both Any (Both (EachSome FormalsPlaced) (Both Any IndicationPlaced))

abbrev pub function_parts_spelling : ℕ → FunctionParts → List WeighedToken
function_parts_spelling d =
    joined (λ id. id_mark Apart id ∷ []) (joined (spelling.optional (formals_spelling d)) (joined (λ p. spelling.word Apart w.KwReturn p ∷ [])
    indication_spelling))

-- id [formals] "return" (mark | anon)
pub law_function_parts : (d : ℕ) → Law (function_parts d) GoodFunction (function_parts_spelling d) (of_ident ∷ []) dotted_last false
law_function_parts d =
    law_seq (law_identifier Apart) (law_seq (law_optional_formals d) (law_seq (law_word Apart w.KwReturn) law_indication refl) refl) refl

-- ---- bodies

abbrev pub GoodClosing : Pos × (Option Identifier × Pos) → Type 0
GoodClosing = Both Any (Both Any Any)

abbrev pub closing_spelling : Pos × (Option Identifier × Pos) → List WeighedToken
closing_spelling = joined (λ p. spelling.word Apart w.KwEnd p ∷ []) (joined optional_id (λ p. spelling.symbol Apart s.Semicolon p ∷ []))

some_any : (a : Option Identifier) → EachSome Any a
some_any None = tt
some_any (Some id) = tt

-- [id]
law_closing_name : Law closing_name Any optional_id (of_ident ∷ []) (of_ident ∷ []) true
law_closing_name =
    law_reworded Any optional_id (law_optional_part (of_ident ∷ []) (law_identifier Apart) refl)
    (λ x good. tt) (λ x good. some_any x) (λ x good. refl)

-- "end" [id] ";"
pub law_closing : Law closing GoodClosing closing_spelling (of_word w.KwEnd ∷ []) [] false
law_closing = law_seq (law_word Apart w.KwEnd) (law_seq law_closing_name (law_symbol Apart s.Semicolon) refl) refl

abbrev pub GoodSubprogram : ℕ → SubprogramParts → Type 0
GoodSubprogram d = Both (Each (GoodItem d)) (Both Any (Both (GoodStmts d) GoodClosing))

abbrev pub subprogram_parts_spelling : ℕ → SubprogramParts → List WeighedToken
subprogram_parts_spelling d =
    joined (flat_map (item_spelling d)) (joined (λ p. spelling.word Apart w.KwBegin p ∷ []) (joined (stmts_spelling d) closing_spelling))

abbrev pub subprogram_parts_first : List ℕ
subprogram_parts_first = of_word w.KwBegin ∷ item_first

-- {item} "begin" stmts "end" [id] ";"
pub law_subprogram_parts : (d : ℕ) → d ≤ NESTING
    → Law (subprogram_parts d) (GoodSubprogram d) (subprogram_parts_spelling d) subprogram_parts_first [] false
law_subprogram_parts d within =
    law_wider subprogram_parts_first []
    (law_seq (law_items d within)
    (law_seq (law_word Apart w.KwBegin) (law_seq (law_stmts d within) law_closing refl) refl) refl) refl refl

-- ---- a body by its parts, with so many constructs open around it

abbrev pub parts_of_body : SubprogramBody → SubprogramParts
parts_of_body body = (body.items, (body.begin, (body.stmts, (body.end, (body.closing, body.semicolon)))))

abbrev pub GoodBody : ℕ → SubprogramBody → Type 0
GoodBody d body = SubprogramPlaced d body × SubprogramNamed body

pub good_body : (d : ℕ) (pos : Pos) (spec : Subspec) (mode : Option SparkMode) (is : Pos) (x : SubprogramParts)
    → StartsAt pos (subspec_spelling d spec) → SubspecPlaced spec → EachSome ModeNamed mode → GoodSubprogram (suc d) x
    → GoodBody d (make_body pos spec mode is x)
unfolding SubprogramPlaced SubprogramNamed
good_body d pos spec given is x starts placed named good =
    let items = each_both (ItemPlaced (suc d)) ItemNamed x.0 good.0 in
    ((starts, placed, items.0, good.1.1.0.0), (named, items.1, good.1.1.0.1))

pub body_parts_good : (d : ℕ) (body : SubprogramBody) → GoodBody d body → GoodSubprogram (suc d) (parts_of_body body)
unfolding SubprogramPlaced SubprogramNamed
body_parts_good d body good =
    (both_each (ItemPlaced (suc d)) ItemNamed body.items (good.0.2, good.1.1), (tt, ((good.0.3, good.1.2), (tt, (tt, tt)))))

pub body_front_good : (d : ℕ) (body : SubprogramBody) → GoodBody d body
    → StartsAt body.pos (subspec_spelling d body.spec) × (SubspecPlaced body.spec × EachSome ModeNamed body.mode)
unfolding SubprogramPlaced SubprogramNamed
body_front_good d body good = (good.0.0, (good.0.1, good.1.0))

-- the first of the tokens stands at one position
pub one_position : (p q : Pos) (ms : List WeighedToken) → StartsAt p ms → StartsAt q ms → p ≡ q
one_position p q [] at there = absurd at
one_position p q (m ∷ ms) at there = some_same p q (sym at ∙ there)
