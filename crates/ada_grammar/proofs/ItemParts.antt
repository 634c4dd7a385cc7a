-- The laws of what items are made of: defining identifiers, fixed names, indications, components,
-- use clauses and pragmas.
use Rattle.std.proofs.Common.{◌≡◌, refl, ap, ℕ, true, false, List, [], ◌∷◌, ◌++◌, Option, Some, None, ◌⊎◌, inl, inr}
use Rattle.std.specs.Prelude.{◌&&◌, map}
use Rattle.std.specs.List.{flat_map}
use Rattle.std.specs.Char.{to_ascii_lowercase}
use Rattle.spark_base.specs.declared.position.Pos.{Pos}
use Rattle.ada_lexer.specs.declared.token.Reserved.{Reserved}
use Rattle.ada_lexer.specs.declared.token.Reserved.TheVariants as w
use Rattle.ada_lexer.specs.declared.token.Symbol.TheVariants as s
use Rattle.token_reading.specs.declared.side.Side.TheVariants.{Apart}
use Rattle.token_reading.specs.Spelled.{Delimiter}
use Rattle.token_reading.specs.Weights.{WeighedToken, opens}
use Rattle.token_reading.specs.Reading.{Reader, of_word, of_symbol, of_ident, word, optional, Each}
use Rattle.token_reading.proofs.Sets.{within, is_in-own}
use Rattle.token_reading.proofs.Law.{Law}
use Rattle.token_reading.proofs.Tokens as tokens
use Rattle.token_reading.proofs.Tokens.{Any, some_position, law_word, law_symbol}
use Rattle.token_reading.proofs.Seq.{Both, joined, law_seq}
use Rattle.token_reading.proofs.Made.{law_to, law_wider, law_reworded}
use Rattle.token_reading.proofs.Choice.{Either, of_either, Maybe, maybe_spelled, law_choose, law_optional}
use Rattle.token_reading.proofs.Many.{law_each}
use Rattle.token_reading.proofs.Nesting.{law_opened_symbol}
use Rattle.token_reading.proofs.Positions.{law_placed}
use Rattle.ada_tree.specs.declared.identifier.Identifier.{Identifier}
use Rattle.ada_tree.specs.declared.identifier.NextIdentifier.{NextIdentifier}
use Rattle.ada_tree.specs.declared.identifier.NextIdentifier.TheVariants as next_identifier_tree
use Rattle.ada_tree.specs.declared.identifier.Dotted.{Dotted}
use Rattle.ada_tree.specs.declared.identifier.NextDotted.{NextDotted}
use Rattle.ada_tree.specs.declared.declaration.Component.{Component}
use Rattle.ada_tree.specs.declared.declaration.Component.TheVariants as component_tree
use Rattle.ada_tree.specs.declared.declaration.Indication.{Indication}
use Rattle.ada_tree.specs.declared.declaration.Indication.TheVariants as indication_tree
use Rattle.ada_tree.specs.declared.declaration.UseClause.{UseClause}
use Rattle.ada_tree.specs.declared.declaration.PragmaOn.{PragmaOn}
use Rattle.ada_tree.specs.declared.declaration.PragmaClause.{PragmaClause}
use Rattle.ada_tree.specs.Spelling as spelling
use Rattle.ada_tree.specs.Spelling.{id_mark, optional_word, dotted_spelling, next_identifier_spelling, next_dotted_spelling, indication_spelling, component_spelling, use_spelling, pragma_on_spelling, pragma_spelling}
use Rattle.ada_tree.specs.WellPlaced.{EachSome, StartsAt, DottedPlaced, NextDottedPlaced, IndicationPlaced, ComponentPlaced, UsePlaced}
use Rattle.ada_tree.specs.FixedNames.{IsCalled, mode_name, on_name, PragmaOnNamed, PragmaNamed}
use Rattle.ada_grammar.specs.Expressions.{make_identifier, dotted_last, next_dotteds}
use Rattle.ada_grammar.specs.Items.{next_identifier, next_identifiers, called, make_indication, indication, indication_first, make_component, component, next_components, make_use, use_clause, make_pragma_on, pragma_on, make_pragma, pragma}
use Rattle.ada_grammar.proofs.ExpressionNames.{law_identifier, law_dotted, law_next_dotted}

-- ---- optional parts

-- A part that may be left out, in the words of the spelling.
pub law_optional_part : {A : Type 0} {p : Reader A} {g : A → Type 0} {s : A → List WeighedToken} {fp lp : List ℕ} (ms : List ℕ)
    → Law p g s fp lp false → within fp ms ≡ true → Law (optional ms p) (EachSome g) (spelling.optional s) (fp ++ []) (ms ++ (lp ++ [])) true
law_optional_part {A} {p} {g} {s} ms P e =
    law_reworded (EachSome g) (spelling.optional s) (law_optional ms P e) there back same
  where
    there : (x : Option A) → Maybe g x → EachSome g x
    there None good = tt
    there (Some a) good = good

    back : (x : Option A) → EachSome g x → Maybe g x
    back None good = tt
    back (Some a) good = good

    same : (x : Option A) → Maybe g x → spelling.optional s x ≡ maybe_spelled s x
    same None good = refl
    same (Some a) good = refl

-- A reserved word that may be left out.
pub law_optional_word : (v : Reserved) → Law (optional (of_word v ∷ []) (word Apart v)) Any (optional_word v) (of_word v ∷ []) (of_word v ∷ []) true
law_optional_word v =
    law_reworded Any (optional_word v) (law_optional_part (of_word v ∷ []) (law_word Apart v) (ap (λ b. b && true) (is_in-own (of_word v))))
    (λ x good. tt) back (λ x good. refl)
  where
    back : (x : Option Pos) → Any x → EachSome Any x
    back None good = tt
    back (Some a) good = tt

-- ---- identifiers

-- "," id
pub law_next_identifier : Law next_identifier Any next_identifier_spelling (of_symbol s.Comma ∷ []) [] false
unfolding next_identifier next_identifier_spelling
law_next_identifier =
    law_to (λ x. next_identifier_tree.FurtherIdentifier x.0 x.1) Any next_identifier_spelling (law_seq (law_symbol Apart s.Comma) (law_identifier Apart) refl)
    (λ x good. tt) (λ x good. spelled x) onto
  where
    spelled : (x : Pos × Identifier) → next_identifier_spelling (next_identifier_tree.FurtherIdentifier x.0 x.1)
        ≡ spelling.symbol Apart s.Comma x.0 ∷ id_mark Apart x.1 ∷ []
    spelled x = refl

    onto : (a : NextIdentifier) → Any a → (x : Pos × Identifier) × (Both Any Any x × (next_identifier_tree.FurtherIdentifier x.0 x.1 ≡ a))
    onto (next_identifier_tree.FurtherIdentifier pos id) good = ((pos, id), ((tt, tt), refl))

-- {"," id}
pub law_next_identifiers : Law next_identifiers Any (flat_map next_identifier_spelling) (of_symbol s.Comma ∷ []) (of_symbol s.Comma ∷ []) true
law_next_identifiers =
    law_reworded Any (flat_map next_identifier_spelling) (law_each (of_symbol s.Comma ∷ []) law_next_identifier refl refl)
    (λ xs good. tt) each_any (λ xs good. refl)
  where
    each_any : (xs : List NextIdentifier) → Any xs → Each Any xs
    each_any [] good = tt
    each_any (x ∷ xs) good = (tt, each_any xs tt)

-- {"," dotted}
pub law_next_dotteds : Law next_dotteds (Each NextDottedPlaced) (flat_map next_dotted_spelling) (of_symbol s.Comma ∷ []) (of_symbol s.Comma ∷ dotted_last) true
law_next_dotteds = law_each (of_symbol s.Comma ∷ []) law_next_dotted refl refl

-- the identifier with a fixed name
pub law_called : (name : List ℕ) → map to_ascii_lowercase name ≡ name
    → Law (called name) (IsCalled name) (λ id. id_mark Apart id ∷ []) (of_ident ∷ []) [] false
unfolding called
law_called name lower =
    law_to make_identifier (IsCalled name) (λ id. id_mark Apart id ∷ []) (tokens.law_called name lower)
    (λ x good. good) (λ x good. refl) (λ id good. ((id.pos, id.text), (good, refl)))

-- ---- indications

abbrev GoodIndication : (Pos × (Option Pos × Dotted)) ⊎ (Pos × Dotted) → Type 0
GoodIndication = Either (Both Any (Both Any DottedPlaced)) (λ x. DottedPlaced x.1 × StartsAt x.0 (dotted_spelling Apart x.1))

good_indication : (x : (Pos × (Option Pos × Dotted)) ⊎ (Pos × Dotted)) → GoodIndication x → IndicationPlaced (make_indication x)
unfolding IndicationPlaced
good_indication (inl x) good = good.1.1
good_indication (inr x) good = (good.1, good.0)

spelled_indication : (x : (Pos × (Option Pos × Dotted)) ⊎ (Pos × Dotted)) → indication_spelling (make_indication x)
    ≡ of_either (joined (λ p. spelling.word Apart w.KwAccess p ∷ []) (joined (optional_word w.KwConstant) (dotted_spelling Apart)))
    (λ y. dotted_spelling Apart y.1) x
unfolding indication_spelling
spelled_indication (inl x) = refl
spelled_indication (inr x) = refl

onto_indication : (a : Indication) → IndicationPlaced a
    → (x : (Pos × (Option Pos × Dotted)) ⊎ (Pos × Dotted)) × (GoodIndication x × (make_indication x ≡ a))
unfolding IndicationPlaced
onto_indication (indication_tree.Mark pos mark) good = (inr (pos, mark), ((good.1, good.0), refl))
onto_indication (indication_tree.Anonymous pos constant designated) good = (inl (pos, (constant, designated)), ((tt, (tt, good)), refl))

-- mark | anon
pub law_indication : Law indication IndicationPlaced indication_spelling indication_first dotted_last false
unfolding indication
law_indication =
    law_wider indication_first dotted_last
    (law_to make_indication IndicationPlaced indication_spelling
    (law_choose (of_word w.KwAccess ∷ [])
    (law_seq (law_word Apart w.KwAccess) (law_seq (law_optional_word w.KwConstant) (law_dotted Apart) refl) refl)
    (law_placed (law_dotted Apart) refl) refl refl)
    good_indication (λ x good. spelled_indication x) onto_indication) refl refl

-- ---- components

abbrev ComponentParts : Type 0
ComponentParts = Identifier × (List NextIdentifier × (Pos × (Dotted × Pos)))

abbrev GoodComponent : ComponentParts → Type 0
GoodComponent = Both Any (Both Any (Both Any (Both DottedPlaced Any)))

good_component : (x : ComponentParts) → GoodComponent x → ComponentPlaced (make_component x)
unfolding ComponentPlaced
good_component x good = (refl, good.1.1.1.0)

spelled_component : (x : ComponentParts) → component_spelling (make_component x)
    ≡ joined (λ id. id_mark Apart id ∷ []) (joined (flat_map next_identifier_spelling) (joined (λ p. spelling.symbol Apart s.Colon p ∷ [])
    (joined (dotted_spelling Apart) (λ p. spelling.symbol Apart s.Semicolon p ∷ [])))) x
unfolding component_spelling
spelled_component x = refl

onto_component : (a : Component) → ComponentPlaced a → (x : ComponentParts) × (GoodComponent x × (make_component x ≡ a))
unfolding ComponentPlaced
onto_component (component_tree.Fields pos first rest colon mark semicolon) good = (
  (first, (rest, (colon, (mark, semicolon)))),
  (
    (tt, (tt, (tt, (good.1, tt)))),
    ap (λ p. component_tree.Fields p first rest colon mark semicolon) good.0,
  ),
)

-- comp = id {"," id} ":" mark ";"
pub law_component : Law component ComponentPlaced component_spelling (of_ident ∷ []) [] false
unfolding component
law_component =
    law_wider (of_ident ∷ []) []
    (law_to make_component ComponentPlaced component_spelling
    (law_seq (law_identifier Apart) (law_seq law_next_identifiers (law_seq (law_symbol Apart s.Colon)
    (law_seq (law_dotted Apart) (law_symbol Apart s.Semicolon) refl) refl) refl) refl)
    good_component (λ x good. spelled_component x) onto_component) refl refl

-- {comp}
pub law_next_components : Law next_components (Each ComponentPlaced) (flat_map component_spelling) (of_ident ∷ []) (of_ident ∷ []) true
law_next_components = law_each (of_ident ∷ []) law_component refl refl

-- ---- use clauses

abbrev UseParts : Type 0
UseParts = Pos × (Option Pos × (Dotted × (List NextDotted × Pos)))

abbrev GoodUse : UseParts → Type 0
GoodUse = Both Any (Both Any (Both DottedPlaced (Both (Each NextDottedPlaced) Any)))

good_use : (x : UseParts) → GoodUse x → UsePlaced (make_use x)
unfolding UsePlaced
good_use x good = (good.1.1.0, good.1.1.1.0)

spelled_use : (x : UseParts) → use_spelling (make_use x)
    ≡ joined (λ p. spelling.word Apart w.KwUse p ∷ []) (joined (optional_word w.KwType) (joined (dotted_spelling Apart)
    (joined (flat_map next_dotted_spelling) (λ p. spelling.symbol Apart s.Semicolon p ∷ [])))) x
unfolding use_spelling
spelled_use x = refl

onto_use : (a : UseClause) → UsePlaced a → (x : UseParts) × (GoodUse x × (make_use x ≡ a))
unfolding UsePlaced
onto_use a good =
    ((a.pos, (a.type_word, (a.first, (a.rest, a.semicolon)))), ((tt, (tt, (good.0, (good.1, tt)))), refl))

-- usecl = "use" ["type"] dotted {"," dotted} ";"
pub law_use : Law use_clause UsePlaced use_spelling (of_word w.KwUse ∷ []) [] false
unfolding use_clause
law_use =
    law_wider (of_word w.KwUse ∷ []) []
    (law_to make_use UsePlaced use_spelling
    (law_seq (law_word Apart w.KwUse) (law_seq (law_optional_word w.KwType) (law_seq (law_dotted Apart)
    (law_seq law_next_dotteds (law_symbol Apart s.Semicolon) refl) refl) refl) refl)
    good_use (λ x good. spelled_use x) onto_use) refl refl

-- ---- pragmas

abbrev OnParts : Type 0
OnParts = Pos × (Identifier × Pos)

abbrev GoodOn : OnParts → Type 0
GoodOn = Both Any (Both (IsCalled on_name) Any)

good_on : (x : OnParts) → GoodOn x → PragmaOnNamed (make_pragma_on x)
unfolding PragmaOnNamed
good_on x good = good.1.0

spelled_on : (d : ℕ) (x : OnParts) → pragma_on_spelling d (make_pragma_on x)
    ≡ joined (λ p. opens Apart d (Delimiter s.LeftParenthesis p) ∷ []) (joined (λ id. id_mark Apart id ∷ [])
    (λ p. spelling.symbol Apart s.RightParenthesis p ∷ [])) x
unfolding pragma_on_spelling
spelled_on d x = refl

onto_on : (a : PragmaOn) → PragmaOnNamed a → (x : OnParts) × (GoodOn x × (make_pragma_on x ≡ a))
unfolding PragmaOnNamed
onto_on a good = ((a.pos, (a.on, a.right_paren)), ((tt, (good, tt)), refl))

abbrev some_on : Identifier
some_on = record { pos = some_position; text = on_name }

-- "(" On ")"
pub law_pragma_on : (d : ℕ) → Law (pragma_on d) PragmaOnNamed (pragma_on_spelling d) (of_symbol s.LeftParenthesis ∷ []) [] false
unfolding pragma_on
law_pragma_on d =
    law_to make_pragma_on PragmaOnNamed (pragma_on_spelling d)
    (law_opened_symbol (some_on, some_position) (refl, tt) Apart s.LeftParenthesis d
    (λ e. law_seq (law_called on_name refl) (law_symbol Apart s.RightParenthesis) refl))
    good_on (λ x good. spelled_on d x) onto_on

abbrev PragmaParts : Type 0
PragmaParts = Pos × (Identifier × (Option PragmaOn × Pos))

abbrev GoodPragma : PragmaParts → Type 0
GoodPragma = Both Any (Both (IsCalled mode_name) (Both (EachSome PragmaOnNamed) Any))

good_pragma : (x : PragmaParts) → GoodPragma x → PragmaNamed (make_pragma x)
unfolding PragmaNamed
good_pragma x good = (good.1.0, good.1.1.0)

spelled_pragma : (d : ℕ) (x : PragmaParts) → pragma_spelling d (make_pragma x)
    ≡ joined (λ p. spelling.word Apart w.KwPragma p ∷ []) (joined (λ id. id_mark Apart id ∷ [])
    (joined (spelling.optional (pragma_on_spelling d)) (λ p. spelling.symbol Apart s.Semicolon p ∷ []))) x
unfolding pragma_spelling
spelled_pragma d x = refl

onto_pragma : (a : PragmaClause) → PragmaNamed a → (x : PragmaParts) × (GoodPragma x × (make_pragma x ≡ a))
unfolding PragmaNamed
onto_pragma a good = ((a.pos, (a.name, (a.argument, a.semicolon))), ((tt, (good.0, (good.1, tt))), refl))

-- pragma = "pragma" SPARK_Mode ["(" On ")"] ";"
pub law_pragma : (d : ℕ) → Law (pragma d) PragmaNamed (pragma_spelling d) (of_word w.KwPragma ∷ []) [] false
unfolding pragma
law_pragma d =
    law_wider (of_word w.KwPragma ∷ []) []
    (law_to make_pragma PragmaNamed (pragma_spelling d)
    (law_seq (law_word Apart w.KwPragma) (law_seq (law_called mode_name refl)
    (law_seq (law_optional_part (of_symbol s.LeftParenthesis ∷ []) (law_pragma_on d) refl) (law_symbol Apart s.Semicolon) refl) refl) refl)
    good_pragma (λ x good. spelled_pragma d x) onto_pragma) refl refl
