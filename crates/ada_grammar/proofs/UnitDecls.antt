-- The law of the declarations of a package, which is the one open construct around them.
use Rattle.std.proofs.Common.{◌≡◌, refl, ap, ℕ, true, false, List, [], ◌∷◌, Option, ◌⊎◌, inl, inr, arith}
use Rattle.std.specs.List.{flat_map}
use Rattle.spark_base.specs.declared.position.Pos.{Pos}
use Rattle.ada_lexer.specs.declared.token.Reserved.TheVariants as w
use Rattle.ada_lexer.specs.declared.token.Symbol.TheVariants as s
use Rattle.token_reading.specs.declared.side.Side.TheVariants.{Apart}
use Rattle.token_reading.specs.Weights.{WeighedToken}
use Rattle.token_reading.specs.Reading.{Reader, of_word, of_symbol, word, chain, to, seq, either, choose, here, Each}
use Rattle.token_reading.proofs.Law.{Law}
use Rattle.token_reading.proofs.Tokens.{Any, law_word, law_symbol, some_same}
use Rattle.token_reading.proofs.Seq.{Both, joined, law_seq}
use Rattle.token_reading.proofs.Made.{law_to, law_wider, law_same}
use Rattle.token_reading.proofs.Choice.{Either, of_either, cases, law_choose}
use Rattle.token_reading.proofs.Many.{law_each}
use Rattle.token_reading.proofs.Positions.{law_placed}
use Rattle.token_reading.proofs.Fronts.{Same, of_pair, chain_seq, either_choice}
use Rattle.ada_tree.specs.declared.identifier.Identifier.{Identifier}
use Rattle.ada_tree.specs.declared.declaration.Item.{Item}
use Rattle.ada_tree.specs.declared.declaration.Item.TheVariants as item_tree
use Rattle.ada_tree.specs.declared.subprogram.SparkMode.{SparkMode}
use Rattle.ada_tree.specs.declared.subprogram.Formals.{Formals}
use Rattle.ada_tree.specs.declared.subprogram.Subspec.{Subspec}
use Rattle.ada_tree.specs.declared.subprogram.Subspec.TheVariants as subspec_tree
use Rattle.ada_tree.specs.declared.subprogram.Decl.{Decl}
use Rattle.ada_tree.specs.declared.subprogram.Decl.TheVariants as decl_tree
use Rattle.ada_tree.specs.Spelling as spelling
use Rattle.ada_tree.specs.Spelling.{id_mark, item_spelling, mode_spelling, formals_spelling, subspec_spelling, decl_spelling}
use Rattle.ada_tree.specs.WellPlaced.{EachSome, StartsAt, ItemPlaced, FormalsPlaced, SubspecPlaced, DeclPlaced}
use Rattle.ada_tree.specs.FixedNames.{ModeNamed, ItemNamed, DeclNamed}
use Rattle.ada_grammar.specs.Expressions.{identifier}
use Rattle.ada_grammar.specs.Items.{InstanceParts, instance_parts, make_instance, instance_of, plain_item}
use Rattle.ada_grammar.specs.Statements.{semicolon}
use Rattle.ada_grammar.specs.Units.{mode, optional_formals, FunctionParts, function_parts, make_function, function_spec, make_declared, plain_decl, decl_behind, instance_decl, named_decl, decl, decl_first, decls}
use Rattle.ada_grammar.proofs.ExpressionNames.{law_identifier}
use Rattle.ada_grammar.proofs.UnitFronts.{made_twice, chain_made}
use Rattle.ada_grammar.proofs.UnitParts.{law_mode, law_optional_formals, GoodFunction, function_parts_spelling, law_function_parts}
use Rattle.ada_grammar.proofs.ItemTypes.{GoodPlain}
use Rattle.ada_grammar.proofs.Item.{GoodInstance, instance_spelling, law_instance_parts, law_plain_item}

abbrev pub procedure_spelling : Pos → List WeighedToken
procedure_spelling pos = spelling.word Apart w.KwProcedure pos ∷ []

abbrev pub function_spelling : Pos → List WeighedToken
function_spelling pos = spelling.word Apart w.KwFunction pos ∷ []

abbrev pub is_spelling : Pos → List WeighedToken
is_spelling pos = spelling.word Apart w.KwIs pos ∷ []

abbrev pub semicolon_spelling : Pos → List WeighedToken
semicolon_spelling pos = spelling.symbol Apart s.Semicolon pos ∷ []

abbrev pub id_spelling : Identifier → List WeighedToken
id_spelling id = id_mark Apart id ∷ []

-- ---- what follows a subspec

abbrev Tail : Type 0
Tail = Option SparkMode × Pos

abbrev tail : Reader Tail
tail = seq mode semicolon

abbrev GoodTail : Tail → Type 0
GoodTail = Both (EachSome ModeNamed) Any

abbrev tail_spelling : Tail → List WeighedToken
tail_spelling = joined (spelling.optional mode_spelling) semicolon_spelling

law_tail : Law tail GoodTail tail_spelling (of_word w.KwWith ∷ of_symbol s.Semicolon ∷ []) [] false
law_tail = law_wider (of_word w.KwWith ∷ of_symbol s.Semicolon ∷ []) [] (law_seq law_mode (law_symbol Apart s.Semicolon) refl) refl refl

same_tail : (pos : Pos) (spec : Subspec) → Same (decl_behind pos spec) (to (make_declared pos spec) tail)
unfolding decl_behind
same_tail pos spec k ts = refl

-- ---- what follows "procedure" id

abbrev pub NamedDecl : Type 0
NamedDecl = (Pos × InstanceParts) ⊎ (Option Formals × Tail)

abbrev plain_instance : Pos → Identifier → Pos → InstanceParts → Decl
plain_instance pos id is x = decl_tree.OfItem pos (make_instance pos id is x)

abbrev procedure_decl : Pos → Identifier → Option Formals → Tail → Decl
procedure_decl pos id formals = make_declared pos (subspec_tree.Procedure pos id formals)

abbrev make_named_decl : Pos → Identifier → NamedDecl → Decl
make_named_decl pos id = cases (of_pair (plain_instance pos id)) (of_pair (procedure_decl pos id))

abbrev named_parts : Reader NamedDecl
named_parts =
    choose (of_word w.KwIs ∷ []) (seq (word Apart w.KwIs) (instance_parts 1)) (seq (optional_formals 2) tail)

abbrev GoodNamed : NamedDecl → Type 0
GoodNamed = Either (Both Any (GoodInstance 1)) (Both (EachSome FormalsPlaced) GoodTail)

abbrev named_spelling : NamedDecl → List WeighedToken
named_spelling = of_either (joined is_spelling (instance_spelling 1)) (joined (spelling.optional (formals_spelling 2)) tail_spelling)

abbrev named_first : List ℕ
named_first = of_word w.KwIs ∷ of_symbol s.LeftParenthesis ∷ of_word w.KwWith ∷ of_symbol s.Semicolon ∷ []

law_named : Law named_parts GoodNamed named_spelling named_first [] false
law_named =
    law_wider named_first []
    (law_choose (of_word w.KwIs ∷ []) (law_seq (law_word Apart w.KwIs) (law_instance_parts 1) refl)
    (law_seq (law_optional_formals 2) law_tail refl) refl refl) refl refl

pub same_instance : (pos : Pos) (id : Identifier) (is : Pos) → Same (instance_decl pos id is) (to (plain_instance pos id is) (instance_parts 1))
unfolding instance_decl instance_of
same_instance pos id is = made_twice (make_instance pos id is) (decl_tree.OfItem pos) (instance_parts 1)

same_named : (pos : Pos) (id : Identifier) → Same (named_decl pos id) (to (make_named_decl pos id) named_parts)
unfolding named_decl
same_named pos id =
    either_choice (of_word w.KwIs ∷ []) (of_pair (plain_instance pos id)) (of_pair (procedure_decl pos id))
    (seq (word Apart w.KwIs) (instance_parts 1)) (seq (optional_formals 2) tail)
    (chain (word Apart w.KwIs) (λ is. instance_decl pos id is))
    (chain (optional_formals 2) (λ formals. decl_behind pos (subspec_tree.Procedure pos id formals)))
    (chain_seq (plain_instance pos id) (word Apart w.KwIs) (instance_parts 1) (λ is. instance_decl pos id is) (λ is. same_instance pos id is))
    (chain_seq (procedure_decl pos id) (optional_formals 2) tail (λ formals. decl_behind pos (subspec_tree.Procedure pos id formals))
    (λ formals. same_tail pos (subspec_tree.Procedure pos id formals)))

-- ---- all declarations

abbrev OfFunction : Type 0
OfFunction = Pos × (FunctionParts × Tail)

abbrev Parts : Type 0
Parts = (Pos × (Identifier × NamedDecl)) ⊎ (OfFunction ⊎ (Pos × Item))

abbrev function_decl : Pos → FunctionParts → Tail → Decl
function_decl pos f = make_declared pos (make_function pos f)

abbrev of_procedure : Pos × (Identifier × NamedDecl) → Decl
of_procedure = of_pair (λ pos. of_pair (make_named_decl pos))

abbrev of_function : OfFunction → Decl
of_function = of_pair (λ pos. of_pair (function_decl pos))

abbrev of_item : Pos × Item → Decl
of_item = of_pair decl_tree.OfItem

abbrev make_decl : Parts → Decl
make_decl = cases of_procedure (cases of_function of_item)

abbrev procedure_parts : Reader (Pos × (Identifier × NamedDecl))
procedure_parts = seq (word Apart w.KwProcedure) (seq (identifier Apart) named_parts)

abbrev of_function_parts : Reader OfFunction
of_function_parts = seq (word Apart w.KwFunction) (seq (function_parts 2) tail)

abbrev parts : Reader Parts
parts =
    choose (of_word w.KwProcedure ∷ []) procedure_parts
    (choose (of_word w.KwFunction ∷ []) of_function_parts (seq here (plain_item 1)))

abbrev GoodParts : Parts → Type 0
GoodParts =
    Either (Both Any (Both Any GoodNamed)) (Either (Both Any (Both GoodFunction GoodTail))
    (λ x. GoodPlain 1 x.1 × StartsAt x.0 (item_spelling 1 x.1)))

abbrev parts_spelling : Parts → List WeighedToken
parts_spelling =
    of_either (joined procedure_spelling (joined id_spelling named_spelling))
    (of_either (joined function_spelling (joined (function_parts_spelling 2) tail_spelling)) (λ x. item_spelling 1 x.1))

law_parts : Law parts GoodParts parts_spelling decl_first [] false
law_parts =
    law_wider decl_first []
    (law_choose (of_word w.KwProcedure ∷ [])
    (law_seq (law_word Apart w.KwProcedure) (law_seq (law_identifier Apart) law_named refl) refl)
    (law_choose (of_word w.KwFunction ∷ [])
    (law_seq (law_word Apart w.KwFunction) (law_seq (law_function_parts 2) law_tail refl) refl)
    (law_placed (law_plain_item 1 (omega arith)) refl) refl refl) refl refl) refl refl

abbrev pub GoodDecl : Decl → Type 0
GoodDecl x = DeclPlaced 1 x × DeclNamed x

good_decl : (x : Parts) → GoodParts x → GoodDecl (make_decl x)
unfolding DeclPlaced DeclNamed SubspecPlaced item_spelling subspec_spelling ItemPlaced ItemNamed
good_decl (inl (pos, (id, inl (is, x)))) good =
    let actuals = good.1.1.1 in ((refl, (actuals.1.0, actuals.1.1.1.0, actuals.1.1.1.1.0)), tt)
good_decl (inl (pos, (id, inr (formals, x)))) good = ((refl, good.1.1.0), good.1.1.1.0)
good_decl (inr (inl (pos, (f, x)))) good = ((refl, (good.1.0.1.0, good.1.0.1.1.1)), good.1.1.0)
good_decl (inr (inr x)) good = ((good.1, good.0.1.0), good.0.1.1)

spelled_decl : (x : Parts) → decl_spelling 1 (make_decl x) ≡ parts_spelling x
unfolding decl_spelling subspec_spelling item_spelling
spelled_decl (inl (pos, (id, inl (is, x)))) = refl
spelled_decl (inl (pos, (id, inr (formals, x)))) = refl
spelled_decl (inr (inl (pos, (f, x)))) = refl
spelled_decl (inr (inr x)) = refl

onto_decl : (a : Decl) → GoodDecl a → (x : Parts) × (GoodParts x × (make_decl x ≡ a))
unfolding DeclPlaced DeclNamed SubspecPlaced item_spelling subspec_spelling ItemPlaced ItemNamed
onto_decl (decl_tree.OfItem pos (item_tree.Instance at id is new generic left_paren first rest right_paren semicolon)) good =
    let parts : InstanceParts = (new, (generic, (left_paren, (first, (rest, (right_paren, semicolon)))))) in
    let actuals = good.0.1 in (
      inl (at, (id, inl (is, parts))),
      (
        (tt, (tt, (tt, (tt, (actuals.0, (tt, (actuals.1, (actuals.2, (tt, tt))))))))),
        ap (λ p. decl_tree.OfItem p (make_instance at id is parts)) (some_same at pos good.0.0),
      ),
    )
onto_decl (decl_tree.OfItem pos a) good = (inr (inr (pos, a)), (((tt, (good.0.1, good.1)), good.0.0), refl))
onto_decl (decl_tree.Subprogram pos (subspec_tree.Procedure at id formals) mode semicolon) good = (
  inl (at, (id, inr (formals, (mode, semicolon)))),
  (
    (tt, (tt, (good.0.1, (good.1, tt)))),
    ap (λ p. decl_tree.Subprogram p (subspec_tree.Procedure at id formals) mode semicolon) (some_same at pos good.0.0),
  ),
)
onto_decl (decl_tree.Subprogram pos (subspec_tree.Function at id formals return_word result) mode semicolon) good = (
  inr (inl (at, ((id, (formals, (return_word, result))), (mode, semicolon)))),
  (
    (tt, ((tt, (good.0.1.0, (tt, good.0.1.1))), (good.1, tt))),
    ap (λ p. decl_tree.Subprogram p (subspec_tree.Function at id formals return_word result) mode semicolon) (some_same at pos good.0.0),
  ),
)

same_function : (pos : Pos) → Same (chain (function_spec 2 pos) (λ spec. decl_behind pos spec))
    (to (of_pair (function_decl pos)) (seq (function_parts 2) tail))
unfolding function_spec
same_function pos = chain_made (make_function pos) (make_declared pos) (function_parts 2) tail (λ spec. decl_behind pos spec) (λ spec. same_tail pos spec)

same_decl : Same decl (to make_decl parts)
unfolding decl plain_decl
same_decl =
    either_choice (of_word w.KwProcedure ∷ []) of_procedure (cases of_function of_item) procedure_parts
    (choose (of_word w.KwFunction ∷ []) of_function_parts (seq here (plain_item 1)))
    (chain (word Apart w.KwProcedure) (λ pos. chain (identifier Apart) (λ id. named_decl pos id)))
    (either (of_word w.KwFunction ∷ []) read_function plain_decl)
    (chain_seq (λ pos. of_pair (make_named_decl pos)) (word Apart w.KwProcedure) (seq (identifier Apart) named_parts)
    (λ pos. chain (identifier Apart) (λ id. named_decl pos id))
    (λ pos. chain_seq (make_named_decl pos) (identifier Apart) named_parts (λ id. named_decl pos id) (λ id. same_named pos id)))
    (either_choice (of_word w.KwFunction ∷ []) of_function of_item of_function_parts (seq here (plain_item 1)) read_function plain_decl
    (chain_seq (λ pos. of_pair (function_decl pos)) (word Apart w.KwFunction) (seq (function_parts 2) tail)
    (λ pos. chain (function_spec 2 pos) (λ spec. decl_behind pos spec)) (λ pos. same_function pos))
    (λ k ts. refl))
  where
    read_function : Reader Decl
    read_function = chain (word Apart w.KwFunction) (λ pos. chain (function_spec 2 pos) (λ spec. decl_behind pos spec))

-- decl = item | subspec mode ";"
pub law_decl : Law decl GoodDecl (decl_spelling 1) decl_first [] false
law_decl = law_same decl (law_to make_decl GoodDecl (decl_spelling 1) law_parts good_decl (λ x good. spelled_decl x) onto_decl) same_decl

-- {decl}
pub law_decls : Law decls (Each GoodDecl) (flat_map (decl_spelling 1)) decl_first decl_first true
law_decls = law_each decl_first law_decl refl refl
