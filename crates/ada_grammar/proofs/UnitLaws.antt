-- The laws of units and of the units of a file.
use Rattle.std.proofs.Common.{◌≡◌, refl, ap, ℕ, true, false, List, [], ◌∷◌, Option, ◌⊎◌, inl, inr, arith}
use Rattle.std.specs.List.{flat_map}
use Rattle.spark_base.specs.declared.position.Pos.{Pos}
use Rattle.ada_lexer.specs.declared.token.Reserved.TheVariants as w
use Rattle.ada_lexer.specs.declared.token.Symbol.TheVariants as s
use Rattle.token_reading.specs.declared.side.Side.TheVariants.{Apart}
use Rattle.token_reading.specs.Weights.{WeighedToken}
use Rattle.token_reading.specs.Reading.{Reader, of_word, word, chain, to, seq, either, choose, here, Each}
use Rattle.token_reading.proofs.Law.{Law}
use Rattle.token_reading.proofs.Tokens.{Any, law_word, law_symbol, some_same}
use Rattle.token_reading.proofs.Seq.{Both, joined, law_seq}
use Rattle.token_reading.proofs.Made.{law_to, law_wider, law_same, law_reworded}
use Rattle.token_reading.proofs.Choice.{Either, of_either, cases, law_choose}
use Rattle.token_reading.proofs.Many.{SomeEach, law_each, law_some_each}
use Rattle.token_reading.proofs.Positions.{law_placed}
use Rattle.token_reading.proofs.Fronts.{Same, of_pair, chain_seq, either_choice}
use Rattle.ada_tree.specs.declared.identifier.Identifier.{Identifier}
use Rattle.ada_tree.specs.declared.identifier.Dotted.{Dotted}
use Rattle.ada_tree.specs.declared.identifier.NextDotted.{NextDotted}
use Rattle.ada_tree.specs.declared.declaration.UseClause.{UseClause}
use Rattle.ada_tree.specs.declared.declaration.PragmaClause.{PragmaClause}
use Rattle.ada_tree.specs.declared.subprogram.SparkMode.{SparkMode}
use Rattle.ada_tree.specs.declared.subprogram.Formals.{Formals}
use Rattle.ada_tree.specs.declared.subprogram.Subspec.{Subspec}
use Rattle.ada_tree.specs.declared.subprogram.Subspec.TheVariants as subspec_tree
use Rattle.ada_tree.specs.declared.unit.SubprogramBody.{SubprogramBody}
use Rattle.ada_tree.specs.declared.unit.Context.{Context}
use Rattle.ada_tree.specs.declared.unit.Context.TheVariants as context_tree
use Rattle.ada_tree.specs.declared.unit.SourceUnit.{SourceUnit}
use Rattle.ada_tree.specs.declared.unit.SourceUnit.TheVariants as unit_tree
use Rattle.ada_tree.specs.Spelling as spelling
use Rattle.ada_tree.specs.Spelling.{dotted_spelling, next_dotted_spelling, use_spelling, pragma_spelling, mode_spelling, formals_spelling, subspec_spelling, subprogram_spelling, package_spelling, package_body_spelling, context_spelling, unit_spelling, source_spelling}
use Rattle.ada_tree.specs.WellPlaced.{EachSome, StartsAt, DottedPlaced, NextDottedPlaced, UsePlaced, FormalsPlaced, SubspecPlaced, ContextPlaced, UnitPlaced}
use Rattle.ada_tree.specs.FixedNames.{ModeNamed, PragmaNamed, ContextNamed, UnitNamed}
use Rattle.ada_tree.specs.Refusals.{IsSource}
use Rattle.ada_grammar.specs.Expressions.{identifier, dotted, next_dotteds}
use Rattle.ada_grammar.specs.Items.{use_clause, pragma}
use Rattle.ada_grammar.specs.Statements.{semicolon}
use Rattle.ada_grammar.specs.Units.{mode, optional_formals, make_procedure, procedure_spec, FunctionParts, function_parts, make_function, function_spec, SubprogramParts, subprogram_parts, make_body, body_behind, PackageParts, package_parts, make_package, package_behind, PackageBodyParts, package_body_parts, make_package_body, package_body_behind, make_with, with_clause, context, context_first, contexts, subprogram_behind, subprogram_body, package_unit, unit_behind, unit, unit_first, source}
use Rattle.ada_grammar.proofs.ExpressionNames.{law_identifier, law_dotted}
use Rattle.ada_grammar.proofs.ItemParts.{law_next_dotteds, law_use, law_pragma}
use Rattle.ada_grammar.proofs.StatementParts.{each_both, both_each}
use Rattle.ada_grammar.proofs.UnitFronts.{made_twice, chain_made}
use Rattle.ada_grammar.proofs.UnitParts.{law_mode, law_optional_formals, GoodFunction, function_parts_spelling, law_function_parts, GoodSubprogram, subprogram_parts_spelling, law_subprogram_parts, parts_of_body, GoodBody, good_body, body_parts_good, body_front_good}
use Rattle.ada_grammar.proofs.UnitDecls.{procedure_spelling, function_spelling, is_spelling, semicolon_spelling, id_spelling}
use Rattle.ada_grammar.proofs.UnitPackages.{GoodPackageParts, package_parts_spelling, law_package_parts, good_package, parts_of_package, package_parts_good, GoodPackageBodyParts, package_body_parts_spelling, law_package_body_parts, good_package_body, parts_of_package_body, package_body_parts_good}

-- ---- contexts

abbrev WithParts : Type 0
WithParts = Pos × (Dotted × (List NextDotted × Pos))

abbrev ContextParts : Type 0
ContextParts = WithParts ⊎ (UseClause ⊎ PragmaClause)

abbrev of_use : UseClause → Context
of_use clause = context_tree.Use clause.pos clause

abbrev of_pragma : PragmaClause → Context
of_pragma clause = context_tree.Pragma clause.pos clause

abbrev make_context : ContextParts → Context
make_context = cases make_with (cases of_use of_pragma)

abbrev with_parts : Reader WithParts
with_parts = seq (word Apart w.KwWith) (seq (dotted Apart) (seq next_dotteds semicolon))

abbrev context_parts : Reader ContextParts
context_parts = choose (of_word w.KwWith ∷ []) with_parts (choose (of_word w.KwUse ∷ []) use_clause (pragma 0))

abbrev GoodContextParts : ContextParts → Type 0
GoodContextParts = Either (Both Any (Both DottedPlaced (Both (Each NextDottedPlaced) Any))) (Either UsePlaced PragmaNamed)

abbrev context_parts_spelling : ContextParts → List WeighedToken
context_parts_spelling =
    of_either (joined (λ p. spelling.word Apart w.KwWith p ∷ []) (joined (dotted_spelling Apart) (joined (flat_map next_dotted_spelling) semicolon_spelling)))
    (of_either use_spelling (pragma_spelling 0))

abbrev GoodContext : Context → Type 0
GoodContext x = ContextPlaced x × ContextNamed x

good_context : (x : ContextParts) → GoodContextParts x → GoodContext (make_context x)
unfolding ContextPlaced ContextNamed
good_context (inl x) good = ((good.1.0, good.1.1.0), tt)
good_context (inr (inl clause)) good = ((refl, good), tt)
good_context (inr (inr clause)) good = (refl, good)

spelled_context : (x : ContextParts) → context_spelling (make_context x) ≡ context_parts_spelling x
unfolding context_spelling
spelled_context (inl x) = refl
spelled_context (inr (inl clause)) = refl
spelled_context (inr (inr clause)) = refl

onto_context : (a : Context) → GoodContext a → (x : ContextParts) × (GoodContextParts x × (make_context x ≡ a))
unfolding ContextPlaced ContextNamed
onto_context (context_tree.With pos first rest end) good =
    (inl (pos, (first, (rest, end))), ((tt, (good.0.0, (good.0.1, tt))), refl))
onto_context (context_tree.Use pos clause) good = (inr (inl clause), (good.0.1, ap (λ p. context_tree.Use p clause) good.0.0))
onto_context (context_tree.Pragma pos clause) good = (inr (inr clause), (good.1, ap (λ p. context_tree.Pragma p clause) good.0))

same_context : Same context (to make_context context_parts)
unfolding context with_clause
same_context =
    either_choice (of_word w.KwWith ∷ []) make_with (cases of_use of_pragma) with_parts (choose (of_word w.KwUse ∷ []) use_clause (pragma 0))
    (to make_with with_parts) (either (of_word w.KwUse ∷ []) (to of_use use_clause) (to of_pragma (pragma 0))) (λ k ts. refl)
    (either_choice (of_word w.KwUse ∷ []) of_use of_pragma use_clause (pragma 0) (to of_use use_clause) (to of_pragma (pragma 0))
    (λ k ts. refl) (λ k ts. refl))

-- context = "with" dotted {"," dotted} ";" | usecl | pragma
pub law_context : Law context GoodContext context_spelling context_first [] false
law_context =
    law_wider context_first []
    (law_same context
    (law_to make_context GoodContext context_spelling
    (law_choose (of_word w.KwWith ∷ [])
    (law_seq (law_word Apart w.KwWith) (law_seq (law_dotted Apart) (law_seq law_next_dotteds (law_symbol Apart s.Semicolon) refl) refl) refl)
    (law_choose (of_word w.KwUse ∷ []) law_use (law_pragma 0) refl refl) refl refl)
    good_context (λ x good. spelled_context x) onto_context) same_context) refl refl

-- {context}
law_contexts : Law contexts (Each GoodContext) (flat_map context_spelling) context_first context_first true
law_contexts = law_each context_first law_context refl refl

-- ---- subprograms that are units

abbrev ProcedureParts : Type 0
ProcedureParts = Identifier × Option Formals

abbrev Rest : Type 0
Rest = Option SparkMode × (Pos × SubprogramParts)

abbrev BodyParts : Type 0
BodyParts = (Pos × (ProcedureParts × Rest)) ⊎ (Pos × (FunctionParts × Rest))

abbrev make_rest : Pos → Subspec → Rest → SubprogramBody
make_rest pos spec = of_pair (λ mode. of_pair (make_body pos spec mode))

abbrev of_procedure : Pos → ProcedureParts → Rest → SubprogramBody
of_procedure pos f = make_rest pos (make_procedure pos f)

abbrev of_function : Pos → FunctionParts → Rest → SubprogramBody
of_function pos f = make_rest pos (make_function pos f)

abbrev make_whole : BodyParts → SubprogramBody
make_whole = cases (of_pair (λ pos. of_pair (of_procedure pos))) (of_pair (λ pos. of_pair (of_function pos)))

abbrev rest : Reader Rest
rest = seq mode (seq (word Apart w.KwIs) (subprogram_parts 1))

abbrev procedure_parts : Reader ProcedureParts
procedure_parts = seq (identifier Apart) (optional_formals 1)

abbrev body_parts : Reader BodyParts
body_parts =
    choose (of_word w.KwProcedure ∷ []) (seq (word Apart w.KwProcedure) (seq procedure_parts rest))
    (seq (word Apart w.KwFunction) (seq (function_parts 1) rest))

abbrev GoodRest : Rest → Type 0
GoodRest = Both (EachSome ModeNamed) (Both Any (GoodSubprogram 1))

abbrev GoodBodyParts : BodyParts → Type 0
GoodBodyParts =
    Either (Both Any (Both (Both Any (EachSome FormalsPlaced)) GoodRest)) (Both Any (Both GoodFunction GoodRest))

abbrev rest_spelling : Rest → List WeighedToken
rest_spelling = joined (spelling.optional mode_spelling) (joined is_spelling (subprogram_parts_spelling 1))

abbrev body_parts_spelling : BodyParts → List WeighedToken
body_parts_spelling =
    of_either (joined procedure_spelling (joined (joined id_spelling (spelling.optional (formals_spelling 1))) rest_spelling))
    (joined function_spelling (joined (function_parts_spelling 1) rest_spelling))

law_rest : Law rest GoodRest rest_spelling (of_word w.KwWith ∷ of_word w.KwIs ∷ []) [] false
law_rest =
    law_wider (of_word w.KwWith ∷ of_word w.KwIs ∷ []) []
    (law_seq law_mode (law_seq (law_word Apart w.KwIs) (law_subprogram_parts 1 (omega arith)) refl) refl) refl refl

good_whole : (x : BodyParts) → GoodBodyParts x → GoodBody 0 (make_whole x)
unfolding subspec_spelling SubspecPlaced
good_whole (inl (pos, (f, (mode, (is, x))))) good =
    good_body 0 pos (make_procedure pos f) mode is x refl good.1.0.1 good.1.1.0 good.1.1.1.1
good_whole (inr (pos, (f, (mode, (is, x))))) good =
    let front = good.1.0.1 in good_body 0 pos (make_function pos f) mode is x refl (front.0, front.1.1) good.1.1.0 good.1.1.1.1

spelled_whole : (x : BodyParts) → subprogram_spelling 0 (make_whole x) ≡ body_parts_spelling x
unfolding subprogram_spelling subspec_spelling
spelled_whole (inl x) = refl
spelled_whole (inr x) = refl

onto_fields : (pos : Pos) (spec : Subspec) (mode : Option SparkMode) (is : Pos) (x : SubprogramParts) → StartsAt pos (subspec_spelling 0 spec)
    → SubspecPlaced spec → EachSome ModeNamed mode → GoodSubprogram 1 x
    → (y : BodyParts) × (GoodBodyParts y × (make_whole y ≡ make_body pos spec mode is x))
unfolding subspec_spelling SubspecPlaced
onto_fields pos (subspec_tree.Procedure at id formals) mode is x starts placed named good = (
  inl (at, ((id, formals), (mode, (is, x)))),
  (
    (tt, ((tt, placed), (named, (tt, good)))),
    ap (λ p. make_body p (subspec_tree.Procedure at id formals) mode is x) (some_same at pos starts),
  ),
)
onto_fields pos (subspec_tree.Function at id formals return_word result) mode is x starts placed named good = (
  inr (at, ((id, (formals, (return_word, result))), (mode, (is, x)))),
  (
    (tt, ((tt, (placed.0, (tt, placed.1))), (named, (tt, good)))),
    ap (λ p. make_body p (subspec_tree.Function at id formals return_word result) mode is x) (some_same at pos starts),
  ),
)

onto_whole : (a : SubprogramBody) → GoodBody 0 a → (y : BodyParts) × (GoodBodyParts y × (make_whole y ≡ a))
onto_whole a good =
    let front = body_front_good 0 a good in
    onto_fields a.pos a.spec a.mode a.is (parts_of_body a) front.0 front.1.0 front.1.1 (body_parts_good 0 a good)

same_rest : (pos : Pos) (spec : Subspec) → Same (subprogram_behind pos spec) (to (make_rest pos spec) rest)
unfolding subprogram_behind body_behind
same_rest pos spec =
    chain_seq (λ mode. of_pair (make_body pos spec mode)) mode (seq (word Apart w.KwIs) (subprogram_parts 1))
    (λ mode. chain (word Apart w.KwIs) (λ is. body_behind 1 pos spec mode is))
    (λ mode. chain_seq (make_body pos spec mode) (word Apart w.KwIs) (subprogram_parts 1) (λ is. body_behind 1 pos spec mode is)
    (λ is. λ k ts. refl))

same_whole : Same subprogram_body (to make_whole body_parts)
unfolding subprogram_body procedure_spec function_spec
same_whole =
    either_choice (of_word w.KwProcedure ∷ []) (of_pair (λ pos. of_pair (of_procedure pos))) (of_pair (λ pos. of_pair (of_function pos)))
    (seq (word Apart w.KwProcedure) (seq procedure_parts rest)) (seq (word Apart w.KwFunction) (seq (function_parts 1) rest))
    (chain (word Apart w.KwProcedure) (λ pos. chain (procedure_spec 1 pos) (λ spec. subprogram_behind pos spec)))
    (chain (word Apart w.KwFunction) (λ pos. chain (function_spec 1 pos) (λ spec. subprogram_behind pos spec)))
    (chain_seq (λ pos. of_pair (of_procedure pos)) (word Apart w.KwProcedure) (seq procedure_parts rest)
    (λ pos. chain (procedure_spec 1 pos) (λ spec. subprogram_behind pos spec))
    (λ pos. chain_made (make_procedure pos) (make_rest pos) procedure_parts rest (λ spec. subprogram_behind pos spec) (λ spec. same_rest pos spec)))
    (chain_seq (λ pos. of_pair (of_function pos)) (word Apart w.KwFunction) (seq (function_parts 1) rest)
    (λ pos. chain (function_spec 1 pos) (λ spec. subprogram_behind pos spec))
    (λ pos. chain_made (make_function pos) (make_rest pos) (function_parts 1) rest (λ spec. subprogram_behind pos spec) (λ spec. same_rest pos spec)))

abbrev subprogram_first : List ℕ
subprogram_first = of_word w.KwProcedure ∷ of_word w.KwFunction ∷ []

-- subbody = subspec mode "is" {item} "begin" stmts "end" [id] ";", with no construct open around it
pub law_subprogram_body : Law subprogram_body (GoodBody 0) (subprogram_spelling 0) subprogram_first [] false
law_subprogram_body =
    law_wider subprogram_first []
    (law_same subprogram_body
    (law_to make_whole (GoodBody 0) (subprogram_spelling 0)
    (law_choose (of_word w.KwProcedure ∷ [])
    (law_seq (law_word Apart w.KwProcedure) (law_seq (law_seq (law_identifier Apart) (law_optional_formals 1) refl) law_rest refl) refl)
    (law_seq (law_word Apart w.KwFunction) (law_seq (law_function_parts 1) law_rest refl) refl) refl refl)
    good_whole (λ x good. spelled_whole x) onto_whole) same_whole) refl refl

-- ---- units

abbrev Packages : Type 0
Packages = PackageBodyParts ⊎ PackageParts

abbrev Library : Type 0
Library = (Pos × Packages) ⊎ SubprogramBody

abbrev of_body : Pos → List Context → Pos → PackageBodyParts → SourceUnit
of_body pos clauses at x = unit_tree.OfBody pos clauses (make_package_body at x)

abbrev of_package : Pos → List Context → Pos → PackageParts → SourceUnit
of_package pos clauses at x = unit_tree.OfPackage pos clauses (make_package at x)

abbrev make_packages : Pos → List Context → Pos → Packages → SourceUnit
make_packages pos clauses at = cases (of_body pos clauses at) (of_package pos clauses at)

abbrev make_library : Pos → List Context → Library → SourceUnit
make_library pos clauses = cases (of_pair (make_packages pos clauses)) (unit_tree.OfSubprogram pos clauses)

abbrev make_unit : Pos × (List Context × Library) → SourceUnit
make_unit = of_pair (λ pos. of_pair (make_library pos))

abbrev packages : Reader Packages
packages = choose (of_word w.KwBody ∷ []) package_body_parts package_parts

abbrev library : Reader Library
library = choose (of_word w.KwPackage ∷ []) (seq (word Apart w.KwPackage) packages) subprogram_body

abbrev GoodLibrary : Library → Type 0
GoodLibrary = Either (Both Any (Either GoodPackageBodyParts GoodPackageParts)) (GoodBody 0)

abbrev library_spelling : Library → List WeighedToken
library_spelling =
    of_either (joined (λ p. spelling.word Apart w.KwPackage p ∷ []) (of_either package_body_parts_spelling package_parts_spelling)) (subprogram_spelling 0)

abbrev library_first : List ℕ
library_first = of_word w.KwPackage ∷ subprogram_first

law_library : Law library GoodLibrary library_spelling library_first [] false
law_library =
    law_wider library_first []
    (law_choose (of_word w.KwPackage ∷ [])
    (law_seq (law_word Apart w.KwPackage) (law_choose (of_word w.KwBody ∷ []) law_package_body_parts law_package_parts refl refl) refl)
    law_subprogram_body refl refl) refl refl

abbrev Whole : Type 0
Whole = Pos × (List Context × Library)

abbrev whole_spelling : Whole → List WeighedToken
whole_spelling x = joined (flat_map context_spelling) library_spelling x.1

abbrev GoodWhole : Whole → Type 0
GoodWhole x = Both (Each GoodContext) GoodLibrary x.1 × StartsAt x.0 (whole_spelling x)

abbrev pub GoodUnit : SourceUnit → Type 0
GoodUnit x = UnitPlaced x × UnitNamed x

good_unit : (x : Whole) → GoodWhole x → GoodUnit (make_unit x)
unfolding UnitPlaced UnitNamed package_spelling package_body_spelling
good_unit (pos, (clauses, inl (at, inl x))) good =
    let context = each_both ContextPlaced ContextNamed clauses good.0.0 in
    let body = good_package_body at x good.0.1.1 in ((good.1, context.0, body.0), (context.1, body.1))
good_unit (pos, (clauses, inl (at, inr x))) good =
    let context = each_both ContextPlaced ContextNamed clauses good.0.0 in
    let body = good_package at x good.0.1.1 in ((good.1, context.0, body.0), (context.1, body.1))
good_unit (pos, (clauses, inr body)) good =
    let context = each_both ContextPlaced ContextNamed clauses good.0.0 in ((good.1, context.0, good.0.1.0), (context.1, good.0.1.1))

spelled_unit : (x : Whole) → unit_spelling (make_unit x) ≡ whole_spelling x
unfolding unit_spelling package_spelling package_body_spelling
spelled_unit (pos, (clauses, inl (at, inl x))) = refl
spelled_unit (pos, (clauses, inl (at, inr x))) = refl
spelled_unit (pos, (clauses, inr body)) = refl

onto_unit : (a : SourceUnit) → GoodUnit a → (x : Whole) × (GoodWhole x × (make_unit x ≡ a))
unfolding UnitPlaced UnitNamed package_spelling package_body_spelling
onto_unit (unit_tree.OfPackage pos clauses whole) good = (
  (pos, (clauses, inl (whole.pos, inr (parts_of_package whole)))),
  (((both_each ContextPlaced ContextNamed clauses (good.0.1, good.1.0), (tt, package_parts_good whole (good.0.2, good.1.1))), good.0.0), refl),
)
onto_unit (unit_tree.OfBody pos clauses body) good = (
  (pos, (clauses, inl (body.pos, inl (parts_of_package_body body)))),
  (((both_each ContextPlaced ContextNamed clauses (good.0.1, good.1.0), (tt, package_body_parts_good body (good.0.2, good.1.1))), good.0.0), refl),
)
onto_unit (unit_tree.OfSubprogram pos clauses body) good = (
  (pos, (clauses, inr body)),
  (((both_each ContextPlaced ContextNamed clauses (good.0.1, good.1.0), (good.0.2, good.1.1)), good.0.0), refl),
)

same_packages : (pos : Pos) (clauses : List Context) (at : Pos) → Same (package_unit pos clauses at) (to (make_packages pos clauses at) packages)
unfolding package_unit package_body_behind package_behind
same_packages pos clauses at =
    either_choice (of_word w.KwBody ∷ []) (of_body pos clauses at) (of_package pos clauses at) package_body_parts package_parts
    (to (unit_tree.OfBody pos clauses) (package_body_behind at)) (to (unit_tree.OfPackage pos clauses) (package_behind at))
    (made_twice (make_package_body at) (unit_tree.OfBody pos clauses) package_body_parts)
    (made_twice (make_package at) (unit_tree.OfPackage pos clauses) package_parts)

same_library : (pos : Pos) (clauses : List Context) → Same (unit_behind pos clauses) (to (make_library pos clauses) library)
unfolding unit_behind
same_library pos clauses =
    either_choice (of_word w.KwPackage ∷ []) (of_pair (make_packages pos clauses)) (unit_tree.OfSubprogram pos clauses)
    (seq (word Apart w.KwPackage) packages) subprogram_body
    (chain (word Apart w.KwPackage) (λ at. package_unit pos clauses at)) (to (unit_tree.OfSubprogram pos clauses) subprogram_body)
    (chain_seq (make_packages pos clauses) (word Apart w.KwPackage) packages (λ at. package_unit pos clauses at) (λ at. same_packages pos clauses at))
    (λ k ts. refl)

same_unit : Same unit (to make_unit (seq here (seq contexts library)))
unfolding unit
same_unit =
    chain_seq (λ pos. of_pair (make_library pos)) here (seq contexts library) (λ pos. chain contexts (λ clauses. unit_behind pos clauses))
    (λ pos. chain_seq (make_library pos) contexts library (λ clauses. unit_behind pos clauses) (λ clauses. same_library pos clauses))

-- unit = {context} (package | packbody | subbody)
pub law_unit : Law unit GoodUnit unit_spelling unit_first [] false
law_unit =
    law_wider unit_first []
    (law_same unit
    (law_to make_unit GoodUnit unit_spelling (law_placed (law_seq law_contexts law_library refl) refl)
    good_unit (λ x good. spelled_unit x) onto_unit) same_unit) refl refl

-- ---- the units of a file

source_good : (units : List SourceUnit) → SomeEach GoodUnit units → IsSource units
source_good [] good = absurd good
source_good (x ∷ xs) good =
    let rest = each_both UnitPlaced UnitNamed xs good.1 in
    record { some = (x, xs, refl); placed = (good.0.0, rest.0); named = (good.0.1, rest.1) }

units_good : (units : List SourceUnit) → IsSource units → SomeEach GoodUnit units
units_good [] good = absurd (let never : [] ≡ good.some.0 ∷ good.some.1 = good.some.2 in cc)
units_good (x ∷ xs) good = ((good.placed.0, good.named.0), both_each UnitPlaced UnitNamed xs (good.placed.1, good.named.1))

-- unit {unit}
pub law_source : Law source IsSource source_spelling unit_first unit_first false
unfolding source
law_source =
    law_wider unit_first unit_first
    (law_reworded IsSource source_spelling (law_some_each unit_first law_unit refl refl) source_good units_good (λ units good. refl)) refl refl
