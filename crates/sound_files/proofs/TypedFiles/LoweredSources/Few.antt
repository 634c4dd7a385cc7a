-- Parsed files have no more literals of enumerations than tokens.
use Rattle.std.proofs.Common.{◌≡◌, ◌≤◌, inl, inr, ℕ, suc, ◌+◌, ◌-◌, List, [], ◌∷◌, ◌++◌, map, length, length-append, sym, ap, ◌∙◌, arith}
use Rattle.std.specs.Prelude.{flat_map}
use Rattle.std.proofs.lemmas.List.{length-map}
use Rattle.machine.specs.spark_base.declared.position.Pos.{Pos}
use Rattle.machine.specs.spark_base.Lists.{Has}
use Rattle.ada_lexer.specs.Tokens.{Cut}
use Rattle.token_reading.specs.Spelled.{Spelled, Word, Ident, Number, Str, Delimiter, EndOfFile}
use Rattle.token_reading.specs.Weights.{WeighedToken, bare}
use Rattle.token_reading.specs.Sources.{file_of}
use Rattle.ada_tree.specs.declared.unit.SourceUnit.{SourceUnit}
use Rattle.ada_tree.specs.Spelling.{source_spelling}
use Rattle.name_events.specs.declared.event.Event.{Event}
use Rattle.name_events.specs.declared.event.Event.TheVariants as e
use Rattle.name_events.specs.declared.declaration.DeclarationForm.{DeclarationForm}
use Rattle.name_events.specs.declared.declaration.DeclarationForm.TheVariants as form
use Rattle.name_events.specs.Outline.{source_events}
use Rattle.machine.specs.resolved_tree.Trees.{More, Code, Enumeration, TypeDecl, SubBody, Package, PackageBody, If, Branch, Case, When, Loop, While, For, Block}
use Rattle.expression_lowering.specs.LoweredExpressions.{Numbers}
use Rattle.tree_lowering.specs.Lowered.{lowered_files}
use Rattle.settled_types.specs.FilePositions.Order.{IsLeftOf, token_position, token_positions, spelled_positions, event_position, event_positions}
use Rattle.settled_types.specs.FilePositions.Texts.{told_cut, AreParsed}
use Rattle.settled_types.proofs.FilePositions.Ascending.{text_positions, file_positions, events_left}
use Rattle.sound_files.specs.MeantFiles.Declarations.{each_as, literals_of, front_declarations, declarations, declared_by}
use Rattle.sound_files.proofs.MeantFiles.Walk.{files_declared}
use Rattle.sound_files.specs.TypedFiles.TypedTexts.Literals.{id_count, defined_count, literal_count}
use Rattle.sound_files.specs.TypedFiles.LoweredSources.Tokens.{token_count}

-- ---- literals are declarations

from_zero : (n : ℕ) → 0 ≤ n
from_zero n = omega arith

each_counted : (new : DeclarationForm) (ids : Code) → id_count ids ≤ length (each_as new ids)
each_counted new (More d rest) = let more = each_counted new rest in omega (arith, more)
each_counted new ids = from_zero (length (each_as new ids))

defined_counted : (def : Code) → defined_count def ≤ length (literals_of def)
defined_counted (Enumeration literals) = each_counted form.Literal literals
defined_counted def = from_zero (length (literals_of def))

two : (a b : Code) → literal_count a ≤ length (declarations a) → literal_count b ≤ length (declarations b)
    → literal_count a + literal_count b ≤ length (declarations a ++ declarations b)
two a b h g = let both = length-append (declarations a) (declarations b) in omega (arith, h, g, both)

counted : (code : Code) → literal_count code ≤ length (declarations code)
unfolding literal_count
counted (TypeDecl d def end) = let less = defined_counted def in omega (arith, less)
counted (SubBody front items stmts end) =
    let less = two items stmts (counted items) (counted stmts) in
    let both = length-append (front_declarations front) (declarations items ++ declarations stmts) in
    omega (arith, less, both)
counted (Package d visible hidden) = let less = two visible hidden (counted visible) (counted hidden) in omega (arith, less)
counted (PackageBody d parts) = counted parts
counted (If p a b) = two a b (counted a) (counted b)
counted (Branch p x stmts) = counted stmts
counted (Case p x whens) = counted whens
counted (When choices stmts) = counted stmts
counted (Loop p stmts) = counted stmts
counted (While p x stmts) = counted stmts
counted (For p d reversed range stmts) = let less = counted stmts in omega (arith, less)
counted (Block p a b end) = two a b (counted a) (counted b)
counted (More a b) = two a b (counted a) (counted b)
counted code = from_zero (length (declarations code))

unit_counted : (units : List Code) (u : Code) → Has units u → length (declarations u) ≤ length (flat_map declarations units)
unit_counted [] u has = absurd has
unit_counted (v ∷ units) u (inl same) =
    let both = length-append (declarations v) (flat_map declarations units) in
    let one = ap (λ c. length (declarations c)) same in
    omega (arith, both, one)
unit_counted (v ∷ units) u (inr has) =
    let both = length-append (declarations v) (flat_map declarations units) in
    let more = unit_counted units u has in
    omega (arith, both, more)

-- ---- declarations are identifiers

left_shorter : (ps qs : List Pos) → IsLeftOf ps qs → length ps ≤ length qs
left_shorter [] qs left = omega arith
left_shorter (p ∷ ps) [] left = absurd left
left_shorter (p ∷ ps) (q ∷ qs) (inl left) = let less = left_shorter ps qs left.1 in omega (arith, less)
left_shorter (p ∷ ps) (q ∷ qs) (inr left) = let less = left_shorter (p ∷ ps) qs left in omega (arith, less)

module _ (numbers : Numbers) where
  declared_shorter : (events : List Event) → length (declared_by numbers events) ≤ length (event_positions events)
  declared_shorter [] = omega arith
  declared_shorter (e.Declares new id ∷ rest) = let less = declared_shorter rest in omega (arith, less)
  declared_shorter (event ∷ rest) = let less = declared_shorter rest in let both = length-append (event_position event) (event_positions rest) in omega (arith, less, both)

-- ---- identifiers are tokens

one_position : (t : Spelled) → length (token_position t) ≤ 1
one_position (Word word pos) = omega arith
one_position (Ident pos text) = omega arith
one_position (Number number pos) = omega arith
one_position (Str pos text) = omega arith
one_position (Delimiter symbol pos) = omega arith
one_position EndOfFile = omega arith

spelled_shorter : (ms : List WeighedToken) → length (spelled_positions ms) ≤ length (bare ms)
spelled_shorter [] = omega arith
spelled_shorter (m ∷ ms) =
    let one = one_position m.token in
    let more = spelled_shorter ms in
    let both = length-append (token_position m.token) (spelled_positions ms) in
    omega (arith, one, more, both)

-- The tokens of a file are those of its tree and its end.
file_shorter : (cuts : List Cut) (units : List SourceUnit) → file_of (source_spelling units) ≡ map told_cut cuts
    → length (token_positions (map told_cut cuts)) ≤ length cuts - 1
file_shorter cuts units spelled =
    let less = spelled_shorter (source_spelling units) in
    let same = ap length (sym (file_positions (source_spelling units)) ∙ ap token_positions spelled) in
    let all = ap length spelled in
    let long = length-map cuts told_cut in
    let both = length-append (bare (source_spelling units)) (EndOfFile ∷ []) in
    omega (arith, less, same, all, long, both)

texts_shorter : (file : ℕ) (texts : List (List Cut)) (files : List (List SourceUnit)) → AreParsed file texts files
    → length (text_positions texts) ≤ token_count texts
texts_shorter file [] [] are = omega arith
texts_shorter file [] (units ∷ files) are = absurd are
texts_shorter file (cuts ∷ texts) [] are = absurd are
texts_shorter file (cuts ∷ texts) (units ∷ files) are =
    let here = file_shorter cuts units are.1.spelled in
    let more = texts_shorter (suc file) texts files are.2 in
    let both = length-append (token_positions (map told_cut cuts)) (text_positions texts) in
    omega (arith, here, more, both)

-- No unit has more literals than all texts have tokens.
pub literals_few : (numbers : Numbers) (texts : List (List Cut)) (files : List (List SourceUnit)) → AreParsed 0 texts files
    → (u : Code) → Has (lowered_files numbers files) u → literal_count u ≤ token_count texts
literals_few numbers texts files are u has =
    let one = counted u in
    let all = unit_counted (lowered_files numbers files) u has in
    let same = ap length (files_declared numbers files) in
    let declared = declared_shorter numbers (source_events files) in
    let left = left_shorter (event_positions (source_events files)) (text_positions texts) (events_left 0 texts files are) in
    let tokens = texts_shorter 0 texts files are in
    omega (arith, one, all, same, declared, left, tokens)
