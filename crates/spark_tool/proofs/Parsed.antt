-- What the grammar says of the files so far.
use Rattle.std.proofs.Common.{◌≡◌, ◌<◌, ℕ, suc, ◌+◌, Ok, List, [], ◌∷◌, ◌++◌, Vec, map, length, All, get_or, take, drop, refl, sym, ap, ◌∙◌, subst, arith, drop-cons}
use Rattle.std.proofs.lemmas.List.{map-append, take-append-drop, take_more}
use Rattle.std.proofs.lemmas.List.Elements.{All-cons, All-nil}
use Rattle.std.specs.declared.alloc.Global.{Global}
use Rattle.spark_base.specs.declared.position.Pos.{Pos}
use Rattle.spark_base.specs.declared.limits.TheConstants.{TOKENS}
use Rattle.ada_lexer.specs.declared.token.Token.{Token}
use Rattle.ada_lexer.specs.Tokens.{Cut, cut_of}
use Rattle.token_reading.specs.Spelled.{Spelled, told}
use Rattle.ada_tree.specs.declared.unit.SourceUnit.{SourceUnit}
use Rattle.ada_tree.specs.declared.trees.Trees.{Trees}
use Rattle.ada_tree.specs.Refusals as grammar
use Rattle.name_resolve.specs.Inputs.{trees_of}
use Rattle.ada_parser.specs.declared.refusal.ParseRefusal.{ParseRefusal}
use Rattle.ada_parser.specs.declared.refusal.ParseRefusal.TheVariants.{Syntax, TooDeep, LeftOut, Memory}
use Rattle.ada_parser.specs.Refused.{RefusedAt, IsRefusal}
use Rattle.source_trees.specs.Cuts.{all_tokens}
use Rattle.spark_tool.specs.Lexing.{cuts_of}
use Rattle.source_trees.specs.Trees.{told_cut, AreTreesOf}
use Rattle.answered_runs.specs.tool_answers.Parsing.{IsParsed, IsRefusedAt, FirstRefused}
use Rattle.answered_runs.specs.tool_answers.Product.{Finding, Checks, syntactic}
use Rattle.answered_runs.specs.tool_answers.Reading.{Texts}
use Rattle.spark_tool.specs.Refusals.{IsFirstRefusal, IsRefused, parse_code}

-- tokens are told alike as they are and as they were cut
pub told_cuts : (tokens : List Token) → map told_cut (map cut_of tokens) ≡ map told tokens
told_cuts [] = refl
told_cuts (t ∷ tokens) = ap (λ (rest : List Spelled). told t ∷ rest) (told_cuts tokens)

-- units of the tokens are those of the cuts
pub parsed_cuts : (tokens : List Token) (units : List SourceUnit) → grammar.IsTreeOf (map told tokens) units
    → grammar.IsTreeOf (map told_cut (map cut_of tokens)) units
parsed_cuts tokens units tree = subst (λ (ts : List Spelled). grammar.IsTreeOf ts units) (sym (told_cuts tokens)) tree

-- files with trees are those of sources
pub parsed_of : (files : List (List Cut)) (trees : List (List SourceUnit)) → AreTreesOf files trees → All IsParsed files
parsed_of [] [] of = All-nil IsParsed
parsed_of [] (units ∷ trees) of = absurd of
parsed_of (cuts ∷ files) [] of = absurd of
parsed_of (cuts ∷ files) (units ∷ trees) of = All-cons IsParsed cuts files (units, of.0) (parsed_of files trees of.1)

trees_behind : (files : List (List Cut)) (trees : List (List SourceUnit)) (cuts : List Cut) (units : List SourceUnit) → AreTreesOf files trees
    → grammar.IsTreeOf (map told_cut cuts) units → AreTreesOf (files ++ cuts ∷ []) (trees ++ units ∷ [])
trees_behind [] [] cuts units of tree = (tree, tt)
trees_behind [] (u ∷ trees) cuts units of tree = absurd of
trees_behind (file ∷ files) [] cuts units of tree = absurd of
trees_behind (file ∷ files) (u ∷ trees) cuts units of tree = (of.0, trees_behind files trees cuts units of.1 tree)

-- so is a refused token
pub refused_cuts : (code : grammar.Code) (at : Pos) (tokens : List Token) → RefusedAt code tokens at → IsRefusedAt code at (map cut_of tokens)
refused_cuts code at tokens found = record {
  before = map cut_of found.before;
  token = cut_of found.token;
  behind = map cut_of found.behind;
  splits = ap (map cut_of) found.splits ∙ map-append cut_of found.before (found.token ∷ found.behind);
  position = found.position;
  refused = subst (λ (ts : List Spelled). grammar.IsRefused code ts (told found.token)) (sym (told_cuts found.before)) found.refused;
}

-- one more file is that of a source
pub parsed_more : (files : List (Vec Token Global)) (i : ℕ) (file : Vec Token Global) (trees : List Trees) (found : Trees) (all : List Trees) → i < length files
    → file ≡ get_or files i file → all ≡ trees ++ found ∷ [] → AreTreesOf (cuts_of (take i files)) (trees_of trees)
    → grammar.IsTreeOf (map told file.items) found.units → AreTreesOf (cuts_of (take (i + 1) files)) (trees_of all)
parsed_more files i file trees found all within is added before tree =
    let more : take (i + 1) files ≡ take i files ++ file ∷ [] =
    take_more files i file within ∙ ap (λ (f : Vec Token Global). take i files ++ f ∷ []) (sym is) in
    let cuts : cuts_of (take (i + 1) files) ≡ cuts_of (take i files) ++ map cut_of file.items ∷ [] =
    ap cuts_of more ∙ map-append (λ (f : Vec Token Global). map cut_of f.items) (take i files) (file ∷ []) in
    let units : trees_of all ≡ trees_of trees ++ found.units ∷ [] = ap trees_of added ∙ map-append (λ (t : Trees). t.units) trees (found ∷ []) in
    subst (λ (fs : List (List Cut)). AreTreesOf fs (trees_of all)) (sym cuts)
    (subst (λ (us : List (List SourceUnit)). AreTreesOf (cuts_of (take i files) ++ map cut_of file.items ∷ []) us) (sym units)
    (trees_behind (cuts_of (take i files)) (trees_of trees) (map cut_of file.items) found.units before (parsed_cuts file.items found.units tree)))

-- the files before are those of sources, and this one is refused
pub first_refused : (code : grammar.Code) (at : Pos) (files : List (Vec Token Global)) (i : ℕ) (file : Vec Token Global) → i < length files
    → file ≡ get_or files i file → All IsParsed (cuts_of (take i files)) → RefusedAt code file.items at → FirstRefused code at (cuts_of files)
first_refused code at files i file within is before found =
    let rest : drop i files ≡ file ∷ drop (suc i) files =
    drop-cons files i file within ∙ ap (λ (f : Vec Token Global). f ∷ drop (suc i) files) (sym is) in
    let split : files ≡ take i files ++ file ∷ drop (suc i) files =
    sym (take-append-drop i files) ∙ ap (λ (fs : List (Vec Token Global)). take i files ++ fs) rest in
    record {
      before = cuts_of (take i files);
      file = map cut_of file.items;
      behind = cuts_of (drop (suc i) files);
      splits = ap cuts_of split ∙ map-append (λ (f : Vec Token Global). map cut_of f.items) (take i files) (file ∷ drop (suc i) files);
      parsed = before;
      refused = refused_cuts code at file.items found;
    }

pub first_refusal : (refusal : ParseRefusal) (files : List (Vec Token Global)) (i : ℕ) (file : Vec Token Global) → i < length files
    → file ≡ get_or files i file → All IsParsed (cuts_of (take i files)) → IsRefusal file.items refusal → IsFirstRefusal (cuts_of files) refusal
first_refusal (Syntax at) files i file within is before found = first_refused grammar.Syntax at files i file within is before found
first_refusal (TooDeep at) files i file within is before found = first_refused grammar.TooDeep at files i file within is before found
first_refusal (LeftOut at) files i file within is before found = first_refused grammar.LeftOut at files i file within is before found
first_refusal Memory files i file within is before found = tt

-- a fact of all elements holds of one in the middle
pub at_middle : {X : Type 0} (P : X → Type 0) (before : List X) (x : X) (behind : List X) → All P (before ++ x ∷ behind) → P x
at_middle P [] x behind all = all 0 x (omega arith)
at_middle P (b ∷ before) x behind all = at_middle P before x behind (λ k d within. all (suc k) d (omega (arith, within)))

-- the line of the first refusal answers the check
pub refusal_answers : (names texts : List (List ℕ)) (cuts : List (List Cut)) (refusal : ParseRefusal) (answer : Finding)
    → all_tokens 0 TOKENS texts ≡ Ok cuts → IsFirstRefusal cuts refusal → IsRefused names (parse_code refusal) answer → Checks names (Texts texts) answer
refusal_answers names texts cuts (Syntax pos) answer cut first line = subst (Checks names (Texts texts)) (sym line) (syntactic texts cuts grammar.Syntax pos cut first)
refusal_answers names texts cuts (TooDeep pos) answer cut first line = subst (Checks names (Texts texts)) (sym line) (syntactic texts cuts grammar.TooDeep pos cut first)
refusal_answers names texts cuts (LeftOut pos) answer cut first line = subst (Checks names (Texts texts)) (sym line) (syntactic texts cuts grammar.LeftOut pos cut first)
refusal_answers names texts cuts Memory answer cut first line = absurd line
