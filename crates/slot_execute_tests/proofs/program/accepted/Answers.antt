use Rattle.std.proofs.Common.{◌≡◌, ◌∙◌, ◌++◌, ◌∷◌, [], List, Ok, map, ap, sym, subst}
use Rattle.std.proofs.lemmas.Simd.{map-map}
use Rattle.spark_base.specs.declared.limits.TheConstants.{TOKENS}
use Rattle.ada_lexer.specs.declared.token.Token.{Token}
use Rattle.ada_lexer.specs.Tokens.{CutResult, cut_of}
use Rattle.token_reading.specs.Spelled.{Spelled, told}
use Rattle.ada_tree.specs.declared.trees.Trees.{Trees}
use Rattle.ada_tree.specs.Refusals.{IsTreeOf}
use Rattle.source_trees.specs.Cuts.{then_files}
use Rattle.source_trees.specs.Trees.{told_cut, AreRead}
use Rattle.name_resolve.specs.Inputs.{trees_of}
use Rattle.slot_execute_tests.proofs.program.accepted.Goals as goal

-- the one file is that of the text
pub resolve-requires : goal.resolve-requires
resolve-requires c =
    let tokens : List Token = c.in-Ok.tokens.items in
    let told_alike : map told_cut (map cut_of tokens) ≡ map told tokens = map-map told_cut cut_of tokens in
    let spells : IsTreeOf (map told tokens) c.in-Ok-parse.trees.units =
    subst (λ (ts : List Token). IsTreeOf (map told ts) c.in-Ok-parse.trees.units) c.deref.ensures.value c.in-Ok-parse.ensures.found in
    let files : c.push.new.self.items ≡ c.in-Ok-parse.trees ∷ [] =
    c.in_ok-push.ensures.items ∙ ap (λ (ts : List Trees). ts ++ c.in-Ok-parse.trees ∷ []) c.new-files.ensures.items in
    let read : AreRead (c.as_bytes.result.now ∷ []) (c.in-Ok-parse.trees.units ∷ []) = record {
      cuts = map cut_of tokens ∷ [];
      cut = ap (λ (r : CutResult). then_files r TOKENS (λ left. Ok [])) c.in-Ok.ensures.found;
      parsed = (subst (λ (ts : List Spelled). IsTreeOf ts c.in-Ok-parse.trees.units) (sym told_alike) spells, tt);
    } in
    record {
      read = (
        c.as_bytes.result.now ∷ [],
        subst (λ (ts : List Trees). AreRead (c.as_bytes.result.now ∷ []) (trees_of ts)) (sym files) read,
      );
    }
