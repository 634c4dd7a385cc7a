-- Files whose tokens are those of the definition are parsed from texts.
use Rattle.std.proofs.Common.{◌≡◌, ℕ, suc, ◌+◌, ◌-◌, List, [], ◌∷◌, length, Ok, Err, refl, subst, arith}
use Rattle.ada_lexer.specs.Tokens.{Cut, CutResult, tokens}
use Rattle.ada_tree.specs.declared.unit.SourceUnit.{SourceUnit}
use Rattle.source_trees.specs.Cuts.{AllTokens, with_tokens, then_files, all_tokens}
use Rattle.source_trees.specs.Trees.{AreTreesOf}
use Rattle.settled_types.specs.FilePositions.Texts.{AreParsed}
use Rattle.settled_types.proofs.FilePositions.Cuts.{cut_in_order}

pub are_parsed : (texts : List (List ℕ)) (file room : ℕ) (cuts : List (List Cut)) (trees : List (List SourceUnit)) → all_tokens file room texts ≡ Ok cuts
    → AreTreesOf cuts trees → AreParsed file cuts trees
are_parsed [] file room cuts trees e of = empty cuts trees e of
  where
    empty : (cuts : List (List Cut)) (trees : List (List SourceUnit)) → all_tokens file room [] ≡ Ok cuts → AreTreesOf cuts trees → AreParsed file cuts trees
    empty [] [] e of = tt
    empty [] (units ∷ trees) e of = absurd of
    empty (one ∷ cuts) trees e of = cc
are_parsed (text ∷ texts) file room cuts trees e of =
    by (λ left more trees e of. are_parsed texts (file + 1) left more trees e of) (tokens file text room) refl e
  where
    after : file + 1 ≡ suc file
    after = omega arith

    by : ((left : ℕ) (more : List (List Cut)) (trees : List (List SourceUnit)) → all_tokens (file + 1) left texts ≡ Ok more → AreTreesOf more trees → AreParsed (file + 1) more trees)
        → (o : CutResult) → tokens file text room ≡ o → then_files o room (λ left. all_tokens (file + 1) left texts) ≡ Ok cuts → AreParsed file cuts trees
    by on (Err fault) is e = cc
    by on (Ok found) is e = joined (all_tokens (file + 1) (room - (length found - 1)) texts) refl e
      where
        both : (more : List (List Cut)) (trees : List (List SourceUnit)) → all_tokens (file + 1) (room - (length found - 1)) texts ≡ Ok more
            → AreTreesOf (found ∷ more) trees → AreParsed file (found ∷ more) trees
        both more [] rest of = absurd of
        both more (units ∷ trees) rest of = (
          cut_in_order file text room found is,
          of.0.spells,
          subst (λ n. AreParsed n more trees) after (on (room - (length found - 1)) more trees rest of.1),
        )

        joined : (o : AllTokens) → all_tokens (file + 1) (room - (length found - 1)) texts ≡ o → with_tokens found o ≡ Ok cuts → AreParsed file cuts trees
        joined (Err fault) rest e = cc
        joined (Ok more) rest e =
            let same : found ∷ more ≡ cuts = cc in
            subst (λ (cs : List (List Cut)). AreTreesOf cs trees → AreParsed file cs trees) same (both more trees rest) of
