-- What texts that have no trees answer.
use Rattle.std.proofs.Common.{◌≡◌, ◌≢◌, ℕ, List, Err, Some, refl, sym, subst}
use Rattle.spark_base.specs.declared.position.Pos.{Pos}
use Rattle.spark_base.specs.declared.limits.TheConstants.{TOKENS}
use Rattle.ada_lexer.specs.declared.refusal.LexRefusal.{LexRefusal}
use Rattle.ada_lexer.specs.declared.refusal.LexRefusal.TheVariants.{BadByte, BadIdentifier, BadNumber, OpenString, TooMany, Memory}
use Rattle.rule_reports.specs.declared.code.Code.{Code}
use Rattle.rule_reports.specs.declared.code.Code.TheVariants.{L1, L2, L3, L4, L5}
use Rattle.spark_tool.specs.declared.parsing.SourceRefusal.{SourceRefusal}
use Rattle.spark_tool.specs.declared.parsing.SourceRefusal.TheVariants as source
use Rattle.source_trees.specs.Cuts.{all_tokens}
use Rattle.answered_runs.specs.tool_answers.Product.{Finding, Checks, lexical, lexical_code, stops}
use Rattle.answered_runs.specs.tool_answers.Reading.{Texts}
use Rattle.spark_tool.specs.Refusals.{RefusesTexts, IsRefused, source_code}
use Rattle.spark_tool.proofs.Parsed.{refusal_answers}

fault_answers : (names texts : List (List ℕ)) (fault : LexRefusal) (pos : Pos) (code : Code) (answer : Finding) → all_tokens 0 TOKENS texts ≡ Err fault
    → lexical_code fault ≡ Some (pos, code) → answer ≡ stops names pos code → Checks names (Texts texts) answer
fault_answers names texts fault pos code answer cut coded line =
    subst (λ (a : Finding). Checks names (Texts texts) a) (sym line) (lexical texts fault pos code cut coded)

-- the line of a lexical fault
lexical_answers : (names texts : List (List ℕ)) (fault : LexRefusal) (answer : Finding) → (fault ≢ Memory → all_tokens 0 TOKENS texts ≡ Err fault)
    → IsRefused names (lexical_code fault) answer → Checks names (Texts texts) answer
lexical_answers names texts (BadByte pos) answer cut line = fault_answers names texts (BadByte pos) pos L1 answer (cut (λ e. cc)) refl line
lexical_answers names texts (BadIdentifier pos) answer cut line = fault_answers names texts (BadIdentifier pos) pos L2 answer (cut (λ e. cc)) refl line
lexical_answers names texts (BadNumber pos) answer cut line = fault_answers names texts (BadNumber pos) pos L3 answer (cut (λ e. cc)) refl line
lexical_answers names texts (OpenString pos) answer cut line = fault_answers names texts (OpenString pos) pos L4 answer (cut (λ e. cc)) refl line
lexical_answers names texts (TooMany pos) answer cut line = fault_answers names texts (TooMany pos) pos L5 answer (cut (λ e. cc)) refl line
lexical_answers names texts Memory answer cut line = absurd line

pub texts_answer : (names texts : List (List ℕ)) (refusal : SourceRefusal) (answer : Finding) → RefusesTexts texts refusal
    → IsRefused names (source_code refusal) answer → Checks names (Texts texts) answer
texts_answer names texts (source.Lexical fault) answer cut line = lexical_answers names texts fault answer cut line
texts_answer names texts (source.Syntactic refusal) answer first line = refusal_answers names texts first.0 refusal answer first.1.0 first.1.1 line
