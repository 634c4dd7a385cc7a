use Rattle.std.proofs.Common.{rules, arith, sym, ◌∙◌}
use Rattle.std.proofs.lemmas.Grind.{common_steps}
use Rattle.spark_tool.proofs.AllTokens.{in_first, in_files}
use Rattle.spark_tool.proofs.lexing.lex_all.Goals as goal

pub files-preserved : goal.files-preserved
files-preserved c = record {
  found = grind (arith, common_steps);
  count = search rules;
  first = in_first c.files.found.items c.in_ok-tokens.tokens c.push.new.self.items c.files.file (c.in_ok-push.ensures.items) c.files.invariant.first (c.in_ok-tokens.ensures.in_file)
      (λ none. c.files.invariant.file ∙ sym c.files.invariant.count ∙ none);
  within = in_files c.files.found.items c.in_ok-tokens.tokens c.push.new.self.items c.files.file _ c.in_ok-push.ensures.items c.files.invariant.within
      c.in_ok-tokens.ensures.in_file (search rules);
  ends = grind (arith, common_steps);
  room = search rules;
  file = search rules;
}
