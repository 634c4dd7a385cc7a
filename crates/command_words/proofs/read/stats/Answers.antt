use Rattle.std.proofs.Common.{sym, ◌∙◌}
use Rattle.command_words.proofs.Texts.{is_stats-map}
use Rattle.command_words.proofs.read.stats.Goals as goal

pub returns : goal.returns
returns c = c.ask_for_counts.ensures ∙ sym (is_stats-map c.args.options.now)
