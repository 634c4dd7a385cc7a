use Rattle.std.proofs.Common.{◌+◌, ◌-◌, vec_len}
use Rattle.expression_lowering.proofs.line_starts.LineStarts.new.Given as goal

abbrev pub decreases-files : goal.decreases-files
decreases-files l = l.file + 1 - vec_len l.files

abbrev pub decreases-lines : goal.decreases-lines
decreases-lines l = l.line + 1 - vec_len l.starts
