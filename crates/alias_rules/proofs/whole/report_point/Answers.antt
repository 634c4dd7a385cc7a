use Rattle.std.proofs.Common.{◌∙◌, ap, sym}
use Rattle.typed_tree.specs.Nodes.{typed_at, typed_code_at}
use Rattle.flow_paths.specs.Instructions.{instruction_of}
use Rattle.flow_paths.specs.Stands.{flow_point_of, flow_sub_of}
use Rattle.laid_program.specs.Programs.{program_of}
use Rattle.alias_rules.proofs.Shallow.{shallow_call, procedures_lead_nowhere}
use Rattle.alias_rules.proofs.Subs.{sub_there, point_there}
use Rattle.alias_rules.proofs.whole.report_point.Goals as goal

pub report_call-requires-clause-shallow : goal.report_call-requires-clause-shallow
report_call-requires-clause-shallow c =
    let laid = c.args.laid.now in
    let w = c.in-Call-default-default-None in
    let at = c.requires.point in
    shallow_call (program_of laid) (flow_sub_of laid.rows at.sub) (flow_point_of laid.rows c.args.point.now) w.sub (typed_at laid.rows w.actuals) _ laid.right
    (sub_there laid at.sub at.there) (point_there laid at.sub c.args.point.now at.point)
    (ap (instruction_of (typed_at laid.rows) (typed_code_at laid.rows)) w.is)
    (procedures_lead_nowhere laid.table _ (sym c.is_function.ensures ∙ c.if-is_function.false))
