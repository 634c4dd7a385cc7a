use Rattle.std.proofs.Common.{◌≡◌, rules, [], Err, ap}
use Rattle.flow_paths.specs.declared.point.Point.{Point}
use Rattle.flow_paths.specs.Stands.{flow_point_of}
use Rattle.bare_points.specs.Bare.{bare_of, dress}
use Rattle.flow_acts.specs.declared.fault.ActFault.TheVariants as act_fault
use Rattle.sub_layout.specs.Dressed.{making}
use Rattle.sub_layout.proofs.DeepPoints.{leaks_deep, none_deep}
use Rattle.sub_layout.proofs.dressed.dressed.Goals as goal

pub returns-in_err-leaks-clause-deep : goal.returns-in_err-leaks-clause-deep
returns-in_err-leaks-clause-deep c is =
    let w = c.args.writer.now in
    let same : c.in_err-leaks.field-0.0 ≡ act_fault.TooDeep = search rules in
    leaks_deep (dress (making w c.args.given) (bare_of w.rows.now c.args.point))
    (c.in_err-leaks.ensures.deep c.args.given [] (ap Err same))

pub returns-clause-within : goal.returns-clause-within
returns-clause-within c =
    let made : Point = record {
      pos = c.args.point.pos;
      acts = c.in_ok-acts.acts;
      leaks = c.in_ok-leaks.leaks;
      instr = c.args.point.instr;
      next = c.args.point.next;
    } in
    none_deep (flow_point_of c.args.writer.now.rows.now made) c.in_ok-acts.ensures.within c.in_ok-leaks.ensures.within
