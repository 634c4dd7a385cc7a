use Rattle.std.proofs.Common.{◌≡◌, false, map, take}
use Rattle.program_typing.specs.Typings.{typing}
use Rattle.run_codes.specs.Programs.{kept}
use Rattle.run_lowering.specs.Offsets.{kept_in}
use Rattle.run_lowering.specs.Frames.{IsFrame}
use Rattle.run_lowering.proofs.frames.Frame.add_formals.Given as goal

abbrev pub invariant-formals : goal.invariant-formals
invariant-formals l = record {
  frame : IsFrame (typing l.typing) l.self;
  kept : map kept_in l.self.kept.items ≡ map (λ x. kept x false) (take l.formal-index l.formals);
}
