use Rattle.std.proofs.Common.{◌≡◌, map, drop}
use Rattle.run_codes.specs.Programs.{is_loop}
use Rattle.run_lowering.specs.Offsets.{kept_in}
use Rattle.program_lowering.proofs.expressions.is_loop.Given as goal

abbrev pub invariant-kept : goal.invariant-kept
invariant-kept l = is_loop l.x (map kept_in l.kept) ≡ is_loop l.x (map kept_in (drop l.one-index l.kept))
