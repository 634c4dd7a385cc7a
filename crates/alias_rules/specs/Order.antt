-- What subprograms read and write, in ascending order.
use Rattle.std.specs.Prelude.{ℕ, Bool, IsTrue}
use Rattle.flow_paths.specs.declared.report.Effects.{Effects}
use Rattle.flow_paths.specs.Effects.{Ascends, read_by, written_by}

-- What each subprogram reads and writes is in ascending order.
pub record AreAscending (effects : Effects) : Type 0 where
  pub read : (p : ℕ) → Ascends (read_by effects p)
  pub written : (p : ℕ) → Ascends (written_by effects p)

-- It is known to be. Where it isn't, it may be in any order.
abbrev pub AreOrdered : Bool → Effects → Type 0
AreOrdered ordered effects = IsTrue ordered → AreAscending effects
