-- What is asked of the resolved code of an accepted program so that it is ready: beside what typing and the
-- reports say.
use Rattle.std.specs.Prelude.{◌≡◌, ℕ, true, false, List, map, Some}
use Rattle.machine.specs.spark_base.Lists.{Has}
use Rattle.machine.specs.resolved_tree.Trees.{Code, Program}
use Rattle.machine.specs.type_definitions.Types.{is_owning}
use Rattle.machine.specs.type_definitions.Entries.{integer}
use Rattle.machine.specs.type_definitions.Whole.{known_of}
use Rattle.machine.specs.typed_tree.Programs.{TypedSub, TypedProgram, DeclaredObject, program_objects, site_of, subs_in, over_units, typed_program}
use Rattle.machine.specs.flow_paths.Objects.{Typing, is_formal, is_package_object}
use Rattle.machine.specs.flow_paths.Laid.{typing_of}
use Rattle.settled_types.specs.OrderLaws.ScopeLaws.Code.{Once, body_seen}
use Rattle.settled_types.specs.OrderLaws.Written.{is_unit}

-- The typed program, its typing, and its subprograms with a body in the text.
abbrev pub typed_of : Program → TypedProgram
typed_of p = typed_program (known_of p) p.units

abbrev pub typing_in : Program → Typing
typing_in p = typing_of (known_of p).table (typed_of p)

abbrev pub bodies_of : Program → List TypedSub
bodies_of p = over_units (subs_in (site_of (known_of p) p.units)) 1 p.units

pub record IsOrderly (p : Program) : Type 0 where
  -- units are as the grammar has them
  pub written : (u : Code) → Has p.units u → is_unit u ≡ true
  -- each declaration of an object has a number of its own
  pub once : Once (map (λ (o : DeclaredObject). o.number) (program_objects (known_of p) p.units))
  -- formals are known as such
  pub formals : (sub : TypedSub) → Has (bodies_of p) sub → (x : ℕ) → Has sub.formals x → is_formal (typing_in p) x ≡ true
  -- what names denote is in scope where they stand, or an object of a package
  pub seen : (sub : TypedSub) → Has (bodies_of p) sub → body_seen (is_package_object (typing_in p)) sub ≡ true
  -- Integer owns nothing
  pub whole : is_owning (known_of p).table integer ≡ false
  -- there is a main procedure
  pub main : ℕ
  pub is_main : (typed_of p).main ≡ Some main
