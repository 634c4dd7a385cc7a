-- A point that is lowered from neither a call nor its end is neither.
use Rattle.std.proofs.Common.{◌≡◌, subst, ℕ, zero, true, false, Option, Some, None, pos, if◌then◌else◌}
use Rattle.std.specs.Prelude.{option_and_then}
use Rattle.machine.specs.spark_base.declared.position.Pos.{Pos}
use Rattle.machine.specs.typed_tree.Trees.{TypedTree}
use Rattle.machine.specs.flow_paths.Instructions.{Instruction, Skip, Declare, LeaveLoop}
use Rattle.machine.specs.flow_paths.Instructions as instruction
use Rattle.machine.specs.flow_paths.Points.{FlowPoint}
use Rattle.machine.specs.type_definitions.declared.table.Shape.{Shape}
use Rattle.machine.specs.type_definitions.declared.table.Shape.TheVariants as shape
use Rattle.machine.specs.type_definitions.Types.{shape_of, is_owning}
use Rattle.machine.specs.flow_paths.Names.{waiting}
use Rattle.run_codes.specs.Codes.{Number, Place, InFrame, InPackages, Behind, Fill, Checked, Pointer as LookedAt, Does, Go, Put, Store, Assign, Call, Output, Input, Release, Test, Choose, Start, Next, EvaluateLeft, EvaluateRight, Hold, EndPointer, EndScope, Finish, Fall}
use Rattle.run_codes.specs.Lowered.{Placed, place, value}
use Rattle.recycled_runs.proofs.Quiet.{IsQuiet, quiet}
use Rattle.run_codes.specs.Programs.{Around, typing, type_of, name_pos, own_offset, going, on_going, put_at, stored_at, use_for, assigned, release_at, does}

abbrev pub IsPlain : Does → Type 0
IsPlain (Call sub actuals n) = ⊥
IsPlain Finish = ⊥
IsPlain _ = Unit {0}

abbrev pub IsAlone : Instruction → Type 0
IsAlone (instruction.Call sub actuals result) = ⊥
IsAlone instruction.Finish = ⊥
IsAlone _ = Unit {0}

abbrev AllPlain : Option Does → Type 0
AllPlain None = Unit {0}
AllPlain (Some d) = IsPlain d

then_plain : {A : Type 0} (x : Option A) (f : A → Option Does) → ((a : A) → AllPlain (f a)) → AllPlain (option_and_then f x)
then_plain None f on = tt
then_plain (Some a) f on = on a

put_plain : (s : Shape) (q : Placed) (v : Fill) (checks : Option Pos) (n : Option ℕ) → IsPlain (put_at s q v checks n)
put_plain s q (Checked e low high) checks n = by q.place
  where
    by : (place : Place) → IsPlain (put_at s (record { place = place; of = q.of }) (Checked e low high) checks n)
    by (InFrame at (Number (pos zero))) = tt
    by (InFrame at i) = tt
    by (InPackages at i) = tt
    by (Behind p at i) = tt
put_plain s q (LookedAt e) None n = by q.place
  where
    by : (place : Place) → IsPlain (put_at s (record { place = place; of = q.of }) (LookedAt e) None n)
    by (InFrame at (Number (pos zero))) = tt
    by (InFrame at i) = tt
    by (InPackages at i) = tt
    by (Behind p at i) = tt
put_plain s q v checks n = tt

-- What makes no leak check is plain.
quiet_plain : (d : Does) → IsQuiet d → IsPlain d
quiet_plain (Go n) is = tt
quiet_plain (Put at v n) is = tt
quiet_plain (Store p v k n) is = tt
quiet_plain (Assign p v of checks n) is = tt
quiet_plain (Call sub actuals n) is = absurd is
quiet_plain (Output pieces line n) is = tt
quiet_plain (Input p low high n) is = tt
quiet_plain (Release p of at n) is = tt
quiet_plain (Test c holds fails) is = tt
quiet_plain (Choose c choices) is = tt
quiet_plain (Start at counter low high first last n) is = tt
quiet_plain (Next at counter reversed default turn leave) is = tt
quiet_plain (EvaluateLeft c or_else n decided) is = tt
quiet_plain (EvaluateRight c n) is = tt
quiet_plain (Hold v of n) is = tt
quiet_plain (EndPointer at n) is = tt
quiet_plain (EndScope at of n) is = tt
quiet_plain Finish is = absurd is
quiet_plain Fall is = tt

module _ (a : Around) (q : FlowPoint) where
  going_plain : (g : Option ℕ → Option Does) → ((n : Option ℕ) → AllPlain (g n)) → AllPlain (on_going a q g)
  going_plain g on = then_plain (going a q 0) g on

  abbrev freed_by : TypedTree → Placed → Shape → Option Does
  freed_by e r (shape.Access designated constant named) = on_going a q (λ n. Some (Release r.place designated (name_pos q.pos e) n))
  freed_by e r _ = None

  freed_plain : (e : TypedTree) (r : Placed) (s : Shape) → AllPlain (freed_by e r s)
  freed_plain e r (shape.Access d constant named) = going_plain (λ n. Some (Release r.place d (name_pos q.pos e) n)) (λ n. tt)
  freed_plain e r (shape.Whole low high) = tt
  freed_plain e r (shape.Listed literals low high) = tt
  freed_plain e r (shape.Fields cs) = tt
  freed_plain e r (shape.Elements low high element) = tt
  freed_plain e r (shape.Same of) = tt

  abbrev scope_by : ℕ → Shape → ℕ → Option ℕ → Does
  scope_by of (shape.Access designated constant true) at n = EndPointer at n
  scope_by of _ at n = EndScope at of n

  scope_plain : (at : ℕ) (n : Option ℕ) (of : ℕ) (s : Shape) → IsPlain (scope_by of s at n)
  scope_plain at n of (shape.Access d constant true) = tt
  scope_plain at n of (shape.Access d constant false) = tt
  scope_plain at n of (shape.Whole low high) = tt
  scope_plain at n of (shape.Listed literals low high) = tt
  scope_plain at n of (shape.Fields cs) = tt
  scope_plain at n of (shape.Elements low high element) = tt
  scope_plain at n of (shape.Same u) = tt

  stored_plain : (r : Placed) (v : Fill) (checks : Option Pos) → AllPlain (on_going a q (λ n. Some (stored_at (typing a).table r v checks n)))
  stored_plain r v checks = going_plain (λ n. Some (stored_at (typing a).table r v checks n)) (λ n. put_plain (shape_of (typing a).table r.of) r v checks n)

  assigned_plain : (target e : TypedTree) → AllPlain (assigned a q target e)
  assigned_plain target e =
      let checks : Placed → Option Pos = λ r. if is_owning (typing a).table r.of then Some (name_pos q.pos target) else None in
      let stored : Placed → Fill → Option Does = λ r v. on_going a q (λ n. Some (stored_at (typing a).table r v (checks r) n)) in
      then_plain (place a.site (waiting e) target) (λ r. option_and_then (stored r) (value a.site 0 (use_for (typing a).table r.of) r.of e))
      (λ r. then_plain (value a.site 0 (use_for (typing a).table r.of) r.of e) (stored r) (λ v. stored_plain r v (checks r)))

  released_plain : (e : TypedTree) → AllPlain (does a q (instruction.Release e))
  released_plain e = then_plain (place a.site 0 e) (release_at a q e) (λ r. freed_plain e r (shape_of (typing a).table r.of))

  ended_plain : (x : ℕ) → AllPlain (does a q (instruction.EndScope x))
  ended_plain x =
      let of : ℕ = type_of a x in
      let ended : ℕ → Option ℕ → Option Does = λ at n. Some (scope_by of (shape_of (typing a).table of) at n) in
      then_plain (own_offset a x) (λ at. on_going a q (ended at)) (λ at. going_plain (ended at) (λ n. scope_plain at n of (shape_of (typing a).table of)))

  pub plain : (i : Instruction) (d : Does) → IsAlone i → does a q i ≡ Some d → IsPlain d
  plain Skip d alone is = quiet_plain d (quiet a q Skip d tt is)
  plain (Declare x v) d alone is = quiet_plain d (quiet a q (Declare x v) d tt is)
  plain (instruction.Assign target e) d alone is = subst AllPlain is (assigned_plain target e)
  plain (instruction.Call sub e result) d alone is = absurd alone
  plain (instruction.Output text line) d alone is = quiet_plain d (quiet a q (instruction.Output text line) d tt is)
  plain (instruction.Input target) d alone is = quiet_plain d (quiet a q (instruction.Input target) d tt is)
  plain (instruction.Release e) d alone is = subst AllPlain is (released_plain e)
  plain (instruction.Test e) d alone is = quiet_plain d (quiet a q (instruction.Test e) d tt is)
  plain (instruction.Choose e choices) d alone is = quiet_plain d (quiet a q (instruction.Choose e choices) d tt is)
  plain (instruction.Start x reversed low high) d alone is = quiet_plain d (quiet a q (instruction.Start x reversed low high) d tt is)
  plain (instruction.Next x reversed low high) d alone is = quiet_plain d (quiet a q (instruction.Next x reversed low high) d tt is)
  plain (instruction.Evaluate t e left) d alone is = quiet_plain d (quiet a q (instruction.Evaluate t e left) d tt is)
  plain (LeaveLoop e) d alone is = quiet_plain d (quiet a q (LeaveLoop e) d tt is)
  plain (instruction.Hold v) d alone is = quiet_plain d (quiet a q (instruction.Hold v) d tt is)
  plain (instruction.EndScope x) d alone is = subst AllPlain is (ended_plain x)
  plain instruction.Finish d alone is = absurd alone
  plain instruction.Fall d alone is = quiet_plain d (quiet a q instruction.Fall d tt is)
