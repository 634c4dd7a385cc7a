-- Most instructions are lowered to points without leak checks, which are neither calls nor their ends.
use Rattle.std.proofs.Common.{◌≡◌, subst, ℕ, zero, ◌+◌, Bool, List, [], ◌∷◌, Option, Some, None, ℤ, pos}
use Rattle.std.specs.Prelude.{option_and_then}
use Rattle.machine.specs.typed_tree.Trees.{TypedTree, NoMore, More}
use Rattle.machine.specs.flow_paths.Instructions.{Instruction, Skip, Declare, LeaveLoop}
use Rattle.machine.specs.flow_paths.Instructions as instruction
use Rattle.machine.specs.flow_paths.Points.{FlowPoint}
use Rattle.machine.specs.type_definitions.declared.table.Shape.{Shape}
use Rattle.machine.specs.type_definitions.declared.table.Shape.TheVariants as shape
use Rattle.machine.specs.type_definitions.Types.{shape_of}
use Rattle.machine.specs.Evaluate.{AsValue}
use Rattle.machine.specs.flow_paths.Names.{waiting}
use Rattle.machine.specs.typed_tree.declared.node.ShortCircuit.{ShortCircuit}
use Rattle.run_codes.specs.Codes.{Code, Number, Place, InFrame, InPackages, Behind, Fill, Checked, Pointer as LookedAt, Default, Does, Go, Assign, Call, Output, Input, Release, Test, Choose, Start, Next, EvaluateLeft, EvaluateRight, Hold, EndPointer, EndScope, Finish}
use Rattle.run_codes.specs.Lowered.{Placed, Scalar, scalar_of, option_map, no_index, lowered, place, value}
use Rattle.run_codes.specs.Flat.{default_words}
use Rattle.run_codes.specs.Programs.{Around, typing, type_of, own_offset, own_loop, going, on_going, on_next, put_at, stored_at, use_for, scalar_code, condition, chosen_code, alternatives, text_pieces, is_or_else, tested, declared, input_to, started, next_turn, operand, gone_on, held_result, does}

-- What makes no leak check, and is no call nor its end.
abbrev pub IsQuiet : Does → Type 0
IsQuiet (Assign p v of (Some at) n) = ⊥
IsQuiet (Call sub actuals n) = ⊥
IsQuiet (Release p of at n) = ⊥
IsQuiet (EndPointer at n) = ⊥
IsQuiet (EndScope at of n) = ⊥
IsQuiet Finish = ⊥
IsQuiet _ = Unit {0}

abbrev pub ChecksNone : Instruction → Type 0
ChecksNone (instruction.Assign target e) = ⊥
ChecksNone (instruction.Call sub actuals result) = ⊥
ChecksNone (instruction.Release e) = ⊥
ChecksNone (instruction.EndScope x) = ⊥
ChecksNone instruction.Finish = ⊥
ChecksNone _ = Unit {0}

abbrev AllQuiet : Option Does → Type 0
AllQuiet None = Unit {0}
AllQuiet (Some d) = IsQuiet d

then_quiet : {A : Type 0} (x : Option A) (f : A → Option Does) → ((a : A) → AllQuiet (f a)) → AllQuiet (option_and_then f x)
then_quiet None f on = tt
then_quiet (Some a) f on = on a

map_quiet : {A : Type 0} (x : Option A) (f : A → Does) → ((a : A) → IsQuiet (f a)) → AllQuiet (option_map f x)
map_quiet None f on = tt
map_quiet (Some a) f on = on a

put_quiet : (s : Shape) (q : Placed) (v : Fill) (n : Option ℕ) → IsQuiet (put_at s q v None n)
put_quiet s q (Checked e low high) n = by q.place
  where
    by : (place : Place) → IsQuiet (put_at s (record { place = place; of = q.of }) (Checked e low high) None n)
    by (InFrame at (Number (pos zero))) = tt
    by (InFrame at i) = tt
    by (InPackages at i) = tt
    by (Behind p at i) = tt
put_quiet s q (LookedAt e) n = by q.place
  where
    by : (place : Place) → IsQuiet (put_at s (record { place = place; of = q.of }) (LookedAt e) None n)
    by (InFrame at (Number (pos zero))) = tt
    by (InFrame at i) = tt
    by (InPackages at i) = tt
    by (Behind p at i) = tt
put_quiet s q v n = tt

module _ (a : Around) (q : FlowPoint) where
  next_quiet : (g : Option ℕ → Option Does) → ((n : Option ℕ) → AllQuiet (g n)) → AllQuiet (on_next a q g)
  next_quiet g on = by (going a q 0)
    where
      to : Option ℕ → Option Does
      to None = None
      to (Some n) = g (Some n)

      by : (x : Option (Option ℕ)) → AllQuiet (option_and_then to x)
      by None = tt
      by (Some None) = tt
      by (Some (Some n)) = on (Some n)

  abbrev read_by : Placed → Shape → Option Does
  read_by r (shape.Whole low high) = on_going a q (λ n. Some (Input r.place low high n))
  read_by r _ = None

  going_quiet : (g : Option ℕ → Option Does) → ((n : Option ℕ) → AllQuiet (g n)) → AllQuiet (on_going a q g)
  going_quiet g on = then_quiet (going a q 0) g on

  read_quiet : (r : Placed) (s : Shape) → AllQuiet (read_by r s)
  read_quiet r (shape.Whole low high) = going_quiet (λ n. Some (Input r.place low high n)) (λ n. tt)
  read_quiet r (shape.Listed literals low high) = tt
  read_quiet r (shape.Access d constant named) = tt
  read_quiet r (shape.Fields cs) = tt
  read_quiet r (shape.Elements low high element) = tt
  read_quiet r (shape.Same of) = tt

  -- two points that may follow
  both_quiet : (f : Option ℕ → Option ℕ → Does) → ((n k : Option ℕ) → IsQuiet (f n k)) → AllQuiet (option_and_then (λ n. option_map (f n) (going a q 1)) (going a q 0))
  both_quiet f on = then_quiet (going a q 0) (λ n. option_map (f n) (going a q 1)) (λ n. map_quiet (going a q 1) (f n) (on n))

  tested_quiet : (e : TypedTree) → AllQuiet (tested a q e)
  tested_quiet e = then_quiet (condition a e) (λ c. option_and_then (λ n. option_map (Test c n) (going a q 1)) (going a q 0)) (λ c. both_quiet (Test c) (λ n k. tt))

  gone_quiet : AllQuiet (gone_on a q)
  gone_quiet = going_quiet (λ n. Some (Go n)) (λ n. tt)

  abbrev held_by : ℕ → Fill → Option ℕ → Option Does
  held_by of v None = None
  held_by of v (Some n) = Some (Hold v of (Some n))

  held_quiet : (v : TypedTree) (r : Option ℕ) → AllQuiet (held_result a q v r)
  held_quiet (More e rest) (Some of) = then_quiet (value a.site 0 (use_for (typing a).table of) of e) (λ v. on_going a q (held_by of v)) (λ v. going_quiet (held_by of v) (by v))
    where
      by : (v : Fill) (n : Option ℕ) → AllQuiet (held_by of v n)
      by v None = tt
      by v (Some n) = tt
  held_quiet (More e rest) None = gone_quiet
  held_quiet _ r = gone_quiet

  stored_quiet : (r : Placed) (v : Fill) → AllQuiet (on_going a q (λ n. Some (stored_at (typing a).table r v None n)))
  stored_quiet r v = going_quiet (λ n. Some (stored_at (typing a).table r v None n)) (λ n. put_quiet (shape_of (typing a).table r.of) r v n)

  declared_from : (x : ℕ) (w : Option Fill)
      → AllQuiet (option_and_then (λ at. option_and_then (λ w. on_going a q (λ n. Some (stored_at (typing a).table (record { place = InFrame at no_index; of = type_of a x }) w None n))) w) (own_offset a x))
  declared_from x w =
      then_quiet (own_offset a x) (λ at. option_and_then (λ w. on_going a q (λ n. Some (stored_at (typing a).table (record { place = InFrame at no_index; of = type_of a x }) w None n))) w)
      (λ at. then_quiet w (λ w. on_going a q (λ n. Some (stored_at (typing a).table (record { place = InFrame at no_index; of = type_of a x }) w None n)))
      (λ v. stored_quiet (record { place = InFrame at no_index; of = type_of a x }) v))

  declared_quiet : (x : ℕ) (v : TypedTree) → AllQuiet (declared a q x v)
  declared_quiet x (More e rest) = declared_from x (value a.site 0 (use_for (typing a).table (type_of a x)) (type_of a x) e)
  declared_quiet x NoMore = declared_from x (Some (Default (type_of a x)))
  declared_quiet x _ = declared_from x None

  started_quiet : (x : ℕ) (low high : TypedTree) → AllQuiet (started a q x low high)
  started_quiet x low high =
      let last : ℕ → Scalar → Code → Code → Option Does = λ at w l h. on_next a q (λ n. Some (Start at (at + 1) l h w.low w.high n)) in
      let second : ℕ → Scalar → Code → Option Does = λ at w l. option_and_then (last at w l) (option_and_then (scalar_code w.sort) (lowered a.site (waiting low) AsValue high)) in
      let first : ℕ → Scalar → Option Does = λ at w. option_and_then (second at w) (option_and_then (scalar_code w.sort) (lowered a.site 0 AsValue low)) in
      then_quiet (own_loop a x) (λ at. option_and_then (first at) (scalar_of (shape_of (typing a).table (type_of a x))))
      (λ at. then_quiet (scalar_of (shape_of (typing a).table (type_of a x))) (first at)
      (λ w. then_quiet (option_and_then (scalar_code w.sort) (lowered a.site 0 AsValue low)) (second at w)
      (λ l. then_quiet (option_and_then (scalar_code w.sort) (lowered a.site (waiting low) AsValue high)) (last at w l)
      (λ h. next_quiet (λ n. Some (Start at (at + 1) l h w.low w.high n)) (λ n. tt)))))

  abbrev first_word : List ℤ → ℤ
  first_word [] = pos 0
  first_word (w ∷ ws) = w

  turn_quiet : (x : ℕ) (reversed : Bool) → AllQuiet (next_turn a q x reversed)
  turn_quiet x reversed =
      let default : ℤ = first_word (default_words (typing a).table (type_of a x)) in
      let turned : ℕ → Option ℕ → Option Does = λ at n. option_map (Next at (at + 1) reversed default n) (going a q 1) in
      let from : ℕ → Scalar → Option Does = λ at w. option_and_then (turned at) (going a q 0) in
      then_quiet (own_loop a x) (λ at. option_and_then (from at) (scalar_of (shape_of (typing a).table (type_of a x))))
      (λ at. then_quiet (scalar_of (shape_of (typing a).table (type_of a x))) (from at) (λ w. both_quiet (Next at (at + 1) reversed default) (λ n k. tt)))

  operand_quiet : (e : TypedTree) (left : Option ShortCircuit) → AllQuiet (operand a q e left)
  operand_quiet e (Some op) =
      then_quiet (condition a e) (λ c. option_and_then (λ n. option_map (EvaluateLeft c (is_or_else op) n) (going a q 1)) (going a q 0)) (λ c. both_quiet (EvaluateLeft c (is_or_else op)) (λ n k. tt))
  operand_quiet e None = then_quiet (condition a e) (λ c. on_going a q (λ n. Some (EvaluateRight c n))) (λ c. going_quiet (λ n. Some (EvaluateRight c n)) (λ n. tt))

  does_quiet : (i : Instruction) → ChecksNone i → AllQuiet (does a q i)
  does_quiet Skip alone = gone_quiet
  does_quiet (Declare x v) alone = declared_quiet x v
  does_quiet (instruction.Assign target e) alone = absurd alone
  does_quiet (instruction.Call sub e result) alone = absurd alone
  does_quiet (instruction.Output text line) alone =
      then_quiet (text_pieces a.site text) (λ t. on_going a q (λ n. Some (Output t line n))) (λ t. going_quiet (λ n. Some (Output t line n)) (λ n. tt))
  does_quiet (instruction.Input target) alone = then_quiet (place a.site 0 target) (input_to a q) (λ r. read_quiet r (shape_of (typing a).table r.of))
  does_quiet (instruction.Release e) alone = absurd alone
  does_quiet (instruction.Test e) alone = tested_quiet e
  does_quiet (instruction.Choose e choices) alone =
      then_quiet (option_and_then chosen_code (lowered a.site 0 AsValue e)) (λ c. option_map (Choose c) (alternatives a q 0 choices)) (λ c. map_quiet (alternatives a q 0 choices) (Choose c) (λ all. tt))
  does_quiet (instruction.Start x reversed low high) alone = started_quiet x low high
  does_quiet (instruction.Next x reversed low high) alone = turn_quiet x reversed
  does_quiet (instruction.Evaluate t e left) alone = operand_quiet e left
  does_quiet (LeaveLoop (More e rest)) alone = tested_quiet e
  does_quiet (LeaveLoop e) alone = gone_quiet
  does_quiet (instruction.Hold v) alone = held_quiet v a.result
  does_quiet (instruction.EndScope x) alone = absurd alone
  does_quiet instruction.Finish alone = absurd alone
  does_quiet instruction.Fall alone = tt

  pub quiet : (i : Instruction) (d : Does) → ChecksNone i → does a q i ≡ Some d → IsQuiet d
  quiet i d alone is = subst AllQuiet is (does_quiet i alone)
