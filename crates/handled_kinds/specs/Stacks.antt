-- The kinds of the words of all frames, by the subprograms that run.
use Rattle.std.specs.Prelude.{◌≡◌, ◌<◌, ℕ, ◌+◌, false, List, [], ◌∷◌, ◌++◌, map, drop, length, nat_lt, Option, Some, None}
use Rattle.type_definitions.specs.Types.{Table}
use Rattle.run_values.specs.declared.value.Kind.{Kind}
use Rattle.flow_paths.specs.Laid.{FlowProgram, flow_typing}
use Rattle.machine.specs.States.{stack_words, sub_of}
use Rattle.machine.specs.States as machine
use Rattle.run_codes.specs.Programs.{Program, sub_rows}
use Rattle.run_codes.specs.Codes.{Does, Go, Put, Store, Assign, Call, Output, Input, Release, Test, Choose, Start, Next, EvaluateLeft, EvaluateRight, Hold, EndPointer, EndScope, Finish, Fall}
use Rattle.run_codes.specs.Flat.{Got, Given, Stops, Broken, and_then, word}
use Rattle.run_codes.specs.Points.{Frame, sub_at, next_value}
use Rattle.run_codes.specs.Points as points
use Rattle.run_points.specs.States.{first_point}
use Rattle.handled_steps.specs.Alike.{frame_kinds, stack_word, turn_next, tested, decided_by}

-- By the numbers of the subprograms, the one that runs first.
abbrev pub stack_kinds : Table → Program → List ℕ → List Kind
stack_kinds table p [] = []
stack_kinds table p (n ∷ rest) = stack_kinds table p rest ++ frame_kinds table (sub_at p n)

-- The package objects have the last frame, where there is one.
abbrev pub EndsWithPackages : List ℕ → Type 0
EndsWithPackages [] = Unit {0}
EndsWithPackages (n ∷ []) = n ≡ 0
EndsWithPackages (n ∷ k ∷ rest) = EndsWithPackages (k ∷ rest)

abbrev pub HasRows : FlowProgram → Program → Type 0
HasRows program p = p.subs ≡ sub_rows (flow_typing program) 0 program.subs

-- The frame that runs: the subprograms of it and of those below it, and its next point.
pub record StandsOn (program : FlowProgram) (p : Program) (f : Frame) (here : List Kind) : Type 0 where
  pub sub : ℕ
  pub rest : List ℕ
  pub at : ℕ
  pub ends : EndsWithPackages (sub ∷ rest)
  pub kinds : here ≡ stack_kinds (flow_typing program).table p (sub ∷ rest)
  pub base : f.base ≡ length (stack_kinds (flow_typing program).table p rest)
  pub next : f.next ≡ first_point program.subs sub + at
  pub within : at < length (sub_of program sub).points
  pub few : nat_lt stack_words (sub_of program sub).words ≡ false

-- ---- all frames of a state

-- The subprograms of the machine's frames.
abbrev pub subs_of : machine.State → List ℕ
subs_of s = map (λ (f : machine.Frame). f.sub) s.frames

-- Each frame begins after those below it.
abbrev pub AreBased : Table → Program → List ℕ → List Frame → Type 0
AreBased table p [] [] = Unit {0}
AreBased table p (n ∷ ns) (g ∷ gs) = (g.base ≡ length (stack_kinds table p ns)) × AreBased table p ns gs
AreBased table p _ _ = ⊥

-- The stack has the words of the frames of these subprograms.
pub record IsStacked (table : Table) (p : Program) (ns : List ℕ) (gs : List Frame) (here : List Kind) : Type 0 where
  pub ends : EndsWithPackages ns
  pub kinds : here ≡ stack_kinds table p ns
  pub based : AreBased table p ns gs

-- ---- after a point

abbrev pub begun_subs : List ℕ → Option ℕ → List ℕ
begun_subs ns None = ns
begun_subs ns (Some main) = main ∷ ns

abbrev pub left_subs : points.Turn → List ℕ → List Frame → List ℕ
left_subs t ns [] = begun_subs ns t.program.main
left_subs t ns (g ∷ outer) = ns

abbrev pub led_subs : points.Turn → List ℕ → Option ℕ → List ℕ
led_subs t ns (Some n) = ns
led_subs t ns None = left_subs t ns t.outer

abbrev pub got_subs : points.Turn → List ℕ → Got (Option ℕ) → List ℕ
got_subs t ns (Given n) = led_subs t ns n
got_subs t ns (Stops x) = ns
got_subs t ns Broken = ns

-- The subprograms whose frames there are, as `kinds_after` has it.
abbrev pub subs_after : points.Turn → List ℕ → Does → List ℕ
subs_after t ns (Go n) = led_subs t ns n
subs_after t ns (Put at v n) = led_subs t ns n
subs_after t ns (Store p v k n) = led_subs t ns n
subs_after t ns (Assign p v of checks n) = led_subs t ns n
subs_after t ns (Call sub actuals n) = led_subs t (sub ∷ ns) n
subs_after t ns (Output pieces line n) = led_subs t ns n
subs_after t ns (Input p low high n) = led_subs t ns n
subs_after t ns (Release p of at n) = led_subs t ns n
subs_after t ns (Test c holds fails) = got_subs t ns (and_then (word (points.start t) c) (λ w. Given (tested holds fails w)))
subs_after t ns (Choose c choices) = ns
subs_after t ns (Start at counter low high first last n) = led_subs t ns n
subs_after t ns (Next at counter reversed default turn leave) =
    got_subs t ns (and_then (stack_word t at) (λ v. and_then (stack_word t counter) (λ low. and_then (stack_word t (counter + 1))
    (λ high. and_then (stack_word t (counter + 2)) (λ first. Given (turn_next turn leave (next_value reversed low high first v)))))))
subs_after t ns (EvaluateLeft c or_else n decided) = got_subs t ns (and_then (word (points.start t) c) (λ w. Given (decided_by or_else n decided w)))
subs_after t ns (EvaluateRight c n) = led_subs t ns n
subs_after t ns (Hold v of n) = ns
subs_after t ns (EndPointer at n) = led_subs t ns n
subs_after t ns (EndScope at of n) = led_subs t ns n
subs_after t ns Finish = drop 1 ns
subs_after t ns Fall = ns
