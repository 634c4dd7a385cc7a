-- What is kept where a run goes on after a point.
use Rattle.std.proofs.Common.{◌≡◌, ℕ, List, [], ◌++◌, length, take, refl, sym, ◌∙◌, ap, subst, Option, Some, None, append-nil}
use Rattle.type_definitions.specs.Types.{Table}
use Rattle.machine.specs.States.{Leak}
use Rattle.run_codes.specs.Codes.{Point, Sub}
use Rattle.run_codes.specs.Programs.{Program}
use Rattle.run_codes.specs.Points.{sub_at, template}
use Rattle.handled_steps.specs.States.{State, after, waiting, leaking}
use Rattle.slot_memory.specs.Memory.{Kept, Ghosts, slots}
use Rattle.slot_frames.specs.declared.rows.Return.{Return}
use Rattle.slot_frames.specs.Stacks.{Stacked}
use Rattle.slot_frames.specs.Frames.{AreLatest}
use Rattle.slot_runs.specs.Turns.{bare}
use Rattle.slot_stages.specs.Stages.{Stage, state_of, IsStage, turn_of, without}
use Rattle.slot_stages.specs.Leads.{without_taken, at_next, with_template, with_main, LeadsTo}
use Rattle.slot_stages.proofs.Goes.{goes_on, cut_is, at_is}
use Rattle.slot_stages.proofs.Frames.{enters}
use Rattle.slot_stages.proofs.Mains.{main_on, main_frame, main_stage}

-- The stage with another memory and other frames.
abbrev pub led_stage : {R : Type 0} → Stage R → Kept R → Ghosts → Stacked → Stage R
led_stage r q g t = record r { kept = q; ghosts = g; stacked = t }

-- What the step goes on with is this stage, and the frame that runs is that of the memory.
abbrev pub IsLed : {R : Type 0} → Table → Program → Point → Stage R → Option ℕ → Kept R → Ghosts → Kept R → Stacked → Type 0
IsLed table program p r next m g q t =
    (bare (after (turn_of table program p r) (waiting (turn_of table program p r)) (slots m g) next) ≡ state_of (led_stage r q g t)) × IsStage (led_stage r q g t)

-- The memory that has the frame of the main procedure, before it runs.
abbrev grown : {R : Type 0} → Table → Sub → Kept R → Kept R
grown table sub m = record m { stack = m.stack ++ template table sub }

no_returns : {R : Type 0} (r : Stage R) (k : ℕ) (m q : Kept R) (g : Ghosts) (sub : Sub)
    → main_stage r k m q g sub
    ≡ led_stage r (record q { base = length m.stack; waits = (without r k q g).kept.waits; taken = (without r k q g).kept.taken }) g (with_main sub (record r.stacked { waits = take k r.stacked.waits }) (length m.stack))
no_returns r k m q g sub =
    let s = main_stage r k m q g sub in
    ap (λ (rs : List Return). record s { stacked = record s.stacked { returns = rs } }) (append-nil r.stacked.returns)

module _ {R : Type 0} (table : Table) (program : Program) (p : Point) (r : Stage R) (k : ℕ) (m : Kept R) (g : Ghosts)
    (is : IsStage r) (latest : AreLatest r.stacked p.takes k) (waits : m.waits ≡ r.kept.waits) (read : m.read ≡ r.kept.read) (base : m.base ≡ r.kept.base)
    (settled : g.moves ≡ []) where
  on_next : (n : ℕ) → IsLed table program p r (Some n) m g (without_taken r.stacked k m) (at_next r.stacked k n)
  on_next n = (
    goes_on table program p r k n m g is latest waits read,
    at_is (without r k m g) n (cut_is r p.takes k m g is latest waits base settled),
  )

  on_main : (main : ℕ) → program.main ≡ Some main → r.stacked.outer ≡ []
      → IsLed table program p r None m g (with_template table (sub_at program main) (without_taken r.stacked k m))
      (with_main (sub_at program main) (record r.stacked { waits = take k r.stacked.waits }) (length m.stack))
  on_main main has alone =
      let sub = sub_at program main in
      let q = grown table sub m in
      let same = no_returns r k m q g sub in
      let entered = enters (without r k q g) (main_frame r k m sub) [] (cut_is r p.takes k q g is latest waits base settled) refl refl in (
        main_on table program p r k main m q g g is latest alone has waits read base settled refl ∙ ap state_of same,
        subst IsStage same entered.1,
      )

  -- Wherever it goes on.
  pub led_on : (next : Option ℕ) (q : Kept R) (t : Stacked) → LeadsTo table program k next m r.stacked q t → IsLed table program p r next m g q t
  led_on (Some n) q t to =
      let P : Kept R → Type 0 = λ x. IsLed table program p r (Some n) m g x t in
      let Q : Stacked → Type 0 = λ x. IsLed table program p r (Some n) m g (without_taken r.stacked k m) x in
      subst P (sym to.0) (subst Q (sym to.1) (on_next n))
  led_on None q t to =
      let P : Kept R → Type 0 = λ x. IsLed table program p r None m g x t in
      let Q : Stacked → Type 0 = λ x. IsLed table program p r None m g (with_template table (sub_at program to.main) (without_taken r.stacked k m)) x in
      subst P (sym to.memory) (subst Q (sym to.frames) (on_main to.main to.has to.alone))

-- With leaks that it tells.
pub leaking_on : {R : Type 0} (r : Stage R) (t : State) (leaks : List Leak) → bare t ≡ state_of r → bare (leaking leaks t) ≡ state_of (record r { leaks = r.leaks ++ leaks })
leaking_on r t leaks same = ap (leaking leaks) same

-- With output.
pub writing_on : {R : Type 0} (r : Stage R) (t : State) (bytes : List ℕ) → bare t ≡ state_of r
    → bare (record t { output = t.output ++ bytes }) ≡ state_of (record r { output = r.output ++ bytes })
writing_on r t bytes same = ap (λ (s : State). record s { output = s.output ++ bytes }) same
