-- Calls whose formals are of scalar types: actuals are read, or are names of places that are copied
-- back to when the call ends. Neither changes an owner, and formals own nothing.
use Rattle.std.proofs.Common.{◌≡◌, refl, ap, ◌∙◌, subst, ◌⊎◌, inl, inr, ℕ, zero, suc, true, false, List, [], ◌∷◌, map, length, get_or, nat_le}
use Rattle.machine.specs.spark_base.Lists.{Has}
use Rattle.machine.specs.place_names.declared.act.Act.TheVariants as act
use Rattle.machine.specs.place_names.declared.act.Placed.{Placed}
use Rattle.machine.specs.place_names.declared.fact.Fact.{Fact}
use Rattle.machine.specs.place_names.Names.{Name as PlaceName}
use Rattle.machine.specs.place_names.Facts.{adds, effect}
use Rattle.machine.specs.type_definitions.Types.{shape_of, full, is_owning, is_scalar}
use Rattle.machine.specs.typed_tree.Trees.{TypedTree, More}
use Rattle.machine.specs.flow_paths.Objects.{Typing, Signature, sub_at}
use Rattle.machine.specs.flow_paths.Names.{waiting as waits_in}
use Rattle.machine.specs.flow_paths.Laid.{FlowSub, FlowProgram, flow_typing}
use Rattle.machine.specs.Words as machine
use Rattle.machine.specs.Memory.{Memory}
use Rattle.machine.specs.Evaluate.{StorageError}
use Rattle.machine.specs.Calls.{Passed, Value, From, To, passed, out_checks, with_formals, returns_of}
use Rattle.machine.specs.States.{State, Outcome, Goes, no_sub, sub_of, frame_words, stack_words, frame_at_start}
use Rattle.machine.specs.Step.{Turn, typing, waiting, behind, raised, leaking_goes}
use Rattle.soundness.specs.OwnedWays.Ways.{after}
use Rattle.soundness.specs.PartOffsets.Parts.{IsSettled}
use Rattle.soundness.specs.Typed.{OwnsByShape, IsFixed}
use Rattle.soundness.proofs.Scalars.{acts, read_effect, look_effect}
use Rattle.soundness.proofs.Taking.{Takes, takes_both}
use Rattle.soundness.proofs.Stays.{One, scalar_owns}

-- ---- acts that read

abbrev pub IsRead : Placed → Type 0
IsRead p = (m : PlaceName) × ((p.act ≡ act.Read m) ⊎ (p.act ≡ act.Look m))

abbrev pub AreReads : List Placed → Type 0
AreReads ps = (p : Placed) → Has ps p → IsRead p

read_keeps : (p : Placed) → IsRead p → (facts : List Fact) → effect p.act facts ≡ facts
read_keeps p (m, inl e) facts = ap (λ z. effect z facts) e ∙ read_effect m facts
read_keeps p (m, inr e) facts = ap (λ z. effect z facts) e ∙ look_effect m facts

-- they change no fact
pub reads_keep : (ps : List Placed) → AreReads ps → (facts : List Fact) → after (acts ps) facts ≡ facts
reads_keep [] reads facts = refl
reads_keep (p ∷ ps) reads facts =
    ap (after (acts ps)) (read_keeps p (reads p (inl refl)) facts) ∙ reads_keep ps (λ q has. reads q (inr has)) facts

pub read_adds_none : (p : Placed) → IsRead p → (f : Fact) → Has (adds p.act) f → ⊥
read_adds_none p (m, inl e) f has = subst (λ z. Has (adds z) f) e has
read_adds_none p (m, inr e) f has = subst (λ z. Has (adds z) f) e has

-- Acts that add no fact.
abbrev pub AddNone : List Placed → Type 0
AddNone ps = (p : Placed) → Has ps p → (f : Fact) → Has (adds p.act) f → ⊥

-- The acts of a scalar expression read, or look.
module _ (s : Typing) (own_law : OwnsByShape s.table) where
  pub plain_type : (t : ℕ) → is_scalar (full s.table t) ≡ true → is_owning s.table t ≡ false
  plain_type t e = own_law t ∙ scalar_owns (shape_of s.table t) (is_owning s.table) e

-- ---- values of one word

abbrev pub IsValue : Passed → Type 0
IsValue (Value ws) = One ws
IsValue (From k) = ⊥
IsValue (To k) = ⊥

-- ---- what is passed

-- A value of one word, or a place in a variable.
abbrev pub IsLaid : Typing → Passed → Type 0
IsLaid s (Value ws) = One ws
IsLaid s (From k) = IsFixed s k
IsLaid s (To k) = IsFixed s k

-- ---- the actuals are evaluated

-- The actuals for which there are formals take these values, one after the other.
abbrev pub TakesAll : List ℕ → TypedTree → List (List machine.Word) → List (List machine.Word) → Type 0
TakesAll (x ∷ formals) (More e rest) before on = (mid : List (List machine.Word)) × Takes (waits_in e) before mid × TakesAll formals rest mid on
TakesAll formals actuals before on = before ≡ on

pub takes_each : (formals : List ℕ) (actuals : TypedTree) (before on : List (List machine.Word)) → Takes (waits_in actuals) before on
    → (end : List (List machine.Word)) × TakesAll formals actuals before end
unfolding waits_in
takes_each (x ∷ formals) (More e rest) before on takes =
    let two = takes_both (waits_in e) (waits_in rest) before on takes in
    let later = takes_each formals rest two.0 on two.2 in (later.0, (two.0, two.1, later.1))
takes_each [] actuals before on takes = (before, refl)
takes_each (x ∷ formals) actuals before on takes = (before, refl)

-- ---- the call

-- What a call leads to after its actuals: the formals are declared in a new frame, or there is no
-- room for it.
module _ (t : Turn) (settled : IsSettled (typing t).table) (n : ℕ) (actuals : TypedTree) where
  abbrev pub formals_there : List ℕ
  formals_there = (sub_of t.program n).formals

  abbrev entered_with : List Passed → Memory → State
  entered_with passed m = record (behind t (waiting t) m 0) {
    frames = frame_at_start n (returns_of formals_there passed) ∷ (behind t (waiting t) m 0).frames;
    memory = with_formals (typing t) (suc (length t.outer)) formals_there passed m;
  }

  abbrev pub entered : List Passed → State
  entered passed = entered_with passed t.state.memory

  abbrev pub frames_with : List Passed → Memory → ℕ
  frames_with passed m = frame_words t.program (frame_at_start n (returns_of formals_there passed) ∷ (behind t (waiting t) m 0).frames)

  -- what a call does with what is passed
  pub record Enters (f : List Passed → Memory → Outcome) : Type 0 where
    pub fits : (passed : List Passed) (m : Memory) → nat_le (frames_with passed m) stack_words ≡ true
        → f passed m ≡ leaking_goes (out_checks (typing t) t.point.pos m passed actuals) (Goes (entered_with passed m))
    pub full : (passed : List Passed) (m : Memory) → nat_le (frames_with passed m) stack_words ≡ false → f passed m ≡ raised t StorageError m

-- ---- signatures

abbrev pub signature_of : FlowSub → Signature
signature_of sub = record { formals = sub.formals; result = sub.result }

pub signature_there : (subs : List FlowSub) (n : ℕ) → get_or (map signature_of subs) n (signature_of no_sub) ≡ signature_of (get_or subs n no_sub)
signature_there [] n = refl
signature_there (sub ∷ subs) zero = refl
signature_there (sub ∷ subs) (suc n) = signature_there subs n

pub signature_is : (program : FlowProgram) (n : ℕ) → sub_at (flow_typing program) n ≡ signature_of (sub_of program n)
signature_is program n = signature_there program.subs n
