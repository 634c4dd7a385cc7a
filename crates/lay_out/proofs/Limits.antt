-- What limits say of one subprogram, and of it with others after it.
use Rattle.std.proofs.Common.{◌≡◌, ◌<◌, ◌≤◌, ℕ, Bool, true, false, List, [], ◌∷◌, length, refl, ap, arith, Option, Some, None, if◌then◌else◌}
use Rattle.std.specs.Prelude.{nat_lt}
use Rattle.spark_base.specs.declared.position.Pos.{Pos}
use Rattle.spark_base.specs.declared.limits.TheConstants.{POINTS, FACTS}
use Rattle.flow_paths.specs.declared.refusal.LayFault.{LayFault}
use Rattle.flow_paths.specs.declared.refusal.LayFault.TheVariants as fault
use Rattle.flow_paths.specs.Laid.{FlowSub}
use Rattle.flow_paths.specs.Limits.{beyond}
use Rattle.sub_layout.specs.declared.fault.SubFault.{SubFault}
use Rattle.sub_layout.specs.declared.fault.SubFault.TheVariants as sub_fault
use Rattle.lay_out.specs.declared.refusal.LayRefusal.{LayRefusal}
use Rattle.lay_out.specs.declared.refusal.LayRefusal.TheVariants as refusal
use Rattle.lay_out.specs.Refusals.{Says}
use Rattle.lay_out.specs.Subs.{refusal_by}

-- ---- one subprogram

-- With so many points and facts, and what others are beyond.
abbrev decided : Bool → Bool → Pos → Option LayFault → Option LayFault
decided points facts p later =
    if points then Some (fault.TooManyPoints p) else (if facts then Some (fault.TooManyFacts p) else later)

over : (limit n : ℕ) → limit < n → nat_lt limit n ≡ true
over limit n h = grind (arith, h)

within : (limit n : ℕ) → n ≤ limit → nat_lt limit n ≡ false
within limit n h = grind (arith, h)

pub few_alone : (sub : FlowSub) → length sub.points ≤ POINTS → length sub.facts ≤ FACTS → beyond (sub ∷ []) ≡ None
few_alone sub points facts =
    λ i. decided (within POINTS (length sub.points) points i) (within FACTS (length sub.facts) facts i) sub.pos None

pub points_alone : (sub : FlowSub) → POINTS < length sub.points → beyond (sub ∷ []) ≡ Some (fault.TooManyPoints sub.pos)
points_alone sub points =
    ap (λ b. decided b (nat_lt FACTS (length sub.facts)) sub.pos None) (over POINTS (length sub.points) points)

facts_alone : (sub : FlowSub) → length sub.points ≤ POINTS → FACTS < length sub.facts
    → beyond (sub ∷ []) ≡ Some (fault.TooManyFacts sub.pos)
facts_alone sub points facts =
    λ i. decided (within POINTS (length sub.points) points i) (over FACTS (length sub.facts) facts i) sub.pos None

-- Its fault tells what it is beyond.
pub refused_alone : (f : SubFault) (sub : FlowSub) → length sub.points ≤ POINTS
    → (f ≡ sub_fault.TooManyFacts → FACTS < length sub.facts) → Says (refusal_by f sub.pos) (beyond (sub ∷ []))
refused_alone sub_fault.Memory sub points facts = tt
refused_alone sub_fault.TooDeep sub points facts = tt
refused_alone sub_fault.TooManyFacts sub points facts = facts_alone sub points (facts refl)

-- ---- others after it

decided_first : (points facts : Bool) (p : Pos) (later : Option LayFault) (f : LayFault)
    → decided points facts p None ≡ Some f → decided points facts p later ≡ Some f
decided_first true facts p later f is = is
decided_first false true p later f is = is
decided_first false false p later f is = cc

decided_later : (points facts : Bool) (p : Pos) (later : Option LayFault) → decided points facts p None ≡ None
    → decided points facts p later ≡ later
decided_later true facts p later is = cc
decided_later false true p later is = cc
decided_later false false p later is = refl

beyond_first : (sub : FlowSub) (rest : List FlowSub) (f : LayFault) → beyond (sub ∷ []) ≡ Some f → beyond (sub ∷ rest) ≡ Some f
beyond_first sub rest f =
    decided_first (nat_lt POINTS (length sub.points)) (nat_lt FACTS (length sub.facts)) sub.pos (beyond rest) f

pub beyond_later : (sub : FlowSub) (rest : List FlowSub) → beyond (sub ∷ []) ≡ None → beyond (sub ∷ rest) ≡ beyond rest
beyond_later sub rest =
    decided_later (nat_lt POINTS (length sub.points)) (nat_lt FACTS (length sub.facts)) sub.pos (beyond rest)

-- What is said of one is said of it with others after it.
pub says_first : (e : LayRefusal) (sub : FlowSub) (rest : List FlowSub) → Says e (beyond (sub ∷ [])) → Says e (beyond (sub ∷ rest))
says_first (refusal.NameTooDeep p) sub rest is = beyond_first sub rest (fault.NameTooDeep p) is
says_first (refusal.TooManyPoints p) sub rest is = beyond_first sub rest (fault.TooManyPoints p) is
says_first (refusal.TooManyFacts p) sub rest is = beyond_first sub rest (fault.TooManyFacts p) is
says_first refusal.Memory sub rest is = tt
