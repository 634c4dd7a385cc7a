use Rattle.std.proofs.Common.{◌≡◌, ◌+◌, ◌≤◌, ℕ, Bool, true, false, List, [], ◌∷◌, ◌++◌, map, sym, ap, subst, ◌∙◌, length, length-append, suc, set, Result, Ok, Err, arith}
use Rattle.std.specs.Prelude.{OnOk}
use Rattle.std.proofs.lemmas.List.{length-map}
use Rattle.type_definitions.specs.Types.{Table, info}
use Rattle.type_ranks.specs.declared.visits.Visit.{Visit}
use Rattle.type_ranks.specs.Ranks.{parts}
use Rattle.type_ranks.specs.Stages.{entered, fresh, given, is_entered, work, IsStage}
use Rattle.type_ranks.proofs.Stages.{stage_left, stage_passed, stage_entered}
use Rattle.type_ranks.proofs.Work.{work_set}
use Rattle.type_ranks.proofs.ranking.Ranking.turn.Goals as goal

-- a visit by whether its type was entered
which : (v : Visit) (b : Bool) → v.entered ≡ b → v ≡ record { of = v.of; entered = b }
which v b is = λ i. record { of = v.of; entered = is i }

before : (depth : ℕ → ℕ) (table : Table) (marks : List Bool) (ranks : List ℕ) (last : ℕ) (vs : List Visit) (v : Visit) (b : Bool) → v.entered ≡ b
    → IsStage depth table marks ranks last (vs ++ v ∷ []) → IsStage depth table marks ranks last (vs ++ record { of = v.of; entered = b } ∷ [])
before depth table marks ranks last vs v b is stage = subst (λ w. IsStage depth table marks ranks last (vs ++ w ∷ [])) (which v b is) stage

same : (depth : ℕ → ℕ) (table : Table) (ms marks : List Bool) (rs ranks : List ℕ) (l last : ℕ) (ws vs : List Visit)
    → marks ≡ ms → ranks ≡ rs → last ≡ l → vs ≡ ws → IsStage depth table ms rs l ws → IsStage depth table marks ranks last vs
same depth table ms marks rs ranks l last ws vs a b c d stage =
    subst (λ x. IsStage depth table x ranks last vs) (sym a)
    (subst (λ x. IsStage depth table ms x last vs) (sym b)
    (subst (λ x. IsStage depth table ms rs x vs) (sym c) (subst (λ x. IsStage depth table ms rs l x) (sym d) stage)))

on_ok_four : {A E P Q R S T : Type 0} (result : Result A E) → (P → Q → R → S → T) → OnOk result P → OnOk result Q → OnOk result R → OnOk result S → OnOk result T
on_ok_four (Ok a) f p q r s = f p q r s
on_ok_four (Err e) f p q r s = tt

on_ok_two : {A E P Q T : Type 0} (result : Result A E) → (P → Q → T) → OnOk result P → OnOk result Q → OnOk result T
on_ok_two (Ok a) f p q = f p q
on_ok_two (Err e) f p q = tt

pub returns-then-visit-clause-sound : goal.returns-then-visit-clause-sound
returns-then-visit-clause-sound c depth are =
    let s = c.args.self.now in
    let n = c.settle.new.self in
    let table : Table = c.args.table.now in
    let t : ℕ = c.args.visit.of in
    let says = c.in_ok-settle.ensures in
    same depth table s.entered.items n.entered.items (given s.ranks.items t (suc s.last)) n.ranks.items (suc s.last) n.last s.stack.items n.stack.items
    says.marks says.ranks says.last says.stack
    (stage_left depth table are s.entered.items s.ranks.items s.last s.stack.items t
    (before depth table s.entered.items s.ranks.items s.last s.stack.items c.args.visit true c.if-visit.true (c.requires depth are)))

pub returns-then-is_entered-clause-sound : goal.returns-then-is_entered-clause-sound
returns-then-is_entered-clause-sound c depth are =
    let s = c.args.self.now in
    let table : Table = c.args.table.now in
    let t : ℕ = c.args.visit.of in
    stage_passed depth table are s.entered.items s.ranks.items s.last s.stack.items t
    (before depth table s.entered.items s.ranks.items s.last s.stack.items c.args.visit false c.if-visit.false (c.requires depth are))
    (ap (λ marks. is_entered marks t) (sym c.deref.ensures.value) ∙ sym c.is_entered.ensures ∙ c.if-is_entered.true)

pub returns-clause-sound : goal.returns-clause-sound
returns-clause-sound c =
    let s = c.args.self.now in
    let n = c.enter.new.self in
    let table : Table = c.args.table.now in
    let t : ℕ = c.args.visit.of in
    let fresh_one : is_entered s.entered.items t ≡ false = ap (λ marks. is_entered marks t) (sym c.deref.ensures.value) ∙ sym c.is_entered.ensures ∙ c.if-is_entered.false in
    on_ok_four c.enter.result
    (λ marks ranks last stack depth are.
    same depth table (set s.entered.items t true) n.entered.items s.ranks.items n.ranks.items s.last n.last
    (s.stack.items ++ entered t ∷ map fresh (parts (info table t))) n.stack.items marks ranks last stack
    (stage_entered depth table are s.entered.items s.ranks.items s.last s.stack.items t
    (before depth table s.entered.items s.ranks.items s.last s.stack.items c.args.visit false c.if-visit.false (c.requires depth are)) fresh_one))
    c.enter.ensures.marks c.enter.ensures.ranks c.enter.ensures.last c.enter.ensures.stack

smaller : (table : Table) (marks ms : List Bool) (vs ws : List Visit) (t : ℕ) → is_entered marks t ≡ false → ms ≡ set marks t true
    → ws ≡ vs ++ entered t ∷ map fresh (parts (info table t)) → work table ms + length ws ≤ work table marks + length vs
smaller table marks ms vs ws t is marked stacked =
    let a = work_set table marks t is in
    let b = ap (work table) marked in
    let d = ap length stacked in
    let e = length-append vs (entered t ∷ map fresh (parts (info table t))) in
    let f = length-map (parts (info table t)) fresh in
    omega (arith, a, b, d, e, f)

pub returns-clause-smaller : goal.returns-clause-smaller
returns-clause-smaller c =
    let s = c.args.self.now in
    let n = c.enter.new.self in
    let table : Table = c.args.table.now in
    let t : ℕ = c.args.visit.of in
    let fresh_one : is_entered s.entered.items t ≡ false = ap (λ marks. is_entered marks t) (sym c.deref.ensures.value) ∙ sym c.is_entered.ensures ∙ c.if-is_entered.false in
    on_ok_two c.enter.result
    (λ marks stack. smaller table s.entered.items n.entered.items s.stack.items n.stack.items t fresh_one marks stack)
    c.enter.ensures.marks c.enter.ensures.stack
