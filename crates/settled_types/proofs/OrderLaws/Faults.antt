-- The units of a program without a fault of typing break no sentence.
use Rattle.std.proofs.Common.{◌≡◌, refl, subst, inl, inr, true, List, [], ◌∷◌, Option, Some, None, if◌then◌else◌, ap}
use Rattle.std.specs.Prelude.{flat_map, is_some}
use Rattle.std.proofs.lemmas.Bool.{true≢false}
use Rattle.machine.specs.spark_base.Lists.{Has}
use Rattle.machine.specs.resolved_tree.Trees.{Code, Program}
use Rattle.machine.specs.type_definitions.declared.judgement.Fault.{Fault}
use Rattle.machine.specs.type_definitions.declared.table.Known.{Known}
use Rattle.machine.specs.type_definitions.Faults.{precedes, noted, first}
use Rattle.machine.specs.type_definitions.Declarations.{code_faults}
use Rattle.machine.specs.type_definitions.Whole.{outside, known_of, known_with, main_faults, unit_faults, sentence_faults, type_sizes, TypeFault, decided, fault_known, told, type_fault}
use Rattle.settled_types.proofs.OrderLaws.Mains.{nothing_left, nothing_right}

noted_some : (g : Fault) (faults : List Fault) → noted (Some g) faults ≡ None → ⊥
noted_some g [] e = true≢false (ap is_some e)
noted_some g (f ∷ rest) e = noted_some (if precedes f g then f else g) rest e

first_none : (faults : List Fault) → first faults ≡ None → faults ≡ []
first_none [] e = refl
first_none (f ∷ rest) e = absurd (noted_some f rest e)

decided_none : (size sentence : Option Fault) → decided size sentence ≡ None → sentence ≡ None
decided_none None None e = refl
decided_none None (Some f) e = absurd (true≢false (ap is_some e))
decided_none (Some f) sentence e = absurd (true≢false (ap is_some e))

told_none : (found other : Option TypeFault) → told found other ≡ None → found ≡ None
told_none None other e = refl
told_none (Some f) None e = absurd (true≢false (ap is_some e))
told_none (Some f) (Some g) e = absurd (true≢false (ap is_some e))

each_none : (known : Known) (units : List Code) → flat_map (unit_faults (outside known)) units ≡ [] → (u : Code) → Has units u → unit_faults (outside known) u ≡ []
each_none known [] e u has = absurd has
each_none known (v ∷ units) e u (inl is) =
    subst (λ z. unit_faults (outside known) z ≡ []) is (nothing_left (unit_faults (outside known) v) (flat_map (unit_faults (outside known)) units) e)
each_none known (v ∷ units) e u (inr has) =
    each_none known units (nothing_right (unit_faults (outside known) v) (flat_map (unit_faults (outside known)) units) e) u has

whole_faultless : (p : Program) → type_fault p ≡ None → (u : Code) → Has p.units u → unit_faults (outside (known_of p)) u ≡ []
unfolding type_fault sentence_faults
whole_faultless p none u has =
    each_none (known_of p) p.units
    (first_none (sentence_faults (known_of p) p.units)
    (decided_none (first (type_sizes (known_of p) p.units)) (first (sentence_faults (known_of p) p.units))
    (told_none (fault_known (known_of p) p.units) (fault_known (known_with true p) p.units) none))) u has

pub units_faultless : (p : Program) → type_fault p ≡ None → (u : Code) → Has p.units u → code_faults (outside (known_of p)) u ≡ []
units_faultless p none u has = nothing_left (code_faults (outside (known_of p)) u) (main_faults u) (whole_faultless p none u has)

-- So the main procedure has no formals.
pub mains_faultless : (p : Program) → type_fault p ≡ None → (u : Code) → Has p.units u → main_faults u ≡ []
mains_faultless p none u has = nothing_right (code_faults (outside (known_of p)) u) (main_faults u) (whole_faultless p none u has)
