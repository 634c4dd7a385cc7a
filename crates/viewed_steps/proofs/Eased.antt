-- A step that takes values which wait is like one at a point that takes none, once the values are
-- out of the frame. They own nothing, and neither owners nor views see them.
use Rattle.std.proofs.Common.{false, ◌≡◌, refl, sym, ap, ◌∙◌, subst, ℕ, zero, suc, Bool, List, [], ◌∷◌, ◌++◌, flat_map, take, drop, append_assoc}
use Rattle.std.specs.List.{AllByRecursion}
use Rattle.machine.specs.place_names.declared.fact.Fact.{Fact}
use Rattle.machine.specs.type_definitions.Types.{is_owning}
use Rattle.machine.specs.flow_paths.Objects.{Typing}
use Rattle.machine.specs.flow_paths.Scopes.{taken}
use Rattle.machine.specs.Memory.{Memory}
use Rattle.machine.specs.States.{Waiting, Leak}
use Rattle.machine.specs.Step.{Turn, typing, waiting}
use Rattle.soundness.specs.OwnedWays.Ways.{IsSame}
use Rattle.soundness.specs.OwnedWays.Ways as ways
use Rattle.soundness.specs.PartOffsets.Parts.{IsSettled}
use Rattle.soundness.specs.Seen.{in_hand, seen}
use Rattle.soundness.specs.Typed.{Kept, OwnsByShape}
use Rattle.soundness.proofs.Contents.{word_no}
use Rattle.soundness.proofs.Lasting.{less_kept, ownerless}
use Rattle.soundness.proofs.Waits.{waits_of}
use Rattle.soundness.proofs.Evaluated.{blank_hand}
use Rattle.soundness.proofs.Eased.{eased}
use Rattle.soundness.specs.OwnedLoans.Views.{Around, Views, Viewed}
use Rattle.soundness.proofs.OwnedLoans.Moves.{same_viewed}

pub same_back : (a b : ways.View) → IsSame a b → IsSame b a
same_back a b same = record {
  word = λ l. sym (same.word l);
  made = sym same.made;
  freed = λ n. sym (same.freed n);
  leaked = λ n. sym (same.leaked n);
}

split_waits : (n : ℕ) (vs : List Waiting) → take n vs ++ drop n vs ≡ vs
split_waits zero [] = refl
split_waits zero (v ∷ vs) = refl
split_waits (suc n) [] = refl
split_waits (suc n) (v ∷ vs) = ap (λ z. v ∷ z) (split_waits n vs)

module _ (s : Typing) (settled : IsSettled s.table) (own_law : OwnsByShape s.table) (m : Memory) (leaks : List Leak) (at_home : ℕ → ℕ) (observer : ℕ → Bool) (other : Around at_home) (views : Views)
    (facts : List Fact) where
  -- without them
  without_values : (vs hands : List Waiting) → AllByRecursion (λ (v : Waiting). is_owning s.table v.of ≡ false) vs
      → Viewed at_home observer other views (seen s m (vs ++ hands) leaks) facts → Kept s m (vs ++ hands)
      → Viewed at_home observer other views (seen s m hands leaks) facts × Kept s m hands
  without_values [] hands plain viewed kept = (viewed, kept)
  without_values (v ∷ vs) hands plain viewed kept =
      without_values vs hands plain.1
      (same_viewed at_home observer other views (seen s m (v ∷ (vs ++ hands)) leaks) (seen s m (vs ++ hands) leaks) facts
      (same_back (seen s m (vs ++ hands) leaks) (seen s m (v ∷ (vs ++ hands)) leaks)
      (blank_hand s m leaks v (vs ++ hands) (λ p. word_no s.table (in_hand v) p (ownerless s.table own_law v.of plain.0 p)))) viewed)
      (less_kept s settled m v (vs ++ hands) kept)

-- Sound with views and typed, before a step that takes values that own nothing.
pub eased_viewed : (t : Turn) (settled : IsSettled (typing t).table) (own_law : OwnsByShape (typing t).table) (at_home : ℕ → ℕ) (observer : ℕ → Bool) (other : Around at_home) (views : Views) (facts : List Fact)
    → t.state.frames ≡ t.frame ∷ t.outer → AllByRecursion (λ (v : Waiting). is_owning (typing t).table v.of ≡ false) (take (taken t.point.instr) t.frame.waits)
    → Viewed at_home observer other views (seen (typing t) t.state.memory (flat_map waits_of t.state.frames) t.state.leaks) facts
    → Kept (typing t) t.state.memory (flat_map waits_of t.state.frames)
    → Viewed at_home observer other views (seen (typing t) t.state.memory (flat_map waits_of (eased t).state.frames) t.state.leaks) facts
    × Kept (typing t) t.state.memory (flat_map waits_of (eased t).state.frames)
eased_viewed t settled own_law at_home observer other views facts frames plain viewed kept =
    let n : ℕ = taken t.point.instr in
    let rest : List Waiting = flat_map waits_of t.outer in
    let hands : flat_map waits_of t.state.frames ≡ take n t.frame.waits ++ (waiting t ++ rest) =
    ap (flat_map waits_of) frames ∙ ap (λ z. z ++ rest) (sym (split_waits n t.frame.waits)) ∙ append_assoc (take n t.frame.waits) (waiting t) rest in
    without_values (typing t) settled own_law t.state.memory t.state.leaks at_home observer other views facts (take n t.frame.waits) (waiting t ++ rest) plain
    (subst (λ z. Viewed at_home observer other views (seen (typing t) t.state.memory z t.state.leaks) facts) hands viewed)
    (subst (Kept (typing t) t.state.memory) hands kept)
