-- Programs are lowered.
use Rattle.std.proofs.Common.{◌≡◌, refl, subst, inl, inr, ℕ, ◌+◌, ◌<◌, Bool, true, false, List, [], ◌∷◌, map, length, Some, None}
use Rattle.std.specs.Prelude.{nat_lt}
use Rattle.machine.specs.spark_base.Lists.{Has}
use Rattle.machine.specs.flow_paths.Instructions.{Instruction, Declare}
use Rattle.machine.specs.flow_paths.Objects.{Typing}
use Rattle.machine.specs.flow_paths.Points.{FlowPoint}
use Rattle.machine.specs.flow_paths.Laid.{FlowSub, FlowProgram, flow_typing}
use Rattle.machine.specs.States.{sub_of, stack_words}
use Rattle.settled_types.specs.OrderLaws.ScopeLaws.Order.{named_in}
use Rattle.soundness.specs.TypedLaws.TypedSteps.Steps.{IsTypedStep, IsCounted, AreCounted}
use Rattle.run_codes.specs.Lowered.{Kept}
use Rattle.run_codes.specs.Programs.{Around, point_takes, objects_of, with_takes, does, point, fallen, all_points, sub_points, around, points_from, lowered_program}
use Rattle.sound_files.specs.TypedFiles.LoweredLaws.Lowers.{literals_in, Declares, IsPlaced, IsDeclaration, site_of, ArePlaced, IsLowerable}
use Rattle.sound_files.proofs.TypedFiles.LoweredLaws.Found.{Found, Any, either_found, there}
use Rattle.sound_files.proofs.TypedFiles.LoweredLaws.Takes.{at_all}
use Rattle.sound_files.proofs.TypedFiles.LoweredLaws.Fits.{AllRoom, AllWords, fits}
use Rattle.sound_files.proofs.TypedFiles.LoweredLaws.Actuals.{first_found, append_found}
use Rattle.sound_files.proofs.TypedFiles.LoweredLaws.Steps.{first_going, declare_found, step_found}

module _ (program : FlowProgram) (lowerable : IsLowerable program) where
  abbrev s : Typing
  s = flow_typing program

  abbrev packages : List Kept
  packages = objects_of (sub_of program 0)

  -- Whatever number the first point of a subprogram has.
  abbrev here : ℕ → Bool → FlowSub → Around
  here n is_first sub = around s packages n is_first sub

  point_found : (n : ℕ) (sub : FlowSub) (p : FlowPoint) → IsPlaced (site_of program sub) false (length sub.points) p → IsTypedStep s sub.result p.instr → IsCounted p
      → Found Any (point (here n false sub) p)
  point_found n sub p placed typed counted =
      let a : Around = with_takes (here n false sub) (point_takes s p.instr) in
      let d = there Any (does a p p.instr)
      (step_found a lowerable.defined.owns lowerable.defined.whole lowerable.defined.listed lowerable.defined.sorted p p.instr typed placed.named placed.literals placed.declares
      (at_all (point_takes s p.instr)) counted placed.within) in
      rw d.1 tt

  -- in the first subprogram, which declares the objects of packages
  declared_found : (n : ℕ) (sub : FlowSub) (p : FlowPoint) (i : Instruction) → IsDeclaration i → AllRoom (site_of program sub) (named_in i) → AllWords (literals_in i)
      → Declares (site_of program sub) true i → IsTypedStep s sub.result i → ((n : ℕ) → Has p.next n → n < length sub.points)
      → Found Any (does (with_takes (here n true sub) (point_takes s i)) p i)
  declared_found n sub p (Declare x v) is room words own typed within =
      let a : Around = with_takes (here n true sub) (point_takes s (Declare x v)) in
      declare_found a lowerable.defined.owns lowerable.defined.whole lowerable.defined.listed lowerable.defined.sorted p x v typed own (fits a.site v room words)
      (at_all (point_takes s (Declare x v))) (first_going a p refl within)
  declared_found n sub p i is room words own typed within = absurd is

  first_point : (n : ℕ) (sub : FlowSub) (p : FlowPoint) → IsPlaced (site_of program sub) true (length sub.points) p → IsDeclaration p.instr → IsTypedStep s sub.result p.instr
      → Found Any (point (here n true sub) p)
  first_point n sub p placed is typed =
      let d = there Any (does (with_takes (here n true sub) (point_takes s p.instr)) p p.instr)
      (declared_found n sub p p.instr is placed.named placed.literals placed.declares typed placed.within) in
      rw d.1 tt

  -- all points of a subprogram, if no frame has too many words
  each_found : (a : Around) (ps : List FlowPoint) → ((p : FlowPoint) → Has ps p → Found Any (point a p)) → Found Any (all_points a ps)
  each_found a [] each = tt
  each_found a (p ∷ ps) each = first_found (point a p) (all_points a ps) (each p (inl refl)) (each_found a ps (λ q has. each q (inr has)))

  sub_found : (a : Around) (sub : FlowSub) → ((p : FlowPoint) → Has sub.points p → Found Any (point a p)) → Found Any (sub_points a sub)
  sub_found a sub each = either_found Any (nat_lt stack_words sub.words) (Some (map fallen sub.points)) (all_points a sub.points) tt (each_found a sub.points each)

  abbrev AllTyped : List FlowSub → Type 0
  AllTyped subs = (sub : FlowSub) → Has subs sub → (p : FlowPoint) → Has sub.points p → IsTypedStep s sub.result p.instr

  others_found : (n : ℕ) (subs : List FlowSub) → AllTyped subs
      → ((sub : FlowSub) → Has subs sub → (p : FlowPoint) → Has sub.points p → IsPlaced (site_of program sub) false (length sub.points) p)
      → ((sub : FlowSub) → Has subs sub → (p : FlowPoint) → Has sub.points p → IsCounted p)
      → Found Any (points_from s packages n false subs)
  others_found n [] typed placed counted = tt
  others_found n (sub ∷ rest) typed placed counted =
      append_found (sub_points (here n false sub) sub) (points_from s packages (n + length sub.points) false rest)
      (sub_found (here n false sub) sub
      (λ p has. point_found n sub p (placed sub (inl refl) p has) (typed sub (inl refl) p has) (counted sub (inl refl) p has)))
      (others_found (n + length sub.points) rest (λ u has. typed u (inr has)) (λ u has. placed u (inr has)) (λ u has. counted u (inr has)))

  all_found : (subs : List FlowSub) → AllTyped subs → ArePlaced program subs → AreCounted subs → Found Any (points_from s packages 0 true subs)
  all_found [] typed placed counted = tt
  all_found (sub ∷ rest) typed placed counted =
      append_found (sub_points (here 0 true sub) sub) (points_from s packages (0 + length sub.points) false rest)
      (sub_found (here 0 true sub) sub (λ p has. let one = placed.0 p has in first_point 0 sub p one.0 one.1 (typed sub (inl refl) p has)))
      (others_found (0 + length sub.points) rest (λ u has. typed u (inr has)) placed.1 counted.1)

  lowered_found : Found Any (lowered_program program)
  unfolding lowered_program
  lowered_found =
      let points = there Any (points_from s packages 0 true program.subs) (all_found program.subs lowerable.typed lowerable.placed lowerable.counted) in
      rw points.1 tt

  -- The law.
  pub is_lowered : lowered_program program ≡ None → ⊥
  is_lowered none = subst (λ o. Found Any o) none lowered_found
