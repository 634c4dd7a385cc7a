-- Identifiers denote objects and functions of the program as it is laid out, with its temporaries.
use Rattle.std.proofs.Common.{◌≡◌, refl, ap, ◌∙◌, subst, inl, inr, ℕ, zero, suc, ◌+◌, ◌<◌, Bool, true, false, not, cond, List, [], ◌∷◌, ◌++◌, map, length, get_or, nat_eq, arith}
use Rattle.std.specs.List.{position_or_len}
use Rattle.std.proofs.lemmas.Bool.{eq-eqb}
use Rattle.std.proofs.lemmas.List.{length-map}
use Rattle.machine.specs.spark_base.Lists.{Has}
use Rattle.machine.specs.resolved_tree.Trees.{Program}
use Rattle.machine.specs.type_definitions.declared.table.Entry.TheVariants as entry
use Rattle.machine.specs.type_definitions.declared.table.ObjectInfo.{ObjectInfo}
use Rattle.machine.specs.type_definitions.Entries.{entry_of}
use Rattle.machine.specs.type_definitions.Whole.{known_of}
use Rattle.machine.specs.typed_tree.declared.object.Object.{Object}
use Rattle.machine.specs.typed_tree.Expressions.{object_number}
use Rattle.machine.specs.typed_tree.Programs.{DeclaredObject, program_objects, text_io, typed_program}
use Rattle.machine.specs.flow_paths.Objects.{object_at}
use Rattle.machine.specs.flow_paths.Laid.{flow_program}
use Rattle.soundness.specs.TypedLaws.Fine.{Denotes}
use Rattle.soundness.specs.TypedLaws.TypedPoints.Meant.{typing_meant}
use Rattle.sound_files.specs.TypedFiles.TypedRuns.Meant.{typed_in, laid_in, site_in, typing_laid}

-- What stands in a list has a place in it.
placed : (d : ℕ) (ns : List ℕ) → Has ns d → position_or_len (nat_eq d) ns < length ns
placed d [] has = absurd has
placed d (n ∷ ns) has = by (nat_eq d n) refl (λ more. placed d ns more)
  where
    by : (b : Bool) → nat_eq d n ≡ b → (Has ns d → position_or_len (nat_eq d) ns < length ns) → cond (not b) (1 + position_or_len (nat_eq d) ns) 0 < length (n ∷ ns)
    by true is on = omega arith
    by false is on =
        let less = on (elim has [
          | inl same ↦ absurd (let f : nat_eq d d ≡ false = subst (λ x. nat_eq d x ≡ false) same is in let g = eq-eqb d d refl in cc)
          | inr more ↦ more
        ]) in
        omega (arith, less)

in_front : (xs ys : List Object) (n : ℕ) (fallback : Object) → n < length xs → get_or (xs ++ ys) n fallback ≡ get_or xs n fallback
in_front [] ys n fallback less = absurd (omega (arith, less))
in_front (x ∷ xs) ys zero fallback less = refl
in_front (x ∷ xs) ys (suc n) fallback less = in_front xs ys n fallback (omega (arith, less))

module _ (p : Program) where
  abbrev all : List DeclaredObject
  all = program_objects (known_of p) p.units

  objects_are : (typed_in p).objects ≡ text_io ∷ map (λ (o : DeclaredObject). o.object) all
  unfolding typed_program
  objects_are = refl

  laid_objects : (rest : List Object) × ((laid_in p).objects ≡ (typed_in p).objects ++ rest)
  unfolding flow_program
  laid_objects = (_, refl)

  -- A declared object comes before the temporaries.
  pub same_object : (d : ℕ) → Has (site_in p).objects d
      → object_at (typing_laid p) (object_number (site_in p) d) ≡ object_at (typing_meant (known_of p) p.units) (object_number (site_in p) d)
  same_object d has =
      let at = placed d (site_in p).objects has in
      let long = length-map all (λ (o : DeclaredObject). o.number) in
      let count = length-map all (λ (o : DeclaredObject). o.object) in
      let whole : length (typed_in p).objects ≡ 1 + length (map (λ (o : DeclaredObject). o.object) all) = ap length objects_are ∙ (let z : length (text_io ∷ map (λ (o : DeclaredObject). o.object) all) ≡ 1 + length (map (λ (o : DeclaredObject). o.object) all) = omega arith in z) in
      let less : object_number (site_in p) d < length (typed_in p).objects = omega (arith, at, long, count, whole) in
      ap (λ os. get_or os (object_number (site_in p) d) text_io) laid_objects.1 ∙ in_front (typed_in p).objects laid_objects.0 (object_number (site_in p) d) text_io less

  -- So it stands at its place among the objects of the program.
  pub laid_object : (d : ℕ) → Has (site_in p).objects d
      → object_at (typing_laid p) (object_number (site_in p) d) ≡ get_or (map (λ (o : DeclaredObject). o.object) all) (position_or_len (nat_eq d) (site_in p).objects) text_io
  unfolding typed_program
  laid_object d has =
      let i : ℕ = position_or_len (nat_eq d) (site_in p).objects in
      let next : i + 1 ≡ suc i = omega arith in
      same_object d has ∙ ap (λ k. get_or (text_io ∷ map (λ (o : DeclaredObject). o.object) all) k text_io) next

  pub denotes_laid : (d : ℕ) → ((o : ObjectInfo) → entry_of (known_of p) d ≡ entry.Object o → Has (site_in p).objects d)
      → Denotes (site_in p) (typing_meant (known_of p) p.units) d → Denotes (site_in p) (typing_laid p) d
  denotes_laid d declared denotes =
      (λ o is. ap (λ (x : Object). x.of) (same_object d (declared o is)) ∙ denotes.0 o is, denotes.1)
