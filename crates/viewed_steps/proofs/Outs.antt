-- Places that a call takes for formals of mode `out`. Their leak checks are made before any of them is
-- emptied; what they have then, they have still when they are.
use Rattle.std.proofs.Common.{◌≡◌, refl, sym, ◌∙◌, subst, inl, inr, ℕ, suc, ◌<◌, List, [], ◌∷◌, ◌++◌}
use Rattle.machine.specs.spark_base.Lists.{Has}
use Rattle.machine.specs.spark_base.declared.position.Pos.{Pos}
use Rattle.machine.specs.flow_paths.Objects.{Typing}
use Rattle.machine.specs.Memory.{Memory, Place}
use Rattle.machine.specs.States.{Leak}
use Rattle.soundness.specs.OwnedWays.Ways.{Step, OfVariable, OfRoot, OfCell, Loc, Way, Object, View, Owned, Reaches, Below, Under, part, along}
use Rattle.soundness.proofs.OwnedWays.Locations.{reaches_along, under_along, under_itself}
use Rattle.soundness.proofs.OwnedWays.Unique.{one_way}
use Rattle.soundness.proofs.OwnedLoans.Ways.{beginnings}
use Rattle.soundness.specs.Seen.{content, word_in}
use Rattle.soundness.specs.Changes.{leaks_at}
use Rattle.soundness.proofs.Joined.{part_part}
use Rattle.viewed_steps.specs.Taken.{Lodge}

-- Its way, and where its leak checks are reported.
pub record Out : Type 0 where
  pub way : Way
  pub place : Place
  pub pos : Pos

-- A way is, or goes on from, one of them.
abbrev pub IsUnderOne : List Out → Way → Type 0
IsUnderOne outs w = (o : Out) × Has outs o × Under o.way w

-- What their leak checks find in a memory.
abbrev pub found_in : Typing → Memory → List Out → List Leak
found_in s m [] = []
found_in s m (o ∷ outs) = leaks_at s o.pos m o.place ++ found_in s m outs

-- A place in a variable of a frame, or of one below, or in one of these cells, has what it had.
abbrev pub HasStill : Typing → List Lodge → ℕ → Memory → Memory → Way → Type 0
HasStill s cells depth m n to =
    ((f y : ℕ) (q p : List Step) → f < suc depth → to ≡ along (Object (OfVariable f y)) q
    → word_in s.table (content s n [] (OfRoot (OfVariable f y))) (p ++ q) ≡ word_in s.table (content s m [] (OfRoot (OfVariable f y))) (p ++ q))
    × ((c : Lodge) (q p : List Step) → Has cells c → to ≡ along c.way q
    → word_in s.table (content s n [] (OfCell c.cell)) (p ++ q) ≡ word_in s.table (content s m [] (OfCell c.cell)) (p ++ q))

abbrev pub HaveStill : Typing → List Lodge → ℕ → Memory → Memory → List Out → Type 0
HaveStill s cells depth m n outs = (o : Out) → Has outs o → HasStill s cells depth m n o.way

pub still_then : (s : Typing) (cells : List Lodge) (depth : ℕ) (a b c : Memory) (to : Way) → HasStill s cells depth a b to → HasStill s cells depth b c to → HasStill s cells depth a c to
still_then s cells depth a b c to first second = (
  (λ f y q p low is. second.0 f y q p low is ∙ first.0 f y q p low is),
  (λ l q p has is. second.1 l q p has is ∙ first.1 l q p has is),
)

-- Of two ways that don't begin each other, neither leads into the place of the other one.
pub ways_apart : (view : View) → Owned view → (to : Way) (at : Loc) → Reaches view to at → (u : Way) (l : Loc) → Reaches view u l → (q p : List Step)
    → (Under to (along u q) → ⊥) × (Under (along u q) to → ⊥) → Below at (part l (p ++ q)) → ⊥
ways_apart view owned to at reaches u l there_u q p apart these =
    let (r, is) = these in
    let z : Way = along u q in
    let stands : Reaches view z (part l q) = reaches_along view u l q there_u in
    let there : Reaches view (along z p) (part l (p ++ q)) = subst (Reaches view (along z p)) (part_part l q p) (reaches_along view z (part l q) p stands) in
    let same : along z p ≡ along to r =
    one_way view owned (along z p) (along to r) (part l (p ++ q)) there (subst (Reaches view (along to r)) (sym is) (reaches_along view to at r reaches)) in
    elim (beginnings to z (along z p) (subst (Under to) (sym same) (under_along to to r (under_itself to))) (under_along z z p (under_itself z))) [
      | inl a ↦ apart.0 a
      | inr b ↦ apart.1 b
    ]

pub places_apart : (view : View) → Owned view → (to : Way) (at : Loc) → Reaches view to at → (depth y : ℕ) (q p : List Step)
    → (Under to (along (Object (OfVariable depth y)) q) → ⊥) × (Under (along (Object (OfVariable depth y)) q) to → ⊥)
    → Below at (part (OfRoot (OfVariable depth y)) (p ++ q)) → ⊥
places_apart view owned to at reaches depth y q p apart = ways_apart view owned to at reaches (Object (OfVariable depth y)) (OfRoot (OfVariable depth y)) refl q p apart
