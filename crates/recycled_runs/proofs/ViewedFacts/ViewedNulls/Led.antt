-- Where a name of owners leads, in memories that agree: to the same, if nothing was moved on the way.
use Rattle.std.proofs.Common.{◌≡◌, refl, sym, subst, ℕ, true, List, [], ◌∷◌}
use Rattle.machine.specs.flow_paths.Objects.{Typing, designated}
use Rattle.machine.specs.Words.{component_type, element_type}
use Rattle.machine.specs.Words as machine
use Rattle.machine.specs.Memory.{Memory, Place, slots_of, words_of}
use Rattle.machine.specs.Evaluate.{Now, Evaluated, Done, Raises, Traps, followed_by, component_place, element_place, designated_place, stepped, walked}
use Rattle.machine.specs.Evaluate as run
use Rattle.machine.specs.States.{Waiting, Leak}
use Rattle.soundness.specs.OwnedWays.Ways.{Component, Element, Loc, Way, Into, All, Reaches, Past, Owned, Known}
use Rattle.soundness.proofs.OwnedWays.Locations.{under_itself}
use Rattle.soundness.specs.PartOffsets.Parts.{IsSettled}
use Rattle.soundness.specs.Seen.{content, trunk, seen}
use Rattle.soundness.specs.Typed.{Kept, Spot}
use Rattle.soundness.proofs.Walks.{way_along, past_along, Lead, Walked}
use Rattle.recycled_runs.proofs.ViewedFacts.NullPlaces.Memories.{NoneGone, words_agree}
use Rattle.recycled_runs.proofs.ViewedFacts.NullPlaces.Only.{OnlyOwners}
use Rattle.recycled_runs.proofs.ViewedFacts.NullPlaces.Places.{spot_whole, access_whole}
use Rattle.soundness.specs.ViewedSoundness.Holds.{IsOwners}
use Rattle.soundness.proofs.ViewedSoundness.Walks.{walk, owners_rooted}
use Rattle.recycled_runs.proofs.ViewedFacts.NullPlaces.Walks.{SameNow, SameTo, then_same, designated_same}

module _ (s : Typing) (settled : IsSettled s.table) (hands : List Waiting) (leaks : List Leak) (m : Memory) (waits : List (List machine.Word)) (moved : Way → Type 0)
    (kept : Kept s m hands) (owned : Owned (seen s m hands leaks)) (known : Known (seen s m hands leaks) moved)
    (live : (w : Way) (l : Loc) → IsOwners s w → Reaches (seen s m hands leaks) w l → (content s m hands (trunk l)).owns ≡ true) (only : OnlyOwners s m) where
  abbrev at : Now
  at = record { memory = m; waits = waits }

  abbrev WalkedIn : Way → ℕ → Evaluated Place → Type 0
  WalkedIn w u x = Walked s settled hands leaks m waits w u x

  strip : (w : Way) (u : ℕ) (x : Evaluated Place) → WalkedIn w u (followed_by x (walked s [])) → WalkedIn w u x
  strip w u (Done k n) is = is
  strip w u (Raises e n) is = is
  strip w u (Traps e n) is = is

  -- a name whose way meets nothing moved leads to the same place
  pub owners_same : (steps : List run.Step) (k : Place) (l : Loc) (w : Way) (u : ℕ) → Spot s m hands k l → IsOwners s w → Reaches (seen s m hands leaks) w l
      → Lead s.table k.of steps u → ((v : Way) → Past v (way_along steps w) → moved v → ⊥) → (n' : Now) → SameNow s at n'
      → SameTo s (walked s steps k at) (walked s steps k n')
  owners_same [] k l w u spot rooted reaches lead clean n' same = (refl, same)
  owners_same (run.ToComponent i ∷ rest) k l w u spot rooted reaches lead clean n' same =
      let one : WalkedIn (Into w (Component i)) (component_type s.table k.of i) (Done (component_place s.table i k) at) =
      walk s settled hands leaks m waits moved kept owned known live (run.ToComponent i ∷ []) k l w (component_type s.table k.of i) spot rooted reaches (lead.0, refl)
      (λ v p gone. clean v (past_along v (Into w (Component i)) rest p) gone) in
      owners_same rest (component_place s.table i k) one.0 (Into w (Component i)) u one.2 rooted one.3 lead.1 clean n' same
  owners_same (run.ToElement i ∷ rest) k l w u spot rooted reaches lead clean n' same =
      let one : WalkedIn (Into w (Element i)) (element_type s.table k.of) (Done (element_place s.table i k) at) =
      walk s settled hands leaks m waits moved kept owned known live (run.ToElement i ∷ []) k l w (element_type s.table k.of) spot rooted reaches (lead.0, refl)
      (λ v p gone. clean v (past_along v (Into w (Element i)) rest p) gone) in
      owners_same rest (element_place s.table i k) one.0 (Into w (Element i)) u one.2 rooted one.3 lead.1 clean n' same
  owners_same (run.ToDesignated ∷ rest) k l w u spot rooted reaches (d, c, is, lead) clean n' same =
      let mine : moved w → ⊥ = (λ gone. clean w (past_along w (All w) rest (under_itself w)) gone) in
      let none : NoneGone (slots_of s m k) =
      spot_whole s settled m hands only kept k l spot
      (access_whole s settled m hands leaks moved known w l (owners_rooted s w rooted) reaches (live w l rooted reaches) k d c spot is mine) in
      let one = walk s settled hands leaks m waits moved kept owned known live (run.ToDesignated ∷ []) k l w d spot rooted reaches (d, c, is, refl)
      (λ v p gone. clean v (past_along v (All w) rest p) gone) in
      let read : SameTo s (stepped s run.ToDesignated k at) (stepped s run.ToDesignated k n') =
      subst (λ z. SameTo s (designated_place (designated s.table k.of) (words_of s m k) at) (designated_place (designated s.table k.of) z n'))
      (words_agree s m n'.memory same.0 k none) (designated_same s (designated s.table k.of) (words_of s m k) at n' same) in
      then_same s (WalkedIn (All w) d) (stepped s run.ToDesignated k at) (stepped s run.ToDesignated k n') (walked s rest) (walked s rest)
      (strip (All w) d (stepped s run.ToDesignated k at) one) read
      (λ a n n'' p now. subst (λ z. SameTo s (walked s rest a z) (walked s rest a n'')) (sym p.1)
      (owners_same rest a p.0 (All w) u p.2 rooted p.3 (subst (λ t. Lead s.table t rest u) (sym p.4) lead) clean n'' (subst (λ z. SameNow s z n'') p.1 now)))
