-- A leak check doesn't fail at a place that a fact without an element calls moved, perhaps through a view.
use Rattle.std.proofs.Common.{◌≡◌, refl, sym, ap, ◌∙◌, subst, inl, inr, ℕ, ◌+◌, true, false, List, [], ◌∷◌, ◌++◌, map, get_or, arith}
use Rattle.soundness.proofs.ExactFacts.Checks.{is_gone, failed_gone}
use Rattle.machine.specs.spark_base.Lists.{Has}
use Rattle.machine.specs.spark_base.declared.position.Pos.{Pos}
use Rattle.machine.specs.place_names.declared.selector.Sel.{Sel}
use Rattle.machine.specs.place_names.declared.fact.Fact.{Fact}
use Rattle.machine.specs.place_names.declared.fact.Fact.TheVariants.{Moved}
use Rattle.machine.specs.place_names.Names.{Name, extend, has_elem}
use Rattle.machine.specs.type_definitions.Types.{parts}
use Rattle.machine.specs.flow_paths.declared.point.LeakSpot.{LeakSpot}
use Rattle.machine.specs.flow_paths.Objects.{Typing}
use Rattle.machine.specs.flow_paths.Acts.{spot}
use Rattle.machine.specs.Words.{offsets}
use Rattle.machine.specs.Memory.{Slot, Memory, Place, no_slot, slots_at}
use Rattle.machine.specs.Calls.{checked_at, checks_at}
use Rattle.machine.specs.States.{Waiting, Leak}
use Rattle.soundness.specs.OwnedWays.Ways.{Loc, Way, Gone, Reaches, Told, part, along, Named, sels_of, name_of}
use Rattle.soundness.proofs.OwnedWays.Locations.{reaches_along}
use Rattle.soundness.specs.PartOffsets.Parts.{type_in, offset_in, IsSettled}
use Rattle.soundness.specs.Seen.{Content, content, trunk, steps_in, owner_word, seen}
use Rattle.soundness.specs.Typed.{Spot}
use Rattle.soundness.proofs.Joined.{offset_join}
use Rattle.soundness.proofs.Contents.{shown, word_part}
use Rattle.soundness.proofs.Steps.{alike, content_slots}
use Rattle.soundness.proofs.Moments.{number_part}
use Rattle.soundness.specs.OwnedLoans.Views.{Views, expand}
use Rattle.soundness.proofs.OwnedLoans.Moves.{expand_along}
use Rattle.soundness.specs.ExactFacts.Exact.{IsOfVariable, NoneFails}
use Rattle.soundness.proofs.ExactFacts.Parts.{plain_leaf}
use Rattle.soundness.proofs.ExactFacts.Memories.{sels_part, named_part, end_plain, same_told}
use Rattle.recycled_runs.specs.ViewedFacts.Exact.{IsDefiniteBy, IsDefinite, IsExact}
use Rattle.soundness.proofs.Parted.{empty_gone}

module _ (s : Typing) (settled : IsSettled s.table) (home : ℕ → ℕ) (v : Views) (elsewhere : Way → Type 0) (m : Memory) (hands : List Waiting) (leaks : List Leak)
    (facts : List Fact) (variables : (w : Way) → IsDefinite home v elsewhere facts w → IsOfVariable w) (exact : IsExact s home v elsewhere m facts)
    (k : Place) (l : Loc) (u : Way) (place : Spot s m hands k l) (named : Named home u) (reaches : Reaches (seen s m hands leaks) (expand v u) l) where
  -- the check of one access part
  pub part_holds : (pos : Pos) (q : List Sel) → Has (parts s.table k.of) q → has_elem (sels_of u ++ q) ≡ false → Has facts (Moved (extend (name_of u) q))
      → checked_at pos k.at (slots_at s m k.base) (offsets s.table k.of q) ≡ []
  part_holds pos q has plain moved =
      let leaf = plain_leaf s.table settled k.of [] q refl (end_plain (sels_of u) q plain) has in
      let called : name_of (along u leaf.path) ≡ extend (name_of u) q = (λ j. record {
        root = number_part u leaf.path j;
        sels = (sels_part u leaf.path ∙ ap (λ x. sels_of u ++ x) leaf.sels) j;
      }) in
      let definite : IsDefiniteBy home v facts (along (expand v u) leaf.path) = (
        along u leaf.path,
        (named_part home u leaf.path named, subst (λ n. Has facts (Moved n)) (sym called) moved),
        ap (λ (n : Name). has_elem n.sels) called ∙ plain,
        expand_along v u leaf.path,
      ) in
      let told : Told (seen s m hands leaks) (IsDefinite home v elsewhere facts) =
      same_told s (seen s m [] []) (seen s m hands leaks) m [] hands (IsDefinite home v elsewhere facts) variables (λ z. refl) (λ z. refl) exact in
      let word = told (along (expand v u) leaf.path) (part l leaf.path) (inl definite) (reaches_along (seen s m hands leaks) (expand v u) l leaf.path reaches) in
      let c : Content = content s m hands (trunk l) in
      let there = shown s.table c (leaf.path ++ steps_in l) Gone empty_gone (sym (word_part s.table (content s m hands) l leaf.path) ∙ word) in
      let like = alike s.table settled k.of (type_in s.table c.of (steps_in l)) place.of in
      let joins = offset_join s.table c.of (steps_in l) leaf.path in
      let same = like.at leaf.path leaf.leaf in
      let inner = leaf.at in
      let at = place.at in
      let offset : offset_in s.table c.of (leaf.path ++ steps_in l) ≡ k.at + leaf.word = omega (arith, joins, same, inner, at) in
      let slots : c.slots ≡ slots_at s m k.base = ap (λ z. (content s m hands z).slots) place.base ∙ content_slots s m hands k.base place.made in
      let slot : Slot = get_or (slots_at s m k.base) (k.at + leaf.word) no_slot in
      let found : get_or c.slots (offset_in s.table c.of (leaf.path ++ steps_in l)) no_slot ≡ slot =
      ap (λ o. get_or c.slots o no_slot) offset ∙ ap (λ z. get_or z (k.at + leaf.word) no_slot) slots in
      let gone : slot.gone ≡ true = is_gone slot.word slot.gone (sym (ap owner_word found) ∙ there.slot) in
      ap (checked_at pos k.at (slots_at s m k.base)) leaf.only
      ∙ ap (λ z. z ++ []) (failed_gone pos slot.word slot.gone gone)

  -- the checks of the place, beside the spots of its name
  pub place_holds : (Excused : LeakSpot → Type 0) (pos pos' : Pos) (before : ℕ)
      → ((q : List Sel) → Has (parts s.table k.of) q → Excused (spot pos' (name_of u) before q)
      → (has_elem (sels_of u ++ q) ≡ false) × Has facts (Moved (extend (name_of u) q)))
      → NoneFails Excused (map (spot pos' (name_of u) before) (parts s.table k.of)) (checks_at s pos m k)
  place_holds Excused pos pos' before known = each (parts s.table k.of) (λ q has. has)
    where
      each : (qs : List (List Sel)) → ((q : List Sel) → Has qs q → Has (parts s.table k.of) q)
          → NoneFails Excused (map (spot pos' (name_of u) before) qs) (map (λ q. checked_at pos k.at (slots_at s m k.base) (offsets s.table k.of q)) qs)
      each [] all = tt
      each (q ∷ qs) all = (
        λ excused. (let both = known q (all q (inl refl)) excused in part_holds pos q (all q (inl refl)) both.0 both.1),
        each qs (λ z has. all z (inr has)),
      )
