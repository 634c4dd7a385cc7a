-- Facts without an element stay exact in the steps of a memory.
use Rattle.std.proofs.Common.{◌≡◌, refl, sym, ap, ◌∙◌, ℕ, false, List, [], ◌∷◌, ◌++◌, append_assoc, append-nil}
use Rattle.std.proofs.lemmas.Bool.{true≢false}
use Rattle.machine.specs.place_names.declared.selector.Sel.{Sel}
use Rattle.machine.specs.place_names.declared.selector.Sel.TheVariants.{Field, Elem, Deref}
use Rattle.machine.specs.place_names.Names.{has_elem}
use Rattle.machine.specs.flow_paths.Objects.{Typing}
use Rattle.machine.specs.Memory.{Memory}
use Rattle.machine.specs.States.{Waiting}
use Rattle.soundness.specs.OwnedWays.Ways.{Step, OfVariable, OfHand, Loc, OfRoot, OfCell, Inside, Way, View, along, Told, Named, sels_of, sel_of, Reaches}
use Rattle.soundness.specs.PartOffsets.Parts.{sels_along}
use Rattle.soundness.specs.Seen.{content, trunk, steps_in, word_in}
use Rattle.soundness.specs.ExactFacts.Exact.{IsOfVariable}
use Rattle.soundness.proofs.ExactFacts.Steps.{IsPlaced, keeps_placed, variable_begins, told_on, reached_before}

-- ---- names of parts

pub sels_part : (w : Way) (p : List Step) → sels_of (along w p) ≡ sels_of w ++ sels_along p
sels_part w [] = sym (append-nil (sels_of w))
sels_part w (i ∷ p) = ap (λ z. z ++ (sel_of i ∷ [])) (sels_part w p) ∙ append_assoc (sels_of w) (sels_along p) (sel_of i ∷ [])

pub named_part : (at_home : ℕ → ℕ) (w : Way) (p : List Step) → Named at_home w → Named at_home (along w p)
named_part at_home w [] n = n
named_part at_home w (i ∷ p) n = named_part at_home w p n

pub end_plain : (a q : List Sel) → has_elem (a ++ q) ≡ false → has_elem q ≡ false
end_plain [] q e = e
end_plain (Field i ∷ a) q e = end_plain a q e
end_plain (Elem ∷ a) q e = absurd (true≢false e)
end_plain (Deref ∷ a) q e = end_plain a q e

-- ---- what is in hand has no name

module _ (s : Typing) where
  placed_content : (m : Memory) (a b : List Waiting) (l : Loc) → IsPlaced l → content s m a (trunk l) ≡ content s m b (trunk l)
  placed_content m a b (OfRoot (OfVariable f x)) p = refl
  placed_content m a b (OfRoot (OfHand h)) p = absurd p
  placed_content m a b (OfCell n) p = refl
  placed_content m a b (Inside l i) p = placed_content m a b l p

  -- A view has the words of a memory.
  abbrev pub Shows : View → Memory → List Waiting → Type 0
  Shows v m hands = (l : Loc) → v.word l ≡ word_in s.table (content s m hands (trunk l)) (steps_in l)

  -- ways lead where they lead with other values in hand
  pub same_reach : (u v : View) (m : Memory) (a b : List Waiting) → Shows u m a → Shows v m b → (w : Way) (l : Loc) → IsOfVariable w → Reaches u w l → Reaches v w l
  same_reach u v m a b from to w l is reach =
      (reached_before v u IsPlaced (keeps_placed v u (λ l n p h. same l p ∙ h)) w l (variable_begins IsPlaced (λ f x. tt) w is) reach).1
    where
      same : (l : Loc) → IsPlaced l → v.word l ≡ u.word l
      same l p = to l ∙ ap (λ c. word_in s.table c (steps_in l)) (sym (placed_content m a b l p)) ∙ sym (from l)

  pub same_told : (u v : View) (m : Memory) (a b : List Waiting) (moved : Way → Type 0) → ((w : Way) → moved w → IsOfVariable w) → Shows u m a → Shows v m b
      → Told u moved → Told v moved
  same_told u v m a b moved begins from to told =
      told_on u v IsPlaced moved (λ w is. variable_begins IsPlaced (λ f x. tt) w (begins w is)) (keeps_placed u v (λ l n p h. same l p ∙ h)) (λ l p gone. sym (same l p) ∙ gone) told
    where
      same : (l : Loc) → IsPlaced l → u.word l ≡ v.word l
      same l p = from l ∙ ap (λ c. word_in s.table c (steps_in l)) (placed_content m a b l p) ∙ sym (to l)
