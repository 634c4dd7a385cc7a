-- A value of an anonymous access type that waits. Owners don't see it.
use Rattle.std.proofs.Common.{◌≡◌, refl, sym, ap, ◌∙◌, ℕ, Bool, true, List, [], ◌∷◌, get_or}
use Rattle.machine.specs.place_names.declared.fact.Fact.{Fact}
use Rattle.machine.specs.type_definitions.declared.table.Shape.TheVariants as shape
use Rattle.machine.specs.type_definitions.Types.{shape_of, full}
use Rattle.machine.specs.flow_paths.Objects.{Typing, is_anonymous}
use Rattle.machine.specs.Words as machine
use Rattle.machine.specs.Memory.{Memory, fresh, no_slot}
use Rattle.machine.specs.States.{Waiting, Leak}
use Rattle.soundness.specs.OwnedWays.Ways.{Loc, Way, Object, Lost, Into, All, View, Reaches, IsSame}
use Rattle.soundness.specs.PartOffsets.Parts.{type_in, offset_in, IsSettled}
use Rattle.soundness.specs.Seen.{in_hand, seen}
use Rattle.soundness.specs.Typed.{IsCell, Points, Kept}
use Rattle.soundness.proofs.Contents.{word_no}
use Rattle.soundness.proofs.Keeping.{kept_with, top_points}
use Rattle.soundness.proofs.Steps.{plain_end}
use Rattle.soundness.proofs.Evaluated.{blank_hand}
use Rattle.soundness.specs.OwnedLoans.Views.{Around, Views, Viewed}
use Rattle.soundness.proofs.OwnedLoans.Moves.{same_viewed}
use Rattle.soundness.proofs.ViewedSoundness.ViewKinds.{view_access}
use Rattle.soundness.proofs.ViewedSoundness.Viewing.{view_leaf}
use Rattle.viewed_steps.proofs.Eased.{same_back}

-- what ways reach goes by what owners see
reaches_same : (a b : View) → IsSame a b → (w : Way) (l : Loc) → Reaches a w l → Reaches b w l
reaches_same a b same (Object r) l is = is
reaches_same a b same (Lost n) l is = (same.leaked n ∙ is.0, is.1)
reaches_same a b same (Into w i) l (m, there, is) = (m, reaches_same a b same w m there, is)
reaches_same a b same (All w) l (m, n, there, held, is) = (m, n, reaches_same a b same w m there, same.word m ∙ held, is)

module _ (s : Typing) (settled : IsSettled s.table) (m : Memory) (v : Waiting) (rest : List Waiting) (view : is_anonymous (full s.table v.of) ≡ true) where
  unseen : (leaks : List Leak) → IsSame (seen s m rest leaks) (seen s m (v ∷ rest) leaks)
  unseen leaks = blank_hand s m leaks v rest (λ p. word_no s.table (in_hand v) p (view_leaf s.table settled v.of view p))

  pub reached_without : (leaks : List Leak) (w : Way) (l : Loc) → Reaches (seen s m (v ∷ rest) leaks) w l → Reaches (seen s m rest leaks) w l
  reached_without leaks =
      reaches_same (seen s m (v ∷ rest) leaks) (seen s m rest leaks) (same_back (seen s m rest leaks) (seen s m (v ∷ rest) leaks) (unseen leaks))

  pub reached_with : (leaks : List Leak) (w : Way) (l : Loc) → Reaches (seen s m rest leaks) w l → Reaches (seen s m (v ∷ rest) leaks) w l
  reached_with leaks = reaches_same (seen s m rest leaks) (seen s m (v ∷ rest) leaks) (unseen leaks)

  module _ (at_home : ℕ → ℕ) (observer : ℕ → Bool) (other : Around at_home) (views : Views) (leaks : List Leak) (facts : List Fact) where
    pub with_view : Viewed at_home observer other views (seen s m rest leaks) facts → Viewed at_home observer other views (seen s m (v ∷ rest) leaks) facts
    with_view = same_viewed at_home observer other views (seen s m rest leaks) (seen s m (v ∷ rest) leaks) facts (unseen leaks)

    pub without_view : Viewed at_home observer other views (seen s m (v ∷ rest) leaks) facts → Viewed at_home observer other views (seen s m rest leaks) facts
    without_view =
        same_viewed at_home observer other views (seen s m (v ∷ rest) leaks) (seen s m rest leaks) facts
        (same_back (seen s m rest leaks) (seen s m (v ∷ rest) leaks) (unseen leaks))

  -- it designates a cell of its type
  module _ (z : machine.Word) (word : v.words ≡ z ∷ []) where
    pub kept_with_view : ((d : ℕ) (c n : Bool) (k : ℕ) → shape_of s.table v.of ≡ shape.Access d c n → z ≡ machine.Cell k → IsCell s m d k) → Kept s m rest → Kept s m (v ∷ rest)
    kept_with_view typed kept = kept_with s settled m v rest points kept
      where
        points : Points s m (in_hand v)
        points p d c n k there is e =
            let plain = view_access (shape_of s.table v.of) view in
            let none = plain_end s.table settled v.of plain.0 plain.1 p there in
            typed d c n k (ap (λ q. shape_of s.table (type_in s.table v.of q)) (sym none) ∙ is)
            (ap (λ (ws : List machine.Word). (get_or (fresh ws) 0 no_slot).word) (sym word)
            ∙ ap (λ q. (get_or (fresh v.words) (offset_in s.table v.of q) no_slot).word) (sym none) ∙ e)

    pub view_typed : Kept s m (v ∷ rest) → (d : ℕ) (c n : Bool) (k : ℕ) → shape_of s.table v.of ≡ shape.Access d c n → z ≡ machine.Cell k → IsCell s m d k
    view_typed kept d c n k is e =
        top_points s settled m v rest kept.points [] d c n k refl is (ap (λ (ws : List machine.Word). (get_or (fresh ws) 0 no_slot).word) word ∙ e)
