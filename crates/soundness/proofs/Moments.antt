-- A declaration keeps the state sound.
use Rattle.std.proofs.Common.{◌≡◌, refl, sym, ◌∙◌, inl, ℕ, false, List, [], ◌∷◌, ◌++◌, length, ap}
use Rattle.std.proofs.lemmas.Bool.{false≢true}
use Rattle.machine.specs.place_names.declared.fact.Fact.{Fact}
use Rattle.machine.specs.type_definitions.Types.{words}
use Rattle.machine.specs.flow_paths.Objects.{Typing, object_at}
use Rattle.machine.specs.Memory.{Memory, cell, declared}
use Rattle.machine.specs.States.{Waiting, Leak}
use Rattle.soundness.specs.OwnedWays.Ways.{Step, OfVariable, OfHand, Loc, OfRoot, Way, Object, Empty, Held, along, Spares, Sound, number_of}
use Rattle.soundness.proofs.OwnedWays.Assigned.{handed}
use Rattle.soundness.specs.PartOffsets.Parts.{IsSettled}
use Rattle.soundness.specs.Seen.{Content, content, word_in, seen, is_view_formal}
use Rattle.soundness.specs.Changes.{Alike, hand, Checks}
use Rattle.soundness.specs.Typed.{Kept}
use Rattle.soundness.proofs.Contents.{stored_step, stored_whole}
use Rattle.soundness.proofs.Ends.{declares}
use Rattle.soundness.proofs.Constructors.{is_held_word}
use Rattle.soundness.proofs.Parted.{hand_variable}

-- ---- names of parts

pub number_part : (w : Way) (p : List Step) → number_of (along w p) ≡ number_of w
number_part w [] = refl
number_part w (i ∷ p) = number_part w p

module _ (s : Typing) (settled : IsSettled s.table) (at_home : ℕ → ℕ) (other : Way → Type 0) where
  -- nothing else concerns a hand
  abbrev pub Hands : Type 0
  Hands = (h : ℕ) → Spares other (Object (OfHand h))

  -- ---- a variable is declared

  pub declared_sound : (m : Memory) (v : Waiting) (rest : List Waiting) (leaks : List Leak) (facts : List Fact) (f x : ℕ)
      → Sound at_home other (seen s m (v ∷ rest) leaks) facts → Hands → Kept s m (v ∷ rest)
      → ((p : List Step) → word_in s.table (content s m (v ∷ rest) (OfRoot (OfVariable f x))) p ≡ Empty)
      → is_view_formal s x ≡ false → length v.words ≡ words s.table (object_at s x).of → Alike s.table v.of (object_at s x).of
      → Sound at_home other (seen s (declared f x v.words m) rest leaks) facts
  declared_sound m v rest leaks facts f x sound hands kept blank own long like =
      let a : Loc → Content = content s m (v ∷ rest) in
      let b : Loc → Content = content s (declared f x v.words m) rest in
      let change = declares s m f x v rest kept long like own in
      let checks : Checks s.table (a (OfRoot (OfVariable f x))) [] leaks leaks = record {
        keeps = λ n e. e;
        checks = λ p n e. (let none : Empty ≡ Held n = sym (blank (p ++ [])) ∙ e in absurd (false≢true (ap is_held_word none)));
        only = λ n e. inl e;
      } in
      let move = stored_step s.table settled a b (length rest) v (OfRoot (OfVariable f x)) (length m.cells) (λ n. (cell m n).freed) leaks leaks change checks in
      handed at_home other (seen s m (v ∷ rest) leaks) (seen s (declared f x v.words m) rest leaks) (Object (OfHand (length rest))) (Object (OfVariable f x))
      (hand (length rest)) (OfRoot (OfVariable f x)) facts sound move tt (hands (length rest)) refl refl hand_variable
      (stored_whole s.table settled a b (length rest) v (OfRoot (OfVariable f x)) (length m.cells) (λ n. (cell m n).freed) leaks change)
