-- Facts without an element stay exact in the steps of a memory, where names may be rooted in views.
use Rattle.std.proofs.Common.{◌≡◌, refl, sym, ap, ◌∙◌, inl, inr, ℕ, suc, Bool, true, false, not, List, [], ◌∷◌, ◌++◌, length, get_or, arith, Some}
use Rattle.std.proofs.lemmas.Bool.{false≢true}
use Rattle.machine.specs.spark_base.Lists.{Has}
use Rattle.soundness.proofs.Lists.{Has-map_from}
use Rattle.machine.specs.spark_base.declared.position.Pos.{Pos}
use Rattle.machine.specs.place_names.declared.act.Act.TheVariants.{Move, Write, EndScope}
use Rattle.machine.specs.place_names.declared.rule.Loan.TheVariants.{Borrowed}
use Rattle.machine.specs.place_names.declared.fact.Fact.{Fact}
use Rattle.machine.specs.place_names.declared.fact.Fact.TheVariants.{Moved}
use Rattle.machine.specs.place_names.Names.{Name, extend, has_elem}
use Rattle.machine.specs.place_names.Facts.{adds, effect}
use Rattle.machine.specs.type_definitions.Types.{words, parts}
use Rattle.machine.specs.flow_paths.Objects.{Typing, object_at}
use Rattle.machine.specs.Words.{access_offsets}
use Rattle.machine.specs.Words as machine
use Rattle.machine.specs.Memory.{Memory, HeapCell, Place, cell, no_slot, words_of, stored, moved_out, declared, undeclared, with_new_cell}
use Rattle.machine.specs.Calls.{checked_at}
use Rattle.machine.specs.States.{Waiting, Leak}
use Rattle.soundness.specs.OwnedWays.Ways.{OfVariable, OfHand, Loc, OfRoot, OfCell, Inside, Way, Object, Gone, Held, View, Step, Reaches, part, along, Told, Owned, Named, Spares, Allows, Under, sels_of, name_of, number_of}
use Rattle.soundness.proofs.OwnedWays.Locations.{under_along, under_itself, named_along, reaches_along}
use Rattle.soundness.proofs.OwnedWays.Named.{same_way}
use Rattle.soundness.proofs.OwnedWays.Assigned.{given_apart}
use Rattle.soundness.specs.PartOffsets.Parts.{type_in, offset_in, is_leaf, IsSettled}
use Rattle.soundness.specs.Seen.{Content, content, trunk, steps_in, word_in, owner_at, owner_word, seen_of, seen, is_view_formal}
use Rattle.soundness.specs.Changes.{Alike, hand, Checks, Takes}
use Rattle.soundness.specs.Typed.{Matches, Kept, Spot}
use Rattle.soundness.proofs.Joined.{leaf_join}
use Rattle.soundness.proofs.Contents.{bool_cases, word_yes, word_part, stored_step, taken_step, checks_made}
use Rattle.soundness.proofs.Steps.{alike, stores, takes}
use Rattle.soundness.proofs.Ends.{declares, drops, new_other}
use Rattle.soundness.proofs.Moments.{number_part}
use Rattle.soundness.specs.OwnedLoans.Views.{Around, Views, expand, ExcusedBy, Viewed}
use Rattle.soundness.proofs.OwnedLoans.Others.{clean_away}
use Rattle.machine.specs.place_names.declared.rule.Loan.{Loan}
use Rattle.soundness.proofs.OwnedLoans.Allowed.{move_unlent, move_unmoved}
use Rattle.soundness.specs.ExactFacts.Exact.{IsOfVariable}
use Rattle.soundness.proofs.ExactFacts.Steps.{variable_rooted, fact_before, Keeps, IsPlaced}
use Rattle.soundness.proofs.ExactFacts.Parts.{plain_leaf}
use Rattle.soundness.proofs.ExactFacts.Memories.{sels_part, named_part, end_plain, Shows, same_told}
use Rattle.recycled_runs.specs.ViewedFacts.Exact.{IsDefinite, IsExact}
use Rattle.recycled_runs.proofs.ViewedFacts.Steps.{no_hand_base, stands_variable, IsOthers, definite_variable, variables_after, told_still, told_put, told_given, told_taken, left_variable, told_ended}
use Rattle.soundness.proofs.Parted.{by_either}

marked : (x : machine.Word) (g : Bool) → g ≡ true → owner_at x g ≡ Gone
marked x true e = refl
marked x false e = absurd (false≢true e)

module _ (s : Typing) (settled : IsSettled s.table) (home : ℕ → ℕ) (observer : ℕ → Bool) (other : Around home) (v : Views) (elsewhere : Way → Type 0)
    (apart : (w : Way) → elsewhere w → IsOthers home other w) where
  abbrev Definite : List Fact → Way → Type 0
  Definite facts w = IsDefinite home v elsewhere facts w

  abbrev Exact : Memory → List Fact → Type 0
  Exact m facts = IsExact s home v elsewhere m facts

  -- ---- memories and what is seen of them

  pub told_seen : (m : Memory) (hands : List Waiting) (leaks : List Leak) (facts : List Fact) → Viewed home observer other v (seen s m hands leaks) facts
      → Exact m facts → Told (seen s m hands leaks) (Definite facts)
  told_seen m hands leaks facts viewed exact =
      same_told s (seen s m [] []) (seen s m hands leaks) m [] hands (Definite facts)
      (definite_variable home observer other v elsewhere apart (seen s m hands leaks) facts viewed) (λ l. refl) (λ l. refl) exact

  -- what is moved after it begins at variables, too
  pub exact_from : (t : View) (m : Memory) (hands : List Waiting) (facts : List Fact) → ((w : Way) → Definite facts w → IsOfVariable w) → Shows s t m hands
      → Told t (Definite facts) → Exact m facts
  exact_from t m hands facts variables shows told = same_told s t (seen s m [] []) m hands [] (Definite facts) variables shows (λ l. refl) told

  whole_variable : (m : Memory) (hands : List Waiting) (leaks : List Leak) (facts : List Fact) → Viewed home observer other v (seen s m hands leaks) facts
      → (u : Way) → Named home u → observer (number_of u) ≡ false → IsOfVariable (expand v u)
  whole_variable m hands leaks facts viewed u named plain =
      stands_variable home observer other v elsewhere apart (seen s m hands leaks) facts viewed u (named, plain)

  -- ---- what a name has is taken, by the act Move

  pub taken_exact : (m : Memory) (rest : List Waiting) (leaks : List Leak) (facts : List Fact) (k : Place) (l : Loc) (u : Way)
      → Viewed home observer other v (seen s m rest leaks) facts → Spares other.gone (expand v u) → Kept s m rest → Spot s m rest k l
      → Named home u → observer (number_of u) ≡ false → Reaches (seen s m rest leaks) (expand v u) l → (content s m rest (trunk l)).owns ≡ true
      → Allows facts (Move (name_of u) (parts s.table k.of))
      → Exact m facts → Exact (moved_out s k m) (effect (Move (name_of u) (parts s.table k.of)) facts)
  taken_exact m rest leaks facts k l u viewed spares kept spot named plain reaches owns allowed exact =
      let x : Waiting = record { of = k.of; words = words_of s m k } in
      let a : Loc → Content = content s m rest in
      let b : Loc → Content = content s (moved_out s k m) (x ∷ rest) in
      let change = takes s settled m rest kept k l spot owns whole in
      let move = taken_step s.table settled a b (length rest) x l (length m.cells) (λ n. (cell m n).freed) leaks change in
      let after_it : View = seen_of s.table b (length m.cells) (λ n. (cell m n).freed) leaks in
      let given = given_apart (seen s m rest leaks) after_it (expand v u) (Object (OfHand (length rest))) l (hand (length rest)) viewed.owned move reaches refl
      (no_hand_base (expand v u) (length rest) (whole_variable m rest leaks facts viewed u named plain)) in
      exact_from after_it (moved_out s k m) (x ∷ rest) (effect (Move (name_of u) (parts s.table k.of)) facts)
      (variables_after home observer other v elsewhere apart (seen s m rest leaks) facts viewed (Move (name_of u) (parts s.table k.of)) moved_plain) (λ z. refl)
      (told_taken home observer other v elsewhere apart (seen s m rest leaks) after_it u (length rest) l (parts s.table k.of) facts viewed named plain given allowed
      (leaf_gone change) (told_seen m rest leaks facts viewed exact))
    where
      moved_plain : (n : Name) → Has (adds (Move (name_of u) (parts s.table k.of))) (Moved n) → observer n.root ≡ false
      moved_plain n new =
          let found = Has-map_from (λ q. Moved (extend (name_of u) q)) (parts s.table k.of) (Moved n) new in
          let called : extend (name_of u) found.0 ≡ n = cc in
          ap observer (sym (ap (λ (z : Name). z.root) called)) ∙ plain

      -- nothing at or below the name is gone
      whole : (p : List Step) → is_leaf s.table (content s m rest (trunk l)).of (p ++ steps_in l) ≡ true
          → (get_or (content s m rest (trunk l)).slots (offset_in s.table (content s m rest (trunk l)).of (p ++ steps_in l)) no_slot).gone ≡ false
      whole p leaf = by_either (bool_cases (get_or (content s m rest (trunk l)).slots (offset_in s.table (content s m rest (trunk l)).of (p ++ steps_in l)) no_slot).gone)
          (λ e. (absurd (clean (viewed.known (along (expand v u) p) (part l p)
          (named_along (expand v u) p (variable_rooted (expand v u) (whole_variable m rest leaks facts viewed u named plain)))
          (reaches_along (seen s m rest leaks) (expand v u) l p reaches)
          (word_part s.table (content s m rest) l p ∙ word_yes s.table (content s m rest (trunk l)) (p ++ steps_in l) owns leaf ∙ marked _ _ e)))))
          (λ e. (e))
        where
          clean : ExcusedBy home v other facts (along (expand v u) p) → ⊥
          clean (inl moved) =
              clean_away home observer other v (seen s m rest leaks) facts viewed u (along (expand v u) p) (named, plain)
              (λ h n. move_unlent facts u (parts s.table k.of) allowed Borrowed h n) (move_unmoved facts u (parts s.table k.of) allowed)
              (under_along (expand v u) (expand v u) p (under_itself (expand v u))) moved
          clean (inr o) = spares (along (expand v u) p) (under_along (expand v u) (expand v u) p (under_itself (expand v u))) o

      -- a new fact without an element is of a word that is gone now
      leaf_gone : Takes s.table (content s m rest) (content s (moved_out s k m) (record { of = k.of; words = words_of s m k } ∷ rest)) (length rest)
          (record { of = k.of; words = words_of s m k }) l
          → (z : Way) → Named home z → has_elem (sels_of z) ≡ false → Has (adds (Move (name_of u) (parts s.table k.of))) (Moved (name_of z))
          → (p : List Step) × (z ≡ along u p)
          × (word_in s.table (content s (moved_out s k m) (record { of = k.of; words = words_of s m k } ∷ rest) (trunk (part l p))) (steps_in (part l p)) ≡ Gone)
      leaf_gone change z z_named z_plain new =
          let b : Loc → Content = content s (moved_out s k m) (record { of = k.of; words = words_of s m k } ∷ rest) in
          let found = Has-map_from (λ q. Moved (extend (name_of u) q)) (parts s.table k.of) (Moved (name_of z)) new in
          let called : extend (name_of u) found.0 ≡ name_of z = cc in
          let sels : sels_of u ++ found.0 ≡ sels_of z = ap (λ (n : Name). n.sels) called in
          let leaf = plain_leaf s.table settled k.of [] found.0 refl (end_plain (sels_of u) found.0 (ap has_elem sels ∙ z_plain)) found.1 in
          let same : z ≡ along u leaf.path = same_way home z (along u leaf.path) z_named (named_part home u leaf.path named)
          (sym (ap (λ (n : Name). n.root) called) ∙ sym (number_part u leaf.path))
          (sym sels ∙ ap (λ q. sels_of u ++ q) (sym leaf.sels) ∙ sym (sels_part u leaf.path)) z_plain in
          let like = alike s.table settled k.of (type_in s.table (content s m rest (trunk l)).of (steps_in l)) spot.of in
          let there : is_leaf s.table (content s m rest (trunk l)).of (leaf.path ++ steps_in l) ≡ true =
          leaf_join s.table (content s m rest (trunk l)).of (steps_in l) leaf.path change.there ∙ sym (like.leaf leaf.path) ∙ leaf.leaf in (
            leaf.path,
            same,
            word_part s.table b l leaf.path
                ∙ word_yes s.table (b (trunk l)) (leaf.path ++ steps_in l) (change.owns ∙ change.live) (ap (λ t. is_leaf s.table t (leaf.path ++ steps_in l)) change.of ∙ there)
                ∙ ap (λ t. owner_word (get_or (b (trunk l)).slots (offset_in s.table t (leaf.path ++ steps_in l)) no_slot)) change.of
                ∙ marked _ _ (change.goes leaf.path there),
          )

  -- ---- a value is stored, after its leak checks

  pub stored_exact : (m : Memory) (x : Waiting) (rest : List Waiting) (leaks : List Leak) (facts : List Fact) (k : Place) (l : Loc) (u : Way) (pos : Pos)
      → Viewed home observer other v (seen s m (x ∷ rest) leaks) facts → Kept s m (x ∷ rest) → Spot s m (x ∷ rest) k l
      → Named home u → observer (number_of u) ≡ false → Reaches (seen s m (x ∷ rest) leaks) (expand v u) l → (content s m (x ∷ rest) (trunk l)).owns ≡ true
      → Allows facts (Write (name_of u)) → length x.words ≡ words s.table k.of → Matches s.table x.of k.of
      → Exact m facts → Exact (stored s k x.words m) (effect (Write (name_of u)) facts)
  stored_exact m x rest leaks facts k l u pos viewed kept spot named plain reaches owns allowed long fits exact =
      let a : Loc → Content = content s m (x ∷ rest) in
      let b : Loc → Content = content s (stored s k x.words m) rest in
      let change = stores s settled m x rest kept k l spot long fits owns in
      let checks = checks_made s.table settled (a (trunk l)) (steps_in l) k.of pos leaks spot.there owns
      (alike s.table settled k.of (type_in s.table (a (trunk l)).of (steps_in l)) spot.of) in
      let more : List Leak = leaks ++ checked_at pos (offset_in s.table (a (trunk l)).of (steps_in l)) (a (trunk l)).slots (access_offsets s.table k.of) in
      let after_it : View = seen_of s.table b (length m.cells) (λ n. (cell m n).freed) more in
      let move = stored_step s.table settled a b (length rest) x l (length m.cells) (λ n. (cell m n).freed) leaks more change checks in
      let given = given_apart (seen s m (x ∷ rest) leaks) after_it (Object (OfHand (length rest))) (expand v u) (hand (length rest)) l viewed.owned move refl reaches
      (λ e. no_hand_base (expand v u) (length rest) (whole_variable m (x ∷ rest) leaks facts viewed u named plain) (sym e)) in
      exact_from after_it (stored s k x.words m) rest (effect (Write (name_of u)) facts)
      (variables_after home observer other v elsewhere apart (seen s m (x ∷ rest) leaks) facts viewed (Write (name_of u)) (λ n none. absurd none)) (λ z. refl)
      (told_put home observer other v elsewhere apart (seen s m (x ∷ rest) leaks) after_it (length rest) u l facts viewed named plain given allowed
      (told_seen m (x ∷ rest) leaks facts viewed exact))

  -- ---- a variable is declared of which no fact speaks

  pub declared_exact : (m : Memory) (x : Waiting) (rest : List Waiting) (leaks : List Leak) (facts : List Fact) (f y : ℕ) (pos : Pos)
      → Viewed home observer other v (seen s m (x ∷ rest) leaks) facts → Kept s m (x ∷ rest)
      → is_view_formal s y ≡ false → length x.words ≡ words s.table (object_at s y).of → Alike s.table x.of (object_at s y).of
      → ((w : Way) → Definite facts w → Under (Object (OfVariable f y)) w → ⊥)
      → Exact m facts → Exact (declared f y x.words m) facts
  declared_exact m x rest leaks facts f y pos viewed kept own long like none exact =
      let a : Loc → Content = content s m (x ∷ rest) in
      let b : Loc → Content = content s (declared f y x.words m) rest in
      let change = declares s m f y x rest kept long like own in
      let checks = checks_made s.table settled (a (OfRoot (OfVariable f y))) [] (object_at s y).of pos leaks refl (ap not own)
      (record { leaf = λ p. refl; at = λ p e. refl }) in
      let more : List Leak = leaks ++ checked_at pos (offset_in s.table (a (OfRoot (OfVariable f y))).of []) (a (OfRoot (OfVariable f y))).slots
      (access_offsets s.table (object_at s y).of) in
      let after_it : View = seen_of s.table b (length m.cells) (λ n. (cell m n).freed) more in
      let move = stored_step s.table settled a b (length rest) x (OfRoot (OfVariable f y)) (length m.cells) (λ n. (cell m n).freed) leaks more change checks in
      let given = given_apart (seen s m (x ∷ rest) leaks) after_it (Object (OfHand (length rest))) (Object (OfVariable f y)) (hand (length rest))
      (OfRoot (OfVariable f y)) viewed.owned move refl refl (λ e. cc) in
      exact_from after_it (declared f y x.words m) rest facts
      (definite_variable home observer other v elsewhere apart (seen s m (x ∷ rest) leaks) facts viewed) (λ z. refl)
      (told_given home observer other v elsewhere apart (seen s m (x ∷ rest) leaks) after_it (length rest) (Object (OfVariable f y)) (OfRoot (OfVariable f y)) facts
      viewed given none (told_seen m (x ∷ rest) leaks facts viewed exact))

  -- ---- the scope of an object ends, where none of the views that are left begins

  pub ended_exact : (m : Memory) (rest : List Waiting) (leaks leaks' : List Leak) (facts : List Fact) (left : Views) (x : ℕ) (borrower : Bool)
      → Viewed home observer other v (seen s m rest leaks) facts → ((l : Loan) (n : Name) → other.lent l n → n.root ≡ x → ⊥)
      → Checks s.table (content s m rest (OfRoot (OfVariable (home x) x))) [] leaks leaks' → ((y : ℕ) (p : List Step) (w : Way) → left.part_way y p ≡ Some w → observer y ≡ true)
      → ((y : ℕ) (w : Way) → left.way y ≡ Some w → (v.way y ≡ Some w) × (Named home w → number_of w ≡ x → ⊥))
      → ((y : ℕ) (w : Way) (n : ℕ) → v.way y ≡ Some w → (seen s m rest leaks).word (OfRoot (OfVariable (home y) y)) ≡ Held n → ⊥)
      → Exact m facts → IsExact s home left elsewhere (undeclared (home x) x m) (effect (EndScope x borrower) facts)
  ended_exact m rest leaks leaks' facts left x borrower viewed unlent checks same_parts was empty exact =
      same_told s (seen s (undeclared (home x) x m) rest leaks') (seen s (undeclared (home x) x m) [] []) (undeclared (home x) x m) rest []
      (IsDefinite home left elsewhere (effect (EndScope x borrower) facts)) variables (λ z. refl) (λ l. refl)
      (told_ended home observer other v elsewhere apart (seen s m rest leaks) (seen s (undeclared (home x) x m) rest leaks') left x borrower facts viewed unlent
      (drops s m (home x) x rest leaks leaks' checks) same_parts was empty (told_seen m rest leaks facts viewed exact))
    where
      variables : (w : Way) → IsDefinite home left elsewhere (effect (EndScope x borrower) facts) w → IsOfVariable w
      variables w (inr e) = e.0
      variables w (inl d) = elim (fact_before (EndScope x borrower) facts (Moved (name_of d.0)) d.1.1) [
        | inr none ↦ absurd none
        | inl old ↦ left_variable home observer other v elsewhere apart (seen s m rest leaks) left facts viewed same_parts (λ y k has. (was y k has).0) w
            (inl (d.0, (d.1.0, old.0), d.2, d.3))
      ]

  -- ---- a cell is made

  module _ (m : Memory) (hands : List Waiting) (leaks : List Leak) (t : ℕ) (ws : List machine.Word) where
    -- what isn't in the new cell
    abbrev IsOld : Loc → Type 0
    IsOld l = IsPlaced l × (trunk l ≡ OfCell (suc (length m.cells)) → ⊥)

    same_content : (l : Loc) → IsPlaced l → (trunk l ≡ OfCell (suc (length m.cells)) → ⊥)
        → content s (with_new_cell t ws m) hands (trunk l) ≡ content s m hands (trunk l)
    same_content (OfRoot (OfVariable f x)) p off = refl
    same_content (OfRoot (OfHand h)) p off = absurd p
    same_content (OfCell n) p off =
        ap (λ (c : HeapCell). record { of = c.of; slots = c.slots; owns = not c.freed }) (new_other s m t ws n (λ e. off (ap OfCell e)))
    same_content (Inside l i) p off = same_content l p off

    same_word : (l : Loc) → IsPlaced l → (trunk l ≡ OfCell (suc (length m.cells)) → ⊥)
        → (seen s (with_new_cell t ws m) hands leaks).word l ≡ (seen s m hands leaks).word l
    same_word l p off = ap (λ c. word_in s.table c (steps_in l)) (same_content l p off)

    keeps_old : Owned (seen s m hands leaks) → Keeps (seen s m hands leaks) (seen s (with_new_cell t ws m) hands leaks) IsOld
    keeps_old owned = record {
      inside = λ l i there. there;
      cell = λ l n there held. (
        tt,
        λ e. (let less = owned.within l n held in let is : n ≡ suc (length m.cells) = cc in absurd (omega (arith, less, is))),
      );
      held = λ l n there held. sym (same_word l there.0 there.1) ∙ held;
    }

    pub made_exact : (facts : List Fact) → Viewed home observer other v (seen s m hands leaks) facts → Exact m facts → Exact (with_new_cell t ws m) facts
    made_exact facts viewed exact =
        exact_from (seen s (with_new_cell t ws m) hands leaks) (with_new_cell t ws m) hands facts
        (definite_variable home observer other v elsewhere apart (seen s m hands leaks) facts viewed) (λ l. refl)
        (told_still home observer other v elsewhere apart (seen s m hands leaks) (seen s (with_new_cell t ws m) hands leaks) IsOld facts viewed (λ f x. (tt, λ e. cc))
        (keeps_old viewed.owned)
        (λ l there gone. same_word l there.0 there.1 ∙ gone) (told_seen m hands leaks facts viewed exact))
