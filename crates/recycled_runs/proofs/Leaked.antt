-- What stands at a variable or a cell that owns names cells that are there.
use Rattle.std.proofs.Common.{◌≡◌, refl, sym, ap, ◌∙◌, subst, inl, inr, ℕ, zero, suc, ◌<◌, true, false, List, [], ◌∷◌, append-nil, length, get_or, slice_get, Some, ℤ, pos, negsuc, if◌then◌else◌}
use Rattle.std.proofs.lemmas.List.{length-map}
use Rattle.std.proofs.lemmas.Bool.{false≢true}
use Rattle.std.specs.Prelude.{is_some}
use Rattle.machine.specs.spark_base.Lists.{Has}
use Rattle.machine.specs.type_definitions.Types.{Table}
use Rattle.machine.specs.flow_paths.Objects.{Typing}
use Rattle.machine.specs.flow_paths.Laid.{FlowProgram, flow_typing}
use Rattle.soundness.specs.PartOffsets.Parts.{IsSettled}
use Rattle.soundness.proofs.PartOffsets.Leaves.{leaf_from}
use Rattle.soundness.specs.OwnedWays.Ways.{Held, Loc, Step, OfRoot, Owned}
use Rattle.soundness.specs.OwnedWays.Ways as ways
use Rattle.soundness.specs.Seen.{Content, content, word_in, owner_word, owner_at}
use Rattle.soundness.specs.Typed.{loc_of}
use Rattle.soundness.specs.Sound.{view_of}
use Rattle.machine.specs.Owners.{waiting_in}
use Rattle.soundness.proofs.Contents.{word_yes, word_part}
use Rattle.machine.specs.Words.{Cell, access_offsets}
use Rattle.machine.specs.Typed.{Sort, Pointer, sorts}
use Rattle.machine.specs.Memory.{Slot, HeapCell, Base, OfVariable, OfCell, slots_at, no_slot, cell}
use Rattle.machine.specs.States as machine
use Rattle.recycled_runs.specs.ViewedFacts.NullPlaces.Cleared.{cleared_slot}
use Rattle.recycled_runs.specs.ViewedFacts.NullPlaces.Agrees.{AgreeSlot, AgreeSlots, SameState}
use Rattle.recycled_runs.proofs.ViewedFacts.NullPlaces.Memories.{cell_agree, slots_agree}
use Rattle.run_codes.specs.Points.{State}
use Rattle.run_codes.specs.Related.{types, SlotStands, AllStand, IsTable}
use Rattle.run_points.specs.States.{StateStands}
use Rattle.handled_runs.specs.Leaks.{IsLeaked, AreLeaked}

-- ---- one word

record Names (made : List ℕ) (x : Slot) (n : ℕ) : Type 0 where
  pub word : x.word ≡ Cell (suc n)
  pub whole : x.gone ≡ false
  pub within : n < length made

word_names : (table : Table) (made : List ℕ) (all : List Sort) (xs : List Slot) (zs : List ℤ) (o d n : ℕ) → AllStand table made all xs zs → slice_get all o ≡ Some (Pointer d) → get_or zs o (pos 0) ≡ pos (suc n)
    → Names made (get_or xs o no_slot) n
word_names table made [] xs zs o d n stand is at = absurd (false≢true (ap is_some is))
word_names table made (s ∷ all) [] zs o d n stand is at = absurd stand
word_names table made (s ∷ all) (x ∷ xs) [] o d n stand is at = absurd stand
word_names table made (s ∷ all) (x ∷ xs) (z ∷ zs) zero d n stand is at =
    let sort : s ≡ Pointer d = cc in
    let one = subst (λ z. SlotStands table made (Pointer d) x z) at (subst (λ s. SlotStands table made s x z) sort stand.0) in
    record { word = one.0.0; whole = one.1; within = one.0.1.within }
word_names table made (s ∷ all) (x ∷ xs) (z ∷ zs) (suc o) d n stand is at = word_names table made all xs zs o d n stand.1 is at

same_slot : (x y : Slot) (n : ℕ) → AgreeSlot x y → y.word ≡ Cell n → y.gone ≡ false → x ≡ y
same_slot x y n (inl same) word whole = same
same_slot x y n (inr both) word whole = absurd (no (sym word ∙ ap (λ (z : Slot). z.word) (kept ∙ both.1)))
  where
    kept : y ≡ cleared_slot y
    kept = ap (λ b. if b then no_slot else y) (sym whole)

    no : Cell n ≡ no_slot.word → ⊥
    no e = cc

same_at : (xs ys : List Slot) (o n : ℕ) → AgreeSlots xs ys → (get_or ys o no_slot).word ≡ Cell n → (get_or ys o no_slot).gone ≡ false → get_or xs o no_slot ≡ get_or ys o no_slot
same_at [] [] o n agree word whole = refl
same_at [] (y ∷ ys) o n agree word whole = absurd agree
same_at (x ∷ xs) [] o n agree word whole = absurd agree
same_at (x ∷ xs) (y ∷ ys) zero n agree word whole = same_slot x y n agree.0 word whole
same_at (x ∷ xs) (y ∷ ys) (suc o) n agree word whole = same_at xs ys o n agree.1 word whole

-- ---- what owns

module _ (program : FlowProgram) (laws : IsTable (flow_typing program).table) (settled : IsSettled (flow_typing program).table) where
  abbrev typed : Typing
  typed = flow_typing program

  abbrev table : Table
  table = typed.table

  module _ (s t : machine.State) (g : State) (owned : Owned (view_of typed s)) (same : SameState s t) (stands : StateStands program t g) where
    abbrev at : Loc → Content
    at l = content typed s.memory (waiting_in s) l

    -- Each number that stands where something owns is that of a cell that isn't freed.
    number_live : (l : Loc) → ((p : List Step) → (view_of typed s).word (ways.part l p) ≡ word_in table (at l) p) → (o n : ℕ) → (at l).owns ≡ true → Has (access_offsets table (at l).of) o
        → (get_or (at l).slots o no_slot).word ≡ Cell n → (get_or (at l).slots o no_slot).gone ≡ false → (cell s.memory n).freed ≡ false
    number_live l words o n owns has word whole =
        let leaf = leaf_from table settled (at l).of o has in
        let named : owner_word (get_or (at l).slots o no_slot) ≡ Held n = (λ j. owner_at (word j) (whole j)) in
        owned.live (ways.part l leaf.0) n (words leaf.0 ∙ (word_yes table (at l) leaf.0 owns leaf.1 ∙ (ap (λ i. owner_word (get_or (at l).slots i no_slot)) leaf.2 ∙ named)))

    base_words : (b : Base) (p : List Step) → (view_of typed s).word (ways.part (loc_of b) p) ≡ word_in table (at (loc_of b)) p
    base_words (OfVariable f x) p = word_part table at (OfRoot (ways.OfVariable f x)) p ∙ ap (word_in table (at (OfRoot (ways.OfVariable f x)))) (append-nil p)
    base_words (OfCell n) p = word_part table at (ways.OfCell n) p ∙ ap (word_in table (at (ways.OfCell n))) (append-nil p)

    base_slots : (b : Base) → (at (loc_of b)).slots ≡ slots_at typed s.memory b
    base_slots (OfVariable f x) = refl
    base_slots (OfCell n) = refl

    module _ (b : Base) (owns : (at (loc_of b)).owns ≡ true) (zs : List ℤ) (stand : AllStand table (types t.memory) (sorts table (at (loc_of b)).of) (slots_at typed t.memory b) zs) where
      abbrev of : ℕ
      of = (at (loc_of b)).of

      one_leaked : (o : ℕ) (z : ℤ) → Has (access_offsets table of) o → get_or zs o (pos 0) ≡ z → IsLeaked g.memory.cells z
      one_leaked o (pos zero) has is = tt
      one_leaked o (negsuc n) has is = tt
      one_leaked o (pos (suc n)) has is =
          let access = laws.accesses of o has in
          let names = word_names table (types t.memory) (sorts table of) (slots_at typed t.memory b) zs o access.0 n stand access.1 is in
          let slot = ap (λ xs. get_or xs o no_slot) (base_slots b) ∙ same_at (slots_at typed s.memory b) (slots_at typed t.memory b) o (suc n) (slots_agree typed s.memory t.memory same.1 b) names.word names.whole in
          let live = number_live (loc_of b) (base_words b) o (suc n) owns has (ap (λ (x : Slot). x.word) slot ∙ names.word) (ap (λ (x : Slot). x.gone) slot ∙ names.whole) in
          let kept : (cell t.memory (suc n)).freed ≡ false = sym (cell_agree s.memory t.memory same.1 (suc n)).1 ∙ live in
          let have = stands.memory.related.cells n (subst (λ k. n < k) (length-map t.memory.cells (λ (c : HeapCell). c.of)) names.within) in
          (have.0.words, have.1 ∙ ap (λ b. Some (record { words = have.0.words; freed = b })) (sym have.2.freed ∙ kept))

      -- What leak checks of its words tell of is there.
      pub owned_leaked : (offsets : List ℕ) → ((o : ℕ) → Has offsets o → Has (access_offsets table of) o) → AreLeaked g.memory.cells zs offsets
      owned_leaked [] in_type = tt
      owned_leaked (o ∷ offsets) in_type = (one_leaked o (get_or zs o (pos 0)) (in_type o (inl refl)) refl, owned_leaked offsets (λ i has. in_type i (inr has)))
