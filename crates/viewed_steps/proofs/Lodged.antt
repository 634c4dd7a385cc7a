-- Places in cells: the type of a cell goes by the way that reaches it, so a place stays where it is as
-- long as the way reaches the cell.
use Rattle.std.proofs.Common.{◌≡◌, refl, sym, ap, ◌∙◌, subst, inl, inr, ℕ, Bool, true, false, ◌&&◌, List, ◌∷◌, get_or, append-nil}
use Rattle.std.proofs.lemmas.Bool.{false≢true, true≢false}
use Rattle.machine.specs.type_definitions.declared.table.Shape.{Shape}
use Rattle.machine.specs.type_definitions.declared.table.Shape.TheVariants as shape
use Rattle.machine.specs.type_definitions.Types.{Table, shape_of, view_of, is_scalar}
use Rattle.machine.specs.flow_paths.Objects.{Typing, designated, designated_of}
use Rattle.machine.specs.Words as machine
use Rattle.machine.specs.Memory.{Slot, Memory, Place, cell, no_slot}
use Rattle.machine.specs.Memory as memory
use Rattle.machine.specs.States.{Waiting, Leak}
use Rattle.soundness.specs.OwnedWays.Ways.{Step, OfVariable, OfHand, Loc, OfRoot, OfCell, Inside, Way, Object, Lost, Into, All, Held, Reaches, Owned, part, base_of}
use Rattle.soundness.specs.PartOffsets.Parts.{type_in, offset_in, has_part, owns_one, is_leaf, IsSettled}
use Rattle.soundness.specs.Seen.{Content, content, trunk, steps_in, word_in, seen}
use Rattle.soundness.specs.Typed.{Matches, IsCell, Kept, Spot, IsMade, loc_of}
use Rattle.soundness.proofs.Joined.{trunk_part, steps_part}
use Rattle.soundness.proofs.Contents.{owner_held, Shown, shown}
use Rattle.soundness.proofs.Steps.{same_below, no_leaf, plain_shape, plain_end}
use Rattle.viewed_steps.specs.Taken.{Lodge, last_steps, trunk_type, IsLodged}
use Rattle.viewed_steps.proofs.Constructors.{is_of_cell_loc}
use Rattle.soundness.proofs.Parted.{loc_cells, empty_held, cell_root, cell_inside, hand_variable}

both_parts : (a b : Bool) → a && b ≡ true → (a ≡ true) × (b ≡ true)
both_parts true b e = (refl, e)
both_parts false b e = absurd (false≢true e)

-- a word that owns is an access value
access_of : (h : Shape) → owns_one h ≡ true → (d : ℕ) × (constant : Bool) × (h ≡ shape.Access d constant true)
access_of (shape.Access d constant true) own = (d, constant, refl)
access_of (shape.Access d constant false) own = absurd (false≢true own)
access_of (shape.Whole a b) own = absurd (false≢true own)
access_of h own = absurd (false≢true own)

matches_both : (s : Typing) (t u w : ℕ) → Matches s.table t u → Matches s.table u w → Matches s.table t w
matches_both s t u w (inl e) (inl f) = inl (e ∙ f)
matches_both s t u w (inl e) (inr (a, b)) = inr (ap (λ z. is_scalar (view_of z)) e ∙ a, b)
matches_both s t u w (inr (a, b)) (inl f) = inr (a, ap (λ z. is_scalar (view_of z)) (sym f) ∙ b)
matches_both s t u w (inr (a, b)) (inr (c, d)) = inr (a, d)

matches_flip : (s : Typing) (t u : ℕ) → Matches s.table t u → Matches s.table u t
matches_flip s t u (inl e) = inl (sym e)
matches_flip s t u (inr (a, b)) = inr (b, a)

-- parts of types that match are the same
part_moved : (table : Table) (settled : IsSettled table) (t u : ℕ) (p : List Step) → Matches table t u → has_part table t p ≡ true
    → (has_part table t p ≡ has_part table u p) × (offset_in table t p ≡ offset_in table u p) × Matches table (type_in table t p) (type_in table u p)
part_moved table settled t u p (inl e) there = (let same = same_below table settled t u e p in (same.2, same.1, inl same.0))
part_moved table settled t u p (inr (a, b)) there =
    let plain = plain_shape (shape_of table t) a in
    let none = plain_end table settled t plain.0 plain.1 p there in
    subst (λ z. (has_part table t z ≡ has_part table u z) × (offset_in table t z ≡ offset_in table u z) × Matches table (type_in table t z) (type_in table u z)) (sym none)
    (refl, refl, inr (a, b))

same_cells : (n c : ℕ) → OfCell n ≡ OfCell c → n ≡ c
same_cells n c e = cc

module _ (s : Typing) (settled : IsSettled s.table) (m : Memory) (hands : List Waiting) (leaks : List Leak) (kept : Kept s m hands) where
  -- what a part that owns has the number of is a cell of the type that the part designates
  cell_there : (c : Content) (p : List Step) (n : ℕ) → ((d : ℕ) (constant named : Bool) (k : ℕ) → has_part s.table c.of p ≡ true
      → shape_of s.table (type_in s.table c.of p) ≡ shape.Access d constant named
      → (get_or c.slots (offset_in s.table c.of p) no_slot).word ≡ machine.Cell k → IsCell s m d k)
      → word_in s.table c p ≡ Held n → IsCell s m (designated s.table (type_in s.table c.of p)) n
  cell_there c p n points held =
      let found : Shown s.table c p (Held n) = shown s.table c p (Held n) empty_held held in
      let both = both_parts (has_part s.table c.of p) (owns_one (shape_of s.table (type_in s.table c.of p))) found.leaf in
      let access = access_of (shape_of s.table (type_in s.table c.of p)) both.1 in
      let slot : Slot = get_or c.slots (offset_in s.table c.of p) no_slot in
      subst (λ z. IsCell s m z n) (sym (ap (λ z. designated_of (type_in s.table c.of p) (view_of z)) access.2))
      (points access.0 access.1 true n both.0 access.2 (owner_held slot.word slot.gone n found.slot).0)

  -- the type of what a way leads to, and its steps there
  pub typed_way : (w : Way) (f x : ℕ) → base_of w ≡ OfRoot (OfVariable f x) → (l : Loc) → Reaches (seen s m hands leaks) w l
      → Matches s.table (trunk_type s w) (content s m hands (trunk l)).of × (steps_in l ≡ last_steps w) × ((n : ℕ) → l ≡ OfCell n → IsMade m (memory.OfCell n))
  typed_way (Object (OfVariable g y)) f x base l is =
      (inl (ap (λ z. shape_of s.table (content s m hands (trunk z)).of) (sym is)), ap steps_in is, λ n e. absurd (no_root n (sym is ∙ e)))
    where
      no_root : (n : ℕ) → OfRoot (OfVariable g y) ≡ OfCell n → ⊥
      no_root n e = absurd (false≢true (ap is_of_cell_loc e))
  typed_way (Object (OfHand h)) f x base l is = absurd (hand_variable base)
  typed_way (Lost n) f x base l is = absurd (cell_root base)
  typed_way (Into w i) f x base l (k, reach, is) =
      let there = typed_way w f x base k reach in (
        subst (λ z. Matches s.table (trunk_type s w) (content s m hands (trunk z)).of) (sym is) there.0,
        ap steps_in is ∙ ap (λ z. i ∷ z) there.1,
        λ n e. absurd (no_part n k (sym is ∙ e)),
      )
    where
      no_part : (n : ℕ) (k : Loc) → Inside k i ≡ OfCell n → ⊥
      no_part n k e = absurd (false≢true (ap is_of_cell_loc e))
  typed_way (All w) f x base l (k, n, reach, held, is) =
      let there = typed_way w f x base k reach in
      let found = cell_there (content s m hands (trunk k)) (steps_in k) n (kept.points (trunk k) (steps_in k)) held in
      let leaf : is_leaf s.table (content s m hands (trunk k)).of (steps_in k) ≡ true =
      (shown s.table (content s m hands (trunk k)) (steps_in k) (Held n) empty_held held).leaf in
      let same : shape_of s.table (type_in s.table (trunk_type s w) (last_steps w)) ≡ shape_of s.table (type_in s.table (content s m hands (trunk k)).of (steps_in k)) =
      ap (λ z. shape_of s.table (type_in s.table (trunk_type s w) z)) (sym there.1) ∙ by_type (trunk_type s w) (content s m hands (trunk k)).of (steps_in k) there.0 leaf in (
        subst (λ z. Matches s.table (trunk_type s (All w)) (content s m hands (trunk z)).of) (sym is)
            (subst (λ z. Matches s.table z (cell m n).of) (sym (same_designated same leaf)) found.2),
        ap steps_in is,
        λ c e. subst (λ z. IsMade m (memory.OfCell z)) (same_cells n c (sym is ∙ e)) (found.0, found.1),
      )
    where
      by_type : (t u : ℕ) (p : List Step) → Matches s.table t u → is_leaf s.table u p ≡ true → shape_of s.table (type_in s.table t p) ≡ shape_of s.table (type_in s.table u p)
      by_type t u p (inl e) leaf = (same_below s.table settled t u e p).0
      by_type t u p (inr both) leaf = (let no : true ≡ false = sym leaf ∙ no_leaf s.table settled u both.1 p in absurd (true≢false no))

      type_there : ℕ
      type_there = type_in s.table (content s m hands (trunk k)).of (steps_in k)

      same_designated : shape_of s.table (type_in s.table (trunk_type s w) (last_steps w)) ≡ shape_of s.table type_there
          → is_leaf s.table (content s m hands (trunk k)).of (steps_in k) ≡ true
          → designated s.table (type_in s.table (trunk_type s w) (last_steps w)) ≡ designated s.table type_there
      same_designated e leaf =
          let access = access_of (shape_of s.table type_there)
          (both_parts (has_part s.table (content s m hands (trunk k)).of (steps_in k)) (owns_one (shape_of s.table type_there)) leaf).1 in
          ap (λ z. designated_of (type_in s.table (trunk_type s w) (last_steps w)) (view_of z)) (e ∙ access.2)
          ∙ sym (ap (λ z. designated_of type_there (view_of z)) access.2)

  -- a way that begins at a variable and leads to a cell goes through its number
  pub cell_kept : (w : Way) (f x n : ℕ) → base_of w ≡ OfRoot (OfVariable f x) → Reaches (seen s m hands leaks) w (OfCell n)
      → IsMade m (memory.OfCell n) × Matches s.table (trunk_type s w) (cell m n).of
  cell_kept w f x n base reach = (let there = typed_way w f x base (OfCell n) reach in (there.2 n refl, there.0))

  pub cell_live : (w : Way) (f x n : ℕ) → base_of w ≡ OfRoot (OfVariable f x) → Owned (seen s m hands leaks) → Reaches (seen s m hands leaks) w (OfCell n)
      → (cell m n).freed ≡ false
  cell_live (Object (OfVariable g y)) f x n base owned is = absurd (cell_root is)
  cell_live (Object (OfHand h)) f x n base owned is = absurd (hand_variable base)
  cell_live (Lost c) f x n base owned reach = absurd (cell_root base)
  cell_live (Into w i) f x n base owned (k, reach, is) = absurd (cell_inside is)
  cell_live (All w) f x n base owned (k, c, reach, held, is) = owned.live k n (held ∙ ap Held (same_cell is))
    where
      same_cell : OfCell n ≡ OfCell c → c ≡ n
      same_cell e = sym (loc_cells e)

  -- ---- places

  -- a place of the machine in the cell
  pub lodged_spot : (k : Place) (c : Lodge) (lodged : IsLodged s k c) (f x : ℕ) → base_of c.way ≡ OfRoot (OfVariable f x)
      → Reaches (seen s m hands leaks) c.way (OfCell c.cell) → Spot s m hands k (part (OfCell c.cell) lodged.steps)
  lodged_spot k c lodged f x base reach =
      let there = cell_kept c.way f x c.cell base reach in
      let trunk_is : trunk (part (OfCell c.cell) lodged.steps) ≡ OfCell c.cell = trunk_part (OfCell c.cell) lodged.steps in
      let steps_are : steps_in (part (OfCell c.cell) lodged.steps) ≡ lodged.steps = steps_part (OfCell c.cell) lodged.steps ∙ append-nil lodged.steps in
      let moved = part_moved s.table settled (trunk_type s c.way) (cell m c.cell).of lodged.steps there.1 lodged.there in
      record {
        base = trunk_is ∙ ap loc_of (sym lodged.base);
        made = subst (IsMade m) (sym lodged.base) there.0;
        at = lodged.at ∙ moved.1 ∙ (λ j. offset_in s.table (content s m hands (sym trunk_is j)).of (sym steps_are j));
        there = (λ j. has_part s.table (content s m hands (trunk_is j)).of (steps_are j)) ∙ sym moved.0 ∙ lodged.there;
        of = subst (λ z. Matches s.table k.of (type_in s.table (content s m hands z).of (steps_in (part (OfCell c.cell) lodged.steps)))) (sym trunk_is)
            (subst (λ z. Matches s.table k.of (type_in s.table (cell m c.cell).of z)) (sym steps_are)
            (matches_both s k.of (type_in s.table (trunk_type s c.way) lodged.steps) (type_in s.table (cell m c.cell).of lodged.steps) lodged.of moved.2));
      }

  -- and the other way round
  pub spot_lodged : (k : Place) (l : Loc) (c : Lodge) (f x : ℕ) → Spot s m hands k l → k.base ≡ memory.OfCell c.cell → base_of c.way ≡ OfRoot (OfVariable f x)
      → Reaches (seen s m hands leaks) c.way (OfCell c.cell) → (lodged : IsLodged s k c) × (lodged.steps ≡ steps_in l)
  spot_lodged k l c f x spot is base reach =
      let there = cell_kept c.way f x c.cell base reach in
      let trunk_is : trunk l ≡ OfCell c.cell = spot.base ∙ ap loc_of is in
      let has : has_part s.table (cell m c.cell).of (steps_in l) ≡ true = ap (λ z. has_part s.table (content s m hands z).of (steps_in l)) (sym trunk_is) ∙ spot.there in
      let moved = part_moved s.table settled (cell m c.cell).of (trunk_type s c.way) (steps_in l) (matches_flip s (trunk_type s c.way) (cell m c.cell).of there.1) has in (
        record {
          base = is;
          steps = steps_in l;
          there = sym moved.0 ∙ has;
          at = spot.at ∙ ap (λ z. offset_in s.table (content s m hands z).of (steps_in l)) trunk_is ∙ moved.1;
          of = matches_both s k.of (type_in s.table (cell m c.cell).of (steps_in l)) (type_in s.table (trunk_type s c.way) (steps_in l))
              (subst (λ z. Matches s.table k.of (type_in s.table (content s m hands z).of (steps_in l))) trunk_is spot.of) moved.2;
        },
        refl,
      )
