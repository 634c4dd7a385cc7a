-- Scalar places and formals of scalar types: owners see nothing of what is put into them, nor of what is
-- copied back.
use Rattle.std.proofs.Common.{◌≡◌, refl, sym, ap, ◌∙◌, subst, inl, inr, ℕ, ◌+◌, Bool, true, false, List, [], ◌∷◌, ◌++◌, take, drop, length, get_or, if◌then◌else◌}
use Rattle.std.proofs.lemmas.List.{length-map}
use Rattle.std.proofs.lemmas.Bool.{false≢true}
use Rattle.machine.specs.spark_base.Lists.{Has}
use Rattle.machine.specs.type_definitions.Types.{words, full, is_scalar, components_of}
use Rattle.machine.specs.flow_paths.Objects.{Typing, object_at}
use Rattle.machine.specs.Words.{access_offsets}
use Rattle.machine.specs.Words as machine
use Rattle.machine.specs.Memory.{Slot, Memory, Place, fresh, no_slot, variable_slots, slots_at, slots_of, words_of, gone_at, with_slots, stored, moved_out, declared}
use Rattle.machine.specs.Memory as memory
use Rattle.machine.specs.Evaluate.{Now, Evaluated, Done, Raises, Traps, ConstraintError, followed_by}
use Rattle.machine.specs.Calls.{Passed, Value, From, To, with_formal}
use Rattle.machine.specs.States.{Waiting, Leak}
use Rattle.soundness.specs.OwnedWays.Ways.{Step, OfVariable, Loc, OfRoot, OfCell, IsSame, Reaches, part, base_of}
use Rattle.soundness.specs.PartOffsets.Parts.{type_in, offset_in, has_part, IsSettled}
use Rattle.soundness.specs.Seen.{Content, content, trunk, steps_in, word_in, seen}
use Rattle.soundness.specs.Typed.{Matches, OwnsByShape, Kept, Spot, IsFixed}
use Rattle.soundness.proofs.Memories.{put_other, marked_length}
use Rattle.soundness.proofs.Steps.{plain_end, room, taken_slots, same_there as same_content}
use Rattle.soundness.proofs.Keeping.{scalar}
use Rattle.soundness.proofs.Lasting.{lengths, less_kept, put_away, declared_kept, keeps}
use Rattle.soundness.proofs.Fixed.{matches_scalar, plain_word, fixed_at, fixed_spot, put_word, put_same_view}
use Rattle.soundness.proofs.Loops.{same_word, scalar_same}
use Rattle.soundness.proofs.Stays.{One}
use Rattle.soundness.proofs.Returning.{Backs}
use Rattle.viewed_steps.specs.Taken.{Lodge, IsLodged, IsPlainPlace}
use Rattle.soundness.specs.ViewedSoundness.Holds.{is_bundle, is_view}
use Rattle.viewed_steps.proofs.Views.{AreAccess, view_access, scalar_bundle, scalar_no_view}
use Rattle.viewed_steps.proofs.Beside.{put_beside}
use Rattle.viewed_steps.proofs.Lodged.{lodged_spot}
use Rattle.viewed_steps.proofs.Constructors.{is_of_variable_base}

-- ---- memories that owners see alike

same_variable : (f x g y : ℕ) → memory.OfVariable f x ≡ memory.OfVariable g y → x ≡ y
same_variable f x g y e = cc

-- a scalar place isn't in the variable of a view
no_view_fixed : (s : Typing) (sees : ℕ → Bool) (settled : IsSettled s.table) → AreAccess s → (k : Place) (fixed : IsFixed s k) → is_bundle s fixed.object ≡ false → (g y : ℕ)
    → is_view s y ≡ true → k.base ≡ memory.OfVariable g y → ⊥
no_view_fixed s sees settled in_formals k fixed bare g y view base =
    let same : fixed.object ≡ y = same_variable fixed.frame fixed.object g y (sym fixed.base ∙ base) in
    let access = view_access s sees in_formals y view (subst (λ z. is_bundle s z ≡ false) same bare) in
    let there : has_part s.table (object_at s y).of fixed.steps ≡ true = subst (λ z. has_part s.table (object_at s z).of fixed.steps ≡ true) same fixed.there in
    let none = plain_end s.table settled (object_at s y).of (ap components_of access.3) (ap machine.count_of access.3) fixed.steps there in
    let fits : Matches s.table k.of (object_at s y).of =
    subst (λ p. Matches s.table k.of (type_in s.table (object_at s y).of p)) none
    (subst (λ z. Matches s.table k.of (type_in s.table (object_at s z).of fixed.steps)) same fixed.of) in
    scalar_no_view s sees in_formals y (matches_scalar s k.of (object_at s y).of fits fixed.scalar) view

same_object : (g x h y : ℕ) → OfVariable g x ≡ OfVariable h y → x ≡ y
same_object g x h y e = cc

module _ (s : Typing) (sees : ℕ → Bool) (settled : IsSettled s.table) (own_law : OwnsByShape s.table) (in_formals : AreAccess s) (hands : List Waiting) (leaks : List Leak) where
  abbrev Scalar : ℕ → Type 0
  Scalar x = is_scalar (full s.table (object_at s x).of) ≡ true

  -- Owners see the same, words are typed, and the variables of views keep their words.
  pub record Enters (m n : Memory) : Type 0 where
    pub same : IsSame (seen s m hands leaks) (seen s n hands leaks)
    pub typed : Kept s n hands
    pub hold : (g y : ℕ) (p : List Step) → word_in s.table (content s n [] (OfRoot (OfVariable g y))) p ≡ word_in s.table (content s m [] (OfRoot (OfVariable g y))) p
    pub views : (g y i : ℕ) → is_view s y ≡ true
        → (get_or (variable_slots s g y n.variables) i no_slot).word ≡ (get_or (variable_slots s g y m.variables) i no_slot).word

  pub nothing : (m : Memory) → Kept s m hands → Enters m m
  nothing m typed = record {
    same = record { word = λ l. refl; made = refl; freed = λ n. refl; leaked = λ n. refl };
    typed = typed;
    hold = λ g y p. refl;
    views = λ g y i view. refl;
  }

  pub one_then : (a b c : Memory) → Enters a b → Enters b c → Enters a c
  one_then a b c first second = record {
    same = record {
      word = λ l. second.same.word l ∙ first.same.word l;
      made = second.same.made ∙ first.same.made;
      freed = λ n. second.same.freed n ∙ first.same.freed n;
      leaked = λ n. second.same.leaked n ∙ first.same.leaked n;
    };
    typed = second.typed;
    hold = λ g y p. second.hold g y p ∙ first.hold g y p;
    views = λ g y i view. second.views g y i view ∙ first.views g y i view;
  }

  -- ---- scalar places

  -- A scalar place, in a variable that is no view's, or in a cell.
  pub record IsPlainSpot (m : Memory) (k : Place) : Type 0 where
    pub loc : Loc
    pub spot : Spot s m hands k loc
    pub scalar : is_scalar (full s.table k.of) ≡ true
    pub off : (g y : ℕ) → is_view s y ≡ true → k.base ≡ memory.OfVariable g y → ⊥

  fixed_plain : (k : Place) (fixed : IsFixed s k) → is_bundle s fixed.object ≡ false → (m : Memory) → IsPlainSpot m k
  fixed_plain k fixed bare m = record {
    loc = fixed_at s settled k fixed;
    spot = fixed_spot s settled k fixed m hands;
    scalar = fixed.scalar;
    off = no_view_fixed s sees settled in_formals k fixed bare;
  }

  -- a scalar variable
  pub variable_plain : (k : Place) (g y : ℕ) → IsFixed s k → k.base ≡ memory.OfVariable g y → Scalar y → (m : Memory) → IsPlainSpot m k
  variable_plain k g y fixed base scalar m =
      fixed_plain k fixed (subst (λ z. is_bundle s z ≡ false) (sym (same_variable fixed.frame fixed.object g y (sym fixed.base ∙ base))) (scalar_bundle s sees in_formals y scalar)) m

  pub lodged_plain : (k : Place) (c : Lodge) → IsLodged s k c → is_scalar (full s.table k.of) ≡ true → (f x : ℕ) → base_of c.way ≡ OfRoot (OfVariable f x)
      → (m : Memory) → Kept s m hands → Reaches (seen s m hands leaks) c.way (OfCell c.cell) → IsPlainSpot m k
  lodged_plain k c lodged plain f x base m typed reach = record {
    loc = part (OfCell c.cell) lodged.steps;
    spot = lodged_spot s settled m hands leaks typed k c lodged f x base reach;
    scalar = plain;
    off = λ g y view is. no_cell c.cell g y (sym lodged.base ∙ is);
  }
    where
      no_cell : (n g y : ℕ) → memory.OfCell n ≡ memory.OfVariable g y → ⊥
      no_cell n g y e = absurd (false≢true (ap is_of_variable_base e))

  -- one in a variable, or in one of these cells, which are there
  pub plain_place : (f : ℕ) (cells : List Lodge) → ((c : Lodge) → Has cells c → (g : ℕ) × (y : ℕ) × (base_of c.way ≡ OfRoot (OfVariable g y)) × (g ≡ f → ⊥))
      → (m : Memory) (k : Place) → IsPlainPlace s cells k → Kept s m hands → ((c : Lodge) → Has cells c → Reaches (seen s m hands leaks) c.way (OfCell c.cell))
      → IsPlainSpot m k
  plain_place f cells begins m k (inl (fixed, bare)) typed there = fixed_plain k fixed bare m
  plain_place f cells begins m k (inr (c, has, lodged, plain)) typed there =
      let begin = begins c has in lodged_plain k c lodged plain begin.0 begin.1 begin.2 m typed (there c has)

  -- one word stands there
  pub one_there : (m : Memory) (k : Place) → IsPlainSpot m k → Kept s m hands → length (words_of s m k) ≡ 1
  one_there m k plain typed =
      length-map (slots_of s m k) (λ (x : Slot). x.word) ∙ (taken_slots s settled m k (room s settled m hands typed k plain.loc plain.spot)).0
      ∙ plain_word s settled k.of plain.scalar

  -- what has other slots there
  put_there : (k : Place) (m : Memory) (plain : IsPlainSpot m k) (slots : List Slot) → length slots ≡ words s.table k.of → Kept s m hands
      → Kept s (with_slots s k slots m) hands → Enters m (with_slots s k slots m)
  put_there k m plain slots long typed typed_then = record {
    same = put_same_view s settled m hands k plain.loc plain.spot typed plain.scalar slots long leaks;
    typed = typed_then;
    hold = λ g y p. put_word s settled m hands k plain.loc plain.spot typed plain.scalar slots long (OfRoot (OfVariable g y)) p refl;
    views = λ g y i view. ap (λ z. (get_or z i no_slot).word)
        (put_beside s 0 k.base (take k.at (slots_at s m k.base) ++ slots ++ drop (k.at + length slots) (slots_at s m k.base)) m g y (plain.off g y view));
  }

  pub moved_there : (k : Place) (m : Memory) → IsPlainSpot m k → Kept s m hands → Enters m (moved_out s k m)
  moved_there k m plain typed =
      let marks : List Slot = gone_at (access_offsets s.table k.of) (slots_of s m k) in
      let long : length marks ≡ words s.table k.of =
      marked_length (access_offsets s.table k.of) (slots_of s m k) ∙ (taken_slots s settled m k (room s settled m hands typed k plain.loc plain.spot)).0 in
      put_there k m plain marks long typed
      (less_kept s settled (moved_out s k m) (record { of = k.of; words = words_of s m k }) hands ((keeps s settled own_law).moved m hands k plain.loc plain.spot typed))

  -- a place is where it is, whatever is in hand
  more_spot : (m : Memory) (v : Waiting) (k : Place) (l : Loc) → Spot s m hands k l → Spot s m (v ∷ hands) k l
  more_spot m v k l spot =
      let same : content s m hands (trunk l) ≡ content s m (v ∷ hands) (trunk l) =
      ap (content s m hands) spot.base ∙ same_content s m hands (v ∷ hands) k.base ∙ ap (content s m (v ∷ hands)) (sym spot.base) in
      record {
        base = spot.base;
        made = spot.made;
        at = spot.at ∙ ap (λ (z : Content). offset_in s.table z.of (steps_in l)) same;
        there = ap (λ (z : Content). has_part s.table z.of (steps_in l)) (sym same) ∙ spot.there;
        of = subst (λ (z : Content). Matches s.table k.of (type_in s.table z.of (steps_in l))) same spot.of;
      }

  pub stored_there : (k : Place) (m : Memory) → IsPlainSpot m k → (ws : List machine.Word) → length ws ≡ 1 → Kept s m hands → Enters m (stored s k ws m)
  stored_there k m plain ws one typed =
      let got : Waiting = record { of = k.of; words = ws } in
      put_there k m plain (fresh ws) (length-map ws (λ w. record { word = w; gone = false }) ∙ one ∙ sym (plain_word s settled k.of plain.scalar)) typed
      (put_away s settled m got hands k plain.loc (scalar s settled m got hands plain.scalar typed) (more_spot m got k plain.loc plain.spot)
      (one ∙ sym (plain_word s settled k.of plain.scalar)) (inl refl))

  -- ---- the formals

  one_formal : (f x : ℕ) (ws : List machine.Word) (m : Memory) → Scalar x → One ws → Kept s m hands → Enters m (declared f x ws m)
  one_formal f x ws m plain one typed =
      let u : ℕ = (object_at s x).of in
      let got : Waiting = record { of = u; words = ws } in
      let long : length ws ≡ words s.table u = one ∙ sym (plain_word s settled u plain) in
      let others : (g y : ℕ) → (OfVariable f x ≡ OfVariable g y → ⊥) → variable_slots s g y (declared f x ws m).variables ≡ variable_slots s g y m.variables =
      λ g y ne. put_other s f x g y ne (fresh ws) m.variables in
      record {
        same = scalar_same s settled m hands leaks f x plain (declared f x ws m).variables others;
        typed = declared_kept s settled m f x got hands (scalar s settled m got hands plain typed) long (inl refl);
        hold = λ g y p. same_word s settled m [] [] f x plain (declared f x ws m).variables others (OfRoot (OfVariable g y)) p refl;
        views = λ g y i view. ap (λ z. (get_or z i no_slot).word) (others g y (λ e.
            scalar_no_view s sees in_formals x plain (subst (λ z. is_view s z ≡ true) (sym (same_object f x g y e)) view)));
      }

  -- What is passed for a formal of a scalar type: a value, or a scalar place.
  abbrev pub IsLaidIn : Memory → Passed → Type 0
  IsLaidIn m (Value ws) = One ws
  IsLaidIn m (From k) = IsPlainSpot m k
  IsLaidIn m (To k) = IsPlainSpot m k

  pub with_one : (f x : ℕ) (a : Passed) (m : Memory) → Scalar x → IsLaidIn m a → Kept s m hands → Enters m (with_formal s f x a m)
  with_one f x (Value ws) m plain laid typed = one_formal f x ws m plain laid typed
  with_one f x (From k) m plain laid typed =
      let first = moved_there k m laid typed in
      one_then m (moved_out s k m) (declared f x (words_of s m k) (moved_out s k m)) first
      (one_formal f x (words_of s m k) (moved_out s k m) plain (one_there m k laid typed) first.typed)
  with_one f x (To k) m plain laid typed =
      let first = moved_there k m laid typed in
      one_then m (moved_out s k m) (declared f x (machine.default s.table (object_at s x).of) (moved_out s k m)) first
      (one_formal f x (machine.default s.table (object_at s x).of) (moved_out s k m) plain
      (lengths s.table (object_at s x).of ∙ plain_word s settled (object_at s x).of plain) first.typed)

-- ---- formals are copied back

pub backs_on : (Q R : Memory → Type 0) → ((m : Memory) → Q m → R m) → (y : Evaluated Memory) → Backs Q y → Backs R y
backs_on Q R on (Done m n) q = on m q
backs_on Q R on (Raises e n) q = tt
backs_on Q R on (Traps trap n) never = never

pub if_back : (Q : Memory → Type 0) (b : Bool) (ws : List machine.Word) (begun : Now) (f : List machine.Word → Now → Evaluated Memory)
    → Backs Q (f ws begun) → Backs Q (followed_by (if b then Done ws begun else Raises ConstraintError begun) f)
if_back Q true ws begun f q = q
if_back Q false ws begun f q = tt
