-- Objects of a frame, one after the other.
use Rattle.std.proofs.Common.{◌≡◌, ◌⊎◌, inl, inr, refl, sym, ap, ◌∙◌, ℕ, ◌+◌, ◌<◌, ◌≤◌, ◌==◌, ◌||◌, Bool, true, false, List, [], ◌∷◌, ◌++◌, map, sum, length, get_or, set, replicate, Option, Some, None, if◌then◌else◌, arith}
use Rattle.std.specs.Prelude.{is_some}
use Rattle.std.proofs.lemmas.Grind.{common_steps}
use Rattle.std.proofs.lemmas.Bool.{cases_eq, cases_lt, eq-eqb, ne_eqb}
use Rattle.std.proofs.lemmas.List.Folds.{list_any-append}
use Rattle.std.proofs.lemmas.List.Sums.{sum_by-append, sum_by-cons}
use Rattle.std.proofs.lemmas.List.{get_or-replicate, get_or-set_same, get_or-set_other, get_or_past}
use Rattle.flow_paths.specs.Objects.{Typing}
use Rattle.run_codes.specs.Lowered as lowered
use Rattle.run_codes.specs.Lowered.{kept_words, offset_from}
use Rattle.run_codes.specs.Programs.{has_room}
use Rattle.run_lowering.specs.declared.site.Kept.{Kept}
use Rattle.run_lowering.specs.declared.frames.Frame.{Frame}
use Rattle.run_lowering.specs.Offsets.{kept_in, AreOffsets}
use Rattle.run_lowering.specs.Frames.{HasRooms, IsFrame, IsClear}

-- ---- lists

pub map_end : {A B : Type 0} (f : A → B) (xs : List A) (x : A) → map f (xs ++ x ∷ []) ≡ map f xs ++ f x ∷ []
map_end f [] x = refl
map_end f (y ∷ rest) x = ap (λ l. f y ∷ l) (map_end f rest x)

zero_plus : (x : ℕ) → 0 + x ≡ x
zero_plus x = omega arith

pub sum_end : (xs : List ℕ) (x : ℕ) → sum (xs ++ x ∷ []) ≡ sum xs + x
sum_end xs x =
    let e : sum (xs ++ x ∷ []) ≡ sum xs + sum (x ∷ []) = sum_by-append (λ n. n) xs (x ∷ []) in
    let one : sum (x ∷ []) ≡ x = zero_plus x in
    e ∙ ap (λ n. sum xs + n) one

or_true : (a b : Bool) → b ≡ true → a || b ≡ true
or_true true b e = refl
or_true false b e = e

or_false : (a b : Bool) → b ≡ false → a || b ≡ a
or_false true b e = refl
or_false false b e = e

or_none : (a b : Bool) → a || b ≡ false → (a ≡ false) × (b ≡ false)
or_none true b e = absurd (cc e)
or_none false b e = (refl, e)

unequal : (a b : ℕ) → (b ≡ a → ⊥) → (a == b) ≡ false
unequal a b ne = ne_eqb a b (λ e. ne (sym e))

-- ---- offsets

if_end : (b : Bool) (at o : ℕ) (p q : Option ℕ) → (p ≡ Some o → q ≡ Some o) → (if b then Some at else p) ≡ Some o
    → (if b then Some at else q) ≡ Some o
if_end true at o p q f is = is
if_end false at o p q f is = f is

-- Those that are there stay where they are.
offset_end : (s : Typing) (at : ℕ) (all : List lowered.Kept) (k : lowered.Kept) (x o : ℕ) → offset_from s at all x ≡ Some o
    → offset_from s at (all ++ k ∷ []) x ≡ Some o
offset_end s at [] k x o is = absurd (cc is)
offset_end s at (j ∷ rest) k x o is =
    if_end (j.object == x) at o _ _ (offset_end s (at + kept_words s j) rest k x o) is

plus_on : (end at a b : ℕ) → end ≡ at + (a + b) → end ≡ (at + a) + b
plus_on end at a b e = omega (arith, e)

-- The last one stands after the others.
offset_last : (s : Typing) (at end : ℕ) (all : List lowered.Kept) (k : lowered.Kept) → has_room k.object all ≡ false
    → end ≡ at + sum (map (kept_words s) all) → offset_from s at (all ++ k ∷ []) k.object ≡ Some end
offset_last s at end [] k none is =
    let e : end ≡ at = omega (arith, is) in
    let same : (k.object == k.object) ≡ true = eq-eqb k.object k.object refl in
    ap (λ b. if b then Some at else None) same ∙ ap Some (sym e)
offset_last s at end (j ∷ rest) k none is =
    let both = or_none (j.object == k.object) (has_room k.object rest) none in
    let c : sum (map (kept_words s) (j ∷ rest)) ≡ kept_words s j + sum (map (kept_words s) rest) =
    sum_by-cons (λ n. n) (kept_words s j) (map (kept_words s) rest) in
    let e : end ≡ (at + kept_words s j) + sum (map (kept_words s) rest) =
    plus_on end at (kept_words s j) (sum (map (kept_words s) rest)) (is ∙ ap (λ n. at + n) c) in
    ap (λ b. if b then Some at else offset_from s (at + kept_words s j) (rest ++ k ∷ []) k.object) both.0
    ∙ offset_last s (at + kept_words s j) end rest k both.1 e

room_end : (x : ℕ) (all : List lowered.Kept) (k : lowered.Kept) → has_room x (all ++ k ∷ []) ≡ has_room x all || (k.object == x)
room_end x all k =
    list_any-append (λ (j : lowered.Kept). j.object == x) all (k ∷ []) ∙ ap (λ b. has_room x all || b) (or_false (k.object == x) false refl)

-- ---- one more object

module _ (s : Typing) (all : List lowered.Kept) (k : lowered.Kept) (offsets : List (Option ℕ)) (words : ℕ) (none : has_room k.object all ≡ false)
    (within : k.object < length offsets) (end : words ≡ sum (map (kept_words s) all)) where
  next_offset : AreOffsets s all offsets → (x o : ℕ) → (x ≡ k.object) ⊎ (x ≡ k.object → ⊥)
      → get_or (set offsets k.object (Some words)) x None ≡ Some o → offset_from s 0 (all ++ k ∷ []) x ≡ Some o
  next_offset are x o (inl e) is =
      let at : Some words ≡ Some o = sym (get_or-set_same offsets k.object (Some words) None within) ∙ (ap (λ y. get_or (set offsets k.object (Some words)) y None) (sym e) ∙ is) in
      ap (offset_from s 0 (all ++ k ∷ [])) e ∙ (offset_last s 0 words all k none (omega (arith, end)) ∙ at)
  next_offset are x o (inr ne) is =
      offset_end s 0 all k x o (are x o (sym (get_or-set_other offsets k.object x (Some words) None ne) ∙ is))

  next_room : ((x : ℕ) → has_room x all ≡ is_some (get_or offsets x None)) → (x : ℕ) → (x ≡ k.object) ⊎ (x ≡ k.object → ⊥)
      → has_room x (all ++ k ∷ []) ≡ is_some (get_or (set offsets k.object (Some words)) x None)
  next_room are x (inl e) =
      room_end x all k
      ∙ (or_true (has_room x all) (k.object == x) (eq-eqb k.object x (sym e))
      ∙ sym (ap (λ y. is_some (get_or (set offsets k.object (Some words)) y None)) e
      ∙ ap is_some (get_or-set_same offsets k.object (Some words) None within)))
  next_room are x (inr ne) =
      room_end x all k
      ∙ (or_false (has_room x all) (k.object == x) (unequal k.object x ne)
      ∙ (are x ∙ sym (ap is_some (get_or-set_other offsets k.object x (Some words) None ne))))

pub next_frame : (s : Typing) (f g : Frame) (k : Kept) (w : ℕ) → IsFrame s f → has_room k.object (map kept_in f.kept.items) ≡ false
    → k.object < length f.offsets.items → w ≡ kept_words s (kept_in k) → g.kept.items ≡ f.kept.items ++ k ∷ []
    → g.offsets.items ≡ set f.offsets.items k.object (Some f.words) → g.words ≡ f.words + w → IsFrame s g
next_frame s f g k w is none within words kept offsets more =
    let all : List lowered.Kept = map kept_in f.kept.items in
    let e : map kept_in g.kept.items ≡ all ++ kept_in k ∷ [] = ap (map kept_in) kept ∙ map_end kept_in f.kept.items k in
    let end : sum (map (kept_words s) (all ++ kept_in k ∷ [])) ≡ sum (map (kept_words s) all) + kept_words s (kept_in k) =
    ap sum (map_end (kept_words s) all (kept_in k)) ∙ sum_end (map (kept_words s) all) (kept_words s (kept_in k)) in
    record {
      offsets = λ x o at.
          ap (λ all. offset_from s 0 all x) e
          ∙ next_offset s all (kept_in k) f.offsets.items f.words none within is.words is.offsets x o (cases_eq x k.object)
          (ap (λ os. get_or os x None) (sym offsets) ∙ at);
      words = omega (arith, more, words, is.words, end, ap (λ all. sum (map (kept_words s) all)) e);
      room = λ x.
          ap (has_room x) e
          ∙ (next_room s all (kept_in k) f.offsets.items f.words none within is.words is.room x (cases_eq x k.object)
          ∙ sym (ap (λ os. is_some (get_or os x None)) offsets));
    }

-- ---- no object

abbrev nones : ℕ → List (Option ℕ)
nones n = replicate n None

none_at : (n x : ℕ) → (x < n) ⊎ (n ≤ x) → get_or (nones n) x None ≡ None
none_at n x (inl within) = get_or-replicate n x None None within
none_at n x (inr past) = get_or_past (nones n) x None (grind (arith, common_steps, past))

pub clear_first : (f : Frame) (n : ℕ) → f.kept.items ≡ [] → f.words ≡ 0 → f.offsets.items ≡ replicate n None → IsClear f
clear_first f n kept words offsets = record {
  kept = kept;
  words = words;
  offsets = λ x. ap (λ os. get_or os x None) offsets ∙ none_at n x (cases_lt x n);
}

none_offset : (s : Typing) (x o : ℕ) (p : Option ℕ) → p ≡ None → p ≡ Some o → offset_from s 0 [] x ≡ Some o
none_offset s x o p none is = absurd (cc (sym none ∙ is))

pub clear_frame : (s : Typing) (f : Frame) → IsClear f → IsFrame s f
clear_frame s f is =
    let e : map kept_in f.kept.items ≡ [] = ap (map kept_in) is.kept in
    record {
      offsets = λ x o at. ap (λ all. offset_from s 0 all x) e ∙ none_offset s x o (get_or f.offsets.items x None) (is.offsets x) at;
      words = is.words ∙ sym (ap (λ all. sum (map (kept_words s) all)) e);
      room = λ x. ap (has_room x) e ∙ sym (ap is_some (is.offsets x));
    }

-- ---- objects are taken out

-- What has no room has no offset.
abbrev pub OnlyKept : List Kept → List (Option ℕ) → Type 0
OnlyKept kept offsets = (x : ℕ) → has_room x (map kept_in kept) ≡ false → get_or offsets x None ≡ None

none_is : (o : Option ℕ) → is_some o ≡ false → o ≡ None
none_is None e = refl
none_is (Some n) e = absurd (cc e)

pub kept_first : (f : Frame) → HasRooms f → OnlyKept f.kept.items f.offsets.items
kept_first f are = λ x none. none_is (get_or f.offsets.items x None) (sym (are x) ∙ none)

forgotten : (offsets : List (Option ℕ)) (n x : ℕ) → (x ≡ n) ⊎ (x ≡ n → ⊥) → (n < length offsets) ⊎ (length offsets ≤ n)
    → ((x ≡ n → ⊥) → get_or offsets x None ≡ None) → get_or (set offsets n None) x None ≡ None
forgotten offsets n x (inl e) (inl within) so =
    ap (λ y. get_or (set offsets n None) y None) e ∙ get_or-set_same offsets n None None within
forgotten offsets n x (inl e) (inr past) so =
    get_or_past (set offsets n None) x None (grind (arith, common_steps, e, past))
forgotten offsets n x (inr ne) within so = get_or-set_other offsets n x None None ne ∙ so ne

pub kept_next : (kept rest : List Kept) (k : Kept) (offsets after : List (Option ℕ)) → OnlyKept kept offsets → kept ≡ rest ++ k ∷ []
    → after ≡ set offsets k.object None → OnlyKept rest after
kept_next kept rest k offsets after are is set_so = λ x none.
    ap (λ os. get_or os x None) set_so
    ∙ forgotten offsets k.object x (cases_eq x k.object) (cases_lt k.object (length offsets))
    (λ ne. are x (ap (λ l. has_room x (map kept_in l)) is ∙ (ap (has_room x) (map_end kept_in rest k)
    ∙ (room_end x (map kept_in rest) (kept_in k)
    ∙ (or_false (has_room x (map kept_in rest)) (k.object == x) (unequal k.object x ne) ∙ none)))))

pub kept_last : (f : Frame) (kept : List Kept) → OnlyKept kept f.offsets.items → kept ≡ [] → f.kept.items ≡ [] → f.words ≡ 0 → IsClear f
kept_last f kept are none is words = record {
  kept = is;
  words = words;
  offsets = λ x. are x (ap (λ l. has_room x (map kept_in l)) none);
}
