-- What stands at a spot is the same over both heaps, but for the names of cells.
use Rattle.std.proofs.Common.{◌≡◌, refl, sym, ap, ◌∙◌, subst, ℕ, zero, suc, ◌+◌, Bool, true, false, ◌&&◌, nat_lt, List, [], ◌∷◌, map, length, drop, get_or, ℤ, pos, negsuc, if◌then◌else◌}
use Rattle.numbered_cells.specs.run_values.declared.value.Value.{Value}
use Rattle.numbered_cells.specs.run_values.declared.value.Kind.{Kind}
use Rattle.numbered_cells.specs.run_values.declared.value.Kind.TheVariants as sort
use Rattle.numbered_cells.specs.run_values.Values.{kind}
use Rattle.numbered_cells.specs.run_codes.Flat.{Flat, Got, Given, Stops, Broken, and_then, most_offsets, same_kind, have_kinds, is_word, word_of, words_in, as_fresh, all_fresh, touched, front_of_cell, InStack, InCell}
use Rattle.numbered_cells.specs.run_codes.Flat as flat
use Rattle.numbered_cells.specs.Follows.{handled, IsThere}
use Rattle.handled_runs.specs.Slots.{Slots, slot_word, cell_words}
use Rattle.handled_runs.specs.Slots as slots
use Rattle.handled_runs.specs.Beside.{renamed, all_renamed, Beside}
use Rattle.handled_runs.specs.Looks.{IsFront, IsKeptAs, AreKept}
use Rattle.handled_runs.proofs.Named.{kind_same, kind_handled, value_renamed}

-- ---- lists of words

nothing_renamed : (handles : List ℕ) (ks : List Kind) → all_renamed handles ks [] ≡ []
nothing_renamed handles [] = refl
nothing_renamed handles (k ∷ ks) = refl

pub drop_renamed : (handles : List ℕ) (n : ℕ) (ks : List Kind) (zs : List ℤ) → drop n (all_renamed handles ks zs) ≡ all_renamed handles (drop n ks) (drop n zs)
drop_renamed handles zero ks zs = refl
drop_renamed handles (suc n) [] zs = refl
drop_renamed handles (suc n) (k ∷ ks) [] = sym (nothing_renamed handles (drop n ks))
drop_renamed handles (suc n) (k ∷ ks) (z ∷ zs) = drop_renamed handles n ks zs

-- Those at the front.
pub front_same : (handles : List ℕ) (ks js : List Kind) (zs us : List ℤ) → IsFront ks js → flat.front ks zs ≡ Given us
    → slots.front ks (all_renamed handles js zs) ≡ Given (all_renamed handles ks us)
front_same handles [] js zs us is e = refl
front_same handles (k ∷ ks) [] zs us is e = absurd is
front_same handles (k ∷ ks) (j ∷ js) [] us is e = cc
front_same handles (k ∷ ks) (j ∷ js) (z ∷ zs) us is e = by (is_word k z) (flat.front ks zs) refl e (λ more same. front_same handles ks js zs more is.1 same)
  where
    by : (b : Bool) (g : Got (List ℤ)) → flat.front ks zs ≡ g → (if b then and_then g (λ more. Given (z ∷ more)) else Broken) ≡ Given us
        → ((more : List ℤ) → flat.front ks zs ≡ Given more → slots.front ks (all_renamed handles js zs) ≡ Given (all_renamed handles ks more))
        → and_then (slots.front ks (all_renamed handles js zs)) (λ more. Given (renamed handles j z ∷ more)) ≡ Given (all_renamed handles (k ∷ ks) us)
    by true (Given more) found e on =
        let same : z ∷ more ≡ us = cc in
        ap (λ g. and_then g (λ rest. Given (renamed handles j z ∷ rest))) (on more found)
        ∙ (ap (λ q. Given (renamed handles q z ∷ all_renamed handles ks more)) (sym is.0) ∙ ap (λ all. Given (all_renamed handles (k ∷ ks) all)) same)
    by true (Stops s) found e on = cc
    by true Broken found e on = cc
    by false g found e on = cc

pub front_long : (ks : List Kind) (zs us : List ℤ) → flat.front ks zs ≡ Given us → length ks ≡ length us
front_long [] zs us e = let same : [] ≡ us = cc in ap length same
front_long (k ∷ ks) [] us e = cc
front_long (k ∷ ks) (z ∷ zs) us e = by (is_word k z) (flat.front ks zs) refl e (λ more same. front_long ks zs more same)
  where
    by : (b : Bool) (g : Got (List ℤ)) → flat.front ks zs ≡ g → (if b then and_then g (λ more. Given (z ∷ more)) else Broken) ≡ Given us
        → ((more : List ℤ) → flat.front ks zs ≡ Given more → length ks ≡ length more) → suc (length ks) ≡ length us
    by true (Given more) found e on = let same : z ∷ more ≡ us = cc in ap suc (on more found) ∙ ap length same
    by true (Stops s) found e on = cc
    by true Broken found e on = cc
    by false g found e on = cc

fresh_word : (k : Kind) (z : ℤ) → IsKeptAs k z → as_fresh k z ≡ z
fresh_word sort.Int z kept = refl
fresh_word sort.Enum z kept = refl
fresh_word sort.Access (pos n) kept = refl
fresh_word sort.Access (negsuc n) kept = absurd kept

fresh_same : (ks : List Kind) (zs : List ℤ) → length ks ≡ length zs → AreKept ks zs → all_fresh ks zs ≡ zs
fresh_same [] [] long kept = refl
fresh_same [] (z ∷ zs) long kept = cc
fresh_same (k ∷ ks) [] long kept = cc
fresh_same (k ∷ ks) (z ∷ zs) long kept =
    ap (λ w. w ∷ all_fresh ks zs) (fresh_word k z kept.0) ∙ ap (λ ws. z ∷ ws) (fresh_same ks zs (let same : length ks ≡ length zs = cc in same) kept.1)

-- ---- words of cells

pub drop_map : {A B : Type 0} (f : A → B) (n : ℕ) (xs : List A) → drop n (map f xs) ≡ map f (drop n xs)
drop_map f zero xs = refl
drop_map f (suc n) [] = refl
drop_map f (suc n) (x ∷ xs) = drop_map f n xs

words_renamed : (handles : List ℕ) (ws : List Value) → map slot_word (map (handled handles) ws) ≡ all_renamed handles (map kind ws) (words_in ws)
words_renamed handles [] = refl
words_renamed handles (v ∷ ws) =
    ap (λ z. z ∷ map slot_word (map (handled handles) ws)) (value_renamed handles v) ∙ ap (λ zs. renamed handles (kind v) (word_of v) ∷ zs) (words_renamed handles ws)

pub kinds_handled : (handles : List ℕ) (ks : List Kind) (ws : List Value) → have_kinds ks (map (handled handles) ws) ≡ have_kinds ks ws
kinds_handled handles [] ws = refl
kinds_handled handles (k ∷ ks) [] = refl
kinds_handled handles (k ∷ ks) (v ∷ ws) =
    ap (λ j. same_kind j k && have_kinds ks (map (handled handles) ws)) (kind_handled handles v) ∙ ap (λ b. same_kind (kind v) k && b) (kinds_handled handles ks ws)

and_first : (a b : Bool) → a && b ≡ true → a ≡ true
and_first true b e = refl
and_first false b e = cc

and_second : (a b : Bool) → a && b ≡ true → b ≡ true
and_second true b e = e
and_second false b e = cc

pub kinds_front : (ks : List Kind) (ws : List Value) → have_kinds ks ws ≡ true → IsFront ks (map kind ws)
kinds_front [] ws e = tt
kinds_front (k ∷ ks) [] e = cc
kinds_front (k ∷ ks) (v ∷ ws) e =
    (sym (kind_same (kind v) k (and_first (same_kind (kind v) k) (have_kinds ks ws) e)), kinds_front ks ws (and_second (same_kind (kind v) k) (have_kinds ks ws) e))

-- ---- the law

module _ (handles : List ℕ) (kinds taken : List Kind) (m : Flat) (s : Slots) (beside : Beside handles kinds taken m s) where
  -- What is gone is null.
  pub stack_words : (n : ℕ) (ks : List Kind) (zs : List ℤ) → IsFront ks (drop n kinds) → flat.words_at m (InStack n) ks ≡ Given zs → slots.held s (InStack n) ks ≡ Given (all_renamed handles ks zs)
  stack_words n ks zs is e =
      ap (λ all. slots.front ks (drop n all)) beside.stack
      ∙ (ap (slots.front ks) (drop_renamed handles n kinds m.stack) ∙ front_same handles ks (drop n kinds) (drop n m.stack) zs is e)

  -- So it is in a cell that is there.
  pub cell_words_same : (n o : ℕ) (ws : List Value) (ks : List Kind) (zs : List ℤ) → IsThere m.cells n ws → flat.words_at m (InCell n o) ks ≡ Given zs
      → (slots.held s (InCell (get_or handles n 0) o) ks ≡ Given (all_renamed handles ks zs)) × (length ks ≡ length zs)
  cell_words_same n o ws ks zs there e =
      by (nat_lt (o + length ks) most_offsets) (have_kinds ks (drop o ws)) refl (sym (ap (λ x. touched x (front_of_cell o ks)) there) ∙ e)
    where
      by : (a b : Bool) → have_kinds ks (drop o ws) ≡ b → (if a && b then flat.front ks (drop o (words_in ws)) else Broken) ≡ Given zs
          → (slots.held s (InCell (get_or handles n 0) o) ks ≡ Given (all_renamed handles ks zs)) × (length ks ≡ length zs)
      by true true have f = (
        ap (cell_words ks o) (beside.cells.live n ws there)
            ∙ (ap (λ b. if b then slots.front ks (drop o (map slot_word (map (handled handles) ws))) else Broken)
            (ap (have_kinds ks) (drop_map (handled handles) o ws) ∙ (kinds_handled handles ks (drop o ws) ∙ have))
            ∙ (ap (λ all. slots.front ks (drop o all)) (words_renamed handles ws)
            ∙ (ap (slots.front ks) (drop_renamed handles o (map kind ws) (words_in ws))
            ∙ front_same handles ks (drop o (map kind ws)) (drop o (words_in ws)) zs (subst (IsFront ks) (sym (drop_map kind o ws)) (kinds_front ks (drop o ws) have)) f))),
        front_long ks (drop o (words_in ws)) zs f,
      )
      by true false have f = cc
      by false b have f = cc

  -- Where no word there is gone, what stands in the stack is what is held.
  pub stack_held : (n : ℕ) (ks : List Kind) (zs : List ℤ) → IsFront ks (drop n kinds) → flat.words_at m (InStack n) ks ≡ Given zs → AreKept ks zs
      → (flat.held m (InStack n) ks ≡ Given zs) × (slots.held s (InStack n) ks ≡ Given (all_renamed handles ks zs))
  stack_held n ks zs is e kept = (
    ap (λ g. and_then g (λ us. Given (all_fresh ks us))) e ∙ ap Given (fresh_same ks zs (front_long ks (drop n m.stack) zs e) kept),
    stack_words n ks zs is e,
  )

  -- So it is in a cell that is there.
  pub cell_held : (n o : ℕ) (ws : List Value) (ks : List Kind) (zs : List ℤ) → IsThere m.cells n ws → flat.words_at m (InCell n o) ks ≡ Given zs → AreKept ks zs
      → (flat.held m (InCell n o) ks ≡ Given zs) × (slots.held s (InCell (get_or handles n 0) o) ks ≡ Given (all_renamed handles ks zs))
  cell_held n o ws ks zs there e kept =
      let same = cell_words_same n o ws ks zs there e in (
        ap (λ g. and_then g (λ us. Given (all_fresh ks us))) e ∙ ap Given (fresh_same ks zs same.1 kept),
        same.0,
      )
