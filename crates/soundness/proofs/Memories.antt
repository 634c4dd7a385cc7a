-- What changes of a memory do to variables and cells.
use Rattle.std.proofs.Common.{◌≡◌, refl, sym, ap, ◌∙◌, subst, ◌⊎◌, inl, inr, ℕ, zero, suc, ◌+◌, ◌-◌, ◌<◌, ◌≤◌, Bool, true, false, not, cond, ◌&&◌, ◌==◌, eqb-true, eq-eqb, List, [], ◌∷◌, ◌++◌, filter, take, drop, length, get_or, arith, append_assoc, if◌then◌else◌}
use Rattle.std.proofs.lemmas.List.{get_or-take, get_or-drop, get_or_append_left, get_or-append-add, length-take-le}
use Rattle.std.proofs.lemmas.Bool.{false≢true}
use Rattle.machine.specs.spark_base.Lists.{Has}
use Rattle.machine.specs.flow_paths.Objects.{Typing, object_at}
use Rattle.machine.specs.Words.{default}
use Rattle.machine.specs.Memory.{Slot, Variable, fresh, is_variable, variable_slots, no_slot, with_variable, at_number, as_gone, gone_at}
use Rattle.soundness.specs.OwnedWays.Ways.{OfVariable}

bool_cases : (b : Bool) → (b ≡ true) ⊎ (b ≡ false)
bool_cases true = inl refl
bool_cases false = inr refl

both_parts : (a b : Bool) → a && b ≡ true → (a ≡ true) × (b ≡ true)
both_parts true b e = (refl, e)
both_parts false b e = absurd (false≢true e)

both_true : (a b : Bool) → a ≡ true → b ≡ true → a && b ≡ true
both_true a b e f = ap (λ x. x && b) e ∙ f

is_false : (b : Bool) → (b ≡ true → ⊥) → b ≡ false
is_false true e = absurd (e refl)
is_false false e = refl

-- ---- variables

pub itself : (f x : ℕ) (slots : List Slot) → is_variable f x (record { frame = f; object = x; slots = slots }) ≡ true
itself f x slots = both_true (f == f) (x == x) (eq-eqb f f refl) (eq-eqb x x refl)

-- a variable is at most one
pub not_two : (f x g y : ℕ) → (OfVariable f x ≡ OfVariable g y → ⊥) → (v : Variable) → is_variable f x v ≡ true → is_variable g y v ≡ false
not_two f x g y ne v e = is_false (is_variable g y v) (λ h. (
    let a = both_parts (v.frame == f) (v.object == x) e in
    let b = both_parts (v.frame == g) (v.object == y) h in
    let ff = eqb-true v.frame f a.0 in
    let gg = eqb-true v.frame g b.0 in
    let xx = eqb-true v.object x a.1 in
    let yy = eqb-true v.object y b.1 in
    let frames : f ≡ g = sym ff ∙ gg in
    let objects : x ≡ y = sym xx ∙ yy in
    ne cc))

module _ (s : Typing) where
  pub found_first : (f x : ℕ) (v : Variable) (rest : List Variable) → is_variable f x v ≡ true → variable_slots s f x (v ∷ rest) ≡ v.slots
  found_first f x v rest e = ap (λ b. if b then v.slots else variable_slots s f x rest) e

  pub found_later : (f x : ℕ) (v : Variable) (rest : List Variable) → is_variable f x v ≡ false → variable_slots s f x (v ∷ rest) ≡ variable_slots s f x rest
  found_later f x v rest e = ap (λ b. if b then v.slots else variable_slots s f x rest) e

  pub put_same : (f x : ℕ) (slots : List Slot) (vs : List Variable) → variable_slots s f x (with_variable f x slots vs) ≡ slots
  put_same f x slots [] = found_first f x (record { frame = f; object = x; slots = slots }) [] (itself f x slots)
  put_same f x slots (v ∷ rest) = elim (bool_cases (is_variable f x v)) [
    | inl e ↦ ap (λ b. variable_slots s f x (if b then record v { slots = slots } ∷ rest else v ∷ with_variable f x slots rest)) e
        ∙ found_first f x (record v { slots = slots }) rest e
    | inr e ↦ ap (λ b. variable_slots s f x (if b then record v { slots = slots } ∷ rest else v ∷ with_variable f x slots rest)) e
        ∙ found_later f x v (with_variable f x slots rest) e
        ∙ put_same f x slots rest
  ]

  pub put_other : (f x g y : ℕ) → (OfVariable f x ≡ OfVariable g y → ⊥) → (slots : List Slot) (vs : List Variable)
      → variable_slots s g y (with_variable f x slots vs) ≡ variable_slots s g y vs
  put_other f x g y ne slots [] =
      found_later g y (record { frame = f; object = x; slots = slots }) []
      (not_two f x g y ne (record { frame = f; object = x; slots = slots }) (itself f x slots))
  put_other f x g y ne slots (v ∷ rest) = elim (bool_cases (is_variable f x v)) [
    | inl e ↦ (
        let isnt = not_two f x g y ne v e in
        ap (λ b. variable_slots s g y (if b then record v { slots = slots } ∷ rest else v ∷ with_variable f x slots rest)) e
        ∙ found_later g y (record v { slots = slots }) rest isnt
        ∙ sym (found_later g y v rest isnt))
    | inr e ↦ ap (λ b. variable_slots s g y (if b then record v { slots = slots } ∷ rest else v ∷ with_variable f x slots rest)) e
        ∙ ap (λ z. if is_variable g y v then v.slots else z) (put_other f x g y ne slots rest)
  ]

  -- a variable that is removed has what an object without a value has
  pub removed_same : (f x : ℕ) (vs : List Variable)
      → variable_slots s f x (filter (λ v. not (is_variable f x v)) vs) ≡ fresh (default s.table (object_at s x).of)
  removed_same f x [] = refl
  removed_same f x (v ∷ rest) = elim (bool_cases (is_variable f x v)) [
    | inl e ↦ ap (λ b. variable_slots s f x (cond (not b) (v ∷ filter (λ v. not (is_variable f x v)) rest) (filter (λ v. not (is_variable f x v)) rest))) e
        ∙ removed_same f x rest
    | inr e ↦ ap (λ b. variable_slots s f x (cond (not b) (v ∷ filter (λ v. not (is_variable f x v)) rest) (filter (λ v. not (is_variable f x v)) rest))) e
        ∙ found_later f x v (filter (λ v. not (is_variable f x v)) rest) e
        ∙ removed_same f x rest
  ]

  pub removed_other : (f x g y : ℕ) → (OfVariable f x ≡ OfVariable g y → ⊥) → (vs : List Variable)
      → variable_slots s g y (filter (λ v. not (is_variable f x v)) vs) ≡ variable_slots s g y vs
  removed_other f x g y ne [] = refl
  removed_other f x g y ne (v ∷ rest) = elim (bool_cases (is_variable f x v)) [
    | inl e ↦ ap (λ b. variable_slots s g y (cond (not b) (v ∷ filter (λ v. not (is_variable f x v)) rest) (filter (λ v. not (is_variable f x v)) rest))) e
        ∙ removed_other f x g y ne rest
        ∙ sym (found_later g y v rest (not_two f x g y ne v e))
    | inr e ↦ ap (λ b. variable_slots s g y (cond (not b) (v ∷ filter (λ v. not (is_variable f x v)) rest) (filter (λ v. not (is_variable f x v)) rest))) e
        ∙ ap (λ z. if is_variable g y v then v.slots else z) (removed_other f x g y ne rest)
  ]

-- ---- cells

pub at_same : {A : Type 0} (n : ℕ) (f : A → A) (xs : List A) (d : A) → n < length xs → get_or (at_number n f xs) n d ≡ f (get_or xs n d)
at_same n f [] d lt = absurd (omega (arith, lt))
at_same zero f (x ∷ xs) d lt = refl
at_same (suc n) f (x ∷ xs) d lt = at_same n f xs d (omega (arith, lt))

pub at_other : {A : Type 0} (n k : ℕ) (f : A → A) (xs : List A) (d : A) → (n ≡ k → ⊥) → get_or (at_number n f xs) k d ≡ get_or xs k d
at_other n k f [] d ne = refl
at_other zero zero f (x ∷ xs) d ne = absurd (ne refl)
at_other zero (suc k) f (x ∷ xs) d ne = refl
at_other (suc n) zero f (x ∷ xs) d ne = refl
at_other (suc n) (suc k) f (x ∷ xs) d ne = at_other n k f xs d (λ e. ne (ap suc e))

pub at_length : {A : Type 0} (n : ℕ) (f : A → A) (xs : List A) → length (at_number n f xs) ≡ length xs
at_length n f [] = refl
at_length zero f (x ∷ xs) = refl
at_length (suc n) f (x ∷ xs) = ap suc (at_length n f xs)

-- ---- slots of a list changed from an offset on

module _ (all slots : List Slot) (at : ℕ) (room : at + length slots ≤ length all) where
  abbrev changed : List Slot
  changed = take at all ++ (slots ++ drop (at + length slots) all)

  joined : take at all ++ slots ++ drop (at + length slots) all ≡ take at all ++ (slots ++ drop (at + length slots) all)
  joined = append_assoc (take at all) slots (drop (at + length slots) all)

  front : length (take at all) ≡ at
  front = length-take-le at all (omega (arith, room))

  pub changed_inside : (i : ℕ) → i < length slots → get_or (take at all ++ slots ++ drop (at + length slots) all) (at + i) no_slot ≡ get_or slots i no_slot
  changed_inside i lt =
      ap (λ z. get_or z (at + i) no_slot) joined
      ∙ ap (λ n. get_or changed (n + i) no_slot) (sym front)
      ∙ get_or-append-add (take at all) (slots ++ drop (at + length slots) all) i no_slot
      ∙ get_or_append_left slots (drop (at + length slots) all) no_slot i lt

  pub changed_outside : (o : ℕ) → (o < at) ⊎ (at + length slots ≤ o)
      → get_or (take at all ++ slots ++ drop (at + length slots) all) o no_slot ≡ get_or all o no_slot
  changed_outside o (inl lt) =
      ap (λ z. get_or z o no_slot) joined
      ∙ get_or_append_left (take at all) (slots ++ drop (at + length slots) all) no_slot o (let e = front in omega (arith, lt, e))
      ∙ get_or-take at all o no_slot lt
  changed_outside o (inr le) =
      let split : o ≡ at + (length slots + (o - (at + length slots))) = omega (arith, le) in
      ap (λ z. get_or z o no_slot) joined
      ∙ ap (λ n. get_or changed n no_slot) split
      ∙ ap (λ n. get_or changed (n + (length slots + (o - (at + length slots)))) no_slot) (sym front)
      ∙ get_or-append-add (take at all) (slots ++ drop (at + length slots) all) (length slots + (o - (at + length slots))) no_slot
      ∙ get_or-append-add slots (drop (at + length slots) all) (o - (at + length slots)) no_slot
      ∙ get_or-drop (at + length slots) all (o - (at + length slots)) no_slot
      ∙ ap (λ n. get_or all n no_slot) (let e : at + length slots + (o - (at + length slots)) ≡ o = omega (arith, le) in e)

-- ---- marks

-- words stay, and what isn't marked stays as it was
pub marked_word : (os : List ℕ) (slots : List Slot) (o : ℕ) → (get_or (gone_at os slots) o no_slot).word ≡ (get_or slots o no_slot).word
marked_word [] slots o = refl
marked_word (n ∷ rest) slots o = marked_word rest (at_number n as_gone slots) o ∙ one_word n slots o
  where
    one_word : (n : ℕ) (slots : List Slot) (o : ℕ) → (get_or (at_number n as_gone slots) o no_slot).word ≡ (get_or slots o no_slot).word
    one_word n [] o = refl
    one_word zero (x ∷ xs) zero = refl
    one_word zero (x ∷ xs) (suc o) = refl
    one_word (suc n) (x ∷ xs) zero = refl
    one_word (suc n) (x ∷ xs) (suc o) = one_word n xs o

pub marked_length : (os : List ℕ) (slots : List Slot) → length (gone_at os slots) ≡ length slots
marked_length [] slots = refl
marked_length (n ∷ rest) slots = marked_length rest (at_number n as_gone slots) ∙ at_length n as_gone slots

pub still_gone : (os : List ℕ) (slots : List Slot) (o : ℕ) → (get_or slots o no_slot).gone ≡ true → (get_or (gone_at os slots) o no_slot).gone ≡ true
still_gone [] slots o e = e
still_gone (n ∷ rest) slots o e = still_gone rest (at_number n as_gone slots) o (one n slots o e)
  where
    one : (n : ℕ) (slots : List Slot) (o : ℕ) → (get_or slots o no_slot).gone ≡ true → (get_or (at_number n as_gone slots) o no_slot).gone ≡ true
    one n [] o e = e
    one zero (x ∷ xs) zero e = refl
    one zero (x ∷ xs) (suc o) e = e
    one (suc n) (x ∷ xs) zero e = e
    one (suc n) (x ∷ xs) (suc o) e = one n xs o e

pub marked_gone : (os : List ℕ) (slots : List Slot) (o : ℕ) → Has os o → o < length slots → (get_or (gone_at os slots) o no_slot).gone ≡ true
marked_gone [] slots o h lt = absurd h
marked_gone (n ∷ rest) slots o (inl e) lt =
    still_gone rest (at_number n as_gone slots) o
    (subst (λ k. (get_or (at_number k as_gone slots) o no_slot).gone ≡ true) (sym e) (ap (λ (x : Slot). x.gone) (at_same o as_gone slots no_slot lt)))
marked_gone (n ∷ rest) slots o (inr h) lt =
    let same = at_length n as_gone slots in
    marked_gone rest (at_number n as_gone slots) o h (omega (arith, lt, same))
