-- The law: codes give the same over both heaps, but for the names of cells.
use Rattle.std.proofs.Common.{◌≡◌, refl, sym, ap, ◌∙◌, subst, ℕ, ◌+◌, Bool, true, false, not, List, slice_get, Some, ℤ, if◌then◌else◌}
use Rattle.std.specs.Prelude.{unsigned_abs}
use Rattle.numbered_cells.specs.run_values.declared.value.Kind.{Kind}
use Rattle.numbered_cells.specs.run_values.declared.value.Kind.TheVariants as sort
use Rattle.numbered_cells.specs.run_values.Items.{at_end}
use Rattle.numbered_cells.specs.run_codes.Codes.{Code, Number, Local, Global, Via, Scaled, Plus, Unary, Binary, Short, IsNull, Waiting, EndOfFile, Nothing}
use Rattle.numbered_cells.specs.run_codes.Flat.{Flat, Got, Given, and_then, found, truth, is_zero, operated, operated_alone, decides, offset, scaled}
use Rattle.numbered_cells.specs.run_codes.Flat as flat
use Rattle.handled_runs.specs.Slots.{Slots}
use Rattle.handled_runs.specs.Slots as slots
use Rattle.handled_runs.specs.Beside.{GotsAlike, handle_word, renamed, Beside}
use Rattle.handled_runs.specs.Looks.{IsData, IsNumber, Looks, IsClear}
use Rattle.handled_runs.proofs.Gots.{gots_mapped, gots_same, gots_on, gots_then}
use Rattle.handled_runs.proofs.Named.{slice_renamed, zero_same, behind_gots}
use Rattle.handled_runs.proofs.Kept.{word_kept}

number_same : (handles : List ℕ) (k : Kind) (z : ℤ) → IsNumber k z → z ≡ renamed handles k z
number_same handles sort.Int z is = refl
number_same handles sort.Enum z is = refl
number_same handles sort.Access z is = subst (λ x. x ≡ handle_word handles x) (sym is) refl

pub data_renamed : (handles : List ℕ) (k : Kind) (z : ℤ) → IsData k → renamed handles k z ≡ z
data_renamed handles sort.Int z is = refl
data_renamed handles sort.Enum z is = refl
data_renamed handles sort.Access z is = absurd is

module _ (handles : List ℕ) (kinds taken : List Kind) (m : Flat) (s : Slots) (beside : Beside handles kinds taken m s) (clear : IsClear kinds taken m) where
  abbrev pub Words : Kind → Got ℤ → Got ℤ → Type 0
  Words k = GotsAlike (λ a b. b ≡ renamed handles k a)

  abbrev pub Same : Got ℤ → Got ℤ → Type 0
  Same = GotsAlike (λ a b. b ≡ a)

  pub of_data : (k : Kind) → IsData k → (x y : Got ℤ) → Words k x y → Same x y
  of_data k is x y = gots_on (λ a b. b ≡ renamed handles k a) (λ a b. b ≡ a) x y (λ a b e. e ∙ data_renamed handles k a is)

  as_data : (k : Kind) → IsData k → (x y : Got ℤ) → Same x y → Words k x y
  as_data k is x y = gots_on (λ a b. b ≡ a) (λ a b. b ≡ renamed handles k a) x y (λ a b e. e ∙ sym (data_renamed handles k a is))

  -- what follows a word that is the same
  same_then : {A B : Type 0} (S : A → B → Type 0) (x y : Got ℤ) (F : ℤ → Got A) (G : ℤ → Got B) → Same x y → ((a : ℤ) → x ≡ Given a → GotsAlike S (F a) (G a)) → GotsAlike S (and_then x F) (and_then y G)
  same_then S x y F G same on = gots_then (λ a b. b ≡ a) S x y F G same (λ a b found e. subst (λ c. GotsAlike S (F a) (G c)) (sym e) (on a found))

  stack_word : (n i : ℕ) (k : Kind) → n ≡ i → slice_get kinds i ≡ Some k → Words k (found (slice_get m.stack i)) (found (slice_get s.stack n))
  stack_word n i k same kind =
      gots_mapped (renamed handles k) (found (slice_get m.stack i)) (found (slice_get s.stack n))
      (ap (λ j. found (slice_get s.stack j)) same ∙ (ap (λ zs. found (slice_get zs i)) beside.stack ∙ slice_renamed handles kinds m.stack i k kind))

  short_gots : (x : ℤ) (b : Bool) (y w : Got ℤ) → (b ≡ false → Same y w) → b ≡ b → Same (if b then Given x else y) (if b then Given x else w)
  short_gots x true y w same e = refl
  short_gots x false y w same e = same refl

  mutual
    unfolding flat.word flat.indexes slots.word slots.indexes Looks

    pub word_gots : (c : Code) (k : Kind) → Looks m kinds taken c k → Words k (flat.word m c) (slots.word s c)
    word_gots (Number z) k looks = number_same handles k z looks
    word_gots (Local at i) k looks =
        same_then (λ a b. b ≡ renamed handles k a) (flat.word m i) (slots.word s i) (λ o. found (slice_get m.stack (m.base + at + unsigned_abs o))) (λ o. found (slice_get s.stack (s.base + at + unsigned_abs o)))
        (of_data sort.Int tt (flat.word m i) (slots.word s i) (word_gots i sort.Int looks.0))
        (λ o at_index. stack_word (s.base + at + unsigned_abs o) (m.base + at + unsigned_abs o) k (ap (λ b. b + at + unsigned_abs o) beside.base) (looks.1 o at_index))
    word_gots (Global at i) k looks =
        same_then (λ a b. b ≡ renamed handles k a) (flat.word m i) (slots.word s i) (λ o. found (slice_get m.stack (at + unsigned_abs o))) (λ o. found (slice_get s.stack (at + unsigned_abs o)))
        (of_data sort.Int tt (flat.word m i) (slots.word s i) (word_gots i sort.Int looks.0))
        (λ o at_index. stack_word (at + unsigned_abs o) (at + unsigned_abs o) k refl (looks.1 o at_index))
    word_gots (Via p at i j) k looks =
        same_then (λ a b. b ≡ renamed handles k a) (flat.indexes m p) (slots.indexes s p)
        (λ x. and_then (flat.word m i) (λ o. and_then (flat.word m p) (flat.behind m (at + unsigned_abs o) j))) (λ x. and_then (slots.word s i) (λ o. and_then (slots.word s p) (slots.behind s (at + unsigned_abs o) j)))
        (indexes_gots p sort.Access looks.2)
        (λ x at_indexes.
        same_then (λ a b. b ≡ renamed handles k a) (flat.word m i) (slots.word s i) (λ o. and_then (flat.word m p) (flat.behind m (at + unsigned_abs o) j)) (λ o. and_then (slots.word s p) (slots.behind s (at + unsigned_abs o) j))
        (of_data sort.Int tt (flat.word m i) (slots.word s i) (word_gots i sort.Int looks.1))
        (λ o at_index.
        gots_then (λ a b. b ≡ handle_word handles a) (λ a b. b ≡ renamed handles k a) (flat.word m p) (slots.word s p) (flat.behind m (at + unsigned_abs o) j) (slots.behind s (at + unsigned_abs o) j)
        (word_gots p sort.Access looks.2)
        (λ z w at_word same.
        subst (λ v. GotsAlike (λ a b. b ≡ renamed handles k a) (flat.behind m (at + unsigned_abs o) j z) (slots.behind s (at + unsigned_abs o) j v)) (sym same)
        (subst (λ q. GotsAlike (λ a b. b ≡ renamed handles q a) (flat.behind m (at + unsigned_abs o) j z) (slots.behind s (at + unsigned_abs o) j (handle_word handles z))) looks.0
        (behind_gots handles kinds taken m s beside (at + unsigned_abs o) j z (word_kept kinds taken m clear p z looks.2 at_word))))))
    word_gots (Scaled i low high size) k looks =
        as_data k looks.0 (flat.word m (Scaled i low high size)) (slots.word s (Scaled i low high size))
        (same_then (λ a b. b ≡ a) (flat.word m i) (slots.word s i) (scaled low high size) (scaled low high size) (of_data sort.Int tt (flat.word m i) (slots.word s i) (word_gots i sort.Int looks.1))
        (λ o e. gots_same (scaled low high size o) (scaled low high size o) refl))
    word_gots (Plus a b) k looks =
        as_data k looks.0 (flat.word m (Plus a b)) (slots.word s (Plus a b))
        (same_then (λ a b. b ≡ a) (flat.word m a) (slots.word s a) (λ x. and_then (flat.word m b) (λ y. offset (unsigned_abs x + unsigned_abs y))) (λ x. and_then (slots.word s b) (λ y. offset (unsigned_abs x + unsigned_abs y)))
        (of_data sort.Int tt (flat.word m a) (slots.word s a) (word_gots a sort.Int looks.1))
        (λ x e. same_then (λ a b. b ≡ a) (flat.word m b) (slots.word s b) (λ y. offset (unsigned_abs x + unsigned_abs y)) (λ y. offset (unsigned_abs x + unsigned_abs y))
        (of_data sort.Int tt (flat.word m b) (slots.word s b) (word_gots b sort.Int looks.2)) (λ y f. gots_same (offset (unsigned_abs x + unsigned_abs y)) (offset (unsigned_abs x + unsigned_abs y)) refl)))
    word_gots (Unary op a) k looks =
        as_data k looks.0 (flat.word m (Unary op a)) (slots.word s (Unary op a))
        (same_then (λ a b. b ≡ a) (flat.word m a) (slots.word s a) (operated_alone op) (operated_alone op) (of_data looks.1 looks.2 (flat.word m a) (slots.word s a) (word_gots a looks.1 looks.3))
        (λ x e. gots_same (operated_alone op x) (operated_alone op x) refl))
    word_gots (Binary op a b) k looks =
        as_data k looks.0 (flat.word m (Binary op a b)) (slots.word s (Binary op a b))
        (same_then (λ a b. b ≡ a) (flat.word m a) (slots.word s a) (λ x. and_then (flat.word m b) (operated op x)) (λ x. and_then (slots.word s b) (operated op x))
        (of_data looks.1.0 looks.1.1 (flat.word m a) (slots.word s a) (word_gots a looks.1.0 looks.1.2))
        (λ x e. same_then (λ a b. b ≡ a) (flat.word m b) (slots.word s b) (operated op x) (operated op x)
        (of_data looks.2.0 looks.2.1 (flat.word m b) (slots.word s b) (word_gots b looks.2.0 looks.2.2)) (λ y f. gots_same (operated op x y) (operated op x y) refl)))
    word_gots (Short op a b) k looks =
        as_data k looks.0 (flat.word m (Short op a b)) (slots.word s (Short op a b))
        (same_then (λ a b. b ≡ a) (flat.word m a) (slots.word s a) (λ x. if decides op x then Given x else flat.word m b) (λ x. if decides op x then Given x else slots.word s b)
        (of_data looks.1.0 looks.1.1 (flat.word m a) (slots.word s a) (word_gots a looks.1.0 looks.1.2))
        (λ x e. short_gots x (decides op x) (flat.word m b) (slots.word s b) (λ no. of_data looks.2.0 looks.2.1 (flat.word m b) (slots.word s b) (word_gots b looks.2.0 looks.2.2)) refl))
    word_gots (IsNull equal p) k looks =
        as_data k looks.0 (flat.word m (IsNull equal p)) (slots.word s (IsNull equal p))
        (gots_then (λ a b. b ≡ handle_word handles a) (λ a b. b ≡ a) (flat.word m p) (slots.word s p) (λ w. Given (truth (if is_zero w then equal else not equal))) (λ w. Given (truth (if is_zero w then equal else not equal)))
        (word_gots p sort.Access looks.1)
        (λ z w e same. ap (λ v. truth (if is_zero v then equal else not equal)) same ∙ ap (λ b. truth (if b then equal else not equal)) (zero_same handles z (word_kept kinds taken m clear p z looks.1 e))))
    word_gots (Waiting at) k looks =
        gots_mapped (renamed handles k) (found (slice_get m.waits at)) (found (slice_get s.waits at)) (ap (λ zs. found (slice_get zs at)) beside.waits ∙ slice_renamed handles taken m.waits at k looks)
    word_gots EndOfFile k looks =
        as_data k looks (flat.word m EndOfFile) (slots.word s EndOfFile) (ap (λ r. truth (at_end r)) beside.rest)
    word_gots Nothing k looks = tt

    pub indexes_gots : (c : Code) (k : Kind) → Looks m kinds taken c k → Same (flat.indexes m c) (slots.indexes s c)
    indexes_gots (Local at i) k looks = of_data sort.Int tt (flat.word m i) (slots.word s i) (word_gots i sort.Int looks.0)
    indexes_gots (Global at i) k looks = of_data sort.Int tt (flat.word m i) (slots.word s i) (word_gots i sort.Int looks.0)
    indexes_gots (Via p at i j) k looks =
        same_then (λ a b. b ≡ a) (flat.indexes m p) (slots.indexes s p) (λ x. flat.word m i) (λ x. slots.word s i) (indexes_gots p sort.Access looks.2)
        (λ x e. of_data sort.Int tt (flat.word m i) (slots.word s i) (word_gots i sort.Int looks.1))
    indexes_gots c k looks = refl

  pub index_gots : (c : Code) → Looks m kinds taken c sort.Int → Same (flat.word m c) (slots.word s c)
  index_gots c looks = of_data sort.Int tt (flat.word m c) (slots.word s c) (word_gots c sort.Int looks)
