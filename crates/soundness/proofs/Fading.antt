-- An evaluation stores nothing in variables: their words stay, and what is gone stays gone.
use Rattle.std.proofs.Common.{◌≡◌, refl, sym, ap, ◌∙◌, subst, inl, inr, ℕ, zero, suc, ◌+◌, ◌-◌, ◌<◌, ◌≤◌, Bool, true, false, not, ◌&&◌, List, [], ◌∷◌, ◌++◌, take, drop, length, get_or, arith, length-drop, append-nil, Option, Some, None, ℤ, ◌-ℤ◌, int_le, unsigned_abs, if◌then◌else◌}
use Rattle.std.specs.Prelude.{nat_le}
use Rattle.std.proofs.lemmas.List.{get_or-take, get_or-drop}
use Rattle.std.proofs.lemmas.Bool.{cases_lt}
use Rattle.machine.specs.type_definitions.Types.{shape_of, words, is_owning}
use Rattle.machine.specs.type_definitions.declared.table.Static.{Static}
use Rattle.machine.specs.resolved_tree.declared.operator.Operator.{Operator}
use Rattle.machine.specs.resolved_tree.declared.operator.UnaryOperator.{UnaryOperator}
use Rattle.machine.specs.typed_tree.Trees.{TypedTree, Number, Literal, Name, Component as IntoComponent, Designated, Element, Call, EndOfFile, Parens, Unary, Binary, Short, IsNull, Aggregate, Alike, New, More}
use Rattle.machine.specs.typed_tree.Trees as typed
use Rattle.machine.specs.flow_paths.Objects.{Typing, designated}
use Rattle.machine.specs.flow_paths.Names.{has_call}
use Rattle.machine.specs.Words.{access_offsets, fits_type}
use Rattle.machine.specs.Words as machine
use Rattle.machine.specs.Memory.{Slot, Memory, Base, Place, variable_slots, cell, no_slot, slots_at, slots_of, moved_out, gone_at, with_variable, live_words, with_new_cell}
use Rattle.machine.specs.Memory as memory
use Rattle.machine.specs.Evaluate.{Here, Now, Use, AsValue, AsView, Evaluated, Done, Raises, Traps, followed_by, evaluate, steps_of, parts_of, initial, checked, allocated, walked, stepped, designated_place, held_or_taken, operated, operated_alone, given, indexed, decides, heap_words, StorageError, ConstraintError, Touched}
use Rattle.machine.specs.Evaluate as run
use Rattle.soundness.specs.OwnedWays.Ways.{OfVariable, OfRoot}
use Rattle.soundness.proofs.OwnedWays.Locations.{same_loc}
use Rattle.soundness.proofs.Memories.{put_same, put_other, changed_inside, changed_outside, marked_word, marked_length, still_gone}
use Rattle.soundness.proofs.Parted.{loc_frames, loc_objects, by_either}

-- the word is the same, and what is gone stays gone
pub record Fainter (a b : Slot) : Type 0 where
  pub word : b.word ≡ a.word
  pub gone : a.gone ≡ true → b.gone ≡ true

same_slot : (a b : Slot) → b ≡ a → Fainter a b
same_slot a b e = record { word = ap (λ (x : Slot). x.word) e; gone = λ g. ap (λ (x : Slot). x.gone) e ∙ g }

-- ---- lists

take_past : {A : Type 0} (xs : List A) (n : ℕ) → length xs ≤ n → take n xs ≡ xs
take_past [] zero le = refl
take_past [] (suc n) le = refl
take_past (x ∷ xs) zero le = absurd (omega (arith, le))
take_past (x ∷ xs) (suc n) le = ap (λ z. x ∷ z) (take_past xs n (omega (arith, le)))

drop_past : {A : Type 0} (xs : List A) (n : ℕ) → length xs ≤ n → drop n xs ≡ []
drop_past [] zero le = refl
drop_past [] (suc n) le = refl
drop_past (x ∷ xs) zero le = absurd (omega (arith, le))
drop_past (x ∷ xs) (suc n) le = drop_past xs n (omega (arith, le))

take_less : {A : Type 0} (n : ℕ) (xs : List A) → (length (take n xs) ≤ n) × (length (take n xs) ≤ length xs)
take_less zero [] = (omega arith, omega arith)
take_less zero (x ∷ xs) = (omega arith, omega arith)
take_less (suc n) [] = (omega arith, omega arith)
take_less (suc n) (x ∷ xs) = let rest = take_less n xs in (let a = rest.0 in omega (arith, a), let b = rest.1 in omega (arith, b))

no_length : {A : Type 0} (xs : List A) → length xs ≡ 0 → xs ≡ []
no_length [] e = refl
no_length (x ∷ xs) e = absurd (omega (arith, e))

-- marks in a list, wherever they are put
module _ (all : List Slot) (at w : ℕ) (os : List ℕ) where
  abbrev marks : List Slot
  marks = gone_at os (take w (drop at all))

  abbrev marked : List Slot
  marked = take at all ++ marks ++ drop (at + length marks) all

  many : length marks ≡ length (take w (drop at all))
  many = marked_length os (take w (drop at all))

  within : at ≤ length all → (o : ℕ) → Fainter (get_or all o no_slot) (get_or marked o no_slot)
  within le o =
      let less = take_less w (drop at all) in
      let left : length (drop at all) ≡ length all - at = length-drop at all in
      let n = many in
      let b = less.1 in
      let room : at + length marks ≤ length all = omega (arith, le, left, n, b) in
      elim (cases_lt o at) [
        | inl lt ↦ same_slot _ _ (changed_outside all marks at room o (inl lt))
        | inr ge ↦ elim (cases_lt o (at + length marks)) [
          | inr more ↦ same_slot _ _ (changed_outside all marks at room o (inr more))
          | inl lt ↦ inside room (o - at) (omega (arith, lt, ge)) (omega (arith, ge))
        ]
      ]
    where
      inside : at + length marks ≤ length all → (i : ℕ) → i < length marks → o ≡ at + i → Fainter (get_or all o no_slot) (get_or marked o no_slot)
      inside room i lt e =
          let less = take_less w (drop at all) in
          let a = less.0 in
          let n = many in
          let there : get_or marked o no_slot ≡ get_or marks i no_slot = ap (λ z. get_or marked z no_slot) e ∙ changed_inside all marks at room i lt in
          let old : get_or (take w (drop at all)) i no_slot ≡ get_or all o no_slot =
          get_or-take w (drop at all) i no_slot (omega (arith, a, n, lt)) ∙ get_or-drop at all i no_slot ∙ ap (λ z. get_or all z no_slot) (sym e) in
          record {
            word = ap (λ (x : Slot). x.word) there ∙ marked_word os (take w (drop at all)) i ∙ ap (λ (x : Slot). x.word) old;
            gone = λ g. ap (λ (x : Slot). x.gone) there ∙ still_gone os (take w (drop at all)) i (ap (λ (x : Slot). x.gone) old ∙ g);
          }

  past : length all ≤ at → marked ≡ all
  past le =
      let rest : drop at all ≡ [] = drop_past all at le in
      let less = take_less w (drop at all) in
      let b = less.1 in
      let n = many in
      let left : length (drop at all) ≡ length all - at = length-drop at all in
      let none : marks ≡ [] = no_length marks (omega (arith, b, n, left, le)) in
      (λ j. take at all ++ none j ++ drop (at + length (none j)) all)
      ∙ ap (λ z. z ++ [] ++ drop (at + 0) all) (take_past all at le)
      ∙ ap (λ z. z ++ drop (at + 0) all) (append-nil all)
      ∙ ap (λ z. all ++ z) (drop_past all (at + 0) (omega (arith, le)))
      ∙ append-nil all

  pub fainter : (o : ℕ) → Fainter (get_or all o no_slot) (get_or marked o no_slot)
  fainter o = elim (cases_lt at (length all)) [
    | inl lt ↦ within (omega (arith, lt)) o
    | inr le ↦ same_slot _ _ (ap (λ z. get_or z o no_slot) (past le))
  ]

-- ---- memories

module _ (s : Typing) where
  abbrev pub Fades : Memory → Memory → Type 0
  Fades m n = (f x o : ℕ) → Fainter (get_or (variable_slots s f x m.variables) o no_slot) (get_or (variable_slots s f x n.variables) o no_slot)

  pub still : (m : Memory) → Fades m m
  still m f x o = same_slot _ _ refl

  after_that : (a b c : Memory) → Fades a b → Fades b c → Fades a c
  after_that a b c p q f x o =
      let one = p f x o in let two = q f x o in record { word = two.word ∙ one.word; gone = λ g. two.gone (one.gone g) }

  moved_fades : (k : Place) (m : Memory) → Fades m (moved_out s k m)
  moved_fades k m f x o = by_base k.base refl
    where
      by_base : (b : Base) → k.base ≡ b → Fainter (get_or (variable_slots s f x m.variables) o no_slot) (get_or (variable_slots s f x (moved_out s k m).variables) o no_slot)
      by_base (memory.OfCell n) e =
          subst (λ z. Fainter (get_or (variable_slots s f x m.variables) o no_slot) (get_or (variable_slots s f x (memory.put z (take k.at (slots_at s m k.base) ++ gone_at (access_offsets s.table k.of) (slots_of s m k) ++ drop (k.at + length (gone_at (access_offsets s.table k.of) (slots_of s m k))) (slots_at s m k.base)) m).variables) o no_slot))
          (sym e) (same_slot _ _ refl)
      by_base (memory.OfVariable g y) e =
          subst (λ z. Fainter (get_or (variable_slots s f x m.variables) o no_slot) (get_or (variable_slots s f x
          (moved_out s (record { base = z; at = k.at; of = k.of }) m).variables) o no_slot)) (sym e)
          (by_either (same_loc (OfRoot (OfVariable f x)) (OfRoot (OfVariable g y)))
          (λ a. (
          let b : f ≡ g = loc_frames a in let c : x ≡ y = loc_objects a in
          subst (λ z. Fainter (get_or (variable_slots s z x m.variables) o no_slot) (get_or (variable_slots s z x (with_variable g y (change g y) m.variables)) o no_slot)) (sym b)
          (subst (λ z. Fainter (get_or (variable_slots s g z m.variables) o no_slot) (get_or (variable_slots s g z (with_variable g y (change g y) m.variables)) o no_slot)) (sym c)
          (subst (λ z. Fainter (get_or (variable_slots s g y m.variables) o no_slot) (get_or z o no_slot)) (sym (put_same s g y (change g y) m.variables))
          (fainter (variable_slots s g y m.variables) k.at (words s.table k.of) (access_offsets s.table k.of) o)))))
          (λ ne. (same_slot _ _ (ap (λ z. get_or z o no_slot) (put_other s g y f x (λ a. ne (ap OfRoot (sym a))) (change g y) m.variables)))))
        where
          change : ℕ → ℕ → List Slot
          change g y = marked (variable_slots s g y m.variables) k.at (words s.table k.of) (access_offsets s.table k.of)

-- ---- evaluations

module _ (h : Here) where
  abbrev pub FadesTo : {A : Type 0} → Memory → Evaluated A → Type 0
  FadesTo m (Done a n) = Fades h.typing m n.memory
  FadesTo m (Raises e n) = Unit {0}
  FadesTo m (Traps e n) = Unit {0}

  pub then_fades : {A B : Type 0} (m : Memory) (x : Evaluated A) (f : A → Now → Evaluated B) → FadesTo m x → ((a : A) (n : Now) → FadesTo n.memory (f a n))
      → FadesTo m (followed_by x f)
  then_fades {B = B} m (Done a n) f x next = onwards m n.memory (f a n) x (next a n)
    where
      onwards : (m n : Memory) (y : Evaluated B) → Fades h.typing m n → FadesTo n y → FadesTo m y
      onwards m n (Done b k) p q = after_that h.typing m n k.memory p q
      onwards m n (Raises e k) p q = tt
      onwards m n (Traps e k) p q = tt
  then_fades m (Raises e n) f x next = tt
  then_fades m (Traps e n) f x next = tt

  pub if_fades : {A : Type 0} (m : Memory) (b : Bool) (x y : Evaluated A) → FadesTo m x → FadesTo m y → FadesTo m (if b then x else y)
  if_fades m true x y p q = p
  if_fades m false x y p q = q

  designated_fades : (t : ℕ) (ws : List machine.Word) (n : Now) → FadesTo n.memory (designated_place t ws n)
  designated_fades t (machine.Cell c ∷ []) n = if_fades n.memory (cell n.memory c).freed (Traps Touched n) (Done (run.cell_place t c) n) tt (still h.typing n.memory)
  designated_fades t [] n = tt
  designated_fades t (machine.Cell c ∷ w ∷ ws) n = tt
  designated_fades t (machine.Int c ∷ ws) n = tt
  designated_fades t (machine.Enumerated c ∷ ws) n = tt
  designated_fades t (machine.Null ∷ ws) n = tt

  walked_fades : (way : List run.Step) (p : Place) (n : Now) → FadesTo n.memory (walked h.typing way p n)
  walked_fades [] p n = still h.typing n.memory
  walked_fades (run.ToComponent i ∷ way) p n = walked_fades way (run.component_place h.typing.table i p) n
  walked_fades (run.ToElement i ∷ way) p n = walked_fades way (run.element_place h.typing.table i p) n
  walked_fades (run.ToDesignated ∷ way) p n =
      then_fades n.memory (stepped h.typing run.ToDesignated p n) (walked h.typing way)
      (designated_fades (designated h.typing.table p.of) (memory.words_of h.typing n.memory p) n) (λ k n. walked_fades way k n)

  taken_fades : (u : Use) (k : Place) (n : Now) → FadesTo n.memory (held_or_taken h u k n)
  taken_fades AsView k n = still h.typing n.memory
  taken_fades AsValue k n = by_test (is_owning h.typing.table k.of)
    where
      by_test : (b : Bool) → Fades h.typing n.memory (if b then record n { memory = moved_out h.typing k n.memory } else n).memory
      by_test true = moved_fades h.typing k n.memory
      by_test false = still h.typing n.memory

  given_fades : (v : Option Static) (n : Now) → FadesTo n.memory (given v n)
  given_fades None n = tt
  given_fades (Some v) n = still h.typing n.memory

  operated_fades : (op : Operator) (a b : List machine.Word) (n : Now) → FadesTo n.memory (operated op a b n)
  operated_fades op (x ∷ []) (y ∷ []) n = given_fades _ n
  operated_fades op [] b n = tt
  operated_fades op (x ∷ y ∷ a) b n = tt
  operated_fades op (x ∷ []) [] n = tt
  operated_fades op (x ∷ []) (y ∷ z ∷ b) n = tt

  alone_fades : (op : UnaryOperator) (a : List machine.Word) (n : Now) → FadesTo n.memory (operated_alone op a n)
  alone_fades op (x ∷ []) n = given_fades _ n
  alone_fades op [] n = tt
  alone_fades op (x ∷ y ∷ a) n = tt

  indexed_fades : (low high : ℤ) (ws : List machine.Word) (n : Now) → FadesTo n.memory (indexed low high ws n)
  indexed_fades low high (machine.Int v ∷ []) n = if_fades n.memory (int_le low v && int_le v high) (Done (unsigned_abs (v -ℤ low)) n) (Raises ConstraintError n) (still h.typing n.memory) tt
  indexed_fades low high [] n = tt
  indexed_fades low high (machine.Int v ∷ w ∷ ws) n = tt
  indexed_fades low high (machine.Enumerated v ∷ ws) n = tt
  indexed_fades low high (machine.Null ∷ ws) n = tt
  indexed_fades low high (machine.Cell v ∷ ws) n = tt

  pub checked_fades : (t : ℕ) (ws : List machine.Word) (n : Now) → FadesTo n.memory (checked h t ws n)
  checked_fades t ws n = if_fades n.memory (fits_type h.typing.table t ws) (Done ws n) (Raises ConstraintError n) (still h.typing n.memory) tt

  allocated_fades : (t : ℕ) (ws : List machine.Word) (n : Now) → FadesTo n.memory (allocated t ws n)
  allocated_fades t ws n =
      if_fades n.memory (nat_le (live_words n.memory + length ws) heap_words)
      (Done (machine.Cell (suc (length n.memory.cells)) ∷ []) (record n { memory = with_new_cell t ws n.memory })) (Raises StorageError n)
      (λ f x o. same_slot _ _ refl) tt

  mutual
    unfolding evaluate steps_of parts_of initial

    pub fades : (u : Use) (e : TypedTree) (n : Now) → FadesTo n.memory (evaluate h u e n)
    fades u (Number v) n = still h.typing n.memory
    fades u (Literal v) n = still h.typing n.memory
    fades u typed.Null n = still h.typing n.memory
    fades u (Name p x steps t) n =
        then_fades n.memory (steps_of h steps n) (λ way n. followed_by (walked h.typing way (run.variable_place h x) n) (held_or_taken h u)) (steps_fade steps n)
        (λ way n. then_fades n.memory (walked h.typing way (run.variable_place h x) n) (held_or_taken h u) (walked_fades way (run.variable_place h x) n) (taken_fades u))
    fades u (Call p sub actuals) n = still h.typing n.memory
    fades u EndOfFile n = still h.typing n.memory
    fades u (Parens e) n = fades AsValue e n
    fades u (Unary op e) n = then_fades n.memory (evaluate h AsValue e n) (operated_alone op) (fades AsValue e n) (alone_fades op)
    fades u (Binary op a b) n =
        then_fades n.memory (evaluate h AsValue a n) (λ x n. followed_by (evaluate h AsValue b n) (operated op x)) (fades AsValue a n)
        (λ x n. then_fades n.memory (evaluate h AsValue b n) (operated op x) (fades AsValue b n) (operated_fades op x))
    fades u (Short op p a q b) n =
        if_fades n.memory (has_call b) (run.waited n) (followed_by (evaluate h AsValue a n) (λ x n. if decides op x then Done x n else evaluate h AsValue b n))
        (still h.typing n.memory)
        (then_fades n.memory (evaluate h AsValue a n) (λ x n. if decides op x then Done x n else evaluate h AsValue b n) (fades AsValue a n)
        (λ x n. if_fades n.memory (decides op x) (Done x n) (evaluate h AsValue b n) (still h.typing n.memory) (fades AsValue b n)))
    fades u (IsNull equal e) n =
        then_fades n.memory (evaluate h AsView e n) (λ ws n. Done (run.truth (if run.is_null ws then equal else not equal)) n) (fades AsView e n)
        (λ ws n. still h.typing n.memory)
    fades u (Aggregate t es) n = parts_fade t 0 es n
    fades u (Alike t e) n =
        then_fades n.memory (evaluate h AsValue e n) (λ ws n. followed_by (checked h (machine.element_type h.typing.table t) ws n)
        (λ ws n. Done (machine.repeated (machine.element_count h.typing.table t) ws) n)) (fades AsValue e n)
        (λ ws n. then_fades n.memory (checked h (machine.element_type h.typing.table t) ws n)
        (λ ws n. Done (machine.repeated (machine.element_count h.typing.table t) ws) n) (checked_fades (machine.element_type h.typing.table t) ws n)
        (λ ws n. still h.typing n.memory))
    fades u (New t (More e rest)) n =
        then_fades n.memory (followed_by (evaluate h AsValue e n) (checked h t)) (allocated t)
        (then_fades n.memory (evaluate h AsValue e n) (checked h t) (fades AsValue e n) (checked_fades t)) (allocated_fades t)
    fades u (New t e) n = allocated_fades t (machine.default h.typing.table t) n
    fades u e n = still h.typing n.memory

    pub steps_fade : (e : TypedTree) (n : Now) → FadesTo n.memory (steps_of h e n)
    steps_fade (IntoComponent i rest) n =
        then_fades n.memory (steps_of h rest n) (λ way n. Done (run.ToComponent i ∷ way) n) (steps_fade rest n) (λ way n. still h.typing n.memory)
    steps_fade (Designated rest) n =
        then_fades n.memory (steps_of h rest n) (λ way n. Done (run.ToDesignated ∷ way) n) (steps_fade rest n) (λ way n. still h.typing n.memory)
    steps_fade (Element index low high rest) n =
        then_fades n.memory (evaluate h AsValue index n) (λ ws n. followed_by (indexed low high ws n)
        (λ i n. followed_by (steps_of h rest n) (λ way n. Done (run.ToElement i ∷ way) n))) (fades AsValue index n)
        (λ ws n. then_fades n.memory (indexed low high ws n) (λ i n. followed_by (steps_of h rest n) (λ way n. Done (run.ToElement i ∷ way) n))
        (indexed_fades low high ws n)
        (λ i n. then_fades n.memory (steps_of h rest n) (λ way n. Done (run.ToElement i ∷ way) n) (steps_fade rest n) (λ way n. still h.typing n.memory)))
    steps_fade e n = still h.typing n.memory

    parts_fade : (t i : ℕ) (e : TypedTree) (n : Now) → FadesTo n.memory (parts_of h t i e n)
    parts_fade t i (More e rest) n =
        then_fades n.memory (evaluate h AsValue e n) (λ ws n. followed_by (checked h (run.part_type (shape_of h.typing.table t) i) ws n)
        (λ ws n. followed_by (parts_of h t (suc i) rest n) (λ more n. Done (ws ++ more) n))) (fades AsValue e n)
        (λ ws n. then_fades n.memory (checked h (run.part_type (shape_of h.typing.table t) i) ws n)
        (λ ws n. followed_by (parts_of h t (suc i) rest n) (λ more n. Done (ws ++ more) n))
        (checked_fades (run.part_type (shape_of h.typing.table t) i) ws n)
        (λ ws n. then_fades n.memory (parts_of h t (suc i) rest n) (λ more n. Done (ws ++ more) n) (parts_fade t (suc i) rest n) (λ more n. still h.typing n.memory)))
    parts_fade t i e n = still h.typing n.memory
