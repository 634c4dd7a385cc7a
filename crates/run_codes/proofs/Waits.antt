-- Values that wait, and expressions that take none.
use Rattle.std.proofs.Common.{◌≡◌, ℕ, zero, suc, ◌+◌, true, false, Bool, ◌||◌, List, [], ◌∷◌, length, get_or, take, drop, refl, sym, ap, subst, ◌∙◌, arith, Option, Some, None, slice_get, ℤ, if◌then◌else◌}
use Rattle.std.specs.Prelude.{◌==◌}
use Rattle.std.proofs.lemmas.List.{drop-drop}
use Rattle.machine.specs.type_definitions.Types.{words}
use Rattle.machine.specs.typed_tree.Trees.{TypedTree, Name, Component as IntoComponent, Designated, Element, Call, Parens, Image, Unary, Binary, Short, IsNull, Aggregate, Alike, New, More}
use Rattle.machine.specs.flow_paths.Names.{has_call, waiting}
use Rattle.machine.specs.Words.{Word}
use Rattle.machine.specs.Typed.{Sort, sorts}
use Rattle.machine.specs.Evaluate.{Done, waited}
use Rattle.run_codes.specs.Codes.{Waiting}
use Rattle.run_codes.specs.Flat.{found, word}
use Rattle.run_codes.specs.Lowered.{Site, is_nth, words_before_value}
use Rattle.run_codes.specs.Related.{Stands, IsValue, Seen, table, now, types, IsSeen, Same}
use Rattle.run_codes.proofs.Parts.{many, first_word}

-- ---- lists

get_dropped : {A : Type 0} (k : ℕ) (all : List A) (d : A) → get_or (drop k all) 0 d ≡ get_or all k d
get_dropped zero [] d = refl
get_dropped (suc k) [] d = refl
get_dropped zero (a ∷ all) d = refl
get_dropped (suc k) (a ∷ all) d = get_dropped k all d

-- A list of which one word is taken begins with it.
pub one_taken : (zs : List ℤ) (z : ℤ) → take 1 zs ≡ z ∷ [] → (rest : List ℤ) × (zs ≡ z ∷ rest)
one_taken [] z is = absurd (never z is)
  where
    never : (z : ℤ) → [] ≡ z ∷ [] → ⊥
    never z is = cc
one_taken (a ∷ zs) z is = (zs, ap (λ b. b ∷ zs) (same a z is))
  where
    same : (a z : ℤ) → a ∷ [] ≡ z ∷ [] → a ≡ z
    same a z is = cc

-- ---- values that the point takes

pub waited_is : (e : Seen) (k : ℕ) → waited (now e k) ≡ Done (get_or e.waits k []) (now e (k + 1))
waited_is e k =
    ap (λ ws. Done ws (record { memory = e.memory; waits = drop 1 (drop k e.waits) })) (get_dropped k e.waits [])
    ∙ ap (λ l. Done (get_or e.waits k []) (record { memory = e.memory; waits = l })) (drop-drop 1 k e.waits)

-- A value of one sort is one word.
pub record OneWord (e : Seen) (st : Sort) (ws : List Word) (zs : List ℤ) : Type 0 where
  pub w : Word
  pub z : ℤ
  pub words : ws ≡ w ∷ []
  pub numbers : zs ≡ z ∷ []
  pub stands : Stands (table e) (types e.memory) st w z

one_word : (e : Seen) (st : Sort) (ws : List Word) (zs : List ℤ) → IsValue (table e) (types e.memory) (st ∷ []) ws zs → OneWord e st ws zs
one_word e st (w ∷ []) (z ∷ []) is = record { w = w; z = z; words = refl; numbers = refl; stands = is.stand.0.0 }
one_word e st [] zs is = absurd is.stand
one_word e st (w ∷ []) [] is = absurd is.stand
one_word e st (w ∷ []) (z ∷ y ∷ zs) is = absurd (omega (arith, is.numbers))
one_word e st (w ∷ v ∷ ws) zs is = absurd (omega (arith, is.words))

-- The k-th value is of a type.
pub nth_there : (c : Site) (k t : ℕ) → is_nth c k t ≡ true → slice_get c.takes k ≡ Some t
nth_there c k t sure = by (slice_get c.takes k) refl sure
  where
    that : Option ℕ → Bool
    that None = false
    that (Some u) = u == t

    same : (u t : ℕ) → (u == t) ≡ true → u ≡ t
    same u t is = grind arith

    by : (o : Option ℕ) → slice_get c.takes k ≡ o → that o ≡ true → slice_get c.takes k ≡ Some t
    by None is sure = cc
    by (Some u) is sure = is ∙ ap Some (same u t sure)

pub waited_word : (e : Seen) → IsSeen e → (k t : ℕ) (st : Sort) → slice_get e.site.takes k ≡ Some t → sorts (table e) t ≡ st ∷ []
    → Same e st (k + 1) (waited (now e k)) (word e.flat (Waiting (words_before_value e.site k)))
unfolding word
waited_word e seen k t st there sort =
    let at : ℕ = words_before_value e.site k in
    let size : words (table e) t ≡ 1 = sym (many (table e) t) ∙ ap (λ (l : List Sort). length l) sort in
    let value : IsValue (table e) (types e.memory) (st ∷ []) (get_or e.waits k []) (take 1 (drop at e.flat.waits)) =
    subst (λ n. IsValue (table e) (types e.memory) (st ∷ []) (get_or e.waits k []) (take n (drop at e.flat.waits))) size
    (subst (λ l. IsValue (table e) (types e.memory) l (get_or e.waits k []) (take (words (table e) t) (drop at e.flat.waits))) sort (seen.waits k t there)) in
    let one = one_word e st (get_or e.waits k []) (take 1 (drop at e.flat.waits)) value in
    let first = one_taken (drop at e.flat.waits) one.z one.numbers in
    subst (λ g. Same e st (k + 1) (waited (now e k)) g) (sym (ap found (first_word at e.flat.waits first.0 one.z first.1)))
    (one.w, waited_is e k ∙ ap (λ ws. Done ws (now e (k + 1))) one.words, one.stands)

-- ---- expressions without a call take nothing

either_none : (a b : Bool) → (a || b) ≡ false → (a ≡ false) × (b ≡ false)
either_none false b is = (refl, is)
either_none true b is = absurd (never is)
  where
    never : true ≡ false → ⊥
    never x = cc

both_zero : (a b : ℕ) → a ≡ 0 → b ≡ 0 → a + b ≡ 0
both_zero a b x y = omega (arith, x, y)

pub takes_none : (e : TypedTree) → has_call e ≡ false → waiting e ≡ 0
unfolding has_call waiting
takes_none (Call p sub actuals) is = absurd (never is)
  where
    never : true ≡ false → ⊥
    never x = cc
takes_none (Name p x steps t) is = takes_none steps is
takes_none (IntoComponent i rest) is = takes_none rest is
takes_none (Designated rest) is = takes_none rest is
takes_none (Element index low high rest) is =
    let none = either_none (has_call index) (has_call rest) is in both_zero (waiting index) (waiting rest) (takes_none index none.0) (takes_none rest none.1)
takes_none (Image t e) is = takes_none e is
takes_none (Parens e) is = takes_none e is
takes_none (Unary op e) is = takes_none e is
takes_none (Binary op a b) is =
    let none = either_none (has_call a) (has_call b) is in both_zero (waiting a) (waiting b) (takes_none a none.0) (takes_none b none.1)
takes_none (Short op p a q b) is =
    let none = either_none (has_call a) (has_call b) is in
    ap (λ h. if h then 1 else waiting a + waiting b) none.1 ∙ both_zero (waiting a) (waiting b) (takes_none a none.0) (takes_none b none.1)
takes_none (IsNull equal e) is = takes_none e is
takes_none (Aggregate t parts) is = takes_none parts is
takes_none (Alike t e) is = takes_none e is
takes_none (New t v) is = takes_none v is
takes_none (More e rest) is =
    let none = either_none (has_call e) (has_call rest) is in both_zero (waiting e) (waiting rest) (takes_none e none.0) (takes_none rest none.1)
takes_none _ is = refl
