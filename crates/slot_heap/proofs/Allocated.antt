-- What the two ways to make a cell keep, in the words of the code.
use Rattle.std.proofs.Common.{◌≡◌, ℕ, ◌+◌, ◌-◌, ◌<◌, ◌≤◌, None, List, [], ◌∷◌, ◌++◌, length, take, drop, set, get_or, replicate, refl, sym, subst, ◌∙◌, arith, inl, length-append}
use Rattle.std.proofs.lemmas.List.{length-replicate}
use Rattle.std.proofs.lemmas.List.Edits.{sets-eq}
use Rattle.run_values.specs.declared.value.Value.{Value}
use Rattle.run_values.specs.declared.value.Value.TheVariants as value
use Rattle.slot_heap.specs.Heaps.{Heap, words_at, allocated, with_slot}
use Rattle.slot_heap.specs.Runs.{Kept, Stand, Has, Chain, link}
use Rattle.slot_heap.proofs.Held.{link_some, link_none, get_stands}
use Rattle.slot_heap.proofs.Made.{kept-reused, kept-new}

pub grown_within : {A : Type 0} (xs : List A) (n : ℕ) (x : A) → n < length (xs ++ replicate (n + 1 - length xs) x)
grown_within xs n x =
    let whole = length-append xs (replicate (n + 1 - length xs) x) in
    let more = length-replicate (n + 1 - length xs) x in
    omega (arith, whole, more)

-- The first free run, where there is one, is within the words.
pub reused_within : {W : Type 0} (IsCode : W → Value → Type 0) {words heads : List W} {m : Heap} (a n : ℕ) (k : Kept IsCode words heads m) → link (k.frees n) ≡ value.Cell a → a + n ≤ length words
reused_within IsCode a n k is =
    let first = link_some (k.frees n) a is in
    let has : Has (k.frees n) a = rw first.1 (inl refl) in
    (k.free n a has).run.within

reused_size : {W : Type 0} (IsCode : W → Value → Type 0) {words heads : List W} {m : Heap} (a : ℕ) (d : W) (new : List W) (ws : List Value) → length new ≡ length ws → Stand IsCode new 0 ws → (k : Kept IsCode words heads m) → link (k.frees (length ws)) ≡ value.Cell a → Kept IsCode (take a words ++ new ++ drop (a + length new) words) (set heads (length ws) (get_or words a d)) (allocated m a ws) × (words_at m.cells a ≡ None) × (with_slot (length ws) m ≡ m.slots)
reused_size IsCode {words} {heads} {m} a d new ws size codes k is =
    let first = link_some (k.frees (length ws)) a is in
    let rest = first.0 in
    let inside = reused_within IsCode a (length ws) k is in
    let P : List ℕ → Type 0 = λ l. Chain IsCode words l in
    let chain : Chain IsCode words (a ∷ rest) = subst P first.1 (k.chains (length ws)) in
    let whole = kept-reused IsCode a (get_or words a d) rest new ws size codes k first.1 (get_stands IsCode words a (link rest) d chain.0) in
    (rw (← sets-eq new words a (omega (arith, inside, size))) whole.0, whole.1, whole.2)

-- There are so many words.
pub reused : {W : Type 0} (IsCode : W → Value → Type 0) {words heads : List W} {m : Heap} (a : ℕ) (d : W) (new : List W) (ws : List Value) (n : ℕ) → length ws ≡ n → length new ≡ n → Stand IsCode new 0 ws → (k : Kept IsCode words heads m) → link (k.frees n) ≡ value.Cell a → Kept IsCode (take a words ++ new ++ drop (a + n) words) (set heads n (get_or words a d)) (allocated m a ws) × (words_at m.cells a ≡ None) × (with_slot (length ws) m ≡ m.slots)
reused IsCode {words} {heads} {m} a d new ws n long size codes k is =
    let First : ℕ → Type 0 = λ j. link (k.frees j) ≡ value.Cell a in
    let whole = reused_size IsCode a d new ws (size ∙ sym long) codes k (subst First (sym long) is) in
    let Now : ℕ → ℕ → Type 0 = λ i j. Kept IsCode (take a words ++ new ++ drop (a + i) words) (set heads j (get_or words a d)) (allocated m a ws) in
    (subst (Now n) long (subst (λ i. Now i (length ws)) size whole.0), whole.1, whole.2)

pub added : {W : Type 0} (IsCode : W → Value → Type 0) {words heads : List W} {m : Heap} (new : List W) (ws : List Value) (n : ℕ) → 0 < n → n < length heads → length ws ≡ n → length new ≡ n → Stand IsCode new 0 ws → (k : Kept IsCode words heads m) → ((a : ℕ) → link (k.frees n) ≡ value.Cell a → ⊥) → Kept IsCode (words ++ new) heads (allocated m (length words) ws) × (words_at m.cells (length words) ≡ None) × (with_slot (length ws) m ≡ length ws ∷ m.slots)
added IsCode {heads = heads} new ws n some sized long size codes k none =
    let Empty : ℕ → Type 0 = λ j. k.frees j ≡ [] in
    kept-new IsCode new ws (omega (arith, some, long)) (omega (arith, sized, long)) (size ∙ sym long) codes k (subst Empty (sym long) (link_none (k.frees n) none))

pub length_more : (n : ℕ) (slots : List ℕ) → length slots + 1 ≡ length (n ∷ slots)
length_more n slots = omega arith
