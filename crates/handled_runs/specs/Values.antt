-- What values give over a heap that uses its slots again.
--
-- Which handle a new cell gets, and whether there is memory for it, the heap decides. So this says of each outcome
-- whether it may come.
use Rattle.std.specs.Prelude.{◌≡◌, ◌<◌, ℕ, suc, ◌+◌, Bool, true, false, List, [], ◌∷◌, ◌++◌, drop, length, nat_le, nat_lt, None, ℤ, pos}
use Rattle.numbered_cells.specs.type_definitions.Types.{Table}
use Rattle.numbered_cells.specs.run_values.declared.value.Kind.{Kind}
use Rattle.numbered_cells.specs.run_values.declared.value.Kind.TheVariants as sort
use Rattle.numbered_cells.specs.machine.Words.{access_offsets}
use Rattle.numbered_cells.specs.machine.Evaluate.{StorageError, heap_words}
use Rattle.numbered_cells.specs.slot_heap.Heaps.{words_at}
use Rattle.numbered_cells.specs.run_codes.Codes.{Fill, Checked, Pointer, MovedPointer, Copied, Moved, Waited, New, Default, Repeated, Both, Empty}
use Rattle.numbered_cells.specs.run_codes.Flat.{Got, Given, Stops, Broken, Stop, Spot, Raises, Memory, and_then, most_cells, kinds, checked, default_words, repeated, some_words}
use Rattle.handled_runs.specs.Fits.{most_handles, are_slot_words}
use Rattle.handled_runs.specs.Slots.{Slots, word, spot, held}
use Rattle.handled_runs.specs.Changes.{moving, made}

-- The words of a value, or why it isn't done, and the memory then.
pub data Outcome : Type 0 where
  Gives : List ℤ → Slots → Outcome
  Ends : Stop → Slots → Outcome
  Fails : Outcome

-- What is only read.
abbrev pub reads : {A : Type 0} → Slots → Got A → (A → Outcome) → Outcome
reads s (Given a) f = f a
reads s (Stops t) f = Ends t s
reads s Broken f = Fails

-- A value of these words comes first.
abbrev pub Then : Outcome → (List ℤ → Slots → Type 0) → Outcome → Type 0
Then (Gives zs t) P r = P zs t
Then (Ends x t) P r = r ≡ Ends x t
Then Fails P r = r ≡ Fails

-- A new cell, where there is room for it, and a number. It has a handle that no cell has.
abbrev pub MakesCell : Bool → Slots → List Kind → List ℤ → Outcome → Type 0
MakesCell true s ks zs (Gives us t) =
    (h : ℕ) × (words_at s.heap.cells h ≡ None) × (h < most_handles) × (us ≡ pos (suc h) ∷ []) × (t ≡ made s h ks zs) × (nat_lt s.made most_cells ≡ true)
MakesCell true s ks zs (Ends x t) = (x ≡ Memory) × (t ≡ s)
MakesCell true s ks zs Fails = ⊥
MakesCell false s ks zs r = r ≡ Ends (Raises StorageError) s

-- So it is where the words are of these kinds.
abbrev pub MakesWhere : Bool → Type 0 → Outcome → Type 0
MakesWhere true P r = P
MakesWhere false P r = r ≡ Fails

abbrev pub Makes : Slots → List Kind → List ℤ → Outcome → Type 0
Makes s ks zs r = MakesWhere (are_slot_words ks zs) (MakesCell (nat_le (s.live + length zs) heap_words) s ks zs r) r

-- What stands at a place of these kinds, and what is moved from there.
abbrev pub copies : Slots → Got Spot → List Kind → Outcome
copies s g ks = reads s g (λ p. reads s (held s p ks) (λ zs. Gives zs s))

abbrev pub moves : Slots → Got Spot → List Kind → List ℕ → Outcome
moves s g ks gone = reads s g (λ p. reads s (held s p ks) (λ zs. Gives zs (moving s p ks gone)))

unfoldable pub Fills : Table → Fill → Slots → Outcome → Type 0
Fills table (Checked c low high) s r = r ≡ reads s (and_then (word s c) (checked low high)) (λ w. Gives (w ∷ []) s)
Fills table (Pointer c) s r = r ≡ reads s (word s c) (λ w. Gives (w ∷ []) s)
Fills table (MovedPointer p) s r = r ≡ moves s (spot s p) (sort.Access ∷ []) (0 ∷ [])
Fills table (Copied p of) s r = r ≡ copies s (spot s p) (kinds table of)
Fills table (Moved p of) s r = r ≡ moves s (spot s p) (kinds table of) (access_offsets table of)
Fills table (Waited at n) s r = r ≡ reads s (some_words n (drop at s.waits)) (λ zs. Gives zs s)
Fills table (New v of) s r = (g : Outcome) × Fills table v s g × Then g (λ zs t. Makes t (kinds table of) zs r) r
Fills table (Default of) s r = r ≡ Gives (default_words table of) s
Fills table (Repeated v n) s r = (g : Outcome) × Fills table v s g × Then g (λ zs t. r ≡ Gives (repeated n zs) t) r
Fills table (Both a b) s r =
    (g : Outcome) × Fills table a s g
    × Then g (λ zs t. (q : Outcome) × Fills table b t q × Then q (λ us u. r ≡ Gives (zs ++ us) u) r) r
Fills table Empty s r = r ≡ Gives [] s
