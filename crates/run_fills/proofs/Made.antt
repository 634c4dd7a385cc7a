-- A new cell, and its number.
use Rattle.std.proofs.Common.{◌≡◌, ℕ, suc, ◌+◌, ◌≤◌, true, false, Bool, not, ◌&&◌, List, [], ◌∷◌, ◌++◌, map, length, get_or, refl, sym, ap, subst, ◌∙◌, arith, ℤ, pos, nat_lt, if◌then◌else◌, length-append}
use Rattle.std.specs.Prelude.{nat_le}
use Rattle.std.proofs.lemmas.List.{length-map}
use Rattle.type_definitions.specs.Types.{Table}
use Rattle.type_definitions.specs.Entries.{integer}
use Rattle.machine.specs.Words.{Word, Cell}
use Rattle.machine.specs.Typed.{Sort, Pointer, sorts, same_designated}
use Rattle.machine.specs.Memory.{Memory, HeapCell, fresh, live_words, with_new_cell}
use Rattle.machine.specs.Evaluate.{Now, Evaluated, Done, followed_by, allocated, checked, StorageError, heap_words}
use Rattle.machine.specs.Evaluate as machine
use Rattle.run_codes.specs.Flat.{Flat, Made, Failed, Raises, kind_of, kinds, is_word, are_words, values, with_cell, most_cells, made}
use Rattle.run_codes.specs.Flat as flat
use Rattle.run_codes.specs.Related.{PointsTo, AllStand, IsValue, Seen, table, here, now, types, Lying}
use Rattle.run_codes.proofs.Places.{below}
use Rattle.run_codes.proofs.Held.{stands_word}
use Rattle.run_codes.proofs.News.{cell_made, types_more}
use Rattle.run_fills.specs.Filled.{IsWhole, Filled}
use Rattle.run_fills.proofs.Wholes.{unchanged, later_from}
use Rattle.run_fills.proofs.Single.{one_value, checked_fits, pointer_fits, few_types}

-- The words of a value are of their kinds.
pub are_there : (table : Table) (made : List ℕ) (all : List Sort) (ws : List Word) (zs : List ℤ) → length made ≤ most_cells → length zs ≡ length all → AllStand table made all (fresh ws) zs
    → are_words (map kind_of all) zs ≡ true
are_there table made [] ws [] few long is = refl
are_there table made [] ws (z ∷ zs) few long is = absurd (omega (arith, long))
are_there table made (s ∷ all) ws [] few long is = absurd (omega (arith, long))
are_there table made (s ∷ all) [] (z ∷ zs) few long is = absurd is
are_there table made (s ∷ all) (w ∷ ws) (z ∷ zs) few long is =
    ap (λ b. b && are_words (map kind_of all) zs) (stands_word table made s w z few is.0.0) ∙ are_there table made all ws zs few (omega (arith, long)) is.1

last_type : (all : List ℕ) (t d : ℕ) → get_or (all ++ t ∷ []) (length all) d ≡ t
last_type [] t d = refl
last_type (u ∷ all) t d = last_type all t d

at_most : (a b : ℕ) → nat_le a b ≡ true → a ≤ b
at_most a b is = grind arith

-- What the machine does with the value of a new cell, which is its number.
abbrev machine_made : Bool → Evaluated (List Word) → Now → Evaluated (List Word)
machine_made b ev n = if b then ev else machine.Raises StorageError n

pub made_filled : (e : Seen) (all : List Lying) → IsWhole e all → (j t want d : ℕ) (ws : List Word) (zs : List ℤ)
    → sorts (table e) want ≡ Pointer d ∷ [] → same_designated (table e) d t ≡ true → IsValue (table e) (types e.memory) (sorts (table e) t) ws zs
    → Filled e all j (sorts (table e) want) (followed_by (allocated t ws (now e j)) (checked (here e) want)) (made e.flat (kinds (table e) t) zs)
made_filled e all whole j t want d ws zs sort same value =
    let few = few_types e all whole in
    subst (λ b. Filled e all j (sorts (table e) want) (followed_by (allocated t ws (now e j)) (checked (here e) want))
    (if not b then Failed
    else (if nat_le (e.flat.live + length zs) heap_words
    then (if nat_lt (length e.flat.cells) most_cells then flat.Done (pos (suc (length e.flat.cells)) ∷ []) (with_cell e.flat (values (kinds (table e) t) zs)) else flat.Halted flat.Memory e.flat)
    else flat.Halted (Raises StorageError) e.flat)))
    (sym (are_there (table e) (types e.memory) (sorts (table e) t) ws zs few value.numbers value.stand))
    (by (nat_le (e.flat.live + length zs) heap_words) (nat_lt (length e.flat.cells) most_cells) refl refl)
  where
    n : ℕ
    n = length e.memory.cells

    m : Memory
    m = with_new_cell t ws e.memory

    f : Flat
    f = with_cell e.flat (values (kinds (table e) t) zs)

    as_many : length ws ≡ length zs
    as_many = value.words ∙ sym value.numbers

    room_same : nat_le (live_words e.memory + length ws) heap_words ≡ nat_le (e.flat.live + length zs) heap_words
    room_same = ap (λ k. nat_le (k + length ws) heap_words) (sym whole.related.counted.live) ∙ ap (λ k. nat_le (e.flat.live + k) heap_words) as_many

    grown : types m ≡ types e.memory ++ t ∷ []
    grown = types_more e.memory.cells (record { of = t; slots = fresh ws; freed = false })

    long : length (types e.memory) ≡ n
    long = length-map e.memory.cells (λ (c : HeapCell). c.of)

    -- the number of the new cell points to it
    points : PointsTo (table e) (types m) d (Cell (suc n)) (suc n)
    points = (
      refl,
      record {
        within =
            let one : length (types m) ≡ n + 1 = ap (λ (l : List ℕ). length l) grown ∙ length-append (types e.memory) (t ∷ []) ∙ ap (λ k. k + 1) long in
            omega (arith, one);
        sorts = ap (λ l. sorts (table e) (get_or l n integer)) grown ∙ ap (λ k. sorts (table e) (get_or (types e.memory ++ t ∷ []) k integer)) (sym long)
            ∙ ap (sorts (table e)) (last_type (types e.memory) t integer) ∙ sym (whole.laws.same d t same);
      },
    )

    number : IsValue (table e) (types m) (sorts (table e) want) (Cell (suc n) ∷ []) (pos (suc (length e.flat.cells)) ∷ [])
    number =
        subst (λ k. IsValue (table e) (types m) (sorts (table e) want) (Cell (suc n) ∷ []) (pos (suc k) ∷ [])) (sym whole.related.counted.made)
        (subst (λ l. IsValue (table e) (types m) l (Cell (suc n) ∷ []) (pos (suc n) ∷ [])) (sym sort)
        (one_value (table e) (types m) (Pointer d) (Cell (suc n)) (pos (suc n)) points refl))

    after : Now
    after = record (now e j) { memory = m }

    ends : (b : Bool) → nat_le (e.flat.live + length zs) heap_words ≡ b
        → followed_by (allocated t ws (now e j)) (checked (here e) want)
        ≡ followed_by (machine_made b (Done (Cell (suc n) ∷ []) after) (now e j)) (checked (here e) want)
    ends b is = ap (λ k. followed_by (machine_made k (Done (Cell (suc n) ∷ []) after) (now e j)) (checked (here e) want)) (room_same ∙ is)

    by : (b c : Bool) → nat_le (e.flat.live + length zs) heap_words ≡ b → nat_lt (length e.flat.cells) most_cells ≡ c
        → Filled e all j (sorts (table e) want) (followed_by (allocated t ws (now e j)) (checked (here e) want))
        (if b then (if c then flat.Done (pos (suc (length e.flat.cells)) ∷ []) f else flat.Halted flat.Memory e.flat) else flat.Halted (Raises StorageError) e.flat)
    by false c out lacks = (now e j, ends false out, unchanged e all whole)
    by true false fits lacks = tt
    by true true fits few = (
      Cell (suc n) ∷ [],
      m,
      ends true fits ∙ checked_fits (here e) want (Cell (suc n) ∷ []) after (pointer_fits (table e) (types m) want d (suc n) (Cell (suc n)) points),
      (let room = at_most (e.flat.live + length zs) heap_words fits in
          let number_few = below (length e.flat.cells) most_cells few in
          let same_count = whole.related.counted.made in
          later_from e all m f (t ∷ []) whole grown (cell_made e.site.typing all e.memory e.flat t ws zs whole.related value (omega (arith, room)) (omega (arith, number_few, same_count))) refl refl refl refl (λ c k out. refl)),
      number,
    )
