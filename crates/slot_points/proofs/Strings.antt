-- The literals of types, and pieces of strings one after the other.
use Rattle.std.proofs.Common.{◌≡◌, ℕ, ◌+◌, ◌<◌, ◌≤◌, Bool, false, ◌&&◌, List, [], ◌∷◌, ◌++◌, map, length, drop, get_or, slice_get, slice_range, None, refl, sym, ap, subst, ◌∙◌, IsTrue, ℤ, Result, Ok, Err, append-nil}
use Rattle.std.specs.List.{list_all}
use Rattle.std.proofs.lemmas.Option.{slice_get_past}
use Rattle.std.proofs.lemmas.List.{append_assoc, drop_all}
use Rattle.type_definitions.specs.declared.table.Shape.{Shape}
use Rattle.type_definitions.specs.declared.table.Shape.TheVariants as shape
use Rattle.type_definitions.specs.Types.{Table, shape_of, shape_found, meant_type_found}
use Rattle.type_table.specs.Definitions.{settled}
use Rattle.machine.specs.Evaluate.{literals}
use Rattle.slot_heap.specs.Heaps.{Heap}
use Rattle.run_codes.specs.Codes.{Code, Piece}
use Rattle.run_codes.specs.Flat.{Stop, Got, Given, Stops, Broken, and_then, is_broken}
use Rattle.code_rows.specs.declared.range.Range.{Range}
use Rattle.code_rows.specs.declared.point.Text.{Text}
use Rattle.code_rows.specs.declared.rows.Rows.{Rows}
use Rattle.code_rows.specs.declared.stop.Stop as declared
use Rattle.code_rows.specs.Stops.{stop_of}
use Rattle.code_rows.specs.Points.{text_of, is_text_there, AreSound}
use Rattle.code_rows.proofs.Grown.{and_first, and_second}
use Rattle.code_rows.proofs.Kept.{all_some, all_texts, rows_none}
use Rattle.handled_runs.specs.Slots.{Slots, word}
use Rattle.handled_steps.specs.Steps.{piece_bytes, text}
use Rattle.slot_memory.specs.Memory.{Kept, Ghosts, Stands, slots}
use Rattle.slot_words.specs.Reading.{Reads, Gives}
use Rattle.slot_words.proofs.Wholes.{first_whole, first_stops}
use Rattle.slot_points.specs.Changing.{Whole, Adds, Added}
use Rattle.slot_points.specs.Steps.{word_written, line_end, piece_of, text_in, written}
use Rattle.slot_points.proofs.Doing.{word_reads, first}
use Rattle.slot_points.proofs.Choices.{drop_one, range_is}

-- What has no definition of its own has no literals, as a record has none.
pub literals_settled : (s : Shape) → literals (settled s) ≡ literals s
literals_settled (shape.Whole low high) = refl
literals_settled (shape.Listed names low high) = refl
literals_settled (shape.Access designated constant named) = refl
literals_settled (shape.Fields components) = refl
literals_settled (shape.Elements low high element) = refl
literals_settled (shape.Same of) = refl

pub literals_past : (table : Table) (t : ℕ) → length table ≤ t → literals (shape_of table t) ≡ []
literals_past table t le =
    let none : slice_get table t ≡ None = slice_get_past table t le in
    ap (λ o. literals (shape_found (slice_get table (meant_type_found t o)))) none ∙ ap (λ o. literals (shape_found o)) none

-- ---- pieces one after the other

-- What comes after bytes.
abbrev pub after : List ℕ → Got (List ℕ) → Got (List ℕ)
after old g = and_then g (λ more. Given (old ++ more))

after_both : (old more : List ℕ) (g : Got (List ℕ)) → after (old ++ more) g ≡ after old (and_then g (λ rest. Given (more ++ rest)))
after_both old more (Given rest) = ap (λ xs. Given xs) (append_assoc old more rest)
after_both old more (Stops s) = refl
after_both old more Broken = refl

stops_after : (s : Stop) (old : List ℕ) (g : Got (List ℕ)) → after old g ≡ Stops s → g ≡ Stops s
stops_after s old (Given more) e = absurd (let never : Given (old ++ more) ≡ Stops s = e in cc)
stops_after s old (Stops r) e = e
stops_after s old Broken e = absurd (let never : Broken ≡ Stops s = e in cc)

whole_after : (old : List ℕ) (g : Got (List ℕ)) → is_broken (after old g) ≡ is_broken g
whole_after old (Given more) = refl
whole_after old (Stops s) = refl
whole_after old Broken = refl

-- Of pieces of which some are written, those that are left come after what is written: `now` is written
-- of `all`, which began after `old`.
module _ (table : Table) (m : Slots) (p : Piece) (rest : List Piece) (all : Got (List ℕ)) (old now : List ℕ)
    (left : after now (text table m (p ∷ rest)) ≡ after old all) where
  -- The next piece is written.
  pub text_on : (new : List ℕ) → after now (piece_bytes table m p) ≡ Given new → after new (text table m rest) ≡ after old all
  text_on new e = by (piece_bytes table m p) refl e
    where
      by : (g : Got (List ℕ)) → g ≡ piece_bytes table m p → after now g ≡ Given new → after new (text table m rest) ≡ after old all
      by (Given bytes) is e =
          let same : now ++ bytes ≡ new = let eq : Given (now ++ bytes) ≡ Given new = e in cc in
          ap (λ xs. after xs (text table m rest)) (sym same) ∙ after_both now bytes (text table m rest)
          ∙ ap (λ g. after now (and_then g (λ b. and_then (text table m rest) (λ more. Given (b ++ more))))) is ∙ left
      by (Stops s) is e = absurd (let never : Stops s ≡ Given new = e in cc)
      by Broken is e = absurd (let never : Broken ≡ Given new = e in cc)

  pub text_stops : (s : Stop) → piece_bytes table m p ≡ Stops s → all ≡ Stops s
  text_stops s e =
      stops_after s old all
      (sym left ∙ ap (λ g. after now (and_then g (λ b. and_then (text table m rest) (λ more. Given (b ++ more))))) e)

  pub text_whole : is_broken all ≡ false → is_broken (piece_bytes table m p) ≡ false
  text_whole is =
      first_whole (piece_bytes table m p) (λ b. and_then (text table m rest) (λ more. Given (b ++ more)))
      (sym (whole_after now (text table m (p ∷ rest))) ∙ ap is_broken left ∙ whole_after old all ∙ is)

-- ---- over a memory

module _ {R : Type 0} (Means : R → Heap → Type 0) (m : Kept R) where
  pub bytes_added : {U : Type 0} (bytes : List ℕ) (r : Result U declared.Stop) (old new : List ℕ) → Adds (Given bytes) r old new → Added Means m (λ s. Given bytes) r old new
  bytes_added bytes r old new adds = record { added = λ g stands whole. adds }

  -- A word that is written.
  module _ (c : Code) (f : ℤ → List ℕ) where
    pub word_whole : Whole Means m (word_written c f) → Reads Means m c
    word_whole is = word_reads Means m c (first Means m (λ s. word s c) (λ s w. Given (f w)) is)

    pub word_stops : {U : Type 0} (e : declared.Stop) (old new : List ℕ) → Gives Means m c (Err e) → Added {U = U} Means m (word_written c f) (Err e) old new
    word_stops e old new gives = record {
      added = λ g stands whole no. first_stops (word (slots m g) c) (λ w. Given (f w)) (stop_of e) (gives.gives g stands) whole;
    }

    pub word_added : {U : Type 0} (w : ℤ) (r : Result U declared.Stop) (old new : List ℕ) → Gives Means m c (Ok w) → Adds (Given (f w)) r old new
        → Added Means m (word_written c f) r old new
    word_added w r old new gives adds = record {
      added = λ g stands whole.
          let there = gives.gives g stands (first_whole (word (slots m g) c) (λ w. Given (f w)) whole) in
          subst (λ x. Adds x r old new) (sym (ap (λ (x : Got ℤ). and_then x (λ w. Given (f w))) there)) adds;
    }

module _ {R : Type 0} (Means : R → Heap → Type 0) (m : Kept R) (table : Table) where
  -- Of pieces of which some are written, those that are left come after what is written, in each of the slots.
  pub record AreLeft (rows : Rows) (xs : List Text) (i : ℕ) (old now : List ℕ) : Type 0 where
    pub there : IsTrue (list_all (is_text_there rows) (drop i xs))
    pub left :
        (g : Ghosts) → Stands Means m g → is_broken (text table (slots m g) (map (text_of rows) xs)) ≡ false
        → after now (text table (slots m g) (map (text_of rows) (drop i xs))) ≡ after old (text table (slots m g) (map (text_of rows) xs))

  module _ (rows : Rows) (xs : List Text) where
    pub left_first : (old : List ℕ) → IsTrue (list_all (is_text_there rows) xs) → AreLeft rows xs 0 old old
    left_first old there = record { there = there; left = λ g stands whole. refl }

    module _ (i : ℕ) (d : Text) (old now : List ℕ) (lt : i < length xs) (is : AreLeft rows xs i old now) where
      one : drop i xs ≡ get_or xs i d ∷ drop (i + 1) xs
      one = drop_one xs i d lt

      both : IsTrue (is_text_there rows (get_or xs i d) && list_all (is_text_there rows) (drop (i + 1) xs))
      both = subst (λ ts. IsTrue (list_all (is_text_there rows) ts)) one is.there

      pub next_there : IsTrue (is_text_there rows (get_or xs i d))
      next_there = and_first (is_text_there rows (get_or xs i d)) (list_all (is_text_there rows) (drop (i + 1) xs)) both

      from : (g : Ghosts) → Stands Means m g → is_broken (text table (slots m g) (map (text_of rows) xs)) ≡ false
          → after now (text table (slots m g) (text_of rows (get_or xs i d) ∷ map (text_of rows) (drop (i + 1) xs))) ≡ after old (text table (slots m g) (map (text_of rows) xs))
      from g stands whole = ap (λ ts. after now (text table (slots m g) (map (text_of rows) ts))) (sym one) ∙ is.left g stands whole

      pub next_whole_piece : Whole Means m (text_in table (map (text_of rows) xs)) → Whole Means m (piece_of table (text_of rows (get_or xs i d)))
      next_whole_piece whole = record {
        ghosts = whole.ghosts;
        stands = whole.stands;
        whole = text_whole table (slots m whole.ghosts) (text_of rows (get_or xs i d)) (map (text_of rows) (drop (i + 1) xs)) (text table (slots m whole.ghosts) (map (text_of rows) xs)) old now
            (from whole.ghosts whole.stands whole.whole) whole.whole;
      }

      pub next_stops : {U V : Type 0} (e : declared.Stop) (new : List ℕ) → Added {U = U} Means m (piece_of table (text_of rows (get_or xs i d))) (Err e) now new
          → Added {U = V} Means m (text_in table (map (text_of rows) xs)) (Err e) old new
      next_stops e new added = record {
        added = λ g stands whole no.
            let s : Slots = slots m g in
            let p : Piece = text_of rows (get_or xs i d) in
            let rest : List Piece = map (text_of rows) (drop (i + 1) xs) in
            let all : Got (List ℕ) = text table s (map (text_of rows) xs) in
            text_stops table s p rest all old now (from g stands whole) (stop_of e) (added.added g stands (text_whole table s p rest all old now (from g stands whole) whole) no);
      }

      pub left_next : {U : Type 0} (u : U) (new : List ℕ) → Added Means m (piece_of table (text_of rows (get_or xs i d))) (Ok u) now new → AreLeft rows xs (i + 1) old new
      left_next u new added = record {
        there = and_second (is_text_there rows (get_or xs i d)) (list_all (is_text_there rows) (drop (i + 1) xs)) both;
        left = λ g stands whole.
            let s : Slots = slots m g in
            let p : Piece = text_of rows (get_or xs i d) in
            let rest : List Piece = map (text_of rows) (drop (i + 1) xs) in
            let all : Got (List ℕ) = text table s (map (text_of rows) xs) in
            text_on table s p rest all old now (from g stands whole) new (added.added g stands (text_whole table s p rest all old now (from g stands whole) whole));
      }

    -- All of them are written.
    pub left_last : {U : Type 0} (i : ℕ) (old now : List ℕ) → length xs ≤ i → AreLeft rows xs i old now → (u : U) → Added Means m (text_in table (map (text_of rows) xs)) (Ok u) old now
    left_last i old now past is u = record {
      added = λ g stands whole.
          sym (is.left g stands whole)
          ∙ ap (λ ts. after now (text table (slots m g) (map (text_of rows) ts))) (drop_all i xs past)
          ∙ ap (λ bytes. Given bytes) (append-nil now);
    }

pub sound_texts : (rows : Rows) (r : Range) → AreSound rows
    → IsTrue (list_all (is_text_there rows) (slice_range rows.texts.items r.first (r.first + r.count)))
sound_texts rows r sound =
    subst (λ ts. IsTrue (list_all (is_text_there rows) ts)) (sym (range_is rows.texts.items r))
    (all_some (is_text_there rows) rows.texts.items r (all_texts rows rows (rows_none rows) sound))

-- ---- a string as a whole

module _ {R : Type 0} (Means : R → Heap → Type 0) (m : Kept R) (table : Table) (pieces : List Piece) (line : Bool) where
  pub output_stops : {U V : Type 0} (ts : List Piece) → ts ≡ pieces → (e : declared.Stop) (before bytes old new : List ℕ) → Added {U = U} Means m (text_in table ts) (Err e) before bytes
      → Added {U = V} Means m (written table pieces line) (Err e) old new
  output_stops ts same e before bytes old new is = record {
    added = λ g stands whole no.
        let s : Slots = slots m g in
        let same_text : text table s ts ≡ text table s pieces = ap (text table s) same in
        first_stops (text table s pieces) (λ bytes. Given (bytes ++ line_end line)) (stop_of e)
        (λ there. sym same_text ∙ is.added g stands (ap is_broken same_text ∙ there) no) whole;
  }
