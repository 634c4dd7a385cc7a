-- Formals that get what places hold, and one after the other.
use Rattle.std.proofs.Common.{◌≡◌, ℕ, zero, suc, ◌+◌, ◌-◌, ◌≤◌, ◌<◌, ◌⊎◌, inl, inr, false, List, [], ◌∷◌, ◌++◌, map, length, take, drop, get_or, min, refl, sym, ap, subst, ◌∙◌, append_assoc, append-nil, arith, ℤ, Result, Ok}
use Rattle.std.proofs.lemmas.List.{drop_all}
use Rattle.std.proofs.Math.Seq.{drop-append_seam}
use Rattle.type_definitions.specs.Types.{Table}
use Rattle.slot_heap.specs.Heaps.{Heap}
use Rattle.run_codes.specs.Flat.{Got, Given, and_then, is_broken, kinds, Spot, InStack}
use Rattle.run_codes.specs.Points.{FromSpot}
use Rattle.code_rows.specs.declared.stop.Stop.{Stop}
use Rattle.handled_runs.specs.Slots.{Slots, held}
use Rattle.handled_runs.specs.Changes.{stored}
use Rattle.slot_memory.specs.Memory.{Kept, Ghosts, Stands, Shows, Knows, Always, Changes, slots, ghosts_of}
use Rattle.slot_memory.specs.Answers.{Appends}
use Rattle.slot_frames.specs.declared.rows.Return.{Return}
use Rattle.slot_frames.specs.Stacks.{Stacked}
use Rattle.slot_calls.specs.declared.actuals.Pass.{Pass}
use Rattle.slot_calls.specs.Calls.{passed_of, IsWithin, AreWithin}
use Rattle.slot_formals.specs.Formals.{placed_one, placed, all_moved, rows_of, returned}
use Rattle.slot_formals.specs.Leads.{Gives, Leads}
use Rattle.slot_formals.proofs.Leading.{taken, same_given}

-- ---- words that are appended

appended : {U : Type 0} (g : Got (List ℤ)) (u : U) (old new zs : List ℤ) → g ≡ Given zs → Appends g (Ok u) old new → new ≡ old ++ zs
appended g u old new zs is appends =
    let same : Given (old ++ zs) ≡ Given new = sym (ap (λ x. and_then x (λ zs. Given (old ++ zs))) is) ∙ appends in
    sym (same_given (old ++ zs) new same)

take_none : (k : ℕ) → ◌≡◌ {A = List ℤ} (take k []) []
take_none zero = refl
take_none (suc k) = refl

take_whole : (zs : List ℤ) → take (length zs) zs ≡ zs
take_whole [] = refl
take_whole (z ∷ zs) = ap (λ l. z ∷ l) (take_whole zs)

less_one : (a n : ℕ) → suc a - suc n ≡ a - n
less_one a n = omega arith

less_none : (a : ℕ) → a - 0 ≡ a
less_none a = omega arith

-- A slice to the end.
pub rest_whole : (n : ℕ) (zs : List ℤ) → take (length zs - n) (drop n zs) ≡ drop n zs
rest_whole zero zs = ap (λ k. take k zs) (less_none (length zs)) ∙ take_whole zs
rest_whole (suc n) [] = take_none _
rest_whole (suc n) (z ∷ zs) = ap (λ k. take k (drop n zs)) (less_one (length zs) n) ∙ rest_whole n zs

behind_them : (old new zs : List ℤ) (from : ℕ) → from ≡ length old → new ≡ old ++ zs → drop from new ≡ zs
behind_them old new zs from at is = ap (λ n. drop n new) at ∙ ap (drop (length old)) is ∙ drop-append_seam old zs

module _ {R : Type 0} (Means : R → Heap → Type 0) (m : Kept R) (table : Table) (at : ℕ) (q : Spot) (of : ℕ) where
  abbrev Appended : {U : Type 0} → Result U Stop → List ℤ → List ℤ → Type 0
  Appended r old new = Always Means m (λ s. is_broken (held s q (kinds table of)) ≡ false → Appends (held s q (kinds table of)) r old new)

  module _ {U : Type 0} (u : U) (old new : List ℤ) (from : ℕ) (begins : from ≡ length old) (appends : Appended (Ok u) old new) where
    words_at : (g : Ghosts) → Stands Means m g → (zs : List ℤ) → held (slots m g) q (kinds table of) ≡ Given zs → drop from new ≡ zs
    words_at g stands zs is =
        behind_them old new zs from begins
        (appended (held (slots m g) q (kinds table of)) u old new zs is (appends g stands (ap is_broken is)))

    pub store_whole : Gives Means m (placed_one table at (FromSpot q of)) → Knows Means m (λ s. is_broken (stored s (InStack at) [] (drop from new)) ≡ false)
    store_whole gives =
        let s : Slots = slots m gives.ghosts in
        let (zs, is, rest) = taken (held s q (kinds table of)) (λ zs. stored s (InStack at) [] zs) gives.after gives.is in
        (gives.ghosts, (gives.stands, ap (λ l. is_broken (stored s (InStack at) [] l)) (words_at gives.ghosts gives.stands zs is) ∙ ap is_broken rest))

    pub held_placed : (n : Kept R) → Changes Means m (λ s. stored s (InStack at) [] (drop from new)) n → Changes Means m (placed_one table at (FromSpot q of)) n
    held_placed n changes g stands t is =
        let s : Slots = slots m g in
        let (zs, given, rest) = taken (held s q (kinds table of)) (λ zs. stored s (InStack at) [] zs) t is in
        changes g stands t (ap (λ l. stored s (InStack at) [] l) (words_at g stands zs given) ∙ rest)

-- ---- one after the other

next_of : (i : ℕ) → suc (i + 1) ≡ suc i + 1
next_of i = omega arith

pub drop_one : {A : Type 0} (xs : List A) (i : ℕ) (d : A) → i < length xs → drop i xs ≡ get_or xs i d ∷ drop (i + 1) xs
drop_one [] i d lt = absurd (omega (arith, lt))
drop_one (x ∷ xs) zero d lt = refl
drop_one (x ∷ xs) (suc i) d lt = drop_one xs i d (omega (arith, lt)) ∙ ap (λ n. get_or xs i d ∷ drop n (x ∷ xs)) (next_of i)

pub same_or : {A : Type 0} (xs : List A) (i : ℕ) (d e : A) → i < length xs → get_or xs i d ≡ get_or xs i e
same_or [] i d e lt = absurd (omega (arith, lt))
same_or (x ∷ xs) zero d e lt = refl
same_or (x ∷ xs) (suc i) d e lt = same_or xs i d e (omega (arith, lt))

sum_of : (a b c : ℕ) → a + b + c ≡ a + (b + c)
sum_of a b c = omega arith

module _ (table : Table) (base at : ℕ) (fs : List ℕ) (ps : List Pass) (i f : ℕ) (p : Pass) (zs : List ℤ)
    (lt_f : i < length fs) (is_f : get_or fs i f ≡ f) (lt_p : i < length ps) (is_p : get_or ps i p ≡ p) where
  formals_are : drop i fs ≡ f ∷ drop (i + 1) fs
  formals_are = drop_one fs i f lt_f ∙ ap (λ x. x ∷ drop (i + 1) fs) is_f

  passes_are : drop i ps ≡ p ∷ drop (i + 1) ps
  passes_are = drop_one ps i p lt_p ∙ ap (λ x. x ∷ drop (i + 1) ps) is_p

  abbrev left_at : ℕ → ℕ → Slots → Got Slots
  left_at o j s = placed table (base + o) (drop j fs) (map (passed_of zs) (drop j ps)) s

  -- the first one of those that are left
  first_left : (s : Slots) → left_at at i s ≡ and_then (placed_one table (base + at) (passed_of zs p) s) (placed table (base + at + length (kinds table f)) (drop (i + 1) fs) (map (passed_of zs) (drop (i + 1) ps)))
  first_left s =
      ap (λ l. placed table (base + at) l (map (passed_of zs) (drop i ps)) s) formals_are
      ∙ ap (λ l. placed table (base + at) (f ∷ drop (i + 1) fs) (map (passed_of zs) l) s) passes_are

  module _ {R : Type 0} (Means : R → Heap → Type 0) (m n : Kept R) (all : Slots → Got Slots) (leads : Leads Means m all n (left_at at i)) where
    pub row_gives : Gives Means m all → Gives Means n (placed_one table (base + at) (passed_of zs p))
    row_gives gives =
        let (u, shows, is) = leads.on gives.ghosts gives.stands gives.after gives.is in
        let first = taken (placed_one table (base + at) (passed_of zs p) u) (placed table (base + at + length (kinds table f)) (drop (i + 1) fs) (map (passed_of zs) (drop (i + 1) ps)))
        gives.after (sym (first_left u) ∙ is) in
        record {
          ghosts = ghosts_of u;
          stands = shows.0;
          after = first.0;
          is = ap (placed_one table (base + at) (passed_of zs p)) shows.1 ∙ first.1;
        }

    pub row_leads : (k : Kept R) (next : ℕ) → next ≡ at + length (kinds table f) → Changes Means n (placed_one table (base + at) (passed_of zs p)) k
        → Leads Means m all k (left_at next (i + 1))
    row_leads k next offset changes = record {
      on = λ g stands t is. (
          let (u, shows, left) = leads.on g stands t is in
          let (w, given, rest) = taken (placed_one table (base + at) (passed_of zs p) u) (placed table (base + at + length (kinds table f)) (drop (i + 1) fs) (map (passed_of zs) (drop (i + 1) ps)))
          t (sym (first_left u) ∙ left) in (
            w,
            changes (ghosts_of u) shows.0 w (ap (placed_one table (base + at) (passed_of zs p)) shows.1 ∙ given),
            ap (λ o. placed table o (drop (i + 1) fs) (map (passed_of zs) (drop (i + 1) ps)) w)
                (ap (λ o. base + o) offset ∙ sym (sum_of base at (length (kinds table f))))
                ∙ rest,
          ));
    }

  -- What is copied back of those that are left comes after what was pushed.
  pub returns_on : (s t u : Stacked) (next : ℕ) (rs : List Return) → next ≡ at + length (kinds table f)
      → (t ≡ record s { returns = t.returns }) × (t.returns ++ returned table at (drop i fs) (drop i ps) ≡ rs)
      → u ≡ record t { returns = t.returns ++ rows_of at f p }
      → (u ≡ record s { returns = u.returns }) × (u.returns ++ returned table next (drop (i + 1) fs) (drop (i + 1) ps) ≡ rs)
  returns_on s t u next rs offset left is = (
    is ∙ ap (λ (x : Stacked). record x { returns = t.returns ++ rows_of at f p }) left.0
        ∙ ap (λ (x : Stacked). record s { returns = x.returns }) (sym is),
    ap (λ (x : Stacked). x.returns ++ returned table next (drop (i + 1) fs) (drop (i + 1) ps)) is
        ∙ ap (λ o. (t.returns ++ rows_of at f p) ++ returned table o (drop (i + 1) fs) (drop (i + 1) ps)) offset
        ∙ append_assoc t.returns (rows_of at f p) (returned table (at + length (kinds table f)) (drop (i + 1) fs) (drop (i + 1) ps))
        ∙ ap (λ l. t.returns ++ returned table at (f ∷ drop (i + 1) fs) l) (sym passes_are)
        ∙ ap (λ l. t.returns ++ returned table at l (drop i ps)) (sym formals_are)
        ∙ left.1,
  )

no_more : (table : Table) (at : ℕ) (fs : List ℕ) (s : Slots) → placed table at fs [] s ≡ Given s
no_more table at [] s = refl
no_more table at (f ∷ fs) s = refl

no_rows : (table : Table) (at : ℕ) (fs : List ℕ) → returned table at fs [] ≡ []
no_rows table at [] = refl
no_rows table at (f ∷ fs) = refl

pub none_moved : (table : Table) (fs : List ℕ) (s : Slots) → all_moved table fs [] s ≡ s
none_moved table [] s = refl
none_moved table (f ∷ fs) s = refl

pub either : (a b i : ℕ) → min a b ≤ i → (a ≤ i) ⊎ (b ≤ i)
either zero b i le = inl (omega arith)
either (suc a) zero i le = inr (omega arith)
either (suc a) (suc b) zero le = absurd (omega (arith, le))
either (suc a) (suc b) (suc i) le =
    elim (either a b i (omega (arith, le))) [ inl few ↦ inl (omega (arith, few)) | inr few ↦ inr (omega (arith, few)) ]

pub rows_done : (table : Table) (at : ℕ) (fs : List ℕ) (ps : List Pass) (i : ℕ) (zs : List ℤ) (s : Slots) → min (length fs) (length ps) ≤ i
    → placed table at (drop i fs) (map (passed_of zs) (drop i ps)) s ≡ Given s
rows_done table at fs ps i zs s le =
    elim (either (length fs) (length ps) i le) [
      | inl few ↦ ap (λ l. placed table at l (map (passed_of zs) (drop i ps)) s) (drop_all i fs few)
      | inr few ↦ ap (λ l. placed table at (drop i fs) (map (passed_of zs) l) s) (drop_all i ps few) ∙ no_more table at (drop i fs) s
    ]

returns_done : (table : Table) (at : ℕ) (fs : List ℕ) (ps : List Pass) (i : ℕ) → min (length fs) (length ps) ≤ i
    → returned table at (drop i fs) (drop i ps) ≡ []
returns_done table at fs ps i le =
    elim (either (length fs) (length ps) i le) [
      | inl few ↦ ap (λ l. returned table at l (drop i ps)) (drop_all i fs few)
      | inr few ↦ ap (λ l. returned table at (drop i fs) l) (drop_all i ps few) ∙ no_rows table at (drop i fs)
    ]

-- All of them are pushed.
pub returns_all : (table : Table) (at : ℕ) (fs : List ℕ) (ps : List Pass) (i : ℕ) (s t : Stacked) (rs : List Return) → min (length fs) (length ps) ≤ i
    → (t ≡ record s { returns = t.returns }) × (t.returns ++ returned table at (drop i fs) (drop i ps) ≡ rs)
    → t ≡ record s { returns = rs }
returns_all table at fs ps i s t rs le left =
    left.0
    ∙ ap (λ l. record s { returns = l })
    (sym (append-nil t.returns) ∙ ap (λ l. t.returns ++ l) (sym (returns_done table at fs ps i le)) ∙ left.1)

-- All formals have their values.
pub placed_all : {R : Type 0} (Means : R → Heap → Type 0) (m n : Kept R) (table : Table) (base at : ℕ) (fs : List ℕ) (ps : List Pass) (i : ℕ) (zs : List ℤ) (all : Slots → Got Slots)
    → min (length fs) (length ps) ≤ i → Leads Means m all n (λ s. placed table (base + at) (drop i fs) (map (passed_of zs) (drop i ps)) s) → Changes Means m all n
placed_all Means m n table base at fs ps i zs all le leads g stands t is =
    let (u, shows, left) = leads.on g stands t is in
    subst (λ w. Shows Means n w)
    (same_given u t (sym (rows_done table (base + at) fs ps i zs u le) ∙ left)) shows

are_within_at : (n : ℕ) (ps : List Pass) (i : ℕ) (d : Pass) → AreWithin n ps → i < length ps → IsWithin n (get_or ps i d)
are_within_at n [] i d are lt = absurd (omega (arith, lt))
are_within_at n (p ∷ ps) zero d are lt = are.0
are_within_at n (p ∷ ps) (suc i) d are lt = are_within_at n ps i d are.1 (omega (arith, lt))

pub row_within : (n : ℕ) (ps : List Pass) (i : ℕ) (p : Pass) → AreWithin n ps → i < length ps → get_or ps i p ≡ p → IsWithin n p
row_within n ps i p are lt is = subst (λ x. IsWithin n x) is (are_within_at n ps i p are lt)
