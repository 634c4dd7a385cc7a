-- Outcomes that are alike, one after the other.
use Rattle.std.proofs.Common.{◌≡◌, refl, sym, ap, ◌∙◌, subst, ℕ, zero, suc, ◌+◌, arith, Bool, true, false, true≢false, not, nat_lt, nat_le, List, [], ◌∷◌, ◌++◌, append_assoc, length-append, length, get_or, ℤ, pos, if◌then◌else◌}
use mathlib.Core.Logic.{inl, inr}
use Rattle.numbered_cells.specs.run_values.declared.value.Kind.{Kind}
use Rattle.numbered_cells.specs.run_values.declared.value.Kind.TheVariants as sort
use Rattle.numbered_cells.specs.machine.Evaluate.{StorageError, heap_words}
use Rattle.numbered_cells.specs.run_codes.Flat.{Flat, Made, Done, Halted, Failed, Stop, Raises, Memory, made_then, are_words, values, with_cell, most_cells, repeated}
use Rattle.numbered_cells.specs.run_codes.Flat as flat
use Rattle.handled_runs.specs.Slots.{Slots}
use Rattle.handled_runs.specs.Values.{Outcome, Gives, Ends, Fails, Then, MakesCell, MakesWhere, Makes}
use Rattle.handled_runs.specs.Beside.{renamed, all_renamed, NameWords}
use Rattle.handled_runs.specs.Looks.{AreKept}
use Rattle.handled_runs.specs.Marks.{During}
use Rattle.handled_runs.specs.Alike.{Alike, AreAlike, StopsAlike, kinds_repeated}
use Rattle.handled_runs.proofs.Named.{long_renamed}
use Rattle.handled_runs.proofs.Fit.{words_fit}
use Rattle.handled_runs.proofs.Cells.{words_on, names_on}
use Rattle.handled_runs.proofs.Marking.{during_made}
use Rattle.handled_runs.proofs.Copies.{unmarked_long, silent_stops, stops_alike}

-- ---- words one after the other

pub renamed_append : (hs : List ℕ) (is js : List Kind) (xs ys : List ℤ) → length is ≡ length xs → all_renamed hs (is ++ js) (xs ++ ys) ≡ all_renamed hs is xs ++ all_renamed hs js ys
renamed_append hs [] js [] ys long = refl
renamed_append hs [] js (x ∷ xs) ys long = cc
renamed_append hs (i ∷ is) js [] ys long = cc
renamed_append hs (i ∷ is) js (x ∷ xs) ys long = ap (λ rest. renamed hs i x ∷ rest) (renamed_append hs is js xs ys (let same : length is ≡ length xs = cc in same))

pub names_append : (bound : ℕ) (is js : List Kind) (xs ys : List ℤ) → length is ≡ length xs → NameWords bound is xs → NameWords bound js ys → NameWords bound (is ++ js) (xs ++ ys)
names_append bound [] js [] ys long first second = second
names_append bound [] js (x ∷ xs) ys long first second = cc
names_append bound (i ∷ is) js [] ys long first second = cc
names_append bound (i ∷ is) js (x ∷ xs) ys long first second = (first.0, names_append bound is js xs ys (let same : length is ≡ length xs = cc in same) first.1 second)

pub long_append : (is js : List Kind) (xs ys : List ℤ) → length is ≡ length xs → length js ≡ length ys → length (is ++ js) ≡ length (xs ++ ys)
long_append is js xs ys first second = length-append is js ∙ (ap (λ n. n + length js) first ∙ (ap (λ n. length xs + n) second ∙ sym (length-append xs ys)))

renamed_repeated : (hs : List ℕ) (n : ℕ) (ks : List Kind) (zs : List ℤ) → length ks ≡ length zs → repeated n (all_renamed hs ks zs) ≡ all_renamed hs (kinds_repeated n ks) (repeated n zs)
renamed_repeated hs zero ks zs long = refl
renamed_repeated hs (suc n) ks zs long =
    ap (λ rest. all_renamed hs ks zs ++ rest) (renamed_repeated hs n ks zs long) ∙ sym (renamed_append hs ks (kinds_repeated n ks) zs (repeated n zs) long)

names_repeated : (bound n : ℕ) (ks : List Kind) (zs : List ℤ) → length ks ≡ length zs → NameWords bound ks zs → NameWords bound (kinds_repeated n ks) (repeated n zs)
names_repeated bound zero ks zs long names = tt
names_repeated bound (suc n) ks zs long names = names_append bound ks (kinds_repeated n ks) zs (repeated n zs) long names (names_repeated bound n ks zs long names)

long_repeated : (n : ℕ) (ks : List Kind) (zs : List ℤ) → length ks ≡ length zs → length (kinds_repeated n ks) ≡ length (repeated n zs)
long_repeated zero ks zs long = refl
long_repeated (suc n) ks zs long = long_append ks (kinds_repeated n ks) zs (repeated n zs) long (long_repeated n ks zs long)

pub kept_append : (is js : List Kind) (xs ys : List ℤ) → length is ≡ length xs → AreKept is xs → AreKept js ys → AreKept (is ++ js) (xs ++ ys)
kept_append [] js [] ys long first second = second
kept_append [] js (x ∷ xs) ys long first second = cc
kept_append (i ∷ is) js [] ys long first second = cc
kept_append (i ∷ is) js (x ∷ xs) ys long first second = (first.0, kept_append is js xs ys (let same : length is ≡ length xs = cc in same) first.1 second)

kept_repeated : (n : ℕ) (ks : List Kind) (zs : List ℤ) → length ks ≡ length zs → AreKept ks zs → AreKept (kinds_repeated n ks) (repeated n zs)
kept_repeated zero ks zs long kept = tt
kept_repeated (suc n) ks zs long kept = kept_append ks (kinds_repeated n ks) zs (repeated n zs) long kept (kept_repeated n ks zs long kept)

-- ---- outcomes

module _ (handles : List ℕ) (here taken : List Kind) where
  pub memory_ends : (ks : List Kind) (f : Made (List ℤ)) (x : Stop) (s : Slots) → x ≡ Memory → AreAlike handles here taken ks f (Ends x s)
  memory_ends ks (Done zs m) x s e = e
  memory_ends ks (Halted y m) x s e = inr (inl e)
  memory_ends ks Failed x s e = tt

  pub stops_then : (x : Stop) (m : Flat) (g r : Outcome) (P : List ℤ → Slots → Type 0) → StopsAlike handles here taken x m g → Then g P r → StopsAlike handles here taken x m r
  stops_then x m (Gives us s) r P same so = silent_stops handles here taken x m r same
  stops_then x m (Ends y s) r P same so = subst (StopsAlike handles here taken x m) (sym so) same
  stops_then x m Fails r P same so = silent_stops handles here taken x m r same

  -- with the handles that were added meanwhile
  stops_on : (more : List ℕ) (x : Stop) (m : Flat) (r : Outcome) → StopsAlike (handles ++ more) here taken x m r → StopsAlike handles here taken x m r
  stops_on more x m (Gives us s) same = same
  stops_on more x m Fails same = same
  stops_on more x m (Ends y s) (inl e) = inl e
  stops_on more x m (Ends y s) (inr (inl e)) = inr (inl e)
  stops_on more x m (Ends y s) (inr (inr both)) = inr (inr (both.0, (more ++ both.1.0, subst (λ hs. During hs here taken m s) (append_assoc handles more both.1.0) both.1.1)))

  pub alike_on : (more : List ℕ) (ks : List Kind) (f : Made (List ℤ)) (r : Outcome) → AreAlike (handles ++ more) here taken ks f r → AreAlike handles here taken ks f r
  alike_on more ks (Done zs m) (Gives us s) a =
      let same : handles ++ more ++ a.more ≡ handles ++ (more ++ a.more) = append_assoc handles more a.more in record {
        more = more ++ a.more;
        words = a.words ∙ ap (λ hs. all_renamed hs ks zs) same;
        known = a.known;
        names = subst (λ hs. NameWords (length hs) ks zs) same a.names;
        kept = a.kept;
        during = subst (λ hs. During hs here taken m s) same a.during;
      }
  alike_on more ks (Done zs m) (Ends x s) a = a
  alike_on more ks (Done zs m) Fails a = a
  alike_on more ks (Halted x m) r a = stops_on more x m r a
  alike_on more ks Failed r a = tt

  -- ---- a value so many times

  pub repeated_alike : (n : ℕ) (js : List Kind) (f : Made (List ℤ)) (g r : Outcome) → AreAlike handles here taken js f g → Then g (λ zs t. r ≡ Gives (repeated n zs) t) r
      → AreAlike handles here taken (kinds_repeated n js) (made_then f (λ zs. Done (repeated n zs))) r
  repeated_alike n js (Done zs m) (Gives us s) r a so =
      let alike : Alike handles here taken (kinds_repeated n js) (repeated n zs) m (repeated n us) s = record {
        more = a.more;
        words = ap (repeated n) a.words ∙ renamed_repeated (handles ++ a.more) n js zs a.known;
        known = long_repeated n js zs a.known;
        names = names_repeated (length (handles ++ a.more)) n js zs a.known a.names;
        kept = kept_repeated n js zs a.known a.kept;
        during = a.during;
      } in
      subst (AreAlike handles here taken (kinds_repeated n js) (Done (repeated n zs) m)) (sym so) alike
  repeated_alike n js (Done zs m) (Ends x s) r a so = subst (AreAlike handles here taken (kinds_repeated n js) (Done (repeated n zs) m)) (sym so) a
  repeated_alike n js (Done zs m) Fails r a so = absurd a
  repeated_alike n js (Halted x m) g r a so = stops_then x m g r (λ zs t. r ≡ Gives (repeated n zs) t) a so
  repeated_alike n js Failed g r a so = tt

  -- ---- words after others

  pub second_alike : (is js : List Kind) (zs us : List ℤ) (f : Made (List ℤ)) (q r : Outcome) → us ≡ all_renamed handles is zs → length is ≡ length zs → NameWords (length handles) is zs → AreKept is zs
      → AreAlike handles here taken js f q → Then q (λ ws u. r ≡ Gives (us ++ ws) u) r → AreAlike handles here taken (is ++ js) (made_then f (λ ws. Done (zs ++ ws))) r
  second_alike is js zs us (Done ws m) (Gives vs s) r words known names kept a so =
      let hs : List ℕ = handles ++ a.more in
      let alike : Alike handles here taken (is ++ js) (zs ++ ws) m (us ++ vs) s = record {
        more = a.more;
        words = ap (λ xs. xs ++ vs) (words ∙ words_on handles a.more is zs names) ∙ (ap (λ ys. all_renamed hs is zs ++ ys) a.words ∙ sym (renamed_append hs is js zs ws known));
        known = long_append is js zs ws known a.known;
        names = names_append (length hs) is js zs ws known (names_on handles a.more is zs names) a.names;
        kept = kept_append is js zs ws known kept a.kept;
        during = a.during;
      } in
      subst (AreAlike handles here taken (is ++ js) (Done (zs ++ ws) m)) (sym so) alike
  second_alike is js zs us (Done ws m) (Ends x s) r words known names kept a so = subst (AreAlike handles here taken (is ++ js) (Done (zs ++ ws) m)) (sym so) a
  second_alike is js zs us (Done ws m) Fails r words known names kept a so = absurd a
  second_alike is js zs us (Halted x m) q r words known names kept a so = stops_then x m q r (λ ws u. r ≡ Gives (us ++ ws) u) a so
  second_alike is js zs us Failed q r words known names kept a so = tt

-- ---- a new cell

last_of : (hs : List ℕ) (h : ℕ) → get_or (hs ++ h ∷ []) (length hs) 0 ≡ h
last_of [] h = refl
last_of (x ∷ hs) h = last_of hs h

module _ (handles : List ℕ) (here taken : List Kind) (m : Flat) (s : Slots) (is : During handles here taken m s) where
  pub cell_alike : (ks : List Kind) (zs : List ℤ) (r : Outcome) → length ks ≡ length zs → NameWords (length handles) ks zs → AreKept ks zs → Makes s ks (all_renamed handles ks zs) r
      → AreAlike handles here taken (sort.Access ∷ []) (flat.made m ks zs) r
  cell_alike ks zs r known names kept makes =
      by (are_words ks zs) (nat_le (m.live + length zs) heap_words) (nat_lt (length m.cells) most_cells) r refl refl (told (are_words ks zs) refl)
    where
      us : List ℤ
      us = all_renamed handles ks zs

      tests : nat_le (s.live + length (all_renamed handles ks zs)) heap_words ≡ nat_le (m.live + length zs) heap_words
      tests = ap (λ l. nat_le (l + length (all_renamed handles ks zs)) heap_words) (is.beside.live ∙ is.unmarked.live) ∙ ap (λ l. nat_le (m.live + l) heap_words) (long_renamed handles ks zs known)

      numbers : nat_lt s.made most_cells ≡ nat_lt (length m.cells) most_cells
      numbers = ap (λ n. nat_lt n most_cells) (is.beside.made.0 ∙ unmarked_long is.whole.cells m.cells is.unmarked.cells)

      Told : Bool → Bool → Outcome → Type 0
      Told true b r = MakesCell b s ks us r
      Told false b r = Unit {0}

      told : (a : Bool) → are_words ks zs ≡ a → Told a (nat_le (m.live + length zs) heap_words) r
      told true are =
          subst (λ b. MakesCell b s ks us r) tests
          (subst (λ b. MakesWhere b (MakesCell (nat_le (s.live + length us) heap_words) s ks us r) r) (words_fit handles ks zs is.beside.small are) makes)
      told false are = tt

      by : (a b c : Bool) (r : Outcome) → are_words ks zs ≡ a → nat_lt (length m.cells) most_cells ≡ c → Told a b r
          → AreAlike handles here taken (sort.Access ∷ [])
          (if not a then Failed else (if b then (if c then Done (pos (suc (length m.cells)) ∷ []) (with_cell m (values ks zs)) else Halted Memory m) else Halted (Raises StorageError) m)) r
      by true true true (Gives ws t) are room (h, new, less, word, made, few) =
          let after = during_made handles here taken m s h ks zs is new less names kept are in
          let long = length-append handles (h ∷ []) in
          let count : length handles ≡ length m.cells = is.beside.cells.len ∙ unmarked_long is.whole.cells m.cells is.unmarked.cells in record {
            more = h ∷ [];
            words = word ∙ ap (λ n. pos (suc n) ∷ []) (sym (ap (λ n. get_or (handles ++ h ∷ []) n 0) (sym count) ∙ last_of handles h));
            known = refl;
            names = (omega (arith, long, count), tt);
            kept = (tt, tt);
            during = subst (During (handles ++ h ∷ []) here taken (with_cell m (values ks zs))) (sym made) after;
          }
      by true true true (Ends x t) are room made = made.0
      by true true true Fails are room made = absurd made
      by true true false (Gives ws t) are room (h, new, less, word, made, few) = absurd (true≢false (sym few ∙ (numbers ∙ room)))
      by true true false (Ends x t) are room made = inr (inl made.0)
      by true true false Fails are room made = absurd made
      by true false c r are room made = subst (StopsAlike handles here taken (Raises StorageError) m) (sym made) (stops_alike handles here taken m s is (Raises StorageError))
      by false b c r are room made = tt
