-- The law: values give the same over both heaps, but for the names of cells.
use Rattle.std.proofs.Common.{◌≡◌, refl, sym, ap, ◌∙◌, subst, ℕ, zero, suc, ◌≤◌, arith, Bool, true, false, nat_le, List, [], ◌∷◌, ◌++◌, take, drop, length, ℤ, pos, negsuc, if◌then◌else◌}
use Rattle.std.proofs.lemmas.Bool.Decides.{nat_tests}
use Rattle.numbered_cells.specs.type_definitions.Types.{Table}
use Rattle.numbered_cells.specs.run_values.declared.value.Kind.{Kind}
use Rattle.numbered_cells.specs.run_values.declared.value.Kind.TheVariants as sort
use Rattle.numbered_cells.specs.machine.Words.{access_offsets}
use Rattle.numbered_cells.specs.run_codes.Codes.{Code, Fill, Checked, Pointer, MovedPointer, Copied, Moved, Waited, New, Default, Repeated, Both, Empty}
use Rattle.numbered_cells.specs.run_codes.Flat.{Flat, Made, Done, Halted, Failed, Got, Given, Stops, Broken, Raises, Traps, Memory, and_then, access, checked, is_word, kinds, default_words, some_words, repeated, made_then, filled}
use Rattle.numbered_cells.specs.run_codes.Flat as flat
use Rattle.handled_runs.specs.Slots.{Slots}
use Rattle.handled_runs.specs.Slots as slots
use Rattle.handled_runs.specs.Values.{Outcome, Gives, Ends, Fails, reads, Then, Makes, Fills}
use Rattle.handled_runs.specs.Beside.{GotsAlike, handle_word, renamed, all_renamed, NamesWord, NameWords}
use Rattle.handled_runs.specs.Looks.{IsData, IsNumber, IsKept, Looks, IsKeptAs, AreKept}
use Rattle.handled_runs.specs.Marks.{During}
use Rattle.handled_runs.specs.Alike.{Wherever, LooksFill, AreNumbers, AreAlike, Alike}
use Rattle.handled_runs.proofs.Gots.{gots_same, gots_on, gots_then}
use Rattle.handled_runs.proofs.Words.{data_renamed, word_gots}
use Rattle.handled_runs.proofs.Kept.{drop_kept, word_kept}
use Rattle.handled_runs.proofs.Unmarked.{data_same, access_same}
use Rattle.handled_runs.proofs.Bases.{filled_base}
use Rattle.handled_runs.proofs.Standing.{drop_renamed}
use Rattle.handled_runs.proofs.Names.{named_data, number_named, word_named, drop_named}
use Rattle.handled_runs.proofs.Copies.{given_alike, reads_on, clear, copied_alike, moved_alike}
use Rattle.handled_runs.proofs.Outcomes.{memory_ends, stops_then, alike_on, repeated_alike, second_alike, cell_alike}

-- ---- words

data_word : (handles : List ℕ) (k : Kind) (z : ℤ) → IsData k → renamed handles k z ≡ z
data_word = data_renamed

checked_same : (handles : List ℕ) (k : Kind) (low high z : ℤ) → IsData k → GotsAlike (λ a b. b ≡ renamed handles k a) (checked low high z) (checked low high z)
checked_same handles k low high z is =
    gots_on (λ a b. b ≡ a) (λ a b. b ≡ renamed handles k a) (checked low high z) (checked low high z) (λ a b e. e ∙ sym (data_renamed handles k a is)) (gots_same (checked low high z) (checked low high z) refl)

number_renamed : (handles : List ℕ) (k : Kind) (z : ℤ) → IsNumber k z → z ≡ renamed handles k z
number_renamed handles sort.Int z is = refl
number_renamed handles sort.Enum z is = refl
number_renamed handles sort.Access z is = subst (λ x. x ≡ renamed handles sort.Access x) (sym is) refl

pub numbers_renamed : (handles : List ℕ) (ks : List Kind) (zs : List ℤ) → AreNumbers ks zs → zs ≡ all_renamed handles ks zs
numbers_renamed handles [] [] are = refl
numbers_renamed handles [] (z ∷ zs) are = absurd are
numbers_renamed handles (k ∷ ks) [] are = absurd are
numbers_renamed handles (k ∷ ks) (z ∷ zs) are = ap (λ x. x ∷ zs) (number_renamed handles k z are.0) ∙ ap (λ rest. renamed handles k z ∷ rest) (numbers_renamed handles ks zs are.1)

pub numbers_long : (ks : List Kind) (zs : List ℤ) → AreNumbers ks zs → length ks ≡ length zs
numbers_long [] [] are = refl
numbers_long [] (z ∷ zs) are = absurd are
numbers_long (k ∷ ks) [] are = absurd are
numbers_long (k ∷ ks) (z ∷ zs) are = ap suc (numbers_long ks zs are.1)

pub numbers_named : (bound : ℕ) (ks : List Kind) (zs : List ℤ) → AreNumbers ks zs → NameWords bound ks zs
numbers_named bound [] [] are = tt
numbers_named bound [] (z ∷ zs) are = absurd are
numbers_named bound (k ∷ ks) [] are = absurd are
numbers_named bound (k ∷ ks) (z ∷ zs) are = (number_named bound k z are.0, numbers_named bound ks zs are.1)

-- ---- the first ones

pub take_renamed : (handles : List ℕ) (n : ℕ) (ks : List Kind) (zs : List ℤ) → take n (all_renamed handles ks zs) ≡ all_renamed handles (take n ks) (take n zs)
take_renamed handles zero ks zs = refl
take_renamed handles (suc n) [] zs = refl
take_renamed handles (suc n) (k ∷ ks) [] = refl
take_renamed handles (suc n) (k ∷ ks) (z ∷ zs) = ap (λ rest. renamed handles k z ∷ rest) (take_renamed handles n ks zs)

pub take_named : (bound n : ℕ) (ks : List Kind) (zs : List ℤ) → NameWords bound ks zs → NameWords bound (take n ks) (take n zs)
take_named bound zero ks zs names = tt
take_named bound (suc n) [] zs names = tt
take_named bound (suc n) (k ∷ ks) [] names = tt
take_named bound (suc n) (k ∷ ks) (z ∷ zs) names = (names.0, take_named bound n ks zs names.1)

take_within : {A : Type 0} (n : ℕ) (xs : List A) → length (take n xs) ≡ n → n ≤ length xs
take_within zero xs e = omega arith
take_within (suc n) [] e = cc
take_within (suc n) (x ∷ xs) e = let less = take_within n xs (let same : length (take n xs) ≡ n = cc in same) in omega (arith, less)

take_long : {A : Type 0} (n : ℕ) (xs : List A) → n ≤ length xs → length (take n xs) ≡ n
take_long zero xs less = refl
take_long (suc n) [] less = absurd (omega (arith, less))
take_long (suc n) (x ∷ xs) less = ap suc (take_long n xs (omega (arith, less)))

renamed_within : (handles : List ℕ) (n : ℕ) (ks : List Kind) (zs : List ℤ) → n ≤ length ks → n ≤ length zs → n ≤ length (all_renamed handles ks zs)
renamed_within handles zero ks zs first second = omega arith
renamed_within handles (suc n) [] zs first second = absurd (omega (arith, first))
renamed_within handles (suc n) (k ∷ ks) [] first second = absurd (omega (arith, second))
renamed_within handles (suc n) (k ∷ ks) (z ∷ zs) first second = let less = renamed_within handles n ks zs (omega (arith, first)) (omega (arith, second)) in omega (arith, less)

is_within : (a b : ℕ) → nat_le a b ≡ true → a ≤ b
is_within a b e = grind (arith, nat_tests)

tests_within : (a b : ℕ) → a ≤ b → nat_le a b ≡ true
tests_within a b less = grind (arith, nat_tests)

take_kept : (n : ℕ) (ks : List Kind) (zs : List ℤ) → AreKept ks zs → AreKept (take n ks) (take n zs)
take_kept zero ks zs kept = tt
take_kept (suc n) [] zs kept = tt
take_kept (suc n) (k ∷ ks) [] kept = tt
take_kept (suc n) (k ∷ ks) (z ∷ zs) kept = (kept.0, take_kept n ks zs kept.1)

number_kept : (k : Kind) (z : ℤ) → IsNumber k z → IsKeptAs k z
number_kept sort.Int z is = tt
number_kept sort.Enum z is = tt
number_kept sort.Access z is = subst IsKept (sym is) tt

pub numbers_kept : (ks : List Kind) (zs : List ℤ) → AreNumbers ks zs → AreKept ks zs
numbers_kept [] zs are = tt
numbers_kept (k ∷ ks) [] are = absurd are
numbers_kept (k ∷ ks) (z ∷ zs) are = (number_kept k z are.0, numbers_kept ks zs are.1)

data_kept : (k : Kind) (z : ℤ) → IsData k → IsKeptAs k z
data_kept sort.Int z is = tt
data_kept sort.Enum z is = tt
data_kept sort.Access z is = absurd is

-- ---- one value

module _ (handles : List ℕ) (here taken : List Kind) (m : Flat) (s : Slots) (is : During handles here taken m s) where
  one_alike : (k : Kind) (x y : Got ℤ) → GotsAlike (λ a b. b ≡ renamed handles k a) x y → ((z : ℤ) → x ≡ Given z → NamesWord (length handles) k z × IsKeptAs k z)
      → AreAlike handles here taken (k ∷ []) (flat.reads m x (λ w. Done (w ∷ []) m)) (reads s y (λ w. Gives (w ∷ []) s))
  one_alike k x y alike known =
      reads_on handles here taken m s is (λ a b. b ≡ renamed handles k a) (k ∷ []) x y (λ w. Done (w ∷ []) m) (λ w. Gives (w ∷ []) s) alike
      (λ z w e same.
      let facts = known z e in
      subst (λ v. Alike handles here taken (k ∷ []) (z ∷ []) m (v ∷ []) s) (sym same) (given_alike handles here taken m s is (k ∷ []) (z ∷ []) m s refl (facts.0, tt) (facts.1, tt) is))

  checked_alike : (c : Code) (k : Kind) (low high : ℤ) → IsData k → Wherever m.base (λ x. Looks x here taken c k)
      → AreAlike handles here taken (k ∷ []) (flat.reads m (and_then (flat.word m c) (checked low high)) (λ w. Done (w ∷ []) m)) (reads s (and_then (slots.word s c) (checked low high)) (λ w. Gives (w ∷ []) s))
  checked_alike c k low high data_kind looks =
      one_alike k (and_then (flat.word m c) (checked low high)) (and_then (slots.word s c) (checked low high))
      (gots_then (λ a b. b ≡ renamed handles k a) (λ a b. b ≡ renamed handles k a) (flat.word m c) (slots.word s c) (checked low high) (checked low high)
      (subst (λ g. GotsAlike (λ a b. b ≡ renamed handles k a) g (slots.word s c)) (data_same here taken is.whole m is.unmarked is.kept c k data_kind (looks m refl))
      (word_gots handles here taken is.whole s is.beside (clear handles here taken m s is) c k (looks is.whole is.unmarked.base)))
      (λ z w e same.
      subst (λ v. GotsAlike (λ a b. b ≡ renamed handles k a) (checked low high z) (checked low high v)) (sym (same ∙ data_word handles k z data_kind)) (checked_same handles k low high z data_kind)))
      (λ z e. (named_data (length handles) k z data_kind, data_kept k z data_kind))

  -- an access value that is looked at
  looked_gots : (x y : Got ℤ) → GotsAlike (λ a b. b ≡ handle_word handles a) x y → ((z : ℤ) → x ≡ Given z → IsKept z) → GotsAlike (λ a b. b ≡ handle_word handles a) (and_then x access) y
  looked_gots (Given (pos n)) (Given w) alike kept = by (is_word sort.Access (pos n))
    where
      by : (b : Bool) → GotsAlike (λ a b. b ≡ handle_word handles a) (if b then Given (pos n) else Broken) (Given w)
      by true = alike
      by false = tt
  looked_gots (Given (negsuc n)) (Given w) alike kept = absurd (kept (negsuc n) refl)
  looked_gots (Given z) (Stops t) alike kept = absurd alike
  looked_gots (Given z) Broken alike kept = absurd alike
  looked_gots (Stops (Raises e)) y alike kept = alike
  looked_gots (Stops (Traps t)) y alike kept = tt
  looked_gots (Stops Memory) y alike kept = alike
  looked_gots Broken y alike kept = tt

  looked_word : (x : Got ℤ) (z : ℤ) → ((y : ℤ) → x ≡ Given y → NamesWord (length handles) sort.Access y) → ((y : ℤ) → x ≡ Given y → IsKept y) → and_then x access ≡ Given z
      → NamesWord (length handles) sort.Access z × IsKept z
  looked_word (Given (pos n)) z names kept e = by (is_word sort.Access (pos n)) e
    where
      by : (b : Bool) → (if b then Given (pos n) else Broken) ≡ Given z → NamesWord (length handles) sort.Access z × IsKept z
      by true f = let same : pos n ≡ z = cc in subst (λ y. NamesWord (length handles) sort.Access y × IsKept y) same (names (pos n) refl, tt)
      by false f = cc
  looked_word (Given (negsuc n)) z names kept e = absurd (kept (negsuc n) refl)
  looked_word (Stops t) z names kept e = cc
  looked_word Broken z names kept e = cc

  looked_alike : (c : Code) → Wherever m.base (λ x. Looks x here taken c sort.Access)
      → AreAlike handles here taken (sort.Access ∷ []) (flat.reads m (and_then (flat.word m c) access) (λ w. Done (w ∷ []) m)) (reads s (slots.word s c) (λ w. Gives (w ∷ []) s))
  looked_alike c looks =
      let at : Looks is.whole here taken c sort.Access = looks is.whole is.unmarked.base in
      subst (λ g. AreAlike handles here taken (sort.Access ∷ []) (flat.reads m g (λ w. Done (w ∷ []) m)) (reads s (slots.word s c) (λ w. Gives (w ∷ []) s)))
      (access_same here taken is.whole m is.unmarked is.kept c (looks m refl))
      (one_alike sort.Access (and_then (flat.word is.whole c) access) (slots.word s c)
      (looked_gots (flat.word is.whole c) (slots.word s c) (word_gots handles here taken is.whole s is.beside (clear handles here taken m s is) c sort.Access at)
      (λ z e. word_kept here taken is.whole (clear handles here taken m s is) c z at e))
      (λ z e.
      looked_word (flat.word is.whole c) z (λ y f. word_named handles here taken is.whole s is.beside c sort.Access y at f) (λ y f. word_kept here taken is.whole (clear handles here taken m s is) c y at f) e))

  waited_alike : (at n : ℕ) (ks : List Kind) → ks ≡ take n (drop at taken) → length ks ≡ n
      → AreAlike handles here taken ks (flat.reads m (some_words n (drop at m.waits)) (λ zs. Done zs m)) (reads s (some_words n (drop at s.waits)) (λ zs. Gives zs s))
  waited_alike at n ks taken_is long = by (nat_le n (length (drop at m.waits))) refl
    where
      waits : s.waits ≡ all_renamed handles taken m.waits
      waits = is.beside.waits ∙ ap (all_renamed handles taken) is.unmarked.waits

      waiting_names : NameWords (length handles) taken m.waits
      waiting_names = subst (NameWords (length handles) taken) is.unmarked.waits is.beside.waiting_names

      by : (b : Bool) → nat_le n (length (drop at m.waits)) ≡ b
          → AreAlike handles here taken ks (flat.reads m (if b then Given (take n (drop at m.waits)) else Broken) (λ zs. Done zs m)) (reads s (some_words n (drop at s.waits)) (λ zs. Gives zs s))
      by true less =
          let zs : List ℤ = take n (drop at m.waits) in
          let room = is_within n (length (drop at m.waits)) less in
          let known : length ks ≡ length zs = long ∙ sym (take_long n (drop at m.waits) room) in
          let all : drop at s.waits ≡ all_renamed handles (drop at taken) (drop at m.waits) = ap (drop at) waits ∙ drop_renamed handles at taken m.waits in
          let within = renamed_within handles n (drop at taken) (drop at m.waits) (take_within n (drop at taken) (ap length (sym taken_is) ∙ long)) room in
          let taken_words : some_words n (drop at s.waits) ≡ Given (all_renamed handles ks zs)
          = ap (some_words n) all
          ∙ (ap (λ b. if b then Given (take n (all_renamed handles (drop at taken) (drop at m.waits))) else Broken) (tests_within n (length (all_renamed handles (drop at taken) (drop at m.waits))) within)
          ∙ (ap Given (take_renamed handles n (drop at taken) (drop at m.waits)) ∙ ap (λ js. Given (all_renamed handles js zs)) (sym taken_is))) in
          let names : NameWords (length handles) ks zs
          = subst (λ js. NameWords (length handles) js zs) (sym taken_is) (take_named (length handles) n (drop at taken) (drop at m.waits) (drop_named (length handles) at taken m.waits waiting_names)) in
          let kept : AreKept ks zs = subst (λ js. AreKept js zs) (sym taken_is) (take_kept n (drop at taken) (drop at m.waits) (drop_kept at taken m.waits is.kept)) in
          subst (λ g. AreAlike handles here taken ks (Done zs m) (reads s g (λ us. Gives us s))) (sym taken_words) (given_alike handles here taken m s is ks zs m s known names kept is)
      by false less = tt

-- ---- a new cell with a value, and a value after another one

module _ (handles : List ℕ) (here taken : List Kind) where
  new_alike : (ks : List Kind) (f : Made (List ℤ)) (g r : Outcome) → AreAlike handles here taken ks f g → Then g (λ zs t. Makes t ks zs r) r
      → AreAlike handles here taken (sort.Access ∷ []) (made_then f (λ zs n. flat.made n ks zs)) r
  new_alike ks (Done zs n) (Gives us t) r a so =
      alike_on handles here taken a.more (sort.Access ∷ []) (flat.made n ks zs) r
      (cell_alike (handles ++ a.more) here taken n t a.during ks zs r a.known a.names a.kept (subst (λ xs. Makes t ks xs r) a.words so))
  new_alike ks (Done zs n) (Ends x t) r a so =
      subst (AreAlike handles here taken (sort.Access ∷ []) (flat.made n ks zs)) (sym so) (memory_ends handles here taken (sort.Access ∷ []) (flat.made n ks zs) x t a)
  new_alike ks (Done zs n) Fails r a so = absurd a
  new_alike ks (Halted x n) g r a so = stops_then handles here taken x n g r (λ zs t. Makes t ks zs r) a so
  new_alike ks Failed g r a so = tt

  both_alike : (table : Table) (b : Fill) (is js : List Kind) (f : Made (List ℤ)) (g r : Outcome) → AreAlike handles here taken is f g
      → Then g (λ zs t. (q : Outcome) × Fills table b t q × Then q (λ us u. r ≡ Gives (zs ++ us) u) r) r
      → ((zs : List ℤ) (n : Flat) (hs : List ℕ) (t : Slots) (q : Outcome) → f ≡ Done zs n → During hs here taken n t → Fills table b t q → AreAlike hs here taken js (filled table b n) q)
      → AreAlike handles here taken (is ++ js) (made_then f (λ zs n. made_then (filled table b n) (λ us. Done (zs ++ us)))) r
  both_alike table b is js (Done zs n) (Gives us t) r a so on =
      alike_on handles here taken a.more (is ++ js) (made_then (filled table b n) (λ ws. Done (zs ++ ws))) r
      (second_alike (handles ++ a.more) here taken is js zs us (filled table b n) so.0 r a.words a.known a.names a.kept (on zs n (handles ++ a.more) t so.0 refl a.during so.1) so.2)
  both_alike table b is js (Done zs n) (Ends x t) r a so on =
      subst (AreAlike handles here taken (is ++ js) (made_then (filled table b n) (λ us. Done (zs ++ us)))) (sym so)
      (memory_ends handles here taken (is ++ js) (made_then (filled table b n) (λ us. Done (zs ++ us))) x t a)
  both_alike table b is js (Done zs n) Fails r a so on = absurd a
  both_alike table b is js (Halted x n) g r a so on =
      stops_then handles here taken x n g r (λ zs t. (q : Outcome) × Fills table b t q × Then q (λ us u. r ≡ Gives (zs ++ us) u) r) a so
  both_alike table b is js Failed g r a so on = tt

-- ---- the law

pub fill_alike : (table : Table) (v : Fill) (ks : List Kind) (handles : List ℕ) (here taken : List Kind) (m : Flat) (s : Slots) (r : Outcome)
    → During handles here taken m s → LooksFill table m.base here taken v ks → Fills table v s r → AreAlike handles here taken ks (filled table v m) r
unfolding filled LooksFill Fills
fill_alike table (Checked c low high) ks handles here taken m s r during (k, is, data_kind, looks) so =
    subst (λ js. AreAlike handles here taken js (filled table (Checked c low high) m) r) (sym is)
    (subst (AreAlike handles here taken (k ∷ []) (filled table (Checked c low high) m)) (sym so) (checked_alike handles here taken m s during c k low high data_kind looks))
fill_alike table (Pointer c) ks handles here taken m s r during (is, looks) so =
    subst (λ js. AreAlike handles here taken js (filled table (Pointer c) m) r) (sym is)
    (subst (AreAlike handles here taken (sort.Access ∷ []) (filled table (Pointer c) m)) (sym so) (looked_alike handles here taken m s during c looks))
fill_alike table (MovedPointer p) ks handles here taken m s r during (is, looks) so =
    subst (λ js. AreAlike handles here taken js (filled table (MovedPointer p) m) r) (sym is)
    (subst (AreAlike handles here taken (sort.Access ∷ []) (filled table (MovedPointer p) m)) (sym so) (moved_alike handles here taken m s during p (sort.Access ∷ []) (0 ∷ []) looks))
fill_alike table (Copied p of) ks handles here taken m s r during (is, looks) so =
    subst (λ js. AreAlike handles here taken js (filled table (Copied p of) m) r) (sym is)
    (subst (AreAlike handles here taken (kinds table of) (filled table (Copied p of) m)) (sym so) (copied_alike handles here taken m s during p (kinds table of) looks))
fill_alike table (Moved p of) ks handles here taken m s r during (is, looks) so =
    subst (λ js. AreAlike handles here taken js (filled table (Moved p of) m) r) (sym is)
    (subst (AreAlike handles here taken (kinds table of) (filled table (Moved p of) m)) (sym so)
    (moved_alike handles here taken m s during p (kinds table of) (access_offsets table of) looks))
fill_alike table (Waited at n) ks handles here taken m s r during (is, long) so =
    subst (AreAlike handles here taken ks (filled table (Waited at n) m)) (sym so) (waited_alike handles here taken m s during at n ks is long)
fill_alike table (New v of) ks handles here taken m s r during (is, looks) (g, fills, so) =
    subst (λ js. AreAlike handles here taken js (filled table (New v of) m) r) (sym is)
    (new_alike handles here taken (kinds table of) (filled table v m) g r (fill_alike table v (kinds table of) handles here taken m s g during looks fills) so)
fill_alike table (Default of) ks handles here taken m s r during looks so =
    subst (AreAlike handles here taken ks (Done (default_words table of) m)) (sym so)
    (subst (λ us. Alike handles here taken ks (default_words table of) m us s) (sym (numbers_renamed handles ks (default_words table of) looks))
    (given_alike handles here taken m s during ks (default_words table of) m s (numbers_long ks (default_words table of) looks) (numbers_named (length handles) ks (default_words table of) looks)
    (numbers_kept ks (default_words table of) looks) during))
fill_alike table (Repeated v n) ks handles here taken m s r during (js, is, looks) (g, fills, so) =
    subst (λ ls. AreAlike handles here taken ls (filled table (Repeated v n) m) r) (sym is)
    (repeated_alike handles here taken n js (filled table v m) g r (fill_alike table v js handles here taken m s g during looks fills) so)
fill_alike table (Both a b) ks handles here taken m s r during (is, js, same, first, second) (g, fills, so) =
    subst (λ ls. AreAlike handles here taken ls (filled table (Both a b) m) r) (sym same)
    (both_alike handles here taken table b is js (filled table a m) g r (fill_alike table a is handles here taken m s g during first fills) so
    (λ zs n hs t q e near fill. fill_alike table b js hs here taken n t q near (subst (λ base. LooksFill table base here taken b js) (sym (filled_base table a m zs n e)) second) fill))
fill_alike table Empty ks handles here taken m s r during looks so =
    subst (λ js. AreAlike handles here taken js (Done [] m) r) (sym looks)
    (subst (AreAlike handles here taken [] (Done [] m)) (sym so) (given_alike handles here taken m s during [] [] m s refl tt tt during))
