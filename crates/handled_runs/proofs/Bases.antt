-- Values leave the frame where it is, and the stack as long as it is.
use Rattle.std.proofs.Common.{◌≡◌, refl, sym, ap, ◌∙◌, subst, ℕ, zero, suc, ◌+◌, ◌≤◌, arith, Bool, true, false, not, ◌&&◌, nat_le, nat_lt, List, [], ◌∷◌, ◌++◌, take, drop, length, slice_get, ℤ, pos, if◌then◌else◌}
use Rattle.numbered_cells.specs.type_definitions.Types.{Table}
use Rattle.numbered_cells.specs.run_values.declared.value.Value.{Value}
use Rattle.numbered_cells.specs.run_values.declared.value.Kind.{Kind}
use Rattle.numbered_cells.specs.run_values.declared.value.Kind.TheVariants as sort
use Rattle.numbered_cells.specs.machine.Words.{access_offsets}
use Rattle.numbered_cells.specs.machine.Evaluate.{StorageError, heap_words}
use Rattle.numbered_cells.specs.kept_cells.Cells.{Cell}
use Rattle.numbered_cells.specs.run_codes.Codes.{Fill, Checked, Pointer, MovedPointer, Copied, Moved, Waited, New, Default, Repeated, Both, Empty}
use Rattle.numbered_cells.specs.run_codes.Flat.{Flat, Got, Given, Stops, Broken, Raises, Memory, and_then, access, checked, some_words, most_cells, touched, kinds, word, Spot, InStack, InCell, spot, held, moved_out, front, are_pointers, are_in, all_gone, values_gone, spliced, with_stack, with_words, with_cell, values, are_words, Made, Done, Halted, Failed, made, made_then, reads, filled}
use Rattle.numbered_cells.specs.run_codes.Flat as flat
use Rattle.handled_runs.proofs.Gots.{there_of}
use Rattle.handled_runs.proofs.Lists.{spliced_is, replaced_long, gone_long, front_within}

abbrev IsAsLong : Flat → Flat → Type 0
IsAsLong m n = (n.base ≡ m.base) × (length n.stack ≡ length m.stack)

abbrev Stays : Flat → Made (List ℤ) → Type 0
Stays m (Done zs n) = IsAsLong m n
Stays m (Halted x n) = Unit {0}
Stays m Failed = Unit {0}

read_stays : {A : Type 0} (m : Flat) (g : Got A) (f : A → Made (List ℤ)) → ((a : A) → g ≡ Given a → Stays m (f a)) → Stays m (reads m g f)
read_stays m (Given a) f on = on a refl
read_stays m (Stops x) f on = tt
read_stays m Broken f on = tt

then_stays : (m : Flat) (x : Made (List ℤ)) (f : List ℤ → Flat → Made (List ℤ)) → Stays m x → ((zs : List ℤ) (n : Flat) → IsAsLong m n → Stays m (f zs n)) → Stays m (made_then x f)
then_stays m (Done zs n) f is on = on zs n is
then_stays m (Halted x n) f is on = tt
then_stays m Failed f is on = tt

none_spliced : (i : ℕ) (st : List ℤ) → spliced i [] st ≡ st
none_spliced zero st = refl
none_spliced (suc i) [] = let next : suc i + 0 ≡ suc (i + 0) = omega arith in ap (λ k. drop {A = ℤ} k []) next
none_spliced (suc i) (s ∷ st) = let next : suc i + 0 ≡ suc (i + 0) = omega arith in ap (λ k. take (suc i) (s ∷ st) ++ [] ++ drop k (s ∷ st)) next ∙ ap (λ rest. s ∷ rest) (none_spliced i st)

front_low : (k : Kind) (ks : List Kind) (i : ℕ) (st zs : List ℤ) → front (k ∷ ks) (drop i st) ≡ Given zs → i ≤ length st
front_low k ks zero st zs e = omega arith
front_low k ks (suc i) [] zs e = cc
front_low k ks (suc i) (s ∷ st) zs e = let less = front_low k ks i st zs e in omega (arith, less)

none_gone : (gone : List ℕ) → all_gone gone [] ≡ []
none_gone [] = refl
none_gone (g ∷ gone) = none_gone gone

gone_splice : (ks : List Kind) (i : ℕ) (st zs : List ℤ) (gone : List ℕ) → front ks (drop i st) ≡ Given zs → length (spliced i (all_gone gone zs) st) ≡ length st
gone_splice [] i st zs gone e =
    let same : [] ≡ zs = cc in
    subst (λ ys. length (spliced i (all_gone gone ys) st) ≡ length st) same (ap (λ ys. length (spliced i ys st)) (none_gone gone) ∙ ap length (none_spliced i st))
gone_splice (k ∷ ks) i st zs gone e =
    let fits = front_within (k ∷ ks) i st zs e (front_low k ks i st zs e) in
    let long = gone_long gone zs in
    ap length (spliced_is i (all_gone gone zs) st (omega (arith, fits, long))) ∙ replaced_long i (all_gone gone zs) st

pub moved_as_long : (m : Flat) (q : Spot) (ks : List Kind) (gone : List ℕ) (n : Flat) → moved_out m q ks gone ≡ Given n → IsAsLong m n
moved_as_long m (InStack i) ks gone n e = by (are_pointers ks gone) (front ks (drop i m.stack)) refl e
  where
    by : (b : Bool) (g : Got (List ℤ)) → front ks (drop i m.stack) ≡ g → (if b then and_then g (λ zs. Given (with_stack m (spliced i (all_gone gone zs) m.stack))) else Broken) ≡ Given n → IsAsLong m n
    by true (Given zs) found f =
        let same : with_stack m (spliced i (all_gone gone zs) m.stack) ≡ n = cc in
        (sym (ap (λ (x : Flat). x.base) same), ap (λ (x : Flat). length x.stack) (sym same) ∙ gone_splice ks i m.stack zs gone found)
    by true (Stops x) found f = cc
    by true Broken found f = cc
    by false g found f = cc
moved_as_long m (InCell i o) ks gone n e =
    let there = there_of (slice_get m.cells i) moved n e in
    by there.0 (are_pointers ks gone && are_in o ks (record { words = there.0; freed = false })) (sym (ap (λ x. touched x moved) there.1) ∙ e)
  where
    moved : Cell → Got Flat
    moved d = if are_pointers ks gone && are_in o ks d then Given (with_words m i o (values_gone gone (take (length ks) (drop o d.words)))) else Broken

    by : (ws : List Value) (b : Bool) → (if b then Given (with_words m i o (values_gone gone (take (length ks) (drop o ws)))) else Broken) ≡ Given n → IsAsLong m n
    by ws true f =
        let same : with_words m i o (values_gone gone (take (length ks) (drop o ws))) ≡ n = cc in
        (sym (ap (λ (x : Flat). x.base) same), sym (ap (λ (x : Flat). length x.stack) same))
    by ws false f = cc

made_base : (m : Flat) (ks : List Kind) (zs : List ℤ) → Stays m (made m ks zs)
made_base m ks zs = by (are_words ks zs) (nat_le (m.live + length zs) heap_words) (nat_lt (length m.cells) most_cells)
  where
    by : (a b c : Bool)
        → Stays m (if not a then Failed else (if b then (if c then Done (pos (suc (length m.cells)) ∷ []) (with_cell m (values ks zs)) else Halted Memory m) else Halted (Raises StorageError) m))
    by true true true = (refl, refl)
    by true true false = tt
    by true false c = tt
    by false b c = tt

stays_on : (m n : Flat) (x : Made (List ℤ)) → IsAsLong m n → Stays n x → Stays m x
stays_on m n (Done zs k) e is = (is.0 ∙ e.0, is.1 ∙ e.1)
stays_on m n (Halted x k) e is = tt
stays_on m n Failed e is = tt

all_stays : (table : Table) (v : Fill) (m : Flat) → Stays m (filled table v m)
unfolding filled
all_stays table (Checked c low high) m = read_stays m (and_then (word m c) (checked low high)) (λ w. Done (w ∷ []) m) (λ w e. (refl, refl))
all_stays table (Pointer c) m = read_stays m (and_then (word m c) access) (λ w. Done (w ∷ []) m) (λ w e. (refl, refl))
all_stays table (MovedPointer p) m =
    read_stays m (spot m p) (λ s. reads m (held m s (sort.Access ∷ [])) (λ zs. reads m (moved_out m s (sort.Access ∷ []) (0 ∷ [])) (Done zs)))
    (λ s e. read_stays m (held m s (sort.Access ∷ [])) (λ zs. reads m (moved_out m s (sort.Access ∷ []) (0 ∷ [])) (Done zs))
    (λ zs f. read_stays m (moved_out m s (sort.Access ∷ []) (0 ∷ [])) (Done zs) (λ n g. moved_as_long m s (sort.Access ∷ []) (0 ∷ []) n g)))
all_stays table (Copied p of) m =
    read_stays m (spot m p) (λ s. reads m (held m s (kinds table of)) (λ zs. Done zs m)) (λ s e. read_stays m (held m s (kinds table of)) (λ zs. Done zs m) (λ zs f. (refl, refl)))
all_stays table (Moved p of) m =
    read_stays m (spot m p) (λ s. reads m (held m s (kinds table of)) (λ zs. reads m (moved_out m s (kinds table of) (access_offsets table of)) (Done zs)))
    (λ s e. read_stays m (held m s (kinds table of)) (λ zs. reads m (moved_out m s (kinds table of) (access_offsets table of)) (Done zs))
    (λ zs f. read_stays m (moved_out m s (kinds table of) (access_offsets table of)) (Done zs) (λ n g. moved_as_long m s (kinds table of) (access_offsets table of) n g)))
all_stays table (Waited at n) m = read_stays m (some_words n (drop at m.waits)) (λ zs. Done zs m) (λ zs e. (refl, refl))
all_stays table (New v of) m =
    then_stays m (filled table v m) (λ zs n. made n (kinds table of) zs) (all_stays table v m) (λ zs n e. stays_on m n (made n (kinds table of) zs) e (made_base n (kinds table of) zs))
all_stays table (Default of) m = (refl, refl)
all_stays table (Repeated v n) m = then_stays m (filled table v m) (λ zs. Done (flat.repeated n zs)) (all_stays table v m) (λ zs k e. e)
all_stays table (Both a b) m =
    then_stays m (filled table a m) (λ zs n. made_then (filled table b n) (λ us. Done (zs ++ us))) (all_stays table a m)
    (λ zs n e. stays_on m n (made_then (filled table b n) (λ us. Done (zs ++ us))) e (then_stays n (filled table b n) (λ us. Done (zs ++ us)) (all_stays table b n) (λ us k f. f)))
all_stays table Empty m = (refl, refl)

pub filled_base : (table : Table) (v : Fill) (m : Flat) (zs : List ℤ) (n : Flat) → filled table v m ≡ Done zs n → n.base ≡ m.base
filled_base table v m zs n e = (subst (Stays m) e (all_stays table v m)).0

pub filled_long : (table : Table) (v : Fill) (m : Flat) (zs : List ℤ) (n : Flat) → filled table v m ≡ Done zs n → length n.stack ≡ length m.stack
filled_long table v m zs n e = (subst (Stays m) e (all_stays table v m)).1
