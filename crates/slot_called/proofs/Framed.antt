-- A frame that begins is one of a call of `handled_steps`.
--
-- There, leaks are checked before the frame is there, and what the actuals move is noted while the formals get their
-- values. Neither what is held below the new frame nor what is gone there sees its words.
use Rattle.std.proofs.Common.{◌≡◌, ℕ, zero, suc, ◌+◌, ◌-◌, ◌≤◌, Bool, true, false, ◌&&◌, nat_le, List, [], ◌∷◌, ◌++◌, length, take, drop, refl, sym, ap, subst, ◌∙◌, append_assoc, append-nil, arith, Option, Some, None, ℤ, pos, if◌then◌else◌}
use Rattle.std.proofs.lemmas.List.{take-append-drop, take-append-le, drop-append-le, length-drop}
use Rattle.std.proofs.Math.Seq.{take-append-add, drop-append-add}
use Rattle.spark_base.specs.declared.position.Pos.{Pos}
use Rattle.type_definitions.specs.Types.{Table}
use Rattle.run_values.specs.declared.value.Value.{Value as CellValue}
use Rattle.run_values.specs.declared.value.Kind.{Kind}
use Rattle.machine.specs.Memory.{at_number}
use Rattle.machine.specs.Words.{access_offsets}
use Rattle.machine.specs.States.{Leak}
use Rattle.slot_heap.specs.Heaps.{words_at}
use Rattle.run_codes.specs.Codes.{Sub}
use Rattle.run_codes.specs.Flat.{Got, Given, Stops, Broken, Spot, InStack, InCell, and_then, kinds, spliced, have_kinds, are_pointers}
use Rattle.run_codes.specs.Points.{Passed, Value, FromSpot, ToSpot, template}
use Rattle.handled_runs.specs.Slots.{Move, Slots, front, held}
use Rattle.handled_runs.specs.Changes.{with_stack, with_heap, all_null, nulled, stored, moving, cell_emptied, emptied, all_emptied, settled}
use Rattle.handled_runs.specs.Leaks.{leaks_at, leaks_in}
use Rattle.handled_steps.specs.States.{with_frame}
use Rattle.handled_steps.specs.Steps.{out_leaks, with_formal, with_formals}
use Rattle.slot_formals.specs.Formals.{placed_one, placed, moved_one, all_moved, framed, gone_then, checked_then}
use Rattle.slot_formals.proofs.Leading.{taken, same_given}
use Rattle.slot_held.proofs.Laws.{settled_moves}

-- ---- words after those of all frames

abbrev longer : List ℤ → Slots → Slots
longer e s = with_stack s (s.stack ++ e)

none_front : (n : ℕ) (ks : List Kind) (e zs : List ℤ) → front ks [] ≡ Given zs → front ks (drop (suc n) e) ≡ Given zs
none_front n [] e zs is = is
none_front n (k ∷ ks) e zs is = absurd (let never : ◌≡◌ {A = Got (List ℤ)} Broken (Given zs) = is in cc)

front_same : (ks : List Kind) (xs e zs : List ℤ) → front ks xs ≡ Given zs → front ks (xs ++ e) ≡ Given zs
front_same [] xs e zs is = is
front_same (k ∷ ks) [] e zs is = absurd (let never : ◌≡◌ {A = Got (List ℤ)} Broken (Given zs) = is in cc)
front_same (k ∷ ks) (x ∷ xs) e zs is =
    let (ys, first, rest) = taken (front ks xs) (λ more. Given (x ∷ more)) zs is in
    ap (λ g. and_then g (λ more. Given (x ∷ more))) (front_same ks xs e ys first) ∙ rest

drop_same : (n : ℕ) (ks : List Kind) (xs e zs : List ℤ) → front ks (drop n xs) ≡ Given zs → front ks (drop n (xs ++ e)) ≡ Given zs
drop_same zero ks xs e zs is = front_same ks xs e zs is
drop_same (suc n) ks [] e zs is = none_front n ks e zs is
drop_same (suc n) ks (x ∷ xs) e zs is = drop_same n ks xs e zs is

-- What is held is held.
held_same : (s : Slots) (q : Spot) (ks : List Kind) (e zs : List ℤ) → held s q ks ≡ Given zs → held (longer e s) q ks ≡ Given zs
held_same s (InStack n) ks e zs is = drop_same n ks s.stack e zs is
held_same s (InCell h o) ks e zs is = is

leaks_same : (table : Table) (s : Slots) (q : Spot) (of : ℕ) (p : Pos) (e : List ℤ) (ls : List Leak) → leaks_at table s q of p ≡ Given ls → leaks_at table (longer e s) q of p ≡ Given ls
leaks_same table s q of p e ls is =
    let told : List ℤ → Got (List Leak) = λ zs. Given (leaks_in s.numbers p zs (access_offsets table of)) in
    let (zs, first, rest) = taken (held s q (kinds table of)) told ls is in
    ap (λ g. and_then g told) (held_same s q (kinds table of) e zs first) ∙ rest

-- The leaks are the same.
outs_same : (table : Table) (s : Slots) (passed : List Passed) (e : List ℤ) (ls : List Leak) → out_leaks table s passed ≡ Given ls → out_leaks table (longer e s) passed ≡ Given ls
outs_same table s [] e ls is = is
outs_same table s (Value zs ∷ rest) e ls is = outs_same table s rest e ls is
outs_same table s (FromSpot q of ∷ rest) e ls is = outs_same table s rest e ls is
outs_same table s (ToSpot q of p ∷ rest) e ls is =
    let (x, first, later) = taken (leaks_at table s q of p) (λ leaks. and_then (out_leaks table s rest) (λ more. Given (leaks ++ more))) ls is in
    let (y, next, whole) = taken (out_leaks table s rest) (λ more. Given (x ++ more)) ls later in
    ap (λ g. and_then g (λ leaks. and_then (out_leaks table (longer e s) rest) (λ more. Given (leaks ++ more)))) (leaks_same table s q of p e x first)
    ∙ ap (λ g. and_then g (λ more. Given (x ++ more))) (outs_same table s rest e y next)
    ∙ whole

-- ---- what is gone

no_more : (n : ℕ) → n + 0 ≡ n
no_more n = omega arith

spliced_none : (n : ℕ) (xs : List ℤ) → spliced n [] xs ≡ xs
spliced_none n xs =
    ap (λ l. l ++ drop (n + 0) xs) (append-nil (take n xs)) ∙ ap (λ k. take n xs ++ drop k xs) (no_more n) ∙ take-append-drop n xs

spliced_within : (n : ℕ) (us xs e : List ℤ) → n + length us ≤ length xs → spliced n us (xs ++ e) ≡ spliced n us xs ++ e
spliced_within n us xs e le =
    let end : ℕ = n + length us in
    ap (λ l. l ++ us ++ drop end (xs ++ e)) (take-append-le n xs e (omega (arith, le)))
    ∙ ap (λ l. take n xs ++ us ++ l) (drop-append-le end xs e le)
    ∙ sym (append_assoc (take n xs ++ us) (drop end xs) e)

at_long : (o : ℕ) (f : ℤ → ℤ) (zs : List ℤ) → length (at_number o f zs) ≡ length zs
at_long o f [] = refl
at_long zero f (z ∷ zs) = refl
at_long (suc o) f (z ∷ zs) = ap (λ n. suc n) (at_long o f zs)

null_long : (gone : List ℕ) (zs : List ℤ) → length (all_null gone zs) ≡ length zs
null_long [] zs = refl
null_long (o ∷ gone) zs = null_long gone (at_number o (λ z. pos 0) zs) ∙ at_long o (λ z. pos 0) zs

null_none : (gone : List ℕ) → all_null gone [] ≡ []
null_none [] = refl
null_none (o ∷ gone) = null_none gone

front_long : (ks : List Kind) (xs zs : List ℤ) → front ks xs ≡ Given zs → length zs ≤ length xs
front_long [] xs zs is = subst (λ (l : List ℤ). length l ≤ length xs) (same_given [] zs is) (omega arith)
front_long (k ∷ ks) [] zs is = absurd (let never : ◌≡◌ {A = Got (List ℤ)} Broken (Given zs) = is in cc)
front_long (k ∷ ks) (x ∷ xs) zs is =
    let (ys, first, rest) = taken (front ks xs) (λ more. Given (x ∷ more)) zs is in
    let within : length ys ≤ length xs = front_long ks xs ys first in
    subst (λ (l : List ℤ). length l ≤ suc (length xs)) (same_given (x ∷ ys) zs rest) (omega (arith, within))

spliced_same : (n : ℕ) (gone : List ℕ) (ks : List Kind) (xs e zs : List ℤ) → front ks (drop n xs) ≡ Given zs
    → spliced n (all_null gone zs) (xs ++ e) ≡ spliced n (all_null gone zs) xs ++ e
spliced_same n gone ks xs e [] is =
    ap (λ us. spliced n us (xs ++ e)) (null_none gone)
    ∙ spliced_none n (xs ++ e)
    ∙ ap (λ l. l ++ e) (sym (ap (λ us. spliced n us xs) (null_none gone) ∙ spliced_none n xs))
spliced_same n gone ks xs e (z ∷ zs) is =
    let within : suc (length zs) ≤ length (drop n xs) = front_long ks (drop n xs) (z ∷ zs) is in
    let long = null_long gone (z ∷ zs) in
    let left = length-drop n xs in
    spliced_within n (all_null gone (z ∷ zs)) xs e (omega (arith, within, long, left))

emptied_same : (s t : Slots) (q : Spot) (ks : List Kind) (gone : List ℕ) (e : List ℤ) → emptied s q ks gone ≡ Given t → emptied (longer e s) q ks gone ≡ Given (longer e t)
emptied_same s t (InStack n) ks gone e is = by (are_pointers ks gone) is
  where
    by : (b : Bool) → (if b then and_then (front ks (drop n s.stack)) (λ zs. Given (with_stack s (spliced n (all_null gone zs) s.stack))) else Broken) ≡ Given t
        → (if b then and_then (front ks (drop n (s.stack ++ e))) (λ zs. Given (with_stack (longer e s) (spliced n (all_null gone zs) (s.stack ++ e)))) else Broken)
        ≡ Given (longer e t)
    by true is =
        let put : List ℤ → Got Slots = λ zs. Given (with_stack s (spliced n (all_null gone zs) s.stack)) in
        let put_on : List ℤ → Got Slots = λ zs. Given (with_stack (longer e s) (spliced n (all_null gone zs) (s.stack ++ e))) in
        let (zs, first, rest) = taken (front ks (drop n s.stack)) put t is in
        ap (λ g. and_then g put_on) (drop_same n ks s.stack e zs first)
        ∙ ap (λ xs. Given (with_stack s xs)) (spliced_same n gone ks s.stack e zs first)
        ∙ ap (λ u. Given (longer e u)) (same_given (with_stack s (spliced n (all_null gone zs) s.stack)) t rest)
    by false is = absurd (let never : ◌≡◌ {A = Got Slots} Broken (Given t) = is in cc)
emptied_same s t (InCell h o) ks gone e is = cell (words_at s.heap.cells h) is
  where
    by : (b : Bool) → (if b then Given (with_heap s (nulled s.heap h o gone)) else Broken) ≡ Given t → (if b then Given (with_heap (longer e s) (nulled s.heap h o gone)) else Broken) ≡ Given (longer e t)
    by true is = ap (λ u. Given (longer e u)) (same_given (with_heap s (nulled s.heap h o gone)) t is)
    by false is = absurd (let never : ◌≡◌ {A = Got Slots} Broken (Given t) = is in cc)

    cell : (x : Option (List CellValue)) → cell_emptied s h o ks gone x ≡ Given t → cell_emptied (longer e s) h o ks gone x ≡ Given (longer e t)
    cell None is = absurd (let never : ◌≡◌ {A = Got Slots} Broken (Given t) = is in cc)
    cell (Some ws) is = by (are_pointers ks gone && have_kinds ks (drop o ws)) is

all_same : (qs : List Move) (s t : Slots) (e : List ℤ) → all_emptied qs s ≡ Given t → all_emptied qs (longer e s) ≡ Given (longer e t)
all_same [] s t e is = ap (λ u. Given (longer e u)) (same_given s t is)
all_same (q ∷ qs) s t e is =
    let (u, first, rest) = taken (emptied s q.at q.kinds q.offsets) (all_emptied qs) t is in
    ap (λ g. and_then g (all_emptied qs)) (emptied_same s u q.at q.kinds q.offsets e first) ∙ all_same qs u t e rest

-- What was moved is gone.
settled_same : (s t : Slots) (e : List ℤ) → settled s ≡ Given t → settled (longer e s) ≡ Given (longer e t)
settled_same s t e is = all_same s.moves (record s { moves = [] }) t e is

-- ---- formals

-- They stand after the words of all frames.
spliced_after : (at : ℕ) (a zs e : List ℤ) → length a ≤ at → spliced at zs (a ++ e) ≡ a ++ spliced (at - length a) zs e
spliced_after at a zs e le =
    let k : ℕ = at - length a in
    let begins : at ≡ length a + k = omega (arith, le) in
    let ends : at + length zs ≡ length a + (k + length zs) = omega (arith, le) in
    ap (λ n. take n (a ++ e) ++ zs ++ drop (at + length zs) (a ++ e)) begins
    ∙ ap (λ n. take (length a + k) (a ++ e) ++ zs ++ drop n (a ++ e)) ends
    ∙ ap (λ l. l ++ zs ++ drop (length a + (k + length zs)) (a ++ e)) (take-append-add a e k)
    ∙ ap (λ l. a ++ take k e ++ zs ++ l) (drop-append-add a e (k + length zs))
    ∙ ap (λ l. l ++ drop (k + length zs) e) (append_assoc a (take k e) zs)
    ∙ append_assoc a (take k e ++ zs) (drop (k + length zs) e)

stored_after : (s v : Slots) (at : ℕ) (zs e : List ℤ) → length s.stack ≤ at → stored (longer e s) (InStack at) [] zs ≡ Given v → (d : List ℤ) × (v ≡ longer d s)
stored_after s v at zs e le is = by (nat_le (at + length zs) (length (s.stack ++ e))) is
  where
    by : (b : Bool) → (if b then Given (with_stack (longer e s) (spliced at zs (s.stack ++ e))) else Broken) ≡ Given v → (d : List ℤ) × (v ≡ longer d s)
    by true is = (
      spliced (at - length s.stack) zs e,
      sym (same_given (with_stack s (spliced at zs (s.stack ++ e))) v is) ∙ ap (λ xs. with_stack s xs) (spliced_after at s.stack zs e le),
    )
    by false is = absurd (let never : ◌≡◌ {A = Got Slots} Broken (Given v) = is in cc)

one_after : (table : Table) (s v : Slots) (at : ℕ) (p : Passed) (e : List ℤ) → length s.stack ≤ at → placed_one table at p (longer e s) ≡ Given v → (d : List ℤ) × (v ≡ longer d s)
one_after table s v at (Value zs) e le is = stored_after s v at zs e le is
one_after table s v at (FromSpot q of) e le is =
    let (zs, first, rest) = taken (held (longer e s) q (kinds table of)) (λ zs. stored (longer e s) (InStack at) [] zs) v is in
    stored_after s v at zs e le rest
one_after table s v at (ToSpot q of p) e le is = (e, sym (same_given (longer e s) v is))

placed_after : (table : Table) (s u : Slots) (at : ℕ) (fs : List ℕ) (ps : List Passed) (e : List ℤ) → length s.stack ≤ at → placed table at fs ps (longer e s) ≡ Given u → (d : List ℤ) × (u ≡ longer d s)
placed_after table s u at [] ps e le is = (e, sym (same_given (longer e s) u is))
placed_after table s u at (f ∷ fs) [] e le is = (e, sym (same_given (longer e s) u is))
placed_after table s u at (f ∷ fs) (p ∷ ps) e le is =
    let next : ℕ = at + length (kinds table f) in
    let (v, first, rest) = taken (placed_one table at p (longer e s)) (placed table next fs ps) u is in
    let (d, same) = one_after table s v at p e le first in
    placed_after table s u next fs ps d (omega (arith, le)) (subst (λ w. placed table next fs ps w ≡ Given u) same rest)

-- ---- what is noted

abbrev noted : List Move → Slots → Slots
noted ms s = record s { moves = ms }

held_noted : (ms : List Move) (s : Slots) (q : Spot) (ks : List Kind) → held (noted ms s) q ks ≡ held s q ks
held_noted ms s (InStack n) ks = refl
held_noted ms s (InCell h o) ks = refl

stored_noted : (ms : List Move) (s v : Slots) (at : ℕ) (ks : List Kind) (zs : List ℤ) → stored (noted ms s) (InStack at) ks zs ≡ Given v
    → (w : Slots) × (stored s (InStack at) [] zs ≡ Given w) × (v ≡ noted ms w)
stored_noted ms s v at ks zs is = by (nat_le (at + length zs) (length s.stack)) is
  where
    by : (b : Bool) → (if b then Given (with_stack (noted ms s) (spliced at zs s.stack)) else Broken) ≡ Given v
        → (w : Slots) × ((if b then Given (with_stack s (spliced at zs s.stack)) else Broken) ≡ Given w) × (v ≡ noted ms w)
    by true is = (with_stack s (spliced at zs s.stack), refl, sym (same_given (with_stack (noted ms s) (spliced at zs s.stack)) v is))
    by false is = absurd (let never : ◌≡◌ {A = Got Slots} Broken (Given v) = is in cc)

abbrev move_of : Table → Passed → List Move
move_of table (Value zs) = []
move_of table (FromSpot q of) = record { at = q; kinds = kinds table of; offsets = access_offsets table of } ∷ []
move_of table (ToSpot q of p) = record { at = q; kinds = kinds table of; offsets = access_offsets table of } ∷ []

abbrev moves_of : Table → List ℕ → List Passed → List Move
moves_of table (f ∷ fs) (p ∷ ps) = move_of table p ++ moves_of table fs ps
moves_of table _ _ = []

moved_is : (table : Table) (p : Passed) (ms : List Move) (s : Slots) → moved_one table p (noted ms s) ≡ noted (ms ++ move_of table p) s
moved_is table (Value zs) ms s = ap (λ l. noted l s) (sym (append-nil ms))
moved_is table (FromSpot q of) ms s = refl
moved_is table (ToSpot q of p) ms s = refl

all_are : (table : Table) (fs : List ℕ) (ps : List Passed) (ms : List Move) (s : Slots) → all_moved table fs ps (noted ms s) ≡ noted (ms ++ moves_of table fs ps) s
all_are table [] ps ms s = ap (λ l. noted l s) (sym (append-nil ms))
all_are table (f ∷ fs) [] ms s = ap (λ l. noted l s) (sym (append-nil ms))
all_are table (f ∷ fs) (p ∷ ps) ms s =
    ap (all_moved table fs ps) (moved_is table p ms s)
    ∙ all_are table fs ps (ms ++ move_of table p) s
    ∙ ap (λ l. noted l s) (append_assoc ms (move_of table p) (moves_of table fs ps))

one_noted : (table : Table) (at f : ℕ) (p : Passed) (ms : List Move) (s v : Slots) → with_formal table at f p (noted ms s) ≡ Given v
    → (w : Slots) × (placed_one table at p s ≡ Given w) × (v ≡ noted (ms ++ move_of table p) w)
one_noted table at f (Value zs) ms s v is =
    let (w, there, same) = stored_noted ms s v at (kinds table f) zs is in
    (w, there, same ∙ ap (λ l. noted l w) (sym (append-nil ms)))
one_noted table at f (FromSpot q of) ms s v is =
    let ks : List Kind = kinds table of in
    let ns : List Move = ms ++ move_of table (FromSpot q of) in
    let (zs, first, rest) = taken (held (noted ms s) q ks) (λ zs. stored (moving (noted ms s) q ks (access_offsets table of)) (InStack at) (kinds table f) zs) v is in
    let (w, there, same) = stored_noted ns s v at (kinds table f) zs rest in
    (w, ap (λ g. and_then g (λ zs. stored s (InStack at) [] zs)) (sym (held_noted ms s q ks) ∙ first) ∙ there, same)
one_noted table at f (ToSpot q of p) ms s v is = (s, refl, sym (same_given (noted (ms ++ move_of table (ToSpot q of p)) s) v is))

-- The formals have their values, and what the actuals move is noted.
formals_noted : (table : Table) (at : ℕ) (fs : List ℕ) (ps : List Passed) (ms : List Move) (s x : Slots) → with_formals table at fs ps (noted ms s) ≡ Given x
    → (u : Slots) × (placed table at fs ps s ≡ Given u) × (x ≡ noted (ms ++ moves_of table fs ps) u)
formals_noted table at [] ps ms s x is = (s, refl, sym (same_given (noted ms s) x is) ∙ ap (λ l. noted l s) (sym (append-nil ms)))
formals_noted table at (f ∷ fs) [] ms s x is = (s, refl, sym (same_given (noted ms s) x is) ∙ ap (λ l. noted l s) (sym (append-nil ms)))
formals_noted table at (f ∷ fs) (p ∷ ps) ms s x is =
    let next : ℕ = at + length (kinds table f) in
    let (v, first, rest) = taken (with_formal table at f p (noted ms s)) (with_formals table next fs ps) x is in
    let (w, there, same) = one_noted table at f p ms s v first in
    let (u, placed_on, noted_on) = formals_noted table next fs ps (ms ++ move_of table p) w x (subst (λ y. with_formals table next fs ps y ≡ Given x) same rest) in (
      u,
      ap (λ g. and_then g (placed table next fs ps)) there ∙ placed_on,
      noted_on ∙ ap (λ l. noted l u) (append_assoc ms (move_of table p) (moves_of table fs ps)),
    )

-- ---- one list of moves after the other

then_emptied : (x : Got Slots) (a b : List Move) → ((s : Slots) → all_emptied (a ++ b) s ≡ and_then (all_emptied a s) (all_emptied b))
    → and_then x (all_emptied (a ++ b)) ≡ and_then (and_then x (all_emptied a)) (all_emptied b)
then_emptied (Given s) a b same = same s
then_emptied (Stops y) a b same = refl
then_emptied Broken a b same = refl

emptied_both : (a b : List Move) (s : Slots) → all_emptied (a ++ b) s ≡ and_then (all_emptied a s) (all_emptied b)
emptied_both [] b s = refl
emptied_both (q ∷ a) b s = then_emptied (emptied s q.at q.kinds q.offsets) a b (λ t. emptied_both a b t)

-- ---- the frame

-- It begins step by step.
framed_by : (table : Table) (sub : Sub) (passed : List Passed) (s u m x e : Slots) (leaks : List Leak) → placed table (length s.stack) sub.formals passed (with_frame table sub s) ≡ Given u
    → settled u ≡ Given m → out_leaks table m passed ≡ Given leaks → all_moved table sub.formals passed m ≡ x → settled x ≡ Given e
    → framed table sub passed s ≡ Given (record { memory = e; leaks = leaks })
framed_by table sub passed s u m x e leaks there gone outs moved last =
    ap (λ g. and_then g (λ n. and_then (settled n) (checked_then table sub.formals passed))) there
    ∙ ap (λ g. and_then g (checked_then table sub.formals passed)) gone
    ∙ ap (λ g. and_then g (λ ls. gone_then ls (all_moved table sub.formals passed m))) outs
    ∙ ap (gone_then leaks) moved
    ∙ ap (λ g. and_then g (λ n. Given (record { memory = n; leaks = leaks }))) last

-- What was moved is gone, leaks are checked, the formals have their values, and what the actuals move is gone, too: so the
-- frame begins.
pub framed_is : (table : Table) (sub : Sub) (passed : List Passed) (s k f e : Slots) (leaks : List Leak) → settled s ≡ Given k → out_leaks table k passed ≡ Given leaks
    → with_formals table (length s.stack) sub.formals passed (with_frame table sub s) ≡ Given f → settled f ≡ Given e
    → framed table sub passed s ≡ Given (record { memory = e; leaks = leaks })
framed_is table sub passed s k f e leaks gone outs formals last =
    let ms : List Move = moves_of table sub.formals passed in
    let (u, there, moved) = formals_noted table (length s.stack) sub.formals passed s.moves (with_frame table sub s) f formals in
    let (d, same) = placed_after table s u (length s.stack) sub.formals passed (template table sub) (omega arith) there in
    let m : Slots = longer d k in
    let before : all_emptied s.moves (noted [] u) ≡ Given m = ap (λ x. all_emptied s.moves (noted [] x)) same ∙ settled_same s k d gone in
    let none : m ≡ noted [] m = ap (λ l. noted l m) (settled_moves s k gone) in
    let after : all_emptied ms (noted [] m) ≡ Given e =
    ap (all_emptied ms) (sym none)
    ∙ sym (ap settled moved ∙ emptied_both s.moves ms (noted [] u) ∙ ap (λ g. and_then g (all_emptied ms)) before)
    ∙ last in
    framed_by table sub passed s u m (noted ms m) e leaks there (ap settled same ∙ settled_same s k d gone) (outs_same table k passed d leaks outs)
    (ap (all_moved table sub.formals passed) none ∙ all_are table sub.formals passed [] m) after
