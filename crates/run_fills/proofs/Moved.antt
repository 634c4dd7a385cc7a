-- What is moved out of a place, and the value that was there.
use Rattle.std.proofs.Common.{◌≡◌, ℕ, zero, suc, ◌+◌, true, ◌&&◌, List, [], ◌++◌, length, take, drop, refl, sym, ap, subst, ◌∙◌, arith, ℤ, if◌then◌else◌, append-nil}
use Rattle.std.proofs.lemmas.List.{length-map}
use Rattle.run_values.specs.declared.value.Value.{Value}
use Rattle.run_values.specs.declared.value.Kind.{Kind}
use Rattle.kept_cells.specs.Cells.{Cell as StoredCell}
use Rattle.type_definitions.specs.Types.{words, is_owning}
use Rattle.machine.specs.Words.{Word, access_offsets, fits_type}
use Rattle.machine.specs.Typed.{Sort, sorts, same_sorts}
use Rattle.machine.specs.Memory.{Memory, Slot, HeapCell, Place, Base, OfVariable, OfCell, cell, put, gone_at, slots_at, slots_of, with_slots, words_of}
use Rattle.machine.specs.Memory as machine
use Rattle.machine.specs.Evaluate.{Now, Evaluated, Done, followed_by, taken, checked, Touched}
use Rattle.run_codes.specs.Codes as codes
use Rattle.run_codes.specs.Flat.{Flat, Got, Given, Stops, Broken, Traps, and_then, touched, kind_of, kinds, is_word, front, are_in, all_gone, values_gone, are_pointers, spliced, with_stack, with_words, reads, all_fresh, Spot, InStack, InCell, spot, held, most_cells}
use Rattle.run_codes.specs.Flat as flat
use Rattle.run_codes.specs.Related.{CellStands, IsValue, Seen, table, here, now, types, IsPlace, IsThere, SpotSame, Lying, lying_sorts, Related}
use Rattle.run_codes.proofs.Parts.{many, split_inside}
use Rattle.run_codes.proofs.Places.{some_same, given_same, stopped_on}
use Rattle.run_codes.proofs.Stores.{splice, spliced_is}
use Rattle.run_codes.proofs.Cells.{splice_long, number_types}
use Rattle.run_codes.proofs.Heaps.{cell_changed}
use Rattle.run_codes.proofs.Held.{is_held, in_cell_there}
use Rattle.run_codes.proofs.Seeing.{lies_there}
use Rattle.run_codes.proofs.Moves.{Accesses, pointers_there, moved_from_stack, all_gone_long, taken_words}
use Rattle.run_fills.specs.Filled.{IsWhole, Later, Filled}
use Rattle.run_fills.proofs.Wholes.{later_from, value_later, stopped_halts}
use Rattle.run_fills.proofs.Values.{value_as}
use Rattle.run_fills.proofs.Single.{checked_fits}
use Rattle.run_fills.proofs.Gone.{gone_in_cell}
use Rattle.run_fills.proofs.Outside.{object_outside}

-- ---- what a change of slots keeps

pub types_put : (b : Base) (slots : List Slot) (m : Memory) → types (put b slots m) ≡ types m
types_put (OfVariable frame x) slots m = refl
types_put (OfCell zero) slots m = refl
types_put (OfCell (suc n)) slots m = number_types n (λ c. record c { slots = slots }) m.cells (λ c. refl)

-- ---- both memories without what a place had

pub record IsTaken (e : Seen) (all : List Lying) (t : ℕ) (w : Spot) (p : Place) : Type 0 where
  pub after : Flat
  pub gives : flat.moved_out e.flat w (kinds (table e) t) (access_offsets (table e) t) ≡ Given after
  pub later : Later e all (machine.moved_out e.site.typing p e.memory) after

no_types : (e : Seen) (p : Place) → types (machine.moved_out e.site.typing p e.memory) ≡ types e.memory ++ []
no_types e p =
    let all : List Slot = slots_at e.site.typing e.memory p.base in
    let new : List Slot = gone_at (access_offsets (table e) p.of) (slots_of e.site.typing e.memory p) in
    types_put p.base (take p.at all ++ new ++ drop (p.at + length new) all) e.memory ∙ sym (append-nil (types e.memory))

from_stack : (e : Seen) (all : List Lying) → IsWhole e all → (k t n : ℕ) (zs : List ℤ) (ev : Evaluated Place) (is : IsPlace e k t (InStack n) zs ev) → IsThere e t (InStack n) zs
    → IsTaken e all t (InStack n) is.p
from_stack e all whole k t n zs ev is there =
    let part : List Sort = sorts (table e) t in
    let offsets : List ℕ = access_offsets (table e) t in
    let xs : List Slot = drop is.p.at (slots_at e.site.typing e.memory is.p.base) in
    let new : List ℤ = all_gone offsets (take (length part) zs) in
    let l : Lying = record { frame = is.from.frame; object = is.from.object; at = is.from.start } in
    let held = is_held e whole.related.counted.few k t (InStack n) zs ev is there in
    let access : Accesses part offsets = λ o has. whole.laws.accesses t o has in
    let moved = moved_from_stack e all k t n zs ev whole.laws whole.related whole.apart whole.sited is there in
    let computed : flat.moved_out e.flat (InStack n) (kinds (table e) t) offsets ≡ Given (with_stack e.flat (spliced n new e.flat.stack)) =
    ap (λ b. if b then and_then (front (kinds (table e) t) (drop n e.flat.stack)) (λ us. Given (with_stack e.flat (spliced n (all_gone offsets us) e.flat.stack))) else Broken)
    (pointers_there part offsets access)
    ∙ ap (λ g. and_then g (λ us. Given (with_stack e.flat (spliced n (all_gone offsets us) e.flat.stack)))) held.words in
    let same : moved.flat ≡ with_stack e.flat (spliced n new e.flat.stack) = given_same moved.flat (with_stack e.flat (spliced n new e.flat.stack)) (sym moved.gives ∙ computed) in
    let has = lies_there e all is.from.frame is.from.object is.from.start whole.sited is.from.lies in
    let within = whole.apart.within l has in
    let inside = split_inside (lying_sorts e.site.typing l) part is.p.at is.from.split in
    let long : length new ≡ length part = all_gone_long offsets (take (length part) zs) ∙ taken_words (table e) (types e.memory) part xs zs is.stand in
    record {
      after = with_stack e.flat (spliced n new e.flat.stack);
      gives = computed;
      later = later_from e all (machine.moved_out e.site.typing is.p e.memory) (with_stack e.flat (spliced n new e.flat.stack)) [] whole (no_types e is.p)
          (subst (λ f. Related e.site.typing all (machine.moved_out e.site.typing is.p e.memory) f) same moved.related)
          (ap (λ (l : List ℤ). length l) (spliced_is n new e.flat.stack) ∙ splice_long n new e.flat.stack (omega (arith, is.from.at, within, inside, long))) refl refl refl
          (λ c j out. object_outside e.site.typing all l n is.p.at new e.flat.stack c j has is.from.at (omega (arith, inside, long)) within out);
    }

-- ---- out of a cell

from_cell : (e : Seen) (all : List Lying) → IsWhole e all → (k t n o : ℕ) (zs : List ℤ) (ev : Evaluated Place) (is : IsPlace e k t (InCell n o) zs ev) → IsThere e t (InCell n o) zs
    → IsTaken e all t (InCell n o) is.p
from_cell e all whole k t n o zs ev is there =
    let part : List Sort = sorts (table e) t in
    let offsets : List ℕ = access_offsets (table e) t in
    let at : ℕ = is.p.at in
    let old : List Slot = (cell e.memory (suc n)).slots in
    let ys : List Slot = gone_at offsets (take (length part) (drop at old)) in
    let us : List Value = values_gone offsets (take (length (kinds (table e) t)) (drop o there.c.words)) in
    let vs : List Value = values_gone offsets (take (length part) (drop at there.c.words)) in
    let size : length (kinds (table e) t) ≡ length part = length-map part kind_of in
    let same : us ≡ vs = ap (λ j. values_gone offsets (take j (drop o there.c.words))) size ∙ ap (λ j. values_gone offsets (take (length part) (drop j there.c.words))) is.from.at in
    let access : Accesses part offsets = λ o has. whole.laws.accesses t o has in
    let computed : flat.moved_out e.flat (InCell n o) (kinds (table e) t) offsets ≡ Given (with_words e.flat n o us) =
    ap (λ g. touched g (gone_words t o)) there.there
    ∙ ap (λ b. if b then Stops (Traps Touched) else gone_words t o there.c) there.live
    ∙ ap (λ b. if b && are_in o (kinds (table e) t) there.c then Given (with_words e.flat n o us) else Broken) (pointers_there part offsets access)
    ∙ ap (λ b. if b then Given (with_words e.flat n o us) else Broken) (in_cell_there part o there.c there.small there.inside there.kinds) in
    let have = whole.related.cells n is.from.within in
    let stored : have.0 ≡ there.c = some_same have.0 there.c (sym have.1 ∙ there.there) in
    let stands : CellStands (table e) (types e.memory) (cell e.memory (suc n)) there.c = subst (λ c. CellStands (table e) (types e.memory) (cell e.memory (suc n)) c) stored have.2 in
    let gone = gone_in_cell (table e) (types e.memory) (cell e.memory (suc n)) there.c part at offsets is.from.split access stands in
    let inside = split_inside (sorts (table e) (cell e.memory (suc n)).of) part at is.from.split in
    let long : length (splice at ys old) ≡ length old = gone.size ∙ gone.room ∙ sym stands.room ∙ sym stands.size in
    let change : StoredCell → StoredCell = λ c. record c { words = spliced o us c.words } in
    let changed = cell_changed e.site.typing all e.memory e.flat n (splice at ys old) change whole.related is.from.within long
    (λ c found old_stands. on c (some_same c there.c (sym found ∙ there.there)) us vs same gone) in
    let moved : Related e.site.typing all (put (OfCell (suc n)) ((take at old ++ ys) ++ drop (at + length ys) old) e.memory) (with_words e.flat n o us) =
    subst (λ x. Related e.site.typing all (put (OfCell (suc n)) x e.memory) (with_words e.flat n o us)) (sym (spliced_is at ys old)) changed in
    let based : Related e.site.typing all (with_slots e.site.typing is.p (gone_at offsets (take (length part) (drop at (slots_at e.site.typing e.memory is.p.base)))) e.memory) (with_words e.flat n o us) =
    subst (λ b. Related e.site.typing all
    (put b ((take at (slots_at e.site.typing e.memory b) ++ gone_at offsets (take (length part) (drop at (slots_at e.site.typing e.memory b))))
    ++ drop (at + length (gone_at offsets (take (length part) (drop at (slots_at e.site.typing e.memory b))))) (slots_at e.site.typing e.memory b)) e.memory)
    (with_words e.flat n o us)) (sym is.from.base) moved in
    let sized : Related e.site.typing all (with_slots e.site.typing is.p (gone_at offsets (slots_of e.site.typing e.memory is.p)) e.memory) (with_words e.flat n o us) =
    subst (λ j. Related e.site.typing all (with_slots e.site.typing is.p (gone_at offsets (take j (drop at (slots_at e.site.typing e.memory is.p.base)))) e.memory) (with_words e.flat n o us))
    (many (table e) t ∙ ap (words (table e)) (sym is.of)) based in
    record {
      after = with_words e.flat n o us;
      gives = computed;
      later = later_from e all (machine.moved_out e.site.typing is.p e.memory) (with_words e.flat n o us) [] whole (no_types e is.p)
          (subst (λ u. Related e.site.typing all (with_slots e.site.typing is.p (gone_at (access_offsets (table e) u) (slots_of e.site.typing e.memory is.p)) e.memory) (with_words e.flat n o us)) (sym is.of) sized)
          refl refl refl refl (λ c j out. refl);
    }
  where
    gone_words : ℕ → ℕ → StoredCell → Got Flat
    gone_words t o c =
        if are_pointers (kinds (table e) t) (access_offsets (table e) t) && are_in o (kinds (table e) t) c
        then Given (with_words e.flat n o (values_gone (access_offsets (table e) t) (take (length (kinds (table e) t)) (drop o c.words)))) else Broken

    on : (c : StoredCell) → c ≡ there.c → (us vs : List Value) → us ≡ vs
        → CellStands (table e) (types e.memory)
        (record (cell e.memory (suc n)) { slots = splice is.p.at (gone_at (access_offsets (table e) t) (take (length (sorts (table e) t)) (drop is.p.at (cell e.memory (suc n)).slots))) (cell e.memory (suc n)).slots })
        (record there.c { words = splice is.p.at vs there.c.words })
        → CellStands (table e) (types e.memory)
        (record (cell e.memory (suc n)) { slots = splice is.p.at (gone_at (access_offsets (table e) t) (take (length (sorts (table e) t)) (drop is.p.at (cell e.memory (suc n)).slots))) (cell e.memory (suc n)).slots })
        (record c { words = spliced o us c.words })
    on c is_it us vs same gone =
        let slots : List Slot = splice is.p.at (gone_at (access_offsets (table e) t) (take (length (sorts (table e) t)) (drop is.p.at (cell e.memory (suc n)).slots))) (cell e.memory (suc n)).slots in
        subst (λ x. CellStands (table e) (types e.memory) (record (cell e.memory (suc n)) { slots = slots }) (record x { words = spliced o us x.words })) (sym is_it)
        (subst (λ j. CellStands (table e) (types e.memory) (record (cell e.memory (suc n)) { slots = slots }) (record there.c { words = spliced j us there.c.words })) (sym is.from.at)
        (subst (λ l. CellStands (table e) (types e.memory) (record (cell e.memory (suc n)) { slots = slots }) (record there.c { words = l })) (sym (spliced_is is.p.at us there.c.words))
        (subst (λ l. CellStands (table e) (types e.memory) (record (cell e.memory (suc n)) { slots = slots }) (record there.c { words = splice is.p.at l there.c.words })) (sym same) gone)))

pub is_taken : (e : Seen) (all : List Lying) → IsWhole e all → (k t : ℕ) (w : Spot) (zs : List ℤ) (ev : Evaluated Place) (is : IsPlace e k t w zs ev) → IsThere e t w zs
    → IsTaken e all t w is.p
is_taken e all whole k t (InStack n) zs ev is there = from_stack e all whole k t n zs ev is there
is_taken e all whole k t (InCell n o) zs ev is there = from_cell e all whole k t n o zs ev is there

-- ---- the value that is moved

abbrev pub moving : Flat → codes.Place → List Kind → List ℕ → flat.Made (List ℤ)
moving m p ks gone = reads m (spot m p) (λ s. reads m (held m s ks) (λ zs. reads m (flat.moved_out m s ks gone) (flat.Done zs)))

pub moved_filled : (e : Seen) (all : List Lying) → IsWhole e all → (k t want : ℕ) (p : codes.Place) (ev : Evaluated Place) → is_owning (table e) t ≡ true
    → same_sorts (table e) (sorts (table e) t) (sorts (table e) want) ≡ true
    → ((ws : List Word) (zs : List ℤ) → IsValue (table e) (types e.memory) (sorts (table e) want) ws zs → fits_type (table e) want ws ≡ true)
    → SpotSame e k t ev (spot e.flat p)
    → Filled e all k (sorts (table e) want) (followed_by (followed_by ev (taken (here e))) (checked (here e) want)) (moving e.flat p (kinds (table e) t) (access_offsets (table e) t))
moved_filled e all whole k t want p ev owns same fits spots = by (spot e.flat p) spots
  where
    ks : List Kind
    ks = kinds (table e) t

    by : (got : Got Spot) → SpotSame e k t ev got
        → Filled e all k (sorts (table e) want) (followed_by (followed_by ev (taken (here e))) (checked (here e) want))
        (reads e.flat got (λ s. reads e.flat (held e.flat s ks) (λ zs. reads e.flat (flat.moved_out e.flat s ks (access_offsets (table e) t)) (flat.Done zs))))
    by (Given w) s =
        let place : IsPlace e k t w s.0 ev = s.1 in
        let value = is_held e whole.related.counted.few k t w s.0 ev place s.2 in
        let gone = is_taken e all whole k t w s.0 ev place s.2 in
        let ws : List Word = words_of e.site.typing e.memory place.p in
        let zs : List ℤ = all_fresh ks (take (length (sorts (table e) t)) s.0) in
        let moved : Memory = machine.moved_out e.site.typing place.p e.memory in
        let new : IsValue (table e) (types e.memory) (sorts (table e) want) ws zs =
        value_as (table e) (types e.memory) (sorts (table e) t) (sorts (table e) want) ws zs whole.laws same value.is in
        let after : Now = record (now e k) { memory = moved } in
        let ends : followed_by (followed_by ev (taken (here e))) (checked (here e) want) ≡ Done ws after =
        ap (λ x. followed_by (followed_by x (taken (here e))) (checked (here e) want)) place.gives
        ∙ ap (λ b. checked (here e) want ws (if b then after else now e k)) (ap (is_owning (table e)) place.of ∙ owns)
        ∙ checked_fits (here e) want ws after (fits ws zs new) in
        subst (λ g. Filled e all k (sorts (table e) want) (followed_by (followed_by ev (taken (here e))) (checked (here e) want))
        (reads e.flat g (λ zs. reads e.flat (flat.moved_out e.flat w ks (access_offsets (table e) t)) (flat.Done zs)))) (sym value.value)
        (subst (λ g. Filled e all k (sorts (table e) want) (followed_by (followed_by ev (taken (here e))) (checked (here e) want)) (reads e.flat g (flat.Done zs))) (sym gone.gives)
        (ws, moved, ends, gone.later, value_later e all moved gone.after (sorts (table e) want) ws zs gone.later new))
    by (Stops stop) s =
        stopped_halts e all stop (followed_by (followed_by ev (taken (here e))) (checked (here e) want)) whole
        (stopped_on e.memory stop (followed_by ev (taken (here e))) (checked (here e) want) (stopped_on e.memory stop ev (taken (here e)) s))
    by Broken s = absurd s
