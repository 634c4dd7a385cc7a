-- The release of what an access value designates is the machine's.
use Rattle.std.proofs.Common.{◌≡◌, ℕ, zero, suc, ◌+◌, ◌<◌, true, false, Bool, List, [], ◌∷◌, ◌++◌, map, length, take, drop, get_or, refl, sym, ap, subst, ◌∙◌, arith, Option, Some, None, slice_get, nat_lt, ℤ, pos, if◌then◌else◌}
use Rattle.std.specs.Prelude.{flat_map, unsigned_abs}
use Rattle.std.proofs.lemmas.List.{length-map}
use Rattle.spark_base.specs.declared.position.Pos.{Pos}
use Rattle.run_values.specs.declared.value.Kind.TheVariants as sort
use Rattle.kept_cells.specs.Cells.{Cell as StoredCell}
use Rattle.type_definitions.specs.declared.table.Shape.{Shape}
use Rattle.type_definitions.specs.declared.table.Shape.TheVariants as shape
use Rattle.type_definitions.specs.Types.{Table, shape_of, view_of}
use Rattle.type_definitions.specs.Entries.{integer}
use Rattle.typed_tree.specs.Trees.{TypedTree}
use Rattle.flow_paths.specs.Objects.{designated, designated_of}
use Rattle.flow_paths.specs.Instructions.{Release}
use Rattle.flow_paths.specs.Names.{waiting, written}
use Rattle.flow_paths.specs.Laid.{flow_typing}
use Rattle.machine.specs.Words.{Word, Null, Cell}
use Rattle.machine.specs.Typed.{Sort, Pointer, sorts}
use Rattle.machine.specs.Memory.{Memory, HeapCell, Place, cell, fresh, words_of, stored, freed, slots_at}
use Rattle.machine.specs.Evaluate.{Now, Evaluated, Done, Twice, cell_place, place_of}
use Rattle.machine.specs.Calls.{checks_at, written_pos}
use Rattle.machine.specs.States.{Leak}
use Rattle.machine.specs.States as machine
use Rattle.machine.specs.Step as machine_step
use Rattle.run_codes.specs.Codes.{Does}
use Rattle.run_codes.specs.Codes as codes
use Rattle.run_codes.specs.Flat.{Flat, Got, Given, kinds, words_at, all_fresh, words_in, most_cells, Spot, InCell, spot, without_cell}
use Rattle.run_codes.specs.Flat as flat
use Rattle.run_codes.specs.Lowered.{Placed, place}
use Rattle.run_codes.specs.Programs.{going, on_going, name_pos}
use Rattle.run_codes.specs.Points.{Outcome, Fails, halted, on_got, leaks_at, leaking_goes, after, goes, done}
use Rattle.run_codes.specs.Points as points
use Rattle.run_codes.specs.Related.{AllKinds, AllStand, Designates, PointsTo, IsValue, CellStands, types, now, IsSplit, IsPlace, IsThere}
use Rattle.run_codes.proofs.Parts.{whole_split}
use Rattle.run_codes.proofs.Places.{impossible, some_same, is_below, head_stands, type_at}
use Rattle.run_codes.proofs.Expressions.{and_then_some}
use Rattle.run_codes.proofs.Held.{is_held}
use Rattle.run_codes.proofs.Spots.{place_same}
use Rattle.run_fills.proofs.Wholes as wholes
use Rattle.run_fills.proofs.Single.{one_value}
use Rattle.run_fills.proofs.Leaks.{leaks_same}
use Rattle.run_fills.proofs.Moved.{types_put}
use Rattle.run_points.specs.Outcomes.{IsAlike}
use Rattle.run_points.specs.States.{Laid, StateStands, MainBegins}
use Rattle.run_points.specs.Turns.{Turns, turn, flat_turn, around, seen, TurnStands, IsKept, DoesAlike}
use Rattle.run_points.proofs.Waits.{is_seen}
use Rattle.run_points.proofs.Ends.{start_is, goes_alike, goes_on, trapped_alike}
use Rattle.run_points.proofs.Tests.{DoneAlike}
use Rattle.run_points.proofs.Halts.{is_whole}
use Rattle.run_points.proofs.Spotted.{pos_is}
use Rattle.run_points.proofs.Storing.{is_stored, are_kinds}
use Rattle.run_points.proofs.Leaking.{leaking_stands, spot_alike}
use Rattle.run_points.proofs.Flags.{frees_none, frees_put}
use Rattle.run_points.proofs.Freed.{freed_types, cell_freed, stored_freed}

-- ---- the cell that is designated

done_same : {A : Type 0} (a b : A) (n m : Now) → Done a n ≡ Done b m → a ≡ b
done_same a b n m is = cc

-- It is a place of the designated type, where it isn't freed.
pub record IsCell (b : Turns) (t n : ℕ) : Type 0 where
  pub c : StoredCell
  pub there : slice_get b.flat.cells n ≡ Some c
  pub within : n < length b.memory.cells
  pub of : sorts (flow_typing b.program).table (cell b.memory (suc n)).of ≡ sorts (flow_typing b.program).table t
  pub stands : CellStands (flow_typing b.program).table (types b.memory) (cell b.memory (suc n)) c

is_cell : (b : Turns) (laid : Laid) → TurnStands b laid → (t n : ℕ) → Designates (flow_typing b.program).table (types b.memory) t n → IsCell b t n
is_cell b laid is t n designates =
    let within : n < length b.memory.cells = subst (λ j. n < j) (length-map b.memory.cells (λ (c : HeapCell). c.of)) designates.within in
    let have = is.memory.related.cells n within in
    record {
      c = have.0;
      there = have.1;
      within = within;
      of = ap (sorts (flow_typing b.program).table) (sym (type_at b.memory.cells n)) ∙ designates.sorts;
      stands = have.2;
    }

cell_there : (b : Turns) (t n : ℕ) (is : IsCell b t n) → IsPlace (seen b) 0 t (InCell n 0) (words_in is.c.words) (Done (cell_place t (suc n)) (now (seen b) 0))
cell_there b t n is = record {
  p = cell_place t (suc n);
  gives = refl;
  of = refl;
  stand = subst (λ l. AllStand (flow_typing b.program).table (types b.memory) l (cell b.memory (suc n)).slots (words_in is.c.words)) is.of is.stands.words;
  from = record {
    base = refl;
    at = refl;
    within = is.within;
    split = subst (λ l. IsSplit l 0 (sorts (flow_typing b.program).table t)) (sym is.of) (whole_split (sorts (flow_typing b.program).table t));
  };
}

cell_live : (b : Turns) (t n : ℕ) (is : IsCell b t n) → is.c.freed ≡ false → IsThere (seen b) t (InCell n 0) (words_in is.c.words)
cell_live b t n is live =
    let long : length (sorts (flow_typing b.program).table (cell b.memory (suc n)).of) ≡ length (sorts (flow_typing b.program).table t) = ap (λ (l : List Sort). length l) is.of in
    record {
      c = is.c;
      there = is.there;
      live = live;
      small = is.stands.small;
      inside = omega (arith, long, is.stands.room);
      kinds = subst (λ l. AllKinds l is.c.words) is.of is.stands.kinds;
      words = refl;
    }

cell_leaks : (b : Turns) (laid : Laid) → TurnStands b laid → (t n : ℕ) (is_there : IsCell b t n) → is_there.c.freed ≡ false → (p : Pos)
    → leaks_at (flow_typing b.program).table (seen b).flat (InCell n 0) t p ≡ Given (flat_map (λ (l : List Leak). l) (checks_at (flow_typing b.program) p b.memory (cell_place t (suc n))))
cell_leaks b laid is t n there live p =
    let place = cell_there b t n there in
    let ev : Evaluated Place = Done (cell_place t (suc n)) (now (seen b) 0) in
    leaks_same (seen b) laid.objects (is_whole b laid is) 0 t (InCell n 0) (words_in there.c.words) ev place (cell_live b t n there live) p
    ∙ ap (λ q. Given (flat_map (λ (l : List Leak). l) (checks_at (flow_typing b.program) p b.memory q)))
    (sym (done_same (cell_place t (suc n)) place.p (now (seen b) 0) (now (seen b) 0) place.gives))

-- ---- null is stored, and the cell is freed

null_pointer : (b : Turns) (t d : ℕ) → sorts (flow_typing b.program).table t ≡ Pointer d ∷ []
    → IsValue (flow_typing b.program).table (types b.memory) (sorts (flow_typing b.program).table t) (Null ∷ []) (pos 0 ∷ [])
null_pointer b t d one =
    subst (λ l. IsValue (flow_typing b.program).table (types b.memory) l (Null ∷ []) (pos 0 ∷ [])) (sym one)
    (one_value (flow_typing b.program).table (types b.memory) (Pointer d) Null (pos 0) refl tt)

freed_kept : (b : Turns) (laid : Laid) (m : Memory) (f : Flat) (n size : ℕ) → IsKept b laid m f → n < length m.cells → (cell m (suc n)).freed ≡ false → length (cell m (suc n)).slots ≡ size
    → IsKept b laid (freed (suc n) m) (without_cell f n size)
freed_kept b laid m f n size kept within live sized = record {
  related = cell_freed (flow_typing b.program) laid.objects m f n size kept.related within live sized;
  more = kept.more;
  made = freed_types n m ∙ kept.made;
  long = kept.long;
  undeclared = kept.undeclared;
  loops = kept.loops;
}

-- The cell after the store: it isn't freed, and it has as many words.
pub record IsLive (b : Turns) (m : Memory) (n size : ℕ) : Type 0 where
  pub within : n < length m.cells
  pub live : (cell m (suc n)).freed ≡ false
  pub sized : length (cell m (suc n)).slots ≡ size

same_types : (m n : Memory) → types m ≡ types n → length m.cells ≡ length n.cells
same_types m n is = sym (length-map m.cells (λ (c : HeapCell). c.of)) ∙ ap (λ (l : List ℕ). length l) is ∙ length-map n.cells (λ (c : HeapCell). c.of)

same_type : (m n : Memory) (k : ℕ) → types m ≡ types n → (cell m (suc k)).of ≡ (cell n (suc k)).of
same_type m n k is = sym (type_at m.cells k) ∙ ap (λ l. get_or l k integer) is ∙ type_at n.cells k

live_after : (b : Turns) (laid : Laid) (t n : ℕ) (is : IsCell b t n) → is.c.freed ≡ false → (p : Place) (ws : List Word) (f : Flat)
    → IsKept b laid (stored (flow_typing b.program) p ws b.memory) f → IsLive b (stored (flow_typing b.program) p ws b.memory) n (length is.c.words)
live_after b laid t n is live p ws f kept =
    let s = flow_typing b.program in
    let m : Memory = stored s p ws b.memory in
    let new = take p.at (slots_at s b.memory p.base) ++ fresh ws ++ drop (p.at + length (fresh ws)) (slots_at s b.memory p.base) in
    let made : types m ≡ types b.memory = types_put p.base new b.memory in
    let long = same_types m b.memory made in
    let within : n < length m.cells = subst (λ j. n < j) (sym long) is.within in
    let have = kept.related.cells n within in
    let of : (cell m (suc n)).of ≡ (cell b.memory (suc n)).of = same_type m b.memory n made in
    let flags = frees_put b.memory p.base new b.memory (frees_none b.memory) in
    record {
      within = within;
      live = flags.same n within ∙ sym ((frees_none b.memory).same n is.within) ∙ is.stands.freed ∙ live;
      sized = have.2.size ∙ have.2.room ∙ ap (λ t. length (sorts s.table t)) of ∙ sym is.stands.room;
    }

-- ---- the step

-- Where a cell that isn't freed is designated.
frees_alike : (b : Turns) (laid : Laid) → TurnStands b laid → MainBegins b.program b.lowered → (d : Does) (next : Option ℕ) → going (around b) b.point 0 ≡ Some next
    → (k t u n : ℕ) (w : Spot) (zs : List ℤ) (ev : Evaluated Place) (place : IsPlace (seen b) k t w zs ev) → IsThere (seen b) t w zs → sorts (flow_typing b.program).table t ≡ Pointer u ∷ []
    → (p : Pos) (there : IsCell b u n) → there.c.freed ≡ false
    → IsAlike (StateStands b.program)
    (machine_step.leaking_goes (checks_at (flow_typing b.program) p b.memory (cell_place u (suc n)))
    (machine_step.goes (turn b) (stored (flow_typing b.program) place.p (Null ∷ []) (freed (suc n) b.memory)) 0))
    (on_got (flat_turn b d) (seen b).flat (leaks_at (flow_typing b.program).table (seen b).flat (InCell n 0) u p)
    (λ leaks. on_got (flat_turn b d) (seen b).flat (flat.stored (seen b).flat w (sort.Access ∷ []) (pos 0 ∷ []))
    (λ m. leaking_goes (flat_turn b d) leaks (without_cell m n (length there.c.words)) next)))
frees_alike b laid is begins d next leads k t u n w zs ev place found one p there live =
    let s = flow_typing b.program in
    let checks : List (List Leak) = checks_at s p b.memory (cell_place u (suc n)) in
    let leaks : List Leak = flat_map (λ (l : List Leak). l) checks in
    let ks = are_kinds w (sort.Access ∷ []) (kinds s.table t) (sym (ap (λ l. map flat.kind_of l) one)) in
    let new = is_stored b laid is b.memory (seen b).flat (wholes.unchanged (seen b) laid.objects (is_whole b laid is)) is.memory.undeclared k t w zs ev place found (Null ∷ []) (pos 0 ∷ [])
    (null_pointer b t u one) (sort.Access ∷ []) ks in
    let after_store = live_after b laid u n there live place.p (Null ∷ []) new.after new.kept in
    let size : ℕ = length there.c.words in
    let kept = freed_kept b laid (stored s place.p (Null ∷ []) b.memory) new.after n size new.kept after_store.within after_store.live after_store.sized in
    let f : Flat = without_cell new.after n size in
    subst (λ m. IsAlike (StateStands b.program) (machine_step.leaking_goes checks (machine_step.goes (turn b) m 0))
    (on_got (flat_turn b d) (seen b).flat (leaks_at s.table (seen b).flat (InCell n 0) u p)
    (λ leaks. on_got (flat_turn b d) (seen b).flat (flat.stored (seen b).flat w (sort.Access ∷ []) (pos 0 ∷ []))
    (λ m. leaking_goes (flat_turn b d) leaks (without_cell m n size) next)))) (sym (stored_freed s place.p (Null ∷ []) n b.memory))
    (subst (λ g. IsAlike (StateStands b.program) (machine_step.leaking_goes checks (machine_step.goes (turn b) (freed (suc n) (stored s place.p (Null ∷ []) b.memory)) 0))
    (on_got (flat_turn b d) (seen b).flat g
    (λ leaks. on_got (flat_turn b d) (seen b).flat (flat.stored (seen b).flat w (sort.Access ∷ []) (pos 0 ∷ []))
    (λ m. leaking_goes (flat_turn b d) leaks (without_cell m n size) next)))) (sym (cell_leaks b laid is u n there live p))
    (subst (λ g. IsAlike (StateStands b.program) (machine_step.leaking_goes checks (machine_step.goes (turn b) (freed (suc n) (stored s place.p (Null ∷ []) b.memory)) 0))
    (on_got (flat_turn b d) (seen b).flat g (λ m. leaking_goes (flat_turn b d) leaks (without_cell m n size) next))) (sym new.gives)
    (leaking_stands b.program (machine_step.behind (turn b) (machine_step.waiting (turn b)) (freed (suc n) (stored s place.p (Null ∷ []) b.memory)) 0)
    (after (flat_turn b d) (points.waiting (flat_turn b d)) f next) checks leaks refl
    (goes_alike b laid is begins d 0 next leads (freed (suc n) (stored s place.p (Null ∷ []) b.memory)) f kept new.turning))))

-- What the machine does with the word, and what the executor does.
abbrev released : Turns → Pos → ℕ → Place → List Word → machine.Outcome
released b p u k (Cell n ∷ []) =
    if (cell b.memory n).freed then machine_step.trapped (turn b) Twice b.memory
    else machine_step.leaking_goes (checks_at (flow_typing b.program) p b.memory (cell_place u n))
    (machine_step.goes (turn b) (stored (flow_typing b.program) k (Null ∷ []) (freed n b.memory)) 0)
released b p u k _ = machine_step.goes (turn b) b.memory 0

abbrev freeing : Turns → Does → Option ℕ → ℕ → Pos → Spot → ℕ → StoredCell → Outcome
freeing b d next u p s k c =
    if c.freed then halted (flat_turn b d) (flat.Traps Twice) (seen b).flat
    else on_got (flat_turn b d) (seen b).flat (leaks_at (flow_typing b.program).table (seen b).flat (InCell k 0) u p)
    (λ leaks. on_got (flat_turn b d) (seen b).flat (flat.stored (seen b).flat s (sort.Access ∷ []) (pos 0 ∷ []))
    (λ m. leaking_goes (flat_turn b d) leaks (without_cell m k (length c.words)) next))

abbrev of_cell : Turns → Does → Option ℕ → ℕ → Pos → Spot → ℕ → Option StoredCell → Outcome
of_cell b d next u p s k None = Fails
of_cell b d next u p s k (Some c) = if nat_lt k most_cells then freeing b d next u p s k c else Fails

abbrev flat_released : Turns → Does → Option ℕ → ℕ → Pos → Spot → ℕ → Outcome
flat_released b d next u p s zero = goes (flat_turn b d) (seen b).flat next
flat_released b d next u p s (suc k) = of_cell b d next u p s k (slice_get b.flat.cells k)

abbrev by_words : Turns → Does → Option ℕ → ℕ → Pos → Spot → List ℤ → Outcome
by_words b d next u p s (w ∷ []) = flat_released b d next u p s (unsigned_abs w)
by_words b d next u p s _ = Fails

released_alike : (b : Turns) (laid : Laid) → TurnStands b laid → MainBegins b.program b.lowered → (d : Does) (next : Option ℕ) → going (around b) b.point 0 ≡ Some next
    → (k t u : ℕ) (w : Spot) (zs : List ℤ) (ev : Evaluated Place) (place : IsPlace (seen b) k t w zs ev) → IsThere (seen b) t w zs → sorts (flow_typing b.program).table t ≡ Pointer u ∷ []
    → (p : Pos) (n : ℕ) (word : Word) → PointsTo (flow_typing b.program).table (types b.memory) u word n
    → IsAlike (StateStands b.program) (released b p u place.p (word ∷ [])) (flat_released b d next u p w n)
released_alike b laid is begins d next leads k t u w zs ev place found one p zero word points =
    subst (λ x. IsAlike (StateStands b.program) (released b p u place.p (x ∷ [])) (goes (flat_turn b d) (seen b).flat next)) (sym points) (goes_on b laid is begins d 0 next leads)
released_alike b laid is begins d next leads k t u w zs ev place found one p (suc n) word points =
    let there = is_cell b laid is u n points.1 in
    let few : nat_lt n most_cells ≡ true = is_below n most_cells (omega (arith, there.within, is.memory.related.counted.few)) in
    subst (λ x. IsAlike (StateStands b.program) (released b p u place.p (x ∷ [])) (of_cell b d next u p w n (slice_get b.flat.cells n))) (sym points.0)
    (subst (λ o. IsAlike (StateStands b.program) (released b p u place.p (Cell (suc n) ∷ [])) (of_cell b d next u p w n o)) (sym there.there)
    (subst (λ j. IsAlike (StateStands b.program) (released b p u place.p (Cell (suc n) ∷ [])) (if j then freeing b d next u p w n there.c else Fails)) (sym few)
    (by there there.c.freed refl)))
  where
    by : (there : IsCell b u n) (gone : Bool) → there.c.freed ≡ gone → IsAlike (StateStands b.program) (released b p u place.p (Cell (suc n) ∷ [])) (freeing b d next u p w n there.c)
    by there true gone =
        subst (λ j. IsAlike (StateStands b.program) (released b p u place.p (Cell (suc n) ∷ []))
        (if j then halted (flat_turn b d) (flat.Traps Twice) (seen b).flat
        else on_got (flat_turn b d) (seen b).flat (leaks_at (flow_typing b.program).table (seen b).flat (InCell n 0) u p)
        (λ leaks. on_got (flat_turn b d) (seen b).flat (flat.stored (seen b).flat w (sort.Access ∷ []) (pos 0 ∷ []))
        (λ m. leaking_goes (flat_turn b d) leaks (without_cell m n (length there.c.words)) next)))) (sym gone)
        (subst (λ j. IsAlike (StateStands b.program)
        (if j then machine_step.trapped (turn b) Twice b.memory
        else machine_step.leaking_goes (checks_at (flow_typing b.program) p b.memory (cell_place u (suc n)))
        (machine_step.goes (turn b) (stored (flow_typing b.program) place.p (Null ∷ []) (freed (suc n) b.memory)) 0)) (halted (flat_turn b d) (flat.Traps Twice) (seen b).flat))
        (sym (there.stands.freed ∙ gone)) (trapped_alike b laid is d Twice))
    by there false live =
        subst (λ j. IsAlike (StateStands b.program) (released b p u place.p (Cell (suc n) ∷ []))
        (if j then halted (flat_turn b d) (flat.Traps Twice) (seen b).flat
        else on_got (flat_turn b d) (seen b).flat (leaks_at (flow_typing b.program).table (seen b).flat (InCell n 0) u p)
        (λ leaks. on_got (flat_turn b d) (seen b).flat (flat.stored (seen b).flat w (sort.Access ∷ []) (pos 0 ∷ []))
        (λ m. leaking_goes (flat_turn b d) leaks (without_cell m n (length there.c.words)) next)))) (sym live)
        (subst (λ j. IsAlike (StateStands b.program)
        (if j then machine_step.trapped (turn b) Twice b.memory
        else machine_step.leaking_goes (checks_at (flow_typing b.program) p b.memory (cell_place u (suc n)))
        (machine_step.goes (turn b) (stored (flow_typing b.program) place.p (Null ∷ []) (freed (suc n) b.memory)) 0))
        (on_got (flat_turn b d) (seen b).flat (leaks_at (flow_typing b.program).table (seen b).flat (InCell n 0) u p)
        (λ leaks. on_got (flat_turn b d) (seen b).flat (flat.stored (seen b).flat w (sort.Access ∷ []) (pos 0 ∷ []))
        (λ m. leaking_goes (flat_turn b d) leaks (without_cell m n (length there.c.words)) next))))
        (sym (there.stands.freed ∙ live)) (frees_alike b laid is begins d next leads k t u n w zs ev place found one p there live))

-- The words of the place are one access value on both sides.
held_alike : (b : Turns) (laid : Laid) → TurnStands b laid → MainBegins b.program b.lowered → (d : Does) (next : Option ℕ) → going (around b) b.point 0 ≡ Some next
    → (k t u : ℕ) (w : Spot) (zs : List ℤ) (ev : Evaluated Place) (place : IsPlace (seen b) k t w zs ev) → IsThere (seen b) t w zs → sorts (flow_typing b.program).table t ≡ Pointer u ∷ [] → (p : Pos)
    → IsAlike (StateStands b.program) (released b p u place.p (words_of (flow_typing b.program) b.memory place.p))
    (on_got (flat_turn b d) (seen b).flat (words_at (seen b).flat w (sort.Access ∷ [])) (by_words b d next u p w))
held_alike b laid is begins d next leads k t u w zs ev place found one p =
    let table : Table = (flow_typing b.program).table in
    let held = is_held (seen b) is.memory.related.counted.few k t w zs ev place found in
    let slots = drop place.p.at (slots_at (flow_typing b.program) b.memory place.p.base) in
    let head = head_stands table (types b.memory) (Pointer u) slots zs (subst (λ l. AllStand table (types b.memory) l slots zs) one place.stand) in
    let word : words_at (seen b).flat w (sort.Access ∷ []) ≡ Given (head.z ∷ []) =
    ap (λ (l : List Sort). words_at (seen b).flat w (map flat.kind_of l)) (sym one) ∙ held.words
    ∙ ap (λ (l : List Sort). Given (take (length l) zs)) one ∙ ap (λ l. Given (take 1 l)) head.words in
    let fresh_is : all_fresh (kinds table t) (take (length (sorts table t)) zs) ≡ pos (unsigned_abs head.z) ∷ [] =
    ap (λ (l : List Sort). all_fresh (map flat.kind_of l) (take (length l) zs)) one ∙ ap (λ l. all_fresh (sort.Access ∷ []) (take 1 l)) head.words in
    let value = subst (λ l. IsValue table (types b.memory) l (words_of (flow_typing b.program) b.memory place.p) (pos (unsigned_abs head.z) ∷ [])) one
    (subst (λ l. IsValue table (types b.memory) (sorts table t) (words_of (flow_typing b.program) b.memory place.p) l) fresh_is held.is) in
    subst (λ g. IsAlike (StateStands b.program) (released b p u place.p (words_of (flow_typing b.program) b.memory place.p)) (on_got (flat_turn b d) (seen b).flat g (by_words b d next u p w))) (sym word)
    (by (unsigned_abs head.z) (words_of (flow_typing b.program) b.memory place.p) value)
  where
    by : (n : ℕ) (ws : List Word) → IsValue (flow_typing b.program).table (types b.memory) (Pointer u ∷ []) ws (pos n ∷ []) → IsAlike (StateStands b.program) (released b p u place.p ws) (flat_released b d next u p w n)
    by n [] value = absurd value.stand
    by n (word ∷ []) value = released_alike b laid is begins d next leads k t u w zs ev place found one p n word value.stand.0.0
    by n (word ∷ other ∷ ws) value = absurd (omega (arith, value.words))

-- ---- the instruction

release_by : (b : Turns) (laid : Laid) → TurnStands b laid → MainBegins b.program b.lowered → (e : TypedTree) (q : Placed) → place (around b).site 0 e ≡ Some q → (u : ℕ) (constant named : Bool)
    → shape_of (flow_typing b.program).table q.of ≡ shape.Access u constant named → (next : Option ℕ) → going (around b) b.point 0 ≡ Some next
    → DoneAlike b (machine_step.release (turn b) e) (codes.Release q.place u (name_pos b.point.pos e) next)
release_by b laid is begins e q lowers u constant named access next leads =
    let s = flow_typing b.program in
    let d : Does = codes.Release q.place u (name_pos b.point.pos e) next in
    let p : Pos = name_pos b.point.pos e in
    let ev : Evaluated Place = place_of (machine_step.here (turn b)) e (now (seen b) 0) in
    let one : sorts s.table q.of ≡ Pointer u ∷ [] = is.laws.access q.of u constant named access in
    let written_is : p ≡ written_pos b.point.pos (written e) = pos_is (around b).site 0 e q lowers b.point.pos in
    subst (λ n. IsAlike (StateStands b.program)
    (machine_step.evaluated (turn b) (place_of (machine_step.here (turn b)) e n) (λ k m. machine_released k (words_of s m k) m)) (done (flat_turn b d) d)) (sym (start_is b laid is))
    (spot_alike b laid is d (0 + waiting e) q.of ev (spot (seen b).flat q.place) (λ k m. machine_released k (words_of s m k) m)
    (λ w. on_got (flat_turn b d) (seen b).flat (words_at (seen b).flat w (sort.Access ∷ [])) (by_words b d next u p w))
    (place_same (seen b) (is_seen b laid is) e 0 q lowers)
    (λ w zs place found.
    subst (λ x. IsAlike (StateStands b.program) x (on_got (flat_turn b d) (seen b).flat (words_at (seen b).flat w (sort.Access ∷ [])) (by_words b d next u p w)))
    (sym (machine_is p written_is place.p place.of (words_of s b.memory place.p)))
    (held_alike b laid is begins d next leads (0 + waiting e) q.of u w zs ev place found one p)))
  where
    machine_released : Place → List Word → Memory → machine.Outcome
    machine_released k (Cell n ∷ []) m =
        if (cell m n).freed then machine_step.trapped (turn b) Twice m
        else machine_step.leaking_goes
        (checks_at (flow_typing b.program) (written_pos b.point.pos (written e)) m (cell_place (designated (flow_typing b.program).table k.of) n))
        (machine_step.goes (turn b) (stored (flow_typing b.program) k (Null ∷ []) (freed n m)) 0)
    machine_released k _ m = machine_step.goes (turn b) m 0

    designated_is : (k : Place) → k.of ≡ q.of → designated (flow_typing b.program).table k.of ≡ u
    designated_is k of = ap (designated (flow_typing b.program).table) of ∙ ap (λ x. designated_of q.of (view_of x)) access

    machine_is : (p : Pos) → p ≡ written_pos b.point.pos (written e) → (k : Place) → k.of ≡ q.of → (ws : List Word) → machine_released k ws b.memory ≡ released b p u k ws
    machine_is p is k of (Cell n ∷ []) =
        ap (λ x. if (cell b.memory n).freed then machine_step.trapped (turn b) Twice b.memory
        else machine_step.leaking_goes (checks_at (flow_typing b.program) x b.memory (cell_place (designated (flow_typing b.program).table k.of) n))
        (machine_step.goes (turn b) (stored (flow_typing b.program) k (Null ∷ []) (freed n b.memory)) 0)) (sym is)
        ∙ ap (λ x. if (cell b.memory n).freed then machine_step.trapped (turn b) Twice b.memory
        else machine_step.leaking_goes (checks_at (flow_typing b.program) p b.memory (cell_place x n))
        (machine_step.goes (turn b) (stored (flow_typing b.program) k (Null ∷ []) (freed n b.memory)) 0)) (designated_is k of)
    machine_is p is k of _ = refl

abbrev released_at : Turns → TypedTree → Placed → Shape → Option Does
released_at b e q (shape.Access designated constant named) = on_going (around b) b.point (λ n. Some (codes.Release q.place designated (name_pos b.point.pos e) n))
released_at b e q _ = None

pub release_alike : (b : Turns) (laid : Laid) → TurnStands b laid → MainBegins b.program b.lowered → (e : TypedTree) → DoesAlike b (Release e)
release_alike b laid is begins e d lowers =
    let q = and_then_some (λ q. released_at b e q (shape_of (flow_typing b.program).table q.of)) (place (around b).site 0 e) d lowers in
    by q.0 q.1 (shape_of (flow_typing b.program).table q.0.of) refl q.2
  where
    by : (q : Placed) → place (around b).site 0 e ≡ Some q → (sh : Shape) → shape_of (flow_typing b.program).table q.of ≡ sh → released_at b e q sh ≡ Some d
        → DoneAlike b (machine_step.release (turn b) e) d
    by q is_placed (shape.Access u constant named) access gives =
        let n = and_then_some (λ n. Some (codes.Release q.place u (name_pos b.point.pos e) n)) (going (around b) b.point 0) d gives in
        subst (λ d. DoneAlike b (machine_step.release (turn b) e) d) (some_same (codes.Release q.place u (name_pos b.point.pos e) n.0) d n.2)
        (release_by b laid is begins e q is_placed u constant named access n.0 n.1)
    by q is_placed _ access gives = impossible d gives
