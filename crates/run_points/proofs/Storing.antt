-- A value that is stored at a place, after an evaluation, keeps what stands for the machine's memory.
use Rattle.std.proofs.Common.{◌≡◌, inl, inr, ℕ, suc, ◌+◌, ◌<◌, ◌≤◌, ◌&&◌, List, ◌++◌, length, take, drop, sym, ap, subst, ◌∙◌, arith, ℤ, if◌then◌else◌}
use Rattle.std.proofs.lemmas.List.{length-map}
use Rattle.spark_base.specs.Lists.{Has}
use Rattle.run_values.specs.declared.value.Kind.{Kind}
use Rattle.kept_cells.specs.Cells.{Cell as StoredCell}
use Rattle.flow_paths.specs.Objects.{Typing}
use Rattle.flow_paths.specs.Laid.{flow_typing}
use Rattle.machine.specs.Words.{Word}
use Rattle.machine.specs.Typed.{sorts}
use Rattle.machine.specs.Memory.{Memory, Slot, HeapCell, Place, fresh, slots_at}
use Rattle.machine.specs.Memory as machine_memory
use Rattle.machine.specs.Evaluate.{Evaluated, Touched}
use Rattle.run_codes.specs.Flat.{Flat, Got, Given, Stops, Broken, Traps, touched, kinds, values, are_words, are_in, spliced, with_stack, with_words, Spot, InStack, InCell, most_cells}
use Rattle.run_codes.specs.Flat as flat
use Rattle.run_codes.specs.Related.{IsValue, Seen, LiesIn, types, IsPlace, IsThere, Lying, lying_sorts, Related}
use Rattle.run_codes.proofs.Parts.{split_inside}
use Rattle.run_codes.proofs.Heaps.{stored_in_cell}
use Rattle.run_codes.proofs.Held.{in_cell_there}
use Rattle.run_codes.proofs.Seeing.{lies_there, store_at_place, stack_stored}
use Rattle.run_fills.specs.Filled.{at, Later}
use Rattle.run_fills.proofs.Made.{are_there}
use Rattle.run_fills.proofs.Moved.{types_put}
use Rattle.run_fills.proofs.Outside.{object_outside}
use Rattle.run_points.specs.States.{Laid, LoopAt, LoopsStand, AreUndeclared, IsLow}
use Rattle.run_points.specs.Turns.{Turns, seen, TurnStands, IsKept}
use Rattle.run_points.proofs.Stacks.{spliced_long}
use Rattle.run_points.proofs.Undeclared.{put_low}

-- Words of these kinds: those of the type, or where the spot is in the stack, any.
abbrev pub AreKinds : Spot → List Kind → List Kind → Type 0
AreKinds (InStack n) ks all = Unit {0}
AreKinds (InCell n o) ks all = ks ≡ all

pub are_kinds : (w : Spot) (ks all : List Kind) → ks ≡ all → AreKinds w ks all
are_kinds (InStack n) ks all is = tt
are_kinds (InCell n o) ks all is = is

-- The flat memory with the value, and that it stands for the machine's.
pub record IsStored (b : Turns) (laid : Laid) (m : Memory) (f : Flat) (p : Place) (w : Spot) (ks : List Kind) (ws : List Word) (zs : List ℤ) : Type 0 where
  pub after : Flat
  pub gives : flat.stored f w ks zs ≡ Given after
  pub kept : IsKept b laid (machine_memory.stored (flow_typing b.program) p ws m) after
  pub turning : LoopsStand laid.loops (length b.outer) after.stack b.frame.loops

-- ---- what all stores keep

-- The slots of the base of a place, with a value in it.
abbrev slots_with : Typing → Place → List Word → Memory → List Slot
slots_with s p ws m = take p.at (slots_at s m p.base) ++ fresh ws ++ drop (p.at + length (fresh ws)) (slots_at s m p.base)

pub stored_types : (s : Typing) (p : Place) (ws : List Word) (m : Memory) → types (machine_memory.stored s p ws m) ≡ types m
stored_types s p ws m = types_put p.base (slots_with s p ws m) m

pub stored_low : (s : Typing) (n : ℕ) (p : Place) (ws : List Word) (m : Memory) → IsLow n p.base → AreUndeclared s n m → AreUndeclared s n (machine_memory.stored s p ws m)
stored_low s n p ws m low is = put_low s n p.base (slots_with s p ws m) m low is

-- Words of loops are those before the evaluation.
pub loops_later : (b : Turns) (laid : Laid) → TurnStands b laid → (m : Memory) (f : Flat) → Later (seen b) laid.objects m f → (c : LoopAt) → Has laid.loops c
    → take 3 (drop c.at f.stack) ≡ take 3 (drop c.at b.flat.stack)
loops_later b laid is m f later c has = later.elsewhere c.at 3 (λ l there. is.memory.loops_apart.objects l c there has)

-- What lies in an object is stored; words of loops are as before.
pub loops_stored : (b : Turns) (laid : Laid) → TurnStands b laid → (m : Memory) (f : Flat) → Later (seen b) laid.objects m f → (l : Lying) (n a : ℕ) (new : List ℤ) → Has laid.objects l → n ≡ l.at + a
    → a + length new ≤ length (lying_sorts (flow_typing b.program) l) → (c : LoopAt) → Has laid.loops c
    → take 3 (drop c.at (spliced n new f.stack)) ≡ take 3 (drop c.at b.flat.stack)
loops_stored b laid is m f later l n a new has from inside c there =
    object_outside (flow_typing b.program) laid.objects l n a new f.stack c.at 3 has from inside (later.whole.apart.within l has) (λ k lies. is.memory.loops_apart.objects k c lies there)
    ∙ loops_later b laid is m f later c there

-- The variable of a place is one of the frame that runs, or of packages.
lies_low : (e : Seen) (frame x start : ℕ) → LiesIn e frame x start → frame < suc e.frame
lies_low e frame x start lies = elim lies [
  | inl own ↦ same frame e.frame own.runs
  | inr first ↦ none frame e.frame first.first
]
  where
    same : (a b : ℕ) → a ≡ b → a < suc b
    same a b is = omega (arith, is)

    none : (a b : ℕ) → a ≡ 0 → a < suc b
    none a b is = omega (arith, is)

-- ---- in the stack

in_stack : (b : Turns) (laid : Laid) → TurnStands b laid → (m : Memory) (f : Flat) → Later (seen b) laid.objects m f → AreUndeclared (flow_typing b.program) (suc (length b.outer)) m
    → (k t n : ℕ) (us : List ℤ) (ev : Evaluated Place) (place : IsPlace (at (seen b) m f) k t (InStack n) us ev) → (ws : List Word) (zs : List ℤ)
    → IsValue (flow_typing b.program).table (types m) (sorts (flow_typing b.program).table t) ws zs → (ks : List Kind)
    → IsStored b laid m f place.p (InStack n) ks ws zs
in_stack b laid is m f later undeclared k t n us ev place ws zs value ks =
    let s : Typing = flow_typing b.program in
    let e : Seen = at (seen b) m f in
    let l : Lying = record { frame = place.from.frame; object = place.from.object; at = place.from.start } in
    let has = lies_there e laid.objects place.from.frame place.from.object place.from.start later.whole.sited place.from.lies in
    let within = later.whole.apart.within l has in
    let split = split_inside (lying_sorts s l) (sorts s.table t) place.p.at place.from.split in
    let inside : place.p.at + length zs ≤ length (lying_sorts s l) = omega (arith, split, value.numbers) in
    let fits : n + length zs ≤ length f.stack = omega (arith, inside, within, place.from.at) in
    let low : IsLow (suc (length b.outer)) place.p.base =
    subst (λ k. IsLow (suc (length b.outer)) k) (sym place.from.base) (lies_low e place.from.frame place.from.object place.from.start place.from.lies) in
    record {
      after = with_stack f (spliced n zs f.stack);
      gives = stack_stored f n ks zs fits;
      kept = record {
        related = store_at_place e laid.objects k t n us ev ws zs later.whole.related later.whole.apart later.whole.sited place value;
        more = later.more;
        made = stored_types s place.p ws m ∙ later.grown;
        long = spliced_long n zs f.stack fits ∙ later.long;
        undeclared = stored_low s (suc (length b.outer)) place.p ws m low undeclared;
        loops = λ c there other. loops_stored b laid is m f later l n place.p.at zs has place.from.at inside c there;
      };
      turning = λ c there of. loops_stored b laid is m f later l n place.p.at zs has place.from.at inside c there ∙ is.frame.loops c there of;
    }

-- ---- in a cell

in_cell : (b : Turns) (laid : Laid) → TurnStands b laid → (m : Memory) (f : Flat) → Later (seen b) laid.objects m f → AreUndeclared (flow_typing b.program) (suc (length b.outer)) m
    → (k t n o : ℕ) (us : List ℤ) (ev : Evaluated Place) (place : IsPlace (at (seen b) m f) k t (InCell n o) us ev) → IsThere (at (seen b) m f) t (InCell n o) us
    → (ws : List Word) (zs : List ℤ) → IsValue (flow_typing b.program).table (types m) (sorts (flow_typing b.program).table t) ws zs
    → IsStored b laid m f place.p (InCell n o) (kinds (flow_typing b.program).table t) ws zs
in_cell b laid is m f later undeclared k t n o us ev place there ws zs value =
    let s : Typing = flow_typing b.program in
    let ks : List Kind = kinds s.table t in
    let few : length (types m) ≤ most_cells = subst (λ l. l ≤ most_cells) (sym (length-map m.cells (λ (c : HeapCell). c.of))) later.whole.related.counted.few in
    let new : Flat = with_words f n o (values ks zs) in
    let low : IsLow (suc (length b.outer)) place.p.base = subst (λ k. IsLow (suc (length b.outer)) k) (sym place.from.base) tt in
    record {
      after = new;
      gives =
          ap (λ g. touched g (words_stored ks o new)) there.there
          ∙ ap (λ d. if d then Stops (Traps Touched) else words_stored ks o new there.c) there.live
          ∙ ap (λ d. if d && are_in o ks there.c then Given new else Broken) (are_there s.table (types m) (sorts s.table t) ws zs few value.numbers value.stand)
          ∙ ap (λ d. if d then Given new else Broken) (in_cell_there (sorts s.table t) o there.c there.small there.inside there.kinds);
      kept = record {
        related = subst (λ j. Related s laid.objects (machine_memory.stored s place.p ws m) (with_words f n j (values ks zs))) (sym place.from.at)
            (stored_in_cell s laid.objects m f place.p n t ws zs later.whole.related place.from.within place.from.base place.from.split value);
        more = later.more;
        made = stored_types s place.p ws m ∙ later.grown;
        long = later.long;
        undeclared = stored_low s (suc (length b.outer)) place.p ws m low undeclared;
        loops = λ c has other. loops_later b laid is m f later c has;
      };
      turning = λ c has of. loops_later b laid is m f later c has ∙ is.frame.loops c has of;
    }
  where
    words_stored : List Kind → ℕ → Flat → StoredCell → Got Flat
    words_stored ks o new c = if are_words ks zs && are_in o ks c then Given new else Broken

-- ---- at any spot

pub is_stored : (b : Turns) (laid : Laid) → TurnStands b laid → (m : Memory) (f : Flat) → Later (seen b) laid.objects m f → AreUndeclared (flow_typing b.program) (suc (length b.outer)) m
    → (k t : ℕ) (w : Spot) (us : List ℤ) (ev : Evaluated Place) (place : IsPlace (at (seen b) m f) k t w us ev) → IsThere (at (seen b) m f) t w us
    → (ws : List Word) (zs : List ℤ) → IsValue (flow_typing b.program).table (types m) (sorts (flow_typing b.program).table t) ws zs
    → (ks : List Kind) → AreKinds w ks (kinds (flow_typing b.program).table t) → IsStored b laid m f place.p w ks ws zs
is_stored b laid is m f later undeclared k t (InStack n) us ev place there ws zs value ks same = in_stack b laid is m f later undeclared k t n us ev place ws zs value ks
is_stored b laid is m f later undeclared k t (InCell n o) us ev place there ws zs value ks same =
    subst (λ l. IsStored b laid m f place.p (InCell n o) l ws zs) (sym same) (in_cell b laid is m f later undeclared k t n o us ev place there ws zs value)
