-- What is stored in an object keeps the rest, words of loops among it.
use Rattle.std.proofs.Common.{◌≡◌, ◌⊎◌, inl, inr, ℕ, suc, ◌+◌, ◌-◌, ◌<◌, ◌≤◌, true, false, Bool, not, ◌&&◌, List, [], length, take, drop, refl, sym, ap, subst, ◌∙◌, Some, None, arith, ℤ, if◌then◌else◌, append-nil}
use Rattle.std.specs.Prelude.{◌==◌}
use Rattle.spark_base.specs.Lists.{Has}
use Rattle.flow_paths.specs.Objects.{Typing, object_at, is_package_object}
use Rattle.flow_paths.specs.Laid.{flow_typing}
use Rattle.machine.specs.Words.{Word}
use Rattle.machine.specs.Typed.{sorts}
use Rattle.machine.specs.States.{sub_of}
use Rattle.machine.specs.Memory.{Memory, Slot, OfVariable, fresh, slots_at, put, declared}
use Rattle.run_codes.specs.Flat.{Flat, spliced, with_stack}
use Rattle.run_codes.specs.Lowered.{offset_from, offset_of, package_offset}
use Rattle.run_codes.specs.Programs.{objects_of, own_offset}
use Rattle.run_codes.specs.Related.{AllStand, IsValue, types, Lying, lying_sorts, Related, AreApart}
use Rattle.run_codes.proofs.Places.{if_some}
use Rattle.run_codes.proofs.Stores.{spliced_is, splice_on, splice_after, stand_before, with_others}
use Rattle.run_codes.proofs.Cells.{splice_long}
use Rattle.run_codes.proofs.Seeing.{declared_in_stack}
use Rattle.run_fills.proofs.Outside.{block_kept}
use Rattle.run_points.specs.States.{Laid, LoopAt, LoopsStand, AreUndeclared}
use Rattle.run_points.specs.Turns.{Turns, around, seen, TurnStands, IsKept}
use Rattle.run_points.proofs.Waits.{at_start, sited}

-- ---- words elsewhere

pub spliced_long : (n : ℕ) (new all : List ℤ) → n + length new ≤ length all → length (spliced n new all) ≡ length all
spliced_long n new all inside = ap (λ (l : List ℤ). length l) (spliced_is n new all) ∙ splice_long n new all inside

-- ---- an object of the frame that runs

-- Objects of frames that aren't there stay so.
pub undeclared_on : (s : Typing) (count frame x : ℕ) (slots : List Slot) (m : Memory) → frame < count → AreUndeclared s count m → AreUndeclared s count (put (OfVariable frame x) slots m)
undeclared_on s count frame x slots m low is other y high =
    with_others s frame x other y slots m.variables (ap (λ b. b && (x == y)) (apart frame other count low high)) ∙ is other y high
  where
    apart : (a b n : ℕ) → a < n → n ≤ b → (a == b) ≡ false
    apart a b n low high = grind arith

-- Words of loops stay where an object has others.
pub loops_kept : (b : Turns) (laid : Laid) → TurnStands b laid → (l : Lying) (n a : ℕ) (new : List ℤ) → Has laid.objects l → n ≡ l.at + a
    → a + length new ≤ length (lying_sorts (flow_typing b.program) l) → (c : LoopAt) → Has laid.loops c
    → take 3 (drop c.at (spliced n new b.flat.stack)) ≡ take 3 (drop c.at b.flat.stack)
loops_kept b laid is l n a new has at inside c there =
    let whole = is.memory.apart.within l has in
    block_kept c.at 3 n new b.flat.stack (omega (arith, whole, inside, at)) (elim (is.memory.loops_apart.objects l c has there) [
      | inl object_first ↦ inr (omega (arith, object_first, inside, at))
      | inr loop_first ↦ inl (omega (arith, loop_first, at))
    ])

-- The object lies there.
abbrev pub own_object : Turns → ℕ → ℕ → Lying
own_object b x at = record { frame = length b.outer; object = x; at = b.flat_frame.base + at }

pub own_there : (b : Turns) (laid : Laid) → TurnStands b laid → (x at : ℕ) → own_offset (around b) x ≡ Some at → Has laid.objects (own_object b x at)
own_there b laid is x at there = by (is_package_object (flow_typing b.program) x) refl there
  where
    same_number : (a c : ℕ) → (a == c) ≡ true → a ≡ c
    same_number a c is = grind arith

    none : (n : ℕ) → n ≡ 0 + n
    none n = omega arith

    by : (k : Bool) → is_package_object (flow_typing b.program) x ≡ k
        → (if (if k then b.frame.sub == 0 else not (b.frame.sub == 0)) then offset_of (around b).site x else None) ≡ Some at → Has laid.objects (own_object b x at)
    by false own there = (sited b laid is).own x at (if_some (not (b.frame.sub == 0)) (offset_of (around b).site x) at there).1 own
    by true of_packages there =
        let sure = if_some (b.frame.sub == 0) (offset_of (around b).site x) at there in
        let first : b.frame.sub ≡ 0 = same_number b.frame.sub 0 sure.0 in
        let lies = is.frame.first first in
        let offset : package_offset (seen b).site x ≡ Some at =
        subst (λ n. offset_from (flow_typing b.program) 0 (objects_of (sub_of b.program n)) x ≡ Some at) first sure.1 in
        subst (λ d. Has laid.objects (record { frame = d; object = x; at = b.flat_frame.base + at })) (sym lies.0)
        (subst (λ n. Has laid.objects (record { frame = 0; object = x; at = n + at })) (sym lies.1)
        (subst (λ n. Has laid.objects (record { frame = 0; object = x; at = n })) (none at) ((sited b laid is).packages x at offset of_packages)))

-- It is declared with a value.
pub declared_kept : (b : Turns) (laid : Laid) → TurnStands b laid → (x at : ℕ) → Has laid.objects (own_object b x at) → (ws : List Word) (zs : List ℤ)
    → IsValue (flow_typing b.program).table (types b.memory) (sorts (flow_typing b.program).table (object_at (flow_typing b.program) x).of) ws zs
    → IsKept b laid (declared (length b.outer) x ws b.memory) (with_stack (seen b).flat (spliced (b.flat_frame.base + at) zs b.flat.stack))
declared_kept b laid is x at there ws zs value =
    let l : Lying = own_object b x at in
    let whole = is.memory.apart.within l there in
    record {
      related = declared_in_stack (flow_typing b.program) laid.objects b.memory (seen b).flat l ws zs (at_start b laid is) is.memory.apart there value;
      more = [];
      made = sym (append-nil (types b.memory));
      long = spliced_long l.at zs b.flat.stack (omega (arith, whole, value.numbers));
      undeclared = undeclared_on (flow_typing b.program) (suc (length b.outer)) (length b.outer) x (fresh ws) b.memory (last (length b.outer)) is.memory.undeclared;
      loops = λ c has other. loops_kept b laid is l l.at 0 zs there (none l.at) (omega (arith, value.numbers)) c has;
    }
  where
    last : (n : ℕ) → n < suc n
    last n = omega arith

    none : (n : ℕ) → n ≡ n + 0
    none n = omega arith

-- The loops of the frame that runs have the words that they had.
pub declared_loops : (b : Turns) (laid : Laid) → TurnStands b laid → (x at : ℕ) → Has laid.objects (own_object b x at) → (zs : List ℤ)
    → length zs ≡ length (sorts (flow_typing b.program).table (object_at (flow_typing b.program) x).of)
    → LoopsStand laid.loops (length b.outer) (spliced (b.flat_frame.base + at) zs b.flat.stack) b.frame.loops
declared_loops b laid is x at there zs long c has of =
    loops_kept b laid is (own_object b x at) (b.flat_frame.base + at) 0 zs there (none (b.flat_frame.base + at)) (omega (arith, long)) c has ∙ is.frame.loops c has of
  where
    none : (n : ℕ) → n ≡ n + 0
    none n = omega arith

-- ---- words of the stack that no object has

pub outside_kept : (s : Typing) (all : List Lying) (m : Memory) (f : Flat) (n : ℕ) (new : List ℤ) → Related s all m f → AreApart s all (length f.stack)
    → n + length new ≤ length f.stack → ((l : Lying) → Has all l → (l.at + length (lying_sorts s l) ≤ n) ⊎ (n + length new ≤ l.at))
    → Related s all m (with_stack f (spliced n new f.stack))
outside_kept s all m f n new related apart inside outside = record {
  objects = λ l has.
      subst (λ zs. AllStand s.table (types m) (lying_sorts s l) (slots_at s m (OfVariable l.frame l.object)) (drop l.at zs)) (sym (spliced_is n new f.stack))
      (elim (outside l has) [
        | inl before ↦ (
            let within = apart.within l has in
            subst (λ zs. AllStand s.table (types m) (lying_sorts s l) (slots_at s m (OfVariable l.frame l.object)) zs)
            (sym (splice_on l.at (n - l.at) n new f.stack (omega (arith, before)) (omega (arith, within))))
            (stand_before s.table (types m) (lying_sorts s l) (slots_at s m (OfVariable l.frame l.object)) (drop l.at f.stack) (n - l.at) new (omega (arith, before)) (related.objects l has)))
        | inr after ↦
            subst (λ zs. AllStand s.table (types m) (lying_sorts s l) (slots_at s m (OfVariable l.frame l.object)) zs)
            (sym (splice_after n l.at new f.stack after (omega (arith, inside)))) (related.objects l has)
      ]);
  cells = related.cells;
  counted = record { made = related.counted.made; few = related.counted.few; live = related.counted.live; freed = related.counted.freed };
}
