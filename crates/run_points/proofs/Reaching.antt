-- A place that was found before is there still: what stands at it, and that its cell isn't freed.
use Rattle.std.proofs.Common.{◌≡◌, inl, inr, ℕ, suc, ◌+◌, ◌<◌, List, ◌++◌, length, drop, refl, sym, ap, subst, ◌∙◌, arith, ℤ}
use Rattle.std.proofs.lemmas.List.{length-map, drop-drop}
use Rattle.run_values.specs.declared.value.Value.{Value}
use Rattle.kept_cells.specs.Cells.{Cell as StoredCell}
use Rattle.machine.specs.Typed.{Sort, sorts}
use Rattle.machine.specs.Memory.{Memory, HeapCell, Place, OfVariable, cell, slots_at}
use Rattle.machine.specs.Evaluate.{Done}
use Rattle.run_codes.specs.Flat.{Flat, words_in, Spot, InStack, InCell}
use Rattle.run_codes.specs.Related.{AllStand, AllKinds, Seen, table, now, types, LiesIn, IsSplit, IsPlace, IsThere, Lying, lying_sorts}
use Rattle.run_codes.proofs.Parts.{first_kinds, second_kinds, split_inside}
use Rattle.run_codes.proofs.Places.{type_at}
use Rattle.run_codes.proofs.Seeing.{lies_there}
use Rattle.run_fills.specs.Filled.{IsWhole, at}
use Rattle.run_fills.proofs.Gone.{part_stand}
use Rattle.run_points.proofs.Flags.{FreesNone}
use Rattle.run_points.proofs.Passing.{IsFound}

-- The place, with what stands there.
pub record IsReached (e : Seen) (p : Place) (t : ℕ) (w : Spot) : Type 0 where
  pub zs : List ℤ
  pub place : IsPlace e 0 t w zs (Done p (now e 0))
  pub there : IsThere e t w zs
  pub same : place.p ≡ p

lies_later : (e : Seen) (m : Memory) (f : Flat) (frame x start : ℕ) → f.base ≡ e.flat.base → LiesIn e frame x start → LiesIn (at e m f) frame x start
lies_later e m f frame x start base lies = elim lies [
  | inl own ↦ inl (record { at = own.at; there = own.there; own = own.own; runs = own.runs; begins = own.begins ∙ ap (λ n. n + own.at) (sym base) })
  | inr first ↦ inr (record { there = first.there; packages = first.packages; first = first.first })
]

part_kinds : (all part : List Sort) (o : ℕ) (vs : List Value) → IsSplit all o part → AllKinds all vs → AllKinds part (drop o vs)
part_kinds all part o vs split is =
    subst (λ n. AllKinds part (drop n vs)) split.long
    (first_kinds part split.rest (drop (length split.front) vs) (second_kinds split.front (part ++ split.rest) vs (subst (λ l. AllKinds l vs) split.is is)))

-- In the stack and in cells, where objects lie as before and no other cell is freed.
pub reached : (e : Seen) (all : List Lying) (m : Memory) (f : Flat) → f.base ≡ e.flat.base → IsWhole (at e m f) all → FreesNone e.memory m → (p : Place) (t : ℕ) (w : Spot) → p.of ≡ t → IsFound e (types m) p t w
    → IsReached (at e m f) p t w
reached e all m f base whole flags p t (InStack n) of found =
    let lies = lies_later e m f found.frame found.object found.start base found.lies in
    let l : Lying = record { frame = found.frame; object = found.object; at = found.start } in
    let has = lies_there (at e m f) all found.frame found.object found.start whole.sited lies in
    let whole_stand = whole.related.objects l has in
    let part = part_stand (table e) (types m) (lying_sorts e.site.typing l) (sorts (table e) t) p.at (slots_at e.site.typing m (OfVariable found.frame found.object)) (drop found.start f.stack) found.split whole_stand in
    let dropped : drop p.at (drop found.start f.stack) ≡ drop n f.stack = drop-drop p.at found.start f.stack ∙ ap (λ j. drop j f.stack) (sym found.at) in
    record {
      zs = drop n f.stack;
      place = record {
        p = p;
        gives = refl;
        of = of;
        stand =
            subst (λ b. AllStand (table e) (types m) (sorts (table e) t) (drop p.at (slots_at e.site.typing m b)) (drop n f.stack)) (sym found.base)
            (subst (λ zs. AllStand (table e) (types m) (sorts (table e) t) (drop p.at (slots_at e.site.typing m (OfVariable found.frame found.object))) zs) dropped part);
        from = record { frame = found.frame; object = found.object; start = found.start; lies = lies; base = found.base; at = found.at; split = found.split };
      };
      there = refl;
      same = refl;
    }
reached e all m f base whole flags p t (InCell n o) of found =
    let within : n < length m.cells = subst (λ j. n < j) (length-map m.cells (λ (c : HeapCell). c.of)) found.2 in
    let have = whole.related.cells n within in
    let c : StoredCell = have.0 in
    let split : IsSplit (sorts (table e) (cell m (suc n)).of) p.at (sorts (table e) t) = subst (λ u. IsSplit (sorts (table e) u) p.at (sorts (table e) t)) (type_at m.cells n) found.3 in
    let inside = split_inside (sorts (table e) (cell m (suc n)).of) (sorts (table e) t) p.at split in
    let part = part_stand (table e) (types m) (sorts (table e) (cell m (suc n)).of) (sorts (table e) t) p.at (cell m (suc n)).slots (words_in c.words) split have.2.words in
    record {
      zs = drop o (words_in c.words);
      place = record {
        p = p;
        gives = refl;
        of = of;
        stand =
            subst (λ j. AllStand (table e) (types m) (sorts (table e) t) (drop p.at (slots_at e.site.typing m p.base)) (drop j (words_in c.words))) (sym found.1)
            (subst (λ b. AllStand (table e) (types m) (sorts (table e) t) (drop p.at (slots_at e.site.typing m b)) (drop p.at (words_in c.words))) (sym found.0) part);
        from = record { base = found.0; at = found.1; within = within; split = split };
      };
      there = record {
        c = c;
        there = have.1;
        live = sym have.2.freed ∙ flags.same n within ∙ found.4;
        small = have.2.small;
        inside = omega (arith, inside, found.1, have.2.room);
        kinds = subst (λ j. AllKinds (sorts (table e) t) (drop j c.words)) (sym found.1) (part_kinds (sorts (table e) (cell m (suc n)).of) (sorts (table e) t) p.at c.words split have.2.kinds);
        words = refl;
      };
      same = refl;
    }
