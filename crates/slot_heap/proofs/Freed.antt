-- A live cell is freed: its run is the first free one of its size.
use Rattle.std.proofs.Common.{◌≡◌, ℕ, ◌+◌, ◌<◌, ◌≤◌, None, Some, List, [], ◌∷◌, ◌⊎◌, length, set, refl, sym, subst, ◌∙◌, arith, inl, inr, ⊎_elim, length-set}
use Rattle.std.proofs.lemmas.Bool.{cases_eq}
use Rattle.run_values.specs.declared.value.Value.{Value}
use Rattle.run_values.specs.declared.value.Value.TheVariants as value
use Rattle.slot_heap.specs.Heaps.{Heap, words_at, released, without, live_count, slot_count}
use Rattle.slot_heap.specs.Runs.{IsFree, Kept, StandsAt, Has, AreOnce, Chain, link}
use Rattle.slot_heap.proofs.Heaps.{words_at-without_same, words_at-without_other, words_at-without_none, IsOnce-without, live_count-without_same, live_count-without_other}
use Rattle.slot_heap.proofs.Places.{get-set_same, get-set_other}
use Rattle.slot_heap.proofs.Runs.{run_kept, stand_kept, chain_kept, put_at, by_size}
use Rattle.slot_heap.proofs.Written.{set_inside, not_live}

-- A table with another first run at one size.
pub first_set : {W : Type 0} (IsCode : W → Value → Type 0) (heads : List W) (n : ℕ) (w : W) (starts : List ℕ) → n < length heads → IsCode w (link starts) → (frees : ℕ → List ℕ) → ((j : ℕ) → StandsAt IsCode heads j (link (frees j)) ⊎ ((length heads ≤ j) × (frees j ≡ []))) → (j : ℕ) → StandsAt IsCode (set heads n w) j (link (put_at n starts frees j)) ⊎ ((length (set heads n w) ≤ j) × (put_at n starts frees j ≡ []))
first_set IsCode heads n w starts within code frees first =
    by_size (λ j all. StandsAt IsCode (set heads n w) j (link all) ⊎ ((length (set heads n w) ≤ j) × (all ≡ []))) n starts frees
    (inl (rw (get-set_same heads n w within) code))
    (λ j other. ⊎_elim
    (λ there. inl (rw (get-set_other heads n j w other) there))
    (λ past. inr (rw (length-set heads n w) past))
    (first j))

pub kept-freed : {W : Type 0} (IsCode : W → Value → Type 0) {words heads : List W} {m : Heap} (h : ℕ) (w c : W) (ws : List Value) → words_at m.cells h ≡ Some ws → (k : Kept IsCode words heads m) → IsCode w (link (k.frees (length ws))) → IsCode c (value.Cell h) → Kept IsCode (set words h w) (set heads (length ws) c) (released m h)
kept-freed IsCode {words} {heads} {m} h w c ws is k code_w code_c =
    let n = length ws in
    let cell = k.cells h ws is in
    let some = cell.run.some in
    let inside = cell.run.within in
    let out = set_inside words h w cell.run (omega arith) (omega (arith, some)) in
    let starts = h ∷ k.frees n in
    let others_kept = λ (j : ℕ). chain_kept IsCode j (k.frees j) out (λ a has. ((k.free j a has).run, not_live m ws a is (k.free j a has).dead)) (k.chains j) in
    let still_free = λ (j a : ℕ) (has : Has (k.frees j) a).
    let before = k.free j a has in
    let now : IsFree (set words h w) k.marks (released m h) j a = record { run = run_kept out before.run; dead = words_at-without_none m.cells h a before.dead } in now in
    record {
      marks = k.marks;
      frees = put_at n starts k.frees;
      once = IsOnce-without m.cells h k.once;
      cells = λ g us now.
          ⊎_elim
          (λ (e : g ≡ h).
          let gone : words_at (without m.cells h) g ≡ None = rw e (words_at-without_same m.cells h k.once) in
          let clash : Some us ≡ None = sym now ∙ gone in
          let never : ⊥ = cc in
          absurd never)
          (λ other.
          let before = k.cells g us (sym (words_at-without_other m.cells h g other) ∙ now) in
          record {
            run = run_kept out before.run;
            sized = rw (length-set heads n c) before.sized;
            stand = stand_kept IsCode us out before.run other before.stand;
          })
          (cases_eq g h);
      free = by_size (λ j all. (a : ℕ) → Has all a → IsFree (set words h w) k.marks (released m h) j a) n starts k.frees
          (λ a has. ⊎_elim
          (λ (e : h ≡ a).
          let freed : IsFree (set words h w) k.marks (released m h) n h = record { run = run_kept out cell.run; dead = words_at-without_same m.cells h k.once } in
          subst (λ b. IsFree (set words h w) k.marks (released m h) n b) e freed)
          (λ has. still_free n a has)
          has)
          (λ j other a has. still_free j a has);
      free_once = by_size (λ j all. AreOnce all) n starts k.frees
          (λ has. not_live m ws h is (k.free n h has).dead refl, k.free_once n)
          (λ j other. k.free_once j);
      chains = by_size (λ j all. Chain IsCode (set words h w) all) n starts k.frees
          (rw (get-set_same words h w (omega (arith, some, inside))) code_w, others_kept n)
          (λ j other. others_kept j);
      first = first_set IsCode heads n c starts cell.sized code_c k.frees k.first;
      counts = by_size (λ j all. slot_count j m.slots ≡ live_count j (without m.cells h) + length all) n starts k.frees
          (let live = live_count-without_same m.cells h ws is in let all = k.counts n in omega (arith, live, all))
          (λ j other. let live = live_count-without_other m.cells h ws j is other in let all = k.counts j in omega (arith, live, all));
    }
