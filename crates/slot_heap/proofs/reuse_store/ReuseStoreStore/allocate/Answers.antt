use Rattle.std.proofs.Common.{◌<◌, ◌+◌, ◌++◌, ◌≡◌, ℕ, length, ap, sym, subst, refl, ◌∙◌}
use Rattle.run_values.specs.declared.value.Value.TheVariants as value
use Rattle.slot_heap.specs.Heaps.{Heap, allocated}
use Rattle.slot_heap.specs.Words.{slot_values}
use Rattle.slot_heap.specs.Runs.{Kept, link}
use Rattle.slot_heap.specs.Stores.{IsItself, Means}
use Rattle.slot_heap.proofs.Held.{first_stands, code_read}
use Rattle.slot_heap.proofs.Made.{kept-grown}
use Rattle.slot_heap.proofs.Allocated.{grown_within, reused_within, reused, added, length_more}
use Rattle.slot_heap.proofs.Itself.{stand_itself}
use Rattle.slot_heap.proofs.Words.{values_long}
use Rattle.slot_heap.proofs.reuse_store.ReuseStoreStore.allocate.Goals as goal

pub reuse-requires-clause-within : goal.reuse-requires-clause-within
reuse-requires-clause-within c =
    let n = length c.args.words.now in
    let m = c.requires.few.0 in
    let kept : Kept IsItself c.grow.new.self.words.items c.grow.new.self.heads.items m =
    rw (c.in_ok-grow.ensures.words, c.in_ok-grow.ensures.heads) (kept-grown IsItself _ _ m _ value.Null refl c.requires.few.1.0.0) in
    let within : n < length c.grow.new.self.heads.items = rw c.in_ok-grow.ensures.heads (grown_within _ n value.Null) in
    let head = code_read IsItself c.grow.new.self.heads.items n n (link (kept.frees n)) c.index.result.now refl c.index.ensures (first_stands IsItself kept n within) in
    reused_within IsItself c.in-Cell.h n kept (sym head ∙ c.in-Cell.is)

pub returns-in-Cell-clause-new : goal.returns-in-Cell-clause-new
returns-in-Cell-clause-new c = λ m means.
    let ws = slot_values c.args.kinds.now c.args.words.now in
    let n = length c.args.words.now in
    let long : length ws ≡ n = values_long c.args.kinds.now c.args.words.now c.requires.fit in
    let kept : Kept IsItself c.grow.new.self.words.items c.grow.new.self.heads.items m =
    rw (c.in_ok-grow.ensures.words, c.in_ok-grow.ensures.heads) (kept-grown IsItself _ _ m _ value.Null refl means.0) in
    let within : n < length c.grow.new.self.heads.items = rw c.in_ok-grow.ensures.heads (grown_within _ n value.Null) in
    let head = code_read IsItself c.grow.new.self.heads.items n n (link (kept.frees n)) c.index.result.now refl c.index.ensures (first_stands IsItself kept n within) in
    let all = reused IsItself c.in-Cell.h value.Null ws ws n long long (stand_itself ws) kept (sym head ∙ c.in-Cell.is) in
    all.1

pub returns-in-Cell-clause-allocated : goal.returns-in-Cell-clause-allocated
returns-in-Cell-clause-allocated c = λ m means.
    let ws = slot_values c.args.kinds.now c.args.words.now in
    let n = length c.args.words.now in
    let long : length ws ≡ n = values_long c.args.kinds.now c.args.words.now c.requires.fit in
    let kept : Kept IsItself c.grow.new.self.words.items c.grow.new.self.heads.items m =
    rw (c.in_ok-grow.ensures.words, c.in_ok-grow.ensures.heads) (kept-grown IsItself _ _ m _ value.Null refl means.0) in
    let within : n < length c.grow.new.self.heads.items = rw c.in_ok-grow.ensures.heads (grown_within _ n value.Null) in
    let head = code_read IsItself c.grow.new.self.heads.items n n (link (kept.frees n)) c.index.result.now refl c.index.ensures (first_stands IsItself kept n within) in
    let all = reused IsItself c.in-Cell.h value.Null ws ws n long long (stand_itself ws) kept (sym head ∙ c.in-Cell.is) in
    (rw (c.reuse.ensures.words, c.reuse.ensures.heads) all.0, c.reuse.ensures.count ∙ c.in_ok-grow.ensures.count ∙ means.1 ∙ ap length (sym all.2))

pub returns-in-Ok : goal.returns-in-Ok
returns-in-Ok c =
    let ws = slot_values c.args.kinds.now c.args.words.now in
    let n = length c.args.words.now in
    let long : length ws ≡ n = values_long c.args.kinds.now c.args.words.now c.requires.fit in
    let s = c.grow.new.self in
    let whole = λ (m : Heap) (means : Means c.args.self.now m).
    let kept : Kept IsItself s.words.items s.heads.items m =
    rw (c.in_ok-grow.ensures.words, c.in_ok-grow.ensures.heads) (kept-grown IsItself _ _ m _ value.Null refl means.0) in
    let within : n < length s.heads.items = rw c.in_ok-grow.ensures.heads (grown_within _ n value.Null) in
    let head = code_read IsItself s.heads.items n n (link (kept.frees n)) c.index.result.now refl c.index.ensures (first_stands IsItself kept n within) in
    added IsItself ws ws n c.requires.some within long long (stand_itself ws) kept (λ a is. c.in_default.not-Cell a (head ∙ is)) in
    let P : ℕ → Heap → Type 0 = λ h m. Kept IsItself (s.words.items ++ ws) s.heads.items (allocated m h ws) in
    record {
      new = λ m means. rw c.in-Ok.ensures.handle (whole m means).1;
      allocated = λ m means. (
        rw (c.in-Ok.ensures.words, c.in-Ok.ensures.heads) (subst (λ h. P h m) (sym c.in-Ok.ensures.handle) (whole m means).0),
        c.in-Ok.ensures.count ∙ ap (λ n. n + 1) (c.in_ok-grow.ensures.count ∙ means.1) ∙ length_more (length ws) m.slots ∙ ap length (sym (whole m means).2),
      );
      unchanged = tt;
    }

pub returns-in-Err : goal.returns-in-Err
returns-in-Err c = record {
  new = tt;
  allocated = tt;
  unchanged = λ m means. (
    rw (c.in-Err.ensures.words_stay, c.in-Err.ensures.heads, c.in_ok-grow.ensures.words, c.in_ok-grow.ensures.heads) (kept-grown IsItself _ _ m _ value.Null refl means.0),
    c.in-Err.ensures.count_stays ∙ c.in_ok-grow.ensures.count ∙ means.1,
  );
}
