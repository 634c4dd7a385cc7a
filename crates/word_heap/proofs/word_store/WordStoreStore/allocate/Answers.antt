use Rattle.std.proofs.Common.{◌≡◌, ◌<◌, ◌+◌, ◌++◌, ℕ, pos, length, ap, sym, subst, refl, ◌∙◌, rules, w64, SFits}
use Rattle.std.proofs.lemmas.Int.{to_z-of_z}
use Rattle.slot_heap.specs.Heaps.{Heap, allocated}
use Rattle.slot_heap.specs.Words.{slot_values}
use Rattle.slot_heap.specs.Runs.{Kept, link}
use Rattle.slot_heap.proofs.Held.{first_stands, code_read}
use Rattle.slot_heap.proofs.Made.{kept-grown}
use Rattle.slot_heap.proofs.Words.{values_long}
use Rattle.slot_heap.proofs.Allocated.{grown_within, reused_within, reused, added, length_more}
use Rattle.word_heap.specs.Codes.{IsCode}
use Rattle.word_heap.specs.Stores.{Means}
use Rattle.word_heap.proofs.Coded.{stand_coded, link_kind}
use Rattle.word_heap.proofs.word_store.WordStoreStore.allocate.Goals as goal

pub decoded-requires : goal.decoded-requires
decoded-requires c =
    let n = length c.args.words.now in
    let w = c.index.result.now in
    let fits : SFits w64 w = search rules in
    let kept : Kept IsCode c.grow.new.self.words.items c.grow.new.self.heads.items c.requires.few.0 =
    rw (c.in_ok-grow.ensures.words, c.in_ok-grow.ensures.heads) (kept-grown IsCode _ _ c.requires.few.0 _ (pos 0) (refl, tt) c.requires.few.1.0.0) in
    let within : n < length c.grow.new.self.heads.items = rw c.in_ok-grow.ensures.heads (grown_within _ n (pos 0)) in
    let is = code_read IsCode c.grow.new.self.heads.items n n (link (kept.frees n)) w refl c.index.ensures (first_stands IsCode kept n within) in
    (link (kept.frees n), ((to_z-of_z w64 w fits ∙ is.0, is.1), link_kind (kept.frees n)))

pub reuse-requires-clause-within : goal.reuse-requires-clause-within
reuse-requires-clause-within c =
    let n = length c.args.words.now in
    let w = c.index.result.now in
    let fits : SFits w64 w = search rules in
    let kept : Kept IsCode c.grow.new.self.words.items c.grow.new.self.heads.items c.requires.few.0 =
    rw (c.in_ok-grow.ensures.words, c.in_ok-grow.ensures.heads) (kept-grown IsCode _ _ c.requires.few.0 _ (pos 0) (refl, tt) c.requires.few.1.0.0) in
    let within : n < length c.grow.new.self.heads.items = rw c.in_ok-grow.ensures.heads (grown_within _ n (pos 0)) in
    let is = code_read IsCode c.grow.new.self.heads.items n n (link (kept.frees n)) w refl c.index.ensures (first_stands IsCode kept n within) in
    let first = c.decoded.ensures (link (kept.frees n)) (to_z-of_z w64 w fits ∙ is.0, is.1) (link_kind (kept.frees n)) in
    reused_within IsCode c.in-Cell.h n kept (sym first ∙ c.in-Cell.is)

pub returns-in-Cell-clause-new : goal.returns-in-Cell-clause-new
returns-in-Cell-clause-new c = λ m means.
    let zs = c.args.words.now in
    let ws = slot_values c.args._kinds.now zs in
    let n = length zs in
    let long : length ws ≡ n = values_long c.args._kinds.now zs c.requires.fit in
    let w = c.index.result.now in
    let fits : SFits w64 w = search rules in
    let kept : Kept IsCode c.grow.new.self.words.items c.grow.new.self.heads.items m =
    rw (c.in_ok-grow.ensures.words, c.in_ok-grow.ensures.heads) (kept-grown IsCode _ _ m _ (pos 0) (refl, tt) means.0) in
    let within : n < length c.grow.new.self.heads.items = rw c.in_ok-grow.ensures.heads (grown_within _ n (pos 0)) in
    let is = code_read IsCode c.grow.new.self.heads.items n n (link (kept.frees n)) w refl c.index.ensures (first_stands IsCode kept n within) in
    let first = c.decoded.ensures (link (kept.frees n)) (to_z-of_z w64 w fits ∙ is.0, is.1) (link_kind (kept.frees n)) in
    (reused IsCode c.in-Cell.h (pos 0) zs ws n long refl (stand_coded c.args._kinds.now zs c.requires.fit) kept (sym first ∙ c.in-Cell.is)).1

pub returns-in-Cell-clause-allocated : goal.returns-in-Cell-clause-allocated
returns-in-Cell-clause-allocated c = λ m means.
    let zs = c.args.words.now in
    let ws = slot_values c.args._kinds.now zs in
    let n = length zs in
    let long : length ws ≡ n = values_long c.args._kinds.now zs c.requires.fit in
    let w = c.index.result.now in
    let fits : SFits w64 w = search rules in
    let kept : Kept IsCode c.grow.new.self.words.items c.grow.new.self.heads.items m =
    rw (c.in_ok-grow.ensures.words, c.in_ok-grow.ensures.heads) (kept-grown IsCode _ _ m _ (pos 0) (refl, tt) means.0) in
    let within : n < length c.grow.new.self.heads.items = rw c.in_ok-grow.ensures.heads (grown_within _ n (pos 0)) in
    let is = code_read IsCode c.grow.new.self.heads.items n n (link (kept.frees n)) w refl c.index.ensures (first_stands IsCode kept n within) in
    let first = c.decoded.ensures (link (kept.frees n)) (to_z-of_z w64 w fits ∙ is.0, is.1) (link_kind (kept.frees n)) in
    let all = reused IsCode c.in-Cell.h (pos 0) zs ws n long refl (stand_coded c.args._kinds.now zs c.requires.fit) kept (sym first ∙ c.in-Cell.is) in
    (rw (c.reuse.ensures.words, c.reuse.ensures.heads) all.0, c.reuse.ensures.count ∙ c.in_ok-grow.ensures.count ∙ means.1 ∙ ap length (sym all.2))

pub returns-in-Ok : goal.returns-in-Ok
returns-in-Ok c =
    let zs = c.args.words.now in
    let ws = slot_values c.args._kinds.now zs in
    let s = c.grow.new.self in
    let whole = λ (m : Heap) (means : Means c.args.self.now m).
    let n = length zs in
    let long : length ws ≡ n = values_long c.args._kinds.now zs c.requires.fit in
    let w = c.index.result.now in
    let fits : SFits w64 w = search rules in
    let kept : Kept IsCode c.grow.new.self.words.items c.grow.new.self.heads.items m =
    rw (c.in_ok-grow.ensures.words, c.in_ok-grow.ensures.heads) (kept-grown IsCode _ _ m _ (pos 0) (refl, tt) means.0) in
    let within : n < length c.grow.new.self.heads.items = rw c.in_ok-grow.ensures.heads (grown_within _ n (pos 0)) in
    let is = code_read IsCode c.grow.new.self.heads.items n n (link (kept.frees n)) w refl c.index.ensures (first_stands IsCode kept n within) in
    let first = c.decoded.ensures (link (kept.frees n)) (to_z-of_z w64 w fits ∙ is.0, is.1) (link_kind (kept.frees n)) in
    added IsCode zs ws n c.requires.some within long refl (stand_coded c.args._kinds.now zs c.requires.fit) kept (λ a at. c.in_default.not-Cell a (first ∙ at)) in
    let P : ℕ → Heap → Type 0 = λ h m. Kept IsCode (s.words.items ++ zs) s.heads.items (allocated m h ws) in
    record {
      new = λ m means. rw c.in-Ok.ensures.handle (whole m means).1;
      allocated = λ m means. (
        rw (c.in-Ok.ensures.words, c.in-Ok.ensures.heads) (subst (λ h. P h m) (sym c.in-Ok.ensures.handle) (whole m means).0),
        c.in-Ok.ensures.count ∙ ap (λ n. n + 1) (c.in_ok-grow.ensures.count ∙ means.1) ∙ length_more (length ws) m.slots ∙ ap length (sym (whole m means).2),
      );
      unchanged = tt;
    }

pub returns-in-Err : goal.returns-in-Err
returns-in-Err c = record {
  new = tt;
  allocated = tt;
  unchanged = λ m means. (
    rw (c.in-Err.ensures.words_stay, c.in-Err.ensures.heads, c.in_ok-grow.ensures.words, c.in_ok-grow.ensures.heads) (kept-grown IsCode _ _ m _ (pos 0) (refl, tt) means.0),
    c.in-Err.ensures.count_stays ∙ c.in_ok-grow.ensures.count ∙ means.1,
  );
}
