use Rattle.std.proofs.Common.{◌≡◌, ◌∙◌, ap, ℕ, Bool, List, ◌++◌, append-nil, length, take, drop, drop_of_length-le, take_all, arith}
use Rattle.state_trees.specs.FactStates.{either_mark}
use Rattle.state_trees.proofs.marks.raise.Goals as goal

-- a vector whose elements are all written through a slice
written_back : (n : ℕ) (new items : List Bool) → length new ≡ length items → n ≡ length items → take n (new ++ drop (length new) items) ≡ new
written_back n new items same count =
    ap (λ l. take n (new ++ l)) (drop_of_length-le items (omega arith)) ∙ ap (take n) (append-nil new) ∙ take_all n new (omega arith)

pub returns : goal.returns
returns c =
    let items = c.args.mine.now.items in
    let same : length c.raise_each.new.mine ≡ length items = omega (arith, ap length c.as_mut_slice.ensures.value) in
    written_back c.args.mine.now.len c.raise_each.new.mine items same (omega (arith, c.args.mine.now.ok.0))
    ∙ c.raise_each.ensures
    ∙ ap (λ l. either_mark l c.args.other.now) c.as_mut_slice.ensures.value
