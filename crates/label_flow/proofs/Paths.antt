-- A label reaches a node exactly where some path brings it there.
use Rattle.std.proofs.Common.{◌≡◌, refl, ap, subst, ℕ, true, List, [], ◌∷◌}
use Rattle.label_flow.specs.Flows.{Flow, Reaches, starts, moves, IsPath, begins, goes_on, moved_along, Brings}

-- what a path makes of a label that is at its first node from the start
pub path_reaches : {Label : Type 0} (flow : Flow Label) (from : ℕ) (k : Label) → flow.first from k ≡ true
    → (before : List ℕ) (a : ℕ) → IsPath flow.next from before a → Reaches flow a (moved_along flow before k)
path_reaches flow from k first before' a' begins = starts from k first
path_reaches flow from k first before' a' (goes_on before a b path edge) =
    moves a b (moved_along flow before k) (path_reaches flow from k first before a path) edge

pub brings_reaches : {Label : Type 0} (flow : Flow Label) (a : ℕ) (k : Label) → Brings flow a k → Reaches flow a k
brings_reaches flow a k b =
    subst (Reaches flow a) b.becomes (path_reaches flow b.from b.label b.first b.before a b.path)

pub reaches_brings : {Label : Type 0} (flow : Flow Label) (a : ℕ) (k : Label) → Reaches flow a k → Brings flow a k
reaches_brings flow a' k' (starts a k first) =
    record { from = a; before = []; path = begins; label = k; first = first; becomes = refl }
reaches_brings flow a' k' (moves a b k r edge) =
    let t = reaches_brings flow a k r in
    record {
      from = t.from;
      before = a ∷ t.before;
      path = goes_on t.before a b t.path edge;
      label = t.label;
      first = t.first;
      becomes = ap (flow.move a) t.becomes;
    }
