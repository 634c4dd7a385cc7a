-- Names that lead to a place, as the functions test for them.
use Rattle.std.proofs.Common.{◌≡◌, refl, ap, ◌∙◌, Bool, true, false, ◌&&◌, ◌==◌, List, [], ◌∷◌, ◌≤◌, length, leb, leb-true, le-leb, arith}
use Rattle.std.specs.Bool.{Decides}
use Rattle.std.proofs.Math.Bool.{and_assoc}
use Rattle.place_names.specs.declared.selector.Sel.{Sel}
use Rattle.place_names.specs.Names.{Name, agrees, agree_along, agrees_whole, overlaps, leads_to}

-- a list agrees to its end with another where it agrees with it and isn't longer
whole : (n m : List Sel) (b : Bool) → Decides b (length n ≤ length m) → (agree_along n m && b) ≡ agrees_whole n m
whole [] m b d = d.1 (omega arith)
whole (s ∷ n) [] true d = (let no = d.0 refl in absurd (omega arith))
whole (s ∷ n) [] false d = refl
whole (s ∷ n) (t ∷ m) b d =
    and_assoc (agrees s t) (agree_along n m) b
    ∙ ap (λ c. agrees s t && c) (whole n m b (λ e. (let le = d.0 e in omega arith), λ le. d.1 (omega arith)))

pub leads_to-overlaps : (n m : Name) → (overlaps n m && leb (length n.sels) (length m.sels)) ≡ leads_to n m
leads_to-overlaps n m =
    let decides : Decides (leb (length n.sels) (length m.sels)) (length n.sels ≤ length m.sels) =
    (λ e. leb-true (length n.sels) (length m.sels) e, λ le. le-leb (length n.sels) (length m.sels) le) in
    and_assoc (n.root == m.root) (agree_along n.sels m.sels) (leb (length n.sels) (length m.sels))
    ∙ ap (λ b. (n.root == m.root) && b) (whole n.sels m.sels (leb (length n.sels) (length m.sels)) decides)
