-- The sources of borrowers and observers, as edges along which roots are carried.
use Rattle.std.specs.Prelude.{◌≡◌, ℕ, ◌==◌, nat_eq, List, [], ◌∷◌, flat_map, Option, Some, None, if◌then◌else◌}
use Rattle.std.specs.Map.{lookup}
use Rattle.place_names.specs.declared.act.Act.{Act}
use Rattle.place_names.specs.declared.act.Act.TheVariants as act
use Rattle.place_names.specs.declared.act.Placed.{Placed}
use Rattle.flow_paths.specs.declared.point.Point.{Point}
use Rattle.traversal_funcs.specs.declared.lending.Lending.{Lending}

-- The source that an act gives to a holder.
abbrev pub lending_of : Act → List Lending
lending_of (act.Borrow h m) = record { source = m.root; holder = h } ∷ []
lending_of (act.Observe h m from_observer) = record { source = m.root; holder = h } ∷ []
lending_of _ = []

abbrev pub lendings_at : List Placed → List Lending
lendings_at acts = flat_map (λ (a : Placed). lending_of a.act) acts

abbrev pub lendings_of : List Point → List Lending
lendings_of points = flat_map (λ (p : Point). lendings_at p.acts) points

-- The holders that an object is a source of, in order.
abbrev pub holders_of : ℕ → List Lending → List ℕ
holders_of x [] = []
holders_of x (l ∷ rest) = if l.source == x then l.holder ∷ holders_of x rest else holders_of x rest

-- ---- the holders of each object, looked up

abbrev pub held : Option (List ℕ) → List ℕ
held None = []
held (Some hs) = hs

abbrev pub holders_in : List (ℕ × List ℕ) → ℕ → List ℕ
holders_in entries x = held (lookup (nat_eq x) entries)

abbrev pub AreHolders : List (ℕ × List ℕ) → List Lending → Type 0
AreHolders entries lendings = (x : ℕ) → holders_in entries x ≡ holders_of x lendings
