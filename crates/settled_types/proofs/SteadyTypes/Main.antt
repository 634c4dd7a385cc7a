-- At each loop of a program the table of the second turn is like that of the first one, and so it is at last.
use Rattle.std.proofs.Common.{◌≡◌, inl, inr, ℕ, ◌<◌, ◌≤◌, true, false, List, [], ◌∷◌, refl, sym, ◌∙◌, Some, None, true≢false}
use Rattle.std.specs.Prelude.{slice_get}
use Rattle.machine.specs.spark_base.Lists.{Has}
use Rattle.machine.specs.resolved_tree.Trees.{Code, Package, PackageBody, Program}
use Rattle.machine.specs.type_definitions.declared.table.Known.{Known}
use Rattle.machine.specs.type_definitions.declared.table.Entry.TheVariants as entry
use Rattle.machine.specs.type_definitions.declared.table.Shape.TheVariants as shape
use Rattle.machine.specs.type_definitions.Types.{Table}
use Rattle.machine.specs.type_definitions.Names.{Context}
use Rattle.machine.specs.type_definitions.Gathered.{gather, in_hidden, declared_number}
use Rattle.machine.specs.type_definitions.Whole.{predefined_types, outside, gather_units, known_of}
use Rattle.settled_types.specs.Wholes.{written}
use Rattle.settled_types.specs.Orderly.{Past, at_start, within, past_after, past_units, AllOrderly, IsOrderly}
use Rattle.settled_types.specs.Stamped.{AllOpen, AreRows}
use Rattle.settled_types.proofs.Homes.{AtHome, homes}
use Rattle.settled_types.proofs.Turns.{Turn}
use Rattle.settled_types.proofs.Main.{begin, begin_rows, units_turn, end, first, begins_first, unlike_first, rows_first, second, begins_second}
use Rattle.settled_types.proofs.GatheredLaws.Nodes as nodes
use Rattle.settled_types.specs.SteadyTypes.Alike.{AreAlike}
use Rattle.settled_types.specs.SteadyTypes.Flat.{IsFlatUnit}
use Rattle.settled_types.specs.SteadyTypes.Steady.{in_package, IsSteady, AreSteady}
use Rattle.settled_types.specs.SteadyTypes.Kept.{IsKept, AreKept}
use Rattle.settled_types.proofs.SteadyTypes.Moves.{Like, put, classes_same}
use Rattle.settled_types.proofs.SteadyTypes.Walk.{Own, At, Until, Step, before, both, walk}

-- ---- a unit

module _ (final : Known) (count : ℕ) (all : List ℕ) (start : Table)
    (unlike : (d of : ℕ) → 15 ≤ d → Has all d → written start d ≡ shape.Same of → ⊥)
    (T : Table) (low : (t : ℕ) → t < 5 → slice_get T t ≡ slice_get (predefined_types false) t) where
  abbrev Here : Code → Past → Context → Type 0
  Here = At final count all start unlike T low

  abbrev Goes : Past → Context → Context → Past → Context → Context → Type 0 → Type 0
  Goes = Step final count all start unlike T low

  unit : (u : Code) (p : Past) (one two : Context) → Here u p one → IsKept T u one → IsFlatUnit u → Own p one.known.table → Like one two → two.within ≡ None
      → Goes p one two (past_after u p) (gather u one) (gather u two) (IsSteady T None u two)
  unfolding gather past_after IsKept IsSteady
  unit (Package d visible hidden) p one two node kept flat own like at =
      let n : ℕ = declared_number d in
      let a : Context = in_package d one in
      let b : Context = in_package d two in
      let pieces = nodes.package_node final count all start unlike d visible hidden p one node in
      let moves = put n entry.Package entry.Package one two refl in
      let q : Past = past_after visible (within true p) in
      let x = walk final count all start unlike T low visible (within true p) a b None pieces.first kept.0 flat.0 own
      (record { home = refl; entries = (moves.like like).entries }) at in
      let c : Context = in_hidden n (gather visible a) in
      let e : Context = in_hidden n (gather visible b) in
      let y = walk final count all start unlike T low hidden (within true q) c e (Some n) pieces.second kept.1 flat.1 x.own
      (record { home = refl; entries = x.like.entries }) refl in
      record {
        own = y.own;
        awaits = λ t is. y.awaits t (x.awaits t is);
        fixes = λ t is. y.fixes t (x.fixes t is);
        stays = λ t is. y.stays t (x.fixes t is) ∙ x.stays t is;
        seen = λ t is. y.seen t (x.awaits t is) ∙ x.seen t is;
        like = record { home = refl; entries = y.like.entries };
        within = sym at;
        alike = λ until alike.
            let last : Until final count all start unlike T low (past_after hidden (within true q)) (gather hidden c).known.table
            = record { fixed = until.fixed; own = until.own; seen = until.seen; no_name = until.no_name } in
            let middle = before final count all start unlike T low (within true q) c e (past_after hidden (within true q)) (gather hidden c) (gather hidden e)
            (IsSteady T (Some n) hidden e) y last in
            let f = x.alike (record { fixed = middle.fixed; own = middle.own; seen = middle.seen; no_name = middle.no_name }) alike in
            let g = y.alike last f.0 in
            (g.0, (f.1, g.1));
      }
  unit (PackageBody d parts) p one two node kept flat own like at =
      let n : ℕ = declared_number d in
      let a : Context = in_hidden n one in
      let b : Context = in_hidden n two in
      let x = walk final count all start unlike T low parts (within true p) a b (Some n) (nodes.package_body_node final count all start unlike d parts p one node) kept flat own
      (record { home = refl; entries = like.entries }) refl in
      record {
        own = x.own;
        awaits = x.awaits;
        fixes = λ t is. x.fixes t is;
        stays = λ t is. x.stays t is;
        seen = x.seen;
        like = record { home = refl; entries = x.like.entries };
        within = sym at;
        alike = λ until alike. x.alike (record { fixed = until.fixed; own = until.own; seen = until.seen; no_name = until.no_name }) alike;
      }
  unit u p one two node kept flat own like at = walk final count all start unlike T low u p one two None node kept flat own like at

  -- ---- units one after the other

  units : (us : List Code) (p : Past) (one two : Context) → AllOrderly count p us → AllOpen final us → AtHome p one → ((d : ℕ) → Has (past_units us p).awaited d → Has all d)
      → AreRows count start p one.known → AreKept T us one → ((u : Code) → Has us u → IsFlatUnit u)
      → Own p one.known.table → Like one two → two.within ≡ None → Goes p one two (past_units us p) (gather_units us one) (gather_units us two) (AreSteady T us two)
  units [] p one two orderly opens home within_all rows kept flat own like at = record {
    own = own;
    awaits = λ t is. is;
    fixes = λ t is. is;
    stays = λ t is. refl;
    seen = λ t is. refl;
    like = like;
    within = refl;
    alike = λ until alike. (alike, tt);
  }
  units (u ∷ rest) p one two orderly opens home within_all rows kept flat own like at =
      let q : Past = past_after u p in
      let on : Turn final count all start q (gather u one).known (past_units rest q) (gather_units rest (gather u one)).known
      = units_turn final count all start unlike rest q (gather u one) orderly.1 opens.1 (homes u p one home) in
      let node : Here u p one
      = record { orderly = orderly.0; opens = opens.0; home = home; within_all = λ d is. within_all d (on.awaits d is); rows = rows } in
      let s = unit u p one two node kept.0 (flat u (inl refl)) own like at in
      both final count all start unlike T low p one two q (gather u one) (gather u two) (past_units rest q) (gather_units rest (gather u one)) (gather_units rest (gather u two))
      (IsSteady T None u two) (AreSteady T rest (gather u two)) s
      (units rest q (gather u one) (gather u two) orderly.1 opens.1 (homes u p one home) within_all (nodes.rows_after final count all start unlike u p one node)
      kept.1 (λ v is. flat v (inr is)) s.own s.like (s.within ∙ at))

-- ---- both turns

module _ (p : Program) (are : IsOrderly p) (opens : AllOpen (known_of p) p.units)
    (flat : (u : Code) → Has p.units u → IsFlatUnit u)
    (kept : AreKept (second p are opens) p.units (outside (begin p.count (first p are opens)))) where
  -- the table after the first turn, and what is known where each turn begins
  abbrev pub after_first : Table
  after_first = second p are opens

  abbrev start_first : Context
  start_first = outside (begin p.count (first p are opens))

  abbrev pub start_second : Context
  start_second = outside (begin p.count after_first)

  abbrev All : Type 0
  All = AreAlike after_first (gather_units p.units start_second).known.table × AreSteady after_first p.units start_second

  all : All
  all =
      let s = units (known_of p) p.count (end p are opens).awaited (first p are opens) (unlike_first p are opens) after_first (begins_second p are opens).predefined
      p.units at_start start_first start_second are opens (λ is. absurd (true≢false (sym is))) (λ d is. is) (begin_rows p.count (first p are opens) (begins_first p are opens))
      kept flat (λ t is. absurd is) (record { home = refl; entries = classes_same (begin p.count after_first).entries }) refl in
      s.alike (record {
        fixed = λ t is. refl;
        own = s.own;
        seen = λ t is. refl;
        no_name = λ t of is. (rows_first p are opens).awaited t of is;
      }) (λ t. refl)

  -- At last the table is like that after the first turn.
  pub alike : AreAlike after_first (known_of p).table
  unfolding known_of
  alike = all.0

  -- And so it is at each loop.
  pub steady : AreSteady after_first p.units start_second
  steady = all.1
