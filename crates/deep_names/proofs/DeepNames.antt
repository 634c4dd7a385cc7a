-- The first deep name of lists of names.
use Rattle.std.proofs.Common.{◌≡◌, Bool, true, false, ◌||◌, List, [], ◌∷◌, ◌++◌, map, filter, length, nat_lt, refl, sym, ap, ◌∙◌, Some, length-append}
use Rattle.std.specs.Prelude.{if◌then◌else◌}
use Rattle.std.specs.List.{list_any}
use Rattle.spark_base.specs.declared.position.Pos.{Pos}
use Rattle.spark_base.specs.declared.limits.TheConstants.{SELECTORS}
use Rattle.place_names.specs.declared.selector.Sel.{Sel}
use Rattle.place_names.specs.Names.{Name, extend}
use Rattle.flow_paths.specs.Limits.{NameAt, name_at, is_deep, earliest}
use Rattle.deep_names.specs.Found.{earlier_of, deep_in, found_if, name_deep, is_past, parts_deep}
use Rattle.deep_names.proofs.Earlier.{earlier_none, earlier_same, earlier_group}

-- One name before others.
pub deep_cons : (n : NameAt) (ns : List NameAt) → deep_in (n ∷ ns) ≡ earlier_of (name_deep n.pos n.name) (deep_in ns)
deep_cons n ns = by (is_deep n.name)
  where
    by : (b : Bool)
        → earliest (map (λ (m : NameAt). m.pos) (if b then n ∷ filter (λ (m : NameAt). is_deep m.name) ns else filter (λ (m : NameAt). is_deep m.name) ns))
        ≡ earlier_of (found_if b n.pos) (deep_in ns)
    by true = refl
    by false = refl

pub deep_append : (ms ns : List NameAt) → deep_in (ms ++ ns) ≡ earlier_of (deep_in ms) (deep_in ns)
deep_append [] ns = refl
deep_append (m ∷ ms) ns =
    deep_cons m (ms ++ ns) ∙ ap (earlier_of (name_deep m.pos m.name)) (deep_append ms ns)
    ∙ sym (earlier_group (name_deep m.pos m.name) (deep_in ms) (deep_in ns))
    ∙ ap (λ x. earlier_of x (deep_in ns)) (sym (deep_cons m ms))

-- ---- parts of a name

either_found : (a b : Bool) (p : Pos) → earlier_of (found_if a p) (found_if b p) ≡ found_if (a || b) p
either_found true true p = earlier_same (Some p)
either_found true false p = refl
either_found false b p = refl

pub parts_found : (p : Pos) (m : Name) (qs : List (List Sel))
    → deep_in (map (name_at p) (map (extend m) qs)) ≡ parts_deep p (length m.sels) qs
parts_found p m [] = refl
parts_found p m (q ∷ qs) =
    let long : is_deep (extend m q) ≡ is_past (length m.sels) q = ap (nat_lt SELECTORS) (length-append m.sels q) in
    deep_cons (name_at p (extend m q)) (map (name_at p) (map (extend m) qs))
    ∙ (λ i. earlier_of (found_if (long i) p) (parts_found p m qs i))
    ∙ either_found (is_past (length m.sels) q) (list_any (is_past (length m.sels)) qs) p

pub deep_one : (p : Pos) (m : Name) → deep_in (name_at p m ∷ []) ≡ name_deep p m
deep_one p m = deep_cons (name_at p m) [] ∙ earlier_none (name_deep p m)

pub deep_twice : (p : Pos) (m : Name) → deep_in (name_at p m ∷ name_at p m ∷ []) ≡ name_deep p m
deep_twice p m =
    deep_cons (name_at p m) (name_at p m ∷ []) ∙ ap (earlier_of (name_deep p m)) (deep_one p m) ∙ earlier_same (name_deep p m)
