-- The first deep names of acts, of leak checks and of points.
use Rattle.std.proofs.Common.{◌≡◌, ℕ, Bool, true, false, List, [], ◌∷◌, ◌++◌, map, length, refl, sym, ap, ◌∙◌, append-nil, Option, Some, None}
use Rattle.std.specs.Prelude.{flat_map, if◌then◌else◌}
use Rattle.std.proofs.lemmas.List.{map-append}
use Rattle.spark_base.specs.declared.position.Pos.{Pos}
use Rattle.place_names.specs.declared.selector.Sel.{Sel}
use Rattle.place_names.specs.Names.{Name, extend}
use Rattle.place_names.specs.declared.act.Act.{Act}
use Rattle.place_names.specs.declared.act.Act.TheVariants as act
use Rattle.place_names.specs.declared.act.Placed.{Placed}
use Rattle.place_names.specs.declared.fact.Fact.TheVariants.{Moved}
use Rattle.place_names.specs.Facts.{place}
use Rattle.type_definitions.specs.Types.{parts, is_owning}
use Rattle.flow_paths.specs.declared.point.LeakSpot.{LeakSpot}
use Rattle.flow_paths.specs.Instructions.{Instruction}
use Rattle.flow_paths.specs.Objects.{Typing}
use Rattle.flow_paths.specs.Names.{Written}
use Rattle.flow_paths.specs.Acts.{placed, naming, used, spot, spots_at, acts_of, leaks_of, Frame}
use Rattle.flow_paths.specs.Points.{FlowPoint}
use Rattle.flow_paths.specs.Limits.{NameAt, name_at, act_names, point_names}
use Rattle.numbered_points.specs.Prepared.{Maker, make}
use Rattle.deep_names.specs.Found.{earlier_of, deep_in, name_deep, written_deep, parts_deep, spots_deep}
use Rattle.deep_names.specs.Trees.{used_deep}
use Rattle.deep_names.proofs.DeepNames.{deep_cons, deep_append, deep_one, parts_found}

flat_append : {A : Type 0} (f : A → List NameAt) (xs ys : List A) → flat_map f (xs ++ ys) ≡ flat_map f xs ++ flat_map f ys
flat_append f [] ys = refl
flat_append f (x ∷ xs) ys = ap (λ (r : List NameAt). f x ++ r) (flat_append f xs ys) ∙ sym (three (f x) (flat_map f xs) (flat_map f ys))
  where
    three : (a b c : List NameAt) → (a ++ b) ++ c ≡ a ++ (b ++ c)
    three [] b c = refl
    three (n ∷ a) b c = ap (λ (r : List NameAt). n ∷ r) (three a b c)

-- ---- acts

abbrev pub acts_deep : Instruction → List Placed → Option Pos
acts_deep i acts = deep_in (flat_map (act_names i) acts)

pub acts_append : (i : Instruction) (xs ys : List Placed) → acts_deep i (xs ++ ys) ≡ earlier_of (acts_deep i xs) (acts_deep i ys)
acts_append i xs ys = ap deep_in (flat_append (act_names i) xs ys) ∙ deep_append (flat_map (act_names i) xs) (flat_map (act_names i) ys)

-- An act that has one name, and nothing else.
abbrev pub Plain : Instruction → (Name → Act) → Type 0
Plain i a = (p : Pos) (m : Name) → acts_deep i (placed p (a m) ∷ []) ≡ name_deep p m

pub naming_deep : (i : Instruction) (a : Name → Act) (w : Option Written) → Plain i a → acts_deep i (naming w a) ≡ written_deep w
naming_deep i a None plain = refl
naming_deep i a (Some m) plain = plain m.pos m.name

moved_places : (m : Name) (qs : List (List Sel)) → map place (map (λ q. Moved (extend m q)) qs) ≡ map (extend m) qs
moved_places m [] = refl
moved_places m (q ∷ qs) = ap (λ (r : List Name). extend m q ∷ r) (moved_places m qs)

moved_deep : (i : Instruction) (p : Pos) (m : Name) (qs : List (List Sel))
    → acts_deep i (placed p (act.Move m qs) ∷ []) ≡ earlier_of (name_deep p m) (deep_in (map (name_at p) (map (extend m) qs)))
moved_deep i p m qs =
    ap deep_in (append-nil (map (name_at p) (m ∷ map place (map (λ q. Moved (extend m q)) qs))))
    ∙ ap (λ ns. deep_in (map (name_at p) (m ∷ ns))) (moved_places m qs)
    ∙ deep_cons (name_at p m) (map (name_at p) (map (extend m) qs))

pub used_names : (i : Instruction) (s : Typing) (p : Pos) (m : Name) (t : ℕ) → acts_deep i (placed p (used s m t) ∷ []) ≡ used_deep s p m t
used_names i s p m t = by (is_owning s.table t)
  where
    by : (b : Bool) → acts_deep i (placed p (if b then act.Move m (parts s.table t) else act.Read m) ∷ [])
        ≡ (if b then earlier_of (name_deep p m) (parts_deep p (length m.sels) (parts s.table t)) else name_deep p m)
    by true = moved_deep i p m (parts s.table t) ∙ ap (earlier_of (name_deep p m)) (parts_found p m (parts s.table t))
    by false = deep_one p m

-- ---- leak checks

abbrev pub leaks_deep : List LeakSpot → Option Pos
leaks_deep leaks = deep_in (map (λ (at : LeakSpot). name_at at.pos at.name) leaks)

pub leaks_append : (xs ys : List LeakSpot) → leaks_deep (xs ++ ys) ≡ earlier_of (leaks_deep xs) (leaks_deep ys)
leaks_append xs ys =
    ap deep_in (map-append (λ (at : LeakSpot). name_at at.pos at.name) xs ys)
    ∙ deep_append (map (λ (at : LeakSpot). name_at at.pos at.name) xs) (map (λ (at : LeakSpot). name_at at.pos at.name) ys)

spot_names : (p : Pos) (m : Name) (n : ℕ) (qs : List (List Sel))
    → map (λ (at : LeakSpot). name_at at.pos at.name) (map (spot p m n) qs) ≡ map (name_at p) (map (extend m) qs)
spot_names p m n [] = refl
spot_names p m n (q ∷ qs) = ap (λ (r : List NameAt). name_at p (extend m q) ∷ r) (spot_names p m n qs)

pub spots_found : (p : Pos) (m : Name) (n : ℕ) (qs : List (List Sel)) → leaks_deep (map (spot p m n) qs) ≡ parts_deep p (length m.sels) qs
spots_found p m n qs = ap deep_in (spot_names p m n qs) ∙ parts_found p m qs

pub spots_names : (s : Typing) (w : Option Written) (n : ℕ) → leaks_deep (spots_at s w n) ≡ spots_deep s.table w
spots_names s None n = refl
spots_names s (Some m) n = spots_found m.pos m.name n (parts s.table m.of)

-- ---- points

abbrev pub points_deep : List FlowPoint → Option Pos
points_deep points = deep_in (flat_map point_names points)

pub points_append : (xs ys : List FlowPoint) → points_deep (xs ++ ys) ≡ earlier_of (points_deep xs) (points_deep ys)
points_append xs ys = ap deep_in (flat_append point_names xs ys) ∙ deep_append (flat_map point_names xs) (flat_map point_names ys)

-- What the instruction of a point has.
abbrev pub instruction_deep : Frame → Pos → Instruction → Option Pos
instruction_deep f p i = earlier_of (acts_deep i (acts_of f p i)) (leaks_deep (leaks_of f p i))

pub point_found : (g : Maker) (p : Pos) (i : Instruction) (next : List ℕ) → points_deep (make g p i next ∷ []) ≡ instruction_deep g.frame p i
point_found g p i next =
    ap deep_in (append-nil (point_names (make g p i next)))
    ∙ deep_append (flat_map (act_names i) (acts_of g.frame p i)) (map (λ (at : LeakSpot). name_at at.pos at.name) (leaks_of g.frame p i))

pub behind_found : (xs : List FlowPoint) (g : Maker) (p : Pos) (i : Instruction) (next : List ℕ)
    → points_deep (xs ++ make g p i next ∷ []) ≡ earlier_of (points_deep xs) (instruction_deep g.frame p i)
behind_found xs g p i next = points_append xs (make g p i next ∷ []) ∙ ap (earlier_of (points_deep xs)) (point_found g p i next)
