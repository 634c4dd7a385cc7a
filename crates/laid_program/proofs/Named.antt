-- Points whose names are among some, and points whose successors are.
use Rattle.std.proofs.Common.{◌≡◌, refl, sym, subst, inl, inr, Bool, true, false, List, [], ◌∷◌, ◌++◌, map, if◌then◌else◌}
use Rattle.std.specs.Prelude.{flat_map}
use Rattle.spark_base.specs.Lists.{Has}
use Rattle.flow_paths.specs.Points.{PointName, NamedPoint, entry}

abbrev pub names_of : List NamedPoint → List PointName
names_of points = map (λ (p : NamedPoint). p.name) points

abbrev pub AreIn : List PointName → List PointName → Type 0
AreIn names [] = Unit {0}
AreIn names (n ∷ ns) = Has names n × AreIn names ns

abbrev pub AreNamed : List PointName → List NamedPoint → Type 0
AreNamed names [] = Unit {0}
AreNamed names (p ∷ ps) = Has names p.name × AreNamed names ps

-- Each successor of the points is among the names.
abbrev pub Lead : List PointName → List NamedPoint → Type 0
Lead names [] = Unit {0}
Lead names (p ∷ ps) = AreIn names p.next × Lead names ps

pub in_append : (names ns ks : List PointName) → AreIn names ns → AreIn names ks → AreIn names (ns ++ ks)
in_append names [] ks a b = b
in_append names (n ∷ ns) ks a b = (a.0, in_append names ns ks a.1 b)

pub named_front : (names : List PointName) (ps qs : List NamedPoint) → AreNamed names (ps ++ qs) → AreNamed names ps
named_front names [] qs a = tt
named_front names (p ∷ ps) qs a = (a.0, named_front names ps qs a.1)

pub named_back : (names : List PointName) (ps qs : List NamedPoint) → AreNamed names (ps ++ qs) → AreNamed names qs
named_back names [] qs a = a
named_back names (p ∷ ps) qs a = named_back names ps qs a.1

pub lead_append : (names : List PointName) (ps qs : List NamedPoint) → Lead names ps → Lead names qs → Lead names (ps ++ qs)
lead_append names [] qs a b = b
lead_append names (p ∷ ps) qs a b = (a.0, lead_append names ps qs a.1 b)

pub entry_in : (names : List PointName) (ps : List NamedPoint) (k : List PointName) → AreNamed names ps → AreIn names k → AreIn names (entry ps k)
entry_in names [] k a b = b
entry_in names (p ∷ ps) k a b = (a.0, tt)

-- ---- two parts

-- a part leads to what follows it
pub two_lead : (names : List PointName) (ps qs : List NamedPoint) → (AreNamed names qs → AreNamed names ps → Lead names ps)
    → (AreNamed names qs → Lead names qs) → AreNamed names (ps ++ qs) → Lead names (ps ++ qs)
two_lead names ps qs first second named =
    let back = named_back names ps qs named in
    lead_append names ps qs (first back (named_front names ps qs named)) (second back)

-- some points lead to one after them
pub row_lead : (names : List PointName) (ps : List NamedPoint) (q : NamedPoint) → (AreIn names (q.name ∷ []) → AreNamed names ps → Lead names ps)
    → AreIn names q.next → AreNamed names (ps ++ q ∷ []) → Lead names (ps ++ q ∷ [])
row_lead names ps q first next = two_lead names ps (q ∷ []) first (λ b. (next, tt))

-- the points of an iteration of a loop lead back to the first of those before its test
pub turn_lead : (names : List PointName) (ps : List NamedPoint) (q : NamedPoint) (inner : List NamedPoint) (k : List PointName)
    → (AreIn names (q.name ∷ []) → AreNamed names ps → Lead names ps)
    → (AreIn names (entry ps (q.name ∷ [])) → AreNamed names inner → Lead names inner)
    → q.next ≡ entry inner (entry ps (q.name ∷ [])) ++ k → AreIn names k → AreNamed names ((ps ++ q ∷ []) ++ inner)
    → Lead names ((ps ++ q ∷ []) ++ inner)
turn_lead names ps q inner k first second is kk named =
    let front = named_front names (ps ++ q ∷ []) inner named in
    let back = named_back names (ps ++ q ∷ []) inner named in
    let own = named_back names ps (q ∷ []) front in
    let turn = entry_in names ps (q.name ∷ []) (named_front names ps (q ∷ []) front) own in
    let next = in_append names (entry inner (entry ps (q.name ∷ []))) k (entry_in names inner (entry ps (q.name ∷ [])) back turn) kk in
    lead_append names (ps ++ q ∷ []) inner (row_lead names ps q first (subst (AreIn names) (sym is) next) front) (second turn back)

-- ---- choices

pub chosen_lead : (names : List PointName) (b : Bool) (ps qs : List NamedPoint) → (AreNamed names ps → Lead names ps)
    → (AreNamed names qs → Lead names qs) → AreNamed names (if b then ps else qs) → Lead names (if b then ps else qs)
chosen_lead names true ps qs first second = first
chosen_lead names false ps qs first second = second

pub unless_in : (names : List PointName) (b : Bool) (k : List PointName) → AreIn names k → AreIn names (if b then [] else k)
unless_in names true k kk = tt
unless_in names false k kk = kk

-- each of some lists begins with a name, or leads on
pub each_entry_in : (names : List PointName) (all : List (List NamedPoint)) (k : List PointName) → AreIn names k
    → AreNamed names (flat_map (λ ps. ps) all) → AreIn names (flat_map (λ ps. entry ps k) all)
each_entry_in names [] k kk named = tt
each_entry_in names (ps ∷ all) k kk named =
    let rest : List NamedPoint = flat_map (λ qs. qs) all in
    in_append names (entry ps k) (flat_map (λ qs. entry qs k) all) (entry_in names ps k (named_front names ps rest named) kk)
    (each_entry_in names all k kk (named_back names ps rest named))

-- ---- all names

pub named_all : (names : List PointName) (ps : List NamedPoint) → ((n : PointName) → Has (names_of ps) n → Has names n) → AreNamed names ps
named_all names [] each = tt
named_all names (p ∷ ps) each = (each p.name (inl refl), named_all names ps (λ n h. each n (inr h)))

pub named_itself : (ps : List NamedPoint) → AreNamed (names_of ps) ps
named_itself ps = named_all (names_of ps) ps (λ n h. h)

in_has : (names ns : List PointName) (n : PointName) → AreIn names ns → Has ns n → Has names n
in_has names [] n a h = absurd h
in_has names (m ∷ ns) n a h = elim h [ inl e ↦ subst (Has names) e a.0 | inr later ↦ in_has names ns n a.1 later ]

pub lead_has : (names : List PointName) (ps : List NamedPoint) (p : NamedPoint) (n : PointName) → Lead names ps → Has ps p → Has p.next n
    → Has names n
lead_has names [] p n l h next = absurd h
lead_has names (q ∷ ps) p n l h next = elim h [
  | inl e ↦ in_has names q.next n l.0 (subst (λ (x : NamedPoint). Has x.next n) (sym e) next)
  | inr later ↦ lead_has names ps p n l.1 later next
]
