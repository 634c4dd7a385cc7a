-- All points of a subprogram stand from 0 on, and their temporaries from the first one's number on.
use Rattle.std.proofs.Common.{◌≡◌, ℕ, ◌+◌, Bool, true, false, List, [], ◌∷◌, ◌++◌, length, map, refl, sym, ap, ◌∙◌, subst, append_assoc, length-append, arith, Option, Some, None}
use Rattle.std.specs.Prelude.{if◌then◌else◌}
use Rattle.std.specs.List.{AllByRecursion}
use Rattle.std.proofs.lemmas.List.{map-append}
use Rattle.flow_paths.specs.Instructions.{Instruction, Call, Evaluate}
use Rattle.flow_paths.specs.Objects.{Typing}
use Rattle.flow_paths.specs.Points.{Place, PointName, same_place, same_point, NamedPoint}
use Rattle.flow_paths.specs.Scopes.{Differ}
use Rattle.flow_paths.specs.Laid.{Temporary, filled, temporaries, numbers_from, number_in}
use Rattle.numbered_points.proofs.Fillings.{fills, Filling, filling, fillings, at_first, temporary_at}
use Rattle.numbered_points.proofs.Stands.{Plan, Filled, how_many, Stands}
use Rattle.numbered_points.proofs.Positions.{place_decides, point_decides, DifferBy, position_by}

-- ---- names

abbrev pub Named : (PointName → ℕ) → ℕ → List NamedPoint → Type 0
Named number n [] = Unit {0}
Named number n (p ∷ ps) = (number p.name ≡ n) × Named number (n + 1) ps

differ_by : (ps : List NamedPoint) → Differ ps → DifferBy (λ (p : NamedPoint). p.name) ps
differ_by [] d = tt
differ_by (p ∷ ps) d = (d.0, differ_by ps d.1)

pub names_stand : (points before ps : List NamedPoint) → points ≡ before ++ ps → Differ points → Named (number_in points) (length before) ps
names_stand points before [] is d = tt
names_stand points before (p ∷ ps) is d =
    let here : number_in points p.name ≡ length before =
    ap (λ zs. number_in zs p.name) is
    ∙ position_by (λ (q : NamedPoint). q.name) same_point point_decides before p ps (differ_by (before ++ p ∷ ps) (subst (λ zs. Differ zs) is d)) in
    let later : Named (number_in points) (length (before ++ p ∷ [])) ps =
    names_stand points (before ++ p ∷ []) ps (is ∙ sym (append_assoc before (p ∷ []) ps)) d in
    (here, subst (λ n. Named (number_in points) n ps) (length-append before (p ∷ [])) later)

-- ---- temporaries

abbrev pub Gives : Plan → ℕ → List NamedPoint → Type 0
Gives l t [] = Unit {0}
Gives l t (p ∷ ps) =
    Filled l t p.name.place (fills l.maker.frame.typing p.instr) × Gives l (t + how_many (fills l.maker.frame.typing p.instr)) ps

abbrev pub waits : Place → Option ℕ → List Temporary
waits at None = []
waits at (Some of) = temporary_at at of ∷ []

pub filled_waits : (s : Typing) (at : Place) (i : Instruction) → filled s at i ≡ waits at (fills s i)
filled_waits s at (Call sub actuals (Some t)) = refl
filled_waits s at (Call sub actuals None) = refl
filled_waits s at (Evaluate t e (Some op)) = refl
filled_waits s at (Evaluate t e None) = refl
filled_waits s at _ = refl

if_true : (b : Bool) (n : ℕ) → b ≡ true → n ≡ (if b then n else 0)
if_true true n is = refl
if_true false n is = cc

-- The temporaries are numbered as they stand in a list.
gives_one : (l : Plan) (n : ℕ) (all before rest : List Temporary) (at : Place) (o : Option ℕ) → l.maker.counted ≡ true
    → ((x : Place) → l.temporary x ≡ numbers_from n all x)
    → all ≡ before ++ (waits at o ++ rest) → DifferBy (λ (t : Temporary). t.place) all → Filled l (n + length before) at o
gives_one l n all before rest at None counted by is d = tt
gives_one l n all before rest at (Some of) counted by is d =
    by at ∙ ap (λ zs. numbers_from n zs at) is
    ∙ ap (λ i. n + i)
    (position_by (λ (t : Temporary). t.place) same_place place_decides before (temporary_at at of) rest
    (subst (λ zs. DifferBy (λ (t : Temporary). t.place) zs) is d))
    ∙ if_true l.maker.counted (n + length before) counted

waits_length : (at : Place) (o : Option ℕ) → length (waits at o) ≡ how_many o
waits_length at None = refl
waits_length at (Some of) = refl

pub gives_stand : (l : Plan) (n : ℕ) (all before : List Temporary) (ps : List NamedPoint) → l.maker.counted ≡ true
    → ((x : Place) → l.temporary x ≡ numbers_from n all x)
    → all ≡ before ++ temporaries l.maker.frame.typing ps → DifferBy (λ (t : Temporary). t.place) all → Gives l (n + length before) ps
gives_stand l n all before [] counted by is d = tt
gives_stand l n all before (p ∷ ps) counted by is d =
    let s : Typing = l.maker.frame.typing in
    let o : Option ℕ = fills s p.instr in
    let split : all ≡ before ++ (waits p.name.place o ++ temporaries s ps) =
    is ∙ ap (λ zs. before ++ (zs ++ temporaries s ps)) (filled_waits s p.name.place p.instr) in
    let later : Gives l (n + length (before ++ waits p.name.place o)) ps =
    gives_stand l n all (before ++ waits p.name.place o) ps counted by (split ∙ sym (append_assoc before (waits p.name.place o) (temporaries s ps))) d in
    let count : length (before ++ waits p.name.place o) ≡ length before + how_many o =
    length-append before (waits p.name.place o) ∙ ap (λ i. length before + i) (waits_length p.name.place o) in (
      gives_one l n all before (temporaries s ps) p.name.place o counted by split d,
      subst (λ i. Gives l i ps) (let e : n + length (before ++ waits p.name.place o) ≡ n + length before + how_many o = omega (arith, count) in e) later,
    )

-- Temporaries without numbers.
uncounted_one : (l : Plan) (t : ℕ) (at : Place) (o : Option ℕ) → l.maker.counted ≡ false → ((x : Place) → l.temporary x ≡ 0) → Filled l t at o
uncounted_one l t at None is by = tt
uncounted_one l t at (Some of) is by = by at ∙ sym (ap (λ b. if b then t else 0) is)

pub uncounted_stand : (l : Plan) (t : ℕ) (ps : List NamedPoint) → l.maker.counted ≡ false → ((x : Place) → l.temporary x ≡ 0) → Gives l t ps
uncounted_stand l t [] is by = tt
uncounted_stand l t (p ∷ ps) is by = (
  uncounted_one l t p.name.place (fills l.maker.frame.typing p.instr) is by,
  uncounted_stand l (t + how_many (fills l.maker.frame.typing p.instr)) ps is by,
)

pub stands_both : (l : Plan) (n t : ℕ) (ps : List NamedPoint) → Named l.number n ps → Gives l t ps → Stands l n t ps
stands_both l n t [] a b = tt
stands_both l n t (p ∷ ps) a b = (a.0, b.0, stands_both l (n + 1) (t + how_many (fills l.maker.frame.typing p.instr)) ps a.1 b.1)

-- ---- which temporaries there are

-- A filling as a temporary.
abbrev pub unfilled : Filling → Temporary
unfilled f = temporary_at f.name.place f.of

unfilled_filling : (x : PointName) (o : Option ℕ) → map unfilled (filling x o) ≡ waits x.place o
unfilled_filling x None = refl
unfilled_filling x (Some of) = refl

temporaries_fill : (s : Typing) (ps : List NamedPoint) → temporaries s ps ≡ map unfilled (fillings s ps)
temporaries_fill s [] = refl
temporaries_fill s (p ∷ ps) =
    let first : filled s p.name.place p.instr ≡ map unfilled (filling p.name (fills s p.instr)) =
    filled_waits s p.name.place p.instr ∙ sym (unfilled_filling p.name (fills s p.instr)) in
    let later : temporaries s ps ≡ map unfilled (fillings s ps) = temporaries_fill s ps in
    (λ i. first i ++ later i) ∙ sym (map-append unfilled (filling p.name (fills s p.instr)) (fillings s ps))

unfilled_first : (ts : List Temporary) → map unfilled (map at_first ts) ≡ ts
unfilled_first [] = refl
unfilled_first (t ∷ ts) = ap (λ zs. t ∷ zs) (unfilled_first ts)

pub temporaries_are : (s : Typing) (ps : List NamedPoint) (ts : List Temporary) → fillings s ps ≡ map at_first ts → temporaries s ps ≡ ts
temporaries_are s ps ts is = temporaries_fill s ps ∙ ap (map unfilled) is ∙ unfilled_first ts

-- Their places differ, as the names of points do.
filling_other : (x y : PointName) (o : Option ℕ) (fs : List Filling) → (x ≡ y → ⊥) → AllByRecursion (λ (f : Filling). x ≡ f.name → ⊥) fs
    → AllByRecursion (λ (f : Filling). x ≡ f.name → ⊥) (filling y o ++ fs)
filling_other x y None fs other h = h
filling_other x y (Some of) fs other h = (other, h)

fillings_other : (s : Typing) (x : PointName) (ps : List NamedPoint) → AllByRecursion (λ (q : NamedPoint). x ≡ q.name → ⊥) ps
    → AllByRecursion (λ (f : Filling). x ≡ f.name → ⊥) (fillings s ps)
fillings_other s x [] h = tt
fillings_other s x (p ∷ ps) h = filling_other x p.name (fills s p.instr) (fillings s ps) h.0 (fillings_other s x ps h.1)

filling_differs : (x : PointName) (o : Option ℕ) (fs : List Filling) → AllByRecursion (λ (f : Filling). x ≡ f.name → ⊥) fs
    → DifferBy (λ (f : Filling). f.name) fs → DifferBy (λ (f : Filling). f.name) (filling x o ++ fs)
filling_differs x None fs h d = d
filling_differs x (Some of) fs h d = (h, d)

fillings_differ : (s : Typing) (ps : List NamedPoint) → Differ ps → DifferBy (λ (f : Filling). f.name) (fillings s ps)
fillings_differ s [] d = tt
fillings_differ s (p ∷ ps) d =
    filling_differs p.name (fills s p.instr) (fillings s ps) (fillings_other s p.name ps d.0) (fillings_differ s ps d.1)

place_other : (t : Temporary) (ts : List Temporary) → AllByRecursion (λ (f : Filling). (at_first t).name ≡ f.name → ⊥) (map at_first ts)
    → AllByRecursion (λ (u : Temporary). t.place ≡ u.place → ⊥) ts
place_other t [] h = tt
place_other t (u ∷ ts) h = (λ is. h.0 (λ i. record { place = is i; row = 0 }), place_other t ts h.1)

places_differ : (ts : List Temporary) → DifferBy (λ (f : Filling). f.name) (map at_first ts) → DifferBy (λ (t : Temporary). t.place) ts
places_differ [] d = tt
places_differ (t ∷ ts) d = (place_other t ts d.0, places_differ ts d.1)

pub temporaries_differ : (s : Typing) (ps : List NamedPoint) (ts : List Temporary) → fillings s ps ≡ map at_first ts → Differ ps
    → DifferBy (λ (t : Temporary). t.place) ts
temporaries_differ s ps ts is d = places_differ ts (subst (λ fs. DifferBy (λ (f : Filling). f.name) fs) is (fillings_differ s ps d))
