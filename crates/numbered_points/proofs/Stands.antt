-- Points whose names have the numbers from one on, and whose temporaries have those from another
-- on.
use Rattle.std.proofs.Common.{◌≡◌, ℕ, zero, suc, ◌+◌, Bool, true, false, List, [], ◌∷◌, ◌++◌, length, map, refl, ap, ◌∙◌, subst, arith, length-append, Option, Some, None}
use Rattle.std.specs.Prelude.{if◌then◌else◌}
use Rattle.std.proofs.lemmas.List.{map-append}
use Rattle.flow_paths.specs.Objects.{Typing}
use Rattle.flow_paths.specs.Points.{Place, PointName, NamedPoint, entry, FlowPoint, flow_point}
use Rattle.flow_paths.specs.Prep.{Setting}
use Rattle.flow_paths.specs.Laid.{Temporary}
use Rattle.numbered_points.specs.Prepared.{Maker, temporary, next_of}
use Rattle.numbered_points.proofs.Fillings.{fills, filling, fillings, Measured, measured_filled}

-- What points are made by, and the numbers of points and of temporaries.
pub record Plan : Type 0 where
  pub maker : Maker
  pub number : PointName → ℕ
  pub temporary : Place → ℕ

abbrev pub typing_in : Plan → Typing
typing_in l = l.maker.frame.typing

abbrev pub setting_of : Plan → Setting
setting_of l = record { typing = l.maker.frame.typing; temporary = l.temporary }

abbrev pub numbers_of : Plan → List PointName → List ℕ
numbers_of l k = map l.number k

-- The points with numbers.
abbrev pub made : Plan → List NamedPoint → List FlowPoint
made l ps = map (flow_point l.maker.frame l.number) ps

abbrev pub Filled : Plan → ℕ → Place → Option ℕ → Type 0
Filled l t at None = Unit {0}
Filled l t at (Some of) = l.temporary at ≡ temporary l.maker t

abbrev pub how_many : Option ℕ → ℕ
how_many None = 0
how_many (Some of) = 1

abbrev pub Stands : Plan → ℕ → ℕ → List NamedPoint → Type 0
Stands l n t [] = Unit {0}
Stands l n t (p ∷ ps) =
    (l.number p.name ≡ n) × Filled l t p.name.place (fills l.maker.frame.typing p.instr)
    × Stands l (n + 1) (t + how_many (fills l.maker.frame.typing p.instr)) ps

pub stands_at : (l : Plan) (n m t u : ℕ) (ps : List NamedPoint) → n ≡ m → t ≡ u → Stands l n t ps → Stands l m u ps
stands_at l n m t u ps a b s = subst (λ i. Stands l i u ps) a (subst (λ i. Stands l n i ps) b s)

pub front : (l : Plan) (n t : ℕ) (ps qs : List NamedPoint) → Stands l n t (ps ++ qs) → Stands l n t ps
front l n t [] qs s = tt
front l n t (p ∷ ps) qs s =
    (s.0, s.1, front l (n + 1) (t + how_many (fills l.maker.frame.typing p.instr)) ps qs s.2)

fillings_length : (x : PointName) (o : Option ℕ) → length (filling x o) ≡ how_many o
fillings_length x None = refl
fillings_length x (Some of) = refl

back : (l : Plan) (n t : ℕ) (ps qs : List NamedPoint) → Stands l n t (ps ++ qs)
    → Stands l (n + length ps) (t + length (fillings l.maker.frame.typing ps)) qs
back l n t [] qs s = stands_at l n (n + 0) t (t + 0) qs (omega arith) (omega arith) s
back l n t (p ∷ ps) qs s =
    let o : Option ℕ = fills l.maker.frame.typing p.instr in
    let rest : List _ = fillings l.maker.frame.typing ps in
    let count : length (filling p.name o ++ rest) ≡ how_many o + length rest =
    length-append (filling p.name o) rest ∙ ap (λ i. i + length rest) (fillings_length p.name o) in
    stands_at l (n + 1 + length ps) (n + suc (length ps)) (t + how_many o + length rest) (t + length (filling p.name o ++ rest)) qs
    (omega arith) (omega (arith, count)) (back l (n + 1) (t + how_many o) ps qs s.2)

pub behind : (l : Plan) (n t m u : ℕ) (ps qs : List NamedPoint) (ts : List Temporary)
    → Measured l.maker.frame.typing ps m u ts → Stands l n t (ps ++ qs) → Stands l (n + m) (t + u) qs
behind l n t m u ps qs ts h s =
    stands_at l (n + length ps) (n + m) (t + length (fillings l.maker.frame.typing ps)) (t + u) qs
    (ap (λ i. n + i) h.count) (ap (λ i. t + i) (measured_filled l.maker.frame.typing ps m u ts h)) (back l n t ps qs s)

-- One list of points after the other.
pub chain : (l : Plan) (ps qs : List NamedPoint) (n t m u : ℕ) (ts : List Temporary) (xs ys : List FlowPoint)
    → Measured l.maker.frame.typing ps m u ts → Stands l n t (ps ++ qs)
    → (Stands l n t ps → Stands l (n + m) (t + u) qs → made l ps ≡ xs) → (Stands l (n + m) (t + u) qs → made l qs ≡ ys)
    → made l (ps ++ qs) ≡ xs ++ ys
chain l ps qs n t m u ts xs ys h s first second =
    let later : Stands l (n + m) (t + u) qs = behind l n t m u ps qs ts h s in
    let a : made l ps ≡ xs = first (front l n t ps qs s) later in
    let b : made l qs ≡ ys = second later in
    map-append (flow_point l.maker.frame l.number) ps qs ∙ (λ i. a i ++ b i)

-- ---- where points begin

entry_with : (l : Plan) (n t m : ℕ) (ps : List NamedPoint) (k : List PointName) → length ps ≡ m → Stands l n t ps
    → numbers_of l (entry ps k) ≡ next_of m n (numbers_of l k)
entry_with l n t m [] k is s = ap (λ i. next_of i n (numbers_of l k)) is
entry_with l n t m (p ∷ ps) k is s = ap (λ i. i ∷ []) s.0 ∙ ap (λ i. next_of i n (numbers_of l k)) is

pub entry_next : (l : Plan) (n t m u : ℕ) (ps : List NamedPoint) (ts : List Temporary) (k : List PointName)
    → Measured l.maker.frame.typing ps m u ts → Stands l n t ps → numbers_of l (entry ps k) ≡ next_of m n (numbers_of l k)
entry_next l n t m u ps ts k h s = entry_with l n t m ps k h.count s

next_here : (m n : ℕ) → next_of m n ((n + m) ∷ []) ≡ n ∷ []
next_here zero n = ap (λ i. i ∷ []) (omega arith)
next_here (suc m) n = refl

-- What leads to points, and to the one after them where there are none, leads to the number there.
pub entry_here : (l : Plan) (n t m u : ℕ) (ps : List NamedPoint) (ts : List Temporary) (x : PointName)
    → Measured l.maker.frame.typing ps m u ts → Stands l n t ps → l.number x ≡ n + m → numbers_of l (entry ps (x ∷ [])) ≡ n ∷ []
entry_here l n t m u ps ts x h s is =
    entry_next l n t m u ps ts (x ∷ []) h s ∙ ap (λ i. next_of m n (i ∷ [])) is ∙ next_here m n

-- A list of points that leads to the one after it.
pub chain_on : (l : Plan) (ps qs : List NamedPoint) (n t m u i v : ℕ) (ts us : List Temporary) (k : List PointName)
    (make_first : List ℕ → List FlowPoint) (ys : List FlowPoint)
    → Measured l.maker.frame.typing ps m u ts → Measured l.maker.frame.typing qs i v us → Stands l n t (ps ++ qs)
    → (Stands l n t ps → made l ps ≡ make_first (numbers_of l (entry qs k))) → (Stands l (n + m) (t + u) qs → made l qs ≡ ys)
    → made l (ps ++ qs) ≡ make_first (next_of i (n + m) (numbers_of l k)) ++ ys
chain_on l ps qs n t m u i v ts us k make_first ys h g s first second =
    chain l ps qs n t m u ts (make_first (next_of i (n + m) (numbers_of l k))) ys h s
    (λ a b. first a ∙ ap make_first (entry_next l (n + m) (t + u) i v qs us k g b)) second

pub made_if : (l : Plan) (b : Bool) (n t : ℕ) (ps qs : List NamedPoint) (xs ys : List FlowPoint) → Stands l n t (if b then ps else qs)
    → (Stands l n t ps → made l ps ≡ xs) → (Stands l n t qs → made l qs ≡ ys) → made l (if b then ps else qs) ≡ (if b then xs else ys)
made_if l true n t ps qs xs ys s f g = f s
made_if l false n t ps qs xs ys s f g = g s
