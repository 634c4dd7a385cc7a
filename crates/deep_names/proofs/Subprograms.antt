-- The bodies of a program, one after another.
use Rattle.std.proofs.Common.{◌≡◌, ◌≤◌, ◌<◌, ℕ, zero, suc, ◌+◌, List, [], ◌∷◌, map, length, drop, get_or, refl, sym, ap, ◌∙◌, subst, arith, Option, None}
use Rattle.spark_base.specs.declared.position.Pos.{Pos}
use Rattle.typed_tree.specs.Trees.{TypedCode}
use Rattle.typed_tree.specs.Nodes.{TypedNodes, typed_code_at}
use Rattle.typed_tree.specs.Programs.{TypedSub, TypedProgram}
use Rattle.flow_paths.specs.Objects.{Typing, Signature}
use Rattle.flow_paths.specs.Laid.{signature, typing_of, flow_program}
use Rattle.flow_paths.specs.Limits.{deep_name}
use Rattle.deep_names.specs.Bodies.{IsProgram}
use Rattle.deep_names.specs.Found.{earlier_of}
use Rattle.deep_names.specs.Shallow.{IsShallow}
use Rattle.deep_names.specs.Statements.{code_deep}
use Rattle.deep_names.specs.Programs.{subs_deep, bodies_deep}
use Rattle.deep_names.proofs.Earlier.{earlier_none, earlier_group}
use Rattle.deep_names.proofs.ProgramNames.{program_found}

-- ---- one body after another

here : {A : Type 0} (xs : List A) (i : ℕ) (x : A) → i < length xs → ((d : A) → x ≡ get_or xs i d) → drop i xs ≡ x ∷ drop (i + 1) xs
here [] i x l is = absurd (omega (arith, l))
here (y ∷ xs) zero x l is = ap (λ z. z ∷ xs) (sym (is y))
here (y ∷ xs) (suc i) x l is = here xs i x (omega (arith, l)) is ∙ ap (λ n. x ∷ drop n (y ∷ xs)) (let e : suc (i + 1) ≡ suc i + 1 = omega arith in e)

past : {A : Type 0} (xs : List A) (i : ℕ) → length xs ≤ i → drop i xs ≡ []
past [] zero le = refl
past [] (suc i) le = refl
past (x ∷ xs) zero le = absurd (omega (arith, le))
past (x ∷ xs) (suc i) le = past xs i (omega (arith, le))

any_default : (xs : List ℕ) (i d e : ℕ) → i < length xs → get_or xs i d ≡ get_or xs i e
any_default [] i d e l = absurd (omega (arith, l))
any_default (x ∷ xs) zero d e l = refl
any_default (x ∷ xs) (suc i) d e l = any_default xs i d e (omega (arith, l))

pub body_step : (s : Typing) (code : ℕ → TypedCode) (subs : List Signature) (bodies : List ℕ) (i : ℕ) (sub : Signature) (given : Option ℕ) (found own made whole : Option Pos)
    → i < length subs → ((d : Signature) → sub ≡ get_or subs i d) → i < length bodies
    → given ≡ sub.result → own ≡ code_deep s given (code (get_or bodies i 0)) → made ≡ earlier_of found own
    → earlier_of found (bodies_deep s code (drop i subs) (drop i bodies)) ≡ whole
    → earlier_of made (bodies_deep s code (drop (i + 1) subs) (drop (i + 1) bodies)) ≡ whole
body_step s code subs bodies i sub given found own made whole l is m gives deep step all =
    let b : ℕ = get_or bodies i 0 in
    let later : Option Pos = bodies_deep s code (drop (i + 1) subs) (drop (i + 1) bodies) in
    let first : drop i subs ≡ sub ∷ drop (i + 1) subs = here subs i sub l is in
    let second : drop i bodies ≡ b ∷ drop (i + 1) bodies = here bodies i b m (λ d. any_default bodies i 0 d m) in
    ap (λ x. earlier_of x later) (step ∙ ap (earlier_of found) (deep ∙ ap (λ r. code_deep s r (code b)) gives))
    ∙ earlier_group found (code_deep s sub.result (code b)) later
    ∙ (λ j. earlier_of found (bodies_deep s code (sym first j) (sym second j)))
    ∙ all

no_body : (s : Typing) (code : ℕ → TypedCode) (subs : List Signature) → bodies_deep s code subs [] ≡ None
no_body s code [] = refl
no_body s code (sub ∷ subs) = refl

-- Where no subprogram is left, and where no body is left.
pub no_subs_left : (s : Typing) (code : ℕ → TypedCode) (subs : List Signature) (bodies : List ℕ) (i : ℕ) (found whole : Option Pos)
    → length subs ≤ i → earlier_of found (bodies_deep s code (drop i subs) (drop i bodies)) ≡ whole → found ≡ whole
no_subs_left s code subs bodies i found whole le all =
    sym (earlier_none found)
    ∙ ap (earlier_of found) (sym (ap (λ xs. bodies_deep s code xs (drop i bodies)) (past subs i le)))
    ∙ all

pub no_bodies_left : (s : Typing) (code : ℕ → TypedCode) (subs : List Signature) (bodies : List ℕ) (i : ℕ) (found whole : Option Pos)
    → length bodies ≤ i → earlier_of found (bodies_deep s code (drop i subs) (drop i bodies)) ≡ whole → found ≡ whole
no_bodies_left s code subs bodies i found whole le all =
    sym (earlier_none found)
    ∙ ap (earlier_of found) (sym (ap (bodies_deep s code (drop i subs)) (past bodies i le) ∙ no_body s code (drop i subs)))
    ∙ all

-- ---- all of them

same_bodies : (s : Typing) (code : ℕ → TypedCode) (subs : List TypedSub) (bodies : List ℕ)
    → map (λ (sub : TypedSub). sub.body) subs ≡ map code bodies → bodies_deep s code (map signature subs) bodies ≡ subs_deep s subs
same_bodies s code [] [] is = refl
same_bodies s code [] (b ∷ bodies) is = cc
same_bodies s code (sub ∷ subs) [] is = cc
same_bodies s code (sub ∷ subs) (b ∷ bodies) is =
    let one : code b ≡ sub.body = ap (head sub.body) (sym is) in
    let rest : map (λ (x : TypedSub). x.body) subs ≡ map code bodies = ap (drop 1) is in
    λ j. earlier_of (code_deep s sub.result (one j)) (same_bodies s code subs bodies rest j)
  where
    head : TypedCode → List TypedCode → TypedCode
    head d [] = d
    head d (x ∷ xs) = x

pub program_bodies : (rows : TypedNodes) (s : Typing) (bodies : List ℕ) (program : TypedProgram) (r : Option Pos)
    → r ≡ bodies_deep s (typed_code_at rows) s.subs bodies → IsShallow s → IsProgram rows s bodies program
    → r ≡ deep_name (flow_program s.table program)
program_bodies rows s bodies program r is shallow h =
    let t : Typing = typing_of s.table program in
    is ∙ (λ j. bodies_deep (sym h.known j) (typed_code_at rows) (sym h.known j).subs bodies)
    ∙ same_bodies t (typed_code_at rows) program.subs bodies h.code
    ∙ sym (program_found s.table program (subst IsShallow (sym h.known) shallow))
