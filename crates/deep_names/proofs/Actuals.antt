-- The actuals of a call, one after another.
use Rattle.std.proofs.Common.{◌≡◌, ◌≤◌, ◌<◌, ◌+◌, ℕ, zero, suc, List, [], ◌∷◌, length, drop, get_or, refl, sym, ap, ◌∙◌, arith, Bool, false, Option, None}
use Rattle.std.specs.Prelude.{not, is_some}
use Rattle.spark_base.specs.declared.position.Pos.{Pos}
use Rattle.typed_tree.specs.Trees.{TypedTree, More}
use Rattle.flow_paths.specs.Objects.{Typing, Signature, Passing, ByValue, passings, traverses}
use Rattle.flow_paths.specs.Names.{written}
use Rattle.program_typing.specs.Ways.{ways_of}
use Rattle.program_typing.proofs.Ways.{passings_ways}
use Rattle.deep_names.specs.declared.depths.Depths.{Depths as Found}
use Rattle.deep_names.specs.Found.{earlier_of}
use Rattle.deep_names.specs.Trees.{depths_in, actual_deep, actuals_deep}
use Rattle.deep_names.specs.Turns.{value_of}
use Rattle.deep_names.proofs.Earlier.{earlier_none, earlier_group, earlier_four}

pub actual_step : (s : Typing) (found own : Option Pos) (way : Passing) (ways : List Passing) (e rest : TypedTree)
    → own ≡ earlier_of (depths_in s e).before (actual_deep s way (written e) (depths_in s e))
    → earlier_of (earlier_of found own) (earlier_of (depths_in s rest).before (actuals_deep s ways rest))
    ≡ earlier_of found (earlier_of (depths_in s (More e rest)).before (actuals_deep s (way ∷ ways) (More e rest)))
unfolding depths_in actuals_deep
actual_step s found own way ways e rest is =
    let later : Option Pos = earlier_of (depths_in s rest).before (actuals_deep s ways rest) in
    ap (λ x. earlier_of (earlier_of found x) later) is
    ∙ earlier_group found (earlier_of (depths_in s e).before (actual_deep s way (written e) (depths_in s e))) later
    ∙ ap (earlier_of found) (earlier_four (depths_in s e).before (actual_deep s way (written e) (depths_in s e)) (depths_in s rest).before (actuals_deep s ways rest))

length_ways : (s : Typing) (b procedure : Bool) (xs : List ℕ) → length (ways_of s b procedure xs) ≡ length xs
length_ways s b procedure [] = refl
length_ways s b procedure (x ∷ xs) = ap suc (length_ways s false procedure xs)

length_passings : (s : Typing) (sub : Signature) → length (passings s sub) ≡ length sub.formals
length_passings s sub =
    ap length (passings_ways s sub) ∙ length_ways s (traverses s.table sub.result) (not (is_some sub.result)) sub.formals

at_index : (ways : List Passing) (i : ℕ) → i < length ways → drop i ways ≡ get_or ways i ByValue ∷ drop (i + 1) ways
at_index [] i l = absurd (omega (arith, l))
at_index (w ∷ ways) zero l = refl
at_index (w ∷ ways) (suc i) l = at_index ways i (omega (arith, l)) ∙ ap (λ n. get_or ways i ByValue ∷ drop n (w ∷ ways)) (let e : suc (i + 1) ≡ suc i + 1 = omega arith in e)

past : (ways : List Passing) (i : ℕ) → length ways ≤ i → drop i ways ≡ []
past [] zero le = refl
past [] (suc i) le = refl
past (x ∷ ways) zero le = absurd (omega (arith, le))
past (x ∷ ways) (suc i) le = past ways i (omega (arith, le))

pub way_here : (s : Typing) (sub : Signature) (i : ℕ) → i < length sub.formals
    → drop i (passings s sub) ≡ get_or (passings s sub) i ByValue ∷ drop (i + 1) (passings s sub)
way_here s sub i l = at_index (passings s sub) i (omega (arith, l, length_passings s sub))

pub no_way : (s : Typing) (sub : Signature) (i : ℕ) → length sub.formals ≤ i → drop i (passings s sub) ≡ []
no_way s sub i le = past (passings s sub) i (omega (arith, le, length_passings s sub))

pub call_step : (s : Typing) (sub : Signature) (i : ℕ) (found own made whole : Option Pos) (way : Passing) (e rest here : TypedTree)
    → i < length sub.formals → way ≡ get_or (passings s sub) i ByValue → here ≡ More e rest
    → own ≡ earlier_of (depths_in s e).before (actual_deep s way (written e) (depths_in s e)) → made ≡ earlier_of found own
    → earlier_of found (earlier_of (depths_in s here).before (actuals_deep s (drop i (passings s sub)) here)) ≡ whole
    → earlier_of made (earlier_of (depths_in s rest).before (actuals_deep s (drop (i + 1) (passings s sub)) rest)) ≡ whole
call_step s sub i found own made whole way e rest here within passed node is by all =
    let ways : List Passing = drop (i + 1) (passings s sub) in
    let next : way ∷ ways ≡ drop i (passings s sub) = ap (λ w. w ∷ ways) passed ∙ sym (way_here s sub i within) in
    let back : More e rest ≡ here = sym node in
    ap (λ x. earlier_of x (earlier_of (depths_in s rest).before (actuals_deep s ways rest))) by
    ∙ actual_step s found own way ways e rest is
    ∙ (λ j. earlier_of found (earlier_of (depths_in s (back j)).before (actuals_deep s (next j) (back j))))
    ∙ all

-- Where no actual is left.
pub call_end : (s : Typing) (found r whole : Option Pos) (d : Found) (ways : List Passing) (e : TypedTree)
    → r ≡ earlier_of found d.before → d ≡ value_of (depths_in s e) → actuals_deep s ways e ≡ None
    → earlier_of found (earlier_of (depths_in s e).before (actuals_deep s ways e)) ≡ whole → r ≡ whole
call_end s found r whole d ways e is read none all =
    is ∙ ap (λ (x : Found). earlier_of found x.before) read
    ∙ ap (earlier_of found) (sym (earlier_none (depths_in s e).before) ∙ ap (earlier_of (depths_in s e).before) (sym none))
    ∙ all

no_ways : (s : Typing) (e : TypedTree) → actuals_deep s [] e ≡ None
unfolding actuals_deep
no_ways s e = refl

pub without_ways : (s : Typing) (ways : List Passing) (e : TypedTree) → ways ≡ [] → actuals_deep s ways e ≡ None
without_ways s ways e is = ap (λ w. actuals_deep s w e) is ∙ no_ways s e
