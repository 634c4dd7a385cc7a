-- The points of subprograms, by numbers.
use Rattle.std.proofs.Common.{◌≡◌, ℕ, suc, ◌+◌, Bool, true, false, List, [], ◌∷◌, ◌++◌, length, refl, sym, ap, ◌∙◌, subst, append-nil, arith}
use Rattle.std.specs.Prelude.{reverse, is_some, if◌then◌else◌}
use Rattle.typed_tree.specs.Programs.{TypedSub}
use Rattle.flow_paths.specs.Instructions.{Finish, Fall}
use Rattle.flow_paths.specs.Objects.{Typing}
use Rattle.flow_paths.specs.Points.{PointName, row_at, NamedPoint, entry, FlowPoint}
use Rattle.flow_paths.specs.Prep.{Setting}
use Rattle.flow_paths.specs.Layout.{ending, laid}
use Rattle.flow_paths.specs.Laid.{around_body, scope_at_end, procedure_end, function_end, body_points, sub_points, elaboration_points, Temporary, temporaries, numbers_from, unnumbered, number_in}
use Rattle.flow_paths.proofs.PointsDiffer.{points_differ, package_points_differ}
use Rattle.numbered_points.specs.Extents.{Extent, code_extent, ended_in}
use Rattle.numbered_points.specs.Prepared.{Maker, make}
use Rattle.numbered_points.specs.Statements.{closed}
use Rattle.numbered_points.specs.Programs.{body_size, body_numbers, sub_numbers, package_numbers}
use Rattle.numbered_points.proofs.Fillings.{Measured, measured_both, measured_row}
use Rattle.numbered_points.proofs.UsesMeasured.{last_measured}
use Rattle.numbered_points.proofs.LaidMeasured.{code_temporaries, laid_measured}
use Rattle.numbered_points.proofs.Stands.{Plan, setting_of, made, Stands, front, chain_on}
use Rattle.numbered_points.proofs.UsesNumbers.{last_made}
use Rattle.numbered_points.proofs.LaidNumbers.{laid_made}
use Rattle.numbered_points.proofs.Positions.{DifferBy}
use Rattle.numbered_points.proofs.Standing.{Gives, names_stand, gives_stand, uncounted_stand, stands_both, temporaries_are, temporaries_differ}

-- ---- the end of a body

abbrev pub end_of : Setting → TypedSub → Bool → List NamedPoint
end_of s sub b = if b then function_end sub else procedure_end s sub

end_measured : (s : Setting) (sub : TypedSub) (b : Bool)
    → Measured s.typing (end_of s sub b) (suc (if b then 0 else length (ended_in s.typing sub.body))) 0 []
end_measured s sub true = measured_row s.typing (row_at [] 0) sub.end Fall (scope_at_end sub) [] refl
end_measured s sub false =
    let finish : PointName = row_at [] (length (ending s sub.body)) in
    last_measured s.typing [] 0 sub.end sub.end (ending s sub.body) (scope_at_end sub) (finish ∷ []) finish Finish (reverse sub.formals) [] refl

abbrev last_numbers : Maker → TypedSub → Bool → ℕ → List FlowPoint
last_numbers g sub b n = if b then make g sub.end Fall [] ∷ [] else closed g sub.end (ended_in g.frame.typing sub.body) n

end_made : (l : Plan) (sub : TypedSub) (b : Bool) (n t : ℕ) → Stands l n t (end_of (setting_of l) sub b)
    → made l (end_of (setting_of l) sub b) ≡ last_numbers l.maker sub b n
end_made l sub true n t s = refl
end_made l sub false n t s =
    let xs : List ℕ = ending (setting_of l) sub.body in
    last_made l [] 0 sub.end xs (scope_at_end sub) (row_at [] (length xs)) (reverse sub.formals) n t s

-- ---- all points

-- Those that fill temporaries fill these.
abbrev pub sub_filled : Typing → TypedSub → List Temporary
sub_filled s sub = code_temporaries s sub.body (0 ∷ []) ++ []

body_measured : (s : Setting) (sub : TypedSub) (b : Bool)
    → Measured s.typing (body_points s sub (end_of s sub b))
    (body_size s.typing sub + suc (if b then 0 else length (ended_in s.typing sub.body))) ((code_extent s.typing sub.body).filled + 0) (sub_filled s.typing sub)
body_measured s sub b =
    measured_both s.typing (laid s sub.body (0 ∷ []) (around_body s sub) (entry (end_of s sub b) [])) (end_of s sub b)
    (body_size s.typing sub) (suc (if b then 0 else length (ended_in s.typing sub.body))) (code_extent s.typing sub.body).filled 0
    (code_temporaries s.typing sub.body (0 ∷ [])) []
    (laid_measured s sub.body (0 ∷ []) (around_body s sub) (entry (end_of s sub b) [])) (end_measured s sub b)

-- Which they are doesn't depend on their numbers.
sub_temporaries_are : (s : Setting) (sub : TypedSub) → temporaries s.typing (sub_points s sub) ≡ sub_filled s.typing sub
sub_temporaries_are s sub =
    temporaries_are s.typing (sub_points s sub) (sub_filled s.typing sub) (body_measured s sub (is_some sub.result)).fills

sub_places_differ : (s : Setting) (sub : TypedSub) → DifferBy (λ (t : Temporary). t.place) (sub_filled s.typing sub)
sub_places_differ s sub =
    temporaries_differ s.typing (sub_points s sub) (sub_filled s.typing sub) (body_measured s sub (is_some sub.result)).fills (points_differ s sub)

body_made : (l : Plan) (sub : TypedSub) (b : Bool) (t : ℕ) → Stands l 0 t (body_points (setting_of l) sub (end_of (setting_of l) sub b))
    → made l (body_points (setting_of l) sub (end_of (setting_of l) sub b))
    ≡ body_numbers l.maker sub t (body_size l.maker.frame.typing sub ∷ []) ++ last_numbers l.maker sub b (body_size l.maker.frame.typing sub)
body_made l sub b t s =
    let typing : Typing = l.maker.frame.typing in
    let m : ℕ = body_size typing sub in
    let x : Extent = code_extent typing sub.body in
    let end : List NamedPoint = end_of (setting_of l) sub b in
    let zero_more : 0 + m ≡ m = omega arith in
    chain_on l (laid (setting_of l) sub.body (0 ∷ []) (around_body (setting_of l) sub) (entry end [])) end 0 t m x.filled
    (suc (if b then 0 else length (ended_in typing sub.body))) 0 (code_temporaries typing sub.body (0 ∷ [])) [] []
    (λ ks. body_numbers l.maker sub t ks) (last_numbers l.maker sub b (0 + m))
    (laid_measured (setting_of l) sub.body (0 ∷ []) (around_body (setting_of l) sub) (entry end [])) (end_measured (setting_of l) sub b) s
    (λ z. laid_made l sub.body (0 ∷ []) (around_body (setting_of l) sub) (entry end []) 0 t z)
    (λ z. end_made l sub b (0 + m) (t + x.filled) z)
    ∙ (λ i. body_numbers l.maker sub t (zero_more i ∷ []) ++ last_numbers l.maker sub b (zero_more i))

-- ---- subprograms

abbrev pub all_of : Typing → TypedSub → List Temporary
all_of s sub = temporaries s (sub_points (unnumbered s) sub)

-- The extent of the body tells how many there are.
pub all_count : (s : Typing) (sub : TypedSub) → length (all_of s sub) ≡ (code_extent s sub.body).filled
all_count s sub =
    ap length (sub_temporaries_are (unnumbered s) sub) ∙ (body_measured (unnumbered s) sub (is_some sub.result)).filled
    ∙ (let e : (code_extent s sub.body).filled + 0 ≡ (code_extent s sub.body).filled = omega arith in e)

abbrev pub setting_at : Typing → ℕ → TypedSub → Setting
setting_at s t sub = record { typing = s; temporary = numbers_from t (all_of s sub) }

-- The points and the temporaries of a subprogram with the numbers that the definition gives them.
abbrev pub plan_of : Maker → ℕ → TypedSub → Plan
plan_of g t sub = record {
  maker = g;
  number = number_in (sub_points (setting_at g.frame.typing t sub) sub);
  temporary = numbers_from t (all_of g.frame.typing sub);
}

-- The temporaries are the same where they have numbers.
pub types_same : (s : Typing) (t : ℕ) (sub : TypedSub) → temporaries s (sub_points (setting_at s t sub) sub) ≡ all_of s sub
types_same s t sub = sub_temporaries_are (setting_at s t sub) sub ∙ sym (sub_temporaries_are (unnumbered s) sub)

sub_stands : (g : Maker) (t : ℕ) (sub : TypedSub) → g.counted ≡ true → Stands (plan_of g t sub) 0 t (sub_points (setting_at g.frame.typing t sub) sub)
sub_stands g t sub counted =
    let s : Typing = g.frame.typing in
    let l : Plan = plan_of g t sub in
    let points : List NamedPoint = sub_points (setting_at s t sub) sub in
    let same : all_of s sub ≡ temporaries s points = sym (types_same s t sub) in
    let differ : DifferBy (λ (u : Temporary). u.place) (all_of s sub) =
    subst (λ ts. DifferBy (λ (u : Temporary). u.place) ts) (sym (sub_temporaries_are (unnumbered s) sub)) (sub_places_differ (unnumbered s) sub) in
    let given : Gives l t points =
    subst (λ i. Gives l i points) (let e : t + 0 ≡ t = omega arith in e)
    (gives_stand l t (all_of s sub) [] points counted (λ x. refl) same differ) in
    stands_both l 0 t points (names_stand points [] points refl (points_differ (setting_at s t sub) sub)) given

pub sub_made : (g : Maker) (t : ℕ) (sub : TypedSub) → g.counted ≡ true
    → made (plan_of g t sub) (sub_points (setting_at g.frame.typing t sub) sub) ≡ sub_numbers g sub t
sub_made g t sub counted = body_made (plan_of g t sub) sub (is_some sub.result) t (sub_stands g t sub counted)

-- ---- package objects

abbrev pub package_plan : Maker → TypedSub → Plan
package_plan g sub = record {
  maker = g;
  number = number_in (elaboration_points (unnumbered g.frame.typing) sub);
  temporary = λ at. 0;
}

pub package_made : (g : Maker) (sub : TypedSub) → g.counted ≡ false
    → made (package_plan g sub) (elaboration_points (unnumbered g.frame.typing) sub) ≡ package_numbers g sub
package_made g sub counted =
    let s : Setting = unnumbered g.frame.typing in
    let l : Plan = package_plan g sub in
    let points : List NamedPoint = laid s sub.body (0 ∷ []) (around_body s sub) [] in
    let stands : Stands l 0 0 (points ++ []) =
    stands_both l 0 0 (points ++ []) (names_stand (points ++ []) [] (points ++ []) refl (package_points_differ s sub))
    (uncounted_stand l 0 (points ++ []) counted (λ x. refl)) in
    ap (made l) (append-nil points) ∙ laid_made l sub.body (0 ∷ []) (around_body s sub) [] 0 0 (front l 0 0 points [] stands)
