-- Each successor of a point of a subprogram is the number of one of its points.
use Rattle.std.proofs.Common.{◌≡◌, ◌⊎◌, refl, sym, ap, ◌∙◌, subst, inl, inr, ℕ, suc, ◌+◌, ◌<◌, Bool, true, false, not, ◌==◌, List, [], ◌∷◌, map, length, is_some, cond, eq-eqb, if◌then◌else◌, arith}
use Rattle.std.specs.Prelude.{reverse}
use Rattle.std.proofs.lemmas.List.{length-map}
use Rattle.spark_base.specs.Lists.{Has}
use Rattle.spark_base.proofs.Lists.{Has-map_from}
use Rattle.typed_tree.specs.Programs.{TypedSub}
use Rattle.flow_paths.specs.Instructions as instruction
use Rattle.flow_paths.specs.Objects.{Typing}
use Rattle.flow_paths.specs.Acts.{Frame}
use Rattle.flow_paths.specs.Points.{Place, PointName, row_at, same_place, same_point, NamedPoint, point, entry, FlowPoint, flow_point}
use Rattle.flow_paths.specs.Prep.{Setting}
use Rattle.flow_paths.specs.Layout.{ending, ends, laid}
use Rattle.flow_paths.specs.Laid.{around_body, scope_at_end, procedure_end, function_end, body_points, sub_points, elaboration_points, number_in, numbered, Temporary, NamedSub, FlowSub, flow_sub, frame_of, kept_roots, sub_facts, numbers_from, unnumbered, sub_temporaries, named_sub, named_subs, elaborated, all_named}
use Rattle.place_names.proofs.Names.{both_true}
use Rattle.laid_program.proofs.Named.{names_of, AreNamed, Lead, entry_in, two_lead, row_lead, chosen_lead, named_itself, lead_has}
use Rattle.laid_program.proofs.LaidLeads.{ends_lead, laid_lead}

-- ---- by name

procedure_end_leads : (names : List PointName) (s : Setting) (sub : TypedSub) → AreNamed names (procedure_end s sub) → Lead names (procedure_end s sub)
procedure_end_leads names s sub =
    let finish : PointName = row_at [] (length (ending s sub.body)) in
    row_lead names (ends [] 0 sub.end (ending s sub.body) (scope_at_end sub) (finish ∷ [])) (point finish sub.end instruction.Finish (reverse sub.formals) [])
    (λ own. ends_lead names [] 0 sub.end (ending s sub.body) (scope_at_end sub) (finish ∷ []) own) tt

body_leads : (names : List PointName) (s : Setting) (sub : TypedSub) (end : List NamedPoint) → (AreNamed names end → Lead names end)
    → AreNamed names (body_points s sub end) → Lead names (body_points s sub end)
body_leads names s sub end last =
    two_lead names (laid s sub.body (0 ∷ []) (around_body s sub) (entry end [])) end
    (λ back. laid_lead names s sub.body (0 ∷ []) (around_body s sub) (entry end []) (entry_in names end [] back tt) tt) last

sub_leads : (s : Setting) (sub : TypedSub) → Lead (names_of (sub_points s sub)) (sub_points s sub)
sub_leads s sub =
    let names : List PointName = names_of (sub_points s sub) in
    body_leads names s sub (if is_some sub.result then function_end sub else procedure_end s sub)
    (chosen_lead names (is_some sub.result) (function_end sub) (procedure_end s sub) (λ named. (tt, tt)) (procedure_end_leads names s sub))
    (named_itself (sub_points s sub))

elaboration_leads : (s : Setting) (sub : TypedSub) → Lead (names_of (elaboration_points s sub)) (elaboration_points s sub)
elaboration_leads s sub = body_leads (names_of (elaboration_points s sub)) s sub [] (λ named. tt) (named_itself (elaboration_points s sub))

-- ---- by number

same_place_itself : (at : Place) → same_place at at ≡ true
same_place_itself [] = refl
same_place_itself (i ∷ at) = both_true (i == i) (same_place at at) (eq-eqb i i refl) (same_place_itself at)

same_point_itself : (n : PointName) → same_point n n ≡ true
same_point_itself n = both_true (same_place n.place n.place) (n.row == n.row) (same_place_itself n.place) (eq-eqb n.row n.row refl)

number_step : (b : Bool) (i n : ℕ) → (b ≡ true) ⊎ (i < n) → cond (not b) (1 + i) 0 < suc n
number_step true i n h = omega arith
number_step false i n h = elim h [ inl e ↦ cc | inr less ↦ omega (arith, less) ]

number_within : (points : List NamedPoint) (n : PointName) → Has (names_of points) n → number_in points n < length points
number_within [] n h = absurd h
number_within (p ∷ points) n h =
    number_step (same_point n p.name) (number_in points n) (length points) (elim h [
      | inl e ↦ inl (ap (same_point n) e ∙ same_point_itself n)
      | inr later ↦ inr (number_within points n later)
    ])

-- ---- subprograms

-- The successors of a subprogram are numbers of its points.
abbrev pub AreNumbers : FlowSub → Type 0
AreNumbers sub = (p : FlowPoint) (q : ℕ) → Has sub.points p → Has p.next q → q < length sub.points

numbers_are : (f : Frame) (points : List NamedPoint) → Lead (names_of points) points → (p : FlowPoint) (q : ℕ) → Has (numbered f points) p
    → Has p.next q → q < length (numbered f points)
numbers_are f points leads p q h next =
    let from = Has-map_from (flow_point f (number_in points)) points p h in
    let name = Has-map_from (number_in points) from.0.next q (subst (λ (x : FlowPoint). Has x.next q) (sym from.2) next) in
    let within : number_in points name.0 < length points =
    number_within points name.0 (lead_has (names_of points) points from.0 name.0 leads from.1 name.1) in
    subst (λ n. q < n) (sym (length-map points (flow_point f (number_in points)))) (subst (λ n. n < length points) name.2 within)

named_numbers : (s : Typing) (named : NamedSub) → Lead (names_of named.points) named.points → AreNumbers (flow_sub s named)
named_numbers s named leads = numbers_are (frame_of s named.sub (kept_roots s 0 s.objects (sub_facts s named.sub named.points))) named.points leads

subs_numbers : (s : Typing) (n : ℕ) (subs : List TypedSub) (sub : FlowSub) → Has (map (flow_sub s) (named_subs s n subs)) sub → AreNumbers sub
subs_numbers s n [] sub h = absurd h
subs_numbers s n (first ∷ rest) sub h =
    let all : List Temporary = sub_temporaries s first in
    elim h [
      | inl e ↦ subst AreNumbers e (named_numbers s (named_sub s n all first) (sub_leads (record { typing = s; temporary = numbers_from n all }) first))
      | inr later ↦ subs_numbers s (n + length all) rest sub later
    ]

pub all_numbers : (s : Typing) (subs : List TypedSub) (sub : FlowSub) → Has (map (flow_sub s) (all_named s subs)) sub → AreNumbers sub
all_numbers s [] sub h = absurd h
all_numbers s (first ∷ rest) sub h = elim h [
  | inl e ↦ subst AreNumbers e (named_numbers s (elaborated s first) (elaboration_leads (unnumbered s) first))
  | inr later ↦ subs_numbers s (length s.objects) rest sub later
]
