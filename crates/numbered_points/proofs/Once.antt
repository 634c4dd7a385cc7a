-- A subprogram whose points were made once, and what the end of a call looks at put in afterwards.
use Rattle.std.proofs.Common.{◌≡◌, ℕ, true, false, List, [], ◌∷◌, length, map, refl, sym, ap, ◌∙◌}
use Rattle.std.proofs.lemmas.List.{length-map}
use Rattle.spark_base.specs.declared.position.Pos.{Pos}
use Rattle.typed_tree.specs.Programs.{TypedSub}
use Rattle.flow_paths.specs.Instructions.{Instruction, Finish}
use Rattle.flow_paths.specs.Objects.{Typing}
use Rattle.flow_paths.specs.Acts.{acts_of}
use Rattle.flow_paths.specs.Points.{PointName, NamedPoint, FlowPoint, flow_point}
use Rattle.flow_paths.specs.Laid.{sub_points, elaboration_points, unnumbered, number_in, frame_of}
use Rattle.numbered_points.specs.Extents.{code_extent}
use Rattle.numbered_points.specs.Programs.{acts_with, rooted, filled_types, roots_in, sub_numbers, package_numbers, maker, NumberedSub, sub_with, sub_once, numbered_sub, numbered_package}
use Rattle.numbered_points.proofs.Subprograms.{all_of, setting_at, sub_made, package_made, all_count}
use Rattle.numbered_points.proofs.Program.{sub_same}

acts_rooted : (s : Typing) (sub : TypedSub) (roots : List ℕ) (p : Pos) (i : Instruction)
    → acts_of (frame_of s sub roots) p i ≡ acts_with roots p i (acts_of (frame_of s sub []) p i)
acts_rooted s sub roots p Finish = refl
acts_rooted s sub roots p _ = refl

points_rooted : (s : Typing) (sub : TypedSub) (roots : List ℕ) (number : PointName → ℕ) (ps : List NamedPoint)
    → map (flow_point (frame_of s sub roots) number) ps ≡ map (rooted roots) (map (flow_point (frame_of s sub []) number) ps)
points_rooted s sub roots number [] = refl
points_rooted s sub roots number (p ∷ ps) =
    let first : flow_point (frame_of s sub roots) number p ≡ rooted roots (flow_point (frame_of s sub []) number p) =
    (λ i. record (flow_point (frame_of s sub []) number p) { acts = acts_rooted s sub roots p.pos p.instr i }) in
    λ i. first i ∷ points_rooted s sub roots number ps i

pub sub_rooted : (s : Typing) (t : ℕ) (sub : TypedSub) (roots : List ℕ)
    → sub_numbers (maker s sub true roots) sub t ≡ map (rooted roots) (sub_numbers (maker s sub true []) sub t)
sub_rooted s t sub roots =
    let points : List NamedPoint = sub_points (setting_at s t sub) sub in
    sym (sub_made (maker s sub true roots) t sub refl) ∙ points_rooted s sub roots (number_in points) points
    ∙ ap (map (rooted roots)) (sub_made (maker s sub true []) t sub refl)

pub package_rooted : (s : Typing) (sub : TypedSub) (roots : List ℕ)
    → package_numbers (maker s sub false roots) sub ≡ map (rooted roots) (package_numbers (maker s sub false []) sub)
package_rooted s sub roots =
    let points : List NamedPoint = elaboration_points (unnumbered s) sub in
    sym (package_made (maker s sub false roots) sub refl) ∙ points_rooted s sub roots (number_in points) points
    ∙ ap (map (rooted roots)) (package_made (maker s sub false []) sub refl)

once : (s : Typing) (sub : TypedSub) (types : List ℕ) (make_points : List ℕ → List FlowPoint)
    → ((roots : List ℕ) → make_points roots ≡ map (rooted roots) (make_points [])) → sub_with s sub types make_points ≡ sub_once s sub types (make_points [])
once s sub types make_points same =
    ap
    (λ points. record {
      types = types;
      sub = record (sub_with s sub types make_points).sub { points = points };
    })
    (same (roots_in s (make_points [])))

-- The subprogram, of the points that are made once.
pub numbered_once : (s : Typing) (t : ℕ) (sub : TypedSub)
    → numbered_sub s t sub
    ≡ sub_once s sub (filled_types s (sub_numbers (maker s sub true []) sub t)) (sub_numbers (maker s sub true []) sub t)
numbered_once s t sub =
    once s sub (filled_types s (sub_numbers (maker s sub true []) sub t)) (λ roots. sub_numbers (maker s sub true roots) sub t) (sub_rooted s t sub)

pub package_once : (s : Typing) (sub : TypedSub) → numbered_package s sub ≡ sub_once s sub [] (package_numbers (maker s sub false []) sub)
package_once s sub = once s sub [] (λ roots. package_numbers (maker s sub false roots) sub) (package_rooted s sub)

-- Its extent tells how many temporaries there are.
pub types_count : (s : Typing) (t : ℕ) (sub : TypedSub) → length (numbered_sub s t sub).types ≡ (code_extent s sub.body).filled
types_count s t sub =
    ap (λ (n : NumberedSub). length n.types) (sub_same s t sub) ∙ length-map (all_of s sub) (λ u. u.of) ∙ all_count s sub
