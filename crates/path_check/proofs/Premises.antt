-- What a layout keeps is what control paths ask of a subprogram.
use Rattle.std.proofs.Common.{◌≡◌, refl, sym, ◌∙◌, subst, inl, inr, ℕ, zero, suc, ◌<◌, List, [], ◌∷◌, map, length}
use Rattle.std.proofs.lemmas.List.{length-map}
use Rattle.spark_base.specs.Lists.{Has}
use Rattle.spark_base.proofs.Lists.{Has-map, Has-map_from}
use Rattle.place_names.specs.declared.act.Act.{Act}
use Rattle.place_names.specs.declared.act.Placed.{Placed}
use Rattle.place_names.specs.Facts.{adds}
use Rattle.typed_tree.specs.Nodes.{TypedNodes}
use Rattle.flow_paths.specs.declared.point.Point.{Point}
use Rattle.flow_paths.specs.declared.point.LaidSub.{LaidSub}
use Rattle.flow_paths.specs.declared.report.Effects.{Effects}
use Rattle.flow_paths.specs.Laid.{FlowProgram}
use Rattle.flow_paths.specs.Stands.{flow_point_of, flow_sub_of}
use Rattle.flow_paths.specs.Effects.{AreEffects}
use Rattle.flow_paths.specs.Paths.{path_point, acts_at}
use Rattle.point_states.specs.PointTrees.{path_points_of, AreWithin}
use Rattle.point_states.proofs.Carried.{points_counted}
use Rattle.path_reports.specs.CalledPoints.{AreAscending, AreListed}
use Rattle.laid_program.specs.declared.laid.Laid.{Laid}
use Rattle.laid_program.specs.Programs.{program_of}
use Rattle.laid_program.proofs.Successors.{AreNumbers}
use Rattle.laid_program.proofs.FactLists.{AreAdded}
use Rattle.laid_program.proofs.Kept.{layout_numbers, layout_added}

pub ascending : (program : FlowProgram) (effects : Effects) → AreEffects program effects → AreAscending effects
ascending program effects e = record { read = e.read_order; written = e.written_order }

-- a successor of a point by number is one of a point of the list
point_of_next : (points : List Point) (p q : ℕ) → Has (path_point (path_points_of points) p).next q → (x : Point) × Has points x × Has x.next q
point_of_next [] p q h = absurd h
point_of_next (x ∷ points) zero q h = (x, inl refl, h)
point_of_next (x ∷ points) (suc p) q h = (let found = point_of_next points p q h in (found.0, inr found.1, found.2))

point_of_act : (points : List Point) (p : ℕ) (a : Act) → Has (acts_at (path_points_of points) p) a
    → (x : Point) × (b : Placed) × Has points x × Has x.acts b × (b.act ≡ a)
point_of_act [] p a h = absurd h
point_of_act (x ∷ points) zero a h =
    let found = Has-map_from (λ (b : Placed). b.act) x.acts a h in
    (x, found.0, inl refl, found.1, found.2)
point_of_act (x ∷ points) (suc p) a h =
    let found = point_of_act points p a h in
    (found.0, found.1, inr found.2, found.3, found.4)

numbers_within : (rows : TypedNodes) (sub : LaidSub) → AreNumbers (flow_sub_of rows sub) → AreWithin (path_points_of sub.points)
numbers_within rows sub numbers p q h =
    let found = point_of_next sub.points p q h in
    let within : q < length (map (flow_point_of rows) sub.points) =
    numbers (flow_point_of rows found.0) q (Has-map (flow_point_of rows) sub.points found.0 found.1) found.2 in
    subst (λ n. q < n) (length-map sub.points (flow_point_of rows) ∙ sym (points_counted sub.points)) within

added_listed : (rows : TypedNodes) (sub : LaidSub) → AreAdded (flow_sub_of rows sub) → AreListed sub.facts (path_points_of sub.points)
added_listed rows sub added p a f h new =
    let found = point_of_act sub.points p a h in
    added (flow_point_of rows found.0) found.1 f (Has-map (flow_point_of rows) sub.points found.0 found.2) found.3
    (subst (λ b. Has (adds b) f) (sym found.4) new)

-- of a subprogram of a program that is laid out
pub sub_within : (laid : Laid) (sub : LaidSub) → Has laid.subs sub → AreWithin (path_points_of sub.points)
sub_within laid sub h =
    numbers_within laid.rows sub
    (layout_numbers (program_of laid) (flow_sub_of laid.rows sub) (Has-map (flow_sub_of laid.rows) laid.subs sub h) laid.right)

pub sub_listed : (laid : Laid) (sub : LaidSub) → Has laid.subs sub → AreListed sub.facts (path_points_of sub.points)
sub_listed laid sub h =
    added_listed laid.rows sub
    (layout_added (program_of laid) (flow_sub_of laid.rows sub) (Has-map (flow_sub_of laid.rows) laid.subs sub h) laid.right)
