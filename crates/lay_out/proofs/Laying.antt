-- The points of subprograms, laid out by tables.
use Rattle.std.proofs.Common.{◌≡◌, ◌<◌, ◌≤◌, ℕ, Bool, true, false, not, List, [], length, map, sym, ap, ◌∙◌, arith}
use Rattle.std.specs.Prelude.{nat_lt, is_some}
use Rattle.std.proofs.lemmas.List.{length-map}
use Rattle.spark_base.specs.declared.limits.TheConstants.{POINTS}
use Rattle.typed_tree.specs.Nodes.{TypedNodes, typed_code_at}
use Rattle.typed_statements.specs.declared.subs.Subprogram.{Subprogram}
use Rattle.flow_paths.specs.declared.point.Point.{Point}
use Rattle.numbered_points.specs.Prepared.{Maker}
use Rattle.numbered_points.specs.Programs.{maker, package_numbers, roots_in, sub_numbers}
use Rattle.bare_points.specs.declared.layout.Layout.{Layout}
use Rattle.bare_points.specs.Bare.{Bare, Laying, bares, dress}
use Rattle.bare_points.specs.BareSubs.{bare_package, bare_sub}
use Rattle.bare_points.specs.Layouts.{code_in, laying, made_in}
use Rattle.bare_points.specs.Spans.{ends_of}
use Rattle.bare_points.proofs.Dressed.{package_laid as package_dressed, sub_laid as sub_dressed}
use Rattle.sub_layout.specs.Subs.{package_laid, sub_in, sub_laid, ArePackagePoints, AreSubPoints}
use Rattle.lay_out.specs.declared.sub_writer.SubWriter.{SubWriter}
use Rattle.lay_out.specs.Subs.{site, IsReady}

-- A layout by the tables of a writer.
pub record IsLayoutBy (w : SubWriter) (counted : Bool) (l : Layout) : Type 0 where
  pub rows : l.sizes.rows.now ≡ w.sizes.rows.now
  pub ends : l.sizes.ends.now ≡ w.sizes.ends.now
  pub counted_is : l.counted ≡ counted

few : (n : ℕ) → true ≡ not (nat_lt 16384 n) → n ≤ POINTS
few n h = grind (arith, h)

many : (n : ℕ) → false ≡ not (nat_lt 16384 n) → POINTS < n
many n h = grind (arith, h)

module _ (w : SubWriter) (b : Subprogram) (ready : IsReady w) where
  -- What makes points of bare ones.
  abbrev made_by : Bool → List ℕ → Maker
  made_by counted roots = maker (site w) (sub_in w.acts b) counted roots

  abbrev laying_of_list : Bool → Laying
  laying_of_list counted = record { ends = ends_of w.sizes.ends.now; counted = counted }

  module _ (l : Layout) (by : IsLayoutBy w false l) where
    package_bare : bare_package (laying l) (code_in l b.body)
        ≡ bare_package (laying_of_list false) (typed_code_at w.acts.rows.now b.body)
    package_bare =
        λ i. bare_package (record { ends = ends_of (by.ends i); counted = by.counted_is i }) (typed_code_at ((by.rows ∙ ready.rows) i) b.body)

    pub package_points_are : (points : List Point) → made_in l points ≡ bare_package (laying l) (code_in l b.body)
        → ArePackagePoints w.acts b points
    package_points_are points is =
        ap (λ (rows : TypedNodes). map (dress (made_by false [])) (bares rows points)) (sym (by.rows ∙ ready.rows))
        ∙ ap (map (dress (made_by false []))) (is ∙ package_bare)
        ∙ package_dressed (made_by false []) (sub_in w.acts b) w.sizes.ends.now ready.ends

    package_count : length (bare_package (laying l) (code_in l b.body)) ≡ length (package_laid w.acts b).sub.points
    package_count =
        let g : Maker = made_by false (roots_in (site w) (package_numbers (made_by false []) (sub_in w.acts b))) in
        ap length package_bare ∙ sym (length-map (bare_package (laying_of_list false) (typed_code_at w.acts.rows.now b.body)) (dress g))
        ∙ ap length (package_dressed g (sub_in w.acts b) w.sizes.ends.now ready.ends)

    pub package_few : true ≡ not (nat_lt 16384 (length (bare_package (laying l) (code_in l b.body))))
        → length (package_laid w.acts b).sub.points ≤ POINTS
    package_few h = few (length (package_laid w.acts b).sub.points) (h ∙ ap (λ n. not (nat_lt 16384 n)) package_count)

    pub package_many : false ≡ not (nat_lt 16384 (length (bare_package (laying l) (code_in l b.body))))
        → POINTS < length (package_laid w.acts b).sub.points
    package_many h = many (length (package_laid w.acts b).sub.points) (h ∙ ap (λ n. not (nat_lt 16384 n)) package_count)

  module _ (l : Layout) (by : IsLayoutBy w true l) (t : ℕ) (function : Bool) (is_function : function ≡ is_some b.result) where
    abbrev bare_points : List Bare
    bare_points = bare_sub (laying l) (code_in l b.body) b.end function t

    sub_bare : bare_points ≡ bare_sub (laying_of_list true) (typed_code_at w.acts.rows.now b.body) b.end (is_some b.result) t
    sub_bare =
        λ i. bare_sub (record { ends = ends_of (by.ends i); counted = by.counted_is i }) (typed_code_at ((by.rows ∙ ready.rows) i) b.body)
        b.end (is_function i) t

    pub sub_points_are : (points : List Point) → made_in l points ≡ bare_points → AreSubPoints w.acts b t points
    sub_points_are points is =
        ap (λ (rows : TypedNodes). map (dress (made_by true [])) (bares rows points)) (sym (by.rows ∙ ready.rows))
        ∙ ap (map (dress (made_by true []))) (is ∙ sub_bare)
        ∙ sub_dressed (made_by true []) (sub_in w.acts b) t w.sizes.ends.now ready.ends

    sub_count : length bare_points ≡ length (sub_laid w.acts b t).sub.points
    sub_count =
        let g : Maker = made_by true (roots_in (site w) (sub_numbers (made_by true []) (sub_in w.acts b) t)) in
        ap length sub_bare
        ∙ sym (length-map (bare_sub (laying_of_list true) (typed_code_at w.acts.rows.now b.body) b.end (is_some b.result) t) (dress g))
        ∙ ap length (sub_dressed g (sub_in w.acts b) t w.sizes.ends.now ready.ends)

    pub sub_few : true ≡ not (nat_lt 16384 (length bare_points)) → length (sub_laid w.acts b t).sub.points ≤ POINTS
    sub_few h = few (length (sub_laid w.acts b t).sub.points) (h ∙ ap (λ n. not (nat_lt 16384 n)) sub_count)

    pub sub_many : false ≡ not (nat_lt 16384 (length bare_points)) → POINTS < length (sub_laid w.acts b t).sub.points
    sub_many h = many (length (sub_laid w.acts b t).sub.points) (h ∙ ap (λ n. not (nat_lt 16384 n)) sub_count)
