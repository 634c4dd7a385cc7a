-- One subprogram, whose points are dressed once.
use Rattle.std.proofs.Common.{◌≡◌, ℕ, ◌+◌, true, ◌||◌, List, [], ◌∷◌, ◌++◌, map, sum, refl, sym, ap, ◌∙◌, arith, append-nil}
use Rattle.typed_tree.specs.Nodes.{TypedNodes}
use Rattle.typed_tree.specs.Programs.{TypedSub}
use Rattle.typed_statements.specs.declared.subs.Subprogram.{Subprogram}
use Rattle.flow_paths.specs.declared.point.Point.{Point}
use Rattle.flow_paths.specs.Instructions as instruction
use Rattle.flow_paths.specs.Instructions.{Instruction}
use Rattle.flow_paths.specs.Objects.{Typing}
use Rattle.flow_paths.specs.declared.point.LaidSub.{LaidSub}
use Rattle.flow_paths.specs.Laid.{object_words, declared_within, kept_roots}
use Rattle.flow_paths.specs.Stands.{flow_sub_of}
use Rattle.place_names.specs.declared.fact.Fact.{Fact}
use Rattle.flow_paths.specs.Points.{FlowPoint}
use Rattle.numbered_points.specs.Prepared.{Maker}
use Rattle.numbered_points.specs.Programs.{NumberedSub, facts_in, filled_types, maker, roots_in, rooted, sub_numbers, sub_once, words_in}
use Rattle.numbered_points.proofs.Once.{numbered_once, package_once}
use Rattle.bare_points.specs.Bare.{Bare, bare, bares, dress}
use Rattle.flow_acts.specs.Frames.{site}
use Rattle.flow_acts.specs.declared.writer.ActWriter.{ActWriter}
use Rattle.sub_summary.specs.Gathered.{filled_of, rooted_point, words_of}
use Rattle.sub_layout.specs.Dressed.{dressed_in, has_deep_point, is_deep_point, making, points_in}
use Rattle.sub_layout.specs.Words.{words_within}
use Rattle.sub_layout.specs.Subs.{package_laid, sub_in, sub_laid, ArePackagePoints, AreSubPoints}
use Rattle.sub_layout.proofs.WordSums.{words_append}
use Rattle.sub_layout.proofs.Gathered.{filled_same, rooted_same}

-- ---- words

pub frame_is : (s : Typing) (sub : TypedSub) (types : List ℕ)
    → words_of s sub.formals [] types + words_within s sub.body ≡ words_in s sub types
frame_is s sub types =
    let without : sum (map (object_words s) (sub.formals ++ [])) ≡ sum (map (object_words s) sub.formals) =
    ap (λ (xs : List ℕ). sum (map (object_words s) xs)) (append-nil sub.formals) in
    let whole : sum (map (object_words s) (sub.formals ++ declared_within sub.body))
    ≡ sum (map (object_words s) sub.formals) + sum (map (object_words s) (declared_within sub.body)) =
    words_append s sub.formals (declared_within sub.body) in
    omega (arith, without, whole)

-- ---- names

-- The end of a call has no name that is too deep, whatever it looks at.
name_rooted : (g : Maker) (roots : List ℕ) (b : Bare) (i : Instruction)
    → is_deep_point (rooted roots (dress g (bare b.pos i b.next))) ≡ is_deep_point (dress g (bare b.pos i b.next))
name_rooted g roots b instruction.Finish = refl
name_rooted g roots b _ = refl

pub names_rooted : (g : Maker) (roots : List ℕ) (bs : List Bare)
    → has_deep_point (map (rooted roots) (map (dress g) bs)) ≡ has_deep_point (map (dress g) bs)
names_rooted g roots [] = refl
names_rooted g roots (b ∷ bs) = λ i. name_rooted g roots b b.instr i || names_rooted g roots bs i

-- ---- what code makes

-- Points with what the end of a call looks at, and what is gathered of them.
pub gathered_is : (w : ActWriter) (b : Subprogram) (types : List ℕ) (points : List Point) (made : LaidSub)
    → made.pos ≡ b.pos → made.object_words ≡ words_in (site w) (sub_in w b) types → made.formals ≡ b.formals → made.result ≡ b.result
    → made.facts ≡ facts_in (points_in w.rows.now points)
    → made.points ≡ map (rooted_point (kept_roots (site w) 0 (site w).objects made.facts)) points
    → flow_sub_of w.rows.now made ≡ (sub_once (site w) (sub_in w b) types (points_in w.rows.now points)).sub
gathered_is w b types points made pos_is words_is formals_is result_is facts_is points_is =
    let rows : TypedNodes = w.rows.now in
    let roots : List ℕ = kept_roots (site w) 0 (site w).objects made.facts in
    let all : points_in rows made.points ≡ map (rooted (roots_in (site w) (points_in rows points))) (points_in rows points) =
    ap (points_in rows) points_is ∙ rooted_same rows roots points
    ∙ ap (λ (facts : List Fact). map (rooted (kept_roots (site w) 0 (site w).objects facts)) (points_in rows points)) facts_is in
    λ i. record {
      pos = pos_is i;
      words = words_is i;
      formals = formals_is i;
      result = result_is i;
      points = all i;
      facts = facts_is i;
    }

-- ---- a subprogram

pub sub_names : (w : ActWriter) (b : Subprogram) (t : ℕ) (points : List Point) → AreSubPoints w b t points
    → has_deep_point (sub_laid w b t).sub.points ≡ has_deep_point (dressed_in w b.result points)
sub_names w b t points is =
    ap (λ (n : NumberedSub). has_deep_point n.sub.points) (numbered_once (site w) t (sub_in w b))
    ∙ ap (λ (ps : List FlowPoint). has_deep_point (map (rooted (roots_in (site w) ps)) ps)) (sym is)
    ∙ names_rooted (making w b.result) (roots_in (site w) (dressed_in w b.result points)) (bares w.rows.now points)

pub sub_facts : (w : ActWriter) (b : Subprogram) (t : ℕ) (points : List Point) → AreSubPoints w b t points
    → facts_in (dressed_in w b.result points) ≡ (sub_laid w b t).sub.facts
sub_facts w b t points is = ap facts_in is

pub sub_made : (w : ActWriter) (b : Subprogram) (t : ℕ) (bare points : List Point) (types : List ℕ) → AreSubPoints w b t bare
    → points_in w.rows.now points ≡ dressed_in w b.result bare → types ≡ filled_of (site w) points
    → sub_once (site w) (sub_in w b) types (points_in w.rows.now points) ≡ sub_laid w b t
sub_made w b t bare points types is points_are types_are =
    let made : List FlowPoint = points_in w.rows.now points in
    let same : made ≡ sub_numbers (maker (site w) (sub_in w b) true []) (sub_in w b) t = points_are ∙ is in
    ap (λ (ts : List ℕ). sub_once (site w) (sub_in w b) ts made) (types_are ∙ filled_same (site w) w.rows.now points)
    ∙ ap (λ (ps : List FlowPoint). sub_once (site w) (sub_in w b) (filled_types (site w) ps) ps) same
    ∙ sym (numbered_once (site w) t (sub_in w b))

-- ---- the package objects

pub package_names : (w : ActWriter) (b : Subprogram) (points : List Point) → ArePackagePoints w b points
    → has_deep_point (package_laid w b).sub.points ≡ has_deep_point (dressed_in w b.result points)
package_names w b points is =
    ap (λ (n : NumberedSub). has_deep_point n.sub.points) (package_once (site w) (sub_in w b))
    ∙ ap (λ (ps : List FlowPoint). has_deep_point (map (rooted (roots_in (site w) ps)) ps)) (sym is)
    ∙ names_rooted (making w b.result) (roots_in (site w) (dressed_in w b.result points)) (bares w.rows.now points)

pub package_facts : (w : ActWriter) (b : Subprogram) (points : List Point) → ArePackagePoints w b points
    → facts_in (dressed_in w b.result points) ≡ (package_laid w b).sub.facts
package_facts w b points is = ap facts_in is

pub package_made : (w : ActWriter) (b : Subprogram) (bare points : List Point) → ArePackagePoints w b bare
    → points_in w.rows.now points ≡ dressed_in w b.result bare
    → sub_once (site w) (sub_in w b) [] (points_in w.rows.now points) ≡ package_laid w b
package_made w b bare points is points_are =
    ap (λ (ps : List FlowPoint). sub_once (site w) (sub_in w b) [] ps) (points_are ∙ is) ∙ sym (package_once (site w) (sub_in w b))
