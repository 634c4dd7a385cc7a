-- Bare points of subprograms, dressed, are the points of the definitions.
use Rattle.std.proofs.Common.{◌≡◌, ℕ, true, false, List, [], map, ap, ◌∙◌}
use Rattle.std.specs.Prelude.{is_some}
use Rattle.typed_statements.specs.declared.subs.Subprogram.{Subprogram}
use Rattle.flow_paths.specs.declared.point.Point.{Point}
use Rattle.flow_paths.specs.Objects.{has_scope_end}
use Rattle.numbered_points.specs.Prepared.{Maker}
use Rattle.numbered_points.specs.Programs.{maker}
use Rattle.bare_points.specs.Bare.{bares, dress, Laying, laying_of}
use Rattle.bare_points.specs.BareSubs.{bare_package, bare_sub}
use Rattle.bare_points.proofs.Dressed as bare_layout
use Rattle.flow_acts.specs.Frames.{site}
use Rattle.flow_acts.specs.declared.writer.ActWriter.{ActWriter}
use Rattle.sub_layout.specs.Subs.{sub_in, ArePackagePoints, AreSubPoints}

-- What bare points go by, where it is told of each object whether its scope ends at a point.
laying_is : (l : Laying) (g : Maker) → ((x : ℕ) → l.ends x ≡ has_scope_end g.frame.typing x) → l.counted ≡ g.counted → l ≡ laying_of g
laying_is l g ends counted = λ i. record { ends = λ x. ends x i; counted = counted i }

-- A subprogram whose temporaries have the numbers from t on.
pub sub_dressed : (w : ActWriter) (b : Subprogram) (t : ℕ) (points : List Point) (l : Laying)
    → ((x : ℕ) → l.ends x ≡ has_scope_end (site w) x) → l.counted ≡ true
    → bares w.rows.now points ≡ bare_sub l (sub_in w b).body b.end (is_some b.result) t → AreSubPoints w b t points
sub_dressed w b t points l ends counted is =
    let g : Maker = maker (site w) (sub_in w b) true [] in
    ap (map (dress g)) (is ∙ ap (λ (k : Laying). bare_sub k (sub_in w b).body b.end (is_some b.result) t) (laying_is l g ends counted))
    ∙ bare_layout.sub_dressed g (sub_in w b) t

-- What declares the package objects.
pub package_dressed : (w : ActWriter) (b : Subprogram) (points : List Point) (l : Laying)
    → ((x : ℕ) → l.ends x ≡ has_scope_end (site w) x) → l.counted ≡ false
    → bares w.rows.now points ≡ bare_package l (sub_in w b).body → ArePackagePoints w b points
package_dressed w b points l ends counted is =
    let g : Maker = maker (site w) (sub_in w b) false [] in
    ap (map (dress g)) (is ∙ ap (λ (k : Laying). bare_package k (sub_in w b).body) (laying_is l g ends counted))
    ∙ bare_layout.package_dressed g (sub_in w b)
