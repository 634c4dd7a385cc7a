-- The points of one subprogram, as those of the definitions.
use Rattle.std.specs.Prelude.{◌≡◌, ℕ, true, false, List, []}
use Rattle.typed_tree.specs.Programs.{TypedSub}
use Rattle.typed_statements.specs.declared.subs.Subprogram.{Subprogram}
use Rattle.typed_statements.specs.Bodies.{sub_at}
use Rattle.flow_paths.specs.declared.point.Point.{Point}
use Rattle.numbered_points.specs.Programs.{NumberedSub, maker, numbered_package, numbered_sub, package_numbers, sub_numbers}
use Rattle.flow_acts.specs.Frames.{site}
use Rattle.flow_acts.specs.declared.writer.ActWriter.{ActWriter}
use Rattle.sub_layout.specs.Dressed.{dressed_in}

abbrev pub sub_in : ActWriter → Subprogram → TypedSub
sub_in w b = sub_at w.rows.now b

-- Bare points become those of a subprogram whose temporaries have the numbers from t on.
abbrev pub AreSubPoints : ActWriter → Subprogram → ℕ → List Point → Type 0
AreSubPoints w b t points =
    dressed_in w b.result points ≡ sub_numbers (maker (site w) (sub_in w b) true []) (sub_in w b) t

-- They become those that declare the package objects.
abbrev pub ArePackagePoints : ActWriter → Subprogram → List Point → Type 0
ArePackagePoints w b points =
    dressed_in w b.result points ≡ package_numbers (maker (site w) (sub_in w b) false []) (sub_in w b)

-- Such a subprogram, and what declares the package objects.
abbrev pub sub_laid : ActWriter → Subprogram → ℕ → NumberedSub
sub_laid w b t = numbered_sub (site w) t (sub_in w b)

abbrev pub package_laid : ActWriter → Subprogram → NumberedSub
package_laid w b = numbered_package (site w) (sub_in w b)
