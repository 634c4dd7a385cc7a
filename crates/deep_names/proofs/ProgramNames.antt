-- What is found in the bodies of a program is the first deep name of its points.
use Rattle.std.proofs.Common.{◌≡◌, ℕ, ◌+◌, Bool, true, false, List, [], ◌∷◌, map, length, refl, sym, ap, ◌∙◌, Option, None}
use Rattle.std.specs.Prelude.{flat_map, is_some, if◌then◌else◌}
use Rattle.spark_base.specs.declared.position.Pos.{Pos}
use Rattle.type_definitions.specs.Types.{Table}
use Rattle.typed_tree.specs.Programs.{TypedSub, TypedProgram}
use Rattle.flow_paths.specs.Instructions.{Fall}
use Rattle.flow_paths.specs.Objects.{Typing}
use Rattle.flow_paths.specs.Laid.{FlowSub, flow_program, typing_of}
use Rattle.flow_paths.specs.Limits.{NameAt, point_names, deep_name}
use Rattle.numbered_points.specs.Extents.{ended_in}
use Rattle.numbered_points.specs.Prepared.{Maker, make}
use Rattle.numbered_points.specs.Statements.{closed}
use Rattle.numbered_points.specs.Programs.{body_ways, body_size, body_numbers, end_numbers, sub_numbers, package_numbers, NumberedSub, maker, roots_in, numbered_sub, numbered_subs, numbered_package, all_numbered, program_numbers}
use Rattle.numbered_points.proofs.Program.{program_same}
use Rattle.deep_names.specs.Found.{earlier_of, deep_in}
use Rattle.deep_names.specs.Shallow.{IsShallow}
use Rattle.deep_names.specs.Statements.{code_deep}
use Rattle.deep_names.specs.Programs.{subs_deep}
use Rattle.deep_names.proofs.Earlier.{earlier_none}
use Rattle.deep_names.proofs.DeepNames.{deep_append}
use Rattle.deep_names.proofs.Acts.{points_deep, points_append, point_found}
use Rattle.deep_names.proofs.CodeNames.{laid_found, closed_found}

-- ---- one subprogram

abbrev sub_deep : Typing → TypedSub → Option Pos
sub_deep s sub = code_deep s sub.result sub.body

end_found : (g : Maker) (sub : TypedSub) (n : ℕ) → IsShallow g.frame.typing → points_deep (end_numbers g sub n) ≡ None
end_found g sub n shallow = by (is_some sub.result)
  where
    by : (b : Bool) → points_deep (if b then make g sub.end Fall [] ∷ [] else closed g sub.end (ended_in g.frame.typing sub.body) n) ≡ None
    by true = point_found g sub.end Fall []
    by false = closed_found g sub.end (ended_in g.frame.typing sub.body) n shallow

sub_found : (s : Typing) (sub : TypedSub) (roots : List ℕ) (t : ℕ) → IsShallow s
    → points_deep (sub_numbers (maker s sub true roots) sub t) ≡ sub_deep s sub
sub_found s sub roots t shallow =
    let g : Maker = maker s sub true roots in
    points_append (body_numbers g sub t (body_size s sub ∷ [])) (end_numbers g sub (body_size s sub))
    ∙ (λ j. earlier_of (laid_found g sub.body 0 t (body_ways s sub) (body_size s sub ∷ []) shallow j) (end_found g sub (body_size s sub) shallow j))
    ∙ earlier_none (sub_deep s sub)

package_found : (s : Typing) (sub : TypedSub) (roots : List ℕ) → IsShallow s
    → points_deep (package_numbers (maker s sub false roots) sub) ≡ sub_deep s sub
package_found s sub roots shallow = laid_found (maker s sub false roots) sub.body 0 0 (body_ways s sub) [] shallow

-- ---- all subprograms

abbrev names_in : List NumberedSub → List NameAt
names_in all = flat_map (λ (sub : FlowSub). flat_map point_names sub.points) (map (λ (n : NumberedSub). n.sub) all)

one_more : (n : NumberedSub) (all : List NumberedSub) (a b : Option Pos) → points_deep n.sub.points ≡ a → deep_in (names_in all) ≡ b
    → deep_in (names_in (n ∷ all)) ≡ earlier_of a b
one_more n all a b is by = deep_append (flat_map point_names n.sub.points) (names_in all) ∙ (λ j. earlier_of (is j) (by j))

later_found : (s : Typing) (t : ℕ) (subs : List TypedSub) → IsShallow s → deep_in (names_in (numbered_subs s t subs)) ≡ subs_deep s subs
later_found s t [] shallow = refl
later_found s t (sub ∷ rest) shallow =
    let n : NumberedSub = numbered_sub s t sub in
    one_more n (numbered_subs s (t + length n.types) rest) (sub_deep s sub) (subs_deep s rest)
    (sub_found s sub (roots_in s (sub_numbers (maker s sub true []) sub t)) t shallow)
    (later_found s (t + length n.types) rest shallow)

subs_found : (s : Typing) (subs : List TypedSub) → IsShallow s → deep_in (names_in (all_numbered s subs)) ≡ subs_deep s subs
subs_found s [] shallow = refl
subs_found s (sub ∷ rest) shallow =
    one_more (numbered_package s sub) (numbered_subs s (length s.objects) rest) (sub_deep s sub) (subs_deep s rest)
    (package_found s sub (roots_in s (package_numbers (maker s sub false []) sub)) shallow)
    (later_found s (length s.objects) rest shallow)

numbers_found : (table : Table) (program : TypedProgram) → IsShallow (typing_of table program)
    → deep_name (program_numbers table program) ≡ subs_deep (typing_of table program) program.subs
unfolding program_numbers
numbers_found table program shallow = subs_found (typing_of table program) program.subs shallow

pub program_found : (table : Table) (program : TypedProgram) → IsShallow (typing_of table program)
    → deep_name (flow_program table program) ≡ subs_deep (typing_of table program) program.subs
program_found table program shallow =
    ap deep_name (sym (program_same table program)) ∙ numbers_found table program shallow
