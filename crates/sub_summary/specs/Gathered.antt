-- The summary of the points that code has (docs/FLOW.md, "Points").
use Rattle.std.specs.Prelude.{ℕ, Bool, not, ◌<◌, ◌≡◌, List, [], ◌∷◌, ◌++◌, flat_map, map, sum, ◌+◌, length, Option, Some, None}
use Rattle.std.specs.List.{list_all}
use Rattle.place_names.specs.declared.act.Act.{Act}
use Rattle.place_names.specs.declared.act.Act.TheVariants as act
use Rattle.place_names.specs.declared.act.Placed.{Placed}
use Rattle.place_names.specs.declared.fact.Fact.{Fact}
use Rattle.place_names.specs.Facts.{place, adds}
use Rattle.type_definitions.specs.Types.{words}
use Rattle.type_definitions.specs.Entries.{boolean}
use Rattle.flow_paths.specs.declared.instr.Instr.{Instr}
use Rattle.flow_paths.specs.declared.instr.Instr.TheVariants as instr
use Rattle.flow_paths.specs.declared.point.Point.{Point}
use Rattle.flow_paths.specs.Objects.{Typing, sub_at}
use Rattle.flow_paths.specs.Laid.{facts_of, result_of, object_words}
use Rattle.flow_paths.specs.Limits.{is_deep}

abbrev pub acts_of : Point → List Act
acts_of p = map (λ (a : Placed). a.act) p.acts

-- The facts that the acts of some points can add.
abbrev pub point_facts : List Point → List Fact
point_facts points = facts_of (flat_map acts_of points)

-- No fact that they add has a name that is too deep.
abbrev pub are_shallow : List Fact → Bool
are_shallow facts = list_all (λ f. not (is_deep (place f))) facts

abbrev pub points_shallow : List Point → Bool
points_shallow points = list_all (λ (p : Point). list_all (λ a. are_shallow (adds a)) (acts_of p)) points

-- The type of the temporary that an instruction fills first.
abbrev pub filled_by : Typing → Instr → List ℕ
filled_by s (instr.Call sub actuals (Some t)) = result_of (sub_at s sub).result ∷ []
filled_by s (instr.Evaluate t e (Some op)) = boolean ∷ []
filled_by s _ = []

abbrev pub filled_of : Typing → List Point → List ℕ
filled_of s points = flat_map (λ (p : Point). filled_by s p.instr) points

-- The object that an instruction declares: that of a declaration, and the parameter of a loop.
abbrev pub declared_by : Instr → List ℕ
declared_by (instr.Declare x v) = x ∷ []
declared_by (instr.Start x reversed low high) = x ∷ []
declared_by _ = []

abbrev pub declared_of : List Point → List ℕ
declared_of points = flat_map (λ (p : Point). declared_by p.instr) points

-- The words of a frame with these formals, points and temporaries.
abbrev pub words_of : Typing → List ℕ → List Point → List ℕ → ℕ
words_of s formals points types = sum (map (object_words s) (formals ++ declared_of points)) + sum (map (words s.table) types) + 1

-- The end of a call looks at these objects.
abbrev pub rooted_acts : List ℕ → Point → Instr → List Placed
rooted_acts roots p instr.Finish = record { pos = p.pos; act = act.Return roots } ∷ []
rooted_acts roots p _ = p.acts

abbrev pub rooted_point : List ℕ → Point → Point
rooted_point roots p = record p { acts = rooted_acts roots p p.instr }
