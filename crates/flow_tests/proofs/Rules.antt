-- Effects, rules on the text, paths, reports and excused checks of small programs.
use Rattle.std.proofs.Common.{◌≡◌, ℕ, List, refl, [], ◌∷◌, map}
use Rattle.std.specs.Prelude.{true, Bool, if◌then◌else◌, flat_map}
use Rattle.place_names.specs.declared.selector.Sel.TheVariants.{Field, Deref}
use Rattle.place_names.specs.declared.rule.Rule.TheVariants.{A1, A2}
use Rattle.place_names.specs.declared.act.Act.TheVariants.{Global}
use Rattle.place_names.specs.Names.{object}
use Rattle.flow_paths.specs.declared.report.Effects.{Effects}
use Rattle.flow_paths.specs.Points.{FlowPoint}
use Rattle.flow_paths.specs.Laid.{FlowSub, FlowProgram, flow_typing}
use Rattle.flow_paths.specs.Effects.{own_reads, own_writes, called_acts, Writes, ends, calls_on}
use Rattle.flow_paths.specs.Aliases.{alias_reports}
use Rattle.flow_paths.specs.Views.{text_report}
use Rattle.flow_paths.specs.Printing.{printed_name}
use Rattle.flow_tests.proofs.ResolvedTrees.{at}
use Rattle.flow_tests.proofs.Sources.{calls, recursion, aliases, traversal, five_steps}
use Rattle.flow_tests.proofs.Flow.{flow, laying, part, does}
use Rattle.std.specs.Prelude.{codes}

-- ---- effects

-- The package objects and Ada.Text_IO that each subprogram reads and writes by its own text.
abbrev pub only : Bool → ℕ → List ℕ
only b g = if b then g ∷ [] else []

abbrev pub own : FlowProgram → List ℕ → List (List ℕ × List ℕ)
own program gs = map (λ (sub : FlowSub).
    (flat_map (λ g. only (own_reads (flow_typing program) sub g) g) gs, flat_map (λ g. only (own_writes (flow_typing program) sub g) g) gs)) program.subs

-- Make writes G and moves H; the main procedure passes G to be changed.
own_of_calls : own (flow calls) (0 ∷ 1 ∷ 2 ∷ []) ≡ ([], []) ∷ ([], 1 ∷ 2 ∷ []) ∷ ([], 1 ∷ []) ∷ []
unfolding laying
own_of_calls = refl

own_of_recursion : own (flow recursion) (0 ∷ 1 ∷ []) ≡ ([], []) ∷ ([], 1 ∷ []) ∷ (1 ∷ [], []) ∷ []
unfolding laying
own_of_recursion = refl

own_of_five : own (flow five_steps) (0 ∷ []) ≡ ([], []) ∷ ([], 0 ∷ []) ∷ []
unfolding laying
own_of_five = refl

-- The main procedure writes G through W, which calls itself.
through_w : Writes (flow recursion) 2 1
unfolding laying
through_w = record { last = 1; chain = calls_on 2 1 1 refl (ends 1); own = refl }

-- What a call does on package objects.
of_calls : Effects
of_calls = record { read = [] ∷ [] ∷ [] ∷ []; written = [] ∷ (1 ∷ 2 ∷ []) ∷ (1 ∷ 2 ∷ []) ∷ [] }

globals_of_call : map (λ (sub : FlowSub). flat_map (λ (p : FlowPoint). called_acts (flow calls) of_calls p.pos p.instr) sub.points) (flow calls).subs
    ≡ [] ∷ [] ∷ (does 14 1 (Global 1 true) ∷ does 14 1 (Global 2 true) ∷ []) ∷ []
unfolding laying of_calls
globals_of_call = refl

-- ---- actuals

-- R and R.N may overlap, as N is a scalar that isn't changed; G is written by the callee.
aliases_of_calls : alias_reports (flow calls) of_calls ≡ text_report (at 14 10) A2 (object 1) ∷ []
unfolding laying of_calls
aliases_of_calls = refl

no_effects : Effects
no_effects = record { read = []; written = [] }

overlapping : alias_reports (flow aliases) no_effects ≡ text_report (at 13 9) A1 (part 5 (Deref ∷ Field 1 ∷ [])) ∷ []
unfolding laying no_effects
overlapping = refl

-- ---- names as they are printed

prints_package_object : printed_name (flow calls).table (flow calls).objects (object 1) ≡ codes "P.G"
unfolding laying
prints_package_object = refl

prints_parts : printed_name (flow traversal).table (flow traversal).objects (part 3 (Deref ∷ Field 1 ∷ Deref ∷ [])) ≡ codes "X.all.Next.all"
unfolding laying
prints_parts = refl

prints_state : printed_name (flow calls).table (flow calls).objects (object 0) ≡ codes "Ada.Text_IO"
unfolding laying
prints_state = refl
