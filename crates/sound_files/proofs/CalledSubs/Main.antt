-- Calls at points go to subprograms with a body, where each subprogram that is declared has one.
use Rattle.std.proofs.Common.{◌≡◌, inl, inr, ℕ, zero, suc, ◌+◌, ◌<◌, Bool, true, false, List, [], ◌∷◌, map, length, get_or, nat_eq, not, cond, refl, sym, ap, subst, ◌∙◌, arith, Option, length-append, if◌then◌else◌}
use Rattle.std.specs.Prelude.{flat_map, is_some}
use Rattle.std.specs.List.{AllByRecursion, position_or_len}
use Rattle.std.proofs.lemmas.List.{length-map}
use Rattle.machine.specs.spark_base.Lists.{Has}
use Rattle.machine.specs.resolved_tree.Trees.{Code, More, SubBody, PackageBody, Program}
use Rattle.machine.specs.type_definitions.Entries.{entry_of}
use Rattle.machine.specs.type_definitions.Gathered.{declared_number, in_hidden}
use Rattle.machine.specs.type_definitions.Types.{Table}
use Rattle.machine.specs.type_definitions.Whole.{known_of}
use Rattle.machine.specs.typed_tree.Trees.{TypedTree}
use Rattle.machine.specs.typed_tree.Expressions.{Site, sub_number}
use Rattle.machine.specs.typed_tree.Statements.{scope_count}
use Rattle.machine.specs.typed_tree.Programs.{TypedSub, TypedProgram, placed, site_of, bodies_in, subs_in, over_units, typed_program}
use Rattle.machine.specs.flow_paths.Instructions.{Call}
use Rattle.machine.specs.flow_paths.Objects.{Typing}
use Rattle.machine.specs.flow_paths.Acts.{Frame}
use Rattle.machine.specs.flow_paths.Points.{PointName, NamedPoint, entry, flow_point}
use Rattle.machine.specs.flow_paths.Prep.{Setting}
use Rattle.machine.specs.flow_paths.Layout.{laid}
use Rattle.machine.specs.flow_paths.Laid.{NamedSub, around_body, procedure_end, function_end, body_points, sub_points, sub_temporaries, named_subs, all_named, flow_sub, FlowProgram, typing_of, flow_program}
use Rattle.machine.specs.States.{no_sub, sub_of}
use Rattle.machine.specs.Run.{no_point}
use Rattle.settled_types.proofs.OrderLaws.ScopeLaws.Lists.{all_both, all_if, all_one}
use Rattle.sound_files.specs.CalledSubs.Called.{PointCalls, CodeCalls, is_subprogram_entry, HaveBodies}
use Rattle.sound_files.proofs.CalledSubs.Points.{IsAsked, Asked, laid_asked, ends_asked}
use Rattle.sound_files.proofs.CalledSubs.Statements.{IsFineSub, all_subs_fine}
use Rattle.sound_files.proofs.CalledSubs.Entries.{known_declared}

-- ---- the points of all subprograms

module _ (asked : ℕ → TypedTree → Type 0) where
  body_asked : (s : Setting) (sub : TypedSub) (end : List NamedPoint) → CodeCalls asked sub.body → Asked asked end → Asked asked (body_points s sub end)
  body_asked s sub end calls ends =
      all_both (IsAsked asked) (laid s sub.body (0 ∷ []) (around_body s sub) (entry end [])) end
      (laid_asked asked s sub.body (0 ∷ []) (around_body s sub) (entry end []) calls) ends

  procedure_asked : (s : Setting) (sub : TypedSub) → Asked asked (procedure_end s sub)
  procedure_asked s sub = all_one (IsAsked asked) _ _ (ends_asked asked s [] 0 sub.end _ _ _) tt

  points_asked : (s : Setting) (sub : TypedSub) → CodeCalls asked sub.body → Asked asked (sub_points s sub)
  points_asked s sub calls =
      body_asked s sub (if is_some sub.result then function_end sub else procedure_end s sub) calls
      (all_if (IsAsked asked) (is_some sub.result) (function_end sub) (procedure_end s sub) (tt, tt) (procedure_asked s sub))

  abbrev IsAskedSub : NamedSub → Type 0
  IsAskedSub m = Asked asked m.points

  named_asked : (s : Typing) (n : ℕ) (subs : List TypedSub) → AllByRecursion (IsFineSub asked) subs → AllByRecursion IsAskedSub (named_subs s n subs)
  named_asked s n [] all = tt
  named_asked s n (sub ∷ rest) all = (points_asked _ sub all.0, named_asked s (n + length (sub_temporaries s sub)) rest all.1)

  all_asked : (s : Typing) (subs : List TypedSub) → AllByRecursion (IsFineSub asked) subs → AllByRecursion IsAskedSub (all_named s subs)
  all_asked s [] all = tt
  all_asked s (sub ∷ rest) all = (body_asked _ sub [] all.0 tt, named_asked s (length s.objects) rest all.1)

  point_at : (f : Frame) (g : PointName → ℕ) (ps : List NamedPoint) (k : ℕ) → Asked asked ps → PointCalls asked (get_or (map (flow_point f g) ps) k no_point).instr
  point_at f g [] k all = tt
  point_at f g (p ∷ ps) zero all = all.0
  point_at f g (p ∷ ps) (suc k) all = point_at f g ps k all.1

  sub_at : (s : Typing) (ms : List NamedSub) (n k : ℕ) → AllByRecursion IsAskedSub ms
      → PointCalls asked (get_or (get_or (map (flow_sub s) ms) n no_sub).points k no_point).instr
  sub_at s [] n k all = tt
  sub_at s (m ∷ ms) zero k all = point_at _ _ m.points k all.0
  sub_at s (m ∷ ms) (suc n) k all = sub_at s ms n k all.1

-- What each call in typed code is, each call at a point is.
pub points_asked_at : (asked : ℕ → TypedTree → Type 0) (table : Table) (typed : TypedProgram) → AllByRecursion (IsFineSub asked) typed.subs → (n k : ℕ)
    → PointCalls asked (get_or (sub_of (flow_program table typed) n).points k no_point).instr
unfolding flow_program
points_asked_at asked table typed all n k =
    sub_at asked (typing_of table typed) (all_named (typing_of table typed) typed.subs) n k (all_asked asked (typing_of table typed) typed.subs all)

-- ---- how many subprograms have a body

code_long : (s : Site) (n : ℕ) (u : Code) → length (subs_in s n u) ≡ length (bodies_in u)
unfolding subs_in bodies_in
code_long s n (SubBody front items stmts end) = refl
code_long s n (PackageBody d parts) = code_long (placed (in_hidden (declared_number d)) s) n parts
code_long s n (More a rest) =
    let one = length-append (subs_in s n a) (subs_in s (n + scope_count a) rest) in
    let two = length-append (bodies_in a) (bodies_in rest) in
    let x = code_long s n a in
    let y = code_long s (n + scope_count a) rest in
    omega (arith, one, two, x, y)
code_long s n u = refl

units_long : (s : Site) (n : ℕ) (us : List Code) → length (over_units (subs_in s) n us) ≡ length (flat_map bodies_in us)
units_long s n [] = refl
units_long s n (u ∷ us) =
    let one = length-append (subs_in s n u) (over_units (subs_in s) (n + scope_count u) us) in
    let two = length-append (bodies_in u) (flat_map bodies_in us) in
    let x = code_long s n u in
    let y = units_long s (n + scope_count u) us in
    omega (arith, one, two, x, y)

named_long : (s : Typing) (n : ℕ) (subs : List TypedSub) → length (named_subs s n subs) ≡ length subs
named_long s n [] = refl
named_long s n (sub ∷ rest) = ap suc (named_long s (n + length (sub_temporaries s sub)) rest)

all_long : (s : Typing) (subs : List TypedSub) → length (all_named s subs) ≡ length subs
all_long s [] = refl
all_long s (sub ∷ rest) = ap suc (named_long s (length s.objects) rest)

-- ---- numbers

place_below : (xs : List ℕ) (d : ℕ) → Has xs d → position_or_len (nat_eq d) xs < length xs
place_below [] d has = absurd has
place_below (x ∷ xs) d has = by (nat_eq d x) refl (λ later. place_below xs d later)
  where
    itself : (d x : ℕ) → nat_eq d x ≡ false → x ≡ d → ⊥
    itself d x other is = grind (arith, other, is)

    behind : Has (x ∷ xs) d → nat_eq d x ≡ false → Has xs d
    behind (inl is) other = absurd (itself d x other is)
    behind (inr later) other = later

    by : (b : Bool) → nat_eq d x ≡ b → (Has xs d → position_or_len (nat_eq d) xs < length xs) → position_or_len (nat_eq d) (x ∷ xs) < length (x ∷ xs)
    by true is more = subst (λ n. n < suc (length xs)) (sym (ap (λ b. cond (not b) (1 + position_or_len (nat_eq d) xs) 0) is)) (omega arith)
    by false is more =
        let low = more (behind has is) in
        subst (λ n. n < suc (length xs)) (sym (ap (λ b. cond (not b) (1 + position_or_len (nat_eq d) xs) 0) is)) (omega (arith, low))

-- ---- programs

module _ (p : Program) (bodies : HaveBodies p) where
  abbrev table : Table
  table = (known_of p).table

  abbrev site : Site
  site = site_of (known_of p) p.units

  abbrev typed : TypedProgram
  typed = typed_program (known_of p) p.units

  abbrev flow : FlowProgram
  flow = flow_program table typed

  -- It is the number of a declaration that is known as a subprogram.
  abbrev IsSub : ℕ → TypedTree → Type 0
  IsSub sub actuals = (d : ℕ) × (sub ≡ sub_number site d) × (is_subprogram_entry (entry_of (known_of p) d) ≡ true)

  subs_are : AllByRecursion (IsFineSub IsSub) typed.subs
  unfolding typed_program
  subs_are = all_subs_fine IsSub site (λ d is actuals. (d, refl, is)) p.units

  called : (n k : ℕ) → PointCalls IsSub (get_or (sub_of flow n).points k no_point).instr
  called n k = points_asked_at IsSub table typed subs_are n k

  typed_long : length typed.subs ≡ suc (length (flat_map bodies_in p.units))
  unfolding typed_program
  typed_long = ap suc (units_long site 1 p.units)

  long : length flow.subs ≡ suc (length (flat_map bodies_in p.units))
  unfolding flow_program
  long = length-map (all_named (typing_of table typed) typed.subs) (flow_sub (typing_of table typed)) ∙ all_long (typing_of table typed) typed.subs ∙ typed_long

  -- What a point calls is one of the subprograms, and not that of the package objects.
  pub calls_within : (n k sub : ℕ) (e : TypedTree) (result : Option ℕ) → (get_or (sub_of flow n).points k no_point).instr ≡ Call sub e result
      → (0 < sub) × (sub < length flow.subs)
  calls_within n k sub e result is = by (subst (PointCalls IsSub) is (called n k))
    where
      by : IsSub sub e → (0 < sub) × (sub < length flow.subs)
      by found =
          let low = place_below (flat_map bodies_in p.units) found.0 (bodies found.0 (known_declared p found.0 found.2)) in
          let at : sub ≡ position_or_len (nat_eq found.0) (flat_map bodies_in p.units) + 1 = found.1 in
          let many = long in
          (omega (arith, at), omega (arith, at, low, many))
