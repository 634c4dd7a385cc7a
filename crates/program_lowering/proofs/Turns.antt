-- Starts and turns of loops, by what they are made of.
use Rattle.std.proofs.Common.{◌≡◌, refl, ℕ, ◌+◌, Bool, [], ◌∷◌, Option, Some, None, if◌then◌else◌}
use Rattle.std.specs.Prelude.{ℤ, option_and_then}
use Rattle.type_definitions.specs.Types.{shape_of, is_owning}
use Rattle.typed_tree.specs.Trees.{TypedTree}
use Rattle.flow_paths.specs.Names.{waiting}
use Rattle.flow_paths.specs.Points.{FlowPoint}
use Rattle.machine.specs.Evaluate.{AsValue}
use Rattle.run_codes.specs.Codes.{Code}
use Rattle.run_codes.specs.Codes as codes
use Rattle.run_codes.specs.Flat.{default_words}
use Rattle.run_codes.specs.Lowered.{Placed, Scalar, scalar_of, lowered, place, value}
use Rattle.run_codes.specs.Programs.{Around, typing, type_of, going, own_loop, scalar_code, started, next_turn, use_for, name_pos, stored_at, assigned}

pub start_is : (a : Around) (p : FlowPoint) (x at : ℕ) (low high : TypedTree) (s : Scalar) (l h : Code) (n : ℕ)
    → own_loop a x ≡ Some at → scalar_of (shape_of (typing a).table (type_of a x)) ≡ Some s
    → option_and_then (scalar_code s.sort) (lowered a.site 0 AsValue low) ≡ Some l
    → option_and_then (scalar_code s.sort) (lowered a.site (waiting low) AsValue high) ≡ Some h
    → going a p 0 ≡ Some (Some n)
    → started a p x low high ≡ Some (codes.Start at (at + 1) l h s.low s.high (Some n))
start_is a p x at low high s l h n own scalar first last next = rw own (rw scalar (rw first (rw last (rw next refl))))

pub turn_is : (a : Around) (p : FlowPoint) (x at : ℕ) (reversed : Bool) (s : Scalar) (w : ℤ) (n m : Option ℕ)
    → own_loop a x ≡ Some at → scalar_of (shape_of (typing a).table (type_of a x)) ≡ Some s
    → default_words (typing a).table (type_of a x) ≡ w ∷ []
    → going a p 0 ≡ Some n → going a p 1 ≡ Some m
    → next_turn a p x reversed ≡ Some (codes.Next at (at + 1) reversed w n m)
turn_is a p x at reversed s w n m own scalar word turn leave = rw own (rw scalar (rw turn (rw leave (rw word refl))))

pub assign_is : (a : Around) (p : FlowPoint) (target e : TypedTree) (q : Placed) (v : codes.Fill) (n : Option ℕ)
    → place a.site (waiting e) target ≡ Some q → value a.site 0 (use_for (typing a).table q.of) q.of e ≡ Some v → going a p 0 ≡ Some n
    → assigned a p target e ≡ Some (stored_at (typing a).table q v (if is_owning (typing a).table q.of then Some (name_pos p.pos target) else None) n)
assign_is a p target e q v n there it next = rw there (rw it (rw next refl))
