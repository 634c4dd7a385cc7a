-- The end of an object's scope is the machine's: its leak checks, and that it has no value any more.
use Rattle.std.proofs.Common.{◌≡◌, inl, inr, ℕ, ◌+◌, true, false, Bool, List, [], ◌∷◌, length, take, drop, refl, sym, ap, subst, ◌∙◌, arith, Option, Some, None, slice_get, ℤ, pos, append-nil, if◌then◌else◌}
use Rattle.std.specs.Prelude.{◌==◌, not, flat_map}
use Rattle.spark_base.specs.declared.position.Pos.{Pos}
use Rattle.type_definitions.specs.declared.table.Shape.{Shape}
use Rattle.type_definitions.specs.declared.table.Shape.TheVariants as shape
use Rattle.type_definitions.specs.Types.{Table, shape_of}
use Rattle.flow_paths.specs.Objects.{object_at, is_package_object}
use Rattle.flow_paths.specs.Instructions.{EndScope}
use Rattle.flow_paths.specs.Laid.{flow_typing}
use Rattle.machine.specs.Words.{default, access_offsets}
use Rattle.machine.specs.Typed.{Sort, Pointer, sorts}
use Rattle.machine.specs.Memory.{OfVariable, slots_at, undeclared}
use Rattle.machine.specs.Memory as machine_memory
use Rattle.machine.specs.Evaluate.{Now, Evaluated, Done, variable_place}
use Rattle.machine.specs.Calls.{checks_at}
use Rattle.machine.specs.States.{Leak, sub_of}
use Rattle.machine.specs.Step as machine_step
use Rattle.run_codes.specs.Codes.{Does}
use Rattle.run_codes.specs.Codes as codes
use Rattle.run_codes.specs.Flat.{Flat, Given, and_then, found, InStack, spliced, with_stack, default_words}
use Rattle.run_codes.specs.Lowered.{offset_from, offset_of, package_offset}
use Rattle.run_codes.specs.Programs.{going, on_going, objects_of, own_offset}
use Rattle.run_codes.specs.Points.{State, Outcome, on_got, put_words, leak, leaks_in, leaks_at, leaking_goes, after}
use Rattle.run_codes.specs.Points as points
use Rattle.run_codes.specs.Related.{AllStand, IsValue, types, now, LiesIn, IsPlace}
use Rattle.run_codes.proofs.Parts.{whole_split, first_word}
use Rattle.run_codes.proofs.Places.{some_same, given_same, if_some, head_stands}
use Rattle.run_codes.proofs.Expressions.{and_then_some}
use Rattle.run_codes.proofs.Held.{is_held}
use Rattle.run_codes.proofs.Seeing.{stack_stored}
use Rattle.run_fills.proofs.Values.{default_value}
use Rattle.run_fills.proofs.Leaks.{leaks_same}
use Rattle.run_points.specs.Outcomes.{IsAlike}
use Rattle.run_points.specs.States.{Laid, StateStands, MainBegins}
use Rattle.run_points.specs.Turns.{Turns, turn, flat_turn, around, seen, TurnStands, IsKept, DoesAlike}
use Rattle.run_points.proofs.Waits.{at_start}
use Rattle.run_points.proofs.Ends.{goes_alike}
use Rattle.run_points.proofs.Tests.{DoneAlike}
use Rattle.run_points.proofs.Stacks.{own_object, own_there, declared_kept, declared_loops}
use Rattle.run_points.proofs.Halts.{is_whole}
use Rattle.run_points.proofs.Undeclares.{undeclared_kept}
use Rattle.run_points.proofs.Leaking.{leaking_stands}
use Rattle.run_points.proofs.Pointers.{pointer_default, owns_named}

-- ---- an object of the frame that runs, as a place

same_number : (a c : ℕ) → (a == c) ≡ true → a ≡ c
same_number a c is = grind arith

-- Package objects are declared in the first frame alone.
own_by : (b : Turns) (laid : Laid) → TurnStands b laid → (x at : ℕ) (k : Bool) → is_package_object (flow_typing b.program) x ≡ k
    → (if (if k then b.frame.sub == 0 else not (b.frame.sub == 0)) then offset_of (around b).site x else None) ≡ Some at
    → ((if k then 0 else length b.outer) ≡ length b.outer) × LiesIn (seen b) (length b.outer) x (b.flat_frame.base + at)
own_by b laid is x at false own there = (
  refl,
  inl (record { at = at; there = (if_some (not (b.frame.sub == 0)) (offset_of (around b).site x) at there).1; own = own; runs = refl; begins = refl }),
)
own_by b laid is x at true of_packages there =
    let sure = if_some (b.frame.sub == 0) (offset_of (around b).site x) at there in
    let sub : b.frame.sub ≡ 0 = same_number b.frame.sub 0 sure.0 in
    let first = is.frame.first sub in
    let offset : package_offset (seen b).site x ≡ Some at =
    subst (λ n. offset_from (flow_typing b.program) 0 (objects_of (sub_of b.program n)) x ≡ Some at) sub sure.1 in (
      sym first.0,
      inr (record { there = offset ∙ ap (λ n. Some n) (none at ∙ ap (λ n. n + at) (sym first.1)); packages = of_packages; first = first.0 }),
    )
  where
    none : (n : ℕ) → n ≡ 0 + n
    none n = omega arith

pub own_place : (b : Turns) (laid : Laid) → TurnStands b laid → (x at : ℕ) → own_offset (around b) x ≡ Some at
    → IsPlace (seen b) 0 (object_at (flow_typing b.program) x).of (InStack (b.flat_frame.base + at)) (drop (b.flat_frame.base + at) b.flat.stack)
    (Done (variable_place (machine_step.here (turn b)) x) (now (seen b) 0))
own_place b laid is x at offset =
    let lies = own_by b laid is x at (is_package_object (flow_typing b.program) x) refl offset in
    record {
      p = variable_place (machine_step.here (turn b)) x;
      gives = refl;
      of = refl;
      stand = subst (λ n. Stand n) (sym lies.0) ((at_start b laid is).objects (own_object b x at) (own_there b laid is x at offset));
      from = record {
        frame = length b.outer;
        object = x;
        start = b.flat_frame.base + at;
        lies = lies.1;
        base = ap (λ n. OfVariable n x) lies.0;
        at = none (b.flat_frame.base + at);
        split = whole_split (sorts (flow_typing b.program).table (object_at (flow_typing b.program) x).of);
      };
    }
  where
    none : (n : ℕ) → n ≡ n + 0
    none n = omega arith

    Stand : ℕ → Type 0
    Stand n = AllStand (flow_typing b.program).table (types b.memory) (sorts (flow_typing b.program).table (object_at (flow_typing b.program) x).of)
        (drop 0 (slots_at (flow_typing b.program) b.memory (OfVariable n x))) (drop (b.flat_frame.base + at) b.flat.stack)

done_same : {A : Type 0} (a b : A) (n m : Now) → Done a n ≡ Done b m → a ≡ b
done_same a b n m is = cc

-- Its leak checks are the machine's.
own_leaks : (b : Turns) (laid : Laid) → TurnStands b laid → (x at : ℕ) → own_offset (around b) x ≡ Some at → (p : Pos)
    → leaks_at (flow_typing b.program).table (seen b).flat (InStack (b.flat_frame.base + at)) (object_at (flow_typing b.program) x).of p
    ≡ Given (flat_map (λ (l : List Leak). l) (checks_at (flow_typing b.program) p b.memory (variable_place (machine_step.here (turn b)) x)))
own_leaks b laid is x at offset p =
    let place = own_place b laid is x at offset in
    let of : ℕ = (object_at (flow_typing b.program) x).of in
    let zs : List ℤ = drop (b.flat_frame.base + at) b.flat.stack in
    let ev : Evaluated machine_memory.Place = Done (variable_place (machine_step.here (turn b)) x) (now (seen b) 0) in
    let same = done_same (variable_place (machine_step.here (turn b)) x) place.p (now (seen b) 0) (now (seen b) 0) place.gives in
    leaks_same (seen b) laid.objects (is_whole b laid is) 0 of (InStack (b.flat_frame.base + at)) zs ev place refl p
    ∙ ap (λ q. Given (flat_map (λ (l : List Leak). l) (checks_at (flow_typing b.program) p b.memory q))) (sym same)

-- ---- the step

-- It has the words of an object without a value.
ends_alike : (b : Turns) (laid : Laid) → TurnStands b laid → MainBegins b.program b.lowered → (x at : ℕ) → own_offset (around b) x ≡ Some at → (d : Does) (n : Option ℕ) → going (around b) b.point 0 ≡ Some n
    → (leaks : List Leak) (zs : List ℤ) → default_words (flow_typing b.program).table (object_at (flow_typing b.program) x).of ≡ zs
    → leaks ≡ flat_map (λ (l : List Leak). l) (checks_at (flow_typing b.program) b.point.pos b.memory (variable_place (machine_step.here (turn b)) x))
    → IsAlike (StateStands b.program) (machine_step.end_scope (turn b) x)
    (on_got (flat_turn b d) (seen b).flat (put_words (seen b).flat at zs) (λ m. leaking_goes (flat_turn b d) leaks m n))
ends_alike b laid is begins x at offset d n leads leaks zs words same =
    let s = flow_typing b.program in
    let of : ℕ = (object_at s x).of in
    let there = own_there b laid is x at offset in
    let f : Flat = with_stack (seen b).flat (spliced (b.flat_frame.base + at) zs b.flat.stack) in
    let value : IsValue s.table (types b.memory) (sorts s.table of) (default s.table of) zs =
    subst (λ l. IsValue s.table (types b.memory) (sorts s.table of) (default s.table of) l) words (default_value s.table (types b.memory) is.parts of) in
    let whole = is.memory.apart.within (own_object b x at) there in
    let kept : IsKept b laid (undeclared (length b.outer) x b.memory) f = undeclared_kept b laid x b.memory f (declared_kept b laid is x at there (default s.table of) zs value) in
    let checks : List (List Leak) = checks_at s b.point.pos b.memory (variable_place (machine_step.here (turn b)) x) in
    subst (λ g. IsAlike (StateStands b.program) (machine_step.end_scope (turn b) x) (on_got (flat_turn b d) (seen b).flat g (λ m. leaking_goes (flat_turn b d) leaks m n)))
    (sym (stack_stored (seen b).flat (b.flat_frame.base + at) [] zs (omega (arith, whole, value.numbers))))
    (leaking_stands b.program (machine_step.behind (turn b) (machine_step.waiting (turn b)) (undeclared (length b.outer) x b.memory) 0)
    (after (flat_turn b d) (points.waiting (flat_turn b d)) f n) checks leaks same
    (goes_alike b laid is begins d 0 n leads (undeclared (length b.outer) x b.memory) f kept (declared_loops b laid is x at there zs value.numbers)))

scope_alike : (b : Turns) (laid : Laid) → TurnStands b laid → MainBegins b.program b.lowered → (x at : ℕ) → own_offset (around b) x ≡ Some at → (n : Option ℕ) → going (around b) b.point 0 ≡ Some n
    → DoneAlike b (machine_step.end_scope (turn b) x) (codes.EndScope at (object_at (flow_typing b.program) x).of n)
scope_alike b laid is begins x at offset n leads =
    let of : ℕ = (object_at (flow_typing b.program) x).of in
    let d : Does = codes.EndScope at of n in
    let checks : List (List Leak) = checks_at (flow_typing b.program) b.point.pos b.memory (variable_place (machine_step.here (turn b)) x) in
    subst (λ g. IsAlike (StateStands b.program) (machine_step.end_scope (turn b) x)
    (on_got (flat_turn b d) (seen b).flat g
    (λ leaks. on_got (flat_turn b d) (seen b).flat (put_words (seen b).flat at (default_words (flow_typing b.program).table of)) (λ m. leaking_goes (flat_turn b d) leaks m n))))
    (sym (own_leaks b laid is x at offset b.point.pos))
    (ends_alike b laid is begins x at offset d n leads (flat_map (λ (l : List Leak). l) checks) (default_words (flow_typing b.program).table of) refl refl)

-- One word, which is owned.
pointer_alike : (b : Turns) (laid : Laid) → TurnStands b laid → MainBegins b.program b.lowered → (x at : ℕ) → own_offset (around b) x ≡ Some at → (n : Option ℕ) → going (around b) b.point 0 ≡ Some n
    → (t : ℕ) (constant : Bool) → shape_of (flow_typing b.program).table (object_at (flow_typing b.program) x).of ≡ shape.Access t constant true
    → DoneAlike b (machine_step.end_scope (turn b) x) (codes.EndPointer at n)
pointer_alike b laid is begins x at offset n leads t constant access =
    let table : Table = (flow_typing b.program).table in
    let of : ℕ = (object_at (flow_typing b.program) x).of in
    let d : Does = codes.EndPointer at n in
    let p : Pos = b.point.pos in
    let i : ℕ = b.flat_frame.base + at in
    let zs : List ℤ = drop i b.flat.stack in
    let ev : Evaluated machine_memory.Place = Done (variable_place (machine_step.here (turn b)) x) (now (seen b) 0) in
    let place = own_place b laid is x at offset in
    let whole = is_whole b laid is in
    let held = is_held (seen b) whole.related.counted.few 0 of (InStack i) zs ev place refl in
    let sort : sorts table of ≡ Pointer t ∷ [] = is.laws.access of t constant true access in
    let head = head_stands table (types b.memory) (Pointer t) (drop place.p.at (slots_at (flow_typing b.program) b.memory place.p.base)) zs
    (subst (λ l. AllStand table (types b.memory) l (drop place.p.at (slots_at (flow_typing b.program) b.memory place.p.base)) zs) sort place.stand) in
    let there : slice_get b.flat.stack i ≡ Some head.z = first_word i b.flat.stack head.others head.z head.words in
    let checks : List (List Leak) = checks_at (flow_typing b.program) p b.memory (variable_place (machine_step.here (turn b)) x) in
    let found_all : leaks_in p (take (length (sorts table of)) zs) (access_offsets table of) ≡ flat_map (λ (l : List Leak). l) checks =
    given_same (leaks_in p (take (length (sorts table of)) zs) (access_offsets table of)) (flat_map (λ (l : List Leak). l) checks)
    (sym (ap (λ g. and_then g (λ zs. Given (leaks_in p zs (access_offsets table of)))) held.words) ∙ own_leaks b laid is x at offset p) in
    let one : leaks_in p (take (length (sorts table of)) zs) (access_offsets table of) ≡ leak p head.z =
    ap (λ (l : List Sort). leaks_in p (take (length l) zs) (access_offsets table of)) sort
    ∙ ap (λ o. leaks_in p (take 1 zs) o) (is.parts.single of t constant true access (owns_named table of t constant access))
    ∙ ap (λ l. leaks_in p (take 1 l) (0 ∷ [])) head.words ∙ append-nil (leak p head.z) in
    subst (λ g. IsAlike (StateStands b.program) (machine_step.end_scope (turn b) x)
    (on_got (flat_turn b d) (seen b).flat (found g) (λ w. on_got (flat_turn b d) (seen b).flat (put_words (seen b).flat at (pos 0 ∷ [])) (λ m. leaking_goes (flat_turn b d) (leak p w) m n)))) (sym there)
    (ends_alike b laid is begins x at offset d n leads (leak p head.z) (pos 0 ∷ []) (pointer_default table is.laws is.parts of t constant true access) (sym one ∙ found_all))

-- ---- the instruction

abbrev ended : ℕ → Shape → ℕ → Option ℕ → Does
ended of (shape.Access designated constant true) at n = codes.EndPointer at n
ended of _ at n = codes.EndScope at of n

ended_alike : (b : Turns) (laid : Laid) → TurnStands b laid → MainBegins b.program b.lowered → (x at : ℕ) → own_offset (around b) x ≡ Some at → (n : Option ℕ) → going (around b) b.point 0 ≡ Some n
    → (sh : Shape) → shape_of (flow_typing b.program).table (object_at (flow_typing b.program) x).of ≡ sh
    → DoneAlike b (machine_step.end_scope (turn b) x) (ended (object_at (flow_typing b.program) x).of sh at n)
ended_alike b laid is begins x at offset n leads (shape.Access t constant true) access = pointer_alike b laid is begins x at offset n leads t constant access
ended_alike b laid is begins x at offset n leads _ access = scope_alike b laid is begins x at offset n leads

pub end_scope_alike : (b : Turns) (laid : Laid) → TurnStands b laid → MainBegins b.program b.lowered → (x : ℕ) → DoesAlike b (EndScope x)
end_scope_alike b laid is begins x d lowers =
    let of : ℕ = (object_at (flow_typing b.program) x).of in
    let sh : Shape = shape_of (flow_typing b.program).table of in
    let at = and_then_some (λ at. on_going (around b) b.point (λ n. Some (ended of sh at n))) (own_offset (around b) x) d lowers in
    let n = and_then_some (λ n. Some (ended of sh at.0 n)) (going (around b) b.point 0) d at.2 in
    subst (λ d. DoneAlike b (machine_step.end_scope (turn b) x) d) (some_same (ended of sh at.0 n.0) d n.2) (ended_alike b laid is begins x at.0 at.1 n.0 n.1 sh refl)
