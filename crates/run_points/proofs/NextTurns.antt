-- The next turn of a loop, and its end, are the machine's.
use Rattle.std.proofs.Common.{◌≡◌, ℕ, ◌+◌, ◌≤◌, Bool, List, [], ◌∷◌, length, drop, refl, sym, ap, subst, ◌∙◌, arith, Option, Some, None, slice_get, ℤ, pos}
use Rattle.std.specs.Prelude.{option_and_then}
use Rattle.type_definitions.specs.Types.{Table, shape_of}
use Rattle.typed_tree.specs.Trees.{TypedTree}
use Rattle.flow_paths.specs.Objects.{object_at}
use Rattle.flow_paths.specs.Instructions.{Next}
use Rattle.flow_paths.specs.Scopes as scopes
use Rattle.flow_paths.specs.Laid.{flow_typing}
use Rattle.machine.specs.Words.{Word, default}
use Rattle.machine.specs.Typed.{Sort, sorts}
use Rattle.machine.specs.Memory.{Memory, Place, OfVariable, stored, undeclared}
use Rattle.machine.specs.Evaluate.{variable_place}
use Rattle.machine.specs.States.{Loop}
use Rattle.machine.specs.Step as machine_step
use Rattle.machine.specs.Step.{successor, number, parameter_words, loop_of, without_loop, turned}
use Rattle.run_codes.specs.Codes.{Does}
use Rattle.run_codes.specs.Codes as codes
use Rattle.run_codes.specs.Flat.{Flat, Got, found, truth, default_words, spliced, with_stack}
use Rattle.run_codes.specs.Lowered.{option_map, Scalar, scalar_of}
use Rattle.run_codes.specs.Programs.{going, own_loop}
use Rattle.run_codes.specs.Points.{Outcome, on_got, goes, after}
use Rattle.run_codes.specs.Points as points
use Rattle.run_codes.specs.Related.{Stands, IsValue, types}
use Rattle.run_codes.proofs.Expressions.{and_then_some}
use Rattle.run_fills.proofs.Values.{default_value}
use Rattle.run_fills.proofs.Wholes.{unchanged}
use Rattle.run_points.specs.Outcomes.{IsAlike}
use Rattle.run_points.specs.States.{LoopAt, LoopsStand, AreBounded, Laid, StateStands, MainBegins}
use Rattle.run_points.specs.Turns.{Turns, state, turn, flat_turn, around, seen, TurnStands, IsKept, DoesAlike}
use Rattle.run_points.proofs.Goes.{after_stands}
use Rattle.run_points.proofs.Tests.{mapped, DoneAlike}
use Rattle.run_points.proofs.Halts.{is_whole}
use Rattle.run_points.proofs.Undeclares.{undeclared_kept}
use Rattle.run_points.proofs.Declares.{is_declared}
use Rattle.run_points.proofs.LoopLists.{IsChanged, turned_changed, left_changed, next_same}
use Rattle.run_points.proofs.Loops.{own_loop_there, is_looped, two_put, put_loop}
use Rattle.run_points.proofs.Parameters.{IsOneWord, scalar_word, next_stands, loop_has, word_number, is_parameter, is_stepped, three_words}

-- ---- how the step goes on

-- It takes no value, and its frame has these loops.
turn_goes : (b : Turns) (laid : Laid) → TurnStands b laid → MainBegins b.program b.lowered → length b.takes ≡ 0 → (d : Does) (k : ℕ) (n : Option ℕ) → going (around b) b.point k ≡ Some n
    → (loops : List Loop) (m : Memory) (f : Flat) → IsKept b laid m f → LoopsStand laid.loops (length b.outer) f.stack loops → AreBounded (flow_typing b.program) loops
    → IsAlike (StateStands b.program) (machine_step.with_turn (turn b) loops m k) (goes (flat_turn b d) f n)
turn_goes b laid is begins none d k n leads loops m f kept turning bounds =
    subst (λ j. StateStands b.program
    (machine_step.counted (record (state b) { frames = machine_step.led (turn b) (record b.frame { loops = loops }) (successor (turn b) k); memory = m }))
    (after (flat_turn b d) (drop j b.flat_frame.waits) f n)) (sym none)
    (after_stands b laid is begins d k n leads b.frame.waits b.flat_frame.waits is.frame.waits loops m f kept turning bounds)

-- Words of the parameter and of its loop are put.
puts_goes : (b : Turns) (laid : Laid) → TurnStands b laid → MainBegins b.program b.lowered → length b.takes ≡ 0 → (d : Does) (k : ℕ) (n : Option ℕ) → going (around b) b.point k ≡ Some n
    → (x offset : ℕ) → own_loop (around b) x ≡ Some offset → (v p q r : ℤ) (loops : List Loop) → IsChanged (flow_typing b.program) x b.frame.loops loops (p ∷ q ∷ r ∷ [])
    → (m : Memory) → IsKept b laid m (with_stack (seen b).flat (spliced (b.flat_frame.base + offset) (v ∷ []) b.flat.stack))
    → LoopsStand laid.loops (length b.outer) (spliced (b.flat_frame.base + offset) (v ∷ []) b.flat.stack) b.frame.loops → b.flat_frame.base + offset + 1 ≤ length b.flat.stack
    → IsAlike (StateStands b.program) (machine_step.with_turn (turn b) loops m k) (put_loop b d offset v (p ∷ q ∷ r ∷ []) n)
puts_goes b laid is begins none d k n leads x offset there v p q r loops changes m kept turning fits =
    let own = own_loop_there b laid is x offset there in
    let f : Flat = with_stack (seen b).flat (spliced (b.flat_frame.base + offset) (v ∷ []) b.flat.stack) in
    let c : LoopAt = record { frame = length b.outer; parameter = x; at = b.flat_frame.base + (offset + 1) } in
    let looped = is_looped b laid is m f kept turning c own.there refl loops p q r changes in
    subst (λ g. IsAlike (StateStands b.program) (machine_step.with_turn (turn b) loops m k) (on_got (flat_turn b d) (seen b).flat g (λ m. goes (flat_turn b d) m n)))
    (sym (two_put b offset v (p ∷ q ∷ r ∷ []) fits looped.fits))
    (turn_goes b laid is begins none d k n leads loops m (with_stack f (spliced c.at (p ∷ q ∷ r ∷ []) f.stack)) looped.kept looped.turning changes.bounds)

-- ---- a turn, and the end

abbrev loop_at : Turns → ℕ → Loop
loop_at b x = loop_of x b.frame.loops

some_alike : (b : Turns) (laid : Laid) → TurnStands b laid → MainBegins b.program b.lowered → length b.takes ≡ 0 → (d : Does) (n : Option ℕ) → going (around b) b.point 0 ≡ Some n
    → (x offset : ℕ) → own_loop (around b) x ≡ Some offset → (single : IsOneWord b (object_at (flow_typing b.program) x).of) (w : Word) (z : ℤ)
    → Stands (flow_typing b.program).table (types b.memory) single.sort w z → (variable_place (machine_step.here (turn b)) x).base ≡ OfVariable (length b.outer) x
    → (reversed : Bool) (u : ℤ) → machine_step.next_value reversed (loop_at b x) z ≡ Some u
    → IsAlike (StateStands b.program)
    (machine_step.with_turn (turn b) (turned x b.frame.loops) (stored (flow_typing b.program) (variable_place (machine_step.here (turn b)) x) (parameter_words (w ∷ []) u) b.memory) 0)
    (put_loop b d offset u ((loop_at b x).low ∷ (loop_at b x).high ∷ pos 0 ∷ []) n)
some_alike b laid is begins none d n leads x offset there single w z stands base reversed u next =
    let table : Table = (flow_typing b.program).table in
    let has = loop_has b laid is x single in
    let value : IsValue table (types b.memory) (sorts table (object_at (flow_typing b.program) x).of) (parameter_words (w ∷ []) u) (u ∷ []) =
    subst (λ l. IsValue table (types b.memory) l (parameter_words (w ∷ []) u) (u ∷ [])) (sym single.one)
    (next_stands b single.sort single.scalar reversed (loop_at b x) w z u has.low has.high stands next) in
    let stepped = is_stepped b laid is x offset (own_loop_there b laid is x offset there).own (parameter_words (w ∷ []) u) u base value in
    puts_goes b laid is begins none d 0 n leads x offset there u (loop_at b x).low (loop_at b x).high (pos 0) (turned x b.frame.loops)
    (turned_changed (flow_typing b.program) reversed x z u b.frame.loops is.frame.bounds next)
    (stored (flow_typing b.program) (variable_place (machine_step.here (turn b)) x) (parameter_words (w ∷ []) u) b.memory) stepped.kept stepped.turning stepped.fits

-- The first word of an object without a value.
abbrev default_word : List ℤ → ℤ
default_word [] = pos 0
default_word (w ∷ ws) = w

none_alike : (b : Turns) (laid : Laid) → TurnStands b laid → MainBegins b.program b.lowered → length b.takes ≡ 0 → (d : Does) (n : Option ℕ) → going (around b) b.point 1 ≡ Some n
    → (x offset : ℕ) → own_loop (around b) x ≡ Some offset → (single : IsOneWord b (object_at (flow_typing b.program) x).of)
    → IsAlike (StateStands b.program) (machine_step.with_turn (turn b) (without_loop x b.frame.loops) (undeclared (length b.outer) x b.memory) 1)
    (put_loop b d offset (default_word (default_words (flow_typing b.program).table (object_at (flow_typing b.program) x).of)) (pos 1 ∷ pos 0 ∷ pos 1 ∷ []) n)
none_alike b laid is begins none d n leads x offset there single =
    let table : Table = (flow_typing b.program).table in
    let t : ℕ = (object_at (flow_typing b.program) x).of in
    let v : ℤ = default_word (default_words table t) in
    let usual = default_value table (types b.memory) is.parts t in
    let value : IsValue table (types b.memory) (sorts table t) (default table t) (v ∷ []) =
    subst (λ zs. IsValue table (types b.memory) (sorts table t) (default table t) zs)
    (one_word (default_words table t) (usual.numbers ∙ ap (λ (l : List Sort). length l) single.one)) usual in
    let put = is_declared b laid is x offset (own_loop_there b laid is x offset there).own (default table t) (v ∷ []) b.memory (seen b).flat (unchanged (seen b) laid.objects (is_whole b laid is))
    is.memory.undeclared value in
    puts_goes b laid is begins none d 1 n leads x offset there v (pos 1) (pos 0) (pos 1) (without_loop x b.frame.loops)
    (left_changed (flow_typing b.program) x b.frame.loops is.frame.bounds) (undeclared (length b.outer) x b.memory)
    (undeclared_kept b laid x b.memory (with_stack (seen b).flat (spliced (b.flat_frame.base + offset) (v ∷ []) b.flat.stack)) put.kept) put.turning put.fits
  where
    one_word : (zs : List ℤ) → length zs ≡ 1 → zs ≡ default_word zs ∷ []
    one_word [] is = absurd (omega (arith, is))
    one_word (z ∷ []) is = refl
    one_word (z ∷ y ∷ zs) is = absurd (omega (arith, is))

-- ---- the flat step, from the words that it reads

abbrev flat_turned : Turns → Does → ℕ → ℕ → Option ℕ → Option ℕ → ℤ → ℤ → Option ℤ → Outcome
flat_turned b d x offset n m low high (Some v) = put_loop b d offset v (low ∷ high ∷ pos 0 ∷ []) n
flat_turned b d x offset n m low high None =
    put_loop b d offset (default_word (default_words (flow_typing b.program).table (object_at (flow_typing b.program) x).of)) (pos 1 ∷ pos 0 ∷ pos 1 ∷ []) m

abbrev word_at : Turns → ℕ → Got ℤ
word_at b o = found (slice_get b.flat.stack (b.flat_frame.base + o))

abbrev from_first : Turns → Does → ℕ → ℕ → Option ℕ → Option ℕ → Bool → ℤ → ℤ → ℤ → ℤ → Outcome
from_first b d x offset n m reversed v low high first = flat_turned b d x offset n m low high (points.next_value reversed low high first v)

abbrev from_high : Turns → Does → ℕ → ℕ → Option ℕ → Option ℕ → Bool → ℤ → ℤ → ℤ → Outcome
from_high b d x offset n m reversed v low high = on_got (flat_turn b d) (seen b).flat (word_at b (offset + 1 + 2)) (from_first b d x offset n m reversed v low high)

abbrev from_low : Turns → Does → ℕ → ℕ → Option ℕ → Option ℕ → Bool → ℤ → ℤ → Outcome
from_low b d x offset n m reversed v low = on_got (flat_turn b d) (seen b).flat (word_at b (offset + 1 + 1)) (from_high b d x offset n m reversed v low)

abbrev from_value : Turns → Does → ℕ → ℕ → Option ℕ → Option ℕ → Bool → ℤ → Outcome
from_value b d x offset n m reversed v = on_got (flat_turn b d) (seen b).flat (word_at b (offset + 1)) (from_low b d x offset n m reversed v)

-- ---- the instruction

-- From the words of both sides.
words_alike : (b : Turns) (laid : Laid) → TurnStands b laid → MainBegins b.program b.lowered → length b.takes ≡ 0 → (d : Does) (n m : Option ℕ)
    → going (around b) b.point 0 ≡ Some n → going (around b) b.point 1 ≡ Some m
    → (x offset : ℕ) → own_loop (around b) x ≡ Some offset → (single : IsOneWord b (object_at (flow_typing b.program) x).of) (w : Word) (z : ℤ)
    → Stands (flow_typing b.program).table (types b.memory) single.sort w z → (variable_place (machine_step.here (turn b)) x).base ≡ OfVariable (length b.outer) x
    → (reversed : Bool) (o : Option ℤ) → machine_step.next_value reversed (loop_at b x) z ≡ o
    → IsAlike (StateStands b.program) (machine_step.turned_to (turn b) x (variable_place (machine_step.here (turn b)) x) (w ∷ []) o)
    (flat_turned b d x offset n m (loop_at b x).low (loop_at b x).high o)
words_alike b laid is begins none d n m first second x offset there single w z stands base reversed (Some u) next =
    some_alike b laid is begins none d n first x offset there single w z stands base reversed u next
words_alike b laid is begins none d n m first second x offset there single w z stands base reversed None next = none_alike b laid is begins none d m second x offset there single

next_row : (b : Turns) (laid : Laid) → TurnStands b laid → MainBegins b.program b.lowered → length b.takes ≡ 0 → (d : Does) (n m : Option ℕ)
    → going (around b) b.point 0 ≡ Some n → going (around b) b.point 1 ≡ Some m
    → (x offset : ℕ) → own_loop (around b) x ≡ Some offset → IsOneWord b (object_at (flow_typing b.program) x).of → (reversed : Bool)
    → IsAlike (StateStands b.program) (machine_step.next_turn (turn b) x reversed)
    (points.next_turn (flat_turn b d) offset (offset + 1) reversed (default_word (default_words (flow_typing b.program).table (object_at (flow_typing b.program) x).of)) n m)
next_row b laid is begins none d n m first second x offset there single reversed =
    let own = own_loop_there b laid is x offset there in
    let parameter = is_parameter b laid is x offset own.own single in
    let l : Loop = loop_at b x in
    let z : ℤ = parameter.value in
    let three = three_words (b.flat_frame.base + (offset + 1)) l.low l.high (truth l.first) b.flat.stack
    (is.frame.loops (record { frame = length b.outer; parameter = x; at = b.flat_frame.base + (offset + 1) }) own.there refl) in
    let number_is = word_number b single.sort single.scalar parameter.word z parameter.stands in
    let k : Place = variable_place (machine_step.here (turn b)) x in
    let flat : points.next_turn (flat_turn b d) offset (offset + 1) reversed (default_word (default_words (flow_typing b.program).table (object_at (flow_typing b.program) x).of)) n m
    ≡ flat_turned b d x offset n m l.low l.high (machine_step.next_value reversed l z) =
    ap (λ g. on_got (flat_turn b d) (seen b).flat (found g) (from_value b d x offset n m reversed)) parameter.flat_word
    ∙ ap (λ g. on_got (flat_turn b d) (seen b).flat (found g) (from_low b d x offset n m reversed z)) three.first
    ∙ ap (λ g. on_got (flat_turn b d) (seen b).flat (found g) (from_high b d x offset n m reversed z l.low)) (ap (slice_get b.flat.stack) (one_more b.flat_frame.base offset) ∙ three.second)
    ∙ ap (λ g. on_got (flat_turn b d) (seen b).flat (found g) (from_first b d x offset n m reversed z l.low l.high)) (ap (slice_get b.flat.stack) (two_more b.flat_frame.base offset) ∙ three.third)
    ∙ ap (flat_turned b d x offset n m l.low l.high) (next_same reversed l z) in
    subst (λ out. IsAlike (StateStands b.program) (machine_step.next_turn (turn b) x reversed) out) (sym flat)
    (subst (λ ws. IsAlike (StateStands b.program) (machine_step.turned_to (turn b) x k ws (machine_step.next_value reversed l (number ws)))
    (flat_turned b d x offset n m l.low l.high (machine_step.next_value reversed l z))) (sym parameter.machine_word)
    (subst (λ v. IsAlike (StateStands b.program) (machine_step.turned_to (turn b) x k (parameter.word ∷ []) (machine_step.next_value reversed l v))
    (flat_turned b d x offset n m l.low l.high (machine_step.next_value reversed l z))) (sym number_is)
    (words_alike b laid is begins none d n m first second x offset there single parameter.word z parameter.stands parameter.base reversed (machine_step.next_value reversed l z) refl)))
  where
    one_more : (a o : ℕ) → a + (o + 1 + 1) ≡ a + (o + 1) + 1
    one_more a o = omega arith

    two_more : (a o : ℕ) → a + (o + 1 + 2) ≡ a + (o + 1) + 2
    two_more a o = omega arith

pub next_alike : (b : Turns) (laid : Laid) → TurnStands b laid → MainBegins b.program b.lowered → (x : ℕ) (reversed : Bool) (low high : TypedTree)
    → b.point.instr ≡ Next x reversed low high → DoesAlike b (Next x reversed low high)
next_alike b laid is begins x reversed low high here d lowers =
    let offset = and_then_some (λ at. option_and_then (on_scalar at) scalars) (own_loop (around b) x) d lowers in
    let s = and_then_some (on_scalar offset.0) scalars d offset.2 in
    let n = and_then_some (λ n. option_map (row offset.0 n) (going (around b) b.point 1)) (going (around b) b.point 0) d s.2 in
    let m = mapped (row offset.0 n.0) (going (around b) b.point 1) d n.2 in
    subst (λ y. DoneAlike b (machine_step.next_turn (turn b) x reversed) y) m.2
    (next_row b laid is begins (sym is.many ∙ ap scopes.taken here) (row offset.0 n.0 m.0) n.0 m.0 n.1 m.1 x offset.0 offset.1
    (scalar_word b laid is (object_at (flow_typing b.program) x).of s.0 s.1) reversed)
  where
    scalars : Option Scalar
    scalars = scalar_of (shape_of (flow_typing b.program).table (object_at (flow_typing b.program) x).of)

    row : ℕ → Option ℕ → Option ℕ → Does
    row at n m = codes.Next at (at + 1) reversed (default_word (default_words (flow_typing b.program).table (object_at (flow_typing b.program) x).of)) n m

    on_scalar : ℕ → Scalar → Option Does
    on_scalar at s = option_and_then (λ n. option_map (row at n) (going (around b) b.point 1)) (going (around b) b.point 0)
