-- What waits: nothing for texts without calls; and what waits in the frames after a step.
use Rattle.std.proofs.Common.{◌≡◌, refl, ap, ◌∙◌, ℕ, ◌+◌, Bool, true, false, ◌||◌, List, [], ◌∷◌, ◌++◌, flat_map, take, drop, arith, Option, Some, None, if◌then◌else◌}
use Rattle.std.proofs.lemmas.Bool.{true≢false}
use Rattle.machine.specs.typed_tree.Trees.{TypedTree, Number, Literal, Text, Name, Component as IntoComponent, Designated, Element, Call, EndOfFile, Parens, Image, Unary, Binary, Short, IsNull, Aggregate, Alike, New, NoMore, More}
use Rattle.machine.specs.typed_tree.Trees as typed
use Rattle.machine.specs.flow_paths.Names.{has_call, waiting as waits_in}
use Rattle.machine.specs.flow_paths.Laid.{FlowProgram}
use Rattle.machine.specs.States.{Waiting, Frame}
use Rattle.machine.specs.Step.{Turn, begun, led, main_frame}

-- ---- without calls nothing waits

pub no_sum : (a b : ℕ) → a ≡ 0 → b ≡ 0 → a + b ≡ 0
no_sum a b x y = omega (arith, x, y)

pub or_both : (a b : Bool) → a || b ≡ false → (a ≡ false) × (b ≡ false)
or_both true b e = absurd (true≢false e)
or_both false b e = (refl, e)

pub no_waits : (e : TypedTree) → has_call e ≡ false → waits_in e ≡ 0
unfolding has_call waits_in
no_waits (Call p sub actuals) none = absurd (true≢false none)
no_waits (Name p x steps t) none = no_waits steps none
no_waits (IntoComponent i rest) none = no_waits rest none
no_waits (Designated rest) none = no_waits rest none
no_waits (Element index low high rest) none =
    let both = or_both (has_call index) (has_call rest) none in no_sum (waits_in index) (waits_in rest) (no_waits index both.0) (no_waits rest both.1)
no_waits (Image t e) none = no_waits e none
no_waits (Parens e) none = no_waits e none
no_waits (Unary op e) none = no_waits e none
no_waits (Binary op a b) none =
    let both = or_both (has_call a) (has_call b) none in no_sum (waits_in a) (waits_in b) (no_waits a both.0) (no_waits b both.1)
no_waits (Short op p a q b) none =
    let both = or_both (has_call a) (has_call b) none in
    ap (λ c. if c then 1 else waits_in a + waits_in b) both.1 ∙ no_sum (waits_in a) (waits_in b) (no_waits a both.0) (no_waits b both.1)
no_waits (IsNull equal e) none = no_waits e none
no_waits (Aggregate t parts) none = no_waits parts none
no_waits (Alike t e) none = no_waits e none
no_waits (New t v) none = no_waits v none
no_waits (More e rest) none =
    let both = or_both (has_call e) (has_call rest) none in no_sum (waits_in e) (waits_in rest) (no_waits e both.0) (no_waits rest both.1)
no_waits (Number v) none = refl
no_waits (Literal n) none = refl
no_waits (Text b) none = refl
no_waits typed.Null none = refl
no_waits EndOfFile none = refl
no_waits NoMore none = refl

pub take_none : {A : Type 0} (xs : List A) → take 0 xs ≡ []
take_none [] = refl
take_none (x ∷ xs) = refl

pub drop_none : {A : Type 0} (xs : List A) → drop 0 xs ≡ xs
drop_none [] = refl
drop_none (x ∷ xs) = refl

-- ---- what waits

abbrev pub waits_of : Frame → List Waiting
waits_of f = f.waits

-- the main procedure begins without any
main_waits : (program : FlowProgram) (x : Option ℕ) (rest : List Frame)
    → flat_map waits_of (main_frame (record program { main = x }) ++ rest) ≡ flat_map waits_of rest
main_waits program None rest = refl
main_waits program (Some n) rest = refl

begun_waits : (program : FlowProgram) (f : Frame) (outer : List Frame) → flat_map waits_of (begun program f outer) ≡ f.waits ++ flat_map waits_of outer
begun_waits program f [] = main_waits program program.main (f ∷ [])
begun_waits program f (g ∷ outer) = refl

pub led_waits : (t : Turn) (f : Frame) (n : Option ℕ) → flat_map waits_of (led t f n) ≡ f.waits ++ flat_map waits_of t.outer
led_waits t f (Some n) = refl
led_waits t f None = begun_waits t.program f t.outer
