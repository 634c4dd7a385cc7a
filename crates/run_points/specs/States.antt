-- Which states of the executor stand for those of the machine.
use Rattle.std.specs.Prelude.{◌≡◌, ◌⊎◌, ◌≤◌, ◌<◌, ℕ, zero, suc, ◌+◌, Bool, false, ◌&&◌, ◌==◌, true, List, [], ◌∷◌, ◌++◌, length, take, drop, get_or, nat_lt, Option, Some, None, ℤ, if◌then◌else◌}
use Rattle.spark_base.specs.Lists.{Has}
use Rattle.type_definitions.specs.Types.{Table, words}
use Rattle.type_definitions.specs.Entries.{integer}
use Rattle.flow_paths.specs.Objects.{Typing, object_at, is_package_object}
use Rattle.flow_paths.specs.Laid.{FlowSub, FlowProgram, flow_typing}
use Rattle.machine.specs.Words.{default}
use Rattle.machine.specs.Typed.{sorts}
use Rattle.machine.specs.Memory.{Memory, Place, Base, OfVariable, OfCell, fresh, slots_at}
use Rattle.machine.specs.States.{Waiting, Loop, stack_words, sub_of}
use Rattle.machine.specs.States as machine
use Rattle.machine.specs.Step.{no_loop, loop_of, main_frame}
use Rattle.run_codes.specs.Flat.{kinds, are_words, truth, Flat, Spot, InStack, InCell}
use Rattle.run_codes.specs.Lowered.{Site, Kept, kept_words, offset_of, one_type}
use Rattle.run_codes.specs.Programs.{Program, objects_of, is_loop}
use Rattle.run_codes.specs.Points.{Held, Return, Frame, State, with_frame, frame_of, sub_at}
use Rattle.run_codes.specs.Related.{types, IsValue, IsSplit, Lying, lying_sorts, Related, AreApart, IsSited}

-- ---- the numbers of points

-- The number of the first point of a subprogram among the points of all.
abbrev pub first_point : List FlowSub → ℕ → ℕ
first_point [] n = 0
first_point (sub ∷ rest) zero = 0
first_point (sub ∷ rest) (suc n) = length sub.points + first_point rest n

-- What expressions of a subprogram are lowered by.
abbrev pub site_of : FlowProgram → ℕ → List ℕ → Site
site_of program sub takes = record {
  typing = flow_typing program;
  own = objects_of (sub_of program sub);
  package_objects = objects_of (sub_of program 0);
  takes = takes;
}

-- ---- values that wait

pub record HeldStands (table : Table) (made : List ℕ) (w : Waiting) (h : Held) : Type 0 where
  pub of : h.of ≡ w.of
  pub value : IsValue table made (sorts table w.of) w.words h.words

abbrev pub WaitsStand : Table → List ℕ → List Waiting → List Held → Type 0
WaitsStand table made [] [] = Unit {0}
WaitsStand table made (w ∷ ws) (h ∷ hs) = HeldStands table made w h × WaitsStand table made ws hs
WaitsStand table made [] (h ∷ hs) = ⊥
WaitsStand table made (w ∷ ws) [] = ⊥

-- ---- `for` loops

-- The parameter of a loop in a frame, whose loop has its three words from an index of the stack on.
pub record LoopAt : Type 0 where
  pub frame : ℕ
  pub parameter : ℕ
  pub at : ℕ

abbrev pub loop_words : Loop → List ℤ
loop_words l = l.low ∷ l.high ∷ truth l.first ∷ []

abbrev pub loop_offset : Site → ℕ → Option ℕ
loop_offset c x = if is_loop x c.own then offset_of c x else None

-- The words of the loops of a frame.
abbrev pub LoopsStand : List LoopAt → ℕ → List ℤ → List Loop → Type 0
LoopsStand counters d stack loops =
    (c : LoopAt) → Has counters c → c.frame ≡ d → take 3 (drop c.at stack) ≡ loop_words (loop_of c.parameter loops)

-- The bounds are words of the parameter's kind.
pub record IsBounded (s : Typing) (l : Loop) : Type 0 where
  pub low : are_words (kinds s.table (object_at s l.parameter).of) (l.low ∷ []) ≡ true
  pub high : are_words (kinds s.table (object_at s l.parameter).of) (l.high ∷ []) ≡ true

-- So are those of all loops of a frame, which has one loop of a parameter at most.
abbrev pub AreBounded : Typing → List Loop → Type 0
AreBounded s [] = Unit {0}
AreBounded s (l ∷ rest) = IsBounded s l × (loop_of l.parameter rest ≡ no_loop) × AreBounded s rest

abbrev pub IsSameLoop : LoopAt → LoopAt → Type 0
IsSameLoop b c = (b.frame ≡ c.frame) × (b.parameter ≡ c.parameter) × (b.at ≡ c.at)

-- They share no word with each other, nor with an object.
pub record LoopsApart (s : Typing) (all : List Lying) (counters : List LoopAt) (n : ℕ) : Type 0 where
  pub within : (c : LoopAt) → Has counters c → c.at + 3 ≤ n
  pub objects : (l : Lying) (c : LoopAt) → Has all l → Has counters c → (l.at + length (lying_sorts s l) ≤ c.at) ⊎ (c.at + 3 ≤ l.at)
  pub apart : (b c : LoopAt) → Has counters b → Has counters c
      → IsSameLoop b c ⊎ ((((b.frame == c.frame) && (b.parameter == c.parameter)) ≡ false) × ((b.at + 3 ≤ c.at) ⊎ (c.at + 3 ≤ b.at)))

-- ---- what is copied back

-- A place of a type, which is a part of an object or of a cell, is a spot.
abbrev pub PlaceStands : Typing → List Lying → List ℕ → Place → Spot → Type 0
PlaceStands s all made p (InStack n) =
    (l : Lying) × Has all l × (p.base ≡ OfVariable l.frame l.object) × (n ≡ l.at + p.at) × IsSplit (lying_sorts s l) p.at (sorts s.table p.of)
PlaceStands s all made p (InCell n o) =
    (p.base ≡ OfCell (suc n)) × (o ≡ p.at) × (n < length made) × IsSplit (sorts s.table (get_or made n integer)) p.at (sorts s.table p.of)

-- A variable of a frame below one, or a cell.
abbrev pub IsLow : ℕ → Base → Type 0
IsLow n (OfVariable frame x) = frame < n
IsLow n (OfCell k) = Unit {0}

-- What a frame with a number copies back goes to places of the formal's type, in frames below it and in cells.
pub record ReturnStands (c : Site) (all : List Lying) (d : ℕ) (made : List ℕ) (r : machine.Return) (q : Return) : Type 0 where
  pub own : is_package_object c.typing r.formal ≡ false
  pub at : offset_of c r.formal ≡ Some q.at
  pub from : q.from ≡ (object_at c.typing r.formal).of
  pub of : q.of ≡ r.to.of
  pub to : PlaceStands c.typing all made r.to q.to
  pub low : IsLow d r.to.base
  pub fits : one_type c.typing.table r.to.of (object_at c.typing r.formal).of ≡ true

abbrev pub ReturnsStand : Site → List Lying → ℕ → List ℕ → List machine.Return → List Return → Type 0
ReturnsStand c all d made [] [] = Unit {0}
ReturnsStand c all d made (r ∷ rs) (q ∷ qs) = ReturnStands c all d made r q × ReturnsStand c all d made rs qs
ReturnsStand c all d made [] (q ∷ qs) = ⊥
ReturnsStand c all d made (r ∷ rs) [] = ⊥

-- ---- frames

-- Where the objects of a frame lie, from an index of the stack on.
abbrev pub lyings : Typing → ℕ → ℕ → List Kept → List Lying
lyings s d at [] = []
lyings s d at (k ∷ all) = record { frame = d; object = k.object; at = at } ∷ lyings s d (at + kept_words s k) all

-- Its loops lie after their parameters.
abbrev pub with_loop : Bool → LoopAt → List LoopAt → List LoopAt
with_loop true c all = c ∷ all
with_loop false c all = all

abbrev pub loop_from : Typing → ℕ → ℕ → Kept → LoopAt
loop_from s d at k = record { frame = d; parameter = k.object; at = at + words s.table (object_at s k.object).of }

abbrev pub loops_from : Typing → ℕ → ℕ → List Kept → List LoopAt
loops_from s d at [] = []
loops_from s d at (k ∷ all) = with_loop k.loops (loop_from s d at k) (loops_from s d (at + kept_words s k) all)

-- Where the objects of a program's frames and their loops lie.
pub record Laid : Type 0 where
  pub objects : List Lying
  pub loops : List LoopAt

-- The next point of a frame is one of its subprogram.
abbrev pub Runs : FlowProgram → machine.Frame → Type 0
Runs program f = f.next < length (sub_of program f.sub).points

abbrev pub FirstRuns : FlowProgram → List machine.Frame → Type 0
FirstRuns program [] = Unit {0}
FirstRuns program (f ∷ fs) = Runs program f

-- A frame with a number: its next point, its words, what waits, where it lies, its loops, its returns.
pub record FrameStands (program : FlowProgram) (laid : Laid) (made : List ℕ) (stack : List ℤ) (d : ℕ) (f : machine.Frame) (g : Frame) : Type 0 where
  pub next : g.next ≡ first_point program.subs f.sub + f.next
  -- that of the package objects may have none, where none is declared
  pub within : Runs program f ⊎ (f.sub ≡ 0)
  pub words : g.words ≡ (sub_of program f.sub).words
  pub few : nat_lt stack_words (sub_of program f.sub).words ≡ false
  pub waits : WaitsStand (flow_typing program).table made f.waits g.waits
  pub sited : IsSited (site_of program f.sub []) d g.base laid.objects
  pub lying : (l : Lying) → Has laid.objects l → l.frame ≡ d → Has (lyings (flow_typing program) d g.base (objects_of (sub_of program f.sub))) l
  -- the package objects are declared in the first frame alone
  pub first : f.sub ≡ 0 → (d ≡ 0) × (g.base ≡ 0)
  pub turning : (x at : ℕ) → loop_offset (site_of program f.sub []) x ≡ Some at → Has laid.loops (record { frame = d; parameter = x; at = g.base + (at + 1) })
  pub looping : (c : LoopAt) → Has laid.loops c → c.frame ≡ d → Has (loops_from (flow_typing program) d g.base (objects_of (sub_of program f.sub))) c
  pub loops : LoopsStand laid.loops d stack f.loops
  pub bounds : AreBounded (flow_typing program) f.loops
  pub returns : ReturnsStand (site_of program f.sub []) laid.objects d made f.returns g.returns
  -- frames below lie below
  pub below : (l : Lying) → Has laid.objects l → l.frame < d → l.at + length (lying_sorts (flow_typing program) l) ≤ g.base
  pub loops_below : (c : LoopAt) → Has laid.loops c → c.frame < d → c.at + 3 ≤ g.base

-- Frames have numbers from that of the package objects on, which stands last.
abbrev pub FramesStand : FlowProgram → Laid → List ℕ → List ℤ → List machine.Frame → List Frame → Type 0
FramesStand program laid made stack [] [] = Unit {0}
FramesStand program laid made stack (f ∷ fs) (g ∷ gs) =
    FrameStands program laid made stack (length fs) f g × FramesStand program laid made stack fs gs
FramesStand program laid made stack [] (g ∷ gs) = ⊥
FramesStand program laid made stack (f ∷ fs) [] = ⊥

-- Objects of frames that aren't there have the words of an object without a value.
abbrev pub AreUndeclared : Typing → ℕ → Memory → Type 0
AreUndeclared s n m = (frame x : ℕ) → n ≤ frame → slots_at s m (OfVariable frame x) ≡ fresh (default s.table (object_at s x).of)

-- ---- states

-- All of the memory stands, and objects and loops lie apart.
pub record MemoryStands (program : FlowProgram) (laid : Laid) (frames : ℕ) (m : Memory) (f : Flat) : Type 0 where
  pub related : Related (flow_typing program) laid.objects m f
  pub apart : AreApart (flow_typing program) laid.objects (length f.stack)
  pub loops_apart : LoopsApart (flow_typing program) laid.objects laid.loops (length f.stack)
  pub undeclared : AreUndeclared (flow_typing program) frames m
  pub low : (l : Lying) → Has laid.objects l → l.frame < frames
  pub loops_low : (c : LoopAt) → Has laid.loops c → c.frame < frames

pub record StateStands (program : FlowProgram) (s : machine.State) (g : State) : Type 0 where
  pub laid : Laid
  pub memory : MemoryStands program laid (length s.frames) s.memory g.memory
  pub frames : FramesStand program laid (types s.memory) g.memory.stack s.frames g.frames
  pub runs : FirstRuns program s.frames
  pub at : g.at ≡ s.at
  pub output : g.output ≡ s.output
  pub leaks : g.leaks ≡ s.leaks
  pub steps : g.steps ≡ s.steps

-- ---- the main procedure begins

-- After the last package object, with its frame.
abbrev pub main_begun : Table → Program → State → Frame → Option ℕ → State
main_begun table p g f None = record g { frames = f ∷ [] }
main_begun table p g f (Some main) = record g {
  memory = with_frame table (sub_at p main) g.memory;
  frames = frame_of g.memory (sub_at p main) [] ∷ f ∷ [];
}

-- It does so on both sides.
abbrev pub MainBegins : FlowProgram → Program → Type 0
MainBegins program p =
    (s : machine.State) (g : State) (f : machine.Frame) (h : Frame) → StateStands program (record s { frames = f ∷ [] }) (record g { frames = h ∷ [] })
    → StateStands program (record s { frames = main_frame program ++ f ∷ [] }) (main_begun (flow_typing program).table p g h p.main)
