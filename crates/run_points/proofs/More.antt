-- What stands, stands where more cells were made.
use Rattle.std.proofs.Common.{◌≡◌, ℕ, ◌+◌, ◌<◌, List, [], ◌∷◌, ◌++◌, length, sym, subst, arith, length-append, ℤ}
use Rattle.type_definitions.specs.Types.{Table}
use Rattle.type_definitions.specs.Entries.{integer}
use Rattle.flow_paths.specs.Objects.{Typing}
use Rattle.flow_paths.specs.Laid.{FlowProgram, flow_typing}
use Rattle.machine.specs.Typed.{sorts}
use Rattle.machine.specs.Memory.{Place}
use Rattle.machine.specs.States.{Waiting}
use Rattle.machine.specs.States as machine
use Rattle.run_codes.specs.Flat.{Spot, InStack, InCell}
use Rattle.run_codes.specs.Lowered.{Site}
use Rattle.run_codes.specs.Points.{Held, Return, Frame}
use Rattle.run_codes.specs.Related.{IsSplit, Lying}
use Rattle.run_codes.proofs.News.{get_before}
use Rattle.run_fills.proofs.Wholes.{value_more}
use Rattle.run_points.specs.States.{WaitsStand, PlaceStands, ReturnsStand, Laid, site_of, FramesStand}

-- ---- values that wait

pub waits_more : (table : Table) (made more : List ℕ) (ws : List Waiting) (hs : List Held) → WaitsStand table made ws hs → WaitsStand table (made ++ more) ws hs
waits_more table made more [] [] is = tt
waits_more table made more (w ∷ ws) (h ∷ hs) is =
    (record { of = is.0.of; value = value_more table made more (sorts table w.of) w.words h.words is.0.value }, waits_more table made more ws hs is.1)
waits_more table made more [] (h ∷ hs) is = absurd is
waits_more table made more (w ∷ ws) [] is = absurd is

-- ---- what is copied back

pub place_more : (s : Typing) (all : List Lying) (made more : List ℕ) (p : Place) (w : Spot) → PlaceStands s all made p w → PlaceStands s all (made ++ more) p w
place_more s all made more p (InStack n) is = is
place_more s all made more p (InCell n o) is = (
  is.0,
  is.1,
  within n (length made) (length more) (length (made ++ more)) is.2 (length-append made more),
  subst (λ t. IsSplit (sorts s.table t) p.at (sorts s.table p.of)) (sym (get_before made more n integer is.2)) is.3,
)
  where
    within : (n a b c : ℕ) → n < a → c ≡ a + b → n < c
    within n a b c low is = omega (arith, low, is)

pub returns_more : (c : Site) (all : List Lying) (d : ℕ) (made more : List ℕ) (rs : List machine.Return) (qs : List Return) → ReturnsStand c all d made rs qs → ReturnsStand c all d (made ++ more) rs qs
returns_more c all d made more [] [] is = tt
returns_more c all d made more (r ∷ rs) (q ∷ qs) is = (
  record { own = is.0.own; at = is.0.at; from = is.0.from; of = is.0.of; to = place_more c.typing all made more r.to q.to is.0.to; low = is.0.low; fits = is.0.fits },
  returns_more c all d made more rs qs is.1,
)
returns_more c all d made more [] (q ∷ qs) is = absurd is
returns_more c all d made more (r ∷ rs) [] is = absurd is

-- ---- frames

pub frames_more : (program : FlowProgram) (laid : Laid) (made more : List ℕ) (stack : List ℤ) (fs : List machine.Frame) (gs : List Frame)
    → FramesStand program laid made stack fs gs → FramesStand program laid (made ++ more) stack fs gs
frames_more program laid made more stack [] [] is = tt
frames_more program laid made more stack (f ∷ fs) (g ∷ gs) is = (
  record {
    next = is.0.next;
    within = is.0.within;
    words = is.0.words;
    few = is.0.few;
    waits = waits_more (flow_typing program).table made more f.waits g.waits is.0.waits;
    sited = is.0.sited;
    lying = is.0.lying;
    looping = is.0.looping;
    first = is.0.first;
    turning = is.0.turning;
    loops = is.0.loops;
    bounds = is.0.bounds;
    returns = returns_more (site_of program f.sub []) laid.objects (length fs) made more f.returns g.returns is.0.returns;
    below = is.0.below;
    loops_below = is.0.loops_below;
  },
  frames_more program laid made more stack fs gs is.1,
)
frames_more program laid made more stack [] (g ∷ gs) is = absurd is
frames_more program laid made more stack (f ∷ fs) [] is = absurd is
