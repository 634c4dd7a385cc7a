-- Names that go through no access value lead to parts of their variables.
use Rattle.std.proofs.Common.{◌≡◌, refl, ap, ◌∙◌, ℕ, true, List, [], ◌∷◌}
use Rattle.std.proofs.lemmas.Bool.{false≢true}
use Rattle.machine.specs.type_definitions.Types.{Table}
use Rattle.machine.specs.typed_tree.Trees.{TypedTree, Component as IntoComponent, Designated, Element}
use Rattle.machine.specs.flow_paths.Objects.{Typing}
use Rattle.machine.specs.Memory.{Base, Place}
use Rattle.machine.specs.Evaluate.{Here, Now, AsValue, Evaluated, Done, Raises, Traps, followed_by, evaluate, indexed, steps_of, walked, component_place, element_place}
use Rattle.machine.specs.Evaluate as run
use Rattle.soundness.specs.OwnedWays.Ways.{Step, Root, Component, Loc, OfRoot, Way, Object, Into, Past, Reaches, part, along}
use Rattle.soundness.specs.OwnedWays.Ways as ways
use Rattle.soundness.specs.Sound.{goes_through_none}
use Rattle.soundness.proofs.Walks.{Lead, way_along}
use Rattle.soundness.proofs.Stays.{Quiet}
use Rattle.soundness.proofs.ViewedSoundness.Names.{Starts}

-- ---- names that go through no access value

-- Steps of a name that dereference nothing.
abbrev pub IsDirect : List run.Step → Type 0
IsDirect [] = Unit {0}
IsDirect (run.ToComponent i ∷ way) = IsDirect way
IsDirect (run.ToElement n ∷ way) = IsDirect way
IsDirect (run.ToDesignated ∷ way) = ⊥

abbrev pub GivesDirect : Evaluated (List run.Step) → Type 0
GivesDirect (Done way n) = IsDirect way
GivesDirect (Raises e n) = Unit {0}
GivesDirect (Traps t n) = Unit {0}

direct_then : {A : Type 0} (y : Evaluated A) (f : A → Now → Evaluated (List run.Step)) → ((a : A) (n : Now) → GivesDirect (f a n)) → GivesDirect (followed_by y f)
direct_then (Done a n) f each = each a n
direct_then (Raises e n) f each = tt
direct_then (Traps t n) f each = tt

direct_on : (y : Evaluated (List run.Step)) (f : List run.Step → Now → Evaluated (List run.Step)) → GivesDirect y
    → ((way : List run.Step) (n : Now) → IsDirect way → GivesDirect (f way n)) → GivesDirect (followed_by y f)
direct_on (Done way n) f direct each = each way n direct
direct_on (Raises e n) f direct each = tt
direct_on (Traps t n) f direct each = tt

pub steps_direct : (h : Here) (path : TypedTree) → goes_through_none path ≡ true → (now : Now) → GivesDirect (steps_of h path now)
unfolding goes_through_none steps_of
steps_direct h (IntoComponent i rest) direct now =
    direct_on (steps_of h rest now) (λ way n. Done (run.ToComponent i ∷ way) n) (steps_direct h rest direct now) (λ way n d. d)
steps_direct h (Designated rest) direct now = absurd (false≢true direct)
steps_direct h (Element index low high rest) direct now =
    direct_then (evaluate h AsValue index now)
    (λ ws n. followed_by (indexed low high ws n) (λ i n. followed_by (steps_of h rest n) (λ way n. Done (run.ToElement i ∷ way) n)))
    (λ ws n. direct_then (indexed low high ws n) (λ i n. followed_by (steps_of h rest n) (λ way n. Done (run.ToElement i ∷ way) n))
    (λ i m. direct_on (steps_of h rest m) (λ way n. Done (run.ToElement i ∷ way) n) (steps_direct h rest direct m) (λ way n d. d)))
steps_direct h path direct now = tt

-- they stay in their variable, and go through nothing
pub past_none : (way : List run.Step) → IsDirect way → (w : Way) → ((v : Way) → Past v w → ⊥) → (v : Way) → Past v (way_along way w) → ⊥
past_none [] direct w none v past = none v past
past_none (run.ToComponent i ∷ way) direct w none v past = past_none way direct (Into w (Component i)) none v past
past_none (run.ToElement n ∷ way) direct w none v past = past_none way direct (Into w (ways.Element n)) none v past
past_none (run.ToDesignated ∷ way) direct w none v past = direct

pub direct_leads : (table : Table) (t u : ℕ) (way : List run.Step) → IsDirect way → Starts table t way u → Lead table t way u
direct_leads table t u [] direct lead = lead
direct_leads table t u (run.ToComponent i ∷ way) direct lead = lead
direct_leads table t u (run.ToElement n ∷ way) direct lead = lead
direct_leads table t u (run.ToDesignated ∷ way) direct lead = absurd direct

abbrev pub IsIn : Base → Evaluated Place → Type 0
IsIn b (Done k n) = k.base ≡ b
IsIn b (Raises e n) = Unit {0}
IsIn b (Traps t n) = Unit {0}

pub walked_in : (s : Typing) (way : List run.Step) → IsDirect way → (k : Place) (now : Now) → IsIn k.base (walked s way k now)
walked_in s [] direct k now = refl
walked_in s (run.ToComponent i ∷ way) direct k now = walked_in s way direct (component_place s.table i k) now
walked_in s (run.ToElement n ∷ way) direct k now = walked_in s way direct (element_place s.table n k) now
walked_in s (run.ToDesignated ∷ way) direct k now = absurd direct

pub both_quiet : (now : Now) (P : List run.Step → Type 0) (y : Evaluated (List run.Step)) → Quiet now P y → GivesDirect y → Quiet now (λ way. P way × IsDirect way) y
both_quiet now P (Done way n) is direct = (is.0, (is.1, direct))
both_quiet now P (Raises e n) is direct = is
both_quiet now P (Traps t n) is direct = is

-- the ways of such names are parts of variables
pub direct_part : (r : Root) (way : List run.Step) → IsDirect way → (p : List Step) → (q : List Step) × (way_along way (along (Object r) p) ≡ along (Object r) q)
direct_part r [] direct p = (p, refl)
direct_part r (run.ToComponent i ∷ way) direct p = direct_part r way direct (Component i ∷ p)
direct_part r (run.ToElement n ∷ way) direct p = direct_part r way direct (ways.Element n ∷ p)
direct_part r (run.ToDesignated ∷ way) direct p = absurd direct

pub part_reached : (view : ways.View) (r : Root) (q : List Step) (l : Loc) → Reaches view (along (Object r) q) l → l ≡ part (OfRoot r) q
part_reached view r [] l is = is
part_reached view r (i ∷ q) l (m, reach, is) = is ∙ ap (λ z. ways.Inside z i) (part_reached view r q m reach)
