-- No number stands in what was taken, however its way is put.
use Rattle.std.proofs.Common.{◌≡◌, refl, sym, ap, ◌∙◌, subst, inl, inr, ℕ, ◌≤◌, arith, List, [], ◌∷◌, ◌++◌, Bool}
use Rattle.std.proofs.lemmas.Bool.{false≢true}
use Rattle.machine.specs.spark_base.Lists.{Has}
use Rattle.machine.specs.place_names.declared.fact.Fact.{Fact}
use Rattle.machine.specs.flow_paths.Objects.{Typing}
use Rattle.machine.specs.Memory.{Memory, Place}
use Rattle.machine.specs.States.{Return}
use Rattle.soundness.specs.OwnedWays.Ways.{Step, Loc, OfCell, Way, Object, Lost, Into, All, Held, View, Reaches, Past, along}
use Rattle.soundness.proofs.OwnedWays.Unique.{one_location}
use Rattle.soundness.proofs.OwnedWays.Locations.{depth, past_depth}
use Rattle.soundness.specs.Seen.{content, steps_in, word_in}
use Rattle.viewed_steps.specs.Taken.{Lodge, IsInside, IsAmong, AreTaken}
use Rattle.viewed_steps.proofs.Carried.{start_reached, start_steps}
use Rattle.soundness.specs.OwnedLoans.Views.{Views}
use Rattle.viewed_steps.proofs.Constructors.{is_into_way}
use Rattle.machine.specs.type_definitions.Types.{is_nil}

-- A way to a variable or a cell as a whole.
abbrev pub IsTop : View → Way → Loc → Type 0
IsTop view w l = Reaches view w l × (steps_in l ≡ [])

no_step : (view : View) (w u : Way) (i : Step) (l : Loc) → IsTop view w l → w ≡ Into u i → ⊥
no_step view (Object r) u i l top is = absurd (false≢true (ap is_into_way is))
no_step view (Lost n) u i l top is = absurd (false≢true (ap is_into_way is))
no_step view (All w) u i l top is = absurd (false≢true (ap is_into_way is))
no_step view (Into w j) u i l ((m, reach, at), whole) is = (let no : j ∷ steps_in m ≡ [] = sym (ap steps_in at) ∙ whole in absurd (false≢true (ap is_nil no)))

longer_one : (a b : Way) (i j : Step) → Into a i ≡ Into b j → (a ≡ b) × (i ≡ j)
longer_one a b i j is = (cc, cc)

-- one way has one such beginning
same_part : (view : View) (u w : Way) (k l : Loc) → IsTop view u k → IsTop view w l → (q p : List Step) → along u q ≡ along w p → (k ≡ l) × (q ≡ p)
same_part view u w k l first second [] [] is = (one_location view w k l (subst (λ z. Reaches view z k) is first.0) second.0, refl)
same_part view u w k l first second [] (i ∷ p) is = absurd (no_step view u (along w p) i k first is)
same_part view u w k l first second (j ∷ q) [] is = absurd (no_step view w (along u q) j l second (sym is))
same_part view u w k l first second (j ∷ q) (i ∷ p) is =
    let both = longer_one (along u q) (along w p) j i is in
    let rest = same_part view u w k l first second q p both.0 in
    (rest.0, (λ z. both.1 z ∷ rest.1 z))

inside_top : (s : Typing) (cells : List Lodge) (depth : ℕ) (view : View) → ((c : Lodge) → Has cells c → Reaches view c.way (OfCell c.cell))
    → (k : Place) (to : Way) (inside : IsInside s depth k to) → IsAmong cells inside.start inside.trunk → IsTop view inside.trunk inside.start
inside_top s cells depth view at k to inside among = (
  start_reached s depth k to inside view (λ n is. (
      let found = among n is in
      subst (λ z. Reaches view z (OfCell n)) found.2 (subst (λ z. Reaches view found.0.way (OfCell z)) found.3 (at found.0 found.1)))),
  start_steps s depth k to inside,
)

pub taken_bare : (s : Typing) (sees : ℕ → Bool) (cells : List Lodge) (m : Memory) (depth : ℕ) (v : Views) (facts : List Fact) (scope : List ℕ) (view : View)
    → ((c : Lodge) → Has cells c → Reaches view c.way (OfCell c.cell)) → (returns : List Return) (ways : List Way)
    → AreTaken s sees cells m depth v facts scope returns ways → (w : Way) (l : Loc) → IsTop view w l → (p : List Step) → Has ways (along w p) → (q : List Step) (c : ℕ)
    → word_in s.table (content s m [] l) (q ++ p) ≡ Held c → ⊥
taken_bare s sees cells m depth v facts scope view at [] ways none w l top p has q c held = absurd (subst (λ z. Has z (along w p)) none has)
taken_bare s sees cells m depth v facts scope view at (r ∷ rest) [] taken w l top p has q c held = absurd has
taken_bare s sees cells m depth v facts scope view at (r ∷ rest) (to ∷ ways) (inl copied) w l top p has q c held =
    taken_bare s sees cells m depth v facts scope view at rest (to ∷ ways) copied.1 w l top p has q c held
taken_bare s sees cells m depth v facts scope view at (r ∷ rest) (to ∷ ways) (inr (one, apart, another, more)) w l top p (inl same) q c held =
    let inside = (one.0).inside in
    let both = same_part view inside.trunk w inside.start l (inside_top s cells depth view at r.to to inside (one.0).among) top inside.steps p (sym inside.way ∙ same) in
    one.1 q c ((λ j. word_in s.table (content s m [] (both.0 j)) (q ++ both.1 j)) ∙ held)
taken_bare s sees cells m depth v facts scope view at (r ∷ rest) (to ∷ ways) (inr (one, apart, another, more)) w l top p (inr has) q c held =
    taken_bare s sees cells m depth v facts scope view at rest ways more w l top p has q c held

-- What goes on from a way isn't before it.
pub not_before : (w : Way) (p : List Step) → Past (along w p) w → ⊥
not_before w p past =
    let less = past_depth (along w p) w past in
    let longer_one = depth_along p in omega (arith, less, longer_one)
  where
    depth_along : (p : List Step) → depth w ≤ depth (along w p)
    depth_along [] = omega arith
    depth_along (i ∷ p) = (let rest = depth_along p in omega (arith, rest))
