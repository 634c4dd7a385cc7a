-- What is called moved stays so in calls and their ends: it is in no place that a call takes.
use Rattle.std.proofs.Common.{◌≡◌, sym, ap, ◌∙◌, subst, ◌⊎◌, inl, inr, ℕ, suc, ◌<◌, Bool, true, false, List, [], ◌∷◌, length, append-nil, arith, if◌then◌else◌}
use Rattle.machine.specs.spark_base.Lists.{Has}
use Rattle.machine.specs.place_names.declared.fact.Fact.{Fact}
use Rattle.machine.specs.place_names.declared.rule.Loan.TheVariants.{Borrowed}
use Rattle.machine.specs.flow_paths.Objects.{Typing, is_package_object}
use Rattle.machine.specs.Memory.{Memory}
use Rattle.machine.specs.States.{Frame}
use Rattle.soundness.specs.OwnedWays.Ways.{Step, Root, OfVariable, Loc, OfRoot, OfCell, Inside, Way, Object, Lost, Into, All, Gone, Held, View, part, along, Reaches, Under, Told, base_of, number_of, name_of, Named}
use Rattle.soundness.proofs.OwnedWays.Locations.{under_along, under_itself}
use Rattle.soundness.proofs.OwnedWays.Dropped.{named_base}
use Rattle.soundness.specs.Seen.{word_in, content, seen, home}
use Rattle.soundness.proofs.Contents.{word_part, word_root}
use Rattle.soundness.specs.Sound.{AreStages}
use Rattle.soundness.specs.OwnedLoans.Views.{Views, AreClear, AreViews, expand}
use Rattle.soundness.proofs.OwnedLoans.Meeting.{Lends, meeting}
use Rattle.soundness.proofs.OwnedLoans.Ways.{Meet, flip, meet_overlaps, under_on}
use Rattle.soundness.specs.OwnedLoans.Views.{AreShared, HasLoan}
use Rattle.soundness.proofs.OwnedWays.Named.{longer}
use Rattle.machine.specs.place_names.declared.rule.Loan.{Loan}
use Rattle.machine.specs.place_names.declared.fact.Fact.TheVariants.{Moved, Lent}
use Rattle.machine.specs.place_names.Names.{Name as PlaceName, overlaps, covers}
use Rattle.std.proofs.Common.{None}
use Rattle.std.proofs.lemmas.Bool.{false≢true}
use Rattle.soundness.proofs.ExactFacts.Steps.{under_covers}
use Rattle.viewed_steps.specs.Sound.{ViewStage, stages_of, Lies}
use Rattle.viewed_steps.specs.Taken.{TakenBy, AreCarried, Lodge, IsTakenIn}
use Rattle.recycled_runs.specs.ViewedFacts.Exact.{IsDefiniteBy}
use Rattle.recycled_runs.proofs.ViewedFacts.Constructors.{is_of_root_loc}
use Rattle.soundness.proofs.Parted.{by_either}

-- ---- ways from variables, where words are carried

module _ (s : Typing) (these : ℕ → Type 0) (cells : List Lodge) (ways : List Way) (m n : Memory) (carried : AreCarried s these cells ways m n)
    (off_cells : (w : Way) → (f : ℕ) × (x : ℕ) × (base_of w ≡ OfRoot (OfVariable f x)) × these f → ((to : Way) → Has ways to → Under to w → ⊥)
    → (k : ℕ) (p : List Step) → Reaches (seen s m [] []) w (part (OfCell k) p) → IsTakenIn cells ways k p → ⊥) where
  abbrev was : View
  was = seen s m [] []

  abbrev now : View
  now = seen s n [] []

  -- The way goes to a part of a variable of these frames, or to one of a cell.
  abbrev Stands : Way → Loc → Type 0
  Stands w l =
      ((f : ℕ) × (x : ℕ) × (p : List Step) × these f × (w ≡ along (Object (OfVariable f x)) p) × (l ≡ part (OfRoot (OfVariable f x)) p))
      ⊎ ((c : ℕ) × (p : List Step) × (l ≡ part (OfCell c) p))

  abbrev Begins : Way → Type 0
  Begins w = (f : ℕ) × (x : ℕ) × (base_of w ≡ OfRoot (OfVariable f x)) × these f

  abbrev IsOff : Way → Type 0
  IsOff w = (to : Way) → Has ways to → Under to w → ⊥

  stands : (w : Way) (l : Loc) → Begins w → Reaches now w l → Stands w l
  stands (Object r) l (f, x, base, there) reach = inl (f, x, [], there, same_root r base, reach ∙ base)
    where
      same_root : (r : Root) → OfRoot r ≡ OfRoot (OfVariable f x) → Object r ≡ Object (OfVariable f x)
      same_root r e = cc
  stands (Lost c) l (f, x, base, there) reach = absurd (let no : OfCell c ≡ OfRoot (OfVariable f x) = base in absurd (false≢true (ap is_of_root_loc no)))
  stands (Into w i) l begins (k, reach, e) = by_either (stands w k begins reach)
      (λ (f, x, p, there, is, at). (inl (f, x, i ∷ p, there, ap (λ z. Into z i) is, e ∙ ap (λ z. Inside z i) at)))
      (λ (c, p, at). (inr (c, i ∷ p, e ∙ ap (λ z. Inside z i) at)))
  stands (All w) l begins (k, c, reach, held, e) = inr (c, [], e)

  off_place : (w : Way) → IsOff w → TakenBy ways w → ⊥
  off_place w off (to, has, p, is) = off to has (subst (Under to) (sym is) (under_along to to p (under_itself to)))

  cell_here : (c : ℕ) (p : List Step) (k : Memory) → (seen s k [] []).word (part (OfCell c) p) ≡ word_in s.table (content s k [] (OfCell c)) p
  cell_here c p k =
      word_part s.table (content s k []) (OfCell c) p
      ∙ ap (λ q. word_in s.table (content s k [] (OfCell c)) q) (append-nil p)

  not_taken : (w : Way) → Begins w → IsOff w → (c : ℕ) (p : List Step) → (l : Loc) → Reaches was w l → l ≡ part (OfCell c) p → IsTakenIn cells ways c p → ⊥
  not_taken w begins off c p l reach at taken = off_cells w begins off c p (subst (Reaches was w) at reach) taken

  held_before : (w : Way) (l : Loc) → Begins w → Stands w l → IsOff w → Reaches was w l → (c : ℕ) → now.word l ≡ Held c → was.word l ≡ Held c
  held_before w l begins (inr (d, p, at)) off reach c held =
      subst (λ z. was.word z ≡ Held c) (sym at)
      (cell_here d p m ∙ carried.in_cells d p c (not_taken w begins off d p l reach at) (sym (cell_here d p n) ∙ subst (λ z. now.word z ≡ Held c) at held))
  held_before w l begins (inl (f, x, p, there, is, at)) off reach c held =
      subst (λ z. was.word z ≡ Held c) (sym at)
      (word_root s.table (content s m []) (OfVariable f x) p
      ∙ carried.held f x p c there (λ taken. off_place w off (subst (TakenBy ways) (sym is) taken))
      (sym (word_root s.table (content s n []) (OfVariable f x) p) ∙ subst (λ z. now.word z ≡ Held c) at held))

  gone_then : (w : Way) (l : Loc) → Begins w → Stands w l → IsOff w → Reaches was w l → was.word l ≡ Gone → now.word l ≡ Gone
  gone_then w l begins (inr (c, p, at)) off reach gone =
      subst (λ z. now.word z ≡ Gone) (sym at)
      (cell_here c p n ∙ carried.gone_cells c p (not_taken w begins off c p l reach at) (sym (cell_here c p m) ∙ subst (λ z. was.word z ≡ Gone) at gone))
  gone_then w l begins (inl (f, x, p, there, is, at)) off reach gone =
      subst (λ z. now.word z ≡ Gone) (sym at)
      (word_root s.table (content s n []) (OfVariable f x) p
      ∙ carried.gone f x p there (λ taken. off_place w off (subst (TakenBy ways) (sym is) taken))
      (sym (word_root s.table (content s m []) (OfVariable f x) p) ∙ subst (λ z. was.word z ≡ Gone) at gone))

  -- such a way leads where it led
  reached_before : (w : Way) (l : Loc) → Begins w → IsOff w → Reaches now w l → Reaches was w l
  reached_before (Object r) l begins off reach = reach
  reached_before (Lost c) l (f, x, base, there) off reach = absurd (let no : OfCell c ≡ OfRoot (OfVariable f x) = base in absurd (false≢true (ap is_of_root_loc no)))
  reached_before (Into w i) l begins off (k, reach, e) = (k, reached_before w k begins (λ to has under. off to has (inr under)) reach, e)
  reached_before (All w) l begins off (k, c, reach, held, e) =
      let off_front : IsOff w = (λ to has under. off to has (inr under)) in
      (let before = reached_before w k begins off_front reach in (k, c, before, held_before w k begins (stands w k begins reach) off_front before c held, e))

  pub carried_told : (P : Way → Type 0) → ((w : Way) → P w → Begins w) → ((w : Way) → P w → IsOff w) → Told (seen s m [] []) P → Told (seen s n [] []) P
  carried_told P begins off told w l is reach =
      let before = reached_before w l (begins w is) (off w is) reach in
      gone_then w l (begins w is) (stands w l (begins w is) reach) (off w is) before (told w l is before)

-- ---- where frames have names

-- the home of an object isn't above the frame
home_low : (s : Typing) (a y : ℕ) → home s a y < suc a
home_low s a y = by_package (is_package_object s y)
  where
    by_package : (c : Bool) → (if c then 0 else a) < suc a
    by_package true = omega arith
    by_package false = omega arith

-- what lies at a frame begins there or below
pub lies_low : (s : Typing) (frame : ℕ) (w : Way) → Lies s frame w → (f : ℕ) × (x : ℕ) × (base_of w ≡ OfRoot (OfVariable f x)) × (f < suc frame)
lies_low s frame w (inl named) = (home s frame (number_of w), number_of w, named_base (home s frame) w named, home_low s frame (number_of w))
lies_low s frame w (inr (foreign, low, above)) = (foreign.0, foreign.1, foreign.2, omega (arith, low))

-- the frames of a list are lower than its length
pub lower : (older : List ViewStage) (outer : List Frame) → AreStages (stages_of older) outer → (g : ViewStage) → Has older g → g.stage.depth < length outer
lower [] outer stages g has = absurd has
lower (h ∷ older) [] stages g has = absurd stages
lower (h ∷ older) (f ∷ outer) (frame, deep, others) g (inl same) =
    subst (λ (z : ViewStage). z.stage.depth < suc (length outer)) same (omega (arith, deep))
lower (h ∷ older) (f ∷ outer) (frame, deep, others) g (inr has) = (let less = lower older outer others g has in omega (arith, less))

-- ---- the places that a call took

module _ (s : Typing) (sees : ℕ → Bool) (depth : ℕ) (facts : List Fact) (name : Way) (named : Named (home s depth) name) (plain_name : sees (number_of name) ≡ false)
    (unlent : (l : Loan) (h : ℕ) (n : PlaceName) → Has facts (Lent l h n) → overlaps n (name_of name) ≡ true → ⊥)
    (cleared : (n : PlaceName) → Has facts (Moved n) → covers (name_of name) n ≡ true → ⊥) where
  -- Nothing is where the name leads that the frame moved, by a name without an element. What others have lent has other roots than it,
  -- and than what the frame moved or borrowed.
  pub passed_clean : (v : Views) (view : View) (views : AreViews (home s depth) sees v view facts) → AreClear sees facts
      → (lent : Loan → PlaceName → Type 0) → ((l : Loan) (n : PlaceName) → lent l n → v.way n.root ≡ None) → AreShared (home s depth) sees lent v
      → ((n : PlaceName) → lent Borrowed n → n.root ≡ number_of name → ⊥)
      → ((m : PlaceName) → Has facts (Moved m) → (n : PlaceName) → lent Borrowed n → m.root ≡ n.root → ⊥)
      → ((b : ℕ) (m : PlaceName) → Has facts (Lent Borrowed b m) → (n : PlaceName) → lent Borrowed n → m.root ≡ n.root → ⊥)
      → (w : Way) → IsDefiniteBy (home s depth) v facts w → Under (expand v name) w → ⊥
  passed_clean v view views clear lent none shown spared own_moved own_borrowed w (m, moved, plain, same) under =
      by_either (meeting (home s depth) sees v view facts views lent none shown name m (named, plain_name) (moved.0, clear.owned (name_of m) moved.1)
      (subst (Under (expand v name)) (sym same) under))
      (λ below. (cleared (name_of m) moved.1 (under_covers name m below plain)))
      (λ more. (by_either more
      (λ a. (clear.moved Borrowed a.object (name_of m) (name_of (v.loan a.object)) moved.1 (loan_there a.object a.lends)
      (meet_overlaps m (v.loan a.object) (inr (under_on (v.loan a.object) a.name m a.loan a.begins)))))
      (λ more. (by_either more
      (λ b. (unlent Borrowed b.object (name_of (v.loan b.object)) (loan_there b.object b.lends)
      (meet_overlaps (v.loan b.object) name (flip name (v.loan b.object) b.meets))))
      (λ loans. (by_either loans
      (λ c. (clear.lent c.one c.two (name_of (v.loan c.one)) (name_of (v.loan c.two)) (loan_there c.one c.lends) (loan_there c.two c.lent)
      c.differ (meet_overlaps (v.loan c.one) (v.loan c.two) c.meets)))
      (λ lone. (by_either lone
      (λ l. (by_either l.meets
      (λ meets. (spared (name_of l.place) l.lent_it (sym (met_root name l.place meets))))
      (λ (b, lends, meets). (own_borrowed b (name_of (v.loan b)) (loan_there b lends) (name_of l.place) l.lent_it (met_root (v.loan b) l.place meets)))))
      (λ l. (by_either l.meets
      (λ meets. (own_moved (name_of m) moved.1 (name_of l.place) l.lent_it (met_root m l.place meets)))
      (λ (b, lends, meets). (own_borrowed b (name_of (v.loan b)) (loan_there b lends) (name_of l.place) l.lent_it (met_root (v.loan b) l.place meets)))))))))))))
    where
      loan_there : (b : ℕ) → Lends (home s depth) sees v view facts views b → Has facts (Lent Borrowed b (name_of (v.loan b)))
      loan_there b l = subst (λ z. HasLoan sees z b facts (name_of (v.loan b))) l.2 l.3.lent

      met_root : (a b : Way) → Meet a b → number_of a ≡ number_of b
      met_root a b (inl under) = sym (longer a b under).root
      met_root a b (inr under) = (longer b a under).root
