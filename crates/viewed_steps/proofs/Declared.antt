-- The declaration of an object that isn't a view.
use Rattle.std.proofs.Common.{None, ◌≡◌, refl, sym, ap, ◌∙◌, subst, ◌⊎◌, inl, inr, ℕ, Bool, true, false, not, List, [], ◌∷◌, ◌+◌, ◌++◌, length, get_or, append-nil, Some, if◌then◌else◌, is_some}
use Rattle.std.proofs.lemmas.Bool.{true≢false}
use Rattle.machine.specs.spark_base.Lists.{Has}
use Rattle.machine.specs.place_names.declared.act.Act.TheVariants as act
use Rattle.machine.specs.place_names.declared.fact.Fact.{Fact}
use Rattle.machine.specs.place_names.declared.fact.Fact.TheVariants.{Moved}
use Rattle.machine.specs.place_names.declared.rule.Loan.{Loan}
use Rattle.machine.specs.place_names.declared.rule.Loan.TheVariants.{Borrowed}
use Rattle.machine.specs.place_names.Names.{Name as PlaceName}
use Rattle.machine.specs.type_definitions.Types.{words, full}
use Rattle.machine.specs.typed_tree.Trees.{TypedTree, NoMore, More}
use Rattle.machine.specs.flow_paths.Objects.{Typing, object_at, is_anonymous, is_observer, view_of}
use Rattle.machine.specs.flow_paths.Names.{has_call, waiting as waits_in, first}
use Rattle.machine.specs.flow_paths.Scopes.{taken}
use Rattle.machine.specs.flow_paths.Acts.{acts_in, declared_acts, source_acts, observe}
use Rattle.machine.specs.Words.{default}
use Rattle.machine.specs.Words as machine
use Rattle.machine.specs.Memory.{Memory, Slot, fresh, no_slot, variable_slots, declared, given_up}
use Rattle.machine.specs.Evaluate.{Now, AsValue, AsView, Evaluated, Done, Raises, Traps, followed_by, evaluate, initial, checked, value, viewed}
use Rattle.machine.specs.States.{Waiting, Leak, State, Outcome}
use Rattle.machine.specs.Step.{Turn, counted, typing, here, first_value, taken_by, goes, declare}
use Rattle.machine.specs.Step as steps
use Rattle.machine.specs.Owners.{waiting_in, WellOwned}
use Rattle.soundness.specs.OwnedWays.Ways.{Step, Root, OfVariable, OfHand, Loc, OfRoot, OfCell, Inside, Way, Object, Lost, Into, All, Empty, View, Reaches, Under, Named, part, along, base_of, after, AllowsAll, number_of}
use Rattle.soundness.specs.OwnedWays.Ways as ways
use Rattle.soundness.proofs.OwnedWays.Named.{longer}
use Rattle.soundness.proofs.OwnedWays.Dropped.{named_base}
use Rattle.soundness.proofs.OwnedWays.Locations.{reaches_along, named_along as rooted_along}
use Rattle.soundness.proofs.OwnedWays.Assigned.{is_false}
use Rattle.soundness.specs.PartOffsets.Parts.{offset_in, is_leaf, IsSettled}
use Rattle.soundness.specs.Seen.{IsNear, is_view_formal, content, trunk, steps_in, word_in, owner_at, seen, home}
use Rattle.soundness.specs.Changes.{Alike}
use Rattle.soundness.specs.Typed.{OwnsByShape, Kept}
use Rattle.soundness.specs.TypedLaws.Needed.{Source, FirstSource}
use Rattle.soundness.proofs.Near.{near_under, near_along}
use Rattle.soundness.proofs.Contents.{bool_cases, word_yes, word_no, word_root}
use Rattle.soundness.proofs.Memories.{put_other}
use Rattle.soundness.proofs.Moments.{declared_sound, number_part}
use Rattle.soundness.proofs.Steps.{alike}
use Rattle.soundness.proofs.Defaults.{none_default}
use Rattle.soundness.proofs.Following.{Each}
use Rattle.soundness.proofs.Fading.{FadesTo, still, then_fades, if_fades, checked_fades, fades}
use Rattle.soundness.proofs.Lasting.{keeps, lengths, declared_kept}
use Rattle.soundness.proofs.Numbers.{index_law}
use Rattle.soundness.proofs.Scalars.{acts}
use Rattle.soundness.proofs.Taking.{Takes, takes_as, takes_zero, no_takes, nothing_more}
use Rattle.soundness.specs.OwnedLoans.Views.{Around, Views, expand, ExcusedBy, Viewed, IsForeign}
use Rattle.soundness.proofs.OwnedLoans.Ways.{lifts, lifted_way, root_on, base_on, home_or_foreign, part_root}
use Rattle.soundness.proofs.OwnedLoans.Moves.{as_sound, all_known, view_on, view_rooted, reached, parts_on}
use Rattle.soundness.proofs.OwnedLoans.Meeting.{stands, no_part}
use Rattle.soundness.specs.ViewedSoundness.Taken.{GivesPlainly}
use Rattle.soundness.specs.ViewedSoundness.Holds.{IsNamed, PartsAreNamed, Holds, AllKeep, is_view, is_fixed, Seeing}
use Rattle.soundness.proofs.ViewedSoundness.Names.{parts_same}
use Rattle.soundness.proofs.ViewedSoundness.ViewKinds.{bundle_view, both_no, true_false}
use Rattle.soundness.proofs.ViewedSoundness.Moments.{hands_spared}
use Rattle.soundness.proofs.ViewedSoundness.Evaluated.{gives_plainly, Given, blank_ready, checked_given, evaluated_on}
use Rattle.soundness.proofs.ViewedSoundness.Outcomes.{named_plain, not_views, IsGood, Leads_on, raises, start_is, unturned, goes_to}
use Rattle.viewed_steps.proofs.Views.{AreAccess, same_named}
use Rattle.soundness.proofs.Parted.{cell_root, hand_variable, by_either}
use Rattle.viewed_steps.proofs.Parted.{loc_roots}

-- ---- a variable that had nothing gets a value

pub same_root : (f x g y : ℕ) → OfVariable f x ≡ OfVariable g y → (f ≡ g) × (x ≡ y)
same_root f x g y e = (cc, cc)

-- What is in no variable but another one, and in no hand.
abbrev IsOff : ℕ → ℕ → Loc → Type 0
IsOff f x (OfRoot (OfVariable g y)) = OfVariable f x ≡ OfVariable g y → ⊥
IsOff f x (OfRoot (OfHand h)) = ⊥
IsOff f x (OfCell c) = Unit {0}
IsOff f x (Inside l i) = IsOff f x l

-- An object of the frame isn't the root of a way.
abbrev pub IsElsewhere : (ℕ → ℕ) → ℕ → ℕ → Way → Type 0
IsElsewhere home f x w = Named home w → home x ≡ f → number_of w ≡ x → ⊥

off_there : (home : ℕ → ℕ) (s : View) (f x : ℕ) (w : Way) (l : Loc) → Named home w → IsElsewhere home f x w → Reaches s w l → IsOff f x l
off_there home s f x (Object (OfVariable g y)) l n off r =
    subst (IsOff f x) (sym r) (λ e. (
    let same = same_root f x g y e in
    off n (ap home same.1 ∙ sym n ∙ sym same.0) (sym same.1)))
off_there home s f x (Object (OfHand h)) l n off r = absurd n
off_there home s f x (Lost c) l n off r = absurd n
off_there home s f x (Into w i) l n off (m, r, e) = subst (IsOff f x) (sym e) (off_there home s f x w m n off r)
off_there home s f x (All w) l n off (m, c, r, held, e) = subst (IsOff f x) (sym e) tt

reaches_off : (home : ℕ → ℕ) (s t : View) (f x : ℕ) → ((l : Loc) → IsOff f x l → t.word l ≡ s.word l) → (w : Way) (l : Loc) → Named home w
    → IsElsewhere home f x w → Reaches s w l → Reaches t w l
reaches_off home s t f x same (Object r) l n off reach = reach
reaches_off home s t f x same (Lost c) l n off reach = absurd n
reaches_off home s t f x same (Into w i) l n off (m, reach, e) = (m, reaches_off home s t f x same w m n off reach, e)
reaches_off home s t f x same (All w) l n off (m, c, reach, held, e) =
    (m, c, reaches_off home s t f x same w m n off reach, same m (off_there home s f x w m n off reach) ∙ held, e)

word_off : (s : Typing) (m : Memory) (a b : List Waiting) (leaks : List Leak) (f x : ℕ) (ws : List machine.Word) (l : Loc) → IsOff f x l
    → (seen s (declared f x ws m) b leaks).word l ≡ (seen s m a leaks).word l
word_off s m a b leaks f x ws l off = by_trunk l (steps_in l) off
  where
    by_trunk : (l : Loc) (p : List Step) → IsOff f x l
        → word_in s.table (content s (declared f x ws m) b (trunk l)) p ≡ word_in s.table (content s m a (trunk l)) p
    by_trunk (OfRoot (OfVariable g y)) p off =
        ap (λ z. word_in s.table (record { of = (object_at s y).of; slots = z; owns = (content s m a (OfRoot (OfVariable g y))).owns }) p)
        (put_other s f x g y off (fresh ws) m.variables)
    by_trunk (OfRoot (OfHand h)) p off = absurd off
    by_trunk (OfCell c) p off = refl
    by_trunk (Inside l i) p off = by_trunk l p off

-- the same for a way from another variable
far_there : (s : View) (f x g y : ℕ) (w : Way) (l : Loc) → base_of w ≡ OfRoot (OfVariable g y) → (OfVariable f x ≡ OfVariable g y → ⊥) → Reaches s w l → IsOff f x l
far_there s f x g y (Object (OfVariable h z)) l base off r =
    let same : OfVariable h z ≡ OfVariable g y = loc_roots base in
    subst (IsOff f x) (sym r) (λ e. off (e ∙ same))
far_there s f x g y (Object (OfHand h)) l base off r = absurd (hand_variable base)
far_there s f x g y (Lost c) l base off r = absurd (cell_root base)
far_there s f x g y (Into w i) l base off (m, r, e) = subst (IsOff f x) (sym e) (far_there s f x g y w m base off r)
far_there s f x g y (All w) l base off (m, c, r, held, e) = subst (IsOff f x) (sym e) tt

far_off : (s t : View) (f x g y : ℕ) → ((l : Loc) → IsOff f x l → t.word l ≡ s.word l) → (w : Way) (l : Loc) → base_of w ≡ OfRoot (OfVariable g y)
    → (OfVariable f x ≡ OfVariable g y → ⊥) → Reaches s w l → Reaches t w l
far_off s t f x g y same (Object r) l base off reach = reach
far_off s t f x g y same (Lost c) l base off reach = absurd (cell_root base)
far_off s t f x g y same (Into w i) l base off (m, reach, e) = (m, far_off s t f x g y same w m base off reach, e)
far_off s t f x g y same (All w) l base off (m, c, reach, held, e) =
    (m, c, far_off s t f x g y same w m base off reach, same m (far_there s f x g y w m base off reach) ∙ held, e)

-- a way from another variable reaches what it reached
pub declared_low : (s : Typing) (m : Memory) (got : Waiting) (rest : List Waiting) (leaks : List Leak) (f x : ℕ) (w : Way) (g y : ℕ)
    → base_of w ≡ OfRoot (OfVariable g y) → (OfVariable f x ≡ OfVariable g y → ⊥) → (n : ℕ)
    → Reaches (seen s m (got ∷ rest) leaks) w (OfCell n) → Reaches (seen s (declared f x got.words m) rest leaks) w (OfCell n)
declared_low s m got rest leaks f x w g y base off n reach =
    far_off (seen s m (got ∷ rest) leaks) (seen s (declared f x got.words m) rest leaks) f x g y
    (λ l there. word_off s m (got ∷ rest) rest leaks f x got.words l there) w (OfCell n) base off reach

-- A variable isn't one that a way of others begins at.
abbrev pub IsApart : (home : ℕ → ℕ) → Around home → ℕ → ℕ → Type 0
IsApart home other f x =
    (w : Way) → ((n : ℕ) × other.kept w n) ⊎ ((l : Loc) × (p : List Step) × other.bare w l p) → base_of w ≡ OfRoot (OfVariable f x) → ⊥

-- nor one in which something is bare
bare_off : (home : ℕ → ℕ) (other : Around home) (f x : ℕ) → IsApart home other f x → (w : Way) (l : Loc) (p q : List Step) → other.bare w l p → IsOff f x (part l q)
bare_off home other f x apart w l p q bare = by_either (other.rests w l p bare)
    (λ (n, keeps, is). (subst (λ z. IsOff f x (part z q)) (sym is) (below q (OfCell n) tt)))
    (λ (r, way, is). (let (g, y, base, other_one) = other.bares w l p bare in
    let root : OfRoot r ≡ OfRoot (OfVariable g y) = sym (ap base_of way) ∙ base in
    subst (λ z. IsOff f x (part z q)) (sym (is ∙ root)) (below q (OfRoot (OfVariable g y)) (λ e. apart w (inr (l, p, bare)) (base ∙ ap OfRoot (sym e))))))
  where
    below : (q : List Step) (l : Loc) → IsOff f x l → IsOff f x (part l q)
    below [] l off = off
    below (i ∷ q) l off = below q l off

frame_of : (f x g y : ℕ) → OfVariable f x ≡ OfVariable g y → g ≡ f
frame_of f x g y e = cc

module _ (s : Typing) (settled : IsSettled s.table) (home : ℕ → ℕ) (observer : ℕ → Bool) (other : Around home) (v : Views) where
  pub declared_viewed : (m : Memory) (got : Waiting) (rest : List Waiting) (leaks : List Leak) (facts : List Fact) (f x : ℕ)
      → Viewed home observer other v (seen s m (got ∷ rest) leaks) facts → ((h : ℕ) (w : Way) → Under (Object (OfHand h)) w → other.gone w → ⊥) → Kept s m (got ∷ rest)
      → ((p : List Step) → word_in s.table (content s m (got ∷ rest) (OfRoot (OfVariable f x))) p ≡ Empty)
      → is_view_formal s x ≡ false → length got.words ≡ words s.table (object_at s x).of → Alike s.table got.of (object_at s x).of
      → ((y : ℕ) (w : Way) → v.way y ≡ Some w → (foreign : IsForeign home w) → foreign.0 ≡ f → ⊥)
      → ((y : ℕ) (p : List Step) (w : Way) → v.part_way y p ≡ Some w → base_of w ≡ OfRoot (OfVariable f x) → ⊥)
      → ((y : ℕ) (w : Way) → v.way y ≡ Some w → IsElsewhere home f x w) → IsApart home other f x → Viewed home observer other v (seen s (declared f x got.words m) rest leaks) facts
  declared_viewed m got rest leaks facts f x viewed alone kept blank own long like far far_parts free apart =
      let a : View = seen s m (got ∷ rest) leaks in
      let b : View = seen s (declared f x got.words m) rest leaks in
      let sound = declared_sound s settled home (ExcusedBy home v other facts) m got rest leaks [] f x (as_sound home observer other v a facts viewed)
      (hands_spared home observer other v a facts viewed alone) kept blank own long like in
      record {
        owned = sound.owned;
        covered = sound.covered;
        known = all_known home observer other v b facts sound.known;
        clear = viewed.clear;
        lends = viewed.lends;
        views = (
          λ y w has. (let view = viewed.views.0 y w has in
              view_on home observer other v a b facts facts y w view (λ seen n loan. loan)
              (stays y w has (view_rooted home observer other v a facts viewed.views y w has).3 (reached home observer other v a facts y w view))),
          parts_on home observer other v a b viewed.views.1
              (λ y p w has reach. (let root = (viewed.views.1 y p w has).begins in
              far_off a b f x root.0 root.1 (λ l off. word_off s m (got ∷ rest) rest leaks f x got.words l off) w (OfCell (v.part_cell y p)) root.2
              (λ e. far_parts y p w has (root.2 ∙ ap OfRoot (sym e))) reach)),
        );
        whole = viewed.whole;
        whole_away = viewed.whole_away;
        shown = viewed.shown;
        whole_parts = viewed.whole_parts;
        parts_away = viewed.parts_away;
        past = viewed.past;
        far = λ w n keeps. (let root = other.begins w n keeps in
            far_off a b f x root.0 root.1 (λ l off. word_off s m (got ∷ rest) rest leaks f x got.words l off) w (OfCell n) root.2
            (λ e. apart w (inl (n, keeps)) (root.2 ∙ ap OfRoot (sym e))) (viewed.far w n keeps));
        bare = λ w l p bare q c held. viewed.bare w l p bare q c
            (sym (word_off s m (got ∷ rest) rest leaks f x got.words (part l (q ++ p)) (bare_off home other f x apart w l p (q ++ p) bare)) ∙ held);
      }
    where
      stays : (y : ℕ) (w : Way) → v.way y ≡ Some w
          → Named home w ⊎ IsForeign home w → Reaches (seen s m (got ∷ rest) leaks) w (OfCell (v.cell y))
          → Reaches (seen s (declared f x got.words m) rest leaks) w (OfCell (v.cell y))
      stays y w has (inl named) reaches =
          reaches_off home (seen s m (got ∷ rest) leaks) (seen s (declared f x got.words m) rest leaks) f x
          (λ l off. word_off s m (got ∷ rest) rest leaks f x got.words l off) w (OfCell (v.cell y))
          named (free y w has) reaches
      stays y w has (inr foreign) reaches =
          far_off (seen s m (got ∷ rest) leaks) (seen s (declared f x got.words m) rest leaks) f x foreign.0 foreign.1
          (λ l off. word_off s m (got ∷ rest) rest leaks f x got.words l off) w (OfCell (v.cell y)) foreign.2
          (λ e. far y w has foreign (frame_of f x foreign.0 foreign.1 e)) reaches

-- the root of what a name stands for
pub stands_root : (v : Views) (u : Way) → ((p : List Step) → v.part_way (number_of u) p ≡ None) → (number_of (expand v u) ≡ number_of u)
    ⊎ ((y : ℕ) × (k : Way) × (v.way y ≡ Some k) × (number_of (expand v u) ≡ number_of k) × (base_of (expand v u) ≡ base_of k))
stands_root v u bare = elim (lifts v u) [
  | inl e ↦ inl (ap number_of e)
  | inr (inr l) ↦ (let is : Some l.way ≡ None = sym l.has ∙ ap (λ z. v.part_way z l.steps) (sym (part_root v u l)) ∙ bare l.steps in absurd (true≢false (ap is_some is)))
  | inr (inl l) ↦ inr (l.object, l.way, l.has, ap number_of (lifted_way v u l) ∙ root_on l.way l.rest, ap base_of (lifted_way v u l) ∙ base_on l.way l.rest)
]

base_frame : (f x g y : ℕ) → OfRoot (OfVariable f x) ≡ OfRoot (OfVariable g y) → f ≡ g
base_frame f x g y e = cc

along_base : (w : Way) (p : List Step) → base_of (along w p) ≡ base_of w
along_base w [] = refl
along_base w (i ∷ p) = along_base w p

in_home : (home : ℕ → ℕ) (f x : ℕ) (p : List Step) → Named home (along (Object (OfVariable f x)) p) → f ≡ home x
in_home home f x [] named = named
in_home home f x (i ∷ p) named = in_home home f x p named

-- The words of the variables of other objects stay.
abbrev pub OthersStay : Typing → Memory → ℕ → ℕ → Memory → Type 0
OthersStay s m f x n =
    (g y i : ℕ) → (OfVariable f x ≡ OfVariable g y → ⊥)
    → (get_or (variable_slots s g y n.variables) i no_slot).word ≡ (get_or (variable_slots s g y m.variables) i no_slot).word

-- ---- the outcome

module _ (t : Turn) (sees : ℕ → Bool) (seeing : Seeing (typing t) sees) (settled : IsSettled (typing t).table) (own_law : OwnsByShape (typing t).table) (other : Around (home (typing t) (length t.outer)))
    (alone : (w : Way) → IsNear (length t.outer) w → other.gone w → ⊥) (in_formals : AreAccess (typing t))
    (v : Views) (parts_named : PartsAreNamed (typing t).table) (may : ℕ → ℕ → Type 0)
    (frames : t.state.frames ≡ t.frame ∷ t.outer) (none : taken t.point.instr ≡ 0) where
  abbrev s : Typing
  s = typing t

  abbrev depth : ℕ
  depth = length t.outer

  abbrev hands : List Waiting
  hands = waiting_in t.state

  abbrev m : Memory
  m = t.state.memory

  -- with these values, which the instruction takes
  abbrev at : List (List machine.Word) → Now
  at ws = record { memory = m; waits = ws }

  abbrev Good : List Fact → Type 0
  Good facts = IsGood t sees seeing settled own_law other alone v parts_named may frames none v facts t.state

  abbrev LeadsHere : List Fact → Outcome → Type 0
  LeadsHere facts outcome = Leads_on t sees seeing settled own_law other alone v parts_named may frames none facts outcome

  abbrev Given_here : ℕ → List Fact → Evaluated (List machine.Word) → Type 0
  Given_here u facts x = Given (here t) sees seeing settled t.state.leaks [] other alone (keeps s settled own_law) index_law own_law v parts_named u hands facts x

  -- the object has nothing before
  abbrev pub IsBlank : ℕ → Memory → Type 0
  IsBlank x m = (p : List Step) → word_in s.table (content s m [] (OfRoot (OfVariable depth x))) p ≡ Empty

  -- no fact says that a part of it was moved
  abbrev pub IsUnmoved : ℕ → List Fact → Type 0
  IsUnmoved x facts = (name : PlaceName) → Has facts (Moved name) → name.root ≡ x → depth ≡ home s depth x → ⊥

  -- no view has a way from it, and no part of it is lent to others
  abbrev pub IsFree : ℕ → Type 0
  IsFree x =
      ((y : ℕ) (w : Way) → v.way y ≡ Some w
      → ((foreign : IsForeign (home s depth) w) → foreign.0 ≡ depth → ⊥) × IsElsewhere (home s depth) depth x w)
      × ((l : Loan) (name : PlaceName) → other.lent l name → name.root ≡ x → depth ≡ home s depth x → ⊥)
      × ((y : ℕ) (p : List Step) (w : Way) → v.part_way y p ≡ Some w → base_of w ≡ OfRoot (OfVariable depth x) → ⊥)

  -- a part of it that is gone would be known as moved
  pub not_gone : (x : ℕ) (facts : List Fact) (z : View) → Viewed (home s depth) sees other v z facts → IsUnmoved x facts → IsFree x
      → (p : List Step) → ExcusedBy (home s depth) v other facts (along (Object (OfVariable depth x)) p) → ⊥
  not_gone x facts z viewed unmoved free p (inr o) = alone (along (Object (OfVariable depth x)) p) (near_along depth (Object (OfVariable depth x)) p (inr refl)) o
  not_gone x facts z viewed unmoved free p (inl (inr away)) =
      let t = other.through (along (Object (OfVariable depth x)) p) away in
      let same = longer t.0 (along (Object (OfVariable depth x)) p) t.2 in
      let base = sym (named_base (home s depth) t.0 t.1) ∙ sym same.base ∙ along_base (Object (OfVariable depth x)) p in
      let root : number_of t.0 ≡ x = sym same.root ∙ number_part (Object (OfVariable depth x)) p in
      free.1 Borrowed (ways.name_of t.0) t.3 root (sym (base_frame (home s depth (number_of t.0)) (number_of t.0) depth x base) ∙ ap (home s depth) root)
  not_gone x facts z viewed unmoved free p (inl (inl (u, moved, leads))) =
      let root : number_of (expand v u) ≡ x = ap number_of leads ∙ number_part (Object (OfVariable depth x)) p in
      let at : base_of (expand v u) ≡ OfRoot (OfVariable depth x) = ap base_of leads ∙ along_base (Object (OfVariable depth x)) p in
      by_either (stands (home s depth) sees v z facts viewed.views u (moved.0, viewed.clear.owned (ways.name_of u) moved.1))
      (λ own. (
      let named : Named (home s depth) (along (Object (OfVariable depth x)) p) = subst (Named (home s depth)) leads own.named in
      by_either (stands_root v u (no_part (home s depth) sees v z facts viewed.views u (viewed.clear.owned (ways.name_of u) moved.1)))
      (λ e. (unmoved (ways.name_of u) moved.1 (sym e ∙ root) (in_home (home s depth) depth x p named)))
      (λ (y, k, has, e, base). ((free.0 y k has).1
      (same_named (home s depth) k (along (Object (OfVariable depth x)) p) (sym base ∙ ap base_of leads) named)
      (sym (in_home (home s depth) depth x p named)) (sym e ∙ root)))))
      (λ held. (by_either (home_or_foreign (home s depth) held.way held.passed.begins)
      (λ at_home. (
      let below = longer held.way (expand v u) held.under in
      let named : Named (home s depth) (along (Object (OfVariable depth x)) p) =
      same_named (home s depth) (along (Object (OfVariable depth x)) p) held.way (ap base_of (sym leads) ∙ below.base) at_home in
      (free.0 held.object held.way held.has).1 at_home (sym (in_home (home s depth) depth x p named)) (sym below.root ∙ root)))
      (λ foreign. ((free.0 held.object held.way held.has).0 foreign
      (base_frame foreign.0 foreign.1 depth x (sym foreign.2 ∙ sym (longer held.way (expand v u) held.under).base ∙ at))))))

  blank_after : (x : ℕ) → is_view_formal s x ≡ false → (facts : List Fact) (ws : List machine.Word) (n : Now) → Given_here (object_at s x).of facts (Done ws n)
      → FadesTo (here t) {A = List machine.Word} m (Done ws n) → IsBlank x m → IsUnmoved x facts → IsFree x → IsBlank x n.memory
  blank_after x owner facts ws n these faint new unmoved free p = let (ready, long, same) = these in by_either (bool_cases (is_leaf s.table (object_at s x).of p))
      (λ leaf. (
      let one = faint depth x (offset_in s.table (object_at s x).of p) in
      let own : not (is_view_formal s x) ≡ true = ap not owner in
      let old : Slot = get_or (variable_slots s depth x m.variables) (offset_in s.table (object_at s x).of p) no_slot in
      let now_there : Slot = get_or (variable_slots s depth x n.memory.variables) (offset_in s.table (object_at s x).of p) no_slot in
      let root : Root = OfVariable depth x in
      let hands' : List Waiting = record { of = (object_at s x).of; words = ws } ∷ hands in
      word_yes s.table (content s n.memory [] (OfRoot root)) p own leaf ∙ by_either (bool_cases now_there.gone)
      (λ gone. (absurd (not_gone x facts (seen s n.memory hands' t.state.leaks) ready.viewed unmoved free p
      (ready.viewed.known (along (Object root) p) (part (OfRoot root) p) (rooted_along (Object root) p tt)
      (reaches_along (seen s n.memory hands' t.state.leaks) (Object root) (OfRoot root) p refl)
      (word_root s.table (content s n.memory hands') root p ∙ word_yes s.table (content s n.memory hands' (OfRoot root)) p own leaf
      ∙ ap (owner_at now_there.word) gone)))))
      (λ whole. (
      let was : old.gone ≡ false = is_false old.gone (λ g. (let no_more : true ≡ false = sym (one.gone g) ∙ whole in absurd (true≢false no_more))) in
      (λ j. owner_at (one.word j) (whole j)) ∙ ap (owner_at old.word) (sym was)
      ∙ sym (word_yes s.table (content s m [] (OfRoot root)) p own leaf) ∙ new p))))
      (λ isnt. (word_no s.table (content s n.memory [] (OfRoot (OfVariable depth x))) p isnt))

  pub first_fades : (ws : List (List machine.Word)) (u : ℕ) (e : TypedTree) → FirstSource s u e → FadesTo (here t) m (first_value t u e (at ws))
  unfolding initial
  first_fades ws u (More e rest) gives =
      if_fades (here t) m (is_anonymous (full s.table u)) (viewed (here t) e (at ws)) (followed_by (value (here t) e (at ws)) (checked (here t) u))
      (fades (here t) AsView e (at ws))
      (then_fades (here t) m (value (here t) e (at ws)) (checked (here t) u) (fades (here t) AsValue e (at ws)) (checked_fades (here t) u))
  first_fades ws u NoMore gives = still s m
  first_fades ws u e gives = absurd gives

  pub source_given : (ws : List (List machine.Word)) (u : ℕ) (e : TypedTree) → IsNamed s.table u → Source s u e → GivesPlainly s e → Takes (waits_in e) ws [] → (facts : List Fact) → Good facts
      → AllowsAll facts (acts (acts_in s e)) → AllKeep (is_fixed s sees) (acts (acts_in s e)) → Given_here u (after (acts (acts_in s e)) facts) (taken_by t u e (at ws))
  source_given ws u e named (inl (view, is)) calls takes facts good allowed keep = absurd (true_false (is_anonymous (full s.table u)) view (named_plain s.table u named))
  source_given ws u e named (inr gives) calls takes facts good allowed keep =
      subst (λ b. Given_here u (after (acts (acts_in s e)) facts) (if b then viewed (here t) e (at ws) else followed_by (value (here t) e (at ws)) (checked (here t) u)))
      (sym (named_plain s.table u named))
      (checked_given (here t) sees seeing settled t.state.leaks [] other alone (keeps s settled own_law) index_law own_law v parts_named u u hands
      (after (acts (acts_in s e)) facts) (evaluate (here t) AsValue e (at ws))
      (evaluated_on (here t) sees seeing settled t.state.leaks [] other alone (keeps s settled own_law) index_law own_law v parts_named e u gives calls ws [] takes
      m hands facts (record { viewed = good.viewed; kept = good.kept; holds = good.holds }) allowed named keep))

  pub first_given : (ws : List (List machine.Word)) (u : ℕ) (e : TypedTree) → IsNamed s.table u → FirstSource s u e → GivesPlainly s e → Takes (waits_in e) ws [] → (facts : List Fact) → Good facts
      → AllowsAll facts (acts (acts_in s e)) → AllKeep (is_fixed s sees) (acts (acts_in s e)) → Given_here u (after (acts (acts_in s e)) facts) (first_value t u e (at ws))
  unfolding acts_in GivesPlainly initial waits_in
  first_given ws u (More e rest) named (last, gives) calls takes facts good allowed keep =
      let same : acts_in s e ++ acts_in s rest ≡ acts_in s e = ap (λ z. acts_in s e ++ acts_in s z) last ∙ append-nil (acts_in s e) in
      let alone_there : waits_in e + waits_in rest ≡ waits_in e = ap (λ z. waits_in e + waits_in z) last ∙ nothing_more (waits_in e) in
      subst (λ z. Given_here u (after (acts z) facts) (taken_by t u e (at ws))) (sym same)
      (source_given ws u e named gives calls.0
      (takes_as (waits_in e + waits_in rest) (waits_in e) ws [] alone_there takes) facts good (subst (λ z. AllowsAll facts (acts z)) same allowed)
      (subst (λ z. AllKeep (is_fixed s sees) (acts z)) same keep))
  first_given ws u NoMore named gives calls takes facts good allowed keep = (
    blank_ready (here t) sees seeing settled t.state.leaks [] other alone (keeps s settled own_law) index_law own_law v parts_named
        m hands facts u (default s.table u) (none_default s.table u) (record { viewed = good.viewed; kept = good.kept; holds = good.holds }),
    lengths s.table u,
    takes_zero ws [] takes,
  )
  first_given ws u e named gives calls takes facts good allowed keep = absurd gives

  -- the variables of views stay
  holds_beside : (n : Memory) (x : ℕ) (ws : List machine.Word) → IsNamed s.table (object_at s x).of → is_view_formal s x ≡ false → Holds s sees depth v n → Holds s sees depth v (declared depth x ws n)
  holds_beside n x ws named owner holds = record {
    held = λ y k view bare e. holds.held y k view bare
        (sym (ap (λ z. (get_or z 0 no_slot).word) (put_other s depth x (home s depth y) y (off y view) (fresh ws) n.variables)) ∙ e);
    only = holds.only;
    owners = holds.owners;
    access = holds.access;
    own = holds.own;
    taken = holds.taken;
    parts = parts_same s sees depth v n (declared depth x ws n)
        (λ y p bundle. ap (λ z. (get_or z (offset_in s.table (object_at s y).of p) no_slot).word)
        (put_other s depth x (home s depth y) y (off y (bundle_view s y bundle)) (fresh ws) n.variables)) holds.parts;
  }
    where
      off : (y : ℕ) → is_view s y ≡ true → OfVariable depth x ≡ OfVariable (home s depth y) y → ⊥
      off y view e =
          let same = same_root depth x (home s depth y) y e in
          true_false (is_view s y) view
          (ap (is_view s) (sym same.1) ∙ both_no (is_anonymous (view_of s x)) (is_view_formal s x) (named_plain s.table (object_at s x).of named) owner)

  -- with this value
  pub declared_goes : (x : ℕ) (facts : List Fact) → IsNamed s.table (object_at s x).of → is_view_formal s x ≡ false → (ws : List machine.Word) (n : Now)
      → Given_here (object_at s x).of facts (Done ws n) → FadesTo (here t) {A = List machine.Word} m (Done ws n) → IsBlank x m → IsUnmoved x facts → IsFree x
      → IsApart (home s depth) other depth x → LeadsHere facts (goes t (declared depth x ws n.memory) 0)
  declared_goes x facts named owner ws n these faint new unmoved free apart =
      let (ready, long, same) = these in
      goes_to t sees seeing settled own_law other alone v parts_named may frames none (declared depth x ws n.memory) 0 v facts
      (unturned t sees seeing settled own_law other alone v parts_named may frames none facts)
      (declared_viewed s settled (home s depth) sees other v n.memory (record { of = (object_at s x).of; words = ws }) hands t.state.leaks facts depth x
      ready.viewed (λ h w under o. alone w (near_under depth (Object (OfHand h)) w under tt) o) ready.kept (blank_after x owner facts ws n (ready, long, same) faint new unmoved free) owner long
      (alike s.table settled (object_at s x).of (object_at s x).of (inl refl))
      (λ y w has. (free.0 y w has).0) free.2 (λ y w has. (free.0 y w has).1) apart)
      (declared_kept s settled n.memory depth x (record { of = (object_at s x).of; words = ws }) hands ready.kept long (inl refl))
      (holds_beside n.memory x ws named owner ready.holds)

  then_declared : ((n : Memory) → WellOwned s (counted (record t.state { memory = given_up t.state.memory n }))) → (x : ℕ) (facts : List Fact)
      → IsNamed s.table (object_at s x).of → is_view_formal s x ≡ false → (y : Evaluated (List machine.Word)) → Given_here (object_at s x).of facts y
      → FadesTo (here t) m y → IsBlank x m → IsUnmoved x facts → IsFree x → IsApart (home s depth) other depth x
      → LeadsHere facts (steps.evaluated t y (λ ws n. goes t (declared depth x ws n) 0))
  then_declared well x facts named owner (Done ws n) given faint new unmoved free apart = declared_goes x facts named owner ws n given faint new unmoved free apart
  then_declared well x facts named owner (Raises e n) given faint new unmoved free apart = (λ trap. trap, well n.memory)
  then_declared well x facts named owner (Traps e n) never faint new unmoved free apart = absurd never

  -- An object is declared. It has nothing yet, and no fact after the evaluation names it.
  pub declare_on : (ws : List (List machine.Word)) (x : ℕ) (e : TypedTree) → IsNamed s.table (object_at s x).of → is_view_formal s x ≡ false → FirstSource s (object_at s x).of e
      → GivesPlainly s e → Takes (waits_in e) ws [] → (facts : List Fact)
      → Good facts → AllowsAll facts (acts (declared_acts s x e)) → AllKeep (is_fixed s sees) (acts (declared_acts s x e))
      → IsBlank x m → IsUnmoved x (after (acts (declared_acts s x e)) facts) → IsFree x → IsApart (home s depth) other depth x
      → LeadsHere (after (acts (declared_acts s x e)) facts) (steps.evaluated t (first_value t (object_at s x).of e (at ws)) (λ ws n. goes t (declared depth x ws n) 0))
  declare_on ws x e named owner gives calls takes facts good allowed keep new unmoved free apart =
      let kinds = not_views s x named in
      let same : declared_acts s x e ≡ acts_in s e =
      ap (λ b. if b then source_acts s (first e) (act.Borrow x) else
      (if is_observer s x then source_acts s (first e) (observe s x) else acts_in s e)) kinds.0
      ∙ ap (λ b. if b then source_acts s (first e) (observe s x) else acts_in s e) kinds.1 in
      subst (λ z. LeadsHere (after (acts z) facts) (steps.evaluated t (first_value t (object_at s x).of e (at ws)) (λ ws n. goes t (declared depth x ws n) 0))) (sym same)
      (then_declared (raises t sees seeing settled own_law other alone v parts_named may frames none facts good) x (after (acts (acts_in s e)) facts) named owner
      (first_value t (object_at s x).of e (at ws))
      (first_given ws (object_at s x).of e named gives calls takes facts good (subst (λ z. AllowsAll facts (acts z)) same allowed) (subst (λ z. AllKeep (is_fixed s sees) (acts z)) same keep))
      (first_fades ws (object_at s x).of e gives) new (subst (λ z. IsUnmoved x (after (acts z) facts)) same unmoved) free apart)

  pub declare_leads : (x : ℕ) (e : TypedTree) → IsNamed s.table (object_at s x).of → is_view_formal s x ≡ false → FirstSource s (object_at s x).of e → has_call e ≡ false → (facts : List Fact)
      → Good facts → AllowsAll facts (acts (declared_acts s x e)) → AllKeep (is_fixed s sees) (acts (declared_acts s x e))
      → IsBlank x m → IsUnmoved x (after (acts (declared_acts s x e)) facts) → IsFree x → IsApart (home s depth) other depth x
      → LeadsHere (after (acts (declared_acts s x e)) facts) (declare t x e)
  declare_leads x e named owner gives calls facts good allowed keep new unmoved free apart =
      subst (λ z. LeadsHere (after (acts (declared_acts s x e)) facts) (steps.evaluated t (first_value t (object_at s x).of e z) (λ ws n. goes t (declared depth x ws n) 0)))
      (sym (start_is t sees seeing settled own_law other alone v parts_named may frames none))
      (declare_on [] x e named owner gives (gives_plainly s e (inl calls)) (no_takes e calls []) facts good allowed keep new unmoved free apart)

  -- ---- variables of other objects

  then_stay : (x : ℕ) (y : Evaluated (List machine.Word)) → FadesTo (here t) m y
      → Each (λ (state : State). OthersStay s m depth x state.memory) (steps.evaluated t y (λ ws n. goes t (declared depth x ws n) 0))
  then_stay x (Done ws n) faint = λ g y i off.
      ap (λ z. (get_or z i no_slot).word) (put_other s depth x g y off (fresh ws) n.memory.variables) ∙ (faint g y i).word
  then_stay x (Raises e n) faint = tt
  then_stay x (Traps e n) faint = tt

  pub others_stay : (ws : List (List machine.Word)) (x : ℕ) (e : TypedTree) → FirstSource s (object_at s x).of e
      → Each (λ (state : State). OthersStay s m depth x state.memory) (steps.evaluated t (first_value t (object_at s x).of e (at ws)) (λ ws n. goes t (declared depth x ws n) 0))
  others_stay ws x e gives = then_stay x (first_value t (object_at s x).of e (at ws)) (first_fades ws (object_at s x).of e gives)
