-- What a traversal function returns: null, or what goes on from what its first formal sees.
use Rattle.std.proofs.Common.{false, ◌≡◌, refl, sym, ap, ◌∙◌, subst, ◌⊎◌, inl, inr, ℕ, Bool, true, List, [], ◌∷◌, ◌++◌, length, Option, Some, None, if◌then◌else◌}
use Rattle.machine.specs.spark_base.declared.position.Pos.{Pos}
use Rattle.machine.specs.place_names.declared.act.Act.{Act}
use Rattle.machine.specs.place_names.declared.act.Act.TheVariants as act
use Rattle.machine.specs.place_names.declared.fact.Fact.{Fact}
use Rattle.machine.specs.place_names.Names.{Name as PlaceName}
use Rattle.machine.specs.place_names.Facts.{effect}
use Rattle.machine.specs.type_definitions.declared.table.Shape.TheVariants as shape
use Rattle.machine.specs.type_definitions.Types.{shape_of, full}
use Rattle.machine.specs.typed_tree.Trees.{TypedTree, Name, NoMore, More}
use Rattle.machine.specs.flow_paths.Objects.{Typing, object_at, is_anonymous}
use Rattle.machine.specs.flow_paths.Names.{waiting as waits_in, name_of}
use Rattle.machine.specs.flow_paths.Scopes.{taken}
use Rattle.machine.specs.flow_paths.Views.{IsOnlyRoot}
use Rattle.machine.specs.flow_paths.Acts.{acts_in, returned_acts, source_acts, gives_variable}
use Rattle.machine.specs.Words as machine
use Rattle.machine.specs.Memory.{Memory}
use Rattle.machine.specs.Evaluate.{Now, AsView, Evaluated, Done, Raises, Traps, followed_by, evaluate, viewed, value, checked}
use Rattle.machine.specs.States.{Waiting}
use Rattle.machine.specs.Step.{Turn, typing, here, taken_by}
use Rattle.machine.specs.Owners.{waiting_in}
use Rattle.soundness.specs.OwnedWays.Ways.{Way, OfRoot, OfCell, Inside, All, Reaches, Under, Named, Allows, after, AllowsAll}
use Rattle.soundness.specs.OwnedWays.Ways as ways
use Rattle.soundness.proofs.OwnedWays.Locations.{same_loc}
use Rattle.soundness.specs.PartOffsets.Parts.{IsSettled}
use Rattle.soundness.specs.Seen.{IsNear, seen, home}
use Rattle.soundness.specs.Typed.{OwnsByShape}
use Rattle.soundness.specs.TypedLaws.Needed.{Leads, Gives, Matches, Source}
use Rattle.soundness.proofs.Numbers.{index_law}
use Rattle.soundness.proofs.Scalars.{acts, acts_append, after_append, allows_both}
use Rattle.soundness.proofs.Stays.{Quiet}
use Rattle.soundness.proofs.Taking.{Takes}
use Rattle.soundness.specs.OwnedLoans.Views.{Go, Part, Down, on, expand, Around, Views}
use Rattle.soundness.proofs.OwnedLoans.Allowed.{give_clears}
use Rattle.soundness.specs.ViewedSoundness.Holds.{PartsAreNamed, is_view, is_bundle, Seeing}
use Rattle.soundness.proofs.ViewedSoundness.Stays.{steps_taking}
use Rattle.soundness.proofs.ViewedSoundness.Sources.{Shows, source_on}
use Rattle.soundness.proofs.ViewedSoundness.Outcomes.{IsGood, live}
use Rattle.soundness.proofs.ViewedSoundness.Coming.{IsComing, goes_further}
use Rattle.viewed_steps.specs.Traversals.{AreRooted}
use Rattle.viewed_steps.proofs.Rooted.{goes_on_from}
use Rattle.viewed_steps.proofs.Sources.{view_shape, view_scalar}
use Rattle.soundness.proofs.Parted.{by_either}

-- ---- ways are equal or not, and begin each other or not

same_ways : (a b : Way) → (a ≡ b) ⊎ (a ≡ b → ⊥)
same_ways (ways.Object r) (ways.Object q) = by_either (same_loc (OfRoot r) (OfRoot q))
    (λ e. (inl (let is : r ≡ q = cc in ap ways.Object is)))
    (λ differs. (inr (λ e. differs (let is : r ≡ q = cc in ap OfRoot is))))
same_ways (ways.Object r) (ways.Lost n) = inr (λ e. cc)
same_ways (ways.Object r) (ways.Into w i) = inr (λ e. cc)
same_ways (ways.Object r) (All w) = inr (λ e. cc)
same_ways (ways.Lost n) (ways.Object q) = inr (λ e. cc)
same_ways (ways.Lost n) (ways.Lost k) = by_either (same_loc (OfCell n) (OfCell k))
    (λ e. (inl (let is : n ≡ k = cc in ap ways.Lost is)))
    (λ differs. (inr (λ e. differs (let is : n ≡ k = cc in ap OfCell is))))
same_ways (ways.Lost n) (ways.Into w i) = inr (λ e. cc)
same_ways (ways.Lost n) (All w) = inr (λ e. cc)
same_ways (ways.Into w i) (ways.Object q) = inr (λ e. cc)
same_ways (ways.Into w i) (ways.Lost n) = inr (λ e. cc)
same_ways (ways.Into w i) (ways.Into u j) = by_either (same_ways w u)
    (λ same. (by_either (same_loc (Inside (OfCell 0) i) (Inside (OfCell 0) j))
    (λ e. (inl (let is : i ≡ j = cc in (λ k. ways.Into (same k) (is k)))))
    (λ differs. (inr (λ e. differs (let is : i ≡ j = cc in ap (Inside (OfCell 0)) is))))))
    (λ differs. (inr (λ e. differs cc)))
same_ways (ways.Into w i) (All u) = inr (λ e. cc)
same_ways (All w) (ways.Object q) = inr (λ e. cc)
same_ways (All w) (ways.Lost n) = inr (λ e. cc)
same_ways (All w) (ways.Into u j) = inr (λ e. cc)
same_ways (All w) (All u) = by_either (same_ways w u) (λ e. (inl (ap All e))) (λ differs. (inr (λ e. differs cc)))

under_or : (a w : Way) → Under a w ⊎ (Under a w → ⊥)
under_or a (ways.Object x) = same_ways a (ways.Object x)
under_or a (ways.Lost n) = same_ways a (ways.Lost n)
under_or a (ways.Into w i) = by_either (same_ways a (ways.Into w i))
    (λ e. (inl (inl e)))
    (λ differs. (by_either (under_or a w) (λ u. (inl (inr u))) (λ none. (inr (λ u. by_either u (λ e. (differs e)) (λ u. (none u)))))))
under_or a (All w) = by_either (same_ways a (All w))
    (λ e. (inl (inl e)))
    (λ differs. (by_either (under_or a w) (λ u. (inl (inr u))) (λ none. (inr (λ u. by_either u (λ e. (differs e)) (λ u. (none u)))))))

some_is : (k q : Way) → Some k ≡ Some q → k ≡ q
some_is k q e = cc

-- what isn't refuted to go on from the way that there is goes on from it
pub certain : (o : Option Way) (w : Way) → ((((k : Way) × (o ≡ Some k) × Under k w) → ⊥) → ⊥) → (k : Way) × (o ≡ Some k) × Under k w
certain None w sure = absurd (sure (λ (k, is, u). none_some k is))
  where
    none_some : (k : Way) → ◌≡◌ {A = Option Way} None (Some k) → ⊥
    none_some k e = cc
certain (Some k) w sure = elim (under_or k w) [
  | inl u ↦ (k, refl, u)
  | inr differs ↦ absurd (sure (λ (q, is, u). differs (subst (λ z. Under z w) (sym (some_is k q is)) u)))
]

-- what begins with a way goes on from it
pub under_on : (a w : Way) → Under a w → (r : List Go) × (w ≡ on a r)
under_on a (ways.Object x) u = ([], sym u)
under_on a (ways.Lost n) u = ([], sym u)
under_on a (ways.Into w i) u = by_either u (λ e. ([], sym e)) (λ u. (let more = under_on a w u in (Part i ∷ more.0, ap (λ z. ways.Into z i) more.1)))
under_on a (All w) u = by_either u (λ e. ([], sym e)) (λ u. (let more = under_on a w u in (Down ∷ more.0, ap All more.1)))

module _ (t : Turn) (sees : ℕ → Bool) (seeing : Seeing (typing t) sees) (settled : IsSettled (typing t).table) (own_law : OwnsByShape (typing t).table) (other : Around (home (typing t) (length t.outer)))
    (alone : (w : Way) → IsNear (length t.outer) w → other.gone w → ⊥)
    (v : Views) (parts_named : PartsAreNamed (typing t).table) (may : ℕ → ℕ → Type 0)
    (frames : t.state.frames ≡ t.frame ∷ t.outer) (none : taken t.point.instr ≡ 0) where
  abbrev s : Typing
  s = typing t

  abbrev depth : ℕ
  depth = length t.outer

  abbrev hands : List Waiting
  hands = waiting_in t.state

  abbrev m : Memory
  m = t.state.memory

  abbrev at : List (List machine.Word) → Now
  at ws = record { memory = m; waits = ws }

  abbrev Good : List Fact → Type 0
  Good facts = IsGood t sees seeing settled own_law other alone v parts_named may frames none v facts t.state

  abbrev Comes : ℕ → ℕ → PlaceName → machine.Word → Type 0
  Comes y d name z = IsComing t sees seeing settled own_law other alone v parts_named may frames none y d name z

  -- A name that is looked at for a result of an anonymous access type.
  pub record NamesView (of y u : ℕ) (path : TypedTree) : Type 0 where
    pub d : ℕ
    pub k : ℕ
    pub c : Bool
    pub n : Bool
    pub e : Bool
    pub o : Bool
    pub lead : Leads s (object_at s y).of path u
    pub source : shape_of s.table u ≡ shape.Access d c n
    pub want : shape_of s.table of ≡ shape.Access k e o
    pub fits : Matches s.table d k

  pub names_view : (q : Pos) (of y u : ℕ) (path : TypedTree) → is_anonymous (full s.table of) ≡ true → Source s of (Name q y path u) → NamesView of y u path
  unfolding Gives
  names_view q of y u path view (inl (is_view, (d, k, c, n, e, o, lead, source, want, fits))) = record {
    d = d;
    k = k;
    c = c;
    n = n;
    e = e;
    o = o;
    lead = lead;
    source = source;
    want = want;
    fits = fits;
  }
  names_view q of y u path view (inr (lead, inl same)) =
      let sh = view_shape (shape_of s.table of) view in
      record {
        d = sh.0;
        k = sh.0;
        c = sh.1;
        n = sh.2;
        e = sh.1;
        o = sh.2;
        lead = lead;
        source = same ∙ sh.3;
        want = sh.3;
        fits = inl refl;
      }
  names_view q of y u path view (inr (lead, inr scalar)) = absurd (view_scalar (shape_of s.table of) view scalar.1)

  -- What a name has that is given.
  abbrev pub Given : ℕ → ℕ → TypedTree → List machine.Word → Type 0
  Given y d path ws = (z : machine.Word) × (ws ≡ z ∷ []) × Comes y d (name_of y path) z

  shown_given : (y d : ℕ) (path : TypedTree) (facts : List Fact) (good : Good facts) → (e : Evaluated (List machine.Word))
      → Quiet (at []) (λ ws. (w : Way) × Named (home s depth) w × (ways.name_of w ≡ name_of y path)
      × Shows (here t) sees seeing settled hands t.state.leaks m [] other facts v good.kept good.viewed good.holds alone
      (live t sees seeing settled own_law other alone v parts_named may frames none facts good) index_law own_law parts_named y d w ws) e
      → Quiet (at []) (Given y d path) e
  shown_given y d path facts good (Done ws n) (same, (w, named, called, shows)) = (
    same,
    (
      shows.word,
      shows.is,
      record {
        place = w;
        rest = [];
        named = named;
        called = called;
        reached = shows.designated;
        typed = shows.typed;
        goes = shows.goes;
      },
    ),
  )
  shown_given y d path facts good (Raises e n) same = same
  shown_given y d path facts good (Traps e n) none = none

  -- a name is returned
  module _ (ws : List (List machine.Word)) (q : Pos) (of y u : ℕ) (path : TypedTree) (view : is_anonymous (full s.table of) ≡ true)
      (looks : NamesView of y u path) (takes : Takes (waits_in path) ws []) (facts : List Fact) (good : Good facts)
      (allowed : AllowsAll facts (acts (returned_acts s (Some of) (More (Name q y path u) NoMore)))) where
    abbrev borrows : Bool
    borrows = gives_variable s (Some of)

    acts_are : acts (returned_acts s (Some of) (More (Name q y path u) NoMore)) ≡ acts (acts_in s path) ++ act.Give (name_of y path) borrows ∷ []
    acts_are =
        ap (λ b. acts (if b then source_acts s (Name q y path u) (λ m. act.Give m borrows) else acts_in s (More (Name q y path u) NoMore))) view
        ∙ acts_append (acts_in s path) (record { pos = q; act = act.Give (name_of y path) borrows } ∷ [])

    both : AllowsAll facts (acts (acts_in s path)) × AllowsAll (after (acts (acts_in s path)) facts) (act.Give (name_of y path) borrows ∷ [])
    both = allows_both facts (acts (acts_in s path)) (act.Give (name_of y path) borrows ∷ []) (subst (AllowsAll facts) acts_are allowed)

    indexes_change_nothing : after (acts (acts_in s path)) facts ≡ facts
    indexes_change_nothing =
        (steps_taking (here t) sees seeing settled hands t.state.leaks m [] other facts v good.kept good.viewed good.holds alone
        (live t sees seeing settled own_law other alone v parts_named may frames none facts good) index_law own_law parts_named (object_at s y).of u path looks.lead ws [] takes both.0).1

    pub changes_nothing : after (acts (returned_acts s (Some of) (More (Name q y path u) NoMore))) facts ≡ effect (act.Give (name_of y path) borrows) facts
    changes_nothing =
        ap (λ z. after z facts) acts_are ∙ after_append (acts (acts_in s path)) (act.Give (name_of y path) borrows ∷ []) facts
        ∙ ap (effect (act.Give (name_of y path) borrows)) indexes_change_nothing

    pub name_given : Quiet (at []) (Given y looks.d path) (taken_by t of (Name q y path u) (at ws))
    name_given =
        subst (λ b. Quiet (at []) (Given y looks.d path)
        (if b then viewed (here t) (Name q y path u) (at ws) else followed_by (value (here t) (Name q y path u) (at ws)) (checked (here t) of))) (sym view)
        (shown_given y looks.d path facts good (evaluate (here t) AsView (Name q y path u) (at ws))
        (source_on (here t) sees seeing settled hands t.state.leaks m [] other facts v good.kept good.viewed good.holds alone
        (live t sees seeing settled own_law other alone v parts_named may frames none facts good) index_law own_law parts_named ws [] q y u looks.d looks.c looks.n path looks.lead looks.source takes
        both.0 (λ w called plain. give_clears facts borrows w
        (subst (λ n. Allows facts (act.Give n borrows)) (sym called) (subst (λ z. Allows z (act.Give (name_of y path) borrows)) indexes_change_nothing both.1.0)))))

  -- What is given goes on from what the first formal sees. It is enough that no other root isn't refuted.
  pub goes_on : (acts_there : List Act) (f : ℕ) (seen_first : Option Way) → (is_view s f ≡ true) × (is_bundle s f ≡ false) → AreRooted s acts_there f seen_first v → (y d : ℕ) (name : PlaceName) (z : machine.Word)
      → ((IsOnlyRoot s acts_there y f → ⊥) → ⊥) → Comes y d name z → (k : ℕ) → z ≡ machine.Cell k
      → (w : Way) × (seen_first ≡ Some w) × (r : List Go) × Reaches (seen s m hands t.state.leaks) (on w r) (OfCell k)
  goes_on acts_there f seen_first view rooted y d name z only coming k e =
      let there : Way = on (All coming.place) coming.rest in
      let first = certain seen_first (expand v there) (λ none. only (λ one. none (goes_on_from s acts_there f seen_first view v rooted y one there
      (goes_further s v y (All coming.place) coming.rest (coming.goes k e))))) in
      let rest = under_on first.0 (expand v there) first.2 in
      (first.0, first.1, rest.0, subst (λ x. Reaches (seen s m hands t.state.leaks) x (OfCell k)) rest.1 (coming.reached k e))
