-- Facts without an element stay exact in expressions, with names through borrowers and observers.
use Rattle.std.proofs.Common.{◌≡◌, refl, sym, ap, ◌∙◌, subst, ℕ, suc, ◌+◌, Bool, true, false, ◌||◌, List, [], ◌∷◌, ◌++◌, length, append-nil, if◌then◌else◌, inr}
use Rattle.soundness.specs.ViewedSoundness.Taken.{GivesPlainly}
use Rattle.recycled_runs.proofs.ViewedFacts.Steps.{IsAway, IsOthers, of_others}
use Rattle.std.specs.Prelude.{nat_le}
use Rattle.machine.specs.place_names.declared.act.Act.TheVariants as act
use Rattle.machine.specs.place_names.declared.fact.Fact.{Fact}
use Rattle.machine.specs.place_names.Names.{Name as PlaceName}
use Rattle.machine.specs.place_names.Facts.{effect}
use Rattle.machine.specs.type_definitions.declared.table.Shape.{Shape}
use Rattle.machine.specs.type_definitions.Types.{shape_of, is_owning, parts}
use Rattle.machine.specs.typed_tree.Trees.{TypedTree, Number, Literal, Name, Call, EndOfFile, Parens, Unary, Binary, Short, IsNull, Aggregate, Alike, New, NoMore, More}
use Rattle.machine.specs.typed_tree.Trees as typed
use Rattle.machine.specs.flow_paths.Objects.{object_at}
use Rattle.machine.specs.flow_paths.Names.{waiting, name_of}
use Rattle.machine.specs.flow_paths.Acts.{used, acts_in}
use Rattle.machine.specs.Words.{default, fits_type}
use Rattle.machine.specs.Words as machine
use Rattle.machine.specs.Typed.{is_record, is_array}
use Rattle.machine.specs.Memory.{Memory, Place, words_of, moved_out, with_new_cell, live_words}
use Rattle.machine.specs.Evaluate.{Here, Now, AsValue, part_type, parts_of, Evaluated, Done, Raises, Traps, followed_by, evaluate, steps_of, initial, checked, allocated, variable_place, walked, held_or_taken, taken, heap_words, StorageError}
use Rattle.machine.specs.Evaluate as run
use Rattle.machine.specs.States.{Waiting, Leak}
use Rattle.soundness.specs.OwnedWays.Ways.{OfVariable, Loc, Way, Object, Reaches, Named, Allows, after, AllowsAll, number_of}
use Rattle.soundness.specs.OwnedWays.Ways as ways
use Rattle.soundness.specs.PartOffsets.Parts.{IsSettled}
use Rattle.soundness.specs.Seen.{seen, home, IsNear}
use Rattle.soundness.specs.Typed.{OwnsByShape}
use Rattle.soundness.specs.TypedLaws.Needed.{Stays, Gives, GivesParts, GivesFirst, IndexLaw}
use Rattle.soundness.proofs.Defaults.{none_default}
use Rattle.soundness.proofs.Walks.{way_along, Walked}
use Rattle.soundness.proofs.Scalars.{after_append, allows_both, acts, acts_append, read_effect, number_along, named_along}
use Rattle.soundness.proofs.Taking.{Takes, takes_as, takes_both, takes_zero, nothing_more}
use Rattle.soundness.proofs.Stays.{Quiet, One}
use Rattle.soundness.proofs.Evaluated.{Keeps, regrouped}
use Rattle.soundness.specs.OwnedLoans.Views.{Around, Views, expand}
use Rattle.soundness.proofs.OwnedLoans.Allowed.{read_open, move_open}
use Rattle.soundness.specs.ViewedSoundness.Holds.{is_fixed, IsOwners, IsNamed, PartsAreNamed, KeepsObserved, AllKeep, Seeing}
use Rattle.soundness.proofs.ViewedSoundness.Stays.{Goes, no_selectors, taking, steps_taking, waited_quiet, name_on}
use Rattle.soundness.proofs.ViewedSoundness.Evaluated.{keep_both, matches_named, Ready, GivenOn, live_trunk, checked_on, blank_ready, evaluated_on, part_named}
use Rattle.recycled_runs.specs.ViewedFacts.Exact.{IsExact}
use Rattle.recycled_runs.proofs.ViewedFacts.Memories.{taken_exact, made_exact}
use Rattle.soundness.proofs.ViewedSoundness.Spared.{gone_off}
use Rattle.soundness.proofs.ViewedSoundness.Names.{changed_owners}
use Rattle.soundness.proofs.ViewedSoundness.ViewKinds.{free_sees, free_formal}

module _ (h : Here) (sees : ℕ → Bool) (seeing : Seeing h.typing sees) (settled : IsSettled h.typing.table) (leaks : List Leak) (waits : List (List machine.Word)) (other : Around (home h.typing h.frame))
    (alone : (w : Way) → IsNear h.frame w → other.gone w → ⊥) (keeps : Keeps h.typing)
    (index_law : IndexLaw) (own_law : OwnsByShape h.typing.table)
    (v : Views) (parts_named : PartsAreNamed h.typing.table)
    (elsewhere : Way → Type 0) (away : (w : Way) → elsewhere w → IsAway h.typing h.frame other w) where
  abbrev ReadyIn : Memory → List Waiting → List Fact → Type 0
  ReadyIn m hands facts = Ready h sees seeing settled leaks waits other alone keeps index_law own_law v parts_named m hands facts

  abbrev GivenIn : List (List machine.Word) → ℕ → List Waiting → List Fact → Evaluated (List machine.Word) → Type 0
  GivenIn on want hands facts x = GivenOn h sees seeing settled leaks waits other alone keeps index_law own_law v parts_named on want hands facts x

  abbrev Exact : Memory → List Fact → Type 0
  Exact m facts = IsExact h.typing (home h.typing h.frame) v elsewhere m facts

  apart : (w : Way) → elsewhere w → IsOthers (home h.typing h.frame) other w
  apart w e = of_others h.typing h.frame other w (away w e)

  -- Facts are exact where an evaluation is done.
  abbrev pub ExactTo : {A : Type 0} → List Fact → Evaluated A → Type 0
  ExactTo facts (Done a n) = IsExact h.typing (home h.typing h.frame) v elsewhere n.memory facts
  ExactTo facts (Raises e n) = Unit {0}
  ExactTo facts (Traps t n) = Unit {0}

  then_exact : {A B : Type 0} (now : Now) (P : A → Type 0) (facts : List Fact) (x : Evaluated A) (f : A → Now → Evaluated B)
      → Quiet now P x → ((a : A) → P a → ExactTo facts (f a now)) → ExactTo facts (followed_by x f)
  then_exact now P facts (Done a n) f (same, p) next = subst (λ z. ExactTo facts (f a z)) (sym same) (next a p)
  then_exact now P facts (Raises e n) f is next = tt
  then_exact now P facts (Traps t n) f none next = tt

  -- what changes no memory
  pub quiet_on : (on : List (List machine.Word)) (m : Memory) (P : List machine.Word → Type 0) (facts facts' : List Fact) (x : Evaluated (List machine.Word))
      → Quiet (record { memory = m; waits = on }) P x → facts' ≡ facts → Exact m facts → ExactTo facts' x
  quiet_on on m P facts facts' (Done a n) (same, p) less exact =
      subst (λ (z : Now). Exact z.memory facts') (sym same) (subst (Exact m) (sym less) exact)
  quiet_on on m P facts facts' (Raises e n) is less exact = tt
  quiet_on on m P facts facts' (Traps t n) none less exact = tt

  pub done_exact : {A B : Type 0} (facts : List Fact) (x : Evaluated A) (g : A → B) → ExactTo facts x → ExactTo facts (followed_by x (λ a n. Done (g a) n))
  done_exact facts (Done a n) g exact = exact
  done_exact facts (Raises e n) g exact = tt
  done_exact facts (Traps t n) g exact = tt

  pub checked_exact : (t : ℕ) (facts : List Fact) (x : Evaluated (List machine.Word)) → ExactTo facts x → ExactTo facts (followed_by x (checked h t))
  checked_exact t facts (Done ws n) exact = by_test (fits_type h.typing.table t ws)
    where
      by_test : (b : Bool) → ExactTo facts (if b then Done ws n else Raises run.ConstraintError n)
      by_test true = exact
      by_test false = tt
  checked_exact t facts (Raises e n) exact = tt
  checked_exact t facts (Traps e n) exact = tt

  -- ---- names

  -- what a place has is taken, where its type owns
  owner_exact : (on : List (List machine.Word)) (m : Memory) (hands : List Waiting) (facts : List Fact) (u : Way) (t : ℕ) → ReadyIn m hands facts → Exact m facts
      → Named (home h.typing h.frame) u → sees (number_of u) ≡ false
      → ((l : Loc) → Reaches (seen h.typing m hands leaks) (expand v u) l → IsOwners h.typing (expand v u))
      → is_owning h.typing.table t ≡ true → Allows facts (act.Move (ways.name_of u) (parts h.typing.table t))
      → (x : Evaluated Place) → Walked h.typing settled hands leaks m on (expand v u) t x
      → ExactTo (effect (act.Move (ways.name_of u) (parts h.typing.table t)) facts) (followed_by x (held_or_taken h AsValue))
  owner_exact on m hands facts u t ready exact named plain owners owns allowed (Done k n) (l, same, spot, reaches, of) =
      subst (λ z. ExactTo (effect (act.Move (ways.name_of u) (parts h.typing.table t)) facts) (taken h k z)) (sym same)
      (subst (λ b. ExactTo (effect (act.Move (ways.name_of u) (parts h.typing.table t)) facts)
      (Done (words_of h.typing m k) (if b then record { memory = moved_out h.typing k m; waits = on } else record { memory = m; waits = on })))
      (sym (ap (is_owning h.typing.table) of ∙ owns))
      (subst (λ z. Exact (moved_out h.typing k m) (effect (act.Move (ways.name_of u) (parts h.typing.table z)) facts)) of
      (taken_exact h.typing settled (home h.typing h.frame) sees other v elsewhere apart m hands leaks facts k l u ready.viewed
      (λ w under o. gone_off h.typing sees h.frame other v (seen h.typing m hands leaks) facts ready.viewed alone u w named plain (inr under) o) ready.kept spot named plain reaches
      (live_trunk h sees seeing settled leaks waits other alone keeps index_law own_law v parts_named m hands ready.viewed.owned (expand v u) l
      (owners l reaches) reaches)
      (subst (λ z. Allows facts (act.Move (ways.name_of u) (parts h.typing.table z))) (sym of) allowed) exact)))
  owner_exact on m hands facts u t ready exact named plain owners owns allowed (Raises e n) is = tt
  owner_exact on m hands facts u t ready exact named plain owners owns allowed (Traps e n) none = tt

  -- a copy of what doesn't own
  copy_exact : (on : List (List machine.Word)) (m : Memory) (hands : List Waiting) (facts : List Fact) (w : Way) (t : ℕ) → Exact m facts
      → is_owning h.typing.table t ≡ false → (x : Evaluated Place) → Walked h.typing settled hands leaks m on w t x
      → ExactTo facts (followed_by x (held_or_taken h AsValue))
  copy_exact on m hands facts w t exact none (Done k n) (l, same, spot, reaches, of) =
      subst (λ z. ExactTo facts (taken h k z)) (sym same)
      (subst (λ b. ExactTo facts (Done (words_of h.typing m k) (if b then record { memory = moved_out h.typing k m; waits = on } else record { memory = m; waits = on })))
      (sym (ap (is_owning h.typing.table) of ∙ none)) exact)
  copy_exact on m hands facts w t exact none (Raises e n) is = tt
  copy_exact on m hands facts w t exact none (Traps e n) none' = tt

  -- a name that is moved, or read
  name_exact : (on : List (List machine.Word)) (x : ℕ) (steps : TypedTree) (t : ℕ) (m : Memory) (hands : List Waiting) (facts : List Fact) (ready : ReadyIn m hands facts)
      → Exact m facts → Allows facts (used h.typing (name_of x steps) t) → KeepsObserved (is_fixed h.typing sees) (used h.typing (name_of x steps) t)
      → (way : List run.Step) → Goes h.typing.table (object_at h.typing x).of t steps way
      → (b : Bool) → is_owning h.typing.table t ≡ b
      → ExactTo (effect (used h.typing (name_of x steps) t) facts)
      (followed_by (walked h.typing way (variable_place h x) (record { memory = m; waits = on })) (held_or_taken h AsValue))
  name_exact on x steps t m hands facts ready exact mine keep way goes true owns =
      let u : Way = way_along way (Object (OfVariable (home h.typing h.frame x) x)) in
      let is : used h.typing (name_of x steps) t ≡ act.Move (name_of x steps) (parts h.typing.table t) =
      ap (λ b. if b then act.Move (name_of x steps) (parts h.typing.table t) else act.Read (name_of x steps)) owns in
      let called : ways.name_of u ≡ name_of x steps = (λ j. record {
        root = number_along way (Object (OfVariable (home h.typing h.frame x) x)) j;
        sels = goes.sels (Object (OfVariable (home h.typing h.frame x) x)) j;
      }) in
      let moves : Allows facts (act.Move (ways.name_of u) (parts h.typing.table t)) =
      subst (λ z. Allows facts (act.Move z (parts h.typing.table t))) (sym called) (subst (Allows facts) is mine) in
      let free : is_fixed h.typing sees (name_of x steps) ≡ false = subst (KeepsObserved (is_fixed h.typing sees)) is keep in
      let plain : sees x ≡ false = free_sees h.typing sees (name_of x steps) free in
      let where_ = name_on h sees seeing settled hands leaks m waits other facts v ready.kept ready.viewed ready.holds alone
      (live_trunk h sees seeing settled leaks waits other alone keeps index_law own_law v parts_named m hands ready.viewed.owned) index_law own_law parts_named
      on x steps t way goes (λ w named same. move_open facts w (parts h.typing.table t)
      (subst (λ z. Allows facts (act.Move z (parts h.typing.table t))) (called ∙ sym same) moves)) in
      subst (λ z. ExactTo (effect z facts) (followed_by (walked h.typing way (variable_place h x) (record { memory = m; waits = on })) (held_or_taken h AsValue)))
      (ap (λ z. act.Move z (parts h.typing.table t)) called ∙ sym is)
      (owner_exact on m hands facts u t ready exact (named_along (home h.typing h.frame) way (Object (OfVariable (home h.typing h.frame x) x)) refl)
      (ap sees (number_along way (Object (OfVariable (home h.typing h.frame x) x))) ∙ plain)
      (changed_owners h sees seeing settled hands leaks m on other facts v ready.kept ready.viewed ready.holds alone
      (live_trunk h sees seeing settled leaks waits other alone keeps index_law own_law v parts_named m hands ready.viewed.owned) x t way plain
      (λ formal none. free_formal h.typing sees (name_of x steps) free formal (no_selectors h.typing.table (object_at h.typing x).of t steps way goes none)) goes.lead) owns moves
      (walked h.typing way (variable_place h x) (record { memory = m; waits = on })) where_)
  name_exact on x steps t m hands facts ready exact mine keep way goes false owns =
      let u : Way = way_along way (Object (OfVariable (home h.typing h.frame x) x)) in
      let is : used h.typing (name_of x steps) t ≡ act.Read (name_of x steps) =
      ap (λ b. if b then act.Move (name_of x steps) (parts h.typing.table t) else act.Read (name_of x steps)) owns in
      let reads : Allows facts (act.Read (name_of x steps)) = subst (Allows facts) is mine in
      let where_ = name_on h sees seeing settled hands leaks m waits other facts v ready.kept ready.viewed ready.holds alone
      (live_trunk h sees seeing settled leaks waits other alone keeps index_law own_law v parts_named m hands ready.viewed.owned) index_law own_law parts_named
      on x steps t way goes (λ w named same. read_open facts w (subst (λ z. Allows facts (act.Read z)) (sym same) reads)) in
      subst (λ z. ExactTo z (followed_by (walked h.typing way (variable_place h x) (record { memory = m; waits = on })) (held_or_taken h AsValue)))
      (sym (ap (λ z. effect z facts) is ∙ read_effect (name_of x steps) facts))
      (copy_exact on m hands facts (expand v u) t exact owns (walked h.typing way (variable_place h x) (record { memory = m; waits = on })) where_)

  -- ---- allocators

  pub allocated_exact : (on : List (List machine.Word)) (t : ℕ) (hands : List Waiting) (facts : List Fact) (x : Evaluated (List machine.Word)) → GivenIn on t hands facts x → ExactTo facts x
      → ExactTo facts (followed_by x (allocated t))
  allocated_exact on t hands facts (Done ws k) (ready, long, same) exact = by_test (nat_le (live_words k.memory + length ws) heap_words)
    where
      by_test : (b : Bool) → ExactTo facts
          (if b then Done (machine.Cell (suc (length k.memory.cells)) ∷ []) (record k { memory = with_new_cell t ws k.memory }) else Raises StorageError k)
      by_test true =
          made_exact h.typing settled (home h.typing h.frame) sees other v elsewhere apart k.memory (record { of = t; words = ws } ∷ hands) leaks t ws facts
          ready.viewed exact
      by_test false = tt
  allocated_exact on t hands facts (Raises e k) given exact = tt
  allocated_exact on t hands facts (Traps e k) given exact = tt

  -- ---- all together

  pub then_parts : (mid : List (List machine.Word)) (u : ℕ) (hands : List Waiting) (facts facts' : List Fact) (x : Evaluated (List machine.Word))
      (f : List machine.Word → Now → Evaluated (List machine.Word)) → GivenIn mid u hands facts x → ExactTo facts x
      → ((ws : List machine.Word) (n : Now) → GivenIn mid u hands facts (Done ws n) → Exact n.memory facts → ExactTo facts' (f ws n))
      → ExactTo facts' (followed_by x f)
  then_parts mid u hands facts facts' (Done ws n) f given exact next = next ws n given exact
  then_parts mid u hands facts facts' (Raises e n) f given exact next = tt
  then_parts mid u hands facts facts' (Traps e n) f given exact next = tt

  -- a scalar expression
  scalar_exact : (e : TypedTree) → Stays h.typing e → (before on : List (List machine.Word)) → Takes (waiting e) before on → (m : Memory) (hands : List Waiting)
      (facts : List Fact) → ReadyIn m hands facts → AllowsAll facts (acts (acts_in h.typing e)) → Exact m facts
      → ExactTo (after (acts (acts_in h.typing e)) facts) (evaluate h AsValue e (record { memory = m; waits = before }))
  scalar_exact e stays before on takes m hands facts ready allowed exact =
      let q = taking h sees seeing settled hands leaks m waits other facts v ready.kept ready.viewed ready.holds alone
      (live_trunk h sees seeing settled leaks waits other alone keeps index_law own_law v parts_named m hands ready.viewed.owned) index_law own_law parts_named
      AsValue e stays before on takes allowed in
      quiet_on on m One facts (after (acts (acts_in h.typing e)) facts) (evaluate h AsValue e (record { memory = m; waits = before })) q.0 q.1 exact

  mutual
    unfolding Gives GivesParts GivesFirst GivesPlainly Stays evaluate initial parts_of acts_in waiting

    pub exact_on : (e : TypedTree) (want : ℕ) → Gives h.typing want e → GivesPlainly h.typing e → (before on : List (List machine.Word))
        → Takes (waiting e) before on → (m : Memory) (hands : List Waiting) (facts : List Fact)
        → ReadyIn m hands facts → AllowsAll facts (acts (acts_in h.typing e)) → IsNamed h.typing.table want → AllKeep (is_fixed h.typing sees) (acts (acts_in h.typing e))
        → Exact m facts → ExactTo (after (acts (acts_in h.typing e)) facts) (evaluate h AsValue e (record { memory = m; waits = before }))
    exact_on (Number n) want scalar calls before on takes m hands facts ready allowed own keep exact = exact
    exact_on (Literal n) want scalar calls before on takes m hands facts ready allowed own keep exact = exact
    exact_on EndOfFile want scalar calls before on takes m hands facts ready allowed own keep exact = exact
    exact_on typed.Null want one calls before on takes m hands facts ready allowed own keep exact = exact
    exact_on (Parens e) want gives calls before on takes m hands facts ready allowed own keep exact = exact_on e want gives calls before on takes m hands facts ready allowed own keep exact
    exact_on (Unary op e) want (scalar, stays) calls before on takes m hands facts ready allowed own keep exact = scalar_exact (Unary op e) stays before on takes m hands facts ready allowed exact
    exact_on (Binary op a b) want (scalar, stays, stays') calls before on takes m hands facts ready allowed own keep exact =
        scalar_exact (Binary op a b) (stays, stays') before on takes m hands facts ready allowed exact
    exact_on (Short op p a q b) want (scalar, stays, stays') calls before on takes m hands facts ready allowed own keep exact =
        scalar_exact (Short op p a q b) (stays, stays') before on takes m hands facts ready allowed exact
    exact_on (IsNull equal e) want (scalar, stays) calls before on takes m hands facts ready allowed own keep exact =
        scalar_exact (IsNull equal e) stays before on takes m hands facts ready allowed exact
    exact_on (Name p x steps t) want (lead, fits) calls before on takes m hands facts ready allowed own keep exact =
        let now : Now = record { memory = m; waits = before } in
        let name : PlaceName = name_of x steps in
        let live = live_trunk h sees seeing settled leaks waits other alone keeps index_law own_law v parts_named m hands ready.viewed.owned in
        let each = allows_both facts (acts (acts_in h.typing steps)) (used h.typing name t ∷ [])
        (subst (AllowsAll facts) (acts_append (acts_in h.typing steps) (record { pos = p; act = used h.typing name t } ∷ [])) allowed) in
        let kept_names = keep_both (is_fixed h.typing sees) (acts (acts_in h.typing steps)) (used h.typing name t ∷ [])
        (subst (AllKeep (is_fixed h.typing sees)) (acts_append (acts_in h.typing steps) (record { pos = p; act = used h.typing name t } ∷ [])) keep) in
        let inner = steps_taking h sees seeing settled hands leaks m waits other facts v ready.kept ready.viewed ready.holds alone live index_law own_law parts_named
        (object_at h.typing x).of t steps lead before on takes each.0 in
        let mine : Allows facts (used h.typing name t) = subst (λ z. Allows z (used h.typing name t)) inner.1 each.1.0 in
        let whole : after (acts (acts_in h.typing steps ++ record { pos = p; act = used h.typing name t } ∷ [])) facts ≡ effect (used h.typing name t) facts =
        ap (λ z. after z facts) (acts_append (acts_in h.typing steps) (record { pos = p; act = used h.typing name t } ∷ []))
        ∙ after_append (acts (acts_in h.typing steps)) (used h.typing name t ∷ []) facts ∙ ap (effect (used h.typing name t)) inner.1 in
        subst (λ z. ExactTo z (evaluate h AsValue (Name p x steps t) now)) (sym whole)
        (then_exact (record { memory = m; waits = on }) (λ way. Goes h.typing.table (object_at h.typing x).of t steps way) (effect (used h.typing name t) facts) (steps_of h steps now)
        (λ way now. followed_by (walked h.typing way (variable_place h x) now) (held_or_taken h AsValue)) inner.0
        (λ way goes. name_exact on x steps t m hands facts ready exact mine kept_names.1.0 way goes (is_owning h.typing.table t) refl))
    exact_on (New t (More e rest)) want (d, c, n, is, fits, (none, gives)) calls before on takes m hands facts ready allowed own keep exact =
        let now : Now = record { memory = m; waits = before } in
        let acts_same : acts_in h.typing e ++ acts_in h.typing rest ≡ acts_in h.typing e = ap (λ z. acts_in h.typing e ++ acts_in h.typing z) none ∙ append-nil (acts_in h.typing e) in
        let alone_there : waiting e + waiting rest ≡ waiting e = ap (λ z. waiting e + waiting z) none ∙ nothing_more (waiting e) in
        let one = calls.0 in
        let taken_there = takes_as (waiting e + waiting rest) (waiting e) before on alone_there takes in
        let mine = subst (λ z. AllowsAll facts (acts z)) acts_same allowed in
        let names = subst (λ z. AllKeep (is_fixed h.typing sees) (acts z)) acts_same keep in
        let of = matches_named h.typing.table d t fits (parts_named.designated want d c n is) in
        let behind : List Fact = after (acts (acts_in h.typing e)) facts in
        let given = evaluated_on h sees seeing settled leaks waits other alone keeps index_law own_law v parts_named e t gives one before on taken_there m hands facts ready mine of names in
        let inner = exact_on e t gives one before on taken_there m hands facts ready mine of names exact in
        subst (λ z. ExactTo (after (acts z) facts) (followed_by (followed_by (evaluate h AsValue e now) (checked h t)) (allocated t))) (sym acts_same)
        (allocated_exact on t hands behind (followed_by (evaluate h AsValue e now) (checked h t))
        (checked_on h sees seeing settled leaks waits other alone keeps index_law own_law v parts_named on t t hands behind (evaluate h AsValue e now) given)
        (checked_exact t behind (evaluate h AsValue e now) inner))
    exact_on (New t NoMore) want (d, c, n, is, fits, none) calls before on takes m hands facts ready allowed own keep exact =
        allocated_exact on t hands facts (Done (default h.typing.table t) (record { memory = m; waits = before })) (
          blank_ready h sees seeing settled leaks waits other alone keeps index_law own_law v parts_named m hands facts t (default h.typing.table t) (none_default h.typing.table t) ready,
          keeps.lengths t,
          takes_zero before on takes,
        ) exact
    exact_on (New t e) want (d, c, n, is, fits, none) calls before on takes m hands facts ready allowed own keep exact = absurd none
    exact_on (Aggregate t es) want (fits, made, count, gives) calls before on takes m hands facts ready allowed own keep exact =
        parts_exact es t 0 gives calls made before on takes m hands facts ready allowed keep exact
    exact_on (Alike t e) want (fits, array, plain, gives) calls before on takes m hands facts ready allowed own keep exact =
        let now : Now = record { memory = m; waits = before } in
        let el : ℕ = machine.element_type h.typing.table t in
        let behind : List Fact = after (acts (acts_in h.typing e)) facts in
        subst (ExactTo behind) (regrouped (evaluate h AsValue e now) (checked h el) (λ ws n. Done (machine.repeated (machine.element_count h.typing.table t) ws) n))
        (done_exact behind (followed_by (evaluate h AsValue e now) (checked h el)) (machine.repeated (machine.element_count h.typing.table t))
        (checked_exact el behind (evaluate h AsValue e now) (exact_on e el gives calls before on takes m hands facts ready allowed (parts_named.element t) keep exact)))
    -- the result of a function waits
    exact_on (Call p sub actuals) want gives calls before on takes m hands facts ready allowed own keep exact =
        quiet_on on m One facts facts (run.waited (record { memory = m; waits = before }))
        (waited_quiet h sees seeing settled hands leaks m waits other facts v ready.kept ready.viewed ready.holds alone
        (live_trunk h sees seeing settled leaks waits other alone keeps index_law own_law v parts_named m hands ready.viewed.owned) index_law own_law parts_named before on takes) refl exact
    exact_on e want gives calls before on takes m hands facts ready allowed own keep exact = absurd gives

    -- the parts of an aggregate from the i-th on
    pub parts_exact : (es : TypedTree) (t i : ℕ) → GivesParts h.typing t i es → GivesPlainly h.typing es
        → is_record (shape_of h.typing.table t) || is_array (shape_of h.typing.table t) ≡ true
        → (before on : List (List machine.Word)) → Takes (waiting es) before on → (m : Memory) (hands : List Waiting) (facts : List Fact)
        → ReadyIn m hands facts → AllowsAll facts (acts (acts_in h.typing es)) → AllKeep (is_fixed h.typing sees) (acts (acts_in h.typing es)) → Exact m facts
        → ExactTo (after (acts (acts_in h.typing es)) facts) (parts_of h t i es (record { memory = m; waits = before }))
    parts_exact (More e rest) t i gives calls made before on takes m hands facts ready allowed keep exact =
        let now : Now = record { memory = m; waits = before } in
        let sh : Shape = shape_of h.typing.table t in
        let u : ℕ = part_type sh i in
        let two = takes_both (waiting e) (waiting rest) before on takes in
        let each = allows_both facts (acts (acts_in h.typing e)) (acts (acts_in h.typing rest))
        (subst (AllowsAll facts) (acts_append (acts_in h.typing e) (acts_in h.typing rest)) allowed) in
        let names = keep_both (is_fixed h.typing sees) (acts (acts_in h.typing e)) (acts (acts_in h.typing rest))
        (subst (AllKeep (is_fixed h.typing sees)) (acts_append (acts_in h.typing e) (acts_in h.typing rest)) keep) in
        let of = part_named h.typing.table parts_named t i sh refl made in
        let between : List Fact = after (acts (acts_in h.typing e)) facts in
        let behind : List Fact = after (acts (acts_in h.typing rest)) between in
        let next : List machine.Word → Now → Evaluated (List machine.Word) =
        (λ ws now. followed_by (parts_of h t (suc i) rest now) (λ more now. Done (ws ++ more) now)) in
        let given = checked_on h sees seeing settled leaks waits other alone keeps index_law own_law v parts_named two.0 u u hands between (evaluate h AsValue e now)
        (evaluated_on h sees seeing settled leaks waits other alone keeps index_law own_law v parts_named e u gives.0 calls.0 before two.0 two.1 m hands facts ready each.0 of names.0) in
        let first = checked_exact u between (evaluate h AsValue e now) (exact_on e u gives.0 calls.0 before two.0 two.1 m hands facts ready each.0 of names.0 exact) in
        subst (λ z. ExactTo z (followed_by (evaluate h AsValue e now) (λ ws now. followed_by (checked h u ws now) next)))
        (sym (ap (λ z. after z facts) (acts_append (acts_in h.typing e) (acts_in h.typing rest))
        ∙ after_append (acts (acts_in h.typing e)) (acts (acts_in h.typing rest)) facts))
        (subst (ExactTo behind) (regrouped (evaluate h AsValue e now) (checked h u) next)
        (then_parts two.0 u hands between behind (followed_by (evaluate h AsValue e now) (checked h u)) next given first
        (λ ws n there still. done_exact behind (parts_of h t (suc i) rest n) (λ more. ws ++ more)
        (subst (λ z. ExactTo behind (parts_of h t (suc i) rest (record { memory = n.memory; waits = z }))) (sym there.2)
        (parts_exact rest t (suc i) gives.1 calls.1 made two.0 on two.2 n.memory (record { of = u; words = ws } ∷ hands) between there.0 each.1 names.1 still)))))
    parts_exact NoMore t i gives calls made before on takes m hands facts ready allowed keep exact = exact
    parts_exact es t i gives calls made before on takes m hands facts ready allowed keep exact = absurd gives
