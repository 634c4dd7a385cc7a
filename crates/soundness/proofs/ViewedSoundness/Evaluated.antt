-- Expressions that may own, with names through borrowers and observers: names, null, allocators,
-- aggregates, and scalar ones. They take values that wait.
use Rattle.std.proofs.Common.{◌≡◌, refl, sym, ap, ◌∙◌, subst, inl, inr, ℕ, suc, ◌+◌, ◌<◌, Bool, true, false, not, ◌||◌, List, [], ◌∷◌, ◌++◌, length, get_or, drop, arith, append-nil, append_assoc, length-append, if◌then◌else◌}
use Rattle.std.proofs.lemmas.List.{length-map}
use Rattle.machine.specs.spark_base.declared.position.Pos.{Pos}
use Rattle.std.specs.Prelude.{nat_le}
use Rattle.std.proofs.lemmas.Bool.{false≢true}
use Rattle.machine.specs.place_names.declared.act.Act.{Act}
use Rattle.machine.specs.place_names.declared.act.Act.TheVariants as act
use Rattle.machine.specs.place_names.declared.fact.Fact.{Fact}
use Rattle.machine.specs.place_names.Names.{Name as PlaceName}
use Rattle.machine.specs.place_names.Facts.{effect}
use Rattle.machine.specs.type_definitions.declared.table.Shape.{Shape}
use Rattle.machine.specs.type_definitions.declared.table.Shape.TheVariants as shape
use Rattle.machine.specs.type_definitions.Types.{Table, shape_of, components_of, view_of as view_shape, words, words_of as shape_words, full, is_owning, is_scalar, owns_of, parts}
use Rattle.machine.specs.typed_tree.Trees.{TypedTree, Number, Literal, Name, Call, EndOfFile, Parens, Unary, Binary, Short, IsNull, Aggregate, Alike, New, NoMore, More}
use Rattle.machine.specs.typed_tree.Trees as typed
use Rattle.machine.specs.flow_paths.Objects.{Typing, object_at}
use Rattle.machine.specs.flow_paths.Names.{has_call, waiting, name_of}
use Rattle.machine.specs.flow_paths.Acts.{used, acts_in}
use Rattle.machine.specs.Words.{default, fits_type}
use Rattle.machine.specs.Words as machine
use Rattle.machine.specs.Memory.{Slot, Memory, Place, fresh, no_slot, slots_of, words_of, moved_out, with_new_cell, live_words}
use Rattle.machine.specs.Evaluate.{Here, Now, AsValue, part_type, parts_of, Evaluated, Done, Raises, Traps, followed_by, evaluate, steps_of, initial, checked, allocated, variable_place, walked, held_or_taken, taken, heap_words, StorageError}
use Rattle.machine.specs.Evaluate as run
use Rattle.machine.specs.Typed.{tree_count, field_count, is_record, is_array}
use Rattle.machine.specs.States.{Waiting, Leak}
use Rattle.soundness.specs.OwnedWays.Ways.{Step, OfVariable, OfHand, Loc, Way, Object, Lost, Into, All, Word, Reaches, Under, Named, Spares, Allows, after, AllowsAll, Owned, number_of}
use Rattle.soundness.specs.OwnedWays.Ways as ways
use Rattle.soundness.specs.PartOffsets.Parts.{type_in, offset_in, has_part, owns_one, is_leaf, IsSettled}
use Rattle.soundness.specs.Seen.{IsNear, in_hand, owner_word, content, trunk, word_in, seen, home}
use Rattle.soundness.specs.Changes.{Alike as AlikeTypes}
use Rattle.soundness.specs.Typed.{Matches, OwnsByShape, Kept, Spot}
use Rattle.soundness.specs.TypedLaws.Needed.{Stays, Gives, GivesParts, GivesFirst, IndexLaw}
use Rattle.soundness.proofs.Near.{near_under}
use Rattle.soundness.proofs.Contents.{bool_cases, word_yes, word_no}
use Rattle.soundness.proofs.Steps.{no_leaf, plain_shape, matches_words, room, taken_slots, alike}
use Rattle.soundness.proofs.Defaults.{NoCell, none_default, none_repeated, blank_word}
use Rattle.soundness.proofs.Joining.{joined_sound}
use Rattle.soundness.proofs.Keeping.{joined, repeated, repeated_long}
use Rattle.soundness.proofs.Filling.{nth_part, words_to, words_none, words_next, words_whole, part_there, part_is, part_offset}
use Rattle.soundness.proofs.Fresh.{made_sound}
use Rattle.soundness.proofs.Walks.{way_along, Walked}
use Rattle.soundness.proofs.Scalars.{after_append, allows_both, acts, acts_append, read_effect, number_along, named_along}
use Rattle.soundness.proofs.Stays.{Quiet, One}
use Rattle.soundness.proofs.Taking.{Takes, takes_as, takes_both, takes_zero, no_takes, TakesPlainly, both_plainly, nothing_more}
use Rattle.soundness.proofs.Fading.{Fades, FadesTo, fades}
use Rattle.soundness.proofs.Evaluated.{regrouped, changed_hand, blank_hand, Keeps}
use Rattle.soundness.specs.OwnedLoans.Views.{Around, Views, expand, ExcusedBy, Viewed}
use Rattle.soundness.proofs.OwnedLoans.Allowed.{read_open, move_open}
use Rattle.soundness.proofs.OwnedLoans.Moves.{as_sound, same_viewed}
use Rattle.soundness.specs.ViewedSoundness.Holds.{IsNamed, PartsAreNamed, is_fixed, IsOwners, Holds, KeepsObserved, AllKeep, Seeing}
use Rattle.soundness.proofs.ViewedSoundness.Spared.{gone_off}
use Rattle.soundness.proofs.ViewedSoundness.Names.{changed_owners, parts_same}
use Rattle.soundness.proofs.ViewedSoundness.ViewKinds.{free_sees, free_formal}
use Rattle.soundness.proofs.Waits.{drop_none}
use Rattle.soundness.specs.ViewedSoundness.Taken.{GivesPlainly}
use Rattle.soundness.proofs.ViewedSoundness.Moments.{from_sound, hands_spared, other_hands, with_cell, taken_viewed}
use Rattle.soundness.proofs.ViewedSoundness.Stays.{Goes, no_selectors, taking, steps_taking, name_on, waited_quiet}
use Rattle.soundness.proofs.Parted.{null_cell, by_either}

pub keep_both : (fixed : PlaceName → Bool) (a b : List Act) → AllKeep fixed (a ++ b) → AllKeep fixed a × AllKeep fixed b
keep_both fixed [] b k = (tt, k)
keep_both fixed (x ∷ a) b (k, rest) = let both = keep_both fixed a b rest in ((k, both.0), both.1)

scalar_access : (sh : Shape) (d : ℕ) (c n : Bool) → sh ≡ shape.Access d c n → is_scalar (view_shape sh) ≡ true → ⊥
scalar_access sh d c n is scalar = let no : is_scalar (view_shape (shape.Access d c n)) ≡ true = ap (λ z. is_scalar (view_shape z)) (sym is) ∙ scalar in false≢true no

-- a type that matches one that isn't anonymous isn't either
pub matches_named : (table : Table) (t u : ℕ) → Matches table t u → IsNamed table t → IsNamed table u
matches_named table t u (inl e) named d c n is = named d c n (e ∙ is)
matches_named table t u (inr both) named d c n is = absurd (scalar_access (shape_of table u) d c n is both.1)

-- the types of the parts of an aggregate aren't anonymous
pub part_named : (table : Table) → PartsAreNamed table → (t i : ℕ) (sh : Shape) → shape_of table t ≡ sh → is_record sh || is_array sh ≡ true → IsNamed table (part_type sh i)
part_named table named t i (shape.Fields cs) e made = subst (IsNamed table) (ap (λ z. (get_or (components_of z) i machine.no_component).of) e) (named.component t i)
part_named table named t i (shape.Elements low high el) e made = subst (IsNamed table) (ap machine.element_of e) (named.element t)
part_named table named t i (shape.Whole a b) e made = absurd (false≢true made)
part_named table named t i (shape.Listed l a b) e made = absurd (false≢true made)
part_named table named t i (shape.Access d c n) e made = absurd (false≢true made)
part_named table named t i (shape.Same of) e made = absurd (false≢true made)

-- Where an expression takes nothing, or all results are of scalar types.
pub gives_plainly : (s : Typing) (e : TypedTree) → TakesPlainly s (has_call e) → GivesPlainly s e
unfolding GivesPlainly has_call
gives_plainly s (Call p sub actuals) (inl none) = cc
gives_plainly s (Call p sub actuals) (inr plain) = plain.0 sub
gives_plainly s (Parens e) calls = gives_plainly s e calls
gives_plainly s (Aggregate t es) calls = gives_plainly s es calls
gives_plainly s (Alike t e) calls = gives_plainly s e calls
gives_plainly s (New t v) calls = gives_plainly s v calls
gives_plainly s (More e rest) calls =
    (let both = both_plainly s (has_call e) (has_call rest) calls in (gives_plainly s e both.0, gives_plainly s rest both.1))
gives_plainly s e calls = tt

module _ (h : Here) (sees : ℕ → Bool) (seeing : Seeing h.typing sees) (settled : IsSettled h.typing.table) (leaks : List Leak) (waits : List (List machine.Word)) (other : Around (home h.typing h.frame))
    (alone : (w : Way) → IsNear h.frame w → other.gone w → ⊥) (keeps : Keeps h.typing)
    (index_law : IndexLaw) (own_law : OwnsByShape h.typing.table)
    (v : Views) (parts_named : PartsAreNamed h.typing.table) where
  pub record Ready (m : Memory) (hands : List Waiting) (facts : List Fact) : Type 0 where
    pub viewed : Viewed (home h.typing h.frame) sees other v (seen h.typing m hands leaks) facts
    pub kept : Kept h.typing m hands
    pub holds : Holds h.typing sees h.frame v m

  -- What an expression comes to: a value in hand, or an exception; never a trap. These wait on.
  abbrev pub GivenOn : List (List machine.Word) → ℕ → List Waiting → List Fact → Evaluated (List machine.Word) → Type 0
  GivenOn on want hands facts (Done ws n) =
      Ready n.memory (record { of = want; words = ws } ∷ hands) facts × (length ws ≡ words h.typing.table want) × (n.waits ≡ on)
  GivenOn on want hands facts (Raises e n) = Unit {0}
  GivenOn on want hands facts (Traps t n) = ⊥

  abbrev pub Given : ℕ → List Waiting → List Fact → Evaluated (List machine.Word) → Type 0
  Given want hands facts x = GivenOn waits want hands facts x

  -- what a way reaches may own
  pub live_trunk : (m : Memory) (hands : List Waiting) → Owned (seen h.typing m hands leaks) → (w : Way) (l : Loc) → IsOwners h.typing w
      → Reaches (seen h.typing m hands leaks) w l → (content h.typing m hands (trunk l)).owns ≡ true
  live_trunk m hands owned (Object (OfVariable f x)) l n r = ap (λ z. (content h.typing m hands (trunk z)).owns) r ∙ ap not n
  live_trunk m hands owned (Object (OfHand k)) l n r = ap (λ z. (content h.typing m hands (trunk z)).owns) r
  live_trunk m hands owned (Lost c) l n r = absurd n
  live_trunk m hands owned (Into w i) l n (k, r, e) =
      ap (λ z. (content h.typing m hands (trunk z)).owns) e ∙ live_trunk m hands owned w k n r
  live_trunk m hands owned (All w) l n (k, c, r, held, e) =
      ap (λ z. (content h.typing m hands (trunk z)).owns) e ∙ ap not (owned.live k c held)

  -- nor has one of a hand
  pub spared_hand : (k : ℕ) (w : Way) → Under (Object (OfHand k)) w → other.gone w → ⊥
  spared_hand k w under o = alone w (near_under h.frame (Object (OfHand k)) w under tt) o

  -- a scalar value
  pub scalar_on : (on : List (List machine.Word)) (m : Memory) (hands : List Waiting) (facts facts' : List Fact) (want : ℕ) → Ready m hands facts → facts ≡ facts'
      → is_scalar (full h.typing.table want) ≡ true → (x : Evaluated (List machine.Word))
      → Quiet (record { memory = m; waits = on }) One x → GivenOn on want hands facts' x
  scalar_on on m hands facts facts' want ready same scalar (Done ws n) (is, one) = (
    subst (λ z. Ready z.memory (record { of = want; words = ws } ∷ hands) facts') (sym is)
        (subst (Ready m (record { of = want; words = ws } ∷ hands)) same (record {
          viewed = same_viewed (home h.typing h.frame) sees other v _ _ facts (blank_hand h.typing m leaks (record { of = want; words = ws }) hands
              (λ p. word_no h.typing.table (in_hand (record { of = want; words = ws })) p (no_leaf h.typing.table settled want scalar p))) ready.viewed;
          kept = keeps.scalar m (record { of = want; words = ws }) hands scalar ready.kept;
          holds = ready.holds;
        })),
    one ∙ sym (settled.word_law want ∙ (plain_shape (shape_of h.typing.table want) scalar).3 (words h.typing.table)),
    ap (λ (z : Now). z.waits) is,
  )
  scalar_on on m hands facts facts' want ready same scalar (Raises e n) is = tt
  scalar_on on m hands facts facts' want ready same scalar (Traps t n) none = none

  pub scalar_given : (m : Memory) (hands : List Waiting) (facts facts' : List Fact) (want : ℕ) → Ready m hands facts → facts ≡ facts'
      → is_scalar (full h.typing.table want) ≡ true → (x : Evaluated (List machine.Word))
      → Quiet (record { memory = m; waits = waits }) One x → Given want hands facts' x
  scalar_given m hands facts facts' want ready same scalar x is = scalar_on waits m hands facts facts' want ready same scalar x is

  -- a value that is checked against a subtype
  pub checked_on : (on : List (List machine.Word)) (t want : ℕ) (hands : List Waiting) (facts : List Fact) (x : Evaluated (List machine.Word)) → GivenOn on want hands facts x
      → GivenOn on want hands facts (followed_by x (checked h t))
  checked_on on t want hands facts (Done ws n) given = by_test (fits_type h.typing.table t ws)
    where
      by_test : (b : Bool) → GivenOn on want hands facts (if b then Done ws n else Raises run.ConstraintError n)
      by_test true = given
      by_test false = tt
  checked_on on t want hands facts (Raises e n) given = tt
  checked_on on t want hands facts (Traps e n) none = none

  pub checked_given : (t want : ℕ) (hands : List Waiting) (facts : List Fact) (x : Evaluated (List machine.Word)) → Given want hands facts x
      → Given want hands facts (followed_by x (checked h t))
  checked_given t want hands facts x given = checked_on waits t want hands facts x given

  -- another type that matches
  pub retyped_given : (on : List (List machine.Word)) (t want : ℕ) (hands : List Waiting) (facts : List Fact) → Matches h.typing.table t want → (x : Evaluated (List machine.Word))
      → GivenOn on t hands facts x → GivenOn on want hands facts x
  retyped_given on t want hands facts fits (Done ws n) (ready, long, same) = (
    record {
      viewed = same_viewed (home h.typing h.frame) sees other v _ _ facts
          (changed_hand h.typing n.memory leaks (record { of = t; words = ws }) (record { of = want; words = ws }) hands (shows (alike h.typing.table settled t want fits))) ready.viewed;
      kept = keeps.retyped n.memory t want ws hands fits ready.kept;
      holds = ready.holds;
    },
    long ∙ matches_words h.typing.table settled t want fits,
    same,
  )
    where
      shows : AlikeTypes h.typing.table t want → (p : List Step)
          → word_in h.typing.table (in_hand (record { of = want; words = ws })) p ≡ word_in h.typing.table (in_hand (record { of = t; words = ws })) p
      shows like p = elim (bool_cases (is_leaf h.typing.table t p)) [
        | inl leaf ↦ word_yes h.typing.table (in_hand (record { of = want; words = ws })) p refl (sym (like.leaf p) ∙ leaf)
            ∙ ap (λ o. owner_word (get_or (fresh ws) o no_slot)) (sym (like.at p leaf))
            ∙ sym (word_yes h.typing.table (in_hand (record { of = t; words = ws })) p refl leaf)
        | inr isnt ↦ word_no h.typing.table (in_hand (record { of = want; words = ws })) p (sym (like.leaf p) ∙ isnt)
            ∙ sym (word_no h.typing.table (in_hand (record { of = t; words = ws })) p isnt)
      ]
  retyped_given on t want hands facts fits (Raises e n) given = tt
  retyped_given on t want hands facts fits (Traps e n) none = none

  -- ---- names

  -- What a name comes to, before it is said what the variables of views have.
  abbrev pub Bare : List (List machine.Word) → ℕ → List Waiting → List Fact → Evaluated (List machine.Word) → Type 0
  Bare on want hands facts (Done ws n) =
      Viewed (home h.typing h.frame) sees other v (seen h.typing n.memory (record { of = want; words = ws } ∷ hands) leaks) facts
      × Kept h.typing n.memory (record { of = want; words = ws } ∷ hands) × (length ws ≡ words h.typing.table want) × (n.waits ≡ on)
  Bare on want hands facts (Raises e n) = Unit {0}
  Bare on want hands facts (Traps t n) = ⊥

  -- words of variables stay in evaluations
  pub holds_on : (m n : Memory) → Fades h.typing m n → Holds h.typing sees h.frame v m → Holds h.typing sees h.frame v n
  holds_on m n fade holds = record {
    held = λ x k view bare e. holds.held x k view bare (sym (fade (home h.typing h.frame x) x 0).word ∙ e);
    only = holds.only;
    owners = holds.owners;
    access = holds.access;
    own = holds.own;
    taken = holds.taken;
    parts = parts_same h.typing sees h.frame v m n (λ x p bundle. (fade (home h.typing h.frame x) x (offset_in h.typing.table (object_at h.typing x).of p)).word) holds.parts;
  }

  held_on : (on : List (List machine.Word)) (m : Memory) (want : ℕ) (hands : List Waiting) (facts : List Fact) (x : Evaluated (List machine.Word)) → Holds h.typing sees h.frame v m
      → FadesTo h m x → Bare on want hands facts x → GivenOn on want hands facts x
  held_on on m want hands facts (Done ws n) holds fade (sound, kept, long, same) =
      (record { viewed = sound; kept = kept; holds = holds_on m n.memory fade holds }, long, same)
  held_on on m want hands facts (Raises e n) holds fade given = tt
  held_on on m want hands facts (Traps t n) holds fade none = none

  -- what a place has is taken, where its type owns
  owner_taken : (on : List (List machine.Word)) (m : Memory) (hands : List Waiting) (facts : List Fact) (u : Way) (t : ℕ) → Ready m hands facts → Named (home h.typing h.frame) u
      → sees (number_of u) ≡ false
      → ((l : Loc) → Reaches (seen h.typing m hands leaks) (expand v u) l → IsOwners h.typing (expand v u))
      → is_owning h.typing.table t ≡ true → Allows facts (act.Move (ways.name_of u) (parts h.typing.table t)) → (x : Evaluated Place)
      → Walked h.typing settled hands leaks m on (expand v u) t x
      → Bare on t hands (effect (act.Move (ways.name_of u) (parts h.typing.table t)) facts) (followed_by x (held_or_taken h AsValue))
  owner_taken on m hands facts u t ready named plain owners owns allowed (Done k n) (l, same, spot, reaches, of) =
      subst (λ z. Bare on t hands (effect (act.Move (ways.name_of u) (parts h.typing.table t)) facts) (taken h k z)) (sym same)
      (subst (λ b. Bare on t hands (effect (act.Move (ways.name_of u) (parts h.typing.table t)) facts)
      (Done (words_of h.typing m k) (if b then record { memory = moved_out h.typing k m; waits = on } else record { memory = m; waits = on })))
      (sym (ap (is_owning h.typing.table) of ∙ owns)) (
        subst (λ z. Viewed (home h.typing h.frame) sees other v (seen h.typing (moved_out h.typing k m) (record { of = z; words = words_of h.typing m k } ∷ hands) leaks)
            (effect (act.Move (ways.name_of u) (parts h.typing.table z)) facts)) of
            (taken_viewed h.typing settled (home h.typing h.frame) sees other v m hands leaks facts k l u ready.viewed spared_there ready.kept spot
            named plain reaches
            (live_trunk m hands ready.viewed.owned (expand v u) l (owners l reaches) reaches)
            (subst (λ z. Allows facts (act.Move (ways.name_of u) (parts h.typing.table z))) (sym of) allowed)),
        subst (λ z. Kept h.typing (moved_out h.typing k m) (record { of = z; words = words_of h.typing m k } ∷ hands)) of (keeps.moved m hands k l spot ready.kept),
        long k l spot of,
        refl,
      ))
    where
      spared_there : Spares other.gone (expand v u)
      spared_there z under gone =
          gone_off h.typing sees h.frame other v (seen h.typing m hands leaks) facts ready.viewed alone u z named plain (inr under) gone

      long : (k : Place) (l : Loc) → Spot h.typing m hands k l → k.of ≡ t → length (words_of h.typing m k) ≡ words h.typing.table t
      long k l spot of =
          length-map (slots_of h.typing m k) (λ (x : Slot). x.word)
          ∙ (taken_slots h.typing settled m k (room h.typing settled m hands ready.kept k l spot)).0
          ∙ ap (words h.typing.table) of
  owner_taken on m hands facts u t ready named plain owners owns allowed (Raises e n) is = tt
  owner_taken on m hands facts u t ready named plain owners owns allowed (Traps e n) none = none

  -- ---- all together

  then_bare : {A : Type 0} (on : List (List machine.Word)) (now : Now) (P : A → Type 0) (want : ℕ) (hands : List Waiting) (facts : List Fact) (x : Evaluated A)
      (f : A → Now → Evaluated (List machine.Word)) → Quiet now P x → ((a : A) → P a → Bare on want hands facts (f a now))
      → Bare on want hands facts (followed_by x f)
  then_bare on now P want hands facts (Done a n) f (same, p) next = subst (λ z. Bare on want hands facts (f a z)) (sym same) (next a p)
  then_bare on now P want hands facts (Raises e n) f is next = tt
  then_bare on now P want hands facts (Traps t n) f none next = none

  -- a copy of what doesn't own
  copy_taken : (on : List (List machine.Word)) (m : Memory) (hands : List Waiting) (facts : List Fact) (w : Way) (t : ℕ) → Ready m hands facts
      → is_owning h.typing.table t ≡ false → (x : Evaluated Place) → Walked h.typing settled hands leaks m on w t x
      → Bare on t hands facts (followed_by x (held_or_taken h AsValue))
  copy_taken on m hands facts w t ready none (Done k n) (l, same, spot, reaches, of) =
      subst (λ z. Bare on t hands facts (taken h k z)) (sym same)
      (subst (λ b. Bare on t hands facts (Done (words_of h.typing m k) (if b then record { memory = moved_out h.typing k m; waits = on } else record { memory = m; waits = on })))
      (sym (ap (is_owning h.typing.table) of ∙ none)) (
        subst (λ z. Viewed (home h.typing h.frame) sees other v (seen h.typing m (record { of = z; words = words_of h.typing m k } ∷ hands) leaks) facts) of
            (same_viewed (home h.typing h.frame) sees other v _ _ facts (blank_hand h.typing m leaks (record { of = k.of; words = words_of h.typing m k }) hands
            (λ p. word_no h.typing.table (in_hand (record { of = k.of; words = words_of h.typing m k })) p
            (keeps.ownerless k.of (ap (is_owning h.typing.table) of ∙ none) p))) ready.viewed),
        subst (λ z. Kept h.typing m (record { of = z; words = words_of h.typing m k } ∷ hands)) of (keeps.copied m hands k l spot ready.kept),
        length-map (slots_of h.typing m k) (λ (x : Slot). x.word)
            ∙ (taken_slots h.typing settled m k (room h.typing settled m hands ready.kept k l spot)).0
            ∙ ap (words h.typing.table) of,
        refl,
      ))
  copy_taken on m hands facts w t ready none (Raises e n) is = tt
  copy_taken on m hands facts w t ready none (Traps e n) none' = none'

  -- a hand without words, for a number to come
  pub blank_ready : (m : Memory) (hands : List Waiting) (facts : List Fact) (want : ℕ) (ws : List machine.Word) → NoCell ws → Ready m hands facts
      → Ready m (record { of = want; words = ws } ∷ hands) facts
  blank_ready m hands facts want ws none ready = record {
    viewed = same_viewed (home h.typing h.frame) sees other v _ _ facts (blank_hand h.typing m leaks (record { of = want; words = ws }) hands
        (λ p. blank_word h.typing.table (in_hand (record { of = want; words = ws })) ws refl none p)) ready.viewed;
    kept = keeps.plain m (record { of = want; words = ws }) hands none ready.kept;
    holds = ready.holds;
  }

  pub allocated_given : (on : List (List machine.Word)) (t want d : ℕ) (c n : Bool) (hands : List Waiting) (facts : List Fact) → IsNamed h.typing.table want
      → shape_of h.typing.table want ≡ shape.Access d c n
      → Matches h.typing.table d t → (x : Evaluated (List machine.Word)) → GivenOn on t (record { of = want; words = [] } ∷ hands) facts x
      → GivenOn on want hands facts (followed_by x (allocated t))
  allocated_given on t want d c n hands facts own_type is fits (Done ws k) (ready, long, same) = by_test (nat_le (live_words k.memory + length ws) heap_words)
    where
      own : is_leaf h.typing.table want [] ≡ true
      own = ap owns_one is ∙ own_type d c n is

      one_word : words h.typing.table want ≡ 1
      one_word = settled.word_law want ∙ ap (shape_words (words h.typing.table)) is

      by_test : (b : Bool) → GivenOn on want hands facts
          (if b then Done (machine.Cell (suc (length k.memory.cells)) ∷ []) (record k { memory = with_new_cell t ws k.memory }) else Raises StorageError k)
      by_test true = (
        record {
          viewed = from_sound (home h.typing h.frame) sees other v
              (seen h.typing k.memory (record { of = t; words = ws } ∷ record { of = want; words = [] } ∷ hands) leaks)
              (seen h.typing (with_new_cell t ws k.memory) (record { of = want; words = machine.Cell (suc (length k.memory.cells)) ∷ [] } ∷ hands) leaks)
              facts ready.viewed
              (made_sound h.typing settled k.memory t want ws hands leaks long own (home h.typing h.frame) (ExcusedBy (home h.typing h.frame) v other facts) []
              (hands_spared (home h.typing h.frame) sees other v
              (seen h.typing k.memory (record { of = t; words = ws } ∷ record { of = want; words = [] } ∷ hands) leaks) facts ready.viewed spared_hand)
              (as_sound (home h.typing h.frame) sees other v
              (seen h.typing k.memory (record { of = t; words = ws } ∷ record { of = want; words = [] } ∷ hands) leaks) facts ready.viewed))
              (with_cell h.typing k.memory t ws (record { of = t; words = ws } ∷ record { of = want; words = [] } ∷ hands)
              (record { of = want; words = machine.Cell (suc (length k.memory.cells)) ∷ [] } ∷ hands) leaks);
          kept = keeps.made k.memory t want d c n ws hands long is fits ready.kept;
          holds = record { held = ready.holds.held; only = ready.holds.only; owners = ready.holds.owners; access = ready.holds.access; own = ready.holds.own; taken = ready.holds.taken; parts = record { held = ready.holds.parts.held; only = ready.holds.parts.only; owners = ready.holds.parts.owners; looks = ready.holds.parts.looks } };
        },
        sym one_word,
        same,
      )
      by_test false = tt
  allocated_given on t want d c n hands facts own_type is fits (Raises e k) given = tt
  allocated_given on t want d c n hands facts own_type is fits (Traps e k) none = none

  -- a scalar expression
  by_quiet : (e : TypedTree) (want : ℕ) → is_scalar (full h.typing.table want) ≡ true → Stays h.typing e → (before on : List (List machine.Word))
      → Takes (waiting e) before on → (m : Memory) (hands : List Waiting) (facts : List Fact) → Ready m hands facts
      → AllowsAll facts (acts (acts_in h.typing e))
      → GivenOn on want hands (after (acts (acts_in h.typing e)) facts) (evaluate h AsValue e (record { memory = m; waits = before }))
  by_quiet e want scalar stays before on takes m hands facts ready allowed =
      let q = taking h sees seeing settled hands leaks m waits other facts v ready.kept ready.viewed ready.holds alone (live_trunk m hands ready.viewed.owned) index_law own_law parts_named
      AsValue e stays before on takes allowed in
      scalar_on on m hands facts (after (acts (acts_in h.typing e)) facts) want ready (sym q.1) scalar (evaluate h AsValue e (record { memory = m; waits = before })) q.0

  -- a name that is moved, or read
  by_owning : (on : List (List machine.Word)) (p : Pos) (x : ℕ) (steps : TypedTree) (t : ℕ) (m : Memory) (hands : List Waiting) (facts : List Fact) (ready : Ready m hands facts)
      → Allows facts (used h.typing (name_of x steps) t) → KeepsObserved (is_fixed h.typing sees) (used h.typing (name_of x steps) t)
      → (way : List run.Step) → Goes h.typing.table (object_at h.typing x).of t steps way
      → (b : Bool) → is_owning h.typing.table t ≡ b
      → Bare on t hands (effect (used h.typing (name_of x steps) t) facts)
      (followed_by (walked h.typing way (variable_place h x) (record { memory = m; waits = on })) (held_or_taken h AsValue))
  by_owning on p x steps t m hands facts ready mine keep way goes true owns =
      let u : Way = way_along way (Object (OfVariable (home h.typing h.frame x) x)) in
      let is : used h.typing (name_of x steps) t ≡ act.Move (name_of x steps) (parts h.typing.table t) =
      ap (λ b. if b then act.Move (name_of x steps) (parts h.typing.table t) else act.Read (name_of x steps)) owns in
      let called : ways.name_of u ≡ name_of x steps = (λ j. record {
        root = number_along way (Object (OfVariable (home h.typing h.frame x) x)) j;
        sels = goes.sels (Object (OfVariable (home h.typing h.frame x) x)) j;
      }) in
      let moves : Allows facts (act.Move (ways.name_of u) (parts h.typing.table t)) =
      subst (λ z. Allows facts (act.Move z (parts h.typing.table t))) (sym called) (subst (Allows facts) is mine) in
      let free : is_fixed h.typing sees (name_of x steps) ≡ false = subst (KeepsObserved (is_fixed h.typing sees)) is keep in
      let plain : sees x ≡ false = free_sees h.typing sees (name_of x steps) free in
      let where_ = name_on h sees seeing settled hands leaks m waits other facts v ready.kept ready.viewed ready.holds alone (live_trunk m hands ready.viewed.owned) index_law own_law parts_named
      on x steps t way goes (λ w named same. move_open facts w (parts h.typing.table t)
      (subst (λ z. Allows facts (act.Move z (parts h.typing.table t))) (called ∙ sym same) moves)) in
      subst (λ z. Bare on t hands (effect z facts) (followed_by (walked h.typing way (variable_place h x) (record { memory = m; waits = on })) (held_or_taken h AsValue)))
      (ap (λ z. act.Move z (parts h.typing.table t)) called ∙ sym is)
      (owner_taken on m hands facts u t ready (named_along (home h.typing h.frame) way (Object (OfVariable (home h.typing h.frame x) x)) refl)
      (ap sees (number_along way (Object (OfVariable (home h.typing h.frame x) x))) ∙ plain)
      (changed_owners h sees seeing settled hands leaks m on other facts v ready.kept ready.viewed ready.holds alone (live_trunk m hands ready.viewed.owned) x t way plain
      (λ formal none. free_formal h.typing sees (name_of x steps) free formal (no_selectors h.typing.table (object_at h.typing x).of t steps way goes none)) goes.lead) owns moves
      (walked h.typing way (variable_place h x) (record { memory = m; waits = on })) where_)
  by_owning on p x steps t m hands facts ready mine keep way goes false owns =
      let u : Way = way_along way (Object (OfVariable (home h.typing h.frame x) x)) in
      let is : used h.typing (name_of x steps) t ≡ act.Read (name_of x steps) =
      ap (λ b. if b then act.Move (name_of x steps) (parts h.typing.table t) else act.Read (name_of x steps)) owns in
      let reads : Allows facts (act.Read (name_of x steps)) = subst (Allows facts) is mine in
      let where_ = name_on h sees seeing settled hands leaks m waits other facts v ready.kept ready.viewed ready.holds alone (live_trunk m hands ready.viewed.owned) index_law own_law parts_named
      on x steps t way goes (λ w named same. read_open facts w (subst (λ z. Allows facts (act.Read z)) (sym same) reads)) in
      subst (λ z. Bare on t hands z (followed_by (walked h.typing way (variable_place h x) (record { memory = m; waits = on })) (held_or_taken h AsValue)))
      (sym (ap (λ z. effect z facts) is ∙ read_effect (name_of x steps) facts))
      (copy_taken on m hands facts (expand v u) t ready owns (walked h.typing way (variable_place h x) (record { memory = m; waits = on })) where_)

  -- ---- aggregates

  -- a part goes after the words of the hand below
  pub part_joined : (m : Memory) (hands : List Waiting) (facts : List Fact) (t u : ℕ) (acc ws : List machine.Word) (step : Step)
      → has_part h.typing.table t (step ∷ []) ≡ true → offset_in h.typing.table t (step ∷ []) ≡ length acc
      → type_in h.typing.table t (step ∷ []) ≡ u → length ws ≡ words h.typing.table u
      → Ready m (record { of = u; words = ws } ∷ record { of = t; words = acc } ∷ hands) facts
      → Ready m (record { of = t; words = acc ++ ws } ∷ hands) facts
  part_joined m hands facts t u acc ws step there offset is long ready = record {
    viewed = from_sound (home h.typing h.frame) sees other v
        (seen h.typing m (record { of = u; words = ws } ∷ record { of = t; words = acc } ∷ hands) leaks)
        (seen h.typing m (record { of = t; words = acc ++ ws } ∷ hands) leaks) facts ready.viewed
        (joined_sound h.typing settled m u t ws acc hands leaks step there offset (long ∙ ap (words h.typing.table) (sym is))
        (subst (AlikeTypes h.typing.table u) (sym is) (alike h.typing.table settled u u (inl refl)))
        (home h.typing h.frame) (ExcusedBy (home h.typing h.frame) v other facts) []
        (hands_spared (home h.typing h.frame) sees other v
        (seen h.typing m (record { of = u; words = ws } ∷ record { of = t; words = acc } ∷ hands) leaks) facts ready.viewed spared_hand)
        (as_sound (home h.typing h.frame) sees other v
        (seen h.typing m (record { of = u; words = ws } ∷ record { of = t; words = acc } ∷ hands) leaks) facts ready.viewed))
        (other_hands h.typing m (record { of = u; words = ws } ∷ record { of = t; words = acc } ∷ hands)
        (record { of = t; words = acc ++ ws } ∷ hands) leaks);
    kept = joined h.typing settled m u t ws acc hands step there offset (long ∙ ap (words h.typing.table) (sym is))
        (inl (ap (shape_of h.typing.table) (sym is))) ready.kept;
    holds = ready.holds;
  }

  -- After the words that are there, the rest is a value of the type.
  abbrev pub Grows : List (List machine.Word) → ℕ → List machine.Word → List Waiting → List Fact → Evaluated (List machine.Word) → Type 0
  Grows on t acc hands facts (Done ws n) = GivenOn on t hands facts (Done (acc ++ ws) n)
  Grows on t acc hands facts (Raises e n) = Unit {0}
  Grows on t acc hands facts (Traps e n) = ⊥

  pub grown : (on : List (List machine.Word)) (t : ℕ) (acc ws : List machine.Word) (hands : List Waiting) (facts : List Fact) (x : Evaluated (List machine.Word))
      → Grows on t (acc ++ ws) hands facts x → Grows on t acc hands facts (followed_by x (λ more now. Done (ws ++ more) now))
  grown on t acc ws hands facts (Done more n) given = subst (λ z. GivenOn on t hands facts (Done z n)) (append_assoc acc ws more) given
  grown on t acc ws hands facts (Raises e n) given = tt
  grown on t acc ws hands facts (Traps e n) none = none

  then_grown : (mid on : List (List machine.Word)) (u t : ℕ) (acc : List machine.Word) (hands : List Waiting) (facts facts' : List Fact) (x : Evaluated (List machine.Word))
      (f : List machine.Word → Now → Evaluated (List machine.Word)) → GivenOn mid u (record { of = t; words = acc } ∷ hands) facts x
      → ((ws : List machine.Word) (n : Now) → GivenOn mid u (record { of = t; words = acc } ∷ hands) facts (Done ws n) → Grows on t acc hands facts' (f ws n))
      → Grows on t acc hands facts' (followed_by x f)
  then_grown mid on u t acc hands facts facts' (Done ws n) f given next = next ws n given
  then_grown mid on u t acc hands facts facts' (Raises e n) f given next = tt
  then_grown mid on u t acc hands facts facts' (Traps e n) f none next = none

  pub all_grown : (on : List (List machine.Word)) (t : ℕ) (hands : List Waiting) (facts : List Fact) (x : Evaluated (List machine.Word)) → Grows on t [] hands facts x → GivenOn on t hands facts x
  all_grown on t hands facts (Done ws n) given = given
  all_grown on t hands facts (Raises e n) given = tt
  all_grown on t hands facts (Traps e n) none = none

  -- what owns nothing, for all elements
  elements_plain : (t : ℕ) (sh : Shape) → shape_of h.typing.table t ≡ sh → is_array sh ≡ true
      → is_owning h.typing.table (machine.element_type h.typing.table t) ≡ false → is_owning h.typing.table t ≡ false
  elements_plain t (shape.Elements low high el) e is none =
      own_law t ∙ ap (owns_of (is_owning h.typing.table)) e ∙ ap (λ z. is_owning h.typing.table (machine.element_of z)) (sym e) ∙ none
  elements_plain t (shape.Whole a b) e is none = absurd (false≢true is)
  elements_plain t (shape.Listed l a b) e is none = absurd (false≢true is)
  elements_plain t (shape.Access d c n) e is none = absurd (false≢true is)
  elements_plain t (shape.Fields cs) e is none = absurd (false≢true is)
  elements_plain t (shape.Same of) e is none = absurd (false≢true is)

  abbrev pub repeats : ℕ → List machine.Word → Now → Evaluated (List machine.Word)
  repeats t ws now = Done (machine.repeated (machine.element_count h.typing.table t) ws) now

  pub repeated_given : (on : List (List machine.Word)) (t : ℕ) (hands : List Waiting) (facts : List Fact) → is_array (shape_of h.typing.table t) ≡ true
      → is_owning h.typing.table (machine.element_type h.typing.table t) ≡ false → (x : Evaluated (List machine.Word))
      → GivenOn on (machine.element_type h.typing.table t) hands facts x → GivenOn on t hands facts (followed_by x (repeats t))
  repeated_given on t hands facts array none (Done ws n) (ready, long, same) =
      let el : ℕ = machine.element_type h.typing.table t in
      let all : List machine.Word = machine.repeated (machine.element_count h.typing.table t) ws in (
        record {
          viewed = same_viewed (home h.typing h.frame) sees other v _ _ facts
              (changed_hand h.typing n.memory leaks (record { of = el; words = ws }) (record { of = t; words = all }) hands
              (λ p. word_no h.typing.table (in_hand (record { of = t; words = all })) p
              (keeps.ownerless t (elements_plain t (shape_of h.typing.table t) refl array none) p)
              ∙ sym (word_no h.typing.table (in_hand (record { of = el; words = ws })) p (keeps.ownerless el none p)))) ready.viewed;
          kept = repeated h.typing settled n.memory t ws hands (shape_of h.typing.table t) refl array long ready.kept;
          holds = ready.holds;
        },
        repeated_long h.typing settled t ws (shape_of h.typing.table t) refl array long,
        same,
      )
  repeated_given on t hands facts array none (Raises e n) given = tt
  repeated_given on t hands facts array none (Traps e n) none' = none'

  -- null for all elements
  nulls_given : (on : List (List machine.Word)) (t : ℕ) (m : Memory) (hands : List Waiting) (facts : List Fact) → is_array (shape_of h.typing.table t) ≡ true
      → words h.typing.table (machine.element_type h.typing.table t) ≡ 1 → Ready m hands facts → (b : Bool)
      → GivenOn on t hands facts (followed_by (if b then Done (machine.Null ∷ []) (record { memory = m; waits = on })
      else Raises run.ConstraintError (record { memory = m; waits = on })) (repeats t))
  nulls_given on t m hands facts array one ready true = (
    blank_ready m hands facts t (machine.repeated (machine.element_count h.typing.table t) (machine.Null ∷ []))
        (none_repeated (machine.element_count h.typing.table t) (machine.Null ∷ []) (λ k h. elim h [ inl e ↦ null_cell e | inr none ↦ none ])) ready,
    repeated_long h.typing settled t (machine.Null ∷ []) (shape_of h.typing.table t) refl array (sym one),
    refl,
  )
  nulls_given on t m hands facts array one ready false = tt

  pub matches_plain : (t u : ℕ) → Matches h.typing.table t u → is_scalar (full h.typing.table t) ≡ true → is_scalar (full h.typing.table u) ≡ true
  matches_plain t u (inl same) plain = ap (λ z. is_scalar (view_shape z)) (sym same) ∙ plain
  matches_plain t u (inr both) plain = both.1

  -- nothing was taken
  still : (m : Memory) (before on : List (List machine.Word)) → Takes 0 before on
      → ◌≡◌ {A = Now} (record { memory = m; waits = before }) (record { memory = m; waits = on })
  still m before on takes = ap (λ z. record { memory = m; waits = z }) (takes_zero before on takes)

  mutual
    unfolding Gives GivesParts GivesFirst GivesPlainly Stays evaluate initial parts_of acts_in waiting

    pub evaluated_on : (e : TypedTree) (want : ℕ) → Gives h.typing want e → GivesPlainly h.typing e → (before on : List (List machine.Word))
        → Takes (waiting e) before on → (m : Memory) (hands : List Waiting) (facts : List Fact)
        → Ready m hands facts → AllowsAll facts (acts (acts_in h.typing e)) → IsNamed h.typing.table want
        → AllKeep (is_fixed h.typing sees) (acts (acts_in h.typing e))
        → GivenOn on want hands (after (acts (acts_in h.typing e)) facts) (evaluate h AsValue e (record { memory = m; waits = before }))
    evaluated_on (Number v) want scalar calls before on takes m hands facts ready allowed own keep =
        scalar_on on m hands facts facts want ready refl scalar (Done (machine.Int v ∷ []) (record { memory = m; waits = before })) (still m before on takes, refl)
    evaluated_on (Literal v) want scalar calls before on takes m hands facts ready allowed own keep =
        scalar_on on m hands facts facts want ready refl scalar (Done (machine.Enumerated v ∷ []) (record { memory = m; waits = before })) (still m before on takes, refl)
    evaluated_on EndOfFile want scalar calls before on takes m hands facts ready allowed own keep =
        scalar_on on m hands facts facts want ready refl scalar (evaluate h AsValue EndOfFile (record { memory = m; waits = before })) (still m before on takes, refl)
    evaluated_on typed.Null want one calls before on takes m hands facts ready allowed own keep =
        (blank_ready m hands facts want (machine.Null ∷ []) (λ k h. by_either h (λ e. (null_cell e)) (λ none. (none))) ready, sym one, takes_zero before on takes)
    evaluated_on (Parens e) want gives calls before on takes m hands facts ready allowed own keep = evaluated_on e want gives calls before on takes m hands facts ready allowed own keep
    evaluated_on (Unary op e) want (scalar, stays) calls before on takes m hands facts ready allowed own keep =
        by_quiet (Unary op e) want scalar stays before on takes m hands facts ready allowed
    evaluated_on (Binary op a b) want (scalar, stays, stays') calls before on takes m hands facts ready allowed own keep =
        by_quiet (Binary op a b) want scalar (stays, stays') before on takes m hands facts ready allowed
    evaluated_on (Short op p a q b) want (scalar, stays, stays') calls before on takes m hands facts ready allowed own keep =
        by_quiet (Short op p a q b) want scalar (stays, stays') before on takes m hands facts ready allowed
    evaluated_on (IsNull equal e) want (scalar, stays) calls before on takes m hands facts ready allowed own keep =
        by_quiet (IsNull equal e) want scalar stays before on takes m hands facts ready allowed
    evaluated_on (Name p x steps t) want (lead, fits) calls before on takes m hands facts ready allowed own keep =
        let now : Now = record { memory = m; waits = before } in
        let name : PlaceName = name_of x steps in
        let live = live_trunk m hands ready.viewed.owned in
        let each = allows_both facts (acts (acts_in h.typing steps)) (used h.typing name t ∷ [])
        (subst (AllowsAll facts) (acts_append (acts_in h.typing steps) (record { pos = p; act = used h.typing name t } ∷ [])) allowed) in
        let kept_names = keep_both (is_fixed h.typing sees) (acts (acts_in h.typing steps)) (used h.typing name t ∷ [])
        (subst (AllKeep (is_fixed h.typing sees)) (acts_append (acts_in h.typing steps) (record { pos = p; act = used h.typing name t } ∷ [])) keep) in
        let inner = steps_taking h sees seeing settled hands leaks m waits other facts v ready.kept ready.viewed ready.holds alone live index_law own_law parts_named
        (object_at h.typing x).of t steps lead before on takes each.0 in
        let mine : Allows facts (used h.typing name t) = subst (λ z. Allows z (used h.typing name t)) inner.1 each.1.0 in
        let whole : after (acts (acts_in h.typing steps ++ record { pos = p; act = used h.typing name t } ∷ [])) facts ≡ effect (used h.typing name t) facts =
        ap (λ z. after z facts) (acts_append (acts_in h.typing steps) (record { pos = p; act = used h.typing name t } ∷ []))
        ∙ after_append (acts (acts_in h.typing steps)) (used h.typing name t ∷ []) facts ∙ ap (effect (used h.typing name t)) inner.1 in
        subst (λ z. GivenOn on want hands z (evaluate h AsValue (Name p x steps t) now)) (sym whole)
        (retyped_given on t want hands (effect (used h.typing name t) facts) fits (evaluate h AsValue (Name p x steps t) now)
        (held_on on m t hands (effect (used h.typing name t) facts) (evaluate h AsValue (Name p x steps t) now) ready.holds
        (fades h AsValue (Name p x steps t) now)
        (then_bare on (record { memory = m; waits = on }) (λ way. Goes h.typing.table (object_at h.typing x).of t steps way) t hands (effect (used h.typing name t) facts) (steps_of h steps now)
        (λ way now. followed_by (walked h.typing way (variable_place h x) now) (held_or_taken h AsValue)) inner.0
        (λ way goes. by_owning on p x steps t m hands facts ready mine kept_names.1.0 way goes (is_owning h.typing.table t) refl))))
    evaluated_on (New t (More e rest)) want (d, c, n, is, fits, (none, gives)) calls before on takes m hands facts ready allowed own keep =
        let now : Now = record { memory = m; waits = before } in
        let acts_same : acts_in h.typing e ++ acts_in h.typing rest ≡ acts_in h.typing e = ap (λ z. acts_in h.typing e ++ acts_in h.typing z) none ∙ append-nil (acts_in h.typing e) in
        let alone_there : waiting e + waiting rest ≡ waiting e = ap (λ z. waiting e + waiting z) none ∙ nothing_more (waiting e) in
        let inner = evaluated_on e t gives calls.0 before on
        (takes_as (waiting e + waiting rest) (waiting e) before on alone_there takes) m (record { of = want; words = [] } ∷ hands) facts
        (blank_ready m hands facts want [] (λ k h. h) ready) (subst (λ z. AllowsAll facts (acts z)) acts_same allowed)
        (matches_named h.typing.table d t fits (parts_named.designated want d c n is))
        (subst (λ z. AllKeep (is_fixed h.typing sees) (acts z)) acts_same keep) in
        subst (λ z. GivenOn on want hands (after (acts z) facts) (followed_by (followed_by (evaluate h AsValue e now) (checked h t)) (allocated t))) (sym acts_same)
        (allocated_given on t want d c n hands (after (acts (acts_in h.typing e)) facts) own is fits (followed_by (evaluate h AsValue e now) (checked h t))
        (checked_on on t t (record { of = want; words = [] } ∷ hands) (after (acts (acts_in h.typing e)) facts) (evaluate h AsValue e now) inner))
    evaluated_on (New t NoMore) want (d, c, n, is, fits, none) calls before on takes m hands facts ready allowed own keep =
        allocated_given on t want d c n hands facts own is fits (Done (default h.typing.table t) (record { memory = m; waits = before })) (
          blank_ready m (record { of = want; words = [] } ∷ hands) facts t (default h.typing.table t) (none_default h.typing.table t)
              (blank_ready m hands facts want [] (λ k h. h) ready),
          keeps.lengths t,
          takes_zero before on takes,
        )
    evaluated_on (New t v) want (d, c, n, is, fits, none) calls before on takes m hands facts ready allowed own keep = absurd none
    evaluated_on (Aggregate t es) want (fits, made, count, gives) calls before on takes m hands facts ready allowed own keep =
        let now : Now = record { memory = m; waits = before } in
        retyped_given on t want hands (after (acts (acts_in h.typing es)) facts) fits (parts_of h t 0 es now)
        (all_grown on t hands (after (acts (acts_in h.typing es)) facts) (parts_of h t 0 es now)
        (parts_given es t 0 gives calls (let n : 0 + tree_count es ≡ field_count (shape_of h.typing.table t) = omega (arith, count) in n) made before on takes m [] hands facts
        (sym (words_none (words h.typing.table) (shape_of h.typing.table t))) (blank_ready m hands facts t [] (λ k h. h) ready) allowed keep))
    evaluated_on (Alike t e) want (fits, array, plain, gives) calls before on takes m hands facts ready allowed own keep =
        let now : Now = record { memory = m; waits = before } in
        let el : ℕ = machine.element_type h.typing.table t in
        retyped_given on t want hands (after (acts (acts_in h.typing e)) facts) fits
        (followed_by (evaluate h AsValue e now) (λ ws now. followed_by (checked h el ws now) (repeats t)))
        (by_either plain
        (λ none. (subst (GivenOn on t hands (after (acts (acts_in h.typing e)) facts)) (regrouped (evaluate h AsValue e now) (checked h el) (repeats t))
        (repeated_given on t hands (after (acts (acts_in h.typing e)) facts) array none (followed_by (evaluate h AsValue e now) (checked h el))
        (checked_on on el el hands (after (acts (acts_in h.typing e)) facts) (evaluate h AsValue e now)
        (evaluated_on e el gives calls before on takes m hands facts ready allowed (parts_named.element t) keep)))))
        (λ null. (subst (λ z. GivenOn on t hands (after (acts (acts_in h.typing z)) facts)
        (followed_by (evaluate h AsValue z now) (λ ws now. followed_by (checked h el ws now) (repeats t)))) (sym null)
        (subst (λ z. GivenOn on t hands facts (followed_by (checked h el (machine.Null ∷ []) (record { memory = m; waits = z })) (repeats t)))
        (sym (takes_zero before on (takes_as (waiting e) 0 before on (ap waiting null) takes)))
        (nulls_given on t m hands facts array (subst (Gives h.typing el) null gives) ready (fits_type h.typing.table el (machine.Null ∷ [])))))))
    -- the result of a function waits
    evaluated_on (Call p sub actuals) want (t, result, fits) calls before on takes m hands facts ready allowed own keep =
        scalar_on on m hands facts facts want ready refl (matches_plain t want fits (calls t result)) (run.waited (record { memory = m; waits = before }))
        (waited_quiet h sees seeing settled hands leaks m waits other facts v ready.kept ready.viewed ready.holds alone (live_trunk m hands ready.viewed.owned) index_law own_law parts_named
        before on takes)
    evaluated_on e want gives calls before on takes m hands facts ready allowed own keep = absurd gives

    -- the parts of an aggregate from the i-th on, after those before
    pub parts_given : (es : TypedTree) (t i : ℕ) → GivesParts h.typing t i es → GivesPlainly h.typing es
        → i + tree_count es ≡ field_count (shape_of h.typing.table t)
        → is_record (shape_of h.typing.table t) || is_array (shape_of h.typing.table t) ≡ true
        → (before on : List (List machine.Word)) → Takes (waiting es) before on
        → (m : Memory) (acc : List machine.Word) (hands : List Waiting) (facts : List Fact)
        → length acc ≡ words_to (words h.typing.table) (shape_of h.typing.table t) i
        → Ready m (record { of = t; words = acc } ∷ hands) facts → AllowsAll facts (acts (acts_in h.typing es))
        → AllKeep (is_fixed h.typing sees) (acts (acts_in h.typing es))
        → Grows on t acc hands (after (acts (acts_in h.typing es)) facts) (parts_of h t i es (record { memory = m; waits = before }))
    parts_given (More e rest) t i gives calls count made before on takes m acc hands facts long ready allowed keep =
        let now : Now = record { memory = m; waits = before } in
        let sh : Shape = shape_of h.typing.table t in
        let u : ℕ = part_type sh i in
        let lt : i < field_count sh = omega (arith, count) in
        let two = takes_both (waiting e) (waiting rest) before on takes in
        let each = allows_both facts (acts (acts_in h.typing e)) (acts (acts_in h.typing rest))
        (subst (AllowsAll facts) (acts_append (acts_in h.typing e) (acts_in h.typing rest)) allowed) in
        let names = keep_both (is_fixed h.typing sees) (acts (acts_in h.typing e)) (acts (acts_in h.typing rest))
        (subst (AllKeep (is_fixed h.typing sees)) (acts_append (acts_in h.typing e) (acts_in h.typing rest)) keep) in
        let between : List Fact = after (acts (acts_in h.typing e)) facts in
        let behind : List Fact = after (acts (acts_in h.typing rest)) between in
        let next : List machine.Word → Now → Evaluated (List machine.Word) =
        (λ ws now. followed_by (parts_of h t (suc i) rest now) (λ more now. Done (ws ++ more) now)) in
        let part : Waiting = record { of = t; words = acc } in
        let first = checked_on two.0 u u (part ∷ hands) between (evaluate h AsValue e now)
        (evaluated_on e u gives.0 calls.0 before two.0 two.1 m (part ∷ hands) facts ready each.0 (part_named h.typing.table parts_named t i sh refl made) names.0) in
        subst (λ z. Grows on t acc hands z (followed_by (evaluate h AsValue e now) (λ ws now. followed_by (checked h u ws now) next)))
        (sym (ap (λ z. after z facts) (acts_append (acts_in h.typing e) (acts_in h.typing rest))
        ∙ after_append (acts (acts_in h.typing e)) (acts (acts_in h.typing rest)) facts))
        (subst (Grows on t acc hands behind) (regrouped (evaluate h AsValue e now) (checked h u) next)
        (then_grown two.0 on u t acc hands between behind (followed_by (evaluate h AsValue e now) (checked h u)) next first
        (λ ws n given. (
        let size : length (acc ++ ws) ≡ length acc + length ws = length-append acc ws in
        let step = words_next (words h.typing.table) sh i lt in
        let more : length (acc ++ ws) ≡ words_to (words h.typing.table) sh (suc i) = (let own = given.1 in omega (arith, size, step, long, own)) in
        grown on t acc ws hands behind (parts_of h t (suc i) rest n)
        (subst (λ z. Grows on t (acc ++ ws) hands behind (parts_of h t (suc i) rest (record { memory = n.memory; waits = z }))) (sym given.2)
        (parts_given rest t (suc i) gives.1 calls.1 (omega (arith, count)) made two.0 on two.2 n.memory (acc ++ ws) hands between more
        (part_joined n.memory hands between t u acc ws (nth_part sh i) (part_there h.typing.table t sh refl i lt)
        (part_offset h.typing.table t sh refl i lt ∙ sym long) (part_is h.typing.table t sh refl i lt) given.1 given.0) each.1 names.1))))))
    parts_given NoMore t i gives calls count made before on takes m acc hands facts long ready allowed keep =
        let sh : Shape = shape_of h.typing.table t in
        let end : i ≡ field_count sh = omega (arith, count) in (
          subst (λ z. Ready m (record { of = t; words = z } ∷ hands) facts) (sym (append-nil acc)) ready,
          ap (λ (z : List machine.Word). length z) (append-nil acc) ∙ long ∙ ap (words_to (words h.typing.table) sh) end
              ∙ words_whole (words h.typing.table) sh made ∙ sym (settled.word_law t),
          takes_zero before on takes,
        )
    parts_given es t i gives calls count made before on takes m acc hands facts long ready allowed keep = absurd gives

  -- without calls nothing that waits is taken
  pub evaluated : (e : TypedTree) (want : ℕ) → Gives h.typing want e → has_call e ≡ false → (m : Memory) (hands : List Waiting) (facts : List Fact)
      → Ready m hands facts → AllowsAll facts (acts (acts_in h.typing e)) → IsNamed h.typing.table want
      → AllKeep (is_fixed h.typing sees) (acts (acts_in h.typing e))
      → Given want hands (after (acts (acts_in h.typing e)) facts) (evaluate h AsValue e (record { memory = m; waits = waits }))
  evaluated e want gives calls m hands facts ready allowed own keep =
      evaluated_on e want gives (gives_plainly h.typing e (inl calls)) waits waits (no_takes e calls waits) m hands facts ready allowed own keep

  -- A call alone takes the value that waits, of any type.
  pub call_given : (on : List (List machine.Word)) (m : Memory) (hands : List Waiting) (facts : List Fact) (p : Pos) (sub : ℕ) (actuals : TypedTree) (t want : ℕ)
      (ws : List machine.Word) → Matches h.typing.table t want → length ws ≡ words h.typing.table t → Ready m (record { of = t; words = ws } ∷ hands) facts
      → GivenOn on want hands facts (evaluate h AsValue (Call p sub actuals) (record { memory = m; waits = ws ∷ on }))
  unfolding evaluate
  call_given on m hands facts p sub actuals t want ws fits long ready =
      retyped_given on t want hands facts fits (Done ws (record { memory = m; waits = drop 1 (ws ∷ on) })) (ready, long, drop_none on)
