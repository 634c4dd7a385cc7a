-- A move into a hand, and from a hand to a target, under the acts Move and Write.
use Rattle.std.proofs.Common.{◌≡◌, ◌<◌, refl, sym, ap, ◌∙◌, subst, inl, inr, ℕ, Bool, true, false, not, ◌||◌, List, [], ◌∷◌, Some, None, if◌then◌else◌}
use Rattle.std.specs.List.{filter}
use Rattle.std.proofs.lemmas.Bool.{false≢true}
use Rattle.machine.specs.place_names.declared.selector.Sel.{Sel}
use Rattle.machine.specs.spark_base.Lists.{Has}
use Rattle.spark_base.proofs.Lists.{Has-append_left, Has-append_right, Has-filter_passes, Has-map}
use Rattle.machine.specs.place_names.Names.{extend, overlaps, covers}
use Rattle.machine.specs.place_names.declared.act.Act.{Act}
use Rattle.machine.specs.place_names.declared.act.Act.TheVariants.{Move, Write}
use Rattle.machine.specs.place_names.declared.fact.Fact.{Fact}
use Rattle.machine.specs.place_names.declared.fact.Fact.TheVariants.{Moved}
use Rattle.machine.specs.place_names.Facts.{adds, removes, effect}
use Rattle.machine.specs.place_names.declared.rule.Rule.TheVariants.{O4}
use Rattle.machine.specs.place_names.declared.rule.State.TheVariants as state
use Rattle.machine.specs.place_names.Rules.{Forbidden}
use Rattle.soundness.specs.OwnedWays.Ways.{Step, OfVariable, OfHand, Loc, OfCell, Way, Object, Lost, Into, All, Gone, View, part, along, Reaches, IsRooted, Under, Owned, IsMove, IsSame, base_of, name_of, Named, IsMoved, Excused, Spares, Allows, Sound}
use Rattle.soundness.proofs.OwnedWays.Named.{longer, under_overlaps, covered_under}
use Rattle.soundness.proofs.OwnedWays.Moving.{Given, owned_after, covered_after, known_after}
use Rattle.soundness.proofs.Parted.{by_either}

-- ---- what rules say

pub test_fails : (A : Type 0) (x : A) (b : Bool) → b ≡ true → (if b then Some x else None) ≡ None → ⊥
test_fails A x true e f = cc
test_fails A x false e f = absurd (false≢true e)

pub either_left : (a b : Bool) → a ≡ true → a || b ≡ true
either_left true b e = refl
either_left false b e = absurd (false≢true e)

-- no moved name overlaps the name of a move
pub move_clean : (home : ℕ → ℕ) (facts : List Fact) (m : Way) (parts : List (List Sel)) → Allows facts (Move (name_of m) parts)
    → (v : Way) → Under m v → IsMoved home facts v → ⊥
move_clean home facts m parts allowed v u h =
    test_fails Forbidden (record { rule = O4; name = name_of m; word = state.Moved }) (overlaps (name_of v) (name_of m))
    (under_overlaps m v u) (allowed (Moved (name_of v)) h.1)

-- ---- facts

pub kept_fact : (a : Act) (facts : List Fact) (f : Fact) → Has facts f → removes a f ≡ false → Has (effect a facts) f
kept_fact a facts f h e =
    Has-append_left (filter (λ g. not (removes a g)) facts) (adds a) f
    (Has-filter_passes (λ g. not (removes a g)) facts f h (ap not e))

pub is_false : (b : Bool) → (b ≡ true → ⊥) → b ≡ false
is_false true e = absurd (e refl)
is_false false e = refl

-- ---- a move, whatever the act

pub moved_between : (home : ℕ → ℕ) (other : Way → Type 0) (s t : View) (f k : Way) (from to : Loc) (facts facts' : List Fact)
    → Given s t f k from to → Sound home other s facts → IsRooted f
    → ((v : Way) → Under f v → Excused home other facts v → ⊥)
    → ((w : Way) → IsMoved home facts w → (Under k w → ⊥) → IsMoved home facts' w)
    → ((p : List Step) → t.word (part from p) ≡ Gone → Excused home other facts' (along f p))
    → Sound home other t facts'
moved_between home other s t f k from to facts facts' given sound rooted clean stays adds = record {
  owned = owned_after s t f k from to given;
  covered = covered_after s t f k from to given sound.covered;
  known = known_after s t f k from to (Excused home other facts) (Excused home other facts') given sound.known rooted clean
      (λ w moved off. elim moved [ inl m ↦ inl (stays w m off) | inr o ↦ inr o ]) adds;
}

abbrev pub Apart : Way → Way → Type 0
Apart f k = base_of f ≡ base_of k → ⊥

pub given_apart : (s t : View) (f k : Way) (from to : Loc) → Owned s → IsMove s t from to → Reaches s f from → Reaches s k to → Apart f k
    → Given s t f k from to
given_apart s t f k from to owned move source target other = record {
  owned = owned;
  move = move;
  source = source;
  target = target;
  apart = λ u. other (sym (longer f k u).base);
  aside = λ u. other (longer k f u).base;
}

-- ---- taking into a hand, or a part of one

pub named_rooted : (home : ℕ → ℕ) (w : Way) → Named home w → IsRooted w
named_rooted home (Object r) n = tt
named_rooted home (Lost x) n = absurd n
named_rooted home (Into w i) n = named_rooted home w n
named_rooted home (All w) n = named_rooted home w n

pub taken : (home : ℕ → ℕ) (other : Way → Type 0) (s t : View) (m k : Way) (from to : Loc) (parts : List (List Sel)) (facts : List Fact)
    → Sound home other s facts → IsMove s t from to → Named home m → Spares other m → Reaches s m from → Reaches s k to → Apart m k
    → Allows facts (Move (name_of m) parts)
    → ((p : List Step) → t.word (part from p) ≡ Gone → (q : List Sel) × Has parts q × (name_of (along m p) ≡ extend (name_of m) q))
    → Sound home other t (effect (Move (name_of m) parts) facts)
taken home other s t m k from to parts facts sound move named spares source target apart allowed marks =
    moved_between home other s t m k from to facts (effect (Move (name_of m) parts) facts)
    (given_apart s t m k from to sound.owned move source target apart) sound (named_rooted home m named)
    (λ v u known. elim known [ inl h ↦ move_clean home facts m parts allowed v u h | inr o ↦ spares v u o ])
    (λ w moved off. (moved.0, kept_fact (Move (name_of m) parts) facts (Moved (name_of w)) moved.1 refl))
    (λ p gone. (let found = marks p gone in
    inl (
      named_part home m p named,
      Has-append_right (filter (λ g. not (removes (Move (name_of m) parts) g)) facts) (adds (Move (name_of m) parts)) (Moved (name_of (along m p)))
          (subst (λ n. Has (adds (Move (name_of m) parts)) (Moved n)) (sym found.2)
          (Has-map (λ q. Moved (extend (name_of m) q)) parts found.0 found.1)),
    )))
  where
    named_part : (home : ℕ → ℕ) (w : Way) (p : List Step) → Named home w → Named home (along w p)
    named_part home w [] n = n
    named_part home w (i ∷ p) n = named_part home w p n

-- ---- from one hand to another, or to a part of one, or into a new cell

-- The root of a way is a hand.
abbrev pub InHand : Way → Type 0
InHand (Object (OfVariable f x)) = ⊥
InHand (Object (OfHand h)) = Unit {0}
InHand (Lost n) = ⊥
InHand (Into w i) = InHand w
InHand (All w) = InHand w

hand_under : (f v : Way) → InHand f → Under f v → InHand v
hand_under f (Object r) n u = subst InHand u n
hand_under f (Lost x) n u = subst InHand u n
hand_under f (Into w i) n u = by_either u (λ e. (subst InHand e n)) (λ u. (hand_under f w n u))
hand_under f (All w) n u = by_either u (λ e. (subst InHand e n)) (λ u. (hand_under f w n u))

unnamed : (home : ℕ → ℕ) (w : Way) → InHand w → Named home w → ⊥
unnamed home (Object (OfVariable f x)) n m = n
unnamed home (Object (OfHand h)) n m = m
unnamed home (Lost x) n m = n
unnamed home (Into w i) n m = unnamed home w n m
unnamed home (All w) n m = unnamed home w n m

hand_rooted : (w : Way) → InHand w → IsRooted w
hand_rooted (Object r) n = tt
hand_rooted (Lost x) n = absurd n
hand_rooted (Into w i) n = hand_rooted w n
hand_rooted (All w) n = hand_rooted w n

pub handed : (home : ℕ → ℕ) (other : Way → Type 0) (s t : View) (f k : Way) (from to : Loc) (facts : List Fact)
    → Sound home other s facts → IsMove s t from to → InHand f → Spares other f → Reaches s f from → Reaches s k to → Apart f k
    → ((p : List Step) → t.word (part from p) ≡ Gone → ⊥) → Sound home other t facts
handed home other s t f k from to facts sound move inhand spares source target apart empty =
    moved_between home other s t f k from to facts facts (given_apart s t f k from to sound.owned move source target apart) sound
    (hand_rooted f inhand)
    (λ v u known. elim known [ inl h ↦ unnamed home v (hand_under f v inhand u) h.0 | inr o ↦ spares v u o ])
    (λ w moved off. moved)
    (λ p gone. absurd (empty p gone))

-- ---- putting at a target

pub put : (home : ℕ → ℕ) (other : Way → Type 0) (s t : View) (f k : Way) (from to : Loc) (facts : List Fact)
    → Sound home other s facts → IsMove s t from to → InHand f → Spares other f → Reaches s f from → Named home k → Reaches s k to → Apart f k
    → ((p : List Step) → t.word (part from p) ≡ Gone → ⊥) → Sound home other t (effect (Write (name_of k)) facts)
put home other s t f k from to facts sound move inhand spares source named target apart empty =
    moved_between home other s t f k from to facts (effect (Write (name_of k)) facts)
    (given_apart s t f k from to sound.owned move source target apart) sound (hand_rooted f inhand)
    (λ v u known. elim known [ inl h ↦ unnamed home v (hand_under f v inhand u) h.0 | inr o ↦ spares v u o ])
    (λ w moved off. (
      moved.0,
      kept_fact (Write (name_of k)) facts (Moved (name_of w)) moved.1
          (is_false (covers (name_of k) (name_of w)) (λ e. off (covered_under home k w named moved.0 e))),
    ))
    (λ p gone. absurd (empty p gone))

-- ---- acts that change nothing for owners

same_reaches : (s t : View) → IsSame s t → (w : Way) (l : Loc) → Reaches s w l → Reaches t w l
same_reaches s t e (Object r) l h = h
same_reaches s t e (Lost n) l h = (e.leaked n ∙ h.0, h.1)
same_reaches s t e (Into w i) l (m, h, is) = (m, same_reaches s t e w m h, is)
same_reaches s t e (All w) l (m, n, h, held, is) = (m, n, same_reaches s t e w m h, e.word m ∙ held, is)

pub turned_round : (s t : View) → IsSame s t → IsSame t s
turned_round s t e = record {
  word = λ l. sym (e.word l);
  made = sym e.made;
  freed = λ n. sym (e.freed n);
  leaked = λ n. sym (e.leaked n);
}

pub same_sound : (home : ℕ → ℕ) (other : Way → Type 0) (s t : View) (facts : List Fact) → IsSame s t → Sound home other s facts
    → Sound home other t facts
same_sound home other s t facts e sound = record {
  owned = record {
    unique = λ l m n a b. sound.owned.unique l m n (sym (e.word l) ∙ a) (sym (e.word m) ∙ b);
    live = λ l n a. e.freed n ∙ sound.owned.live l n (sym (e.word l) ∙ a);
    within = λ l n a. subst (λ z. n < z) (sym e.made) (sound.owned.within l n (sym (e.word l) ∙ a));
    kept = λ l n a. e.leaked n ∙ sound.owned.kept l n (sym (e.word l) ∙ a);
    counted = λ n a. subst (λ z. n < z) (sym e.made) (sound.owned.counted n (sym (e.leaked n) ∙ a));
  };
  covered = λ n less free. (
      let was = sound.covered n (subst (λ z. n < z) e.made less) (sym (e.freed n) ∙ free) in
      (was.0, same_reaches s t e was.0 (OfCell n) was.1));
  known = λ w l n r h. sound.known w l n (same_reaches t s (turned_round s t e) w l r) (sym (e.word l) ∙ h);
}
