-- A state where nothing is gone: what names of a frame stand for is the same there. While places are taken,
-- this is the state that names are compared in.
use Rattle.std.proofs.Common.{◌≡◌, ap, ℕ, Bool, List}
use Rattle.machine.specs.place_names.declared.fact.Fact.{Fact}
use Rattle.machine.specs.place_names.declared.rule.Loan.{Loan}
use Rattle.machine.specs.place_names.Names.{Name}
use Rattle.soundness.specs.OwnedWays.Ways.{Word, Empty, Gone, Held, View, Way, Object, Lost, Into, All, Loc, OfCell, Reaches, Owned, Covered}
use Rattle.soundness.specs.OwnedLoans.Views.{Around, Views, AreClear, AreViews, AreShared, IsLentToOthers, Viewed}
use Rattle.soundness.proofs.OwnedLoans.Moves.{parts_on, view_on, reached}

abbrev pub still_word : Word → Word
still_word Empty = Empty
still_word Gone = Empty
still_word (Held n) = Held n

held_before : (w : Word) (n : ℕ) → still_word w ≡ Held n → w ≡ Held n
held_before Empty n e = cc
held_before Gone n e = cc
held_before (Held m) n e = e

none_gone : (w : Word) → still_word w ≡ Gone → ⊥
none_gone Empty e = cc
none_gone Gone e = cc
none_gone (Held n) e = cc

abbrev pub still : View → View
still v = record { word = λ l. still_word (v.word l); made = v.made; freed = v.freed; leaked = v.leaked }

reaches_still : (v : View) (w : Way) (l : Loc) → Reaches v w l → Reaches (still v) w l
reaches_still v (Object r) l reach = reach
reaches_still v (Lost n) l reach = reach
reaches_still v (Into w i) l (m, reach, is) = (m, reaches_still v w m reach, is)
reaches_still v (All w) l (m, n, reach, held, is) = (m, n, reaches_still v w m reach, ap still_word held, is)

-- Others have lent these, and nothing else concerns the frame.
abbrev pub lent_only : (home : ℕ → ℕ) → (Loan → Name → Type 0) → Around home
lent_only home lent = record {
  lent = lent;
  gone = λ w. ⊥;
  away = λ w. ⊥;
  through = λ w none. absurd none;
  kept = λ w n. ⊥;
  begins = λ w n none. absurd none;
  bare = λ w l p. ⊥;
  rests = λ w l p none. absurd none;
  bares = λ w l p none. absurd none;
  emptied = λ w l p none q. absurd none;
}

pub still_viewed : (home : ℕ → ℕ) (observer : ℕ → Bool) (lent : Loan → Name → Type 0) (v : Views) (s : View) (facts : List Fact) → Owned s → Covered s
    → AreClear observer facts → AreViews home observer v s facts → AreShared home observer lent v
    → ((l : Loan) (n : Name) → lent l n → IsLentToOthers observer v facts l n)
    → Viewed home observer (lent_only home lent) v (still s) facts
still_viewed home observer lent v s facts owned covered clear views shown lends = record {
  owned = record {
    unique = λ l m n one two. owned.unique l m n (held_before (s.word l) n one) (held_before (s.word m) n two);
    live = λ l n held. owned.live l n (held_before (s.word l) n held);
    within = λ l n held. owned.within l n (held_before (s.word l) n held);
    kept = λ l n held. owned.kept l n (held_before (s.word l) n held);
    counted = owned.counted;
  };
  covered = λ n less live. (let there = covered n less live in (there.0, reaches_still s there.0 (OfCell n) there.1));
  known = λ w l rooted reach gone. absurd (none_gone (s.word l) gone);
  clear = clear;
  views = (
    λ x w has.
        view_on home observer (lent_only home lent) v s (still s) facts facts x w (views.0 x w has) (λ b n loan. loan)
        (reaches_still s w (OfCell (v.cell x)) (reached home observer (lent_only home lent) v s facts x w (views.0 x w has))),
    parts_on home observer (lent_only home lent) v s (still s) views.1 (λ x p w has reach. reaches_still s w (OfCell (v.part_cell x p)) reach),
  );
  whole = λ x w z has outer none. absurd none;
  whole_away = λ x w z has given none. absurd none;
  whole_parts = λ x p w z has none. absurd none;
  parts_away = λ x p w z has none. absurd none;
  shown = shown;
  past = λ x w has given plain k n none. absurd none;
  lends = lends;
  far = λ w n none. absurd none;
  bare = λ w l p none. absurd none;
}
