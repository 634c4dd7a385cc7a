-- Declarations of borrowers and observers and assignments to them, with what a traversal function gave.
use Rattle.std.proofs.Common.{◌≡◌, refl, sym, subst, ℕ, ◌<◌, Bool, true, false, List, [], ◌∷◌, length, Some}
use Rattle.machine.specs.spark_base.declared.position.Pos.{Pos}
use Rattle.machine.specs.place_names.declared.fact.Fact.{Fact}
use Rattle.machine.specs.typed_tree.Trees.{TypedTree, Name, NoMore, More}
use Rattle.machine.specs.flow_paths.Objects.{Typing, object_at, is_variable, is_borrowing, is_observing, is_borrower, is_observer, view_of}
use Rattle.machine.specs.flow_paths.Names.{name_of}
use Rattle.machine.specs.flow_paths.Scopes.{taken}
use Rattle.machine.specs.flow_paths.Acts.{declared_acts, assigned_to}
use Rattle.machine.specs.Words as machine
use Rattle.machine.specs.States.{Outcome}
use Rattle.machine.specs.Step.{Turn, typing, taken_by, target_pos}
use Rattle.soundness.specs.OwnedWays.Ways.{Way, after, AllowsAll}
use Rattle.soundness.specs.PartOffsets.Parts.{IsSettled}
use Rattle.soundness.specs.Seen.{IsNear, home}
use Rattle.soundness.specs.Typed.{OwnsByShape}
use Rattle.soundness.proofs.Scalars.{acts}
use Rattle.soundness.specs.OwnedLoans.Views.{Around, Views, Unused}
use Rattle.soundness.specs.ViewedSoundness.Holds.{PartsAreNamed, is_given, Seeing}
use Rattle.soundness.proofs.ViewedSoundness.Outcomes.{IsGood, Leads_on}
use Rattle.soundness.proofs.ViewedSoundness.Lends.{Sees, Declares, Puts}
use Rattle.soundness.proofs.ViewedSoundness.Coming.{IsComing, borrower_given, observer_given, assign_observer_given, assign_borrower_given}
use Rattle.viewed_steps.specs.Traversals.{TraversalCall, call_in, traversed_name}
use Rattle.viewed_steps.proofs.Ended.{view_kinds}
use Rattle.viewed_steps.proofs.Sources.{observer_only}

module _ (t : Turn) (sees : ℕ → Bool) (seeing : Seeing (typing t) sees) (settled : IsSettled (typing t).table) (own_law : OwnsByShape (typing t).table) (other : Around (home (typing t) (length t.outer)))
    (alone : (w : Way) → IsNear (length t.outer) w → other.gone w → ⊥)
    (v : Views) (parts_named : PartsAreNamed (typing t).table) (may : ℕ → ℕ → Type 0)
    (frames : t.state.frames ≡ t.frame ∷ t.outer) (none : taken t.point.instr ≡ 0) where
  abbrev s : Typing
  s = typing t

  abbrev depth : ℕ
  depth = length t.outer

  abbrev Good : List Fact → Type 0
  Good facts = IsGood t sees seeing settled own_law other alone v parts_named may frames none v facts t.state

  abbrev LeadsHere : List Fact → Outcome → Type 0
  LeadsHere facts outcome = Leads_on t sees seeing settled own_law other alone v parts_named may frames none facts outcome

  -- the instructions, with the value that they take
  abbrev DeclaresHere : machine.Word → ℕ → TypedTree → Outcome
  DeclaresHere z x e = Declares t sees seeing settled own_law other alone v parts_named may frames none ((z ∷ []) ∷ []) x e

  abbrev PutsHere : machine.Word → Pos → ℕ → TypedTree → Outcome
  PutsHere z r x e =
      Puts t sees seeing settled own_law other alone v parts_named may frames none (target_pos t (Name r x NoMore (object_at s x).of)) r x (object_at s x).of
      (taken_by t (object_at s x).of e (record { memory = t.state.memory; waits = (z ∷ []) ∷ [] }))

  module _ (n : ℕ) (c : TraversalCall) (x d : ℕ) (z : machine.Word) (facts : List Fact) (looks : Sees t sees seeing settled own_law other alone v parts_named may frames none x d)
      (variable : is_variable (object_at s x).kind ≡ true) (own : is_given s x ≡ false) (good : Good facts)
      (coming : IsComing t sees seeing settled own_law other alone v parts_named may frames none c.root d (traversed_name c) z) (mine : may x c.root) where
    borrows_only : is_observer s x ≡ false → is_borrower s x ≡ true
    borrows_only e = view_kinds (is_variable (object_at s x).kind) (is_borrowing (view_of s x)) (is_observing (view_of s x)) looks.anonymous variable e

    -- a view is declared
    pub view_declared : (is_observer s x ≡ false → (is_observer s c.root ≡ false) × (sees x ≡ sees c.root) × (c.root < x) × Unused (home s depth) other.lent v facts x)
        → AllowsAll facts (acts (declared_acts s x (More (call_in n c) NoMore)))
        → LeadsHere (after (acts (declared_acts s x (More (call_in n c) NoMore))) facts) (DeclaresHere z x (More (call_in n c) NoMore))
    view_declared older allowed = by_kind (is_observer s x) refl
      where
        by_kind : (b : Bool) → is_observer s x ≡ b
            → LeadsHere (after (acts (declared_acts s x (More (call_in n c) NoMore))) facts) (DeclaresHere z x (More (call_in n c) NoMore))
        by_kind true e =
            observer_given t sees seeing settled own_law other alone v parts_named may frames none c.pos n c.name_pos c.root c.path c.of c.others x d z facts looks good coming mine
            NoMore (observer_only s x e) e own allowed
        by_kind false e =
            borrower_given t sees seeing settled own_law other alone v parts_named may frames none c.pos n c.name_pos c.root c.path c.of c.others x d z facts looks good coming mine
            NoMore (borrows_only e) (older e).0 (older e).1 (older e).2 (older e).3 allowed

    -- a view is assigned
    pub view_assigned : (pos r : Pos) → (is_observer s x ≡ false → c.root ≡ x)
        → AllowsAll facts (acts (assigned_to s pos (Some x) (Name r x NoMore (object_at s x).of) (call_in n c)))
        → LeadsHere (after (acts (assigned_to s pos (Some x) (Name r x NoMore (object_at s x).of) (call_in n c))) facts) (PutsHere z r x (call_in n c))
    view_assigned pos r itself allowed = by_kind (is_observer s x) refl
      where
        by_kind : (b : Bool) → is_observer s x ≡ b
            → LeadsHere (after (acts (assigned_to s pos (Some x) (Name r x NoMore (object_at s x).of) (call_in n c))) facts) (PutsHere z r x (call_in n c))
        by_kind true e =
            assign_observer_given t sees seeing settled own_law other alone v parts_named may frames none c.pos n c.name_pos c.root c.path c.of c.others x d z facts looks good coming mine
            pos r (observer_only s x e) e own allowed
        by_kind false e = at_itself c.root (itself e) coming mine allowed
          where
            at_itself : (y : ℕ) → y ≡ x → IsComing t sees seeing settled own_law other alone v parts_named may frames none y d (name_of y c.path) z → may x y
                → AllowsAll facts (acts (assigned_to s pos (Some x) (Name r x NoMore (object_at s x).of) (call_in n (record c { root = y }))))
                → LeadsHere (after (acts (assigned_to s pos (Some x) (Name r x NoMore (object_at s x).of) (call_in n (record c { root = y })))) facts)
                (PutsHere z r x (call_in n (record c { root = y })))
            at_itself y same coming mine allowed =
                subst (λ y. LeadsHere (after (acts (assigned_to s pos (Some x) (Name r x NoMore (object_at s x).of) (call_in n (record c { root = y })))) facts)
                (PutsHere z r x (call_in n (record c { root = y })))) (sym same)
                (assign_borrower_given t sees seeing settled own_law other alone v parts_named may frames none c.pos n c.name_pos c.path c.of c.others x d z facts looks good
                (subst (λ y. IsComing t sees seeing settled own_law other alone v parts_named may frames none y d (name_of y c.path) z) same coming) (subst (may x) same mine)
                pos r (borrows_only e) own
                (subst (λ y. AllowsAll facts (acts (assigned_to s pos (Some x) (Name r x NoMore (object_at s x).of) (call_in n (record c { root = y }))))) same allowed))
