-- What subprograms write of package objects, by what their points do, and that an act which lends a part
-- to a borrower, or moves one, writes.
use Rattle.std.proofs.Common.{◌≡◌, refl, sym, ap, ◌∙◌, inl, inr, ℕ, suc, ◌<◌, Bool, true, false, ◌&&◌, ◌||◌, ◌==◌, eq-eqb, List, [], ◌∷◌, drop, length, IsTrue, Option, None}
use Rattle.std.proofs.lemmas.Bool.{true≢false}
use Rattle.machine.specs.spark_base.Lists.{Has}
use Rattle.soundness.proofs.Lists.{Has-append_cases, Has-map_from}
use Rattle.machine.specs.place_names.declared.selector.Sel.{Sel}
use Rattle.machine.specs.place_names.declared.rule.Loan.{Loan}
use Rattle.machine.specs.place_names.declared.rule.Loan.TheVariants.{Borrowed, Observed}
use Rattle.machine.specs.place_names.declared.rule.Rule.TheVariants.{O11}
use Rattle.machine.specs.place_names.Rules.{forbids, breaks_O11}
use Rattle.machine.specs.place_names.declared.act.Act.{Act}
use Rattle.machine.specs.place_names.declared.act.Act.TheVariants as act
use Rattle.machine.specs.place_names.declared.act.Placed.{Placed}
use Rattle.machine.specs.place_names.declared.fact.Fact.{Fact}
use Rattle.machine.specs.place_names.declared.fact.Fact.TheVariants.{Moved, Lent}
use Rattle.machine.specs.place_names.Names.{Name, object, extend, agree_along, overlaps}
use Rattle.machine.specs.place_names.Facts.{adds}
use Rattle.machine.specs.typed_tree.declared.object.Object.{Object}
use Rattle.machine.specs.typed_tree.Trees.{TypedTree}
use Rattle.machine.specs.flow_paths.declared.report.Effects.{Effects}
use Rattle.machine.specs.flow_paths.Instructions.{Call}
use Rattle.machine.specs.flow_paths.Objects.{Typing, is_package_object}
use Rattle.machine.specs.flow_paths.Points.{FlowPoint}
use Rattle.machine.specs.flow_paths.Laid.{FlowSub, FlowProgram, flow_typing}
use Rattle.machine.specs.flow_paths.Effects.{is_in, act_writes, writes_text, point_writes, is_global, own_writes, calls, sub_calls, flow_sub_at, ends, calls_on, AreEffects, read_by, written_by, global_act, globals_from, globals_of}
use Rattle.soundness.specs.OwnedWays.Ways.{AllowsAll}
use Rattle.soundness.proofs.Inherited.{global_allowed}
use Rattle.soundness.proofs.Used.{any_has, used_global, globals_are}
use Rattle.soundness.proofs.OwnedLoans.Clear.{refused}
use Rattle.viewed_steps.specs.Sound.{Disturbs}

or_second : (a b : Bool) → b ≡ true → a || b ≡ true
or_second true b e = refl
or_second false b e = e

both : (a b : Bool) → a ≡ true → b ≡ true → a && b ≡ true
both a b e f = ap (λ z. z && b) e ∙ f

module _ (program : FlowProgram) (effects : Effects) (are : AreEffects program effects) (n : ℕ) (sub : FlowSub) (there : flow_sub_at program n ≡ sub)
    (less : n < length program.subs) where
  abbrev s : Typing
  s = flow_typing program

  -- the object that an act of a point writes
  pub writes_there : (x : ℕ) → is_package_object (flow_typing program) x ≡ true → (p : FlowPoint) → Has sub.points p → (a : Placed) → Has p.acts a
      → act_writes x a.act ≡ true → Has (written_by effects n) x
  writes_there x shared p point a has e =
      let here : point_writes x p ≡ true =
      or_second (x == 0 && writes_text p.instr) _ (any_has (λ (b : Placed). act_writes x b.act) p.acts a has e) in
      let own : own_writes s sub x ≡ true =
      both (is_global s x) _ (or_second (x == 0) (is_package_object s x) shared) (any_has (point_writes x) sub.points p point here) in
      (are.writes n x less).1 (record { last = n; chain = ends n; own = ap (λ z. own_writes s z x) there ∙ own })

  -- what a callee writes, its caller writes
  pub called_writes : (callee : ℕ) → callee < length program.subs → (p : FlowPoint) → Has sub.points p → (actuals : TypedTree) (result : Option ℕ)
      → p.instr ≡ Call callee actuals result → (x : ℕ) → Has (written_by effects callee) x → Has (written_by effects n) x
  called_writes callee below p point actuals result is x written =
      let by = (are.writes callee x below).0 written in
      (are.writes n x less).1 (record { last = by.last; chain = calls_on n callee by.last is_called by.chain; own = by.own })
    where
      is_called : IsTrue (sub_calls (flow_sub_at program n) callee)
      is_called =
          ap (λ z. sub_calls z callee) there
          ∙ any_has (λ (q : FlowPoint). calls callee q.instr) sub.points p point (ap (calls callee) is ∙ eq-eqb callee callee refl)

-- ---- the acts of a call

is_there : (x : ℕ) (xs : List ℕ) → Has xs x → is_in x xs ≡ true
is_there x xs has = any_has (λ y. x == y) xs x has (eq-eqb x x refl)

same_object : (k x : ℕ) (a b : Bool) → act.Global k a ≡ act.Global x b → (k ≡ x) × (a ≡ b)
same_object k x a b e = (cc, cc)

-- one that only reads is of what isn't written
only_read : (objects : List Object) (k x : ℕ) (read written : List ℕ) → Has (globals_from k objects read written) (act.Global x false) → is_in x written ≡ false
only_read [] k x read written has = absurd has
only_read (o ∷ objects) k x read written has = elim (Has-append_cases (global_act k (is_in k read) (is_in k written)) _ (act.Global x false) has) [
  | inr later ↦ only_read objects (suc k) x read written later
  | inl here ↦ by_kind (is_in k read) (is_in k written) refl here
]
  where
    by_kind : (r w : Bool) → is_in k written ≡ w → Has (global_act k r w) (act.Global x false) → is_in x written ≡ false
    by_kind r true is (inl e) = (let never : true ≡ false = (same_object k x true false e).1 in absurd (true≢false never))
    by_kind r true is (inr never) = absurd never
    by_kind true false is (inl e) = ap (λ z. is_in z written) (sym (same_object k x false false e).0) ∙ is
    by_kind true false is (inr never) = absurd never
    by_kind false false is never = absurd never

module _ (program : FlowProgram) (effects : Effects) (are : AreEffects program effects) (callee : ℕ) (text : is_package_object (flow_typing program) 0 ≡ false) where
  -- what the callee writes, the call does
  pub written_global : (x : ℕ) → is_package_object (flow_typing program) x ≡ true → Has (written_by effects callee) x
      → Has (globals_of program effects callee) (act.Global x true)
  written_global x shared written = by_use (used_global program effects are callee x text shared (inr written))
    where
      by_use : (w : Bool) × Has (globals_of program effects callee) (act.Global x w) → Has (globals_of program effects callee) (act.Global x true)
      by_use (true, has) = has
      by_use (false, has) =
          let no : true ≡ false =
          sym (is_there x (written_by effects callee) written)
          ∙ only_read (drop 1 program.objects) 1 x (read_by effects callee) (written_by effects callee) has in absurd (true≢false no)

  overlaps_whole : (n : Name) → overlaps n (object n.root) ≡ true
  overlaps_whole n = both (n.root == n.root) (agree_along n.sels []) (eq-eqb n.root n.root refl) (nothing n.sels)
    where
      nothing : (k : List Sel) → agree_along k [] ≡ true
      nothing [] = refl
      nothing (s ∷ k) = refl

  -- so a call that the facts allow disturbs no package object of which a part is lent
  pub lent_spared : (facts : List Fact) → AllowsAll facts (globals_of program effects callee) → (l : Loan) (h : ℕ) (n : Name) → Has facts (Lent l h n)
      → is_package_object (flow_typing program) n.root ≡ true → Disturbs effects l callee n.root → ⊥
  lent_spared facts allowed Borrowed h n has shared uses =
      let there = used_global program effects are callee n.root text shared uses in
      by_use there.0 (global_allowed (globals_of program effects callee) facts (globals_are program effects are callee) allowed (act.Global n.root there.0) there.1 (Lent Borrowed h n) has)
    where
      by_use : (w : Bool) → forbids (act.Global n.root w) (Lent Borrowed h n) ≡ None → ⊥
      by_use true spared = refused (breaks_O11 n.root true (Lent Borrowed h n)) O11 (object n.root) (Lent Borrowed h n) (overlaps_whole n) spared
      by_use false spared = refused (breaks_O11 n.root false (Lent Borrowed h n)) O11 (object n.root) (Lent Borrowed h n) (overlaps_whole n) spared
  lent_spared facts allowed Observed h n has shared written =
      refused (breaks_O11 n.root true (Lent Observed h n)) O11 (object n.root) (Lent Observed h n) (overlaps_whole n)
      (global_allowed (globals_of program effects callee) facts (globals_are program effects are callee) allowed (act.Global n.root true)
      (written_global n.root shared written) (Lent Observed h n) has)

-- ---- what acts write

-- a borrow writes its place
pub borrowing_writes : (a : Act) (h : ℕ) (m : Name) → Has (adds a) (Lent Borrowed h m) → act_writes m.root a ≡ true
borrowing_writes (act.Borrow b k) h m (inl e) =
    let same : k ≡ m = cc in ap (λ (z : Name). z.root == m.root) same ∙ eq-eqb m.root m.root refl
borrowing_writes (act.Borrow b k) h m (inr never) = absurd never
borrowing_writes (act.Observe b k true) h m never = absurd never
borrowing_writes (act.Observe b k false) h m (inl e) = cc
borrowing_writes (act.Observe b k false) h m (inr never) = absurd never
borrowing_writes (act.Move k parts) h m has = absurd (no_loan k parts has)
  where
    no_loan : (k : Name) (parts : List (List Sel)) → Has (adds (act.Move k parts)) (Lent Borrowed h m) → ⊥
    no_loan k [] has = has
    no_loan k (q ∷ parts) (inl e) = cc
    no_loan k (q ∷ parts) (inr has) = no_loan k parts has
borrowing_writes (act.Read k) h m never = absurd never
borrowing_writes (act.Look k) h m never = absurd never
borrowing_writes (act.Write k) h m never = absurd never
borrowing_writes (act.Reborrow b k) h m never = absurd never
borrowing_writes (act.EndScope x borrower) h m never = absurd never
borrowing_writes (act.Return roots) h m never = absurd never
borrowing_writes (act.Actual k how owning access) h m never = absurd never
borrowing_writes (act.Global g written) h m never = absurd never
borrowing_writes (act.Free k) h m never = absurd never
borrowing_writes (act.Give k borrows) h m never = absurd never

moved_same : (a b : Name) → Moved a ≡ Moved b → a ≡ b
moved_same a b e = cc

-- so does a move
pub moving_writes : (a : Act) (m : Name) → Has (adds a) (Moved m) → act_writes m.root a ≡ true
moving_writes (act.Move k parts) m has =
    let from = Has-map_from (λ q. Moved (extend k q)) parts (Moved m) has in
    let same : extend k from.0 ≡ m = moved_same (extend k from.0) m from.2 in
    ap (λ (z : Name). z.root == m.root) same ∙ eq-eqb m.root m.root refl
moving_writes (act.Borrow b k) m (inl e) = cc
moving_writes (act.Borrow b k) m (inr never) = absurd never
moving_writes (act.Observe b k true) m never = absurd never
moving_writes (act.Observe b k false) m (inl e) = cc
moving_writes (act.Observe b k false) m (inr never) = absurd never
moving_writes (act.Read k) m never = absurd never
moving_writes (act.Look k) m never = absurd never
moving_writes (act.Write k) m never = absurd never
moving_writes (act.Reborrow b k) m never = absurd never
moving_writes (act.EndScope x borrower) m never = absurd never
moving_writes (act.Return roots) m never = absurd never
moving_writes (act.Actual k how owning access) m never = absurd never
moving_writes (act.Global g written) m never = absurd never
moving_writes (act.Free k) m never = absurd never
moving_writes (act.Give k borrows) m never = absurd never
