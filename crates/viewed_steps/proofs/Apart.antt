-- What the frames around the innermost one say of package objects: places that one of them has moved or
-- lent meet none that another one has lent, and the innermost frame disturbs none of them.
use Rattle.std.proofs.Common.{◌≡◌, refl, sym, ap, ◌∙◌, subst, inl, inr, ℕ, ◌<◌, Bool, true, false, ◌&&◌, ◌==◌, eqb-true, List, [], ◌∷◌, length, arith}
use Rattle.std.proofs.lemmas.Bool.{false≢true}
use Rattle.machine.specs.spark_base.Lists.{Has}
use Rattle.machine.specs.place_names.Facts.{place}
use Rattle.machine.specs.place_names.declared.fact.Fact.{Fact}
use Rattle.machine.specs.place_names.declared.fact.Fact.TheVariants.{Moved, Lent}
use Rattle.machine.specs.place_names.declared.rule.Loan.{Loan}
use Rattle.machine.specs.place_names.declared.rule.Loan.TheVariants.{Borrowed, Observed}
use Rattle.machine.specs.place_names.Names.{Name, agree_along, overlaps, object}
use Rattle.machine.specs.type_definitions.Types.{Table}
use Rattle.machine.specs.typed_tree.Programs.{TypedProgram}
use Rattle.machine.specs.flow_paths.declared.report.Effects.{Effects}
use Rattle.machine.specs.flow_paths.Objects.{Typing, is_package_object}
use Rattle.machine.specs.flow_paths.Laid.{FlowSub, FlowProgram, NamedSub, flow_sub, typing_of, flow_typing, flow_program, flow_named}
use Rattle.machine.specs.flow_paths.Paths.{facts_before}
use Rattle.machine.specs.flow_paths.Effects.{flow_sub_at, path_points, AreEffects, written_by}
use Rattle.machine.specs.States.{Return, State, sub_of}
use Rattle.soundness.specs.Sound.{Stage, facts_of, Uses, IsNamedSub}
use Rattle.soundness.proofs.Points.{sub_there, sub_at_number, sub_in_range}
use Rattle.soundness.proofs.Used.{writes_used, reads_used, fact_added}
use Rattle.viewed_steps.specs.Sound.{loan_by, withheld, ViewStage, Disturbs, IsWaiting, AreWaiting, shown_at, passed_roots, known_at}
use Rattle.viewed_steps.proofs.Inherited.{lending_uses}
use Rattle.viewed_steps.proofs.Uses.{writes_there, borrowing_writes, moving_writes}
use Rattle.viewed_steps.proofs.Showing.{none_moved}
use Rattle.viewed_steps.proofs.Withheld.{kept_cases, kept_loan}
use Rattle.soundness.proofs.Lists.{Has-append_cases}
use Rattle.soundness.proofs.Parted.{by_either}

both_first : (a b : Bool) → a && b ≡ true → a ≡ true
both_first true b e = refl
both_first false b e = absurd (false≢true e)

pub same_root : (n m : Name) → overlaps n m ≡ true → n.root ≡ m.root
same_root n m over = eqb-true n.root m.root (both_first (n.root == m.root) (agree_along n.sels m.sels) over)

pub moved_same : (n m : Name) → Moved n ≡ Moved m → n ≡ m
moved_same n m e = cc

module _ (table : Table) (typed : TypedProgram) (effects : Effects) (are : AreEffects (flow_program table typed) effects) where
  abbrev program : FlowProgram
  program = flow_program table typed

  abbrev s : Typing
  s = flow_typing (flow_program table typed)

  abbrev own : Typing
  own = typing_of table typed

  -- ---- what a frame does with package objects

  module _ (e : Stage) (named : NamedSub) (of_sub : IsNamedSub (flow_named table typed) e.frame.sub named) where
    abbrev sub : FlowSub
    sub = flow_sub own named

    there : flow_sub_at program e.frame.sub ≡ sub
    there = sub_at_number table typed e.frame.sub named of_sub _

    less : e.frame.sub < length program.subs
    less = sub_in_range table typed e.frame.sub named of_sub

    here : (f : Fact) → Has (facts_of program effects e) f → Has (facts_before (path_points program effects sub) e.before) f
    here f has = subst (λ (z : FlowSub). Has (facts_before (path_points program effects z) e.before) f) (sub_there table typed e.frame.sub named of_sub) has

    pub moved_written : (n : Name) → Has (facts_of program effects e) (Moved n) → is_package_object s n.root ≡ true → Has (written_by effects e.frame.sub) n.root
    moved_written n has shared =
        let from = fact_added program effects are sub e.before (Moved n) (here (Moved n) has) in
        writes_there program effects are e.frame.sub sub there less n.root shared from.0 from.2 from.1 from.3 (moving_writes (from.1).act n from.4)

    pub lent_written : (h : ℕ) (n : Name) → Has (facts_of program effects e) (Lent Borrowed h n) → is_package_object s n.root ≡ true
        → Has (written_by effects e.frame.sub) n.root
    lent_written h n has shared =
        let from = fact_added program effects are sub e.before (Lent Borrowed h n) (here (Lent Borrowed h n) has) in
        writes_there program effects are e.frame.sub sub there less n.root shared from.0 from.2 from.1 from.3 (borrowing_writes (from.1).act h n from.4)

    pub lent_used : (l : Loan) (h : ℕ) (n : Name) → Has (facts_of program effects e) (Lent l h n) → is_package_object s n.root ≡ true → Uses effects e.frame.sub n.root
    lent_used l h n has shared =
        let from = fact_added program effects are sub e.before (Lent l h n) (here (Lent l h n) has) in
        elim (lending_uses (from.1).act l h n from.4) [
          | inl e' ↦ writes_used program effects are e.frame.sub sub there less n.root shared from.0 from.2 from.1 from.3 e'
          | inr e' ↦ reads_used program effects are e.frame.sub sub there less n.root shared from.0 from.2 from.1 from.3 e'
        ]

  -- what is written is disturbed
  pub written_disturbs : (l : Loan) (n x : ℕ) → Has (written_by effects n) x → Disturbs effects l n x
  written_disturbs Borrowed n x written = inr written
  written_disturbs Observed n x written = written

  -- what a callee disturbs, its caller does
  disturbs_on : (l : Loan) (callee caller x : ℕ) → (Uses effects callee x → Uses effects caller x)
      → (Has (written_by effects callee) x → Has (written_by effects caller) x) → Disturbs effects l callee x → Disturbs effects l caller x
  disturbs_on Borrowed callee caller x uses writes disturbs = uses disturbs
  disturbs_on Observed callee caller x uses writes disturbs = writes disturbs

  -- ---- frames that wait

  -- none of what they lend is disturbed by the innermost one
  pub spared_there : (state : State) (callee : ℕ) (backs : List Return) (older : List ViewStage) → AreWaiting table typed effects state callee backs older → (g : ViewStage) → Has older g
      → 0 < g.stage.depth → (l : Loan) (h : ℕ) (n : Name) → Has (known_at program effects g.stage) (Lent l h n) → is_package_object s n.root ≡ true
      → Disturbs effects l callee n.root → ⊥
  spared_there state callee backs [] waiting g has some l h n lent shared disturbs = absurd has
  spared_there state callee backs (e ∷ []) waiting g (inl same) some l h n lent shared disturbs =
      let first = (waiting.0).3 in
      let depths = ap (λ (z : ViewStage). z.stage.depth) same in
      omega (arith, some, first, depths)
  spared_there state callee backs (e ∷ []) waiting g (inr never) some l h n lent shared disturbs = absurd never
  spared_there state callee backs (k ∷ (j ∷ older)) waiting g (inl same) some l h n lent shared disturbs =
      (waiting.0).lends l h n (subst (λ (z : ViewStage). Has (known_at program effects z.stage) (Lent l h n)) (sym same) lent) shared disturbs
  spared_there state callee backs (k ∷ (j ∷ older)) waiting g (inr has) some l h n lent shared disturbs =
      spared_there state k.stage.frame.sub k.stage.frame.returns (j ∷ older) waiting.1 g has some l h n lent shared
      (disturbs_on l callee k.stage.frame.sub n.root ((waiting.0).uses n.root) ((waiting.0).writes n.root) disturbs)

  -- ---- what a frame keeps

  module _ (state : State) (callee : ℕ) (backs : List Return) (g : ViewStage) (waits : IsWaiting table typed effects state callee backs g) where
    -- what is passed is written
    root_written : (f : Fact) (y : ℕ) → Has (passed_roots effects g) y → f ≡ Moved (object y) → is_package_object s (place f).root ≡ true
        → Has (written_by effects g.stage.frame.sub) (place f).root
    root_written f y passed is shared =
        let root : (place f).root ≡ y = ap (λ z. (place z).root) is in
        subst (Has (written_by effects g.stage.frame.sub)) (sym root) (waits.written y passed (ap (is_package_object s) (sym root) ∙ shared))

    -- and so is what is known as moved or borrowed
    known_written : (f : Fact) → Has (known_at program effects g.stage) f → loan_by f ≡ Borrowed → is_package_object s (place f).root ≡ true
        → Has (written_by effects g.stage.frame.sub) (place f).root
    known_written (Moved n) has borrowed shared = by_either (Has-append_cases (facts_of program effects g.stage) (shown_at program g.stage) (Moved n) has)
        (λ fact. (moved_written g.stage waits.named waits.of_sub n fact shared))
        (λ shown. (absurd (none_moved program (sub_of program g.stage.frame.sub) g.stage.before n shown)))
    known_written (Lent l h n) has borrowed shared = by_either (Has-append_cases (facts_of program effects g.stage) (shown_at program g.stage) (Lent l h n) has)
        (λ fact. (lent_written g.stage waits.named waits.of_sub h n (subst (λ z. Has (facts_of program effects g.stage) (Lent z h n)) borrowed fact) shared))
        (λ shown. ((waits.shown l h n shown shared).1 borrowed))

    kept_written : (f : Fact) → Has (withheld program effects g) f → loan_by f ≡ Borrowed → is_package_object s (place f).root ≡ true
        → Has (written_by effects g.stage.frame.sub) (place f).root
    kept_written f has borrowed shared = by_either (kept_cases program effects g f has) (λ known. (known_written f known.0 borrowed shared)) (λ (y, passed, is). (root_written f y passed is shared))

    -- what is kept is used
    kept_used : (f : Fact) → Has (withheld program effects g) f → is_package_object s (place f).root ≡ true → Uses effects g.stage.frame.sub (place f).root
    kept_used (Moved n) has shared = inr (kept_written (Moved n) has refl shared)
    kept_used (Lent l h n) has shared = by_either (Has-append_cases (facts_of program effects g.stage) (shown_at program g.stage) (Lent l h n) (kept_loan program effects g l h n has).0)
        (λ fact. (lent_used g.stage waits.named waits.of_sub l h n fact shared))
        (λ shown. ((waits.shown l h n shown shared).0))

    -- what is kept as borrowed isn't observed
    kept_apart : (f : Fact) (h : ℕ) (m : Name) → Has (withheld program effects g) f → loan_by f ≡ Borrowed → Has (withheld program effects g) (Lent Observed h m)
        → overlaps (place f) m ≡ true → ⊥
    kept_apart f h m has borrowed seen over =
        let own = kept_loan program effects g Observed h m seen in
        by_either (kept_cases program effects g f has)
        (λ known. (waits.apart f h m known.0 borrowed own.0 over))
        (λ (y, passed, is). (own.1 (subst (Has (passed_roots effects g)) (sym (ap (λ z. (place z).root) is) ∙ same_root (place f) m over) passed)))

  module _ (unused : (state : State) (callee : ℕ) (backs : List Return) (older : List ViewStage) → AreWaiting table typed effects state callee backs older → (g : ViewStage) → Has older g
      → (name : Name) → Has (withheld (flow_program table typed) effects g) (Moved name)
      → is_package_object (flow_typing (flow_program table typed)) name.root ≡ true → Uses effects callee name.root → ⊥) where
    -- none of what they keep is disturbed by the innermost one
    pub kept_there : (state : State) (callee : ℕ) (backs : List Return) (older : List ViewStage) → AreWaiting table typed effects state callee backs older → (g : ViewStage) → Has older g
        → 0 < g.stage.depth → (f : Fact) → Has (withheld program effects g) f → is_package_object s (place f).root ≡ true
        → Disturbs effects (loan_by f) callee (place f).root → ⊥
    kept_there state callee backs older waiting g has some (Moved n) there shared disturbs = unused state callee backs older waiting g has n there shared disturbs
    kept_there state callee backs older waiting g has some (Lent l h n) there shared disturbs =
        spared_there state callee backs older waiting g has some l h n (kept_loan program effects g l h n there).0 shared disturbs

    -- what one keeps as borrowed isn't observed by another
    seen_apart : (state : State) (callee : ℕ) (backs : List Return) (older : List ViewStage) → AreWaiting table typed effects state callee backs older → (g k : ViewStage) → Has older g → Has older k
        → 0 < g.stage.depth → 0 < k.stage.depth → (f : Fact) (h : ℕ) (m : Name) → Has (withheld program effects g) f
        → Has (withheld program effects k) (Lent Observed h m)
        → loan_by f ≡ Borrowed → is_package_object s (place f).root ≡ true → overlaps (place f) m ≡ true → ⊥
    seen_apart state callee backs [] waiting g k has rests deep some f h m kept seen borrowed shared over = absurd has
    seen_apart state callee backs (e ∷ []) waiting g k (inl same) rests deep some f h m kept seen borrowed shared over =
        let first = (waiting.0).3 in
        let depths = ap (λ (z : ViewStage). z.stage.depth) same in
        omega (arith, deep, first, depths)
    seen_apart state callee backs (e ∷ []) waiting g k (inr never) rests deep some f h m kept seen borrowed shared over = absurd never
    seen_apart state callee backs (e ∷ (j ∷ older)) waiting g k (inl same) (inl also) deep some f h m kept seen borrowed shared over =
        kept_apart state callee backs e waiting.0 f h m (subst (λ (z : ViewStage). Has (withheld program effects z) f) (sym same) kept) borrowed
        (subst (λ (z : ViewStage). Has (withheld program effects z) (Lent Observed h m)) (sym also) seen) over
    seen_apart state callee backs (e ∷ (j ∷ older)) waiting g k (inl same) (inr rests) deep some f h m kept seen borrowed shared over =
        let root = same_root (place f) m over in
        let here = subst (λ (z : ViewStage). Has (withheld program effects z) f) (sym same) kept in
        kept_there state e.stage.frame.sub e.stage.frame.returns (j ∷ older) waiting.1 k rests some (Lent Observed h m) seen (ap (is_package_object s) (sym root) ∙ shared)
        (subst (Has (written_by effects e.stage.frame.sub)) root (kept_written state callee backs e waiting.0 f here borrowed shared))
    seen_apart state callee backs (e ∷ (j ∷ older)) waiting g k (inr has) (inl also) deep some f h m kept seen borrowed shared over =
        let root = same_root (place f) m over in
        let here = subst (λ (z : ViewStage). Has (withheld program effects z) (Lent Observed h m)) (sym also) seen in
        kept_there state e.stage.frame.sub e.stage.frame.returns (j ∷ older) waiting.1 g has deep f kept shared
        (subst (λ l. Disturbs effects l e.stage.frame.sub (place f).root) (sym borrowed)
        (subst (Uses effects e.stage.frame.sub) (sym root) (kept_used state callee backs e waiting.0 (Lent Observed h m) here (ap (is_package_object s) (sym root) ∙ shared))))
    seen_apart state callee backs (e ∷ (j ∷ older)) waiting g k (inr has) (inr rests) deep some f h m kept seen borrowed shared over =
        seen_apart state e.stage.frame.sub e.stage.frame.returns (j ∷ older) waiting.1 g k has rests deep some f h m kept seen borrowed shared over

    pub held_apart : (state : State) (callee : ℕ) (backs : List Return) (older : List ViewStage) → AreWaiting table typed effects state callee backs older → (g k : ViewStage) → Has older g → Has older k
        → 0 < g.stage.depth → 0 < k.stage.depth → (f o : Fact) → Has (withheld program effects g) f → Has (withheld program effects k) o
        → loan_by f ≡ Borrowed → loan_by o ≡ Observed → is_package_object s (place f).root ≡ true → overlaps (place f) (place o) ≡ true → ⊥
    held_apart state callee backs older waiting g k has rests deep some f (Moved m) kept seen borrowed observed shared over = cc
    held_apart state callee backs older waiting g k has rests deep some f (Lent l h m) kept seen borrowed observed shared over =
        seen_apart state callee backs older waiting g k has rests deep some f h m kept
        (subst (λ z. Has (withheld program effects k) (Lent z h m)) observed seen) borrowed shared over
