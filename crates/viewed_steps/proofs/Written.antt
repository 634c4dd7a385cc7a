-- A function writes no package object.
use Rattle.std.proofs.Common.{◌≡◌, refl, sym, ap, ◌∙◌, subst, ◌⊎◌, inl, inr, ℕ, Bool, true, false, ◌&&◌, ◌||◌, ◌==◌, eqb-true, List, [], ◌∷◌, Option, Some, None, is_some}
use Rattle.std.proofs.lemmas.Bool.{false≢true}
use Rattle.machine.specs.spark_base.Lists.{Has}
use Rattle.machine.specs.place_names.declared.act.Act.{Act}
use Rattle.machine.specs.place_names.declared.act.Act.TheVariants as act
use Rattle.machine.specs.place_names.declared.act.Mode.{Mode}
use Rattle.machine.specs.place_names.declared.act.Mode.TheVariants as mode
use Rattle.machine.specs.place_names.declared.act.Placed.{Placed}
use Rattle.machine.specs.place_names.declared.rule.Rule.TheVariants.{V1}
use Rattle.machine.specs.place_names.declared.selector.Sel.TheVariants.{Deref}
use Rattle.machine.specs.place_names.Names.{Name, extend, object}
use Rattle.machine.specs.flow_paths.declared.report.Effects.{Effects}
use Rattle.machine.specs.flow_paths.Instructions.{Instruction, Call}
use Rattle.machine.specs.flow_paths.Objects.{Typing, is_borrower, is_package_object, traverses}
use Rattle.machine.specs.flow_paths.Effects.{is_global, act_writes, point_writes, own_writes, writes_text, calls, sub_calls, flow_sub_at, CallChain, ends, calls_on, AreEffects, written_by}
use Rattle.machine.specs.flow_paths.Views.{is_function, is_outer, in_function, changes, lends, changed, lent, called, MayBorrow, directly, through, traversed_formal, traversed_of, Calls, text_report}
use Rattle.machine.specs.flow_paths.Points.{FlowPoint}
use Rattle.machine.specs.flow_paths.Laid.{FlowSub, FlowProgram, NamedSub, flow_sub, typing_of, flow_typing, flow_program, flow_named}
use Rattle.machine.specs.flow_paths.Reports.{AreReports, on_views}
use Rattle.soundness.proofs.Contents.{any_from}
use Rattle.soundness.proofs.Points.{sub_has, sub_there, sub_at_number, sub_in_range}
use Rattle.soundness.specs.Sound.{IsNamedSub}
use Rattle.machine.specs.States.{sub_of}
use Rattle.machine.specs.type_definitions.Types.{Table}
use Rattle.machine.specs.typed_tree.Trees.{TypedTree}
use Rattle.machine.specs.typed_tree.Programs.{TypedProgram}

first : (a b : Bool) → a && b ≡ true → a ≡ true
first true b e = refl
first false b e = absurd (false≢true e)

second : (a b : Bool) → a && b ≡ true → b ≡ true
second true b e = e
second false b e = absurd (false≢true e)

both : (a b : Bool) → a ≡ true → b ≡ true → a && b ≡ true
both a b e f = ap (λ z. z && b) e ∙ f

or_second : (a b : Bool) → b ≡ true → a || b ≡ true
or_second true b e = refl
or_second false b e = e

either : (a b : Bool) → a || b ≡ true → (a ≡ true) ⊎ (b ≡ true)
either true b e = inl refl
either false b e = inr e

never_both : (b : Bool) → b ≡ true → b ≡ false → ⊥
never_both b e f = cc

same_name : (m k : Name) → Some m ≡ Some k → m ≡ k
same_name m k e = cc

module _ (program : FlowProgram) (effects : Effects) (none : AreReports program effects []) (are : AreEffects program effects)
    (text : is_package_object (flow_typing program) 0 ≡ false)
    (borrower_local : (x : ℕ) → is_borrower (flow_typing program) x ≡ true → is_package_object (flow_typing program) x ≡ false) where
  abbrev s : Typing
  s = flow_typing program

  module _ (sub : FlowSub) (in_program : Has program.subs sub) (function : is_function sub ≡ true)
      (formals : (f : ℕ) → traversed_formal (flow_typing program) sub ≡ Some f → is_package_object (flow_typing program) f ≡ false) where
    outer : (m : Name) → is_package_object s m.root ≡ true → is_function sub && is_outer s m.root ≡ true
    outer m shared = both (is_function sub) (is_outer s m.root) function (or_second _ (is_package_object s m.root) shared)

    may_not : (a : Act) (m : Name) → lends a ≡ Some m → is_package_object s m.root ≡ true → MayBorrow s sub a → ⊥
    may_not _ m e shared (directly h f k gives traversed root) =
        never_both (is_package_object s m.root) shared (ap (is_package_object s) (ap (λ (z : Name). z.root) (sym (same_name k m e)) ∙ root) ∙ formals f traversed)
    may_not _ m e shared (through h f k gives traversed borrows only) =
        never_both (is_package_object s m.root) shared (ap (λ (z : Name). is_package_object s z.root) (sym (same_name k m e)) ∙ borrower_local k.root borrows)

    -- no act of it does
    no_act : (p : FlowPoint) → Has sub.points p → (a : Placed) → Has p.acts a → (g : ℕ) → is_package_object s g ≡ true → act_writes g a.act ≡ true → ⊥
    no_act p there a has g shared writes = by_act a.act refl writes
      where
        root_is : (m : Name) → (m.root == g) ≡ true → is_package_object s m.root ≡ true
        root_is m e = ap (is_package_object s) (eqb-true m.root g e) ∙ shared

        by_change : (m : Name) → changes a.act ≡ Some m → (m.root == g) ≡ true → ⊥
        by_change m is root =
            none.complete (text_report a.pos V1 m) (on_views sub in_program (changed p a m (there, has) is (in_function (outer m (root_is m root)))))

        by_lend : (m : Name) → lends a.act ≡ Some m → (m.root == g) ≡ true → ⊥
        by_lend m is root =
            none.complete (text_report a.pos V1 m)
            (on_views sub in_program (lent p a m (there, has) is (in_function (outer (extend m (Deref ∷ [])) (root_is m root))) (may_not a.act m is (root_is m root))))

        by_mode : (m : Name) (how : Mode) (owning access : Bool) → a.act ≡ act.Actual m how owning access → act_writes g (act.Actual m how owning access) ≡ true → ⊥
        by_mode m mode.In owning true is e = by_lend m (ap lends is) (first (m.root == g) _ e)
        by_mode m mode.In owning false is e = never_both false (second (m.root == g) _ e) refl
        by_mode m mode.Out owning access is e = by_change m (ap changes is) (first (m.root == g) _ e)
        by_mode m mode.InOut owning access is e = by_change m (ap changes is) (first (m.root == g) _ e)

        by_act : (x : Act) → a.act ≡ x → act_writes g x ≡ true → ⊥
        by_act (act.Write m) is e = by_change m (ap changes is) e
        by_act (act.Move m parts) is e = by_change m (ap changes is) e
        by_act (act.Free m) is e = by_change m (ap changes is) e
        by_act (act.Borrow h m) is e = by_lend m (ap lends is) e
        by_act (act.Actual m how owning access) is e = by_mode m how owning access is e
        by_act x is e = false≢true e

    no_point : (p : FlowPoint) → Has sub.points p → (g : ℕ) → is_package_object s g ≡ true → point_writes g p ≡ true → ⊥
    no_point p there g shared writes = elim (either ((g == 0) && writes_text p.instr) _ writes) [
      | inl text_too ↦ never_both (is_package_object s g) shared (ap (is_package_object s) (eqb-true g 0 (first (g == 0) (writes_text p.instr) text_too)) ∙ text)
      | inr acts ↦ (let found = any_from (λ (a : Placed). act_writes g a.act) p.acts acts in no_act p there found.0 found.1 g shared found.2)
    ]

-- What calls go to, and how: what is called can run, and is a function just where the call has a result.
abbrev pub AreAnswered : Table → TypedProgram → Type 0
AreAnswered table typed =
    (sub : FlowSub) → Has (flow_program table typed).subs sub → (p : FlowPoint) → Has sub.points p
    → (n : ℕ) (actuals : TypedTree) (result : Option ℕ) → p.instr ≡ Call n actuals result
    → (named : NamedSub) × IsNamedSub (flow_named table typed) n named
    × (is_some (sub_of (flow_program table typed) n).result ≡ is_some result)
    × ((f : ℕ) → Has (sub_of (flow_program table typed) n).formals f → is_package_object (flow_typing (flow_program table typed)) f ≡ false)

traversed_has : (b : Bool) (xs : List ℕ) (f : ℕ) → traversed_of b xs ≡ Some f → Has xs f
traversed_has true (x ∷ xs) f e = inl (let same : x ≡ f = cc in same)
traversed_has true [] f e = absurd (false≢true (ap is_some e))
traversed_has false xs f e = absurd (false≢true (ap is_some e))

module _ (table : Table) (typed : TypedProgram) (effects : Effects) (none : AreReports (flow_program table typed) effects [])
    (are : AreEffects (flow_program table typed) effects) (text : is_package_object (flow_typing (flow_program table typed)) 0 ≡ false)
    (borrower_local : (x : ℕ) → is_borrower (flow_typing (flow_program table typed)) x ≡ true
    → is_package_object (flow_typing (flow_program table typed)) x ≡ false)
    (answered : AreAnswered table typed) where
  abbrev all : FlowProgram
  all = flow_program table typed

  call_of : (i : Instruction) (q : ℕ) → calls q i ≡ true → (n : ℕ) × (actuals : TypedTree) × (result : Option ℕ) × (i ≡ Call n actuals result) × (n ≡ q)
  call_of (Call n actuals result) q e = (n, actuals, result, refl, eqb-true n q e)
  call_of i q e = absurd (false≢true e)

  chain_writes : (n : ℕ) (named : NamedSub) → IsNamedSub (flow_named table typed) n named → is_some (sub_of all n).result ≡ true
      → ((f : ℕ) → Has (sub_of all n).formals f → is_package_object (flow_typing all) f ≡ false)
      → (g last : ℕ) → is_package_object (flow_typing all) g ≡ true → CallChain all n last
      → own_writes (flow_typing all) (flow_sub_at all last) g ≡ true → ⊥
  chain_writes n named stands function formals g last shared (ends same) own_writes_it =
      let sub = flow_sub (typing_of table typed) named in
      let there = sub_there table typed n named stands in
      let found = any_from (point_writes g) sub.points
      (second (is_global (flow_typing all) g) _ (subst (λ z. own_writes (flow_typing all) z g ≡ true) (sub_at_number table typed n named stands _) own_writes_it)) in
      no_point all effects none are text borrower_local sub (sub_has table typed n named stands) (ap (λ (z : FlowSub). is_some z.result) (sym there) ∙ function)
      (λ f traversed. formals f (subst (λ (z : FlowSub). Has z.formals f) (sym there) (traversed_has (traverses (flow_typing all).table sub.result) sub.formals f traversed)))
      found.0 found.1 g shared found.2
  chain_writes n named stands function formals g last shared (calls_on same q end there_called chain) own_writes_it =
      let sub = flow_sub (typing_of table typed) named in
      let found = any_from (λ (p : FlowPoint). calls q p.instr) sub.points
      (subst (λ z. sub_calls z q ≡ true) (sub_at_number table typed n named stands _) there_called) in
      let (k, actuals, result, is, same_sub) = call_of found.0.instr q found.2 in
      let callee = answered sub (sub_has table typed n named stands) found.0 found.1 k actuals result is in
      by_result k actuals result same_sub callee found.0 found.1 is
      (λ other stands_there answers local. chain_writes q other stands_there answers local g last shared chain own_writes_it)
    where
      by_result : (k : ℕ) (actuals : TypedTree) (result : Option ℕ) → k ≡ q
          → (other : NamedSub) × IsNamedSub (flow_named table typed) k other × (is_some (sub_of all k).result ≡ is_some result)
          × ((f : ℕ) → Has (sub_of all k).formals f → is_package_object (flow_typing all) f ≡ false)
          → (p : FlowPoint) → Has (flow_sub (typing_of table typed) named).points p → p.instr ≡ Call k actuals result
          → ((other : NamedSub) → IsNamedSub (flow_named table typed) q other → is_some (sub_of all q).result ≡ true
          → ((f : ℕ) → Has (sub_of all q).formals f → is_package_object (flow_typing all) f ≡ false) → ⊥) → ⊥
      by_result k actuals (Some t) same_sub (other, other_stands, answers, local) p has is again =
          again other (subst (λ z. IsNamedSub (flow_named table typed) z other) same_sub other_stands) (ap (λ z. is_some (sub_of all z).result) (sym same_sub) ∙ answers)
          (λ f in_formals. local f (subst (λ z. Has (sub_of all z).formals f) (sym same_sub) in_formals))
      by_result k actuals None same_sub (other, other_stands, answers, local) p has is again =
          let sub = flow_sub (typing_of table typed) named in
          let written : Has (written_by effects k) g =
          (are.writes k g (sub_in_range table typed k other other_stands)).1 (record { last = last; chain = subst (λ z. CallChain all z last) (sym same_sub) chain; own = own_writes_it }) in
          none.complete (text_report p.pos V1 (object g))
          (on_views sub (sub_has table typed n named stands)
          (called p g k (ap (λ (z : FlowSub). is_some z.result) (sym (sub_there table typed n named stands)) ∙ function) has (subst (λ i. Calls i k) (sym is) refl) written))

  pub function_writes : (n : ℕ) (named : NamedSub) → IsNamedSub (flow_named table typed) n named → is_some (sub_of all n).result ≡ true
      → ((f : ℕ) → Has (sub_of all n).formals f → is_package_object (flow_typing all) f ≡ false)
      → (g : ℕ) → is_package_object (flow_typing all) g ≡ true → Has (written_by effects n) g → ⊥
  function_writes n named stands function formals g shared written =
      let by = (are.writes n g (sub_in_range table typed n named stands)).0 written in
      chain_writes n named stands function formals g by.last shared by.chain by.own
