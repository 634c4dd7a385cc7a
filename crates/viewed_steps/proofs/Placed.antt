-- Where views are, their roots last.
use Rattle.std.proofs.Common.{◌≡◌, refl, sym, ap, ◌∙◌, subst, ◌⊎◌, inl, inr, ℕ, Bool, true, false, not, ◌&&◌, ◌||◌, ◌==◌, eqb-true, List, [], ◌∷◌, Some, None, length}
use Rattle.std.specs.List.{AllByRecursion}
use Rattle.std.proofs.lemmas.List.Folds.{list_any-append}
use Rattle.std.proofs.lemmas.Bool.{false≢true, true≢false}
use Rattle.machine.specs.spark_base.Lists.{Has}
use Rattle.machine.specs.place_names.declared.fact.Fact.{Fact}
use Rattle.machine.specs.place_names.declared.fact.Fact.TheVariants.{Lent}
use Rattle.machine.specs.place_names.declared.rule.Loan.TheVariants.{Observed}
use Rattle.machine.specs.place_names.Names.{Name as PlaceName}
use Rattle.machine.specs.type_definitions.Types.{is_owning}
use Rattle.machine.specs.flow_paths.Instructions.{Instruction, Skip, Declare, Assign, Call, Output, Input, Release, Test, Choose, Start, Next, Evaluate, LeaveLoop, Hold, EndScope, Finish, Fall}
use Rattle.machine.specs.flow_paths.Objects.{Typing, object_at, is_anonymous, is_package_object, has_scope_end, view_of}
use Rattle.machine.specs.flow_paths.Laid.{FlowProgram, flow_typing}
use Rattle.machine.specs.flow_paths.Scopes.{taken, brought, Leads, Silent, is_within, is_temporary}
use Rattle.machine.specs.flow_paths.Views.{encloses, scope_of}
use Rattle.machine.specs.Memory.{Memory}
use Rattle.machine.specs.Step.{Turn, typing}
use Rattle.soundness.specs.OwnedWays.Ways.{OfRoot, Held, Way, name_of, number_of, Named, base_of}
use Rattle.soundness.specs.OwnedWays.Ways as ways
use Rattle.soundness.specs.PartOffsets.Parts.{IsSettled}
use Rattle.soundness.specs.Seen.{home, IsNear, content, word_in}
use Rattle.soundness.specs.Typed.{OwnsByShape}
use Rattle.soundness.specs.Sound.{InScope}
use Rattle.soundness.proofs.Contents.{word_no}
use Rattle.soundness.proofs.Lasting.{ownerless}
use Rattle.soundness.specs.OwnedLoans.Views.{Around, Views}
use Rattle.soundness.specs.ViewedSoundness.Holds.{PartsAreNamed, is_view, Seeing}
use Rattle.soundness.proofs.ViewedSoundness.ViewKinds.{true_false}
use Rattle.soundness.proofs.ViewedSoundness.Outcomes.{Turned}
use Rattle.viewed_steps.specs.Awaited.{is_held, lasting_of}
use Rattle.viewed_steps.proofs.Waited.{lasting_within, within_lasting}
use Rattle.viewed_steps.specs.Sound.{Lasts, Lies, ArePartsLow, ArePlaced, ArePlacedWith}
use Rattle.viewed_steps.proofs.Views.{base_named, same_named, same_lies, anonymous_view, view_ends}
use Rattle.soundness.proofs.OwnedWays.Dropped.{named_base}
use Rattle.soundness.proofs.OwnedLoans.Ended.{number_base}
use Rattle.soundness.proofs.Parted.{empty_held, by_either}

either : (a b : Bool) → a || b ≡ true → (a ≡ true) ⊎ (b ≡ true)
either true b e = inl refl
either false b e = inr e

or_right : (a b : Bool) → b ≡ true → a || b ≡ true
or_right true b e = refl
or_right false b e = e

-- what is in scope stays so, but where a scope ends
pub brought_more : (i : Instruction) → ((x : ℕ) → i ≡ EndScope x → ⊥) → (scope : List ℕ) (y : ℕ) → is_within y scope ≡ true → is_within y (brought i scope) ≡ true
brought_more (Declare x v) going scope y within = or_right (y == x) (is_within y scope) within
brought_more (Start x reversed low high) going scope y within = or_right (y == x) (is_within y scope) within
brought_more (Call sub actuals None) going scope y within = within
brought_more (Call sub actuals (Some x)) going scope y within = or_right (y == x) (is_within y scope) within
brought_more (Evaluate x e None) going scope y within = within
brought_more (Evaluate x e (Some op)) going scope y within = or_right (y == x) (is_within y scope) within
brought_more (EndScope x) going scope y within = absurd (going x refl)
brought_more Skip going scope y within = within
brought_more (Assign target e) going scope y within = within
brought_more (Output text line) going scope y within = within
brought_more (Input target) going scope y within = within
brought_more (Release e) going scope y within = within
brought_more (Test e) going scope y within = within
brought_more (Choose e choices) going scope y within = within
brought_more (Next x reversed low high) going scope y within = within
brought_more (LeaveLoop e) going scope y within = within
brought_more (Hold v) going scope y within = within
brought_more Finish going scope y within = within
brought_more Fall going scope y within = within

-- ---- what leaves scope silently

module _ (s : Typing) where
  not_and : (a b : Bool) → not a && b ≡ true → a ≡ false
  not_and true b e = absurd (false≢true e)
  not_and false b e = refl

  not_or : (a b : Bool) → a || b ≡ false → a ≡ false
  not_or true b e = absurd (true≢false e)
  not_or false b e = refl

  silent_in : (x : ℕ) (gone : List ℕ) → AllByRecursion (Silent s) gone → is_within x gone ≡ true → has_scope_end s x ≡ false
  silent_in x [] all e = absurd (false≢true e)
  silent_in x (y ∷ gone) all e = elim (either (x == y) (is_within x gone) e) [
    | inl same ↦ not_and (has_scope_end s x) (not (is_temporary (object_at s x).kind)) (subst (Silent s) (sym (eqb-true x y same)) all.0)
    | inr later ↦ silent_in x gone all.1 later
  ]

  -- what has an end of its own stays
  pub within_on : (a b : List ℕ) (x : ℕ) → Leads s a b → has_scope_end s x ≡ true → is_within x a ≡ true → is_within x b ≡ true
  within_on a b x these end within =
      let (gone, silent, is) = these in
      elim (either (is_within x gone) (is_within x b) (sym (list_any-append (λ y. x == y) gone b) ∙ ap (is_within x) (sym is) ∙ within)) [
        | inr there ↦ there
        | inl left ↦ absurd (true_false (has_scope_end s x) end (silent_in x gone silent left))
      ]

  owning_on : OwnsByShape s.table → (m : Memory) (a b : List ℕ) → Leads s a b → (f x : ℕ) (p : List ways.Step) (n : ℕ)
      → word_in s.table (content s m [] (OfRoot (ways.OfVariable f x))) p ≡ Held n → is_within x a ≡ true → is_within x b ≡ true
  owning_on own_law m a b leads f x p n held there = by_end (has_scope_end s x) refl
    where
      by_end : (e : Bool) → has_scope_end s x ≡ e → is_within x b ≡ true
      by_end true end = within_on a b x leads end there
      by_end false end =
          let none = word_no s.table (content s m [] (OfRoot (ways.OfVariable f x))) p
          (ownerless s.table own_law (object_at s x).of (not_or (is_owning s.table (object_at s x).of) (is_anonymous (view_of s x)) end) p) in
          absurd (empty_held (sym none ∙ held))

  -- so variables that own stay in scope, and are no temporaries
  pub scope_on : OwnsByShape s.table → (m : Memory) (depth : ℕ) (a b : List ℕ) → InScope s m depth (lasting_of s a) → Leads s a b → InScope s m depth (lasting_of s b)
  scope_on own_law m depth a b within leads f x p n held = elim (within f x p n held) [
    | inl older ↦ inl older
    | inr mine ↦ (
        let there = lasting_within s x a mine.1 in
        inr (mine.0, within_lasting s x b (owning_on own_law m a b leads f x p n held there.0) there.1))
  ]

-- ---- what lasts

module _ (program : FlowProgram) where
  abbrev s : Typing
  s = flow_typing program

  pub lasts_more : (a b : List ℕ) (r x : ℕ) → ((y : ℕ) → is_within y a ≡ true → is_within y b ≡ true) → Lasts program a r x → Lasts program b r x
  lasts_more a b r x more (inl shared) = inl shared
  lasts_more a b r x more (inr (within, end, around, plain)) = inr (more r within, end, around, plain)

  pub lasts_on : (a b : List ℕ) (r x : ℕ) → Leads s a b → Lasts program a r x → Lasts program b r x
  lasts_on a b r x leads (inl shared) = inl shared
  lasts_on a b r x leads (inr (within, end, around, plain)) = inr (within_on s a b r leads end within, end, around, plain)

  -- what lasts as long as something that lasts as long as an object
  pub lasts_through : ((a b c : ℕ) → encloses program.scopes a b ≡ true → encloses program.scopes b c ≡ true → encloses program.scopes a c ≡ true)
      → (scope : List ℕ) (r y x : ℕ) → is_package_object s y ≡ false → Lasts program scope r y → Lasts program scope y x → Lasts program scope r x
  lasts_through transitive scope r y x local (inl shared) on = inl shared
  lasts_through transitive scope r y x local (inr (within, end, around, plain)) (inl shared) = absurd (true_false (is_package_object s y) shared local)
  lasts_through transitive scope r y x local (inr (within, end, around, plain)) (inr (there, last, beyond, also)) =
      inr (within, end, transitive (scope_of s r) (scope_of s y) (scope_of s x) around beyond, plain)

  pub placed_on : (frame : ℕ) (facts : List Fact) (v : Views) (a b : List ℕ) → ((x : ℕ) (w : Way) → v.way x ≡ Some w → is_view s x ≡ true) → Leads s a b
      → ArePlaced program frame facts v a → ArePlaced program frame facts v b
  placed_on frame facts v a b only leads placed x w has =
      let old = placed x w has in
      record {
        within = within_on s a b x leads (view_ends s x (only x w has)) old.within;
        plain = old.plain;
        up = λ named. lasts_on a b (number_of (v.up x)) x leads (old.up named);
        root = λ named. lasts_on a b (number_of w) x leads (old.root named);
        holder = λ named sight. (let h = old.holder named sight in (h.0, h.1, lasts_on a b h.0 x leads h.2, h.3));
      }

  -- An object may be the source of a view.
  pub record MayBe (scope : List ℕ) (x y : ℕ) : Type 0 where
    pub lasts : Lasts program scope y x
    pub within : is_within x scope ≡ true
    pub view : is_anonymous (view_of s x) ≡ true
    pub plain : is_held s x ≡ false

module _ (t : Turn) (sees : ℕ → Bool) (seeing : Seeing (typing t) sees) (settled : IsSettled (typing t).table) (own_law : OwnsByShape (typing t).table) (other : Around (home (typing t) (length t.outer)))
    (alone : (w : Way) → IsNear (length t.outer) w → other.gone w → ⊥)
    (v : Views) (parts_named : PartsAreNamed (typing t).table) (a b : List ℕ)
    (frames : t.state.frames ≡ t.frame ∷ t.outer) (none : taken t.point.instr ≡ 0)
    (transitive : (a b c : ℕ) → encloses t.program.scopes a b ≡ true → encloses t.program.scopes b c ≡ true → encloses t.program.scopes a c ≡ true)
    (itself : (a : ℕ) → encloses t.program.scopes a a ≡ true)
    (local : (x : ℕ) → is_view (typing t) x ≡ true → is_package_object (typing t) x ≡ false)
    (only : (x : ℕ) (w : Way) → v.way x ≡ Some w → is_view (typing t) x ≡ true)
    (lies : ((x : ℕ) (w : Way) → v.way x ≡ Some w → Lies (typing t) (length t.outer) w) × ArePartsLow (typing t) (length t.outer) v)
    (more : (y : ℕ) → is_within y a ≡ true → is_within y b ≡ true) where
  abbrev may : ℕ → ℕ → Type 0
  may x y = MayBe t.program b x y

  abbrev Home : ℕ → ℕ
  Home = home (typing t) (length t.outer)

  same_number : (w k : Way) → Named Home k → base_of w ≡ base_of k → number_of w ≡ number_of k
  same_number w k named is = number_base w (Home (number_of k)) (number_of k) (is ∙ named_base Home k named)

  -- their ways lie as before
  pub turned_lies : (views : Views) (facts : List Fact) → Turned t sees seeing settled own_law other alone v parts_named may frames none views facts
      → (x : ℕ) (w : Way) → views.way x ≡ Some w → Lies (typing t) (length t.outer) w
  turned_lies views facts turned x w has = by_either (turned.0 x w has)
      (λ same. (lies.0 x w (sym same.way ∙ has)))
      (λ (y, from, comes). (elim comes.root [
        | inl is ↦ inl (base_named Home w y is.0)
        | inr (inl (k, has_y, is)) ↦ same_lies (typing t) (length t.outer) w k is (lies.0 y k has_y)
        | inr (inr (p, k, has_y, is)) ↦ same_lies (typing t) (length t.outer) w k is (lies.1 y p k has_y).0
      ]))

  -- views that turned as they may are placed after the instruction
  pub turned_placed : (views : Views) (facts facts' : List Fact) → ((h : ℕ) (n : PlaceName) → Has facts (Lent Observed h n) → Has facts' (Lent Observed h n))
      → ArePlacedWith t.program sees (length t.outer) facts v a → Turned t sees seeing settled own_law other alone v parts_named may frames none views facts'
      → ArePlacedWith t.program sees (length t.outer) facts' views b
  turned_placed views facts facts' lent placed turned x w has = by_either (turned.0 x w has)
      (λ same. (
      let old = placed x w (sym same.way ∙ has) in
      record {
        within = more x old.within;
        plain = old.plain;
        up = λ named. subst (λ z. Lasts t.program b (number_of z) x) (sym same.up)
            (lasts_more t.program a b (number_of (v.up x)) x more (old.up (subst (Named Home) same.up named)));
        root = λ named. lasts_more t.program a b (number_of w) x more (old.root named);
        holder = λ named sight. (let h = old.holder (subst (Named Home) same.up named) sight in
            (h.0, subst (λ z. Has facts' (Lent Observed h.0 (name_of z))) (sym same.loan) (lent h.0 (name_of (v.loan x)) h.1), lasts_more t.program a b h.0 x more h.2, h.3));
      }))
      (λ (y, from, comes). (record {
        within = from.within;
        plain = from.plain;
        up = λ named. by_either (comes.up named)
            (λ is. (subst (λ z. Lasts t.program b z x) (sym is) from.lasts))
            (λ (k, has_y, is, back). (subst (λ z. Lasts t.program b z x) (sym is) (through y k has_y from (number_of (v.up y)) ((placed y k has_y).up (back named)))));
        root = λ named. elim comes.root [
          | inl is ↦ subst (λ z. Lasts t.program b z x) (sym (number_base w (Home y) y is.0)) from.lasts
          | inr (inr (p, k, has_y, is)) ↦ (
              let named_k : Named Home k = same_named Home k w (sym is) named in
              inl (ap (is_package_object (typing t)) (same_number w k named_k is) ∙ (lies.1 y p k has_y).1 named_k))
          | inr (inl (k, has_y, is)) ↦ (
              let named_k : Named Home k = same_named Home k w (sym is) named in
              subst (λ z. Lasts t.program b z x) (sym (same_number w k named_k is)) (through y k has_y from (number_of k) ((placed y k has_y).root named_k)))
        ];
        holder = λ named sight. by_either (comes.loan named sight)
            (λ own. (x, own, inr (from.within, view_ends (typing t) x (anonymous_view (typing t) x from.view), itself (scope_of (typing t) x), from.plain), sight))
            (λ (k, has_y, sees_y, is, back). (
            let h = (placed y k has_y).holder (back named) sees_y in
            (h.0, subst (λ z. Has facts' (Lent Observed h.0 (name_of z))) (sym is) (lent h.0 (name_of (v.loan y)) h.1), through y k has_y from h.0 h.2, h.3)));
      }))
    where
      through : (y : ℕ) (k : Way) → v.way y ≡ Some k → may x y → (r : ℕ) → Lasts t.program a r y → Lasts t.program b r x
      through y k has_y from r lasts =
          lasts_through t.program transitive b r y x (local y (only y k has_y)) (lasts_more t.program a b r y more lasts) from.lasts
