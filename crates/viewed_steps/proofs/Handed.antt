-- What frames around hand on stands beside the facts of a frame where it calls, or is gone on with: all that
-- is gone for them is known, and none of their views concerns it. And what holds without it.
use Rattle.std.proofs.Common.{◌≡◌, refl, sym, ap, ◌∙◌, subst, ◌⊎◌, inl, inr, ℕ, Bool, true, false, ◌&&◌, ◌==◌, eqb-true, List, ◌++◌, Option, Some, None}
use Rattle.std.proofs.lemmas.Bool.{false≢true, true≢false}
use Rattle.soundness.proofs.Lists.{Has-append_left, Has-append_right, Has-append_cases}
use Rattle.machine.specs.spark_base.Lists.{Has}
use Rattle.machine.specs.place_names.declared.fact.Fact.{Fact}
use Rattle.machine.specs.place_names.declared.fact.Fact.TheVariants.{Moved, Lent}
use Rattle.machine.specs.place_names.declared.rule.Loan.TheVariants.{Borrowed, Observed}
use Rattle.machine.specs.place_names.Names.{Name, overlaps}
use Rattle.machine.specs.place_names.declared.rule.Loan.{Loan}
use Rattle.machine.specs.place_names.Facts.{place}
use Rattle.machine.specs.flow_paths.Effects.{AreEffects, written_by}
use Rattle.machine.specs.flow_paths.Laid.{NamedSub, flow_named}
use Rattle.machine.specs.States.{Return}
use Rattle.soundness.specs.Sound.{Uses, IsNamedSub}
use Rattle.viewed_steps.specs.Sound.{AreWaiting, IsBeyond, Disturbs, loan_by}
use Rattle.viewed_steps.proofs.Apart.{moved_written, lent_written, lent_used, written_disturbs, kept_there, held_apart}
use Rattle.machine.specs.type_definitions.Types.{Table}
use Rattle.machine.specs.typed_tree.Programs.{TypedProgram}
use Rattle.machine.specs.flow_paths.declared.report.Effects.{Effects}
use Rattle.machine.specs.flow_paths.Objects.{Typing, is_package_object}
use Rattle.machine.specs.flow_paths.Laid.{FlowProgram, flow_typing, flow_program}
use Rattle.machine.specs.States.{State}
use Rattle.soundness.specs.OwnedWays.Ways.{Way, View, name_of}
use Rattle.soundness.specs.Seen.{home}
use Rattle.soundness.specs.Sound.{Stage, facts_of}
use Rattle.soundness.proofs.Around.{near_or_far}
use Rattle.soundness.proofs.Inherited.{Splits}
use Rattle.soundness.specs.OwnedLoans.Views.{Around, known_gone, Views, AreClear, ExcusedBy, HasLoan, Viewed, ViewedAlone}
use Rattle.soundness.proofs.OwnedLoans.Moves.{view_on, own_loan, reached}
use Rattle.soundness.specs.ViewedSoundness.Holds.{is_view}
use Rattle.viewed_steps.specs.Sound.{ViewStage, GoneElsewhere}
use Rattle.viewed_steps.proofs.Waiting.{StandsBetween, AreTheirs, LentElsewhere, beside_them, handed, lent_handed, none_moved, loans_has, near_lent, far_met, unused_there}
use Rattle.viewed_steps.specs.Seeing.{sees_in}
use Rattle.soundness.proofs.Parted.{by_either}

both_first : (a b : Bool) → a && b ≡ true → a ≡ true
both_first true b e = refl
both_first false b e = absurd (false≢true e)

module _ (table : Table) (typed : TypedProgram) (effects : Effects)
    (unmoved : (e : Stage) → e.frame.sub ≡ 0 → (name : Name) → Has (facts_of (flow_program table typed) effects e) (Moved name) → ⊥)
    (local : (x : ℕ) → is_view (flow_typing (flow_program table typed)) x ≡ true
    → is_package_object (flow_typing (flow_program table typed)) x ≡ false) (state : State) (depth : ℕ) (older : List ViewStage)
    (between : (g : ViewStage) → Has older g → StandsBetween table typed effects unmoved local state depth older g) where
  abbrev sees : ℕ → Bool
  sees = sees_in (flow_program table typed)

  abbrev program : FlowProgram
  program = flow_program table typed

  abbrev s : Typing
  s = flow_typing (flow_program table typed)

  abbrev pub handed_on : List Fact
  handed_on = handed table typed effects unmoved local state depth older between

  -- Their facts on package objects don't meet, nor do those of the innermost frame meet them.
  pub record AreApart (facts : List Fact) : Type 0 where
    pub seen : (n m : Name) → LentElsewhere table typed effects unmoved local older Borrowed n → LentElsewhere table typed effects unmoved local older Observed m → overlaps n m ≡ true → ⊥
    pub own_moved : (n : Name) → Has facts (Moved n) → (l : Loan) (m : Name) → LentElsewhere table typed effects unmoved local older l m → n.root ≡ m.root → ⊥
    pub own_borrowed : (b : ℕ) (n : Name) → Has facts (Lent Borrowed b n) → (l : Loan) (m : Name) → LentElsewhere table typed effects unmoved local older l m → n.root ≡ m.root → ⊥
    pub own_seen : (h : ℕ) (m : Name) → Has facts (Lent Observed h m) → (n : Name) → LentElsewhere table typed effects unmoved local older Borrowed n → n.root ≡ m.root → ⊥

  -- what is gone for them is excused by their facts on package objects, and by what concerns the innermost frame of them
  pub elsewhere_excused : (v : Views) (facts : List Fact) (w : Way) → GoneElsewhere program effects older w → ExcusedBy (home s depth) v (beside_them table typed effects unmoved local state depth older between) (facts ++ handed_on) w
  elsewhere_excused v facts w away = elim (near_or_far depth w) [
    | inr far ↦ inr (far, away)
    | inl near ↦ inl (inr (near_lent table typed effects unmoved local state depth older between w near away, away))
  ]

  -- facts stay clear beside theirs
  pub clear_with : (facts : List Fact) → AreApart facts → AreClear sees facts → AreClear sees (facts ++ handed_on)
  clear_with facts apart own = record {
    moved = λ l h n m has lends over. by_either (cases (Moved n) has)
        (λ fact. (by_either (cases (Lent l h m) lends)
        (λ mine. (own.moved l h n m fact mine over))
        (λ there. (apart.own_moved n fact l m (lent_handed table typed effects unmoved local state depth older between l h m there).1 (same_root n m over)))))
        (λ away. (none_moved table typed effects unmoved local state depth older between n away));
    lent = λ b h n m one two off over. by_either (cases (Lent Borrowed b n) one)
        (λ fact. (by_either (cases (Lent Borrowed h m) two)
        (λ mine. (own.lent b h n m fact mine off over))
        (λ there. (apart.own_borrowed b n fact Borrowed m (lent_handed table typed effects unmoved local state depth older between Borrowed h m there).1 (same_root n m over)))))
        (λ away. (by_either (cases (Lent Borrowed h m) two)
        (λ mine. (apart.own_borrowed h m mine Borrowed n (lent_handed table typed effects unmoved local state depth older between Borrowed b n away).1 (sym (same_root n m over))))
        (λ there. (off ((lent_handed table typed effects unmoved local state depth older between Borrowed b n away).0 ∙ same_root n m over ∙ sym (lent_handed table typed effects unmoved local state depth older between Borrowed h m there).0)))));
    seen = λ b h n m one two over. by_either (cases (Lent Borrowed b n) one)
        (λ fact. (by_either (cases (Lent Observed h m) two)
        (λ mine. (own.seen b h n m fact mine over))
        (λ there. (apart.own_borrowed b n fact Observed m (lent_handed table typed effects unmoved local state depth older between Observed h m there).1 (same_root n m over)))))
        (λ away. (by_either (cases (Lent Observed h m) two)
        (λ mine. (apart.own_seen h m mine n (lent_handed table typed effects unmoved local state depth older between Borrowed b n away).1 (same_root n m over)))
        (λ there. (apart.seen n m (lent_handed table typed effects unmoved local state depth older between Borrowed b n away).1 (lent_handed table typed effects unmoved local state depth older between Observed h m there).1 over))));
    owned = λ n has. by_either (cases (Moved n) has) (λ fact. (own.owned n fact)) (λ there. (absurd (none_moved table typed effects unmoved local state depth older between n there)));
  }
    where
      cases : (f : Fact) → Has (facts ++ handed_on) f → Has facts f ⊎ Has handed_on f
      cases f has = Has-append_cases facts handed_on f has

      same_root : (n m : Name) → overlaps n m ≡ true → n.root ≡ m.root
      same_root n m over = eqb-true n.root m.root (both_first (n.root == m.root) _ over)

  -- with them
  pub with_them : (v : Views) (view : View) (facts : List Fact) → ((x : ℕ) (w : Way) → v.way x ≡ Some w → is_package_object s x ≡ false)
      → ((x : ℕ) → is_package_object s x ≡ true → sees x ≡ false) → AreApart facts
      → AreTheirs table typed effects unmoved local older view → IsBeyond program effects depth v older
      → ViewedAlone (home s depth) sees (known_gone (home s depth) (GoneElsewhere program effects older)) v view facts
      → Viewed (home s depth) sees (beside_them table typed effects unmoved local state depth older between) v view (facts ++ handed_on)
  with_them v view facts only plain apart reach past well = record {
    owned = well.owned;
    covered = well.covered;
    known = λ w l rooted r gone. elim (well.known w l rooted r gone) [
      | inl (inr none) ↦ absurd none
      | inl (inl (u, moved, leads)) ↦ inl (inl (u, (moved.0, Has-append_left facts handed_on (Moved (name_of u)) moved.1), leads))
      | inr away ↦ elsewhere_excused v facts w away
    ];
    clear = clear_with facts apart well.clear;
    views = (
      λ x w has.
          view_on (home s depth) sees (known_gone (home s depth) (GoneElsewhere program effects older)) v view view facts (facts ++ handed_on) x w
          (well.views.0 x w has)
          (λ b n loan. own_loan sees facts (facts ++ handed_on) (λ l h m own. Has-append_left facts handed_on (Lent l h m) own) b x n loan)
          (reached (home s depth) sees (beside_them table typed effects unmoved local state depth older between) v view facts x w (well.views.0 x w has)),
      well.views.1,
    );
    whole = λ x w z has outer gone meets. well.whole x w z has outer gone.1 meets;
    whole_parts = λ x p w z has gone meets. well.whole_parts x p w z has gone.1 meets;
    parts_away = λ x p w z has away meets. well.whole_parts x p w z has away.1 meets;
    whole_away = λ x w z has given away meets. well.whole x w z has (inr given) away.1 meets;
    shown = past.1;
    past = past.0;
    lends = λ l n lent. record {
      has = Has-append_right facts handed_on (Lent l n.root n) (loans_has table typed effects unmoved local older l n lent);
      none = none_there n.root lent.5;
      plain = plain n.root lent.5;
    };
    far = reach.far;
    bare = reach.bare;
  }
    where
      none_there : (x : ℕ) → is_package_object s x ≡ true → v.way x ≡ None
      none_there x shared = by_way (v.way x) refl
        where
          by_way : (o : Option Way) → v.way x ≡ o → v.way x ≡ None
          by_way None is = is
          by_way (Some w) is = (let no : true ≡ false = sym shared ∙ only x w is in absurd (true≢false no))

  -- and without them
  pub without_them : (v : Views) (view : View) (all facts : List Fact) → ((x : ℕ) (w : Way) → v.way x ≡ Some w → is_package_object s x ≡ false)
      → ((x : ℕ) → is_package_object s x ≡ true → sees x ≡ false)
      → ((f : Fact) → Has facts f → Has all f) → Splits all facts handed_on
      → Viewed (home s depth) sees (beside_them table typed effects unmoved local state depth older between) v view all
      → ViewedAlone (home s depth) sees (known_gone (home s depth) (GoneElsewhere program effects older)) v view facts
  without_them v view all facts only plain part from well = record {
    owned = well.owned;
    covered = well.covered;
    known = λ w l rooted r gone. elim (well.known w l rooted r gone) [
      | inr away ↦ inr away.1
      | inl (inr away) ↦ inr away.1
      | inl (inl (u, moved, leads)) ↦ by_either (from (Moved (name_of u)) moved.1)
          (λ mine. (inl (inl (u, (moved.0, mine), leads))))
          (λ there. (absurd (none_moved table typed effects unmoved local state depth older between (name_of u) there)))
    ];
    clear = record {
      moved = λ l h n m has lends over. well.clear.moved l h n m (part (Moved n) has) (part (Lent l h m) lends) over;
      lent = λ b h n m one two off over. well.clear.lent b h n m (part (Lent Borrowed b n) one) (part (Lent Borrowed h m) two) off over;
      seen = λ b h n m one two over. well.clear.seen b h n m (part (Lent Borrowed b n) one) (part (Lent Observed h m) two) over;
      owned = λ n has. well.clear.owned n (part (Moved n) has);
    };
    whole = λ x w z has outer gone meets. by_either (near_or_far depth z)
        (λ near. (by_either outer
        (λ foreign. ((far_met table typed effects unmoved local state depth older between w z foreign gone meets).0 near))
        (λ given. (well.whole_away x w z has given (near_lent table typed effects unmoved local state depth older between z near gone, gone) meets))))
        (λ far. (well.whole x w z has outer (far, gone) meets));
    whole_parts = λ x p w z has gone meets. by_either (near_or_far depth z)
        (λ near. (well.parts_away x p w z has (near_lent table typed effects unmoved local state depth older between z near gone, gone) meets))
        (λ far. (well.whole_parts x p w z has (far, gone) meets));
    views = (
      λ x w has.
          view_on (home s depth) sees (beside_them table typed effects unmoved local state depth older between) v view view all facts x w (well.views.0 x w has) (λ b n loan. loan_kept x w has b n loan)
          (reached (home s depth) sees (beside_them table typed effects unmoved local state depth older between) v view all x w (well.views.0 x w has)),
      well.views.1,
    );
  }
    where
      not_both : (b : Bool) → b ≡ true → b ≡ false → ⊥
      not_both true e h = absurd (true≢false h)
      not_both false e h = absurd (false≢true e)

      -- the frame's own loans are held by its own objects
      loan_kept : (x : ℕ) (w : Way) → v.way x ≡ Some w → (b : Bool) (n : Name) → HasLoan sees b x all n → HasLoan sees b x facts n
      loan_kept x w has true n (h, lent, sight) = by_either (from (Lent Observed h n) lent)
          (λ mine. (h, mine, sight))
          (λ there. (absurd (let away = lent_handed table typed effects unmoved local state depth older between Observed h n there in
          not_both (sees h) sight (plain h (ap (is_package_object s) away.0 ∙ (away.1).5)))))
      loan_kept x w has false n lent = by_either (from (Lent Borrowed x n) lent)
          (λ mine. (mine))
          (λ there. (absurd (let away = lent_handed table typed effects unmoved local state depth older between Borrowed x n there in
          not_both (is_package_object s x) (ap (is_package_object s) away.0 ∙ (away.1).5) (only x w has))))

  -- ---- where others aren't concerned

  -- All that is gone for them, and what they have lent.
  abbrev pub gone_lent : Around (home s depth)
  gone_lent = record {
    lent = LentElsewhere table typed effects unmoved local older;
    gone = GoneElsewhere program effects older;
    away = λ w. ⊥;
    through = λ w none. absurd none;
    kept = λ w n. ⊥;
    begins = λ w n none. absurd none;
    bare = λ w l p. ⊥;
    rests = λ w l p none. absurd none;
    bares = λ w l p none. absurd none;
    emptied = λ w l p none q. absurd none;
  }

  pub with_gone : (v : Views) (view : View) (facts : List Fact)
      → Viewed (home s depth) sees (beside_them table typed effects unmoved local state depth older between) v view facts
      → Viewed (home s depth) sees gone_lent v view facts
  with_gone v view facts well = record {
    owned = well.owned;
    covered = well.covered;
    known = λ w l rooted r gone. elim (well.known w l rooted r gone) [
      | inl (inl moved) ↦ inl (inl moved)
      | inl (inr away) ↦ inr away.1
      | inr far ↦ inr far.1
    ];
    clear = well.clear;
    views = well.views;
    whole = λ x w z has outer gone meets. elim (near_or_far depth z) [
      | inr far ↦ well.whole x w z has outer (far, gone) meets
      | inl near ↦ elim outer [
        | inr given ↦ well.whole_away x w z has given (near_lent table typed effects unmoved local state depth older between z near gone, gone) meets
        | inl foreign ↦ (far_met table typed effects unmoved local state depth older between w z foreign gone meets).0 near
      ]
    ];
    whole_away = λ x w z has given none. absurd none;
    whole_parts = λ x p w z has gone meets. elim (near_or_far depth z) [
      | inr far ↦ well.whole_parts x p w z has (far, gone) meets
      | inl near ↦ well.parts_away x p w z has (near_lent table typed effects unmoved local state depth older between z near gone, gone) meets
    ];
    parts_away = λ x p w z has none. absurd none;
    shown = well.shown;
    past = λ x w has given plain k n none. absurd none;
    lends = well.lends;
    far = λ w n none. absurd none;
    bare = λ w l p none. absurd none;
  }

  -- ---- a frame that the others wait for

  -- its facts on package objects are of such that it uses, or writes
  module _ (are : AreEffects (flow_program table typed) effects) (e : Stage) (named : NamedSub) (of_sub : IsNamedSub (flow_named table typed) e.frame.sub named)
      (backs : List Return) (waiting : AreWaiting table typed effects state e.frame.sub backs older) where
    spared_by : (l : Loan) (m : Name) → LentElsewhere table typed effects unmoved local older l m → Has (written_by effects e.frame.sub) m.root → ⊥
    spared_by l m these written =
        let (g, has, some, f, keeps, shared, kind, is) = these in
        kept_there table typed effects are (unused_there table typed effects unmoved local) state e.frame.sub backs older waiting g has some f keeps
        (ap (λ (z : Name). is_package_object s z.root) is ∙ shared)
        (written_disturbs table typed effects are (loan_by f) e.frame.sub (place f).root
        (subst (λ (z : Name). Has (written_by effects e.frame.sub) z.root) (sym is) written))

    pub apart_of : AreApart (facts_of program effects e)
    apart_of = record {
      seen = λ n m (g, has, deep_there, f, kept, shared, borrowed, is) (k, there, some, o, sight, also, observed, at) over.
          held_apart table typed effects are (unused_there table typed effects unmoved local) state e.frame.sub backs older waiting g k has there deep_there some f o kept sight borrowed observed
          (ap (λ (z : Name). is_package_object s z.root) is ∙ shared) ((λ j. overlaps (is j) (at j)) ∙ over);
      own_moved = λ n moved l m lent root.
          spared_by l m lent (subst (Has (written_by effects e.frame.sub)) root
          (moved_written table typed effects are e named of_sub n moved (ap (is_package_object s) root ∙ lent.5)));
      own_borrowed = λ b n lends l m lent root.
          spared_by l m lent (subst (Has (written_by effects e.frame.sub)) root
          (lent_written table typed effects are e named of_sub b n lends (ap (is_package_object s) root ∙ lent.5)));
      own_seen = λ h m lends n lent root. (
          let (g, has, some, f, keeps, shared, kind, is) = lent in
          kept_there table typed effects are (unused_there table typed effects unmoved local) state e.frame.sub backs older waiting g has some f keeps
          (ap (λ (z : Name). is_package_object s z.root) is ∙ shared)
          (subst (λ l. Disturbs effects l e.frame.sub (place f).root) (sym kind)
          (subst (λ (z : Name). Uses effects e.frame.sub z.root) (sym is)
          (subst (Uses effects e.frame.sub) (sym root) (lent_used table typed effects are e named of_sub Observed h m lends (ap (is_package_object s) (sym root) ∙ lent.5))))));
    }
