-- What an identifier denotes, in the words of the rules.
use Rattle.std.proofs.Common.{◌≡◌, refl, ap, sym, ◌∙◌, subst, true≢false, ℕ, Bool, true, false, if◌then◌else◌, ◌&&◌, ◌||◌, nat_eq, List, [], ◌∷◌, ◌++◌, Option, None, Some, is_some, slice_get, ◌⊎◌, inl, inr}
use Rattle.std.specs.Prelude.{unwrap_or, option_to_list}
use Rattle.std.specs.List.{AllByRecursion, flat_map, list_all}
use Rattle.std.proofs.lemmas.Bool.{eqb-true}
use Rattle.name_events.specs.declared.declaration.RegionPart.{RegionPart}
use Rattle.name_events.specs.declared.declaration.RegionPart.TheVariants as part
use Rattle.name_events.specs.declared.declaration.Declaration.{Declaration}
use Rattle.name_events.specs.declared.declaration.OpenRegion.{OpenRegion}
use Rattle.name_events.specs.Declarations.{Name, Entry, or_else, declared_in, innermost, same_part, is_visible}
use Rattle.name_events.specs.Known.{Known, used_in, packages_in_use, if_visible, visible_member, visible_members, only_one, directly_visible, seen, is_number, if_reached, selected}
use Rattle.spark_base.specs.Lists.{Has}
use Rattle.spark_base.proofs.Lists.{Has-append_left, Has-append_right, Has-append_cases}
use Rattle.name_events.specs.Laws.{IsNowhereIn, IsLastIn, IsInnermost, IsInNoRegion, IsInUse, IsMember, IsByUse, IsSelected}
use Rattle.name_events.proofs.Searches.{nat_same, both_true, declared_says, declared_nowhere, last_is_declared, nowhere_is_declared}

-- ---- the innermost region that has a name

record Inside (entries : List Entry) (regions : List OpenRegion) (w : Name) (d : Declaration) : Type 0 where
  pub further_in : List OpenRegion
  pub encloses : OpenRegion
  pub further_out : List OpenRegion
  pub around : regions ≡ further_in ++ encloses ∷ further_out
  pub last : IsLastIn entries encloses.region w d
  pub none_further_in : AllByRecursion (λ inner. IsNowhereIn entries inner.region w) further_in

innermost_says : (entries : List Entry) (regions : List OpenRegion) (w : Name) (d : Declaration)
    → innermost (declared_in entries) regions w ≡ Some d → Inside entries regions w d
innermost_says entries [] w d e = absurd (true≢false (sym (ap is_some e)))
innermost_says entries (inner ∷ rest) w d e = by (declared_in entries inner.region w) refl e (innermost_says entries rest w d)
  where
    by : (o : Option Declaration) → declared_in entries inner.region w ≡ o
        → or_else o (innermost (declared_in entries) rest w) ≡ Some d
        → (innermost (declared_in entries) rest w ≡ Some d → Inside entries rest w d)
        → Inside entries (inner ∷ rest) w d
    by (Some x) is e others = record {
      further_in = [];
      encloses = inner;
      further_out = rest;
      around = refl;
      last = declared_says entries inner.region w d (is ∙ e);
      none_further_in = tt;
    }
    by None is e others =
        let o = others e in
        record {
          further_in = inner ∷ o.further_in;
          encloses = o.encloses;
          further_out = o.further_out;
          around = ap (λ zs. inner ∷ zs) o.around;
          last = o.last;
          none_further_in = (declared_nowhere entries inner.region w is, o.none_further_in);
        }

in_no_region : (entries : List Entry) (regions : List OpenRegion) (w : Name) → innermost (declared_in entries) regions w ≡ None
    → AllByRecursion (λ inner. IsNowhereIn entries inner.region w) regions
in_no_region entries [] w e = tt
in_no_region entries (inner ∷ rest) w e = by (declared_in entries inner.region w) refl e (in_no_region entries rest w)
  where
    by : (o : Option Declaration) → declared_in entries inner.region w ≡ o
        → or_else o (innermost (declared_in entries) rest w) ≡ None
        → (innermost (declared_in entries) rest w ≡ None → AllByRecursion (λ inner. IsNowhereIn entries inner.region w) rest)
        → AllByRecursion (λ inner. IsNowhereIn entries inner.region w) (inner ∷ rest)
    by (Some x) is e others = absurd (true≢false (ap is_some e))
    by None is e others = (declared_nowhere entries inner.region w is, others e)

innermost_is : (entries : List Entry) (further_in : List OpenRegion) (encloses : OpenRegion) (further_out : List OpenRegion) (w : Name)
    (d : Declaration) → IsLastIn entries encloses.region w d
    → AllByRecursion (λ inner. IsNowhereIn entries inner.region w) further_in
    → innermost (declared_in entries) (further_in ++ encloses ∷ further_out) w ≡ Some d
innermost_is entries [] encloses further_out w d last none =
    ap (λ o. or_else o (innermost (declared_in entries) further_out w)) (last_is_declared entries encloses.region w d last)
innermost_is entries (inner ∷ further_in) encloses further_out w d last none =
    ap (λ o. or_else o (innermost (declared_in entries) (further_in ++ encloses ∷ further_out) w))
    (nowhere_is_declared entries inner.region w none.0)
    ∙ innermost_is entries further_in encloses further_out w d last none.1

none_innermost : (entries : List Entry) (regions : List OpenRegion) (w : Name)
    → AllByRecursion (λ inner. IsNowhereIn entries inner.region w) regions → innermost (declared_in entries) regions w ≡ None
none_innermost entries [] w none = refl
none_innermost entries (inner ∷ rest) w none =
    ap (λ o. or_else o (innermost (declared_in entries) rest w)) (nowhere_is_declared entries inner.region w none.0)
    ∙ none_innermost entries rest w none.1

-- ---- the packages in use

used_says : (uses : List (ℕ × ℕ)) (region n : ℕ) → Has (used_in uses region) n → Has uses (region, n)
used_says [] region n h = absurd h
used_says (clause ∷ rest) region n h = by (nat_eq region clause.0) refl h (used_says rest region n)
  where
    by : (b : Bool) → nat_eq region clause.0 ≡ b → Has (if b then clause.1 ∷ used_in rest region else used_in rest region) n
        → (Has (used_in rest region) n → Has rest (region, n)) → Has (clause ∷ rest) (region, n)
    by true is h others = elim h [
      | inl e ↦ inl (λ i. (sym (eqb-true region clause.0 is) i, e i))
      | inr h ↦ inr (others h)
    ]
    by false is h others = inr (others h)

used_is : (uses : List (ℕ × ℕ)) (region n : ℕ) → Has uses (region, n) → Has (used_in uses region) n
used_is [] region n h = absurd h
used_is (clause ∷ rest) region n h = by (nat_eq region clause.0) refl h (used_is rest region n)
  where
    by : (b : Bool) → nat_eq region clause.0 ≡ b → Has (clause ∷ rest) (region, n)
        → (Has rest (region, n) → Has (used_in rest region) n)
        → Has (if b then clause.1 ∷ used_in rest region else used_in rest region) n
    by true is h others = elim h [ inl e ↦ inl (ap (λ p. p.1) e) | inr h ↦ inr (others h) ]
    by false is h others = elim h [
      | inl e ↦ absurd (true≢false (sym (nat_same region) ∙ ap (λ p. nat_eq region p.0) (sym e) ∙ is))
      | inr h ↦ others h
    ]

in_use_says : (uses : List (ℕ × ℕ)) (regions : List OpenRegion) (n : ℕ) → Has (flat_map (λ inner. used_in uses inner.region) regions) n
    → (inner : OpenRegion) × Has regions inner × Has uses (inner.region, n)
in_use_says uses [] n h = absurd h
in_use_says uses (inner ∷ rest) n h =
    elim (Has-append_cases (used_in uses inner.region) (flat_map (λ inner. used_in uses inner.region) rest) n h) [
      | inl h ↦ (inner, inl refl, used_says uses inner.region n h)
      | inr h ↦ (let found = in_use_says uses rest n h in (found.0, inr found.1, found.2))
    ]

in_use_is : (uses : List (ℕ × ℕ)) (regions : List OpenRegion) (n : ℕ) (inner : OpenRegion) → Has regions inner
    → Has uses (inner.region, n) → Has (flat_map (λ inner. used_in uses inner.region) regions) n
in_use_is uses [] n inner h used = absurd h
in_use_is uses (first ∷ rest) n inner h used = elim h [
  | inl e ↦ Has-append_left (used_in uses first.region) (flat_map (λ inner. used_in uses inner.region) rest) n
      (subst (λ r. Has (used_in uses r) n) (ap (λ x. x.region) (sym e)) (used_is uses inner.region n used))
  | inr h ↦ Has-append_right (used_in uses first.region) (flat_map (λ inner. used_in uses inner.region) rest) n
      (in_use_is uses rest n inner h used)
]

-- ---- their members

visible_is : (p : RegionPart) → same_part p part.Visible ≡ true → p ≡ part.Visible
visible_is part.Visible h = refl
visible_is part.Private h = absurd (true≢false (sym h))
visible_is part.Body h = absurd (true≢false (sym h))

if_visible_says : (o : Option Declaration) (d : Declaration) → if_visible o ≡ Some d → (o ≡ Some d) × (d.part ≡ part.Visible)
if_visible_says None d e = absurd (true≢false (sym (ap is_some e)))
if_visible_says (Some x) d e = by (is_visible x) refl e
  where
    by : (b : Bool) → is_visible x ≡ b → (if b then Some x else None) ≡ Some d → (Some x ≡ Some d) × (d.part ≡ part.Visible)
    by true is e = (e, ap (λ y. y.part) (sym (ap (λ o. unwrap_or o x) e)) ∙ visible_is x.part is)
    by false is e = absurd (true≢false (sym (ap is_some e)))

if_visible_is : (d : Declaration) → d.part ≡ part.Visible → if_visible (Some d) ≡ Some d
if_visible_is d visible = ap (λ p. if same_part p part.Visible then Some d else None) visible

member_says : (now : Known) (n : ℕ) (w : Name) (d : Declaration) → IsInUse now n → visible_member now (slice_get now.declared n) w ≡ Some d
    → IsMember now w d
member_says now n w d in_use e = by (slice_get now.declared n) refl e
  where
    by : (o : Option Entry) → slice_get now.declared n ≡ o → visible_member now o w ≡ Some d → IsMember now w d
    by None is e = absurd (true≢false (sym (ap is_some e)))
    by (Some holder) is e =
        let found = if_visible_says (declared_in now.ended holder.1.own_region w) d e in
        record {
          number = n;
          in_use = in_use;
          holder = holder;
          holds = is;
          last = declared_says now.ended holder.1.own_region w d found.0;
          visible = found.1;
        }

member_is : (now : Known) (w : Name) (d : Declaration) (m : IsMember now w d)
    → visible_member now (slice_get now.declared m.number) w ≡ Some d
member_is now w d m =
    ap (λ o. visible_member now o w) m.holds
    ∙ ap if_visible (last_is_declared now.ended m.holder.1.own_region w d m.last)
    ∙ if_visible_is d m.visible

members_say : (now : Known) (packages : List ℕ) (w : Name) (d : Declaration) → Has (visible_members now packages w) d
    → (n : ℕ) × Has packages n × (visible_member now (slice_get now.declared n) w ≡ Some d)
members_say now [] w d h = absurd h
members_say now (n ∷ rest) w d h = by (visible_member now (slice_get now.declared n) w) refl h (members_say now rest w d)
  where
    by : (o : Option Declaration) → visible_member now (slice_get now.declared n) w ≡ o
        → Has (option_to_list o ++ visible_members now rest w) d
        → (Has (visible_members now rest w) d → (m : ℕ) × Has rest m × (visible_member now (slice_get now.declared m) w ≡ Some d))
        → (m : ℕ) × Has (n ∷ rest) m × (visible_member now (slice_get now.declared m) w ≡ Some d)
    by None is h others = let o = others h in (o.0, inr o.1, o.2)
    by (Some x) is h others = elim h [
      | inl e ↦ (n, inl refl, is ∙ ap Some e)
      | inr h ↦ (let o = others h in (o.0, inr o.1, o.2))
    ]

members_are : (now : Known) (packages : List ℕ) (w : Name) (d : Declaration) (n : ℕ) → Has packages n
    → visible_member now (slice_get now.declared n) w ≡ Some d → Has (visible_members now packages w) d
members_are now [] w d n h e = absurd h
members_are now (first ∷ rest) w d n h e = elim h [
  | inl same ↦ subst (λ o. Has (option_to_list o ++ visible_members now rest w) d)
      (sym (ap (λ m. visible_member now (slice_get now.declared m) w) same ∙ e)) (inl refl)
  | inr h ↦ Has-append_right (option_to_list (visible_member now (slice_get now.declared first) w)) (visible_members now rest w) d
      (members_are now rest w d n h e)
]

has_member : (now : Known) (w : Name) (d : Declaration) → Has (visible_members now (packages_in_use now) w) d → IsMember now w d
has_member now w d h =
    let found = members_say now (packages_in_use now) w d h in
    member_says now found.0 w d (in_use_says now.uses now.open_regions found.0 found.1) found.2

is_there : (now : Known) (w : Name) (d : Declaration) → IsMember now w d → Has (visible_members now (packages_in_use now) w) d
is_there now w d m =
    members_are now (packages_in_use now) w d m.number
    (in_use_is now.uses now.open_regions m.number m.in_use.0 m.in_use.1 m.in_use.2) (member_is now w d m)

-- ---- the one that all of them are

all_same : (number : ℕ) (ds : List Declaration) → list_all (λ other. nat_eq other.number number) ds ≡ true → (d : Declaration) → Has ds d
    → d.number ≡ number
all_same number [] all d h = absurd h
all_same number (x ∷ ds) all d h =
    let both = both_true (nat_eq x.number number) (list_all (λ other. nat_eq other.number number) ds) all in
    elim h [
      | inl e ↦ ap (λ y. y.number) (sym e) ∙ eqb-true x.number number both.0
      | inr h ↦ all_same number ds both.1 d h
    ]

only_one_says : (ds : List Declaration) (d : Declaration) → only_one ds ≡ Some d
    → Has ds d × ((other : Declaration) → Has ds other → other.number ≡ d.number)
only_one_says [] d e = absurd (true≢false (sym (ap is_some e)))
only_one_says (x ∷ ds) d e = by (list_all (λ other. nat_eq other.number x.number) ds) refl e
  where
    by : (b : Bool) → list_all (λ other. nat_eq other.number x.number) ds ≡ b → (if b then Some x else None) ≡ Some d
        → Has (x ∷ ds) d × ((other : Declaration) → Has (x ∷ ds) other → other.number ≡ d.number)
    by true is e =
        let here = ap (λ o. unwrap_or o x) e in (
          inl here,
          λ other h. elim h [
            | inl same ↦ ap (λ y. y.number) (sym same ∙ here)
            | inr h ↦ all_same x.number ds is other h ∙ ap (λ y. y.number) here
          ],
        )
    by false is e = absurd (true≢false (sym (ap is_some e)))

-- ---- the laws

-- What an identifier denotes ended before and stands in an enclosing region, with none of its name
-- later there or further in; or no enclosing region has one, and it is the one that packages in use
-- have in their visible parts.
pub seen_says : (now : Known) (w : Name) (d : Declaration) → seen now w ≡ Some d → IsInnermost now w d ⊎ IsByUse now w d
seen_says now w d e = by (directly_visible now w) refl e
  where
    by : (o : Option Declaration) → directly_visible now w ≡ o
        → or_else o (only_one (visible_members now (packages_in_use now) w)) ≡ Some d → IsInnermost now w d ⊎ IsByUse now w d
    by (Some x) is e =
        let inside = innermost_says now.ended now.open_regions w d (is ∙ e) in
        inl (record {
          further_in = inside.further_in;
          encloses = inside.encloses;
          further_out = inside.further_out;
          around = inside.around;
          last = inside.last;
          none_further_in = inside.none_further_in;
        })
    by None is e =
        let found = only_one_says (visible_members now (packages_in_use now) w) d e in
        inr (record {
          in_no_region = in_no_region now.ended now.open_regions w is;
          member = has_member now w d found.0;
          only = λ other m. found.1 other (is_there now w other m);
        })

-- A declaration for which the first holds is denoted.
pub innermost_is_seen : (now : Known) (w : Name) (d : Declaration) → IsInnermost now w d → seen now w ≡ Some d
innermost_is_seen now w d i =
    ap (λ o. or_else o (only_one (visible_members now (packages_in_use now) w)))
    (ap (λ regions. innermost (declared_in now.ended) regions w) i.around
    ∙ innermost_is now.ended i.further_in i.encloses i.further_out w d i.last i.none_further_in)

-- Where an identifier denotes nothing, no enclosing region has one of its name that has ended.
pub unseen_says : (now : Known) (w : Name) → seen now w ≡ None → IsInNoRegion now w
unseen_says now w e = by (directly_visible now w) refl e
  where
    by : (o : Option Declaration) → directly_visible now w ≡ o
        → or_else o (only_one (visible_members now (packages_in_use now) w)) ≡ None → IsInNoRegion now w
    by (Some x) is e = absurd (true≢false (ap is_some e))
    by None is e = in_no_region now.ended now.open_regions w is

-- ---- an identifier after a package and a dot

is_number_says : (o : Option ℕ) (n : ℕ) → is_number o n ≡ true → o ≡ Some n
is_number_says None n e = absurd (true≢false (sym e))
is_number_says (Some m) n e = ap Some (eqb-true m n e)

either_true : (a b : Bool) → (a || b) ≡ true → (a ≡ true) ⊎ (b ≡ true)
either_true true b h = inl refl
either_true false b h = inr h

-- What P.X denotes is the last X of P that has ended, in the visible part or within the body of P.
pub selected_says : (now : Known) (holder : Declaration) (w : Name) (d : Declaration) → selected now holder w ≡ Some d
    → IsSelected now holder w d
selected_says now holder w d e = by (declared_in now.ended holder.own_region w) refl e
  where
    reached : (x : Declaration) → x ≡ d → (is_visible x || (now.in_own_body && is_number now.own_package holder.number)) ≡ true
        → (d.part ≡ part.Visible) ⊎ ((now.in_own_body ≡ true) × (now.own_package ≡ Some holder.number))
    reached x same is = elim (either_true (is_visible x) (now.in_own_body && is_number now.own_package holder.number) is) [
      | inl h ↦ inl (ap (λ y. y.part) (sym same) ∙ visible_is x.part h)
      | inr h ↦ (let both = both_true now.in_own_body (is_number now.own_package holder.number) h in
          inr (both.0, is_number_says now.own_package holder.number both.1))
    ]

    here : (b : Bool) (x : Declaration) → declared_in now.ended holder.own_region w ≡ Some x
        → (is_visible x || (now.in_own_body && is_number now.own_package holder.number)) ≡ b → (if b then Some x else None) ≡ Some d
        → IsSelected now holder w d
    here true x found is e = record {
      last = declared_says now.ended holder.own_region w d (found ∙ e);
      reached = reached x (ap (λ o. unwrap_or o x) e) is;
    }
    here false x found is e = absurd (true≢false (sym (ap is_some e)))

    by : (o : Option Declaration) → declared_in now.ended holder.own_region w ≡ o → if_reached now holder o ≡ Some d
        → IsSelected now holder w d
    by None found e = absurd (true≢false (sym (ap is_some e)))
    by (Some x) found e =
        here (is_visible x || (now.in_own_body && is_number now.own_package holder.number)) x found refl e
