-- Facts without an element stay exact in each of the four steps, under its act.
use Rattle.std.proofs.Common.{◌≡◌, refl, sym, ap, ◌∙◌, subst, ◌⊎◌, inl, inr, ℕ, Bool, true, false, not, ◌==◌, eq-eqb, List, [], ◌∷◌, ◌++◌}
use Rattle.std.specs.List.{filter}
use Rattle.std.proofs.lemmas.Bool.{false≢true, true≢false}
use Rattle.machine.specs.spark_base.Lists.{Has}
use Rattle.spark_base.proofs.Lists.{Has-append_cases, Has-filter}
use Rattle.machine.specs.place_names.declared.selector.Sel.{Sel}
use Rattle.machine.specs.place_names.declared.selector.Sel.TheVariants.{Field, Elem, Deref}
use Rattle.machine.specs.place_names.declared.act.Act.{Act}
use Rattle.machine.specs.place_names.declared.fact.Fact.{Fact}
use Rattle.machine.specs.place_names.Names.{begins, is_prefix, is_equal, has_elem, covers}
use Rattle.machine.specs.place_names.Facts.{adds, removes, effect}
use Rattle.soundness.specs.OwnedWays.Ways.{Step, OfVariable, OfHand, Loc, OfRoot, OfCell, Inside, Way, Object, Lost, Into, All, Gone, Held, View, Reaches, IsRooted, Under, Told, base_of, number_of, sels_of, name_of, Named}
use Rattle.soundness.proofs.OwnedWays.Locations.{both_true}
use Rattle.soundness.proofs.OwnedWays.Named.{longer}
use Rattle.soundness.proofs.OwnedWays.Dropped.{named_base}
use Rattle.soundness.specs.ExactFacts.Exact.{IsOfVariable}

-- ---- facts

not_true : (b : Bool) → not b ≡ true → b ≡ false
not_true true e = absurd (false≢true e)
not_true false e = refl

-- what holds after an act held before it and isn't removed, or is added
pub fact_before : (a : Act) (facts : List Fact) (f : Fact) → Has (effect a facts) f → (Has facts f × (removes a f ≡ false)) ⊎ Has (adds a) f
fact_before a facts f h = elim (Has-append_cases (filter (λ g. not (removes a g)) facts) (adds a) f h) [
  | inl old ↦ (let both = Has-filter (λ g. not (removes a g)) facts f old in inl (both.0, not_true (removes a f) both.1))
  | inr new ↦ inr new
]

-- ---- names

sel_itself : (s : Sel) → is_equal s s ≡ true
sel_itself (Field i) = eq-eqb i i refl
sel_itself Elem = refl
sel_itself Deref = refl

begins_front : (a q : List Sel) → begins a (a ++ q) ≡ true
begins_front [] q = refl
begins_front (s ∷ a) q = both_true (is_equal s s) (begins a (a ++ q)) (sel_itself s) (begins_front a q)

pub front_plain : (a q : List Sel) → has_elem (a ++ q) ≡ false → has_elem a ≡ false
front_plain [] q e = refl
front_plain (Field i ∷ a) q e = front_plain a q e
front_plain (Elem ∷ a) q e = absurd (true≢false e)
front_plain (Deref ∷ a) q e = front_plain a q e

-- a way without an element is covered by each way that begins it
pub under_covers : (k w : Way) → Under k w → has_elem (sels_of w) ≡ false → covers (name_of k) (name_of w) ≡ true
under_covers k w u plain =
    let l = longer k w u in
    let front : begins (sels_of k) (sels_of w) ≡ true = ap (begins (sels_of k)) l.sels ∙ begins_front (sels_of k) l.rest in
    let prefix : is_prefix (name_of k) (name_of w) ≡ true =
    both_true (number_of k == number_of w) (begins (sels_of k) (sels_of w)) (eq-eqb (number_of k) (number_of w) (sym l.root)) front in
    both_true (is_prefix (name_of k) (name_of w)) (not (has_elem (sels_of k))) prefix
    (ap not (front_plain (sels_of k) l.rest (sym (ap has_elem l.sels) ∙ plain)))

-- a hand has no name, and begins no way that has one
pub no_hand : (home : ℕ → ℕ) (h : ℕ) (w : Way) → Named home w → base_of w ≡ OfRoot (OfHand h) → ⊥
no_hand home h w named e = let is : OfRoot (OfVariable (home (number_of w)) (number_of w)) ≡ OfRoot (OfHand h) = sym (named_base home w named) ∙ e in cc

-- Ways of names begin at variables, and others do that begin with no hand.
pub named_variable : (home : ℕ → ℕ) (w : Way) → Named home w → IsOfVariable w
named_variable home (Object (OfVariable f x)) named = tt
named_variable home (Object (OfHand h)) named = absurd named
named_variable home (Lost n) named = absurd named
named_variable home (Into w i) named = named_variable home w named
named_variable home (All w) named = named_variable home w named

pub variable_rooted : (w : Way) → IsOfVariable w → IsRooted w
variable_rooted (Object r) is = tt
variable_rooted (Lost n) is = absurd is
variable_rooted (Into w i) is = variable_rooted w is
variable_rooted (All w) is = variable_rooted w is

-- ---- ways that lead on no new way

-- Ways keep to some locations, and what they find there was there before.
pub record Keeps (s t : View) (on : Loc → Type 0) : Type 0 where
  pub inside : (l : Loc) (i : Step) → on l → on (Inside l i)
  pub cell : (l : Loc) (n : ℕ) → on l → s.word l ≡ Held n → on (OfCell n)
  pub held : (l : Loc) (n : ℕ) → on l → t.word l ≡ Held n → s.word l ≡ Held n

-- A way begins at such a location, at a variable.
abbrev pub Begins : (Loc → Type 0) → Way → Type 0
Begins on w = IsOfVariable w × on (base_of w)

pub reached_before : (s t : View) (on : Loc → Type 0) → Keeps s t on → (w : Way) (l : Loc) → Begins on w → Reaches t w l
    → on l × Reaches s w l
reached_before s t on keeps (Object (OfVariable f x)) l begins r = (subst on (sym r) begins.1, r)
reached_before s t on keeps (Object (OfHand h)) l begins r = absurd begins.0
reached_before s t on keeps (Lost n) l begins r = absurd begins.0
reached_before s t on keeps (Into w i) l begins (m, r, e) =
    let before = reached_before s t on keeps w m begins r in
    (subst on (sym e) (keeps.inside m i before.0), (m, before.1, e))
reached_before s t on keeps (All w) l begins (m, n, r, h, e) =
    let before = reached_before s t on keeps w m begins r in
    let was = keeps.held m n before.0 h in
    (subst on (sym e) (keeps.cell m n before.0 was), (m, n, before.1, was, e))

-- where what is gone stays gone, it stays told
pub told_on : (s t : View) (on : Loc → Type 0) (moved : Way → Type 0) → ((w : Way) → moved w → Begins on w) → Keeps s t on
    → ((l : Loc) → on l → s.word l ≡ Gone → t.word l ≡ Gone) → Told s moved → Told t moved
told_on s t on moved begins keeps gone told w l is r =
    let before = reached_before s t on keeps w l (begins w is) r in
    gone l before.0 (told w l is before.1)

-- all variables are such
pub variable_begins : (on : Loc → Type 0) → ((f x : ℕ) → on (OfRoot (OfVariable f x))) → (w : Way) → IsOfVariable w → Begins on w
variable_begins on all (Object (OfVariable f x)) is = (tt, all f x)
variable_begins on all (Object (OfHand h)) is = absurd is
variable_begins on all (Lost n) is = absurd is
variable_begins on all (Into w i) is = variable_begins on all w is
variable_begins on all (All w) is = variable_begins on all w is

-- Variables, cells and parts of both.
abbrev pub IsPlaced : Loc → Type 0
IsPlaced (OfRoot (OfVariable f x)) = Unit {0}
IsPlaced (OfRoot (OfHand h)) = ⊥
IsPlaced (OfCell n) = Unit {0}
IsPlaced (Inside l i) = IsPlaced l

pub keeps_placed : (s t : View) → ((l : Loc) (n : ℕ) → IsPlaced l → t.word l ≡ Held n → s.word l ≡ Held n) → Keeps s t IsPlaced
keeps_placed s t held = record {
  inside = λ l i p. p;
  cell = λ l n p e. tt;
  held = held;
}
