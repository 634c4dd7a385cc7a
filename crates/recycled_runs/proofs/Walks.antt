-- Where a name of a typed program leads: to a part of its variable, or of a cell that isn't freed.
use Rattle.std.proofs.Common.{◌≡◌, refl, sym, ap, ◌∙◌, subst, inl, inr, ◌⊎◌, ℕ, zero, suc, ◌+◌, ◌*◌, ◌<◌, arith, lt-ltb, Bool, true, false, ◌&&◌, List, [], ◌∷◌, map, sum, take, drop, length, get_or, ℤ, if◌then◌else◌}
use Rattle.std.specs.Prelude.{int_le, unsigned_abs, ◌-ℤ◌}
use Rattle.machine.specs.type_definitions.declared.table.Component.{Component as Part}
use Rattle.machine.specs.type_definitions.declared.table.Shape.{Shape}
use Rattle.machine.specs.type_definitions.declared.table.Shape.TheVariants as shape
use Rattle.machine.specs.type_definitions.Types.{Table, shape_of, components_of, fields, words, span, view_of, is_scalar}
use Rattle.machine.specs.spark_base.declared.position.Pos.{Pos}
use Rattle.machine.specs.typed_tree.Trees.{TypedTree, Name, Component as IntoComponent, Designated, Element, NoMore}
use Rattle.machine.specs.flow_paths.Objects.{Typing, object_at, is_package_object, designated, designated_of}
use Rattle.machine.specs.Words.{no_component, component_type, words_before, element_of, count_of, element_type, element_count}
use Rattle.machine.specs.Words as machine
use Rattle.machine.specs.Memory.{Slot, Memory, Base, OfVariable, OfCell, Place, cell, no_slot, slots_at, words_of}
use Rattle.machine.specs.Evaluate.{Here, Now, AsValue, Evaluated, Done, Raises, Traps, followed_by, component_place, element_place, cell_place, designated_place, variable_place, evaluate, indexed, steps_of, walked, stepped, place_of}
use Rattle.machine.specs.Evaluate as run
use Rattle.machine.specs.States.{Waiting}
use Rattle.soundness.specs.OwnedWays.Ways.{Component, Element, Loc, OfRoot, Inside}
use Rattle.soundness.specs.OwnedWays.Ways as ways
use Rattle.soundness.specs.PartOffsets.Parts.{type_in, offset_in}
use Rattle.soundness.specs.Seen.{content, trunk, steps_in}
use Rattle.soundness.specs.Typed.{Kept, Spot}
use Rattle.soundness.proofs.Numbers.{index_law}
use Rattle.soundness.proofs.Steps.{plain_shape, content_slots}
use Rattle.soundness.specs.TypedLaws.Needed.{Matches, Leads}
use Rattle.soundness.proofs.Parted.{not_empty}
use Rattle.std.proofs.lemmas.Bool.{false≢true}
use Rattle.viewed_steps.proofs.Parted.{list_first}
use Rattle.recycled_runs.proofs.Parted.{is_done_value, evaluated_values}

-- ---- one after the other

-- What comes last is done where all of it is.
pub followed : {A B : Type 0} (x : Evaluated A) (f : A → Now → Evaluated B) (b : B) (n : Now) → followed_by x f ≡ Done b n → (a : A) × (k : Now) × (x ≡ Done a k) × (f a k ≡ Done b n)
followed (Done a k) f b n e = (a, k, refl, e)
followed (Raises x k) f b n e = absurd (false≢true (ap is_done_value e))
followed (Traps x k) f b n e = absurd (false≢true (ap is_done_value e))

done_same : {A : Type 0} (a b : A) (k n : Now) → Done a k ≡ Done b n → (a ≡ b) × (k ≡ n)
done_same a b k n e = (cc, cc)

both_true : (a b : Bool) → a ≡ true → b ≡ true → a && b ≡ true
both_true a b e f = ap (λ x. x && b) e ∙ f

-- ---- steps of names

-- They lead from a type to another one, each within what it is a step of.
abbrev pub Lead : Table → ℕ → List run.Step → ℕ → Type 0
Lead table t [] u = t ≡ u
Lead table t (run.ToComponent i ∷ rest) u = (i < length (fields table t)) × Lead table (component_type table t i) rest u
Lead table t (run.ToElement n ∷ rest) u = (n < element_count table t) × Lead table (element_type table t) rest u
Lead table t (run.ToDesignated ∷ rest) u = (d : ℕ) × (constant : Bool) × (named : Bool) × (shape_of table t ≡ shape.Access d constant named) × Lead table d rest u

-- The first one goes through an access value.
abbrev pub GoesThrough : TypedTree → Type 0
GoesThrough (Designated rest) = Unit {0}
GoesThrough _ = ⊥

abbrev pub StepsThrough : List run.Step → Type 0
StepsThrough (run.ToDesignated ∷ rest) = Unit {0}
StepsThrough _ = ⊥

index_within : (low high : ℤ) (ws : List machine.Word) (now : Now) (i : ℕ) (n : Now) → indexed low high ws now ≡ Done i n → i < span low high
index_within low high [] now i n e = absurd (false≢true (ap is_done_value e))
index_within low high (machine.Int v ∷ []) now i n e = by (int_le low v && int_le v high) refl e
  where
    by : (b : Bool) → int_le low v && int_le v high ≡ b → (if b then Done (unsigned_abs (v -ℤ low)) now else Raises run.ConstraintError now) ≡ Done i n → i < span low high
    by true fits f = subst (λ k. k < span low high) (evaluated_values f) (index_law low high v fits)
    by false fits f = absurd (false≢true (ap is_done_value f))
index_within low high (machine.Int v ∷ w ∷ ws) now i n e = absurd (false≢true (ap is_done_value e))
index_within low high (machine.Enumerated v ∷ ws) now i n e = absurd (false≢true (ap is_done_value e))
index_within low high (machine.Null ∷ ws) now i n e = absurd (false≢true (ap is_done_value e))
index_within low high (machine.Cell v ∷ ws) now i n e = absurd (false≢true (ap is_done_value e))

-- Those of a name, with their indexes evaluated.
pub goes : (h : Here) (path : TypedTree) (t u : ℕ) (now : Now) (way : List run.Step) (n : Now) → Leads h.typing t path u → steps_of h path now ≡ Done way n
    → Lead h.typing.table t way u × (GoesThrough path → StepsThrough way)
unfolding Leads steps_of
goes h (IntoComponent i rest) t u now way n leads e =
    let on = followed (steps_of h rest now) (λ w k. Done (run.ToComponent i ∷ w) k) way n e in
    let more = goes h rest (component_type h.typing.table t i) u now on.0 on.1 leads.1 on.2 in
    (subst (λ w. Lead h.typing.table t w u) (done_same (run.ToComponent i ∷ on.0) way on.1 n on.3).0 (leads.0, more.0), λ through. absurd through)
goes h (Designated rest) t u now way n leads e =
    let on = followed (steps_of h rest now) (λ w k. Done (run.ToDesignated ∷ w) k) way n e in
    let more = goes h rest leads.0 u now on.0 on.1 leads.4 on.2 in
    let same = (done_same (run.ToDesignated ∷ on.0) way on.1 n on.3).0 in
    (subst (λ w. Lead h.typing.table t w u) same (leads.0, leads.1, leads.2, leads.3, more.0), λ through. subst StepsThrough same tt)
goes h (Element index low high rest) t u now way n leads e =
    let after : ℕ → Now → Evaluated (List run.Step) = (λ i k. followed_by (steps_of h rest k) (λ w k. Done (run.ToElement i ∷ w) k)) in
    let first = followed (evaluate h AsValue index now) (λ ws k. followed_by (indexed low high ws k) after) way n e in
    let second = followed (indexed low high first.0 first.1) after way n first.3 in
    let third = followed (steps_of h rest second.1) (λ w k. Done (run.ToElement second.0 ∷ w) k) way n second.3 in
    let of : element_type h.typing.table t ≡ leads.0 = ap element_of leads.1 in
    let count : element_count h.typing.table t ≡ span low high = ap count_of leads.1 in
    let more = goes h rest leads.0 u second.1 third.0 third.1 leads.3 third.2 in (
      subst (λ w. Lead h.typing.table t w u) (done_same (run.ToElement second.0 ∷ third.0) way third.1 n third.3).0
          (subst (λ k. second.0 < k) (sym count) (index_within low high first.0 first.1 second.0 second.1 second.2), subst (λ t. Lead h.typing.table t third.0 u) (sym of) more.0),
      λ through. absurd through,
    )
goes h NoMore t u now way n leads e = (subst (λ w. Lead h.typing.table t w u) (done_same [] way now n e).0 leads, λ through. absurd through)
goes h path t u now way n leads e = absurd leads

-- ---- where they lead

-- A variable, or a cell that isn't freed.
abbrev pub IsLive : Memory → Base → Type 0
IsLive m (OfVariable f x) = Unit {0}
IsLive m (OfCell n) = (cell m n).freed ≡ false

abbrev pub IsCellBase : Base → Type 0
IsCellBase (OfVariable f x) = ⊥
IsCellBase (OfCell n) = Unit {0}

no_fields : (s : Shape) → is_scalar (view_of s) ≡ true → components_of s ≡ []
no_fields s e = (plain_shape s e).0

access_is : (d : ℕ) (c n : Bool) (s : Shape) → s ≡ shape.Access d c n → is_scalar (view_of s) ≡ true → ⊥
access_is d c n s e f = let is : is_scalar (view_of (shape.Access d c n)) ≡ true = ap (λ z. is_scalar (view_of z)) (sym e) ∙ f in false≢true is

word_at : (n at : ℕ) (xs : List Slot) (w : machine.Word) (ws : List machine.Word) → map (λ (x : Slot). x.word) (take n (drop at xs)) ≡ w ∷ ws → (get_or xs at no_slot).word ≡ w
word_at zero zero xs w ws e = absurd (not_empty (sym e))
word_at (suc n) zero [] w ws e = absurd (not_empty (sym e))
word_at (suc n) zero (x ∷ xs) w ws e = list_first e
word_at zero (suc at) [] w ws e = absurd (not_empty (sym e))
word_at (suc n) (suc at) [] w ws e = absurd (not_empty (sym e))
word_at n (suc at) (x ∷ xs) w ws e = word_at n at xs w ws e

module _ (s : Typing) (m : Memory) (hands : List Waiting) (kept : Kept s m hands) where
  component_spot : (k : Place) (l : Loc) (i : ℕ) → Spot s m hands k l → i < length (fields s.table k.of) → Spot s m hands (component_place s.table i k) (Inside l (Component i))
  component_spot k l i spot lt = by spot.of
    where
      u : ℕ
      u = type_in s.table (content s m hands (trunk l)).of (steps_in l)

      by : Matches s.table k.of u → Spot s m hands (component_place s.table i k) (Inside l (Component i))
      by (inl e) =
          let at : words_before s.table k.of i ≡ words_before s.table u i = ap (λ z. sum (map (λ (c : Part). words s.table c.of) (take i (components_of z)))) e in
          let type : component_type s.table k.of i ≡ component_type s.table u i = ap (λ z. (get_or (components_of z) i no_component).of) e in
          let many : length (fields s.table k.of) ≡ length (fields s.table u) = ap (λ z. length (components_of z)) e in
          let old = spot.at in
          record {
            base = spot.base;
            made = spot.made;
            at = (λ j. old j + at j);
            there = both_true _ _ spot.there (lt-ltb i _ (omega (arith, lt, many)));
            of = inl (ap (shape_of s.table) type);
          }
      by (inr (a, b)) = let none = ap length (no_fields (shape_of s.table k.of) a) in absurd (omega (arith, lt, none))

  element_spot : (k : Place) (l : Loc) (n : ℕ) → Spot s m hands k l → n < element_count s.table k.of → Spot s m hands (element_place s.table n k) (Inside l (Element n))
  element_spot k l n spot lt = by spot.of
    where
      u : ℕ
      u = type_in s.table (content s m hands (trunk l)).of (steps_in l)

      by : Matches s.table k.of u → Spot s m hands (element_place s.table n k) (Inside l (Element n))
      by (inl e) =
          let type : element_type s.table k.of ≡ element_type s.table u = ap element_of e in
          let many : element_count s.table k.of ≡ element_count s.table u = ap count_of e in
          let old = spot.at in
          record {
            base = spot.base;
            made = spot.made;
            at = (λ j. old j + n * words s.table (type j));
            there = both_true _ _ spot.there (lt-ltb n _ (omega (arith, lt, many)));
            of = inl (ap (shape_of s.table) type);
          }
      by (inr (a, b)) = let none = (plain_shape (shape_of s.table k.of) a).1 in absurd (omega (arith, lt, none))

  pub cell_spot : (k : Place) (l : Loc) (d : ℕ) (c n : Bool) (j : ℕ) → Spot s m hands k l → shape_of s.table k.of ≡ shape.Access d c n → words_of s m k ≡ machine.Cell j ∷ []
      → Spot s m hands (cell_place d j) (ways.OfCell j)
  cell_spot k l d c n j spot is e =
      let type : shape_of s.table (type_in s.table (content s m hands (trunk l)).of (steps_in l)) ≡ shape.Access d c n = elim spot.of [
        | inl same ↦ sym same ∙ is
        | inr both ↦ absurd (access_is d c n (shape_of s.table k.of) is both.0)
      ] in
      let slot : get_or (content s m hands (trunk l)).slots (offset_in s.table (content s m hands (trunk l)).of (steps_in l)) no_slot ≡ get_or (slots_at s m k.base) k.at no_slot
      = ap (λ o. get_or (content s m hands (trunk l)).slots o no_slot) (sym spot.at)
      ∙ ap (λ z. get_or (content s m hands z).slots k.at no_slot) spot.base
      ∙ ap (λ z. get_or z k.at no_slot) (content_slots s m hands k.base spot.made) in
      let points = kept.points (trunk l) (steps_in l) d c n j spot.there type (ap (λ (x : Slot). x.word) slot ∙ word_at (words s.table k.of) k.at (slots_at s m k.base) (machine.Cell j) [] e) in
      record { base = refl; made = (points.0, points.1); at = refl; there = refl; of = points.2 }

  -- A place where steps lead to that begin at another one.
  pub record Found (k : Place) (way : List run.Step) (u : ℕ) (p : Place) : Type 0 where
    pub at : Loc
    pub spot : Spot s m hands p at
    pub of : p.of ≡ u
    pub live : IsLive m p.base
    pub base : IsCellBase p.base ⊎ (p.base ≡ k.base)
    pub through : StepsThrough way → IsCellBase p.base

  designates : (u : ℕ) (ws : List machine.Word) (now : Now) (p : Place) (n : Now) → designated_place u ws now ≡ Done p n
      → (j : ℕ) × (ws ≡ machine.Cell j ∷ []) × ((cell now.memory j).freed ≡ false) × (p ≡ cell_place u j) × (n ≡ now)
  designates u [] now p n e = absurd (false≢true (ap is_done_value e))
  designates u (machine.Int v ∷ ws) now p n e = absurd (false≢true (ap is_done_value e))
  designates u (machine.Enumerated v ∷ ws) now p n e = absurd (false≢true (ap is_done_value e))
  designates u (machine.Null ∷ ws) now p n e = absurd (false≢true (ap is_done_value e))
  designates u (machine.Cell j ∷ w ∷ ws) now p n e = absurd (false≢true (ap is_done_value e))
  designates u (machine.Cell j ∷ []) now p n e = by (cell now.memory j).freed refl e
    where
      by : (b : Bool) → (cell now.memory j).freed ≡ b → (if b then Traps run.Touched now else Done (cell_place u j) now) ≡ Done p n
          → (i : ℕ) × (machine.Cell j ∷ [] ≡ machine.Cell i ∷ []) × ((cell now.memory i).freed ≡ false) × (p ≡ cell_place u i) × (n ≡ now)
      by true freed f = absurd (false≢true (ap is_done_value f))
      by false freed f = let same = done_same (cell_place u j) p now n f in (j, refl, freed, sym same.0, sym same.1)

  pub walk : (way : List run.Step) (k : Place) (l : Loc) (u : ℕ) (waits : List (List machine.Word)) (p : Place) (n : Now) → Spot s m hands k l → IsLive m k.base → Lead s.table k.of way u
      → walked s way k (record { memory = m; waits = waits }) ≡ Done p n → Found k way u p
  walk [] k l u waits p n spot live lead e =
      let same = (done_same k p (record { memory = m; waits = waits }) n e).0 in
      subst (Found k [] u) same (record { at = l; spot = spot; of = lead; live = live; base = inr refl; through = λ through. absurd through })
  walk (run.ToComponent i ∷ rest) k l u waits p n spot live lead e =
      let on = walk rest (component_place s.table i k) (Inside l (Component i)) u waits p n (component_spot k l i spot lead.0) live lead.1 e in
      record { at = on.at; spot = on.spot; of = on.of; live = on.live; base = on.base; through = λ through. absurd through }
  walk (run.ToElement i ∷ rest) k l u waits p n spot live lead e =
      let on = walk rest (element_place s.table i k) (Inside l (Element i)) u waits p n (element_spot k l i spot lead.0) live lead.1 e in
      record { at = on.at; spot = on.spot; of = on.of; live = on.live; base = on.base; through = λ through. absurd through }
  walk (run.ToDesignated ∷ rest) k l u waits p n spot live lead e =
      let now : Now = record { memory = m; waits = waits } in
      let type : designated s.table k.of ≡ lead.0 = ap (λ z. designated_of k.of (view_of z)) lead.3 in
      let on = followed (designated_place (designated s.table k.of) (words_of s m k) now) (walked s rest) p n e in
      let to = designates (designated s.table k.of) (words_of s m k) now on.0 on.1 on.2 in
      let place : on.0 ≡ cell_place lead.0 to.0 = to.3 ∙ ap (λ d. cell_place d to.0) type in
      let then_on : walked s rest (cell_place lead.0 to.0) now ≡ Done p n = (λ j. walked s rest (sym place j) (sym to.4 j)) ∙ on.3 in
      let more = walk rest (cell_place lead.0 to.0) (ways.OfCell to.0) u waits p n (cell_spot k l lead.0 lead.1 lead.2 to.0 spot lead.3 to.1) to.2 lead.4 then_on in
      record {
        at = more.at;
        spot = more.spot;
        of = more.of;
        live = more.live;
        base = inl (at_cell more.base);
        through = λ through. at_cell more.base;
      }
    where
      at_cell : {j : ℕ} → IsCellBase p.base ⊎ (p.base ≡ OfCell j) → IsCellBase p.base
      at_cell (inl is) = is
      at_cell (inr same) = subst IsCellBase (sym same) tt

-- Walking leaves all as it is.
still : (s : Typing) (way : List run.Step) (k : Place) (now : Now) (p : Place) (n : Now) → walked s way k now ≡ Done p n → now ≡ n
still s [] k now p n e = (done_same k p now n e).1
still s (run.ToComponent i ∷ rest) k now p n e = still s rest (component_place s.table i k) now p n e
still s (run.ToElement i ∷ rest) k now p n e = still s rest (element_place s.table i k) now p n e
still s (run.ToDesignated ∷ rest) k now p n e =
    let on = followed (stepped s run.ToDesignated k now) (walked s rest) p n e in
    stood (designated s.table k.of) (words_of s now.memory k) on.0 on.1 on.2 ∙ still s rest on.0 on.1 p n on.3
  where
    stood : (u : ℕ) (ws : List machine.Word) (q : Place) (mid : Now) → designated_place u ws now ≡ Done q mid → now ≡ mid
    stood u [] q mid e = absurd (false≢true (ap is_done_value e))
    stood u (machine.Int v ∷ ws) q mid e = absurd (false≢true (ap is_done_value e))
    stood u (machine.Enumerated v ∷ ws) q mid e = absurd (false≢true (ap is_done_value e))
    stood u (machine.Null ∷ ws) q mid e = absurd (false≢true (ap is_done_value e))
    stood u (machine.Cell j ∷ w ∷ ws) q mid e = absurd (false≢true (ap is_done_value e))
    stood u (machine.Cell j ∷ []) q mid e = by (cell now.memory j).freed e
      where
        by : (b : Bool) → (if b then Traps run.Touched now else Done (cell_place u j) now) ≡ Done q mid → now ≡ mid
        by true f = absurd (false≢true (ap is_done_value f))
        by false f = (done_same (cell_place u j) q now mid f).1

module _ (h : Here) (m : Memory) (hands : List Waiting) (kept : Kept h.typing m hands) where
  -- A name of a place.
  pub place_found : (q : Pos) (x u : ℕ) (path : TypedTree) (now : Now) (p : Place) (waits : List (List machine.Word)) → Leads h.typing (object_at h.typing x).of path u
      → place_of h (Name q x path u) now ≡ Done p (record { memory = m; waits = waits })
      → (way : List run.Step) × Found h.typing m hands kept (variable_place h x) way u p × (GoesThrough path → StepsThrough way)
  place_found q x u path now p waits leads e =
      let after : Now = record { memory = m; waits = waits } in
      let start : List run.Step → Now → Evaluated Place = (λ way k. walked h.typing way (variable_place h x) k) in
      let on = followed (steps_of h path now) start p after e in
      let way = goes h path (object_at h.typing x).of u now on.0 on.1 leads on.2 in
      let last : on.1 ≡ after = still h.typing on.0 (variable_place h x) on.1 p after on.3 in (
        on.0,
        walk h.typing m hands kept on.0 (variable_place h x) (OfRoot (ways.OfVariable (if is_package_object h.typing x then 0 else h.frame) x)) u waits p after
            (record { base = refl; made = tt; at = refl; there = refl; of = inl refl }) tt way.0 (subst (λ k. walked h.typing on.0 (variable_place h x) k ≡ Done p after) last on.3),
        way.1,
      )
