-- What stays where rows are added.
use Rattle.std.proofs.Common.{◌≡◌, ℕ, zero, suc, ◌+◌, ◌<◌, ◌≤◌, Bool, true, ◌&&◌, List, [], ◌∷◌, ◌++◌, map, flat_map, length, take, drop, refl, sym, ap, subst, ◌∙◌, arith, IsTrue, nat_lt, nat_le, get_or}
use Rattle.std.specs.List.{list_all}
use Rattle.std.proofs.lemmas.Grind.{common_steps}
use Rattle.std.proofs.lemmas.List.{take-append-le, drop-append-le, map-append}
use Rattle.std.proofs.Math.Seq.{drop-append_seam}
use Rattle.run_codes.specs.Codes as codes
use Rattle.code_rows.specs.declared.fill.Fill.{Fill}
use Rattle.code_rows.specs.declared.node.Node.{Node}
use Rattle.code_rows.specs.declared.place.Place.{Place}
use Rattle.code_rows.specs.declared.range.Range.{Range}
use Rattle.code_rows.specs.declared.point.Actual.{Actual}
use Rattle.code_rows.specs.declared.point.Actual.TheVariants as actual
use Rattle.code_rows.specs.declared.point.Text.{Text}
use Rattle.code_rows.specs.declared.point.Text.TheVariants as text
use Rattle.code_rows.specs.declared.point.Does.{Does}
use Rattle.code_rows.specs.declared.point.Does.TheVariants as does
use Rattle.code_rows.specs.declared.point.Point.{Point}
use Rattle.code_rows.specs.declared.point.Sub.{Sub}
use Rattle.code_rows.specs.declared.point.Room.{Room}
use Rattle.code_rows.specs.declared.rows.Rows.{Rows}
use Rattle.code_rows.specs.declared.codes.Codes.{Codes}
use Rattle.code_rows.specs.Rows.{code_at, is_place_below, place_of}
use Rattle.code_rows.specs.Values.{fill_at, are_within, AllGrew}
use Rattle.code_rows.specs.Points.{some, is_range, next_of, actual_of, actuals_of, text_of, texts_of, choice_of, choices_of, is_node, is_value, is_actual_there, is_text_there, does_of, is_does_there, are_sound, AreSound, point_of, is_point_there, sub_of, room_of, type_of, is_sub_there, are_all_there, are_parts_there, is_choice_there, program_of, is_whole, IsWhole, Longer, RowsGrew, CodesGrew}
use Rattle.code_rows.proofs.Grown.{and_both, and_first, and_second}
use Rattle.code_rows.proofs.Filled.{place_same, place_more, fills_none, fills_on}

-- ---- lists

pub longer_none : {A : Type 0} (xs : List A) → Longer xs xs
longer_none xs = record { more = []; is = grind (arith, common_steps) }

pub longer_on : {A : Type 0} (xs ys zs : List A) → Longer xs ys → Longer ys zs → Longer xs zs
longer_on xs ys zs p q = record { more = p.more ++ q.more; is = grind (arith, common_steps, p.is, q.is) }

pub longer_same : {A : Type 0} (xs ys : List A) → ys ≡ xs → Longer xs ys
longer_same xs ys e = subst (λ zs. Longer xs zs) (sym e) (longer_none xs)

pub longer_by : {A : Type 0} (xs ys zs : List A) → zs ≡ xs ++ ys → Longer xs zs
longer_by xs ys zs e = record { more = ys; is = e }

pub range_longer : {A : Type 0} (xs ys : List A) (r : Range) → Longer xs ys → IsTrue (is_range xs r) → IsTrue (is_range ys r)
range_longer xs ys r g is = grind (arith, common_steps, g.is)

length_drop : {A : Type 0} (n : ℕ) (xs : List A) (m : ℕ) → n + m ≤ length xs → m ≤ length (drop n xs)
length_drop n xs m le = grind (arith, common_steps)

pub some_longer : {A : Type 0} (xs ys : List A) (r : Range) → Longer xs ys → IsTrue (is_range xs r) → some ys r ≡ some xs r
some_longer xs ys r g is =
    let within : r.first + r.count ≤ length xs = grind arith in
    let front : r.first ≤ length xs = omega (arith, within) in
    ap (λ zs. some zs r) g.is ∙ ap (λ zs. take r.count zs) (drop-append-le r.first xs g.more front)
    ∙ take-append-le r.count (drop r.first xs) g.more (length_drop r.first xs r.count within)

pub some_end : {A : Type 0} (xs ys : List A) (r : Range) → r.first ≡ length xs → r.count ≡ length ys → some (xs ++ ys) r ≡ ys
some_end xs ys r f c =
    ap (λ n. take r.count (drop n (xs ++ ys))) f ∙ ap (λ zs. take r.count zs) (drop-append_seam xs ys)
    ∙ grind (arith, common_steps, c)

pub range_end : {A : Type 0} (xs ys zs : List A) (r : Range) → r.first ≡ length xs → r.count ≡ length ys → zs ≡ xs ++ ys → IsTrue (is_range zs r)
range_end xs ys zs r f c e = grind (arith, common_steps)

module _ {A : Type 0} (p q : A → Bool) (more : (x : A) → IsTrue (p x) → IsTrue (q x)) where
  pub all_more : (xs : List A) → IsTrue (list_all p xs) → IsTrue (list_all q xs)
  all_more [] all = refl
  all_more (x ∷ xs) all =
      and_both (q x) (list_all q xs) (more x (and_first (p x) (list_all p xs) all)) (all_more xs (and_second (p x) (list_all p xs) all))

module _ {A B : Type 0} (p : A → Bool) (f g : A → B) (same : (x : A) → IsTrue (p x) → f x ≡ g x) where
  pub map_same : (xs : List A) → IsTrue (list_all p xs) → map f xs ≡ map g xs
  map_same [] all = refl
  map_same (x ∷ xs) all =
      ap (λ y. y ∷ map f xs) (same x (and_first (p x) (list_all p xs) all))
      ∙ ap (λ ys. g x ∷ ys) (map_same xs (and_second (p x) (list_all p xs) all))

module _ {A : Type 0} (p : A → Bool) where
  pub all_end : (xs : List A) (y : A) → IsTrue (list_all p xs) → IsTrue (p y) → IsTrue (list_all p (xs ++ y ∷ []))
  all_end [] y all is = and_both (p y) true is refl
  all_end (x ∷ xs) y all is =
      and_both (p x) (list_all p (xs ++ y ∷ [])) (and_first (p x) (list_all p xs) all)
      (all_end xs y (and_second (p x) (list_all p xs) all) is)

  all_take : (n : ℕ) (xs : List A) → IsTrue (list_all p xs) → IsTrue (list_all p (take n xs))
  all_take zero xs all = refl
  all_take (suc n) [] all = refl
  all_take (suc n) (x ∷ xs) all =
      and_both (p x) (list_all p (take n xs)) (and_first (p x) (list_all p xs) all)
      (all_take n xs (and_second (p x) (list_all p xs) all))

  all_drop : (n : ℕ) (xs : List A) → IsTrue (list_all p xs) → IsTrue (list_all p (drop n xs))
  all_drop zero xs all = all
  all_drop (suc n) [] all = refl
  all_drop (suc n) (x ∷ xs) all = all_drop n xs (and_second (p x) (list_all p xs) all)

  pub all_some : (xs : List A) (r : Range) → IsTrue (list_all p xs) → IsTrue (list_all p (some xs r))
  all_some xs r all = all_take r.count (drop r.first xs) (all_drop r.first xs all)

-- ---- rows

pub rows_none : (a : Rows) → RowsGrew a a
rows_none a = record {
  parts = fills_none a.nodes a.fills;
  actuals = longer_none a.actuals.items;
  texts = longer_none a.texts.items;
  bytes = longer_none a.bytes.items;
  choices = longer_none a.choices.items;
}

pub rows_on : (a b c : Rows) → RowsGrew a b → RowsGrew b c → RowsGrew a c
rows_on a b c p q = record {
  parts = fills_on a.nodes a.fills b.nodes b.fills c.nodes c.fills p.parts q.parts;
  actuals = longer_on a.actuals.items b.actuals.items c.actuals.items p.actuals q.actuals;
  texts = longer_on a.texts.items b.texts.items c.texts.items p.texts q.texts;
  bytes = longer_on a.bytes.items b.bytes.items c.bytes.items p.bytes q.bytes;
  choices = longer_on a.choices.items b.choices.items c.choices.items p.choices q.choices;
}

module _ (a b : Rows) (g : RowsGrew a b) where
  pub node_there : (n : ℕ) → IsTrue (is_node a n) → IsTrue (is_node b n)
  node_there n is = grind (arith, g.parts.nodes_grew.more)

  pub value_there : (n : ℕ) → IsTrue (is_value a n) → IsTrue (is_value b n)
  value_there n is = grind (arith, g.parts.more)

  pub place_there : (p : Place) → IsTrue (is_place_below (length a.nodes) p) → IsTrue (is_place_below (length b.nodes) p)
  place_there p is = place_more (length a.nodes) (length b.nodes) p g.parts.nodes_grew.more is

  pub node_kept : (n : ℕ) → IsTrue (is_node a n) → code_at b.nodes n ≡ code_at a.nodes n
  node_kept n is = let lt : n < length a.nodes = grind arith in g.parts.nodes_grew.same n lt

  pub value_kept : (n : ℕ) → IsTrue (is_value a n) → fill_at b.nodes b.fills n ≡ fill_at a.nodes a.fills n
  value_kept n is = let lt : n < length a.fills = grind arith in g.parts.same n lt

  pub place_kept : (p : Place) → IsTrue (is_place_below (length a.nodes) p) → place_of (code_at b.nodes) p ≡ place_of (code_at a.nodes) p
  place_kept p is = place_same (code_at b.nodes) (code_at a.nodes) (length a.nodes) p g.parts.nodes_grew.same is

  pub actual_there : (x : Actual) → IsTrue (is_actual_there a x) → IsTrue (is_actual_there b x)
  actual_there (actual.Word v low high) is = node_there v is
  actual_there (actual.Value v) is = value_there v is
  actual_there (actual.From p of formal) is = place_there p is
  actual_there (actual.To p of pos) is = place_there p is

  pub actual_kept : (x : Actual) → IsTrue (is_actual_there a x) → actual_of b x ≡ actual_of a x
  actual_kept (actual.Word v low high) is = ap (λ c. codes.ByValue (codes.Checked c low high)) (node_kept v is)
  actual_kept (actual.Value v) is = ap (λ f. codes.ByValue f) (value_kept v is)
  actual_kept (actual.From p of formal) is = ap (λ q. codes.From q of formal) (place_kept p is)
  actual_kept (actual.To p of pos) is = ap (λ q. codes.To q of pos) (place_kept p is)

  pub text_there : (x : Text) → IsTrue (is_text_there a x) → IsTrue (is_text_there b x)
  text_there (text.Bytes r) is = range_longer a.bytes.items b.bytes.items r g.bytes is
  text_there (text.Number v) is = node_there v is
  text_there (text.Literal v of) is = node_there v is

  pub text_kept : (x : Text) → IsTrue (is_text_there a x) → text_of b x ≡ text_of a x
  text_kept (text.Bytes r) is = ap (λ xs. codes.Bytes xs) (some_longer a.bytes.items b.bytes.items r g.bytes is)
  text_kept (text.Number v) is = ap (λ c. codes.NumberImage c) (node_kept v is)
  text_kept (text.Literal v of) is = ap (λ c. codes.LiteralImage c of) (node_kept v is)

  module _ (sound : AreSound a) where
    parts_there : IsTrue (are_parts_there a && list_all is_choice_there a.choices.items)
    parts_there = and_second (are_within a.nodes a.fills) (are_parts_there a && list_all is_choice_there a.choices.items) sound

    both_there : IsTrue (are_parts_there a)
    both_there = and_first (are_parts_there a) (list_all is_choice_there a.choices.items) parts_there

    pub all_actuals : IsTrue (list_all (is_actual_there a) a.actuals.items)
    all_actuals =
        and_first (list_all (is_actual_there a) a.actuals.items) (list_all (is_text_there a) a.texts.items) both_there

    pub all_texts : IsTrue (list_all (is_text_there a) a.texts.items)
    all_texts =
        and_second (list_all (is_actual_there a) a.actuals.items) (list_all (is_text_there a) a.texts.items) both_there

    pub all_choices : IsTrue (list_all is_choice_there a.choices.items)
    all_choices = and_second (are_parts_there a) (list_all is_choice_there a.choices.items) parts_there

    pub actuals_kept : (r : Range) → IsTrue (is_range a.actuals.items r) → actuals_of b r ≡ actuals_of a r
    actuals_kept r is =
        ap (λ xs. map (actual_of b) xs) (some_longer a.actuals.items b.actuals.items r g.actuals is)
        ∙ map_same (is_actual_there a) (actual_of b) (actual_of a) actual_kept (some a.actuals.items r)
        (all_some (is_actual_there a) a.actuals.items r all_actuals)

    pub texts_kept : (r : Range) → IsTrue (is_range a.texts.items r) → texts_of b r ≡ texts_of a r
    texts_kept r is =
        ap (λ xs. map (text_of b) xs) (some_longer a.texts.items b.texts.items r g.texts is)
        ∙ map_same (is_text_there a) (text_of b) (text_of a) text_kept (some a.texts.items r)
        (all_some (is_text_there a) a.texts.items r all_texts)

    pub choices_kept : (r : Range) → IsTrue (is_range a.choices.items r) → choices_of b r ≡ choices_of a r
    choices_kept r is = ap (λ xs. map choice_of xs) (some_longer a.choices.items b.choices.items r g.choices is)

    pub does_there : (d : Does) → IsTrue (is_does_there a d) → IsTrue (is_does_there b d)
    does_there (does.Go n) is = refl
    does_there (does.Put at v low high n) is = node_there v is
    does_there (does.PutPointer at v n) is = node_there v is
    does_there (does.Store p v low high k n) is =
        and_both _ _ (place_there p (and_first _ _ is)) (node_there v (and_second (is_place_below (length a.nodes) p) _ is))
    does_there (does.Assign p v of pos n) is =
        and_both _ _ (place_there p (and_first _ _ is)) (value_there v (and_second (is_place_below (length a.nodes) p) _ is))
    does_there (does.Call sub r n) is = range_longer a.actuals.items b.actuals.items r g.actuals is
    does_there (does.Output r line n) is = range_longer a.texts.items b.texts.items r g.texts is
    does_there (does.Input p low high n) is = place_there p is
    does_there (does.Release p of pos n) is = place_there p is
    does_there (does.Test c holds fails) is = node_there c is
    does_there (does.Choose c r) is =
        and_both _ _ (node_there c (and_first _ _ is))
        (range_longer a.choices.items b.choices.items r g.choices (and_second (is_node a c) _ is))
    does_there (does.Start at counter low high first last n) is =
        and_both _ _ (node_there low (and_first _ _ is)) (node_there high (and_second (is_node a low) _ is))
    does_there (does.Next at counter reversed without turn leave) is = refl
    does_there (does.EvaluateLeft c or_else n decided) is = node_there c is
    does_there (does.EvaluateRight c n) is = node_there c is
    does_there (does.Hold v of n) is = value_there v is
    does_there (does.EndPointer at n) is = refl
    does_there (does.EndScope at of n) is = refl
    does_there does.Finish is = refl
    does_there does.Fall is = refl

    pub does_kept : (d : Does) → IsTrue (is_does_there a d) → does_of b d ≡ does_of a d
    does_kept (does.Go n) is = refl
    does_kept (does.Put at v low high n) is = ap (λ c. codes.Put at (codes.Checked c low high) (next_of n)) (node_kept v is)
    does_kept (does.PutPointer at v n) is = ap (λ c. codes.Put at (codes.Pointer c) (next_of n)) (node_kept v is)
    does_kept (does.Store p v low high k n) is =
        ap (λ q. codes.Store q (codes.Checked (code_at b.nodes v) low high) k (next_of n)) (place_kept p (and_first _ _ is))
        ∙ ap (λ c. codes.Store (place_of (code_at a.nodes) p) (codes.Checked c low high) k (next_of n))
        (node_kept v (and_second (is_place_below (length a.nodes) p) _ is))
    does_kept (does.Assign p v of pos n) is =
        ap (λ q. codes.Assign q (fill_at b.nodes b.fills v) of pos (next_of n)) (place_kept p (and_first _ _ is))
        ∙ ap (λ f. codes.Assign (place_of (code_at a.nodes) p) f of pos (next_of n))
        (value_kept v (and_second (is_place_below (length a.nodes) p) _ is))
    does_kept (does.Call sub r n) is = ap (λ xs. codes.Call sub xs (next_of n)) (actuals_kept r is)
    does_kept (does.Output r line n) is = ap (λ xs. codes.Output xs line (next_of n)) (texts_kept r is)
    does_kept (does.Input p low high n) is = ap (λ q. codes.Input q low high (next_of n)) (place_kept p is)
    does_kept (does.Release p of pos n) is = ap (λ q. codes.Release q of pos (next_of n)) (place_kept p is)
    does_kept (does.Test c holds fails) is = ap (λ x. codes.Test x (next_of holds) (next_of fails)) (node_kept c is)
    does_kept (does.Choose c r) is =
        ap (λ x. codes.Choose x (choices_of b r)) (node_kept c (and_first _ _ is))
        ∙ ap (λ xs. codes.Choose (code_at a.nodes c) xs) (choices_kept r (and_second (is_node a c) _ is))
    does_kept (does.Start at counter low high first last n) is =
        ap (λ x. codes.Start at counter x (code_at b.nodes high) first last (next_of n)) (node_kept low (and_first _ _ is))
        ∙ ap (λ x. codes.Start at counter (code_at a.nodes low) x first last (next_of n)) (node_kept high (and_second (is_node a low) _ is))
    does_kept (does.Next at counter reversed without turn leave) is = refl
    does_kept (does.EvaluateLeft c or_else n decided) is =
        ap (λ x. codes.EvaluateLeft x or_else (next_of n) (next_of decided)) (node_kept c is)
    does_kept (does.EvaluateRight c n) is = ap (λ x. codes.EvaluateRight x (next_of n)) (node_kept c is)
    does_kept (does.Hold v of n) is = ap (λ f. codes.Hold f of (next_of n)) (value_kept v is)
    does_kept (does.EndPointer at n) is = refl
    does_kept (does.EndScope at of n) is = refl
    does_kept does.Finish is = refl
    does_kept does.Fall is = refl

-- ---- rows of which some are more

pub more_nodes : (a b : Rows) → AllGrew a.nodes a.fills b.nodes b.fills → b.actuals ≡ a.actuals → b.texts ≡ a.texts → b.bytes ≡ a.bytes
    → b.choices ≡ a.choices → RowsGrew a b
more_nodes a b g actuals texts bytes choices = record {
  parts = g;
  actuals = subst (λ xs. Longer a.actuals.items xs.items) (sym actuals) (longer_none a.actuals.items);
  texts = subst (λ xs. Longer a.texts.items xs.items) (sym texts) (longer_none a.texts.items);
  bytes = subst (λ xs. Longer a.bytes.items xs.items) (sym bytes) (longer_none a.bytes.items);
  choices = subst (λ xs. Longer a.choices.items xs.items) (sym choices) (longer_none a.choices.items);
}

pub sound_of : (a : Rows) → IsTrue (are_within a.nodes a.fills) → IsTrue (list_all (is_actual_there a) a.actuals.items)
    → IsTrue (list_all (is_text_there a) a.texts.items) → IsTrue (list_all is_choice_there a.choices.items) → AreSound a
sound_of a within actuals texts choices =
    and_both (are_within a.nodes a.fills) (are_parts_there a && list_all is_choice_there a.choices.items) within
    (and_both (are_parts_there a) (list_all is_choice_there a.choices.items)
    (and_both (list_all (is_actual_there a) a.actuals.items) (list_all (is_text_there a) a.texts.items) actuals texts) choices)

pub sound_within : (a : Rows) → AreSound a → IsTrue (are_within a.nodes a.fills)
sound_within a sound = and_first (are_within a.nodes a.fills) (are_parts_there a && list_all is_choice_there a.choices.items) sound

-- Rows are sound where only others are added.
pub sound_grew : (a b : Rows) → RowsGrew a b → b.actuals ≡ a.actuals → b.texts ≡ a.texts → b.choices ≡ a.choices
    → IsTrue (are_within b.nodes b.fills) → AreSound a → AreSound b
sound_grew a b grew actuals texts choices within sound =
    sound_of b within
    (subst (λ xs. IsTrue (list_all (is_actual_there b) xs.items)) (sym actuals)
    (all_more (is_actual_there a) (is_actual_there b) (actual_there a b grew) a.actuals.items (all_actuals a b grew sound)))
    (subst (λ xs. IsTrue (list_all (is_text_there b) xs.items)) (sym texts)
    (all_more (is_text_there a) (is_text_there b) (text_there a b grew) a.texts.items (all_texts a b grew sound)))
    (subst (λ xs. IsTrue (list_all is_choice_there xs.items)) (sym choices) (all_choices a b grew sound))

pub sound_parts : (a b : Rows) → AllGrew a.nodes a.fills b.nodes b.fills → b.actuals ≡ a.actuals → b.texts ≡ a.texts → b.bytes ≡ a.bytes
    → b.choices ≡ a.choices → IsTrue (are_within b.nodes b.fills) → AreSound a → AreSound b
sound_parts a b g actuals texts bytes choices within sound =
    sound_grew a b (more_nodes a b g actuals texts bytes choices) actuals texts choices within sound

pub sound_bytes : (a b : Rows) → b.nodes ≡ a.nodes → b.fills ≡ a.fills → b.actuals ≡ a.actuals → b.texts ≡ a.texts → b.choices ≡ a.choices
    → RowsGrew a b → AreSound a → AreSound b
sound_bytes a b nodes fills actuals texts choices g sound =
    let within : IsTrue (are_within b.nodes b.fills) =
    subst (λ n. IsTrue (are_within n b.fills)) (sym nodes) (subst (λ f. IsTrue (are_within a.nodes f)) (sym fills) (sound_within a sound)) in
    sound_grew a b g actuals texts choices within sound

-- ---- programs

sub_with : Sub → List Room → codes.Sub
sub_with s rooms = record {
  first = s.first;
  words = s.words;
  rooms = map room_of rooms;
  formals = flat_map type_of (take s.formals rooms);
}

module _ (a b : Codes) (whole : IsWhole a) (rows : RowsGrew a.rows b.rows) (types : Longer a.types.items b.types.items)
    (rooms : Longer a.rooms.items b.rooms.items) where
  sound : AreSound a.rows
  sound =
      and_first (are_sound a.rows) (are_all_there a) whole

  points : IsTrue (list_all (is_point_there a) a.points.items)
  points =
      and_first (list_all (is_point_there a) a.points.items) (list_all (is_sub_there a) a.subs.items)
      (and_second (are_sound a.rows) (are_all_there a) whole)

  subs : IsTrue (list_all (is_sub_there a) a.subs.items)
  subs =
      and_second (list_all (is_point_there a) a.points.items) (list_all (is_sub_there a) a.subs.items)
      (and_second (are_sound a.rows) (are_all_there a) whole)

  pub point_there : (p : Point) → IsTrue (is_point_there a p) → IsTrue (is_point_there b p)
  point_there p is =
      and_both (is_does_there b.rows p.does) (is_range b.types.items p.takes)
      (does_there a.rows b.rows rows sound p.does (and_first (is_does_there a.rows p.does) (is_range a.types.items p.takes) is))
      (range_longer a.types.items b.types.items p.takes types
      (and_second (is_does_there a.rows p.does) (is_range a.types.items p.takes) is))

  pub point_kept : (p : Point) → IsTrue (is_point_there a p) → point_of b p ≡ point_of a p
  point_kept p is =
      ap (λ xs. record { takes = xs; does = does_of b.rows p.does; pos = p.pos })
      (some_longer a.types.items b.types.items p.takes types (and_second (is_does_there a.rows p.does) (is_range a.types.items p.takes) is))
      ∙ ap (λ d. record { takes = some a.types.items p.takes; does = d; pos = p.pos })
      (does_kept a.rows b.rows rows sound p.does (and_first (is_does_there a.rows p.does) (is_range a.types.items p.takes) is))

  pub sub_there : (s : Sub) → IsTrue (is_sub_there a s) → IsTrue (is_sub_there b s)
  sub_there s is = range_longer a.rooms.items b.rooms.items s.rooms rooms is

  pub sub_kept : (s : Sub) → IsTrue (is_sub_there a s) → sub_of b s ≡ sub_of a s
  unfolding sub_with
  sub_kept s is = ap (sub_with s) (some_longer a.rooms.items b.rooms.items s.rooms rooms is)

  pub points_kept : map (point_of b) a.points.items ≡ map (point_of a) a.points.items
  points_kept = map_same (is_point_there a) (point_of b) (point_of a) point_kept a.points.items points

  pub subs_kept : map (sub_of b) a.subs.items ≡ map (sub_of a) a.subs.items
  subs_kept = map_same (is_sub_there a) (sub_of b) (sub_of a) sub_kept a.subs.items subs

  -- Points and subprograms that were there, and more of them.
  pub codes_grew : Longer a.points.items b.points.items → Longer a.subs.items b.subs.items → b.main ≡ a.main → CodesGrew a b
  codes_grew p s main = record {
    rows = rows;
    types = types;
    rooms = rooms;
    points = record {
      more = map (point_of b) p.more;
      is = ap (λ xs. map (point_of b) xs) p.is ∙ map-append (point_of b) a.points.items p.more
          ∙ ap (λ xs. xs ++ map (point_of b) p.more) points_kept;
    };
    subs = record {
      more = map (sub_of b) s.more;
      is = ap (λ xs. map (sub_of b) xs) s.is ∙ map-append (sub_of b) a.subs.items s.more
          ∙ ap (λ xs. xs ++ map (sub_of b) s.more) subs_kept;
    };
    main = main;
  }

  pub all_points : IsTrue (list_all (is_point_there b) a.points.items)
  all_points = all_more (is_point_there a) (is_point_there b) point_there a.points.items points

  pub all_subs : IsTrue (list_all (is_sub_there b) a.subs.items)
  all_subs = all_more (is_sub_there a) (is_sub_there b) sub_there a.subs.items subs

pub whole_of : (c : Codes) → AreSound c.rows → IsTrue (list_all (is_point_there c) c.points.items) → IsTrue (list_all (is_sub_there c) c.subs.items)
    → IsWhole c
whole_of c sound points subs =
    and_both (are_sound c.rows) (are_all_there c) sound
    (and_both (list_all (is_point_there c) c.points.items) (list_all (is_sub_there c) c.subs.items) points subs)

pub codes_on : (a b c : Codes) → CodesGrew a b → CodesGrew b c → CodesGrew a c
codes_on a b c p q = record {
  rows = rows_on a.rows b.rows c.rows p.rows q.rows;
  types = longer_on a.types.items b.types.items c.types.items p.types q.types;
  rooms = longer_on a.rooms.items b.rooms.items c.rooms.items p.rooms q.rooms;
  points = longer_on (program_of a).points (program_of b).points (program_of c).points p.points q.points;
  subs = longer_on (program_of a).subs (program_of b).subs (program_of c).subs p.subs q.subs;
  main = q.main ∙ p.main;
}

pub all_at : {A : Type 0} (p : A → Bool) (xs : List A) (i : ℕ) (d x : A) → x ≡ get_or xs i d → i < length xs → IsTrue (list_all p xs)
    → IsTrue (p x)
all_at p [] i d x e lt all = absurd (omega (arith, lt))
all_at p (y ∷ ys) zero d x e lt all = subst (λ z. IsTrue (p z)) (sym e) (and_first (p y) (list_all p ys) all)
all_at p (y ∷ ys) (suc i) d x e lt all =
    all_at p ys i d x e (grind (arith, common_steps, lt)) (and_second (p y) (list_all p ys) all)

pub whole_points : (c : Codes) → IsWhole c → IsTrue (list_all (is_point_there c) c.points.items)
whole_points c whole =
    and_first (list_all (is_point_there c) c.points.items) (list_all (is_sub_there c) c.subs.items)
    (and_second (are_sound c.rows) (are_all_there c) whole)

pub whole_sound : (c : Codes) → IsWhole c → AreSound c.rows
whole_sound c whole = and_first (are_sound c.rows) (are_all_there c) whole

-- A program whose types or rooms are more, and nothing else.
module _ (a b : Codes) (whole : IsWhole a) (rows : b.rows ≡ a.rows) (types : Longer a.types.items b.types.items)
    (rooms : Longer a.rooms.items b.rooms.items) (points : b.points ≡ a.points) (subs : b.subs ≡ a.subs) (main : b.main ≡ a.main) where
  rows_same : RowsGrew a.rows b.rows
  rows_same = subst (λ r. RowsGrew a.rows r) (sym rows) (rows_none a.rows)

  pub wider_grew : CodesGrew a b
  wider_grew =
      codes_grew a b whole rows_same types rooms
      (subst (λ xs. Longer a.points.items xs.items) (sym points) (longer_none a.points.items))
      (subst (λ xs. Longer a.subs.items xs.items) (sym subs) (longer_none a.subs.items)) main

  pub wider_whole : IsWhole b
  wider_whole =
      whole_of b (subst (λ r. AreSound r) (sym rows) (whole_sound a whole))
      (subst (λ xs. IsTrue (list_all (is_point_there b) xs.items)) (sym points) (all_points a b whole rows_same types rooms))
      (subst (λ xs. IsTrue (list_all (is_sub_there b) xs.items)) (sym subs) (all_subs a b whole rows_same types rooms))

  pub wider_points : (program_of b).points ≡ (program_of a).points
  wider_points = ap (λ xs. map (point_of b) xs.items) points ∙ points_kept a b whole rows_same types rooms

  pub wider_subs : (program_of b).subs ≡ (program_of a).subs
  wider_subs = ap (λ xs. map (sub_of b) xs.items) subs ∙ subs_kept a b whole rows_same types rooms

  pub wider_program : program_of b ≡ program_of a
  wider_program =
      ap (λ xs. record { points = xs; subs = (program_of b).subs; main = b.main }) wider_points
      ∙ ap (λ xs. record { points = (program_of a).points; subs = xs; main = b.main }) wider_subs
      ∙ ap (λ n. record { points = (program_of a).points; subs = (program_of a).subs; main = n }) main

pub codes_none : (a : Codes) → CodesGrew a a
codes_none a = record {
  rows = rows_none a.rows;
  types = longer_none a.types.items;
  rooms = longer_none a.rooms.items;
  points = longer_none (program_of a).points;
  subs = longer_none (program_of a).subs;
  main = refl;
}

-- A program whose rows are more.
pub whole_rows : (c : Codes) (rows : Rows) → IsWhole c → RowsGrew c.rows rows → AreSound rows → IsWhole (record c { rows = rows })
whole_rows c rows whole g sound =
    let d : Codes = record c { rows = rows } in
    whole_of d sound (all_points c d whole g (longer_none c.types.items) (longer_none c.rooms.items))
    (all_subs c d whole g (longer_none c.types.items) (longer_none c.rooms.items))

pub grew_rows : (c : Codes) (rows : Rows) → IsWhole c → RowsGrew c.rows rows → CodesGrew c (record c { rows = rows })
grew_rows c rows whole g =
    codes_grew c (record c { rows = rows }) whole g (longer_none c.types.items) (longer_none c.rooms.items)
    (longer_none c.points.items) (longer_none c.subs.items) refl
