-- Both turns over the code of a unit, side by side: the table of the second one stays like the table that is known
-- after the first one.
use Rattle.std.proofs.Common.{◌≡◌, ◌⊎◌, inl, inr, ℕ, ◌<◌, ◌≤◌, Bool, true, false, not, ◌||◌, List, ◌∷◌, set, length, refl, sym, ap, ◌∙◌, arith, subst, Option, Some, None, ℤ, true≢false, if◌then◌else◌}
use Rattle.std.specs.Prelude.{slice_get}
use Rattle.std.proofs.lemmas.Bool.{cases_eq}
use Rattle.machine.specs.spark_base.declared.position.Pos.{Pos}
use Rattle.machine.specs.spark_base.Lists.{Has}
use Rattle.machine.specs.resolved_tree.declared.node.Mark.{Mark}
use Rattle.machine.specs.resolved_tree.Trees.{More, Code, Anonymous, Incomplete, Private, TypeDecl, Subtype, ConstrainedSubtype, Objects, Numbers, Instance, Front, SubDecl, SubBody, Package, PackageBody, If, Branch, Case, When, Loop, While, For, Block}
use Rattle.machine.specs.type_definitions.declared.table.InitialValue.{InitialValue}
use Rattle.machine.specs.type_definitions.declared.table.Info.{Info}
use Rattle.machine.specs.type_definitions.declared.table.Known.{Known}
use Rattle.machine.specs.type_definitions.declared.table.Entry.{Entry}
use Rattle.machine.specs.type_definitions.declared.table.Entry.TheVariants as entry
use Rattle.machine.specs.type_definitions.declared.table.Kind.TheVariants as kind
use Rattle.machine.specs.type_definitions.declared.table.Shape.{Shape}
use Rattle.machine.specs.type_definitions.declared.table.Shape.TheVariants as shape
use Rattle.machine.specs.type_definitions.declared.judgement.View.{View}
use Rattle.machine.specs.type_definitions.declared.judgement.View.TheVariants as view
use Rattle.machine.specs.type_definitions.Types.{Table, info, base, base_found, meant_type, meant_type_found, full}
use Rattle.machine.specs.type_definitions.Entries.{entry_of, is_type, marked, type_of_mark, type_of_entry}
use Rattle.machine.specs.type_definitions.Names.{Context}
use Rattle.machine.specs.type_definitions.Gathered.{gather, awaited_info, full_info, subtype_info, meant_by, constrained_shape, bound_pair, is_asked, are_static_bounds, constant_value, initial_value, instance_type, each, own_info, with_object, with_entry, with_type, with_indication, with_formal, with_formal_group, with_formals, with_result, with_front, with_body_front, profile, is_subprogram, front_number, plain_object, parameter_type, declared_number, declared_pos, defined}
use Rattle.machine.specs.type_definitions.Whole.{predefined_types}
use Rattle.settled_types.proofs.Cases.{each_end, formals_end, front_end, group_end, indication_end, on_access, on_front, on_group, on_more, result_end}
use Rattle.settled_types.specs.Wholes.{written}
use Rattle.settled_types.specs.Orderly.{Past, with_defined, definition_marks, past_after, IsNew, NewOne, AllNew, NewGroup, NewFormals, NewFront, Orderly}
use Rattle.settled_types.specs.Stamped.{IsType, IsFixed, AreRows}
use Rattle.settled_types.proofs.Rows.{slice_in}
use Rattle.settled_types.proofs.Gathered.{without_it}
use Rattle.settled_types.proofs.Main.{find}
use Rattle.settled_types.proofs.GatheredLaws.DefinedKinds.{definition_table}
use Rattle.settled_types.proofs.GatheredLaws.Plain.{numbers_table}
use Rattle.settled_types.proofs.GatheredLaws.Put.{base_at, base_off}
use Rattle.settled_types.proofs.GatheredLaws.Nodes as nodes
use Rattle.settled_types.proofs.GatheredLaws.Nodes.{Node}
use Rattle.settled_types.specs.SteadyTypes.Alike.{outline, outlined, AreAlike}
use Rattle.settled_types.specs.SteadyTypes.Flat.{IsFlat}
use Rattle.settled_types.specs.SteadyTypes.Steady.{in_body, in_loop, IsSteady}
use Rattle.settled_types.specs.SteadyTypes.Kept.{IsKeptAt, AreKeptAt, AreKeptNames, IsKeptGroup, AreKeptGroups, IsKeptResult, IsKeptFront, AreKeptFormals, IsKeptBodyAs, IsKeptBody, IsKept}
use Rattle.settled_types.proofs.SteadyTypes.Moves.{Like, Moves, stay, put, type_put, definition_moves, indication_moves, object_moves, numbers_move, formal_moves, subprogram_same, mark_same, defined_same}
use Rattle.settled_types.proofs.SteadyTypes.Rows.{set_row, seen_found, info_seen, meant_found, meant_own, base_alike, meant_alike, seen_alike, row_of, by_parts, rebuilt}

slice_off : {A : Type 0} (xs : List A) (d t : ℕ) (x : A) → (t ≡ d → ⊥) → slice_get (set xs d x) t ≡ slice_get xs t
slice_off xs d t x other = set_row xs d t x (λ o. o ≡ slice_get xs t) (λ same. absurd (other same)) refl

-- What is completed later is based on itself.
abbrev pub Own : Past → Table → Type 0
Own p table = (t : ℕ) → Has p.awaited t → base table t ≡ t

bounds_outline : (v : View) (b : ℤ × ℤ) → outline (constrained_shape v b) ≡ outline (shape.Whole b.0 b.1)
bounds_outline (view.Whole low high) b = refl
bounds_outline (view.Listed low high) b = refl
bounds_outline v b = refl

-- `T` is the table after the first turn.
module _ (final : Known) (count : ℕ) (all : List ℕ) (start : Table)
    (unlike : (d of : ℕ) → 15 ≤ d → Has all d → written start d ≡ shape.Same of → ⊥)
    (T : Table) (first : (t : ℕ) → t < 5 → slice_get T t ≡ slice_get (predefined_types false) t) where
  abbrev pub At : Code → Past → Context → Type 0
  At = Node final count all start unlike

  -- What that table says of the types that are declared so far in the first turn.
  pub record Until (p : Past) (table : Table) : Type 0 where
    pub fixed : (t : ℕ) → IsFixed p t → slice_get T t ≡ slice_get table t
    pub own : (t : ℕ) → Has p.awaited t → base T t ≡ t
    pub seen : (t : ℕ) → Has p.awaited t → seen_found (slice_get T t) ≡ seen_found (slice_get table t)
    pub no_name : (t of : ℕ) → Has p.awaited t → written T t ≡ shape.Same of → ⊥

  -- A part of the text in both turns, and what is said of it.
  pub record Step (p : Past) (one two : Context) (q : Past) (more_one more_two : Context) (Said : Type 0) : Type 0 where
    pub own : Own q more_one.known.table
    pub awaits : (t : ℕ) → Has p.awaited t → Has q.awaited t
    pub fixes : (t : ℕ) → IsFixed p t → IsFixed q t
    pub stays : (t : ℕ) → IsFixed p t → slice_get more_one.known.table t ≡ slice_get one.known.table t
    pub seen : (t : ℕ) → Has p.awaited t → seen_found (slice_get more_one.known.table t) ≡ seen_found (slice_get one.known.table t)
    pub like : Like more_one more_two
    pub within : more_two.within ≡ two.within
    pub alike : Until q more_one.known.table → AreAlike T two.known.table → AreAlike T more_two.known.table × Said

  earlier : (p q : Past) (old new : Table) → ((t : ℕ) → Has p.awaited t → Has q.awaited t) → ((t : ℕ) → IsFixed p t → IsFixed q t)
      → ((t : ℕ) → IsFixed p t → slice_get new t ≡ slice_get old t) → ((t : ℕ) → Has p.awaited t → seen_found (slice_get new t) ≡ seen_found (slice_get old t))
      → Until q new → Until p old
  earlier p q old new awaits fixes stays seen until = record {
    fixed = λ t is. until.fixed t (fixes t is) ∙ stays t is;
    own = λ t is. until.own t (awaits t is);
    seen = λ t is. until.seen t (awaits t is) ∙ seen t is;
    no_name = λ t of is. until.no_name t of (awaits t is);
  }

  pub before : (p : Past) (one two : Context) (q : Past) (more_one more_two : Context) (S : Type 0) → Step p one two q more_one more_two S
      → Until q more_one.known.table → Until p one.known.table
  before p one two q more_one more_two S s = earlier p q one.known.table more_one.known.table s.awaits s.fixes s.stays s.seen

  pub both : (p : Past) (a b : Context) (q : Past) (c d : Context) (r : Past) (e f : Context) (S U : Type 0)
      → Step p a b q c d S → Step q c d r e f U → Step p a b r e f (S × U)
  both p a b q c d r e f S U s u = record {
    own = u.own;
    awaits = λ t is. u.awaits t (s.awaits t is);
    fixes = λ t is. u.fixes t (s.fixes t is);
    stays = λ t is. u.stays t (s.fixes t is) ∙ s.stays t is;
    seen = λ t is. u.seen t (s.awaits t is) ∙ s.seen t is;
    like = u.like;
    within = u.within ∙ s.within;
    alike = λ until alike.
        let x = s.alike (before q c d r e f U u until) alike in
        let y = u.alike until x.0 in
        (y.0, (x.1, y.1));
  }

  -- ---- where no row is put

  quiet : (p : Past) (one two more_one more_two : Context) → Own p one.known.table → Like one two → Moves one two more_one more_two
      → more_one.known.table ≡ one.known.table → more_two.known.table ≡ two.known.table → Step p one two p more_one more_two (Unit {0})
  quiet p one two more_one more_two own like moves same_one same_two = record {
    own = subst (Own p) (sym same_one) own;
    awaits = λ t is. is;
    fixes = λ t is. is;
    stays = λ t is. ap (λ (table : Table). slice_get table t) same_one;
    seen = λ t is. ap (λ (table : Table). seen_found (slice_get table t)) same_one;
    like = moves.like like;
    within = moves.within;
    alike = λ until alike. (subst (AreAlike T) (sym same_two) alike, tt);
  }

  -- ---- where a row is put

  one_row : (code : Code) (p : Past) (one two : Context) (n : ℕ) (i j : Info) → At code p one → Own p one.known.table → Like one two
      → Moves one two (gather code one) (gather code two) → n < length one.known.table
      → (gather code one).known.table ≡ set one.known.table n i → (gather code two).known.table ≡ set two.known.table n j
      → ((t : ℕ) → Has p.awaited t → Has (past_after code p).awaited t) → ((t : ℕ) → Has (past_after code p).awaited t → (t ≡ n) ⊎ Has p.awaited t)
      → (Has (past_after code p).awaited n → i.base ≡ n) → (Has p.awaited n → i.seen_in ≡ seen_found (slice_get one.known.table n))
      → (Until (past_after code p) (set one.known.table n i) → Until p one.known.table → AreAlike T two.known.table → outlined (slice_get T n) ≡ outlined (Some j))
      → Step p one two (past_after code p) (gather code one) (gather code two) (Unit {0})
  one_row code p one two n i j node own like moves less same_one same_two awaits was based seen_same fits = record {
    own = subst (Own (past_after code p)) (sym same_one) own_after;
    awaits = awaits;
    fixes = fixes;
    stays = stays;
    seen = seen;
    like = moves.like like;
    within = moves.within;
    alike = λ until alike. (
      subst (AreAlike T) (sym same_two)
          (λ t. set_row two.known.table n t j (λ o. outlined (slice_get T t) ≡ outlined o)
          (λ same. ap (λ u. outlined (slice_get T u)) same
          ∙ fits (subst (Until (past_after code p)) same_one until) (earlier p (past_after code p) one.known.table (gather code one).known.table awaits fixes stays seen until) alike) (alike t)),
      tt,
    );
  }
    where
      own_after : Own (past_after code p) (set one.known.table n i)
      own_after t has = elim (cases_eq t n) [
        | inl same ↦ ap (base (set one.known.table n i)) same ∙ (base_at one.known.table n i less ∙ (based (subst (Has (past_after code p).awaited) same has) ∙ sym same))
        | inr other ↦ base_off one.known.table n i t other ∙ own t (elim (was t has) [ inl same ↦ absurd (other same) | inr old ↦ old ])
      ]

      fixes : (t : ℕ) → IsFixed p t → IsFixed (past_after code p) t
      fixes t is = nodes.fixes final count all start unlike code p one node t is

      stays : (t : ℕ) → IsFixed p t → slice_get (gather code one).known.table t ≡ slice_get one.known.table t
      stays t is = nodes.stays final count all start unlike code p one node t is

      seen : (t : ℕ) → Has p.awaited t → seen_found (slice_get (gather code one).known.table t) ≡ seen_found (slice_get one.known.table t)
      seen t has = ap (λ (table : Table). seen_found (slice_get table t)) same_one
          ∙ set_row one.known.table n t i (λ o. seen_found o ≡ seen_found (slice_get one.known.table t))
          (λ same. seen_same (subst (Has p.awaited) same has) ∙ ap (λ u. seen_found (slice_get one.known.table u)) (sym same)) refl

  -- ---- the type that a subtype is of

  marked_type : (p : Past) (known : Known) (m : Mark) → AreRows count start p known → IsType p (marked known m)
  marked_type p known m rows = of_mark m.decl
    where
      of_entry : (d : ℕ) (x : Entry) → entry_of known d ≡ x → IsType p (type_of_entry d x)
      of_entry d entry.Type is = rows.types d (ap is_type is)
      of_entry d x is = inl (omega arith)

      of_mark : (o : Option ℕ) → IsType p (type_of_mark known o)
      of_mark None = inl (omega arith)
      of_mark (Some d) = of_entry d (entry_of known d) refl

  abbrev IsSettled : Table → ℕ → Type 0
  IsSettled table t = (base T t ≡ base table t) × (meant_type T t ≡ meant_type table t)

  row_settled : (table : Table) (t : ℕ) → slice_get T t ≡ slice_get table t → IsSettled table t
  row_settled table t same = (ap base_found same, ap (meant_type_found t) same)

  settled : (p : Past) (known : Known) (t : ℕ) → AreRows count start p known → Own p known.table → Until p known.table → IsType p t → IsSettled known.table t
  settled p known t rows own until (inl low) = row_settled known.table t (first t low ∙ sym (rows.predefined t low))
  settled p known t rows own until (inr is) = elim (find p.awaited t) [
    | inl waits ↦ (
      until.own t waits ∙ sym (own t waits),
      meant_own t (slice_get T t) (λ of. until.no_name t of waits) ∙ sym (meant_own t (slice_get known.table t) (λ of. rows.awaited t of waits)),
    )
    | inr none ↦ elim is [
      | inl waits ↦ absurd (none waits)
      | inr defined ↦ row_settled known.table t (until.fixed t (defined, (λ hidden. none (rows.private t hidden).0), (λ late. none (rows.incomplete t late).0)))
    ]
  ]

  -- what both turns say of it
  parent : (p : Past) (one two : Context) (m : Mark) → AreRows count start p one.known → Own p one.known.table → Like one two → Until p one.known.table → AreAlike T two.known.table
      → (base one.known.table (marked one.known m) ≡ base two.known.table (marked two.known m))
      × (meant_type one.known.table (marked one.known m) ≡ meant_type two.known.table (marked two.known m))
  parent p one two m rows own like until alike =
      let t : ℕ = marked one.known m in
      let s = settled p one.known t rows own until (marked_type p one.known m rows) in (
        sym s.0 ∙ (base_alike T two.known.table alike t ∙ ap (base two.known.table) (mark_same one two m like)),
        sym s.1 ∙ (meant_alike T two.known.table alike t ∙ ap (meant_type two.known.table) (mark_same one two m like)),
      )

  -- ---- declarations of types

  incomplete_step : (d : Code) (p : Past) (one two : Context) → At (Incomplete d) p one → Own p one.known.table → Like one two
      → Step p one two (past_after (Incomplete d) p) (gather (Incomplete d) one) (gather (Incomplete d) two) (Unit {0})
  unfolding gather past_after Orderly
  incomplete_step d p one two node own like =
      let n : ℕ = declared_number d in
      let i : Info = record (awaited_info one n) { completed = Some (declared_pos d) } in
      let j : Info = record (awaited_info two n) { completed = Some (declared_pos d) } in
      let new = node.orderly in
      let high = new.0 in
      let inside = new.1 in
      let long = node.rows.long in
      let less : n < length one.known.table = omega (arith, inside, long) in
      one_row (Incomplete d) p one two n i j node own like (type_put n i j one two) less refl refl (λ t is. inr is)
      (λ t is. elim is [ inl same ↦ inl (sym same) | inr was ↦ inr was ]) (λ is. refl) (λ is. absurd (new.2 is))
      (λ until old alike.
      rebuilt (slice_get T n) (slice_get two.known.table n) n None (alike n) (until.own n (inl refl))
      (until.seen n (inl refl) ∙ ap seen_found (slice_in one.known.table n i less)) (omega (arith, high)))

  private_step : (d : Code) (p : Past) (one two : Context) → At (Private d) p one → Own p one.known.table → Like one two
      → Step p one two (past_after (Private d) p) (gather (Private d) one) (gather (Private d) two) (Unit {0})
  unfolding gather past_after Orderly
  private_step d p one two node own like =
      let n : ℕ = declared_number d in
      let i : Info = record (awaited_info one n) { seen_in = one.home } in
      let j : Info = record (awaited_info two n) { seen_in = two.home } in
      let new = node.orderly in
      let high = new.0 in
      let inside = new.1 in
      let long = node.rows.long in
      let less : n < length one.known.table = omega (arith, inside, long) in
      one_row (Private d) p one two n i j node own like (type_put n i j one two) less refl refl (λ t is. inr is)
      (λ t is. elim is [ inl same ↦ inl (sym same) | inr was ↦ inr was ]) (λ is. refl) (λ is. absurd (new.2 is))
      (λ until old alike.
      rebuilt (slice_get T n) (slice_get two.known.table n) n two.home (alike n) (until.own n (inl refl))
      (until.seen n (inl refl) ∙ (ap seen_found (slice_in one.known.table n i less) ∙ like.home)) (omega (arith, high)))

  full_step : (d def : Code) (end : Pos) (p : Past) (one two : Context) → At (TypeDecl d def end) p one → Own p one.known.table → Like one two
      → Step p one two (past_after (TypeDecl d def end) p) (gather (TypeDecl d def end) one) (gather (TypeDecl d def end) two) (Unit {0})
  unfolding gather past_after Orderly
  full_step d def end p one two node own like =
      let n : ℕ = declared_number d in
      let i : Info = full_info one n def end in
      let j : Info = full_info two n def end in
      let inside = node.orderly.0.1 in
      let long = node.rows.long in
      let less : n < length one.known.table = omega (arith, inside, long) in
      let now : IsFixed (with_defined n (definition_marks def p.marks) p) n
      = (inl refl, (λ is. (without_it final count all start unlike n n p.private is).1 refl), (λ is. (without_it final count all start unlike n n p.incomplete is).1 refl)) in
      one_row (TypeDecl d def end) p one two n i j node own like
      (definition_moves n def one two (with_type n i one) (with_type n j two) (type_put n i j one two)) less
      (definition_table n def (with_type n i one)) (definition_table n def (with_type n j two)) (λ t is. is) (λ t is. inr is) (λ is. refl)
      (λ is. info_seen (slice_get one.known.table n))
      (λ until old alike.
      let row : slice_get T n ≡ Some i = until.fixed n now ∙ slice_in one.known.table n i less in
      ap outlined row
      ∙ by_parts (outline (defined one def)) (outline (defined two def)) n n (info one.known.table n).seen_in (info two.known.table n).seen_in
      (defined_same one two def like) refl
      (sym (ap seen_found row) ∙ (seen_alike T two.known.table alike n ∙ sym (info_seen (slice_get two.known.table n)))))

  renamed_step : (d : Code) (m : Mark) (p : Past) (one two : Context) → At (Subtype d m) p one → Own p one.known.table → Like one two
      → Step p one two (past_after (Subtype d m) p) (gather (Subtype d m) one) (gather (Subtype d m) two) (Unit {0})
  unfolding gather past_after Orderly
  renamed_step d m p one two node own like =
      let n : ℕ = declared_number d in
      let t : ℕ = marked one.known m in
      let u : ℕ = marked two.known m in
      let s : Shape = shape.Same (meant_by (info one.known.table t).shape t) in
      let z : Shape = shape.Same (meant_by (info two.known.table u).shape u) in
      let i : Info = subtype_info one.known t s true in
      let j : Info = subtype_info two.known u z true in
      let new = node.orderly in
      let inside = new.1 in
      let long = node.rows.long in
      let less : n < length one.known.table = omega (arith, inside, long) in
      let now : IsFixed (with_defined n (m.pos ∷ p.marks) p) n
      = (inl refl, (λ is. (without_it final count all start unlike n n p.private is).1 refl), (λ is. (without_it final count all start unlike n n p.incomplete is).1 refl)) in
      one_row (Subtype d m) p one two n i j node own like (type_put n i j one two) less refl refl (λ t is. is) (λ t is. inr is)
      (λ is. absurd (new.2 is)) (λ is. absurd (new.2 is))
      (λ until old alike.
      let row : slice_get T n ≡ Some i = until.fixed n now ∙ slice_in one.known.table n i less in
      let same = parent p one two m node.rows own like old alike in
      ap outlined row
      ∙ by_parts s z (base one.known.table t) (base two.known.table u) None None
      (ap shape.Same (meant_found t (slice_get one.known.table t) ∙ (same.1 ∙ sym (meant_found u (slice_get two.known.table u))))) same.0 refl)

  bounded_step : (d : Code) (m : Mark) (low high : _) (p : Past) (one two : Context) → At (ConstrainedSubtype d m low high) p one → Own p one.known.table → Like one two
      → Step p one two (past_after (ConstrainedSubtype d m low high) p) (gather (ConstrainedSubtype d m low high) one) (gather (ConstrainedSubtype d m low high) two) (Unit {0})
  unfolding gather past_after Orderly
  bounded_step d m low high p one two node own like =
      let n : ℕ = declared_number d in
      let t : ℕ = marked one.known m in
      let u : ℕ = marked two.known m in
      let bs : ℤ × ℤ = bound_pair one (base one.known.table t) low high in
      let cs : ℤ × ℤ = bound_pair two (base two.known.table u) low high in
      let s : Shape = constrained_shape (full one.known.table t) bs in
      let z : Shape = constrained_shape (full two.known.table u) cs in
      let i : Info = subtype_info one.known t s (not (is_asked one) || are_static_bounds one (base one.known.table t) low high) in
      let j : Info = subtype_info two.known u z (not (is_asked two) || are_static_bounds two (base two.known.table u) low high) in
      let new = node.orderly in
      let inside = new.1 in
      let long = node.rows.long in
      let less : n < length one.known.table = omega (arith, inside, long) in
      let now : IsFixed (with_defined n (m.pos ∷ p.marks) p) n
      = (inl refl, (λ is. (without_it final count all start unlike n n p.private is).1 refl), (λ is. (without_it final count all start unlike n n p.incomplete is).1 refl)) in
      one_row (ConstrainedSubtype d m low high) p one two n i j node own like (type_put n i j one two) less refl refl (λ t is. is) (λ t is. inr is)
      (λ is. absurd (new.2 is)) (λ is. absurd (new.2 is))
      (λ until old alike.
      let row : slice_get T n ≡ Some i = until.fixed n now ∙ slice_in one.known.table n i less in
      let same = parent p one two m node.rows own like old alike in
      ap outlined row
      ∙ by_parts (outline s) (outline z) (base one.known.table t) (base two.known.table u) None None
      (bounds_outline (full one.known.table t) bs ∙ sym (bounds_outline (full two.known.table u) cs)) same.0 refl)

  -- ---- objects

  other_type : (p : Past) (d t : ℕ) → (Has p.awaited d → ⊥) → Has p.awaited t → t ≡ d → ⊥
  other_type p d t new has same = new (subst (Has p.awaited) same has)

  -- the row of an anonymous access type, in both turns
  view_step : (n to from : ℕ) (constant : Bool) (p : Past) (one two more_one more_two : Context) → (Has p.awaited n → ⊥) → (Has p.defined n → ⊥) → Own p one.known.table
      → Like one two → Moves one two more_one more_two → more_one.known.table ≡ set one.known.table n (own_info (shape.Access to constant false) n)
      → more_two.known.table ≡ set two.known.table n (own_info (shape.Access from constant false) n)
      → outlined (slice_get T n) ≡ outlined (Some (own_info (shape.Access from constant false) n)) → Step p one two p more_one more_two (Unit {0})
  view_step n to from constant p one two more_one more_two unwaited undefined own like moves same_one same_two kept =
      let i : Info = own_info (shape.Access to constant false) n in
      let j : Info = own_info (shape.Access from constant false) n in record {
        own = subst (Own p) (sym same_one) (λ t is. base_off one.known.table n i t (other_type p n t unwaited is) ∙ own t is);
        awaits = λ t is. is;
        fixes = λ t is. is;
        stays = λ t is. ap (λ (table : Table). slice_get table t) same_one ∙ slice_off one.known.table n t i (λ same. undefined (subst (Has p.defined) same is.0));
        seen = λ t is. ap (λ (table : Table). seen_found (slice_get table t)) same_one ∙ ap seen_found (slice_off one.known.table n t i (other_type p n t unwaited is));
        like = moves.like like;
        within = moves.within;
        alike = λ until alike. (
          subst (AreAlike T) (sym same_two)
              (λ t. set_row two.known.table n t j (λ o. outlined (slice_get T t) ≡ outlined o) (λ same. ap (λ u. outlined (slice_get T u)) same ∙ kept) (alike t)),
          tt,
        );
      }

  object_step : (constant : Bool) (i : Code) (v w : InitialValue) (d : Code) (p : Past) (one two : Context) → NewOne count d p → Own p one.known.table → Like one two
      → IsKeptAt T (declared_number d) i one → Step p one two p (with_object constant i v d one) (with_object constant i w d two) (Unit {0})
  object_step constant (Anonymous at b m) v w d p one two new own like kept =
      view_step (declared_number d) (marked one.known m) (marked two.known m) b p one two (with_object constant (Anonymous at b m) v d one)
      (with_object constant (Anonymous at b m) w d two) new.2 new.3 own like (object_moves constant (Anonymous at b m) v w d one two) refl refl
      (kept ∙ ap (λ t. row_of (shape.Access t b false) (declared_number d) None) (mark_same one two m like))
  object_step constant i v w d p one two new own like kept =
      quiet p one two (with_object constant i v d one) (with_object constant i w d two) own like (object_moves constant i v w d one two) refl refl

  -- one step after the other, where nothing is said
  and_step : (p : Past) (a b c d e f : Context) → Step p a b p c d (Unit {0}) → Step p c d p e f (Unit {0}) → Step p a b p e f (Unit {0})
  and_step p a b c d e f s u = record {
    own = u.own;
    awaits = λ t is. is;
    fixes = λ t is. is;
    stays = λ t is. u.stays t is ∙ s.stays t is;
    seen = λ t is. u.seen t is ∙ s.seen t is;
    like = u.like;
    within = u.within ∙ s.within;
    alike = λ until alike. u.alike until (s.alike (before p c d p e f (Unit {0}) u until) alike).0;
  }

  stay_step : (p : Past) (one two : Context) → Own p one.known.table → Like one two → Step p one two p one two (Unit {0})
  stay_step p one two own like = quiet p one two one two own like (stay one two) refl refl

  objects_step : (constant : Bool) (i : Code) (v w : InitialValue) (ids : Code) (p : Past) (one two : Context) → AllNew count ids p → Own p one.known.table → Like one two
      → AreKeptAt T constant i v ids one → Step p one two p (each (with_object constant i v) ids one) (each (with_object constant i w) ids two) (Unit {0})
  objects_step constant i v w = on_more (λ ids. (p : Past) → (one : Context) → (two : Context) → AllNew count ids p → Own p one.known.table → Like one two → AreKeptAt T constant i v ids one → Step p one two p (each (with_object constant i v) ids one) (each (with_object constant i w) ids two) (Unit {0}))
      (λ d rest next p one two new own like kept.
      let a : Context = with_object constant i v d one in
      let b : Context = with_object constant i w d two in
      let s = object_step constant i v w d p one two new.0 own like kept.0 in
      and_step p one two a b (each (with_object constant i v) rest a) (each (with_object constant i w) rest b) s
      (next p a b new.1 s.own s.like kept.1))
      (λ ids other p one two new own like kept. rw (each_end (with_object constant i v) ids one other) rw (each_end (with_object constant i w) ids two other) (stay_step p one two own like))

  -- ---- fronts

  formal_step : (of d : Code) (p : Past) (one two : Context) → NewOne count d p → Own p one.known.table → Like one two → IsKeptAt T (declared_number d) of one
      → Step p one two p (with_formal of d one) (with_formal of d two) (Unit {0})
  formal_step (Anonymous at b m) d p one two new own like kept =
      view_step (declared_number d) (marked one.known m) (marked two.known m) b p one two (with_formal (Anonymous at b m) d one) (with_formal (Anonymous at b m) d two)
      new.2 new.3 own like (formal_moves (Anonymous at b m) d one two) refl refl
      (kept ∙ ap (λ t. row_of (shape.Access t b false) (declared_number d) None) (mark_same one two m like))
  formal_step of d p one two new own like kept =
      quiet p one two (with_formal of d one) (with_formal of d two) own like (formal_moves of d one two) refl refl

  names_step : (of names : Code) (p : Past) (one two : Context) → AllNew count names p → Own p one.known.table → Like one two → AreKeptNames T of names one
      → Step p one two p (each (with_formal of) names one) (each (with_formal of) names two) (Unit {0})
  names_step of = on_more (λ names. (p : Past) → (one : Context) → (two : Context) → AllNew count names p → Own p one.known.table → Like one two → AreKeptNames T of names one → Step p one two p (each (with_formal of) names one) (each (with_formal of) names two) (Unit {0}))
      (λ d rest next p one two new own like kept.
      let a : Context = with_formal of d one in
      let b : Context = with_formal of d two in
      let s = formal_step of d p one two new.0 own like kept.0 in
      and_step p one two a b (each (with_formal of) rest a) (each (with_formal of) rest b) s (next p a b new.1 s.own s.like kept.1))
      (λ names other p one two new own like kept. rw (each_end (with_formal of) names one other) rw (each_end (with_formal of) names two other) (stay_step p one two own like))

  group_step : (group : Code) (p : Past) (one two : Context) → NewGroup count group p → Own p one.known.table → Like one two → IsKeptGroup T group one
      → Step p one two p (with_formal_group group one) (with_formal_group group two) (Unit {0})
  group_step = on_group (λ group. (p : Past) → (one : Context) → (two : Context) → NewGroup count group p → Own p one.known.table → Like one two → IsKeptGroup T group one → Step p one two p (with_formal_group group one) (with_formal_group group two) (Unit {0}))
      (λ names m of p one two new own like kept.
      names_step of names p one two new own like kept)
      (λ group other p one two new own like kept. rw (group_end group one other) rw (group_end group two other) (stay_step p one two own like))

  groups_step : (formals : Code) (p : Past) (one two : Context) → NewFormals count formals p → Own p one.known.table → Like one two → AreKeptGroups T formals one
      → Step p one two p (each with_formal_group formals one) (each with_formal_group formals two) (Unit {0})
  groups_step = on_more (λ formals. (p : Past) → (one : Context) → (two : Context) → NewFormals count formals p → Own p one.known.table → Like one two → AreKeptGroups T formals one → Step p one two p (each with_formal_group formals one) (each with_formal_group formals two) (Unit {0}))
      (λ group rest next p one two new own like kept.
      let a : Context = with_formal_group group one in
      let b : Context = with_formal_group group two in
      let s = group_step group p one two new.0 own like kept.0 in
      and_step p one two a b (each with_formal_group rest a) (each with_formal_group rest b) s (next p a b new.1 s.own s.like kept.1))
      (λ formals other p one two new own like kept. rw (each_end with_formal_group formals one other) rw (each_end with_formal_group formals two other) (stay_step p one two own like))

  indication_step : (d : ℕ) (i : Code) (p : Past) (one two : Context) → IsNew count d p → Own p one.known.table → Like one two → IsKeptAt T d i one
      → Step p one two p (with_indication d i one) (with_indication d i two) (Unit {0})
  indication_step d = on_access (λ i. (p : Past) → (one : Context) → (two : Context) → IsNew count d p → Own p one.known.table → Like one two → IsKeptAt T d i one → Step p one two p (with_indication d i one) (with_indication d i two) (Unit {0}))
      (λ at b m p one two new own like kept.
      view_step d (marked one.known m) (marked two.known m) b p one two (with_indication d (Anonymous at b m) one) (with_indication d (Anonymous at b m) two)
      new.2 new.3 own like (indication_moves d (Anonymous at b m) one two) refl refl
      (kept ∙ ap (λ t. row_of (shape.Access t b false) d None) (mark_same one two m like)))
      (λ i other p one two new own like kept. rw (indication_end d i one other) rw (indication_end d i two other) (stay_step p one two own like))

  result_step : (d : ℕ) (result : Code) (p : Past) (one two : Context) → IsNew count d p → Own p one.known.table → Like one two → IsKeptResult T d result one
      → Step p one two p (with_result d result one) (with_result d result two) (Unit {0})
  result_step d = on_more (λ result. (p : Past) → (one : Context) → (two : Context) → IsNew count d p → Own p one.known.table → Like one two → IsKeptResult T d result one → Step p one two p (with_result d result one) (with_result d result two) (Unit {0}))
      (λ i rest _ p one two new own like kept.
      indication_step d i p one two new own like kept)
      (λ result other p one two new own like kept. rw (result_end d result one other) rw (result_end d result two other) (stay_step p one two own like))

  front_step : (front : Code) (p : Past) (one two : Context) → NewFront count front p → Own p one.known.table → Like one two → IsKeptFront T front one
      → Step p one two p (with_front front one) (with_front front two) (Unit {0})
  front_step = on_front (λ front. (p : Past) → (one : Context) → (two : Context) → NewFront count front p → Own p one.known.table → Like one two → IsKeptFront T front one → Step p one two p (with_front front one) (with_front front two) (Unit {0}))
      (λ d formals result p one two new own like kept.
      let n : ℕ = declared_number d in
      let front : Code = Front d formals result in
      let a : Context = with_result n result one in
      let b : Context = with_result n result two in
      let e : Context = each with_formal_group formals a in
      let f : Context = each with_formal_group formals b in
      let s = result_step n result p one two new.0 own like kept.0 in
      let u = groups_step formals p a b new.1 s.own s.like kept.1 in
      let x : Entry = entry.Subprogram (profile e.known front) in
      let y : Entry = entry.Subprogram (profile f.known front) in
      and_step p one two e f (with_entry n x e) (with_entry n y f) (and_step p one two a b e f s u)
      (quiet p e f (with_entry n x e) (with_entry n y f) u.own u.like (put n x y e f refl) refl refl))
      (λ front other p one two new own like kept. rw (front_end front one other) rw (front_end front two other) (stay_step p one two own like))

  formals_step : (front : Code) (p : Past) (one two : Context) → NewFront count front p → Own p one.known.table → Like one two → AreKeptFormals T front one
      → Step p one two p (with_formals front one) (with_formals front two) (Unit {0})
  formals_step = on_front (λ front. (p : Past) → (one : Context) → (two : Context) → NewFront count front p → Own p one.known.table → Like one two → AreKeptFormals T front one → Step p one two p (with_formals front one) (with_formals front two) (Unit {0}))
      (λ d formals result p one two new own like kept.
      groups_step formals p one two new.1 own like kept)
      (λ front other p one two new own like kept. rw (formals_end front one other) rw (formals_end front two other) (stay_step p one two own like))

  body_step : (front : Code) (p : Past) (one two : Context) → NewFront count front p → Own p one.known.table → Like one two → IsKeptBody T front one
      → Step p one two p (with_body_front front one) (with_body_front front two) (Unit {0})
  body_step front p one two new own like kept =
      let n : ℕ = front_number front in
      by (is_subprogram (entry_of one.known n)) (is_subprogram (entry_of two.known n)) (subprogram_same n one two like) kept
    where
      by : (b q : Bool) → b ≡ q → IsKeptBodyAs b T front one
          → Step p one two p (if b then with_formals front one else with_front front one) (if q then with_formals front two else with_front front two) (Unit {0})
      by true true same kept = formals_step front p one two new own like kept
      by false false same kept = front_step front p one two new own like kept
      by true false same kept = absurd (true≢false same)
      by false true same kept = absurd (true≢false (sym same))

  -- ---- all of the code

  pub walk : (code : Code) (p : Past) (one two : Context) (home : Option ℕ) → At code p one → IsKept T code one → IsFlat code → Own p one.known.table → Like one two
      → two.within ≡ home → Step p one two (past_after code p) (gather code one) (gather code two) (IsSteady T home code two)
  unfolding gather past_after Orderly IsKept IsFlat IsSteady
  walk (Incomplete d) p one two home node kept flat own like at = incomplete_step d p one two node own like
  walk (Private d) p one two home node kept flat own like at = private_step d p one two node own like
  walk (TypeDecl d def end) p one two home node kept flat own like at = full_step d def end p one two node own like
  walk (Subtype d m) p one two home node kept flat own like at = renamed_step d m p one two node own like
  walk (ConstrainedSubtype d m low high) p one two home node kept flat own like at = bounded_step d m low high p one two node own like
  walk (Objects ids constant i v) p one two home node kept flat own like at =
      objects_step constant i (constant_value one constant v) (constant_value two constant v) ids p one two node.orderly own like kept
  walk (Numbers ids e) p one two home node kept flat own like at =
      let x = initial_value one e in
      let y = initial_value two e in
      quiet p one two (gather (Numbers ids e) one) (gather (Numbers ids e) two) own like (numbers_move x y ids one two) (numbers_table x ids one) (numbers_table y ids two)
  walk (Instance d m args) p one two home node kept flat own like at =
      let x : Entry = entry.Instance (instance_type args) in
      let n : ℕ = declared_number d in
      quiet p one two (with_entry n x one) (with_entry n x two) own like (put n x x one two refl) refl refl
  walk (SubDecl front) p one two home node kept flat own like at = front_step front p one two node.orderly own like kept
  walk (SubBody front items stmts end) p one two home node kept flat own like at =
      let a : Context = in_body front one in
      let b : Context = in_body front two in
      let s = body_step front p one two node.orderly.0 own like kept.0 in
      let inner : Like a b = record { home = s.like.home; entries = s.like.entries } in
      let nodes_two = nodes.body_node final count all start unlike front items stmts end p one node in
      let q : Past = past_after items p in
      let x = walk items p a b home nodes_two.first kept.1 flat.0 s.own inner (s.within ∙ at) in
      let y = walk stmts q (gather items a) (gather items b) home nodes_two.second kept.2 flat.1 x.own x.like (x.within ∙ (s.within ∙ at)) in
      let z = both p a b q (gather items a) (gather items b) (past_after stmts q) (gather stmts (gather items a)) (gather stmts (gather items b))
      (IsSteady T home items b) (IsSteady T home stmts (gather items b)) x y in
      record {
        own = z.own;
        awaits = z.awaits;
        fixes = z.fixes;
        stays = λ t is. z.stays t is ∙ s.stays t is;
        seen = λ t is. z.seen t is ∙ s.seen t is;
        like = record { home = z.like.home; entries = z.like.entries };
        within = z.within ∙ s.within;
        alike = λ until alike. z.alike until (s.alike (before p a b (past_after stmts q) (gather stmts (gather items a)) (gather stmts (gather items b))
            (IsSteady T home items b × IsSteady T home stmts (gather items b)) z until) alike).0;
      }
  walk (Package d visible hidden) p one two home node kept flat own like at = absurd flat
  walk (PackageBody d parts) p one two home node kept flat own like at = absurd flat
  walk (If pos x y) p one two home node kept flat own like at =
      let pieces = nodes.if_node final count all start unlike pos x y p one node in
      let q : Past = past_after x p in
      let s = walk x p one two home pieces.first kept.0 flat.0 own like at in
      both p one two q (gather x one) (gather x two) (past_after y q) (gather y (gather x one)) (gather y (gather x two))
      (IsSteady T home x two) (IsSteady T home y (gather x two)) s
      (walk y q (gather x one) (gather x two) home pieces.second kept.1 flat.1 s.own s.like (s.within ∙ at))
  walk (Branch pos e x) p one two home node kept flat own like at =
      walk x p one two home (nodes.branch_node final count all start unlike pos e x p one node) kept flat own like at
  walk (Case pos e x) p one two home node kept flat own like at =
      walk x p one two home (nodes.case_node final count all start unlike pos e x p one node) kept flat own like at
  walk (When choices x) p one two home node kept flat own like at =
      walk x p one two home (nodes.when_node final count all start unlike choices x p one node) kept flat own like at
  walk (Loop pos x) p one two home node kept flat own like at =
      walk x p one two home (nodes.loop_node final count all start unlike pos x p one node) kept flat own like at
  walk (While pos e x) p one two home node kept flat own like at =
      walk x p one two home (nodes.while_node final count all start unlike pos e x p one node) kept flat own like at
  walk (For pos d reversed range x) p one two home node kept flat own like at =
      let n : ℕ = declared_number d in
      let a : Context = in_loop d range one in
      let b : Context = in_loop d range two in
      let moves = put n (entry.Object (plain_object (parameter_type one range) kind.Parameter)) (entry.Object (plain_object (parameter_type two range) kind.Parameter)) one two refl in
      let s = walk x p a b home (nodes.for_node final count all start unlike pos d reversed range x p one node) kept flat own (moves.like like) at in
      record {
        own = s.own;
        awaits = s.awaits;
        fixes = s.fixes;
        stays = s.stays;
        seen = s.seen;
        like = s.like;
        within = s.within;
        alike = λ until alike. let y = s.alike until alike in (y.0, ((alike, at), y.1));
      }
  walk (Block pos x y end) p one two home node kept flat own like at =
      let pieces = nodes.block_node final count all start unlike pos end x y p one node in
      let q : Past = past_after x p in
      let s = walk x p one two home pieces.first kept.0 flat.0 own like at in
      both p one two q (gather x one) (gather x two) (past_after y q) (gather y (gather x one)) (gather y (gather x two))
      (IsSteady T home x two) (IsSteady T home y (gather x two)) s
      (walk y q (gather x one) (gather x two) home pieces.second kept.1 flat.1 s.own s.like (s.within ∙ at))
  walk (More x y) p one two home node kept flat own like at =
      let pieces = nodes.list_node final count all start unlike x y p one node in
      let q : Past = past_after x p in
      let s = walk x p one two home pieces.first kept.0 flat.0 own like at in
      both p one two q (gather x one) (gather x two) (past_after y q) (gather y (gather x one)) (gather y (gather x two))
      (IsSteady T home x two) (IsSteady T home y (gather x two)) s
      (walk y q (gather x one) (gather x two) home pieces.second kept.1 flat.1 s.own s.like (s.within ∙ at))
  walk code p one two home node kept flat own like at =
      stay_step p one two own like
