-- How the events of a text number what they declare, and that each subprogram has a body where no rule of names
-- is broken.
use Rattle.std.proofs.Common.{◌≡◌, ◌⊎◌, inl, inr, ℕ, suc, ◌≤◌, Bool, true, false, not, ◌||◌, List, [], ◌∷◌, ◌++◌, length, refl, sym, ap, ◌∙◌, arith, nat_eq, Option, Some, None, subst, true≢false, length-append, if◌then◌else◌}
use Rattle.std.specs.Prelude.{slice_get, is_some}
use Rattle.std.proofs.lemmas.List.Folds.{list_any-append}
use Rattle.std.proofs.lemmas.Option.{slice_get_within}
use Rattle.machine.specs.spark_base.Lists.{Has}
use Rattle.name_events.specs.declared.event.Event.{Event}
use Rattle.name_events.specs.declared.event.Event.TheVariants as e
use Rattle.name_events.specs.declared.event.FoldedIdentifier.{FoldedIdentifier}
use Rattle.name_events.specs.declared.declaration.DeclarationForm.{DeclarationForm}
use Rattle.name_events.specs.declared.declaration.DeclarationForm.TheVariants as form
use Rattle.name_events.specs.declared.declaration.NameRule.TheVariants.{Twice, NoBody}
use Rattle.name_events.specs.declared.declaration.RegionPart.{RegionPart}
use Rattle.name_events.specs.declared.declaration.Declaration.{Declaration}
use Rattle.name_events.specs.declared.declaration.Identified.{Identified}
use Rattle.name_events.specs.Declarations.{Entry, has_number, added_number, or_else}
use Rattle.name_events.specs.Known.{Known, part_here, source_package}
use Rattle.name_events.specs.Completions.{completed_by, completes_form, awaits}
use Rattle.name_events.specs.KnownBehind.{known_behind, known_behind_all, behind_declaration, new_entry, open_body}
use Rattle.name_events.specs.Denotes.{kind_of}
use Rattle.name_events.specs.Faults.{fault, first_fault, declaration_fault, is_second, is_incomplete, Fault}
use Rattle.name_events.specs.Identified.{completed_or_next}
use Rattle.settled_types.specs.OrderlyFiles.Numbered.{number_of_pos}
use Rattle.settled_types.proofs.OrderlyFiles.Steps.{get_kept, get_last, get_more, completion, completes_nothing}
use Rattle.sound_files.specs.MeantFiles.Declarations.{Declarations, declared_by}
use Rattle.sound_files.specs.MeantFiles.Followed.{AreFollowed}
use Rattle.sound_files.specs.MeantFiles.Counted.{is_completing, Counts, kind_found, kind_at}

-- ---- what is declared at an event

-- The number of each is its index, and none of the predefined ones is completed.
pub record AreListed (entries : List Entry) : Type 0 where
  pub indexed : (i : ℕ) (x : Entry) → slice_get entries i ≡ Some x → x.1.number ≡ i
  pub late : (i : ℕ) (x : Entry) → slice_get entries i ≡ Some x → awaits x.1.form ≡ true → 15 ≤ i
  pub many : 15 ≤ length entries

next_declared : (now : Known) (new : DeclarationForm) (id : FoldedIdentifier)
    → (behind_declaration now new id None).declared ≡ now.declared ++ new_entry now new id ∷ []
next_declared now form.Package id = refl
next_declared now new id = refl

one_listed : (now : Known) (new : DeclarationForm) (id : FoldedIdentifier) → AreListed now.declared → AreListed (now.declared ++ new_entry now new id ∷ [])
one_listed now new id are =
    let y : Entry = new_entry now new id in record {
      indexed = λ i x is. elim (get_more now.declared x y i is) [
        | inl was ↦ are.indexed i x was
        | inr last ↦ ap (λ (x : Entry). x.1.number) (sym last.1) ∙ sym last.0
      ];
      late = λ i x is waits. elim (get_more now.declared x y i is) [
        | inl was ↦ are.late i x was waits
        | inr last ↦ let a = are.many in let b = last.0 in omega (arith, a, b)
      ];
      many = let a = are.many in let b = length-append now.declared (y ∷ []) in omega (arith, a, b);
    }

next_listed : (now : Known) (new : DeclarationForm) (id : FoldedIdentifier) (o : Option Declaration) → AreListed now.declared
    → AreListed (behind_declaration now new id o).declared
next_listed now new id (Some d) are = are
next_listed now new id None are = subst AreListed (sym (next_declared now new id)) (one_listed now new id are)

listed_behind : (now : Known) (event : Event) → AreListed now.declared → AreListed (known_behind now event).declared
unfolding known_behind
listed_behind now (e.Declares new id) are = next_listed now new id (completed_by now new id.name) are
listed_behind now (e.PackageBodyOpens id) are = by (source_package now.ended id.name)
  where
    by : (o : Option Declaration) → AreListed (open_body now id o).declared
    by None = are
    by (Some d) = are
listed_behind now _ are = are

one_kept : (now : Known) (event : Event) (i : ℕ) (x : Entry) → slice_get now.declared i ≡ Some x → slice_get (known_behind now event).declared i ≡ Some x
unfolding known_behind
one_kept now (e.Declares new id) i x is = by (completed_by now new id.name)
  where
    by : (o : Option Declaration) → slice_get (behind_declaration now new id o).declared i ≡ Some x
    by None = subst (λ entries. slice_get entries i ≡ Some x) (sym (next_declared now new id)) (get_kept now.declared (new_entry now new id ∷ []) i x is)
    by (Some d) = is
one_kept now (e.PackageBodyOpens id) i x is = by (source_package now.ended id.name)
  where
    by : (o : Option Declaration) → slice_get (open_body now id o).declared i ≡ Some x
    by None = is
    by (Some d) = is
one_kept now _ i x is = is

all_kept : (events : List Event) (now : Known) (i : ℕ) (x : Entry) → slice_get now.declared i ≡ Some x → slice_get (known_behind_all now events).declared i ≡ Some x
all_kept [] now i x is = is
all_kept (event ∷ rest) now i x is = all_kept rest (known_behind now event) i x (one_kept now event i x is)

one_longer : (now : Known) (new : DeclarationForm) (id : FoldedIdentifier) → length (behind_declaration now new id None).declared ≡ suc (length now.declared)
one_longer now new id =
    let a = ap (λ (entries : List Entry). length entries) (next_declared now new id) in
    let b = length-append now.declared (new_entry now new id ∷ []) in omega (arith, a, b)

module _ (numbers : List Identified) where
  -- ---- numbers

  completing : (old new : DeclarationForm) (a b : RegionPart) → completes_form old a new b ≡ true → (is_completing new ≡ true) × (kind_of new ≡ kind_of old) × (awaits old ≡ true)
  completing form.IncompleteType form.FullType a b is = (refl, refl, refl)
  completing form.PrivateType form.FullType a b is = (refl, refl, refl)
  completing form.SubprogramDeclaration form.ProcedureBody a b is = (refl, refl, refl)
  completing form.SubprogramDeclaration form.FunctionBody a b is = (refl, refl, refl)
  completing _ _ a b is = absurd (true≢false (sym is))

  counts_one : (now : Known) (new : DeclarationForm) (id : FoldedIdentifier) (rest : Declarations) (j : ℕ) → AreListed now.declared
      → (o : Option Declaration) → completed_by now new id.name ≡ o → number_of_pos numbers id.pos ≡ completed_or_next now o
      → Counts (length (behind_declaration now new id o).declared) rest j → Counts (length now.declared) ((new, number_of_pos numbers id.pos) ∷ rest) j
  counts_one now new id rest j are None at is counts = inl (is, subst (λ k. Counts k rest j) (one_longer now new id) counts)
  counts_one now new id rest j are (Some d) at is counts =
      let c = completion now new id.name d are.indexed at in
      let form = completing d.form new d.part (part_here now) c.completes in
      let late = are.late d.number c.entry c.stands (ap (λ (d : Declaration). awaits d.form) c.is ∙ form.2) in
      let low = slice_get_within now.declared d.number c.entry c.stands in
      inr (omega (arith, late, is), omega (arith, low, is), form.0, counts)

  pub counts_all : (events : List Event) (now : Known) → AreListed now.declared → AreFollowed numbers now events
      → Counts (length now.declared) (declared_by numbers events) (length (known_behind_all now events).declared)
  unfolding known_behind
  counts_all [] now are followed = refl
  counts_all (e.Declares new id ∷ rest) now are followed =
      counts_one now new id (declared_by numbers rest) (length (known_behind_all (known_behind now (e.Declares new id)) rest).declared) are
      (completed_by now new id.name) refl followed.0
      (counts_all rest (known_behind now (e.Declares new id)) (listed_behind now (e.Declares new id) are) followed.1)
  counts_all (e.PackageBodyOpens id ∷ rest) now are followed =
      subst (λ k. Counts k (declared_by numbers rest) (length (known_behind_all (known_behind now (e.PackageBodyOpens id)) rest).declared)) (same (source_package now.ended id.name))
      (counts_all rest (known_behind now (e.PackageBodyOpens id)) (listed_behind now (e.PackageBodyOpens id) are) followed.1)
    where
      same : (o : Option Declaration) → length (open_body now id o).declared ≡ length now.declared
      same None = refl
      same (Some d) = refl
  counts_all (event ∷ rest) now are followed = counts_all rest (known_behind now event) (listed_behind now event are) followed.1

  -- ---- kinds

  kind_one : (now : Known) (new : DeclarationForm) (id : FoldedIdentifier) (whole : List Entry) → AreListed now.declared
      → (o : Option Declaration) → completed_by now new id.name ≡ o → number_of_pos numbers id.pos ≡ completed_or_next now o
      → ((i : ℕ) (x : Entry) → slice_get (behind_declaration now new id o).declared i ≡ Some x → slice_get whole i ≡ Some x)
      → kind_of new ≡ kind_at whole (number_of_pos numbers id.pos)
  kind_one now new id whole are None at is kept =
      let y : Entry = new_entry now new id in
      let there : slice_get (behind_declaration now new id None).declared (length now.declared) ≡ Some y =
      subst (λ entries. slice_get entries (length now.declared) ≡ Some y) (sym (next_declared now new id)) (get_last now.declared y) in
      sym (ap (λ n. kind_at whole n) is ∙ ap kind_found (kept (length now.declared) y there))
  kind_one now new id whole are (Some d) at is kept =
      let c = completion now new id.name d are.indexed at in
      let form = completing d.form new d.part (part_here now) c.completes in
      form.1 ∙ (ap (λ (d : Declaration). kind_of d.form) (sym c.is) ∙ sym (ap (λ n. kind_at whole n) is ∙ ap kind_found (kept d.number c.entry c.stands)))

  pub kinds_all : (events : List Event) (now : Known) (whole : List Entry) → AreListed now.declared → AreFollowed numbers now events
      → ((i : ℕ) (x : Entry) → slice_get (known_behind_all now events).declared i ≡ Some x → slice_get whole i ≡ Some x)
      → (new : DeclarationForm) (n : ℕ) → Has (declared_by numbers events) (new, n) → kind_of new ≡ kind_at whole n
  unfolding known_behind
  kinds_all [] now whole are followed kept new n has = absurd has
  kinds_all (e.Declares made id ∷ rest) now whole are followed kept new n has = elim has [
    | inl same ↦
        subst (λ (x : DeclarationForm × ℕ). kind_of x.0 ≡ kind_at whole x.1) same
        (kind_one now made id whole are (completed_by now made id.name) refl followed.0
        (λ i x is. kept i x (all_kept rest (known_behind now (e.Declares made id)) i x is)))
    | inr more ↦
        kinds_all rest (known_behind now (e.Declares made id)) whole (listed_behind now (e.Declares made id) are) followed.1 kept new n more
  ]
  kinds_all (event ∷ rest) now whole are followed kept new n has =
      kinds_all rest (known_behind now event) whole (listed_behind now event are) followed.1 kept new n has

  -- ---- completions

  was_added : (xs : List ℕ) (n m : ℕ) → has_number n (added_number xs m) ≡ true → (has_number n xs ≡ true) ⊎ (n ≡ m)
  was_added xs n m has = by (has_number m xs) has
    where
      split : (a b : Bool) → a || b ≡ true → (a ≡ true) ⊎ (b ≡ true)
      split true b e = inl refl
      split false b e = inr e

      last : (b : Bool) → b || false ≡ b
      last true = refl
      last false = refl

      equal : (a b : ℕ) → nat_eq a b ≡ true → a ≡ b
      equal a b e = grind (arith, e)

      by : (b : Bool) → has_number n (if b then xs else xs ++ m ∷ []) ≡ true → (has_number n xs ≡ true) ⊎ (n ≡ m)
      by true e = inl e
      by false e = elim (split (has_number n xs) (nat_eq n m || false) (sym (list_any-append (nat_eq n) xs (m ∷ [])) ∙ e)) [
        | inl was ↦ inl was
        | inr one ↦ inr (equal n m (sym (last (nat_eq n m)) ∙ one))
      ]

  -- A declaration that completes one, with this number.
  abbrev Completed : List Event → ℕ → Type 0
  Completed events n = (new : DeclarationForm) × Has (declared_by numbers events) (new, n) × (is_completing new ≡ true)

  completed_one : (now : Known) (new : DeclarationForm) (id : FoldedIdentifier) (rest : List Event) (n : ℕ) → AreListed now.declared
      → (o : Option Declaration) → completed_by now new id.name ≡ o → number_of_pos numbers id.pos ≡ completed_or_next now o
      → has_number n (behind_declaration now new id o).completed ≡ true → (has_number n now.completed ≡ true) ⊎ Completed (e.Declares new id ∷ rest) n
  completed_one now form.Package id rest n are None at is has = inl has
  completed_one now new id rest n are None at is has = inl has
  completed_one now new id rest n are (Some d) at is has = elim (was_added now.completed n d.number has) [
    | inl was ↦ inl was
    | inr same ↦
        let c = completion now new id.name d are.indexed at in
        let form = completing d.form new d.part (part_here now) c.completes in
        inr (new, inl (ap (λ m. (new, m)) (is ∙ sym same)), form.0)
  ]

  pub completed_all : (events : List Event) (now : Known) (n : ℕ) → AreListed now.declared → AreFollowed numbers now events
      → has_number n (known_behind_all now events).completed ≡ true → (has_number n now.completed ≡ true) ⊎ Completed events n
  unfolding known_behind
  completed_all [] now n are followed has = inl has
  completed_all (e.Declares new id ∷ rest) now n are followed has =
      elim (completed_all rest (known_behind now (e.Declares new id)) n (listed_behind now (e.Declares new id) are) followed.1 has) [
        | inl was ↦ completed_one now new id rest n are (completed_by now new id.name) refl followed.0 was
        | inr later ↦ inr (later.0, inr later.1, later.2)
      ]
  completed_all (e.PackageBodyOpens id ∷ rest) now n are followed has =
      elim (completed_all rest (known_behind now (e.PackageBodyOpens id)) n (listed_behind now (e.PackageBodyOpens id) are) followed.1 has) [
        | inl was ↦ inl (same (source_package now.ended id.name) was)
        | inr later ↦ inr later
      ]
    where
      same : (o : Option Declaration) → has_number n (open_body now id o).completed ≡ true → has_number n now.completed ≡ true
      same None e = e
      same (Some d) e = e
  completed_all (event ∷ rest) now n are followed has = completed_all rest (known_behind now event) n (listed_behind now event are) followed.1 has

  -- ---- where no rule is broken

  or_first : {A : Type 0} (a b : Option A) → or_else a b ≡ None → a ≡ None
  or_first None b e = refl
  or_first (Some x) b e = absurd (true≢false (ap is_some e))

  or_second : {A : Type 0} (a b : Option A) → or_else a b ≡ None → b ≡ None
  or_second None b e = e
  or_second (Some x) b e = absurd (true≢false (ap is_some e))

  none_second : (second incomplete : Bool) (x y : Fault) → (if second then Some x else if incomplete then Some y else None) ≡ None → incomplete ≡ false
  none_second true incomplete x y e = absurd (true≢false (ap is_some e))
  none_second false true x y e = absurd (true≢false (ap is_some e))
  none_second false false x y e = refl

  not_false : (b : Bool) → not b ≡ false → b ≡ true
  not_false true e = refl
  not_false false e = absurd (true≢false e)

  awaiting_one : (whole now : Known) (id : FoldedIdentifier) → declaration_fault whole now form.SubprogramDeclaration id ≡ None
      → number_of_pos numbers id.pos ≡ completed_or_next now (completed_by now form.SubprogramDeclaration id.name)
      → has_number (number_of_pos numbers id.pos) whole.completed ≡ true
  awaiting_one whole now id none is =
      let number = is ∙ ap (completed_or_next now) (completes_nothing now form.SubprogramDeclaration id.name refl) in
      ap (λ n. has_number n whole.completed) number
      ∙ not_false (has_number (length now.declared) whole.completed)
      (none_second (is_second now form.SubprogramDeclaration id.name) (is_incomplete whole now form.SubprogramDeclaration) (Twice, id.pos) (NoBody, id.pos) none)

  -- A declaration of a subprogram is completed.
  pub awaiting_all : (events : List Event) (whole now : Known) → AreFollowed numbers now events → first_fault whole now events ≡ None
      → (n : ℕ) → Has (declared_by numbers events) (form.SubprogramDeclaration, n) → has_number n whole.completed ≡ true
  unfolding first_fault fault
  awaiting_all [] whole now followed none n has = absurd has
  awaiting_all (e.Declares new id ∷ rest) whole now followed none n has = elim has [
    | inl same ↦ here new (ap (λ (x : DeclarationForm × ℕ). x.0) same) (ap (λ (x : DeclarationForm × ℕ). x.1) same) none followed.0
    | inr more ↦ awaiting_all rest whole (known_behind now (e.Declares new id)) followed.1
        (or_second (declaration_fault whole now new id) (first_fault whole (known_behind now (e.Declares new id)) rest) none) n more
  ]
    where
      here : (new : DeclarationForm) → new ≡ form.SubprogramDeclaration → number_of_pos numbers id.pos ≡ n
          → or_else (declaration_fault whole now new id) (first_fault whole (known_behind now (e.Declares new id)) rest) ≡ None
          → number_of_pos numbers id.pos ≡ completed_or_next now (completed_by now new id.name) → has_number n whole.completed ≡ true
      here form.SubprogramDeclaration same number none is =
          ap (λ m. has_number m whole.completed) (sym number)
          ∙ awaiting_one whole now id (or_first (declaration_fault whole now form.SubprogramDeclaration id)
          (first_fault whole (known_behind now (e.Declares form.SubprogramDeclaration id)) rest) none) is
      here _ same number none is = cc
  awaiting_all (event ∷ rest) whole now followed none n has =
      awaiting_all rest whole (known_behind now event) followed.1 (or_second (fault whole now event) (first_fault whole (known_behind now event) rest) none) n has
