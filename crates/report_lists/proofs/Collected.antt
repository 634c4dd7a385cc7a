-- The printed reports of a set have exactly the reports of some property.
use Rattle.std.proofs.Common.{◌≡◌, ◌⊎◌, inl, inr, ℕ, List, [], ◌∷◌, map, refl, sym, ap, ◌∙◌, subst}
use Rattle.std.specs.declared.cmp.Ordering.{Ordering}
use Rattle.std.specs.declared.cmp.Ordering.TheVariants.{Less, Equal, Greater}
use Rattle.std.specs.Ordering.{match_ordering}
use Rattle.std.specs.List.{AllByRecursion}
use Rattle.std.specs.List.Sorted.{IsStrictlySortedBy}
use Rattle.std.specs.BTreeSet.{insert_key}
use Rattle.std.proofs.lemmas.Map.Keys.{sorted_head, sorted_tail}
use Rattle.spark_base.specs.Lists.{Has}
use Rattle.spark_base.proofs.Lists.{Has-map, Has-map_from}
use Rattle.place_names.specs.Names.{Name}
use Rattle.place_names.specs.Reports.{Report, report_cmp, IsAscending, IsReportList}
use Rattle.place_names.proofs.Reports.{report_cmp-equal}
use Rattle.report_lists.specs.PrintedReports.{Printed, printed_cmp, IsPrinted}
use Rattle.report_lists.proofs.Ordered.{printed_order}

pub record Collected (printed : Name → List ℕ) (P : Report → Type 0) (set : List Printed) : Type 0 where
  pub named : (p : Printed) → Has set p → IsPrinted printed p
  pub sound : (p : Printed) → Has set p → P p.report
  pub complete : (r : Report) → P r → (p : Printed) × Has set p × (p.report ≡ r)

-- ---- what one that is put in changes

abbrev inserted : Ordering → Printed → Printed → List Printed → List Printed → List Printed
inserted o k x xs rest = match_ordering o (k ∷ x ∷ xs) (x ∷ xs) (x ∷ rest)

cases_step : (o : Ordering) (k x y : Printed) (xs rest : List Printed) → (Has rest y → Has xs y ⊎ (k ≡ y))
    → Has (inserted o k x xs rest) y → Has (x ∷ xs) y ⊎ (k ≡ y)
cases_step Less k x y xs rest f h = elim h [ inl e ↦ inr e | inr h ↦ inl h ]
cases_step Equal k x y xs rest f h = inl h
cases_step Greater k x y xs rest f h = elim h [
  | inl e ↦ inl (inl e)
  | inr h ↦ elim (f h) [ inl g ↦ inl (inr g) | inr e ↦ inr e ]
]

pub insert_cases : (xs : List Printed) (k y : Printed) → Has (insert_key printed_cmp xs k) y → Has xs y ⊎ (k ≡ y)
insert_cases [] k y h = elim h [ inl e ↦ inr e | inr h ↦ absurd h ]
insert_cases (x ∷ xs) k y h = cases_step (printed_cmp k x) k x y xs (insert_key printed_cmp xs k) (insert_cases xs k y) h

keeps_step : (o : Ordering) (k x y : Printed) (xs rest : List Printed) → (Has xs y → Has rest y) → Has (x ∷ xs) y
    → Has (inserted o k x xs rest) y
keeps_step Less k x y xs rest f h = inr h
keeps_step Equal k x y xs rest f h = h
keeps_step Greater k x y xs rest f h = elim h [ inl e ↦ inl e | inr h ↦ inr (f h) ]

pub insert_keeps : (xs : List Printed) (k y : Printed) → Has xs y → Has (insert_key printed_cmp xs k) y
insert_keeps [] k y h = absurd h
insert_keeps (x ∷ xs) k y h = keeps_step (printed_cmp k x) k x y xs (insert_key printed_cmp xs k) (insert_keeps xs k y) h

-- some one of a list has the report of k
abbrev StandsFor : List Printed → Printed → Type 0
StandsFor xs k = (p : Printed) × Has xs p × (p.report ≡ k.report)

-- what compares equal is one report
same_report : (printed : Name → List ℕ) (k x : Printed) → IsPrinted printed k → IsPrinted printed x → printed_cmp k x ≡ Equal → k.report ≡ x.report
same_report printed k x named_k named_x e =
    report_cmp-equal printed k.report x.report (sym (printed_order printed k x named_k named_x) ∙ e)

stands_step : (o : Ordering) (k x : Printed) (xs rest : List Printed) → printed_cmp k x ≡ o → (printed_cmp k x ≡ Equal → k.report ≡ x.report)
    → StandsFor rest k → StandsFor (inserted o k x xs rest) k
stands_step Less k x xs rest e same s = (k, inl refl, refl)
stands_step Equal k x xs rest e same s = (x, inl refl, sym (same e))
stands_step Greater k x xs rest e same s = (s.0, inr s.1, s.2)

insert_stands : (printed : Name → List ℕ) (xs : List Printed) (k : Printed) → IsPrinted printed k → ((p : Printed) → Has xs p → IsPrinted printed p)
    → StandsFor (insert_key printed_cmp xs k) k
insert_stands printed [] k is named = (k, inl refl, refl)
insert_stands printed (x ∷ xs) k is named =
    stands_step (printed_cmp k x) k x xs (insert_key printed_cmp xs k) refl (same_report printed k x is (named x (inl refl)))
    (insert_stands printed xs k is (λ p h. named p (inr h)))

-- ---- one more report

pub collected_none : (printed : Name → List ℕ) (P : Report → Type 0) → ((r : Report) → P r → ⊥) → Collected printed P []
collected_none printed P f = record {
  named = λ e h. absurd h;
  sound = λ e h. absurd h;
  complete = λ r p. absurd (f r p);
}

-- Q has the reports of P, and one more
pub record Grows (P Q : Report → Type 0) (more : Report) : Type 0 where
  pub from : (r : Report) → Q r → P r ⊎ (more ≡ r)
  pub stays : (r : Report) → P r → Q r
  pub comes : Q more

pub collected_next : (printed : Name → List ℕ) (P Q : Report → Type 0) (old : List Printed) (k : Printed) → IsPrinted printed k
    → Grows P Q k.report → Collected printed P old → Collected printed Q (insert_key printed_cmp old k)
collected_next printed P Q old k is g c = record {
  named = λ y h. elim (insert_cases old k y h) [ inl h ↦ c.named y h | inr s ↦ subst (IsPrinted printed) s is ];
  sound = λ y h. elim (insert_cases old k y h) [
    | inl h ↦ g.stays y.report (c.sound y h)
    | inr s ↦ subst (λ (p : Printed). Q p.report) s g.comes
  ];
  complete = λ r q. elim (g.from r q) [
    | inl h ↦ (let found = c.complete r h in (found.0, insert_keeps old k found.0 found.1, found.2))
    | inr same ↦ (let stands = insert_stands printed old k is c.named in (stands.0, stands.1, stands.2 ∙ same))
  ];
}

-- ---- the reports in order

at_each : (Q : Printed → Type 0) (xs : List Printed) (x : Printed) → AllByRecursion Q xs → Has xs x → Q x
at_each Q [] x all h = absurd h
at_each Q (y ∷ xs) x all h = elim h [ inl e ↦ subst Q e all.0 | inr h ↦ at_each Q xs x all.1 h ]

abbrev pub reports_of : List Printed → List Report
reports_of set = map (λ (p : Printed). p.report) set

ascending : (printed : Name → List ℕ) (xs : List Printed) → ((p : Printed) → Has xs p → IsPrinted printed p)
    → IsStrictlySortedBy printed_cmp xs → IsAscending printed (reports_of xs)
ascending printed [] named sorted = tt
ascending printed (x ∷ xs) named sorted = (
  λ r h. (
      let found = Has-map_from (λ (p : Printed). p.report) xs r h in
      let less = at_each (λ y. printed_cmp x y ≡ Less) xs found.0 (sorted_head printed_cmp x xs sorted) found.1 in
      ap (report_cmp printed x.report) (sym found.2) ∙ sym (printed_order printed x found.0 (named x (inl refl)) (named found.0 (inr found.1))) ∙ less),
  ascending printed xs (λ p h. named p (inr h)) (sorted_tail printed_cmp x xs sorted),
)

pub report_list : (printed : Name → List ℕ) (P : Report → Type 0) (set : List Printed) → Collected printed P set
    → IsStrictlySortedBy printed_cmp set → IsReportList printed P (reports_of set)
report_list printed P set c sorted = record {
  ascending = ascending printed set c.named sorted;
  sound = λ r h. (let found = Has-map_from (λ (p : Printed). p.report) set r h in subst P found.2 (c.sound found.0 found.1));
  complete = λ r p. (
      let found = c.complete r p in
      subst (Has (reports_of set)) found.2 (Has-map (λ (p : Printed). p.report) set found.0 found.1));
}
