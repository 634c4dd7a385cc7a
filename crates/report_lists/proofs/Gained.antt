-- What comes to a set into which reports are put, and when that makes it a list of reports.
use Rattle.std.proofs.Common.{◌≡◌, ◌⊎◌, inl, inr, refl, sym, ap, ◌∙◌, subst, ℕ, List, [], ◌∷◌, ◌++◌, map}
use Rattle.std.specs.declared.cmp.Ordering.{Ordering}
use Rattle.std.specs.declared.cmp.Ordering.TheVariants.{Less, Equal, Greater}
use Rattle.std.specs.Ordering.{ordering_then, match_ordering, nat_cmp}
use Rattle.std.specs.Cmp.Lexicographic.{slice_cmp}
use Rattle.std.specs.BTreeSet.{insert_key}
use Rattle.std.specs.List.Sorted.{IsStrictlySortedBy}
use Rattle.spark_base.specs.Lists.{Has}
use Rattle.spark_base.specs.Positions.{position_cmp}
use Rattle.spark_base.proofs.Orders.{then_equal, nat_cmp-equal, slice_cmp-equal}
use Rattle.spark_base.proofs.Positions.{position_cmp-equal}
use Rattle.place_names.specs.Names.{Name}
use Rattle.place_names.specs.Reports.{Report, rule_rank, word_rank, IsReportList}
use Rattle.place_names.proofs.Reports.{rule_rank-equal, word_rank-equal, selector_cmp-equal}
use Rattle.report_lists.specs.PrintedReports.{Printed, printed_cmp, IsPrinted}
use Rattle.report_lists.specs.Gains.{told, Gains, put_told}
use Rattle.report_lists.proofs.Collected.{Collected, insert_cases, insert_keeps, reports_of, report_list}

-- ---- one that is put in

-- what compares equal is the same
nat_lists-equal : (a b : List ℕ) → slice_cmp nat_cmp a b ≡ Equal → a ≡ b
nat_lists-equal a b e = slice_cmp-equal nat_cmp nat_cmp-equal a b e

printed_cmp-equal : (a b : Printed) → printed_cmp a b ≡ Equal → a ≡ b
printed_cmp-equal a b e =
    let positions = then_equal (position_cmp a.report.pos b.report.pos) _ e in
    let rules = then_equal (nat_cmp (rule_rank a.report.rule) (rule_rank b.report.rule)) _ positions.1 in
    let texts = then_equal (slice_cmp nat_cmp a.text b.text) _ rules.1 in
    let words = then_equal (nat_cmp (word_rank a.report.word) (word_rank b.report.word)) _ texts.1 in
    let roots = then_equal (nat_cmp b.report.name.root a.report.name.root) _ words.1 in
    let pos = position_cmp-equal a.report.pos b.report.pos positions.0 in
    let rule = rule_rank-equal a.report.rule b.report.rule (nat_cmp-equal _ _ rules.0) in
    let text = nat_lists-equal a.text b.text texts.0 in
    let word = word_rank-equal a.report.word b.report.word (nat_cmp-equal _ _ words.0) in
    let root = nat_cmp-equal b.report.name.root a.report.name.root roots.0 in
    let sels = slice_cmp-equal _ selector_cmp-equal a.report.name.sels b.report.name.sels roots.1 in
    λ i. record {
      report = record { pos = pos i; rule = rule i; name = record { root = sym root i; sels = sels i }; word = word i };
      text = text i;
    }

has_step : (o : Ordering) (k x : Printed) (xs rest : List Printed) → printed_cmp k x ≡ o → Has rest k
    → Has (match_ordering o (k ∷ x ∷ xs) (x ∷ xs) (x ∷ rest)) k
has_step Less k x xs rest e h = inl refl
has_step Equal k x xs rest e h = inl (sym (printed_cmp-equal k x e))
has_step Greater k x xs rest e h = inr h

insert_has : (xs : List Printed) (k : Printed) → Has (insert_key printed_cmp xs k) k
insert_has [] k = inl refl
insert_has (x ∷ xs) k = has_step (printed_cmp k x) k x xs (insert_key printed_cmp xs k) refl (insert_has xs k)

-- ---- some that are put in

pub put_told-append : (printed : Name → List ℕ) (set : List Printed) (xs ys : List Report)
    → put_told printed set (xs ++ ys) ≡ put_told printed (put_told printed set xs) ys
put_told-append printed set [] ys = refl
put_told-append printed set (r ∷ xs) ys = put_told-append printed (insert_key printed_cmp set (told printed r)) xs ys

pub gains_put : (printed : Name → List ℕ) (reports : List Report) (old : List Printed)
    → Gains printed (Has reports) old (put_told printed old reports)
gains_put printed [] old = record { stays = λ p h. h; only = λ p h. inl h; comes = λ r h. absurd h }
gains_put printed (r ∷ more) old =
    let k = told printed r in
    let rest = gains_put printed more (insert_key printed_cmp old k) in
    record {
      stays = λ p h. rest.stays p (insert_keeps old k p h);
      only = λ p h. elim (rest.only p h) [
        | inl was ↦ elim (insert_cases old k p was) [
          | inl there ↦ inl there
          | inr same ↦ inr (subst (IsPrinted printed) same refl, inl (ap (λ (x : Printed). x.report) same))
        ]
        | inr more ↦ inr (more.0, inr more.1)
      ];
      comes = λ y h. elim h [
        | inl same ↦ rest.stays (told printed y) (subst (Has (insert_key printed_cmp old k)) (ap (told printed) same) (insert_has old k))
        | inr later ↦ rest.comes y later
      ];
    }

-- the same of another property with the same reports
pub gains_same : (printed : Name → List ℕ) (P Q : Report → Type 0) (old new : List Printed) → ((r : Report) → P r → Q r)
    → ((r : Report) → Q r → P r) → Gains printed P old new → Gains printed Q old new
gains_same printed P Q old new to from g = record {
  stays = g.stays;
  only = λ p h. elim (g.only p h) [ inl was ↦ inl was | inr more ↦ inr (more.0, to p.report more.1) ];
  comes = λ r q. g.comes r (from r q);
}

-- one after the other
pub gains_both : (printed : Name → List ℕ) (P Q : Report → Type 0) (old mid new : List Printed) → Gains printed P old mid
    → Gains printed Q mid new → Gains printed (λ r. P r ⊎ Q r) old new
gains_both printed P Q old mid new g h = record {
  stays = λ p was. h.stays p (g.stays p was);
  only = λ p is. elim (h.only p is) [
    | inl before ↦ elim (g.only p before) [ inl was ↦ inl was | inr more ↦ inr (more.0, inl more.1) ]
    | inr more ↦ inr (more.0, inr more.1)
  ];
  comes = λ r either. elim either [ inl p ↦ h.stays (told printed r) (g.comes r p) | inr q ↦ h.comes r q ];
}

-- what came to the empty set, in order, is the list of reports
pub gained_list : (printed : Name → List ℕ) (P : Report → Type 0) (set : List Printed) → Gains printed P [] set
    → IsStrictlySortedBy printed_cmp set → IsReportList printed P (reports_of set)
gained_list printed P set g sorted = report_list printed P set (record {
  named = λ p h. elim (g.only p h) [ inl none ↦ absurd none | inr is ↦ is.0 ];
  sound = λ p h. elim (g.only p h) [ inl none ↦ absurd none | inr is ↦ is.1 ];
  complete = λ r p. (told printed r, g.comes r p, refl);
}) sorted
