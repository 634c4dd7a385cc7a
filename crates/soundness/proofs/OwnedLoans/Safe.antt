-- What a name through views meets, where the facts allow its act: nothing gone on its way, and for
-- what is changed, no way of a view.
use Rattle.std.proofs.Common.{◌≡◌, refl, sym, ap, ◌∙◌, subst, ◌⊎◌, inl, inr, ℕ, Bool, true, false, List, [], ◌∷◌, ◌++◌, length, ◌<◌, ◌≤◌, ◌+◌, arith, Some, None, is_some}
use Rattle.std.proofs.lemmas.List.{length-append}
use Rattle.std.proofs.lemmas.Bool.{true≢false}
use Rattle.machine.specs.spark_base.Lists.{Has}
use Rattle.machine.specs.place_names.declared.selector.Sel.TheVariants.{Deref}
use Rattle.machine.specs.place_names.declared.rule.Loan.{Loan}
use Rattle.machine.specs.place_names.declared.rule.Loan.TheVariants.{Borrowed, Observed}
use Rattle.machine.specs.place_names.declared.fact.Fact.{Fact}
use Rattle.machine.specs.place_names.declared.fact.Fact.TheVariants.{Moved, Lent}
use Rattle.machine.specs.place_names.Names.{Name, overlaps, leads_to}
use Rattle.place_names.proofs.Names.{overlaps-sym}
use Rattle.soundness.specs.OwnedWays.Ways.{Step, OfVariable, OfRoot, Way, Object, Lost, Into, All, View, Under, Past, Named, IsMoved, base_of, name_of, number_of, sels_of, sel_of}
use Rattle.soundness.proofs.OwnedWays.Locations.{past_under, not_past, under_itself}
use Rattle.soundness.proofs.OwnedWays.Named.{longer, under_leads}
use Rattle.soundness.proofs.OwnedWays.Dropped.{named_base}
use Rattle.soundness.specs.OwnedLoans.Views.{Around, Views, expand, expand_root, IsThrough, IsMovedBy, HasLoan, IsView, IsPassed, Viewed, Lifted, InPart}
use Rattle.soundness.proofs.OwnedLoans.Clear.{overlaps_whole}
use Rattle.soundness.proofs.OwnedLoans.Ways.{Meet, flip, lifted_way, on_under, meets_on, meets_front, beginnings, under_on, meet_overlaps, stands_alone, named_base_of, home_or_foreign, next_of, in_part_way}
use Rattle.soundness.proofs.OwnedLoans.Meeting.{IsPlain, no_part, next, not_foreign, off_seen, off_part, stands, Lends, MeetsLoan, Beside, Both, Lone, Meeting, meeting}
use Rattle.soundness.proofs.Parted.{by_either}

-- what begins a way and isn't the way has a shorter name
pub under_shorter : (t w : Way) → Under t w → (t ≡ w) ⊎ (length (sels_of t) < length (sels_of w))
under_shorter t (Object r) u = inl u
under_shorter t (Lost n) u = inl u
under_shorter t (Into w i) u = by_either u (λ e. (inl e)) (λ u. (inr (shorter t w (sel_of i ∷ []) (length-append (sels_of w) (sel_of i ∷ [])) u)))
  where
    shorter : (t w : Way) (q : List _) → length (sels_of w ++ q) ≡ length (sels_of w) + 1 → Under t w → length (sels_of t) < length (sels_of w ++ q)
    shorter t w q more u =
        let l = longer t w u in
        let front : length (sels_of w) ≡ length (sels_of t) + length l.rest = ap length l.sels ∙ length-append (sels_of t) l.rest in (omega arith)
under_shorter t (All w) u = by_either u (λ e. (inl e)) (λ u. (inr (shorter t w (Deref ∷ []) (length-append (sels_of w) (Deref ∷ [])) u)))
  where
    shorter : (t w : Way) (q : List _) → length (sels_of w ++ q) ≡ length (sels_of w) + 1 → Under t w → length (sels_of t) < length (sels_of w ++ q)
    shorter t w q more u =
        let l = longer t w u in
        let front : length (sels_of w) ≡ length (sels_of t) + length l.rest = ap length l.sels ∙ length-append (sels_of t) l.rest in (omega arith)

-- what a way begins with doesn't go past it
pub past_front : (k w : Way) → Under k w → Past w k → ⊥
past_front k w under past = by_either (under_shorter w k (past_under w k past))
    (λ e. (not_past_itself w k e past))
    (λ less. (by_either (under_shorter k w under) (λ e. (not_past_itself w k (sym e) past)) (λ other. (absurd (omega (arith, less, other))))))
  where
    not_past_itself : (w k : Way) → w ≡ k → Past w k → ⊥
    not_past_itself w k e past = not_past w [] (subst (Past w) (sym e) past)

-- No name that was moved or is lent to a borrower leads to a name and is shorter.
pub record Open (facts : List Fact) (u : Way) : Type 0 where
  pub moved : (n : Name) → Has facts (Moved n) → leads_to n (name_of u) ≡ true → length n.sels < length (sels_of u) → ⊥
  pub lent : (h : ℕ) (n : Name) → Has facts (Lent Borrowed h n) → leads_to n (name_of u) ≡ true → length n.sels < length (sels_of u) → ⊥

-- None leads to it, the name itself or a shorter one.
pub record OpenWhole (facts : List Fact) (u : Way) : Type 0 where
  pub moved : (n : Name) → Has facts (Moved n) → leads_to n (name_of u) ≡ true → ⊥
  pub lent : (h : ℕ) (n : Name) → Has facts (Lent Borrowed h n) → leads_to n (name_of u) ≡ true → ⊥

-- No place that is lent overlaps a name.
abbrev pub Unlent : List Fact → Way → Type 0
Unlent facts u = (l : Loan) (h : ℕ) (n : Name) → Has facts (Lent l h n) → overlaps n (name_of u) ≡ true → ⊥

-- No place that is lent to a borrower does.
abbrev pub Unborrowed : List Fact → Way → Type 0
Unborrowed facts u = (h : ℕ) (n : Name) → Has facts (Lent Borrowed h n) → overlaps n (name_of u) ≡ true → ⊥

-- No name that was moved does.
abbrev pub Unmoved : List Fact → Way → Type 0
Unmoved facts u = (n : Name) → Has facts (Moved n) → overlaps n (name_of u) ≡ true → ⊥

-- What overlaps what a name designates overlaps the name.
pub designated_over : (n : Name) (u : Way) → overlaps n (name_of (All u)) ≡ true → overlaps n (name_of u) ≡ true
designated_over n u e = overlaps_whole (name_of u) n (Deref ∷ []) (overlaps-sym (name_of (All u)) n ∙ e)

pub unlent_below : (facts : List Fact) (u : Way) → Unlent facts u → Unlent facts (All u)
unlent_below facts u unlent l h n has over = unlent l h n has (designated_over n u over)

pub unborrowed_below : (facts : List Fact) (u : Way) → Unborrowed facts u → Unborrowed facts (All u)
unborrowed_below facts u unborrowed h n has over = unborrowed h n has (designated_over n u over)

pub unmoved_below : (facts : List Fact) (u : Way) → Unmoved facts u → Unmoved facts (All u)
unmoved_below facts u unmoved n has over = unmoved n has (designated_over n u over)

pub over_below : (u y : Way) → overlaps (name_of (All u)) (name_of (All y)) ≡ true → overlaps (name_of u) (name_of y) ≡ true
over_below u y e =
    overlaps-sym (name_of u) (name_of y)
    ∙ designated_over (name_of y) u (overlaps-sym (name_of y) (name_of (All u)) ∙ designated_over (name_of (All u)) y e)

module _ (home : ℕ → ℕ) (observer : ℕ → Bool) (other : Around home) (v : Views) (s : View) (facts : List Fact)
    (viewed : Viewed home observer other v s facts) where
  abbrev IsName : Way → Type 0
  IsName u = IsPlain home observer v s facts viewed.views u

  abbrev LendsIt : ℕ → Type 0
  LendsIt b = Lends home observer v s facts viewed.views b

  pub unviewed : (l : Loan) (n : Name) → other.lent l n → v.way n.root ≡ None
  unviewed l n lent = (viewed.lends l n lent).none

  -- where what two names stand for meets
  pub met : (x y : Way) → IsName x → IsName y → Under (expand v x) (expand v y) → Meeting home observer v s facts viewed.views other.lent unviewed viewed.shown x y
  met x y px py under = meeting home observer v s facts viewed.views other.lent unviewed viewed.shown x y px py under

  -- One of two names goes on from a place that others have borrowed, and the other one meets it.
  abbrev pub IsLone : Way → Way → Type 0
  IsLone x y = Lone home observer v s facts viewed.views other.lent unviewed viewed.shown x y

  -- the loan of a borrower
  pub loan_of : (b : ℕ) → Lends home observer v s facts viewed.views b → Has facts (Lent Borrowed b (name_of (v.loan b)))
  loan_of b l = subst (λ z. HasLoan observer z b facts (name_of (v.loan b))) l.2 l.3.lent

  pub no_both : Both home observer v s facts viewed.views → ⊥
  no_both b =
      viewed.clear.lent b.one b.two (name_of (v.loan b.one)) (name_of (v.loan b.two)) (loan_of b.one b.lends) (loan_of b.two b.lent) b.differ
      (meet_overlaps (v.loan b.one) (v.loan b.two) b.meets)

  -- ---- a place that others have lent

  pub lent_fact : (l : Loan) (k : Way) → other.lent l (name_of k) → Has facts (Lent l (number_of k) (name_of k))
  lent_fact l k lent = (viewed.lends l (name_of k) lent).has

  -- it stands for itself
  pub lent_itself : (l : Loan) (k : Way) → other.lent l (name_of k) → (u : Way) → number_of u ≡ number_of k → expand v u ≡ u
  lent_itself l k lent u root = stands_alone v u (ap v.way root ∙ unviewed l (name_of k) lent)
      (no_part home observer v s facts viewed.views u (ap observer root ∙ (viewed.lends l (name_of k) lent).plain))

  -- no borrower of the frame holds a loan that it meets
  pub lent_apart : (l : Loan) (k : Way) → other.lent l (name_of k) → (b : ℕ) → LendsIt b → Meet (v.loan b) k → ⊥
  lent_apart l k lent b lends meets = by_loan l (lent_fact l k lent)
    where
      differ : b ≡ number_of k → ⊥
      differ e = let is : Some lends.0 ≡ None = sym lends.1 ∙ ap v.way e ∙ unviewed l (name_of k) lent in absurd (true≢false (ap is_some is))

      by_loan : (l : Loan) → Has facts (Lent l (number_of k) (name_of k)) → ⊥
      by_loan Borrowed has =
          viewed.clear.lent b (number_of k) (name_of (v.loan b)) (name_of k) (loan_of b lends) has differ (meet_overlaps (v.loan b) k meets)
      by_loan Observed has =
          viewed.clear.seen b (number_of k) (name_of (v.loan b)) (name_of k) (loan_of b lends) has (meet_overlaps (v.loan b) k meets)

  -- so what a name that belongs to the frame stands for meets it only if the name does
  pub only_itself : (l : Loan) (k x : Way) → other.lent l (name_of k) → Meet x k ⊎ MeetsLoan home observer v s facts viewed.views k → Meet x k
  only_itself l k x lent (inl meets) = meets
  only_itself l k x lent (inr (b, lends, meets)) = absurd (lent_apart l k lent b lends meets)

  -- nor does an observer's loan meet one that others have borrowed
  pub seen_lent : (k : Way) → other.lent Borrowed (name_of k) → (h : ℕ) (loan : Way) → Has facts (Lent Observed h (name_of loan)) → Meet loan k → ⊥
  seen_lent k lent h loan has meets =
      viewed.clear.seen (number_of k) h (name_of k) (name_of loan) (lent_fact Borrowed k lent) has (meet_overlaps k loan (flip loan k meets))

  lone_meets : (x y : Way) (l : IsLone x y) → Meet x l.place
  lone_meets x y l = only_itself Borrowed l.place x l.lent_it l.meets

  -- ---- what was moved

  moved_plain : (u : Way) → IsMoved home facts u → IsName u
  moved_plain u moved = (moved.0, viewed.clear.owned (name_of u) moved.1)

  -- what was moved meets no loan
  unmoved_loan : (u : Way) (l : Loan) (h : ℕ) (loan : Way) → IsMoved home facts u → Has facts (Lent l h (name_of loan)) → Meet u loan → ⊥
  unmoved_loan u l h loan moved lent m = viewed.clear.moved l h (name_of u) (name_of loan) moved.1 lent (meet_overlaps u loan m)

  not_beside : (u y : Way) → IsMoved home facts u → Beside home observer v s facts viewed.views u y → ⊥
  not_beside u y moved b = unmoved_loan u Borrowed b.object (v.loan b.object) moved (loan_of b.object b.lends) b.meets

  moved_lone : (u y : Way) → IsMoved home facts u → IsLone u y → ⊥
  moved_lone u y moved l = unmoved_loan u Borrowed (number_of l.place) l.place moved (lent_fact Borrowed l.place l.lent_it) (lone_meets u y l)

  -- nothing that goes on from a place that others have borrowed lies above a name that is open and meets the place
  lone_open : (u m w : Way) → Open facts u → IsLone u m → expand v m ≡ w → Past w (expand v u) → ⊥
  lone_open u m w free l same past = elim (lone_meets u m l) [
    | inl above ↦ past_front u w (under_on u l.place w above below) (subst (Past w) (itself (longer u l.place above).root) past)
    | inr above ↦ elim (under_shorter l.place u above) [
      | inl e ↦ past_front l.place w below (subst (Past w) (itself (ap number_of e) ∙ sym e) past)
      | inr less ↦ free.lent (number_of l.place) (name_of l.place) (lent_fact Borrowed l.place l.lent_it) (under_leads l.place u above) less
    ]
  ]
    where
      below : Under l.place w
      below = subst (Under l.place) same l.through

      itself : number_of l.place ≡ number_of u → expand v u ≡ u
      itself root = lent_itself Borrowed l.place l.lent_it u (sym root)

  -- nor what begins the name, if that is open as a whole
  lone_whole : (u m w : Way) → OpenWhole facts u → IsLone u m → expand v m ≡ w → Under w (expand v u) → ⊥
  lone_whole u m w free l same above =
      let meets = lone_meets u m l in
      let root : number_of u ≡ number_of l.place = elim meets [ inl a ↦ sym (longer u l.place a).root | inr a ↦ (longer l.place u a).root ] in
      let below : Under l.place u = subst (Under l.place) (lent_itself Borrowed l.place l.lent_it u root)
      (under_on l.place w (expand v u) (subst (Under l.place) same l.through) above) in
      free.lent (number_of l.place) (name_of l.place) (lent_fact Borrowed l.place l.lent_it) (under_leads l.place u below)

  -- nothing that was moved lies above a name that is open
  pub open_way : (u w : Way) → IsName u → Open facts u → Past w (expand v u) → IsMovedBy home v facts w → ⊥
  open_way u w plain free past (m, moved, same) =
      let upper : Under (expand v m) (expand v u) = subst (λ z. Under z (expand v u)) (sym same) (past_under w (expand v u) past) in
      by_either (met m u (moved_plain m moved) plain upper)
      (λ under. (by_either (under_shorter m u under) (λ e. (not_past w [] (subst (Past w) (sym (ap (expand v) e) ∙ same) past))) (λ less. (free.moved (name_of m) moved.1 (under_leads m u under) less))))
      (λ more. (by_either more
      (λ a. (by_either (under_shorter a.name u a.begins)
      (λ e. (not_past w [] (subst (Past w) (sym (ap (expand v) e) ∙ a.same ∙ same) past)))
      (λ less. (let loan = under_on (v.loan a.object) a.name u a.loan a.begins in
      let short = not_longer (v.loan a.object) a.name a.loan in
      free.lent a.object (name_of (v.loan a.object)) (loan_of a.object a.lends) (under_leads (v.loan a.object) u loan) (omega arith)))))
      (λ more. (by_either more
      (λ b. (not_beside m u moved b))
      (λ loans. (by_either loans (λ c. (no_both c)) (λ lone. (by_either lone (λ l. (moved_lone m u moved l)) (λ l. (lone_open u m w free l same past))))))))))
    where
      not_longer : (t w : Way) → Under t w → length (sels_of t) ≤ length (sels_of w)
      not_longer t w u = by_either (under_shorter t w u) (λ e. (let same = ap (λ z. length (sels_of z)) e in (omega arith))) (λ less. (omega arith))

  -- nor is what begins the name, if that is open as a whole
  pub open_above : (u w : Way) → IsName u → OpenWhole facts u → Under w (expand v u) → IsMovedBy home v facts w → ⊥
  open_above u w plain free above (m, moved, same) =
      by_either (met m u (moved_plain m moved) plain (subst (λ z. Under z (expand v u)) (sym same) above))
      (λ under. (free.moved (name_of m) moved.1 (under_leads m u under)))
      (λ more. (by_either more
      (λ a. (free.lent a.object (name_of (v.loan a.object)) (loan_of a.object a.lends)
      (under_leads (v.loan a.object) u (under_on (v.loan a.object) a.name u a.loan a.begins))))
      (λ more. (by_either more
      (λ b. (not_beside m u moved b))
      (λ loans. (by_either loans (λ c. (no_both c)) (λ lone. (by_either lone (λ l. (moved_lone m u moved l)) (λ l. (lone_whole u m w free l same above))))))))))

  -- so it isn't the name itself
  pub open_itself : (u : Way) → IsName u → OpenWhole facts u → IsMovedBy home v facts (expand v u) → ⊥
  open_itself u plain free moved = open_above u (expand v u) plain free (under_itself (expand v u)) moved

  -- what was moved isn't what a name through a formal that is only seen stands for, nor does one begin
  -- the other
  foreign_off : (u w : Way) (l : Lifted v u) → IsPassed home observer v s l.object l.way → observer l.object ≡ true → Meet w (expand v u)
      → IsMovedBy home v facts w → ⊥
  foreign_off u w l passed is meets (m, moved, same) =
      let (loan, changed, c) = off_seen home observer v s facts viewed.views other.lent unviewed viewed.shown m (moved_plain m moved) l.object l.way l.has passed is
      (meets_front l.way (expand v u) (expand v m) (subst (Under l.way) (sym (lifted_way v u l)) (on_under l.way l.rest))
      (subst (λ z. Meet z (expand v u)) (sym same) meets)) in
      unmoved_loan m loan (number_of c.place) c.place moved (lent_fact loan c.place c.lent_it) (only_itself loan c.place m c.lent_it c.meets)

  seen_way_own : (u w : Way) (l : Lifted v u) → IsView home observer v s facts l.object l.way → Named home u → observer l.object ≡ true → Under w (expand v u)
      → IsMovedBy home v facts w → ⊥
  seen_way_own u w l view named is above (m, moved, same) =
      let on = next home observer v s facts viewed.views u l view named in
      let y : Way = next_of v u l in
      let loan = subst (λ z. HasLoan observer z l.object facts (name_of (v.loan l.object))) is view.lent in
      let upper : Under (expand v m) (expand v y) =
      subst (Under (expand v m)) (sym on.same) (subst (λ z. Under z (expand v u)) (sym same) above) in
      by_either (met m y (moved_plain m moved) on.plain upper)
      (λ under. (unmoved_loan m Observed loan.0 (v.loan l.object) moved loan.1 (beginnings m (v.loan l.object) y under on.loan)))
      (λ more. (by_either more
      (λ a. (viewed.clear.seen a.object loan.0 (name_of (v.loan a.object)) (name_of (v.loan l.object)) (loan_of a.object a.lends) loan.1
      (meet_overlaps (v.loan a.object) (v.loan l.object)
      (beginnings (v.loan a.object) (v.loan l.object) y (under_on (v.loan a.object) a.name y a.loan a.begins) on.loan))))
      (λ more. (by_either more
      (λ b. (not_beside m y moved b))
      (λ loans. (by_either loans
      (λ c. (no_both c))
      (λ lone. (by_either lone
      (λ k. (moved_lone m y moved k))
      (λ k. (seen_lent k.place k.lent_it loan.0 (v.loan l.object) loan.1 (meets_on (v.loan l.object) y k.place on.loan (lone_meets y m k))))))))))))

  -- nothing that was moved begins a name through an observer, or lies above it
  pub seen_above : (u w : Way) (l : Lifted v u) → Named home u → observer l.object ≡ true → Under w (expand v u) → IsMovedBy home v facts w → ⊥
  seen_above u w l named is above moved = by_either (viewed.views.0 l.object l.way l.has)
      (λ view. (seen_way_own u w l view named is above moved))
      (λ passed. (foreign_off u w l passed is (inl above) moved))

  pub seen_way : (u w : Way) (l : Lifted v u) → Named home u → observer l.object ≡ true → Past w (expand v u) → IsMovedBy home v facts w → ⊥
  seen_way u w l named is past moved = seen_above u w l named is (past_under w (expand v u) past) moved

  -- what a moved name stands for lies in what a name that overlaps nothing borrowed does only if the one begins the other
  pub begun_name : (u m : Way) → IsName u → Unborrowed facts u → IsMoved home facts m → Under (expand v u) (expand v m) → Under u m
  begun_name u m plain unborrowed moved under =
      by_either (met u m plain (moved_plain m moved) under)
      (λ below. (below))
      (λ more. (by_either more
      (λ a. (absurd (unmoved_loan m Borrowed a.object (v.loan a.object) moved (loan_of a.object a.lends)
      (inr (under_on (v.loan a.object) a.name m a.loan a.begins)))))
      (λ more. (by_either more
      (λ b. (absurd (unborrowed b.object (name_of (v.loan b.object)) (loan_of b.object b.lends) (meet_overlaps (v.loan b.object) u (flip u (v.loan b.object) b.meets)))))
      (λ loans. (by_either loans
      (λ c. (absurd (no_both c)))
      (λ lone. (by_either lone
      (λ l. (absurd (unborrowed (number_of l.place) (name_of l.place) (lent_fact Borrowed l.place l.lent_it) (meet_overlaps l.place u (flip u l.place (lone_meets u m l))))))
      (λ l. (absurd (moved_lone m u moved l)))))))))))

  pub clean_name : (u m : Way) → IsName u → Unborrowed facts u → IsMoved home facts m → (Under u m → ⊥) → Under (expand v u) (expand v m) → ⊥
  clean_name u m plain unborrowed moved off under = off (begun_name u m plain unborrowed moved under)

  -- nothing that was moved is, or lies in, a name that overlaps nothing moved or borrowed
  pub clean_below : (u w : Way) → IsName u → Unborrowed facts u → Unmoved facts u → Under (expand v u) w → IsMovedBy home v facts w → ⊥
  clean_below u w plain unborrowed unmoved under (m, moved, same) =
      clean_name u m plain unborrowed moved (λ below. unmoved (name_of m) moved.1 (meet_overlaps m u (inr below))) (subst (Under (expand v u)) (sym same) under)

  seen_below_own : (u w : Way) (l : Lifted v u) → IsView home observer v s facts l.object l.way → Named home u → observer l.object ≡ true → Under (expand v u) w
      → IsMovedBy home v facts w → ⊥
  seen_below_own u w l view named is under (m, moved, same) =
      let on = next home observer v s facts viewed.views u l view named in
      let y : Way = next_of v u l in
      let loan = subst (λ z. HasLoan observer z l.object facts (name_of (v.loan l.object))) is view.lent in
      let lower : Under (expand v y) (expand v m) = subst (λ z. Under z (expand v m)) (sym on.same) (subst (Under (expand v u)) (sym same) under) in
      by_either (met y m on.plain (moved_plain m moved) lower)
      (λ below. (unmoved_loan m Observed loan.0 (v.loan l.object) moved loan.1 (inr (under_on (v.loan l.object) y m on.loan below))))
      (λ more. (by_either more
      (λ a. (unmoved_loan m Borrowed a.object (v.loan a.object) moved (loan_of a.object a.lends)
      (inr (under_on (v.loan a.object) a.name m a.loan a.begins))))
      (λ more. (by_either more
      (λ b. (viewed.clear.seen b.object loan.0 (name_of (v.loan b.object)) (name_of (v.loan l.object)) (loan_of b.object b.lends) loan.1
      (meet_overlaps (v.loan b.object) (v.loan l.object)
      (flip (v.loan l.object) (v.loan b.object) (meets_on (v.loan l.object) y (v.loan b.object) on.loan b.meets)))))
      (λ loans. (by_either loans
      (λ c. (no_both c))
      (λ lone. (by_either lone
      (λ k. (seen_lent k.place k.lent_it loan.0 (v.loan l.object) loan.1 (meets_on (v.loan l.object) y k.place on.loan (lone_meets y m k))))
      (λ k. (moved_lone m y moved k))))))))))

  -- nothing that was moved is, or lies in, what a name through an observer stands for
  pub seen_below : (u w : Way) (l : Lifted v u) → Named home u → observer l.object ≡ true → Under (expand v u) w → IsMovedBy home v facts w → ⊥
  seen_below u w l named is under moved = by_either (viewed.views.0 l.object l.way l.has)
      (λ view. (seen_below_own u w l view named is under moved))
      (λ passed. (foreign_off u w l passed is (inr under) moved))

  -- nor does what a part of a formal designates, or what lies above or below it
  part_off : (u w : Way) (l : InPart v u) → Meet w (expand v u) → IsMovedBy home v facts w → ⊥
  part_off u w l meets (m, moved, same) =
      let (loan, c) = off_part home observer v s facts viewed.views other.lent unviewed viewed.shown m (moved_plain m moved) l.object l.steps l.way l.has
      (meets_front l.way (expand v u) (expand v m) (subst (Under l.way) (sym (in_part_way v u l)) (on_under l.way l.rest))
      (subst (λ z. Meet z (expand v u)) (sym same) meets)) in
      unmoved_loan m loan (number_of c.place) c.place moved (lent_fact loan c.place c.lent_it) (only_itself loan c.place m c.lent_it c.meets)

  pub part_above : (u w : Way) (l : InPart v u) → Under w (expand v u) → IsMovedBy home v facts w → ⊥
  part_above u w l above moved = part_off u w l (inl above) moved

  pub part_below : (u w : Way) (l : InPart v u) → Under (expand v u) w → IsMovedBy home v facts w → ⊥
  part_below u w l under moved = part_off u w l (inr under) moved

  -- names that don't overlap, of which no part is borrowed, stand for ways that don't meet
  pub apart_above : (u y : Way) → IsName u → IsName y → Unborrowed facts u → Unborrowed facts y → (overlaps (name_of u) (name_of y) ≡ true → ⊥)
      → Under (expand v u) (expand v y) → ⊥
  apart_above u y pu py free_u free_y apart under =
      elim (met u y pu py under) [
        | inl above ↦ apart (meet_overlaps u y (inl above))
        | inr more ↦ elim more [
          | inl a ↦ free_y a.object (name_of (v.loan a.object)) (loan_of a.object a.lends)
              (meet_overlaps (v.loan a.object) y (inl (under_on (v.loan a.object) a.name y a.loan a.begins)))
          | inr more ↦ elim more [
            | inl b ↦ free_u b.object (name_of (v.loan b.object)) (loan_of b.object b.lends)
                (meet_overlaps (v.loan b.object) u (flip u (v.loan b.object) b.meets))
            | inr loans ↦ elim loans [
              | inl c ↦ no_both c
              | inr lone ↦ elim lone [
                | inl l ↦ free_u (number_of l.place) (name_of l.place) (lent_fact Borrowed l.place l.lent_it) (meet_overlaps l.place u (flip u l.place (lone_meets u y l)))
                | inr l ↦ free_y (number_of l.place) (name_of l.place) (lent_fact Borrowed l.place l.lent_it) (meet_overlaps l.place y (flip y l.place (lone_meets y u l)))
              ]
            ]
          ]
        ]
      ]

  pub apart_names : (u y : Way) → IsName u → IsName y → Unborrowed facts u → Unborrowed facts y → (overlaps (name_of u) (name_of y) ≡ true → ⊥)
      → Meet (expand v u) (expand v y) → ⊥
  apart_names u y pu py free_u free_y apart (inl under) = apart_above u y pu py free_u free_y apart under
  apart_names u y pu py free_u free_y apart (inr under) =
      apart_above y u py pu free_y free_u (λ over. apart (overlaps-sym (name_of u) (name_of y) ∙ over)) under

  abbrev own_name : ℕ → Way
  own_name x = All (Object (OfVariable (home x) x))

  -- what others have lent isn't rooted in a view
  pub no_place : (x : ℕ) (w : Way) → v.way x ≡ Some w → (l : Loan) (k : Way) → other.lent l (name_of k) → number_of k ≡ x → ⊥
  no_place x w has l k lent e = (let no : Some w ≡ None = sym has ∙ ap v.way (sym e) ∙ unviewed l (name_of k) lent in absurd (true≢false (ap is_some no)))

  -- what a view was given doesn't begin at a view
  given_root : (x o : ℕ) (w u : Way) → v.way x ≡ Some w → v.way o ≡ Some u → IsPassed home observer v s o u → base_of u ≡ OfRoot (OfVariable (home x) x)
      → number_of u ≡ x → ⊥
  given_root x o w u has there passed base number = elim (home_or_foreign home u passed.begins) [
    | inr foreign ↦ not_foreign home observer v s facts viewed.views (Object (OfVariable (home x) x)) u refl foreign (sym base)
    | inl named ↦ (let (l, (k, at_home, under, lent), changed) = viewed.shown.0 o u there passed.given named in
        no_place x w has l k lent (sym (longer k u under).root ∙ number))
  ]

  -- the way of a borrower doesn't begin at the borrower
  not_itself : (x : ℕ) (w : Way) → v.way x ≡ Some w → observer x ≡ false → base_of w ≡ OfRoot (OfVariable (home x) x) → number_of w ≡ x → ⊥
  not_itself x w has is base number = elim (viewed.views.0 x w has) [
    | inr passed ↦ given_root x x w w has has passed base number
    | inl view ↦ (
        let plain : IsName (v.up x) = (view.named, view.plain) in
        let less = view.older is in
        let same = ap number_of view.leads in
        elim (stands home observer v s facts viewed.views (v.up x) plain) [
          | inl own ↦ (let most = own.most in absurd (omega arith))
          | inr held ↦ given_root x held.object w held.way has held.has held.passed
              (sym (longer held.way (expand v (v.up x)) held.under).base ∙ ap base_of view.leads ∙ base)
              (sym (longer held.way (expand v (v.up x)) held.under).root ∙ same ∙ number)
        ])
  ]

  -- the way of a borrower of the frame whose way is named is rooted in an older object, or goes on from a place that
  -- others have borrowed
  pub root_before : (x : ℕ) (w : Way) → v.way x ≡ Some w → observer x ≡ false → Named home w → (number_of w < x) ⊎ IsThrough home other.lent Borrowed w
  root_before x w has is named = elim (viewed.views.0 x w has) [
    | inr passed ↦ inr (let (l, (k, at_home, under, lent), changed) = viewed.shown.0 x w has passed.given named in
        (k, at_home, under, subst (λ z. other.lent z (name_of k)) (changed is) lent))
    | inl view ↦ (
        let less = view.older is in
        let same = ap number_of view.leads in
        elim (stands home observer v s facts viewed.views (v.up x) (view.named, view.plain)) [
          | inl own ↦ inl (let most = own.most in (omega arith))
          | inr held ↦ inr (
              let at_home = named_base_of home held.way (number_of w)
              (sym (longer held.way (expand v (v.up x)) held.under).base ∙ ap base_of view.leads ∙ named_base home w named) in
              let (l, (k, there, under, lent), changed) = viewed.shown.0 held.object held.way held.has held.passed.given at_home in
              (k, there, subst (Under k) view.leads (under_on k held.way (expand v (v.up x)) under held.under), subst (λ z. other.lent z (name_of k)) (changed held.plain) lent))
        ])
  ]

  -- a name that overlaps no loan isn't above the way of a view
  off_borrower : (u : Way) (x : ℕ) (w : Way) → IsName u → Unlent facts u → v.way x ≡ Some w → observer x ≡ false → Past (expand v u) w → ⊥
  off_borrower u x w plain unlent has is past =
      let leads : expand v (own_name x) ≡ w = ap (λ z. expand_root z (OfVariable (home x) x)) has in
      let under : Under (expand v u) (expand v (own_name x)) = subst (Under (expand v u)) (sym leads) (past_under (expand v u) w past) in
      by_either (met u (own_name x) plain (refl, is) under)
      (λ above. (not_own u above refl))
      (λ more. (by_either more
      (λ a. (not_own a.name a.begins a.same))
      (λ more. (by_either more
      (λ b. (unlent Borrowed b.object (name_of (v.loan b.object)) (loan_of b.object b.lends)
      (meet_overlaps (v.loan b.object) u (flip u (v.loan b.object) b.meets))))
      (λ loans. (by_either loans
      (λ c. (no_both c))
      (λ lone. (by_either lone
      (λ l. (unlent Borrowed (number_of l.place) (name_of l.place) (lent_fact Borrowed l.place l.lent_it)
      (meet_overlaps l.place u (flip u l.place (lone_meets u (own_name x) l)))))
      (λ l. (no_place x w has Borrowed l.place l.lent_it (by_either (lone_meets (own_name x) u l) (λ a. ((longer (own_name x) l.place a).root)) (λ a. (sym (longer l.place (own_name x) a).root)))))))))))))
    where
      not_own : (n : Way) → Under n (own_name x) → expand v n ≡ expand v u → ⊥
      not_own n above same = by_either above
          (λ e. (
          let leads : expand v (own_name x) ≡ w = ap (λ z. expand_root z (OfVariable (home x) x)) has in
          not_past w [] (subst (λ z. Past z w) (sym same ∙ ap (expand v) e ∙ leads) past)))
          (λ e. (
          let is_object : expand v u ≡ Object (OfVariable (home x) x) = sym same ∙ ap (expand v) e in
          let long = longer (expand v u) w (past_under (expand v u) w past) in
          not_itself x w has is (long.base ∙ ap base_of is_object) (long.root ∙ ap number_of is_object)))

  off_observer : (u : Way) (x : ℕ) (w : Way) → IsName u → Unlent facts u → IsView home observer v s facts x w → observer x ≡ true → Past (expand v u) w → ⊥
  off_observer u x w plain unlent view is past =
      let loan = subst (λ z. HasLoan observer z x facts (name_of (v.loan x))) is view.lent in
      let under : Under (expand v u) (expand v (v.up x)) = subst (Under (expand v u)) (sym view.leads) (past_under (expand v u) w past) in
      by_either (met u (v.up x) plain (view.named, view.plain) under)
      (λ above. (unlent Observed loan.0 (name_of (v.loan x)) loan.1
      (meet_overlaps (v.loan x) u (beginnings (v.loan x) u (v.up x) view.begins above))))
      (λ more. (by_either more
      (λ a. (viewed.clear.seen a.object loan.0 (name_of (v.loan a.object)) (name_of (v.loan x)) (loan_of a.object a.lends) loan.1
      (meet_overlaps (v.loan a.object) (v.loan x)
      (beginnings (v.loan a.object) (v.loan x) (v.up x) (under_on (v.loan a.object) a.name (v.up x) a.loan a.begins) view.begins))))
      (λ more. (by_either more
      (λ b. (unlent Borrowed b.object (name_of (v.loan b.object)) (loan_of b.object b.lends)
      (meet_overlaps (v.loan b.object) u (flip u (v.loan b.object) b.meets))))
      (λ loans. (by_either loans
      (λ c. (no_both c))
      (λ lone. (by_either lone
      (λ l. (unlent Borrowed (number_of l.place) (name_of l.place) (lent_fact Borrowed l.place l.lent_it)
      (meet_overlaps l.place u (flip u l.place (lone_meets u (v.up x) l)))))
      (λ l. (seen_lent l.place l.lent_it loan.0 (v.loan x) loan.1 (meets_on (v.loan x) (v.up x) l.place view.begins (lone_meets (v.up x) u l))))))))))))

  pub off_view : (u : Way) (x : ℕ) (w : Way) → IsName u → Unlent facts u → v.way x ≡ Some w → Past (expand v u) w → ⊥
  off_view u x w plain unlent has past = by_kind (observer x) refl
    where
      by_kind : (b : Bool) → observer x ≡ b → ⊥
      by_kind true e = by_either (viewed.views.0 x w has)
          (λ view. (off_observer u x w plain unlent view e past))
          (λ passed. (let (loan, changed, c) = off_seen home observer v s facts viewed.views other.lent unviewed viewed.shown u plain x w has passed e
          (inl (past_under (expand v u) w past)) in
          unlent loan (number_of c.place) (name_of c.place) (lent_fact loan c.place c.lent_it)
          (meet_overlaps c.place u (flip u c.place (only_itself loan c.place u c.lent_it c.meets)))))
      by_kind false e = off_borrower u x w plain unlent has e past

  pub off_parts : (u : Way) (x : ℕ) (p : List Step) (w : Way) → IsName u → Unlent facts u → v.part_way x p ≡ Some w → Past (expand v u) w → ⊥
  off_parts u x p w plain unlent has past =
      let (loan, c) = off_part home observer v s facts viewed.views other.lent unviewed viewed.shown u plain x p w has (inl (past_under (expand v u) w past)) in
      unlent loan (number_of c.place) (name_of c.place) (lent_fact loan c.place c.lent_it)
      (meet_overlaps c.place u (flip u c.place (only_itself loan c.place u c.lent_it c.meets)))
