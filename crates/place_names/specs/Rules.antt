-- What one fact forbids at one act (docs/RULES.md, "Rules").
use Rattle.std.specs.Prelude.{ℕ, Bool, false, ◌&&◌, ◌||◌, ◌==◌, List, [], ◌∷◌, Option, Some, None, if◌then◌else◌}
use Rattle.std.specs.List.{list_any}
use Rattle.place_names.specs.declared.act.Mode.{Mode}
use Rattle.place_names.specs.declared.act.Mode.TheVariants.{In, Out, InOut}
use Rattle.place_names.specs.declared.rule.Loan.TheVariants.{Borrowed, Observed}
use Rattle.place_names.specs.declared.rule.State.{State}
use Rattle.place_names.specs.declared.rule.State.TheVariants as state
use Rattle.place_names.specs.declared.rule.Rule.{Rule}
use Rattle.place_names.specs.declared.rule.Rule.TheVariants.{O1, O2, O3, O4, O5, O6, O7, O8, O9, O10, O11, O14}
use Rattle.place_names.specs.Names.{Name, object, overlaps, leads_to, strict_prefixes}
use Rattle.place_names.specs.declared.act.Act.{Act}
use Rattle.place_names.specs.declared.act.Act.TheVariants.{Read, Look, Write, Move, Borrow, Observe, Reborrow, EndScope, Return, Actual, Global, Free, Give}
use Rattle.place_names.specs.declared.fact.Fact.{Fact}
use Rattle.place_names.specs.declared.fact.Fact.TheVariants.{Moved, Lent}
use Rattle.place_names.specs.Facts.{place}

-- The place was moved or is lent to a borrower, and overlaps m.
abbrev pub moved_or_borrowed : Name → Fact → Bool
moved_or_borrowed m (Moved n) = overlaps n m
moved_or_borrowed m (Lent Borrowed h n) = overlaps n m
moved_or_borrowed m (Lent Observed h n) = false

-- The place was moved or is lent, to a borrower or an observer, and overlaps m.
abbrev pub moved_or_lent : Name → Fact → Bool
moved_or_lent m f = overlaps (place f) m

-- The place is lent, to a borrower or an observer, and overlaps k.
abbrev pub lent : Name → Fact → Bool
lent k (Moved n) = false
lent k (Lent l h n) = overlaps n k

-- The place was moved, and leads to m.
abbrev pub moved_above : Name → Fact → Bool
moved_above m (Moved n) = leads_to n m
moved_above m (Lent l h n) = false

-- The place is lent to a borrower, and leads to m.
abbrev pub borrowed_above : Name → Fact → Bool
borrowed_above m (Moved n) = false
borrowed_above m (Lent Borrowed h n) = leads_to n m
borrowed_above m (Lent Observed h n) = false

-- The place was moved, and is one of some objects or a part of one.
abbrev pub moved_in : List ℕ → Fact → Bool
moved_in roots (Moved n) = list_any (λ x. x == n.root) roots
moved_in roots (Lent l h n) = false

-- A read: nothing that overlaps m may be moved or borrowed.
abbrev pub breaks_O1 : Name → Fact → Bool
breaks_O1 m f = moved_or_borrowed m f

-- A comparison with null looks at m alone, not below it: neither m nor a place that leads to it may
-- be moved or borrowed.
abbrev pub breaks_O2 : Name → Fact → Bool
breaks_O2 m f = moved_above m f || borrowed_above m f

-- A write needs the path to k, which has to pass as a comparison does, and nothing that overlaps k
-- may be lent. k itself may be moved.
abbrev pub breaks_O3 : Name → Fact → Bool
breaks_O3 k f = list_any (λ p. breaks_O2 p f) (strict_prefixes k) || lent k f

-- A move: nothing that overlaps m may be moved or lent.
abbrev pub breaks_O4 : Name → Fact → Bool
breaks_O4 m f = moved_or_lent m f

-- A borrow: nothing that overlaps m may be moved or lent.
abbrev pub breaks_O5 : Name → Fact → Bool
breaks_O5 m f = moved_or_lent m f

-- An observation: nothing that overlaps m may be moved or borrowed. Other observers may be there.
abbrev pub breaks_O6 : Name → Fact → Bool
breaks_O6 m f = moved_or_borrowed m f

-- A reborrow: no part of the borrower may be moved or lent.
abbrev pub breaks_O7 : ℕ → Fact → Bool
breaks_O7 b f = moved_or_lent (object b) f

-- The end of a borrower: it has to give back all that it borrowed. Other objects may end with moved
-- parts.
abbrev pub breaks_O8 : ℕ → Bool → Fact → Bool
breaks_O8 x borrower f = borrower && moved_in (x ∷ []) f

-- The end of a call: no part of a formal or package object may be moved.
abbrev pub breaks_O9 : List ℕ → Fact → Bool
breaks_O9 roots f = moved_in roots f

-- An actual, by its mode and its type.
abbrev pub breaks_O10 : Name → Mode → Bool → Bool → Fact → Bool
-- mode in, a named access type, in a procedure call: as a borrow; mode in and an owning type, in
-- every other case: as an observation; other actuals of mode in are no acts
breaks_O10 m In owning access f = if access then breaks_O5 m f else (owning && breaks_O6 m f)
-- mode in out, an owning type: as a move; mode in out, a type that isn't owning: as a read or as a
-- write
breaks_O10 m InOut owning access f = if owning then breaks_O4 m f else (breaks_O1 m f || breaks_O3 m f)
-- mode out: as a write
breaks_O10 m Out owning access f = breaks_O3 m f

-- A call whose callee uses a package object: only read, as an observation of it; written, as a move
-- of it.
abbrev pub breaks_O11 : ℕ → Bool → Fact → Bool
breaks_O11 g written f = if written then breaks_O4 (object g) f else breaks_O6 (object g) f

-- A deallocation: neither k nor a place that leads to it may be moved, and nothing that overlaps k
-- may be lent.
abbrev pub breaks_O14 : Name → Fact → Bool
breaks_O14 k f = moved_above k f || lent k f

-- What a report says of a fact: moved, or the loan's kind.
abbrev pub word : Fact → State
word (Moved n) = state.Moved
word (Lent Borrowed h n) = state.Borrowed
word (Lent Observed h n) = state.Observed

-- A rule that a fact breaks at an act, the name and the word.
pub record Forbidden : Type 0 where
  pub rule : Rule
  pub name : Name
  pub word : State

-- A rule and a name, where a test by the fact succeeds.
abbrev pub forbidden_if : Bool → Rule → Name → Fact → Option Forbidden
forbidden_if test r m f = if test then Some (record { rule = r; name = m; word = word f }) else None

-- What a fact forbids at an act. The name is the act's, and for the ends of scopes and of calls the
-- moved one.
abbrev pub forbids : Act → Fact → Option Forbidden
forbids (Read m) f = forbidden_if (breaks_O1 m f) O1 m f
forbids (Look m) f = forbidden_if (breaks_O2 m f) O2 m f
forbids (Write k) f = forbidden_if (breaks_O3 k f) O3 k f
forbids (Move m parts) f = forbidden_if (breaks_O4 m f) O4 m f
forbids (Borrow h m) f = forbidden_if (breaks_O5 m f) O5 m f
forbids (Observe h m from_observer) f = forbidden_if (breaks_O6 m f) O6 m f
forbids (Reborrow b m) f = forbidden_if (breaks_O7 b f) O7 (object b) f
forbids (EndScope x borrower) f = forbidden_if (breaks_O8 x borrower f) O8 (place f) f
forbids (Return roots) f = forbidden_if (breaks_O9 roots f) O9 (place f) f
forbids (Actual m mode owning access) f = forbidden_if (breaks_O10 m mode owning access f) O10 m f
forbids (Global g written) f = forbidden_if (breaks_O11 g written f) O11 (object g) f
forbids (Free k) f = forbidden_if (breaks_O14 k f) O14 k f
-- a borrow or an observation, by what the function gives
forbids (Give m borrows) f = if borrows then forbidden_if (breaks_O5 m f) O5 m f else forbidden_if (breaks_O6 m f) O6 m f
