-- A call of `handled_steps`, part by part.
use Rattle.std.proofs.Common.{◌≡◌, ◌+◌, ◌-◌, ℕ, Bool, true, false, List, [], ◌∷◌, ◌++◌, map, length, take, drop, nat_le, refl, sym, ap, subst, ◌∙◌, arith, Option, ℤ, if◌then◌else◌}
use Rattle.std.specs.Prelude.{reverse}
use Rattle.std.proofs.lemmas.List.{map-append}
use Rattle.std.proofs.lemmas.List.Sums.{sum_by-cons}
use Rattle.type_definitions.specs.Types.{Table}
use Rattle.machine.specs.Evaluate.{StorageError}
use Rattle.machine.specs.States.{Leak, stack_words}
use Rattle.run_codes.specs.Codes.{Sub, Actual}
use Rattle.run_codes.specs.Flat.{Got, Given, Stops, Broken, Stop, Raises, InStack, and_then, is_broken, kinds}
use Rattle.run_codes.specs.Points.{Held, Passed, Value, FromSpot, ToSpot, frames_words, returns_of, sub_at}
use Rattle.run_codes.specs.Points as points
use Rattle.handled_runs.specs.Slots.{Slots, held}
use Rattle.handled_runs.specs.Changes.{stored, settled, moving}
use Rattle.handled_runs.specs.Leaks.{leaks_at}
use Rattle.machine.specs.Words.{access_offsets}
use Rattle.handled_steps.specs.States.{Outcome, Goes, Fails, Turn, start, halted, on_got, with_frame, frame_of}
use Rattle.handled_steps.specs.Steps.{Passing, Passes, Stopping, Failing, PassesAll, CallsSub, on_settled, out_leaks, with_formal, with_formals, begins, begun_with, entered}
use Rattle.made_cells.specs.Since.{Since, PassedSince}
use Rattle.made_cells.proofs.Actuals.{all_since}
use Rattle.slot_frames.specs.declared.rows.Frame.{Frame}
use Rattle.slot_frames.specs.Frames.{return_of, frames_in}
use Rattle.slot_frames.specs.Parts.{all_held, outside}
use Rattle.slot_frames.proofs.Waits.{first_last}
use Rattle.slot_runs.specs.Turns.{is_failing}
use Rattle.slot_stages.specs.Stages.{Stage, running}
use Rattle.slot_entries.specs.Entries.{stacked_words}
use Rattle.slot_entries.proofs.Entries.{words_in, words_first, words_last}
use Rattle.slot_formals.specs.slot_calls.declared.actuals.Pass.{Pass}
use Rattle.slot_formals.specs.slot_calls.declared.actuals.Pass.TheVariants as pass
use Rattle.slot_formals.specs.slot_calls.Calls.{passed_of}
use Rattle.slot_formals.specs.Formals.{framed, rows_of, returned}
use Rattle.slot_words.proofs.Never.{Never, given_of, never_given, never_then, held_never, leaks_never, stored_never, settled_never}
use Rattle.slot_called.specs.Calls.{has_room, tested, on_passes, PassesTested}
use Rattle.slot_called.proofs.Framed.{framed_is}

-- ---- the words of all frames

words_reversed : (fs : List Frame) → words_in (reverse fs) ≡ words_in fs
words_reversed [] = refl
words_reversed (f ∷ fs) =
    ap words_in (first_last fs f) ∙ words_last (reverse fs) f ∙ ap (λ n. n + f.words) (words_reversed fs) ∙ turned (words_in fs) f.words ∙ sym (words_first f fs)
  where
    turned : (a b : ℕ) → a + b ≡ b + a
    turned a b = omega arith

words_of_all : (hs : List Held) (rs : List points.Return) (fs : List Frame) → frames_words (frames_in hs rs fs) ≡ words_in fs
words_of_all hs rs [] = refl
words_of_all hs rs (f ∷ fs) =
    sum_by-cons (λ n. n) f.words (map (λ (g : points.Frame). g.words) (frames_in (drop (length hs - f.waits) hs) (take f.returns rs) fs))
    ∙ ap (λ n. f.words + n) (words_of_all (drop (length hs - f.waits) hs) (take f.returns rs) fs)
    ∙ sym (words_first f fs)

-- They are those that the rows count.
pub words_right : {R : Type 0} (r : Stage R) → frames_words (running r ∷ outside r.stacked r.kept.waits) ≡ stacked_words r.stacked
unfolding outside
words_right r =
    let hs = all_held r.stacked r.kept.waits in
    sum_by-cons (λ n. n) r.stacked.frame.words (map (λ (g : points.Frame). g.words) (outside r.stacked r.kept.waits))
    ∙ ap (λ n. r.stacked.frame.words + n)
    (words_of_all (drop (length hs - r.stacked.frame.waits) hs) (take r.stacked.frame.returns (map return_of r.stacked.returns)) (reverse r.stacked.outer)
    ∙ words_reversed r.stacked.outer)

-- ---- what is copied back

row_right : (at formal : ℕ) (p : Pass) (zs : List ℤ) → map return_of (rows_of at formal p) ≡ points.return_of at formal (passed_of zs p)
row_right at formal (pass.Value first end) zs = refl
row_right at formal (pass.From s of) zs = refl
row_right at formal (pass.To s of pos) zs = refl

pub rows_right : (table : Table) (at : ℕ) (fs : List ℕ) (ps : List Pass) (zs : List ℤ) → map return_of (returned table at fs ps) ≡ returns_of table at fs (map (passed_of zs) ps)
rows_right table at [] ps zs = refl
rows_right table at (f ∷ fs) [] zs = refl
rows_right table at (f ∷ fs) (p ∷ ps) zs =
    let next : ℕ = at + length (kinds table f) in
    map-append return_of (rows_of at f p) (returned table next fs ps)
    ∙ ap (λ l. l ++ map return_of (returned table next fs ps)) (row_right at f p zs)
    ∙ ap (λ l. points.return_of at f (passed_of zs p) ++ l) (rows_right table next fs ps zs)

-- ---- what never stops

outs_never : (table : Table) (s : Slots) (passed : List Passed) → Never (out_leaks table s passed)
outs_never table s [] = never_given []
outs_never table s (Value zs ∷ rest) = outs_never table s rest
outs_never table s (FromSpot q of ∷ rest) = outs_never table s rest
outs_never table s (ToSpot q of p ∷ rest) =
    never_then (leaks_at table s q of p) (λ leaks. and_then (out_leaks table s rest) (λ more. Given (leaks ++ more))) (leaks_never table s q of p)
    (λ leaks. never_then (out_leaks table s rest) (λ more. Given (leaks ++ more)) (outs_never table s rest) (λ more. never_given (leaks ++ more)))

formal_never : (table : Table) (at f : ℕ) (p : Passed) (s : Slots) → Never (with_formal table at f p s)
formal_never table at f (Value zs) s = stored_never s (InStack at) (kinds table f) zs
formal_never table at f (FromSpot q of) s =
    let moved : Slots = moving s q (kinds table of) (access_offsets table of) in
    never_then (held s q (kinds table of)) (λ zs. stored moved (InStack at) (kinds table f) zs) (held_never s q (kinds table of)) (λ zs. stored_never moved (InStack at) (kinds table f) zs)
formal_never table at f (ToSpot q of p) s = never_given (moving s q (kinds table of) (access_offsets table of))

formals_never : (table : Table) (at : ℕ) (fs : List ℕ) (ps : List Passed) (s : Slots) → Never (with_formals table at fs ps s)
formals_never table at [] ps s = never_given s
formals_never table at (f ∷ fs) [] s = never_given s
formals_never table at (f ∷ fs) (p ∷ ps) s =
    let next : ℕ = at + length (kinds table f) in
    never_then (with_formal table at f p s) (with_formals table next fs ps) (formal_never table at f p s) (λ t. formals_never table next fs ps t)

-- ---- where the frame begins

-- What was moved is gone, leaks are checked, the formals have their values, and what the actuals move is gone, too.
pub record Entered (table : Table) (sub : Sub) (passed : List Passed) (s : Slots) : Type 0 where
  pub before : Slots
  pub gone : settled s ≡ Given before
  pub leaks : List Leak
  pub outs : out_leaks table before passed ≡ Given leaks
  pub filled : Slots
  pub formals : with_formals table (length s.stack) sub.formals passed (with_frame table sub s) ≡ Given filled
  pub memory : Slots
  pub last : settled filled ≡ Given memory

pub entered_framed : (table : Table) (sub : Sub) (passed : List Passed) (s : Slots) (e : Entered table sub passed s)
    → framed table sub passed s ≡ Given (record { memory = e.memory; leaks = e.leaks })
entered_framed table sub passed s e = framed_is table sub passed s e.before e.filled e.memory e.leaks e.gone e.outs e.formals e.last

pub whole_of : {A : Type 0} (t : Turn) (s : Slots) (g : Got A) (f : A → Outcome) → is_failing (on_got t s g f) ≡ false → is_broken g ≡ false
whole_of t s (Given a) f is = refl
whole_of t s (Stops x) f is = refl
whole_of t s Broken f is = absurd (let never : true ≡ false = is in cc)

-- What is got and isn't broken is given, and what follows doesn't fail.
given_then : {A : Type 0} (t : Turn) (s : Slots) (g : Got A) (f : A → Outcome) → Never g → is_failing (on_got t s g f) ≡ false
    → (a : A) × (g ≡ Given a) × (is_failing (f a) ≡ false)
given_then t s g f never fine =
    let (a, is) = given_of g never (whole_of t s g f fine) in
    (a, is, sym (ap (λ x. is_failing (on_got t s x f)) is) ∙ fine)

module _ (t : Turn) (sub : Sub) (n : Option ℕ) (passed : List Passed) (s : Slots) where
  abbrev filling : List Leak → Outcome
  filling leaks = on_got t s (with_formals t.table (length s.stack) sub.formals passed (with_frame t.table sub s)) (begun_with t sub passed s n leaks)

  abbrev checking : Slots → Outcome
  checking k = on_got t s (out_leaks t.table k passed) filling

  -- A call that doesn't fail enters its frame, where there is room.
  pub entered_by : is_failing (on_settled t s checking) ≡ false → Entered t.table sub passed s
  entered_by fine =
      let (k, gone, fine_k) = given_then t s (settled s) checking (settled_never s) fine in
      let (leaks, outs, fine_l) = given_then t s (out_leaks t.table k passed) filling (outs_never t.table k passed) fine_k in
      let (f, formals, fine_f) = given_then t s (with_formals t.table (length s.stack) sub.formals passed (with_frame t.table sub s)) (begun_with t sub passed s n leaks)
      (formals_never t.table (length s.stack) sub.formals passed (with_frame t.table sub s)) fine_l in
      let (e, last, fine_e) = given_then t f (settled f) (λ e. Goes (begins t sub passed s n leaks e)) (settled_never f) fine_f in
      record { before = k; gone = gone; leaks = leaks; outs = outs; filled = f; formals = formals; memory = e; last = last }

  entered_to : (e : Entered t.table sub passed s) → on_settled t s checking ≡ Goes (begins t sub passed s n e.leaks e.memory)
  entered_to e =
      ap (λ x. on_got t s x checking) e.gone
      ∙ ap (λ x. on_got t s x filling) e.outs
      ∙ ap (λ x. on_got t s x (begun_with t sub passed s n e.leaks)) e.formals
      ∙ ap (λ x. on_got t e.filled x (λ m. Goes (begins t sub passed s n e.leaks m))) e.last

  module _ (words : ℕ) (count : frames_words (t.frame ∷ t.outer) ≡ words) where
    room_is : nat_le (frames_words (frame_of s sub [] ∷ t.frame ∷ t.outer)) stack_words ≡ has_room sub words
    room_is =
        ap (λ k. nat_le k stack_words) (sum_by-cons (λ k. k) sub.words (map (λ (g : points.Frame). g.words) (t.frame ∷ t.outer)))
        ∙ ap (λ k. nat_le (sub.words + k) stack_words) count

    in_room : (b : Bool) → has_room sub words ≡ b → entered t sub n passed s ≡ (if b then on_settled t s checking else halted t (Raises StorageError) s)
    in_room b is = ap (λ (c : Bool). if c then on_settled t s checking else halted t (Raises StorageError) s) (room_is ∙ is)

    pub enters_by : has_room sub words ≡ true → is_failing (entered t sub n passed s) ≡ false → Entered t.table sub passed s
    enters_by room fine = entered_by (ap is_failing (sym (in_room true room)) ∙ fine)

    pub enters_to : has_room sub words ≡ true → (e : Entered t.table sub passed s) → entered t sub n passed s ≡ Goes (begins t sub passed s n e.leaks e.memory)
    enters_to room e = in_room true room ∙ entered_to e

    pub enters_full : has_room sub words ≡ false → entered t sub n passed s ≡ halted t (Raises StorageError) s
    enters_full room = in_room false room

-- ---- which outcomes may come

module _ (table : Table) (sub : Sub) (words : ℕ) (actuals : List Actual) (s : Slots) where
  -- What is passed where there is room.
  pub passed_with : (ps : List Passed) (here : Slots) → PassesTested table sub words actuals s (Passes ps here)
      → PassesAll table actuals s (Passes ps here) × (has_room sub words ≡ true)
  passed_with ps here (g, may, is) = by g may is
    where
      room : (b : Bool) (qs : List Passed) (u : Slots) → has_room sub words ≡ b → PassesAll table actuals s (Passes qs u)
          → Passes ps here ≡ (if b then Passes qs u else Stopping (Raises StorageError) u) → PassesAll table actuals s (Passes ps here) × (has_room sub words ≡ true)
      room true qs u enough may same = (subst (PassesAll table actuals s) (sym same) may, enough)
      room false qs u enough may same = absurd (let never : Passes ps here ≡ Stopping (Raises StorageError) u = same in cc)

      by : (g : Passing) → PassesAll table actuals s g → Passes ps here ≡ on_passes g (tested sub words) → PassesAll table actuals s (Passes ps here) × (has_room sub words ≡ true)
      by (Passes qs u) may is = room (has_room sub words) qs u refl may is
      by (Stopping x u) may is = absurd (let never : Passes ps here ≡ Stopping x u = is in cc)
      by Failing may is = absurd (let never : Passes ps here ≡ Failing = is in cc)

  -- What fails.
  pub failing_with : PassesTested table sub words actuals s Failing → PassesAll table actuals s Failing
  failing_with (g, may, is) = by g may is
    where
      room : (b : Bool) (qs : List Passed) (u : Slots) → Failing ≡ (if b then Passes qs u else Stopping (Raises StorageError) u) → PassesAll table actuals s Failing
      room true qs u same = absurd (let never : Failing ≡ Passes qs u = same in cc)
      room false qs u same = absurd (let never : Failing ≡ Stopping (Raises StorageError) u = same in cc)

      by : (g : Passing) → PassesAll table actuals s g → Failing ≡ on_passes g (tested sub words) → PassesAll table actuals s Failing
      by (Passes qs u) may is = room (has_room sub words) qs u is
      by (Stopping x u) may is = absurd (let never : Failing ≡ Stopping x u = is in cc)
      by Failing may is = may

stopping_are : (x y : Stop) (s u : Slots) → Stopping x s ≡ Stopping y u → (x ≡ y) × (s ≡ u)
stopping_are x y s u is = ((let e : Stopping x s ≡ Stopping y u = is in cc), (let e : Stopping x s ≡ Stopping y u = is in cc))

-- The cells of before are there where an actual stops, and where there is no room.
pub tested_since : (table : Table) (sub : Sub) (words : ℕ) (actuals : List Actual) (s : Slots) (x : Stop) (here : Slots) → Since s s
    → PassesTested table sub words actuals s (Stopping x here) → Since s here
tested_since table sub words actuals s x here none (g, may, is) = by g (all_since s table actuals s g none may) is
  where
    room : (b : Bool) (qs : List Passed) (u : Slots) → Since s u → Stopping x here ≡ (if b then Passes qs u else Stopping (Raises StorageError) u) → Since s here
    room true qs u since same = absurd (let never : Stopping x here ≡ Passes qs u = same in cc)
    room false qs u since same = subst (Since s) (sym (stopping_are x (Raises StorageError) here u same).1) since

    by : (g : Passing) → PassedSince s g → Stopping x here ≡ on_passes g (tested sub words) → Since s here
    by (Passes qs u) since is = room (has_room sub words) qs u since is
    by (Stopping y u) since is = subst (Since s) (sym (stopping_are x y here u is).1) since
    by Failing since is = absurd (let never : Stopping x here ≡ Failing = is in cc)

module _ (t : Turn) (sub : ℕ) (n : Option ℕ) (actuals : List Actual) (words : ℕ) (count : frames_words (t.frame ∷ t.outer) ≡ words) where
  abbrev row : Sub
  row = sub_at t.program sub

  -- What stops is an actual, or there is no room for the frame.
  pub stops_with : (x : Stop) (here : Slots) → PassesTested t.table row words actuals (start t) (Stopping x here) → CallsSub t sub actuals n (halted t x here)
  stops_with x here (g, may, is) = by g may is
    where
      room : (b : Bool) (qs : List Passed) (u : Slots) → has_room row words ≡ b → PassesAll t.table actuals (start t) (Passes qs u)
          → Stopping x here ≡ (if b then Passes qs u else Stopping (Raises StorageError) u) → CallsSub t sub actuals n (halted t x here)
      room true qs u enough may same = absurd (let never : Stopping x here ≡ Passes qs u = same in cc)
      room false qs u enough may same =
          let (first, second) = stopping_are x (Raises StorageError) here u same in
          (Passes qs u, may, ap (λ y. halted t y here) first ∙ ap (halted t (Raises StorageError)) second ∙ sym (enters_full t row n qs u words count enough))

      by : (g : Passing) → PassesAll t.table actuals (start t) g → Stopping x here ≡ on_passes g (tested row words) → CallsSub t sub actuals n (halted t x here)
      by (Passes qs u) may is = room (has_room row words) qs u refl may is
      by (Stopping y u) may is =
          let (first, second) = stopping_are x y here u is in
          (Stopping y u, may, ap (λ z. halted t z here) first ∙ ap (halted t y) second)
      by Failing may is = absurd (let never : Stopping x here ≡ Failing = is in cc)

  pub fails_with : PassesTested t.table row words actuals (start t) Failing → CallsSub t sub actuals n Fails
  fails_with is = (Failing, failing_with t.table row words actuals (start t) is, refl)

  pub enters_with : (ps : List Passed) (here : Slots) → PassesTested t.table row words actuals (start t) (Passes ps here) → CallsSub t sub actuals n (entered t row n ps here)
  enters_with ps here is = (Passes ps here, (passed_with t.table row words actuals (start t) ps here is).0, refl)
