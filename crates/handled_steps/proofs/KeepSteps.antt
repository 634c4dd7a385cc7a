-- The law: what changes over the heap keep of counts, steps keep.
use Rattle.std.proofs.Common.{◌≡◌, refl, sym, subst, ℕ, ◌+◌, Bool, true, false, not, ◌&&◌, nat_le, List, [], ◌∷◌, ◌++◌, take, drop, length, slice_get, Option, Some, None, ℤ, pos, if◌then◌else◌}
use Rattle.std.specs.Prelude.{int_le}
use Rattle.handled_runs.specs.type_definitions.Types.{Table}
use Rattle.handled_runs.specs.run_values.declared.value.Kind.{Kind}
use Rattle.handled_runs.specs.run_values.declared.value.Kind.TheVariants as sort
use Rattle.handled_runs.specs.run_values.declared.items.Item.{Item}
use Rattle.handled_runs.specs.run_values.declared.items.Item.TheVariants as item
use Rattle.handled_runs.specs.run_values.Items.{next_item}
use Rattle.handled_runs.specs.machine.Words.{access_offsets}
use Rattle.handled_runs.specs.machine.Evaluate.{ProgramError, StorageError, DataError, EndError}
use Rattle.handled_runs.specs.machine.States.{Leak, stack_words}
use Rattle.handled_runs.specs.run_codes.Codes.{Fill, Actual, ByValue, From, To, Place, Does, Go, Put, Store, Assign, Call, Output, Input, Release, Test, Choose, Start, Next, EvaluateLeft, EvaluateRight, Hold, EndPointer, EndScope, Finish, Fall, Point, Sub}
use Rattle.handled_runs.specs.run_codes.Flat.{Got, Given, Stops, Broken, Stop, Raises, Traps, Memory, and_then, found, kinds, constraint, default_words, is_between, is_zero, Spot, InStack}
use Rattle.handled_runs.specs.run_codes.Points.{Held, Return, Frame, Passed, Value, FromSpot, ToSpot, fits, frames_words, sub_at, chosen, truth_held, given_to, next_value}
use Rattle.handled_runs.specs.run_codes.Programs.{Program}
use Rattle.handled_runs.specs.Slots.{Slots, word, spot, held}
use Rattle.handled_runs.specs.Changes.{with_stack, stored, moving, settled}
use Rattle.handled_runs.specs.Values as values
use Rattle.handled_runs.specs.Values.{Fills}
use Rattle.handled_runs.specs.Leaks.{leak, leaks_at}
use Rattle.handled_runs.specs.Assigned.{Left, assigned}
use Rattle.handled_runs.specs.Released.{released}
use Rattle.handled_steps.specs.States.{State, Outcome, Goes, Turn, waiting, are_taken, start, counted, halted, on_got, on_made, with_frame, frame_of, begun, left, led, after, goes, leaking_goes}
use Rattle.handled_steps.specs.Steps.{on_settled, put_words, in_stack, After, put, store, assign, left_goes, Passing, Passes, Stopping, Failing, on_read, passed_value, from_spot, PassesOne, with_first, Following, PassesAll, out_leaks, with_formal, with_formals, begins, begun_with, entered, on_passed, CallsSub, copied_back, returned, holding, Holds, text, writing, reading, read, choice, looped, loop_started, stack_word, turning, Done, Turned, turn_of, SteppedAt, Stepped}
use Rattle.handled_steps.proofs.Keeping.{Keeping, Still, Mid, After as AfterPoint, EndsKept, GivesMid, FillsMid, LeavesAfter, mid_stored, mid_settled, fill_mid, assigned_after, released_after}

-- ---- how steps go on and end

module _ (t : Turn) (z : Keeping t.state.memory) where
  abbrev StateAfter : State → Type 0
  StateAfter s = AfterPoint z s.memory

  begun_keeps : (f : Frame) (s : Slots) (main : Option ℕ) → AfterPoint z s → StateAfter (begun t f s main)
  begun_keeps f s None keeps = keeps
  begun_keeps f s (Some main) keeps = keeps

  left_keeps : (f : Frame) (s : Slots) (outer : List Frame) → AfterPoint z s → StateAfter (left t f s outer)
  left_keeps f s [] keeps = begun_keeps f s t.program.main keeps
  left_keeps f s (g ∷ outer) keeps = keeps

  led_keeps : (f : Frame) (s : Slots) (n : Option ℕ) → AfterPoint z s → StateAfter (led t f s n)
  led_keeps f s (Some n) keeps = keeps
  led_keeps f s None keeps = left_keeps f s t.outer keeps

  goes_so : (s : Slots) → Mid z s → AfterPoint z s
  goes_so s = z.goes s.heap s.peaks s.sizes

  left_after : (waits : List Held) (s : Slots) (n : Option ℕ) → AfterPoint z s → StateAfter (after t waits s n)
  left_after waits s n keeps = led_keeps (record t.frame { waits = waits }) s n keeps

  after_keeps : (waits : List Held) (s : Slots) (n : Option ℕ) → Mid z s → StateAfter (after t waits s n)
  after_keeps waits s n keeps = left_after waits s n (goes_so s keeps)

  halted_keeps : (x : Stop) (s : Slots) → Mid z s → EndsKept z (halted t x s)
  halted_keeps (Raises e) s keeps = z.gives_up s.heap s.peaks s.sizes keeps
  halted_keeps (Traps e) s keeps = z.gives_up s.heap s.peaks s.sizes keeps
  halted_keeps Memory s keeps = tt

  got_keeps : {A : Type 0} (s : Slots) (g : Got A) (f : A → Outcome) → Mid z s → ((a : A) → g ≡ Given a → EndsKept z (f a)) → EndsKept z (on_got t s g f)
  got_keeps s (Given a) f keeps on = on a refl
  got_keeps s (Stops x) f keeps on = halted_keeps x s keeps
  got_keeps s Broken f keeps on = tt

  made_keeps : (g : values.Outcome) (f : List ℤ → Slots → Outcome) → FillsMid t.state.memory z g → ((zs : List ℤ) (s : Slots) → Mid z s → EndsKept z (f zs s)) → EndsKept z (on_made t g f)
  made_keeps (values.Gives zs s) f keeps on = on zs s keeps
  made_keeps (values.Ends x s) f keeps on = halted_keeps x s keeps
  made_keeps values.Fails f keeps on = tt

  goes_keeps : (s : Slots) (n : Option ℕ) → Mid z s → EndsKept z (goes t s n)
  goes_keeps s n keeps = after_keeps (waiting t) s n keeps

  leaking_keeps : (leaks : List Leak) (s : Slots) (n : Option ℕ) → AfterPoint z s → EndsKept z (leaking_goes t leaks s n)
  leaking_keeps leaks s n keeps = left_after (waiting t) s n keeps

-- ---- one point

module _ (t : Turn) (z : Keeping t.state.memory) (still : Still z (start t)) where
  begins_so : Mid z (start t)
  begins_so = z.begins (start t).heap (start t).peaks (start t).sizes still

  abbrev s : Slots
  s = start t

  after_value : (v : Fill) (f : List ℤ → Slots → Outcome) (r : Outcome) → After t v f r → ((zs : List ℤ) (i : Slots) → Mid z i → EndsKept z (f zs i)) → EndsKept z r
  after_value v f r (g, fills, so) on = subst (EndsKept z) (sym so) (made_keeps t z g f (fill_mid t.state.memory z t.table v s g begins_so fills) on)

  pub settles_keep : (i : Slots) (f : Slots → Outcome) → Mid z i → ((k : Slots) → Mid z k → EndsKept z (f k)) → EndsKept z (on_settled t i f)
  settles_keep i f keeps on = got_keeps t z i (settled i) f keeps (λ k e. on k (mid_settled t.state.memory z i keeps k e))

  put_keeps : (at : ℕ) (n : Option ℕ) (zs : List ℤ) (i : Slots) → Mid z i → EndsKept z (put t at n zs i)
  put_keeps at n zs i keeps =
      settles_keep i (λ j. on_got t j (put_words j at zs) (λ k. goes t k n)) keeps
      (λ j kept. got_keeps t z j (put_words j at zs) (λ k. goes t k n) kept (λ k e. goes_keeps t z k n (mid_stored t.state.memory z j kept (in_stack j at) [] zs k e)))

  store_keeps : (p : Place) (k : Kind) (n : Option ℕ) (zs : List ℤ) (i : Slots) → Mid z i → EndsKept z (store t p k n zs i)
  store_keeps p k n zs i keeps =
      got_keeps t z i (spot i p) (λ q. on_settled t i (λ j. on_got t j (stored j q (k ∷ []) zs) (λ l. goes t l n))) keeps
      (λ q found_spot. settles_keep i (λ j. on_got t j (stored j q (k ∷ []) zs) (λ l. goes t l n)) keeps
      (λ j kept. got_keeps t z j (stored j q (k ∷ []) zs) (λ l. goes t l n) kept (λ l e. goes_keeps t z l n (mid_stored t.state.memory z j kept q (k ∷ []) zs l e))))

  left_goes_keep : (n : Option ℕ) (i : Slots) (g : Got (Left Slots)) → Mid z i → LeavesAfter t.state.memory z g → EndsKept z (on_got t i g (left_goes t n))
  left_goes_keep n i g keeps leaves = got_keeps t z i g (left_goes t n) keeps (λ l e. leaking_keeps t z l.leaks l.memory n (leaves l e))

  put_leaking : (at : ℕ) (zs : List ℤ) (leaks : List Leak) (n : Option ℕ) → EndsKept z (on_got t s (put_words s at zs) (λ m. leaking_goes t leaks m n))
  put_leaking at zs leaks n = got_keeps t z s (put_words s at zs) (λ m. leaking_goes t leaks m n) begins_so (λ k e. leaking_keeps t z leaks k n (goes_so t z k (mid_stored t.state.memory z s begins_so (in_stack s at) [] zs k e)))

  -- two stores, one after the other
  both_put : (at counter : ℕ) (v : ℤ) (loop : List ℤ) → GivesMid t.state.memory z (and_then (put_words s at (v ∷ [])) (λ m. put_words m counter loop))
  both_put at counter v loop = by (put_words s at (v ∷ [])) (λ k e. mid_stored t.state.memory z s begins_so (in_stack s at) [] (v ∷ []) k e)
    where
      by : (g : Got Slots) → GivesMid t.state.memory z g → GivesMid t.state.memory z (and_then g (λ m. put_words m counter loop))
      by (Given k) gives = λ l e. mid_stored t.state.memory z k (gives k refl) (in_stack k counter) [] loop l e
      by (Stops x) gives = λ l e. cc
      by Broken gives = λ l e. cc

  looped_keeps : (at counter : ℕ) (v : ℤ) (loop : List ℤ) (n : Option ℕ) → EndsKept z (looped t at counter v loop n)
  looped_keeps at counter v loop n =
      got_keeps t z s (and_then (put_words s at (v ∷ [])) (λ m. put_words m counter loop)) (λ m. goes t m n) begins_so (λ k e. goes_keeps t z k n (both_put at counter v loop k e))

  started_keeps : (at counter : ℕ) (first last a b : ℤ) (n : Option ℕ) → EndsKept z (loop_started t at counter first last n a b)
  started_keeps at counter first last a b n = by (int_le a b && not (is_between first last a && is_between first last b))
    where
      by : (c : Bool) → EndsKept z (if c then halted t constraint s else looped t at counter a (a ∷ b ∷ pos 1 ∷ []) n)
      by true = halted_keeps t z constraint s begins_so
      by false = looped_keeps at counter a (a ∷ b ∷ pos 1 ∷ []) n

  turning_keeps : (at counter : ℕ) (default low high : ℤ) (turn leave : Option ℕ) (x : Option ℤ) → EndsKept z (turning t at counter default turn leave low high x)
  turning_keeps at counter default low high turn leave (Some v) = looped_keeps at counter v (low ∷ high ∷ pos 0 ∷ []) turn
  turning_keeps at counter default low high turn leave None = looped_keeps at counter default (pos 1 ∷ pos 0 ∷ pos 1 ∷ []) leave

  read_keeps : (low high : ℤ) (n : Option ℕ) (q : Spot) (i : Item) → EndsKept z (read t low high n q i)
  read_keeps low high n q item.Missing = halted_keeps t z (Raises EndError) s begins_so
  read_keeps low high n q item.Bad = halted_keeps t z (Raises DataError) s begins_so
  read_keeps low high n q (item.Number v end) = by (is_between low high v)
    where
      by : (c : Bool) → EndsKept z (if c then on_got t s (stored s q (sort.Int ∷ []) (v ∷ [])) (λ m. Goes (reading end (after t (waiting t) m n))) else halted t constraint s)
      by true =
          got_keeps t z s (stored s q (sort.Int ∷ []) (v ∷ [])) (λ m. Goes (reading end (after t (waiting t) m n))) begins_so
          (λ m e. after_keeps t z (waiting t) m n (mid_stored t.state.memory z s begins_so q (sort.Int ∷ []) (v ∷ []) m e))
      by false = halted_keeps t z constraint s begins_so

  choice_keeps : (n : Option ℕ) → EndsKept z (choice t n)
  choice_keeps None = halted_keeps t z constraint s begins_so
  choice_keeps (Some n) = goes_keeps t z s (Some n) begins_so

  hold_keeps : (v : Fill) (of : ℕ) (n : Option ℕ) (r : Outcome) → Holds t v of n r → EndsKept z r
  hold_keeps v of None r so = subst (EndsKept z) (sym so) tt
  hold_keeps v of (Some n) r so = after_value v (holding t of n) r so
      (λ zs i keeps. settles_keep i
      (λ s. Goes (counted (record t.state { memory = s; frames = record t.frame { waits = waiting t; next = n } ∷ given_to (record { of = of; words = zs }) t.outer }))) keeps (λ j kept. goes_so t z j kept))

  -- ---- the end of a call

  returned_keeps : (outer : List Frame) (i : Slots) → Mid z i → EndsKept z (returned t outer i)
  returned_keeps [] i keeps = goes_so t z i keeps
  returned_keeps (f ∷ []) i keeps = z.ends i.heap i.peaks i.sizes keeps
  returned_keeps (f ∷ g ∷ outer) i keeps = goes_so t z i keeps

  copied_keeps : (rs : List Return) (i : Slots) (f : Slots → Outcome) → Mid z i → ((k : Slots) → Mid z k → EndsKept z (f k)) → EndsKept z (copied_back t rs i f)
  copied_keeps [] i f keeps on = on i keeps
  copied_keeps (r ∷ rs) i f keeps on =
      got_keeps t z i (held i (in_stack i r.at) (kinds t.table r.from))
      (λ zs. if fits t.table r.of zs then on_got t i (stored i r.to (kinds t.table r.of) zs) (λ n. copied_back t rs n f) else halted t constraint i) keeps
      (λ zs e. by zs (fits t.table r.of zs) (λ n k. copied_keeps rs n f k on))
    where
      by : (zs : List ℤ) (b : Bool) → ((n : Slots) → Mid z n → EndsKept z (copied_back t rs n f))
          → EndsKept z (if b then on_got t i (stored i r.to (kinds t.table r.of) zs) (λ n. copied_back t rs n f) else halted t constraint i)
      by zs true next = got_keeps t z i (stored i r.to (kinds t.table r.of) zs) (λ n. copied_back t rs n f) keeps (λ n e. next n (mid_stored t.state.memory z i keeps r.to (kinds t.table r.of) zs n e))
      by zs false next = halted_keeps t z constraint i keeps

-- ---- calls

module _ (before : Slots) (z : Keeping before) where
  abbrev PassingPeaks : Passing → Type 0
  PassingPeaks (Passes passed s) = Mid z s
  PassingPeaks (Stopping x s) = Mid z s
  PassingPeaks Failing = Unit {0}

  passed_keeps : (g : values.Outcome) → FillsMid before z g → PassingPeaks (passed_value g)
  passed_keeps (values.Gives zs s) keeps = keeps
  passed_keeps (values.Ends x s) keeps = keeps
  passed_keeps values.Fails keeps = tt

  read_passes : {A : Type 0} (s : Slots) (g : Got A) (f : A → Passing) → Mid z s → ((a : A) → PassingPeaks (f a)) → PassingPeaks (on_read s g f)
  read_passes s (Given a) f keeps on = on a
  read_passes s (Stops x) f keeps on = keeps
  read_passes s Broken f keeps on = tt

  from_keeps : (table : Table) (of formal : ℕ) (s : Slots) (q : Spot) → Mid z s → PassingPeaks (from_spot table of formal s q)
  from_keeps table of formal s q keeps =
      read_passes s (held s q (kinds table of)) (λ zs. if fits table formal zs then Passes (FromSpot q of ∷ []) s else Stopping constraint s) keeps (λ zs. by (fits table formal zs))
    where
      by : (b : Bool) → PassingPeaks (if b then Passes (FromSpot q of ∷ []) s else Stopping constraint s)
      by true = keeps
      by false = keeps

  one_keeps : (table : Table) (a : Actual) (s : Slots) (r : Passing) → Mid z s → PassesOne table a s r → PassingPeaks r
  one_keeps table (ByValue v) s r keeps (g, fills, so) = subst PassingPeaks (sym so) (passed_keeps g (fill_mid before z table v s g keeps fills))
  one_keeps table (From p of formal) s r keeps so = subst PassingPeaks (sym so) (read_passes s (spot s p) (from_spot table of formal s) keeps (λ q. from_keeps table of formal s q keeps))
  one_keeps table (To p of at) s r keeps so = subst PassingPeaks (sym so) (read_passes s (spot s p) (λ q. Passes (ToSpot q of at ∷ []) s) keeps (λ q. keeps))

  first_keeps : (first : List Passed) (g : Passing) → PassingPeaks g → PassingPeaks (with_first first g)
  first_keeps first (Passes rest s) keeps = keeps
  first_keeps first (Stopping x s) keeps = keeps
  first_keeps first Failing keeps = tt

  following_keeps : (g r : Passing) (P : Slots → Passing → Type 0) → PassingPeaks g → Following g P r → ((s : Slots) (q : Passing) → Mid z s → P s q → PassingPeaks q) → PassingPeaks r
  following_keeps (Passes first s) r P keeps (g, so, is) on = subst PassingPeaks (sym is) (first_keeps first g (on s g keeps so))
  following_keeps (Stopping x s) r P keeps so on = subst PassingPeaks (sym so) keeps
  following_keeps Failing r P keeps so on = subst PassingPeaks (sym so) tt

  all_keep : (table : Table) (actuals : List Actual) (s : Slots) (r : Passing) → Mid z s → PassesAll table actuals s r → PassingPeaks r
  all_keep table [] s r keeps so = subst PassingPeaks (sym so) keeps
  all_keep table (a ∷ rest) s r keeps (g, one, so) =
      following_keeps g r (PassesAll table rest) (one_keeps table a s g keeps one) so (λ i q kept more. all_keep table rest i q kept more)

  then_gives : {A : Type 0} (g : Got A) (f : A → Got Slots) → ((a : A) → g ≡ Given a → GivesMid before z (f a)) → GivesMid before z (and_then g f)
  then_gives (Given a) f on = on a refl
  then_gives (Stops x) f on = λ t e. cc
  then_gives Broken f on = λ t e. cc

  same_keeps : (s : Slots) → Mid z s → GivesMid before z (Given s)
  same_keeps s keeps t e = let same : s ≡ t = cc in subst (Mid z) same keeps

  formal_keeps : (table : Table) (at f : ℕ) (p : Passed) (s : Slots) → Mid z s → GivesMid before z (with_formal table at f p s)
  formal_keeps table at f (Value zs) s keeps = mid_stored before z s keeps (InStack at) (kinds table f) zs
  formal_keeps table at f (FromSpot q of) s keeps =
      then_gives (held s q (kinds table of)) (λ zs. stored (moving s q (kinds table of) (access_offsets table of)) (InStack at) (kinds table f) zs)
      (λ zs found_words. mid_stored before z (moving s q (kinds table of) (access_offsets table of)) keeps (InStack at) (kinds table f) zs)
  formal_keeps table at f (ToSpot q of p) s keeps = same_keeps (moving s q (kinds table of) (access_offsets table of)) keeps

  formals_keep : (table : Table) (at : ℕ) (formals : List ℕ) (passed : List Passed) (s : Slots) → Mid z s → GivesMid before z (with_formals table at formals passed s)
  formals_keep table at [] [] s keeps = same_keeps s keeps
  formals_keep table at [] (p ∷ rest) s keeps = same_keeps s keeps
  formals_keep table at (f ∷ formals) [] s keeps = same_keeps s keeps
  formals_keep table at (f ∷ formals) (p ∷ rest) s keeps =
      then_gives (with_formal table at f p s) (with_formals table (at + length (kinds table f)) formals rest)
      (λ n e. formals_keep table (at + length (kinds table f)) formals rest n (formal_keeps table at f p s keeps n e))

module _ (t : Turn) (z : Keeping t.state.memory) (still : Still z (start t)) where
  entered_keeps : (sub : Sub) (n : Option ℕ) (passed : List Passed) (s : Slots) → Mid z s → EndsKept z (entered t sub n passed s)
  entered_keeps sub n passed s keeps = by (nat_le (frames_words (frame_of s sub [] ∷ t.frame ∷ t.outer)) stack_words)
    where
      formals_kept : (leaks : List Leak) → EndsKept z (on_got t s (with_formals t.table (length s.stack) sub.formals passed (with_frame t.table sub s)) (begun_with t sub passed s n leaks))
      formals_kept leaks =
          got_keeps t z s (with_formals t.table (length s.stack) sub.formals passed (with_frame t.table sub s)) (begun_with t sub passed s n leaks) keeps
          (λ f e. settles_keep t z still f (λ f. Goes (begins t sub passed s n leaks f)) (formals_keep t.state.memory z t.table (length s.stack) sub.formals passed (with_frame t.table sub s) keeps f e)
          (λ k kept. after_keeps t z (waiting t) k n kept))

      by : (b : Bool)
          → EndsKept z (if b
          then on_settled t s (λ k. on_got t s (out_leaks t.table k passed)
          (λ leaks. on_got t s (with_formals t.table (length s.stack) sub.formals passed (with_frame t.table sub s)) (begun_with t sub passed s n leaks)))
          else halted t (Raises StorageError) s)
      by true =
          settles_keep t z still s
          (λ k. on_got t s (out_leaks t.table k passed) (λ leaks. on_got t s (with_formals t.table (length s.stack) sub.formals passed (with_frame t.table sub s)) (begun_with t sub passed s n leaks))) keeps
          (λ k kept. got_keeps t z s (out_leaks t.table k passed)
          (λ leaks. on_got t s (with_formals t.table (length s.stack) sub.formals passed (with_frame t.table sub s)) (begun_with t sub passed s n leaks)) keeps (λ leaks found_leaks. formals_kept leaks))
      by false = halted_keeps t z (Raises StorageError) s keeps

  call_keeps : (sub : ℕ) (actuals : List Actual) (n : Option ℕ) (r : Outcome) → CallsSub t sub actuals n r → EndsKept z r
  call_keeps sub actuals n r (g, passes, so) = subst (EndsKept z) (sym so) (by g (all_keep t.state.memory z t.table actuals (start t) g (begins_so t z still) passes))
    where
      by : (g : Passing) → PassingPeaks t.state.memory z g → EndsKept z (on_passed t g (entered t (sub_at t.program sub) n))
      by (Passes passed s) keeps = entered_keeps (sub_at t.program sub) n passed s keeps
      by (Stopping x s) keeps = halted_keeps t z x s keeps
      by Failing keeps = tt

  -- ---- all points

  word_keeps : {A : Type 0} (g : Got A) (f : A → Outcome) → ((a : A) → EndsKept z (f a)) → EndsKept z (on_got t (start t) g f)
  word_keeps g f on = got_keeps t z (start t) g f (begins_so t z still) (λ a e. on a)

  done_keeps : (d : Does) (r : Outcome) → Done t d r → EndsKept z r
  done_keeps (Go n) r so = subst (EndsKept z) (sym so) (goes_keeps t z (start t) n (begins_so t z still))
  done_keeps (Put at v n) r so = after_value t z still v (put t at n) r so (put_keeps t z still at n)
  done_keeps (Store p v k n) r so = after_value t z still v (store t p k n) r so (store_keeps t z still p k n)
  done_keeps (Assign p v of checks n) r so =
      after_value t z still v (assign t p of checks n) r so
      (λ zs i keeps. left_goes_keep t z still n i (assigned t.table p of checks zs i) keeps (assigned_after t.state.memory z t.table p of checks zs i keeps))
  done_keeps (Call sub actuals n) r so = call_keeps sub actuals n r so
  done_keeps (Output pieces line n) r so =
      subst (EndsKept z) (sym so)
      (word_keeps (text t.table (start t) pieces) (λ bytes. Goes (writing (bytes ++ (if line then 10 ∷ [] else [])) (after t (waiting t) (start t) n))) (λ bytes. after_keeps t z (waiting t) (start t) n (begins_so t z still)))
  done_keeps (Input p low high n) r so =
      subst (EndsKept z) (sym so) (word_keeps (spot (start t) p) (λ q. read t low high n q (next_item t.input t.state.at)) (λ q. read_keeps t z still low high n q (next_item t.input t.state.at)))
  done_keeps (Release p of at n) r so =
      subst (EndsKept z) (sym so) (left_goes_keep t z still n (start t) (released t.table p of at (start t)) (begins_so t z still) (released_after t.state.memory z t.table p of at (start t) still))
  done_keeps (Test c holds fails) r so =
      subst (EndsKept z) (sym so) (word_keeps (word (start t) c) (λ w. goes t (start t) (if is_zero w then fails else holds)) (λ w. goes_keeps t z (start t) (if is_zero w then fails else holds) (begins_so t z still)))
  done_keeps (Choose c choices) r so = subst (EndsKept z) (sym so) (word_keeps (word (start t) c) (λ w. choice t (chosen w choices)) (λ w. choice_keeps t z still (chosen w choices)))
  done_keeps (Start at counter low high first last n) r so =
      subst (EndsKept z) (sym so)
      (word_keeps (word (start t) low) (λ a. on_got t (start t) (word (start t) high) (λ b. loop_started t at counter first last n a b))
      (λ a. word_keeps (word (start t) high) (λ b. loop_started t at counter first last n a b) (λ b. started_keeps t z still at counter first last a b n)))
  done_keeps (Next at counter reversed default turn leave) r so =
      subst (EndsKept z) (sym so)
      (word_keeps (stack_word t at)
      (λ v. on_got t (start t) (stack_word t counter) (λ low. on_got t (start t) (stack_word t (counter + 1))
      (λ high. on_got t (start t) (stack_word t (counter + 2)) (λ first. turning t at counter default turn leave low high (next_value reversed low high first v)))))
      (λ v. word_keeps (stack_word t counter)
      (λ low. on_got t (start t) (stack_word t (counter + 1))
      (λ high. on_got t (start t) (stack_word t (counter + 2)) (λ first. turning t at counter default turn leave low high (next_value reversed low high first v))))
      (λ low. word_keeps (stack_word t (counter + 1))
      (λ high. on_got t (start t) (stack_word t (counter + 2)) (λ first. turning t at counter default turn leave low high (next_value reversed low high first v)))
      (λ high. word_keeps (stack_word t (counter + 2)) (λ first. turning t at counter default turn leave low high (next_value reversed low high first v))
      (λ first. turning_keeps t z still at counter default low high turn leave (next_value reversed low high first v))))))
  done_keeps (EvaluateLeft c or_else n decided) r so =
      subst (EndsKept z) (sym so)
      (word_keeps (word (start t) c) (λ w. Goes (after t (truth_held w ∷ waiting t) (start t) (if is_zero w then (if or_else then n else decided) else (if or_else then decided else n))))
      (λ w. after_keeps t z (truth_held w ∷ waiting t) (start t) (if is_zero w then (if or_else then n else decided) else (if or_else then decided else n)) (begins_so t z still)))
  done_keeps (EvaluateRight c n) r so =
      subst (EndsKept z) (sym so)
      (word_keeps (word (start t) c) (λ w. Goes (after t (truth_held w ∷ drop 1 (waiting t)) (start t) n)) (λ w. after_keeps t z (truth_held w ∷ drop 1 (waiting t)) (start t) n (begins_so t z still)))
  done_keeps (Hold v of n) r so = hold_keeps t z still v of n r so
  done_keeps (EndPointer at n) r so =
      subst (EndsKept z) (sym so)
      (word_keeps (found (slice_get (start t).stack (t.frame.base + at))) (λ w. on_got t (start t) (put_words (start t) at (pos 0 ∷ [])) (λ m. leaking_goes t (leak (start t).numbers t.point.pos w) m n))
      (λ w. put_leaking t z still at (pos 0 ∷ []) (leak (start t).numbers t.point.pos w) n))
  done_keeps (EndScope at of n) r so =
      subst (EndsKept z) (sym so)
      (word_keeps (leaks_at t.table (start t) (in_stack (start t) at) of t.point.pos) (λ leaks. on_got t (start t) (put_words (start t) at (default_words t.table of)) (λ m. leaking_goes t leaks m n))
      (λ leaks. put_leaking t z still at (default_words t.table of) leaks n))
  done_keeps Finish r so =
      subst (EndsKept z) (sym so)
      (copied_keeps t z still t.frame.returns (start t) (λ f. returned t t.outer (with_stack f (take t.frame.base f.stack))) (begins_so t z still)
      (λ k keeps. returned_keeps t z still t.outer (with_stack k (take t.frame.base k.stack)) keeps))
  done_keeps Fall r so = subst (EndsKept z) (sym so) (halted_keeps t z (Raises ProgramError) (start t) (begins_so t z still))

  pub turned_keeps : (b : Bool) (r : Outcome) → Turned b t r → EndsKept z r
  turned_keeps true r so = done_keeps t.point.does r so
  turned_keeps false r so = subst (EndsKept z) (sym so) tt

-- ---- steps

module _ (table : Table) (program : Program) (input : List ℕ) (s : State) (z : Keeping s.memory) (still : z.still s.memory.heap s.memory.peaks s.memory.sizes) where
  point_keeps : (f : Frame) (outer : List Frame) (x : Option Point) (r : Outcome) → SteppedAt table program input s f outer x r → EndsKept z r
  point_keeps f outer None r so = subst (EndsKept z) (sym so) tt
  point_keeps f outer (Some p) r so =
      turned_keeps (turn_of table program input s f outer p) z still (are_taken (turn_of table program input s f outer p)) r so

  pub step_kept : (frames : List Frame) (r : Outcome) → Stepped table program input s frames r → EndsKept z r
  step_kept [] r so = subst (EndsKept z) (sym so) (z.ends s.memory.heap s.memory.peaks s.memory.sizes (z.begins s.memory.heap s.memory.peaks s.memory.sizes still))
  step_kept (f ∷ outer) r so = point_keeps f outer (slice_get program.points f.next) r so
