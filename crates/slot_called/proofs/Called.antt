-- A call, step by step.
use Rattle.std.proofs.Common.{◌≡◌, ◌≤◌, ℕ, List, [], ◌∷◌, ◌++◌, map, length, take, refl, sym, ap, subst, ◌∙◌, ℤ, Result, Ok, Err}
use Rattle.std.specs.Prelude.{OnOk, OnErr, IsErrOf}
use Rattle.type_definitions.specs.Types.{Table}
use Rattle.machine.specs.States.{Leak}
use Rattle.slot_heap.specs.Heaps.{Heap}
use Rattle.run_codes.specs.Codes.{Sub, Actual}
use Rattle.run_codes.specs.Points.{Passed}
use Rattle.code_rows.specs.declared.stop.Stop.{Stop}
use Rattle.code_rows.specs.declared.stop.Stop.TheVariants as stop
use Rattle.slot_memory.specs.Answers.{LentOn}
use Rattle.slot_memory.specs.Memory.{Kept, Elsewhere, ghosts_of, elsewhere}
use Rattle.slot_frames.specs.declared.rows.Return.{Return}
use Rattle.slot_frames.specs.Stacks.{Stacked}
use Rattle.slot_frames.specs.Frames.{word_at}
use Rattle.slot_formals.specs.slot_calls.declared.actuals.Pass.{Pass}
use Rattle.slot_formals.specs.slot_calls.Calls.{passed_of}
use Rattle.slot_entries.specs.Entries.{entered_kept, entered_stacked}
use Rattle.slot_formals.specs.Formals.{framed, Begins, returned}
use Rattle.slot_formals.specs.Leads.{Gives}
use Rattle.slot_called.specs.Calls.{PassedTested, Callable, Calling}

-- ---- what is kept

-- The values that the point takes stand where they stood.
pub taken_below : {R : Type 0} (s t : Stacked) (k : ℕ) (rs : List Return) (m n q : Kept R) → t ≡ record s { returns = rs } → elsewhere n ≡ elsewhere m → elsewhere q ≡ elsewhere n
    → word_at s.waits k (length m.waits) ≤ length m.waits → word_at t.waits k (length q.waits) ≤ length q.waits
taken_below s t k rs m n q is first second below =
    subst (λ (x : Stacked). word_at x.waits k (length q.waits) ≤ length q.waits) (sym is)
    (subst (λ (zs : List ℤ). word_at s.waits k (length zs) ≤ length zs) (sym (ap (λ (e : Elsewhere). e.waits) second ∙ ap (λ (e : Elsewhere). e.waits) first)) below)

-- A frame runs after the one that ran.
abbrev pub entering : Stacked → Sub → ℕ → ℕ → ℕ → ℕ → Stacked
entering t sub k next base count = record {
  frame = record { base = base; next = sub.first; words = sub.words; waits = length (take k t.waits); returns = count };
  outer = t.outer ++ record t.frame { next = next } ∷ [];
  waits = take k t.waits;
  returns = t.returns;
}

stacked_by : (s t u : Stacked) (sub : Sub) (k next base top count : ℕ) (rs : List Return) → t ≡ record s { returns = s.returns ++ rs } → base ≡ top → count ≡ length s.returns
    → u ≡ entering t sub k next base count → u ≡ entered_stacked s sub k next top rs
stacked_by s t u sub k next base top count rs pushed at counted is =
    is
    ∙ ap (λ (x : Stacked). entering x sub k next base count) pushed
    ∙ ap (λ b. entering (record s { returns = s.returns ++ rs }) sub k next b count) at
    ∙ ap (λ n. entering (record s { returns = s.returns ++ rs }) sub k next top n) counted

kept_by : {R : Type 0} (s t : Stacked) (k base top : ℕ) (rs : List Return) (q now : Kept R) → t ≡ record s { returns = rs } → base ≡ top → now ≡ entered_kept t k base q
    → now ≡ entered_kept s k top q
kept_by s t k base top rs q now pushed at is = is ∙ ap (λ (x : Stacked). entered_kept x k base q) pushed ∙ ap (λ b. entered_kept s k b q) at

-- ---- what it comes to

error_is : {U : Type 0} (s e : Stop) → ◌≡◌ {A = Result U Stop} (Err s) (Err e) → s ≡ e
error_is s e is = cc

module _ {R : Type 0} (Means : R → Heap → Type 0) (m : Kept R) (table : Table) (sub row : Sub) (same : row ≡ sub) (words : ℕ) (actuals : List Actual) where
  -- the same subprogram
  pub can_row : Callable Means m table sub words actuals → Callable Means m table row words actuals
  can_row can = subst (λ s. Callable Means m table s words actuals) (sym same) can

  pub call_stops : {U V : Type 0} (x : Stop) (r : Result V Stop) (ps : List Passed) (n : Kept R) (frames stacked : Stacked) (k next : ℕ) (found all : List Leak) → r ≡ Err x
      → PassedTested {U = U} Means m table row words actuals (Err x) ps n → Calling Means m table sub words actuals r frames k next found all n stacked
  call_stops x r ps n frames stacked k next found all err is =
      subst (λ s. Calling Means m table s words actuals r frames k next found all n stacked) same
      (subst (λ q. Calling Means m table row words actuals q frames k next found all n stacked) (sym err) (record { calls = λ g stands can. is.passed g stands can.passes }))

  -- Nothing is told where there is too little memory.
  pub call_memory : {V : Type 0} (r : Result V Stop) (n : Kept R) (frames stacked : Stacked) (k next : ℕ) (found all : List Leak) → r ≡ Err stop.Memory
      → Calling Means m table sub words actuals r frames k next found all n stacked
  call_memory r n frames stacked k next found all err =
      subst (λ q. Calling Means m table sub words actuals q frames k next found all n stacked) (sym err) (record { calls = λ g stands can other. absurd (other refl) })

  module _ {U : Type 0} (u : U) (hand : List ℤ) (passes : List Pass) (n : Kept R) (is : PassedTested Means m table row words actuals (Ok u) (map (passed_of hand) passes) n) where
    -- The frame may begin.
    pub call_begins : Callable Means m table sub words actuals → Gives Means n (framed table row (map (passed_of hand) passes))
    call_begins callable =
        let can = can_row callable in
        let given = is.passed can.ghosts can.stands can.can.passes in
        let (b, begun) = can.can.begins (map (passed_of hand) passes) given.after given.may in
        record { ghosts = ghosts_of given.after; stands = given.shows.0; after = b; is = ap (framed table row (map (passed_of hand) passes)) given.shows.1 ∙ begun }

    module _ (q : Kept R) (found all : List Leak) (begins : Begins Means n table row (map (passed_of hand) passes) found all q) (first : elsewhere n ≡ elsewhere m) (second : elsewhere q ≡ elsewhere n)
        (frames pushed : Stacked) (more : pushed ≡ record frames { returns = frames.returns ++ returned table 0 row.formals passes })
        (base count : ℕ) (at : base ≡ length n.stack) (counted : count ≡ length frames.returns) where
      row_done : {V : Type 0} (v : V) (now : Kept R) (stacked : Stacked) (k next : ℕ) → now ≡ entered_kept pushed k base q → stacked ≡ entering pushed row k next base count
          → Calling Means m table row words actuals (Ok v) frames k next found all now stacked
      row_done v now stacked k next entered runs = record {
        calls = λ g stands can.
            let given = is.passed g stands can.passes in
            let (b, begun) = can.begins (map (passed_of hand) passes) given.after given.may in
            let there = begins.begun (ghosts_of given.after) given.shows.0 b (ap (framed table row (map (passed_of hand) passes)) given.shows.1 ∙ begun) in
            record {
              hand = hand;
              passes = passes;
              here = given.after;
              may = given.may;
              above = n;
              stands = given.shows;
              begun = b;
              is = begun;
              kept = q;
              shows = there.0;
              same = second ∙ first;
              told = there.1;
              now_is = kept_by frames pushed k base (length n.stack) (frames.returns ++ returned table 0 row.formals passes) q now more at entered;
              stacked_is = stacked_by frames pushed stacked row k next base (length n.stack) count (returned table 0 row.formals passes) more at counted runs;
            };
      }

      -- The frame runs, unless there is too little memory.
      pub call_done : {V : Type 0} (r : Result V Stop) (now : Kept R) (stacked : Stacked) (k next : ℕ) → OnOk r (now ≡ entered_kept pushed k base q)
          → OnOk r (stacked ≡ entering pushed row k next base count) → OnErr r (IsErrOf r stop.Memory) → Calling Means m table sub words actuals r frames k next found all now stacked
      call_done (Ok v) now stacked k next entered runs memory =
          subst (λ s. Calling Means m table s words actuals (Ok v) frames k next found all now stacked) same (row_done v now stacked k next entered runs)
      call_done (Err x) now stacked k next entered runs memory =
          call_memory (Err x) now frames stacked k next found all (ap (λ y. Err y) (error_is x stop.Memory memory))

-- ---- the store is lent by the same reference

module _ {R V : Type 0} (m : Kept R) (r : Result V Stop) where
  pub stop_lent : (x : Stop) (n : Kept R) → r ≡ Err x → elsewhere n ≡ elsewhere m → LentOn r m n
  stop_lent x n err same = subst (λ q. LentOn q m n) (sym err) (λ other. ap (λ (e : Elsewhere). e.lent) same)

  pub memory_lent : (n : Kept R) → r ≡ Err stop.Memory → LentOn r m n
  memory_lent n err = subst (λ q. LentOn q m n) (sym err) (λ other. absurd (other refl))

pub call_lent : {R V : Type 0} (m n q now : Kept R) (pushed : Stacked) (k base : ℕ) (r : Result V Stop) → elsewhere n ≡ elsewhere m → elsewhere q ≡ elsewhere n
    → OnOk r (now ≡ entered_kept pushed k base q) → OnErr r (IsErrOf r stop.Memory) → LentOn r m now
call_lent m n q now pushed k base (Ok v) first second entered memory =
    ap (λ (x : Kept _). x.heap.lent) entered ∙ ap (λ (e : Elsewhere). e.lent) second ∙ ap (λ (e : Elsewhere). e.lent) first
call_lent m n q now pushed k base (Err x) first second entered memory = λ other. absurd (other (error_is x stop.Memory memory))

pub ruleset call_rules = (call_stops, call_memory, stop_lent, memory_lent)
