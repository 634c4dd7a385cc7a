-- A value that is made and waits: what it asks for, and what is left.
use Rattle.std.proofs.Common.{◌≡◌, ◌≤◌, sym, ap, ◌∙◌, subst, ℕ, false, List, [], ◌++◌, length, ℤ, Result, Ok, Err}
use Rattle.std.specs.Prelude.{OnOk, OnErr, IsErrOf}
use Rattle.type_definitions.specs.Types.{Table}
use Rattle.slot_heap.specs.Heaps.{Heap}
use Rattle.run_codes.specs.Codes.{Fill}
use Rattle.run_codes.specs.Flat.{is_broken}
use Rattle.code_rows.specs.declared.stop.Stop.{Stop}
use Rattle.code_rows.specs.declared.stop.Stop.TheVariants as stop
use Rattle.handled_runs.specs.Changes.{settled}
use Rattle.slot_memory.specs.Answers.{LentOn}
use Rattle.slot_memory.specs.Memory.{Kept, Knows, Changes, Elsewhere, ghosts_of, elsewhere}
use Rattle.slot_frames.specs.Stacks.{Stacked}
use Rattle.slot_frames.specs.Frames.{word_at}
use Rattle.slot_values.specs.Fillings.{Fillable, Filled}
use Rattle.slot_memory.proofs.Settled.{settled_given}
use Rattle.slot_held.specs.Holds.{Waits, Holdable, Holding}

error_is : {U : Type 0} (s e : Stop) → ◌≡◌ {A = Result U Stop} (Err s) (Err e) → s ≡ e
error_is s e is = cc

module _ {R : Type 0} (Means : R → Heap → Type 0) (m : Kept R) (table : Table) (v : Fill) where
  pub held_fills : Holdable Means m table v → Fillable Means m table v
  held_fills is = record { ghosts = is.ghosts; stands = is.stands; whole = is.fills }

  pub held_stops : {U V : Type 0} (x : Stop) (old now : List ℤ) (n : Kept R) (frames stacked : Stacked) (k of next : ℕ) → Filled {U = U} Means m table v (Err x) old now n
      → Holding {U = V} Means m table v (Err x) frames k of next n stacked
  held_stops x old now n frames stacked k of next is = record { holds = λ g stands fills settles. is.filled g stands fills }

  -- what was moved is there
  pub held_settles : {U : Type 0} (u : U) (old now : List ℤ) (n : Kept R) → Holdable Means m table v → Filled Means m table v (Ok u) old now n
      → Knows Means n (λ s. is_broken (settled s) ≡ false)
  held_settles u old now n is filled =
      let given = filled.filled is.ghosts is.stands is.fills in
      (ghosts_of given.after, (given.shows.0, subst (λ s. is_broken (settled s) ≡ false) (sym given.shows.1) (is.settles given.words given.after given.may)))

  pub held_room : (frames : Stacked) (k : ℕ) (n o : Kept R) → elsewhere n ≡ elsewhere m → elsewhere o ≡ elsewhere n → word_at frames.waits k (length m.waits) ≤ length m.waits
      → word_at frames.waits k (length o.waits) ≤ length o.waits
  held_room frames k n o first second room =
      subst (λ zs. word_at frames.waits k (length zs) ≤ length zs) (sym (ap (λ (e : Elsewhere). e.waits) second ∙ ap (λ (e : Elsewhere). e.waits) first)) room

  pub held_done : {U V : Type 0} (u : U) (r : Result V Stop) (old now : List ℤ) (n o p : Kept R) (frames stacked : Stacked) (k of next : ℕ) → old ≡ []
      → Filled Means m table v (Ok u) old now n → elsewhere n ≡ elsewhere m → Changes Means n settled o → elsewhere o ≡ elsewhere n
      → OnOk r (Waits o frames k of now next p stacked) → OnErr r (IsErrOf r stop.Memory)
      → Holding Means m table v r frames k of next p stacked
  held_done u (Ok w) old now n o p frames stacked k of next none filled first changes second waits memory = record {
    holds = λ g stands fills settles.
        let given = filled.filled g stands fills in
        let t = settled_given given.after (settles given.words given.after given.may) in
        let same : now ≡ given.words = given.appended ∙ ap (λ l. l ++ given.words) none in
        record {
          words = given.words;
          made = given.after;
          may = given.may;
          after = t.0;
          settles = t.1;
          kept = o;
          shows = changes (ghosts_of given.after) given.shows.0 t.0 (ap settled given.shows.1 ∙ t.1);
          same = second ∙ first;
          waits = subst (λ zs. Waits o frames k of zs next p stacked) same waits;
        };
  }
  held_done u (Err x) old now n o p frames stacked k of next none filled first changes second waits memory =
      record { holds = λ g stands fills settles other. absurd (other (error_is x stop.Memory memory)) }

  -- the store is lent by the same reference
  pub stopped_lent : (x : Stop) (n : Kept R) → elsewhere n ≡ elsewhere m → LentOn {U = Unit {0}} (Err x) m n
  stopped_lent x n same = λ other. ap (λ (e : Elsewhere). e.lent) same

  pub held_lent : {V : Type 0} (r : Result V Stop) (now : List ℤ) (n o p : Kept R) (frames stacked : Stacked) (k of next : ℕ) → elsewhere n ≡ elsewhere m → elsewhere o ≡ elsewhere n
      → OnOk r (Waits o frames k of now next p stacked) → OnErr r (IsErrOf r stop.Memory) → LentOn r m p
  held_lent (Ok w) now n o p frames stacked k of next first second waits memory =
      ap (λ (q : Kept R). q.heap.lent) waits.kept_is ∙ ap (λ (e : Elsewhere). e.lent) second ∙ ap (λ (e : Elsewhere). e.lent) first
  held_lent (Err x) now n o p frames stacked k of next first second waits memory = λ other. absurd (other (error_is x stop.Memory memory))

pub ruleset hold_rules = (held_fills, held_stops, held_settles, held_room, held_done, stopped_lent, held_lent)
