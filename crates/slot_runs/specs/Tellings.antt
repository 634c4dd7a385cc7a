-- What was written of a run, and what still has to be.
use Rattle.std.specs.Prelude.{◌≡◌, ◌⊎◌, ℕ, List, [], ◌++◌, length, Option}
use Rattle.std.specs.Io.KnownBytes.{Appends}
use Rattle.spark_base.specs.Outside.{AppendsPrefix}
use Rattle.machine.specs.States.{Leak}
use Rattle.run_results.specs.Lines.{leak_lines}
use Rattle.slot_runs.specs.Pasts.{Past}
use Rattle.slot_runs.specs.Turns.{Untold}

-- A sink had some bytes at the start: all bytes of a list were written to it since but the last ones, `rest`.
abbrev pub Owes : (start now : Option (List ℕ)) (rest all : List ℕ) → Type 0
Owes start now rest all = (front : List ℕ) × Appends start now front × (all ≡ front ++ rest)

-- What the sinks for output and for leak lines have.
pub record Sinks : Type 0 where
  pub output : Option (List ℕ)
  pub lines : Option (List ℕ)

-- Of what was there before, the output was written, and the leak lines but for some bytes.
pub record IsTold (files : List (List ℕ)) (start now : Sinks) (rest : List ℕ) (count : ℕ) (p : Past) : Type 0 where
  pub output : Owes start.output now.output [] p.output
  pub lines : Owes start.lines now.lines rest (leak_lines files p.leaks)
  pub leaked : count ≡ length p.leaks

-- Some words are taken to be written, or nothing is done.
abbrev pub Flushes : (old new : Option (List ℕ)) (before after : List ℕ) → Type 0
Flushes old new before after = (Appends old new before × (after ≡ [])) ⊎ ((new ≡ old) × (after ≡ before))

-- What was there before, with what wasn't told yet.
abbrev pub with_untold : Past → Untold → Past
with_untold p u = record p { output = p.output ++ u.output; leaks = p.leaks ++ u.leaks }

-- Whatever was told is told on: with what isn't told yet it is the same.
abbrev pub TellsOn : (files : List (List ℕ)) (old new : Sinks) (before after : List ℕ) (was is : ℕ) (u v : Untold) → Type 0
TellsOn files old new before after was is u v =
    (start : Sinks) (p : Past) → IsTold files start old before was p → (q : Past) × IsTold files start new after is q × (with_untold q v ≡ with_untold p u)

-- The sinks have what they had, then a front of an output, and a front of the lines of leaks.
pub record HaveFronts (files : List (List ℕ)) (start now : Sinks) (bytes : List ℕ) (leaks : List Leak) : Type 0 where
  pub output : AppendsPrefix start.output now.output bytes
  pub lines : AppendsPrefix start.lines now.lines (leak_lines files leaks)

-- Whatever was told, the sinks have no more than fronts of what there is by this state.
abbrev pub TellsFronts : (files : List (List ℕ)) (old new : Sinks) (before : List ℕ) (was : ℕ) (u : Untold) → Type 0
TellsFronts files old new before was u =
    (start : Sinks) (p : Past) → IsTold files start old before was p → HaveFronts files start new (p.output ++ u.output) (p.leaks ++ u.leaks)
