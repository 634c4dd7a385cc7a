-- The commands of the tool (docs/TOOL.md, "Words").
use Rattle.std.specs.Prelude.{ℕ, Bool, true, false, List, Option, None, Some, option_and_then}
use Rattle.command_words.specs.Words as grammar
use Rattle.command_words.specs.Words.{Command, Check, Run, Leaks, Make, Selftest}

-- All commands are there.
abbrev pub there : Command → Option Command
there (Check names) = Some (Check names)
there (Run names steps stats) = Some (Run names steps stats)
there (Leaks names) = Some (Leaks names)
there (Make n) = Some (Make n)
there (Selftest n) = Some (Selftest n)

-- The command that the words give. Every other list of words is a usage fault.
abbrev pub command_of : List (List ℕ) → Option Command
command_of words = option_and_then there (grammar.command_of words)

-- Whether files are read for it.
abbrev pub reads_files : Option Command → Bool
reads_files None = false
reads_files (Some (Check names)) = true
reads_files (Some (Run names steps stats)) = true
reads_files (Some (Leaks names)) = true
reads_files (Some (Make n)) = false
reads_files (Some (Selftest n)) = false

-- Whether a store is for it, for the cells of a program that is run.
abbrev pub uses_store : Option Command → Bool
uses_store None = false
uses_store (Some (Check names)) = false
uses_store (Some (Run names steps stats)) = true
uses_store (Some (Leaks names)) = false
uses_store (Some (Make n)) = false
uses_store (Some (Selftest n)) = true

-- Whether a program is run for it, on the input. The program that is made runs on none.
abbrev pub runs : Option Command → Bool
runs None = false
runs (Some (Check names)) = false
runs (Some (Run names steps stats)) = true
runs (Some (Leaks names)) = false
runs (Some (Make n)) = false
runs (Some (Selftest n)) = false
