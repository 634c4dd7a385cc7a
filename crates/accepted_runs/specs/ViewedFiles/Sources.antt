-- Code in which views are declared and assigned with names, or with what a traversal function gives.
use Rattle.std.specs.Prelude.{Bool, true, not, ◌&&◌, ◌||◌}
use Rattle.machine.specs.typed_tree.Trees.{TypedCode}
use Rattle.machine.specs.typed_tree.Trees as typed
use Rattle.machine.specs.flow_paths.Instructions.{Instruction, Declare, Assign}
use Rattle.machine.specs.flow_paths.Instructions as instruction
use Rattle.machine.specs.flow_paths.Objects.{Typing, is_anonymous, view_of}
use Rattle.machine.specs.flow_paths.Names.{first, whole}
use Rattle.accepted_runs.specs.ViewedFiles.ViewLaws.InOrder.{gives_view, is_one_name_of, is_any, stores_name}

-- As `fits` has it, without an order of objects.
abbrev pub has_source : Typing → Instruction → Bool
has_source s (Declare x v) = not (is_anonymous (view_of s x)) || (is_one_name_of is_any v || gives_view s (first v))
has_source s (Assign target e) = stores_name s (whole target) e || gives_view s e
has_source s i = true

-- Each declaration and each assignment is as asked.
unfoldable pub all_fit : (Instruction → Bool) → TypedCode → Bool
all_fit fits (typed.Declare p x v) = fits (instruction.Declare x v)
all_fit fits (typed.Assign p target e) = fits (instruction.Assign target e)
all_fit fits (typed.If branches otherwise) = all_fit fits branches && all_fit fits otherwise
all_fit fits (typed.Branch p e stmts) = all_fit fits stmts
all_fit fits (typed.Case p e whens) = all_fit fits whens
all_fit fits (typed.When choices stmts) = all_fit fits stmts
all_fit fits (typed.Loop stmts) = all_fit fits stmts
all_fit fits (typed.While p e stmts) = all_fit fits stmts
all_fit fits (typed.For p x reversed low high stmts) = all_fit fits stmts
all_fit fits (typed.Block n stmts end) = all_fit fits stmts
all_fit fits (typed.More a rest) = all_fit fits a && all_fit fits rest
all_fit fits _ = true
