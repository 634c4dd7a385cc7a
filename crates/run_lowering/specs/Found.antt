-- What places and words of the code stand for, over the nodes that are there.
use Rattle.std.specs.Prelude.{ℕ, Bool, true, false, ◌&&◌, List, length, nat_lt, Option, Some, None}
use Rattle.run_codes.specs.Codes.{Code, Scaled, Plus, Place, InFrame, InPackages, Behind}
use Rattle.run_codes.specs.Lowered.{no_index, Placed, Lowered}
use Rattle.code_rows.specs.declared.node.Node.{Node}
use Rattle.code_rows.specs.Rows.{code_at}
use Rattle.run_lowering.specs.Sorts.{sort_in}
use Rattle.run_lowering.specs.declared.found.Base.{Base}
use Rattle.run_lowering.specs.declared.found.Base.TheVariants as base
use Rattle.run_lowering.specs.declared.found.Found.{Found}
use Rattle.run_lowering.specs.declared.found.Typed.{Typed}

abbrev pub index_of : List Node → Option ℕ → Code
index_of nodes None = no_index
index_of nodes (Some i) = code_at nodes i

abbrev pub place_in : List Node → Base → ℕ → Code → Place
place_in nodes base.Frame at i = InFrame at i
place_in nodes base.Packages at i = InPackages at i
place_in nodes (base.Cell p) at i = Behind (code_at nodes p) at i

-- The place that is found.
abbrev pub placed : List Node → Found → Placed
placed nodes f = record { place = place_in nodes f.base f.at (index_of nodes f.index); of = f.of }

abbrev pub is_offset : Code → Bool
is_offset (Scaled i low high size) = true
is_offset (Plus a b) = true
is_offset _ = false

abbrev pub index_there : List Node → Option ℕ → Bool
index_there nodes None = true
index_there nodes (Some i) = nat_lt i (length nodes) && is_offset (code_at nodes i)

abbrev pub base_there : List Node → Base → Bool
base_there nodes (base.Cell p) = nat_lt p (length nodes)
base_there nodes _ = true

-- The nodes that it names are there, and that of its index is an offset.
abbrev pub is_there : List Node → Found → Bool
is_there nodes f = base_there nodes f.base && index_there nodes f.index

-- The word that is found.
abbrev pub lowered_in : List Node → Typed → Lowered
lowered_in nodes t = record { code = code_at nodes t.node; sort = sort_in t.sort }
