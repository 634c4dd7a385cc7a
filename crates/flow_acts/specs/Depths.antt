-- Names that are too deep.
use Rattle.std.specs.Prelude.{Bool, ◌||◌, List, flat_map}
use Rattle.std.specs.List.{list_any}
use Rattle.place_names.specs.declared.act.Act.{Act}
use Rattle.place_names.specs.declared.act.Placed.{Placed}
use Rattle.place_names.specs.Facts.{place, adds}
use Rattle.flow_paths.specs.declared.point.LeakSpot.{LeakSpot}
use Rattle.flow_paths.specs.Instructions.{Instruction}
use Rattle.flow_paths.specs.Limits.{NameAt, act_name, act_names, is_deep}

-- Some name of an act of an instruction, or of a fact that it adds, is too deep.
abbrev pub deep_names : Instruction → List Placed → Bool
deep_names i acts = list_any (λ (n : NameAt). is_deep n.name) (flat_map (act_names i) acts)

-- So is the name of a leak check.
abbrev pub deep_spots : List LeakSpot → Bool
deep_spots spots = list_any (λ (s : LeakSpot). is_deep s.name) spots

-- The same of one act, and of some.
abbrev pub is_deep_act : Act → Bool
is_deep_act a = is_deep (act_name a) || list_any (λ f. is_deep (place f)) (adds a)

abbrev pub has_deep : List Placed → Bool
has_deep acts = list_any (λ (p : Placed). is_deep_act p.act) acts
