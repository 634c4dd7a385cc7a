-- Objects whose scopes end at points of their own.
use Rattle.std.proofs.Common.{◌≡◌, ℕ, Bool, List, map, get_or, ap, ◌∙◌}
use Rattle.std.proofs.Math.ListN.{get_or-map}
use Rattle.typed_tree.specs.declared.object.Object.{Object}
use Rattle.typed_tree.specs.Programs.{text_io}
use Rattle.flow_paths.specs.Objects.{Typing, has_scope_end}
use Rattle.lay_out.specs.Known.{has_end}

-- A list tells of each object; numbers past its end count as Integer objects.
pub ends_tell : (s : Typing) (ends : List Bool) (other : Bool) → ends ≡ map (λ (x : Object). has_end s x.of) s.objects → other ≡ has_end s 0 → (x : ℕ)
    → get_or ends x other ≡ has_scope_end s x
ends_tell s ends other are integer x =
    ap (λ (bs : List Bool). get_or bs x other) are
    ∙ ap (λ (b : Bool). get_or (map (λ (y : Object). has_end s y.of) s.objects) x b) integer
    ∙ get_or-map (λ (y : Object). has_end s y.of) s.objects x text_io
