-- What stands at a part of what owns names cells that are there.
use Rattle.std.proofs.Common.{◌≡◌, refl, sym, ap, ◌∙◌, subst, inl, inr, ℕ, ◌+◌, arith, true, List, [], ◌∷◌, ◌++◌, get_or, ℤ, pos}
use Rattle.machine.specs.spark_base.Lists.{Has}
use Rattle.machine.specs.type_definitions.Types.{Table}
use Rattle.machine.specs.flow_paths.Objects.{Typing}
use Rattle.machine.specs.flow_paths.Laid.{FlowProgram, flow_typing}
use Rattle.soundness.specs.PartOffsets.Parts.{type_in, offset_in, is_leaf, IsSettled}
use Rattle.soundness.proofs.PartOffsets.Leaves.{leaf_from, leaf_at}
use Rattle.soundness.specs.OwnedWays.Ways.{Loc, Owned}
use Rattle.soundness.specs.Seen.{content, trunk, steps_in}
use Rattle.soundness.specs.Typed.{Spot, loc_of}
use Rattle.soundness.specs.Sound.{view_of}
use Rattle.soundness.proofs.Joined.{leaf_join, offset_join}
use Rattle.soundness.proofs.Steps.{alike}
use Rattle.machine.specs.Owners.{waiting_in}
use Rattle.machine.specs.Words.{access_offsets}
use Rattle.machine.specs.Typed.{sorts}
use Rattle.machine.specs.Memory.{Base, OfVariable, OfCell, Place, slots_at}
use Rattle.machine.specs.States as machine
use Rattle.recycled_runs.specs.ViewedFacts.NullPlaces.Agrees.{SameState}
use Rattle.recycled_runs.proofs.ViewedFacts.NullPlaces.Memories.{cell_agree}
use Rattle.run_codes.specs.Points.{State}
use Rattle.run_codes.specs.Related.{types, AllStand, IsTable}
use Rattle.run_points.specs.States.{StateStands}
use Rattle.handled_runs.specs.Leaks.{IsLeaked, AreLeaked}
use Rattle.recycled_runs.proofs.Leaked.{owned_leaked}

module _ (program : FlowProgram) (laws : IsTable (flow_typing program).table) (settled : IsSettled (flow_typing program).table)
    (s t : machine.State) (g : State) (owned : Owned (view_of (flow_typing program) s)) (same : SameState s t) (stands : StateStands program t g) where
  abbrev typed : Typing
  typed = flow_typing program

  abbrev table : Table
  table = typed.table

  -- The type of what a place is a part of.
  abbrev pub type_of : Base → ℕ
  type_of b = (content typed s.memory (waiting_in s) (loc_of b)).of

  type_same : (b : Base) → (content typed t.memory (waiting_in s) (loc_of b)).of ≡ type_of b
  type_same (OfVariable f x) = refl
  type_same (OfCell n) = sym (cell_agree s.memory t.memory same.1 n).0

  module _ (p : Place) (l : Loc) (spot : Spot typed t.memory (waiting_in s) p l) where
    -- The access parts of a part are access parts of the whole.
    part_offset : (o : ℕ) → Has (access_offsets table p.of) o → Has (access_offsets table (type_of p.base)) (p.at + o)
    part_offset o has =
        let whole : ℕ = (content typed t.memory (waiting_in s) (trunk l)).of in
        let steps : List _ = steps_in l in
        let u : ℕ = type_in table whole steps in
        let leaf = leaf_from table settled p.of o has in
        let like = alike table settled p.of u spot.of in
        let inner : is_leaf table u leaf.0 ≡ true = sym (like.leaf leaf.0) ∙ leaf.1 in
        let outer : is_leaf table whole (leaf.0 ++ steps) ≡ true = leaf_join table whole steps leaf.0 spot.there ∙ inner in
        let below = offset_join table whole steps leaf.0 in
        let here = like.at leaf.0 leaf.1 in
        let at = spot.at in
        let end = leaf.2 in
        let offset : offset_in table whole (leaf.0 ++ steps) ≡ p.at + o = omega (arith, below, here, at, end) in
        let type : whole ≡ type_of p.base = ap (λ z. (content typed t.memory (waiting_in s) z).of) spot.base ∙ type_same p.base in
        subst (λ x. Has (access_offsets table x) (p.at + o)) type (subst (Has (access_offsets table whole)) offset (leaf_at table settled whole (leaf.0 ++ steps) outer))

    module _ (owns : (content typed s.memory (waiting_in s) (loc_of p.base)).owns ≡ true) (zs : List ℤ)
        (stand : AllStand table (types t.memory) (sorts table (type_of p.base)) (slots_at typed t.memory p.base) zs) where
      -- So what leak checks of its words tell of is there.
      pub part_leaked : (us : List ℤ) → ((o : ℕ) → Has (access_offsets table p.of) o → get_or zs (p.at + o) (pos 0) ≡ get_or us o (pos 0)) → AreLeaked g.memory.cells us (access_offsets table p.of)
      part_leaked us words = each (access_offsets table p.of) (λ o has. has)
        where
          one : (o : ℕ) → Has (access_offsets table (type_of p.base)) o → IsLeaked g.memory.cells (get_or zs o (pos 0))
          one o has =
              (owned_leaked program laws settled s t g owned same stands p.base owns zs stand (o ∷ []) (λ i is. elim is [
                | inl e ↦ subst (Has (access_offsets table (type_of p.base))) e has
                | inr none ↦ absurd none
              ])).0

          each : (offsets : List ℕ) → ((o : ℕ) → Has offsets o → Has (access_offsets table p.of) o) → AreLeaked g.memory.cells us offsets
          each [] in_type = tt
          each (o ∷ rest) in_type = (
            subst (IsLeaked g.memory.cells) (words o (in_type o (inl refl))) (one (p.at + o) (part_offset o (in_type o (inl refl)))),
            each rest (λ i has. in_type i (inr has)),
          )
