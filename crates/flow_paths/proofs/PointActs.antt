-- The acts and the leak checks of a point follow from its instruction.
use Rattle.std.proofs.Common.{◌≡◌, ℕ, List, [], ◌∷◌, map, refl, subst, inl, inr}
use Rattle.typed_tree.specs.spark_base.Lists.{Has}
use Rattle.flow_paths.specs.Acts.{Frame, acts_of, leaks_of}
use Rattle.flow_paths.specs.Points.{PointName, NamedPoint, FlowPoint, flow_point}
use Rattle.flow_paths.specs.Laid.{numbered, number_in}

pub record Follow (f : Frame) (p : FlowPoint) : Type 0 where
  pub acts : p.acts ≡ acts_of f p.pos p.instr
  pub leaks : p.leaks ≡ leaks_of f p.pos p.instr

follows : (f : Frame) (number : PointName → ℕ) (p : NamedPoint) → Follow f (flow_point f number p)
follows f number p = record { acts = refl; leaks = refl }

each_follows : (f : Frame) (number : PointName → ℕ) (points : List NamedPoint) (p : FlowPoint)
    → Has (map (flow_point f number) points) p → Follow f p
each_follows f number [] p has = elim has [ ]
each_follows f number (q ∷ points) p has =
    elim has [
      | inl is ↦ subst (Follow f) is (follows f number q)
      | inr later ↦ each_follows f number points p later
    ]

pub acts_follow : (f : Frame) (points : List NamedPoint) (p : FlowPoint) → Has (numbered f points) p → Follow f p
acts_follow f points p has = each_follows f (number_in points) points p has
