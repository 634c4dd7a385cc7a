-- The first fault of a list is that of its parts, one after the other.
use Rattle.std.proofs.Common.{◌≡◌, ◌<◌, ◌+◌, ℕ, suc, arith, length, drop, get_or, List, [], ◌∷◌, ◌++◌, Option, Some, None, Bool, true, false, refl, sym, ap, ◌∙◌, if◌then◌else◌}
use Rattle.std.specs.Prelude.{flat_map}
use Rattle.std.proofs.Math.Seq.{drop-cons}
use Rattle.type_definitions.specs.declared.judgement.Fault.{Fault}
use Rattle.spark_base.specs.declared.position.Pos.{Pos}
use Rattle.type_definitions.specs.Faults.{noted, precedes, demand}

pub noted_append : (found : Option Fault) (a b : List Fault) → noted found (a ++ b) ≡ noted (noted found a) b
noted_append found [] b = refl
noted_append None (f ∷ a) b = noted_append (Some f) a b
noted_append (Some g) (f ∷ a) b = noted_append (Some (if precedes f g then f else g)) a b

-- Those of one more item of a list.
pub faults_step : {A : Type 0} (f : A → List Fault) (items : List A) (i j : ℕ) (d : A) (found next : Option Fault) → i < length items
    → j ≡ i + 1 → next ≡ noted found (f (get_or items i d))
    → noted next (flat_map f (drop j items)) ≡ noted found (flat_map f (drop i items))
faults_step f items i j d found next lt e is =
    let e : j ≡ suc i = omega (arith, e) in
    ap (λ g. noted g (flat_map f (drop j items))) is
    ∙ sym (noted_append found (f (get_or items i d)) (flat_map f (drop j items)))
    ∙ ap (λ k. noted found (f (get_or items i d) ++ flat_map f (drop k items))) e
    ∙ ap (λ xs. noted found (flat_map f xs)) (sym (drop-cons items i d lt))

-- ---- a fault that is found already

pub kept_ahead : (first : Fault) (code : ℕ) (pos : Pos) → precedes (record { pos = pos; code = code }) first ≡ false → (holds : Bool)
    → noted (Some first) (demand code pos holds) ≡ Some first
kept_ahead first code pos behind true = refl
kept_ahead first code pos behind false =
    ap (λ b. Some (if b then record { pos = pos; code = code } else first)) behind
