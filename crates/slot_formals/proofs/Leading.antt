-- What a memory comes to, one change after the other.
use Rattle.std.proofs.Common.{◌≡◌, false, refl, ap, subst, ◌∙◌, Result, Ok, Err}
use Rattle.std.specs.Prelude.{OnOk}
use Rattle.slot_heap.specs.Heaps.{Heap}
use Rattle.run_codes.specs.Flat.{Got, Given, Stops, Broken, and_then, is_broken}
use Rattle.handled_runs.specs.Slots.{Slots}
use Rattle.slot_memory.specs.Memory.{Kept, Shows, Knows, Changes, slots, ghosts_of}
use Rattle.slot_formals.specs.Leads.{Gives, Leads}

pub taken : {A B : Type 0} (g : Got A) (h : A → Got B) (t : B) → and_then g h ≡ Given t → (a : A) × (g ≡ Given a) × (h a ≡ Given t)
taken (Given a) h t is = (a, refl, is)
taken (Stops x) h t is = absurd (let e : ◌≡◌ {A = Got _} (Stops x) (Given t) = is in cc)
taken Broken h t is = absurd (let e : ◌≡◌ {A = Got _} Broken (Given t) = is in cc)

pub same_given : {A : Type 0} (a b : A) → Given a ≡ Given b → a ≡ b
same_given a b is = cc

module _ {R : Type 0} (Means : R → Heap → Type 0) where
  pub knows_first : {A B : Type 0} (m : Kept R) (c : Slots → Got A) (h : Slots → A → Got B) → Gives Means m (λ s. and_then (c s) (h s))
      → Knows Means m (λ s. is_broken (c s) ≡ false)
  knows_first m c h gives =
      let first = taken (c (slots m gives.ghosts)) (h (slots m gives.ghosts)) gives.after gives.is in
      (gives.ghosts, (gives.stands, ap is_broken first.1))

  pub knows_all : {A : Type 0} (m : Kept R) (c : Slots → Got A) → Gives Means m c → Knows Means m (λ s. is_broken (c s) ≡ false)
  knows_all m c gives = (gives.ghosts, (gives.stands, ap is_broken gives.is))

  pub gives_first : {A B : Type 0} (m : Kept R) (c : Slots → Got A) (h : Slots → A → Got B) → Gives Means m (λ s. and_then (c s) (h s)) → Gives Means m c
  gives_first m c h gives =
      let first = taken (c (slots m gives.ghosts)) (h (slots m gives.ghosts)) gives.after gives.is in
      record { ghosts = gives.ghosts; stands = gives.stands; after = first.0; is = first.1 }

  pub gives_on : {A : Type 0} (m n : Kept R) (f h : Slots → Got A) → Gives Means m f → Leads Means m f n h → Gives Means n h
  gives_on m n f h gives leads =
      let (u, shows, is) = leads.on gives.ghosts gives.stands gives.after gives.is in
      record { ghosts = ghosts_of u; stands = shows.0; after = gives.after; is = ap h shows.1 ∙ is }

  pub leads_first : {A : Type 0} (m n : Kept R) (c : Slots → Got Slots) (h : Slots → Got A) → Changes Means m c n → Leads Means m (λ s. and_then (c s) h) n h
  leads_first m n c h changes = record {
    on = λ g stands t is. (let (u, given, rest) = taken (c (slots m g)) h t is in (u, changes g stands u given, rest));
  }

  pub leads_on : {A : Type 0} (m n k : Kept R) (f : Slots → Got A) (c : Slots → Got Slots) (h : Slots → Got A)
      → Leads Means m f n (λ s. and_then (c s) h) → Changes Means n c k → Leads Means m f k h
  leads_on m n k f c h leads changes = record {
    on = λ g stands t is. (
        let (u, shows, rest) = leads.on g stands t is in
        let (w, given, after) = taken (c u) h t rest in
        (w, changes (ghosts_of u) shows.0 w (ap c shows.1 ∙ given), after));
  }

  pub changes_all : (m n : Kept R) (f : Slots → Got Slots) → Leads Means m f n (λ s. Given s) → Changes Means m f n
  changes_all m n f leads g stands t is =
      let (u, shows, same) = leads.on g stands t is in
      subst (λ w. Shows Means n w) (same_given u t same) shows

pub all_ok : {A E : Type 0} (r : Result A E) (P : Type 0) → P → OnOk r P
all_ok (Ok a) P p = p
all_ok (Err e) P p = tt
