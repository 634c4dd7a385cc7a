-- Points that store a value, over both heaps.
use Rattle.std.proofs.Common.{◌≡◌, refl, sym, subst, ℕ, ◌+◌, List, [], ◌∷◌, ◌++◌, drop, Option, ℤ}
use Rattle.handled_runs.specs.spark_base.declared.position.Pos.{Pos}
use Rattle.handled_runs.specs.run_values.declared.value.Kind.{Kind}
use Rattle.handled_runs.specs.run_codes.Codes.{Place, Fill}
use Rattle.handled_runs.specs.run_codes.Flat.{Flat, Given, Done, Spot, kinds}
use Rattle.handled_runs.specs.run_codes.Flat as flat
use Rattle.handled_runs.specs.run_codes.Points as points
use Rattle.handled_runs.specs.Slots.{Slots}
use Rattle.handled_runs.specs.Slots as slots
use Rattle.handled_runs.specs.Changes.{stored}
use Rattle.handled_runs.specs.Assigned.{Left, flat_assigned, assigned, LooksTo, AreLeft}
use Rattle.handled_runs.specs.Beside.{all_renamed, spot_renamed, Beside}
use Rattle.handled_runs.specs.Looks.{IsFront}
use Rattle.handled_runs.specs.Alike.{Alike, LooksThere, LooksFill}
use Rattle.handled_runs.proofs.Bases.{filled_base}
use Rattle.handled_runs.proofs.Copies.{spots_alike}
use Rattle.handled_runs.proofs.There.{stored_gots}
use Rattle.handled_runs.proofs.Filled.{fill_alike}
use Rattle.handled_runs.proofs.Assigned.{assigned_alike, assign_is}
use Rattle.handled_steps.specs.States.{Outcome, Turn, start, on_got, goes, leaking_goes}
use Rattle.handled_steps.specs.Steps.{After, on_settled, put, store, assign, put_words, left_goes}
use Rattle.handled_steps.specs.Alike.{OutcomesAlike, led_kinds}
use Rattle.handled_steps.specs.Looks.{HavePointers, taken_kinds}
use Rattle.handled_steps.proofs.Turns.{Both, flat_turn, slot_turn, start_during, read_during, settled_on, got_on, goes_alike, leaking_goes_alike, made_on}
use Rattle.handled_steps.proofs.Gots.{put_gots}

module _ (handles : List ℕ) (here : List Kind) (z : Both handles here) where
  abbrev t : points.Turn
  t = flat_turn handles here z

  abbrev u : Turn
  u = slot_turn handles here z

  abbrev takes : List Kind
  takes = taken_kinds t

  abbrev Same : List Kind → points.Outcome → Outcome → Type 0
  Same = OutcomesAlike z.table handles

  -- A value comes first.
  pub after_value : (v : Fill) (ks there : List Kind) (F : List ℤ → Flat → points.Outcome) (G : List ℤ → Slots → Outcome) (r : Outcome) → LooksFill z.table z.f.base here takes v ks → After u v G r
      → ((zs : List ℤ) (m : Flat) (s : Slots) → flat.filled z.table v (points.start t) ≡ Done zs m → (us : List ℤ) (alike : Alike handles here takes ks zs m us s)
      → Same there (F zs m) (G (all_renamed (handles ++ alike.more) ks zs) s))
      → Same there (points.on_made t (flat.filled z.table v (points.start t)) F) r
  after_value v ks there F G r looks (g, fills, so) on =
      subst (Same there (points.on_made t (flat.filled z.table v (points.start t)) F)) (sym so)
      (made_on handles here z ks takes there (flat.filled z.table v (points.start t)) g F G
      (fill_alike z.table v ks handles here takes (points.start t) (start u) g (start_during handles here z) looks fills)
      (λ zs m us s found alike. subst (λ vs. Same there (F zs m) (G vs s)) (sym alike.words) (on zs m s found us alike)))

  base_after : (v : Fill) (zs : List ℤ) (m : Flat) → flat.filled z.table v (points.start t) ≡ Done zs m → m.base ≡ z.f.base
  base_after v zs m found = filled_base z.table v (points.start t) zs m found

  pub put_alike : (at : ℕ) (v : Fill) (n : Option ℕ) (ks : List Kind) (r : Outcome) → LooksFill z.table z.f.base here takes v ks → IsFront ks (drop (z.f.base + at) here)
      → After u v (put u at n) r → Same (led_kinds t here n) (points.put t at v n) r
  put_alike at v n ks r looks is so =
      after_value v ks (led_kinds t here n) (λ zs m. points.on_got t m (points.put_words m at zs) (λ k. points.goes t k n)) (put u at n) r looks so
      (λ zs m s found us alike.
      let hs : List ℕ = handles ++ alike.more in
      settled_on handles here z alike.more here takes m s alike.during (led_kinds t here n) (points.on_got t m (points.put_words m at zs) (λ k. points.goes t k n))
      (λ s. on_got u s (put_words s at (all_renamed hs ks zs)) (λ l. goes u l n))
      (λ s beside.
      got_on handles here z alike.more here takes m s beside (Beside hs here takes) (led_kinds t here n) (points.put_words m at zs) (put_words s at (all_renamed hs ks zs))
      (λ k. points.goes t k n) (λ l. goes u l n)
      (put_gots hs here takes m s beside at ks zs (subst (λ b. IsFront ks (drop (b + at) here)) (sym (base_after v zs m found)) is) alike.known alike.names)
      (λ k l given both. goes_alike handles here z alike.more takes k l both n)))

  pub store_alike : (p : Place) (v : Fill) (k : Kind) (n : Option ℕ) (r : Outcome) → LooksFill z.table z.f.base here takes v (k ∷ []) → LooksThere z.f.base here takes p (k ∷ [])
      → After u v (store u p k n) r → Same (led_kinds t here n) (points.store t p v k n) r
  store_alike p v k n r looks place so =
      after_value v (k ∷ []) (led_kinds t here n) (λ zs m. points.on_got t m (flat.spot m p) (λ q. points.on_got t m (flat.stored m q (k ∷ []) zs) (λ l. points.goes t l n))) (store u p k n) r looks so
      (λ zs m s found us alike.
      let hs : List ℕ = handles ++ alike.more in
      let there : LooksThere m.base here takes p (k ∷ []) = subst (λ b. LooksThere b here takes p (k ∷ [])) (sym (base_after v zs m found)) place in
      read_during handles here z alike.more here takes m s alike.during (λ q w. w ≡ spot_renamed hs q) (led_kinds t here n) (flat.spot m p) (slots.spot s p)
      (λ q. points.on_got t m (flat.stored m q (k ∷ []) zs) (λ l. points.goes t l n)) (λ w. on_settled u s (λ s. on_got u s (stored s w (k ∷ []) (all_renamed hs (k ∷ []) zs)) (λ l. goes u l n)))
      (spots_alike hs here takes m s alike.during p (λ x e. (there x e).0))
      (λ q w at same.
      subst (λ x. Same (led_kinds t here n) (points.on_got t m (flat.stored m q (k ∷ []) zs) (λ l. points.goes t l n)) (on_settled u s (λ s. on_got u s (stored s x (k ∷ []) (all_renamed hs (k ∷ []) zs)) (λ l. goes u l n)))) (sym same)
      (settled_on handles here z alike.more here takes m s alike.during (led_kinds t here n) (points.on_got t m (flat.stored m q (k ∷ []) zs) (λ l. points.goes t l n))
      (λ s. on_got u s (stored s (spot_renamed hs q) (k ∷ []) (all_renamed hs (k ∷ []) zs)) (λ l. goes u l n))
      (λ s beside.
      got_on handles here z alike.more here takes m s beside (Beside hs here takes) (led_kinds t here n) (flat.stored m q (k ∷ []) zs) (stored s (spot_renamed hs q) (k ∷ []) (all_renamed hs (k ∷ []) zs))
      (λ l. points.goes t l n) (λ l. goes u l n)
      (stored_gots hs here takes m s beside q (k ∷ []) zs ((there m refl).1 q at) alike.known alike.names)
      (λ l i given both. goes_alike handles here z alike.more takes l i both n)))))

  -- The memories are left with the leak checks.
  pub left_alike : (more : List ℕ) (m : Flat) (s : Slots) (n : Option ℕ) (a : Left Flat) (b : Left Slots) → AreLeft (handles ++ more) here takes a b
      → Same (led_kinds t here n) (points.leaking_goes t a.leaks a.memory n) (left_goes u n b)
  left_alike more m s n a b is =
      subst (λ ls. Same (led_kinds t here n) (points.leaking_goes t a.leaks a.memory n) (leaking_goes u ls b.memory n)) (sym is.0)
      (leaking_goes_alike handles here z more takes a.memory b.memory is.1 a.leaks n)

  pub assign_alike : HavePointers z.table → (p : Place) (v : Fill) (of : ℕ) (checks : Option Pos) (n : Option ℕ) (r : Outcome) → LooksFill z.table z.f.base here takes v (kinds z.table of)
      → ((zs : List ℤ) (m : Flat) → flat.filled z.table v (points.start t) ≡ Done zs m → LooksTo z.table z.f.base m here takes p of checks)
      → After u v (assign u p of checks n) r → Same (led_kinds t here n) (points.assign t p v of checks n) r
  assign_alike pointers p v of checks n r looks to so =
      subst (λ x. Same (led_kinds t here n) x r) (sym (assign_is t p v of checks n))
      (after_value v (kinds z.table of) (led_kinds t here n) (λ zs m. points.on_got t m (flat_assigned z.table p of checks zs m) (λ l. points.leaking_goes t l.leaks l.memory n)) (assign u p of checks n) r looks so
      (λ zs m s found us alike.
      let hs : List ℕ = handles ++ alike.more in
      let words : List ℤ = all_renamed hs (kinds z.table of) zs in
      read_during handles here z alike.more here takes m s alike.during (AreLeft hs here takes) (led_kinds t here n) (flat_assigned z.table p of checks zs m) (assigned z.table p of checks words s)
      (λ l. points.leaking_goes t l.leaks l.memory n) (left_goes u n)
      (assigned_alike hs here takes m s alike.during z.table p of checks zs (subst (λ b. LooksTo z.table b m here takes p of checks) (sym (base_after v zs m found)) (to zs m found)) (pointers of) alike.known alike.names)
      (λ a b given both. left_alike alike.more m s n a b both)))
