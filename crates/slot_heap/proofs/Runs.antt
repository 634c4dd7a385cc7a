-- What stays of runs, cells and free runs where other words change.
use Rattle.std.proofs.Common.{◌≡◌, ℕ, ◌+◌, ◌<◌, ◌≤◌, List, [], ◌∷◌, length, slice_get, refl, sym, ap, subst, ◌∙◌, arith, inl, inr, ⊎_elim, ◌==◌, if◌then◌else◌}
use Rattle.std.proofs.lemmas.Bool.{cases_eq, eq-eqb, ne_eqb}
use Rattle.run_values.specs.declared.value.Value.{Value}
use Rattle.slot_heap.specs.Runs.{IsRun, StandsAt, Stand, Chain, Has, link}
use Rattle.slot_heap.proofs.Places.{is_within}

-- Two words that belong to runs with different starts aren't marked alike.
pub apart : {marks : ℕ → ℕ × ℕ} {end a n : ℕ} → (b k i : ℕ) → IsRun marks end a n → a ≤ i → i < a + n → (a ≡ b → ⊥) → marks i ≡ (b, k) → ⊥
apart b k i run from to other is = other (ap (λ (r : ℕ × ℕ). r.0) (sym (run.marked i from to) ∙ is))

-- Words outside a run stay.
pub record Outside {W : Type 0} (marks : ℕ → ℕ × ℕ) (b k : ℕ) (words now : List W) : Type 0 where
  pub len : length now ≡ length words
  pub same : (i : ℕ) → (marks i ≡ (b, k) → ⊥) → slice_get now i ≡ slice_get words i

pub run_kept : {W : Type 0} {marks : ℕ → ℕ × ℕ} {b k a n : ℕ} {words now : List W} → Outside marks b k words now → IsRun marks (length words) a n → IsRun marks (length now) a n
run_kept {marks = marks} {a = a} {n = n} out run =
    let P : ℕ → Type 0 = λ end. IsRun marks end a n in
    subst P (sym out.len) run

pub stand_kept : {W : Type 0} (IsCode : W → Value → Type 0) {marks : ℕ → ℕ × ℕ} {b k a : ℕ} {words now : List W} (ws : List Value) → Outside marks b k words now → IsRun marks (length words) a (length ws) → (a ≡ b → ⊥) → Stand IsCode words a ws → Stand IsCode now a ws
stand_kept IsCode {b = b} {k = k} {a = a} ws out run other stand i v is =
    let within = is_within ws i v is in
    rw (out.same (a + i) (apart b k (a + i) run (omega arith) (omega (arith, within)) other)) (stand i v is)

-- One word stays.
pub first_kept : {W : Type 0} (IsCode : W → Value → Type 0) {marks : ℕ → ℕ × ℕ} {b k a n : ℕ} {words now : List W} (v : Value) → Outside marks b k words now → IsRun marks (length words) a n → (a ≡ b → ⊥) → StandsAt IsCode words a v → StandsAt IsCode now a v
first_kept IsCode {b = b} {k = k} {a = a} v out run other stands =
    let some = run.some in
    rw (out.same a (apart b k a run (omega arith) (omega (arith, some)) other)) stands

pub chain_kept : {W : Type 0} (IsCode : W → Value → Type 0) {marks : ℕ → ℕ × ℕ} {b k : ℕ} {words now : List W} (n : ℕ) (starts : List ℕ) → Outside marks b k words now → ((a : ℕ) → Has starts a → IsRun marks (length words) a n × (a ≡ b → ⊥)) → Chain IsCode words starts → Chain IsCode now starts
chain_kept IsCode n [] out runs chain = chain
chain_kept IsCode n (a ∷ starts) out runs chain =
    let here = runs a (inl refl) in
    (first_kept IsCode (link starts) out here.0 here.1 chain.0, chain_kept IsCode n starts out (λ c has. runs c (inr has)) chain.1)

-- ---- by sizes

-- The free runs of one size are others.
abbrev pub put_at : ℕ → List ℕ → (ℕ → List ℕ) → ℕ → List ℕ
put_at n new frees j = if j == n then new else frees j

pub by_size : (P : ℕ → List ℕ → Type 0) (n : ℕ) (new : List ℕ) (frees : ℕ → List ℕ) → P n new → ((j : ℕ) → (j ≡ n → ⊥) → P j (frees j)) → (j : ℕ) → P j (put_at n new frees j)
by_size P n new frees here others j =
    ⊎_elim
    (λ (e : j ≡ n). rw (eq-eqb j n e) (subst (λ i. P i new) (sym e) here))
    (λ other. rw (ne_eqb j n other) (others j other))
    (cases_eq j n)
