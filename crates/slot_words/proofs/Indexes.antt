-- The indexes of names.
use Rattle.std.proofs.Common.{◌≡◌, refl, sym, subst, ℕ, Bool, false, ℤ, pos, Result, Ok, Err}
use Rattle.resolved_tree.specs.declared.operator.Operator.{Operator}
use Rattle.resolved_tree.specs.declared.operator.UnaryOperator.{UnaryOperator}
use Rattle.typed_tree.specs.declared.node.ShortCircuit.{ShortCircuit}
use Rattle.run_values.specs.declared.value.Kind.{Kind}
use Rattle.slot_heap.specs.Heaps.{Heap}
use Rattle.code_rows.specs.declared.stop.Stop.{Stop}
use Rattle.code_rows.specs.Stops.{stop_of, shown}
use Rattle.code_rows.specs.declared.node.Node.{Node}
use Rattle.code_rows.specs.declared.node.Node.TheVariants as node
use Rattle.code_rows.specs.Rows.{code_of}
use Rattle.run_codes.specs.Codes.{Code, Local, Global, Via}
use Rattle.run_codes.specs.Lowered.{no_index}
use Rattle.run_codes.specs.Flat.{Given}
use Rattle.handled_runs.specs.Slots.{word, indexes}
use Rattle.slot_memory.specs.Memory.{Kept, slots}
use Rattle.slot_words.specs.Reading.{Reads, Gives, ReadsNames, GivesNames}
use Rattle.slot_words.proofs.Wholes.{first_whole, next_whole, first_stops, next_gives}

module _ {R : Type 0} (Means : R → Heap → Type 0) (m : Kept R) where
  pub local_reads : (at : ℕ) (i : Code) → ReadsNames Means m (Local at i) → Reads Means m i
  unfolding indexes
  local_reads at i is = record { ghosts = is.ghosts; stands = is.stands; whole = is.whole }

  pub local_reads_of : (c : Code) (at : ℕ) (i : Code) → c ≡ Local at i → ReadsNames Means m c → Reads Means m i
  local_reads_of c at i e is = local_reads at i (subst (ReadsNames Means m) e is)

  pub local_names : (at : ℕ) (i : Code) (r : Result ℤ Stop) → Gives Means m i r → GivesNames Means m (Local at i) r
  unfolding indexes
  local_names at i r is = record { gives = is.gives }

  pub global_reads : (at : ℕ) (i : Code) → ReadsNames Means m (Global at i) → Reads Means m i
  unfolding indexes
  global_reads at i is = record { ghosts = is.ghosts; stands = is.stands; whole = is.whole }

  pub global_reads_of : (c : Code) (at : ℕ) (i : Code) → c ≡ Global at i → ReadsNames Means m c → Reads Means m i
  global_reads_of c at i e is = global_reads at i (subst (ReadsNames Means m) e is)

  pub global_names : (at : ℕ) (i : Code) (r : Result ℤ Stop) → Gives Means m i r → GivesNames Means m (Global at i) r
  unfolding indexes
  global_names at i r is = record { gives = is.gives }

module _ {R : Type 0} (Means : R → Heap → Type 0) (m : Kept R) (p : Code) (at : ℕ) (i : Code) (k : Kind) where
  pub names_first : ReadsNames Means m (Via p at i k) → ReadsNames Means m p
  unfolding indexes
  names_first is = record { ghosts = is.ghosts; stands = is.stands; whole = first_whole (indexes (slots m is.ghosts) p) _ is.whole }

  pub names_stop : (s : Stop) → GivesNames Means m p (Err s) → GivesNames Means m (Via p at i k) (Err s)
  unfolding indexes
  names_stop s is = record { gives = λ g stands whole. first_stops (indexes (slots m g) p) _ (stop_of s) (is.gives g stands) whole }

  pub names_index : (x : ℤ) → ReadsNames Means m (Via p at i k) → GivesNames Means m p (Ok x) → Reads Means m i
  unfolding indexes
  names_index x is names = record {
    ghosts = is.ghosts;
    stands = is.stands;
    whole = next_whole (indexes (slots m is.ghosts) p) (λ x. word (slots m is.ghosts) i) x (names.gives is.ghosts is.stands) is.whole;
  }

  pub names_give : (x : ℤ) (r : Result ℤ Stop) → GivesNames Means m p (Ok x) → Gives Means m i r → GivesNames Means m (Via p at i k) r
  unfolding indexes
  names_give x r names index = record {
    gives = λ g stands whole. next_gives (indexes (slots m g) p) (λ x. word (slots m g) i) x (shown r) (names.gives g stands) (index.gives g stands) whole;
  }

module _ {R : Type 0} (Means : R → Heap → Type 0) (m : Kept R) where
  pub names_index_of : (c p : Code) (at : ℕ) (i : Code) (k : Kind) (x : ℤ) → c ≡ Via p at i k → ReadsNames Means m c → GivesNames Means m p (Ok x) → Reads Means m i
  names_index_of c p at i k x e is names = names_index Means m p at i k x (subst (ReadsNames Means m) e is) names

  -- That of a name whose index is 0.
  pub names_plain : (p : Code) (at : ℕ) (k : Kind) (x : ℤ) → GivesNames Means m p (Ok x) → GivesNames Means m (Via p at no_index k) (Ok (pos 0))
  unfolding indexes word
  names_plain p at k x names = record {
    gives = λ g stands whole. next_gives (indexes (slots m g) p) (λ x. word (slots m g) no_index) x (Given (pos 0)) (names.gives g stands) (λ there. refl) whole;
  }

  -- That of an expression without one, and without a name behind which a word stands.
  pub no_names : (code : ℕ → Code) (n : Node) → ((at i : ℕ) → n ≡ node.LocalAt at i → ⊥) → ((at i : ℕ) → n ≡ node.GlobalAt at i → ⊥)
      → ((p at : ℕ) (k : Kind) → n ≡ node.Via p at k → ⊥) → ((p at i : ℕ) (k : Kind) → n ≡ node.ViaAt p at i k → ⊥) → GivesNames Means m (code_of code n) (Ok (pos 0))
  unfolding indexes word
  no_names code (node.Number v) local global via via_at = record { gives = λ g stands whole. refl }
  no_names code (node.Local at) local global via via_at = record { gives = λ g stands whole. refl }
  no_names code (node.LocalAt at i) local global via via_at = absurd (local at i refl)
  no_names code (node.Global at) local global via via_at = record { gives = λ g stands whole. refl }
  no_names code (node.GlobalAt at i) local global via via_at = absurd (global at i refl)
  no_names code (node.Via p at k) local global via via_at = absurd (via p at k refl)
  no_names code (node.ViaLocal from at k) local global via via_at = record { gives = λ g stands whole. refl }
  no_names code (node.ViaAt p at i k) local global via via_at = absurd (via_at p at i k refl)
  no_names code (node.Scaled i low high size) local global via via_at = record { gives = λ g stands whole. refl }
  no_names code (node.Plus a b) local global via via_at = record { gives = λ g stands whole. refl }
  no_names code (node.Unary op a) local global via via_at = record { gives = λ g stands whole. refl }
  no_names code (node.Binary op a b) local global via via_at = record { gives = λ g stands whole. refl }
  no_names code (node.WithNumber op a v) local global via via_at = record { gives = λ g stands whole. refl }
  no_names code (node.Short op a b) local global via via_at = record { gives = λ g stands whole. refl }
  no_names code (node.IsNull equal p) local global via via_at = record { gives = λ g stands whole. refl }
  no_names code (node.Waiting at) local global via via_at = record { gives = λ g stands whole. refl }
  no_names code node.EndOfFile local global via via_at = record { gives = λ g stands whole. refl }

module _ {R : Type 0} (Means : R → Heap → Type 0) (m : Kept R) where
  pub no_names_of : (c : Code) (code : ℕ → Code) (n : Node) (z : ℤ) → c ≡ code_of code n → ((at i : ℕ) → n ≡ node.LocalAt at i → ⊥)
      → ((at i : ℕ) → n ≡ node.GlobalAt at i → ⊥) → ((p at : ℕ) (k : Kind) → n ≡ node.Via p at k → ⊥) → ((p at i : ℕ) (k : Kind) → n ≡ node.ViaAt p at i k → ⊥)
      → z ≡ pos 0 → GivesNames Means m c (Ok z)
  no_names_of c code n z e local global via via_at zero =
      subst (λ x. GivesNames Means m x (Ok z)) (sym e) (subst (λ i. GivesNames Means m (code_of code n) (Ok i)) (sym zero) (no_names Means m code n local global via via_at))

pub ruleset names_rules = (local_reads, local_names, global_reads, global_names, names_first, names_stop, names_index, names_give, names_plain)
