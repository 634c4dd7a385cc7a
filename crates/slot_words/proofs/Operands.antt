-- Expressions with two operands.
use Rattle.std.proofs.Common.{◌≡◌, ◌+◌, Bool, true, false, ℤ, unsigned_abs, Option, Some, None, IfSome, Result, Ok, Err, if◌then◌else◌, subst, ap, ◌∙◌, sym}
use Rattle.resolved_tree.specs.declared.operator.Operator.{Operator}
use Rattle.typed_tree.specs.declared.node.ShortCircuit.{ShortCircuit}
use Rattle.slot_heap.specs.Heaps.{Heap}
use Rattle.code_rows.specs.declared.stop.Stop.{Stop}
use Rattle.code_rows.specs.Stops.{stop_of, shown}
use Rattle.run_codes.specs.Codes.{Code, Plus, Binary, Short}
use Rattle.run_codes.specs.Flat.{Got, Given, Stops, and_then, is_broken, operated, offset, decides}
use Rattle.handled_runs.specs.Slots.{word}
use Rattle.slot_memory.specs.Memory.{Kept, slots}
use Rattle.slot_words.specs.Reading.{Reads, Gives}
use Rattle.slot_words.proofs.Wholes.{first_whole, next_whole, first_stops, next_gives}

-- The sum of two offsets.
abbrev pub offsets : ℤ → ℤ → Got ℤ
offsets x y = offset (unsigned_abs x + unsigned_abs y)

-- ---- an operator

module _ {R : Type 0} (Means : R → Heap → Type 0) (m : Kept R) (op : Operator) (a b : Code) where
  pub binary_left : Reads Means m (Binary op a b) → Reads Means m a
  unfolding word
  binary_left is = record { ghosts = is.ghosts; stands = is.stands; whole = first_whole (word (slots m is.ghosts) a) _ is.whole }

  pub binary_left_stops : (s : Stop) → Gives Means m a (Err s) → Gives Means m (Binary op a b) (Err s)
  unfolding word
  binary_left_stops s is = record { gives = λ g stands whole. first_stops (word (slots m g) a) _ (stop_of s) (is.gives g stands) whole }

  pub binary_right : (x : ℤ) → Reads Means m (Binary op a b) → Gives Means m a (Ok x) → Reads Means m b
  unfolding word
  binary_right x is left = record {
    ghosts = is.ghosts;
    stands = is.stands;
    whole = first_whole (word (slots m is.ghosts) b) (operated op x)
        (next_whole (word (slots m is.ghosts) a) (λ x. and_then (word (slots m is.ghosts) b) (operated op x)) x (left.gives is.ghosts is.stands) is.whole);
  }

  pub binary_right_stops : (x : ℤ) (s : Stop) → Gives Means m a (Ok x) → Gives Means m b (Err s) → Gives Means m (Binary op a b) (Err s)
  unfolding word
  binary_right_stops x s left is = record {
    gives = λ g stands whole.
        next_gives (word (slots m g) a) (λ x. and_then (word (slots m g) b) (operated op x)) x (Stops (stop_of s)) (left.gives g stands)
        (first_stops (word (slots m g) b) (operated op x) (stop_of s) (is.gives g stands)) whole;
  }

  pub binary_there : (x y : ℤ) → Reads Means m (Binary op a b) → Gives Means m a (Ok x) → Gives Means m b (Ok y) → is_broken (operated op x y) ≡ false
  unfolding word
  binary_there x y is left right =
      next_whole (word (slots m is.ghosts) b) (operated op x) y (right.gives is.ghosts is.stands)
      (next_whole (word (slots m is.ghosts) a) (λ x. and_then (word (slots m is.ghosts) b) (operated op x)) x (left.gives is.ghosts is.stands) is.whole)

  pub binary_gives : (x y : ℤ) (r : Result ℤ Stop) → Gives Means m a (Ok x) → Gives Means m b (Ok y) → operated op x y ≡ shown r → Gives Means m (Binary op a b) r
  unfolding word
  binary_gives x y r left right e = record {
    gives = λ g stands whole.
        next_gives (word (slots m g) a) (λ x. and_then (word (slots m g) b) (operated op x)) x (shown r) (left.gives g stands)
        (next_gives (word (slots m g) b) (operated op x) y (shown r) (right.gives g stands) (λ there. e)) whole;
  }

module _ {R : Type 0} (Means : R → Heap → Type 0) (m : Kept R) (op : Operator) (a b : Code) where
  pub binary_at : (x y u v : ℤ) → Reads Means m (Binary op a b) → Gives Means m a (Ok x) → Gives Means m b (Ok y) → u ≡ x → v ≡ y → is_broken (operated op u v) ≡ false
  binary_at x y u v is left right e d =
      subst (λ i. is_broken (operated op i v) ≡ false) (sym e) (subst (λ i. is_broken (operated op x i) ≡ false) (sym d) (binary_there Means m op a b x y is left right))

  pub binary_given : (x y u v : ℤ) (r : Result ℤ Stop) → Gives Means m a (Ok x) → Gives Means m b (Ok y) → operated op u v ≡ shown r → u ≡ x → v ≡ y → Gives Means m (Binary op a b) r
  binary_given x y u v r left right is e d = binary_gives Means m op a b x y r left right (ap (λ i. operated op i y) (sym e) ∙ (ap (operated op u) (sym d) ∙ is))

module _ {R : Type 0} (Means : R → Heap → Type 0) (m : Kept R) (op : Operator) (a b : Code) where
  pub binary_some : (x y : ℤ) (o : Option ℤ) → Gives Means m a (Ok x) → Gives Means m b (Ok y) → IfSome o (λ w. operated op x y ≡ Given w)
      → IfSome o (λ w. Gives Means m (Binary op a b) (Ok w))
  binary_some x y None left right e = tt
  binary_some x y (Some w) left right e = binary_gives Means m op a b x y (Ok w) left right e

pub ruleset binary_rules = (binary_left, binary_left_stops, binary_right, binary_right_stops, binary_there, binary_gives)

-- ---- a sum of offsets

module _ {R : Type 0} (Means : R → Heap → Type 0) (m : Kept R) (a b : Code) where
  pub sum_left : Reads Means m (Plus a b) → Reads Means m a
  unfolding word
  sum_left is = record { ghosts = is.ghosts; stands = is.stands; whole = first_whole (word (slots m is.ghosts) a) _ is.whole }

  pub sum_left_stops : (s : Stop) → Gives Means m a (Err s) → Gives Means m (Plus a b) (Err s)
  unfolding word
  sum_left_stops s is = record { gives = λ g stands whole. first_stops (word (slots m g) a) _ (stop_of s) (is.gives g stands) whole }

  pub sum_right : (x : ℤ) → Reads Means m (Plus a b) → Gives Means m a (Ok x) → Reads Means m b
  unfolding word
  sum_right x is left = record {
    ghosts = is.ghosts;
    stands = is.stands;
    whole = first_whole (word (slots m is.ghosts) b) (offsets x)
        (next_whole (word (slots m is.ghosts) a) (λ x. and_then (word (slots m is.ghosts) b) (offsets x)) x (left.gives is.ghosts is.stands) is.whole);
  }

  pub sum_right_stops : (x : ℤ) (s : Stop) → Gives Means m a (Ok x) → Gives Means m b (Err s) → Gives Means m (Plus a b) (Err s)
  unfolding word
  sum_right_stops x s left is = record {
    gives = λ g stands whole.
        next_gives (word (slots m g) a) (λ x. and_then (word (slots m g) b) (offsets x)) x (Stops (stop_of s)) (left.gives g stands)
        (first_stops (word (slots m g) b) (offsets x) (stop_of s) (is.gives g stands)) whole;
  }

  pub sum_there : (x y : ℤ) → Reads Means m (Plus a b) → Gives Means m a (Ok x) → Gives Means m b (Ok y) → is_broken (offsets x y) ≡ false
  unfolding word
  sum_there x y is left right =
      next_whole (word (slots m is.ghosts) b) (offsets x) y (right.gives is.ghosts is.stands)
      (next_whole (word (slots m is.ghosts) a) (λ x. and_then (word (slots m is.ghosts) b) (offsets x)) x (left.gives is.ghosts is.stands) is.whole)

  pub sum_gives : (x y : ℤ) (r : Result ℤ Stop) → Gives Means m a (Ok x) → Gives Means m b (Ok y) → offsets x y ≡ shown r → Gives Means m (Plus a b) r
  unfolding word
  sum_gives x y r left right e = record {
    gives = λ g stands whole.
        next_gives (word (slots m g) a) (λ x. and_then (word (slots m g) b) (offsets x)) x (shown r) (left.gives g stands)
        (next_gives (word (slots m g) b) (offsets x) y (shown r) (right.gives g stands) (λ there. e)) whole;
  }

module _ {R : Type 0} (Means : R → Heap → Type 0) (m : Kept R) (a b : Code) where
  pub sum_at : (x y u v : ℤ) → Reads Means m (Plus a b) → Gives Means m a (Ok x) → Gives Means m b (Ok y) → u ≡ x → v ≡ y → is_broken (offsets u v) ≡ false
  sum_at x y u v is left right e d =
      subst (λ i. is_broken (offsets i v) ≡ false) (sym e) (subst (λ i. is_broken (offsets x i) ≡ false) (sym d) (sum_there Means m a b x y is left right))

  pub sum_given : (x y u v : ℤ) (r : Result ℤ Stop) → Gives Means m a (Ok x) → Gives Means m b (Ok y) → offsets u v ≡ shown r → u ≡ x → v ≡ y → Gives Means m (Plus a b) r
  sum_given x y u v r left right is e d = sum_gives Means m a b x y r left right (ap (λ i. offsets i y) (sym e) ∙ (ap (offsets u) (sym d) ∙ is))

pub ruleset sum_rules = (sum_left, sum_left_stops, sum_right, sum_right_stops, sum_there, sum_gives)

-- ---- a short circuit

module _ {R : Type 0} (Means : R → Heap → Type 0) (m : Kept R) (op : ShortCircuit) (a b : Code) where
  pub short_left : Reads Means m (Short op a b) → Reads Means m a
  unfolding word
  short_left is = record { ghosts = is.ghosts; stands = is.stands; whole = first_whole (word (slots m is.ghosts) a) _ is.whole }

  pub short_left_stops : (s : Stop) → Gives Means m a (Err s) → Gives Means m (Short op a b) (Err s)
  unfolding word
  short_left_stops s is = record { gives = λ g stands whole. first_stops (word (slots m g) a) _ (stop_of s) (is.gives g stands) whole }

  pub short_right : (x : ℤ) → Reads Means m (Short op a b) → Gives Means m a (Ok x) → decides op x ≡ false → Reads Means m b
  unfolding word
  short_right x is left goes = record {
    ghosts = is.ghosts;
    stands = is.stands;
    whole = subst (λ d. is_broken (if d then Given x else word (slots m is.ghosts) b) ≡ false) goes
        (next_whole (word (slots m is.ghosts) a) (λ x. if decides op x then Given x else word (slots m is.ghosts) b) x (left.gives is.ghosts is.stands) is.whole);
  }

  pub short_decided : (x : ℤ) → Gives Means m a (Ok x) → decides op x ≡ true → Gives Means m (Short op a b) (Ok x)
  unfolding word
  short_decided x left goes = record {
    gives = λ g stands whole.
        next_gives (word (slots m g) a) (λ x. if decides op x then Given x else word (slots m g) b) x (Given x) (left.gives g stands)
        (λ there. ap (λ d. if d then Given x else word (slots m g) b) goes) whole;
  }

  pub short_gives : (x : ℤ) (r : Result ℤ Stop) → Gives Means m a (Ok x) → decides op x ≡ false → Gives Means m b r → Gives Means m (Short op a b) r
  unfolding word
  short_gives x r left goes right = record {
    gives = λ g stands whole.
        next_gives (word (slots m g) a) (λ x. if decides op x then Given x else word (slots m g) b) x (shown r) (left.gives g stands)
        (λ there.
        ap (λ d. if d then Given x else word (slots m g) b) goes
        ∙ right.gives g stands (subst (λ d. is_broken (if d then Given x else word (slots m g) b) ≡ false) goes there)) whole;
  }

pub ruleset short_rules = (short_left, short_left_stops, short_right, short_decided, short_gives)
