-- Expressions with one operand.
use Rattle.std.proofs.Common.{◌≡◌, sym, ap, ◌∙◌, subst, ℕ, Bool, false, not, ℤ, Option, Some, None, IfSome, Result, Ok, Err, if◌then◌else◌}
use Rattle.resolved_tree.specs.declared.operator.UnaryOperator.{UnaryOperator}
use Rattle.slot_heap.specs.Heaps.{Heap}
use Rattle.code_rows.specs.declared.stop.Stop.{Stop}
use Rattle.code_rows.specs.Stops.{stop_of, shown}
use Rattle.run_codes.specs.Codes.{Code, Scaled, Unary, IsNull}
use Rattle.run_codes.specs.Flat.{Given, is_broken, operated_alone, scaled, truth, is_zero}
use Rattle.handled_runs.specs.Slots.{word}
use Rattle.slot_memory.specs.Memory.{Kept, slots}
use Rattle.slot_words.specs.Reading.{Reads, Gives}
use Rattle.slot_words.proofs.Wholes.{first_whole, next_whole, first_stops, next_gives}

-- ---- an operator

module _ {R : Type 0} (Means : R → Heap → Type 0) (m : Kept R) (op : UnaryOperator) (a : Code) where
  pub unary_operand : Reads Means m (Unary op a) → Reads Means m a
  unfolding word
  unary_operand is = record { ghosts = is.ghosts; stands = is.stands; whole = first_whole (word (slots m is.ghosts) a) _ is.whole }

  pub unary_stops : (s : Stop) → Gives Means m a (Err s) → Gives Means m (Unary op a) (Err s)
  unfolding word
  unary_stops s is = record { gives = λ g stands whole. first_stops (word (slots m g) a) _ (stop_of s) (is.gives g stands) whole }

  pub unary_there : (x : ℤ) → Reads Means m (Unary op a) → Gives Means m a (Ok x) → is_broken (operated_alone op x) ≡ false
  unfolding word
  unary_there x is given = next_whole (word (slots m is.ghosts) a) (operated_alone op) x (given.gives is.ghosts is.stands) is.whole

  pub unary_gives : (x : ℤ) (r : Result ℤ Stop) → Gives Means m a (Ok x) → operated_alone op x ≡ shown r → Gives Means m (Unary op a) r
  unfolding word
  unary_gives x r given e = record { gives = λ g stands whole. next_gives (word (slots m g) a) (operated_alone op) x (shown r) (given.gives g stands) (λ there. e) whole }

module _ {R : Type 0} (Means : R → Heap → Type 0) (m : Kept R) (op : UnaryOperator) (a : Code) where
  pub unary_at : (x u : ℤ) → Reads Means m (Unary op a) → Gives Means m a (Ok x) → u ≡ x → is_broken (operated_alone op u) ≡ false
  unary_at x u is given e = subst (λ i. is_broken (operated_alone op i) ≡ false) (sym e) (unary_there Means m op a x is given)

pub ruleset unary_rules = (unary_operand, unary_stops, unary_there, unary_gives)

-- ---- an index between bounds

module _ {R : Type 0} (Means : R → Heap → Type 0) (m : Kept R) (a : Code) (low high : ℤ) (size : ℕ) where
  pub element_operand : Reads Means m (Scaled a low high size) → Reads Means m a
  unfolding word
  element_operand is = record { ghosts = is.ghosts; stands = is.stands; whole = first_whole (word (slots m is.ghosts) a) _ is.whole }

  pub element_stops : (s : Stop) → Gives Means m a (Err s) → Gives Means m (Scaled a low high size) (Err s)
  unfolding word
  element_stops s is = record { gives = λ g stands whole. first_stops (word (slots m g) a) _ (stop_of s) (is.gives g stands) whole }

  pub element_there : (x : ℤ) → Reads Means m (Scaled a low high size) → Gives Means m a (Ok x) → is_broken (scaled low high size x) ≡ false
  unfolding word
  element_there x is given = next_whole (word (slots m is.ghosts) a) (scaled low high size) x (given.gives is.ghosts is.stands) is.whole

  pub element_gives : (x : ℤ) (r : Result ℤ Stop) → Gives Means m a (Ok x) → scaled low high size x ≡ shown r → Gives Means m (Scaled a low high size) r
  unfolding word
  element_gives x r given e = record { gives = λ g stands whole. next_gives (word (slots m g) a) (scaled low high size) x (shown r) (given.gives g stands) (λ there. e) whole }

module _ {R : Type 0} (Means : R → Heap → Type 0) (m : Kept R) (a : Code) (low high : ℤ) (size : ℕ) where
  pub element_at : (x u l h : ℤ) → Reads Means m (Scaled a low high size) → Gives Means m a (Ok x) → u ≡ x → l ≡ low → h ≡ high → is_broken (scaled l h size u) ≡ false
  element_at x u l h is given e d f =
      subst (λ i. is_broken (scaled l h size i) ≡ false) (sym e)
      (subst (λ i. is_broken (scaled i h size x) ≡ false) (sym d) (subst (λ i. is_broken (scaled low i size x) ≡ false) (sym f) (element_there Means m a low high size x is given)))

  pub element_given : (x u l h : ℤ) (r : Result ℤ Stop) → Gives Means m a (Ok x) → scaled l h size u ≡ shown r → u ≡ x → l ≡ low → h ≡ high → Gives Means m (Scaled a low high size) r
  element_given x u l h r given is e d f =
      element_gives Means m a low high size x r given
      (ap (scaled low high size) (sym e) ∙ (ap (λ i. scaled i high size u) (sym d) ∙ (ap (λ i. scaled l i size u) (sym f) ∙ is)))

module _ {R : Type 0} (Means : R → Heap → Type 0) (m : Kept R) (a : Code) (low high : ℤ) (size : ℕ) where
  pub element_some : (x : ℤ) (o : Option ℤ) → Gives Means m a (Ok x) → IfSome o (λ w. scaled low high size x ≡ Given w) → IfSome o (λ w. Gives Means m (Scaled a low high size) (Ok w))
  element_some x None given e = tt
  element_some x (Some w) given e = element_gives Means m a low high size x (Ok w) given e

pub ruleset element_rules = (element_operand, element_stops, element_there, element_gives)

-- ---- an access value compared with null

module _ {R : Type 0} (Means : R → Heap → Type 0) (m : Kept R) (equal : Bool) (a : Code) where
  pub null_operand : Reads Means m (IsNull equal a) → Reads Means m a
  unfolding word
  null_operand is = record { ghosts = is.ghosts; stands = is.stands; whole = first_whole (word (slots m is.ghosts) a) _ is.whole }

  pub null_stops : (s : Stop) → Gives Means m a (Err s) → Gives Means m (IsNull equal a) (Err s)
  unfolding word
  null_stops s is = record { gives = λ g stands whole. first_stops (word (slots m g) a) _ (stop_of s) (is.gives g stands) whole }

  pub null_gives : (x w : ℤ) → Gives Means m a (Ok x) → w ≡ truth (if is_zero x then equal else not equal) → Gives Means m (IsNull equal a) (Ok w)
  unfolding word
  null_gives x w given e = record {
    gives = λ g stands whole.
        next_gives (word (slots m g) a) (λ x. Given (truth (if is_zero x then equal else not equal))) x (Given w) (given.gives g stands) (λ there. ap Given (sym e)) whole;
  }

pub ruleset null_rules = (null_operand, null_stops, null_gives)
