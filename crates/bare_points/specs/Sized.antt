-- The sizes of what nodes stand for, as tables keep them.
use Rattle.std.specs.Prelude.{◌≡◌, ◌<◌, ℕ, ◌+◌, Bool, false, ◌||◌, if◌then◌else◌, List, get_or}
use Rattle.typed_tree.specs.Trees.{TypedTree}
use Rattle.typed_tree.specs.Nodes.{TypedNodes, typed_at, typed_code_at}
use Rattle.flow_paths.specs.Names.{has_call}
use Rattle.numbered_points.specs.Extents.{Extent, extent, nothing, prep_size, filled_in}
use Rattle.bare_points.specs.declared.prep.Prep.{Prep}
use Rattle.bare_points.specs.Spans.{code_span}

-- What comes before the points that use an expression.
abbrev pub prep_of : TypedTree → Prep
prep_of e = record { size = prep_size e; filled = filled_in e; calls = has_call e }

abbrev pub no_prep : Prep
no_prep = record { size = 0; filled = 0; calls = false }

-- That of a short circuit, by those of its operands.
abbrev pub short_prep : Prep → Prep → Prep
short_prep a b = record {
  size = if b.calls then a.size + 1 + (b.size + 1) else a.size + b.size;
  filled = if b.calls then a.filled + 1 + b.filled else a.filled + b.filled;
  calls = a.calls || b.calls;
}

-- The first n nodes have these.
abbrev pub ArePreps : TypedNodes → ℕ → List Prep → Type 0
ArePreps rows n preps = (i : ℕ) → i < n → get_or preps i no_prep ≡ prep_of (typed_at rows i)

abbrev pub AreSpans : TypedNodes → (ℕ → Bool) → ℕ → List Extent → Type 0
AreSpans rows ends n spans = (i : ℕ) → i < n → get_or spans i nothing ≡ code_span ends (typed_code_at rows i)

-- Points that use an expression: n of them after those that come before.
abbrev pub used_by : Prep → ℕ → Extent
used_by e n = extent (e.size + n) 0 0 e.filled
