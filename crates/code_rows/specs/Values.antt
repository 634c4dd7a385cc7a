-- The values that parts in rows stand for.
use Rattle.std.specs.Prelude.{◌≡◌, ◌<◌, ◌≤◌, ℕ, Bool, true, ◌&&◌, List, [], length, nat_lt, get_or}
use Rattle.resolved_tree.specs.Nodes.{grown, are_below}
use Rattle.run_codes.specs.Codes.{Code, Checked, Pointer, MovedPointer, Copied, Moved, Waited, New, Default, Repeated, Both, Empty}
use Rattle.run_codes.specs.Codes as codes
use Rattle.code_rows.specs.declared.node.Node.{Node}
use Rattle.code_rows.specs.declared.fill.Fill.{Fill}
use Rattle.code_rows.specs.declared.fill.Fill.TheVariants as fill
use Rattle.code_rows.specs.Rows.{code_at, is_place_below, place_of, Grew}

-- The parts of a value have lower numbers than n.
abbrev pub is_fill_below : ℕ → Fill → Bool
is_fill_below n (fill.New v of) = nat_lt v n
is_fill_below n (fill.Repeated v count) = nat_lt v n
is_fill_below n (fill.Both a b) = nat_lt a n && nat_lt b n
is_fill_below n _ = true

-- The nodes that it names have lower numbers than m.
abbrev pub is_within : ℕ → Fill → Bool
is_within m (fill.Checked v low high) = nat_lt v m
is_within m (fill.Pointer v) = nat_lt v m
is_within m (fill.MovedPointer p) = is_place_below m p
is_within m (fill.Copied p of) = is_place_below m p
is_within m (fill.Moved p of) = is_place_below m p
is_within m _ = true

-- The value that a part makes of expressions and of other values.
abbrev pub fill_of : (ℕ → Code) → (ℕ → codes.Fill) → Fill → codes.Fill
fill_of code value fill.Nothing = Empty
fill_of code value (fill.Checked v low high) = Checked (code v) low high
fill_of code value (fill.Pointer v) = Pointer (code v)
fill_of code value (fill.MovedPointer p) = MovedPointer (place_of code p)
fill_of code value (fill.Copied p of) = Copied (place_of code p) of
fill_of code value (fill.Moved p of) = Moved (place_of code p) of
fill_of code value (fill.Waited at words) = Waited at words
fill_of code value (fill.New v of) = New (value v) of
fill_of code value (fill.Default of) = Default of
fill_of code value (fill.Repeated v count) = Repeated (value v) count
fill_of code value (fill.Both a b) = Both (value a) (value b)

-- The value with a number.
unfoldable pub fill_at : List Node → List Fill → ℕ → codes.Fill
fill_at nodes fills i = get_or (grown (fill_of (code_at nodes)) Empty [] fills) i Empty

-- The parts of each value stand before it, and all nodes are there.
abbrev pub are_in_order : List Fill → Bool
are_in_order fills = are_below is_fill_below 0 fills

abbrev pub are_within : List Node → List Fill → Bool
are_within nodes fills = are_below (λ k. is_within (length nodes)) 0 fills

-- Nodes and values were added after others, which are still there.
pub record AllGrew (nodes : List Node) (fills : List Fill) (more_nodes : List Node) (more_fills : List Fill) : Type 0 where
  pub nodes_grew : Grew nodes more_nodes
  pub more : length fills ≤ length more_fills
  pub same : (i : ℕ) → i < length fills → fill_at more_nodes more_fills i ≡ fill_at nodes fills i

-- The value with the number n is there.
abbrev pub HoldsFill : List Node → List Fill → ℕ → codes.Fill → Type 0
HoldsFill nodes fills n v = (n < length fills) × (fill_at nodes fills n ≡ v)
