-- The expressions that nodes in rows stand for.
use Rattle.std.specs.Prelude.{◌≡◌, ◌<◌, ◌≤◌, ℕ, Bool, true, ◌&&◌, List, [], length, nat_lt, get_or, ℤ, pos}
use Rattle.resolved_tree.specs.Nodes.{grown, are_below}
use Rattle.run_values.specs.declared.value.Kind.TheVariants as sort
use Rattle.run_codes.specs.Codes.{Code, Number, Local, Global, Via, Scaled, Plus, Unary, Binary, Short, IsNull, Waiting, EndOfFile, Nothing, InFrame, InPackages, Behind}
use Rattle.run_codes.specs.Codes as codes
use Rattle.run_codes.specs.Lowered.{no_index}
use Rattle.code_rows.specs.declared.node.Node.{Node}
use Rattle.code_rows.specs.declared.node.Node.TheVariants as node
use Rattle.code_rows.specs.declared.place.Place.{Place}
use Rattle.code_rows.specs.declared.place.Place.TheVariants as place

-- The parts of a node have lower numbers than n.
abbrev pub is_below : ℕ → Node → Bool
is_below n (node.LocalAt at i) = nat_lt i n
is_below n (node.GlobalAt at i) = nat_lt i n
is_below n (node.Via p at k) = nat_lt p n
is_below n (node.ViaAt p at i k) = nat_lt p n && nat_lt i n
is_below n (node.Scaled i low high size) = nat_lt i n
is_below n (node.Plus a b) = nat_lt a n && nat_lt b n
is_below n (node.Unary op a) = nat_lt a n
is_below n (node.Binary op a b) = nat_lt a n && nat_lt b n
is_below n (node.WithNumber op a v) = nat_lt a n
is_below n (node.Short op a b) = nat_lt a n && nat_lt b n
is_below n (node.IsNull equal p) = nat_lt p n
is_below n _ = true

-- The expression that a node makes of others. Some kinds of nodes stand for frequent forms.
abbrev pub code_of : (ℕ → Code) → Node → Code
code_of code (node.Number v) = Number v
code_of code (node.Local at) = Local at no_index
code_of code (node.LocalAt at i) = Local at (code i)
code_of code (node.Global at) = Global at no_index
code_of code (node.GlobalAt at i) = Global at (code i)
code_of code (node.Via p at k) = Via (code p) at no_index k
code_of code (node.ViaLocal local at k) = Via (Local local no_index) at no_index k
code_of code (node.ViaAt p at i k) = Via (code p) at (code i) k
code_of code (node.Scaled i low high size) = Scaled (code i) low high size
code_of code (node.Plus a b) = Plus (code a) (code b)
code_of code (node.Unary op a) = Unary op (code a)
code_of code (node.Binary op a b) = Binary op (code a) (code b)
code_of code (node.WithNumber op a v) = Binary op (code a) (Number v)
code_of code (node.Short op a b) = Short op (code a) (code b)
code_of code (node.IsNull equal p) = IsNull equal (code p)
code_of code (node.Waiting at) = Waiting at
code_of code node.EndOfFile = EndOfFile

-- The same of places.
abbrev pub is_place_below : ℕ → Place → Bool
is_place_below n (place.LocalAt at i) = nat_lt i n
is_place_below n (place.GlobalAt at i) = nat_lt i n
is_place_below n (place.Behind p at) = nat_lt p n
is_place_below n (place.BehindAt p at i) = nat_lt p n && nat_lt i n
is_place_below n _ = true

abbrev pub place_of : (ℕ → Code) → Place → codes.Place
place_of code (place.Local at) = InFrame at no_index
place_of code (place.LocalAt at i) = InFrame at (code i)
place_of code (place.Global at) = InPackages at no_index
place_of code (place.GlobalAt at i) = InPackages at (code i)
place_of code (place.Behind p at) = Behind (code p) at no_index
place_of code (place.BehindAt p at i) = Behind (code p) at (code i)

-- The expression with a number.
unfoldable pub code_at : List Node → ℕ → Code
code_at nodes i = get_or (grown code_of Nothing [] nodes) i Nothing

-- The parts of each node stand before it.
abbrev pub in_order : List Node → Bool
in_order nodes = are_below is_below 0 nodes

-- Nodes were added after others, whose expressions are still there.
pub record Grew (old new : List Node) : Type 0 where
  pub more : length old ≤ length new
  pub same : (i : ℕ) → i < length old → code_at new i ≡ code_at old i

-- The expression with the number n is there.
abbrev pub Holds : List Node → ℕ → Code → Type 0
Holds nodes n c = (n < length nodes) × (code_at nodes n ≡ c)
