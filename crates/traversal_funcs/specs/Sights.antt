-- What code knows of a subprogram where its text is looked at: constant views by tests.
use Rattle.std.specs.Prelude.{ℕ, Bool, false, not, ◌&&◌, ◌||◌, ◌==◌, Option, Some, None, if◌then◌else◌}
use Rattle.flow_paths.specs.Objects.{Typing, object_at, view_of, is_borrower, is_observer, is_formal, is_named_access}
use Rattle.flow_paths.specs.Views.{is_outer, is_in_mode}
use Rattle.program_typing.specs.Typings.{typing}
use Rattle.traversal_funcs.specs.declared.views.Traversed.{Traversed}
use Rattle.traversal_funcs.specs.declared.views.Views.{Views}
use Rattle.traversal_funcs.specs.Searches.{has_root}

abbrev pub site : Views → Typing
site v = typing v.known

abbrev pub is_only : Traversed → ℕ → Bool
is_only t x = has_root t.own x && not (has_root t.other x)

-- The root of a name, and whether it has a selector.
abbrev pub in_function : Views → ℕ → Bool → Bool
in_function v x selected = is_outer (site v) x || ((is_borrower (site v) x && selected) && has_root v.outer x)

abbrev pub of_formal : Views → ℕ → Bool → Bool
of_formal v x selected =
    is_formal (site v) x && (is_in_mode (object_at (site v) x).mode && not (is_named_access (view_of (site v) x) && selected))

abbrev pub is_constant : Views → ℕ → Bool → Bool
is_constant v x selected =
    (is_observer (site v) x && selected) || (if v.function then in_function v x selected else of_formal v x selected)

abbrev pub borrows_through : Bool → Option Traversed → ℕ → Bool
borrows_through b None x = false
borrows_through b (Some t) x = x == t.formal || (b && is_only t x)

abbrev pub may_borrow : Views → ℕ → Bool
may_borrow v x = v.variable && borrows_through (is_borrower (site v) x) v.traversed x

abbrev pub only_of : Option Traversed → ℕ → Bool
only_of None x = false
only_of (Some t) x = is_only t x

abbrev pub is_given : Views → ℕ → Bool
is_given v x = only_of v.traversed x
