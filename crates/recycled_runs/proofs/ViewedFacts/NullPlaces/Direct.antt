-- Names that go through no access value.
use Rattle.std.proofs.Common.{◌≡◌, refl, Bool, true, false, List, [], ◌∷◌, ◌++◌}
use Rattle.std.proofs.lemmas.Bool.{false≢true}
use Rattle.machine.specs.place_names.declared.selector.Sel.{Sel}
use Rattle.machine.specs.place_names.declared.selector.Sel.TheVariants as sel
use Rattle.machine.specs.typed_tree.Trees.{TypedTree, Component as IntoComponent, Designated, Element}
use Rattle.machine.specs.flow_paths.Names.{selectors}
use Rattle.soundness.specs.OwnedWays.Ways.{Way, Object, Past}
use Rattle.soundness.specs.OwnedWays.Ways as ways
use Rattle.soundness.specs.Sound.{goes_through_none}

abbrev pub has_deref : List Sel → Bool
has_deref [] = false
has_deref (sel.Deref ∷ rest) = true
has_deref (sel.Field i ∷ rest) = has_deref rest
has_deref (sel.Elem ∷ rest) = has_deref rest

deref_front : (a b : List Sel) → has_deref a ≡ true → has_deref (a ++ b) ≡ true
deref_front [] b e = absurd (false≢true e)
deref_front (sel.Deref ∷ a) b e = refl
deref_front (sel.Field i ∷ a) b e = deref_front a b e
deref_front (sel.Elem ∷ a) b e = deref_front a b e

deref_end : (a : List Sel) → has_deref (a ++ sel.Deref ∷ []) ≡ true
deref_end [] = refl
deref_end (sel.Deref ∷ a) = refl
deref_end (sel.Field i ∷ a) = deref_end a
deref_end (sel.Elem ∷ a) = deref_end a

-- what is past a number goes through it
pub past_deref : (v w : Way) → Past v w → has_deref (ways.sels_of w) ≡ true
past_deref v (Object r) past = absurd past
past_deref v (ways.Lost n) past = absurd past
past_deref v (ways.Into w i) past = deref_front (ways.sels_of w) (ways.sel_of i ∷ []) (past_deref v w past)
past_deref v (ways.All w) past = deref_end (ways.sels_of w)

pub selectors_direct : (path : TypedTree) → goes_through_none path ≡ true → has_deref (selectors path) ≡ false
unfolding goes_through_none selectors
selectors_direct (IntoComponent i rest) direct = selectors_direct rest direct
selectors_direct (Designated rest) direct = absurd (false≢true direct)
selectors_direct (Element index low high rest) direct = selectors_direct rest direct
selectors_direct path direct = refl
