-- What is asked of a typed program with borrowers and observers, beside that its subprograms are in
-- order. Nothing here speaks of points, paths or facts.
use Rattle.std.specs.Prelude.{◌≡◌, ◌⊎◌, ℕ, ◌≤◌, Bool, true, false, not, ◌&&◌, ◌||◌, List, get_or, nat_lt, Option, Some, None}
use Rattle.std.specs.List.{list_all}
use Rattle.machine.specs.spark_base.Lists.{Has}
use Rattle.machine.specs.spark_base.declared.position.Pos.{Pos}
use Rattle.machine.specs.type_definitions.Types.{Table, full, is_owning}
use Rattle.machine.specs.typed_tree.Trees.{TypedTree, Name, Call, NoMore, More, TypedCode}
use Rattle.machine.specs.typed_tree.Trees as typed
use Rattle.machine.specs.typed_tree.Programs.{TypedSub, TypedProgram}
use Rattle.machine.specs.flow_paths.Instructions.{Instruction, Declare, Assign}
use Rattle.machine.specs.flow_paths.Objects.{Typing, object_at, sub_at, traverses, is_variable, is_anonymous, is_observer, is_formal, is_package_object, view_of}
use Rattle.machine.specs.flow_paths.Names.{first, whole}
use Rattle.machine.specs.flow_paths.Laid.{declared_within, typing_of}
use Rattle.machine.specs.Owners.{is_in_formal}
use Rattle.soundness.specs.TypedLaws.Needed.{Leads}
use Rattle.settled_types.specs.OrderLaws.ScopeLaws.Code.{roots, body_seen}
use Rattle.settled_types.specs.OrderLaws.ScopeLaws.LayeredScopes.Layered.{is_older, is_body_layered}

-- ---- what views are declared and assigned with

-- An expression is a name that is rooted in an object as asked.
abbrev pub is_name_of : (ℕ → Bool) → TypedTree → Bool
is_name_of test (Name p y steps t) = test y
is_name_of test e = false

-- A list of one such name.
abbrev pub is_list_end : TypedTree → Bool
is_list_end NoMore = true
is_list_end e = false

abbrev pub is_one_name_of : (ℕ → Bool) → TypedTree → Bool
is_one_name_of test (More e rest) = is_name_of test e && is_list_end rest
is_one_name_of test e = false

abbrev pub is_any : ℕ → Bool
is_any y = true

abbrev pub stores_name : Typing → Option ℕ → TypedTree → Bool
stores_name s None e = true
stores_name s (Some x) e = (not (is_anonymous (view_of s x)) || is_formal s x) || is_name_of is_any e

abbrev pub is_call : TypedTree → Bool
is_call (Call p sub actuals) = true
is_call e = false

-- What a traversal function gives.
abbrev pub gives_view : Typing → TypedTree → Bool
gives_view s (Call p sub actuals) = traverses s.table (sub_at s sub).result
gives_view s e = false

-- Where its first actual is a name, that is rooted in an object as asked.
abbrev pub is_rooted_in : (ℕ → Bool) → TypedTree → Bool
is_rooted_in test (Name p y steps t) = test y
is_rooted_in test e = true

abbrev pub gives_from : (ℕ → Bool) → Typing → TypedTree → Bool
gives_from test s (Call p sub actuals) = traverses s.table (sub_at s sub).result && is_rooted_in test (first actuals)
gives_from test s e = false

-- A view is declared with a name, and a borrower with one that is rooted in an older object; a view that is no
-- formal is assigned a name. Or what a traversal function gives.
abbrev pub fits : Typing → Instruction → Bool
fits s (Declare x v) = not (is_anonymous (view_of s x)) || (is_one_name_of (λ y. is_observer s x || nat_lt y x) v || gives_from (λ y. is_observer s x || nat_lt y x) s (first v))
fits s (Assign target e) = stores_name s (whole target) e || gives_view s e
fits s i = true

-- The call of a traversal function whose first actual is a name of an access value.
pub record IsTraversed (s : Typing) (e : TypedTree) : Type 0 where
  pub pos : Pos
  pub sub : ℕ
  pub name_pos : Pos
  pub root : ℕ
  pub path : TypedTree
  pub of : ℕ
  pub others : TypedTree
  pub is : e ≡ Call pos sub (More (Name name_pos root path of) others)
  pub gives : traverses s.table (sub_at s sub).result ≡ true
  pub leads : Leads s (object_at s root).of path of
  pub lasts : is_owning s.table of || is_anonymous (full s.table of) ≡ true

-- What a view is declared or assigned with isn't what a function gives; or it is such a call.
abbrev pub NamesSource : Typing → Instruction → Type 0
NamesSource s (Declare x v) = is_anonymous (view_of s x) ≡ true → (is_call (first v) ≡ false) ⊎ IsTraversed s (first v)
NamesSource s (Assign target e) = (x : ℕ) → whole target ≡ Some x → is_anonymous (view_of s x) ≡ true → (is_call e ≡ false) ⊎ IsTraversed s e
NamesSource s i = Unit {0}

-- ---- the package objects

abbrev pub no_views : Typing → List ℕ → Bool
no_views s xs = list_all (λ x. not (is_anonymous (view_of s x))) xs

-- No view is declared, and no initial value names one.
unfoldable pub names_no_view : Typing → TypedCode → Bool
names_no_view s (typed.Declare p x v) = not (is_anonymous (view_of s x)) && no_views s (roots v)
names_no_view s (typed.More a rest) = names_no_view s a && names_no_view s rest
names_no_view s _ = true

-- ---- programs

-- The subprogram of the package objects, and those with a body in the text.
pub record AreViewsInOrder (table : Table) (program : TypedProgram) (first : TypedSub) (rest : List TypedSub) : Type 0 where
  pub values : names_no_view (typing_of table program) first.body ≡ true
  pub seen : body_seen (is_package_object (typing_of table program)) first ≡ true
  -- the scope around one has a smaller number, or is it
  pub inner : (b : ℕ) → get_or program.scopes b b ≤ b
  -- what stands around an object is older
  pub layered : (sub : TypedSub) → Has rest sub
      → (n : ℕ) × (is_body_layered (typing_of table program) (is_older (typing_of table program) program.scopes) (fits (typing_of table program)) n sub ≡ true)
  -- what is declared is no formal, and formals belong to no package
  pub declared : (sub : TypedSub) → Has program.subs sub → (x : ℕ) → Has (declared_within sub.body) x → is_formal (typing_of table program) x ≡ false
  pub apart : (x : ℕ) → is_formal (typing_of table program) x ≡ true → is_package_object (typing_of table program) x ≡ false
  -- views are variables or formals of subprograms
  pub local : (x : ℕ) → is_anonymous (view_of (typing_of table program) x) ≡ true
      → ((is_variable (object_at (typing_of table program) x).kind ≡ true) ⊎ (is_in_formal (typing_of table program) x ≡ true))
      × (is_package_object (typing_of table program) x ≡ false)
