-- Questions about the roots of an object.
use Rattle.std.specs.Prelude.{ℕ, Bool, IsTrue, not, ◌&&◌, ◌==◌, List}
use Rattle.place_names.specs.declared.act.Act.{Act}
use Rattle.flow_paths.specs.Objects.{Typing}
use Rattle.flow_paths.specs.Views.{Roots, is_outer, holds_loans}
use Rattle.traversal_funcs.specs.declared.questions.Question.{Question}
use Rattle.traversal_funcs.specs.declared.questions.Question.TheVariants as question

-- A root is asked for.
abbrev pub asks : Typing → Question → ℕ → Bool
asks s question.IsOuter r = is_outer s r
asks s (question.Is x) r = r == x
asks s (question.IsOther x) r = not (r == x)

-- An object is its own root, and asked for.
abbrev pub is_answer : Typing → Question → ℕ → Bool
is_answer s q x = not (holds_loans s x) && asks s q x

-- Some root of an object is asked for.
pub record HasRoot (s : Typing) (acts : List Act) (q : Question) (x : ℕ) : Type 0 where
  pub root : ℕ
  pub is : Roots s acts x root
  pub asked : IsTrue (asks s q root)
