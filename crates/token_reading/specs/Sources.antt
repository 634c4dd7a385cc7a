-- What a parser owes of a whole file: its one tree, or the refused token (docs/TOOL.md,
-- "Refusals").
--
-- `good` says which trees count, and `spelling` how one is spelled, with the weights of its tokens.
use Rattle.std.specs.Prelude.{◌≡◌, true, List, [], ◌∷◌, ◌++◌}
use Rattle.token_reading.specs.Spelled.{Spelled, EndOfFile}
use Rattle.token_reading.specs.Weights.{WeighedToken, bare, after, WithinLimits}

-- The tokens of a file whose tree is spelled so.
abbrev pub file_of : List WeighedToken → List Spelled
file_of ms = bare ms ++ (EndOfFile ∷ [])

-- The tree is good, and spelled by these tokens of a file.
pub record IsSpelledBy {A : Type 0} (good : A → Type 0) (spelling : A → List WeighedToken) (ts : List Spelled) (tree : A) : Type 0 where
  pub fits : good tree
  pub spelled : file_of (spelling tree) ≡ ts

-- The tree is spelled by the whole file, no token of it exceeds the limit, and each tree with
-- that spelling is this tree.
pub record IsTreeOf {A : Type 0} (good : A → Type 0) (spelling : A → List WeighedToken) (ts : List Spelled) (tree : A) : Type 0 where
  pub spells : IsSpelledBy good spelling ts tree
  pub within_limits : WithinLimits 0 (spelling tree)
  pub only : (other : A) → IsSpelledBy good spelling ts other → other ≡ tree

-- The tokens are a viable prefix: others continue them to the spelling of a source.
pub record Begins {A : Type 0} (good : A → Type 0) (spelling : A → List WeighedToken) (ts : List Spelled) : Type 0 where
  pub tree : A
  pub fits : good tree
  pub behind : List Spelled
  pub whole : file_of (spelling tree) ≡ ts ++ behind

-- The same, where none of these tokens exceeds the limit.
pub record BeginsWithinLimits {A : Type 0} (good : A → Type 0) (spelling : A → List WeighedToken) (ts : List Spelled) : Type 0 where
  pub tree : A
  pub fits : good tree
  pub front : List WeighedToken
  pub behind : List WeighedToken
  pub clear : WithinLimits 0 front
  pub begun : bare front ≡ ts
  pub whole : spelling tree ≡ front ++ behind

-- The tokens are a viable prefix, and with the token after them they are none. No token before
-- it exceeds the limit.
pub record IsFaulty {A : Type 0} (good : A → Type 0) (spelling : A → List WeighedToken) (before : List Spelled) (token : Spelled) : Type 0 where
  pub possible : BeginsWithinLimits good spelling before
  pub impossible : Begins good spelling (before ++ (token ∷ [])) → ⊥

-- The token after these exceeds the limit in a source that begins with them all, and no token
-- before it does.
pub record IsOverLimit {A : Type 0} (good : A → Type 0) (spelling : A → List WeighedToken) (before : List Spelled) (token : Spelled) : Type 0 where
  pub tree : A
  pub fits : good tree
  pub front : List WeighedToken
  pub weighed : WeighedToken
  pub behind : List WeighedToken
  pub clear : WithinLimits 0 front
  pub begun : bare front ≡ before
  pub is_token : weighed.token ≡ token
  pub exceeds_limit : weighed.weight.exceeds (after 0 front) ≡ true
  pub whole : spelling tree ≡ front ++ (weighed ∷ behind)

-- The fact holds of the first token of the rest, and the tokens of the file before it.
pub record AtFirst (fact : List Spelled → Spelled → Type 0) (ts rest : List Spelled) : Type 0 where
  pub before : List Spelled
  pub token : Spelled
  pub behind : List Spelled
  pub at : rest ≡ token ∷ behind
  pub splits : ts ≡ before ++ rest
  pub holds : fact before token

-- The tokens of a file: the end of the file is the last one, and no other is.
abbrev pub IsFile : List Spelled → Type 0
IsFile [] = ⊥
IsFile (t ∷ []) = t ≡ EndOfFile
IsFile (t ∷ (u ∷ ts)) = (t ≡ EndOfFile → ⊥) × IsFile (u ∷ ts)
