-- The tokens of the files so far.
use Rattle.std.proofs.Common.{◌≡◌, ◌<◌, ◌++◌, ◌∷◌, [], List, length, ℕ, Vec, Ok, Err, IfSome, All, refl, subst, sym, arith}
use Rattle.std.specs.declared.alloc.Global.{Global}
use Rattle.ada_lexer.specs.declared.token.Token.{Token}
use Rattle.std.specs.List.{slice_get}
use Rattle.std.proofs.lemmas.List.Elements.{All-push}
use Rattle.ada_lexer.specs.Tokens.{Cut}
use Rattle.source_trees.specs.Cuts.{AllTokens}

-- the tokens of the files before
abbrev pub with_files : List (List Cut) → AllTokens → AllTokens
with_files before (Ok others) = Ok (before ++ others)
with_files before (Err fault) = Err fault

-- a fact of the first element stays when one is added
pub first_stays : {X : Type 0} (found : List X) (x : X) (P : X → Type 0) → IfSome (slice_get found 0) P → (length found ≡ 0 → P x)
    → IfSome (slice_get (found ++ x ∷ []) 0) P
first_stays [] x P before here = here refl
first_stays (y ∷ found) x P before here = before

-- the tokens of the first file stand in file 0
pub in_first : (found : List (Vec Token Global)) (tokens : Vec Token Global) (all : List (Vec Token Global)) (file : ℕ) → all ≡ found ++ tokens ∷ []
    → IfSome (slice_get found 0) (λ first. All (λ token. token.pos.file ≡ 0) first.items) → All (λ token. token.pos.file ≡ file) tokens.items
    → (length found ≡ 0 → file ≡ 0) → IfSome (slice_get all 0) (λ first. All (λ token. token.pos.file ≡ 0) first.items)
in_first found tokens all file is before in_file zero =
    subst (λ (files : List (Vec Token Global)). IfSome (slice_get files 0) (λ first. All (λ token. token.pos.file ≡ 0) first.items)) (sym is)
    (first_stays found tokens (λ first. All (λ token. token.pos.file ≡ 0) first.items) before
    (λ none. subst (λ (n : ℕ). All (λ token. token.pos.file ≡ n) tokens.items) (zero none) in_file))

-- the tokens of each file stand in one of the first n
pub in_files : (found : List (Vec Token Global)) (tokens : Vec Token Global) (all : List (Vec Token Global)) (file n : ℕ) → all ≡ found ++ tokens ∷ []
    → All (λ before. All (λ token. token.pos.file < n) before.items) found → All (λ token. token.pos.file ≡ file) tokens.items → file < n
    → All (λ each. All (λ token. token.pos.file < n) each.items) all
in_files found tokens all file n is before in_file within =
    subst (λ (files : List (Vec Token Global)). All (λ each. All (λ token. token.pos.file < n) each.items) files) (sym is)
    (All-push (λ (each : Vec Token Global). All (λ token. token.pos.file < n) each.items) found tokens before
    (λ k d inside. omega (arith, in_file k d inside, within)))
