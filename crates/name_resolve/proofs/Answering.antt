-- Tables that answer as the list of declarations does.
use Rattle.std.proofs.Common.{◌≡◌, refl, ap, sym, ◌∙◌, ℕ, Bool, true, false, if◌then◌else◌, List, [], ◌∷◌, ◌++◌, fold, Option, None, Some}
use Rattle.std.specs.Option.{option_map}
use Rattle.name_events.specs.declared.declaration.Declaration.{Declaration}
use Rattle.name_events.specs.declared.declaration.OpenRegion.{OpenRegion}
use Rattle.name_events.specs.Declarations.{Name, Entry, Search, is_named, last_of, declared_in, innermost, or_else}
use Rattle.name_resolve.specs.Tables.{noted, Answers}

pub last_of_from : {A : Type 0} (test : A → Bool) (xs : List A) (x : A) (found : Option A)
    → fold (λ found x. if test x then Some x else found) found (xs ++ x ∷ [])
    ≡ (if test x then Some x else fold (λ found x. if test x then Some x else found) found xs)
last_of_from test [] x found = refl
last_of_from test (y ∷ xs) x found = last_of_from test xs x (if test y then Some y else found)

-- One more declaration is found, or else what was found before.
pub declared_in-push : (decls : List Entry) (w : Name) (d : Declaration) (region : ℕ) (n : Name)
    → declared_in (decls ++ (w, d) ∷ []) region n ≡ (if is_named region n (w, d) then Some d else declared_in decls region n)
declared_in-push decls w d region n =
    ap (option_map (λ d. d.1)) (last_of_from (is_named region n) decls (w, d) None) ∙ by (is_named region n (w, d))
  where
    by : (b : Bool) → option_map (λ d. d.1) (if b then Some (w, d) else last_of (is_named region n) decls)
        ≡ (if b then Some d else declared_in decls region n)
    by true = refl
    by false = refl

pub answers_noted : (old new : Search) (decls : List Entry) (w : Name) (d : Declaration)
    → ((r : ℕ) (n : Name) → new r n ≡ noted old w d r n)
    → Answers old decls → Answers new (decls ++ (w, d) ∷ [])
answers_noted old new decls w d is answers r n =
    is r n ∙ ap (λ o. if is_named r n (w, d) then Some d else o) (answers r n) ∙ sym (declared_in-push decls w d r n)

pub innermost_same : (find : Search) (decls : List Entry) (frames : List OpenRegion) (w : Name) → Answers find decls
    → innermost find frames w ≡ innermost (declared_in decls) frames w
innermost_same find decls [] w answers = refl
innermost_same find decls (f ∷ rest) w answers =
    (λ j. or_else (answers f.region w j) (innermost_same find decls rest w answers j))
