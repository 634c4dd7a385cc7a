-- What a refusal says of the first broken sentence.
use Rattle.std.specs.Prelude.{◌≡◌, ℕ, nat_eq, if◌then◌else◌, Option, None, Some, Result, Ok, Err}
use Rattle.resolved_tree.specs.spark_base.declared.position.Pos.{Pos}
use Rattle.type_definitions.specs.declared.refusal.TypeRefusal.{TypeRefusal}
use Rattle.type_definitions.specs.declared.refusal.TypeRefusal.TheVariants.{TooLarge, TooManyParts, NoElements, WrongType, NotVariable, WrongProfile, BadChoices, OwningPlace, AnonymousPlace, NotStatic, PackageValue, Memory}
use Rattle.type_definitions.specs.Whole.{TypeFault, Size, Sentence}

-- Y1 to Y3 by their numbers.
abbrev pub size_refusal : ℕ → Pos → TypeRefusal
size_refusal n p =
    if nat_eq n 1 then TooLarge p
    else if nat_eq n 2 then TooManyParts p
    else NoElements p

-- K1 to K8 by their numbers.
abbrev pub sentence_refusal : ℕ → Pos → TypeRefusal
sentence_refusal n p =
    if nat_eq n 1 then WrongType p
    else if nat_eq n 2 then NotVariable p
    else if nat_eq n 3 then WrongProfile p
    else if nat_eq n 4 then BadChoices p
    else if nat_eq n 5 then OwningPlace p
    else if nat_eq n 6 then AnonymousPlace p
    else if nat_eq n 7 then NotStatic p
    else PackageValue p

abbrev pub refusal_of : TypeFault → TypeRefusal
refusal_of (Size f) = size_refusal f.code f.pos
refusal_of (Sentence f) = sentence_refusal f.code f.pos

abbrev pub names_fault : TypeRefusal → Option TypeFault → Type 0
names_fault refusal None = ⊥
names_fault refusal (Some fault) = refusal ≡ refusal_of fault

-- A refusal names the first broken sentence and its position. Out of memory says nothing.
abbrev pub Says : TypeRefusal → Option TypeFault → Type 0
Says Memory found = Unit {0}
Says refusal found = names_fault refusal found

-- A typed program breaks no sentence.
abbrev pub Judges : {A : Type 0} → Result A TypeRefusal → Option TypeFault → Type 0
Judges (Ok a) found = found ≡ None
Judges (Err refusal) found = Says refusal found
