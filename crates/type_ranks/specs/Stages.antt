-- How far types have ranks, while they get them one after the other.
use Rattle.std.specs.Prelude.{◌≡◌, ◌⊎◌, ◌<◌, ◌≤◌, ◌+◌, ℕ, suc, Bool, true, false, List, [], ◌∷◌, length, get_or, set, nat_eq, if◌then◌else◌}
use Rattle.spark_base.specs.Lists.{Has}
use Rattle.type_definitions.specs.Types.{Table, info}
use Rattle.type_ranks.specs.declared.visits.Visit.{Visit}
use Rattle.type_ranks.specs.Ranks.{AreRanks, parts, rank}

-- ---- visits

abbrev pub fresh : ℕ → Visit
fresh t = record { of = t; entered = false }

abbrev pub entered : ℕ → Visit
entered t = record { of = t; entered = true }

-- A type beyond the table needn't be entered.
abbrev pub is_entered : List Bool → ℕ → Bool
is_entered marks t = get_or marks t true

abbrev pub Keeps : List Bool → List Bool → Type 0
Keeps before after = (t : ℕ) → is_entered before t ≡ true → is_entered after t ≡ true

-- A type that has a rank keeps it.
abbrev pub given : List ℕ → ℕ → ℕ → List ℕ
given ranks t next = if nat_eq (rank ranks t) 0 then set ranks t next else ranks

-- ---- what is left to be done

abbrev pub cost : Bool → ℕ → ℕ
cost true parts = 0
cost false parts = suc parts

-- The types that aren't entered yet, each with what it is made of.
abbrev pub work : Table → List Bool → ℕ
work table [] = 0
work [] (mark ∷ marks) = cost mark 0 + work [] marks
work (i ∷ table) (mark ∷ marks) = cost mark (length (parts i)) + work table marks

-- ---- what stands on the stack, the next one last

-- a visit of this type
abbrev pub Stands : List Visit → ℕ → Type 0
Stands [] t = ⊥
Stands (v ∷ vs) t = (v.of ≡ t) ⊎ Stands vs t

-- one that was entered
abbrev pub IsOpen : List Visit → ℕ → Type 0
IsOpen [] t = ⊥
IsOpen (v ∷ vs) t = ((v.of ≡ t) × (v.entered ≡ true)) ⊎ IsOpen vs t

-- All types are less deep than this.
abbrev pub AreBelow : (ℕ → ℕ) → ℕ → List Visit → Type 0
AreBelow depth limit [] = Unit {0}
AreBelow depth limit (v ∷ vs) = (depth v.of < limit) × AreBelow depth limit vs

-- A type has its rank, or is beyond the table.
abbrev pub IsSettled : Table → List ℕ → ℕ → Type 0
IsSettled table ranks t = (length table ≤ t) ⊎ (0 < rank ranks t)

-- What a type that was entered is made of is settled or stands after it. All that stands after it is less deep.
abbrev pub IsFollowed : (ℕ → ℕ) → Table → List ℕ → Bool → ℕ → List Visit → Type 0
IsFollowed depth table ranks false t after = Unit {0}
IsFollowed depth table ranks true t after =
    ((part : ℕ) → Has (parts (info table t)) part → IsSettled table ranks part ⊎ Stands after part) × AreBelow depth (depth t) after

abbrev pub AreFollowed : (ℕ → ℕ) → Table → List ℕ → List Visit → Type 0
AreFollowed depth table ranks [] = Unit {0}
AreFollowed depth table ranks (v ∷ vs) = IsFollowed depth table ranks v.entered v.of vs × AreFollowed depth table ranks vs

-- The rank of a type is one so far, and what it is made of has lower ones.
abbrev pub IsRanked : Table → List ℕ → ℕ → ℕ → Type 0
IsRanked table ranks last t =
    (rank ranks t ≤ last) × ((part : ℕ) → Has (parts (info table t)) part → IsSettled table ranks part × (rank ranks part < rank ranks t))

-- With numbers by which each type is deeper than what it is made of.
pub record IsStage (depth : ℕ → ℕ) (table : Table) (marks : List Bool) (ranks : List ℕ) (last : ℕ) (stack : List Visit) : Type 0 where
  pub marks_length : length marks ≡ length table
  pub ranks_length : length ranks ≡ length table
  pub ranked : (t : ℕ) → 0 < rank ranks t → IsRanked table ranks last t
  pub followed : AreFollowed depth table ranks stack
  pub opened : (t : ℕ) → t < length table → is_entered marks t ≡ true → (0 < rank ranks t) ⊎ IsOpen stack t

abbrev pub IsSound : Table → List Bool → List ℕ → ℕ → List Visit → Type 0
IsSound table marks ranks last stack = (depth : ℕ → ℕ) → AreRanks table depth → IsStage depth table marks ranks last stack
