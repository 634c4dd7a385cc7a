-- How many points a list has, and which temporaries they fill.
use Rattle.std.proofs.Common.{◌≡◌, ℕ, ◌+◌, Bool, true, false, List, [], ◌∷◌, ◌++◌, length, map, refl, sym, ap, ◌∙◌, append_assoc, append-nil, length-append, Option, Some, None}
use Rattle.std.specs.Prelude.{if◌then◌else◌}
use Rattle.std.proofs.lemmas.List.{map-append, length-map}
use Rattle.spark_base.specs.declared.position.Pos.{Pos}
use Rattle.type_definitions.specs.Entries.{boolean}
use Rattle.flow_paths.specs.Instructions.{Instruction, Call, Evaluate}
use Rattle.flow_paths.specs.Objects.{Typing, sub_at}
use Rattle.flow_paths.specs.Points.{Place, PointName, row_at, NamedPoint, point}
use Rattle.flow_paths.specs.Laid.{Temporary, result_of}

-- The type of the temporary that an instruction fills first.
abbrev pub fills : Typing → Instruction → Option ℕ
fills s (Call sub actuals (Some t)) = Some (result_of (sub_at s sub).result)
fills s (Evaluate t e (Some op)) = Some boolean
fills s _ = None

-- A point that fills a temporary.
pub record Filling : Type 0 where
  pub name : PointName
  pub of : ℕ

abbrev pub filling : PointName → Option ℕ → List Filling
filling name None = []
filling name (Some of) = record { name = name; of = of } ∷ []

abbrev pub fillings : Typing → List NamedPoint → List Filling
fillings s [] = []
fillings s (p ∷ ps) = filling p.name (fills s p.instr) ++ fillings s ps

pub fillings_append : (s : Typing) (ps qs : List NamedPoint) → fillings s (ps ++ qs) ≡ fillings s ps ++ fillings s qs
fillings_append s [] qs = refl
fillings_append s (p ∷ ps) qs =
    ap (λ fs. filling p.name (fills s p.instr) ++ fs) (fillings_append s ps qs)
    ∙ sym (append_assoc (filling p.name (fills s p.instr)) (fillings s ps) (fillings s qs))

-- Such a point is the first one of its construct.
abbrev pub at_first : Temporary → Filling
at_first t = record { name = row_at t.place 0; of = t.of }

abbrev pub temporary_at : Place → ℕ → Temporary
temporary_at at of = record { place = at; of = of }

-- m points, which fill u temporaries.
pub record Measured (s : Typing) (ps : List NamedPoint) (m u : ℕ) (ts : List Temporary) : Type 0 where
  pub count : length ps ≡ m
  pub filled : length ts ≡ u
  pub fills : fillings s ps ≡ map at_first ts

pub measured_filled : (s : Typing) (ps : List NamedPoint) (m u : ℕ) (ts : List Temporary) → Measured s ps m u ts → length (fillings s ps) ≡ u
measured_filled s ps m u ts h = ap length h.fills ∙ length-map ts at_first ∙ h.filled

pub measured_none : (s : Typing) → Measured s [] 0 0 []
measured_none s = record { count = refl; filled = refl; fills = refl }

pub measured_both : (s : Typing) (ps qs : List NamedPoint) (m n u v : ℕ) (ts us : List Temporary)
    → Measured s ps m u ts → Measured s qs n v us → Measured s (ps ++ qs) (m + n) (u + v) (ts ++ us)
measured_both s ps qs m n u v ts us h g = record {
  count = length-append ps qs ∙ (λ i. h.count i + g.count i);
  filled = length-append ts us ∙ (λ i. h.filled i + g.filled i);
  fills = fillings_append s ps qs ∙ (λ i. h.fills i ++ g.fills i) ∙ sym (map-append at_first ts us);
}

-- A point that fills none.
pub measured_row : (s : Typing) (x : PointName) (p : Pos) (i : Instruction) (scope : List ℕ) (next : List PointName)
    → fills s i ≡ None → Measured s (point x p i scope next ∷ []) 1 0 []
measured_row s x p i scope next is = record { count = refl; filled = refl; fills = ap (λ o. filling x o ++ []) is }

pub measured_behind : (s : Typing) (ps : List NamedPoint) (m u : ℕ) (ts : List Temporary) (x : PointName) (p : Pos) (i : Instruction)
    (scope : List ℕ) (next : List PointName)
    → fills s i ≡ None → Measured s ps m u ts → Measured s (ps ++ point x p i scope next ∷ []) (m + 1) u ts
measured_behind s ps m u ts x p i scope next is h = record {
  count = length-append ps (point x p i scope next ∷ []) ∙ ap (λ n. n + 1) h.count;
  filled = h.filled;
  fills =
      fillings_append s ps (point x p i scope next ∷ []) ∙ ap (λ o. fillings s ps ++ (filling x o ++ [])) is
      ∙ append-nil (fillings s ps) ∙ h.fills;
}

-- A point that fills one.
pub measured_filling : (s : Typing) (at : Place) (p : Pos) (i : Instruction) (of : ℕ) (scope : List ℕ) (next : List PointName)
    → fills s i ≡ Some of → Measured s (point (row_at at 0) p i scope next ∷ []) 1 1 (temporary_at at of ∷ [])
measured_filling s at p i of scope next is =
    record { count = refl; filled = refl; fills = ap (λ o. filling (row_at at 0) o ++ []) is }

pub measured_if : (s : Typing) (b : Bool) (ps qs : List NamedPoint) (m n u v : ℕ) (ts us : List Temporary)
    → Measured s ps m u ts → Measured s qs n v us
    → Measured s (if b then ps else qs) (if b then m else n) (if b then u else v) (if b then ts else us)
measured_if s true ps qs m n u v ts us h g = h
measured_if s false ps qs m n u v ts us h g = g

-- The same numbers in another form.
pub measured_as : (s : Typing) (ps : List NamedPoint) (m n u v : ℕ) (ts : List Temporary) → m ≡ n → u ≡ v → Measured s ps m u ts → Measured s ps n v ts
measured_as s ps m n u v ts a b h = record { count = h.count ∙ a; filled = h.filled ∙ b; fills = h.fills }
