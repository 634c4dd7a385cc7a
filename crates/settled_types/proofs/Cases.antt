-- One form of code, and all others alike: a clause for each of the others would be checked once for each form.
use Rattle.std.proofs.Common.{◌≡◌, ℕ, Bool, true, false, List, [], refl, true≢false}
use Rattle.machine.specs.spark_base.declared.position.Pos.{Pos}
use Rattle.machine.specs.place_names.declared.act.Mode.{Mode}
use Rattle.machine.specs.resolved_tree.declared.node.Mark.{Mark}
use Rattle.machine.specs.resolved_tree.Trees.{Code, More, Front, Formals, Anonymous, Enumeration, code_items}
use Rattle.machine.specs.type_definitions.Names.{Context}
use Rattle.machine.specs.type_definitions.Gathered.{each, with_indication, with_formal_group, with_formals, with_result, with_front, with_definition}
use Rattle.settled_types.specs.GatheredLaws.Made.{indicated_numbers}

-- ---- lists

abbrev pub is_more : Code → Bool
is_more (More a rest) = true
is_more _ = false

pub on_more : (P : Code → Type 0) → ((a rest : Code) → P rest → P (More a rest)) → ((c : Code) → is_more c ≡ false → P c) → (c : Code) → P c
on_more P more end (More a rest) = more a rest (on_more P more end rest)
on_more P more end c = end c refl

pub each_end : (f : Code → Context → Context) (c : Code) (x : Context) → is_more c ≡ false → each f c x ≡ x
each_end f (More a rest) x other = absurd (true≢false other)
each_end f _ x other = refl

pub result_end : (d : ℕ) (c : Code) (x : Context) → is_more c ≡ false → with_result d c x ≡ x
result_end d (More a rest) x other = absurd (true≢false other)
result_end d _ x other = refl

pub items_end : (c : Code) → is_more c ≡ false → code_items c ≡ []
items_end (More a rest) other = absurd (true≢false other)
items_end _ other = refl

-- ---- indications

abbrev pub is_access : Code → Bool
is_access (Anonymous at constant m) = true
is_access _ = false

pub on_access : (P : Code → Type 0) → ((at : Pos) (constant : Bool) (m : Mark) → P (Anonymous at constant m)) → ((c : Code) → is_access c ≡ false → P c) → (c : Code) → P c
on_access P access end (Anonymous at constant m) = access at constant m
on_access P access end c = end c refl

pub indication_end : (d : ℕ) (c : Code) (x : Context) → is_access c ≡ false → with_indication d c x ≡ x
indication_end d (Anonymous at constant m) x other = absurd (true≢false other)
indication_end d _ x other = refl

pub indicated_end : (c : Code) (ns : List ℕ) → is_access c ≡ false → indicated_numbers c ns ≡ []
indicated_end (Anonymous at constant m) ns other = absurd (true≢false other)
indicated_end _ ns other = refl

-- ---- fronts

abbrev pub is_group : Code → Bool
is_group (Formals names m of) = true
is_group _ = false

pub on_group : (P : Code → Type 0) → ((names : Code) (m : Mode) (of : Code) → P (Formals names m of)) → ((c : Code) → is_group c ≡ false → P c) → (c : Code) → P c
on_group P group end (Formals names m of) = group names m of
on_group P group end c = end c refl

pub group_end : (c : Code) (x : Context) → is_group c ≡ false → with_formal_group c x ≡ x
group_end (Formals names m of) x other = absurd (true≢false other)
group_end _ x other = refl

abbrev pub is_front : Code → Bool
is_front (Front d formals result) = true
is_front _ = false

pub on_front : (P : Code → Type 0) → ((d formals result : Code) → P (Front d formals result)) → ((c : Code) → is_front c ≡ false → P c) → (c : Code) → P c
on_front P front end (Front d formals result) = front d formals result
on_front P front end c = end c refl

pub front_end : (c : Code) (x : Context) → is_front c ≡ false → with_front c x ≡ x
front_end (Front d formals result) x other = absurd (true≢false other)
front_end _ x other = refl

pub formals_end : (c : Code) (x : Context) → is_front c ≡ false → with_formals c x ≡ x
formals_end (Front d formals result) x other = absurd (true≢false other)
formals_end _ x other = refl

-- ---- definitions

abbrev pub is_enumeration : Code → Bool
is_enumeration (Enumeration literals) = true
is_enumeration _ = false

pub on_enumeration : (P : Code → Type 0) → ((literals : Code) → P (Enumeration literals)) → ((c : Code) → is_enumeration c ≡ false → P c) → (c : Code) → P c
on_enumeration P enumeration end (Enumeration literals) = enumeration literals
on_enumeration P enumeration end c = end c refl

pub definition_end : (t : ℕ) (c : Code) (x : Context) → is_enumeration c ≡ false → with_definition t c x ≡ x
definition_end t (Enumeration literals) x other = absurd (true≢false other)
definition_end t _ x other = refl
