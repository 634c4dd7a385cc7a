-- The values that wait match the temporaries in scope, one by one.
use Rattle.std.proofs.Common.{◌≡◌, refl, sym, ap, ◌∙◌, subst, ◌⊎◌, inl, inr, ℕ, zero, suc, Bool, true, false, not, ◌&&◌, ◌||◌, ◌==◌, eqb-true, List, [], ◌∷◌, ◌++◌, take, drop, length, Option, Some, None, is_some, true≢false}
use Rattle.std.specs.List.{AllByRecursion}
use Rattle.std.proofs.lemmas.Bool.{false≢true}
use Rattle.machine.specs.type_definitions.Types.{full, is_scalar}
use Rattle.machine.specs.typed_tree.Trees.{TypedTree}
use Rattle.machine.specs.flow_paths.Instructions.{Instruction, Skip, Declare, Assign, Call, Output, Input, Release, Test, Choose, Start, Next, Evaluate, LeaveLoop, Hold, EndScope, Finish, Fall}
use Rattle.machine.specs.flow_paths.Objects.{Typing, object_at, has_scope_end}
use Rattle.machine.specs.flow_paths.Laid.{FlowProgram, flow_typing}
use Rattle.machine.specs.flow_paths.Scopes.{Silent, Leads, brought, is_temporary, is_within, is_last}
use Rattle.machine.specs.States.{Waiting, sub_of}
use Rattle.soundness.specs.PartOffsets.Parts.{IsSettled}
use Rattle.soundness.specs.Sound.{IsPlainValue, is_temporary_object, temporaries_in}
use Rattle.soundness.specs.Ready.{Fills}
use Rattle.soundness.proofs.Contents.{bool_cases}
use Rattle.soundness.proofs.Waits.{drop_none}
use Rattle.soundness.proofs.Fixed.{plain_word}
use Rattle.soundness.proofs.Waited.{FillsNone}
use Rattle.viewed_steps.specs.Awaited.{AreFor, AreValuesBut, FillsTyped, temporaries_of, is_held, lasting_of, AreScalar}
use Rattle.soundness.proofs.Parted.{by_either}

pub split_list : {A : Type 0} (k : ℕ) (xs : List A) → take k xs ++ drop k xs ≡ xs
split_list zero [] = refl
split_list zero (x ∷ xs) = refl
split_list (suc k) [] = refl
split_list (suc k) (x ∷ xs) = ap (λ z. x ∷ z) (split_list k xs)

any_either : (a b : Bool) → a || b ≡ true → (a ≡ true) ⊎ (b ≡ true)
any_either true b e = inl refl
any_either false b e = inr e

or_first : (a b : Bool) → a ≡ true → a || b ≡ true
or_first true b e = refl
or_first false b e = absurd (false≢true e)

or_second : (a b : Bool) → b ≡ true → a || b ≡ true
or_second true b e = refl
or_second false b e = e

module _ (s : Typing) where
  -- ---- the temporaries in scope

  pub temporary_first : (x : ℕ) (scope : List ℕ) → is_temporary_object s x ≡ true → temporaries_of s (x ∷ scope) ≡ x ∷ temporaries_of s scope
  temporary_first x scope is = rw is refl

  pub others_only : (x : ℕ) (scope : List ℕ) → is_temporary_object s x ≡ false → temporaries_of s (x ∷ scope) ≡ temporaries_of s scope
  others_only x scope isnt = rw isnt refl

  temporaries_both : (xs ys : List ℕ) → temporaries_of s (xs ++ ys) ≡ temporaries_of s xs ++ temporaries_of s ys
  temporaries_both [] ys = refl
  temporaries_both (x ∷ xs) ys = elim (bool_cases (is_temporary_object s x)) [
    | inl is ↦ temporary_first x (xs ++ ys) is ∙ ap (λ z. x ∷ z) (temporaries_both xs ys) ∙ ap (λ z. z ++ temporaries_of s ys) (sym (temporary_first x xs is))
    | inr isnt ↦ others_only x (xs ++ ys) isnt ∙ temporaries_both xs ys ∙ ap (λ z. z ++ temporaries_of s ys) (sym (others_only x xs isnt))
  ]

  second_not : (a b : Bool) → a && not b ≡ true → b ≡ false
  second_not true true e = absurd (false≢true e)
  second_not true false e = refl
  second_not false b e = absurd (false≢true e)

  silent_none : (gone : List ℕ) → AllByRecursion (Silent s) gone → temporaries_of s gone ≡ []
  silent_none [] silent = refl
  silent_none (x ∷ gone) silent =
      others_only x gone (second_not (not (has_scope_end s x)) (is_temporary (object_at s x).kind) silent.0) ∙ silent_none gone silent.1

  -- what leaves silently is no temporary
  pub leads_temporaries : (a b : List ℕ) → Leads s a b → temporaries_of s a ≡ temporaries_of s b
  leads_temporaries a b these =
      let (gone, silent, is) = these in
      ap (temporaries_of s) is ∙ temporaries_both gone b ∙ ap (λ z. z ++ temporaries_of s b) (silent_none gone silent)

  last_is : (x : ℕ) (scope : List ℕ) → is_last x scope ≡ true → is_temporary_object s x ≡ false → temporaries_of s (drop 1 scope) ≡ temporaries_of s scope
  last_is x [] last plain = refl
  last_is x (y ∷ scope) last plain =
      ap (temporaries_of s) (drop_none scope) ∙ sym (others_only y scope (ap (is_temporary_object s) (sym (eqb-true x y last)) ∙ plain))

  pub brought_temporaries : (i : Instruction) (scope : List ℕ) → FillsNone s i → Fills s i scope → ((x : ℕ) → i ≡ EndScope x → is_last x scope ≡ true)
      → temporaries_of s (brought i scope) ≡ temporaries_of s scope
  brought_temporaries Skip scope none fills last = refl
  brought_temporaries (Declare x v) scope none fills last = others_only x scope fills
  brought_temporaries (Assign target e) scope none fills last = refl
  brought_temporaries (Call sub actuals None) scope none fills last = refl
  brought_temporaries (Call sub actuals (Some t)) scope none fills last = absurd none
  brought_temporaries (Output text line) scope none fills last = refl
  brought_temporaries (Input target) scope none fills last = refl
  brought_temporaries (Release e) scope none fills last = refl
  brought_temporaries (Test e) scope none fills last = refl
  brought_temporaries (Choose e choices) scope none fills last = refl
  brought_temporaries (Start x reversed low high) scope none fills last = others_only x scope fills
  brought_temporaries (Next x reversed low high) scope none fills last = refl
  brought_temporaries (Evaluate t e left) scope none fills last = absurd none
  brought_temporaries (LeaveLoop e) scope none fills last = refl
  brought_temporaries (Hold v) scope none fills last = refl
  brought_temporaries (EndScope x) scope none fills last = last_is x scope (last x refl) fills
  brought_temporaries Finish scope none fills last = refl
  brought_temporaries Fall scope none fills last = refl

  -- ---- the others

  lasting_first : (x : ℕ) (scope : List ℕ) → is_held s x ≡ false → lasting_of s (x ∷ scope) ≡ x ∷ lasting_of s scope
  lasting_first x scope isnt = rw isnt refl

  temporary_out : (x : ℕ) (scope : List ℕ) → is_held s x ≡ true → lasting_of s (x ∷ scope) ≡ lasting_of s scope
  temporary_out x scope is = rw is refl

  pub plain_unheld : (x : ℕ) → is_temporary_object s x ≡ false → is_held s x ≡ false
  plain_unheld x isnt = ap (λ b. b && has_scope_end s x) isnt

  pub ended_held : (x : ℕ) → is_temporary_object s x ≡ true → has_scope_end s x ≡ true → is_held s x ≡ true
  ended_held x is end = (λ j. is j && end j)

  -- what lasts is in scope
  pub lasting_within : (x : ℕ) (scope : List ℕ) → is_within x (lasting_of s scope) ≡ true → (is_within x scope ≡ true) × (is_held s x ≡ false)
  lasting_within x [] within = absurd (false≢true within)
  lasting_within x (y ∷ scope) within = by_either (bool_cases (is_held s y))
      (λ is. (
      let later = lasting_within x scope (ap (is_within x) (sym (temporary_out y scope is)) ∙ within) in
      (or_second (x == y) (is_within x scope) later.0, later.1)))
      (λ isnt. (by_either (any_either (x == y) (is_within x (lasting_of s scope)) (ap (is_within x) (sym (lasting_first y scope isnt)) ∙ within))
      (λ same. (or_first (x == y) (is_within x scope) same, ap (is_held s) (eqb-true x y same) ∙ isnt))
      (λ there. (let later = lasting_within x scope there in (or_second (x == y) (is_within x scope) later.0, later.1)))))

  pub within_lasting : (x : ℕ) (scope : List ℕ) → is_within x scope ≡ true → is_held s x ≡ false → is_within x (lasting_of s scope) ≡ true
  within_lasting x [] within isnt = absurd (false≢true within)
  within_lasting x (y ∷ scope) within lasts = by_either (any_either (x == y) (is_within x scope) within)
      (λ same. (ap (is_within x) (lasting_first y scope (ap (is_held s) (sym (eqb-true x y same)) ∙ lasts))
      ∙ or_first (x == y) (is_within x (lasting_of s scope)) same))
      (λ there. (by_either (bool_cases (is_held s y))
      (λ is. (ap (is_within x) (temporary_out y scope is) ∙ within_lasting x scope there lasts))
      (λ isnt. (ap (is_within x) (lasting_first y scope isnt) ∙ or_second (x == y) (is_within x (lasting_of s scope)) (within_lasting x scope there lasts)))))

  pub last_lasting : (x : ℕ) (scope : List ℕ) → is_last x scope ≡ true → is_held s x ≡ false → lasting_of s (drop 1 scope) ≡ drop 1 (lasting_of s scope)
  last_lasting x [] last lasts = refl
  last_lasting x (y ∷ scope) last lasts =
      ap (lasting_of s) (drop_none scope)
      ∙ sym (ap (drop 1) (lasting_first y scope (ap (is_held s) (sym (eqb-true x y last)) ∙ lasts)) ∙ drop_none (lasting_of s scope))

  pub lasting_last : (x : ℕ) (scope : List ℕ) → is_last x scope ≡ true → is_held s x ≡ false → is_last x (lasting_of s scope) ≡ true
  lasting_last x [] last lasts = absurd (false≢true last)
  lasting_last x (y ∷ scope) last lasts = ap (is_last x) (lasting_first y scope (ap (is_held s) (sym (eqb-true x y last)) ∙ lasts)) ∙ last

  pub lasting_more : (a b : List ℕ) → ((x : ℕ) → is_within x a ≡ true → is_within x b ≡ true) → (x : ℕ)
      → is_within x (lasting_of s a) ≡ true → is_within x (lasting_of s b) ≡ true
  lasting_more a b more x within = (let there = lasting_within x a within in within_lasting x b (more x there.0) there.1)

  -- ---- values

  pub as_many : (waits : List Waiting) (xs : List ℕ) → AreFor s waits xs → length waits ≡ length xs
  as_many [] [] all = refl
  as_many [] (x ∷ xs) all = absurd all
  as_many (v ∷ waits) [] all = absurd all
  as_many (v ∷ waits) (x ∷ xs) all = ap suc (as_many waits xs all.1)

  first_ones : (waits : List Waiting) (xs ys : List ℕ) → AreFor s waits (xs ++ ys)
      → AreFor s (take (length xs) waits) xs × AreFor s (drop (length xs) waits) ys × (length (take (length xs) waits) ≡ length xs)
  first_ones [] [] ys all = (tt, all, refl)
  first_ones (v ∷ waits) [] ys all = (tt, all, refl)
  first_ones [] (x ∷ xs) ys all = absurd all
  first_ones (v ∷ waits) (x ∷ xs) ys all =
      (let later = first_ones waits xs ys all.1 in ((all.0, later.0), later.1, ap suc later.2))

  -- The values that are taken are there, and the others match what is left of the scope.
  pub record Shares (k : ℕ) (waits : List Waiting) (scope : List ℕ) : Type 0 where
    pub count : length (take k waits) ≡ k
    pub taken : AreFor s (take k waits) (temporaries_of s (take k scope))
    pub left : AreFor s (drop k waits) (temporaries_of s (drop k scope))

  pub shares : (k : ℕ) (waits : List Waiting) (scope : List ℕ) → AreFor s waits (temporaries_of s scope) → temporaries_in s (take k scope) ≡ k → Shares k waits scope
  shares k waits scope all there =
      let two = first_ones waits (temporaries_of s (take k scope)) (temporaries_of s (drop k scope))
      (subst (AreFor s waits) (ap (temporaries_of s) (sym (split_list k scope)) ∙ temporaries_both (take k scope) (drop k scope)) all) in
      record {
        count = subst (λ z. length (take z waits) ≡ z) there two.2;
        taken = subst (λ z. AreFor s (take z waits) (temporaries_of s (take k scope))) there two.0;
        left = subst (λ z. AreFor s (drop z waits) (temporaries_of s (drop k scope))) there two.1;
      }

  -- Those of temporaries of scalar types are scalar.
  pub scalar_values : IsSettled s.table → (waits : List Waiting) (xs : List ℕ) → AreFor s waits xs → AreScalar s xs → AllByRecursion (IsPlainValue s) waits
  scalar_values settled [] [] all scalar = tt
  scalar_values settled [] (x ∷ xs) all scalar = absurd all
  scalar_values settled (v ∷ waits) [] all scalar = absurd all
  scalar_values settled (v ∷ waits) (x ∷ xs) ((fits, long), all) (scalar, others) =
      let plain : is_scalar (full s.table v.of) ≡ true = elim fits [
        | inl both ↦ both.0
        | inr same ↦ ap (λ z. is_scalar (full s.table z)) same ∙ scalar
      ] in
      ((plain, long ∙ plain_word s settled v.of plain), scalar_values settled waits xs all others)

-- What waits after a call, before what it called has returned: the latest temporary is to hold the result.
pub late_scope : (program : FlowProgram) (n : ℕ) (actuals : TypedTree) (waits : List Waiting) (left : List ℕ) → AreFor (flow_typing program) waits (temporaries_of (flow_typing program) left)
    → (r : Option ℕ) → Fills (flow_typing program) (Call n actuals r) left → FillsTyped program (Call n actuals r) left → (empty : Option ℕ)
    → (sub_of program n).result ≡ empty → is_some empty ≡ is_some r → (b : List ℕ) → Leads (flow_typing program) (brought (Call n actuals r) left) b
    → AreValuesBut (flow_typing program) empty waits (temporaries_of (flow_typing program) b)
late_scope program n actuals waits left values None fills fits None is answers b leads =
    subst (AreFor (flow_typing program) waits) (leads_temporaries (flow_typing program) left b leads) values
late_scope program n actuals waits left values None fills fits (Some of) is answers b leads = absurd (true≢false answers)
late_scope program n actuals waits left values (Some t) fills fits None is answers b leads = absurd (false≢true answers)
late_scope program n actuals waits left values (Some t) fills fits (Some of) is answers b leads =
    subst (AreValuesBut (flow_typing program) (Some of) waits)
    (sym (temporary_first (flow_typing program) t left fills) ∙ leads_temporaries (flow_typing program) (t ∷ left) b leads) (fits of is, values)
