-- Rows of numbers, and what is put into them.
use Rattle.std.proofs.Common.{◌≡◌, ◌≢◌, refl, sym, ap, ◌∙◌, subst, ◌⊎◌, inl, inr, ℕ, zero, suc, ◌+◌, ◌<◌, ◌≤◌, Bool, true, false, ◌&&◌, ◌||◌, ◌==◌, eqb-true, List, [], ◌∷◌, ◌++◌, length, set, get_or, take, get_or-set_same, get_or-set_other, length-append, ◌-◌, add-one, Some, arith}
use Rattle.std.proofs.Math.ListN.{length-set}
use Rattle.std.proofs.Math.Seq.{take-suc}
use Rattle.std.specs.List.{list_any, slice_get}
use Rattle.std.proofs.lemmas.List.{get_or_default}
use Rattle.std.proofs.lemmas.List.Folds.{list_any-append}
use Rattle.spark_base.specs.Lists.{Has}
use Rattle.spark_base.proofs.Lists.{Has-append_left, Has-append_right, Has-append_cases}
use Rattle.flow_paths.specs.declared.point.Point.{Point}
use Rattle.flow_paths.specs.declared.point.LaidSub.{LaidSub}
use Rattle.call_effects.specs.Uses.{points_at}
use Rattle.call_effects.specs.Rows.{row, AreEmpty, IsFiled, AreMarked}

-- a row that has something is there
pub row_there : (rows : List (List ℕ)) (a b : ℕ) → Has (row rows a) b → a < length rows
row_there [] a b h = absurd h
row_there (r ∷ rows) zero b h = omega arith
row_there (r ∷ rows) (suc a) b h = (let rest = row_there rows a b h in omega arith)

row_behind : (rows : List (List ℕ)) (a : ℕ) → row (rows ++ [] ∷ []) a ≡ row rows a
row_behind [] zero = refl
row_behind [] (suc a) = refl
row_behind (r ∷ rows) zero = refl
row_behind (r ∷ rows) (suc a) = row_behind rows a

pub empty_none : (rows : List (List ℕ)) → rows ≡ [] → AreEmpty 0 rows
empty_none rows e = record { count = ap length e; none = λ a. ap (λ l. row l a) e }

pub empty_more : (n : ℕ) (rows new : List (List ℕ)) (x : List ℕ) → new ≡ rows ++ x ∷ [] → x ≡ [] → AreEmpty n rows → AreEmpty (n + 1) new
empty_more n rows new x is none e =
    let now : new ≡ rows ++ [] ∷ [] = is ∙ ap (λ y. rows ++ y ∷ []) none in
    record {
      count = (let more = length-append rows ([] ∷ []) in let n = e.count in let l = ap length now in omega arith);
      none = λ a. ap (λ l. row l a) now ∙ row_behind rows a ∙ e.none a;
    }

-- ---- one subprogram

pub filed_none : (p : ℕ) (marked : ℕ → Bool) (rows : List (List ℕ)) → ((a : ℕ) → a < length rows → marked a ≡ true → Has (row rows a) p)
    → IsFiled p marked rows rows
filed_none p marked rows there = record {
  count = refl;
  keeps = λ a b h. h;
  comes = there;
  only = λ a b h. inl h;
}

pub same_or_not : (a b : ℕ) → (a ≡ b) ⊎ (a ≢ b)
same_or_not a b = grind arith

eqb_self : (a : ℕ) → (a == a) ≡ true
eqb_self a = grind arith

-- a number after one row
pub filed_at : (p at : ℕ) (old new : List (List ℕ)) → at < length old → new ≡ set old at (row old at ++ p ∷ [])
    → IsFiled p (λ a. at == a) old new
filed_at p at old new h e =
    let more : List ℕ = row old at ++ p ∷ [] in
    let here : row new at ≡ more = ap (λ l. row l at) e ∙ get_or-set_same old at more [] h in
    let else_ : (a : ℕ) → a ≢ at → row new a ≡ row old a = λ a ne. (let s = ap (λ l. row l a) e in s ∙ (rw get_or-set_other refl)) in
    record {
      count = ap length e ∙ length-set old at more;
      keeps = λ a b m. elim (same_or_not a at) [
        | inl is ↦ subst (λ x. Has (row new x) b) (sym is) (subst (λ r. Has r b) (sym here)
            (Has-append_left (row old at) (p ∷ []) b (subst (λ x. Has (row old x) b) is m)))
        | inr ne ↦ subst (λ r. Has r b) (sym (else_ a ne)) m
      ];
      comes = λ a lt is. subst (λ x. Has (row new x) p) (eqb-true at a is) (subst (λ r. Has r p) (sym here)
          (Has-append_right (row old at) (p ∷ []) p (inl refl)));
      only = λ a b m. elim (same_or_not a at) [
        | inl is ↦ elim (Has-append_cases (row old at) (p ∷ []) b (subst (λ r. Has r b) here (subst (λ x. Has (row new x) b) is m))) [
          | inl old_ ↦ inl (subst (λ x. Has (row old x) b) (sym is) old_)
          | inr new_ ↦ elim new_ [
            | inl same ↦ inr (sym same, subst (λ x. (at == x) ≡ true) (sym is) (eqb_self at))
            | inr none ↦ absurd none
          ]
        ]
        | inr ne ↦ inl (subst (λ r. Has r b) (else_ a ne) m)
      ];
    }

or_left : (a b : Bool) → a ≡ true → (a || b) ≡ true
or_left a b e = ap (λ x. x || b) e

or_right : (a b : Bool) → b ≡ true → (a || b) ≡ true
or_right true b e = refl
or_right false b e = e

pub or_parts : (a b : Bool) → (a || b) ≡ true → (a ≡ true) ⊎ (b ≡ true)
or_parts true b e = inl refl
or_parts false b e = inr e

-- the same marks
pub filed_same : (p : ℕ) (m n : ℕ → Bool) (old new : List (List ℕ)) → ((a : ℕ) → m a ≡ n a) → IsFiled p m old new → IsFiled p n old new
filed_same p m n old new same f = record {
  count = f.count;
  keeps = f.keeps;
  comes = λ a lt e. f.comes a lt (same a ∙ e);
  only = λ a b h. elim (f.only a b h) [ inl was ↦ inl was | inr is ↦ inr (is.0, sym (same a) ∙ is.1) ];
}

-- one filing after another
pub filed_on : (p : ℕ) (m n : ℕ → Bool) (old mid new : List (List ℕ)) → IsFiled p m old mid → IsFiled p n mid new
    → IsFiled p (λ a. m a || n a) old new
filed_on p m n old mid new f g = record {
  count = g.count ∙ f.count;
  keeps = λ a b h. g.keeps a b (f.keeps a b h);
  comes = λ a lt e. elim (or_parts (m a) (n a) e) [
    | inl first ↦ g.keeps a p (f.comes a lt first)
    | inr second ↦ g.comes a (subst (λ k. a < k) (sym f.count) lt) second
  ];
  only = λ a b h. elim (g.only a b h) [
    | inl was ↦ elim (f.only a b was) [ inl old_ ↦ inl old_ | inr is ↦ inr (is.0, or_left (m a) (n a) is.1) ]
    | inr is ↦ inr (is.0, or_right (m a) (n a) is.1)
  ];
}

-- one element of a list more
pub any_more : {A : Type 0} (f : A → Bool) (xs : List A) (i : ℕ) (x d : A) → i < length xs → x ≡ get_or xs i d
    → list_any f (take (suc i) xs) ≡ (list_any f (take i xs) || f x)
any_more f xs i x d h e =
    ap (list_any f) (take-suc xs i d h) ∙ list_any-append f (take i xs) (get_or xs i d ∷ [])
    ∙ ap (λ b. list_any f (take i xs) || b) (or_none (f (get_or xs i d))) ∙ ap (λ y. list_any f (take i xs) || f y) (sym e)
  where
    or_none : (b : Bool) → (b || false) ≡ b
    or_none true = refl
    or_none false = refl

pub filed_more : {A : Type 0} (p : ℕ) (f : ℕ → A → Bool) (xs : List A) (i : ℕ) (x d : A) (m : ℕ → Bool) (old mid new : List (List ℕ))
    → i < length xs → x ≡ get_or xs i d → ((a : ℕ) → m a ≡ f a x)
    → IsFiled p (λ a. list_any (f a) (take i xs)) old mid → IsFiled p m mid new
    → IsFiled p (λ a. list_any (f a) (take (i + 1) xs)) old new
filed_more p f xs i x d m old mid new h e same before step =
    filed_same p (λ a. list_any (f a) (take i xs) || m a) (λ a. list_any (f a) (take (i + 1) xs)) old new
    (λ a. ap (λ b. list_any (f a) (take i xs) || b) (same a) ∙ sym (any_more (f a) xs i x d h e)
    ∙ ap (λ n. list_any (f a) (take n xs)) (sym (add-one i)))
    (filed_on p (λ a. list_any (f a) (take i xs)) m old mid new before step)

pub take_past : {A : Type 0} (xs : List A) (i : ℕ) → length xs ≤ i → take i xs ≡ xs
take_past [] zero h = refl
take_past [] (suc i) h = refl
take_past (x ∷ xs) zero h = absurd (omega arith)
take_past (x ∷ xs) (suc i) h = ap (λ l. x ∷ l) (take_past xs i (omega arith))

-- all are done
pub filed_all : {A : Type 0} (p : ℕ) (f : ℕ → A → Bool) (xs : List A) (i : ℕ) (old new : List (List ℕ)) → length xs ≤ i
    → IsFiled p (λ a. list_any (f a) (take i xs)) old new → IsFiled p (λ a. list_any (f a) xs) old new
filed_all p f xs i old new h filed =
    filed_same p (λ a. list_any (f a) (take i xs)) (λ a. list_any (f a) xs) old new (λ a. ap (list_any (f a)) (take_past xs i h)) filed

-- ---- one subprogram after the other

pub marked_none : (size : ℕ) (marked : ℕ → ℕ → Bool) (rows : List (List ℕ)) → AreEmpty size rows → AreMarked size 0 marked rows
marked_none size marked rows e = record {
  sized = e.count;
  comes = λ p a lt. absurd (omega arith);
  only = λ p a h. absurd (subst (λ r. Has r p) (e.none a) h);
}

pub marked_more : (size count : ℕ) (marked : ℕ → ℕ → Bool) (m : ℕ → Bool) (old new : List (List ℕ)) → ((a : ℕ) → m a ≡ marked count a)
    → AreMarked size count marked old → IsFiled count m old new → AreMarked size (count + 1) marked new
marked_more size count marked m old new same before f = record {
  sized = f.count ∙ before.sized;
  comes = λ p a lt within e. elim (same_or_not p count) [
    | inl is ↦ subst (Has (row new a)) (sym is) (f.comes a (subst (λ k. a < k) (sym before.sized) within)
        (same a ∙ subst (λ k. marked k a ≡ true) is e))
    | inr ne ↦ f.keeps a p (before.comes p a (omega arith) within e)
  ];
  only = λ p a h. elim (f.only a p h) [
    | inl was ↦ (let b = before.only p a was in (omega arith, b.1))
    | inr is ↦ (omega arith, subst (λ k. marked k a ≡ true) (sym is.0) (sym (same a) ∙ is.1))
  ];
}

-- p is in the row already, or there is no such row
pub filed_there : (p at : ℕ) (rows : List (List ℕ)) → (at < length rows → Has (row rows at) p) → IsFiled p (λ a. at == a) rows rows
filed_there p at rows there = filed_none p (λ a. at == a) rows
    (λ a lt is. subst (λ x. Has (row rows x) p) (eqb-true at a is) (there (subst (λ x. x < length rows) (sym (eqb-true at a is)) lt)))

-- no subprogram is put under no object
pub filed_nowhere : (p : ℕ) (marked : ℕ → Bool) (rows : List (List ℕ)) → ((a : ℕ) → marked a ≡ false) → IsFiled p marked rows rows
filed_nowhere p marked rows never = filed_none p marked rows (λ a lt is. (let no = never a in absurd (true_false (sym is ∙ no))))
  where
    true_false : true ≡ false → ⊥
    true_false e = cc

-- a row, whatever stands past the end
pub row_is : (rows : List (List ℕ)) (a : ℕ) (r d : List ℕ) → a < length rows → r ≡ get_or rows a d → r ≡ row rows a
row_is rows a r d h e = e ∙ get_or_default rows a d [] h

-- the last element of a list is there
pub last_there : (xs : List ℕ) (x : ℕ) → slice_get xs (length xs - 1) ≡ Some x → Has xs x
last_there xs x e = at xs (length xs - 1) x e
  where
    at : (xs : List ℕ) (i x : ℕ) → slice_get xs i ≡ Some x → Has xs x
    at [] i x e = cc
    at (y ∷ xs) zero x e = inl cc
    at (y ∷ xs) (suc i) x e = inr (at xs i x e)

eqb_turned : (a b : ℕ) → (a == b) ≡ (b == a)
eqb_turned a b = grind arith

-- what is put under 0 alone
pub filed_zero : (p : ℕ) (uses : Bool) (old new : List (List ℕ)) → uses ≡ true → IsFiled p (λ a. 0 == a) old new
    → IsFiled p (λ a. a == 0 && uses) old new
filed_zero p uses old new set_ f =
    filed_same p (λ a. 0 == a) (λ a. a == 0 && uses) old new (λ a. eqb_turned 0 a ∙ and_true (a == 0) uses set_) f
  where
    and_true : (a b : Bool) → b ≡ true → a ≡ (a && b)
    and_true true b e = sym e
    and_true false b e = refl

pub filed_unless : (p : ℕ) (uses : Bool) (rows : List (List ℕ)) → uses ≡ false → IsFiled p (λ a. a == 0 && uses) rows rows
filed_unless p uses rows unset = filed_nowhere p (λ a. a == 0 && uses) rows (λ a. and_false (a == 0) uses unset)
  where
    and_false : (a b : Bool) → b ≡ false → (a && b) ≡ false
    and_false true b e = e
    and_false false b e = refl

pub points_is : (subs : List LaidSub) (p : ℕ) (d : LaidSub) (points : List Point) → p < length subs
    → points ≡ (get_or subs p d).points → points ≡ points_at subs p
points_is [] p d points h is = absurd (omega arith)
points_is (x ∷ subs) zero d points h is = is
points_is (x ∷ subs) (suc p) d points h is = points_is subs p d points (omega arith) is
