-- What holds of the ranks so far is kept by each visit.
use Rattle.std.proofs.Common.{◌≡◌, ◌⊎◌, inl, inr, ℕ, zero, suc, ◌<◌, ◌≤◌, ◌≢◌, Bool, true, false, List, [], ◌∷◌, ◌++◌, map, refl, sym, ap, subst, ◌∙◌, arith, length, length-set, set, replicate, nat_eq, if◌then◌else◌}
use Rattle.std.proofs.lemmas.Bool.{cases_eq, cases_lt}
use Rattle.std.proofs.lemmas.List.{length-replicate, get_or-replicate, get_or-set_same, get_or-set_other, get_or_past}
use Rattle.std.proofs.lemmas.Option.{slice_get_past}
use Rattle.spark_base.specs.Lists.{Has}
use Rattle.type_definitions.specs.Types.{Table, info, info_found}
use Rattle.type_ranks.specs.declared.visits.Visit.{Visit}
use Rattle.type_ranks.specs.Ranks.{AreRanks, parts, rank}
use Rattle.type_ranks.specs.Stages.{fresh, entered, is_entered, given, Stands, IsOpen, AreBelow, IsSettled, AreFollowed, IsRanked, IsStage}
use Rattle.type_ranks.proofs.Stacks.{open_split, open_left, open_right, open_fresh, stands_fresh, below_fresh, below_more, followed_fresh, followed_last, open_deeper, replaced}

never : false ≡ true → ⊥
never is = cc

-- ---- ranks

-- a type that is settled and has no rank is beyond the table
unsettled : (table : Table) (ranks : List ℕ) (t : ℕ) → t < length table → rank ranks t ≡ 0 → IsSettled table ranks t → ⊥
unsettled table ranks t within none settled = elim settled [
  | inl past ↦ absurd (omega (arith, past, within))
  | inr some ↦ absurd (omega (arith, some, none))
]

rank_past : (ranks : List ℕ) (t : ℕ) → length ranks ≤ t → rank ranks t ≡ 0
rank_past ranks t past = get_or_past ranks t 0 past

module _ (table : Table) (ranks : List ℕ) (t next : ℕ) where
  abbrev after : List ℕ
  after = given ranks t next

  given_new : rank ranks t ≡ 0 → after ≡ set ranks t next
  given_new none = ap (λ b. if b then set ranks t next else ranks) (same (rank ranks t) none)
    where
      same : (n : ℕ) → n ≡ 0 → nat_eq n 0 ≡ true
      same n is = grind (arith, is)

  given_old : 0 < rank ranks t → after ≡ ranks
  given_old some = ap (λ b. if b then set ranks t next else ranks) (other (rank ranks t) some)
    where
      other : (n : ℕ) → 0 < n → nat_eq n 0 ≡ false
      other n lt = grind (arith, lt)

  rank_same : t < length ranks → rank ranks t ≡ 0 → rank after t ≡ next
  rank_same within none = ap (λ rs. rank rs t) (given_new none) ∙ get_or-set_same ranks t next 0 within

  some_or_none : (n : ℕ) → (n ≡ 0) ⊎ (0 < n)
  some_or_none zero = inl refl
  some_or_none (suc n) = inr (omega arith)

  rank_other : (u : ℕ) → u ≢ t → rank after u ≡ rank ranks u
  rank_other u other = elim (some_or_none (rank ranks t)) [
    | inl none ↦ ap (λ rs. rank rs u) (given_new none) ∙ get_or-set_other ranks t u next 0 other
    | inr some ↦ ap (λ rs. rank rs u) (given_old some)
  ]

  given_length : length after ≡ length ranks
  given_length = elim (some_or_none (rank ranks t)) [
    | inl none ↦ ap length (given_new none) ∙ length-set ranks t next
    | inr some ↦ ap length (given_old some)
  ]

  -- a rank that there is stays
  rank_kept : (u : ℕ) → 0 < rank ranks u → rank after u ≡ rank ranks u
  rank_kept u some = elim (cases_eq u t) [
    | inl is ↦ ap (λ rs. rank rs u) (given_old (subst (λ w. 0 < rank ranks w) is some))
    | inr other ↦ rank_other u other
  ]

  settled_kept : (u : ℕ) → IsSettled table ranks u → IsSettled table after u
  settled_kept u settled = elim settled [
    | inl past ↦ inl past
    | inr some ↦ inr (let kept = rank_kept u some in omega (arith, kept, some))
  ]

-- ---- stages

module _ (depth : ℕ → ℕ) (table : Table) (are : AreRanks table depth) where
  -- no type is made of itself
  apart : (t : ℕ) → Has (parts (info table t)) t → ⊥
  apart t has = (let lt = are t t has in omega (arith, lt))

  module _ (marks : List Bool) (ranks : List ℕ) (last : ℕ) where
    -- at the start
    pub stage_first : marks ≡ replicate (length table) false → ranks ≡ replicate (length table) 0 → IsStage depth table marks ranks last []
    stage_first unmarked none = record {
      marks_length = ap length unmarked ∙ length-replicate (length table) false;
      ranks_length = ap length none ∙ length-replicate {A = ℕ} (length table) 0;
      ranked = λ t some. absurd (let zero_rank = no_rank t in omega (arith, some, zero_rank));
      followed = tt;
      opened = λ t within is. absurd (never (sym (ap (λ ms. is_entered ms t) unmarked ∙ get_or-replicate (length table) t false true within) ∙ is));
    }
      where
        no_rank : (t : ℕ) → rank ranks t ≡ 0
        no_rank t = ap (λ rs. rank rs t) none ∙ elim (cases_lt t (length table)) [
          | inl within ↦ get_or-replicate (length table) t 0 0 within
          | inr past ↦ get_or_past (replicate (length table) 0) t 0 (let long : length (replicate (length table) 0) ≡ length table = length-replicate {A = ℕ} (length table) 0 in omega (arith, long, past))
        ]

    -- a type is put on the empty stack
    pub stage_begun : (t : ℕ) → IsStage depth table marks ranks last [] → IsStage depth table marks ranks last (fresh t ∷ [])
    stage_begun t stage = record {
      marks_length = stage.marks_length;
      ranks_length = stage.ranks_length;
      ranked = stage.ranked;
      followed = (tt, tt);
      opened = λ u within is. elim (stage.opened u within is) [ inl some ↦ inl some | inr none ↦ absurd none ];
    }

    module _ (vs : List Visit) (t : ℕ) where
      -- a type that was entered before is settled
      module _ (stage : IsStage depth table marks ranks last (vs ++ fresh t ∷ [])) where
        entered_settled : is_entered marks t ≡ true → IsSettled table ranks t
        entered_settled is = elim (cases_lt t (length table)) [
          | inl within ↦ elim (stage.opened t within is) [
            | inl some ↦ inr some
            | inr there ↦ elim (open_split vs (fresh t ∷ []) t there) [
              | inl before ↦ absurd (let lt = open_deeper depth table ranks vs t t stage.followed before in omega (arith, lt))
              | inr itself ↦ absurd (open_fresh t t itself)
            ]
          ]
          | inr past ↦ inl past
        ]

        left_open : (u : ℕ) → IsOpen (vs ++ fresh t ∷ []) u → IsOpen vs u
        left_open u there = elim (open_split vs (fresh t ∷ []) u there) [ inl before ↦ before | inr itself ↦ absurd (open_fresh t u itself) ]

        -- and it is taken off
        pub stage_passed : is_entered marks t ≡ true → IsStage depth table marks ranks last vs
        stage_passed is = record {
          marks_length = stage.marks_length;
          ranks_length = stage.ranks_length;
          ranked = stage.ranked;
          followed = subst (AreFollowed depth table ranks) (all vs)
              (replaced depth table ranks ranks (λ u settled. settled) (fresh t ∷ []) [] (λ u there. inl (settled u there)) (λ limit below. tt) vs stage.followed tt);
          opened = λ u within marked. elim (stage.opened u within marked) [ inl some ↦ inl some | inr there ↦ inr (left_open u there) ];
        }
          where
            settled : (u : ℕ) → Stands (fresh t ∷ []) u → IsSettled table ranks u
            settled u there = elim there [ inl now ↦ subst (IsSettled table ranks) now (entered_settled is) | inr none ↦ absurd none ]

            all : (vs : List Visit) → vs ++ [] ≡ vs
            all [] = refl
            all (v ∷ vs) = ap (λ ws. v ∷ ws) (all vs)

        -- another type is entered
        pub stage_entered : is_entered marks t ≡ false
            → IsStage depth table (set marks t true) ranks last (vs ++ entered t ∷ map fresh (parts (info table t)))
        stage_entered is = record {
          marks_length = length-set marks t true ∙ stage.marks_length;
          ranks_length = stage.ranks_length;
          ranked = stage.ranked;
          followed =
              replaced depth table ranks ranks (λ u settled. settled) (fresh t ∷ []) new there below vs stage.followed
              ((λ part has. inr (stands_fresh (parts (info table t)) part has), less), followed_fresh depth table ranks (parts (info table t)));
          opened = open_now;
        }
          where
            new : List Visit
            new = entered t ∷ map fresh (parts (info table t))

            less : AreBelow depth (depth t) (map fresh (parts (info table t)))
            less = below_fresh depth (depth t) (parts (info table t)) (λ part has. are t part has)

            there : (u : ℕ) → Stands (fresh t ∷ []) u → IsSettled table ranks u ⊎ Stands new u
            there u stands = elim stands [ inl now ↦ inr (inl now) | inr none ↦ absurd none ]

            below : (limit : ℕ) → AreBelow depth limit (fresh t ∷ []) → AreBelow depth limit new
            below limit one = (one.0, below_more depth (depth t) limit (map fresh (parts (info table t))) one.0 less)

            open_now : (u : ℕ) → u < length table → is_entered (set marks t true) u ≡ true → (0 < rank ranks u) ⊎ IsOpen (vs ++ new) u
            open_now u within marked = elim (cases_eq u t) [
              | inl same ↦ inr (open_right vs new u (inl (sym same, refl)))
              | inr other ↦ elim (stage.opened u within (sym (get_or-set_other marks t u true true other) ∙ marked)) [
                | inl some ↦ inl some
                | inr before ↦ inr (open_left vs new u (left_open u before))
              ]
            ]

      -- a type is left: what it is made of is settled
      module _ (stage : IsStage depth table marks ranks last (vs ++ entered t ∷ [])) where
        abbrev next : List ℕ
        next = given ranks t (suc last)

        kept : (u : ℕ) → IsSettled table ranks u → IsSettled table next u
        kept = settled_kept table ranks t (suc last)

        parts_settled : (part : ℕ) → Has (parts (info table t)) part → IsSettled table ranks part
        parts_settled part has = elim ((followed_last depth table ranks vs (entered t ∷ []) stage.followed).0.0 part has) [
          | inl settled ↦ settled
          | inr none ↦ absurd none
        ]

        settled_now : IsSettled table next t
        settled_now = elim (cases_lt t (length table)) [
          | inl within ↦ elim (some_or_none table ranks t (suc last) (rank ranks t)) [
            | inl none ↦ inr (let is = rank_same table ranks t (suc last) (let long = stage.ranks_length in omega (arith, long, within)) none in omega (arith, is))
            | inr some ↦ kept t (inr some)
          ]
          | inr past ↦ inl past
        ]

        -- no rank so far is greater than the last one
        few : (u : ℕ) → IsSettled table ranks u → rank ranks u ≤ last
        few u settled = elim settled [
          | inl past ↦ (let none = rank_past ranks u (let long = stage.ranks_length in omega (arith, long, past)) in omega (arith, none))
          | inr some ↦ (stage.ranked u some).0
        ]

        -- what is settled keeps its rank
        same_rank : (u : ℕ) → IsSettled table ranks u → rank next u ≡ rank ranks u
        same_rank u settled = elim settled [
          | inl past ↦
              rank_past next u (let long = given_length table ranks t (suc last) in let all = stage.ranks_length in omega (arith, long, all, past))
              ∙ sym (rank_past ranks u (let long = stage.ranks_length in omega (arith, long, past)))
          | inr some ↦ rank_kept table ranks t (suc last) u some
        ]

        ranked_old : (u : ℕ) → 0 < rank ranks u → IsRanked table next (suc last) u
        ranked_old u some =
            let before = stage.ranked u some in
            let is = same_rank u (inr some) in (
              (let le = before.0 in omega (arith, is, le)),
              λ part has. (
                kept part (before.1 part has).0,
                (let part_is = same_rank part (before.1 part has).0 in let lt = (before.1 part has).1 in omega (arith, is, part_is, lt)),
              ),
            )

        ranked_new : rank next t ≡ suc last → IsRanked table next (suc last) t
        ranked_new is = (
          omega (arith, is),
          λ part has. (
            kept part (parts_settled part has),
            (let part_is = same_rank part (parts_settled part has) in let le = few part (parts_settled part has) in omega (arith, is, part_is, le)),
          ),
        )

        ranked_now : (u : ℕ) → 0 < rank next u → IsRanked table next (suc last) u
        ranked_now u some = elim (some_or_none table ranks t (suc last) (rank ranks u)) [
          | inr before ↦ ranked_old u before
          | inl none ↦ elim (cases_eq u t) [
            | inr other ↦ absurd (let is = rank_other table ranks t (suc last) u other in omega (arith, is, none, some))
            | inl same ↦ elim (cases_lt u (length table)) [
              | inr past ↦ absurd (let is = same_rank u (inl past) in omega (arith, is, none, some))
              | inl within ↦
                  subst (IsRanked table next (suc last)) (sym same)
                  (ranked_new (rank_same table ranks t (suc last) (let long = stage.ranks_length in omega (arith, long, within, same)) (subst (λ w. rank ranks w ≡ 0) same none)))
            ]
          ]
        ]

        pub stage_left : IsStage depth table marks next (suc last) vs
        stage_left = record {
          marks_length = stage.marks_length;
          ranks_length = given_length table ranks t (suc last) ∙ stage.ranks_length;
          ranked = ranked_now;
          followed = subst (AreFollowed depth table next) (all vs)
              (replaced depth table ranks next kept (entered t ∷ []) [] (λ u there. inl (settled u there)) (λ limit below. tt) vs stage.followed tt);
          opened = open_now;
        }
          where
            settled : (u : ℕ) → Stands (entered t ∷ []) u → IsSettled table next u
            settled u there = elim there [ inl now ↦ subst (IsSettled table next) now settled_now | inr none ↦ absurd none ]

            all : (vs : List Visit) → vs ++ [] ≡ vs
            all [] = refl
            all (v ∷ vs) = ap (λ ws. v ∷ ws) (all vs)

            some_rank : (u : ℕ) → u < length table → IsSettled table next u → 0 < rank next u
            some_rank u within settled = elim settled [ inl past ↦ absurd (omega (arith, past, within)) | inr some ↦ some ]

            open_now : (u : ℕ) → u < length table → is_entered marks u ≡ true → (0 < rank next u) ⊎ IsOpen vs u
            open_now u within marked = elim (stage.opened u within marked) [
              | inl some ↦ inl (some_rank u within (kept u (inr some)))
              | inr there ↦ elim (open_split vs (entered t ∷ []) u there) [
                | inl before ↦ inr before
                | inr itself ↦ elim itself [
                  | inl now ↦ inl (some_rank u within (subst (IsSettled table next) now.0 settled_now))
                  | inr none ↦ absurd none
                ]
              ]
            ]

    -- ---- at the end

    no_parts : (t part : ℕ) → length table ≤ t → Has (parts (info table t)) part → ⊥
    no_parts t part past has = subst (λ o. Has (parts (info_found o)) part) (slice_get_past table t past) has

    pub stage_last : IsStage depth table marks ranks last [] → ((t : ℕ) → t < length table → is_entered marks t ≡ true) → AreRanks table (rank ranks)
    stage_last stage all t part has = elim (cases_lt t (length table)) [
      | inr past ↦ absurd (no_parts t part past has)
      | inl within ↦ elim (stage.opened t within (all t within)) [
        | inl some ↦ ((stage.ranked t some).1 part has).1
        | inr none ↦ absurd none
      ]
    ]
