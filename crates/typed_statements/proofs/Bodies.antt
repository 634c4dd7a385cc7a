-- Subprograms after others.
use Rattle.std.proofs.Common.{◌≡◌, ℕ, ◌+◌, ◌<◌, List, [], ◌∷◌, ◌++◌, map, length, refl, sym, ap, ◌∙◌, arith, append_assoc}
use Rattle.std.specs.List.{All as Each}
use Rattle.std.proofs.lemmas.List.Elements.{All-head, All-tail, All-push, All-weaker}
use Rattle.spark_base.specs.declared.position.Pos.{Pos}
use Rattle.resolved_tree.specs.Trees.{Code, More, SubBody}
use Rattle.typed_tree.specs.Nodes.{TypedNodes, Grew}
use Rattle.typed_tree.specs.Expressions.{Site}
use Rattle.typed_tree.specs.Statements.{scope_count}
use Rattle.typed_tree.specs.Programs.{TypedSub, subs_in, typed_sub}
use Rattle.typed_statements.specs.declared.subs.Subprogram.{Subprogram}
use Rattle.typed_statements.specs.Bodies.{sub_at, HoldsSub, HoldsSubs}

map_end : (f : Subprogram → TypedSub) (bodies : List Subprogram) (b : Subprogram) → map f (bodies ++ b ∷ []) ≡ map f bodies ++ f b ∷ []
map_end f [] b = refl
map_end f (a ∷ rest) b = ap (λ ts. f a ∷ ts) (map_end f rest b)

-- The bodies that were there are still there.
subs_kept : (before now : TypedNodes) (bodies : List Subprogram) → Grew before now → Each (λ b. b.body < length before.1) bodies
    → map (sub_at now) bodies ≡ map (sub_at before) bodies
subs_kept before now [] g all = refl
subs_kept before now (b ∷ rest) g all =
    ap (λ c. record { pos = b.pos; end = b.end; formals = b.formals; result = b.result; body = c } ∷ map (sub_at now) rest)
    (g.same_code b.body (All-head (λ b. b.body < length before.1) b rest all))
    ∙ ap (λ ts. sub_at before b ∷ ts) (subs_kept before now rest g (All-tail (λ b. b.body < length before.1) b rest all))

pub put_sub : (before now : TypedNodes) (bodies : List Subprogram) (b : Subprogram) (t : TypedSub) → Grew before now
    → Each (λ b. b.body < length before.1) bodies → HoldsSub now b t
    → HoldsSubs now (bodies ++ b ∷ []) (map (sub_at before) bodies ++ t ∷ [])
put_sub before now bodies b t g within one = (
  All-push (λ b. b.body < length now.1) bodies b
      (All-weaker (λ b. b.body < length before.1) (λ b. b.body < length now.1) (λ b lt. omega (arith, lt, g.more_code)) bodies within) one.0,
  map_end (sub_at now) bodies b ∙ ap (λ ts. ts ++ sub_at now b ∷ []) (subs_kept before now bodies g within)
      ∙ ap (λ t. map (sub_at before) bodies ++ t ∷ []) one.1,
)

-- The first of a list, and those after it.
pub subs_step : (s : Site) (n m : ℕ) (list a rest : Code) (made more all : List TypedSub) → list ≡ More a rest → m ≡ n + scope_count a
    → made ++ subs_in s n list ≡ all → more ≡ made ++ subs_in s n a → more ++ subs_in s m rest ≡ all
unfolding subs_in
subs_step s n m list a rest made more all is next before now =
    rw now (rw next (append_assoc made (subs_in s n a) (subs_in s (n + scope_count a) rest)
    ∙ ap (λ c. made ++ subs_in s n c) (sym is) ∙ before))

-- A body is all that its code means.
pub put_body : (before now : TypedNodes) (bodies more : List Subprogram) (b : Subprogram) (s : Site) (n : ℕ) (code front items stmts : Code) (end : Pos)
    → more ≡ bodies ++ b ∷ [] → code ≡ SubBody front items stmts end → Grew before now
    → Each (λ b. b.body < length before.1) bodies → HoldsSub now b (typed_sub s n front items stmts end)
    → HoldsSubs now more (map (sub_at before) bodies ++ subs_in s n code)
unfolding subs_in
put_body before now bodies more b s n code front items stmts end are is g within one =
    rw are (rw is (put_sub before now bodies b (typed_sub s n front items stmts end) g within one))
