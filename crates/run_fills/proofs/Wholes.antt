-- Evaluations one after the other: what stands for the machine's memory, stands later.
use Rattle.std.proofs.Common.{◌≡◌, ℕ, List, [], ◌++◌, length, take, drop, get_or, refl, sym, ap, subst, ◌∙◌, ℤ, append_assoc, append-nil}
use Rattle.type_definitions.specs.Types.{Table, words}
use Rattle.machine.specs.Words.{Word}
use Rattle.machine.specs.Typed.{Sort, sorts}
use Rattle.machine.specs.Memory.{Memory, fresh}
use Rattle.machine.specs.Evaluate.{Now, Evaluated, Done, followed_by}
use Rattle.run_codes.specs.Flat.{Flat, Got, Given, Stops, Broken, Stop, Raises, Traps, Made, Failed, made_then, reads}
use Rattle.run_codes.specs.Flat as flat
use Rattle.run_codes.specs.Lowered.{words_before_value}
use Rattle.run_codes.specs.Related.{IsValue, Seen, table, here, now, types, IsSeen, Stopped, Lying, Related, AreApart, IsSited}
use Rattle.run_codes.proofs.Seeing.{seen_from}
use Rattle.run_codes.proofs.News.{all_more}
use Rattle.run_fills.specs.Filled.{IsWhole, at, IsOutside, Later, Halts, Filled}

pub seen : (e : Seen) (all : List Lying) → IsWhole e all → IsSeen e
seen e all is = seen_from e all is.laws is.related is.apart is.sited is.waits

-- ---- values of which the cells are among more

pub value_more : (table : Table) (made more : List ℕ) (all : List Sort) (ws : List Word) (zs : List ℤ) → IsValue table made all ws zs → IsValue table (made ++ more) all ws zs
value_more table made more all ws zs is =
    record { stand = all_more table made more all (fresh ws) zs is.stand; words = is.words; numbers = is.numbers }

-- ---- later memories

pub unchanged : (e : Seen) (all : List Lying) → IsWhole e all → Later e all e.memory e.flat
unchanged e all is = record { whole = is; more = []; grown = sym (append-nil (types e.memory)); long = refl; base = refl; rest = refl; elsewhere = λ c n out. refl }

-- More cells, and as many words in the stack, where those in no object are as before.
pub later_from : (e : Seen) (all : List Lying) (m : Memory) (f : Flat) (more : List ℕ) → IsWhole e all → types m ≡ types e.memory ++ more → Related e.site.typing all m f
    → length f.stack ≡ length e.flat.stack → f.base ≡ e.flat.base → f.waits ≡ e.flat.waits → f.rest ≡ e.flat.rest
    → ((c n : ℕ) → IsOutside e.site.typing all c n → take n (drop c f.stack) ≡ take n (drop c e.flat.stack)) → Later e all m f
later_from e all m f more is grown related long base waits rest elsewhere = record {
  whole = record {
    laws = is.laws;
    parts = is.parts;
    related = related;
    apart = subst (λ n. AreApart e.site.typing all n) (sym long) is.apart;
    sited = subst (λ n. IsSited e.site e.frame n all) (sym base) is.sited;
    waits = λ k t there.
        subst (λ l. IsValue (table e) (types m) (sorts (table e) t) (get_or e.waits k []) (take (words (table e) t) (drop (words_before_value e.site k) l))) (sym waits)
        (subst (λ l. IsValue (table e) l (sorts (table e) t) (get_or e.waits k []) (take (words (table e) t) (drop (words_before_value e.site k) e.flat.waits))) (sym grown)
        (value_more (table e) (types e.memory) more (sorts (table e) t) (get_or e.waits k []) (take (words (table e) t) (drop (words_before_value e.site k) e.flat.waits)) (is.waits k t there)));
  };
  more = more;
  grown = grown;
  long = long;
  base = base;
  rest = rest;
  elsewhere = elsewhere;
}

pub later_on : (e : Seen) (all : List Lying) (m n : Memory) (f g : Flat) → Later e all m f → Later (at e m f) all n g → Later e all n g
later_on e all m n f g a b = record {
  whole = b.whole;
  more = a.more ++ b.more;
  grown = b.grown ∙ ap (λ l. l ++ b.more) a.grown ∙ append_assoc (types e.memory) a.more b.more;
  long = b.long ∙ a.long;
  base = b.base ∙ a.base;
  rest = b.rest ∙ a.rest;
  elsewhere = λ c n out. b.elsewhere c n out ∙ a.elsewhere c n out;
}

pub value_later : (e : Seen) (all : List Lying) (m : Memory) (f : Flat) (want : List Sort) (ws : List Word) (zs : List ℤ) → Later e all m f
    → IsValue (table e) (types e.memory) want ws zs → IsValue (table e) (types m) want ws zs
value_later e all m f want ws zs later is =
    subst (λ l. IsValue (table e) l want ws zs) (sym later.grown) (value_more (table e) (types e.memory) later.more want ws zs is)

-- The machine goes by the same.
pub here_later : (e : Seen) (all : List Lying) (m : Memory) (f : Flat) → Later e all m f → here (at e m f) ≡ here e
here_later e all m f later = ap (λ r. record { typing = e.site.typing; frame = e.frame; rest = r }) later.rest

-- ---- stops

pub halts_by : (e : Seen) (all : List Lying) (stop : Stop) (f : Flat) (ev other : Evaluated (List Word)) → ev ≡ other → Halts e all stop f other → Halts e all stop f ev
halts_by e all (Raises x) f ev other is s = (s.0, is ∙ s.1, s.2)
halts_by e all (Traps t) f ev other is s = (s.0, is ∙ s.1, s.2)
halts_by e all flat.Memory f ev other is s = tt

pub halts_on : (e : Seen) (all : List Lying) (stop : Stop) (f : Flat) (ev : Evaluated (List Word)) (g : List Word → Now → Evaluated (List Word))
    → Halts e all stop f ev → Halts e all stop f (followed_by ev g)
halts_on e all (Raises x) f ev g s = (s.0, ap (λ y. followed_by y g) s.1, s.2)
halts_on e all (Traps t) f ev g s = (s.0, ap (λ y. followed_by y g) s.1, s.2)
halts_on e all flat.Memory f ev g s = tt

halts_later : (e : Seen) (all : List Lying) (m : Memory) (f : Flat) (stop : Stop) (g : Flat) (ev : Evaluated (List Word)) → Later e all m f
    → Halts (at e m f) all stop g ev → Halts e all stop g ev
halts_later e all m f (Raises x) g ev later s = (s.0, s.1, later_on e all m s.0.memory f g later s.2)
halts_later e all m f (Traps t) g ev later s = (s.0, s.1, later_on e all m s.0.memory f g later s.2)
halts_later e all m f flat.Memory g ev later s = tt

-- What only reads stops with the memory as it is.
pub stopped_halts : (e : Seen) (all : List Lying) (stop : Stop) (ev : Evaluated (List Word)) → IsWhole e all → Stopped e.memory stop ev → Halts e all stop e.flat ev
stopped_halts e all (Raises x) ev is s = (s.0, s.1, subst (λ m. Later e all m e.flat) (sym s.2) (unchanged e all is))
stopped_halts e all (Traps t) ev is s = (s.0, s.1, subst (λ m. Later e all m e.flat) (sym s.2) (unchanged e all is))
stopped_halts e all flat.Memory ev is s = tt

-- ---- results

pub filled_by : (e : Seen) (all : List Lying) (k : ℕ) (want : List Sort) (ev other : Evaluated (List Word)) (made : Made (List ℤ)) → ev ≡ other
    → Filled e all k want other made → Filled e all k want ev made
filled_by e all k want ev other made is s = subst (λ x. Filled e all k want x made) (sym is) s

filled_later : (e : Seen) (all : List Lying) (m : Memory) (f : Flat) (k : ℕ) (want : List Sort) (ev : Evaluated (List Word)) (made : Made (List ℤ)) → Later e all m f
    → Filled (at e m f) all k want ev made → Filled e all k want ev made
filled_later e all m f k want ev (flat.Done zs g) later s = (s.0, s.1, s.2, later_on e all m s.1 f g later s.3, s.4)
filled_later e all m f k want ev (flat.Halted stop g) later s = halts_later e all m f stop g ev later s
filled_later e all m f k want ev Failed later s = absurd s

-- One evaluation, and what is done with its value.
pub filled_then : (e : Seen) (all : List Lying) (k j : ℕ) (want other : List Sort) (ev : Evaluated (List Word)) (go : List Word → Now → Evaluated (List Word))
    (made : Made (List ℤ)) (on : List ℤ → Flat → Made (List ℤ)) → Filled e all k want ev made
    → ((ws : List Word) (zs : List ℤ) (m : Memory) (f : Flat) → Later e all m f → IsValue (table e) (types m) want ws zs
    → Filled (at e m f) all j other (go ws (now (at e m f) k)) (on zs f))
    → Filled e all j other (followed_by ev go) (made_then made on)
filled_then e all k j want other ev go (flat.Done zs f) on s next =
    filled_by e all j other (followed_by ev go) (go s.0 (now (at e s.1 f) k)) (on zs f) (ap (λ x. followed_by x go) s.2)
    (filled_later e all s.1 f j other (go s.0 (now (at e s.1 f) k)) (on zs f) s.3 (next s.0 zs s.1 f s.3 s.4))
filled_then e all k j want other ev go (flat.Halted stop f) on s next = halts_on e all stop f ev go s
filled_then e all k j want other ev go Failed on s next = absurd s

-- A value that is given with the memory as it is.
pub filled_given : (e : Seen) (all : List Lying) (k : ℕ) (want : List Sort) (ws : List Word) (zs : List ℤ) → IsWhole e all
    → IsValue (table e) (types e.memory) want ws zs → Filled e all k want (Done ws (now e k)) (flat.Done zs e.flat)
filled_given e all k want ws zs is value = (ws, e.memory, refl, unchanged e all is, value)
