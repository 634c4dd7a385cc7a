-- A worklist finds exactly the labels that reach each node.
use Rattle.std.proofs.Common.{◌≡◌, refl, sym, subst, ◌⊎◌, inl, inr, ℕ, true, List, [], ◌∷◌}
use Rattle.spark_base.specs.Lists.{Has}
use Rattle.label_flow.specs.Flows.{Flow, Reaches, starts, moves, Brings}
use Rattle.label_flow.specs.Searches.{Searched, Turning, Carried}
use Rattle.label_flow.proofs.Paths.{brings_reaches, reaches_brings}

-- the work begins with each node that has a label from the start
pub search_begins : {Label : Type 0} (flow : Flow Label) (labels : ℕ → Label → Type 0) (work : List ℕ)
    → ((a : ℕ) (k : Label) → labels a k → flow.first a k ≡ true)
    → ((a : ℕ) (k : Label) → flow.first a k ≡ true → labels a k)
    → ((a : ℕ) (k : Label) → labels a k → Has work a)
    → Searched flow labels work
search_begins flow labels work only all works = record {
  sound = λ a k m. starts a k (only a k m);
  start = all;
  closed = λ a b k m edge. inl (works a k m);
}

-- the order of the work says nothing
pub search_order : {Label : Type 0} (flow : Flow Label) (labels : ℕ → Label → Type 0) (work work' : List ℕ)
    → ((a : ℕ) → Has work a → Has work' a) → Searched flow labels work → Searched flow labels work'
search_order flow labels work work' all s = record {
  sound = s.sound;
  start = s.start;
  closed = λ a b k m edge. elim (s.closed a b k m edge) [ inl h ↦ inl (all a h) | inr done ↦ inr done ];
}

pub turn_begins : {Label : Type 0} (flow : Flow Label) (p : ℕ) (labels : ℕ → Label → Type 0) (work : List ℕ)
    → Searched flow labels (p ∷ work) → Turning flow p (labels p) (flow.next p) labels work
turn_begins flow p labels work s = record {
  sound = s.sound;
  start = s.start;
  taken = s.sound p;
  known = λ k m. inl m;
  edges = λ b h. h;
  closed = λ a b k m edge. elim (s.closed a b k m edge) [
    | inl h ↦ elim h [
      | inl e ↦ inr (inl (sym e, subst (λ t. Has (flow.next t) b) (sym e) edge))
      | inr h ↦ inl h
    ]
    | inr done ↦ inr (inr done)
  ];
}

-- the edge from p to q is done, for a label that p has
carried_edge : {Label : Type 0} (flow : Flow Label) (p q a b : ℕ) (now : Label → Type 0) (old new : ℕ → Label → Type 0)
    (work work' rest : List ℕ) (k : Label) → Carried flow p q now old new work work' → a ≡ p → q ≡ b
    → now k ⊎ Has work p → Has work' a ⊎ (((a ≡ p) × Has rest b) ⊎ new b (flow.move a k))
carried_edge flow p q a b now old new work work' rest k c same here known = elim known [
  | inl n ↦ inr (inr (subst (λ t. new t (flow.move a k)) here (subst (λ t. new q (flow.move t k)) (sym same) (c.comes k n))))
  | inr h ↦ inl (subst (Has work') (sym same) (c.works p h))
]

pub turn_goes_on : {Label : Type 0} (flow : Flow Label) (p q : ℕ) (now : Label → Type 0) (rest : List ℕ)
    (old new : ℕ → Label → Type 0) (work work' : List ℕ) → Turning flow p now (q ∷ rest) old work
    → Carried flow p q now old new work work' → Turning flow p now rest new work'
turn_goes_on flow p q now rest old new work work' t c = record {
  sound = λ a k m. elim (c.only a k m) [
    | inl m ↦ t.sound a k m
    | inr h ↦ subst (λ x. Reaches flow x k) (sym h.0) (subst (Reaches flow q) h.1.2
        (moves p q h.1.0 (t.taken h.1.0 h.1.1) (t.edges q (inl refl))))
  ];
  start = λ a k s. c.keeps a k (t.start a k s);
  taken = t.taken;
  known = λ k m. elim (c.pushed p k m) [
    | inl m ↦ elim (t.known k m) [ inl n ↦ inl n | inr h ↦ inr (c.works p h) ]
    | inr h ↦ inr h
  ];
  edges = λ b h. t.edges b (inr h);
  closed = λ a b k m edge. elim (c.pushed a k m) [
    | inr h ↦ inl h
    | inl m ↦ elim (t.closed a b k m edge) [
      | inl h ↦ inl (c.works a h)
      | inr h ↦ elim h [
        | inl r ↦ elim (r.1) [
          | inl here ↦ carried_edge flow p q a b now old new work work' rest k c r.0 here
              (t.known k (subst (λ x. old x k) r.0 m))
          | inr later ↦ inr (inl (r.0, later))
        ]
        | inr done ↦ inr (inr (c.keeps b (flow.move a k) done))
      ]
    ]
  ];
}

pub turn_ends : {Label : Type 0} (flow : Flow Label) (p : ℕ) (now : Label → Type 0) (labels : ℕ → Label → Type 0) (work : List ℕ)
    → Turning flow p now [] labels work → Searched flow labels work
turn_ends flow p now labels work t = record {
  sound = t.sound;
  start = t.start;
  closed = λ a b k m edge. elim (t.closed a b k m edge) [
    | inl h ↦ inl h
    | inr h ↦ elim h [ inl r ↦ absurd r.1 | inr done ↦ inr done ]
  ];
}

-- where no work is left, each label that reaches a node was found there
pub all_found : {Label : Type 0} (flow : Flow Label) (labels : ℕ → Label → Type 0) → Searched flow labels []
    → (a : ℕ) (k : Label) → Reaches flow a k → labels a k
all_found flow labels s a' k' (starts a k first) = s.start a k first
all_found flow labels s a' k' (moves a b k before edge) = elim (s.closed a b k (all_found flow labels s a k before) edge) [
  | inl h ↦ absurd h
  | inr m ↦ m
]

-- and so what was found is what some path brings
pub found_exactly : {Label : Type 0} (flow : Flow Label) (labels : ℕ → Label → Type 0) → Searched flow labels []
    → (a : ℕ) (k : Label) → (labels a k → Brings flow a k) × (Brings flow a k → labels a k)
found_exactly flow labels s a k =
    (λ m. reaches_brings flow a k (s.sound a k m), λ b. all_found flow labels s a k (brings_reaches flow a k b))
