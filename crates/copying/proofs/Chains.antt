-- Loops over the children of a set, along their chain, and over pages ascending. Assumes nothing.
use mathlib.Core.Bool.{true}
use mathlib.Core.List.{List}
use mathlib.Core.Path.{ap, refl, subst, sym, ◌∙◌, ◌≡◌}
use Prim.Native.Nat.{◌+◌, ◌<◌, suc, zero, ℕ, ◌≤◌}
use native.Mathlib.Numerals.{add-one}
use borrow.Author.Tests.{le-ltb, lt-ltb}
use Rattle.copying.proofs.Settled.{settled_step}
use Rattle.copying.proofs.Steps.{going_as, going_more, going_sets, going_start}
use Rattle.copying.specs.Changes.{settled}
use Rattle.copying.specs.Work.{FirstChild, Going, Ready, Step}
use Rattle.rules.specs.Rules.{Work, each, from, settle}
use Rattle.rules.specs.State.{SetRecord, chain, children_of, tree_of}
use Rattle.rules.specs.Storage.{real}
use Rattle.tables.specs.Packed.{unpack}
use Rattle.tables.specs.Views.{Turns}
use Rattle.copying.specs.declared.giving.Counts.{Counts}

-- a turn for each set of a chain; what a turn does may depend on the sets
abbrev pub along : ((ℕ → SetRecord) → ℕ → Work real → Work real) → (ℕ → SetRecord) → ℕ → ℕ → Work real → Work real
along g sets n c = each (g sets) (chain sets n c)

-- and for each child of set s
abbrev pub over_children : ((ℕ → SetRecord) → ℕ → Work real → Work real) → (ℕ → SetRecord) → ℕ → Work real → Work real
over_children g sets s = each (g sets) (children_of sets s)

-- LAW: the children of set s are the chain from its first child on
pub children_are : (sets : ℕ → SetRecord) (s c : ℕ) → FirstChild sets s c → children_of sets s ≡ chain sets 8 c
unfolding children_of
children_are sets s c h = rw (h.used, h.first)

module _ (g : (ℕ → SetRecord) → ℕ → Work real → Work real) (sets : ℕ → SetRecord) where
  -- the first of n sets, and the m behind it
  pub chain_more : (n m c : ℕ) → n ≡ m + 1 → c < 8 → (w : Work real) → along g sets n c w ≡ along g sets m (sets c).next_sibling (g sets c w)
  unfolding chain each
  chain_more n m c h l w = rw (h, add-one, lt-ltb c 8 l)

  -- the chain ends
  pub chain_end : (n c : ℕ) → 8 ≤ c → (w : Work real) → along g sets n c w ≡ w
  unfolding chain each
  chain_end zero c l w = refl
  chain_end (suc n) c l w = rw (le-ltb c 8 l)

  -- all eight sets have had their turn
  pub chain_out : (n c : ℕ) → n ≡ 0 → (w : Work real) → along g sets n c w ≡ w
  unfolding chain each
  chain_out n c e w = rw e

  children_chain : (s c : ℕ) → (sets s).used ≡ true → c ≡ (sets s).first_child → (w : Work real) → over_children g sets s w ≡ along g sets 8 c w
  children_chain s c u e w = ap (λ (cs : List ℕ). each (g sets) cs w) (children_are sets s c (record { used = u; first = e }))

module _ (g : (ℕ → SetRecord) → ℕ → Work real → Work real) where
  -- LAW: the loop starts at the first child
  pub chain_start : {t p : List ℕ} {f : ℕ} {k : Counts} (s c : ℕ) → ((unpack t).sets s).used ≡ true → c ≡ ((unpack t).sets s).first_child → Ready t p f k
      → Going t p t p f k k (over_children g (unpack t).sets s) (along g (unpack t).sets 8 c)
  chain_start {t} s c u e re = going_as (going_start (over_children g (unpack t).sets s) re) (along g (unpack t).sets 8 c) (children_chain g (unpack t).sets s c u e)

  -- LAW: a turn, and on to the next sibling
  pub chain_turn : {t₀ p₀ t p t' p' : List ℕ} {f : ℕ} {k₀ k k' : Counts} {op : Work real → Work real} (n m c c' : ℕ)
      → Going t₀ p₀ t p f k₀ k op (along g (unpack t₀).sets n c) → n ≡ m + 1 → c < 8 → Step t p t' p' f k k' (g (unpack t).sets c) → c' ≡ ((unpack t').sets c).next_sibling
      → Going t₀ p₀ t' p' f k₀ k' op (along g (unpack t₀).sets m c')
  chain_turn {t₀} {p₀} {t} {p} {t'} {p'} {f} {k₀} {k} {k'} {op} n m c c' a h l x e =
      let sets₀ = (unpack t₀).sets in
      let x' = subst (λ (y : ℕ → SetRecord). Step t p t' p' f k k' (g y c)) (going_sets a) x in
      let b = going_more a (along g sets₀ m (sets₀ c).next_sibling) (chain_more g sets₀ n m c h l) x' in
      subst (λ y. Going t₀ p₀ t' p' f k₀ k' op (along g sets₀ m y)) (sym (e ∙ ap (λ (y : ℕ → SetRecord). (y c).next_sibling) (going_sets b))) b

-- ---- the tables alone

-- a loop that changes the tables alone: whatever the pages and the counts
abbrev pub AloneGoing : List ℕ → List ℕ → ℕ → (Work real → Work real) → (Work real → Work real) → Type 0
AloneGoing t₀ t f op todo = (p : List ℕ) (k : Counts) → Ready t₀ p f k → Going t₀ p t p f k k op todo

-- step 2, by the sets
abbrev pub settling : (ℕ → SetRecord) → ℕ → Work real → Work real
settling sets = settle real (tree_of sets)

-- LAW: a child settled, and on to the next
pub settling_turn : {t₀ t t' : List ℕ} {op : Work real → Work real} (f n m c c' : ℕ) → AloneGoing t₀ t f op (along settling (unpack t₀).sets n c) → n ≡ m + 1 → c < 8
    → Turns t t' (settled f c) → c' ≡ ((unpack t').sets c).next_sibling → AloneGoing t₀ t' f op (along settling (unpack t₀).sets m c')
settling_turn f n m c c' a h l u e p k re = chain_turn settling n m c c' (a p k re) h l (settled_step c (a p k re).ready u) e

-- ---- pages ascending

-- what is left of a list of pages
abbrev pub up_pages : ((ℕ → SetRecord) → ℕ → Work real → Work real) → (ℕ → SetRecord) → ℕ → ℕ → Work real → Work real
up_pages g sets q n = each (g sets) (from q n)

module _ (g : (ℕ → SetRecord) → ℕ → Work real → Work real) where
  -- the first of n pages, and the m behind it
  pub pages_more : (sets : ℕ → SetRecord) (n m q : ℕ) → n ≡ m + 1 → (w : Work real) → up_pages g sets q n w ≡ up_pages g sets (q + 1) m (g sets q w)
  unfolding each from
  pages_more sets n m q h w = rw (h, add-one m, add-one q)

  pub pages_out : (sets : ℕ → SetRecord) (n q : ℕ) → n ≡ 0 → (w : Work real) → up_pages g sets q n w ≡ w
  unfolding each from
  pages_out sets n q e w = rw e

  -- LAW: a page's turn, and on to the next; x is the page's number
  pub pages_turn : {t₀ p₀ t p t' p' : List ℕ} {f : ℕ} {k₀ k k' : Counts} {op : Work real → Work real} (q n m x : ℕ) → Going t₀ p₀ t p f k₀ k op (up_pages g (unpack t₀).sets q n) → n ≡ m + 1
      → x ≡ q → Step t p t' p' f k k' (g (unpack t).sets x) → Going t₀ p₀ t' p' f k₀ k' op (up_pages g (unpack t₀).sets (q + 1) m)
  pages_turn {t₀} {p₀} {t} {p} {t'} {p'} {f} {k₀} {k} {k'} {op} q n m x a h e s =
      let y : Step t p t' p' f k k' (g (unpack t).sets q) = subst (λ z. Step t p t' p' f k k' (g (unpack t).sets z)) e s in
      going_more a (up_pages g (unpack t₀).sets (q + 1) m) (pages_more (unpack t₀).sets n m q h)
      (subst (λ (z : ℕ → SetRecord). Step t p t' p' f k k' (g z q)) (going_sets a) y)
