-- Sibling chains of set records: which list of sets a chain is, that no set stands in it twice, and what a set put behind it or taken out makes of it. Assumes nothing.
use mathlib.Core.Bool.{Bool, false, true}
use mathlib.Core.List.Memᴰ
use mathlib.Core.List.{◌++◌, List, Memᴰ, ◌∷◌, []}
use mathlib.Core.Logic.{inl, inr, ◌⊎◌, ⊎_elim}
use mathlib.Core.Path.{ap, refl, subst, sym, ◌∙◌, ◌≡◌}
use Prim.Native.Nat.{◌-◌, ◌<◌, suc, zero, ℕ, ◌≤◌}
use native.Mathlib.Numerals.{sub-one}
use native.Mathlib.Omega.{arith}
use lib.Dec.{eqb, ltb}
use lib.ListN.{length}
use borrow.Author.Tests.{eq-eqb, le-ltb, lt-ltb, ne_eqb}
use Rattle.base.specs.Count.{count, count_le, count_upd_false}
use Rattle.base.specs.Logic.{same?, test?}
use Rattle.base.specs.Update.{upd, upd_keeps, upd_other, upd_same}
use Rattle.rules.proofs.Steps.WriterSteps.{NoDup, mem?}
use Rattle.rules.specs.Rules.{count_in}
use Rattle.rules.specs.Sets.{link_behind, link_last, link_past, unlink_set, with_first_child, with_next_sibling}
use Rattle.rules.specs.State.{SetRecord, chain, children_of}
use Rattle.rules.specs.Trees.{without}

-- LISTS OF NUMBERS
-- a list without repetition whose members are below n and pass f is no longer than those that pass
few : (f : ℕ → Bool) (n : ℕ) (xs : List ℕ) → NoDup xs → ((x : ℕ) → Memᴰ x xs → (x < n) × (f x ≡ true)) → length xs ≤ count n f
few f n [] d h = omega arith
few f n (x ∷ xs) d h =
    let q = h x (Memᴰ.head refl) in
    let e = count_upd_false n f x q.0 q.1 in
    let r = few (upd f x false) n xs d.1
    (λ y m. ((h y (Memᴰ.tail m)).0, upd_other f x false y (λ e. d.0 (Memᴰ.cast e m)) ∙ (h y (Memᴰ.tail m)).1)) in
    omega arith

pub few_below : (n : ℕ) (xs : List ℕ) → NoDup xs → ((x : ℕ) → Memᴰ x xs → x < n) → length xs ≤ n
few_below n xs d h = let r = few (λ x. true) n xs d (λ x m. (h x m, refl)) in let c = count_le n (λ x. true) in omega arith

-- how often c stands in a list
count_out : (c : ℕ) (xs : List ℕ) → (Memᴰ c xs → ⊥) → count_in xs (λ x. eqb c x) ≡ 0
unfolding count_in
count_out c [] h = refl
count_out c (x ∷ xs) h = rw (ne_eqb c x (λ e. h (Memᴰ.head e)), count_out c xs (λ m. h (Memᴰ.tail m)))

pub count_once : (c : ℕ) (xs : List ℕ) → NoDup xs → Memᴰ c xs → count_in xs (λ x. eqb c x) ≡ 1
unfolding count_in
count_once c [] d m = elim m [ ]
count_once c (x ∷ xs) d m =
    same? c x
    (λ e. rw (eq-eqb c x e, count_out c xs (λ k. d.0 (Memᴰ.cast (sym e) k))))
    (λ n. rw (ne_eqb c x n, count_once c xs d.1 (⊎_elim (λ e. absurd (n e)) (λ k. k) (Memᴰ.cases_cons m))))

pub count_mem : (c : ℕ) (xs : List ℕ) → count_in xs (λ x. eqb c x) ≡ 1 → Memᴰ c xs
count_mem c xs h = ⊎_elim (λ m. m) (λ o. let z = count_out c xs o in absurd (omega arith)) (mem? c xs)

-- a list without one that does not stand in it, and its length
pub without_out : (c : ℕ) (xs : List ℕ) → (Memᴰ c xs → ⊥) → without c xs ≡ xs
unfolding without
without_out c [] h = refl
without_out c (x ∷ xs) h = rw (ne_eqb c x (λ e. h (Memᴰ.head e)), without_out c xs (λ m. h (Memᴰ.tail m)))

pub without_length : (c : ℕ) (xs : List ℕ) → length (without c xs) ≤ length xs
unfolding without
without_length c [] = omega arith
without_length c (x ∷ xs) =
    let r = without_length c xs in
    test? (eqb c x) (λ e. rw e (omega arith)) (λ e. rw e (omega arith))

-- CHAINS
-- the list is the whole chain from k on: "8 means none"
abbrev pub Follows : (ℕ → SetRecord) → List ℕ → ℕ → Type 0
Follows sets [] k = k ≡ 8
Follows sets (x ∷ xs) k = (k ≡ x) × (x < 8) × Follows sets xs (sets x).next_sibling

module _ (sets : ℕ → SetRecord) where
  -- a chain that begins at no set; one that is not followed at all; one set of it, and the rest
  pub chain_past : (n k : ℕ) → 8 ≤ k → chain sets n k ≡ []
  unfolding chain
  chain_past zero k h = refl
  chain_past (suc n) k h = rw (le-ltb k 8 h)

  pub chain_zero : (n k : ℕ) → n ≡ 0 → chain sets n k ≡ []
  unfolding chain
  chain_zero zero k e = refl
  chain_zero (suc n) k e = absurd (omega arith)

  pub chain_more : (n k : ℕ) → 0 < n → k < 8 → chain sets n k ≡ k ∷ chain sets (n - 1) (sets k).next_sibling
  unfolding chain
  chain_more zero k h l = absurd (omega arith)
  chain_more (suc n) k h l = rw (lt-ltb k 8 l, sub-one)

  length_chain : (n k : ℕ) → length (chain sets n k) ≤ n
  unfolding chain
  length_chain zero k = omega arith
  length_chain (suc n) k =
      let r = length_chain n (sets k).next_sibling in
      test? (ltb k 8) (λ e. rw e (omega arith)) (λ e. rw e (omega arith))

  -- n sets are enough for the chain
  chain_is : (xs : List ℕ) (n k : ℕ) → length xs ≤ n → Follows sets xs k → chain sets n k ≡ xs
  unfolding chain
  chain_is [] zero k l f = refl
  chain_is [] (suc n) k l f = rw f
  chain_is (x ∷ xs) zero k l f = absurd (omega arith)
  chain_is (x ∷ xs) (suc n) k l f = rw (f.0, lt-ltb x 8 f.1, chain_is xs n (sets x).next_sibling (omega arith) f.2)

  follows_same : (xs ys : List ℕ) (k : ℕ) → Follows sets xs k → Follows sets ys k → xs ≡ ys
  follows_same [] [] k f g = refl
  follows_same [] (y ∷ ys) k f g = absurd (omega arith)
  follows_same (x ∷ xs) [] k f g = absurd (omega arith)
  follows_same (x ∷ xs) (y ∷ ys) k f g =
      let e : x ≡ y = sym f.0 ∙ g.0 in
      let r : xs ≡ ys = follows_same xs ys (sets x).next_sibling f.2 (rw e g.2) in
      cc

  -- the chain behind one of its sets
  follows_rest : (xs : List ℕ) (k x : ℕ) → Follows sets xs k → Memᴰ x xs → (ys : List ℕ) × Follows sets ys (sets x).next_sibling × (length ys < length xs)
  follows_rest [] k x f m = elim m [ ]
  follows_rest (y ∷ ys) k x f m =
      ⊎_elim
      (λ e. (ys, rw e f.2, omega arith))
      (λ m. let r = follows_rest ys (sets y).next_sibling x f.2 m in (r.0, r.1, let l = r.2 in omega arith))
      (Memᴰ.cases_cons m)

  -- a chain that ends has no set twice
  pub follows_once : (xs : List ℕ) (k : ℕ) → Follows sets xs k → NoDup xs
  follows_once [] k f = tt
  follows_once (x ∷ xs) k f = (
    λ m. let r = follows_rest xs (sets x).next_sibling x f.2 m in
        let e : length r.0 ≡ length xs = ap length (follows_same r.0 xs (sets x).next_sibling r.1 f.2) in
        let l = r.2 in omega arith,
    follows_once xs (sets x).next_sibling f.2,
  )

  -- what follows a set of the chain: none, or another of them
  pub follows_next : (xs : List ℕ) (k x : ℕ) → Follows sets xs k → Memᴰ x xs → ((sets x).next_sibling ≡ 8) ⊎ Memᴰ (sets x).next_sibling xs
  follows_next [] k x f m = elim m [ ]
  follows_next (y ∷ ys) k x f m =
      ⊎_elim
      (λ e. subst (λ z. ((sets z).next_sibling ≡ 8) ⊎ Memᴰ (sets z).next_sibling (y ∷ ys)) (sym e) (go ys f.2))
      (λ m. ⊎_elim (λ q. inl q) (λ q. inr (Memᴰ.tail q)) (follows_next ys (sets y).next_sibling x f.2 m))
      (Memᴰ.cases_cons m)
    where
      go : (zs : List ℕ) → Follows sets zs (sets y).next_sibling → ((sets y).next_sibling ≡ 8) ⊎ Memᴰ (sets y).next_sibling (y ∷ zs)
      go [] f = inl f
      go (z ∷ zs) f = inr (Memᴰ.tail (Memᴰ.head f.0))

  -- links that are changed elsewhere
  pub follows_frame : (sets' : ℕ → SetRecord) (xs : List ℕ) (k : ℕ) → ((x : ℕ) → Memᴰ x xs → (sets' x).next_sibling ≡ (sets x).next_sibling) → Follows sets xs k → Follows sets' xs k
  follows_frame sets' [] k h f = f
  follows_frame sets' (x ∷ xs) k h f =
      (f.0, f.1, rw (h x (Memᴰ.head refl)) (follows_frame sets' xs (sets x).next_sibling (λ y m. h y (Memᴰ.tail m)) f.2))

  -- the children of a set are the chain of its first child
  pub children_are : (s : ℕ) (xs : List ℕ) → (sets s).used ≡ true → length xs ≤ 8 → Follows sets xs (sets s).first_child → children_of sets s ≡ xs
  unfolding children_of
  children_are s xs u l f = rw (u, chain_is xs 8 (sets s).first_child l f)

  pub children_none : (s : ℕ) → (sets s).used ≡ false → children_of sets s ≡ []
  unfolding children_of
  children_none s u = rw u

  pub children_length : (s : ℕ) → length (children_of sets s) ≤ 8
  unfolding children_of
  children_length s = test? (sets s).used (λ e. rw e (length_chain 8 (sets s).first_child)) (λ e. rw e (omega arith))

  pub children_used : (s c : ℕ) → Memᴰ c (children_of sets s) → (sets s).used ≡ true
  children_used s c m = test? (sets s).used (λ e. e) (λ e. elim (subst (λ l. Memᴰ c l) (children_none s e) m) [ ])

  -- BEHIND THE LAST: set c, with no sibling, behind the chain that goes on from x with xs
  behind_other : (c x : ℕ) (xs : List ℕ) (z : ℕ) → (Memᴰ z (x ∷ xs) → ⊥) → link_behind c x xs sets z ≡ sets z
  unfolding link_behind
  behind_other c x [] z n = upd_other sets x _ z (λ e. n (Memᴰ.head (sym e)))
  behind_other c x (y ∷ ys) z n = behind_other c y ys z (λ m. n (Memᴰ.tail m))

  behind_follows : (c x : ℕ) (xs : List ℕ) → c < 8 → (sets c).next_sibling ≡ 8 → (Memᴰ c (x ∷ xs) → ⊥) → NoDup (x ∷ xs) → Follows sets xs (sets x).next_sibling →
      Follows (link_behind c x xs sets) (xs ++ (c ∷ [])) (link_behind c x xs sets x).next_sibling
  unfolding link_behind
  behind_follows c x [] l e n d f = (
    ap (λ (r : SetRecord). r.next_sibling) (upd_same sets x _),
    l,
    ap (λ (r : SetRecord). r.next_sibling) (upd_other sets x _ c (λ q. n (Memᴰ.head (sym q)))) ∙ e,
  )
  behind_follows c x (y ∷ ys) l e n d f =
      (ap (λ (r : SetRecord). r.next_sibling) (behind_other c y ys x d.0) ∙ f.0, f.1, behind_follows c y ys l e (λ m. n (Memᴰ.tail m)) d.1 f.2)

  -- what a set keeps when it gets another link
  module _ {A : Type 0} (g : SetRecord → A) (c : ℕ) (hs : (r : SetRecord) → g (with_next_sibling r c) ≡ g r) where
    behind_keeps : (x : ℕ) (xs : List ℕ) (z : ℕ) → g (link_behind c x xs sets z) ≡ g (sets z)
    unfolding link_behind
    behind_keeps x [] z = upd_keeps g sets x _ (hs (sets x)) z
    behind_keeps x (y ∷ ys) z = behind_keeps y ys z

    pub last_keeps : (s : ℕ) (xs : List ℕ) (z : ℕ) → ((r : SetRecord) → g (with_first_child r c) ≡ g r) → g (link_last c s xs sets z) ≡ g (sets z)
    unfolding link_last
    last_keeps s [] z hf = upd_keeps g sets s _ (hf (sets s)) z
    last_keeps s (x ∷ xs) z hf = behind_keeps x xs z

  -- set c as the last of the children xs of s
  pub last_other : (c s : ℕ) (xs : List ℕ) (z : ℕ) → (s ≡ z → ⊥) → (Memᴰ z xs → ⊥) → link_last c s xs sets z ≡ sets z
  unfolding link_last
  last_other c s [] z n m = upd_other sets s _ z n
  last_other c s (x ∷ xs) z n m = behind_other c x xs z m

  pub last_sibling : (c s : ℕ) (xs : List ℕ) (z : ℕ) → (Memᴰ z xs → ⊥) → (link_last c s xs sets z).next_sibling ≡ (sets z).next_sibling
  unfolding link_last
  last_sibling c s [] z m = upd_keeps (λ (r : SetRecord). r.next_sibling) sets s _ refl z
  last_sibling c s (x ∷ xs) z m = ap (λ (r : SetRecord). r.next_sibling) (behind_other c x xs z m)

  pub last_first : (c s : ℕ) (xs : List ℕ) (z : ℕ) → (s ≡ z → ⊥) → (link_last c s xs sets z).first_child ≡ (sets z).first_child
  unfolding link_last
  last_first c s [] z n = ap (λ (r : SetRecord). r.first_child) (upd_other sets s _ z n)
  last_first c s (x ∷ xs) z n = behind_keeps (λ r. r.first_child) c (λ r. refl) x xs z

  pub last_follows : (c s : ℕ) (xs : List ℕ) → c < 8 → (sets c).next_sibling ≡ 8 → (s ≡ c → ⊥) → (Memᴰ c xs → ⊥) → (Memᴰ s xs → ⊥) → Follows sets xs (sets s).first_child →
      Follows (link_last c s xs sets) (xs ++ (c ∷ [])) (link_last c s xs sets s).first_child
  unfolding link_last
  last_follows c s [] l e n m o f =
      (ap (λ (r : SetRecord). r.first_child) (upd_same sets s _), l, ap (λ (r : SetRecord). r.next_sibling) (upd_other sets s _ c n) ∙ e)
  last_follows c s (x ∷ xs) l e n m o f = (
    ap (λ (r : SetRecord). r.first_child) (behind_other c x xs s o) ∙ f.0,
    f.1,
    behind_follows c x xs l e m (follows_once (x ∷ xs) (sets s).first_child f) f.2,
  )

  -- TAKEN OUT: every link to set c leads to the sibling after it
  pub unlink_other : (c x : ℕ) → (c ≡ x → ⊥) →
      unlink_set c sets x ≡ with_next_sibling (with_first_child (sets x) (link_past sets c (sets x).first_child)) (link_past sets c (sets x).next_sibling)
  unfolding unlink_set
  unlink_other c x n = rw (ne_eqb c x n)

  follows_not : (c : ℕ) (xs : List ℕ) (k : ℕ) → c < 8 → (Memᴰ c xs → ⊥) → Follows sets xs k → c ≡ k → ⊥
  follows_not c [] k l n f e = omega arith
  follows_not c (x ∷ xs) k l n f e = n (Memᴰ.head (e ∙ f.0))

  pub unlink_follows : (c : ℕ) (xs : List ℕ) (k : ℕ) → c < 8 → NoDup xs → Follows sets xs k → Follows (unlink_set c sets) (without c xs) (link_past sets c k)
  unfolding without
  unlink_follows c [] k l d f = rw (f, ne_eqb c 8 (λ e. omega arith))
  unlink_follows c (x ∷ xs) k l d f =
      let r = unlink_follows c xs (sets x).next_sibling l d.1 f.2 in
      same? c x
      (λ e. let o = ne_eqb c (sets x).next_sibling (follows_not c xs (sets x).next_sibling l (λ m. d.0 (Memᴰ.cast (sym e) m)) f.2) in
      let r' : Follows (unlink_set c sets) (without c xs) (sets x).next_sibling = rw o at r in
      let q : (sets x).next_sibling ≡ (sets c).next_sibling = ap (λ y. (sets y).next_sibling) (sym e) in
      rw (eq-eqb c x e, eq-eqb c k (e ∙ sym f.0), ← q) r')
      (λ n. let q : (unlink_set c sets x).next_sibling ≡ link_past sets c (sets x).next_sibling = ap (λ (z : SetRecord). z.next_sibling) (unlink_other c x n) in
      rw (f.0, ne_eqb c x n) (refl, f.1, subst (Follows (unlink_set c sets) (without c xs)) (sym q) r))
