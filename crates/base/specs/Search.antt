-- The first number that is not used, from a start on, going round once at most. Assumes nothing.
use Rattle.std.proofs.Math.Path.{◌≡◌, refl, ap, subst}
use Rattle.std.proofs.Common.{sym, ◌∙◌, mod-lt}
use Rattle.std.specs.Prelude.{Bool, leb}
use Rattle.std.proofs.Math.Bool.{true, false, cond, not}
use Rattle.std.proofs.Math.Option.{Option, none, some}
use Prim.Native.Nat.{ℕ, zero, suc, ◌+◌, ◌-◌, ◌%◌, ◌≤◌, ◌<◌}
use native.Mathlib.Omega.{arith}
use Rattle.std.proofs.Math.Nat.{mod-eq_of_lt, mod_self, mod-add-mod, add-mod_right, zero-add}
use borrow.Author.Tests.{not-true, leb-true, leb-false}
use Rattle.base.specs.Logic.{test?}
use Rattle.base.specs.Count.{count, count_some}

-- k numbers are looked at: b, and then the one after it, below n, the one after n - 1 being 0
unfoldable pub search_from : ℕ → ℕ → (ℕ → Bool) → ℕ → Option ℕ
search_from zero n used b = none
search_from (suc k) n used b = cond (used b) (search_from k n used ((b + 1) % n)) (some b)

-- the first of the numbers below n that is not used, from start on, going round once
unfoldable pub first_free : ℕ → (ℕ → Bool) → ℕ → Option ℕ
first_free n used start = search_from n n used start

module _ (n : ℕ) (used : ℕ → Bool) where
  search_here : (k b : ℕ) → used b ≡ false → search_from (suc k) n used b ≡ some b
  unfolding search_from
  search_here k b h = rw h

  search_steps : (j k b : ℕ) → b + j < n → ((c : ℕ) → b ≤ c → c < b + j → used c ≡ true) → search_from (j + k) n used b ≡ search_from k n used (b + j)
  unfolding search_from
  search_steps zero k b h u = let e : b + 0 ≡ b = omega arith in rw (e, zero-add k)
  search_steps (suc j) k b h u =
      let m : (b + 1) % n ≡ b + 1 = mod-eq_of_lt (omega arith) in
      let e : b + 1 + j ≡ b + suc j = omega arith in
      let q : suc j + k ≡ suc (j + k) = omega arith in
      rw (q, u b (omega arith) (omega arith), m) (search_steps j k (b + 1) (omega arith) (λ c a l. u c (omega arith) (omega arith)) ∙ ap (search_from k n used) e)

  search_turn : (k b : ℕ) → suc b ≡ n → used b ≡ true → search_from (suc k) n used b ≡ search_from k n used 0
  unfolding search_from
  search_turn k b e h =
      let m : (b + 1) % n ≡ 0 = (let z : b + 1 ≡ n = omega arith in rw z (mod_self n)) in
      rw (h, m)

  -- LAW: found at or after the start
  pub first_ahead : (b r : ℕ) → b ≤ r → r < n → ((c : ℕ) → b ≤ c → c < r → used c ≡ true) → used r ≡ false → first_free n used b ≡ some r
  unfolding first_free
  first_ahead b r h l u z =
      let a : n ≡ (r - b) + suc (n - (r - b) - 1) = omega arith in
      let e : b + (r - b) ≡ r = omega arith in
      ap (λ k. search_from k n used b) a ∙ search_steps (r - b) (suc (n - (r - b) - 1)) b (omega arith) (λ c x y. u c x (omega arith))
      ∙ ap (search_from (suc (n - (r - b) - 1)) n used) e ∙ search_here (n - (r - b) - 1) r z

  -- all used from the start to the end: what is left is a search from 0
  search_wrapped : (k b : ℕ) → b < n → ((c : ℕ) → b ≤ c → c < n → used c ≡ true) → search_from (n - b + k) n used b ≡ search_from k n used 0
  search_wrapped k b h u =
      let a : n - b + k ≡ (n - 1 - b) + suc k = omega arith in
      let e : b + (n - 1 - b) ≡ n - 1 = omega arith in
      ap (λ k. search_from k n used b) a ∙ search_steps (n - 1 - b) (suc k) b (omega arith) (λ c x y. u c x (omega arith)) ∙ ap (search_from (suc k) n used) e
      ∙ search_turn k (n - 1) (omega arith) (u (n - 1) (omega arith) (omega arith))

  -- LAW: found below the start, after going round
  pub first_round : (b r : ℕ) → b < n → r < b → ((c : ℕ) → b ≤ c → c < n → used c ≡ true) → ((c : ℕ) → c < r → used c ≡ true) → used r ≡ false → first_free n used b ≡ some r
  unfolding first_free
  first_round b r h l u v z =
      let a : n ≡ n - b + b = omega arith in
      let d : b ≡ r + suc (b - r - 1) = omega arith in
      ap (λ k. search_from k n used b) a ∙ search_wrapped b b h u
      ∙ ap (λ k. search_from k n used 0) d ∙ search_steps r (suc (b - r - 1)) 0 (omega arith) (λ c x y. v c (omega arith))
      ∙ ap (search_from (suc (b - r - 1)) n used) (zero-add r) ∙ search_here (b - r - 1) r z

  search_full : (k b : ℕ) → b < n → ((c : ℕ) → c < n → used c ≡ true) → search_from k n used b ≡ none
  unfolding search_from
  search_full zero b h u = refl
  search_full (suc k) b h u = rw (u b h) (search_full k ((b + 1) % n) (mod-lt (b + 1) (omega arith)) u)

  -- LAW: all used, none found
  pub first_full : (b : ℕ) → b < n → ((c : ℕ) → c < n → used c ≡ true) → first_free n used b ≡ none
  unfolding first_free
  first_full b h u = search_full n b h u

  -- what is found is below n and not used
  pub record Free (r : ℕ) : Type 0 where
    pub below : r < n
    pub unused : used r ≡ false

  search_says : (k b r : ℕ) → b < n → search_from k n used b ≡ some r → Free r
  unfolding search_from
  search_says zero b r h e = absurd (let z : ◌≡◌ {A = ℕ} 0 1 = cc in omega arith)
  search_says (suc k) b r h e = go (used b) refl (search_says k ((b + 1) % n) r (mod-lt (b + 1) (omega arith))) e
    where
      go : (x : Bool) → used b ≡ x → (search_from k n used ((b + 1) % n) ≡ some r → Free r) → cond x (search_from k n used ((b + 1) % n)) (some b) ≡ some r → Free r
      go true q rec e = rec e
      go false q rec e = let s : b ≡ r = cc in record { below = subst (λ x. x < n) s h; unused = subst (λ x. used x ≡ false) s q }

  pub first_says : (b r : ℕ) → b < n → first_free n used b ≡ some r → Free r
  unfolding first_free
  first_says b r h e = search_says n b r h e

  search_found : (k b j : ℕ) → b < n → j < k → used ((b + j) % n) ≡ false → (r : ℕ) × (search_from k n used b ≡ some r)
  unfolding search_from
  search_found zero b j l h e = absurd (omega arith)
  search_found (suc k) b zero l h e =
      let q : used b ≡ false = ap used (sym (ap (λ x. x % n) (let z : b + 0 ≡ b = omega arith in z) ∙ mod-eq_of_lt l)) ∙ e in
      (b, rw q)
  search_found (suc k) b (suc j) l h e =
      test? (used b)
      (λ q. let r = search_found k ((b + 1) % n) j (mod-lt (b + 1) (omega arith)) (omega arith)
      (ap used (mod-add-mod (b + 1) n j ∙ ap (λ x. x % n) (let z : b + 1 + j ≡ b + suc j = omega arith in z)) ∙ e) in
      (r.0, rw q r.1))
      (λ q. (b, rw q))

  -- LAW: where some number is free, one is found
  pub first_found : (b : ℕ) → b < n → 0 < count n (λ c. not (used c)) → (r : ℕ) × (first_free n used b ≡ some r)
  unfolding first_free
  first_found b low h₀ =
      let r = count_some n (λ c. not (used c)) h₀ in
      let l : r.0 < n = r.1 in
      let e : used r.0 ≡ false = not-true (used r.0) r.2 in
      test? (leb b r.0)
      (λ h. let h' = leb-true b r.0 h in
      search_found n b (r.0 - b) low (omega arith) (ap used (ap (λ x. x % n) (let z : b + (r.0 - b) ≡ r.0 = omega arith in z) ∙ mod-eq_of_lt l) ∙ e))
      (λ h. let h' = leb-false b r.0 h in
      search_found n b (r.0 + n - b) low (omega arith)
      (ap used (ap (λ x. x % n) (let z : b + (r.0 + n - b) ≡ r.0 + n = omega arith in z) ∙ add-mod_right r.0 n ∙ mod-eq_of_lt l) ∙ e))

-- ---- two functions that agree below a limit

search_same : (k n : ℕ) (f g : ℕ → Bool) (b : ℕ) → b < n → ((c : ℕ) → c < n → g c ≡ f c) → search_from k n g b ≡ search_from k n f b
unfolding search_from
search_same zero n f g b l h = refl
search_same (suc k) n f g b l h = rw (h b l, search_same k n f g ((b + 1) % n) (mod-lt (b + 1) (omega arith)) h)

-- LAW: the first free number depends on the numbers below the limit alone
pub first_same : (n : ℕ) (f g : ℕ → Bool) (b : ℕ) → b < n → ((c : ℕ) → c < n → g c ≡ f c) → first_free n g b ≡ first_free n f b
unfolding first_free
first_same n f g b l h = search_same n n f g b l h
