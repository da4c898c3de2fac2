-- What a pass over entries counts: it passes where every entry is formed, names a block below the limit only, and no block twice; and then a block is seen
-- as often as it was seen before and is named. One entry, and parts of a pass in order. Assumes nothing.
use mathlib.Core.Bool.{◌&&◌, Bool, cond, false, true}
use mathlib.Core.List.{[]}
use mathlib.Core.Option.{Option, none-ne-some, some-injective, none, some}
use mathlib.Core.Path.{ap, fun_ext, refl, subst, sym, ◌∙◌, ◌≡◌}
use Prim.Native.Nat.{◌+◌, ◌<◌, suc, zero, ℕ, ◌≤◌}
use native.Mathlib.Omega.{arith}
use lib.Dec.{eqb, ltb}
use borrow.Author.Tests.{eq-eqb, ltb-true, ne_eqb}
use Rattle.base.specs.Count.{all, all_more, all_none, sum}
use Rattle.base.specs.Logic.{and_both, and_left, and_right, digit, same?, test?}
use Rattle.base.specs.Update.{upd, upd_other, upd_same}
use Rattle.entrycheck.specs.Seeing.{Pass, Seen, and_then, see_entry, see_named, through, through_more, through_none}
use Rattle.packing.specs.Bitmap.{is_one, one_digit}
use Rattle.rules.specs.State.{Entry, hole, stored, unmapped}
use Rattle.rules.specs.WellFormed.{block_below, names}
use Rattle.tables.specs.Layout.{read_entry}
use Rattle.tables.specs.Packed.{entry_formed}

-- good: is every entry formed, with a block below the limit; named b: how many of the entries name block b
pub record Counts (limit : ℕ) (pass : Pass) (good : Bool) (named : ℕ → ℕ) : Type 0 where
  pub passes : (seen : Seen) → good ≡ true → ((b : ℕ) → b < limit → digit (seen b) + named b ≤ 1) → (x : Seen) × (pass seen ≡ some x)
  pub counts : (seen x : Seen) → pass seen ≡ some x → (good ≡ true) × ((b : ℕ) → digit (x b) ≡ digit (seen b) + named b)

pub digit_same : (a b : Bool) → digit a ≡ digit b → a ≡ b
digit_same a b e = sym (one_digit a) ∙ ap is_one e ∙ one_digit b

pub digit_most : (a : Bool) → digit a ≤ 1
digit_most true = omega arith
digit_most false = omega arith

none_some : {P : Type 0} (x : Seen) → none ≡ some x → P
none_some x e = absurd (none-ne-some x e)

-- ---- one entry

module _ (limit : ℕ) where
  named_passes : (e : Entry ℕ) (seen : Seen) → block_below limit e ≡ true → ((b : ℕ) → b < limit → digit (seen b) + digit (names b e) ≤ 1)
      → (x : Seen) × (see_named limit e seen ≡ some x)
  named_passes unmapped seen g h = (seen, refl)
  named_passes hole seen g h = (seen, refl)
  named_passes (stored c) seen g h =
      let n = h c (ltb-true c limit g) in
      test? (seen c)
      (λ z. absurd (let m : digit true + digit true ≤ 1 = rw (z, eq-eqb c c refl) at n in omega arith))
      (λ z. (upd seen c true, rw (g, z)))

  -- the block of a stored entry is seen, and no other
  stored_counts : (c : ℕ) (seen : Seen) → seen c ≡ false → (b : ℕ) → digit (upd seen c true b) ≡ digit (seen b) + digit (eqb b c)
  stored_counts c seen z b =
      same? c b
      (λ e. subst (λ x. digit (upd seen c true x) ≡ digit (seen x) + digit (eqb x c)) e (rw (upd_same seen c true, z, eq-eqb c c refl)))
      (λ n. rw (upd_other seen c true b n, ne_eqb b c (λ q. n (sym q))) (omega arith))

  named_counts : (e : Entry ℕ) (seen x : Seen) → see_named limit e seen ≡ some x → (block_below limit e ≡ true) × ((b : ℕ) → digit (x b) ≡ digit (seen b) + digit (names b e))
  named_counts unmapped seen x q = let z : seen ≡ x = some-injective seen x q in (refl, λ b. let y : digit (x b) ≡ digit (seen b) = ap (λ g. digit (g b)) (sym z) in omega arith)
  named_counts hole seen x q = let z : seen ≡ x = some-injective seen x q in (refl, λ b. let y : digit (x b) ≡ digit (seen b) = ap (λ g. digit (g b)) (sym z) in omega arith)
  named_counts (stored c) seen x q =
      test? (ltb c limit)
      (λ l. test? (seen c)
      (λ z. let d : none ≡ some x = rw (l, z) at q in none_some x d)
      (λ z. let d : some (upd seen c true) ≡ some x = rw (l, z) at q in
      let y : upd seen c true ≡ x = some-injective (upd seen c true) x d in
      (l, λ b. ap (λ g. digit (g b)) (sym y) ∙ stored_counts c seen z b)))
      (λ l. let d : none ≡ some x = rw l at q in none_some x d)

  -- LAW: the block that an entry names
  pub block_counts : (e : Entry ℕ) → Counts limit (see_named limit e) (block_below limit e) (λ b. digit (names b e))
  block_counts e = record { passes = named_passes e; counts = named_counts e }

  -- LAW: one entry
  pub entry_counts : (w : ℕ) → Counts limit (see_entry limit w) (entry_formed [] w && block_below limit (read_entry w)) (λ b. digit (names b (read_entry w)))
  unfolding see_entry
  entry_counts w = record {
    passes = λ seen g h.
        let r = named_passes (read_entry w) seen (and_right (entry_formed [] w) _ g) h in
        (r.0, ap (λ o. cond o (see_named limit (read_entry w) seen) none) (and_left (entry_formed [] w) _ g) ∙ r.1);
    counts = λ seen x q.
        test? (entry_formed [] w)
        (λ z. let r = named_counts (read_entry w) seen x (ap (λ o. cond o (see_named limit (read_entry w) seen) none) (sym z) ∙ q) in
        (and_both (entry_formed [] w) _ z r.0, r.1))
        (λ z. let d : none ≡ some x = ap (λ o. cond o (see_named limit (read_entry w) seen) none) (sym z) ∙ q in none_some x d);
  }

  -- ---- parts in order

  module _ (pass : ℕ → Pass) (good : ℕ → Bool) (named : ℕ → ℕ → ℕ) where
    abbrev NCounts : ℕ → Type 0
    NCounts n = Counts limit (through n pass) (all n good) (λ b. sum n (λ i. named i b))

    no_parts : NCounts 0
    unfolding sum
    no_parts = record {
      passes = λ seen g h. (seen, through_none pass seen);
      counts = λ seen x q.
          let z : seen ≡ x = some-injective seen x (sym (through_none pass seen) ∙ q) in
          (all_none good, λ b. let y : digit (x b) ≡ digit (seen b) = ap (λ g. digit (g b)) (sym z) in omega arith);
    }

    module _ (n : ℕ) (r : NCounts n) (c : Counts limit (pass n) (good n) (named n)) where
      more_passes : (seen : Seen) → all (suc n) good ≡ true → ((b : ℕ) → b < limit → digit (seen b) + sum (suc n) (λ i. named i b) ≤ 1) → (x : Seen) × (through (suc n) pass seen ≡ some x)
      unfolding sum
      more_passes seen g h =
          let g' : (good n && all n good) ≡ true = sym (all_more n good) ∙ g in
          let y = r.passes seen (and_right (good n) (all n good) g') (λ b l. omega (arith, h b l)) in
          let k = (r.counts seen y.0 y.1).1 in
          let x = c.passes y.0 (and_left (good n) (all n good) g') (λ b l. omega (arith, h b l, k b)) in
          (x.0, through_more n pass seen ∙ ap (λ o. and_then o (pass n)) y.1 ∙ x.1)

      more_counts : (seen x : Seen) → through (suc n) pass seen ≡ some x → (all (suc n) good ≡ true) × ((b : ℕ) → digit (x b) ≡ digit (seen b) + sum (suc n) (λ i. named i b))
      unfolding sum
      more_counts seen x q = go (through n pass seen) refl (sym (through_more n pass seen) ∙ q)
        where
          go : (o : Option Seen) → through n pass seen ≡ o → and_then o (pass n) ≡ some x
              → (all (suc n) good ≡ true) × ((b : ℕ) → digit (x b) ≡ digit (seen b) + (named n b + sum n (λ i. named i b)))
          go none e d = none_some x d
          go (some y) e d =
              let u = r.counts seen y e in
              let w = c.counts y x d in
              (all_more n good ∙ and_both (good n) (all n good) w.0 u.0, λ b. omega (arith, u.1 b, w.1 b))

    -- LAW: as many parts as wished
    pub through_counts : (n : ℕ) → ((i : ℕ) → i < n → Counts limit (pass i) (good i) (named i)) → Counts limit (through n pass) (all n good) (λ b. sum n (λ i. named i b))
    through_counts zero h = no_parts
    through_counts (suc n) h =
        let r = through_counts n (λ i l. h i (omega arith)) in
        let c = h n (omega arith) in
        record { passes = more_passes n r c; counts = more_counts n r c }

-- LAWS: what a pass gives where it counts so many
module _ (limit : ℕ) (pass : Pass) (good : Bool) (named : ℕ → ℕ) (c : Counts limit pass good named) (seen : Seen) where
  -- it does not pass
  pub counts_none : (good ≡ true → ((b : ℕ) → digit (seen b) + named b ≤ 1) → ⊥) → pass seen ≡ none
  counts_none h = go (pass seen) refl
    where
      go : (o : Option Seen) → pass seen ≡ o → o ≡ none
      go none e = refl
      go (some x) e = let r = c.counts seen x e in absurd (h r.0 (λ b. let d = digit_most (x b) in omega (arith, r.1 b)))

  -- it passes, and x is seen
  pub counts_some : (x : Seen) → good ≡ true → ((b : ℕ) → digit (x b) ≡ digit (seen b) + named b) → pass seen ≡ some x
  counts_some x g h =
      let r = c.passes seen g (λ b l. let d = digit_most (x b) in omega (arith, h b)) in
      r.1 ∙ ap some (fun_ext (λ b. digit_same (r.0 b) (x b) ((c.counts seen r.0 r.1).1 b ∙ sym (h b))))
