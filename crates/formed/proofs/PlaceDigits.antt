-- The sets in an order where parents go first: the digits of the sets, those of the sets with a live file, and the parents. Assumes nothing.
use mathlib.Core.Bool.{cond, false, not, true, true≢false, ◌||◌}
use mathlib.Core.List.{List}
use mathlib.Core.Path.{ap, refl, subst, sym, ◌∙◌, ◌≡◌}
use Prim.Native.Nat.{◌%◌, ◌*◌, ◌+◌, ◌/◌, ◌<◌, ◌^◌, suc, zero, ℕ, ◌≤◌}
use native.Mathlib.Omega.{arith}
use lib.Bits.{bit_or}
use lib.Dec.{eqb, ltb}
use lib.ListN.{get_or, length, length-set, set}
use lib.Pow.{pow_pos, shl_exact}
use lib.Seq.{get_or-set_other}
use borrow.Author.Tests.{ltb-false, ltb-true, ne_eqb}
use Rattle.base.specs.Logic.{or_false, same?, test?}
use Rattle.entrycheck.proofs.Lists.{put_more}
use Rattle.entrycheck.specs.Records.{AllAre}
use Rattle.formed.proofs.AloneRules.{size_field}
use Rattle.formed.proofs.Resolved.{digit_or}
use Rattle.formed.specs.Files.{LivesTo, Places, PlacesPut, end_of, place_digit, place_of}
use Rattle.formed.specs.Heads.{UnusedFrom}
use Rattle.packing.specs.Bitmap.{is_one}
use Rattle.packing.specs.Bits.{bit, bit_none, bit_pow_other, bit_pow_same}
use Rattle.rules.specs.State.{Files, SetRecord, is_own, live, set_count}
use Rattle.tables.specs.Layout.{read_size, state_of}

-- ---- the digit of a set
-- LAW: none of an unused set
pub digit_none : (r : SetRecord) (s : ℕ) → r.used ≡ false → 0 ≡ place_digit r s
unfolding place_digit
digit_none r s h = sym (ap (λ b. cond b (2 ^ (r.level * 8 + s)) 0) h)

-- LAW: 1 shifted
pub digit_shl : (r : SetRecord) (s : ℕ) → r.used ≡ true → r.level < 8 → s < 8 → 1 * 2 ^ (r.level * 8 + s) % 2 ^ 64 ≡ place_digit r s
unfolding place_digit
digit_shl r s h l ls =
    let q : 1 * 2 ^ (r.level * 8 + s) ≡ 2 ^ (r.level * 8 + s) = omega arith in
    shl_exact {a = 1} 1 (r.level * 8 + s) 64 (omega arith) (omega arith) ∙ q ∙ sym (ap (λ b. cond b (2 ^ (r.level * 8 + s)) 0) h)

-- LAW: does a digit say that its set is used
pub digit_used : (r : SetRecord) (s digit : ℕ) → digit ≡ place_digit r s → not (eqb digit 0) ≡ r.used
unfolding place_digit
digit_used r s digit e = test? r.used
    (λ u. ap (λ x. not (eqb x 0)) (e ∙ ap (λ b. cond b (2 ^ (r.level * 8 + s)) 0) u) ∙ ap not (ne_eqb (2 ^ (r.level * 8 + s)) 0 (λ q. omega (arith, pow_pos (r.level * 8 + s)))) ∙ sym u)
    (λ u. ap (λ x. not (eqb x 0)) (e ∙ ap (λ b. cond b (2 ^ (r.level * 8 + s)) 0) u) ∙ sym u)

-- one set more
module _ (sets : ℕ → SetRecord) (files : Files ℕ) (s lives digit : ℕ) (ls : s < 8) (d : digit ≡ place_digit (sets s) s)
    (used : live (files s).state ≡ true → (sets s).used ≡ true) (rest : (x : ℕ) → s ≤ x → x < 8 → is_one (bit lives (place_of sets x)) ≡ false) where
  abbrev added : ℕ
  added = cond (live (files s).state) digit 0

  added_digit : live (files s).state ≡ true → added ≡ 2 ^ place_of sets s
  unfolding place_digit
  added_digit e = ap (λ b. cond b digit 0) e ∙ d ∙ ap (λ b. cond b (2 ^ place_of sets s) 0) (used e)

  added_none : live (files s).state ≡ false → added ≡ 0
  added_none e = ap (λ b. cond b digit 0) e

  added_here : is_one (bit added (place_of sets s)) ≡ live (files s).state
  added_here = test? (live (files s).state)
      (λ e. ap (λ x. is_one (bit x (place_of sets s))) (added_digit e) ∙ ap is_one (bit_pow_same (place_of sets s)) ∙ sym e)
      (λ e. ap (λ x. is_one (bit x (place_of sets s))) (added_none e) ∙ ap is_one (bit_none (place_of sets s)) ∙ sym e)

  added_other : (j : ℕ) → (j ≡ place_of sets s → ⊥) → is_one (bit added j) ≡ false
  added_other j n = test? (live (files s).state)
      (λ e. ap (λ x. is_one (bit x j)) (added_digit e) ∙ ap is_one (bit_pow_other (place_of sets s) j n))
      (λ e. ap (λ x. is_one (bit x j)) (added_none e) ∙ ap is_one (bit_none j))

  at_other : (x : ℕ) → x < 8 → (x ≡ s → ⊥) → is_one (bit (bit_or lives added) (place_of sets x)) ≡ is_one (bit lives (place_of sets x))
  at_other x l n =
      digit_or lives added (place_of sets x) ∙ ap (λ b. is_one (bit lives (place_of sets x)) || b) (added_other (place_of sets x) (λ e. n (omega arith)))
      ∙ or_false (is_one (bit lives (place_of sets x)))

  -- LAW: its digit is there, if its file is live
  pub lives_next : LivesTo sets files s lives → LivesTo sets files (s + 1) (bit_or lives added)
  lives_next k = record {
    live_at = λ x l. same? x s
        (λ q. subst (λ y. is_one (bit (bit_or lives added) (place_of sets y)) ≡ live (files y).state) (sym q)
        (digit_or lives added (place_of sets s) ∙ ap (λ b. b || is_one (bit added (place_of sets s))) (rest s (omega arith) ls) ∙ added_here))
        (λ q. at_other x (omega arith) q ∙ k.live_at x (omega arith));
    only = λ j l h. same? j (place_of sets s)
        (λ q. let e : j % 8 ≡ s = omega arith in q ∙ ap (place_of sets) (sym e))
        (λ q. k.only j l (sym (digit_or lives added j ∙ ap (λ b. is_one (bit lives j) || b) (added_other j q) ∙ or_false (is_one (bit lives j))) ∙ h));
  }

  pub rest_next : (x : ℕ) → s + 1 ≤ x → x < 8 → is_one (bit (bit_or lives added) (place_of sets x)) ≡ false
  rest_next x a l = at_other x l (λ e. omega arith) ∙ rest x (omega arith) l

-- ---- the first page wholly past the size, by the word w of the head
other_own : (k : ℕ) → (k ≡ 1 → ⊥) → is_own (state_of k) ≡ false
other_own zero a = refl
other_own (suc zero) a = absurd (a refl)
other_own (suc (suc zero)) a = refl
other_own (suc (suc (suc k))) a = refl

module _ (w : ℕ) where
  pub end_other : (w / 1073741824 ≡ 1 → ⊥) → 64 ≡ end_of (state_of (w / 1073741824)) (read_size w)
  unfolding end_of
  end_other h = sym (ap (λ b. cond b ((read_size w + 511) / 512) 64) (other_own (w / 1073741824) h))

  pub end_own : w / 1073741824 ≡ 1 → (w / 16384 % 65536 + 511) / 512 ≡ end_of (state_of (w / 1073741824)) (read_size w)
  unfolding end_of
  end_own h = ap (λ n. (n + 511) / 512) (sym (size_field w)) ∙ sym (ap (λ k. cond (is_own (state_of k)) ((read_size w + 511) / 512) 64) h)

-- ---- digits and parents of the sets
-- of the sets before set s
pub record PlacesTo (sets : ℕ → SetRecord) (parents₀ digits parents : List ℕ) (s : ℕ) : Type 0 where
  pub digits_len : length digits ≡ 8
  pub parents_len : length parents ≡ 8
  pub digits_are : (x : ℕ) → x < s → get_or digits x 0 ≡ place_digit (sets x) x
  pub parents_are : (x : ℕ) → x < s → get_or parents x 0 ≡ (sets x).parent
  -- those of the others are as they were
  pub rest : (x : ℕ) → s ≤ x → x < 8 → get_or digits x 0 ≡ 0
  pub rest_parents : (x : ℕ) → s ≤ x → x < 8 → get_or parents x 0 ≡ get_or parents₀ x 0

-- LAW: of no set
module _ (sets : ℕ → SetRecord) (digits parents : List ℕ) where
  pub places_start : AllAre set_count digits 0 → length parents ≡ 8 → PlacesTo sets parents digits parents 0
  places_start a b = record {
    digits_len = a.0;
    parents_len = b;
    digits_are = λ x l. absurd (omega arith);
    parents_are = λ x l. absurd (omega arith);
    rest = λ x l m. a.1 x m;
    rest_parents = λ x l m. refl;
  }

module _ (sets : ℕ → SetRecord) (parents₀ digits parents : List ℕ) (s : ℕ) (k : PlacesTo sets parents₀ digits parents s) where
  -- LAW: of one set more, whose record is r
  pub places_next : s < 8 → (r : SetRecord) (d : ℕ) → r ≡ sets s → d ≡ place_digit r s → PlacesTo sets parents₀ (set digits s d) (set parents s r.parent) (s + 1)
  places_next ls r d e h = record {
    digits_len = length-set digits s d ∙ k.digits_len;
    parents_len = length-set parents s r.parent ∙ k.parents_len;
    digits_are = put_more digits s d (λ x. place_digit (sets x) x) (omega (arith, k.digits_len)) k.digits_are (h ∙ ap (λ y. place_digit y s) e);
    parents_are = put_more parents s r.parent (λ x. (sets x).parent) (omega (arith, k.parents_len)) k.parents_are (ap (λ (y : SetRecord). y.parent) e);
    rest = λ x l m. get_or-set_other digits s x d 0 (λ q. omega arith) ∙ k.rest x (omega arith) m;
    rest_parents = λ x l m. get_or-set_other parents s x r.parent 0 (λ q. omega arith) ∙ k.rest_parents x (omega arith) m;
  }

  -- LAW: of all sets: those from set n on are unused
  pub places_done : (n : ℕ) → s ≡ n → UnusedFrom sets n → PlacesPut sets n parents₀ digits parents
  unfolding place_digit
  places_done n e u = record {
    digits_len = k.digits_len;
    parents_len = k.parents_len;
    digits_are = λ x l. test? (ltb x s)
        (λ q. k.digits_are x (ltb-true x s q))
        (λ q. let m = ltb-false x s q in k.rest x m l ∙ sym (ap (λ b. cond b (2 ^ place_of sets x) 0) (u x (omega arith) l)));
    parents_are = λ x l. k.parents_are x (omega arith);
    parents_kept = λ x l m. k.rest_parents x (omega arith) m;
  }

-- LAW: which has the parents of the used sets, and of those of tables with the same set records
pub places_are : (sets sets' : ℕ → SetRecord) → sets' ≡ sets → (n : ℕ) (parents digits' parents' : List ℕ) → UnusedFrom sets n → PlacesPut sets n parents digits' parents' → Places sets' digits' parents'
places_are sets sets' e n parents digits' parents' u k = subst (λ x. Places x digits' parents') (sym e) (record {
  digits_are = k.digits_are;
  parents_are = λ x l h. test? (ltb x n) (λ q. k.parents_are x (ltb-true x n q)) (λ q. absurd (true≢false (sym h ∙ u x (ltb-false x n q) l)));
})
