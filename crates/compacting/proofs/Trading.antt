-- Bytes that change places: which byte stands where, and two pages that do. Assumes nothing.
use mathlib.Core.List.{List}
use mathlib.Core.Path.{ap, fun_ext, subst, sym, ◌∙◌, ◌≡◌}
use Prim.Native.Nat.{◌*◌, ◌+◌, ◌<◌, suc, zero, ℕ, ◌≤◌}
use native.Mathlib.Omega.{arith}
use lib.Dec.{ltb}
use lib.ListN.{get_or, length, length-set, set}
use lib.Seq.{get_or-set_other, get_or-set_same}
use borrow.Author.Tests.{ltb-false, ltb-true}
use Rattle.base.specs.Logic.{same?, test?}
use Rattle.base.specs.Update.{upd, upd_other, upd_same}
use Rattle.compacting.specs.Exchange.{traded, traded_more, traded_none}
use Rattle.pages.proofs.PageRuns.{pages_in, pages_out}
use Rattle.tables.specs.Calls.{pages_of}

module _ (l : List ℕ) (x y : ℕ) where
  pub length_traded : (n : ℕ) → length (traded l x y n) ≡ length l
  length_traded zero = ap length (traded_none l x y)
  length_traded (suc n) =
      ap length (traded_more l x y n) ∙ length-set (set (traded l x y n) (x + n) (get_or l (y + n) 0)) (y + n) _ ∙ length-set (traded l x y n) (x + n) _ ∙ length_traded n

  -- a byte that has not changed places
  pub traded_out : (n k : ℕ) → ((j : ℕ) → j < n → x + j ≡ k → ⊥) → ((j : ℕ) → j < n → y + j ≡ k → ⊥) → get_or (traded l x y n) k 0 ≡ get_or l k 0
  traded_out zero k a b = ap (λ (d : List ℕ). get_or d k 0) (traded_none l x y)
  traded_out (suc n) k a b =
      ap (λ (d : List ℕ). get_or d k 0) (traded_more l x y n)
      ∙ get_or-set_other (set (traded l x y n) (x + n) _) (y + n) k _ 0 (λ q. b n (omega arith) (sym q))
      ∙ get_or-set_other (traded l x y n) (x + n) k _ 0 (λ q. a n (omega arith) (sym q))
      ∙ traded_out n k (λ j h. a j (omega (arith, h))) (λ j h. b j (omega (arith, h)))

  -- one that has
  pub traded_first : (n i : ℕ) → i < n → x + n ≤ length l → ((j k : ℕ) → j < n → k < n → y + j ≡ x + k → ⊥) → get_or (traded l x y n) (x + i) 0 ≡ get_or l (y + i) 0
  traded_first zero i h m d = absurd (omega (arith, h))
  traded_first (suc n) i h m d =
      ap (λ (k : List ℕ). get_or k (x + i) 0) (traded_more l x y n)
      ∙ get_or-set_other (set (traded l x y n) (x + n) _) (y + n) (x + i) _ 0 (λ q. d n i (omega arith) h (sym q))
      ∙ same? i n
      (λ e. ap (λ k. get_or (set (traded l x y n) (x + n) (get_or l (y + n) 0)) (x + k) 0) e
      ∙ get_or-set_same (traded l x y n) (x + n) (get_or l (y + n) 0) 0 (omega (arith, m, length_traded n)) ∙ ap (λ k. get_or l (y + k) 0) (sym e))
      (λ e. get_or-set_other (traded l x y n) (x + n) (x + i) _ 0 (λ q. e (omega (arith, q)))
      ∙ traded_first n i (omega (arith, h, e)) (omega (arith, m)) (λ j k a b. d j k (omega (arith, a)) (omega (arith, b))))

  pub traded_second : (n i : ℕ) → i < n → y + n ≤ length l → ((j k : ℕ) → j < n → k < n → x + j ≡ y + k → ⊥) → get_or (traded l x y n) (y + i) 0 ≡ get_or l (x + i) 0
  traded_second zero i h m d = absurd (omega (arith, h))
  traded_second (suc n) i h m d =
      ap (λ (k : List ℕ). get_or k (y + i) 0) (traded_more l x y n)
      ∙ same? i n
      (λ e. ap (λ k. get_or (set (set (traded l x y n) (x + n) (get_or l (y + n) 0)) (y + n) (get_or l (x + n) 0)) (y + k) 0) e
      ∙ get_or-set_same (set (traded l x y n) (x + n) (get_or l (y + n) 0)) (y + n) (get_or l (x + n) 0) 0 (omega (arith, m, length-set (traded l x y n) (x + n) (get_or l (y + n) 0), length_traded n))
      ∙ ap (λ k. get_or l (x + k) 0) (sym e))
      (λ e. get_or-set_other (set (traded l x y n) (x + n) _) (y + n) (y + i) _ 0 (λ q. e (omega (arith, q)))
      ∙ get_or-set_other (traded l x y n) (x + n) (y + i) _ 0 (λ q. d n i (omega arith) h (sym q))
      ∙ traded_second n i (omega (arith, h, e)) (omega (arith, m)) (λ j k a b. d j k (omega (arith, a)) (omega (arith, b))))

-- one byte more, as the code stores it: through the spare page
pub trade_more : (l p spare : List ℕ) (x y n m : ℕ) → p ≡ traded l x y n → length spare ≡ m → n < m → ((j : ℕ) → j < n → x + j ≡ y + n → ⊥) → ((j : ℕ) → j < n → y + j ≡ x + n → ⊥) → (x + n ≡ y + n → ⊥) →
    set (set p (x + n) (get_or p (y + n) 0)) (y + n) (get_or (set spare n (get_or p (x + n) 0)) n 0) ≡ traded l x y (suc n)
trade_more l p spare x y n m e len h a b c =
    let u : get_or p (y + n) 0 ≡ get_or l (y + n) 0 = ap (λ (d : List ℕ). get_or d (y + n) 0) e ∙ traded_out l x y n (y + n) a (λ j k q. omega (arith, k, q)) in
    let v : get_or p (x + n) 0 ≡ get_or l (x + n) 0 = ap (λ (d : List ℕ). get_or d (x + n) 0) e ∙ traded_out l x y n (x + n) (λ j k q. omega (arith, k, q)) b in
    (λ i. set (set (e i) (x + n) (u i)) (y + n) ((get_or-set_same spare n (get_or p (x + n) 0) 0 (omega (arith, len, h)) ∙ v) i)) ∙ sym (traded_more l x y n)

-- LAW: two pages that have changed places
module _ (p : List ℕ) (a b : ℕ) (d : a ≡ b → ⊥) (ha : a * 512 + 512 ≤ length p) (hb : b * 512 + 512 ≤ length p) where
  abbrev after : List ℕ
  after = traded p (a * 512) (b * 512) 512

  apart : (j k : ℕ) → j < 512 → k < 512 → a * 512 + j ≡ b * 512 + k → ⊥
  apart j k l m q = d (omega (arith, l, m, q))

  page_a : (i : ℕ) → pages_of after a i ≡ pages_of p b i
  page_a i = test? (ltb i 512)
      (λ e. let l = ltb-true i 512 e in pages_in after a i l ∙ traded_first p (a * 512) (b * 512) 512 i l ha (λ j k m n q. apart k j n m (sym q)) ∙ sym (pages_in p b i l))
      (λ e. let l = ltb-false i 512 e in pages_out after a i l ∙ sym (pages_out p b i l))

  page_b : (i : ℕ) → pages_of after b i ≡ pages_of p a i
  page_b i = test? (ltb i 512)
      (λ e. let l = ltb-true i 512 e in pages_in after b i l ∙ traded_second p (a * 512) (b * 512) 512 i l hb apart ∙ sym (pages_in p a i l))
      (λ e. let l = ltb-false i 512 e in pages_out after b i l ∙ sym (pages_out p a i l))

  page_other : (c i : ℕ) → (a ≡ c → ⊥) → (b ≡ c → ⊥) → pages_of after c i ≡ pages_of p c i
  page_other c i x y = test? (ltb i 512)
      (λ e. let l = ltb-true i 512 e in
      pages_in after c i l ∙ traded_out p (a * 512) (b * 512) 512 (c * 512 + i) (λ j m q. x (omega (arith, l, m, q))) (λ j m q. y (omega (arith, l, m, q))) ∙ sym (pages_in p c i l))
      (λ e. let l = ltb-false i 512 e in pages_out after c i l ∙ sym (pages_out p c i l))

  pub pages_traded : pages_of after ≡ upd (upd (pages_of p) a (pages_of p b)) b (pages_of p a)
  pages_traded = fun_ext (λ c. same? b c
      (λ e. subst (λ x. pages_of after x ≡ upd (upd (pages_of p) a (pages_of p b)) b (pages_of p a) x) e (fun_ext page_b ∙ sym (upd_same (upd (pages_of p) a (pages_of p b)) b (pages_of p a))))
      (λ n. same? a c
      (λ e. subst (λ x. (b ≡ x → ⊥) → pages_of after x ≡ upd (upd (pages_of p) a (pages_of p b)) b (pages_of p a) x) e
      (λ m. fun_ext page_a ∙ sym (upd_other (upd (pages_of p) a (pages_of p b)) b (pages_of p a) a m ∙ upd_same (pages_of p) a (pages_of p b))) n)
      (λ m. fun_ext (λ i. page_other c i m n) ∙ sym (upd_other (upd (pages_of p) a (pages_of p b)) b (pages_of p a) c n ∙ upd_other (pages_of p) a (pages_of p b) c m))))
