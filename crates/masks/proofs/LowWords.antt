-- Words whose first byte is the least significant: their bits, and the block of an entry. Assumes nothing.
use mathlib.Core.List.{List}
use mathlib.Core.Path.{ap, sym, ◌∙◌, ◌≡◌}
use Prim.Native.Nat.{◌%◌, ◌*◌, ◌+◌, ◌-◌, ◌/◌, ◌<◌, suc, zero, ℕ}
use native.Mathlib.Decide.{dec_lt}
use native.Mathlib.Omega.{arith}
use lib.ListN.{get_or}
use Rattle.packing.specs.Bits.{bit, bit_mod, bit_shr}
use Rattle.packing.specs.Words.{Bytes, get_word, low_word}

-- LAW: bit k is bit k % 8 of byte k / 8
pub low_bit : (m : ℕ) (t : List ℕ) (at k : ℕ) → Bytes t → k < 8 * suc m → bit (low_word m t at) k ≡ bit (get_or t (at + k / 8) 0) (k % 8)
unfolding low_word
low_bit zero t at k bs h =
    let e : at + k / 8 ≡ at = omega arith in
    let d : k % 8 ≡ k = omega arith in
    rw (e, d)
low_bit (suc m) t at k bs h = go (λ j l. low_bit m t (at + 1) j bs l) (dec_lt k 8)
  where
    go : ((j : ℕ) → j < 8 * suc m → bit (low_word m t (at + 1)) j ≡ bit (get_or t (at + 1 + j / 8) 0) (j % 8)) → Dec (k < 8)
        → bit (get_or t at 0 + low_word m t (at + 1) * 256) k ≡ bit (get_or t (at + k / 8) 0) (k % 8)
    go ih (yes l) =
        let e : at + k / 8 ≡ at = omega arith in
        let d : k % 8 ≡ k = omega arith in
        let q : (get_or t at 0 + low_word m t (at + 1) * 256) % 256 ≡ get_or t at 0 = omega (arith, bs at) in
        rw (e, d) (sym (bit_mod 8 k (get_or t at 0 + low_word m t (at + 1) * 256) l) ∙ ap (λ y. bit y k) q)
    go ih (no n) =
        let j = k - 8 in
        let e : at + k / 8 ≡ at + 1 + j / 8 = omega arith in
        let d : k % 8 ≡ j % 8 = omega arith in
        let c : k ≡ 8 + j = omega arith in
        let q : (get_or t at 0 + low_word m t (at + 1) * 256) / 256 ≡ low_word m t (at + 1) = omega (arith, bs at) in
        ap (bit (get_or t at 0 + low_word m t (at + 1) * 256)) c ∙ sym (bit_shr (get_or t at 0 + low_word m t (at + 1) * 256) 8 j) ∙ ap (λ y. bit y j) q ∙ ih j (omega arith)
        ∙ sym (ap (λ y. bit (get_or t y 0) (k % 8)) e ∙ ap (bit (get_or t (at + 1 + j / 8) 0)) d)

-- LAW: an entry, and its word
low_entry : (t : List ℕ) (at : ℕ) → Bytes t → (get_word 1 t at ≡ low_word 1 t at % 256 * 256 + low_word 1 t at / 256)
unfolding low_word get_word
low_entry t at bs = omega (arith, bs at, bs (at + 1))

block_of_bytes : (h l : ℕ) → l < 256 → (h * 256 + l) % 4096 ≡ h % 16 * 256 + l
block_of_bytes h l k = omega arith

-- LAW: the 12 low bits of an entry
pub low_block : (t : List ℕ) (at e : ℕ) → Bytes t → e ≡ low_word 1 t at → e < 65536 → e % 16 * 256 + e / 256 ≡ get_word 1 t at % 4096
low_block t at e bs q h =
    let a : e % 16 ≡ e % 256 % 16 = omega arith in
    sym (ap (λ w. w % 4096) (low_entry t at bs ∙ ap (λ z. z % 256 * 256 + z / 256) (sym q)) ∙ block_of_bytes (e % 256) (e / 256) (omega arith) ∙ ap (λ z. z * 256 + e / 256) (sym a))
