-- The map of the blocks seen against the bits of the tables, byte by byte: the bytes are the same where their differences, joined, are zero. Assumes nothing.
use mathlib.Core.Bool.{Bool, ◌&&◌, true, true≢false}
use mathlib.Core.List.{List}
use mathlib.Core.Path.{ap, ap₂, sym, ◌∙◌, ◌≡◌}
use Prim.Native.Nat.{◌%◌, ◌*◌, ◌+◌, ◌-◌, ◌/◌, ◌<◌, ℕ}
use native.Mathlib.Nat.{zero-add}
use native.Mathlib.Numerals.{add-one}
use native.Mathlib.Omega.{arith}
use lib.Bits.{and_le_l, and_le_r, bit_or, bit_xor, xor_add_and, xor_self}
use lib.Dec.{eqb}
use lib.ListN.{get_or}
use borrow.Author.Tests.{eq-eqb, eqb-false, eqb-true, ne_eqb}
use Rattle.base.specs.Count.{all, all_at, all_more, all_none, all_of}
use Rattle.base.specs.Logic.{test?}
use Rattle.entrycheck.specs.Seeing.{same_bits_at, same_bits_of, same_bits}
use Rattle.packing.specs.Bitmap.{bit_at, is_one, map_byte_law, map_same}
use Rattle.packing.specs.Bits.{bit}
use Rattle.packing.specs.Words.{Bytes}
use Rattle.packing.specs.Zeros.{or_zero}
use Rattle.tables.proofs.ReadParts.{read_bit}

xor_zero : (a b : ℕ) → eqb (bit_xor a b) 0 ≡ eqb a b
xor_zero a b =
    test? (eqb a b)
    (λ e. eq-eqb (bit_xor a b) 0 (ap (λ z. bit_xor z b) (eqb-true a b e) ∙ xor_self b) ∙ sym e)
    (λ e. ne_eqb (bit_xor a b) 0 (λ q. eqb-false a b e (omega (arith, xor_add_and a b, and_le_l a b, and_le_r a b))) ∙ sym e)

module _ (t l : List ℕ) where
  abbrev same_byte : ℕ → Bool
  same_byte k = eqb (get_or t (4 + k) 0) (get_or l k 0)

  -- the first i bytes are the same
  abbrev pub same_to : ℕ → Bool
  same_to i = all i same_byte

  pub same_none : eqb 0 0 ≡ same_to 0
  same_none = sym (all_none same_byte)

  -- LAW: one byte more
  pub same_more : (i x : ℕ) → eqb x 0 ≡ same_to i → eqb (bit_or x (bit_xor (get_or t (4 + i) 0) (get_or l i 0))) 0 ≡ same_to (i + 1)
  same_more i x h =
      or_zero x (bit_xor (get_or t (4 + i) 0) (get_or l i 0)) ∙ ap₂ ◌&&◌ (xor_zero (get_or t (4 + i) 0) (get_or l i 0)) h
      ∙ sym (all_more i same_byte) ∙ ap (λ n. all n same_byte) (sym (add-one i))

  module _ (bt : Bytes t) (bl : Bytes l) where
    bits_of : same_to 512 ≡ true → (b : ℕ) → b < 4096 → bit_at l 0 b ≡ bit_at t 4 b
    unfolding bit_at
    bits_of h b k =
        ap (λ x. is_one (bit x (7 - b % 8))) (ap (λ a. get_or l a 0) (zero-add (b / 8)) ∙ sym (eqb-true (get_or t (4 + b / 8) 0) (get_or l (b / 8) 0) (all_at 512 same_byte h (b / 8) (omega arith))))

    byte_of : same_bits t (bit_at l 0) ≡ true → (k : ℕ) → k < 512 → get_or t (4 + k) 0 ≡ get_or l k 0
    byte_of h k q =
        sym (map_byte_law t 4 k bt) ∙ map_same (bit_at l 0) (bit_at t 4) k (λ j r. sym (same_bits_at t (bit_at l 0) h (k * 8 + j) (omega arith) ∙ read_bit t (k * 8 + j) (omega arith)))
        ∙ map_byte_law l 0 k bl ∙ ap (λ a. get_or l a 0) (zero-add k)

    -- LAW: the bytes are the same where the bits are
    pub same_bytes : same_to 512 ≡ same_bits t (bit_at l 0)
    same_bytes =
        test? (same_to 512)
        (λ e. e ∙ sym (same_bits_of t (bit_at l 0) (λ b k. bits_of e b k ∙ sym (read_bit t b k))))
        (λ e. test? (same_bits t (bit_at l 0))
        (λ d. absurd (true≢false (sym (all_of 512 same_byte (λ k q. eq-eqb (get_or t (4 + k) 0) (get_or l k 0) (byte_of d k q))) ∙ e)))
        (λ d. e ∙ sym d))
