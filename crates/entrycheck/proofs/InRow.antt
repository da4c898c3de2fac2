-- Four entries that are each one more than that before: by their word, in which the first byte is the least significant. Assumes nothing.
use mathlib.Core.List.{List}
use mathlib.Core.Path.{ap, refl, sym, ◌∙◌, ◌≡◌}
use Prim.Native.Nat.{◌%◌, ◌*◌, ◌+◌, ◌/◌, ◌<◌, suc, zero, ℕ}
use native.Mathlib.Omega.{arith}
use lib.ListN.{get_or}
use Rattle.entrycheck.specs.Moving.{FourInARow}
use Rattle.packing.specs.Words.{Bytes, get_word, low_eight, low_four, low_word}

-- numbers of two digits are the same where their digits are
two_parts : (x y x' y' : ℕ) → x < 4294967296 → x' < 4294967296 → x + y * 4294967296 ≡ x' + y' * 4294967296 → (x ≡ x') × (y ≡ y')
two_parts x y x' y' h k e = (omega arith, omega arith)

halves : (a b a' b' : ℕ) → a < 65536 → a' < 65536 → a + b * 65536 ≡ a' + b' * 65536 → (a ≡ a') × (b ≡ b')
halves a b a' b' h k e = (omega arith, omega arith)

-- four numbers of 16 bits, each 256 more than that before
four_parts : (a b c d : ℕ) → a < 64768 → b < 65536 → c < 65536 → d < 65536
    → (a + b * 65536) + (c + d * 65536) * 4294967296 ≡ a * 0x0001000100010001 + 0x0300020001000000 → (b ≡ a + 256) × (c ≡ a + 512) × (d ≡ a + 768)
four_parts a b c d ha hb hc hd q =
    let e : (a + b * 65536) + (c + d * 65536) * 4294967296 ≡ (a + (a + 256) * 65536) + ((a + 512) + (a + 768) * 65536) * 4294967296 = omega arith in
    let r = two_parts (a + b * 65536) (c + d * 65536) (a + (a + 256) * 65536) ((a + 512) + (a + 768) * 65536) (omega arith) (omega arith) e in
    let u = halves a b a (a + 256) (omega arith) (omega arith) r.0 in
    let v = halves c d (a + 512) (a + 768) hc (omega arith) r.1 in
    (u.1, v.0, v.1)

-- two bytes, the low one n more
next_bytes : (h l h' l' n : ℕ) → h < 256 → l < 253 → h' < 256 → n < 4 → h' + l' * 256 ≡ h + l * 256 + n * 256 → h' * 256 + l' ≡ h * 256 + l + n
next_bytes h l h' l' n a b c d e = let x : h' ≡ h = omega arith in omega arith

module _ (t : List ℕ) (bs : Bytes t) (at : ℕ) where
  abbrev byte : ℕ → ℕ
  byte j = get_or t (at + j) 0

  first : low_word 1 t at ≡ get_or t at 0 + byte 1 * 256
  unfolding low_word
  first = refl

  whole : low_word 7 t at ≡ ((get_or t at 0 + byte 1 * 256) + (byte 2 + byte 3 * 256) * 65536) + ((byte 4 + byte 5 * 256) + (byte 6 + byte 7 * 256) * 65536) * 4294967296
  whole =
      let a : at + 4 + 1 ≡ at + 5 = omega arith in
      let b : at + 4 + 2 ≡ at + 6 = omega arith in
      let c : at + 4 + 3 ≡ at + 7 = omega arith in
      let q : low_word 3 t (at + 4) ≡ byte 4 + byte 5 * 256 + byte 6 * 65536 + byte 7 * 16777216 = low_four t (at + 4) ∙ rw (a, b, c) in
      low_eight t at ∙ omega (arith, low_four t at, q)

  module _ (room : low_word 1 t at / 256 % 64 < 61) (eq : low_word 7 t at ≡ low_word 1 t at * 0x0001000100010001 + 0x0300020001000000) where
    low_byte : byte 1 % 64 < 61
    low_byte = omega (arith, first, bs at)

    small : byte 1 < 253
    small = omega (arith, low_byte, bs (at + 1))

    parts : (byte 2 + byte 3 * 256 ≡ get_or t at 0 + byte 1 * 256 + 256) × (byte 4 + byte 5 * 256 ≡ get_or t at 0 + byte 1 * 256 + 512) × (byte 6 + byte 7 * 256 ≡ get_or t at 0 + byte 1 * 256 + 768)
    parts =
        four_parts (get_or t at 0 + byte 1 * 256) (byte 2 + byte 3 * 256) (byte 4 + byte 5 * 256) (byte 6 + byte 7 * 256) (omega (arith, small, bs at))
        (omega (arith, bs (at + 2), bs (at + 3))) (omega (arith, bs (at + 4), bs (at + 5))) (omega (arith, bs (at + 6), bs (at + 7)))
        (sym whole ∙ eq ∙ ap (λ z. z * 0x0001000100010001 + 0x0300020001000000) first)

    word_next : (j : ℕ) → j < 4 → get_word 1 t (at + j * 2) ≡ get_word 1 t at + j
    unfolding get_word
    word_next zero h = let e : at + 0 ≡ at = omega arith in rw e (omega arith)
    word_next (suc zero) h =
        let e : at + 2 + 1 ≡ at + 3 = omega arith in
        rw e (next_bytes (get_or t at 0) (byte 1) (byte 2) (byte 3) 1 (bs at) small (bs (at + 2)) (omega arith) parts.0)
    word_next (suc (suc zero)) h =
        let e : at + 4 + 1 ≡ at + 5 = omega arith in
        rw e (next_bytes (get_or t at 0) (byte 1) (byte 4) (byte 5) 2 (bs at) small (bs (at + 4)) (omega arith) parts.1)
    word_next (suc (suc (suc zero))) h =
        let e : at + 6 + 1 ≡ at + 7 = omega arith in
        rw e (next_bytes (get_or t at 0) (byte 1) (byte 6) (byte 7) 3 (bs at) small (bs (at + 6)) (omega arith) parts.2)
    word_next (suc (suc (suc (suc j)))) h = absurd (omega arith)

    -- LAW: their blocks stand in a row
    pub in_a_row : FourInARow t at
    unfolding get_word
    in_a_row =
        let e : at + 0 ≡ at = omega arith in
        record {
          row = λ j l. ap (λ w. w % 4096) (word_next j l) ∙ (let q : (get_word 1 t at + j) % 4096 ≡ get_word 1 t at % 4096 + j = omega (arith, small) in q) ∙ ap (λ a. get_word 1 t a % 4096 + j) (sym e);
          room = rw e (omega (arith, low_byte, bs at));
        }
