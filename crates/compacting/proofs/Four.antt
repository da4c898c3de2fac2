-- Four entries looked at at once: where no bit tells that one is stored, none is. Assumes nothing.
use mathlib.Core.Bool.{false}
use mathlib.Core.List.{List}
use mathlib.Core.Path.{ap, refl, sym, ◌∙◌, ◌≡◌}
use Prim.Native.Nat.{◌%◌, ◌*◌, ◌+◌, ◌-◌, ◌/◌, ◌<◌, suc, zero, ℕ, ◌≤◌}
use native.Mathlib.Omega.{arith}
use lib.Bits.{bit_and}
use Rattle.compaction.specs.Compact.{entry_in, file_at, page_at, set_at}
use Rattle.compacting.specs.Exchange.{four_stored}
use Rattle.masks.proofs.KindMasks.{file_mask, stored_mask}
use Rattle.masks.proofs.PageMasks.{mask_page}
use Rattle.masks.proofs.Tracks.{and_one, stored_bit}
use Rattle.masks.specs.Network.{words_at}
use Rattle.packing.specs.Bitmap.{is_one}
use Rattle.packing.specs.Bits.{bit, bit_and_law, bit_lt, bit_none}
use Rattle.packing.specs.Words.{Bytes}
use Rattle.rules.specs.State.{is_stored}
use Rattle.tables.specs.Layout.{map_at}
use Rattle.tables.specs.Packed.{unpack}

-- each of the four bits stands in the mask
four_bits : (j : ℕ) → j < 4 → bit 0x0080008000800080 (j * 16 + 7) ≡ 1
unfolding bit
four_bits zero l = refl
four_bits (suc zero) l = refl
four_bits (suc (suc zero)) l = refl
four_bits (suc (suc (suc zero))) l = refl
four_bits (suc (suc (suc (suc j)))) l = absurd (omega arith)

-- a bit of a word of which the mask leaves nothing
none_left : (w j : ℕ) → j < 4 → bit_and w 0x0080008000800080 ≡ 0 → bit w (j * 16 + 7) ≡ 0
none_left w j l h =
    sym (and_one (bit w (j * 16 + 7)) (bit_lt w (j * 16 + 7)))
    ∙ ap (bit_and (bit w (j * 16 + 7))) (sym (four_bits j l))
    ∙ sym (bit_and_law w 0x0080008000800080 (j * 16 + 7))
    ∙ ap (λ x. bit x (j * 16 + 7)) h
    ∙ bit_none (j * 16 + 7)

-- whether a page is stored, by a bit of the word that has it
stored_by : (t : List ℕ) → Bytes t → (f s p : ℕ) → f < 16 → s < 8 → p < 64 →
    is_stored (((unpack t).files f s).map p) ≡ is_one (bit (words_at t (map_at f s) (p / 4)) (p % 4 * 16 + 7))
stored_by t bs f s p hf hs hp =
    sym (mask_page is_stored ((unpack t).files f s).map p hp)
    ∙ ap (λ x. is_one (bit x (63 - p))) (sym (stored_mask t bs (map_at f s) ∙ file_mask is_stored t f s hf hs))
    ∙ ap is_one (stored_bit (words_at t (map_at f s)) p hp)

-- LAW
pub four_blank : (t : List ℕ) → Bytes t → (r g : ℕ) → r < 128 → g < 16 → four_stored t r g ≡ 0 →
    (i : ℕ) → r * 64 + g * 4 ≤ i → i < r * 64 + g * 4 + 4 → is_stored (entry_in (unpack t).files i) ≡ false
unfolding four_stored
four_blank t bs r g hr hg h i l k =
    let a : file_at i ≡ r % 16 = omega (arith, l, k, hg) in
    let b : set_at i ≡ r / 16 = omega (arith, l, k, hg) in
    let c : page_at i / 4 ≡ g = omega (arith, l, k, hg) in
    stored_by t bs (file_at i) (set_at i) (page_at i) (omega arith) (omega (arith, b, hr)) (omega arith)
    ∙ (λ j. is_one (bit (words_at t (map_at (a j) (b j)) (c j)) (page_at i % 4 * 16 + 7)))
    ∙ ap is_one (none_left (words_at t (map_at (r % 16) (r / 16)) g) (page_at i % 4) (omega arith) h)
