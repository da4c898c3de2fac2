-- Four entries read as one word: one of them is unmapped as the word says. Assumes nothing.
use mathlib.Core.Bool.{Bool, false, true, ◌||◌}
use mathlib.Core.List.{List}
use mathlib.Core.Path.{ap, refl, sym, ◌∙◌, ◌≡◌}
use Prim.Native.Nat.{◌%◌, ◌*◌, ◌+◌, ◌-◌, ◌/◌, ◌<◌, suc, ℕ, ◌≤◌}
use native.Mathlib.Omega.{arith}
use lib.Dec.{ltb}
use borrow.Author.Tests.{ltb-false, ltb-true}
use Rattle.base.specs.Logic.{test?}
use Rattle.maps.specs.FourEntries.{unmapped_among}
use Rattle.packing.specs.Words.{Bytes, get_lt, get_word}
use Rattle.rules.specs.Reading.{some_unmapped}
use Rattle.rules.specs.State.{Entry, file_count, is_unmapped, page_count, set_count}
use Rattle.tables.proofs.Codes.{word_hole, word_stored, word_unmapped}
use Rattle.tables.proofs.ReadParts.{read_map}
use Rattle.tables.specs.Layout.{entry_at, map_at, read_entry}
use Rattle.tables.specs.Packed.{unpack}

-- an entry is unmapped when its word is below 16,384
pub unmapped_word : (w : ℕ) → is_unmapped (read_entry w) ≡ ltb w 16384
unmapped_word w =
    test? (ltb w 16384)
    (λ e. rw (e, word_unmapped w (ltb-true w 16384 e)))
    (λ e. test? (ltb w 32768)
    (λ k. rw (e, word_hole w (ltb-false w 16384 e) (ltb-true w 32768 k)))
    (λ k. rw (e, word_stored w (ltb-false w 32768 k))))

-- a word of 64 bits is four of 16
four_words : (t : List ℕ) (at : ℕ) → get_word 7 t at ≡ ((get_word 1 t at * 65536 + get_word 1 t (at + 2)) * 65536 + get_word 1 t (at + 4)) * 65536 + get_word 1 t (at + 6)
unfolding get_word
four_words t at =
    let a : at + 2 + 1 ≡ at + 3 = omega arith in
    let b : at + 4 + 1 ≡ at + 5 = omega arith in
    let c : at + 6 + 1 ≡ at + 7 = omega arith in
    rw (a, b, c) (omega arith)

-- the parts of a word of 64 bits
among_parts : (a b c d w : ℕ) → b < 65536 → c < 65536 → d < 65536 → w ≡ ((a * 65536 + b) * 65536 + c) * 65536 + d
    → unmapped_among w ≡ (ltb d 16384 || (ltb c 16384 || (ltb b 16384 || ltb a 16384)))
unfolding unmapped_among
among_parts a b c d w hb hc hd e =
    let q1 : w % 65536 ≡ d = omega arith in
    let x2 : w / 65536 ≡ (a * 65536 + b) * 65536 + c = omega arith in
    let x3 : w / 4294967296 ≡ a * 65536 + b = omega arith in
    let q2 : w / 65536 % 65536 ≡ c = rw x2 (omega arith) in
    let q3 : w / 4294967296 % 65536 ≡ b = rw x3 (omega arith) in
    let q4 : w / 281474976710656 ≡ a = omega arith in
    rw (q1, q2, q3, q4)

-- the last four of n + 4 entries
some_four : (m : ℕ → Entry ℕ) (n : ℕ) (a b c d : Bool) → is_unmapped (m n) ≡ a → is_unmapped (m (n + 1)) ≡ b → is_unmapped (m (n + 2)) ≡ c → is_unmapped (m (n + 3)) ≡ d
    → some_unmapped (n + 4) m ≡ ((d || (c || (b || a))) || some_unmapped n m)
unfolding some_unmapped
some_four m n a b c d ea eb ec ed =
    let q1 : n + 1 ≡ suc n = omega arith in
    let q2 : n + 2 ≡ suc (suc n) = omega arith in
    let q3 : n + 3 ≡ suc (suc (suc n)) = omega arith in
    let q4 : n + 4 ≡ suc (suc (suc (suc n))) = omega arith in
    let fb : is_unmapped (m (suc n)) ≡ b = ap (λ x. is_unmapped (m x)) (sym q1) ∙ eb in
    let fc : is_unmapped (m (suc (suc n))) ≡ c = ap (λ x. is_unmapped (m x)) (sym q2) ∙ ec in
    let fd : is_unmapped (m (suc (suc (suc n)))) ≡ d = ap (λ x. is_unmapped (m x)) (sym q3) ∙ ed in
    rw (q4, fd, fc, fb, ea) (assoc d c b a (some_unmapped n m))
  where
    assoc : (d c b a x : Bool) → (d || (c || (b || (a || x)))) ≡ ((d || (c || (b || a))) || x)
    assoc true c b a x = refl
    assoc false true b a x = refl
    assoc false false true a x = refl
    assoc false false false true x = refl
    assoc false false false false x = refl

module _ (t : List ℕ) (f s : ℕ) (hf : f < file_count) (hs : s < set_count) where
  entry_unmapped : (p at : ℕ) → p < page_count → at ≡ entry_at f s p → is_unmapped (((unpack t).files f s).map p) ≡ ltb (get_word 1 t at) 16384
  entry_unmapped p at hp e = ap is_unmapped (read_map t f s p hf hs hp ∙ ap (λ x. read_entry (get_word 1 t x)) (sym e)) ∙ unmapped_word (get_word 1 t at)

  -- LAW: the word at entry n tells of the entries from n to n + 3
  pub four_entries : (n w : ℕ) → Bytes t → n + 4 ≤ page_count → w ≡ get_word 7 t (entry_at f s n)
      → some_unmapped (n + 4) ((unpack t).files f s).map ≡ (unmapped_among w || some_unmapped n ((unpack t).files f s).map)
  four_entries n w bs h e =
      let at : ℕ = entry_at f s n in
      let m : ℕ → Entry ℕ = ((unpack t).files f s).map in
      some_four m n (ltb (get_word 1 t at) 16384) (ltb (get_word 1 t (at + 2)) 16384) (ltb (get_word 1 t (at + 4)) 16384) (ltb (get_word 1 t (at + 6)) 16384)
      (entry_unmapped n at (omega arith) (omega arith))
      (entry_unmapped (n + 1) (at + 2) (omega arith) (omega arith))
      (entry_unmapped (n + 2) (at + 4) (omega arith) (omega arith))
      (entry_unmapped (n + 3) (at + 6) (omega arith) (omega arith))
      ∙ ap (λ (b : Bool). b || some_unmapped n m)
      (sym (among_parts (get_word 1 t at) (get_word 1 t (at + 2)) (get_word 1 t (at + 4)) (get_word 1 t (at + 6)) w
      (get_lt 1 t (at + 2) bs) (get_lt 1 t (at + 4) bs) (get_lt 1 t (at + 6) bs) (e ∙ four_words t at)))

  -- a turn of the loop: the first n words of four entries are left, and the last of them is w
  module _ (n w : ℕ) (bs : Bytes t) (l : 0 < n) (h : n ≤ 16) (e : w ≡ get_word 7 t (map_at f s + (n - 1) * 8)) where
    last_four : some_unmapped (4 * n) ((unpack t).files f s).map ≡ (unmapped_among w || some_unmapped (4 * (n - 1)) ((unpack t).files f s).map)
    last_four =
        let q : 4 * n ≡ 4 * (n - 1) + 4 = omega arith in
        let at : map_at f s + (n - 1) * 8 ≡ entry_at f s (4 * (n - 1)) = omega arith in
        ap (λ x. some_unmapped x ((unpack t).files f s).map) q ∙ four_entries (4 * (n - 1)) w bs (omega arith) (e ∙ ap (get_word 7 t) at)

    pub four_here : unmapped_among w ≡ true → some_unmapped (4 * n) ((unpack t).files f s).map ≡ true
    four_here q = last_four ∙ rw q

    pub four_down : unmapped_among w ≡ false → some_unmapped (4 * n) ((unpack t).files f s).map ≡ some_unmapped (4 * (n - 1)) ((unpack t).files f s).map
    four_down q = last_four ∙ rw q

pub some_none : (m : ℕ → Entry ℕ) (n : ℕ) → n ≡ 0 → some_unmapped n m ≡ false
unfolding some_unmapped
some_none m n e = rw e
