-- The rules on a file that concern no other, in the order of the code's tests. Assumes nothing.
use mathlib.Core.Bool.{◌&&◌, Bool, false, not, true, ◌||◌}
use mathlib.Core.List.{List}
use mathlib.Core.Path.{ap, refl, sym, ◌∙◌, ◌≡◌}
use Prim.Native.Nat.{◌%◌, ◌/◌, ◌<◌, suc, zero, ℕ}
use native.Mathlib.Omega.{arith}
use lib.Dec.{eqb}
use borrow.Author.Tests.{le-leb, lt-leb, ne_eqb}
use Rattle.base.specs.Logic.{and_both, and_left, and_right, and_true, or_right}
use Rattle.masks.proofs.PageMasks.{mask_all, mask_some}
use Rattle.masks.specs.Pages.{page_mask}
use Rattle.formed.specs.Files.{alone_formed, file_alone, head_formed, state_formed}
use Rattle.packing.specs.Fields.{get_field}
use Rattle.rules.specs.Reading.{some_unmapped}
use Rattle.rules.specs.State.{Entry, File, absent, is_absent, is_marked, is_unmapped}
use Rattle.rules.specs.WellFormed.{all_pages, root_file_formed, size_formed, virgin_formed, zero_file}
use Rattle.tables.proofs.ReadParts.{read_size_law, read_state_law}
use Rattle.tables.specs.Layout.{head_widths, head_word, read_size, read_state, state_of}
use Rattle.tables.specs.Packed.{unpack}

or_true : (a : Bool) → (a || true) ≡ true
or_true a = or_right a true refl

-- ---- a file by the word of its head
zero_field : (w : ℕ) → get_field head_widths w 2 ≡ w % 16384
zero_field w = omega arith

pub size_field : (w : ℕ) → read_size w ≡ w / 16384 % 65536
unfolding read_size
size_field w = omega arith

alone_absent : (older : Bool) (n : ℕ) (every any used root : Bool) → alone_formed older 0 absent n every any used root ≡ (eqb n 0 && every)
unfolding alone_formed state_formed
alone_absent older (suc n) every any used root = rw (ne_eqb (suc n) 0 (λ e. omega arith))
alone_absent older zero false any used root = refl
alone_absent older zero true any true true = rw (or_true older)
alone_absent older zero true any true false = rw (or_true older)
alone_absent older zero true any false true = rw (or_true older)
alone_absent older zero true any false false = rw (or_true older)

not_absent : (k : ℕ) → (k ≡ 0 → ⊥) → is_absent (state_of k) ≡ false
not_absent zero n = absurd (n refl)
not_absent (suc zero) n = refl
not_absent (suc (suc zero)) n = refl
not_absent (suc (suc (suc k))) n = refl

module _ (older : Bool) (w u : ℕ) (used root : Bool) where
  pub head_zeros : (w % 16384 ≡ 0 → ⊥) → false ≡ head_formed older w u used root
  unfolding head_formed alone_formed
  head_zeros h = rw (ne_eqb (get_field head_widths w 2) 0 (λ e. h (sym (zero_field w) ∙ e)))

  module _ (z : w % 16384 ≡ 0) (k n : ℕ) (ek : k ≡ w / 1073741824) (en : n ≡ w / 16384 % 65536) where
    parts : head_formed older w u used root ≡ alone_formed older 0 (state_of k) n (eqb u 18446744073709551615) (not (eqb u 0)) used root
    unfolding head_formed
    parts = λ i. alone_formed older ((zero_field w ∙ z) i) (state_of (sym ek i)) ((size_field w ∙ sym en) i) (eqb u 18446744073709551615) (not (eqb u 0)) used root

    pub head_absent : (b : Bool) → k ≡ 0 → b ≡ (eqb n 0 && eqb u 18446744073709551615) → b ≡ head_formed older w u used root
    head_absent b e q =
        q ∙ sym (parts ∙ ap (λ x. alone_formed older 0 (state_of x) n (eqb u 18446744073709551615) (not (eqb u 0)) used root) e
        ∙ alone_absent older n (eqb u 18446744073709551615) (not (eqb u 0)) used root)

    pub head_unused : (k ≡ 0 → ⊥) → used ≡ false → false ≡ head_formed older w u used root
    unfolding alone_formed
    head_unused h r = sym (parts ∙ rw (not_absent k h, r))

    pub head_over : (k ≡ 0 → ⊥) → used ≡ true → 32768 < n → false ≡ head_formed older w u used root
    unfolding alone_formed
    head_over h r l = sym (parts ∙ rw (not_absent k h, r, lt-leb n 32768 l))

    pub head_state : (b : Bool) → (k ≡ 0 → ⊥) → used ≡ true → n < 32769 → b ≡ state_formed older (state_of k) n (eqb u 18446744073709551615) (not (eqb u 0)) root
        → b ≡ head_formed older w u used root
    unfolding alone_formed
    head_state b h r l q = q ∙ sym (parts ∙ rw (not_absent k h, r, le-leb n 32768 (omega arith)))

  -- LAW: a head that is 0
  pub head_zero : w ≡ 0 → eqb u 18446744073709551615 ≡ head_formed older w u used root
  head_zero z =
      head_absent (ap (λ x. x % 16384) z) 0 0 (sym (ap (λ x. x / 1073741824) z)) (sym (ap (λ x. x / 16384 % 65536) z)) (eqb u 18446744073709551615) refl refl

-- LAW: the head of a virgin file of size 0
pub head_virgin : (older : Bool) (u : ℕ) (used root : Bool) → head_formed older 2147483648 u used root ≡ (used && (eqb u 18446744073709551615 && not root))
unfolding head_formed alone_formed state_formed read_size
head_virgin older u true true = ap (λ x. eqb u 18446744073709551615 && x && false) (or_true older) ∙ ap (λ x. x && false) (and_true (eqb u 18446744073709551615))
head_virgin older u true false = ap (λ x. eqb u 18446744073709551615 && x && true) (or_true older) ∙ and_true (eqb u 18446744073709551615 && true)
head_virgin older u false true = refl
head_virgin older u false false = refl

-- ---- a file of the tables
-- LAW: a file that passes does so by the rules of older tables too
and_older : (a v m r : Bool) → (a && (v && m && r)) ≡ true → (a && (v && true && r)) ≡ true
and_older a v m r h =
    let b = and_right a (v && m && r) h in
    and_both a (v && true && r) (and_left a (v && m && r) h) (and_both (v && true) r (and_both v true (and_left v m (and_left (v && m) r b)) refl) (and_right (v && m) r b))

pub older_alone : (t : List ℕ) (older : Bool) (f s : ℕ) → file_alone t older f s ≡ true → file_alone t true f s ≡ true
unfolding file_alone
older_alone t older f s h =
    let x : File ℕ = (unpack t).files f s in
    and_older
    (eqb (get_field head_widths (head_word t f s) 2) 0 && (not (is_absent x.state) || zero_file x) && (((unpack t).sets s).used || is_absent x.state) && size_formed x)
    (virgin_formed x) (older || (not (is_marked x.state) || zero_file x)) (not (eqb s 0) || root_file_formed x) h

-- LAW: some page is unmapped where the mask is not 0
pub some_unmapped_law : (u : ℕ) (map : ℕ → Entry ℕ) → u ≡ page_mask is_unmapped map → not (eqb u 0) ≡ some_unmapped 64 map
some_unmapped_law u map d = ap (λ x. not (eqb x 0)) d ∙ mask_some map

module _ (t : List ℕ) (f s w u : ℕ) (lf : f < 16) (ls : s < 8) (e : w ≡ head_word t f s) (d : u ≡ page_mask is_unmapped ((unpack t).files f s).map) where
  every_is : eqb u 18446744073709551615 ≡ all_pages (λ p. is_unmapped (((unpack t).files f s).map p))
  unfolding all_pages
  every_is = ap (λ x. eqb x 18446744073709551615) d ∙ mask_all is_unmapped ((unpack t).files f s).map

  pub state_is : state_of (w / 1073741824) ≡ ((unpack t).files f s).state
  unfolding read_state
  state_is = ap read_state e ∙ sym (read_state_law t f s lf ls)

  pub size_is : read_size w ≡ ((unpack t).files f s).size
  size_is = ap read_size e ∙ sym (read_size_law t f s lf ls)

  module _ (older : Bool) where
    head_is : head_formed older w u ((unpack t).sets s).used (eqb s 0) ≡ file_alone t older f s
    unfolding head_formed file_alone alone_formed state_formed
    head_is = λ i. alone_formed older (get_field head_widths (e i) 2) (state_is i) (size_is i) (every_is i) (some_unmapped_law u ((unpack t).files f s).map d i) ((unpack t).sets s).used (eqb s 0)

    -- LAW: a head that is 0
    pub alone_zero : w ≡ 0 → eqb u 18446744073709551615 ≡ file_alone t older f s
    alone_zero z = head_zero older w u ((unpack t).sets s).used (eqb s 0) z ∙ head_is

    -- LAW: any head
    pub alone_head : (used b : Bool) → used ≡ ((unpack t).sets s).used → b ≡ head_formed older w u used (eqb s 0) → b ≡ file_alone t older f s
    alone_head used b q h = h ∙ ap (λ x. head_formed older w u x (eqb s 0)) q ∙ head_is
