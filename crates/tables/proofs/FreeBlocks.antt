-- The bitmap of the tables and the bits of the state: the first free block, the number of free blocks, and a block that is taken. Assumes nothing.
use mathlib.Core.Bool.{false, not, true}
use mathlib.Core.List.{List}
use mathlib.Core.Option.{none, some}
use mathlib.Core.Path.{ap, refl, sym, ◌∙◌, ◌≡◌}
use Prim.Native.Nat.{◌%◌, ◌+◌, ◌<◌, ℕ, ◌≤◌}
use native.Mathlib.Omega.{arith}
use Rattle.std.specs.Prelude.{None, Option, Some}
use lib.Dec.{leb}
use borrow.Author.Tests.{le-leb, leb-false, leb-true, lt-leb}
use Rattle.base.specs.Count.{count, count_cut, count_not, count_same}
use Rattle.base.specs.Logic.{test?}
use Rattle.base.specs.Search.{first_found, first_same, first_says, first_free, Free}
use Rattle.packing.specs.Bitmap.{bit_at, set_bit}
use Rattle.packing.specs.FirstFree.{found_at, found_none, found_of}
use Rattle.rules.specs.State.{largest_blocks}
use Rattle.tables.proofs.ReadParts.{read_bit}
use Rattle.tables.proofs.Written.{bit_set}
use Rattle.tables.specs.Layout.{bitmap_at}
use Rattle.tables.specs.Packed.{unpack}
use Rattle.tables.specs.Views.{HeaderIn, PackedTables, Took, Turns, put_bit_in, put_next_in, took}

-- ---- free blocks

-- LAW: the set bits of the map's first n blocks, which are all or more, and the free blocks are all blocks
pub free_count : (t : List ℕ) (n : ℕ) → (unpack t).blocks ≤ n → n ≤ largest_blocks → ((b : ℕ) → (unpack t).blocks ≤ b → (unpack t).bits b ≡ false)
    → count n (bit_at t bitmap_at) + count (unpack t).blocks (λ b. not ((unpack t).bits b)) ≡ (unpack t).blocks
free_count t n all most out =
    let a = count_same n (unpack t).bits (bit_at t bitmap_at) (λ b l. sym (read_bit t b (omega arith))) in
    let e = count_cut n (unpack t).blocks (unpack t).bits all out in
    omega (arith, count_not (unpack t).blocks (unpack t).bits)

-- as much more is asked as there is
leb_more : (a x d a' x' : ℕ) → a' ≡ a + d → x' ≡ x + d → leb a' x' ≡ leb a x
leb_more a x d a' x' ea ex =
    test? (leb a x) (λ e. le-leb a' x' (omega (arith, leb-true a x e)) ∙ sym e) (λ e. lt-leb a' x' (omega (arith, leb-false a x e)) ∙ sym e)

-- LAW: the clear bits of the map's first n blocks are enough for the need and for those from B on exactly where the free blocks are enough for the need
pub enough_free : (t : List ℕ) (n d need : ℕ) → n ≡ (unpack t).blocks + d → n ≤ largest_blocks → ((b : ℕ) → (unpack t).blocks ≤ b → (unpack t).bits b ≡ false)
    → leb (need + d) (count n (λ b. not (bit_at t bitmap_at b))) ≡ leb need (count (unpack t).blocks (λ b. not ((unpack t).bits b)))
enough_free t n d need e most out =
    leb_more need _ d _ _ refl (omega (arith, count_not n (bit_at t bitmap_at), free_count t n (omega arith) most out))

-- the block that the code finds, in the words of the state
module _ (t : List ℕ) (limit start : ℕ) (r : Option ℕ) (h : HeaderIn (unpack t)) (el : limit ≡ (unpack t).blocks) (es : start ≡ (unpack t).next)
    (found : r ≡ found_of (first_free limit (bit_at t bitmap_at) start)) where
  same_answer : r ≡ found_of (first_free (unpack t).blocks (unpack t).bits (unpack t).next)
  same_answer =
      found ∙ (λ i. found_of (first_free (el i) (bit_at t bitmap_at) (es i)))
      ∙ ap found_of (first_same (unpack t).blocks (unpack t).bits (bit_at t bitmap_at) (unpack t).next h.next_in
      (λ b l. sym (read_bit t b (omega (arith, h.most)))))

  -- LAW: a block that the code finds is the first free one of the state
  pub found_first : (b : ℕ) → r ≡ Some b → first_free (unpack t).blocks (unpack t).bits (unpack t).next ≡ some b
  found_first b e = found_at _ b (sym same_answer ∙ e)

  -- LAW: where a block is free, one is found
  pub found_some : 0 < count (unpack t).blocks (λ b. not ((unpack t).bits b)) → r ≡ None → ⊥
  found_some some_free e =
      let q = found_none _ (sym same_answer ∙ e) in
      let x = first_found (unpack t).blocks (unpack t).bits (unpack t).next h.next_in some_free in
      let w : some x.0 ≡ none = sym x.1 ∙ q in
      let z : ◌≡◌ {A = ℕ} 0 1 = cc in
      omega arith

-- ---- a block is taken

module _ (t : List ℕ) (b : ℕ) (h : PackedTables t) (hd : HeaderIn (unpack t))
    (first : first_free (unpack t).blocks (unpack t).bits (unpack t).next ≡ some b) where
  first_free_law : Free (unpack t).blocks (unpack t).bits b
  first_free_law = first_says (unpack t).blocks (unpack t).bits (unpack t).next b hd.next_in first

  pub first_below : b < (unpack t).blocks
  first_below = first_free_law.below

  pub first_lt : b < largest_blocks
  first_lt = omega (arith, first_free_law.below, hd.most)

  -- its bit is set
  pub bit_taken : (u : List ℕ) → u ≡ set_bit t bitmap_at b → Turns t u (put_bit_in b true)
  bit_taken u e = bit_set t u b (h, first_lt) e

  -- LAW: its bit is set and next start is moved: the block is taken
  pub block_taken : (u v : List ℕ) (limit x : ℕ) → limit ≡ (unpack t).blocks → x ≡ (b + 1) % limit → u ≡ set_bit t bitmap_at b → Turns u v (put_next_in x) → Took t v b
  unfolding took
  block_taken u v limit x el ex e n = record {
    first = first;
    below = first_free_law.below;
    unused = first_free_law.unused;
    turns = record {
      view = n.view ∙ (λ i. put_next_in ((ex ∙ ap (λ y. (b + 1) % y) el) i) ((bit_taken u e).view i));
      packed = n.packed;
    };
  }
