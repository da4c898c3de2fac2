-- The owners of the blocks in a window: what is noted, the window moved, and what an exchange keeps. Assumes nothing.
use mathlib.Core.Bool.{false, true, true≢false}
use mathlib.Core.List.{List}
use mathlib.Core.Path.{ap, refl, subst, sym, ◌∙◌, ◌≡◌}
use Prim.Native.Nat.{◌%◌, ◌*◌, ◌+◌, ◌-◌, ◌/◌, ◌<◌, suc, zero, ℕ, ◌≤◌}
use native.Mathlib.Omega.{arith}
use lib.Dec.{leb, ltb}
use lib.ListN.{get_or, length, length-set, set}
use lib.Seq.{get_or-set_other, get_or-set_same}
use borrow.Author.Tests.{le-leb, leb-true, lt-ltb, ltb-false, ltb-true}
use Rattle.base.specs.Logic.{and_left, and_right, same?, test?}
use Rattle.compaction.proofs.Counted.{place_once}
use Rattle.compaction.proofs.Places.{name_is, name_of}
use Rattle.compaction.specs.Compact.{entry_in, file_at, page_at, set_at}
use Rattle.compacting.proofs.Exchanges.{entry_was}
use Rattle.compacting.proofs.Swapping.{swap_left, swap_other, swap_twice}
use Rattle.compacting.specs.Exchange.{Lent, Owned, StoredHeld, Swap, may_hold, swapped}
use Rattle.compacting.specs.Owners.{Tracked, in_window, noted, noted_more, noted_none, noted_entry, noted_from, owners_at, window_at}
use Rattle.rules.specs.State.{Entry, Files, hole, is_stored, stored, unmapped}
use Rattle.tables.proofs.Codes.{formed_three, word_hole, word_stored, word_unmapped}
use Rattle.tables.proofs.ReadParts.{read_map}
use Rattle.tables.specs.Calls.{store_of}
use Rattle.tables.specs.Layout.{entry_word, read_entry}
use Rattle.tables.specs.Packed.{entry_formed, unpack}
use Rattle.tables.specs.Views.{PackedTables}

-- THE WINDOW
pub in_window_law : (w b : ℕ) → in_window w b ≡ true → (w ≤ b) × (b - w < 256)
unfolding in_window
in_window_law w b h = (leb-true w b (and_left (leb w b) (ltb (b - w) 256) h), ltb-true (b - w) 256 (and_right (leb w b) (ltb (b - w) 256) h))

in_window_of : (w b : ℕ) → w ≤ b → b - w < 256 → in_window w b ≡ true
unfolding in_window
in_window_of w b l h = rw (le-leb w b l, lt-ltb (b - w) 256 h)

in_own : (w : ℕ) → in_window w w ≡ true
in_own w = in_window_of w w (omega arith) (omega arith)

-- NOTED
module _ (owners : List ℕ) (w b o : ℕ) where
  length_noted : length (noted owners w b o) ≡ length owners
  unfolding noted
  length_noted = test? (in_window w b) (λ e. rw e (length-set owners (b - w) o)) (λ e. rw e)

  noted_here : length owners ≡ 256 → in_window w b ≡ true → get_or (noted owners w b o) (b - w) 0 ≡ o
  unfolding noted
  noted_here len h = rw h (get_or-set_same owners (b - w) o 0 (omega (arith, len, (in_window_law w b h).1)))

  noted_away : (x : ℕ) → in_window w x ≡ true → (b ≡ x → ⊥) → get_or (noted owners w b o) (x - w) 0 ≡ get_or owners (x - w) 0
  unfolding noted
  noted_away x h n =
      test? (in_window w b)
      (λ e. rw e (get_or-set_other owners (b - w) (x - w) o 0 (λ q. n (omega (arith, q, (in_window_law w b e).0, (in_window_law w x h).0)))))
      (λ e. rw e)

length_entry : (owners : List ℕ) (w : ℕ) (e : Entry ℕ) (o : ℕ) → length (noted_entry owners w e o) ≡ length owners
length_entry owners w unmapped o = refl
length_entry owners w hole o = refl
length_entry owners w (stored b) o = length_noted owners w b o

-- no block has two owners
one_owner : (t p : List ℕ) → Lent t p → (i j b : ℕ) → entry_in (unpack t).files i ≡ stored b → entry_in (unpack t).files j ≡ stored b → i ≡ j
one_owner t p h i j b = place_once (store_of t p) h.ok i j b

-- FILLED
module _ (t owners : List ℕ) (w n : ℕ) where
  length_from : (m : ℕ) → length (noted_from t owners w n m) ≡ length owners
  length_from zero = ap length (noted_none t owners w n)
  length_from (suc m) = ap length (noted_more t owners w n m) ∙ length_entry (noted_from t owners w n m) w (entry_in (unpack t).files (n + m)) (n + m) ∙ length_from m

  module _ (len : length owners ≡ 256) (once : (i j b : ℕ) → entry_in (unpack t).files i ≡ stored b → entry_in (unpack t).files j ≡ stored b → i ≡ j) where
    from_owner : (m i b : ℕ) → n ≤ i → i < n + m → entry_in (unpack t).files i ≡ stored b → in_window w b ≡ true → get_or (noted_from t owners w n m) (b - w) 0 ≡ i
    from_owner zero i b l h e v = absurd (omega (arith, l, h))
    from_owner (suc m) i b l h e v =
        ap (λ (k : List ℕ). get_or k (b - w) 0) (noted_more t owners w n m)
        ∙ one_more (λ q. from_owner m i b l (omega (arith, h, q)) e v) (entry_in (unpack t).files (n + m)) refl
      where
        -- the entry at the last place
        one_more : ((i ≡ n + m → ⊥) → get_or (noted_from t owners w n m) (b - w) 0 ≡ i) → (d : Entry ℕ) → entry_in (unpack t).files (n + m) ≡ d →
            get_or (noted_entry (noted_from t owners w n m) w d (n + m)) (b - w) 0 ≡ i
        one_more rest unmapped q = rest (λ k. true≢false (ap is_stored (sym e ∙ ap (entry_in (unpack t).files) k ∙ q)))
        one_more rest hole q = rest (λ k. true≢false (ap is_stored (sym e ∙ ap (entry_in (unpack t).files) k ∙ q)))
        one_more rest (stored y) q = same? y b
            (λ k. subst (λ z. get_or (noted (noted_from t owners w n m) w z (n + m)) (b - w) 0 ≡ i) (sym k)
            (noted_here (noted_from t owners w n m) w b (n + m) (length_from m ∙ len) v ∙ once (n + m) i b (q ∙ ap stored k) e))
            (λ k. noted_away (noted_from t owners w n m) w y (n + m) b v k ∙ rest (λ z. k (ap name_of (sym q ∙ ap (entry_in (unpack t).files) (sym z) ∙ e))))

-- one place after another, as the code notes them
module _ (t : List ℕ) (w : ℕ) where
  pub map_next : (owners one two : List ℕ) (n q : ℕ) (e : Entry ℕ) → one ≡ noted_from t owners w n q → e ≡ entry_in (unpack t).files (n + q) → two ≡ noted_entry one w e (n + q) →
      two ≡ noted_from t owners w n (q + 1)
  map_next owners one two n q e h d g =
      let a : suc q ≡ q + 1 = omega arith in
      g ∙ (λ i. noted_entry (h i) w (d i) (n + q)) ∙ sym (noted_more t owners w n q) ∙ ap (noted_from t owners w n) a

  -- places where nothing is stored
  pub noted_blank : (owners : List ℕ) (n m : ℕ) → ((i : ℕ) → n ≤ i → i < n + m → is_stored (entry_in (unpack t).files i) ≡ false) → noted_from t owners w n m ≡ owners
  noted_blank owners n zero h = noted_none t owners w n
  noted_blank owners n (suc m) h =
      noted_more t owners w n m ∙ go (entry_in (unpack t).files (n + m)) (h (n + m) (omega arith) (omega arith)) ∙ noted_blank owners n m (λ i l k. h i l (omega (arith, k)))
    where
      go : (e : Entry ℕ) → is_stored e ≡ false → noted_entry (noted_from t owners w n m) w e (n + m) ≡ noted_from t owners w n m
      go unmapped q = refl
      go hole q = refl
      go (stored b) q = absurd (true≢false q)

  -- places one after another
  noted_then : (owners : List ℕ) (n m j : ℕ) → noted_from t (noted_from t owners w n m) w (n + m) j ≡ noted_from t owners w n (m + j)
  noted_then owners n m zero = let a : m ≡ m + 0 = omega arith in noted_none t (noted_from t owners w n m) w (n + m) ∙ ap (noted_from t owners w n) a
  noted_then owners n m (suc j) =
      let a : suc (m + j) ≡ m + suc j = omega arith in
      let b : n + m + j ≡ n + (m + j) = omega arith in
      noted_more t (noted_from t owners w n m) w (n + m) j
      ∙ (λ i. noted_entry (noted_then owners n m j i) w (entry_in (unpack t).files (b i)) (b i))
      ∙ sym (noted_more t owners w n (m + j))
      ∙ ap (noted_from t owners w n) a

  pub fill_next : (owners one two : List ℕ) (f r : ℕ) → f ≤ r → one ≡ noted_from t owners w (f * 64) (r * 64 - f * 64) → two ≡ noted_from t one w (r * 64) 64 →
      two ≡ noted_from t owners w (f * 64) ((r + 1) * 64 - f * 64)
  fill_next owners one two f r l h g =
      let a : r * 64 ≡ f * 64 + (r * 64 - f * 64) = omega (arith, l) in
      let b : r * 64 - f * 64 + 64 ≡ (r + 1) * 64 - f * 64 = omega (arith, l) in
      g ∙ (λ i. noted_from t (h i) w (a i) 64) ∙ noted_then owners (f * 64) (r * 64 - f * 64) 64 ∙ ap (noted_from t owners w (f * 64)) b

  pub fill_none : (owners : List ℕ) (f : ℕ) → owners ≡ noted_from t owners w (f * 64) (f * 64 - f * 64)
  fill_none owners f = let z : 0 ≡ f * 64 - f * 64 = omega arith in sym (noted_none t owners w (f * 64)) ∙ ap (noted_from t owners w (f * 64)) z

  pub fill_done : (owners one : List ℕ) (f r : ℕ) → r ≡ 128 → one ≡ noted_from t owners w (f * 64) (r * 64 - f * 64) → one ≡ noted_from t owners w (f * 64) (8192 - f * 64)
  fill_done owners one f r e h = h ∙ ap (λ x. noted_from t owners w (f * 64) (x * 64 - f * 64)) e

-- the entry of a page of a record
pub entry_of : (files : ℕ → Files ℕ) (r q : ℕ) → q < 64 → (files (r % 16) (r / 16)).map q ≡ entry_in files (r * 64 + q)
entry_of files r q l =
    let a : r % 16 ≡ file_at (r * 64 + q) = omega (arith, l) in
    let b : r / 16 ≡ set_at (r * 64 + q) = omega (arith, l) in
    let c : q ≡ page_at (r * 64 + q) = omega (arith, l) in
    λ i. (files (a i) (b i)).map (c i)

-- four places more of a record
pub four_next : (t : List ℕ) (w : ℕ) (owners one two : List ℕ) (n g : ℕ) → one ≡ noted_from t owners w n (g * 4) → two ≡ noted_from t one w (n + g * 4) 4 →
    two ≡ noted_from t owners w n ((g + 1) * 4)
four_next t w owners one two n g h e =
    let a : g * 4 + 4 ≡ (g + 1) * 4 = omega arith in
    e ∙ (λ i. noted_from t (h i) w (n + g * 4) 4) ∙ noted_then t w owners n (g * 4) 4 ∙ ap (noted_from t owners w n) a

-- the word of an entry, as the code reads it
pub word_entry : (t : List ℕ) (r q x : ℕ) → r < 128 → q < 64 → x ≡ entry_word t (r % 16) (r / 16) q → read_entry x ≡ entry_in (unpack t).files (r * 64 + q)
word_entry t r q x hr hq e = ap read_entry e ∙ sym (read_map t (r % 16) (r / 16) q (omega arith) (omega (arith, hr)) hq) ∙ entry_of (unpack t).files r q hq

pub word_below : (t : List ℕ) (r q x : ℕ) → PackedTables t → r < 128 → q < 64 → x ≡ entry_word t (r % 16) (r / 16) q → x < 49152
word_below t r q x h hr hq e = test? (ltb x 49152) (λ d. ltb-true x 49152 d)
    (λ d. absurd (true≢false (sym (h.entry_ok (r % 16) (r / 16) q (omega arith) (omega (arith, hr)) hq) ∙ ap (entry_formed t) (sym e) ∙ formed_three t x (ltb-false x 49152 d))))

-- the word of a stored entry is 32,768 and its block: one number tells whether it is stored and its block in the window
module _ (owners : List ℕ) (w x o : ℕ) (h : x < 49152) (lw : w ≤ 4096) where
  -- an entry that is not stored
  word_low : x < 32768 → noted_entry owners w (read_entry x) o ≡ owners
  word_low l = test? (ltb x 16384) (λ d. rw (word_unmapped x (ltb-true x 16384 d))) (λ d. rw (word_hole x (ltb-false x 16384 d) l))

  pub word_away : ((x + 32768 - w) / 256 ≡ 256 → ⊥) → owners ≡ noted_entry owners w (read_entry x) o
  unfolding noted
  word_away n = test? (ltb x 32768) (λ e. sym (word_low (ltb-true x 32768 e)))
      (λ e. let l = ltb-false x 32768 e in
      let k : in_window w (x % 16384) ≡ false = test? (in_window w (x % 16384)) (λ d. let q = in_window_law w (x % 16384) d in absurd (n (omega (arith, q.0, q.1, l, h)))) (λ d. d) in
      sym (ap (λ y. noted_entry owners w y o) (word_stored x l) ∙ rw k))

  pub word_here : (x + 32768 - w) / 256 ≡ 256 → set owners ((x + 32768 - w) % 256) o ≡ noted_entry owners w (read_entry x) o
  unfolding noted
  word_here n = test? (ltb x 32768) (λ e. let l = ltb-true x 32768 e in absurd (omega (arith, n, l)))
      (λ e. let l = ltb-false x 32768 e in
      let b = x % 16384 in
      let d : (x + 32768 - w) % 256 ≡ b - w = omega (arith, n, l, h, lw) in
      let k : in_window w b ≡ true = in_window_of w b (omega (arith, n, l, h, lw)) (omega (arith, n, l, h, lw)) in
      ap (λ i. set owners i o) d ∙ sym (ap (λ y. noted_entry owners w y o) (word_stored x l) ∙ rw k))

-- the record of a file that can have no stored entry
pub record_blank : (t : List ℕ) (r : ℕ) → StoredHeld t → may_hold ((unpack t).files (r % 16) (r / 16)).state ≡ false →
    (i : ℕ) → r * 64 ≤ i → i < r * 64 + 64 → is_stored (entry_in (unpack t).files i) ≡ false
record_blank t r h e i l k = test? (is_stored (entry_in (unpack t).files i))
    (λ d. let x : file_at i ≡ r % 16 = omega (arith, l, k) in
    let y : set_at i ≡ r / 16 = omega (arith, l, k) in
    absurd (true≢false (sym (h (file_at i) (set_at i) (page_at i) _ (name_is (entry_in (unpack t).files i) d)) ∙ (λ j. may_hold ((unpack t).files (x j) (y j)).state) ∙ e)))
    (λ d. d)

-- THE WINDOW MOVED
window_in : (w k : ℕ) → in_window (window_at w k) k ≡ true
unfolding window_at
window_in w k = test? (in_window w k) (λ e. rw e e) (λ e. rw e (in_own k))

window_tracked : (t owners : List ℕ) (w n k : ℕ) (p : List ℕ) → Lent t p → n < 8192 → Tracked t owners w n → Tracked t (owners_at t owners w n k) (window_at w k) n
unfolding owners_at window_at
window_tracked t owners w n k p lent low h =
    test? (in_window w k) (λ e. rw e h)
    (λ e. rw e (record {
      long = length_from t owners k (n / 64 * 64) (8192 - n / 64 * 64) ∙ h.long;
      owner = λ i b l j d v. from_owner t owners k (n / 64 * 64) h.long (one_owner t p lent) (8192 - n / 64 * 64) i b (omega (arith, l)) (omega (arith, j, low)) d v;
    }))

-- what the window is, as the code has moved it: block k is in it, and its owners are right
pub record Moved (t owners : List ℕ) (w n k : ℕ) : Type 0 where
  pub holds : in_window w k ≡ true
  pub tracked : Tracked t owners w n

pub window_moved : (t p owners owners' : List ℕ) (w n k r : ℕ) → Lent t p → n < 8192 → Tracked t owners w n →
    (r ≡ window_at w k) × (owners' ≡ owners_at t owners w n k) → Moved t owners' r n k
window_moved t p owners owners' w n k r lent low h e = record {
  holds = ap (λ x. in_window x k) e.0 ∙ window_in w k;
  tracked = subst (λ x. Tracked t x r n) (sym e.1)
      (subst (λ x. Tracked t (owners_at t owners w n k) x n) (sym e.0) (window_tracked t owners w n k p lent low h));
}

-- the owner of block k, as the code looks it up
pub owner_found : (t owners : List ℕ) (w n k o : ℕ) → Moved t owners w n k → Owned t k n → o ≡ get_or owners (k - w) 0 → (o < 8192) × (entry_in (unpack t).files o ≡ stored k)
owner_found t owners w n k o m u e =
    let q : o ≡ u.place = e ∙ m.tracked.owner u.place k u.later u.low u.names m.holds in
    (omega (arith, q, u.low), ap (entry_in (unpack t).files) q ∙ u.names)

-- ONE PLACE MORE
module _ (t owners : List ℕ) (w n : ℕ) (h : Tracked t owners w n) where
  -- no entry has changed
  pub tracked_later : (m : ℕ) → n ≤ m → Tracked t owners w m
  tracked_later m k = record { long = h.long; owner = λ i b l. h.owner i b (omega (arith, k, l)) }

  pub tracked_next : Tracked t owners w (n + 1)
  tracked_next = tracked_later (n + 1) (omega arith)

  module _ (p t' p' : List ℕ) (k b : ℕ) (lent : Lent t p) (here : entry_in (unpack t).files n ≡ stored b) (s : Swap k b t p t' p') where
    before : (i x : ℕ) → entry_in (unpack t').files i ≡ stored x → entry_in (unpack t).files i ≡ stored (swapped k b x)
    before i x e = entry_was k b (store_of t p) (store_of t' p') s.exchanged (file_at i) (set_at i) (page_at i) x e

    later : (i x : ℕ) → n + 1 ≤ i → entry_in (unpack t).files i ≡ stored (swapped k b x) → b ≡ swapped k b x → ⊥
    later i x l e q = let z = one_owner t p lent n i b here (e ∙ ap stored (sym q)) in omega (arith, z, l)

    -- a block that is neither of the two
    stays : (x : ℕ) → (k ≡ swapped k b x → ⊥) → (b ≡ swapped k b x → ⊥) → swapped k b x ≡ x
    stays x m l = sym (swap_other k b (swapped k b x) m l) ∙ swap_twice k b x

    -- it gets a free block
    pub tracked_moved : (unpack t).bits k ≡ false → Tracked t' owners w (n + 1)
    tracked_moved unused = record {
      long = h.long;
      owner = λ i x l j e v.
          let f = before i x e in
          let q = stays x (λ d. true≢false (sym (lent.ok.used (file_at i) (set_at i) (page_at i) (swapped k b x) f).bit ∙ ap (unpack t).bits (sym d) ∙ unused)) (later i x l f) in
          h.owner i x (omega (arith, l)) j (f ∙ ap stored q) v;
    }

    -- it exchanges its block with a later entry's
    pub tracked_exchanged : (o : ℕ) → entry_in (unpack t).files o ≡ stored k → Tracked t' (noted owners w b o) w (n + 1)
    tracked_exchanged o there = record {
      long = length_noted owners w b o ∙ h.long;
      owner = λ i x l j e v. let f = before i x e in same? i o
          (λ q. let d : swapped k b x ≡ k = ap name_of (sym f ∙ ap (entry_in (unpack t).files) q ∙ there) in
          let z : b ≡ x = sym (swap_left k b) ∙ ap (swapped k b) (sym d) ∙ swap_twice k b x in
          subst (λ x. in_window w x ≡ true → get_or (noted owners w b o) (x - w) 0 ≡ i) z (λ v. noted_here owners w b o h.long v ∙ sym q) v)
          (λ q. let m = later i x l f in
          let d = stays x (λ d. q (one_owner t p lent i o k (f ∙ ap stored (sym d)) there)) m in
          noted_away owners w b o x v (λ c. m (c ∙ sym d)) ∙ h.owner i x (omega (arith, l)) j (f ∙ ap stored d) v);
    }

-- at the start no block is in the window
pub tracked_start : (t p owners : List ℕ) (w : ℕ) → Lent t p → (w ≡ 4096) × (length owners ≡ 256) → Tracked t owners w 0
tracked_start t p owners w h e = record {
  long = e.1;
  owner = λ i b l j d v. let u = (h.ok.used (file_at i) (set_at i) (page_at i) b d).below in let m = h.most in absurd (omega (arith, u, m, e.0, (in_window_law w b v).0));
}

-- the owners as the code notes them
pub tracked_noted : (t owners owners' : List ℕ) (w n b b' o : ℕ) → owners' ≡ noted owners w b' o → b' ≡ b → Tracked t (noted owners w b o) w n → Tracked t owners' w n
tracked_noted t owners owners' w n b b' o e q h = subst (λ x. Tracked t x w n) (sym (e ∙ ap (λ y. noted owners w y o) q)) h
