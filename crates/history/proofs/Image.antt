-- The image of a store in order: its tables and pages, and back. Assumes nothing.
use mathlib.Core.Bool.{false, true}
use mathlib.Core.Logic.{inl, inr, ◌⊎◌, ⊎_elim}
use mathlib.Core.Path.{ap, ap₂, fun_ext, refl, subst, sym, ◌∙◌, ◌≡◌}
use Prim.Native.Nat.{◌%◌, ◌*◌, ◌+◌, ◌/◌, ◌<◌, ℕ, ◌≤◌}
use native.Mathlib.Nat.{mul-le-mul_right}
use native.Mathlib.Omega.{arith}
use lib.Dec.{leb, ltb}
use lib.ListN.{get_or-eq_default, get_or, length}
use borrow.Author.Tests.{eq-eqb, leb-true, ltb-false, ltb-true}
use Rattle.base.specs.Logic.{and_left, and_right, same?, test?}
use Rattle.base.specs.Tabulate.{get_d_tab, length_tab}
use Rattle.history.specs.Image.{Image}
use Rattle.rules.proofs.Tree.SetsOk.{SetsOk, first_used, next_used, parent_below, used_below}
use Rattle.rules.proofs.Formed.Shape.{FileFits}
use Rattle.rules.proofs.Whole.Order.{InOrder, no_bit, order_blocks, order_sets, order_state}
use Rattle.rules.specs.Calls.{Store, tables_of, tree_in}
use Rattle.rules.specs.State.{Entry, File, absent_file, hole, is_absent, no_set, stored, unmapped}
use Rattle.rules.specs.Storage.{PageData, real}
use Rattle.rules.specs.WellFormed.{term_formed}
use Rattle.tables.proofs.PackUnpack.{pack_packed, unpack_pack}
use Rattle.tables.proofs.PackWords.{length_pack}
use Rattle.tables.proofs.PackedTables.{fields_formed_law, kinds_formed_law}
use Rattle.tables.specs.Calls.{pack_pages, pages_of, store_of}
use Rattle.tables.specs.OneReading.{Fits, SetFits, block_fits}
use Rattle.tables.specs.Packed.{block_rules, is_file, is_page, pack, set_rules, well_formed}

-- the tables and pages of a store
abbrev pub image_of : Store real → Image
image_of r = record { tables = pack (tables_of r); pages = pack_pages r.memory.blocks r.memory.pages }

-- ---- the pages

pub length_pages : (n : ℕ) (pg : ℕ → PageData) → length (pack_pages n pg) ≡ n * 512
unfolding pack_pages
length_pages n pg = length_tab (n * 512) (λ i. pg (i / 512) (i % 512))

pages_at : (n : ℕ) (pg : ℕ → PageData) (i : ℕ) → i < n * 512 → get_or (pack_pages n pg) i 0 ≡ pg (i / 512) (i % 512)
unfolding pack_pages
pages_at n pg i h = get_d_tab (n * 512) (λ i. pg (i / 512) (i % 512)) i 0 h

-- pages that are zero from byte 512 on and from block n on are read back
pages_back : (n : ℕ) (pg : ℕ → PageData) → ((b i : ℕ) → (512 ≤ i) ⊎ (n ≤ b) → pg b i ≡ 0) → pages_of (pack_pages n pg) ≡ pg
unfolding pages_of
pages_back n pg out = fun_ext (λ b. fun_ext (λ i.
    test? (ltb i 512)
    (λ e. let h = ltb-true i 512 e in rw e (at b i h))
    (λ e. rw e (sym (out b i (inl (ltb-false i 512 e)))))))
  where
    inside : (b i : ℕ) → i < 512 → b < n → get_or (pack_pages n pg) (b * 512 + i) 0 ≡ pg b i
    inside b i h k =
        let q : (b * 512 + i) / 512 ≡ b = omega arith in
        let m : (b * 512 + i) % 512 ≡ i = omega arith in
        let l : b * 512 + i < n * 512 = omega (arith, mul-le-mul_right 512 k) in
        pages_at n pg (b * 512 + i) l ∙ ap₂ pg q m

    at : (b i : ℕ) → i < 512 → get_or (pack_pages n pg) (b * 512 + i) 0 ≡ pg b i
    at b i h =
        test? (ltb b n) (λ e. inside b i h (ltb-true b n e))
        (λ e. let k = ltb-false b n e in
        get_or-eq_default (pack_pages n pg) 0 (omega (arith, length_pages n pg, mul-le-mul_right 512 k)) ∙ sym (out b i (inr k)))

-- ---- the tables

module _ (B : ℕ) (most : B ≤ 4096) (r : Store real) (o : InOrder B r) where
  sets_in : SetsOk r.sets
  sets_in = o.formed.sets_ok

  link_in : (k : ℕ) → (k ≡ no_set) ⊎ ((r.sets k).used ≡ true) → k < 16
  link_in k h = ⊎_elim (λ e. omega arith) (λ u. omega (arith, used_below r.sets sets_in k u)) h

  parent_in : (s : ℕ) → (r.sets s).used ≡ true → (r.sets s).parent < 16
  parent_in s u = same? s 0
      (λ e. subst (λ x. (r.sets x).parent < 16) (sym e) (omega (arith, sets_in.root_parent)))
      (λ n. omega (arith, parent_below r.sets sets_in s u n))

  term_in : (s : ℕ) → (r.sets s).used ≡ true → ((r.sets s).term.first_day < 65536) × ((r.sets s).term.end_day < 65536)
  unfolding term_formed
  term_in s u =
      let h = sets_in.terms s u in
      let a = ltb-true (r.sets s).term.first_day (r.sets s).term.end_day (and_left (ltb (r.sets s).term.first_day (r.sets s).term.end_day) (leb (r.sets s).term.end_day 36525) h) in
      let b = leb-true (r.sets s).term.end_day 36525 (and_right (ltb (r.sets s).term.first_day (r.sets s).term.end_day) (leb (r.sets s).term.end_day 36525) h) in
      (omega (arith, a, b), omega (arith, b))

  set_fits : (s : ℕ) → SetFits (r.sets s)
  set_fits s = test? (r.sets s).used
      (λ u. record {
        level_fits = omega (arith, sets_in.highest s);
        parent_fits = parent_in s u;
        child_fits = link_in (r.sets s).first_child (first_used r.sets sets_in s u);
        sibling_fits = link_in (r.sets s).next_sibling (next_used r.sets sets_in s u);
        first_fits = (term_in s u).0;
        end_fits = (term_in s u).1;
      })
      (λ u. rw (sets_in.blank s u) (record {
        level_fits = omega arith;
        parent_fits = omega arith;
        child_fits = omega arith;
        sibling_fits = omega arith;
        first_fits = omega arith;
        end_fits = omega arith;
      }))

  shape : (f s : ℕ) → FileFits (tree_in real r) s (r.files f s)
  shape f s = ((order_state B r o).files_ok f).shape s

  -- out of range
  absent_out : (f s : ℕ) → is_file f s ≡ false → r.files f s ≡ absent_file
  absent_out f s h = test? (ltb f 16)
      (λ e. (shape f s).empty ((shape f s).out (ltb-false s 8 (rw e at h))))
      (λ e. (shape f s).empty (ap (λ (x : File PageData). is_absent x.state) (o.formed.numbers f s (ltb-false f 16 e))))

  map_out : (f s p : ℕ) → is_page f s p ≡ false → (r.files f s).map p ≡ unmapped
  map_out f s p h = test? (is_file f s)
      (λ e. (shape f s).beyond p (ltb-false p 64 (rw e at h)))
      (λ e. ap (λ (x : File ℕ). x.map p) (absent_out f s e))

  block_in_law : (e : Entry ℕ) → ((b : ℕ) → e ≡ stored b → b < 16384) → block_fits e
  block_in_law unmapped h = tt
  block_in_law hole h = tt
  block_in_law (stored b) h = h b refl

  bit_out : (b : ℕ) → 4096 ≤ b → r.memory.bits b ≡ false
  bit_out b h = no_bit B r o b (omega arith)

  image_fits : Fits (tables_of r)
  image_fits = record {
    blocks_fit = omega (arith, o.kept.blocks);
    next_fits = omega (arith, o.kept.blocks, o.kept.blocks_ok.next);
    set_fits = set_fits;
    size_fits = λ f s. omega (arith, (shape f s).most);
    block_fits_law = λ f s p. block_in_law ((r.files f s).map p) (λ b e. omega (arith, (o.kept.blocks_ok.used f s p b e).below, o.kept.blocks));
    bit_out = bit_out;
    set_out = sets_in.out;
    state_out = λ f s h. ap (λ (x : File ℕ). x.state) (absent_out f s h);
    size_out = λ f s h. ap (λ (x : File ℕ). x.size) (absent_out f s h);
    map_out = map_out;
  }

  pub image_length : length (image_of r).pages ≡ B * 512
  image_length = length_pages r.memory.blocks r.memory.pages ∙ ap (λ n. n * 512) o.kept.blocks

  -- the store is read back from its image
  pub image_store : store_of (image_of r).tables (image_of r).pages ≡ r
  image_store =
      let a = unpack_pack (tables_of r) image_fits in
      let b = pages_back r.memory.blocks r.memory.pages o.kept.pages_in in
      λ i. record { memory = record { blocks = (a i).blocks; next = (a i).next; bits = (a i).bits; pages = b i }; sets = (a i).sets; files = (a i).files }

  -- the image is well formed
  pub image_formed : well_formed (image_of r).tables (length (image_of r).pages) ≡ true
  unfolding well_formed block_rules set_rules
  image_formed =
      let k = pack_packed (tables_of r) image_fits in
      let u = unpack_pack (tables_of r) image_fits in
      rw (
        image_length,
        u,
        kinds_formed_law (pack (tables_of r)) k,
        fields_formed_law (pack (tables_of r)) k,
        length_pack (tables_of r),
        order_blocks B r o most,
        order_sets B r o,
        o.kept.blocks,
        eq-eqb (B * 512) (B * 512) refl,
      )
