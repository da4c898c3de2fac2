-- When every place is done the store is the compacted one, but for its next start: what is in order is laid down anew as it is. Assumes nothing.
use mathlib.Core.Bool.{true}
use mathlib.Core.Logic.{inl, inr}
use mathlib.Core.Path.{ap, fun_ext, refl, sym, ◌∙◌, ◌≡◌}
use Prim.Native.Nat.{◌%◌, ◌<◌, ℕ}
use native.Mathlib.Omega.{arith}
use lib.Dec.{ltb}
use borrow.Author.Tests.{lt-ltb, ltb-false, ltb-true}
use Rattle.base.specs.Logic.{same_test, test?}
use Rattle.compaction.proofs.Anew.{before_contents, contents_kind, contents_page, pages_stay}
use Rattle.compaction.proofs.Counted.{named_low, named_place, rank_low}
use Rattle.compaction.proofs.Places.{entry_at, name_is, name_of, place_low}
use Rattle.compaction.proofs.Ranks.{rank_onto}
use Rattle.compaction.specs.Compact.{compacted, contents, entry_in, file_at, files_anew, free_pages, page_at, pages_anew, place_count, place_of, entry_anew, set_at, stored_before, used_blocks, with_page}
use Rattle.compacting.specs.Gathering.{InOrder}
use Rattle.rules.proofs.Blocks.GoodWork.{PagesIn}
use Rattle.rules.proofs.Blocks.RealStore.{BlocksOk}
use Rattle.rules.specs.Calls.{Store}
use Rattle.rules.specs.State.{Entry, hole, is_stored, stored, unmapped}
use Rattle.rules.specs.Storage.{PageData, real}

-- the page of a stored entry
abbrev page_of : Entry PageData → PageData → PageData
page_of unmapped d = d
page_of hole d = d
page_of (stored v) d = v

page_is : (v w : PageData) → ◌≡◌ {A = Entry PageData} (stored v) (stored w) → v ≡ w
page_is v w e = ap (λ (x : Entry PageData). page_of x v) e

-- the next start of a store
abbrev pub with_next : ℕ → Store real → Store real
with_next n r = record { memory = record { blocks = r.memory.blocks; next = n; bits = r.memory.bits; pages = r.memory.pages }; sets = r.sets; files = r.files }

module _ (r : Store real) (k : ℕ) (ok : BlocksOk r) (o : InOrder r place_count k) (zeros : PagesIn r.memory) where
  abbrev rank : ℕ → ℕ
  rank n = stored_before (contents r) n

  rank_is : (n b : ℕ) → n < place_count → entry_in r.files n ≡ stored b → b ≡ rank n
  rank_is n b l e = o.order n b l e ∙ sym (before_contents r n)

  used_is : used_blocks (contents r) ≡ k
  used_is = before_contents r place_count ∙ sym o.given

  files_stay : files_anew (contents r) ≡ r.files
  unfolding files_anew contents
  files_stay = λ i f s. record { state = (r.files f s).state; size = (r.files f s).size; map = λ p. go f s p ((r.files f s).map p) refl i }
    where
      go : (f s p : ℕ) (e : Entry ℕ) → (r.files f s).map p ≡ e → entry_anew (rank (place_of s f p)) (with_page r.memory.pages e) ≡ e
      go f s p unmapped q = refl
      go f s p hole q = refl
      go f s p (stored b) q =
          let l = named_low r ok f s p b q in
          ap stored (sym (rank_is (place_of s f p) b (place_low s f p l.1 l.0 l.2) (entry_at r.files s f p l.0 l.2 ∙ q)))

  free_stays : free_pages r.memory.blocks r.memory.pages ≡ r.memory.pages
  free_stays = fun_ext (λ b. fun_ext (λ i. test? (ltb b r.memory.blocks)
      (λ e. test? (ltb i 512) (λ d. rw (e, d)) (λ d. rw (e, d) (sym (zeros b i (inl (ltb-false i 512 d))))))
      (λ e. rw e (sym (zeros b i (inr (ltb-false b r.memory.blocks e)))))))

  pages_as : pages_anew (contents r) (free_pages r.memory.blocks r.memory.pages) place_count ≡ r.memory.pages
  pages_as =
      ap (λ (g : ℕ → PageData). pages_anew (contents r) g place_count) free_stays
      ∙ pages_stay (contents r) r.memory.pages place_count (λ n v l e.
      let h : is_stored (entry_in r.files n) ≡ true = sym (contents_kind r n) ∙ ap is_stored e in
      let b = name_of (entry_in r.files n) in
      let q : entry_in r.files n ≡ stored b = name_is (entry_in r.files n) h in
      page_is v (r.memory.pages b) (sym e ∙ contents_page r n b q) ∙ ap r.memory.pages (rank_is n b l q))

  bits_into : (b : ℕ) → b < used_blocks (contents r) → r.memory.bits b ≡ true
  unfolding stored_before
  bits_into b l =
      let z = rank_onto place_count (λ i. is_stored (entry_in (contents r) i)) b l in
      let n = z.0 in
      let q = name_is (entry_in r.files n) (sym (contents_kind r n) ∙ z.2) in
      let e : name_of (entry_in r.files n) ≡ b = rank_is n (name_of (entry_in r.files n)) z.1 q ∙ z.3 in
      (ok.used (file_at n) (set_at n) (page_at n) b (q ∙ ap stored e)).bit

  bits_onto : (b : ℕ) → r.memory.bits b ≡ true → b < used_blocks (contents r)
  bits_onto b h =
      let z = named_place r ok b (ok.only b h) in
      let l = rank_low r ok z.0 z.1 (ap is_stored z.2) in
      let e = o.order z.0 b z.1 z.2 in
      let u = before_contents r place_count in
      omega (arith, l, e, u)

  bits_as : (b : ℕ) → ltb b (used_blocks (contents r)) ≡ r.memory.bits b
  bits_as b = same_test _ _ (λ h. bits_into b (ltb-true b (used_blocks (contents r)) h)) (λ h. lt-ltb b (used_blocks (contents r)) (bits_onto b h))

  -- LAW: a store in order, compacted with its own pages as the free ones, is itself but for the next start
  pub in_order : compacted r.memory.pages r ≡ with_next (k % r.memory.blocks) r
  unfolding compacted
  in_order = λ i. record {
    memory = record { blocks = r.memory.blocks; next = used_is i % r.memory.blocks; bits = λ b. bits_as b i; pages = pages_as i };
    sets = r.sets;
    files = files_stay i;
  }
