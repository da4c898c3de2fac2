-- THE COMPACTED STORE: its blocks are in order, its model is the same, used blocks before and after go together one by one. Assumes nothing.
use mathlib.Core.Bool.{true}
use mathlib.Core.Logic.{inl, ◌⊎◌, ⊎_elim}
use mathlib.Core.Path.{◌≡◌, ap, refl, subst, sym, ◌∙◌}
use Prim.Native.Nat.{◌%◌, ◌+◌, ◌<◌, ℕ, ◌≤◌}
use native.Mathlib.Nat.{mod-lt}
use native.Mathlib.Omega.{arith}
use lib.Dec.{ltb}
use borrow.Author.Tests.{le-ltb, lt-ltb, ltb-true}
use Rattle.base.specs.Count.{count, count_all, count_cut, count_not}
use Rattle.base.specs.Logic.{and_false}
use Rattle.compaction.proofs.Anew.{before_contents, contents_kind, contents_page, number_is, number_kind, number_of, page_all, page_at_law, page_kind}
use Rattle.compaction.proofs.Counted.{named_low, rank_low, used_count, used_free, used_most}
use Rattle.compaction.proofs.Places.{entry_at, name_is, name_of, place_back, place_low}
use Rattle.compaction.proofs.Ranks.{rank_apart, rank_less, rank_onto}
use Rattle.compaction.specs.Compact.{compacted, contents, entry_in, file_at, files_anew, free_pages, laid_anew, page_at, place_count, place_of, entry_anew, set_at, stored_before, used_blocks, with_page}
use Rattle.compaction.specs.Renumbered.{ComesBefore, Renumbered, used_in}
use Rattle.rules.proofs.Blocks.GoodWork.{PagesIn}
use Rattle.rules.proofs.Blocks.RealStore.{BlocksOk, Placed, RealKept}
use Rattle.rules.proofs.Formed.ModelFormed.{ModelFormed}
use Rattle.rules.proofs.Storages.CountCalls.{model_of}
use Rattle.rules.proofs.Storages.MapBlocks.{map_entry}
use Rattle.rules.proofs.Whole.Order.{InOrder}
use Rattle.rules.specs.Calls.{Store}
use Rattle.rules.specs.State.{Entry, hole, is_stored, is_unmapped, stored, unmapped}
use Rattle.rules.specs.Storage.{PageData, free_blocks, real}

-- the page, and the block, of a stored entry
abbrev page_of : Entry PageData → PageData → PageData
page_of unmapped d = d
page_of hole d = d
page_of (stored v) d = v

page_is : {v w : PageData} → ◌≡◌ {A = Entry PageData} (stored v) (stored w) → w ≡ v
page_is {v} e = sym (ap (λ (x : Entry PageData). page_of x v) e)

stored_one : {a b : ℕ} → ◌≡◌ {A = Entry ℕ} (stored a) (stored b) → a ≡ b
stored_one e = ap name_of e

-- of the numbers below B, n are below n
count_below : (B n : ℕ) → n ≤ B → count B (λ b. ltb b n) ≡ n
count_below B n l = count_cut B n (λ b. ltb b n) l (λ b k. le-ltb b n k) ∙ count_all n (λ b. ltb b n) (λ b k. lt-ltb b n k)

module _ (free : ℕ → PageData) (r : Store real) where
  abbrev anew : Store real
  anew = laid_anew free r (contents r)

  abbrev at : ℕ → ℕ → ℕ → ℕ
  at f s p = stored_before (contents r) (place_of s f p)

  -- an entry afterwards, by the one before
  pub entry_anew_law : (f s p : ℕ) → (anew.files f s).map p ≡ entry_anew (at f s p) (with_page r.memory.pages ((r.files f s).map p))
  unfolding files_anew contents
  entry_anew_law f s p = refl

  state_anew : (f s : ℕ) → (anew.files f s).state ≡ (r.files f s).state
  unfolding files_anew contents
  state_anew f s = refl

  size_anew : (f s : ℕ) → (anew.files f s).size ≡ (r.files f s).size
  unfolding files_anew contents
  size_anew f s = refl

  kind_anew : (f s p : ℕ) → is_stored ((anew.files f s).map p) ≡ is_stored ((r.files f s).map p)
  kind_anew f s p =
      ap is_stored (entry_anew_law f s p) ∙ number_kind (at f s p) (with_page r.memory.pages ((r.files f s).map p)) ∙ page_kind r.memory.pages ((r.files f s).map p)

  -- an entry that names a block afterwards named one before, and the new one is its rank
  pub anew_is : (f s p b : ℕ) → (anew.files f s).map p ≡ stored b → (b ≡ at f s p) × ((r.files f s).map p ≡ stored (name_of ((r.files f s).map p)))
  anew_is f s p b e =
      let k : is_stored ((r.files f s).map p) ≡ true = sym (kind_anew f s p) ∙ ap is_stored e in
      ((number_is (at f s p) (with_page r.memory.pages ((r.files f s).map p)) b (sym (entry_anew_law f s p) ∙ e)).0, name_is ((r.files f s).map p) k)

  pub anew_of : (f s p b : ℕ) → (r.files f s).map p ≡ stored b → (anew.files f s).map p ≡ stored (at f s p)
  anew_of f s p b e =
      entry_anew_law f s p ∙ number_of (at f s p) (with_page r.memory.pages ((r.files f s).map p)) (page_kind r.memory.pages ((r.files f s).map p) ∙ ap is_stored e)

  module _ (ok : BlocksOk r) where
    abbrev used : ℕ
    used = used_blocks (contents r)

    used_same : used ≡ used_blocks r.files
    used_same = before_contents r place_count

    -- the rank of an entry that names a block is below the used ones, and those are at most B
    at_low : (f s p b : ℕ) → (r.files f s).map p ≡ stored b → at f s p < used
    at_low f s p b e =
        let l = named_low r ok f s p b e in
        let z = rank_low r ok (place_of s f p) (place_low s f p l.1 l.0 l.2) (ap is_stored (entry_at r.files s f p l.0 l.2 ∙ e)) in
        let u = used_same in
        let w = before_contents r (place_of s f p) in
        omega (arith, z, u, w)

    at_once : (f f' s s' p p' b b' : ℕ) → (r.files f s).map p ≡ stored b → (r.files f' s').map p' ≡ stored b' → at f s p ≡ at f' s' p' → (f ≡ f') × (s ≡ s') × (p ≡ p')
    unfolding stored_before
    at_once f f' s s' p p' b b' e e' q =
        let l = named_low r ok f s p b e in
        let l' = named_low r ok f' s' p' b' e' in
        let w = before_contents r (place_of s f p) in
        let w' = before_contents r (place_of s' f' p') in
        let z : place_of s f p ≡ place_of s' f' p' = rank_apart (λ i. is_stored (entry_in r.files i)) (place_of s f p) (place_of s' f' p')
        (ap is_stored (entry_at r.files s f p l.0 l.2 ∙ e)) (ap is_stored (entry_at r.files s' f' p' l'.0 l'.2 ∙ e')) (sym w ∙ q ∙ w') in
        let x : s ≡ s' = omega (arith, z, l.0, l.2, l'.0, l'.2) in
        let y : f ≡ f' = omega (arith, z, x, l.0, l.2, l'.0, l'.2) in
        (y, x, omega (arith, z, x, y))

    used_low : used ≤ r.memory.blocks
    used_low = let a = used_most r ok in let b = used_same in omega (arith, a, b)

    -- every block below the used ones is named
    at_onto : (k : ℕ) → k < used → (n : ℕ) × (n < place_count) × ((r.files (file_at n) (set_at n)).map (page_at n) ≡ stored (name_of (entry_in r.files n))) × (at (file_at n) (set_at n) (page_at n) ≡ k)
    unfolding stored_before
    at_onto k l =
        let z = rank_onto place_count (λ i. is_stored (entry_in (contents r) i)) k l in
        let n = z.0 in
        let h : is_stored (entry_in r.files n) ≡ true = sym (contents_kind r n) ∙ z.2 in
        (n, z.1, name_is (entry_in r.files n) h, ap (λ x. count x (λ i. is_stored (entry_in (contents r) i))) (place_back n) ∙ z.3)

    placed_anew : Placed anew
    placed_anew = record {
      file_low = λ f s p b e. ok.placed.file_low f s p _ (anew_is f s p b e).1;
      page_low = λ f s p b e. ok.placed.page_low f s p _ (anew_is f s p b e).1;
      present = λ f s p b e. unfold files_anew contents in ok.placed.present f s p _ (anew_is f s p b e).1;
      lives = λ f s h. unfold files_anew contents in ok.placed.lives f s h;
      set_low = ok.placed.set_low;
    }

    blocks_anew : BlocksOk anew
    blocks_anew = record {
      next = let n = ok.next in mod-lt used {m = r.memory.blocks} (omega (arith, n));
      used = λ f s p b e. let z = anew_is f s p b e in let l = at_low f s p _ z.1 in let m = used_low in
          record { bit = lt-ltb b used (omega (arith, z.0, l)); below = omega (arith, z.0, l, m) };
      apart = λ f f' s s' p p' b e e'. let z = anew_is f s p b e in let z' = anew_is f' s' p' b e' in
          at_once f f' s s' p p' _ _ z.1 z'.1 (sym z.0 ∙ z'.0);
      only = λ b h. let z = at_onto b (ltb-true b used h) in
          record { file = file_at z.0; set = set_at z.0; page = page_at z.0; names = anew_of (file_at z.0) (set_at z.0) (page_at z.0) _ z.2 ∙ ap stored z.3 };
      placed = placed_anew;
    }

    -- the page of an entry is in the block that it names afterwards
    page_anew : (f s p b : ℕ) → (r.files f s).map p ≡ stored b → anew.memory.pages (at f s p) ≡ r.memory.pages b
    page_anew f s p b e =
        let l = named_low r ok f s p b e in
        page_at_law (contents r) (free_pages r.memory.blocks free) place_count (place_of s f p) (r.memory.pages b) (place_low s f p l.1 l.0 l.2)
        (contents_page r (place_of s f p) b (entry_at r.files s f p l.0 l.2 ∙ e))

    -- free count
    free_anew : free_blocks anew.memory ≡ free_blocks r.memory
    unfolding free_blocks
    free_anew =
        let a : used + free_blocks r.memory ≡ r.memory.blocks = ap (λ n. n + free_blocks r.memory) used_same ∙ used_free r ok in
        let b : count r.memory.blocks (λ b. ltb b used) ≡ used = count_below r.memory.blocks used used_low in
        let c = count_not r.memory.blocks (λ b. ltb b used) in
        omega (arith, a, b, c)

    -- LAW: the model is the same
    model_anew : model_of anew ≡ model_of r
    model_anew = λ i. record { memory = free_anew i; sets = r.sets; files = λ f s. file_anew f s i }
      where
        entry_same : (f s p : ℕ) (e : Entry ℕ) → (r.files f s).map p ≡ e → map_entry anew.memory.pages (entry_anew (at f s p) (with_page r.memory.pages e)) ≡ map_entry r.memory.pages e
        entry_same f s p unmapped q = refl
        entry_same f s p hole q = refl
        entry_same f s p (stored b) q = ap stored (page_anew f s p b q)

        file_anew : (f s : ℕ) → (model_of anew).files f s ≡ (model_of r).files f s
        file_anew f s = λ i. record {
          state = state_anew f s i;
          size = size_anew f s i;
          map = λ p. (ap (map_entry anew.memory.pages) (entry_anew_law f s p) ∙ entry_same f s p ((r.files f s).map p) refl) i;
        }

    -- pages are zero where nothing can be stored
    pages_in_anew : PagesIn r.memory → PagesIn anew.memory
    pages_in_anew h b i o = page_all (contents r) (free_pages r.memory.blocks free) (λ b v. (i : ℕ) → (512 ≤ i) ⊎ (r.memory.blocks ≤ b) → v i ≡ 0) place_count outside page_in b i o
      where
        outside : (b i : ℕ) → (512 ≤ i) ⊎ (r.memory.blocks ≤ b) → free_pages r.memory.blocks free b i ≡ 0
        outside b i o = ⊎_elim (λ l. rw (le-ltb i 512 l, and_false (ltb b r.memory.blocks))) (λ l. rw (le-ltb b r.memory.blocks l)) o

        page_in : (n : ℕ) (v : PageData) → n < place_count → entry_in (contents r) n ≡ stored v → (i : ℕ) → (512 ≤ i) ⊎ (r.memory.blocks ≤ stored_before (contents r) n) → v i ≡ 0
        page_in n v l e i o =
            let k : is_stored (entry_in r.files n) ≡ true = sym (contents_kind r n) ∙ ap is_stored e in
            let b = name_of (entry_in r.files n) in
            let q : v ≡ r.memory.pages b = page_is (sym (contents_page r n b (name_is (entry_in r.files n) k)) ∙ e) in
            ⊎_elim
            (λ m. ap (λ (g : PageData). g i) q ∙ h b i (inl m))
            (λ m. let z = rank_low r ok n l k in let u = used_most r ok in let w = before_contents r n in absurd (omega (arith, z, u, w, m))) o

    -- of a store of B blocks
    pub anew_kept : (B : ℕ) → RealKept B r → RealKept B anew
    anew_kept B k = record { blocks = k.blocks; blocks_ok = blocks_anew; pages_in = pages_in_anew k.pages_in }

  -- unmapped stays unmapped
  unmapped_anew : (f s p : ℕ) → is_unmapped ((anew.files f s).map p) ≡ is_unmapped ((r.files f s).map p)
  unmapped_anew f s p = ap is_unmapped (entry_anew_law f s p) ∙ go ((r.files f s).map p)
    where
      go : (e : Entry ℕ) → is_unmapped (entry_anew (at f s p) (with_page r.memory.pages e)) ≡ is_unmapped e
      go unmapped = refl
      go hole = refl
      go (stored b) = refl

  module _ (ok : BlocksOk r) where
    -- the order of the entries is that of their places
    comes_before : (s f p s' f' p' : ℕ) → f < 16 → p < 64 → ComesBefore s f p s' f' p' → place_of s f p < place_of s' f' p'
    comes_before s f p s' f' p' a b h = ⊎_elim
        (λ l. omega (arith, l, a, b))
        (λ q. ⊎_elim (λ l. omega (arith, q.0, l, a, b)) (λ l. omega (arith, q.0, l.0, l.1, a, b)) q.1) h

    -- of two stored entries the one that comes before names the lower block
    turn_anew : (s f p s' f' p' b b' : ℕ) → (anew.files f s).map p ≡ stored b → (anew.files f' s').map p' ≡ stored b' → ComesBefore s f p s' f' p' → b < b'
    unfolding stored_before
    turn_anew s f p s' f' p' b b' e e' h =
        let z = anew_is f s p b e in
        let z' = anew_is f' s' p' b' e' in
        let q = named_low r ok f s p _ z.1 in
        let l = comes_before s f p s' f' p' q.0 q.2 h in
        let w = before_contents r (place_of s f p) in
        let w' = before_contents r (place_of s' f' p') in
        let x = rank_less (λ i. is_stored (entry_in r.files i)) (place_of s f p) (place_of s' f' p') l (ap is_stored (entry_at r.files s f p q.0 q.2 ∙ z.1)) in
        omega (arith, z.0, z'.0, w, w', x)

    used_bits : used_blocks (contents r) ≡ used_in r
    used_bits = before_contents r place_count ∙ used_count r ok

    -- where no page is laid the pages are the free ones
    free_anew_pages : (b : ℕ) → used ok ≤ b → anew.memory.pages b ≡ free_pages r.memory.blocks free b
    free_anew_pages b l =
        page_all (contents r) (free_pages r.memory.blocks free) (λ x v. used ok ≤ x → v ≡ free_pages r.memory.blocks free x) place_count (λ x _. refl)
        (λ n v m e k. let q = contents_kind r n in
        let z = rank_low r ok n m (sym q ∙ ap is_stored e) in
        let w = before_contents r n in
        let u = used_same ok in
        absurd (omega (arith, z, w, u, k))) b l

    pub anew_free : (b i : ℕ) → used_in r ≤ b → b < r.memory.blocks → i < 512 → anew.memory.pages b i ≡ free b i
    anew_free b i l m k = let u = used_bits in ap (λ (v : PageData). v i) (free_anew_pages b (omega (arith, u, l))) ∙ rw (lt-ltb b r.memory.blocks m, lt-ltb i 512 k)

    -- THEOREM: what compaction does
    pub anew_renumbered : Renumbered r anew
    anew_renumbered = record {
      from_0 = λ b. ap (ltb b) used_bits;
      in_turn_law = turn_anew;
      next = ap (λ n. n % r.memory.blocks) used_bits;
      found = λ b h. let n = ok.only b h in
          (at n.file n.set n.page, record { set = n.set; file = n.file; page = n.page; before = n.names; after = anew_of n.file n.set n.page b n.names });
      made = λ k h. let z = at_onto ok k (ltb-true k (used_blocks (contents r)) h) in
          let n = z.0 in
          (name_of (entry_in r.files n), record { set = set_at n; file = file_at n; page = page_at n; before = z.2; after = anew_of (file_at n) (set_at n) (page_at n) _ z.2 ∙ ap stored z.3 });
      alone = λ b k k' h h'. let q = ok.apart h.file h'.file h.set h'.set h.page h'.page b h.before h'.before in
          (anew_is h.file h.set h.page k h.after).0 ∙ (λ i. at (q.0 i) (q.1 i) (q.2 i)) ∙ sym (anew_is h'.file h'.set h'.page k' h'.after).0;
      apart = λ b b' k h h'. let q = (blocks_anew ok).apart h.file h'.file h.set h'.set h.page h'.page k h.after h'.after in
          stored_one (sym h.before ∙ (λ i. (r.files (q.0 i) (q.1 i)).map (q.2 i)) ∙ h'.before);
      bytes = λ b k h. ap anew.memory.pages (anew_is h.file h.set h.page k h.after).0 ∙ page_anew ok h.file h.set h.page b h.before;
      blocks = refl;
      sets = refl;
      state = state_anew;
      size = size_anew;
      kind = λ f s p. (kind_anew f s p, unmapped_anew f s p);
    }

-- THEOREMS, of the compacted store
module _ (B : ℕ) (free : ℕ → PageData) (r : Store real) (o : InOrder B r) where
  abbrev ok : BlocksOk r
  ok = o.kept.blocks_ok

  pub compacted_model : model_of (compacted free r) ≡ model_of r
  unfolding compacted
  compacted_model = model_anew free r ok

  pub compacted_order : InOrder B (compacted free r)
  compacted_order = record { kept = unfold compacted in anew_kept free r ok B o.kept; formed = subst ModelFormed (sym compacted_model) o.formed }

  pub compacted_renumbered : Renumbered r (compacted free r)
  unfolding compacted
  compacted_renumbered = anew_renumbered free r ok

  pub compacted_free : (b i : ℕ) → used_in r ≤ b → b < r.memory.blocks → i < 512 → (compacted free r).memory.pages b i ≡ free b i
  unfolding compacted
  compacted_free = anew_free free r ok
