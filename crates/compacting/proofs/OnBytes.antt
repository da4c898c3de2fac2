-- What the code stores exchanges two blocks: an entry that gets a free block, two entries that exchange theirs, an entry that has its block. Assumes nothing.
use mathlib.Core.Bool.{false, true, true≢false}
use mathlib.Core.List.{List}
use mathlib.Core.Path.{ap, refl, subst, sym, ◌∙◌, ◌≡◌}
use Prim.Native.Nat.{ℕ}
use native.Mathlib.Omega.{arith}
use Rattle.base.specs.Logic.{same?}
use Rattle.base.specs.Update.{upd, upd_other, upd_same}
use Rattle.compaction.specs.Compact.{entry_in, file_at, page_at, set_at}
use Rattle.compacting.proofs.Swapping.{map_same, swap_cases, swap_left, swap_other, swap_right, swap_self}
use Rattle.compacting.specs.Exchange.{Lent, Swap, put_in, swapped}
use Rattle.rules.proofs.Blocks.RealStore.{BlocksOk}
use Rattle.rules.proofs.Steps.OneStep.{put_entry_ent, put_entry_other, put_entry_page, put_entry_size, put_entry_state}
use Rattle.rules.proofs.Storages.MapBlocks.{map_entry}
use Rattle.rules.specs.Rules.{put_entry}
use Rattle.rules.specs.State.{Entry, File, Files, Tables, stored}
use Rattle.rules.specs.Storage.{PageData}
use Rattle.tables.specs.Calls.{pages_of, store_of}
use Rattle.tables.specs.Packed.{unpack}
use Rattle.tables.specs.Views.{Turns, put_bit_in, put_entry_in, put_files}

-- ONE ENTRY PUT, at place n
abbrev put_at : ℕ → Entry ℕ → (ℕ → Files ℕ) → ℕ → Files ℕ
put_at n e files = upd files (file_at n) (put_entry (files (file_at n)) (set_at n) (page_at n) e)

-- is (f, s, p) the place n?
at? : {P : Type 0} (n f s p : ℕ) → (file_at n ≡ f → set_at n ≡ s → page_at n ≡ p → P) → ((file_at n ≡ f → set_at n ≡ s → page_at n ≡ p → ⊥) → P) → P
at? n f s p y o = same? (file_at n) f
    (λ a. same? (set_at n) s
    (λ b. same? (page_at n) p (λ c. y a b c) (λ c. o (λ _ _ q. c q)))
    (λ b. o (λ _ q _. b q)))
    (λ a. o (λ q _ _. a q))

module _ (n : ℕ) (e : Entry ℕ) (files : ℕ → Files ℕ) where
  put_file : (f : ℕ) → (file_at n ≡ f → ⊥) → put_at n e files f ≡ files f
  put_file f h = upd_other files (file_at n) _ f h

  put_self : put_at n e files (file_at n) ≡ put_entry (files (file_at n)) (set_at n) (page_at n) e
  put_self = upd_same files (file_at n) _

  put_here : entry_in (put_at n e files) n ≡ e
  put_here = ap (λ (x : Files ℕ). (x (set_at n)).map (page_at n)) put_self ∙ put_entry_ent (files (file_at n)) (set_at n) (page_at n) e

  put_away : (f s p : ℕ) → (file_at n ≡ f → set_at n ≡ s → page_at n ≡ p → ⊥) → (put_at n e files f s).map p ≡ (files f s).map p
  put_away f s p h = same? (file_at n) f
      (λ a. subst (λ x. (put_at n e files x s).map p ≡ (files x s).map p) a
      (ap (λ (x : Files ℕ). (x s).map p) put_self
      ∙ same? (set_at n) s
      (λ b. put_entry_page (files (file_at n)) (set_at n) (page_at n) e s p (h a b))
      (λ b. ap (λ (x : File ℕ). x.map p) (put_entry_other (files (file_at n)) (set_at n) (page_at n) e s b))))
      (λ a. ap (λ (x : Files ℕ). (x s).map p) (put_file f a))

  put_state : (f s : ℕ) → (put_at n e files f s).state ≡ (files f s).state
  put_state f s = same? (file_at n) f
      (λ a. subst (λ x. (put_at n e files x s).state ≡ (files x s).state) a (ap (λ (x : Files ℕ). (x s).state) put_self ∙ put_entry_state (files (file_at n)) (set_at n) (page_at n) e s))
      (λ a. ap (λ (x : Files ℕ). (x s).state) (put_file f a))

  put_size : (f s : ℕ) → (put_at n e files f s).size ≡ (files f s).size
  put_size f s = same? (file_at n) f
      (λ a. subst (λ x. (put_at n e files x s).size ≡ (files x s).size) a (ap (λ (x : Files ℕ). (x s).size) put_self ∙ put_entry_size (files (file_at n)) (set_at n) (page_at n) e s))
      (λ a. ap (λ (x : Files ℕ). (x s).size) (put_file f a))

-- an entry of place n, by its file, set and page
entry_here : (files : ℕ → Files ℕ) (n f s p : ℕ) (e : Entry ℕ) → file_at n ≡ f → set_at n ≡ s → page_at n ≡ p → entry_in files n ≡ e → (files f s).map p ≡ e
entry_here files n f s p e a b c h = (λ i. (files (sym a i) (sym b i)).map (sym c i)) ∙ h

module _ (t p t' p' : List ℕ) (n k b : ℕ) (lent : Lent t p) (here : entry_in (unpack t).files n ≡ stored b) where
  abbrev fs : ℕ → Files ℕ
  fs = (unpack t).files

  ok : BlocksOk (store_of t p)
  ok = lent.ok

  -- no other entry names b
  other_b : (f s q x : ℕ) → (file_at n ≡ f → set_at n ≡ s → page_at n ≡ q → ⊥) → (fs f s).map q ≡ stored x → b ≡ x → ⊥
  other_b f s q x h e d = let z = ok.apart (file_at n) f (set_at n) s (page_at n) q b here (e ∙ ap stored (sym d)) in h z.0 z.1 z.2

  -- AN ENTRY THAT GETS A FREE BLOCK
  module _ (unused : (unpack t).bits k ≡ false) where
    not_k : (f s q x : ℕ) → (fs f s).map q ≡ stored x → k ≡ x → ⊥
    not_k f s q x e d = true≢false (sym (ok.used f s q x e).bit ∙ ap (unpack t).bits (sym d) ∙ unused)

    moved_entry : (f s q : ℕ) → (put_at n (stored k) fs f s).map q ≡ map_entry (swapped k b) ((fs f s).map q)
    moved_entry f s q = at? n f s q
        (λ x y z. entry_here (put_at n (stored k) fs) n f s q (stored k) x y z (put_here n (stored k) fs)
        ∙ sym (ap (map_entry (swapped k b)) (entry_here fs n f s q (stored b) x y z here) ∙ ap stored (swap_right k b)))
        (λ h. put_away n (stored k) fs f s q h ∙ sym (map_same (swapped k b) ((fs f s).map q) (λ x e. swap_other k b x (not_k f s q x e) (other_b f s q x h e))))

    moved_bit : (x : ℕ) → upd (upd (unpack t).bits k true) b false x ≡ (unpack t).bits (swapped k b x)
    moved_bit x =
        let u : (unpack t).bits b ≡ true = (ok.used (file_at n) (set_at n) (page_at n) b here).bit in
        let d : b ≡ k → ⊥ = λ q. not_k (file_at n) (set_at n) (page_at n) b here (sym q) in
        swap_cases (λ x y. upd (upd (unpack t).bits k true) b false x ≡ (unpack t).bits y) k b
        (upd_other (upd (unpack t).bits k true) b false k d ∙ upd_same (unpack t).bits k true ∙ sym u)
        (upd_same (upd (unpack t).bits k true) b false ∙ sym unused)
        (λ x m l. upd_other (upd (unpack t).bits k true) b false x l ∙ upd_other (unpack t).bits k true x m) x

    moved_page : (f s q x : ℕ) → (fs f s).map q ≡ stored x → upd (pages_of p) k (pages_of p b) (swapped k b x) ≡ pages_of p x
    moved_page f s q x e =
        same? b x
        (λ d. subst (λ y. upd (pages_of p) k (pages_of p b) (swapped k b y) ≡ pages_of p y) d (ap (upd (pages_of p) k (pages_of p b)) (swap_right k b) ∙ upd_same (pages_of p) k (pages_of p b)))
        (λ d. ap (upd (pages_of p) k (pages_of p b)) (swap_other k b x (not_k f s q x e) d) ∙ upd_other (pages_of p) k (pages_of p b) x (not_k f s q x e))

    -- LAW: block k taken, the page copied, the entry put, block b free again
    pub moved_swap : Turns t t' (λ tb. put_bit_in b false (put_in n (stored k) (put_bit_in k true tb))) → pages_of p' ≡ upd (pages_of p) k (pages_of p b) → Swap k b t p t' p'
    unfolding put_bit_in put_in put_entry_in put_files
    moved_swap v g = record {
      packed = v.packed;
      exchanged = record {
        sets = ap (λ (x : Tables). x.sets) v.view;
        blocks = ap (λ (x : Tables). x.blocks) v.view;
        next = let z = ap (λ (x : Tables). x.next) v.view in let l = ok.next in omega (arith, z, l);
        bits = λ x. ap (λ (y : Tables). y.bits x) v.view ∙ moved_bit x;
        files = λ f. ap (λ (y : Tables). y.files f) v.view ∙ (λ i s. record { state = put_state n (stored k) fs f s i; size = put_size n (stored k) fs f s i; map = λ q. moved_entry f s q i });
        pages = λ f s q x e. ap (λ (y : ℕ → PageData). y (swapped k b x)) g ∙ moved_page f s q x e;
      };
    }

  -- TWO ENTRIES THAT EXCHANGE THEIR BLOCKS
  module _ (o : ℕ) (there : entry_in (unpack t).files o ≡ stored k) where
    other_k : (f s q x : ℕ) → (file_at o ≡ f → set_at o ≡ s → page_at o ≡ q → ⊥) → (fs f s).map q ≡ stored x → k ≡ x → ⊥
    other_k f s q x h e d = let z = ok.apart (file_at o) f (set_at o) s (page_at o) q k there (e ∙ ap stored (sym d)) in h z.0 z.1 z.2

    abbrev gs : ℕ → Files ℕ
    gs = put_at n (stored k) fs

    both_entry : (f s q : ℕ) → (put_at o (stored b) gs f s).map q ≡ map_entry (swapped k b) ((fs f s).map q)
    both_entry f s q = at? o f s q
        (λ x y z. entry_here (put_at o (stored b) gs) o f s q (stored b) x y z (put_here o (stored b) gs)
        ∙ sym (ap (map_entry (swapped k b)) (entry_here fs o f s q (stored k) x y z there) ∙ ap stored (swap_left k b)))
        (λ h. put_away o (stored b) gs f s q h ∙ at? n f s q
        (λ x y z. entry_here gs n f s q (stored k) x y z (put_here n (stored k) fs)
        ∙ sym (ap (map_entry (swapped k b)) (entry_here fs n f s q (stored b) x y z here) ∙ ap stored (swap_right k b)))
        (λ g. put_away n (stored k) fs f s q g ∙ sym (map_same (swapped k b) ((fs f s).map q) (λ x e. swap_other k b x (other_k f s q x h e) (other_b f s q x g e)))))

    both_bit : (x : ℕ) → (unpack t).bits x ≡ (unpack t).bits (swapped k b x)
    both_bit x =
        let u : (unpack t).bits b ≡ true = (ok.used (file_at n) (set_at n) (page_at n) b here).bit in
        let w : (unpack t).bits k ≡ true = (ok.used (file_at o) (set_at o) (page_at o) k there).bit in
        swap_cases (λ x y. (unpack t).bits x ≡ (unpack t).bits y) k b (w ∙ sym u) (u ∙ sym w) (λ x m l. refl) x

    abbrev pg : ℕ → PageData
    pg = upd (upd (pages_of p) k (pages_of p b)) b (pages_of p k)

    both_page : (x : ℕ) → pg (swapped k b x) ≡ pages_of p x
    both_page x = swap_cases (λ x y. pg y ≡ pages_of p x) k b
        (upd_same (upd (pages_of p) k (pages_of p b)) b (pages_of p k))
        (same? b k
        (λ e. subst (λ y. pg y ≡ pages_of p b) e (upd_same (upd (pages_of p) k (pages_of p b)) b (pages_of p k) ∙ ap (pages_of p) (sym e)))
        (λ e. upd_other (upd (pages_of p) k (pages_of p b)) b (pages_of p k) k e ∙ upd_same (pages_of p) k (pages_of p b)))
        (λ x m l. upd_other (upd (pages_of p) k (pages_of p b)) b (pages_of p k) x l ∙ upd_other (pages_of p) k (pages_of p b) x m) x

    -- LAW: the pages change places, and both entries are put
    pub both_swap : Turns t t' (λ tb. put_in o (stored b) (put_in n (stored k) tb)) → pages_of p' ≡ upd (upd (pages_of p) k (pages_of p b)) b (pages_of p k) → Swap k b t p t' p'
    unfolding put_in put_entry_in put_files
    both_swap v g = record {
      packed = v.packed;
      exchanged = record {
        sets = ap (λ (x : Tables). x.sets) v.view;
        blocks = ap (λ (x : Tables). x.blocks) v.view;
        next = let z = ap (λ (x : Tables). x.next) v.view in let l = ok.next in omega (arith, z, l);
        bits = λ x. ap (λ (y : Tables). y.bits x) v.view ∙ both_bit x;
        files = λ f. ap (λ (y : Tables). y.files f) v.view ∙ (λ i s. record {
          state = (put_state o (stored b) gs f s ∙ put_state n (stored k) fs f s) i;
          size = (put_size o (stored b) gs f s ∙ put_size n (stored k) fs f s) i;
          map = λ q. both_entry f s q i;
        });
        pages = λ f s q x e. ap (λ (y : ℕ → PageData). y (swapped k b x)) g ∙ both_page x;
      };
    }

-- AN ENTRY THAT HAS ITS BLOCK
pub own_swap : (t p : List ℕ) (k b : ℕ) → Lent t p → k ≡ b → Swap k b t p t p
own_swap t p k b lent e = record {
  packed = lent.packed;
  exchanged = record {
    sets = refl;
    blocks = refl;
    next = lent.ok.next;
    bits = λ x. ap (unpack t).bits (sym (self x));
    files = λ f i s. record { state = ((unpack t).files f s).state; size = ((unpack t).files f s).size; map = λ q. sym (map_same (swapped k b) (((unpack t).files f s).map q) (λ x _. self x)) i };
    pages = λ f s q x _. ap (pages_of p) (self x);
  };
}
  where
    self : (x : ℕ) → swapped k b x ≡ x
    self x = subst (λ y. swapped k y x ≡ x) e (swap_self k x)
