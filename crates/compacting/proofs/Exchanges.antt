-- Two blocks exchanged: the blocks stay in order, and the contents are the same. Assumes nothing.
use mathlib.Core.Path.{ap, refl, sym, ◌∙◌, ◌≡◌}
use Prim.Native.Nat.{◌<◌, ℕ}
use native.Mathlib.Omega.{arith}
use Rattle.compaction.specs.Compact.{contents, with_page}
use Rattle.compacting.proofs.Swapping.{map_was, swap_below, swap_twice}
use Rattle.compacting.specs.Exchange.{Exchanged, swapped}
use Rattle.compacting.specs.Gathering.{Same}
use Rattle.rules.proofs.Blocks.RealStore.{BlocksOk, Placed}
use Rattle.rules.proofs.Storages.MapBlocks.{map_entry}
use Rattle.rules.specs.Calls.{Store}
use Rattle.rules.specs.State.{Entry, Files, SetRecord, hole, is_absent, stored, unmapped}
use Rattle.rules.specs.Storage.{real}

module _ (a b : ℕ) (r r' : Store real) (h : Exchanged a b r r') where
  pub entry_now : (f s p : ℕ) → (r'.files f s).map p ≡ map_entry (swapped a b) ((r.files f s).map p)
  entry_now f s p = ap (λ (x : Files ℕ). (x s).map p) (h.files f)

  pub state_now : (f s : ℕ) → (r'.files f s).state ≡ (r.files f s).state
  state_now f s = ap (λ (x : Files ℕ). (x s).state) (h.files f)

  pub entry_was : (f s p x : ℕ) → (r'.files f s).map p ≡ stored x → (r.files f s).map p ≡ stored (swapped a b x)
  entry_was f s p x e = map_was a b x ((r.files f s).map p) (sym (entry_now f s p) ∙ e)

  -- LAW: nothing that compaction keeps has changed
  pub exchanged_same : Same r r'
  unfolding contents
  exchanged_same = record { sets = h.sets; blocks = h.blocks; contents = λ i f s. record { state = state_now f s i; size = size_now f s i; map = λ p. page_now f s p i } }
    where
      size_now : (f s : ℕ) → (r'.files f s).size ≡ (r.files f s).size
      size_now f s = ap (λ (x : Files ℕ). (x s).size) (h.files f)

      go : (f s p : ℕ) (e : Entry ℕ) → (r.files f s).map p ≡ e → with_page r'.memory.pages (map_entry (swapped a b) e) ≡ with_page r.memory.pages e
      go f s p unmapped q = refl
      go f s p hole q = refl
      go f s p (stored x) q = ap stored (h.pages f s p x q)

      page_now : (f s p : ℕ) → with_page r'.memory.pages ((r'.files f s).map p) ≡ with_page r.memory.pages ((r.files f s).map p)
      page_now f s p = ap (with_page r'.memory.pages) (entry_now f s p) ∙ go f s p ((r.files f s).map p) refl

  module _ (ok : BlocksOk r) (la : a < r.memory.blocks) (lb : b < r.memory.blocks) where
    exchanged_placed : Placed r'
    exchanged_placed = record {
      file_low = λ f s p x e. ok.placed.file_low f s p _ (entry_was f s p x e);
      page_low = λ f s p x e. ok.placed.page_low f s p _ (entry_was f s p x e);
      present = λ f s p x e. ap is_absent (state_now f s) ∙ ok.placed.present f s p _ (entry_was f s p x e);
      lives = λ f s q. ap (λ (x : ℕ → SetRecord). (x s).used) h.sets ∙ ok.placed.lives f s (sym (ap is_absent (state_now f s)) ∙ q);
      set_low = λ s q. ok.placed.set_low s (sym (ap (λ (x : ℕ → SetRecord). (x s).used) h.sets) ∙ q);
    }

    -- LAW: the blocks are in order
    pub exchanged_ok : BlocksOk r'
    exchanged_ok = record {
      next = let n = h.next in let e = h.blocks in omega (arith, n, e);
      used = λ f s p x q. let u = ok.used f s p (swapped a b x) (entry_was f s p x q) in
          let l = swap_below r.memory.blocks a b (swapped a b x) la lb u.below in
          let z = swap_twice a b x in
          let e = h.blocks in
          record { bit = h.bits x ∙ u.bit; below = omega (arith, l, z, e) };
      apart = λ f f' s s' p p' x q q'. ok.apart f f' s s' p p' (swapped a b x) (entry_was f s p x q) (entry_was f' s' p' x q');
      only = λ x q. let n = ok.only (swapped a b x) (sym (h.bits x) ∙ q) in
          record { file = n.file; set = n.set; page = n.page; names = entry_now n.file n.set n.page ∙ ap (map_entry (swapped a b)) n.names ∙ ap stored (swap_twice a b x) };
      placed = exchanged_placed;
    }
