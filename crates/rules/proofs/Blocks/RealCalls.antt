-- The store and the model go together through every call, and every call keeps the store's blocks and pages in order. Assumes nothing.
use mathlib.Core.Bool.{Bool, cond, false, true, true≢false}
use mathlib.Core.List.{List, ◌∷◌, []}
use mathlib.Core.Logic.{inl, inr, ◌⊎◌, ⊎_elim}
use mathlib.Core.Path.{◌≡◌, ap, refl, subst, sym, ◌∙◌}
use Prim.Native.Nat.{◌<◌, ℕ, ◌≤◌}
use native.Mathlib.Omega.{arith}
use lib.Dec.{eqb, ltb}
use borrow.Author.Tests.{eq-eqb, eqb-true, ne_eqb}
use Rattle.base.specs.Count.{count_all}
use Rattle.base.specs.Logic.{same?}
use Rattle.base.specs.Update.{upd, upd_keeps, upd_map, upd_other, upd_same}
use Rattle.rules.proofs.Blocks.GoodWork.{not_stored}
use Rattle.rules.proofs.Blocks.RealSim.{pages_seen, real_demands, to_model}
use Rattle.rules.proofs.Blocks.RealStore.{BlocksOk, Outer, PagesInside, RealKept, good_begin, kept_finish, none_stored}
use Rattle.rules.proofs.Steps.Erased.{unlinked}
use Rattle.rules.proofs.Steps.Handing.{ProperTree}
use Rattle.rules.proofs.Storages.Model.{model}
use Rattle.rules.proofs.Storages.StoreSim.{Same, Standing, StoreSim, calls_same}
use Rattle.rules.specs.Calls.{Store, blank_memory, created, formatted, made, new_file, step, tree_in}
use Rattle.rules.specs.Numbers.{Call}
use Rattle.rules.specs.Rules.{holes}
use Rattle.rules.specs.Sets.{append_set, child_file, link_behind, link_last, root_alone, unlink_set}
use Rattle.rules.specs.State.{Entry, File, Files, SetRecord, absent_file, children_of, hole, is_absent, is_stored, stored, unmapped, unused_set}
use Rattle.rules.specs.Storage.{Memory, free_blocks, real}
use Rattle.rules.specs.Terms.{default_term}

-- FILES THAT CHANGE WITHOUT BLOCKS: each is as it was, or nothing was stored in it and nothing is
abbrev NoneStored : File ℕ → Type 0
NoneStored x = (p b : ℕ) → x.map p ≡ stored b → ⊥

abbrev SameBlocks : Store real → Store real → Type 0
SameBlocks r r' = (g y : ℕ) → (r'.files g y ≡ r.files g y) ⊎ (NoneStored (r'.files g y) × NoneStored (r.files g y))

module _ (B : ℕ) (r r' : Store real) (k : RealKept B r) (m : r'.memory ≡ r.memory) (c : SameBlocks r r')
    (lives : (f s : ℕ) → is_absent (r'.files f s).state ≡ false → (r'.sets s).used ≡ true) (set_low : (s : ℕ) → (r'.sets s).used ≡ true → s < 8) where
  was : (f s p b : ℕ) → (r'.files f s).map p ≡ stored b → (r'.files f s ≡ r.files f s) × ((r.files f s).map p ≡ stored b)
  was f s p b e = ⊎_elim (λ q. (q, ap (λ (x : File ℕ). x.map p) (sym q) ∙ e)) (λ n. absurd (n.0 p b e)) (c f s)

  is : (f s p b : ℕ) → (r.files f s).map p ≡ stored b → (r'.files f s).map p ≡ stored b
  is f s p b e = ⊎_elim (λ q. ap (λ (x : File ℕ). x.map p) q ∙ e) (λ n. absurd (n.1 p b e)) (c f s)

  kept_alike : RealKept B r'
  kept_alike = record {
    blocks = ap (λ (x : Memory). x.blocks) m ∙ k.blocks;
    pages_in = rw m k.pages_in;
    blocks_ok = record {
      next = rw m k.blocks_ok.next;
      used = λ f s p b e. rw m (k.blocks_ok.used f s p b (was f s p b e).1);
      apart = λ f f' s s' p p' b e e'. k.blocks_ok.apart f f' s s' p p' b (was f s p b e).1 (was f' s' p' b e').1;
      only = λ b o.
          let n = k.blocks_ok.only b (ap (λ (x : Memory). x.bits b) (sym m) ∙ o) in
          record { file = n.file; set = n.set; page = n.page; names = is n.file n.set n.page b n.names };
      placed = record {
        file_low = λ f s p b e. k.blocks_ok.placed.file_low f s p b (was f s p b e).1;
        page_low = λ f s p b e. k.blocks_ok.placed.page_low f s p b (was f s p b e).1;
        present = λ f s p b e. ap (λ (x : File ℕ). is_absent x.state) (was f s p b e).0 ∙ k.blocks_ok.placed.present f s p b (was f s p b e).1;
        lives = lives;
        set_low = set_low;
      };
    };
  }

-- one file replaced, at set s in each or in one number
at_set : (a : Files ℕ) (s : ℕ) (x : File ℕ) (y : ℕ) → ((s ≡ y) × (upd a s x y ≡ x)) ⊎ ((s ≡ y → ⊥) × (upd a s x y ≡ a y))
at_set a s x y = same? s y (λ e. inl (e, ap (upd a s x) (sym e) ∙ upd_same a s x)) (λ n. inr (n, upd_other a s x y n))

-- the file of set c is another in every number, with nothing stored before and after
set_emptied : (r : Store real) (c : ℕ) (x : ℕ → File ℕ) → ((g : ℕ) → NoneStored (x g)) → ((g : ℕ) → NoneStored (r.files g c)) →
    (g y : ℕ) → (upd (r.files g) c (x g) y ≡ r.files g y) ⊎ (NoneStored (upd (r.files g) c (x g) y) × NoneStored (r.files g y))
set_emptied r c x new old g y =
    ⊎_elim (λ i. inr (subst NoneStored (sym i.1) (new g), subst (λ j. NoneStored (r.files g j)) i.0 (old g))) (λ i. inl i.1) (at_set (r.files g) c (x g) y)

-- CREATE
kept_create : (B : ℕ) (r : Store real) (s f : ℕ) → RealKept B r → (r.sets s).used ≡ true → is_absent (r.files f s).state ≡ true → RealKept B (created real s f r)
unfolding created holes
kept_create B r s f k u a = kept_alike B r (created real s f r) k refl (λ g y. ⊎_elim inl (λ n. inr n.2) (cases g y))
    (λ g y e. ⊎_elim (λ q. k.blocks_ok.placed.lives g y (ap (λ (x : File ℕ). is_absent x.state) (sym q) ∙ e)) (λ n. subst (λ z. (r.sets z).used ≡ true) n.1 u) (cases g y))
    k.blocks_ok.placed.set_low
  where
    after : ℕ → Files ℕ
    after = upd r.files f (upd (r.files f) s new_file)

    none_new : NoneStored new_file
    none_new p b e = go (ltb p 64) e
      where
        go : (x : Bool) → ◌≡◌ {A = Entry ℕ} (cond x hole unmapped) (stored b) → ⊥
        go true e = let z : ◌≡◌ {A = ℕ} 0 1 = cc in omega arith
        go false e = let z : ◌≡◌ {A = ℕ} 0 1 = cc in omega arith

    none_old : NoneStored (r.files f s)
    none_old p b e = true≢false (sym a ∙ k.blocks_ok.placed.present f s p b e)

    cases : (g y : ℕ) → (after g y ≡ r.files g y) ⊎ ((f ≡ g) × (s ≡ y) × (NoneStored (after g y) × NoneStored (r.files g y)))
    cases g y =
        same? f g
        (λ e. subst (λ j. (after j y ≡ r.files j y) ⊎ ((f ≡ j) × (s ≡ y) × (NoneStored (after j y) × NoneStored (r.files j y)))) e
        (let q = ap (λ (c : Files ℕ). c y) (upd_same r.files f (upd (r.files f) s new_file)) in
        ⊎_elim
        (λ i. inr (refl, i.0, (subst NoneStored (sym (q ∙ i.1)) none_new, subst (λ j. NoneStored (r.files f j)) i.0 none_old)))
        (λ i. inl (q ∙ i.1))
        (at_set (r.files f) s new_file y)))
        (λ n. inl (ap (λ (c : Files ℕ). c y) (upd_other r.files f _ g n)))

-- MAKE: links change, and the new set is used
behind_used : (c : ℕ) (xs : List ℕ) (x : ℕ) (sets : ℕ → SetRecord) (y : ℕ) → (link_behind c x xs sets y).used ≡ (sets y).used
unfolding link_behind
behind_used c [] x sets y = upd_keeps (λ (z : SetRecord). z.used) sets x _ refl y
behind_used c (x' ∷ xs) x sets y = behind_used c xs x' sets y

last_used : (c s : ℕ) (xs : List ℕ) (sets : ℕ → SetRecord) (y : ℕ) → (link_last c s xs sets y).used ≡ (sets y).used
unfolding link_last
last_used c s [] sets y = upd_keeps (λ (z : SetRecord). z.used) sets s _ refl y
last_used c s (x ∷ xs) sets y = behind_used c xs x sets y

append_used : (s c : ℕ) (w : Bool) (sets : ℕ → SetRecord) (y : ℕ) → (append_set s c w sets y).used ≡ upd (λ z. (sets z).used) c true y
unfolding append_set
append_used s c w sets y = last_used c s (children_of sets s) _ y ∙ upd_map (λ _ (z : SetRecord). z.used) sets c _ y

kept_make : (B : ℕ) (r : Store real) (s c : ℕ) (w : Bool) → RealKept B r → c < 8 → (r.sets c).used ≡ false → RealKept B (made real s c w r)
unfolding made
kept_make B r s c w k l u =
    kept_alike B r (made real s c w r) k refl
    (set_emptied r c (λ g. child_file (r.files g s)) (λ g p b. none_stored b) none_old)
    (λ g y e. append_used s c w r.sets y ∙ same? c y
    (λ d. subst (λ j. upd (λ z. (r.sets z).used) c true j ≡ true) d (upd_same (λ z. (r.sets z).used) c true))
    (λ d. upd_other (λ z. (r.sets z).used) c true y d ∙ k.blocks_ok.placed.lives g y (ap (λ (x : File ℕ). is_absent x.state) (sym (upd_other (r.files g) c _ y d)) ∙ e)))
    (λ y e. same? c y (λ d. subst (λ j. j < 8) d l) (λ d. k.blocks_ok.placed.set_low y (sym (upd_other (λ z. (r.sets z).used) c true y d) ∙ sym (append_used s c w r.sets y) ∙ e)))
  where
    none_old : (g : ℕ) → NoneStored (r.files g c)
    none_old g p b e = true≢false (sym (k.blocks_ok.placed.lives g c (k.blocks_ok.placed.present g c p b e)) ∙ u)

-- REMOVE: a set with nothing stored is unlinked
unlink_used : (c : ℕ) (sets : ℕ → SetRecord) (y : ℕ) → (c ≡ y → ⊥) → (unlink_set c sets y).used ≡ (sets y).used
unfolding unlink_set
unlink_used c sets y n = rw (ne_eqb c y n)

unlink_gone : (c : ℕ) (sets : ℕ → SetRecord) → (unlink_set c sets c).used ≡ false
unfolding unlink_set
unlink_gone c sets = rw (eq-eqb c c refl)

kept_unlink : (B : ℕ) (r : Store real) (c : ℕ) → RealKept B r → ((f p : ℕ) → f < 16 → is_stored ((r.files f c).map p) ≡ false) → RealKept B (unlinked real c r)
unfolding unlinked
kept_unlink B r c k o =
    kept_alike B r (unlinked real c r) k refl
    (set_emptied r c (λ g. absent_file) (λ g p b. none_stored b) none_old)
    (λ g y e. ⊎_elim
    (λ i. absurd (true≢false (ap (λ (x : File ℕ). is_absent x.state) (sym i.1) ∙ e)))
    (λ i. unlink_used c r.sets y i.0 ∙ k.blocks_ok.placed.lives g y (ap (λ (x : File ℕ). is_absent x.state) (sym i.1) ∙ e))
    (at_set (r.files g) c absent_file y))
    (λ y e. same? c y
    (λ d. absurd (true≢false (sym e ∙ ap (λ j. (unlink_set c r.sets j).used) (sym d) ∙ unlink_gone c r.sets)))
    (λ d. k.blocks_ok.placed.set_low y (sym (unlink_used c r.sets y d) ∙ e)))
  where
    none_old : (g : ℕ) → NoneStored (r.files g c)
    none_old g p b e = not_stored ((r.files g c).map p) b (o g p (k.blocks_ok.placed.file_low g c p b e)) e

-- FORMAT
pub kept_format : (B : ℕ) → 1 ≤ B → RealKept B (formatted real (blank_memory B))
unfolding formatted root_alone
kept_format B l = record {
  blocks = refl;
  pages_in = λ b i o. refl;
  blocks_ok = record {
    next = omega arith;
    used = λ f s p b e. absurd (none_stored b e);
    apart = λ f f' s s' p p' b e e'. absurd (none_stored b e);
    only = λ b o. absurd (true≢false (sym o));
    placed = record {
      file_low = λ f s p b e. absurd (none_stored b e);
      page_low = λ f s p b e. absurd (none_stored b e);
      present = λ f s p b e. absurd (none_stored b e);
      lives = λ f s e. absurd (true≢false e);
      set_low = λ s e. go (eqb 0 s) refl e;
    };
  };
}
  where
    go : {s : ℕ} (b : Bool) → eqb 0 s ≡ b → (cond b (record { used = true; writeable = true; level = 0; parent = 8; first_child = 8; next_sibling = 8; term = default_term }) unused_set).used ≡ true → s < 8
    go {s} true q e = let z = eqb-true 0 s q in omega arith
    go false q e = absurd (true≢false (sym e))

pub fresh_free : (B : ℕ) → B ≡ free_blocks (blank_memory B)
unfolding free_blocks
fresh_free B = sym (count_all B (λ b. true) (λ x l. refl))

real_store : (B : ℕ) → 1 ≤ B → StoreSim pages_seen (blank_memory B) B (RealKept B)
real_store B l = record {
  demands = λ r f s. real_demands (tree_in real r) s r.memory (Outer r f);
  sim = λ r f s. to_model (tree_in real r) s r.memory (Outer r f);
  free = λ r k. refl;
  fresh_same = fresh_free B;
  kid = λ r f s p c m. (p.ok, m);
  good_begin = λ r f s k. good_begin r k.blocks_ok k.pages_in f s;
  frame = λ r f s w g j x p b n e. g.outer_page b (record { file = j; set = x; page = p; other = n; names = e });
  kept_finish = kept_finish B;
  kept_format = kept_format B l;
  kept_create = kept_create B;
  kept_make = kept_make B;
  kept_unlink = kept_unlink B;
}

-- THE STORE AND THE MODEL: the model holds at each entry the bytes of its block, and counts the free blocks
abbrev pub Stands : Store real → Store model → Type 0
Stands r m = Standing pages_seen r m

-- EVERY CALL: the answers are the same, the stores go together again, and B, blocks and pages are in order again
pub step_same : (B : ℕ) → 1 ≤ B → (r : Store real) (m : Store model) → r.memory.blocks ≡ B → BlocksOk r → PagesInside r → Stands r m → ProperTree (tree_in real r) → (c : Call) →
    Same pages_seen (RealKept B) (step real (blank_memory B) c r) (step model B c m)
step_same B l r m e k pi h p c = calls_same (real_store B l) r m h (record { blocks = e; blocks_ok = k; pages_in = pi }) p c
