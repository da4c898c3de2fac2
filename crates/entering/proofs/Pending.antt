-- Own blocks reserved, and pages entered, as the rules say, with the blocks pending in an array. Assumes nothing.
use mathlib.Core.Bool.{◌&&◌, Bool, cond, false, not, true}
use mathlib.Core.List.{List}
use mathlib.Core.Path.{◌≡◌, ap, fun_ext, refl, subst, sym, ◌∙◌}
use Prim.Native.Nat.{◌*◌, ◌+◌, ◌<◌, ℕ, ◌≤◌}
use native.Mathlib.Numerals.{add-one}
use native.Mathlib.Omega.{arith}
use lib.Dec.{leb, ltb}
use lib.ListN.{length}
use borrow.Author.Tests.{le-leb, le-ltb, leb-true, lt-ltb, ltb-false, ltb-true}
use Rattle.base.specs.Count.{count}
use Rattle.base.specs.Logic.{and_left, and_right, test?}
use Rattle.base.specs.Update.{upd, upd_all, upd_same, upd_self, upd_upd}
use Rattle.entering.specs.Pending.{Carried, PendingIn, Reserved, Reserves, StepAt, TakenOwn, bytes_of, enters_as}
use Rattle.copying.proofs.Chains.{pages_more, pages_out, up_pages}
use Rattle.copying.proofs.Kept.{entered_block, sound_took, stored_is, took_own, took_same}
use Rattle.copying.specs.Work.{Ready, Rest, Sound, Step, one_taken, rest, work}
use Rattle.copying.specs.declared.giving.Counts.{Counts}
use Rattle.rules.proofs.Blocks.GoodWork.{not_stored}
use Rattle.rules.specs.Reading.{resolve}
use Rattle.rules.specs.Rules.{Work, count_in, enter, enter_as, from, own_need, page_of, reserve, reserve_as, take_own}
use Rattle.rules.specs.State.{Entry, Files, SetRecord, Tables, Tree, hole, is_stored, stored, tree_of, unmapped}
use Rattle.rules.specs.Storage.{Memory, PageData, overlay, real}
use Rattle.tables.proofs.Pending.{none_length, none_pending_law}
use Rattle.tables.specs.Calls.{pages_of}
use Rattle.tables.specs.Packed.{unpack}
use Rattle.tables.specs.Views.{PackedTables, Took, Turns, memory_of, none_pending, pending_of, put_entry_in}
use Rattle.tables.specs.declared.entries.Pending.{Pending}

blocks_of : (t t' : List ℕ) (f : ℕ) → rest (unpack t') f ≡ rest (unpack t) f → (unpack t').blocks ≡ (unpack t).blocks
blocks_of t t' f e = ap (λ (r : Rest). r.blocks) e

sets_of : (t t' : List ℕ) (f : ℕ) → rest (unpack t') f ≡ rest (unpack t) f → (unpack t').sets ≡ (unpack t).sets
sets_of t t' f e = ap (λ (r : Rest). r.sets) e

-- ---- step 3, for one page

-- one more block pending
pending_more : (l l' : List Pending) (q b n : ℕ) → pending_of l' ≡ upd (pending_of l) q (stored b) → length l' ≡ 64 → b < n → PendingIn l n → PendingIn l' n
pending_more l l' q b n e len lt ok = record {
  len = len;
  below = subst (λ (g : ℕ → Entry ℕ). (p a : ℕ) → g p ≡ stored a → a < n) (sym e)
      (upd_all (λ (y : Entry ℕ). (a : ℕ) → y ≡ stored a → a < n) (pending_of l) q (stored b) (λ a x. let z : b ≡ a = stored_is b a x in omega arith) ok.below);
}

module _ {t t' : List ℕ} (l l' : List Pending) (f s q d : ℕ) (k : Counts) (so : Sound (unpack t) f k) (ok : PendingIn l (unpack t).blocks) (some : 0 < k.left)
    (tk : Took t t' d) (el : pending_of l' ≡ upd (pending_of l) q (stored d)) (len : length l' ≡ 64) (un : is_stored (((unpack t).files f s).map q) ≡ false) where
  as_taken : (tree : Tree) (w : Work real) (e : Entry ℕ) → is_stored e ≡ false → reserve_as real tree e q w ≡ take_own real tree q w
  unfolding reserve_as
  as_taken tree w unmapped h = refl
  as_taken tree w hole h = refl
  as_taken tree w (stored b) h = cc

  reserves_new : Reserves t t' l l' f k (one_taken k) (reserve real (tree_of (unpack t).sets) s q)
  unfolding reserve
  reserves_new = record {
    same = took_same f d k tk;
    does = λ pg.
        ap (λ (g : ℕ → Entry ℕ). work (unpack t') pg f g (one_taken k)) el
        ∙ took_own f d k tk (tree_of (unpack t).sets) pg q (pending_of l)
        ∙ sym (as_taken (tree_of (unpack t).sets) (work (unpack t) pg f (pending_of l) k) (((unpack t).files f s).map q) un);
    packed = tk.turns.packed;
    sound = subst (λ (y : Tables). Sound y f (one_taken k)) (sym tk.turns.view) (sound_took (unpack t) f so d tk.below tk.unused (omega arith) (omega arith) refl);
    pending = pending_more l l' q d (unpack t).blocks el len tk.below ok;
  }

-- LAW: where the page was not stored
pub reserved_new : {t t' : List ℕ} {k k' : Counts} (f s q d : ℕ) (e : Entry ℕ) → Sound (unpack t) f k → (is_stored (((unpack t).files f s).map q) ≡ false → 0 < k.left)
    → e ≡ ((unpack t).files f s).map q → is_stored e ≡ false → TakenOwn t t' k d k' → Reserved t t' f s q k d k'
reserved_new {t} {t'} {k} {k'} f s q d e so some ee un x =
    let un' : is_stored (((unpack t).files f s).map q) ≡ false = ap is_stored (sym ee) ∙ un in
    let less = some un' in
    subst (λ (y : Counts). Reserved t t' f s q k d y) (sym x.counts)
    (record {
      below = x.took_it.below;
      reserves = λ l l' ok el len. reserves_new l l' f s q d k so ok less x.took_it el len un';
      spent = rw un' (omega arith);
    })

reserves_own : {t : List ℕ} {l l' : List Pending} {k : Counts} (f s q b : ℕ) → PackedTables t → Sound (unpack t) f k → PendingIn l (unpack t).blocks → ((unpack t).files f s).map q ≡ stored b
    → pending_of l' ≡ upd (pending_of l) q (stored b) → length l' ≡ 64 → Reserves t t l l' f k k (reserve real (tree_of (unpack t).sets) s q)
unfolding reserve reserve_as
reserves_own {t} {l} {l'} {k} f s q b pk so ok e el len = record {
  same = refl;
  does = λ pg. ap (λ (g : ℕ → Entry ℕ). work (unpack t) pg f g k) el ∙ rw e;
  packed = pk;
  sound = so;
  pending = pending_more l l' q b (unpack t).blocks el len (so.named s q b e) ok;
}

-- LAW: where it has its block
pub reserved_own : {t : List ℕ} {k : Counts} (f s q b : ℕ) → PackedTables t → Sound (unpack t) f k → ((unpack t).files f s).map q ≡ stored b → Reserved t t f s q k b k
reserved_own f s q b pk so e = record {
  below = so.named s q b e;
  reserves = λ l l' ok el len. reserves_own f s q b pk so ok e el len;
  spent = rw e (omega arith);
}

pub some_free : (t : List ℕ) {f : ℕ} {k : Counts} → Sound (unpack t) f k → 0 < k.left → 0 < count (unpack t).blocks (λ b. not ((unpack t).bits b))
some_free t so h = subst (λ x. 0 < x) so.left_is h

-- ---- step 3, page after page

as_files : (tree : Tree) (e : Entry ℕ) (q : ℕ) (w : Work real) → (reserve_as real tree e q w).files ≡ w.files
unfolding reserve_as take_own
as_files tree unmapped q w = refl
as_files tree hole q w = refl
as_files tree (stored b) q w = refl

reserve_files : (tree : Tree) (s q : ℕ) (w : Work real) → (reserve real tree s q w).files ≡ w.files
unfolding reserve
reserve_files tree s q w = as_files tree ((w.files s).map q) q w

abbrev pub reserving : ℕ → (ℕ → SetRecord) → ℕ → Work real → Work real
reserving s sets = reserve real (tree_of sets) s

-- the first of n pages, and the m behind it
need_more : (g : ℕ → Bool) (n m q : ℕ) → n ≡ m + 1 → count_in (from q n) g ≡ cond (g q) 1 0 + count_in (from (q + 1) m) g
unfolding count_in from
need_more g n m q h = rw (h, add-one m, add-one q)

own_more : (s : ℕ) (files : Files ℕ) (n m q : ℕ) → n ≡ m + 1 → own_need real s (from q n) files ≡ cond (not (is_stored ((files s).map q))) 1 0 + own_need real s (from (q + 1) m) files
unfolding own_need
own_more s files n m q h = need_more (λ p. not (is_stored ((files s).map p))) n m q h

pub record Reserving (t₀ t : List ℕ) (l₀ l : List Pending) (f s q n : ℕ) (k₀ k : Counts) (op : Work real → Work real) : Type 0 where
  pub same : rest (unpack t) f ≡ rest (unpack t₀) f
  pub whole : (pg : ℕ → PageData) → op (work (unpack t₀) pg f (pending_of l₀) k₀) ≡ up_pages (reserving s) (unpack t₀).sets q n (work (unpack t) pg f (pending_of l) k)
  pub packed : PackedTables t
  pub sound : Sound (unpack t) f k
  pub pending : PendingIn l (unpack t).blocks
  pub need : own_need real s (from q n) ((unpack t).files f) ≤ k.left

pub reserving_start : {t : List ℕ} {l : List Pending} {k : Counts} (f s q n : ℕ) → PackedTables t → Sound (unpack t) f k → PendingIn l (unpack t).blocks → own_need real s (from q n) ((unpack t).files f) ≤ k.left
    → Reserving t t l l f s q n k k (up_pages (reserving s) (unpack t).sets q n)
reserving_start f s q n pk so ok nd = record { same = refl; whole = λ pg. refl; packed = pk; sound = so; pending = ok; need = nd }

pub reserving_some : {t₀ t : List ℕ} {l₀ l : List Pending} {f s q n : ℕ} {k₀ k : Counts} {op : Work real → Work real} (m x : ℕ) → Reserving t₀ t l₀ l f s q n k₀ k op → n ≡ m + 1 → x ≡ q
    → is_stored (((unpack t).files f s).map x) ≡ false → 0 < k.left
reserving_some {t₀} {t} {l₀} {l} {f} {s} {q} {n} {k₀} {k} m x g h ex e =
    let r = own_more s ((unpack t).files f) n m q h in
    let z : ◌≡◌ {A = ℕ} (cond (not (is_stored (((unpack t).files f s).map q))) 1 0) 1 = ap (λ y. cond (not (is_stored (((unpack t).files f s).map y))) 1 0) (sym ex) ∙ rw e in
    omega (arith, g.need)

pub reserving_turn : {t₀ t t' : List ℕ} {l₀ l l' : List Pending} {f s q n : ℕ} {k₀ k k' : Counts} {op : Work real → Work real} (m x b : ℕ) → Reserving t₀ t l₀ l f s q n k₀ k op → n ≡ m + 1 → x ≡ q
    → Reserved t t' f s x k b k' → pending_of l' ≡ upd (pending_of l) q (stored b) → length l' ≡ 64 → Reserving t₀ t' l₀ l' f s (q + 1) m k₀ k' op
reserving_turn {t₀} {t} {t'} {l₀} {l} {l'} {f} {s} {q} {n} {k₀} {k} {k'} m x b g h ex r' el len =
    let r : Reserved t t' f s q k b k' = subst (λ y. Reserved t t' f s y k b k') ex r' in
    let v = r.reserves l l' g.pending el len in
    let ss : (unpack t).sets ≡ (unpack t₀).sets = sets_of t₀ t f g.same in
    let files : (unpack t').files f ≡ (unpack t).files f =
    ap (λ (w : Work real). w.files) (v.does (λ b i. 0)) ∙ reserve_files (tree_of (unpack t).sets) s q (work (unpack t) (λ b i. 0) f (pending_of l) k) in
    let need = own_more s ((unpack t).files f) n m q h in
    record {
      same = v.same ∙ g.same;
      whole = λ pg.
          let w = work (unpack t) pg f (pending_of l) k in
          g.whole pg ∙ pages_more (reserving s) (unpack t₀).sets n m q h w
          ∙ ap (up_pages (reserving s) (unpack t₀).sets (q + 1) m) (ap (λ (y : ℕ → SetRecord). reserve real (tree_of y) s q w) (sym ss) ∙ sym (v.does pg));
      packed = v.packed;
      sound = v.sound;
      pending = subst (PendingIn l') (sym (blocks_of t t' f v.same)) v.pending;
      need = subst (λ (y : Files ℕ). own_need real s (from (q + 1) m) y ≤ k'.left) (sym files) (omega (arith, g.need, r.spent));
    }

pub reserving_done : {t₀ t : List ℕ} {l₀ l : List Pending} {f s q n : ℕ} {k₀ k : Counts} {op : Work real → Work real} → Reserving t₀ t l₀ l f s q n k₀ k op → n ≡ 0 → Reserves t₀ t l₀ l f k₀ k op
reserving_done {t₀} {t} {l₀} {l} {f} {s} {q} {n} {k₀} {k} g e = record {
  same = g.same;
  does = λ pg. sym (g.whole pg ∙ pages_out (reserving s) (unpack t₀).sets n q e (work (unpack t) pg f (pending_of l) k));
  packed = g.packed;
  sound = g.sound;
  pending = subst (PendingIn l) (blocks_of t₀ t f g.same) g.pending;
}

-- ---- step 5, for one page

page_is : (m : Memory) (e : Entry ℕ) → bytes_of m.pages e ≡ page_of real m e
unfolding bytes_of page_of
page_is m unmapped = refl
page_is m hole = refl
page_is m (stored a) = refl

-- a block's new bytes: prepared, then changed
pub laid : (pg pg₁ pg₂ : ℕ → PageData) (b : ℕ) (v : PageData) (g : PageData → PageData) → pg₁ ≡ upd pg b v → pg₂ ≡ upd pg₁ b (g (pg₁ b)) → pg₂ ≡ upd pg b (g v)
laid pg pg₁ pg₂ b v g e₁ e₂ =
    e₂ ∙ ap (λ (y : ℕ → PageData). upd y b (g (y b))) e₁ ∙ ap (λ (y : PageData). upd (upd pg b v) b (g y)) (upd_same pg b v) ∙ upd_upd pg b v (g v)

-- LAW: what bytes cover a page whole, does not depend on what was there
covered : (off : ℕ) (bs : List ℕ) (q : ℕ) (v w : PageData) → off ≤ q * 512 → q * 512 + 512 ≤ off + length bs → ((i : ℕ) → 512 ≤ i → v i ≡ w i) → overlay off bs q v ≡ overlay off bs q w
unfolding overlay
covered off bs q v w lo hi past = fun_ext (λ i. test? (ltb i 512)
    (λ e. let l = ltb-true i 512 e in
    rw (e, le-leb off (q * 512 + i) (omega arith), lt-ltb (q * 512 + i) (off + length bs) (omega arith)))
    (λ e. rw e (past i (ltb-false i 512 e))))

-- a page has no bytes from 512 on
page_past : (p : List ℕ) (b i : ℕ) → 512 ≤ i → pages_of p b i ≡ 0
unfolding pages_of
page_past p b i h = rw (le-ltb i 512 h)

bytes_past : (p : List ℕ) (e : Entry ℕ) (i : ℕ) → 512 ≤ i → bytes_of (pages_of p) e i ≡ 0
unfolding bytes_of
bytes_past p unmapped i h = refl
bytes_past p hole i h = refl
bytes_past p (stored a) i h = page_past p a i h

-- LAW: nothing need be carried where the bytes cover the page
pub carried_none : (p : List ℕ) (b q off n : ℕ) (e : Entry ℕ) (r : Bool) → r ≡ (leb off (q * 512) && leb (q * 512 + 512) (off + n)) → r ≡ true → Carried (pages_of p) (pages_of p) b q off n e
carried_none p b q off n e r er h =
    let lo = leb-true off (q * 512) (and_left (leb off (q * 512)) (leb (q * 512 + 512) (off + n)) (sym er ∙ h)) in
    let hi = leb-true (q * 512 + 512) (off + n) (and_right (leb off (q * 512)) (leb (q * 512 + 512) (off + n)) (sym er ∙ h)) in
    record {
      bytes = pages_of p b;
      pages = sym (upd_self (pages_of p) b);
      laid = λ bs len. covered off bs q (pages_of p b) (bytes_of (pages_of p) e) lo (omega arith) (λ i l. page_past p b i l ∙ sym (bytes_past p e i l));
    }

-- LAW: the old bytes are carried
pub carried_all : (pg pg' : ℕ → PageData) (b q off n : ℕ) (x e : Entry ℕ) → x ≡ e → pg' ≡ upd pg b (bytes_of pg x) → Carried pg pg' b q off n e
carried_all pg pg' b q off n x e ex h = record { bytes = bytes_of pg x; pages = h; laid = λ bs len. ap (λ (y : Entry ℕ). overlay off bs q (bytes_of pg y)) ex }

-- LAW: carried, then laid over
pub carried_laid : (pg pg₁ pg₂ : ℕ → PageData) (b q off : ℕ) (bs : List ℕ) (e : Entry ℕ) → Carried pg pg₁ b q off (length bs) e → pg₂ ≡ upd pg₁ b (overlay off bs q (pg₁ b))
    → pg₂ ≡ upd pg b (overlay off bs q (bytes_of pg e))
carried_laid pg pg₁ pg₂ b q off bs e c h = laid pg pg₁ pg₂ b c.bytes (overlay off bs q) c.pages h ∙ ap (λ (v : PageData). upd pg b v) (c.laid bs refl)

-- LAW: its bytes prepared from those of e, changed by g, and the block entered
pub enters : {t t₁ p p₁ : List ℕ} {f : ℕ} {k : Counts} (s q b : ℕ) (e : Entry ℕ) (g : PageData → PageData) → Turns t t₁ (put_entry_in f s q (stored b))
    → pages_of p₁ ≡ upd (pages_of p) b (g (bytes_of (pages_of p) e)) → length p₁ ≡ length p → Ready t p f k → b < (unpack t).blocks → (tree : Tree) → Step t p t₁ p₁ f k k (enters_as tree e b s q g)
enters {t} {t₁} {p} {p₁} {f} {k} s q b e g u pv lp re lb tree =
    let x = entered_block s q b (g (bytes_of (pages_of p) e)) u pv lp re lb tree in
    record {
      step = record {
        same = x.step.same;
        does = λ h. x.step.does h
            ∙ ap (λ (v : PageData). enter_as real tree (stored b) s q (g v) (work (unpack t) (pages_of p) f h k)) (page_is (memory_of (unpack t) (pages_of p)) e);
      };
      ready = x.ready;
    }

-- nothing is pending for it
as_none : (tree : Tree) (e : Entry ℕ) (s q : ℕ) (v : PageData) (w : Work real) → is_stored e ≡ false → w ≡ enter_as real tree e s q v w
unfolding enter_as
as_none tree unmapped s q v w h = refl
as_none tree hole s q v w h = refl
as_none tree (stored b) s q v w h = cc

module _ {t p : List ℕ} {f : ℕ} {k : Counts} (h : ℕ → Entry ℕ) (s q : ℕ) (lay : ℕ → PageData → PageData) where
  -- LAW
  pub enter_none : (e : Entry ℕ) → Ready t p f k → e ≡ h q → is_stored e ≡ false → StepAt h t p t p f k (enter real (tree_of (unpack t).sets) s lay q)
  unfolding enter
  enter_none e re ee un = record { same = refl; ready = re; does = as_none (tree_of (unpack t).sets) (h q) s q _ (work (unpack t) (pages_of p) f h k) (ap is_stored (sym ee) ∙ un) }

  -- LAW: block b is pending
  pub enter_some : {t' p' : List ℕ} (b : ℕ) (e : Entry ℕ) → h q ≡ stored b → e ≡ resolve (tree_of (unpack t).sets) ((unpack t).files f) s q
      → Step t p t' p' f k k (enters_as (tree_of (unpack t).sets) e b s q (lay q)) → StepAt h t p t' p' f k (enter real (tree_of (unpack t).sets) s lay q)
  unfolding enter
  enter_some b e eb ee x = record {
    same = x.step.same;
    ready = x.ready;
    does =
        let tree = tree_of (unpack t).sets in
        let w = work (unpack t) (pages_of p) f h k in
        x.step.does h
        ∙ ap (λ (y : Entry ℕ). enter_as real tree (stored b) s q (lay q (page_of real (memory_of (unpack t) (pages_of p)) y)) w) ee
        ∙ ap (λ (y : Entry ℕ). enter_as real tree y s q (lay q (page_of real (memory_of (unpack t) (pages_of p)) (resolve tree ((unpack t).files f) s q))) w) (sym eb);
  }

-- ---- step 5, page after page

abbrev pub entering : ℕ → (ℕ → PageData → PageData) → (ℕ → SetRecord) → ℕ → Work real → Work real
entering s lay sets = enter real (tree_of sets) s lay

pub record Entering (h : ℕ → Entry ℕ) (t₀ p₀ t p : List ℕ) (f s q n : ℕ) (lay : ℕ → PageData → PageData) (k : Counts) (op : Work real → Work real) : Type 0 where
  pub same : rest (unpack t) f ≡ rest (unpack t₀) f
  pub whole : op (work (unpack t₀) (pages_of p₀) f h k) ≡ up_pages (entering s lay) (unpack t₀).sets q n (work (unpack t) (pages_of p) f h k)
  pub ready : Ready t p f k

pub entering_start : {t p : List ℕ} {f : ℕ} {k : Counts} (h : ℕ → Entry ℕ) (s q n : ℕ) (lay : ℕ → PageData → PageData) → Ready t p f k
    → Entering h t p t p f s q n lay k (up_pages (entering s lay) (unpack t).sets q n)
entering_start h s q n lay re = record { same = refl; whole = refl; ready = re }

module _ {h : ℕ → Entry ℕ} {t₀ p₀ t p : List ℕ} {f s q n : ℕ} {lay : ℕ → PageData → PageData} {k : Counts} {op : Work real → Work real} (g : Entering h t₀ p₀ t p f s q n lay k op) where
  pub entering_turn : {t' p' : List ℕ} (m x : ℕ) → n ≡ m + 1 → x ≡ q → StepAt h t p t' p' f k (enter real (tree_of (unpack t).sets) s lay x) → Entering h t₀ p₀ t' p' f s (q + 1) m lay k op
  entering_turn m x z ex v =
      let ss : (unpack t).sets ≡ (unpack t₀).sets = sets_of t₀ t f g.same in
      let w = work (unpack t) (pages_of p) f h k in
      record {
        same = v.same ∙ g.same;
        ready = v.ready;
        whole =
            g.whole ∙ pages_more (entering s lay) (unpack t₀).sets n m q z w
            ∙ ap (up_pages (entering s lay) (unpack t₀).sets (q + 1) m)
            (ap (λ (y : ℕ → SetRecord). enter real (tree_of y) s lay q w) (sym ss) ∙ ap (λ y. enter real (tree_of (unpack t).sets) s lay y w) (sym ex) ∙ sym v.does);
      }

  pub entering_done : n ≡ 0 → StepAt h t₀ p₀ t p f k op
  entering_done e = record { same = g.same; ready = g.ready; does = sym (g.whole ∙ pages_out (entering s lay) (unpack t₀).sets n q e (work (unpack t) (pages_of p) f h k)) }

  pub entering_pending : {l : List Pending} → PendingIn l (unpack t₀).blocks → PendingIn l (unpack t).blocks
  entering_pending {l} ok = subst (PendingIn l) (sym (blocks_of t₀ t f g.same)) ok

-- ---- what the next step needs

-- nothing is pending at first
pub none_in : (l : List Pending) (n : ℕ) → l ≡ none_pending → PendingIn l n
none_in l n e = record {
  len = ap length e ∙ none_length;
  below = λ p b x. absurd (not_stored unmapped b refl (ap (λ (g : ℕ → Entry ℕ). g p) (sym (ap pending_of e ∙ none_pending_law)) ∙ x));
}

-- after step 3
pub reserves_ready : {t t' p : List ℕ} {l l' : List Pending} {f : ℕ} {k k' : Counts} {op : Work real → Work real} → Ready t p f k → Reserves t t' l l' f k k' op → Ready t' p f k'
reserves_ready re r = record { packed = r.packed; sound = r.sound; size = re.size ∙ ap (λ (y : Rest). y.blocks * 512) (sym r.same); file = re.file }

-- what is pending is so after step 4 too
pub pending_kept : {t t₁ t₂ p p₂ : List ℕ} {l₀ l : List Pending} {f : ℕ} {k k₁ k₂ : Counts} {op op₁ : Work real → Work real} → Reserves t t₁ l₀ l f k k₁ op → Step t₁ p t₂ p₂ f k₁ k₂ op₁ → PendingIn l (unpack t₂).blocks
pending_kept {t} {t₁} {t₂} {p} {p₂} {l₀} {l} r d = subst (PendingIn l) (sym (ap (λ (y : Rest). y.blocks) (d.step.same ∙ r.same))) r.pending
