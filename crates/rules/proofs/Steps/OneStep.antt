-- What one step does to the files of one number: who stays alive, what they read, and their sizes. Assumes nothing.
use mathlib.Core.Bool.{false, true, true≢false}
use mathlib.Core.List.{Memᴰ}
use mathlib.Core.Option.{none, some}
use mathlib.Core.Path.{◌≡◌, ap, refl, subst, sym, ◌∙◌}
use Prim.Native.Nat.{◌<◌, suc, zero, ℕ}
use native.Mathlib.Omega.{arith}
use lib.Dec.{lit<}
use Rattle.base.specs.Logic.{pick, same?}
use Rattle.base.specs.Update.{upd, upd_keeps, upd_other, upd_same}
use Rattle.rules.proofs.Steps.Reached.{mark_missed, mark_presence, mark_same, marked_by, reaches_up, unmapped_some}
use Rattle.rules.proofs.Steps.Walk.{walk_fill, walk_frame}
use Rattle.rules.specs.Reading.{dependent, needs, reaches, resolve, shown_entry, shown_size, size_by_reading, walk}
use Rattle.rules.specs.Rules.{mark_down, put_entry}
use Rattle.rules.specs.State.{Entry, File, Files, State, Tree, absent, hole, is_absent, live, marked, own, stored, unmapped, virgin}

-- the tree's links
pub record TreeOk (t : Tree) : Type 0 where
  pub lower : (s n : ℕ) → t.level s ≡ suc n → t.level (t.parent s) ≡ n
  pub kid_par : (s c : ℕ) → Memᴰ c (t.children s) → t.parent c ≡ s
  pub kid_lvl : (s c : ℕ) → Memᴰ c (t.children s) → t.level c ≡ suc (t.level s)
  pub kid_used : (s c : ℕ) → Memᴰ c (t.children s) → t.used c ≡ true
  pub above : (s n : ℕ) → t.level s ≡ suc n → t.used (t.parent s) ≡ true
  pub child : (s n : ℕ) → t.level s ≡ suc n → Memᴰ s (t.children (t.parent s))

pub shown_size_none : (l : State) (n : ℕ) → shown_size l n ≡ none → l ≡ virgin
shown_size_none absent n h = cc
shown_size_none own n h = cc
shown_size_none virgin n h = refl
shown_size_none marked n h = cc

module _ {K : Type 0} where
  abbrev pub Alive : Files K → ℕ → Type 0
  Alive files s = live (files s).state ≡ true

  -- the files of one number are in order
  pub record FilesOk (t : Tree) (files : Files K) : Type 0 where
    pub closed : (s p : ℕ) → p < 64 → Alive files s → (files s).map p ≡ unmapped → Alive files (t.parent s)
    pub listed : (s p : ℕ) → p < 64 → Alive files s → (files s).map p ≡ unmapped → Memᴰ s (t.children (t.parent s))
    pub bare : (s p : ℕ) → p < 64 → (files s).state ≡ virgin → (files s).map p ≡ unmapped

  -- whoever is alive afterwards was so before, and reads what it read
  pub record Keep (t : Tree) (files files' : Files K) : Type 0 where
    pub alive : (s : ℕ) → Alive files' s → Alive files s
    pub presence : (s : ℕ) → is_absent (files' s).state ≡ is_absent (files s).state
    pub page : (s p : ℕ) → p < 64 → Alive files' s → resolve t files' s p ≡ resolve t files s p
    pub size : (s : ℕ) → Alive files' s → size_by_reading t files' s ≡ size_by_reading t files s

  pub keep_refl : (t : Tree) (files : Files K) → Keep t files files
  keep_refl t files = record { alive = λ s a. a; presence = λ s. refl; page = λ s p h a. refl; size = λ s a. refl }

  pub keep_trans : {t : Tree} {a b c : Files K} → Keep t a b → Keep t b c → Keep t a c
  keep_trans h k = record {
    alive = λ s x. h.alive s (k.alive s x);
    presence = λ s. k.presence s ∙ h.presence s;
    page = λ s p l x. k.page s p l x ∙ h.page s p l (k.alive s x);
    size = λ s x. k.size s x ∙ h.size s (k.alive s x);
  }

  -- one entry changed
  pub put_entry_other : (files : Files K) (c p : ℕ) (e : Entry K) (s : ℕ) → (c ≡ s → ⊥) → put_entry files c p e s ≡ files s
  unfolding put_entry
  put_entry_other files c p e s h = upd_other files c _ s h

  pub put_entry_ent : (files : Files K) (c p : ℕ) (e : Entry K) → (put_entry files c p e c).map p ≡ e
  unfolding put_entry
  put_entry_ent files c p e = ap (λ (x : File K). x.map p) (upd_same files c _) ∙ upd_same (files c).map p e

  pub put_entry_state : (files : Files K) (c p : ℕ) (e : Entry K) (s : ℕ) → (put_entry files c p e s).state ≡ (files s).state
  unfolding put_entry
  put_entry_state files c p e s = upd_keeps (λ (x : File K). x.state) files c _ refl s

  pub put_entry_size : (files : Files K) (c p : ℕ) (e : Entry K) (s : ℕ) → (put_entry files c p e s).size ≡ (files s).size
  unfolding put_entry
  put_entry_size files c p e s = upd_keeps (λ (x : File K). x.size) files c _ refl s

  pub put_entry_page : (files : Files K) (c p : ℕ) (e : Entry K) (s p' : ℕ) → (p ≡ p' → ⊥) → (put_entry files c p e s).map p' ≡ (files s).map p'
  unfolding put_entry
  put_entry_page files c p e s p' h = upd_keeps (λ (x : File K). x.map p') files c _ (upd_other (files c).map p e p' h) s

  -- walks that see the same everywhere
  pub resolve_same : (t : Tree) (files files' : Files K) (p : ℕ) → ((s : ℕ) → (files' s).map p ≡ (files s).map p) → (s : ℕ) → resolve t files' s p ≡ resolve t files s p
  unfolding resolve
  resolve_same t files files' p h s =
      walk_frame t.parent (λ (x : File K). shown_entry (x.map p)) hole files files' (λ _. Unit {0}) (λ s _. ap shown_entry (h s)) (λ s _ _. tt) (t.level s) s tt

  pub size_same : (t : Tree) (files files' : Files K) → ((s : ℕ) → (files' s).state ≡ (files s).state) → ((s : ℕ) → (files' s).size ≡ (files s).size) → (s : ℕ) → size_by_reading t files' s ≡ size_by_reading t files s
  unfolding size_by_reading
  size_same t files files' h k s =
      walk_frame t.parent (λ (x : File K). shown_size x.state x.size) 0 files files' (λ _. Unit {0}) (λ s _. cc (h s, k s)) (λ s _ _. tt) (t.level s) s tt

  -- What a walk gives is shown: never unmapped.
  walk_shown : (parent : ℕ → ℕ) (p n : ℕ) (files : Files K) (s : ℕ) →
      shown_entry (walk parent (λ (x : File K). shown_entry (x.map p)) hole n files s) ≡ some (walk parent (λ (x : File K). shown_entry (x.map p)) hole n files s)
  unfolding walk
  walk_shown parent p zero files s = go ((files s).map p)
    where
      go : (e : Entry K) → shown_entry (pick (shown_entry e) hole) ≡ some (pick (shown_entry e) hole)
      go unmapped = refl
      go hole = refl
      go (stored b) = refl
  walk_shown parent p (suc n) files s = go ((files s).map p) _ (walk_shown parent p n files (parent s))
    where
      go : (e r : Entry K) → shown_entry r ≡ some r → shown_entry (pick (shown_entry e) r) ≡ some (pick (shown_entry e) r)
      go unmapped r h = h
      go hole r h = refl
      go (stored b) r h = refl

  pub resolve_shown : (t : Tree) (files : Files K) (s p : ℕ) → shown_entry (resolve t files s p) ≡ some (resolve t files s p)
  unfolding resolve
  resolve_shown t files s p = walk_shown t.parent p (t.level s) files s

  pub shown_none : (e : Entry K) → shown_entry e ≡ none → e ≡ unmapped
  shown_none unmapped h = refl
  shown_none hole h = cc
  shown_none (stored b) h = cc

  -- FILL: page p of the file in set c, unmapped there, gets what it is in the parent set. Nobody sees a change.
  module _ (t : Tree) (ok : TreeOk t) (files : Files K) (c p : ℕ) (at : t.level c ≡ suc (t.level (t.parent c))) (free : (files c).map p ≡ unmapped) where
    fill : Files K
    fill = put_entry files c p (resolve t files (t.parent c) p)

    fill_res : (s : ℕ) → resolve t fill s p ≡ resolve t files s p
    unfolding resolve fill
    fill_res s =
        walk_fill t.parent (λ (x : File K). shown_entry (x.map p)) hole files fill t.level ok.lower c (t.level (t.parent c)) at
        (ap shown_entry free)
        (ap shown_entry (put_entry_ent files c p _) ∙ resolve_shown t files (t.parent c) p)
        (λ s h. ap (λ (x : File K). shown_entry (x.map p)) (put_entry_other files c p _ s h))
        (t.level s) s refl

    pub fill_keep : Keep t files (put_entry files c p (resolve t files (t.parent c) p))
    unfolding fill
    fill_keep = record {
      alive = λ s a. rw put_entry_state at a;
      presence = λ s. ap is_absent (put_entry_state files c p _ s);
      page = λ s p' l a. same? p p' (λ q. subst (λ x. resolve t fill s x ≡ resolve t files s x) q (fill_res s)) (λ q. resolve_same t files fill p' (λ s. put_entry_page files c p _ s p' q) s);
      size = λ s a. size_same t files fill (put_entry_state files c p _) (put_entry_size files c p _) s;
    }

    pub fill_ok : ((files c).state ≡ virgin → ⊥) → FilesOk t files → FilesOk t (put_entry files c p (resolve t files (t.parent c) p))
    unfolding fill
    fill_ok nv k = record {
      closed = λ s p' l a u. rw put_entry_state (k.closed s p' l (rw put_entry_state at a) (was s p' u));
      listed = λ s p' l a u. k.listed s p' l (rw put_entry_state at a) (was s p' u);
      bare = λ s p' l v.
          let v' : (files s).state ≡ virgin = sym (put_entry_state files c p _ s) ∙ v in
          same? c s (λ q. absurd (nv (ap (λ x. (files x).state) q ∙ v')))
          (λ q. ap (λ (x : File K). x.map p') (put_entry_other files c p _ s q) ∙ k.bare s p' l v');
    }
      where
        was : (s p' : ℕ) → (fill s).map p' ≡ unmapped → (files s).map p' ≡ unmapped
        was s p' u =
            same? p p'
            (λ q. same? c s (λ r. cc free) (λ r. ap (λ (x : File K). x.map p') (sym (put_entry_other files c p _ s r)) ∙ u))
            (λ q. sym (put_entry_page files c p _ s p' q) ∙ u)

  -- one step up
  pub size_up : (t : Tree) (files : Files K) (c : ℕ) → t.level c ≡ suc (t.level (t.parent c)) → (files c).state ≡ virgin → size_by_reading t files c ≡ size_by_reading t files (t.parent c)
  unfolding size_by_reading walk
  size_up t files c at vir = rw (at, vir)

  pub resolve_up : (t : Tree) (files : Files K) (c p : ℕ) → t.level c ≡ suc (t.level (t.parent c)) → (files c).map p ≡ unmapped → resolve t files c p ≡ resolve t files (t.parent c) p
  unfolding resolve walk
  resolve_up t files c p at h = rw (at, h)

  -- SETTLE: a virgin file becomes own with the size that it had by reading. Nobody sees a change.
  module _ (t : Tree) (ok : TreeOk t) (files : Files K) (c : ℕ) (at : t.level c ≡ suc (t.level (t.parent c))) (vir : (files c).state ≡ virgin) where
    unfoldable pub settled : Files K
    settled = upd files c (record { state = own; size = size_by_reading t files c; map = (files c).map })

    pub settled_live : (s : ℕ) → live (settled s).state ≡ live (files s).state
    unfolding settled
    settled_live = upd_keeps (λ (x : File K). live x.state) files c _ (sym (ap live vir))

    settled_ent : (p s : ℕ) → (settled s).map p ≡ (files s).map p
    unfolding settled
    settled_ent p = upd_keeps (λ (x : File K). x.map p) files c _ refl

    settled_size : (s : ℕ) → size_by_reading t settled s ≡ size_by_reading t files s
    unfolding size_by_reading settled
    settled_size s =
        walk_fill t.parent (λ (x : File K). shown_size x.state x.size) 0 files settled t.level ok.lower c (t.level (t.parent c)) at
        (rw vir)
        (ap (λ (x : File K). shown_size x.state x.size) (upd_same files c _) ∙ ap some (size_up t files c at vir))
        (λ s h. ap (λ (x : File K). shown_size x.state x.size) (upd_other files c _ s h))
        (t.level s) s refl

    pub settled_keep : Keep t files settled
    unfolding settled
    settled_keep = record {
      alive = λ s a. rw settled_live at a;
      presence = upd_keeps (λ (x : File K). is_absent x.state) files c _ (sym (ap is_absent vir));
      page = λ s p l a. resolve_same t files settled p (settled_ent p) s;
      size = λ s a. settled_size s;
    }

    pub settled_ok : FilesOk t files → FilesOk t settled
    unfolding settled
    settled_ok k = record {
      closed = λ s p l a u. rw settled_live (k.closed s p l (rw settled_live at a) (rw settled_ent at u));
      listed = λ s p l a u. k.listed s p l (rw settled_live at a) (rw settled_ent at u);
      bare = λ s p l v. same? c s (λ q. absurd (fresh s q v)) (λ q. ap (λ (x : File K). x.map p) (upd_other files c _ s q) ∙ k.bare s p l (ap (λ (x : File K). x.state) (sym (upd_other files c _ s q)) ∙ v));
    }
      where
        fresh : (s : ℕ) → c ≡ s → (settled s).state ≡ virgin → ⊥
        fresh s q v =
            let e : (settled c).state ≡ own = ap (λ (x : File K). x.state) (upd_same files c _) in
            let z : ◌≡◌ {A = ℕ} 0 1 = cc in omega arith

  -- MARK: a file and all that read through it. Whoever is not marked reads what it read.
  module _ (t : Tree) (ok : TreeOk t) (files : Files K) (k : FilesOk t files) (c : ℕ) where
    mark_alive : (s : ℕ) → Alive (mark_down t files c) s → Alive files s
    mark_alive s a = ap (λ (x : File K). live x.state) (sym (mark_same t files c s a)) ∙ a

    mark_up : (s p : ℕ) → p < 64 → Alive (mark_down t files c) s → (files s).map p ≡ unmapped → Alive (mark_down t files c) (t.parent s)
    unfolding dependent
    mark_up s p l a u =
        let a₀ : Alive files s = mark_alive s a in
        let r : dependent (files s) ≡ true = rw a₀ (unmapped_some (files s).map p 64 l u) in
        let m : reaches t files c (t.parent s) ≡ false = reaches_up t files c s (ok.kid_lvl (t.parent s) s (k.listed s p l a₀ u)) r (mark_missed t files c s a) in
        ap (λ (x : File K). live x.state) (marked_by t files c (t.parent s) false m) ∙ k.closed s p l a₀ u

    pub mark_keep : Alive files c → Keep t files (mark_down t files c)
    unfolding resolve size_by_reading
    mark_keep al = record {
      alive = mark_alive;
      presence = mark_presence t files c al;
      page = λ s p l a.
          walk_frame t.parent (λ (x : File K). shown_entry (x.map p)) hole files (mark_down t files c) (Alive (mark_down t files c))
          (λ s a. ap (λ (x : File K). shown_entry (x.map p)) (mark_same t files c s a)) (λ s a n. mark_up s p l a (shown_none _ n)) (t.level s) s a;
      size = λ s a.
          walk_frame t.parent (λ (x : File K). shown_size x.state x.size) 0 files (mark_down t files c) (Alive (mark_down t files c))
          (λ s a. ap (λ (x : File K). shown_size x.state x.size) (mark_same t files c s a)) (λ s a n. mark_up s 0 (lit< tt) a (k.bare s 0 (lit< tt) (shown_size_none _ _ n))) (t.level s) s a;
    }

    pub mark_ok : FilesOk t (mark_down t files c)
    mark_ok = record {
      closed = λ s p l a u. mark_up s p l a (ap (λ (x : File K). x.map p) (sym (mark_same t files c s a)) ∙ u);
      listed = λ s p l a u. k.listed s p l (mark_alive s a) (ap (λ (x : File K). x.map p) (sym (mark_same t files c s a)) ∙ u);
      bare = λ s p l v.
          let e : mark_down t files c s ≡ files s = mark_same t files c s (ap live v) in
          ap (λ (x : File K). x.map p) e ∙ k.bare s p l (ap (λ (x : File K). x.state) (sym e) ∙ v);
    }

  pub needs_yes : (files : Files K) (c p : ℕ) → Alive files c → (files c).map p ≡ unmapped → needs files c p ≡ true
  unfolding needs
  needs_yes files c p a u = rw (a, u)

  -- CUT: the file of one set is changed at will, at pages that no child needs and with no virgin child. The others read what they read.
  module _ (t : Tree) (ok : TreeOk t) (files files' : Files K) (k : FilesOk t files) (s₀ : ℕ) (others : (s : ℕ) → (s₀ ≡ s → ⊥) → files' s ≡ files s) where
    pub cut_page : (p : ℕ) → p < 64 → ((c : ℕ) → Memᴰ c (t.children s₀) → needs files c p ≡ false) →
        (s : ℕ) → (s₀ ≡ s → ⊥) → Alive files s → resolve t files' s p ≡ resolve t files s p
    unfolding resolve needs
    cut_page p l idle s h a =
        walk_frame t.parent (λ (x : File K). shown_entry (x.map p)) hole files files' (λ s. (s₀ ≡ s → ⊥) × Alive files s)
        (λ s q. ap (λ (x : File K). shown_entry (x.map p)) (others s q.0))
        (λ s q n.
        let u : (files s).map p ≡ unmapped = shown_none _ n in
        (λ e. true≢false (sym (needs_yes files s p q.1 u) ∙ idle s (subst (λ x. Memᴰ s (t.children x)) (sym e) (k.listed s p l q.1 u))), k.closed s p l q.1 u))
        (t.level s) s (h, a)

    pub cut_size : ((c : ℕ) → Memᴰ c (t.children s₀) → (files c).state ≡ virgin → ⊥) →
        (s : ℕ) → (s₀ ≡ s → ⊥) → Alive files s → size_by_reading t files' s ≡ size_by_reading t files s
    unfolding size_by_reading
    cut_size none-virgin s h a =
        walk_frame t.parent (λ (x : File K). shown_size x.state x.size) 0 files files' (λ s. (s₀ ≡ s → ⊥) × Alive files s)
        (λ s q. ap (λ (x : File K). shown_size x.state x.size) (others s q.0))
        (λ s q n.
        let v : (files s).state ≡ virgin = shown_size_none _ _ n in
        let u : (files s).map 0 ≡ unmapped = k.bare s 0 (lit< tt) v in
        (λ e. none-virgin s (subst (λ x. Memᴰ s (t.children x)) (sym e) (k.listed s 0 (lit< tt) q.1 u)) v, k.closed s 0 (lit< tt) q.1 u))
        (t.level s) s (h, a)
