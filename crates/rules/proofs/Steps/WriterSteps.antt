-- Steps 2, 3 and 5 over the model, at a list of sets or pages. Assumes nothing.
use mathlib.Core.Bool.{true}
use mathlib.Core.List.Memᴰ
use mathlib.Core.List.{List, Memᴰ, ◌∷◌, []}
use mathlib.Core.Logic.{inl, inr, ◌⊎◌, ⊎_elim}
use mathlib.Core.Option.{Option, some}
use mathlib.Core.Path.{◌≡◌, ap, refl, subst, sym, ◌∙◌}
use Prim.Native.Nat.{suc, zero, ℕ}
use native.Mathlib.Omega.{arith}
use lib.Dec.{lit<}
use Rattle.base.specs.Logic.{same?}
use Rattle.base.specs.Update.{upd, upd_other, upd_same}
use Rattle.rules.proofs.Storages.Model.{model}
use Rattle.rules.proofs.Steps.OneStep.{FilesOk, Keep, TreeOk, keep_refl, keep_trans, put_entry_ent, put_entry_other, put_entry_page, put_entry_size, put_entry_state, resolve_same, settled, settled_keep, settled_live, settled_ok}
use Rattle.rules.proofs.Steps.StepFour.{each_all, each_inv}
use Rattle.rules.specs.Reading.{resolve, shown_entry, shown_size, size_by_reading, walk}
use Rattle.rules.specs.Rules.{Work, each, enter, enter_as, page_of, put_entry, reserve, reserve_as, settle, settle_as, settle_file, take_own}
use Rattle.rules.specs.State.{Entry, File, Files, State, Tree, absent, absent_file, hole, is_stored, live, marked, own, stored, unmapped, virgin}
use Rattle.rules.specs.Storage.{PageData}

module _ {X Y : Type 0} (parent : ℕ → ℕ) (look : X → Option Y) (d : Y) where
  walk_here : (n : ℕ) (files : ℕ → X) (s : ℕ) (v : Y) → look (files s) ≡ some v → walk parent look d n files s ≡ v
  unfolding walk
  walk_here zero files s v h = rw h
  walk_here (suc n) files s v h = rw h

module _ {K : Type 0} where
  pub resolve_here : (t : Tree) (files : Files K) (s p : ℕ) (e : Entry K) → (files s).map p ≡ e → shown_entry e ≡ some e → resolve t files s p ≡ e
  unfolding resolve
  resolve_here t files s p e h k = walk_here t.parent (λ (x : File K). shown_entry (x.map p)) hole (t.level s) files s e (ap shown_entry h ∙ k)

  pub size_here : (t : Tree) (files : Files K) (s : ℕ) → (files s).state ≡ own → size_by_reading t files s ≡ (files s).size
  unfolding size_by_reading
  size_here t files s h = walk_here t.parent (λ (x : File K). shown_size x.state x.size) 0 (t.level s) files s (files s).size (rw h)

  -- an absent file has size 0 by reading
  pub size_absent : (t : Tree) (files : Files K) (s : ℕ) → files s ≡ absent_file → size_by_reading t files s ≡ 0
  unfolding size_by_reading
  size_absent t files s h =
      walk_here t.parent (λ (x : File K). shown_size x.state x.size) 0 (t.level s) files s 0 (ap (λ (x : File K). shown_size x.state x.size) h)

  -- STEP 2, at a list of sets
  pub record Settled (t : Tree) (files files' : Files K) : Type 0 where
    pub ok' : FilesOk t files'
    pub keep : Keep t files files'
    pub live' : (s : ℕ) → live (files' s).state ≡ live (files s).state
    pub no_new_virgin : (s : ℕ) → (files' s).state ≡ virgin → (files s).state ≡ virgin

  settled_trans : {t : Tree} {a b c : Files K} → Settled t a b → Settled t b c → Settled t a c
  settled_trans h k = record {
    ok' = k.ok';
    keep = keep_trans h.keep k.keep;
    live' = λ s. k.live' s ∙ h.live' s;
    no_new_virgin = λ s x. h.no_new_virgin s (k.no_new_virgin s x);
  }

  module _ (t : Tree) (ok : TreeOk t) (c : ℕ) (files : Files K) (k : FilesOk t files) where
    settle_one : (l : State) → (files c).state ≡ l → Settled t files (settle_as l t files c) × ((settle_as l t files c c).state ≡ virgin → ⊥)
    unfolding settle_as settled
    settle_one absent e = (record { ok' = k; keep = keep_refl t files; live' = λ s. refl; no_new_virgin = λ s h. h }, λ v. let z : ◌≡◌ {A = ℕ} 0 1 = cc in omega arith)
    settle_one own e = (record { ok' = k; keep = keep_refl t files; live' = λ s. refl; no_new_virgin = λ s h. h }, λ v. let z : ◌≡◌ {A = ℕ} 0 1 = cc in omega arith)
    settle_one marked e = (record { ok' = k; keep = keep_refl t files; live' = λ s. refl; no_new_virgin = λ s h. h }, λ v. let z : ◌≡◌ {A = ℕ} 0 1 = cc in omega arith)
    settle_one virgin e =
        let at : t.level c ≡ suc (t.level (t.parent c)) = ok.kid_lvl (t.parent c) c (k.listed c 0 (lit< tt) (ap live e) (k.bare c 0 (lit< tt) e)) in
        let here : (settled t ok files c at e c).state ≡ own = ap (λ (x : File K). x.state) (upd_same files c _) in (
          record {
            ok' = settled_ok t ok files c at e k;
            keep = settled_keep t ok files c at e;
            live' = settled_live t ok files c at e;
            no_new_virgin = λ s h. same? c s (λ q. let z : ◌≡◌ {A = ℕ} 0 1 = cc in absurd (omega arith)) (λ q. ap (λ (x : File K). x.state) (sym (upd_other files c _ s q)) ∙ h);
          },
          λ v. let z : ◌≡◌ {A = ℕ} 0 1 = cc in omega arith,
        )

    settle_step : Settled t files (settle_file t c files) × ((settle_file t c files c).state ≡ virgin → ⊥)
    unfolding settle_file
    settle_step = settle_one (files c).state refl

module _ (t : Tree) (ok : TreeOk t) (w : Work model) where
  abbrev pub SettledW : Work model → Type 0
  SettledW v = Settled t w.files v.files

  pub settle_each : (cs : List ℕ) → SettledW w → SettledW (each (settle model t) cs w)
  unfolding settle
  settle_each cs i = each_inv (settle model t) SettledW cs (λ c v m i. settled_trans i (settle_step t ok c v.files i.ok').0) w i

  pub settle_no_virgin : (cs : List ℕ) → SettledW w → (c : ℕ) → Memᴰ c cs → ((each (settle model t) cs w).files c).state ≡ virgin → ⊥
  unfolding settle
  settle_no_virgin cs i =
      each_all (settle model t) SettledW (λ c v. (v.files c).state ≡ virgin → ⊥) cs
      (λ c v m i. settled_trans i (settle_step t ok c v.files i.ok').0)
      (λ c v m i. (settle_step t ok c v.files i.ok').1)
      (λ c c' v m i h x. h ((settle_step t ok c' v.files i.ok').0.no_new_virgin c x)) w i

-- STEP 3: the files stay, and each touched page has a block pending
abbrev pub IsPending : {K : Type 0} → Entry K → Type 0
IsPending e = is_stored e ≡ true

module _ (t : Tree) (s : ℕ) where
  pub record Reserved (p : ℕ) (w v : Work model) : Type 0 where
    pub files' : v.files ≡ w.files
    pub here : IsPending (v.pending p)
    pub more : (q : ℕ) → IsPending (w.pending q) → IsPending (v.pending q)

  reserve_step : (p : ℕ) (w : Work model) → Reserved p w (reserve model t s p w)
  unfolding reserve reserve_as take_own
  reserve_step p w = go ((w.files s).map p)
    where
      got : (h : ℕ → Entry PageData) (b : PageData) → IsPending (upd h p (stored b) p)
      got h b = ap is_stored (upd_same h p (stored b))

      kept : (h : ℕ → Entry PageData) (b : PageData) (q : ℕ) → IsPending (h q) → IsPending (upd h p (stored b) q)
      kept h b q k = same? p q (λ e. subst (λ x. IsPending (upd h p (stored b) x)) e (got h b)) (λ e. ap is_stored (upd_other h p (stored b) q e) ∙ k)

      go : (e : Entry PageData) → Reserved p w (reserve_as model t e p w)
      go unmapped = record { files' = refl; here = got w.pending _; more = kept w.pending _ }
      go hole = record { files' = refl; here = got w.pending _; more = kept w.pending _ }
      go (stored b) = record { files' = refl; here = got w.pending b; more = kept w.pending b }

  pub reserve_files : (ps : List ℕ) (w : Work model) → (each (reserve model t s) ps w).files ≡ w.files
  reserve_files ps w = each_inv (reserve model t s) (λ v. v.files ≡ w.files) ps (λ p v m i. (reserve_step p v).files' ∙ i) w refl

  pub reserve_pending : (ps : List ℕ) (w : Work model) (p : ℕ) → Memᴰ p ps → IsPending ((each (reserve model t s) ps w).pending p)
  reserve_pending ps w =
      each_all (reserve model t s) (λ v. Unit {0}) (λ p v. IsPending (v.pending p)) ps (λ p v m i. tt) (λ p v m i. (reserve_step p v).here) (λ p q v m i h. (reserve_step q v).more p h) w tt

-- STEP 5: the pending blocks enter the map with the new bytes
abbrev pub NoDup : List ℕ → Type 0
NoDup [] = Unit {0}
NoDup (x ∷ xs) = (Memᴰ x xs → ⊥) × NoDup xs

-- what a page is
abbrev pub bytes : Entry PageData → PageData
bytes unmapped = λ i. 0
bytes hole = λ i. 0
bytes (stored v) = v

page_bytes : (m : ℕ) (e : Entry PageData) → page_of model m e ≡ bytes e
unfolding page_of
page_bytes m unmapped = refl
page_bytes m hole = refl
page_bytes m (stored v) = refl

module _ (t : Tree) (s : ℕ) (lay : ℕ → PageData → PageData) where
  abbrev pub laid : Files PageData → ℕ → Entry PageData
  laid files p = stored (lay p (bytes (resolve t files s p)))

  enter_files : (p : ℕ) (w : Work model) → IsPending (w.pending p) → (enter model t s lay p w).files ≡ put_entry w.files s p (laid w.files p)
  unfolding enter enter_as
  enter_files p w h = go (w.pending p) h
    where
      go : (e : Entry PageData) → IsPending e → (enter_as model t e s p (lay p (page_of model w.memory (resolve t w.files s p))) w).files ≡ put_entry w.files s p (laid w.files p)
      go unmapped h = cc
      go hole h = cc
      go (stored b) h = rw (page_bytes w.memory (resolve t w.files s p))

  enter_pending : (p : ℕ) (w : Work model) → (enter model t s lay p w).pending ≡ w.pending
  unfolding enter enter_as
  enter_pending p w = go (w.pending p)
    where
      go : (e : Entry PageData) → (enter_as model t e s p (lay p (page_of model w.memory (resolve t w.files s p))) w).pending ≡ w.pending
      go unmapped = refl
      go hole = refl
      go (stored b) = refl

  pub record Entered (ps : List ℕ) (a b : Files PageData) : Type 0 where
    pub others : (x : ℕ) → (s ≡ x → ⊥) → b x ≡ a x
    pub state' : (b s).state ≡ (a s).state
    pub size' : (b s).size ≡ (a s).size
    pub new : (p : ℕ) → Memᴰ p ps → (b s).map p ≡ laid a p
    pub old : (p : ℕ) → (Memᴰ p ps → ⊥) → (b s).map p ≡ (a s).map p

  enter_more : (q : ℕ) (qs : List ℕ) → (Memᴰ q qs → ⊥) → (a b : Files PageData) → Entered qs (put_entry a s q (laid a q)) b → Entered (q ∷ qs) a b
  enter_more q qs nq a b r = record {
    others = λ x n. r.others x n ∙ put_entry_other a s q _ x n;
    state' = r.state' ∙ put_entry_state a s q _ s;
    size' = r.size' ∙ put_entry_size a s q _ s;
    new = λ p m. ⊎_elim
        (λ e. subst (λ x. (b s).map x ≡ laid a x) (sym e) (r.old q nq ∙ put_entry_ent a s q _))
        (λ m. r.new p m ∙ ap (λ e. stored (lay p (bytes e))) (resolve_same t a (put_entry a s q (laid a q)) p (λ x. put_entry_page a s q _ x p (λ e. nq (subst (λ x. Memᴰ x qs) (sym e) m))) s))
        (Memᴰ.cases_cons m);
    old = λ p n. r.old p (λ m. n (Memᴰ.tail m)) ∙ put_entry_page a s q _ s p (λ e. n (Memᴰ.head (sym e)));
  }

  pub enter_all : (ps : List ℕ) → NoDup ps → (w : Work model) → ((p : ℕ) → Memᴰ p ps → IsPending (w.pending p)) → Entered ps w.files (each (enter model t s lay) ps w).files
  unfolding each
  enter_all [] d w h = record { others = λ x n. refl; state' = refl; size' = refl; new = λ p m. elim m [ ]; old = λ p n. refl }
  enter_all (q ∷ qs) d w h =
      enter_more q qs d.0 w.files _ (subst (λ x. Entered qs x (each (enter model t s lay) qs (enter model t s lay q w)).files) (enter_files q w (h q (Memᴰ.head refl))) (enter_all qs d.1 (enter model t s lay q w) (λ p m. rw (enter_pending q w) (h p (Memᴰ.tail m)))))

pub mem? : (p : ℕ) (ps : List ℕ) → (Memᴰ p ps) ⊎ (Memᴰ p ps → ⊥)
mem? p [] = inr (λ m. elim m [ ])
mem? p (q ∷ qs) = same? p q (λ e. inl (Memᴰ.head e)) (λ n. ⊎_elim (λ m. inl (Memᴰ.tail m)) (λ o. inr (λ m. ⊎_elim n o (Memᴰ.cases_cons m))) (mem? p qs))
