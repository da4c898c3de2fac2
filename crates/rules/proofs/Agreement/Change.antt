-- Any change of one file over the model: the write, and both truncates. Assumes nothing.
use mathlib.Core.Bool.{false}
use mathlib.Core.List.{List, Memᴰ, ◌∷◌}
use mathlib.Core.Logic.{◌⊎◌, inl, inr, ⊎_elim}
use mathlib.Core.Path.{ap, refl, subst, sym, ◌∙◌, ◌≡◌}
use Prim.Native.Nat.{◌<◌, ℕ}
use Rattle.base.specs.Logic.{same?}
use Rattle.base.specs.Update.{upd, upd_other, upd_same}
use Rattle.rules.proofs.Storages.Model.{model}
use Rattle.rules.proofs.Steps.OneStep.{Alive, FilesOk, TreeOk, cut_page, cut_size, keep_refl, put_entry_ent, put_entry_other, put_entry_page, put_entry_size, put_entry_state, resolve_same}
use Rattle.rules.proofs.Steps.States.{alive_own, live_present}
use Rattle.rules.proofs.Steps.StepFour.{Going, each_all, each_inv, extra_going, give_all_done, give_all_going, served_refl}
use Rattle.rules.proofs.Steps.WriterSteps.{Entered, IsPending, NoDup, Settled, bytes, enter_all, laid, mem?, reserve_files, reserve_pending, resolve_here, settle_no_virgin, settle_each, size_here}
use Rattle.rules.specs.Reading.{needs, resolve, size_by_reading}
use Rattle.rules.specs.Rules.{Work, change, copied, drop_page, each, enter, extra, give_all, handed, put_entry, reserve, resize, settle}
use Rattle.rules.specs.State.{File, Files, Tree, hole, is_absent, live, own, stored, unmapped, virgin}
use Rattle.rules.specs.Storage.{PageData}
use Rattle.rules.proofs.Steps.Handing.{AllHanded, ProperTree, Served, all_handed, served_any, served_then}

-- pages dropped
module _ (t : Tree) (s : ℕ) where
  pub record Dropped (ds : List ℕ) (a b : Files PageData) : Type 0 where
    pub others : (x : ℕ) → (s ≡ x → ⊥) → b x ≡ a x
    pub state' : (b s).state ≡ (a s).state
    pub size' : (b s).size ≡ (a s).size
    pub new : (p : ℕ) → Memᴰ p ds → (b s).map p ≡ hole
    pub old : (p : ℕ) → (Memᴰ p ds → ⊥) → (b s).map p ≡ (a s).map p

  drop_all : (ds : List ℕ) (w : Work model) → Dropped ds w.files (each (drop_page model t s) ds w).files
  unfolding drop_page
  drop_all ds w = record {
    others = λ x n. each_inv (drop_page model t s) (λ v. v.files x ≡ w.files x) ds (λ p v m i. put_entry_other v.files s p hole x n ∙ i) w refl;
    state' = each_inv (drop_page model t s) (λ v. (v.files s).state ≡ (w.files s).state) ds (λ p v m i. put_entry_state v.files s p hole s ∙ i) w refl;
    size' = each_inv (drop_page model t s) (λ v. (v.files s).size ≡ (w.files s).size) ds (λ p v m i. put_entry_size v.files s p hole s ∙ i) w refl;
    new = each_all (drop_page model t s) (λ v. Unit {0}) (λ p v. (v.files s).map p ≡ hole) ds (λ p v m i. tt) (λ p v m i. put_entry_ent v.files s p hole)
        (λ p q v m i h. same? q p (λ e. subst (λ y. (put_entry v.files s q hole s).map y ≡ hole) e (put_entry_ent v.files s q hole)) (λ n. put_entry_page v.files s q hole s p n ∙ h)) w tt;
    old = λ p n. each_inv (drop_page model t s) (λ v. (v.files s).map p ≡ (w.files s).map p) ds (λ q v m i. put_entry_page v.files s q hole s p (λ e. n (subst (λ y. Memᴰ y ds) e m)) ∙ i) w refl;
  }

pub record Changed (t : Tree) (s : ℕ) (rs ds : List ℕ) (lay : ℕ → PageData → PageData) (sz : ℕ → ℕ) (a b : Files PageData) : Type 0 where
  pub ok' : FilesOk t b
  pub alive : (x : ℕ) → Alive b x → Alive a x
  pub presence : (x : ℕ) → is_absent (b x).state ≡ is_absent (a x).state
  pub self : Alive b s
  pub page : (x p : ℕ) → p < 64 → (s ≡ x → ⊥) → Alive b x → resolve t b x p ≡ resolve t a x p
  pub size : (x : ℕ) → (s ≡ x → ⊥) → Alive b x → size_by_reading t b x ≡ size_by_reading t a x
  pub new_page : (p : ℕ) → p < 64 → Memᴰ p rs → (Memᴰ p ds → ⊥) → resolve t b s p ≡ stored (lay p (bytes (resolve t a s p)))
  pub cut_page' : (p : ℕ) → p < 64 → Memᴰ p ds → resolve t b s p ≡ hole
  pub old_page : (p : ℕ) → p < 64 → (Memᴰ p rs → ⊥) → (Memᴰ p ds → ⊥) → resolve t b s p ≡ resolve t a s p
  pub new_size : size_by_reading t b s ≡ sz (size_by_reading t a s)

module _ (t : Tree) (ok : TreeOk t) (s : ℕ) (ps rs ds : List ℕ) (in-r : (p : ℕ) → Memᴰ p rs → Memᴰ p ps) (apart : (p : ℕ) → Memᴰ p ds → Memᴰ p rs → ⊥)
    (lay : ℕ → PageData → PageData) (sz : ℕ → ℕ) (a b₁ b₃ b₄ b₅ : Files PageData)
    (al : Alive a s) (r₁ : Settled t a b₁) (no_virgin : (c : ℕ) → Memᴰ c (s ∷ t.children s) → (b₁ c).state ≡ virgin → ⊥)
    (r₃ : Served t s (λ p. Memᴰ p ds) b₁ b₃) (idle : (p : ℕ) → Memᴰ p ps ⊎ Memᴰ p ds → (c : ℕ) → Memᴰ c (t.children s) → needs b₃ c p ≡ false) (r₄ : Entered t s lay rs b₃ b₄) (r₅ : Dropped t s ds b₄ b₅) where
  last : Files PageData
  last = upd b₅ s (record { state = own; size = sz (b₅ s).size; map = (b₅ s).map })

  last_s : last s ≡ record { state = own; size = sz (b₅ s).size; map = (b₅ s).map }
  unfolding last
  last_s = upd_same b₅ s _

  last_x : (x : ℕ) → (s ≡ x → ⊥) → last x ≡ b₃ x
  unfolding last
  last_x x n = upd_other b₅ s _ x n ∙ r₅.others x n ∙ r₄.others x n

  own₁ : (b₁ s).state ≡ own
  own₁ = alive_own (b₁ s).state (r₁.live' s ∙ al) (no_virgin s (mathlib.Core.List.Memᴰ.head refl))

  alive₃ : Alive b₃ s
  alive₃ = ap live (r₃.state ∙ own₁)

  back : (x : ℕ) → Alive last x → Alive b₃ x
  back x h = same? s x (λ e. subst (Alive b₃) e alive₃) (λ n. ap (λ (f : File PageData). live f.state) (sym (last_x x n)) ∙ h)

  forth : (x : ℕ) → Alive b₃ x → Alive last x
  forth x h = same? s x (λ e. subst (Alive last) e (ap (λ (f : File PageData). live f.state) last_s)) (λ n. ap (λ (f : File PageData). live f.state) (last_x x n) ∙ h)

  page₃ : (x p : ℕ) → p < 64 → (s ≡ x → Memᴰ p ds → ⊥) → Alive b₃ x → resolve t b₃ x p ≡ resolve t a x p
  page₃ x p l n h = r₃.page x p l n h ∙ r₁.keep.page x p l (r₃.alive x h)

  size₃ : (x : ℕ) → Alive b₃ x → size_by_reading t b₃ x ≡ size_by_reading t a x
  size₃ x h = r₃.size x h ∙ r₁.keep.size x (r₃.alive x h)

  untouched : (p : ℕ) → (Memᴰ p rs → ⊥) → (Memᴰ p ds → ⊥) → (x : ℕ) → (last x).map p ≡ (b₃ x).map p
  untouched p o d x =
      same? s x (λ e. subst (λ y. (last y).map p ≡ (b₃ y).map p) e (ap (λ (f : File PageData). f.map p) last_s ∙ r₅.old p d ∙ r₄.old p o)) (λ n. ap (λ (f : File PageData). f.map p) (last_x x n))

  entered : (p : ℕ) → Memᴰ p rs → (Memᴰ p ds → ⊥) → (last s).map p ≡ laid t s lay b₃ p
  entered p m d = ap (λ (f : File PageData). f.map p) last_s ∙ r₅.old p d ∙ r₄.new p m

  holed : (p : ℕ) → Memᴰ p ds → (last s).map p ≡ hole
  holed p m = ap (λ (f : File PageData). f.map p) last_s ∙ r₅.new p m

  was : (x p : ℕ) → (last x).map p ≡ unmapped → (b₃ x).map p ≡ unmapped
  was x p u =
      same? s x
      (λ e. ⊎_elim (λ m. let z : (last s).map p ≡ hole = holed p m in cc)
      (λ d. ⊎_elim (λ m. let z : (last s).map p ≡ stored _ = entered p m d in cc) (λ o. sym (untouched p o d x) ∙ u) (mem? p rs)) (mem? p ds))
      (λ n. ap (λ (f : File PageData). f.map p) (sym (last_x x n)) ∙ u)

  assembled : Changed t s rs ds lay sz a last
  assembled = record {
    ok' = record {
      closed = λ x p l h u. forth (t.parent x) (r₃.ok'.closed x p l (back x h) (was x p u));
      listed = λ x p l h u. r₃.ok'.listed x p l (back x h) (was x p u);
      bare = λ x p l v. same? s x (λ e. let z : (last s).state ≡ own = ap (λ (f : File PageData). f.state) last_s in cc)
          (λ n. ap (λ (f : File PageData). f.map p) (last_x x n) ∙ r₃.ok'.bare x p l (ap (λ (f : File PageData). f.state) (sym (last_x x n)) ∙ v));
    };
    alive = λ x h. r₁.keep.alive x (r₃.alive x (back x h));
    presence = λ x. same? s x
        (λ e. subst (λ y. is_absent (last y).state ≡ is_absent (a y).state) e (live_present (last s).state (forth s alive₃) ∙ sym (live_present (a s).state al)))
        (λ n. ap (λ (f : File PageData). is_absent f.state) (last_x x n) ∙ r₃.presence x ∙ r₁.keep.presence x);
    self = forth s alive₃;
    page = λ x p l n h.
        ⊎_elim
        (λ m. cut_page t ok b₃ last r₃.ok' s last_x p l (idle p (inl m)) x n (back x h))
        (λ o. ⊎_elim
        (λ m. cut_page t ok b₃ last r₃.ok' s last_x p l (idle p (inr m)) x n (back x h))
        (λ d. resolve_same t b₃ last p (untouched p (λ m. o (in-r p m)) d) x)
        (mem? p ds))
        (mem? p ps) ∙ page₃ x p l (λ e. absurd (n e)) (back x h);
    size = λ x n h. cut_size t ok b₃ last r₃.ok' s last_x (λ c m v. no_virgin c (mathlib.Core.List.Memᴰ.tail m) (r₃.no_new_virgin c v)) x n (back x h) ∙ size₃ x (back x h);
    new_page = λ p l m d. resolve_here t last s p _ (entered p m d) refl ∙ ap (λ e. stored (lay p (bytes e))) (page₃ s p l (λ _ k. d k) alive₃);
    cut_page' = λ p l m. resolve_here t last s p hole (holed p m) refl;
    old_page = λ p l o d. resolve_same t b₃ last p (untouched p o d) s ∙ page₃ s p l (λ _ k. d k) alive₃;
    new_size =
        size_here t last s (ap (λ (f : File PageData). f.state) last_s) ∙ ap (λ (f : File PageData). f.size) last_s
        ∙ ap sz (r₅.size' ∙ r₄.size' ∙ r₃.length ∙ sym (size_here t b₁ s own₁) ∙ r₁.keep.size s (r₁.live' s ∙ al));
  }

module _ (t : Tree) (proper : ProperTree t) (s : ℕ) (ps rs ds es : List ℕ) (in-r : (p : ℕ) → Memᴰ p rs → Memᴰ p ps) (apart : (p : ℕ) → Memᴰ p ds → Memᴰ p rs → ⊥) (low-d : (p : ℕ) → Memᴰ p ds → p < 64) (nd : NoDup rs)
    (lay : ℕ → PageData → PageData) (sz : ℕ → ℕ) (w : Work model) (k : FilesOk t w.files) (a : Alive w.files s) where
  pub changed : Changed t s rs ds lay sz w.files (change model t s ps rs ds es lay sz w).files
  unfolding change resize last
  changed =
      let ok = proper.ok in
      let i : Settled t w.files w.files = record { ok' = k; keep = keep_refl t w.files; live' = λ s. refl; no_new_virgin = λ s h. h } in
      let w₁ : Work model = each (settle model t) (s ∷ t.children s) w in
      let w₂ : Work model = each (reserve model t s) rs w₁ in
      let wₚ : Work model = give_all model t copied s ps w₂ in
      let wₕ : Work model = give_all model t handed s ds wₚ in
      let w₃ : Work model = give_all model t extra s es wₕ in
      let w₄ : Work model = each (enter model t s lay) rs w₃ in
      let w₅ : Work model = each (drop_page model t s) ds w₄ in
      let e₂ : w₂.files ≡ w₁.files = reserve_files t s rs w₁ in
      let r₁ : Settled t w.files w₂.files = rw e₂ (settle_each t ok w (s ∷ t.children s) i) in
      let no_virgin : (c : ℕ) → Memᴰ c (s ∷ t.children s) → (w₂.files c).state ≡ virgin → ⊥ = rw e₂ (settle_no_virgin t ok w (s ∷ t.children s) i) in
      let no_virgin' : (c : ℕ) → Memᴰ c (t.children s) → (w₂.files c).state ≡ virgin → ⊥ = λ c m. no_virgin c (mathlib.Core.List.Memᴰ.tail m) in
      let g : Going t ok s w₂ w₂ = record { served = served_refl r₁.ok'; pending = refl } in
      let gₚ : Going t ok s w₂ wₚ = give_all_going t ok s w₂ no_virgin' ps g in
      let gₕ : AllHanded t ok s (proper.once s) (λ p. Memᴰ p ds) ds wₚ wₕ =
      all_handed t ok s (proper.once s) (λ p. Memᴰ p ds) ds (λ p m. (low-d p m, m)) wₚ gₚ.served.ok' (λ c m v. no_virgin' c m (gₚ.served.no_new_virgin c v)) in
      let rₕ : Served t s (λ p. Memᴰ p ds) w₂.files wₕ.files = served_then (served_any gₚ.served) gₕ.served in
      let g₃ : Going t ok s wₕ w₃ = extra_going t ok s wₕ (λ c m v. no_virgin' c m (rₕ.no_new_virgin c v)) es (record { served = served_refl rₕ.ok'; pending = refl }) in
      let r₃ : Served t s (λ p. Memᴰ p ds) w₂.files w₃.files = served_then rₕ (served_any g₃.served) in
      let idle : (p : ℕ) → Memᴰ p ps ⊎ Memᴰ p ds → (c : ℕ) → Memᴰ c (t.children s) → needs w₃.files c p ≡ false = λ p o c l.
      g₃.served.less c p (⊎_elim (λ m. gₕ.served.less c p (give_all_done t ok s w₂ no_virgin' ps g p m c l)) (λ m. gₕ.idle p m c l) o) in
      let pending : (p : ℕ) → Memᴰ p rs → IsPending (w₃.pending p) = λ p m. rw (g₃.pending ∙ gₕ.pending ∙ gₚ.pending) (reserve_pending t s rs w₁ p m) in
      assembled t ok s ps rs ds in-r apart lay sz w.files w₂.files w₃.files w₄.files w₅.files a r₁ no_virgin r₃ idle (enter_all t s lay rs nd w₃ pending) (drop_all t s ds w₄)
