-- The delete over the model. Assumes nothing.
use mathlib.Core.Bool.{Bool, false, true, true≢false}
use mathlib.Core.List.{List, Memᴰ}
use mathlib.Core.Option.{Option, none}
use mathlib.Core.Path.{ap, refl, subst, sym, ◌∙◌, ◌≡◌}
use Prim.Native.Nat.{◌<◌, ℕ}
use native.Mathlib.Omega.{arith}
use Rattle.base.specs.Update.{upd, upd_other, upd_same}
use Rattle.rules.proofs.Agreement.Agree.{Agree, agree_one, from_high, from_mem}
use Rattle.rules.proofs.Storages.Model.{model}
use Rattle.rules.proofs.Steps.OneStep.{Alive, FilesOk, TreeOk, cut_page, cut_size, keep_refl, needs_yes}
use Rattle.rules.proofs.Agreement.CreateMake.{away_page, away_size}
use Rattle.rules.proofs.Steps.WriterSteps.{Settled, settle_no_virgin, settle_each}
use Rattle.rules.specs.Reading.{needs, resolve, size_by_reading}
use Rattle.rules.specs.Rules.{Work, delete_as, delete_file, each, erase_file, from, give_all, handed, settle}
use Rattle.rules.specs.State.{File, Files, Tree, absent, is_absent, live, unmapped, virgin}
use Rattle.rules.specs.Storage.{PageData}
use Rattle.rules.proofs.Steps.Handing.{AllHanded, ProperTree, Served, all_handed}

-- the file of set s is gone, the others read what they read
pub record Gone (t : Tree) (s : ℕ) (a b : Files PageData) : Type 0 where
  pub ok' : FilesOk t b
  pub empty : (b s).state ≡ absent
  pub alive : (x : ℕ) → (s ≡ x → ⊥) → Alive b x → Alive a x
  pub presence : (x : ℕ) → (s ≡ x → ⊥) → is_absent (b x).state ≡ is_absent (a x).state
  pub page : (x p : ℕ) → p < 64 → (s ≡ x → ⊥) → Alive b x → resolve t b x p ≡ resolve t a x p
  pub size : (x : ℕ) → (s ≡ x → ⊥) → Alive b x → size_by_reading t b x ≡ size_by_reading t a x

pub agree_gone : (t : Tree) (s : ℕ) (a b : Files PageData) (pf : ℕ → Option (List ℕ)) → Agree t a pf → Gone t s a b → Agree t b (upd pf s none)
agree_gone t s a b pf g r =
    agree_one t t a b pf g s none r.presence r.alive r.page r.size (sym (ap is_absent r.empty)) (λ l e h. cc) (λ l e h i j. cc)

-- the files after an erasure
erase_others : (t : Tree) (s : ℕ) (w : Work model) (x : ℕ) → (s ≡ x → ⊥) → (erase_file model t s w).files x ≡ w.files x
unfolding erase_file
erase_others t s w x n = upd_other w.files s _ x n

erase_empty : (t : Tree) (s : ℕ) (w : Work model) → ((erase_file model t s w).files s).state ≡ absent
unfolding erase_file
erase_empty t s w = ap (λ (f : File PageData). f.state) (upd_same w.files s _)

module _ (t : Tree) (ok : TreeOk t) (s : ℕ) (a b : Files PageData) (empty : (b s).state ≡ absent) where
  not_s : (x : ℕ) → Alive b x → s ≡ x → ⊥
  not_s x al e = true≢false (sym al ∙ ap (λ y. live (b y).state) (sym e) ∙ ap live empty)

  gone_bare : (b₃ : Files PageData) → ((x : ℕ) → (s ≡ x → ⊥) → b x ≡ b₃ x) → FilesOk t b₃ → (x p : ℕ) → p < 64 → (b x).state ≡ virgin → (b x).map p ≡ unmapped
  gone_bare b₃ others k x p l v =
      let n = not_s x (ap live v) in ap (λ (f : File PageData). f.map p) (others x n) ∙ k.bare x p l (ap (λ (f : File PageData). f.state) (sym (others x n)) ∙ v)

  -- a marked file: nobody read through it
  module _ (k : FilesOk t a) (dead : live (a s).state ≡ false) (others : (x : ℕ) → (s ≡ x → ⊥) → b x ≡ a x) where
    was : (x : ℕ) → (s ≡ x → ⊥) → Alive b x → Alive a x
    was x n al = ap (λ (f : File PageData). live f.state) (sym (others x n)) ∙ al

    leaf : (x p : ℕ) → p < 64 → Alive a x → (a x).map p ≡ unmapped → s ≡ t.parent x → ⊥
    leaf x p l al u e = true≢false (sym (k.closed x p l al u) ∙ ap (λ y. live (a y).state) (sym e) ∙ dead)

    gone_marked : Gone t s a b
    gone_marked = record {
      ok' = record {
        closed = λ x p l al u. let n = not_s x al in let v = ap (λ (f : File PageData). f.map p) (sym (others x n)) ∙ u in
            ap (λ (f : File PageData). live f.state) (others (t.parent x) (leaf x p l (was x n al) v)) ∙ k.closed x p l (was x n al) v;
        listed = λ x p l al u. let n = not_s x al in k.listed x p l (was x n al) (ap (λ (f : File PageData). f.map p) (sym (others x n)) ∙ u);
        bare = gone_bare a others k;
      };
      empty = empty;
      alive = was;
      presence = λ x n. ap (λ (f : File PageData). is_absent f.state) (others x n);
      page = λ x p l n al. away_page t t a b k s (λ _ _. refl) (λ _ _. refl) others leaf x p l n (was x n al);
      size = λ x n al. away_size t t a b k s (λ _ _. refl) (λ _ _. refl) others leaf x n (was x n al);
    }

  -- a live file: the children have been given what they need
  module _ (b₁ b₃ : Files PageData) (r₁ : Settled t a b₁) (no_virgin : (c : ℕ) → Memᴰ c (t.children s) → (b₁ c).state ≡ virgin → ⊥) (r₃ : Served t s (λ p. Unit {0}) b₁ b₃)
      (idle : (p : ℕ) → p < 64 → (c : ℕ) → Memᴰ c (t.children s) → needs b₃ c p ≡ false) (others : (x : ℕ) → (s ≡ x → ⊥) → b x ≡ b₃ x) where
    was₃ : (x : ℕ) → (s ≡ x → ⊥) → Alive b x → Alive b₃ x
    was₃ x n al = ap (λ (f : File PageData). live f.state) (sym (others x n)) ∙ al

    leaf₃ : (x p : ℕ) → p < 64 → Alive b₃ x → (b₃ x).map p ≡ unmapped → s ≡ t.parent x → ⊥
    leaf₃ x p l al u e = true≢false (sym (needs_yes b₃ x p al u) ∙ idle p l x (subst (λ y. Memᴰ x (t.children y)) (sym e) (r₃.ok'.listed x p l al u)))

    gone_live : Gone t s a b
    gone_live = record {
      ok' = record {
        closed = λ x p l al u. let n = not_s x al in let v = ap (λ (f : File PageData). f.map p) (sym (others x n)) ∙ u in
            ap (λ (f : File PageData). live f.state) (others (t.parent x) (leaf₃ x p l (was₃ x n al) v)) ∙ r₃.ok'.closed x p l (was₃ x n al) v;
        listed = λ x p l al u. let n = not_s x al in r₃.ok'.listed x p l (was₃ x n al) (ap (λ (f : File PageData). f.map p) (sym (others x n)) ∙ u);
        bare = gone_bare b₃ others r₃.ok';
      };
      empty = empty;
      alive = λ x n al. r₁.keep.alive x (r₃.alive x (was₃ x n al));
      presence = λ x n. ap (λ (f : File PageData). is_absent f.state) (others x n) ∙ r₃.presence x ∙ r₁.keep.presence x;
      page = λ x p l n al. cut_page t ok b₃ b r₃.ok' s others p l (idle p l) x n (was₃ x n al) ∙ r₃.page x p l (λ e. absurd (n e)) (was₃ x n al) ∙ r₁.keep.page x p l (r₃.alive x (was₃ x n al));
      size = λ x n al. cut_size t ok b₃ b r₃.ok' s others (λ c m v. no_virgin c m (r₃.no_new_virgin c v)) x n (was₃ x n al) ∙ r₃.size x (was₃ x n al) ∙ r₁.keep.size x (r₃.alive x (was₃ x n al));
    }

module _ (t : Tree) (proper : ProperTree t) (s : ℕ) (w : Work model) (k : FilesOk t w.files) where
  pub erased : live (w.files s).state ≡ false → Gone t s w.files (erase_file model t s w).files
  erased dead = gone_marked t proper.ok s w.files _ (erase_empty t s w) k dead (erase_others t s w)

  deleted_live : Gone t s w.files (delete_as model t true s w).files
  unfolding delete_as
  deleted_live =
      let ok = proper.ok in
      let i : Settled t w.files w.files = record { ok' = k; keep = keep_refl t w.files; live' = λ s. refl; no_new_virgin = λ s h. h } in
      let w₁ : Work model = each (settle model t) (t.children s) w in
      let w₂ : Work model = give_all model t handed s (from 0 64) w₁ in
      let r₁ : Settled t w.files w₁.files = settle_each t ok w (t.children s) i in
      let no_virgin : (c : ℕ) → Memᴰ c (t.children s) → (w₁.files c).state ≡ virgin → ⊥ = settle_no_virgin t ok w (t.children s) i in
      let g : AllHanded t ok s (proper.once s) (λ p. Unit {0}) (from 0 64) w₁ w₂ =
      all_handed t ok s (proper.once s) (λ p. Unit {0}) (from 0 64) (λ p m. (from_high 0 64 p m, tt)) w₁ r₁.ok' no_virgin in
      gone_live t ok s w.files (erase_file model t s w₂).files (erase_empty t s w₂) w₁.files w₂.files r₁ no_virgin g.served
      (λ p l. g.idle p (from_mem 0 64 p (omega arith) l)) (erase_others t s w₂)

  pub deleted : Gone t s w.files (delete_file model t s w).files
  unfolding delete_file delete_as
  deleted = go (live (w.files s).state) refl
    where
      go : (b : Bool) → live (w.files s).state ≡ b → Gone t s w.files (delete_as model t b s w).files
      go true e = deleted_live
      go false e = erased e
