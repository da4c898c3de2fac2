-- A page handed over, over the model: the first child that needs it takes the file's own entry, when the others have theirs. Assumes nothing.
use mathlib.Core.Bool.{◌&&◌, Bool, cond, false, true}
use mathlib.Core.List.Memᴰ
use mathlib.Core.List.{List, Memᴰ, ◌∷◌, []}
use mathlib.Core.Logic.{⊎_elim}
use mathlib.Core.Path.{◌≡◌, ap, refl, subst, sym, ◌∙◌}
use Prim.Native.Nat.{◌<◌, suc, zero, ℕ}
use native.Mathlib.Omega.{arith}
use lib.Dec.{eqb}
use borrow.Author.Tests.{ne_eqb}
use Rattle.base.specs.Logic.{and_false, same?, test?}
use Rattle.rules.proofs.Steps.OneStep.{Alive, FilesOk, TreeOk, cut_page, put_entry_ent, put_entry_other, put_entry_page, put_entry_size, put_entry_state, resolve_same, size_same}
use Rattle.rules.proofs.Steps.Reached.{marked_by}
use Rattle.rules.proofs.Steps.States.{stored_is}
use Rattle.rules.proofs.Steps.StepFour.{ChildServed, Going, each_inv, fill_done, fill_served, needs_same, needs_shown, page_done, page_going, served_refl, some_done, some_going}
use Rattle.rules.proofs.Steps.WriterSteps.{NoDup, mem?, resolve_here}
use Rattle.rules.proofs.Storages.Model.{model}
use Rattle.rules.specs.Reading.{dependent, depends_on, needs, reaches, resolve, size_by_reading}
use Rattle.rules.specs.Rules.{Work, copy, each, give, give_all, give_page, hand, hand_over, handed, mark, put_entry, supply}
use Rattle.rules.specs.State.{Entry, File, Files, Tree, hole, is_absent, is_stored, is_unmapped, live, stored, unmapped, virgin}
use Rattle.rules.specs.Storage.{PageData, Storage}

-- what the rules ask of the tree: its links in order, and no set twice among the children of another
pub record ProperTree (t : Tree) : Type 0 where
  pub ok : TreeOk t
  pub once : (s : ℕ) → NoDup (t.children s)

-- no set is a child of itself
pub not_itself : (t : Tree) → TreeOk t → (s c : ℕ) → Memᴰ c (t.children s) → s ≡ c → ⊥
not_itself t ok s c m e = let z : t.level s ≡ t.level c = ap t.level e in omega (arith, ok.kid_lvl s c m)

-- a set that is not below set d is not reached from it
pub not_reached : {K : Type 0} (t : Tree) → TreeOk t → (files : Files K) (d n x : ℕ) → t.level x ≡ n → n < t.level d → depends_on t files d n x ≡ false
unfolding depends_on
not_reached t ok files d zero x e l = ne_eqb d x (λ q. let e' : t.level d ≡ t.level x = ap t.level q in omega arith)
not_reached t ok files d (suc n) x e l =
    rw (ne_eqb d x (λ q. let e' : t.level d ≡ t.level x = ap t.level q in omega arith), not_reached t ok files d n (t.parent x) (ok.lower x n e) (omega arith)) (and_false (dependent (files x)))

-- A CHILD'S TURN leaves a file that is not reached from it
module _ (S : Storage) (t : Tree) (s d x : ℕ) (apart : d ≡ x → ⊥) (missed : (files : Files S.Block) → reaches t files d x ≡ false) where
  pub give_leaves : (must : Bool) (p : ℕ) (w : Work S) → (give S t must s p d w).files x ≡ w.files x
  unfolding give supply mark copy
  give_leaves must p w = test? (needs w.files d p) (λ n. rw n (go (resolve t w.files s p))) (λ n. rw n)
    where
      full : (must : Bool) → (cond must (mark S t d w) w).files x ≡ w.files x
      full true = marked_by t w.files d x false (missed w.files)
      full false = refl

      go : (e : Entry S.Block) → (supply S t must e d p w).files x ≡ w.files x
      go unmapped = refl
      go hole = put_entry_other w.files d p hole x apart
      go (stored b) = test? (eqb (S.free w.memory) 0) (λ z. rw z (search (full must))) (λ z. rw z (put_entry_other w.files d p _ x apart))

module _ (S : Storage) (t : Tree) (ok : TreeOk t) (s : ℕ) where
  -- a sibling, and the file of the set above
  give_sibling : (c d : ℕ) → Memᴰ c (t.children s) → Memᴰ d (t.children s) → (d ≡ c → ⊥) → (must : Bool) (p : ℕ) (w : Work S) → (give S t must s p d w).files c ≡ w.files c
  unfolding reaches depends_on
  give_sibling c d kc kd apart =
      give_leaves S t s d c apart
      (λ files. let m = ok.kid_lvl s d kd in
      rw (ok.kid_lvl s c kc, ok.kid_par s c kc, ne_eqb d c apart, not_reached t ok files d (t.level s) s refl (omega arith)) (and_false (dependent (files c))))

  pub give_parent : (d : ℕ) → Memᴰ d (t.children s) → (must : Bool) (p : ℕ) (w : Work S) → (give S t must s p d w).files s ≡ w.files s
  unfolding reaches
  give_parent d kd =
      give_leaves S t s d s (λ q. not_itself t ok s d kd (sym q))
      (λ files. not_reached t ok files d (t.level s) s refl (omega (arith, ok.kid_lvl s d kd)))

-- the turns of some of the children
module _ (S : Storage) (t : Tree) (ok : TreeOk t) (must : Bool) (s p : ℕ) (cs : List ℕ) (kids : (d : ℕ) → Memᴰ d cs → Memᴰ d (t.children s)) (w : Work S) where
  pub some_leave : (c : ℕ) → Memᴰ c (t.children s) → (Memᴰ c cs → ⊥) → (each (give S t must s p) cs w).files c ≡ w.files c
  some_leave c m out =
      each_inv (give S t must s p) (λ v. v.files c ≡ w.files c) cs (λ d v l i. give_sibling S t ok s c d m (kids d l) (λ q. out (subst (λ y. Memᴰ y cs) q l)) must p v ∙ i) w refl

  pub some_self : (each (give S t must s p) cs w).files s ≡ w.files s
  some_self = each_inv (give S t must s p) (λ v. v.files s ≡ w.files s) cs (λ d v l i. give_parent S t ok s d (kids d l) must p v ∙ i) w refl

module _ {K : Type 0} where
  -- WHAT THE OTHERS SEE where pages of H have left the map of set s: nothing
  pub record Served (t : Tree) (s : ℕ) (H : ℕ → Type 0) (files files' : Files K) : Type 0 where
    pub ok' : FilesOk t files'
    pub alive : (x : ℕ) → Alive files' x → Alive files x
    pub presence : (x : ℕ) → is_absent (files' x).state ≡ is_absent (files x).state
    pub page : (x p : ℕ) → p < 64 → (s ≡ x → H p → ⊥) → Alive files' x → resolve t files' x p ≡ resolve t files x p
    pub size : (x : ℕ) → Alive files' x → size_by_reading t files' x ≡ size_by_reading t files x
    pub less : (c p : ℕ) → needs files c p ≡ false → needs files' c p ≡ false
    pub state : (files' s).state ≡ (files s).state
    pub length : (files' s).size ≡ (files s).size
    pub kept : (p : ℕ) → (H p → ⊥) → (files' s).map p ≡ (files s).map p
    pub no_new_virgin : (c : ℕ) → (files' c).state ≡ virgin → (files c).state ≡ virgin

  pub served_any : {t : Tree} {s : ℕ} {H : ℕ → Type 0} {a b : Files K} → ChildServed t s a b → Served t s H a b
  served_any r = record {
    ok' = r.ok';
    alive = r.keep.alive;
    presence = r.keep.presence;
    page = λ x p l n h. r.keep.page x p l h;
    size = r.keep.size;
    less = r.less;
    state = ap (λ (x : File K). x.state) r.self;
    length = ap (λ (x : File K). x.size) r.self;
    kept = λ p n. ap (λ (x : File K). x.map p) r.self;
    no_new_virgin = r.no_new_virgin;
  }

  pub served_then : {t : Tree} {s : ℕ} {H : ℕ → Type 0} {a b c : Files K} → Served t s H a b → Served t s H b c → Served t s H a c
  served_then h k = record {
    ok' = k.ok';
    alive = λ x a. h.alive x (k.alive x a);
    presence = λ x. k.presence x ∙ h.presence x;
    page = λ x p l n a. k.page x p l n a ∙ h.page x p l n (k.alive x a);
    size = λ x a. k.size x a ∙ h.size x (k.alive x a);
    less = λ c p z. k.less c p (h.less c p z);
    state = k.state ∙ h.state;
    length = k.length ∙ h.length;
    kept = λ p n. k.kept p n ∙ h.kept p n;
    no_new_virgin = λ c v. h.no_new_virgin c (k.no_new_virgin c v);
  }

  -- a page of s that no child needs becomes a hole
  module _ (t : Tree) (ok : TreeOk t) (s p : ℕ) (low : p < 64) (H : ℕ → Type 0) (in-h : H p) (files : Files K) (k : FilesOk t files) (b : K) (has : (files s).map p ≡ stored b)
      (idle : (c : ℕ) → Memᴰ c (t.children s) → needs files c p ≡ false) where
    abbrev gone : Files K
    gone = put_entry files s p hole

    was : (x q : ℕ) → (gone x).map q ≡ unmapped → (files x).map q ≡ unmapped
    was x q u =
        same? p q
        (λ e. same? s x (λ d. absurd (not_here (subst (λ y. (gone y).map p ≡ unmapped) (sym d) (subst (λ y. (gone x).map y ≡ unmapped) (sym e) u)))) (λ d. ap (λ (f : File K). f.map q) (sym (put_entry_other files s p hole x d)) ∙ u))
        (λ e. sym (put_entry_page files s p hole x q e) ∙ u)
      where
        not_here : (gone s).map p ≡ unmapped → ⊥
        not_here h = let z : ◌≡◌ {A = ℕ} 0 1 = cc (put_entry_ent files s p hole) in omega arith

    holed_served : Served t s H files gone
    holed_served = record {
      ok' = record {
        closed = λ x q l a u. rw put_entry_state (k.closed x q l (rw put_entry_state at a) (was x q u));
        listed = λ x q l a u. k.listed x q l (rw put_entry_state at a) (was x q u);
        bare = λ x q l v.
            let v' : (files x).state ≡ virgin = sym (put_entry_state files s p hole x) ∙ v in
            same? s x
            (λ d. let u : (files s).map p ≡ unmapped = k.bare s p low (ap (λ y. (files y).state) d ∙ v') in let z : ◌≡◌ {A = ℕ} 0 1 = cc in absurd (omega arith))
            (λ d. ap (λ (f : File K). f.map q) (put_entry_other files s p hole x d) ∙ k.bare x q l v');
      };
      alive = λ x a. rw put_entry_state at a;
      presence = λ x. ap is_absent (put_entry_state files s p hole x);
      page = λ x q l n a.
          same? p q
          (λ e. subst (λ y. y < 64 → (s ≡ x → H y → ⊥) → resolve t gone x y ≡ resolve t files x y) e
          (λ l n. cut_page t ok files gone k s (put_entry_other files s p hole) p l idle x (λ d. n d in-h) (rw put_entry_state at a)) l n)
          (λ e. resolve_same t files gone q (λ y. put_entry_page files s p hole y q e) x);
      size = λ x a. size_same t files gone (put_entry_state files s p hole) (put_entry_size files s p hole) x;
      less = λ c q h.
          same? p q
          (λ e. same? s c (λ d. subst (λ y. needs gone y q ≡ false) d (subst (λ y. needs gone s y ≡ false) e (needs_shown gone s p (rw put_entry_ent refl))))
          (λ d. needs_same files gone c q (put_entry_state files s p hole c) (ap (λ (f : File K). f.map q) (put_entry_other files s p hole c d)) h))
          (λ e. needs_same files gone c q (put_entry_state files s p hole c) (put_entry_page files s p hole c q e) h);
      state = put_entry_state files s p hole s;
      length = put_entry_size files s p hole s;
      kept = λ q n. put_entry_page files s p hole s q (λ e. n (subst H e in-h));
      no_new_virgin = λ c v. sym (put_entry_state files s p hole c) ∙ v;
    }

-- A PAGE HANDED OVER, over the model
module _ (t : Tree) (ok : TreeOk t) (s : ℕ) (once : NoDup (t.children s)) (H : ℕ → Type 0) where
  pub record PageHanded (p : ℕ) (w v : Work model) : Type 0 where
    pub served : Served t s H w.files v.files
    pub idle : (c : ℕ) → Memᴰ c (t.children s) → needs v.files c p ≡ false
    pub pending : v.pending ≡ w.pending

  module _ (p : ℕ) (low : p < 64) (in-h : H p) where
    module _ (w : Work model) (k : FilesOk t w.files) (nv : (c : ℕ) → Memᴰ c (t.children s) → (w.files c).state ≡ virgin → ⊥) (b : PageData) (has : (w.files s).map p ≡ stored b) where
      start : Going t ok s w w
      start = record { served = served_refl k; pending = refl }

      -- the first child that needs it
      first_takes : (c : ℕ) (cs : List ℕ) → Memᴰ c (t.children s) → ((d : ℕ) → Memᴰ d cs → Memᴰ d (t.children s)) → (Memᴰ c cs → ⊥) → needs w.files c p ≡ true →
          ((d : ℕ) → Memᴰ d (t.children s) → (Memᴰ d (c ∷ cs) → ⊥) → needs w.files d p ≡ false) → PageHanded p w (hand_over model t s p c (each (give model t true s p) cs w))
      unfolding hand_over needs
      first_takes c cs m kids out n rest =
          let u : Work model = each (give model t true s p) cs w in
          let g : Going t ok s w u = some_going t ok s w nv true p cs kids w start in
          let e : u.files c ≡ w.files c = some_leave model t ok true s p cs kids w c m out in
          let here : (u.files s).map p ≡ stored b = ap (λ (x : File PageData). x.map p) g.served.self ∙ has in
          let n₁ : needs u.files c p ≡ true = ap (λ (x : File PageData). live x.state && is_unmapped (x.map p)) e ∙ n in
          let r₁ : ChildServed t s u.files (put_entry u.files c p (stored b)) =
          fill_served t ok s u.files g.served.ok' c m p (stored b) (λ v. nv c m (g.served.no_new_virgin c v)) n₁ (resolve_here t u.files s p (stored b) here refl) in
          let own₁ : (put_entry u.files c p (stored b) s).map p ≡ stored b = ap (λ (x : File PageData). x.map p) r₁.self ∙ here in
          let idle₁ : (d : ℕ) → Memᴰ d (t.children s) → needs (put_entry u.files c p (stored b)) d p ≡ false = λ d l.
          ⊎_elim
          (λ i. ⊎_elim (λ q. subst (λ y. needs (put_entry u.files c p (stored b)) y p ≡ false) (sym q) (fill_done t ok s u.files g.served.ok' c m p (stored b) refl))
          (λ i. r₁.less d p (some_done t ok s w nv p cs kids w start d i)) (Memᴰ.cases_cons i))
          (λ o. r₁.less d p (g.served.less d p (rest d l o))) (mem? d (c ∷ cs)) in
          let r₂ = holed_served t ok s p low H in-h (put_entry u.files c p (stored b)) r₁.ok' b own₁ idle₁ in
          rw here (record {
            served = served_then (served_any g.served) (served_then (served_any r₁) r₂);
            idle = λ d l. r₂.less d p (idle₁ d l);
            pending = g.pending;
          })

      hand_served : (cs : List ℕ) → ((d : ℕ) → Memᴰ d cs → Memᴰ d (t.children s)) → NoDup cs →
          ((d : ℕ) → Memᴰ d (t.children s) → (Memᴰ d cs → ⊥) → needs w.files d p ≡ false) → PageHanded p w (hand model t s p cs w)
      unfolding hand
      hand_served [] kids nd rest = record { served = served_any (served_refl k); idle = λ d l. rest d l (λ m. elim m [ ]); pending = refl }
      hand_served (c ∷ cs) kids nd rest =
          test? (needs w.files c p)
          (λ n. rw n (first_takes c cs (kids c (Memᴰ.head refl)) (λ d m. kids d (Memᴰ.tail m)) nd.0 n rest))
          (λ n. rw n (hand_served cs (λ d m. kids d (Memᴰ.tail m)) nd.1
          (λ d l o. same? d c (λ q. subst (λ y. needs w.files y p ≡ false) (sym q) n) (λ q. rest d l (λ m. ⊎_elim q o (Memᴰ.cases_cons m))))))

    page_handed : (w : Work model) → FilesOk t w.files → ((c : ℕ) → Memᴰ c (t.children s) → (w.files c).state ≡ virgin → ⊥) → PageHanded p w (give_page model t handed s p w)
    unfolding give_page
    page_handed w k nv =
        test? (is_stored ((w.files s).map p))
        (λ e. let h = stored_is ((w.files s).map p) e in rw e (hand_served w k nv h.0 h.1 (t.children s) (λ d m. m) once (λ d l o. absurd (o l))))
        (λ e. let i : Going t ok s w w = record { served = served_refl k; pending = refl } in
        let g = page_going t ok s w nv true p w i in
        rw e (record { served = served_any g.served; idle = page_done t ok s w nv p w i; pending = g.pending }))

  -- ALL OF THE PAGES
  pub record AllHanded (ds : List ℕ) (w v : Work model) : Type 0 where
    pub served : Served t s H w.files v.files
    pub idle : (p : ℕ) → Memᴰ p ds → (c : ℕ) → Memᴰ c (t.children s) → needs v.files c p ≡ false
    pub pending : v.pending ≡ w.pending

  pub all_handed : (ds : List ℕ) → ((p : ℕ) → Memᴰ p ds → (p < 64) × H p) → (w : Work model) → FilesOk t w.files → ((c : ℕ) → Memᴰ c (t.children s) → (w.files c).state ≡ virgin → ⊥) →
      AllHanded ds w (give_all model t handed s ds w)
  unfolding give_all each
  all_handed [] h w k nv = record { served = served_any (served_refl k); idle = λ p m. elim m [ ]; pending = refl }
  all_handed (p ∷ ds) h w k nv =
      let a = h p (Memᴰ.head refl) in
      let r = page_handed p a.0 a.1 w k nv in
      let q = all_handed ds (λ p m. h p (Memᴰ.tail m)) (give_page model t handed s p w) r.served.ok' (λ c m v. nv c m (r.served.no_new_virgin c v)) in
      record {
        served = served_then r.served q.served;
        idle = λ x m c l. ⊎_elim (λ e. q.served.less c x (subst (λ y. needs (give_page model t handed s p w).files c y ≡ false) (sym e) (r.idle c l))) (λ m. q.idle x m c l) (Memᴰ.cases_cons m);
        pending = q.pending ∙ r.pending;
      }
