-- One turn of step 4 (a page, a child), over the model, where an entry holds its bytes; and the loops. Assumes nothing.
use mathlib.Core.Bool.{◌&&◌, Bool, cond, false, true, true≢false}
use mathlib.Core.List.{◌++◌, List, Memᴰ, ◌∷◌, []}
use mathlib.Core.Option.{some}
use mathlib.Core.Path.{◌≡◌, ap, refl, subst, subst₂, sym, ◌∙◌}
use Prim.Native.Nat.{◌<◌, suc, zero, ℕ}
use native.Mathlib.Omega.{arith}
use lib.Dec.{eqb}
use borrow.Author.Tests.{ne_eqb}
use Rattle.base.specs.Logic.{and_false, and_left, and_right, same?, test?}
use Rattle.rules.proofs.Steps.OneStep.{Alive, FilesOk, Keep, TreeOk, fill_keep, fill_ok, keep_refl, keep_trans, mark_keep, mark_ok, put_entry_ent, put_entry_other, put_entry_page, put_entry_state, resolve_shown}
use Rattle.rules.proofs.Steps.Reached.{mark_same, marked_by, reaches_self}
use Rattle.rules.proofs.Steps.States.{unmapped_is}
use Rattle.rules.proofs.Storages.Model.{model}
use Rattle.rules.specs.Reading.{dependent, depends_on, needs, reaches, resolve, shown_entry}
use Rattle.rules.specs.Rules.{Work, copied, copy, each, extra, give, give_all, give_page, mark, mark_down, put_entry, supply}
use Rattle.rules.specs.State.{Entry, File, Files, Tree, hole, is_unmapped, live, stored, unmapped, virgin}
use Rattle.rules.specs.Storage.{PageData}

-- one list after another
pub each_append : {A W : Type 0} (f : A → W → W) (xs ys : List A) (w : W) → each f (xs ++ ys) w ≡ each f ys (each f xs w)
unfolding each
each_append f [] ys w = refl
each_append f (x ∷ xs) ys w = each_append f xs ys (f x w)

-- loops
module _ {A W : Type 0} (f : A → W → W) where
  pub each_inv : (I : W → Type 0) (xs : List A) → ((x : A) (w : W) → Memᴰ x xs → I w → I (f x w)) → (w : W) → I w → I (each f xs w)
  unfolding each
  each_inv I [] h w i = i
  each_inv I (x ∷ xs) h w i = each_inv I xs (λ y v m. h y v (Memᴰ.tail m)) (f x w) (h x w (Memᴰ.head refl) i)

  -- what is reached at an element stays
  pub each_all : (I : W → Type 0) (P : A → W → Type 0) (xs : List A) →
      ((x : A) (w : W) → Memᴰ x xs → I w → I (f x w)) →
      ((x : A) (w : W) → Memᴰ x xs → I w → P x (f x w)) →
      ((x y : A) (w : W) → Memᴰ y xs → I w → P x w → P x (f y w)) →
      (w : W) → I w → (x : A) → Memᴰ x xs → P x (each f xs w)
  unfolding each
  each_all I P [] h d k w i x m = elim m [ ]
  each_all I P (y ∷ xs) h d k w i x (Memᴰ.head e) =
      (each_inv (λ v. I v × P x v) xs (λ z v m j. (h z v (Memᴰ.tail m) j.0, k x z v (Memᴰ.tail m) j.0 j.1)) (f y w)
      (h y w (Memᴰ.head refl) i, subst (λ z. P z (f y w)) (sym e) (d y w (Memᴰ.head refl) i))).1
  each_all I P (y ∷ xs) h d k w i x (Memᴰ.tail m) =
      each_all I P xs (λ z v m. h z v (Memᴰ.tail m)) (λ z v m. d z v (Memᴰ.tail m)) (λ z y v m. k z y v (Memᴰ.tail m)) (f y w) (h y w (Memᴰ.head refl) i) x m

module _ {K : Type 0} where
  -- what one page and one child of s get, seen on the files
  pub record ChildServed (t : Tree) (s : ℕ) (files files' : Files K) : Type 0 where
    pub ok' : FilesOk t files'
    pub keep : Keep t files files'
    pub less : (c p : ℕ) → needs files c p ≡ false → needs files' c p ≡ false
    pub self : files' s ≡ files s
    pub no_new_virgin : (c : ℕ) → (files' c).state ≡ virgin → (files c).state ≡ virgin

  pub served_refl : {t : Tree} {s : ℕ} {files : Files K} → FilesOk t files → ChildServed t s files files
  served_refl {t} {s} {files} k = record { ok' = k; keep = keep_refl t files; less = λ c p h. h; self = refl; no_new_virgin = λ c h. h }

  pub served_trans : {t : Tree} {s : ℕ} {a b c : Files K} → ChildServed t s a b → ChildServed t s b c → ChildServed t s a c
  served_trans h k = record {
    ok' = k.ok';
    keep = keep_trans h.keep k.keep;
    less = λ c p x. k.less c p (h.less c p x);
    self = k.self ∙ h.self;
    no_new_virgin = λ c x. h.no_new_virgin c (k.no_new_virgin c x);
  }

  pub needs_shown : (files : Files K) (c p : ℕ) → shown_entry ((files c).map p) ≡ some ((files c).map p) → needs files c p ≡ false
  unfolding needs
  needs_shown files c p h = go (live (files c).state) ((files c).map p) h
    where
      go : (b : Bool) (e : Entry K) → shown_entry e ≡ some e → (b && is_unmapped e) ≡ false
      go false e h = refl
      go true unmapped h = cc
      go true hole h = refl
      go true (stored b) h = refl

  pub needs_same : (files files' : Files K) (c p : ℕ) → (files' c).state ≡ (files c).state → (files' c).map p ≡ (files c).map p → needs files c p ≡ false → needs files' c p ≡ false
  unfolding needs
  needs_same files files' c p h e n = rw (h, e) n

  needs_dead : (files : Files K) (c p : ℕ) → live (files c).state ≡ false → needs files c p ≡ false
  unfolding needs
  needs_dead files c p h = rw h

  pub needs_alive : (files : Files K) (c p : ℕ) → needs files c p ≡ true → Alive files c
  unfolding needs
  needs_alive files c p h = and_left (live (files c).state) _ h

  pub needs_unmapped : (files : Files K) (c p : ℕ) → needs files c p ≡ true → (files c).map p ≡ unmapped
  unfolding needs
  needs_unmapped files c p h = unmapped_is ((files c).map p) (and_right (live (files c).state) _ h)

  module _ (t : Tree) (ok : TreeOk t) (s : ℕ) (files : Files K) (k : FilesOk t files) (c : ℕ) (kid : Memᴰ c (t.children s)) where
    pub differ : c ≡ s → ⊥
    differ q =
        let e : t.level c ≡ t.level s = ap t.level q in
        omega (arith, ok.kid_lvl s c kid)

    kid_at : t.level c ≡ suc (t.level (t.parent c))
    kid_at = rw (ok.kid_par s c kid) (ok.kid_lvl s c kid)

    pub fill_done : (p : ℕ) (e : Entry K) → shown_entry e ≡ some e → needs (put_entry files c p e) c p ≡ false
    fill_done p e h = needs_shown (put_entry files c p e) c p (rw put_entry_ent h)

    -- the entry is filled with what it is in s
    pub fill_served : (p : ℕ) (e : Entry K) → ((files c).state ≡ virgin → ⊥) → needs files c p ≡ true → resolve t files s p ≡ e → ChildServed t s files (put_entry files c p e)
    fill_served p e nv n r = subst (λ x. ChildServed t s files (put_entry files c p x)) (ap (λ x. resolve t files x p) (ok.kid_par s c kid) ∙ r) (record {
      ok' = fill_ok t ok files c p kid_at u nv k;
      keep = fill_keep t ok files c p kid_at u;
      less = λ c' p' h.
          same? p p'
          (λ q. same? c c'
          (λ r. subst₂ (λ x y. needs (put_entry files c p (resolve t files (t.parent c) p)) x y ≡ false) r q (fill_done p _ (resolve_shown t files (t.parent c) p)))
          (λ r. needs_same files _ c' p' (put_entry_state files c p _ c') (ap (λ (x : File K). x.map p') (put_entry_other files c p _ c' r)) h))
          (λ q. needs_same files _ c' p' (put_entry_state files c p _ c') (put_entry_page files c p _ c' p' q) h);
      self = put_entry_other files c p _ s differ;
      no_new_virgin = λ c' h. rw put_entry_state at h;
    })
      where
        u : (files c).map p ≡ unmapped
        u = needs_unmapped files c p n

    -- it and those that read through it are marked
    pub low : (n x : ℕ) → t.level x ≡ n → n < t.level c → depends_on t files c n x ≡ false
    unfolding depends_on
    low zero x e l = ne_eqb c x (λ q. let e' : t.level c ≡ t.level x = ap t.level q in omega arith)
    low (suc n) x e l =
        rw (ne_eqb c x (λ q. let e' : t.level c ≡ t.level x = ap t.level q in omega arith), low n (t.parent x) (ok.lower x n e) (omega arith)) (and_false (dependent (files x)))

    missed : reaches t files c s ≡ false
    unfolding reaches
    missed = low (t.level s) s refl (omega (arith, ok.kid_lvl s c kid))

    dead : (x : ℕ) → reaches t files c x ≡ true → live (mark_down t files c x).state ≡ false
    dead x e = ap (λ (x : File K). live x.state) (marked_by t files c x true e)

    mark_served : Alive files c → ChildServed t s files (mark_down t files c)
    mark_served al = record {
      ok' = mark_ok t ok files k c;
      keep = mark_keep t ok files k c al;
      less = λ c' p' h. test? (reaches t files c c')
          (λ e. needs_dead (mark_down t files c) c' p' (dead c' e))
          (λ e. let m : mark_down t files c c' ≡ files c' = marked_by t files c c' false e in needs_same files (mark_down t files c) c' p' (ap (λ (x : File K). x.state) m) (ap (λ (x : File K). x.map p') m) h);
      self = marked_by t files c s false (missed);
      no_new_virgin = λ c' h. ap (λ (x : File K). x.state) (sym (mark_same t files c c' (ap live h))) ∙ h;
    }

    mark_done : (p : ℕ) → needs (mark_down t files c) c p ≡ false
    unfolding reaches
    mark_done p = needs_dead (mark_down t files c) c p (dead c (reaches_self t files c (t.level c)))

-- one turn of step 4 over the model
module _ (t : Tree) (ok : TreeOk t) (s : ℕ) where
  give_yes : (must : Bool) (p c : ℕ) (w : Work model) → needs w.files c p ≡ true → give model t must s p c w ≡ supply model t must (resolve t w.files s p) c p w
  unfolding give
  give_yes must p c w h = rw h

  give_no : (must : Bool) (p c : ℕ) (w : Work model) → needs w.files c p ≡ false → give model t must s p c w ≡ w
  unfolding give
  give_no must p c w h = rw h

  pub record Turn (must : Bool) (p c : ℕ) (w v : Work model) : Type 0 where
    pub served : ChildServed t s w.files v.files
    pub done : must ≡ true → needs v.files c p ≡ false
    pub pending : v.pending ≡ w.pending

  module _ (p c : ℕ) (w : Work model) (kid : Memᴰ c (t.children s)) (k : FilesOk t w.files) (nv : (w.files c).state ≡ virgin → ⊥) where
    supply_turn : (must : Bool) (e : Entry PageData) → needs w.files c p ≡ true → resolve t w.files s p ≡ e → Turn must p c w (supply model t must e c p w)
    unfolding supply copy mark
    supply_turn must unmapped n r = let z : ◌≡◌ {A = ℕ} 0 1 = cc (resolve_shown t w.files s p) in absurd (omega arith)
    supply_turn must hole n r = record {
      served = fill_served t ok s w.files k c kid p hole nv n r;
      done = λ _. fill_done t ok s w.files k c kid p hole refl;
      pending = refl;
    }
    supply_turn must (stored b) n r =
        test? {P = Turn must p c w (supply model t must (stored b) c p w)} (eqb w.memory 0)
        (λ z. rw (z, supply) (search (full must)))
        (λ z. rw (z, supply) (record { served = fill_served t ok s w.files k c kid p (stored b) nv n r; done = λ _. fill_done t ok s w.files k c kid p (stored b) refl; pending = refl }))
      where
        full : (must : Bool) → Turn must p c w (cond must (mark model t c w) w)
        full true = record { served = mark_served t ok s w.files k c kid (needs_alive w.files c p n); done = λ _. mark_done t ok s w.files k c kid p; pending = refl }
        full false = record { served = served_refl k; done = λ e. absurd (true≢false (sym e)); pending = refl }

    pub give_turn : (must : Bool) → Turn must p c w (give model t must s p c w)
    give_turn must =
        test? (needs w.files c p)
        (λ n. rw (give_yes must p c w n) (supply_turn must (resolve t w.files s p) n refl))
        (λ n. rw (give_no must p c w n) (record { served = served_refl k; done = λ _. n; pending = refl }))

  -- all of step 4
  pub record Going (w v : Work model) : Type 0 where
    pub served : ChildServed t s w.files v.files
    pub pending : v.pending ≡ w.pending

  module _ (w : Work model) (no_virgin : (c : ℕ) → Memᴰ c (t.children s) → (w.files c).state ≡ virgin → ⊥) where
    turn : (must : Bool) (p c : ℕ) (v : Work model) → Memᴰ c (t.children s) → Going w v → Turn must p c v (give model t must s p c v)
    turn must p c v m g = give_turn p c v m g.served.ok' (λ h. no_virgin c m (g.served.no_new_virgin c h)) must

    going : (must : Bool) (p c : ℕ) (v : Work model) → Memᴰ c (t.children s) → Going w v → Going w (give model t must s p c v)
    going must p c v m g = record { served = served_trans g.served (turn must p c v m g).served; pending = (turn must p c v m g).pending ∙ g.pending }

    -- some of the children, then all
    pub some_going : (must : Bool) (p : ℕ) (cs : List ℕ) → ((c : ℕ) → Memᴰ c cs → Memᴰ c (t.children s)) → (v : Work model) → Going w v → Going w (each (give model t must s p) cs v)
    some_going must p cs kids v g = each_inv (give model t must s p) (Going w) cs (λ c u m. going must p c u (kids c m)) v g

    pub some_done : (p : ℕ) (cs : List ℕ) → ((c : ℕ) → Memᴰ c cs → Memᴰ c (t.children s)) → (v : Work model) → Going w v → (c : ℕ) → Memᴰ c cs → needs (each (give model t true s p) cs v).files c p ≡ false
    some_done p cs kids v g =
        each_all (give model t true s p) (Going w) (λ c u. needs u.files c p ≡ false) cs
        (λ c u m. going true p c u (kids c m)) (λ c u m g. (turn true p c u (kids c m) g).done refl) (λ c c' u m g h. (turn true p c' u (kids c' m) g).served.less c p h) v g

    pub page_going : (must : Bool) (p : ℕ) (v : Work model) → Going w v → Going w (each (give model t must s p) (t.children s) v)
    page_going must p v g = some_going must p (t.children s) (λ c m. m) v g

    pub page_done : (p : ℕ) (v : Work model) → Going w v → (c : ℕ) → Memᴰ c (t.children s) → needs (each (give model t true s p) (t.children s) v).files c p ≡ false
    page_done p v g = some_done p (t.children s) (λ c m. m) v g

    page_less : (p q c : ℕ) (v : Work model) → Going w v → needs v.files c q ≡ false → needs (each (give model t true s p) (t.children s) v).files c q ≡ false
    page_less p q c v g h =
        (each_inv (give model t true s p) (λ u. Going w u × (needs u.files c q ≡ false)) (t.children s)
        (λ c' u m i. (going true p c' u m i.0, (turn true p c' u m i.0).served.less c q i.1)) v (g, h)).1

    pub give_all_going : (ps : List ℕ) → Going w w → Going w (give_all model t copied s ps w)
    unfolding give_all give_page
    give_all_going ps g = each_inv _ (Going w) ps (λ p v m. page_going true p v) w g

    -- the extra pages
    pub extra_going : (es : List ℕ) → Going w w → Going w (give_all model t extra s es w)
    unfolding give_all give_page
    extra_going es g = each_inv _ (Going w) es (λ p v m. page_going false p v) w g

    pub give_all_done : (ps : List ℕ) → Going w w → (p : ℕ) → Memᴰ p ps → (c : ℕ) → Memᴰ c (t.children s) → needs (give_all model t copied s ps w).files c p ≡ false
    unfolding give_all give_page
    give_all_done ps g =
        each_all _ (Going w) (λ p v. (c : ℕ) → Memᴰ c (t.children s) → needs v.files c p ≡ false) ps
        (λ p v m. page_going true p v) (λ p v m. page_done p v) (λ p q v m g h c k. page_less q p c v g (h c k)) w g
