-- Where entries name blocks: at pages below 64 only, and outside the set worked on in present files only, which stand in used sets.
-- Each step of the rules keeps that. Assumes nothing.
use mathlib.Core.Bool.{false, true}
use mathlib.Core.Logic.{inl, inr, ◌⊎◌, ⊎_elim}
use mathlib.Core.Path.{◌≡◌, ap, refl, subst, sym, ◌∙◌}
use Prim.Native.Nat.{◌<◌, suc, zero, ℕ}
use native.Mathlib.Omega.{arith}
use Rattle.base.specs.Logic.{pick, same?}
use Rattle.base.specs.Update.{upd_keeps}
use Rattle.rules.proofs.Steps.OneStep.{put_entry_other, put_entry_page, put_entry_state}
use Rattle.rules.specs.Reading.{resolve, shown_entry, walk}
use Rattle.rules.specs.Rules.{put_entry, settle_as, settle_file}
use Rattle.rules.specs.State.{Entry, File, Files, State, Tree, absent, hole, is_absent, marked, own, stored, unmapped, virgin}

module _ {K : Type 0} where
  -- the files of one number, in a call on the file of set s
  pub record Tidy (t : Tree) (s : ℕ) (files : Files K) : Type 0 where
    pub low : (x p : ℕ) (b : K) → (files x).map p ≡ stored b → p < 64
    pub present : (x p : ℕ) (b : K) → (s ≡ x → ⊥) → (files x).map p ≡ stored b → is_absent (files x).state ≡ false
    pub lives : (x : ℕ) → (s ≡ x → ⊥) → is_absent (files x).state ≡ false → t.used x ≡ true
    pub set_low : (x : ℕ) → (s ≡ x → ⊥) → is_absent (files x).state ≡ false → x < 8

  module _ (t : Tree) (s : ℕ) (files : Files K) (k : Tidy t s files) where
    -- nothing new is stored, and no other file comes or goes
    pub tidy_fewer : (files' : Files K) → ((x p : ℕ) (b : K) → (files' x).map p ≡ stored b → (files x).map p ≡ stored b) →
        ((x : ℕ) → (s ≡ x → ⊥) → is_absent (files' x).state ≡ is_absent (files x).state) → Tidy t s files'
    tidy_fewer files' less presence = record {
      low = λ x p b e. k.low x p b (less x p b e);
      present = λ x p b n e. presence x n ∙ k.present x p b n (less x p b e);
      lives = λ x n h. k.lives x n (sym (presence x n) ∙ h);
      set_low = λ x n h. k.set_low x n (sym (presence x n) ∙ h);
    }

    -- one entry is stored
    pub tidy_put : (c p : ℕ) (b : K) → p < 64 → ((s ≡ c → ⊥) → is_absent (files c).state ≡ false) → Tidy t s (put_entry files c p (stored b))
    tidy_put c p b l h = record {
      low = λ x q b' e. ⊎_elim (λ e. k.low x q b' e) (λ d. subst (λ y. y < 64) (sym d.1) l) (put_named x q b' e);
      present = λ x q b' n e. put_entry_presence x ∙
          ⊎_elim (λ e. k.present x q b' n e) (λ d. ap (λ y. is_absent (files y).state) d.0 ∙ h (λ z. n (z ∙ sym d.0))) (put_named x q b' e);
      lives = λ x n e. k.lives x n (sym (put_entry_presence x) ∙ e);
      set_low = λ x n e. k.set_low x n (sym (put_entry_presence x) ∙ e);
    }
      where
        put_entry_presence : (x : ℕ) → is_absent (put_entry files c p (stored b) x).state ≡ is_absent (files x).state
        put_entry_presence x = ap is_absent (put_entry_state files c p (stored b) x)

        put_named : (x q : ℕ) (b' : K) → (put_entry files c p (stored b) x).map q ≡ stored b' → ((files x).map q ≡ stored b') ⊎ ((x ≡ c) × (q ≡ p))
        put_named x q b' a =
            same? p q
            (λ e. same? c x (λ d. inr (sym d, sym e)) (λ d. inl (ap (λ (f : File K). f.map q) (sym (put_entry_other files c p (stored b) x d)) ∙ a)))
            (λ e. inl (sym (put_entry_page files c p (stored b) x q e) ∙ a))

  -- what the steps do to the states
  pub settle_presence : (t : Tree) (c : ℕ) (files : Files K) (x : ℕ) → is_absent (settle_file t c files x).state ≡ is_absent (files x).state
  unfolding settle_file settle_as
  settle_presence t c files x = go (files c).state refl
    where
      go : (l : State) → (files c).state ≡ l → is_absent (settle_as l t files c x).state ≡ is_absent (files x).state
      go absent e = refl
      go own e = refl
      go marked e = refl
      go virgin e = upd_keeps (λ (y : File K). is_absent y.state) files c _ (sym (ap is_absent e)) x

  -- a page that resolves to stored is stored in some set's map
  walk_named : (parent : ℕ → ℕ) (files : Files K) (p : ℕ) (b : K) (n s : ℕ) → walk parent (λ (x : File K). shown_entry (x.map p)) hole n files s ≡ stored b → (x : ℕ) × ((files x).map p ≡ stored b)
  unfolding walk
  walk_named parent files p b zero s h = go ((files s).map p) refl h
    where
      go : (e : Entry K) → (files s).map p ≡ e → pick (shown_entry e) hole ≡ stored b → (x : ℕ) × ((files x).map p ≡ stored b)
      go unmapped e h = absurd (let z : ◌≡◌ {A = ℕ} 0 1 = cc in omega arith)
      go hole e h = absurd (let z : ◌≡◌ {A = ℕ} 0 1 = cc in omega arith)
      go (stored k) e h = (s, e ∙ h)
  walk_named parent files p b (suc n) s h = go ((files s).map p) refl (walk_named parent files p b n (parent s)) h
    where
      above : Entry K
      above = walk parent (λ (x : File K). shown_entry (x.map p)) hole n files (parent s)

      go : (e : Entry K) → (files s).map p ≡ e → (above ≡ stored b → (x : ℕ) × ((files x).map p ≡ stored b)) → pick (shown_entry e) above ≡ stored b → (x : ℕ) × ((files x).map p ≡ stored b)
      go unmapped e up h = up h
      go hole e up h = absurd (let z : ◌≡◌ {A = ℕ} 0 1 = cc in omega arith)
      go (stored k) e up h = (s, e ∙ h)

  pub resolve_named : (t : Tree) (files : Files K) (s p : ℕ) (b : K) → resolve t files s p ≡ stored b → (x : ℕ) × ((files x).map p ≡ stored b)
  unfolding resolve
  resolve_named t files s p b h = walk_named t.parent files p b (t.level s) s h
