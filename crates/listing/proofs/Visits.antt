-- Sets visited one after the other, and what they leave in the buffer. Assumes nothing.
use mathlib.Core.Path.{refl, subst, sym, ◌≡◌}
use Prim.Native.Nat.{◌-◌, ◌<◌, suc, zero, ℕ, ◌≤◌}
use native.Mathlib.Numerals.{sub-one}
use native.Mathlib.Omega.{arith}
use borrow.Author.Tests.{eq-eqb, le-leb, lt-leb, ne_eqb}
use Rattle.listing.proofs.Writing.{put_none, put_then}
use Rattle.listing.specs.Listing.{set_text}
use Rattle.listing.specs.Written.{Put, Visit, Visited, behind, stay, visit_chain, visit_set}
use Rattle.rules.specs.State.{Tables}
use Rattle.listing.specs.declared.text.Writer.{Writer}

module _ (tb : Tables) where
  pub none_left : (f left k : ℕ) → left ≡ 0 → visit_chain tb f left k ≡ stay left
  unfolding visit_set visit_chain
  none_left zero left k e = refl
  none_left (suc f) left k e = simp (eq-eqb _ _ e)

  pub no_set : (f left k : ℕ) → (left ≡ 0 → ⊥) → 8 ≤ k → visit_chain tb f left k ≡ stay left
  unfolding visit_set visit_chain
  no_set zero left k n e = refl
  no_set (suc f) left k n e = simp (ne_eqb _ _ n, le-leb _ _ e)

  pub set_step : (f left s : ℕ) → 1 ≤ f → visit_set tb f left s ≡ behind (set_text tb s) (visit_chain tb (f - 1) (left - 1) (tb.sets s).first_child)
  unfolding visit_set visit_chain
  set_step zero left s h = absurd (omega arith)
  set_step (suc f) left s h = simp sub-one

  pub chain_step : (f left k : ℕ) → 1 ≤ f → (left ≡ 0 → ⊥) → k < 8 →
      visit_chain tb f left k ≡ behind (visit_set tb (f - 1) left k).text (visit_chain tb (f - 1) (visit_set tb (f - 1) left k).left (tb.sets k).next_sibling)
  unfolding visit_set visit_chain
  chain_step zero left k h n l = absurd (omega arith)
  chain_step (suc f) left k h n l = simp (sub-one, ne_eqb _ _ n, lt-leb _ _ l)

  -- nothing is visited
  pub stayed : (w : Writer) (left : ℕ) (v : Visit) → v ≡ stay left → Visited w w left v
  stayed w left v e = subst (λ (x : Visit). Visited w w left x) (sym e) (record { put = put_none w; rest = refl })

  -- a set, and its children after it
  pub set_visited : {w u r : Writer} {m : ℕ} (f left s k : ℕ) → 1 ≤ f → k ≡ (tb.sets s).first_child →
      Put w u (set_text tb s) → Visited u r m (visit_chain tb (f - 1) (left - 1) k) → Visited w r m (visit_set tb f left s)
  set_visited {w} {u} {r} {m} f left s k h q A B =
      subst (λ (x : Visit). Visited w r m x) (sym (set_step f left s h))
      (subst (λ (x : ℕ). Visited w r m (behind (set_text tb s) (visit_chain tb (f - 1) (left - 1) x))) q
      (record { put = put_then A B.put; rest = B.rest }))

  -- a set with what is below it, and then the rest of its chain
  pub chain_visited : {w u r : Writer} {n m : ℕ} (f left k x : ℕ) → 1 ≤ f → (left ≡ 0 → ⊥) → k < 8 → x ≡ (tb.sets k).next_sibling →
      Visited w u n (visit_set tb (f - 1) left k) → Visited u r m (visit_chain tb (f - 1) n x) → Visited w r m (visit_chain tb f left k)
  chain_visited {w} {u} {r} {n} {m} f left k x h o l q A B =
      let v = visit_set tb (f - 1) left k in
      let C = subst (λ (y : ℕ). Visited u r m (visit_chain tb (f - 1) y x)) A.rest B in
      let D = subst (λ (y : ℕ). Visited u r m (visit_chain tb (f - 1) v.left y)) q C in
      subst (λ (y : Visit). Visited w r m y) (sym (chain_step f left k h o l))
      (record { put = put_then A.put D.put; rest = D.rest })
