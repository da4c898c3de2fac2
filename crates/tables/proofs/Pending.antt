-- The blocks pending for pages, in an array. Assumes nothing.
use mathlib.Core.List.{List}
use mathlib.Core.Path.{ap, fun_ext, subst, sym, ◌∙◌, ◌≡◌}
use Prim.Native.Nat.{◌<◌, ℕ, ◌≤◌}
use native.Mathlib.Omega.{arith}
use lib.Dec.{ltb}
use lib.ListN.{get_or, get_or-replicate, length, length-replicate, get_or-eq_default, replicate, set}
use lib.Seq.{get_or-set_other, get_or-set_same, set-get_or}
use borrow.Author.Tests.{le-ltb, ltb-false, ltb-true}
use Rattle.base.specs.Logic.{same?, test?}
use Rattle.base.specs.Update.{upd, upd_other, upd_same}
use Rattle.rules.specs.State.{Entry, unmapped}
use Rattle.tables.specs.Meaning.{pending_in, pending_meant}
use Rattle.tables.specs.Views.{none_pending, pending_of}
use Rattle.tables.specs.declared.entries.Pending.{Pending}

-- a number below 16,384 is a block, any other is none
pending_none : (n : ℕ) → 16384 ≤ n → pending_in n ≡ unmapped
pending_none n h = rw (le-ltb n 16384 h)

-- LAW: the block pending for a page, of any element that the code reads
pub pending_at : (l : List Pending) (p : ℕ) (d : Pending) → p < length l → pending_meant (get_or l p d) ≡ pending_of l p
unfolding pending_of
pending_at l p d h = ap pending_meant (sym (get_or-set_same l p (get_or l p d) (record { 0 = 65535 }) h) ∙ ap (λ (x : List Pending). get_or x p (record { 0 = 65535 })) (set-get_or l p d))

-- LAW: a block put is pending for that page
pub pending_set : (l : List Pending) (p : ℕ) (b : Pending) (e : Entry ℕ) → p < length l → pending_meant b ≡ e → pending_of (set l p b) ≡ upd (pending_of l) p e
unfolding pending_of
pending_set l p b e hp h = fun_ext (λ q. same? p q
    (λ d. subst (λ x. pending_meant (get_or (set l p b) x (record { 0 = 65535 })) ≡ upd (λ y. pending_meant (get_or l y (record { 0 = 65535 }))) p e x) d
    (ap pending_meant (get_or-set_same l p b (record { 0 = 65535 }) hp) ∙ h ∙ sym (upd_same _ p e)))
    (λ n. ap pending_meant (get_or-set_other l p q b (record { 0 = 65535 }) (λ d. n (sym d))) ∙ sym (upd_other _ p e q n)))

-- LAW: no block is pending in the array of none
pub none_pending_law : pending_of none_pending ≡ (λ p. unmapped)
unfolding pending_of none_pending pending_meant
none_pending_law = fun_ext (λ p. ap pending_meant (same p) ∙ pending_none 65535 (omega arith))
  where
    none : Pending
    none = record { 0 = 65535 }

    same : (p : ℕ) → get_or (replicate 64 none) p none ≡ none
    same p = test? (ltb p 64)
        (λ e. get_or-replicate 64 p none none (ltb-true p 64 e))
        (λ e. get_or-eq_default (replicate 64 none) none {n = p} (let l = ltb-false p 64 e in omega (arith, length-replicate {A = Pending} 64 none)))

pub none_length : length none_pending ≡ 64
unfolding none_pending
none_length = length-replicate {A = Pending} 64 (record { 0 = 65535 })
