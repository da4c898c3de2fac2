-- The entries that are kept for pages, in an array. Assumes nothing.
use mathlib.Core.List.{List}
use mathlib.Core.Path.{ap, fun_ext, subst, sym, ◌∙◌, ◌≡◌}
use Prim.Native.Nat.{◌<◌, ℕ}
use native.Mathlib.Omega.{arith}
use lib.ListN.{get_or, get_or-replicate, length, set}
use lib.Seq.{get_or-set_other, get_or-set_same, set-get_or}
use Rattle.base.specs.Logic.{same?}
use Rattle.base.specs.Update.{upd, upd_other, upd_same}
use Rattle.rules.specs.State.{Entry, hole}
use Rattle.tables.proofs.Codes.{word_hole}
use Rattle.tables.specs.Meaning.{kept_meant}
use Rattle.tables.specs.Views.{all_holes, entries_of}
use Rattle.tables.specs.declared.entries.Kept.{Kept}

-- LAW: an entry put is that of its page
pub entries_set : (l : List Kept) (p : ℕ) (k : Kept) (e : Entry ℕ) → p < length l → kept_meant k ≡ e → entries_of (set l p k) ≡ upd (entries_of l) p e
unfolding entries_of
entries_set l p k e hp h = fun_ext (λ q. same? p q
    (λ d. subst (λ x. kept_meant (get_or (set l p k) x (record { 0 = 0 })) ≡ upd (λ y. kept_meant (get_or l y (record { 0 = 0 }))) p e x) d
    (ap kept_meant (get_or-set_same l p k (record { 0 = 0 }) hp) ∙ h ∙ sym (upd_same _ p e)))
    (λ n. ap kept_meant (get_or-set_other l p q k (record { 0 = 0 }) (λ d. n (sym d))) ∙ sym (upd_other _ p e q n)))

-- LAW: the entry of a page, of any element that the code reads
pub entries_at : (l : List Kept) (p : ℕ) (d : Kept) → p < length l → kept_meant (get_or l p d) ≡ entries_of l p
unfolding entries_of
entries_at l p d h = ap kept_meant (sym (get_or-set_same l p (get_or l p d) (record { 0 = 0 }) h) ∙ ap (λ (x : List Kept). get_or x p (record { 0 = 0 })) (set-get_or l p d))

-- LAW: every entry of the array of holes is one
pub all_holes_law : (p : ℕ) → p < 64 → entries_of all_holes p ≡ hole
unfolding entries_of all_holes kept_meant
all_holes_law p h = ap kept_meant (get_or-replicate 64 p (record { 0 = 16384 }) (record { 0 = 0 }) h) ∙ word_hole 16384 (omega arith) (omega arith)
