-- Texts written one after the other into a lent buffer. Assumes nothing.
use mathlib.Core.List.{◌++◌, List, ◌∷◌, []}
use mathlib.Core.Path.{ap, refl, subst, sym, ◌∙◌, ◌≡◌}
use Prim.Native.Nat.{◌+◌, suc, ℕ}
use native.Mathlib.Nat.{add-zero}
use native.Mathlib.Omega.{arith}
use lib.ListN.{length, length-append, set}
use lib.Seq.{drop-nil, length-sets, sets}
use Rattle.listing.specs.Text.{into_buffer}
use Rattle.listing.specs.Written.{Put, Wrote}
use Rattle.listing.specs.declared.text.Writer.{Writer}

-- a run of stores, then another where it ends
sets_append : (l : List ℕ) (i : ℕ) (a b : List ℕ) → sets l i (a ++ b) ≡ sets (sets l i a) (i + length a) b
sets_append l i [] b = rw add-zero
sets_append l i (x ∷ a) b =
    let e : suc i + length a ≡ i + suc (length a) = omega arith in
    sets_append (set l i x) (suc i) a b ∙ ap (λ (j : ℕ). sets (sets (set l i x) (suc i) a) j b) e

-- nothing is written
pub wrote_none : (d : List ℕ) (cur : ℕ) → Wrote d d cur cur []
wrote_none d cur = record { bytes = refl; past = sym (add-zero cur) }

-- a text, then another
pub wrote_then : {d m e : List ℕ} {cur at r : ℕ} {a b : List ℕ} → Wrote d m cur at a → Wrote m e at r b → Wrote d e cur r (a ++ b)
wrote_then {d} {m} {e} {cur} {at} {r} {a} {b} A B = record {
  bytes = B.bytes ∙ ap (λ (x : List ℕ). sets x at b) A.bytes ∙ ap (λ (j : ℕ). sets (sets d cur a) j b) A.past ∙ sym (sets_append d cur a b);
  past = rw length-append (omega (arith, A.past, B.past));
}

-- the same text in other words
pub wrote_as : {d e : List ℕ} {cur r : ℕ} {a b : List ℕ} → a ≡ b → Wrote d e cur r a → Wrote d e cur r b
wrote_as {d} {e} {cur} {r} q w = subst (λ (l : List ℕ). Wrote d e cur r l) q w

-- the same into the buffer that a writer holds
pub put_none : (w : Writer) → Put w w []
put_none w = record { wrote = wrote_none w.out.now w.at; same = refl }

pub put_then : {w u v : Writer} {a b : List ℕ} → Put w u a → Put u v b → Put w v (a ++ b)
put_then A B = record { wrote = wrote_then A.wrote B.wrote; same = B.same ∙ A.same }

pub put_as : {w v : Writer} {a b : List ℕ} → a ≡ b → Put w v a → Put w v b
put_as {w} {v} q p = subst (λ (l : List ℕ). Put w v l) q p

-- a writer that began at a buffer's front, and the buffer e that it leaves
pub put_wrote : {w v : Writer} {d e a : List ℕ} → w.out.now ≡ d → w.at ≡ 0 → Put w v a → e ≡ v.out.now → Wrote d e 0 v.at a
put_wrote {w} {v} {d} {e} {a} h z p q =
    subst (λ (x : List ℕ). Wrote d x 0 v.at a) (sym q)
    (subst (λ (x : List ℕ). Wrote x v.out.now 0 v.at a) h (subst (λ (i : ℕ). Wrote w.out.now v.out.now i v.at a) z p.wrote))

-- the buffer keeps its length
pub wrote_length : {d e : List ℕ} {cur r : ℕ} {a : List ℕ} → Wrote d e cur r a → length e ≡ length d
wrote_length {d} {e} {cur} {r} {a} w = ap length w.bytes ∙ length-sets d cur a

-- a text that is stored from the front on
sets_tail : (x : ℕ) (d : List ℕ) (i : ℕ) (l : List ℕ) → sets (x ∷ d) (suc i) l ≡ x ∷ sets d i l
sets_tail x d i [] = refl
sets_tail x d i (a ∷ l) = sets_tail x (set d i a) (suc i) l

sets_nil : (i : ℕ) (l : List ℕ) → ◌≡◌ {A = List ℕ} (sets [] i l) []
sets_nil i [] = refl
sets_nil i (a ∷ l) = sets_nil (suc i) l

sets_front : (d l : List ℕ) → sets d 0 l ≡ into_buffer l d
unfolding into_buffer
sets_front [] l = sets_nil 0 l ∙ sym (drop-nil (length l))
sets_front (x ∷ d) [] = refl
sets_front (x ∷ d) (a ∷ l) = sets_tail a d 0 l ∙ ap (λ (y : List ℕ). a ∷ y) (sets_front d l)

-- LAW: what was written from the front on, and how long it is
pub wrote_front : {d e : List ℕ} {r : ℕ} {a : List ℕ} → Wrote d e 0 r a → e ≡ into_buffer a d
wrote_front {d} {e} {r} {a} w = w.bytes ∙ sets_front d a

pub wrote_size : {d e : List ℕ} {r : ℕ} {a : List ℕ} → Wrote d e 0 r a → r ≡ length a
wrote_size {d} {e} {r} {a} w = omega (arith, w.past)
