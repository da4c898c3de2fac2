-- The steps of a write one after another are its rule. Assumes nothing.
use mathlib.Core.Bool.{not}
use mathlib.Core.List.{◌++◌, List, []}
use mathlib.Core.Path.{ap, refl, subst, sym, ◌∙◌, ◌≡◌}
use Prim.Native.Nat.{◌+◌, ◌-◌, ◌/◌, ◌<◌, max, suc, zero, ℕ, ◌≤◌}
use native.Mathlib.Omega.{arith}
use lib.ListN.{length}
use Rattle.base.specs.Count.{count}
use Rattle.changing.proofs.Whole.{Did, both_did, did_step, did_then, settle_both}
use Rattle.changing.specs.Tables.{OnTables}
use Rattle.changing.specs.Whole.{Changed, start_counts, totals_of}
use Rattle.copying.specs.Changes.{settled}
use Rattle.copying.specs.Work.{Alone, Ready, Rest, Step, counts_new, give_groups, settle_children, work}
use Rattle.entering.specs.Pending.{Reserves, StepAt}
use Rattle.rules.specs.Rules.{Work, change, each, enter, extra_pages, from, give_all, group_end, group_first, own_need, reserve, resize, touched, write_file}
use Rattle.rules.specs.State.{Entry, SetRecord, Tree, tree_of, unmapped}
use Rattle.rules.specs.Storage.{PageData, overlay, real}
use Rattle.tables.proofs.Pending.{none_pending_law}
use Rattle.tables.specs.Calls.{pages_of}
use Rattle.tables.specs.Packed.{unpack}
use Rattle.tables.specs.Views.{Turns, none_pending, pending_of}
use Rattle.changing.specs.declared.Totals.{Totals}
use Rattle.copying.specs.declared.giving.Counts.{Counts}
use Rattle.tables.specs.declared.entries.Pending.{Pending}

-- ---- the whole write

module _ {t p t₁ t₂ t₃ t₄ p₄ t₅ p₅ t₆ : List ℕ} {l₀ l : List Pending} {f : ℕ} {k k₁ k₂ : Counts} (s q n : ℕ) (es : List ℕ) (lay : ℕ → PageData → PageData) (end z y : ℕ) (el : l₀ ≡ none_pending) (ey : y ≡ max z end) (re : Ready t p f k)
    (a : Turns t t₁ (settled f s)) (b : Alone t₁ t₂ f (settle_children (unpack t₁).sets s)) (c : Reserves t₂ t₃ l₀ l f k k₁ (each (reserve real (tree_of (unpack t₂).sets) s) (from q n)))
    (d : Step t₃ p t₄ p₄ f k₁ k₂ (give_groups (unpack t₃).sets s (from q n) es))
    (e : StepAt (pending_of l) t₄ p₄ t₅ p₅ f k₂ (each (enter real (tree_of (unpack t₄).sets) s lay) (from q n))) (zz : z ≡ ((unpack t₅).files f s).size)
    (g : OnTables t₅ t₆ f (resize real (tree_of (unpack t₅).sets) s y)) where
  abbrev parts : (ℕ → SetRecord) → Work real → Work real
  parts S w = each (enter real (tree_of S) s lay) (from q n) (give_groups S s (from q n) es (each (reserve real (tree_of S) s) (from q n) (settle_both s S w)))

  five : Did t p (pending_of l₀) t₅ p₅ (pending_of l) f k k₂ (parts (unpack t).sets)
  five =
      did_then (λ S. each (enter real (tree_of S) s lay) (from q n))
      (did_then (λ S. give_groups S s (from q n) es)
      (did_then (λ S. each (reserve real (tree_of S) s) (from q n)) (both_did s re a b (pending_of l₀)) (record { same = c.same; does = c.does (pages_of p) })) (did_step (pending_of l) d))
      (record { same = e.same; does = e.does })

  is_change : (S : ℕ → SetRecord) (w : Work real) → resize real (tree_of S) s (max ((parts S w).files s).size end) (parts S w)
      ≡ change real (tree_of S) s (from q n) (from q n) [] es lay (λ m. max m end) w
  unfolding change each give_all from
  is_change S w = refl

  -- LAW
  pub written : Changed t p t₆ p₅ f k (totals_of k₂) (change real (tree_of (unpack t).sets) s (from q n) (from q n) [] es lay (λ m. max m end))
  written =
      let S = (unpack t).sets in
      let ss : (unpack t₅).sets ≡ S = ap (λ (r : Rest). r.sets) five.same in
      let o = g.does (pages_of p₅) k₂ in
      let w₅ = work (unpack t₅) (pages_of p₅) f (pending_of l) k₂ in
      record {
        pending = pending_of l;
        same = o.same ∙ five.same;
        packed = g.packed;
        does =
            o.does (pending_of l)
            ∙ ap (λ (x : ℕ → SetRecord). resize real (tree_of x) s y w₅) ss
            ∙ ap (λ m. resize real (tree_of S) s m w₅) (ey ∙ ap (λ x. max x end) zz)
            ∙ ap (λ (v : Work real). resize real (tree_of S) s (max (v.files s).size end) v) five.does
            ∙ is_change S (work (unpack t) (pages_of p) f (pending_of l₀) k)
            ∙ ap (λ (h : ℕ → Entry ℕ). change real (tree_of S) s (from q n) (from q n) [] es lay (λ m. max m end) (work (unpack t) (pages_of p) f h k)) (ap pending_of el ∙ none_pending_law);
      }

-- ---- the rule of write

-- LAW: the rule of write
pub is_write : (tree : Tree) (g s off first m : ℕ) (es bs : List ℕ) → touched off (length bs) ≡ from first m → extra_pages g off (length bs) ≡ es → (w : Work real)
    → change real tree s (from first m) (from first m) [] es (overlay off bs) (λ i. max i (off + length bs)) w ≡ write_file real tree g s off bs w
unfolding write_file
is_write tree g s off first m es bs e d w =
    (λ i. change real tree s (sym e i) (sym e i) [] (sym d i) (overlay off bs) (λ i. max i (off + length bs)) w)

-- LAW: the whole write by its rule
pub wrote : {t p t' p' : List ℕ} {f : ℕ} {r : Totals} (g s off first m : ℕ) (es bs : List ℕ) → touched off (length bs) ≡ from first m → extra_pages g off (length bs) ≡ es
    → Changed t p t' p' f start_counts r (change real (tree_of (unpack t).sets) s (from first m) (from first m) [] es (overlay off bs) (λ i. max i (off + length bs)))
    → Changed t p t' p' f start_counts r (write_file real (tree_of (unpack t).sets) g s off bs)
wrote {t} {p} {t'} {p'} {f} g s off first m es bs e d c = record {
  pending = c.pending;
  same = c.same;
  does = c.does ∙ is_write (tree_of (unpack t).sets) g s off first m es bs e d (work (unpack t) (pages_of p) f (λ q. unmapped) start_counts);
  packed = c.packed;
}

-- LAW: the extra pages, by the touched pages and the ends of their groups
pub extra_is : (g off n first m lo hi : ℕ) → 0 < n → first ≡ off / 512 → first + m ≡ (off + n - 1) / 512 + 1 → lo ≡ group_first g first → hi ≡ group_end g ((off + n - 1) / 512)
    → extra_pages g off n ≡ from lo (first - lo) ++ from (first + m) (hi - (first + m))
unfolding extra_pages
extra_is g off zero first m lo hi pos ef em el eh = absurd (omega arith)
extra_is g off (suc n) first m lo hi pos ef em el eh =
    let d : off + suc n - 1 ≡ off + n = omega arith in
    let em' : first + m ≡ suc ((off + n) / 512) = em ∙ ap (λ x. x / 512 + 1) d ∙ omega arith in
    let eh' : hi ≡ group_end g ((off + n) / 512) = eh ∙ ap (λ x. group_end g (x / 512)) d in
    rw (em', eh', el, ef)

-- the own need, by the pages and the free blocks counted
pub need_begin : (t : List ℕ) (f s off n first m left : ℕ) (k : Counts) → touched off n ≡ from first m → k ≡ counts_new left → left ≡ count (unpack t).blocks (λ b. not ((unpack t).bits b))
    → own_need real s (touched off n) ((unpack t).files f) ≤ count (unpack t).blocks (λ b. not ((unpack t).bits b)) → own_need real s (from first m) ((unpack t).files f) ≤ k.left
need_begin t f s off n first m left k e ek el h =
    subst (λ i. own_need real s (from first m) ((unpack t).files f) ≤ i) (sym (ap (λ (y : Counts). y.left) ek ∙ el))
    (subst (λ (ps : List ℕ). own_need real s ps ((unpack t).files f) ≤ count (unpack t).blocks (λ b. not ((unpack t).bits b))) e h)
