-- Many pages resolved at once: one entry more is kept, those that a map leaves unmapped, the way up, and the maps looked at. Assumes nothing.
use mathlib.Core.Bool.{◌&&◌, Bool, cond, false, not, true, true≢false}
use mathlib.Core.List.{List}
use mathlib.Core.Path.{ap, ap₂, fun_ext, refl, subst, sym, ◌∙◌, ◌≡◌}
use Prim.Native.Nat.{◌*◌, ◌+◌, ◌-◌, ◌<◌, ◌^◌, suc, zero, ℕ, ◌≤◌}
use native.Mathlib.Omega.{arith}
use lib.Bits.{bit_and}
use lib.Count.{count_trailing_zeros}
use lib.ListN.{length}
use Rattle.base.specs.Count.{count, sum}
use Rattle.base.specs.Logic.{and_true, same?, test?}
use Rattle.base.specs.Update.{upd, upd_other, upd_same}
use Rattle.masks.proofs.MaskPages.{and_pages, lowest_gone, lowest_others, lowest_page, no_pages, not_pages}
use Rattle.masks.proofs.PageMasks.{mask_page}
use Rattle.masks.specs.Pages.{IsRange, page_mask, pages}
use Rattle.rules.proofs.Blocks.Sums.{count_sum, sum_most, sum_same}
use Rattle.rules.proofs.Steps.States.{unmapped_is}
use Rattle.rules.proofs.Tally.TallyLoops.{PagesOf, sum_pages}
use Rattle.rules.specs.Rules.{from, sum_in}
use Rattle.rules.specs.State.{Entry, Tables, hole, is_unmapped, unmapped}
use Rattle.tables.proofs.KeptEntries.{all_holes_law}
use Rattle.tables.specs.Views.{all_holes, entries_of}
use Rattle.tables.specs.declared.entries.Kept.{Kept}
use Rattle.maps.proofs.Steps.{looks_above, looks_here, looks_level, looks_low, looks_most, resolve_above, resolve_here, resolve_level, resolve_low}
use Rattle.maps.specs.ManyPages.{AllMapped, EntriesKept, PagesResolved, RangeResolved, UnmappedIn}
use Rattle.maps.specs.Upward.{looks_from, resolve_from}
use Rattle.maps.specs.declared.resolving.ResolvedPages.{ResolvedPages}

-- ---- the entries of a mask's pages, one by one

-- the pages left of m are to be kept yet
pub record KeptSoFar (m : ℕ) (map : ℕ → Entry ℕ) (l₀ l : List Kept) (left : ℕ) : Type 0 where
  pub len : length l ≡ 64
  pub entries : (p : ℕ) → p < 64 → cond (pages left p) (map p) (entries_of l p) ≡ cond (pages m p) (map p) (entries_of l₀ p)

pub kept_start : (m : ℕ) (map : ℕ → Entry ℕ) (l : List Kept) → length l ≡ 64 → KeptSoFar m map l l m
kept_start m map l h = record { len = h; entries = λ p q. refl }

module _ (m : ℕ) (map : ℕ → Entry ℕ) (l₀ l : List Kept) (left : ℕ) (inv : KeptSoFar m map l₀ l left) where
  -- LAW: one page more, that of the lowest bit
  pub kept_more : (l' : List Kept) (k q : ℕ) → 0 < left → left < 2 ^ 64 → k ≡ count_trailing_zeros 64 left → q ≡ 63 - k → entries_of l' ≡ upd (entries_of l) q (map q) → length l' ≡ 64
      → KeptSoFar m map l₀ l' (bit_and left (left - 1))
  kept_more l' k q h lt z eq e len = record { len = len; entries = go }
    where
      go : (p : ℕ) → p < 64 → cond (pages (bit_and left (left - 1)) p) (map p) (entries_of l' p) ≡ cond (pages m p) (map p) (entries_of l₀ p)
      go p hp = same? q p
          (λ s. let c : 63 - k ≡ p = sym eq ∙ s in
          let on : pages left p ≡ true = ap (pages left) (sym c) ∙ lowest_page left k h lt z in
          let off : pages (bit_and left (left - 1)) p ≡ false = ap (pages (bit_and left (left - 1))) (sym c) ∙ lowest_gone left k h lt z in
          let v : entries_of l' p ≡ map p = ap (λ g. g p) e ∙ ap (λ y. upd (entries_of l) y (map y) p) s ∙ upd_same (entries_of l) p (map p) in
          ap (λ b. cond b (map p) (entries_of l' p)) off ∙ v ∙ sym (ap (λ b. cond b (map p) (entries_of l p)) on) ∙ inv.entries p hp)
          (λ s. let o : pages (bit_and left (left - 1)) p ≡ pages left p = lowest_others left k h lt z p hp (λ c. s (eq ∙ c)) in
          let v : entries_of l' p ≡ entries_of l p = ap (λ g. g p) e ∙ upd_other (entries_of l) q (map q) p s in
          ap₂ (λ b y. cond b (map p) y) o v ∙ inv.entries p hp)

  -- LAW: none is left
  pub kept_all : left ≡ 0 → EntriesKept m map l₀ l
  kept_all e = record { len = inv.len; entries = λ p h. sym (ap (λ b. cond b (map p) (entries_of l p)) (no_pages left p e)) ∙ inv.entries p h }

-- ---- those that the map leaves unmapped

-- LAW: every page is unmapped
pub unmapped_all : (m : ℕ) (map : ℕ → Entry ℕ) → m < 2 ^ 64 → ((p : ℕ) → map p ≡ unmapped) → UnmappedIn m map m
unmapped_all m map h u = record { below = h; rest_is = λ p q. sym (ap (λ e. pages m p && is_unmapped e) (u p) ∙ and_true (pages m p)) }

-- LAW: by the mask of the unmapped pages
pub unmapped_some : (m u : ℕ) (map : ℕ → Entry ℕ) → u ≡ page_mask is_unmapped map → bit_and m u < 2 ^ 64 → UnmappedIn m map (bit_and m u)
unmapped_some m u map e h = record { below = h; rest_is = λ p q. and_pages m u p ∙ ap (λ b. pages m p && b) (ap (λ x. pages x p) e ∙ mask_page is_unmapped map p q) }

-- LAW: no page is mapped in what is no set
pub kept_none : (m : ℕ) (map : ℕ → Entry ℕ) (l : List Kept) → length l ≡ 64 → ((p : ℕ) → map p ≡ unmapped) → AllMapped m map → EntriesKept m map l l
kept_none m map l h u a = record {
  len = h;
  entries = λ p q. test? (pages m p)
      (λ e. absurd (true≢false (ap is_unmapped (sym (u p)) ∙ a p q e)))
      (λ e. sym (ap (λ b. cond b (map p) (entries_of l p)) e));
}

-- ---- the maps looked at, page by page

sum_count : (n : ℕ) (f : ℕ → Bool) (g h : ℕ → ℕ) → ((p : ℕ) → p < n → cond (f p) 1 0 + g p ≡ h p) → count n f + sum n g ≡ sum n h
unfolding count sum
sum_count zero f g h e = refl
sum_count (suc n) f g h e = let a = e n (omega arith) in let b = sum_count n f g h (λ p l. e p (omega arith)) in omega arith

-- ---- the way up

module _ (m : ℕ) (map : ℕ → Entry ℕ) (rest mapped : ℕ) (u : UnmappedIn m map rest) (em : mapped ≡ bit_and m ((2 ^ 64 - 1) - rest)) where
  mapped_is : (p : ℕ) → p < 64 → pages mapped p ≡ (pages m p && not (pages rest p))
  mapped_is p q = ap (λ x. pages x p) em ∙ and_pages m ((2 ^ 64 - 1) - rest) p ∙ ap (λ b. pages m p && b) (not_pages rest p u.below q)

  mapped_here : (p : ℕ) (a b : Bool) → p < 64 → pages m p ≡ a → is_unmapped (map p) ≡ b → pages mapped p ≡ (a && not (a && b))
  mapped_here p a b q on d = mapped_is p q ∙ ap₂ (λ x y. x && not y) on (u.rest_is p q ∙ ap₂ ◌&&◌ on d)

  -- LAW: what is not left is mapped
  pub all_mapped : AllMapped mapped map
  all_mapped p q on = test? (is_unmapped (map p))
      (λ d. test? (pages m p)
      (λ e. absurd (true≢false (sym on ∙ mapped_here p true true q e d)))
      (λ e. absurd (true≢false (sym on ∙ mapped_here p false true q e d))))
      (λ d. d)

module _ (tb : Tables) (f s level m rest mapped : ℕ) (l₀ l : List Kept) (u : UnmappedIn m (tb.files f s).map rest) (em : mapped ≡ bit_and m ((2 ^ 64 - 1) - rest))
    (k : EntriesKept mapped (tb.files f s).map l₀ l) where
  abbrev map : ℕ → Entry ℕ
  map = (tb.files f s).map

  -- what is found, where what was kept is right for the pages that are not mapped here
  found_all : ((p : ℕ) → p < 64 → pages m p ≡ false → entries_of l₀ p ≡ hole) → ((p : ℕ) → p < 64 → pages m p ≡ true → is_unmapped (map p) ≡ true → entries_of l₀ p ≡ resolve_from tb f p s level)
      → (p : ℕ) → p < 64 → entries_of l p ≡ cond (pages m p) (resolve_from tb f p s level) hole
  found_all out up p q = test? (pages m p)
      (λ on. test? (is_unmapped (map p))
      (λ d. here true true on d ∙ up p q on d ∙ sym (ap (λ b. cond b (resolve_from tb f p s level) hole) on))
      (λ d. here true false on d ∙ resolve_here tb f p s level (map p) refl d ∙ sym (ap (λ b. cond b (resolve_from tb f p s level) hole) on)))
      (λ off. here false (is_unmapped (map p)) off refl ∙ out p q off ∙ sym (ap (λ b. cond b (resolve_from tb f p s level) hole) off))
    where
      here : (a b : Bool) → pages m p ≡ a → is_unmapped (map p) ≡ b → entries_of l p ≡ cond (a && not (a && b)) (map p) (entries_of l₀ p)
      here a b on d = k.entries p q ∙ ap (λ x. cond x (map p) (entries_of l₀ p)) (mapped_here m map rest mapped u em p a b q on d)

  module _ (looks : ℕ) (n : looks ≡ count 64 (pages m)) where
    -- one look for each page
    looked_here : ((p : ℕ) → p < 64 → pages m p ≡ true → looks_from tb f p s level ≡ 1) → looks ≡ sum 64 (λ p. cond (pages m p) (looks_from tb f p s level) 0)
    looked_here one = n ∙ count_sum 64 (pages m) ∙ sum_same 64 _ _ (λ p q. test? (pages m p)
        (λ on. ap (λ b. cond b 1 0) on ∙ sym (ap (λ b. cond b (looks_from tb f p s level) 0) on ∙ one p q on))
        (λ off. ap (λ b. cond b 1 0) off ∙ sym (ap (λ b. cond b (looks_from tb f p s level) 0) off)))

    module _ (holes : l₀ ≡ all_holes) where
      hole_at : (p : ℕ) → p < 64 → entries_of l₀ p ≡ hole
      hole_at p q = ap (λ x. entries_of x p) holes ∙ all_holes_law p q

      -- LAW: no page is unmapped here
      pub resolved_here : rest ≡ 0 → PagesResolved tb f s level m (record { kept = l; looks = looks })
      resolved_here e = record {
        len = k.len;
        found = found_all (λ p q off. hole_at p q) (λ p q on d. absurd (none p q on d));
        looked = looked_here (λ p q on. test? (is_unmapped (map p)) (λ d. absurd (none p q on d)) (λ d. looks_here tb f p s level d));
      }
        where
          none : (p : ℕ) → p < 64 → pages m p ≡ true → is_unmapped (map p) ≡ true → ⊥
          none p q on d = true≢false (sym (u.rest_is p q ∙ ap₂ ◌&&◌ on d) ∙ no_pages rest p e)

      -- LAW: there is no parent to go to
      pub resolved_low : level ≡ 0 → PagesResolved tb f s level m (record { kept = l; looks = looks })
      resolved_low e = record {
        len = k.len;
        found = found_all (λ p q off. hole_at p q) (λ p q on d. hole_at p q ∙ sym (resolve_low tb f p s level e (unmapped_is (map p) d)));
        looked = looked_here (λ p q on. looks_low tb f p s level e);
      }

    -- LAW: the rest is resolved from the parent
    pub resolved_above : (above : ℕ) (up : ResolvedPages) → (level ≡ 0 → ⊥) → above ≡ (tb.sets s).parent → l₀ ≡ up.kept → PagesResolved tb f above (level - 1) rest up
        → PagesResolved tb f s level m (record { kept = l; looks = looks + up.looks })
    resolved_above above up pos e el r = record {
      len = k.len;
      found = found_all
          (λ p q off. above_is p q ∙ ap (λ b. cond b (resolve_from tb f p above (level - 1)) hole) (u.rest_is p q ∙ ap (λ a. a && is_unmapped (map p)) off))
          (λ p q on d. above_is p q ∙ ap (λ b. cond b (resolve_from tb f p above (level - 1)) hole) (u.rest_is p q ∙ ap₂ ◌&&◌ on d)
          ∙ ap (λ x. resolve_from tb f p x (level - 1)) e ∙ sym (resolve_above tb f p s level pos (unmapped_is (map p) d)));
      looked = ap₂ ◌+◌ n r.looked ∙ sum_count 64 (pages m) _ _ (λ p q. more p q);
    }
      where
        above_is : (p : ℕ) → p < 64 → entries_of l₀ p ≡ cond (pages rest p) (resolve_from tb f p above (level - 1)) hole
        above_is p q = ap (λ x. entries_of x p) el ∙ r.found p q

        more : (p : ℕ) → p < 64 → cond (pages m p) 1 0 + cond (pages rest p) (looks_from tb f p above (level - 1)) 0 ≡ cond (pages m p) (looks_from tb f p s level) 0
        more p q = test? (pages m p)
            (λ on. test? (is_unmapped (map p))
            (λ d. ap₂ (λ a b. cond a 1 0 + cond b (looks_from tb f p above (level - 1)) 0) on (u.rest_is p q ∙ ap₂ ◌&&◌ on d)
            ∙ (let a = looks_above tb f p s level pos (unmapped_is (map p) d) in let b : looks_from tb f p above (level - 1) ≡ looks_from tb f p (tb.sets s).parent (level - 1) = ap (λ x. looks_from tb f p x (level - 1)) e in
            let z : 1 + looks_from tb f p above (level - 1) ≡ looks_from tb f p s level = omega arith in z)
            ∙ sym (ap (λ b. cond b (looks_from tb f p s level) 0) on))
            (λ d. ap₂ (λ a b. cond a 1 0 + cond b (looks_from tb f p above (level - 1)) 0) on (u.rest_is p q ∙ ap₂ ◌&&◌ on d) ∙ sym (ap (λ b. cond b (looks_from tb f p s level) 0) on ∙ looks_here tb f p s level d)))
            (λ off. ap₂ (λ a b. cond a 1 0 + cond b (looks_from tb f p above (level - 1)) 0) off (u.rest_is p q ∙ ap (λ a. a && is_unmapped (map p)) off) ∙ sym (ap (λ b. cond b (looks_from tb f p s level) 0) off))

-- LAW: at most 64 looks at each level
pub few_looks : (tb : Tables) (f s level m : ℕ) (r : ResolvedPages) → PagesResolved tb f s level m r → r.looks ≤ 64 * (level + 1)
few_looks tb f s level m r h = subst (λ x. x ≤ 64 * (level + 1)) (sym h.looked) (sum_most 64 (level + 1) _ (λ p. test? (pages m p)
    (λ e. rw e (looks_most tb f p s level))
    (λ e. rw e (omega arith))))

-- ---- a range

-- the pages of the mask, as a list
range_pages : (m first n : ℕ) → first + n ≤ 64 → IsRange m first n → PagesOf (from first n) (pages m)
range_pages m first n fit x = record {
  first = first;
  number = n;
  is = refl;
  fit = fit;
  passes = x.inside;
  before = λ p l. x.outside p (omega arith) (λ a b. omega arith);
  behind = λ p l q. x.outside p q (λ a b. omega arith);
}

-- LAW: from a set with its own level
pub range_resolved : (tb : Tables) (f s first n level m : ℕ) (r : ResolvedPages) → first + n ≤ 64 → level ≡ (tb.sets s).level → IsRange m first n
    → PagesResolved tb f s level m r → RangeResolved tb f s first n r
range_resolved tb f s first n level m r fit e x h = record {
  len = h.len;
  found = λ p a b. h.found p (omega arith) ∙ ap (λ c. cond c (resolve_from tb f p s level) hole) (x.inside p a b) ∙ resolve_level tb f p s level e;
  others = λ p q o. h.found p q ∙ ap (λ c. cond c (resolve_from tb f p s level) hole) (x.outside p q o);
  looked = h.looked ∙ sum_pages (range_pages m first n fit x) (λ p. looks_from tb f p s level) ∙ ap (sum_in (from first n)) (fun_ext (λ p. looks_level tb f p s level e));
}
